-- One more message of a run.
use Rattle.std.proofs.Common.{◌≡◌, ℕ, List, [], ◌∷◌, ◌++◌, Option, None, refl, sym, ap, ◌∙◌, subst, append_assoc}
use Rattle.std.proofs.Common.{append-nil, ◌+◌, length, take, arith, inl, inr}
use Rattle.std.proofs.lemmas.List.{take_all}
use Rattle.std.proofs.Math.Seq.{take-append-add}
use Rattle.std.proofs.KnownBytes.{Consumes-nil, Consumes-trans, Appends-nil, Appends-trans, Appends-kept}
use Rattle.std.specs.Io.KnownBytes.{Consumes, Appends, Keeps}
use Rattle.pc_source.specs.declared.counted.Counted.{Counted}
use Rattle.pc_wire.specs.Frames.{IsFrame, AreFrames, IsShort, IsLong}
use Rattle.pc_wire.specs.Faults.{Gives, GivesFrame}
use Rattle.pc_documents.specs.CheckerAnswers.{CheckerAnswer}
use Rattle.pc_session.specs.Sent.{SendsStep, SendsRefusal}
use Rattle.pc_session.specs.Sessions.{forgot}
use Rattle.pc_session.specs.States.{State, fresh}
use Rattle.pc_message_loop.specs.declared.serving.ServingEnd.{ServingEnd}
use Rattle.pc_message_loop.specs.declared.serving.ServingEnd.TheVariants as the_end
use Rattle.pc_message_loop.specs.Runs.{no_memory, ended_with, Turn, AllReplies, IsBegun, IsTurned, IsServed, IsCutShort, TakesSome}
use Rattle.pc_message_loop.specs.Runs.{OnStop, OnEnd}

-- bytes that are framed messages, and one more
frames_more : (bytes : List ℕ) (messages : List (List ℕ)) (more message : List ℕ) → AreFrames bytes messages
    → IsFrame more message → AreFrames (bytes ++ more) (messages ++ message ∷ [])
frames_more bytes [] more message none one = (more, [], ap (λ l. l ++ more) none ∙ sym (append-nil more), one, refl)
frames_more bytes (first ∷ others) more message frames one = (
  frames.0,
  frames.1 ++ more,
  ap (λ l. l ++ more) frames.2 ∙ append_assoc frames.0 frames.1 more,
  frames.3,
  frames_more frames.1 others more message frames.4 one,
)

module _ {W : Type 0} (contents : W → Option (List ℕ)) where
  -- all bytes are a beginning of them
  all_some : (output after : Counted W) (bytes : List ℕ)
      → Appends (contents output.device) (contents after.device) bytes → TakesSome contents bytes output after
  all_some output after bytes taken =
      let Taken : List ℕ → Type 0 = λ l. Appends (contents output.device) (contents after.device) l in
      (length bytes, subst Taken (sym (take_all (length bytes) bytes (omega arith))) taken)

  -- nothing was written
  pub some_none : (output : Counted W) (bytes : List ℕ) → TakesSome contents bytes output output
  some_none output bytes = (0, Appends-nil (contents output.device))

  -- all was written, and then the device keeps it
  pub some_all : (output middle after : Counted W) (bytes : List ℕ)
      → Appends (contents output.device) (contents middle.device) bytes
      → Keeps (contents middle.device) (contents after.device) → TakesSome contents bytes output after
  some_all output middle after bytes taken kept =
      all_some output after bytes (Appends-kept _ _ _ bytes taken kept)

  -- all of some bytes were written, and a beginning of more
  some_more : (output middle after : Counted W) (first bytes : List ℕ)
      → Appends (contents output.device) (contents middle.device) first → TakesSome contents bytes middle after
      → TakesSome contents (first ++ bytes) output after
  some_more output middle after first bytes all some =
      let Taken : List ℕ → Type 0 = λ l. Appends (contents output.device) (contents after.device) l in (
        length first + some.0,
        subst Taken (sym (take-append-add first bytes some.0)) (Appends-trans _ _ _ first (take some.0 bytes) all some.1),
      )

module _ (answers : List ℕ → CheckerAnswer → Type 0) where
  -- a run, and one message more
  pub run_more : (old : State) (messages : List (List ℕ)) (sent : List ℕ) (middle : State) (message more : List ℕ)
      (new : State) → AllReplies answers old messages sent middle → ended_with middle.stage ≡ None
      → Turn answers middle message more new → AllReplies answers old (messages ++ message ∷ []) (sent ++ more) new
  run_more old [] sent middle message more new run going turn =
      let Goes : State → Type 0 = λ s. ended_with s.stage ≡ None in
      let Turns : State → Type 0 = λ s. Turn answers s message more new in (
        more,
        [],
        new,
        subst Goes run.1 going,
        subst Turns run.1 turn,
        (refl, refl),
        ap (λ l. l ++ more) run.0 ∙ sym (append-nil more),
      )
  run_more old (first ∷ others) sent middle message more new run going turn = (
    run.0,
    run.1 ++ more,
    run.2,
    run.3,
    run.4,
    run_more run.2 others run.1 middle message more new run.5 going turn,
    ap (λ l. l ++ more) run.6 ∙ append_assoc run.0 run.1 more,
  )

  module _ {W : Type 0} (contents : W → Option (List ℕ)) where
    -- of the replies of a step a beginning was written
    pub some_of_step : (old new : State) (message bytes : List ℕ) (output after : Counted W) → IsShort message
        → SendsStep answers old message bytes new → TakesSome contents bytes output after
        → IsBegun answers contents message old output after
    some_of_step old new message bytes output after short sends some =
        record { sent = bytes; new = new; turn = inl (short, sends); taken = some }

    -- of the refusal of a message a beginning was written
    pub some_of_refusal : (old new : State) (message bytes : List ℕ) (output after : Counted W) → IsLong message
        → SendsRefusal old bytes new → TakesSome contents bytes output after
        → IsBegun answers contents message old output after
    some_of_refusal old new message bytes output after long sends some =
        record { sent = bytes; new = new; turn = inr (inl (long, sends)); taken = some }

    -- memory was wanting, and of the word of it a beginning was written
    pub some_of_word : (old : State) (output after : Counted W) → TakesSome contents no_memory output after
        → (message : List ℕ) → IsBegun answers contents message old output after
    some_of_word old output after some message = record {
      sent = no_memory;
      new = forgot old;
      turn = inr (inr (record { forgets = refl; told = refl }));
      taken = some;
    }

  module _ {R W : Type 0} (remaining : R → Option (List ℕ)) (contents : W → Option (List ℕ)) where
    -- a message was read, and of what it comes to a beginning was written
    pub halted : (old : State) (message : List ℕ) (input rest : Counted R) (output after : Counted W)
        → GivesFrame remaining message input rest → IsBegun answers contents message old output after
        → OnStop answers remaining contents old input rest output after the_end.Failed
    halted old message input rest output after frame begun =
        inr (record { message = message; bytes = frame.0; given = frame.1; framed = frame.2; begun = begun })

    -- no message was read yet
    pub served_none : (input : Counted R) (output : Counted W)
        → IsServed answers remaining contents input input output output fresh
    served_none input output = record {
      messages = [];
      bytes = [];
      sent = [];
      given = (Consumes-nil _, refl);
      framed = refl;
      run = (refl, refl);
      taken = (Appends-nil _, refl);
    }

    -- messages were answered, and one more is
    pub served_more : (input between rest : Counted R) (output middle after : Counted W) (old new : State)
        → IsServed answers remaining contents input between output middle old → ended_with old.stage ≡ None
        → IsTurned answers remaining contents old new between rest middle after
        → IsServed answers remaining contents input rest output after new
    served_more input between rest output middle after old new served going turned = record {
      messages = served.messages ++ turned.message ∷ [];
      bytes = served.bytes ++ turned.bytes;
      sent = served.sent ++ turned.written.sent;
      given = (Consumes-trans _ _ _ _ _ served.given.0 turned.given.0, turned.given.1 ∙ served.given.1);
      framed = frames_more _ _ _ _ served.framed turned.framed;
      run = run_more _ _ _ _ _ _ _ served.run going turned.written.turn;
      taken = (Appends-trans _ _ _ _ _ served.taken.0 turned.written.taken.0, turned.written.taken.1 ∙ served.taken.1);
    }

    -- messages were answered, and no more are
    pub cut_after : (input between : Counted R) (output middle : Counted W) (final : State)
        → IsServed answers remaining contents input between output middle final
        → IsCutShort answers remaining contents input output middle
    cut_after input between output middle final served = record {
      messages = served.messages;
      bytes = served.bytes;
      sent = served.sent;
      read = between;
      final = final;
      given = served.given;
      framed = served.framed;
      run = served.run;
      taken = all_some contents output middle served.sent served.taken.0;
    }

    -- the input ended after what was read, and nothing more was written
    served_last : (input between rest : Counted R) (output middle after : Counted W) (final : State)
        → IsServed answers remaining contents input between output middle final → Gives remaining [] between rest
        → after ≡ middle → IsServed answers remaining contents input rest output after final
    served_last input between rest output middle after final served given same =
        let Given : List ℕ → Type 0 = λ l. Consumes (remaining input.device) (remaining rest.device) l in
        let Served : Counted W → Type 0 = λ w. IsServed answers remaining contents input rest output w final in
        subst Served (sym same) (record {
          messages = served.messages;
          bytes = served.bytes;
          sent = served.sent;
          given = (
            subst Given (append-nil served.bytes) (Consumes-trans _ _ _ _ _ served.given.0 given.0),
            given.1 ∙ served.given.1,
          );
          framed = served.framed;
          run = served.run;
          taken = served.taken;
        })

    -- after messages that were answered, none was, for this reason
    pub stopped : (input between rest : Counted R) (output middle after : Counted W) (final : State) (end : ServingEnd)
        → IsServed answers remaining contents input between output middle final → ended_with final.stage ≡ None
        → OnStop answers remaining contents final between rest middle after end
        → OnEnd answers remaining contents input rest output after end
    stopped input between rest output middle after final (the_end.Exited status) served going stop = absurd stop
    stopped input between rest output middle after final the_end.Ended served going stop =
        (final, served_last input between rest output middle after final served stop.1 stop.0, going, stop.2)
    stopped input between rest output middle after final (the_end.Broken fault) served going stop =
        let Served : Counted W → Type 0 = λ w. IsServed answers remaining contents input between output w final in
        (final, between, subst Served (sym stop.0) served, going, stop.1)
    stopped input between rest output middle after final the_end.Failed served going (inl same) =
        let Cut : Counted W → Type 0 = λ w. IsCutShort answers remaining contents input output w in
        subst Cut (sym same) (cut_after input between output middle final served)
    stopped input between rest output middle after final the_end.Failed served going (inr halted) = record {
      messages = served.messages ++ halted.message ∷ [];
      bytes = served.bytes ++ halted.bytes;
      sent = served.sent ++ halted.begun.sent;
      read = rest;
      final = halted.begun.new;
      given = (Consumes-trans _ _ _ _ _ served.given.0 halted.given.0, halted.given.1 ∙ served.given.1);
      framed = frames_more _ _ _ _ served.framed halted.framed;
      run = run_more _ _ _ _ _ _ _ served.run going halted.begun.turn;
      taken = some_more contents output middle after served.sent halted.begun.sent served.taken.0 halted.begun.taken;
    }
