-- The bytes written by the end of the server are the replies of a session.
use Rattle.std.proofs.Common.{◌≡◌, ℕ, Bool, true, false, List, [], ◌∷◌, ◌++◌, Option, refl, sym, ap, ap₂, ◌∙◌}
use Rattle.std.proofs.Common.{subst, inl, inr, append_assoc}
use Rattle.std.specs.Prelude.{flat_map}
use Rattle.std.specs.Fmt.{digits}
use Rattle.std.specs.List.{AllZip}
use Rattle.serde_json.proofs.OnLiterals.{serde_json_on_literals}
use Rattle.serde_json.specs.Data.{Data}
use Rattle.serde_json.specs.Written.{compact_text}
use Rattle.pc_source.specs.declared.counted.Counted.{Counted}
use Rattle.pc_source.specs.Taken.{TakesAll}
use Rattle.pc_wire.specs.Frames.{frame}
use Rattle.pc_documents.specs.CheckerAnswers.{CheckerAnswer}
use Rattle.pc_session.specs.Exchanges.{Arrival, Exchange, Exchanges}
use Rattle.pc_session.specs.Sent.{IsTextOf, AreSent}
use Rattle.pc_session.specs.Shown.{lost_data}
use Rattle.pc_session.specs.States.{State, fresh}
use Rattle.pc_message_loop.specs.declared.serving.ServingEnd.TheVariants as the_end
use Rattle.pc_message_loop.specs.Runs.{no_memory, Turn, AllReplies, IsServed}
use Rattle.pc_message_loop.specs.Sessions.{messages_of, AreOfSession, IsAnswered, SessionsAreWritten}

-- ---- bytes

each_both : (first rest : List Data) (texts others : List (List ℕ)) → AllZip IsTextOf first texts
    → AllZip IsTextOf rest others → AllZip IsTextOf (first ++ rest) (texts ++ others)
each_both [] rest [] others none each = each
each_both [] rest (text ∷ texts) others none each = absurd none
each_both (reply ∷ replies) rest [] others none each = absurd none
each_both (reply ∷ replies) rest (text ∷ texts) others all each =
    (all.0, each_both replies rest texts others all.1 each)

framed_both : (texts others : List (List ℕ))
    → flat_map frame (texts ++ others) ≡ flat_map frame texts ++ flat_map frame others
framed_both [] others = refl
framed_both (text ∷ texts) others = ap (λ l. frame text ++ l) (framed_both texts others)
    ∙ sym (append_assoc (frame text) (flat_map frame texts) (flat_map frame others))

sent_both : (first rest : List Data) (bytes more : List ℕ) → AreSent first bytes → AreSent rest more
    → AreSent (first ++ rest) (bytes ++ more)
sent_both first rest bytes more one other = record {
  texts = one.texts ++ other.texts;
  each = each_both first rest one.texts other.texts one.each other.each;
  framed = ap₂ (λ a b. a ++ b) one.framed other.framed ∙ sym (framed_both one.texts other.texts);
}

lost_sent : AreSent (lost_data ∷ []) no_memory
unfolding serde_json_on_literals digits
lost_sent = record {
  texts = compact_text lost_data ∷ [];
  each = (record { compact = λ _. refl; reads_back = refl }, tt);
  framed = refl;
}

module _ (answers : List ℕ → CheckerAnswer → Type 0) where
  -- ---- runs

  -- a turn is an exchange whose replies were sent
  record IsExchange (old : State) (message sent : List ℕ) (new : State) : Type 0 where
    lost : Bool
    replies : List Data
    exchange : Exchange answers lost message old replies new
    are_sent : AreSent replies sent

  of_turn : (old new : State) (message sent : List ℕ) → Turn answers old message sent new
      → IsExchange old message sent new
  of_turn old new message sent (inl it) = record {
    lost = false;
    replies = it.1.replies;
    exchange = inl (it.0, it.1.step);
    are_sent = it.1.are_sent;
  }
  of_turn old new message sent (inr (inl it)) = record {
    lost = false;
    replies = it.1.replies;
    exchange = inr (it.0, it.1.refused);
    are_sent = it.1.are_sent;
  }
  of_turn old new message sent (inr (inr it)) = record {
    lost = true;
    replies = lost_data ∷ [];
    exchange = record { replies_are = refl; new_is = it.forgets };
    are_sent = subst (λ b. AreSent (lost_data ∷ []) b) (sym it.told) lost_sent;
  }

  -- a run is a list of exchanges whose replies were sent
  record AreExchanges (old : State) (messages : List (List ℕ)) (sent : List ℕ) (new : State) : Type 0 where
    arrivals : List Arrival
    came : messages_of arrivals ≡ messages
    replies : List Data
    exchanges : Exchanges answers old arrivals replies new
    are_sent : AreSent replies sent

  of_run : (messages : List (List ℕ)) (old new : State) (sent : List ℕ) → AllReplies answers old messages sent new
      → AreExchanges old messages sent new
  of_run [] old new sent run = record {
    arrivals = [];
    came = refl;
    replies = [];
    exchanges = (refl, run.1);
    are_sent = record { texts = []; each = tt; framed = run.0 };
  }
  of_run (message ∷ messages) old new sent run =
      let first = of_turn old run.2 message run.0 run.4 in
      let rest = of_run messages run.2 new run.1 run.5 in
      let both : AreSent (first.replies ++ rest.replies) (run.0 ++ run.1) =
      sent_both first.replies rest.replies run.0 run.1 first.are_sent rest.are_sent in
      record {
        arrivals = record { message = message; lost = first.lost } ∷ rest.arrivals;
        came = ap (λ l. message ∷ l) rest.came;
        replies = first.replies ++ rest.replies;
        exchanges = (first.replies, rest.replies, run.2, first.exchange, rest.exchanges, refl);
        are_sent = subst (λ b. AreSent (first.replies ++ rest.replies) b) (sym run.6) both;
      }

  of_session : (messages : List (List ℕ)) (sent : List ℕ) (session : State) → AllReplies answers fresh messages sent session
      → AreOfSession answers messages sent
  of_session messages sent session run =
      let are = of_run messages fresh session sent run in
      record {
        arrivals = are.arrivals;
        came = are.came;
        replies = are.replies;
        session = session;
        exchanges = are.exchanges;
        are_sent = are.are_sent;
      }

  module _ {R W : Type 0} (remaining : R → Option (List ℕ)) (contents : W → Option (List ℕ)) where
    -- ---- ends

    all_written : (input rest : Counted R) (output after : Counted W) (final : State)
        → IsServed answers remaining contents input rest output after final
        → IsAnswered answers remaining contents input (λ bytes. TakesAll contents bytes output after)
    all_written input rest output after final served = record {
      messages = served.messages;
      given = served.bytes;
      rest = rest;
      gives = served.given;
      framed = served.framed;
      bytes = served.sent;
      of_session = of_session served.messages served.sent final served.run;
      written = served.taken;
    }

    pub are_written : SessionsAreWritten answers remaining contents
    are_written input rest output after (the_end.Exited status) it =
        all_written input rest output after it.0 it.1
    are_written input rest output after the_end.Ended it = all_written input rest output after it.0 it.1
    are_written input rest output after (the_end.Broken fault) it = all_written input it.1 output after it.0 it.2
    are_written input rest output after the_end.Failed cut = record {
      messages = cut.messages;
      given = cut.bytes;
      rest = cut.read;
      gives = cut.given;
      framed = cut.framed;
      bytes = cut.sent;
      of_session = of_session cut.messages cut.sent cut.final cut.run;
      written = cut.taken;
    }
