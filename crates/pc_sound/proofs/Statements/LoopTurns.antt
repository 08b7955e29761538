-- Loops, turn by turn: each turn begins at the head, and the loop is left at the head or at a `break`.
use Rattle.std.proofs.Common.{◌≡◌, ℕ, List, [], ◌∷◌, refl, sym, ap, ◌∙◌, subst, inl, inr, Contains, eq-eqb}
use Rattle.std.specs.Prelude.{Bool as Test, true, false, ◌||◌, Option, Some, None}
use Rattle.std.specs.List.{list_any}
use Rattle.std.proofs.lemmas.Option.{none-some, same_Some}
use Rattle.std.proofs.lemmas.Bool.{or_right}
use Rattle.pc_source.specs.declared.place.Place.{Place}
use Rattle.pc_tree.specs.Tree.{Name, Expr, while_loop, Stmts, no_stmts, more_stmts, Module}
use Rattle.pc_tree.specs.Stopping.{bound_by, loose_in}
use Rattle.pc_scope.specs.declared.resolution.NameMeaning.{NameMeaning}
use Rattle.pc_scope.specs.declared.resolution.NameMeaning.TheVariants as meaning
use Rattle.pc_scope.specs.Resolution.{index_of}
use Rattle.pc_types.specs.Tree.{Tree}
use Rattle.pc_flow.specs.Environment.{Env, declared_type, join_envs_onto, loop_head}
use Rattle.pc_flow.specs.Narrowing.{narrow}
use Rattle.pc_rules.specs.Context.{Context}
use Rattle.pc_rules.specs.Labels.{Labels, Finds}
use Rattle.pc_rules.specs.Lawful.{Lawful}
use Rattle.pc_module_rules.specs.StatementLabels.{SuiteLabels, breaks_in_suite}
use Rattle.pc_module_rules.specs.Statements.{NamesBound, is_local_number, binds_number, LawfulSuite, SuiteFinds}
use Rattle.pc_value.specs.Value.{Value, Gives}
use Rattle.pc_value.specs.Texts.{same_text}
use Rattle.pc_machine.specs.State.{State, Frame}
use Rattle.pc_machine.specs.Names.{local_by_name, with_local}
use Rattle.pc_machine.specs.Steps.{Parts, StatementEnd, next, breaking, continuing, leaves}
use Rattle.pc_machine.specs.Free.{Step, free}
use Rattle.pc_machine.specs.Evaluation.{exec_node, exec_body, after_turn, while_turn}
use Rattle.pc_sound.specs.Values.{HeapTyping, HasType, Extends}
use Rattle.pc_sound.proofs.Steps.BoundLocals.{HasLocals}
use Rattle.pc_sound.proofs.Steps.Judgment.{Around, IsWellTyped, IsContextOf, Leads, IsWellTypedAnd, Ways, Reaches}
use Rattle.pc_sound.proofs.Steps.Judgment.{FlowEnds, Lasts}
use Rattle.pc_sound.proofs.TruthValues.{not_both}
use Rattle.pc_tree.proofs.Among.{among_first, none_among}
use Rattle.pc_sound.proofs.Values.ValuesFlow.{later, extends_refl, extends_through}
use Rattle.pc_sound.proofs.Expressions.SimpleExpressions.{Covered}
use Rattle.pc_sound.proofs.Regular.KeyedLabels.{Keyed, SuiteKeyed}
use Rattle.pc_sound.proofs.Expressions.Conditions.{Decides}
use Rattle.pc_sound.proofs.Steps.JoinedLocals.{onto_hold}
use Rattle.pc_sound.proofs.Statements.LoopHeads.{into_head, IsKept, again_at_head}
use Rattle.pc_sound.proofs.Steps.Frames.{local_bound, local_kept, same_is, differs_not}
use Rattle.pc_sound.proofs.Steps.LeadingSteps.{leads_bind, leads_comes, leads_charge, leads_from, leads_to, leads_each}
use Rattle.pc_sound.proofs.Statements.WaysOut.{Runs, flow_wider, ways_out, GoodExec, GoodStmt}
use Rattle.pc_sound.proofs.Statements.SimpleStatements.{decided}
use Rattle.pc_sound.proofs.Statements.Branches.{some_holds, stands_with}

-- a local that is bound in the body is told by its number
pub number_bound : (resolve : List ℕ → NameMeaning) (names : List Name) (n : Name) (x : ℕ) → Contains names n
    → resolve n.text ≡ meaning.Local x → binds_number resolve names x ≡ true
number_bound resolve [] n x among is = absurd (none_among n among)
number_bound resolve (y ∷ ys) n x among is = elim (among_first y ys n among) [
  | inl same ↦ ap (λ b. b || list_any (λ z. is_local_number x (resolve z.text)) ys)
      (ap (λ z. is_local_number x (resolve z.text)) same ∙ ap (is_local_number x) is ∙ eq-eqb x x refl)
  | inr others ↦ or_right (is_local_number x (resolve y.text)) (list_any (λ z. is_local_number x (resolve z.text)) ys)
      (number_bound resolve ys n x others is)
]

module _ (around : Around) (ctx : Context) (fits : IsContextOf around ctx) where
  -- a turn keeps the locals that the loop found at its head
  pub record Kept (bound : ℕ → Test) (k : HeapTyping) (old : Frame) (k' : HeapTyping) (new : Frame) : Type 0 where
    pub grows : Extends k k'
    pub each : (word : List ℕ) (x : ℕ) (v : Value) → index_of word around.names ≡ Some x
        → local_by_name word old ≡ Some (Some v) → HasType around.bases k (declared_type around.declared x) v
        → IsKept around.bases around.names around.declared bound [] k' old new word x

  pub kept_still : (bound : ℕ → Test) (k : HeapTyping) (frame : Frame) → Kept bound k frame k frame
  kept_still bound k frame = record {
    grows = extends_refl k;
    each = λ word x v named is has.
        record { value = v; is = is; always = has; same = λ e. refl };
  }

  pub kept_grow : (bound : ℕ → Test) (k k' k'' : HeapTyping) (old new : Frame) → Extends k' k''
      → Kept bound k old k' new → Kept bound k old k'' new
  kept_grow bound k k' k'' old new grows h = record {
    grows = extends_through h.grows grows;
    each = λ word x v named is has. let i = h.each word x v named is has in
        record {
          value = i.value;
          is = i.is;
          always = later around.bases grows (declared_type around.declared x) i.value
              i.always;
          same = i.same;
        };
  }

  pub kept_bind : (bound : ℕ → Test) (k k' : HeapTyping) (old new : Frame) (word : List ℕ) (x : ℕ) (v : Value)
      → index_of word around.names ≡ Some x → bound x ≡ true → HasType around.bases k' (declared_type around.declared x)
      v → Kept bound k old k' new → Kept bound k old k' (with_local word v new)
  kept_bind bound k k' old new word x v named binds has h = record { grows = h.grows; each = each }
    where
      each : (w : List ℕ) (y : ℕ) (u : Value) → index_of w around.names ≡ Some y → local_by_name w old ≡ Some (Some u)
          → HasType around.bases k (declared_type around.declared y) u
          → IsKept around.bases around.names around.declared bound [] k' old (with_local word v new) w y
      each w y u is_named is had = go (same_text word w) refl
        where
          go : (b : Test) → same_text word w ≡ b → IsKept around.bases around.names around.declared bound [] k' old
              (with_local word v new) w y
          go true t =
              let same = same_is word w t in
              let i = h.each w y u is_named is had in
              let number : x ≡ y = same_Some _ _ (sym named ∙ ap (λ z. index_of z around.names) same ∙ is_named) in
              record {
                value = v;
                is = subst (λ z. local_by_name z (with_local word v new) ≡ Some (Some v)) same
                    (local_bound word v new (Some i.value) (subst (λ z. local_by_name z new ≡ Some (Some i.value))
                    (sym same) i.is));
                always = subst (λ z. HasType around.bases k' (declared_type around.declared z) v) number has;
                same = λ e. absurd (not_both (subst (λ z. bound z ≡ true) number binds) e);
              }
          go false t =
              let i = h.each w y u is_named is had in
              let kept = local_kept word w v new (differs_not word w t) in
              record { value = i.value; is = kept ∙ i.is; always = i.always; same = λ e. kept ∙ i.same e }

  -- the facts known at a head, and those that the turn keeps
  abbrev pub AlsoKept : (bound : ℕ → Test) (k : HeapTyping) (old : Frame) (more : HeapTyping → Frame → Type 0)
      → HeapTyping → Frame → Type 0
  AlsoKept bound k old more k' new = more k' new × Kept bound k old k' new

  pub also_lasts : (names all : List Name) (k : HeapTyping) (old : Frame) (more : HeapTyping → Frame → Type 0)
      → ((n : Name) → Contains names n → Contains all n) → Lasts around ctx all more
      → Lasts around ctx names (AlsoKept (binds_number ctx.resolve all) k old more)
  also_lasts names all k old more within lasts = record {
    local = λ n c. lasts.local n (within n c);
    grow = λ j j' frame grows h. (
      lasts.grow j j' frame grows h.0,
      kept_grow (binds_number ctx.resolve all) k j j' old
          frame grows h.1,
    );
    bind = λ n x v j frame c is has of_type h. (
      lasts.bind n x v j frame (within n c) is has of_type h.0,
      kept_bind (binds_number ctx.resolve all) k j old frame n.text x v (fits.local n.text x is)
          (number_bound ctx.resolve all n x (within n c) is) of_type h.1,
    );
  }

  -- at the head again
  pub head_again : (bound : ℕ → Test) (env head : Env) (k k' : HeapTyping) (s s' : State)
      → head ≡ loop_head bound around.declared env → HasLocals around.bases k around.names around.declared head s.frame
      → Kept bound k s.frame k' s'.frame → IsWellTyped around [] k' s' → IsWellTyped around head k' s'
  head_again bound env head k k' s s' is locals kept st =
      stands_with around ctx fits [] head k' s' st (subst (λ e. HasLocals around.bases k' around.names around.declared e
      s'.frame) (sym is)
      (again_at_head around.bases around.names around.declared bound env k k' s.frame s'.frame kept.grows
      (subst (λ e. HasLocals around.bases k around.names around.declared e s.frame) is locals)
      (λ word x v named at has. let i = kept.each word x v named at has in
      record { value = i.value; is = i.is; always = i.always; same = i.same })))

  module _ (m : Module) (returned : Tree) where
    -- the ways out of a loop: from its head, or at a `break`
    abbrev pub loop_ways : Env → List Env → Ways
    loop_ways after brs = record {
      out = λ e. Some (join_envs_onto ctx.bases around.declared after brs) ≡ Some e;
      breaks = λ e. ⊥;
      loose = λ p. ⊥;
      returned = returned;
    }

    -- a loop is left from its head
    pub left_at_head : (after : Env) (brs : List Env) (k : HeapTyping) (s : State) → IsWellTyped around after k s
        → Reaches around (loop_ways after brs).out k s
    left_at_head after brs k s st = record {
      env = join_envs_onto ctx.bases around.declared after brs;
      is = refl;
      stands = stands_with around ctx fits after _ k s st
          (subst (λ b. HasLocals around.bases k around.names around.declared
          (join_envs_onto b around.declared after brs) s.frame) fits.bases
          (onto_hold around.bases fits.smaller k around.names around.declared s.frame after brs (inl st.locals)));
    }

    -- a loop is left at a `break`
    pub left_at_break : (after : Env) (brs : List Env) (env : Env) (k : HeapTyping) (s : State) → Contains brs env
        → IsWellTyped around env k s → Reaches around (loop_ways after brs).out k s
    left_at_break after brs env k s among st = record {
      env = join_envs_onto ctx.bases around.declared after brs;
      is = refl;
      stands = stands_with around ctx fits env _ k s st
          (subst (λ b. HasLocals around.bases k around.names around.declared
          (join_envs_onto b around.declared after brs) s.frame) fits.bases
          (onto_hold around.bases fits.smaller k around.names around.declared s.frame after brs
          (inr (some_holds around ctx fits k s brs env among st.locals))));
    }

    -- the suite of a loop, which an empty one is too
    pub body_runs : (exec : Stmts → Step StatementEnd) → GoodExec around ctx m returned exec
        → (seen : NamesBound) (env : Env) (b : Stmts) (labels : SuiteLabels b) (out : Option Env)
        → LawfulSuite m ctx around.declared returned seen env b labels out
        → Covered around (SuiteFinds m ctx seen b labels) → SuiteKeyed b labels
        → Runs around ctx env (ways_out around ctx m returned out (breaks_in_suite b labels) (loose_in b)) (bound_by b)
        (exec_body Step free exec b)
    body_runs exec good seen env no_stmts labels out law covered keyed more lasts =
        leads_bind around _ _ _ (λ k u s. IsWellTypedAnd around env more k s) _ (leads_charge around _)
        λ u. leads_comes around _ (Gives next) _ λ k s at. (
          record { env = env; is = law; stands = at.stands },
          at.known,
        )
    body_runs exec good seen env (more_stmts s rest) labels out law covered keyed more lasts =
        good.runs seen env (more_stmts s rest) labels out law covered keyed more lasts

    -- after the suite: the next turn from the head, or the way out
    pub turn_ends : (bound : ℕ → Test) (env head after : Env) (brs : List Env) (loose : List Place) (out : Option Env)
        (k : HeapTyping) (s : State) (more : HeapTyping → Frame → Type 0) (again : Step StatementEnd)
        → head ≡ loop_head bound around.declared env → HasLocals around.bases k around.names around.declared head
        s.frame
        → Leads around (λ j t. IsWellTypedAnd around head more j t) again
        (λ j flow t. FlowEnds around (loop_ways after brs) j flow t × more j t.frame)
        → (flow : StatementEnd) → Leads around (λ j t. FlowEnds around (ways_out around ctx m returned out brs loose) j
        flow t × AlsoKept bound k s.frame more j t.frame) (after_turn Step free flow again)
        (λ j f t. FlowEnds around (loop_ways after brs) j f t × more j t.frame)
    turn_ends bound env head after brs loose out k s more again is locals further next =
        leads_from around _ (λ j t. IsWellTypedAnd around head more j t) again _
        (λ j t b. record {
          stands = head_again bound env head k j s t is locals b.1.1
              (stands_with around ctx fits b.0.env [] j t b.0.stands
              (record { each = λ word x u named e. absurd (none-some u e) }));
          known = b.1.0;
        }) further
    turn_ends bound env head after brs loose out k s more again is locals further continuing =
        leads_from around _ (λ j t. IsWellTypedAnd around head more j t) again _
        (λ j t b. record { stands = head_again bound env head k j s t is locals b.1.1 b.0.0; known = b.1.0 })
        further
    turn_ends bound env head after brs loose out k s more again is locals further breaking =
        leads_comes around _ (Gives next) _ λ j t b. (
          left_at_break after brs b.0.0.env j t b.0.0.is b.0.0.stands,
          b.1.0,
        )
    turn_ends bound env head after brs loose out k s more again is locals further (leaves v) =
        leads_comes around _ (Gives (leaves v)) _ λ j t b. (b.0, b.1.0)

    -- ---- `while`

    -- the turns of a `while` run as it is labelled
    pub record GoodAgain (again : Expr → Stmts → Step StatementEnd) : Type 1 where
      pub runs : (seen : NamesBound) (c : Expr) (b : Stmts) (cm : Labels c) (bm : SuiteLabels b) (out : Option Env)
          (env head : Env) → head ≡ loop_head (binds_number ctx.resolve (bound_by b)) around.declared env
          → Lawful ctx around.declared head None c cm → LawfulSuite m ctx around.declared returned seen
          (narrow ctx.bases around.declared ctx.resolve true c head) b bm out → Covered around (Finds c cm)
          → Covered around (SuiteFinds m ctx seen b bm) → Keyed c cm → SuiteKeyed b bm
          → Runs around ctx head (loop_ways (narrow ctx.bases around.declared ctx.resolve false c head)
          (breaks_in_suite b bm)) (bound_by b) (again c b)

    -- one turn, where the further ones run
    pub while_turn_runs : (eval : Expr → Step Value) (exec : Stmts → Step StatementEnd)
        (again : Expr → Stmts → Step StatementEnd) → Decides around ctx eval → GoodExec around ctx m returned exec
        → GoodAgain again → GoodAgain (λ c b. while_turn Step free eval exec (again c b) c b)
    while_turn_runs eval exec again decides good further = record {
      runs = λ seen c b cm bm out env head is law body_law covered body_covered keyed body_keyed more lasts.
          leads_each around _ _ _ λ k s at.
          leads_from around _ (λ j t. IsWellTypedAnd around head (AlsoKept (binds_number ctx.resolve (bound_by b)) k
          s.frame more) j t) _ _
          (λ j t e. start (binds_number ctx.resolve (bound_by b)) head more k s j t e.0 e.1 at)
          (decided around ctx fits eval decides (AlsoKept (binds_number ctx.resolve (bound_by b)) k s.frame more)
          (also_lasts (bound_by b) (bound_by b) k s.frame more (λ n c. c) lasts).grow head c cm _ _ _ law covered
          keyed
          (leads_bind around _ _ _ (λ j flow t. FlowEnds around (ways_out around ctx m returned out
          (breaks_in_suite b bm) (loose_in b)) j flow t × AlsoKept (binds_number ctx.resolve (bound_by b)) k s.frame
          more j t.frame) _
          (body_runs exec good seen (narrow ctx.bases around.declared ctx.resolve true c head) b bm out body_law
          body_covered body_keyed (AlsoKept (binds_number ctx.resolve (bound_by b)) k s.frame more)
          (also_lasts (bound_by b) (bound_by b) k s.frame more (λ n c. c) lasts))
          (turn_ends (binds_number ctx.resolve (bound_by b)) env head
          (narrow ctx.bases around.declared ctx.resolve false c head) (breaks_in_suite b bm) (loose_in b) out k s
          more (again c b) is at.stands.locals
          (further.runs seen c b cm bm out env head is law body_law covered body_covered keyed body_keyed more lasts)))
          (leads_comes around _ (Gives next) _ λ j t e. (
            left_at_head (narrow ctx.bases around.declared ctx.resolve false c head) (breaks_in_suite b bm) j t
                e.stands,
            e.known.0,
          )));
    }
      where
        start : (bound : ℕ → Test) (head : Env) (more : HeapTyping → Frame → Type 0) (k : HeapTyping) (s : State)
            (j : HeapTyping) (t : State) → j ≡ k → t ≡ s → IsWellTypedAnd around head more k s
            → IsWellTypedAnd around head (AlsoKept bound k s.frame more) j t
        start bound head more k s j t e f at = subst (λ i. IsWellTypedAnd around head (AlsoKept bound k s.frame more) i
            t) (sym e) (subst (λ u. IsWellTypedAnd around head (AlsoKept bound k s.frame more) k u) (sym f)
            (record { stands = at.stands; known = (at.known, kept_still bound k s.frame) }))

    -- from the environment before it the loop comes to its head
    pub while_runs : (parts : Parts Step) → GoodAgain parts.again → (p : Place) (c : Expr) (b : Stmts)
        → GoodStmt around ctx m returned (while_loop p c b) (exec_node Step free parts (while_loop p c b))
    while_runs parts further p c b = record {
      runs = λ seen env labels out law covered keyed more lasts.
          leads_from around _ (λ k s. IsWellTypedAnd around labels.head more k s) _ _
          (λ k s at. record {
            stands = stands_with around ctx fits env labels.head k s at.stands
                (subst (λ e. HasLocals around.bases k around.names around.declared e s.frame) (sym law.head)
                (into_head around.bases around.names around.declared (binds_number ctx.resolve (bound_by b)) env k
                s.frame
                at.stands.locals));
            known = at.known;
          })
          (leads_to around _ _
          (λ k flow s. FlowEnds around (loop_ways (narrow ctx.bases around.declared ctx.resolve false c labels.head)
          (breaks_in_suite b labels.body)) k flow s × more k s.frame) _
          (λ k flow s h. (
            flow_wider around ctx k s (loop_ways (narrow ctx.bases around.declared ctx.resolve false c labels.head)
                (breaks_in_suite b labels.body)) (ways_out around ctx m returned out [] []) refl (λ e i. law.after ∙ i)
                (λ e i. absurd i) (λ q i. absurd i) flow h.0,
            h.1,
          ))
          (further.runs seen c b labels.condition labels.body labels.out env labels.head law.head law.condition law.body
          (λ f h. covered f (inl h)) (λ f h. covered f (inr h)) keyed.0 keyed.1 more lasts));
    }
