-- Conditions: their values, and the narrowing of locals by their truth.
use Rattle.std.proofs.Common.{◌≡◌, ℕ, zero, suc, List, [], ◌∷◌, refl, sym, ap, ◌∙◌, subst, inl, inr}
use Rattle.std.specs.Prelude.{◌⊎◌, Bool as Truth, true, false, not, if◌then◌else◌, codes, bytes_eq, Option, Some, None}
use Rattle.std.specs.List.{list_any}
use Rattle.std.proofs.lemmas.Slice.Eq.{bytes_eq-Decides}
use Rattle.std.proofs.lemmas.Bool.{and_parts, or_parts}
use Rattle.pc_source.specs.declared.place.Place.{Place}
use Rattle.pc_source.specs.ReservedNames.{is_reserved}
use Rattle.pc_tree.specs.declared.code.Code.{Code}
use Rattle.pc_tree.specs.declared.code.Code.TheVariants.{A7}
use Rattle.pc_tree.specs.Tree.{Exprs, Keywords, no_exprs, more_exprs, no_keywords, Name, Expr, name, number, text}
use Rattle.pc_tree.specs.Tree.{truth, nothing, tuple, list, dict, negative, binary, compare, attribute, index, negation}
use Rattle.pc_tree.specs.Tree.{is_none, is_not_none, conjunction, disjunction, call}
use Rattle.pc_scope.specs.Expressions.{is_instance_test}
use Rattle.pc_scope.specs.declared.resolution.NameMeaning.{NameMeaning}
use Rattle.pc_scope.specs.declared.resolution.NameMeaning.TheVariants as meaning
use Rattle.pc_types.specs.Tree.{Tree, Any, Object, Int, Bool, Str}
use Rattle.pc_types.specs.Tree as tree
use Rattle.pc_types.specs.Shape.{members}
use Rattle.pc_flow.specs.Environment.{Env, current, join_or_object}
use Rattle.pc_flow.specs.Narrowing.{Tested, for_none, for_type, for_list, as_local, local_named, test_named}
use Rattle.pc_flow.specs.Narrowing.{first_argument, second_argument, local_of_argument, test_of_argument}
use Rattle.pc_flow.specs.Narrowing.{narrow_current, narrow_local, narrow_instance, narrow}
use Rattle.pc_flow.specs.Narrowing as narrowing
use Rattle.pc_rules.specs.Context.{Context}
use Rattle.pc_rules.specs.Labels.{Labels, type_of, item_types, Finds, IsFoundAt}
use Rattle.pc_rules.specs.Lawful.{Lawful, whole_call_label}
use Rattle.pc_rules.specs.Calls.{is_object_or_any, any_list_codes, current_of, test_codes, test_label}
use Rattle.pc_value.specs.Value as value
use Rattle.pc_value.specs.Value.{Value, boolean, Out, Gives, Stops, Cut, Heap, is_true}
use Rattle.pc_value.specs.Actions as action
use Rattle.pc_machine.specs.State.{State, Frame, Class}
use Rattle.pc_machine.specs.Names.{meaning_in_run, meaning_of_local, meaning_of_global, global_by_name, local_by_name}
use Rattle.pc_machine.specs.Calls.{value_of_meaning, InstanceTest, tests_int, tests_str, tests_bool, tests_class}
use Rattle.pc_machine.specs.Calls.{instance_test_of, passes}
use Rattle.pc_machine.specs.Steps.{Parts, value_out}
use Rattle.pc_machine.specs.Evaluation.{eval_node, eval_over, eval_call, instance_test, ordinary, call_form, steps}
use Rattle.pc_machine.specs.Evaluation.{choose, is_none_value}
use Rattle.pc_machine.specs.Free.{Step, WentOn, ◌>>=◌, comes, may_stop, Emits, Looks, look, free}
use Rattle.pc_sound.specs.Values.{HeapTyping, HasType, IsWell}
use Rattle.pc_sound.specs.KeptHeaps.{Passes, IsTestedType, CanFollow, CanFollowAll}
use Rattle.pc_sound.proofs.Steps.BoundLocals.{HasLocals}
use Rattle.pc_sound.proofs.Steps.Judgment.{HasListed, AreListedCodes, Around, IsWellTyped, KeepsState, IsSafe}
use Rattle.pc_sound.proofs.Steps.Judgment.{IsContextOf, TellsLocals, Leads}
use Rattle.pc_sound.proofs.TruthValues.{not_both}
use Rattle.pc_sound.proofs.Lists.{not_empty}
use Rattle.pc_sound.proofs.Values.Narrowing.{passing_keeps, failing_keeps}
use Rattle.pc_sound.proofs.Values.Joins.{either_holds}
use Rattle.pc_sound.proofs.Steps.JoinedLocals.{meet_holds}
use Rattle.pc_sound.proofs.Steps.SafeSteps.{stands_after, gives_injective, gives_not_stops, stopped_as}
use Rattle.pc_sound.proofs.Steps.LeadingSteps.{Known, Promised}
use Rattle.pc_sound.proofs.Steps.Frames.{narrowed_holds}
use Rattle.pc_sound.proofs.Expressions.SimpleExpressions.{Covered, GoodEval, allowed}
use Rattle.pc_sound.proofs.Regular.KeyedLabels.{Keyed}
use Rattle.pc_sound.proofs.Values.Flows.{Evaluates, emit_evaluates, later_evaluates, first_evaluates}
use Rattle.pc_sound.proofs.Calls.CallRules.{test_callee}
use Rattle.pc_sound.proofs.Values.InstanceTests.{RightTests, IsRight, AsTold, passes_agree}
use Rattle.pc_sound.proofs.Steps.InformingSteps.{shows_charge, shows_leads, Shows, kept_as, shows_bind, shows_comes}
use Rattle.pc_sound.proofs.Steps.InformingSteps.{shows_looks, shows_emits, shows_act, shows_as, shows_standing}
use Rattle.pc_sound.proofs.Steps.InformingSteps.{shows_safe, shows_of}

-- a condition comes to a value of its type, and its truth tells of the locals
pub record Decides (around : Around) (ctx : Context) (eval : Expr → Step Value) : Type 0 where
  pub decides : (env : Env) (want : Option Tree) (e : Expr) (m : Labels e) → Lawful ctx around.declared env want e m
      → Covered around (Finds e m) → Keyed e m → (frame : Frame)
      → Leads around (λ k s. IsWellTyped around env k s × (s.frame ≡ frame)) (eval e)
      (λ k v s. (IsWellTyped around env k s × (s.frame ≡ frame))
      × (HasType around.bases k (type_of e m) v × TellsLocals around ctx env e k v s))

-- a name comes to what it means, and leaves the state as it is
pub record Reads (eval : Expr → Step Value) : Type 0 where
  pub read : (n : Name) (s s' : State) (events : List Place) (v : Value) → eval (name n) s events (Gives v) s'
      → (value_of_meaning (meaning_in_run n.text s) ≡ Gives v) × (s' ≡ s)

-- ---- steps of runs that came to a value

pub went_on : {A B : Type 0} (m : Step A) (f : A → Step B) (s s' : State) (events : List Place) (b : B)
    → (m >>= f) s events (Gives b) s' → WentOn m f s events (Gives b) s'
went_on m f s s' events b r = elim r [ inl w ↦ w | inr w ↦ absurd (gives_not_stops w.is) ]

pub charged : (s s' : State) (events : List Place) (u : Unit {0}) → may_stop s events (Gives u) s' → s' ≡ s
charged s s' events u r = elim r [
  | inl g ↦ g.same
  | inr e ↦ elim e [
    | inl x ↦ absurd (gives_not_stops x.is)
    | inr x ↦
        absurd (gives_not_stops x.is)
  ]
]

-- the answer of the state, where looking at it came to a value
looked : {A : Type 0} (f : State → Out A) (s s' : State) (events : List Place) (a : A) → look f s events (Gives a) s'
    → Looks f s events (Gives a) s'
looked f s s' events a r = elim r [
  | inl l ↦ l
  | inr e ↦ elim e [
    | inl x ↦ absurd (gives_not_stops x.is)
    | inr x ↦
        absurd (gives_not_stops x.is)
  ]
]

-- nested steps read names
pub steps_read : (n : ℕ) → Reads (steps Step free n).eval
steps_read zero = record { read = λ n s s' events v r. absurd (gives_not_stops r.is) }
steps_read (suc i) = record { read = go }
  where
    go : (n : Name) (s s' : State) (events : List Place) (v : Value) → eval_over Step free (steps Step free i) (name n)
        s events (Gives v) s' → (value_of_meaning (meaning_in_run n.text s) ≡ Gives v) × (s' ≡ s)
    go n s s' events v r =
        let a = went_on _ _ s s' events v r in
        let b = went_on _ _ a.middle s' a.late v a.after in
        let first = charged s a.middle a.early a.value a.before in
        let same : b.middle ≡ s = b.before.same ∙ first in
        let last = looked (λ x. value_of_meaning (meaning_in_run n.text x)) b.middle s' b.late v b.after in
        (ap (λ x. value_of_meaning (meaning_in_run n.text x)) (sym same) ∙ sym last.is, last.same ∙ same)

-- the truth of a truth value
truth_is : (heap : Heap) (b : Truth) → is_true heap (boolean b) ≡ b
truth_is heap true = refl
truth_is heap false = refl

not_back : (a b : Truth) → not a ≡ b → a ≡ not b
not_back true b e = ap not e
not_back false b e = ap not e

-- ---- locals

-- a value passes a test, or fails it
abbrev pub Answers : Around → Truth → HeapTyping → Tested → Value → Type 0
Answers around true k test v = Passes around.bases k test v
Answers around false k test v = ¬ (Passes around.bases k test v)

nothing_answers : (around : Around) (k : HeapTyping) (v : Value) (holds : Truth) → is_none_value v ≡ holds
    → Answers around holds k for_none v
nothing_answers around k value.none true e = tt
nothing_answers around k value.none false e = absurd (not_both refl e)
nothing_answers around k _ true e = absurd (not_both e refl)
nothing_answers around k _ false e = λ h. h

none_follows : (ms : List Tree) → CanFollowAll for_none ms
none_follows [] = tt
none_follows (m ∷ ms) = (tt, none_follows ms)

-- the value that an expression came to, if it is a name
abbrev pub IsReadAs : Expr → Value → State → Type 0
IsReadAs (name n) v s = value_of_meaning (meaning_in_run n.text s) ≡ Gives v
IsReadAs _ v s = Unit {0}

module _ (around : Around) (ctx : Context) (fits : IsContextOf around ctx) where
  abbrev Hold : Env → HeapTyping → State → Type 0
  Hold env k s = HasLocals around.bases k around.names around.declared env s.frame

  -- a state stands as a condition tells
  pub stands_narrowed : (env : Env) (e : Expr) (k : HeapTyping) (v : Value) (s : State) (holds : Truth)
      → IsWellTyped around env k s → TellsLocals around ctx env e k v s → is_true s.heap v ≡ holds
      → IsWellTyped around (narrow around.bases around.declared ctx.resolve holds e env) k s
  stands_narrowed env e k v s holds st tells is = record {
    well = st.well;
    frame = st.frame;
    locals = tells.by holds is;
    outside = st.outside;
  }

  -- a local that was tested
  tested_holds : (env : Env) (k : HeapTyping) (s : State) (n : Name) (x : ℕ) (v : Value) (test : Tested) (holds : Truth)
      → IsWellTyped around env k s → ctx.resolve n.text ≡ meaning.Local x → value_of_meaning (meaning_in_run n.text s)
      ≡ Gives v → ((t : Tree) → current env x ≡ Some t → CanFollowAll test (members t)) → Answers around holds k test v
      → Hold (narrow_current around.bases holds test x env (current env x)) k s
  tested_holds env k s n x v test holds st local reads can answers = go (current env x) refl holds answers
    where
      is_it : (w : Value) → local_by_name n.text s.frame ≡ Some (Some w) → v ≡ w
      is_it w e = gives_injective
          (sym reads
          ∙ ap (λ m. value_of_meaning (meaning_of_local (meaning_of_global (is_reserved n.text)
          (global_by_name n.text s.globals)) m)) e)

      go : (o : Option Tree) → current env x ≡ o → (holds : Truth) → Answers around holds k test v
          → Hold (narrow_current around.bases holds test x env o) k s
      go None e b a = st.locals
      go (Some t) e true a = narrowed_holds around.bases around.names around.declared k env s.frame n.text x t _
          (fits.local n.text x local) e (λ w is h. passing_keeps around.bases fits.smaller k test t (can t e) w h
          (subst (λ y. Passes around.bases k test y) (is_it w is) a)) st.locals
      go (Some t) e false a = narrowed_holds around.bases around.names around.declared k env s.frame n.text x t _
          (fits.local n.text x local) e (λ w is h. failing_keeps around.bases fits.smaller k test t (can t e) w h
          (λ p. a (subst (λ y. Passes around.bases k test y) (sym (is_it w is)) p))) st.locals

  -- the facts that a test tells of the local that an expression is, if it is one
  pub test_tells : (env : Env) (k : HeapTyping) (s : State) (e : Expr) (v : Value) (test : Tested) (holds : Truth)
      → IsWellTyped around env k s → IsReadAs e v s → ((n : Name) (x : ℕ) (t : Tree) → ctx.resolve n.text ≡ meaning.Local x
      → local_named ctx.resolve e ≡ Some x → current env x ≡ Some t → CanFollowAll test (members t))
      → ((n : Name) (x : ℕ) → ctx.resolve n.text ≡ meaning.Local x → Answers around holds k test v)
      → Hold (narrow_local around.bases holds test (local_named ctx.resolve e) env) k s
  test_tells env k s (name n) v test holds st reads can answers = go (ctx.resolve n.text) refl
    where
      go : (r : NameMeaning) → ctx.resolve n.text ≡ r → Hold (narrow_local around.bases holds test (as_local r) env) k s
      go (meaning.Local x) e = tested_holds env k s n x v test holds st e reads (λ t is. can n x t e (ap as_local e) is)
          (answers n x e)
      go _ e = st.locals
  test_tells env k s _ v test holds st reads can answers = st.locals

-- ---- forms of conditions

module _ (around : Around) (ctx : Context) (fits : IsContextOf around ctx) (parts : Parts Step)
    (good : GoodEval around ctx parts.eval) (decides : Decides around ctx parts.eval) (reads : Reads parts.eval)
    (env : Env) where
  abbrev Has : Tree → HeapTyping → Value → Type 0
  Has t k v = HasType around.bases k t v

  abbrev Node : Expr → Step Value
  Node e = eval_node Step free parts e

  -- an expression comes to a value of a type, and its truth tells of the locals
  abbrev pub TellsSafely : Env → Expr → Tree → Step Value → Type 0
  TellsSafely env' e t m = Shows around (λ k s. IsWellTyped around env' k s) m (λ k v s. IsWellTyped around env' k s
      × (HasType around.bases k t v × TellsLocals around ctx env' e k v s))

  -- a safe step of which each end in a value tells something
  told : (m : Step Value) (P : HeapTyping → Value → Type 0) (Q : Promised Value) → IsSafe around env (λ k. Unit {0}) m P
      → ((k : HeapTyping) (s s' : State) (events : List Place) (v : Value) → IsWellTyped around env k s'
      → m s events (Gives v) s' → HasListed around.listed events ⊎ Q k v s')
      → Shows around (λ k s. IsWellTyped around env k s) m (λ k v s. IsWellTyped around env k s × (P k v × Q k v s))
  told m P Q safe tells = record { run = go }
    where
      go : (k : HeapTyping) (s s' : State) (events : List Place) (out : Out Value)
          → IsWell around.bases around.classes k s.heap → IsWellTyped around env k s → m s events out s'
          → HasListed around.listed events ⊎ KeepsState around (λ k v. IsWellTyped around env k s' × (P k v × Q k v s'))
          k s out s'
      go k s s' events (Gives v) well st r = elim (safe.run k s s' events (Gives v) tt st r) [
        | inl e ↦ inl e
        | inr g ↦
            let after = stands_after around env P k s s' (Gives v) st g in
            elim (tells g.typing s s' events v after r) [
              | inl e ↦ inl e
              | inr q ↦ inr (kept_as around P (λ k v. IsWellTyped around env k s' × (P k v × Q k v s')) k s s' (Gives v)
                  (Gives v) g (after, (g.ends, q)))
            ]
      ]
      go k s s' events (Stops stop) well st r = elim (safe.run k s s' events (Stops stop) tt st r) [
        | inl e ↦ inl e
        | inr g ↦ inr (kept_as around P (λ k v. IsWellTyped around env k s' × (P k v × Q k v s')) k s s' (Stops stop)
            (Stops stop) g (stopped_as (P g.typing) (λ v. IsWellTyped around env g.typing s'
            × (P g.typing v × Q g.typing v s')) stop g.ends))
      ]

  -- a part, as what it tells is used
  part_shows : (env' : Env) (want : Option Tree) (e : Expr) (m : Labels e) → Lawful ctx around.declared env' want e m
      → Covered around (Finds e m) → Keyed e m → TellsSafely env' e (type_of e m) (parts.eval e)
  part_shows env' want e m law covered keyed = shows_of around env' (parts.eval e)
      (λ k v. HasType around.bases k (type_of e m) v) (λ k v s. HasType around.bases k (type_of e m) v
      × TellsLocals around ctx env' e k v s) (good.safe env' want e m law covered keyed)
      (λ frame. decides.decides env' want e m law covered keyed frame)

  read_as : (e : Expr) (s s' : State) (events : List Place) (v : Value) → parts.eval e s events (Gives v) s'
      → IsReadAs e v s'
  read_as (name n) s s' events v r = let h = reads.read n s s' events v r in
      ap (λ x. value_of_meaning (meaning_in_run n.text x)) h.1 ∙ h.0
  read_as _ s s' events v r = tt

  -- ---- tests against None

  record CameTo (e : Expr) (f : Value → Value) (v : Value) (s : State) : Type 0 where
    operand : Value
    came : IsReadAs e operand s
    is : v ≡ f operand

  none_came : (p : Place) (e : Expr) (f : Value → Value) (s s' : State) (events : List Place) (v : Value)
      → (parts.eval e >>= λ w. Emits p >>= λ u. comes (Gives (f w))) s events (Gives v) s' → CameTo e f v s'
  none_came p e f s s' events v r =
      let a = went_on _ _ s s' events v r in
      let b = went_on _ _ a.middle s' a.late v a.after in
      let same : s' ≡ a.middle = b.after.same ∙ b.before.same in
      record {
        operand = a.value;
        came = subst (λ x. IsReadAs e a.value x) (sym same)
            (read_as e s a.middle a.early a.value a.before);
        is = gives_injective b.after.is;
      }

  none_tells : (p : Place) (e : Expr) (k : HeapTyping) (v : Value) (s : State) → IsWellTyped around env k s
      → CameTo e (λ w. boolean (is_none_value w)) v s → TellsLocals around ctx env (is_none p e) k v s
  none_tells p e k v s st c = record {
    by = λ holds is. test_tells around ctx fits env k s e c.operand for_none holds st c.came
        (λ n x t r l h. none_follows (members t)) (λ n x l. nothing_answers around k c.operand holds
        (sym (truth_is s.heap (is_none_value c.operand)) ∙ (ap (is_true s.heap) (sym c.is) ∙ is)));
  }

  not_none_tells : (p : Place) (e : Expr) (k : HeapTyping) (v : Value) (s : State) → IsWellTyped around env k s
      → CameTo e (λ w. boolean (not (is_none_value w))) v s → TellsLocals around ctx env (is_not_none p e) k v s
  not_none_tells p e k v s st c = record {
    by = λ holds is. test_tells around ctx fits env k s e c.operand for_none (not holds) st c.came
        (λ n x t r l h. none_follows (members t)) (λ n x l. nothing_answers around k c.operand (not holds)
        (not_back (is_none_value c.operand) holds (sym (truth_is s.heap (not (is_none_value c.operand)))
        ∙ (ap (is_true s.heap) (sym c.is) ∙ is))));
  }

  pub is_none_told : (p : Place) (e : Expr) (t : Tree) → IsSafe around env (λ k. Unit {0}) (Node (is_none p e))
      (λ k v. HasType around.bases k t v) → TellsSafely env (is_none p e) t (Node (is_none p e))
  is_none_told p e t safe = told (Node (is_none p e)) (λ k v. HasType around.bases k t v)
      (λ k v s. TellsLocals around ctx env (is_none p e) k v s) safe
      (λ k s s' events v st r. inr (none_tells p e k v s' st (none_came p e (λ w. boolean (is_none_value w)) s s' events
      v r)))

  pub is_not_none_told : (p : Place) (e : Expr) (t : Tree) → IsSafe around env (λ k. Unit {0}) (Node (is_not_none p e))
      (λ k v. HasType around.bases k t v) → TellsSafely env (is_not_none p e) t (Node (is_not_none p e))
  is_not_none_told p e t safe = told (Node (is_not_none p e)) (λ k v. HasType around.bases k t v)
      (λ k v s. TellsLocals around ctx env (is_not_none p e) k v s) safe
      (λ k s s' events v st r. inr (not_none_tells p e k v s' st
      (none_came p e (λ w. boolean (not (is_none_value w))) s s' events v r)))

  -- ---- `not`

  not_tells : (p : Place) (e : Expr) (k : HeapTyping) (v : Value) (s : State) → TellsLocals around ctx env e k v s
      → TellsLocals around ctx env (negation p e) k (boolean (not (is_true s.heap v))) s
  not_tells p e k v s tells = record {
    by = λ holds is. tells.by (not holds)
        (not_back (is_true s.heap v) holds (sym (truth_is s.heap (not (is_true s.heap v))) ∙ is));
  }

  pub negation_told : (want : Option Tree) (p : Place) (e : Expr) (m : Labels (negation p e))
      → Lawful ctx around.declared env want (negation p e) m → Covered around (Finds (negation p e) m)
      → Keyed (negation p e) m → TellsSafely env (negation p e) m.here.type (Node (negation p e))
  negation_told want p e m law covered keyed = shows_bind around _ _ _ _ _
      (part_shows env None e m.operand law.operand (λ f h. covered f (inr h)) keyed.1)
      λ v. shows_bind around _ _ _ _ _ (shows_emits around _ p m.here.codes
      (allowed around p m.here.codes (λ f h. covered f (inl h))))
      λ u. shows_act around _ value_out (action.negation v) _ λ f k s b. (
        refl,
        (
          b.0.0,
          (
            subst (λ t. HasType around.bases k t (boolean (not (is_true s.heap v))))
                (ap (λ x. x.type) (sym law.here)) tt,
            not_tells p e k v s b.0.1.1,
          ),
        ),
      )

  -- ---- `and`, `or`

  -- the value of one side, of which the truth is known
  abbrev Side : Expr → Tree → Value → Truth → Known
  Side e t v b k s = (IsWellTyped around env k s × (HasType around.bases k t v × TellsLocals around ctx env e k v s))
      × (is_true s.heap v ≡ b)

  -- a value of the joined type that tells of the whole condition, after its place
  ends_so : (p : Place) (e : Expr) (t : Tree) (codes : List Code) → Covered around (IsFoundAt p codes) → (w : Value)
      → Shows around (λ k s. IsWellTyped around env k s × (HasType around.bases k t w
      × TellsLocals around ctx env e k w s)) (Emits p >>= λ u. comes (Gives w)) (λ k v s. IsWellTyped around env k s
      × (HasType around.bases k t v × TellsLocals around ctx env e k v s))
  ends_so p e t codes covered w = shows_bind around _ _ _ _ _ (shows_emits around _ p codes
      (allowed around p codes covered)) λ u. shows_comes around _ (Gives w) _ λ k s b. b.0

  module _ (p : Place) (l r : Expr) (s t : Tree) where
    and_true : (k : HeapTyping) (w : Value) (x : State) → IsWellTyped around env k x → HasType around.bases k t w
        → TellsLocals around ctx (narrow around.bases around.declared ctx.resolve true l env) r k w x
        → HasType around.bases k (join_or_object around.bases s t) w × TellsLocals around ctx env (conjunction p l r) k
        w x
    and_true k w x st has tells = (either_holds around.bases fits.smaller k s t w (inr has), record { by = by })
      where
        by : (holds : Truth) → is_true x.heap w ≡ holds → HasLocals around.bases k around.names around.declared
            (narrow around.bases around.declared ctx.resolve holds (conjunction p l r) env) x.frame
        by true is = tells.by true is
        by false is = meet_holds around.bases fits.smaller k around.names around.declared x.frame _ _
            (inr (tells.by false is))

    and_false : (k : HeapTyping) (v : Value) (x : State) → Side l s v false k x
        → HasType around.bases k (join_or_object around.bases s t) v × TellsLocals around ctx env (conjunction p l r) k
        v x
    and_false k v x side = (either_holds around.bases fits.smaller k s t v (inl side.0.1.0), record { by = by })
      where
        by : (holds : Truth) → is_true x.heap v ≡ holds → HasLocals around.bases k around.names around.declared
            (narrow around.bases around.declared ctx.resolve holds (conjunction p l r) env) x.frame
        by true is = absurd (not_both is side.1)
        by false is = meet_holds around.bases fits.smaller k around.names around.declared x.frame _ _
            (inl (side.0.1.1.by false is))

    or_true : (k : HeapTyping) (v : Value) (x : State) → Side l s v true k x
        → HasType around.bases k (join_or_object around.bases s t) v × TellsLocals around ctx env (disjunction p l r) k
        v x
    or_true k v x side = (either_holds around.bases fits.smaller k s t v (inl side.0.1.0), record { by = by })
      where
        by : (holds : Truth) → is_true x.heap v ≡ holds → HasLocals around.bases k around.names around.declared
            (narrow around.bases around.declared ctx.resolve holds (disjunction p l r) env) x.frame
        by true is = meet_holds around.bases fits.smaller k around.names around.declared x.frame _ _
            (inl (side.0.1.1.by true is))
        by false is = absurd (not_both side.1 is)

    or_false : (k : HeapTyping) (w : Value) (x : State) → IsWellTyped around env k x → HasType around.bases k t w
        → TellsLocals around ctx (narrow around.bases around.declared ctx.resolve false l env) r k w x
        → HasType around.bases k (join_or_object around.bases s t) w × TellsLocals around ctx env (disjunction p l r) k
        w x
    or_false k w x st has tells = (either_holds around.bases fits.smaller k s t w (inr has), record { by = by })
      where
        by : (holds : Truth) → is_true x.heap w ≡ holds → HasLocals around.bases k around.names around.declared
            (narrow around.bases around.declared ctx.resolve holds (disjunction p l r) env) x.frame
        by true is = meet_holds around.bases fits.smaller k around.names around.declared x.frame _ _
            (inr (tells.by true is))
        by false is = tells.by false is

  module _ (p : Place) (l r : Expr) where
    -- the right side where the left one was true, or was false
    right_shows : (holds : Truth) (m : Labels r) → Lawful ctx around.declared
        (narrow around.bases around.declared ctx.resolve holds l env) None r m → Covered around (Finds r m) → Keyed r m
        → (s : Tree) (v : Value) → Shows around (Side l s v holds) (parts.eval r) (λ k w x. IsWellTyped around env k x
        × (HasType around.bases k (type_of r m) w × TellsLocals around ctx
        (narrow around.bases around.declared ctx.resolve holds l env) r k w x))
    right_shows holds m law covered keyed s v =
        let env' = narrow around.bases around.declared ctx.resolve holds l env in
        shows_as around _ _ _ _ _
        (λ k x b. (b.0.0, stands_narrowed around ctx fits env l k v x holds b.0.0 b.0.1.1 b.1))
        (λ k w x a. (a.0, a.1.1))
        (shows_standing around env (λ k x. IsWellTyped around env' k x) (parts.eval r)
        (λ k w x. IsWellTyped around env' k x × (HasType around.bases k (type_of r m) w
        × TellsLocals around ctx env' r k w x)) (part_shows env' None r m law covered keyed))

    and_side : (m : Labels (conjunction p l r)) (s : Tree) → join_or_object around.bases s (type_of r m.right)
        ≡ m.here.type → Lawful ctx around.declared (narrow around.bases around.declared ctx.resolve true l env) None r
        m.right → Covered around (Finds r m.right) → Keyed r m.right → (v : Value) (b : Truth)
        → Shows around (Side l s v b) (choose Step free b (parts.eval r) (comes (Gives v)))
        (λ k w x. IsWellTyped around env k x × (HasType around.bases k m.here.type w
        × TellsLocals around ctx env (conjunction p l r) k w x))
    and_side m s here law covered keyed v true = shows_as around _ _ _ _ _ (λ k x b. b)
        (λ k w x a. (
          a.0,
          let h = and_true p l r s (type_of r m.right) k w x a.0 a.1.0 a.1.1 in
              (subst (λ y. HasType around.bases k y w) here h.0, h.1),
        ))
        (right_shows true m.right law covered keyed s v)
    and_side m s here law covered keyed v false = shows_comes around _ (Gives v) _
        λ k x b. (
          b.0.0,
          let h = and_false p l r s (type_of r m.right) k v x b in
              (subst (λ y. HasType around.bases k y v) here h.0, h.1),
        )

    pub conjunction_told : (want : Option Tree) (m : Labels (conjunction p l r))
        → Lawful ctx around.declared env want (conjunction p l r) m → Covered around (Finds (conjunction p l r) m)
        → Keyed (conjunction p l r) m → TellsSafely env (conjunction p l r) m.here.type (Node (conjunction p l r))
    conjunction_told want m law covered keyed =
        let s = type_of l m.left in
        let here : join_or_object around.bases s (type_of r m.right) ≡ m.here.type =
        ap (λ b. join_or_object b s (type_of r m.right)) fits.bases ∙ ap (λ x. x.type) (sym law.here) in
        let behind : Lawful ctx around.declared (narrow around.bases around.declared ctx.resolve true l env) None r
        m.right = subst (λ b. Lawful ctx around.declared (narrow b around.declared ctx.resolve true l env) None r
        m.right) (sym fits.bases) law.right in
        shows_bind around _ _ _ _ _ (part_shows env None l m.left law.left (λ f h. covered f (inr (inl h))) keyed.1.0)
        λ v. shows_bind around _ _ _ _ _ (shows_looks around _ (λ x. Gives (is_true x.heap v))
        (λ k b x. Side l s v b k x) (λ k x b. (b, refl)))
        λ b. shows_bind around _ _ _ _ _ (and_side m s here behind (λ f h. covered f (inr (inr h))) keyed.1.1 v b)
        λ w. ends_so p (conjunction p l r) m.here.type m.here.codes (λ f h. covered f (inl h)) w

    or_side : (m : Labels (disjunction p l r)) (s : Tree) → join_or_object around.bases s (type_of r m.right)
        ≡ m.here.type → Lawful ctx around.declared (narrow around.bases around.declared ctx.resolve false l env) None r
        m.right → Covered around (Finds r m.right) → Keyed r m.right → (v : Value) (b : Truth)
        → Shows around (Side l s v b) (choose Step free b (comes (Gives v)) (parts.eval r))
        (λ k w x. IsWellTyped around env k x × (HasType around.bases k m.here.type w
        × TellsLocals around ctx env (disjunction p l r) k w x))
    or_side m s here law covered keyed v false = shows_as around _ _ _ _ _ (λ k x b. b)
        (λ k w x a. (
          a.0,
          let h = or_false p l r s (type_of r m.right) k w x a.0 a.1.0 a.1.1 in
              (subst (λ y. HasType around.bases k y w) here h.0, h.1),
        ))
        (right_shows false m.right law covered keyed s v)
    or_side m s here law covered keyed v true = shows_comes around _ (Gives v) _
        λ k x b. (
          b.0.0,
          let h = or_true p l r s (type_of r m.right) k v x b in
              (subst (λ y. HasType around.bases k y v) here h.0, h.1),
        )

    pub disjunction_told : (want : Option Tree) (m : Labels (disjunction p l r))
        → Lawful ctx around.declared env want (disjunction p l r) m → Covered around (Finds (disjunction p l r) m)
        → Keyed (disjunction p l r) m → TellsSafely env (disjunction p l r) m.here.type (Node (disjunction p l r))
    disjunction_told want m law covered keyed =
        let s = type_of l m.left in
        let here : join_or_object around.bases s (type_of r m.right) ≡ m.here.type =
        ap (λ b. join_or_object b s (type_of r m.right)) fits.bases ∙ ap (λ x. x.type) (sym law.here) in
        let behind : Lawful ctx around.declared (narrow around.bases around.declared ctx.resolve false l env) None r
        m.right = subst (λ b. Lawful ctx around.declared (narrow b around.declared ctx.resolve false l env) None r
        m.right) (sym fits.bases) law.right in
        shows_bind around _ _ _ _ _ (part_shows env None l m.left law.left (λ f h. covered f (inr (inl h))) keyed.1.0)
        λ v. shows_bind around _ _ _ _ _ (shows_looks around _ (λ x. Gives (is_true x.heap v))
        (λ k b x. Side l s v b k x) (λ k x b. (b, refl)))
        λ b. shows_bind around _ _ _ _ _ (or_side m s here behind (λ f h. covered f (inr (inr h))) keyed.1.1 v b)
        λ w. ends_so p (disjunction p l r) m.here.type m.here.codes (λ f h. covered f (inl h)) w

  -- ---- safety of `and` and `or`

  told_safe : (e : Expr) (t : Tree) → TellsSafely env e t (Node e) → IsSafe around env (λ k. Unit {0}) (Node e)
      (λ k v. HasType around.bases k t v)
  told_safe e t h = shows_safe around env (λ k. Unit {0}) (Node e) (λ k v. HasType around.bases k t v)
      (shows_as around _ _ _ _ _ (λ k s b. b.0) (λ k v s a. a.1.0) h)

  pub conjunction_safe : (want : Option Tree) (p : Place) (l r : Expr) (m : Labels (conjunction p l r))
      → Lawful ctx around.declared env want (conjunction p l r) m → Covered around (Finds (conjunction p l r) m)
      → Keyed (conjunction p l r) m → IsSafe around env (λ k. Unit {0}) (Node (conjunction p l r))
      (λ k v. HasType around.bases k m.here.type v)
  conjunction_safe want p l r m law covered keyed = told_safe (conjunction p l r) m.here.type
      (conjunction_told p l r want m law covered keyed)

  pub disjunction_safe : (want : Option Tree) (p : Place) (l r : Expr) (m : Labels (disjunction p l r))
      → Lawful ctx around.declared env want (disjunction p l r) m → Covered around (Finds (disjunction p l r) m)
      → Keyed (disjunction p l r) m → IsSafe around env (λ k. Unit {0}) (Node (disjunction p l r))
      (λ k v. HasType around.bases k m.here.type v)
  disjunction_safe want p l r m law covered keyed = told_safe (disjunction p l r) m.here.type
      (disjunction_told p l r want m law covered keyed)

  -- ---- tests of instances

  module _ (tests : RightTests around ctx) where
    -- the operand and the outcome of an instance test
    record Tried (e t : Expr) (v : Value) (s : State) : Type 0 where
      operand : Value
      came : IsReadAs e operand s
      test : InstanceTest
      tested : instance_test_of t s ≡ Gives test
      is : v ≡ boolean (passes s operand test)

    abbrev Looking : Expr → Value → Step Value
    Looking t w = look (instance_test_of t) >>= λ test. look (λ s. Gives (boolean (passes s w test)))

    tried_last : (e t : Expr) (w v : Value) (test : InstanceTest) (s m s' : State) → IsReadAs e w s
        → instance_test_of t s ≡ Gives test → m ≡ s → Gives v ≡ Gives (boolean (passes m w test)) → s' ≡ m
        → Tried e t v s'
    tried_last e t w v test s m s' came tested early is late = record {
      operand = w;
      came = subst (λ x. IsReadAs e w x) (sym (late ∙ early)) came;
      test = test;
      tested = subst (λ x. instance_test_of t x ≡ Gives test) (sym (late ∙ early)) tested;
      is = subst (λ x. v ≡ boolean (passes x w test)) (sym late) (gives_injective is);
    }

    tried_look : (e t : Expr) (w v : Value) (s s' : State) (events : List Place) → IsReadAs e w s
        → Looking t w s events (Gives v) s' → Tried e t v s'
    tried_look e t w v s s' events came r =
        let a = went_on _ _ s s' events v r in
        let tests = looked _ s a.middle a.early a.value a.before in
        let last = looked _ a.middle s' a.late v a.after in
        tried_last e t w v a.value s a.middle s' came (sym tests.is) tests.same last.is last.same

    tried_place : (p : Place) (e t : Expr) (w v : Value) (s s' : State) (events : List Place) → IsReadAs e w s
        → (Emits p >>= λ u. Looking t w) s events (Gives v) s' → Tried e t v s'
    tried_place p e t w v s s' events came r = let a = went_on _ _ s s' events v r in tried_look e t w v a.middle s'
        a.late (subst (λ x. IsReadAs e w x) (sym a.before.same) came) a.after

    tried_value : (p : Place) (e t : Expr) (v : Value) (s s' : State) (events : List Place)
        → (parts.eval e >>= λ w. Emits p >>= λ u. Looking t w) s events (Gives v) s' → Tried e t v s'
    tried_value p e t v s s' events r = let a = went_on _ _ s s' events v r in tried_place p e t a.value v a.middle s'
        a.late (read_as e s a.middle a.early a.value a.before) a.after

    abbrev Trying : Place → Name → Expr → Expr → Step Value
    Trying p n e t = may_stop >>= λ u. Emits n.place >>= λ u. parts.eval e >>= λ w. Emits p >>= λ u. Looking t w

    tried : (p : Place) (n : Name) (e t : Expr) (v : Value) (s s' : State) (events : List Place)
        → Trying p n e t s events (Gives v) s' → Tried e t v s'
    tried p n e t v s s' events r =
        let a = went_on _ _ s s' events v r in
        let b = went_on _ _ a.middle s' a.late v a.after in
        tried_value p e t v b.middle s' b.late b.after

    trying_evaluates : (p : Place) (n : Name) (e t : Expr) → Evaluates p (Trying p n e t)
    trying_evaluates p n e t = later_evaluates p _ _ λ u. later_evaluates p _ _ λ u. later_evaluates p _ _ λ v.
        first_evaluates p _ _ (emit_evaluates p)

    -- no member is Any or object
    no_object : (ms : List Tree) → list_any is_object_or_any ms ≡ false → CanFollowAll for_list ms
    no_object [] e = tt
    no_object (m ∷ ms) e = let h = or_parts (is_object_or_any m) (list_any is_object_or_any ms) e in
        (one m h.0, no_object ms h.1)
      where
        one : (m : Tree) → is_object_or_any m ≡ false → CanFollow for_list m
        one Any e = absurd (not_both refl e)
        one Object e = absurd (not_both refl e)
        one _ e = tt

    type_follows : (c : Tree) → IsTestedType c → (ms : List Tree) → CanFollowAll (for_type c) ms
    type_follows c is [] = tt
    type_follows c is (m ∷ ms) = (is, type_follows c is ms)

    right_type : (made : List Class) (c : Tree) (test : InstanceTest) → IsRight around.bases made (for_type c) test
        → IsTestedType c
    right_type made Int tests_int r = tt
    right_type made Bool tests_bool r = tt
    right_type made Str tests_str r = tt
    right_type made (tree.Class c) (tests_class d) r = tt
    right_type made _ _ r = absurd r

    -- the codes of a test of a list where nothing is found
    list_follows : (o : Option ℕ) (x : ℕ) (t : Tree) → o ≡ Some x → current env x ≡ Some t
        → test_codes env o (Some for_list) ≡ [] → CanFollowAll for_list (members t)
    list_follows o x t named e found = no_object (members t) (go (list_any is_object_or_any (members t)) refl
        (sym (ap (λ y. any_list_codes (current_of env y)) named ∙ ap any_list_codes e) ∙ found))
      where
        go : (b : Truth) → list_any is_object_or_any (members t) ≡ b → any_list_codes (Some t) ≡ []
            → list_any is_object_or_any (members t) ≡ false
        go true is found = absurd (not_empty (ap (λ b. if b then A7 ∷ [] else []) (sym is) ∙ found))
        go false is found = is

    follows : (made : List Class) (test : Tested) (r : InstanceTest) → IsRight around.bases made test r
        → (o : Option ℕ) (x : ℕ) (t : Tree) → o ≡ Some x → current env x ≡ Some t → test_codes env o (Some test) ≡ []
        → CanFollowAll test (members t)
    follows made for_none r right o x t named e found = none_follows (members t)
    follows made (for_type c) r right o x t named e found = type_follows c (right_type made c r right) (members t)
    follows made for_list r right o x t named e found = list_follows o x t named e found

    as_answers : (holds : Truth) (k : HeapTyping) (test : Tested) (v : Value)
        → AsTold holds (Passes around.bases k test v) → Answers around holds k test v
    as_answers true k test v h = h
    as_answers false k test v h = h

    abbrev Narrowed : Truth → Truth → Option ℕ → Option Tested → HeapTyping → State → Type 0
    Narrowed holds is_test x test k s = HasLocals around.bases k around.names around.declared
        (narrow_instance around.bases around.declared ctx.resolve holds is_test x test env) s.frame

    -- the facts that the truth of an instance test tells
    instance_tells : (e t : Expr) (k : HeapTyping) (v : Value) (s : State) → IsWellTyped around env k s → Tried e t v s
        → test_codes env (local_named ctx.resolve e) (narrowing.test_of ctx.resolve t) ≡ [] → (holds : Truth)
        → is_true s.heap v ≡ holds → Narrowed holds true (local_named ctx.resolve e) (narrowing.test_of ctx.resolve t) k
        s
    instance_tells e (name n) k v s st tr found holds is = go (test_named (ctx.resolve n.text)) refl found
      where
        go : (o : Option Tested) → test_named (ctx.resolve n.text) ≡ o → test_codes env (local_named ctx.resolve e) o
            ≡ [] → Narrowed holds true (local_named ctx.resolve e) o k s
        go None named found = st.locals
        go (Some test) named found =
            let right = λ (local : Name) (x : ℕ) (l : ctx.resolve local.text ≡ meaning.Local x). tests.right env k s st
            local.text x l n.text test named tr.test tr.tested in
            let passed : passes s tr.operand tr.test ≡ holds = sym (truth_is s.heap (passes s tr.operand tr.test))
            ∙ (ap (is_true s.heap) (sym tr.is) ∙ is) in
            test_tells around ctx fits env k s e tr.operand test holds st tr.came
            (λ m x t r l c. follows s.classes test tr.test (right m x r) (local_named ctx.resolve e) x t l c found)
            (λ m x l. as_answers holds k test tr.operand (passes_agree around.bases around.classes k s st.well test
            tr.test tr.operand (right m x l) holds passed))
    instance_tells e _ k v s st tr found holds is = st.locals

    name_run : (p : Place) (n : Name) (args : Exprs) (kws : Keywords) (found : List Code)
        → AreListedCodes around.listed p found → found ≡ (test_label ctx env args).codes
        → is_instance_test (name n) args kws ≡ true → (k : HeapTyping) (s s' : State) (events : List Place) (v : Value)
        → IsWellTyped around env k s' → Node (call p (name n) args kws) s events (Gives v) s'
        → HasListed around.listed events ⊎ TellsLocals around ctx env (call p (name n) args kws) k v s'
    name_run p n (more_exprs e (more_exprs t no_exprs)) no_keywords found allow codes_are is k s s' events v st r =
        go found allow codes_are
      where
        text_is : codes "isinstance" ≡ n.text
        text_is = (bytes_eq-Decides (codes "isinstance") n.text).0
            (and_parts (bytes_eq (codes "isinstance") n.text) true is).0

        form : call_form (name n) (more_exprs e (more_exprs t no_exprs)) no_keywords ≡ instance_test n e t
        form = ap (λ b. if b then instance_test n e t else ordinary)
            ((bytes_eq-Decides n.text (codes "isinstance")).1 (sym text_is))

        run : Trying p n e t s events (Gives v) s'
        run = subst (λ f. eval_call Step free parts p (name n) (more_exprs e (more_exprs t no_exprs)) no_keywords f s
            events (Gives v) s') form r

        go : (found : List Code) → AreListedCodes around.listed p found
            → found ≡ (test_label ctx env (more_exprs e (more_exprs t no_exprs))).codes → HasListed around.listed events
            ⊎ TellsLocals around ctx env (call p (name n) (more_exprs e (more_exprs t no_exprs)) no_keywords) k v s'
        go (c ∷ cs) allow codes_are = inl (record {
          place = p;
          is = allow;
          event = (trying_evaluates p n e t).place s s'
              events v run;
        })
        go [] allow codes_are =
            inr
            (record {
              by = λ holds h. subst (λ b. Narrowed holds b (local_named ctx.resolve e)
                  (narrowing.test_of ctx.resolve t) k s') (sym is) (instance_tells e t k v s' st
                  (tried p n e t v s s' events run) (sym codes_are) holds h);
            })
    name_run p n _ _ found allow codes_are is k s s' events v st r = absurd (not_both (and_parts _ _ is).1 refl)

    instance_run : (p : Place) (c : Expr) (args : Exprs) (kws : Keywords) (found : List Code)
        → AreListedCodes around.listed p found → found ≡ (test_label ctx env args).codes → is_instance_test c args kws
        ≡ true → (k : HeapTyping) (s s' : State) (events : List Place) (v : Value) → IsWellTyped around env k s'
        → Node (call p c args kws) s events (Gives v) s' → HasListed around.listed events
        ⊎ TellsLocals around ctx env (call p c args kws) k v s'
    instance_run p (name n) args kws found allow codes_are is k s s' events v st r = name_run p n args kws found allow
        codes_are is k s s' events v st r
    instance_run p _ args kws found allow codes_are is k s s' events v st r = absurd (not_both is refl)

    pub call_told : (want : Option Tree) (p : Place) (c : Expr) (args : Exprs) (kws : Keywords)
        (m : Labels (call p c args kws)) → Lawful ctx around.declared env want (call p c args kws) m
        → Covered around (Finds (call p c args kws) m) → (t : Tree)
        → IsSafe around env (λ k. Unit {0}) (Node (call p c args kws)) (λ k v. HasType around.bases k t v)
        → TellsSafely env (call p c args kws) t (Node (call p c args kws))
    call_told want p c args kws m law covered t safe = told (Node (call p c args kws))
        (λ k v. HasType around.bases k t v) (λ k v s. TellsLocals around ctx env (call p c args kws) k v s) safe
        λ k s s' events v st r. go (is_instance_test c args kws) refl k s s' events v st r
      where
        go : (b : Truth) → is_instance_test c args kws ≡ b → (k : HeapTyping) (s s' : State) (events : List Place)
            (v : Value) → IsWellTyped around env k s' → Node (call p c args kws) s events (Gives v) s'
            → HasListed around.listed events ⊎ TellsLocals around ctx env (call p c args kws) k v s'
        go true is k s s' events v st r = instance_run p c args kws m.here.codes
            (allowed around p m.here.codes (λ f h. covered f (inl h))) (ap (λ x. x.codes) law.here
            ∙ ap (λ x. (whole_call_label ctx env x.rule x.offers args (item_types args m.arguments)).codes)
            (test_callee ctx tests.means env c args kws law.value is)) is k s s' events v st r
        go false is k s s' events v st r =
            inr
            (record {
              by = λ holds h. subst (λ b. Narrowed holds b (local_of_argument ctx.resolve (first_argument args))
                  (test_of_argument ctx.resolve (second_argument args)) k s') (sym is) st.locals;
            })

    unchanged_told : (e : Expr) (t : Tree) → ((k : HeapTyping) (v : Value) (s : State) → IsWellTyped around env k s
        → TellsLocals around ctx env e k v s) → IsSafe around env (λ k. Unit {0}) (Node e)
        (λ k v. HasType around.bases k t v) → TellsSafely env e t (Node e)
    unchanged_told e t tells safe = told (Node e) (λ k v. HasType around.bases k t v)
        (λ k v s. TellsLocals around ctx env e k v s) safe (λ k s s' events v st r. inr (tells k v s' st))

    -- each form tells what it does of the locals; forms that are no test tell nothing
    pub node_told : (want : Option Tree) (e : Expr) (m : Labels e) → Lawful ctx around.declared env want e m
        → Covered around (Finds e m) → Keyed e m → IsSafe around env (λ k. Unit {0}) (Node e)
        (λ k v. HasType around.bases k (type_of e m) v) → TellsSafely env e (type_of e m) (Node e)
    node_told want (is_none p e) m law covered keyed safe = is_none_told p e m.here.type safe
    node_told want (is_not_none p e) m law covered keyed safe = is_not_none_told p e m.here.type safe
    node_told want (negation p e) m law covered keyed safe = negation_told want p e m law covered keyed
    node_told want (conjunction p l r) m law covered keyed safe = conjunction_told p l r want m law covered keyed
    node_told want (disjunction p l r) m law covered keyed safe = disjunction_told p l r want m law covered keyed
    node_told want (call p c args kws) m law covered keyed safe = call_told want p c args kws m law covered m.here.type
        safe
    node_told want (name n) m law covered keyed safe = unchanged_told (name n) (type_of (name n) m)
        (λ k v s st. record { by = λ holds h. st.locals }) safe
    node_told want (number p d) m law covered keyed safe = unchanged_told (number p d) (type_of (number p d) m)
        (λ k v s st. record { by = λ holds h. st.locals }) safe
    node_told want (text p d) m law covered keyed safe = unchanged_told (text p d) (type_of (text p d) m)
        (λ k v s st. record { by = λ holds h. st.locals }) safe
    node_told want (truth p d) m law covered keyed safe = unchanged_told (truth p d) (type_of (truth p d) m)
        (λ k v s st. record { by = λ holds h. st.locals }) safe
    node_told want (nothing p) m law covered keyed safe = unchanged_told (nothing p) (type_of (nothing p) m)
        (λ k v s st. record { by = λ holds h. st.locals }) safe
    node_told want (tuple p es) m law covered keyed safe = unchanged_told (tuple p es) (type_of (tuple p es) m)
        (λ k v s st. record { by = λ holds h. st.locals }) safe
    node_told want (list p es) m law covered keyed safe = unchanged_told (list p es) (type_of (list p es) m)
        (λ k v s st. record { by = λ holds h. st.locals }) safe
    node_told want (dict p es) m law covered keyed safe = unchanged_told (dict p es) (type_of (dict p es) m)
        (λ k v s st. record { by = λ holds h. st.locals }) safe
    node_told want (negative p e) m law covered keyed safe = unchanged_told (negative p e) (type_of (negative p e) m)
        (λ k v s st. record { by = λ holds h. st.locals }) safe
    node_told want (binary p o l r) m law covered keyed safe = unchanged_told (binary p o l r)
        (type_of (binary p o l r) m) (λ k v s st. record { by = λ holds h. st.locals }) safe
    node_told want (compare p o l r) m law covered keyed safe = unchanged_told (compare p o l r)
        (type_of (compare p o l r) m) (λ k v s st. record { by = λ holds h. st.locals }) safe
    node_told want (attribute p e n) m law covered keyed safe = unchanged_told (attribute p e n)
        (type_of (attribute p e n) m) (λ k v s st. record { by = λ holds h. st.locals }) safe
    node_told want (index p e i) m law covered keyed safe = unchanged_told (index p e i) (type_of (index p e i) m)
        (λ k v s st. record { by = λ holds h. st.locals }) safe

-- where each form is safe, the evaluation of an expression tells what its truth says of the locals
pub decides_over : (around : Around) (ctx : Context) → IsContextOf around ctx → RightTests around ctx
    → (parts : Parts Step) → GoodEval around ctx parts.eval → Decides around ctx parts.eval → Reads parts.eval
    → GoodEval around ctx (eval_node Step free parts) → Decides around ctx (eval_over Step free parts)
decides_over around ctx fits tests parts good decides reads nodes = record {
  decides = λ env want e m law covered keyed frame. shows_leads around env (eval_over Step free parts e)
      (λ k v s. HasType around.bases k (type_of e m) v × TellsLocals around ctx env e k v s)
      (shows_bind around _ _ _ _ _ (shows_charge around (λ k s. IsWellTyped around env k s)) λ u. node_told around ctx
      fits parts good decides reads env tests want e m law covered keyed
      (nodes.safe env want e m law covered keyed)) frame;
}

-- at no nested steps nothing is evaluated
pub decides_none : (around : Around) (ctx : Context) → Decides around ctx (steps Step free zero).eval
decides_none around ctx = record {
  decides = λ env want e m law covered keyed frame. shows_leads around env ((steps Step free zero).eval e)
      (λ k v s. HasType around.bases k (type_of e m) v × TellsLocals around ctx env e k v s)
      (shows_comes around _ (Stops Cut) _ (λ k s b. tt)) frame;
}
