-- Literals, `not`, tests against None, and reads of locals are safe if their parts are.
use Rattle.std.proofs.Common.{◌≡◌, ℕ, List, [], ◌∷◌, refl, sym, ap, subst, inl, inr, arith}
use Rattle.std.specs.Prelude.{Bool as Test, not, Option, None, chars}
use Rattle.pc_source.specs.declared.place.Place.{Place}
use Rattle.pc_tree.specs.declared.code.Code.{Code}
use Rattle.pc_tree.specs.declared.code.Finding.{Finding}
use Rattle.pc_tree.specs.Code.{finding}
use Rattle.pc_tree.specs.Tree.{Expr, number, text, truth, nothing, negation, is_none, is_not_none}
use Rattle.pc_types.specs.Tree.{Tree, Int, Bool, Str, NoneType}
use Rattle.pc_flow.specs.Environment.{Env}
use Rattle.pc_rules.specs.Operations.{Label, clean}
use Rattle.pc_rules.specs.Context.{Context}
use Rattle.pc_rules.specs.Labels.{Labels, type_of, Finds, IsFoundAt}
use Rattle.pc_rules.specs.Lawful.{Lawful}
use Rattle.pc_value.specs.Value as value
use Rattle.pc_value.specs.Value.{Value, Gives, boolean, string, is_true}
use Rattle.pc_value.specs.Actions as action
use Rattle.pc_value.specs.Numbers.{number_of_digits}
use Rattle.pc_machine.specs.Steps.{Parts, value_out}
use Rattle.pc_machine.specs.Evaluation.{eval_node, is_none_value}
use Rattle.pc_machine.specs.Free.{Step, free}
use Rattle.pc_sound.specs.Values.{HeapTyping, HasType}
use Rattle.pc_sound.specs.Silent.{IsSilentCode}
use Rattle.pc_sound.proofs.Steps.Judgment.{AreListedCodes, Around, IsSafe}
use Rattle.pc_sound.proofs.Regular.KeyedLabels.{Keyed}
use Rattle.pc_sound.proofs.Steps.SafeSteps.{bind_safe, comes_safe, emits_safe, act_safe, weaken}

-- each finding is a listed place, and its code is not silent everywhere
abbrev pub Covered : Around → (Finding → Type 0) → Type 0
Covered around finds = (f : Finding) → finds f → around.listed f.place × (¬ (IsSilentCode f.code))

-- the evaluation of lawfully labelled expressions is safe
pub record GoodEval (around : Around) (ctx : Context) (eval : Expr → Step Value) : Type 0 where
  pub safe : (env : Env) (want : Option Tree) (e : Expr) (m : Labels e) → Lawful ctx around.declared env want e m
      → Covered around (Finds e m) → Keyed e m → IsSafe around env (λ k. Unit {0}) (eval e)
      (λ k v. HasType around.bases k (type_of e m) v)

pub allowed : (around : Around) (p : Place) (codes : List Code) → Covered around (IsFoundAt p codes)
    → AreListedCodes around.listed p codes
allowed around p [] h = tt
allowed around p (c ∷ cs) h = (h (finding p c) (record { code = c; among = (0, omega arith, refl); is = refl })).0

module _ (around : Around) (ctx : Context) (parts : Parts Step) (good : GoodEval around ctx parts.eval)
    (env : Env) where
  abbrev Safe : {A : Type 0} → (HeapTyping → Type 0) → Step A → (HeapTyping → A → Type 0) → Type 0
  Safe known m P = IsSafe around env known m P

  -- a part, whatever else is known
  pub part : (known : HeapTyping → Type 0) (want : Option Tree) (e : Expr) (m : Labels e)
      → Lawful ctx around.declared env want e m → Covered around (Finds e m) → Keyed e m
      → Safe known (parts.eval e) (λ k v. HasType around.bases k (type_of e m) v)
  part known want e m law covered keyed = weaken around env known (λ k. Unit {0}) (parts.eval e)
      (λ k v. HasType around.bases k (type_of e m) v) (λ k v. HasType around.bases k (type_of e m) v) (λ k h. tt)
      (λ k v h. h) (good.safe env want e m law covered keyed)

  pub number_safe : (p : Place) (digits : List ℕ) (m : Label) → m ≡ clean Int → Covered around (IsFoundAt p m.codes)
      → Safe (λ k. Unit {0}) (eval_node Step free parts (number p digits)) (λ k v. HasType around.bases k m.type v)
  number_safe p digits m law covered = bind_safe around env _ _ _ (λ k u. m.codes ≡ []) _ (λ k k' x h. tt)
      (emits_safe around env _ p m.codes (allowed around p m.codes covered))
      λ u. act_safe around env _ value_out (action.number (number_of_digits digits)) _ λ f k s h st. (
        refl,
        subst (λ t. HasType around.bases k t (value.whole (number_of_digits digits)))
            (ap (λ x. x.type) (sym law)) tt,
      )

  pub text_safe : (p : Place) (bytes : List ℕ) (m : Label) → m ≡ clean Str → Covered around (IsFoundAt p m.codes)
      → Safe (λ k. Unit {0}) (eval_node Step free parts (text p bytes)) (λ k v. HasType around.bases k m.type v)
  text_safe p bytes m law covered = bind_safe around env _ _ _ (λ k u. m.codes ≡ []) _ (λ k k' x h. tt)
      (emits_safe around env _ p m.codes (allowed around p m.codes covered))
      λ u. comes_safe around env _ (Gives (string (chars bytes))) _ λ k h.
      subst (λ t. HasType around.bases k t (string (chars bytes))) (ap (λ x. x.type) (sym law)) tt

  pub truth_safe : (p : Place) (b : Test) (m : Label) → m ≡ clean Bool → Covered around (IsFoundAt p m.codes)
      → Safe (λ k. Unit {0}) (eval_node Step free parts (truth p b)) (λ k v. HasType around.bases k m.type v)
  truth_safe p b m law covered = bind_safe around env _ _ _ (λ k u. m.codes ≡ []) _ (λ k k' x h. tt)
      (emits_safe around env _ p m.codes (allowed around p m.codes covered))
      λ u. comes_safe around env _ (Gives (boolean b)) _ λ k h. subst (λ t. HasType around.bases k t (boolean b))
      (ap (λ x. x.type) (sym law)) tt

  pub nothing_safe : (p : Place) (m : Label) → m ≡ clean NoneType → Covered around (IsFoundAt p m.codes)
      → Safe (λ k. Unit {0}) (eval_node Step free parts (nothing p)) (λ k v. HasType around.bases k m.type v)
  nothing_safe p m law covered = bind_safe around env _ _ _ (λ k u. m.codes ≡ []) _ (λ k k' x h. tt)
      (emits_safe around env _ p m.codes (allowed around p m.codes covered))
      λ u. comes_safe around env _ (Gives value.none) _ λ k h. subst (λ t. HasType around.bases k t value.none)
      (ap (λ x. x.type) (sym law)) tt

  pub negation_safe : (want : Option Tree) (p : Place) (e : Expr) (m : Labels (negation p e))
      → Lawful ctx around.declared env want (negation p e) m → Covered around (Finds (negation p e) m)
      → Keyed (negation p e) m → Safe (λ k. Unit {0}) (eval_node Step free parts (negation p e))
      (λ k v. HasType around.bases k m.here.type v)
  negation_safe want p e m law covered keyed = bind_safe around env _ _ _ (λ k v. Unit {0}) _ (λ k k' x h. tt)
      (weaken around env _ _ _ (λ k v. HasType around.bases k (type_of e m.operand) v) _ (λ k h. h) (λ k v h. tt)
      (part _ None e m.operand law.operand (λ f h. covered f (inr h)) keyed.1))
      λ v. bind_safe around env _ _ _ (λ k u. m.here.codes ≡ []) _ (λ k k' x h. h)
      (emits_safe around env _ p m.here.codes (allowed around p m.here.codes (λ f h. covered f (inl h))))
      λ u. act_safe around env _ value_out (action.negation v) _ λ f k s h st. (
        refl,
        subst (λ t. HasType around.bases k t (boolean (not (is_true s.heap v))))
            (ap (λ x. x.type) (sym law.here)) tt,
      )

  pub is_none_safe : (want : Option Tree) (p : Place) (e : Expr) (m : Labels (is_none p e))
      → Lawful ctx around.declared env want (is_none p e) m → Covered around (Finds (is_none p e) m)
      → Keyed (is_none p e) m → Safe (λ k. Unit {0}) (eval_node Step free parts (is_none p e))
      (λ k v. HasType around.bases k m.here.type v)
  is_none_safe want p e m law covered keyed = bind_safe around env _ _ _ (λ k v. Unit {0}) _ (λ k k' x h. tt)
      (weaken around env _ _ _ (λ k v. HasType around.bases k (type_of e m.operand) v) _ (λ k h. h) (λ k v h. tt)
      (part _ None e m.operand law.operand (λ f h. covered f (inr h)) keyed.1))
      λ v. bind_safe around env _ _ _ (λ k u. m.here.codes ≡ []) _ (λ k k' x h. h)
      (emits_safe around env _ p m.here.codes (allowed around p m.here.codes (λ f h. covered f (inl h))))
      λ u. comes_safe around env _ (Gives (boolean (is_none_value v))) _ λ k h.
      subst (λ t. HasType around.bases k t (boolean (is_none_value v))) (ap (λ x. x.type) (sym law.here)) tt

  pub is_not_none_safe : (want : Option Tree) (p : Place) (e : Expr) (m : Labels (is_not_none p e))
      → Lawful ctx around.declared env want (is_not_none p e) m → Covered around (Finds (is_not_none p e) m)
      → Keyed (is_not_none p e) m → Safe (λ k. Unit {0}) (eval_node Step free parts (is_not_none p e))
      (λ k v. HasType around.bases k m.here.type v)
  is_not_none_safe want p e m law covered keyed = bind_safe around env _ _ _ (λ k v. Unit {0}) _ (λ k k' x h. tt)
      (weaken around env _ _ _ (λ k v. HasType around.bases k (type_of e m.operand) v) _ (λ k h. h) (λ k v h. tt)
      (part _ None e m.operand law.operand (λ f h. covered f (inr h)) keyed.1))
      λ v. bind_safe around env _ _ _ (λ k u. m.here.codes ≡ []) _ (λ k k' x h. h)
      (emits_safe around env _ p m.here.codes (allowed around p m.here.codes (λ f h. covered f (inl h))))
      λ u. comes_safe around env _ (Gives (boolean (not (is_none_value v)))) _ λ k h.
      subst (λ t. HasType around.bases k t (boolean (not (is_none_value v)))) (ap (λ x. x.type) (sym law.here)) tt
