-- Values that are bound to locals, and that are returned.
use Rattle.std.proofs.Common.{◌≡◌, List, [], ◌∷◌, refl, sym, subst, inl, inr}
use Rattle.std.specs.Prelude.{◌⊎◌, Bool as Test, true, false, Option, Some, None}
use Rattle.pc_source.specs.declared.place.Place.{Place}
use Rattle.pc_tree.specs.declared.code.Code.{Code}
use Rattle.pc_tree.specs.declared.code.Code.TheVariants.{E03, E12}
use Rattle.pc_tree.specs.Code.{finding}
use Rattle.pc_tree.specs.Tree.{Expr}
use Rattle.pc_tree.specs.Depth.{place_of}
use Rattle.pc_types.specs.Tree.{Tree, Any, Object, Never, Int, Bool, Str, NoneType, Class, ListOf, DictOf, TupleOf}
use Rattle.pc_types.specs.Tree.{Union, erase}
use Rattle.pc_types.specs.Below.{Bases, Below, Static, same, through, object, bool_int, left, right}
use Rattle.pc_types.specs.Assignable.{Assignable}
use Rattle.pc_types.proofs.Meets.{Meets, m_from_any, m_to_any, m_never, m_object, m_int, m_bool, m_bool_int, m_str}
use Rattle.pc_types.proofs.Meets.{m_none, m_class, m_list, m_dict, m_tuple, m_both, m_left, m_right}
use Rattle.pc_types.proofs.Complete.{meets_from_assignable}
use Rattle.pc_flow.specs.Environment.{Env, assigned_type}
use Rattle.pc_rules.specs.Operations.{Label, FlowLabel}
use Rattle.pc_rules.specs.Context.{Context, Flows, static, dynamic, wrong, FlowUnless, FlowAt, FlowsInto, is_early}
use Rattle.pc_rules.specs.Labels.{FlowLabels, Labels, whole_label, type_of, Finds, IsFlowAt}
use Rattle.pc_rules.specs.Lawful.{Lawful}
use Rattle.pc_value.specs.Value.{Value, Out, Gives, Stops}
use Rattle.pc_machine.specs.State.{State}
use Rattle.pc_machine.specs.Free.{Step}
use Rattle.pc_sound.specs.Values.{HeapTyping, HasType}
use Rattle.pc_sound.proofs.Steps.Judgment.{HasListed, AreListedCodes, Around, IsWellTyped, KeepsState, IsSafe}
use Rattle.pc_sound.proofs.Steps.Judgment.{kept_with}
use Rattle.pc_sound.proofs.Lists.{not_empty}
use Rattle.pc_sound.proofs.Values.ValuesFlow.{of_static}
use Rattle.pc_sound.proofs.Steps.SafeSteps.{weaken, stopped_as}
use Rattle.pc_sound.proofs.Expressions.SimpleExpressions.{Covered, GoodEval}
use Rattle.pc_sound.proofs.Regular.KeyedLabels.{Keyed}
use Rattle.pc_rules.proofs.Saying.{found_here}
use Rattle.pc_sound.proofs.Values.Flows.{Evaluates, early_code, flow_safe}

-- ---- types of literals

-- a type without parts, and without Any
abbrev pub IsAtom : Tree → Type 0
IsAtom Int = Unit {0}
IsAtom Bool = Unit {0}
IsAtom Str = Unit {0}
IsAtom NoneType = Unit {0}
IsAtom _ = ⊥

atom_below : {bases : Bases} {s t : Tree} → IsAtom s → Meets bases s t → Below bases s (erase t)
atom_below a m_from_any = absurd a
atom_below a m_to_any = object
atom_below a m_never = absurd a
atom_below a m_object = object
atom_below a m_int = same
atom_below a m_bool = same
atom_below a m_bool_int = bool_int
atom_below a m_str = same
atom_below a m_none = same
atom_below a (m_class b) = absurd a
atom_below a (m_list b c) = absurd a
atom_below a (m_dict b c d e) = absurd a
atom_below a (m_tuple b) = absurd a
atom_below a (m_both b c) = absurd a
atom_below a (m_left b) = through (atom_below a b) left
atom_below a (m_right b) = through (atom_below a b) right

atom_erased : {bases : Bases} (s t : Tree) → IsAtom s → Below bases s (erase t) → Static bases s t
atom_erased Int t a b = b
atom_erased Bool t a b = b
atom_erased Str t a b = b
atom_erased NoneType t a b = b
atom_erased _ t a b = absurd a

-- a type without parts is static to whatever it is assignable to
pub atom_static : (bases : Bases) (s t : Tree) → IsAtom s → Assignable bases s t → Static bases s t
atom_static bases s t a h = atom_erased s t a (atom_below a (meets_from_assignable h))

-- where no E12 is found at its flow, it is static to that type
pub atom_flow : (bases : Bases) (s t : Tree) (c : Option Code) → IsAtom s → Flows bases s t c
    → (c ≡ Some E12 → ⊥) → Static bases s t
atom_flow bases s t c a (static below) clean = below
atom_flow bases s t c a (dynamic n h) clean = atom_static bases s t a h
atom_flow bases s t c a (wrong n) clean = absurd (clean refl)

-- ---- evaluated places

-- where a step ended in a value, no code is found at a place that it evaluates
pub evaluated_safe : {A : Type 0} (around : Around) (env : Env) (known : HeapTyping → Type 0) (p : Place) (m : Step A)
    (P : HeapTyping → A → Type 0) (codes : List Code) → AreListedCodes around.listed p codes → Evaluates p m
    → IsSafe around env known m P → IsSafe around env known m (λ k a. P k a × (codes ≡ []))
evaluated_safe around env known p m P [] allowed evaluates h = weaken around env known known m P
    (λ k a. P k a × ([] ≡ [])) (λ k x. x) (λ k a x. (x, refl)) h
evaluated_safe {A} around env known p m P (c ∷ cs) allowed evaluates h = record { run = go }
  where
    go : (k : HeapTyping) (s s' : State) (events : List Place) (out : Out A) → known k → IsWellTyped around env k s
        → m s events out s' → HasListed around.listed events ⊎ KeepsState around (λ k a. P k a × (c ∷ cs ≡ [])) k s out
        s'
    go k s s' events (Gives a) knows st r =
        inl (record { place = p; is = allowed; event = evaluates.place s s' events a r })
    go k s s' events (Stops stop) knows st r = elim (h.run k s s' events (Stops stop) knows st r) [
      | inl l ↦ inl l
      | inr kept ↦ inr (kept_with kept (stopped_as (P kept.typing) (λ a. P kept.typing a × (c ∷ cs ≡ [])) stop
          kept.ends))
    ]

-- ---- values assigned to a local

-- where a code is found at the flow, a local has its declared type after it
pub assigned_found : (d from : Tree) (c : Code) → assigned_type d from (Some c) ≡ d
assigned_found Any from c = refl
assigned_found Object from c = refl
assigned_found Never from c = refl
assigned_found Int from c = refl
assigned_found Bool from c = refl
assigned_found Str from c = refl
assigned_found NoneType from c = refl
assigned_found (Class n) from c = refl
assigned_found (ListOf t) from c = refl
assigned_found (DictOf s t) from c = refl
assigned_found (TupleOf ts) from c = refl
assigned_found (Union a b) from c = refl

-- a value of both types is of the type that a local has after the assignment
pub assigned_has : (bases : Bases) (k : HeapTyping) (d from : Tree) (v : Value) → HasType bases k from v
    → HasType bases k d v → HasType bases k (assigned_type d from None) v
assigned_has bases k Any from v f h = h
assigned_has bases k Object from v f h = h
assigned_has bases k Never from v f h = h
assigned_has bases k Int from v f h = h
assigned_has bases k Bool from v f h = h
assigned_has bases k Str from v f h = h
assigned_has bases k NoneType from v f h = h
assigned_has bases k (Class n) from v f h = h
assigned_has bases k (ListOf t) from v f h = h
assigned_has bases k (DictOf s t) from v f h = h
assigned_has bases k (TupleOf ts) from v f h = h
assigned_has bases k (Union a b) from v f h = f

-- the one flow into one type
pub one_flow : (bases : Bases) (m : Label) (d : Tree) (flows : FlowLabels) → FlowsInto bases m (d ∷ []) flows
    → (flow : FlowLabel) × (flows ≡ flow ∷ []) × FlowAt bases m d flow
one_flow bases m d [] h = absurd h
one_flow bases m d (c ∷ []) h = (c, refl, h.0)
one_flow bases m d (c ∷ e ∷ flows) h = absurd h.1

module _ (around : Around) (ctx : Context) (eval : Expr → Step Value) (good : GoodEval around ctx eval)
    (evaluates : (e : Expr) → Evaluates (place_of e) (eval e)) (env : Env) where
  part : (known : HeapTyping → Type 0) (want : Option Tree) (e : Expr) (m : Labels e)
      → Lawful ctx around.declared env want e m → Covered around (Finds e m) → Keyed e m
      → IsSafe around env known (eval e) (λ k v. HasType around.bases k (type_of e m) v)
  part known want e m law covered keyed = weaken around env known (λ k. Unit {0}) (eval e)
      (λ k v. HasType around.bases k (type_of e m) v) (λ k v. HasType around.bases k (type_of e m) v) (λ k h. tt)
      (λ k v h. h) (good.safe env want e m law covered keyed)

  abbrev Assigned : (HeapTyping → Type 0) → (e : Expr) → Labels e → Tree → Option Code → Type 0
  Assigned known e m d c = IsSafe around env known (eval e) (λ k v. HasType around.bases k
      (assigned_type d (type_of e m) c) v × HasType around.bases k d v)

  -- a value that is assigned is of the declared type and of the type that the local has after it
  pub assigned_safe : (known : HeapTyping → Type 0) (want : Option Tree) (e : Expr) (m : Labels e) (d : Tree)
      (flow : FlowLabel) → Lawful ctx around.declared env want e m → Covered around (Finds e m)
      → FlowAt around.bases (whole_label e m) d flow → Covered around (IsFlowAt (place_of e) (flow ∷ [])) → Keyed e m
      → IsSafe around env known (eval e) (λ k v. HasType around.bases k (assigned_type d (type_of e m) flow.code) v
      × HasType around.bases k d v)
  assigned_safe known want e m d flow law covered at allowed keyed = by_code flow.code refl
    where
      by_flow : Flows around.bases (type_of e m) d None → Assigned known e m d None
      by_flow (static below) =
          weaken around env known known (eval e) (λ k v. HasType around.bases k (type_of e m) v)
          (λ k v. HasType around.bases k (assigned_type d (type_of e m) None) v × HasType around.bases k d v)
          (λ k h. h)
          (λ k v h. let to = of_static around.bases k (type_of e m) d below v h in
          (assigned_has around.bases k d (type_of e m) v h to, to))
          (part known want e m law covered keyed)

      quiet : (early : Test) → is_early (whole_label e m).codes ≡ early → FlowUnless early around.bases (type_of e m) d
          None → Assigned known e m d None
      quiet true is f =
          weaken around env known known (eval e) (λ k v. HasType around.bases k (type_of e m) v × (E03 ∷ [] ≡ []))
          (λ k v. HasType around.bases k (assigned_type d (type_of e m) None) v × HasType around.bases k d v)
          (λ k h. h) (λ k v h. absurd (not_empty h.1))
          (evaluated_safe around env known (place_of e) (eval e) (λ k v. HasType around.bases k (type_of e m) v)
          (E03 ∷ []) (covered (finding (place_of e) E03) (found_here e m (finding (place_of e) E03)
          (record { code = E03; among = early_code (whole_label e m).codes is; is = refl }))).0 (evaluates e)
          (part known want e m law covered keyed))
      quiet false is f = by_flow f

      by_code : (c : Option Code) → flow.code ≡ c → Assigned known e m d flow.code
      by_code None is = subst (Assigned known e m d) (sym is) (quiet (is_early (whole_label e m).codes) refl
          (subst (λ c. FlowUnless (is_early (whole_label e m).codes) around.bases (type_of e m) d c) is at.code))
      by_code (Some c) is = subst (Assigned known e m d) (sym is) (
          weaken around env known known (eval e) (λ k v. HasType around.bases k d v)
          (λ k v. HasType around.bases k (assigned_type d (type_of e m) (Some c)) v × HasType around.bases k d v)
          (λ k h. h)
          (λ k v h. (subst (λ t. HasType around.bases k t v) (sym (assigned_found d (type_of e m) c)) h, h))
          (flow_safe around ctx eval good evaluates env known want e m d flow law covered at allowed keyed))
