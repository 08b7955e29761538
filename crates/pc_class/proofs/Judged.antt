-- Each method is judged against those that it overrides, with exactly one result: on types in normal form, subtyping is
-- decided.
use Rattle.std.proofs.Common.{◌≡◌, ℕ, suc, List, [], ◌∷◌, Option, None, refl, inl, inr, arith}
use Rattle.std.specs.Prelude.{IsTrue, All, bytes_eq}
use Rattle.std.proofs.lemmas.List.Elements.{All-cons, All-nil}
use Rattle.pc_tree.specs.declared.code.Code.{Code}
use Rattle.pc_tree.specs.Tree.{FuncDef, ClassDef, Module}
use Rattle.pc_types.specs.Below.{Bases, AreSmaller, Static}
use Rattle.pc_types.specs.Assignable.{Assignable}
use Rattle.pc_types.specs.Normal.{IsNormal}
use Rattle.pc_types.proofs.Consistent.{static_assignable}
use Rattle.pc_types.proofs.DecidedSubtyping.{Decision, tells, decide_static, decide_assignable}
use Rattle.pc_class.specs.Bases.{bases_of}
use Rattle.pc_class.specs.Facts.{TypedParameter, Method, method_made}
use Rattle.pc_class.specs.Overrides.{has_shape_of, TypeFlow, parameter_flows, override_flows, IsGood, IsStatic, Judges}
use Rattle.pc_class.specs.Overrides.{static, dynamic, wrong, IsJudgedOnce, overridden}
use Rattle.pc_class.specs.Findings.{base_class}
use Rattle.pc_annotations.proofs.Earlier.{smaller}
use Rattle.pc_class.specs.WellFormed.{ParametersWellFormed, MethodWellFormed, MethodsWellFormed}
use Rattle.pc_class.proofs.WellFormed.{filter_well_formed, made_well_formed, base_well_formed}

pub all_first : {A : Type 0} (P : A → Type 0) (x : A) (xs : List A) → All P (x ∷ xs) → P x
all_first P x xs h = h 0 x (omega arith)

pub all_rest : {A : Type 0} (P : A → Type 0) (x : A) (xs : List A) → All P (x ∷ xs) → All P xs
all_rest P x xs h = λ k d l. h (suc k) d (omega arith)

all_or_not : {A : Type 0} (P : A → Type 0) (x : A) (xs : List A) → Decision (P x) → Decision (All P xs)
    → Decision (All P (x ∷ xs))
all_or_not P x xs (inl a) (inl b) = inl (All-cons P x xs a b)
all_or_not P x xs (inr n) d = inr (λ h. n (all_first P x xs h))
all_or_not P x xs (inl a) (inr n) = inr (λ h. n (all_rest P x xs h))

-- ---- one override

-- the flows of an override are of types in normal form
abbrev pub AreNormalFlows : List TypeFlow → Type 0
AreNormalFlows [] = Unit {0}
AreNormalFlows (f ∷ fs) = (IsNormal f.from × IsNormal f.into) × AreNormalFlows fs

parameters_flow_normal : (bases : Bases) (ps qs : List TypedParameter) → ParametersWellFormed bases ps
    → ParametersWellFormed bases qs → AreNormalFlows (parameter_flows ps qs)
parameters_flow_normal bases (p ∷ ps) (q ∷ qs) h k = ((h.0.0, k.0.0), parameters_flow_normal bases ps qs h.1 k.1)
parameters_flow_normal bases [] qs h k = tt
parameters_flow_normal bases (p ∷ ps) [] h k = tt

pub flows_normal : (bases : Bases) (old new : Method) → MethodWellFormed bases old → MethodWellFormed bases new
    → AreNormalFlows (override_flows old new)
flows_normal bases old new h k = (
  (k.returns.0, h.returns.0),
  parameters_flow_normal bases old.parameters new.parameters
      h.parameters k.parameters,
)

module _ (bases : Bases) (o : AreSmaller bases) where
  static_flows : (fs : List TypeFlow) → AreNormalFlows fs → Decision (All (λ f. Static bases f.from f.into) fs)
  static_flows [] h = inl (All-nil (λ f. Static bases f.from f.into))
  static_flows (f ∷ fs) h = all_or_not (λ f. Static bases f.from f.into) f fs
      (decide_static bases o f.from f.into h.0.0 h.0.1) (static_flows fs h.1)

  good_flows : (fs : List TypeFlow) → AreNormalFlows fs → Decision (All (λ f. Assignable bases f.from f.into) fs)
  good_flows [] h = inl (All-nil (λ f. Assignable bases f.from f.into))
  good_flows (f ∷ fs) h = all_or_not (λ f. Assignable bases f.from f.into) f fs
      (decide_assignable bases o f.from f.into h.0.0 h.0.1) (good_flows fs h.1)

  module _ (new : Method) (k : MethodWellFormed bases new) where
    static_or_not : (old : Method) → MethodWellFormed bases old → Decision (IsStatic bases new old)
    static_or_not old h = go (tells (has_shape_of old.parameters new.parameters) (λ e. e, λ e. e))
        (static_flows (override_flows old new) (flows_normal bases old new h k))
      where
        go : Decision (IsTrue (has_shape_of old.parameters new.parameters))
            → Decision (All (λ f. Static bases f.from f.into) (override_flows old new))
            → Decision (IsStatic bases new old)
        go (inl s) (inl f) = inl (record { shape = s; flows = f })
        go (inr n) d = inr (λ x. n x.shape)
        go (inl s) (inr n) = inr (λ x. n x.flows)

    good_or_not : (old : Method) → MethodWellFormed bases old → Decision (IsGood bases new old)
    good_or_not old h = go (tells (has_shape_of old.parameters new.parameters) (λ e. e, λ e. e))
        (good_flows (override_flows old new) (flows_normal bases old new h k))
      where
        go : Decision (IsTrue (has_shape_of old.parameters new.parameters))
            → Decision (All (λ f. Assignable bases f.from f.into) (override_flows old new))
            → Decision (IsGood bases new old)
        go (inl s) (inl f) = inl (record { shape = s; flows = f })
        go (inr n) d = inr (λ x. n x.shape)
        go (inl s) (inr n) = inr (λ x. n x.flows)

    -- ---- all that are overridden

    all_static : (olds : List Method) → MethodsWellFormed bases olds → Decision (All (IsStatic bases new) olds)
    all_static [] h = inl (All-nil (IsStatic bases new))
    all_static (old ∷ olds) h = all_or_not (IsStatic bases new) old olds (static_or_not old h.0) (all_static olds h.1)

    all_good : (olds : List Method) → MethodsWellFormed bases olds → Decision (All (IsGood bases new) olds)
    all_good [] h = inl (All-nil (IsGood bases new))
    all_good (old ∷ olds) h = all_or_not (IsGood bases new) old olds (good_or_not old h.0) (all_good olds h.1)

    judged : (olds : List Method) → MethodsWellFormed bases olds → (c : Option Code) × Judges bases olds new c
    judged olds h = go (all_static olds h) (all_good olds h)
      where
        go : Decision (All (IsStatic bases new) olds) → Decision (All (IsGood bases new) olds) → (c : Option Code)
            × Judges bases olds new c
        go (inl a) d = (None, static a)
        go (inr n) (inl a) = (_, dynamic a n)
        go (inr n) (inr l) = (_, wrong l)

-- ---- in one way alone

statics_good : (bases : Bases) (new : Method) (olds : List Method) → All (IsStatic bases new) olds
    → All (IsGood bases new) olds
statics_good bases new olds h = λ k d b. let x = h k d b in record {
  shape = x.shape;
  flows =
      λ j e l. static_assignable bases _ _ (x.flows j e l);
}

pub judges_one : {bases : Bases} {olds : List Method} {new : Method} {c d : Option Code} → Judges bases olds new c
    → Judges bases olds new d → c ≡ d
judges_one (static a) (static b) = refl
judges_one (static a) (dynamic g n) = absurd (n a)
judges_one {bases} {olds} {new} (static a) (wrong n) = absurd (n (statics_good bases new olds a))
judges_one (dynamic g n) (static b) = absurd (n b)
judges_one (dynamic g n) (dynamic k l) = refl
judges_one (dynamic g n) (wrong k) = absurd (k g)
judges_one {bases} {olds} {new} (wrong n) (static b) = absurd (n (statics_good bases new olds b))
judges_one (wrong n) (dynamic g k) = absurd (n g)
judges_one (wrong n) (wrong k) = refl

-- a method of the text is judged against the methods of its name that its class inherits
pub judged_once : (m : Module) (c number : ℕ) (class : ClassDef) (f : FuncDef)
    → IsJudgedOnce (bases_of m) (overridden (base_class m c class).methods f.name.text) (method_made m c number f)
judged_once m c number class f =
    let j = judged (bases_of m) (smaller m) (method_made m c number f) (made_well_formed m c number f)
    (overridden (base_class m c class).methods f.name.text) (filter_well_formed (bases_of m)
    (λ g. bytes_eq f.name.text g.name) (base_class m c class).methods (base_well_formed m c class).methods) in
    record { code = j.0; judged = j.1; only = λ other h. judges_one h j.1 }
