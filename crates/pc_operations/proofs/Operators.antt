-- Operators on two operands: their types by heads, loops over members, and labels by the shared kind.
use Rattle.std.proofs.Common.{◌≡◌, ◌∙◌, ◌+◌, ◌<◌, ◌≤◌, ℕ, List, [], ◌∷◌, refl, sym, arith, length, get_or, drop}
use Rattle.std.specs.Prelude.{Bool as Test, true, false, ◌||◌, if◌then◌else◌, Option, Some, None, map, Result, IfOk}
use Rattle.std.specs.Option.{option_map}
use Rattle.std.proofs.lemmas.Bool.{false≢true}
use Rattle.std.proofs.lemmas.Result.{IfOk-weaker}
use Rattle.pc_tree.specs.declared.code.Code.TheVariants.{E13}
use Rattle.pc_types.specs.declared.head.Head.{Head}
use Rattle.pc_types.specs.declared.head.Head.TheVariants as heads
use Rattle.pc_types.specs.Tree.{Tree, Any, Never, Int, Bool, Str, Union}
use Rattle.pc_types.specs.Below.{Bases}
use Rattle.pc_types.specs.Head.{head_of}
use Rattle.pc_types.specs.Shape.{members}
use Rattle.pc_flow.specs.Environment.{join_or_object}
use Rattle.pc_flow.proofs.Rest.{mapped_rest, mapped_end}
use Rattle.pc_rules.specs.Operations.{Kind, whole_kind, text_kind, kind_of, Label, clean, in_error, is_never, is_any}
use Rattle.pc_rules.specs.Operations.{pair_offers, offers_label}
use Rattle.pc_rules.specs.Computed.Findings.{brief}
use Rattle.pc_operations.specs.Internal.OperandPairs.{meet, common_onto, common, kind_with, kind_label, takes_of}
use Rattle.pc_operations.specs.Internal.OperandPairs.{gives_of, operator_label}
use Rattle.pc_rules.specs.Computed.Standing.{MeansLabel}
use Rattle.pc_rules.specs.declared.label.Label.{Label as RustLabel}
use Rattle.pc_operations.specs.declared.kinds.KindOperator.{KindOperator}
use Rattle.pc_operations.specs.declared.kinds.KindOperator.TheVariants as operators
use Rattle.pc_operations.specs.declared.kinds.Kind.{Kind as RustKind}
use Rattle.pc_operations.proofs.KindPairs.{pairs_common}

-- ---- by the head

abbrev pub kind_at : Head → Option Kind
kind_at heads.Int = Some whole_kind
kind_at heads.Bool = Some whole_kind
kind_at heads.Str = Some text_kind
kind_at _ = None

pub kind_is : (t : Tree) → kind_of t ≡ kind_at (head_of t)
kind_is Int = refl
kind_is Bool = refl
kind_is Str = refl
kind_is _ = refl

abbrev pub any_at : Head → Test
any_at heads.Any = true
any_at _ = false

pub any_is : (t : Tree) → is_any t ≡ any_at (head_of t)
any_is Any = refl
any_is _ = refl

abbrev pub never_at : Head → Test
never_at heads.Never = true
never_at _ = false

pub never_is : (t : Tree) → is_never t ≡ never_at (head_of t)
never_is Never = refl
never_is _ = refl

pub ruleset by_operator = (kind_is, any_is, never_is)

-- ---- the kind that so many types have in common

module _ {Ty : Type 0} (tree : Ty → Tree) (types : List Ty) where
  -- the kind that so many have in common, with the others, is that of all
  abbrev pub IsCommon : ℕ → Option RustKind → Type 0
  IsCommon i c = common_onto (option_map kind_with c) (drop i (map tree types)) ≡ common (map tree types)

  pub common_more : (i : ℕ) (c next : Option RustKind) (ty : Ty) → i < length types → ty ≡ get_or types i ty
      → option_map kind_with next ≡ meet (option_map kind_with c) (kind_of (tree ty)) → IsCommon i c
      → IsCommon (i + 1) next
  common_more i c next ty lt is e v = rw e (rw (mapped_rest tree types i ty lt is) at v)

  pub common_all : (i : ℕ) (c : Option RustKind) → length types ≤ i → IsCommon i c
      → option_map kind_with c ≡ common (map tree types)
  common_all i c le v = rw (mapped_end tree types i le) at v

pub common_first : {Ty : Type 0} (tree : Ty → Tree) (types : List Ty) (first : Ty) (c : Option RustKind)
    → 0 < length types → first ≡ get_or types 0 first → option_map kind_with c ≡ kind_of (tree first)
    → IsCommon tree types 0 c
common_first tree [] first c lt is e = absurd (omega arith)
common_first tree (ty ∷ types) first c lt is e = rw (e, is) refl

pub common_none : {Ty : Type 0} (tree : Ty → Tree) (types : List Ty) → length types ≡ 0 → None ≡ common (map tree types)
common_none tree [] e = refl
common_none tree (ty ∷ types) e = absurd (omega arith)

-- ---- labels

-- labels with the same codes, each once, are meant alike
pub brief_as : {Store Ty E : Type 0} (has : Store → Ty → Type 0) (tree : Ty → Tree) (store : Store)
    (r : Result (RustLabel Ty) E) (m n : Label) → brief m ≡ brief n → IfOk r (λ l. MeansLabel has tree store l m)
    → IfOk r (λ l. MeansLabel has tree store l n)
brief_as has tree store r m n e h = IfOk-weaker r (λ l. MeansLabel has tree store l m)
    (λ l. MeansLabel has tree store l n) (λ l v. record { given = v.given; is = v.is ∙ e }) h

kind_brief : (takes : Kind → Test) (gives : Kind → Tree) (c : Option Kind) → brief (kind_label takes gives c)
    ≡ kind_label takes gives c
kind_brief takes gives None = refl
kind_brief takes gives (Some k) = go (takes k)
  where
    go : (b : Test) → brief (if b then clean (gives k) else in_error E13)
        ≡ (if b then clean (gives k) else in_error E13)
    go true = refl
    go false = refl

-- the label of a kind that the operator takes
pub taken_label : (operator : KindOperator) (c : Option RustKind) (k : RustKind) → c ≡ Some k
    → takes_of operator (kind_with k) ≡ true → clean (gives_of operator (kind_with k)) ≡ kind_label (takes_of operator)
    (gives_of operator) (option_map kind_with c)
taken_label operator c k e t = rw (e, t) refl

given_first : (bases : Bases) (operator : KindOperator) (k : Kind) → join_or_object bases Never (gives_of operator k)
    ≡ gives_of operator k
given_first bases (operators.Arithmetic operator) whole_kind = refl
given_first bases (operators.Arithmetic operator) text_kind = refl
given_first bases operators.Order k = refl

given_again : (bases : Bases) (operator : KindOperator) (k : Kind) → join_or_object bases (gives_of operator k)
    (gives_of operator k) ≡ gives_of operator k
given_again bases (operators.Arithmetic operator) whole_kind = refl
given_again bases (operators.Arithmetic operator) text_kind = refl
given_again bases operators.Order k = refl

-- the label of all pairs of members of two types is that of the kind in common
pub pairs_are : (bases : Bases) (operator : KindOperator) (s t : Tree) → (is_never s || is_never t) ≡ false
    → brief (kind_label (takes_of operator) (gives_of operator) (meet (common (members s)) (common (members t))))
    ≡ brief (offers_label bases (pair_offers (takes_of operator) (gives_of operator) (members s) (members t)))
pairs_are bases operator s t e = kind_brief (takes_of operator) (gives_of operator)
    (meet (common (members s)) (common (members t))) ∙ sym (left s e)
  where
    Same : List Tree → List Tree → Type 0
    Same ms ns = brief (offers_label bases (pair_offers (takes_of operator) (gives_of operator) ms ns))
        ≡ kind_label (takes_of operator) (gives_of operator) (meet (common ms) (common ns))

    both : (m n : Tree) (ms ns : List Tree) → Same (m ∷ ms) (n ∷ ns)
    both m n ms ns = pairs_common (takes_of operator) (gives_of operator) bases (given_first bases operator)
        (given_again bases operator) m n ms ns

    right : (m : Tree) (ms : List Tree) (y : Tree) → is_never y ≡ false → Same (m ∷ ms) (members y)
    right m ms Never h = absurd (false≢true (sym h))
    right m ms (Union a b) h = both m a ms (members b)
    right m ms y h = both m y ms []

    left : (x : Tree) → (is_never x || is_never t) ≡ false → Same (members x) (members t)
    left Never h = absurd (false≢true (sym h))
    left (Union a b) h = right a (members b) t h
    left x h = right x [] t h

module _ (bases : Bases) (operator : KindOperator) (s t : Tree) where
  pub on_never : (is_never s || is_never t) ≡ true → clean Never ≡ operator_label bases operator s t
  on_never e = rw e refl
