-- The context of an expression: the classes, functions and constants that it may name, and the meanings of names there.
-- Language Reference 3.12, 4.2.2 "Resolution of names"; own rules of the profile.
use Rattle.std.specs.Prelude.{◌≡◌, ℕ, List, [], ◌∷◌, Bool as Test, true, false, if◌then◌else◌, nat_lt, Option, Some}
use Rattle.std.specs.Prelude.{None, slice_get}
use Rattle.pc_tree.specs.declared.code.Code.{Code}
use Rattle.pc_tree.specs.declared.code.Code.TheVariants.{E02, E03, E04, E20}
use Rattle.pc_scope.specs.declared.resolution.NameMeaning.{NameMeaning}
use Rattle.pc_scope.specs.declared.resolution.NameMeaning.TheVariants as meaning
use Rattle.pc_types.specs.Tree.{Tree}
use Rattle.pc_types.specs.Below.{Bases, Static}
use Rattle.pc_types.specs.Assignable.{Assignable}
use Rattle.pc_tree.specs.declared.code.Code.TheVariants.{A1, E12}
use Rattle.pc_class.specs.Facts as facts
use Rattle.pc_class.specs.Facts.{TypedParameter}
use Rattle.pc_flow.specs.Environment.{Env, current}
use Rattle.pc_rules.specs.Operations.{Label, FlowLabel, clean, in_error}

-- a signature: parameters, return type, and whether arguments may be given by name
pub record Signature : Type 0 where
  pub parameters : List TypedParameter
  pub returns : Tree
  pub takes_names : Test

-- everything that an expression may name; in an initializer only the constants and classes defined earlier, and no
-- function
pub record Context : Type 0 where
  pub bases : Bases
  pub classes : List facts.ClassFacts
  pub functions : List Signature
  pub constants : List Tree
  pub known : ℕ
  pub in_body : Test
  pub resolve : List ℕ → NameMeaning

-- the code of a flow of a type into another: none if static, A1 if only assignable, else E12
pub data Flows (bases : Bases) (s t : Tree) : Option Code → Type 0 where
  static : Static bases s t → Flows bases s t None
  dynamic : ¬ (Static bases s t) → Assignable bases s t → Flows bases s t (Some A1)
  wrong : ¬ (Assignable bases s t) → Flows bases s t (Some E12)

-- the label of a local: E04 if it is not assigned
abbrev pub local_label : Option Tree → Label
local_label None = in_error E04
local_label (Some t) = clean t

-- the label of a constant: E03, with type Any, if an initializer names it too early
abbrev pub constant_label : Option Tree → Label
constant_label None = in_error E03
constant_label (Some t) = clean t

-- the label of a name as a value: a function, a class and a reserved name are in error
abbrev pub name_label : Context → Env → NameMeaning → Label
name_label ctx env (meaning.Local x) = local_label (current env x)
name_label ctx env (meaning.Const i) = constant_label (slice_get ctx.constants i)
name_label ctx env (meaning.Func i) = if ctx.in_body then in_error E20 else in_error E03
name_label ctx env (meaning.Class c) = if nat_lt c ctx.known then in_error E20 else in_error E03
name_label ctx env (meaning.Builtin b) = in_error E20
name_label ctx env meaning.None = in_error E02

-- whether the first code of a node is E03, which replaces all other findings at it
abbrev pub is_early : List Code → Test
is_early (E03 ∷ rest) = true
is_early _ = false

-- the code of the flow of a labelled expression into a type, none if the expression is E03
abbrev pub FlowUnless : (early : Test) → Bases → Tree → Tree → Option Code → Type 0
FlowUnless true bases s t code = code ≡ None
FlowUnless false bases s t code = Flows bases s t code

-- the flow of an expression with this label into one type: its type, that type, and the code
pub record FlowAt (bases : Bases) (m : Label) (t : Tree) (flow : FlowLabel) : Type 0 where
  pub from : flow.from ≡ m.type
  pub into : flow.into ≡ t
  pub code : FlowUnless (is_early m.codes) bases m.type t flow.code

-- the flows of an expression with this label into several types, one after another
abbrev pub FlowsInto : Bases → Label → List Tree → List FlowLabel → Type 0
FlowsInto bases m [] [] = Unit {0}
FlowsInto bases m (t ∷ ts) (f ∷ fs) = FlowAt bases m t f × FlowsInto bases m ts fs
FlowsInto bases m _ _ = ⊥
