-- The results of operations on a member, by its head and its parts.
use Rattle.std.proofs.Common.{◌≡◌, ◌∙◌, sym, ap, ℕ, List, [], ◌∷◌, refl, Option, Some, None}
use Rattle.std.specs.Prelude.{unwrap_or, slice_get}
use Rattle.std.proofs.lemmas.List.Elements.{All-contains}
use Rattle.pc_tree.specs.declared.code.Code.TheVariants.{A2, A3, A5, A6, E13, E16, E18, E19, E20, E27}
use Rattle.pc_types.specs.declared.head.Head.{Head}
use Rattle.pc_types.specs.declared.head.Head.TheVariants as heads
use Rattle.pc_types.specs.Tree.{Tree, Trees, Any, Int, Bool, Str, NoneType, Class, TupleOf, Union}
use Rattle.pc_types.specs.Below.{Bases}
use Rattle.pc_types.specs.Head.{head_of}
use Rattle.pc_types.specs.Shape.{parts, list_of_trees}
use Rattle.pc_class.specs.Facts as facts
use Rattle.pc_class.specs.Facts.{TypedParameter, Method, field_by_name, method_by_name, class_facts_at}
use Rattle.pc_class.specs.Tables.{ClassEntry, HasEntry, HasEntries, HasParameter, IsField}
use Rattle.pc_class.specs.declared.table.Parameter.{Parameter as RustParameter}
use Rattle.pc_flow.specs.Environment.{join_all}
use Rattle.pc_operations.specs.JudgedOperations.{item_at}
use Rattle.pc_rules.specs.Operations.{Offer, supported, unsure, suits_not, negative_member, attribute_found}
use Rattle.pc_rules.specs.Operations.{attribute_member, index_member, iterate_member, contain_member, length_member}

-- a part of a type
abbrev pub part_at : List Tree → ℕ → Tree
part_at ps i = unwrap_or (slice_get ps i) Any

abbrev pub negative_at : Head → Offer
negative_at heads.Int = supported Int []
negative_at heads.Bool = supported Int []
negative_at heads.Any = unsure A2 Any
negative_at _ = suits_not E13

pub negative_is : (t : Tree) → negative_member t ≡ negative_at (head_of t)
negative_is Int = refl
negative_is Bool = refl
negative_is Any = refl
negative_is _ = refl

abbrev pub length_at : Head → Offer
length_at heads.Str = supported Int []
length_at heads.List = supported Int []
length_at heads.Dict = supported Int []
length_at (heads.Tuple n) = supported Int []
length_at heads.Any = unsure A6 Int
length_at _ = suits_not E27

pub length_is : (t : Tree) → length_member t ≡ length_at (head_of t)
length_is Any = refl
length_is _ = refl

abbrev pub iterate_at : Bases → Head → List Tree → Offer
iterate_at bases heads.List ps = supported (part_at ps 0) []
iterate_at bases heads.Dict ps = supported (part_at ps 0) []
iterate_at bases heads.Str ps = supported Str []
iterate_at bases (heads.Tuple n) ps = supported (join_all bases ps) []
iterate_at bases heads.Any ps = unsure A5 Any
iterate_at bases _ ps = suits_not E18

pub iterate_is : (bases : Bases) (t : Tree) → iterate_member bases t ≡ iterate_at bases (head_of t) (parts t)
iterate_is bases Any = refl
iterate_is bases _ = refl

abbrev pub contain_at : Head → Offer
contain_at heads.Str = supported Bool (Str ∷ [])
contain_at heads.Dict = supported Bool (Union Int (Union Str NoneType) ∷ [])
contain_at heads.List = supported Bool []
contain_at (heads.Tuple n) = supported Bool []
contain_at heads.Any = unsure A2 Bool
contain_at _ = suits_not E19

pub contain_is : (t : Tree) → contain_member t ≡ contain_at (head_of t)
contain_is Any = refl
contain_is _ = refl

abbrev pub index_at : Bases → Option ℕ → Head → List Tree → Offer
index_at bases literal heads.List ps = supported (part_at ps 0) (Int ∷ [])
index_at bases literal heads.Str ps = supported Str (Int ∷ [])
index_at bases literal (heads.Tuple n) ps = supported (item_at bases literal ps) (Int ∷ [])
index_at bases literal heads.Dict ps = supported (part_at ps 1) (part_at ps 0 ∷ [])
index_at bases literal heads.Any ps = unsure A3 Any
index_at bases literal _ ps = suits_not E16

tuple_index : (bases : Bases) (literal : Option ℕ) (ts : Trees) → index_member bases literal (TupleOf ts)
    ≡ supported (item_at bases literal (list_of_trees ts)) (Int ∷ [])
tuple_index bases None ts = refl
tuple_index bases (Some i) ts = refl

pub index_is : (bases : Bases) (literal : Option ℕ) (t : Tree) → index_member bases literal t ≡ index_at bases literal
    (head_of t) (parts t)
index_is bases literal (TupleOf ts) = tuple_index bases literal ts
index_is bases literal _ = refl

class_head : (t : Tree) (c : ℕ) → heads.Class c ≡ head_of t → t ≡ Class c
class_head (Class d) c e = let h : d ≡ c = cc in ap Class h
class_head _ c e = cc

-- a method's name read on an instance
pub method_read : (classes : List facts.ClassFacts) (name : List ℕ) (t : Tree) (c : ℕ) (m : Method)
    → heads.Class c ≡ head_of t → None ≡ field_by_name (class_facts_at classes c).fields name
    → Some m ≡ method_by_name (class_facts_at classes c).methods name → attribute_member classes name t ≡ suits_not E20
method_read classes name t c m e f h =
    ap (attribute_member classes name) (class_head t c e) ∙ ap (λ (o : Option TypedParameter). attribute_found o
    (method_by_name (class_facts_at classes c).methods name)) (sym f)
    ∙ ap (λ (o : Option Method). attribute_found None o) (sym h)

-- the store gave the type of a field of a table
pub field_given : {Ty : Type 0} (has : Ty → Type 0) (es : List (ClassEntry Ty)) (p : RustParameter Ty)
    → HasEntries has es → IsField es p → has p.ty
field_given has es p h f = All-contains (HasParameter has) f.class.fields p
    (All-contains (HasEntry has) es f.class h f.listed).fields f.among

pub ruleset by_head = (negative_is, length_is, iterate_is, contain_is, index_is)
