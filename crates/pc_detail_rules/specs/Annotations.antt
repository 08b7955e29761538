-- The details of annotations: why one is not a type, which members do not make a union, and the number of nodes.
-- Own rule of the profile.
use Rattle.std.specs.Prelude.{◌≡◌, ℕ, List, [], ◌∷◌, if◌then◌else◌, Bool as Test, Option, Some, None, is_none, length}
use Rattle.std.specs.Prelude.{◌-◌, ◌^◌, false, min, nat_le, slice_get, true}
use Rattle.std.specs.List.{list_all}
use Rattle.std.specs.Option.{option_map, option_and_then}
use Rattle.pc_tree.specs.declared.code.Code.{Code}
use Rattle.pc_tree.specs.declared.code.Code.TheVariants.{E26}
use Rattle.pc_tree.specs.declared.code.Finding.{Finding}
use Rattle.pc_tree.specs.Tree.{Name, Ann, Anns, named, applied, applied_empty, union, Module}
use Rattle.pc_scope.specs.declared.resolution.Builtin.{Builtin}
use Rattle.pc_scope.specs.declared.resolution.Builtin.TheVariants as builtin
use Rattle.pc_scope.specs.declared.resolution.NameMeaning.{NameMeaning}
use Rattle.pc_scope.specs.declared.resolution.NameMeaning.TheVariants as meaning
use Rattle.pc_scope.specs.Bindings.{constants_in, functions_in}
use Rattle.pc_scope.specs.Resolution.{resolve_in_module}
use Rattle.pc_types.specs.Tree.{Tree}
use Rattle.pc_types.specs.Below.{Bases}
use Rattle.pc_types.specs.Shape.{nodes, node_limit}
use Rattle.pc_annotations.specs.Annotations.{reading, read_anns, is_member, are_apart, is_union}
use Rattle.pc_annotations.specs.Bases.{bases_of}
use Rattle.pc_detail_texts.specs.Details as detail
use Rattle.pc_detail_texts.specs.Details.{Detail, AnnotationFault, Clash}

-- ---- types that are written out

-- whether a code is that of a type with too many nodes
abbrev is_large_code : Code → Test
is_large_code E26 = true
is_large_code c = false

-- whether a finding is of a type with too many nodes
abbrev pub is_large : Finding → Test
is_large f = is_large_code f.code

-- a type that a detail writes out: of at most 256 nodes
abbrev pub is_shown : Tree → Test
is_shown t = nat_le (nodes t) node_limit

-- the type of an annotation, if a detail writes it out
abbrev pub shown_reading : Module → Ann → Option Tree
shown_reading m a = if is_shown (reading m (bases_of m) a) then Some (reading m (bases_of m) a) else None

-- types, if a detail writes out each
abbrev pub shown_all : List Tree → Option (List Tree)
shown_all ts = if list_all is_shown ts then Some ts else None

-- the types of annotations, if a detail writes out each
abbrev pub shown_readings : Module → Anns → Option (List Tree)
shown_readings m parts = shown_all (read_anns m (bases_of m) parts)

-- ---- E10

-- the first of some parts that cannot be in one union with this one
abbrev pub clash_with : Bases → Tree → List Tree → Option (Clash Tree)
clash_with bases t [] = None
clash_with bases t (u ∷ us) = if are_apart bases t u then clash_with bases t us else Some (detail.two t u)

-- a clash if there is one, else the next
abbrev pub clash_or : Option (Clash Tree) → Option (Clash Tree) → Option (Clash Tree)
clash_or None other = other
clash_or (Some x) other = Some x

-- the first part that may not be a member of a union, or the first two that cannot be in one
abbrev pub clash_among : Bases → List Tree → Option (Clash Tree)
clash_among bases [] = None
clash_among bases (t ∷ ts) = if is_member t then clash_or (clash_with bases t ts) (clash_among bases ts)
    else Some (detail.no_member t)

-- the law that parts make a union exactly if there is no clash among them
abbrev pub ClashesAreExact : Type 0
ClashesAreExact = (bases : Bases) (parts : List Tree) → is_union bases parts ≡ is_none (clash_among bases parts)

-- E10: the first clash among the parts of the union
abbrev pub union_detail : Module → Ann → Option (Detail Tree)
union_detail m (union p parts) =
    option_map detail.union (option_and_then (clash_among (bases_of m)) (shown_readings m parts))
union_detail m a = None

-- ---- E26

-- a number of nodes as it is told: 2^64 - 1 at most
abbrev pub told_nodes : ℕ → ℕ
told_nodes n = min n (2 ^ 64 - 1)

-- E26 at an annotation: the number of nodes of its type
abbrev pub annotation_size : Module → Ann → Detail Tree
annotation_size m a = detail.size (told_nodes (nodes (reading m (bases_of m) a)))

-- ---- E09

-- the fault of a name that is not a class, at the place where the module binds it, if it does
abbrev pub no_class : (name : List ℕ) → Option Name → AnnotationFault Tree
no_class word None = detail.unknown_type word
no_class word (Some n) = detail.no_type word n.place

-- the reason why a reserved name alone is not a type: a container needs types, `Any` its header; no other is a type
abbrev pub fault_of_builtin : (name : List ℕ) → Builtin → AnnotationFault Tree
fault_of_builtin word builtin.List = detail.bare word
fault_of_builtin word builtin.Dict = detail.bare word
fault_of_builtin word builtin.Tuple = detail.bare word
fault_of_builtin word builtin.Any = detail.any_not_imported
fault_of_builtin word b = detail.reserved_no_type word

-- the reason why a name of this meaning alone is not a type
abbrev pub fault_of_name : Module → (name : List ℕ) → NameMeaning → AnnotationFault Tree
fault_of_name m word (meaning.Const i) =
    no_class word (option_map (λ c. c.name) (slice_get (constants_in m.items) i))
fault_of_name m word (meaning.Func i) =
    no_class word (option_map (λ f. f.name) (slice_get (functions_in m.items) i))
fault_of_name m word (meaning.Builtin b) = fault_of_builtin word b
fault_of_name m word r = detail.unknown_type word

-- the reason why a container does not take these types: their number, or a key that is neither int nor str
abbrev pub fault_of_applied : (name : List ℕ) → Builtin → List Tree → AnnotationFault Tree
fault_of_applied word builtin.List ts = detail.takes_types word 1 (length ts)
fault_of_applied word builtin.Dict (k ∷ v ∷ []) = detail.key_type k
fault_of_applied word builtin.Dict ts = detail.takes_types word 2 (length ts)
fault_of_applied word b ts = detail.takes_none word

-- the reason why a name of this meaning does not take these types: it is not a type itself, or takes none
abbrev pub fault_of_types : Module → (name : List ℕ) → NameMeaning → List Tree → AnnotationFault Tree
fault_of_types m word (meaning.Builtin b) ts = fault_of_applied word b ts
fault_of_types m word (meaning.Class c) ts = detail.takes_none word
fault_of_types m word r ts = fault_of_name m word r

-- a fault of an annotation, if a detail writes out its type
abbrev pub shown_fault : AnnotationFault Tree → Option (AnnotationFault Tree)
shown_fault (detail.key_type t) = if is_shown t then Some (detail.key_type t) else None
shown_fault fault = Some fault

-- why the annotation is no type, if a detail writes out the type that this names
abbrev pub annotation_fault : Module → Ann → Option (AnnotationFault Tree)
annotation_fault m (named n) = Some (fault_of_name m n.text (resolve_in_module m n.text))
annotation_fault m (applied p head arguments) =
    shown_fault (fault_of_types m head.text (resolve_in_module m head.text) (read_anns m (bases_of m) arguments))
annotation_fault m (applied_empty p head) =
    shown_fault (fault_of_types m head.text (resolve_in_module m head.text) [])
annotation_fault m a = None

-- E09: why the annotation is no type
abbrev pub annotation_detail : Module → Ann → Option (Detail Tree)
annotation_detail m a = option_map detail.annotation (annotation_fault m a)
