-- The annotations by which the types of targets are written: of parameters, fields and locals; and the text of an
-- annotation. Own rule of the profile.
use Rattle.std.specs.Prelude.{ℕ, suc, List, [], ◌∷◌, ◌++◌, map, flat_map, find, Bool as Test, ◌&&◌, Option, Some, None}
use Rattle.std.specs.Prelude.{codes, bytes_eq, slice_index_or}
use Rattle.std.specs.Option.{option_map, option_and_then}
use Rattle.pc_tree.specs.Stopping.{has_none}
use Rattle.pc_tree.specs.Tree.{Ann, Anns, named, none_type, applied, applied_empty, union, no_anns, more_anns, Param, FuncDef}
use Rattle.pc_tree.specs.Tree.{Stmt, annotated, Member, field_member, method_member, ClassDef, Module}
use Rattle.pc_scope.specs.declared.resolution.Owner.TheVariants as owners
use Rattle.pc_scope.specs.Bindings.{classes_in}
use Rattle.pc_scope.specs.Resolution.{function_of}
use Rattle.pc_types.specs.Tree.{Tree}
use Rattle.pc_types.specs.Below.{Bases, base_of}
use Rattle.pc_types.specs.Join.{same_tree}
use Rattle.pc_annotations.specs.Annotations.{read_ann}
use Rattle.pc_annotations.specs.Bases.{bases_of}
use Rattle.pc_annotations.specs.Listed.{ann_findings}
use Rattle.pc_class.specs.Facts.{TypedParameter, Method}
use Rattle.pc_rules.specs.Calls.{index_of_parameter}
use Rattle.pc_detail_rules.specs.Nodes.{stmts_in_suite}

-- ---- the text of an annotation

-- the text of an annotation, with a space on each side of `|` and after each comma, and nowhere else
abbrev mutual
  -- an annotation, with its parts in the order of the source
  pub ann_text : Ann → List ℕ
  ann_text (named n) = n.text
  ann_text (none_type p) = codes "None"
  ann_text (applied p head arguments) = head.text ++ (codes "[" ++ (anns_text (codes ", ") arguments ++ codes "]"))
  ann_text (applied_empty p head) = head.text ++ codes "[()]"
  ann_text (union p parts) = anns_text (codes " | ") parts

  -- annotations with a separator between them
  pub anns_text : (separator : List ℕ) → Anns → List ℕ
  anns_text separator no_anns = []
  anns_text separator (more_anns a rest) = ann_text a ++ further_anns_text separator rest

  -- further annotations, each after a separator
  pub further_anns_text : (separator : List ℕ) → Anns → List ℕ
  further_anns_text separator no_anns = []
  further_anns_text separator (more_anns a rest) = separator ++ (ann_text a ++ further_anns_text separator rest)

-- whether an annotation denotes a type: it has no findings, and it is read as that type
abbrev pub denotes : Module → Ann → Tree → Test
denotes m a t = has_none (ann_findings m (bases_of m) a) && same_tree (read_ann m (bases_of m) a) t

-- ---- annotated names

-- a name with its annotation
pub record Annotated : Type 0 where
  pub name : List ℕ
  pub annotation : Ann

-- the annotation of the first of this name, if there is one
abbrev pub annotation_named : List Annotated → List ℕ → Option Ann
annotation_named those word = option_map (λ a. a.annotation) (find (λ a. bytes_eq word a.name) those)

-- a name, if it is annotated
abbrev pub annotated_name : (name : List ℕ) → Option Ann → List Annotated
annotated_name word None = []
annotated_name word (Some a) = record { name = word; annotation = a } ∷ []

-- a parameter, if it is annotated
abbrev pub annotated_param : Param → List Annotated
annotated_param p = annotated_name p.name.text p.annotation

-- the local that a statement annotates, if it annotates one
abbrev pub annotated_stmt : Stmt → List Annotated
annotated_stmt (annotated p n a e) = annotated_name n.text (Some a)
annotated_stmt s = []

-- the annotated locals of a function: its parameters, and then those that its statements annotate
abbrev pub annotated_locals : FuncDef → List Annotated
annotated_locals f = flat_map annotated_param f.params ++ flat_map annotated_stmt (stmts_in_suite f.body)

-- the annotation of a local of a function, if it has one
abbrev pub local_annotation : FuncDef → List ℕ → Option Ann
local_annotation f word = annotation_named (annotated_locals f) word

-- ---- fields

-- a field with its annotation
abbrev pub annotated_field : Member → List Annotated
annotated_field (field_member d) = annotated_name d.name.text (Some d.annotation)
annotated_field (method_member f) = []

-- the fields of a class
abbrev pub annotated_fields : ClassDef → List Annotated
annotated_fields c = flat_map annotated_field c.members

-- the fields of the base among the earlier classes, none if there is no base
abbrev pub inherited_fields : (earlier : List (List Annotated)) → Option ℕ → List Annotated
inherited_fields earlier None = []
inherited_fields earlier (Some b) = slice_index_or earlier b []

-- the fields of the earlier classes and of these, each after those of its base, given the number of the first
abbrev pub fields_behind : Bases → (earlier : List (List Annotated)) → ℕ → List ClassDef → List (List Annotated)
fields_behind bases earlier c [] = earlier
fields_behind bases earlier c (class ∷ rest) = fields_behind bases
    (earlier ++ (inherited_fields earlier (base_of bases c) ++ annotated_fields class) ∷ []) (suc c) rest

-- the fields of each class of a module, each after those of its base
abbrev pub annotated_classes : Module → List (List Annotated)
annotated_classes m = fields_behind (bases_of m) [] 0 (classes_in m.items)

-- the annotation of a field of the class with this number, in the class or in an ancestor that declares it
unfoldable pub field_annotation : Module → ℕ → List ℕ → Option Ann
field_annotation m c word = annotation_named (slice_index_or (annotated_classes m) c []) word

-- ---- parameters

-- the annotation of each parameter of a function, if there is one
abbrev pub annotations_of : Option FuncDef → List (Option Ann)
annotations_of None = []
annotations_of (Some f) = map (λ p. p.annotation) f.params

-- the annotation of each parameter of a method
abbrev pub method_annotations : Module → Method → List (Option Ann)
method_annotations m x = annotations_of (function_of m (owners.Method x.owner x.number))

-- the annotation of each of these fields of a class
abbrev pub field_annotations : Module → ℕ → List TypedParameter → List (Option Ann)
field_annotations m c fields = map (λ q. field_annotation m c q.name) fields

-- the annotation at a position, if there is one
abbrev pub written_at : List (Option Ann) → ℕ → Option Ann
written_at annotations k = slice_index_or annotations k None

-- the annotation of the first of these parameters that has this name
abbrev pub annotation_by_name : List TypedParameter → List (Option Ann) → List ℕ → Option Ann
annotation_by_name ps annotations word = option_and_then (written_at annotations) (index_of_parameter ps word)
