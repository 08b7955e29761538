-- The findings in the annotations of the members of a module's classes, as lists: of all fields, and of the methods
-- that bind their names. Own rule of the profile.
use Rattle.std.specs.Prelude.{ℕ, List, [], ◌∷◌, ◌++◌, Bool, if◌then◌else◌}
use Rattle.pc_tree.specs.declared.code.Finding.{Finding}
use Rattle.pc_tree.specs.Tree.{Param, FuncDef, Member, field_member, method_member, ClassDef, Module}
use Rattle.pc_scope.specs.Bindings.{classes_in}
use Rattle.pc_annotations.specs.Bases.{bases_of}
use Rattle.pc_annotations.specs.Listed.{ann_findings, option_findings}
use Rattle.pc_class.specs.Facts.{ClassFacts}
use Rattle.pc_class.specs.Entries.{MemberEntry, inherited_by, class_entries}
use Rattle.pc_class.specs.Outlines.{each_over_base}

module _ (m : Module) where
  -- the findings in the annotations of parameters
  abbrev pub params_annotated : List Param → List Finding
  params_annotated [] = []
  params_annotated (p ∷ ps) = option_findings m (bases_of m) p.annotation ++ params_annotated ps

  -- the findings in the annotations of a function: of its parameters, then of its return type
  abbrev pub def_annotated : FuncDef → List Finding
  def_annotated f = params_annotated f.params ++ option_findings m (bases_of m) f.returns

  -- the findings in the annotation of a field, none if the member is a method
  abbrev pub field_annotated : Member → List Finding
  field_annotated (field_member d) = ann_findings m (bases_of m) d.annotation
  field_annotated (method_member d) = []

  -- the findings in the annotations of a method that binds its name, none if it binds none or the member is a field
  abbrev pub method_annotated : (binds : Bool) → Member → List Finding
  method_annotated binds (field_member d) = []
  method_annotated binds (method_member d) = if binds then def_annotated d else []

  -- the findings in the annotations of the fields among members
  abbrev pub fields_annotated : List Member → List Finding
  fields_annotated [] = []
  fields_annotated (x ∷ xs) = field_annotated x ++ fields_annotated xs

  -- the findings in the annotations of the methods that entries bind
  abbrev pub methods_annotated : List MemberEntry → List Finding
  methods_annotated [] = []
  methods_annotated (e ∷ es) = method_annotated e.binds e.member ++ methods_annotated es

  -- the findings in the annotations of a class over this base: of its fields, then of the methods that bind their names
  abbrev pub class_annotated : ClassFacts → ClassDef → List Finding
  class_annotated base c = fields_annotated c.members ++ methods_annotated (class_entries (inherited_by base) c)

  -- the findings in the annotations of classes, one after another, given the number of the first
  abbrev pub classes_annotated : ℕ → List ClassDef → List Finding
  classes_annotated n cs = each_over_base class_annotated m n cs

  -- the findings in the annotations of the members of a module's classes
  unfoldable pub member_annotations : List Finding
  member_annotations = classes_annotated 0 (classes_in m.items)
