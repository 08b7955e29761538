-- The findings about classes: E06, E07, E08, E11, A8.
-- Own rules of the profile; library reference, `dataclasses`, order of fields.
use Rattle.std.specs.Prelude.{◌≡◌, ℕ, List, [], map, take, length, Bool, ◌||◌, IsTrue, IsFalse, Some, None, is_some}
use Rattle.std.specs.Prelude.{slice_get}
use Rattle.std.specs.List.{list_any}
use Rattle.pc_tree.specs.declared.code.Code.{Code}
use Rattle.pc_tree.specs.declared.code.Code.TheVariants.{E06, E07, E08}
use Rattle.pc_tree.specs.declared.code.Finding.{Finding}
use Rattle.pc_tree.specs.Code.{finding}
use Rattle.pc_tree.specs.Stopping.{IsStopping, name_of_member}
use Rattle.pc_tree.specs.Tree.{Name, FuncDef, Field, Member, field_member, method_member, ClassDef, Module}
use Rattle.pc_scope.specs.Bindings.{classes_in, methods_in}
use Rattle.pc_class.specs.Bases.{bases_of, base_named}
use Rattle.pc_class.specs.Facts.{ClassFacts, base_facts, classes_of, binds_field, binds_method, own_fields, method_made}
use Rattle.pc_class.specs.Overrides.{Judges, overridden}

-- a class of the module, with its number
pub record ClassNumbered (m : Module) (c : ℕ) (class : ClassDef) : Type 0 where
  pub is : slice_get (classes_in m.items) c ≡ Some class

-- the facts of the base of a class
abbrev pub base_class : Module → ℕ → ClassDef → ClassFacts
base_class m c class = base_facts (classes_of m) (base_named m c class.base)

-- E07: a class names a base that is no earlier class
pub record HasNoBase (m : Module) (class : ClassDef) (c : ℕ) (f : Finding) : Type 0 where
  pub named : Name
  pub base : class.base ≡ Some named
  pub none : base_named m c (Some named) ≡ None
  pub is : f ≡ finding named.place E07

-- the texts of the names of members
abbrev pub member_texts : List Member → List (List ℕ)
member_texts members = map (λ x. (name_of_member x).text) members

-- E06: a member's name twice in a class, or one that clashes with an ancestor's; it stops a run
pub record IsTwiceMember (m : Module) (f : Finding) : Type 0 where
  pub code : f.code ≡ E06
  pub stops : IsStopping m f.place E06

-- a field of the base or an earlier field of the class has a default
abbrev pub has_default_before : Module → ClassFacts → List Member → Bool
has_default_before m base members = list_any (λ p. p.has_default) base.fields
    || list_any (λ p. p.has_default) (own_fields m base [] members)

-- E08: a field without a default comes after one with a default
pub record IsFieldBehind (m : Module) (class : ClassDef) (c : ℕ) (f : Finding) : Type 0 where
  pub at : ℕ
  pub field : Field
  pub here : slice_get class.members at ≡ Some (field_member field)
  pub binds : IsTrue (binds_field (base_class m c class) (member_texts (take at class.members)) field.name.text)
  pub none : IsFalse (is_some field.default)
  pub behind : IsTrue (has_default_before m (base_class m c class) (take at class.members))
  pub is : f ≡ finding field.name.place E08

-- E11, A8: at the name of a method that overrides, if it binds its name; its number is the number of methods before it
-- in its class
pub record IsOverride (m : Module) (class : ClassDef) (c : ℕ) (f : Finding) : Type 0 where
  pub at : ℕ
  pub method : FuncDef
  pub code : Code
  pub here : slice_get class.members at ≡ Some (method_member method)
  pub binds : IsTrue (binds_method (base_class m c class) (member_texts (take at class.members)) method.name.text)
  pub judged : Judges (bases_of m) (overridden (base_class m c class).methods method.name.text)
      (method_made m c (length (methods_in (take at class.members))) method) (Some code)
  pub is : f ≡ finding method.name.place code

-- the findings about classes
pub data ClassFinds (m : Module) (f : Finding) : Type 0 where
  base : (c : ℕ) (class : ClassDef) → ClassNumbered m c class → HasNoBase m class c f → ClassFinds m f
  member : IsTwiceMember m f → ClassFinds m f
  order : (c : ℕ) (class : ClassDef) → ClassNumbered m c class → IsFieldBehind m class c f → ClassFinds m f
  override : (c : ℕ) (class : ClassDef) → ClassNumbered m c class → IsOverride m class c f → ClassFinds m f
