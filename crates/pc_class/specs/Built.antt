-- The contents of a class table as it is built, and the changes that one more class makes.
-- Own rule of the profile.
use Rattle.std.specs.Prelude.{◌≡◌, ℕ, suc, List, [], ◌∷◌, ◌++◌, length, map, Some, All, slice_get}
use Rattle.pc_tree.specs.Tree.{ClassDef, Member, Module, member_of}
use Rattle.pc_tree.specs.declared.code.Code.TheVariants.{E07}
use Rattle.pc_tree.specs.declared.code.Finding.{Finding}
use Rattle.pc_scope.specs.Bindings.{classes_in}
use Rattle.pc_tree.specs.Code.{at_code}
use Rattle.pc_annotations.specs.Bases.{bases_of, base_named}
use Rattle.pc_types.specs.Tree.{Tree}
use Rattle.pc_class.specs.declared.entries.ClassMember.{ClassMember}
use Rattle.pc_class.specs.declared.parts.ClassArena.{ClassArena}
use Rattle.pc_shared_maps.specs.NameMaps.{NameMaps}
use Rattle.pc_class.specs.Facts.{ClassFacts, base_facts, class_facts_behind}
use Rattle.pc_class.specs.Entries.{missing_bases}
use Rattle.pc_class.specs.Annotated.{class_annotated}
use Rattle.pc_class.specs.Outlines.{IsMapOf, found_over, classes_found}
use Rattle.pc_class.specs.Parts.{classes_of_table, HasParts, IsClassTable}
use Rattle.pc_class.specs.Tables.{classes_with}

-- the items added to a list mean these, and each satisfies `has`; a map has them by name, between those in front and
-- those at the back
pub record Added {X Y : Type 0} (name : X → List ℕ) (has : X → Type 0) (meaning : X → Y) (d : NameMaps)
    (old new : List X) (at : ℕ) (front back : List X) (own : List Y) : Type 0 where
  pub these : List X
  pub all : new ≡ old ++ these
  pub means : map meaning these ≡ own
  pub given : All has these
  pub held : IsMapOf name d new at ((front ++ these) ++ back)

-- the members of the program's entries
abbrev pub members_of_entries : List ClassMember → List Member
members_of_entries es = map (λ (e : ClassMember). member_of e.member.now) es

-- a class of the module, with its number
abbrev pub IsClassAt : Module → ℕ → ClassDef → Type 0
IsClassAt m c class = slice_get (classes_in m.items) c ≡ Some class

-- a table with one more class: the store gave its types, and it means the earlier classes and this one
pub record IsOneMore {Ty : Type 0} (tree : Ty → Tree) (has : Ty → Type 0) (m : Module) (class : ClassDef)
    (old new : ClassArena Ty) : Type 0 where
  pub table : IsClassTable new
  pub given : HasParts has new
  pub classes : classes_with tree (classes_of_table new) ≡ classes_with tree (classes_of_table old)
      ++ class_facts_behind m (classes_with tree (classes_of_table old)) (length old.classes.items) class ∷ []

-- the findings of a rule on classes, each class over its base, given the classes before them
abbrev pub each_behind : (over : ClassFacts → ClassDef → List Finding) → Module → List ClassFacts → ℕ → List ClassDef
    → List Finding
each_behind over m earlier c [] = []
each_behind over m earlier c (class ∷ rest) = over (base_facts earlier (base_named m c class.base)) class
    ++ each_behind over m (earlier ++ class_facts_behind m earlier c class ∷ []) (suc c) rest

-- the findings about the names of members of classes, given the classes before them: E06, E08
abbrev pub found_behind : Module → List ClassFacts → ℕ → List ClassDef → List Finding
found_behind m earlier c classes = each_behind found_over m earlier c classes

-- the findings in the annotations of the members of classes, given the classes before them
abbrev pub annotated_behind : Module → List ClassFacts → ℕ → List ClassDef → List Finding
annotated_behind m earlier c classes = each_behind (class_annotated m) m earlier c classes

-- the findings about classes by names alone, as a list: E07, then E06 and E08 of each class
unfoldable pub class_findings : Module → List Finding
class_findings m = at_code E07 (missing_bases (bases_of m) 0 (classes_in m.items))
    ++ classes_found m 0 (classes_in m.items)
