-- The annotations of the fields of each class, as the program holds them: private to this crate. Own rule of the profile.
use Rattle.std.specs.Prelude.{◌≡◌, ◌++◌, ℕ, List, [], length, map, Option, Some, slice_get, slice_index_or}
use Rattle.std.specs.Borrow.{Bor}
use Rattle.pc_tree.specs.declared.tree.Ann.{Ann as RustAnn}
use Rattle.pc_tree.specs.declared.tree.Field.{Field as RustField}
use Rattle.pc_tree.specs.Tree.{Ann, ann_of, name_of}
use Rattle.pc_shared_maps.specs.NameMaps.{KeepsNamed}
use Rattle.pc_class.specs.Outlines.{IsMapOf}
use Rattle.pc_detail_facts.specs.declared.annotations.FieldAnnotations.{FieldAnnotations}
use Rattle.pc_detail_rules.specs.Written.{Annotated}

-- the tree of a borrowed annotation
abbrev pub annotation_lent : Bor RustAnn → Ann
annotation_lent a = ann_of a.now

-- the name of a borrowed field
abbrev pub name_of_field : Bor RustField → List ℕ
name_of_field f = (name_of f.now.name).text

-- a borrowed field with its annotation
abbrev pub annotated_lent : Bor RustField → Annotated
annotated_lent f = record { name = name_of_field f; annotation = ann_of f.now.annotation }

-- a map has the first of each name of these annotated fields
pub record IsFieldMap (f : FieldAnnotations) (those : List Annotated) (at : ℕ) : Type 0 where
  pub fields : List (Bor RustField)
  pub are : map annotated_lent fields ≡ those
  pub held : IsMapOf name_of_field f.named f.fields.items at fields

-- the map of each class has the annotated fields of that class, and map 0 has none
pub record HoldsFields (lists : List (List Annotated)) (f : FieldAnnotations) : Type 0 where
  pub none : IsFieldMap f [] 0
  pub many : length f.maps.items ≡ length lists
  pub each : (c at : ℕ) → slice_get f.maps.items c ≡ Some at → IsFieldMap f (slice_index_or lists c []) at

-- each map is kept, and fields are only added
pub record KeepsFields (old new : FieldAnnotations) : Type 0 where
  pub named : KeepsNamed old.named new.named
  pub more : List (Bor RustField)
  pub fields : new.fields.items ≡ old.fields.items ++ more
