-- The annotations of the locals of a function, as the program holds them: private to this crate. Own rule of the profile.
use Rattle.std.specs.Prelude.{◌≡◌, ℕ, List, Option}
use Rattle.std.specs.BTreeMap.{get_by}
use Rattle.std.specs.Cmp.Lexicographic.{slice_cmp}
use Rattle.std.specs.Option.{option_map}
use Rattle.std.specs.Ordering.{nat_cmp}
use Rattle.pc_tree.specs.Tree.{Ann}
use Rattle.pc_flow_details.specs.declared.locals.LocalAnnotations.{LocalAnnotations}
use Rattle.pc_detail_facts.specs.Annotated.{annotation_lent}
use Rattle.pc_detail_rules.specs.Written.{Annotated, annotation_named}

-- the annotation that is held of a local, if there is one
abbrev pub local_held : LocalAnnotations → List ℕ → Option Ann
local_held l word = option_map annotation_lent (get_by (λ k. slice_cmp nat_cmp word k.now) l.first)

-- the annotations that are held are the first of each of these names
pub record AreLocals (l : LocalAnnotations) (those : List Annotated) : Type 0 where
  pub at : (word : List ℕ) → local_held l word ≡ annotation_named those word
