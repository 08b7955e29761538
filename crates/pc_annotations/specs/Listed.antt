-- The findings of an annotation as a list, in the order in which a reader finds them: the computed twin of AnnFinds.
-- Own rule of the profile.
use Rattle.std.specs.Prelude.{◌↔◌, List, [], ◌∷◌, ◌++◌, if◌then◌else◌, nat_le, Option, Some, None, Contains}
use Rattle.pc_source.specs.declared.place.Place.{Place}
use Rattle.pc_tree.specs.declared.code.Code.{Code}
use Rattle.pc_tree.specs.declared.code.Code.TheVariants.{E09, E10, E26}
use Rattle.pc_tree.specs.declared.code.Finding.{Finding}
use Rattle.pc_tree.specs.declared.tree.Ann.{Ann as RustAnn}
use Rattle.pc_tree.specs.Code.{finding}
use Rattle.pc_tree.specs.Tree.{Ann, Anns, named, none_type, applied, applied_empty, no_anns, more_anns, ann_of, Module}
use Rattle.pc_tree.specs.Tree as tree
use Rattle.pc_tree.specs.Depth.{place_of_ann}
use Rattle.pc_scope.specs.Resolution.{resolve_in_module}
use Rattle.pc_types.specs.Tree.{Tree}
use Rattle.pc_types.specs.Below.{Bases}
use Rattle.pc_types.specs.Shape.{nodes, node_limit}
use Rattle.pc_annotations.specs.Annotations.{named_type, applied_type, empty_type, union_type, reading, read_anns, AnnFinds}
use Rattle.pc_annotations.specs.Annotations.{OptionAnnFinds}

-- annotations of the program, as trees
abbrev pub anns_of_list : List RustAnn → Anns
anns_of_list [] = no_anns
anns_of_list (a ∷ rest) = more_anns (ann_of a) (anns_of_list rest)

-- a finding of a code if there is no type
abbrev pub without_type : Option Tree → Place → Code → List Finding
without_type None p code = finding p code ∷ []
without_type (Some t) p code = []

-- an E09 if there is no type, else the findings inside
abbrev pub inside_type : Option Tree → Place → List Finding → List Finding
inside_type None p inside = finding p E09 ∷ []
inside_type (Some t) p inside = inside

module _ (m : Module) (bases : Bases) where
  -- the findings of a part of an annotation, and of several parts
  abbrev mutual
    -- E09 and E10 in a part
    pub part_findings : Ann → List Finding
    part_findings (named n) = without_type (named_type m.imports_any (resolve_in_module m n.text)) n.place E09
    part_findings (none_type p) = []
    part_findings (applied p head arguments) =
        inside_type (applied_type (resolve_in_module m head.text) (read_anns m bases arguments)) p
        (parts_findings arguments)
    part_findings (applied_empty p head) = without_type (empty_type (resolve_in_module m head.text)) p E09
    part_findings (tree.union p parts) = parts_findings parts
        ++ without_type (union_type bases (read_anns m bases parts)) p E10

    -- E09 and E10 in several parts, in their order
    pub parts_findings : Anns → List Finding
    parts_findings no_anns = []
    parts_findings (more_anns a rest) = part_findings a ++ parts_findings rest

  -- the findings of an annotation
  abbrev pub ann_findings : Ann → List Finding
  ann_findings a = part_findings a
      ++ (if nat_le (nodes (reading m bases a)) node_limit then [] else finding (place_of_ann a) E26 ∷ [])

  -- the findings of an annotation, none if there is no annotation
  abbrev pub option_findings : Option Ann → List Finding
  option_findings None = []
  option_findings (Some a) = ann_findings a

-- the list of the findings of an annotation has exactly those
abbrev pub AnnFindingsAreListed : Type 0
AnnFindingsAreListed = (m : Module) (bases : Bases) (a : Ann) (f : Finding)
    → Contains (ann_findings m bases a) f ↔ AnnFinds m bases a f

-- the list of the findings of an annotation that may be missing has exactly those
abbrev pub OptionalFindingsAreListed : Type 0
OptionalFindingsAreListed = (m : Module) (bases : Bases) (a : Option Ann) (f : Finding)
    → Contains (option_findings m bases a) f ↔ OptionAnnFinds m bases a f
