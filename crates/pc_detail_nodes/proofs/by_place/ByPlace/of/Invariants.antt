use Rattle.std.proofs.Common.{◌≡◌, [], Some, take}
use Rattle.std.specs.BTreeMap.{get}
use Rattle.std.specs.Option.{option_map}
use Rattle.std.specs.Prelude.{Contains}
use Rattle.pc_tree.specs.declared.code.Finding.{Finding}
use Rattle.pc_notes.specs.Texts.{place_cmp}
use Rattle.pc_detail_nodes.proofs.by_place.ByPlace.of.Given as goal

abbrev pub invariant-loop-finding : goal.invariant-loop-finding
invariant-loop-finding g l = (f : Finding) → Contains (take l.finding-index l.findings) f
    → option_map (λ v. v.items) (get place_cmp l.lists f.place) ≡ Some []
