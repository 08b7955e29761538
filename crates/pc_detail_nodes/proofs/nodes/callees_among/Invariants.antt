use Rattle.std.proofs.Common.{◌≡◌, map, take}
use Rattle.std.specs.BTreeMap.{get}
use Rattle.std.specs.List.{list_any}
use Rattle.std.specs.Prelude.{is_some}
use Rattle.pc_source.specs.declared.place.Place.{Place}
use Rattle.pc_notes.specs.Texts.{place_cmp}
use Rattle.pc_detail_rules.specs.Explains.{calls_at}
use Rattle.pc_detail_facts.specs.Held.{owned_of}
use Rattle.pc_detail_nodes.proofs.nodes.callees_among.Given as goal

abbrev pub invariant-loop-owned : goal.invariant-loop-owned
invariant-loop-owned l = (p : Place) → is_some (get place_cmp l.callees p)
    ≡ list_any (λ o. calls_at p o.expr) (map owned_of (take l.owned-index l.exprs))
