use Rattle.std.proofs.Common.{◌∙◌, ap, sym}
use Rattle.std.specs.Prelude.{bytes_eq}
use Rattle.std.specs.Map.{lookup}
use Rattle.pc_tree.specs.Names.{text_seen}
use Rattle.pc_tree.proofs.InMaps.{put_new, none_at}
use Rattle.pc_tree.proofs.maps.bind_first.Goals as goal

pub returns-clause-bound : goal.returns-clause-bound
returns-clause-bound g c text =
    let old = c.args.map.now.entries in
    let absent = none_at (lookup (λ k. bytes_eq c.args.name.now (text_seen k)) old) (sym c.contains_key.ensures
    ∙ c.if-contains_key.false) in
    ap (lookup (λ k. bytes_eq text (text_seen k))) c.in_ok-insert.ensures.entries
    ∙ put_new text_seen old c.args.name c.args.value text absent
