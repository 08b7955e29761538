use Rattle.std.proofs.Common.{◌≡◌, ◌∙◌, ap, map, refl, Bool, true, false}
use Rattle.std.specs.Prelude.{not, bytes_eq}
use Rattle.std.specs.List.{list_any}
use Rattle.pc_tree.specs.Stopping.{is_among}
use Rattle.pc_tree.specs.Names.{text_seen}
use Rattle.pc_tree.proofs.InSets.{has, put_in}
use Rattle.pc_tree.proofs.sets.put.Goals as goal

not_not : (b : Bool) → not (not b) ≡ b
not_not true = refl
not_not false = refl

pub returns-clause-was : goal.returns-clause-was
returns-clause-was c =
    let keys = c.args.names.now.keys in
    let text = c.args.name.now in
    ap not c.in_ok-added.ensures.added ∙ not_not (list_any (λ k. bytes_eq text (text_seen k)) keys)
    ∙ has text_seen text keys

pub returns-clause-now : goal.returns-clause-now
returns-clause-now c other =
    let keys = c.args.names.now.keys in
    ap (λ ks. is_among (map text_seen ks) other) c.in_ok-added.ensures.keys
    ∙ put_in text_seen keys c.args.name other (list_any (λ k. bytes_eq c.args.name.now (text_seen k)) keys) refl
