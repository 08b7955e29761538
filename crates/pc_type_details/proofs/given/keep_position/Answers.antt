use Rattle.std.proofs.Common.{◌∙◌, Some, sym}
use Rattle.std.proofs.lemmas.Map.Text.{btree_map_updates_str}
use Rattle.pc_type_details.proofs.GivenNames.{kept_position, put_position}
use Rattle.pc_type_details.proofs.given.keep_position.Goals as goal

pub returns-then-contains_key : goal.returns-then-contains_key
returns-then-contains_key c = λ names h is. kept_position names c.args.positions.now c.args.name.now h
    (sym c.contains_key.ensures ∙ c.if-contains_key.true)

pub returns : goal.returns
returns c = λ names h is. put_position names c.args.positions.now c.insert.new.self c.args.name.now c.args.position h
    (sym c.contains_key.ensures ∙ c.if-contains_key.false) is
    (btree_map_updates_str c.args.name.now c.args.positions.now c.insert.new.self (Some c.args.position)
    c.in_ok-insert.ensures.updates)
