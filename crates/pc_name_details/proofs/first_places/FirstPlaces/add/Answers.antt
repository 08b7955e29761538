use Rattle.std.proofs.Common.{◌∙◌, Some, sym}
use Rattle.std.proofs.lemmas.Map.Text.{btree_map_updates_str}
use Rattle.pc_tree.specs.Tree.{name_of}
use Rattle.pc_name_details.proofs.NamingSteps.{added_place, kept_place}
use Rattle.pc_name_details.proofs.first_places.FirstPlaces.add.Goals as goal

pub returns-then-contains_key : goal.returns-then-contains_key
returns-then-contains_key c = λ names h. kept_place names c.args.self.now (name_of c.args.name.now) c.as_str-word.result.now
    c.as_str-word.ensures.value h (sym c.contains_key.ensures ∙ c.if-contains_key.true)

pub returns : goal.returns
returns c = λ names h. added_place names c.args.self.now _ (name_of c.args.name.now) c.as_str-word.result.now
    c.as_str-word.ensures.value h (sym c.contains_key.ensures ∙ c.if-contains_key.false)
    (btree_map_updates_str c.as_str-word.result.now c.args.self.now.places c.insert.new.self (Some c.args.name.now.place)
    c.in_ok-insert.ensures.updates)
