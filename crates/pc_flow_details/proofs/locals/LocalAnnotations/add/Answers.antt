use Rattle.std.proofs.Common.{◌∙◌, Some, sym}
use Rattle.std.proofs.lemmas.Map.Text.{btree_map_updates_str}
use Rattle.pc_tree.specs.Tree.{ann_of}
use Rattle.pc_flow_details.proofs.LocalsHeld.{added_local, kept_local}
use Rattle.pc_flow_details.proofs.locals.LocalAnnotations.add.Goals as goal

pub returns-then-contains_key : goal.returns-then-contains_key
returns-then-contains_key c = λ before h. kept_local before c.args.self.now c.args.name.now (ann_of c.args.annotation.now) h
    (sym c.contains_key.ensures ∙ c.if-contains_key.true)

pub returns : goal.returns
returns c = λ before h. added_local before c.args.self.now _ c.args.name.now c.args.annotation h
    (sym c.contains_key.ensures ∙ c.if-contains_key.false)
    (btree_map_updates_str c.args.name.now c.args.self.now.first c.insert.new.self (Some c.args.annotation)
    c.in_ok-insert.ensures.updates)
