use Rattle.std.proofs.Common.{◌∙◌, Some, refl, sym}
use Rattle.std.proofs.lemmas.Map.Text.{btree_map_updates_str}
use Rattle.pc_tree.specs.Tree.{name_of}
use Rattle.pc_detail_facts.specs.Held.{body_of}
use Rattle.pc_name_details.specs.Uses.{binding}
use Rattle.pc_name_details.proofs.UseSteps.{added_binding, kept_binding}
use Rattle.pc_name_details.proofs.bindings.Bindings.add.Goals as goal

pub returns-then-contains_key : goal.returns-then-contains_key
returns-then-contains_key c = λ before h. kept_binding before c.args.self.now
    (binding (body_of c.args.body) (name_of c.args.name.now)) c.as_str-word.result.now c.as_str-word.ensures.value h
    (sym c.contains_key.ensures ∙ c.if-contains_key.true)

pub returns : goal.returns
returns c = λ before h. added_binding before c.args.self.now _ (binding (body_of c.args.body) (name_of c.args.name.now))
    (c.args.body, c.args.name.now.place) c.as_str-word.result.now c.as_str-word.ensures.value refl h
    (sym c.contains_key.ensures ∙ c.if-contains_key.false)
    (btree_map_updates_str c.as_str-word.result.now c.args.self.now.first c.insert.new.self
    (Some (c.args.body, c.args.name.now.place)) c.in_ok-insert.ensures.updates)
