use Rattle.std.proofs.Common.{◌∙◌, ◌++◌, List, ap, sym, map, append_assoc}
use Rattle.pc_tree.specs.Lists.{name_seen}
use Rattle.pc_tree.specs.Tree.{Name}
use Rattle.pc_detail_facts.specs.Held.{body_of}
use Rattle.pc_detail_rules.specs.Names.{names_of_body}
use Rattle.pc_name_details.proofs.NamingSteps.{flat_mapped}
use Rattle.pc_name_details.proofs.bound_names.add_names_of_bodies.Goals as goal

pub loop-body-preserved : goal.loop-body-preserved
loop-body-preserved c =
    let f = c.in_ok-add_names_bound.ensures in
    f ∙ ap (λ (l : List Name). l ++ names_of_body (body_of c.body-item.result)) c.loop-body.invariant
    ∙ append_assoc (map name_seen c.args.names.now.items) _ (names_of_body (body_of c.body-item.result))
    ∙ ap (λ (l : List Name). map name_seen c.args.names.now.items ++ l)
    (sym (flat_mapped body_of names_of_body _ c.loop-body.body-index c.body-item.result c.loop-body-test.true c.body-item.is))
