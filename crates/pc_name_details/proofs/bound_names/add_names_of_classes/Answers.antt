use Rattle.std.proofs.Common.{◌∙◌, ◌++◌, List, ap, sym, map, append_assoc}
use Rattle.pc_tree.specs.Lists.{name_seen}
use Rattle.pc_tree.specs.Tree.{Name}
use Rattle.pc_detail_facts.specs.Held.{class_lent}
use Rattle.pc_detail_rules.specs.Names.{names_of_members}
use Rattle.pc_name_details.proofs.NamingSteps.{flat_mapped}
use Rattle.pc_name_details.proofs.bound_names.add_names_of_classes.Goals as goal

pub loop-class-preserved : goal.loop-class-preserved
loop-class-preserved c =
    let f = c.in_ok-add_member_names.ensures in
    f ∙ ap (λ (l : List Name). l ++ names_of_members (class_lent c.class-item.result)) c.loop-class.invariant
    ∙ append_assoc (map name_seen c.args.names.now.items) _ (names_of_members (class_lent c.class-item.result))
    ∙ ap (λ (l : List Name). map name_seen c.args.names.now.items ++ l)
    (sym (flat_mapped class_lent names_of_members _ c.loop-class.class-index c.class-item.result c.loop-class-test.true c.class-item.is))
