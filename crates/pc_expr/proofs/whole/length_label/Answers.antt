use Rattle.pc_rules.proofs.Kept.{entries_kept}
use Rattle.pc_expr.proofs.whole.length_label.Goals as goal

pub member_offers-requires-clause-classes : goal.member_offers-requires-clause-classes
member_offers-requires-clause-classes g c = entries_kept (g.S.TypeStore.has _) (g.S.TypeStore.has _)
    c.first_type.ensures.kept c.args.context.now.globals.now.classes.now c.requires.classes
