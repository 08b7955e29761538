use Rattle.pc_overrides.proofs.ClassOverrides.{entries_keep}
use Rattle.pc_overrides.proofs.finding.find_override.Goals as goal

pub judged_with-requires-clause-table : goal.judged_with-requires-clause-table
judged_with-requires-clause-table g c =
    let has = g.S.TypeStore.has in
    entries_keep (has c.args.store.now) (has c.code_among.new.store) c.args.judging.now.classes.now
    c.code_among.ensures.kept c.requires.table
