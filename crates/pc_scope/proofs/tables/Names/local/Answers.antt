use Rattle.std.proofs.Common.{◌∙◌, ap, sym}
use Rattle.pc_scope.specs.Resolution.{index_of}
use Rattle.pc_scope.specs.Internal.WalkViews.{locals_seen}
use Rattle.pc_scope.proofs.tables.Names.local.Goals as goal

pub returns-in-Some : goal.returns-in-Some
returns-in-Some c = c.number_of.ensures
    ∙ ap (index_of c.args.name.now) (sym (ap locals_seen c.in-Some.is) ∙ c.locals.ensures)
