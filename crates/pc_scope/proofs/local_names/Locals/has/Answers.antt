use Rattle.std.proofs.Common.{◌∙◌, ap}
use Rattle.std.specs.Prelude.{is_some}
use Rattle.pc_scope.specs.Internal.WalkViews.{locals_in}
use Rattle.pc_scope.proofs.TextSets.{placed_among}
use Rattle.pc_scope.proofs.local_names.Locals.has.Goals as goal

pub returns : goal.returns
returns c = c.is_some.ensures ∙ ap is_some c.number_of.ensures
    ∙ placed_among c.args.name.now (locals_in c.args.self.now)
