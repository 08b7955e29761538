use Rattle.std.proofs.Common.{◌∙◌, ap, length}
use Rattle.pc_scope.specs.Tables.{locals_for}
use Rattle.pc_scope.specs.ModuleScopes.{ModuleScopes}
use Rattle.pc_scope.proofs.Meanings.{same_locals}
use Rattle.pc_scope.proofs.module_scopes.Scopes.count_locals.Goals as goal

pub returns : goal.returns
returns c = λ m are. c.count_locals.ensures ∙ ap (λ (s : ModuleScopes). length (locals_for s.tables c.args.owner))
    c.self.view_is ∙ ap length (same_locals m c.args.self.now.tables are.tables c.args.owner)
