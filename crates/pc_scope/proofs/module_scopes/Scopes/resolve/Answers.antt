use Rattle.std.proofs.Common.{◌∙◌, ap}
use Rattle.pc_scope.specs.Tables.{meaning_by_tables}
use Rattle.pc_scope.specs.ModuleScopes.{ModuleScopes}
use Rattle.pc_scope.proofs.Meanings.{means}
use Rattle.pc_scope.proofs.module_scopes.Scopes.resolve.Goals as goal

pub returns : goal.returns
returns c =
    let e = c.mean.ensures ∙ ap (λ (s : ModuleScopes). meaning_by_tables s.tables c.args.owner c.args.name.now)
    c.self.view_is in
    record {
      by_tables = e;
      resolved = λ m are. e ∙ means m c.args.self.now.tables are.tables c.args.owner
          c.args.name.now;
    }
