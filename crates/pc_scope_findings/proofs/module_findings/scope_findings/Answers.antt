use Rattle.std.proofs.Common.{◌↔◌, subst, sym, Contains, List}
use Rattle.pc_tree.specs.declared.code.Finding.{Finding}
use Rattle.pc_tree.specs.Tree.{module_of}
use Rattle.pc_scope_findings.specs.Findings.{ScopeFinds}
use Rattle.pc_scope_findings.proofs.FoundCodes.{found_by}
use Rattle.pc_scope_findings.proofs.module_findings.scope_findings.Goals as goal

pub returns : goal.returns
returns c = record {
  found = λ are f. subst (λ (fs : List Finding). Contains fs f
      ↔ ScopeFinds (module_of c.args.module.now) f) (sym c.in_ok-all.ensures)
      (found_by (module_of c.args.module.now) c.args.scopes.now.tables are.tables f);
}
