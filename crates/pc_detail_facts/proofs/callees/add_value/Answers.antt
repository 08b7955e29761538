use Rattle.std.proofs.Common.{◌≡◌, ◌++◌, List, map, subst, sym}
use Rattle.std.specs.Prelude.{OnOk}
use Rattle.pc_detail_facts.specs.declared.facts.Facts.{Facts}
use Rattle.pc_detail_facts.specs.Callees.{called_of}
use Rattle.pc_detail_rules.specs.Calls.{Called}
use Rattle.pc_detail_facts.proofs.CalledParameters.{value_kept}
use Rattle.pc_detail_facts.proofs.callees.add_value.Goals as goal

pub returns-in_default-clause-called : goal.returns-in_default-clause-called
returns-in_default-clause-called c = subst (λ (l : List Called). OnOk c.add_one.result ((facts : Facts)
    → map (called_of facts) c.add_one.new.called.items ≡ map (called_of facts) c.args.called.now.items ++ l))
    (sym (value_kept c.args.ty.now c.in_default.not-Any)) c.add_one.ensures.called
