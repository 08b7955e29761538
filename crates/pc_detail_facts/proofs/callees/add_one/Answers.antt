use Rattle.std.proofs.Common.{List, All, subst, sym}
use Rattle.pc_detail_facts.specs.declared.called.CallTarget.{CallTarget}
use Rattle.pc_detail_facts.specs.Callees.{IsHeldCalled}
use Rattle.pc_detail_facts.proofs.CalledParameters.{held_more}
use Rattle.pc_detail_facts.proofs.callees.add_one.Goals as goal

pub returns-clause-held : goal.returns-clause-held
returns-clause-held c = subst (λ (cs : List CallTarget). All IsHeldCalled cs) (sym c.in_ok-push.ensures.items)
    (held_more c.args.called.now.items c.args.target c.requires.held c.requires.one)
