use Rattle.pc_module_rules.proofs.StandingFlows.{flows_dynamic}
use Rattle.pc_sound.proofs.Modules.NeededFlows.{flow_is_needed}
use Rattle.pc_top.proofs.laws.no_needless_flow.Goals as goal

pub returns : goal.returns
returns c = λ bytes m spelled p s t is.
    let dynamic = flows_dynamic m p s t is in
    record {
      assignable = dynamic.0;
      not_static = dynamic.1;
      needed = flow_is_needed m spelled.tokens spelled.spelled.spelled p s t is;
    }
