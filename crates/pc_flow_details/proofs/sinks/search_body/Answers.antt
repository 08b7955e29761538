use Rattle.pc_flow_details.proofs.sinks.search_body.Goals as goal

pub returns : goal.returns
returns c = rw c.deref.ensures.value at c.search_suite.ensures
