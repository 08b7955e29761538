use Rattle.pc_flow.proofs.Narrowed.{passing_well_formed, failing_well_formed}
use Rattle.pc_flow.proofs.laws.tests_keep_types_well_formed.Goals as goal

pub returns : goal.returns
returns c = record { passing = passing_well_formed; failing = failing_well_formed }
