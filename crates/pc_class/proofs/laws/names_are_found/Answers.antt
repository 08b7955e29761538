use Rattle.pc_class.proofs.FoundBases.{bases_found}
use Rattle.pc_class.proofs.FoundLate.{late_found}
use Rattle.pc_class.proofs.FoundOfClasses.{findings_listed}
use Rattle.pc_class.proofs.laws.names_are_found.Goals as goal

pub returns : goal.returns
returns c = record { bases = bases_found; late_fields = late_found; all = findings_listed }
