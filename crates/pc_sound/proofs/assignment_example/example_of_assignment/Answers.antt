use Rattle.pc_sound.proofs.Examples.AssignmentExample.{assignment_labelled, assignment_found, assignment_runs}
use Rattle.pc_sound.proofs.assignment_example.example_of_assignment.Goals as goal

pub returns : goal.returns
returns c = record { labelled = assignment_labelled; found = assignment_found; runs = assignment_runs }
