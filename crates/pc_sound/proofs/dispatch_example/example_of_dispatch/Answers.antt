use Rattle.pc_sound.proofs.Examples.DispatchExample.{labelled, found, runs}
use Rattle.pc_sound.proofs.dispatch_example.example_of_dispatch.Goals as goal

pub returns : goal.returns
returns c = record { labelled = labelled; found = found; runs = runs }
