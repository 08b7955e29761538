use Rattle.pc_sound.proofs.Examples.NarrowingExample.{labelled, found, runs}
use Rattle.pc_sound.proofs.narrowing_example.example_of_narrowing.Goals as goal

pub returns : goal.returns
returns c = record { labelled = labelled; found = found; runs = runs }
