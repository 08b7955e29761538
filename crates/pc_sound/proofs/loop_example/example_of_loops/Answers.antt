use Rattle.pc_sound.proofs.Examples.LoopExample.{loop_labelled, loop_found, loop_runs}
use Rattle.pc_sound.proofs.loop_example.example_of_loops.Goals as goal

pub returns : goal.returns
returns c = record { labelled = loop_labelled; found = loop_found; runs = loop_runs }
