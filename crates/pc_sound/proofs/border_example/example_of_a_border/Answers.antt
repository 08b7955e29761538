use Rattle.pc_sound.proofs.Examples.BorderExample.{clean, ready, fitting, aliased, other}
use Rattle.pc_sound.proofs.border_example.example_of_a_border.Goals as goal

pub returns : goal.returns
returns c = record { clean = clean; ready = ready; fitting = fitting; aliased = aliased; other = other }
