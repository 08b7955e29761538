use Rattle.pc_sound.proofs.Examples.OrderExample.{labelled, found, runs}
use Rattle.pc_sound.proofs.order_example.example_of_order.Goals as goal

pub returns : goal.returns
returns c = record { labelled = labelled; found = found; runs = runs }
