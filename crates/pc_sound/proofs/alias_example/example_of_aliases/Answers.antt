use Rattle.pc_sound.proofs.Examples.AliasExample.{alias_labelled, alias_found, alias_runs}
use Rattle.pc_sound.proofs.alias_example.example_of_aliases.Goals as goal

pub returns : goal.returns
returns c = record { labelled = alias_labelled; found = alias_found; runs = alias_runs }
