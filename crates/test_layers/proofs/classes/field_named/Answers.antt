use Rattle.test_layers.proofs.HeldTables.{field_held}
use Rattle.test_layers.proofs.classes.field_named.Goals as goal

pub parameter_text-requires : goal.parameter_text-requires
parameter_text-requires c = field_held c.requires c.in-Some.field.now c.in-Some.ensures.listed
