use Rattle.test_layers.proofs.HeldTables.{method_held}
use Rattle.test_layers.proofs.classes.add_method_named.Goals as goal

pub add_method-requires : goal.add_method-requires
add_method-requires c = method_held c.requires c.in-Some.method.now c.in-Some.ensures.listed
