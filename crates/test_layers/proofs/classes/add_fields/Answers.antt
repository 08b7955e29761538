use Rattle.test_layers.proofs.HeldTables.{place_held}
use Rattle.test_layers.proofs.classes.add_fields.Goals as goal

pub add_field-requires-clause-field : goal.add_field-requires-clause-field
add_field-requires-clause-field c = place_held _ c.requires c.args.class c.loop-place.place c.at.result c.in-Some.field
    c.in-Some.is c.at.ensures
