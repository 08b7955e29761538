use Rattle.std.proofs.Common.{◌≡◌, ◌<◌, ◌≤◌, length, map, rules}
use Rattle.pc_value.specs.Meaning.{value_of, slot_of}
use Rattle.pc_value.specs.Internal.Changes.{field_place}
use Rattle.pc_value.proofs.Settings.{field_at, field_absent}
use Rattle.pc_value.proofs.cell.set_field.Goals as goal

pub returns-then-place-len : goal.returns-then-place-len
returns-then-place-len c =
    let lt : c.field_place-place.result < length c.args.fields.now.items = search rules in
    field_at c.args.name.now c.args.value c.args.fields.now.items c.field_place-place.result c.index_mut.result.now
    (rw c.deref.ensures.value at c.field_place-place.ensures.place) lt c.index_mut.ensures.value

pub returns-else-place-len : goal.returns-else-place-len
returns-else-place-len c =
    let place : c.field_place-place.result ≡ field_place c.args.name.now (map slot_of c.args.fields.now.items) =
    rw c.deref.ensures.value at c.field_place-place.ensures.place in
    let late : length c.args.fields.now.items ≤ c.field_place-place.result = search rules in
    field_absent c.args.name.now (value_of c.args.value) c.args.fields.now.items (rw (← place) late)
