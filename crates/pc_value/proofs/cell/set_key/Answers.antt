use Rattle.std.proofs.Common.{◌≡◌, ◌<◌, ◌≤◌, ◌++◌, ◌∷◌, [], length, map, rules}
use Rattle.pc_value.specs.Meaning.{value_of, entry_of}
use Rattle.pc_value.specs.Internal.Changes.{key_place}
use Rattle.pc_value.proofs.Settings.{set_at, set_new}
use Rattle.pc_value.proofs.cell.set_key.Goals as goal

pub returns-then-place-len-clause-set : goal.returns-then-place-len-clause-set
returns-then-place-len-clause-set c =
    let lt : c.key_place-place.result < length c.args.entries.now.items = search rules in
    set_at (value_of c.args.key) c.args.value c.args.entries.now.items c.key_place-place.result c.index_mut.result.now
    (rw c.deref.ensures.value at c.key_place-place.ensures.place) lt c.index_mut.ensures.value

pub returns-in_ok-push-clause-set : goal.returns-in_ok-push-clause-set
returns-in_ok-push-clause-set c =
    let grown : c.push.new.self.items ≡ c.args.entries.now.items ++ record { key = c.args.key; value = c.args.value }
    ∷ [] = c.in_ok-push.ensures.items in
    let place : c.key_place-place.result ≡ key_place (value_of c.args.key) (map entry_of c.args.entries.now.items) =
    rw c.deref.ensures.value at c.key_place-place.ensures.place in
    let late : length c.args.entries.now.items ≤ c.key_place-place.result = search rules in
    rw grown (set_new c.args.key c.args.value c.args.entries.now.items (rw (← place) late))
