-- The seats and lists of types of the program that types expressions, in terms of the definitions. Own rule of the
-- profile.
use Rattle.std.specs.Prelude.{◌≡◌, ℕ, map, All}
use Rattle.std.specs.Option.{option_map}
use Rattle.pc_tree.specs.Tree.{Exprs, Entries}
use Rattle.pc_types.specs.Tree.{Tree}
use Rattle.pc_rules.specs.Calls.{Seat}
use Rattle.pc_rules.specs.Lawful.{item_seat, part_seat}
use Rattle.pc_rules.specs.Computed.Standing.{Standing, types_in, keys_in, value_types_in, HasIfAny}
use Rattle.pc_expr.specs.declared.items.Seats.{Seats}
use Rattle.pc_expr.specs.declared.items.Seats.TheVariants.{Same, Parts}
use Rattle.pc_expr.specs.declared.items.Typed.{Typed}
use Rattle.pc_expr.specs.declared.entries.EntrySeats.{EntrySeats}
use Rattle.pc_expr.specs.declared.entries.EntryTypes.{EntryTypes}
use Rattle.pc_calls.specs.declared.seats.Seat.{Seat as RustSeat}
use Rattle.pc_expr.specs.Typing.{second_is_early}

module _ {Ty : Type 0} (tree : Ty → Tree) where
  -- the seats that a program's seats of a display mean, by position
  abbrev pub seats_of : Seats Ty → ℕ → Seat
  seats_of (Same ty) = λ i. item_seat (option_map tree ty)
  seats_of (Parts types) = part_seat (map tree types.items)

  -- the seat that a program's seat means
  abbrev pub seat_with : RustSeat Ty → Seat
  seat_with s = record { want = option_map tree s.want; into = map tree s.into.items }

module _ {Ty : Type 0} (has : Ty → Type 0) where
  -- the store gave the types of seats
  abbrev pub HasSeats : Seats Ty → Type 0
  HasSeats (Same ty) = HasIfAny has ty
  HasSeats (Parts types) = All has types.items

  -- the store gave the types of a seat
  pub record HasSeat (s : RustSeat Ty) : Type 0 where
    pub want : HasIfAny has s.want
    pub into : All has s.into.items

  -- the store gave the types of the seats of entries
  pub record HasEntrySeats (s : EntrySeats Ty) : Type 0 where
    pub key : HasSeat s.key
    pub value : HasSeat s.value

module _ {Store Ty : Type 0} (has : Store → Ty → Type 0) (tree : Ty → Tree) (store : Store) where
  -- seats of entries with types of the store mean these seats
  pub record AreEntrySeats (s : EntrySeats Ty) (key value : Seat) : Type 0 where
    pub given : HasEntrySeats (has store) s
    pub keys : seat_with tree s.key ≡ key
    pub values : seat_with tree s.value ≡ value

module _ {Store Ty : Type 0} (has : Store → Ty → Type 0) (tree : Ty → Tree) (store : Store) (k : Standing) where
  -- the types of arguments are of the store and mean these, and the second is E03 or not
  pub record AreTyped (t : Typed Ty) (seat : ℕ → Seat) (es : Exprs) : Type 0 where
    pub given : All (has store) t.types.items
    pub types : map tree t.types.items ≡ types_in k seat es
    pub early : t.early ≡ second_is_early k seat es

  -- the types of keys and of values are of the store and mean these
  pub record AreEntryTypes (t : EntryTypes Ty) (key value : Seat) (es : Entries) : Type 0 where
    pub given_keys : All (has store) t.keys.items
    pub given_values : All (has store) t.values.items
    pub keys : map tree t.keys.items ≡ keys_in k key value es
    pub values : map tree t.values.items ≡ value_types_in k key value es
