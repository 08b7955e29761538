-- The types of seats are kept over calls that may add types to the store.
use Rattle.pc_expr.specs.Internal.Seats.{HasSeats, HasSeat, HasEntrySeats}
use Rattle.pc_expr.specs.declared.entries.EntrySeats.{EntrySeats}
use Rattle.pc_expr.specs.declared.items.Seats.{Seats}
use Rattle.pc_expr.specs.declared.items.Seats.TheVariants.{Same, Parts}
use Rattle.pc_calls.specs.declared.seats.Seat.{Seat}
use Rattle.pc_rules.proofs.Kept.{any_kept, types_kept}

module _ {Ty : Type 0} (has later : Ty → Type 0) (k : (ty : Ty) → has ty → later ty) where
  pub seats_kept : (s : Seats Ty) → HasSeats has s → HasSeats later s
  seats_kept (Same ty) h = any_kept has later k ty h
  seats_kept (Parts types) h = types_kept has later k types.items h

  seat_kept : (s : Seat Ty) → HasSeat has s → HasSeat later s
  seat_kept s h = record {
    want = any_kept has later k s.want h.want;
    into = types_kept has later k s.into.items h.into;
  }

  pub entry_seats_kept : (s : EntrySeats Ty) → HasEntrySeats has s → HasEntrySeats later s
  entry_seats_kept s h = record { key = seat_kept s.key h.key; value = seat_kept s.value h.value }
