use Rattle.std.proofs.Common.{◌≡◌, ◌≤◌, ◌-◌, ℕ, List, true, length}
use Rattle.std.specs.Prelude.{encode_utf8_all, slice_range}
use Rattle.std.specs.List.{list_all}
use Rattle.std.specs.Str.{IsCharBoundary}
use Rattle.unicode_ident.specs.Ident.{is_xid_continue}
use Rattle.pc_token.proofs.name.name_end.Given as goal

abbrev pub invariant-loop-c : goal.invariant-loop-c
invariant-loop-c l = record {
  boundary : IsCharBoundary l.text l.end;
  later : l.start ≤ l.end;
  run : (cs : List ℕ) × (list_all is_xid_continue cs ≡ true) × (slice_range l.text l.start l.end ≡ encode_utf8_all cs);
}

abbrev pub decreases-loop-c : goal.decreases-loop-c
decreases-loop-c l = length l.text - l.end
