-- Two places are the same if the test says so.
use Rattle.std.proofs.Common.{◌≡◌, refl, true}
use Rattle.std.specs.Prelude.{nat_eq}
use Rattle.std.proofs.lemmas.Bool.{and_parts, and_from, eqb-true, eq-eqb}
use Rattle.pc_source.specs.declared.place.Place.{Place}
use Rattle.pc_notes.specs.Notes.{is_same_place}

pub same_place : (p q : Place) → is_same_place p q ≡ true → p ≡ q
same_place p q h =
    let e = and_parts (nat_eq p.start q.start) (nat_eq p.end q.end) h in
    λ i. record { start = eqb-true p.start q.start e.0 i; end = eqb-true p.end q.end e.1 i }

pub own_place : (p : Place) → is_same_place p p ≡ true
own_place p = and_from (nat_eq p.start p.start) (nat_eq p.end p.end) (eq-eqb p.start p.start refl)
    (eq-eqb p.end p.end refl)
