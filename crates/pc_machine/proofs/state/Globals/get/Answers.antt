use Rattle.std.proofs.Common.{◌≡◌, ◌∙◌, ap, sym, refl, length, map, ℕ}
use Rattle.std.specs.Prelude.{Option, Some, None, slice_get}
use Rattle.std.specs.Option.{option_copied}
use Rattle.std.proofs.lemmas.Option.{slice_get_read, slice_get_past}
use Rattle.pc_machine.specs.Globals.{name_of_global}
use Rattle.pc_machine.proofs.FirstPlaces.{bound_at, at_place, found_at}
use Rattle.pc_machine.proofs.state.Globals.get.Goals as goal

pub returns-in-Some-get : goal.returns-in-Some-get
returns-in-Some-get c =
    let gs = c.args.self.now.bindings.items in
    let g = c.in-Some-get.binding.now in
    let i = c.in-Some.place.now in
    let h = rw c.deref.ensures.value at c.in-Some-get.ensures.lookup in
    sym (ap bound_at (slice_get_read gs (length gs) i g refl h.3.0 h.1))
    ∙ ap (at_place gs) (sym (ap option_copied c.in-Some.is) ∙ c.get.ensures.value
    ∙ c.args.self.now.placed c.args.name.now) ∙ found_at c.args.name.now gs

pub returns-in-None-get : goal.returns-in-None-get
returns-in-None-get c =
    let gs = c.args.self.now.bindings.items in
    let i = c.in-Some.place.now in
    let h = rw c.deref.ensures.value at c.in-None-get.ensures.lookup in
    sym (ap bound_at (slice_get_past gs i h.3))
    ∙ ap (at_place gs) (sym (ap option_copied c.in-Some.is) ∙ c.get.ensures.value
    ∙ c.args.self.now.placed c.args.name.now) ∙ found_at c.args.name.now gs

pub returns-in-None : goal.returns-in-None
returns-in-None c =
    let gs = c.args.self.now.bindings.items in
    ap (at_place gs) (sym (ap option_copied c.in-None.is) ∙ c.get.ensures.value
    ∙ c.args.self.now.placed c.args.name.now) ∙ found_at c.args.name.now gs
