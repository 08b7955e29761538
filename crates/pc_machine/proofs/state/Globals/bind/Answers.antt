use Rattle.std.proofs.Common.{◌≡◌, ◌∙◌, ap, sym, subst, map, length, vec_len, arith, List, ℕ}
use Rattle.std.proofs.lemmas.List.{length-map}
use Rattle.pc_machine.specs.Globals.{name_of_global, ArePlaced}
use Rattle.pc_machine.specs.declared.state.Global.{Global as RustGlobal}
use Rattle.pc_machine.proofs.FirstPlaces.{placed_more}
use Rattle.pc_machine.proofs.state.Globals.bind.Goals as goal

pub invariant_of-self-in-Ok : goal.invariant_of-self-in-Ok
invariant_of-self-in-Ok c =
    let bindings = c.args.self.now.bindings in
    let gs = bindings.items in
    let size : length gs ≡ vec_len bindings = omega (arith, bindings.ok.0) in
    let g : RustGlobal = record { name = c.args.name; bound = c.args.bound } in
    record {
      placed = subst (λ (xs : List RustGlobal). ArePlaced c.bind_first.new.map (map name_of_global xs))
          (sym c.in_ok-push.ensures.items)
          (placed_more c.args.self.now.places c.bind_first.new.map gs g c.len-place.result
          (c.len-place.ensures ∙ sym size ∙ sym (length-map gs name_of_global)) c.args.self.now.placed
          c.in-Ok.ensures.bound);
    }
