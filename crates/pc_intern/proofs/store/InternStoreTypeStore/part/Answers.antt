use Rattle.std.proofs.Common.{Some, sym, ◌∙◌, ap}
use Rattle.pc_types.specs.Shape.{parts}
use Rattle.pc_intern.specs.Store.{tree_of_type}
use Rattle.pc_intern.proofs.Held.{part_numbers, number_at, within, meant}
use Rattle.pc_intern.proofs.store.InternStoreTypeStore.part.Goals as goal

pub held-requires : goal.held-requires
held-requires c =
    let n = part_numbers c.args.self.now c.args.ty.now c.parts.result.now c.requires.ty
    (rw (← c.self.view_is) c.parts.ensures) in
    let u = number_at c.args.self.now c.parts.result.now (parts (tree_of_type c.args.ty.now)) c.args.number 0 n
    c.requires.number in
    within c.args.self.now _ u.0 u.2

pub returns : goal.returns
returns c =
    let n = part_numbers c.args.self.now c.args.ty.now c.parts.result.now c.requires.ty
    (rw (← c.self.view_is) c.parts.ensures) in
    let u = number_at c.args.self.now c.parts.result.now (parts (tree_of_type c.args.ty.now)) c.args.number 0 n
    c.requires.number in (
      c.held.ensures.held,
      u.1
          ∙ ap Some (sym (meant c.args.self.now c.held.result _ u.0 c.held.ensures.held c.held.ensures.number u.2)),
    )
