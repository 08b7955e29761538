use Rattle.std.proofs.Common.{◌≡◌, map, Some, sym, subst}
use Rattle.pc_intern.specs.Table.{tree_at}
use Rattle.pc_intern.specs.Store.{IsInterned}
use Rattle.pc_intern.proofs.Held.{known_parts}
use Rattle.pc_intern.proofs.store.InternStore.known.Goals as goal

pub returns-clause-parts : goal.returns-clause-parts
returns-clause-parts c = λ us k.
    known_parts c.self.inside.table (record { head = c.args.head; parts = c.args.numbers }) c.in_ok-number.number
    c.held.result us c.in_ok-number.ensures (subst (λ l. IsInterned l c.held.result) (sym c.self.view_is)
    c.held.ensures.held) c.held.ensures.number
    (subst (λ l. map (tree_at l) c.args.numbers.items ≡ map Some us) (sym c.self.view_is) k)
