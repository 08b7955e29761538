use Rattle.std.proofs.Common.{◌≡◌, Some, sym, ap, ◌∙◌}
use Rattle.pc_types.specs.Join.{join}
use Rattle.pc_intern.specs.Store.{tree_of_type}
use Rattle.pc_intern.proofs.AtOnce.{join_first}
use Rattle.pc_intern.proofs.Held.{within, meant}
use Rattle.pc_types.proofs.JoinItself.{join_itself}
use Rattle.pc_intern.proofs.store.InternStore.join_at_once.Goals.{then-is_same-via-then-is_same}
use Rattle.pc_intern.proofs.store.InternStore.join_at_once.Goals.{then-is_same-via-else-is_same+then-is_never}
use Rattle.pc_intern.proofs.store.InternStore.join_at_once.Goals as goal

pub returns-then-is_same-clause-value : goal.returns-then-is_same-clause-value
returns-then-is_same-clause-value c = λ bases.
    let s = tree_of_type c.args.s.now in
    let t = tree_of_type c.args.t.now in
    let e : tree_of_type c.held.result ≡ s = meant c.args.self.now c.held.result c.args.s.now.number s c.held.ensures.held
    c.held.ensures.number c.requires.left.at in
    let j : join bases s t ≡ Some s = elim c.then-is_same.branch [
      | then-is_same-via-then-is_same w ↦
          join_itself bases s t (c.is_same.ensures.0 w.if-is_same.true) c.requires.left.small
      | then-is_same-via-else-is_same+then-is_never w ↦
          join_first bases s t (w.is_never.ensures.0 w.if-is_never.true) c.requires.left.small
    ] in
    j ∙ ap Some (sym e)

pub held-requires-then-is_never-2 : goal.held-requires-then-is_never-2
held-requires-then-is_never-2 c = within c.args.self.now c.args.t.now.number (tree_of_type c.args.t.now) c.requires.right.at
