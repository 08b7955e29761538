use Rattle.std.proofs.Common.{◌≡◌, ap, sym, ◌∙◌, unwrap_or}
use Rattle.pc_types.specs.Tree.{Object}
use Rattle.pc_types.specs.Join.{join}
use Rattle.pc_types.specs.Boxed.{tree_of}
use Rattle.pc_types.proofs.EqualTypes.{same_types}
use Rattle.pc_intern.specs.Store.{tree_of_type}
use Rattle.pc_intern.proofs.AddingNothing.{none_among, noted}
use Rattle.pc_intern.proofs.Held.{means_now}
use Rattle.pc_intern.proofs.store.InternStore.gather_again.Goals as goal
use Rattle.pc_intern.proofs.store.InternStore.gather_again.Goals.{then-is_same+in_ok-note, else-is_same}

pub returns-clause-value : goal.returns-clause-value
returns-clause-value c =
    let q : tree_of c.ty.result.now ≡ tree_of_type c.args.ty.now = means_now c.self.inside.table c.args.self.now
    c.args.ty.now c.ty.result.now c.self.view_is c.requires.ty c.ty.ensures.value in
    c.in_ok-joined.ensures.value
    ∙ ap (λ t. unwrap_or (join c.args.parents.now (tree_of c.args.gathered.joined) t) Object) q

pub returns-clause-gathered : goal.returns-clause-gathered
returns-clause-gathered c =
    record {
      given = c.in_ok-joined.ensures.given;
      covered = elim c.if-is_same.branch [
        | then-is_same+in_ok-note w ↦ λ n m. noted c.args.parents.now c.args.self.now
            (tree_of c.args.gathered.joined) (tree_of c.in_ok-joined.joined) c.args.ty.now _ _ c.requires.ty
            (returns-clause-value c) (same_types _ _ (sym c.is_same.ensures ∙ w.if-is_same.true) ∙ c.in_ok-before.ensures.1)
            c.requires.gathered.covered w.in_ok-note.ensures n (rw w.covered-is at m)
        | else-is_same w ↦ λ n m. absurd (none_among c.if-is_same.covered.items n
            (rw w.covered-is w.clear.ensures.items) m)
      ];
    }
