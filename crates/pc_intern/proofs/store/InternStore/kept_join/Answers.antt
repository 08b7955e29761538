use Rattle.std.proofs.Common.{◌≡◌, ◌<◌, length, map, Some, sym, ap, subst, ◌∙◌}
use Rattle.pc_types.specs.JoinedTypes.{types_joined}
use Rattle.pc_intern.specs.Table.{tree_at}
use Rattle.pc_intern.specs.Store.{IsJoined}
use Rattle.pc_intern.proofs.Held.{meant}
use Rattle.pc_intern.proofs.Kept.{kept_within, kept_is}
use Rattle.pc_intern.proofs.store.InternStore.kept_join.Goals as goal

pub held-requires : goal.held-requires
held-requires c =
    let j : IsJoined c.self.inside.parents c.self.inside.table
    (record { types = c.args.types.now; joined = c.in_ok-joined.joined }) =
    c.in_ok-joined.ensures c.self.inside.parents c.self.inside.table c.self.invariant.1 in
    subst (λ l. c.in_ok-joined.joined < length l) c.self.view_is
    (kept_within c.self.inside.parents c.self.inside.table _ j)

pub returns-clause-value : goal.returns-clause-value
returns-clause-value c = λ us e.
    let j : IsJoined c.self.inside.parents c.self.inside.table
    (record { types = c.args.types.now; joined = c.in_ok-joined.joined }) =
    c.in_ok-joined.ensures c.self.inside.parents c.self.inside.table c.self.invariant.1 in
    let f = subst (λ l. map (tree_at l) c.args.types.now.items ≡ map Some us) (sym c.self.view_is) e in
    let at = kept_is c.self.inside.parents c.self.inside.table _ us j f in
    let p = c.is_same.ensures.0 c.if-not-is_same.false in
    meant c.args.self.now c.held.result c.in_ok-joined.joined (types_joined c.args.parents.now us) c.held.ensures.held
    c.held.ensures.number
    (subst (λ l. tree_at l c.in_ok-joined.joined ≡ Some (types_joined c.args.parents.now us)) c.self.view_is
    (at ∙ ap (λ b. Some (types_joined b us)) p))
