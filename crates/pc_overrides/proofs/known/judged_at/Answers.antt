use Rattle.std.proofs.Common.{◌≡◌, ◌∙◌, ◌<◌, List, length, get_or, refl, sym, subst}
use Rattle.std.proofs.lemmas.Option.{slice_get_read}
use Rattle.std.proofs.lemmas.Slice.Eq.{bytes_eq-Decides}
use Rattle.pc_overrides.specs.declared.known.Judged.{Judged}
use Rattle.pc_overrides.proofs.KnownMethods.{known_at}
use Rattle.pc_overrides.proofs.known.judged_at.Goals as goal

pub returns-then-eq : goal.returns-then-eq
returns-then-eq g c =
    let judged = c.args.judged.now in
    let owner = c.args.method.now.owner in
    let own = c.in_ok-own.own.now in
    let known = c.in_ok-known.known.now in
    let at = c.count_before.result in
    let there = c.in_ok-own.ensures.lookup in
    let here = c.in_ok-known.ensures.lookup in
    let named = sym c.as_str.ensures.value
    ∙ (bytes_eq-Decides c.as_str.result.now c.as_str-2.result.now).0 (sym c.eq.ensures ∙ c.if-eq.true)
    ∙ c.as_str-2.ensures.value in
    λ tree s all. (
      known_at tree s judged owner own at known all
          (slice_get_read judged (length judged) owner own refl there.3.0 there.1)
          (subst (λ (xs : List (Judged g.row.Ty.Denot)). at < length xs) c.deref.ensures.value here.3.0)
          (subst (λ (xs : List (Judged g.row.Ty.Denot)). known ≡ get_or xs at known) c.deref.ensures.value here.1),
      named,
    )
