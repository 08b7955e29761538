use Rattle.std.proofs.Common.{◌≡◌, ◌∙◌, ◌<◌, ◌-◌, ℕ, suc, length, sym, ap, subst, arith, true}
use Rattle.pc_class.specs.Listed.{needed_in}
use Rattle.pc_class.specs.Listings.{listed_in}
use Rattle.pc_calls.specs.JudgedCalls.{names_in}
use Rattle.pc_calls.proofs.ListedCalls.{needed_within, needed_plain, filled_past, filled_end, filled_over, filled_up}
use Rattle.pc_calls.proofs.ListedCalls.{filled_by_name, filled_not, filled_meant_past}
use Rattle.pc_calls.proofs.listed.are_filled.Goals as goal

pub loop-end-init : goal.loop-end-init
loop-end-init g c =
    let named = names_in c.args.given.now.named in
    let ps = listed_in c.args.params.now in
    let n : ℕ = length ps in
    let e : c.needed-end.result ≡ needed_in ps n = c.needed-end.ensures ∙ ap (needed_in ps) c.len.ensures in
    let w = needed_within ps n in
    record {
      within = omega (arith, e, w);
      plain = λ j f. needed_plain ps n j (sym e ∙ f);
      filled = subst (λ k. filled_past named ps k ≡ true) (sym e)
          (filled_over named ps n (omega arith) (filled_end named ps n (omega arith)));
    }

pub returns-then-not-takes_name : goal.returns-then-not-takes_name
returns-then-not-takes_name g c tree =
    let named = names_in c.args.given.now.named in
    let ps = listed_in c.args.params.now in
    let k = c.args.given.now.positional in
    let end = c.loop-end.end in
    let w = c.loop-end.invariant.within in
    let t = c.loop-end-test.true in
    let one : end ≡ suc (end - 1) = omega (arith, t) in
    sym (filled_meant_past named ps tree k ∙ filled_not named ps k (end - 1) (omega (arith, t)) (omega (arith, w, t))
    (c.loop-end.invariant.plain (end - 1) one) (sym c.takes_name.ensures ∙ c.if-not-takes_name.true))

pub loop-end-smaller : goal.loop-end-smaller
loop-end-smaller g c =
    let end = c.loop-end.end in
    let e = c.needed-end-in-loop-end.ensures in
    let w = needed_within (listed_in c.args.params.now) (end - 1) in
    let t = c.loop-end-test.true in
    omega (arith, e, w, t)

pub loop-end-preserved : goal.loop-end-preserved
loop-end-preserved g c =
    let named = names_in c.args.given.now.named in
    let ps = listed_in c.args.params.now in
    let end = c.loop-end.end in
    let t = c.loop-end-test.true in
    let v = c.loop-end.invariant.within in
    let one : end ≡ suc (end - 1) = omega (arith, t) in
    let less : end - 1 < length ps = omega (arith, t, v) in
    let e : c.needed-end-in-loop-end.result ≡ needed_in ps (end - 1) = c.needed-end-in-loop-end.ensures in
    let w = needed_within ps (end - 1) in
    record {
      within = omega (arith, e, w, less);
      plain = λ j f. needed_plain ps (end - 1) j (sym e ∙ f);
      filled = subst (λ k. filled_past named ps k ≡ true) (sym e)
          (filled_over named ps (end - 1) (omega (arith, less)) (filled_by_name named ps (end - 1) end one less
          (sym c.takes_name.ensures ∙ c.if-not-takes_name.false) c.loop-end.invariant.filled));
    }

pub returns : goal.returns
returns g c tree =
    let named = names_in c.args.given.now.named in
    let ps = listed_in c.args.params.now in
    let k = c.args.given.now.positional in
    let t = c.loop-end-test.false in
    sym (filled_meant_past named ps tree k ∙ filled_up named ps c.loop-end.end k (omega (arith, t))
    c.loop-end.invariant.filled)
