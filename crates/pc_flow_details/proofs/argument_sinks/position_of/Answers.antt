use Rattle.std.proofs.Common.{◌≡◌, ◌<◌, ◌+◌, ◌∙◌, ℕ, suc, ap, arith, drop, length, subst, sym, true, false, Some}
use Rattle.std.specs.Prelude.{bytes_eq, slice_get}
use Rattle.pc_detail_facts.specs.Callees.{name_of_parameter, parameters_called}
use Rattle.pc_flow_details.proofs.Arguments.{found_here, from_first, index_from, none_left, passed_here}
use Rattle.pc_flow_details.proofs.argument_sinks.position_of.Goals as goal

pub returns-then-eq : goal.returns-then-eq
returns-then-eq c =
    let ps = parameters_called c.args.facts.now c.args.called in
    let i = c.loop-position.position in
    let word = c.args.name.now in
    let less : i < length ps = omega arith in
    let same : bytes_eq word (name_of_parameter (slice_get ps i)) ≡ true =
    ap (bytes_eq word) (sym c.name_at.ensures) ∙ sym c.eq.ensures ∙ c.if-eq.true in
    let at : 0 + i ≡ i = omega arith in
    subst (λ (k : ℕ). Some k ≡ index_from word k (drop i ps)) at (found_here word ps 0 i less same)
    ∙ c.loop-position.invariant ∙ from_first word ps

pub loop-position-preserved : goal.loop-position-preserved
loop-position-preserved c =
    let ps = parameters_called c.args.facts.now c.args.called in
    let i = c.loop-position.position in
    let word = c.args.name.now in
    let less : i < length ps = omega arith in
    let next : suc i ≡ i + 1 = omega arith in
    let other : bytes_eq word (name_of_parameter (slice_get ps i)) ≡ false =
    ap (bytes_eq word) (sym c.name_at.ensures) ∙ sym c.eq.ensures ∙ c.if-eq.false in
    ap (λ (k : ℕ). index_from word k (drop (i + 1) ps)) (sym next)
    ∙ passed_here word ps i (i + 1) next less other i ∙ c.loop-position.invariant

pub returns : goal.returns
returns c =
    let ps = parameters_called c.args.facts.now c.args.called in
    none_left c.args.name.now ps c.loop-position.position c.loop-position.position (omega arith)
    ∙ c.loop-position.invariant ∙ from_first c.args.name.now ps
