use Rattle.std.proofs.Common.{◌∙◌, ◌+◌, Option, sym, ap, drop, arith}
use Rattle.std.specs.Option.{option_map}
use Rattle.pc_types.specs.Boxed.{tree_of}
use Rattle.pc_types.specs.Tree.{Tree}
use Rattle.pc_annotations.specs.Bases.{bases_of}
use Rattle.pc_class.specs.Tables.{parameter_with, parameters_with}
use Rattle.pc_detail_texts.specs.Details.{OverrideFault}
use Rattle.pc_detail_texts.specs.Mapped.{map_override}
use Rattle.pc_detail_facts.specs.Held.{module_held, text_held}
use Rattle.pc_detail_rules.specs.Overrides.{fits_for, parameter_fault}
use Rattle.pc_details.specs.OverridesHeld.{parameter_fault_at}
use Rattle.pc_details.proofs.OverrideSteps.{found_here, none_here, types_ended, types_next}
use Rattle.pc_details.proofs.overriding.parameter_fault.Goals as goal

pub returns-then-is_some : goal.returns-then-is_some
returns-then-is_some c =
    let above = c.args.above.now in
    let here = c.args.here.now in
    let i = c.loop-position.position in
    let shown = map_override (text_held c.args.facts.now) in
    let fits = fits_for (bases_of (module_held c.args.facts.now)) c.args.code in
    let p = c.index-above-position.result in
    let q = c.index-here-position.result in
    let step = types_next above here i p q (omega arith) (omega arith) c.index-above-position.is c.index-here-position.is fits in
    found_here shown (parameter_fault_at fits (parameter_with tree_of p) (parameter_with tree_of q))
    (parameter_fault fits (parameters_with tree_of (drop (i + 1) above)) (parameters_with tree_of (drop (i + 1) here)))
    c.in_ok-fault.fault (sym c.is_some.ensures ∙ c.if-is_some.true) c.in_ok-fault.ensures
    ∙ ap (λ (o : Option (OverrideFault Tree)). option_map shown o) (sym step ∙ c.loop-position.invariant)

pub loop-position-preserved : goal.loop-position-preserved
loop-position-preserved c =
    let above = c.args.above.now in
    let here = c.args.here.now in
    let i = c.loop-position.position in
    let shown = map_override (text_held c.args.facts.now) in
    let fits = fits_for (bases_of (module_held c.args.facts.now)) c.args.code in
    let p = c.index-above-position.result in
    let q = c.index-here-position.result in
    let step = types_next above here i p q (omega arith) (omega arith) c.index-above-position.is c.index-here-position.is fits in
    sym (none_here shown (parameter_fault_at fits (parameter_with tree_of p) (parameter_with tree_of q))
    (parameter_fault fits (parameters_with tree_of (drop (i + 1) above)) (parameters_with tree_of (drop (i + 1) here)))
    c.in_ok-fault.fault (sym c.is_some.ensures ∙ c.if-is_some.false) c.in_ok-fault.ensures)
    ∙ sym step ∙ c.loop-position.invariant

pub returns : goal.returns
returns c =
    let above = c.args.above.now in
    let here = c.args.here.now in
    let i = c.loop-position.position in
    let shown = map_override (text_held c.args.facts.now) in
    let fits = fits_for (bases_of (module_held c.args.facts.now)) c.args.code in
    ap (λ (o : Option (OverrideFault Tree)). option_map shown o) (types_ended fits above here i (λ a b. omega arith)
    ∙ c.loop-position.invariant)
