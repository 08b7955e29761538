use Rattle.std.proofs.Common.{◌≡◌, ◌∙◌, sym, ap, arith, map, drop, ◌+◌, ◌++◌, ◌∷◌, [], List, ℕ}
use Rattle.std.proofs.lemmas.List.{map-append}
use Rattle.std.specs.Prelude.{Option, Some, None, slice_get}
use Rattle.std.specs.Option.{option_map}
use Rattle.pc_value.specs.Value.{Value}
use Rattle.pc_value.specs.Meaning.{value_of}
use Rattle.pc_value.specs.Internal.Keys.{option_value}
use Rattle.pc_machine.specs.State.{Local}
use Rattle.pc_machine.specs.Calls.{filled_parameters, value_taken, and_others}
use Rattle.pc_machine.specs.Machine.{parameter_of, value_if_any, local_of}
use Rattle.pc_machine.proofs.Lists.{before, too_many}
use Rattle.pc_machine.proofs.Filling.{at_position, next_filled, value_before}
use Rattle.pc_machine.proofs.calls.filled_parameters.Goals as goal

pub returns-in-None : goal.returns-in-None
returns-in-None c ns names =
    let ps = c.args.parameters.now in
    let vs = c.args.values.now in
    let i = c.loop-i.i in
    let p = c.index-parameters-i.result in
    let ls = map local_of c.loop-i.locals.items in
    let rest = filled_parameters (map parameter_of (drop (i + 1) ps)) (map value_of (drop (i + 1) vs)) ns in
    let by_name = ap option_value (c.copied.ensures ∙ c.get-in-loop-i.ensures.value)
    ∙ names p.name.now in
    let by_position = at_position _ vs i c.get.result c.get.ensures.lookup.1 c.get.ensures.lookup.3 in
    let takes = c.in_ok-value.ensures ∙ ap (λ (o : Option Value). value_taken (parameter_of p) o
    (option_value c.copied.result)) by_position
    ∙ ap (value_taken (parameter_of p) (option_map value_of (slice_get vs i))) by_name in
    sym (sym (c.loop-i.invariant ns names) ∙ ap (before ls) (next_filled ps vs ns i p c.loop-i-test.true
    c.index-parameters-i.is) ∙ ap (λ (o : Option Value). before ls (and_others (parameter_of p) o rest))
    (sym takes ∙ ap value_if_any c.in-None.is))

pub loop-i-preserved : goal.loop-i-preserved
loop-i-preserved c ns names =
    let ps = c.args.parameters.now in
    let vs = c.args.values.now in
    let i = c.loop-i.i in
    let p = c.index-parameters-i.result in
    let ls = map local_of c.loop-i.locals.items in
    let rest = filled_parameters (map parameter_of (drop (i + 1) ps)) (map value_of (drop (i + 1) vs)) ns in
    let by_name = ap option_value (c.copied.ensures ∙ c.get-in-loop-i.ensures.value)
    ∙ names p.name.now in
    let by_position = at_position _ vs i c.get.result c.get.ensures.lookup.1 c.get.ensures.lookup.3 in
    let takes = c.in_ok-value.ensures ∙ ap (λ (o : Option Value). value_taken (parameter_of p) o
    (option_value c.copied.result)) by_position
    ∙ ap (value_taken (parameter_of p) (option_map value_of (slice_get vs i))) by_name in
    ap (λ (xs : List Local). before xs rest) (ap (map local_of) c.in_ok-push-in-Some.ensures.items
    ∙ map-append local_of c.loop-i.locals.items _)
    ∙ sym (value_before ls (parameter_of p) (value_of c.in-Some.value) rest)
    ∙ ap (λ (o : Option Value). before ls (and_others (parameter_of p) o rest)) (sym (ap value_if_any c.in-Some.is)
    ∙ takes)
    ∙ sym (ap (before ls) (next_filled ps vs ns i p c.loop-i-test.true c.index-parameters-i.is))
    ∙ c.loop-i.invariant ns names

pub returns-then-values-parameters : goal.returns-then-values-parameters
returns-then-values-parameters c ns names =
    sym (sym (c.loop-i.invariant ns names) ∙ too_many c.args.parameters.now c.args.values.now ns
    (map local_of c.loop-i.locals.items) c.loop-i.i (omega arith) (omega arith))
