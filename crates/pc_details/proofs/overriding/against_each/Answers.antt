use Rattle.std.proofs.Common.{◌∙◌, ◌<◌, ℕ, Option, ap, arith, map, subst₂, sym}
use Rattle.std.specs.Option.{option_map}
use Rattle.pc_types.specs.Below.{Bases, base_of}
use Rattle.pc_types.specs.Boxed.{tree_of}
use Rattle.pc_annotations.specs.Bases.{bases_of}
use Rattle.pc_class.specs.Facts.{base_facts, classes_of}
use Rattle.pc_class.specs.Tables.{method_with}
use Rattle.pc_detail_texts.specs.Mapped.{map_detail}
use Rattle.pc_detail_facts.specs.Held.{module_held, text_held}
use Rattle.pc_details.specs.OverridesHeld.{first_over}
use Rattle.pc_details.proofs.OverrideChain.{classes_left, first_found, later_found, left_less, methods_above}
use Rattle.pc_details.proofs.OverrideChain.{methods_past, over_both}
use Rattle.pc_details.proofs.OverrideChain.{own_given}
use Rattle.pc_details.proofs.overriding.against_each.Goals as goal

pub against_these-requires-clause-above : goal.against_these-requires-clause-above
against_these-requires-clause-above c = own_given c.args.facts.now.classes.now c.in-Some.above c.own_methods.result.now _
    c.requires.facts.given c.own_methods.ensures.over

pub returns-then-above-count : goal.returns-then-above-count
returns-then-above-count c =
    let facts = c.args.facts.now in
    let m = module_held facts in
    let cs = classes_of m in
    let here = method_with tree_of c.args.here.now in
    let at = c.in-Some.above in
    let none = methods_past facts.classes.now cs at c.requires.facts.classes (omega arith) in
    ap (option_map (map_detail (text_held facts)))
    (sym (ap (λ (b : Option ℕ). first_over m c.args.code here (base_facts cs b).methods) c.in-Some.is
    ∙ ap (first_over m c.args.code here) none) ∙ c.up.invariant)

pub returns-then-is_some : goal.returns-then-is_some
returns-then-is_some c =
    let facts = c.args.facts.now in
    let m = module_held facts in
    let cs = classes_of m in
    let bases = bases_of m in
    let here = method_with tree_of c.args.here.now in
    let at = c.in-Some.above in
    let own = map (method_with tree_of) c.own_methods.result.now in
    let rest = (base_facts cs (base_of bases at)).methods in
    let all = ap (λ (b : Option ℕ). first_over m c.args.code here (base_facts cs b).methods) c.in-Some.is
    ∙ ap (first_over m c.args.code here) (methods_above facts.classes.now cs bases at c.own_methods.result.now
    c.requires.facts.classes c.requires.facts.parents c.own_methods.ensures.over)
    ∙ over_both m c.args.code here own rest in
    first_found facts (first_over m c.args.code here own) (first_over m c.args.code here rest) c.in_ok-detail.detail
    (sym c.is_some.ensures ∙ c.if-is_some.true) c.in_ok-detail.ensures
    ∙ ap (option_map (map_detail (text_held facts))) (sym all ∙ c.up.invariant)

pub up-preserved : goal.up-preserved
up-preserved c =
    let facts = c.args.facts.now in
    let m = module_held facts in
    let cs = classes_of m in
    let bases = bases_of m in
    let here = method_with tree_of c.args.here.now in
    let at = c.in-Some.above in
    let own = map (method_with tree_of) c.own_methods.result.now in
    let rest = (base_facts cs (base_of bases at)).methods in
    let all = ap (λ (b : Option ℕ). first_over m c.args.code here (base_facts cs b).methods) c.in-Some.is
    ∙ ap (first_over m c.args.code here) (methods_above facts.classes.now cs bases at c.own_methods.result.now
    c.requires.facts.classes c.requires.facts.parents c.own_methods.ensures.over)
    ∙ over_both m c.args.code here own rest in
    ap (λ (b : Option ℕ). first_over m c.args.code here (base_facts cs b).methods)
    (c.base-next.ensures.value ∙ ap (λ (bs : Bases). base_of bs at) c.requires.facts.outline.parents)
    ∙ sym (later_found facts (first_over m c.args.code here own) (first_over m c.args.code here rest)
    c.in_ok-detail.detail (sym c.is_some.ensures ∙ c.if-is_some.false) c.in_ok-detail.ensures) ∙ sym all
    ∙ c.up.invariant

pub up-smaller : goal.up-smaller
up-smaller c = subst₂ (λ (b n : Option ℕ). classes_left b < classes_left n) (sym c.base-next.ensures.value)
    (sym c.in-Some.is)
    (left_less c.args.facts.now.outline.now.parents.now c.base-next.ensures.ordered c.in-Some.above)

pub returns : goal.returns
returns c =
    let facts = c.args.facts.now in
    let m = module_held facts in
    let here = method_with tree_of c.args.here.now in
    ap (option_map (map_detail (text_held facts)))
    (sym (ap (λ (b : Option ℕ). first_over m c.args.code here (base_facts (classes_of m) b).methods) c.in_default.is)
    ∙ c.up.invariant)
