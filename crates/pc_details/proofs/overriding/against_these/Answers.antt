use Rattle.std.proofs.Common.{◌∙◌, ◌+◌, ◌∷◌, [], List, Option, ap, arith, drop, map, sym}
use Rattle.std.proofs.lemmas.List.{drop_all}
use Rattle.std.specs.Option.{option_map}
use Rattle.pc_types.specs.Boxed.{tree_of}
use Rattle.pc_types.specs.Tree.{Tree}
use Rattle.pc_types.specs.declared.boxed.BoxType.{BoxType}
use Rattle.pc_class.specs.Tables.{method_with}
use Rattle.pc_class.specs.declared.table.Method.{Method as RustMethod}
use Rattle.pc_detail_texts.specs.Details.{Detail}
use Rattle.pc_detail_texts.specs.Mapped.{map_detail}
use Rattle.pc_detail_facts.specs.Held.{module_held, text_held}
use Rattle.pc_details.specs.OverridesHeld.{first_over}
use Rattle.pc_details.proofs.OverrideChain.{first_found, later_found, over_next}
use Rattle.pc_details.proofs.overriding.against_these.Goals as goal

pub returns-then-is_some : goal.returns-then-is_some
returns-then-is_some c =
    let facts = c.args.facts.now in
    let m = module_held facts in
    let here = method_with tree_of c.args.here.now in
    let xs = c.args.above.now in
    let i = c.loop-method.method-index in
    let x = c.method-item.result in
    first_found facts (first_over m c.args.code here (method_with tree_of x ∷ []))
    (first_over m c.args.code here (map (method_with tree_of) (drop (i + 1) xs))) c.in_ok-detail.detail
    (sym c.is_some.ensures ∙ c.if-is_some.true) c.in_ok-detail.ensures
    ∙ ap (λ (o : Option (Detail Tree)). option_map (map_detail (text_held facts)) o)
    (sym (over_next m c.args.code here xs i x c.loop-method-test.true c.method-item.is) ∙ c.loop-method.invariant)

pub loop-method-preserved : goal.loop-method-preserved
loop-method-preserved c =
    let facts = c.args.facts.now in
    let m = module_held facts in
    let here = method_with tree_of c.args.here.now in
    let xs = c.args.above.now in
    let i = c.loop-method.method-index in
    let x = c.method-item.result in
    sym (later_found facts (first_over m c.args.code here (method_with tree_of x ∷ []))
    (first_over m c.args.code here (map (method_with tree_of) (drop (i + 1) xs))) c.in_ok-detail.detail
    (sym c.is_some.ensures ∙ c.if-is_some.false) c.in_ok-detail.ensures)
    ∙ sym (over_next m c.args.code here xs i x c.loop-method-test.true c.method-item.is) ∙ c.loop-method.invariant

pub returns : goal.returns
returns c =
    let facts = c.args.facts.now in
    let m = module_held facts in
    let here = method_with tree_of c.args.here.now in
    let xs = c.args.above.now in
    ap (λ (o : Option (Detail Tree)). option_map (map_detail (text_held facts)) o)
    (sym (ap (λ (l : List (RustMethod BoxType)). first_over m c.args.code here (map (method_with tree_of) l))
    (drop_all c.loop-method.method-index xs (omega arith))) ∙ c.loop-method.invariant)
