use Rattle.std.proofs.Common.{◌∙◌, ◌+◌, ◌||◌, List, Bool, ap, arith, drop, sym}
use Rattle.std.proofs.lemmas.List.{drop_all}
use Rattle.std.specs.Borrow.{Bor}
use Rattle.std.specs.List.{list_any}
use Rattle.pc_types.specs.Boxed.{tree_of}
use Rattle.pc_types.specs.Join.{same_tree}
use Rattle.pc_types.specs.declared.boxed.BoxType.{BoxType}
use Rattle.pc_detail_facts.specs.Held.{trees_lent}
use Rattle.pc_type_details.proofs.Keys.{any_next}
use Rattle.pc_type_details.proofs.statements.is_among.Goals as goal

pub returns-then-is_same : goal.returns-then-is_same
returns-then-is_same c =
    let p = same_tree (tree_of c.args.ty.now) in
    let xs = c.args.types.now in
    let i = c.loop-other.other-index in
    sym (sym c.loop-other.invariant ∙ any_next p xs i c.other-item.result c.loop-other-test.true c.other-item.is
    ∙ ap (λ (b : Bool). b || list_any p (trees_lent (drop (i + 1) xs))) (sym c.is_same.ensures ∙ c.if-is_same.true))

pub loop-other-preserved : goal.loop-other-preserved
loop-other-preserved c =
    let p = same_tree (tree_of c.args.ty.now) in
    let xs = c.args.types.now in
    let i = c.loop-other.other-index in
    sym (any_next p xs i c.other-item.result c.loop-other-test.true c.other-item.is
    ∙ ap (λ (b : Bool). b || list_any p (trees_lent (drop (i + 1) xs))) (sym c.is_same.ensures ∙ c.if-is_same.false))
    ∙ c.loop-other.invariant

pub returns : goal.returns
returns c =
    let p = same_tree (tree_of c.args.ty.now) in
    let xs = c.args.types.now in
    sym (ap (λ (l : List (Bor BoxType)). list_any p (trees_lent l)) (drop_all c.loop-other.other-index xs (omega arith)))
    ∙ c.loop-other.invariant
