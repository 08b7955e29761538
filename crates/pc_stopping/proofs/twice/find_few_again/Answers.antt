use Rattle.std.proofs.Common.{◌∙◌, ◌++◌, ap, sym, map, take}
use Rattle.pc_tree.specs.declared.tree.Param.{Param as RustParam}
use Rattle.pc_tree.specs.Stopping.{is_among, self_before}
use Rattle.pc_stopping.proofs.Earlier.{text_of, found_more}
use Rattle.pc_stopping.proofs.twice.find_few_again.Goals as goal

pub loop-at-preserved : goal.loop-at-preserved
loop-at-preserved c =
    let before = map text_of (take c.loop-at.at c.args.params.now) ++ self_before c.args.is_method in
    found_more (self_before c.args.is_method) c.args.params.now c.args.found.now.items c.loop-at.at
    c.index-params-at.result c.is_bound-again.result c.loop-at.found.items c.find_again.new.found.items
    c.loop-at-test.true c.index-params-at.is
    ((rw c.as_str.ensures.value at c.is_bound-again.ensures)
    ∙ ap (λ (p : RustParam). is_among before (text_of p)) (sym c.index-params-at.is))
    (rw (← c.index-params-at.is) at c.in_ok-find_again.ensures)
    c.loop-at.invariant
