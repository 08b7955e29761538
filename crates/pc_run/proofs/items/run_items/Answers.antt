use Rattle.std.proofs.Common.{◌≡◌, ◌∙◌, ap, sym, drop, map, arith, ◌+◌, rules}
use Rattle.std.specs.Prelude.{Err}
use Rattle.pc_tree.specs.Tree.{item_of}
use Rattle.pc_run.specs.Internal.Items.{module_items_in, item_in}
use Rattle.pc_machine.specs.Machine.{progress_of, unit}
use Rattle.pc_machine.specs.Plain.{and_then}
use Rattle.pc_run.proofs.Defaults.{items_next, items_end}
use Rattle.pc_run.proofs.Steps.{tells_as, ends}
use Rattle.pc_run.proofs.items.run_items.Goals as goal

pub returns-in_err-run_item-clause-plain : goal.returns-in_err-run_item-clause-plain
returns-in_err-run_item-clause-plain c n lt =
    let is : c.from_residual.result ≡ Err c.in_err-run_item.field-0.0 = search rules in
    rw is (tells_as unit (Err c.in_err-run_item.field-0.0) c.run_item.new.machine _ _ (c.loop-item.invariant.run n lt
    ∙ items_next n c.args.imports_dataclass c.args.items.now c.loop-item.item-index c.item-item.result
    (progress_of c.loop-item.machine) c.loop-item-test.true c.item-item.is)
    (ends unit unit c.in_err-run_item.field-0.0 c.run_item.new.machine _ _
    (c.in_err-run_item.ensures.plain n (omega (arith, c.loop-item.invariant.fuel, lt)))))

pub loop-item-preserved : goal.loop-item-preserved
loop-item-preserved c = record {
  fuel = omega (arith, c.loop-item.invariant.fuel, c.in_ok-run_item.ensures.fuel);
  run = λ n lt. c.loop-item.invariant.run n lt ∙ items_next n c.args.imports_dataclass c.args.items.now
      c.loop-item.item-index c.item-item.result (progress_of c.loop-item.machine) c.loop-item-test.true c.item-item.is
      ∙ ap (λ l. and_then l (λ u. module_items_in n c.args.imports_dataclass
      (map item_of (drop (c.loop-item.item-index + 1) c.args.items.now))))
      (c.in_ok-run_item.ensures.plain n (omega (arith, c.loop-item.invariant.fuel, lt)));
}

pub returns-clause-plain : goal.returns-clause-plain
returns-clause-plain c n lt = c.loop-item.invariant.run n lt ∙ items_end n c.args.imports_dataclass c.args.items.now
    c.loop-item.item-index (progress_of c.loop-item.machine) (omega arith)
