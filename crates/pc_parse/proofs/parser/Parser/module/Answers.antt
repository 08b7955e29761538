use Rattle.std.proofs.Common.{[], refl, ap, sym, ◌∙◌}
use Rattle.std.specs.Option.{is_some}
use Rattle.std.proofs.lemmas.Result.{err_from_is_err_and}
use Rattle.pc_tree.specs.Tree.{item_of}
use Rattle.pc_tree.specs.Depth.{wholes_of_items}
use Rattle.pc_grammar.specs.Machine.Lines.{module_of as module_over}
use Rattle.pc_parse.specs.Internal.Modules.{top_of}
use Rattle.pc_parse.proofs.Parameters.{kept_none}
use Rattle.pc_parse.proofs.Pieces.{more_items}
use Rattle.pc_parse.proofs.Surplus.{surplus, item_fails, end_fails, module_read, kind_there, nothing_there}
use Rattle.pc_parse.proofs.parser.Parser.module.Goals as goal

pub returns-in_err-headers-clause-read : goal.returns-in_err-headers-clause-read
returns-in_err-headers-clause-read g c = let p = err_from_is_err_and c.from_residual.result c.from_residual.ensures.1 in
    rw (p.1, p.2) c.in_err-headers.ensures

pub loop-items-init : goal.loop-items-init
loop-items-init g c = let h = c.in_ok-headers.ensures in record {
  ready = h.ready;
  items = record {
    all = [];
    keeps = kept_none item_of wholes_of_items refl _ c.new-items.ensures.items;
    leads =
        h.leads;
  };
}

pub returns-in_err-item-clause-read : goal.returns-in_err-item-clause-read
returns-in_err-item-clause-read g c = let p = err_from_is_err_and c.from_residual-in_err-item.result
    c.from_residual-in_err-item.ensures.1 in
    rw (p.1, p.2) (item_fails c.loop-items.invariant.items c.in_err-item.ensures)

pub loop-items-preserved : goal.loop-items-preserved
loop-items-preserved g c = let x = rw c.in-Item.is at c.in_ok-item.ensures in record {
  ready = x.ready;
  items = more_items c.loop-items.invariant.items x c.in_ok-push-in-Item.ensures.items;
}

pub returns-then-is_some-clause-read : goal.returns-then-is_some-clause-read
returns-then-is_some-clause-read g c = let s = c.loop-items.invariant.items in let x =
    rw c.in-Last.is at c.in_ok-item.ensures in
    let k = kind_there c.piece.new.self.reader.ahead (ap is_some (sym c.kind.ensures) ∙ sym c.is_some.ensures
    ∙ c.if-is_some.true) in
    end_fails s x (surplus g.X.AsStr.text g.I.Iterator.next_gives c.piece.new.self.reader
    (module_over (top_of c.in_ok-headers.headers s.all) c.in-Last.main) c.misfit.result k.0 k.1 c.misfit.ensures)

pub returns-in-Last-clause-read : goal.returns-in-Last-clause-read
returns-in-Last-clause-read g c = let x = rw c.in-Last.is at c.in_ok-item.ensures in
    module_read c.loop-items.invariant.items x (nothing_there c.piece.new.self.reader.ahead
    (ap is_some (sym c.kind.ensures) ∙ sym c.is_some.ensures ∙ c.if-is_some.false))
