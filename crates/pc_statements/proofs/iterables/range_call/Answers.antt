use Rattle.pc_flow.specs.Naming.{meanings}
use Rattle.std.proofs.Common.{◌≡◌, ◌∙◌, sym, ap, rules}
use Rattle.std.specs.Prelude.{true}
use Rattle.pc_tree.specs.Tree.{expr_of, call}
use Rattle.pc_tree.specs.Lists.{exprs_of_list, keywords_of_list}
use Rattle.pc_tree.proofs.Trees.{call_tree}
use Rattle.pc_statements.specs.Internal.Ranges.{over_range}
use Rattle.pc_statements.proofs.iterables.range_call.Goals as goal

pub returns : goal.returns
returns c =
    let resolve = meanings c.args.names.now in
    let place = c.in-Call.place in
    let arguments = exprs_of_list c.deref-3.result.now in
    let keywords = keywords_of_list c.deref-4.result.now in
    let is : expr_of c.args.e.now ≡ call place (expr_of c.deref-2.result.now) arguments keywords =
    ap expr_of c.in-Call.is ∙ call_tree place c.in-Call.callee c.in-Call.arguments c.in-Call.by_name
    ∙ ap (λ x. call place (expr_of x) (exprs_of_list c.in-Call.arguments.items)
    (keywords_of_list c.in-Call.by_name.items)) (sym c.deref-2.ensures)
    ∙ ap (λ xs. call place (expr_of c.deref-2.result.now) (exprs_of_list xs)
    (keywords_of_list c.in-Call.by_name.items)) (sym c.deref-3.ensures.value)
    ∙ ap (λ xs. call place (expr_of c.deref-2.result.now) arguments (keywords_of_list xs))
    (sym c.deref-4.ensures.value) in
    let means : c.means_range.result ≡ true = search rules in (
      ap (over_range resolve) is ∙ ap (λ x. over_range resolve (call place (expr_of x) arguments keywords))
          (c.deref-2.ensures ∙ sym c.deref.ensures) ∙ sym (c.means_range.ensures place arguments keywords) ∙ means,
      is,
    )
