use Rattle.std.proofs.Common.{◌≡◌, ◌∙◌, List, sym, ap, arith, length, map, subst}
use Rattle.std.specs.Prelude.{OnOk}
use Rattle.pc_tree.proofs.Trees.{dict_tree, list_tree}
use Rattle.pc_tree.specs.Depth.{place_of}
use Rattle.pc_tree.specs.Lists.{entries_of_list, exprs_of_list, keywords_of_list}
use Rattle.pc_tree.specs.Tree.{Expr, expr_of}
use Rattle.pc_tree.specs.declared.tree.Entry.{Entry as RustEntry}
use Rattle.pc_tree.specs.declared.tree.Expr.{Expr as RustExpr}
use Rattle.pc_types.specs.Boxed.{tree_of}
use Rattle.pc_types.specs.Tree.{Tree}
use Rattle.pc_detail_facts.specs.Callees.{called_of}
use Rattle.pc_detail_facts.specs.Held.{known_held, module_held}
use Rattle.pc_flow_details.specs.Kept.{first_of_both, flows_to_sinks, flows_kept}
use Rattle.pc_detail_rules.specs.Nodes.{owned}
use Rattle.pc_detail_rules.specs.Sinks.{SinkAt, compared_sinks, entry_sinks, index_sinks, item_sinks, named_sinks}
use Rattle.pc_detail_rules.specs.Sinks.{positional_sinks, sinks_in}
use Rattle.pc_flow_details.proofs.Arguments.{nothing_into}
use Rattle.pc_flow_details.proofs.Kept.{on_whole}
use Rattle.pc_flow_details.proofs.TakenSinks.{arguments_taken, compared_taken, index_taken, into_same}
use Rattle.pc_flow_details.proofs.TakesNothing.{atom_taken, constant_taken, junction_taken, operand_taken, taken}
use Rattle.pc_flow_details.proofs.TakesNothing.{tested_taken}
use Rattle.pc_flow_details.proofs.taken.add_taken.Goals as goal

pub returns-in-List : goal.returns-in-List
returns-in-List c =
    let f = c.args.facts.now in
    let k = known_held f in
    subst (λ (l : List SinkAt). OnOk c.add_listed.result (flows_kept c.add_listed.new.sinks
    ≡ first_of_both (flows_kept c.args.sinks.now) (flows_to_sinks f l)))
    (ap (λ (t : Tree). item_sinks t (exprs_of_list c.deref.result.now)) c.type_at.ensures.tree
    ∙ ap (λ (xs : List RustExpr). item_sinks (k.types c.in-List.place) (exprs_of_list xs)) c.deref.ensures.value
    ∙ sym (ap (λ (x : Expr). sinks_in (module_held f) k (owned c.args.owner x))
    (ap expr_of c.in-List.is ∙ list_tree c.in-List.place c.in-List.items)))
    c.add_listed.ensures

pub returns-in-Dict : goal.returns-in-Dict
returns-in-Dict c =
    let f = c.args.facts.now in
    let k = known_held f in
    subst (λ (l : List SinkAt). OnOk c.add_entries.result (flows_kept c.add_entries.new.sinks
    ≡ first_of_both (flows_kept c.args.sinks.now) (flows_to_sinks f l)))
    (ap (λ (t : Tree). entry_sinks t (entries_of_list c.deref-in-Dict.result.now)) c.type_at-in-Dict.ensures.tree
    ∙ ap (λ (xs : List RustEntry). entry_sinks (k.types c.in-Dict.place) (entries_of_list xs))
    c.deref-in-Dict.ensures.value
    ∙ sym (ap (λ (x : Expr). sinks_in (module_held f) k (owned c.args.owner x))
    (ap expr_of c.in-Dict.is ∙ dict_tree c.in-Dict.place c.in-Dict.entries)))
    c.add_entries.ensures

pub returns-in-Compare : goal.returns-in-Compare
returns-in-Compare c =
    let f = c.args.facts.now in
    let m = module_held f in
    let k = known_held f in
    let t = tree_of c.type_at-in-Compare.result.now in
    into_same f c.add_compared.result (flows_kept c.args.sinks.now) (flows_kept c.add_compared.new.sinks)
    (compared_sinks c.in-Compare.operator c.place.result t)
    (sinks_in m k (owned c.args.owner (expr_of c.args.expr.now)))
    (compared_taken m k c.args.owner c.args.expr.now c.in-Compare.place c.in-Compare.operator c.in-Compare.left
    c.in-Compare.right c.place.result c.place-in-Compare.result t c.in-Compare.is
    (c.place.ensures ∙ ap (λ (x : RustExpr). place_of (expr_of x)) c.deref-in-Compare.ensures)
    (c.place-in-Compare.ensures ∙ ap (λ (x : RustExpr). place_of (expr_of x)) c.deref-in-Compare-2.ensures)
    c.type_at-in-Compare.ensures.tree) c.add_compared.ensures

pub returns-in-Index : goal.returns-in-Index
returns-in-Index c =
    let f = c.args.facts.now in
    let m = module_held f in
    let k = known_held f in
    let t = tree_of c.type_at-in-Index.result.now in
    into_same f c.add_index.result (flows_kept c.args.sinks.now) (flows_kept c.add_index.new.sinks)
    (index_sinks m (expr_of c.deref-in-Index.result.now) t)
    (sinks_in m k (owned c.args.owner (expr_of c.args.expr.now)))
    (index_taken m k c.args.owner c.args.expr.now c.in-Index.place c.in-Index.object c.in-Index.index
    c.deref-in-Index.result.now c.place-in-Index.result t c.in-Index.is c.deref-in-Index.ensures
    (c.place-in-Index.ensures ∙ ap (λ (x : RustExpr). place_of (expr_of x)) c.deref-in-Index-2.ensures)
    c.type_at-in-Index.ensures.tree) c.add_index.ensures

pub returns-in_ok-add_positional-in-Call : goal.returns-in_ok-add_positional-in-Call
returns-in_ok-add_positional-in-Call c =
    let f = c.args.facts.now in
    let m = module_held f in
    let k = known_held f in
    let v = c.in-Call.arguments in
    let ks = c.in-Call.keywords in
    let cs = map (called_of f) c.in_ok-called-in-Call.called.items in
    let count : c.len.result ≡ length v.items = omega (arith, c.len.ensures, v.ok.0) in
    on_whole f c.add_named.result (flows_kept c.args.sinks.now) (flows_kept c.add_positional.new.sinks)
    (flows_kept c.add_named.new.sinks) (positional_sinks cs 0 (exprs_of_list v.items))
    (named_sinks cs (keywords_of_list ks.items)) (sinks_in m k (owned c.args.owner (expr_of c.args.expr.now)))
    (arguments_taken m k c.args.owner c.args.expr.now c.in-Call.place c.in-Call.callee v ks cs c.len.result
    c.in-Call.is count (rw c.deref-in-Call.ensures at c.in_ok-called-in-Call.ensures.called))
    (rw (c.deref-in-Call-2.ensures.value, c.deref-in-Call-3.ensures.value) at c.in_ok-add_positional-in-Call.ensures)
    (rw (c.deref-in-Call-4.ensures.value, c.deref-in-Call-5.ensures.value) at c.add_named.ensures)

pub returns-in-Name : goal.returns-in-Name
returns-in-Name c =
    let f = c.args.facts.now in
    nothing_into f (flows_kept c.args.sinks.now) (taken (module_held f) (known_held f) c.args.owner c.args.expr.now)
    (atom_taken (module_held f) (known_held f) c.args.owner c.args.expr.now c.in-Name.is)

pub returns-in-Name-2 : goal.returns-in-Name-2
returns-in-Name-2 c =
    let f = c.args.facts.now in
    nothing_into f (flows_kept c.args.sinks.now) (taken (module_held f) (known_held f) c.args.owner c.args.expr.now)
    (atom_taken (module_held f) (known_held f) c.args.owner c.args.expr.now c.in-Name.is)

pub returns-in-Name-3 : goal.returns-in-Name-3
returns-in-Name-3 c =
    let f = c.args.facts.now in
    nothing_into f (flows_kept c.args.sinks.now) (taken (module_held f) (known_held f) c.args.owner c.args.expr.now)
    (atom_taken (module_held f) (known_held f) c.args.owner c.args.expr.now c.in-Name.is)

pub returns-in-Name-4 : goal.returns-in-Name-4
returns-in-Name-4 c =
    let f = c.args.facts.now in
    nothing_into f (flows_kept c.args.sinks.now) (taken (module_held f) (known_held f) c.args.owner c.args.expr.now)
    (atom_taken (module_held f) (known_held f) c.args.owner c.args.expr.now c.in-Name.is)

pub returns-in-True : goal.returns-in-True
returns-in-True c =
    let f = c.args.facts.now in
    nothing_into f (flows_kept c.args.sinks.now) (taken (module_held f) (known_held f) c.args.owner c.args.expr.now)
    (constant_taken (module_held f) (known_held f) c.args.owner c.args.expr.now c.in-True.is)

pub returns-in-True-2 : goal.returns-in-True-2
returns-in-True-2 c =
    let f = c.args.facts.now in
    nothing_into f (flows_kept c.args.sinks.now) (taken (module_held f) (known_held f) c.args.owner c.args.expr.now)
    (constant_taken (module_held f) (known_held f) c.args.owner c.args.expr.now c.in-True.is)

pub returns-in-True-3 : goal.returns-in-True-3
returns-in-True-3 c =
    let f = c.args.facts.now in
    nothing_into f (flows_kept c.args.sinks.now) (taken (module_held f) (known_held f) c.args.owner c.args.expr.now)
    (constant_taken (module_held f) (known_held f) c.args.owner c.args.expr.now c.in-True.is)

pub returns-in-Negative : goal.returns-in-Negative
returns-in-Negative c =
    let f = c.args.facts.now in
    nothing_into f (flows_kept c.args.sinks.now) (taken (module_held f) (known_held f) c.args.owner c.args.expr.now)
    (operand_taken (module_held f) (known_held f) c.args.owner c.args.expr.now c.in-Negative.is)

pub returns-in-Negative-2 : goal.returns-in-Negative-2
returns-in-Negative-2 c =
    let f = c.args.facts.now in
    nothing_into f (flows_kept c.args.sinks.now) (taken (module_held f) (known_held f) c.args.owner c.args.expr.now)
    (operand_taken (module_held f) (known_held f) c.args.owner c.args.expr.now c.in-Negative.is)

pub returns-in-Negative-3 : goal.returns-in-Negative-3
returns-in-Negative-3 c =
    let f = c.args.facts.now in
    nothing_into f (flows_kept c.args.sinks.now) (taken (module_held f) (known_held f) c.args.owner c.args.expr.now)
    (operand_taken (module_held f) (known_held f) c.args.owner c.args.expr.now c.in-Negative.is)

pub returns-in-IsNone : goal.returns-in-IsNone
returns-in-IsNone c =
    let f = c.args.facts.now in
    nothing_into f (flows_kept c.args.sinks.now) (taken (module_held f) (known_held f) c.args.owner c.args.expr.now)
    (tested_taken (module_held f) (known_held f) c.args.owner c.args.expr.now c.in-IsNone.is)

pub returns-in-IsNone-2 : goal.returns-in-IsNone-2
returns-in-IsNone-2 c =
    let f = c.args.facts.now in
    nothing_into f (flows_kept c.args.sinks.now) (taken (module_held f) (known_held f) c.args.owner c.args.expr.now)
    (tested_taken (module_held f) (known_held f) c.args.owner c.args.expr.now c.in-IsNone.is)

pub returns-in-IsNone-3 : goal.returns-in-IsNone-3
returns-in-IsNone-3 c =
    let f = c.args.facts.now in
    nothing_into f (flows_kept c.args.sinks.now) (taken (module_held f) (known_held f) c.args.owner c.args.expr.now)
    (tested_taken (module_held f) (known_held f) c.args.owner c.args.expr.now c.in-IsNone.is)

pub returns-in-And : goal.returns-in-And
returns-in-And c =
    let f = c.args.facts.now in
    nothing_into f (flows_kept c.args.sinks.now) (taken (module_held f) (known_held f) c.args.owner c.args.expr.now)
    (junction_taken (module_held f) (known_held f) c.args.owner c.args.expr.now c.in-And.is)

pub returns-in-And-2 : goal.returns-in-And-2
returns-in-And-2 c =
    let f = c.args.facts.now in
    nothing_into f (flows_kept c.args.sinks.now) (taken (module_held f) (known_held f) c.args.owner c.args.expr.now)
    (junction_taken (module_held f) (known_held f) c.args.owner c.args.expr.now c.in-And.is)
