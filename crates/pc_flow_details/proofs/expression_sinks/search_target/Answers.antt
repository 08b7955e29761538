use Rattle.std.proofs.Common.{◌++◌, ◌∷◌, ◌∙◌, [], List, ap}
use Rattle.std.specs.Prelude.{false}
use Rattle.pc_tree.specs.Tree.{expr_of, target_of}
use Rattle.pc_tree.specs.declared.tree.Target.{Target as RustTarget}
use Rattle.pc_scope.specs.Expressions.{parts_in, target_exprs}
use Rattle.pc_flow_details.specs.Kept.{flows_kept, taken_below, taken_in}
use Rattle.pc_detail_rules.specs.Sinks.{SinkAt}
use Rattle.pc_flow_details.proofs.Kept.{alone_below, on_whole, one_below}
use Rattle.pc_flow_details.proofs.SearchedSinks.{nothing_below, on_same}
use Rattle.pc_flow_details.proofs.expression_sinks.search_target.Goals as goal

pub returns-in-Name : goal.returns-in-Name
returns-in-Name c = nothing_below c.args.facts.now c.args.owner (flows_kept c.args.sinks.now)
    (target_exprs (target_of c.args.target.now))
    (ap (λ (x : RustTarget). target_exprs (target_of x)) c.in-Name.is)

pub returns-in-Attribute : goal.returns-in-Attribute
returns-in-Attribute c =
    let f = c.args.facts.now in
    let o = c.args.owner in
    let e = expr_of c.in-Attribute.object.value in
    on_same f c.search.result (flows_kept c.args.sinks.now) (flows_kept c.search.new.sinks)
    (taken_in f o (parts_in false e)) (taken_below f o (target_exprs (target_of c.args.target.now)))
    (ap (λ (x : RustTarget). taken_below f o (target_exprs (target_of x))) c.in-Attribute.is ∙ alone_below f o e)
    (rw c.deref.ensures at c.search.ensures)

pub returns-in_ok-search-in-Index : goal.returns-in_ok-search-in-Index
returns-in_ok-search-in-Index c =
    let f = c.args.facts.now in
    let o = c.args.owner in
    let object = expr_of c.in-Index.object.value in
    let index = expr_of c.in-Index.index.value in
    on_whole f c.search-in-Index-2.result (flows_kept c.args.sinks.now) (flows_kept c.search-in-Index.new.sinks)
    (flows_kept c.search-in-Index-2.new.sinks) (taken_in f o (parts_in false object))
    (taken_in f o (parts_in false index)) (taken_below f o (target_exprs (target_of c.args.target.now)))
    (ap (λ (x : RustTarget). taken_below f o (target_exprs (target_of x))) c.in-Index.is
    ∙ one_below f o object (index ∷ [])
    ∙ ap (λ (l : List SinkAt). taken_in f o (parts_in false object) ++ l) (alone_below f o index))
    (rw c.deref-in-Index.ensures at c.in_ok-search-in-Index.ensures)
    (rw c.deref-in-Index-2.ensures at c.search-in-Index-2.ensures)
