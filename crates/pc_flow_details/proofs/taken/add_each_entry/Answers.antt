use Rattle.std.proofs.Common.{◌≡◌, ◌++◌, ◌∷◌, [], List, refl, subst}
use Rattle.pc_tree.specs.Depth.{place_of}
use Rattle.pc_tree.specs.Lists.{entries_of_list}
use Rattle.pc_tree.specs.Tree.{expr_of}
use Rattle.pc_tree.specs.declared.tree.Entry.{Entry as RustEntry}
use Rattle.pc_types.specs.Boxed.{tree_of}
use Rattle.pc_types.specs.Tree.{Tree, DictOf}
use Rattle.pc_detail_texts.specs.Details as detail
use Rattle.pc_flow_details.specs.Kept.{first_of_both, flows_to_sinks, flows_kept}
use Rattle.pc_detail_rules.specs.Sinks.{entry_sinks, one_sink}
use Rattle.pc_flow_details.proofs.Kept.{by_two, end_of, next_of}
use Rattle.pc_flow_details.proofs.taken.add_each_entry.Goals as goal

pub loop-entry-preserved : goal.loop-entry-preserved
loop-entry-preserved c =
    let f = c.args.facts.now in
    let k = tree_of c.args.key.now in
    let v = tree_of c.args.value.now in
    let p = place_of (expr_of c.entry-item.result.key) in
    let q = place_of (expr_of c.entry-item.result.value) in
    next_of f (λ (xs : List RustEntry). entry_sinks (DictOf k v) (entries_of_list xs))
    ((one_sink p (detail.a_key (DictOf k v)) k ∷ []) ++ (one_sink q (detail.a_value (DictOf k v)) v ∷ [])) _
    c.loop-entry.entry-index c.entry-item.result _ _ _ refl c.loop-entry-test.true c.entry-item.is
    c.loop-entry.invariant
    (by_two f _ _ _ (one_sink p (detail.a_key (DictOf k v)) k ∷ []) (one_sink q (detail.a_value (DictOf k v)) v ∷ [])
    (subst (λ (x : Tree). flows_kept c.add_key.new.sinks ≡ first_of_both (flows_kept c.loop-entry.sinks)
    (flows_to_sinks f (one_sink p (detail.a_key x) k ∷ []))) c.requires.dict c.in_ok-add_key.ensures)
    (subst (λ (x : Tree). flows_kept c.add_value.new.sinks ≡ first_of_both (flows_kept c.add_key.new.sinks)
    (flows_to_sinks f (one_sink q (detail.a_value x) v ∷ []))) c.requires.dict c.in_ok-add_value.ensures))

pub returns : goal.returns
returns c =
    let f = c.args.facts.now in
    end_of f (λ (xs : List RustEntry). entry_sinks (DictOf (tree_of c.args.key.now) (tree_of c.args.value.now))
    (entries_of_list xs)) _ c.loop-entry.entry-index _ _ refl c.loop-entry-test.false c.loop-entry.invariant
