use Rattle.std.proofs.Common.{◌∙◌, List, ℕ, ap, ap₂, sym}
use Rattle.std.specs.Prelude.{flat_map}
use Rattle.pc_source.specs.declared.place.Place.{Place}
use Rattle.pc_tree.specs.Depth.{place_of}
use Rattle.pc_tree.specs.Tree.{expr_of, name_of, target_of}
use Rattle.pc_tree.specs.declared.tree.Expr.{Expr as RustExpr}
use Rattle.pc_tree.specs.declared.tree.Target.{Target as RustTarget}
use Rattle.pc_types.specs.Boxed.{tree_of}
use Rattle.pc_types.specs.Shape.{members}
use Rattle.pc_types.specs.Tree.{Tree}
use Rattle.pc_detail_facts.specs.Held.{known_held, module_held}
use Rattle.pc_detail_rules.specs.Sinks.{assigned_sinks, field_store}
use Rattle.pc_detail_texts.specs.Details as detail
use Rattle.pc_flow_details.proofs.EachSink.{on_same}
use Rattle.pc_flow_details.proofs.LocalsHeld.{local_sunk}
use Rattle.pc_flow_details.proofs.stores.add_assigned.Goals as goal

pub returns-in-Attribute : goal.returns-in-Attribute
returns-in-Attribute c = λ fn are.
    let f = c.args.facts.now in
    let m = module_held f in
    let k = known_held f in
    let e = expr_of c.args.value.now in
    on_same f c.add_field_stores.result _ _ _ (assigned_sinks m k fn (target_of c.args.target.now) e)
    (ap₂ (λ (p : Place) (w : List ℕ). flat_map (field_store m p w) (members (tree_of c.type_at-ty.result.now)))
    c.place-in-Attribute-2.ensures c.as_str.ensures.value
    ∙ ap (λ (t : Tree). flat_map (field_store m (place_of e) (name_of c.in-Attribute.name).text) (members t))
    (c.type_at-ty.ensures.tree ∙ ap k.types c.place-in-Attribute.ensures
    ∙ ap (λ (x : RustExpr). k.types (place_of (expr_of x))) c.deref.ensures)
    ∙ sym (ap (λ (t : RustTarget). assigned_sinks m k fn (target_of t) e) c.in-Attribute.is)) c.add_field_stores.ensures

pub returns-in-Name : goal.returns-in-Name
returns-in-Name c = λ fn are.
    let f = c.args.facts.now in
    let m = module_held f in
    let k = known_held f in
    let e = expr_of c.args.value.now in
    on_same f _ _ _ _ (assigned_sinks m k fn (target_of c.args.target.now) e)
    (local_sunk detail.a_local c.args.locals.now fn _ _ _ (name_of c.in-Name.name).text c.get.result are c.place.ensures
    c.as_str-name.ensures.value c.get.ensures
    ∙ sym (ap (λ (t : RustTarget). assigned_sinks m k fn (target_of t) e) c.in-Name.is)) c.add_only.ensures
