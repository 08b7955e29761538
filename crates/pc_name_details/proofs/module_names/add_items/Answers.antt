use Rattle.std.proofs.Common.{◌∙◌, ◌++◌, List, ap, ap₂, append_assoc, map, subst}
use Rattle.std.specs.Borrow.{Bor}
use Rattle.std.specs.Prelude.{flat_map}
use Rattle.pc_tree.specs.declared.code.Code.TheVariants.{E01, E29}
use Rattle.pc_tree.specs.declared.tree.ClassDef.{ClassDef as RustClass}
use Rattle.pc_tree.specs.declared.tree.Name.{Name as RustName}
use Rattle.pc_tree.specs.Lists.{name_seen}
use Rattle.pc_tree.specs.Stopping.{name_of_item}
use Rattle.pc_tree.specs.Tree.{ClassDef, Name}
use Rattle.pc_scope.specs.Bindings.{Body, bodies, classes_in}
use Rattle.pc_name_details.specs.declared.repeated.Together.TheVariants as bound
use Rattle.pc_detail_facts.specs.Held.{class_lent, module_held}
use Rattle.pc_detail_rules.specs.Names.{items_together, names_of_body, names_of_members, reserved_detail, twice_among}
use Rattle.pc_name_details.specs.Naming.{reserved_of_names, together_of}
use Rattle.pc_name_details.specs.Offered.{AddsDetails, of_code}
use Rattle.pc_name_details.proofs.NamingSteps.{together_as}
use Rattle.pc_name_details.proofs.Offered.{added_both}
use Rattle.pc_detail_facts.proofs.Results.{on_ok}
use Rattle.pc_name_details.proofs.module_names.add_items.Goals as goal

pub returns : goal.returns
returns c =
    let facts = c.args.facts.now in
    let m = module_held facts in
    let a = c.args.offers.now in
    let b = c.add_all_twice.new.offers in
    let o = c.add_all_reserved.new.offers in
    let seen : List (Bor RustName) → List Name = map name_seen in
    let lent : List (Bor RustClass) → List ClassDef = map class_lent in
    let items = map name_of_item m.items in
    let members = flat_map names_of_members (classes_in m.items) in
    let first : AddsDetails facts (of_code E01 (λ p. twice_among p (items_together m))) a b =
    together_as facts a b _ (items_together m) (ap (together_of bound.Items)
    (ap seen c.deref.ensures.value ∙ c.in_ok-names.ensures)) c.in_ok-add_all_twice.ensures in
    let names = ap seen c.deref-3.ensures.value ∙ c.in_ok-add_names_of_bodies.ensures
    ∙ ap₂ (λ (l : List Name) (bs : List Body). l ++ flat_map names_of_body bs) (c.in_ok-add_names_of_classes.ensures
    ∙ ap₂ (λ (l : List Name) (cs : List ClassDef). l ++ flat_map names_of_members cs) c.in_ok-names.ensures
    (ap lent c.deref-2.ensures.value ∙ c.requires.facts.definitions.classes)) c.requires.bodies
    ∙ append_assoc items members (flat_map names_of_body (bodies m)) in
    on_ok c.add_all_reserved.result (λ k. added_both facts (of_code E01 (λ p. twice_among p (items_together m)))
    (of_code E29 (reserved_detail m)) a b o first
    (subst (λ (ns : List Name). AddsDetails facts (of_code E29 (reserved_of_names ns)) b o) names k)) c.add_all_reserved.ensures
