use Rattle.std.proofs.Common.{◌≡◌, ◌∙◌, ◌++◌, [], List, map, sym, ap, subst, append_assoc}
use Rattle.pc_tree.specs.declared.code.Code.TheVariants.{E07}
use Rattle.pc_tree.specs.declared.code.Finding.{Finding}
use Rattle.pc_tree.specs.declared.tree.Item.{Item as RustItem}
use Rattle.pc_tree.specs.Tree.{module_of, item_of}
use Rattle.pc_scope.specs.Bindings.{classes_in}
use Rattle.pc_tree.specs.Code.{at_code}
use Rattle.pc_types.specs.Below.{Bases}
use Rattle.pc_annotations.specs.Bases.{bases_of}
use Rattle.pc_class.specs.Annotated.{member_annotations}
use Rattle.pc_class.specs.Entries.{missing_bases}
use Rattle.pc_class.specs.Built.{found_behind, annotated_behind, class_findings}
use Rattle.pc_class.specs.Facts.{ClassFacts}
use Rattle.pc_class.specs.Parts.{classes_of_table}
use Rattle.pc_class.specs.Tables.{HasEntries}
use Rattle.pc_class.proofs.EntriesGiven.{table_given}
use Rattle.pc_class.proofs.ItemsBuilt.{found_listed, annotated_listed, bases_are, bases_there}
use Rattle.pc_class.proofs.building.class_table.Goals as goal

pub returns-clause-found : goal.returns-clause-found
unfolding class_findings member_annotations
returns-clause-found g c =
    let m = module_of c.args.tree.now in
    let old = c.args.found.now.items in
    let cs = classes_in m.items in
    let missing = at_code E07 (missing_bases (bases_of m) 0 cs) in
    let late = found_behind m [] 0 cs in
    let annotated = annotated_behind m [] 0 cs in
    let bases : c.find_missing_bases.new.found.items ≡ old ++ missing = c.in_ok-find_missing_bases.ensures
    ∙ ap (λ (xs : List RustItem). old ++ at_code E07 (missing_bases c.in_ok-parents.parents 0
    (classes_in (map item_of xs)))) c.deref.ensures.value
    ∙ ap (λ (bs : Bases). old ++ at_code E07 (missing_bases bs 0 cs)) c.in_ok-parents.ensures in
    c.in_ok-parts.ensures.found
    ∙ ap (λ (fs : List Finding). fs ++ (late ++ annotated)) bases
    ∙ append_assoc old missing (late ++ annotated)
    ∙ ap (λ (fs : List Finding). old ++ fs) (sym (append_assoc missing late annotated))
    ∙ (λ i. old ++ ((missing ++ found_listed m i) ++ annotated_listed m i))

pub returns-clause-given : goal.returns-clause-given
returns-clause-given g c = subst (HasEntries (g.S.TypeStore.has c.read_parts.new.store)) (sym c.of.ensures)
    (table_given (g.S.TypeStore.has c.read_parts.new.store) c.in_ok-parts.parts c.in_ok-parts.ensures.given)

pub of-requires-clause-parents : goal.of-requires-clause-parents
of-requires-clause-parents g c =
    c.in_ok-parents.ensures ∙ sym (bases_are (module_of c.args.tree.now))
    ∙ ap (map (λ (x : ClassFacts). x.base)) (sym c.in_ok-parts.ensures.classes)
    ∙ bases_there g.S.TypeStore.tree (classes_of_table c.in_ok-parts.parts)
