use Rattle.std.proofs.Common.{◌∙◌, ◌+◌, ◌++◌, [], List, ap, ap₂, arith, drop, map, sym}
use Rattle.std.proofs.lemmas.List.{drop_all}
use Rattle.std.specs.Borrow.{Bor}
use Rattle.pc_tree.specs.declared.tree.Name.{Name as RustName}
use Rattle.pc_tree.specs.Lists.{name_seen}
use Rattle.pc_tree.specs.Stopping.{bound_by}
use Rattle.pc_tree.specs.declared.tree.Stmt.{Stmt as RustStmt}
use Rattle.pc_tree.specs.Tree.{Name, stmts_of_list}
use Rattle.pc_detail_rules.specs.Names.{places_named}
use Rattle.pc_name_details.specs.Uses.{first_three}
use Rattle.pc_detail_facts.proofs.Held.{drop_next}
use Rattle.pc_name_details.proofs.UseSteps.{places_ended}
use Rattle.pc_name_details.proofs.uses.bound_places.Goals as goal

pub loop-name-preserved : goal.loop-name-preserved
loop-name-preserved c =
    let ns = c.deref-name-items.result.now in
    let i = c.loop-name.name-index in
    let seen = c.loop-name.places.items in
    record {
      places = c.in_ok-add_place.ensures.places (map name_seen (drop (i + 1) ns))
          ∙ sym (ap (λ (l : List (Bor RustName)). first_three seen (places_named c.args.word.now (map name_seen l)))
          (drop_next ns i c.name-item.result c.loop-name-test.true c.name-item.is)) ∙ c.loop-name.invariant.places;
      few = c.in_ok-add_place.ensures.few;
    }

pub returns : goal.returns
returns c =
    let ns = c.deref-name-items.result.now in
    let seen = c.loop-name.places.items in
    sym (places_ended seen)
    ∙ ap (λ (l : List (Bor RustName)). first_three seen (places_named c.args.word.now (map name_seen l)))
    (sym (drop_all c.loop-name.name-index ns (omega arith))) ∙ c.loop-name.invariant.places
    ∙ ap (λ (l : List Name). first_three [] (places_named c.args.word.now l))
    (ap (λ (l : List (Bor RustName)). map name_seen l) c.deref-name-items.ensures.value
    ∙ c.in_ok-add_bound.ensures ∙ ap₂ (λ (l : List (Bor RustName)) (b : List RustStmt). map name_seen l
    ++ bound_by (stmts_of_list b)) c.new-names.ensures.items c.deref.ensures.value)
