use Rattle.std.proofs.Common.{◌∙◌, ◌+◌, ◌∷◌, List, ap, arith, drop, sym}
use Rattle.std.proofs.lemmas.List.{drop_all}
use Rattle.pc_tree.specs.declared.tree.Entry.{Entry as RustEntry}
use Rattle.pc_tree.specs.Lists.{entries_of_list}
use Rattle.pc_types.specs.Tree.{Tree}
use Rattle.pc_detail_facts.specs.Held.{known_held, module_held, trees_lent}
use Rattle.pc_type_details.specs.Keys.{first_keys}
use Rattle.pc_detail_rules.specs.Operations.{key_types_here}
use Rattle.pc_type_details.proofs.Keys.{keys_ended, keys_next}
use Rattle.pc_type_details.proofs.statements.key_types.Goals as goal

pub loop-entry-preserved : goal.loop-entry-preserved
loop-entry-preserved c =
    let m = module_held c.args.facts.now in
    let k = known_held c.args.facts.now in
    let es = c.args.entries.now in
    let i = c.loop-entry.entry-index in
    let rest = key_types_here m k (entries_of_list (drop (i + 1) es)) in
    let seen = trees_lent c.loop-entry.types.items in
    record {
      trees = c.in_ok-add_key_type.ensures.trees rest
          ∙ ap (λ (t : Tree). first_keys seen (t ∷ rest)) c.type_of.ensures.tree
          ∙ ap (λ (ts : List Tree). first_keys seen ts)
          (sym (keys_next m k es i c.entry-item.result c.loop-entry-test.true c.entry-item.is))
          ∙ c.loop-entry.invariant.trees;
      given = c.in_ok-add_key_type.ensures.given;
      few = c.in_ok-add_key_type.ensures.few;
    }

pub returns-clause-trees : goal.returns-clause-trees
returns-clause-trees c =
    let m = module_held c.args.facts.now in
    let k = known_held c.args.facts.now in
    let es = c.args.entries.now in
    let seen = trees_lent c.loop-entry.types.items in
    sym (keys_ended seen)
    ∙ ap (λ (l : List RustEntry). first_keys seen (key_types_here m k (entries_of_list l)))
    (sym (drop_all c.loop-entry.entry-index es (omega arith))) ∙ c.loop-entry.invariant.trees
