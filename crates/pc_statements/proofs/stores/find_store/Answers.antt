use Rattle.std.proofs.Common.{sym, ap, subst}
use Rattle.std.specs.Prelude.{OnOk}
use Rattle.pc_tree.specs.Tree.{Target, expr_of, target_of}
use Rattle.pc_module_rules.specs.Computed.Statements.{store_finds}
use Rattle.pc_walk.specs.Walks.{Found}
use Rattle.pc_statements.proofs.stores.find_store.Goals as goal

pub returns-in-Attribute-clause-finds : goal.returns-in-Attribute-clause-finds
returns-in-Attribute-clause-finds g c =
    subst (λ (t : Target). OnOk c.find_attribute_store.result
    (Found g.S.TypeStore c.args.walk.now c.args.env.now c.find_attribute_store.new.walk
    (λ f k. store_finds f k t (expr_of c.args.value.now)))) (sym (ap target_of c.in-Attribute.is))
    (rw c.deref.ensures at c.find_attribute_store.ensures.finds)
