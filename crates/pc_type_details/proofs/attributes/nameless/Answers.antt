use Rattle.std.proofs.Common.{◌∙◌, ◌++◌, ◌∷◌, [], Bool, List, sym, ap}
use Rattle.std.specs.Prelude.{if◌then◌else◌}
use Rattle.pc_types.specs.Tree.{Tree}
use Rattle.pc_detail_facts.specs.Held.{module_held, tree_lent, trees_lent}
use Rattle.pc_type_details.specs.Unsupported.{lacks_name}
use Rattle.pc_detail_facts.proofs.Held.{kept_more}
use Rattle.pc_type_details.proofs.attributes.nameless.Goals as goal

pub loop-member-preserved : goal.loop-member-preserved
loop-member-preserved c =
    let t = tree_lent c.member-item.result in
    let kept = if lacks_name (module_held c.args.facts.now) c.args.used c.args.name.now t then t ∷ [] else [] in
    record {
      trees = c.in_ok-add_if.ensures.added
          ∙ ap (λ (b : Bool). trees_lent c.loop-member.lacking.items ++ (if b then t ∷ [] else [])) c.lacks.ensures
          ∙ ap (λ (ts : List Tree). ts ++ kept) c.loop-member.invariant.trees
          ∙ sym (kept_more (lacks_name (module_held c.args.facts.now) c.args.used c.args.name.now) c.deref-member-items.result.now c.loop-member.member-index c.member-item.result
          c.loop-member-test.true c.member-item.is);
      given = c.in_ok-add_if.ensures.given;
    }
