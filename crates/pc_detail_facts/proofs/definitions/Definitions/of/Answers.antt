use Rattle.std.proofs.Common.{◌∙◌, ◌++◌, ◌∷◌, [], List, sym, ap}
use Rattle.pc_tree.specs.Tree.{Constant, FuncDef, ClassDef, item_of}
use Rattle.pc_scope.specs.Bindings.{constants_in, functions_in, classes_in}
use Rattle.pc_detail_facts.proofs.Held.{constants_more, functions_more, classes_more}
use Rattle.pc_detail_facts.proofs.definitions.Definitions.of.Goals as goal

pub loop-item-preserved : goal.loop-item-preserved
loop-item-preserved c =
    let x = c.item-item.result in
    record {
      constants = c.in_ok-add.ensures.constants
          ∙ ap (λ (l : List Constant). l ++ constants_in (item_of x ∷ [])) c.loop-item.invariant.constants
          ∙ sym (constants_more _ c.loop-item.item-index x c.loop-item-test.true c.item-item.is);
      functions = c.in_ok-add.ensures.functions
          ∙ ap (λ (l : List FuncDef). l ++ functions_in (item_of x ∷ [])) c.loop-item.invariant.functions
          ∙ sym (functions_more _ c.loop-item.item-index x c.loop-item-test.true c.item-item.is);
      classes = c.in_ok-add.ensures.classes
          ∙ ap (λ (l : List ClassDef). l ++ classes_in (item_of x ∷ [])) c.loop-item.invariant.classes
          ∙ sym (classes_more _ c.loop-item.item-index x c.loop-item-test.true c.item-item.is);
    }
