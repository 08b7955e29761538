use Rattle.std.proofs.Common.{◌+◌, ◌∷◌, map, drop, sym, ap, ◌∙◌, subst, arith}
use Rattle.pc_tree.specs.Tree.{class_of, constant_of, func_of, item_of, item_of_kind}
use Rattle.pc_scope.specs.Bindings.{classes_in, functions_in}
use Rattle.pc_notes.specs.Notes.{notes_of}
use Rattle.pc_rules.specs.Computed.Signatures.{constants_of}
use Rattle.pc_check.specs.Internal.ModuleWalk.{module_in, IsModuleBodies}
use Rattle.pc_module_rules.specs.Computed.Modules.{bodies_find}
use Rattle.pc_check.proofs.CheckedModules.{ItemsAt, items_next, class_here, def_here, constant_passed, class_passed}
use Rattle.pc_check.proofs.CheckedModules.{def_passed}
use Rattle.pc_rules.specs.declared.typing_state.TypingState.{TypingState}
use Rattle.pc_rules.proofs.TypingStates.{goes_further}
use Rattle.pc_check.proofs.ModuleBodies.{bodies_kept}
use Rattle.pc_check.proofs.modules.check_bodies.Goals as goal
use Rattle.pc_check.proofs.modules.check_bodies.Goals.{in-Constant, in-Class+in_ok-check_methods-in-Class}
use Rattle.pc_check.proofs.modules.check_bodies.Goals.{in-Def+in_ok-check_owned-in-Def}

pub check_methods-requires-clause-class : goal.check_methods-requires-clause-class
check_methods-requires-clause-class g c =
    let m = module_in c.args.bodies.now in
    let items = c.as_slice-items.result.now in
    let i = c.loop-item.item-index in
    let x = c.item-item.result in
    let rest = map item_of (drop (i + 1) items) in
    let next = items_next items i x c.loop-item-test.true c.item-item.is
    ∙ ap (λ k. item_of_kind x.first k ∷ rest) c.in-Class.is in
    class_here (classes_in m.items) (map item_of (drop i items)) rest c.loop-item.classes x.first
    (class_of c.in-Class.class) c.loop-item.invariant.classes_stand next

pub check_owned-requires-clause-owner : goal.check_owned-requires-clause-owner
check_owned-requires-clause-owner g c =
    let m = module_in c.args.bodies.now in
    let items = c.as_slice-items.result.now in
    let i = c.loop-item.item-index in
    let x = c.item-item.result in
    let rest = map item_of (drop (i + 1) items) in
    let next = items_next items i x c.loop-item-test.true c.item-item.is
    ∙ ap (λ k. item_of_kind x.first k ∷ rest) c.in-Def.is in
    def_here (functions_in m.items) (map item_of (drop i items)) rest c.loop-item.functions x.first
    (func_of c.in-Def.def) c.loop-item.invariant.functions_stand next

pub loop-item-preserved : goal.loop-item-preserved
loop-item-preserved g c =
    let has = g.S.TypeStore.has in
    let tree = g.S.TypeStore.tree in
    let keeps = c.args.bodies.now.globals.now.keeps in
    let m = module_in c.args.bodies.now in
    let cs = constants_of m in
    let items = c.as_slice-items.result.now in
    let i = c.loop-item.item-index in
    let x = c.item-item.result in
    let v = c.loop-item.invariant in
    let before = map item_of (drop i items) in
    let rest = map item_of (drop (i + 1) items) in
    let step = items_next items i x c.loop-item-test.true c.item-item.is in
    let classes = classes_in m.items in
    let functions = functions_in m.items in
    let n = c.loop-item.classes in
    let k = c.loop-item.functions in
    let old = (notes_of c.loop-item.state.found.now) in
    let new = (notes_of c.match-item.state.found.now) in
    let total = bodies_find keeps m cs 0 0 (map item_of items) (notes_of c.args.state.now.found.now) in
    let here : ItemsAt keeps m cs classes functions total before rest n k c.match-item.classes c.match-item.functions
    old
    new = elim c.match-item.branch [
      | in-Constant w ↦ constant_passed keeps m cs classes functions total before rest n k c.match-item.classes
          c.match-item.functions old new v.classes_stand v.functions_stand v.found
          x.first (constant_of w.in-Constant.field-0)
          (step ∙ ap (λ q. item_of_kind x.first q ∷ rest) w.in-Constant.is) w.classes-is w.functions-is
          (λ j. notes_of ((w.state-is j).found.now))
      | in-Class+in_ok-check_methods-in-Class w ↦ class_passed keeps m cs classes functions total before rest n k
          c.match-item.classes c.match-item.functions old new v.classes_stand v.functions_stand v.found
          x.first (class_of w.in-Class.class) (step ∙ ap (λ q. item_of_kind x.first q ∷ rest) w.in-Class.is)
          w.classes-is w.functions-is ((λ j. notes_of ((w.state-is j).found.now))
          ∙ w.in_ok-check_methods-in-Class.ensures.found)
      | in-Def+in_ok-check_owned-in-Def w ↦ def_passed keeps m cs classes functions total before rest n k
          c.match-item.classes c.match-item.functions old new v.classes_stand v.functions_stand v.found
          x.first (func_of w.in-Def.def) (step ∙ ap (λ q. item_of_kind x.first q ∷ rest) w.in-Def.is) w.classes-is
          w.functions-is ((λ j. notes_of ((w.state-is j).found.now)) ∙ w.in_ok-check_owned-in-Def.ensures.found)
    ] in
    record {
      bodies = elim c.match-item.branch [
        | in-Constant w ↦ subst (λ (k : TypingState _ _). IsModuleBodies (has k.store.now) tree c.args.bodies.now)
            (sym w.state-is) v.bodies
        | in-Class+in_ok-check_methods-in-Class w ↦ subst (λ (k : TypingState _ _). IsModuleBodies (has k.store.now) tree
            c.args.bodies.now)
            (sym w.state-is) (bodies_kept has tree c.loop-item.state.store.now w.check_methods.new.state.store.now
            w.check_methods.ensures.goes_on.kept c.args.bodies.now v.bodies)
        | in-Def+in_ok-check_owned-in-Def w ↦ subst (λ (k : TypingState _ _). IsModuleBodies (has k.store.now) tree
            c.args.bodies.now)
            (sym w.state-is) (bodies_kept has tree c.loop-item.state.store.now w.check_owned.new.state.store.now
            w.check_owned.ensures.goes_on.kept c.args.bodies.now v.bodies)
      ];
      classes_counted = let h = v.classes_counted in elim c.match-item.branch [
        | in-Constant w ↦ let e = w.classes-is in omega arith
        | in-Class+in_ok-check_methods-in-Class w ↦ let e = w.classes-is in omega arith
        | in-Def+in_ok-check_owned-in-Def w ↦ let e = w.classes-is in omega arith
      ];
      functions_counted = let h = v.functions_counted in elim c.match-item.branch [
        | in-Constant w ↦ let e = w.functions-is in omega arith
        | in-Class+in_ok-check_methods-in-Class w ↦ let e = w.functions-is in omega arith
        | in-Def+in_ok-check_owned-in-Def w ↦ let e = w.functions-is in omega arith
      ];
      classes_stand = here.classes_stand;
      functions_stand = here.functions_stand;
      found = here.found;
      goes_on = elim c.match-item.branch [
        | in-Constant w ↦ rw w.state-is v.goes_on
        | in-Class+in_ok-check_methods-in-Class w ↦ rw w.state-is
            (goes_further v.goes_on w.check_methods.ensures.goes_on)
        | in-Def+in_ok-check_owned-in-Def w ↦ rw w.state-is (goes_further v.goes_on w.check_owned.ensures.goes_on)
      ];
    }
