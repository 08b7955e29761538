use Rattle.std.proofs.Common.{◌+◌, ◌∷◌, map, drop, sym, ap, ◌∙◌, subst, arith}
use Rattle.pc_tree.specs.Tree.{class_of, func_of, field_of, member_of}
use Rattle.pc_scope.specs.Bindings.{methods_in}
use Rattle.pc_scope.specs.Resolution.{method_at}
use Rattle.pc_notes.specs.Notes.{notes_of}
use Rattle.pc_rules.specs.Computed.Signatures.{constants_of}
use Rattle.pc_check.specs.Internal.ModuleWalk.{module_in, IsModuleBodies}
use Rattle.pc_module_rules.specs.Computed.Modules.{methods_find}
use Rattle.pc_check.proofs.CheckedModules.{MembersAt, members_next, method_here, field_passed, method_passed}
use Rattle.pc_rules.specs.declared.typing_state.TypingState.{TypingState}
use Rattle.pc_rules.proofs.TypingStates.{goes_further}
use Rattle.pc_check.proofs.ModuleBodies.{bodies_kept}
use Rattle.pc_check.proofs.modules.check_methods.Goals as goal
use Rattle.pc_check.proofs.modules.check_methods.Goals.{in-Field, in-Method+in_ok-check_owned-in-Method}

pub check_owned-requires-clause-owner : goal.check_owned-requires-clause-owner
check_owned-requires-clause-owner g c =
    let ms = c.as_slice-members.result.now in
    let i = c.loop-member.member-index in
    let rest = map member_of (drop (i + 1) ms) in
    let next = members_next ms i c.member-item.result c.loop-member-test.true c.member-item.is
    ∙ ap (λ y. member_of y ∷ rest) c.in-Method.is in
    ap (λ o. method_at o c.loop-member.methods) c.requires.class
    ∙ method_here (methods_in (class_of c.args.def.now).members) (map member_of (drop i ms)) rest
    c.loop-member.methods (func_of c.in-Method.method) c.loop-member.invariant.stand next

pub loop-member-preserved : goal.loop-member-preserved
loop-member-preserved g c =
    let has = g.S.TypeStore.has in
    let tree = g.S.TypeStore.tree in
    let keeps = c.args.bodies.now.globals.now.keeps in
    let m = module_in c.args.bodies.now in
    let ms = c.as_slice-members.result.now in
    let i = c.loop-member.member-index in
    let n = c.loop-member.methods in
    let v = c.loop-member.invariant in
    let all = methods_in (class_of c.args.def.now).members in
    let before = map member_of (drop i ms) in
    let rest = map member_of (drop (i + 1) ms) in
    let step = members_next ms i c.member-item.result c.loop-member-test.true c.member-item.is in
    let total = methods_find keeps m (constants_of m) c.args.class 0 (map member_of ms)
    (notes_of c.args.state.now.found.now) in
    let here : MembersAt keeps m (constants_of m) c.args.class all total before rest n c.match-member.methods
    (notes_of c.loop-member.state.found.now) (notes_of c.match-member.state.found.now) =
    elim c.match-member.branch [
      | in-Field w ↦ field_passed keeps m (constants_of m) c.args.class all total before rest n c.match-member.methods
          (notes_of c.loop-member.state.found.now) (notes_of c.match-member.state.found.now) v.stand v.found
          (field_of w.in-Field.field-0) (step ∙ ap (λ y. member_of y ∷ rest) w.in-Field.is) w.methods-is
          (λ j. notes_of ((w.state-is j).found.now))
      | in-Method+in_ok-check_owned-in-Method w ↦ method_passed keeps m (constants_of m) c.args.class all total before
          rest
          n c.match-member.methods (notes_of c.loop-member.state.found.now)
          (notes_of c.match-member.state.found.now) v.stand v.found
          (func_of w.in-Method.method) (step ∙ ap (λ y. member_of y ∷ rest) w.in-Method.is) w.methods-is
          ((λ j. notes_of ((w.state-is j).found.now)) ∙ w.in_ok-check_owned-in-Method.ensures.found)
    ] in
    record {
      bodies = elim c.match-member.branch [
        | in-Field w ↦ subst (λ (k : TypingState _ _). IsModuleBodies (has k.store.now) tree c.args.bodies.now)
            (sym w.state-is) v.bodies
        | in-Method+in_ok-check_owned-in-Method w ↦ subst (λ (k : TypingState _ _). IsModuleBodies (has k.store.now) tree
            c.args.bodies.now)
            (sym w.state-is) (bodies_kept has tree c.loop-member.state.store.now w.check_owned.new.state.store.now
            w.check_owned.ensures.goes_on.kept c.args.bodies.now v.bodies)
      ];
      counted = let h = v.counted in elim c.match-member.branch [
        | in-Field w ↦ let e = w.methods-is in omega arith
        | in-Method+in_ok-check_owned-in-Method w ↦ let e = w.methods-is in omega arith
      ];
      stand = here.stand;
      found = here.found;
      goes_on = elim c.match-member.branch [
        | in-Field w ↦ rw w.state-is v.goes_on
        | in-Method+in_ok-check_owned-in-Method w ↦ rw w.state-is
            (goes_further v.goes_on w.check_owned.ensures.goes_on)
      ];
    }
