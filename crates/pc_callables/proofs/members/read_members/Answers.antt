use Rattle.std.proofs.Common.{◌∙◌, ap, arith}
use Rattle.pc_tree.specs.Tree.{Name}
use Rattle.pc_class.specs.Facts.{base_facts, classes_of}
use Rattle.pc_notes.specs.Notes.{notes_of}
use Rattle.pc_rules.specs.Computed.Signatures.{is_in_names, with_name}
use Rattle.pc_rules.proofs.TypingStates.{goes_further}
use Rattle.pc_annotations.specs.ModuleOutlines.{module_in}
use Rattle.pc_callables.specs.SignaturesRead.{signatures_with}
use Rattle.pc_callables.proofs.HeldSignatures.{globals_kept}
use Rattle.pc_callables.proofs.SignatureWalks.{stepped, walked, methods_apart, no_methods, members_found, held_apart}
use Rattle.pc_callables.proofs.members.read_members.Goals as goal

pub loop-member-preserved : goal.loop-member-preserved
loop-member-preserved g c =
    let has = g.S.TypeStore.has in
    let tree = g.S.TypeStore.tree in
    let m = module_in c.args.globals.now.outline.now in
    let base = base_facts (classes_of m) c.args.class.base in
    let ms = c.args.members.now in
    let i = c.loop-member.member-index in
    let x = c.member-item.result in
    let v = c.loop-member.invariant in
    let less = c.loop-member-test.true in
    let is = c.member-item.is in
    let text = c.as_str.ensures.value ∙ ap (λ (n : Name). n.text) c.name.ensures in
    let next = c.in_ok-bind.ensures ∙ ap (with_name (is_in_names c.loop-member.bound)) text in
    record {
      table = (held_apart m c.args.class.number base (is_in_names c.loop-member.bound) (is_in_names c.bind.new.bound) ms i x
          less is next v.table).1;
      globals = globals_kept has tree c.loop-member.state.store.now c.add_member.new.state.store.now
          c.args.globals.now c.add_member.ensures.goes_on.kept v.globals;
      held = c.in_ok-add_member.ensures.held;
      are = stepped (signatures_with tree c.loop-member.methods.items)
          (signatures_with tree c.add_member.new.methods.items) _ _ _ _ v.are (methods_apart m ms i x less is)
          c.in_ok-add_member.ensures.typed;
      found = stepped (notes_of c.loop-member.state.found.now) (notes_of c.add_member.new.state.found.now) _ _ _ _
          v.found (members_found m base (is_in_names c.loop-member.bound) (is_in_names c.bind.new.bound) ms i x less is next)
          c.in_ok-add_member.ensures.found;
      goes_on = goes_further v.goes_on c.add_member.ensures.goes_on;
    }

pub returns-clause-typed : goal.returns-clause-typed
returns-clause-typed g c =
    let m = module_in c.args.globals.now.outline.now in
    let v = c.loop-member.invariant in
    record {
      given = v.held;
      are = walked (signatures_with g.S.TypeStore.tree c.loop-member.methods.items) _ _ v.are
          (no_methods m c.args.members.now c.loop-member.member-index (omega arith));
    }
