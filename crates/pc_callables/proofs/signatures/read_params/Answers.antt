use Rattle.std.proofs.Common.{◌∙◌, ap}
use Rattle.pc_tree.specs.Tree.{param_of}
use Rattle.pc_class.specs.Facts.{typed_parameter}
use Rattle.pc_class.specs.Tables.{HasParameter, parameter_with, parameters_with}
use Rattle.pc_notes.specs.Notes.{notes_of}
use Rattle.pc_rules.specs.Computed.Signatures.{is_in_names, with_name}
use Rattle.pc_rules.proofs.TypingStates.{goes_further}
use Rattle.pc_annotations.specs.ModuleOutlines.{module_in}
use Rattle.pc_callables.proofs.HeldSignatures.{params_kept, held_push}
use Rattle.pc_callables.proofs.SignatureWalks.{stepped, pushed_one, params_apart, params_found}
use Rattle.pc_callables.proofs.signatures.read_params.Goals as goal

pub loop-param-preserved : goal.loop-param-preserved
loop-param-preserved g c =
    let has = g.S.TypeStore.has in
    let tree = g.S.TypeStore.tree in
    let m = module_in c.args.outline.now in
    let ps = c.args.params.now in
    let i = c.loop-param.param-index in
    let x = c.param-item.result in
    let v = c.loop-param.invariant in
    let less = c.loop-param-test.true in
    let is = c.param-item.is in
    let one = c.in_ok-one.ensures.typed in
    record {
      given = held_push (HasParameter (has c.check_param.new.state.store.now)) c.loop-param.all.items
          c.push.new.self.items c.in_ok-one.one (params_kept has c.loop-param.state.store.now
          c.check_param.new.state.store.now c.check_param.ensures.goes_on.kept c.loop-param.all.items v.given)
          one.given
          c.in_ok-push.ensures.items;
      are = stepped (parameters_with tree c.loop-param.all.items) (parameters_with tree c.push.new.self.items) _ _ _ _
          v.are (params_apart m ps i x less is)
          (pushed_one (parameter_with tree) c.loop-param.all.items c.push.new.self.items c.in_ok-one.one
          (typed_parameter m (param_of x)) c.in_ok-push.ensures.items one.is);
      found = stepped (notes_of c.loop-param.state.found.now) (notes_of c.check_param.new.state.found.now) _ _ _ _
          v.found (params_found m (is_in_names c.loop-param.bound) (is_in_names c.bind.new.bound) ps i x less is
          (c.in_ok-bind.ensures ∙ ap (with_name (is_in_names c.loop-param.bound)) c.as_str.ensures.value))
          c.in_ok-one.ensures.found;
      goes_on = goes_further v.goes_on c.check_param.ensures.goes_on;
    }
