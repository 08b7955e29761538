use Rattle.std.proofs.Common.{◌∙◌, List, ap}
use Rattle.std.specs.Prelude.{slice_get}
use Rattle.std.specs.Option.{option_map}
use Rattle.pc_tree.specs.Tree.{param_of}
use Rattle.pc_tree.specs.declared.tree.Param.{Param as RustParam}
use Rattle.pc_class.specs.Facts.{typed_parameter}
use Rattle.pc_detail_facts.proofs.CalledParameters.{typed_at}
use Rattle.pc_detail_facts.proofs.Held.{found_at, missed_at}
use Rattle.pc_detail_facts.proofs.called.function_parameter.Goals as goal

pub returns-in-Some : goal.returns-in-Some
returns-in-Some c = λ m.
    ap (option_map (λ (p : RustParam). typed_parameter m (param_of p))) (found_at c.deref.result.now c.args.position
    c.in-Some.param.now c.in-Some.ensures.lookup.0 c.in-Some.ensures.lookup.1)
    ∙ ap (λ (ps : List RustParam). option_map (λ (p : RustParam). typed_parameter m (param_of p))
    (slice_get ps c.args.position)) c.deref.ensures.value ∙ typed_at m c.args.def.now.params.items c.args.position

pub returns-in-None : goal.returns-in-None
returns-in-None c = λ m.
    ap (option_map (λ (p : RustParam). typed_parameter m (param_of p))) (missed_at c.deref.result.now c.args.position
    c.in-None.ensures.lookup.3)
    ∙ ap (λ (ps : List RustParam). option_map (λ (p : RustParam). typed_parameter m (param_of p))
    (slice_get ps c.args.position)) c.deref.ensures.value ∙ typed_at m c.args.def.now.params.items c.args.position
