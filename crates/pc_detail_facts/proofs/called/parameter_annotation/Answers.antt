use Rattle.std.proofs.Common.{◌∙◌, List, ap}
use Rattle.std.specs.Prelude.{slice_get}
use Rattle.pc_tree.specs.declared.tree.Param.{Param as RustParam}
use Rattle.pc_detail_facts.proofs.CalledParameters.{param_written, written_param}
use Rattle.pc_detail_facts.proofs.Held.{found_at, missed_at}
use Rattle.pc_detail_facts.proofs.called.parameter_annotation.Goals as goal

pub returns-in-Some : goal.returns-in-Some
returns-in-Some c =
    c.option_ann.ensures ∙ ap param_written (found_at c.deref.result.now c.args.position c.in-Some.param.now
    c.in-Some.ensures.lookup.0 c.in-Some.ensures.lookup.1
    ∙ ap (λ (ps : List RustParam). slice_get ps c.args.position) c.deref.ensures.value)
    ∙ written_param c.args.def.now.params.items c.args.position

pub returns-in-None : goal.returns-in-None
returns-in-None c =
    ap param_written (missed_at c.deref.result.now c.args.position c.in-None.ensures.lookup.3
    ∙ ap (λ (ps : List RustParam). slice_get ps c.args.position) c.deref.ensures.value)
    ∙ written_param c.args.def.now.params.items c.args.position
