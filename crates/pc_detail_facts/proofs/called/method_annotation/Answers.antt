use Rattle.std.proofs.Common.{◌∙◌, Option, ap, sym}
use Rattle.std.specs.Option.{option_map}
use Rattle.pc_tree.specs.Tree.{FuncDef}
use Rattle.pc_detail_facts.specs.Held.{function_lent}
use Rattle.pc_detail_facts.proofs.CalledParameters.{none_written}
use Rattle.pc_detail_rules.specs.Written.{annotations_of, written_at}
use Rattle.pc_detail_facts.proofs.called.method_annotation.Goals as goal

pub returns-in-Some : goal.returns-in-Some
returns-in-Some c = c.parameter_annotation.ensures
    ∙ ap (λ (o : Option FuncDef). written_at (annotations_of o) c.args.position)
    (ap (option_map function_lent) (sym c.in-Some.is) ∙ c.function_of.ensures)

pub returns-in-None : goal.returns-in-None
returns-in-None c = none_written c.args.position
    ∙ ap (λ (o : Option FuncDef). written_at (annotations_of o) c.args.position)
    (ap (option_map function_lent) (sym c.in-None.is) ∙ c.function_of.ensures)
