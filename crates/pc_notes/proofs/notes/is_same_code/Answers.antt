use Rattle.std.proofs.Common.{◌∙◌, rules}
use denote.Enum.Bare.{sameb, same_true, true_same}
use Rattle.pc_tree.specs.contracts.code.Code.{the_type}
use Rattle.pc_notes.proofs.SameCode.{same_by}
use Rattle.pc_notes.proofs.notes.is_same_code.Goals as goal

pub returns : goal.returns
returns c = c.eq.ensures ∙ same_by (sameb the_type) (same_true the_type (search rules)) (true_same the_type) c.args.code
    c.args.other
