use Rattle.std.proofs.Common.{arith, rules}
use Rattle.pc_source.proofs.CodingComments.{comment_is, no_comment}
use Rattle.pc_source.proofs.coding.coding_comment.Goals as goal
use Rattle.pc_source.proofs.coding.coding_comment.Goals.{else-hash-line-via-then-hash-line+else-names_other_after}
use Rattle.pc_source.proofs.coding.coding_comment.Goals.{else-hash-line-via-else-hash-line}

pub returns-then-names_other_after : goal.returns-then-names_other_after
returns-then-names_other_after c =
    comment_is c.args.line.now c.first_place-hash.result c.first_place-hash.ensures.place c.if-hash-line.true
    (search rules)

pub returns-else-hash-line : goal.returns-else-hash-line
returns-else-hash-line c =
    no_comment c.args.line.now c.first_place-hash.result c.first_place-hash.ensures.place λ within other.
    elim c.else-hash-line.branch [
      | else-hash-line-via-then-hash-line+else-names_other_after w ↦ search rules
      | else-hash-line-via-else-hash-line w ↦ absurd (omega arith)
    ]
