use Rattle.std.proofs.Common.{sym, ◌∙◌}
use Rattle.pc_operations.specs.Internal.OperandPairs.{kind_with, gives_of}
use Rattle.pc_rules.proofs.Once.{clean_is, label_as}
use Rattle.pc_operations.proofs.Operators.{taken_label}
use Rattle.pc_operations.proofs.pairs.kind_label.Goals as goal

pub returns-then-takes-clause-value : goal.returns-then-takes-clause-value
returns-then-takes-clause-value g c =
    let has = g.S.TypeStore.has in
    let tree = g.S.TypeStore.tree in
    let ty = c.in_ok-ty.ensures.value in
    label_as has tree c.given_type.new.store c.clean.result _ _
    (taken_label c.args.operator c.args.common c.in-Some.kind c.in-Some.is (sym c.takes.ensures ∙ c.if-takes.true))
    (clean_is has tree c.given_type.new.store c.clean.result c.in_ok-ty.ty
    (gives_of c.args.operator (kind_with c.in-Some.kind)) (c.clean.ensures.label tree) c.clean.ensures.ty ty.0 ty.1)
