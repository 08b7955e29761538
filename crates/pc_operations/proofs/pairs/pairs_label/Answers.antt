use Rattle.std.proofs.Common.{◌≡◌, subst, ◌∙◌}
use Rattle.std.specs.Prelude.{Option, IfOk}
use Rattle.std.specs.Option.{option_map}
use Rattle.pc_types.specs.Shape.{members}
use Rattle.pc_rules.specs.Operations.{Kind}
use Rattle.pc_operations.specs.Internal.OperandPairs.{kind_with, meet, common, takes_of, gives_of, kind_label}
use Rattle.pc_rules.specs.Computed.Standing.{MeansLabel}
use Rattle.pc_operations.proofs.Operators.{pairs_are, brief_as}
use Rattle.pc_operations.proofs.pairs.pairs_label.Goals as goal

pub returns-clause-value : goal.returns-clause-value
returns-clause-value g c = λ bases.
    let has = g.S.TypeStore.has in
    let tree = g.S.TypeStore.tree in
    let operator = c.args.operator in
    let s = tree c.args.s.now in
    let t = tree c.args.t.now in
    let lefts : option_map kind_with c.in_ok-left.left ≡ common (members s) = c.in_ok-left.ensures in
    let rights : option_map kind_with c.in_ok-right.right ≡ common (members t) = c.in_ok-right.ensures in
    let both : option_map kind_with c.meet.result ≡ meet (common (members s)) (common (members t)) =
    c.meet.ensures ∙ (λ j. meet (lefts j) (rights j)) in
    brief_as has tree _ _ _ _ (pairs_are bases operator s t c.requires.members)
    (subst (λ (x : Option Kind). IfOk c.kind_label.result (λ l. MeansLabel has tree c.kind_label.new.store l
    (kind_label (takes_of operator) (gives_of operator) x))) both c.kind_label.ensures.value)
