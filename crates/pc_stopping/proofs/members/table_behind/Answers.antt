use Rattle.std.proofs.Common.{◌∙◌, ◌++◌, ap, sym, subst, Bool}
use Rattle.std.specs.Prelude.{◌||◌}
use Rattle.pc_tree.specs.Tree.{member_of}
use Rattle.pc_stopping.specs.Holdings.{HasIn}
use Rattle.pc_stopping.specs.Members.{held_unless}
use Rattle.pc_stopping.proofs.Clashes.{if_ok}
use Rattle.pc_stopping.proofs.members.table_behind.Goals as goal

pub returns-clause-has : goal.returns-clause-has
returns-clause-has c =
    let m = member_of c.args.member.now in
    if_ok c.hold.result (λ t held all at h.
    subst (λ (b : Bool). HasIn c.hold.new.self t (all ++ held_unless b m))
    (sym (ap (λ (b : Bool). b || c.args.clash) (sym c.has_reserved_name.ensures ∙ c.if-has_reserved_name.false)
    ∙ c.if-clash.false)) (held all at h))
    c.hold.ensures.held
