use Rattle.std.proofs.Common.{◌∙◌, sym, ap}
use Rattle.pc_class.specs.Outlines.{at_number}
use Rattle.pc_class.proofs.ListsOfFields.{got_at}
use Rattle.pc_class.proofs.table.member_named.Goals as goal

pub returns-in-None : goal.returns-in-None
returns-in-None g c name_of these h = sym (ap (at_number c.args.members.now) (sym c.get.ensures ∙ c.in-None.is))
    ∙ h.same c.args.name.now

pub returns-in-Some : goal.returns-in-Some
returns-in-Some g c name_of these h = got_at _ c.args.members.now c.in-Some.number c.get-in-Some.result
    c.get-in-Some.ensures.lookup.1 c.get-in-Some.ensures.lookup.3
    ∙ sym (ap (at_number c.args.members.now) (sym c.get.ensures ∙ c.in-Some.is)) ∙ h.same c.args.name.now
