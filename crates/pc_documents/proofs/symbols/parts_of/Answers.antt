use Rattle.std.proofs.Common.{map, ap, sym, ◌∙◌}
use Rattle.std.proofs.lemmas.Result.{IfOk-weaker}
use Rattle.pc_documents.specs.Symbols.{member_data, shown_member}
use Rattle.pc_documents.proofs.Listing.{members_listed, class_members}
use Rattle.pc_documents.proofs.symbols.parts_of.Goals as goal

pub returns-in-Class-clause-value : goal.returns-in-Class-clause-value
returns-in-Class-clause-value c = IfOk-weaker c.member_values.result _ _ (λ r h. h
    ∙ (ap (map (shown_member c.args.encoding c.args.text.now)) c.deref.ensures.value
    ∙ (members_listed c.args.encoding c.args.text.now c.in-Class.class.members.items
    ∙ sym (ap (map (member_data c.args.encoding c.args.text.now))
    (class_members c.args.item.now c.in-Class.class c.in-Class.is))))) c.member_values.ensures.value
