use Rattle.std.proofs.Common.{sym, ap, subst}
use Rattle.std.specs.Prelude.{IfOk, Some}
use Rattle.std.proofs.lemmas.List.Elements.{All-weaker}
use Rattle.pc_class.specs.Facts.{ClassFacts}
use Rattle.pc_class.specs.FieldLists.{fields_in}
use Rattle.pc_class.specs.Tables.{HasParameter}
use Rattle.pc_class.proofs.TableReads.{inherits_there}
use Rattle.pc_rules.specs.Calls.{CallOffer}
use Rattle.pc_calls.specs.JudgedCalls.{given_with, IsCallOffer}
use Rattle.pc_calls.proofs.HeldClasses.{called_meant, entry_held}
use Rattle.pc_calls.proofs.functions.class_offer.Goals as goal

pub call_of_list-requires-clause-params : goal.call_of_list-requires-clause-params
call_of_list-requires-clause-params g c =
    let has = g.S.TypeStore.has in
    let classes = c.args.classes.now in
    All-weaker (HasParameter (has c.args.store.now)) (HasParameter (has c.class.new.self))
    (λ p. c.in_ok-returns.ensures.kept p.ty) (fields_in classes c.args.class)
    (entry_held (has c.args.store.now) classes c.requires c.args.class).fields

pub returns-clause-offer : goal.returns-clause-offer
returns-clause-offer g c =
    let tree = g.S.TypeStore.tree in
    subst (λ (m : CallOffer). IfOk c.call_of_list.result (λ o. IsCallOffer g.S.TypeStore.has tree
    c.call_of_list.new.store o m))
    (called_meant (given_with c.args.given.now) _ _ _ _
    (ap (λ (x : ClassFacts). x.fields) (sym (inherits_there tree c.args.classes.now (Some c.args.class))))
    c.in_ok-returns.ensures.value.1)
    c.call_of_list.ensures.offer
