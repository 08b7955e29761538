use Rattle.std.proofs.Common.{◌≡◌, ◌++◌, ◌∷◌, [], map, ap, sym, subst}
use Rattle.std.specs.Prelude.{OnOk}
use Rattle.pc_tree.specs.Tree.{Ann, name_of}
use Rattle.pc_bindings.specs.Mentions.{in_module, mention_at, in_ann, in_anns}
use Rattle.pc_bindings.specs.Written.{mention_of, anns_of_list}
use Rattle.pc_bindings.proofs.Annotated.{applied_is, union_is}
use Rattle.pc_bindings.proofs.Joined.{joined}
use Rattle.pc_bindings.proofs.expressions.+annotation.Goals as goal

pub add_in_ann-returns-in_ok-add_name-in-Apply : goal.add_in_ann-returns-in_ok-add_name-in-Apply
add_in_ann-returns-in_ok-add_name-in-Apply t c = joined c.add_in_anns.result (map mention_of c.args.mentions.now.items)
    (map mention_of c.add_name-in-Apply.new.mentions.items) (map mention_of c.add_in_anns.new.mentions.items)
    (mention_at in_module (name_of c.in-Apply.head) ∷ []) (in_anns (anns_of_list c.in-Apply.arguments.items)) _
    c.in_ok-add_name-in-Apply.ensures
    (ap in_ann (applied_is c.args.ann.now c.in-Apply.place c.in-Apply.head c.in-Apply.arguments c.in-Apply.is))
    (rw c.deref.ensures.value at c.add_in_anns.ensures)

pub add_in_ann-returns-in-Union : goal.add_in_ann-returns-in-Union
add_in_ann-returns-in-Union t c =
    subst (λ (a : Ann). OnOk c.add_in_anns-in-Union.result (map mention_of c.add_in_anns-in-Union.new.mentions.items
    ≡ map mention_of c.args.mentions.now.items ++ in_ann a))
    (sym (union_is c.args.ann.now c.in-Union.field-0 c.in-Union.parts c.in-Union.is))
    (rw c.deref-in-Union.ensures.value at c.add_in_anns-in-Union.ensures)
