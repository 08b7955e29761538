use Rattle.std.proofs.Common.{◌∙◌, List, ap, ap₂, map, sym, take}
use Rattle.std.proofs.lemmas.List.{take-map}
use Rattle.std.specs.Option.{option_map}
use Rattle.std.specs.Prelude.{find}
use Rattle.pc_tree.specs.declared.tree.Member.{Member as RustMember}
use Rattle.pc_tree.specs.Stopping.{name_of_member}
use Rattle.pc_tree.specs.Tree.{Name, class_of, member_of}
use Rattle.pc_detail_facts.specs.Held.{module_held}
use Rattle.pc_name_details.specs.Naming.{clash_member, has_word, member_lent, numbered_held, owned_member}
use Rattle.pc_name_details.proofs.MemberDetails.{clash_before, clash_over, this_member}
use Rattle.pc_name_details.proofs.class_members.clash_at.Goals as goal

pub returns-in-Some : goal.returns-in-Some
returns-in-Some c = λ y at.
    let m = module_held c.args.facts.now in
    let n = numbered_held c.args.number c.args.class.now in
    let i = c.args.position in
    let xs = c.args.class.now.members.items in
    let x = c.index-member.result.now in
    let before = take i (class_of c.args.class.now).members in
    let found = sym (ap (option_map member_lent) c.in-Some.is) ∙ c.member_named.ensures
    ∙ ap₂ (λ w (l : List RustMember). find (has_word w) (map member_of (take i l)))
    (c.as_str.ensures.value ∙ ap (λ (k : Name). k.text) c.name.ensures) c.deref.ensures.value
    ∙ ap (find (has_word (name_of_member (member_of x)).text)) (sym (take-map member_of i xs)) in
    clash_before m n before (member_of x) (member_of c.in-Some.before.now) found
    ∙ ap (clash_member m n before) (this_member xs i x y c.requires.within c.index-member.ensures at)

pub returns-in-None : goal.returns-in-None
returns-in-None c = λ y at.
    let m = module_held c.args.facts.now in
    let n = numbered_held c.args.number c.args.class.now in
    let i = c.args.position in
    let xs = c.args.class.now.members.items in
    let x = c.index-member.result.now in
    let before = take i (class_of c.args.class.now).members in
    let found = sym (ap (option_map member_lent) c.in-None.is) ∙ c.member_named.ensures
    ∙ ap₂ (λ w (l : List RustMember). find (has_word w) (map member_of (take i l)))
    (c.as_str.ensures.value ∙ ap (λ (k : Name). k.text) c.name.ensures) c.deref.ensures.value
    ∙ ap (find (has_word (name_of_member (member_of x)).text)) (sym (take-map member_of i xs)) in
    clash_over m n before (member_of x) (option_map owned_member c.clash_above.result) found c.clash_above.ensures
    ∙ ap (clash_member m n before) (this_member xs i x y c.requires.within c.index-member.ensures at)
