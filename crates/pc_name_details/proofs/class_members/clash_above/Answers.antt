use Rattle.std.proofs.Common.{◌∙◌, List, ap, reverse, sym}
use Rattle.std.specs.Prelude.{find, slice_get}
use Rattle.pc_tree.specs.Tree.{member_of}
use Rattle.pc_scope.specs.Bindings.{classes_in}
use Rattle.pc_types.specs.Below.{Bases, base_of}
use Rattle.pc_detail_facts.specs.Held.{module_held}
use Rattle.pc_detail_rules.specs.Names.{OwnedMember, clashes_with, members_above, members_of_number}
use Rattle.pc_name_details.specs.Naming.{owned_member}
use Rattle.pc_name_details.proofs.BoundMembers.{clash_up, found_first, none_first}
use Rattle.pc_name_details.proofs.ClassesAbove.{members_above_base, members_above_root}
use Rattle.pc_detail_facts.proofs.Results.{none_left}
use Rattle.pc_name_details.proofs.class_members.clash_above.Goals as goal

pub returns-then-is_some : goal.returns-then-is_some
returns-then-is_some c =
    let m = module_held c.args.facts.now in
    let x = member_of c.args.member.now in
    let b = c.in-Some.above in
    let near = members_of_number m b (slice_get (classes_in m.items) b) in
    let based = sym (c.base.ensures.value ∙ ap (λ (bs : Bases). base_of bs c.up.below) c.requires.outline.parents)
    ∙ c.in-Some.is in
    found_first owned_member (find (clashes_with x) (reverse near)) (find (clashes_with x) (reverse (members_above m b)))
    c.clash_in-found.result (sym c.is_some.ensures ∙ c.if-is_some.true) c.clash_in-found.ensures
    ∙ sym (clash_up x (members_above m b) near)
    ∙ sym (ap (λ (l : List OwnedMember). find (clashes_with x) (reverse l)) (members_above_base m c.up.below b based))
    ∙ c.up.invariant

pub up-preserved : goal.up-preserved
up-preserved c =
    let m = module_held c.args.facts.now in
    let x = member_of c.args.member.now in
    let b = c.in-Some.above in
    let near = members_of_number m b (slice_get (classes_in m.items) b) in
    let based = sym (c.base.ensures.value ∙ ap (λ (bs : Bases). base_of bs c.up.below) c.requires.outline.parents)
    ∙ c.in-Some.is in
    none_first owned_member (find (clashes_with x) (reverse near)) (find (clashes_with x) (reverse (members_above m b)))
    c.clash_in-found.result (sym c.is_some.ensures ∙ c.if-is_some.false) c.clash_in-found.ensures
    ∙ sym (clash_up x (members_above m b) near)
    ∙ sym (ap (λ (l : List OwnedMember). find (clashes_with x) (reverse l)) (members_above_base m c.up.below b based))
    ∙ c.up.invariant

pub up-smaller : goal.up-smaller
up-smaller c = c.base.ensures.ordered c.up.below c.in-Some.above (sym c.base.ensures.value ∙ c.in-Some.is)

pub returns : goal.returns
returns c =
    let m = module_held c.args.facts.now in
    let x = member_of c.args.member.now in
    let based = sym (c.base.ensures.value ∙ ap (λ (bs : Bases). base_of bs c.up.below) c.requires.outline.parents)
    ∙ none_left c.base.result c.in_default.not-Some in
    sym (ap (λ (l : List OwnedMember). find (clashes_with x) (reverse l)) (members_above_root m c.up.below based))
    ∙ c.up.invariant
