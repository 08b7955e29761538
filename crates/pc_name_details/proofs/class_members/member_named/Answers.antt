use Rattle.std.proofs.Common.{◌∙◌, ◌+◌, Bool, List, Some, ap, arith, cond, drop, map, sym}
use Rattle.std.proofs.lemmas.List.{drop_all}
use Rattle.std.specs.Prelude.{find}
use Rattle.pc_tree.specs.declared.tree.Member.{Member as RustMember}
use Rattle.pc_tree.specs.Tree.{member_of}
use Rattle.pc_name_details.specs.Naming.{has_word}
use Rattle.pc_detail_facts.proofs.Held.{drop_next}
use Rattle.pc_name_details.proofs.class_members.member_named.Goals as goal

pub returns-then-has_word : goal.returns-then-has_word
returns-then-has_word c =
    let xs = c.args.members.now in
    let i = c.loop-member.member-index in
    let x = c.member-item.result in
    let rest = find (has_word c.args.word.now) (map member_of (drop (i + 1) xs)) in
    sym (ap (λ (b : Bool). cond b (Some (member_of x)) rest) (sym c.has_word.ensures ∙ c.if-has_word.true))
    ∙ sym (ap (λ (l : List RustMember). find (has_word c.args.word.now) (map member_of l))
    (drop_next xs i x c.loop-member-test.true c.member-item.is)) ∙ c.loop-member.invariant

pub loop-member-preserved : goal.loop-member-preserved
loop-member-preserved c =
    let xs = c.args.members.now in
    let i = c.loop-member.member-index in
    let x = c.member-item.result in
    let rest = find (has_word c.args.word.now) (map member_of (drop (i + 1) xs)) in
    sym (ap (λ (b : Bool). cond b (Some (member_of x)) rest) (sym c.has_word.ensures ∙ c.if-has_word.false))
    ∙ sym (ap (λ (l : List RustMember). find (has_word c.args.word.now) (map member_of l))
    (drop_next xs i x c.loop-member-test.true c.member-item.is)) ∙ c.loop-member.invariant

pub returns : goal.returns
returns c = sym (ap (λ (l : List RustMember). find (has_word c.args.word.now) (map member_of l))
    (drop_all c.loop-member.member-index c.args.members.now (omega arith))) ∙ c.loop-member.invariant
