use Rattle.std.proofs.Common.{◌∙◌, ◌++◌, ◌∷◌, ◌+◌, [], ap, sym, subst, append-nil, arith, map, drop, List, ℕ}
use Rattle.pc_source.specs.declared.place.Place.{Place}
use Rattle.pc_tree.specs.declared.code.Code.TheVariants.{E06}
use Rattle.pc_tree.specs.Tree.{member_of}
use Rattle.pc_tree.specs.Stopping.{name_of_member, clashes_among, own_members}
use Rattle.pc_tree.specs.Names.{text_seen, texts_in}
use Rattle.pc_tree.specs.Code.{at_code}
use Rattle.pc_tree.proofs.Finds.{stepped}
use Rattle.pc_stopping.proofs.Clashes.{Owns, none_left, same_clashing, clash_next, owns_first, owns_more, owns_all}
use Rattle.pc_stopping.proofs.members.find_in_class.Goals as goal

pub loop-member-init : goal.loop-member-init
loop-member-init c =
    let none = ap (map text_seen) c.with_hasher-before.ensures.empty in
    let ms = map member_of c.args.members.now in
    record {
      keeps = record { more = omega arith; kept = λ t hs h. h };
      within = c.requires;
      found = λ hs h. ap (λ (b : List (List ℕ)). c.args.found.now.items ++ at_code E06 (clashes_among b hs ms)) none;
      owns = λ hs h. owns_first c.args.holdings.now c.args.inherited hs ms (texts_in c.with_hasher-before.result) none
          h;
    }

pub loop-member-preserved : goal.loop-member-preserved
loop-member-preserved c =
    let inv = c.loop-member.invariant in
    let ens = c.in_ok-table.ensures in
    let i = c.loop-member.member-index in
    let m = c.member-item.result in
    let b = texts_in c.loop-member.before in
    let text = (name_of_member (member_of m)).text in
    let rest = map member_of (drop (i + 1) c.args.members.now) in
    record {
      keeps = record { more = omega (arith, ens.keeps.more, inv.keeps.more); kept = λ t hs h. ens.keeps.kept t hs (inv.keeps.kept t hs h) };
      within = ens.within;
      found = λ hs h.
          ap (λ (ps : List Place). c.find_member.new.found.items ++ at_code E06 ps)
          (same_clashing (texts_in c.find_member.new.before) (text ∷ b) ens.passed hs rest)
          ∙ stepped E06 c.loop-member.found.items c.find_member.new.found.items (clashes_among b hs (member_of m ∷ []))
          (clashes_among (text ∷ b) hs rest) (clashes_among b hs (map member_of (drop i c.args.members.now)))
          (ens.found hs (inv.keeps.kept c.args.inherited hs h)) (clash_next b hs c.args.members.now i m
          c.loop-member-test.true c.member-item.is)
          ∙ inv.found hs h;
      owns = λ hs h.
          let o = inv.owns hs h in
          owns_more c.loop-member.holdings c.find_member.new.holdings c.loop-member.table c.in_ok-table.table b
          (texts_in c.find_member.new.before) hs (own_members [] hs (map member_of c.args.members.now))
          c.args.members.now i m
          c.loop-member-test.true c.member-item.is ens.passed o (ens.has hs (hs ++ o.own)
          (inv.keeps.kept c.args.inherited hs h) o.has);
    }

pub find_member-requires-clause-inherited : goal.find_member-requires-clause-inherited
find_member-requires-clause-inherited c = omega (arith, c.loop-member.invariant.keeps.more, c.requires)

pub find_member-requires-clause-table : goal.find_member-requires-clause-table
find_member-requires-clause-table c = c.loop-member.invariant.within

pub returns-clause-found : goal.returns-clause-found
returns-clause-found c hs h =
    let b = texts_in c.loop-member.before in
    sym (append-nil c.loop-member.found.items)
    ∙ ap (λ ms. c.loop-member.found.items ++ at_code E06 (clashes_among b hs ms))
    (sym (none_left member_of c.args.members.now c.loop-member.member-index (omega arith)))
    ∙ c.loop-member.invariant.found hs h

pub returns-clause-has : goal.returns-clause-has
returns-clause-has c hs h =
    let b = texts_in c.loop-member.before in
    let all = own_members [] hs (map member_of c.args.members.now) in
    owns_all c.loop-member.holdings c.loop-member.table b hs all
    (subst (λ ms. Owns c.loop-member.holdings c.loop-member.table b hs ms all)
    (none_left member_of c.args.members.now c.loop-member.member-index (omega arith))
    (c.loop-member.invariant.owns hs h))
