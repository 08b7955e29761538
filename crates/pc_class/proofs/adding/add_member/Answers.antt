use Rattle.std.proofs.Common.{◌≡◌, ◌∙◌, ◌++◌, ◌∷◌, [], List, ℕ, length, sym, ap, subst, rules}
use Rattle.std.specs.Prelude.{Some, if◌then◌else◌, bytes_eq}
use Rattle.pc_shared_maps.specs.NameMaps.{named_at}
use Rattle.pc_class.specs.Outlines.{IsMapOf}
use Rattle.pc_class.proofs.Holding.{held_more, named_ahead}
use Rattle.pc_class.proofs.adding.add_member.Goals as goal

pub returns-clause-held : goal.returns-clause-held
returns-clause-held g c front back h none =
    let name = g.X.NamedMember.name_of in
    let x = c.args.member in
    let long : c.len-number.result ≡ length c.args.members.now.items = search rules in
    subst (λ (ys : List _). IsMapOf name c.put.new.self ys c.in_ok-new.new ((front ++ x ∷ []) ++ back))
    (sym c.in_ok-push.ensures.items)
    (held_more name c.args.named.now c.put.new.self c.args.members.now.items c.args.at c.in_ok-new.new
    (front ++ back) ((front ++ x ∷ []) ++ back) x h c.in_ok-new.ensures.within
    (λ n. c.in_ok-new.ensures.value n
    ∙ ap (λ (t : List ℕ). if bytes_eq n t then Some c.len-number.result else named_at c.args.named.now c.args.at n)
    c.name.ensures
    ∙ ap (λ i. if bytes_eq n (name x) then Some i else named_at c.args.named.now c.args.at n) long)
    (named_ahead name front back x none))
