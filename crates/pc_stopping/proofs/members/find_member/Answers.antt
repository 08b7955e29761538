use Rattle.std.proofs.Common.{◌∙◌, ◌++◌, ap, subst, List, arith}
use Rattle.std.specs.Prelude.{◌||◌, Some}
use Rattle.pc_stopping.specs.declared.holdings.Holding.{Holding}
use Rattle.pc_stopping.specs.Members.{clashes_with}
use Rattle.pc_source.specs.declared.place.Place.{Place}
use Rattle.pc_tree.specs.declared.code.Code.TheVariants.{E06}
use Rattle.pc_tree.specs.Tree.{Name, member_of}
use Rattle.pc_tree.specs.Stopping.{is_field, is_among, one_if}
use Rattle.pc_tree.specs.Names.{texts_in}
use Rattle.pc_tree.specs.Code.{at_code}
use Rattle.pc_stopping.specs.Holdings.{HasIn}
use Rattle.pc_stopping.proofs.Clashes.{if_ok, on_ok, on_any, judged, own_one, clash_one}
use Rattle.pc_stopping.proofs.members.find_member.Goals as goal

pub returns-clause-keeps : goal.returns-clause-keeps
returns-clause-keeps c = on_ok c.table_behind.result
    (λ k. record { more = grind (arith, c.in_ok-number.ensures.tables, k.more); kept = λ t hs h. k.kept t hs (c.in_ok-number.ensures.kept t hs h) })
    c.table_behind.ensures.keeps

pub returns-clause-found : goal.returns-clause-found
returns-clause-found c hs h =
    let m = member_of c.args.member.now in
    let b = texts_in c.args.before.now in
    let now = c.number.new.self in
    let named = ap (λ (n : Name). n.text) c.name-name.ensures in
    let clash = c.is_clash-clash.result in
    let is = judged (texts_in now.numbers) now.tables c.args.inherited hs c.in_ok-number.number m b
    c.in_ok-again.again clash (c.in_ok-number.ensures.kept c.args.inherited hs h)
    (c.in_ok-number.ensures.named ∙ ap Some (c.as_str-2.ensures.value ∙ named)) (c.in_ok-again.ensures.was
    ∙ ap (is_among b) (c.as_str.ensures.value ∙ named))
    (c.is_clash-clash.ensures ∙ ap (λ (o : Holding). c.in_ok-again.again || clashes_with o (is_field m))
    c.held.ensures) in
    on_any c.table_behind.result (c.in_ok-find_if.ensures ∙ ap (λ (ps : List Place). c.args.found.now.items
    ++ at_code E06 ps) (ap (λ (n : Name). one_if clash n.place) c.name-name.ensures ∙ clash_one b hs m clash is))

pub returns-clause-has : goal.returns-clause-has
returns-clause-has c =
    let m = member_of c.args.member.now in
    let b = texts_in c.args.before.now in
    let now = c.number.new.self in
    let named = ap (λ (n : Name). n.text) c.name-name.ensures in
    let clash = c.is_clash-clash.result in
    let at = c.in_ok-number.ensures.named ∙ ap Some (c.as_str-2.ensures.value ∙ named) in
    if_ok c.table_behind.result (λ t f hs all hi ha.
    let is = judged (texts_in now.numbers) now.tables c.args.inherited hs c.in_ok-number.number m b
    c.in_ok-again.again clash (c.in_ok-number.ensures.kept c.args.inherited hs hi)
    at (c.in_ok-again.ensures.was ∙ ap (is_among b) (c.as_str.ensures.value ∙ named))
    (c.is_clash-clash.ensures ∙ ap (λ (o : Holding). c.in_ok-again.again || clashes_with o (is_field m))
    c.held.ensures) in
    subst (λ xs. HasIn c.table_behind.new.holdings t (all ++ xs)) (own_one b hs m clash is)
    (f all at (c.in_ok-number.ensures.kept c.args.table all ha)))
    c.table_behind.ensures.has
