use Rattle.std.proofs.Common.{◌<◌, ◌∙◌, ◌++◌, ◌∷◌, [], ap, sym, subst, append-nil, length, List, ℕ}
use Rattle.pc_source.specs.declared.place.Place.{Place}
use Rattle.pc_tree.specs.declared.code.Code.TheVariants.{E06}
use Rattle.pc_tree.specs.declared.tree.ItemKind.{ItemKind}
use Rattle.pc_tree.specs.Tree.{item_of_kind, class_of}
use Rattle.pc_tree.specs.Stopping.{members_of, option_text, clashes_among, clashing_in}
use Rattle.pc_tree.specs.Code.{at_code}
use Rattle.pc_stopping.specs.Holdings.{HasIn}
use Rattle.pc_stopping.specs.Members.{IsTableOf}
use Rattle.pc_stopping.proofs.ClashingItems.{base_has, unbound, reserved_class, free_class}
use Rattle.pc_stopping.proofs.members.find_in_item.Goals as goal

pub returns-then-is_reserved-clause-found : goal.returns-then-is_reserved-clause-found
returns-then-is_reserved-clause-found c before s =
    let k = class_of c.in-Class.class in
    let hs = members_of before (option_text k.base) in
    let has = subst (λ (t : ℕ). HasIn c.args.holdings.now t hs) (sym c.base_table-inherited.ensures)
    (base_has c.args.holdings.now c.args.bound.now before s (option_text k.base)) in
    rw c.deref.ensures.value at (c.in_ok-own-in-Class.ensures.found hs has)
    ∙ ap (λ (ps : List Place). c.args.found.now.items ++ at_code E06 ps)
    (sym (append-nil (clashes_among [] hs k.members)))
    ∙ ap (λ (x : ItemKind). c.args.found.now.items ++ at_code E06
    (clashing_in before (item_of_kind c.args.item.now.first x ∷ []))) (sym c.in-Class.is)

pub returns-then-is_reserved-clause-has : goal.returns-then-is_reserved-clause-has
returns-then-is_reserved-clause-has c before s =
    let k = class_of c.in-Class.class in
    let new = c.find_in_class.new.holdings in
    subst (λ (x : ItemKind). IsTableOf new before (item_of_kind c.args.item.now.first x) 0) (sym c.in-Class.is)
    (λ none. subst (HasIn new 0)
    (sym (reserved_class c.args.item.now.first k before (rw c.as_str.ensures.value at (sym c.is_reserved.ensures
    ∙ c.if-is_reserved.true))))
    (c.in_ok-own-in-Class.ensures.keeps.kept 0 _ (unbound c.args.holdings.now c.args.bound.now before s k.name.text
    none)))

pub returns-else-is_reserved-clause-found : goal.returns-else-is_reserved-clause-found
returns-else-is_reserved-clause-found c before s =
    let k = class_of c.in-Class.class in
    let hs = members_of before (option_text k.base) in
    let has = subst (λ (t : ℕ). HasIn c.args.holdings.now t hs) (sym c.base_table-inherited.ensures)
    (base_has c.args.holdings.now c.args.bound.now before s (option_text k.base)) in
    rw c.deref.ensures.value at (c.in_ok-own-in-Class.ensures.found hs has)
    ∙ ap (λ (ps : List Place). c.args.found.now.items ++ at_code E06 ps)
    (sym (append-nil (clashes_among [] hs k.members)))
    ∙ ap (λ (x : ItemKind). c.args.found.now.items ++ at_code E06
    (clashing_in before (item_of_kind c.args.item.now.first x ∷ []))) (sym c.in-Class.is)

pub returns-else-is_reserved-clause-has : goal.returns-else-is_reserved-clause-has
returns-else-is_reserved-clause-has c before s =
    let k = class_of c.in-Class.class in
    let hs = members_of before (option_text k.base) in
    let new = c.find_in_class.new.holdings in
    let own = c.in_ok-own-in-Class.own in
    let has = subst (λ (t : ℕ). HasIn c.args.holdings.now t hs) (sym c.base_table-inherited.ensures)
    (base_has c.args.holdings.now c.args.bound.now before s (option_text k.base)) in
    subst (λ (x : ItemKind). IsTableOf new before (item_of_kind c.args.item.now.first x) own) (sym c.in-Class.is)
    (λ none. subst (HasIn new own)
    (sym (free_class c.args.item.now.first k before (rw c.as_str.ensures.value at (sym c.is_reserved.ensures
    ∙ c.if-is_reserved.false)) none))
    (rw c.deref.ensures.value at (c.in_ok-own-in-Class.ensures.has hs has)))

pub find_in_class-requires : goal.find_in_class-requires
find_in_class-requires c = subst (λ (t : ℕ). t < length c.args.holdings.now.tables)
    (sym c.base_table-inherited.ensures) (c.requires (option_text (class_of c.in-Class.class).base))
