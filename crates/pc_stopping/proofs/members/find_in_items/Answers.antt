use Rattle.std.proofs.Common.{◌∙◌, ◌++◌, ◌∷◌, ◌+◌, [], ap, sym, subst, refl, append-nil, map, take, drop}
use Rattle.std.proofs.Common.{reverse, List, ℕ}
use Rattle.pc_tree.specs.declared.code.Code.TheVariants.{E06}
use Rattle.pc_tree.specs.declared.tree.Item.{Item as RustItem}
use Rattle.pc_tree.specs.Tree.{Name, Item, item_of}
use Rattle.pc_tree.specs.Stopping.{clashing_in}
use Rattle.pc_tree.proofs.Stops.{cons_at}
use Rattle.pc_tree.specs.Names.{at_text, first_of, bound_as}
use Rattle.pc_tree.specs.Code.{at_code}
use Rattle.pc_stopping.specs.Members.{HoldsTables}
use Rattle.pc_tree.proofs.Finds.{stepped}
use Rattle.pc_stopping.proofs.Clashes.{none_left}
use Rattle.pc_stopping.proofs.ClashingItems.{base_has, stands_more, items_next, reverse_more}
use Rattle.pc_stopping.proofs.members.find_in_items.Goals as goal

pub loop-item-init : goal.loop-item-init
loop-item-init c = record { stands = c.requires; found = refl }

pub find_in_item-requires : goal.find_in_item-requires
find_in_item-requires c base = (base_has c.loop-item.holdings c.loop-item.bound
    (reverse (map item_of (take c.loop-item.item-index c.args.items.now))) c.loop-item.invariant.stands base).within

pub loop-item-preserved : goal.loop-item-preserved
loop-item-preserved c =
    let items = c.args.items.now in
    let i = c.loop-item.item-index in
    let item = c.item-item.result in
    let before = reverse (map item_of (take i items)) in
    let rest = map item_of (drop (i + 1) items) in
    let next = reverse_more item_of items i item c.loop-item-test.true c.item-item.is in
    let inv = c.loop-item.invariant in
    let ens = c.in_ok-table.ensures in
    let t = c.in_ok-table.table in
    let binds = λ (n : List ℕ). c.in_ok-bind_first.ensures.bound n
    ∙ ap (λ (x : List ℕ). first_of (at_text c.loop-item.bound n) (bound_as x t n)) (c.as_str.ensures.value
    ∙ ap (λ (m : Name). m.text) c.name.ensures) in
    record {
      stands = subst (HoldsTables c.find_in_item.new.holdings c.bind_first.new.map) (sym next)
          (stands_more c.loop-item.holdings c.find_in_item.new.holdings c.loop-item.bound c.bind_first.new.map before
          (item_of item) t inv.stands ens.keeps binds (ens.has before inv.stands));
      found =
          ap (λ (b : List Item). c.find_in_item.new.found.items ++ at_code E06 (clashing_in b rest)) next
          ∙ stepped E06 c.loop-item.found.items c.find_in_item.new.found.items (clashing_in before (item_of item ∷ []))
          (clashing_in (item_of item ∷ before) rest) (clashing_in before (map item_of (drop i items)))
          (ens.found before inv.stands) (ap (λ (xs : List RustItem). clashing_in before (map item_of xs))
          (cons_at items i item c.loop-item-test.true c.item-item.is) ∙ items_next before (item_of item) rest)
          ∙ inv.found;
    }

pub returns : goal.returns
returns c =
    let items = c.args.items.now in
    let i = c.loop-item.item-index in
    sym (append-nil c.loop-item.found.items)
    ∙ ap (λ (xs : List Item). c.loop-item.found.items ++ at_code E06
    (clashing_in (reverse (map item_of (take i items))) xs))
    (sym (none_left item_of items i c.loop-item-test.false))
    ∙ c.loop-item.invariant.found
