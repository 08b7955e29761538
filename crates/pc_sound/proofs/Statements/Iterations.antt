-- The items of a `for`: each turn gives a value of the item type, or there is none, whatever the body did to the heap.
use Rattle.std.proofs.Common.{◌≡◌, ℕ, zero, suc, List, [], ◌∷◌, map, refl, sym, ap, ◌∙◌, subst, inl, inr}
use Rattle.std.specs.Prelude.{ℤ, pos, Bool as Test, true, false, nat_eq, if◌then◌else◌, length, Option, Some, None}
use Rattle.std.specs.Prelude.{slice_get}
use Rattle.pc_types.specs.Tree.{Tree, Trees, Any, Object, Never, Int, Bool, Str, NoneType, Class, ListOf, DictOf}
use Rattle.pc_types.specs.Tree.{TupleOf, Union, end, more}
use Rattle.pc_types.specs.Below.{Bases, AreSmaller}
use Rattle.pc_types.specs.Shape.{members, list_of_trees}
use Rattle.pc_class.specs.Facts as facts
use Rattle.pc_flow.specs.Environment.{join_all}
use Rattle.pc_rules.specs.Operations.{Label, Offer, found_of, offers_label, has_error, iterate_member}
use Rattle.pc_value.specs.Value.{Value, Values, whole, string, tuple_of, location, no_values, more_values, list_of}
use Rattle.pc_value.specs.Value.{Cell, list_cell, dict_cell, instance_cell, DictEntry, Heap, seen, seen_cell, Other}
use Rattle.pc_value.specs.Actions.{Iteration, over_list, over_dict, over_text, over_tuple, over_range, gives, finished}
use Rattle.pc_value.specs.Actions.{stops}
use Rattle.pc_value.specs.Iteration.{iterate_outcome, turn_outcome, turn_item, turn_character, list_turn, dict_turn}
use Rattle.pc_value.specs.Numbers.{number_below}
use Rattle.pc_machine.specs.Steps.{iteration_out, item_out}
use Rattle.pc_sound.specs.Values.{HeapTyping, a_list, a_dict, Extends, HasType, HaveTypes, AllHave, EntriesHave}
use Rattle.pc_sound.specs.Values.{CellHas, CellAt, IsWell}
use Rattle.pc_sound.specs.Ends.{EndsWell}
use Rattle.pc_sound.proofs.Lists.{front_empty, not_empty, rest_empty}
use Rattle.pc_sound.proofs.Values.ValuesFlow.{of_static, all_later}
use Rattle.pc_sound.proofs.Values.Narrowing.{HasSome, to_members}
use Rattle.pc_sound.proofs.Values.Joins.{all_hold, among_has}
use Rattle.pc_sound.proofs.Heap.SeenValues.{sees_list, sees_dict}

-- a list is gone over whose items are of the type, now and later
pub record OverList (bases : Bases) (k : HeapTyping) (t : Tree) (l : ℕ) : Type 0 where
  pub item : Tree
  pub is : slice_get k l ≡ Some (a_list item)
  pub into : (k' : HeapTyping) (v : Value) → HasType bases k' item v → HasType bases k' t v

-- a dict whose keys are so
pub record OverDict (bases : Bases) (k : HeapTyping) (t : Tree) (l : ℕ) : Type 0 where
  pub keys : Tree
  pub values : Tree
  pub is : slice_get k l ≡ Some (a_dict keys values)
  pub into : (k' : HeapTyping) (v : Value) → HasType bases k' keys v → HasType bases k' t v

-- each item that is gone over is of the type
abbrev pub GoesOver : Bases → HeapTyping → Tree → Iteration → Type 0
GoesOver bases k t (over_list l) = OverList bases k t l
GoesOver bases k t (over_dict l size) = OverDict bases k t l
GoesOver bases k t (over_text cs) = (k' : HeapTyping) (c : List ℕ) → HasType bases k' t (string c)
GoesOver bases k t (over_tuple vs) = AllHave bases k t (list_of vs)
GoesOver bases k t (over_range n) = (k' : HeapTyping) (z : ℤ) → HasType bases k' t (whole z)

-- an item, where there is one, is of the type
abbrev pub ItemHas : Bases → HeapTyping → Tree → Option Value → Type 0
ItemHas bases k t None = Unit {0}
ItemHas bases k t (Some v) = HasType bases k t v

module _ (bases : Bases) where
  pub goes_over_later : (k k' : HeapTyping) (t : Tree) (over : Iteration) → Extends k k' → GoesOver bases k t over
      → GoesOver bases k' t over
  goes_over_later k k' t (over_list l) x h = record { item = h.item; is = x.by l (a_list h.item) h.is; into = h.into }
  goes_over_later k k' t (over_dict l size) x h = record {
    keys = h.keys;
    values = h.values;
    is =
        x.by l (a_dict h.keys h.values) h.is;
    into = h.into;
  }
  goes_over_later k k' t (over_text cs) x h = h
  goes_over_later k k' t (over_tuple vs) x h = all_later bases x t (list_of vs) h
  goes_over_later k k' t (over_range n) x h = h

  -- ---- a turn

  item_at : (k : HeapTyping) (t : Tree) (vs : List Value) (i : ℕ) → AllHave bases k t vs
      → EndsWell (ItemHas bases k t) (item_out (turn_item (slice_get vs i)))
  item_at k t [] i h = tt
  item_at k t (v ∷ vs) zero h = h.0
  item_at k t (v ∷ vs) (suc i) h = item_at k t vs i h.1

  all_into : (k : HeapTyping) (s t : Tree) → ((v : Value) → HasType bases k s v → HasType bases k t v)
      → (vs : List Value) → AllHave bases k s vs → AllHave bases k t vs
  all_into k s t into [] h = tt
  all_into k s t into (v ∷ vs) h = (into v h.0, all_into k s t into vs h.1)

  keys_have : (k : HeapTyping) (s t : Tree) (es : List DictEntry) → EntriesHave bases k s t es
      → AllHave bases k s (map (λ (e : DictEntry). e.key) es)
  keys_have k s t [] h = tt
  keys_have k s t (e ∷ es) h = (h.0, keys_have k s t es h.2)

  character_at : (k : HeapTyping) (t : Tree) (cs : List ℕ) (i : ℕ) → ((c : List ℕ) → HasType bases k t (string c))
      → EndsWell (ItemHas bases k t) (item_out (turn_character (slice_get cs i)))
  character_at k t [] i h = tt
  character_at k t (c ∷ cs) zero h = h (c ∷ [])
  character_at k t (c ∷ cs) (suc i) h = character_at k t cs i h

  -- a turn gives an item of the type, or none
  pub turn_ends_well : (classes : List facts.ClassFacts) (k : HeapTyping) (heap : Heap) (t : Tree) (over : Iteration)
      (i : ℕ) → IsWell bases classes k heap → GoesOver bases k t over
      → EndsWell (ItemHas bases k t) (item_out (turn_outcome heap over i))
  turn_ends_well classes k heap t (over_list l) i well h = go at.cell at.is at.has
    where
      at : CellAt bases classes k heap l (a_list h.item)
      at = well.each l (a_list h.item) h.is

      go : (c : Cell) → slice_get heap l ≡ Some c → CellHas bases classes k (a_list h.item) c
          → EndsWell (ItemHas bases k t) (item_out (turn_outcome heap (over_list l) i))
      go (list_cell items) is has = subst (λ o. EndsWell (ItemHas bases k t) (item_out (list_turn (seen_cell l o) i)))
          (sym is) (item_at k t items i (all_into k h.item t (h.into k) items has))
      go (dict_cell entries) is has = absurd has
      go (instance_cell d slots) is has = absurd has
  turn_ends_well classes k heap t (over_dict l size) i well h = go at.cell at.is at.has
    where
      at : CellAt bases classes k heap l (a_dict h.keys h.values)
      at = well.each l (a_dict h.keys h.values) h.is

      sized : (entries : List DictEntry) (b : Test) → EntriesHave bases k h.keys h.values entries
          → EndsWell (ItemHas bases k t)
          (item_out (if b then turn_item (slice_get (map (λ (e : DictEntry). e.key) entries) i) else stops Other))
      sized entries true has = item_at k t (map (λ (e : DictEntry). e.key) entries) i
          (all_into k h.keys t (h.into k) (map (λ (e : DictEntry). e.key) entries)
          (keys_have k h.keys h.values entries has))
      sized entries false has = tt

      go : (c : Cell) → slice_get heap l ≡ Some c → CellHas bases classes k (a_dict h.keys h.values) c
          → EndsWell (ItemHas bases k t) (item_out (turn_outcome heap (over_dict l size) i))
      go (dict_cell entries) is has = subst (λ o. EndsWell (ItemHas bases k t)
          (item_out (dict_turn (seen_cell l o) size i))) (sym is) (sized entries (nat_eq (length entries) size) has)
      go (list_cell items) is has = absurd has
      go (instance_cell d slots) is has = absurd has
  turn_ends_well classes k heap t (over_text cs) i well h = character_at k t cs i (h k)
  turn_ends_well classes k heap t (over_tuple vs) i well h = item_at k t (list_of vs) i h
  turn_ends_well classes k heap t (over_range n) i well h = go (number_below (pos i) n)
    where
      go : (b : Test) → EndsWell (ItemHas bases k t) (item_out (if b then gives (whole (pos i)) else finished))
      go true = h k (pos i)
      go false = tt

  -- ---- iterations over values

  -- the member that a value is of, its place, and that nothing is found on it
  record ChosenAt (k : HeapTyping) (offer : Tree → Offer) (ms : List Tree) (v : Value) : Type 0 where
    member : Tree
    has : HasType bases k member v
    clean : (offer member).found ≡ []
    number : ℕ
    at : slice_get (map (λ o. o.gives) (map offer ms)) number ≡ Some (offer member).gives

  chosen_at : (k : HeapTyping) (offer : Tree → Offer) (ms : List Tree) (v : Value) → HasSome bases k ms v
      → found_of (map offer ms) ≡ [] → ChosenAt k offer ms v
  chosen_at k offer [] v h e = absurd h
  chosen_at k offer (m ∷ ms) v h e = elim h [
    | inl x ↦ record {
      member = m;
      has = x;
      clean = front_empty (offer m).found (found_of (map offer ms)) e;
      number =
          zero;
      at = refl;
    }
    | inr y ↦ let c = chosen_at k offer ms v y (rest_empty (offer m).found (found_of (map offer ms)) e) in
        record { member = c.member; has = c.has; clean = c.clean; number = suc c.number; at = c.at }
  ]

  parts_have : (ordered : AreSmaller bases) (k : HeapTyping) (all : List Tree) (ts : Trees) (vs : Values)
      → ((v : Value) → HasSome bases k (list_of_trees ts) v → HasSome bases k all v) → HaveTypes bases k ts vs
      → AllHave bases k (join_all bases all) (list_of vs)
  parts_have ordered k all end no_values within h = tt
  parts_have ordered k all end (more_values v vs) within h = absurd h
  parts_have ordered k all (more t ts) no_values within h = absurd h
  parts_have ordered k all (more t ts) (more_values v vs) within h = (
    all_hold bases ordered k all v (within v (inl h.0)),
    parts_have ordered k all ts vs (λ w x. within w (inr x))
        h.1,
  )

  module _ (ordered : AreSmaller bases) (classes : List facts.ClassFacts) (k : HeapTyping) (heap : Heap)
      (well : IsWell bases classes k heap) (u : Tree) where
    member_over : (m : Tree) (v : Value) → HasType bases k m v → (iterate_member bases m).found ≡ []
        → ((k' : HeapTyping) (w : Value) → HasType bases k' (iterate_member bases m).gives w → HasType bases k' u w)
        → EndsWell (GoesOver bases k u) (iteration_out (iterate_outcome (seen heap v)))
    member_over (ListOf t) (location l) h clean into =
        let s = sees_list bases classes k heap well l t h in
        subst (λ o. EndsWell (GoesOver bases k u) (iteration_out (iterate_outcome o))) (sym s.seen_as)
        (record {
          item = s.item;
          is = s.recorded;
          into = λ k' w x.
              into k' w (of_static bases k' s.item t s.equal.to w x);
        })
    member_over (DictOf r t) (location l) h clean into =
        let s = sees_dict bases classes k heap well l r t h in
        subst (λ o. EndsWell (GoesOver bases k u) (iteration_out (iterate_outcome o))) (sym s.seen_as)
        (record {
          keys = s.keys;
          values = s.values;
          is = s.recorded;
          into =
              λ k' w x. into k' w (of_static bases k' s.keys r s.equal_keys.to w x);
        })
    member_over Str (string cs) h clean into = λ k' c. into k' (string c) tt
    member_over (TupleOf ts) (tuple_of vs) h clean into = all_into k (join_all bases (list_of_trees ts)) u (into k)
        (list_of vs) (parts_have ordered k (list_of_trees ts) ts vs (λ w x. x) h)
    member_over Any v h clean into = absurd (not_empty clean)
    member_over Object v h clean into = absurd (not_empty clean)
    member_over Never v h clean into = absurd h
    member_over Int v h clean into = absurd (not_empty clean)
    member_over Bool v h clean into = absurd (not_empty clean)
    member_over NoneType v h clean into = absurd (not_empty clean)
    member_over (Class c) v h clean into = absurd (not_empty clean)
    member_over (Union a b) v h clean into = absurd (not_empty clean)
    member_over (ListOf t) _ h clean into = absurd h
    member_over (DictOf r t) _ h clean into = absurd h
    member_over Str _ h clean into = absurd h
    member_over (TupleOf ts) _ h clean into = absurd h

  -- a value of a type on whose members nothing is found is gone over
  pub iterate_ends_well : (ordered : AreSmaller bases) (classes : List facts.ClassFacts) (k : HeapTyping) (heap : Heap)
      (t : Tree) (v : Value) (item : Label) → IsWell bases classes k heap → HasType bases k t v
      → item ≡ offers_label bases (map (iterate_member bases) (members t)) → item.codes ≡ []
      → EndsWell (GoesOver bases k item.type) (iteration_out (iterate_outcome (seen heap v)))
  iterate_ends_well ordered classes k heap t v item well h is no_codes =
      let offers = map (iterate_member bases) (members t) in
      let quiet : found_of offers ≡ [] = ap (λ x. x.codes) (sym is) ∙ no_codes in
      let type : item.type ≡ join_all bases (map (λ o. o.gives) offers) = ap (λ x. x.type) is
      ∙ ap (λ codes. if has_error codes then Any else join_all bases (map (λ o. o.gives) offers)) quiet in
      let c = chosen_at k (iterate_member bases) (members t) v (to_members bases k t v h) quiet in
      member_over ordered classes k heap well item.type c.member v c.has c.clean
      (λ k' w x. subst (λ y. HasType bases k' y w) (sym type) (all_hold bases ordered k' (map (λ o. o.gives) offers) w
      (among_has bases ordered k' (map (λ o. o.gives) offers) c.number (iterate_member bases c.member).gives w c.at
      x)))
