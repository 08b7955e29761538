-- The tables of the names that items bind, one item after another.
use Rattle.std.proofs.Common.{◌≡◌, ◌<◌, ◌+◌, ℕ, refl, ap, ◌∙◌, sym, subst, List, [], ◌∷◌, ◌++◌, map, reverse, take}
use Rattle.std.proofs.Common.{length, get_or, Bool, true, false, true≢false, append-nil}
use Rattle.std.specs.Prelude.{◌||◌, ◌&&◌, not, if◌then◌else◌, Option, Some, None, is_some, unwrap_or, bytes_eq}
use Rattle.std.specs.Borrow.{Bor}
use Rattle.std.proofs.lemmas.List.{reverse-append}
use Rattle.std.proofs.lemmas.Slice.Eq.{bytes_eq-Decides}
use Rattle.indexmap.specs.IndexMap.{IndexMap}
use Rattle.pc_source.specs.declared.place.Place.{Place}
use Rattle.pc_source.specs.ReservedNames.{is_reserved}
use Rattle.pc_tree.specs.Tree.{ClassDef, Item, constant_item, class_item, def_item}
use Rattle.pc_tree.specs.Stopping.{is_among, name_of_item, members_of, own_members, is_first_binding}
use Rattle.pc_tree.specs.Stopping.{option_text, clashes_among, clashing_in}
use Rattle.pc_tree.proofs.Stops.{more_at}
use Rattle.pc_tree.specs.Names.{at_text, first_of, bound_as}
use Rattle.pc_stopping.specs.declared.holdings.Holdings.{Holdings}
use Rattle.pc_stopping.specs.Holdings.{HasIn, Keeps}
use Rattle.pc_stopping.specs.Members.{base_at, names_of_items, HoldsTables, IsTableOf}

-- ---- members held of a name

nothing_above : (before : List Item) → members_of before None ≡ []
nothing_above [] = refl
nothing_above (i ∷ before) = refl

zero_at : (o : Option ℕ) → is_some o ≡ false → unwrap_or o 0 ≡ 0
zero_at None e = refl
zero_at (Some n) e = absurd (true≢false e)

module _ {S : Type 0} (h : Holdings) (bound : IndexMap (Bor (List ℕ)) ℕ S) (before : List Item)
    (s : HoldsTables h bound before) where
  -- the table of a base has what the class inherits
  pub base_has : (o : Option (List ℕ)) → HasIn h (base_at bound o) (members_of before o)
  base_has None = subst (HasIn h 0) (sym (nothing_above before)) s.empty
  base_has (Some n) = s.tables n

  -- a name that no item before binds has nothing
  pub unbound : (n : List ℕ) → is_among (names_of_items before) n ≡ false → HasIn h 0 (members_of before (Some n))
  unbound n e = subst (λ (t : ℕ). HasIn h t (members_of before (Some n))) (zero_at (at_text bound n) (s.named n ∙ e))
      (s.tables n)

-- ---- members held of a name after an item

-- an item that binds another name changes nothing
other_name : (i : Item) (before : List Item) (n : List ℕ) → bytes_eq (name_of_item i).text n ≡ false
    → members_of (i ∷ before) (Some n) ≡ members_of before (Some n)
other_name (constant_item p c) before n e = refl
other_name (def_item p f) before n e = refl
other_name (class_item p c) before n e = ap (λ (b : Bool). if b && is_first_binding before c.name then members_of before
    (option_text c.base) ++ own_members [] (members_of before (option_text c.base)) c.members else members_of before
    (Some n)) e

-- nor does one of a name that is bound already
bound_name : (i : Item) (before : List Item) (n : List ℕ) → is_among (names_of_items before) n ≡ true
    → members_of (i ∷ before) (Some n) ≡ members_of before (Some n)
bound_name (constant_item p c) before n e = refl
bound_name (def_item p f) before n e = refl
bound_name (class_item p c) before n e = go (bytes_eq c.name.text n) refl
  where
    go : (b : Bool) → bytes_eq c.name.text n ≡ b → (if b && is_first_binding before c.name then members_of before
        (option_text c.base) ++ own_members [] (members_of before (option_text c.base)) c.members else members_of before
        (Some n)) ≡ members_of before (Some n)
    go true is = ap (λ (a : Bool). if not a && not (is_reserved c.name.text) then members_of before (option_text c.base)
        ++ own_members [] (members_of before (option_text c.base)) c.members else members_of before (Some n))
        (ap (is_among (names_of_items before)) ((bytes_eq-Decides c.name.text n).0 is) ∙ e)
    go false is = refl

and_never : (a b : Bool) → (a && (b && false)) ≡ false
and_never true true = refl
and_never true false = refl
and_never false b = refl

-- nor does a class of a reserved name
pub reserved_class : (p : Place) (c : ClassDef) (before : List Item) → is_reserved c.name.text ≡ true
    → members_of (class_item p c ∷ before) (Some c.name.text) ≡ members_of before (Some c.name.text)
reserved_class p c before e =
    ap (λ (r : Bool). if bytes_eq c.name.text c.name.text && (not (is_among (names_of_items before) c.name.text) && not r)
    then members_of before (option_text c.base) ++ own_members [] (members_of before (option_text c.base)) c.members
    else members_of before (Some c.name.text)) e
    ∙ ap (λ (b : Bool). if b then members_of before (option_text c.base) ++ own_members []
    (members_of before (option_text c.base)) c.members else members_of before (Some c.name.text))
    (and_never (bytes_eq c.name.text c.name.text) (not (is_among (names_of_items before) c.name.text)))

-- a class of a free name has what it inherits, and its own members
pub free_class : (p : Place) (c : ClassDef) (before : List Item) → is_reserved c.name.text ≡ false
    → is_among (names_of_items before) c.name.text ≡ false
    → members_of (class_item p c ∷ before) (Some c.name.text) ≡ members_of before (option_text c.base) ++ own_members []
    (members_of before (option_text c.base)) c.members
free_class p c before r e =
    ap (λ (b : Bool). if b && is_first_binding before c.name then members_of before (option_text c.base) ++ own_members
    [] (members_of before (option_text c.base)) c.members else members_of before (Some c.name.text))
    ((bytes_eq-Decides c.name.text c.name.text).1 refl)
    ∙ ap (λ (a : Bool). if not a && not (is_reserved c.name.text) then members_of before (option_text c.base)
    ++ own_members [] (members_of before (option_text c.base)) c.members else members_of before (Some c.name.text))
    e
    ∙ ap (λ (b : Bool). if not b then members_of before (option_text c.base) ++ own_members []
    (members_of before (option_text c.base)) c.members else members_of before (Some c.name.text)) r

-- ---- one item more

or_true : (b : Bool) → (b || true) ≡ true
or_true true = refl
or_true false = refl

or_false : (b : Bool) → (b || false) ≡ b
or_false true = refl
or_false false = refl

module _ {S : Type 0} (old new : Holdings) (bound now : IndexMap (Bor (List ℕ)) ℕ S) (before : List Item) (i : Item)
    (t : ℕ)
    (s : HoldsTables old bound before) (keeps : Keeps old new) (binds : (n : List ℕ)
    → at_text now n ≡ first_of (at_text bound n) (bound_as (name_of_item i).text t n))
    (table : IsTableOf new before i t) where
  abbrev name : List ℕ
  name = (name_of_item i).text

  named_more : (n : List ℕ) (o : Option ℕ) → at_text bound n ≡ o → is_some (first_of o (bound_as name t n))
      ≡ is_among (name ∷ names_of_items before) n
  named_more n (Some u) is = sym (or_true (bytes_eq name n)) ∙ ap (λ (b : Bool). bytes_eq name n || b)
      (sym (ap is_some is) ∙ s.named n)
  named_more n None is = go (bytes_eq name n) ∙ ap (λ (b : Bool). bytes_eq name n || b)
      (sym (ap is_some is) ∙ s.named n)
    where
      go : (b : Bool) → is_some (if b then Some t else None) ≡ (b || false)
      go true = refl
      go false = refl

  table_more : (n : List ℕ) (o : Option ℕ) → at_text bound n ≡ o
      → HasIn new (unwrap_or (first_of o (bound_as name t n)) 0) (members_of (i ∷ before) (Some n))
  table_more n (Some u) is =
      subst (HasIn new u) (sym (bound_name i before n (sym (s.named n) ∙ ap is_some is)))
      (keeps.kept u (members_of before (Some n))
      (subst (λ (o : Option ℕ). HasIn old (unwrap_or o 0) (members_of before (Some n))) is (s.tables n)))
  table_more n None is = go (bytes_eq name n) refl
    where
      unnamed : is_among (names_of_items before) n ≡ false
      unnamed = sym (s.named n) ∙ ap is_some is

      go : (b : Bool) → bytes_eq name n ≡ b → HasIn new (unwrap_or (if b then Some t else None) 0)
          (members_of (i ∷ before) (Some n))
      go true e = let same : name ≡ n = (bytes_eq-Decides name n).0 e in
          subst (λ (m : List ℕ). HasIn new t (members_of (i ∷ before) (Some m))) same
          (table (ap (is_among (names_of_items before)) same ∙ unnamed))
      go false e = subst (HasIn new 0) (sym (other_name i before n e))
          (keeps.kept 0 (members_of before (Some n)) (unbound old bound before s n unnamed))

  pub stands_more : HoldsTables new now (i ∷ before)
  stands_more = record {
    empty = keeps.kept 0 [] s.empty;
    named = λ n. ap is_some (binds n) ∙ named_more n (at_text bound n) refl;
    tables = λ n. subst (λ (o : Option ℕ). HasIn new (unwrap_or o 0) (members_of (i ∷ before) (Some n))) (sym (binds n))
        (table_more n (at_text bound n) refl);
  }

-- the clashes in items are those in the first item, and then those in the items after it
pub items_next : (before : List Item) (i : Item) (is : List Item) → clashing_in before (i ∷ is) ≡ clashing_in before
    (i ∷ []) ++ clashing_in (i ∷ before) is
items_next before (constant_item p c) is = refl
items_next before (def_item p f) is = refl
items_next before (class_item p c) is = ap (λ (ps : List Place). ps ++ clashing_in (class_item p c ∷ before) is)
    (sym (append-nil (clashes_among [] (members_of before (option_text c.base)) c.members)))

-- the items before the next one, the nearest first
pub reverse_more : {X Y : Type 0} (f : X → Y) (xs : List X) (i : ℕ) (d : X) → i < length xs → d ≡ get_or xs i d
    → reverse (map f (take (i + 1) xs)) ≡ f d ∷ reverse (map f (take i xs))
reverse_more f xs i d lt is = ap reverse (more_at f xs i d lt is) ∙ reverse-append (map f (take i xs)) (f d ∷ [])
