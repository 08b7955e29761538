-- The type at a byte is determined: the smallest rows around it in two listings of the same types have the same content.
use Rattle.std.proofs.Common.{◌≡◌, ℕ, ◌<◌, ◌≤◌, List, [], ◌∷◌, ◌++◌, map, Contains, Option, None, Some, refl, sym, ap, subst, inl, inr}
use Rattle.std.proofs.Common.{◌∙◌, arith}
use Rattle.std.specs.Prelude.{option_map}
use Rattle.pc_source.specs.declared.place.Place.{Place}
use Rattle.pc_tree.proofs.Among.{none_among, first_among, later_among, among_first}
use Rattle.pc_report.specs.declared.listing.TypeRow.{TypeRow}
use Rattle.pc_report.specs.TypeListing.{RowContent, content_of, IsAround, bytes_in, IsSmallestAt}
use Rattle.pc_top.proofs.OneListing.{one_listing}
use Rattle.pc_top.specs.TypesOfBytes.{IsTypeAt}

-- the place of a row's content
abbrev place_in : RowContent → Place
place_in c = c.fact.place

same_place : (r s : TypeRow) → content_of r ≡ content_of s → r.entry.place ≡ s.entry.place
same_place r s e = ap place_in e

-- lists that begin alike
heads : {A : Type 0} {x y : A} {xs ys : List A} → x ∷ xs ≡ y ∷ ys → x ≡ y
heads e = grind arith

tails : {A : Type 0} {x y : A} {xs ys : List A} → x ∷ xs ≡ y ∷ ys → xs ≡ ys
tails e = grind arith

no_head : {A : Type 0} {y : A} {ys : List A} → [] ≡ y ∷ ys → ⊥
no_head e = grind arith

-- a row with the content of a row of the other list
record HasTwin (rows : List TypeRow) (row : TypeRow) : Type 0 where
  twin : TypeRow
  among : Contains rows twin
  same : content_of twin ≡ content_of row

twin_of : (rows others : List TypeRow) → map content_of rows ≡ map content_of others → (row : TypeRow)
    → Contains others row → HasTwin rows row
twin_of rows [] e row h = absurd (none_among row h)
twin_of [] (y ∷ ys) e row h = absurd (no_head e)
twin_of (x ∷ xs) (y ∷ ys) e row h = elim (among_first y ys row h) [
  | inl is ↦ record {
    twin = x;
    among = first_among x xs;
    same = heads e ∙ ap content_of is;
  }
  | inr rest ↦
      let t = twin_of xs ys (tails e) row rest in
      record { twin = t.twin; among = later_among x xs t.twin t.among; same = t.same }
]

-- the row at the place where two lists part is in the second one
at_part : (before behind : List TypeRow) (row : TypeRow) → Contains (before ++ (row ∷ behind)) row
at_part [] behind row = first_among row behind
at_part (x ∷ before) behind row = later_among x (before ++ (row ∷ behind)) row (at_part before behind row)

module _ (byte : ℕ) where
  abbrev Around : TypeRow → Type 0
  Around row = IsAround byte row.entry.place

  abbrev size : TypeRow → ℕ
  size row = bytes_in row.entry.place

  around_twin : (r s : TypeRow) → content_of r ≡ content_of s → Around s → Around r
  around_twin r s e h = subst (IsAround byte) (sym (same_place r s e)) h

  size_twin : (r s : TypeRow) → content_of r ≡ content_of s → size r ≡ size s
  size_twin r s e = ap bytes_in (same_place r s e)

  -- the first of the smallest rows is not behind the head of the other list
  not_later : (r x t : TypeRow) (behind before rest : List TypeRow) → content_of r ≡ content_of x
      → map content_of behind ≡ map content_of (before ++ (t ∷ rest)) → Around r → Around t
      → ((o : TypeRow) → Contains behind o → Around o → size r ≤ size o) → size t < size x → ⊥
  not_later r x t behind before rest e es hr ht shorter less =
      let twin = twin_of behind (before ++ (t ∷ rest)) es t (at_part before rest t) in
      let no_more : size r ≤ size twin.twin = shorter twin.twin twin.among (around_twin twin.twin t twin.same ht) in
      omega (arith, no_more, less, size_twin r x e, size_twin twin.twin t twin.same)

  one_smallest : (before behind others rest : List TypeRow) (r t : TypeRow)
      → map content_of (before ++ (r ∷ behind)) ≡ map content_of (others ++ (t ∷ rest)) → Around r → Around t
      → ((o : TypeRow) → Contains before o → Around o → size r < size o)
      → ((o : TypeRow) → Contains behind o → Around o → size r ≤ size o)
      → ((o : TypeRow) → Contains others o → Around o → size t < size o)
      → ((o : TypeRow) → Contains rest o → Around o → size t ≤ size o) → content_of r ≡ content_of t
  one_smallest [] behind [] rest r t e hr ht a b c d = heads e
  one_smallest [] behind (x ∷ others) rest r t e hr ht a b c d =
      absurd (not_later r x t behind others rest (heads e) (tails e) hr ht b
      (c x (first_among x others) (around_twin x r (sym (heads e)) hr)))
  one_smallest (x ∷ before) behind [] rest r t e hr ht a b c d =
      absurd (not_later t x r rest before behind (sym (heads e)) (sym (tails e)) ht hr d
      (a x (first_among x before) (around_twin x t (heads e) ht)))
  one_smallest (x ∷ before) behind (y ∷ others) rest r t e hr ht a b c d =
      one_smallest before behind others rest r t (tails e) hr ht (λ o h. a o (later_among x before o h)) b
      (λ o h. c o (later_among y others o h)) d

  one_at : (rows others : List TypeRow) → map content_of rows ≡ map content_of others → (r t : Option TypeRow)
      → IsSmallestAt byte rows r → IsSmallestAt byte others t → option_map content_of r ≡ option_map content_of t
  one_at rows others e None None x y = refl
  one_at rows others e None (Some t) x y =
      let among : Contains others t = subst (λ (l : List TypeRow). Contains l t) (sym y.order)
      (at_part y.before y.behind t) in
      let twin = twin_of rows others e t among in
      absurd (x twin.twin twin.among (around_twin twin.twin t twin.same y.around))
  one_at rows others e (Some r) None x y =
      let among : Contains rows r = subst (λ (l : List TypeRow). Contains l r) (sym x.order)
      (at_part x.before x.behind r) in
      let twin = twin_of others rows (sym e) r among in
      absurd (y twin.twin twin.among (around_twin twin.twin r twin.same x.around))
  one_at rows others e (Some r) (Some t) x y =
      let whole : map content_of (x.before ++ (r ∷ x.behind)) ≡ map content_of (y.before ++ (t ∷ y.behind)) =
      sym (ap (map content_of) x.order) ∙ (e ∙ ap (map content_of) y.order) in
      ap Some (one_smallest x.before x.behind y.before y.behind r t whole x.around y.around x.longer x.not_shorter
      y.longer y.not_shorter)

pub one_type_at : (bytes : List ℕ) (byte : ℕ) (row other : Option TypeRow) → IsTypeAt bytes byte row
    → IsTypeAt bytes byte other → option_map content_of row ≡ option_map content_of other
one_type_at bytes byte row other a b = a.content
    ∙ (one_at byte a.rows b.rows (one_listing bytes a.rows b.rows a.lists b.lists) a.smallest b.smallest a.is_smallest
    b.is_smallest ∙ sym b.content)
