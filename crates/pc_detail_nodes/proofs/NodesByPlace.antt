-- Lists of nodes by place, in a map that has a list at each place of a finding.
use Rattle.std.proofs.Common.{◌≡◌, ◌∙◌, ◌<◌, ◌+◌, ◌++◌, ◌∷◌, [], ℕ, List, Bool, true, false, cond, Option, Some, None, refl, sym, ap, subst}
use Rattle.std.proofs.Common.{map, take, length, get_or, inl, inr}
use Rattle.std.proofs.lemmas.List.{append-nil, get_or_default, take_more}
use Rattle.std.proofs.lemmas.List.Elements.{Contains-push_cases}
use Rattle.std.specs.Prelude.{Contains, Vec, if◌then◌else◌, unwrap_or}
use Rattle.std.specs.BTreeMap.{BTreeMap, get}
use Rattle.std.specs.Option.{option_map}
use Rattle.std.specs.Ordering.{is_eq}
use Rattle.std.specs.declared.alloc.Global.{Global}
use Rattle.pc_source.specs.declared.place.Place.{Place}
use Rattle.pc_tree.specs.declared.code.Finding.{Finding}
use Rattle.pc_notes.specs.Notes.{is_same_place}
use Rattle.pc_notes.specs.Texts.{place_cmp}
use Rattle.pc_notes.proofs.FirstFlows.{apart, not_same, place_same, place_self, self_tested}
use Rattle.pc_detail_nodes.specs.ByPlaces.{alone_at}

-- a list of which each item is shown, if it is there
pub shown_or : {T X : Type 0} (shown : T → X) (o : Option (List T)) (xs : List X)
    → option_map (map shown) o ≡ Some xs → map shown (unwrap_or o []) ≡ xs
shown_or shown None xs e = absurd (cc e)
shown_or shown (Some ts) xs e = cc

module _ {T : Type 0} where
  -- the list at a place of a map, if there is one
  abbrev pub list_at : BTreeMap Place (Vec T Global) → Place → Option (List T)
  list_at m p = option_map (λ (v : Vec T Global). v.items) (get place_cmp m p)

  with_none : (o : Option (List T)) → o ≡ option_map (λ ts. ts ++ []) o
  with_none None = refl
  with_none (Some ts) = ap (λ (l : List T). Some l) (sym (append-nil ts))

  -- ---- a node more

  module _ (q : Place) (x : T) (old : BTreeMap Place (Vec T Global)) where
    -- at another place nothing is added
    elsewhere : (p : Place) (o : Option (List T)) → is_eq (place_cmp q p) ≡ false
        → o ≡ option_map (λ ts. ts ++ alone_at p q x) o
    elsewhere p o h = with_none o
        ∙ ap (λ (b : Bool). option_map (λ ts. ts ++ (if b then x ∷ [] else [])) o)
        (sym (not_same p q h (is_same_place p q) refl))

    -- where no list is held, nothing is added
    pub not_held : (new : BTreeMap Place (Vec T Global)) → get place_cmp old q ≡ None
        → ((r : Place) → get place_cmp new r ≡ cond (is_eq (place_cmp q r)) None (get place_cmp old r))
        → (p : Place) → list_at new p ≡ option_map (λ ts. ts ++ alone_at p q x) (list_at old p)
    not_held new none step p = ap (option_map (λ (v : Vec T Global). v.items)) (step p) ∙ by (is_eq (place_cmp q p)) refl
      where
        by : (b : Bool) → is_eq (place_cmp q p) ≡ b
            → option_map (λ (v : Vec T Global). v.items) (cond b None (get place_cmp old p))
            ≡ option_map (λ ts. ts ++ alone_at p q x) (list_at old p)
        by true h = sym (ap (λ (o : Option (Vec T Global)). option_map (λ ts. ts ++ alone_at p q x)
            (option_map (λ (v : Vec T Global). v.items) o))
            (subst (λ r. get place_cmp old r ≡ None) (place_same q p h) none))
        by false h = elsewhere p (list_at old p) h

    -- a list is taken out, and put in again with the node behind the others
    pub held_more : (mid new : BTreeMap Place (Vec T Global)) (before after : Vec T Global)
        → get place_cmp old q ≡ Some before → after.items ≡ before.items ++ x ∷ []
        → ((r : Place) → get place_cmp mid r ≡ cond (is_eq (place_cmp q r)) None (get place_cmp old r))
        → ((r : Place) → get place_cmp new r ≡ cond (is_eq (place_cmp q r)) (Some after) (get place_cmp mid r))
        → (p : Place) → list_at new p ≡ option_map (λ ts. ts ++ alone_at p q x) (list_at old p)
    held_more mid new before after is pushed out step p =
        ap (option_map (λ (v : Vec T Global). v.items)) (step p) ∙ by (is_eq (place_cmp q p)) refl
      where
        by : (b : Bool) → is_eq (place_cmp q p) ≡ b
            → option_map (λ (v : Vec T Global). v.items) (cond b (Some after) (get place_cmp mid p))
            ≡ option_map (λ ts. ts ++ alone_at p q x) (list_at old p)
        by true h =
            let same : q ≡ p = place_same q p h in
            ap (λ (l : List T). Some l) pushed
            ∙ ap (λ (b : Bool). Some (before.items ++ (if b then x ∷ [] else [])))
            (sym (subst (λ r. is_same_place p r ≡ true) (sym same) (self_tested p)))
            ∙ ap (λ (o : Option (Vec T Global)). option_map (λ ts. ts ++ alone_at p q x)
            (option_map (λ (v : Vec T Global). v.items) o))
            (sym (subst (λ r. get place_cmp old r ≡ Some before) same is))
        by false h = ap (option_map (λ (v : Vec T Global). v.items))
            (out p ∙ ap (λ b. cond b None (get place_cmp old p)) h) ∙ elsewhere p (list_at old p) h

  -- ---- an empty list more

  -- one finding more has an empty list at its place
  one_empty : (findings : List Finding) (i : ℕ) (x : Finding) (old new : BTreeMap Place (Vec T Global))
      (v : Vec T Global) → i < length findings → x ≡ get_or findings i x → v.items ≡ []
      → ((r : Place) → get place_cmp new r ≡ cond (is_eq (place_cmp x.place r)) (Some v) (get place_cmp old r))
      → ((f : Finding) → Contains (take i findings) f → list_at old f.place ≡ Some [])
      → (f : Finding) → Contains (take (i + 1) findings) f → list_at new f.place ≡ Some []
  one_empty findings i x old new v lt e empty step before f listed =
      ap (option_map (λ (w : Vec T Global). w.items)) (step f.place) ∙ by (is_eq (place_cmp x.place f.place)) refl
    where
      last : Contains (take i findings ++ x ∷ []) f
      last = subst (λ (l : List Finding). Contains l f)
          (take_more findings i x lt ∙ ap (λ (y : Finding). take i findings ++ y ∷ []) (sym e)) listed

      by : (b : Bool) → is_eq (place_cmp x.place f.place) ≡ b
          → option_map (λ (w : Vec T Global). w.items) (cond b (Some v) (get place_cmp old f.place)) ≡ Some []
      by true h = ap (λ (l : List T). Some l) empty
      by false h = elim (Contains-push_cases (take i findings) x f last) [
        | inl w ↦ before f w
        | inr same ↦ absurd (apart (is_eq (place_cmp x.place f.place))
            (subst (λ (y : Finding). is_eq (place_cmp x.place y.place) ≡ true) same (place_self x.place)) h)
      ]

  -- likewise, with the finding as the program reads it
  pub one_empty_at : (findings : List Finding) (i : ℕ) (d : Finding) (old new : BTreeMap Place (Vec T Global))
      (v : Vec T Global) → i < length findings → v.items ≡ []
      → ((r : Place) → get place_cmp new r
      ≡ cond (is_eq (place_cmp (get_or findings i d).place r)) (Some v) (get place_cmp old r))
      → ((f : Finding) → Contains (take i findings) f → list_at old f.place ≡ Some [])
      → (f : Finding) → Contains (take (i + 1) findings) f → list_at new f.place ≡ Some []
  one_empty_at findings i d old new v lt empty step before = one_empty findings i (get_or findings i d) old new v lt
      (get_or_default findings i d (get_or findings i d) lt) empty step before
