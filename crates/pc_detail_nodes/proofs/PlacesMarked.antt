-- The places of callees, and the first function at each place of a name, in maps.
use Rattle.std.proofs.Common.{◌≡◌, ◌∙◌, ◌<◌, ◌+◌, ◌++◌, ◌∷◌, [], ℕ, List, Bool, true, false, cond, Option, Some, None, refl, sym, ap, subst}
use Rattle.std.proofs.Common.{map, take, length, get_or}
use Rattle.std.proofs.lemmas.List.Folds.{find-append, list_any-append}
use Rattle.std.specs.Prelude.{◌||◌, find, is_some, if◌then◌else◌}
use Rattle.std.specs.BTreeMap.{BTreeMap, get}
use Rattle.std.specs.List.{list_any}
use Rattle.std.specs.Option.{option_map, option_or}
use Rattle.std.specs.Ordering.{is_eq}
use Rattle.pc_source.specs.declared.place.Place.{Place}
use Rattle.pc_scope.specs.Bindings.{Body}
use Rattle.pc_notes.specs.Notes.{is_same_place}
use Rattle.pc_notes.specs.Texts.{place_cmp}
use Rattle.pc_notes.proofs.FirstFlows.{not_same, place_same, self_tested, some_mapped}
use Rattle.pc_detail_facts.specs.declared.definitions.Body.{Body as RustBody}
use Rattle.pc_detail_facts.specs.Held.{body_of}
use Rattle.pc_detail_nodes.specs.NodesHeld.{body_among, body_at}
use Rattle.pc_detail_nodes.proofs.WalkedLists.{shown_more}

-- a place is another one by their order exactly if it is by the test
pub same_tests : (p q : Place) (b : Bool) → is_eq (place_cmp q p) ≡ b → b ≡ is_same_place p q
same_tests p q true h = sym (subst (λ r. is_same_place p r ≡ true) (sym (place_same q p h)) (self_tested p))
same_tests p q false h = sym (not_same p q h (is_same_place p q) refl)

-- ---- callees

or_false : (b : Bool) → b ≡ (b || false)
or_false true = refl
or_false false = refl

some_or : {A : Type 0} (a : A) (b : Bool) (o : Option A) → is_some (cond b (Some a) o) ≡ (is_some o || b)
some_or a true None = refl
some_or a true (Some x) = refl
some_or a false None = refl
some_or a false (Some x) = refl

-- one place more is marked
pub marked : {A : Type 0} (a : A) (q : Place) (old new : BTreeMap Place A)
    → ((r : Place) → get place_cmp new r ≡ cond (is_eq (place_cmp q r)) (Some a) (get place_cmp old r))
    → (p : Place) → is_some (get place_cmp new p) ≡ (is_some (get place_cmp old p) || is_same_place p q)
marked a q old new step p = ap is_some (step p) ∙ some_or a (is_eq (place_cmp q p)) (get place_cmp old p)
    ∙ ap (λ (b : Bool). is_some (get place_cmp old p) || b) (same_tests p q (is_eq (place_cmp q p)) refl)

-- what a test finds among borrowed items, one item more
pub any_more : {R X : Type 0} (shown : R → X) (test : X → Bool) (xs : List R) (i : ℕ) (x : R) → i < length xs
    → x ≡ get_or xs i x
    → list_any test (map shown (take (i + 1) xs)) ≡ (list_any test (map shown (take i xs)) || test (shown x))
any_more shown test xs i x lt e = ap (list_any test) (shown_more shown xs i x lt e)
    ∙ list_any-append test (map shown (take i xs)) (shown x ∷ [])
    ∙ ap (λ (b : Bool). list_any test (map shown (take i xs)) || b) (sym (or_false (test (shown x))))

-- ---- functions

first_kept : {A : Type 0} (o x : Option A) → is_some o ≡ true → o ≡ option_or o x
first_kept None x h = cc
first_kept (Some a) x h = refl

first_missing : {A : Type 0} (o x : Option A) → is_some o ≡ false → option_or o x ≡ x
first_missing None x h = refl
first_missing (Some a) x h = cc

none_after : {A : Type 0} (o : Option A) → o ≡ option_or o None
none_after None = refl
none_after (Some a) = refl

module _ (b : RustBody) (q : Place) (named : q ≡ (body_of b).function.name.place) (old : BTreeMap Place RustBody) where
  -- a body is at the place of its name, and at no other
  at_test : (p : Place) → body_at p (body_of b) ≡ (if is_same_place p q then Some (body_of b) else None)
  at_test p = ap (λ (r : Place). if is_same_place p r then Some (body_of b) else None) (sym named)

  here_or : (p : Place) (t : Bool) → is_eq (place_cmp q p) ≡ t
      → body_at p (body_of b) ≡ (if t then Some (body_of b) else None)
  here_or p t h = at_test p
      ∙ ap (λ (s : Bool). if s then Some (body_of b) else None) (sym (same_tests p q t h))

  -- at a place that has a function a later one is left out
  pub body_left : is_some (get place_cmp old q) ≡ true → (p : Place)
      → option_map body_of (get place_cmp old p)
      ≡ option_or (option_map body_of (get place_cmp old p)) (body_at p (body_of b))
  body_left known p = by (is_eq (place_cmp q p)) refl
    where
      by : (t : Bool) → is_eq (place_cmp q p) ≡ t → option_map body_of (get place_cmp old p)
          ≡ option_or (option_map body_of (get place_cmp old p)) (body_at p (body_of b))
      by true h = first_kept (option_map body_of (get place_cmp old p)) (body_at p (body_of b))
          (some_mapped body_of (get place_cmp old p)
          ∙ subst (λ r. is_some (get place_cmp old r) ≡ true) (place_same q p h) known)
      by false h = none_after (option_map body_of (get place_cmp old p))
          ∙ ap (option_or (option_map body_of (get place_cmp old p))) (sym (here_or p false h))

  -- at a place without a function one is put in
  pub body_added : (new : BTreeMap Place RustBody) → is_some (get place_cmp old q) ≡ false
      → ((r : Place) → get place_cmp new r ≡ cond (is_eq (place_cmp q r)) (Some b) (get place_cmp old r))
      → (p : Place) → option_map body_of (get place_cmp new p)
      ≡ option_or (option_map body_of (get place_cmp old p)) (body_at p (body_of b))
  body_added new fresh step p = ap (option_map body_of) (step p) ∙ by (is_eq (place_cmp q p)) refl
    where
      by : (t : Bool) → is_eq (place_cmp q p) ≡ t → option_map body_of (cond t (Some b) (get place_cmp old p))
          ≡ option_or (option_map body_of (get place_cmp old p)) (body_at p (body_of b))
      by true h = sym (first_missing (option_map body_of (get place_cmp old p)) (body_at p (body_of b))
          (some_mapped body_of (get place_cmp old p)
          ∙ subst (λ r. is_some (get place_cmp old r) ≡ false) (place_same q p h) fresh) ∙ here_or p true h)
      by false h = none_after (option_map body_of (get place_cmp old p))
          ∙ ap (option_or (option_map body_of (get place_cmp old p))) (sym (here_or p false h))

cond_if : (t : Bool) (b : Body) → find (λ (x : Body). t) (b ∷ []) ≡ (if t then Some b else None)
cond_if true b = refl
cond_if false b = refl

-- the first of some functions at a place, one function more
pub among_more : (p : Place) (bs : List RustBody) (i : ℕ) (b : RustBody) → i < length bs → b ≡ get_or bs i b
    → body_among p (map body_of (take (i + 1) bs))
    ≡ option_or (body_among p (map body_of (take i bs))) (body_at p (body_of b))
among_more p bs i b lt e = ap (body_among p) (shown_more body_of bs i b lt e)
    ∙ find-append (λ (x : Body). is_same_place p x.function.name.place) (map body_of (take i bs)) (body_of b ∷ [])
    ∙ ap (option_or (body_among p (map body_of (take i bs))))
    (cond_if (is_same_place p (body_of b).function.name.place) (body_of b))
