-- Facts of each element of a list, and the first detail that a rule gives for one of them.
use Rattle.std.proofs.Common.{◌≡◌, List, [], ◌∷◌, ◌++◌, Bool as Test, true, false, refl, sym, subst, inl, inr}
use Rattle.std.proofs.Common.{Contains}
use Rattle.std.proofs.lemmas.List.Elements.{All-contains_itself, All-contains, All-from_recursion, recursion_from_All}
use Rattle.std.proofs.lemmas.List.Elements.{Contains-append_left, Contains-append_right, Contains-push}
use Rattle.std.specs.List.{AllByRecursion}
use Rattle.std.specs.Option.{option_map}
use Rattle.std.specs.Prelude.{map, flat_map, filter, find, if◌then◌else◌, Option, Some, None, is_some}
use Rattle.pc_tree.proofs.Among.{none_among, first_among, later_among, among_first}
use Rattle.pc_types.specs.Tree.{Tree}
use Rattle.pc_detail_texts.specs.Details.{Detail}
use Rattle.pc_detail_rules.specs.Names.{first_of_all}
use Rattle.pc_detail_rules.specs.Overrides.{detail_or}

-- ---- each element

module _ {A : Type 0} (P : A → Type 0) where
  pub all_left : (xs ys : List A) → AllByRecursion P (xs ++ ys) → AllByRecursion P xs
  all_left [] ys h = tt
  all_left (x ∷ xs) ys h = (h.0, all_left xs ys h.1)

  pub all_right : (xs ys : List A) → AllByRecursion P (xs ++ ys) → AllByRecursion P ys
  all_right [] ys h = h
  all_right (x ∷ xs) ys h = all_right xs ys h.1

  pub all_unmapped : {B : Type 0} (f : B → A) (xs : List B) → AllByRecursion P (map f xs)
      → AllByRecursion (λ x. P (f x)) xs
  all_unmapped f [] h = tt
  all_unmapped f (x ∷ xs) h = (h.0, all_unmapped f xs h.1)

  -- a fact of each element of joined lists is one of each element of each list
  pub all_unjoined : {B : Type 0} (f : B → List A) (xs : List B) → AllByRecursion P (flat_map f xs)
      → AllByRecursion (λ x. AllByRecursion P (f x)) xs
  all_unjoined f [] h = tt
  all_unjoined f (x ∷ xs) h = (all_left (f x) (flat_map f xs) h, all_unjoined f xs (all_right (f x) (flat_map f xs) h))

  pub all_pick : (xs : List A) (x : A) → AllByRecursion P xs → Contains xs x → P x
  all_pick xs x h c = All-contains P xs x (All-from_recursion P xs h) c

-- each element of a list is among its elements
pub all_among : {A : Type 0} (xs : List A) → AllByRecursion (Contains xs) xs
all_among xs = recursion_from_All (Contains xs) xs (All-contains_itself xs)

-- a weaker fact holds of each element too
pub all_weaker : {A : Type 0} (P Q : A → Type 0) → ((x : A) → P x → Q x) → (xs : List A) → AllByRecursion P xs
    → AllByRecursion Q xs
all_weaker P Q w [] h = tt
all_weaker P Q w (x ∷ xs) h = (w x h.0, all_weaker P Q w xs h.1)

-- ---- what is there

-- there is something
abbrev pub IsThere : {A : Type 0} → Option A → Type 0
IsThere o = is_some o ≡ true

pub none_there : {X : Type 0} → false ≡ true → X
none_there h = absurd (cc h)

-- what is there
pub record Found {A : Type 0} (o : Option A) : Type 0 where
  pub value : A
  pub is : o ≡ Some value

pub found : {A : Type 0} (o : Option A) → IsThere o → Found o
found None h = none_there h
found (Some x) h = record { value = x; is = refl }

pub there_mapped : {A B : Type 0} (f : A → B) (o : Option A) → IsThere o → IsThere (option_map f o)
there_mapped f None h = none_there h
there_mapped f (Some x) h = refl

pub there_first : (a b : Option (Detail Tree)) → IsThere a → IsThere (detail_or a b)
there_first None b h = none_there h
there_first (Some d) b h = refl

pub there_second : (a b : Option (Detail Tree)) → IsThere b → IsThere (detail_or a b)
there_second None b h = h
there_second (Some d) b h = refl

module _ {A : Type 0} (rule : A → Option (Detail Tree)) where
  -- a rule that gives a detail for one of these gives one for the first
  pub first_there : (xs : List A) (x : A) → Contains xs x → IsThere (rule x) → IsThere (first_of_all rule xs)
  first_there [] x c h = absurd (none_among x c)
  first_there (y ∷ ys) x c h = elim (among_first y ys x c) [
    | inl e ↦ there_first (rule y) (first_of_all rule ys) (subst (λ z. IsThere (rule z)) (sym e) h)
    | inr r ↦ there_second (rule y) (first_of_all rule ys) (first_there ys x r h)
  ]

  -- likewise among those that pass a test
  pub first_passing : (test : A → Test) (xs : List A) (x : A) → Contains xs x → test x ≡ true → IsThere (rule x)
      → IsThere (first_of_all rule (filter test xs))
  first_passing test [] x c t h = absurd (none_among x c)
  first_passing test (y ∷ ys) x c t h = elim (among_first y ys x c) [
    | inl e ↦ here (subst (λ z. test z ≡ true) (sym e) t) (subst (λ z. IsThere (rule z)) (sym e) h)
    | inr r ↦ behind (test y) (first_passing test ys x r t h)
  ]
    where
      here : test y ≡ true → IsThere (rule y) → IsThere (first_of_all rule (filter test (y ∷ ys)))
      here e k = subst (λ (b : Test). IsThere (first_of_all rule (if b then y ∷ filter test ys else filter test ys)))
          (sym e) (there_first (rule y) (first_of_all rule (filter test ys)) k)

      behind : (b : Test) → IsThere (first_of_all rule (filter test ys))
          → IsThere (first_of_all rule (if b then y ∷ filter test ys else filter test ys))
      behind true k = there_second (rule y) (first_of_all rule (filter test ys)) k
      behind false k = k

-- a detail of one of the first of these, or of the others, is one of all
left_step : (a b c : Option (Detail Tree)) → (IsThere b → IsThere c) → IsThere (detail_or a b) → IsThere (detail_or a c)
left_step None b c h k = h k
left_step (Some d) b c h k = refl

pub first_left : {A : Type 0} (rule : A → Option (Detail Tree)) (xs ys : List A) → IsThere (first_of_all rule xs)
    → IsThere (first_of_all rule (xs ++ ys))
first_left rule [] ys h = none_there h
first_left rule (x ∷ xs) ys h = left_step (rule x) (first_of_all rule xs) (first_of_all rule (xs ++ ys))
    (λ k. first_left rule xs ys k) h

pub first_right : {A : Type 0} (rule : A → Option (Detail Tree)) (xs ys : List A) → IsThere (first_of_all rule ys)
    → IsThere (first_of_all rule (xs ++ ys))
first_right rule [] ys h = h
first_right rule (x ∷ xs) ys h = there_second (rule x) (first_of_all rule (xs ++ ys)) (first_right rule xs ys h)

-- ---- elements

pub among_mapped : {A B : Type 0} (f : A → B) (xs : List A) (x : A) → Contains xs x → Contains (map f xs) (f x)
among_mapped f [] x c = absurd (none_among x c)
among_mapped f (y ∷ ys) x c = elim (among_first y ys x c) [
  | inl e ↦ subst (λ z. Contains (map f (y ∷ ys)) (f z)) e (first_among (f y) (map f ys))
  | inr r ↦ later_among (f y) (map f ys) (f x) (among_mapped f ys x r)
]

pub among_joined : {A B : Type 0} (f : A → List B) (xs : List A) (x : A) (y : B) → Contains xs x → Contains (f x) y
    → Contains (flat_map f xs) y
among_joined f [] x y c h = absurd (none_among x c)
among_joined f (z ∷ zs) x y c h = elim (among_first z zs x c) [
  | inl e ↦ Contains-append_left (f z) (flat_map f zs) y (subst (λ w. Contains (f w) y) (sym e) h)
  | inr r ↦ Contains-append_right (f z) (flat_map f zs) y (among_joined f zs x y r h)
]

-- the first element that passes a test, where one does
pub find_there : {A : Type 0} (test : A → Test) (xs : List A) (x : A) → Contains xs x → test x ≡ true
    → IsThere (find test xs)
find_there test [] x c t = absurd (none_among x c)
find_there test (y ∷ ys) x c t = elim (among_first y ys x c) [
  | inl e ↦ here (subst (λ z. test z ≡ true) (sym e) t)
  | inr r ↦ behind (test y) (find_there test ys x r t)
]
  where
    here : test y ≡ true → IsThere (find test (y ∷ ys))
    here e = subst (λ (b : Test). IsThere (if b then Some y else find test ys)) (sym e) refl

    behind : (b : Test) → IsThere (find test ys) → IsThere (if b then Some y else find test ys)
    behind true h = refl
    behind false h = h

pub find_left : {A : Type 0} (test : A → Test) (xs ys : List A) → IsThere (find test xs) → IsThere (find test (xs ++ ys))
find_left test [] ys h = none_there h
find_left test (x ∷ xs) ys h = go (test x) (λ k. find_left test xs ys k) h
  where
    go : (b : Test) → (IsThere (find test xs) → IsThere (find test (xs ++ ys)))
        → IsThere (if b then Some x else find test xs) → IsThere (if b then Some x else find test (xs ++ ys))
    go true next k = refl
    go false next k = next k

pub find_right : {A : Type 0} (test : A → Test) (xs : List A) (y : A) → test y ≡ true → IsThere (find test (xs ++ y ∷ []))
find_right test xs y t = find_there test (xs ++ y ∷ []) y (Contains-push xs y) t
