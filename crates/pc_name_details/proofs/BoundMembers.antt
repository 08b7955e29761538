-- The members that a class binds: of those of one name the first, if it may.
use Rattle.std.proofs.Common.{◌≡◌, ◌∙◌, ◌||◌, ◌&&◌, ◌++◌, ◌∷◌, [], ℕ, List, Bool, true, false, not, Option, Some, None}
use Rattle.std.proofs.Common.{ap, cond, map, refl, sym}
use Rattle.std.proofs.lemmas.Bool.{false≢true}
use Rattle.std.proofs.lemmas.List.{append-nil, reverse-append}
use Rattle.std.proofs.lemmas.List.Elements.{filter-append}
use Rattle.std.proofs.lemmas.List.Folds.{find-append}
use Rattle.std.proofs.lemmas.Slice.Eq.{bytes_eq-Decides}
use Rattle.std.specs.Option.{option_and_then, option_map, option_or, option_to_list}
use Rattle.std.specs.Prelude.{bytes_eq, codes, filter, find, if◌then◌else◌, is_some, reverse, slice_get}
use Rattle.pc_tree.specs.Stopping.{is_field, is_reserved_member, name_of_member}
use Rattle.pc_tree.specs.Tree.{ClassDef, Member, Module, Name, field_member, method_member}
use Rattle.pc_scope.specs.Bindings.{classes_in}
use Rattle.pc_scope.specs.Reserved.{is_builtin_name}
use Rattle.pc_scope.specs.Resolution.{is_one_of}
use Rattle.pc_class.specs.Entries.{Inherited, MemberEntry, class_entries, entries_of_members, entry_of_member}
use Rattle.pc_class.specs.Entries.{inherited_by}
use Rattle.pc_class.specs.Entries.{member_binds, number_after}
use Rattle.pc_class.specs.Facts.{empty_class}
use Rattle.pc_class.specs.Findings.{base_class}
use Rattle.pc_class.proofs.ReservedNames.{reserved_same}
use Rattle.pc_detail_rules.specs.Names.{OwnedMember, clashes_with, members_bound, members_of_number}
use Rattle.pc_name_details.specs.Naming.{bound_named, first_binding, has_word, is_taken_by, member_bound}

-- ---- one member

and_false : (a : Bool) → (a && false) ≡ false
and_false true = refl
and_false false = refl

-- a member of a new name binds it as the first member of its class does
pub binds_new : (h : Inherited) (before : List (List ℕ)) (x : Member) → is_one_of (name_of_member x).text before ≡ false
    → member_binds h before x ≡ member_binds h [] x
binds_new h before (field_member f) e = ap (λ (t : Bool). not (is_builtin_name f.name.text
    || bytes_eq f.name.text (codes "mro")) && (not t && not (h.has_field f.name.text || h.has_method f.name.text))) e
binds_new h before (method_member f) e =
    ap (λ (t : Bool). not (is_builtin_name f.name.text) && (not t && not (h.has_field f.name.text))) e

-- a member of a name that is there does not bind it
pub binds_old : (h : Inherited) (before : List (List ℕ)) (x : Member) → is_one_of (name_of_member x).text before ≡ true
    → member_binds h before x ≡ false
binds_old h before (field_member f) e = ap (λ (t : Bool). not (is_builtin_name f.name.text
    || bytes_eq f.name.text (codes "mro")) && (not t && not (h.has_field f.name.text || h.has_method f.name.text))) e
    ∙ and_false (not (is_builtin_name f.name.text || bytes_eq f.name.text (codes "mro")))
binds_old h before (method_member f) e =
    ap (λ (t : Bool). not (is_builtin_name f.name.text) && (not t && not (h.has_field f.name.text))) e
    ∙ and_false (not (is_builtin_name f.name.text))

-- the first member of a class of its name binds it, unless the name is reserved or taken above
pub binds_first : (h : Inherited) (x : Member)
    → member_binds h [] x ≡ (not (is_reserved_member x) && not (is_taken_by h x))
binds_first h (field_member f) = ap (λ (r : Bool). not (r || bytes_eq f.name.text (codes "mro"))
    && not (h.has_field f.name.text || h.has_method f.name.text)) (sym (reserved_same f.name.text))
binds_first h (method_member f) =
    ap (λ (r : Bool). not r && not (h.has_field f.name.text)) (sym (reserved_same f.name.text))

-- a class without a base has no names taken
pub none_taken : (x : Member) → is_taken_by (inherited_by empty_class) x ≡ false
none_taken (field_member f) = refl
none_taken (method_member f) = refl

-- a member binds its name if that is new, and the first member of its class would
pub binds_if_new : (h : Inherited) (before : List (List ℕ)) (x : Member) (fresh : Bool)
    → not (is_one_of (name_of_member x).text before) ≡ fresh
    → (fresh && member_binds h [] x) ≡ member_binds h before x
binds_if_new h before x fresh e = by (is_one_of (name_of_member x).text before) refl fresh e
  where
    by : (t : Bool) → is_one_of (name_of_member x).text before ≡ t → (s : Bool)
        → not (is_one_of (name_of_member x).text before) ≡ s → (s && member_binds h [] x) ≡ member_binds h before x
    by true g true q = absurd (false≢true (sym (ap not g) ∙ q))
    by true g false q = sym (binds_old h before x g)
    by false g true q = sym (binds_new h before x g)
    by false g false q = absurd (false≢true (sym q ∙ ap not g))

-- ---- the members of one name

module _ (class : ClassDef) where
  -- a member with the class
  abbrev pub own : Member → OwnedMember
  own x = record { class = class.name.text; member = x }

  -- the members that entries bind
  abbrev pub bound_of : List MemberEntry → List OwnedMember
  bound_of es = map (λ (e : MemberEntry). own e.member) (filter (λ (e : MemberEntry). e.binds) es)

module _ (h : Inherited) (class : ClassDef) (word : List ℕ) where
  -- a member has the name
  abbrev named : OwnedMember → Bool
  named o = bytes_eq word (name_of_member o.member).text

  -- a member, if it binds its name as the first of its class
  abbrev first_one : Member → Option OwnedMember
  first_one x = if member_binds h [] x then Some (own class x) else None

  -- none if the name is there, else the first member that is found
  abbrev left : Bool → Option Member → List OwnedMember
  left true o = []
  left false o = option_to_list (option_and_then first_one o)

  alone : (before : List (List ℕ)) (number : ℕ) (xs : List Member)
      → filter named (bound_of class (entries_of_members h before number xs))
      ≡ left (is_one_of word before) (find (has_word word) xs)
  alone before number [] = by (is_one_of word before)
    where
      by : (t : Bool) → [] ≡ left t None
      by true = refl
      by false = refl
  alone before number (x ∷ xs) =
      by (bytes_eq word (name_of_member x).text) refl (is_one_of word before) refl (member_binds h before x) refl
      (alone ((name_of_member x).text ∷ before) (number_after number x) xs)
    where
      by : (s : Bool) → bytes_eq word (name_of_member x).text ≡ s → (t : Bool) → is_one_of word before ≡ t
          → (u : Bool) → member_binds h before x ≡ u
          → filter named (bound_of class (entries_of_members h ((name_of_member x).text ∷ before) (number_after number x) xs))
          ≡ left (bytes_eq word (name_of_member x).text || is_one_of word before) (find (has_word word) xs)
          → filter named (bound_of class (entries_of_members h before number (x ∷ xs)))
          ≡ left (is_one_of word before) (cond (bytes_eq word (name_of_member x).text) (Some x) (find (has_word word) xs))
      by true e true g true q rest = absurd (false≢true (sym (binds_old h before x (ap (λ (w : List ℕ). is_one_of w before)
          (sym ((bytes_eq-Decides word (name_of_member x).text).0 e)) ∙ g)) ∙ q))
      by true e true g false q rest = rw (q, e, g) (rw e at rest)
      by true e false g true q rest =
          let first : member_binds h [] x ≡ true = sym (binds_new h before x (ap (λ (w : List ℕ). is_one_of w before)
          (sym ((bytes_eq-Decides word (name_of_member x).text).0 e)) ∙ g)) ∙ q in
          rw (q, e, g, first) (ap (λ (l : List OwnedMember). own class x ∷ l) (rw e at rest))
      by true e false g false q rest =
          let first : member_binds h [] x ≡ false = sym (binds_new h before x (ap (λ (w : List ℕ). is_one_of w before)
          (sym ((bytes_eq-Decides word (name_of_member x).text).0 e)) ∙ g)) ∙ q in
          rw (q, e, g, first) (rw e at rest)
      by false e t g true q rest = rw (q, e) (rw e at rest)
      by false e t g false q rest = rw (q, e) (rw e at rest)

  -- of the members of one name that a class binds there is at most one: the first of that name in the class
  pub one_bound : filter named (bound_of class (class_entries h class))
      ≡ option_to_list (option_and_then first_one (find (has_word word) class.members))
  one_bound = alone [] 0 class.members

-- ---- from the last to the first

reverse_next : {A : Type 0} (x : A) (xs : List A) → reverse (x ∷ xs) ≡ reverse xs ++ x ∷ []
reverse_next x xs = reverse-append (x ∷ []) xs

reverse_filter : {A : Type 0} (p : A → Bool) (xs : List A) → filter p (reverse xs) ≡ reverse (filter p xs)
reverse_filter p [] = refl
reverse_filter p (x ∷ xs) = ap (filter p) (reverse_next x xs) ∙ filter-append p (reverse xs) (x ∷ [])
    ∙ ap (λ l. l ++ cond (p x) (x ∷ []) []) (reverse_filter p xs) ∙ by (p x)
  where
    by : (b : Bool) → reverse (filter p xs) ++ cond b (x ∷ []) [] ≡ reverse (cond b (x ∷ filter p xs) (filter p xs))
    by true = sym (reverse_next x (filter p xs))
    by false = append-nil (reverse (filter p xs))

reverse_one : {A : Type 0} (o : Option A) → reverse (option_to_list o) ≡ option_to_list o
reverse_one None = refl
reverse_one (Some x) = refl

find_both : {A : Type 0} (p q : A → Bool) (xs : List A) → find (λ x. p x && q x) xs ≡ find q (filter p xs)
find_both p q [] = refl
find_both p q (x ∷ xs) = by (p x) (find_both p q xs)
  where
    by : (b : Bool) → find (λ y. p y && q y) xs ≡ find q (filter p xs)
        → cond (b && q x) (Some x) (find (λ y. p y && q y) xs) ≡ find q (cond b (x ∷ filter p xs) (filter p xs))
    by true e = ap (λ o. cond (q x) (Some x) o) e
    by false e = e

-- whether one of two members is a field
abbrev pub either_field : Member → OwnedMember → Bool
either_field x o = is_field x || is_field o.member

-- the member that is bound of this name, if it clashes
clash_bound : (m : Module) (c : ℕ) (x : Member) (o : Option ClassDef)
    → find (clashes_with x) (reverse (members_of_number m c o))
    ≡ find (either_field x) (option_to_list (bound_named m c (name_of_member x).text o))
clash_bound m c x None = refl
clash_bound m c x (Some class) =
    let word = (name_of_member x).text in
    let h = inherited_by (base_class m c class) in
    find_both (λ (o : OwnedMember). bytes_eq word (name_of_member o.member).text) (either_field x)
    (reverse (members_bound m c class))
    ∙ ap (find (either_field x)) (reverse_filter (λ (o : OwnedMember). bytes_eq word (name_of_member o.member).text)
    (members_bound m c class) ∙ ap reverse (one_bound h class word)
    ∙ reverse_one (option_and_then (first_binding m c class) (find (has_word word) class.members)))

-- the last member of a class that clashes with one of a class below is the one of its name, if one of both is a field
pub clash_is : (m : Module) (c : ℕ) (x : Member) → find (clashes_with x)
    (reverse (members_of_number m c (slice_get (classes_in m.items) c)))
    ≡ find (either_field x) (option_to_list (member_bound m c (name_of_member x).text))
clash_is m c x = clash_bound m c x (slice_get (classes_in m.items) c)

-- a member of the name clashes if one of both is a field
pub one_clash : (x : Member) (o : OwnedMember) (b : Bool) → (is_field x || is_field o.member) ≡ b
    → (if b then Some o else None) ≡ find (either_field x) (o ∷ [])
one_clash x o b e = ap (λ (t : Bool). cond t (Some o) None) (sym e)

-- the nearest member that clashes, one class up
pub clash_up : (x : Member) (far near : List OwnedMember) → find (clashes_with x) (reverse (far ++ near))
    ≡ option_or (find (clashes_with x) (reverse near)) (find (clashes_with x) (reverse far))
clash_up x far near = ap (find (clashes_with x)) (reverse-append far near)
    ∙ find-append (clashes_with x) (reverse near) (reverse far)

-- ---- the members of a class, one after another

-- the names before a member, the nearest first
abbrev pub names_onto : List (List ℕ) → List Member → List (List ℕ)
names_onto before [] = before
names_onto before (x ∷ xs) = names_onto ((name_of_member x).text ∷ before) xs

-- the number of methods, after these members
abbrev pub number_behind : ℕ → List Member → ℕ
number_behind n [] = n
number_behind n (x ∷ xs) = number_behind (number_after n x) xs

-- the entries of one member more
pub entries_more : (h : Inherited) (before : List (List ℕ)) (n : ℕ) (xs : List Member) (x : Member)
    → entries_of_members h before n (xs ++ x ∷ [])
    ≡ entries_of_members h before n xs ++ entry_of_member h (names_onto before xs) (number_behind n xs) x ∷ []
entries_more h before n [] x = refl
entries_more h before n (y ∷ ys) x = ap (λ (es : List MemberEntry). entry_of_member h before n y ∷ es)
    (entries_more h ((name_of_member y).text ∷ before) (number_after n y) ys x)

-- a name is before a member if a member of that name is
pub is_before : (w : List ℕ) (before : List (List ℕ)) (xs : List Member) → is_one_of w (names_onto before xs)
    ≡ (is_one_of w before || is_some (find (λ (n : Name). bytes_eq w n.text) (map name_of_member xs)))
is_before w before [] = by (is_one_of w before)
  where
    by : (b : Bool) → b ≡ (b || false)
    by true = refl
    by false = refl
is_before w before (x ∷ xs) = is_before w ((name_of_member x).text ∷ before) xs
    ∙ by (bytes_eq w (name_of_member x).text) (is_one_of w before)
  where
    by : (s t : Bool) → ((s || t) || is_some (find (λ (n : Name). bytes_eq w n.text) (map name_of_member xs)))
        ≡ (t || is_some (cond s (Some (name_of_member x)) (find (λ (n : Name). bytes_eq w n.text) (map name_of_member xs))))
    by true true = refl
    by true false = refl
    by false t = refl

-- ---- the nearest of two

module _ {A B : Type 0} (shown : A → B) (near far : Option B) (made : Option A) where
  -- a member that is found near is the nearest
  pub found_first : is_some made ≡ true → option_map shown made ≡ near → option_map shown made ≡ option_or near far
  found_first has e = by made has e
    where
      by : (o : Option A) → is_some o ≡ true → option_map shown o ≡ near → option_map shown o ≡ option_or near far
      by None h f = absurd (false≢true h)
      by (Some x) h f = ap (λ (n : Option B). option_or n far) f

  -- where none is near, it is one farther
  pub none_first : is_some made ≡ false → option_map shown made ≡ near → far ≡ option_or near far
  none_first lacks e = by made lacks e
    where
      by : (o : Option A) → is_some o ≡ false → option_map shown o ≡ near → far ≡ option_or near far
      by None h f = ap (λ (n : Option B). option_or n far) f
      by (Some x) h f = absurd (false≢true (sym h))
