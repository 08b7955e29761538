-- Each finding of a member of a class has a detail: E06 and E08. What a class inherits is a member of a class above it.
use Rattle.std.proofs.Common.{◌≡◌, ◌+◌, ◌<◌, ℕ, zero, suc, List, [], ◌∷◌, ◌++◌, Bool as Test, true, false, refl, sym}
use Rattle.std.proofs.Common.{ap, ◌∙◌, subst, inl, inr, arith, map, append_assoc, Contains}
use Rattle.std.proofs.lemmas.Bool.Decides.{nat_tests}
use Rattle.std.proofs.lemmas.Grind.{flat_map-append}
use Rattle.std.proofs.lemmas.List.{map-append, reverse-append}
use Rattle.std.proofs.lemmas.List.Elements.{Contains-append_left, Contains-append_right}
use Rattle.std.proofs.lemmas.Option.{none-some, same_Some}
use Rattle.std.proofs.lemmas.Slice.Eq.{bytes_eq-Decides}
use Rattle.std.specs.List.{list_any}
use Rattle.std.specs.Prelude.{◌⊎◌, ◌&&◌, ◌||◌, ◌==◌, not, if◌then◌else◌, flat_map, filter, find, reverse, is_some, bytes_eq}
use Rattle.std.specs.Prelude.{slice_get, Option, Some, None}
use Rattle.pc_source.specs.declared.place.Place.{Place}
use Rattle.pc_tree.proofs.Among.{none_among, first_among, later_among, among_first, either, in_code}
use Rattle.pc_tree.specs.declared.code.Code.{Code}
use Rattle.pc_tree.specs.declared.code.Code.TheVariants.{E08}
use Rattle.pc_tree.specs.declared.code.Finding.{Finding}
use Rattle.pc_tree.specs.Stopping.{one_if, name_of_member, is_field}
use Rattle.pc_tree.specs.Tree.{Field, FuncDef, Member, field_member, method_member, ClassDef, Module}
use Rattle.pc_scope.specs.Bindings.{classes_in}
use Rattle.pc_scope.specs.Resolution.{is_one_of}
use Rattle.pc_types.specs.Tree.{Class}
use Rattle.pc_types.specs.Below.{Bases}
use Rattle.pc_types.specs.Join.{reaches, absorbs}
use Rattle.pc_types.proofs.Ancestors.{reaches_base, reaches_down}
use Rattle.pc_annotations.specs.Bases.{base_named, bases_of}
use Rattle.pc_annotations.proofs.Earlier.{smaller}
use Rattle.pc_class.specs.ClassFindingsLaw.{clashes_from}
use Rattle.pc_class.specs.Entries.{MemberEntry, inherited_by, member_clashes, number_after, entries_of_members}
use Rattle.pc_class.specs.Entries.{class_entries, parameter_made, field_made, methods_made, clash_places, member_default}
use Rattle.pc_class.specs.Entries.{entry_default, defaulted_after, is_late, late_places}
use Rattle.pc_class.specs.Facts.{TypedParameter, Method, ClassFacts, empty_class, class_in, class_facts_at, base_facts}
use Rattle.pc_class.specs.Facts.{classes_of, field_by_name, method_by_name}
use Rattle.pc_class.specs.Findings.{IsTwiceMember, IsFieldBehind, base_class}
use Rattle.pc_class.specs.Outlines.{own_field, own_method, all_own}
use Rattle.pc_class.proofs.ClassesBuilt.{class_over, class_is, no_class_past, base_known, below_class}
use Rattle.pc_class.proofs.FoundClashes.{clashes_stop}
use Rattle.pc_class.proofs.FoundLate.{late_found}
use Rattle.pc_class.proofs.OwnMembers.{fields_are, methods_are}
use Rattle.pc_notes.specs.Notes.{is_same_place}
use Rattle.pc_detail_rules.specs.Facts.{Known}
use Rattle.pc_detail_rules.specs.Names.{first_of_all, first_from, NumberedClass, OwnedMember, members_bound, above}
use Rattle.pc_detail_rules.specs.Names.{members_of_number, members_above, clashes_with, member_detail, owned_by, member_or}
use Rattle.pc_detail_rules.specs.Names.{has_name_of, clash_detail, numbered_from, numbered_classes, place_of_member}
use Rattle.pc_detail_rules.specs.Names.{clash_in_class, has_default, field_order_after, bound_member, place_of_entry}
use Rattle.pc_detail_rules.specs.Names.{entry_order, order_in_class}
use Rattle.pc_detail_rules.specs.Operations.{numbers_from}
use Rattle.pc_detail_rules.proofs.Explained.Lists.{IsThere, none_there, there_mapped, there_first, there_second, first_there}
use Rattle.pc_detail_rules.proofs.Explained.Lists.{among_mapped, among_joined, find_there, find_left}
use Rattle.pc_detail_rules.proofs.Explained.Stopping.{one_place, there_at}
use Rattle.pc_detail_rules.proofs.Explained.Told.{IsTold}

-- ---- lists and tests

some_or : (a b : Test) {X : Type 0} → (a || b) ≡ true → (a ≡ true → X) → (b ≡ true → X) → X
some_or true b e h k = h refl
some_or false b e h k = k e

both_hold : (a b : Test) → (a && b) ≡ true → a ≡ true
both_hold true b e = refl
both_hold false b e = e

kept : {A : Type 0} (test : A → Test) (xs : List A) (x : A) → Contains xs x → test x ≡ true → Contains (filter test xs) x
kept test [] x c e = absurd (none_among x c)
kept test (y ∷ ys) x c e = elim (among_first y ys x c) [
  | inl same ↦ here (subst (λ z. test z ≡ true) (sym same) e) same
  | inr r ↦ behind (test y) (kept test ys x r e)
]
  where
    here : test y ≡ true → y ≡ x → Contains (filter test (y ∷ ys)) x
    here i same = subst (λ (b : Test). Contains (if b then y ∷ filter test ys else filter test ys) x) (sym i)
        (subst (Contains (y ∷ filter test ys)) same (first_among y (filter test ys)))

    behind : (b : Test) → Contains (filter test ys) x
        → Contains (if b then y ∷ filter test ys else filter test ys) x
    behind true k = later_among y (filter test ys) x k
    behind false k = k

-- an element that passes a test
record Passing {A : Type 0} (test : A → Test) (xs : List A) : Type 0 where
  value : A
  among : Contains xs value
  passes : test value ≡ true

found_passing : {A : Type 0} (test : A → Test) (xs : List A) → IsThere (find test xs) → Passing test xs
found_passing test [] h = none_there h
found_passing test (x ∷ xs) h = go (test x) refl (λ k. found_passing test xs k) h
  where
    go : (b : Test) → test x ≡ b → (IsThere (find test xs) → Passing test xs)
        → IsThere (if b then Some x else find test xs) → Passing test (x ∷ xs)
    go true e next h = record { value = x; among = first_among x xs; passes = e }
    go false e next h = let r = next h in
        record { value = r.value; among = later_among x xs r.value r.among; passes = r.passes }

any_passing : {A : Type 0} (test : A → Test) (xs : List A) → list_any test xs ≡ true → Passing test xs
any_passing test [] h = none_there h
any_passing test (x ∷ xs) h = some_or (test x) (list_any test xs) h
    (λ e. record { value = x; among = first_among x xs; passes = e })
    (λ e. let r = any_passing test xs e in
    record { value = r.value; among = later_among x xs r.value r.among; passes = r.passes })

among_reversed : {A : Type 0} (xs : List A) (x : A) → Contains xs x → Contains (reverse xs) x
among_reversed [] x c = absurd (none_among x c)
among_reversed (y ∷ ys) x c = subst (λ zs. Contains zs x) (sym (reverse-append (y ∷ []) ys))
    (elim (among_first y ys x c) [
      | inl same ↦ Contains-append_right (reverse ys) (reverse (y ∷ [])) x
          (subst (Contains (reverse (y ∷ []))) same (first_among y []))
      | inr r ↦ Contains-append_left (reverse ys) (reverse (y ∷ [])) x (among_reversed ys x r)
    ])

-- numbers stand at their items
numbers_stand : {A : Type 0} (n : ℕ) (xs : List A) (i : ℕ) (x : A) → slice_get xs i ≡ Some x
    → Contains (numbers_from n xs) (n + i)
numbers_stand n [] i x e = absurd (none-some x e)
numbers_stand n (y ∷ ys) zero x e = let s : n ≡ n + 0 = omega arith in
    subst (Contains (n ∷ numbers_from (suc n) ys)) s (first_among n (numbers_from (suc n) ys))
numbers_stand n (y ∷ ys) (suc i) x e = let s : suc n + i ≡ n + suc i = omega arith in
    subst (Contains (n ∷ numbers_from (suc n) ys)) s
    (later_among n (numbers_from (suc n) ys) (suc n + i) (numbers_stand (suc n) ys i x e))

classes_stand : (n : ℕ) (cs : List ClassDef) (i : ℕ) (class : ClassDef) → slice_get cs i ≡ Some class
    → Contains (numbered_from n cs) (record { number = n + i; class = class })
classes_stand n [] i class e = absurd (none-some class e)
classes_stand n (d ∷ cs) zero class e =
    let s : n ≡ n + 0 = omega arith in
    subst (λ (x : NumberedClass). Contains (numbered_from n (d ∷ cs)) x)
    (λ j. record { number = s j; class = same_Some d class e j })
    (first_among (record { number = n; class = d }) (numbered_from (suc n) cs))
classes_stand n (d ∷ cs) (suc i) class e =
    let s : suc n + i ≡ n + suc i = omega arith in
    subst (λ (k : ℕ). Contains (numbered_from n (d ∷ cs)) (record { number = k; class = class })) s
    (later_among (record { number = n; class = d }) (numbered_from (suc n) cs)
    (record { number = suc n + i; class = class }) (classes_stand (suc n) cs i class e))

class_stands : (m : Module) (c : ℕ) (class : ClassDef) → slice_get (classes_in m.items) c ≡ Some class
    → Contains (numbered_classes m) (record { number = c; class = class })
class_stands m c class e = let s : 0 + c ≡ c = omega arith in
    subst (λ (k : ℕ). Contains (numbered_classes m) (record { number = k; class = class })) s
    (classes_stand 0 (classes_in m.items) c class e)

-- ---- what is inherited

same_number : (n : ℕ) → (n == n) ≡ true
same_number n = grind (arith, nat_tests)

other_number : (c d : ℕ) → d < c → (c == d) ≡ false
other_number c d l = grind (arith, nat_tests)

reaches_itself : (bases : Bases) (c : ℕ) → reaches bases c c c ≡ true
reaches_itself bases zero = same_number zero
reaches_itself bases (suc n) = holds_first (suc n == suc n) _ (same_number (suc n))
  where
    holds_first : (a b : Test) → a ≡ true → (a || b) ≡ true
    holds_first true b e = refl
    holds_first false b e = none_there e

-- a member of a class, among others, that gives this
record Held {X : Type 0} (R : OwnedMember → X → Type 0) (ms : List OwnedMember) (x : X) : Type 0 where
  o : OwnedMember
  among : Contains ms o
  is : R o x

-- the member of an entry
abbrev of_entry : ClassDef → MemberEntry → OwnedMember
of_entry class e = record { class = class.name.text; member = e.member }

module _ (m : Module) {X : Type 0} (facts : ClassFacts → List X) (own : ℕ → MemberEntry → List X)
    (R : OwnedMember → X → Type 0) (none : facts empty_class ≡ [])
    (split : (c : ℕ) (class : ClassDef) (x : X) → Contains (facts (class_over m c class (base_class m c class))) x
    → Contains (facts (base_class m c class)) x
    ⊎ Contains (all_own (own c) (class_entries (inherited_by (base_class m c class)) class)) x)
    (bound : (c : ℕ) (class : ClassDef) (e : MemberEntry) (x : X) → Contains (own c e) x
    → (e.binds ≡ true) × R (of_entry class e) x) where
  -- the member that a class binds
  own_held : (c : ℕ) (class : ClassDef) (es : List MemberEntry) (x : X) → Contains (all_own (own c) es) x
      → Held R (map (of_entry class) (filter (λ (e : MemberEntry). e.binds) es)) x
  own_held c class [] x h = absurd (none_among x h)
  own_held c class (e ∷ es) x h = either (own c e) (all_own (own c) es) x h
      (λ k. let b = bound c class e x k in record {
        o = of_entry class e;
        among = among_mapped (of_entry class) (filter (λ (y : MemberEntry). y.binds) (e ∷ es)) e
            (kept (λ (y : MemberEntry). y.binds) (e ∷ es) e (first_among e es) b.0);
        is = b.1;
      })
      (λ k. let r = own_held c class es x k in later e.binds r)
    where
      later : (b : Test) → Held R (map (of_entry class) (filter (λ (y : MemberEntry). y.binds) es)) x
          → Held R (map (of_entry class) (if b then e ∷ filter (λ (y : MemberEntry). y.binds) es
          else filter (λ (y : MemberEntry). y.binds) es)) x
      later true r = record {
        o = r.o;
        among = later_among (of_entry class e) (map (of_entry class) (filter (λ (y : MemberEntry). y.binds) es)) r.o r.among;
        is = r.is;
      }
      later false r = r

  -- a class itself or one above it binds a member that gives this
  record From (b : ℕ) (x : X) : Type 0 where
    at : ℕ
    class : ClassDef
    is : slice_get (classes_in m.items) at ≡ Some class
    reached : reaches (bases_of m) b b at ≡ true
    held : Held R (members_bound m at class) x

  empty_has : (x : X) {Y : Type 0} → Contains (facts empty_class) x → Y
  empty_has x c = absurd (none_among x (subst (λ (xs : List X). Contains xs x) none c))

  from_class : (n b : ℕ) → b < n → (class : ClassDef) → slice_get (classes_in m.items) b ≡ Some class → (x : X)
      → Contains (facts (class_facts_at (classes_of m) b)) x → From b x
  from_class zero b l class is x c = absurd (omega arith)
  from_class (suc n) b l class is x c =
      elim (split b class x (subst (λ (k : ClassFacts). Contains (facts k) x) (class_is m b class is) c)) [
        | inl inherited ↦ by_base (base_named m b class.base) refl inherited (λ p k l e x c. from_class n p l k e x c)
        | inr mine ↦ record {
          at = b;
          class = class;
          is = is;
          reached = reaches_itself (bases_of m) b;
          held = own_held b class (class_entries (inherited_by (base_class m b class)) class) x mine;
        }
      ]
    where
      by_base : (o : Option ℕ) → base_named m b class.base ≡ o → Contains (facts (base_facts (classes_of m) o)) x
          → ((p : ℕ) (k : ClassDef) → p < n → slice_get (classes_in m.items) p ≡ Some k → (x : X)
          → Contains (facts (class_facts_at (classes_of m) p)) x → From p x) → From b x
      by_base None e c next = empty_has x c
      by_base (Some p) e c next = by_class (slice_get (classes_in m.items) p) refl
        where
          below : p < b
          below = below_class m b p class is e

          by_class : (o : Option ClassDef) → slice_get (classes_in m.items) p ≡ o → From b x
          by_class None i = empty_has x (subst (λ (k : ClassFacts). Contains (facts k) x)
              (ap class_in (no_class_past m p i)) c)
          by_class (Some k) i =
              let r = next p k (let s = below in omega arith) i x c in
              let down = reaches_down (bases_of m) (smaller m) r.at p p r.reached in
              record {
                at = r.at;
                class = r.class;
                is = r.is;
                reached = reaches_base (bases_of m) (smaller m) r.at b p (base_known m b p class is e)
                    (λ q. let s = below in omega (arith, q, down, s)) ∙ r.reached;
                held = r.held;
              }

  -- what a class inherits is given by a member of a class above it
  inherited_held : (c : ℕ) (class : ClassDef) → slice_get (classes_in m.items) c ≡ Some class → (x : X)
      → Contains (facts (base_class m c class)) x → Held R (members_above m c) x
  inherited_held c class is x h = by_base (base_named m c class.base) refl h
    where
      by_base : (o : Option ℕ) → base_named m c class.base ≡ o → Contains (facts (base_facts (classes_of m) o)) x
          → Held R (members_above m c) x
      by_base None e h = empty_has x h
      by_base (Some b) e h = by_class (slice_get (classes_in m.items) b) refl
        where
          below : b < c
          below = below_class m c b class is e

          by_class : (o : Option ClassDef) → slice_get (classes_in m.items) b ≡ o → Held R (members_above m c) x
          by_class None i = empty_has x (subst (λ (k : ClassFacts). Contains (facts k) x)
              (ap class_in (no_class_past m b i)) h)
          by_class (Some k) i =
              let up : b < suc b = omega arith in
              let r = from_class (suc b) b up k i x h in
              let down = reaches_down (bases_of m) (smaller m) r.at b b r.reached in
              let less : r.at < c = let s = below in omega (arith, s, down) in
              let reached : reaches (bases_of m) c c r.at ≡ true = reaches_base (bases_of m) (smaller m) r.at c b
              (base_known m c b class is e) (λ q. omega (arith, q, less)) ∙ r.reached in
              let absorbed : absorbs (bases_of m) (Class r.at) (Class c) ≡ true =
              (λ j. not (other_number c r.at less j) && reached j) in
              let stands : Contains (numbers_from 0 (classes_in m.items)) r.at =
              subst (Contains (numbers_from 0 (classes_in m.items))) (let s : 0 + r.at ≡ r.at = omega arith in s)
              (numbers_stand 0 (classes_in m.items) r.at r.class r.is) in
              let is_above : Contains (above m c) r.at =
              kept (λ (a : ℕ). absorbs (bases_of m) (Class a) (Class c)) (numbers_from 0 (classes_in m.items)) r.at stands
              absorbed in
              record {
                o = r.held.o;
                among = among_joined (λ (a : ℕ). members_of_number m a (slice_get (classes_in m.items) a)) (above m c) r.at
                    r.held.o is_above (subst (λ (o : Option ClassDef). Contains (members_of_number m r.at o) r.held.o)
                    (sym r.is) r.held.among);
                is = r.held.is;
              }

-- ---- fields and methods

-- a member is the field of a parameter
record IsField (m : Module) (o : OwnedMember) (p : TypedParameter) : Type 0 where
  field : Field
  is : o.member ≡ field_member field
  made : parameter_made m field ≡ p

-- a member is a method of this name
record IsMethod (o : OwnedMember) (x : Method) : Type 0 where
  function : FuncDef
  is : o.member ≡ method_member function
  named : function.name.text ≡ x.name

own_field_is : (m : Module) (class : ClassDef) (e : MemberEntry) (p : TypedParameter) → Contains (own_field m e) p
    → (e.binds ≡ true) × IsField m (of_entry class e) p
own_field_is m class e p h = go e.binds refl h
  where
    of_member : (x : Member) → Contains (field_made m x) p
        → IsField m (record { class = class.name.text; member = x }) p
    of_member (field_member f) c = elim (among_first (parameter_made m f) [] p c) [
      | inl same ↦ record { field = f; is = refl; made = same }
      | inr r ↦ absurd (none_among p r)
    ]
    of_member (method_member f) c = absurd (none_among p c)

    go : (b : Test) → e.binds ≡ b → Contains (if b then field_made m e.member else []) p
        → (e.binds ≡ true) × IsField m (of_entry class e) p
    go true i c = (i, of_member e.member c)
    go false i c = absurd (none_among p c)

own_method_is : (m : Module) (c : ℕ) (class : ClassDef) (e : MemberEntry) (x : Method) → Contains (own_method m c e) x
    → (e.binds ≡ true) × IsMethod (of_entry class e) x
own_method_is m c class e x h = go e.binds refl h
  where
    of_member : (y : Member) → Contains (methods_made m c e.number y) x
        → IsMethod (record { class = class.name.text; member = y }) x
    of_member (method_member f) k = elim (among_first _ [] x k) [
      | inl same ↦ record { function = f; is = refl; named = ap (λ (z : Method). z.name) same }
      | inr r ↦ absurd (none_among x r)
    ]
    of_member (field_member f) k = absurd (none_among x k)

    go : (b : Test) → e.binds ≡ b → Contains (if b then methods_made m c e.number e.member else []) x
        → (e.binds ≡ true) × IsMethod (of_entry class e) x
    go true i k = (i, of_member e.member k)
    go false i k = absurd (none_among x k)

module _ (m : Module) where
  field_held : (c : ℕ) (class : ClassDef) → slice_get (classes_in m.items) c ≡ Some class → (p : TypedParameter)
      → Contains (base_class m c class).fields p → Held (IsField m) (members_above m c) p
  field_held = inherited_held m (λ (k : ClassFacts). k.fields) (λ (c : ℕ). own_field m) (IsField m) refl
      (λ c class x h. either (base_class m c class).fields _ x h (λ k. inl k)
      (λ k. inr (subst (λ (ps : List TypedParameter). Contains ps x)
      (fields_are m (base_class m c class) [] 0 class.members) k)))
      (λ c class e x h. own_field_is m class e x h)

  method_held : (c : ℕ) (class : ClassDef) → slice_get (classes_in m.items) c ≡ Some class → (x : Method)
      → Contains (base_class m c class).methods x → Held IsMethod (members_above m c) x
  method_held = inherited_held m (λ (k : ClassFacts). k.methods) (λ (c : ℕ). own_method m c) IsMethod refl
      (λ c class x h. either _ (base_class m c class).methods x h
      (λ k. inr (subst (λ (ps : List Method). Contains ps x)
      (methods_are m (base_class m c class) c [] 0 class.members) k)) (λ k. inl k))
      (λ c class e x h. own_method_is m c class e x h)

-- ---- E08

module _ (m : Module) (p : Place) where
  abbrev defaulted : List OwnedMember → Option OwnedMember
  defaulted os = find (λ (o : OwnedMember). has_default o.member) os

  -- a field with a default that an entry binds
  entry_defaulted : (class : ClassDef) (e : MemberEntry) → entry_default e ≡ Some true
      → IsThere (defaulted (bound_member class e))
  entry_defaulted class e h = go e.binds h
    where
      of_member : (x : Member) → member_default x ≡ Some true → has_default x ≡ true
      of_member (field_member f) i = same_Some (is_some f.default) true i
      of_member (method_member f) i = absurd (none-some true i)

      go : (b : Test) → (if b then member_default e.member else None) ≡ Some true
          → IsThere (defaulted (if b then of_entry class e ∷ [] else []))
      go true i = find_there (λ (o : OwnedMember). has_default o.member) (of_entry class e ∷ []) (of_entry class e)
          (first_among (of_entry class e) []) (of_member e.member i)
      go false i = absurd (none-some true i)

  find_behind : {A : Type 0} (test : A → Test) (xs ys : List A) → IsThere (find test ys) → IsThere (find test (xs ++ ys))
  find_behind test xs ys h = let r = found_passing test ys h in
      find_there test (xs ++ ys) r.value (Contains-append_right xs ys r.value r.among) r.passes

  late_from : (over : List OwnedMember) (class : ClassDef) (before es : List MemberEntry) (d : Test)
      → (d ≡ true → IsThere (defaulted (over ++ flat_map (bound_member class) before)))
      → Contains (late_places d es) p → IsThere (first_from place_of_entry (entry_order over class) p before es)
  late_from over class before [] d inv h = absurd (none_among p h)
  late_from over class before (e ∷ es) d inv h =
      let q = (name_of_member e.member).place in
      let here = if is_same_place p (place_of_entry e) then entry_order over class before e else None in
      let later = first_from place_of_entry (entry_order over class) p (before ++ e ∷ []) es in
      let known_before = over ++ flat_map (bound_member class) before in
      either (one_if (is_late d (entry_default e)) q) (late_places (defaulted_after d (entry_default e)) es) p h
      (λ k. there_first here later (one_place (is_late d (entry_default e)) q p k
      (λ i at. there_at q p at (entry_order over class before e)
      (there_mapped (field_order_after e.member) (defaulted known_before) (inv (late_one (entry_default e) i))))))
      (λ k. there_second here later (late_from over class (before ++ e ∷ []) es (defaulted_after d (entry_default e))
      (λ i. kept_on (entry_default e) refl i) k))
    where
      late_one : (o : Option Test) → is_late d o ≡ true → d ≡ true
      late_one None i = none_there i
      late_one (Some b) i = both_hold d (not b) i

      all_before : List OwnedMember
      all_before = over ++ flat_map (bound_member class) before

      onward : (over ++ flat_map (bound_member class) (before ++ e ∷ [])) ≡ (all_before ++ (bound_member class e ++ []))
      onward = ap (λ (os : List OwnedMember). over ++ os) (flat_map-append (bound_member class) before (e ∷ []))
          ∙ sym (append_assoc over (flat_map (bound_member class) before) (bound_member class e ++ []))

      more : IsThere (defaulted (all_before ++ (bound_member class e ++ [])))
          → IsThere (defaulted (over ++ flat_map (bound_member class) (before ++ e ∷ [])))
      more k = subst (λ (os : List OwnedMember). IsThere (defaulted os)) (sym onward) k

      before_it : d ≡ true → IsThere (defaulted (over ++ flat_map (bound_member class) (before ++ e ∷ [])))
      before_it i = more (find_left (λ (o : OwnedMember). has_default o.member) all_before (bound_member class e ++ [])
          (inv i))

      kept_on : (o : Option Test) → entry_default e ≡ o → defaulted_after d o ≡ true
          → IsThere (defaulted (over ++ flat_map (bound_member class) (before ++ e ∷ [])))
      kept_on None s i = before_it i
      kept_on (Some b) s i = some_or d b i before_it (λ t. more
          (find_behind (λ (o : OwnedMember). has_default o.member) all_before (bound_member class e ++ [])
          (find_left (λ (o : OwnedMember). has_default o.member) (bound_member class e) []
          (entry_defaulted class e (s ∙ ap Some t)))))

-- a field with a default is inherited
inherited_default : (m : Module) (c : ℕ) (class : ClassDef) → slice_get (classes_in m.items) c ≡ Some class
    → list_any (λ (p : TypedParameter). p.has_default) (base_class m c class).fields ≡ true
    → IsThere (find (λ (o : OwnedMember). has_default o.member) (members_above m c ++ []))
inherited_default m c class is h =
    let r = any_passing (λ (p : TypedParameter). p.has_default) (base_class m c class).fields h in
    let k = field_held m c class is r.value r.among in
    let passes : has_default k.o.member ≡ true = ap has_default k.is.is ∙ ap (λ (p : TypedParameter). p.has_default) k.is.made
    ∙ r.passes in
    find_left (λ (o : OwnedMember). has_default o.member) (members_above m c) []
    (find_there (λ (o : OwnedMember). has_default o.member) (members_above m c) k.o k.among passes)

pub order_told : (m : Module) (known : Known) (c : ℕ) (class : ClassDef) (f : Finding)
    → slice_get (classes_in m.items) c ≡ Some class → IsFieldBehind m class c f → IsTold m known f.place f.code
order_told m known c class f is h =
    let base = base_class m c class in
    let first = list_any (λ (p : TypedParameter). p.has_default) base.fields in
    let entries = class_entries (inherited_by base) class in
    let listed = in_code E08 (late_places first entries) f ((late_found m c class f).1 h) in
    let n : NumberedClass = record { number = c; class = class } in
    let there = first_there (order_in_class m f.place) (numbered_classes m) n (class_stands m c class is)
    (late_from m f.place (members_above m c) class [] entries first (λ e. inherited_default m c class is e) listed.1) in
    subst (λ (k : Code). IsTold m known f.place k) (sym listed.0) there

-- ---- E06

turned : (a b : List ℕ) → bytes_eq a b ≡ true → bytes_eq b a ≡ true
turned a b e = (bytes_eq-Decides b a).1 (sym ((bytes_eq-Decides a b).0 e))

or_there : (a b : Option OwnedMember) → IsThere a → IsThere (member_or a b)
or_there None b h = none_there h
or_there (Some o) b h = refl

or_other : (a b : Option OwnedMember) → IsThere b → IsThere (member_or a b)
or_other None b h = h
or_other (Some o) b h = refl

module _ (m : Module) (c : ℕ) (class : ClassDef) (is : slice_get (classes_in m.items) c ≡ Some class) where
  abbrev base : ClassFacts
  base = base_class m c class

  abbrev here : NumberedClass
  here = record { number = c; class = class }

  -- a member clashes with the field of an inherited parameter, and a field with an inherited method
  field_clash : (x : Member) → IsThere (field_by_name base.fields (name_of_member x).text)
      → IsThere (find (clashes_with x) (reverse (members_above m c)))
  field_clash x h =
      let w = (name_of_member x).text in
      let r = found_passing (λ (p : TypedParameter). bytes_eq w p.name) base.fields h in
      let k = field_held m c class is r.value r.among in
      let named : bytes_eq w k.is.field.name.text ≡ true =
      ap (λ (p : TypedParameter). bytes_eq w p.name) k.is.made ∙ r.passes in
      let clash : clashes_with x k.o ≡ true =
      ap (λ (y : Member). bytes_eq w (name_of_member y).text && (is_field x || is_field y)) k.is.is
      ∙ (λ i. named i && or_true (is_field x) i) in
      find_there (clashes_with x) (reverse (members_above m c)) k.o (among_reversed (members_above m c) k.o k.among) clash
    where
      or_true : (b : Test) → (b || true) ≡ true
      or_true true = refl
      or_true false = refl

  method_clash : (f : Field) → IsThere (method_by_name base.methods f.name.text)
      → IsThere (find (clashes_with (field_member f)) (reverse (members_above m c)))
  method_clash f h =
      let w = f.name.text in
      let r = found_passing (λ (x : Method). bytes_eq w x.name) base.methods h in
      let k = method_held m c class is r.value r.among in
      let named : bytes_eq w k.is.function.name.text ≡ true = ap (bytes_eq w) k.is.named ∙ r.passes in
      let clash : clashes_with (field_member f) k.o ≡ true =
      ap (λ (y : Member). bytes_eq w (name_of_member y).text && true) k.is.is ∙ (λ i. named i && true) in
      find_there (clashes_with (field_member f)) (reverse (members_above m c)) k.o
      (among_reversed (members_above m c) k.o k.among) clash

  -- the names before are those of the members before
  abbrev Names : List (List ℕ) → List Member → Type 0
  Names texts before = (x : Member) → is_one_of (name_of_member x).text texts ≡ true
      → IsThere (find (has_name_of x) (owned_by class before))

  clash_there : (texts : List (List ℕ)) (before : List Member) (x : Member) → Names texts before
      → member_clashes (inherited_by base) texts x ≡ true → IsThere (clash_detail m here before x)
  clash_there texts before (field_member f) names e =
      let x = field_member f in
      let own = find (has_name_of x) (owned_by class before) in
      let over = find (clashes_with x) (reverse (members_above m c)) in
      there_mapped member_detail (member_or own over)
      (some_or (is_one_of f.name.text texts) (is_some (field_by_name base.fields f.name.text)
      || is_some (method_by_name base.methods f.name.text)) e (λ a. or_there own over (names x a))
      (λ a. or_other own over (some_or (is_some (field_by_name base.fields f.name.text))
      (is_some (method_by_name base.methods f.name.text)) a (λ b. field_clash x b) (λ b. method_clash f b))))
  clash_there texts before (method_member f) names e =
      let x = method_member f in
      let own = find (has_name_of x) (owned_by class before) in
      let over = find (clashes_with x) (reverse (members_above m c)) in
      there_mapped member_detail (member_or own over)
      (some_or (is_one_of f.name.text texts) (is_some (field_by_name base.fields f.name.text)) e
      (λ a. or_there own over (names x a)) (λ a. or_other own over (field_clash x a)))

  names_more : (texts : List (List ℕ)) (before : List Member) (y : Member) → Names texts before
      → Names ((name_of_member y).text ∷ texts) (before ++ y ∷ [])
  names_more texts before y names x e =
      let as_owned : Member → OwnedMember = λ (z : Member). record { class = class.name.text; member = z } in
      let longer : owned_by class (before ++ y ∷ []) ≡ owned_by class before ++ (as_owned y ∷ []) =
      map-append as_owned before (y ∷ []) in
      subst (λ (os : List OwnedMember). IsThere (find (has_name_of x) os)) (sym longer)
      (some_or (bytes_eq (name_of_member x).text (name_of_member y).text) (is_one_of (name_of_member x).text texts) e
      (λ a. find_there (has_name_of x) (owned_by class before ++ (as_owned y ∷ [])) (as_owned y)
      (Contains-append_right (owned_by class before) (as_owned y ∷ []) (as_owned y) (first_among (as_owned y) [])) a)
      (λ a. find_left (has_name_of x) (owned_by class before) (as_owned y ∷ []) (names x a)))

  clash_from : (p : Place) (texts : List (List ℕ)) (n : ℕ) (before ms : List Member) → Names texts before
      → Contains (clash_places (entries_of_members (inherited_by base) texts n ms)) p
      → IsThere (first_from place_of_member (clash_detail m here) p before ms)
  clash_from p texts n before [] names h = absurd (none_among p h)
  clash_from p texts n before (x ∷ ms) names h =
      let q = (name_of_member x).place in
      let first = if is_same_place p (place_of_member x) then clash_detail m here before x else None in
      let later = first_from place_of_member (clash_detail m here) p (before ++ x ∷ []) ms in
      let clashes = member_clashes (inherited_by base) texts x in
      either (one_if clashes q)
      (clash_places (entries_of_members (inherited_by base) ((name_of_member x).text ∷ texts) (number_after n x) ms)) p h
      (λ k. there_first first later (one_place clashes q p k (λ e at. there_at q p at (clash_detail m here before x)
      (clash_there texts before x names e))))
      (λ k. there_second first later (clash_from p ((name_of_member x).text ∷ texts) (number_after n x) (before ++ x ∷ [])
      ms (names_more texts before x names) k))

  clash_told : (p : Place) → Contains (clash_places (class_entries (inherited_by base) class)) p
      → IsThere (clash_in_class m p here)
  clash_told p h = clash_from p [] 0 [] class.members (λ x e. none_there e) h

-- a class among those from a number on
clashes_told : (m : Module) (p : Place) (c : ℕ) (cs : List ClassDef)
    → ((i : ℕ) (class : ClassDef) → slice_get cs i ≡ Some class → slice_get (classes_in m.items) (c + i) ≡ Some class)
    → Contains (clashes_from m c cs) p → IsThere (first_of_all (clash_in_class m p) (numbered_classes m))
clashes_told m p c [] ahead h = absurd (none_among p h)
clashes_told m p c (class ∷ rest) ahead h =
    let s : c + 0 ≡ c = omega arith in
    let is : slice_get (classes_in m.items) c ≡ Some class = subst (λ (n : ℕ). slice_get (classes_in m.items) n ≡ Some class)
    s (ahead 0 class refl) in
    either (clash_places (class_entries (inherited_by (base_class m c class)) class)) (clashes_from m (suc c) rest) p h
    (λ k. first_there (clash_in_class m p) (numbered_classes m) (record { number = c; class = class })
    (class_stands m c class is) (clash_told m c class is p k))
    (λ k. clashes_told m p (suc c) rest (λ i d e. subst (λ (n : ℕ). slice_get (classes_in m.items) n ≡ Some d)
    (moved c i) (ahead (suc i) d e)) k)
  where
    moved : (c i : ℕ) → c + suc i ≡ suc c + i
    moved c i = omega arith

pub member_told : (m : Module) (known : Known) (f : Finding) → IsTwiceMember m f → IsTold m known f.place f.code
member_told m known f h =
    let among = subst (λ (ps : List Place). Contains ps f.place) (clashes_stop m) h.stops in
    subst (λ (k : Code). IsTold m known f.place k) (sym h.code)
    (clashes_told m f.place 0 (classes_in m.items) (λ i class e.
    subst (λ (n : ℕ). slice_get (classes_in m.items) n ≡ Some class) (from_none i) e) among)
  where
    from_none : (i : ℕ) → i ≡ 0 + i
    from_none i = omega arith
