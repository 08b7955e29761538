-- The members of a class that clash, one after another.
use Rattle.std.proofs.Common.{◌≡◌, ◌<◌, ◌≤◌, ◌+◌, ℕ, zero, suc, arith, refl, ap, ◌∙◌, sym, subst, List, [], ◌∷◌}
use Rattle.std.proofs.Common.{◌++◌, map, length, get_or, drop, Bool, true, false, true≢false, append-nil, append_assoc}
use Rattle.std.specs.Prelude.{◌||◌, Result, Ok, Err, IfOk, OnOk, Option, Some, slice_get}
use Rattle.std.specs.List.{list_any}
use Rattle.pc_source.specs.declared.place.Place.{Place}
use Rattle.pc_tree.specs.Tree.{Member, field_member, method_member, member_of}
use Rattle.pc_tree.specs.declared.tree.Member.{Member as RustMember}
use Rattle.pc_tree.specs.Stopping.{HeldMember, held_text, is_field, is_field_of, is_among, is_clash, clashes}
use Rattle.pc_tree.specs.Stopping.{clashes_among, own_members, is_reserved_member, name_of_member, one_if}
use Rattle.pc_tree.proofs.Stops.{cons_at}
use Rattle.pc_shared_maps.specs.declared.shared.MapNode.{MapNode}
use Rattle.pc_shared_maps.specs.SharedMaps.{held_at}
use Rattle.pc_stopping.specs.declared.holdings.Holdings.{Holdings}
use Rattle.pc_stopping.specs.Holdings.{holding, held_as, holding_at, holding_of, Has, HasIn}
use Rattle.pc_stopping.specs.Members.{clashes_with, held_unless}
use Rattle.pc_stopping.proofs.HeldNames.{field_named}
use Rattle.pc_stopping.proofs.Passed.{one_more}

-- ---- results

pub if_ok : {A E : Type 0} {P Q : A → Type 0} (r : Result A E) → ((a : A) → P a → Q a) → IfOk r P → IfOk r Q
if_ok (Ok a) f h = f a h
if_ok (Err e) f h = tt

pub on_ok : {A E P Q : Type 0} (r : Result A E) → (P → Q) → OnOk r P → OnOk r Q
on_ok (Ok a) f h = f h
on_ok (Err e) f h = tt

pub on_any : {A E P : Type 0} (r : Result A E) → P → OnOk r P
on_any (Ok a) h = h
on_any (Err e) h = tt

-- ---- one member

field_clash : (a f : Bool) → clashes_with (holding a f) true ≡ a
field_clash false f = refl
field_clash true false = refl
field_clash true true = refl

method_clash : (a f : Bool) → (f ≡ true → a ≡ true) → clashes_with (holding a f) false ≡ f
method_clash false false h = refl
method_clash false true h = absurd (true≢false (sym (h refl)))
method_clash true false h = refl
method_clash true true h = refl

-- the holding of a member's name tells whether the member clashes
clash_told : (hs : List HeldMember) (m : Member) → clashes_with (held_as (name_of_member m).text hs) (is_field m)
    ≡ clashes hs m
clash_told hs (field_member f) = field_clash (is_among (map held_text hs) f.name.text)
    (list_any (is_field_of f.name.text) hs)
clash_told hs (method_member f) = method_clash (is_among (map held_text hs) f.name.text)
    (list_any (is_field_of f.name.text) hs) (field_named f.name.text hs)

looked_up : (names : List (List ℕ)) (tables : List MapNode) (t : ℕ) (hs : List HeldMember) (k : ℕ) (x : List ℕ)
    → Has names tables t hs → slice_get names k ≡ Some x → holding_of (held_at tables t k) ≡ held_as x hs
looked_up names tables t hs k x h at = h.numbered k ∙ ap (λ (o : Option (List ℕ)). holding_at o hs) at

pub judged : (names : List (List ℕ)) (tables : List MapNode) (t : ℕ) (hs : List HeldMember) (k : ℕ) (m : Member)
    (b : List (List ℕ)) (again clash : Bool) → Has names tables t hs
    → slice_get names k ≡ Some (name_of_member m).text
    → again ≡ is_among b (name_of_member m).text
    → clash ≡ (again || clashes_with (holding_of (held_at tables t k)) (is_field m))
    → clash ≡ is_clash b hs m
judged names tables t hs k m b again clash h at passed is =
    is ∙ ap (λ (o : Bool). again || o) (ap (λ o. clashes_with o (is_field m))
    (looked_up names tables t hs k (name_of_member m).text h at) ∙ clash_told hs m)
    ∙ ap (λ (o : Bool). o || clashes hs m) passed

pub own_one : (b : List (List ℕ)) (hs : List HeldMember) (m : Member) (clash : Bool) → clash ≡ is_clash b hs m
    → held_unless (is_reserved_member m || clash) m ≡ own_members b hs (m ∷ [])
own_one b hs m clash is = ap (λ (o : Bool). held_unless (is_reserved_member m || o) m) is
    ∙ sym (append-nil (held_unless (is_reserved_member m || is_clash b hs m) m))

pub clash_one : (b : List (List ℕ)) (hs : List HeldMember) (m : Member) (clash : Bool) → clash ≡ is_clash b hs m
    → one_if clash (name_of_member m).place ≡ clashes_among b hs (m ∷ [])
clash_one b hs m clash is = ap (λ (o : Bool). one_if o (name_of_member m).place) is
    ∙ sym (append-nil (one_if (is_clash b hs m) (name_of_member m).place))

-- ---- the members after it

same_clash : (b c : List (List ℕ)) → ((t : List ℕ) → is_among b t ≡ is_among c t) → (hs : List HeldMember) (m : Member)
    → is_clash b hs m ≡ is_clash c hs m
same_clash b c same hs m = ap (λ (o : Bool). o || clashes hs m) (same (name_of_member m).text)

pub same_clashing : (b c : List (List ℕ)) → ((t : List ℕ) → is_among b t ≡ is_among c t)
    → (hs : List HeldMember) (ms : List Member) → clashes_among b hs ms ≡ clashes_among c hs ms
same_clashing b c same hs [] = refl
same_clashing b c same hs (m ∷ ms) =
    ap (λ (o : Bool). one_if o (name_of_member m).place ++ clashes_among ((name_of_member m).text ∷ b) hs ms)
    (same_clash b c same hs m)
    ∙ ap (λ (ps : List Place). one_if (is_clash c hs m) (name_of_member m).place ++ ps)
    (same_clashing ((name_of_member m).text ∷ b) ((name_of_member m).text ∷ c)
    (one_more b c (name_of_member m).text same) hs ms)

pub same_own : (b c : List (List ℕ)) → ((t : List ℕ) → is_among b t ≡ is_among c t)
    → (hs : List HeldMember) (ms : List Member) → own_members b hs ms ≡ own_members c hs ms
same_own b c same hs [] = refl
same_own b c same hs (m ∷ ms) =
    ap (λ (o : Bool). held_unless (is_reserved_member m || o) m ++ own_members ((name_of_member m).text ∷ b) hs ms)
    (same_clash b c same hs m)
    ∙ ap (λ (xs : List HeldMember). held_unless (is_reserved_member m || is_clash c hs m) m ++ xs)
    (same_own ((name_of_member m).text ∷ b) ((name_of_member m).text ∷ c)
    (one_more b c (name_of_member m).text same) hs ms)

module _ (b : List (List ℕ)) (hs : List HeldMember) (members : List RustMember) (i : ℕ) (m : RustMember)
    (lt : i < length members) (is : m ≡ get_or members i m) where
  abbrev rest : List Member
  rest = map member_of (drop (i + 1) members)

  abbrev text : List ℕ
  text = (name_of_member (member_of m)).text

  pub clash_next : clashes_among b hs (map member_of (drop i members)) ≡ clashes_among b hs (member_of m ∷ [])
      ++ clashes_among (text ∷ b) hs rest
  clash_next = ap (λ ms. clashes_among b hs (map member_of ms)) (cons_at members i m lt is)
      ∙ ap (λ (ps : List Place). ps ++ clashes_among (text ∷ b) hs rest)
      (sym (append-nil (one_if (is_clash b hs (member_of m)) (name_of_member (member_of m)).place)))

  pub own_next : own_members b hs (map member_of (drop i members)) ≡ own_members b hs (member_of m ∷ []) ++ own_members
      (text ∷ b) hs rest
  own_next = ap (λ ms. own_members b hs (map member_of ms)) (cons_at members i m lt is)
      ∙ ap (λ (xs : List HeldMember). xs ++ own_members (text ∷ b) hs rest)
      (sym (append-nil (held_unless (is_reserved_member (member_of m) || is_clash b hs (member_of m))
      (member_of m))))

-- a table has what the class inherits and its own members so far, before those after them
pub record Owns (h : Holdings) (table : ℕ) (b : List (List ℕ)) (hs : List HeldMember) (ms : List Member)
    (all : List HeldMember) : Type 0 where
  pub own : List HeldMember
  pub has : HasIn h table (hs ++ own)
  pub rest : own ++ own_members b hs ms ≡ all

pub owns_first : (h : Holdings) (table : ℕ) (hs : List HeldMember) (ms : List Member) (b : List (List ℕ)) → b ≡ []
    → HasIn h table hs → Owns h table b hs ms (own_members [] hs ms)
owns_first h table hs ms b none has = record {
  own = [];
  has = subst (HasIn h table) (sym (append-nil hs)) has;
  rest =
      ap (λ c. own_members c hs ms) none;
}

pub owns_all : (h : Holdings) (table : ℕ) (b : List (List ℕ)) (hs all : List HeldMember) → Owns h table b hs [] all
    → HasIn h table (hs ++ all)
owns_all h table b hs all o = subst (λ xs. HasIn h table (hs ++ xs)) (sym (append-nil o.own) ∙ o.rest) o.has

pub owns_more : (old new : Holdings) (table added : ℕ) (b c : List (List ℕ)) (hs all : List HeldMember)
    (members : List RustMember) (i : ℕ) (m : RustMember) → i < length members → m ≡ get_or members i m
    → ((t : List ℕ) → is_among c t ≡ is_among ((name_of_member (member_of m)).text ∷ b) t)
    → (o : Owns old table b hs (map member_of (drop i members)) all)
    → HasIn new added ((hs ++ o.own) ++ own_members b hs (member_of m ∷ []))
    → Owns new added c hs (map member_of (drop (i + 1) members)) all
owns_more old new table added b c hs all members i m lt is passed o has = record {
  own = o.own ++ own_members b hs (member_of m ∷ []);
  has = subst (HasIn new added) (append_assoc hs o.own (own_members b hs (member_of m ∷ []))) has;
  rest = append_assoc o.own (own_members b hs (member_of m ∷ []))
      (own_members c hs (map member_of (drop (i + 1) members)))
      ∙ ap (λ (xs : List HeldMember). o.own ++ (own_members b hs (member_of m ∷ []) ++ xs))
      (same_own c ((name_of_member (member_of m)).text ∷ b) passed hs (map member_of (drop (i + 1) members)))
      ∙ ap (λ (xs : List HeldMember). o.own ++ xs) (sym (own_next b hs members i m lt is))
      ∙ o.rest;
}

-- after the last element there is none
pub none_left : {A B : Type 0} (f : A → B) (xs : List A) (i : ℕ) → length xs ≤ i → map f (drop i xs) ≡ []
none_left f [] zero h = refl
none_left f [] (suc i) h = refl
none_left f (x ∷ xs) zero h = absurd (omega arith)
none_left f (x ∷ xs) (suc i) h = none_left f xs i (omega arith)
