-- The holdings of a table by the numbers of names, with one more name or one more member.
use Rattle.std.proofs.Common.{◌≡◌, ◌≢◌, ◌<◌, ◌⊎◌, inl, inr, ℕ, zero, suc, refl, ap, ◌∙◌, sym}
use Rattle.std.proofs.Common.{arith, List, [], ◌∷◌, ◌++◌, length, map, Bool, true, false, true≢false}
use Rattle.std.specs.Prelude.{◌==◌, ◌&&◌, ◌||◌, if◌then◌else◌, Option, Some, None, slice_get, bytes_eq}
use Rattle.std.specs.List.{list_any}
use Rattle.std.proofs.lemmas.Bool.Decides.{eqb_tells}
use Rattle.std.proofs.lemmas.List.{map-append}
use Rattle.std.proofs.lemmas.Slice.Eq.{bytes_eq-Decides}
use Rattle.pc_tree.specs.Stopping.{HeldMember, held_text, is_field_of, is_among}
use Rattle.pc_shared_maps.specs.declared.shared.MapNode.{MapNode}
use Rattle.pc_shared_maps.specs.SharedMaps.{held_at, KeepsMaps}
use Rattle.pc_stopping.specs.declared.holdings.Holding.{Holding}
use Rattle.pc_stopping.specs.declared.holdings.Holding.TheVariants.{Nothing, Method, Field}
use Rattle.pc_stopping.specs.Holdings.{holding, held_as, holding_at, with_member, number_of, holding_of, AreOnce, Has}

-- ---- one member more

any_end : {A : Type 0} (p : A → Bool) (xs : List A) (y : A) → list_any p (xs ++ y ∷ []) ≡ (list_any p xs || p y)
any_end p [] y = or_false (p y)
  where
    or_false : (b : Bool) → (b || false) ≡ b
    or_false true = refl
    or_false false = refl
any_end p (x ∷ xs) y = ap (λ b. p x || b) (any_end p xs y) ∙ sym (or_assoc (p x) (list_any p xs) (p y))
  where
    or_assoc : (a b c : Bool) → ((a || b) || c) ≡ (a || (b || c))
    or_assoc true b c = refl
    or_assoc false b c = refl

-- a field of a name is among the names
pub field_named : (t : List ℕ) (hs : List HeldMember) → list_any (is_field_of t) hs ≡ true
    → is_among (map held_text hs) t ≡ true
field_named t [] e = e
field_named t (h ∷ hs) e = go (h.is_field) (bytes_eq h.text t) e (field_named t hs)
  where
    go : (f b : Bool) → ((f && b) || list_any (is_field_of t) hs) ≡ true
        → (list_any (is_field_of t) hs ≡ true → is_among (map held_text hs) t ≡ true)
        → (b || is_among (map held_text hs) t) ≡ true
    go f true e rest = refl
    go true false e rest = rest e
    go false false e rest = rest e

held_cases : (a f b e : Bool) → (f ≡ true → a ≡ true) → holding (a || e) (f || (b && e))
    ≡ (if e then with_member (holding a f) b else holding a f)
held_cases true true true true h = refl
held_cases true true true false h = refl
held_cases true true false true h = refl
held_cases true true false false h = refl
held_cases true false true true h = refl
held_cases true false true false h = refl
held_cases true false false true h = refl
held_cases true false false false h = refl
held_cases false true b e h = absurd (true≢false (sym (h refl)))
held_cases false false true true h = refl
held_cases false false true false h = refl
held_cases false false false true h = refl
held_cases false false false false h = refl

pub held_more : (t : List ℕ) (hs : List HeldMember) (h : HeldMember)
    → held_as t (hs ++ h ∷ []) ≡ (if bytes_eq h.text t then with_member (held_as t hs) h.is_field else held_as t hs)
held_more t hs h =
    ap (λ (b : Bool). holding b (list_any (is_field_of t) (hs ++ h ∷ [])))
    (ap (λ names. is_among names t) (map-append held_text hs (h ∷ []))
    ∙ any_end (λ x. bytes_eq x t) (map held_text hs) h.text)
    ∙ ap (λ (b : Bool). holding (is_among (map held_text hs) t || bytes_eq h.text t) b) (any_end (is_field_of t) hs h)
    ∙ held_cases (is_among (map held_text hs) t) (list_any (is_field_of t) hs) h.is_field (bytes_eq h.text t)
    (field_named t hs)

pub there_and_back : (h : Holding) → holding_of (Some (number_of h)) ≡ h
there_and_back Nothing = refl
there_and_back Method = refl
there_and_back Field = refl

-- ---- names and their numbers

same_text : (x y : List ℕ) → bytes_eq x y ≡ true → x ≡ y
same_text x y e = (bytes_eq-Decides x y).0 e

itself : (x : List ℕ) → bytes_eq x x ≡ true
itself x = (bytes_eq-Decides x x).1 refl

or_true : (b : Bool) → (b || true) ≡ true
or_true true = refl
or_true false = refl

first_false : (a b : Bool) → (a || b) ≡ false → a ≡ false
first_false true b e = e
first_false false b e = refl

-- a name that has a number is among them
pub among_at : (names : List (List ℕ)) (k : ℕ) (x : List ℕ) → slice_get names k ≡ Some x → is_among names x ≡ true
among_at [] k x e = absurd (cc)
among_at (n ∷ names) zero x e = let s : n ≡ x = cc in ap (λ (b : Bool). b || is_among names x)
    ((bytes_eq-Decides n x).1 s)
among_at (n ∷ names) (suc k) x e = ap (λ (b : Bool). bytes_eq n x || b) (among_at names k x e) ∙ or_true (bytes_eq n x)

-- the names with one more
at_end : (names : List (List ℕ)) (x : List ℕ) (j : ℕ) (t : List ℕ) → slice_get (names ++ x ∷ []) j ≡ Some t
    → (slice_get names j ≡ Some t) ⊎ ((j ≡ length names) × (x ≡ t))
at_end [] x zero t e = inr (refl, cc)
at_end [] x (suc j) t e = absurd (cc)
at_end (n ∷ names) x zero t e = inl e
at_end (n ∷ names) x (suc j) t e = elim (at_end names x j t e) [ inl a ↦ inl a | inr b ↦ inr (omega (arith, b.0), b.1) ]

-- a name that is not among them has no number yet
once_more : (names : List (List ℕ)) (x : List ℕ) → AreOnce names → is_among names x ≡ false → AreOnce (names ++ x ∷ [])
once_more names x once new j k t e f = elim (at_end names x j t e) [
  | inl a ↦ elim (at_end names x k t f) [
    | inl b ↦ once j k t a b
    | inr b ↦ absurd (true≢false (sym (among_at names j t a) ∙ ap (is_among names) (sym b.1) ∙ new))
  ]
  | inr a ↦ elim (at_end names x k t f) [
    | inl b ↦ absurd (true≢false (sym (among_at names k t b) ∙ ap (is_among names) (sym a.1) ∙ new))
    | inr b ↦ a.0 ∙ sym b.0
  ]
]

holding_at_more : (names : List (List ℕ)) (x : List ℕ) (hs : List HeldMember) → held_as x hs ≡ Nothing → (j : ℕ)
    → holding_at (slice_get (names ++ x ∷ []) j) hs ≡ holding_at (slice_get names j) hs
holding_at_more [] x hs none zero = none
holding_at_more [] x hs none (suc j) = refl
holding_at_more (n ∷ names) x hs none zero = refl
holding_at_more (n ∷ names) x hs none (suc j) = holding_at_more names x hs none j

-- a table has what it had when a name gets a number
pub more_names : (names : List (List ℕ)) (x : List ℕ) (tables : List MapNode) (t : ℕ) (hs : List HeldMember)
    → is_among names x ≡ false → Has names tables t hs → Has (names ++ x ∷ []) tables t hs
more_names names x tables t hs new h = record {
  once = once_more names x h.once new;
  within = h.within;
  numbered = λ k. h.numbered k ∙ sym (holding_at_more names x hs (h.unnamed x new) k);
  unnamed = λ text e. h.unnamed text (first_false (is_among names text) (bytes_eq x text)
      (sym (any_end (λ n. bytes_eq n text) names x) ∙ e));
}

-- ---- tables

-- at first nothing has a number, and nothing is had
pub at_first : (tables : List MapNode) → 0 < length tables → ((k : ℕ) → held_at tables 0 k ≡ None) → Has [] tables 0 []
at_first tables room empty = record {
  once = λ j k t e f. absurd (cc);
  within = room;
  numbered = λ k. ap holding_of (empty k);
  unnamed = λ t e. refl;
}

-- the tables that were there stay
pub kept : (names : List (List ℕ)) (old new : List MapNode) → KeepsMaps old new → (t : ℕ) (hs : List HeldMember)
    → Has names old t hs → Has names new t hs
kept names old new keeps t hs h = record {
  once = h.once;
  within = omega (arith, keeps.more, h.within);
  numbered = λ k. ap holding_of (keeps.same t k h.within) ∙ h.numbered k;
  unnamed = h.unnamed;
}

-- and the new one has a member more
pub held : (names : List (List ℕ)) (old new : List MapNode) (table number added : ℕ) (m : HeldMember)
    (hs : List HeldMember) → slice_get names number ≡ Some m.text → Has names old table hs → added < length new
    → ((k : ℕ) → held_at new added k ≡ (if k == number then Some (number_of
    (with_member (holding_of (held_at old table number)) m.is_field)) else held_at old table k))
    → Has names new added (hs ++ m ∷ [])
held names old new table number added m hs at h within has = record {
  once = h.once;
  within = within;
  numbered = λ k. ap holding_of (has k) ∙ elim (eqb_tells k number) [
    | inl e ↦ ap (λ (b : Bool). holding_of (if b then Some (number_of had) else held_at old table k)) e.0
        ∙ there_and_back had ∙ here ∙ sym (there k e.1)
    | inr e ↦ ap (λ (b : Bool). holding_of (if b then Some (number_of had) else held_at old table k)) e.0
        ∙ h.numbered k ∙ sym (elsewhere (slice_get names k) (λ t is. apart k t e.1 is))
  ];
  unnamed = λ t e. held_more t hs m ∙ ap (λ (b : Bool). if b then with_member (held_as t hs) m.is_field else held_as t
      hs) (nameless t e) ∙ h.unnamed t e;
}
  where
    had : Holding
    had = with_member (holding_of (held_at old table number)) m.is_field

    here : had ≡ with_member (held_as m.text hs) m.is_field
    here = ap (λ (o : Holding). with_member o m.is_field) (h.numbered number
        ∙ ap (λ (o : Option (List ℕ)). holding_at o hs) at)

    there : (k : ℕ) → k ≡ number → holding_at (slice_get names k) (hs ++ m ∷ []) ≡ with_member (held_as m.text hs)
        m.is_field
    there k is = ap (λ (o : Option (List ℕ)). holding_at o (hs ++ m ∷ [])) (ap (slice_get names) is ∙ at)
        ∙ held_more m.text hs m ∙ ap (λ (b : Bool). if b then with_member (held_as m.text hs) m.is_field
        else held_as m.text hs) (itself m.text)

    elsewhere : (o : Option (List ℕ)) → ((t : List ℕ) → o ≡ Some t → bytes_eq m.text t ≡ false)
        → holding_at o (hs ++ m ∷ []) ≡ holding_at o hs
    elsewhere None other = refl
    elsewhere (Some t) other = held_more t hs m ∙ ap (λ (b : Bool). if b then with_member (held_as t hs) m.is_field
        else held_as t hs) (other t refl)

    apart : (k : ℕ) (t : List ℕ) → k ≢ number → slice_get names k ≡ Some t → bytes_eq m.text t ≡ false
    apart k t other is = go (bytes_eq m.text t) refl
      where
        go : (b : Bool) → bytes_eq m.text t ≡ b → b ≡ false
        go true e = absurd (other (h.once k number t is (at ∙ ap Some (same_text m.text t e))))
        go false e = refl

    nameless : (t : List ℕ) → is_among names t ≡ false → bytes_eq m.text t ≡ false
    nameless t none = go (bytes_eq m.text t) refl
      where
        go : (b : Bool) → bytes_eq m.text t ≡ b → b ≡ false
        go true e = absurd (true≢false (sym (among_at names number m.text at)
            ∙ ap (is_among names) (same_text m.text t e) ∙ none))
        go false e = refl
