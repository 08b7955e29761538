-- The items that the entries of a class add to a list and to a map of names, one entry after another.
use Rattle.std.proofs.Common.{arith, ◌≡◌, ℕ, List, [], ◌∷◌, ◌++◌, map, refl, sym, ap, ◌∙◌, subst, append_assoc}
use Rattle.std.proofs.Common.{append-nil}
use Rattle.std.specs.Prelude.{Bool, true, false, cond, Option, Some, None, All, bytes_eq}
use Rattle.std.specs.Option.{option_map}
use Rattle.std.proofs.lemmas.List.Elements.{All-nil, All-cons, All-append, All-weaker}
use Rattle.std.proofs.lemmas.List.{map-append}
use Rattle.pc_shared_maps.specs.NameMaps.{NameMaps}
use Rattle.pc_class.specs.Entries.{MemberEntry}
use Rattle.pc_class.specs.Outlines.{first_named, IsMapOf, all_own, AreOther, AreNew}
use Rattle.pc_class.specs.Built.{Added}

-- the members that a walk over entries has added so far, and those still to come
pub record Walk {X Y : Type 0} (name : X → List ℕ) (yname : Y → List ℕ) (meaning : X → Y) (own : MemberEntry → List Y)
    (has : X → Type 0) (d : NameMaps) (old now : List X) (at : ℕ) (front back : List X)
    (entries rest : List MemberEntry) : Type 0 where
  pub these : List X
  pub all : now ≡ old ++ these
  pub total : map meaning these ++ all_own own rest ≡ all_own own entries
  pub given : All has these
  pub held : IsMapOf name d now at ((front ++ these) ++ back)
  pub new : AreNew yname own (map meaning (front ++ these)) rest

module _ {X Y : Type 0} (name : X → List ℕ) (yname : Y → List ℕ) (meaning : X → Y)
    (names : (x : X) → yname (meaning x) ≡ name x) where
  none_of : (o : Option X) → option_map meaning o ≡ None → o ≡ None
  none_of None e = refl
  none_of (Some x) e = absurd (grind (arith, e))

  -- a name that none of these means is none of theirs
  first_same : (xs : List X) (n : List ℕ) → first_named yname (map meaning xs) n ≡ option_map meaning
      (first_named name xs n)
  first_same [] n = refl
  first_same (x ∷ xs) n = ap (λ t. cond (bytes_eq n t) (Some (meaning x)) (first_named yname (map meaning xs) n))
      (names x) ∙ go (bytes_eq n (name x)) (first_same xs n)
    where
      go : (b : Bool) → first_named yname (map meaning xs) n ≡ option_map meaning (first_named name xs n)
          → cond b (Some (meaning x)) (first_named yname (map meaning xs) n) ≡ option_map meaning
          (cond b (Some x) (first_named name xs n))
      go true e = refl
      go false e = e

  -- one more, or none
  pub added_one : (has : X → Type 0) (d : NameMaps) (old new : List X) (at : ℕ) (front back : List X) (x : X) (y : Y)
      (own : List Y) → y ∷ [] ≡ own → meaning x ≡ y → has x → new ≡ old ++ x ∷ []
      → AreOther yname (map meaning front) own → (first_named name front (name x) ≡ None
      → IsMapOf name d new at ((front ++ x ∷ []) ++ back)) → Added name has meaning d old new at front back own
  added_one has d old new at front back x y own is means given all other held = record {
    these = x ∷ [];
    all = all;
    means = ap (λ z. z ∷ []) means ∙ is;
    given = All-cons has x [] given (All-nil has);
    held = held (none_of (first_named name front (name x)) (sym (first_same front (name x))
        ∙ ap (first_named yname (map meaning front)) (sym (names x) ∙ ap yname means)
        ∙ (subst (AreOther yname (map meaning front)) (sym is) other).0));
  }

  pub added_none : (has : X → Type 0) (d : NameMaps) (all : List X) (at : ℕ) (front back : List X) (own : List Y)
      → [] ≡ own → IsMapOf name d all at (front ++ back) → Added name has meaning d all all at front back own
  added_none has d all at front back own is held = record {
    these = [];
    all = sym (append-nil all);
    means = is;
    given = All-nil has;
    held = subst (λ xs. IsMapOf name d all at (xs ++ back)) (sym (append-nil front)) held;
  }

  module _ (own : MemberEntry → List Y) (has : X → Type 0) where
    pub walk_start : (d : NameMaps) (all : List X) (at : ℕ) (front back : List X) (entries : List MemberEntry)
        → IsMapOf name d all at (front ++ back) → AreNew yname own (map meaning front) entries
        → Walk name yname meaning own has d all all at front back entries entries
    walk_start d all at front back entries h n = record {
      these = [];
      all = sym (append-nil all);
      total = refl;
      given = All-nil has;
      held = subst (λ xs. IsMapOf name d all at (xs ++ back)) (sym (append-nil front)) h;
      new = subst (λ xs. AreNew yname own (map meaning xs) entries) (sym (append-nil front)) n;
    }

    pub walk_next : (has2 : X → Type 0) → ((x : X) → has x → has2 x) → (d d2 : NameMaps) (old now now2 : List X)
        (at at2 : ℕ) (front back : List X) (entries : List MemberEntry) (e : MemberEntry) (rest : List MemberEntry)
        → Walk name yname meaning own has d old now at front back entries (e ∷ rest)
        → ((these : List X) → IsMapOf name d now at (these ++ back) → AreOther yname (map meaning these) (own e)
        → Added name has2 meaning d2 now now2 at2 these back (own e))
        → Walk name yname meaning own has2 d2 old now2 at2 front back entries rest
    walk_next has2 weaker d d2 old now now2 at at2 front back entries e rest w step =
        let a = step (front ++ w.these) w.held w.new.0 in
        record {
          these = w.these ++ a.these;
          all = a.all ∙ ap (λ xs. xs ++ a.these) w.all ∙ append_assoc old w.these a.these;
          total = ap (λ ys. ys ++ all_own own rest) (map-append meaning w.these a.these
              ∙ ap (λ ys. map meaning w.these ++ ys) a.means) ∙ append_assoc (map meaning w.these) (own e)
              (all_own own rest) ∙ w.total;
          given = All-append has2 w.these a.these (All-weaker has has2 weaker w.these w.given) a.given;
          held = subst (λ xs. IsMapOf name d2 now2 at2 (xs ++ back)) (append_assoc front w.these a.these) a.held;
          new = subst (λ ys. AreNew yname own ys rest) (ap (λ ys. map meaning (front ++ w.these) ++ ys) (sym a.means)
              ∙ sym (map-append meaning (front ++ w.these) a.these) ∙ ap (map meaning)
              (append_assoc front w.these a.these)) w.new.1;
        }

    pub walk_end : (d : NameMaps) (old now : List X) (at : ℕ) (front back : List X) (entries : List MemberEntry)
        → Walk name yname meaning own has d old now at front back entries [] → Added name has meaning d old now at front
        back (all_own own entries)
    walk_end d old now at front back entries w = record {
      these = w.these;
      all = w.all;
      means = sym (append-nil (map meaning w.these)) ∙ w.total;
      given = w.given;
      held = w.held;
    }
