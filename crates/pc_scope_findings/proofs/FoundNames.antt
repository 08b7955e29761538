-- The names in expressions that mean nothing or are used too early: as a walk finds them, and as they are defined.
use Rattle.std.proofs.Common.{◌≡◌, ◌⊎◌, ℕ, List, [], ◌∷◌, ◌++◌, refl, sym, ap, ◌∙◌, subst, inl, inr, arith, Contains}
use Rattle.std.specs.Prelude.{Bool, true, false, Option, Some, None, filter_map}
use Rattle.std.specs.List.{cons_option}
use Rattle.std.proofs.lemmas.Bool.Decides.{nat_tests}
use Rattle.std.proofs.lemmas.List.Elements.{Contains-append_left, Contains-append_right}
use Rattle.pc_source.specs.declared.place.Place.{Place}
use Rattle.pc_tree.specs.Tree.{Name, Expr}
use Rattle.pc_tree.specs.NamesAlone.{name_of_tree}
use Rattle.pc_tree.specs.Stopping.{one_if}
use Rattle.pc_tree.proofs.Among.{none_among, first_among, later_among, among_first, either}
use Rattle.pc_scope.specs.declared.resolution.NameMeaning.{NameMeaning}
use Rattle.pc_scope.specs.declared.resolution.NameMeaning.TheVariants as meaning
use Rattle.pc_scope.specs.Expressions.{parts_in, other_callee}
use Rattle.pc_scope_findings.specs.Findings.{IsEarlyMeaning}
use Rattle.pc_scope_findings.specs.Internal.FindingLists.{means_nothing, unknown_at, unknown_among, unknown_in}
use Rattle.pc_scope_findings.specs.Internal.FindingLists.{is_early_meaning, early_at, callee_at, early_among}

one : (b : Bool) (p q : Place) → Contains (one_if b p) q → (b ≡ true) × (p ≡ q)
one true p q h = elim (among_first p [] q h) [ inl e ↦ (refl, e) | inr rest ↦ absurd (none_among q rest) ]
one false p q h = absurd (none_among q h)

to_one : (b : Bool) (p : Place) → b ≡ true → Contains (one_if b p) p
to_one true p e = first_among p []
to_one false p e = absurd (grind (arith, e))

nothing_is : (r : NameMeaning) → means_nothing r ≡ true → r ≡ meaning.None
nothing_is (meaning.Local n) e = absurd (grind (arith, e))
nothing_is (meaning.Const n) e = absurd (grind (arith, e))
nothing_is (meaning.Func n) e = absurd (grind (arith, e))
nothing_is (meaning.Class n) e = absurd (grind (arith, e))
nothing_is (meaning.Builtin b) e = absurd (grind (arith, e))
nothing_is meaning.None e = refl

-- ---- names among expressions

-- a name among expressions that means nothing
pub record IsUnknownAmong (resolve : List ℕ → NameMeaning) (es : List Expr) (p : Place) : Type 0 where
  pub n : Name
  pub named : Contains (filter_map name_of_tree es) n
  pub unknown : resolve n.text ≡ meaning.None
  pub is : n.place ≡ p

module _ (resolve : List ℕ → NameMeaning) where
  unknown_more : (o : Option Name) (e : Expr) (es : List Expr) (p : Place) → name_of_tree e ≡ o
      → Contains (unknown_at resolve o) p → IsUnknownAmong resolve (e ∷ es) p
  unknown_more None e es p is h = absurd (none_among p h)
  unknown_more (Some n) e es p is h = let r = one (means_nothing (resolve n.text)) n.place p h in
      record {
        n = n;
        named = rw is (first_among n (filter_map name_of_tree es));
        unknown = nothing_is (resolve n.text)
            r.0;
        is = r.1;
      }

  behind : (o : Option Name) (ns : List Name) (n : Name) → Contains ns n → Contains (cons_option o ns) n
  behind None ns n h = h
  behind (Some m) ns n h = later_among m ns n h

  pub unknown_of : (es : List Expr) (p : Place) → Contains (unknown_among resolve es) p → IsUnknownAmong resolve es p
  unknown_of [] p h = absurd (none_among p h)
  unknown_of (e ∷ es) p h = either (unknown_at resolve (name_of_tree e)) (unknown_among resolve es) p h
      (λ a. unknown_more (name_of_tree e) e es p refl a)
      (λ b. let r = unknown_of es p b in record {
        n = r.n;
        named = behind (name_of_tree e) (filter_map name_of_tree es)
            r.n r.named;
        unknown = r.unknown;
        is = r.is;
      })

  pub to_unknown : (es : List Expr) (n : Name) → Contains (filter_map name_of_tree es) n → resolve n.text ≡ meaning.None
      → Contains (unknown_among resolve es) n.place
  to_unknown [] n h none = absurd (none_among n h)
  to_unknown (e ∷ es) n h none = go (name_of_tree e) h (λ rest. to_unknown es n rest none)
    where
      go : (o : Option Name) → Contains (cons_option o (filter_map name_of_tree es)) n
          → (Contains (filter_map name_of_tree es) n → Contains (unknown_among resolve es) n.place)
          → Contains (unknown_at resolve o ++ unknown_among resolve es) n.place
      go None h later = later h
      go (Some m) h later = elim (among_first m (filter_map name_of_tree es) n h) [
        | inl e ↦ Contains-append_left (unknown_at resolve (Some m)) (unknown_among resolve es) n.place
            (subst (λ (x : Name). Contains (one_if (means_nothing (resolve m.text)) m.place) x.place) e
            (to_one (means_nothing (resolve m.text)) m.place (ap (λ (x : Name). means_nothing (resolve x.text)) e
            ∙ ap means_nothing none)))
        | inr rest ↦ Contains-append_right (unknown_at resolve (Some m)) (unknown_among resolve es) n.place (later rest)
      ]

  -- one of several expressions, with such a name in it
  pub record IsUnknownPart (es : List Expr) (p : Place) : Type 0 where
    pub e : Expr
    pub among : Contains es e
    pub part : Contains (unknown_among resolve (parts_in true e)) p

  pub part_of : (es : List Expr) (p : Place) → Contains (unknown_in resolve es) p → IsUnknownPart es p
  part_of [] p h = absurd (none_among p h)
  part_of (e ∷ es) p h = either (unknown_among resolve (parts_in true e)) (unknown_in resolve es) p h
      (λ a. record { e = e; among = first_among e es; part = a })
      (λ b. let r = part_of es p b in record { e = r.e; among = later_among e es r.e r.among; part = r.part })

  pub to_part : (es : List Expr) (e : Expr) (p : Place) → Contains es e
      → Contains (unknown_among resolve (parts_in true e)) p → Contains (unknown_in resolve es) p
  to_part [] e p h part = absurd (none_among e h)
  to_part (d ∷ es) e p h part = elim (among_first d es e h) [
    | inl is ↦ Contains-append_left (unknown_among resolve (parts_in true d)) (unknown_in resolve es) p
        (subst (λ (x : Expr). Contains (unknown_among resolve (parts_in true x)) p) (sym is) part)
    | inr rest ↦ Contains-append_right (unknown_among resolve (parts_in true d)) (unknown_in resolve es) p
        (to_part es e p rest part)
  ]

-- ---- names too early

early_is : (k c : ℕ) (r : NameMeaning) → is_early_meaning k c r ≡ true → IsEarlyMeaning k c r
early_is k c (meaning.Local n) e = absurd (grind (arith, e))
early_is k c (meaning.Const n) e = grind (arith, nat_tests, e)
early_is k c (meaning.Func n) e = tt
early_is k c (meaning.Class n) e = grind (arith, nat_tests, e)
early_is k c (meaning.Builtin b) e = absurd (grind (arith, e))
early_is k c meaning.None e = absurd (grind (arith, e))

to_early_is : (k c : ℕ) (r : NameMeaning) → IsEarlyMeaning k c r → is_early_meaning k c r ≡ true
to_early_is k c (meaning.Local n) e = absurd e
to_early_is k c (meaning.Const n) e = grind (arith, nat_tests, e)
to_early_is k c (meaning.Func n) e = refl
to_early_is k c (meaning.Class n) e = grind (arith, nat_tests, e)
to_early_is k c (meaning.Builtin b) e = absurd e
to_early_is k c meaning.None e = absurd e

-- a name among expressions that an initializer uses too early
pub record IsEarlyAmong (k c : ℕ) (resolve : List ℕ → NameMeaning) (es : List Expr) (p : Place) : Type 0 where
  pub n : Name
  pub named : Contains (filter_map name_of_tree es) n
  pub early : IsEarlyMeaning k c (resolve n.text)
  pub is : n.place ≡ p

module _ (k c : ℕ) (resolve : List ℕ → NameMeaning) where
  abbrev pub Early : List Expr → Place → Type 0
  Early es p = IsEarlyAmong k c resolve es p ⊎ Contains (filter_map other_callee es) p

  name_too_early : (o : Option Name) (e : Expr) (es : List Expr) (p : Place) → name_of_tree e ≡ o
      → Contains (early_at k c resolve o) p → Early (e ∷ es) p
  name_too_early None e es p is h = absurd (none_among p h)
  name_too_early (Some n) e es p is h = let r = one (is_early_meaning k c (resolve n.text)) n.place p h in
      inl (record {
        n = n;
        named = rw is (first_among n (filter_map name_of_tree es));
        early =
            early_is k c (resolve n.text) r.0;
        is = r.1;
      })

  callee_too_early : (o : Option Place) (e : Expr) (es : List Expr) (p : Place) → other_callee e ≡ o
      → Contains (callee_at o) p → Early (e ∷ es) p
  callee_too_early None e es p is h = absurd (none_among p h)
  callee_too_early (Some q) e es p is h = elim (among_first q [] p h) [
    | inl same ↦ inr (rw is (subst (Contains (q ∷ filter_map other_callee es)) same
        (first_among q (filter_map other_callee es))))
    | inr rest ↦ absurd (none_among p rest)
  ]

  place_behind : (o : Option Place) (ps : List Place) (p : Place) → Contains ps p → Contains (cons_option o ps) p
  place_behind None ps p h = h
  place_behind (Some q) ps p h = later_among q ps p h

  early_behind : (e : Expr) (es : List Expr) (p : Place) → Early es p → Early (e ∷ es) p
  early_behind e es p (inl r) =
      inl (record {
        n = r.n;
        named = behind resolve (name_of_tree e) (filter_map name_of_tree es) r.n r.named;
        early =
            r.early;
        is = r.is;
      })
  early_behind e es p (inr h) = inr (place_behind (other_callee e) (filter_map other_callee es) p h)

  pub early_of : (es : List Expr) (p : Place) → Contains (early_among k c resolve es) p → Early es p
  early_of [] p h = absurd (none_among p h)
  early_of (e ∷ es) p h = either (early_at k c resolve (name_of_tree e) ++ callee_at (other_callee e))
      (early_among k c resolve es) p h
      (λ a. either (early_at k c resolve (name_of_tree e)) (callee_at (other_callee e)) p a
      (λ x. name_too_early (name_of_tree e) e es p refl x) (λ y. callee_too_early (other_callee e) e es p refl y))
      (λ b. early_behind e es p (early_of es p b))

  pub to_early_name : (es : List Expr) (n : Name) → Contains (filter_map name_of_tree es) n
      → IsEarlyMeaning k c (resolve n.text) → Contains (early_among k c resolve es) n.place
  to_early_name [] n h early = absurd (none_among n h)
  to_early_name (e ∷ es) n h early = go (name_of_tree e) h (λ rest. to_early_name es n rest early)
    where
      go : (o : Option Name) → Contains (cons_option o (filter_map name_of_tree es)) n
          → (Contains (filter_map name_of_tree es) n → Contains (early_among k c resolve es) n.place)
          → Contains ((early_at k c resolve o ++ callee_at (other_callee e)) ++ early_among k c resolve es) n.place
      go None h later = Contains-append_right (callee_at (other_callee e)) (early_among k c resolve es) n.place
          (later h)
      go (Some m) h later = elim (among_first m (filter_map name_of_tree es) n h) [
        | inl is ↦ Contains-append_left (early_at k c resolve (Some m) ++ callee_at (other_callee e))
            (early_among k c resolve es) n.place (Contains-append_left (early_at k c resolve (Some m))
            (callee_at (other_callee e)) n.place
            (subst (λ (x : Name). Contains (one_if (is_early_meaning k c (resolve m.text)) m.place) x.place) is
            (to_one (is_early_meaning k c (resolve m.text)) m.place
            (ap (λ (x : Name). is_early_meaning k c (resolve x.text)) is ∙ to_early_is k c (resolve n.text) early))))
        | inr rest ↦ Contains-append_right (early_at k c resolve (Some m) ++ callee_at (other_callee e))
            (early_among k c resolve es) n.place (later rest)
      ]

  pub to_early_callee : (es : List Expr) (p : Place) → Contains (filter_map other_callee es) p
      → Contains (early_among k c resolve es) p
  to_early_callee [] p h = absurd (none_among p h)
  to_early_callee (e ∷ es) p h = go (other_callee e) h (λ rest. to_early_callee es p rest)
    where
      go : (o : Option Place) → Contains (cons_option o (filter_map other_callee es)) p
          → (Contains (filter_map other_callee es) p → Contains (early_among k c resolve es) p)
          → Contains ((early_at k c resolve (name_of_tree e) ++ callee_at o) ++ early_among k c resolve es) p
      go None h later = Contains-append_right (early_at k c resolve (name_of_tree e) ++ []) (early_among k c resolve es)
          p (later h)
      go (Some q) h later = elim (among_first q (filter_map other_callee es) p h) [
        | inl is ↦ Contains-append_left (early_at k c resolve (name_of_tree e) ++ callee_at (Some q))
            (early_among k c resolve es) p (Contains-append_right (early_at k c resolve (name_of_tree e))
            (callee_at (Some q)) p (subst (Contains (q ∷ [])) is (first_among q [])))
        | inr rest ↦ Contains-append_right (early_at k c resolve (name_of_tree e) ++ callee_at (Some q))
            (early_among k c resolve es) p (later rest)
      ]
