-- Codes with the same text are the same, and each code once is the same set of codes.
use Rattle.std.proofs.Common.{◌≡◌, ◌⊎◌, ℕ, List, [], ◌∷◌, ◌++◌, refl, sym, ap, ◌∙◌, subst, inl, inr, Contains}
use Rattle.std.specs.Prelude.{Bool as Test, true, false, ◌||◌, if◌then◌else◌, bytes_eq}
use Rattle.std.proofs.lemmas.Slice.Eq.{bytes_eq-Decides}
use Rattle.std.proofs.lemmas.List.Elements.{Contains-append_left, Contains-append_right}
use Rattle.pc_tree.specs.declared.code.Code.{Code}
use Rattle.pc_tree.specs.declared.code.Code.TheVariants.{A1, A2, A3, A4, A5, A6, A7, A8, E01, E02, E03, E04, E05, E06}
use Rattle.pc_tree.specs.declared.code.Code.TheVariants.{E07, E08, E09, E10, E11, E12, E13, E14, E15, E16, E17, E18}
use Rattle.pc_tree.specs.declared.code.Code.TheVariants.{E19, E20, E21, E22, E23, E24, E25, E26, E27, E28, E29, E30}
use Rattle.pc_tree.specs.declared.code.Code.TheVariants.{E31}
use Rattle.pc_tree.specs.Code.{text_of}
use Rattle.pc_tree.proofs.Among.{none_among, first_among, later_among, among_first, either}
use Rattle.pc_rules.specs.Computed.Findings.{has_code, add_code, once_onto, once}

-- ---- codes by their texts

every_code : List Code
every_code = A1 ∷ A2 ∷ A3 ∷ A4 ∷ A5 ∷ A6 ∷ A7 ∷ A8 ∷ E01 ∷ E02 ∷ E03 ∷ E04 ∷ E05 ∷ E06 ∷ E07 ∷ E08 ∷ E09 ∷ E10 ∷ E11
    ∷ E12 ∷ E13 ∷ E14 ∷ E15 ∷ E16 ∷ E17 ∷ E18 ∷ E19 ∷ E20 ∷ E21 ∷ E22 ∷ E23 ∷ E24 ∷ E25 ∷ E26 ∷ E27 ∷ E28 ∷ E29 ∷ E30
    ∷ E31 ∷ []

-- the first of several codes that has this text
code_by_text : List Code → List ℕ → Code
code_by_text [] word = A1
code_by_text (c ∷ cs) word = if bytes_eq word (text_of c) then c else code_by_text cs word

text_back : (c : Code) → code_by_text every_code (text_of c) ≡ c
unfolding code_by_text every_code
text_back A1 = refl
text_back A2 = refl
text_back A3 = refl
text_back A4 = refl
text_back A5 = refl
text_back A6 = refl
text_back A7 = refl
text_back A8 = refl
text_back E01 = refl
text_back E02 = refl
text_back E03 = refl
text_back E04 = refl
text_back E05 = refl
text_back E06 = refl
text_back E07 = refl
text_back E08 = refl
text_back E09 = refl
text_back E10 = refl
text_back E11 = refl
text_back E12 = refl
text_back E13 = refl
text_back E14 = refl
text_back E15 = refl
text_back E16 = refl
text_back E17 = refl
text_back E18 = refl
text_back E19 = refl
text_back E20 = refl
text_back E21 = refl
text_back E22 = refl
text_back E23 = refl
text_back E24 = refl
text_back E25 = refl
text_back E26 = refl
text_back E27 = refl
text_back E28 = refl
text_back E29 = refl
text_back E30 = refl
text_back E31 = refl

pub same_text : (c d : Code) → bytes_eq (text_of c) (text_of d) ≡ true → c ≡ d
same_text c d h = sym (text_back c) ∙ ap (code_by_text every_code) ((bytes_eq-Decides (text_of c) (text_of d)).0 h)
    ∙ text_back d

-- ---- each code once

among_codes : (cs : List Code) (c : Code) → has_code cs c ≡ true → Contains cs c
among_codes [] c h = absurd (cc h)
among_codes (d ∷ cs) c h = go (bytes_eq (text_of c) (text_of d)) refl h (λ k. among_codes cs c k)
  where
    go : (b : Test) → bytes_eq (text_of c) (text_of d) ≡ b → (b || has_code cs c) ≡ true
        → (has_code cs c ≡ true → Contains cs c) → Contains (d ∷ cs) c
    go true e k rest = subst (Contains (d ∷ cs)) (sym (same_text c d e)) (first_among d cs)
    go false e k rest = later_among d cs c (rest k)

-- one more code
module _ (cs : List Code) (c : Code) where
  added_keeps : (x : Code) → Contains cs x → Contains (add_code cs c) x
  added_keeps x h = go (has_code cs c)
    where
      go : (b : Test) → Contains (if b then cs else cs ++ c ∷ []) x
      go true = h
      go false = Contains-append_left cs (c ∷ []) x h

  added_has : Contains (add_code cs c) c
  added_has = go (has_code cs c) refl
    where
      go : (b : Test) → has_code cs c ≡ b → Contains (if b then cs else cs ++ c ∷ []) c
      go true e = among_codes cs c e
      go false e = Contains-append_right cs (c ∷ []) c (first_among c [])

  added_from : (x : Code) → Contains (add_code cs c) x → Contains cs x ⊎ (c ≡ x)
  added_from x = go (has_code cs c)
    where
      go : (b : Test) → Contains (if b then cs else cs ++ c ∷ []) x → Contains cs x ⊎ (c ≡ x)
      go true h = inl h
      go false h = either cs (c ∷ []) x h (λ a. inl a) (λ b. elim (among_first c [] x b)
          [ inl e ↦ inr e | inr n ↦ absurd (none_among x n) ])

onto_keeps : (before cs : List Code) (x : Code) → Contains before x → Contains (once_onto before cs) x
onto_keeps before [] x h = h
onto_keeps before (c ∷ cs) x h = onto_keeps (add_code before c) cs x (added_keeps before c x h)

onto_has : (before cs : List Code) (x : Code) → Contains cs x → Contains (once_onto before cs) x
onto_has before [] x h = absurd (none_among x h)
onto_has before (c ∷ cs) x h = elim (among_first c cs x h) [
  | inl e ↦ onto_keeps (add_code before c) cs x (subst (Contains (add_code before c)) e (added_has before c))
  | inr rest ↦ onto_has (add_code before c) cs x rest
]

onto_from : (before cs : List Code) (x : Code) → Contains (once_onto before cs) x → Contains before x ⊎ Contains cs x
onto_from before [] x h = inl h
onto_from before (c ∷ cs) x h = elim (onto_from (add_code before c) cs x h) [
  | inl a ↦ elim (added_from before c x a) [
    | inl b ↦ inl b
    | inr e ↦
        inr (subst (Contains (c ∷ cs)) e (first_among c cs))
  ]
  | inr rest ↦ inr (later_among c cs x rest)
]

-- each code once: the same codes
pub once_has : (cs : List Code) (x : Code) → Contains cs x → Contains (once cs) x
once_has cs x h = onto_has [] cs x h

pub once_from : (cs : List Code) (x : Code) → Contains (once cs) x → Contains cs x
once_from cs x h = elim (onto_from [] cs x h) [ inl n ↦ absurd (none_among x n) | inr c ↦ c ]
