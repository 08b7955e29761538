-- Lines are the lines of one forest at most, so they have one layout at most.
use Rattle.std.proofs.Common.{◌≡◌, ℕ, ◌<◌, ◌≤◌, true, false, nat_lt, if◌then◌else◌, List, [], ◌∷◌, ◌++◌, refl, ap, sym}
use Rattle.std.proofs.Common.{◌∙◌, inl, inr, arith}
use Rattle.std.proofs.lemmas.Bool.{ltb-true, ltb-false}
use Rattle.pc_token.specs.Lexeme.{Lexeme, LogicalLine}
use Rattle.pc_layout.specs.Forest.{Suite, nothing, line, lines_of, IsSuite}
use Rattle.pc_layout.specs.Flat.{flat}
use Rattle.pc_layout.specs.Layouts.{IsLayout}
use Rattle.pc_layout.proofs.Forests.{by_bool}

-- the lines up to the first that is not deeper than a column, and the others
deeper_front : ℕ → List LogicalLine → List LogicalLine
deeper_front c [] = []
deeper_front c (l ∷ ls) = if nat_lt c l.column then l ∷ deeper_front c ls else []

deeper_rest : ℕ → List LogicalLine → List LogicalLine
deeper_rest c [] = []
deeper_rest c (l ∷ ls) = if nat_lt c l.column then deeper_rest c ls else l ∷ ls

AreDeeper : ℕ → List LogicalLine → Type 0
AreDeeper c [] = Unit {0}
AreDeeper c (l ∷ ls) = (c < l.column) × AreDeeper c ls

StartAt : ℕ → List LogicalLine → Type 0
StartAt c [] = Unit {0}
StartAt c (l ∷ ls) = l.column ≡ c

is_less : (a b : ℕ) → a < b → nat_lt a b ≡ true
is_less a b h = elim (by_bool (nat_lt a b)) [ inl t ↦ t | inr u ↦ absurd (omega (arith, ltb-false a b u)) ]

not_less : (a b : ℕ) → b ≤ a → nat_lt a b ≡ false
not_less a b h = elim (by_bool (nat_lt a b)) [ inl t ↦ absurd (omega (arith, ltb-true a b t)) | inr u ↦ u ]

module _ (c : ℕ) where
  front_is : (ls ms : List LogicalLine) → AreDeeper c ls → StartAt c ms → deeper_front c (ls ++ ms) ≡ ls
  unfolding deeper_front AreDeeper StartAt
  front_is [] [] a b = refl
  front_is [] (m ∷ ms) a b = let t : nat_lt c m.column ≡ false = not_less c m.column (omega (arith, b)) in rw t refl
  front_is (l ∷ ls) ms a b = let t : nat_lt c l.column ≡ true = is_less c l.column a.0 in
      rw t (ap (λ z. l ∷ z) (front_is ls ms a.1 b))

  rest_is : (ls ms : List LogicalLine) → AreDeeper c ls → StartAt c ms → deeper_rest c (ls ++ ms) ≡ ms
  unfolding deeper_rest AreDeeper StartAt
  rest_is [] [] a b = refl
  rest_is [] (m ∷ ms) a b = let t : nat_lt c m.column ≡ false = not_less c m.column (omega (arith, b)) in rw t refl
  rest_is (l ∷ ls) ms a b = let t : nat_lt c l.column ≡ true = is_less c l.column a.0 in rw t (rest_is ls ms a.1 b)

  both_deeper : (ls ms : List LogicalLine) → AreDeeper c ls → AreDeeper c ms → AreDeeper c (ls ++ ms)
  unfolding AreDeeper
  both_deeper [] ms a b = b
  both_deeper (l ∷ ls) ms a b = (a.0, both_deeper ls ms a.1 b)

  suite_deeper : (d : ℕ) (s : Suite) → c < d → IsSuite d s → AreDeeper c (lines_of s)
  unfolding AreDeeper
  suite_deeper d nothing lt h = tt
  suite_deeper d (line l inner others) lt (e, (f, up, i), o) = (
    omega (arith, e),
    both_deeper (lines_of inner) (lines_of others) (suite_deeper f inner (omega arith) i)
        (suite_deeper d others lt o),
  )

  suite_starts : (s : Suite) → IsSuite c s → StartAt c (lines_of s)
  unfolding StartAt
  suite_starts nothing h = tt
  suite_starts (line l inner others) h = h.0

same_line : (l m : LogicalLine) (ls ms : List LogicalLine) → l ∷ ls ≡ m ∷ ms → (l ≡ m) × (ls ≡ ms)
same_line l m ls ms e = (cc, cc)

pub one_forest : (c d : ℕ) (s t : Suite) → IsSuite c s → IsSuite d t → lines_of s ≡ lines_of t → s ≡ t
one_forest c d nothing nothing h g e = refl
one_forest c d nothing (line m inner others) h g e = absurd (cc)
one_forest c d (line l inner others) nothing h g e = absurd (cc)
one_forest c d (line l inner others) (line m inner' others') (a, (f, up, i), o) (b, (f', up', i'), o') e =
    let q : (l ≡ m) × (lines_of inner ++ lines_of others ≡ lines_of inner' ++ lines_of others') = same_line l m _ _ e in
    let cd : d ≡ c = sym b ∙ ap (λ (z : LogicalLine). z.column) (sym q.0) ∙ a in
    let j' : AreDeeper c (lines_of inner') = suite_deeper c f' inner' (omega (arith, cd)) i' in
    let k' : StartAt c (lines_of others') = suite_starts c others' (rw cd at o') in
    let fronts : lines_of inner ≡ lines_of inner' = sym (front_is c (lines_of inner) (lines_of others)
    (suite_deeper c f inner up i) (suite_starts c others o)) ∙ ap (deeper_front c) q.1
    ∙ front_is c (lines_of inner') (lines_of others') j' k' in
    let rests : lines_of others ≡ lines_of others' = sym (rest_is c (lines_of inner) (lines_of others)
    (suite_deeper c f inner up i) (suite_starts c others o)) ∙ ap (deeper_rest c) q.1
    ∙ rest_is c (lines_of inner') (lines_of others') j' k' in
    let x : inner ≡ inner' = one_forest f f' inner inner' i i' fronts in
    let y : others ≡ others' = one_forest c d others others' o o' rests in
    let z : l ≡ m = q.0 in
    cc

pub one_layout : (text : List ℕ) (ls : List LogicalLine) (xs ys : List Lexeme) → IsLayout text ls xs
    → IsLayout text ls ys → xs ≡ ys
one_layout text ls xs ys h g = let e : h.forest ≡ g.forest = one_forest 0 0 h.forest g.forest h.suite g.suite
    (h.its_lines ∙ sym g.its_lines) in h.written ∙ ap (flat text) e ∙ sym g.written
