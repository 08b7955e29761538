-- Names among those bound so far.
use Rattle.std.proofs.Common.{List, [], arith, inl, inr, refl, ℕ, ◌++◌, ◌∷◌, ◌≡◌}
use Rattle.std.specs.Prelude.{bytes_eq, true, ◌⊎◌}
use Rattle.std.proofs.lemmas.Slice.Eq.{bytes_eq-Decides}
use Rattle.pc_tree.specs.Tree.{Name}
use Rattle.pc_scope.specs.Bindings.{texts}
use Rattle.pc_scope.specs.Resolution.{is_one_of}
use Rattle.pc_module_rules.specs.Statements.{NamesBound}
use Rattle.pc_module_rules.proofs.OneStatement.{IsAmong, among_right}
use Rattle.std.proofs.lemmas.Bool.{or_cases, or_left, or_right}

same_text : (word : List ℕ) → bytes_eq word word ≡ true
same_text word = (bytes_eq-Decides word word).1 refl

-- ---- names among names

-- each name of the first is one of the second
abbrev pub Within : NamesBound → NamesBound → Type 0
Within a b = (word : List ℕ) → IsAmong word a → IsAmong word b

among_left : (word : List ℕ) (xs ys : List (List ℕ)) → IsAmong word xs → IsAmong word (xs ++ ys)
among_left word [] ys h = absurd (grind (arith, h))
among_left word (x ∷ xs) ys h = elim (or_cases (bytes_eq word x) (is_one_of word xs) h) [
  | inl e ↦ or_left (bytes_eq word x) (is_one_of word (xs ++ ys)) e
  | inr r ↦ or_right (bytes_eq word x) (is_one_of word (xs ++ ys)) (among_left word xs ys r)
]

among_cases : (word : List ℕ) (xs ys : List (List ℕ)) → IsAmong word (xs ++ ys) → (IsAmong word xs) ⊎ (IsAmong word ys)
among_cases word [] ys h = inr h
among_cases word (x ∷ xs) ys h = elim (or_cases (bytes_eq word x) (is_one_of word (xs ++ ys)) h) [
  | inl e ↦ inl (or_left (bytes_eq word x) (is_one_of word xs) e)
  | inr r ↦ elim (among_cases word xs ys r) [
    | inl a ↦ inl (or_right (bytes_eq word x) (is_one_of word xs) a)
    | inr b ↦
        inr b
  ]
]

pub within_right : (xs seen : NamesBound) → Within seen (xs ++ seen)
within_right xs seen word h = among_right word xs seen h

texts_left : (word : List ℕ) (a b : List Name) → IsAmong word (texts a) → IsAmong word (texts (a ++ b))
texts_left word [] b h = absurd (grind (arith, h))
texts_left word (n ∷ a) b h = elim (or_cases (bytes_eq word n.text) (is_one_of word (texts a)) h) [
  | inl e ↦ or_left (bytes_eq word n.text) (is_one_of word (texts (a ++ b))) e
  | inr r ↦ or_right (bytes_eq word n.text) (is_one_of word (texts (a ++ b))) (texts_left word a b r)
]

texts_right : (word : List ℕ) (a b : List Name) → IsAmong word (texts b) → IsAmong word (texts (a ++ b))
texts_right word [] b h = h
texts_right word (n ∷ a) b h = or_right (bytes_eq word n.text) (is_one_of word (texts (a ++ b)))
    (texts_right word a b h)

-- names one after another are names of both
pub within_both : (a b : List Name) (seen : NamesBound) → Within (texts b ++ (texts a ++ seen)) (texts (a ++ b) ++ seen)
within_both a b seen word h = elim (among_cases word (texts b) (texts a ++ seen) h) [
  | inl x ↦ among_left word (texts (a ++ b)) seen (texts_right word a b x)
  | inr y ↦ elim (among_cases word (texts a) seen y) [
    | inl x ↦ among_left word (texts (a ++ b)) seen (texts_left word a b x)
    | inr z ↦ among_right word (texts (a ++ b)) seen z
  ]
]

pub here_among : (word : List ℕ) (seen : NamesBound) → IsAmong word (word ∷ seen)
here_among word seen = or_left (bytes_eq word word) (is_one_of word seen) (same_text word)

pub within_one : (word : List ℕ) (seen : NamesBound) → Within seen (word ∷ seen)
within_one word seen w a = or_right (bytes_eq w word) (is_one_of w seen) a

pub within_later : (n : Name) (ns : List Name) (seen : NamesBound)
    → Within (texts ns ++ (n.text ∷ seen)) (n.text ∷ (texts ns ++ seen))
within_later n ns seen = within_both (n ∷ []) ns seen
