-- At most one token is the longest at a place.
use Rattle.std.proofs.Common.{◌≡◌, ℕ, List, [], ◌∷◌, ◌++◌, Some, refl, sym, ap, ◌∙◌, subst, inl, inr, ◌⊎◌, append-nil}
use Rattle.std.specs.Prelude.{find, bytes_eq}
use Rattle.pc_token.specs.declared.token.Keyword.{Keyword}
use Rattle.pc_token.specs.declared.token.Keyword.TheVariants as k
use Rattle.pc_token.specs.declared.token.Operator.{Operator}
use Rattle.pc_token.specs.declared.token.Operator.TheVariants as o
use Rattle.pc_token.specs.declared.token.TokenKind.{TokenKind}
use Rattle.pc_token.specs.declared.token.TokenKind.TheVariants as t
use Rattle.pc_token.specs.Keywords.{keyword_text, keywords}
use Rattle.pc_token.specs.Operators.{operator_text, operators}
use Rattle.pc_token.specs.Spelling.{IsToken, IsLongest}
use Rattle.pc_token.proofs.Starts.{start_of_kind, kind_start}

-- of two fronts one goes on after the other
pub fronts : (a b r s : List ℕ) → a ++ r ≡ b ++ s → ((more : List ℕ) × (b ≡ a ++ more) × (r ≡ more ++ s))
    ⊎ ((more : List ℕ) × (a ≡ b ++ more) × (s ≡ more ++ r))
fronts [] b r s e = inl (b, refl, e)
fronts (x ∷ a) [] r s e = inr (x ∷ a, refl, sym e)
fronts (x ∷ a) (y ∷ b) r s e =
    let heads : x ≡ y = cc in
    let tails : a ++ r ≡ b ++ s = cc in
    elim (fronts a b r s tails) [
      | inl p ↦ inl (p.0, (let q = p.1 in cc), p.2)
      | inr p ↦ inr (p.0, (let q = p.1 in cc), p.2)
    ]

found_keyword : (k : Keyword) → find (λ x. bytes_eq (keyword_text x) (keyword_text k)) keywords ≡ Some k
found_keyword k.False = refl
found_keyword _ = refl

found_operator : (x : Operator) → find (λ y. bytes_eq (operator_text y) (operator_text x)) operators ≡ Some x
found_operator o.Plus = refl
found_operator _ = refl

same_keyword : (k l : Keyword) → keyword_text k ≡ keyword_text l → k ≡ l
same_keyword k l e =
    let found : Some k ≡ Some l = sym (found_keyword k) ∙ ap (λ y. find (λ x. bytes_eq (keyword_text x) y) keywords) e
    ∙ found_keyword l in cc

same_operator : (x y : Operator) → operator_text x ≡ operator_text y → x ≡ y
same_operator x y e =
    let found : Some x ≡ Some y = sym (found_operator x) ∙ ap (λ z. find (λ w. bytes_eq (operator_text w) z) operators)
    e ∙ found_operator y in cc

-- bytes spell a token of at most one kind
pub one_kind : (a b : TokenKind) (bytes : List ℕ) → IsToken a bytes → IsToken b bytes → a ≡ b
one_kind t.Name t.Name bytes h g = refl
one_kind t.Int t.Int bytes h g = refl
one_kind t.Str t.Str bytes h g = refl
one_kind t.Name (t.Keyword k) bytes h g = absurd (h.1 k g)
one_kind (t.Keyword k) t.Name bytes h g = absurd (g.1 k h)
one_kind (t.Keyword k) (t.Keyword l) bytes h g = ap (λ x. t.Keyword x) (same_keyword k l (h ∙ sym g))
one_kind (t.Operator x) (t.Operator y) bytes h g = ap (λ z. t.Operator z) (same_operator x y (h ∙ sym g))
one_kind t.Newline b bytes h g = absurd h
one_kind t.Indent b bytes h g = absurd h
one_kind t.Dedent b bytes h g = absurd h
one_kind t.End b bytes h g = absurd h
one_kind a t.Newline bytes h g = absurd g
one_kind a t.Indent bytes h g = absurd g
one_kind a t.Dedent bytes h g = absurd g
one_kind a t.End bytes h g = absurd g
one_kind a b bytes h g =
    let same : start_of_kind a ≡ start_of_kind b = sym (kind_start a bytes h) ∙ kind_start b bytes g in
    let no : ⊥ = cc in absurd no

one_front : (a b : TokenKind) (x y r s : List ℕ) → x ++ r ≡ y ++ s → IsLongest a x r → IsLongest b y s → x ≡ y
one_front a b x y r s e h g = elim (fronts x y r s e) [
  | inl p ↦
      let nothing = h.longest b p.0 s p.2 (subst (λ z. IsToken b z) p.1 g.token) in
      sym (append-nil x) ∙ ap (λ z. x ++ z) (sym nothing) ∙ sym p.1
  | inr p ↦
      let nothing = g.longest a p.0 r p.2 (subst (λ z. IsToken a z) p.1 h.token) in
      p.1 ∙ ap (λ z. y ++ z) nothing ∙ append-nil y
]

-- two longest tokens at one place are one
pub one_longest : (a b : TokenKind) (x y r s : List ℕ) → x ++ r ≡ y ++ s → IsLongest a x r → IsLongest b y s → (a ≡ b)
    × (x ≡ y)
one_longest a b x y r s e h g =
    let same = one_front a b x y r s e h g in
    (one_kind a b y (subst (λ z. IsToken a z) same h.token) g.token, same)
