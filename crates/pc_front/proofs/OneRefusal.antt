-- Bytes have at most one refusal.
use Rattle.std.proofs.Common.{◌≡◌, ℕ, List, [], ◌∷◌, ◌++◌, length, map, refl, sym, ap, ◌∙◌, subst, inl, inr}
use Rattle.std.proofs.Common.{append_assoc}
use Rattle.std.specs.Prelude.{◌⊎◌, Some, Result, Ok, Err}
use Rattle.std.proofs.lemmas.List.{append-nil}
use Rattle.pc_source.specs.declared.fault.Refusal.{Refusal}
use Rattle.pc_source.proofs.SourceRefusals.{same_refusal, one_refusal as one_of_source}
use Rattle.pc_source.proofs.SourceRefusals.{no_refusal as no_refusal_of_text}
use Rattle.pc_token.specs.Lexeme.{Lexeme, LogicalLine}
use Rattle.pc_token.specs.Splitting.{HasLines}
use Rattle.pc_token.proofs.AllLines.{only}
use Rattle.pc_layout.specs.Faults.{IsLayoutRefusal}
use Rattle.pc_layout.proofs.OneVerdict.{one_refusal as one_of_layout}
use Rattle.pc_tree.specs.Tree.{Module}
use Rattle.pc_tree.specs.Depth.{too_deep_at}
use Rattle.pc_grammar.specs.Grammar.Modules.{SpellsModule, IsFront}
use Rattle.pc_grammar.specs.Faults.{IsMisfit, EndsEarly, IsTooDeep, IsRefusal}
use Rattle.pc_grammar.proofs.CompleteModules.{spells_one}
use Rattle.pc_front.specs.Bytes.{IsLined, IsRefusalOf, of_source, of_tokens, of_layout, of_grammar}
use Rattle.pc_front.proofs.BytesLaws.{not_ok, one_lines, one_tokens}

-- ---- of tokens

front_of : (ts us : List Lexeme) → IsFront (ts ++ us) → IsFront ts
front_of ts us (rest, m, h) = (us ++ rest, m, subst (λ xs. SpellsModule m xs) (append_assoc ts us rest) h)

spelled_front : (ts : List Lexeme) (m : Module) → SpellsModule m ts → IsFront ts
spelled_front ts m h = ([], m, subst (λ xs. SpellsModule m xs) (sym (append-nil ts)) h)

-- where one list is split at two tokens: at the same, or one of them stands before the other
abbrev Apart : List Lexeme → Lexeme → List Lexeme → Type 0
Apart xs x ys = (more : List Lexeme) × (ys ≡ (xs ++ (x ∷ [])) ++ more)

two_splits : (xs : List Lexeme) (x : Lexeme) (us ys : List Lexeme) (y : Lexeme) (vs : List Lexeme)
    → xs ++ (x ∷ us) ≡ ys ++ (y ∷ vs) → (x ≡ y) ⊎ (Apart xs x ys ⊎ Apart ys y xs)
two_splits [] x us [] y vs e = let same : x ≡ y = cc in inl same
two_splits [] x us (z ∷ zs) y vs e = let same : x ≡ z = cc in inr (inl (zs, ap (λ w. w ∷ zs) (sym same)))
two_splits (z ∷ zs) x us [] y vs e = let same : z ≡ y = cc in inr (inr (zs, ap (λ w. w ∷ zs) same))
two_splits (z ∷ zs) x us (w ∷ ws) y vs e =
    let head : z ≡ w = cc in
    let tail : zs ++ (x ∷ us) ≡ ws ++ (y ∷ vs) = cc in
    elim (two_splits zs x us ws y vs tail) [
      | inl same ↦ inl same
      | inr (inl (more, is)) ↦ inr (inl (
        more,
        ap (λ l. w ∷ l) is ∙ ap (λ v. v ∷ ((zs ++ (x ∷ [])) ++ more))
            (sym head),
      ))
      | inr (inr (more, is)) ↦ inr (inr (more, ap (λ l. z ∷ l) is ∙ ap (λ v. v ∷ ((ws ++ (y ∷ [])) ++ more)) head))
    ]

one_misfit : (ts : List Lexeme) (a b : ℕ) → IsMisfit ts a → IsMisfit ts b → a ≡ b
one_misfit ts a b f g = elim (two_splits f.before f.token f.after g.before g.token g.after (sym f.all ∙ g.all)) [
  | inl same ↦ f.start ∙ ap (λ (t : Lexeme). t.place.start) same ∙ sym g.start
  | inr (inl (more, is)) ↦
      absurd (f.refused (front_of (f.before ++ (f.token ∷ [])) more (subst (λ xs. IsFront xs) is g.front)))
  | inr (inr (more, is)) ↦
      absurd (g.refused (front_of (g.before ++ (g.token ∷ [])) more (subst (λ xs. IsFront xs) is f.front)))
]

-- tokens with which a module begins have no misfit
no_misfit : (ts : List Lexeme) (a : ℕ) → IsMisfit ts a → ¬ (IsFront ts)
no_misfit ts a f h = f.refused (front_of (f.before ++ (f.token ∷ [])) f.after
    (subst (λ xs. IsFront xs) (f.all ∙ sym (append_assoc f.before (f.token ∷ []) f.after)) h))

one_depth : (ts : List Lexeme) (a b : ℕ) → IsTooDeep ts a → IsTooDeep ts b → a ≡ b
one_depth ts a b f g =
    let same : f.tree ≡ g.tree = spells_one f.tree g.tree ts f.spelled g.spelled in
    some_same (sym f.first ∙ ap too_deep_at same ∙ g.first)
  where
    some_same : Some a ≡ Some b → a ≡ b
    some_same e = cc

pub one_of_grammar : (ts : List Lexeme) (r q : Refusal) → IsRefusal ts r → IsRefusal ts q → r ≡ q
one_of_grammar ts r q (inl (c, inl f)) (inl (d, inl g)) = same_refusal r q (c ∙ sym d) (one_misfit ts r.byte q.byte f g)
one_of_grammar ts r q (inl (c, inl f)) (inl (d, inr g)) = absurd (no_misfit ts r.byte f g.front)
one_of_grammar ts r q (inl (c, inr f)) (inl (d, inl g)) = absurd (no_misfit ts q.byte g f.front)
one_of_grammar ts r q (inl (c, inr f)) (inl (d, inr g)) = same_refusal r q (c ∙ sym d) (f.end ∙ sym g.end)
one_of_grammar ts r q (inl (c, inl f)) (inr (d, g)) = absurd (no_misfit ts r.byte f (spelled_front ts g.tree g.spelled))
one_of_grammar ts r q (inl (c, inr f)) (inr (d, g)) = absurd (f.unspelled g.tree g.spelled)
one_of_grammar ts r q (inr (c, f)) (inl (d, inl g)) = absurd (no_misfit ts q.byte g (spelled_front ts f.tree f.spelled))
one_of_grammar ts r q (inr (c, f)) (inl (d, inr g)) = absurd (g.unspelled f.tree f.spelled)
one_of_grammar ts r q (inr (c, f)) (inr (d, g)) = same_refusal r q (c ∙ sym d) (one_depth ts r.byte q.byte f g)

-- ---- of lines

same_last : (a b : List LogicalLine) (r q : Refusal) → map Ok a ++ Err r ∷ [] ≡ map Ok b ++ Err q ∷ [] → r ≡ q
same_last [] [] r q e = cc
same_last [] (y ∷ b) r q e = cc
same_last (x ∷ a) [] r q e = cc
same_last (x ∷ a) (y ∷ b) r q e = same_last a b r q (cc)

module _ (bytes : List ℕ) where
  -- lines that are all there are not refused
  no_token_refusal : (lines before : List LogicalLine) (r : Refusal) → IsLined bytes lines
      → HasLines bytes (map Ok before ++ Err r ∷ []) → ⊥
  no_token_refusal lines before r h g = not_ok lines before r ((only bytes (map Ok before ++ Err r ∷ []) g).1
      (map Ok lines) h.split)

  pub one_refusal : (r q : Refusal) → IsRefusalOf bytes r → IsRefusalOf bytes q → r ≡ q
  one_refusal r q (of_source f) (of_source g) = one_of_source bytes r q f g
  one_refusal r q (of_source f) (of_tokens g) = absurd (no_refusal_of_text bytes r g.text f)
  one_refusal r q (of_source f) (of_layout g) = absurd (no_refusal_of_text bytes r g.lined.text f)
  one_refusal r q (of_source f) (of_grammar g) = absurd (no_refusal_of_text bytes r g.laid_out.lined.text f)
  one_refusal r q (of_tokens f) (of_source g) = absurd (no_refusal_of_text bytes q f.text g)
  one_refusal r q (of_tokens f) (of_tokens g) = same_last f.before g.before r q
      ((only bytes (map Ok g.before ++ Err q ∷ []) g.split).1 (map Ok f.before ++ Err r ∷ []) f.split)
  one_refusal r q (of_tokens f) (of_layout g) = absurd (no_token_refusal g.lines f.before r g.lined f.split)
  one_refusal r q (of_tokens f) (of_grammar g) = absurd (no_token_refusal g.laid_out.lines f.before r g.laid_out.lined
      f.split)
  one_refusal r q (of_layout f) (of_source g) = absurd (no_refusal_of_text bytes q f.lined.text g)
  one_refusal r q (of_layout f) (of_tokens g) = absurd (no_token_refusal f.lines g.before q f.lined g.split)
  one_refusal r q (of_layout f) (of_layout g) =
      one_of_layout (length bytes) g.lines r q (subst (λ ls. IsLayoutRefusal (length bytes) ls r)
      (one_lines bytes f.lines g.lines f.lined g.lined) f.refused) g.refused
  one_refusal r q (of_layout f) (of_grammar g) = absurd (g.laid_out.layout.faultless r.code r.byte
      (subst (λ ls. IsLayoutRefusal (length bytes) ls r) (one_lines bytes f.lines g.laid_out.lines f.lined
      g.laid_out.lined) f.refused).fault)
  one_refusal r q (of_grammar f) (of_source g) = absurd (no_refusal_of_text bytes q f.laid_out.lined.text g)
  one_refusal r q (of_grammar f) (of_tokens g) = absurd (no_token_refusal f.laid_out.lines g.before q f.laid_out.lined
      g.split)
  one_refusal r q (of_grammar f) (of_layout g) = absurd (f.laid_out.layout.faultless q.code q.byte
      (subst (λ ls. IsLayoutRefusal (length bytes) ls q) (one_lines bytes g.lines f.laid_out.lines g.lined
      f.laid_out.lined) g.refused).fault)
  one_refusal r q (of_grammar f) (of_grammar g) =
      one_of_grammar g.tokens r q (subst (λ ts. IsRefusal ts r) (one_tokens bytes f.tokens g.tokens f.laid_out
      g.laid_out) f.refused) g.refused
