-- Texts without the quotes around them.
use Rattle.std.proofs.Common.{◌≡◌, ◌≢◌, ℕ, Bool, true, false, ◌||◌, ◌==◌, if◌then◌else◌, List, [], ◌∷◌, ◌++◌, refl, ap}
use Rattle.std.proofs.Common.{sym, ◌∙◌}
use Rattle.std.proofs.lemmas.Bool.{eqb-true}
use Rattle.pc_token.specs.Strings.{is_quote}
use Rattle.pc_grammar.specs.Grammar.{unclosed, unopened}

not_quote : (b : ℕ) → b ≢ 39 → b ≢ 34 → is_quote b ≡ false
not_quote b n m = by_tests (b == 34) (b == 39) refl refl
  where
    by_tests : (u v : Bool) → (b == 34) ≡ u → (b == 39) ≡ v → is_quote b ≡ false
    by_tests true v e f = absurd (m (eqb-true b 34 e))
    by_tests false true e f = absurd (n (eqb-true b 39 f))
    by_tests false false e f = ap (λ z. z || (b == 39)) e ∙ f

pub opened : (bs rest : List ℕ) (c : ℕ) → is_quote c ≡ true → bs ≡ c ∷ rest → rest ≡ unopened bs
opened bs rest c q e = sym (ap unopened e ∙ ap (λ z. if z then rest else c ∷ rest) q)

pub not_opened : (bs : List ℕ) → ((rest : List ℕ) → bs ≢ 39 ∷ rest) → ((rest : List ℕ) → bs ≢ 34 ∷ rest)
    → bs ≡ unopened bs
not_opened [] n m = refl
not_opened (b ∷ bs) n m = sym (ap (λ z. if z then bs else b ∷ bs)
    (not_quote b (λ e. n bs (ap (λ z. z ∷ bs) e)) (λ e. m bs (ap (λ z. z ∷ bs) e))))

without_last : (front : List ℕ) (c : ℕ) → is_quote c ≡ true → unclosed (front ++ (c ∷ [])) ≡ front
without_last [] c q = ap (λ z. if z then [] else c ∷ []) q
without_last (b ∷ []) c q = ap (λ z. b ∷ z) (without_last [] c q)
without_last (b ∷ d ∷ front) c q = ap (λ z. b ∷ z) (without_last (d ∷ front) c q)

pub closed : (bs front : List ℕ) (c : ℕ) → is_quote c ≡ true → bs ≡ front ++ (c ∷ []) → front ≡ unclosed bs
closed bs front c q e = sym (ap unclosed e ∙ without_last front c q)

pub not_closed : (bs : List ℕ) → ((front : List ℕ) → bs ≢ front ++ (39 ∷ []))
    → ((front : List ℕ) → bs ≢ front ++ (34 ∷ [])) → bs ≡ unclosed bs
not_closed [] n m = refl
not_closed (b ∷ []) n m = sym (ap (λ z. if z then [] else b ∷ [])
    (not_quote b (λ e. n [] (ap (λ z. z ∷ []) e)) (λ e. m [] (ap (λ z. z ∷ []) e))))
not_closed (b ∷ d ∷ bs) n m = ap (λ z. b ∷ z) (not_closed (d ∷ bs) (λ f e. n (b ∷ f) (ap (λ z. b ∷ z) e))
    (λ f e. m (b ∷ f) (ap (λ z. b ∷ z) e)))
