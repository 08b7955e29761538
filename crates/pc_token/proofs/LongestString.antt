-- A string is the longest token at its place.
use Rattle.std.proofs.Common.{◌≡◌, ℕ, ◌<◌, List, [], ◌∷◌, ◌++◌, true, length, drop, get_or, refl, sym, ap, ◌∙◌, subst}
use Rattle.std.proofs.Common.{arith, append_assoc}
use Rattle.std.proofs.Math.ListN.{get_or-append}
use Rattle.pc_token.specs.declared.token.TokenKind.TheVariants as t
use Rattle.pc_token.specs.Spelling.{IsLongest}
use Rattle.pc_token.specs.Strings.{is_quote, IsBody, plain, escape, IsString}
use Rattle.pc_token.proofs.Leads.{lead_of, quote_token}
use Rattle.pc_token.proofs.StringBodies.{quote_no_backslash, plain_no_quote, plain_no_backslash}

-- a quote closes in one way
pub closes_once : (q : ℕ) (xs ys r s : List ℕ) → is_quote q ≡ true → IsBody q xs → IsBody q ys
    → xs ++ (q ∷ r) ≡ ys ++ (q ∷ s) → (xs ≡ ys) × (r ≡ s)
closes_once q [] [] r s quote h g e = (refl, (cc))
closes_once q [] (y ∷ ys) r s quote h (plain p _) e = let same : y ≡ q = cc in absurd (plain_no_quote q y p same)
closes_once q [] (y ∷ z ∷ ys) r s quote h (escape back _ _) e = let same : y ≡ q = cc in
    absurd (quote_no_backslash q quote (sym same ∙ back))
closes_once q (x ∷ xs) [] r s quote (plain p _) g e = let same : x ≡ q = cc in absurd (plain_no_quote q x p same)
closes_once q (x ∷ w ∷ xs) [] r s quote (escape back _ _) g e = let same : x ≡ q = cc in
    absurd (quote_no_backslash q quote (sym same ∙ back))
closes_once q (x ∷ xs) (y ∷ ys) r s quote (plain p h) (plain _ g) e =
    let tails : xs ++ (q ∷ r) ≡ ys ++ (q ∷ s) = cc in
    let heads : x ≡ y = cc in
    let (same, rest) = closes_once q xs ys r s quote h g tails in ((cc), rest)
closes_once q (x ∷ xs) (y ∷ z ∷ ys) r s quote (plain p h) (escape back _ _) e = let same : x ≡ y = cc in
    absurd (plain_no_backslash q x p (same ∙ back))
closes_once q (x ∷ w ∷ xs) (y ∷ ys) r s quote (escape back _ _) (plain p _) e = let same : x ≡ y = cc in
    absurd (plain_no_backslash q y p (sym same ∙ back))
closes_once q (x ∷ w ∷ xs) (y ∷ z ∷ ys) r s quote (escape _ _ h) (escape _ _ g) e =
    let tails : xs ++ (q ∷ r) ≡ ys ++ (q ∷ s) = cc in
    let heads : x ≡ y = cc in
    let seconds : w ≡ z = cc in
    let (same, rest) = closes_once q xs ys r s quote h g tails in ((cc), rest)

one_string : (bytes more : List ℕ) → IsString bytes → IsString (bytes ++ more) → more ≡ []
one_string bytes more (q, xs, quote, h, is) (p, ys, _, g, longer) =
    let moved : (xs ++ (q ∷ [])) ++ more ≡ xs ++ (q ∷ more) = rw append_assoc in
    let whole : q ∷ (xs ++ (q ∷ more)) ≡ p ∷ (ys ++ (p ∷ [])) = ap (λ x. q ∷ x) (sym moved)
    ∙ ap (λ x. x ++ more) (sym is) ∙ longer in
    let same : p ≡ q = cc in
    let tails : xs ++ (q ∷ more) ≡ ys ++ (q ∷ []) = rw same at (ap (drop 1) whole) in
    (closes_once q xs ys more [] quote h (subst (λ n. IsBody n ys) same g) tails).1

some : (bs : List ℕ) → is_quote (get_or bs 0 0) ≡ true → 0 < length bs
some [] h = let no : ⊥ = cc in absurd no
some (b ∷ bs) h = omega arith

-- no longer token begins
pub string_longest : (bytes rest : List ℕ) → IsString bytes → IsLongest t.Str bytes rest
string_longest bytes rest h =
    let quote = lead_of t.Str bytes h in
    record {
      token = h;
      longest = λ other more after e token.
          let lead : is_quote (get_or (bytes ++ more) 0 0) ≡ true = rw (get_or-append bytes more 0 0 (some bytes quote))
          quote in
          one_string bytes more h (quote_token (bytes ++ more) other lead token);
    }
