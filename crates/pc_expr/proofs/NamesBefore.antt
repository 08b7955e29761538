-- Names of arguments, each once: with one more, which a set adds after the others.
use Rattle.std.proofs.Common.{◌≡◌, ℕ, List, [], ◌∷◌, ◌++◌, Bool as Test, true, false, refl, sym, ap, ◌∙◌}
use Rattle.std.specs.Prelude.{◌||◌, if◌then◌else◌, bytes_eq}
use Rattle.std.proofs.lemmas.Slice.Eq.{bytes_eq-Decides}
use Rattle.pc_scope.specs.Resolution.{is_one_of}
use Rattle.pc_calls.proofs.NamesGiven.{with_name, among_behind}
use Rattle.pc_expr.proofs.EntrySteps.{HaveSame}

-- a set with one more name has the same names as the list with that name before the others
pub same_with : (names : List (List ℕ)) (t : List ℕ) → HaveSame (with_name names t) (t ∷ names)
same_with names t word = go (is_one_of t names) refl
  where
    known : (d : Test) → bytes_eq word t ≡ d → is_one_of t names ≡ true
        → is_one_of word names ≡ (bytes_eq word t || is_one_of word names)
    known false d e = sym (ap (λ b. b || is_one_of word names) d)
    known true d e = ap (λ w. is_one_of w names) ((bytes_eq-Decides word t).0 d) ∙ e
        ∙ sym (ap (λ b. b || is_one_of word names) d)

    go : (b : Test) → is_one_of t names ≡ b → is_one_of word (if b then names else names ++ t ∷ [])
        ≡ (bytes_eq word t || is_one_of word names)
    go false e = among_behind t names word
    go true e = known (bytes_eq word t) refl e
