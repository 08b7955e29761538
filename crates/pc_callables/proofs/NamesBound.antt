-- Sets of names that are already bound, with one name more.
use Rattle.std.proofs.Common.{◌≡◌, ℕ, List, [], ◌∷◌, ◌++◌, sym, ap, ◌∙◌}
use Rattle.std.specs.Prelude.{true, false, if◌then◌else◌}
use Rattle.pc_scope.specs.Resolution.{is_one_of}
use Rattle.pc_class.proofs.EntryWalk.{among_with}
use Rattle.pc_rules.specs.Computed.Signatures.{with_name}

-- a name that is bound already
pub bound_again : (name : List ℕ) (names : List (List ℕ)) → is_one_of name names ≡ true
    → (λ (t : List ℕ). is_one_of t names) ≡ with_name (λ t. is_one_of t names) name
bound_again name names e = λ j t. (ap (λ b. is_one_of t (if b then names else names ++ name ∷ [])) (sym e)
    ∙ among_with name names t) j

-- and one that is new
pub bound_anew : (name : List ℕ) (names more : List (List ℕ)) → is_one_of name names ≡ false → more ≡ names ++ name ∷ []
    → (λ (t : List ℕ). is_one_of t more) ≡ with_name (λ t. is_one_of t names) name
bound_anew name names more e is =
    λ j t. (ap (is_one_of t) is ∙ ap (λ b. is_one_of t (if b then names else names ++ name ∷ [])) (sym e)
    ∙ among_with name names t) j
