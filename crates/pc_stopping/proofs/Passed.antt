-- Texts that were passed, as the test of those after them asks for them.
use Rattle.std.proofs.Common.{◌≡◌, ℕ, List, [], ◌∷◌, ◌++◌, refl, ap, ◌∙◌}
use Rattle.std.specs.Prelude.{Bool, ◌&&◌, ◌||◌, not, bytes_eq}
use Rattle.pc_source.specs.declared.place.Place.{Place}
use Rattle.pc_tree.specs.Tree.{Name, Keywords, no_keywords, more_keywords}
use Rattle.pc_tree.specs.Stopping.{is_among, one_if, bound_again, given_again}

-- the same texts before stay the same with one more
pub one_more : (b c : List (List ℕ)) (u : List ℕ) → ((t : List ℕ) → is_among b t ≡ is_among c t) → (t : List ℕ)
    → is_among (u ∷ b) t ≡ is_among (u ∷ c) t
one_more b c u same t = ap (λ x. bytes_eq u t || x) (same t)

same_head : (x y r : Bool) (p : Place) (ps qs : List Place) → x ≡ y → ps ≡ qs → one_if (x && not r) p ++ ps
    ≡ one_if (y && not r) p ++ qs
same_head x y r p ps qs e f = ap (λ z. one_if (z && not r) p ++ ps) e ∙ ap (λ zs. one_if (y && not r) p ++ zs) f

-- two lists with the same members are bound again at the same places
pub same_again : (b c : List (List ℕ)) → ((t : List ℕ) → is_among b t ≡ is_among c t) → (ns : List Name)
    → bound_again b ns ≡ bound_again c ns
same_again b c same [] = refl
same_again b c same (n ∷ ns) = same_head _ _ _ n.place _ _ (same n.text)
    (same_again (n.text ∷ b) (n.text ∷ c) (one_more b c n.text same) ns)

-- and given again at the same places
pub same_given : (b c : List (List ℕ)) → ((t : List ℕ) → is_among b t ≡ is_among c t) → (ks : Keywords)
    → given_again b ks ≡ given_again c ks
same_given b c same no_keywords = refl
same_given b c same (more_keywords n v ks) = ap (λ x. one_if x n.place ++ given_again (n.text ∷ b) ks) (same n.text)
    ∙ ap (λ (ps : List Place). one_if (is_among c n.text) n.place ++ ps)
    (same_given (n.text ∷ b) (n.text ∷ c) (one_more b c n.text same) ks)
