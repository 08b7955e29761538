-- Findings that come after others, one after another.
use Rattle.std.proofs.Common.{◌≡◌, List, ◌++◌, append_assoc, ap, sym, ◌∙◌}
use Rattle.pc_source.specs.declared.place.Place.{Place}
use Rattle.pc_tree.specs.declared.code.Code.{Code}
use Rattle.pc_tree.specs.declared.code.Finding.{Finding}
use Rattle.pc_tree.specs.Code.{at_code}
use Rattle.pc_tree.proofs.Finds.{at_both}

-- findings of one code in two steps are those in one
pub joined : (c : Code) (front : List Finding) (xs ys : List Place) → (front ++ at_code c xs) ++ at_code c ys ≡ front
    ++ at_code c (xs ++ ys)
joined c front xs ys = append_assoc front (at_code c xs) (at_code c ys) ∙ ap (λ fs. front ++ fs) (sym (at_both c xs ys))
