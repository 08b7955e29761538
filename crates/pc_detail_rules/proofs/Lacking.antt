-- A code is found on a type exactly if there is a member on which it is found.
use Rattle.std.proofs.Common.{◌≡◌, List, [], ◌∷◌, Bool, true, false, cond, refl, ◌∙◌}
use Rattle.std.proofs.lemmas.List.Folds.{list_any-append}
use Rattle.std.specs.Prelude.{not, ◌||◌, flat_map, filter, bytes_eq}
use Rattle.pc_tree.specs.declared.code.Code.{Code}
use Rattle.pc_tree.specs.Code.{text_of}
use Rattle.pc_tree.specs.Stopping.{has_none}
use Rattle.pc_types.specs.Tree.{Tree}
use Rattle.pc_types.specs.Shape.{members}
use Rattle.pc_rules.specs.Computed.Findings.{has_code}
use Rattle.pc_detail_rules.specs.Operations.{LackingIsExact}

lacking_step : (here later : Bool) (t : Tree) (others : List Tree) → later ≡ not (has_none others)
    → (here || later) ≡ not (has_none (cond here (t ∷ others) others))
lacking_step true later t others h = refl
lacking_step false later t others h = h

-- the members on which a code is found, one by one
members_exact : (found : Tree → List Code) (code : Code) (ts : List Tree)
    → has_code (flat_map found ts) code ≡ not (has_none (filter (λ t. has_code (found t) code) ts))
members_exact found code [] = refl
members_exact found code (t ∷ ts) =
    list_any-append (λ (d : Code). bytes_eq (text_of code) (text_of d)) (found t) (flat_map found ts)
    ∙ lacking_step (has_code (found t) code) (has_code (flat_map found ts) code) t
    (filter (λ u. has_code (found u) code) ts) (members_exact found code ts)

pub lacking_exact : LackingIsExact
lacking_exact found code t = members_exact found code (members t)
