-- The place of a name among parameters is that among their names.
use Rattle.std.proofs.Common.{◌≡◌, ℕ, zero, suc, List, [], ◌∷◌, map, Some, refl, ap, ◌∙◌}
use Rattle.std.specs.Prelude.{if◌then◌else◌, bytes_eq}
use Rattle.std.specs.Option.{option_map}
use Rattle.pc_types.specs.Tree.{Tree}
use Rattle.pc_scope.specs.Resolution.{index_of}
use Rattle.pc_class.specs.declared.table.Parameter.{Parameter as RustParameter}
use Rattle.pc_class.specs.Facts.{TypedParameter}
use Rattle.pc_rules.specs.Calls.{index_of_parameter, parameter_names}
use Rattle.pc_class.specs.Listed.{names_listed, parameter_name}
use Rattle.pc_class.specs.Tables.{parameter_with}

-- the position of a name among parameters is that among their names
pub position_index : (ps : List TypedParameter) (word : List ℕ)
    → index_of_parameter ps word ≡ index_of word (parameter_names ps)
position_index [] word = refl
position_index (p ∷ ps) word = ap (λ o. if bytes_eq word p.name then Some zero else option_map suc o)
    (position_index ps word)

pub listed_names : {Ty : Type 0} (tree : Ty → Tree) (ps : List (RustParameter Ty))
    → parameter_names (map (parameter_with tree) ps) ≡ names_listed ps
listed_names tree [] = refl
listed_names tree (p ∷ ps) = ap (λ (l : List (List ℕ)). parameter_name p ∷ l) (listed_names tree ps)

pub listed_position : {Ty : Type 0} (tree : Ty → Tree) (ps : List (RustParameter Ty)) (word : List ℕ)
    → index_of_parameter (map (parameter_with tree) ps) word ≡ index_of word (names_listed ps)
listed_position tree ps word = position_index (map (parameter_with tree) ps) word
    ∙ ap (index_of word) (listed_names tree ps)
