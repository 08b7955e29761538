-- The arguments of a call and the parameters of what is called, as the program matches them: private to this crate.
-- Own rule of the profile.
use Rattle.std.specs.Prelude.{◌≡◌, ℕ, List, ◌||◌, not, if◌then◌else◌, Option, Some, None, is_some, length, take, drop, nat_le}
use Rattle.std.specs.Borrow.{Bor}
use Rattle.std.specs.BTreeMap.{BTreeMap, get_by}
use Rattle.std.specs.Cmp.Lexicographic.{slice_cmp}
use Rattle.std.specs.Ordering.{nat_cmp}
use Rattle.pc_tree.specs.Stopping.{has_none}
use Rattle.pc_scope.specs.Resolution.{index_of}
use Rattle.pc_rules.specs.Context.{Signature}
use Rattle.pc_rules.specs.Calls.{GivenArguments, is_free, parameter_names}
use Rattle.pc_detail_texts.specs.Details as detail
use Rattle.pc_detail_texts.specs.Details.{Misfit}
use Rattle.pc_detail_facts.specs.Callees.{parameters_in, takes_names_in}
use Rattle.pc_detail_rules.specs.Calls.{misfit_or, missing_misfit, named_misfit, unfilled}

-- the position of a name in a map, if it has one
abbrev pub position_held : BTreeMap (Bor (List ℕ)) ℕ → List ℕ → Option ℕ
position_held m word = get_by (λ k. slice_cmp nat_cmp word k.now) m

-- a map has exactly these names, each at its first place
pub record HasPositions (names : List (List ℕ)) (m : BTreeMap (Bor (List ℕ)) ℕ) : Type 0 where
  pub at : (word : List ℕ) → position_held m word ≡ index_of word names

-- the misfit of an argument by name, by the position of its parameter: there is none, or it is given by position
abbrev pub misfit_of_name : (positional : ℕ) → Option ℕ → List ℕ → Option Misfit
misfit_of_name positional position word = if is_free positional position then None
    else (if is_some position then Some (detail.given_twice word) else Some (detail.no_parameter word))

-- the first misfit of arguments and the parameters of a signature; without one there are none
abbrev pub signed_misfit : GivenArguments → Option Signature → Option Misfit
signed_misfit g s =
    if not (nat_le g.positional (length (parameters_in s)))
    then Some (detail.too_many (length (parameters_in s)) g.positional)
    else (if not (takes_names_in s || has_none g.named) then Some detail.by_position_only
    else misfit_or (named_misfit g.positional (parameters_in s) g.named)
    (missing_misfit (takes_names_in s) (length (parameters_in s)) g.positional
    (unfilled g.named (parameter_names (take g.positional (parameters_in s))) (drop g.positional (parameters_in s)))))
