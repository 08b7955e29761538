-- The expected type of a stored value.
use Rattle.std.proofs.Common.{◌≡◌, List, Option, Some, None, sym, subst}
use Rattle.std.specs.Option.{option_map}
use Rattle.pc_types.specs.Tree.{Tree}
use Rattle.pc_types.specs.Below.{Bases}
use Rattle.pc_flow.specs.WellFormed.{AreWellFormed, IsWellFormedIfAny}
use Rattle.pc_rules.specs.Operations.{StoreOffer, only_type}
use Rattle.pc_rules.specs.Computed.Standing.{HasIfAny}
use Rattle.pc_walk.specs.StatementsHeld.{HoldsTypeIfAny}
use Rattle.pc_module_rules.proofs.StoredTypes.{only_well_formed}

-- the type expected of a stored value is held
pub want_holds : {Ty : Type 0} (P : Ty → Type 0) (tree : Ty → Tree) (bases : Bases) (os : List StoreOffer)
    (ts : List Tree) (want : Option Ty) → AreWellFormed bases ts → HasIfAny P want
    → option_map tree want ≡ only_type os ts → HoldsTypeIfAny P tree bases want
want_holds P tree bases os ts None k h e = tt
want_holds P tree bases os ts (Some ty) k h e = record
    { given = h; well_formed = subst (IsWellFormedIfAny bases) (sym e) (only_well_formed bases os ts k) }
