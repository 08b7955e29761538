-- The iterable of a `for`: a call of `range`, or a value by its type.
use Rattle.std.proofs.Common.{◌≡◌, [], None, ap, arith}
use Rattle.std.specs.Prelude.{◌∷◌, Bool as Test, true, false, if◌then◌else◌}
use Rattle.pc_source.specs.declared.place.Place.{Place}
use Rattle.pc_tree.specs.Tree.{Expr, Exprs, Keywords, name, call}
use Rattle.pc_types.specs.Tree.{Int, Any}
use Rattle.pc_types.specs.Below.{Bases}
use Rattle.pc_types.specs.WellFormed.{IsWellFormed}
use Rattle.pc_tree.specs.declared.code.Code.TheVariants.{A5}
use Rattle.pc_rules.specs.Operations.{clean}
use Rattle.pc_rules.specs.Calls.{GivenArguments, is_suited, range_signature, arguments_given, range_item}
use Rattle.pc_rules.specs.Computed.Standing.{Standing, finds_in}
use Rattle.pc_rules.specs.Computed.Ranges.{range_finds}
use Rattle.pc_module_rules.specs.Computed.Statements.{BodyContext, item_label_of, values_item, iterable_finds}
use Rattle.pc_statements.specs.Internal.Ranges.{over_range}

module _ (context : BodyContext) (k : Standing) where
  -- the item of a call of `range`
  pub range_items : (p : Place) (c : Expr) (arguments : Exprs) (by_name : Keywords)
      → over_range context.context.resolve (call p c arguments by_name) ≡ true
      → item_label_of context k (call p c arguments by_name) ≡ range_item (arguments_given arguments by_name)
  range_items p (name n) arguments by_name h = ap (λ b. if b then range_item (arguments_given arguments by_name)
      else values_item context k (call p (name n) arguments by_name)) h
  range_items p c arguments by_name h = absurd (grind (arith, h))

  -- the findings in it
  pub range_found : (p : Place) (c : Expr) (arguments : Exprs) (by_name : Keywords)
      → over_range context.context.resolve (call p c arguments by_name) ≡ true →
      iterable_finds context k (call p c arguments by_name) ≡ range_finds k p c arguments by_name
  range_found p (name n) arguments by_name h = ap (λ b. if b then range_finds k p (name n) arguments by_name
      else finds_in k None (call p (name n) arguments by_name)) h
  range_found p c arguments by_name h = absurd (grind (arith, h))

-- the type of the item is well-formed
range_type_well_formed : (bases : Bases) (suited : Test) → IsWellFormed bases
    (if suited then clean Int else record { type = Any; codes = A5 ∷ [] }).type
range_type_well_formed bases true = (tt, tt, omega arith)
range_type_well_formed bases false = (tt, tt, omega arith)

pub range_well_formed : (bases : Bases) (g : GivenArguments) → IsWellFormed bases (range_item g).type
range_well_formed bases g = range_type_well_formed bases (is_suited g range_signature)
