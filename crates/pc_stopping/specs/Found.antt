-- The findings that stop a run, as lists in the order of walks over the tree.
-- Each code is an own rule of the profile.
use Rattle.std.specs.Prelude.{Bool, true, false, List, ◌++◌}
use Rattle.pc_source.specs.declared.place.Place.{Place}
use Rattle.pc_tree.specs.declared.code.Code.{Code}
use Rattle.pc_tree.specs.declared.code.Code.TheVariants.{E01, E05, E06, E28, E29, E31}
use Rattle.pc_tree.specs.declared.code.Finding.{Finding}
use Rattle.pc_tree.specs.Code.{at_code}
use Rattle.pc_tree.specs.Tree.{FuncDef, Item, Module}
use Rattle.pc_tree.specs.Stopping.{params_again, self_before, given_in_def, loose_in_def, reserved_in_def}
use Rattle.pc_tree.specs.Stopping.{late_plain_in, of_defs, twice, outside_loop, clashing_members, no_main}
use Rattle.pc_tree.specs.Stopping.{reserved_bound, default_order}
use Rattle.pc_stopping.specs.declared.defs.FunctionRule.{FunctionRule}
use Rattle.pc_stopping.specs.declared.defs.FunctionRule.TheVariants as rule

-- ---- the rules on one function

-- the code of a rule on a function
abbrev pub code_of : FunctionRule → Code
code_of rule.ParametersAgain = E01
code_of rule.GivenAgain = E01
code_of rule.OutsideLoop = E05
code_of rule.ReservedName = E29
code_of rule.LatePlain = E31

-- the places of the code of a rule in one function
abbrev pub places_by : FunctionRule → (is_method : Bool) → FuncDef → List Place
places_by rule.ParametersAgain b f = params_again (self_before b) f
places_by rule.GivenAgain b f = given_in_def f
places_by rule.OutsideLoop b f = loose_in_def f
places_by rule.ReservedName b f = reserved_in_def f
places_by rule.LatePlain b f = late_plain_in f

-- the places of the code of a rule in the functions and methods of items
abbrev pub in_defs : FunctionRule → List Item → List Place
in_defs r items = of_defs (places_by r false) (places_by r true) items

-- ---- all the findings

-- E01, E05, E28, E29, E31: conditions on names and on the places of statements
abbrev pub found_in_scopes : Module → List Finding
found_in_scopes m = at_code E01 (twice m)
    ++ (at_code E05 (outside_loop m)
    ++ (at_code E28 (no_main m) ++ (at_code E29 (reserved_bound m) ++ at_code E31 (default_order m))))

-- E06: members that clash
abbrev pub found_in_classes : Module → List Finding
found_in_classes m = at_code E06 (clashing_members m)
