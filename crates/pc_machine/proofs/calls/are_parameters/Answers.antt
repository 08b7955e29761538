use Rattle.std.proofs.Common.{◌≡◌, ◌∙◌, sym, ap, refl, List, [], ◌∷◌, map, ℕ, Bool}
use Rattle.std.specs.Prelude.{◌&&◌}
use Rattle.std.specs.List.{list_all}
use Rattle.pc_tree.specs.Stopping.{is_among}
use Rattle.pc_tree.specs.Names.{texts_in}
use Rattle.pc_machine.specs.State.{FormalParameter}
use Rattle.pc_machine.specs.Calls.{is_parameter, are_parameters}
use Rattle.pc_machine.specs.Machine.{named_of, parameter_of}
use Rattle.pc_machine.specs.declared.state.NamedValue.{NamedValue}
use Rattle.pc_machine.proofs.calls.are_parameters.Goals as goal

-- arguments are for parameters where their names are among those
all_are : (names : List (List ℕ)) (ps : List FormalParameter) → ((n : List ℕ) → is_among names n ≡ is_parameter n ps)
    → (xs : List NamedValue) → list_all (λ a. is_among names a.name.now) xs ≡ are_parameters (map named_of xs) ps
all_are names ps same [] = refl
all_are names ps same (x ∷ xs) = ap (λ (b : Bool). b && list_all (λ a. is_among names a.name.now) xs) (same x.name.now)
    ∙ ap (λ (b : Bool). is_parameter x.name.now ps && b) (all_are names ps same xs)

pub returns : goal.returns
returns c = c.are_among.ensures ∙ all_are (texts_in c.in_ok-names.names) (map parameter_of c.args.parameters.now)
    c.in_ok-names.ensures c.args.named.now
