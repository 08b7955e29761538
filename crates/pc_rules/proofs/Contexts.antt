-- The contexts of a module's bodies and initializers are well-formed.
use Rattle.std.proofs.Common.{List, [], ◌∷◌}
use Rattle.std.specs.Prelude.{map}
use Rattle.pc_tree.specs.Tree.{FuncDef, Module}
use Rattle.pc_scope.specs.Bindings.{functions_in}
use Rattle.pc_class.specs.Bases.{bases_of}
use Rattle.pc_annotations.proofs.Earlier.{smaller}
use Rattle.pc_class.proofs.WellFormed.{params_well_formed, returned_well_formed, all_classes_well_formed}
use Rattle.pc_rules.specs.Signatures.{signature_of, signatures_of}
use Rattle.pc_rules.specs.Laws.WellFormed.{SignaturesWellFormed, BodyContextsAreWellFormed}
use Rattle.pc_rules.specs.Laws.WellFormed.{InitializerContextsAreWellFormed}

module _ (m : Module) where
  functions_well_formed : (fs : List FuncDef) → SignaturesWellFormed (bases_of m) (map (signature_of m) fs)
  functions_well_formed [] = tt
  functions_well_formed (f ∷ fs) = (
    record {
      parameters = params_well_formed m f.params;
      returns =
          returned_well_formed m f;
    },
    functions_well_formed fs,
  )

  all_functions_well_formed : SignaturesWellFormed (bases_of m) (signatures_of m)
  unfolding signatures_of
  all_functions_well_formed = functions_well_formed (functions_in m.items)

pub bodies_well_formed : BodyContextsAreWellFormed
bodies_well_formed m constants names h = record {
  smaller = smaller m;
  classes = all_classes_well_formed m;
  functions =
      all_functions_well_formed m;
  constants = h;
}

pub initializers_well_formed : InitializerContextsAreWellFormed
initializers_well_formed m constants classes h = record {
  smaller = smaller m;
  classes = all_classes_well_formed m;
  functions = all_functions_well_formed m;
  constants = h;
}
