use Rattle.std.proofs.Common.{sym, subst}
use Rattle.pc_tree.specs.Tree.{option_ann_of}
use Rattle.pc_types.specs.WellFormed.{IsWellFormed}
use Rattle.pc_annotations.specs.ModuleOutlines.{module_in}
use Rattle.pc_annotations.proofs.Readings.{read_option_well_formed}
use Rattle.test_layers.proofs.locals.type_of.Goals as goal

pub returns-clause-well_formed : goal.returns-clause-well_formed
returns-clause-well_formed c =
    let outline = c.args.row.now.outline.now in
    subst (IsWellFormed outline.parents.now) (sym c.in_ok-read_option.ensures.typed.1)
    (read_option_well_formed (module_in outline) outline.parents.now c.ordered.ensures
    (option_ann_of c.args.annotation.now))
