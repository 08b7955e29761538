use Rattle.std.proofs.Common.{map}
use Rattle.pc_tree.specs.Tree.{module_of}
use Rattle.pc_annotations.specs.Named.{named_module}
use Rattle.pc_notes.specs.Notes.{notes_of}
use Rattle.pc_report.specs.TypeListing.{fact_of}
use Rattle.pc_top.proofs.ModuleTypes.{all_noted, just_noted}
use Rattle.pc_top.proofs.types.entries_named.Goals as goal

pub returns : goal.returns
returns g c =
    let m = module_of c.args.module.now in
    just_noted m (map fact_of c.add_noted.new.entries.items)
    (all_noted m (named_module c.args.names.now) (notes_of c.args.notes.now) _ _ _ c.requires.names
    c.requires.notes c.in_ok-entries.ensures c.in_ok-add_declared.ensures c.in_ok-add_noted.ensures)
