use Rattle.pc_tree.specs.Tree.{ann_of}
use Rattle.pc_annotations.specs.ModuleOutlines.{module_in}
use Rattle.pc_annotations.proofs.Listing.{found_behind}
use Rattle.pc_annotations.proofs.whole.read_ann.Goals as goal

pub returns-clause-found : goal.returns-clause-found
returns-clause-found g c = found_behind (module_in c.args.outline.now) c.args.outline.now.parents.now
    (ann_of c.args.ann.now) c.read_whole.result c.args.found.now.items c.read_whole.new.found.items
    c.read_whole.ensures.pushed
