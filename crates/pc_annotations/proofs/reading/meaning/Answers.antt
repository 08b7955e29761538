use Rattle.std.proofs.Common.{ap, ◌∙◌}
use Rattle.pc_tree.specs.Tree.{module_of}
use Rattle.pc_scope.specs.Resolution.{resolve_in_module}
use Rattle.pc_annotations.proofs.reading.meaning.Goals as goal

pub returns : goal.returns
returns c =
    let m = module_of c.args.outline.now.tree.now in
    c.resolve.ensures.resolved m c.requires ∙ ap (resolve_in_module m) c.as_str.ensures.value
