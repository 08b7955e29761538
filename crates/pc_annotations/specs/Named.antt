-- The module whose classes are named.
use Rattle.pc_tree.specs.Tree.{Module, module_of}
use Rattle.pc_annotations.specs.declared.names.ClassNames.{ClassNames}

-- the module whose classes have these names
abbrev pub named_module : ClassNames → Module
named_module c = module_of c.tree.now
