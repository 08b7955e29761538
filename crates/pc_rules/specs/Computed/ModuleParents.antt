-- The parents of the classes of a module, as the program holds them. Own rule of the profile.
use Rattle.pc_types.specs.Below.{Bases}
use Rattle.pc_rules.specs.declared.expr_context.ModuleContext.{ModuleContext}

-- the parent of each class of the module that the program checks
abbrev pub class_parents : {Ty : Type 0} → ModuleContext Ty → Bases
class_parents globals = globals.outline.now.parents.now
