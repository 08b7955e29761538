-- The outline of a module, in terms of the definitions.
-- Own rule of the profile.
use Rattle.std.specs.Prelude.{◌≡◌}
use Rattle.pc_tree.specs.Tree.{Module, module_of}
use Rattle.pc_scope.specs.ModuleScopes.{AreScopes}
use Rattle.pc_annotations.specs.Bases.{bases_of}
use Rattle.pc_annotations.specs.declared.outline.ModuleOutline.{ModuleOutline}

-- the module of an outline
abbrev pub module_in : ModuleOutline → Module
module_in o = module_of o.tree.now

-- the scopes and the parents are those of the module
pub record IsModuleOutline (o : ModuleOutline) : Type 0 where
  pub scopes : AreScopes (module_in o) o.scopes.now
  pub parents : o.parents.now ≡ bases_of (module_in o)
