-- Conditions and joins of environments, given the context that the program passes.
-- Own rule of the profile.
use Rattle.std.specs.Prelude.{Bool as Test}
use Rattle.pc_tree.specs.Tree.{Expr}
use Rattle.pc_types.specs.Tree.{Tree}
use Rattle.pc_flow.specs.Environment.{Env, join_env}
use Rattle.pc_flow.specs.Naming.{meanings}
use Rattle.pc_flow.specs.Narrowing.{narrow}
use Rattle.pc_flow.specs.Stored.{declared_of, HasEach}
use Rattle.pc_flow.specs.WellFormed.{AreWellFormed}
use Rattle.pc_flow.specs.declared.declarations.Declarations.{Declarations}

module _ {Ty : Type 0} (tree : Ty → Tree) where
  -- an environment where a condition is true, or where it is false
  abbrev pub narrow_with : Declarations Ty → (holds : Test) → Expr → Env → Env
  narrow_with d holds e env = narrow d.parents.now (declared_of tree d.declared.now) (meanings d.names.now) holds e env

  -- two environments joined
  abbrev pub join_with : Declarations Ty → (a b : Env) → Env
  join_with d a b = join_env d.parents.now (declared_of tree d.declared.now) a b
