-- The properties of a context, the declared types and an environment that give expressions labels.
use Rattle.std.proofs.Common.{Bool as Test, true, false, Option, Some, None}
use Rattle.std.specs.Prelude.{if◌then◌else◌, nat_lt, slice_get}
use Rattle.pc_tree.specs.declared.code.Code.TheVariants.{E03, E20}
use Rattle.pc_scope.specs.declared.resolution.NameMeaning.{NameMeaning}
use Rattle.pc_scope.specs.declared.resolution.NameMeaning.TheVariants as meaning
use Rattle.pc_types.specs.Tree.{Tree}
use Rattle.pc_types.specs.Below.{Bases}
use Rattle.pc_flow.specs.Environment.{Env, current}
use Rattle.pc_rules.specs.Operations.{in_error}
use Rattle.pc_rules.specs.Context.{Context, local_label, constant_label, name_label}
use Rattle.pc_types.specs.WellFormed.{IsWellFormed}
use Rattle.pc_flow.specs.WellFormed.{IsWellFormedIfAny, IsWellFormedEnv}
use Rattle.pc_flow.proofs.Conditions.{current_well_formed}
use Rattle.pc_rules.proofs.WellFormed.{any_well_formed, at_well_formed}
use Rattle.pc_rules.specs.Laws.WellFormed.{ContextWellFormed}

local_well_formed : (bases : Bases) (t : Option Tree) → IsWellFormedIfAny bases t
    → IsWellFormed bases (local_label t).type
local_well_formed bases None h = any_well_formed bases
local_well_formed bases (Some t) h = h

constant_well_formed : (bases : Bases) (t : Option Tree) → IsWellFormedIfAny bases t
    → IsWellFormed bases (constant_label t).type
constant_well_formed bases None h = any_well_formed bases
constant_well_formed bases (Some t) h = h

early_well_formed : (bases : Bases) (b : Test) → IsWellFormed bases (if b then in_error E20 else in_error E03).type
early_well_formed bases true = any_well_formed bases
early_well_formed bases false = any_well_formed bases

pub name_well_formed : (ctx : Context) → ContextWellFormed ctx → (env : Env) → IsWellFormedEnv ctx.bases env → (r : NameMeaning)
    → IsWellFormed ctx.bases (name_label ctx env r).type
name_well_formed ctx k env h (meaning.Local x) = local_well_formed ctx.bases (current env x)
    (current_well_formed ctx.bases env x h)
name_well_formed ctx k env h (meaning.Const i) = constant_well_formed ctx.bases (slice_get ctx.constants i)
    (at_well_formed ctx.bases ctx.constants i k.constants)
name_well_formed ctx k env h (meaning.Func i) = early_well_formed ctx.bases ctx.in_body
name_well_formed ctx k env h (meaning.Class c) = early_well_formed ctx.bases (nat_lt c ctx.known)
name_well_formed ctx k env h (meaning.Builtin b) = any_well_formed ctx.bases
name_well_formed ctx k env h meaning.None = any_well_formed ctx.bases
