-- The members that another member may absorb: private to this crate.
-- Own rule of the profile.
use Rattle.std.specs.Prelude.{Bool as Test, true, false}
use Rattle.std.specs.Option.{option_map_or}
use Rattle.pc_types.specs.Tree.{Tree, Bool, Class}
use Rattle.pc_types.specs.Below.{Bases, base_of}

-- a member that another may absorb: bool, or a class with a base
abbrev pub may_be_absorbed : Bases → Tree → Test
may_be_absorbed bases Bool = true
may_be_absorbed bases (Class c) = option_map_or (λ b. true) (base_of bases c) false
may_be_absorbed bases _ = false
