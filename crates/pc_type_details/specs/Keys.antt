-- The types of the keys of a dict display, as the program collects them: private to this crate. Own rule of the profile.
use Rattle.std.specs.Prelude.{◌-◌, List, ◌++◌, length, take}
use Rattle.pc_types.specs.Tree.{Tree}
use Rattle.pc_detail_rules.specs.Operations.{different}

-- the first three different types: those seen, and then those of the rest that are not among them
abbrev pub first_keys : (seen rest : List Tree) → List Tree
first_keys seen rest = seen ++ take (3 - length seen) (different seen rest)
