-- The names that a statement binds, as unbound locals.
use Rattle.std.proofs.Common.{◌≡◌, ◌++◌, map, refl}
use Rattle.pc_tree.specs.Suites.{own_names, branches_of_stmt, last_suite}
use Rattle.pc_tree.specs.Tree.{Name, Stmt, pass, breaks, continues, returns, asserts, annotated, assigns, evaluates}
use Rattle.pc_tree.specs.Tree.{while_loop, for_loop, conditional, to_name, to_attribute, to_index}
use Rattle.pc_machine.specs.Names.{unbound, names_bound, names_bound_by, names_bound_in}
use Rattle.pc_machine.specs.State.{Local}
use Rattle.pc_machine.proofs.Lists.{map_both}

-- a local of this name, not bound yet
abbrev pub unbound_name : Name → Local
unbound_name n = unbound n.text

-- the names that a statement binds are its own, and then those of its suites
pub names_parts : (s : Stmt) → map unbound (names_bound_by s) ≡ map unbound_name (own_names s)
    ++ (map unbound (names_bound_in (branches_of_stmt s)) ++ map unbound (names_bound (last_suite s)))
names_parts (pass p) = refl
names_parts (breaks p) = refl
names_parts (continues p) = refl
names_parts (returns p value) = refl
names_parts (asserts p condition message) = refl
names_parts (annotated p n a value) = refl
names_parts (assigns p (to_name n) value) = refl
names_parts (assigns p (to_attribute q e f) value) = refl
names_parts (assigns p (to_index q e i) value) = refl
names_parts (evaluates p value) = refl
names_parts (while_loop p condition body) = refl
names_parts (for_loop p target iterable body) = refl
names_parts (conditional p bs otherwise) = map_both unbound (names_bound_in bs) (names_bound otherwise)
