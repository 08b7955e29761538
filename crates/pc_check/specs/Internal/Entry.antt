-- The inputs and results of the program at the entry of a function, in terms of the definitions. Own rule of the
-- profile.
use Rattle.std.specs.Prelude.{List, All}
use Rattle.pc_types.specs.declared.store.TypeStore.{Ghosts as StoreOf}
use Rattle.pc_class.specs.declared.table.Parameter.{Parameter}
use Rattle.pc_flow.specs.Environment.{Env}
use Rattle.pc_notes.specs.Notes.{Note}
use Rattle.pc_module_rules.specs.Computed.Statements.{BindingResult, DeclaredTypes}
use Rattle.pc_walk.specs.declared.walk.Walk.{Walk}
use Rattle.pc_walk.specs.Walks.{HoldsOne}

-- the types of parameters are types of the walk
abbrev pub HoldsParameters : {Store Ty : Type 0} (S : StoreOf Store Ty) → Walk Store Ty → List (Parameter Ty) → Type 0
HoldsParameters S w params = All (λ p. HoldsOne S w p.ty) params

-- the result of entering a function: a table and an environment, without new notes
abbrev pub entered : DeclaredTypes × Env → List Note → BindingResult
entered e found = record { table = e.0; env = e.1; found = found }
