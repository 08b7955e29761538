-- Locals that are bound to values of their types.
use Rattle.std.specs.Prelude.{◌≡◌, ℕ, List, Some}
use Rattle.pc_types.specs.Tree.{Tree}
use Rattle.pc_types.specs.Below.{Bases}
use Rattle.pc_flow.specs.Environment.{Env, current, declared_type}
use Rattle.pc_scope.specs.Resolution.{index_of}
use Rattle.pc_value.specs.Value.{Value}
use Rattle.pc_machine.specs.State.{Frame}
use Rattle.pc_machine.specs.Names.{local_by_name}
use Rattle.pc_sound.specs.Values.{HeapTyping, HasType}

-- a local is bound to a value of its current and of its declared type
pub record HasLocal (bases : Bases) (k : HeapTyping) (declared : List Tree) (frame : Frame) (word : List ℕ) (x : ℕ)
    (t : Tree) : Type 0 where
  pub value : Value
  pub is : local_by_name word frame ≡ Some (Some value)
  pub now : HasType bases k t value
  pub always : HasType bases k (declared_type declared x) value

-- each assigned local is so; locals are told by their names, in the order of their numbers
pub record HasLocals (bases : Bases) (k : HeapTyping) (names : List (List ℕ)) (declared : List Tree) (env : Env)
    (frame : Frame) : Type 0 where
  pub each : (word : List ℕ) (x : ℕ) (t : Tree) → index_of word names ≡ Some x → current env x ≡ Some t
      → HasLocal bases k declared frame word x t
