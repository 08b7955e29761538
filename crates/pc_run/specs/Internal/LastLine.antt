-- The last line of a module in a plain run.
-- Own rule of the profile.
use Rattle.std.specs.Prelude.{ℕ}
use Rattle.pc_value.specs.Value.{Value}
use Rattle.pc_machine.specs.Plain.{Step, plain}
use Rattle.pc_machine.specs.Runs.{plain_parts}
use Rattle.pc_machine.specs.Evaluation as text

-- the call of `main`
abbrev pub main_entered : ℕ → Step Value
main_entered n w = text.enter_main Step plain (plain_parts n) w
