use Rattle.std.proofs.Common.{refl}
use Rattle.std.specs.Prelude.{Some}
use Rattle.pc_module_rules.proofs.WalkedFunctions.{bodies_say}
use Rattle.pc_module_rules.proofs.WalkedStatements.{stmt_says, suite_says}
use Rattle.pc_module_rules.proofs.laws.walks_say_what_labels_say.Goals as goal

pub returns : goal.returns
returns c = record {
  statement = λ around returned kr declared seen table env exit_env found t f k s labels out l. stmt_says around
      returned kr declared seen table env exit_env found t f k s labels out l;
  suite = λ around returned kr declared seen table env exit_env found t f k b labels out l. suite_says around returned
      kr declared seen (record { table = table; env = Some env; exit_env = exit_env; found = found }) env refl t f k b
      labels out l;
  body = bodies_say;
}
