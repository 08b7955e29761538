use Rattle.std.proofs.Common.{sym, rules}
use Rattle.pc_token.specs.Names.{name_form}
use Rattle.pc_token.proofs.Names.{name_form-ascii}
use Rattle.pc_token.proofs.name.form_of.Goals as goal

pub returns-then-known_ascii-clause-form : goal.returns-then-known_ascii-clause-form
returns-then-known_ascii-clause-form c = sym (name_form-ascii c.args.name.now (search rules))

pub returns-clause-form : goal.returns-clause-form
unfolding name_form
returns-clause-form c = search rules
