use Rattle.pc_detail_texts.proofs.reasons.push_end.Goals as goal

pub returns-in-Argument : goal.returns-in-Argument
returns-in-Argument c = rw c.in-Argument.is c.push_callable_then.ensures

pub returns-in-Return : goal.returns-in-Return
returns-in-Return c = rw c.in-Return.is c.push_function_then.ensures

pub returns-in-Sought : goal.returns-in-Sought
returns-in-Sought c = rw c.in-Sought.is c.push_name.ensures
