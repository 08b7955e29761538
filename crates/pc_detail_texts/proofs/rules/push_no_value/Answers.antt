use Rattle.pc_detail_texts.proofs.rules.push_no_value.Goals as goal

pub returns-in-Function : goal.returns-in-Function
returns-in-Function c = rw c.in-Function.is c.push_around.ensures

pub returns-in-Class : goal.returns-in-Class
returns-in-Class c = rw c.in-Class.is c.push_around-in-Class.ensures

pub returns-in-Reserved : goal.returns-in-Reserved
returns-in-Reserved c = rw c.in-Reserved.is c.push_around-in-Reserved.ensures

pub returns-in-Method : goal.returns-in-Method
returns-in-Method c = rw c.in-Method.is c.push_method.ensures
