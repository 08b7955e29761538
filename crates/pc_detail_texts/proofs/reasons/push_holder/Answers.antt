use Rattle.pc_detail_texts.proofs.reasons.push_holder.Goals as goal

pub returns-in-Parameter : goal.returns-in-Parameter
returns-in-Parameter c = rw c.in-Parameter.is c.push_parameter_of.ensures

pub returns-in-Field : goal.returns-in-Field
returns-in-Field c = rw c.in-Field.is c.push_field.ensures

pub returns-in-Local : goal.returns-in-Local
returns-in-Local c = rw c.in-Local.is c.push_typed.ensures

pub returns-in-LoopTarget : goal.returns-in-LoopTarget
returns-in-LoopTarget c = rw c.in-LoopTarget.is c.push_typed-in-LoopTarget.ensures

pub returns-in-Constant : goal.returns-in-Constant
returns-in-Constant c = rw c.in-Constant.is c.push_typed-in-Constant.ensures

pub returns-in-ParameterDefault : goal.returns-in-ParameterDefault
returns-in-ParameterDefault c = rw c.in-ParameterDefault.is c.push_default_of.ensures

pub returns-in-FieldDefault : goal.returns-in-FieldDefault
returns-in-FieldDefault c = rw c.in-FieldDefault.is c.push_field-in-FieldDefault.ensures

pub returns-in-Item : goal.returns-in-Item
returns-in-Item c = rw c.in-Item.is c.push_named.ensures

pub returns-in-Key : goal.returns-in-Key
returns-in-Key c = rw c.in-Key.is c.push_named-in-Key.ensures

pub returns-in-Value : goal.returns-in-Value
returns-in-Value c = rw c.in-Value.is c.push_named-in-Value.ensures

pub returns-in-Index : goal.returns-in-Index
returns-in-Index c = rw c.in-Index.is c.push_named-in-Index.ensures
