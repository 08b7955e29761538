use Rattle.pc_detail_texts.proofs.rules.push_rule_fault.Goals as goal

pub returns-in-NotAValue : goal.returns-in-NotAValue
returns-in-NotAValue c = rw c.in-NotAValue.is c.push_no_value.ensures

pub returns-in-NoReturn : goal.returns-in-NoReturn
returns-in-NoReturn c = rw c.in-NoReturn.is c.push_function_then.ensures

pub returns-in-Keys : goal.returns-in-Keys
returns-in-Keys c = rw c.in-Keys.is (rw c.deref.ensures.value at c.push_keys.ensures)

pub returns-in-MethodStore : goal.returns-in-MethodStore
returns-in-MethodStore c = rw c.in-MethodStore.is c.push_method.ensures

pub returns-in-NoTest : goal.returns-in-NoTest
returns-in-NoTest c = rw c.in-NoTest.is c.push_no_test.ensures

pub returns-in-Size : goal.returns-in-Size
returns-in-Size c = rw c.in-Size.is c.push_number_around.ensures

pub returns-in-RangeElsewhere : goal.returns-in-RangeElsewhere
returns-in-RangeElsewhere c = rw c.in-RangeElsewhere.is c.push_text.ensures

pub returns-in-Twice : goal.returns-in-Twice
returns-in-Twice c = rw c.in-Twice.is (rw c.earlier_words.ensures at c.push_around.ensures)

pub returns-in-UnknownName : goal.returns-in-UnknownName
returns-in-UnknownName c = rw c.in-UnknownName.is c.push_unknown.ensures

pub returns-in-Early : goal.returns-in-Early
returns-in-Early c = rw c.in-Early.is c.push_early.ensures

pub returns-in-Unassigned : goal.returns-in-Unassigned
returns-in-Unassigned c = rw c.in-Unassigned.is c.push_around-in-Unassigned.ensures

pub returns-in-OutsideLoop : goal.returns-in-OutsideLoop
returns-in-OutsideLoop c = rw c.in-OutsideLoop.is (rw c.leaving_words.ensures at c.push_both.ensures)

pub returns-in-Member : goal.returns-in-Member
returns-in-Member c = rw c.in-Member.is c.push_pair.ensures

pub returns-in-Base : goal.returns-in-Base
returns-in-Base c = rw c.in-Base.is c.push_base.ensures

pub returns-in-FieldOrder : goal.returns-in-FieldOrder
returns-in-FieldOrder c = rw c.in-FieldOrder.is c.push_field_order.ensures

pub returns-in-Annotation : goal.returns-in-Annotation
returns-in-Annotation c = rw c.in-Annotation.is c.push_annotation.ensures

pub returns-in-Union : goal.returns-in-Union
returns-in-Union c = rw c.in-Union.is c.push_clash.ensures

pub returns-in-LateAnnotation : goal.returns-in-LateAnnotation
returns-in-LateAnnotation c = rw c.in-LateAnnotation.is c.push_around-in-LateAnnotation.ensures

pub returns-in-Main : goal.returns-in-Main
returns-in-Main c = rw c.in-Main.is (rw c.main_words.ensures at c.push_text-in-Main.ensures)

pub returns-in-Reserved : goal.returns-in-Reserved
returns-in-Reserved c = rw c.in-Reserved.is c.push_around-in-Reserved.ensures

pub returns-in-Unreachable : goal.returns-in-Unreachable
returns-in-Unreachable c = rw c.in-Unreachable.is (rw c.leaving_words-in-Unreachable.ensures at c.push_both-in-Unreachable.ensures)

pub returns-in-DefaultOrder : goal.returns-in-DefaultOrder
returns-in-DefaultOrder c = rw c.in-DefaultOrder.is c.push_default_order.ensures
