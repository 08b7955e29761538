use Rattle.pc_detail_texts.proofs.sentences.push_type_fault.Goals as goal

pub returns-in-Flow : goal.returns-in-Flow
returns-in-Flow c = rw c.in-Flow.is c.push_flow.ensures

pub returns-in-Operator : goal.returns-in-Operator
returns-in-Operator c = rw c.in-Operator.is c.push_undefined.ensures

pub returns-in-Call : goal.returns-in-Call
returns-in-Call c = rw c.in-Call.is c.push_misfit.ensures

pub returns-in-Attribute : goal.returns-in-Attribute
returns-in-Attribute c = rw c.in-Attribute.is c.push_attribute.ensures

pub returns-in-Index : goal.returns-in-Index
returns-in-Index c = rw c.in-Index.is c.push_no_items.ensures

pub returns-in-Store : goal.returns-in-Store
returns-in-Store c = rw c.in-Store.is c.push_lacking.ensures

pub returns-in-Iterate : goal.returns-in-Iterate
returns-in-Iterate c = rw c.in-Iterate.is c.push_lacking-in-Iterate.ensures

pub returns-in-IterateRange : goal.returns-in-IterateRange
returns-in-IterateRange c = rw c.in-IterateRange.is c.push_text.ensures

pub returns-in-Contain : goal.returns-in-Contain
returns-in-Contain c = rw c.in-Contain.is c.push_uncontained.ensures

pub returns-in-Length : goal.returns-in-Length
returns-in-Length c = rw c.in-Length.is c.push_lacking-in-Length.ensures

pub returns-in-ListTest : goal.returns-in-ListTest
returns-in-ListTest c = rw c.in-ListTest.is c.push_around.ensures

pub returns-in-Override : goal.returns-in-Override
returns-in-Override c = rw c.in-Override.is c.push_override.ensures
