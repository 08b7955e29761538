use Rattle.pc_detail_facts.proofs.callees.add_builtin.Goals as goal

pub returns-in_ok-add_one-in-Print-clause-called : goal.returns-in_ok-add_one-in-Print-clause-called
returns-in_ok-add_one-in-Print-clause-called c =
    λ facts. rw c.in-Print.is (c.in_ok-add_one-in-Print.ensures.called facts)

pub returns-in_ok-add_one-in-Str-clause-called : goal.returns-in_ok-add_one-in-Str-clause-called
returns-in_ok-add_one-in-Str-clause-called c =
    λ facts. rw c.in-Str.is (c.in_ok-add_one-in-Str.ensures.called facts)

pub returns-in_ok-add_one-in-Len-clause-called : goal.returns-in_ok-add_one-in-Len-clause-called
returns-in_ok-add_one-in-Len-clause-called c =
    λ facts. rw c.in-Len.is (c.in_ok-add_one-in-Len.ensures.called facts)

pub returns-in_ok-add_one-in-IsInstance-clause-called : goal.returns-in_ok-add_one-in-IsInstance-clause-called
returns-in_ok-add_one-in-IsInstance-clause-called c =
    λ facts. rw c.in-IsInstance.is (c.in_ok-add_one-in-IsInstance.ensures.called facts)

pub returns-in_ok-add_one-in-Range-clause-called : goal.returns-in_ok-add_one-in-Range-clause-called
returns-in_ok-add_one-in-Range-clause-called c =
    λ facts. rw c.in-Range.is (c.in_ok-add_one-in-Range.ensures.called facts)
