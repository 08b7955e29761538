use Rattle.pc_source.proofs.source.character_fault.Goals as goal

-- a control character, and no coding comment
pub returns-in-Some-None-clause-first : goal.returns-in-Some-None-clause-first
returns-in-Some-None-clause-first c = record {
  here = c.in-Some-None.ensures.0;
  no_control = c.in-Some-None.ensures.1;
  no_coding = λ k h. c.in-Some-None.ensures'.first k;
}
