use Rattle.pc_reader.proofs.reader.Reader.sees.Goals as goal

pub returns-in-Some : goal.returns-in-Some
returns-in-Some g c = rw c.in-Some.is c.is_same.ensures
