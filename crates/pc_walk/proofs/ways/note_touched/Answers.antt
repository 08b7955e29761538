use Rattle.pc_walk.proofs.ways.note_touched.Goals as goal

pub returns-in-Some : goal.returns-in-Some
returns-in-Some g c = λ p. rw c.in-Some.is (c.add_touched.ensures p)
