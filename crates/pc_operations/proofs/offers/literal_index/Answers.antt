use Rattle.pc_operations.proofs.Literals.{literal_serves}
use Rattle.pc_operations.proofs.offers.literal_index.Goals as goal

pub returns-in-Int : goal.returns-in-Int
returns-in-Int c = λ bases t h. rw c.in-Int.is (literal_serves c.small_number.result _
    (rw c.as_str.ensures.value at c.small_number.ensures) bases t h)
