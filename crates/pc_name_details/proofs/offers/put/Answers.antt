use Rattle.pc_name_details.proofs.offers.put.Goals as goal

pub returns : goal.returns
returns g c = c.in_ok-insert.ensures.updates
