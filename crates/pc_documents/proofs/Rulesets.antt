-- Lemmas that functions use together.
use Rattle.pc_documents.proofs.Keeping.{open_some, open_none, without_some, place_below, put_some, put_none}

pub ruleset puts = (place_below, put_some, put_none)

pub ruleset opens = (open_some, open_none)

pub ruleset closes = (open_some, open_none, without_some)
