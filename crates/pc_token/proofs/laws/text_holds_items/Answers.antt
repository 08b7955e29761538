use Rattle.pc_token.proofs.WithinText.{holds_items}
use Rattle.pc_token.proofs.laws.text_holds_items.Goals as goal

pub returns : goal.returns
returns c = holds_items
