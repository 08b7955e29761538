use Rattle.std.proofs.Common.{[], List, ℕ, sym, subst, map}
use Rattle.std.specs.Borrow.{Bor}
use Rattle.pc_tree.specs.Names.{text_seen}
use Rattle.pc_stopping.specs.Holdings.{Has}
use Rattle.pc_stopping.proofs.HeldNames.{at_first}
use Rattle.pc_stopping.proofs.holdings.Holdings.new.Goals as goal

pub returns : goal.returns
returns c = subst (λ (ks : List (Bor (List ℕ))). Has (map text_seen ks) c.in_ok-tables.tables 0 [])
    (sym c.with_hasher-numbers.ensures.empty)
    (at_first c.in_ok-tables.tables c.in_ok-tables.ensures.room c.in_ok-tables.ensures.empty)
