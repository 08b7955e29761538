use Rattle.std.proofs.Common.{[], ap, sym, subst, List, ℕ}
use Rattle.std.specs.Prelude.{is_some, unwrap_or, bytes_eq}
use Rattle.std.specs.Borrow.{Bor}
use Rattle.std.specs.Map.{lookup}
use Rattle.pc_stopping.specs.Holdings.{HasIn}
use Rattle.pc_stopping.proofs.members.find_in_classes.Goals as goal

pub find_in_items-requires : goal.find_in_items-requires
find_in_items-requires c = record {
  empty = c.in_ok-holdings.ensures;
  named = λ n. ap (λ (es : List (Bor (List ℕ) × ℕ)). is_some (lookup (λ k. bytes_eq n k.now) es))
      c.with_hasher-bound.ensures.empty;
  tables = λ n. subst (λ (es : List (Bor (List ℕ) × ℕ)). HasIn c.in_ok-holdings.holdings
      (unwrap_or (lookup (λ k. bytes_eq n k.now) es) 0) []) (sym c.with_hasher-bound.ensures.empty)
      c.in_ok-holdings.ensures;
}

pub returns : goal.returns
returns c = rw c.deref.ensures.value at c.find_in_items.ensures
