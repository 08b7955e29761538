-- The sinks of each item of a list, added item by item.
use Rattle.std.proofs.Common.{◌≡◌, ◌<◌, ◌≤◌, ◌+◌, ℕ, List, length, get_or, map, refl, subst}
use Rattle.std.specs.Prelude.{OnOk, Result, flat_map}
use Rattle.pc_detail_facts.specs.declared.facts.Facts.{Facts}
use Rattle.pc_flow_details.specs.declared.sink.Sinks.{Sinks}
use Rattle.pc_flow_details.specs.Kept.{FlowDetails, first_of_both, flows_to_sinks, flows_kept}
use Rattle.pc_detail_rules.specs.Sinks.{SinkAt}
use Rattle.pc_flow_details.proofs.Kept.{LeftOf, end_of, next_of}

-- the flows that are kept, and those into the sinks of the items that are left, are those of all items
abbrev pub LeftOfEach : {A B : Type 0} → Facts → (B → List SinkAt) → (A → B) → List A → ℕ → (now before : Sinks)
    → Type 0
LeftOfEach f sinks shown xs i now before = LeftOf f (λ ys. flat_map sinks (map shown ys)) xs i now before

module _ {A B : Type 0} (f : Facts) (sinks : B → List SinkAt) (shown : A → B) (xs : List A) where
  -- one item more
  pub each_next : (i : ℕ) (x : A) (now mid before : Sinks) → i < length xs → x ≡ get_or xs i x
      → LeftOfEach f sinks shown xs i now before
      → flows_kept mid ≡ first_of_both (flows_kept now) (flows_to_sinks f (sinks (shown x)))
      → LeftOfEach f sinks shown xs (i + 1) mid before
  each_next i x now mid before lt is inv h = next_of f (λ (ys : List A). flat_map sinks (map shown ys))
      (sinks (shown x)) xs i x now mid before refl lt is inv h

  -- no item is left
  pub each_end : (all : List B) (i : ℕ) (now before : Sinks) → length xs ≤ i → map shown xs ≡ all
      → LeftOfEach f sinks shown xs i now before
      → flows_kept now ≡ first_of_both (flows_kept before) (flows_to_sinks f (flat_map sinks all))
  each_end all i now before le same inv = subst (λ (l : List B). flows_kept now
      ≡ first_of_both (flows_kept before) (flows_to_sinks f (flat_map sinks l))) same
      (end_of f (λ (ys : List A). flat_map sinks (map shown ys)) xs i now before refl le inv)

-- the sinks that a call adds, as another list
pub on_same : (f : Facts) {T E : Type 0} (r : Result T E) (old new : FlowDetails) (added whole : List SinkAt)
    → added ≡ whole → OnOk r (new ≡ first_of_both old (flows_to_sinks f added))
    → OnOk r (new ≡ first_of_both old (flows_to_sinks f whole))
on_same f r old new added whole same h =
    subst (λ (l : List SinkAt). OnOk r (new ≡ first_of_both old (flows_to_sinks f l))) same h
