-- A map of flows, as it grows with the list.
use Rattle.std.proofs.Common.{◌≡◌, List, [], ◌∷◌, ◌++◌, Bool, true, false, cond, Option, Some, None, refl, sym, ap, ◌∙◌}
use Rattle.std.proofs.Common.{subst, inl, inr, Contains, arith}
use Rattle.std.specs.Prelude.{◌⊎◌, MatchOption}
use Rattle.std.specs.Borrow.{Bor}
use Rattle.std.specs.Ordering.{is_eq, nat_cmp, ordering_then}
use Rattle.std.specs.BTreeMap.{BTreeMap, get}
use Rattle.std.specs.List.{AllByRecursion}
use Rattle.std.proofs.lemmas.List.Elements.{Contains-push_cases, Contains-append_left, Contains-append_right}
use Rattle.pc_source.specs.declared.place.Place.{Place}
use Rattle.pc_report.specs.declared.report.Row.{Row}
use Rattle.pc_report.specs.Flows.{FlowEntry, HasFlowAt, HasFlows, place_cmp}
use Rattle.pc_report.proofs.Order.{is_equal, then_equal, nat_equal, nat_self}

apart : (x : Bool) → x ≡ true → x ≡ false → ⊥
apart x a b = cc

place_same : (p q : Place) → is_eq (place_cmp p q) ≡ true → p ≡ q
place_same p q h =
    let both = then_equal (nat_cmp p.start q.start) (nat_cmp p.end q.end) (is_equal (place_cmp p q) h) in
    let start : p.start ≡ q.start = nat_equal p.start q.start both.0 in
    let end : p.end ≡ q.end = nat_equal p.end q.end both.1 in
    λ i. record { start = start i; end = end i }

place_self : (p : Place) → is_eq (place_cmp p p) ≡ true
place_self p = rw (nat_self p.start, nat_self p.end) refl

listed_more : (xs : List FlowEntry) (f : FlowEntry) (p : Place) → HasFlowAt (xs ++ f ∷ []) p → HasFlowAt xs p ⊎ (f.0 ≡ p)
listed_more xs f p (g, c, e) = elim (Contains-push_cases xs f g c) [
  | inl a ↦ inl (g, a, e)
  | inr b ↦ inr (ap (λ (x : FlowEntry). x.0) b ∙ e)
]

module _ (xs : List FlowEntry) (b : Bor FlowEntry) (p : Place) where
  Here : Option (Bor FlowEntry) → Type 0
  Here o = MatchOption o (¬ (HasFlowAt (xs ++ b.now ∷ []) p)) (λ f. Contains (xs ++ b.now ∷ []) f.now × (f.now.0 ≡ p))

  kept : is_eq (place_cmp b.now.0 p) ≡ false → (o : Option (Bor FlowEntry))
      → MatchOption o (¬ (HasFlowAt xs p)) (λ f. Contains xs f.now × (f.now.0 ≡ p)) → Here o
  unfolding Here
  kept h None n = λ l. elim (listed_more xs b.now p l) [
    | inl a ↦ n a
    | inr same ↦ apart (is_eq (place_cmp b.now.0 p)) (subst (λ q. is_eq (place_cmp b.now.0 q) ≡ true) same
        (place_self b.now.0)) h
  ]
  kept h (Some f) (c, e) = (Contains-append_left xs (b.now ∷ []) f.now c, e)

  here : (t : Bool) → is_eq (place_cmp b.now.0 p) ≡ t → (o : Option (Bor FlowEntry))
      → MatchOption o (¬ (HasFlowAt xs p)) (λ f. Contains xs f.now × (f.now.0 ≡ p)) → Here (cond t (Some b) o)
  unfolding Here
  here true h o old = (Contains-append_right xs (b.now ∷ []) b.now (0, omega arith, refl), place_same b.now.0 p h)
  here false h o old = kept h o old

pub flows_more : (xs : List FlowEntry) (b : Bor FlowEntry) (old new : BTreeMap Place (Bor FlowEntry)) → HasFlows xs old
    → ((q : Place) → get place_cmp new q ≡ cond (is_eq (place_cmp b.now.0 q)) (Some b) (get place_cmp old q))
    → HasFlows (xs ++ b.now ∷ []) new
unfolding Here
flows_more xs b old new has step p = subst (Here xs b p) (sym (step p))
    (here xs b p (is_eq (place_cmp b.now.0 p)) refl (get place_cmp old p) (has p))

-- P holds of each row of a list with one appended, if it holds of each row and of the appended one
pub all_more : (P : Row → Type 0) (rows : List Row) (row : Row) → AllByRecursion P rows → P row
    → AllByRecursion P (rows ++ row ∷ [])
all_more P [] row all one = (one, all)
all_more P (first ∷ rows) row all one = (all.0, all_more P rows row all.1 one)
