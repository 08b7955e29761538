-- Callees by their labels and by the results of their calls.
use Rattle.std.proofs.Common.{◌≡◌, ◌≤◌, ℕ, List, [], ◌∷◌, map, drop, length, sym, ap, ◌∙◌, subst}
use Rattle.std.specs.Prelude.{All, flat_map}
use Rattle.std.proofs.lemmas.List.Elements.{All-nil, All-cons}
use Rattle.pc_types.specs.Tree.{Tree, Any}
use Rattle.pc_types.specs.Shape.{members}
use Rattle.pc_types.specs.Store.{KeepsTypes, Means}
use Rattle.pc_calls.specs.declared.call_offers.CallOffer.{CallOffer as RustCallOffer}
use Rattle.pc_calls.specs.declared.callee.TypedCallee.{TypedCallee as RustCallee}
use Rattle.pc_calls.specs.declared.call_offers.CallRule.TheVariants as rule
use Rattle.pc_rules.specs.Operations.{clean}
use Rattle.pc_rules.specs.Context.{Context}
use Rattle.pc_rules.specs.Computed.Findings.{once}
use Rattle.pc_rules.specs.Calls.{GivenArguments, CallOffer, method_offers, method_callee, good_callee}
use Rattle.pc_calls.specs.JudgedCalls.{offer_called, rule_of, HasCallOffer, IsCallee, found_at_callee}
use Rattle.pc_calls.proofs.CallLabels.{label_is}
use Rattle.pc_calls.proofs.CallsKept.{IsAdded, members_all, offer_kept, offers_kept}
use Rattle.pc_calls.proofs.ErrorsOfCalls.{callee_meant}

module _ {Store Ty : Type 0} (has : Store → Ty → Type 0) (tree : Ty → Tree) where
  -- a callee at which nothing is found
  pub good_meant : (old new : Store) (c : RustCallee Ty) (o : RustCallOffer Ty) → Means has tree new c.label.ty Any
      → c.label.codes.items ≡ [] → c.rule ≡ rule.Member → c.offers.items ≡ o ∷ [] → KeepsTypes has old new
      → HasCallOffer (has old) o
      → IsCallee has tree new c (good_callee (offer_called tree o ∷ []))
  good_meant old new c o m codes r items k h = record {
    given = m.0;
    held = subst (All (HasCallOffer (has new))) (sym items) (All-cons (HasCallOffer (has new)) o []
        (offer_kept has old new k o h) (All-nil (HasCallOffer (has new))));
    label = label_is tree c.label (clean Any) m.1 codes;
    rule = ap rule_of r;
    offers = ap (map (offer_called tree)) items;
  }

  -- a callee by the members of an object's type
  pub method_meant : (ctx : Context) (g : GivenArguments) (word : List ℕ) (t : Tree) (old now new : Store)
      (ms : List Ty) (offers : List (RustCallOffer Ty)) (i : ℕ) (c : RustCallee Ty) → KeepsTypes has now new
      → map tree ms ≡ members t → length ms ≤ i
      → IsAdded has tree old now (flat_map (method_offers ctx g word) (map tree (drop i ms)))
      (flat_map (method_offers ctx g word) (map tree ms)) offers → Means has tree new c.label.ty Any
      → c.label.codes.items ≡ once (found_at_callee offers) → c.rule ≡ rule.Member → c.offers.items ≡ offers
      → IsCallee has tree new c (method_callee ctx g word t)
  method_meant ctx g word t old now new ms offers i c k e h a m codes r same =
      let all = members_all has tree (method_offers ctx g word) old now _ offers ms i h a in
      let is = all.is ∙ ap (flat_map (method_offers ctx g word)) e in
      record {
        given = m.0;
        held = subst (All (HasCallOffer (has new))) (sym same) (offers_kept has now new k offers all.given);
        label = label_is tree c.label (method_callee ctx g word t).label m.1
            (codes ∙ ap once (sym (callee_meant tree offers) ∙ ap (flat_map (λ (o : CallOffer). o.at_callee)) is));
        rule = ap rule_of r;
        offers = ap (map (offer_called tree)) same ∙ is;
      }
