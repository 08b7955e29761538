-- The sinks that a search through expressions adds: none where there are no expressions, or those of a part.
use Rattle.std.proofs.Common.{◌≡◌, ◌∙◌, [], List, ap, subst, sym}
use Rattle.std.specs.Prelude.{OnOk, Result}
use Rattle.pc_tree.specs.Tree.{Expr}
use Rattle.pc_scope.specs.declared.resolution.Owner.{Owner}
use Rattle.pc_detail_facts.specs.declared.facts.Facts.{Facts}
use Rattle.pc_flow_details.specs.Kept.{FlowDetails, first_of_both, flows_to_sinks, taken_below, taken_in}
use Rattle.pc_detail_rules.specs.Sinks.{SinkAt}
use Rattle.pc_flow_details.proofs.Arguments.{nothing_into}
use Rattle.pc_flow_details.proofs.Kept.{none_below, none_taken}

-- the flows into a list, if a call succeeds, where the list is this one
pub on_same : (f : Facts) {T E : Type 0} (r : Result T E) (old new : FlowDetails) (a whole : List SinkAt) → whole ≡ a
    → OnOk r (new ≡ first_of_both old (flows_to_sinks f a)) → OnOk r (new ≡ first_of_both old (flows_to_sinks f whole))
on_same f r old new a whole same h =
    subst (λ (l : List SinkAt). OnOk r (new ≡ first_of_both old (flows_to_sinks f l))) (sym same) h

-- no expressions take nothing
pub nothing_taken : (f : Facts) (owner : Owner) (x : FlowDetails) (es : List Expr) → es ≡ []
    → x ≡ first_of_both x (flows_to_sinks f (taken_in f owner es))
nothing_taken f owner x es none =
    nothing_into f x (taken_in f owner es) (ap (taken_in f owner) none ∙ none_taken f owner)

-- nor do their parts
pub nothing_below : (f : Facts) (owner : Owner) (x : FlowDetails) (es : List Expr) → es ≡ []
    → x ≡ first_of_both x (flows_to_sinks f (taken_below f owner es))
nothing_below f owner x es none =
    nothing_into f x (taken_below f owner es) (ap (taken_below f owner) none ∙ none_below f owner)
