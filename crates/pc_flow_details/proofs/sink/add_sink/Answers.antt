use Rattle.std.proofs.Common.{◌≡◌, ◌∷◌, [], Option, subst}
use Rattle.std.proofs.lemmas.Result.{on_ok_weaker}
use Rattle.std.specs.Prelude.{OnOk}
use Rattle.std.specs.Option.{option_or}
use Rattle.pc_source.specs.declared.place.Place.{Place}
use Rattle.pc_types.specs.Tree.{Tree}
use Rattle.pc_flow_details.specs.declared.sink.Sinks.{Sinks}
use Rattle.pc_flow_details.specs.Goes.{sink_at_held}
use Rattle.pc_detail_facts.specs.Held.{module_held}
use Rattle.pc_flow_details.specs.Kept.{flow_kept}
use Rattle.pc_detail_rules.specs.ToldTypes.{told_among}
use Rattle.pc_flow_details.proofs.KeptFlow.{sink_added}
use Rattle.pc_flow_details.proofs.sink.add_sink.Goals as goal

pub returns : goal.returns
returns c =
    let f = c.args.facts.now in
    let s = sink_at_held f c.args.sink in
    let old = c.args.sinks.now in
    let new : Sinks = record { wrong = c.keep_flow.new.kept; dynamic = c.keep_flow-2.new.kept } in
    on_ok_weaker c.keep_flow-2.result
    (sink_added f s old new
    (subst (λ (o : Option (Tree × Tree)). (p : Place) → flow_kept c.keep_flow.new.kept p
    ≡ option_or (flow_kept old.wrong p) (told_among (module_held f) (s ∷ []) p o))
    c.wrong_at.ensures.types c.in_ok-keep_flow.ensures))
    (subst (λ (o : Option (Tree × Tree)). OnOk c.keep_flow-2.result ((p : Place)
    → flow_kept c.keep_flow-2.new.kept p
    ≡ option_or (flow_kept old.dynamic p) (told_among (module_held f) (s ∷ []) p o)))
    c.dynamic_at.ensures.types c.keep_flow-2.ensures)
