use Rattle.std.proofs.Common.{◌∙◌, Option, Some, ap, subst, sym}
use Rattle.std.specs.Prelude.{option_map}
use Rattle.pc_tree.specs.declared.code.Code.{Code}
use Rattle.pc_tree.specs.declared.code.Code.TheVariants.{A1, E12}
use Rattle.pc_types.specs.Tree.{Tree}
use Rattle.pc_detail_texts.specs.Details.{Detail}
use Rattle.pc_detail_texts.specs.Sentences.{Words}
use Rattle.pc_detail_texts.specs.declared.details.Detail.{Detail as RustDetail}
use Rattle.pc_detail_texts.specs.declared.details.Detail.TheVariants as shown
use Rattle.pc_detail_texts.specs.Shown.{detail_of_value}
use Rattle.pc_detail_facts.specs.Held.{ShowsDetail, known_held, module_held}
use Rattle.pc_flow_details.specs.Kept.{flow_kept, flow_of_value}
use Rattle.pc_details.specs.Made.{AreThese, IsOf, IsToldAt, ShowsToldAt, told_at}
use Rattle.pc_detail_facts.proofs.Results.{if_ok}
use Rattle.pc_details.proofs.Told.{dynamic_told, told_otherwise, wrong_told}
use Rattle.pc_details.proofs.WalkHeld.{dynamic_taken, other_code, wrong_taken}
use Rattle.pc_details.proofs.LeftToTell.{dynamic_left, wrong_left}
use Rattle.pc_details.proofs.walked.WalkedModule.detail_of.Goals as goal

pub main_fault-requires : goal.main_fault-requires
main_fault-requires c = c.requires.1.0.facts

pub returns-in-E12-clause-kept : goal.returns-in-E12-clause-kept
returns-in-E12-clause-kept c = λ findings h. wrong_taken findings c.args.self.now h c.args.finding.place
    c.remove.new.self c.remove.ensures.updates.0

pub returns-in-E12-clause-detail : goal.returns-in-E12-clause-detail
returns-in-E12-clause-detail c =
    let f = c.args.self.now.facts.now in
    let x = c.args.finding in
    subst (λ (code : Code). IsToldAt f x.place code c.flow_detail.result) (sym c.in-E12.is)
    (subst (λ (d : Option (Detail Words)). AreThese (told_at f x.place E12) d)
    (sym (c.flow_detail.ensures ∙ ap (option_map flow_of_value) c.remove.ensures.value))
    (subst (λ (want : Option (Detail Words)). AreThese want (flow_kept c.args.self.now.sinks.wrong x.place))
    (wrong_told f x.place) (c.requires.1.0.wrong x.place)))

pub returns-in-A1-clause-kept : goal.returns-in-A1-clause-kept
returns-in-A1-clause-kept c = λ findings h. dynamic_taken findings c.args.self.now h c.args.finding.place
    c.remove-in-A1.new.self c.remove-in-A1.ensures.updates.0

pub returns-in-A1-clause-detail : goal.returns-in-A1-clause-detail
returns-in-A1-clause-detail c =
    let f = c.args.self.now.facts.now in
    let x = c.args.finding in
    subst (λ (code : Code). IsToldAt f x.place code c.flow_detail-in-A1.result) (sym c.in-A1.is)
    (subst (λ (d : Option (Detail Words)). AreThese (told_at f x.place A1) d)
    (sym (c.flow_detail-in-A1.ensures ∙ ap (option_map flow_of_value) c.remove-in-A1.ensures.value))
    (subst (λ (want : Option (Detail Words)). AreThese want (flow_kept c.args.self.now.sinks.dynamic x.place))
    (dynamic_told f x.place) (c.requires.1.0.dynamic x.place)))

pub returns-in-E28-clause-detail : goal.returns-in-E28-clause-detail
returns-in-E28-clause-detail c =
    let f = c.args.self.now.facts.now in
    let x = c.args.finding in
    let made : Option RustDetail = Some (shown.Rule c.main_fault.result) in
    subst (λ (code : Code). IsToldAt f x.place code made) (sym c.in-E28.is)
    (ap (λ (d : Detail Words). Some d) c.main_fault.ensures)

pub returns-in_default-clause-detail : goal.returns-in_default-clause-detail
returns-in_default-clause-detail c =
    let f = c.args.self.now.facts.now in
    let x = c.args.finding in
    if_ok c.by_rules.result (λ made h. subst (λ (want : Option (Detail Words)). AreThese want (option_map detail_of_value made))
    (told_otherwise f x.place x.code c.in_default.not-E12 c.in_default.not-A1)
    (subst (λ (d : Option (Detail Tree)). IsOf f d made)
    (other_code (module_held f) (known_held f) x.place x.code c.in_default.not-E12 c.in_default.not-A1
    c.in_default.not-E28) h)) c.by_rules.ensures.detail

pub returns-in-E12-clause-left : goal.returns-in-E12-clause-left
returns-in-E12-clause-left c = λ left h apart. wrong_left left c.args.self.now h c.args.finding apart c.remove.new.self
    c.in-E12.is c.remove.ensures.updates.0

pub returns-in-E12-clause-whole : goal.returns-in-E12-clause-whole
returns-in-E12-clause-whole c = λ left h listed.
    let f = c.args.self.now.facts.now in
    let x = c.args.finding in
    subst (λ (code : Code). ShowsToldAt f x.place code c.flow_detail.result) (sym c.in-E12.is)
    (c.flow_detail.ensures ∙ ap (option_map flow_of_value) c.remove.ensures.value ∙ h.wrong x listed c.in-E12.is
    ∙ wrong_told f x.place)

pub returns-in-A1-clause-left : goal.returns-in-A1-clause-left
returns-in-A1-clause-left c = λ left h apart. dynamic_left left c.args.self.now h c.args.finding apart
    c.remove-in-A1.new.self c.in-A1.is c.remove-in-A1.ensures.updates.0

pub returns-in-A1-clause-whole : goal.returns-in-A1-clause-whole
returns-in-A1-clause-whole c = λ left h listed.
    let f = c.args.self.now.facts.now in
    let x = c.args.finding in
    subst (λ (code : Code). ShowsToldAt f x.place code c.flow_detail-in-A1.result) (sym c.in-A1.is)
    (c.flow_detail-in-A1.ensures ∙ ap (option_map flow_of_value) c.remove-in-A1.ensures.value
    ∙ h.dynamic x listed c.in-A1.is ∙ dynamic_told f x.place)

pub returns-in-E28-clause-whole : goal.returns-in-E28-clause-whole
returns-in-E28-clause-whole c = λ left h listed.
    let f = c.args.self.now.facts.now in
    let x = c.args.finding in
    let made : Option RustDetail = Some (shown.Rule c.main_fault.result) in
    subst (λ (code : Code). ShowsToldAt f x.place code made) (sym c.in-E28.is)
    (ap (λ (d : Detail Words). Some d) c.main_fault.ensures)

pub returns-in_default-clause-whole : goal.returns-in_default-clause-whole
returns-in_default-clause-whole c = λ left h listed.
    let f = c.args.self.now.facts.now in
    let x = c.args.finding in
    if_ok c.by_rules.result (λ made e. subst (λ (d : Option (Detail Tree)). ShowsDetail f d made)
    (other_code (module_held f) (known_held f) x.place x.code c.in_default.not-E12 c.in_default.not-A1
    c.in_default.not-E28) e ∙ told_otherwise f x.place x.code c.in_default.not-E12 c.in_default.not-A1)
    (c.by_rules.ensures.whole left h listed)
