use Rattle.std.proofs.Common.{◌∙◌, Option, Some, None, refl, subst, sym}
use Rattle.pc_detail_texts.specs.Details.{Detail}
use Rattle.pc_detail_texts.specs.Sentences.{Words}
use Rattle.pc_detail_texts.specs.declared.details.Detail.{Detail as RustDetail}
use Rattle.pc_details.specs.ByCode.{by_nodes}
use Rattle.pc_detail_facts.specs.Held.{ShowsDetail, known_held, module_held}
use Rattle.pc_details.specs.Made.{AreOf}
use Rattle.pc_name_details.specs.Naming.{walked_detail}
use Rattle.pc_details.proofs.OverrideChain.{first_found}
use Rattle.pc_details.proofs.WalkHeld.{offer_taken, shown_then, taken_then}
use Rattle.pc_details.proofs.LeftToTell.{offers_left}
use Rattle.pc_details.proofs.walked.WalkedModule.by_rules.Goals as goal

pub returns-in-Some-clause-detail : goal.returns-in-Some-clause-detail
returns-in-Some-clause-detail c =
    let f = c.args.self.now.facts.now in
    let x = c.args.finding in
    let nodes = by_nodes (module_held f) (known_held f) x.code x.place in
    first_found f nodes (walked_detail (module_held f) x.place x.code) (Some c.in-Some.detail) refl
    (subst (λ (o : Option RustDetail). ShowsDetail f nodes o) c.in-Some.is c.in_ok-detail.ensures)

pub returns-in-None-clause-kept : goal.returns-in-None-clause-kept
returns-in-None-clause-kept c = λ findings h. offer_taken findings c.args.self.now h c.args.finding c.take.new.self
    c.take.ensures.gone c.take.ensures.others

pub returns-in-None-clause-detail : goal.returns-in-None-clause-detail
returns-in-None-clause-detail c =
    let f = c.args.self.now.facts.now in
    let x = c.args.finding in
    let nodes = by_nodes (module_held f) (known_held f) x.code x.place in
    let walked = walked_detail (module_held f) x.place x.code in
    taken_then f nodes walked None c.take.result refl
    (subst (λ (o : Option RustDetail). ShowsDetail f nodes o) c.in-None.is c.in_ok-detail.ensures)
    (subst (λ (d : Option (Detail Words)). AreOf f walked d) (sym c.take.ensures.taken)
    (c.requires.1.0.names x c.requires.1.1))

pub returns-in-Some-clause-whole : goal.returns-in-Some-clause-whole
returns-in-Some-clause-whole c = λ left h listed.
    let f = c.args.self.now.facts.now in
    let x = c.args.finding in
    let nodes = by_nodes (module_held f) (known_held f) x.code x.place in
    first_found f nodes (walked_detail (module_held f) x.place x.code) (Some c.in-Some.detail) refl
    (subst (λ (o : Option RustDetail). ShowsDetail f nodes o) c.in-Some.is c.in_ok-detail.ensures)

pub returns-in-None-clause-left : goal.returns-in-None-clause-left
returns-in-None-clause-left c = λ left h apart. offers_left left c.args.self.now h c.args.finding apart c.take.new.self
    c.take.ensures.others

pub returns-in-None-clause-whole : goal.returns-in-None-clause-whole
returns-in-None-clause-whole c = λ left h listed.
    let f = c.args.self.now.facts.now in
    let x = c.args.finding in
    let nodes = by_nodes (module_held f) (known_held f) x.code x.place in
    let walked = walked_detail (module_held f) x.place x.code in
    shown_then f nodes walked None c.take.result refl
    (subst (λ (o : Option RustDetail). ShowsDetail f nodes o) c.in-None.is c.in_ok-detail.ensures)
    (c.take.ensures.taken ∙ h.names x listed)
