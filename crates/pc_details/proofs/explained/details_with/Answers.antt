use Rattle.std.proofs.Common.{◌∙◌, ◌+◌, List, ap, drop, refl, subst, sym}
use Rattle.std.proofs.lemmas.List.Elements.{Contains-get_or}
use Rattle.std.specs.List.{AllByRecursion}
use Rattle.std.specs.Prelude.{Vec}
use Rattle.std.specs.declared.alloc.Global.{Global}
use Rattle.pc_detail_facts.proofs.Results.{none_left}
use Rattle.pc_details.specs.declared.explained.DetailedFinding.{DetailedFinding as RustDetailed}
use Rattle.pc_details.specs.Made.{IsDetailOf, facts_walked}
use Rattle.pc_details.proofs.DetailsMade.{detail_more}
use Rattle.pc_details.proofs.LeftToTell.{AreSoFar, all_listed, later_apart, later_left, next_apart, next_listed}
use Rattle.pc_details.proofs.LeftToTell.{none_more, one_more}
use Rattle.pc_details.proofs.explained.details_with.Goals.{in-Some+in_ok-push, in_default}
use Rattle.pc_details.proofs.explained.details_with.Goals as goal

pub loop-finding-init : goal.loop-finding-init
loop-finding-init c = record {
  holds = c.in_ok-walked.ensures.holds;
  facts = c.in_ok-walked.ensures.facts;
  made = subst (λ (ds : List RustDetailed). AllByRecursion (IsDetailOf c.args.facts.now c.args.findings.now) ds)
      (sym c.new-details.ensures.items) tt;
  apart = λ d. d;
  left = λ d. c.in_ok-walked.ensures.left;
  so_far = λ d. subst (λ (ds : List RustDetailed). AreSoFar c.args.facts.now c.args.findings.now 0 ds)
      (sym c.new-details.ensures.items) refl;
}

pub detail_of-requires : goal.detail_of-requires
detail_of-requires c =
    let findings = c.args.findings.now in (
      findings,
      (
        c.loop-finding.invariant.holds,
        Contains-get_or findings c.loop-finding.finding-index _ c.loop-finding-test.true,
      ),
    )

pub loop-finding-preserved : goal.loop-finding-preserved
loop-finding-preserved c =
    let f = c.args.facts.now in
    let findings = c.args.findings.now in
    let i = c.loop-finding.finding-index in
    let lt = c.loop-finding-test.true in
    let old = c.loop-finding.walked in
    let ds = c.loop-finding.details.items in
    let v = c.loop-finding.invariant in
    record {
      holds = c.in_ok-detail.ensures.kept findings v.holds;
      facts = c.in_ok-detail.ensures.facts ∙ v.facts;
      made = elim c.match-branch-3.branch [
        | in-Some+in_ok-push w ↦ subst (λ (ds : List RustDetailed). AllByRecursion (IsDetailOf f findings) ds)
            (sym (ap (λ (ds : Vec RustDetailed Global). ds.items) w.details-is ∙ w.in_ok-push.ensures.items))
            (detail_more f (facts_walked c.loop-finding.walked) findings c.loop-finding.details.items _ _
            w.in-Some.detail v.facts v.made
            (Contains-get_or findings c.loop-finding.finding-index _ c.loop-finding-test.true) w.in-Some.is
            c.in_ok-detail.ensures.detail)
        | in_default w ↦ subst (λ (ds : Vec RustDetailed Global). AllByRecursion (IsDetailOf f findings) ds.items)
            (sym w.details-is) v.made
      ];
      apart = λ d. later_apart findings i lt (v.apart d);
      left = λ d. c.in_ok-detail.ensures.left (drop (i + 1) findings) (later_left findings i lt old (v.left d))
          (next_apart findings i _ lt (v.apart d));
      so_far = λ d. elim c.match-branch-3.branch [
        | in-Some+in_ok-push b ↦ subst (λ (es : List RustDetailed). AreSoFar f findings (i + 1) es)
            (sym (ap (λ (es : Vec RustDetailed Global). es.items) b.details-is ∙ b.in_ok-push.ensures.items))
            (one_more findings i _ lt f (facts_walked old) v.facts ds (v.so_far d) _
            (c.in_ok-detail.ensures.whole (drop i findings) (v.left d) (next_listed findings i _ lt))
            b.in-Some.detail b.in-Some.is)
        | in_default b ↦ subst (λ (es : Vec RustDetailed Global). AreSoFar f findings (i + 1) es.items)
            (sym b.details-is)
            (none_more findings i _ lt f (facts_walked old) v.facts ds (v.so_far d) _
            (c.in_ok-detail.ensures.whole (drop i findings) (v.left d) (next_listed findings i _ lt))
            (none_left _ b.in_default.not-Some))
      ];
    }

pub returns-clause-right : goal.returns-clause-right
returns-clause-right c = c.loop-finding.invariant.made

pub returns-clause-whole : goal.returns-clause-whole
returns-clause-whole c = λ d. all_listed c.args.facts.now c.args.findings.now c.loop-finding.finding-index
    c.loop-finding.details.items c.loop-finding-test.false (c.loop-finding.invariant.so_far d)
