-- Two reports of the same bytes, for which the headline holds, have the same content and are written in one way.
use Rattle.std.proofs.Common.{◌≡◌, ℕ, List, [], ◌∷◌, map, Option, Some, None, refl, sym, ap, ◌∙◌, subst, get_or}
use Rattle.std.proofs.Common.{drop}
use Rattle.std.specs.Prelude.{MatchOption, option_map}
use Rattle.std.specs.Rc.{rc_str_bytes}
use Rattle.std.specs.List.{AllByRecursion}
use Rattle.pc_tree.specs.declared.code.Code.TheVariants.{A1}
use Rattle.pc_tree.specs.declared.code.Finding.{Finding}
use Rattle.pc_tree.specs.Tree.{Module}
use Rattle.pc_annotations.specs.Text.{type_text}
use Rattle.pc_module_rules.specs.Modules.{IsFinding}
use Rattle.pc_module_rules.proofs.StandingFlows.{flows_unique}
use Rattle.pc_report.specs.declared.flow.FlowTexts.{FlowTexts}
use Rattle.pc_report.specs.declared.report.Row.{Row}
use Rattle.pc_report.specs.Report.{row_findings, row_flow, Lists}
use Rattle.pc_report.proofs.OneListing.{texts_of_flow, DeterminesTexts, one_listing, one_order}
use Rattle.pc_top.specs.Headline.{AreTextsOfFlow, IsExplainedRow, Headline}
use Rattle.pc_top.specs.OneReport.{texts_of, said_by, OneReport, OneText}

texts_same : (o : Option FlowTexts) → texts_of_flow o ≡ option_map texts_of o
texts_same None = refl
texts_same (Some texts) = refl

module _ (m : Module) where
  -- the texts are those of the flow of a finding with A1; any other finding has none
  abbrev Explains : Finding → Option FlowTexts → Type 0
  Explains f shown = MatchOption shown (¬ (f.code ≡ A1)) (λ texts. (f.code ≡ A1) × AreTextsOfFlow m f.place texts)

  one_explanation : (f : Finding) (shown other : Option FlowTexts) → Explains f shown → Explains f other
      → texts_of_flow shown ≡ texts_of_flow other
  one_explanation f None None h k = refl
  one_explanation f None (Some u) h k = absurd (h k.0)
  one_explanation f (Some t) None h k = absurd (k h.0)
  one_explanation f (Some t) (Some u) h k =
      let types = flows_unique m f.place h.1.from h.1.into k.1.from k.1.into h.1.flows k.1.flows in
      let from : rc_str_bytes t.from ≡ rc_str_bytes u.from = h.1.from_text ∙ ap (type_text m) types.0
      ∙ sym k.1.from_text in
      let into : rc_str_bytes t.to ≡ rc_str_bytes u.to = h.1.into_text ∙ ap (type_text m) types.1
      ∙ sym k.1.into_text in
      λ i. Some (from i, into i)

  determined : DeterminesTexts (IsExplainedRow m)
  determined row other e h k = one_explanation row.finding (row_flow row) (row_flow other) h
      (subst (λ (f : Finding). Explains f (row_flow other)) (sym e) k)

  same_content : (rows others : List Row) → row_findings rows ≡ row_findings others
      → AllByRecursion (IsExplainedRow m) rows → AllByRecursion (IsExplainedRow m) others
      → map said_by rows ≡ map said_by others
  same_content [] [] same a b = refl
  same_content [] (row ∷ rows) same a b = cc
  same_content (row ∷ rows) [] same a b = cc
  same_content (row ∷ rows) (other ∷ others) same a b =
      let first : row.finding ≡ other.finding = ap (λ (l : List Finding). get_or l 0 row.finding) same in
      let flow : option_map texts_of (row_flow row) ≡ option_map texts_of (row_flow other) =
      sym (texts_same (row_flow row)) ∙ determined row other first a.0 b.0 ∙ texts_same (row_flow other) in
      let rest = same_content rows others (ap (λ (l : List Finding). drop 1 l) same) a.1 b.1 in
      λ i. record { finding = first i; flow = flow i } ∷ rest i

module _ (bytes : List ℕ) (rows others : List Row) (a : Headline bytes rows) (b : Headline bytes others) where
  same : b.whole ≡ a.whole
  same = a.only b.whole b.spelled

  listed : Lists bytes (IsFinding a.whole) others
  listed = subst (λ (m : Module). Lists bytes (IsFinding m) others) same b.listed

  explained : AllByRecursion (IsExplainedRow a.whole) others
  explained = subst (λ (m : Module). AllByRecursion (IsExplainedRow m) others) same b.explained

pub one_report : OneReport
one_report bytes rows others a b =
    let ours = a.listed in
    let theirs = listed bytes rows others a b in
    same_content a.whole rows others
    (one_order (row_findings rows) (row_findings others) ours.sorted theirs.sorted
    (λ f c. (theirs.exact f).1 ((ours.exact f).0 c)) (λ f c. (ours.exact f).1 ((theirs.exact f).0 c)))
    a.explained (explained bytes rows others a b)

pub one_text : OneText
one_text bytes rows others a b format = one_listing bytes (IsFinding a.whole) (IsExplainedRow a.whole)
    (determined a.whole) rows others a.listed (listed bytes rows others a b) a.explained
    (explained bytes rows others a b) format
