-- The rows of a report, whose flows are those of the notes of a module, are explained.
use Rattle.std.proofs.Common.{◌≡◌, zero, suc, List, [], ◌∷◌, refl, sym, ap, ◌∙◌, subst, inl, inr, arith, Contains}
use Rattle.std.proofs.Common.{Option, Some, None}
use Rattle.std.specs.Prelude.{◌⊎◌, MatchOption, IsSome}
use Rattle.std.specs.Rc.{rc_str_bytes}
use Rattle.std.specs.List.{AllByRecursion}
use Rattle.pc_source.specs.declared.place.Place.{Place}
use Rattle.pc_tree.specs.declared.code.Code.TheVariants.{A1}
use Rattle.pc_tree.specs.declared.code.Finding.{Finding}
use Rattle.pc_tree.specs.Code.{finding}
use Rattle.pc_tree.specs.Tree.{Module}
use Rattle.pc_types.specs.Tree.{Tree}
use Rattle.pc_annotations.specs.Text.{type_text}
use Rattle.pc_notes.specs.Notes.{Note, flow_noted}
use Rattle.pc_notes.specs.Texts.{FlowText, IsFlowText, places_of, AreFlowTexts}
use Rattle.pc_module_rules.specs.Modules.{IsFinding}
use Rattle.pc_module_rules.specs.FlowsOfModules.{HasDynamicFlow}
use Rattle.pc_module_rules.specs.Laws.Flows.{TellsFlows}
use Rattle.pc_module_rules.proofs.StandingFlows.{flows_found}
use Rattle.pc_report.specs.declared.flow.FlowTexts.{FlowTexts}
use Rattle.pc_report.specs.declared.report.Row.{Row}
use Rattle.pc_report.specs.Flows.{HasFlowAt, IsExplained}
use Rattle.pc_report.specs.Report.{ExplainsRows, row_findings, row_flow}
use Rattle.pc_top.specs.Headline.{AreTextsOfFlow, IsExplainedRow}

-- membership in lists
module _ {X : Type 0} where
  contains_here : (y : X) (ys : List X) (x : X) → y ≡ x → Contains (y ∷ ys) x
  contains_here y ys x e = (0, omega arith, e)

  contains_later : (y : X) (ys : List X) (x : X) → Contains ys x → Contains (y ∷ ys) x
  contains_later y ys x (k, h, e) = (suc k, omega arith, e)

  contains_cases : (y : X) (ys : List X) (x : X) → Contains (y ∷ ys) x → (y ≡ x) ⊎ Contains ys x
  contains_cases y ys x (zero, h, e) = inl e
  contains_cases y ys x (suc k, h, e) = inr (k, omega arith, e)

  contains_none : (x : X) → Contains [] x → ⊥
  contains_none x (k, h, e) = absurd (omega arith)

-- P holds of an element of a list if it holds of each
holds_of : {X : Type 0} (P : X → Type 0) (xs : List X) (x : X) → AllByRecursion P xs → Contains xs x → P x
holds_of P [] x all h = absurd (contains_none x h)
holds_of P (y ∷ ys) x all h = elim (contains_cases y ys x h) [
  | inl e ↦ subst P e all.0
  | inr r ↦
      holds_of P ys x all.1 r
]

-- a place of texts is listed among them
listed_place : (texts : List FlowText) (p : Place) → Contains (places_of texts) p → HasFlowAt texts p
listed_place [] p h = absurd (contains_none p h)
listed_place (t ∷ ts) p h = elim (contains_cases t.0 (places_of ts) p h) [
  | inl e ↦ (t, contains_here t ts t refl, e)
  | inr r ↦ let l = listed_place ts p r in (l.0, contains_later t ts l.0 l.1, l.2)
]

-- a finding with this code
with_code : (f : Finding) → f.code ≡ A1 → f ≡ finding f.place A1
with_code f code = λ i. record { place = f.place; code = code i }

-- P holds of the finding of each row if it holds of each finding of the rows
each_finding : (P : Finding → Type 0) (rows : List Row) → ((f : Finding) → Contains (row_findings rows) f → P f)
    → AllByRecursion (λ (row : Row). P row.finding) rows
each_finding P [] h = tt
each_finding P (row ∷ rows) h = (
  h row.finding (contains_here row.finding (row_findings rows) row.finding refl),
  each_finding P rows (λ f c. h f (contains_later row.finding (row_findings rows) f c)),
)

-- R holds of each element of a list if it follows from P and Q, and both hold of each
each_of_both : {X : Type 0} (P Q R : X → Type 0) (xs : List X) → ((x : X) → P x → Q x → R x) → AllByRecursion P xs
    → AllByRecursion Q xs → AllByRecursion R xs
each_of_both P Q R [] f all others = tt
each_of_both P Q R (x ∷ xs) f all others = (f x all.0 others.0, each_of_both P Q R xs f all.1 others.1)

module _ (m : Module) (notes : List Note) (texts : List FlowText) (are : AreFlowTexts m A1 notes texts)
    (flows : TellsFlows m notes) where
  -- texts of what notes tell of at a place are those of the dynamic flow there
  read_as : (p : Place) (o : Option (Tree × Tree)) (t : FlowText) (shown : FlowTexts) → flow_noted A1 p notes ≡ o
      → rc_str_bytes shown.from ≡ rc_str_bytes t.1 → rc_str_bytes shown.to ≡ rc_str_bytes t.2
      → MatchOption o ⊥ (λ f. (rc_str_bytes t.1 ≡ type_text m f.0) × (rc_str_bytes t.2 ≡ type_text m f.1))
      → AreTextsOfFlow m p shown
  read_as p None t shown is from to h = absurd h
  read_as p (Some f) t shown is from to h = record {
    from = f.0;
    into = f.1;
    flows = (flows.just p f.0 f.1).0 is;
    from_text = from ∙ h.0;
    into_text = to ∙ h.1;
  }

  explained : (f : Finding) (shown : Option FlowTexts) → IsFinding m f → IsExplained texts f shown
      → MatchOption shown (¬ (f.code ≡ A1)) (λ t. (f.code ≡ A1) × AreTextsOfFlow m f.place t)
  explained f None found h = λ code.
      let d : HasDynamicFlow m f.place = (flows_found m f.place).0 (subst (IsFinding m) (with_code f code) found) in
      let noted : flow_noted A1 f.place notes ≡ Some (d.from, d.into) = (flows.just f.place d.from d.into).1 d.flows in
      h code (listed_place texts f.place (are.all f.place (subst IsSome (sym noted) refl)))
  explained finding (Some shown) found h =
      let t = h.1.0 in
      let own : IsFlowText m A1 notes t = holds_of (IsFlowText m A1 notes) texts t are.each h.1.1 in
      let noted : flow_noted A1 t.0 notes ≡ flow_noted A1 finding.place notes = ap (λ p. flow_noted A1 p notes) h.1.2 in (
        h.0,
        read_as finding.place (flow_noted A1 finding.place notes) t shown refl h.1.3 h.1.4
            (subst (λ (o : Option (Tree × Tree)). MatchOption o ⊥ (λ f. (rc_str_bytes t.1 ≡ type_text m f.0)
            × (rc_str_bytes t.2 ≡ type_text m f.1))) noted own),
      )

  pub rows_explained : (rows : List Row) → ((f : Finding) → Contains (row_findings rows) f → IsFinding m f)
      → ExplainsRows texts rows → AllByRecursion (IsExplainedRow m) rows
  rows_explained rows found all =
      each_of_both (λ (row : Row). IsFinding m row.finding) (λ (row : Row). IsExplained texts row.finding
      (row_flow row))
      (IsExplainedRow m) rows (λ row f h. explained row.finding (row_flow row) f h)
      (each_finding (IsFinding m) rows found) all
