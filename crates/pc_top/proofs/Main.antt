-- The main theorem, of what the parts ensure.
use Rattle.std.proofs.Common.{◌≡◌, ℕ, List, Contains, ◌↔◌, Result}
use Rattle.std.specs.Prelude.{IfErr, IsErrAnd}
use Rattle.std.specs.List.{AllByRecursion}
use Rattle.std.proofs.lemmas.Result.{err_from_is_err_and}
use Rattle.pc_source.specs.declared.fault.Fault.{Fault}
use Rattle.pc_source.specs.declared.fault.Fault.TheVariants as fault
use Rattle.pc_source.specs.declared.fault.Refusal.{Refusal}
use Rattle.pc_source.specs.declared.place.Place.{Place}
use Rattle.pc_source.specs.Answers.{OnRefusal}
use Rattle.pc_tree.specs.declared.code.Finding.{Finding}
use Rattle.pc_tree.specs.Tree.{Module}
use Rattle.pc_module_rules.specs.Modules.{IsFinding}
use Rattle.pc_module_rules.proofs.LabelledModule.{every_module_has_a_labelling}
use Rattle.pc_machine.specs.Runs.{Run, End, IsFaultyEnd}
use Rattle.pc_sound.proofs.Modules.Soundness.{sound}
use Rattle.pc_front.specs.Bytes.{IsModuleOf}
use Rattle.pc_report.specs.declared.report.Row.{Row}
use Rattle.pc_report.specs.Report.{Lists, row_findings}
use Rattle.pc_top.specs.Headline.{HasNoErrorRow, HasEvaluatedRow, Headline, IsExplainedRow}
use Rattle.pc_top.proofs.BesideErrors.{beside_errors}
use Rattle.pc_front.proofs.BytesLaws.{one_module}

module _ (bytes : List ℕ) (whole : Module) where
  sound_here : (rows : List Row) → Lists bytes (IsFinding whole) rows → HasNoErrorRow rows
      → (events : List Place) (end : End) → Run whole events end → IsFaultyEnd end → HasEvaluatedRow rows events
  sound_here rows lists clean events end run fault =
      let e = sound whole (λ f found. clean f ((lists.exact f).1 found)) events end run fault in
      record { finding = e.finding; listed = (lists.exact e.finding).1 e.found; dynamic = e.dynamic; event = e.event }

  pub headline_from : IsModuleOf bytes whole → (found : List Finding) (rows : List Row)
      → ((f : Finding) → Contains found f ↔ IsFinding whole f) → Lists bytes (Contains found) rows
      → (((f : Finding) → Contains (row_findings rows) f → IsFinding whole f)
      → AllByRecursion (IsExplainedRow whole) rows) → Headline bytes rows
  headline_from spelled found rows exactly lists explained =
      let exact : (f : Finding) → Contains (row_findings rows) f ↔ IsFinding whole f = λ f. (
        (λ h. (exactly f).0 ((lists.exact f).0 h)),
        (λ h. (lists.exact f).1 ((exactly f).1 h)),
      ) in
      let listed : Lists bytes (IsFinding whole) rows = record {
        sorted = lists.sorted;
        exact = exact;
        placed =
            lists.placed;
      } in
      record {
        whole = whole;
        spelled = spelled;
        only = λ other h. one_module bytes other whole h spelled;
        labelled =
            every_module_has_a_labelling whole;
        listed = listed;
        explained = explained (λ f h. (exact f).0 h);
        sound =
            sound_here rows listed;
        sound_beside_errors = beside_errors whole (row_findings rows) exact;
      }

-- a failed allocation is no refusal
pub no_refusal : {T : Type 0} (P : Refusal → Type 0) (r : Result T Fault) → IsErrAnd r (λ f. f ≡ fault.OutOfMemory)
    → IfErr r (OnRefusal P)
no_refusal P r h = let p = err_from_is_err_and r h in rw (p.1, p.2) tt
