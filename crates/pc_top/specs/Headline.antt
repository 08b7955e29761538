-- The statement of the main theorem: the guarantees of a report about the bytes.
use Rattle.std.specs.Prelude.{◌≡◌, ℕ, List, Contains, MatchOption}
use Rattle.std.specs.Rc.{rc_str_bytes}
use Rattle.std.specs.List.{AllByRecursion}
use Rattle.pc_source.specs.declared.place.Place.{Place}
use Rattle.pc_tree.specs.declared.code.Code.TheVariants.{A1}
use Rattle.pc_tree.specs.declared.code.Finding.{Finding}
use Rattle.pc_tree.specs.Code.{IsError}
use Rattle.pc_tree.specs.Tree.{Module}
use Rattle.pc_types.specs.Tree.{Tree}
use Rattle.pc_annotations.specs.Text.{type_text}
use Rattle.pc_module_rules.specs.Modules.{HasLabelling, IsFinding}
use Rattle.pc_module_rules.specs.FlowsOfModules.{FlowsDynamically}
use Rattle.pc_machine.specs.Runs.{Run, End, IsFaultyEnd}
use Rattle.pc_front.specs.Bytes.{IsModuleOf}
use Rattle.pc_report.specs.declared.flow.FlowTexts.{FlowTexts}
use Rattle.pc_report.specs.declared.report.Row.{Row}
use Rattle.pc_top.specs.BesideErrors.{HasNoSilentOf, HasEvaluatedOneOf}
use Rattle.pc_report.specs.Report.{Lists, row_findings, row_flow}

-- no row has the code of an error
abbrev pub HasNoErrorRow : List Row → Type 0
HasNoErrorRow rows = (f : Finding) → Contains (row_findings rows) f → ¬ (IsError f.code)

-- the place of a row that is not an error is among the events
pub record HasEvaluatedRow (rows : List Row) (events : List Place) : Type 0 where
  pub finding : Finding
  pub listed : Contains (row_findings rows) finding
  pub dynamic : ¬ (IsError finding.code)
  pub event : Contains events finding.place

-- no row is a silent finding of the module
abbrev pub HasNoSilentRow : Module → List Row → Type 0
HasNoSilentRow m rows = HasNoSilentOf m (row_findings rows)

-- the place of a row is among the events
abbrev pub HasEvaluatedListedRow : List Row → List Place → Type 0
HasEvaluatedListedRow rows = HasEvaluatedOneOf (row_findings rows)

-- the texts are those of two types, the first of which flows dynamically into the second at this place, under every
-- lawful labelling of the module
pub record AreTextsOfFlow (m : Module) (place : Place) (texts : FlowTexts) : Type 0 where
  pub from : Tree
  pub into : Tree
  pub flows : FlowsDynamically m place from into
  pub from_text : rc_str_bytes texts.from ≡ type_text m from
  pub into_text : rc_str_bytes texts.to ≡ type_text m into

-- a row of a dynamic flow has the texts of its two types, and no other row has texts
abbrev pub IsExplainedRow : Module → Row → Type 0
IsExplainedRow m row =
    MatchOption (row_flow row) (¬ (row.finding.code ≡ A1))
    (λ texts. (row.finding.code ≡ A1) × AreTextsOfFlow m row.finding.place texts)

-- The guarantees of a report. The bytes spell exactly one module; the rows list exactly the findings of its typing,
-- each dynamic flow with its two types; if no row is an error, each run of the module that ends in a fault has
-- evaluated a listed dynamic place by then; and if no row is silent, each such run has evaluated the place of a row by
-- then.
pub record Headline (bytes : List ℕ) (rows : List Row) : Type 0 where
  pub whole : Module
  pub spelled : IsModuleOf bytes whole
  pub only : (other : Module) → IsModuleOf bytes other → other ≡ whole
  -- the module has a labelling, so its findings are those of one; the law `one_labelling` says that there is no other
  pub labelled : HasLabelling whole
  pub listed : Lists bytes (IsFinding whole) rows
  pub explained : AllByRecursion (IsExplainedRow whole) rows
  pub sound : HasNoErrorRow rows → (events : List Place) (end : End) → Run whole events end → IsFaultyEnd end
      → HasEvaluatedRow rows events
  pub sound_beside_errors : HasNoSilentRow whole rows → (events : List Place) (end : End) → Run whole events end
      → IsFaultyEnd end → HasEvaluatedListedRow rows events
