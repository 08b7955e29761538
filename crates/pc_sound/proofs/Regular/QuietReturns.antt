-- If no E12 is found at a `return` without a value, the labels of statements are quiet there.
use Rattle.std.proofs.Common.{◌≡◌, List, ◌∷◌, ◌++◌, refl, inl, inr, arith, Contains}
use Rattle.std.specs.Prelude.{Bool as Test, true, false, Some, None}
use Rattle.std.proofs.lemmas.List.Elements.{Contains-append_left, Contains-append_right}
use Rattle.pc_source.specs.declared.place.Place.{Place}
use Rattle.pc_tree.specs.declared.code.Code.TheVariants.{E12}
use Rattle.pc_tree.specs.declared.code.Finding.{Finding}
use Rattle.pc_tree.specs.Code.{finding}
use Rattle.pc_tree.specs.Stopping.{bound_by, bound_by_stmt, bound_by_branches}
use Rattle.pc_tree.specs.Tree.{Stmt, Stmts, Branches, pass, breaks, continues, returns, asserts, annotated, assigns}
use Rattle.pc_tree.specs.Tree.{evaluates, while_loop, for_loop, conditional, no_stmts, more_stmts, no_branches}
use Rattle.pc_tree.specs.Tree.{more_branches, Module}
use Rattle.pc_scope.specs.Bindings.{texts}
use Rattle.pc_scope.specs.Reach.{completes}
use Rattle.pc_rules.specs.Context.{Context}
use Rattle.pc_module_rules.specs.StatementLabels.{StmtLabels, SuiteLabels, BranchesLabels, Behind, Following}
use Rattle.pc_module_rules.specs.StatementLabels.{BehindRule}
use Rattle.pc_module_rules.specs.Statements.{NamesBound, StmtFinds, SuiteFinds, BranchesFind}
use Rattle.pc_sound.specs.Silent.{bare_returns_in_stmt, bare_returns_in, bare_returns_in_branches}
use Rattle.pc_sound.proofs.Regular.RegularParts.{Asked, tests_in_time, classes_below, TestsAsked}
use Rattle.pc_sound.proofs.Regular.RegularStatements.{StmtQuiet, SuiteQuiet, BranchesQuiet}

-- a demand follows from another demand
asked_from : {A B : Type 0} (asked : Asked) → (A → B) → TestsAsked asked A → TestsAsked asked B
asked_from tests_in_time f h = f h
asked_from (classes_below bound) f h = tt

-- no E12 is found at these places
abbrev pub NoneWrongAt : (Finding → Type 0) → List Place → Type 0
NoneWrongAt finds places = (f : Finding) → finds f → f.code ≡ E12 → Contains places f.place → ⊥

module _ (asked : Asked) where
  -- no E12 is found at these places, where that is asked
  abbrev pub AskedRight : (Finding → Type 0) → List Place → Type 0
  AskedRight finds places = TestsAsked asked (NoneWrongAt finds places)

  fewer : (finds less : Finding → Type 0) (places some : List Place) → ((f : Finding) → less f → finds f)
      → ((p : Place) → Contains some p → Contains places p) → AskedRight finds places → AskedRight less some
  fewer finds less places some within among = asked_from asked
      (λ h f found wrong here. h f (within f found) wrong (among f.place here))

  left : (finds less : Finding → Type 0) (ps qs : List Place) → ((f : Finding) → less f → finds f)
      → AskedRight finds (ps ++ qs) → AskedRight less ps
  left finds less ps qs within = fewer finds less (ps ++ qs) ps within (λ p c. Contains-append_left ps qs p c)

  right : (finds less : Finding → Type 0) (ps qs : List Place) → ((f : Finding) → less f → finds f)
      → AskedRight finds (ps ++ qs) → AskedRight less qs
  right finds less ps qs within = fewer finds less (ps ++ qs) qs within (λ p c. Contains-append_right ps qs p c)

module _ (asked : Asked) (m : Module) (ctx : Context) where
  behind_suite : (seen : NamesBound) (s : Stmt) (rest : Stmts) → ((seen : NamesBound) (labels : SuiteLabels rest)
      → AskedRight asked (SuiteFinds m ctx seen rest labels) (bare_returns_in rest) → SuiteQuiet asked rest labels)
      → (b : Test) (behind : Behind b (Following (SuiteLabels rest))) → AskedRight asked (λ f. BehindRule b behind
      (λ r. SuiteFinds m ctx (texts (bound_by_stmt s) ++ seen) rest r.rest f) ⊥) (bare_returns_in rest)
      → BehindRule b behind (λ r. SuiteQuiet asked rest r.rest) (Unit {0})
  behind_suite seen s rest others true behind h = others (texts (bound_by_stmt s) ++ seen) behind.rest h
  behind_suite seen s rest others false behind h = tt

  mutual
    pub stmt_quiet : (seen : NamesBound) (s : Stmt) (labels : StmtLabels s)
        → AskedRight asked (StmtFinds m ctx seen s labels) (bare_returns_in_stmt s) → StmtQuiet asked s labels
    stmt_quiet seen (returns p None) labels h = asked_from asked (λ none x among is. none (finding p E12)
        (inl (record { flow = x; among = among; code = E12; found = is; is = refl })) refl
        (0, omega arith, refl)) h
    stmt_quiet seen (returns p (Some e)) labels h = tt
    stmt_quiet seen (while_loop p c b) labels h = suite_quiet seen b labels.body
        (fewer asked _ _ (bare_returns_in b) (bare_returns_in b) (λ f x. inr x) (λ q x. x) h)
    stmt_quiet seen (for_loop p n e b) labels h = suite_quiet (n.text ∷ seen) b labels.body
        (fewer asked _ _ (bare_returns_in b) (bare_returns_in b) (λ f x. inr (inr (inr x))) (λ q x. x) h)
    stmt_quiet seen (conditional p bs o) labels h = (
      branches_quiet seen bs labels.branches (left asked _ _ (bare_returns_in_branches bs) (bare_returns_in o)
          (λ f x. inl x) h),
      suite_quiet (texts (bound_by_branches bs) ++ seen) o labels.otherwise
          (right asked _ _ (bare_returns_in_branches bs) (bare_returns_in o) (λ f x. inr x) h),
    )
    stmt_quiet seen (pass p) labels h = tt
    stmt_quiet seen (breaks p) labels h = tt
    stmt_quiet seen (continues p) labels h = tt
    stmt_quiet seen (asserts p c e) labels h = tt
    stmt_quiet seen (annotated p n a e) labels h = tt
    stmt_quiet seen (assigns p t e) labels h = tt
    stmt_quiet seen (evaluates p e) labels h = tt

    pub suite_quiet : (seen : NamesBound) (b : Stmts) (labels : SuiteLabels b)
        → AskedRight asked (SuiteFinds m ctx seen b labels) (bare_returns_in b) → SuiteQuiet asked b labels
    suite_quiet seen no_stmts labels h = tt
    suite_quiet seen (more_stmts s rest) labels h = (
      stmt_quiet seen s labels.first (left asked _ _ (bare_returns_in_stmt s) (bare_returns_in rest) (λ f x. inl x) h),
      behind_suite seen s rest (λ q l h'. suite_quiet q rest l h') (completes s) labels.behind
          (right asked (SuiteFinds m ctx seen (more_stmts s rest) labels)
          (λ f. BehindRule (completes s) labels.behind
          (λ r. SuiteFinds m ctx (texts (bound_by_stmt s) ++ seen) rest r.rest f) ⊥)
          (bare_returns_in_stmt s) (bare_returns_in rest) (λ f x. inr x) h),
    )

    pub branches_quiet : (seen : NamesBound) (bs : Branches) (labels : BranchesLabels bs)
        → AskedRight asked (BranchesFind m ctx seen bs labels) (bare_returns_in_branches bs)
        → BranchesQuiet asked bs labels
    branches_quiet seen no_branches labels h = tt
    branches_quiet seen (more_branches c b rest) labels h = (
      suite_quiet seen b labels.body (left asked _ _ (bare_returns_in b) (bare_returns_in_branches rest)
          (λ f x. inr (inl x)) h),
      branches_quiet (texts (bound_by b) ++ seen) rest labels.rest
          (right asked _ _ (bare_returns_in b) (bare_returns_in_branches rest) (λ f x. inr (inr x)) h),
    )
