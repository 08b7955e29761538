-- One step of a plain run, with any bound above the fuel.
use Rattle.std.proofs.Common.{◌≡◌, ◌≢◌, ◌<◌, ◌≤◌, ℕ, zero, suc, ◌+◌, refl, sym, ap, ◌∙◌, arith, List, [], ◌∷◌, length}
use Rattle.std.proofs.Common.{get_or, drop, true, false, ◌⊎◌, inl, inr}
use Rattle.std.specs.Prelude.{Result, Err, Some, None}
use Rattle.pc_tree.specs.Tree.{Expr, Stmt, Stmts, no_stmts, more_stmts, Branches, more_branches, stmt_of, stmts_of_list}
use Rattle.pc_tree.specs.declared.tree.Stmt.{Stmt as RustStmt}
use Rattle.pc_machine.specs.declared.state.Completion.{Completion as RustFlow}
use Rattle.pc_machine.specs.declared.state.Completion.TheVariants as rust_flow
use Rattle.pc_run.proofs.Bounds.{Above, Turns}
use Rattle.pc_value.specs.Value.{Value, is_true}
use Rattle.pc_value.specs.Actions as action
use Rattle.pc_value.specs.Actions.{Iteration}
use Rattle.pc_value.specs.Meaning.{value_of}
use Rattle.pc_machine.specs.declared.halt.Halt.{Halt}
use Rattle.pc_machine.specs.declared.halt.Halt.TheVariants.{Stopped, OutOfMemory}
use Rattle.pc_machine.specs.declared.machine.Machine.{Machine}
use Rattle.pc_machine.specs.Steps.{StatementEnd, next, breaking, continuing, leaves, item_out}
use Rattle.pc_machine.specs.Plain.{Progress, After, Came, Step, and_then, charge, act, after_change, plain}
use Rattle.pc_machine.specs.Runs.{plain_parts}
use Rattle.pc_machine.specs.Evaluation as text
use Rattle.pc_machine.specs.Evaluation.{binds_local}
use Rattle.pc_run.specs.Internal.Nodes.{charged_expr, exec_one, branches_in}
use Rattle.pc_machine.specs.Performed.{empty_charged}
use Rattle.pc_machine.specs.Machine.{TellsProgress, unit, flow_of, value_if_any}

-- an early end is one of the whole
pub ends : {A B C D : Type 0} (va : A → B) (vc : C → D) (x : Halt) (m : Machine) (l : After B) (f : B → Step D)
    → TellsProgress va (Err x) m l → TellsProgress vc (Err x) m (and_then l f)
ends va vc (Stopped s) m l f h = rw h refl
ends va vc (OutOfMemory error) m l f h = tt

-- an early end of something that is something else
pub ends_as : {A B : Type 0} (v : A → B) (x : Halt) (m : Machine) (l k : After B) → k ≡ l → TellsProgress v (Err x) m l
    → TellsProgress v (Err x) m k
ends_as v x m l k e h = rw e h

-- an expression that was charged
pub record Charged (n : ℕ) (e : Expr) (w w1 : Progress) : Type 0 where
  pub k : ℕ
  pub room : w1.fuel < k
  pub is : (plain_parts n).eval e w ≡ charged_expr k e w1

pub charged_eval : (n : ℕ) (e : Expr) (w w1 : Progress) → w1.fuel < w.fuel → w.fuel < n → charge w ≡ Came tt w1
    → Charged n e w w1
charged_eval zero e w w1 less lt h = absurd (omega arith)
charged_eval (suc k) e w w1 less lt h = record {
  k = k;
  room = omega arith;
  is = ap (λ l. and_then l (λ u. charged_expr k e)) h;
}

-- ---- statements

-- a statement that was charged, before others
pub record Begun (n : ℕ) (s : Stmt) (rest : Stmts) (w w1 : Progress) : Type 0 where
  pub k : ℕ
  pub room : w1.fuel < k
  pub is : (plain_parts n).exec (more_stmts s rest) w ≡ and_then (exec_one k s w1)
      (λ flow. text.then_follows Step plain flow ((plain_parts n).exec rest))

pub begun : (n : ℕ) (s : Stmt) (rest : Stmts) (w w1 : Progress) → w1.fuel < w.fuel → w.fuel < n → charge w ≡ Came tt w1
    → Begun n s rest w w1
begun zero s rest w w1 less lt h = absurd (omega arith)
begun (suc k) s rest w w1 less lt h = record {
  k = k;
  room = omega arith;
  is =
      ap (λ l. and_then l (λ u w2. and_then (exec_one k s w2) (λ flow. text.then_follows Step plain flow
      ((plain_parts (suc k)).exec rest)))) h;
}

pub uncharged : (n : ℕ) (s : Stmt) (rest : Stmts) (w : Progress) (x : Halt) (m : Machine) → w.fuel < n
    → TellsProgress unit (Err x) m (charge w) → TellsProgress flow_of (Err x) m
    ((plain_parts n).exec (more_stmts s rest) w)
uncharged zero s rest w x m lt h = absurd (omega arith)
uncharged (suc k) s rest w x m lt h = ends unit flow_of x m (charge w) _ h

pub nothing_left : (n : ℕ) (w : Progress) → w.fuel < n → (plain_parts n).exec no_stmts w ≡ Came next w
nothing_left zero w lt = absurd (omega arith)
nothing_left (suc k) w lt = refl

-- ---- branches

pub branch_taken : (n : ℕ) (e : Expr) (body : Stmts) (rest : Branches) (o : Stmts) (w w1 : Progress) (v : Value)
    → (plain_parts n).eval e w ≡ Came v w1 → is_true w1.state.heap v ≡ true → branches_in n (more_branches e body rest)
    o w ≡ (plain_parts n).exec body w1
branch_taken n e body rest o w w1 v h b = rw (h, b) refl

pub branch_passed : (n : ℕ) (e : Expr) (body : Stmts) (rest : Branches) (o : Stmts) (w w1 : Progress) (v : Value)
    → (plain_parts n).eval e w ≡ Came v w1 → is_true w1.state.heap v ≡ false → branches_in n (more_branches e body rest)
    o w ≡ branches_in n rest o w1
branch_passed n e body rest o w w1 v h b = rw (h, b) refl

-- ---- loops

-- the suite of a loop
abbrev pub suite : ℕ → Stmts → Step StatementEnd
suite n body w = and_then (empty_charged body w) (λ u. (plain_parts n).exec body)

suite_is : (k : ℕ) (body : Stmts) (w : Progress) → text.exec_body Step plain (plain_parts (suc k)).exec body w
    ≡ suite (suc k) body w
suite_is k no_stmts w = refl
suite_is k (more_stmts s rest) w = refl

pub while_err : (n : ℕ) (e : Expr) (body : Stmts) (w : Progress) (x : Halt) (m : Machine) → w.fuel < n
    → TellsProgress value_of (Err x) m ((plain_parts n).eval e w)
    → TellsProgress flow_of (Err x) m ((plain_parts n).again e body w)
while_err zero e body w x m lt h = absurd (omega arith)
while_err (suc k) e body w x m lt h = ends value_of flow_of x m ((plain_parts (suc k)).eval e w) _ h

pub while_over : (n : ℕ) (e : Expr) (body : Stmts) (w w1 : Progress) (v : Value) → w.fuel < n
    → (plain_parts n).eval e w ≡ Came v w1 → is_true w1.state.heap v ≡ false → (plain_parts n).again e body w
    ≡ Came next w1
while_over zero e body w w1 v lt h b = absurd (omega arith)
while_over (suc k) e body w w1 v lt h b = rw (h, b) refl

-- a turn, up to its suite
pub record Turned (n : ℕ) (body : Stmts) (w1 : Progress) (more : ℕ → Step StatementEnd) (l : After StatementEnd) : Type
    0 where
  pub k : ℕ
  pub next_bound : n ≡ k + 1
  pub is : l ≡ and_then (suite n body w1) (λ flow. text.after_turn Step plain flow (more k))

pub while_turn : (n : ℕ) (e : Expr) (body : Stmts) (w w1 : Progress) (v : Value) → w.fuel < n
    → (plain_parts n).eval e w ≡ Came v w1 → is_true w1.state.heap v ≡ true
    → Turned n body w1 (λ k. (plain_parts k).again e body) ((plain_parts n).again e body w)
while_turn zero e body w w1 v lt h b = absurd (omega arith)
while_turn (suc k) e body w w1 v lt h b = record {
  k = k;
  next_bound = omega arith;
  is =
      rw (h, b) (ap (λ l. and_then l (λ flow. text.after_turn Step plain flow ((plain_parts k).again e body)))
      (suite_is k body w1));
}

pub for_err : (n : ℕ) (over : Iteration) (i : ℕ) (name : List ℕ) (body : Stmts) (w : Progress) (x : Halt) (m : Machine)
    → w.fuel < n → TellsProgress value_if_any (Err x) m (act item_out (action.turn over i) w)
    → TellsProgress flow_of (Err x) m ((plain_parts n).turns over i name body w)
for_err zero over i name body w x m lt h = absurd (omega arith)
for_err (suc k) over i name body w x m lt h = ends value_if_any flow_of x m (act item_out (action.turn over i) w) _ h

pub for_over : (n : ℕ) (over : Iteration) (i : ℕ) (name : List ℕ) (body : Stmts) (w w1 : Progress) → w.fuel < n
    → act item_out (action.turn over i) w ≡ Came None w1 → (plain_parts n).turns over i name body w ≡ Came next w1
for_over zero over i name body w w1 lt h = absurd (omega arith)
for_over (suc k) over i name body w w1 lt h =
    ap (λ l. and_then l (text.with_item Step plain (plain_parts (suc k)).exec
    ((plain_parts k).turns over (suc i) name body) name body)) h

pub for_turn : (n : ℕ) (over : Iteration) (i : ℕ) (name : List ℕ) (body : Stmts) (w w1 : Progress) (v : Value)
    → w.fuel < n → act item_out (action.turn over i) w ≡ Came (Some v) w1
    → Turned n body (after_change (binds_local name v) w1) (λ k. (plain_parts k).turns over (suc i) name body)
    ((plain_parts n).turns over i name body w)
for_turn zero over i name body w w1 v lt h = absurd (omega arith)
for_turn (suc k) over i name body w w1 v lt h = record {
  k = k;
  next_bound = omega arith;
  is =
      ap (λ l. and_then l (text.with_item Step plain (plain_parts (suc k)).exec
      ((plain_parts k).turns over (suc i) name body) name body)) h
      ∙ ap (λ l. and_then l (λ flow. text.after_turn Step plain flow ((plain_parts k).turns over (suc i) name body)))
      (suite_is k body (after_change (binds_local name v) w1));
}

-- how the suite ends
pub suite_uncharged : (n : ℕ) (body : Stmts) (w : Progress) (x : Halt) (m : Machine)
    → TellsProgress unit (Err x) m (empty_charged body w) → TellsProgress flow_of (Err x) m (suite n body w)
suite_uncharged n body w x m h = ends unit flow_of x m (empty_charged body w) _ h

pub suite_run : (n : ℕ) (body : Stmts) (w w1 : Progress) → empty_charged body w ≡ Came tt w1
    → suite n body w ≡ (plain_parts n).exec body w1
suite_run n body w w1 h = ap (λ l. and_then l (λ u. (plain_parts n).exec body)) h

pub after_suite : (n : ℕ) (body : Stmts) (w w1 : Progress) (f : StatementEnd) (more : Step StatementEnd)
    → suite n body w ≡ Came f w1 → and_then (suite n body w) (λ flow. text.after_turn Step plain flow more)
    ≡ text.after_turn Step plain f more w1
after_suite n body w w1 f more h = ap (λ l. and_then l (λ flow. text.after_turn Step plain flow more)) h

-- ---- in the form in which the tracer needs them

pub tells_as : {A B : Type 0} (v : A → B) (r : Result A Halt) (m : Machine) (l k : After B) → k ≡ l
    → TellsProgress v r m l → TellsProgress v r m k
tells_as v r m l k e h = rw e h

pub went : {A B C : Type 0} (v : A → B) (r : Result A Halt) (m : Machine) (l : After C) (f : C → Step B) (b : C)
    (w1 : Progress) → l ≡ Came b w1 → TellsProgress v r m (f b w1) → TellsProgress v r m (and_then l f)
went v r m l f b w1 e h = rw e h

pub turned_err : (n : ℕ) (body : Stmts) (w1 : Progress) (more : ℕ → Step StatementEnd) (l : After StatementEnd)
    (x : Halt) (m : Machine) → Turned n body w1 more l → TellsProgress flow_of (Err x) m (suite n body w1)
    → TellsProgress flow_of (Err x) m l
turned_err n body w1 more l x m t h = tells_as flow_of (Err x) m _ l t.is
    (ends flow_of flow_of x m (suite n body w1) _ h)

pub turned_break : (n : ℕ) (body : Stmts) (w1 w2 : Progress) (more : ℕ → Step StatementEnd) (l : After StatementEnd)
    → Turned n body w1 more l → suite n body w1 ≡ Came breaking w2 → l ≡ Came next w2
turned_break n body w1 w2 more l t h = t.is ∙ after_suite n body w1 w2 breaking (more t.k) h

pub turned_leave : (n : ℕ) (body : Stmts) (w1 w2 : Progress) (v : Value) (more : ℕ → Step StatementEnd)
    (l : After StatementEnd) → Turned n body w1 more l → suite n body w1 ≡ Came (leaves v) w2 → l ≡ Came (leaves v) w2
turned_leave n body w1 w2 v more l t h = t.is ∙ after_suite n body w1 w2 (leaves v) (more t.k) h

pub turned_more : (n : ℕ) (body : Stmts) (w1 w2 : Progress) (f : StatementEnd) (more : ℕ → Step StatementEnd)
    (l : After StatementEnd) (t : Turned n body w1 more l) → suite n body w1 ≡ Came f w2 → (f ≡ next) ⊎ (f ≡ continuing)
    → l ≡ more t.k w2
turned_more n body w1 w2 f more l t h (inl e) = t.is ∙ after_suite n body w1 w2 f (more t.k) h
    ∙ ap (λ g. text.after_turn Step plain g (more t.k) w2) e
turned_more n body w1 w2 f more l t h (inr e) = t.is ∙ after_suite n body w1 w2 f (more t.k) h
    ∙ ap (λ g. text.after_turn Step plain g (more t.k) w2) e

-- the suite after its charge
pub suite_to : (n : ℕ) (body : Stmts) (w w1 w2 : Progress) (f : StatementEnd) → empty_charged body w ≡ Came tt w1
    → (plain_parts n).exec body w1 ≡ Came f w2 → suite n body w ≡ Came f w2
suite_to n body w w1 w2 f c h = suite_run n body w w1 c ∙ h

pub suite_err : (n : ℕ) (body : Stmts) (w w1 : Progress) (x : Halt) (m : Machine) → empty_charged body w ≡ Came tt w1
    → TellsProgress flow_of (Err x) m ((plain_parts n).exec body w1) → TellsProgress flow_of (Err x) m (suite n body w)
suite_err n body w w1 x m c h = tells_as flow_of (Err x) m ((plain_parts n).exec body w1) (suite n body w)
    (suite_run n body w w1 c) h

pub while_more : (n : ℕ) (e : Expr) (body : Stmts) (w w1 w2 w3 : Progress) (v : Value) (f : StatementEnd)
    (l : After StatementEnd) → w.fuel < n → w3.fuel < w.fuel → l ≡ (plain_parts n).again e body w
    → (plain_parts n).eval e w ≡ Came v w1 → is_true w1.state.heap v ≡ true → empty_charged body w1 ≡ Came tt w2
    → (plain_parts n).exec body w2 ≡ Came f w3 → (f ≡ next) ⊎ (f ≡ continuing) → Above w3.fuel e body w3 l
while_more n e body w w1 w2 w3 v f l lt less is h b c x go =
    let t = while_turn n e body w w1 v lt h b in
    record {
      bound = t.k;
      room = omega (arith, t.next_bound, lt, less);
      is = is
          ∙ turned_more n body w1 w3 f (λ k. (plain_parts k).again e body) ((plain_parts n).again e body w) t
          (suite_to n body w1 w2 w3 f c x) go;
    }

pub for_more : (n : ℕ) (over : Iteration) (i j : ℕ) (name : List ℕ) (body : Stmts) (w w1 w1' w2 w3 : Progress)
    (v : Value) (f : StatementEnd) (l : After StatementEnd) → w.fuel < n → w3.fuel < w.fuel → j ≡ i + 1
    → l ≡ (plain_parts n).turns over i name body w → act item_out (action.turn over i) w ≡ Came (Some v) w1
    → w1' ≡ after_change (binds_local name v) w1 → empty_charged body w1' ≡ Came tt w2 → (plain_parts n).exec body w2
    ≡ Came f w3 → (f ≡ next) ⊎ (f ≡ continuing) → Turns w3.fuel over j name body w3 l
for_more n over i j name body w w1 w1' w2 w3 v f l lt less ij is h b c x go =
    let t = for_turn n over i name body w w1 v lt h in
    let e : suc i ≡ j = omega (arith, ij) in
    record {
      bound = t.k;
      room = omega (arith, t.next_bound, lt, less);
      is = is
          ∙ turned_more n body (after_change (binds_local name v) w1) w3 f
          (λ k. (plain_parts k).turns over (suc i) name body) ((plain_parts n).turns over i name body w) t
          (suite_to n body (after_change (binds_local name v) w1) w2 w3 f (ap (empty_charged body) (sym b) ∙ c) x) go
          ∙ ap (λ k. (plain_parts t.k).turns over k name body w3) e;
    }

-- ---- the next statement

stmts_at : (body : List RustStmt) (i : ℕ) (s : RustStmt) → i < length body → s ≡ get_or body i s
    → stmts_of_list (drop i body) ≡ more_stmts (stmt_of s) (stmts_of_list (drop (suc i) body))
stmts_at [] i s lt e = absurd (omega arith)
stmts_at (a ∷ rest) zero s lt e = ap (λ b. more_stmts (stmt_of b) (stmts_of_list rest)) (sym e)
stmts_at (a ∷ rest) (suc i) s lt e = stmts_at rest i s (omega arith) e

pub stmts_next : (body : List RustStmt) (i : ℕ) (s : RustStmt) → i < length body → s ≡ get_or body i s
    → stmts_of_list (drop i body) ≡ more_stmts (stmt_of s) (stmts_of_list (drop (i + 1) body))
stmts_next body i s lt e = let h : suc i ≡ i + 1 = omega arith in stmts_at body i s lt e
    ∙ ap (λ k. more_stmts (stmt_of s) (stmts_of_list (drop k body))) h

pub stmts_end : (body : List RustStmt) (i : ℕ) → length body ≤ i → stmts_of_list (drop i body) ≡ no_stmts
stmts_end [] zero h = refl
stmts_end [] (suc i) h = refl
stmts_end (a ∷ rest) zero h = absurd (omega arith)
stmts_end (a ∷ rest) (suc i) h = stmts_end rest i (omega arith)

pub other_flow : (g : RustFlow) (rest : Step StatementEnd) (w : Progress) → g ≢ rust_flow.Next
    → text.then_follows Step plain (flow_of g) rest w ≡ Came (flow_of g) w
other_flow rust_flow.Next rest w h = absurd (h refl)
other_flow rust_flow.Breaking rest w h = refl
other_flow rust_flow.Continuing rest w h = refl
other_flow (rust_flow.Leaves v) rest w h = refl

-- a turn of a loop has spent fuel, on its suite or for want of one
pub spent_turn : (body : List RustStmt) (a b c : ℕ) → b ≤ a → c ≤ b → (body ≡ [] → b < a) → (body ≢ [] → c < b) → c < a
spent_turn [] a b c h k x y = let z : b < a = x refl in omega arith
spent_turn (s ∷ rest) a b c h k x y = let ne : s ∷ rest ≢ [] = λ e. cc in let z : c < b = y ne in omega arith
