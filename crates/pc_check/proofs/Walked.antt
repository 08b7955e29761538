-- The state of a walk over statements, put together from its steps.
use Rattle.std.proofs.Common.{◌≡◌, ◌∙◌, ◌++◌, ◌≤◌, ℕ, List, Option, Some, None, length, drop, sym, ap, subst}
use Rattle.std.proofs.Common.{append_assoc}
use Rattle.std.specs.Prelude.{Bool as Test, true, false}
use Rattle.std.specs.Option.{option_map}
use Rattle.std.proofs.lemmas.List.{drop_all}
use Rattle.pc_tree.specs.declared.tree.Stmt.{Stmt as RustStmt}
use Rattle.pc_tree.specs.declared.tree.Branch.{Branch as RustBranch}
use Rattle.pc_tree.specs.Tree.{Expr, Stmts, no_stmts, no_branches, more_branches, stmts_of_list}
use Rattle.pc_tree.specs.Lists.{branches_of_list}
use Rattle.pc_types.specs.declared.store.TypeStore.{Ghosts as StoreOf}
use Rattle.pc_flow.specs.Environment.{Env}
use Rattle.pc_flow.specs.Stored.{env_of}
use Rattle.pc_notes.specs.Notes.{Note, notes_of}
use Rattle.pc_rules.specs.Computed.Standing.{Standing, finds_in}
use Rattle.pc_module_rules.specs.Computed.Statements.{BodyContext, DeclaredTypes, Walk as Reached, BranchesResult, standing_here}
use Rattle.pc_module_rules.specs.Computed.Statements.{narrowed_at}
use Rattle.pc_module_rules.specs.Computed.Statements.{with_way, behind_branches, walk_suite, walk_branches}
use Rattle.pc_walk.specs.StatementsHeld.{body_context_with}
use Rattle.pc_walk.specs.declared.walk.Walk.{Walk}
use Rattle.pc_walk.specs.Walks.{HoldsEnv, HoldsWay, WalkKept, IsQuiet, Found, body_context_in, standing_in}
use Rattle.pc_walk.proofs.Walks.{context_on, env_kept, way_kept}
use Rattle.pc_check.specs.Internal.Walked.{IsValidWith, Walked, reached}

-- nothing is left of a suite, and of branches
pub no_statement_left : (body : List RustStmt) (i : ℕ) → length body ≤ i → stmts_of_list (drop i body) ≡ no_stmts
no_statement_left body i h = ap stmts_of_list (drop_all i body h)

pub no_branch_left : (bs : List RustBranch) (i : ℕ) → length bs ≤ i → branches_of_list (drop i bs) ≡ no_branches
no_branch_left bs i h = ap branches_of_list (drop_all i bs h)

-- notes appended for two parts together were appended for one after the other
pub in_turn : (old first second new : List Note) → new ≡ old ++ (first ++ second) → new ≡ (old ++ first) ++ second
in_turn old first second new e = e ∙ sym (append_assoc old first second)

-- the state of a walk, by what was found
abbrev pub reached_by : DeclaredTypes → (env exit_env : Option Env) → List Note → Reached
reached_by table env exit_env found = record { table = table; env = env; exit_env = exit_env; found = found }

module _ (context : BodyContext) where
  -- one branch more
  pub branch_walked : (table : DeclaredTypes) (last : Env) (ways exit_env : Option Env) (found : List Note) (c : Expr) (b : Stmts)
      (start body : Reached) (last' : Env) (ways' : Option Env)
      → start ≡ record {
        table = table;
        env = Some (narrowed_at context table true c last);
        exit_env = exit_env;
        found = found ++ finds_in (standing_here context table last) None c;
      }
      → body ≡ walk_suite context start b
      → last' ≡ narrowed_at context table false c last
      → ways' ≡ with_way context.context.bases body.table ways body.env
      → walk_branches context
      (record { table = body.table; last = last'; ways = ways'; exit_env = body.exit_env; found = body.found }) no_branches
      ≡ walk_branches context
      (record { table = table; last = last; ways = ways; exit_env = exit_env; found = found })
      (more_branches c b no_branches)
  branch_walked table last ways exit_env found c b start body last' ways' es eb el ew =
      let e = eb ∙ ap (λ w. walk_suite context w b) es in
      let joined = ew ∙ ap (λ (w : Reached). with_way context.context.bases w.table ways w.env) e in
      λ i. record { table = (e i).table; last = el i; ways = joined i; exit_env = (e i).exit_env; found = (e i).found }

  -- after an `if`, by what its branches come to
  pub branches_from : (if_state result : BranchesResult) (o : Stmts) → if_state ≡ result
      → behind_branches context if_state.ways
      (walk_suite context (reached_by if_state.table (Some if_state.last) if_state.exit_env if_state.found) o)
      ≡ behind_branches context result.ways
      (walk_suite context (reached_by result.table (Some result.last) result.exit_env result.found) o)
  branches_from if_state result o e = λ i. behind_branches context (e i).ways
      (walk_suite context (reached_by (e i).table (Some (e i).last) (e i).exit_env (e i).found) o)

  -- after the suite of `else`
  pub otherwise_walked : (ways : Option Env) (out result : Reached) (joined : Option Env) → out ≡ result
      → joined ≡ with_way context.context.bases out.table ways out.env
      → reached_by out.table joined out.exit_env out.found ≡ behind_branches context ways result
  otherwise_walked ways out result joined eo ej =
      let first : reached_by out.table joined out.exit_env out.found ≡ behind_branches context ways out =
      λ i. record { table = out.table; env = ej i; exit_env = out.exit_env; found = out.found } in
      first ∙ ap (behind_branches context ways) eo

module _ {Store Ty : Type 0} (S : StoreOf Store Ty) where
  module _ (old new : Walk Store Ty) (env : List (Option Ty)) (finds : BodyContext → Standing → List Note)
      (g : WalkKept S old new) (a : Found S old env new finds) where
    -- the state of a walk after a step that found something
    pub found_reached : (behind way : Option (List (Option Ty)))
        → reached S new behind way
        ≡ reached_by (env_of S.tree old.declared.now) (option_map (env_of S.tree) behind)
        (option_map (env_of S.tree) way) (notes_of old.found.now ++ finds (body_context_in S old)
        (standing_in S old env))
    found_reached behind way = λ i. record {
      table = env_of S.tree (a.declared i);
      env = option_map (env_of S.tree) behind;
      exit_env = option_map (env_of S.tree) way;
      found = a.pushed i;
    }

    -- the walk is valid there
    pub found_stands : (behind way : Option (List (Option Ty))) → HoldsWay S new behind → HoldsWay S old way
        → IsValidWith S new behind way
    found_stands behind way h k = record {
      context = a.stands.context;
      declared = a.stands.declared;
      current = h;
      out = way_kept S old new way g k;
    }

    -- a condition narrows an environment as it did before
    pub same_narrowed : (holds : Test) (c : Expr)
        → narrowed_at (body_context_in S new) (env_of S.tree new.declared.now) holds c (env_of S.tree env)
        ≡ narrowed_at (body_context_in S old) (env_of S.tree old.declared.now) holds c (env_of S.tree env)
    same_narrowed holds c = λ i. narrowed_at (body_context_with S.tree (g.context i))
        (env_of S.tree (a.declared i)) holds c (env_of S.tree env)

  module _ (old new : Walk Store Ty) (g : WalkKept S old new) (q : IsQuiet S old new) where
    -- after a quiet step a walk is valid as before it
    pub quiet_stands : (env way : Option (List (Option Ty))) → IsValidWith S old env way → IsValidWith S new env way
    quiet_stands env way h = record {
      context = context_on S old new h.context g;
      declared = subst (λ (ds : List (Option Ty)). HoldsEnv S new ds) (sym q.declared)
          (env_kept S old new old.declared.now g h.declared);
      current = way_kept S old new env g h.current;
      out = way_kept S old new way g h.out;
    }

    -- the state of the walk is the same as before
    pub quiet_reached : (env way : Option (List (Option Ty))) → reached S new env way ≡ reached S old env way
    quiet_reached env way = λ i. record {
      table = env_of S.tree (q.declared i);
      env = option_map (env_of S.tree) env;
      exit_env = option_map (env_of S.tree) way;
      found = q.found i;
    }

    -- a condition narrows an environment as it narrows the one that it means
    pub narrowed_from : (env : List (Option Ty)) (first : Env) → env_of S.tree env ≡ first → (holds : Test) (c : Expr)
        → narrowed_at (body_context_in S new) (env_of S.tree new.declared.now) holds c (env_of S.tree env)
        ≡ narrowed_at (body_context_in S old) (env_of S.tree old.declared.now) holds c first
    narrowed_from env first e holds c = λ i. narrowed_at (body_context_with S.tree (g.context i))
        (env_of S.tree (q.declared i)) holds c (e i)

    -- the findings in it
    pub finds_from : (env : List (Option Ty)) (first : Env) → env_of S.tree env ≡ first → (c : Expr)
        → notes_of new.found.now ++ finds_in (standing_in S new env) None c
        ≡ notes_of old.found.now ++ finds_in (standing_here (body_context_in S old) (env_of S.tree old.declared.now) first) None c
    finds_from env first e c = λ i. q.found i ++ finds_in (standing_here (body_context_with S.tree (g.context i))
        (env_of S.tree (q.declared i)) (e i)) None c

  -- the result of a walk that began after other steps
  pub walks_on : (old mid new : Walk Store Ty) (env way behind later : Option (List (Option Ty)))
      (walks : BodyContext → Reached → Reached)
      → WalkKept S old mid → Walked S mid env way new behind later walks
      → reached S new behind later ≡ walks (body_context_in S old) (reached S mid env way)
  walks_on old mid new env way behind later walks g w =
      w.is ∙ (λ i. walks (body_context_with S.tree (g.context i)) (reached S mid env way))
