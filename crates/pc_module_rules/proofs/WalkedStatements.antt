-- A walk over statements, suites and branches agrees with their lawful labels: the induction on statements.
use Rattle.std.proofs.Common.{◌≡◌, ◌⊎◌, List, [], ◌∷◌, ◌++◌, refl, sym, ap, ◌∙◌, subst, inl, inr, append-nil}
use Rattle.std.proofs.Common.{append_assoc}
use Rattle.std.specs.Prelude.{Bool as Test, true, false, Option, Some, None, option_to_list}
use Rattle.pc_source.specs.declared.place.Place.{Place}
use Rattle.pc_tree.specs.declared.code.Finding.{Finding}
use Rattle.pc_tree.specs.Depth.{place_of}
use Rattle.pc_tree.specs.Tree.{Name, Expr, Target, to_name, to_attribute, to_index, Stmt, Stmts, Branches, pass, breaks}
use Rattle.pc_tree.specs.Tree.{continues, returns, asserts, annotated, assigns, evaluates, while_loop, for_loop}
use Rattle.pc_tree.specs.Tree.{conditional, no_stmts, more_stmts, no_branches, more_branches}
use Rattle.pc_tree.specs.Stopping.{bound_by, bound_by_stmt, bound_by_branches}
use Rattle.pc_scope.specs.Bindings.{texts}
use Rattle.pc_scope.specs.Reach.{completes}
use Rattle.pc_types.specs.Tree.{Tree}
use Rattle.pc_types.specs.WellFormed.{IsWellFormed}
use Rattle.pc_flow.specs.Environment.{Env, join_envs_onto, join_ways}
use Rattle.pc_flow.specs.Narrowing.{narrow}
use Rattle.pc_notes.specs.Notes.{Note}
use Rattle.pc_rules.specs.Computed.Findings.{codes_at}
use Rattle.pc_rules.specs.Computed.Standing.{finds_in}
use Rattle.pc_module_rules.specs.StatementLabels.{StmtLabels, SuiteLabels, BranchesLabels, Behind, Following}
use Rattle.pc_module_rules.specs.StatementLabels.{BehindRule, behind_list, breaks_in, breaks_in_suite}
use Rattle.pc_module_rules.specs.StatementLabels.{breaks_in_branches, ways_in}
use Rattle.pc_module_rules.specs.Statements.{NamesBound, binds_number, AreUndeclared, OptionFinds, StmtFinds}
use Rattle.pc_module_rules.specs.Statements.{SuiteFinds, BranchesFind, LawfulStmt, LawfulSuite, LawfulBranches}
use Rattle.pc_module_rules.specs.Laws.Labellings.{Surroundings}
use Rattle.pc_module_rules.specs.Computed.Statements.{DeclaredTypes, BodyContext, Walk, BranchesResult, BindingResult, standing_here}
use Rattle.pc_module_rules.specs.Computed.Statements.{with_way, narrowed_at, head_at, iterable_finds, bind_value}
use Rattle.pc_module_rules.specs.Computed.Statements.{bind_annotated, bind_item, store_finds, option_finds}
use Rattle.pc_module_rules.specs.Computed.Statements.{return_finds, behind_binding, inside_for, behind_loop}
use Rattle.pc_module_rules.specs.Computed.Statements.{unreached_names, step, walk_suite, walk_branches}
use Rattle.pc_module_rules.specs.Laws.Walks.{TableFits, EnvFits, OutFits, Adds, with_breaks, body_context_in, WalkSays}
use Rattle.pc_module_rules.specs.Laws.Walks.{Lists}
use Rattle.pc_module_rules.proofs.WalkedFindings.{lists_codes, adds_nothing, adds_same, adds_list, adds_both}
use Rattle.pc_module_rules.proofs.WalkedTables.{out_grows, fits_both, all_unreached_fit, unreached_suite}
use Rattle.pc_module_rules.proofs.WalkedEnvironments.{breaks_both, no_breaks, truth_same, truth_fits, head_same}
use Rattle.pc_module_rules.proofs.WalkedEnvironments.{head_fits, one_break, break_fits, one_way, way_fits}
use Rattle.pc_module_rules.proofs.WalkedExpressions.{told, iterable_told}
use Rattle.pc_module_rules.proofs.WalkedBindings.{BoundSays, binding_says, target_says, annotated_says}
use Rattle.pc_module_rules.proofs.WalkedStores.{store_says, option_says, return_says}

-- A walk over branches has come to what labels say: to the environment where no condition was true, and with the ways
-- out of the suites
-- joined after those before.
record ForkSays (around : Surroundings) (declared : List Tree) (seen : NamesBound) (table : DeclaredTypes) (ways : List Env)
    (exit_env : Option Env) (found : List Note) (w : BranchesResult) (last : Env) (more envs : List Env)
    (Says : Finding → Type 0) : Type 0 where
  fits : TableFits around declared seen w.table
  grows : (env : Env) → EnvFits around declared table env → EnvFits around declared w.table env
  last_is : w.last ≡ last
  last_fits : EnvFits around declared w.table last
  ways_is : w.ways ≡ join_ways around.context.bases declared (ways ++ more)
  ways_fit : OutFits around declared w.table w.ways
  exit_env_is : w.exit_env ≡ with_breaks around.context.bases declared exit_env envs
  exit_env_fits : OutFits around declared w.table w.exit_env
  found_is : Adds found w.found Says

module _ (around : Surroundings) (returned : Tree) (kr : IsWellFormed around.context.bases returned)
    (declared : List Tree) where
  open around use {whole as m, context as ctx, context_well_formed as ck}

  abbrev context : BodyContext
  context = body_context_in around returned

  abbrev TableHere : NamesBound → DeclaredTypes → Type 0
  TableHere seen table = TableFits around declared seen table

  abbrev WalkHere : NamesBound → DeclaredTypes → Option Env → List Note → Walk → Option Env → List Env → (Finding → Type 0)
      → Type 0
  WalkHere seen table exit_env found w out envs P = WalkSays around declared seen table exit_env found w out envs P

  abbrev truth_of : Test → Expr → Env → Env
  truth_of b c env = narrow ctx.bases declared ctx.resolve b c env

  abbrev LawfulHere : NamesBound → Env → (s : Stmt) → StmtLabels s → Option Env → Type 0
  LawfulHere seen env s labels out = LawfulStmt m ctx declared returned seen env s labels out

  abbrev LawfulThere : NamesBound → Env → (b : Stmts) → SuiteLabels b → Option Env → Type 0
  LawfulThere seen env b labels out = LawfulSuite m ctx declared returned seen env b labels out

  -- ---- walks, one after the other

  both_say : {P Q : Finding → Type 0} (before seen : NamesBound) (table : DeclaredTypes) (exit_env : Option Env)
      (found : List Note) (v w : Walk) (mid out : Option Env) (a b : List Env)
      → WalkHere before table exit_env found v mid a P → WalkHere seen v.table v.exit_env v.found w out b Q
      → WalkHere seen table exit_env found w out (a ++ b) (λ f. P f ⊎ Q f)
  both_say before seen table exit_env found v w mid out a b h k = record {
    fits = k.fits;
    grows = λ env f. k.grows env (h.grows env f);
    env_is = k.env_is;
    env_fits = k.env_fits;
    exit_env_is = k.exit_env_is ∙ ap (λ o. with_breaks ctx.bases declared o b) h.exit_env_is
        ∙ breaks_both ctx.bases declared exit_env a b;
    exit_env_fits = k.exit_env_fits;
    found_is = adds_both found v.found w.found h.found_is k.found_is;
  }

  -- of the same that is found
  says_same : {P Q : Finding → Type 0} (seen : NamesBound) (table : DeclaredTypes) (exit_env : Option Env) (found : List Note)
      (w : Walk) (out : Option Env) (a : List Env) → ((f : Finding) → P f → Q f) → ((f : Finding) → Q f → P f)
      → WalkHere seen table exit_env found w out a P → WalkHere seen table exit_env found w out a Q
  says_same seen table exit_env found w out a to from h = record {
    fits = h.fits;
    grows = h.grows;
    env_is = h.env_is;
    env_fits = h.env_fits;
    exit_env_is = h.exit_env_is;
    exit_env_fits = h.exit_env_fits;
    found_is =
        adds_same found w.found to from h.found_is;
  }

  -- a walk that binds nothing
  stays : {P : Finding → Type 0} (seen : NamesBound) (table : DeclaredTypes) (exit_env : Option Env) (found more : List Note)
      (after out : Option Env) → TableHere seen table → OutFits around declared table exit_env → after ≡ out
      → OutFits around declared table after → Adds found more P
      → WalkHere seen table exit_env found (record { table = table; env = after; exit_env = exit_env; found = more }) out [] P
  stays seen table exit_env found more after out t k e f a = record {
    fits = t;
    grows = λ env f. f;
    env_is = e;
    env_fits = subst (OutFits around declared table) e f;
    exit_env_is = no_breaks ctx.bases declared exit_env;
    exit_env_fits = k;
    found_is = a;
  }

  -- a walk after a name bound
  bound_says : {P : Finding → Type 0} (seen : NamesBound) (n : Name) (table : DeclaredTypes) (exit_env : Option Env)
      (found : List Note) (b : BindingResult) (after : Env) (out : Option Env) → OutFits around declared table exit_env
      → out ≡ Some after → BoundSays around returned declared seen n table found b after P
      → WalkHere (n.text ∷ seen) table exit_env found (behind_binding context exit_env b) out [] P
  bound_says seen n table exit_env found b after out k e h = record {
    fits = h.fits;
    grows = h.grows;
    env_is = ap Some h.env_is ∙ sym e;
    env_fits = subst (OutFits around declared b.table) (sym e) h.env_fits;
    exit_env_is = no_breaks ctx.bases declared exit_env;
    exit_env_fits = out_grows around declared table b.table exit_env h.grows k;
    found_is = h.found_is;
  }

  -- a walk over a suite that no run comes to
  unreached_says : (seen : NamesBound) (w : Walk) → TableHere seen w.table → OutFits around declared w.table w.exit_env
      → w.env ≡ None → (b : Stmts) → AreUndeclared m ctx declared seen (bound_by b) → (out : Option Env) → out ≡ None
      → WalkHere (texts (bound_by b) ++ seen) w.table w.exit_env w.found (walk_suite context w b) out [] (λ f. ⊥)
  unreached_says seen w t k e b u out o =
      let more = all_unreached_fit around declared returned seen w.table t (bound_by b) u in
      subst (λ x. WalkHere (texts (bound_by b) ++ seen) w.table w.exit_env w.found x out [] (λ f. ⊥))
      (sym (unreached_suite around declared returned w e b))
      (record {
        fits = more.fits;
        grows = more.grows;
        env_is = sym o;
        env_fits = subst (OutFits around declared (unreached_names context w.table (bound_by b))) (sym o) tt;
        exit_env_is = no_breaks ctx.bases declared w.exit_env;
        exit_env_fits = out_grows around declared w.table (unreached_names context w.table (bound_by b)) w.exit_env
            more.grows k;
        found_is = adds_nothing w.found;
      })

  -- a statement, and what stands after it
  behind_says : (b : Test) (seen : NamesBound) (table : DeclaredTypes) (env : Env) (exit_env : Option Env) (found : List Note)
      (s : Stmt) (rest : Stmts) (s0 : StmtLabels s) (r : Behind b (Following (SuiteLabels rest))) (out : Option Env)
      → ((o : Option Env) → LawfulHere seen env s s0 o → WalkHere (texts (bound_by_stmt s) ++ seen) table exit_env found
      (step context table (Some env) exit_env found s) o (breaks_in s s0) (StmtFinds m ctx seen s s0))
      → ((w : Walk) (mid : Env) → w.env ≡ Some mid → TableHere (texts (bound_by_stmt s) ++ seen) w.table
      → EnvFits around declared w.table mid → OutFits around declared w.table w.exit_env
      → (k : SuiteLabels rest) (o : Option Env) → LawfulThere (texts (bound_by_stmt s) ++ seen) mid rest k o
      → WalkHere (texts (bound_by rest) ++ (texts (bound_by_stmt s) ++ seen)) w.table w.exit_env w.found
      (walk_suite context w rest) o (breaks_in_suite rest k) (SuiteFinds m ctx (texts (bound_by_stmt s) ++ seen)
      rest k))
      → BehindRule b r (λ x. LawfulHere seen env s s0 (Some x.env) × LawfulThere (texts (bound_by_stmt s) ++ seen) x.env
      rest x.rest out) (LawfulHere seen env s s0 None × AreUndeclared m ctx declared
      (texts (bound_by_stmt s) ++ seen) (bound_by rest) × (out ≡ None))
      → WalkHere (texts (bound_by rest) ++ (texts (bound_by_stmt s) ++ seen)) table exit_env found
      (walk_suite context (step context table (Some env) exit_env found s) rest) out
      (breaks_in s s0 ++ behind_list b r (λ x. breaks_in_suite rest x.rest)) (λ f. StmtFinds m ctx seen s s0 f
      ⊎ BehindRule b r (λ x. SuiteFinds m ctx (texts (bound_by_stmt s) ++ seen) rest x.rest f) ⊥)
  behind_says true seen table env exit_env found s rest s0 r out first next l =
      let v = step context table (Some env) exit_env found s in
      let f = first (Some r.env) l.0 in
      let n = next v r.env f.env_is f.fits f.env_fits f.exit_env_fits r.rest out l.1 in
      both_say (texts (bound_by_stmt s) ++ seen) (texts (bound_by rest) ++ (texts (bound_by_stmt s) ++ seen)) table
      exit_env found v (walk_suite context v rest) (Some r.env) out (breaks_in s s0) (breaks_in_suite rest r.rest) f n
  behind_says false seen table env exit_env found s rest s0 r out first next l =
      let v = step context table (Some env) exit_env found s in
      let f = first None l.0 in
      let n = unreached_says (texts (bound_by_stmt s) ++ seen) v f.fits f.exit_env_fits f.env_is rest l.1 out l.2 in
      both_say (texts (bound_by_stmt s) ++ seen) (texts (bound_by rest) ++ (texts (bound_by_stmt s) ++ seen)) table
      exit_env found v (walk_suite context v rest) None out (breaks_in s s0) [] f n

  -- with the names of both in order
  says_named : {P : Finding → Type 0} (a b : List Name) (seen : NamesBound) (table : DeclaredTypes) (exit_env : Option Env)
      (found : List Note) (w : Walk) (out : Option Env) (envs : List Env) → WalkHere (texts b ++ (texts a ++ seen))
      table exit_env found w out envs P → WalkHere (texts (a ++ b) ++ seen) table exit_env found w out envs P
  says_named a b seen table exit_env found w out envs h = record {
    fits = fits_both around declared a b seen w.table
        h.fits;
    grows = h.grows;
    env_is = h.env_is;
    env_fits = h.env_fits;
    exit_env_is = h.exit_env_is;
    exit_env_fits =
        h.exit_env_fits;
    found_is = h.found_is;
  }

  -- ---- assignments

  assignment_says : (seen : NamesBound) (table : DeclaredTypes) (env : Env) (exit_env : Option Env) (found : List Note)
      → TableHere seen table → EnvFits around declared table env → OutFits around declared table exit_env
      → (p : Place) (t : Target) (e : Expr) (labels : StmtLabels (assigns p t e)) (out : Option Env)
      → LawfulHere seen env (assigns p t e) labels out
      → WalkHere (texts (bound_by_stmt (assigns p t e)) ++ seen) table exit_env found
      (step context table (Some env) exit_env found (assigns p t e)) out []
      (StmtFinds m ctx seen (assigns p t e) labels)
  assignment_says seen table env exit_env found t f k p (to_name n) e labels out l =
      let b = bind_value context table env (ctx.resolve n.text) None e found in
      let v = binding_says around returned declared seen n table t (ctx.resolve n.text) refl env f None None
      (λ q. refl) tt e labels.value labels.flows l.after found l.assignment in
      says_same (n.text ∷ seen) table exit_env found (behind_binding context exit_env b) out []
      (λ g y. elim y [ inl u ↦ inr (inl u) | inr v ↦ inl v ])
      (λ g y. elim y [ inl u ↦ inr u | inr v ↦ elim v [ inl w ↦ inl w | inr w ↦ absurd w ] ])
      (bound_says seen n table exit_env found b l.after out k l.is v)
  assignment_says seen table env exit_env found t f k p (to_attribute q o field) e labels out l =
      let v = store_says around returned kr declared table t.well_formed env f (to_attribute q o field) labels.target e
      labels.value labels.flows l.assignment.0 in
      let xs = store_finds context (standing_here context table env) (to_attribute q o field) e in
      stays seen table exit_env found (found ++ xs) (Some env) out t k (ap Some (sym l.assignment.1) ∙ sym l.is) f
      (adds_list found xs v)
  assignment_says seen table env exit_env found t f k p (to_index q o i) e labels out l =
      let v = store_says around returned kr declared table t.well_formed env f (to_index q o i) labels.target e
      labels.value labels.flows l.assignment.0 in
      let xs = store_finds context (standing_here context table env) (to_index q o i) e in
      stays seen table exit_env found (found ++ xs) (Some env) out t k (ap Some (sym l.assignment.1) ∙ sym l.is) f
      (adds_list found xs v)

  -- ---- statements, suites and branches

  mutual
    pub stmt_says : (seen : NamesBound) (table : DeclaredTypes) (env : Env) (exit_env : Option Env) (found : List Note)
        → TableHere seen table → EnvFits around declared table env → OutFits around declared table exit_env
        → (s : Stmt) (labels : StmtLabels s) (out : Option Env) → LawfulHere seen env s labels out
        → WalkHere (texts (bound_by_stmt s) ++ seen) table exit_env found (step context table (Some env) exit_env found s)
        out (breaks_in s labels) (StmtFinds m ctx seen s labels)
    stmt_says seen table env exit_env found t f k (pass p) labels out l = stays seen table exit_env found found (Some env)
        out t k (sym l) f (adds_nothing found)
    stmt_says seen table env exit_env found t f k (breaks p) labels out l = record {
      fits = t;
      grows = λ e g. g;
      env_is = sym l.1;
      env_fits = subst (OutFits around declared table) (sym l.1) tt;
      exit_env_is = one_break around declared table t.well_formed exit_env env k f
          ∙ ap (λ e. with_breaks ctx.bases declared exit_env (e ∷ [])) (sym l.0);
      exit_env_fits = break_fits around declared table t.well_formed exit_env env k f;
      found_is = adds_nothing found;
    }
    stmt_says seen table env exit_env found t f k (continues p) labels out l = stays seen table exit_env found found None
        out t k (sym l) tt (adds_nothing found)
    stmt_says seen table env exit_env found t f k (returns p e) labels out l =
        let v = return_says around returned kr declared table t.well_formed env f p e labels.value labels.flows l.0 in
        let xs = return_finds context (standing_here context table env) p e in
        stays seen table exit_env found (found ++ xs) None out t k (sym l.1) tt (adds_list found xs v)
    stmt_says seen table env exit_env found t f k (asserts p c e) labels out l =
        let v = told around declared table t.well_formed env f None tt c labels.condition l.condition in
        let no = truth_of false c env in
        let fn = truth_fits around declared table t.well_formed false c env f in
        let w = option_says around returned kr declared table t.well_formed no fn e labels.message l.message in
        let xs = finds_in (standing_here context table env) None c in
        let ys = option_finds context (standing_here context table (narrowed_at context table false c env)) None e in
        let more = adds_list (found ++ xs) ys (subst (λ x. Lists (option_finds context (standing_here context table x) None e)
        (OptionFinds m ctx e labels.message)) (truth_same around declared table t.well_formed false c env f) w) in
        stays seen table exit_env found ((found ++ xs) ++ ys) (Some (narrowed_at context table true c env)) out t k
        (ap Some (sym (truth_same around declared table t.well_formed true c env f)) ∙ sym l.after)
        (subst (EnvFits around declared table) (truth_same around declared table t.well_formed true c env f)
        (truth_fits around declared table t.well_formed true c env f))
        (adds_both found (found ++ xs) ((found ++ xs) ++ ys) (adds_list found xs v.found) more)
    stmt_says seen table env exit_env found t f k (annotated p n a e) labels out l =
        bound_says seen n table exit_env found (bind_annotated context table env n a e found) l.after out k l.is
        (annotated_says around returned declared seen n table t env f p a e labels.value labels.flows l.after found
        l.binding)
    stmt_says seen table env exit_env found t f k (assigns p x e) labels out l = assignment_says seen table env exit_env
        found t f k p x e labels out l
    stmt_says seen table env exit_env found t f k (evaluates p e) labels out l =
        let v = told around declared table t.well_formed env f None tt e labels l.0 in
        let xs = finds_in (standing_here context table env) None e in
        stays seen table exit_env found (found ++ xs) (Some env) out t k (sym l.1) f (adds_list found xs v.found)
    stmt_says seen table env exit_env found t f k (while_loop p c b) labels out l =
        let kt = t.well_formed in
        let bound = binds_number ctx.resolve (bound_by b) in
        let fh = subst (EnvFits around declared table) (sym l.head)
        (head_fits around declared table kt bound env f) in
        let q : labels.head ≡ head_at context table (bound_by b) env = l.head
        ∙ head_same around declared table kt bound env f in
        let v = told around declared table kt labels.head fh None tt c labels.condition l.condition in
        let xs = finds_in (standing_here context table labels.head) None c in
        let yes = truth_same around declared table kt true c labels.head fh in
        let no = truth_same around declared table kt false c labels.head fh in
        let out_of = subst (EnvFits around declared table) no (truth_fits around declared table kt false c labels.head
        fh) in
        let start : Walk = record {
          table = table;
          env = Some (narrowed_at context table true c labels.head);
          exit_env =
              Some (narrowed_at context table false c labels.head);
          found = found ++ xs;
        } in
        let body = suite_says seen start (truth_of true c labels.head) (ap Some (sym yes)) t
        (truth_fits around declared table kt true c labels.head fh) out_of b labels.body labels.out l.body in
        let w = walk_suite context start b in
        let env_is : w.exit_env ≡ out = body.exit_env_is
        ∙ (λ i. Some (join_envs_onto ctx.bases declared (sym no i) (breaks_in_suite b labels.body)))
        ∙ sym l.after in
        subst (λ h. WalkHere (texts (bound_by b) ++ seen) table exit_env found
        (behind_loop context exit_env
        (walk_suite context (record {
          table = table;
          env = Some (narrowed_at context table true c h);
          exit_env =
              Some (narrowed_at context table false c h);
          found = found ++ finds_in (standing_here context table h) None c;
        }) b)) out
        [] (StmtFinds m ctx seen (while_loop p c b) labels)) q
        (record {
          fits = body.fits;
          grows = body.grows;
          env_is = env_is;
          env_fits = subst (OutFits around declared w.table) env_is body.exit_env_fits;
          exit_env_is = no_breaks ctx.bases declared exit_env;
          exit_env_fits = out_grows around declared table w.table exit_env body.grows k;
          found_is = adds_both found (found ++ xs) w.found (adds_list found xs v.found) body.found_is;
        })
    stmt_says seen table env exit_env found t f k (for_loop p n e b) labels out l =
        let kt = t.well_formed in
        let bound = binds_number ctx.resolve (n ∷ bound_by b) in
        let fh = subst (EnvFits around declared table) (sym l.head)
        (head_fits around declared table kt bound env f) in
        let q : labels.head ≡ head_at context table (n ∷ bound_by b) env = l.head
        ∙ head_same around declared table kt bound env f in
        let it = iterable_told around declared table kt env f returned e labels.iterable labels.item l.iterable in
        let xs = iterable_finds context (standing_here context table env) e in
        let ys = codes_at (place_of e) labels.item.codes in
        let start = bind_item context table labels.head (ctx.resolve n.text) (place_of e) labels.item.type
        ((found ++ xs) ++ ys) in
        let tg = target_says around returned declared seen n table t (ctx.resolve n.text) refl labels.head fh
        labels.item it.well_formed (place_of e) labels.flows l.inside ((found ++ xs) ++ ys) l.target in
        let body = suite_says (n.text ∷ seen) (inside_for context labels.head start) l.inside (ap Some tg.env_is)
        tg.fits tg.env_fits (tg.grows labels.head fh) b labels.body labels.out l.body in
        let w = walk_suite context (inside_for context labels.head start) b in
        let env_is : w.exit_env ≡ out = body.exit_env_is ∙ sym l.after in
        let grows : (x : Env) → EnvFits around declared table x → EnvFits around declared w.table x =
        λ x y. body.grows x (tg.grows x y) in
        let said = adds_both found start.found w.found (adds_both found ((found ++ xs) ++ ys) start.found
        (adds_both found (found ++ xs) ((found ++ xs) ++ ys) (adds_list found xs it.found_is)
        (adds_list (found ++ xs) ys (lists_codes (place_of e) labels.item.codes))) tg.found_is) body.found_is in
        subst (λ i. WalkHere (n.text ∷ (texts (bound_by b) ++ seen)) table exit_env found
        (behind_loop context exit_env
        (walk_suite context (inside_for context (head_at context table (n ∷ bound_by b) env)
        (bind_item context table (head_at context table (n ∷ bound_by b) env) (ctx.resolve n.text) (place_of e)
        i.type ((found ++ xs) ++ codes_at (place_of e) i.codes))) b)) out []
        (StmtFinds m ctx seen (for_loop p n e b) labels)) (sym it.item_is)
        (subst (λ h. WalkHere (n.text ∷ (texts (bound_by b) ++ seen)) table exit_env found
        (behind_loop context exit_env
        (walk_suite context (inside_for context h (bind_item context table h (ctx.resolve n.text) (place_of e)
        labels.item.type ((found ++ xs) ++ ys))) b)) out [] (StmtFinds m ctx seen (for_loop p n e b) labels)) q
        (record {
          fits = fits_both around declared (n ∷ []) (bound_by b) seen w.table body.fits;
          grows = grows;
          env_is = env_is;
          env_fits = subst (OutFits around declared w.table) env_is body.exit_env_fits;
          exit_env_is = no_breaks ctx.bases declared exit_env;
          exit_env_fits = out_grows around declared table w.table exit_env grows k;
          found_is = adds_same found w.found
              (λ g y. elim y [
                | inl a ↦ elim a [
                  | inl c ↦ elim c [ inl u ↦ inr (inr (inl u)) | inr v ↦ inl v ]
                  | inr d ↦
                      inr (inl d)
                ]
                | inr s ↦ inr (inr (inr s))
              ])
              (λ g y. elim y [
                | inl v ↦ inl (inl (inr v))
                | inr a ↦ elim a
                    [ inl d ↦ inl (inr d) | inr c ↦ elim c [ inl u ↦ inl (inl (inl u)) | inr s ↦ inr s ] ]
              ])
              said;
        }))
    stmt_says seen table env exit_env found t f k (conditional p bs o) labels out l =
        let start : BranchesResult = record {
          table = table;
          last = env;
          ways = None;
          exit_env = exit_env;
          found =
              found;
        } in
        let if_state = walk_branches context start bs in
        let br = branches_says seen start env [] refl refl t f tt k bs labels.branches labels.last l.branches in
        let mid : Walk = record {
          table = if_state.table;
          env = Some if_state.last;
          exit_env = if_state.exit_env;
          found =
              if_state.found;
        } in
        let el = suite_says (texts (bound_by_branches bs) ++ seen) mid labels.last (ap Some br.last_is) br.fits
        br.last_fits br.exit_env_fits o labels.otherwise labels.out l.otherwise in
        let w = walk_suite context mid o in
        let kw = el.fits.well_formed in
        let grows : (x : Env) → EnvFits around declared table x → EnvFits around declared w.table x =
        λ x y. el.grows x (br.grows x y) in
        let wf : OutFits around declared w.table if_state.ways = out_grows around declared if_state.table w.table if_state.ways
        el.grows br.ways_fit in
        let env_is : with_way ctx.bases w.table if_state.ways w.env ≡ out =
        (λ i. with_way ctx.bases w.table (br.ways_is i) (el.env_is i))
        ∙ one_way around declared w.table kw (ways_in bs labels.branches) labels.out
        (subst (OutFits around declared w.table) br.ways_is wf) el.env_fits ∙ sym l.after in
        record {
          fits = fits_both around declared (bound_by_branches bs) (bound_by o) seen w.table el.fits;
          grows = grows;
          env_is = env_is;
          env_fits = subst (OutFits around declared w.table) env_is
              (way_fits around declared w.table kw if_state.ways w.env wf
              (subst (OutFits around declared w.table) (sym el.env_is) el.env_fits));
          exit_env_is = el.exit_env_is ∙ ap (λ x. with_breaks ctx.bases declared x (breaks_in_suite o labels.otherwise))
              br.exit_env_is ∙ breaks_both ctx.bases declared exit_env (breaks_in_branches bs labels.branches)
              (breaks_in_suite o labels.otherwise);
          exit_env_fits = el.exit_env_fits;
          found_is = adds_both found if_state.found w.found br.found_is el.found_is;
        }

    pub suite_says : (seen : NamesBound) (w : Walk) (env : Env) → w.env ≡ Some env → TableHere seen w.table
        → EnvFits around declared w.table env → OutFits around declared w.table w.exit_env
        → (b : Stmts) (labels : SuiteLabels b) (out : Option Env) → LawfulThere seen env b labels out
        → WalkHere (texts (bound_by b) ++ seen) w.table w.exit_env w.found (walk_suite context w b) out
        (breaks_in_suite b labels) (SuiteFinds m ctx seen b labels)
    suite_says seen w env e t f k no_stmts labels out l = record {
      fits = t;
      grows = λ x y. y;
      env_is = e ∙ sym l;
      env_fits = subst (OutFits around declared w.table) (sym l) f;
      exit_env_is = no_breaks ctx.bases declared w.exit_env;
      exit_env_fits = k;
      found_is = adds_nothing w.found;
    }
    suite_says seen w env e t f k (more_stmts s rest) labels out l =
        subst (λ o. WalkHere (texts (bound_by (more_stmts s rest)) ++ seen) w.table w.exit_env w.found
        (walk_suite context (step context w.table o w.exit_env w.found s) rest) out
        (breaks_in_suite (more_stmts s rest) labels) (SuiteFinds m ctx seen (more_stmts s rest) labels)) (sym e)
        (says_named (bound_by_stmt s) (bound_by rest) seen w.table w.exit_env w.found
        (walk_suite context (step context w.table (Some env) w.exit_env w.found s) rest) out
        (breaks_in_suite (more_stmts s rest) labels)
        (behind_says (completes s) seen w.table env w.exit_env w.found s rest labels.first labels.behind out
        (λ o y. stmt_says seen w.table env w.exit_env w.found t f k s labels.first o y)
        (λ v mid i tv fv kv x o y. suite_says (texts (bound_by_stmt s) ++ seen) v mid i tv fv kv rest x o y)
        l))

    branches_says : (seen : NamesBound) (w : BranchesResult) (env : Env) (before : List Env) → w.last ≡ env
        → w.ways ≡ join_ways ctx.bases declared before → TableHere seen w.table → EnvFits around declared w.table env
        → OutFits around declared w.table w.ways → OutFits around declared w.table w.exit_env
        → (bs : Branches) (labels : BranchesLabels bs) (last : Env) → LawfulBranches m ctx declared returned seen env bs
        labels last
        → ForkSays around declared (texts (bound_by_branches bs) ++ seen) w.table before w.exit_env w.found
        (walk_branches context w bs) last (ways_in bs labels) (breaks_in_branches bs labels)
        (BranchesFind m ctx seen bs labels)
    branches_says seen w env before e ways t f kw k no_branches labels last l = record {
      fits = t;
      grows = λ x y. y;
      last_is = e ∙ sym l;
      last_fits = subst (EnvFits around declared w.table) (sym l) f;
      ways_is = ways ∙ ap (join_ways ctx.bases declared) (sym (append-nil before));
      ways_fit = kw;
      exit_env_is = no_breaks ctx.bases declared w.exit_env;
      exit_env_fits = k;
      found_is = adds_nothing w.found;
    }
    branches_says seen w env before e ways t f kw k (more_branches c b rest) labels last l =
        let kt = t.well_formed in
        let v = told around declared w.table kt env f None tt c labels.condition l.condition in
        let xs = finds_in (standing_here context w.table env) None c in
        let yes = truth_same around declared w.table kt true c env f in
        let no = truth_same around declared w.table kt false c env f in
        let start : Walk = record {
          table = w.table;
          env = Some (narrowed_at context w.table true c env);
          exit_env =
              w.exit_env;
          found = w.found ++ xs;
        } in
        let body = suite_says seen start (truth_of true c env) (ap Some (sym yes)) t
        (truth_fits around declared w.table kt true c env f) k b labels.body labels.out l.body in
        let u = walk_suite context start b in
        let ku = body.fits.well_formed in
        let wf : OutFits around declared u.table w.ways = out_grows around declared w.table u.table w.ways body.grows
        kw in
        let ways' : with_way ctx.bases u.table w.ways u.env ≡ join_ways ctx.bases declared
        (before ++ option_to_list labels.out) = (λ i. with_way ctx.bases u.table (ways i) (body.env_is i))
        ∙ one_way around declared u.table ku before labels.out (subst (OutFits around declared u.table) ways wf)
        body.env_fits in
        let next : BranchesResult = record {
          table = u.table;
          last = narrowed_at context w.table false c env;
          ways =
              with_way ctx.bases u.table w.ways u.env;
          exit_env = u.exit_env;
          found = u.found;
        } in
        let others = branches_says (texts (bound_by b) ++ seen) next (truth_of false c env)
        (before ++ option_to_list labels.out) (sym no) ways' body.fits
        (body.grows (truth_of false c env) (truth_fits around declared w.table kt false c env f))
        (way_fits around declared u.table ku w.ways u.env wf (subst (OutFits around declared u.table)
        (sym body.env_is) body.env_fits)) body.exit_env_fits rest labels.rest last l.others in
        let z = walk_branches context next rest in
        subst (λ x. ForkSays around declared (texts (bound_by_branches (more_branches c b rest)) ++ seen) w.table
        before w.exit_env w.found (walk_branches context (record {
          table = w.table;
          last = x;
          ways = w.ways;
          exit_env =
              w.exit_env;
          found = w.found;
        }) (more_branches c b rest)) last (ways_in (more_branches c b rest) labels)
        (breaks_in_branches (more_branches c b rest) labels) (BranchesFind m ctx seen (more_branches c b rest)
        labels)) (sym e)
        (record {
          fits = fits_both around declared (bound_by b) (bound_by_branches rest) seen z.table others.fits;
          grows = λ x y. others.grows x (body.grows x y);
          last_is = others.last_is;
          last_fits = others.last_fits;
          ways_is = others.ways_is ∙ ap (join_ways ctx.bases declared)
              (append_assoc before (option_to_list labels.out) (ways_in rest labels.rest));
          ways_fit = others.ways_fit;
          exit_env_is = others.exit_env_is ∙ ap (λ x. with_breaks ctx.bases declared x
              (breaks_in_branches rest labels.rest)) body.exit_env_is ∙ breaks_both ctx.bases declared w.exit_env
              (breaks_in_suite b labels.body) (breaks_in_branches rest labels.rest);
          exit_env_fits = others.exit_env_fits;
          found_is = adds_both w.found (w.found ++ xs) z.found (adds_list w.found xs v.found)
              (adds_both (w.found ++ xs) u.found z.found body.found_is others.found_is);
        })
