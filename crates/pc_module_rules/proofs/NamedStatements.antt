-- The bound names that a walk over statements notes, if types are kept, are those under lawful labels, besides those
-- noted before.
use Rattle.std.proofs.Common.{◌≡◌, List, [], ◌∷◌, ◌++◌, refl, sym, ap, ◌∙◌, subst, append-nil}
use Rattle.std.specs.Prelude.{Bool as Test, true, false, Option, Some, None, is_some}
use Rattle.pc_source.specs.declared.place.Place.{Place}
use Rattle.pc_tree.specs.declared.code.Code.TheVariants.{E24}
use Rattle.pc_tree.specs.Code.{finding}
use Rattle.pc_tree.specs.Depth.{place_of}
use Rattle.pc_tree.specs.Tree.{Name, Expr, Ann, Target, to_name, to_attribute, to_index, Stmt, Stmts, Branches, pass}
use Rattle.pc_tree.specs.Tree.{breaks, continues, returns, asserts, annotated, assigns, evaluates, while_loop, for_loop}
use Rattle.pc_tree.specs.Tree.{conditional, no_stmts, more_stmts, no_branches, more_branches}
use Rattle.pc_tree.specs.Stopping.{bound_by, bound_by_stmt, bound_by_branches}
use Rattle.pc_scope.specs.declared.resolution.NameMeaning.{NameMeaning}
use Rattle.pc_scope.specs.declared.resolution.NameMeaning.TheVariants as meaning
use Rattle.pc_scope.specs.Bindings.{texts}
use Rattle.pc_scope.specs.Reach.{completes}
use Rattle.pc_types.specs.Tree.{Tree}
use Rattle.pc_types.specs.WellFormed.{IsWellFormed}
use Rattle.pc_annotations.specs.Annotations.{read_ann}
use Rattle.pc_annotations.specs.Listed.{ann_findings}
use Rattle.pc_flow.specs.Environment.{Env}
use Rattle.pc_flow.specs.Narrowing.{narrow}
use Rattle.pc_notes.specs.Notes.{Note}
use Rattle.pc_rules.specs.Operations.{Label, clean}
use Rattle.pc_rules.specs.Labels.{FlowLabels, Labels, type_of}
use Rattle.pc_rules.specs.Computed.Expressions.{flows_of}
use Rattle.pc_rules.specs.Computed.Findings.{codes_at, flows_at}
use Rattle.pc_rules.specs.Computed.Standing.{label_in, finds_in}
use Rattle.std.specs.Prelude.{ℕ, unwrap_or}
use Rattle.pc_module_rules.specs.StatementLabels.{OptionLabels, StmtLabels, SuiteLabels, BranchesLabels, Behind}
use Rattle.pc_module_rules.specs.StatementLabels.{Following, BehindRule, behind_list}
use Rattle.pc_module_rules.specs.Statements.{NamesBound, binds_number, AreUndeclared, LawfulBinding, LawfulAnnotated}
use Rattle.pc_module_rules.specs.Statements.{LawfulTarget, LawfulStmt, LawfulSuite, LawfulBranches}
use Rattle.pc_module_rules.specs.NamesOfStatements.{NameAt, name_bound, name_annotated, names_in_stmt, names_in_suite}
use Rattle.pc_module_rules.specs.NamesOfStatements.{names_in_branches}
use Rattle.pc_module_rules.specs.Laws.Labellings.{Surroundings}
use Rattle.pc_module_rules.specs.Computed.Statements.{DeclaredTypes, bound_type, known_declared, BodyContext, Walk}
use Rattle.pc_module_rules.specs.Computed.Statements.{BindingResult, BranchesResult, standing_here, with_way, narrowed_at, head_at}
use Rattle.pc_module_rules.specs.Computed.Statements.{item_label_of, iterable_finds, bind_label, bind_value, bind_annotated}
use Rattle.pc_module_rules.specs.Computed.Statements.{annotation_finds, annotated_binding, bound_name, bind_item}
use Rattle.pc_module_rules.specs.Computed.Statements.{store_finds, assign_target, option_finds, return_finds}
use Rattle.pc_module_rules.specs.Computed.Statements.{behind_loop, inside_for, step, walk_suite, walk_branches}
use Rattle.pc_module_rules.specs.Computed.Statements.{noted_binding, with_note}
use Rattle.pc_module_rules.specs.Laws.Walks.{TableFits, EnvFits, OutFits, body_context_in}
use Rattle.pc_module_rules.proofs.WalkedTables.{fits_both}
use Rattle.pc_module_rules.proofs.WalkedEnvironments.{truth_same, truth_fits, head_same, head_fits}
use Rattle.pc_module_rules.proofs.WalkedExpressions.{iterable_told}
use Rattle.pc_module_rules.proofs.WalkedBindings.{binding_says, target_says, annotated_says}
use Rattle.pc_module_rules.proofs.KeptWalks.{standing, same_item, same_item_bound, same_value, same_annotated}
use Rattle.pc_module_rules.proofs.KeptStatements.{StateFits, stmt_stands, suite_stands, none_noted}
use Rattle.pc_module_rules.proofs.NamelessNotes.{AreNameless, plain_nameless, codes_nameless}
use Rattle.pc_module_rules.proofs.NamelessNotes.{flows_nameless, read_nameless, iterable_nameless, store_nameless}
use Rattle.pc_module_rules.proofs.NamelessNotes.{option_nameless, return_nameless}
use Rattle.pc_module_rules.proofs.NamedNotes.{NamesMore, more_none, more_nameless, more_then, bound_as, note_names}
use Rattle.pc_module_rules.proofs.NamedNotes.{assigned_named, declared_named}

module _ (around : Surroundings) (returned : Tree) (kr : IsWellFormed around.context.bases returned)
    (declared : List Tree) where
  open around use {whole as m, context as ctx, context_well_formed as ck}

  -- the context of the statements, where types are kept, and where they are not
  abbrev kept : BodyContext
  kept = standing m ctx returned true

  abbrev bare : BodyContext
  bare = body_context_in around returned

  abbrev TableHere : NamesBound → DeclaredTypes → Type 0
  TableHere seen table = TableFits around declared seen table

  abbrev LawfulHere : NamesBound → Env → (s : Stmt) → StmtLabels s → Option Env → Type 0
  LawfulHere seen env s labels out = LawfulStmt m ctx declared returned seen env s labels out

  abbrev LawfulThere : NamesBound → Env → (b : Stmts) → SuiteLabels b → Option Env → Type 0
  LawfulThere seen env b labels out = LawfulSuite m ctx declared returned seen env b labels out

  abbrev names_of_stmt : (s : Stmt) → StmtLabels s → List NameAt
  names_of_stmt s labels = names_in_stmt ctx.resolve declared s labels

  abbrev names_of_suite : (b : Stmts) → SuiteLabels b → List NameAt
  names_of_suite b labels = names_in_suite ctx.resolve declared b labels

  abbrev names_of_branches : (bs : Branches) → BranchesLabels bs → List NameAt
  names_of_branches bs labels = names_in_branches ctx.resolve declared bs labels

  -- ---- a name bound

  -- binding a value names nothing before its note
  label_nameless : (table : DeclaredTypes) (env : Env) (x : ℕ) (want : Option Tree) (p : Place) (label : Label)
      (found : List Note) → NamesMore found (bind_label kept table env x want p label found).found []
  label_nameless table env x want p label found =
      let flows = flows_of ctx.bases label (unwrap_or want label.type ∷ []) in
      more_nameless found (flows_at p flows) (flows_nameless p flows)

  value_nameless : (table : DeclaredTypes) (env : Env) (r : NameMeaning) (annotation : Option Tree) (e : Expr)
      (found : List Note) → NamesMore found (bind_value kept table env r annotation e found).found []
  value_nameless table env (meaning.Local x) annotation e found =
      let want = known_declared (bound_type table x) annotation in
      let finds = finds_in (standing_here kept table env) want e in
      let label = label_in (standing_here kept table env) want e in
      more_then found (found ++ finds) (bind_label kept table env x want (place_of e) label (found ++ finds)).found []
      [] (more_nameless found finds (read_nameless (standing_here kept table env) want e))
      (label_nameless table env x want (place_of e) label (found ++ finds))
  value_nameless table env (meaning.Const c) annotation e found = more_nameless found
      (finds_in (standing_here kept table env) None e) (read_nameless (standing_here kept table env) None e)
  value_nameless table env (meaning.Func c) annotation e found = more_nameless found
      (finds_in (standing_here kept table env) None e) (read_nameless (standing_here kept table env) None e)
  value_nameless table env (meaning.Class c) annotation e found = more_nameless found
      (finds_in (standing_here kept table env) None e) (read_nameless (standing_here kept table env) None e)
  value_nameless table env (meaning.Builtin c) annotation e found = more_nameless found
      (finds_in (standing_here kept table env) None e) (read_nameless (standing_here kept table env) None e)
  value_nameless table env meaning.None annotation e found = more_nameless found
      (finds_in (standing_here kept table env) None e) (read_nameless (standing_here kept table env) None e)

  item_nameless : (table : DeclaredTypes) (head : Env) (r : NameMeaning) (p : Place) (t : Tree) (found : List Note)
      → NamesMore found (bind_item kept table head r p t found).found []
  item_nameless table head (meaning.Local x) p t found = label_nameless table head x (bound_type table x) p (clean t) found
  item_nameless table head (meaning.Const c) p t found = more_none found
  item_nameless table head (meaning.Func c) p t found = more_none found
  item_nameless table head (meaning.Class c) p t found = more_none found
  item_nameless table head (meaning.Builtin c) p t found = more_none found
  item_nameless table head meaning.None p t found = more_none found

  annotation_nameless : (o : Option Tree) (n : Name) (a : Ann) → AreNameless (annotation_finds kept o n a)
  annotation_nameless (Some d) n a = plain_nameless (finding n.place E24 ∷ [])
  annotation_nameless None n a = plain_nameless (ann_findings m ctx.bases a)

  read_annotated : (table : DeclaredTypes) (env : Env) (r : NameMeaning) (n : Name) (a : Ann) (e : Option Expr)
      (found : List Note) → NamesMore found (annotated_binding kept table env r n a e found).found []
  read_annotated table env r n a None found =
      let finds = annotation_finds kept (bound_name kept table r) n a in
      more_nameless found finds (annotation_nameless (bound_name kept table r) n a)
  read_annotated table env r n a (Some e) found =
      let t = read_ann m ctx.bases a in
      let finds = annotation_finds kept (bound_name kept table r) n a in
      more_then found (found ++ finds) (bind_value kept table env r (Some t) e (found ++ finds)).found [] []
      (more_nameless found finds (annotation_nameless (bound_name kept table r) n a))
      (value_nameless table env r (Some t) e (found ++ finds))

  -- the name of a binding that names nothing else
  noted : (valued : Test) (n : Name) (b : BindingResult) (after : Env) (found : List Note)
      → NamesMore found b.found []
      → NamesMore b.found (noted_binding true valued (ctx.resolve n.text) n.place b).found
      (bound_as around declared valued n (ctx.resolve n.text) after)
      → NamesMore found (noted_binding true valued (ctx.resolve n.text) n.place b).found
      (bound_as around declared valued n (ctx.resolve n.text) after)
  noted valued n b after found h k = more_then found b.found
      (noted_binding true valued (ctx.resolve n.text) n.place b).found []
      (bound_as around declared valued n (ctx.resolve n.text) after) h k

  module _ (seen : NamesBound) (n : Name) (table : DeclaredTypes) (t : TableHere seen table)
    where
      -- a value bound is named with the type that it was assigned
      binding_row : (r : NameMeaning) → ctx.resolve n.text ≡ r → (env : Env) → EnvFits around declared table env
          → (a : Option Tree) (e : Expr) (labels : Labels e) (flows : FlowLabels) (after : Env)
          → LawfulBinding m ctx declared env seen n r a e labels flows after
          → bound_as around declared true n r after
          ≡ name_bound ctx.resolve declared n r (type_of e labels) flows
      binding_row (meaning.Local x) i env f a e labels flows after l =
          assigned_named around declared seen n table t env f x i (type_of e labels) flows after l.after_is
      binding_row (meaning.Const c) i env f a e labels flows after l = refl
      binding_row (meaning.Func c) i env f a e labels flows after l = refl
      binding_row (meaning.Class c) i env f a e labels flows after l = refl
      binding_row (meaning.Builtin c) i env f a e labels flows after l = refl
      binding_row meaning.None i env f a e labels flows after l = refl

      target_row : (r : NameMeaning) → ctx.resolve n.text ≡ r → (head : Env) → EnvFits around declared table head
          → (item : Label) (flows : FlowLabels) (inside : Env)
          → LawfulTarget m ctx declared seen n r head item flows inside
          → bound_as around declared true n r inside ≡ name_bound ctx.resolve declared n r item.type flows
      target_row (meaning.Local x) i head f item flows inside l =
          assigned_named around declared seen n table t head f x i item.type flows inside l.inside_is
      target_row (meaning.Const c) i head f item flows inside l = refl
      target_row (meaning.Func c) i head f item flows inside l = refl
      target_row (meaning.Class c) i head f item flows inside l = refl
      target_row (meaning.Builtin c) i head f item flows inside l = refl
      target_row meaning.None i head f item flows inside l = refl

      annotated_row : (env : Env) → EnvFits around declared table env → (a : Ann) (e : Option Expr)
          (labels : OptionLabels e) (flows : FlowLabels) (after : Env)
          → LawfulAnnotated m ctx declared env seen n a e labels flows after
          → bound_as around declared (is_some e) n (ctx.resolve n.text) after
          ≡ name_annotated ctx.resolve declared n e labels flows
      annotated_row env f a None labels flows after l = declared_named around declared seen n (ctx.resolve n.text) after
      annotated_row env f a (Some e) labels flows after l = binding_row (ctx.resolve n.text) refl env f _ e labels flows
          after l

      -- a name annotated, and a name assigned
      annotated_names : (env : Env) → EnvFits around declared table env → (p : Place) (a : Ann) (e : Option Expr)
          (labels : OptionLabels e) (flows : FlowLabels) (after : Env) (found : List Note)
          → LawfulAnnotated m ctx declared env seen n a e labels flows after
          → NamesMore found (bind_annotated kept table env n a e found).found
          (name_annotated ctx.resolve declared n e labels flows)
      annotated_names env f p a e labels flows after found l =
          let r = ctx.resolve n.text in
          let b = annotated_binding kept table env r n a e found in
          let same = same_annotated m ctx returned true false table env n a e found found in
          let says = annotated_says around returned declared seen n table t env f p a e labels flows after found l in
          subst (λ (rows : List NameAt). NamesMore found (bind_annotated kept table env n a e found).found rows)
          (annotated_row env f a e labels flows after l)
          (noted (is_some e) n b after found (read_annotated table env r n a e found)
          (note_names around declared seen n (is_some e) b after r refl
          (subst (λ (u : DeclaredTypes). TableHere (n.text ∷ seen) u) (sym same.table) says.fits) (same.env ∙ says.env_is)))

      assigned_names : (env : Env) → EnvFits around declared table env → (e : Expr) (labels : Labels e)
          (flows : FlowLabels) (after : Env) (found : List Note)
          → LawfulBinding m ctx declared env seen n (ctx.resolve n.text) None e labels flows after
          → NamesMore found (assign_target kept table env (to_name n) e found).found
          (name_bound ctx.resolve declared n (ctx.resolve n.text) (type_of e labels) flows)
      assigned_names env f e labels flows after found l =
          let r = ctx.resolve n.text in
          let b = bind_value kept table env r None e found in
          let same = same_value m ctx returned true false table env r None e found found in
          let says = binding_says around returned declared seen n table t r refl env f None None (λ q. refl) tt e labels
          flows after found l in
          subst (λ (rows : List NameAt). NamesMore found (assign_target kept table env (to_name n) e found).found rows)
          (binding_row r refl env f None e labels flows after l)
          (noted true n b after found (value_nameless table env r None e found)
          (note_names around declared seen n true b after r refl
          (subst (λ (u : DeclaredTypes). TableHere (n.text ∷ seen) u) (sym same.table) says.fits) (same.env ∙ says.env_is)))

  assignment_names : (seen : NamesBound) (table : DeclaredTypes) (env : Env) (found : List Note)
      → TableHere seen table → EnvFits around declared table env → (p : Place)
      (t : Target) (e : Expr) (labels : StmtLabels (assigns p t e)) (out : Option Env)
      → LawfulHere seen env (assigns p t e) labels out
      → NamesMore found (assign_target kept table env t e found).found (names_of_stmt (assigns p t e) labels)
  assignment_names seen table env found t f p (to_name n) e labels out l = assigned_names seen n table t env f e
      labels.value labels.flows l.after found l.assignment
  assignment_names seen table env found t f p (to_attribute q o field) e labels out l =
      more_nameless found (store_finds kept (standing_here kept table env) (to_attribute q o field) e)
      (store_nameless (standing_here kept table env) kept (to_attribute q o field) e)
  assignment_names seen table env found t f p (to_index q o i) e labels out l =
      more_nameless found (store_finds kept (standing_here kept table env) (to_index q o i) e)
      (store_nameless (standing_here kept table env) kept (to_index q o i) e)

  -- ---- statements, suites and branches

  -- the notes of a walk over a suite, from a state that fits, name the names in the suite
  abbrev SuiteNames : NamesBound → (b : Stmts) → Type 0
  SuiteNames seen b =
      (w : Walk) (env : Env) → w.env ≡ Some env → TableHere seen w.table → EnvFits around declared w.table env
      → OutFits around declared w.table w.exit_env → (labels : SuiteLabels b) (out : Option Env)
      → LawfulThere seen env b labels out
      → NamesMore w.found (walk_suite kept w b).found (names_of_suite b labels)

  -- the notes of a statement and of those after it name the names in them
  behind_names : (b : Test) (seen : NamesBound) (env : Env) (table : DeclaredTypes) (found : List Note) (s : Stmt)
      (rest : Stmts) (s0 : StmtLabels s) (r : Behind b (Following (SuiteLabels rest))) (out : Option Env) (v : Walk)
      → ((o : Option Env) → LawfulHere seen env s s0 o
      → StateFits true around returned kr declared (texts (bound_by_stmt s) ++ seen) table v o
      × NamesMore found v.found (names_of_stmt s s0))
      → SuiteNames (texts (bound_by_stmt s) ++ seen) rest
      → BehindRule b r (λ x. LawfulHere seen env s s0 (Some x.env)
      × LawfulThere (texts (bound_by_stmt s) ++ seen) x.env rest x.rest out)
      (LawfulHere seen env s s0 None
      × AreUndeclared m ctx declared (texts (bound_by_stmt s) ++ seen) (bound_by rest) × (out ≡ None))
      → NamesMore found (walk_suite kept v rest).found (names_of_stmt s s0 ++ behind_list b r
      (λ x. names_of_suite rest x.rest))
  behind_names true seen env table found s rest s0 r out v first next l =
      let f = first (Some r.env) l.0 in
      more_then found v.found (walk_suite kept v rest).found (names_of_stmt s s0) (names_of_suite rest r.rest) f.1
      (next v r.env f.0.env_is f.0.fits f.0.env_fits f.0.exit_env_fits r.rest out l.1)
  behind_names false seen env table found s rest s0 r out v first next l =
      let f = first None l.0 in
      subst (λ (rows : List NameAt). NamesMore found (walk_suite kept v rest).found rows)
      (sym (append-nil (names_of_stmt s s0)))
      (subst (λ (xs : List Note). NamesMore found xs (names_of_stmt s s0))
      (sym (none_noted true around returned kr declared v f.0.env_is rest)) f.1)

  -- a walk over branches fits the labels, and names just the names under them
  record ForkNames (seen : NamesBound) (found : List Note) (w : BranchesResult) (last : Env) (rows : List NameAt)
      : Type 0 where
    fits : TableHere seen w.table
    last_is : w.last ≡ last
    last_fits : EnvFits around declared w.table last
    exit_env_fits : OutFits around declared w.table w.exit_env
    names : NamesMore found w.found rows

  mutual
    stmt_names : (seen : NamesBound) (table : DeclaredTypes) (env : Env) (exit_env : Option Env) (found : List Note)
        → TableHere seen table → EnvFits around declared table env → OutFits around declared table exit_env
        → (s : Stmt) (labels : StmtLabels s) (out : Option Env)
        → LawfulHere seen env s labels out
        → NamesMore found (step kept table (Some env) exit_env found s).found (names_of_stmt s labels)
    stmt_names seen table env exit_env found t f kb (pass p) labels out l = more_none found
    stmt_names seen table env exit_env found t f kb (breaks p) labels out l = more_none found
    stmt_names seen table env exit_env found t f kb (continues p) labels out l = more_none found
    stmt_names seen table env exit_env found t f kb (returns p e) labels out l =
        more_nameless found (return_finds kept (standing_here kept table env) p e)
        (return_nameless (standing_here kept table env) kept p e)
    stmt_names seen table env exit_env found t f kb (asserts p c e) labels out l =
        let xs = finds_in (standing_here kept table env) None c in
        let no = standing_here kept table (narrowed_at kept table false c env) in
        more_then found (found ++ xs) ((found ++ xs) ++ option_finds kept no None e) [] []
        (more_nameless found xs (read_nameless (standing_here kept table env) None c))
        (more_nameless (found ++ xs) (option_finds kept no None e) (option_nameless no kept None e))
    stmt_names seen table env exit_env found t f kb (annotated p n a e) labels out l = annotated_names seen n table t env
        f p a e labels.value labels.flows l.after found l.binding
    stmt_names seen table env exit_env found t f kb (assigns p x e) labels out l = assignment_names seen table env found t
        f p x e labels out l
    stmt_names seen table env exit_env found t f kb (evaluates p e) labels out l =
        more_nameless found (finds_in (standing_here kept table env) None e) (read_nameless (standing_here kept table env) None e)
    stmt_names seen table env exit_env found t f kb (while_loop p c b) labels out l =
        let kt = t.well_formed in
        let bound = binds_number ctx.resolve (bound_by b) in
        let fh = subst (EnvFits around declared table) (sym l.head)
        (head_fits around declared table kt bound env f) in
        let q : labels.head ≡ head_at kept table (bound_by b) env = l.head
        ∙ head_same around declared table kt bound env f in
        let xs = finds_in (standing_here kept table labels.head) None c in
        let yes = truth_same around declared table kt true c labels.head fh in
        let no = truth_same around declared table kt false c labels.head fh in
        let out_of = subst (EnvFits around declared table) no (truth_fits around declared table kt false c labels.head
        fh) in
        let start : Walk = record {
          table = table;
          env = Some (narrowed_at kept table true c labels.head);
          exit_env = Some (narrowed_at kept table false c labels.head);
          found = found ++ xs;
        } in
        let rows = names_of_suite b labels.body in
        subst
        (λ (h : Env). NamesMore found (behind_loop kept exit_env (walk_suite kept
        (record {
          table = table;
          env = Some (narrowed_at kept table true c h);
          exit_env = Some (narrowed_at kept table false c h);
          found = found ++ finds_in (standing_here kept table h) None c;
        })
        b)).found rows) q
        (more_then found (found ++ xs) (walk_suite kept start b).found [] rows
        (more_nameless found xs (read_nameless (standing_here kept table labels.head) None c))
        (suite_names seen b start (narrow ctx.bases declared ctx.resolve true c labels.head) (ap Some (sym yes)) t
        (truth_fits around declared table kt true c labels.head fh) out_of labels.body labels.out l.body))
    stmt_names seen table env exit_env found t f kb (for_loop p n e b) labels out l =
        let kt = t.well_formed in
        let r = ctx.resolve n.text in
        let names = binds_number ctx.resolve (n ∷ bound_by b) in
        let fh = subst (EnvFits around declared table) (sym l.head)
        (head_fits around declared table kt names env f) in
        let q : labels.head ≡ head_at kept table (n ∷ bound_by b) env = l.head
        ∙ head_same around declared table kt names env f in
        let it = iterable_told around declared table kt env f returned e labels.iterable labels.item l.iterable in
        let item = item_label_of kept (standing_here kept table env) e in
        let item_is : item ≡ labels.item = same_item m ctx returned true false table env e ∙ it.item_is in
        let xs = iterable_finds kept (standing_here kept table env) e in
        let ys = codes_at (place_of e) item.codes in
        let before = (found ++ xs) ++ ys in
        let bound = bind_item kept table labels.head r (place_of e) item.type before in
        let start = with_note kept true r n.place bound in
        let other = bind_item bare table labels.head r (place_of e) labels.item.type before in
        let same = same_item_bound m ctx returned true false table labels.head n (place_of e) item.type
        labels.item.type (ap (λ (x : Label). x.type) item_is) before before in
        let tg = target_says around returned declared seen n table t r refl labels.head fh
        labels.item it.well_formed (place_of e) labels.flows l.inside before l.target in
        let back : other.table ≡ start.table = sym same.table in
        let env_is : bound.env ≡ l.inside = same.env ∙ tg.env_is in
        let fits = subst (λ (u : DeclaredTypes). TableHere (n.text ∷ seen) u) back tg.fits in
        let row = name_bound ctx.resolve declared n r labels.item.type labels.flows in
        let rows = names_of_suite b labels.body in
        let body = inside_for kept labels.head start in
        let named : NamesMore before start.found row = subst
        (λ (x : List NameAt). NamesMore before start.found x)
        (target_row seen n table t r refl labels.head fh labels.item labels.flows l.inside l.target)
        (noted true n bound l.inside before (item_nameless table labels.head r (place_of e) item.type before)
        (note_names around declared seen n true bound l.inside r refl fits env_is)) in
        subst
        (λ (h : Env). NamesMore found (behind_loop kept exit_env (walk_suite kept
        (inside_for kept h (with_note kept true r n.place
        (bind_item kept table h r (place_of e) item.type before))) b)).found (row ++ rows)) q
        (more_then found before (walk_suite kept body b).found [] (row ++ rows)
        (more_then found (found ++ xs) before [] []
        (more_nameless found xs (iterable_nameless (standing_here kept table env) kept e))
        (more_nameless (found ++ xs) ys (codes_nameless (place_of e) item.codes)))
        (more_then before start.found (walk_suite kept body b).found row rows named
        (suite_names (n.text ∷ seen) b body l.inside (ap Some env_is) fits
        (subst (λ (u : DeclaredTypes). EnvFits around declared u l.inside) back tg.env_fits)
        (subst (λ (u : DeclaredTypes). EnvFits around declared u labels.head) back (tg.grows labels.head fh))
        labels.body labels.out l.body)))
    stmt_names seen table env exit_env found t f kb (conditional p bs o) labels out l =
        let start : BranchesResult = record {
          table = table;
          last = env;
          ways = None;
          exit_env = exit_env;
          found = found;
        } in
        let if_state = walk_branches kept start bs in
        let br = branches_name seen start env refl t f kb bs labels.branches labels.last l.branches in
        let mid : Walk = record {
          table = if_state.table;
          env = Some if_state.last;
          exit_env = if_state.exit_env;
          found = if_state.found;
        } in
        more_then found if_state.found (walk_suite kept mid o).found (names_of_branches bs labels.branches)
        (names_of_suite o labels.otherwise) br.names
        (suite_names (texts (bound_by_branches bs) ++ seen) o mid labels.last (ap Some br.last_is) br.fits br.last_fits
        br.exit_env_fits labels.otherwise labels.out l.otherwise)

    pub suite_names : (seen : NamesBound) (b : Stmts) (w : Walk) (env : Env) → w.env ≡ Some env
        → TableHere seen w.table → EnvFits around declared w.table env
        → OutFits around declared w.table w.exit_env → (labels : SuiteLabels b) (out : Option Env)
        → LawfulThere seen env b labels out
        → NamesMore w.found (walk_suite kept w b).found
        (names_of_suite b labels)
    suite_names seen no_stmts w env e t f kb labels out l = more_none w.found
    suite_names seen (more_stmts s rest) w env e t f kb labels out l =
        subst (λ (o : Option Env). NamesMore w.found
        (walk_suite kept (step kept w.table o w.exit_env w.found s) rest).found
        (names_of_suite (more_stmts s rest) labels)) (sym e)
        (behind_names (completes s) seen env w.table w.found s rest labels.first labels.behind out
        (step kept w.table (Some env) w.exit_env w.found s)
        (λ o y. (
          stmt_stands true around returned kr declared seen w.table env w.exit_env w.found t f kb s labels.first o y,
          stmt_names seen w.table env w.exit_env w.found t f kb s labels.first o y,
        ))
        (suite_names (texts (bound_by_stmt s) ++ seen) rest) l)

    branches_name : (seen : NamesBound) (w : BranchesResult) (env : Env) → w.last ≡ env
        → TableHere seen w.table → EnvFits around declared w.table env
        → OutFits around declared w.table w.exit_env → (bs : Branches) (labels : BranchesLabels bs) (last : Env)
        → LawfulBranches m ctx declared returned seen env bs labels last
        → ForkNames (texts (bound_by_branches bs) ++ seen) w.found (walk_branches kept w bs) last
        (names_of_branches bs labels)
    branches_name seen w env e t f kb no_branches labels last l = record {
      fits = t;
      last_is = e ∙ sym l;
      last_fits = subst (EnvFits around declared w.table) (sym l) f;
      exit_env_fits = kb;
      names = more_none w.found;
    }
    branches_name seen w env e t f kb (more_branches c b rest) labels last l =
        let kt = t.well_formed in
        let xs = finds_in (standing_here kept w.table env) None c in
        let yes = truth_same around declared w.table kt true c env f in
        let no = truth_same around declared w.table kt false c env f in
        let start : Walk = record {
          table = w.table;
          env = Some (narrowed_at kept w.table true c env);
          exit_env = w.exit_env;
          found = w.found ++ xs;
        } in
        let body = suite_stands true around returned kr declared seen start
        (narrow ctx.bases declared ctx.resolve true c env) (ap Some (sym yes)) t
        (truth_fits around declared w.table kt true c env f) kb b labels.body labels.out l.body in
        let named = suite_names seen b start (narrow ctx.bases declared ctx.resolve true c env) (ap Some (sym yes)) t
        (truth_fits around declared w.table kt true c env f) kb labels.body labels.out l.body in
        let u = walk_suite kept start b in
        let next : BranchesResult = record {
          table = u.table;
          last = narrowed_at kept w.table false c env;
          ways = with_way ctx.bases u.table w.ways u.env;
          exit_env = u.exit_env;
          found = u.found;
        } in
        let others = branches_name (texts (bound_by b) ++ seen) next
        (narrow ctx.bases declared ctx.resolve false c env) (sym no) body.fits
        (body.grows (narrow ctx.bases declared ctx.resolve false c env)
        (truth_fits around declared w.table kt false c env f)) body.exit_env_fits rest labels.rest last l.others in
        let inside = names_of_suite b labels.body in
        let further = names_of_branches rest labels.rest in
        subst (λ (x : Env). ForkNames (texts (bound_by_branches (more_branches c b rest)) ++ seen) w.found
        (walk_branches kept (record {
          table = w.table;
          last = x;
          ways = w.ways;
          exit_env = w.exit_env;
          found = w.found;
        }) (more_branches c b rest)) last (inside ++ further)) (sym e)
        (record {
          fits = fits_both around declared (bound_by b) (bound_by_branches rest) seen
              (walk_branches kept next rest).table others.fits;
          last_is = others.last_is;
          last_fits = others.last_fits;
          exit_env_fits = others.exit_env_fits;
          names = more_then w.found (w.found ++ xs) (walk_branches kept next rest).found [] (inside ++ further)
              (more_nameless w.found xs (read_nameless (standing_here kept w.table env) None c))
              (more_then (w.found ++ xs) u.found (walk_branches kept next rest).found inside further named
              others.names);
        })
