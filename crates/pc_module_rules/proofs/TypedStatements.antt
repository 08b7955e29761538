-- The types that a walk over statements notes, if types are kept, are those under lawful labels, besides those noted
-- before.
use Rattle.std.proofs.Common.{◌≡◌, ℕ, List, [], ◌∷◌, ◌++◌, refl, sym, ap, ◌∙◌, subst, append-nil}
use Rattle.std.specs.Prelude.{Bool as Test, true, false, unwrap_or, Option, Some, None, is_some}
use Rattle.pc_source.specs.declared.place.Place.{Place}
use Rattle.pc_tree.specs.declared.code.Code.TheVariants.{E24}
use Rattle.pc_tree.specs.Code.{finding}
use Rattle.pc_tree.specs.Depth.{place_of}
use Rattle.pc_tree.specs.Tree.{Name, Expr, Ann, Target, to_name, to_attribute, to_index, Stmt, Stmts, Branches, pass}
use Rattle.pc_tree.specs.Tree.{breaks, continues, returns, asserts, annotated, assigns, evaluates, while_loop, for_loop}
use Rattle.pc_tree.specs.Tree.{conditional, no_stmts, more_stmts, no_branches, more_branches}
use Rattle.pc_tree.specs.Stopping.{bound_by, bound_by_stmt, bound_by_branches}
use Rattle.pc_scope.specs.declared.resolution.NameMeaning.{NameMeaning}
use Rattle.pc_scope.specs.declared.resolution.NameMeaning.TheVariants as meaning
use Rattle.pc_scope.specs.Bindings.{texts}
use Rattle.pc_scope.specs.Reach.{completes}
use Rattle.pc_scope.specs.Resolution.{is_one_of}
use Rattle.pc_types.specs.Tree.{Tree}
use Rattle.pc_types.specs.WellFormed.{IsWellFormed}
use Rattle.pc_annotations.specs.Annotations.{read_ann}
use Rattle.pc_annotations.proofs.Readings.{read_ann_well_formed}
use Rattle.pc_annotations.specs.Listed.{ann_findings}
use Rattle.pc_flow.specs.Environment.{Env}
use Rattle.pc_flow.specs.Narrowing.{narrow}
use Rattle.pc_flow.specs.WellFormed.{IsWellFormedIfAny}
use Rattle.pc_flow.proofs.Conditions.{current_well_formed}
use Rattle.pc_notes.specs.Notes.{Note}
use Rattle.pc_rules.specs.Operations.{Label, clean}
use Rattle.pc_rules.specs.Labels.{FlowLabels, Labels, type_of}
use Rattle.pc_rules.specs.Lawful.{Lawful}
use Rattle.pc_rules.specs.Computed.Expressions.{flows_of}
use Rattle.pc_rules.specs.Computed.Findings.{codes_at, flows_at}
use Rattle.pc_rules.specs.Computed.Standing.{label_in, finds_in}
use Rattle.pc_module_rules.specs.StatementLabels.{OptionLabels, StmtLabels, SuiteLabels, BranchesLabels, Behind}
use Rattle.pc_module_rules.specs.StatementLabels.{Following, BehindRule, behind_list}
use Rattle.pc_module_rules.specs.Statements.{NamesBound, is_first, binds_number, AreUndeclared, known_type}
use Rattle.pc_module_rules.specs.Statements.{LawfulBinding, annotation_at, LawfulAnnotated, LawfulStmt, LawfulSuite}
use Rattle.pc_module_rules.specs.Statements.{LawfulBranches}
use Rattle.pc_module_rules.specs.Laws.Labellings.{Surroundings}
use Rattle.pc_module_rules.specs.Computed.Statements.{DeclaredTypes, bound_type, known_declared, BodyContext, Walk}
use Rattle.pc_module_rules.specs.Computed.Statements.{BranchesResult, standing_here, with_way, narrowed_at, head_at, item_label_of}
use Rattle.pc_module_rules.specs.Computed.Statements.{iterable_finds, bind_label, bind_value}
use Rattle.pc_module_rules.specs.Computed.Statements.{annotation_finds, bound_name, bind_item, store_finds}
use Rattle.pc_module_rules.specs.Computed.Statements.{assign_target, option_finds, return_finds, behind_loop}
use Rattle.pc_module_rules.specs.Computed.Statements.{inside_for, step, walk_suite, walk_branches}
use Rattle.pc_module_rules.specs.Computed.Statements.{BindingResult, annotated_binding, name_note, noted_binding}
use Rattle.pc_module_rules.specs.Computed.Statements.{with_note}
use Rattle.pc_module_rules.specs.Laws.Walks.{TableFits, EnvFits, OutFits, body_context_in}
use Rattle.pc_module_rules.proofs.DeclaredTypes.{known_well_formed, want_is}
use Rattle.pc_module_rules.proofs.WalkedTables.{fits_both}
use Rattle.pc_module_rules.proofs.WalkedEnvironments.{truth_same, truth_fits, head_same, head_fits}
use Rattle.pc_module_rules.proofs.WalkedExpressions.{iterable_told}
use Rattle.pc_module_rules.proofs.WalkedBindings.{target_says}
use Rattle.pc_module_rules.specs.TypesOfExpressions.{TypeAt, types_in}
use Rattle.pc_module_rules.specs.TypesOfStatements.{types_in_option, types_in_iterable, types_in_stmt, types_in_suite}
use Rattle.pc_module_rules.specs.TypesOfStatements.{types_in_branches}
use Rattle.pc_module_rules.proofs.KeptStatements.{StateFits, stmt_stands, suite_stands, none_noted}
use Rattle.pc_module_rules.proofs.KeptWalks.{standing, same_item, same_item_bound}
use Rattle.pc_module_rules.proofs.NotedTypes.{Shows, show_plain, show_codes, show_flows, ShowsMore, more_none, more}
use Rattle.pc_module_rules.proofs.NotedTypes.{more_then, more_behind, show_nothing}
use Rattle.pc_module_rules.proofs.NotedNames.{note_holds}
use Rattle.pc_module_rules.proofs.TypedExpressions.{KnowsRange, show_read, show_iterable, show_store, show_option}
use Rattle.pc_module_rules.proofs.TypedExpressions.{show_return}

module _ (every : Test) (around : Surroundings) (knows : KnowsRange around) (returned : Tree)
    (kr : IsWellFormed around.context.bases returned) (declared : List Tree) where
  open around use {whole as m, context as ctx, context_well_formed as ck}

  -- the context of the statements, where types are kept, and where they are not
  abbrev context : BodyContext
  context = standing m ctx returned true

  abbrev plain : BodyContext
  plain = body_context_in around returned

  abbrev TableHere : NamesBound → DeclaredTypes → Type 0
  TableHere seen table = TableFits around declared seen table

  abbrev LawfulHere : NamesBound → Env → (s : Stmt) → StmtLabels s → Option Env → Type 0
  LawfulHere seen env s labels out = LawfulStmt m ctx declared returned seen env s labels out

  abbrev LawfulThere : NamesBound → Env → (b : Stmts) → SuiteLabels b → Option Env → Type 0
  LawfulThere seen env b labels out = LawfulSuite m ctx declared returned seen env b labels out

  -- ---- a name bound

  -- a binding shows the same types with the note of its name
  noted_shows : (valued : Test) (r : NameMeaning) (p : Place) (found : List Note) (b : BindingResult)
      (rows : List TypeAt) → ShowsMore every found b.found rows
      → ShowsMore every found (noted_binding true valued r p b).found rows
  noted_shows valued r p found b rows h =
      subst (λ (l : List TypeAt). ShowsMore every found (noted_binding true valued r p b).found l) (append-nil rows)
      (more_then found b.found (noted_binding true valued r p b).found rows [] h
      (more b.found (name_note valued b.table b.env r p) []
      (note_holds (λ (xs : List Note). Shows every xs []) show_nothing (λ q d t. record { are = refl }) valued b.table
      b.env r p)))

  module _ (seen : NamesBound) (n : Name) (table : DeclaredTypes) (h : TableFits around declared seen table) where
    -- binding a labelled value to a name shows no types besides those of the value
    label_shows : (env : Env) (x : ℕ) (want : Option Tree) (p : Place) (label : Label) (found : List Note)
        → ShowsMore every found (bind_label context table env x want p label found).found []
    label_shows env x want p label found =
        let flows = flows_of ctx.bases label (unwrap_or want label.type ∷ []) in
        more found (flows_at p flows) [] (show_flows p flows)

    -- a value bound to a local
    value_shows : (x : ℕ) → ctx.resolve n.text ≡ meaning.Local x → (env : Env) → EnvFits around declared table env
        → (a a' : Option Tree) → (is_first seen n ≡ true → a ≡ a') → IsWellFormedIfAny ctx.bases a'
        → (e : Expr) (labels : Labels e) (flows : FlowLabels) (after : Env) (found : List Note)
        → LawfulBinding m ctx declared env seen n (meaning.Local x) a e labels flows after
        → ShowsMore every found (bind_value context table env (meaning.Local x) a' e found).found (types_in every e labels)
    value_shows x i env f a a' s ka e labels flows after found l =
        let o = bound_type table x in
        let b = is_one_of n.text seen in
        let want = known_declared o a' in
        let w : known_type m ctx declared (is_first seen n) x a ≡ want = want_is m ctx declared x o b
        (λ q. h.bound n.text x q i) (λ q. h.unbound n.text x q i) b refl a a' s (type_of e labels) l.at_first in
        let kw : IsWellFormedIfAny ctx.bases want = known_well_formed ctx.bases o a'
        (current_well_formed ctx.bases table x h.well_formed) ka in
        let lw = subst (λ y. Lawful ctx declared env y e labels) w l.value in
        let finds = finds_in (standing_here context table env) want e in
        let label = label_in (standing_here context table env) want e in
        let bound = bind_label context table env x want (place_of e) label (found ++ finds) in
        subst (λ (rows : List TypeAt). ShowsMore every found bound.found rows) (append-nil (types_in every e labels))
        (more_then found (found ++ finds) bound.found (types_in every e labels) []
        (more found finds (types_in every e labels)
        (show_read every around knows returned kr declared table h.well_formed env f want kw e labels lw))
        (label_shows env x want (place_of e) label (found ++ finds)))

    -- a name that means no local binds nothing
    plain_shows : (env : Env) → EnvFits around declared table env → (e : Expr) (labels : Labels e) (found : List Note)
        → Lawful ctx declared env None e labels
        → ShowsMore every found (found ++ finds_in (standing_here context table env) None e) (types_in every e labels)
    plain_shows env f e labels found l = more found (finds_in (standing_here context table env) None e)
        (types_in every e labels)
        (show_read every around knows returned kr declared table h.well_formed env f None tt e labels l)

    binding_shows : (r : NameMeaning) → ctx.resolve n.text ≡ r → (env : Env) → EnvFits around declared table env
        → (a a' : Option Tree) → (is_first seen n ≡ true → a ≡ a') → IsWellFormedIfAny ctx.bases a'
        → (e : Expr) (labels : Labels e) (flows : FlowLabels) (after : Env) (found : List Note)
        → LawfulBinding m ctx declared env seen n r a e labels flows after
        → ShowsMore every found (bind_value context table env r a' e found).found (types_in every e labels)
    binding_shows (meaning.Local x) i env f a a' s ka e labels flows after found l = value_shows x i env f a a' s ka e
        labels flows after found l
    binding_shows (meaning.Const c) i env f a a' s ka e labels flows after found l = plain_shows env f e labels found
        l.value
    binding_shows (meaning.Func c) i env f a a' s ka e labels flows after found l = plain_shows env f e labels found l.value
    binding_shows (meaning.Class c) i env f a a' s ka e labels flows after found l = plain_shows env f e labels found
        l.value
    binding_shows (meaning.Builtin c) i env f a a' s ka e labels flows after found l = plain_shows env f e labels found
        l.value
    binding_shows meaning.None i env f a a' s ka e labels flows after found l = plain_shows env f e labels found l.value

    -- the target of a `for`
    target_shows : (r : NameMeaning) (head : Env) (p : Place) (t : Tree) (found : List Note)
        → ShowsMore every found (bind_item context table head r p t found).found []
    target_shows (meaning.Local x) head p t found = label_shows head x (bound_type table x) p (clean t) found
    target_shows _ head p t found = more_none found

    -- a name annotated, with a value or alone
    annotation_shows : (o : Option Tree) (a : Ann) → Shows every (annotation_finds context o n a) []
    annotation_shows (Some d) a = show_plain (finding n.place E24 ∷ [])
    annotation_shows None a = show_plain (ann_findings m ctx.bases a)

    annotated_shows : (env : Env) → EnvFits around declared table env → (a : Ann) (e : Option Expr)
        (labels : OptionLabels e) (flows : FlowLabels) (after : Env) (found : List Note)
        → LawfulAnnotated m ctx declared env seen n a e labels flows after
        → ShowsMore every found (annotated_binding context table env (ctx.resolve n.text) n a e found).found
        (types_in_option every e labels)
    annotated_shows env f a None labels flows after found l =
        let o = bound_name context table (ctx.resolve n.text) in
        more found (annotation_finds context o n a) [] (annotation_shows o a)
    annotated_shows env f a (Some e) labels flows after found l =
        let t = read_ann m ctx.bases a in
        let o = bound_name context table (ctx.resolve n.text) in
        let finds = annotation_finds context o n a in
        more_behind found finds (annotated_binding context table env (ctx.resolve n.text) n a (Some e) found).found
        (types_in every e labels)
        (annotation_shows o a)
        (binding_shows (ctx.resolve n.text) refl env f (annotation_at m ctx declared (is_first seen n) t) (Some t)
        (λ q. ap (λ b. annotation_at m ctx declared b t) q) (read_ann_well_formed m ctx.bases ck.smaller a) e labels
        flows after (found ++ finds) l)

  -- ---- assignments

  assignment_shows : (seen : NamesBound) (table : DeclaredTypes) (env : Env) (found : List Note) → TableHere seen table
      → EnvFits around declared table env → (p : Place) (t : Target) (e : Expr) (labels : StmtLabels (assigns p t e))
      (out : Option Env) → LawfulHere seen env (assigns p t e) labels out
      → ShowsMore every found (assign_target context table env t e found).found
      (types_in_stmt every (assigns p t e) labels)
  assignment_shows seen table env found t f p (to_name n) e labels out l =
      let r = ctx.resolve n.text in
      noted_shows true r n.place found (bind_value context table env r None e found) (types_in every e labels.value)
      (binding_shows seen n table t r refl env f None None (λ q. refl) tt e labels.value labels.flows l.after found
      l.assignment)
  assignment_shows seen table env found t f p (to_attribute q o field) e labels out l =
      more found (store_finds context (standing_here context table env) (to_attribute q o field) e)
      (types_in_stmt every (assigns p (to_attribute q o field) e) labels)
      (show_store every around knows returned kr declared table t.well_formed env f (to_attribute q o field)
      labels.target e
      labels.value labels.flows l.assignment.0)
  assignment_shows seen table env found t f p (to_index q o i) e labels out l =
      more found (store_finds context (standing_here context table env) (to_index q o i) e)
      (types_in_stmt every (assigns p (to_index q o i) e) labels)
      (show_store every around knows returned kr declared table t.well_formed env f (to_index q o i) labels.target e
      labels.value labels.flows l.assignment.0)

  -- ---- statements, suites and branches

  -- the notes of a walk over a suite, from a state that fits, show the types in the suite
  abbrev SuiteShows : NamesBound → (b : Stmts) → Type 0
  SuiteShows seen b =
      (w : Walk) (env : Env) → w.env ≡ Some env → TableHere seen w.table → EnvFits around declared w.table env
      → OutFits around declared w.table w.exit_env → (labels : SuiteLabels b) (out : Option Env)
      → LawfulThere seen env b labels out → ShowsMore every w.found (walk_suite context w b).found
      (types_in_suite every b labels)

  -- the notes of a statement and of those after it show the types in them
  behind_shows : (b : Test) (seen : NamesBound) (env : Env) (table : DeclaredTypes) (found : List Note) (s : Stmt)
      (rest : Stmts) (s0 : StmtLabels s) (r : Behind b (Following (SuiteLabels rest))) (out : Option Env) (v : Walk)
      → ((o : Option Env) → LawfulHere seen env s s0 o
      → StateFits true around returned kr declared (texts (bound_by_stmt s) ++ seen) table v o
      × ShowsMore every found v.found (types_in_stmt every s s0))
      → SuiteShows (texts (bound_by_stmt s) ++ seen) rest
      → BehindRule b r (λ x. LawfulHere seen env s s0 (Some x.env)
      × LawfulThere (texts (bound_by_stmt s) ++ seen) x.env rest x.rest out)
      (LawfulHere seen env s s0 None × AreUndeclared m ctx declared (texts (bound_by_stmt s) ++ seen) (bound_by rest)
      × (out ≡ None))
      → ShowsMore every found (walk_suite context v rest).found (types_in_stmt every s s0 ++ behind_list b r
      (λ x. types_in_suite every rest x.rest))
  behind_shows true seen env table found s rest s0 r out v first next l =
      let f = first (Some r.env) l.0 in
      more_then found v.found (walk_suite context v rest).found (types_in_stmt every s s0)
      (types_in_suite every rest r.rest) f.1
      (next v r.env f.0.env_is f.0.fits f.0.env_fits f.0.exit_env_fits r.rest out l.1)
  behind_shows false seen env table found s rest s0 r out v first next l =
      let f = first None l.0 in
      subst (λ (rows : List TypeAt). ShowsMore every found (walk_suite context v rest).found rows)
      (sym (append-nil (types_in_stmt every s s0)))
      (subst (λ (xs : List Note). ShowsMore every found xs (types_in_stmt every s s0))
      (sym (none_noted true around returned kr declared v f.0.env_is rest)) f.1)

  -- a walk over branches fits the labels, and shows just the types under them
  record ForkShows (seen : NamesBound) (found : List Note) (w : BranchesResult) (last : Env) (rows : List TypeAt)
      : Type 0 where
    fits : TableHere seen w.table
    last_is : w.last ≡ last
    last_fits : EnvFits around declared w.table last
    exit_env_fits : OutFits around declared w.table w.exit_env
    shows : ShowsMore every found w.found rows

  mutual
    stmt_shows : (seen : NamesBound) (table : DeclaredTypes) (env : Env) (exit_env : Option Env) (found : List Note)
        → TableHere seen table → EnvFits around declared table env → OutFits around declared table exit_env
        → (s : Stmt) (labels : StmtLabels s) (out : Option Env) → LawfulHere seen env s labels out
        → ShowsMore every found (step context table (Some env) exit_env found s).found (types_in_stmt every s labels)
    stmt_shows seen table env exit_env found t f kb (pass p) labels out l = more_none found
    stmt_shows seen table env exit_env found t f kb (breaks p) labels out l = more_none found
    stmt_shows seen table env exit_env found t f kb (continues p) labels out l = more_none found
    stmt_shows seen table env exit_env found t f kb (returns p e) labels out l =
        more found (return_finds context (standing_here context table env) p e) (types_in_option every e labels.value)
        (show_return every around knows returned kr declared table t.well_formed env f p e labels.value labels.flows
        l.0)
    stmt_shows seen table env exit_env found t f kb (asserts p c e) labels out l =
        let no = narrow ctx.bases declared ctx.resolve false c env in
        let fn = truth_fits around declared table t.well_formed false c env f in
        let xs = finds_in (standing_here context table env) None c in
        let ys = option_finds context (standing_here context table (narrowed_at context table false c env)) None e in
        let a = types_in every c labels.condition in
        let b = types_in_option every e labels.message in
        more_then found (found ++ xs) ((found ++ xs) ++ ys) a b
        (more found xs a (show_read every around knows returned kr declared table t.well_formed env f None tt c
        labels.condition l.condition))
        (more (found ++ xs) ys b
        (subst (λ (x : Env). Shows every (option_finds context (standing_here context table x) None e) b)
        (truth_same around declared table t.well_formed false c env f)
        (show_option every around knows returned kr declared table t.well_formed no fn e labels.message l.message)))
    stmt_shows seen table env exit_env found t f kb (annotated p n a e) labels out l =
        noted_shows (is_some e) (ctx.resolve n.text) n.place found
        (annotated_binding context table env (ctx.resolve n.text) n a e found) (types_in_option every e labels.value)
        (annotated_shows seen n table t env f a e labels.value labels.flows l.after found l.binding)
    stmt_shows seen table env exit_env found t f kb (assigns p x e) labels out l = assignment_shows seen table env found t
        f p x e labels out l
    stmt_shows seen table env exit_env found t f kb (evaluates p e) labels out l =
        more found (finds_in (standing_here context table env) None e) (types_in every e labels)
        (show_read every around knows returned kr declared table t.well_formed env f None tt e labels l.0)
    stmt_shows seen table env exit_env found t f kb (while_loop p c b) labels out l =
        let kt = t.well_formed in
        let bound = binds_number ctx.resolve (bound_by b) in
        let fh = subst (EnvFits around declared table) (sym l.head)
        (head_fits around declared table kt bound env f) in
        let q : labels.head ≡ head_at context table (bound_by b) env = l.head
        ∙ head_same around declared table kt bound env f in
        let xs = finds_in (standing_here context table labels.head) None c in
        let yes = truth_same around declared table kt true c labels.head fh in
        let no = truth_same around declared table kt false c labels.head fh in
        let out_of = subst (EnvFits around declared table) no (truth_fits around declared table kt false c labels.head
        fh) in
        let start : Walk = record {
          table = table;
          env = Some (narrowed_at context table true c labels.head);
          exit_env = Some (narrowed_at context table false c labels.head);
          found = found ++ xs;
        } in
        let rows = types_in every c labels.condition in
        let others = types_in_suite every b labels.body in
        subst
        (λ (h : Env). ShowsMore every found (behind_loop context exit_env (walk_suite context
        (record {
          table = table;
          env = Some (narrowed_at context table true c h);
          exit_env = Some (narrowed_at context table false c h);
          found = found ++ finds_in (standing_here context table h) None c;
        })
        b)).found (rows ++ others)) q
        (more_then found (found ++ xs) (walk_suite context start b).found rows others
        (more found xs rows (show_read every around knows returned kr declared table kt labels.head fh None tt c
        labels.condition l.condition))
        (suite_shows seen b start (narrow ctx.bases declared ctx.resolve true c labels.head) (ap Some (sym yes)) t
        (truth_fits around declared table kt true c labels.head fh) out_of labels.body labels.out l.body))
    stmt_shows seen table env exit_env found t f kb (for_loop p n e b) labels out l =
        let kt = t.well_formed in
        let names = binds_number ctx.resolve (n ∷ bound_by b) in
        let fh = subst (EnvFits around declared table) (sym l.head)
        (head_fits around declared table kt names env f) in
        let q : labels.head ≡ head_at context table (n ∷ bound_by b) env = l.head
        ∙ head_same around declared table kt names env f in
        let it = iterable_told around declared table kt env f returned e labels.iterable labels.item l.iterable in
        let item = item_label_of context (standing_here context table env) e in
        let item_is : item ≡ labels.item = same_item m ctx returned true false table env e ∙ it.item_is in
        let xs = iterable_finds context (standing_here context table env) e in
        let ys = codes_at (place_of e) item.codes in
        let before = (found ++ xs) ++ ys in
        let bound = bind_item context table labels.head (ctx.resolve n.text) (place_of e) item.type before in
        let start = with_note context true (ctx.resolve n.text) n.place bound in
        let other = bind_item plain table labels.head (ctx.resolve n.text) (place_of e) labels.item.type before in
        let same = same_item_bound m ctx returned true false table labels.head n (place_of e) item.type
        labels.item.type (ap (λ (x : Label). x.type) item_is) before before in
        let tg = target_says around returned declared seen n table t (ctx.resolve n.text) refl labels.head fh
        labels.item it.well_formed (place_of e) labels.flows l.inside before l.target in
        let back : other.table ≡ start.table = sym same.table in
        let rows = types_in_iterable every e labels.iterable in
        let others = types_in_suite every b labels.body in
        let body = inside_for context labels.head start in
        let rest = more_behind (found ++ xs) ys (walk_suite context body b).found others
        (show_codes (place_of e) item.codes)
        (more_then before start.found (walk_suite context body b).found [] others
        (noted_shows true (ctx.resolve n.text) n.place before bound []
        (target_shows seen n table t (ctx.resolve n.text) labels.head (place_of e) item.type before))
        (suite_shows (n.text ∷ seen) b body l.inside (ap Some (same.env ∙ tg.env_is))
        (subst (λ (u : DeclaredTypes). TableHere (n.text ∷ seen) u) back tg.fits)
        (subst (λ (u : DeclaredTypes). EnvFits around declared u l.inside) back tg.env_fits)
        (subst (λ (u : DeclaredTypes). EnvFits around declared u labels.head) back (tg.grows labels.head fh))
        labels.body labels.out l.body)) in
        subst
        (λ (h : Env). ShowsMore every found (behind_loop context exit_env (walk_suite context
        (inside_for context h (with_note context true (ctx.resolve n.text) n.place
        (bind_item context table h (ctx.resolve n.text) (place_of e) item.type before))) b)).found
        (rows ++ others)) q
        (more_then found (found ++ xs) (walk_suite context body b).found rows others
        (more found xs rows (show_iterable every around knows returned kr declared table kt env f e labels.iterable
        labels.item l.iterable)) rest)
    stmt_shows seen table env exit_env found t f kb (conditional p bs o) labels out l =
        let start : BranchesResult = record {
          table = table;
          last = env;
          ways = None;
          exit_env = exit_env;
          found = found;
        } in
        let if_state = walk_branches context start bs in
        let br = branches_show seen start env refl t f kb bs labels.branches labels.last l.branches in
        let mid : Walk = record {
          table = if_state.table;
          env = Some if_state.last;
          exit_env = if_state.exit_env;
          found = if_state.found;
        } in
        more_then found if_state.found (walk_suite context mid o).found (types_in_branches every bs labels.branches)
        (types_in_suite every o labels.otherwise) br.shows
        (suite_shows (texts (bound_by_branches bs) ++ seen) o mid labels.last (ap Some br.last_is) br.fits br.last_fits
        br.exit_env_fits labels.otherwise labels.out l.otherwise)

    pub suite_shows : (seen : NamesBound) (b : Stmts) (w : Walk) (env : Env) → w.env ≡ Some env
        → TableHere seen w.table → EnvFits around declared w.table env → OutFits around declared w.table w.exit_env
        → (labels : SuiteLabels b) (out : Option Env) → LawfulThere seen env b labels out
        → ShowsMore every w.found (walk_suite context w b).found (types_in_suite every b labels)
    suite_shows seen no_stmts w env e t f kb labels out l = more_none w.found
    suite_shows seen (more_stmts s rest) w env e t f kb labels out l =
        subst (λ (o : Option Env). ShowsMore every w.found
        (walk_suite context (step context w.table o w.exit_env w.found s) rest).found
        (types_in_suite every (more_stmts s rest) labels)) (sym e)
        (behind_shows (completes s) seen env w.table w.found s rest labels.first labels.behind out
        (step context w.table (Some env) w.exit_env w.found s)
        (λ o y. (
          stmt_stands true around returned kr declared seen w.table env w.exit_env w.found t f kb s labels.first o y,
          stmt_shows seen w.table env w.exit_env w.found t f kb s labels.first o y,
        ))
        (suite_shows (texts (bound_by_stmt s) ++ seen) rest) l)

    branches_show : (seen : NamesBound) (w : BranchesResult) (env : Env) → w.last ≡ env → TableHere seen w.table
        → EnvFits around declared w.table env → OutFits around declared w.table w.exit_env
        → (bs : Branches) (labels : BranchesLabels bs) (last : Env) → LawfulBranches m ctx declared returned seen env bs
        labels last
        → ForkShows (texts (bound_by_branches bs) ++ seen) w.found (walk_branches context w bs) last
        (types_in_branches every bs labels)
    branches_show seen w env e t f kb no_branches labels last l = record {
      fits = t;
      last_is = e ∙ sym l;
      last_fits = subst (EnvFits around declared w.table) (sym l) f;
      exit_env_fits = kb;
      shows = more_none w.found;
    }
    branches_show seen w env e t f kb (more_branches c b rest) labels last l =
        let kt = t.well_formed in
        let xs = finds_in (standing_here context w.table env) None c in
        let yes = truth_same around declared w.table kt true c env f in
        let no = truth_same around declared w.table kt false c env f in
        let start : Walk = record {
          table = w.table;
          env = Some (narrowed_at context w.table true c env);
          exit_env = w.exit_env;
          found = w.found ++ xs;
        } in
        let body = suite_stands true around returned kr declared seen start
        (narrow ctx.bases declared ctx.resolve true c env) (ap Some (sym yes)) t
        (truth_fits around declared w.table kt true c env f) kb b labels.body labels.out l.body in
        let shown = suite_shows seen b start (narrow ctx.bases declared ctx.resolve true c env) (ap Some (sym yes)) t
        (truth_fits around declared w.table kt true c env f) kb labels.body labels.out l.body in
        let u = walk_suite context start b in
        let next : BranchesResult = record {
          table = u.table;
          last = narrowed_at context w.table false c env;
          ways = with_way ctx.bases u.table w.ways u.env;
          exit_env = u.exit_env;
          found = u.found;
        } in
        let others = branches_show (texts (bound_by b) ++ seen) next
        (narrow ctx.bases declared ctx.resolve false c env) (sym no) body.fits
        (body.grows (narrow ctx.bases declared ctx.resolve false c env)
        (truth_fits around declared w.table kt false c env f)) body.exit_env_fits rest labels.rest last l.others in
        let at_condition = types_in every c labels.condition in
        let inside = types_in_suite every b labels.body in
        let further = types_in_branches every rest labels.rest in
        subst (λ (x : Env). ForkShows (texts (bound_by_branches (more_branches c b rest)) ++ seen) w.found
        (walk_branches context (record {
          table = w.table;
          last = x;
          ways = w.ways;
          exit_env = w.exit_env;
          found = w.found;
        }) (more_branches c b rest)) last (at_condition ++ (inside ++ further))) (sym e)
        (record {
          fits = fits_both around declared (bound_by b) (bound_by_branches rest) seen
              (walk_branches context next rest).table others.fits;
          last_is = others.last_is;
          last_fits = others.last_fits;
          exit_env_fits = others.exit_env_fits;
          shows = more_then w.found (w.found ++ xs) (walk_branches context next rest).found at_condition
              (inside ++ further)
              (more w.found xs at_condition (show_read every around knows returned kr declared w.table kt env f None
              tt c
              labels.condition l.condition))
              (more_then (w.found ++ xs) u.found (walk_branches context next rest).found inside further shown
              others.shows);
        })
