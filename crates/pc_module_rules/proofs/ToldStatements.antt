-- The notes of a walk over statements hold exactly the flows with a code under lawful labels, besides those noted
-- before, whether types are kept or not.
use Rattle.std.proofs.Common.{◌≡◌, ℕ, List, [], ◌∷◌, ◌++◌, refl, sym, ap, ◌∙◌, subst, append-nil}
use Rattle.std.specs.Prelude.{Bool as Test, true, false, unwrap_or, Option, Some, None, is_some}
use Rattle.pc_source.specs.declared.place.Place.{Place}
use Rattle.pc_tree.specs.declared.code.Code.{Code}
use Rattle.pc_tree.specs.declared.code.Code.TheVariants.{E24}
use Rattle.pc_tree.specs.Code.{finding}
use Rattle.pc_tree.specs.Depth.{place_of}
use Rattle.pc_tree.specs.Tree.{Name, Expr, Ann, Target, to_name, to_attribute, to_index, Stmt, Stmts, Branches, pass}
use Rattle.pc_tree.specs.Tree.{breaks, continues, returns, asserts, annotated, assigns, evaluates, while_loop, for_loop}
use Rattle.pc_tree.specs.Tree.{conditional, no_stmts, more_stmts, no_branches, more_branches}
use Rattle.pc_tree.specs.Stopping.{bound_by, bound_by_stmt, bound_by_branches}
use Rattle.pc_scope.specs.declared.resolution.NameMeaning.{NameMeaning}
use Rattle.pc_scope.specs.declared.resolution.NameMeaning.TheVariants as meaning
use Rattle.pc_scope.specs.Bindings.{texts}
use Rattle.pc_scope.specs.Reach.{completes}
use Rattle.pc_scope.specs.Resolution.{is_one_of}
use Rattle.pc_types.specs.Tree.{Tree}
use Rattle.pc_types.specs.WellFormed.{IsWellFormed}
use Rattle.pc_annotations.specs.Annotations.{read_ann}
use Rattle.pc_annotations.proofs.Readings.{read_ann_well_formed}
use Rattle.pc_annotations.specs.Listed.{ann_findings}
use Rattle.pc_flow.specs.Environment.{Env, declared_type}
use Rattle.pc_flow.specs.Narrowing.{narrow}
use Rattle.pc_flow.specs.WellFormed.{IsWellFormedIfAny}
use Rattle.pc_flow.proofs.Conditions.{current_well_formed}
use Rattle.pc_notes.specs.Notes.{Note}
use Rattle.pc_rules.specs.Operations.{Label, clean}
use Rattle.pc_rules.specs.Context.{FlowsInto}
use Rattle.pc_rules.specs.Labels.{FlowLabels, Labels, whole_label, type_of, is_of_scopes}
use Rattle.pc_rules.specs.Lawful.{Lawful}
use Rattle.pc_rules.specs.Computed.Expressions.{flows_of}
use Rattle.pc_rules.specs.Computed.Findings.{codes_at, flows_at}
use Rattle.pc_rules.specs.Computed.Standing.{finds_in}
use Rattle.pc_rules.proofs.WellFormed.{unwrap_well_formed}
use Rattle.pc_module_rules.specs.StatementLabels.{OptionLabels, StmtLabels, SuiteLabels, BranchesLabels, Behind}
use Rattle.pc_module_rules.specs.StatementLabels.{Following, BehindRule, behind_list}
use Rattle.pc_module_rules.specs.Statements.{NamesBound, is_first, binds_number, AreUndeclared, known_type}
use Rattle.pc_module_rules.specs.Statements.{LawfulBinding, LawfulTarget, annotation_at, LawfulAnnotated, LawfulStmt}
use Rattle.pc_module_rules.specs.Statements.{LawfulSuite, LawfulBranches}
use Rattle.pc_module_rules.specs.Laws.Labellings.{Surroundings}
use Rattle.pc_module_rules.specs.Computed.Statements.{DeclaredTypes, bound_type, known_declared, BodyContext, Walk}
use Rattle.pc_module_rules.specs.Computed.Statements.{BranchesResult, standing_here, with_way, narrowed_at, head_at}
use Rattle.pc_module_rules.specs.Computed.Statements.{iterable_finds, bind_label, bind_value, annotated_binding}
use Rattle.pc_module_rules.specs.Computed.Statements.{annotation_finds, bound_name, bind_item, store_finds}
use Rattle.pc_module_rules.specs.Computed.Statements.{assign_target, option_finds, return_finds, behind_loop}
use Rattle.pc_module_rules.specs.Computed.Statements.{inside_for, step, walk_suite, walk_branches, BindingResult}
use Rattle.pc_module_rules.specs.Computed.Statements.{item_label_of, name_note, noted_binding, with_note}
use Rattle.pc_module_rules.specs.Laws.Walks.{TableFits, EnvFits, OutFits, body_context_in}
use Rattle.pc_module_rules.proofs.DeclaredTypes.{known_well_formed, declared_is, want_is, type_is}
use Rattle.pc_module_rules.proofs.WalkedTables.{fits_both}
use Rattle.pc_module_rules.proofs.WalkedEnvironments.{truth_same, truth_fits, head_same, head_fits}
use Rattle.pc_module_rules.proofs.WalkedExpressions.{told, iterable_told, flows_told}
use Rattle.pc_module_rules.proofs.WalkedBindings.{target_says}
use Rattle.pc_module_rules.proofs.KeptStatements.{StateFits, stmt_stands, suite_stands, none_noted}
use Rattle.pc_module_rules.proofs.KeptWalks.{standing, same_item, same_item_bound}
use Rattle.pc_module_rules.proofs.NotedNames.{note_holds}
use Rattle.pc_module_rules.proofs.ReadExpressions.{label_is}
use Rattle.pc_module_rules.specs.FlowsOfExpressions.{CodedFlow, coded_at, coded_in}
use Rattle.pc_module_rules.specs.FlowsOfStatements.{coded_in_option, coded_in_value, coded_in_stmt}
use Rattle.pc_module_rules.specs.FlowsOfStatements.{coded_in_suite, coded_in_branches}
use Rattle.pc_module_rules.proofs.FirstFlows.{Tells, tell_none, tell_plain, Grows, grow_none, grow, grow_then, grow_behind}
use Rattle.pc_module_rules.proofs.FirstFlows.{grow_after}
use Rattle.pc_module_rules.proofs.ToldFlows.{tell_codes, tell_flows}
use Rattle.pc_module_rules.proofs.ToldExpressions.{tell_in, tell_iterable, tell_store, tell_option, tell_return}

module _ (code : Code) (own : is_of_scopes code ≡ false) (keeps : Test) (around : Surroundings) (returned : Tree)
    (kr : IsWellFormed around.context.bases returned) (declared : List Tree) where
  open around use {whole as m, context as ctx, context_well_formed as ck}

  -- the context of the statements, where types may be kept, and where they are not
  abbrev context : BodyContext
  context = standing m ctx returned keeps

  abbrev plain : BodyContext
  plain = body_context_in around returned

  abbrev TableHere : NamesBound → DeclaredTypes → Type 0
  TableHere seen table = TableFits around declared seen table

  abbrev LawfulHere : NamesBound → Env → (s : Stmt) → StmtLabels s → Option Env → Type 0
  LawfulHere seen env s labels out = LawfulStmt m ctx declared returned seen env s labels out

  abbrev LawfulThere : NamesBound → Env → (b : Stmts) → SuiteLabels b → Option Env → Type 0
  LawfulThere seen env b labels out = LawfulSuite m ctx declared returned seen env b labels out

  -- ---- a local bound

  -- a binding tells of the same flows with the note of its name
  noted_tells : (valued : Test) (r : NameMeaning) (p : Place) (found : List Note) (b : BindingResult)
      (flows : List CodedFlow) → Grows code found b.found flows
      → Grows code found (noted_binding keeps valued r p b).found flows
  noted_tells valued r p found b flows h = kept keeps
    where
      kept : (k : Test) → Grows code found (noted_binding k valued r p b).found flows
      kept false = h
      kept true = grow_after code found b.found (name_note valued b.table b.env r p) flows h
          (note_holds (λ (xs : List Note). Tells code xs []) tell_none (λ q d t. record { is = λ at. refl }) valued
          b.table b.env r p)

  module _ (seen : NamesBound) (n : Name) (table : DeclaredTypes) (h : TableFits around declared seen table) where
    -- the flow into a local that is bound to what has a label
    label_tells : (env : Env) (x : ℕ) (want : Option Tree) (p : Place) (label : Label) (flows : FlowLabels)
        (found : List Note)
        → unwrap_or want label.type ≡ declared_type declared x → IsWellFormedIfAny ctx.bases want
        → IsWellFormed ctx.bases label.type → FlowsInto ctx.bases label (declared_type declared x ∷ []) flows
        → Grows code found (bind_label context table env x want p label found).found (coded_at code p flows)
    label_tells env x want p label flows found is kw km flow =
        let d = unwrap_or want label.type in
        let kd : IsWellFormed ctx.bases d = unwrap_well_formed ctx.bases want label.type kw km in
        let q : flows_of ctx.bases label (d ∷ []) ≡ flows = flows_told around label (d ∷ []) flows km (kd, tt)
        (subst (λ t. FlowsInto ctx.bases label (t ∷ []) flows) (sym is) flow) in
        grow code found (flows_at p (flows_of ctx.bases label (d ∷ []))) (coded_at code p flows)
        (subst (λ fs. Tells code (flows_at p fs) (coded_at code p flows)) (sym q) (tell_flows code own p flows))

    -- a value bound to a local
    value_tells : (x : ℕ) → ctx.resolve n.text ≡ meaning.Local x → (env : Env) → EnvFits around declared table env
        → (a a' : Option Tree) → (is_first seen n ≡ true → a ≡ a') → IsWellFormedIfAny ctx.bases a'
        → (e : Expr) (labels : Labels e) (flows : FlowLabels) (after : Env) (found : List Note)
        → LawfulBinding m ctx declared env seen n (meaning.Local x) a e labels flows after
        → Grows code found (bind_value context table env (meaning.Local x) a' e found).found
        (coded_in code e labels ++ coded_at code (place_of e) flows)
    value_tells x i env f a a' s ka e labels flows after found l =
        let o = bound_type table x in
        let b = is_one_of n.text seen in
        let bound : b ≡ true → o ≡ Some (declared_type declared x) = λ q. h.bound n.text x q i in
        let unbound : b ≡ false → o ≡ None = λ q. h.unbound n.text x q i in
        let want = known_declared o a' in
        let w : known_type m ctx declared (is_first seen n) x a ≡ want = want_is m ctx declared x o b bound
        unbound b refl a a' s (type_of e labels) l.at_first in
        let kw : IsWellFormedIfAny ctx.bases want = known_well_formed ctx.bases o a'
        (current_well_formed ctx.bases table x h.well_formed) ka in
        let lw = subst (λ y. Lawful ctx declared env y e labels) w l.value in
        let v = told around declared table h.well_formed env f want kw e labels lw in
        let is : unwrap_or want (type_of e labels) ≡ declared_type declared x = ap (λ y. unwrap_or y (type_of e labels))
        (sym w) ∙ type_is m ctx declared x o b bound unbound b a (type_of e labels) l.at_first in
        let finds = finds_in (standing_here context table env) want e in
        let ds = coded_in code e labels in
        let es = coded_at code (place_of e) flows in
        subst (λ y. Grows code found (bind_label context table env x want (place_of e) y (found ++ finds)).found
        (ds ++ es))
        (sym (label_is keeps around declared table h.well_formed env f want kw e labels lw))
        (grow_then code found (found ++ finds) (bind_label context table env x want (place_of e) (whole_label e labels)
        (found ++ finds)).found ds es
        (grow code found finds ds (tell_in code own keeps around returned kr declared table h.well_formed env f want
        kw e
        labels lw))
        (label_tells env x want (place_of e) (whole_label e labels) flows (found ++ finds) is kw v.well_formed l.flow))

    -- a name that means no local binds nothing, and nothing flows into it
    plain_tells : (env : Env) → EnvFits around declared table env → (e : Expr) (labels : Labels e) (flows : FlowLabels)
        (found : List Note) → Lawful ctx declared env None e labels → flows ≡ []
        → Grows code found (found ++ finds_in (standing_here context table env) None e)
        (coded_in code e labels ++ coded_at code (place_of e) flows)
    plain_tells env f e labels flows found l none =
        subst (λ (fs : FlowLabels). Grows code found (found ++ finds_in (standing_here context table env) None e)
        (coded_in code e labels ++ coded_at code (place_of e) fs)) (sym none)
        (subst (λ ds. Grows code found (found ++ finds_in (standing_here context table env) None e) ds)
        (sym (append-nil (coded_in code e labels)))
        (grow code found (finds_in (standing_here context table env) None e) (coded_in code e labels)
        (tell_in code own keeps around returned kr declared table h.well_formed env f None tt e labels l)))

    binding_tells : (r : NameMeaning) → ctx.resolve n.text ≡ r → (env : Env) → EnvFits around declared table env
        → (a a' : Option Tree) → (is_first seen n ≡ true → a ≡ a') → IsWellFormedIfAny ctx.bases a'
        → (e : Expr) (labels : Labels e) (flows : FlowLabels) (after : Env) (found : List Note)
        → LawfulBinding m ctx declared env seen n r a e labels flows after
        → Grows code found (bind_value context table env r a' e found).found
        (coded_in code e labels ++ coded_at code (place_of e) flows)
    binding_tells (meaning.Local x) i env f a a' s ka e labels flows after found l = value_tells x i env f a a' s ka e
        labels flows after found l
    binding_tells (meaning.Const c) i env f a a' s ka e labels flows after found l = plain_tells env f e labels flows found
        l.value l.flow
    binding_tells (meaning.Func c) i env f a a' s ka e labels flows after found l = plain_tells env f e labels flows found
        l.value l.flow
    binding_tells (meaning.Class c) i env f a a' s ka e labels flows after found l = plain_tells env f e labels flows found
        l.value l.flow
    binding_tells (meaning.Builtin c) i env f a a' s ka e labels flows after found l = plain_tells env f e labels flows
        found l.value l.flow
    binding_tells meaning.None i env f a a' s ka e labels flows after found l = plain_tells env f e labels flows found
        l.value l.flow

    -- the target of a `for`
    no_flow : (p : Place) (flows : FlowLabels) (found : List Note) → flows ≡ []
        → Grows code found found (coded_at code p flows)
    no_flow p flows found none = subst (λ (fs : FlowLabels). Grows code found found (coded_at code p fs)) (sym none)
        (grow_none code found)

    target_tells : (r : NameMeaning) → ctx.resolve n.text ≡ r → (head : Env) (item : Label)
        → IsWellFormed ctx.bases item.type
        → (p : Place) (flows : FlowLabels) (inside : Env) (found : List Note)
        → LawfulTarget m ctx declared seen n r head item flows inside
        → Grows code found (bind_item context table head r p item.type found).found (coded_at code p flows)
    target_tells (meaning.Local x) i head item ki p flows inside found l =
        let b = is_one_of n.text seen in
        label_tells head x (bound_type table x) p (clean item.type) flows found
        (declared_is m ctx declared x (bound_type table x) b (λ q. h.bound n.text x q i) (λ q. h.unbound n.text x q i)
        item.type b refl l.at_first) (current_well_formed ctx.bases table x h.well_formed) ki l.flow
    target_tells (meaning.Const c) i head item ki p flows inside found l = no_flow p flows found l.0
    target_tells (meaning.Func c) i head item ki p flows inside found l = no_flow p flows found l.0
    target_tells (meaning.Class c) i head item ki p flows inside found l = no_flow p flows found l.0
    target_tells (meaning.Builtin c) i head item ki p flows inside found l = no_flow p flows found l.0
    target_tells meaning.None i head item ki p flows inside found l = no_flow p flows found l.0

    -- a name annotated, with a value or alone
    annotation_tells : (o : Option Tree) (a : Ann) → Tells code (annotation_finds context o n a) []
    annotation_tells (Some d) a = tell_plain (finding n.place E24 ∷ [])
    annotation_tells None a = tell_plain (ann_findings m ctx.bases a)

    annotated_tells : (env : Env) → EnvFits around declared table env → (p : Place) (a : Ann) (e : Option Expr)
        (labels : OptionLabels e) (flows : FlowLabels) (after : Env) (found : List Note)
        → LawfulAnnotated m ctx declared env seen n a e labels flows after
        → Grows code found (annotated_binding context table env (ctx.resolve n.text) n a e found).found
        (coded_in_value code p e labels flows)
    annotated_tells env f p a None labels flows after found l =
        let o = bound_name context table (ctx.resolve n.text) in
        let finds = annotation_finds context o n a in
        grow_behind code found finds (found ++ finds) (coded_at code p flows) (annotation_tells o a)
        (no_flow p flows (found ++ finds) l.1)
    annotated_tells env f p a (Some e) labels flows after found l =
        let t = read_ann m ctx.bases a in
        let o = bound_name context table (ctx.resolve n.text) in
        let finds = annotation_finds context o n a in
        grow_behind code found finds
        (annotated_binding context table env (ctx.resolve n.text) n a (Some e) found).found
        (coded_in code e labels ++ coded_at code (place_of e) flows) (annotation_tells o a)
        (binding_tells (ctx.resolve n.text) refl env f (annotation_at m ctx declared (is_first seen n) t) (Some t)
        (λ q. ap (λ b. annotation_at m ctx declared b t) q) (read_ann_well_formed m ctx.bases ck.smaller a) e labels
        flows after (found ++ finds) l)

  -- ---- assignments

  assignment_tells : (seen : NamesBound) (table : DeclaredTypes) (env : Env) (found : List Note) → TableHere seen table
      → EnvFits around declared table env → (p : Place) (t : Target) (e : Expr) (labels : StmtLabels (assigns p t e))
      (out : Option Env) → LawfulHere seen env (assigns p t e) labels out
      → Grows code found (assign_target context table env t e found).found (coded_in_stmt code (assigns p t e) labels)
  assignment_tells seen table env found t f p (to_name n) e labels out l =
      let r = ctx.resolve n.text in
      noted_tells true r n.place found (bind_value context table env r None e found)
      (coded_in_stmt code (assigns p (to_name n) e) labels)
      (binding_tells seen n table t r refl env f None None (λ q. refl) tt e labels.value labels.flows l.after found
      l.assignment)
  assignment_tells seen table env found t f p (to_attribute q o field) e labels out l =
      grow code found (store_finds context (standing_here context table env) (to_attribute q o field) e)
      (coded_in_stmt code (assigns p (to_attribute q o field) e) labels)
      (tell_store code own keeps around returned kr declared table t.well_formed env f (to_attribute q o field)
      labels.target
      e
      labels.value labels.flows l.assignment.0)
  assignment_tells seen table env found t f p (to_index q o i) e labels out l =
      grow code found (store_finds context (standing_here context table env) (to_index q o i) e)
      (coded_in_stmt code (assigns p (to_index q o i) e) labels)
      (tell_store code own keeps around returned kr declared table t.well_formed env f (to_index q o i) labels.target e
      labels.value
      labels.flows l.assignment.0)

  -- ---- statements, suites and branches

  -- the notes of a walk over a suite, from a state that fits, tell of the flows with the code in the suite
  abbrev SuiteTells : NamesBound → (b : Stmts) → Type 0
  SuiteTells seen b =
      (w : Walk) (env : Env) → w.env ≡ Some env → TableHere seen w.table → EnvFits around declared w.table env
      → OutFits around declared w.table w.exit_env →
      (labels : SuiteLabels b) (out : Option Env) → LawfulThere seen env b labels out
      → Grows code w.found (walk_suite context w b).found (coded_in_suite code b labels)

  -- the notes of a statement and of those after it tell of the flows with the code in them
  behind_tells : (b : Test) (seen : NamesBound) (env : Env) (table : DeclaredTypes) (found : List Note) (s : Stmt)
      (rest : Stmts) (s0 : StmtLabels s) (r : Behind b (Following (SuiteLabels rest))) (out : Option Env) (v : Walk)
      → ((o : Option Env) → LawfulHere seen env s s0 o
      → StateFits keeps around returned kr declared (texts (bound_by_stmt s) ++ seen) table v o
      × Grows code found v.found (coded_in_stmt code s s0))
      → SuiteTells (texts (bound_by_stmt s) ++ seen) rest
      → BehindRule b r (λ x. LawfulHere seen env s s0 (Some x.env)
      × LawfulThere (texts (bound_by_stmt s) ++ seen) x.env rest x.rest out)
      (LawfulHere seen env s s0 None × AreUndeclared m ctx declared (texts (bound_by_stmt s) ++ seen) (bound_by rest)
      × (out ≡ None))
      → Grows code found (walk_suite context v rest).found (coded_in_stmt code s s0 ++ behind_list b r
      (λ x. coded_in_suite code rest x.rest))
  behind_tells true seen env table found s rest s0 r out v first next l =
      let f = first (Some r.env) l.0 in
      grow_then code found v.found (walk_suite context v rest).found (coded_in_stmt code s s0)
      (coded_in_suite code rest r.rest)
      f.1 (next v r.env f.0.env_is f.0.fits f.0.env_fits f.0.exit_env_fits r.rest out l.1)
  behind_tells false seen env table found s rest s0 r out v first next l =
      let f = first None l.0 in
      subst (λ ds. Grows code found (walk_suite context v rest).found ds) (sym (append-nil (coded_in_stmt code s s0)))
      (subst (λ (xs : List Note). Grows code found xs (coded_in_stmt code s s0))
      (sym (none_noted keeps around returned kr declared v f.0.env_is rest)) f.1)

  -- a walk over branches fits the labels, and tells of just what stands under them
  record ForkTells (seen : NamesBound) (found : List Note) (w : BranchesResult) (last : Env)
      (flows : List CodedFlow) : Type 0 where
    fits : TableHere seen w.table
    last_is : w.last ≡ last
    last_fits : EnvFits around declared w.table last
    exit_env_fits : OutFits around declared w.table w.exit_env
    tells : Grows code found w.found flows

  mutual
    pub stmt_tells : (seen : NamesBound) (table : DeclaredTypes) (env : Env) (exit_env : Option Env) (found : List Note)
        → TableHere seen table → EnvFits around declared table env → OutFits around declared table exit_env
        → (s : Stmt) (labels : StmtLabels s) (out : Option Env) → LawfulHere seen env s labels out
        → Grows code found (step context table (Some env) exit_env found s).found (coded_in_stmt code s labels)
    stmt_tells seen table env exit_env found t f kb (pass p) labels out l = grow_none code found
    stmt_tells seen table env exit_env found t f kb (breaks p) labels out l = grow_none code found
    stmt_tells seen table env exit_env found t f kb (continues p) labels out l = grow_none code found
    stmt_tells seen table env exit_env found t f kb (returns p e) labels out l =
        grow code found (return_finds context (standing_here context table env) p e)
        (coded_in_value code p e labels.value labels.flows)
        (tell_return code own keeps around returned kr declared table t.well_formed env f p e labels.value
        labels.flows l.0)
    stmt_tells seen table env exit_env found t f kb (asserts p c e) labels out l =
        let no = narrow ctx.bases declared ctx.resolve false c env in
        let fn = truth_fits around declared table t.well_formed false c env f in
        let xs = finds_in (standing_here context table env) None c in
        let ys = option_finds context (standing_here context table (narrowed_at context table false c env)) None e in
        let ds = coded_in code c labels.condition in
        let es = coded_in_option code e labels.message in
        grow_then code found (found ++ xs) ((found ++ xs) ++ ys) ds es
        (grow code found xs ds (tell_in code own keeps around returned kr declared table t.well_formed env f None tt c
        labels.condition
        l.condition))
        (grow code (found ++ xs) ys es
        (subst (λ x. Tells code (option_finds context (standing_here context table x) None e) es)
        (truth_same around declared table t.well_formed false c env f)
        (tell_option code own keeps around returned kr declared table t.well_formed no fn e labels.message l.message)))
    stmt_tells seen table env exit_env found t f kb (annotated p n a e) labels out l =
        noted_tells (is_some e) (ctx.resolve n.text) n.place found
        (annotated_binding context table env (ctx.resolve n.text) n a e found)
        (coded_in_value code p e labels.value labels.flows)
        (annotated_tells seen n table t env f p a e labels.value labels.flows l.after found l.binding)
    stmt_tells seen table env exit_env found t f kb (assigns p x e) labels out l = assignment_tells seen table env found t
        f p x e labels out l
    stmt_tells seen table env exit_env found t f kb (evaluates p e) labels out l =
        grow code found (finds_in (standing_here context table env) None e) (coded_in code e labels)
        (tell_in code own keeps around returned kr declared table t.well_formed env f None tt e labels l.0)
    stmt_tells seen table env exit_env found t f kb (while_loop p c b) labels out l =
        let kt = t.well_formed in
        let bound = binds_number ctx.resolve (bound_by b) in
        let fh = subst (EnvFits around declared table) (sym l.head)
        (head_fits around declared table kt bound env f) in
        let q : labels.head ≡ head_at context table (bound_by b) env = l.head
        ∙ head_same around declared table kt bound env f in
        let xs = finds_in (standing_here context table labels.head) None c in
        let yes = truth_same around declared table kt true c labels.head fh in
        let no = truth_same around declared table kt false c labels.head fh in
        let out_of = subst (EnvFits around declared table) no (truth_fits around declared table kt false c labels.head
        fh) in
        let start : Walk = record {
          table = table;
          env = Some (narrowed_at context table true c labels.head);
          exit_env =
              Some (narrowed_at context table false c labels.head);
          found = found ++ xs;
        } in
        let ds = coded_in code c labels.condition in
        let es = coded_in_suite code b labels.body in
        subst
        (λ h. Grows code found (behind_loop context exit_env (walk_suite context
        (record {
          table = table;
          env = Some (narrowed_at context table true c h);
          exit_env =
              Some (narrowed_at context table false c h);
          found = found ++ finds_in (standing_here context table h) None c;
        })
        b)).found (ds ++ es)) q
        (grow_then code found (found ++ xs) (walk_suite context start b).found ds es
        (grow code found xs ds (tell_in code own keeps around returned kr declared table kt labels.head fh None tt c
        labels.condition
        l.condition))
        (suite_tells seen b start (narrow ctx.bases declared ctx.resolve true c labels.head) (ap Some (sym yes)) t
        (truth_fits around declared table kt true c labels.head fh) out_of labels.body labels.out l.body))
    stmt_tells seen table env exit_env found t f kb (for_loop p n e b) labels out l =
        let kt = t.well_formed in
        let bound = binds_number ctx.resolve (n ∷ bound_by b) in
        let fh = subst (EnvFits around declared table) (sym l.head)
        (head_fits around declared table kt bound env f) in
        let q : labels.head ≡ head_at context table (n ∷ bound_by b) env = l.head
        ∙ head_same around declared table kt bound env f in
        let it = iterable_told around declared table kt env f returned e labels.iterable labels.item l.iterable in
        let item_is : item_label_of context (standing_here context table env) e ≡ labels.item =
        same_item m ctx returned keeps false table env e ∙ it.item_is in
        let r = ctx.resolve n.text in
        let xs = iterable_finds context (standing_here context table env) e in
        let ys = codes_at (place_of e) labels.item.codes in
        let before = (found ++ xs) ++ ys in
        let item = bind_item context table labels.head r (place_of e) labels.item.type before in
        let start = with_note context true r n.place item in
        let other = bind_item plain table labels.head r (place_of e) labels.item.type before in
        let same = same_item_bound m ctx returned keeps false table labels.head n (place_of e) labels.item.type
        labels.item.type refl before before in
        let tg = target_says around returned declared seen n table t r refl labels.head fh
        labels.item it.well_formed (place_of e) labels.flows l.inside before l.target in
        let back : other.table ≡ start.table = sym same.table in
        let ds = coded_in code e labels.iterable in
        let es = coded_at code (place_of e) labels.flows in
        let fs = coded_in_suite code b labels.body in
        let body = inside_for context labels.head start in
        let inside = noted_tells true r n.place before item es
        (target_tells seen n table t r refl labels.head labels.item it.well_formed (place_of e) labels.flows l.inside
        before l.target) in
        let rest = grow_then code before start.found (walk_suite context body b).found es fs inside
        (suite_tells (n.text ∷ seen) b body l.inside (ap Some (same.env ∙ tg.env_is))
        (subst (λ (u : DeclaredTypes). TableHere (n.text ∷ seen) u) back tg.fits)
        (subst (λ (u : DeclaredTypes). EnvFits around declared u l.inside) back tg.env_fits)
        (subst (λ (u : DeclaredTypes). EnvFits around declared u labels.head) back (tg.grows labels.head fh))
        labels.body labels.out l.body) in
        subst
        (λ i. Grows code found (behind_loop context exit_env (walk_suite context
        (inside_for context (head_at context table (n ∷ bound_by b) env) (with_note context true r n.place
        (bind_item context table (head_at context table (n ∷ bound_by b) env) r (place_of e) i.type
        ((found ++ xs) ++ codes_at (place_of e) i.codes)))) b)).found (ds ++ (es ++ fs))) (sym item_is)
        (subst
        (λ h. Grows code found (behind_loop context exit_env (walk_suite context
        (inside_for context h (with_note context true r n.place
        (bind_item context table h r (place_of e) labels.item.type before))) b)).found (ds ++ (es ++ fs))) q
        (grow_then code found (found ++ xs) (walk_suite context body b).found ds (es ++ fs)
        (grow code found xs ds (tell_iterable code own keeps around returned kr declared table kt env f e
        labels.iterable labels.item l.iterable))
        (grow_behind code (found ++ xs) ys (walk_suite context body b).found (es ++ fs)
        (tell_codes code own (place_of e) labels.item.codes) rest)))
    stmt_tells seen table env exit_env found t f kb (conditional p bs o) labels out l =
        let start : BranchesResult = record {
          table = table;
          last = env;
          ways = None;
          exit_env = exit_env;
          found =
              found;
        } in
        let if_state = walk_branches context start bs in
        let br = branches_tells seen start env refl t f kb bs labels.branches labels.last l.branches in
        let mid : Walk = record {
          table = if_state.table;
          env = Some if_state.last;
          exit_env = if_state.exit_env;
          found =
              if_state.found;
        } in
        grow_then code found if_state.found (walk_suite context mid o).found (coded_in_branches code bs labels.branches)
        (coded_in_suite code o labels.otherwise) br.tells
        (suite_tells (texts (bound_by_branches bs) ++ seen) o mid labels.last (ap Some br.last_is) br.fits br.last_fits
        br.exit_env_fits labels.otherwise labels.out l.otherwise)

    pub suite_tells : (seen : NamesBound) (b : Stmts) (w : Walk) (env : Env) → w.env ≡ Some env → TableHere seen w.table
        → EnvFits around declared w.table env → OutFits around declared w.table w.exit_env
        → (labels : SuiteLabels b) (out : Option Env) → LawfulThere seen env b labels out
        → Grows code w.found (walk_suite context w b).found (coded_in_suite code b labels)
    suite_tells seen no_stmts w env e t f kb labels out l = grow_none code w.found
    suite_tells seen (more_stmts s rest) w env e t f kb labels out l =
        subst (λ o. Grows code w.found (walk_suite context (step context w.table o w.exit_env w.found s) rest).found
        (coded_in_suite code (more_stmts s rest) labels)) (sym e)
        (behind_tells (completes s) seen env w.table w.found s rest labels.first labels.behind out
        (step context w.table (Some env) w.exit_env w.found s)
        (λ o y. (
          stmt_stands keeps around returned kr declared seen w.table env w.exit_env w.found t f kb s labels.first o y,
          stmt_tells seen w.table env w.exit_env w.found t f kb s labels.first o y,
        ))
        (suite_tells (texts (bound_by_stmt s) ++ seen) rest)
        l)

    branches_tells : (seen : NamesBound) (w : BranchesResult) (env : Env) → w.last ≡ env → TableHere seen w.table
        → EnvFits around declared w.table env → OutFits around declared w.table w.exit_env
        → (bs : Branches) (labels : BranchesLabels bs) (last : Env) → LawfulBranches m ctx declared returned seen env bs
        labels last
        → ForkTells (texts (bound_by_branches bs) ++ seen) w.found (walk_branches context w bs) last
        (coded_in_branches code bs labels)
    branches_tells seen w env e t f kb no_branches labels last l = record {
      fits = t;
      last_is = e ∙ sym l;
      last_fits = subst (EnvFits around declared w.table) (sym l) f;
      exit_env_fits = kb;
      tells = grow_none code w.found;
    }
    branches_tells seen w env e t f kb (more_branches c b rest) labels last l =
        let kt = t.well_formed in
        let xs = finds_in (standing_here context w.table env) None c in
        let yes = truth_same around declared w.table kt true c env f in
        let no = truth_same around declared w.table kt false c env f in
        let start : Walk = record {
          table = w.table;
          env = Some (narrowed_at context w.table true c env);
          exit_env =
              w.exit_env;
          found = w.found ++ xs;
        } in
        let body = suite_stands keeps around returned kr declared seen start
        (narrow ctx.bases declared ctx.resolve true c env)
        (ap Some (sym yes)) t (truth_fits around declared w.table kt true c env f) kb b labels.body labels.out
        l.body in
        let told_body = suite_tells seen b start (narrow ctx.bases declared ctx.resolve true c env) (ap Some (sym yes))
        t (truth_fits around declared w.table kt true c env f) kb labels.body labels.out l.body in
        let u = walk_suite context start b in
        let next : BranchesResult = record {
          table = u.table;
          last = narrowed_at context w.table false c env;
          ways =
              with_way ctx.bases u.table w.ways u.env;
          exit_env = u.exit_env;
          found = u.found;
        } in
        let others = branches_tells (texts (bound_by b) ++ seen) next
        (narrow ctx.bases declared ctx.resolve false c env) (sym no) body.fits
        (body.grows (narrow ctx.bases declared ctx.resolve false c env)
        (truth_fits around declared w.table kt false c env f)) body.exit_env_fits rest labels.rest last l.others in
        let ds = coded_in code c labels.condition in
        let es = coded_in_suite code b labels.body in
        let fs = coded_in_branches code rest labels.rest in
        subst (λ x. ForkTells (texts (bound_by_branches (more_branches c b rest)) ++ seen) w.found
        (walk_branches context (record {
          table = w.table;
          last = x;
          ways = w.ways;
          exit_env = w.exit_env;
          found =
              w.found;
        }) (more_branches c b rest)) last (ds ++ (es ++ fs))) (sym e)
        (record {
          fits = fits_both around declared (bound_by b) (bound_by_branches rest) seen
              (walk_branches context next rest).table others.fits;
          last_is = others.last_is;
          last_fits = others.last_fits;
          exit_env_fits = others.exit_env_fits;
          tells = grow_then code w.found (w.found ++ xs) (walk_branches context next rest).found ds (es ++ fs)
              (grow code w.found xs ds (tell_in code own keeps around returned kr declared w.table kt env f None tt c
              labels.condition
              l.condition))
              (grow_then code (w.found ++ xs) u.found (walk_branches context next rest).found es fs told_body
              others.tells);
        })
