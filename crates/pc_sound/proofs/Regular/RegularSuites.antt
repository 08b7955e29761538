-- The labels of lawful statements have types whose dicts have int or str as key and whose classes are as asked.
use Rattle.std.proofs.Common.{◌≡◌, ℕ, zero, suc, List, [], ◌∷◌, ◌++◌, refl, sym, ◌∙◌, subst, inl, inr, arith}
use Rattle.std.specs.Prelude.{◌⊎◌, Bool as Test, true, false, Option, Some, None, option_to_list}
use Rattle.std.proofs.lemmas.Option.{same_Some}
use Rattle.pc_source.specs.declared.place.Place.{Place}
use Rattle.pc_tree.specs.Stopping.{bound_by, bound_by_stmt, bound_by_branches}
use Rattle.pc_tree.specs.Tree.{Ann, Name, Expr, Target, to_name, to_attribute, to_index, Stmt, Stmts, Branches, pass}
use Rattle.pc_tree.specs.Tree.{breaks, continues, returns, asserts, annotated, assigns, evaluates, while_loop, for_loop}
use Rattle.pc_tree.specs.Tree.{conditional, no_stmts, more_stmts, no_branches, more_branches, Module}
use Rattle.pc_scope.specs.Bindings.{texts}
use Rattle.pc_scope.specs.Reach.{completes}
use Rattle.pc_scope.specs.Resolution.{resolve_in_module}
use Rattle.pc_types.specs.Tree.{Tree}
use Rattle.pc_types.specs.Below.{Bases}
use Rattle.pc_annotations.specs.Annotations.{read_ann}
use Rattle.pc_flow.specs.Environment.{Env, current, declared_type, join_env, join_envs_onto, join_ways, head_local}
use Rattle.pc_flow.specs.Environment.{loop_head}
use Rattle.pc_flow.specs.Narrowing.{narrow}
use Rattle.pc_rules.specs.Context.{Context}
use Rattle.pc_rules.specs.Labels.{FlowLabels, Labels}
use Rattle.pc_rules.specs.Lawful.{Lawful}
use Rattle.pc_module_rules.specs.StatementLabels.{OptionLabels, StmtLabels, SuiteLabels, BranchesLabels, Behind}
use Rattle.pc_module_rules.specs.StatementLabels.{Following, BehindRule, breaks_in, breaks_in_suite, breaks_in_branches}
use Rattle.pc_module_rules.specs.StatementLabels.{behind_list, ways_in}
use Rattle.pc_module_rules.specs.Statements.{NamesBound, is_first, annotation_at, LawfulAnnotated, LawfulAssignment}
use Rattle.pc_module_rules.specs.Statements.{LawfulReturn, LawfulOption, LawfulStmt, LawfulSuite, LawfulBranches}
use Rattle.pc_module_rules.specs.Statements.{binds_number, AreUndeclared}
use Rattle.pc_sound.proofs.Regular.RegularParts.{Asked, IsRegular, NamesAsked, Regular}
use Rattle.pc_sound.proofs.Regular.RegularTypes.{EnvRegular, narrow_regular, join_env_regular}
use Rattle.pc_sound.proofs.Regular.RegularCalls.{ContextRegular}
use Rattle.pc_sound.proofs.Regular.RegularLabels.{Timely, labels_regular}
use Rattle.pc_sound.proofs.Regular.RegularModules.{ann_regular}
use Rattle.pc_sound.proofs.Regular.RegularStatements.{OptionalRegular, StmtRegular, SuiteRegular, BranchesRegular}
use Rattle.pc_sound.proofs.Regular.RegularStatements.{StmtQuiet, SuiteQuiet, BranchesQuiet}
use Rattle.pc_sound.proofs.Regular.RegularBindings.{NameRegular, NamesRegular, SeenRegular, names_append, seen_more}
use Rattle.pc_sound.proofs.Regular.RegularBindings.{seen_names, undeclared_regular, binding_regular, store_regular}
use Rattle.pc_sound.proofs.Regular.RegularBindings.{iterable_regular, for_target_regular, declaration_regular}
use Rattle.pc_sound.proofs.Regular.RegularBindings.{annotation_regular}

-- ---- loop heads

-- at the head of a loop a local has its declared type, or is as it was
record AtHead (ds : List Tree) (env : Env) (x : ℕ) (t : Tree) : Type 0 where
  before : Tree
  was : current env x ≡ Some before
  is : (t ≡ declared_type ds x) ⊎ (t ≡ before)

head_one : (b : Test) (d t : Tree) (o : Option Tree) → head_local b d o ≡ Some t → (u : Tree) × (o ≡ Some u)
    × ((t ≡ d) ⊎ (t ≡ u))
head_one b d t None e = absurd (grind (arith, e))
head_one true d t (Some u) e = (u, refl, inl (sym (same_Some _ _ e)))
head_one false d t (Some u) e = (u, refl, inr (sym (same_Some _ _ e)))

at_head : (bound : ℕ → Test) (ds : List Tree) (env : Env) (x : ℕ) (t : Tree) → current (loop_head bound ds env) x
    ≡ Some t → AtHead ds env x t
at_head bound [] env x t e = absurd (grind (arith, e))
at_head bound (d ∷ ds) [] x t e = absurd (grind (arith, e))
at_head bound (d ∷ ds) (s ∷ env) zero t e = let h = head_one (bound zero) d t s e in
    record { before = h.0; was = h.1; is = h.2 }
at_head bound (d ∷ ds) (s ∷ env) (suc x) t e = let h = at_head (λ y. bound (suc y)) ds env x t e in
    record { before = h.before; was = h.was; is = h.is }

module _ (asked : Asked) where
  -- ---- environments

  module _ (bases : Bases) (declared : List Tree) where
    abbrev pub EnvsRegular : List Env → Type 0
    EnvsRegular [] = Unit {0}
    EnvsRegular (e ∷ es) = EnvRegular asked declared e × EnvsRegular es

    envs_append : (es fs : List Env) → EnvsRegular es → EnvsRegular fs → EnvsRegular (es ++ fs)
    envs_append [] fs h k = k
    envs_append (e ∷ es) fs h k = (h.0, envs_append es fs h.1 k)

    onto_regular : (env : Env) (es : List Env) → EnvRegular asked declared env → EnvsRegular es
        → EnvRegular asked declared (join_envs_onto bases declared env es)
    onto_regular env [] h k = h
    onto_regular env (e ∷ es) h k = onto_regular (join_env bases declared env e) es
        (join_env_regular asked bases declared env e h k.0) k.1

    ways_regular : (ways : List Env) (env : Env) → join_ways bases declared ways ≡ Some env → EnvsRegular ways
        → EnvRegular asked declared env
    ways_regular [] env e h = absurd (grind (arith, e))
    ways_regular (w ∷ ws) env e h = subst (EnvRegular asked declared) (same_Some _ _ e) (onto_regular w ws h.0 h.1)

  head_regular : (bound : ℕ → Test) (declared : List Tree) (env : Env) → EnvRegular asked declared env
      → EnvRegular asked declared (loop_head bound declared env)
  head_regular bound declared env h x t e =
      let a = at_head bound declared env x t e in
      let k = h x a.before a.was in
      (elim a.is [ inl d ↦ subst (IsRegular asked) (sym d) k.1 | inr u ↦ subst (IsRegular asked) (sym u) k.0 ], k.1)

  module _ (m : Module) (meant : NamesAsked asked (resolve_in_module m)) (ctx : Context) (declared : List Tree)
      (regular : ContextRegular asked ctx) (timely : (e : Expr) → Timely asked ctx declared e) where
    -- ---- statements

    abbrev Envs : List Env → Type 0
    Envs es = EnvsRegular ctx.bases declared es

    abbrev OutRegular : Option Env → Type 0
    OutRegular out = (env : Env) → out ≡ Some env → EnvRegular asked declared env

    pub record StmtResult (s : Stmt) (labels : StmtLabels s) (out : Option Env) : Type 0 where
      pub regular_labels : StmtRegular asked s labels
      pub names : NamesRegular asked m ctx declared (bound_by_stmt s)
      pub after : OutRegular out
      pub breaks : Envs (breaks_in s labels)

    pub record SuiteResult (b : Stmts) (labels : SuiteLabels b) (out : Option Env) : Type 0 where
      pub regular_labels : SuiteRegular asked b labels
      pub names : NamesRegular asked m ctx declared (bound_by b)
      pub after : OutRegular out
      pub breaks : Envs (breaks_in_suite b labels)

    record BranchesResult (bs : Branches) (labels : BranchesLabels bs) (last : Env) : Type 0 where
      regular_labels : BranchesRegular asked bs labels
      names : NamesRegular asked m ctx declared (bound_by_branches bs)
      behind : EnvRegular asked declared last
      ways : Envs (ways_in bs labels)
      breaks : Envs (breaks_in_branches bs labels)

    out_is : (out : Option Env) (env : Env) → out ≡ Some env → EnvRegular asked declared env → OutRegular out
    out_is out env e h other i = subst (EnvRegular asked declared) (same_Some _ _ (sym e ∙ i)) h

    out_none : (out : Option Env) → out ≡ None → OutRegular out
    out_none out e other i = absurd (grind (arith, sym e ∙ i))

    option_envs : (out : Option Env) → OutRegular out → Envs (option_to_list out)
    option_envs None h = tt
    option_envs (Some env) h = (h env refl, tt)

    narrowed : (holds : Test) (c : Expr) (env : Env) → EnvRegular asked declared env
        → EnvRegular asked declared (narrow ctx.bases declared ctx.resolve holds c env)
    narrowed holds c env h = narrow_regular asked ctx.bases declared ctx.resolve regular.names holds c env h

    expression_regular : (env : Env) (e : Expr) (labels : Labels e) → EnvRegular asked declared env
        → Lawful ctx declared env None e labels → Regular asked e labels
    expression_regular env e labels ek law = labels_regular asked ctx declared regular env ek None tt e (timely e)
        labels law

    option_regular : (returned : Tree) (env : Env) (e : Option Expr) (labels : OptionLabels e)
        → EnvRegular asked declared env → LawfulOption m ctx declared returned env e labels
        → OptionalRegular asked e labels
    option_regular returned env None labels ek law = tt
    option_regular returned env (Some e) labels ek law = expression_regular env e labels ek law

    return_regular : (returned : Tree) → IsRegular asked returned
        → (env : Env) (e : Option Expr) (labels : OptionLabels e) (flows : FlowLabels) → EnvRegular asked declared env
        → LawfulReturn m ctx declared returned env e labels flows → OptionalRegular asked e labels
    return_regular returned rk env None labels flows ek law = tt
    return_regular returned rk env (Some e) labels flows ek law = labels_regular asked ctx declared regular env ek
        (Some returned) rk e (timely e) labels law.0

    record AnnotatedRegular (n : Name) (e : Option Expr) (labels : OptionLabels e) (after : Env) : Type 0 where
      regular_labels : OptionalRegular asked e labels
      name_regular : NameRegular asked m ctx declared n.text
      env_regular : EnvRegular asked declared after

    annotated_regular : (env : Env) (seen : NamesBound) (n : Name) (a : Ann) (e : Option Expr) (labels : OptionLabels e)
        (flows : FlowLabels) (after : Env) → EnvRegular asked declared env → SeenRegular asked m ctx declared seen
        → LawfulAnnotated m ctx declared env seen n a e labels flows after → AnnotatedRegular n e labels after
    annotated_regular env seen n a None labels flows after ek sk law =
        record {
          regular_labels = tt;
          name_regular = declaration_regular asked m meant ctx declared regular timely seen
              n (read_ann m ctx.bases a) sk (ann_regular asked m meant ctx.bases a) law.0;
          env_regular =
              subst (EnvRegular asked declared) (sym law.2) ek;
        }
    annotated_regular env seen n a (Some e) labels flows after ek sk law =
        let b = binding_regular asked m meant ctx declared regular timely env seen n
        (annotation_at m ctx declared (is_first seen n) (read_ann m ctx.bases a)) e labels flows after ek sk
        (annotation_regular asked m meant ctx declared regular timely (is_first seen n) (read_ann m ctx.bases a)
        (ann_regular asked m meant ctx.bases a)) law in
        record { regular_labels = b.regular_labels; name_regular = b.name_regular; env_regular = b.env_regular }

    assignment_regular : (returned : Tree) (env : Env) (seen : NamesBound) (p : Place) (t : Target) (e : Expr)
        (labels : StmtLabels (assigns p t e)) (after : Env) (out : Option Env) → EnvRegular asked declared env
        → SeenRegular asked m ctx declared seen → LawfulAssignment m ctx declared env seen t labels.target e
        labels.value labels.flows after → out ≡ Some after → StmtResult (assigns p t e) labels out
    assignment_regular returned env seen p (to_name n) e labels after out ek sk law is =
        let b = binding_regular asked m meant ctx declared regular timely env seen n None e labels.value labels.flows
        after ek sk tt law in
        record {
          regular_labels = (b.regular_labels, tt);
          names = (b.name_regular, tt);
          after =
              out_is out after is b.env_regular;
          breaks = tt;
        }
    assignment_regular returned env seen p (to_attribute q o f) e labels after out ek sk law is =
        let s = store_regular asked m meant ctx declared regular timely env (to_attribute q o f) labels.target e
        labels.value labels.flows ek law.0 in
        record {
          regular_labels = (s.regular_labels, s.target_regular);
          names = tt;
          after =
              out_is out after is (subst (EnvRegular asked declared) (sym law.1) ek);
          breaks = tt;
        }
    assignment_regular returned env seen p (to_index q o i) e labels after out ek sk law is =
        let s = store_regular asked m meant ctx declared regular timely env (to_index q o i) labels.target e
        labels.value labels.flows ek law.0 in
        record {
          regular_labels = (s.regular_labels, s.target_regular);
          names = tt;
          after =
              out_is out after is (subst (EnvRegular asked declared) (sym law.1) ek);
          breaks = tt;
        }

    module _ (returned : Tree) (rk : IsRegular asked returned) where
      -- a statement and those after it are regular
      record BehindResult (s : Stmt) (rest : Stmts) (first : StmtLabels s) (b : Test)
          (behind : Behind b (Following (SuiteLabels rest))) (out : Option Env) : Type 0 where
        regular_labels : StmtRegular asked s first × BehindRule b behind (λ r. SuiteRegular asked rest r.rest)
            (Unit {0})
        names : NamesRegular asked m ctx declared (bound_by_stmt s ++ bound_by rest)
        after : OutRegular out
        breaks : Envs (breaks_in s first ++ behind_list b behind (λ r. breaks_in_suite rest r.rest))

      behind_regular :
          (seen : NamesBound) (env : Env) (s : Stmt) (rest : Stmts) (first : StmtLabels s)
          → SeenRegular asked m ctx declared seen → ((out : Option Env) → LawfulStmt m ctx declared returned seen
          env s first out → StmtResult s first out)
          → ((seen : NamesBound) (env : Env) (labels : SuiteLabels rest) (out : Option Env)
          → SeenRegular asked m ctx declared seen → EnvRegular asked declared env → SuiteQuiet asked rest labels
          → LawfulSuite m ctx declared returned seen env rest labels out → SuiteResult rest labels out)
          → (b : Test) (behind : Behind b (Following (SuiteLabels rest))) (out : Option Env)
          → BehindRule b behind (λ r. SuiteQuiet asked rest r.rest) (Unit {0})
          → BehindRule b behind (λ r. LawfulStmt m ctx declared returned seen env s first (Some r.env)
          × LawfulSuite m ctx declared returned (texts (bound_by_stmt s) ++ seen) r.env rest r.rest out)
          (LawfulStmt m ctx declared returned seen env s first None
          × AreUndeclared m ctx declared (texts (bound_by_stmt s) ++ seen) (bound_by rest) × (out ≡ None))
          → BehindResult s rest first b behind out
      behind_regular seen env s rest first sk one others true behind out quiet law =
          let a = one (Some behind.env) law.0 in
          let r = others (texts (bound_by_stmt s) ++ seen) behind.env behind.rest out
          (seen_names asked m ctx declared (bound_by_stmt s) seen a.names sk) (a.after behind.env refl) quiet law.1 in
          record {
            regular_labels = (a.regular_labels, r.regular_labels);
            names = names_append asked m ctx declared
                (bound_by_stmt s) (bound_by rest) a.names r.names;
            after = r.after;
            breaks =
                envs_append ctx.bases declared (breaks_in s first) (breaks_in_suite rest behind.rest) a.breaks r.breaks;
          }
      behind_regular seen env s rest first sk one others false behind out quiet law =
          let a = one None law.0 in
          record {
            regular_labels = (a.regular_labels, tt);
            names = names_append asked m ctx declared (bound_by_stmt s)
                (bound_by rest) a.names (undeclared_regular asked m ctx declared (texts (bound_by_stmt s) ++ seen)
                (bound_by rest) (seen_names asked m ctx declared (bound_by_stmt s) seen a.names sk) law.1);
            after =
                out_none out law.2;
            breaks = envs_append ctx.bases declared (breaks_in s first) [] a.breaks tt;
          }

      mutual
        pub stmt_regular : (seen : NamesBound) (env : Env) (s : Stmt) (labels : StmtLabels s) (out : Option Env)
            → SeenRegular asked m ctx declared seen → EnvRegular asked declared env → StmtQuiet asked s labels
            → LawfulStmt m ctx declared returned seen env s labels out → StmtResult s labels out
        stmt_regular seen env (pass p) labels out sk ek quiet law = record {
          regular_labels = tt;
          names = tt;
          after =
              out_is out env law ek;
          breaks = tt;
        }
        stmt_regular seen env (breaks p) labels out sk ek quiet law = record {
          regular_labels = tt;
          names = tt;
          after =
              out_none out law.1;
          breaks = (subst (EnvRegular asked declared) (sym law.0) ek, tt);
        }
        stmt_regular seen env (continues p) labels out sk ek quiet law =
            record { regular_labels = tt; names = tt; after = out_none out law; breaks = tt }
        stmt_regular seen env (returns p None) labels out sk ek quiet law =
            record { regular_labels = quiet; names = tt; after = out_none out law.1; breaks = tt }
        stmt_regular seen env (returns p (Some e)) labels out sk ek quiet law =
            record {
              regular_labels = return_regular returned rk env (Some e) labels.value labels.flows ek law.0;
              names = tt;
              after = out_none out law.1;
              breaks = tt;
            }
        stmt_regular seen env (asserts p c e) labels out sk ek quiet law = record {
          regular_labels = (
            expression_regular env c labels.condition ek law.condition,
            option_regular returned (narrow ctx.bases declared ctx.resolve false c env) e labels.message
                (narrowed false c env ek) law.message,
          );
          names = tt;
          after = out_is out (narrow ctx.bases declared ctx.resolve true c env) law.after (narrowed true c env ek);
          breaks = tt;
        }
        stmt_regular seen env (annotated p n a e) labels out sk ek quiet law =
            let k = annotated_regular env seen n a e labels.value labels.flows law.after ek sk law.binding in
            record {
              regular_labels = k.regular_labels;
              names = (k.name_regular, tt);
              after =
                  out_is out law.after law.is k.env_regular;
              breaks = tt;
            }
        stmt_regular seen env (assigns p t e) labels out sk ek quiet law = assignment_regular returned env seen p t e
            labels law.after out ek sk law.assignment law.is
        stmt_regular seen env (evaluates p e) labels out sk ek quiet law =
            record {
              regular_labels = expression_regular env e labels ek law.0;
              names = tt;
              after =
                  out_is out env law.1 ek;
              breaks = tt;
            }
        stmt_regular seen env (while_loop p c b) labels out sk ek quiet law =
            let hk = subst (EnvRegular asked declared) (sym law.head)
            (head_regular (binds_number ctx.resolve (bound_by b)) declared env ek) in
            let body = suite_regular seen (narrow ctx.bases declared ctx.resolve true c labels.head) b labels.body
            labels.out sk (narrowed true c labels.head hk) quiet law.body in
            record {
              regular_labels = (
                expression_regular labels.head c labels.condition hk law.condition,
                body.regular_labels,
              );
              names = body.names;
              after = out_is out _ law.after (onto_regular ctx.bases declared
                  (narrow ctx.bases declared ctx.resolve false c labels.head) (breaks_in_suite b labels.body)
                  (narrowed false c labels.head hk) body.breaks);
              breaks = tt;
            }
        stmt_regular seen env (for_loop p n e b) labels out sk ek quiet law =
            let i = iterable_regular asked m meant ctx declared regular timely env e labels.iterable labels.item ek
            law.iterable in
            let hk = subst (EnvRegular asked declared) (sym law.head)
            (head_regular (binds_number ctx.resolve (n ∷ bound_by b)) declared env ek) in
            let t = for_target_regular asked m meant ctx declared regular timely seen n labels.head labels.item
            labels.flows law.inside hk sk i.item_regular law.target in
            let body = suite_regular (n.text ∷ seen) law.inside b labels.body labels.out
            (seen_more asked m ctx declared n seen t.name_regular sk) t.env_regular quiet law.body in
            record {
              regular_labels = ((i.regular_labels, i.item_regular), body.regular_labels);
              names = (t.name_regular, body.names);
              after = out_is out _ law.after (onto_regular ctx.bases declared labels.head
                  (breaks_in_suite b labels.body) hk body.breaks);
              breaks = tt;
            }
        stmt_regular seen env (conditional p bs o) labels out sk ek quiet law =
            let r = branches_regular seen env bs labels.branches labels.last sk ek quiet.0 law.branches in
            let b = suite_regular (texts (bound_by_branches bs) ++ seen) labels.last o labels.otherwise labels.out
            (seen_names asked m ctx declared (bound_by_branches bs) seen r.names sk) r.behind quiet.1 law.otherwise in
            record {
              regular_labels = (r.regular_labels, b.regular_labels);
              names = names_append asked m ctx declared (bound_by_branches bs) (bound_by o) r.names b.names;
              after = λ env' is. ways_regular ctx.bases declared (ways_in bs labels.branches ++ option_to_list
                  labels.out) env' (sym law.after ∙ is) (envs_append ctx.bases declared (ways_in bs labels.branches)
                  (option_to_list labels.out) r.ways (option_envs labels.out b.after));
              breaks = envs_append ctx.bases declared (breaks_in_branches bs labels.branches)
                  (breaks_in_suite o labels.otherwise) r.breaks b.breaks;
            }

        pub suite_regular : (seen : NamesBound) (env : Env) (b : Stmts) (labels : SuiteLabels b) (out : Option Env)
            → SeenRegular asked m ctx declared seen → EnvRegular asked declared env → SuiteQuiet asked b labels
            → LawfulSuite m ctx declared returned seen env b labels out → SuiteResult b labels out
        suite_regular seen env no_stmts labels out sk ek quiet law = record {
          regular_labels = tt;
          names = tt;
          after =
              out_is out env law ek;
          breaks = tt;
        }
        suite_regular seen env (more_stmts s rest) labels out sk ek quiet law =
            let r = behind_regular seen env s rest labels.first sk (λ o l. stmt_regular seen env s labels.first o sk ek
            quiet.0 l) (λ seen' env' labels' o sk' ek' q l. suite_regular seen' env' rest labels' o sk' ek' q l)
            (completes s) labels.behind out quiet.1 law in
            record { regular_labels = r.regular_labels; names = r.names; after = r.after; breaks = r.breaks }

        branches_regular : (seen : NamesBound) (env : Env) (bs : Branches) (labels : BranchesLabels bs) (last : Env)
            → SeenRegular asked m ctx declared seen → EnvRegular asked declared env → BranchesQuiet asked bs labels
            → LawfulBranches m ctx declared returned seen env bs labels last → BranchesResult bs labels last
        branches_regular seen env no_branches labels last sk ek quiet law =
            record {
              regular_labels = tt;
              names = tt;
              behind = subst (EnvRegular asked declared) (sym law) ek;
              ways =
                  tt;
              breaks = tt;
            }
        branches_regular seen env (more_branches c b rest) labels last sk ek quiet law =
            let body = suite_regular seen (narrow ctx.bases declared ctx.resolve true c env) b labels.body labels.out sk
            (narrowed true c env ek) quiet.0 law.body in
            let r = branches_regular (texts (bound_by b) ++ seen) (narrow ctx.bases declared ctx.resolve false c env)
            rest labels.rest last (seen_names asked m ctx declared (bound_by b) seen body.names sk)
            (narrowed false c env ek) quiet.1 law.others in
            record {
              regular_labels = (
                expression_regular env c labels.condition ek law.condition,
                (body.regular_labels, r.regular_labels),
              );
              names = names_append asked m ctx declared (bound_by b) (bound_by_branches rest) body.names r.names;
              behind = r.behind;
              ways = envs_append ctx.bases declared (option_to_list labels.out) (ways_in rest labels.rest)
                  (option_envs labels.out body.after) r.ways;
              breaks = envs_append ctx.bases declared (breaks_in_suite b labels.body)
                  (breaks_in_branches rest labels.rest) body.breaks r.breaks;
            }
