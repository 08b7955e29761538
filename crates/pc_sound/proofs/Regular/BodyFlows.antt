-- The types that flow dynamically in statements have dicts with int or str as key and classes as asked, where their
-- labels have.
use Rattle.std.proofs.Common.{◌≡◌, List, [], ◌∷◌, ◌++◌, map}
use Rattle.std.specs.Prelude.{Bool as Test, true, false, Option, Some, None}
use Rattle.pc_source.specs.declared.place.Place.{Place}
use Rattle.pc_tree.specs.declared.code.Code.TheVariants.{A1}
use Rattle.pc_tree.specs.Depth.{place_of}
use Rattle.pc_tree.specs.Tree.{Ann, Name, Expr, Exprs, Keywords, name, call, Target, to_name, to_attribute}
use Rattle.pc_tree.specs.Tree.{to_index, Stmt, Stmts, Branches, pass, breaks, continues, returns, asserts, annotated}
use Rattle.pc_tree.specs.Tree.{assigns, evaluates, while_loop, for_loop, conditional, no_stmts, more_stmts, no_branches}
use Rattle.pc_tree.specs.Tree.{more_branches, Module}
use Rattle.pc_scope.specs.declared.resolution.NameMeaning.{NameMeaning}
use Rattle.pc_scope.specs.declared.resolution.NameMeaning.TheVariants as meaning
use Rattle.pc_scope.specs.Bindings.{texts}
use Rattle.pc_scope.specs.Expressions.{is_instance_test}
use Rattle.pc_scope.specs.Reach.{completes}
use Rattle.pc_tree.specs.Stopping.{bound_by, bound_by_stmt, bound_by_branches}
use Rattle.pc_types.specs.Tree.{Tree, NoneType}
use Rattle.pc_types.specs.Shape.{members}
use Rattle.pc_annotations.specs.Annotations.{read_ann}
use Rattle.pc_flow.specs.Environment.{Env, declared_type}
use Rattle.pc_flow.specs.Narrowing.{narrow}
use Rattle.pc_rules.specs.Operations.{Label, clean, store_attribute_member, store_index_member, stored_types}
use Rattle.pc_rules.specs.Operations.{store_index_types, only_type}
use Rattle.pc_rules.specs.Context.{Context}
use Rattle.pc_rules.specs.Calls.{arguments_given, positional_seat, named_seat, is_range, range_offers, range_item}
use Rattle.pc_rules.specs.Labels.{FlowLabels, Labels, type_of}
use Rattle.pc_rules.specs.Lawful.{Lawful}
use Rattle.pc_module_rules.specs.StatementLabels.{OptionLabels, TargetLabels, StmtLabels, SuiteLabels, BranchesLabels}
use Rattle.pc_module_rules.specs.StatementLabels.{Behind, Following, BehindRule, behind_list}
use Rattle.pc_module_rules.specs.Statements.{NamesBound, is_first, annotation_at, known_type, LawfulRange, LawfulValues}
use Rattle.pc_module_rules.specs.Statements.{RangeOrValues, LawfulIterable, LawfulBinding, LawfulTarget}
use Rattle.pc_module_rules.specs.Statements.{LawfulAssignment, LawfulAnnotated, LawfulReturn, LawfulOption, LawfulStmt}
use Rattle.pc_module_rules.specs.Statements.{LawfulSuite, LawfulBranches, AreUndeclared}
use Rattle.pc_module_rules.specs.FlowsOfExpressions.{coded_at, coded_in}
use Rattle.pc_module_rules.specs.FlowsOfStatements.{coded_in_option, coded_in_value, coded_in_target}
use Rattle.pc_module_rules.specs.FlowsOfStatements.{coded_in_stmt, coded_in_suite, coded_in_branches}
use Rattle.pc_sound.proofs.Regular.RegularParts.{Asked, IsRegular, Regular}
use Rattle.pc_sound.proofs.Regular.RegularStatements.{OptionalRegular, TargetRegular, StmtRegular, SuiteRegular}
use Rattle.pc_sound.proofs.Regular.RegularStatements.{BranchesRegular}
use Rattle.pc_sound.proofs.Regular.ExpressionFlows.{FlowsRegular, flows_append, value_flows, no_flows, call_flows}
use Rattle.pc_sound.proofs.Regular.ExpressionFlows.{arguments_flows, keywords_flows, expression_flows, value_and_flows}

module _ (asked : Asked) where
  -- ---- statements

  module _ (m : Module) (ctx : Context) (declared : List Tree) where
    option_flows : (returned : Tree) (env : Env) (e : Option Expr) (labels : OptionLabels e)
        → OptionalRegular asked e labels → LawfulOption m ctx declared returned env e labels
        → FlowsRegular asked (coded_in_option A1 e labels)
    option_flows returned env None labels k law = tt
    option_flows returned env (Some e) labels k law = expression_flows asked ctx declared env None e labels k law

    return_flows : (returned : Tree) (env : Env) (p : Place) (e : Option Expr) (labels : OptionLabels e)
        (flows : FlowLabels) → OptionalRegular asked e labels → LawfulReturn m ctx declared returned env e labels flows
        → FlowsRegular asked (coded_in_value A1 p e labels flows)
    return_flows returned env p None labels flows k law = value_flows asked ctx.bases p (clean NoneType) (returned ∷ [])
        flows tt law
    return_flows returned env p (Some e) labels flows k law = value_and_flows asked ctx declared env (Some returned) e
        labels (returned ∷ []) flows k law.0 law.1

    binding_flows : (env : Env) (seen : NamesBound) (n : Name) (annotation : Option Tree) (e : Expr) (labels : Labels e)
        (flows : FlowLabels) (after : Env) → Regular asked e labels → LawfulBinding m ctx declared env seen n
        (ctx.resolve n.text) annotation e labels flows after → FlowsRegular asked
        (coded_in A1 e labels ++ coded_at A1 (place_of e) flows)
    binding_flows env seen n annotation e labels flows after k law = go (ctx.resolve n.text) law
      where
        elsewhere : Lawful ctx declared env None e labels → flows ≡ []
            → FlowsRegular asked (coded_in A1 e labels ++ coded_at A1 (place_of e) flows)
        elsewhere value none = flows_append asked (coded_in A1 e labels) (coded_at A1 (place_of e) flows)
            (expression_flows asked ctx declared env None e labels k value) (no_flows asked (place_of e) flows none)

        go : (r : NameMeaning) → LawfulBinding m ctx declared env seen n r annotation e labels flows after
            → FlowsRegular asked (coded_in A1 e labels ++ coded_at A1 (place_of e) flows)
        go (meaning.Local x) law = value_and_flows asked ctx declared env
            (known_type m ctx declared (is_first seen n) x annotation) e labels (declared_type declared x ∷ []) flows k
            law.value law.flow
        go (meaning.Const i) law = elsewhere law.value law.flow
        go (meaning.Func i) law = elsewhere law.value law.flow
        go (meaning.Class i) law = elsewhere law.value law.flow
        go (meaning.Builtin b) law = elsewhere law.value law.flow
        go meaning.None law = elsewhere law.value law.flow

    annotated_flows : (env : Env) (seen : NamesBound) (p : Place) (n : Name) (a : Ann) (e : Option Expr)
        (labels : OptionLabels e) (flows : FlowLabels) (after : Env) → OptionalRegular asked e labels
        → LawfulAnnotated m ctx declared env seen n a e labels flows after
        → FlowsRegular asked (coded_in_value A1 p e labels flows)
    annotated_flows env seen p n a None labels flows after k law = no_flows asked p flows law.1
    annotated_flows env seen p n a (Some e) labels flows after k law =
        binding_flows env seen n (annotation_at m ctx declared (is_first seen n) (read_ann m ctx.bases a)) e labels
        flows after k law

    assignment_flows :
        (env : Env) (seen : NamesBound) (t : Target) (target : TargetLabels t) (e : Expr) (labels : Labels e)
        (flows : FlowLabels) (after : Env) → Regular asked e labels → TargetRegular asked t target
        → LawfulAssignment m ctx declared env seen t target e labels flows after
        → FlowsRegular asked (coded_in_target A1 t target ++ (coded_in A1 e labels ++ coded_at A1 (place_of e) flows))
    assignment_flows env seen (to_name n) target e labels flows after k tk law = binding_flows env seen n None e labels
        flows after k law
    assignment_flows env seen (to_attribute p o field) target e labels flows after k tk law =
        let offers = map (store_attribute_member ctx.classes field.text) (members (type_of o target.object)) in
        flows_append asked (coded_in A1 o target.object) (coded_in A1 e labels ++ coded_at A1 (place_of e) flows)
        (expression_flows asked ctx declared env None o target.object tk law.0.object)
        (value_and_flows asked ctx declared env (only_type offers (stored_types offers)) e labels (stored_types offers)
        flows k law.0.value law.0.flow)
    assignment_flows env seen (to_index p o i) target e labels flows after k tk law =
        let offers = map store_index_member (members (type_of o target.object)) in
        flows_append asked (coded_in A1 o target.object ++ (coded_in A1 i target.key ++ coded_at A1 (place_of i)
        target.key_flows)) (coded_in A1 e labels ++ coded_at A1 (place_of e) flows)
        (flows_append asked (coded_in A1 o target.object) (coded_in A1 i target.key ++ coded_at A1 (place_of i)
        target.key_flows) (expression_flows asked ctx declared env None o target.object tk.0 law.0.object)
        (value_and_flows asked ctx declared env None i target.key (store_index_types offers) target.key_flows tk.1
        law.0.key law.0.key_flow))
        (value_and_flows asked ctx declared env (only_type offers (stored_types offers)) e labels (stored_types offers)
        flows k law.0.value law.0.flow)

    range_flows : (env : Env) (p : Place) (n : Name) (args : Exprs) (kws : Keywords)
        (labels : Labels (call p (name n) args kws)) → Regular asked (call p (name n) args kws) labels
        → LawfulRange m ctx declared env (name n) args kws p labels
        → FlowsRegular asked (coded_in A1 (call p (name n) args kws) labels)
    range_flows env p n args kws labels k law =
        let offers = range_offers (arguments_given args kws) in
        call_flows asked (name n) args kws labels.callee labels.arguments labels.keywords tt
        (arguments_flows asked ctx declared (is_instance_test (name n) args kws) env (positional_seat offers) args
        labels.arguments k.1.1.0 law.arguments)
        (keywords_flows asked ctx declared env (named_seat offers) [] kws labels.keywords k.1.1.1 law.keywords)

    iterable_flows : (env : Env) (e : Expr) (labels : Labels e) (item : Label) → Regular asked e labels
        → LawfulIterable m ctx declared env e labels item → FlowsRegular asked (coded_in A1 e labels)
    iterable_flows env (call p (name n) args kws) labels item k law = go (is_range (ctx.resolve n.text)) law
      where
        go : (b : Test) → RangeOrValues m ctx declared b (LawfulRange m ctx declared env (name n) args kws p labels
            × (item ≡ range_item (arguments_given args kws))) (LawfulValues m ctx declared env
            (call p (name n) args kws) labels item) → FlowsRegular asked (coded_in A1 (call p (name n) args kws) labels)
        go true law = range_flows env p n args kws labels k law.0
        go false law = expression_flows asked ctx declared env None (call p (name n) args kws) labels k law.0
    iterable_flows env e labels item k law = expression_flows asked ctx declared env None e labels k law.0

    target_flows : (seen : NamesBound) (n : Name) (r : NameMeaning) (head : Env) (item : Label) (p : Place)
        (flows : FlowLabels)
        (inside : Env) → IsRegular asked item.type → LawfulTarget m ctx declared seen n r head item flows inside
        → FlowsRegular asked (coded_at A1 p flows)
    target_flows seen n (meaning.Local x) head item p flows inside k law = value_flows asked ctx.bases p (clean item.type)
        (declared_type declared x ∷ []) flows k law.flow
    target_flows seen n (meaning.Const i) head item p flows inside k law = no_flows asked p flows law.0
    target_flows seen n (meaning.Func i) head item p flows inside k law = no_flows asked p flows law.0
    target_flows seen n (meaning.Class i) head item p flows inside k law = no_flows asked p flows law.0
    target_flows seen n (meaning.Builtin b) head item p flows inside k law = no_flows asked p flows law.0
    target_flows seen n meaning.None head item p flows inside k law = no_flows asked p flows law.0

    module _ (returned : Tree) where
      -- in a statement and in what stands after it
      behind_flows :
          (seen : NamesBound) (env : Env) (s : Stmt) (rest : Stmts) (first : StmtLabels s)
          → ((out : Option Env) → LawfulStmt m ctx declared returned seen env s first out
          → FlowsRegular asked (coded_in_stmt A1 s first))
          → ((seen : NamesBound) (env : Env) (labels : SuiteLabels rest) (out : Option Env)
          → SuiteRegular asked rest labels → LawfulSuite m ctx declared returned seen env rest labels out
          → FlowsRegular asked (coded_in_suite A1 rest labels)) → (b : Test)
          (behind : Behind b (Following (SuiteLabels rest))) (out : Option Env)
          → BehindRule b behind (λ r. SuiteRegular asked rest r.rest) (Unit {0})
          → BehindRule b behind (λ r. LawfulStmt m ctx declared returned seen env s first (Some r.env)
          × LawfulSuite m ctx declared returned (texts (bound_by_stmt s) ++ seen) r.env rest r.rest out)
          (LawfulStmt m ctx declared returned seen env s first None
          × AreUndeclared m ctx declared (texts (bound_by_stmt s) ++ seen) (bound_by rest) × (out ≡ None))
          → FlowsRegular asked (coded_in_stmt A1 s first ++ behind_list b behind (λ r. coded_in_suite A1 rest r.rest))
      behind_flows seen env s rest first one others true behind out k law =
          flows_append asked (coded_in_stmt A1 s first) (coded_in_suite A1 rest behind.rest)
          (one (Some behind.env) law.0)
          (others (texts (bound_by_stmt s) ++ seen) behind.env behind.rest out k law.1)
      behind_flows seen env s rest first one others false behind out k law =
          flows_append asked (coded_in_stmt A1 s first) [] (one None law.0) tt

      mutual
        stmt_flows : (seen : NamesBound) (env : Env) (s : Stmt) (labels : StmtLabels s) (out : Option Env)
            → StmtRegular asked s labels → LawfulStmt m ctx declared returned seen env s labels out
            → FlowsRegular asked (coded_in_stmt A1 s labels)
        stmt_flows seen env (pass p) labels out k law = tt
        stmt_flows seen env (breaks p) labels out k law = tt
        stmt_flows seen env (continues p) labels out k law = tt
        stmt_flows seen env (returns p None) labels out k law = return_flows returned env p None labels.value
            labels.flows tt law.0
        stmt_flows seen env (returns p (Some e)) labels out k law = return_flows returned env p (Some e) labels.value
            labels.flows k law.0
        stmt_flows seen env (asserts p c e) labels out k law =
            flows_append asked (coded_in A1 c labels.condition) (coded_in_option A1 e labels.message)
            (expression_flows asked ctx declared env None c labels.condition k.0 law.condition)
            (option_flows returned (narrow ctx.bases declared ctx.resolve false c env) e labels.message k.1
            law.message)
        stmt_flows seen env (annotated p n a e) labels out k law = annotated_flows env seen p n a e labels.value
            labels.flows law.after k law.binding
        stmt_flows seen env (assigns p t e) labels out k law = assignment_flows env seen t labels.target e labels.value
            labels.flows law.after k.0 k.1 law.assignment
        stmt_flows seen env (evaluates p e) labels out k law = expression_flows asked ctx declared env None e labels k
            law.0
        stmt_flows seen env (while_loop p c b) labels out k law =
            flows_append asked (coded_in A1 c labels.condition) (coded_in_suite A1 b labels.body)
            (expression_flows asked ctx declared labels.head None c labels.condition k.0 law.condition)
            (suite_flows seen (narrow ctx.bases declared ctx.resolve true c labels.head) b labels.body labels.out k.1
            law.body)
        stmt_flows seen env (for_loop p n e b) labels out k law =
            flows_append asked (coded_in A1 e labels.iterable) (coded_at A1 (place_of e) labels.flows ++ coded_in_suite
            A1
            b labels.body) (iterable_flows env e labels.iterable labels.item k.0.0 law.iterable)
            (flows_append asked (coded_at A1 (place_of e) labels.flows) (coded_in_suite A1 b labels.body)
            (target_flows seen n (ctx.resolve n.text) labels.head labels.item (place_of e) labels.flows law.inside
            k.0.1 law.target)
            (suite_flows (n.text ∷ seen) law.inside b labels.body labels.out k.1 law.body))
        stmt_flows seen env (conditional p bs o) labels out k law =
            flows_append asked (coded_in_branches A1 bs labels.branches) (coded_in_suite A1 o labels.otherwise)
            (branches_flows seen env bs labels.branches labels.last k.0 law.branches)
            (suite_flows (texts (bound_by_branches bs) ++ seen) labels.last o labels.otherwise labels.out k.1
            law.otherwise)

        pub suite_flows : (seen : NamesBound) (env : Env) (b : Stmts) (labels : SuiteLabels b) (out : Option Env)
            → SuiteRegular asked b labels → LawfulSuite m ctx declared returned seen env b labels out
            → FlowsRegular asked (coded_in_suite A1 b labels)
        suite_flows seen env no_stmts labels out k law = tt
        suite_flows seen env (more_stmts s rest) labels out k law =
            behind_flows seen env s rest labels.first (λ o l. stmt_flows seen env s labels.first o k.0 l)
            (λ seen' env' labels' o k' l. suite_flows seen' env' rest labels' o k' l) (completes s) labels.behind
            out k.1 law

        branches_flows : (seen : NamesBound) (env : Env) (bs : Branches) (labels : BranchesLabels bs) (last : Env)
            → BranchesRegular asked bs labels → LawfulBranches m ctx declared returned seen env bs labels last
            → FlowsRegular asked (coded_in_branches A1 bs labels)
        branches_flows seen env no_branches labels last k law = tt
        branches_flows seen env (more_branches c b rest) labels last k law =
            flows_append asked (coded_in A1 c labels.condition) (coded_in_suite A1 b labels.body ++ coded_in_branches A1
            rest labels.rest) (expression_flows asked ctx declared env None c labels.condition k.0 law.condition)
            (flows_append asked (coded_in_suite A1 b labels.body) (coded_in_branches A1 rest labels.rest)
            (suite_flows seen (narrow ctx.bases declared ctx.resolve true c env) b labels.body labels.out k.1.0
            law.body)
            (branches_flows (texts (bound_by b) ++ seen) (narrow ctx.bases declared ctx.resolve false c env) rest
            labels.rest last k.1.1 law.others))
