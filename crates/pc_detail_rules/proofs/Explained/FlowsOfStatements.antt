-- Each flow in a statement, and at a default, has a sink, if types are known at their places.
use Rattle.std.proofs.Common.{◌≡◌, ℕ, List, [], ◌∷◌, ◌++◌, Bool as Test, true, false, refl, sym, ◌∙◌, subst}
use Rattle.std.proofs.Common.{Contains}
use Rattle.std.specs.List.{AllByRecursion}
use Rattle.std.specs.Prelude.{if◌then◌else◌, flat_map, codes, Option, Some, None}
use Rattle.pc_source.specs.declared.place.Place.{Place}
use Rattle.pc_tree.specs.declared.code.Code.{Code}
use Rattle.pc_tree.specs.Depth.{place_of}
use Rattle.pc_tree.specs.Tree.{Name, Expr, Exprs, Keywords, name}
use Rattle.pc_tree.specs.Tree.{call}
use Rattle.pc_tree.specs.Tree.{Ann, Literal, Param, Target, to_name, to_attribute, to_index, Stmt, Stmts}
use Rattle.pc_tree.specs.Tree.{Branches, pass, breaks, continues, returns, asserts, annotated, assigns, evaluates}
use Rattle.pc_tree.specs.Tree.{while_loop, for_loop, conditional, no_stmts, more_stmts, no_branches, more_branches}
use Rattle.pc_tree.specs.Tree.{Module}
use Rattle.pc_tree.specs.Stopping.{bound_by_stmt, bound_by, bound_by_branches}
use Rattle.pc_scope.specs.declared.resolution.Builtin.TheVariants as builtin
use Rattle.pc_scope.specs.declared.resolution.NameMeaning.{NameMeaning}
use Rattle.pc_scope.specs.declared.resolution.NameMeaning.TheVariants as meaning
use Rattle.pc_scope.specs.Bindings.{texts, Body}
use Rattle.pc_scope.specs.Bindings.{bodies}
use Rattle.pc_scope.specs.Expressions.{is_named, is_instance_test, parts_in_all}
use Rattle.pc_scope.specs.Expressions.{parts_in_keywords, option_exprs, target_exprs, exprs_in, exprs_in_all}
use Rattle.pc_scope.specs.Expressions.{exprs_in_branches}
use Rattle.pc_scope.specs.Reach.{completes}
use Rattle.pc_scope.specs.Resolution.{locals, resolve}
use Rattle.pc_types.specs.Tree.{Tree, Any, Int, NoneType}
use Rattle.pc_types.specs.Shape.{members}
use Rattle.pc_annotations.specs.Bases.{bases_of}
use Rattle.pc_flow.specs.Environment.{Env, declared_type}
use Rattle.pc_rules.specs.Operations.{Label, clean}
use Rattle.pc_rules.specs.Context.{Context, FlowsInto}
use Rattle.pc_rules.specs.Calls.{arguments_given, CallOffer, positional_seat, is_range, range_signature}
use Rattle.pc_rules.specs.Calls.{range_offers, range_item, builtin_signature}
use Rattle.pc_rules.specs.Labels.{FlowLabels, Labels, whole_label, type_of}
use Rattle.pc_rules.specs.Lawful.{Lawful}
use Rattle.pc_rules.specs.Signatures.{body_context, literal_type, literal_place, LawfulDefault}
use Rattle.pc_rules.specs.Signatures.{ParamsLabels, LawfulParams, binds_name}
use Rattle.pc_module_rules.specs.FlowsOfExpressions.{coded_at, coded_in, coded_in_arguments}
use Rattle.pc_module_rules.specs.FlowsOfExpressions.{coded_in_keywords}
use Rattle.pc_module_rules.specs.FlowsOfModules.{coded_at_default, coded_in_params}
use Rattle.pc_module_rules.specs.FlowsOfStatements.{coded_in_option, coded_in_value, coded_in_target, coded_in_stmt}
use Rattle.pc_module_rules.specs.FlowsOfStatements.{coded_in_suite, coded_in_branches}
use Rattle.pc_module_rules.specs.StatementLabels.{OptionLabels, TargetLabels, StmtLabels, SuiteLabels, BranchesLabels}
use Rattle.pc_module_rules.specs.StatementLabels.{Behind, Following, BehindRule, behind_list}
use Rattle.pc_module_rules.specs.Statements.{NamesBound, LawfulRange, LawfulValues, RangeOrValues, LawfulIterable}
use Rattle.pc_module_rules.specs.Statements.{LawfulBinding, LawfulTarget, AreUndeclared, LawfulAssignment}
use Rattle.pc_module_rules.specs.Statements.{LawfulAnnotated, LawfulReturn, LawfulOption, LawfulStmt, LawfulSuite}
use Rattle.pc_module_rules.specs.Statements.{LawfulBranches}
use Rattle.pc_module_rules.specs.TypesOfExpressions.{TypeAt, type_here, types_inside}
use Rattle.pc_module_rules.specs.TypesOfExpressions.{types_in_arguments, types_in_keywords, types_in}
use Rattle.pc_module_rules.specs.TypesOfExpressions.{types_of_arguments}
use Rattle.pc_module_rules.specs.TypesOfStatements.{types_in_option, types_in_target, types_in_iterable, types_in_stmt}
use Rattle.pc_module_rules.specs.TypesOfStatements.{types_in_suite, types_in_branches}
use Rattle.pc_module_rules.proofs.RangeNames.{range_named}
use Rattle.pc_detail_texts.specs.Details.{Sink, FunctionName, called_builtin, a_local, a_return}
use Rattle.pc_detail_texts.specs.Details.{a_loop_target, a_parameter_default}
use Rattle.pc_detail_rules.specs.Calls.{callees_of, named_callees}
use Rattle.pc_detail_rules.specs.Facts.{Known}
use Rattle.pc_detail_rules.specs.Nodes.{stmts_in, stmts_in_suite}
use Rattle.pc_detail_rules.specs.Nodes.{stmts_in_branches, function_name}
use Rattle.pc_detail_rules.specs.Sinks.{SinkAt, only_sink, positional_sinks, named_sinks}
use Rattle.pc_detail_rules.specs.Sinks.{item_store, field_store}
use Rattle.pc_detail_rules.specs.Sinks.{default_sink, parameter_default}
use Rattle.pc_detail_rules.specs.Sinks.{sinks_of_stmt}
use Rattle.pc_detail_rules.proofs.Explained.Lists.{all_left, all_right}
use Rattle.pc_detail_rules.proofs.Explained.Sinks.{AreIn, only_there, flows_sunk, none_sunk}
use Rattle.pc_detail_rules.proofs.Explained.Sinks.{fields_sunk, keys_sunk, items_stored}
use Rattle.pc_detail_rules.proofs.Explained.Sinks.{argument_seats}
use Rattle.pc_detail_rules.proofs.Explained.Sinks.{keyword_seats, AreTaken, one_taken}
use Rattle.pc_detail_rules.proofs.Explained.Statements.{range_is, in_context}
use Rattle.pc_detail_rules.proofs.Explained.Sinks.{Go, both}
use Rattle.pc_detail_rules.proofs.Explained.FlowsOfExpressions.{IsKnown, HasSinks, HasAll, numbered, arguments_sunk, keywords_sunk, whole_sunk}

module _ (m : Module) (known : Known) (code : Code) (ss : List SinkAt) where
  abbrev AreKnown : List TypeAt → Type 0
  AreKnown ts = AllByRecursion (IsKnown known) ts

  -- ---- statements

  module _ (constants : List Tree) (b : Body) (of : Contains (bodies m) b) (declared : List Tree) where
    abbrev Ctx : Context
    Ctx = body_context m constants (locals b.owner b.function)

    abbrev shown : FunctionName
    shown = function_name m b

    abbrev Wholes : List Expr → Type 0
    Wholes es = AllByRecursion (HasAll m known ss b.owner) es

    -- the sinks of a statement are among all
    abbrev pub StmtSinks : Stmt → Type 0
    StmtSinks s = AreIn ss (sinks_of_stmt m known b s)

    abbrev AreStmts : List Stmt → Type 0
    AreStmts xs = AllByRecursion StmtSinks xs

    of_expr : (env : Env) (want : Option Tree) (e : Expr) (labels : Labels e) → Lawful Ctx declared env want e labels
        → AreKnown (types_in true e labels) → HasAll m known ss b.owner e → Go ss (coded_in code e labels)
    of_expr env want e labels law typed has =
        whole_sunk m known code ss b.owner Ctx (in_context m known constants b of) declared env want e labels law typed has

    -- flows into one type, of a value with a sink that takes any
    only_sunk : (label : Label) (t : Tree) (flows : FlowLabels) (p : Place) (s : Sink Tree) (a : Option Ann)
        → Contains ss (only_sink p s a) → FlowsInto (bases_of m) label (t ∷ []) flows → Go ss (coded_at code p flows)
    only_sunk label t flows p s a has law = flows_sunk ss code (bases_of m) label (t ∷ []) flows p law
        (only_there ss p s t a has, tt)

    -- ---- iterables

    range_sunk : (env : Env) (p : Place) (n : Name) (args : Exprs) (kws : Keywords)
        (labels : Labels (call p (name n) args kws)) → is_range (Ctx.resolve n.text) ≡ true
        → LawfulRange m Ctx declared env (name n) args kws p labels
        → AreKnown (types_of_arguments true (call p (name n) args kws) labels) → HasAll m known ss b.owner (call p (name n) args kws)
        → Go ss (coded_in code (call p (name n) args kws) labels)
    range_sunk env p n args kws labels means law typed has =
        let is_test = is_instance_test (name n) args kws in
        let g = arguments_given args kws in
        let owner = b.owner in
        let ctx = in_context m known constants b of in
        let cs = callees_of m known (resolve m owner) g.positional (name n) in
        let os = range_offers g in
        let in_args = types_in_arguments true is_test args labels.arguments in
        let in_kws = types_in_keywords true kws labels.keywords in
        let built : resolve m owner n.text ≡ meaning.Builtin builtin.Range = ctx.resolves n.text
        ∙ range_is (Ctx.resolve n.text) means in
        let each : AreTaken ss cs (flat_map (λ (o : CallOffer). o.calls) os) =
        subst (λ (r : NameMeaning). AreTaken ss (named_callees m g.positional (known.types n.place) r)
        (flat_map (λ (o : CallOffer). o.calls) os)) (sym built)
        (one_taken ss g range_signature (builtin_signature (Int ∷ []) Any) (called_builtin (codes "range")) [] refl) in
        let others = has.1.1 in
        both ss (coded_in_arguments code is_test args labels.arguments) (coded_in_keywords code kws labels.keywords)
        (arguments_sunk m known code ss owner Ctx ctx declared env (positional_seat os) args labels.arguments law.arguments
        (argument_seats ss cs os each 0 (positional_seat os) (numbered os) args
        (all_left (Contains ss) (positional_sinks cs 0 args) (named_sinks cs kws) has.0)) is_test
        (all_left (IsKnown known) in_args in_kws typed)
        (all_left (HasSinks m known ss owner) (parts_in_all false args) (parts_in_keywords false kws) others))
        (keywords_sunk m known code ss owner Ctx ctx declared env _ [] kws labels.keywords law.keywords
        (keyword_seats ss cs os each [] kws
        (all_right (Contains ss) (positional_sinks cs 0 args) (named_sinks cs kws) has.0))
        (all_right (IsKnown known) in_args in_kws typed)
        (all_right (HasSinks m known ss owner) (parts_in_all false args) (parts_in_keywords false kws) others))

    iterable_sunk : (env : Env) (e : Expr) (labels : Labels e) (item : Label)
        → LawfulIterable m Ctx declared env e labels item → AreKnown (types_in_iterable true e labels)
        → HasAll m known ss b.owner e → Go ss (coded_in code e labels)
    iterable_sunk env (call p (name n) args kws) labels item law typed has =
        go (is_range (Ctx.resolve n.text)) refl (is_named (codes "range") (name n)) refl
        (range_named m b.owner b.function n.text) law typed
      where
        go : (r : Test) → is_range (Ctx.resolve n.text) ≡ r → (s : Test) → is_named (codes "range") (name n) ≡ s
            → is_range (Ctx.resolve n.text) ≡ is_named (codes "range") (name n)
            → RangeOrValues m Ctx declared r (LawfulRange m Ctx declared env (name n) args kws p labels
            × (item ≡ range_item (arguments_given args kws))) (LawfulValues m Ctx declared env
            (call p (name n) args kws) labels item)
            → AreKnown (if s then types_of_arguments true (call p (name n) args kws) labels
            else types_in true (call p (name n) args kws) labels) → Go ss (coded_in code (call p (name n) args kws) labels)
        go true e true i same law typed = range_sunk env p n args kws labels e law.0 typed has
        go true e false i same law typed = absurd (cc (sym e ∙ same ∙ i))
        go false e true i same law typed = absurd (cc (sym e ∙ same ∙ i))
        go false e false i same law typed = of_expr env None (call p (name n) args kws) labels law.0 typed has
    iterable_sunk env e labels item law typed has = of_expr env None e labels law.0 typed has

    -- ---- values that are bound and stored

    unbound_sunk : (env : Env) (e : Expr) (labels : Labels e) (flows : FlowLabels) (p : Place)
        → Lawful Ctx declared env None e labels → flows ≡ [] → AreKnown (types_in true e labels) → HasAll m known ss b.owner e
        → Go ss (coded_in code e labels ++ coded_at code p flows)
    unbound_sunk env e labels flows p law none typed has = both ss (coded_in code e labels) (coded_at code p flows)
        (of_expr env None e labels law typed has) (none_sunk ss code flows p none)

    binding_sunk : (env : Env) (seen : NamesBound) (n : Name) (r : NameMeaning) (annotation : Option Tree) (e : Expr)
        (labels : Labels e) (flows : FlowLabels) (after : Env) (s : Sink Tree) (written : Option Ann)
        → LawfulBinding m Ctx declared env seen n r annotation e labels flows after
        → Contains ss (only_sink (place_of e) s written) → AreKnown (types_in true e labels) → HasAll m known ss b.owner e
        → Go ss (coded_in code e labels ++ coded_at code (place_of e) flows)
    binding_sunk env seen n (meaning.Local x) annotation e labels flows after s written law at typed has =
        both ss (coded_in code e labels) (coded_at code (place_of e) flows) (of_expr env _ e labels law.value typed has)
        (only_sunk (whole_label e labels) (declared_type declared x) flows (place_of e) s written at law.flow)
    binding_sunk env seen n (meaning.Const x) annotation e labels flows after s written law at typed has =
        unbound_sunk env e labels flows (place_of e) law.value law.flow typed has
    binding_sunk env seen n (meaning.Func x) annotation e labels flows after s written law at typed has =
        unbound_sunk env e labels flows (place_of e) law.value law.flow typed has
    binding_sunk env seen n (meaning.Class x) annotation e labels flows after s written law at typed has =
        unbound_sunk env e labels flows (place_of e) law.value law.flow typed has
    binding_sunk env seen n (meaning.Builtin x) annotation e labels flows after s written law at typed has =
        unbound_sunk env e labels flows (place_of e) law.value law.flow typed has
    binding_sunk env seen n meaning.None annotation e labels flows after s written law at typed has =
        unbound_sunk env e labels flows (place_of e) law.value law.flow typed has

    annotated_sunk : (env : Env) (seen : NamesBound) (p : Place) (n : Name) (a : Ann) (e : Option Expr)
        (labels : OptionLabels e) (flows : FlowLabels) (after : Env)
        → LawfulAnnotated m Ctx declared env seen n a e labels flows after → StmtSinks (annotated p n a e)
        → AreKnown (types_in_option true e labels) → Wholes (option_exprs e)
        → Go ss (coded_in_value code p e labels flows)
    annotated_sunk env seen p n a None labels flows after law at typed has = none_sunk ss code flows p law.1
    annotated_sunk env seen p n a (Some e) labels flows after law at typed has =
        binding_sunk env seen n (Ctx.resolve n.text) _ e labels flows after (a_local n.text) _ law at.0 typed has.0

    object_types : (o : Expr) (labels : Labels o) → AreKnown (types_in true o labels)
        → known.types (place_of o) ≡ type_of o labels
    object_types o labels typed = (all_right (IsKnown known) (types_inside true o labels) (type_here o labels) typed).0

    assigned_sunk : (env : Env) (seen : NamesBound) (p : Place) (t : Target) (target : TargetLabels t) (e : Expr)
        (labels : Labels e) (flows : FlowLabels) (after : Env)
        → LawfulAssignment m Ctx declared env seen t target e labels flows after → StmtSinks (assigns p t e)
        → AreKnown (types_in_target true t target ++ types_in true e labels) → Wholes (e ∷ target_exprs t)
        → Go ss (coded_in_target code t target ++ (coded_in code e labels ++ coded_at code (place_of e) flows))
    assigned_sunk env seen p (to_name n) target e labels flows after law at typed has =
        binding_sunk env seen n (Ctx.resolve n.text) None e labels flows after (a_local n.text) _ law at.0 typed has.0
    assigned_sunk env seen p (to_attribute q o n) target e labels flows after law at typed has =
        let in_object = types_in true o target.object in
        let object = all_left (IsKnown known) in_object (types_in true e labels) typed in
        let into = fields_sunk ss m (place_of e) n.text (members (type_of o target.object))
        (subst (λ (x : Tree). AreIn ss (flat_map (field_store m (place_of e) n.text) (members x)))
        (object_types o target.object object) at) in
        both ss (coded_in code o target.object) (coded_in code e labels ++ coded_at code (place_of e) flows)
        (of_expr env None o target.object law.0.object object has.1.0)
        (both ss (coded_in code e labels) (coded_at code (place_of e) flows)
        (of_expr env _ e labels law.0.value (all_right (IsKnown known) in_object (types_in true e labels) typed) has.0)
        (flows_sunk ss code (bases_of m) (whole_label e labels) _ flows (place_of e) law.0.flow into))
    assigned_sunk env seen p (to_index q o i) target e labels flows after law at typed has =
        let in_object = types_in true o target.object in
        let in_key = types_in true i target.key in
        let in_target = all_left (IsKnown known) (in_object ++ in_key) (types_in true e labels) typed in
        let object = all_left (IsKnown known) in_object in_key in_target in
        let us = members (type_of o target.object) in
        let stores : AreIn ss (flat_map (item_store (place_of i) (place_of e)) us) =
        subst (λ (x : Tree). AreIn ss (flat_map (item_store (place_of i) (place_of e)) (members x)))
        (object_types o target.object object) at in
        both ss (coded_in code o target.object ++ (coded_in code i target.key ++ coded_at code (place_of i) target.key_flows))
        (coded_in code e labels ++ coded_at code (place_of e) flows)
        (both ss (coded_in code o target.object) (coded_in code i target.key ++ coded_at code (place_of i) target.key_flows)
        (of_expr env None o target.object law.0.object object has.1.0)
        (both ss (coded_in code i target.key) (coded_at code (place_of i) target.key_flows)
        (of_expr env None i target.key law.0.key (all_right (IsKnown known) in_object in_key in_target) has.1.1.0)
        (flows_sunk ss code (bases_of m) (whole_label i target.key) _ target.key_flows (place_of i) law.0.key_flow
        (keys_sunk ss (place_of i) (place_of e) us stores))))
        (both ss (coded_in code e labels) (coded_at code (place_of e) flows)
        (of_expr env _ e labels law.0.value (all_right (IsKnown known) (in_object ++ in_key) (types_in true e labels) typed) has.0)
        (flows_sunk ss code (bases_of m) (whole_label e labels) _ flows (place_of e) law.0.flow
        (items_stored ss (place_of i) (place_of e) us stores)))

    target_sunk : (seen : NamesBound) (n : Name) (r : NameMeaning) (head : Env) (item : Label) (flows : FlowLabels)
        (inside : Env) (p : Place) (s : Sink Tree) (a : Option Ann)
        → LawfulTarget m Ctx declared seen n r head item flows inside
        → Contains ss (only_sink p s a) → Go ss (coded_at code p flows)
    target_sunk seen n (meaning.Local x) head item flows inside p s a law at =
        only_sunk (clean item.type) (declared_type declared x) flows p s a at law.flow
    target_sunk seen n (meaning.Const x) head item flows inside p s a law at = none_sunk ss code flows p law.0
    target_sunk seen n (meaning.Func x) head item flows inside p s a law at = none_sunk ss code flows p law.0
    target_sunk seen n (meaning.Class x) head item flows inside p s a law at = none_sunk ss code flows p law.0
    target_sunk seen n (meaning.Builtin x) head item flows inside p s a law at = none_sunk ss code flows p law.0
    target_sunk seen n meaning.None head item flows inside p s a law at = none_sunk ss code flows p law.0

    -- ---- all statements

    module _ (returned : Tree) where
      returned_sunk : (env : Env) (p : Place) (e : Option Expr) (labels : OptionLabels e) (flows : FlowLabels)
          → LawfulReturn m Ctx declared returned env e labels flows → StmtSinks (returns p e)
          → AreKnown (types_in_option true e labels) → Wholes (option_exprs e)
          → Go ss (coded_in_value code p e labels flows)
      returned_sunk env p None labels flows law at typed has =
          only_sunk (clean NoneType) returned flows p (a_return shown) b.function.returns at.0 law
      returned_sunk env p (Some e) labels flows law at typed has =
          both ss (coded_in code e labels) (coded_at code (place_of e) flows)
          (of_expr env (Some returned) e labels law.0 typed has.0)
          (only_sunk (whole_label e labels) returned flows (place_of e) (a_return shown) b.function.returns at.0 law.1)

      message_sunk : (env : Env) (e : Option Expr) (labels : OptionLabels e)
          → LawfulOption m Ctx declared returned env e labels → AreKnown (types_in_option true e labels)
          → Wholes (option_exprs e) → Go ss (coded_in_option code e labels)
      message_sunk env None labels law typed has = tt
      message_sunk env (Some e) labels law typed has = of_expr env None e labels law typed has.0

      behind_sunk : (seen : NamesBound) (env : Env) (st : Stmt) (rest : Stmts) (c : Test) (first : StmtLabels st)
          (r : Behind c (Following (SuiteLabels rest))) (out : Option Env)
          → BehindRule c r (λ x. LawfulStmt m Ctx declared returned seen env st first (Some x.env)
          × LawfulSuite m Ctx declared returned (texts (bound_by_stmt st) ++ seen) x.env rest x.rest out)
          (LawfulStmt m Ctx declared returned seen env st first None
          × AreUndeclared m Ctx declared (texts (bound_by_stmt st) ++ seen) (bound_by rest) × (out ≡ None))
          → AreKnown (types_in_stmt true st first ++ behind_list c r (λ x. types_in_suite true rest x.rest))
          → ((o : Option Env) → LawfulStmt m Ctx declared returned seen env st first o
          → AreKnown (types_in_stmt true st first) → Go ss (coded_in_stmt code st first))
          → ((x : Env) (k : SuiteLabels rest)
          → LawfulSuite m Ctx declared returned (texts (bound_by_stmt st) ++ seen) x rest k out
          → AreKnown (types_in_suite true rest k) → Go ss (coded_in_suite code rest k))
          → Go ss (coded_in_stmt code st first ++ behind_list c r (λ x. coded_in_suite code rest x.rest))
      behind_sunk seen env st rest true first r out law typed now next =
          let here = types_in_stmt true st first in
          let later = types_in_suite true rest r.rest in
          both ss (coded_in_stmt code st first) (coded_in_suite code rest r.rest)
          (now (Some r.env) law.0 (all_left (IsKnown known) here later typed))
          (next r.env r.rest law.1 (all_right (IsKnown known) here later typed))
      behind_sunk seen env st rest false first r out law typed now next =
          both ss (coded_in_stmt code st first) [] (now None law.0 (all_left (IsKnown known) (types_in_stmt true st first) [] typed)) tt

      mutual
        stmt_sunk : (seen : NamesBound) (env : Env) (st : Stmt) (labels : StmtLabels st) (out : Option Env)
            → LawfulStmt m Ctx declared returned seen env st labels out → AreStmts (stmts_in st)
            → AreKnown (types_in_stmt true st labels) → Wholes (exprs_in false st) → Go ss (coded_in_stmt code st labels)
        stmt_sunk seen env (pass p) labels out law at typed has = tt
        stmt_sunk seen env (breaks p) labels out law at typed has = tt
        stmt_sunk seen env (continues p) labels out law at typed has = tt
        stmt_sunk seen env (returns p e) labels out law at typed has =
            returned_sunk env p e labels.value labels.flows law.0 at.0 typed has
        stmt_sunk seen env (asserts p c e) labels out law at typed has =
            let in_condition = types_in true c labels.condition in
            let in_message = types_in_option true e labels.message in
            both ss (coded_in code c labels.condition) (coded_in_option code e labels.message)
            (of_expr env None c labels.condition law.condition (all_left (IsKnown known) in_condition in_message typed) has.0)
            (message_sunk _ e labels.message law.message (all_right (IsKnown known) in_condition in_message typed) has.1)
        stmt_sunk seen env (annotated p n a e) labels out law at typed has =
            annotated_sunk env seen p n a e labels.value labels.flows law.after law.binding at.0 typed has
        stmt_sunk seen env (assigns p t e) labels out law at typed has = assigned_sunk env seen p t labels.target e
            labels.value labels.flows law.after law.assignment at.0 typed has
        stmt_sunk seen env (evaluates p e) labels out law at typed has = of_expr env None e labels law.0 typed has.0
        stmt_sunk seen env (while_loop p c b) labels out law at typed has =
            let in_condition = types_in true c labels.condition in
            let in_body = types_in_suite true b labels.body in
            both ss (coded_in code c labels.condition) (coded_in_suite code b labels.body)
            (of_expr labels.head None c labels.condition law.condition (all_left (IsKnown known) in_condition in_body typed) has.0)
            (suite_sunk seen _ b labels.body labels.out law.body at.1 (all_right (IsKnown known) in_condition in_body typed) has.1)
        stmt_sunk seen env (for_loop p n e b) labels out law at typed has =
            let in_head = types_in_iterable true e labels.iterable in
            let in_body = types_in_suite true b labels.body in
            both ss (coded_in code e labels.iterable)
            (coded_at code (place_of e) labels.flows ++ coded_in_suite code b labels.body)
            (iterable_sunk env e labels.iterable labels.item law.iterable (all_left (IsKnown known) in_head in_body typed) has.0)
            (both ss (coded_at code (place_of e) labels.flows) (coded_in_suite code b labels.body)
            (target_sunk seen n (Ctx.resolve n.text) labels.head labels.item labels.flows law.inside (place_of e)
            (a_loop_target n.text) _ law.target at.0.0)
            (suite_sunk (n.text ∷ seen) law.inside b labels.body labels.out law.body at.1
            (all_right (IsKnown known) in_head in_body typed) has.1))
        stmt_sunk seen env (conditional p bs o) labels out law at typed has =
            let in_branches = types_in_branches true bs labels.branches in
            let in_else = types_in_suite true o labels.otherwise in
            both ss (coded_in_branches code bs labels.branches) (coded_in_suite code o labels.otherwise)
            (branches_sunk seen env bs labels.branches labels.last law.branches
            (all_left StmtSinks (stmts_in_branches bs) (stmts_in_suite o) at.1)
            (all_left (IsKnown known) in_branches in_else typed)
            (all_left (HasAll m known ss b.owner) (exprs_in_branches false bs) (exprs_in_all false o) has))
            (suite_sunk (texts (bound_by_branches bs) ++ seen) labels.last o labels.otherwise labels.out law.otherwise
            (all_right StmtSinks (stmts_in_branches bs) (stmts_in_suite o) at.1)
            (all_right (IsKnown known) in_branches in_else typed)
            (all_right (HasAll m known ss b.owner) (exprs_in_branches false bs) (exprs_in_all false o) has))

        pub suite_sunk : (seen : NamesBound) (env : Env) (s : Stmts) (labels : SuiteLabels s) (out : Option Env)
            → LawfulSuite m Ctx declared returned seen env s labels out → AreStmts (stmts_in_suite s)
            → AreKnown (types_in_suite true s labels) → Wholes (exprs_in_all false s) → Go ss (coded_in_suite code s labels)
        suite_sunk seen env no_stmts labels out law at typed has = tt
        suite_sunk seen env (more_stmts st rest) labels out law at typed has = behind_sunk seen env st rest (completes st)
            labels.first labels.behind out law typed
            (λ o l t. stmt_sunk seen env st labels.first o l (all_left StmtSinks (stmts_in st) (stmts_in_suite rest) at) t
            (all_left (HasAll m known ss b.owner) (exprs_in false st) (exprs_in_all false rest) has))
            (λ x k l t. suite_sunk (texts (bound_by_stmt st) ++ seen) x rest k out l
            (all_right StmtSinks (stmts_in st) (stmts_in_suite rest) at) t
            (all_right (HasAll m known ss b.owner) (exprs_in false st) (exprs_in_all false rest) has))

        branches_sunk : (seen : NamesBound) (env : Env) (bs : Branches) (labels : BranchesLabels bs) (last : Env)
            → LawfulBranches m Ctx declared returned seen env bs labels last → AreStmts (stmts_in_branches bs)
            → AreKnown (types_in_branches true bs labels) → Wholes (exprs_in_branches false bs)
            → Go ss (coded_in_branches code bs labels)
        branches_sunk seen env no_branches labels last law at typed has = tt
        branches_sunk seen env (more_branches c s rest) labels last law at typed has =
            let in_condition = types_in true c labels.condition in
            let in_body = types_in_suite true s labels.body in
            let in_rest = types_in_branches true rest labels.rest in
            let later = all_right (IsKnown known) in_condition (in_body ++ in_rest) typed in
            both ss (coded_in code c labels.condition)
            (coded_in_suite code s labels.body ++ coded_in_branches code rest labels.rest)
            (of_expr env None c labels.condition law.condition (all_left (IsKnown known) in_condition (in_body ++ in_rest) typed)
            has.0) (both ss (coded_in_suite code s labels.body) (coded_in_branches code rest labels.rest)
            (suite_sunk seen _ s labels.body labels.out law.body
            (all_left StmtSinks (stmts_in_suite s) (stmts_in_branches rest) at) (all_left (IsKnown known) in_body in_rest later)
            (all_left (HasAll m known ss b.owner) (exprs_in_all false s) (exprs_in_branches false rest) has.1))
            (branches_sunk (texts (bound_by s) ++ seen) _ rest labels.rest last law.others
            (all_right StmtSinks (stmts_in_suite s) (stmts_in_branches rest) at) (all_right (IsKnown known) in_body in_rest later)
            (all_right (HasAll m known ss b.owner) (exprs_in_all false s) (exprs_in_branches false rest) has.1)))

  -- ---- defaults

  pub default_sunk : (binds : Test) (l : Option Literal) (t : Tree) (flows : FlowLabels) (s : Sink Tree) (a : Option Ann)
      → LawfulDefault (bases_of m) binds l t flows → AreIn ss (default_sink s a l) → Go ss (coded_at_default code l flows)
  default_sunk binds None t flows s a law at = tt
  default_sunk false (Some l) t flows s a law at = none_sunk ss code flows (literal_place l) law
  default_sunk true (Some l) t flows s a law at = flows_sunk ss code (bases_of m) (clean (literal_type l)) (t ∷ []) flows
      (literal_place l) law (only_there ss (literal_place l) s t a at.0, tt)

  pub params_sunk : (fname : FunctionName) (before : List (List ℕ)) (ps : List Param) (k : ParamsLabels ps)
      → LawfulParams m before ps k → AreIn ss (flat_map (parameter_default fname) ps) → Go ss (coded_in_params code ps k)
  params_sunk fname before [] k law at = tt
  params_sunk fname before (p ∷ ps) k law at =
      let others = flat_map (parameter_default fname) ps in
      both ss (coded_at_default code p.default k.default) (coded_in_params code ps k.rest)
      (default_sunk (binds_name before p.name) p.default _ k.default (a_parameter_default p.name.text fname) p.annotation
      law.default
      (all_left (Contains ss) (parameter_default fname p) others at))
      (params_sunk fname (p.name.text ∷ before) ps k.rest law.rest
      (all_right (Contains ss) (parameter_default fname p) others at))
