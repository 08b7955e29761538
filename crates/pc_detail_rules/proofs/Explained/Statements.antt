-- Each finding that labels say in a statement has a detail, flows apart.
use Rattle.std.proofs.Common.{◌≡◌, List, [], ◌∷◌, ◌++◌, Bool as Test, true, false, refl, sym, ap, ◌∙◌, subst, map}
use Rattle.std.proofs.Common.{inl, inr, Contains}
use Rattle.std.proofs.lemmas.List.Folds.{flat_map-map}
use Rattle.std.specs.List.{AllByRecursion}
use Rattle.std.specs.Prelude.{◌⊎◌, not, if◌then◌else◌, flat_map, codes, is_some, Option, Some, None}
use Rattle.pc_source.specs.declared.place.Place.{Place}
use Rattle.pc_tree.proofs.Among.{none_among}
use Rattle.pc_tree.specs.declared.code.Code.{Code}
use Rattle.pc_tree.specs.declared.code.Code.TheVariants.{A5, E14, E23, E24}
use Rattle.pc_tree.specs.declared.code.Finding.{Finding}
use Rattle.pc_tree.specs.Code.{finding}
use Rattle.pc_tree.specs.Depth.{place_of, place_of_target}
use Rattle.pc_tree.specs.Stopping.{bound_by_stmt, bound_by, bound_by_branches}
use Rattle.pc_tree.specs.Tree.{Name, Expr, Exprs, Keywords, name, call, Ann, Target, to_name, to_attribute, to_index}
use Rattle.pc_tree.specs.Tree.{Stmt, Stmts, Branches, pass, breaks, continues, returns, asserts, annotated, assigns}
use Rattle.pc_tree.specs.Tree.{evaluates, while_loop, for_loop, conditional, no_stmts, more_stmts, no_branches}
use Rattle.pc_tree.specs.Tree.{more_branches, Module}
use Rattle.pc_scope.specs.declared.resolution.Builtin.TheVariants as builtin
use Rattle.pc_scope.specs.declared.resolution.NameMeaning.{NameMeaning}
use Rattle.pc_scope.specs.declared.resolution.NameMeaning.TheVariants as meaning
use Rattle.pc_scope.specs.Bindings.{texts, Body, bodies}
use Rattle.pc_scope.specs.Expressions.{is_named, is_instance_test, parts_in, parts_in_all, parts_in_keywords, exprs_in}
use Rattle.pc_scope.specs.Expressions.{exprs_in_all, exprs_in_branches, option_exprs, target_exprs}
use Rattle.pc_scope.specs.Reach.{completes}
use Rattle.pc_scope.specs.Resolution.{resolve, resolve_among, locals, locals_of_function}
use Rattle.pc_types.specs.Tree.{Tree, Any, Int, NoneType, Class, ListOf, DictOf}
use Rattle.pc_types.specs.Shape.{members}
use Rattle.pc_class.specs.Facts.{TypedParameter, Method, classes_of, class_facts_at, field_by_name, method_by_name}
use Rattle.pc_flow.specs.Environment.{Env, declared_type}
use Rattle.pc_flow.specs.Narrowing.{narrow}
use Rattle.pc_rules.specs.Operations.{Label, clean, offers_label, StoreOffer, store_found, store_attribute_member}
use Rattle.pc_rules.specs.Operations.{store_index_member, store_codes, iterate_member}
use Rattle.pc_rules.specs.Context.{Context, FlowsInto}
use Rattle.pc_rules.specs.Calls.{arguments_given, is_suited, builtin_signature}
use Rattle.pc_rules.specs.Calls.{call_label, is_range, range_signature, range_offers, range_item, member_rule}
use Rattle.pc_rules.specs.Labels.{FlowLabels, Labels, whole_label, type_of, IsFoundAt, IsFlowAt, IsCodeAt, second_place}
use Rattle.pc_rules.specs.Labels.{Finds}
use Rattle.pc_rules.specs.Lawful.{Lawful}
use Rattle.pc_rules.specs.Signatures.{body_context}
use Rattle.pc_module_rules.specs.StatementLabels.{OptionLabels, TargetLabels, StmtLabels, SuiteLabels, BranchesLabels}
use Rattle.pc_module_rules.specs.StatementLabels.{Behind, Following, BehindRule, behind_list}
use Rattle.pc_module_rules.specs.Statements.{NamesBound, is_first, LawfulRange, LawfulValues, RangeOrValues, LawfulIterable}
use Rattle.pc_module_rules.specs.Statements.{LawfulBinding, LawfulTarget, AreUndeclared, attribute_offers, index_offers}
use Rattle.pc_module_rules.specs.Statements.{LawfulStore, LawfulAssignment, LawfulAnnotated, LawfulReturn}
use Rattle.pc_module_rules.specs.Statements.{LawfulOption, LawfulStmt, LawfulSuite, LawfulBranches, OptionFinds}
use Rattle.pc_module_rules.specs.Statements.{option_place, TargetFinds, AnnotationFinds, StmtFinds, SuiteFinds, BranchesFind}
use Rattle.pc_module_rules.specs.TypesOfExpressions.{TypeAt, types_in, types_inside, type_here, types_in_arguments}
use Rattle.pc_module_rules.specs.TypesOfExpressions.{types_in_keywords, types_of_arguments}
use Rattle.pc_module_rules.specs.TypesOfStatements.{types_in_option, types_in_target, types_in_iterable, types_in_stmt}
use Rattle.pc_module_rules.specs.TypesOfStatements.{types_in_suite, types_in_branches}
use Rattle.pc_module_rules.proofs.Functions.{body_is}
use Rattle.pc_module_rules.proofs.PlainCodes.{all_append, in_both}
use Rattle.pc_module_rules.proofs.RangeNames.{range_named}
use Rattle.pc_detail_texts.specs.Details.{Misfit, called_builtin, iterate_range, method_store}
use Rattle.pc_detail_rules.specs.Calls.{misfit, range_misfit, named_callees}
use Rattle.pc_module_rules.specs.TypesOfStatements.{is_range_call}
use Rattle.pc_detail_rules.specs.Facts.{Known}
use Rattle.pc_detail_rules.specs.Nodes.{targets_in, targets_of, ann_of_stmt, stmts_in, stmts_in_suite}
use Rattle.pc_detail_rules.specs.Nodes.{stmts_in_branches}
use Rattle.pc_detail_rules.specs.Operations.{method_of, method_name, iterate_detail}
use Rattle.pc_detail_rules.proofs.CallMisfits.{is_wrong, have_misfit, one_exact}
use Rattle.pc_detail_rules.proofs.Misfits.{misfits_exact}
use Rattle.pc_detail_rules.proofs.Explained.Annotations.{IsWholeAnn, annotation_told}
use Rattle.pc_detail_rules.proofs.Explained.Calls.{IsContext, signature_codes, whole_codes}
use Rattle.pc_detail_rules.proofs.Explained.Codes.{all_joined, iterated_codes}
use Rattle.pc_detail_rules.proofs.Explained.Expressions.{IsHere, code_told, part_told, arguments_told, keywords_told, no_flow}
use Rattle.pc_detail_rules.proofs.Explained.Expressions.{no_flows}
use Rattle.pc_detail_rules.proofs.Explained.Labels.{IsTyped, IsGiven, stored_codes, methods_of_stores}
use Rattle.pc_detail_rules.proofs.Explained.Lists.{IsThere, there_mapped, all_left, all_right, all_pick}
use Rattle.pc_detail_rules.proofs.Explained.Told.{Asked, IsTold, target_rule, target_told}

-- a name that means `range`
pub range_is : (r : NameMeaning) → is_range r ≡ true → r ≡ meaning.Builtin builtin.Range
range_is (meaning.Builtin builtin.Range) e = refl
range_is _ e = absurd (cc e)

-- a call of `range` that does not suit has a misfit
misfit_there : (o : Option Misfit) → false ≡ not (is_some o) → IsThere o
misfit_there None e = absurd (cc e)
misfit_there (Some x) e = refl

module _ (m : Module) (known : Known) (constants : List Tree) (b : Body) (of : Contains (bodies m) b) where
  -- the context of the body
  abbrev pub Ctx : Context
  Ctx = body_context m constants (locals b.owner b.function)

  pub in_context : IsContext m b.owner Ctx
  in_context = record {
    resolves = λ word. ap (λ o. resolve_among m (locals_of_function b.owner o) word) (body_is m b of);
    bases = refl;
    classes = refl;
    functions = refl;
    local = λ word x e. ap (λ o. is_some o) (body_is m b of);
  }

  module _ (declared : List Tree) (f : Finding) (asked : Asked m f.code) (IsBound : Name → Type 0)
      (late : (n : Name) → IsBound n → IsTold m known n.place E24) where
    -- the finding has a detail
    abbrev Goal : Type 0
    Goal = IsTold m known f.place f.code

    -- each part of an expression is one of the body's
    abbrev pub IsWhole : Expr → Type 0
    IsWhole e = AllByRecursion (IsHere m known b.owner Ctx in_context declared f asked) (parts_in false e)

    abbrev AreWhole : List Expr → Type 0
    AreWhole es = AllByRecursion IsWhole es

    abbrev AreTyped : List TypeAt → Type 0
    AreTyped ts = AllByRecursion (IsTyped m known) ts

    -- the targets and annotations of a statement are the module's
    pub record IsStmt (s : Stmt) : Type 0 where
      pub targets : AllByRecursion (Contains (targets_in m)) (targets_of s)
      pub anns : AllByRecursion (IsWholeAnn m known) (ann_of_stmt s)

    abbrev AreStmts : List Stmt → Type 0
    AreStmts ss = AllByRecursion IsStmt ss

    abbrev AreBound : List Name → Type 0
    AreBound ns = AllByRecursion IsBound ns

    of_expr : (env : Env) (want : Option Tree) (e : Expr) (labels : Labels e) → Lawful Ctx declared env want e labels
        → IsWhole e → AreTyped (types_in true e labels) → Finds e labels f → Goal
    of_expr env want e labels law whole typed h =
        part_told m known b.owner Ctx in_context declared f asked env want e labels law whole typed h

    at_expr : (e : Expr) → IsWhole e → (c : Code) → IsGiven m known b.owner Ctx in_context e c
        → f ≡ finding (place_of e) c → Goal
    at_expr e whole c given same =
        code_told m known b.owner Ctx in_context declared f asked e (first e whole) c given same
      where
        first : (e : Expr) → IsWhole e → IsHere m known b.owner Ctx in_context declared f asked e
        first (name n) h = h.0
        first _ h = h.0

    no_flow_here : {X : Type 0} (label : Label) (ts : List Tree) (flows : FlowLabels) (p : Place)
        → FlowsInto Ctx.bases label ts flows → IsFlowAt p flows f → X
    no_flow_here label ts flows p law h = absurd (no_flow Ctx.bases label ts flows p f law asked.plain h)

    -- ---- the iterable of a `for`

    module _ (p : Place) (n : Name) (args : Exprs) (kws : Keywords) (means : is_range (Ctx.resolve n.text) ≡ true) where
      abbrev Range : Expr
      Range = call p (name n) args kws

      abbrev RangeGiven : Code → Type 0
      RangeGiven c = IsGiven m known b.owner Ctx in_context Range c

      wrong_range : is_wrong (range_offers (arguments_given args kws)) ≡ true → RangeGiven E14
      wrong_range w a =
          let g = arguments_given args kws in
          let is : resolve m b.owner n.text ≡ meaning.Builtin builtin.Range = in_context.resolves n.text
          ∙ range_is (Ctx.resolve n.text) means in
          subst (λ (r : NameMeaning). have_misfit g (named_callees m g.positional (known.types n.place) r) ≡ true) (sym is)
          (sym (one_exact g range_signature (builtin_signature (Int ∷ []) Any) (called_builtin (codes "range")) [] refl)
          ∙ w)

      range_told : (env : Env) (labels : Labels Range) → LawfulRange m Ctx declared env (name n) args kws p labels
          → IsWhole Range → AreTyped (types_of_arguments true Range labels) → Finds Range labels f → Goal
      range_told env labels law whole typed h =
          let g = arguments_given args kws in
          let is_test = is_instance_test (name n) args kws in
          let Here = IsHere m known b.owner Ctx in_context declared f asked in
          let in_args = types_in_arguments true is_test args labels.arguments in
          let in_kws = types_in_keywords true kws labels.keywords in
          let others = whole.1.1 in
          elim h [
            | inl a ↦
                let among : Contains (call_label Ctx.bases (range_offers g)).codes a.code =
                subst (λ (x : Label). Contains x.codes a.code) law.here a.among in
                at_expr Range whole a.code
                (whole_codes RangeGiven known Ctx env args [] member_rule (range_offers g) wrong_range
                (signature_codes (λ c. (c ≡ E14 → RangeGiven E14) → RangeGiven c) (λ k. k refl) g range_signature)
                (λ e. absurd (cc e)) (λ t k. t) a.code among) a.is
            | inr x ↦ elim x [
              | inl y ↦ absurd (nothing_at (subst (λ (k : Label). IsFoundAt n.place k.codes f) law.callee y))
              | inr y ↦ elim y [
                | inl z ↦ absurd (subst (λ (o : Option Code). IsCodeAt (second_place args p) o f) law.second z)
                | inr z ↦ elim z [
                  | inl u ↦ arguments_told m known b.owner Ctx in_context declared f asked env _ args labels.arguments
                      law.arguments (all_left Here (parts_in_all false args) (parts_in_keywords false kws) others)
                      is_test (all_left (IsTyped m known) in_args in_kws typed) u
                  | inr u ↦ keywords_told m known b.owner Ctx in_context declared f asked env _ [] kws labels.keywords
                      law.keywords (all_right Here (parts_in_all false args) (parts_in_keywords false kws) others)
                      (all_right (IsTyped m known) in_args in_kws typed) u
                ]
              ]
            ]
          ]
        where
          nothing_at : IsFoundAt n.place [] f → ⊥
          nothing_at k = none_among k.code k.among

      -- the items of `range`
      range_item_told : IsWhole Range → (item : Label) → item ≡ range_item (arguments_given args kws)
          → IsFoundAt p item.codes f → Goal
      range_item_told whole item law h =
          let g = arguments_given args kws in
          at_expr Range whole h.code
          (all_pick RangeGiven item.codes h.code
          (subst (λ (x : Label). AllByRecursion RangeGiven x.codes) (sym law) (go (is_suited g range_signature) refl))
          h.among) h.is
        where
          go : (t : Test) → is_suited (arguments_given args kws) range_signature ≡ t
              → AllByRecursion RangeGiven (if t then clean Int else record { type = Any; codes = A5 ∷ [] }).codes
          go true e = tt
          go false e = (
            λ a. in_both IsThere (is_range_call Range) (range_misfit Range) (Some (iterate_detail m known Range))
                (there_mapped iterate_range (misfit (arguments_given args kws) range_signature)
                (misfit_there (misfit (arguments_given args kws) range_signature)
                (sym e ∙ misfits_exact (arguments_given args kws) range_signature))) refl,
            tt,
          )

    -- the items of another iterable
    items_told : (e : Expr) → IsWhole e → is_range_call e ≡ false → (t : Tree) (item : Label)
        → item ≡ offers_label Ctx.bases (map (iterate_member Ctx.bases) (members t)) → IsFoundAt (place_of e) item.codes f
        → Goal
    items_told e whole other t item law h =
        let given : (c : Code) → Type 0 = λ c. IsGiven m known b.owner Ctx in_context e c in
        let there : IsThere (if is_range_call e then range_misfit e else Some (iterate_detail m known e)) =
        subst (λ (k : Test). IsThere (if k then range_misfit e else Some (iterate_detail m known e))) (sym other) refl in
        at_expr e whole h.code
        (all_pick given item.codes h.code
        (subst (λ (x : Label). AllByRecursion given x.codes) (sym law)
        (iterated_codes given (λ a. there) (λ a. there) Ctx.bases (members t))) h.among) h.is

    values_told : (env : Env) (e : Expr) (labels : Labels e) (item : Label) → LawfulValues m Ctx declared env e labels item
        → is_range_call e ≡ false → IsWhole e → AreTyped (types_in true e labels)
        → IsFoundAt (place_of e) item.codes f ⊎ Finds e labels f → Goal
    values_told env e labels item law other whole typed h = elim h [
      | inl a ↦ items_told e whole other (type_of e labels) item law.1 a
      | inr x ↦ of_expr env None e labels law.0 whole typed x
    ]

    iterable_told : (env : Env) (e : Expr) (labels : Labels e) (item : Label)
        → LawfulIterable m Ctx declared env e labels item → IsWhole e → AreTyped (types_in_iterable true e labels)
        → IsFoundAt (place_of e) item.codes f ⊎ Finds e labels f → Goal
    iterable_told env (call p (name n) args kws) labels item law whole typed h =
        let known_as : is_range (Ctx.resolve n.text) ≡ is_named (codes "range") (name n) =
        range_named m b.owner b.function n.text in
        go (is_range (Ctx.resolve n.text)) refl (is_named (codes "range") (name n)) refl known_as law typed
      where
        go : (r : Test) → is_range (Ctx.resolve n.text) ≡ r → (s : Test) → is_named (codes "range") (name n) ≡ s
            → is_range (Ctx.resolve n.text) ≡ is_named (codes "range") (name n)
            → RangeOrValues m Ctx declared r (LawfulRange m Ctx declared env (name n) args kws p labels
            × (item ≡ range_item (arguments_given args kws))) (LawfulValues m Ctx declared env
            (call p (name n) args kws) labels item)
            → AreTyped (if s then types_of_arguments true (call p (name n) args kws) labels
            else types_in true (call p (name n) args kws) labels) → Goal
        go true e true i same law typed = elim h [
          | inl a ↦ range_item_told p n args kws e whole item law.1 a
          | inr x ↦ range_told p n args kws e env labels law.0 whole typed x
        ]
        go true e false i same law typed = absurd (cc (sym e ∙ same ∙ i))
        go false e true i same law typed = absurd (cc (sym e ∙ same ∙ i))
        go false e false i same law typed =
            values_told env (call p (name n) args kws) labels item law i whole typed h
    iterable_told env e labels item law whole typed h = values_told env e labels item law refl whole typed h

    -- ---- values that are bound and stored

    unbound_told : (env : Env) (e : Expr) (labels : Labels e) (flows : FlowLabels) (p : Place)
        → Lawful Ctx declared env None e labels → flows ≡ [] → IsWhole e → AreTyped (types_in true e labels)
        → IsFlowAt p flows f ⊎ Finds e labels f → Goal
    unbound_told env e labels flows p law none whole typed h = elim h [
      | inl a ↦ absurd (no_flows flows p f none a)
      | inr y ↦ of_expr env None e labels law whole typed y
    ]

    binding_told : (env : Env) (seen : NamesBound) (n : Name) (r : NameMeaning) (annotation : Option Tree) (e : Expr)
        (labels : Labels e) (flows : FlowLabels) (after : Env) (p : Place)
        → LawfulBinding m Ctx declared env seen n r annotation e labels flows after → IsWhole e
        → AreTyped (types_in true e labels) → IsFlowAt p flows f ⊎ Finds e labels f → Goal
    binding_told env seen n (meaning.Local x) annotation e labels flows after p law whole typed h = elim h [
      | inl a ↦ no_flow_here (whole_label e labels) (declared_type declared x ∷ []) flows p law.flow a
      | inr y ↦ of_expr env _ e labels law.value whole typed y
    ]
    binding_told env seen n (meaning.Const x) annotation e labels flows after p law whole typed h =
        unbound_told env e labels flows p law.value law.flow whole typed h
    binding_told env seen n (meaning.Func x) annotation e labels flows after p law whole typed h =
        unbound_told env e labels flows p law.value law.flow whole typed h
    binding_told env seen n (meaning.Class x) annotation e labels flows after p law whole typed h =
        unbound_told env e labels flows p law.value law.flow whole typed h
    binding_told env seen n (meaning.Builtin x) annotation e labels flows after p law whole typed h =
        unbound_told env e labels flows p law.value law.flow whole typed h
    binding_told env seen n meaning.None annotation e labels flows after p law whole typed h =
        unbound_told env e labels flows p law.value law.flow whole typed h

    -- ---- targets

    -- the rule of a code gives a detail for a target, if it is asked
    abbrev TargetGiven : Target → Code → Type 0
    TargetGiven t c = Asked m c → IsThere (target_rule m known c t)

    at_target : (t : Target) → Contains (targets_in m) t → (codes : List Code) → ((c : Code) → Contains codes c → TargetGiven t c)
        → IsFoundAt (place_of_target t) codes f → Goal
    at_target t here codes each h =
        subst (λ (g : Finding). Asked m g.code → IsTold m known g.place g.code) (sym h.is)
        (λ a. target_told m known t here h.code (each h.code h.among a)) asked

    module _ (p : Place) (o : Expr) (field : Name) where
      abbrev Stored : Target
      Stored = to_attribute p o field

      -- a code is given, if E23 is
      abbrev Unless23 : Code → Type 0
      Unless23 c = (c ≡ E23 → TargetGiven Stored E23) → TargetGiven Stored c

      store_one : (x : Option TypedParameter) (y : Option Method) → AllByRecursion Unless23 (store_found x y).found
      store_one (Some x) y = tt
      store_one None (Some y) = (λ h. h refl, tt)
      store_one None None = (λ h a. refl, tt)

      store_member : (t : Tree) → AllByRecursion Unless23 (stored_codes Ctx.classes field.text t)
      store_member (Class c) = store_one (field_by_name (class_facts_at Ctx.classes c).fields field.text)
          (method_by_name (class_facts_at Ctx.classes c).methods field.text)
      store_member Any = (λ h a. refl, tt)
      store_member _ = (λ h a. refl, tt)

      method_given : (t : Tree) → IsTyped m known (record { place = place_of o; type = t })
          → IsThere (method_of (classes_of m) field.text (members t)) → TargetGiven Stored E23
      method_given t typed h a =
          there_mapped (λ x. method_store (method_name m x))
          (method_of (classes_of m) field.text (members (known.types (place_of o))))
          (subst (λ (s : Tree). IsThere (method_of (classes_of m) field.text (members s))) (sym (typed a.fit)) h)

      stored_given : (t : Tree) → IsTyped m known (record { place = place_of o; type = t }) → (c : Code)
          → Contains (store_codes (attribute_offers m Ctx declared field.text t)) c → TargetGiven Stored c
      stored_given t typed c h =
          let found = flat_map (stored_codes Ctx.classes field.text) (members t) in
          let same : store_codes (attribute_offers m Ctx declared field.text t) ≡ found =
          flat_map-map (λ (x : StoreOffer). x.found) (store_attribute_member Ctx.classes field.text) (members t) in
          let k : Contains found c = subst (λ (cs : List Code). Contains cs c) same h in
          all_pick Unless23 found c (all_joined Unless23 (stored_codes Ctx.classes field.text) store_member (members t)) k
          (λ d. method_given t typed (all_pick
          (λ (x : Code). x ≡ E23 → IsThere (method_of Ctx.classes field.text (members t))) found c
          (methods_of_stores Ctx.classes field.text (members t)) k d))

    module _ (p : Place) (o i : Expr) where
      item_member : (t : Tree) → AllByRecursion (TargetGiven (to_index p o i)) (store_index_member t).found
      item_member (ListOf t) = tt
      item_member (DictOf k v) = tt
      item_member Any = (λ a. refl, tt)
      item_member _ = (λ a. refl, tt)

      item_given : (ts : List Tree) → AllByRecursion (TargetGiven (to_index p o i)) (store_codes (map store_index_member ts))
      item_given [] = tt
      item_given (t ∷ ts) = all_append (TargetGiven (to_index p o i)) (store_index_member t).found
          (store_codes (map store_index_member ts)) (item_member t) (item_given ts)

    stored_told : (env : Env) (t : Target) (target : TargetLabels t) (e : Expr) (labels : Labels e) (flows : FlowLabels)
        (p : Place) → LawfulStore m Ctx declared env t target e labels flows
        → AllByRecursion (Contains (targets_in m)) (t ∷ []) → AreWhole (e ∷ target_exprs t)
        → AreTyped (types_in_target true t target ++ types_in true e labels)
        → IsFlowAt p flows f ⊎ (Finds e labels f ⊎ TargetFinds m Ctx t target f) → Goal
    stored_told env (to_name n) target e labels flows p law here whole typed h = absurd law
    stored_told env (to_attribute q o n) target e labels flows p law here whole typed h = elim h [
      | inl a ↦ no_flow_here (whole_label e labels) _ flows p law.flow a
      | inr x ↦ elim x [
        | inl y ↦ of_expr env _ e labels law.value whole.0
            (all_right (IsTyped m known) (types_in true o target.object) (types_in true e labels) typed) y
        | inr y ↦ elim y [
          | inl z ↦ at_target (to_attribute q o n) here.0 target.codes
              (λ c k. stored_given q o n (type_of o target.object)
              (all_right (IsTyped m known) (types_inside true o target.object) (type_here o target.object)
              (all_left (IsTyped m known) (types_in true o target.object) (types_in true e labels) typed)).0 c
              (subst (λ (cs : List Code). Contains cs c) law.codes k)) z
          | inr z ↦ of_expr env None o target.object law.object whole.1.0
              (all_left (IsTyped m known) (types_in true o target.object) (types_in true e labels) typed) z
        ]
      ]
    ]
    stored_told env (to_index q o i) target e labels flows p law here whole typed h =
        let in_object = types_in true o target.object in
        let in_key = types_in true i target.key in
        let in_target = all_left (IsTyped m known) (in_object ++ in_key) (types_in true e labels) typed in
        elim h [
          | inl a ↦ no_flow_here (whole_label e labels) _ flows p law.flow a
          | inr x ↦ elim x [
            | inl y ↦ of_expr env _ e labels law.value whole.0
                (all_right (IsTyped m known) (in_object ++ in_key) (types_in true e labels) typed) y
            | inr y ↦ elim y [
              | inl z ↦ at_target (to_index q o i) here.0 target.codes
                  (λ c k. all_pick (TargetGiven (to_index q o i))
                  (store_codes (index_offers m Ctx declared (type_of o target.object))) c
                  (item_given q o i (members (type_of o target.object)))
                  (subst (λ (cs : List Code). Contains cs c) law.codes k)) z
              | inr z ↦ elim z [
                | inl u ↦ no_flow_here (whole_label i target.key) _ target.key_flows (place_of i) law.key_flow u
                | inr u ↦ elim u [
                  | inl v ↦ of_expr env None o target.object law.object whole.1.0
                      (all_left (IsTyped m known) in_object in_key in_target) v
                  | inr v ↦ of_expr env None i target.key law.key whole.1.1.0
                      (all_right (IsTyped m known) in_object in_key in_target) v
                ]
              ]
            ]
          ]
        ]

    assigned_told : (env : Env) (seen : NamesBound) (p : Place) (t : Target) (target : TargetLabels t) (e : Expr)
        (labels : Labels e) (flows : FlowLabels) (after : Env)
        → LawfulAssignment m Ctx declared env seen t target e labels flows after
        → AllByRecursion (Contains (targets_in m)) (t ∷ []) → AreWhole (e ∷ target_exprs t)
        → AreTyped (types_in_target true t target ++ types_in true e labels)
        → IsFlowAt p flows f ⊎ (Finds e labels f ⊎ TargetFinds m Ctx t target f) → Goal
    assigned_told env seen p (to_name n) target e labels flows after law here whole typed h = elim h [
      | inl a ↦ binding_told env seen n (Ctx.resolve n.text) None e labels flows after p law whole.0 typed (inl a)
      | inr x ↦ elim x [
        | inl y ↦ binding_told env seen n (Ctx.resolve n.text) None e labels flows after p law whole.0 typed (inr y)
        | inr y ↦ absurd y
      ]
    ]
    assigned_told env seen p (to_attribute q o n) target e labels flows after law here whole typed h =
        stored_told env (to_attribute q o n) target e labels flows p law.0 here whole typed h
    assigned_told env seen p (to_index q o i) target e labels flows after law here whole typed h =
        stored_told env (to_index q o i) target e labels flows p law.0 here whole typed h

    -- ---- annotated names

    annotation_here : (r : NameMeaning) (is_first' : Test) (n : Name) (a : Ann) → IsBound n → IsWholeAnn m known a
        → AnnotationFinds m Ctx r is_first' n a f → Goal
    annotation_here (meaning.Local x) false n a bound whole h =
        subst (λ (g : Finding). IsTold m known g.place g.code) (sym h) (late n bound)
    annotation_here (meaning.Local x) true n a bound whole h = annotation_told m known f asked a whole h
    annotation_here (meaning.Const x) is_first' n a bound whole h = annotation_told m known f asked a whole h
    annotation_here (meaning.Func x) is_first' n a bound whole h = annotation_told m known f asked a whole h
    annotation_here (meaning.Class x) is_first' n a bound whole h = annotation_told m known f asked a whole h
    annotation_here (meaning.Builtin x) is_first' n a bound whole h = annotation_told m known f asked a whole h
    annotation_here meaning.None is_first' n a bound whole h = annotation_told m known f asked a whole h

    annotated_told : (env : Env) (seen : NamesBound) (p : Place) (n : Name) (a : Ann) (e : Option Expr)
        (labels : OptionLabels e) (flows : FlowLabels) (after : Env)
        → LawfulAnnotated m Ctx declared env seen n a e labels flows after → AreWhole (option_exprs e)
        → AreTyped (types_in_option true e labels) → IsFlowAt p flows f ⊎ OptionFinds m Ctx e labels f → Goal
    annotated_told env seen p n a None labels flows after law whole typed h = elim h [
      | inl x ↦ absurd (no_flows flows p f law.1 x)
      | inr y ↦ absurd y
    ]
    annotated_told env seen p n a (Some e) labels flows after law whole typed h =
        binding_told env seen n (Ctx.resolve n.text) _ e labels flows after p law whole.0 typed h

    target_told_of : (seen : NamesBound) (n : Name) (r : NameMeaning) (head : Env) (item : Label) (flows : FlowLabels)
        (inside : Env) (p : Place) → LawfulTarget m Ctx declared seen n r head item flows inside → IsFlowAt p flows f
        → Goal
    target_told_of seen n (meaning.Local x) head item flows inside p law h =
        no_flow_here (clean item.type) (declared_type declared x ∷ []) flows p law.flow h
    target_told_of seen n (meaning.Const x) head item flows inside p law h = absurd (no_flows flows p f law.0 h)
    target_told_of seen n (meaning.Func x) head item flows inside p law h = absurd (no_flows flows p f law.0 h)
    target_told_of seen n (meaning.Class x) head item flows inside p law h = absurd (no_flows flows p f law.0 h)
    target_told_of seen n (meaning.Builtin x) head item flows inside p law h = absurd (no_flows flows p f law.0 h)
    target_told_of seen n meaning.None head item flows inside p law h = absurd (no_flows flows p f law.0 h)

    -- ---- statements

    module _ (returned : Tree) where
      returned_told : (env : Env) (p : Place) (e : Option Expr) (labels : OptionLabels e) (flows : FlowLabels)
          → LawfulReturn m Ctx declared returned env e labels flows → AreWhole (option_exprs e)
          → AreTyped (types_in_option true e labels) → IsFlowAt p flows f ⊎ OptionFinds m Ctx e labels f → Goal
      returned_told env p None labels flows law whole typed h = elim h [
        | inl a ↦ no_flow_here (clean NoneType) (returned ∷ []) flows p law a
        | inr x ↦ absurd x
      ]
      returned_told env p (Some e) labels flows law whole typed h = elim h [
        | inl a ↦ no_flow_here (whole_label e labels) (returned ∷ []) flows p law.1 a
        | inr x ↦ of_expr env (Some returned) e labels law.0 whole.0 typed x
      ]

      message_told : (env : Env) (e : Option Expr) (labels : OptionLabels e)
          → LawfulOption m Ctx declared returned env e labels → AreWhole (option_exprs e)
          → AreTyped (types_in_option true e labels) → OptionFinds m Ctx e labels f → Goal
      message_told env None labels law whole typed h = absurd h
      message_told env (Some e) labels law whole typed h = of_expr env None e labels law whole.0 typed h

      -- a statement, and those after it where it can complete
      behind_told : (seen : NamesBound) (env : Env) (st : Stmt) (rest : Stmts) (c : Test) (first : StmtLabels st)
          (r : Behind c (Following (SuiteLabels rest))) (out : Option Env)
          → BehindRule c r (λ x. LawfulStmt m Ctx declared returned seen env st first (Some x.env)
          × LawfulSuite m Ctx declared returned (texts (bound_by_stmt st) ++ seen) x.env rest x.rest out)
          (LawfulStmt m Ctx declared returned seen env st first None
          × AreUndeclared m Ctx declared (texts (bound_by_stmt st) ++ seen) (bound_by rest) × (out ≡ None))
          → AreTyped (types_in_stmt true st first ++ behind_list c r (λ x. types_in_suite true rest x.rest))
          → StmtFinds m Ctx seen st first f ⊎ BehindRule c r (λ x. SuiteFinds m Ctx (texts (bound_by_stmt st) ++ seen)
          rest x.rest f) ⊥
          → ((o : Option Env) → LawfulStmt m Ctx declared returned seen env st first o
          → AreTyped (types_in_stmt true st first) → StmtFinds m Ctx seen st first f → Goal)
          → ((x : Env) (k : SuiteLabels rest)
          → LawfulSuite m Ctx declared returned (texts (bound_by_stmt st) ++ seen) x rest k out
          → AreTyped (types_in_suite true rest k) → SuiteFinds m Ctx (texts (bound_by_stmt st) ++ seen) rest k f → Goal)
          → Goal
      behind_told seen env st rest true first r out law typed h now next = elim h [
        | inl a ↦ now (Some r.env) law.0
            (all_left (IsTyped m known) (types_in_stmt true st first) (types_in_suite true rest r.rest) typed) a
        | inr x ↦ next r.env r.rest law.1
            (all_right (IsTyped m known) (types_in_stmt true st first) (types_in_suite true rest r.rest) typed) x
      ]
      behind_told seen env st rest false first r out law typed h now next = elim h [
        | inl a ↦ now None law.0 (all_left (IsTyped m known) (types_in_stmt true st first) [] typed) a
        | inr x ↦ absurd x
      ]

      mutual
        stmt_told : (seen : NamesBound) (env : Env) (st : Stmt) (labels : StmtLabels st) (out : Option Env)
            → LawfulStmt m Ctx declared returned seen env st labels out → AreWhole (exprs_in false st)
            → AreStmts (stmts_in st) → AreBound (bound_by_stmt st) → AreTyped (types_in_stmt true st labels)
            → StmtFinds m Ctx seen st labels f → Goal
        stmt_told seen env (pass p) labels out law whole stmts bound typed h = absurd h
        stmt_told seen env (breaks p) labels out law whole stmts bound typed h = absurd h
        stmt_told seen env (continues p) labels out law whole stmts bound typed h = absurd h
        stmt_told seen env (returns p e) labels out law whole stmts bound typed h = returned_told env
            (option_place m Ctx p e) e labels.value labels.flows law.0 whole typed h
        stmt_told seen env (asserts p c e) labels out law whole stmts bound typed h =
            let in_condition = types_in true c labels.condition in
            let in_message = types_in_option true e labels.message in
            elim h [
              | inl a ↦ of_expr env None c labels.condition law.condition whole.0
                  (all_left (IsTyped m known) in_condition in_message typed) a
              | inr x ↦ message_told (narrow Ctx.bases declared Ctx.resolve false c env) e labels.message law.message
                  whole.1 (all_right (IsTyped m known) in_condition in_message typed) x
            ]
        stmt_told seen env (annotated p n a e) labels out law whole stmts bound typed h = elim h [
          | inl x ↦ annotation_here (Ctx.resolve n.text) (is_first seen n) n a bound.0 stmts.0.anns.0 x
          | inr y ↦ annotated_told env seen (option_place m Ctx p e) n a e labels.value labels.flows law.after law.binding
              whole typed y
        ]
        stmt_told seen env (assigns p t e) labels out law whole stmts bound typed h = assigned_told env seen (place_of e) t
            labels.target e labels.value labels.flows law.after law.assignment stmts.0.targets whole typed h
        stmt_told seen env (evaluates p e) labels out law whole stmts bound typed h =
            of_expr env None e labels law.0 whole.0 typed h
        stmt_told seen env (while_loop p c b) labels out law whole stmts bound typed h =
            let in_condition = types_in true c labels.condition in
            let in_body = types_in_suite true b labels.body in
            elim h [
              | inl a ↦ of_expr labels.head None c labels.condition law.condition whole.0
                  (all_left (IsTyped m known) in_condition in_body typed) a
              | inr k ↦ suite_told seen (narrow Ctx.bases declared Ctx.resolve true c labels.head) b labels.body labels.out
                  law.body whole.1 stmts.1 bound (all_right (IsTyped m known) in_condition in_body typed) k
            ]
        stmt_told seen env (for_loop p n e b) labels out law whole stmts bound typed h =
            let in_head = types_in_iterable true e labels.iterable in
            let in_body = types_in_suite true b labels.body in
            let head_typed = all_left (IsTyped m known) in_head in_body typed in
            elim h [
              | inl a ↦ iterable_told env e labels.iterable labels.item law.iterable whole.0 head_typed (inl a)
              | inr k ↦ elim k [
                | inl x ↦ target_told_of seen n (Ctx.resolve n.text) labels.head labels.item labels.flows law.inside
                    (place_of e) law.target x
                | inr y ↦ elim y [
                  | inl u ↦ iterable_told env e labels.iterable labels.item law.iterable whole.0 head_typed (inr u)
                  | inr v ↦ suite_told (n.text ∷ seen) law.inside b labels.body labels.out law.body whole.1 stmts.1
                      bound.1 (all_right (IsTyped m known) in_head in_body typed) v
                ]
              ]
            ]
        stmt_told seen env (conditional p bs o) labels out law whole stmts bound typed h =
            let in_branches = types_in_branches true bs labels.branches in
            let in_else = types_in_suite true o labels.otherwise in
            elim h [
              | inl a ↦ branches_told seen env bs labels.branches labels.last law.branches
                  (all_left IsWhole (exprs_in_branches false bs) (exprs_in_all false o) whole)
                  (all_left IsStmt (stmts_in_branches bs) (stmts_in_suite o) stmts.1)
                  (all_left IsBound (bound_by_branches bs) (bound_by o) bound)
                  (all_left (IsTyped m known) in_branches in_else typed) a
              | inr k ↦ suite_told (texts (bound_by_branches bs) ++ seen) labels.last o labels.otherwise labels.out
                  law.otherwise (all_right IsWhole (exprs_in_branches false bs) (exprs_in_all false o) whole)
                  (all_right IsStmt (stmts_in_branches bs) (stmts_in_suite o) stmts.1)
                  (all_right IsBound (bound_by_branches bs) (bound_by o) bound)
                  (all_right (IsTyped m known) in_branches in_else typed) k
            ]

        pub suite_told : (seen : NamesBound) (env : Env) (b : Stmts) (labels : SuiteLabels b) (out : Option Env)
            → LawfulSuite m Ctx declared returned seen env b labels out → AreWhole (exprs_in_all false b)
            → AreStmts (stmts_in_suite b) → AreBound (bound_by b) → AreTyped (types_in_suite true b labels)
            → SuiteFinds m Ctx seen b labels f → Goal
        suite_told seen env no_stmts labels out law whole stmts bound typed h = absurd h
        suite_told seen env (more_stmts st rest) labels out law whole stmts bound typed h = behind_told seen env st rest
            (completes st) labels.first labels.behind out law typed h
            (λ o l t k. stmt_told seen env st labels.first o l
            (all_left IsWhole (exprs_in false st) (exprs_in_all false rest) whole)
            (all_left IsStmt (stmts_in st) (stmts_in_suite rest) stmts)
            (all_left IsBound (bound_by_stmt st) (bound_by rest) bound) t k)
            (λ x k l t g. suite_told (texts (bound_by_stmt st) ++ seen) x rest k out l
            (all_right IsWhole (exprs_in false st) (exprs_in_all false rest) whole)
            (all_right IsStmt (stmts_in st) (stmts_in_suite rest) stmts)
            (all_right IsBound (bound_by_stmt st) (bound_by rest) bound) t g)

        branches_told : (seen : NamesBound) (env : Env) (bs : Branches) (labels : BranchesLabels bs) (last : Env)
            → LawfulBranches m Ctx declared returned seen env bs labels last → AreWhole (exprs_in_branches false bs)
            → AreStmts (stmts_in_branches bs) → AreBound (bound_by_branches bs)
            → AreTyped (types_in_branches true bs labels) → BranchesFind m Ctx seen bs labels f → Goal
        branches_told seen env no_branches labels last law whole stmts bound typed h = absurd h
        branches_told seen env (more_branches c b rest) labels last law whole stmts bound typed h =
            let in_condition = types_in true c labels.condition in
            let in_body = types_in_suite true b labels.body in
            let in_rest = types_in_branches true rest labels.rest in
            let later = all_right (IsTyped m known) in_condition (in_body ++ in_rest) typed in
            elim h [
              | inl x ↦ of_expr env None c labels.condition law.condition whole.0
                  (all_left (IsTyped m known) in_condition (in_body ++ in_rest) typed) x
              | inr k ↦ elim k [
                | inl y ↦ suite_told seen (narrow Ctx.bases declared Ctx.resolve true c env) b labels.body labels.out
                    law.body (all_left IsWhole (exprs_in_all false b) (exprs_in_branches false rest) whole.1)
                    (all_left IsStmt (stmts_in_suite b) (stmts_in_branches rest) stmts)
                    (all_left IsBound (bound_by b) (bound_by_branches rest) bound)
                    (all_left (IsTyped m known) in_body in_rest later) y
                | inr z ↦ branches_told (texts (bound_by b) ++ seen) (narrow Ctx.bases declared Ctx.resolve false c env)
                    rest labels.rest last law.others
                    (all_right IsWhole (exprs_in_all false b) (exprs_in_branches false rest) whole.1)
                    (all_right IsStmt (stmts_in_suite b) (stmts_in_branches rest) stmts)
                    (all_right IsBound (bound_by b) (bound_by_branches rest) bound)
                    (all_right (IsTyped m known) in_body in_rest later) z
              ]
            ]
