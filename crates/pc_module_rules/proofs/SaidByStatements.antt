-- Each E02 and E03 under the labels of statements comes from a part of one of their expressions.
use Rattle.std.proofs.Common.{◌≡◌, List, [], ◌∷◌, ◌++◌, refl, sym, subst, inl, inr, arith, Contains}
use Rattle.std.specs.Prelude.{◌⊎◌, Bool as Test, true, false, if◌then◌else◌, MatchOption, Option, Some, None}
use Rattle.pc_source.specs.declared.place.Place.{Place}
use Rattle.pc_tree.proofs.Among.{none_among}
use Rattle.pc_tree.specs.declared.code.Code.{Code}
use Rattle.pc_tree.specs.declared.code.Code.TheVariants.{A5, E09, E10}
use Rattle.pc_tree.specs.declared.code.Finding.{Finding}
use Rattle.pc_tree.specs.Code.{finding}
use Rattle.pc_tree.specs.Depth.{place_of}
use Rattle.pc_tree.specs.Stopping.{bound_by, bound_by_stmt, bound_by_branches}
use Rattle.pc_tree.specs.Tree.{Name, Expr, name, call, Exprs, Keywords, Ann, Anns, named, none_type, applied}
use Rattle.pc_tree.specs.Tree.{applied_empty, no_anns, more_anns, Target, to_name, to_attribute, to_index, Stmt, Stmts}
use Rattle.pc_tree.specs.Tree.{Branches, pass, breaks, continues, returns, asserts, annotated, assigns, evaluates}
use Rattle.pc_tree.specs.Tree.{while_loop, for_loop, conditional, no_stmts, more_stmts, no_branches, more_branches}
use Rattle.pc_tree.specs.Tree.{Module}
use Rattle.pc_tree.specs.Tree as tree
use Rattle.pc_scope.specs.declared.resolution.NameMeaning.{NameMeaning}
use Rattle.pc_scope.specs.declared.resolution.NameMeaning.TheVariants as meaning
use Rattle.pc_scope.specs.Bindings.{texts}
use Rattle.pc_scope.specs.Reach.{completes}
use Rattle.pc_scope.specs.Resolution.{resolve_in_module}
use Rattle.pc_scope.specs.Expressions.{is_instance_test, first_or_all, parts_in, parts_in_all, parts_in_first}
use Rattle.pc_scope.specs.Expressions.{parts_in_keywords, target_exprs, option_exprs, exprs_in, exprs_in_all}
use Rattle.pc_scope.specs.Expressions.{exprs_in_branches}
use Rattle.pc_types.specs.Tree.{Tree, Any, Int, NoneType}
use Rattle.pc_types.specs.Below.{Bases}
use Rattle.pc_types.specs.Shape.{members}
use Rattle.pc_annotations.specs.Annotations.{named_type, applied_type, empty_type, union_type, read_anns, PartFinds, PartsFind}
use Rattle.pc_annotations.specs.Annotations.{AnnFinds}
use Rattle.pc_flow.specs.Environment.{Env, declared_type}
use Rattle.pc_flow.specs.Narrowing.{narrow}
use Rattle.pc_rules.specs.Operations.{Label, clean}
use Rattle.pc_rules.specs.Context.{Context, FlowsInto}
use Rattle.pc_rules.specs.Calls.{GivenArguments, arguments_given, is_suited, is_range, range_signature, range_offers}
use Rattle.pc_rules.specs.Calls.{range_item}
use Rattle.pc_rules.specs.Labels.{FlowLabels, Labels, whole_label, type_of, is_of_scopes, Finds, IsFoundAt, IsFlowAt}
use Rattle.pc_rules.specs.Labels.{IsCodeAt}
use Rattle.pc_rules.specs.Lawful.{Lawful}
use Rattle.pc_rules.proofs.Silent.{Silent, items_silent, stored_items_silent, stored_fields_silent, called_silent}
use Rattle.pc_rules.proofs.Silent.{calls_silent}
use Rattle.pc_rules.proofs.Saying.{not_of_scopes, no_flow_of_scopes, IsPart, part_left, part_right, Said}
use Rattle.pc_rules.proofs.Saying.{said_left, said_right, said_behind}
use Rattle.pc_rules.proofs.SaidByLabels.{said, arguments_said, keywords_said}
use Rattle.pc_module_rules.specs.StatementLabels.{OptionLabels, TargetLabels, StmtLabels, SuiteLabels, BranchesLabels}
use Rattle.pc_module_rules.specs.StatementLabels.{Behind, Following, BehindRule}
use Rattle.pc_module_rules.specs.Statements.{NamesBound, is_first, RangeOrValues, AreUndeclared, LawfulRange}
use Rattle.pc_module_rules.specs.Statements.{LawfulValues, LawfulIterable, LawfulBinding, LawfulTarget, LawfulStore}
use Rattle.pc_module_rules.specs.Statements.{LawfulAssignment, LawfulAnnotated, LawfulReturn, LawfulOption, LawfulStmt}
use Rattle.pc_module_rules.specs.Statements.{LawfulSuite, LawfulBranches, OptionFinds, option_place, TargetFinds}
use Rattle.pc_module_rules.specs.Statements.{AnnotationFinds, StmtFinds, SuiteFinds, BranchesFind}

both : {b : Test} → b ≡ true → b ≡ false → ⊥
both e e' = absurd (grind (arith, e, e'))

-- a code that is not of scopes
pub other_code : (p : Place) (c : Code) (f : Finding) → is_of_scopes c ≡ false → is_of_scopes f.code ≡ true
    → f ≡ finding p c → ⊥
other_code p c f other s is = both s (subst (λ x. is_of_scopes x.code ≡ false) (sym is) other)

-- where a code stands, if any does, it is not of scopes
pub no_code : (p : Place) (c : Option Code) (f : Finding) → ((x : Code) → c ≡ Some x → is_of_scopes x ≡ false)
    → is_of_scopes f.code ≡ true → IsCodeAt p c f → ⊥
no_code p None f other s h = h
no_code p (Some c) f other s h = other_code p c f (other c refl) s h

-- nothing is found where nothing flows
pub no_flows : (flows : FlowLabels) (p : Place) (f : Finding) → flows ≡ [] → IsFlowAt p flows f → ⊥
no_flows flows p f is h = none_among h.flow (subst (λ fs. Contains fs h.flow) is h.among)

-- ---- annotations

module _ (m : Module) (bases : Bases) (f : Finding) (s : is_of_scopes f.code ≡ true) where
  at_none : {A : Type 0} (o : Option A) (p : Place) (c : Code) → is_of_scopes c ≡ false
      → MatchOption o (f ≡ finding p c) (λ t. ⊥) → ⊥
  at_none None p c other h = other_code p c f other s h
  at_none (Some t) p c other h = h

  mutual
    no_part : (a : Ann) → PartFinds m bases a f → ⊥
    no_part (named n) h = at_none (named_type m.imports_any (resolve_in_module m n.text)) n.place E09 refl h
    no_part (none_type p) h = h
    no_part (applied p head arguments) h = go (applied_type (resolve_in_module m head.text)
        (read_anns m bases arguments)) h (no_parts arguments)
      where
        go : (o : Option Tree) → MatchOption o (f ≡ finding p E09) (λ t. PartsFind m bases arguments f)
            → (PartsFind m bases arguments f → ⊥) → ⊥
        go None h none = other_code p E09 f refl s h
        go (Some t) h none = none h
    no_part (applied_empty p head) h = at_none (empty_type (resolve_in_module m head.text)) p E09 refl h
    no_part (tree.union p parts) h = elim h [
      | inl a ↦ at_none (union_type bases (read_anns m bases parts)) p E10 refl a
      | inr b ↦ no_parts parts b
    ]

    no_parts : (as' : Anns) → PartsFind m bases as' f → ⊥
    no_parts no_anns h = h
    no_parts (more_anns a rest) h = elim h [ inl x ↦ no_part a x | inr y ↦ no_parts rest y ]

  -- nothing in an annotation is of scopes
  pub no_annotation : (a : Ann) → AnnFinds m bases a f → ⊥
  no_annotation a h = elim h [ inl x ↦ no_part a x | inr y ↦ other_code _ _ f refl s y.is ]

-- ---- statements

module _ (m : Module) (ctx : Context) (declared : List Tree) (f : Finding) (s : is_of_scopes f.code ≡ true) where
  -- a part of one of these expressions says it
  pub record SaidIn (es : List Expr) : Type 0 where
    pub expr : Expr
    pub among : IsPart expr es
    pub says : Said ctx (parts_in true expr) f

  in_left : (es fs : List Expr) → SaidIn es → SaidIn (es ++ fs)
  in_left es fs h = record { expr = h.expr; among = part_left h.expr es fs h.among; says = h.says }

  in_right : (es fs : List Expr) → SaidIn fs → SaidIn (es ++ fs)
  in_right es fs h = record { expr = h.expr; among = part_right h.expr es fs h.among; says = h.says }

  in_rest : (e : Expr) (es : List Expr) → SaidIn es → SaidIn (e ∷ es)
  in_rest e es h = record { expr = h.expr; among = inr h.among; says = h.says }

  of_expr : (env : Env) (want : Option Tree) (e : Expr) (labels : Labels e) (es : List Expr)
      → Lawful ctx declared env want e labels → Finds e labels f → SaidIn (e ∷ es)
  of_expr env want e labels es law h = record {
    expr = e;
    among = inl refl;
    says = said ctx declared true f s env want e
        labels law h;
  }

  no_flow : (label : Label) (ts : List Tree) (flows : FlowLabels) (p : Place) → FlowsInto ctx.bases label ts flows
      → IsFlowAt p flows f → ⊥
  no_flow label ts flows p law h = no_flow_of_scopes ctx.bases label ts flows p f law s h

  -- the value that a local is bound to has lawful labels, for some expected type
  record IsLabelled (env : Env) (e : Expr) (labels : Labels e) : Type 0 where
    want : Option Tree
    law : Lawful ctx declared env want e labels

  bound_value : (env : Env) (seen : NamesBound) (n : Name) (r : NameMeaning) (a : Option Tree) (e : Expr) (labels : Labels e)
      (flows : FlowLabels) (after : Env) → LawfulBinding m ctx declared env seen n r a e labels flows after
      → IsLabelled env e labels
  bound_value env seen n (meaning.Local x) a e labels flows after law = record { want = _; law = law.value }
  bound_value env seen n (meaning.Const x) a e labels flows after law = record { want = _; law = law.value }
  bound_value env seen n (meaning.Func x) a e labels flows after law = record { want = _; law = law.value }
  bound_value env seen n (meaning.Class x) a e labels flows after law = record { want = _; law = law.value }
  bound_value env seen n (meaning.Builtin x) a e labels flows after law = record { want = _; law = law.value }
  bound_value env seen n meaning.None a e labels flows after law = record { want = _; law = law.value }

  bound_flow : (env : Env) (seen : NamesBound) (n : Name) (r : NameMeaning) (a : Option Tree) (e : Expr) (labels : Labels e)
      (flows : FlowLabels) (after : Env) (p : Place) → LawfulBinding m ctx declared env seen n r a e labels flows after
      → IsFlowAt p flows f → ⊥
  bound_flow env seen n (meaning.Local x) a e labels flows after p law h = no_flow (whole_label e labels)
      (declared_type declared x ∷ []) flows p law.flow h
  bound_flow env seen n (meaning.Const x) a e labels flows after p law h = no_flows flows p f law.flow h
  bound_flow env seen n (meaning.Func x) a e labels flows after p law h = no_flows flows p f law.flow h
  bound_flow env seen n (meaning.Class x) a e labels flows after p law h = no_flows flows p f law.flow h
  bound_flow env seen n (meaning.Builtin x) a e labels flows after p law h = no_flows flows p f law.flow h
  bound_flow env seen n meaning.None a e labels flows after p law h = no_flows flows p f law.flow h

  -- targets of assignments
  target_said : (env : Env) (t : Target) (target : TargetLabels t) (e : Expr) (labels : Labels e) (flows : FlowLabels)
      → LawfulStore m ctx declared env t target e labels flows → TargetFinds m ctx t target f → SaidIn (target_exprs t)
  target_said env (to_name n) target e labels flows law h = absurd h
  target_said env (to_attribute p o n) target e labels flows law h = elim h [
    | inl a ↦ absurd (not_of_scopes p target.codes f (subst Silent (sym law.codes)
        (stored_fields_silent ctx n.text (members (type_of o target.object)))) s a)
    | inr b ↦ of_expr env None o target.object [] law.object b
  ]
  target_said env (to_index p o i) target e labels flows law h = elim h [
    | inl a ↦ absurd (not_of_scopes p target.codes f (subst Silent (sym law.codes)
        (stored_items_silent (members (type_of o target.object)))) s a)
    | inr b ↦ elim b [
      | inl c ↦ absurd (no_flow (whole_label i target.key) _ target.key_flows _ law.key_flow c)
      | inr d ↦ elim d [
        | inl x ↦ of_expr env None o target.object (i ∷ []) law.object x
        | inr y ↦
            in_rest o (i ∷ []) (of_expr env None i target.key [] law.key y)
      ]
    ]
  ]

  store_value : (env : Env) (t : Target) (target : TargetLabels t) (e : Expr) (labels : Labels e) (flows : FlowLabels)
      → LawfulStore m ctx declared env t target e labels flows → IsLabelled env e labels
  store_value env (to_name n) target e labels flows law = absurd law
  store_value env (to_attribute p o n) target e labels flows law = record { want = _; law = law.value }
  store_value env (to_index p o i) target e labels flows law = record { want = _; law = law.value }

  store_flow : (env : Env) (t : Target) (target : TargetLabels t) (e : Expr) (labels : Labels e) (flows : FlowLabels)
      (p : Place) → LawfulStore m ctx declared env t target e labels flows → IsFlowAt p flows f → ⊥
  store_flow env (to_name n) target e labels flows p law h = law
  store_flow env (to_attribute q o n) target e labels flows p law h = no_flow (whole_label e labels) _ flows p law.flow
      h
  store_flow env (to_index q o i) target e labels flows p law h = no_flow (whole_label e labels) _ flows p law.flow h

  assigned_said : (env : Env) (seen : NamesBound) (p : Place) (t : Target) (target : TargetLabels t) (e : Expr)
      (labels : Labels e) (flows : FlowLabels) (after : Env) → LawfulAssignment m ctx declared env seen t target e
      labels flows after → IsFlowAt p flows f ⊎ (Finds e labels f ⊎ TargetFinds m ctx t target f)
      → SaidIn (e ∷ target_exprs t)
  assigned_said env seen p (to_name n) target e labels flows after law h = elim h [
    | inl a ↦ absurd (bound_flow env seen n (ctx.resolve n.text) None e labels flows after p law a)
    | inr b ↦ elim b [
      | inl c ↦ let k = bound_value env seen n (ctx.resolve n.text) None e labels flows after law in
          of_expr env k.want e labels [] k.law c
      | inr d ↦ absurd d
    ]
  ]
  assigned_said env seen p (to_attribute q o n) target e labels flows after law h = elim h [
    | inl a ↦ absurd (store_flow env (to_attribute q o n) target e labels flows p law.0 a)
    | inr b ↦ elim b [
      | inl c ↦ let k = store_value env (to_attribute q o n) target e labels flows law.0 in of_expr env k.want e labels
          (o ∷ []) k.law c
      | inr d ↦ in_rest e (o ∷ []) (target_said env (to_attribute q o n) target e labels flows law.0 d)
    ]
  ]
  assigned_said env seen p (to_index q o i) target e labels flows after law h = elim h [
    | inl a ↦ absurd (store_flow env (to_index q o i) target e labels flows p law.0 a)
    | inr b ↦ elim b [
      | inl c ↦ let k = store_value env (to_index q o i) target e labels flows law.0 in of_expr env k.want e labels
          (o ∷ i ∷ []) k.law c
      | inr d ↦ in_rest e (o ∷ i ∷ []) (target_said env (to_index q o i) target e labels flows law.0 d)
    ]
  ]

  -- an annotated name
  annotation_said : (r : NameMeaning) (first : Test) (n : Name) (a : Ann) → AnnotationFinds m ctx r first n a f → ⊥
  annotation_said (meaning.Local x) false n a h = other_code n.place _ f refl s h
  annotation_said (meaning.Local x) true n a h = no_annotation m ctx.bases f s a h
  annotation_said (meaning.Const x) first n a h = no_annotation m ctx.bases f s a h
  annotation_said (meaning.Func x) first n a h = no_annotation m ctx.bases f s a h
  annotation_said (meaning.Class x) first n a h = no_annotation m ctx.bases f s a h
  annotation_said (meaning.Builtin x) first n a h = no_annotation m ctx.bases f s a h
  annotation_said meaning.None first n a h = no_annotation m ctx.bases f s a h

  annotated_said : (env : Env) (seen : NamesBound) (p : Place) (n : Name) (a : Ann) (e : Option Expr)
      (labels : OptionLabels e) (flows : FlowLabels) (after : Env) → LawfulAnnotated m ctx declared env seen n a e
      labels flows after → IsFlowAt p flows f ⊎ OptionFinds m ctx e labels f → SaidIn (option_exprs e)
  annotated_said env seen p n a None labels flows after law h =
      elim h [ inl x ↦ absurd (no_flows flows p f law.1 x) | inr y ↦ absurd y ]
  annotated_said env seen p n a (Some e) labels flows after law h = elim h [
    | inl x ↦ absurd (bound_flow env seen n (ctx.resolve n.text) _ e labels flows after p law x)
    | inr y ↦ let k = bound_value env seen n (ctx.resolve n.text) _ e labels flows after law in
        of_expr env k.want e labels [] k.law y
  ]

  -- a finding of scopes in the iterable of a `for` is one that a part of it says
  range_said : (env : Env) (p : Place) (n : Name) (args : Exprs) (kws : Keywords)
      (labels : Labels (call p (name n) args kws)) → LawfulRange m ctx declared env (name n) args kws p labels
      → Finds (call p (name n) args kws) labels f → SaidIn (call p (name n) args kws ∷ [])
  range_said env p n args kws labels law h =
      let looked = first_or_all (parts_in_first true args) (parts_in_all true args)
      (is_instance_test (name n) args kws) in
      let behind : Said ctx (looked ++ parts_in_keywords true kws) f → SaidIn (call p (name n) args kws ∷ []) =
      λ x. record {
        expr = call p (name n) args kws;
        among = inl refl;
        says =
            said_behind ctx (call p (name n) args kws) _ f (said_behind ctx (name n) _ f x);
      } in
      elim h [
        | inl a ↦ absurd (not_of_scopes p labels.here.codes f (subst (λ x. Silent x.codes) (sym law.here)
            (calls_silent (range_offers (arguments_given args kws))
            (called_silent (arguments_given args kws) range_signature))) s a)
        | inr b ↦ elim b [
          | inl x ↦ absurd (not_of_scopes n.place [] f tt s (subst (λ k. IsFoundAt n.place k.codes f) law.callee x))
          | inr d ↦ elim d [
            | inl x ↦ absurd (no_code _ labels.second f (λ c e. absurd (grind (arith, e, law.second))) s x)
            | inr y ↦ behind (elim y [
              | inl u ↦ said_left ctx looked (parts_in_keywords true kws) f
                  (arguments_said ctx declared true f s env _ args labels.arguments law.arguments
                  (is_instance_test (name n) args kws) u)
              | inr v ↦ said_right ctx looked (parts_in_keywords true kws) f
                  (keywords_said ctx declared true f s env _ [] kws labels.keywords law.keywords v)
            ])
          ]
        ]
      ]

  range_items : (g : GivenArguments) → Silent (range_item g).codes
  range_items g = go (is_suited g range_signature)
    where
      go : (b : Test) → Silent (if b then clean Int else record { type = Any; codes = A5 ∷ [] }).codes
      go true = tt
      go false = (refl, tt)

  values_said : (env : Env) (e : Expr) (labels : Labels e) (item : Label) → LawfulValues m ctx declared env e labels
      item → Finds e labels f → SaidIn (e ∷ [])
  values_said env e labels item law h = of_expr env None e labels [] law.0 h

  iterable_said : (env : Env) (e : Expr) (labels : Labels e) (item : Label) → LawfulIterable m ctx declared env e labels
      item → Finds e labels f → SaidIn (e ∷ [])
  iterable_said env (call p (name n) args kws) labels item law h = go (is_range (ctx.resolve n.text)) law
    where
      go : (b : Test) → RangeOrValues m ctx declared b (LawfulRange m ctx declared env (name n) args kws p labels
          × (item ≡ range_item (arguments_given args kws))) (LawfulValues m ctx declared env (call p (name n) args kws)
          labels item) → SaidIn (call p (name n) args kws ∷ [])
      go true law = range_said env p n args kws labels law.0 h
      go false law = values_said env (call p (name n) args kws) labels item law h
  iterable_said env e labels item law h = values_said env e labels item law h

  values_items : (env : Env) (e : Expr) (labels : Labels e) (item : Label) → LawfulValues m ctx declared env e labels
      item → Silent item.codes
  values_items env e labels item law = subst (λ x. Silent x.codes) (sym law.1)
      (items_silent ctx.bases (type_of e labels))

  iterable_items : (env : Env) (e : Expr) (labels : Labels e) (item : Label)
      → LawfulIterable m ctx declared env e labels item → Silent item.codes
  iterable_items env (call p (name n) args kws) labels item law = go (is_range (ctx.resolve n.text)) law
    where
      go : (b : Test) → RangeOrValues m ctx declared b (LawfulRange m ctx declared env (name n) args kws p labels
          × (item ≡ range_item (arguments_given args kws))) (LawfulValues m ctx declared env (call p (name n) args kws)
          labels item) → Silent item.codes
      go true law = subst (λ x. Silent x.codes) (sym law.1) (range_items (arguments_given args kws))
      go false law = values_items env (call p (name n) args kws) labels item law
  iterable_items env e labels item law = values_items env e labels item law

  for_flow : (seen : NamesBound) (n : Name) (r : NameMeaning) (head : Env) (item : Label) (flows : FlowLabels) (inside : Env)
      (p : Place) → LawfulTarget m ctx declared seen n r head item flows inside → IsFlowAt p flows f → ⊥
  for_flow seen n (meaning.Local x) head item flows inside p law h =
      no_flow (clean item.type) (declared_type declared x ∷ []) flows p law.flow h
  for_flow seen n (meaning.Const x) head item flows inside p law h = no_flows flows p f law.0 h
  for_flow seen n (meaning.Func x) head item flows inside p law h = no_flows flows p f law.0 h
  for_flow seen n (meaning.Class x) head item flows inside p law h = no_flows flows p f law.0 h
  for_flow seen n (meaning.Builtin x) head item flows inside p law h = no_flows flows p f law.0 h
  for_flow seen n meaning.None head item flows inside p law h = no_flows flows p f law.0 h

  module _ (returned : Tree) where
    returned_said : (env : Env) (p : Place) (e : Option Expr) (labels : OptionLabels e) (flows : FlowLabels)
        → LawfulReturn m ctx declared returned env e labels flows → IsFlowAt p flows f ⊎ OptionFinds m ctx e labels f
        → SaidIn (option_exprs e)
    returned_said env p None labels flows law h = elim h [
      | inl a ↦
          absurd (no_flow (clean NoneType) (returned ∷ []) flows p law a)
      | inr b ↦ absurd b
    ]
    returned_said env p (Some e) labels flows law h = elim h [
      | inl a ↦
          absurd (no_flow (whole_label e labels) (returned ∷ []) flows p law.1 a)
      | inr b ↦ of_expr env (Some returned) e
          labels [] law.0 b
    ]

    message_said : (env : Env) (e : Option Expr) (labels : OptionLabels e) → LawfulOption m ctx declared returned env e
        labels → OptionFinds m ctx e labels f → SaidIn (option_exprs e)
    message_said env None labels law h = absurd h
    message_said env (Some e) labels law h = of_expr env None e labels [] law h

    -- a statement, and those after it where it can complete
    behind_said : (seen : NamesBound) (env : Env) (st : Stmt) (rest : Stmts) (b : Test) (s0 : StmtLabels st)
        (r : Behind b (Following (SuiteLabels rest))) (out : Option Env)
        → BehindRule b r (λ x. LawfulStmt m ctx declared returned seen env st s0 (Some x.env)
        × LawfulSuite m ctx declared returned (texts (bound_by_stmt st) ++ seen) x.env rest x.rest out)
        (LawfulStmt m ctx declared returned seen env st s0 None
        × AreUndeclared m ctx declared (texts (bound_by_stmt st) ++ seen) (bound_by rest) × (out ≡ None))
        → StmtFinds m ctx seen st s0 f ⊎ BehindRule b r (λ x. SuiteFinds m ctx (texts (bound_by_stmt st) ++ seen) rest
        x.rest f) ⊥
        → ((o : Option Env) → LawfulStmt m ctx declared returned seen env st s0 o → StmtFinds m ctx seen st s0 f
        → SaidIn (exprs_in true st))
        → ((x : Env) (k : SuiteLabels rest) → LawfulSuite m ctx declared returned (texts (bound_by_stmt st) ++ seen) x
        rest k out → SuiteFinds m ctx (texts (bound_by_stmt st) ++ seen) rest k f → SaidIn (exprs_in_all true rest))
        → SaidIn (exprs_in true st ++ (if b then exprs_in_all true rest else []))
    behind_said seen env st rest true s0 r out law h first next = elim h [
      | inl a ↦ in_left (exprs_in true st) (exprs_in_all true rest) (first (Some r.env) law.0 a)
      | inr c ↦ in_right (exprs_in true st) (exprs_in_all true rest) (next r.env r.rest law.1 c)
    ]
    behind_said seen env st rest false s0 r out law h first next =
        elim h [ inl a ↦ in_left (exprs_in true st) [] (first None law.0 a) | inr c ↦ absurd c ]

    mutual
      pub stmt_said : (seen : NamesBound) (env : Env) (st : Stmt) (labels : StmtLabels st) (out : Option Env)
          → LawfulStmt m ctx declared returned seen env st labels out → StmtFinds m ctx seen st labels f
          → SaidIn (exprs_in true st)
      stmt_said seen env (pass p) labels out law h = absurd h
      stmt_said seen env (breaks p) labels out law h = absurd h
      stmt_said seen env (continues p) labels out law h = absurd h
      stmt_said seen env (returns p e) labels out law h = returned_said env (option_place m ctx p e) e labels.value
          labels.flows law.0 h
      stmt_said seen env (asserts p c e) labels out law h = elim h [
        | inl a ↦ of_expr env None c labels.condition (option_exprs e) law.condition a
        | inr b ↦ in_rest c (option_exprs e) (message_said (narrow ctx.bases declared ctx.resolve false c env) e
            labels.message law.message b)
      ]
      stmt_said seen env (annotated p n a e) labels out law h = elim h [
        | inl x ↦ absurd (annotation_said (ctx.resolve n.text) (is_first seen n) n a x)
        | inr y ↦ annotated_said env seen (option_place m ctx p e) n a e labels.value labels.flows law.after law.binding
            y
      ]
      stmt_said seen env (assigns p t e) labels out law h = assigned_said env seen (place_of e) t labels.target e
          labels.value labels.flows law.after law.assignment h
      stmt_said seen env (evaluates p e) labels out law h = of_expr env None e labels [] law.0 h
      stmt_said seen env (while_loop p c b) labels out law h = elim h [
        | inl a ↦ of_expr labels.head None c labels.condition (exprs_in_all true b) law.condition a
        | inr k ↦ in_rest c (exprs_in_all true b) (suite_said seen
            (narrow ctx.bases declared ctx.resolve true c labels.head) b labels.body labels.out law.body k)
      ]
      stmt_said seen env (for_loop p n e b) labels out law h = elim h [
        | inl a ↦ absurd (not_of_scopes (place_of e) labels.item.codes f
            (iterable_items env e labels.iterable labels.item law.iterable) s a)
        | inr k ↦ elim k [
          | inl x ↦ absurd (for_flow seen n (ctx.resolve n.text) labels.head labels.item labels.flows law.inside
              (place_of e) law.target x)
          | inr y ↦ elim y [
            | inl u ↦ in_left (e ∷ []) (exprs_in_all true b) (iterable_said env e labels.iterable labels.item
                law.iterable u)
            | inr v ↦ in_rest e (exprs_in_all true b) (suite_said (n.text ∷ seen) law.inside b labels.body labels.out
                law.body v)
          ]
        ]
      ]
      stmt_said seen env (conditional p bs o) labels out law h = elim h [
        | inl a ↦ in_left (exprs_in_branches true bs) (exprs_in_all true o)
            (branches_said seen env bs labels.branches labels.last law.branches a)
        | inr k ↦ in_right (exprs_in_branches true bs) (exprs_in_all true o)
            (suite_said (texts (bound_by_branches bs) ++ seen) labels.last o labels.otherwise labels.out law.otherwise
            k)
      ]

      pub suite_said : (seen : NamesBound) (env : Env) (b : Stmts) (labels : SuiteLabels b) (out : Option Env)
          → LawfulSuite m ctx declared returned seen env b labels out → SuiteFinds m ctx seen b labels f
          → SaidIn (exprs_in_all true b)
      suite_said seen env no_stmts labels out law h = absurd h
      suite_said seen env (more_stmts st rest) labels out law h = behind_said seen env st rest (completes st)
          labels.first labels.behind out law h (λ o l k. stmt_said seen env st labels.first o l k)
          (λ x k l g. suite_said (texts (bound_by_stmt st) ++ seen) x rest k out l g)

      branches_said : (seen : NamesBound) (env : Env) (bs : Branches) (labels : BranchesLabels bs) (last : Env)
          → LawfulBranches m ctx declared returned seen env bs labels last → BranchesFind m ctx seen bs labels f
          → SaidIn (exprs_in_branches true bs)
      branches_said seen env no_branches labels last law h = absurd h
      branches_said seen env (more_branches c b rest) labels last law h = elim h [
        | inl x ↦ of_expr env None c labels.condition (exprs_in_all true b ++ exprs_in_branches true rest) law.condition
            x
        | inr k ↦ in_rest c (exprs_in_all true b ++ exprs_in_branches true rest) (elim k [
          | inl y ↦ in_left (exprs_in_all true b) (exprs_in_branches true rest)
              (suite_said seen (narrow ctx.bases declared ctx.resolve true c env) b labels.body labels.out law.body y)
          | inr z ↦ in_right (exprs_in_all true b) (exprs_in_branches true rest)
              (branches_said (texts (bound_by b) ++ seen) (narrow ctx.bases declared ctx.resolve false c env) rest
              labels.rest last law.others z)
        ])
      ]
