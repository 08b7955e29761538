-- Each E02 and E03 of a judged part of an expression of statements is under the statements' labels.
use Rattle.std.proofs.Common.{◌≡◌, List, [], ◌∷◌, ◌++◌, refl, sym, ap, subst, inl, inr, arith}
use Rattle.std.specs.Prelude.{◌⊎◌, Bool as Test, true, false, if◌then◌else◌, Option, Some, None}
use Rattle.pc_source.specs.declared.place.Place.{Place}
use Rattle.pc_tree.specs.declared.code.Finding.{Finding}
use Rattle.pc_tree.specs.Stopping.{bound_by, bound_by_stmt, bound_by_branches}
use Rattle.pc_tree.specs.Tree.{Name, Expr, name, call, Exprs, Keywords, Ann, Target, to_name, to_attribute, to_index}
use Rattle.pc_tree.specs.Tree.{Stmt, Stmts, Branches, pass, breaks, continues, returns, asserts, annotated, assigns}
use Rattle.pc_tree.specs.Tree.{evaluates, while_loop, for_loop, conditional, no_stmts, more_stmts, no_branches}
use Rattle.pc_tree.specs.Tree.{more_branches, Module}
use Rattle.pc_scope.specs.declared.resolution.NameMeaning.{NameMeaning}
use Rattle.pc_scope.specs.declared.resolution.NameMeaning.TheVariants as meaning
use Rattle.pc_scope.specs.Bindings.{texts}
use Rattle.pc_scope.specs.Reach.{completes}
use Rattle.pc_scope.specs.Expressions.{is_instance_test, first_or_all, parts_in, parts_in_all, parts_in_first}
use Rattle.pc_scope.specs.Expressions.{parts_in_keywords, target_exprs, option_exprs, exprs_in, exprs_in_all}
use Rattle.pc_scope.specs.Expressions.{exprs_in_branches}
use Rattle.pc_types.specs.Tree.{Tree}
use Rattle.pc_flow.specs.Environment.{Env}
use Rattle.pc_flow.specs.Narrowing.{narrow}
use Rattle.pc_rules.specs.Operations.{Label}
use Rattle.pc_rules.specs.Context.{Context}
use Rattle.pc_rules.specs.Calls.{arguments_given, is_range, range_item}
use Rattle.pc_rules.specs.Labels.{FlowLabels, Labels, Finds}
use Rattle.pc_rules.specs.Lawful.{Lawful}
use Rattle.pc_rules.proofs.Saying.{IsPart, part_either, IsEarlyHere, NameSays, PartSays}
use Rattle.pc_rules.proofs.SaidInLabels.{arguments_found, first_found, items_found, keywords_found, said_found}
use Rattle.pc_module_rules.specs.StatementLabels.{OptionLabels, TargetLabels, StmtLabels, SuiteLabels, BranchesLabels}
use Rattle.pc_module_rules.specs.StatementLabels.{Behind, Following, BehindRule}
use Rattle.pc_module_rules.specs.Statements.{NamesBound, RangeOrValues, LawfulRange, LawfulValues, LawfulIterable}
use Rattle.pc_module_rules.specs.Statements.{LawfulBinding, LawfulStore, LawfulAssignment, LawfulAnnotated}
use Rattle.pc_module_rules.specs.Statements.{LawfulReturn, LawfulOption, AreUndeclared, LawfulStmt, LawfulSuite}
use Rattle.pc_module_rules.specs.Statements.{LawfulBranches, OptionFinds, TargetFinds, StmtFinds, SuiteFinds}
use Rattle.pc_module_rules.specs.Statements.{BranchesFind}

module _ (m : Module) (ctx : Context) (declared : List Tree) (part : Expr) (f : Finding) (says : PartSays ctx part f)
    (expr : Expr) (judged : IsPart part (parts_in true expr)) where
  is_found : (env : Env) (want : Option Tree) (e : Expr) (labels : Labels e) → Lawful ctx declared env want e labels
      → e ≡ expr → Finds e labels f
  is_found env want e labels law is = said_found ctx declared part f says env want e labels law
      (subst (λ x. IsPart part (parts_in true x)) (sym is) judged)

  -- ---- values and targets

  bound_found : (env : Env) (seen : NamesBound) (n : Name) (r : NameMeaning) (a : Option Tree) (e : Expr) (labels : Labels e)
      (flows : FlowLabels) (after : Env) → LawfulBinding m ctx declared env seen n r a e labels flows after → e ≡ expr
      → Finds e labels f
  bound_found env seen n (meaning.Local x) a e labels flows after law is = is_found env _ e labels law.value is
  bound_found env seen n (meaning.Const x) a e labels flows after law is = is_found env _ e labels law.value is
  bound_found env seen n (meaning.Func x) a e labels flows after law is = is_found env _ e labels law.value is
  bound_found env seen n (meaning.Class x) a e labels flows after law is = is_found env _ e labels law.value is
  bound_found env seen n (meaning.Builtin x) a e labels flows after law is = is_found env _ e labels law.value is
  bound_found env seen n meaning.None a e labels flows after law is = is_found env _ e labels law.value is

  store_found : (env : Env) (t : Target) (target : TargetLabels t) (e : Expr) (labels : Labels e) (flows : FlowLabels)
      → LawfulStore m ctx declared env t target e labels flows → IsPart expr (e ∷ target_exprs t) → Finds e labels f
      ⊎ TargetFinds m ctx t target f
  store_found env (to_name n) target e labels flows law h = absurd law
  store_found env (to_attribute p o n) target e labels flows law h = elim h [
    | inl is ↦ inl (is_found env _ e labels law.value is)
    | inr b ↦ elim b [ inl is ↦ inr (inr (is_found env None o target.object law.object is)) | inr c ↦ absurd c ]
  ]
  store_found env (to_index p o i) target e labels flows law h = elim h [
    | inl is ↦ inl (is_found env _ e labels law.value is)
    | inr b ↦ elim b [
      | inl is ↦ inr (inr (inr (inl (is_found env None o target.object law.object is))))
      | inr c ↦ elim c [ inl is ↦ inr (inr (inr (inr (is_found env None i target.key law.key is)))) | inr d ↦ absurd d ]
    ]
  ]

  assigned_found : (env : Env) (seen : NamesBound) (t : Target) (target : TargetLabels t) (e : Expr) (labels : Labels e)
      (flows : FlowLabels) (after : Env) → LawfulAssignment m ctx declared env seen t target e labels flows after
      → IsPart expr (e ∷ target_exprs t) → Finds e labels f ⊎ TargetFinds m ctx t target f
  assigned_found env seen (to_name n) target e labels flows after law h =
      elim h [
        | inl is ↦ inl (bound_found env seen n (ctx.resolve n.text) None e labels flows after law is)
        | inr b ↦
            absurd b
      ]
  assigned_found env seen (to_attribute p o n) target e labels flows after law h = store_found env (to_attribute p o n)
      target e labels flows law.0 h
  assigned_found env seen (to_index p o i) target e labels flows after law h = store_found env (to_index p o i) target e
      labels flows law.0 h

  annotated_found : (env : Env) (seen : NamesBound) (n : Name) (a : Ann) (e : Option Expr) (labels : OptionLabels e)
      (flows : FlowLabels) (after : Env) → LawfulAnnotated m ctx declared env seen n a e labels flows after
      → IsPart expr (option_exprs e) → OptionFinds m ctx e labels f
  annotated_found env seen n a None labels flows after law h = absurd h
  annotated_found env seen n a (Some e) labels flows after law h =
      elim h [ inl is ↦ bound_found env seen n (ctx.resolve n.text) _ e labels flows after law is | inr b ↦ absurd b ]

  -- ---- iterables of `for` loops

  -- `range` is a name that means something
  not_range : (n : Name) → is_range (ctx.resolve n.text) ≡ true → NameSays ctx n f → ⊥
  not_range n is h = elim h [
    | inl a ↦ absurd (grind (arith, ap is_range a.0, is))
    | inr b ↦ go (ctx.resolve n.text) is b.0
  ]
    where
      go : (r : NameMeaning) → is_range r ≡ true → IsEarlyHere ctx r → ⊥
      go (meaning.Builtin b) e h = h
      go (meaning.Local x) e h = h
      go (meaning.Const x) e h = grind (arith, e)
      go (meaning.Func x) e h = grind (arith, e)
      go (meaning.Class x) e h = grind (arith, e)
      go meaning.None e h = h

  range_found : (env : Env) (p : Place) (n : Name) (args : Exprs) (kws : Keywords)
      (labels : Labels (call p (name n) args kws)) → is_range (ctx.resolve n.text) ≡ true
      → LawfulRange m ctx declared env (name n) args kws p labels → call p (name n) args kws ≡ expr
      → Finds (call p (name n) args kws) labels f
  range_found env p n args kws labels range law is = elim (subst (λ x. IsPart part (parts_in true x)) (sym is) judged) [
    | inl a ↦ let k = subst (λ x. PartSays ctx x f) (sym a) says in absurd (grind (arith, k.0))
    | inr b ↦ elim b [
      | inl c ↦ absurd (not_range n range (subst (λ x. PartSays ctx x f) (sym c) says))
      | inr d ↦
          inr
          (inr
          (inr
          (elim (part_either part (first_or_all (parts_in_first true args) (parts_in_all true args)
          (is_instance_test (name n) args kws)) (parts_in_keywords true kws) d) [
            | inl u ↦ inl (arguments_found ctx declared part f says args labels.arguments
                (first_found ctx declared part f says env _ args labels.arguments law.arguments)
                (items_found ctx declared part f says env _ args labels.arguments law.arguments)
                (is_instance_test (name n) args kws) u)
            | inr v ↦ inr (keywords_found ctx declared part f says env _ [] kws labels.keywords law.keywords v)
          ])))
    ]
  ]

  iterable_found : (env : Env) (e : Expr) (labels : Labels e) (item : Label)
      → LawfulIterable m ctx declared env e labels item → e ≡ expr → Finds e labels f
  iterable_found env (call p (name n) args kws) labels item law is = go (is_range (ctx.resolve n.text)) refl law
    where
      go : (b : Test) → is_range (ctx.resolve n.text) ≡ b → RangeOrValues m ctx declared b
          (LawfulRange m ctx declared env (name n) args kws p labels × (item ≡ range_item (arguments_given args kws)))
          (LawfulValues m ctx declared env (call p (name n) args kws) labels item)
          → Finds (call p (name n) args kws) labels f
      go true range law = range_found env p n args kws labels range law.0 is
      go false range law = is_found env None (call p (name n) args kws) labels law.0 is
  iterable_found env e labels item law is = is_found env None e labels law.0 is

  -- ---- statements

  module _ (returned : Tree) where
    returned_found : (env : Env) (e : Option Expr) (labels : OptionLabels e) (flows : FlowLabels)
        → LawfulReturn m ctx declared returned env e labels flows → IsPart expr (option_exprs e)
        → OptionFinds m ctx e labels f
    returned_found env None labels flows law h = absurd h
    returned_found env (Some e) labels flows law h = elim h [
      | inl is ↦ is_found env (Some returned) e labels law.0 is
      | inr b ↦ absurd b
    ]

    message_found : (env : Env) (e : Option Expr) (labels : OptionLabels e) → LawfulOption m ctx declared returned env e
        labels → IsPart expr (option_exprs e) → OptionFinds m ctx e labels f
    message_found env None labels law h = absurd h
    message_found env (Some e) labels law h = elim h [ inl is ↦ is_found env None e labels law is | inr b ↦ absurd b ]

    behind_found : (seen : NamesBound) (env : Env) (st : Stmt) (rest : Stmts) (b : Test) (s0 : StmtLabels st)
        (r : Behind b (Following (SuiteLabels rest))) (out : Option Env)
        → BehindRule b r (λ x. LawfulStmt m ctx declared returned seen env st s0 (Some x.env)
        × LawfulSuite m ctx declared returned (texts (bound_by_stmt st) ++ seen) x.env rest x.rest out)
        (LawfulStmt m ctx declared returned seen env st s0 None
        × AreUndeclared m ctx declared (texts (bound_by_stmt st) ++ seen) (bound_by rest) × (out ≡ None))
        → IsPart expr (exprs_in true st ++ (if b then exprs_in_all true rest else []))
        → ((o : Option Env) → LawfulStmt m ctx declared returned seen env st s0 o → IsPart expr (exprs_in true st)
        → StmtFinds m ctx seen st s0 f)
        → ((x : Env) (k : SuiteLabels rest) → LawfulSuite m ctx declared returned (texts (bound_by_stmt st) ++ seen) x
        rest k out → IsPart expr (exprs_in_all true rest) → SuiteFinds m ctx (texts (bound_by_stmt st) ++ seen) rest
        k f)
        → StmtFinds m ctx seen st s0 f ⊎ BehindRule b r (λ x. SuiteFinds m ctx (texts (bound_by_stmt st) ++ seen) rest
        x.rest f) ⊥
    behind_found seen env st rest true s0 r out law h first next =
        elim (part_either expr (exprs_in true st) (exprs_in_all true rest) h) [
          | inl a ↦ inl (first (Some r.env) law.0 a)
          | inr c ↦ inr (next r.env r.rest law.1 c)
        ]
    behind_found seen env st rest false s0 r out law h first next = elim (part_either expr (exprs_in true st) [] h)
        [ inl a ↦ inl (first None law.0 a) | inr c ↦ absurd c ]

    mutual
      pub stmt_found : (seen : NamesBound) (env : Env) (st : Stmt) (labels : StmtLabels st) (out : Option Env)
          → LawfulStmt m ctx declared returned seen env st labels out → IsPart expr (exprs_in true st)
          → StmtFinds m ctx seen st labels f
      stmt_found seen env (pass p) labels out law h = h
      stmt_found seen env (breaks p) labels out law h = h
      stmt_found seen env (continues p) labels out law h = h
      stmt_found seen env (returns p e) labels out law h = inr (returned_found env e labels.value labels.flows law.0 h)
      stmt_found seen env (asserts p c e) labels out law h = elim h [
        | inl is ↦ inl (is_found env None c labels.condition law.condition is)
        | inr b ↦ inr (message_found (narrow ctx.bases declared ctx.resolve false c env) e labels.message law.message b)
      ]
      stmt_found seen env (annotated p n a e) labels out law h =
          inr (inr (annotated_found env seen n a e labels.value labels.flows law.after law.binding h))
      stmt_found seen env (assigns p t e) labels out law h = inr
          (assigned_found env seen t labels.target e labels.value labels.flows law.after law.assignment h)
      stmt_found seen env (evaluates p e) labels out law h = elim h [
        | inl is ↦ is_found env None e labels law.0 is
        | inr b ↦ absurd b
      ]
      stmt_found seen env (while_loop p c b) labels out law h = elim h [
        | inl is ↦ inl (is_found labels.head None c labels.condition law.condition is)
        | inr k ↦ inr (suite_found seen (narrow ctx.bases declared ctx.resolve true c labels.head) b labels.body
            labels.out law.body k)
      ]
      stmt_found seen env (for_loop p n e b) labels out law h = elim h [
        | inl is ↦ inr (inr (inl (iterable_found env e labels.iterable labels.item law.iterable is)))
        | inr k ↦ inr (inr (inr (suite_found (n.text ∷ seen) law.inside b labels.body labels.out law.body k)))
      ]
      stmt_found seen env (conditional p bs o) labels out law h =
          elim (part_either expr (exprs_in_branches true bs) (exprs_in_all true o) h) [
            | inl a ↦ inl (branches_found seen env bs labels.branches labels.last law.branches a)
            | inr k ↦ inr (suite_found (texts (bound_by_branches bs) ++ seen) labels.last o labels.otherwise labels.out
                law.otherwise k)
          ]

      pub suite_found : (seen : NamesBound) (env : Env) (b : Stmts) (labels : SuiteLabels b) (out : Option Env)
          → LawfulSuite m ctx declared returned seen env b labels out → IsPart expr (exprs_in_all true b)
          → SuiteFinds m ctx seen b labels f
      suite_found seen env no_stmts labels out law h = h
      suite_found seen env (more_stmts st rest) labels out law h = behind_found seen env st rest (completes st)
          labels.first labels.behind out law h (λ o l k. stmt_found seen env st labels.first o l k)
          (λ x k l g. suite_found (texts (bound_by_stmt st) ++ seen) x rest k out l g)

      branches_found : (seen : NamesBound) (env : Env) (bs : Branches) (labels : BranchesLabels bs) (last : Env)
          → LawfulBranches m ctx declared returned seen env bs labels last → IsPart expr (exprs_in_branches true bs)
          → BranchesFind m ctx seen bs labels f
      branches_found seen env no_branches labels last law h = h
      branches_found seen env (more_branches c b rest) labels last law h = elim h [
        | inl is ↦ inl (is_found env None c labels.condition law.condition is)
        | inr k ↦ inr (elim (part_either expr (exprs_in_all true b) (exprs_in_branches true rest) k) [
          | inl y ↦ inl (suite_found seen (narrow ctx.bases declared ctx.resolve true c env) b labels.body labels.out
              law.body y)
          | inr z ↦ inr (branches_found (texts (bound_by b) ++ seen) (narrow ctx.bases declared ctx.resolve false c env)
              rest labels.rest last law.others z)
        ])
      ]
