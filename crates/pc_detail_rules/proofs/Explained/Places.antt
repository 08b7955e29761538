-- Where there is at most one expression at each place, the type of each expression is known at its place: there are no
-- more types at a place under a labelling than expressions.
use Rattle.std.proofs.Common.{◌≡◌, ◌≤◌, ℕ, suc, ◌+◌, List, [], ◌∷◌, ◌++◌, length, Bool as Test, true, false, refl, sym}
use Rattle.std.proofs.Common.{ap, ◌∙◌, subst, inl, inr, arith, length-append, map, Contains}
use Rattle.std.proofs.lemmas.Grind.{flat_map-append}
use Rattle.std.proofs.lemmas.List.Elements.{filter-append}
use Rattle.std.specs.List.{AllByRecursion}
use Rattle.std.specs.Prelude.{◌⊎◌, filter, flat_map, if◌then◌else◌, unwrap_or, Option, Some, None}
use Rattle.pc_source.specs.declared.place.Place.{Place}
use Rattle.pc_tree.proofs.Among.{none_among, among_first}
use Rattle.pc_tree.specs.Depth.{place_of}
use Rattle.pc_tree.specs.Tree.{Expr, Exprs, Entries, Keywords, name, number, text, truth, nothing, tuple, list, dict}
use Rattle.pc_tree.specs.Tree.{negative, negation, binary, compare, is_none, is_not_none, conjunction, disjunction}
use Rattle.pc_tree.specs.Tree.{attribute, index, call, no_exprs, more_exprs, no_entries, more_entries, no_keywords}
use Rattle.pc_tree.specs.Tree.{more_keywords, Target, to_name, to_attribute, to_index, Stmt, Stmts, Branches, pass}
use Rattle.pc_tree.specs.Tree.{breaks, continues, returns, asserts, annotated, assigns, evaluates, while_loop, for_loop}
use Rattle.pc_tree.specs.Tree.{conditional, no_stmts, more_stmts, no_branches, more_branches, Member, field_member}
use Rattle.pc_tree.specs.Tree.{method_member, Constant, Item, constant_item, class_item, def_item, Module}
use Rattle.pc_scope.specs.declared.resolution.Owner.{Owner}
use Rattle.pc_scope.specs.declared.resolution.Owner.TheVariants as owners
use Rattle.pc_scope.specs.Bindings.{constants_in, functions_in, classes_in, methods_in, function_bodies, method_bodies}
use Rattle.pc_scope.specs.Bindings.{Body, class_bodies}
use Rattle.pc_scope.specs.Expressions.{is_instance_test, parts_in, parts_in_all, parts_in_entries, parts_in_keywords}
use Rattle.pc_scope.specs.Expressions.{option_exprs, target_exprs, exprs_in, exprs_in_all, exprs_in_branches}
use Rattle.pc_scope.specs.Reach.{completes}
use Rattle.pc_types.specs.Tree.{Tree, Any}
use Rattle.pc_notes.specs.Notes.{is_same_place}
use Rattle.pc_rules.specs.Labels.{Labels, ItemsLabels, EntriesLabels, KeywordsLabels}
use Rattle.pc_module_rules.specs.FirstAt.{first_type_at}
use Rattle.pc_module_rules.specs.Modules.{MembersLabels, ModuleItemsLabels, Labelling}
use Rattle.pc_module_rules.specs.StatementLabels.{OptionLabels, TargetLabels, StmtLabels, SuiteLabels, BranchesLabels}
use Rattle.pc_module_rules.specs.StatementLabels.{Behind, Following, behind_list}
use Rattle.pc_module_rules.specs.TypesOfExpressions.{TypeAt, type_here, callee_here, types_inside, types_in_exprs}
use Rattle.pc_module_rules.specs.TypesOfExpressions.{types_in_arguments, types_in_entries, types_in_keywords, types_in}
use Rattle.pc_module_rules.specs.TypesOfExpressions.{types_of_arguments}
use Rattle.pc_module_rules.specs.TypesOfModules.{types_in_each, types_in_item, types_in_methods, types_in_body}
use Rattle.pc_module_rules.specs.TypesOfModules.{labelled_types}
use Rattle.pc_module_rules.specs.TypesOfStatements.{is_range_call, types_in_option, types_in_target, types_in_iterable}
use Rattle.pc_module_rules.specs.TypesOfStatements.{types_in_stmt, types_in_suite, types_in_branches}
use Rattle.pc_module_rules.proofs.Places.{own_place}
use Rattle.pc_detail_rules.specs.Facts.{known_under}
use Rattle.pc_detail_rules.specs.Laws.{HasOwnPlaces}
use Rattle.pc_detail_rules.specs.Nodes.{OwnedExpr, owned, exprs_of_body, exprs_of_module}
use Rattle.pc_detail_rules.proofs.Explained.Lists.{all_among, all_weaker}

-- ---- counts

-- how many of these pass a test
abbrev count : {A : Type 0} → (A → Test) → List A → ℕ
count test xs = length (filter test xs)

count_append : {A : Type 0} (test : A → Test) (xs ys : List A) → count test (xs ++ ys) ≡ count test xs + count test ys
count_append test xs ys = ap length (filter-append test xs ys) ∙ length-append (filter test xs) (filter test ys)

module _ (p : Place) where
  -- how many of these types are at the place
  abbrev at_types : List TypeAt → ℕ
  at_types ts = count (λ (t : TypeAt). is_same_place p t.place) ts

  -- how many of these expressions are there
  abbrev at_exprs : List Expr → ℕ
  at_exprs es = count (λ e. is_same_place p (place_of e)) es

  -- there are no more of these types than of these expressions
  record Fewer (ts : List TypeAt) (es : List Expr) : Type 0 where
    is : at_types ts ≤ at_exprs es

  nothing_fewer : (es : List Expr) → Fewer [] es
  nothing_fewer es = record { is = omega arith }

  both_fewer : (ts us : List TypeAt) (xs ys : List Expr) → Fewer ts xs → Fewer us ys → Fewer (ts ++ us) (xs ++ ys)
  both_fewer ts us xs ys h k =
      let a = count_append (λ (t : TypeAt). is_same_place p t.place) ts us in
      let b = count_append (λ (e : Expr). is_same_place p (place_of e)) xs ys in
      let c = h.is in
      let d = k.is in
      record { is = omega (arith, a, b, c, d) }

  swapped_fewer : (ts us : List TypeAt) (xs ys : List Expr) → Fewer ts xs → Fewer us ys → Fewer (us ++ ts) (xs ++ ys)
  swapped_fewer ts us xs ys h k =
      let a = count_append (λ (t : TypeAt). is_same_place p t.place) us ts in
      let b = count_append (λ (e : Expr). is_same_place p (place_of e)) xs ys in
      let c = h.is in
      let d = k.is in
      record { is = omega (arith, a, b, c, d) }

  -- among more expressions
  more_fewer : (ts : List TypeAt) (xs ys : List Expr) → Fewer ts xs → Fewer ts (xs ++ ys)
  more_fewer ts xs ys h =
      let b = count_append (λ (e : Expr). is_same_place p (place_of e)) xs ys in
      let c = h.is in
      record { is = omega (arith, b, c) }

  behind_fewer : (ts : List TypeAt) (xs ys : List Expr) → Fewer ts ys → Fewer ts (xs ++ ys)
  behind_fewer ts xs ys h =
      let b = count_append (λ (e : Expr). is_same_place p (place_of e)) xs ys in
      let c = h.is in
      record { is = omega (arith, b, c) }

  here_same : (e : Expr) (m : Labels e) → at_types (type_here e m) ≡ at_exprs (e ∷ [])
  here_same e m = go (is_same_place p (place_of e))
    where
      go : (b : Test) → length (if b then type_here e m else []) ≡ length (if b then e ∷ [] else [])
      go true = refl
      go false = refl

  whole_fewer : (e : Expr) (m : Labels e) (ts : List TypeAt) (xs : List Expr) → Fewer ts xs
      → Fewer (ts ++ type_here e m) (e ∷ xs)
  whole_fewer e m ts xs h = swapped_fewer (type_here e m) ts (e ∷ []) xs
      (record { is = omega (arith, here_same e m) }) h

  callee_same : (e : Expr) (m : Labels e) → callee_here true e m ≡ type_here e m
  callee_same (name n) m = refl
  callee_same _ m = refl

  -- ---- expressions

  two_fewer : (l r : Expr) (lm : Labels l) (rm : Labels r)
      → Fewer (types_inside true l lm ++ type_here l lm) (parts_in false l)
      → Fewer (types_inside true r rm ++ type_here r rm) (parts_in false r)
      → Fewer ((types_inside true l lm ++ type_here l lm) ++ (types_inside true r rm ++ type_here r rm))
      (parts_in false l ++ parts_in false r)
  two_fewer l r lm rm h k = both_fewer (types_inside true l lm ++ type_here l lm)
      (types_inside true r rm ++ type_here r rm) (parts_in false l) (parts_in false r) h k

  mutual
    fewer : (e : Expr) (m : Labels e) → Fewer (types_inside true e m ++ type_here e m) (parts_in false e)
    fewer (name n) m = whole_fewer (name n) m [] [] (nothing_fewer [])
    fewer (number q d) m = whole_fewer (number q d) m [] [] (nothing_fewer [])
    fewer (text q d) m = whole_fewer (text q d) m [] [] (nothing_fewer [])
    fewer (truth q b) m = whole_fewer (truth q b) m [] [] (nothing_fewer [])
    fewer (nothing q) m = whole_fewer (nothing q) m [] [] (nothing_fewer [])
    fewer (tuple q es) m = whole_fewer (tuple q es) m _ _ (items_fewer es m.items)
    fewer (list q es) m = whole_fewer (list q es) m _ _ (items_fewer es m.items)
    fewer (dict q es) m = whole_fewer (dict q es) m _ _ (entries_fewer es m.entries)
    fewer (negative q e) m = whole_fewer (negative q e) m _ _ (fewer e m.operand)
    fewer (negation q e) m = whole_fewer (negation q e) m _ _ (fewer e m.operand)
    fewer (binary q o l r) m = whole_fewer (binary q o l r) m _ _ (two_fewer l r m.left m.right (fewer l m.left)
        (fewer r m.right))
    fewer (compare q o l r) m = whole_fewer (compare q o l r) m _ _ (two_fewer l r m.left m.right (fewer l m.left)
        (fewer r m.right))
    fewer (is_none q e) m = whole_fewer (is_none q e) m _ _ (fewer e m.operand)
    fewer (is_not_none q e) m = whole_fewer (is_not_none q e) m _ _ (fewer e m.operand)
    fewer (conjunction q l r) m = whole_fewer (conjunction q l r) m _ _ (two_fewer l r m.left m.right (fewer l m.left)
        (fewer r m.right))
    fewer (disjunction q l r) m = whole_fewer (disjunction q l r) m _ _ (two_fewer l r m.left m.right (fewer l m.left)
        (fewer r m.right))
    fewer (attribute q e n) m = whole_fewer (attribute q e n) m _ _ (fewer e m.object)
    fewer (index q e i) m = whole_fewer (index q e i) m _ _ (two_fewer e i m.object m.key (fewer e m.object)
        (fewer i m.key))
    fewer (call q c args kws) m =
        let is_test = is_instance_test c args kws in
        let at_callee : Fewer (types_inside true c m.callee ++ callee_here true c m.callee) (parts_in false c) =
        subst (λ (ts : List TypeAt). Fewer (types_inside true c m.callee ++ ts) (parts_in false c))
        (sym (callee_same c m.callee)) (fewer c m.callee) in
        whole_fewer (call q c args kws) m _ _
        (both_fewer (types_inside true c m.callee ++ callee_here true c m.callee) _ (parts_in false c) _ at_callee
        (both_fewer (types_in_arguments true is_test args m.arguments) (types_in_keywords true kws m.keywords)
        (parts_in_all false args) (parts_in_keywords false kws) (arguments_fewer is_test args m.arguments)
        (keywords_fewer kws m.keywords)))

    items_fewer : (es : Exprs) (m : ItemsLabels es) → Fewer (types_in_exprs true es m) (parts_in_all false es)
    items_fewer no_exprs m = nothing_fewer []
    items_fewer (more_exprs e rest) m = both_fewer (types_inside true e m.first ++ type_here e m.first)
        (types_in_exprs true rest m.rest) (parts_in false e) (parts_in_all false rest) (fewer e m.first)
        (items_fewer rest m.rest)

    arguments_fewer : (is_test : Test) (es : Exprs) (m : ItemsLabels es)
        → Fewer (types_in_arguments true is_test es m) (parts_in_all false es)
    arguments_fewer is_test no_exprs m = nothing_fewer []
    arguments_fewer true (more_exprs e rest) m = more_fewer (types_inside true e m.first ++ type_here e m.first)
        (parts_in false e) (parts_in_all false rest) (fewer e m.first)
    arguments_fewer false (more_exprs e rest) m = both_fewer (types_inside true e m.first ++ type_here e m.first)
        (types_in_arguments true false rest m.rest) (parts_in false e) (parts_in_all false rest) (fewer e m.first)
        (arguments_fewer false rest m.rest)

    entries_fewer : (es : Entries) (m : EntriesLabels es) → Fewer (types_in_entries true es m) (parts_in_entries false es)
    entries_fewer no_entries m = nothing_fewer []
    entries_fewer (more_entries a b rest) m = both_fewer (types_inside true a m.key ++ type_here a m.key)
        ((types_inside true b m.value ++ type_here b m.value) ++ types_in_entries true rest m.rest) (parts_in false a)
        (parts_in false b ++ parts_in_entries false rest) (fewer a m.key)
        (both_fewer (types_inside true b m.value ++ type_here b m.value) (types_in_entries true rest m.rest)
        (parts_in false b) (parts_in_entries false rest) (fewer b m.value) (entries_fewer rest m.rest))

    keywords_fewer : (es : Keywords) (m : KeywordsLabels es)
        → Fewer (types_in_keywords true es m) (parts_in_keywords false es)
    keywords_fewer no_keywords m = nothing_fewer []
    keywords_fewer (more_keywords n e rest) m = both_fewer (types_inside true e m.first ++ type_here e m.first)
        (types_in_keywords true rest m.rest) (parts_in false e) (parts_in_keywords false rest) (fewer e m.first)
        (keywords_fewer rest m.rest)

  -- ---- statements

  -- the parts of these expressions
  abbrev parts : List Expr → List Expr
  parts es = flat_map (parts_in false) es

  joined_fewer : (ts us : List TypeAt) (xs ys : List Expr) → Fewer ts (parts xs) → Fewer us (parts ys)
      → Fewer (ts ++ us) (parts (xs ++ ys))
  joined_fewer ts us xs ys h k = subst (Fewer (ts ++ us)) (sym (flat_map-append (parts_in false) xs ys))
      (both_fewer ts us (parts xs) (parts ys) h k)

  one_fewer : (e : Expr) (m : Labels e) → Fewer (types_in true e m) (parts (e ∷ []))
  one_fewer e m = more_fewer (types_in true e m) (parts_in false e) [] (fewer e m)

  option_fewer : (e : Option Expr) (m : OptionLabels e) → Fewer (types_in_option true e m) (parts (option_exprs e))
  option_fewer None m = nothing_fewer []
  option_fewer (Some e) m = one_fewer e m

  target_fewer : (t : Target) (m : TargetLabels t) → Fewer (types_in_target true t m) (parts (target_exprs t))
  target_fewer (to_name n) m = nothing_fewer []
  target_fewer (to_attribute q o n) m = one_fewer o m.object
  target_fewer (to_index q o i) m = both_fewer (types_in true o m.object) (types_in true i m.key) (parts_in false o)
      (parts (i ∷ [])) (fewer o m.object) (one_fewer i m.key)

  iterable_fewer : (e : Expr) (m : Labels e) → Fewer (types_in_iterable true e m) (parts_in false e)
  iterable_fewer e m = go (is_range_call e)
    where
      given_fewer : (e : Expr) (m : Labels e) → Fewer (types_of_arguments true e m) (parts_in false e)
      given_fewer (call q c args kws) m =
          let is_test = is_instance_test c args kws in
          let given = types_in_arguments true is_test args m.arguments ++ types_in_keywords true kws m.keywords in
          behind_fewer given (call q c args kws ∷ []) (parts_in false c ++ (parts_in_all false args ++ parts_in_keywords false kws))
          (behind_fewer given (parts_in false c) (parts_in_all false args ++ parts_in_keywords false kws)
          (both_fewer (types_in_arguments true is_test args m.arguments) (types_in_keywords true kws m.keywords)
          (parts_in_all false args) (parts_in_keywords false kws) (arguments_fewer is_test args m.arguments)
          (keywords_fewer kws m.keywords)))
      given_fewer e m = nothing_fewer (parts_in false e)

      go : (b : Test) → Fewer (if b then types_of_arguments true e m else types_in true e m) (parts_in false e)
      go true = given_fewer e m
      go false = fewer e m

  after_fewer : (b : Test) (rest : Stmts) (r : Behind b (Following (SuiteLabels rest)))
      → ((k : SuiteLabels rest) → Fewer (types_in_suite true rest k) (parts (exprs_in_all false rest)))
      → Fewer (behind_list b r (λ x. types_in_suite true rest x.rest)) (parts (exprs_in_all false rest))
  after_fewer true rest r h = h r.rest
  after_fewer false rest r h = nothing_fewer (parts (exprs_in_all false rest))

  mutual
    stmt_fewer : (s : Stmt) (m : StmtLabels s) → Fewer (types_in_stmt true s m) (parts (exprs_in false s))
    stmt_fewer (pass q) m = nothing_fewer []
    stmt_fewer (breaks q) m = nothing_fewer []
    stmt_fewer (continues q) m = nothing_fewer []
    stmt_fewer (returns q e) m = option_fewer e m.value
    stmt_fewer (asserts q c e) m = both_fewer (types_in true c m.condition) (types_in_option true e m.message)
        (parts_in false c) (parts (option_exprs e)) (fewer c m.condition) (option_fewer e m.message)
    stmt_fewer (annotated q n a e) m = option_fewer e m.value
    stmt_fewer (assigns q t e) m = swapped_fewer (types_in true e m.value) (types_in_target true t m.target)
        (parts_in false e) (parts (target_exprs t)) (fewer e m.value) (target_fewer t m.target)
    stmt_fewer (evaluates q e) m = one_fewer e m
    stmt_fewer (while_loop q c b) m = both_fewer (types_in true c m.condition) (types_in_suite true b m.body)
        (parts_in false c) (parts (exprs_in_all false b)) (fewer c m.condition) (suite_fewer b m.body)
    stmt_fewer (for_loop q n e b) m = both_fewer (types_in_iterable true e m.iterable) (types_in_suite true b m.body)
        (parts_in false e) (parts (exprs_in_all false b)) (iterable_fewer e m.iterable) (suite_fewer b m.body)
    stmt_fewer (conditional q bs o) m = joined_fewer (types_in_branches true bs m.branches)
        (types_in_suite true o m.otherwise) (exprs_in_branches false bs) (exprs_in_all false o)
        (branches_fewer bs m.branches) (suite_fewer o m.otherwise)

    suite_fewer : (b : Stmts) (m : SuiteLabels b) → Fewer (types_in_suite true b m) (parts (exprs_in_all false b))
    suite_fewer no_stmts m = nothing_fewer []
    suite_fewer (more_stmts s rest) m = joined_fewer (types_in_stmt true s m.first)
        (behind_list (completes s) m.behind (λ x. types_in_suite true rest x.rest)) (exprs_in false s)
        (exprs_in_all false rest) (stmt_fewer s m.first)
        (after_fewer (completes s) rest m.behind (λ k. suite_fewer rest k))

    branches_fewer : (bs : Branches) (m : BranchesLabels bs)
        → Fewer (types_in_branches true bs m) (parts (exprs_in_branches false bs))
    branches_fewer no_branches m = nothing_fewer []
    branches_fewer (more_branches c b rest) m = both_fewer (types_in true c m.condition)
        (types_in_suite true b m.body ++ types_in_branches true rest m.rest) (parts_in false c)
        (parts (exprs_in_all false b ++ exprs_in_branches false rest)) (fewer c m.condition)
        (joined_fewer (types_in_suite true b m.body) (types_in_branches true rest m.rest) (exprs_in_all false b)
        (exprs_in_branches false rest) (suite_fewer b m.body) (branches_fewer rest m.rest))

  -- ---- bodies and items

  -- how many of these expressions of functions are there
  abbrev at_owned : List OwnedExpr → ℕ
  at_owned os = count (λ (o : OwnedExpr). is_same_place p (place_of o.expr)) os

  owned_same : (w : Owner) (es : List Expr) → at_owned (map (owned w) es) ≡ at_exprs es
  owned_same w [] = refl
  owned_same w (e ∷ es) = go (is_same_place p (place_of e)) (owned_same w es)
    where
      go : (b : Test) → at_owned (map (owned w) es) ≡ at_exprs es
          → length (if b then owned w e ∷ filter (λ (o : OwnedExpr). is_same_place p (place_of o.expr)) (map (owned w) es)
          else filter (λ (o : OwnedExpr). is_same_place p (place_of o.expr)) (map (owned w) es))
          ≡ length (if b then e ∷ filter (λ x. is_same_place p (place_of x)) es
          else filter (λ x. is_same_place p (place_of x)) es)
      go true h = ap suc h
      go false h = h

  -- the expressions of these bodies at the place
  abbrev in_bodies : List Body → ℕ
  in_bodies bs = at_owned (flat_map exprs_of_body bs)

  body_more : (b : Body) (rest : List Body) → in_bodies (b ∷ rest)
      ≡ at_exprs (parts (exprs_in_all false b.function.body)) + in_bodies rest
  body_more b rest = count_append (λ (o : OwnedExpr). is_same_place p (place_of o.expr)) (exprs_of_body b)
      (flat_map exprs_of_body rest)
      ∙ ap (λ (n : ℕ). n + in_bodies rest) (owned_same b.owner (parts (exprs_in_all false b.function.body)))

  bodies_append : (bs cs : List Body) → in_bodies (bs ++ cs) ≡ in_bodies bs + in_bodies cs
  bodies_append bs cs = ap at_owned (flat_map-append exprs_of_body bs cs)
      ∙ count_append (λ (o : OwnedExpr). is_same_place p (place_of o.expr)) (flat_map exprs_of_body bs)
      (flat_map exprs_of_body cs)

  types_append : (ts us : List TypeAt) → at_types (ts ++ us) ≡ at_types ts + at_types us
  types_append ts us = count_append (λ (t : TypeAt). is_same_place p t.place) ts us

  methods_fewer : (c i : ℕ) (ms : List Member) (k : MembersLabels ms)
      → at_types (types_in_methods true ms k) ≤ in_bodies (method_bodies c i (methods_in ms))
  methods_fewer c i [] k = omega arith
  methods_fewer c i (field_member x ∷ ms) k = methods_fewer c i ms k.rest
  methods_fewer c i (method_member x ∷ ms) k =
      let a = types_append (types_in_suite true x.body k.method.body) (types_in_methods true ms k.rest) in
      let b = body_more (record { owner = owners.Method c i; function = x }) (method_bodies c (suc i) (methods_in ms)) in
      let d = (suite_fewer x.body k.method.body).is in
      let e = methods_fewer c (suc i) ms k.rest in
      omega (arith, a, b, d, e)

  -- the expressions of these constants at the place
  abbrev in_constants : List Constant → ℕ
  in_constants cs = at_owned (map (owned owners.Module) (flat_map (λ (c : Constant). parts_in false c.value) cs))

  constants_more : (c : Constant) (cs : List Constant) → in_constants (c ∷ cs)
      ≡ at_exprs (parts_in false c.value) + in_constants cs
  constants_more c cs =
      let others = flat_map (λ (x : Constant). parts_in false x.value) cs in
      owned_same owners.Module (parts_in false c.value ++ others)
      ∙ count_append (λ (e : Expr). is_same_place p (place_of e)) (parts_in false c.value) others
      ∙ ap (λ (n : ℕ). at_exprs (parts_in false c.value) + n) (sym (owned_same owners.Module others))

  items_counted : (i c : ℕ) (items : List Item) (k : ModuleItemsLabels items)
      → at_types (types_in_each (types_in_item true) items k) + at_types (types_in_each (types_in_body true) items k)
      ≤ in_constants (constants_in items)
      + (in_bodies (function_bodies i (functions_in items)) + in_bodies (class_bodies c (classes_in items)))
  items_counted i c [] k = omega arith
  items_counted i c (constant_item q x ∷ rest) k =
      let a = types_append (types_in true x.value k.first.value) (types_in_each (types_in_item true) rest k.rest) in
      let b = constants_more x (constants_in rest) in
      let d = (fewer x.value k.first.value).is in
      let e = items_counted i c rest k.rest in
      omega (arith, a, b, d, e)
  items_counted i c (class_item q x ∷ rest) k =
      let a = types_append (types_in_methods true x.members k.first) (types_in_each (types_in_body true) rest k.rest) in
      let b = bodies_append (method_bodies c 0 (methods_in x.members)) (class_bodies (suc c) (classes_in rest)) in
      let d = methods_fewer c 0 x.members k.first in
      let e = items_counted i (suc c) rest k.rest in
      omega (arith, a, b, d, e)
  items_counted i c (def_item q x ∷ rest) k =
      let a = types_append (types_in_suite true x.body k.first.body) (types_in_each (types_in_body true) rest k.rest) in
      let b = body_more (record { owner = owners.Func i; function = x }) (function_bodies (suc i) (functions_in rest)) in
      let d = (suite_fewer x.body k.first.body).is in
      let e = items_counted (suc i) c rest k.rest in
      omega (arith, a, b, d, e)

  -- there are no more types at the place than expressions
  types_counted : (m : Module) (labels : Labelling m) → at_types (labelled_types true m labels)
      ≤ at_owned (exprs_of_module m)
  types_counted m labels =
      let functions = function_bodies 0 (functions_in m.items) in
      let methods = class_bodies 0 (classes_in m.items) in
      let constants = map (owned owners.Module) (flat_map (λ (c : Constant). parts_in false c.value) (constants_in m.items))
      in
      let a = types_append (types_in_each (types_in_item true) m.items labels)
      (types_in_each (types_in_body true) m.items labels) in
      let b = count_append (λ (o : OwnedExpr). is_same_place p (place_of o.expr)) constants
      (flat_map exprs_of_body (functions ++ methods)) in
      let d = bodies_append functions methods in
      let e = items_counted 0 0 m.items labels in
      omega (arith, a, b, d, e)

  -- ---- the first type at a place

  some_counted : (ts : List TypeAt) (t : TypeAt) → t.place ≡ p → Contains ts t → 1 ≤ at_types ts
  some_counted [] t at h = absurd (none_among t h)
  some_counted (x ∷ xs) t at h =
      let a = types_append (x ∷ []) xs in
      elim (among_first x xs t h) [
        | inl e ↦ let b = one_there (ap (λ (y : TypeAt). y.place) e ∙ at) in omega (arith, a, b)
        | inr r ↦ let b = some_counted xs t at r in omega (arith, a, b)
      ]
    where
      one_there : x.place ≡ p → at_types (x ∷ []) ≡ 1
      one_there e = ap (λ (b : Test). length (if b then x ∷ [] else []))
          (subst (λ (q : Place). is_same_place p q ≡ true) (sym e) (own_place p))

  first_counted : (ts : List TypeAt) (t : TypeAt) → t.place ≡ p → Contains ts t → at_types ts ≤ 1
      → first_type_at p ts ≡ Some t.type
  first_counted [] t at h one = absurd (none_among t h)
  first_counted (x ∷ xs) t at h one = go (is_same_place p x.place) refl (among_first x xs t h)
      (λ r k. first_counted xs t at r k)
    where
      go : (b : Test) → is_same_place p x.place ≡ b → (x ≡ t) ⊎ Contains xs t
          → (Contains xs t → at_types xs ≤ 1 → first_type_at p xs ≡ Some t.type)
          → (if b then Some x.type else first_type_at p xs) ≡ Some t.type
      go true e h next = elim h [
        | inl same ↦ ap (λ (y : TypeAt). Some y.type) same
        | inr r ↦
            let a = types_append (x ∷ []) xs in
            let c = some_counted xs t at r in
            let d : at_types (x ∷ []) ≡ 1 = ap (λ (b : Test). length (if b then x ∷ [] else [])) e in
            absurd (omega (arith, a, c, d, one))
      ]
      go false e h next = elim h [
        | inl same ↦ absurd (differ (subst (λ (q : Place). is_same_place p q ≡ true)
            (sym (ap (λ (y : TypeAt). y.place) same ∙ at)) (own_place p)) e)
        | inr r ↦ let a = types_append (x ∷ []) xs in next r (omega (arith, a, one))
      ]
        where
          differ : {b : Test} → b ≡ true → b ≡ false → ⊥
          differ u v = cc (sym u ∙ v)

-- the type of each expression is known at its place
pub types_known : (m : Module) (labels : Labelling m)
    → AllByRecursion (λ (t : TypeAt). HasOwnPlaces m → (known_under m labels).types t.place ≡ t.type)
    (labelled_types true m labels)
types_known m labels = all_weaker (Contains (labelled_types true m labels))
    (λ (t : TypeAt). HasOwnPlaces m → (known_under m labels).types t.place ≡ t.type)
    (λ t h own. ap (λ (o : Option Tree). unwrap_or o Any) (first_counted t.place (labelled_types true m labels) t refl h
    (at_most_one (types_counted t.place m labels) (own t.place)))) (labelled_types true m labels)
    (all_among (labelled_types true m labels))
  where
    at_most_one : {a b : ℕ} → a ≤ b → b ≤ 1 → a ≤ 1
    at_most_one h k = omega arith
