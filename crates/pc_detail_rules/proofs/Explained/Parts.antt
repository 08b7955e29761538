-- Facts of the parts of an expression: of those that are judged, of those that are reached, of names and of callees.
use Rattle.std.proofs.Common.{◌≡◌, List, [], ◌∷◌, ◌++◌, Bool as Test, true, false, refl, subst, inl, inr, Contains}
use Rattle.std.specs.List.{AllByRecursion, cons_option}
use Rattle.std.specs.Prelude.{◌&&◌, if◌then◌else◌, filter_map, Option, Some, None}
use Rattle.std.proofs.lemmas.Option.{none-some, same_Some}
use Rattle.pc_source.specs.declared.place.Place.{Place}
use Rattle.pc_tree.proofs.Among.{none_among, among_first}
use Rattle.pc_tree.specs.Depth.{place_of}
use Rattle.pc_tree.specs.NamesAlone.{name_of_tree}
use Rattle.pc_tree.specs.Tree.{Name, Expr, Exprs, Entries, Keywords, name, number, text, truth, nothing, tuple, list, dict}
use Rattle.pc_tree.specs.Tree.{negative, negation, binary, compare, is_none, is_not_none, conjunction, disjunction}
use Rattle.pc_tree.specs.Tree.{attribute, index, call, no_exprs, more_exprs, no_entries, more_entries, no_keywords}
use Rattle.pc_tree.specs.Tree.{more_keywords, Stmt, Stmts, Branches, pass, breaks, continues, returns, asserts, annotated}
use Rattle.pc_tree.specs.Tree.{assigns, evaluates, while_loop, for_loop, conditional, no_stmts, more_stmts, no_branches}
use Rattle.pc_tree.specs.Tree.{more_branches}
use Rattle.pc_scope.specs.Expressions.{is_name, is_instance_test, first_or_all, parts_in, parts_in_all, parts_in_first}
use Rattle.pc_scope.specs.Expressions.{parts_in_entries, parts_in_keywords, other_callee, exprs_in, exprs_in_all}
use Rattle.pc_scope.specs.Expressions.{exprs_in_branches}
use Rattle.pc_scope.specs.Reach.{completes}
use Rattle.pc_module_rules.proofs.PlainCodes.{all_append}
use Rattle.pc_detail_rules.proofs.Explained.Lists.{all_left, all_right}

module _ (P : Expr → Type 0) where
  -- a fact of each of these
  abbrev Each : List Expr → Type 0
  Each es = AllByRecursion P es

  two : (xs ys us vs : List Expr) → Each (us ++ vs) → (Each us → Each xs) → (Each vs → Each ys) → Each (xs ++ ys)
  two xs ys us vs h f g = all_append P xs ys (f (all_left P us vs h)) (g (all_right P us vs h))

  chosen : (first all : List Expr) (b : Test) → Each first → Each all → Each (first_or_all first all b)
  chosen first all true h k = h
  chosen first all false h k = k

  -- ---- judged parts

  mutual
    pub judged : (e : Expr) → Each (parts_in false e) → Each (parts_in true e)
    judged (name n) h = h
    judged (number p d) h = h
    judged (text p d) h = h
    judged (truth p b) h = h
    judged (nothing p) h = h
    judged (tuple p es) h = (h.0, judged_all es h.1)
    judged (list p es) h = (h.0, judged_all es h.1)
    judged (dict p es) h = (h.0, judged_entries es h.1)
    judged (negative p e) h = (h.0, judged e h.1)
    judged (negation p e) h = (h.0, judged e h.1)
    judged (binary p o l r) h = (
      h.0,
      two (parts_in true l) (parts_in true r) (parts_in false l) (parts_in false r) h.1
          (λ k. judged l k) (λ k. judged r k),
    )
    judged (compare p o l r) h = (
      h.0,
      two (parts_in true l) (parts_in true r) (parts_in false l) (parts_in false r) h.1
          (λ k. judged l k) (λ k. judged r k),
    )
    judged (is_none p e) h = (h.0, judged e h.1)
    judged (is_not_none p e) h = (h.0, judged e h.1)
    judged (conjunction p l r) h = (
      h.0,
      two (parts_in true l) (parts_in true r) (parts_in false l) (parts_in false r)
          h.1 (λ k. judged l k) (λ k. judged r k),
    )
    judged (disjunction p l r) h = (
      h.0,
      two (parts_in true l) (parts_in true r) (parts_in false l) (parts_in false r)
          h.1 (λ k. judged l k) (λ k. judged r k),
    )
    judged (attribute p e n) h = (h.0, judged e h.1)
    judged (index p e i) h = (
      h.0,
      two (parts_in true e) (parts_in true i) (parts_in false e) (parts_in false i) h.1
          (λ k. judged e k) (λ k. judged i k),
    )
    judged (call p c args kws) h =
        let is_test = true && is_instance_test c args kws in
        let looked = first_or_all (parts_in_first true args) (parts_in_all true args) is_test in (
          h.0,
          two (parts_in true c) (looked ++ parts_in_keywords true kws) (parts_in false c)
              (parts_in_all false args ++ parts_in_keywords false kws) h.1 (λ k. judged c k)
              (λ k. two looked (parts_in_keywords true kws) (parts_in_all false args) (parts_in_keywords false kws) k
              (λ g. chosen (parts_in_first true args) (parts_in_all true args) is_test (judged_first args g)
              (judged_all args g)) (λ g. judged_keywords kws g)),
        )

    judged_all : (es : Exprs) → Each (parts_in_all false es) → Each (parts_in_all true es)
    judged_all no_exprs h = h
    judged_all (more_exprs e rest) h = two (parts_in true e) (parts_in_all true rest) (parts_in false e)
        (parts_in_all false rest) h (λ k. judged e k) (λ k. judged_all rest k)

    judged_first : (es : Exprs) → Each (parts_in_all false es) → Each (parts_in_first true es)
    judged_first no_exprs h = h
    judged_first (more_exprs e rest) h = judged e (all_left P (parts_in false e) (parts_in_all false rest) h)

    judged_entries : (es : Entries) → Each (parts_in_entries false es) → Each (parts_in_entries true es)
    judged_entries no_entries h = h
    judged_entries (more_entries a b rest) h = two (parts_in true a) (parts_in true b ++ parts_in_entries true rest)
        (parts_in false a) (parts_in false b ++ parts_in_entries false rest) h (λ k. judged a k)
        (λ k. two (parts_in true b) (parts_in_entries true rest) (parts_in false b) (parts_in_entries false rest) k
        (λ g. judged b g) (λ g. judged_entries rest g))

    judged_keywords : (es : Keywords) → Each (parts_in_keywords false es) → Each (parts_in_keywords true es)
    judged_keywords no_keywords h = h
    judged_keywords (more_keywords n e rest) h = two (parts_in true e) (parts_in_keywords true rest) (parts_in false e)
        (parts_in_keywords false rest) h (λ k. judged e k) (λ k. judged_keywords rest k)

  -- ---- reached expressions

  after_reached : (c : Test) (rest : Stmts) → Each (exprs_in_all true rest)
      → Each (if c then exprs_in_all true rest else [])
  after_reached true rest h = h
  after_reached false rest h = tt

  mutual
    reached_stmt : (s : Stmt) → Each (exprs_in false s) → Each (exprs_in true s)
    reached_stmt (pass p) h = h
    reached_stmt (breaks p) h = h
    reached_stmt (continues p) h = h
    reached_stmt (returns p e) h = h
    reached_stmt (asserts p c e) h = h
    reached_stmt (annotated p n a e) h = h
    reached_stmt (assigns p t e) h = h
    reached_stmt (evaluates p e) h = h
    reached_stmt (while_loop p c b) h = (h.0, reached b h.1)
    reached_stmt (for_loop p n e b) h = (h.0, reached b h.1)
    reached_stmt (conditional p bs o) h = two (exprs_in_branches true bs) (exprs_in_all true o)
        (exprs_in_branches false bs) (exprs_in_all false o) h (λ k. reached_branches bs k) (λ k. reached o k)

    pub reached : (b : Stmts) → Each (exprs_in_all false b) → Each (exprs_in_all true b)
    reached no_stmts h = h
    reached (more_stmts s rest) h = two (exprs_in true s) (if completes s then exprs_in_all true rest else [])
        (exprs_in false s) (exprs_in_all false rest) h (λ k. reached_stmt s k)
        (λ k. after_reached (completes s) rest (reached rest k))

    reached_branches : (bs : Branches) → Each (exprs_in_branches false bs) → Each (exprs_in_branches true bs)
    reached_branches no_branches h = h
    reached_branches (more_branches c b rest) h = (
      h.0,
      two (exprs_in_all true b) (exprs_in_branches true rest) (exprs_in_all false b) (exprs_in_branches false rest) h.1
          (λ k. reached b k) (λ k. reached_branches rest k),
    )

  -- ---- names

  pub named_part : (es : List Expr) (n : Name) → Each es → Contains (filter_map name_of_tree es) n → P (name n)
  named_part [] n h c = absurd (none_among n c)
  named_part (name k ∷ es) n h c = elim (among_first k (filter_map name_of_tree es) n c) [
    | inl e ↦ subst (λ x. P (name x)) e h.0
    | inr r ↦ named_part es n h.1 r
  ]
  named_part (_ ∷ es) n h c = named_part es n h.1 c

  -- ---- parts of parts

  -- the fact holds of each part of an expression
  abbrev Whole : Expr → Type 0
  Whole e = Each (parts_in false e)

  whole_two : (xs ys : List Expr) → Each (xs ++ ys) → (Each xs → AllByRecursion Whole xs) → (Each ys → AllByRecursion Whole ys)
      → AllByRecursion Whole (xs ++ ys)
  whole_two xs ys h f g = all_append Whole xs ys (f (all_left P xs ys h)) (g (all_right P xs ys h))

  mutual
    -- of each part it holds of that part's parts
    pub closed : (e : Expr) → Whole e → AllByRecursion Whole (parts_in false e)
    closed (name n) h = (h, tt)
    closed (number p d) h = (h, tt)
    closed (text p d) h = (h, tt)
    closed (truth p b) h = (h, tt)
    closed (nothing p) h = (h, tt)
    closed (tuple p es) h = (h, closed_all es h.1)
    closed (list p es) h = (h, closed_all es h.1)
    closed (dict p es) h = (h, closed_entries es h.1)
    closed (negative p e) h = (h, closed e h.1)
    closed (negation p e) h = (h, closed e h.1)
    closed (binary p o l r) h = (h, whole_two (parts_in false l) (parts_in false r) h.1 (λ k. closed l k) (λ k. closed r k))
    closed (compare p o l r) h = (
      h,
      whole_two (parts_in false l) (parts_in false r) h.1 (λ k. closed l k)
          (λ k. closed r k),
    )
    closed (is_none p e) h = (h, closed e h.1)
    closed (is_not_none p e) h = (h, closed e h.1)
    closed (conjunction p l r) h = (
      h,
      whole_two (parts_in false l) (parts_in false r) h.1 (λ k. closed l k)
          (λ k. closed r k),
    )
    closed (disjunction p l r) h = (
      h,
      whole_two (parts_in false l) (parts_in false r) h.1 (λ k. closed l k)
          (λ k. closed r k),
    )
    closed (attribute p e n) h = (h, closed e h.1)
    closed (index p e i) h = (h, whole_two (parts_in false e) (parts_in false i) h.1 (λ k. closed e k) (λ k. closed i k))
    closed (call p c args kws) h = (
      h,
      whole_two (parts_in false c) (parts_in_all false args ++ parts_in_keywords false kws) h.1 (λ k. closed c k)
          (λ k. whole_two (parts_in_all false args) (parts_in_keywords false kws) k (λ g. closed_all args g)
          (λ g. closed_keywords kws g)),
    )

    closed_all : (es : Exprs) → Each (parts_in_all false es) → AllByRecursion Whole (parts_in_all false es)
    closed_all no_exprs h = tt
    closed_all (more_exprs e rest) h = whole_two (parts_in false e) (parts_in_all false rest) h (λ k. closed e k)
        (λ k. closed_all rest k)

    closed_entries : (es : Entries) → Each (parts_in_entries false es) → AllByRecursion Whole (parts_in_entries false es)
    closed_entries no_entries h = tt
    closed_entries (more_entries a b rest) h = whole_two (parts_in false a)
        (parts_in false b ++ parts_in_entries false rest) h (λ k. closed a k)
        (λ k. whole_two (parts_in false b) (parts_in_entries false rest) k (λ g. closed b g)
        (λ g. closed_entries rest g))

    closed_keywords : (es : Keywords) → Each (parts_in_keywords false es)
        → AllByRecursion Whole (parts_in_keywords false es)
    closed_keywords no_keywords h = tt
    closed_keywords (more_keywords n e rest) h = whole_two (parts_in false e) (parts_in_keywords false rest) h
        (λ k. closed e k) (λ k. closed_keywords rest k)

  -- an expression is the first of its parts
  pub first_part : (e : Expr) → Whole e → P e
  first_part (name n) h = h.0
  first_part _ h = h.0

  -- a callee that is no name, of one of these calls
  pub record Callee (place : Place) : Type 0 where
    pub callee : Expr
    pub is : P callee
    pub other : is_name callee ≡ false
    pub at : place_of callee ≡ place

  other_part : (c : Expr) (b : Test) → is_name c ≡ b → Whole c → (place : Place)
      → (if b then None else Some (place_of c)) ≡ Some place → Callee place
  other_part c true i h place e = absurd (none-some place e)
  other_part c false i h place e =
      record { callee = c; is = first_part c h; other = i; at = same_Some (place_of c) place e }

  of_call : (e : Expr) → Whole e → (place : Place) → other_callee e ≡ Some place → Callee place
  of_call (call q c args kws) h place e = other_part c (is_name c) refl
      (all_left P (parts_in false c) (parts_in_all false args ++ parts_in_keywords false kws) h.1) place e
  of_call _ h place e = absurd (none-some place e)

  pub callee_part : (es : List Expr) (place : Place) → AllByRecursion Whole es
      → Contains (filter_map other_callee es) place → Callee place
  callee_part [] place h c = absurd (none_among place c)
  callee_part (e ∷ es) place h c = go (other_callee e) refl (λ k. callee_part es place h.1 k) c
    where
      go : (o : Option Place) → other_callee e ≡ o → (Contains (filter_map other_callee es) place → Callee place)
          → Contains (cons_option o (filter_map other_callee es)) place → Callee place
      go None i next c = next c
      go (Some q) i next c = elim (among_first q (filter_map other_callee es) place c) [
        | inl same ↦ of_call e h.0 place (subst (λ (x : Place). other_callee e ≡ Some x) same i)
        | inr r ↦ next r
      ]
