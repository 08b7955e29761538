-- In a module without silent errors no test of an instance in an initializer names too early.
use Rattle.std.proofs.Common.{◌≡◌, ℕ, zero, suc, ◌≤◌, List, [], ◌∷◌, ◌++◌, length, refl, sym, ap, ◌∙◌, subst, inl, inr}
use Rattle.std.proofs.Common.{arith, Contains, append-nil, append_assoc}
use Rattle.std.specs.Prelude.{Bool as Test, true, false, if◌then◌else◌, nat_lt, take, filter_map, Option, Some, None}
use Rattle.std.specs.Prelude.{slice_get}
use Rattle.std.specs.List.{cons_option}
use Rattle.std.proofs.lemmas.List.Elements.{Contains-append_left, Contains-append_right}
use Rattle.std.proofs.lemmas.Bool.Decides.{nat_tests}
use Rattle.std.proofs.lemmas.Bool.{false≢true, and_parts}
use Rattle.std.proofs.lemmas.Option.{none-some}
use Rattle.std.proofs.Math.Seq.{take-append_seam}
use Rattle.pc_source.specs.declared.place.Place.{Place}
use Rattle.pc_tree.proofs.Among.{none_among, among_first}
use Rattle.pc_tree.specs.declared.code.Code.TheVariants.{E03, E20}
use Rattle.pc_tree.specs.Code.{finding}
use Rattle.pc_tree.specs.Tree.{Name, Expr, name, number, text, truth, nothing, tuple, list, dict, negative, negation}
use Rattle.pc_tree.specs.Tree.{binary, compare, is_none, is_not_none, conjunction, disjunction, attribute, index, call}
use Rattle.pc_tree.specs.Tree.{Constant, Exprs, no_exprs, more_exprs, Entries, no_entries, more_entries, Keywords}
use Rattle.pc_tree.specs.Tree.{no_keywords, more_keywords, Item, constant_item, class_item, def_item, Module}
use Rattle.pc_tree.specs.NamesAlone.{name_of_tree}
use Rattle.pc_scope.specs.declared.resolution.NameMeaning.{NameMeaning}
use Rattle.pc_scope.specs.declared.resolution.NameMeaning.TheVariants as meaning
use Rattle.pc_scope.specs.Expressions.{is_instance_test, parts_in, parts_in_all, parts_in_entries, parts_in_keywords}
use Rattle.pc_scope.specs.Bindings.{constants_in, classes_in}
use Rattle.pc_scope.specs.Resolution.{resolve_in_module}
use Rattle.pc_scope_findings.specs.Findings as scope
use Rattle.pc_scope_findings.specs.Findings.{IsEarlyMeaning}
use Rattle.pc_types.specs.Tree.{Tree}
use Rattle.pc_flow.specs.Environment.{Env, current}
use Rattle.pc_rules.specs.Operations.{in_error}
use Rattle.pc_rules.specs.Context.{Context, local_label, name_label, constant_label, is_early}
use Rattle.pc_rules.specs.Signatures.{initializer_context}
use Rattle.pc_module_rules.specs.Modules.{Labelling, IsLawful, ModuleItemsLabels, BeforeItem, before_next, nothing_before}
use Rattle.pc_sound.specs.Silent.{HasNoSilentError, tested}
use Rattle.pc_sound.proofs.Lists.{get_at_end, one_longer}
use Rattle.pc_sound.proofs.Regular.RegularParts.{tests_in_time}
use Rattle.pc_sound.proofs.Regular.RegularLabels.{SecondTimely, Timely, ItemsTimely, EntriesTimely, KeywordsTimely}
use Rattle.pc_sound.proofs.Modules.TimelyBodies.{own_timely}
use Rattle.pc_sound.proofs.Regular.RegularInitializers.{InitializersTimely}
use Rattle.pc_sound.proofs.Modules.ModuleNames.{constants_append, classes_append}

-- ---- names among expressions

behind_option : (o : Option Name) (ns : List Name) (n : Name) → Contains ns n → Contains (cons_option o ns) n
behind_option None ns n c = c
behind_option (Some x) ns n c = Contains-append_right (x ∷ []) ns n c

names_among : (xs : List Expr) (n : Name) → Contains xs (name n) → Contains (filter_map name_of_tree xs) n
names_among [] n c = absurd (none_among (name n) c)
names_among (x ∷ xs) n c = elim (among_first x xs (name n) c) [
  | inl e ↦ subst (λ y. Contains (cons_option (name_of_tree y) (filter_map name_of_tree xs)) n) (sym e)
      (0, omega arith, refl)
  | inr r ↦ behind_option (name_of_tree x) (filter_map name_of_tree xs) n (names_among xs n r)
]

module _ (ctx : Context) (declared : List Tree) where
  -- a name reads in time in each environment
  abbrev pub InTime : Name → Type 0
  InTime n = (env : Env) → is_early (name_label ctx env (ctx.resolve n.text)).codes ≡ false

  -- each name that an instance test among expressions tests for reads in time
  abbrev pub TestsInTime : List Expr → Type 0
  TestsInTime xs = (p : Place) (c e : Expr) (n : Name)
      → Contains xs (call p c (more_exprs e (more_exprs (name n) no_exprs)) no_keywords)
      → Contains xs (name n) → is_instance_test c (more_exprs e (more_exprs (name n) no_exprs)) no_keywords ≡ true
      → InTime n

  left_of : (xs ys : List Expr) → TestsInTime (xs ++ ys) → TestsInTime xs
  left_of xs ys h p c e n among named is = h p c e n (Contains-append_left xs ys _ among)
      (Contains-append_left xs ys _ named) is

  right_of : (xs ys : List Expr) → TestsInTime (xs ++ ys) → TestsInTime ys
  right_of xs ys h p c e n among named is = h p c e n (Contains-append_right xs ys _ among)
      (Contains-append_right xs ys _ named) is

  under : (x : Expr) (xs : List Expr) → TestsInTime (x ∷ xs) → TestsInTime xs
  under x xs h = right_of (x ∷ []) xs h

  second_name : (p : Place) (c e f : Expr) (n : Name) → f ≡ name n
      → Contains (parts_in false (call p c (more_exprs e (more_exprs f no_exprs)) no_keywords)) (name n)
  second_name p c e f n is =
      let args = more_exprs e (more_exprs f no_exprs) in
      let here : Contains (parts_in false f) (name n) = subst (λ x. Contains (parts_in false x) (name n)) (sym is)
      (0, omega arith, refl) in
      Contains-append_right (call p c args no_keywords ∷ []) (parts_in false c ++ (parts_in_all false args ++ [])) _
      (Contains-append_right (parts_in false c) (parts_in_all false args ++ []) _
      (Contains-append_left (parts_in_all false args) [] _
      (Contains-append_right (parts_in false e) (parts_in false f ++ []) _
      (Contains-append_left (parts_in false f) [] _ here))))

  second : (p : Place) (c : Expr) (args : Exprs) (kws : Keywords) → TestsInTime (parts_in false (call p c args kws))
      → is_instance_test c args kws ≡ true → SecondTimely tests_in_time ctx declared args
  second p c no_exprs kws h is = tt
  second p c (more_exprs e no_exprs) kws h is = tt
  second p c (more_exprs e (more_exprs f no_exprs)) no_keywords h is = λ env want m law. own_timely ctx declared f
      (λ n named. h p c e n (
        0,
        omega arith,
        ap (λ x. call p c (more_exprs e (more_exprs x no_exprs)) no_keywords)
            named,
      ) (second_name p c e f n named) is) env want m law
  second p c (more_exprs e (more_exprs f no_exprs)) (more_keywords w x rest) h is =
      absurd (false≢true (and_parts _ _ is).1)
  second p c (more_exprs e (more_exprs f (more_exprs g rest))) kws h is = absurd (false≢true (and_parts _ _ is).1)

  mutual
    pub timely_of : (e : Expr) → TestsInTime (parts_in false e) → Timely tests_in_time ctx declared e
    timely_of (name n) h = tt
    timely_of (number p d) h = tt
    timely_of (text p d) h = tt
    timely_of (truth p b) h = tt
    timely_of (nothing p) h = tt
    timely_of (tuple p es) h = items_of es (under (tuple p es) (parts_in_all false es) h)
    timely_of (list p es) h = items_of es (under (list p es) (parts_in_all false es) h)
    timely_of (dict p es) h = entries_of es (under (dict p es) (parts_in_entries false es) h)
    timely_of (negative p e) h = timely_of e (under (negative p e) (parts_in false e) h)
    timely_of (negation p e) h = timely_of e (under (negation p e) (parts_in false e) h)
    timely_of (binary p o l r) h =
        let parts = under (binary p o l r) (parts_in false l ++ parts_in false r) h in (
          timely_of l (left_of (parts_in false l) (parts_in false r) parts),
          timely_of r (right_of (parts_in false l) (parts_in false r) parts),
        )
    timely_of (compare p o l r) h =
        let parts = under (compare p o l r) (parts_in false l ++ parts_in false r) h in (
          timely_of l (left_of (parts_in false l) (parts_in false r) parts),
          timely_of r (right_of (parts_in false l) (parts_in false r) parts),
        )
    timely_of (is_none p e) h = timely_of e (under (is_none p e) (parts_in false e) h)
    timely_of (is_not_none p e) h = timely_of e (under (is_not_none p e) (parts_in false e) h)
    timely_of (conjunction p l r) h =
        let parts = under (conjunction p l r) (parts_in false l ++ parts_in false r) h in (
          timely_of l (left_of (parts_in false l) (parts_in false r) parts),
          timely_of r (right_of (parts_in false l) (parts_in false r) parts),
        )
    timely_of (disjunction p l r) h =
        let parts = under (disjunction p l r) (parts_in false l ++ parts_in false r) h in (
          timely_of l (left_of (parts_in false l) (parts_in false r) parts),
          timely_of r (right_of (parts_in false l) (parts_in false r) parts),
        )
    timely_of (attribute p e n) h = timely_of e (under (attribute p e n) (parts_in false e) h)
    timely_of (index p e i) h =
        let parts = under (index p e i) (parts_in false e ++ parts_in false i) h in (
          timely_of e (left_of (parts_in false e) (parts_in false i) parts),
          timely_of i (right_of (parts_in false e) (parts_in false i) parts),
        )
    timely_of (call p c args kws) h =
        let parts = under (call p c args kws) (parts_in false c ++ (parts_in_all false args
        ++ parts_in_keywords false kws)) h in
        let others = right_of (parts_in false c) (parts_in_all false args ++ parts_in_keywords false kws) parts in
        let among = left_of (parts_in_all false args) (parts_in_keywords false kws) others in (
          (λ is. second p c args kws h is),
          (
            timely_of c (left_of (parts_in false c) (parts_in_all false args ++ parts_in_keywords false kws) parts),
            (
              items_of args among,
              keywords_of kws (right_of (parts_in_all false args) (parts_in_keywords false kws)
                  others),
            ),
          ),
        )

    items_of : (es : Exprs) → TestsInTime (parts_in_all false es) → ItemsTimely tests_in_time ctx declared es
    items_of no_exprs h = tt
    items_of (more_exprs e rest) h = (
      timely_of e (left_of (parts_in false e) (parts_in_all false rest) h),
      items_of rest (right_of (parts_in false e) (parts_in_all false rest) h),
    )

    entries_of : (es : Entries) → TestsInTime (parts_in_entries false es) → EntriesTimely tests_in_time ctx declared es
    entries_of no_entries h = tt
    entries_of (more_entries a b rest) h =
        let others = right_of (parts_in false a) (parts_in false b ++ parts_in_entries false rest) h in (
          timely_of a (left_of (parts_in false a) (parts_in false b ++ parts_in_entries false rest) h),
          (
            timely_of b (left_of (parts_in false b) (parts_in_entries false rest) others),
            entries_of rest (right_of (parts_in false b) (parts_in_entries false rest) others),
          ),
        )

    keywords_of : (es : Keywords) → TestsInTime (parts_in_keywords false es) → KeywordsTimely tests_in_time ctx declared
        es
    keywords_of no_keywords h = tt
    keywords_of (more_keywords w e rest) h = (
      timely_of e (left_of (parts_in false e) (parts_in_keywords false rest) h),
      keywords_of rest (right_of (parts_in false e) (parts_in_keywords false rest) h),
    )

-- ---- no test in an initializer of a module without silent errors names too early

past_end : {A : Type 0} (xs : List A) (i : ℕ) → slice_get xs i ≡ None → length xs ≤ i
past_end [] i e = omega arith
past_end (x ∷ xs) zero e = absurd (none-some _ (sym e))
past_end (x ∷ xs) (suc i) e = let h = past_end xs i e in omega (arith, h)

-- a name of an initializer that is not early reads in time
in_time : (m : Module) (constants : List Tree) (known : ℕ) (r : NameMeaning) → (IsEarlyMeaning (length constants) known r → ⊥)
    → (env : Env) → is_early (name_label (initializer_context m constants known) env r).codes ≡ false
in_time m constants known (meaning.Local x) h env = of_local (current env x)
  where
    of_local : (o : Option Tree) → is_early (local_label o).codes ≡ false
    of_local None = refl
    of_local (Some t) = refl
in_time m constants known (meaning.Const i) h env = go (slice_get constants i) refl
  where
    go : (o : Option Tree) → slice_get constants i ≡ o → is_early (constant_label o).codes ≡ false
    go None e = absurd (h (past_end constants i e))
    go (Some t) e = refl
in_time m constants known (meaning.Func i) h env = absurd (h tt)
in_time m constants known (meaning.Class c) h env = go (nat_lt c known) refl
  where
    go : (b : Test) → nat_lt c known ≡ b → is_early (if b then in_error E20 else in_error E03).codes ≡ false
    go true e = refl
    go false e = absurd (h (grind (arith, nat_tests, e)))
in_time m constants known (meaning.Builtin b) h env = refl
in_time m constants known meaning.None h env = refl

module _ (m : Module) (labels : Labelling m) (lawful : IsLawful m labels) (clean : HasNoSilentError m) where
  none_early : (done : List Item) (p : Place) (c : Constant) (rest : List Item) → done ++ constant_item p c ∷ rest
      ≡ m.items → (q : Place) (callee e : Expr) (n : Name) → Contains (parts_in false c.value)
      (call q callee (more_exprs e (more_exprs (name n) no_exprs)) no_keywords)
      → Contains (parts_in false c.value) (name n)
      → is_instance_test callee (more_exprs e (more_exprs (name n) no_exprs)) no_keywords ≡ true
      → IsEarlyMeaning (length (constants_in done)) (length (classes_in done)) (resolve_in_module m n.text) → ⊥
  none_early done p c rest whole q callee e n among named test early =
      clean (finding n.place E03) (record {
        labels = labels;
        lawful = lawful;
        found = inl (scope.early (record {
          at = length done;
          first = p;
          constant = c;
          item = subst (λ l. slice_get l (length done) ≡ Some (constant_item p c)) whole
              (get_at_end done (constant_item p c) rest);
          found =
              inl (record {
                n = n;
                named = names_among (parts_in false c.value) n named;
                early = subst (λ l. IsEarlyMeaning (length (constants_in l))
                    (length (classes_in l)) (resolve_in_module m n.text)) (sym taken) early;
                is = refl;
              });
        }));
      }) (tested (record {
        constant = c;
        of = subst (λ l. Contains l c) (sym (ap constants_in (sym whole)
            ∙ constants_append done (constant_item p c ∷ rest)))
            (Contains-append_right (constants_in done) (c ∷ constants_in rest) c (0, omega arith, refl));
        place = q;
        callee = callee;
        first = e;
        n = n;
        among = among;
        test = test;
        is = refl;
      }))
    where
      taken : take (length done) m.items ≡ done
      taken = ap (take (length done)) (sym whole) ∙ take-append_seam done (constant_item p c ∷ rest)

  timely_items : (done : List Item) (b : BeforeItem) (items : List Item) (labels : ModuleItemsLabels items)
      → done ++ items ≡ m.items → length b.constants ≡ length (constants_in done) → b.classes ≡ length (classes_in done)
      → InitializersTimely tests_in_time m b items labels
  timely_items done b [] labels whole constants classes = tt
  timely_items done b (constant_item p c ∷ rest) labels whole constants classes = (
    timely_of (initializer_context m b.constants b.classes) [] c.value
        (λ q callee e n among named test. in_time m b.constants b.classes (resolve_in_module m n.text)
        (λ early. none_early done p c rest whole q callee e n among named test
        (subst (λ k. IsEarlyMeaning k (length (classes_in done)) (resolve_in_module m n.text)) constants
        (subst (λ k. IsEarlyMeaning (length b.constants) k (resolve_in_module m n.text)) classes early)))),
    timely_items (done ++ constant_item p c ∷ []) (before_next m b (constant_item p c) labels.first) rest labels.rest
        (append_assoc done (constant_item p c ∷ []) rest ∙ whole)
        (one_longer b.constants _ ∙ (ap suc constants ∙ (sym (one_longer (constants_in done) c)
        ∙ ap length (sym (constants_append done (constant_item p c ∷ []))))))
        (classes ∙ ap length (sym (classes_append done (constant_item p c ∷ []) ∙ append-nil (classes_in done)))),
  )
  timely_items done b (class_item p c ∷ rest) labels whole constants classes =
      timely_items (done ++ class_item p c ∷ []) (before_next m b (class_item p c) labels.first) rest labels.rest
      (append_assoc done (class_item p c ∷ []) rest ∙ whole)
      (constants ∙ ap length (sym (constants_append done (class_item p c ∷ []) ∙ append-nil (constants_in done))))
      (ap suc classes ∙ (sym (one_longer (classes_in done) c) ∙ ap length
      (sym (classes_append done (class_item p c ∷ [])))))
  timely_items done b (def_item p f ∷ rest) labels whole constants classes =
      timely_items (done ++ def_item p f ∷ []) (before_next m b (def_item p f) labels.first) rest labels.rest
      (append_assoc done (def_item p f ∷ []) rest ∙ whole)
      (constants ∙ ap length (sym (constants_append done (def_item p f ∷ []) ∙ append-nil (constants_in done))))
      (classes ∙ ap length (sym (classes_append done (def_item p f ∷ []) ∙ append-nil (classes_in done))))

  pub initializers_timely : InitializersTimely tests_in_time m nothing_before m.items labels
  initializers_timely = timely_items [] nothing_before m.items labels refl refl refl
