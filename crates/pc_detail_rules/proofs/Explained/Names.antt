-- Each finding of a name has a detail: E01, E02, E03.
use Rattle.std.proofs.Common.{◌≡◌, ◌+◌, ◌<◌, ℕ, zero, suc, List, [], ◌∷◌, ◌++◌, length, Bool as Test, true, false}
use Rattle.std.proofs.Common.{refl, sym, ap, ◌∙◌, subst, inl, inr, arith, map, Contains}
use Rattle.std.proofs.lemmas.List.Elements.{Contains-append_left, Contains-append_right}
use Rattle.std.proofs.lemmas.Option.{none-some, same_Some}
use Rattle.std.proofs.lemmas.Slice.Eq.{bytes_eq-Decides}
use Rattle.std.specs.List.{AllByRecursion}
use Rattle.std.specs.Option.{option_map}
use Rattle.std.specs.Prelude.{◌&&◌, ◌||◌, not, if◌then◌else◌, flat_map, find, codes, bytes_eq, slice_get, Option}
use Rattle.std.specs.Prelude.{Some, None}
use Rattle.pc_source.specs.declared.place.Place.{Place}
use Rattle.pc_source.specs.ReservedNames.{is_reserved}
use Rattle.pc_tree.proofs.Among.{none_among, first_among, later_among, either}
use Rattle.pc_tree.specs.declared.code.Code.TheVariants.{E02, E03}
use Rattle.pc_tree.specs.declared.code.Finding.{Finding}
use Rattle.pc_tree.specs.Code.{finding}
use Rattle.pc_tree.specs.Depth.{place_of}
use Rattle.pc_tree.specs.Stopping.{is_among, one_if, name_of_item, name_of_param, of_defs, bound_again, given_again, given_in}
use Rattle.pc_tree.specs.Stopping.{given_in_all, given_in_entries, given_in_keywords, given_in_optional, given_in_target}
use Rattle.pc_tree.specs.Stopping.{given_in_stmt, given_in_stmts, given_in_branches, given_in_constants, self_before}
use Rattle.pc_tree.specs.Stopping.{params_again, given_in_def, twice}
use Rattle.pc_tree.specs.Tree.{Name, Expr, Exprs, Entries, Keywords, name, number, text, truth, nothing, tuple, list, dict}
use Rattle.pc_tree.specs.Tree.{negative, negation, binary, compare, is_none, is_not_none, conjunction, disjunction}
use Rattle.pc_tree.specs.Tree.{attribute, index, call, no_exprs, more_exprs, no_entries, more_entries, no_keywords}
use Rattle.pc_tree.specs.Tree.{more_keywords, Target, to_name, to_attribute, to_index, Stmt, Stmts, Branches, pass}
use Rattle.pc_tree.specs.Tree.{breaks, continues, returns, asserts, annotated, assigns, evaluates, while_loop, for_loop}
use Rattle.pc_tree.specs.Tree.{conditional, no_stmts, more_stmts, no_branches, more_branches, FuncDef, Constant, ClassDef}
use Rattle.pc_tree.specs.Tree.{Item, constant_item, class_item, def_item, Module}
use Rattle.pc_scope.specs.declared.resolution.Builtin.{Builtin}
use Rattle.pc_scope.specs.declared.resolution.NameMeaning.{NameMeaning}
use Rattle.pc_scope.specs.declared.resolution.NameMeaning.TheVariants as meaning
use Rattle.pc_scope.specs.declared.resolution.Owner.{Owner}
use Rattle.pc_scope.specs.declared.resolution.Owner.TheVariants as owners
use Rattle.pc_scope.specs.Bindings.{constants_in, classes_in, Body, bodies}
use Rattle.pc_scope.specs.Expressions.{is_name, parts_in, parts_in_all, parts_in_entries, parts_in_keywords, keyword_names}
use Rattle.pc_scope.specs.Expressions.{exprs_in, exprs_in_all, exprs_in_branches, option_exprs, target_exprs}
use Rattle.pc_scope.specs.Reserved.{builtin_of}
use Rattle.pc_scope.specs.Resolution.{bound_first, or_meaning, builtin_meaning, resolve_in_module}
use Rattle.pc_scope_findings.specs.Findings.{IsUnknownIn, IsUnknown, in_constant, in_body, decorator, IsEarlyMeaning}
use Rattle.pc_scope_findings.specs.Findings.{IsEarly}
use Rattle.pc_notes.specs.Notes.{is_same_place}
use Rattle.pc_detail_texts.specs.Details as detail
use Rattle.pc_detail_texts.specs.Details.{Earlier}
use Rattle.pc_detail_rules.specs.Facts.{Known}
use Rattle.pc_detail_rules.specs.Names.{first_of_all, first_from, place_of_name, first_named, Together, items_together}
use Rattle.pc_detail_rules.specs.Names.{parameters_together, arguments_together, repeated_name, repeated_after, twice_after}
use Rattle.pc_detail_rules.specs.Names.{twice_among, twice_detail, unknown_detail, decorator_detail, early_of}
use Rattle.pc_detail_rules.specs.Names.{early_detail}
use Rattle.pc_detail_rules.specs.Nodes.{owned, exprs_of_body, exprs_of_module, exprs_at}
use Rattle.pc_detail_rules.proofs.Explained.Lists.{IsThere, none_there, there_mapped, there_first, there_second}
use Rattle.pc_detail_rules.proofs.Explained.Lists.{first_there, among_mapped, among_joined, find_there, find_left, find_right}
use Rattle.pc_detail_rules.proofs.Explained.Lists.{all_left, all_right, all_pick, all_among, all_unjoined, all_unmapped}
use Rattle.pc_detail_rules.proofs.Explained.Parts.{judged, reached, named_part, closed, callee_part}
use Rattle.pc_detail_rules.proofs.Explained.Stopping.{one_place, at_place, there_at, in_defs, in_bodies}
use Rattle.pc_detail_rules.proofs.Explained.Told.{IsTold, expr_told}

-- ---- the expressions of a module

module _ (m : Module) where
  -- an expression of an owner is one of the module's
  abbrev pub IsOf : Owner → Expr → Type 0
  IsOf w e = Contains (exprs_of_module m) (owned w e)

  abbrev initial : List Expr
  initial = flat_map (λ (c : Constant). parts_in false c.value) (constants_in m.items)

  pub constant_parts : (c : Constant) → Contains (constants_in m.items) c
      → AllByRecursion (IsOf owners.Module) (parts_in false c.value)
  constant_parts c among =
      let All = exprs_of_module m in
      all_pick (λ (x : Constant). AllByRecursion (IsOf owners.Module) (parts_in false x.value)) (constants_in m.items) c
      (all_unjoined (IsOf owners.Module) (λ (x : Constant). parts_in false x.value) (constants_in m.items)
      (all_unmapped (Contains All) (owned owners.Module) initial
      (all_left (Contains All) (map (owned owners.Module) initial) (flat_map exprs_of_body (bodies m)) (all_among All))))
      among

  pub body_parts : (b : Body) → Contains (bodies m) b
      → AllByRecursion (λ e. AllByRecursion (IsOf b.owner) (parts_in false e)) (exprs_in_all false b.function.body)
  body_parts b of =
      let All = exprs_of_module m in
      let whole = flat_map (parts_in false) (exprs_in_all false b.function.body) in
      let each = all_unjoined (Contains All) exprs_of_body (bodies m)
      (all_right (Contains All) (map (owned owners.Module) initial) (flat_map exprs_of_body (bodies m)) (all_among All)) in
      all_unjoined (IsOf b.owner) (parts_in false) (exprs_in_all false b.function.body)
      (all_unmapped (Contains All) (owned b.owner) whole
      (all_pick (λ (x : Body). AllByRecursion (Contains All) (exprs_of_body x)) (bodies m) b each of))

-- ---- E02

module _ (m : Module) (known : Known) where
  unknown_named : (w : Owner) (n : Name) (f : Finding) → IsOf m w (name n) → f ≡ finding n.place E02
      → IsTold m known f.place f.code
  unknown_named w n f here e = subst (λ (g : Finding). IsTold m known g.place g.code) (sym e)
      (expr_told m known (owned w (name n)) here E02 refl)

  unknown_in : (w : Owner) (e : Expr) (f : Finding) → AllByRecursion (IsOf m w) (parts_in false e)
      → IsUnknownIn m w e f → IsTold m known f.place f.code
  unknown_in w e f here h = unknown_named w h.n f
      (named_part (IsOf m w) (parts_in true e) h.n (judged (IsOf m w) e here) h.named) h.is

  pub unknown_told : (f : Finding) → IsUnknown m f → IsTold m known f.place f.code
  unknown_told f (in_constant c among h) = unknown_in owners.Module c.value f (constant_parts m c among) h
  unknown_told f (in_body b e of among h) =
      let Whole = λ (x : Expr). AllByRecursion (IsOf m b.owner) (parts_in false x) in
      unknown_in b.owner e f (all_pick Whole (exprs_in_all true b.function.body) e
      (reached Whole b.function.body (body_parts m b of)) among) h
  unknown_told f (decorator c none among e) = subst (λ (g : Finding). IsTold m known g.place g.code) (sym e)
      (there_second (first_of_all (unknown_detail m) (exprs_at m c.decorator)) (decorator_detail m c.decorator)
      (there_mapped (λ (x : ClassDef). detail.unknown_name (codes "dataclass") detail.not_imported)
      (find (λ (x : ClassDef). is_same_place c.decorator x.decorator) (classes_in m.items))
      (find_there (λ (x : ClassDef). is_same_place c.decorator x.decorator) (classes_in m.items) c among
      (at_place c.decorator c.decorator refl))))

-- ---- E03

-- there are the constants and classes that a meaning numbers
abbrev IsBelow : (constants classes : ℕ) → NameMeaning → Type 0
IsBelow k c (meaning.Const i) = i < k
IsBelow k c (meaning.Class i) = i < c
IsBelow k c r = Unit {0}

moved : (k j c d : ℕ) (r : NameMeaning) → k ≡ j → c ≡ d → IsBelow k c r → IsBelow j d r
moved k j c d r e f h = subst (λ x. IsBelow j x r) f (subst (λ x. IsBelow x c r) e h)

-- a name that items bind first is numbered among them
bound_below : (k f c : ℕ) (items : List Item) (word : List ℕ) → IsBelow (k + length (constants_in items))
    (c + length (classes_in items)) (or_meaning (bound_first k f c items word) meaning.None)
bound_below k f c [] word = tt
bound_below k f c (constant_item p i ∷ rest) word = go (bytes_eq i.name.text word) (bound_below (suc k) f c rest word)
  where
    go : (b : Test) → IsBelow (suc k + length (constants_in rest)) (c + length (classes_in rest))
        (or_meaning (bound_first (suc k) f c rest word) meaning.None)
        → IsBelow (k + suc (length (constants_in rest))) (c + length (classes_in rest))
        (or_meaning (if b then Some (meaning.Const k) else bound_first (suc k) f c rest word) meaning.None)
    go true h = omega arith
    go false h = moved (suc k + length (constants_in rest)) (k + suc (length (constants_in rest)))
        (c + length (classes_in rest)) (c + length (classes_in rest))
        (or_meaning (bound_first (suc k) f c rest word) meaning.None) (omega arith) refl h
bound_below k f c (def_item p i ∷ rest) word = go (bytes_eq i.name.text word) (bound_below k (suc f) c rest word)
  where
    go : (b : Test) → IsBelow (k + length (constants_in rest)) (c + length (classes_in rest))
        (or_meaning (bound_first k (suc f) c rest word) meaning.None)
        → IsBelow (k + length (constants_in rest)) (c + length (classes_in rest))
        (or_meaning (if b then Some (meaning.Func f) else bound_first k (suc f) c rest word) meaning.None)
    go true h = tt
    go false h = h
bound_below k f c (class_item p i ∷ rest) word = go (bytes_eq i.name.text word) (bound_below k f (suc c) rest word)
  where
    go : (b : Test) → IsBelow (k + length (constants_in rest)) (suc c + length (classes_in rest))
        (or_meaning (bound_first k f (suc c) rest word) meaning.None)
        → IsBelow (k + length (constants_in rest)) (c + suc (length (classes_in rest)))
        (or_meaning (if b then Some (meaning.Class c) else bound_first k f (suc c) rest word) meaning.None)
    go true h = omega arith
    go false h = moved (k + length (constants_in rest)) (k + length (constants_in rest))
        (suc c + length (classes_in rest)) (c + suc (length (classes_in rest)))
        (or_meaning (bound_first k f (suc c) rest word) meaning.None) refl (omega arith) h

module_below : (m : Module) (word : List ℕ)
    → IsBelow (length (constants_in m.items)) (length (classes_in m.items)) (resolve_in_module m word)
module_below m word = go (builtin_of word)
  where
    go : (o : Option Builtin) → IsBelow (length (constants_in m.items)) (length (classes_in m.items))
        (or_meaning (builtin_meaning o) (or_meaning (bound_first 0 0 0 m.items word) meaning.None))
    go (Some b) = tt
    go None = moved (0 + length (constants_in m.items)) (length (constants_in m.items))
        (0 + length (classes_in m.items)) (length (classes_in m.items))
        (or_meaning (bound_first 0 0 0 m.items word) meaning.None) (omega arith) (omega arith)
        (bound_below 0 0 0 m.items word)

numbered_there : {A : Type 0} (xs : List A) (i : ℕ) → i < length xs → IsThere (slice_get xs i)
numbered_there [] i l = absurd (omega arith)
numbered_there (x ∷ xs) zero l = refl
numbered_there (x ∷ xs) (suc i) l = numbered_there xs i (omega arith)

early_there : (m : Module) (word : List ℕ) (k c : ℕ) (r : NameMeaning) → IsEarlyMeaning k c r
    → IsBelow (length (constants_in m.items)) (length (classes_in m.items)) r → IsThere (early_of m word r)
early_there m word k c (meaning.Func i) h l = refl
early_there m word k c (meaning.Const i) h l = there_mapped (λ (x : Name). detail.early_name word x.place)
    (option_map (λ (x : Constant). x.name) (slice_get (constants_in m.items) i))
    (there_mapped (λ (x : Constant). x.name) (slice_get (constants_in m.items) i)
    (numbered_there (constants_in m.items) i l))
early_there m word k c (meaning.Class i) h l = there_mapped (λ (x : Name). detail.early_name word x.place)
    (option_map (λ (x : ClassDef). x.name) (slice_get (classes_in m.items) i))
    (there_mapped (λ (x : ClassDef). x.name) (slice_get (classes_in m.items) i)
    (numbered_there (classes_in m.items) i l))
early_there m word k c (meaning.Local i) h l = absurd h
early_there m word k c (meaning.Builtin i) h l = absurd h
early_there m word k c meaning.None h l = absurd h

-- a constant that is an item is one of the constants
constant_among : (items : List Item) (at : ℕ) (first : Place) (c : Constant)
    → slice_get items at ≡ Some (constant_item first c) → Contains (constants_in items) c
constant_among [] at first c e = absurd (none-some _ e)
constant_among (constant_item p x ∷ rest) zero first c e = subst (Contains (x ∷ constants_in rest))
    (same_constant (same_Some _ _ e)) (first_among x (constants_in rest))
  where
    same_constant : constant_item p x ≡ constant_item first c → x ≡ c
    same_constant e = cc
constant_among (class_item p x ∷ rest) zero first c e = other (same_Some _ _ e)
  where
    other : class_item p x ≡ constant_item first c → Contains (constants_in rest) c
    other e = absurd (cc e)
constant_among (def_item p x ∷ rest) zero first c e = other (same_Some _ _ e)
  where
    other : def_item p x ≡ constant_item first c → Contains (constants_in rest) c
    other e = absurd (cc e)
constant_among (constant_item p x ∷ rest) (suc at) first c e =
    later_among x (constants_in rest) c (constant_among rest at first c e)
constant_among (class_item p x ∷ rest) (suc at) first c e = constant_among rest at first c e
constant_among (def_item p x ∷ rest) (suc at) first c e = constant_among rest at first c e

module _ (m : Module) (known : Known) where
  -- an expression that the rule of E03 gives a detail for
  early_at_expr : (e : Expr) (f : Finding) → IsOf m owners.Module e → IsThere (early_detail m e)
      → f ≡ finding (place_of e) E03 → IsTold m known f.place f.code
  early_at_expr e f here h same = subst (λ (g : Finding). IsTold m known g.place g.code) (sym same)
      (expr_told m known (owned owners.Module e) here E03 h)

  -- a callee that is no name
  callee_early : (e : Expr) → is_name e ≡ false → IsThere (early_detail m e)
  callee_early (name n) i = absurd (cc i)
  callee_early _ i = refl

  pub early_told : (f : Finding) → IsEarly m f → IsTold m known f.place f.code
  early_told f h =
      let parts = constant_parts m h.constant (constant_among m.items h.at h.first h.constant h.item) in
      elim h.found [
        | inl x ↦ early_at_expr (name x.n) f
            (named_part (IsOf m owners.Module) (parts_in false h.constant.value) x.n parts x.named)
            (there_mapped detail.early (early_of m x.n.text (resolve_in_module m x.n.text))
            (early_there m x.n.text _ _ (resolve_in_module m x.n.text) x.early (module_below m x.n.text))) x.is
        | inr x ↦
            let c = callee_part (IsOf m owners.Module) (parts_in false h.constant.value) x.place
            (closed (IsOf m owners.Module) h.constant.value parts) x.callee in
            early_at_expr c.callee f c.is (callee_early c.callee c.other)
            (x.is ∙ ap (λ (q : Place). finding q E03) (sym c.at))
      ]

-- ---- E01: repeated names

some_or : (a b : Test) {X : Type 0} → (a || b) ≡ true → (a ≡ true → X) → (b ≡ true → X) → X
some_or true b e h k = h refl
some_or false b e h k = k e

both_hold : (a b : Test) → (a && b) ≡ true → a ≡ true
both_hold true b e = refl
both_hold false b e = e

repeated_there : (b : Test) (e : Place → Earlier) (o : Option Name) → IsThere o → IsThere (repeated_name b e o)
repeated_there b e None h = none_there h
repeated_there b e (Some n) h = refl

repeated_kept : (b : Test) (e : Place → Earlier) (o u : Option Name) → (IsThere o → IsThere u)
    → IsThere (repeated_name b e o) → IsThere (repeated_name b e u)
repeated_kept b e o (Some n) h k = refl
repeated_kept true e o None h k = refl
repeated_kept false e None None h k = k
repeated_kept false e (Some n) None h k = none_there (h refl)

turned : (a b : List ℕ) → bytes_eq a b ≡ true → bytes_eq b a ≡ true
turned a b e = (bytes_eq-Decides b a).1 (sym ((bytes_eq-Decides a b).0 e))

module _ (t : Together) (p : Place) where
  -- a name that is among these texts repeats one of the names before
  abbrev Repeats : List (List ℕ) → List Name → Type 0
  Repeats texts before = (word : List ℕ) → is_among texts word ≡ true
      → IsThere (repeated_name (t.behind_self && bytes_eq word (codes "self")) t.earlier (first_named word before))

  repeats_more : (texts : List (List ℕ)) (before : List Name) (n : Name) → Repeats texts before
      → Repeats (n.text ∷ texts) (before ++ n ∷ [])
  repeats_more texts before n inv word e =
      let is_self = t.behind_self && bytes_eq word (codes "self") in
      let test : Name → Test = λ (x : Name). bytes_eq word x.text in
      some_or (bytes_eq n.text word) (is_among texts word) e
      (λ a. repeated_there is_self t.earlier (first_named word (before ++ n ∷ []))
      (find_right test before n (turned n.text word a)))
      (λ a. repeated_kept is_self t.earlier (first_named word before) (first_named word (before ++ n ∷ []))
      (λ k. find_left test before (n ∷ []) k) (inv word a))

  -- one name, and those after it
  repeated_step : (texts : List (List ℕ)) (before : List Name) (n : Name) (ns : List Name) (b : Test) (rest : List Place)
      → Repeats texts before → (b ≡ true → is_among texts n.text ≡ true) → Contains (one_if b n.place ++ rest) p
      → (Contains rest p → IsThere (first_from place_of_name (twice_after t) p (before ++ n ∷ []) ns))
      → IsThere (first_from place_of_name (twice_after t) p before (n ∷ ns))
  repeated_step texts before n ns b rest inv is h next =
      let here = if is_same_place p n.place then twice_after t before n else None in
      let later = first_from place_of_name (twice_after t) p (before ++ n ∷ []) ns in
      either (one_if b n.place) rest p h
      (λ k. there_first here later (one_place b n.place p k (λ e at. there_at n.place p at (twice_after t before n)
      (there_mapped (detail.twice n.text) (repeated_after t before n) (inv n.text (is e))))))
      (λ k. there_second here later (next k))

  bound_twice : (texts : List (List ℕ)) (before ns : List Name) → Repeats texts before
      → Contains (bound_again texts ns) p → IsThere (first_from place_of_name (twice_after t) p before ns)
  bound_twice texts before [] inv h = absurd (none_among p h)
  bound_twice texts before (n ∷ ns) inv h =
      repeated_step texts before n ns (is_among texts n.text && not (is_reserved n.text)) (bound_again (n.text ∷ texts) ns)
      inv (both_hold (is_among texts n.text) (not (is_reserved n.text))) h
      (λ k. bound_twice (n.text ∷ texts) (before ++ n ∷ []) ns (repeats_more texts before n inv) k)

  given_twice : (texts : List (List ℕ)) (before : List Name) (kws : Keywords) → Repeats texts before
      → Contains (given_again texts kws) p
      → IsThere (first_from place_of_name (twice_after t) p before (keyword_names kws))
  given_twice texts before no_keywords inv h = absurd (none_among p h)
  given_twice texts before (more_keywords n e ks) inv h =
      repeated_step texts before n (keyword_names ks) (is_among texts n.text) (given_again (n.text ∷ texts) ks) inv
      (λ k. k) h (λ k. given_twice (n.text ∷ texts) (before ++ n ∷ []) ks (repeats_more texts before n inv) k)

  -- nothing is repeated at first, or `self` is
  none_repeats : Repeats [] []
  none_repeats word e = none_there e

  self_repeats : t.behind_self ≡ true → Repeats (codes "self" ∷ []) []
  self_repeats behind word e = some_or (bytes_eq (codes "self") word) false e
      (λ a. subst (λ (b : Test). IsThere (repeated_name b t.earlier None))
      (sym ((λ i. behind i && bytes_eq word (codes "self")) ∙ turned (codes "self") word a)) refl) (λ a. none_there a)

-- ---- E01: arguments

module _ {R : Type 0} (P : Expr → Type 0) (p : Place)
    (each : (q : Place) (c : Expr) (args : Exprs) (kws : Keywords) → P (call q c args kws)
    → Contains (given_again [] kws) p → R) where
  abbrev Parts : List Expr → Type 0
  Parts es = AllByRecursion P es

  two : (xs ys : List Place) (us vs : List Expr) → Parts (us ++ vs) → Contains (xs ++ ys) p
      → (Parts us → Contains xs p → R) → (Parts vs → Contains ys p → R) → R
  two xs ys us vs here h f g = either xs ys p h (λ k. f (all_left P us vs here) k) (λ k. g (all_right P us vs here) k)

  mutual
    given : (e : Expr) → Parts (parts_in false e) → Contains (given_in e) p → R
    given (name n) here h = absurd (none_among p h)
    given (number q d) here h = absurd (none_among p h)
    given (text q d) here h = absurd (none_among p h)
    given (truth q b) here h = absurd (none_among p h)
    given (nothing q) here h = absurd (none_among p h)
    given (tuple q es) here h = given_all es here.1 h
    given (list q es) here h = given_all es here.1 h
    given (dict q es) here h = given_entries es here.1 h
    given (negative q e) here h = given e here.1 h
    given (negation q e) here h = given e here.1 h
    given (binary q o l r) here h = two (given_in l) (given_in r) (parts_in false l) (parts_in false r) here.1 h
        (λ x k. given l x k) (λ x k. given r x k)
    given (compare q o l r) here h = two (given_in l) (given_in r) (parts_in false l) (parts_in false r) here.1 h
        (λ x k. given l x k) (λ x k. given r x k)
    given (is_none q e) here h = given e here.1 h
    given (is_not_none q e) here h = given e here.1 h
    given (conjunction q l r) here h = two (given_in l) (given_in r) (parts_in false l) (parts_in false r) here.1 h
        (λ x k. given l x k) (λ x k. given r x k)
    given (disjunction q l r) here h = two (given_in l) (given_in r) (parts_in false l) (parts_in false r) here.1 h
        (λ x k. given l x k) (λ x k. given r x k)
    given (attribute q e n) here h = given e here.1 h
    given (index q e i) here h = two (given_in e) (given_in i) (parts_in false e) (parts_in false i) here.1 h
        (λ x k. given e x k) (λ x k. given i x k)
    given (call q c args kws) here h =
        two (given_in c) (given_in_all args ++ (given_again [] kws ++ given_in_keywords kws)) (parts_in false c)
        (parts_in_all false args ++ parts_in_keywords false kws) here.1 h (λ x k. given c x k)
        (λ x k. two (given_in_all args) (given_again [] kws ++ given_in_keywords kws) (parts_in_all false args)
        (parts_in_keywords false kws) x k (λ y j. given_all args y j)
        (λ y j. either (given_again [] kws) (given_in_keywords kws) p j (λ i. each q c args kws here.0 i)
        (λ i. given_keywords kws y i)))

    given_all : (es : Exprs) → Parts (parts_in_all false es) → Contains (given_in_all es) p → R
    given_all no_exprs here h = absurd (none_among p h)
    given_all (more_exprs e rest) here h = two (given_in e) (given_in_all rest) (parts_in false e)
        (parts_in_all false rest) here h (λ x k. given e x k) (λ x k. given_all rest x k)

    given_entries : (es : Entries) → Parts (parts_in_entries false es) → Contains (given_in_entries es) p → R
    given_entries no_entries here h = absurd (none_among p h)
    given_entries (more_entries a b rest) here h = two (given_in a) (given_in b ++ given_in_entries rest)
        (parts_in false a) (parts_in false b ++ parts_in_entries false rest) here h (λ x k. given a x k)
        (λ x k. two (given_in b) (given_in_entries rest) (parts_in false b) (parts_in_entries false rest) x k
        (λ y j. given b y j) (λ y j. given_entries rest y j))

    given_keywords : (es : Keywords) → Parts (parts_in_keywords false es) → Contains (given_in_keywords es) p → R
    given_keywords no_keywords here h = absurd (none_among p h)
    given_keywords (more_keywords n e rest) here h = two (given_in e) (given_in_keywords rest) (parts_in false e)
        (parts_in_keywords false rest) here h (λ x k. given e x k) (λ x k. given_keywords rest x k)

  -- the fact holds of the parts of each of these
  abbrev Wholes : List Expr → Type 0
  Wholes es = AllByRecursion (λ e. Parts (parts_in false e)) es

  given_optional : (e : Option Expr) → Wholes (option_exprs e) → Contains (given_in_optional e) p → R
  given_optional None here h = absurd (none_among p h)
  given_optional (Some e) here h = given e here.0 h

  given_target : (t : Target) → Wholes (target_exprs t) → Contains (given_in_target t) p → R
  given_target (to_name n) here h = absurd (none_among p h)
  given_target (to_attribute q o n) here h = given o here.0 h
  given_target (to_index q o i) here h = either (given_in o) (given_in i) p h (λ k. given o here.0 k)
      (λ k. given i here.1.0 k)

  mutual
    given_stmt : (s : Stmt) → Wholes (exprs_in false s) → Contains (given_in_stmt s) p → R
    given_stmt (pass q) here h = absurd (none_among p h)
    given_stmt (breaks q) here h = absurd (none_among p h)
    given_stmt (continues q) here h = absurd (none_among p h)
    given_stmt (returns q e) here h = given_optional e here h
    given_stmt (asserts q c e) here h = either (given_in c) (given_in_optional e) p h (λ k. given c here.0 k)
        (λ k. given_optional e here.1 k)
    given_stmt (annotated q n a e) here h = given_optional e here h
    given_stmt (assigns q t e) here h = either (given_in_target t) (given_in e) p h (λ k. given_target t here.1 k)
        (λ k. given e here.0 k)
    given_stmt (evaluates q e) here h = given e here.0 h
    given_stmt (while_loop q c b) here h = either (given_in c) (given_in_stmts b) p h (λ k. given c here.0 k)
        (λ k. given_suite b here.1 k)
    given_stmt (for_loop q n e b) here h = either (given_in e) (given_in_stmts b) p h (λ k. given e here.0 k)
        (λ k. given_suite b here.1 k)
    given_stmt (conditional q bs o) here h =
        let in_branches = exprs_in_branches false bs in
        let in_else = exprs_in_all false o in
        either (given_in_branches bs) (given_in_stmts o) p h
        (λ k. given_branches bs (all_left (λ e. Parts (parts_in false e)) in_branches in_else here) k)
        (λ k. given_suite o (all_right (λ e. Parts (parts_in false e)) in_branches in_else here) k)

    given_suite : (b : Stmts) → Wholes (exprs_in_all false b) → Contains (given_in_stmts b) p → R
    given_suite no_stmts here h = absurd (none_among p h)
    given_suite (more_stmts s rest) here h = either (given_in_stmt s) (given_in_stmts rest) p h
        (λ k. given_stmt s (all_left (λ e. Parts (parts_in false e)) (exprs_in false s) (exprs_in_all false rest) here) k)
        (λ k. given_suite rest (all_right (λ e. Parts (parts_in false e)) (exprs_in false s) (exprs_in_all false rest) here)
        k)

    given_branches : (bs : Branches) → Wholes (exprs_in_branches false bs) → Contains (given_in_branches bs) p → R
    given_branches no_branches here h = absurd (none_among p h)
    given_branches (more_branches c b rest) here h =
        let in_body = exprs_in_all false b in
        let in_rest = exprs_in_branches false rest in
        either (given_in c) (given_in_stmts b ++ given_in_branches rest) p h (λ k. given c here.0 k)
        (λ k. either (given_in_stmts b) (given_in_branches rest) p k
        (λ j. given_suite b (all_left (λ e. Parts (parts_in false e)) in_body in_rest here.1) j)
        (λ j. given_branches rest (all_right (λ e. Parts (parts_in false e)) in_body in_rest here.1) j))

-- the constants of items
given_constants : {R : Type 0} (items : List Item) (p : Place) → Contains (given_in_constants items) p
    → ((c : Constant) → Contains (constants_in items) c → Contains (given_in c.value) p → R) → R
given_constants [] p h k = absurd (none_among p h)
given_constants (constant_item q x ∷ rest) p h k = either (given_in x.value) (given_in_constants rest) p h
    (λ j. k x (first_among x (constants_in rest)) j)
    (λ j. given_constants rest p j (λ c among i. k c (later_among x (constants_in rest) c among) i))
given_constants (class_item q x ∷ rest) p h k = given_constants rest p h k
given_constants (def_item q x ∷ rest) p h k = given_constants rest p h k

-- ---- E01

module _ (m : Module) (p : Place) where
  abbrev of_bodies : List Together
  of_bodies = map parameters_together (bodies m)

  abbrev of_calls : List Together
  of_calls = flat_map arguments_together (exprs_of_module m)

  among_together : (t : Together) → Contains (items_together m ∷ (of_bodies ++ of_calls)) t → IsThere (twice_among p t)
      → IsThere (twice_detail m p)
  among_together t among h = first_there (twice_among p) (items_together m ∷ (of_bodies ++ of_calls)) t among h

  parameters_told : (b : Body) → Contains (bodies m) b → IsThere (twice_among p (parameters_together b))
      → IsThere (twice_detail m p)
  parameters_told b of h = among_together (parameters_together b)
      (later_among (items_together m) (of_bodies ++ of_calls) (parameters_together b)
      (Contains-append_left of_bodies of_calls (parameters_together b) (among_mapped parameters_together (bodies m) b of)))
      h

  call_told : (w : Owner) (q : Place) (c : Expr) (args : Exprs) (kws : Keywords) → IsOf m w (call q c args kws)
      → Contains (given_again [] kws) p → IsThere (twice_detail m p)
  call_told w q c args kws here h =
      let t : Together = record { names = keyword_names kws; earlier = detail.earlier_argument; behind_self = false } in
      let o = owned w (call q c args kws) in
      among_together t (later_among (items_together m) (of_bodies ++ of_calls) t
      (Contains-append_right of_bodies of_calls t
      (among_joined arguments_together (exprs_of_module m) o t here (first_among t []))))
      (given_twice t p [] [] kws (none_repeats t p) h)

  pub twice_told : Contains (twice m) p → IsThere (twice_detail m p)
  twice_told h =
      let params = of_defs (params_again (self_before false)) (params_again (self_before true)) m.items in
      let in_constants = given_in_constants m.items in
      let in_bodies' = of_defs given_in_def given_in_def m.items in
      either (bound_again [] (map name_of_item m.items)) (params ++ (in_constants ++ in_bodies')) p h
      (λ k. among_together (items_together m) (first_among (items_together m) (of_bodies ++ of_calls))
      (bound_twice (items_together m) p [] [] (map name_of_item m.items) (none_repeats (items_together m) p) k))
      (λ x. either params (in_constants ++ in_bodies') p x
      (λ k. in_defs m (params_again (self_before false)) (params_again (self_before true)) p
      (λ i d of j. function_told i d of j) (λ c i d of j. method_told c i d of j) k)
      (λ y. either in_constants in_bodies' p y
      (λ k. given_constants m.items p k (λ c among j. given (IsOf m owners.Module) p
      (λ q e args kws here g. call_told owners.Module q e args kws here g) c.value (constant_parts m c among) j))
      (λ k. in_bodies m given_in_def p (λ b of j. given_suite (IsOf m b.owner) p
      (λ q e args kws here g. call_told b.owner q e args kws here g) b.function.body (body_parts m b of) j) k)))
    where
      function_told : (i : ℕ) (d : FuncDef) → Contains (bodies m) (record { owner = owners.Func i; function = d })
          → Contains (params_again (self_before false) d) p → IsThere (twice_detail m p)
      function_told i d of k =
          let b : Body = record { owner = owners.Func i; function = d } in
          parameters_told b of (bound_twice (parameters_together b) p [] [] (map name_of_param d.params)
          (none_repeats (parameters_together b) p) k)

      method_told : (c i : ℕ) (d : FuncDef) → Contains (bodies m) (record { owner = owners.Method c i; function = d })
          → Contains (params_again (self_before true) d) p → IsThere (twice_detail m p)
      method_told c i d of k =
          let b : Body = record { owner = owners.Method c i; function = d } in
          parameters_told b of (bound_twice (parameters_together b) p (codes "self" ∷ []) [] (map name_of_param d.params)
          (self_repeats (parameters_together b) p refl) k)
