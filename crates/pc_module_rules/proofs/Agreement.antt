-- The labels of a module have E02 and E03 exactly where scope analysis finds them.
use Rattle.std.proofs.Common.{◌≡◌, ℕ, zero, suc, ◌+◌, ◌<◌, ◌≤◌, List, [], ◌∷◌, ◌++◌, length, refl, sym, ap, ◌∙◌, subst}
use Rattle.std.proofs.Common.{inl, inr, arith, Contains, append_assoc, append-nil, length-append}
use Rattle.std.specs.List.{cons_option}
use Rattle.std.specs.Prelude.{◌⊎◌, Bool as Test, true, false, if◌then◌else◌, nat_lt, take, Option, Some, None}
use Rattle.std.specs.Prelude.{slice_get, filter_map, bytes_eq}
use Rattle.std.proofs.lemmas.Bool.Decides.{nat_tests}
use Rattle.std.proofs.lemmas.List.Elements.{Contains-append_right, filter_map-append}
use Rattle.std.proofs.lemmas.Option.{none-some, same_Some}
use Rattle.std.proofs.Math.Seq.{take-append_seam}
use Rattle.pc_source.specs.declared.place.Place.{Place}
use Rattle.pc_tree.proofs.Among.{none_among, among_first}
use Rattle.pc_tree.specs.declared.code.Code.{Code}
use Rattle.pc_tree.specs.declared.code.Code.TheVariants.{E02, E03}
use Rattle.pc_tree.specs.declared.code.Finding.{Finding}
use Rattle.pc_tree.specs.Code.{finding}
use Rattle.pc_tree.specs.Depth.{place_of}
use Rattle.pc_tree.specs.NamesAlone.{name_of_tree}
use Rattle.pc_tree.specs.Tree.{Name, Expr, Exprs, Keywords, name, call, Literal, Ann, Param, FuncDef, Member}
use Rattle.pc_tree.specs.Tree.{field_member, method_member, Constant, Item, constant_item, class_item, def_item, Module}
use Rattle.pc_scope.specs.declared.resolution.Builtin.{Builtin}
use Rattle.pc_scope.specs.declared.resolution.Owner.{Owner}
use Rattle.pc_scope.specs.declared.resolution.Owner.TheVariants as owners
use Rattle.pc_scope.specs.declared.resolution.NameMeaning.{NameMeaning}
use Rattle.pc_scope.specs.declared.resolution.NameMeaning.TheVariants as meaning
use Rattle.pc_scope.specs.Reserved.{builtin_of}
use Rattle.pc_scope.specs.Bindings.{as_constant, as_class, as_function, constants_in, classes_in, functions_in}
use Rattle.pc_scope.specs.Bindings.{methods_in, Body, bodies}
use Rattle.pc_scope.specs.Resolution.{index_of, locals, local_meaning, or_meaning, bound_first, builtin_meaning}
use Rattle.pc_scope.specs.Resolution.{resolve_in_module, resolve_among, resolve, locals_of_function, method_at}
use Rattle.pc_scope.specs.Resolution.{function_of, receiver}
use Rattle.pc_scope.specs.Expressions.{is_name, parts_in, other_callee, exprs_in_all}
use Rattle.pc_scope_findings.specs.Findings as scope
use Rattle.pc_scope_findings.specs.Findings.{IsUnknownIn, IsEarlyMeaning, IsEarlyName, IsEarlyCallee, ScopeFinds}
use Rattle.pc_types.specs.Tree.{Tree}
use Rattle.pc_types.specs.Below.{Bases}
use Rattle.pc_annotations.specs.Annotations.{OptionAnnFinds}
use Rattle.pc_class.specs.Bases.{bases_of}
use Rattle.pc_class.specs.Facts.{ClassFacts, return_type}
use Rattle.pc_class.specs.Findings.{base_class}
use Rattle.pc_flow.specs.Environment.{Env}
use Rattle.pc_rules.specs.Operations.{clean}
use Rattle.pc_rules.specs.Context.{Context}
use Rattle.pc_rules.specs.Labels.{FlowLabels, is_of_scopes, whole_label, Finds}
use Rattle.pc_rules.specs.Signatures.{literal_type, literal_place, LawfulDefault, DefaultFinds, ParamsLabels}
use Rattle.pc_rules.specs.Signatures.{LawfulParams, ParamsFind, binds_name, body_context, initializer_context}
use Rattle.pc_rules.specs.Signatures.{annotated_types}
use Rattle.pc_rules.proofs.Saying.{IsPart, IsEarlyHere, PartSays, Said, no_flow_of_scopes}
use Rattle.pc_rules.proofs.SaidByLabels.{said}
use Rattle.pc_rules.proofs.SaidInLabels.{said_found}
use Rattle.pc_module_rules.specs.Modules.{entry_parameters, names_entered, ReturnsWell, leaves, may_complete, may_not}
use Rattle.pc_module_rules.specs.Modules.{FunctionLabels, LawfulFunction, FunctionFinds, MembersLabels, LawfulMembers}
use Rattle.pc_module_rules.specs.Modules.{MembersFind, ItemLabels, ModuleItemsLabels, item_constants, constant_types}
use Rattle.pc_module_rules.specs.Modules.{BeforeItem, before_next, nothing_before, LawfulItem, LawfulModuleItems}
use Rattle.pc_module_rules.specs.Modules.{ItemFinds, ModuleItemsFind, Labelling, IsLawful, LabelsSay}
use Rattle.pc_module_rules.specs.Laws.Agreement.{AgreesWithScopes}
use Rattle.pc_module_rules.proofs.SaidByStatements.{no_code, no_flows, no_annotation, suite_said}
use Rattle.pc_module_rules.proofs.SaidInStatements.{suite_found}
use Rattle.pc_module_rules.proofs.Functions.{is_body, body_is, function_labels}

both : {b : Test} → b ≡ true → b ≡ false → ⊥
both e e' = absurd (grind (arith, e, e'))

-- ---- parts, names and callees among them

is_among : (e : Expr) (es : List Expr) → IsPart e es → Contains es e
is_among e [] h = absurd h
is_among e (x ∷ xs) h = elim h [
  | inl a ↦ (0, omega arith, a)
  | inr b ↦ Contains-append_right (x ∷ []) xs e
      (is_among e xs b)
]

is_part : (e : Expr) (es : List Expr) → Contains es e → IsPart e es
is_part e [] c = absurd (none_among e c)
is_part e (x ∷ xs) c = elim (among_first x xs e c) [ inl a ↦ inl a | inr b ↦ inr (is_part e xs b) ]

-- the elements of a list for which a function gives something
module _ {A : Type 0} (gives : Expr → Option A) where
  first_given : (x : Expr) (xs : List Expr) (y : A) → gives x ≡ Some y → Contains (filter_map gives (x ∷ xs)) y
  first_given x xs y e = subst (λ o. Contains (cons_option o (filter_map gives xs)) y) (sym e) (0, omega arith, refl)

  later_given : (x : Expr) (xs : List Expr) (y : A) → Contains (filter_map gives xs) y
      → Contains (filter_map gives (x ∷ xs)) y
  later_given x xs y c = go (gives x)
    where
      go : (o : Option A) → Contains (cons_option o (filter_map gives xs)) y
      go None = c
      go (Some z) = Contains-append_right (z ∷ []) (filter_map gives xs) y c

  either_given : (x : Expr) (xs : List Expr) (y : A) → Contains (filter_map gives (x ∷ xs)) y → (gives x ≡ Some y)
      ⊎ Contains (filter_map gives xs) y
  either_given x xs y c = go (gives x) refl c
    where
      go : (o : Option A) → gives x ≡ o → Contains (cons_option o (filter_map gives xs)) y → (gives x ≡ Some y)
          ⊎ Contains (filter_map gives xs) y
      go None is c = inr c
      go (Some z) is c = elim (among_first z (filter_map gives xs) y c) [ inl a ↦ inl (is ∙ ap Some a) | inr b ↦ inr b ]

  -- an element of which it gives this
  record IsGiven (es : List Expr) (y : A) : Type 0 where
    from : Expr
    among : IsPart from es
    is : gives from ≡ Some y

  given_of : (es : List Expr) (y : A) → Contains (filter_map gives es) y → IsGiven es y
  given_of [] y c = absurd (none_among y c)
  given_of (x ∷ xs) y c = elim (either_given x xs y c) [
    | inl a ↦ record { from = x; among = inl refl; is = a }
    | inr b ↦ let h = given_of xs y b in record { from = h.from; among = inr h.among; is = h.is }
  ]

  of_given : (es : List Expr) (e : Expr) (y : A) → IsPart e es → gives e ≡ Some y → Contains (filter_map gives es) y
  of_given [] e y h is = absurd h
  of_given (x ∷ xs) e y h is = elim h [
    | inl a ↦ first_given x xs y (ap gives a ∙ is)
    | inr b ↦
        later_given x xs y (of_given xs e y b is)
  ]

-- an expression that gives a name is that name
is_that_name : (e : Expr) (n : Name) → name_of_tree e ≡ Some n → e ≡ name n
is_that_name (name w) n is = ap name (same_Some _ _ is)
is_that_name _ n is = absurd (none-some _ is)

-- a name among the parts
name_part : (es : List Expr) (n : Name) → Contains (filter_map name_of_tree es) n → IsPart (name n) es
name_part es n c = let h = given_of name_of_tree es n c in subst (λ e. IsPart e es) (is_that_name h.from n h.is) h.among

-- a call whose callee is no name
record IsOther (e : Expr) (callee : Place) : Type 0 where
  call_at : Place
  called : Expr
  arguments : Exprs
  keywords : Keywords
  is : e ≡ call call_at called arguments keywords
  other : is_name called ≡ false
  place : callee ≡ place_of called

is_other : (e : Expr) (callee : Place) → other_callee e ≡ Some callee → IsOther e callee
is_other (call p c args kws) callee h = go (is_name c) refl h
  where
    go : (b : Test) → is_name c ≡ b → (if b then None else Some (place_of c)) ≡ Some callee
        → IsOther (call p c args kws) callee
    go true is h = absurd (none-some _ h)
    go false is h = record {
      call_at = p;
      called = c;
      arguments = args;
      keywords = kws;
      is = refl;
      other = is;
      place =
          sym (same_Some _ _ h);
    }
is_other _ callee h = absurd (none-some _ h)

-- ---- meanings of a module's names

-- the constants and classes that names mean are there
abbrev IsThere : ℕ → ℕ → NameMeaning → Type 0
IsThere k c (meaning.Const i) = i < k
IsThere k c (meaning.Class i) = i < c
IsThere k c _ = Unit {0}

first_there : (k f c : ℕ) (items : List Item) (word : List ℕ) (r : NameMeaning) → bound_first k f c items word ≡ Some r
    → IsThere (k + length (constants_in items)) (c + length (classes_in items)) r
first_there k f c [] word r e = absurd (none-some _ e)
first_there k f c (constant_item p x ∷ rest) word r e = go (bytes_eq x.name.text word) e
    (first_there (suc k) f c rest word r)
  where
    moved : (r : NameMeaning) → IsThere (suc k + length (constants_in rest)) (c + length (classes_in rest)) r
        → IsThere (k + length (constants_in (constant_item p x ∷ rest))) (c + length (classes_in rest)) r
    moved (meaning.Const i) h = omega arith
    moved (meaning.Class i) h = h
    moved (meaning.Local i) h = tt
    moved (meaning.Func i) h = tt
    moved (meaning.Builtin i) h = tt
    moved meaning.None h = tt

    here : Some (meaning.Const k) ≡ Some r → IsThere (k + length (constants_in (constant_item p x ∷ rest)))
        (c + length (classes_in rest)) r
    here is = subst (IsThere (k + length (constants_in (constant_item p x ∷ rest))) (c + length (classes_in rest)))
        (same_Some _ _ is) below
      where
        below : k < k + suc (length (constants_in rest))
        below = omega arith

    go : (b : Test) → (if b then Some (meaning.Const k) else bound_first (suc k) f c rest word) ≡ Some r
        → (bound_first (suc k) f c rest word ≡ Some r → IsThere (suc k + length (constants_in rest))
        (c + length (classes_in rest)) r) → IsThere (k + length (constants_in (constant_item p x ∷ rest)))
        (c + length (classes_in rest)) r
    go true e next = here e
    go false e next = moved r (next e)
first_there k f c (class_item p x ∷ rest) word r e = go (bytes_eq x.name.text word) e
    (first_there k f (suc c) rest word r)
  where
    moved : (r : NameMeaning) → IsThere (k + length (constants_in rest)) (suc c + length (classes_in rest)) r
        → IsThere (k + length (constants_in rest)) (c + length (classes_in (class_item p x ∷ rest))) r
    moved (meaning.Const i) h = h
    moved (meaning.Class i) h = omega arith
    moved (meaning.Local i) h = tt
    moved (meaning.Func i) h = tt
    moved (meaning.Builtin i) h = tt
    moved meaning.None h = tt

    here : Some (meaning.Class c) ≡ Some r → IsThere (k + length (constants_in rest))
        (c + length (classes_in (class_item p x ∷ rest))) r
    here is = subst (IsThere (k + length (constants_in rest)) (c + length (classes_in (class_item p x ∷ rest))))
        (same_Some _ _ is) below
      where
        below : c < c + suc (length (classes_in rest))
        below = omega arith

    go : (b : Test) → (if b then Some (meaning.Class c) else bound_first k f (suc c) rest word) ≡ Some r
        → (bound_first k f (suc c) rest word ≡ Some r → IsThere (k + length (constants_in rest))
        (suc c + length (classes_in rest)) r) → IsThere (k + length (constants_in rest))
        (c + length (classes_in (class_item p x ∷ rest))) r
    go true e next = here e
    go false e next = moved r (next e)
first_there k f c (def_item p x ∷ rest) word r e = go (bytes_eq x.name.text word) e
    (first_there k (suc f) c rest word r)
  where
    here : Some (meaning.Func f) ≡ Some r → IsThere (k + length (constants_in rest)) (c + length (classes_in rest)) r
    here is = subst (IsThere (k + length (constants_in rest)) (c + length (classes_in rest))) (same_Some _ _ is) tt

    go : (b : Test) → (if b then Some (meaning.Func f) else bound_first k (suc f) c rest word) ≡ Some r
        → (bound_first k (suc f) c rest word ≡ Some r → IsThere (k + length (constants_in rest))
        (c + length (classes_in rest)) r) → IsThere (k + length (constants_in rest)) (c + length (classes_in rest)) r
    go true e next = here e
    go false e next = next e

there_in_module : (m : Module) (word : List ℕ) → IsThere (length (constants_in m.items)) (length (classes_in m.items))
    (resolve_in_module m word)
there_in_module m word = go (builtin_of word) (bound_first 0 0 0 m.items word) refl
  where
    zero_more : (k c : ℕ) (r : NameMeaning) → IsThere (0 + k) (0 + c) r → IsThere k c r
    zero_more k c (meaning.Const i) h = omega arith
    zero_more k c (meaning.Class i) h = omega arith
    zero_more k c (meaning.Local i) h = tt
    zero_more k c (meaning.Func i) h = tt
    zero_more k c (meaning.Builtin i) h = tt
    zero_more k c meaning.None h = tt

    go : (b : Option Builtin) (r : Option NameMeaning) → bound_first 0 0 0 m.items word ≡ r
        → IsThere (length (constants_in m.items)) (length (classes_in m.items))
        (or_meaning (builtin_meaning b) (or_meaning r meaning.None))
    go (Some b) r is = tt
    go None None is = tt
    go None (Some r) is = zero_more _ _ r (first_there 0 0 0 m.items word r is)

there_among : (m : Module) (names : List (List ℕ)) (word : List ℕ)
    → IsThere (length (constants_in m.items)) (length (classes_in m.items)) (resolve_among m names word)
there_among m names word = go (index_of word names)
  where
    go : (o : Option ℕ) → IsThere (length (constants_in m.items)) (length (classes_in m.items))
        (or_meaning (local_meaning o) (resolve_in_module m word))
    go None = there_in_module m word
    go (Some x) = tt

get_there : {A : Type 0} (xs : List A) (i : ℕ) → i < length xs → slice_get xs i ≡ None → ⊥
get_there [] i l e = omega arith
get_there (x ∷ xs) zero l e = none-some _ (sym e)
get_there (x ∷ xs) (suc i) l e = get_there xs i (omega arith) e

none_past : {A : Type 0} (xs : List A) (i : ℕ) → slice_get xs i ≡ None → length xs ≤ i
none_past [] i e = omega arith
none_past (x ∷ xs) zero e = absurd (none-some _ (sym e))
none_past (x ∷ xs) (suc i) e = let h = none_past xs i e in omega arith

past_none : {A : Type 0} (xs : List A) (i : ℕ) → length xs ≤ i → slice_get xs i ≡ None
past_none [] i l = refl
past_none (x ∷ xs) zero l = absurd (omega arith)
past_none (x ∷ xs) (suc i) l = past_none xs i (omega arith)

get_at_end : {A : Type 0} (xs : List A) (y : A) (ys : List A) → slice_get (xs ++ y ∷ ys) (length xs) ≡ Some y
get_at_end [] y ys = refl
get_at_end (x ∷ xs) y ys = get_at_end xs y ys

is_below : (c n : ℕ) → nat_lt c n ≡ true → c < n
is_below c n e = grind (arith, nat_tests)

not_below : (c n : ℕ) → nat_lt c n ≡ false → n ≤ c
not_below c n e = grind (arith, nat_tests)

at_most_not_below : (c n : ℕ) → n ≤ c → nat_lt c n ≡ false
at_most_not_below c n l = grind (arith, nat_tests)

-- a meaning that an initializer may not name yet is an early one after so many constants and classes
early_meaning : (m : Module) (constants : List Tree) (k c : ℕ) → length constants ≡ k → (r : NameMeaning)
    → IsEarlyHere (initializer_context m constants c) r → IsEarlyMeaning k c r
early_meaning m constants k c n (meaning.Func i) h = tt
early_meaning m constants k c n (meaning.Const i) h = let l = none_past constants i h in omega (arith, l, n)
early_meaning m constants k c n (meaning.Class i) h = not_below i c h
early_meaning m constants k c n (meaning.Local i) h = h
early_meaning m constants k c n (meaning.Builtin i) h = h
early_meaning m constants k c n meaning.None h = h

early_here : (m : Module) (constants : List Tree) (k c : ℕ) → length constants ≡ k → (r : NameMeaning) → IsEarlyMeaning k c r
    → IsEarlyHere (initializer_context m constants c) r
early_here m constants k c n (meaning.Func i) h = refl
early_here m constants k c n (meaning.Const i) h = past_none constants i (omega (arith, h, n))
early_here m constants k c n (meaning.Class i) h = at_most_not_below i c h
early_here m constants k c n (meaning.Local i) h = h
early_here m constants k c n (meaning.Builtin i) h = h
early_here m constants k c n meaning.None h = h

-- a body may name all that there is
never_early : (m : Module) (constants : List Tree) (names : List (List ℕ))
    → length constants ≡ length (constants_in m.items) → (r : NameMeaning) → IsThere (length (constants_in m.items))
    (length (classes_in m.items)) r → IsEarlyHere (body_context m constants names) r → ⊥
never_early m constants names n (meaning.Func i) there h = both refl h
never_early m constants names n (meaning.Const i) there h = get_there constants i (omega (arith, there, n)) h
never_early m constants names n (meaning.Class i) there h = let l = not_below i (length (classes_in m.items)) h in
    omega (arith, there, l)
never_early m constants names n (meaning.Local i) there h = h
never_early m constants names n (meaning.Builtin i) there h = h
never_early m constants names n meaning.None there h = h

constants_counted : (m : Module) (items : List Item) (labels : ModuleItemsLabels items)
    → length (constant_types m items labels) ≡ length (constants_in items)
constants_counted m [] labels = refl
constants_counted m (constant_item p c ∷ rest) labels = ap suc (constants_counted m rest labels.rest)
constants_counted m (class_item p c ∷ rest) labels = constants_counted m rest labels.rest
constants_counted m (def_item p f ∷ rest) labels = constants_counted m rest labels.rest

-- ---- findings other than those of scopes

returns_code : {bases : Bases} {t : Tree} {out : Option Env} {c : Option Code} → ReturnsWell bases t out c → (x : Code)
    → c ≡ Some x → is_of_scopes x ≡ false
returns_code leaves x e = absurd (none-some _ e)
returns_code (may_complete a) x e = absurd (none-some _ e)
returns_code (may_not n) x e = subst (λ y. is_of_scopes y ≡ false) (same_Some _ _ e) refl

module _ (m : Module) (f : Finding) (s : is_of_scopes f.code ≡ true) where
  no_option : (a : Option Ann) → OptionAnnFinds m (bases_of m) a f → ⊥
  no_option None h = h
  no_option (Some a) h = no_annotation m (bases_of m) f s a h

  no_default : (binds : Test) (l : Option Literal) (t : Tree) (flows : FlowLabels)
      → LawfulDefault (bases_of m) binds l t flows → DefaultFinds l flows f → ⊥
  no_default binds None t flows law h = h
  no_default false (Some l) t flows law h = no_flows flows (literal_place l) f law h
  no_default true (Some l) t flows law h = no_flow_of_scopes (bases_of m) (clean (literal_type l)) (t ∷ []) flows
      (literal_place l) f law s h

  no_params : (before : List (List ℕ)) (ps : List Param) (labels : ParamsLabels ps) → LawfulParams m before ps labels
      → ParamsFind m ps labels f → ⊥
  no_params before [] labels law h = h
  no_params before (p ∷ ps) labels law h = elim h [
    | inl a ↦ no_option p.annotation a
    | inr b ↦ elim b [
      | inl c ↦ no_default (binds_name before p.name) p.default _ labels.default law.default c
      | inr d ↦
          no_params (p.name.text ∷ before) ps labels.rest law.rest d
    ]
  ]

-- ---- from labels to findings of scopes

module _ (m : Module) (labels : Labelling m) (f : Finding) (s : is_of_scopes f.code ≡ true) where
  abbrev Constants : List Tree
  Constants = constant_types m m.items labels

  -- in a body
  module _ (owner : Owner) (d : FuncDef) (is : function_of m owner ≡ Some d) where
    abbrev Ctx : Context
    Ctx = body_context m (constant_types m m.items labels) (locals owner d)

    means : (word : List ℕ) → resolve m owner word ≡ resolve_among m (locals owner d) word
    means word = ap (λ o. resolve_among m (locals_of_function owner o) word) is

    part_in_body : (e : Expr) → IsPart e (exprs_in_all true d.body) → (part : Expr) → IsPart part (parts_in true e)
        → PartSays Ctx part f → ScopeFinds m f
    part_in_body e among (name n) part says = elim says [
      | inl a ↦ scope.unknown (scope.in_body (record { owner = owner; function = d }) e (is_body m owner d is)
          (is_among e (exprs_in_all true d.body) among)
          (record {
            n = n;
            named = of_given name_of_tree (parts_in true e) (name n) n part refl;
            unknown = means n.text
                ∙ a.0;
            is = a.1;
          }))
      | inr b ↦ absurd (never_early m (constant_types m m.items labels) (locals owner d)
          (constants_counted m m.items labels) (resolve_among m (locals owner d) n.text)
          (there_among m (locals owner d) n.text) b.0)
    ]
    part_in_body e among (call p c args kws) part says = absurd (both refl says.1)
    part_in_body e among _ part says = absurd says

    function_scope : (fm : FunctionLabels d) → LawfulFunction m (constant_types m m.items labels) owner d fm
        → FunctionFinds m (constant_types m m.items labels) owner d fm f → ScopeFinds m f
    function_scope fm law h = elim h [
      | inl a ↦ absurd (no_params m f s (receiver owner) d.params fm.params law.params a)
      | inr b ↦ elim b [
        | inl c ↦ absurd (no_option m f s d.returns c)
        | inr k ↦ elim k [
          | inl x ↦ absurd (no_code d.name.place fm.completing f (returns_code law.completing) s x)
          | inr y ↦
              let r = suite_said m Ctx fm.declared f s (return_type m d) (names_entered [] (entry_parameters m owner d))
              _ d.body fm.body fm.out law.body y in
              part_in_body r.expr r.among r.says.part r.says.among r.says.says
        ]
      ]
    ]

  members_scope : (base : ClassFacts) (c count : ℕ) (before : List (List ℕ)) (ms : List Member) (mm : MembersLabels ms)
      → LawfulMembers m (constant_types m m.items labels) base c count before ms mm
      → ((i n : ℕ) (d : FuncDef) → slice_get (methods_in ms) i ≡ Some d → n ≡ count + i
      → function_of m (owners.Method c n) ≡ Some d) → MembersFind m (constant_types m m.items labels) c count ms mm f
      → ScopeFinds m f
  members_scope base c count before [] mm law at h = absurd h
  members_scope base c count before (field_member x ∷ ms) mm law at h = elim h [
    | inl a ↦ absurd (no_annotation m (bases_of m) f s x.annotation a)
    | inr b ↦ elim b [
      | inl k ↦ absurd (no_default m f s _ x.default _ mm.default law.default k)
      | inr k ↦
          members_scope base c count (x.name.text ∷ before) ms mm.rest law.others at k
    ]
  ]
  members_scope base c count before (method_member x ∷ ms) mm law at h = elim h [
    | inl a ↦ function_scope (owners.Method c count) x (at 0 count x refl (omega arith)) mm.method law.method a
    | inr b ↦ members_scope base c (suc count) (x.name.text ∷ before) ms mm.rest law.others
        (λ i n d e k. at (suc i) n d e (omega arith)) b
  ]

  -- in an initializer
  code_apart : (p q : Place) → f ≡ finding p E02 → f ≡ finding q E03 → ⊥
  code_apart p q a b = let e : E02 ≡ E03 = sym (ap (λ x. x.code) a) ∙ ap (λ x. x.code) b in grind (arith, e)

  module _ (at : ℕ) (first : Place) (c : Constant) (item : slice_get m.items at ≡ Some (constant_item first c))
      (constants : List Tree) (classes : ℕ) (counted : length constants ≡ length (constants_in (take at m.items)))
      (numbered : classes ≡ length (classes_in (take at m.items))) where
    abbrev Here : Context
    Here = initializer_context m constants classes

    as_early : scope.IsEarlyName m (length (constants_in (take at m.items))) (length (classes_in (take at m.items)))
        c.value f ⊎ scope.IsEarlyCallee c.value f → ScopeFinds m f
    as_early h = scope.early (record { at = at; first = first; constant = c; item = item; found = h })

    an_element : (n : ℕ) → Contains (constants_in m.items) c
    an_element n = among_constants m.items at item
      where
        among_constants : (items : List Item) (i : ℕ) → slice_get items i ≡ Some (constant_item first c)
            → Contains (constants_in items) c
        among_constants [] i e = absurd (none-some _ e)
        among_constants (constant_item p x ∷ rest) zero e = (0, omega arith, same_constant (same_Some _ _ e))
          where
            same_constant : constant_item p x ≡ constant_item first c → x ≡ c
            same_constant e = cc
        among_constants (class_item p x ∷ rest) zero e = absurd (grind (arith, e))
        among_constants (def_item p x ∷ rest) zero e = absurd (grind (arith, e))
        among_constants (constant_item p x ∷ rest) (suc i) e = Contains-append_right (x ∷ []) (constants_in rest) c
            (among_constants rest i e)
        among_constants (class_item p x ∷ rest) (suc i) e = among_constants rest i e
        among_constants (def_item p x ∷ rest) (suc i) e = among_constants rest i e

    -- a finding that a judged part and a part of a constant say is a finding of scopes
    part_in_constant : Said Here (parts_in true c.value) f → (part : Expr) → IsPart part (parts_in false c.value)
        → PartSays Here part f → ScopeFinds m f
    part_in_constant judged (name n) among says = elim says [
      | inl a ↦ unknown n.place a.1 judged.part judged.among judged.says
      | inr b ↦
          as_early (inl (record {
            n = n;
            named = of_given name_of_tree (parts_in false c.value) (name n) n among refl;
            early = subst (λ k. IsEarlyMeaning (length (constants_in (take at m.items))) k (resolve_in_module m n.text))
                numbered (early_meaning m constants (length (constants_in (take at m.items))) classes counted
                (resolve_in_module m n.text) b.0);
            is = b.1;
          }))
    ]
      where
        unknown : (p : Place) → f ≡ finding p E02 → (part : Expr) → IsPart part (parts_in true c.value)
            → PartSays Here part f → ScopeFinds m f
        unknown p e (name w) among says = elim says [
          | inl a ↦ scope.unknown (scope.in_constant c (an_element 0)
              (record {
                n = w;
                named = of_given name_of_tree (parts_in true c.value) (name w) w among refl;
                unknown =
                    a.0;
                is = a.1;
              }))
          | inr b ↦ absurd (code_apart p w.place e b.1)
        ]
        unknown p e (call q x args kws) among says = absurd (code_apart p (place_of x) e says.2)
        unknown p e _ among says = absurd says
    part_in_constant judged (call q x args kws) among says =
        as_early
        (inr (record {
          place = place_of x;
          callee = of_given other_callee (parts_in false c.value)
              (call q x args kws) (place_of x) among (ap (λ b. if b then None else Some (place_of x)) says.0);
          is =
              says.2;
        }))
    part_in_constant judged _ among says = absurd says

-- ---- items after those before them

-- the state before an item counts the items before it
pub record Reached (done : List Item) (b : BeforeItem) : Type 0 where
  pub constants : length b.constants ≡ length (constants_in done)
  pub classes : b.classes ≡ length (classes_in done)
  pub functions : b.functions ≡ length (functions_in done)

one_more : {A : Type 0} (gives : Item → Option A) (done : List Item) (i : Item)
    → length (filter_map gives (done ++ i ∷ [])) ≡ length (filter_map gives done) + length (filter_map gives (i ∷ []))
one_more gives done i = ap length (filter_map-append gives done (i ∷ []))
    ∙ length-append (filter_map gives done) (filter_map gives (i ∷ []))

reached_next : (m : Module) (done : List Item) (b : BeforeItem) (i : Item) (im : ItemLabels i) → Reached done b
    → Reached (done ++ i ∷ []) (before_next m b i im)
reached_next m done b (constant_item p c) im r =
    let k = one_more as_constant done (constant_item p c) in
    let cs = one_more as_class done (constant_item p c) in
    let fs = one_more as_function done (constant_item p c) in
    let n = length-append b.constants (item_constants m (constant_item p c) im) in
    record {
      constants = omega (arith, k, n, r.constants);
      classes = omega (arith, cs, r.classes);
      functions =
          omega (arith, fs, r.functions);
    }
reached_next m done b (class_item p c) im r =
    let k = one_more as_constant done (class_item p c) in
    let cs = one_more as_class done (class_item p c) in
    let fs = one_more as_function done (class_item p c) in
    record {
      constants = omega (arith, k, r.constants);
      classes = omega (arith, cs, r.classes);
      functions =
          omega (arith, fs, r.functions);
    }
reached_next m done b (def_item p f) im r =
    let k = one_more as_constant done (def_item p f) in
    let cs = one_more as_class done (def_item p f) in
    let fs = one_more as_function done (def_item p f) in
    record {
      constants = omega (arith, k, r.constants);
      classes = omega (arith, cs, r.classes);
      functions =
          omega (arith, fs, r.functions);
    }

nothing_reached : Reached [] nothing_before
nothing_reached = record { constants = refl; classes = refl; functions = refl }

module _ (m : Module) (done : List Item) (i : Item) (rest : List Item) (all : m.items ≡ done ++ i ∷ rest) where
  item_here : slice_get m.items (length done) ≡ Some i
  item_here = ap (λ l. slice_get l (length done)) all ∙ get_at_end done i rest

  taken_here : take (length done) m.items ≡ done
  taken_here = ap (take (length done)) all ∙ take-append_seam done (i ∷ rest)

  kind_here : {A : Type 0} (gives : Item → Option A) (x : A) → gives i ≡ Some x
      → slice_get (filter_map gives m.items) (length (filter_map gives done)) ≡ Some x
  kind_here gives x is =
      ap (λ l. slice_get l (length (filter_map gives done))) (ap (filter_map gives) all
      ∙ filter_map-append gives done (i ∷ rest))
      ∙ ap (λ o. slice_get (filter_map gives done ++ cons_option o (filter_map gives rest))
      (length (filter_map gives done))) is
      ∙ get_at_end (filter_map gives done) x (filter_map gives rest)

module _ (m : Module) (labels : Labelling m) (f : Finding) (s : is_of_scopes f.code ≡ true) where
  items_scope : (done items : List Item) (b : BeforeItem) (im : ModuleItemsLabels items) → m.items ≡ done ++ items
      → Reached done b → LawfulModuleItems m (constant_types m m.items labels) b items im
      → ModuleItemsFind m (constant_types m m.items labels) b items im f → ScopeFinds m f
  items_scope done [] b im all r law h = absurd h
  items_scope done (i ∷ rest) b im all r law h = elim h [
    | inl a ↦ here i im.first all law.0 a
    | inr k ↦ items_scope (done ++ i ∷ []) rest (before_next m b i im.first) im.rest
        (all ∙ sym (append_assoc done (i ∷ []) rest)) (reached_next m done b i im.first r) law.1 k
  ]
    where
      here : (i : Item) (k : ItemLabels i) → m.items ≡ done ++ i ∷ rest → LawfulItem m (constant_types m m.items labels)
          b i k → ItemFinds m (constant_types m m.items labels) b i k f → ScopeFinds m f
      here (constant_item p c) k all law h =
          let counted : length b.constants ≡ length (constants_in (take (length done) m.items)) = r.constants
          ∙ ap (λ l. length (constants_in l)) (sym (taken_here m done (constant_item p c) rest all)) in
          let numbered : b.classes ≡ length (classes_in (take (length done) m.items)) = r.classes
          ∙ ap (λ l. length (classes_in l)) (sym (taken_here m done (constant_item p c) rest all)) in
          elim h [
            | inl x ↦ absurd (no_option m f s c.annotation x)
            | inr y ↦ elim y [
              | inl u ↦ absurd (no_flow_of_scopes (bases_of m) (whole_label c.value k.value)
                  (annotated_types m (binds_name b.names c.name) c.annotation) k.flows (place_of c.value) f law.flow s
                  u)
              | inr v ↦
                  let judged = said (initializer_context m b.constants b.classes) [] true f s [] _ c.value k.value
                  law.value v in
                  let every = said (initializer_context m b.constants b.classes) [] false f s [] _ c.value k.value
                  law.value v in
                  part_in_constant m labels f s (length done) p c (item_here m done (constant_item p c) rest all)
                  b.constants b.classes counted numbered judged every.part every.among every.says
            ]
          ]
      here (class_item p c) k all law h =
          let is : slice_get (classes_in m.items) b.classes ≡ Some c = ap (slice_get (classes_in m.items)) r.classes
          ∙ kind_here m done (class_item p c) rest all as_class c refl in
          members_scope m labels f s (base_class m b.classes c) b.classes 0 [] c.members k law
          (λ j n d e at. let same : j ≡ n = omega (arith, at) in ap (λ o. method_at o n) is
          ∙ ap (slice_get (methods_in c.members)) (sym same) ∙ e) h
      here (def_item p d) k all law h =
          function_scope m labels f s (owners.Func b.functions) d (ap (slice_get (functions_in m.items)) r.functions
          ∙ kind_here m done (def_item p d) rest all as_function d refl) k law h

-- ---- from findings of scopes to labels

module _ (m : Module) (constants : List Tree) where
  -- a constant with its labels
  record ConstantIn (done : List Item) (c : Constant) (finds : Finding → Type 0) : Type 0 where
    before : BeforeItem
    reached : Reached done before
    first : Place
    labels : ItemLabels (constant_item first c)
    lawful : LawfulItem m constants before (constant_item first c) labels
    within : (f : Finding) → Finds c.value labels.value f → finds f

  constant_in : (done items taken : List Item) (b : BeforeItem) (im : ModuleItemsLabels items) → Reached done b
      → LawfulModuleItems m constants b items im → (at : ℕ) (first : Place) (c : Constant)
      → slice_get items at ≡ Some (constant_item first c) → taken ≡ done ++ take at items
      → ConstantIn taken c (ModuleItemsFind m constants b items im)
  constant_in done [] taken b im r law at first c e all = absurd (none-some _ e)
  constant_in done (constant_item p x ∷ rest) taken b im r law zero first c e all =
      subst (λ y. ConstantIn taken y (ModuleItemsFind m constants b (constant_item p x ∷ rest) im))
      (constant_of (same_Some _ _ e))
      (record {
        before = b;
        reached = subst (λ l. Reached l b) (sym (all ∙ append-nil done)) r;
        first = p;
        labels =
            im.first;
        lawful = law.0;
        within = λ f h. inl (inr (inr h));
      })
    where
      constant_of : constant_item p x ≡ constant_item first c → x ≡ c
      constant_of e = cc
  constant_in done (class_item p x ∷ rest) taken b im r law zero first c e all = absurd (grind (arith, e))
  constant_in done (def_item p x ∷ rest) taken b im r law zero first c e all = absurd (grind (arith, e))
  constant_in done (i ∷ rest) taken b im r law (suc at) first c e all =
      let h = constant_in (done ++ i ∷ []) rest taken (before_next m b i im.first) im.rest
      (reached_next m done b i im.first r) law.1 at first c e (all
      ∙ sym (append_assoc done (i ∷ []) (take at rest))) in
      record {
        before = h.before;
        reached = h.reached;
        first = h.first;
        labels = h.labels;
        lawful = h.lawful;
        within =
            λ f x. inr (h.within f x);
      }

-- a constant stands somewhere among the items
record ConstantAt (items : List Item) (c : Constant) : Type 0 where
  at : ℕ
  first : Place
  is : slice_get items at ≡ Some (constant_item first c)

constant_at : (items : List Item) (c : Constant) → Contains (constants_in items) c → ConstantAt items c
constant_at [] c h = absurd (none_among c h)
constant_at (constant_item p x ∷ rest) c h = elim (among_first x (constants_in rest) c h) [
  | inl e ↦ record { at = 0; first = p; is = ap (λ y. Some (constant_item p y)) e }
  | inr k ↦ let r = constant_at rest c k in record { at = suc r.at; first = r.first; is = r.is }
]
constant_at (class_item p x ∷ rest) c h = let r = constant_at rest c h in
    record { at = suc r.at; first = r.first; is = r.is }
constant_at (def_item p x ∷ rest) c h = let r = constant_at rest c h in
    record { at = suc r.at; first = r.first; is = r.is }

module _ (m : Module) (labels : Labelling m) (lawful : IsLawful m labels) where
  of_constant : (at : ℕ) (first : Place) (c : Constant) → slice_get m.items at ≡ Some (constant_item first c)
      → ConstantIn m (constant_types m m.items labels) (take at m.items) c (LabelsSay m labels)
  of_constant at first c is = constant_in m (constant_types m m.items labels) [] m.items (take at m.items)
      nothing_before labels nothing_reached lawful at first c is refl

  -- a part of an initializer
  part_of_constant : (at : ℕ) (first : Place) (c : Constant) (is : slice_get m.items at ≡ Some (constant_item first c))
      (part : Expr) (f : Finding) → IsPart part (parts_in true c.value)
      → PartSays (initializer_context m (of_constant at first c is).before.constants
      (of_constant at first c is).before.classes) part f → LabelsSay m labels f
  part_of_constant at first c is part f among says =
      let k = of_constant at first c is in
      k.within f (said_found (initializer_context m k.before.constants k.before.classes) [] part f says [] _ c.value
      k.labels.value k.lawful.value among)

  unknown_constant : (c : Constant) → Contains (constants_in m.items) c → (f : Finding)
      → IsUnknownIn m owners.Module c.value f → LabelsSay m labels f
  unknown_constant c among f h =
      let k = constant_at m.items c among in
      part_of_constant k.at k.first c k.is (name h.n) f (name_part (parts_in true c.value) h.n h.named)
      (inl (h.unknown, h.is))

  unknown_body : (b : Body) → Contains (bodies m) b → (e : Expr) → Contains (exprs_in_all true b.function.body) e
      → (f : Finding) → IsUnknownIn m b.owner e f → LabelsSay m labels f
  unknown_body b of e among f h =
      let is = body_is m b of in
      let k = function_labels m labels lawful b.owner b.function is in
      let means : resolve m b.owner h.n.text ≡ resolve_among m (locals b.owner b.function) h.n.text =
      ap (λ o. resolve_among m (locals_of_function b.owner o) h.n.text) is in
      k.within f
      (inr (inr (inr (suite_found m (body_context m (constant_types m m.items labels) (locals b.owner b.function))
      k.labels.declared (name h.n) f (inl (sym means ∙ h.unknown, h.is)) e (name_part (parts_in true e) h.n h.named)
      (return_type m b.function) (names_entered [] (entry_parameters m b.owner b.function)) _ b.function.body
      k.labels.body k.labels.out k.lawful.body (is_part e (exprs_in_all true b.function.body) among)))))

  early_named : (at : ℕ) (first : Place) (c : Constant) → slice_get m.items at ≡ Some (constant_item first c)
      → (n : Name) → Contains (filter_map name_of_tree (parts_in true c.value)) n
      → IsEarlyMeaning (length (constants_in (take at m.items))) (length (classes_in (take at m.items)))
      (resolve_in_module m n.text) → LabelsSay m labels (finding n.place E03)
  early_named at first c is n named early =
      let k = of_constant at first c is in
      part_of_constant at first c is (name n) (finding n.place E03) (name_part (parts_in true c.value) n named)
      (inr (
        early_here m k.before.constants (length (constants_in (take at m.items))) k.before.classes
            k.reached.constants (resolve_in_module m n.text)
            (subst (λ x. IsEarlyMeaning (length (constants_in (take at m.items))) x (resolve_in_module m n.text))
            (sym k.reached.classes) early),
        refl,
      ))

  early_called : (at : ℕ) (first : Place) (c : Constant) → slice_get m.items at ≡ Some (constant_item first c)
      → (callee : Place) → Contains (filter_map other_callee (parts_in true c.value)) callee
      → LabelsSay m labels (finding callee E03)
  early_called at first c is callee among =
      let g = given_of other_callee (parts_in true c.value) callee among in
      let o = is_other g.from callee g.is in
      part_of_constant at first c is (call o.call_at o.called o.arguments o.keywords) (finding callee E03)
      (subst (λ e. IsPart e (parts_in true c.value)) o.is g.among) (o.other, refl, ap (λ p. finding p E03) o.place)

  -- labels say of scopes what is found of them
  pub agrees : AgreesWithScopes m labels
  agrees = record {
    found = λ f s h. items_scope m labels f s [] m.items nothing_before labels refl nothing_reached lawful h;
    unknown_in_constant = unknown_constant;
    unknown_in_body = unknown_body;
    early_name = early_named;
    early_callee = early_called;
  }
