-- In a module without silent errors no two fields of a class, and no two parameters of a method, have one name.
use Rattle.std.proofs.Common.{◌≡◌, ℕ, zero, suc, ◌<◌, List, [], ◌∷◌, ◌++◌, refl, sym, ap, ◌∙◌, subst, inl, inr, arith}
use Rattle.std.specs.Prelude.{Bool as Test, true, false, ◌&&◌, ◌||◌, not, is_some, if◌then◌else◌, Option, Some, None}
use Rattle.std.specs.Prelude.{slice_get, bytes_eq, codes}
use Rattle.std.proofs.lemmas.Bool.{and_parts, not-true, or_parts}
use Rattle.pc_tree.specs.Tree.{FuncDef, Member, field_member, method_member, ClassDef, Module}
use Rattle.pc_scope.specs.declared.resolution.Owner.TheVariants as owners
use Rattle.pc_scope.specs.Reserved.{is_builtin_name}
use Rattle.pc_scope.specs.Bindings.{classes_in, methods_in}
use Rattle.pc_scope.specs.Resolution.{is_one_of, receiver, method_at}
use Rattle.pc_annotations.specs.Annotations.{read_ann}
use Rattle.pc_class.specs.Bases.{bases_of, base_named}
use Rattle.pc_class.specs.Facts as facts
use Rattle.pc_class.specs.Facts.{TypedParameter, Method, field_by_name, method_by_name, class_in, class_facts_at}
use Rattle.pc_class.specs.Facts.{base_facts, classes_of, parameters_of, binds_field, binds_method, own_fields}
use Rattle.pc_class.specs.Facts.{own_methods, method_made}
use Rattle.pc_class.proofs.ClassesBuilt.{no_class_past, class_is, class_over, below_class}
use Rattle.pc_module_rules.specs.Modules.{Labelling, IsLawful}
use Rattle.pc_sound.specs.Silent.{HasNoSilentError}
use Rattle.pc_sound.proofs.Calls.OverridesFit.{IsIn, found_in, in_either}
use Rattle.pc_sound.proofs.Calls.FilledParameters.{Distinct}
use Rattle.pc_sound.proofs.Modules.MembersBind.{BindAll, members_bind}
use Rattle.pc_sound.proofs.Modules.UniqueNames.{parameters_distinct, function_binds}

-- ---- fields, one after another

names_behind : List (List ℕ) → List TypedParameter → List (List ℕ)
names_behind acc [] = acc
names_behind acc (p ∷ ps) = names_behind (p.name ∷ acc) ps

distinct_both : (acc : List (List ℕ)) (xs ys : List TypedParameter) → Distinct acc xs
    → Distinct (names_behind acc xs) ys → Distinct acc (xs ++ ys)
unfolding names_behind
distinct_both acc [] ys a b = b
distinct_both acc (x ∷ xs) ys a b = (a.0, distinct_both (x.name ∷ acc) xs ys a.1 b)

none_behind : (acc : List (List ℕ)) (xs : List TypedParameter) (word : List ℕ) → is_one_of word acc ≡ false
    → field_by_name xs word ≡ None → is_one_of word (names_behind acc xs) ≡ false
unfolding names_behind
none_behind acc [] word e n = e
none_behind acc (x ∷ xs) word e n = go (bytes_eq word x.name) refl n (λ f g. none_behind (x.name ∷ acc) xs word f g)
  where
    go : (b : Test) → bytes_eq word x.name ≡ b → (if b then Some x else field_by_name xs word) ≡ None
        → (is_one_of word (x.name ∷ acc) ≡ false → field_by_name xs word ≡ None
        → is_one_of word (names_behind (x.name ∷ acc) xs) ≡ false) → is_one_of word (names_behind (x.name ∷ acc) xs)
        ≡ false
    go true t n others = absurd (grind (arith, n))
    go false t n others = others (ap (λ b. b || is_one_of word acc) t ∙ e) n

no_some : {A : Type 0} (o : Option A) → is_some o ≡ false → o ≡ None
no_some None e = refl
no_some (Some x) e = absurd (grind (arith, e))

-- a field that binds its name is new among the members before it, and among the fields of the base
field_new : (base : facts.ClassFacts) (before : List (List ℕ)) (name : List ℕ) → binds_field base before name ≡ true
    → (is_one_of name before ≡ false) × (field_by_name base.fields name ≡ None)
field_new base before name e =
    let a = and_parts (not (is_builtin_name name || bytes_eq name (codes "mro")))
    (not (is_one_of name before) && not (is_some (field_by_name base.fields name)
    || is_some (method_by_name base.methods name))) e in
    let b = and_parts (not (is_one_of name before))
    (not (is_some (field_by_name base.fields name) || is_some (method_by_name base.methods name))) a.1 in (
      not-true (is_one_of name before) b.0,
      no_some (field_by_name base.fields name)
          (or_parts (is_some (field_by_name base.fields name)) (is_some (method_by_name base.methods name))
          (not-true (is_some (field_by_name base.fields name) || is_some (method_by_name base.methods name)) b.1)).0,
    )

module _ (m : Module) where
  -- own fields after those of the base
  own_distinct : (base : facts.ClassFacts) (before acc : List (List ℕ)) (ms : List Member) → BindAll m base before ms
      → ((word : List ℕ) → is_one_of word before ≡ false → field_by_name base.fields word ≡ None
      → is_one_of word acc ≡ false) → Distinct acc (own_fields m base before ms)
  own_distinct base before acc [] binds new = tt
  own_distinct base before acc (method_member f ∷ ms) binds new = own_distinct base (f.name.text ∷ before) acc ms
      binds.1 (λ word e n. new word (or_parts (bytes_eq word f.name.text) (is_one_of word before) e).1 n)
  own_distinct base before acc (field_member f ∷ ms) binds new =
      subst
      (λ b. Distinct acc ((if b then record {
        name = f.name.text;
        type = read_ann m (bases_of m) f.annotation;
        has_default = is_some f.default;
      } ∷ [] else []) ++ own_fields m base (f.name.text ∷ before) ms)) (sym binds.0)
      (let h = field_new base before f.name.text binds.0 in (
        new f.name.text h.0 h.1,
        own_distinct base (f.name.text ∷ before) (f.name.text ∷ acc) ms binds.1 wider,
      ))
    where
      wider : (word : List ℕ) → is_one_of word (f.name.text ∷ before) ≡ false → field_by_name base.fields word ≡ None
          → is_one_of word (f.name.text ∷ acc) ≡ false
      wider word e n = go (bytes_eq word f.name.text) e
        where
          go : (b : Test) → (b || is_one_of word before) ≡ false → (b || is_one_of word acc) ≡ false
          go true e = absurd (grind (arith, e))
          go false e = new word e n

  -- a method of a class's own was made of a member
  record OwnMethod (ms : List Member) (q : Method) : Type 0 where
    at : ℕ
    def : FuncDef
    is : slice_get (methods_in ms) at ≡ Some def
    params : q.parameters ≡ parameters_of m def.params

  own_method : (base : facts.ClassFacts) (c number : ℕ) (before : List (List ℕ)) (ms : List Member) (q : Method)
      → IsIn (own_methods m base c number before ms) q → OwnMethod ms q
  own_method base c number before [] q h = absurd h
  own_method base c number before (field_member f ∷ ms) q h = let r = own_method base c number (f.name.text ∷ before) ms
      q h in record { at = r.at; def = r.def; is = r.is; params = r.params }
  own_method base c number before (method_member f ∷ ms) q h = go (binds_method base before f.name.text) h
      (λ x. own_method base c (suc number) (f.name.text ∷ before) ms q x)
    where
      next : OwnMethod ms q → OwnMethod (method_member f ∷ ms) q
      next r = record { at = suc r.at; def = r.def; is = r.is; params = r.params }

      go : (b : Test) → IsIn ((if b then method_made m c number f ∷ [] else []) ++ own_methods m base c (suc number)
          (f.name.text ∷ before) ms) q → (IsIn (own_methods m base c (suc number) (f.name.text ∷ before) ms) q
          → OwnMethod ms q) → OwnMethod (method_member f ∷ ms) q
      go true h others = elim h [
        | inl e ↦ record { at = 0; def = f; is = refl; params = ap (λ x. x.parameters) (sym e) }
        | inr r ↦ next (others r)
      ]
      go false h others = next (others h)

  module _ (labels : Labelling m) (lawful : IsLawful m labels) (clean : HasNoSilentError m) where
    abbrev FieldsDistinct : ℕ → Type 0
    FieldsDistinct c = Distinct [] (class_facts_at (classes_of m) c).fields

    abbrev MethodsDistinct : ℕ → Type 0
    MethodsDistinct c = (q : Method) → IsIn (class_facts_at (classes_of m) c).methods q → Distinct [] q.parameters

    over_base : (c : ℕ) (class : ClassDef) → slice_get (classes_in m.items) c ≡ Some class → (base : facts.ClassFacts)
        → BindAll m base [] class.members → Distinct [] base.fields
        → ((q : Method) → IsIn base.methods q → Distinct [] q.parameters)
        → Distinct [] (class_over m c class base).fields × ((q : Method) → IsIn (class_over m c class base).methods q
        → Distinct [] q.parameters)
    over_base c class is base binds fields methods = (
      distinct_both [] base.fields (own_fields m base [] class.members) fields
          (own_distinct base [] (names_behind [] base.fields) class.members binds
          (λ word e n. none_behind [] base.fields word refl n)),
      λ q h. elim (in_either (own_methods m base c 0 [] class.members) base.methods q h) [
        | inl a ↦ let r = own_method base c 0 [] class.members q a in subst (λ ps. Distinct [] ps) (sym r.params)
            (parameters_distinct m (receiver (owners.Method c r.at)) r.def.params
            (function_binds m labels lawful clean (owners.Method c r.at) r.def (ap (λ o. method_at o r.at) is ∙ r.is)))
        | inr b ↦ methods q b
      ],
    )

    distinct_below : (n c : ℕ) → c < n → FieldsDistinct c × MethodsDistinct c
    distinct_below zero c h = absurd (omega arith)
    distinct_below (suc n) c h = go (slice_get (classes_in m.items) c) refl (λ b less. distinct_below n b (omega arith))
      where
        go : (o : Option ClassDef) → slice_get (classes_in m.items) c ≡ o
            → ((b : ℕ) → b < c → FieldsDistinct b × MethodsDistinct b) → FieldsDistinct c × MethodsDistinct c
        go None is below =
            let e = no_class_past m c is in (
              subst (λ o. Distinct [] (class_in o).fields) (sym e) tt,
              λ q x. absurd (subst (λ o. IsIn (class_in o).methods q) e x),
            )
        go (Some class) is below = by_base (base_named m c class.base) refl
          where
            by_base : (o : Option ℕ) → base_named m c class.base ≡ o → FieldsDistinct c × MethodsDistinct c
            by_base None none =
                let r = over_base c class is (base_facts (classes_of m) (base_named m c class.base))
                (members_bind m labels lawful clean c class is)
                (subst (λ o. Distinct [] (base_facts (classes_of m) o).fields) (sym none) tt)
                (λ q x. absurd (subst (λ o. IsIn (base_facts (classes_of m) o).methods q) none x)) in (
                  subst (λ k. Distinct [] k.fields) (sym (class_is m c class is)) r.0,
                  λ q x. r.1 q (subst (λ k. IsIn k.methods q) (class_is m c class is) x),
                )
            by_base (Some b) some =
                let d = below b (below_class m c b class is some) in
                let r = over_base c class is (base_facts (classes_of m) (base_named m c class.base))
                (members_bind m labels lawful clean c class is)
                (subst (λ o. Distinct [] (base_facts (classes_of m) o).fields) (sym some) d.0)
                (λ q x. d.1 q (subst (λ o. IsIn (base_facts (classes_of m) o).methods q) some x)) in (
                  subst (λ k. Distinct [] k.fields) (sym (class_is m c class is)) r.0,
                  λ q x. r.1 q (subst (λ k. IsIn k.methods q) (class_is m c class is) x),
                )

    -- the fields of a class
    pub fields_distinct : (c : ℕ) → Distinct [] (class_facts_at (classes_of m) c).fields
    fields_distinct c = (distinct_below (suc c) c (omega arith)).0

    -- the parameters of a method
    pub methods_distinct : (c : ℕ) (word : List ℕ) (old : Method)
        → method_by_name (class_facts_at (classes_of m) c).methods word ≡ Some old → Distinct [] old.parameters
    methods_distinct c word old e = (distinct_below (suc c) c (omega arith)).1 old
        (found_in (class_facts_at (classes_of m) c).methods word old e).0
