-- A class that is made has the fields, the methods and the ancestors that its facts say.
use Rattle.std.proofs.Common.{◌≡◌, ℕ, suc, ◌+◌, List, [], ◌∷◌, ◌++◌, length, refl, sym, ap, ◌∙◌, subst, inl, inr, arith}
use Rattle.std.proofs.Common.{length-append, eq-eqb}
use Rattle.std.specs.Prelude.{Bool as Test, true, false, if◌then◌else◌, is_some, nat_lt, nat_eq, codes, Option, Some}
use Rattle.std.specs.Prelude.{None, slice_get}
use Rattle.std.proofs.lemmas.Bool.Decides.{nat_tests}
use Rattle.std.proofs.lemmas.List.Elements.{Contains-append_left, Contains-append_right}
use Rattle.std.proofs.lemmas.Option.{same_Some}
use Rattle.std.proofs.lemmas.Bool.{false≢true, or_cases, or_left, or_right}
use Rattle.pc_source.specs.declared.place.Place.{Place}
use Rattle.pc_source.specs.ReservedNames.{is_reserved}
use Rattle.pc_tree.specs.Stopping.{of_defs}
use Rattle.pc_tree.specs.Tree.{Name, FuncDef, Member, field_member, method_member, ClassDef, class_item, Module}
use Rattle.pc_scope.specs.declared.resolution.Owner.TheVariants as owners
use Rattle.pc_scope.specs.declared.resolution.NameMeaning.{NameMeaning}
use Rattle.pc_scope.specs.declared.resolution.NameMeaning.TheVariants as meaning
use Rattle.pc_scope.specs.Bindings.{classes_in, methods_in}
use Rattle.pc_scope.specs.Reserved.{is_builtin_name as is_reserved_name}
use Rattle.pc_scope.specs.Resolution.{function_of, method_at, is_one_of, resolve_in_module}
use Rattle.pc_types.specs.Tree.{Tree}
use Rattle.pc_types.specs.Tree as tree
use Rattle.pc_types.specs.Below as subtyping
use Rattle.pc_types.specs.Below.{Bases, Below, same, through}
use Rattle.pc_types.proofs.Structural.{Chain, here, up, chain_below}
use Rattle.pc_types.proofs.Descent.{chain_of}
use Rattle.pc_annotations.specs.Annotations.{read_ann}
use Rattle.pc_class.specs.Bases.{bases_of, base_named, earlier_class}
use Rattle.pc_class.specs.Facts as facts
use Rattle.pc_class.specs.Facts.{TypedParameter, Method, base_facts, classes_of, class_facts_at, binds_field}
use Rattle.pc_class.specs.Facts.{binds_method, own_fields, own_methods, method_made}
use Rattle.pc_class.specs.Findings.{base_class}
use Rattle.pc_class.proofs.ClassesBuilt.{has_base, base_known, class_is}
use Rattle.pc_rules.specs.Signatures.{LawfulDefault}
use Rattle.pc_module_rules.specs.Modules.{MembersLabels, LawfulMembers, MembersFind, BeforeItem, ItemLabels, LawfulItem}
use Rattle.pc_module_rules.specs.Modules.{ItemFinds}
use Rattle.pc_value.specs.Value.{Value, Gives, Stops, Raised, TypeError}
use Rattle.pc_machine.specs.State as state
use Rattle.pc_machine.specs.State.{State, Function, Class, a_class}
use Rattle.pc_machine.specs.Calls as run
use Rattle.pc_machine.specs.Calls.{is_ancestor}
use Rattle.pc_machine.specs.Names.{means_class, meaning_in_run, meaning_of_local, meaning_of_global, local_by_name}
use Rattle.pc_machine.specs.Names.{global_by_name}
use Rattle.pc_machine.specs.Steps.{Parts}
use Rattle.pc_machine.specs.Free.{Step, free}
use Rattle.pc_machine.specs.Evaluation as evaluation
use Rattle.pc_machine.specs.Evaluation.{make_members, exec_item, dataclass_found, binds_class, Members, fields_of}
use Rattle.pc_machine.specs.Evaluation.{methods_of, ancestors_of, class_behind, all_have_defaults, defaults_last}
use Rattle.pc_sound.specs.Values.{HeapTyping}
use Rattle.pc_sound.specs.Silent.{default_place, param_defaults_in, field_defaults, field_defaults_in}
use Rattle.pc_sound.specs.Ends.{EndsWell}
use Rattle.pc_sound.specs.Loaded.{AncestorsAre, DefaultHas, DefaultsHave, MadeOf, MethodsAre, ClassIs}
use Rattle.pc_sound.proofs.TruthValues.{neither}
use Rattle.pc_sound.proofs.Lists.{get_at_end, get_left}
use Rattle.pc_sound.proofs.Steps.LeadingSteps.{Known}
use Rattle.pc_sound.proofs.Steps.ModuleSteps.{Proceeds, proceeds_bind, proceeds_comes, proceeds_looks, proceeds_changes}
use Rattle.pc_sound.proofs.Modules.ModuleNames.{class_named}
use Rattle.pc_sound.proofs.Modules.ModuleOrder.{BoundSoFar, bound_class, Between, Listed, ParametersBind, default_made}
use Rattle.pc_sound.proofs.Modules.ModuleOrder.{function_made, OfDefaults}
use Rattle.pc_sound.proofs.Modules.PlacesInModules.{function_places, field_places}
use Rattle.pc_sound.proofs.Modules.ModuleItems.{ItemReady, GoodClasses}

-- ---- the order of fields

abbrev pub all_default : List TypedParameter → Test
all_default [] = true
all_default (p ∷ rest) = if p.has_default then all_default rest else false

-- no field without default stands after one with default
abbrev pub fields_last : List TypedParameter → Test
fields_last [] = true
fields_last (p ∷ rest) = if p.has_default then all_default rest else fields_last rest

module _ (bases : Bases) (k : HeapTyping) where
  has_same : (t : Tree) (b : Test) (v : Option Value) → DefaultHas bases k t b v → is_some v ≡ b
  has_same t true (Some v) h = refl
  has_same t false None h = refl
  has_same t true None h = absurd h
  has_same t false (Some v) h = absurd h

  all_same : (ps : List state.FormalParameter) (qs : List TypedParameter) → DefaultsHave bases k ps qs
      → all_have_defaults ps ≡ all_default qs
  all_same [] [] h = refl
  all_same [] (q ∷ qs) h = absurd h
  all_same (p ∷ ps) [] h = absurd h
  all_same (p ∷ ps) (q ∷ qs) h = ap (λ x. if x then all_have_defaults ps else false)
      (has_same q.type q.has_default p.default h.1.0) ∙ ap (λ y. if q.has_default then y else false)
      (all_same ps qs h.1.1)

  -- a run sees the same order of defaults
  last_same : (ps : List state.FormalParameter) (qs : List TypedParameter) → DefaultsHave bases k ps qs
      → defaults_last ps ≡ fields_last qs
  last_same [] [] h = refl
  last_same [] (q ∷ qs) h = absurd h
  last_same (p ∷ ps) [] h = absurd h
  last_same (p ∷ ps) (q ∷ qs) h = ap (λ x. if x then all_have_defaults ps else defaults_last ps)
      (has_same q.type q.has_default p.default h.1.0) ∙ go q.has_default (last_same ps qs h.1.1)
    where
      go : (b : Test) → defaults_last ps ≡ fields_last qs → (if b then all_have_defaults ps else defaults_last ps)
          ≡ (if b then all_default qs else fields_last qs)
      go true rest = all_same ps qs h.1.1
      go false rest = rest

  -- fields and methods after those of a base
  fields_append : (ps ps' : List state.FormalParameter) (qs qs' : List TypedParameter) → DefaultsHave bases k ps qs
      → DefaultsHave bases k ps' qs' → DefaultsHave bases k (ps ++ ps') (qs ++ qs')
  fields_append [] ps' [] qs' h g = g
  fields_append [] ps' (q ∷ qs) qs' h g = absurd h
  fields_append (p ∷ ps) ps' [] qs' h g = absurd h
  fields_append (p ∷ ps) ps' (q ∷ qs) qs' h g = (h.0, (h.1.0, fields_append ps ps' qs qs' h.1.1 g))

methods_append : (m : Module) (k : HeapTyping) (fs gs : List Function) (qs rs : List Method) → MethodsAre m k fs qs
    → MethodsAre m k gs rs → MethodsAre m k (fs ++ gs) (qs ++ rs)
methods_append m k [] gs [] rs h g = g
methods_append m k [] gs (q ∷ qs) rs h g = absurd h
methods_append m k (f ∷ fs) gs [] rs h g = absurd h
methods_append m k (f ∷ fs) gs (q ∷ qs) rs h g = (h.0, methods_append m k fs gs qs rs h.1 g)

-- ---- bases

-- a class before the one of a number
pub record EarlierClass (c b : ℕ) (r : NameMeaning) : Type 0 where
  pub is : r ≡ meaning.Class b
  pub before : nat_lt b c ≡ true

pub earlier_is : (c b : ℕ) (r : NameMeaning) → earlier_class c r ≡ Some b → EarlierClass c b r
earlier_is c b (meaning.Class d) e = go (nat_lt d c) refl e
  where
    go : (x : Test) → nat_lt d c ≡ x → (if x then Some d else None) ≡ Some b → EarlierClass c b (meaning.Class d)
    go true is e = record {
      is = ap meaning.Class (same_Some _ _ e);
      before = ap (λ n. nat_lt n c) (sym (same_Some _ _ e))
          ∙ is;
    }
    go false is e = absurd (grind (arith, e))
earlier_is c b (meaning.Local n) e = absurd (grind (arith, e))
earlier_is c b (meaning.Const n) e = absurd (grind (arith, e))
earlier_is c b (meaning.Func n) e = absurd (grind (arith, e))
earlier_is c b (meaning.Builtin n) e = absurd (grind (arith, e))
earlier_is c b meaning.None e = absurd (grind (arith, e))

module _ (m : Module) where
  -- a class is above the base
  record BaseBelow (base : Option ℕ) (e : ℕ) : Type 0 where
    number : ℕ
    is : base ≡ Some number
    below : Below (bases_of m) (tree.Class number) (tree.Class e)

  -- a class as its facts say
  record NewClass (k : HeapTyping) (n : ℕ) (class : Class) : Type 0 where
    fields : DefaultsHave (bases_of m) k class.fields (class_facts_at (classes_of m) n).fields
    methods : MethodsAre m k class.methods (class_facts_at (classes_of m) n).methods
    ancestors : AncestorsAre (bases_of m) n class.ancestors

  -- the base of a class as a run has made it
  record BaseMade (k : HeapTyping) (base : Option ℕ) (made : Option Class) : Type 0 where
    fields : DefaultsHave (bases_of m) k (fields_of made) (base_facts (classes_of m) base).fields
    methods : MethodsAre m k (methods_of made) (base_facts (classes_of m) base).methods
    below : (e : ℕ) → is_ancestor e (ancestors_of made) ≡ true → BaseBelow base e
    reached : (b e : ℕ) → base ≡ Some b → Below (bases_of m) (tree.Class b) (tree.Class e)
        → is_ancestor e (ancestors_of made) ≡ true

  base_made : (k : HeapTyping) (all : List Class) (base : Option ℕ) → ((b : ℕ) → base ≡ Some b → ClassIs m k all b)
      → BaseMade k base (run.class_at all base)
  base_made k all None is = record {
    fields = tt;
    methods = tt;
    below = λ e h. absurd (false≢true h);
    reached =
        λ b e h below. absurd (grind (arith, h));
  }
  base_made k all (Some b) is =
      let c = is b refl in
      subst (λ o. BaseMade k (Some b) o) (sym c.is) (record {
        fields = c.fields;
        methods = c.methods;
        below = λ e h. record { number = b; is = refl; below = c.ancestors.below e h };
        reached = λ d e h below. c.ancestors.reached e (subst (λ x. Below (bases_of m) (tree.Class x) (tree.Class e))
            (sym (same_Some _ _ h)) below);
      })

  -- a new class over what a run has of its base
  new_class : (k : HeapTyping) (n : ℕ) (class : ClassDef) → slice_get (classes_in m.items) n ≡ Some class
      → (made : Option Class) → BaseMade k (base_named m n class.base) made → (own : Members)
      → DefaultsHave (bases_of m) k own.fields (own_fields m (base_class m n class) [] class.members)
      → MethodsAre m k own.methods (own_methods m (base_class m n class) n 0 [] class.members)
      → NewClass k n (class_behind made own n)
  new_class k n class is made base own fields methods = record {
    fields = subst (λ x. DefaultsHave (bases_of m) k (fields_of made ++ own.fields) x.fields)
        (sym (class_is m n class is)) (fields_append (bases_of m) k (fields_of made) own.fields
        (base_class m n class).fields (own_fields m (base_class m n class) [] class.members) base.fields fields);
    methods = subst (λ x. MethodsAre m k (own.methods ++ methods_of made) x.methods) (sym (class_is m n class is))
        (methods_append m k own.methods (methods_of made) (own_methods m (base_class m n class) n 0 [] class.members)
        (base_class m n class).methods methods base.methods);
    ancestors = record { below = below; reached = reached };
  }
    where
      below : (e : ℕ) → is_ancestor e (n ∷ ancestors_of made) ≡ true → Below (bases_of m) (tree.Class n) (tree.Class e)
      below e h = elim (or_cases (nat_eq n e) (is_ancestor e (ancestors_of made)) h) [
        | inl a ↦ let same_number : n ≡ e = grind (arith, nat_tests, a) in
            subst (λ x. Below (bases_of m) (tree.Class n) (tree.Class x)) same_number same
        | inr b ↦ let r = base.below e b in through (subtyping.base (base_known m n r.number class is r.is)) r.below
      ]

      by_chain : (e : ℕ) → Chain (bases_of m) n e → is_ancestor e (n ∷ ancestors_of made) ≡ true
      by_chain e here = or_left (nat_eq n n) (is_ancestor n (ancestors_of made)) (eq-eqb n n refl)
      by_chain e (up {b = b} up_is p) =
          let r = has_base m n b up_is in
          let named : base_named m n class.base ≡ Some b = ap (λ x. base_named m n x.base)
          (same_Some _ _ (sym is ∙ r.is)) ∙ r.base in
          or_right (nat_eq n e) (is_ancestor e (ancestors_of made)) (base.reached b e named (chain_below p))

      reached : (e : ℕ) → Below (bases_of m) (tree.Class n) (tree.Class e) → is_ancestor e (n ∷ ancestors_of made)
          ≡ true
      reached e h = by_chain e (chain_of h)

-- ---- members

module _ (m : Module) (constants : List Tree) (listed : Place → Type 0) where
  -- each member binds its name, and each parameter of a method its own
  abbrev pub MembersReady : facts.ClassFacts → List (List ℕ) → List Member → Type 0
  MembersReady base before [] = Unit {0}
  MembersReady base before (field_member f ∷ rest) = (binds_field base before f.name.text ≡ true)
      × MembersReady base (f.name.text ∷ before) rest
  MembersReady base before (method_member f ∷ rest) = ((binds_method base before f.name.text ≡ true)
      × ParametersBind m listed (codes "self" ∷ []) f.params) × MembersReady base (f.name.text ∷ before) rest

  members_made :
      (known : Known) (base : facts.ClassFacts) (c number : ℕ) (before : List (List ℕ)) (ms : List Member)
      (labels : MembersLabels ms)
      → ((i : ℕ) (d : FuncDef) → slice_get (methods_in ms) i ≡ Some d → function_of m (owners.Method c (number + i))
      ≡ Some d)
      → MembersReady base before ms → LawfulMembers m constants base c number before ms labels
      → Listed m listed (MembersFind m constants c number ms labels) → OfDefaults m listed (field_defaults ms)
      → Proceeds listed known (make_members Step free ms) (λ k own s. known k s
      × (DefaultsHave (bases_of m) k own.fields (own_fields m base before ms)
      × MethodsAre m k own.methods (own_methods m base c number before ms)))
  members_made known base c number before [] labels at ready law clean stands =
      proceeds_comes listed known (Gives (record { fields = []; methods = [] })) _ λ k s b. (b, (tt, tt))
  members_made known base c number before (field_member f ∷ rest) labels at ready law clean stands =
      let t = read_ann m (bases_of m) f.annotation in
      proceeds_bind listed known _ _ (λ k v s. known k s × DefaultHas (bases_of m) k t (is_some f.default) v) _
      (default_made m listed known f.default t labels.default
      (subst (λ b. LawfulDefault (bases_of m) b f.default t labels.default) ready.0 law.default)
      (λ g h. clean g (inr (inl h)))
      (λ p h. stands p (Contains-append_left (default_place f.default) (field_defaults rest) p h)))
      λ v. proceeds_bind listed _ _ _ (λ k own s. (known k s × DefaultHas (bases_of m) k t (is_some f.default) v)
      × (DefaultsHave (bases_of m) k own.fields (own_fields m base (f.name.text ∷ before) rest)
      × MethodsAre m k own.methods (own_methods m base c number (f.name.text ∷ before) rest))) _
      (members_made (λ k s. known k s × DefaultHas (bases_of m) k t (is_some f.default) v) base c number
      (f.name.text ∷ before) rest labels.rest at ready.1 law.others (λ g h. clean g (inr (inr h)))
      (λ p h. stands p (Contains-append_right (default_place f.default) (field_defaults rest) p h)))
      λ own. proceeds_comes listed _
      (Gives (record { fields = record { name = f.name.text; default = v } ∷ own.fields; methods = own.methods })) _
      λ k s b. (
        b.0.0,
        (
          subst (λ x. DefaultsHave (bases_of m) k (record { name = f.name.text; default = v } ∷ own.fields)
              ((if x then record { name = f.name.text; type = t; has_default = is_some f.default } ∷ [] else [])
              ++ own_fields m base (f.name.text ∷ before) rest)) (sym ready.0) (refl, (b.0.1, b.1.0)),
          b.1.1,
        ),
      )
  members_made known base c number before (method_member f ∷ rest) labels at ready law clean stands =
      proceeds_bind listed known _ _ (λ k g s. known k s × MadeOf m k g f) _
      (function_made m listed known (codes "self" ∷ []) f labels.method.params law.method.params ready.0.1
      (λ g h. clean g (inl (inl h)))
      (λ p h. Contains-append_left (of_defs param_defaults_in param_defaults_in m.items) (field_defaults_in m.items) p
      (function_places m param_defaults_in (owners.Method c number) f p
      (ap (λ j. function_of m (owners.Method c j)) (omega arith) ∙ at 0 f refl) h)))
      λ g. proceeds_bind listed _ _ _ (λ k own s. (known k s × MadeOf m k g f)
      × (DefaultsHave (bases_of m) k own.fields (own_fields m base (f.name.text ∷ before) rest)
      × MethodsAre m k own.methods (own_methods m base c (suc number) (f.name.text ∷ before) rest))) _
      (members_made (λ k s. known k s × MadeOf m k g f) base c (suc number) (f.name.text ∷ before) rest labels.rest
      (λ i d e. ap (λ j. function_of m (owners.Method c j)) (omega arith) ∙ at (suc i) d e) ready.1 law.others
      (λ h x. clean h (inr x)) stands)
      λ own. proceeds_comes listed _ (Gives (record { fields = own.fields; methods = g ∷ own.methods })) _ λ k s b. (
        b.0.0,
        (
          b.1.0,
          subst (λ x. MethodsAre m k (g ∷ own.methods) ((if x then method_made m c number f ∷ [] else []) ++ own_methods
              m base c (suc number) (f.name.text ∷ before) rest)) (sym ready.0.0) (
                record {
                  def = f;
                  at = ap (λ j. function_of m (owners.Method c j)) (omega arith) ∙ at 0 f refl;
                  made =
                      b.0.1;
                  name = refl;
                  place = refl;
                  parameters = refl;
                  returns = refl;
                },
                b.1.1,
              ),
        ),
      )

  -- the base that a class names is an earlier class
  pub record BaseFound (c : ℕ) (n : Name) : Type 0 where
    pub number : ℕ
    pub is : base_named m c (Some n) ≡ Some number

  -- the facts known of each class before it runs
  pub record ClassesReady : Type 0 where
    pub imported : (c : ℕ) (class : ClassDef) → slice_get (classes_in m.items) c ≡ Some class
        → m.imports_dataclass ≡ true
    pub based : (c : ℕ) (class : ClassDef) (n : Name) → slice_get (classes_in m.items) c ≡ Some class
        → class.base ≡ Some n → BaseFound c n
    pub members : (c : ℕ) (class : ClassDef) → slice_get (classes_in m.items) c ≡ Some class
        → MembersReady (base_class m c class) [] class.members
    pub ordered : (c : ℕ) (class : ClassDef) → slice_get (classes_in m.items) c ≡ Some class
        → fields_last (class_facts_at (classes_of m) c).fields ≡ true

  -- a class binds its name
  pub classes_good : ClassesReady → (parts : Parts Step) → GoodClasses m constants listed parts
  classes_good ready parts = record { proceeds = go }
    where
      go : (p : Place) (c : ClassDef) (b : BeforeItem) (defs : List FuncDef) (labels : ItemLabels (class_item p c))
          → slice_get (classes_in m.items) b.classes ≡ Some c → LawfulItem m constants b (class_item p c) labels
          → Listed m listed (ItemFinds m constants b (class_item p c) labels)
          → ItemReady m constants listed b (class_item p c) labels
          → Proceeds listed (λ k s. Between m listed b.constants defs b.classes b.names k s)
          (exec_item Step free parts m.imports_dataclass (class_item p c))
          (λ k u s. Between m listed b.constants defs (suc b.classes) (c.name.text ∷ b.names) k s)
      go p c b defs labels is law clean binds =
          proceeds_bind listed _ _ _ (λ k u s. Now k s) _
          (proceeds_looks listed _ _ _ λ k s h. subst (λ x. EndsWell (λ u. Now k s) (dataclass_found x))
          (sym (ready.imported n c is)) h)
          λ u. proceeds_bind listed _ _ _ (λ k o s. Now k s × (o ≡ base_named m n c.base)) _
          (proceeds_looks listed _ (evaluation.base_number c.base) _ λ k s h. based_well k s h c.base refl)
          λ o. proceeds_bind listed _ _ _ (λ k own s. (Now k s × (o ≡ base_named m n c.base))
          × (DefaultsHave (bases_of m) k own.fields (own_fields m (base_class m n c) [] c.members)
          × MethodsAre m k own.methods (own_methods m (base_class m n c) n 0 [] c.members))) _
          (members_made (λ k s. Now k s × (o ≡ base_named m n c.base)) (base_class m n c) n 0 [] c.members labels
          (λ i d e. ap (λ x. function_of m (owners.Method n x)) (omega arith) ∙ ap (λ x. method_at x i) is ∙ e)
          (ready.members n c is) law clean
          (λ q h. Contains-append_right (of_defs param_defaults_in param_defaults_in m.items)
          (field_defaults_in m.items) q (field_places m.items n c q is h)))
          λ own. proceeds_bind listed _ _ _ (λ k x s. Now k s × NewClass m k n x) _
          (proceeds_looks listed _ _ _ λ k s h. (h.0.0, made_now k s o own h.0.0 h.0.1 h.1.0 h.1.1))
          λ x. proceeds_bind listed _ _ _ (λ k u s. Now k s × NewClass m k n x) _
          (proceeds_looks listed _ _ _ λ k s h. subst (λ y. EndsWell (λ u. Now k s × NewClass m k n x)
          (if y then Gives tt else Stops (Raised TypeError)))
          (sym (last_same (bases_of m) k x.fields (class_facts_at (classes_of m) n).fields h.1.fields
          ∙ ready.ordered n c is)) h)
          λ u. proceeds_changes listed _ (binds_class c.name.text x) _ λ k s h.
          record { well = h.0.well; frame = h.0.frame; bound = bound_now k s x h.0 h.1 }
        where
          n : ℕ
          n = b.classes

          Now : HeapTyping → State → Type 0
          Now k s = Between m listed b.constants defs b.classes b.names k s

          based_well : (k : HeapTyping) (s : State) → Now k s → (o : Option Name) → c.base ≡ o
              → EndsWell (λ x. Now k s × (x ≡ base_named m n c.base)) (evaluation.base_number o s)
          based_well k s h None e = (h, sym (ap (base_named m n) e))
          based_well k s h (Some w) e =
              let r = ready.based n c w is e in
              let early = earlier_is n r.number (resolve_in_module m w.text) r.is in
              let means : meaning_in_run w.text s ≡ means_class r.number =
              ap (λ f. meaning_of_local (meaning_of_global (is_reserved w.text) (global_by_name w.text s.globals))
              (local_by_name w.text f)) h.frame ∙ ap (meaning_of_global (is_reserved w.text))
              (h.bound.class w.text r.number early.is early.before) in
              subst (λ x. EndsWell (λ y. Now k s × (y ≡ base_named m n c.base)) (evaluation.base_of_meaning x))
              (sym means) (h, sym (ap (base_named m n) e ∙ r.is))

          class_before : (k : HeapTyping) (s : State) → Now k s → (d : ℕ) (o : Option Name) → base_named m n o ≡ Some d
              → ClassIs m k s.classes d
          class_before k s h d None e = absurd (grind (arith, e))
          class_before k s h d (Some w) e =
              let early = earlier_is n d (resolve_in_module m w.text) e in
              let r = class_named m w.text d early.is in
              let behind = r.behind in
              let at : r.at ≡ d = omega arith in
              h.bound.classes d r.class early.before (ap (slice_get (classes_in m.items)) (sym at) ∙ r.is)

          made_now : (k : HeapTyping) (s : State) (o : Option ℕ) (own : Members) → Now k s → o ≡ base_named m n c.base
              → DefaultsHave (bases_of m) k own.fields (own_fields m (base_class m n c) [] c.members)
              → MethodsAre m k own.methods (own_methods m (base_class m n c) n 0 [] c.members)
              → NewClass m k n (class_behind (run.class_at s.classes o) own (length s.classes))
          made_now k s o own h e fields methods =
              subst (λ l. NewClass m k n (class_behind (run.class_at s.classes o) own l)) (sym h.bound.count)
              (new_class m k n c is (run.class_at s.classes o) (subst (λ x. BaseMade m k x (run.class_at s.classes o)) e
              (base_made m k s.classes o λ d e'. class_before k s h d c.base (sym e ∙ e'))) own fields methods)

          named : (word : List ℕ) → resolve_in_module m word ≡ meaning.Class n → c.name.text ≡ word
          named word r =
              let x = class_named m word n r in
              let behind = x.behind in
              let at : x.at ≡ n = omega arith in
              let same_class : x.class ≡ c = same_Some _ _ (sym x.is ∙ ap (slice_get (classes_in m.items)) at ∙ is) in
              ap (λ y. y.name.text) (sym same_class) ∙ x.named

          all_made : (k : HeapTyping) (s : State) (x : Class) → Now k s → NewClass m k n x → (d : ℕ) (t : ClassDef)
              → nat_lt d (suc n) ≡ true → slice_get (classes_in m.items) d ≡ Some t
              → ClassIs m k (s.classes ++ x ∷ []) d
          all_made k s x h new d t less e = by_place (nat_lt d n) refl
            where
              last : nat_lt d n ≡ false → d ≡ n
              last f = grind (arith, nat_tests, less, f)

              by_place : (y : Test) → nat_lt d n ≡ y → ClassIs m k (s.classes ++ x ∷ []) d
              by_place true l = let r = h.bound.classes d t l e in record {
                class = r.class;
                is =
                    get_left s.classes (x ∷ []) d r.class r.is;
                fields = r.fields;
                methods = r.methods;
                ancestors =
                    r.ancestors;
              }
              by_place false l = subst (λ i. ClassIs m k (s.classes ++ x ∷ []) i) (sym (last l)) (record {
                class = x;
                is = ap (slice_get (s.classes ++ x ∷ [])) (sym h.bound.count) ∙ get_at_end s.classes x [];
                fields = new.fields;
                methods = new.methods;
                ancestors = new.ancestors;
              })

          bound_now : (k : HeapTyping) (s : State) (x : Class) → Now k s → NewClass m k n x
              → BoundSoFar m b.constants defs (suc n) (c.name.text ∷ b.names) k (s.classes ++ x ∷ [])
              (s.globals ++ record { name = c.name.text; is = a_class (length s.classes) } ∷ [])
          bound_now k s x h new =
              let free = neither (is_reserved_name c.name.text) (is_one_of c.name.text b.names) binds in
              bound_class m b.constants defs n b.names k s.classes s.globals c.name.text x named free.1 free.0
              (all_made k s x h new) (length-append s.classes (x ∷ []) ∙ ap (λ l. l + 1) h.bound.count
              ∙ omega arith) h.bound
