-- The method that an instance of a descendant has by a name fits the ancestor's, or the place of its name is listed.
use Rattle.std.proofs.Common.{◌≡◌, ℕ, zero, suc, ◌<◌, List, [], ◌∷◌, ◌++◌, refl, sym, ap, ◌∙◌, subst, inl, inr, arith}
use Rattle.std.specs.Prelude.{◌⊎◌, Bool as Test, true, false, ◌&&◌, ◌||◌, not, if◌then◌else◌, cond, filter, IsTrue, All}
use Rattle.std.specs.Prelude.{Option, Some, None, slice_get, bytes_eq}
use Rattle.std.specs.Option.{option_or}
use Rattle.std.proofs.lemmas.List.Elements.{All-cons}
use Rattle.std.proofs.lemmas.List.Folds.{find-append}
use Rattle.std.proofs.lemmas.Slice.Eq.{bytes_eq-Decides}
use Rattle.std.proofs.lemmas.Option.{same_Some}
use Rattle.std.proofs.lemmas.Bool.{false≢true}
use Rattle.std.proofs.Math.Bool.{not-or_self}
use Rattle.pc_source.specs.declared.place.Place.{Place}
use Rattle.pc_tree.specs.declared.code.Code.{Code}
use Rattle.pc_tree.specs.declared.code.Code.TheVariants.{A8}
use Rattle.pc_tree.specs.Tree.{Member, field_member, method_member, FuncDef, ClassDef, Module}
use Rattle.pc_scope.specs.Bindings.{classes_in}
use Rattle.pc_types.specs.Tree as tree
use Rattle.pc_types.specs.Below as subtyping
use Rattle.pc_types.specs.Below.{Bases, Below, Static, same, through}
use Rattle.pc_types.proofs.Structural.{Chain, here, up, Sub, s_class, sub_of}
use Rattle.pc_class.specs.Bases.{bases_of, base_named}
use Rattle.pc_class.specs.Facts.{TypedParameter, Method, ClassFacts, class_in, class_facts_at, base_facts, classes_of}
use Rattle.pc_class.specs.Facts.{method_by_name, binds_method, own_methods, method_made}
use Rattle.pc_class.specs.Findings.{base_class}
use Rattle.pc_class.specs.Overrides.{has_shape_of, TypeFlow, parameter_flows, IsStatic, Judges, static, dynamic}
use Rattle.pc_class.specs.Overrides.{wrong, overridden}
use Rattle.pc_class.proofs.ClassesBuilt.{HasBase, has_base, base_known, below_class, class_over, class_is}
use Rattle.pc_class.proofs.ClassesBuilt.{no_class_past}
use Rattle.pc_sound.proofs.Modules.Inheritance.{class_over_base}

-- ---- all elements

all_first : {A : Type 0} (P : A → Type 0) (x : A) (xs : List A) → All P (x ∷ xs) → P x
all_first P x xs all = all 0 x (omega arith)

all_rest : {A : Type 0} (P : A → Type 0) (x : A) (xs : List A) → All P (x ∷ xs) → All P xs
all_rest P x xs all k d h = all (suc k) d (omega arith)

-- a method among methods
abbrev pub IsIn : List Method → Method → Type 0
IsIn [] q = ⊥
IsIn (p ∷ ps) q = (p ≡ q) ⊎ IsIn ps q

-- a method of two lists one after the other is in one of them
pub in_either : (ps qs : List Method) (q : Method) → IsIn (ps ++ qs) q → IsIn ps q ⊎ IsIn qs q
in_either [] qs q h = inr h
in_either (p ∷ ps) qs q h = elim h [
  | inl a ↦ inl (inl a)
  | inr b ↦
      elim (in_either ps qs q b) [ inl c ↦ inl (inr c) | inr d ↦ inr d ]
]

in_behind : (ps qs : List Method) (q : Method) → IsIn qs q → IsIn (ps ++ qs) q
in_behind [] qs q h = h
in_behind (p ∷ ps) qs q h = inr (in_behind ps qs q h)

-- a method that is found is among them, and has the name
pub found_in : (ps : List Method) (word : List ℕ) (q : Method) → method_by_name ps word ≡ Some q → IsIn ps q
    × (bytes_eq word q.name ≡ true)
found_in [] word q e = absurd (grind (arith, e))
found_in (p ∷ ps) word q e = go (bytes_eq word p.name) refl e (λ e'. found_in ps word q e')
  where
    go : (x : Test) → bytes_eq word p.name ≡ x → cond x (Some p) (method_by_name ps word) ≡ Some q
        → (method_by_name ps word ≡ Some q → IsIn ps q × (bytes_eq word q.name ≡ true)) → IsIn (p ∷ ps) q
        × (bytes_eq word q.name ≡ true)
    go true is e rest = (inl (same_Some _ _ e), subst (λ r. bytes_eq word r.name ≡ true) (same_Some _ _ e) is)
    go false is e rest = let r = rest e in (inr r.0, r.1)

-- a fact of all methods that pass a test is a fact of each one that passes
all_passing : (P : Method → Type 0) (test : Method → Test) (ps : List Method) (q : Method) → All P (filter test ps)
    → IsIn ps q → test q ≡ true → P q
all_passing P test [] q all h e = absurd h
all_passing P test (p ∷ ps) q all h e = go (test p) refl all (λ all' h'. all_passing P test ps q all' h' e)
  where
    go : (x : Test) → test p ≡ x → All P (cond x (p ∷ filter test ps) (filter test ps))
        → (All P (filter test ps) → IsIn ps q → P q) → P q
    go true is all rest = elim h [
      | inl a ↦ subst P a (all_first P p (filter test ps) all)
      | inr b ↦
          rest (all_rest P p (filter test ps) all) b
    ]
    go false is all rest = elim h [ inl a ↦ absurd (false≢true (sym is ∙ (ap test a ∙ e))) | inr b ↦ rest all b ]

-- ---- a method against itself

same_shape : (ps : List TypedParameter) → has_shape_of ps ps ≡ true
same_shape [] = refl
same_shape (p ∷ ps) = ap (λ x. x && ((not p.has_default || p.has_default) && has_shape_of ps ps))
    ((bytes_eq-Decides p.name p.name).1 refl) ∙ ap (λ x. x && has_shape_of ps ps) (not-or_self p.has_default)
    ∙ same_shape ps

module _ (bases : Bases) where
  same_flows : (ps : List TypedParameter) → All (λ (f : TypeFlow). Static bases f.from f.into) (parameter_flows ps ps)
  same_flows [] = λ k d h. absurd (omega arith)
  same_flows (p ∷ ps) = All-cons (λ f. Static bases f.from f.into) (record { from = p.type; into = p.type })
      (parameter_flows ps ps) same (same_flows ps)

  itself : (q : Method) → IsStatic bases q q
  itself q = record {
    shape = same_shape q.parameters;
    flows = All-cons (λ f. Static bases f.from f.into)
        (record { from = q.returns; into = q.returns }) (parameter_flows q.parameters q.parameters) same
        (same_flows q.parameters);
  }

-- ---- judged overrides

-- a method has the shape of each of these
abbrev pub HasShapes : Method → List Method → Type 0
HasShapes new olds = All (λ old. IsTrue (has_shape_of old.parameters new.parameters)) olds

-- a code at a method's name: none, or the place is listed and the method has the shape of those that it overrides
abbrev pub IsAllowedOverride : (Place → Type 0) → Place → List Method → Method → Option Code → Type 0
IsAllowedOverride listed p olds new code = (code ≡ None) ⊎ (listed p × HasShapes new olds)

-- each has the shape, or not each
pub shapes_or_not : (new : Method) (olds : List Method) → HasShapes new olds ⊎ (¬ (HasShapes new olds))
shapes_or_not new [] = inl (λ k d h. absurd (omega arith))
shapes_or_not new (p ∷ ps) = go (has_shape_of p.parameters new.parameters) refl (shapes_or_not new ps)
  where
    go : (b : Test) → has_shape_of p.parameters new.parameters ≡ b → HasShapes new ps ⊎ (¬ (HasShapes new ps))
        → HasShapes new (p ∷ ps) ⊎ (¬ (HasShapes new (p ∷ ps)))
    go true e (inl a) = inl (All-cons (λ old. IsTrue (has_shape_of old.parameters new.parameters)) p ps e a)
    go true e (inr n) = inr (λ a. n (all_rest (λ old. IsTrue (has_shape_of old.parameters new.parameters)) p ps a))
    go false e rest = inr (λ a. absurd (false≢true (sym e ∙ all_first (λ old. IsTrue (has_shape_of old.parameters
        new.parameters)) p ps a)))

module _ (m : Module) (listed : Place → Type 0) where
  -- each method of a class is judged, and what is found is allowed where it binds its name
  pub record IsJudged (base : ClassFacts) (c : ℕ) (before : List (List ℕ)) (number : ℕ) (f : FuncDef) : Type 0 where
    pub code : Option Code
    pub judged : Judges (bases_of m) (overridden base.methods f.name.text) (method_made m c number f) code
    pub allowed : binds_method base before f.name.text ≡ true → IsAllowedOverride listed f.name.place
        (overridden base.methods f.name.text) (method_made m c number f) code

  abbrev pub AreJudged : ClassFacts → ℕ → ℕ → List (List ℕ) → List Member → Type 0
  AreJudged base c number before [] = Unit {0}
  AreJudged base c number before (field_member f ∷ rest) = AreJudged base c number (f.name.text ∷ before) rest
  AreJudged base c number before (method_member f ∷ rest) = IsJudged base c before number f
      × AreJudged base c (suc number) (f.name.text ∷ before) rest

  -- a method of a class's own, as it was judged
  record OwnJudged (base : ClassFacts) (q : Method) : Type 0 where
    code : Option Code
    judged : Judges (bases_of m) (overridden base.methods q.name) q code
    allowed : IsAllowedOverride listed q.place (overridden base.methods q.name) q code

  own_judged : (base : ClassFacts) (c number : ℕ) (before : List (List ℕ)) (ms : List Member)
      → AreJudged base c number before ms → (q : Method) → IsIn (own_methods m base c number before ms) q
      → OwnJudged base q
  own_judged base c number before [] all q h = absurd h
  own_judged base c number before (field_member f ∷ rest) all q h = own_judged base c number (f.name.text ∷ before) rest
      all q h
  own_judged base c number before (method_member f ∷ rest) all q h = go (binds_method base before f.name.text) refl h
      (λ h'. own_judged base c (suc number) (f.name.text ∷ before) rest all.1 q h')
    where
      of_rule : binds_method base before f.name.text ≡ true → OwnJudged base (method_made m c number f)
      of_rule binds = record { code = all.0.code; judged = all.0.judged; allowed = all.0.allowed binds }

      go : (x : Test) → binds_method base before f.name.text ≡ x
          → IsIn ((if x then method_made m c number f ∷ [] else []) ++ own_methods m base c (suc number)
          (f.name.text ∷ before) rest) q → (IsIn (own_methods m base c (suc number) (f.name.text ∷ before) rest) q
          → OwnJudged base q) → OwnJudged base q
      go true is h others = elim h [ inl a ↦ subst (OwnJudged base) a (of_rule is) | inr b ↦ others b ]
      go false is h others = others h

  -- the owner of each own method is the class
  own_owner : (base : ClassFacts) (c number : ℕ) (before : List (List ℕ)) (ms : List Member) (q : Method)
      → IsIn (own_methods m base c number before ms) q → q.owner ≡ c
  own_owner base c number before [] q h = absurd h
  own_owner base c number before (field_member f ∷ rest) q h = own_owner base c number (f.name.text ∷ before) rest q h
  own_owner base c number before (method_member f ∷ rest) q h = go (binds_method base before f.name.text) h
      (λ h'. own_owner base c (suc number) (f.name.text ∷ before) rest q h')
    where
      go : (x : Test) → IsIn ((if x then method_made m c number f ∷ [] else []) ++ own_methods m base c (suc number)
          (f.name.text ∷ before) rest) q → (IsIn (own_methods m base c (suc number) (f.name.text ∷ before) rest) q
          → q.owner ≡ c) → q.owner ≡ c
      go true h others = elim h [ inl a ↦ sym (ap (λ (x : Method). x.owner) a) | inr b ↦ others b ]
      go false h others = others h

  -- ---- down the chain of classes

  methods_over : (c b : ℕ) (h : HasBase m c b) → (class_facts_at (classes_of m) c).methods ≡ own_methods m
      (class_facts_at (classes_of m) b) c 0 [] h.class.members ++ (class_facts_at (classes_of m) b).methods
  methods_over c b h = ap (λ x. x.methods) (class_over_base m c b h)

  methods_down : {c d : ℕ} → Chain (bases_of m) c d → (q : Method) → IsIn (class_facts_at (classes_of m) d).methods q
      → IsIn (class_facts_at (classes_of m) c).methods q
  methods_down here q h = h
  methods_down {c} (up {b = b} e p) q h =
      let r = has_base m c b e in
      subst (λ l. IsIn l q) (sym (methods_over c b r)) (in_behind
      (own_methods m (class_facts_at (classes_of m) b) c 0 [] r.class.members)
      (class_facts_at (classes_of m) b).methods q (methods_down p q h))

  -- the method that a descendant has in place of an ancestor's
  pub record Dispatched (d : ℕ) (word : List ℕ) (old : Method) : Type 0 where
    pub new : Method
    pub is : method_by_name (class_facts_at (classes_of m) d).methods word ≡ Some new
    pub fits : IsStatic (bases_of m) new old ⊎ (IsTrue (has_shape_of old.parameters new.parameters) × listed new.place)

  fits_of : (olds : List Method) (q old : Method) → IsIn olds old → (code : Option Code)
      → Judges (bases_of m) (overridden olds q.name) q code
      → IsAllowedOverride listed q.place (overridden olds q.name) q code → bytes_eq q.name old.name ≡ true
      → IsStatic (bases_of m) q old
      ⊎ (IsTrue (has_shape_of old.parameters q.parameters) × listed q.place)
  fits_of olds q old among _ (static all) allowed name = inl (all_passing (IsStatic (bases_of m) q)
      (λ f. bytes_eq q.name f.name) olds old all among name)
  fits_of olds q old among _ (dynamic all n) allowed name = elim allowed [
    | inl e ↦ absurd (grind (arith, e))
    | inr a ↦ inr (
      all_passing (λ x. IsTrue (has_shape_of x.parameters q.parameters)) (λ f. bytes_eq q.name f.name) olds
          old a.1 among name,
      a.0,
    )
  ]
  fits_of olds q old among _ (wrong n) allowed name = elim allowed [
    | inl e ↦ absurd (grind (arith, e))
    | inr a ↦ inr (
      all_passing (λ x. IsTrue (has_shape_of x.parameters q.parameters)) (λ f. bytes_eq q.name f.name) olds
          old a.1 among name,
      a.0,
    )
  ]

  module _ (judged : (c : ℕ) (class : ClassDef) → slice_get (classes_in m.items) c ≡ Some class
      → AreJudged (base_class m c class) c 0 [] class.members) where
    dispatched_by : {d c : ℕ} → Chain (bases_of m) d c → (word : List ℕ) (old : Method)
        → method_by_name (class_facts_at (classes_of m) c).methods word ≡ Some old → Dispatched d word old
    dispatched_by here word old e = record { new = old; is = e; fits = inl (itself (bases_of m) old) }
    dispatched_by {d} {c} (up {b = b} e p) word old found = go (method_by_name own word) refl
        (dispatched_by p word old found)
      where
        h : HasBase m d b
        h = has_base m d b e

        own : List Method
        own = own_methods m (class_facts_at (classes_of m) b) d 0 [] h.class.members

        old_in : IsIn (class_facts_at (classes_of m) b).methods old
        old_in = methods_down p old (found_in (class_facts_at (classes_of m) c).methods word old found).0

        looked_up : method_by_name (class_facts_at (classes_of m) d).methods word ≡ option_or (method_by_name own word)
            (method_by_name (class_facts_at (classes_of m) b).methods word)
        looked_up = ap (λ l. method_by_name l word) (methods_over d b h) ∙ find-append (λ f. bytes_eq word f.name) own
            (class_facts_at (classes_of m) b).methods

        own_all : AreJudged (class_facts_at (classes_of m) b) d 0 [] h.class.members
        own_all = subst (λ x. AreJudged (base_facts (classes_of m) x) d 0 [] h.class.members) h.base
            (judged d h.class h.is)

        go : (o : Option Method) → method_by_name own word ≡ o → Dispatched b word old → Dispatched d word old
        go None is r = record {
          new = r.new;
          is = looked_up
              ∙ (ap (λ x. option_or x (method_by_name (class_facts_at (classes_of m) b).methods word)) is ∙ r.is);
          fits =
              r.fits;
        }
        go (Some q) is r =
            let at = found_in own word q is in
            let j = own_judged (class_facts_at (classes_of m) b) d 0 [] h.class.members own_all q at.0 in
            let named = (bytes_eq-Decides q.name old.name).1 (sym ((bytes_eq-Decides word q.name).0 at.1)
            ∙ (bytes_eq-Decides word old.name).0 (found_in (class_facts_at (classes_of m) c).methods word old
            found).1) in
            record {
              new = q;
              is = looked_up ∙ ap (λ x. option_or x (method_by_name (class_facts_at (classes_of m) b).methods word)) is;
              fits = fits_of (class_facts_at (classes_of m) b).methods q old old_in j.code j.judged j.allowed named;
            }

    -- the method entered for an ancestor's fits it, or the place of its name is listed
    pub dispatched : (d c : ℕ) → Below (bases_of m) (tree.Class d) (tree.Class c) → (word : List ℕ) (old : Method)
        → method_by_name (class_facts_at (classes_of m) c).methods word ≡ Some old → Dispatched d word old
    dispatched d c below word old found = go (sub_of below)
      where
        go : Sub (bases_of m) (tree.Class d) (tree.Class c) → Dispatched d word old
        go (s_class p) = dispatched_by p word old found

  -- ---- owners

  -- past the classes of the text there is none
  no_class : (c : ℕ) → slice_get (classes_in m.items) c ≡ None → (class_facts_at (classes_of m) c).methods ≡ []
  no_class c none = ap (λ o. (class_in o).methods) (no_class_past m c none)

  one_owner : (n c : ℕ) → c < n → (q : Method) → IsIn (class_facts_at (classes_of m) c).methods q
      → Below (bases_of m) (tree.Class c) (tree.Class q.owner)
  one_owner zero c h q at = absurd (omega arith)
  one_owner (suc n) c h q at = go (slice_get (classes_in m.items) c) refl (λ b less. one_owner n b (omega arith) q)
    where
      own_is : (x : ClassFacts) (class : ClassDef) → IsIn (own_methods m x c 0 [] class.members) q
          → Below (bases_of m) (tree.Class c) (tree.Class q.owner)
      own_is x class a = subst (λ o. Below (bases_of m) (tree.Class c) (tree.Class o))
          (sym (own_owner x c 0 [] class.members q a)) same

      by_base : (class : ClassDef) → slice_get (classes_in m.items) c ≡ Some class
          → ((b : ℕ) → b < c → IsIn (class_facts_at (classes_of m) b).methods q
          → Below (bases_of m) (tree.Class b) (tree.Class q.owner)) → (o : Option ℕ) → base_named m c class.base ≡ o
          → IsIn (class_over m c class (base_facts (classes_of m) o)).methods q
          → Below (bases_of m) (tree.Class c) (tree.Class q.owner)
      by_base class is below None none a =
          elim (in_either (own_methods m (base_facts (classes_of m) None) c 0 [] class.members) [] q a)
          [ inl x ↦ own_is (base_facts (classes_of m) None) class x | inr x ↦ absurd x ]
      by_base class is below (Some b) some a =
          elim (in_either (own_methods m (class_facts_at (classes_of m) b) c 0 [] class.members)
          (class_facts_at (classes_of m) b).methods q a) [
            | inl x ↦ own_is (class_facts_at (classes_of m) b) class x
            | inr x ↦ through (subtyping.base (base_known m c b class is some))
                (below b (below_class m c b class is some) x)
          ]

      go : (o : Option ClassDef) → slice_get (classes_in m.items) c ≡ o
          → ((b : ℕ) → b < c → IsIn (class_facts_at (classes_of m) b).methods q
          → Below (bases_of m) (tree.Class b) (tree.Class q.owner))
          → Below (bases_of m) (tree.Class c) (tree.Class q.owner)
      go None is below = absurd (subst (λ l. IsIn l q) (no_class c is) at)
      go (Some class) is below = by_base class is below (base_named m c class.base) refl
          (subst (λ x. IsIn x.methods q) (class_is m c class is) at)

  -- the owner of a method of a class is the class or an ancestor
  pub owner_above : (c : ℕ) (q : Method) → IsIn (class_facts_at (classes_of m) c).methods q
      → Below (bases_of m) (tree.Class c) (tree.Class q.owner)
  owner_above c q at = one_owner (suc c) c (omega arith) q at
