-- The knowledge, in bodies and initializers, of the module's names and of the classes made.
use Rattle.std.proofs.Common.{◌≡◌, ℕ, suc, List, [], ◌∷◌, ◌++◌, length, refl, sym, ap, ◌∙◌, subst, arith}
use Rattle.std.specs.Prelude.{Bool as Test, true, false, if◌then◌else◌, is_some, nat_lt, bytes_eq, Option, Some, None}
use Rattle.std.specs.Prelude.{slice_get}
use Rattle.pc_source.specs.declared.place.Place.{Place}
use Rattle.pc_tree.specs.Tree.{FuncDef, ClassDef, Item, constant_item, class_item, def_item, Module}
use Rattle.pc_scope.specs.declared.resolution.Builtin.{Builtin}
use Rattle.pc_scope.specs.declared.resolution.Owner.{Owner}
use Rattle.pc_scope.specs.declared.resolution.NameMeaning.{NameMeaning}
use Rattle.pc_scope.specs.declared.resolution.NameMeaning.TheVariants as meaning
use Rattle.pc_scope.specs.Reserved.{builtin_of}
use Rattle.pc_tree.specs.Stopping.{bound_by}
use Rattle.pc_scope.specs.Bindings.{texts, classes_in}
use Rattle.pc_scope.proofs.Unbound.{is_none_of}
use Rattle.pc_scope.specs.Resolution.{index_of, bound_first, or_meaning, local_meaning, builtin_meaning, entry_texts}
use Rattle.pc_scope.specs.Resolution.{locals, resolve_in_module, resolve_among}
use Rattle.pc_types.specs.Tree.{Tree}
use Rattle.pc_types.specs.Tree as tree
use Rattle.pc_types.specs.Below.{Below}
use Rattle.pc_types.proofs.Structural.{Chain, here, up, chain_below, Sub, s_class, sub_of}
use Rattle.pc_class.specs.Bases.{bases_of}
use Rattle.pc_class.proofs.ClassesBuilt.{has_base}
use Rattle.pc_machine.specs.State.{Class, Globals}
use Rattle.pc_machine.specs.Calls.{descends_from, class_at}
use Rattle.pc_rules.specs.Signatures.{initializer_context}
use Rattle.pc_sound.specs.Values.{HeapTyping}
use Rattle.pc_sound.specs.Loaded.{IsLoaded}
use Rattle.pc_sound.proofs.Lists.{within}
use Rattle.pc_sound.proofs.Expressions.NameReads.{KnowsNames}
use Rattle.pc_sound.proofs.Values.InstanceTests.{Descends}
use Rattle.pc_sound.proofs.Calls.KnownTests.{KnowsAncestors}
use Rattle.pc_sound.proofs.Modules.ModuleNames.{class_named}
use Rattle.pc_sound.proofs.Modules.MainWorld.{Labelled, around_of, context_of}
use Rattle.pc_sound.proofs.Calls.EnteredFunctions.{module_local}
use Rattle.pc_sound.proofs.Modules.ModuleOrder.{around_items}

-- ---- names of the module

builtin_inj : {b c : Builtin} → meaning.Builtin b ≡ meaning.Builtin c → b ≡ c
builtin_inj e = grind arith

-- no name that the module binds is a built-in
no_builtin : (k f c : ℕ) (items : List Item) (word : List ℕ) (b : Builtin) → or_meaning (bound_first k f c items word)
    meaning.None ≡ meaning.Builtin b → ⊥
no_builtin k f c [] word b e = absurd (grind (arith, e))
no_builtin k f c (constant_item p i ∷ rest) word b e = go (bytes_eq i.name.text word) e
    (λ e'. no_builtin (suc k) f c rest word b e')
  where
    go : (x : Test) → or_meaning (if x then Some (meaning.Const k) else bound_first (suc k) f c rest word) meaning.None
        ≡ meaning.Builtin b → (or_meaning (bound_first (suc k) f c rest word) meaning.None ≡ meaning.Builtin b → ⊥) → ⊥
    go true e others = absurd (grind (arith, e))
    go false e others = others e
no_builtin k f c (def_item p i ∷ rest) word b e = go (bytes_eq i.name.text word) e
    (λ e'. no_builtin k (suc f) c rest word b e')
  where
    go : (x : Test) → or_meaning (if x then Some (meaning.Func f) else bound_first k (suc f) c rest word) meaning.None
        ≡ meaning.Builtin b → (or_meaning (bound_first k (suc f) c rest word) meaning.None ≡ meaning.Builtin b → ⊥) → ⊥
    go true e others = absurd (grind (arith, e))
    go false e others = others e
no_builtin k f c (class_item p i ∷ rest) word b e = go (bytes_eq i.name.text word) e
    (λ e'. no_builtin k f (suc c) rest word b e')
  where
    go : (x : Test) → or_meaning (if x then Some (meaning.Class c) else bound_first k f (suc c) rest word) meaning.None
        ≡ meaning.Builtin b → (or_meaning (bound_first k f (suc c) rest word) meaning.None ≡ meaning.Builtin b → ⊥) → ⊥
    go true e others = absurd (grind (arith, e))
    go false e others = others e

module _ (m : Module) where
  -- a name that means a built-in is reserved
  builtin_known : (word : List ℕ) (b : Builtin) → resolve_in_module m word ≡ meaning.Builtin b → builtin_of word ≡ Some b
  builtin_known word b e = go (builtin_of word) refl e
    where
      go : (o : Option Builtin) → builtin_of word ≡ o → or_meaning (builtin_meaning o)
          (or_meaning (bound_first 0 0 0 m.items word) meaning.None) ≡ meaning.Builtin b → builtin_of word ≡ Some b
      go (Some c) is e = is ∙ ap Some (builtin_inj e)
      go None is e = absurd (no_builtin 0 0 0 m.items word b e)

  -- and a reserved name means its built-in
  reserved_means : (word : List ℕ) (b : Builtin) → builtin_of word ≡ Some b → resolve_in_module m word ≡ meaning.Builtin b
  reserved_means word b e = ap (λ o. or_meaning (builtin_meaning o)
      (or_meaning (bound_first 0 0 0 m.items word) meaning.None)) e

  abbrev IsOuter : NameMeaning → Type 0
  IsOuter (meaning.Local x) = ⊥
  IsOuter _ = Unit {0}

  -- a name that is no local of a body means what it means in the module
  outer : (names : List (List ℕ)) (word : List ℕ) (r : NameMeaning) → IsOuter r → resolve_among m names word ≡ r
      → resolve_in_module m word ≡ r
  outer names word r is e = go (index_of word names) e
    where
      go : (o : Option ℕ) → or_meaning (local_meaning o) (resolve_in_module m word) ≡ r → resolve_in_module m word ≡ r
      go None e = e
      go (Some x) e = absurd (subst IsOuter (sym e) is)

  class_within : (word : List ℕ) (c : ℕ) → resolve_in_module m word ≡ meaning.Class c
      → nat_lt c (length (classes_in m.items)) ≡ true
  class_within word c r =
      let x = class_named m word c r in
      let behind = x.behind in
      let at : c ≡ x.at = omega arith in
      subst (λ i. nat_lt i (length (classes_in m.items)) ≡ true) (sym at)
      (within (classes_in m.items) x.at x.class x.is)

  -- ---- in initializers

  module _ (listed : Place → Type 0) (types : List Tree) (defs : List FuncDef) (n : ℕ) (names : List (List ℕ)) where
    pub initializer_names : KnowsNames (around_items m listed types defs n names) (initializer_context m types n)
    initializer_names = record {
      constant = λ word i t r e k made globals w. let c = w.constant word i t r e in
          record { value = c.value; is = c.is; has = c.has };
      class = λ word c r less k made globals w. w.class word c r less;
      builtin = builtin_known;
      reserved = reserved_means;
      unbound = λ word b r k made globals w. w.fresh word (w.free word (ap is_some (builtin_known word b r)));
    }

    pub initializer_ancestors : KnowsAncestors (around_items m listed types defs n names)
        (initializer_context m types n)
    initializer_ancestors = record {
      known = λ local x l word c r. absurd (module_local m local x l);
      descends = λ local x l word c r k made globals w. absurd (module_local m local x l);
    }

  -- ---- in bodies

  no_class_below : (d c : ℕ) (t : ClassDef) → slice_get (classes_in m.items) c ≡ Some t
      → slice_get (classes_in m.items) d ≡ None → Chain (bases_of m) d c → ⊥
  no_class_below d c t is none here = absurd (grind (arith, sym none ∙ is))
  no_class_below d c t is none (up {b = b} e p) = let r = has_base m d b e in absurd (grind (arith, sym none ∙ r.is))

  module _ (constants : List Tree) where
    -- the ancestors of the classes made are those that are above them
    pub descends : (k : HeapTyping) (made : List Class) (globals : Globals) → IsLoaded m constants k made globals
        → (c : ℕ) (t : ClassDef) → slice_get (classes_in m.items) c ≡ Some t → Descends (bases_of m) made c
    descends k made globals w c t is = record {
      below = λ d h. below d (slice_get (classes_in m.items) d) refl h;
      reached = λ d h. reached d (slice_get (classes_in m.items) d) refl (sub_of h);
    }
      where
        below : (d : ℕ) (o : Option ClassDef) → slice_get (classes_in m.items) d ≡ o
            → descends_from c (class_at made (Some d)) ≡ true → Below (bases_of m) (tree.Class d) (tree.Class c)
        below d None none h = absurd (grind (arith, sym (ap (descends_from c) (w.no_more d none)) ∙ h))
        below d (Some u) some h = let r = w.classes d u some in r.ancestors.below c (sym (ap (descends_from c) r.is)
            ∙ h)

        reached : (d : ℕ) (o : Option ClassDef) → slice_get (classes_in m.items) d ≡ o
            → Sub (bases_of m) (tree.Class d) (tree.Class c) → descends_from c (class_at made (Some d)) ≡ true
        reached d None none (s_class p) = absurd (no_class_below d c t is none p)
        reached d (Some u) some s = let r = w.classes d u some in ap (descends_from c) r.is
            ∙ r.ancestors.reached c (back s)
          where
            back : Sub (bases_of m) (tree.Class d) (tree.Class c) → Below (bases_of m) (tree.Class d) (tree.Class c)
            back (s_class p) = chain_below p

    module _ (listed : Place → Type 0) (owner : Owner) (d : FuncDef) (lab : Labelled m constants listed owner d) where
      pub body_names : KnowsNames (around_of m constants listed owner d lab) (context_of m constants listed owner d)
      body_names = record {
        constant = λ word i t r e k made globals w. let c = w.constant word i t
            (outer (locals owner d) word (meaning.Const i) tt r) e in record { value = c.value; is = c.is; has = c.has };
        class = λ word c r less k made globals w. w.class word c (outer (locals owner d) word (meaning.Class c) tt r);
        builtin = λ word b r. builtin_known word b (outer (locals owner d) word (meaning.Builtin b) tt r);
        reserved = λ word b e. ap (λ o. or_meaning (local_meaning o) (resolve_in_module m word))
            (is_none_of word (ap is_some e) [] (entry_texts owner d ++ texts (bound_by d.body)))
            ∙ reserved_means word b e;
        unbound = λ word b r k made globals w. w.reserved word b (builtin_known word b
            (outer (locals owner d) word (meaning.Builtin b) tt r));
      }

      pub body_ancestors : KnowsAncestors (around_of m constants listed owner d lab)
          (context_of m constants listed owner d)
      body_ancestors = record {
        known = λ local x l word c r. class_within word c (outer (locals owner d) word (meaning.Class c) tt r);
        descends = λ local x l word c r k made globals w. descended word c
            (outer (locals owner d) word (meaning.Class c) tt r) k made globals w;
      }
        where
          descended : (word : List ℕ) (c : ℕ) → resolve_in_module m word ≡ meaning.Class c
              → (k : HeapTyping) (made : List Class) (globals : Globals) → IsLoaded m constants k made globals
              → Descends (bases_of m) made c
          descended word c r k made globals w =
              let x = class_named m word c r in
              let behind = x.behind in
              let at : c ≡ x.at = omega arith in
              descends k made globals w c x.class (ap (slice_get (classes_in m.items)) at ∙ x.is)
