-- Each class of a module is built on its base: the facts at its number among the classes.
use Rattle.std.proofs.Common.{◌≡◌, ℕ, zero, suc, ◌+◌, ◌<◌, List, [], ◌∷◌, ◌++◌, length, refl, sym, ap, ◌∙◌, subst}
use Rattle.std.proofs.Common.{arith, length-append}
use Rattle.std.specs.Prelude.{Option, Some, None, slice_get, slice_index_or}
use Rattle.std.proofs.lemmas.Option.{same_Some, slice_get_past}
use Rattle.pc_tree.specs.Tree.{ClassDef, Module}
use Rattle.pc_scope.specs.Bindings.{classes_in}
use Rattle.pc_types.specs.Below.{Bases, base_of}
use Rattle.pc_annotations.specs.Bases.{base_named, bases_from, bases_of}
use Rattle.pc_annotations.proofs.Earlier.{smaller}
use Rattle.pc_class.specs.Facts.{ClassFacts, class_in, class_facts_at, base_facts, own_fields, own_methods}
use Rattle.pc_class.specs.Facts.{class_facts_behind, classes_behind, classes_of}

get_at_end : {A : Type 0} (xs : List A) (y : A) (ys : List A) → slice_get (xs ++ y ∷ ys) (length xs) ≡ Some y
get_at_end [] y ys = refl
get_at_end (x ∷ xs) y ys = get_at_end xs y ys

-- ---- lists of classes

get_front : {A : Type 0} (xs ys : List A) (i : ℕ) → i < length xs → slice_get (xs ++ ys) i ≡ slice_get xs i
get_front [] ys i h = absurd (omega arith)
get_front (x ∷ xs) ys zero h = refl
get_front (x ∷ xs) ys (suc i) h = get_front xs ys i (omega arith)

module _ (m : Module) where
  -- classes that stand before others stay
  pub kept : (earlier : List ClassFacts) (c : ℕ) (cs : List ClassDef) (i : ℕ) → i < length earlier
      → slice_get (classes_behind m earlier c cs) i ≡ slice_get earlier i
  kept earlier c [] i h = refl
  kept earlier c (class ∷ rest) i h =
      let more = earlier ++ class_facts_behind m earlier c class ∷ [] in
      kept more (suc c) rest i (let e = length-append earlier (class_facts_behind m earlier c class ∷ []) in
      omega arith)
      ∙ get_front earlier (class_facts_behind m earlier c class ∷ []) i h

  -- a class by its base and its members, over the classes before it
  record Made (all : List ClassFacts) (c : ℕ) (class : ClassDef) : Type 0 where
    earlier : List ClassFacts
    is : slice_get all c ≡ Some (class_facts_behind m earlier c class)
    same : (b : ℕ) → b < c → slice_get earlier b ≡ slice_get all b

  made : (earlier : List ClassFacts) (c : ℕ) (cs : List ClassDef) (i : ℕ) (class : ClassDef) → length earlier ≡ c
      → slice_get cs i ≡ Some class → Made (classes_behind m earlier c cs) (c + i) class
  made earlier c [] i class long e = absurd (grind (arith, e))
  made earlier c (d ∷ rest) zero class long e =
      let more = earlier ++ class_facts_behind m earlier c d ∷ [] in
      let longer : length more ≡ suc c = length-append earlier (class_facts_behind m earlier c d ∷ []) ∙ omega arith in
      record {
        earlier = earlier;
        is = ap (slice_get (classes_behind m more (suc c) rest)) (omega arith) ∙ kept more (suc c) rest c (omega arith)
            ∙ ap (slice_get more) (sym long) ∙ get_at_end earlier (class_facts_behind m earlier c d) []
            ∙ ap (λ x. Some (class_facts_behind m earlier c x)) (same_Some _ _ e)
            ∙ ap (λ n. Some (class_facts_behind m earlier n class)) (omega arith);
        same = λ b h. sym (kept more (suc c) rest b (omega arith)
            ∙ get_front earlier (class_facts_behind m earlier c d ∷ []) b (omega arith));
      }
  made earlier c (d ∷ rest) (suc i) class long e =
      let more = earlier ++ class_facts_behind m earlier c d ∷ [] in
      let longer : length more ≡ suc c = length-append earlier (class_facts_behind m earlier c d ∷ []) ∙ omega arith in
      subst (λ n. Made (classes_behind m more (suc c) rest) n class) (omega arith)
      (made more (suc c) rest i class longer e)

  -- past the classes of the text there is none
  past : (earlier : List ClassFacts) (c : ℕ) (cs : List ClassDef) (i : ℕ) → length earlier ≡ c → slice_get cs i ≡ None
      → slice_get (classes_behind m earlier c cs) (c + i) ≡ None
  past earlier c [] i long e = slice_get_past earlier (c + i) (omega arith)
  past earlier c (d ∷ rest) zero long e = absurd (grind (arith, e))
  past earlier c (d ∷ rest) (suc i) long e =
      let more = earlier ++ class_facts_behind m earlier c d ∷ [] in
      let longer : length more ≡ suc c = length-append earlier (class_facts_behind m earlier c d ∷ []) ∙ omega arith in
      subst (λ n. slice_get (classes_behind m more (suc c) rest) n ≡ None) (omega arith)
      (past more (suc c) rest i longer e)

  pub no_class_past : (c : ℕ) → slice_get (classes_in m.items) c ≡ None → slice_get (classes_of m) c ≡ None
  unfolding classes_of
  no_class_past c e = subst (λ n. slice_get (classes_of m) n ≡ None) (omega arith)
      (past [] 0 (classes_in m.items) c refl e)

  -- a class that has a base
  record BaseAt (n : ℕ) (cs : List ClassDef) (i b : ℕ) : Type 0 where
    class : ClassDef
    is : slice_get cs i ≡ Some class
    base : base_named m (n + i) class.base ≡ Some b

  base_at : (n : ℕ) (cs : List ClassDef) (i b : ℕ) → slice_index_or (bases_from m n cs) i None ≡ Some b
      → BaseAt n cs i b
  base_at n [] i b e = absurd (grind (arith, e))
  base_at n (d ∷ cs) zero b e = record {
    class = d;
    is = refl;
    base = ap (λ k. base_named m k d.base) (omega arith)
        ∙ e;
  }
  base_at n (d ∷ cs) (suc i) b e = let r = base_at (suc n) cs i b e in
      record { class = r.class; is = r.is; base = ap (λ k. base_named m k r.class.base) (omega arith) ∙ r.base }

  base_is : (n : ℕ) (cs : List ClassDef) (i : ℕ) (class : ClassDef) → slice_get cs i ≡ Some class
      → slice_index_or (bases_from m n cs) i None ≡ base_named m (n + i) class.base
  base_is n [] i class e = absurd (grind (arith, e))
  base_is n (d ∷ cs) zero class e = ap (λ x. base_named m n x.base) (same_Some _ _ e)
      ∙ ap (λ k. base_named m k class.base) (omega arith)
  base_is n (d ∷ cs) (suc i) class e = base_is (suc n) cs i class e ∙ ap (λ k. base_named m k class.base) (omega arith)

  -- ---- the classes of the module

  -- the base of a class that has one
  pub record HasBase (c b : ℕ) : Type 0 where
    pub class : ClassDef
    pub is : slice_get (classes_in m.items) c ≡ Some class
    pub base : base_named m c class.base ≡ Some b

  pub has_base : (c b : ℕ) → base_of (bases_of m) c ≡ Some b → HasBase c b
  unfolding bases_of
  has_base c b e = let r = base_at 0 (classes_in m.items) c b e in
      record { class = r.class; is = r.is; base = ap (λ k. base_named m k r.class.base) (omega arith) ∙ r.base }

  pub base_known : (c b : ℕ) (class : ClassDef) → slice_get (classes_in m.items) c ≡ Some class
      → base_named m c class.base ≡ Some b → base_of (bases_of m) c ≡ Some b
  unfolding bases_of
  base_known c b class is e = base_is 0 (classes_in m.items) c class is
      ∙ ap (λ k. base_named m k class.base) (omega arith) ∙ e

  -- the base of a class among the bases of the module
  pub base_here : (c : ℕ) (class : ClassDef) → slice_get (classes_in m.items) c ≡ Some class
      → base_of (bases_of m) c ≡ base_named m c class.base
  unfolding bases_of
  base_here c class is = base_is 0 (classes_in m.items) c class is ∙ ap (λ k. base_named m k class.base) (omega arith)

  pub base_next : (c : ℕ) (class : ClassDef) → slice_get (classes_in m.items) c ≡ Some class → (bases : Bases)
      → bases ≡ bases_of m → (number : ℕ) → number ≡ c → (base : Option ℕ) → base ≡ base_of bases number
      → base ≡ base_named m c class.base
  base_next c class is bases e number f base h = h ∙ ap (λ (bs : Bases). base_of bs number) e
      ∙ ap (base_of (bases_of m)) f
      ∙ base_here c class is

  pub below_class : (c b : ℕ) (class : ClassDef) → slice_get (classes_in m.items) c ≡ Some class
      → base_named m c class.base ≡ Some b → b < c
  below_class c b class is e = smaller m c b (base_known c b class is e)

  -- a class by its members, over its base
  abbrev pub class_over : ℕ → ClassDef → ClassFacts → ClassFacts
  class_over c class base = record {
    base = base_named m c class.base;
    fields = base.fields ++ own_fields m base [] class.members;
    methods = own_methods m base c 0 [] class.members ++ base.methods;
  }

  -- the facts of each class
  pub class_is : (c : ℕ) (class : ClassDef) → slice_get (classes_in m.items) c ≡ Some class
      → class_facts_at (classes_of m) c ≡ class_over c class (base_facts (classes_of m) (base_named m c class.base))
  unfolding classes_of
  class_is c class is = go (base_named m c class.base) refl
    where
      at : Made (classes_of m) c class
      at = subst (λ n. Made (classes_of m) n class) (omega arith) (made [] 0 (classes_in m.items) c class refl is)

      go : (o : Option ℕ) → base_named m c class.base ≡ o → class_facts_at (classes_of m) c ≡ class_over c class
          (base_facts (classes_of m) (base_named m c class.base))
      go None e = ap class_in at.is ∙ ap (class_over c class) (ap (base_facts at.earlier) e
          ∙ sym (ap (base_facts (classes_of m)) e))
      go (Some b) e = ap class_in at.is ∙ ap (class_over c class) (ap (base_facts at.earlier) e
          ∙ ap class_in (at.same b (below_class c b class is e)) ∙ sym (ap (base_facts (classes_of m)) e))
