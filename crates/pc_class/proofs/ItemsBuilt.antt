-- The classes among the items of a module, one item after another, and the findings about them.
use Rattle.std.proofs.Common.{◌≡◌, ◌<◌, ◌+◌, ℕ, suc, List, [], ◌∷◌, ◌++◌, map, drop, length, get_or, refl, sym, ap, ◌∙◌}
use Rattle.std.proofs.Common.{arith, length-append, append_assoc, append-nil}
use Rattle.std.specs.Prelude.{Option, Some, None, slice_get}
use Rattle.std.specs.List.{cons_option}
use Rattle.pc_tree.specs.declared.code.Finding.{Finding}
use Rattle.pc_tree.specs.declared.tree.Item.{Item as RustItem}
use Rattle.pc_tree.specs.Tree.{ClassDef, Module, item_of}
use Rattle.pc_tree.proofs.Stops.{cons_at}
use Rattle.std.proofs.lemmas.List.{map-append}
use Rattle.pc_scope.specs.Bindings.{as_class, classes_in}
use Rattle.pc_annotations.specs.Bases.{base_named, bases_from, bases_of}
use Rattle.pc_types.specs.Tree.{Tree}
use Rattle.pc_class.specs.Tables.{ClassEntry, classes_with}
use Rattle.pc_class.specs.Parts.{bases_in}
use Rattle.pc_class.specs.Facts.{ClassFacts, class_in, base_facts, class_facts_behind, classes_behind, classes_of}
use Rattle.pc_class.specs.Outlines.{found_over, each_over_base, classes_found}
use Rattle.pc_class.specs.Annotated.{class_annotated, classes_annotated}
use Rattle.pc_class.specs.Built.{each_behind, found_behind, annotated_behind}
use Rattle.pc_class.proofs.ClassesBuilt.{kept, below_class}

module _ (m : Module) where
  classes_on : (e : List ClassFacts) (n : ℕ) (o : Option ClassDef) (rest : List ClassDef)
      → classes_behind m e n (cons_option o rest) ≡ classes_behind m (classes_behind m e n (cons_option o []))
      (n + length (cons_option o [])) rest
  classes_on e n None rest = ap (λ k. classes_behind m e k rest) (omega arith)
  classes_on e n (Some class) rest = ap (λ k. classes_behind m (e ++ class_facts_behind m e n class ∷ []) k rest)
      (omega arith)

  found_on : (over : ClassFacts → ClassDef → List Finding) (e : List ClassFacts) (n : ℕ) (o : Option ClassDef)
      (rest : List ClassDef) → each_behind over m e n (cons_option o rest) ≡ each_behind over m e n (cons_option o [])
      ++ each_behind over m (classes_behind m e n (cons_option o [])) (n + length (cons_option o [])) rest
  found_on over e n None rest = ap (λ k. each_behind over m e k rest) (omega arith)
  found_on over e n (Some class) rest =
      let here = over (base_facts e (base_named m n class.base)) class in
      ap (λ k. here ++ each_behind over m (e ++ class_facts_behind m e n class ∷ []) k rest) (omega arith)
      ∙ ap (λ (fs : List Finding). fs ++ each_behind over m (e ++ class_facts_behind m e n class ∷ []) (n + 1) rest)
      (sym (append-nil here))

  module _ (e : List ClassFacts) (n : ℕ) (items : List RustItem) (i : ℕ) (x : RustItem) (less : i < length items)
      (is : x ≡ get_or items i x) (e2 : List ClassFacts) (e2_is : e2 ≡ classes_behind m e n
      (classes_in (item_of x ∷ []))) (k : ℕ) (number : k ≡ n + length (classes_in (item_of x ∷ []))) where
    -- the classes with those of an item more
    pub classes_next : (total : List ClassFacts) → classes_behind m e n (classes_in (map item_of (drop i items)))
        ≡ total → classes_behind m e2 k (classes_in (map item_of (drop (i + 1) items))) ≡ total
    classes_next total inv =
        let rest = classes_in (map item_of (drop (i + 1) items)) in
        ap (λ c. classes_behind m c k rest) e2_is
        ∙ ap (λ j. classes_behind m (classes_behind m e n (classes_in (item_of x ∷ []))) j rest) number
        ∙ sym (classes_on e n (as_class (item_of x)) rest)
        ∙ ap (λ (ys : List RustItem). classes_behind m e n (classes_in (map item_of ys)))
        (sym (cons_at items i x less is))
        ∙ inv

    -- and what is found of them
    pub found_next : (over : ClassFacts → ClassDef → List Finding) (old mid total : List Finding)
        → old ++ each_behind over m e n (classes_in (map item_of (drop i items))) ≡ total
        → mid ≡ old ++ each_behind over m e n (classes_in (item_of x ∷ []))
        → mid ++ each_behind over m e2 k (classes_in (map item_of (drop (i + 1) items))) ≡ total
    found_next over old mid total inv here =
        let rest = classes_in (map item_of (drop (i + 1) items)) in
        let this = each_behind over m e n (classes_in (item_of x ∷ [])) in
        ap (λ (fs : List Finding). fs ++ each_behind over m e2 k rest) here
        ∙ append_assoc old this (each_behind over m e2 k rest)
        ∙ ap (λ c. old ++ (this ++ each_behind over m c k rest)) e2_is
        ∙ ap (λ j. old ++ (this ++ each_behind over m (classes_behind m e n (classes_in (item_of x ∷ []))) j rest))
        number
        ∙ ap (λ (fs : List Finding). old ++ fs) (sym (found_on over e n (as_class (item_of x)) rest))
        ∙ ap (λ (ys : List RustItem). old ++ each_behind over m e n (classes_in (map item_of ys)))
        (sym (cons_at items i x less is))
        ∙ inv

  pub classes_are_behind : classes_of m ≡ classes_behind m [] 0 (classes_in m.items)
  unfolding classes_of
  classes_are_behind = refl

  -- the findings given the classes before are those given all classes
  found_same : (over : ClassFacts → ClassDef → List Finding) (e : List ClassFacts) (c : ℕ) (cs : List ClassDef)
      → length e ≡ c → classes_behind m e c cs ≡ classes_of m
      → ((j : ℕ) → slice_get (classes_in m.items) (c + j) ≡ slice_get cs j)
      → each_behind over m e c cs ≡ each_over_base over m c cs
  found_same over e c [] long all ahead = refl
  found_same over e c (class ∷ rest) long all ahead =
      let more = length-append e (class_facts_behind m e c class ∷ []) in
      ap (λ (b : ClassFacts). over b class ++ each_behind over m (e ++ class_facts_behind m e c class ∷ []) (suc c)
      rest) (go (base_named m c class.base) refl)
      ∙ ap (λ (fs : List Finding). over (base_facts (classes_of m) (base_named m c class.base)) class ++ fs)
      (found_same over (e ++ class_facts_behind m e c class ∷ []) (suc c) rest (omega arith) all
      (λ j. ap (slice_get (classes_in m.items)) (omega arith) ∙ ahead (suc j)))
    where
      here : slice_get (classes_in m.items) c ≡ Some class
      here = ap (slice_get (classes_in m.items)) (omega arith) ∙ ahead 0

      go : (o : Option ℕ) → base_named m c class.base ≡ o → base_facts e o ≡ base_facts (classes_of m) o
      go None f = refl
      go (Some b) f =
          let l = below_class m c b class here f in
          ap class_in (sym (kept m e c (class ∷ rest) b (omega arith)) ∙ ap (λ (cs : List ClassFacts). slice_get cs b)
          all)

  each_listed : (over : ClassFacts → ClassDef → List Finding)
      → each_behind over m [] 0 (classes_in m.items) ≡ each_over_base over m 0 (classes_in m.items)
  each_listed over = found_same over [] 0 (classes_in m.items) refl (sym classes_are_behind)
      (λ j. ap (slice_get (classes_in m.items)) (omega arith))

  pub found_listed : found_behind m [] 0 (classes_in m.items) ≡ classes_found m 0 (classes_in m.items)
  found_listed = each_listed found_over

  pub annotated_listed : annotated_behind m [] 0 (classes_in m.items) ≡ classes_annotated m 0 (classes_in m.items)
  annotated_listed = each_listed (class_annotated m)

-- the classes from an item on are those of the module from a number on
abbrev pub AreAhead : List ClassDef → ℕ → List ClassDef → Type 0
AreAhead all n rest = (j : ℕ) → slice_get all (n + j) ≡ slice_get rest j

first_ahead : (all : List ClassDef) (n : ℕ) (o : Option ClassDef) (rest : List ClassDef)
    → AreAhead all n (cons_option o rest) → (class : ClassDef) → o ≡ Some class → slice_get all n ≡ Some class
first_ahead all n None rest a class e = absurd (grind (arith, e))
first_ahead all n (Some x) rest a class e = ap (slice_get all) (omega arith) ∙ a 0 ∙ e

later_ahead : (all : List ClassDef) (n : ℕ) (o : Option ClassDef) (rest : List ClassDef)
    → AreAhead all n (cons_option o rest) → AreAhead all (n + length (cons_option o [])) rest
later_ahead all n None rest a j = ap (slice_get all) (omega arith) ∙ a j
later_ahead all n (Some x) rest a j = ap (slice_get all) (omega arith) ∙ a (suc j)

module _ (all : List ClassDef) (n : ℕ) (items : List RustItem) (i : ℕ) (x : RustItem) (less : i < length items)
    (is : x ≡ get_or items i x) (a : AreAhead all n (classes_in (map item_of (drop i items)))) where
  here : AreAhead all n (cons_option (as_class (item_of x)) (classes_in (map item_of (drop (i + 1) items))))
  here j = a j ∙ ap (λ (ys : List RustItem). slice_get (classes_in (map item_of ys)) j) (cons_at items i x less is)

  -- this item is the class of the number, if it is one
  pub item_ahead : (class : ClassDef) → as_class (item_of x) ≡ Some class → slice_get all n ≡ Some class
  item_ahead class e = first_ahead all n (as_class (item_of x)) (classes_in (map item_of (drop (i + 1) items))) here
      class e

  pub items_ahead : (k : ℕ) → k ≡ n + length (classes_in (item_of x ∷ []))
      → AreAhead all k (classes_in (map item_of (drop (i + 1) items)))
  items_ahead k e j = ap (λ q. slice_get all (q + j)) e ∙ later_ahead all n (as_class (item_of x))
      (classes_in (map item_of (drop (i + 1) items))) here j

-- the bases of classes
bases_behind : (m : Module) (e : List ClassFacts) (c : ℕ) (cs : List ClassDef)
    → map (λ (x : ClassFacts). x.base) (classes_behind m e c cs) ≡ map (λ (x : ClassFacts). x.base) e ++ bases_from m c
    cs
bases_behind m e c [] = sym (append-nil (map (λ (x : ClassFacts). x.base) e))
bases_behind m e c (class ∷ rest) =
    bases_behind m (e ++ class_facts_behind m e c class ∷ []) (suc c) rest
    ∙ ap (λ os. os ++ bases_from m (suc c) rest) (map-append (λ (x : ClassFacts). x.base) e
    (class_facts_behind m e c class ∷ []))
    ∙ append_assoc (map (λ (x : ClassFacts). x.base) e) (base_named m c class.base ∷ []) (bases_from m (suc c) rest)

pub bases_are : (m : Module) → map (λ (x : ClassFacts). x.base) (classes_of m) ≡ bases_of m
unfolding classes_of bases_of
bases_are m = bases_behind m [] 0 (classes_in m.items)

pub bases_there : {Ty : Type 0} (tree : Ty → Tree) (es : List (ClassEntry Ty))
    → map (λ (x : ClassFacts). x.base) (classes_with tree es) ≡ bases_in es
bases_there tree [] = refl
bases_there tree (e ∷ es) = ap (λ os. e.base ∷ os) (bases_there tree es)
