-- The methods of each ancestor of a class are among those that the class has, and are judged where they are overridden.
use Rattle.std.proofs.Common.{◌≡◌, ℕ, List, [], ◌∷◌, refl, sym, ap, ◌∙◌, subst, inl, inr, arith, Contains}
use Rattle.std.specs.Prelude.{Bool, true, false, cond, filter, Some, bytes_eq}
use Rattle.std.proofs.lemmas.Bool.{false≢true}
use Rattle.std.proofs.lemmas.List.Elements.{Contains-append_right, Contains-append_cases, Contains-push_cases}
use Rattle.pc_tree.specs.Tree.{ClassDef, Module}
use Rattle.pc_types.specs.Tree.{Class}
use Rattle.pc_types.specs.Below.{Below}
use Rattle.pc_annotations.specs.Bases.{base_named, bases_of}
use Rattle.pc_types.proofs.Structural.{Chain, here, up, Sub, s_class, sub_of}
use Rattle.pc_class.specs.Facts.{Method, class_facts_at, base_facts, own_methods, classes_of}
use Rattle.pc_class.specs.Findings.{base_class}
use Rattle.pc_class.specs.Overrides.{overridden}
use Rattle.pc_class.proofs.ClassesBuilt.{has_base, class_over, class_is}

-- a method that passes a test is among those that do
kept_where_true : (test : Method → Bool) (xs : List Method) (x : Method) → Contains xs x → test x ≡ true
    → Contains (filter test xs) x
kept_where_true test [] x among e = absurd (omega (arith, among.1))
kept_where_true test (y ∷ ys) x among e = elim (Contains-append_cases (y ∷ []) ys x among) [
  | inl a ↦ elim (Contains-push_cases [] y x a) [
    | inl b ↦ absurd (omega (arith, b.1))
    | inr same ↦
        at_first (test y) refl same
  ]
  | inr b ↦ behind (test y) (kept_where_true test ys x b e)
]
  where
    behind : (b : Bool) → Contains (filter test ys) x → Contains (cond b (y ∷ filter test ys) (filter test ys)) x
    behind true c = Contains-append_right (y ∷ []) (filter test ys) x c
    behind false c = c

    at_first : (b : Bool) → test y ≡ b → y ≡ x → Contains (cond b (y ∷ filter test ys) (filter test ys)) x
    at_first true is same = (0, omega arith, same)
    at_first false is same = absurd (false≢true (sym is ∙ ap test same ∙ e))

module _ (m : Module) where
  -- a class has the methods of each of its ancestors
  handed_down : {c a : ℕ} → Chain (bases_of m) c a → (x : Method) → Contains (class_facts_at (classes_of m) a).methods x
      → Contains (class_facts_at (classes_of m) c).methods x
  handed_down here x among = among
  handed_down {c} (up {b = b} e rest) x among =
      let known = has_base m c b e in
      let own = own_methods m (class_facts_at (classes_of m) b) c 0 [] known.class.members in
      let is = class_is m c known.class known.is ∙ ap (λ o. class_over m c known.class (base_facts (classes_of m) o))
      known.base in
      subst (λ xs. Contains xs x) (sym (ap (λ f. f.methods) is))
      (Contains-append_right own (class_facts_at (classes_of m) b).methods x (handed_down rest x among))

  chain_of : {c a : ℕ} → Sub (bases_of m) (Class c) (Class a) → Chain (bases_of m) c a
  chain_of (s_class chain) = chain

  pub judged_against_each : (c b a : ℕ) (class : ClassDef) (name : List ℕ) (old : Method)
      → base_named m c class.base ≡ Some b → Below (bases_of m) (Class b) (Class a)
      → Contains (class_facts_at (classes_of m) a).methods old → bytes_eq name old.name ≡ true
      → Contains (overridden (base_class m c class).methods name) old
  judged_against_each c b a class name old is below among named =
      subst (λ o. Contains (overridden (base_facts (classes_of m) o).methods name) old) (sym is)
      (kept_where_true (λ f. bytes_eq name f.name) (class_facts_at (classes_of m) b).methods old
      (handed_down (chain_of (sub_of below)) old among) named)
