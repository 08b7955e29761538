-- A class is below another one, as the program tests it, exactly if the other absorbs it.
use Rattle.std.proofs.Common.{◌≡◌, ◌≢◌, ◌∙◌, ◌&&◌, ◌==◌, ◌<◌, ◌+◌, ℕ, zero, suc, List, [], ◌∷◌, Bool, true, false, not}
use Rattle.std.proofs.Common.{Some, refl, sym, ap, length, drop, arith, add-one}
use Rattle.std.proofs.lemmas.Bool.{false≢true, and_parts, false_from_ne_true}
use Rattle.std.proofs.lemmas.Bool.Decides.{nat_tests}
use Rattle.std.specs.Prelude.{IsTrue, ◌↔◌}
use Rattle.pc_tree.specs.Tree.{Module}
use Rattle.pc_scope.specs.Bindings.{classes_in}
use Rattle.pc_types.specs.Tree.{Class}
use Rattle.pc_types.specs.Below.{Bases, Below, AreSmaller}
use Rattle.pc_types.specs.Join.{reaches, absorbs}
use Rattle.pc_annotations.specs.Bases.{bases_of}
use Rattle.pc_annotations.specs.Text.{class_text}
use Rattle.pc_detail_rules.specs.Operations.{class_below, has_member, numbers_from}
use Rattle.pc_types.proofs.Descent.{reaches_below, below_reaches}

-- a class does not absorb itself
pub same_class : (bases : Bases) (c d : ℕ) → c ≡ d → false ≡ absorbs bases (Class d) (Class c)
same_class bases c d e =
    let f : (c == d) ≡ true = grind (arith, nat_tests) in sym (ap (λ x. not x && reaches bases c c d) f)

-- it absorbs another one exactly if that one has it as an ancestor
pub other_class : (bases : Bases) (c d : ℕ) (sub : Bool) → AreSmaller bases → c ≢ d
    → (IsTrue sub ↔ Below bases (Class c) (Class d)) → sub ≡ absorbs bases (Class d) (Class c)
other_class bases c d true o n h =
    let f : (c == d) ≡ false = grind (arith, nat_tests) in
    sym (ap (λ x. not x && reaches bases c c d) f ∙ below_reaches o (h.0 refl))
other_class bases c d false o n h = sym (false_from_ne_true _ (λ e. false≢true (h.1
    (reaches_below bases c c d (and_parts (not (c == d)) (reaches bases c c d) e).1))))

-- ---- the first class below one that has a member

numbers_more : {A : Type 0} (n : ℕ) (xs : List A) (i : ℕ) → i < length xs
    → numbers_from n (drop i xs) ≡ n ∷ numbers_from (suc n) (drop (suc i) xs)
numbers_more n [] i h = absurd (omega arith)
numbers_more n (x ∷ xs) zero h = refl
numbers_more n (x ∷ xs) (suc i) h = numbers_more n xs i (omega arith)

module _ (m : Module) (word : List ℕ) (above i : ℕ) (h : i < length (classes_in m.items)) where
  -- it is this class, where the test holds
  pub class_here : (absorbs (bases_of m) (Class above) (Class i) && has_member m word i) ≡ true
      → class_below m word above (numbers_from i (drop i (classes_in m.items))) ≡ Some (class_text m i)
  class_here e = rw (numbers_more i (classes_in m.items) i h, e) refl

  -- it is a later one, where the test fails
  pub class_next : (absorbs (bases_of m) (Class above) (Class i) && has_member m word i) ≡ false
      → class_below m word above (numbers_from i (drop i (classes_in m.items)))
      ≡ class_below m word above (numbers_from (i + 1) (drop (i + 1) (classes_in m.items)))
  class_next e = rw (numbers_more i (classes_in m.items) i h, e, add-one) refl
