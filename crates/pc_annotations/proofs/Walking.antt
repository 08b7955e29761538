-- A walk over the classes in the order of their numbers that marks each class with a marked ancestor.
use Rattle.std.proofs.Common.{◌≡◌, ◌≢◌, ◌<◌, ◌≤◌, ℕ, Bool as Test, true, false, List, length, Some, None}
use Rattle.std.proofs.Common.{◌+◌, get_or, set, refl, sym, ap, ◌∙◌, arith, ⊎_elim, below_more}
use Rattle.std.proofs.lemmas.Bool.{false≢true, cases_eq, cases_lt}
use Rattle.std.proofs.lemmas.List.{get_or-set_same, get_or-set_other, get_or_past, get_or_read, length-set}
use Rattle.pc_types.specs.Below.{Bases, base_of, AreSmaller}
use Rattle.pc_types.specs.Join.{reaches}
use Rattle.pc_types.proofs.Ancestors.{reaches_base, reaches_root, reaches_itself, reaches_down}
use Rattle.pc_annotations.specs.Internal.Marks.{AreUnrelated}

-- some marked class is this one or an ancestor of it
pub record HasMarked (bases : Bases) (marks : List Test) (c : ℕ) : Type 0 where
  pub ancestor : ℕ
  pub marked : get_or marks ancestor false ≡ true
  pub reached : reaches bases c c ancestor ≡ true

-- the walk has looked at the classes before this one: of the first marks, those now are made
pub record IsWalked (bases : Bases) (first now : List Test) (i : ℕ) : Type 0 where
  pub same : length now ≡ length first
  pub later : (c : ℕ) → i ≤ c → get_or now c false ≡ get_or first c false
  pub found : (c : ℕ) → c < i → get_or now c false ≡ true → HasMarked bases first c
  pub all : (c d : ℕ) → c < i → get_or first d false ≡ true → reaches bases c c d ≡ true → get_or now c false ≡ true
  pub apart : (c d : ℕ) → c < i → get_or first c false ≡ true → get_or first d false ≡ true
      → reaches bases c c d ≡ true → c ≡ d

pub begun : (bases : Bases) (marks : List Test) → IsWalked bases marks marks 0
begun bases marks = record {
  same = refl;
  later = λ c h. refl;
  found = λ c h. absurd (omega arith);
  all = λ c d h. absurd (omega arith);
  apart = λ c d h. absurd (omega arith);
}

-- the mark read at an index, whatever is given for an index past the end
pub mark_read : (marks : List Test) (c : ℕ) (x y : Test) → c < length marks → x ≡ get_or marks c x → x ≡ y
    → get_or marks c false ≡ y
mark_read marks c x y l e q = sym (get_or_read marks c x l e false) ∙ q

-- ---- the next class

-- a marked class above a base is above the class too
above_too : (bases : Bases) → AreSmaller bases → (marks : List Test) (i b : ℕ) → base_of bases i ≡ Some b
    → HasMarked bases marks b → HasMarked bases marks i
above_too bases o marks i b e h =
    let d = h.ancestor in
    let l = o i b e in
    let k = reaches_down bases o d b b h.reached in
    record {
      ancestor = d;
      marked = h.marked;
      reached = reaches_base bases o d i b e (λ q. omega (arith, l, k, q)) ∙ h.reached;
    }

-- a marked class whose base has been marked is related to another one
pub clash : (bases : Bases) → AreSmaller bases → (first now : List Test) (i b : ℕ) → IsWalked bases first now i
    → base_of bases i ≡ Some b → get_or now b false ≡ true → get_or now i false ≡ true → AreUnrelated bases first → ⊥
unfolding above_too
clash bases o first now i b w e p q u =
    let l = o i b e in
    let h = w.found b l p in
    let k = reaches_down bases o h.ancestor b b h.reached in
    let a = above_too bases o first i b e h in
    let s = u i h.ancestor (sym (w.later i (omega arith)) ∙ q) h.marked a.reached in
    omega (arith, l, k, s)

-- nothing marked is above the class
pub passed : (bases : Bases) → AreSmaller bases → (first now : List Test) (i : ℕ) → IsWalked bases first now i
    → ((d : ℕ) → i ≢ d → get_or first d false ≡ true → reaches bases i i d ≡ true → ⊥)
    → IsWalked bases first now (i + 1)
passed bases o first now i w f = record {
  same = w.same;
  later = λ c h. w.later c (omega arith);
  found = below_more (λ c. get_or now c false ≡ true → HasMarked bases first c) i w.found
      (λ t. record {
        ancestor = i;
        marked = sym (w.later i (omega arith)) ∙ t;
        reached = reaches_itself bases i i refl;
      });
  all = λ c d. below_more (λ c. get_or first d false ≡ true → reaches bases c c d ≡ true → get_or now c false ≡ true) i
      (λ k h. w.all k d h)
      (λ t r. ⊎_elim (λ q. w.later i (omega arith) ∙ ap (λ x. get_or first x false) q ∙ t) (λ n. absurd (f d n t r))
      (cases_eq i d)) c;
  apart = λ c d. below_more (λ c. get_or first c false ≡ true → get_or first d false ≡ true → reaches bases c c d ≡ true
      → c ≡ d) i (λ k h. w.apart k d h)
      (λ s t r. ⊎_elim (λ q. q) (λ n. absurd (f d n t r)) (cases_eq i d)) c;
}

pub passed_root : (bases : Bases) → AreSmaller bases → (first now : List Test) (i : ℕ) → IsWalked bases first now i
    → base_of bases i ≡ None → IsWalked bases first now (i + 1)
passed_root bases o first now i w e =
    passed bases o first now i w (λ d n t r. false≢true (sym (reaches_root bases i d e n) ∙ r))

pub passed_base : (bases : Bases) → AreSmaller bases → (first now : List Test) (i b : ℕ) → IsWalked bases first now i
    → base_of bases i ≡ Some b → get_or now b false ≡ false → IsWalked bases first now (i + 1)
passed_base bases o first now i b w e p =
    passed bases o first now i w
    (λ d n t r. false≢true (sym p ∙ w.all b d (o i b e) t (sym (reaches_base bases o d i b e n) ∙ r)))

-- a class is marked whose base has been
pub marked_too : (bases : Bases) → AreSmaller bases → (first now : List Test) (i b : ℕ) → IsWalked bases first now i
    → base_of bases i ≡ Some b → i < length first → get_or now b false ≡ true → get_or now i false ≡ false
    → IsWalked bases first (set now i true) (i + 1)
marked_too bases o first now i b w e l p q =
    let s = w.same in
    let here : get_or (set now i true) i false ≡ true = get_or-set_same now i true false (omega arith) in
    let there = λ (c : ℕ) (n : c ≢ i). get_or-set_other now i c true false n in
    record {
      same = length-set now i true ∙ w.same;
      later = λ c h. there c (λ q. omega (arith, h, q)) ∙ w.later c (omega arith);
      found = below_more (λ c. get_or (set now i true) c false ≡ true → HasMarked bases first c) i
          (λ c h t. w.found c h (sym (there c (λ q. omega (arith, h, q))) ∙ t))
          (λ t. above_too bases o first i b e (w.found b (o i b e) p));
      all = λ c d. below_more (λ c. get_or first d false ≡ true → reaches bases c c d ≡ true
          → get_or (set now i true) c false ≡ true) i
          (λ c h t r. there c (λ q. omega (arith, h, q)) ∙ w.all c d h t r) (λ t r. here) c;
      apart = λ c d. below_more (λ c. get_or first c false ≡ true → get_or first d false ≡ true
          → reaches bases c c d ≡ true → c ≡ d) i (λ k h. w.apart k d h)
          (λ s t r. absurd (false≢true (sym q ∙ w.later i (omega arith) ∙ s))) c;
    }

-- a walk that ends has found no two that are related
pub unrelated : (bases : Bases) (first now : List Test) (i : ℕ) → IsWalked bases first now i → length first ≤ i
    → AreUnrelated bases first
unrelated bases first now i w l c d s t r = ⊎_elim (λ h. w.apart c d h s t r)
    (λ h. absurd (false≢true (sym (get_or_past first c false (omega arith)) ∙ s))) (cases_lt c i)
