-- The demands that represent judged methods, class by class.
use Rattle.std.proofs.Common.{◌≡◌, ◌⊎◌, ◌<◌, ℕ, zero, suc, List, [], ◌∷◌, ◌++◌, length, get_or, refl, sym, ap}
use Rattle.std.proofs.Common.{subst, inl, inr, arith}
use Rattle.std.specs.Prelude.{Option, Some, None, IfSome, All, slice_get, string_bytes, Vec}
use Rattle.std.specs.Borrow.{Bor}
use Rattle.std.specs.Global.{Global}
use Rattle.std.proofs.lemmas.List.Elements.{All-append, All-cons, All-nil, All-get_or}
use Rattle.std.proofs.lemmas.Option.{same_Some}
use Rattle.pc_types.specs.Tree.{Tree}
use Rattle.pc_types.specs.Below.{base_of}
use Rattle.pc_annotations.specs.Bases.{bases_of}
use Rattle.pc_class.specs.declared.table.Method.{Method as RustMethod}
use Rattle.pc_class.specs.Facts.{Method}
use Rattle.pc_class.specs.Overrides.{overridden}
use Rattle.pc_class.specs.OverrideFindings.{override_code}
use Rattle.pc_class.specs.Tables.{method_with, IsMethod}
use Rattle.pc_overrides.specs.declared.known.Judging.{Judging}
use Rattle.pc_overrides.specs.declared.known.Judged.{Judged}
use Rattle.pc_overrides.specs.Internal.OverrideTests.{module_judged, methods_above}
use Rattle.pc_overrides.specs.Internal.Representing.{Represent, IsKnown, AreKnown}

one_own_more : {X : Type 0} (xs : List X) (x : X) (d : ℕ) (y : X) → slice_get (xs ++ x ∷ []) d ≡ Some y
    → (slice_get xs d ≡ Some y) ⊎ ((d ≡ length xs) × (x ≡ y))
one_own_more [] x zero y h = inr (refl, same_Some _ _ h)
one_own_more [] x (suc d) y h = inl h
one_own_more (z ∷ zs) x zero y h = inl h
one_own_more (z ∷ zs) x (suc d) y h = elim (one_own_more zs x d y h)
    [ inl a ↦ inl a | inr r ↦ inr (ap suc r.0, r.1) ]

module _ {Ty : Type 0} (tree : Ty → Tree) (s : Judging Ty) where
  -- a method at a place among those of its class
  pub known_at : (judged : List (Vec (Judged Ty) Global)) (c : ℕ) (own : Vec (Judged Ty) Global) (i : ℕ) (k : Judged Ty)
      → AreKnown tree s judged → slice_get judged c ≡ Some own → i < length own.items → k ≡ get_or own.items i k
      → IsKnown tree s c k
  known_at judged c own i k known there less is =
      subst (IsKnown tree s c) (sym is) (All-get_or (IsKnown tree s c) own.items i k less (known c own there))

  -- the method known for one that is looked up
  pub known_of : (o : Option (Bor (Judged Ty))) (x : RustMethod Ty)
      → IfSome o (λ k. IsKnown tree s x.owner k.now × (string_bytes k.now.method.now.name ≡ string_bytes x.name))
      → IfSome o (λ k. Represent tree s (string_bytes x.name) (overridden (methods_above s (Some x.owner))
      (string_bytes x.name)) k.now.demands.items k.now.rest)
  known_of None x h = tt
  known_of (Some k) x h = subst (λ name. Represent tree s name (overridden (methods_above s (Some x.owner)) name)
      k.now.demands.items k.now.rest) h.1 h.0.known

  -- one method more of a class
  pub known_more : (c : ℕ) (base : Option ℕ) (own : List (Judged Ty)) (k : Judged Ty) (x : RustMethod Ty)
      → base ≡ base_of (bases_of (module_judged s)) c → k.method.now ≡ x → IsMethod s.classes.now x
      → k.code ≡ override_code (bases_of (module_judged s)) (overridden (methods_above s base) (string_bytes x.name))
      (method_with tree x)
      → overridden (methods_above s (Some c)) (string_bytes x.name)
      ≡ method_with tree x ∷ overridden (methods_above s base) (string_bytes x.name)
      → Represent tree s (string_bytes x.name)
      (method_with tree x ∷ overridden (methods_above s base) (string_bytes x.name)) k.demands.items k.rest
      → All (IsKnown tree s c) own → All (IsKnown tree s c) (own ++ k ∷ [])
  known_more c base own k x at e is code first h before =
      All-append (IsKnown tree s c) own (k ∷ []) before (All-cons (IsKnown tree s c) k [] (record {
        method = subst (IsMethod s.classes.now) (sym e) is;
        code = subst (λ (y : RustMethod Ty). k.code ≡ override_code (bases_of (module_judged s))
            (overridden (methods_above s (base_of (bases_of (module_judged s)) c)) (string_bytes y.name))
            (method_with tree y)) (sym e)
            (subst (λ o. k.code ≡ override_code (bases_of (module_judged s))
            (overridden (methods_above s o) (string_bytes x.name)) (method_with tree x)) at code);
        known = subst (λ (y : RustMethod Ty). Represent tree s (string_bytes y.name)
            (overridden (methods_above s (Some c)) (string_bytes y.name)) k.demands.items k.rest) (sym e)
            (subst (λ (olds : List Method). Represent tree s (string_bytes x.name) olds k.demands.items k.rest)
            (sym first) h);
      }) (All-nil (IsKnown tree s c)))

  -- of no class
  pub known_none : (judged : List (Vec (Judged Ty) Global)) → judged ≡ [] → AreKnown tree s judged
  known_none judged e = subst (AreKnown tree s) (sym e) (λ c own there. absurd (grind (arith, there)))

  -- one class more
  pub known_then : (judged : List (Vec (Judged Ty) Global)) (own : Vec (Judged Ty) Global) → AreKnown tree s judged
      → All (IsKnown tree s (length judged)) own.items → AreKnown tree s (judged ++ own ∷ [])
  known_then judged own known here c other there = elim (one_own_more judged own c other there) [
    | inl before ↦ known c other before
    | inr now ↦ subst (λ d. All (IsKnown tree s d) other.items) (sym now.0)
        (subst (λ (v : Vec (Judged Ty) Global). All (IsKnown tree s (length judged)) v.items) now.1 here)
  ]
