-- A reserved name is no local, and therefore means its built-in.
use Rattle.std.proofs.Common.{◌≡◌, ℕ, suc, List, [], ◌∷◌, ◌++◌, refl, ap, ◌∙◌, arith}
use Rattle.std.specs.Prelude.{Bool, true, false, ◌||◌, if◌then◌else◌, Option, Some, None, is_some, bytes_eq}
use Rattle.std.specs.Option.{option_map}
use Rattle.std.proofs.lemmas.Slice.Eq.{bytes_eq-Decides}
use Rattle.pc_tree.specs.Tree.{FuncDef, Module}
use Rattle.pc_scope.specs.declared.resolution.Builtin.{Builtin}
use Rattle.pc_scope.specs.declared.resolution.Owner.{Owner}
use Rattle.pc_scope.specs.declared.resolution.NameMeaning.TheVariants as meaning
use Rattle.pc_scope.specs.Reserved.{builtin_of, is_builtin_name}
use Rattle.pc_tree.specs.Stopping.{bound_by}
use Rattle.pc_scope.specs.Bindings.{texts}
use Rattle.pc_scope.specs.Resolution.{index_of, is_one_of, first_of_each, entry_texts, locals_of, locals_of_function}
use Rattle.pc_scope.specs.Resolution.{function_of, resolve}

not_both : {b : Bool} → b ≡ true → b ≡ false → ⊥
not_both e e' = absurd (grind (arith, e, e'))

left_false : (a b : Bool) → (a || b) ≡ false → a ≡ false
left_false true b e = e
left_false false b e = refl

module _ (word : List ℕ) (reserved : is_builtin_name word ≡ true) where
  other : (t : List ℕ) → is_builtin_name t ≡ false → (b : Bool) → bytes_eq word t ≡ b → b ≡ false
  other t free false e = refl
  other t free true e = absurd (not_both reserved (ap is_builtin_name ((bytes_eq-Decides word t).0 e) ∙ free))

  behind : (t : List ℕ) (kept : List (List ℕ)) (dropped : List (List ℕ)) → index_of word kept ≡ None
      → index_of word dropped ≡ None → (before : List (List ℕ)) (b : Bool) → (is_builtin_name t || is_one_of t before)
      ≡ b → index_of word (if b then dropped else t ∷ kept) ≡ None
  behind t kept dropped k d before true e = d
  behind t kept dropped k d before false e = rw (other t (left_false (is_builtin_name t) (is_one_of t before) e)
      (bytes_eq word t) refl) (ap (option_map suc) k)

  pub is_none_of : (before ts : List (List ℕ)) → index_of word (first_of_each before ts) ≡ None
  is_none_of before [] = refl
  is_none_of before (t ∷ ts) = behind t (first_of_each (t ∷ before) ts) (first_of_each before ts)
      (is_none_of (t ∷ before) ts) (is_none_of before ts) before (is_builtin_name t || is_one_of t before) refl

  none_of_function : (owner : Owner) (f : Option FuncDef) → index_of word (locals_of_function owner f) ≡ None
  none_of_function owner None = refl
  none_of_function owner (Some f) = is_none_of [] (entry_texts owner f ++ texts (bound_by f.body))

  pub none_of : (m : Module) (owner : Owner) → index_of word (locals_of m owner) ≡ None
  none_of m owner = none_of_function owner (function_of m owner)

pub unbound : (m : Module) (owner : Owner) (name : List ℕ) (b : Builtin) → builtin_of name ≡ Some b
    → resolve m owner name ≡ meaning.Builtin b
unbound m owner name b e = rw (none_of name (ap is_some e) m owner) (rw e refl)
