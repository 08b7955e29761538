-- The names of a function as locals: as many as there are, no two the same.
use Rattle.pc_scope.specs.declared.resolution.NameMeaning.TheVariants as meaning
use Rattle.std.proofs.Common.{List, [], ap, arith, length, refl, subst, suc, sym, zero, ℕ, ◌<◌, ◌∙◌, ◌∷◌, ◌≡◌}
use Rattle.std.specs.Prelude.{Bool as Test, None, Option, Some, bytes_eq, false, if◌then◌else◌, slice_get, true}
use Rattle.std.specs.Option.{option_map}
use Rattle.std.proofs.lemmas.Slice.Eq.{bytes_eq-Decides}
use Rattle.pc_tree.specs.Tree.{Item, Module, class_item, constant_item, def_item}
use Rattle.pc_scope.specs.declared.resolution.Builtin.{Builtin}
use Rattle.pc_scope.specs.declared.resolution.NameMeaning.{NameMeaning}
use Rattle.pc_scope.specs.Reserved.{builtin_of}
use Rattle.pc_scope.specs.Resolution.{bound_first, builtin_meaning, index_of, local_meaning, or_meaning, resolve_among}
use Rattle.pc_scope.specs.Resolution.{resolve_in_module}
use Rattle.pc_types.specs.Tree.{Tree}
use Rattle.pc_rules.specs.Signatures.{body_context}
use Rattle.std.proofs.lemmas.Option.{same_Some}
use Rattle.pc_module_rules.specs.Laws.Labellings.{NumberedLocals}

-- a name that has an index stands there
index_get : (word : List ℕ) (ts : List (List ℕ)) (x : ℕ) → index_of word ts ≡ Some x → slice_get ts x ≡ Some word
index_get word [] x e = absurd (grind (arith, e))
index_get word (t ∷ ts) x e = go (bytes_eq word t) refl x e (λ y f. index_get word ts y f)
  where
    later : (o : Option ℕ) (x : ℕ) → option_map suc o ≡ Some x → ((y : ℕ) → o ≡ Some y → slice_get ts y ≡ Some word)
        → slice_get (t ∷ ts) x ≡ Some word
    later None x e h = absurd (grind (arith, e))
    later (Some y) x e h = let q : suc y ≡ x = same_Some _ _ e in subst (λ z. slice_get (t ∷ ts) z ≡ Some word) q
        (h y refl)

    here : (x : ℕ) → word ≡ t → Some 0 ≡ Some x → slice_get (t ∷ ts) x ≡ Some word
    here x w e = let q : 0 ≡ x = same_Some _ _ e in subst (λ z. slice_get (t ∷ ts) z ≡ Some word) q (ap Some (sym w))

    go : (b : Test) → bytes_eq word t ≡ b → (x : ℕ) → index_of word (t ∷ ts) ≡ Some x
        → ((y : ℕ) → index_of word ts ≡ Some y → slice_get ts y ≡ Some word) → slice_get (t ∷ ts) x ≡ Some word
    go true b x e h = here x ((bytes_eq-Decides word t).0 b)
        (ap (λ c. if c then Some 0 else option_map suc (index_of word ts)) (sym b) ∙ e)
    go false b x e h = later (index_of word ts) x (ap (λ c. if c then Some 0 else option_map suc (index_of word ts))
        (sym b) ∙ e) h

-- and the index is below the number of names
get_below : (ts : List (List ℕ)) (x : ℕ) (word : List ℕ) → slice_get ts x ≡ Some word → x < length ts
get_below [] x word e = absurd (grind (arith, e))
get_below (t ∷ ts) zero word e = omega arith
get_below (t ∷ ts) (suc x) word e = let h = get_below ts x word e in omega arith

-- no name that the items of a module bind means a local
bound_local : (k f c : ℕ) (items : List Item) (word : List ℕ) (x : ℕ) → bound_first k f c items word
    ≡ Some (meaning.Local x) → ⊥
bound_local k f c [] word x e = grind (arith, e)
bound_local k f c (constant_item p i ∷ rest) word x e = go (bytes_eq i.name.text word) e
    (λ h. bound_local (suc k) f c rest word x h)
  where
    go : (b : Test) → (if b then Some (meaning.Const k) else bound_first (suc k) f c rest word) ≡ Some (meaning.Local x)
        → (bound_first (suc k) f c rest word ≡ Some (meaning.Local x) → ⊥) → ⊥
    go true e h = let q : meaning.Const k ≡ meaning.Local x = same_Some _ _ e in grind (arith, q)
    go false e h = h e
bound_local k f c (class_item p i ∷ rest) word x e = go (bytes_eq i.name.text word) e
    (λ h. bound_local k f (suc c) rest word x h)
  where
    go : (b : Test) → (if b then Some (meaning.Class c) else bound_first k f (suc c) rest word) ≡ Some (meaning.Local x)
        → (bound_first k f (suc c) rest word ≡ Some (meaning.Local x) → ⊥) → ⊥
    go true e h = let q : meaning.Class c ≡ meaning.Local x = same_Some _ _ e in grind (arith, q)
    go false e h = h e
bound_local k f c (def_item p i ∷ rest) word x e = go (bytes_eq i.name.text word) e
    (λ h. bound_local k (suc f) c rest word x h)
  where
    go : (b : Test) → (if b then Some (meaning.Func f) else bound_first k (suc f) c rest word) ≡ Some (meaning.Local x)
        → (bound_first k (suc f) c rest word ≡ Some (meaning.Local x) → ⊥) → ⊥
    go true e h = let q : meaning.Func f ≡ meaning.Local x = same_Some _ _ e in grind (arith, q)
    go false e h = h e

-- nor is what a name means in a module
pub module_local : (m : Module) (word : List ℕ) (x : ℕ) → resolve_in_module m word ≡ meaning.Local x → ⊥
module_local m word x e = go (builtin_of word) (bound_first 0 0 0 m.items word) refl e
  where
    go : (b : Option Builtin) (r : Option NameMeaning) → bound_first 0 0 0 m.items word ≡ r
        → or_meaning (builtin_meaning b) (or_meaning r meaning.None) ≡ meaning.Local x → ⊥
    go (Some b) r i e = grind (arith, e)
    go None None i e = grind (arith, e)
    go None (Some r) i e = bound_local 0 0 0 m.items word x (i ∙ ap Some e)

-- a name that means a local stands at its number
local_get : (m : Module) (names : List (List ℕ)) (word : List ℕ) (x : ℕ) → resolve_among m names word ≡ meaning.Local x
    → slice_get names x ≡ Some word
local_get m names word x e = go (index_of word names) refl e
  where
    go : (o : Option ℕ) → index_of word names ≡ o → or_meaning (local_meaning o) (resolve_in_module m word)
        ≡ meaning.Local x → slice_get names x ≡ Some word
    go None i e = absurd (module_local m word x e)
    go (Some y) i e = let q : y ≡ x = grind (arith, e) in index_get word names x (i ∙ ap Some q)

-- the names of a function mean as many locals, no two the same
pub names_are : (m : Module) (constants : List Tree) (names : List (List ℕ))
    → NumberedLocals (body_context m constants names) (length names)
names_are m constants names = record {
  below = λ word x e. get_below names x word (local_get m names word x e);
  apart = λ a b x e f. same_Some _ _ (sym (local_get m names a x e) ∙ local_get m names b x f);
}
