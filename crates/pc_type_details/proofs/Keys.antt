-- The first three different types of keys, one key after another.
use Rattle.std.proofs.Common.{◌≡◌, ◌∙◌, ◌<◌, ◌≤◌, ◌-◌, ◌+◌, ◌++◌, ◌∷◌, [], ℕ, List, Bool, true, false, refl, sym, ap}
use Rattle.std.proofs.Common.{append_assoc, arith, length, length-append, drop, get_or, suc, take, zero, ◌||◌}
use Rattle.std.proofs.lemmas.List.{append-nil}
use Rattle.std.specs.List.{list_any}
use Rattle.std.specs.Prelude.{if◌then◌else◌}
use Rattle.pc_tree.specs.Lists.{entries_of_list}
use Rattle.pc_tree.specs.declared.tree.Entry.{Entry as RustEntry}
use Rattle.pc_tree.specs.Depth.{place_of}
use Rattle.pc_tree.specs.Tree.{Module, expr_of}
use Rattle.pc_types.specs.Join.{same_tree}
use Rattle.pc_types.specs.Tree.{Tree}
use Rattle.pc_types.specs.declared.boxed.BoxType.{BoxType}
use Rattle.std.specs.Borrow.{Bor}
use Rattle.pc_detail_rules.specs.Facts.{Known}
use Rattle.pc_detail_facts.specs.Held.{tree_lent, trees_lent}
use Rattle.pc_type_details.specs.Keys.{first_keys}
use Rattle.pc_detail_rules.specs.Operations.{different, key_types_here}
use Rattle.pc_detail_facts.proofs.Held.{drop_next}

take_none : (ts : List Tree) → take 0 ts ≡ []
take_none ts = refl

take_nothing : (n : ℕ) → take n [] ≡ (let e : List Tree = [] in e)
take_nothing zero = refl
take_nothing (suc n) = refl

-- three types are enough
pub enough_keys : (seen rest : List Tree) (t : Tree) → length seen ≤ 3 → 3 ≤ length seen
    → first_keys seen rest ≡ first_keys seen (t ∷ rest)
enough_keys seen rest t few h =
    let e : 3 - length seen ≡ 0 = omega arith in
    ap (λ n. seen ++ take n (different seen rest)) e ∙ ap (λ l. seen ++ l) (take_none (different seen rest))
    ∙ sym (ap (λ n. seen ++ take n (different seen (t ∷ rest))) e ∙ ap (λ l. seen ++ l) (take_none (different seen (t ∷ rest))))

-- a type that was seen adds nothing
pub seen_key : (seen rest : List Tree) (t : Tree) → list_any (same_tree t) seen ≡ true
    → first_keys seen rest ≡ first_keys seen (t ∷ rest)
seen_key seen rest t h = sym (ap (λ (b : Bool). seen ++ take (3 - length seen)
    (if b then different seen rest else t ∷ different (seen ++ t ∷ []) rest)) h)

-- another type is the next
pub new_key : (seen rest : List Tree) (t : Tree) → length seen < 3 → list_any (same_tree t) seen ≡ false
    → first_keys (seen ++ t ∷ []) rest ≡ first_keys seen (t ∷ rest)
new_key seen rest t less h =
    let more = different (seen ++ t ∷ []) rest in
    let e : 3 - length (seen ++ t ∷ []) ≡ 2 - length seen = omega (arith, length-append seen (t ∷ [])) in
    let f : suc (2 - length seen) ≡ 3 - length seen = omega arith in
    ap (λ n. (seen ++ t ∷ []) ++ take n more) e ∙ append_assoc seen (t ∷ []) (take (2 - length seen) more)
    ∙ ap (λ n. seen ++ take n (t ∷ more)) f
    ∙ sym (ap (λ (b : Bool). seen ++ take (3 - length seen) (if b then different seen rest else t ∷ more)) h)

-- no type is left
pub keys_ended : (seen : List Tree) → first_keys seen [] ≡ seen
keys_ended seen = ap (λ l. seen ++ l) (take_nothing (3 - length seen)) ∙ append-nil seen

-- whether one of these is the same, one after another
pub any_next : (p : Tree → Bool) (xs : List (Bor BoxType)) (i : ℕ) (x : Bor BoxType) → i < length xs
    → x ≡ get_or xs i x → list_any p (trees_lent (drop i xs))
    ≡ (p (tree_lent x) || list_any p (trees_lent (drop (i + 1) xs)))
any_next p xs i x h e = ap (λ l. list_any p (trees_lent l)) (drop_next xs i x h e)

-- the keys from one on
pub keys_next : (m : Module) (k : Known) (es : List RustEntry) (i : ℕ) (e : RustEntry) → i < length es
    → e ≡ get_or es i e → key_types_here m k (entries_of_list (drop i es))
    ≡ k.types (place_of (expr_of e.key)) ∷ key_types_here m k (entries_of_list (drop (i + 1) es))
keys_next m k es i e h is = ap (λ l. key_types_here m k (entries_of_list l)) (drop_next es i e h is)

-- there are as many trees as types
pub same_length : (ts : List (Bor BoxType)) → length (trees_lent ts) ≡ length ts
same_length [] = refl
same_length (t ∷ ts) = ap suc (same_length ts)
