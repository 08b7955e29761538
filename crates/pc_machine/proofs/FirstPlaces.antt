-- Names that the module has bound, by the position of their first binding.
use Rattle.std.proofs.Common.{◌≡◌, ◌+◌, ℕ, zero, suc, refl, ap, ◌∙◌, sym, subst, arith, List, [], ◌∷◌, ◌++◌, map}
use Rattle.std.proofs.Common.{length}
use Rattle.std.specs.Prelude.{Bool, true, false, if◌then◌else◌, Option, Some, None, slice_get}
use Rattle.std.specs.Option.{option_map}
use Rattle.std.specs.Borrow.{Bor}
use Rattle.std.proofs.lemmas.List.{map-append}
use Rattle.indexmap.specs.IndexMap.{IndexMap}
use Rattle.pc_tree.specs.Names.{at_text, first_of, bound_as}
use Rattle.pc_value.specs.Texts.{same_text}
use Rattle.pc_machine.specs.declared.state.Global.{Global as RustGlobal}
use Rattle.pc_machine.specs.State.{GlobalBinding}
use Rattle.pc_machine.specs.Names.{global_by_name}
use Rattle.pc_machine.specs.Machine.{global_of as global_seen, bound_of}
use Rattle.pc_machine.specs.Globals.{index_of_name, name_of_global, ArePlaced}

-- the binding of a global that the program found, if any
abbrev pub bound_at : Option RustGlobal → Option GlobalBinding
bound_at None = None
bound_at (Some g) = Some (bound_of g.bound)

abbrev pub at_place : List RustGlobal → Option ℕ → Option GlobalBinding
at_place gs None = None
at_place gs (Some i) = bound_at (slice_get gs i)

later : (g : RustGlobal) (gs : List RustGlobal) (o : Option ℕ) → at_place (g ∷ gs) (option_map suc o) ≡ at_place gs o
later g gs None = refl
later g gs (Some i) = refl

pub found_at : (n : List ℕ) (gs : List RustGlobal) → at_place gs (index_of_name n (map name_of_global gs)) ≡ global_by_name n
    (map global_seen gs)
found_at n [] = refl
found_at n (g ∷ gs) = go (same_text g.name.now n) (found_at n gs)
  where
    go : (b : Bool) → at_place gs (index_of_name n (map name_of_global gs)) ≡ global_by_name n (map global_seen gs)
        → at_place (g ∷ gs) (if b then Some 0 else option_map suc (index_of_name n (map name_of_global gs)))
        ≡ (if b then Some (bound_of g.bound) else global_by_name n (map global_seen gs))
    go true rest = refl
    go false rest = later g gs (index_of_name n (map name_of_global gs)) ∙ rest

-- one more name stands after the others
place_more : (n x : List ℕ) (ns : List (List ℕ)) → index_of_name n (ns ++ x ∷ []) ≡ first_of (index_of_name n ns)
    (bound_as x (length ns) n)
place_more n x [] = refl
place_more n x (m ∷ ns) = go (same_text m n) (place_more n x ns)
  where
    shifted : (o : Option ℕ) (b : Bool) → option_map suc (first_of o (if b then Some (length ns) else None))
        ≡ first_of (option_map suc o) (if b then Some (suc (length ns)) else None)
    shifted (Some i) b = refl
    shifted None true = refl
    shifted None false = refl

    go : (b : Bool) → index_of_name n (ns ++ x ∷ []) ≡ first_of (index_of_name n ns) (bound_as x (length ns) n)
        → (if b then Some 0 else option_map suc (index_of_name n (ns ++ x ∷ [])))
        ≡ first_of (if b then Some 0 else option_map suc (index_of_name n ns)) (bound_as x (suc (length ns)) n)
    go true rest = refl
    go false rest = ap (option_map suc) rest ∙ shifted (index_of_name n ns) (same_text x n)

pub placed_more : {S : Type 0} (old new : IndexMap (Bor (List ℕ)) ℕ S) (gs : List RustGlobal) (g : RustGlobal)
    (place : ℕ) → place ≡ length (map name_of_global gs) → ArePlaced old (map name_of_global gs)
    → ((n : List ℕ) → at_text new n ≡ first_of (at_text old n) (bound_as g.name.now place n))
    → ArePlaced new (map name_of_global (gs ++ g ∷ []))
placed_more old new gs g place here placed binds n =
    binds n
    ∙ ap (λ (o : Option ℕ). first_of o (bound_as g.name.now place n)) (placed n)
    ∙ ap (λ (i : ℕ). first_of (index_of_name n (map name_of_global gs)) (bound_as g.name.now i n)) here
    ∙ sym (place_more n g.name.now (map name_of_global gs))
    ∙ ap (index_of_name n) (sym (map-append name_of_global gs (g ∷ [])))
