-- Parameters, each compared with those before it.
use Rattle.std.proofs.Common.{◌≡◌, ◌∙◌, ◌+◌, ◌<◌, ◌≤◌, ◌++◌, ℕ, List, [], ◌∷◌, refl, sym, ap, map, drop, take, length}
use Rattle.std.proofs.Common.{get_or}
use Rattle.std.specs.Prelude.{Bool, true, false, ◌&&◌, ◌||◌, not, bytes_eq}
use Rattle.std.proofs.lemmas.List.{drop_all}
use Rattle.pc_source.specs.declared.place.Place.{Place}
use Rattle.pc_source.specs.ReservedNames.{is_reserved}
use Rattle.pc_tree.specs.declared.code.Code.TheVariants.{E01}
use Rattle.pc_tree.specs.declared.code.Finding.{Finding}
use Rattle.pc_tree.specs.declared.tree.Param.{Param as RustParam}
use Rattle.pc_tree.specs.Code.{at_code}
use Rattle.pc_tree.specs.Tree.{param_of}
use Rattle.pc_tree.specs.Stopping.{is_among, one_if, bound_again, name_of_param}
use Rattle.pc_tree.proofs.Stops.{cons_at, more_at}
use Rattle.pc_tree.proofs.Finds.{stepped}
use Rattle.pc_stopping.proofs.Passed.{same_again}

abbrev pub text_of : RustParam → List ℕ
text_of p = (name_of_param (param_of p)).text

-- ---- a name among the parameters

module _ (params : List RustParam) (name : List ℕ) (i : ℕ) where
  abbrev pub IsOpen : Type 0
  IsOpen = is_among (map text_of (drop i params)) name ≡ is_among (map text_of params) name

  module _ (p : RustParam) (lt : i < length params) (is : p ≡ get_or params i p) where
    pub named_here : bytes_eq (text_of p) name ≡ true → IsOpen → true ≡ is_among (map text_of params) name
    named_here e v = rw (cons_at params i p lt is, e) at v

    pub named_later : bytes_eq (text_of p) name ≡ false → IsOpen
        → is_among (map text_of (drop (i + 1) params)) name ≡ is_among (map text_of params) name
    named_later e v = rw (cons_at params i p lt is, e) at v

  pub named_never : length params ≤ i → IsOpen → false ≡ is_among (map text_of params) name
  named_never le v = rw (drop_all i params le) at v

-- ---- parameters bound again, from one on

-- the texts before a parameter, and then its own, stand in whatever order
among_more : (ts bs : List (List ℕ)) (u t : List ℕ) → is_among (u ∷ (ts ++ bs)) t ≡ is_among ((ts ++ u ∷ []) ++ bs) t
among_more [] bs u t = refl
among_more (x ∷ ts) bs u t = turned (bytes_eq u t) (bytes_eq x t) (is_among (ts ++ bs) t)
    ∙ ap (λ b. bytes_eq x t || b) (among_more ts bs u t)
  where
    turned : (x y z : Bool) → (x || (y || z)) ≡ (y || (x || z))
    turned true true z = refl
    turned true false z = refl
    turned false y z = refl

module _ (before : List (List ℕ)) (params : List RustParam) (first : List Finding) where
  -- the findings so far, followed by those from a parameter on, are the first findings and those of all parameters
  abbrev pub IsFound : ℕ → List Finding → Type 0
  IsFound i found = found ++ at_code E01 (bound_again (map text_of (take i params) ++ before)
      (map name_of_param (map param_of (drop i params))))
      ≡ first ++ at_code E01 (bound_again before (map name_of_param (map param_of params)))

  pub found_more : (i : ℕ) (p : RustParam) (again : Bool) (old new : List Finding) → i < length params
      → p ≡ get_or params i p → again ≡ is_among (map text_of (take i params) ++ before) (text_of p)
      → new ≡ old ++ at_code E01 (one_if (again && not (is_reserved (text_of p))) (name_of_param (param_of p)).place)
      → IsFound i old → IsFound (i + 1) new
  found_more i p again old new lt is e h v =
      let passed = map text_of (take i params) ++ before in
      let rest = map name_of_param (map param_of (drop (i + 1) params)) in
      let later : bound_again (map text_of (take (i + 1) params) ++ before) rest
      ≡ bound_again (text_of p ∷ passed) rest =
      ap (λ ts. bound_again (ts ++ before) rest) (more_at text_of params i p lt is)
      ∙ sym (same_again _ _ (among_more (map text_of (take i params)) before (text_of p)) rest) in
      ap (λ (ps : List Place). new ++ at_code E01 ps) later
      ∙ stepped E01 old new (one_if (again && not (is_reserved (text_of p))) (name_of_param (param_of p)).place)
      (bound_again (text_of p ∷ passed) rest)
      (bound_again passed (map name_of_param (map param_of (drop i params)))) h
      (ap (λ (ps : List RustParam). bound_again passed (map name_of_param (map param_of ps))) (cons_at params i p lt is)
      ∙ ap (λ (b : Bool). one_if (b && not (is_reserved (text_of p))) (name_of_param (param_of p)).place
      ++ bound_again (text_of p ∷ passed) rest) (sym e))
      ∙ v
