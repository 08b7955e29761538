-- The first place of each name among parameters, and the end of the required parameters.
use Rattle.std.proofs.Common.{◌≡◌, ◌<◌, ◌≤◌, ◌+◌, ℕ, zero, suc, List, [], ◌∷◌, ◌++◌, take, length, get_or}
use Rattle.std.proofs.Common.{true, false, Option, Some, None, refl, sym, ap, ◌∙◌, arith, ◌⊎◌, inl, inr, Bool as Test}
use Rattle.std.specs.Prelude.{if◌then◌else◌, bytes_eq, is_some, slice_get, string_bytes, String}
use Rattle.std.specs.Global.{Global}
use Rattle.std.specs.Option.{option_map}
use Rattle.std.specs.Map.{lookup}
use Rattle.std.proofs.lemmas.Option.{slice_get_read}
use Rattle.std.proofs.lemmas.Slice.Eq.{bytes_eq-Decides}
use Rattle.indexmap.specs.IndexMap.{insert_entry}
use Rattle.pc_tree.specs.Names.{first_of, bound_as}
use Rattle.pc_tree.proofs.InMaps.{put_new, none_at}
use Rattle.pc_tree.proofs.Stops.{more_at}
use Rattle.pc_tree.proofs.Texts.{turned}
use Rattle.pc_scope.specs.Resolution.{index_of}
use Rattle.pc_shared_maps.proofs.ListsShared.{index_behind}
use Rattle.pc_class.specs.declared.table.Parameter.{Parameter as RustParameter}
use Rattle.pc_class.specs.Parts.{parameter_name}
use Rattle.pc_class.specs.Listed.{needed_in, names_listed}
use Rattle.pc_class.proofs.TableMore.{get_before, get_last}

module _ {Ty : Type 0} where
  names_taken : (ps : List (RustParameter Ty)) (i : ℕ) → i < length ps → length (names_listed (take i ps)) ≡ i
  names_taken [] i less = absurd (omega (arith, less))
  names_taken (q ∷ ps) zero less = refl
  names_taken (q ∷ ps) (suc i) less = ap suc (names_taken ps i (omega (arith, less)))

  -- the places among so many, and those among one more
  more_places : (ps : List (RustParameter Ty)) (i : ℕ) (p : RustParameter Ty) → i < length ps → p ≡ get_or ps i p
      → (word : List ℕ)
      → index_of word (names_listed (take (i + 1) ps)) ≡ first_of (index_of word (names_listed (take i ps)))
      (if bytes_eq word (parameter_name p) then Some i else None)
  more_places ps i p less is word = ap (index_of word) (more_at parameter_name ps i p less is)
      ∙ index_behind word (names_listed (take i ps)) (parameter_name p)
      ∙ ap (λ k. first_of (index_of word (names_listed (take i ps)))
      (if bytes_eq word (parameter_name p) then Some k else None)) (names_taken ps i less)

  -- where a walk comes to a name that is none of those before
  pub place_here : (ps : List (RustParameter Ty)) (i : ℕ) (p : RustParameter Ty) (word : List ℕ) → i < length ps
      → p ≡ get_or ps i p
      → index_of word (names_listed (take i ps)) ≡ None → bytes_eq word (parameter_name p) ≡ true
      → index_of word (names_listed ps) ≡ Some i
  place_here [] i p word less is none same = absurd (omega (arith, less))
  place_here (q ∷ ps) zero p word less is none same =
      rw (ap (λ (x : RustParameter Ty). bytes_eq word (parameter_name x)) (sym is) ∙ same) refl
  place_here (q ∷ ps) (suc i) p word less is none same = go (bytes_eq word (parameter_name q))
      (index_of word (names_listed (take i ps))) refl none
      (λ e. place_here ps i p word (omega (arith, less)) is e same)
    where
      go : (b : Test) (o : Option ℕ) → index_of word (names_listed (take i ps)) ≡ o
          → (if b then Some 0 else option_map suc (index_of word (names_listed (take i ps)))) ≡ None
          → (index_of word (names_listed (take i ps)) ≡ None → index_of word (names_listed ps) ≡ Some i)
          → (if b then Some 0 else option_map suc (index_of word (names_listed ps))) ≡ Some (suc i)
      go true o e f rest = cc
      go false None e f rest = ap (option_map suc) (rest e)
      go false (Some j) e f rest = let g : Some (suc j) ≡ None = ap (option_map suc) (sym e) ∙ f in cc

  -- it is none of those before at none of their places
  pub place_later : (ps : List (RustParameter Ty)) (i : ℕ) (p : RustParameter Ty) (word : List ℕ) → i < length ps
      → p ≡ get_or ps i p
      → index_of word (names_listed (take i ps)) ≡ None → bytes_eq word (parameter_name p) ≡ false
      → index_of word (names_listed (take (i + 1) ps)) ≡ None
  place_later ps i p word less is none other = more_places ps i p less is word ∙ rw (none, other) refl

  module _ (ps : List (RustParameter Ty)) (i : ℕ) (p : RustParameter Ty) (less : i < length ps)
      (is : p ≡ get_or ps i p) (es : List (String Global × ℕ))
      (inv : (word : List ℕ) → lookup (λ k. bytes_eq word (string_bytes k)) es ≡ index_of word
      (names_listed (take i ps))) where
    -- a new name has the place of its parameter
    pub place_put : (k : String Global) → string_bytes k ≡ parameter_name p
        → is_some (lookup (λ x. bytes_eq (parameter_name p) (string_bytes x)) es) ≡ false → (word : List ℕ)
        → lookup (λ x. bytes_eq word (string_bytes x))
        (insert_entry (λ x y. bytes_eq (string_bytes x) (string_bytes y)) es k i)
        ≡ index_of word (names_listed (take (i + 1) ps))
    place_put k same new word =
        put_new string_bytes es k i word
        (ap (λ (t : List ℕ). lookup (λ x. bytes_eq t (string_bytes x)) es) same ∙ none_at _ new)
        ∙ ap (λ o. first_of o (bound_as (string_bytes k) i word)) (inv word)
        ∙ ap (λ (b : Test). first_of (index_of word (names_listed (take i ps))) (if b then Some i else None))
        (turned (string_bytes k) word ∙ ap (bytes_eq word) same)
        ∙ sym (more_places ps i p less is word)

    -- one that is there keeps its place
    pub place_there : is_some (lookup (λ x. bytes_eq (parameter_name p) (string_bytes x)) es) ≡ true
        → (word : List ℕ)
        → lookup (λ x. bytes_eq word (string_bytes x)) es ≡ index_of word (names_listed (take (i + 1) ps))
    place_there there word =
        inv word
        ∙ sym (go (bytes_eq word (parameter_name p)) refl (index_of word (names_listed (take i ps))) refl)
        ∙ sym (more_places ps i p less is word)
      where
        go : (b : Test) → bytes_eq word (parameter_name p) ≡ b → (o : Option ℕ)
            → index_of word (names_listed (take i ps)) ≡ o → first_of o (if b then Some i else None) ≡ o
        go b e (Some j) f = refl
        go false e None f = refl
        go true e None f = let g = sym there ∙ ap is_some (ap (λ (u : List ℕ). lookup
            (λ x. bytes_eq u (string_bytes x)) es) (sym ((bytes_eq-Decides word (parameter_name p)).0 e))
            ∙ inv word ∙ f)
            in absurd (grind (arith, g))

  -- ---- parameters without default

  needed_by : (ps : List (RustParameter Ty)) (k : ℕ) (p : RustParameter Ty) → slice_get ps k ≡ Some p
      → needed_in ps (suc k) ≡ (if p.has_default then needed_in ps k else suc k)
  needed_by ps k p e = rw e refl

  module _ (ps : List (RustParameter Ty)) (k end : ℕ) (p : RustParameter Ty) (one : end ≡ suc k)
      (less : k < length ps) (is : p ≡ get_or ps k p) where
    needed_step : needed_in ps end ≡ (if p.has_default then needed_in ps k else suc k)
    needed_step = ap (needed_in ps) one
        ∙ needed_by ps k p (slice_get_read ps (length ps) k p refl less is)

    -- after one without default, and after one with default
    pub needed_here : p.has_default ≡ false → needed_in ps end ≡ end
    needed_here e = needed_step ∙ rw e (sym one)

    pub needed_before : p.has_default ≡ true → needed_in ps end ≡ needed_in ps k
    needed_before e = needed_step ∙ rw e refl

  -- one more number is known
  pub needed_pushed : (ps : List (RustParameter Ty)) (ns : List ℕ) (i x : ℕ) → length ns ≡ i + 1
      → ((k : ℕ) → k ≤ i → slice_get ns k ≡ Some (needed_in ps k)) → x ≡ needed_in ps (i + 1)
      → (k : ℕ) → k ≤ i + 1 → slice_get (ns ++ x ∷ []) k ≡ Some (needed_in ps k)
  needed_pushed ps ns i x many each is k within = go (cases k within)
    where
      cases : (j : ℕ) → j ≤ i + 1 → (j ≤ i) ⊎ (j ≡ length ns)
      cases j less = grind (arith, less, many)

      go : (k ≤ i) ⊎ (k ≡ length ns) → slice_get (ns ++ x ∷ []) k ≡ Some (needed_in ps k)
      go (inl less) = get_before ns (x ∷ []) k (omega (arith, less, many)) ∙ each k less
      go (inr last) = ap (slice_get (ns ++ x ∷ [])) last ∙ get_last ns x
          ∙ ap Some (is ∙ ap (needed_in ps) (sym many ∙ sym last))
