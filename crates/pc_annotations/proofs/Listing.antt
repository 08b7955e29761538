-- The list of the findings of an annotation has exactly those.
use Rattle.std.proofs.Common.{◌≡◌, ◌↔◌, ◌⊎◌, ◌<◌, List, [], ◌∷◌, ◌++◌, Contains, Option, Some, None, Bool as Test, true}
use Rattle.std.proofs.Common.{false, inl, inr, refl, sym, subst, ⊎_elim, arith}
use Rattle.std.specs.Prelude.{MatchOption, OnOk, Result, Ok, Err, if◌then◌else◌, nat_le}
use Rattle.std.proofs.lemmas.Bool.{leb-true, leb-false}
use Rattle.std.proofs.lemmas.List.Elements.{Contains-append_left, Contains-append_right, Contains-append_cases}
use Rattle.std.proofs.lemmas.List.Elements.{Contains-push, Contains-push_cases}
use Rattle.pc_source.specs.declared.place.Place.{Place}
use Rattle.pc_tree.specs.declared.code.Code.{Code}
use Rattle.pc_tree.specs.declared.code.Code.TheVariants.{E09, E10, E26}
use Rattle.pc_tree.specs.declared.code.Finding.{Finding}
use Rattle.pc_tree.specs.Code.{finding}
use Rattle.pc_tree.specs.Tree.{Ann, Anns, named, none_type, applied, applied_empty, no_anns, more_anns, Module}
use Rattle.pc_tree.specs.Tree as tree
use Rattle.pc_tree.specs.Depth.{place_of_ann}
use Rattle.pc_scope.specs.Resolution.{resolve_in_module}
use Rattle.pc_types.specs.Tree.{Tree}
use Rattle.pc_types.specs.Below.{Bases}
use Rattle.pc_types.specs.Shape.{nodes, node_limit}
use Rattle.pc_annotations.specs.Annotations.{named_type, applied_type, empty_type, union_type, reading, read_anns, PartFinds}
use Rattle.pc_annotations.specs.Annotations.{PartsFind, IsTooLarge, AnnFinds, OptionAnnFinds}
use Rattle.pc_annotations.specs.Listed.{without_type, inside_type, part_findings, parts_findings, ann_findings, option_findings}
use Rattle.pc_annotations.specs.Listed.{AnnFindingsAreListed, OptionalFindingsAreListed}

in_none : {f : Finding} → Contains [] f → ⊥
in_none h = let l : h.0 < 0 = h.1 in absurd (omega arith)

in_one : (g f : Finding) → Contains (g ∷ []) f ↔ (f ≡ g)
in_one g f = (
  λ h. ⊎_elim (λ n. absurd (in_none n)) sym (Contains-push_cases [] g f h),
  λ e. subst (Contains (g ∷ []))
      (sym e) (Contains-push [] g),
)

in_both : (xs ys : List Finding) (f : Finding) {X Y : Type 0} → Contains xs f ↔ X → Contains ys f ↔ Y
    → Contains (xs ++ ys) f ↔ (X ⊎ Y)
in_both xs ys f i j = (
  λ h. ⊎_elim (λ a. inl (i.0 a)) (λ b. inr (j.0 b)) (Contains-append_cases xs ys f h),
  λ s. ⊎_elim (λ x. Contains-append_left xs ys f (i.1 x)) (λ y. Contains-append_right xs ys f (j.1 y)) s,
)

without : (t : Option Tree) (p : Place) (code : Code) (f : Finding) → Contains (without_type t p code) f
    ↔ MatchOption t (f ≡ finding p code) (λ t. ⊥)
without None p code f = in_one (finding p code) f
without (Some t) p code f = (in_none, λ e. absurd e)

inside : (t : Option Tree) (p : Place) (xs : List Finding) (f : Finding) {X : Type 0} → Contains xs f ↔ X
    → Contains (inside_type t p xs) f ↔ MatchOption t (f ≡ finding p E09) (λ t. X)
inside None p xs f i = in_one (finding p E09) f
inside (Some t) p xs f i = i

swapped : {C X Y : Type 0} → C ↔ (X ⊎ Y) → C ↔ (Y ⊎ X)
swapped i = (λ c. ⊎_elim inr inl (i.0 c), λ s. i.1 (⊎_elim inr inl s))

module _ (m : Module) (bases : Bases) (f : Finding) where
  mutual
    in_part : (a : Ann) → Contains (part_findings m bases a) f ↔ PartFinds m bases a f
    in_part (named n) = without (named_type m.imports_any (resolve_in_module m n.text)) n.place E09 f
    in_part (none_type p) = (in_none, λ e. absurd e)
    in_part (applied p head arguments) = inside (applied_type (resolve_in_module m head.text)
        (read_anns m bases arguments)) p (parts_findings m bases arguments) f (in_parts arguments)
    in_part (applied_empty p head) = without (empty_type (resolve_in_module m head.text)) p E09 f
    in_part (tree.union p parts) =
        swapped (in_both (parts_findings m bases parts) (without_type (union_type bases (read_anns m bases parts)) p E10)
        f (in_parts parts) (without (union_type bases (read_anns m bases parts)) p E10 f))

    in_parts : (as' : Anns) → Contains (parts_findings m bases as') f ↔ PartsFind m bases as' f
    in_parts no_anns = (in_none, λ e. absurd e)
    in_parts (more_anns a rest) = in_both (part_findings m bases a) (parts_findings m bases rest) f (in_part a)
        (in_parts rest)

  large : (a : Ann) (b : Test) → nat_le (nodes (reading m bases a)) node_limit ≡ b
      → Contains (if b then [] else finding (place_of_ann a) E26 ∷ []) f ↔ IsTooLarge m bases a f
  large a true e = (
    λ h. absurd (in_none h),
    λ h. let n = h.large in let l = leb-true (nodes (reading m bases a))
        node_limit e in absurd (omega arith),
  )
  large a false e = (
    λ h. record {
      large = leb-false (nodes (reading m bases a)) node_limit e;
      is =
          (in_one (finding (place_of_ann a) E26) f).0 h;
    },
    λ h. (in_one (finding (place_of_ann a) E26) f).1 h.is,
  )

  too_large : (a : Ann) → Contains (if nat_le (nodes (reading m bases a)) node_limit then []
      else finding (place_of_ann a) E26 ∷ []) f ↔ IsTooLarge m bases a f
  too_large a = large a (nat_le (nodes (reading m bases a)) node_limit) refl

  pub listed : (a : Ann) → Contains (ann_findings m bases a) f ↔ AnnFinds m bases a f
  listed a = in_both (part_findings m bases a) (if nat_le (nodes (reading m bases a)) node_limit then []
      else finding (place_of_ann a) E26 ∷ []) f (in_part a) (too_large a)

  pub listed_option : (a : Option Ann) → Contains (option_findings m bases a) f ↔ OptionAnnFinds m bases a f
  listed_option None = (in_none, λ e. absurd e)
  listed_option (Some a) = listed a

pub all_listed : AnnFindingsAreListed
all_listed m bases a f = listed m bases f a

pub all_listed_options : OptionalFindingsAreListed
all_listed_options m bases a f = listed_option m bases f a

-- the findings in a list after those of an annotation were put behind it
pub found_behind : {T E : Type 0} (m : Module) (bases : Bases) (a : Ann) (r : Result T E) (old new : List Finding)
    → OnOk r (new ≡ old ++ ann_findings m bases a) → OnOk r ((f : Finding) → Contains new f
    ↔ (Contains old f ⊎ AnnFinds m bases a f))
found_behind m bases a (Ok x) old new e =
    λ f. subst (λ l. Contains l f ↔ (Contains old f ⊎ AnnFinds m bases a f)) (sym e)
    (in_both old (ann_findings m bases a) f (λ h. h, λ h. h) (listed m bases f a))
found_behind m bases a (Err x) old new e = tt
