-- The types of annotations over several parts and the findings in them, once it is known whether there is a type.
use Rattle.std.proofs.Common.{◌≡◌, List, [], ◌++◌, Option, Some, None, take, length, ℕ, refl, sym, ap, ◌∙◌}
use Rattle.std.specs.Prelude.{unwrap_or}
use Rattle.std.proofs.Math.Seq.{take-append_seam}
use Rattle.pc_source.specs.declared.place.Place.{Place}
use Rattle.pc_tree.specs.declared.code.Code.TheVariants.{E10}
use Rattle.pc_tree.specs.declared.code.Code.{Code}
use Rattle.pc_tree.specs.declared.code.Finding.{Finding}
use Rattle.pc_tree.specs.Tree.{Name, Ann, Anns, applied, union, Module}
use Rattle.pc_scope.specs.declared.resolution.NameMeaning.{NameMeaning}
use Rattle.pc_scope.specs.Resolution.{resolve_in_module}
use Rattle.pc_types.specs.Tree.{Tree, Any}
use Rattle.pc_types.specs.Below.{Bases}
use Rattle.pc_types.specs.declared.head.Head.{Head}
use Rattle.pc_annotations.specs.Annotations.{applied_type, union_type, reading, read_anns}
use Rattle.pc_annotations.specs.Listed.{without_type, inside_type, part_findings, parts_findings}
use Rattle.pc_annotations.specs.Internal.TypesRead.{IsRead, IsReadAny}

module _ {Store Ty : Type 0} (has : Store → Ty → Type 0) (tree : Ty → Tree) (store : Store) where
  -- a part that was read has the type that was found for it
  pub read_some : (x : Head × Option Ty) (found : Option Tree) → IsReadAny has tree store (Some x) found
      → IsRead has tree store x.0 x.1 (unwrap_or found Any)
  read_some x None h = absurd h
  read_some x (Some t) h = h

  pub inside_some : (x : Head × Option Ty) (found : Option Tree) (p : Place) (xs : List Finding)
      → IsReadAny has tree store (Some x) found → inside_type found p xs ≡ xs
  inside_some x None p xs h = absurd h
  inside_some x (Some t) p xs h = refl

  pub without_some : (x : Head × Option Ty) (found : Option Tree) (p : Place) (code : Code)
      → IsReadAny has tree store (Some x) found → without_type found p code ≡ []
  without_some x None p code h = absurd h
  without_some x (Some t) p code h = refl

  -- where nothing was read there is no type
  pub none_is : (found : Option Tree) → IsReadAny has tree store None found → found ≡ None
  none_is None h = refl
  none_is (Some t) h = absurd h

module _ (m : Module) (bases : Bases) where
  pub applied_reading : (a : Ann) (p : Place) (n : Name) (anns : Anns) (r : NameMeaning) (f : Option Tree)
      → a ≡ applied p n anns → r ≡ resolve_in_module m n.text → applied_type r (read_anns m bases anns) ≡ f
      → reading m bases a ≡ unwrap_or f Any
  applied_reading a p n anns r f e h k = ap (reading m bases) e
      ∙ ap (λ x. unwrap_or (applied_type x (read_anns m bases anns)) Any) (sym h) ∙ ap (λ x. unwrap_or x Any) k

  pub applied_found : (a : Ann) (p : Place) (n : Name) (anns : Anns) (r : NameMeaning) (f : Option Tree) → a ≡ applied p n anns
      → r ≡ resolve_in_module m n.text → applied_type r (read_anns m bases anns) ≡ f
      → part_findings m bases a ≡ inside_type f p (parts_findings m bases anns)
  applied_found a p n anns r f e h k = ap (part_findings m bases) e
      ∙ ap (λ x. inside_type (applied_type x (read_anns m bases anns)) p (parts_findings m bases anns)) (sym h)
      ∙ ap (λ x. inside_type x p (parts_findings m bases anns)) k

  pub union_reading : (a : Ann) (p : Place) (anns : Anns) (f : Option Tree) → a ≡ union p anns
      → union_type bases (read_anns m bases anns) ≡ f → reading m bases a ≡ unwrap_or f Any
  union_reading a p anns f e k = ap (reading m bases) e ∙ ap (λ x. unwrap_or x Any) k

  pub union_found : (a : Ann) (p : Place) (anns : Anns) (f : Option Tree) → a ≡ union p anns
      → union_type bases (read_anns m bases anns) ≡ f → part_findings m bases a ≡ parts_findings m bases anns
      ++ without_type f p E10
  union_found a p anns f e k = ap (part_findings m bases) e ∙ ap (λ x. parts_findings m bases anns ++ without_type x p
      E10) k

-- cutting a list off at its old length leaves it as it was
pub truncated : (old all behind : List Finding) (n : ℕ) → n ≡ length old → all ≡ old ++ behind → take n all ≡ old
truncated old all behind n e h = (λ i. take (e i) (h i)) ∙ take-append_seam old behind
