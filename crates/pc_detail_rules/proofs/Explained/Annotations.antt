-- Each finding of an annotation has a detail, where details write out its types.
use Rattle.std.proofs.Common.{◌≡◌, ℕ, List, [], ◌∷◌, Bool as Test, true, false, refl, sym, ◌∙◌, subst, Contains}
use Rattle.std.specs.List.{AllByRecursion, list_all}
use Rattle.std.specs.Option.{option_map, option_and_then}
use Rattle.std.specs.Prelude.{◌&&◌, if◌then◌else◌, slice_get, Option, Some, None, is_none, MatchOption}
use Rattle.std.specs.Prelude.{option_to_list}
use Rattle.std.proofs.Common.{inl, inr}
use Rattle.pc_source.specs.declared.place.Place.{Place}
use Rattle.pc_tree.specs.declared.code.Code.{Code}
use Rattle.pc_tree.specs.declared.code.Code.TheVariants.{E09, E10, E26}
use Rattle.pc_tree.specs.declared.code.Finding.{Finding}
use Rattle.pc_tree.specs.Code.{finding}
use Rattle.pc_tree.specs.Depth.{place_of_ann}
use Rattle.pc_tree.specs.Tree.{Name, Ann, Anns, named, none_type, applied, applied_empty, union, no_anns, more_anns, Module}
use Rattle.pc_scope.specs.declared.resolution.Builtin.{Builtin}
use Rattle.pc_scope.specs.declared.resolution.Builtin.TheVariants as builtin
use Rattle.pc_scope.specs.declared.resolution.NameMeaning.{NameMeaning}
use Rattle.pc_scope.specs.declared.resolution.NameMeaning.TheVariants as meaning
use Rattle.pc_scope.specs.Bindings.{constants_in, functions_in}
use Rattle.pc_scope.specs.Resolution.{resolve_in_module}
use Rattle.pc_types.specs.Shape as shape
use Rattle.pc_types.specs.Tree.{Tree}
use Rattle.pc_annotations.specs.Annotations.{named_type, applied_type, empty_type, is_union, in_union_order, read_anns}
use Rattle.pc_annotations.specs.Annotations.{PartFinds, PartsFind, AnnFinds, OptionAnnFinds}
use Rattle.pc_annotations.specs.Bases.{bases_of}
use Rattle.pc_detail_texts.specs.Details as detail
use Rattle.pc_detail_texts.specs.Details.{Clash}
use Rattle.pc_detail_rules.specs.Annotations.{is_shown, shown_all, clash_among, no_class, fault_of_builtin, fault_of_name}
use Rattle.pc_detail_rules.specs.Annotations.{fault_of_applied, fault_of_types, shown_fault}
use Rattle.pc_detail_rules.specs.Facts.{Known}
use Rattle.pc_detail_rules.specs.Laws.{AreShown}
use Rattle.pc_detail_rules.specs.Nodes.{anns_in, anns_in_all}
use Rattle.pc_detail_rules.proofs.Clashes.{clashes_exact}
use Rattle.pc_detail_rules.proofs.Explained.Lists.{IsThere, there_mapped, all_left, all_right}
use Rattle.pc_detail_rules.proofs.Explained.Told.{Asked, IsTold, anns_of_module, ann_rule, ann_told}

-- ---- types that are written out

-- details write out each of these types
abbrev WrittenOut : List Tree → Type 0
WrittenOut ts = AllByRecursion (λ t. is_shown t ≡ true) ts

all_shown : (ts : List Tree) → WrittenOut ts → list_all is_shown ts ≡ true
all_shown [] h = refl
all_shown (t ∷ ts) h = λ i. h.0 i && all_shown ts h.1 i

-- a fault of a name is written out
no_class_shown : (word : List ℕ) (n : Option Name) → IsThere (shown_fault (no_class word n))
no_class_shown word None = refl
no_class_shown word (Some n) = refl

builtin_shown : (word : List ℕ) (b : Builtin) → IsThere (shown_fault (fault_of_builtin word b))
builtin_shown word builtin.List = refl
builtin_shown word builtin.Dict = refl
builtin_shown word builtin.Tuple = refl
builtin_shown word builtin.Any = refl
builtin_shown word _ = refl

name_shown : (m : Module) (word : List ℕ) (r : NameMeaning) → IsThere (shown_fault (fault_of_name m word r))
name_shown m word (meaning.Const i) =
    no_class_shown word (option_map (λ c. c.name) (slice_get (constants_in m.items) i))
name_shown m word (meaning.Func i) = no_class_shown word (option_map (λ f. f.name) (slice_get (functions_in m.items) i))
name_shown m word (meaning.Builtin b) = builtin_shown word b
name_shown m word (meaning.Local x) = refl
name_shown m word (meaning.Class c) = refl
name_shown m word meaning.None = refl

key_shown : (k : Tree) → is_shown k ≡ true → IsThere (shown_fault (detail.key_type k))
key_shown k h = subst (λ (b : Test). IsThere (if b then Some (detail.key_type k) else None)) (sym h) refl

applied_shown : (word : List ℕ) (b : Builtin) (ts : List Tree) → WrittenOut ts
    → IsThere (shown_fault (fault_of_applied word b ts))
applied_shown word builtin.List ts h = refl
applied_shown word builtin.Dict [] h = refl
applied_shown word builtin.Dict (k ∷ []) h = refl
applied_shown word builtin.Dict (k ∷ v ∷ []) h = key_shown k h.0
applied_shown word builtin.Dict (k ∷ v ∷ w ∷ ts) h = refl
applied_shown word _ ts h = refl

types_shown : (m : Module) (word : List ℕ) (r : NameMeaning) (ts : List Tree) → WrittenOut ts
    → IsThere (shown_fault (fault_of_types m word r ts))
types_shown m word (meaning.Builtin b) ts h = applied_shown word b ts h
types_shown m word (meaning.Class c) ts h = refl
types_shown m word (meaning.Const i) ts h = name_shown m word (meaning.Const i)
types_shown m word (meaning.Func i) ts h = name_shown m word (meaning.Func i)
types_shown m word (meaning.Local x) ts h = refl
types_shown m word meaning.None ts h = refl

-- ---- unions

clash_there : (o : Option (Clash Tree)) → false ≡ is_none o → IsThere o
clash_there None e = absurd (cc e)
clash_there (Some x) e = refl

union_there : (m : Module) (ts : List Tree) → WrittenOut ts → is_union (bases_of m) ts ≡ false
    → IsThere (option_and_then (clash_among (bases_of m)) (shown_all ts))
union_there m ts h e = subst (λ (b : Test). IsThere (option_and_then (clash_among (bases_of m)) (if b then Some ts else None)))
    (sym (all_shown ts h)) (clash_there (clash_among (bases_of m) ts) (sym e ∙ clashes_exact (bases_of m) ts))

-- ---- annotations

module _ (m : Module) (known : Known) where
  -- the annotation is one of the module's
  abbrev pub IsAnn : Ann → Type 0
  IsAnn a = Contains (anns_of_module m known) a

  -- the annotation and each of its parts is one of the module's
  abbrev pub IsWholeAnn : Ann → Type 0
  IsWholeAnn a = AllByRecursion IsAnn (anns_in a)

  first_ann : (a : Ann) → IsWholeAnn a → IsAnn a
  first_ann (named n) h = h.0
  first_ann _ h = h.0

  parts_shown : AreShown m → (as' : Anns) → AllByRecursion IsAnn (anns_in_all as')
      → WrittenOut (read_anns m (bases_of m) as')
  parts_shown fit no_anns h = tt
  parts_shown fit (more_anns a rest) h = (
    fit a (first_ann a (all_left IsAnn (anns_in a) (anns_in_all rest) h)),
    parts_shown fit rest (all_right IsAnn (anns_in a) (anns_in_all rest) h),
  )

  module _ (f : Finding) (asked : Asked m f.code) where
    abbrev Goal : Type 0
    Goal = IsTold m known f.place f.code

    code_told : (a : Ann) → IsAnn a → (c : Code) → (Asked m c → IsThere (ann_rule m known c a))
        → f ≡ finding (place_of_ann a) c → Goal
    code_told a here c given same =
        subst (λ (g : Finding). Asked m g.code → IsTold m known g.place g.code) (sym same)
        (λ k. ann_told m known a here c (given k)) asked

    named_told : (n : Name) → IsWholeAnn (named n) → (o : Option Tree)
        → MatchOption o (f ≡ finding n.place E09) (λ t. ⊥) → Goal
    named_told n here None h = code_told (named n) here.0 E09 (λ a. refl) h
    named_told n here (Some t) h = absurd h

    empty_told : (p : Place) (head : Name) → IsWholeAnn (applied_empty p head) → (o : Option Tree)
        → MatchOption o (f ≡ finding p E09) (λ t. ⊥) → Goal
    empty_told p head here None h = code_told (applied_empty p head) here.0 E09
        (λ a. there_mapped detail.annotation (shown_fault (fault_of_types m head.text (resolve_in_module m head.text) []))
        (types_shown m head.text (resolve_in_module m head.text) [] tt)) h
    empty_told p head here (Some t) h = absurd h

    applied_told : (p : Place) (head : Name) (arguments : Anns) → IsWholeAnn (applied p head arguments) → (o : Option Tree)
        → (PartsFind m (bases_of m) arguments f → Goal)
        → MatchOption o (f ≡ finding p E09) (λ t. PartsFind m (bases_of m) arguments f) → Goal
    applied_told p head arguments here None parts h =
        let ts = read_anns m (bases_of m) arguments in
        code_told (applied p head arguments) here.0 E09
        (λ a. there_mapped detail.annotation (shown_fault (fault_of_types m head.text (resolve_in_module m head.text) ts))
        (types_shown m head.text (resolve_in_module m head.text) ts (parts_shown a.fit arguments here.1))) h
    applied_told p head arguments here (Some t) parts h = parts h

    union_told : (p : Place) (parts : Anns) → IsWholeAnn (union p parts) → (b : Test)
        → is_union (bases_of m) (read_anns m (bases_of m) parts) ≡ b
        → MatchOption (if b then Some (shape.union (in_union_order (read_anns m (bases_of m) parts))) else None)
        (f ≡ finding p E10) (λ t. ⊥) → Goal
    union_told p parts here true e h = absurd h
    union_told p parts here false e h =
        let ts = read_anns m (bases_of m) parts in
        code_told (union p parts) here.0 E10 (λ a. there_mapped detail.union
        (option_and_then (clash_among (bases_of m)) (shown_all ts))
        (union_there m ts (parts_shown a.fit parts here.1) e)) h

    mutual
      part_told : (a : Ann) → IsWholeAnn a → PartFinds m (bases_of m) a f → Goal
      part_told (named n) here h = named_told n here (named_type m.imports_any (resolve_in_module m n.text)) h
      part_told (none_type p) here h = absurd h
      part_told (applied p head arguments) here h =
          applied_told p head arguments here
          (applied_type (resolve_in_module m head.text) (read_anns m (bases_of m) arguments))
          (λ k. parts_told arguments here.1 k) h
      part_told (applied_empty p head) here h =
          empty_told p head here (empty_type (resolve_in_module m head.text)) h
      part_told (union p parts) here h = elim h [
        | inl a ↦ union_told p parts here (is_union (bases_of m) (read_anns m (bases_of m) parts)) refl a
        | inr b ↦ parts_told parts here.1 b
      ]

      parts_told : (parts : Anns) → AllByRecursion IsAnn (anns_in_all parts) → PartsFind m (bases_of m) parts f → Goal
      parts_told no_anns here h = absurd h
      parts_told (more_anns a rest) here h = elim h [
        | inl x ↦ part_told a (all_left IsAnn (anns_in a) (anns_in_all rest) here) x
        | inr y ↦ parts_told rest (all_right IsAnn (anns_in a) (anns_in_all rest) here) y
      ]

    pub annotation_told : (a : Ann) → IsWholeAnn a → AnnFinds m (bases_of m) a f → Goal
    annotation_told a here h = elim h [
      | inl x ↦ part_told a here x
      | inr y ↦ code_told a (first_ann a here) E26 (λ k. refl) y.is
    ]

    pub option_told : (o : Option Ann) → AllByRecursion IsWholeAnn (option_to_list o) → OptionAnnFinds m (bases_of m) o f
        → Goal
    option_told None here h = absurd h
    option_told (Some a) here h = annotation_told a here.0 h
