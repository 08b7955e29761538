-- The first clash among parts, one part after another.
use Rattle.std.proofs.Common.{◌≡◌, ◌∙◌, List, ◌∷◌, Bool, true, false, Option, Some, None, refl, ap, map}
use Rattle.std.proofs.lemmas.Bool.{true≢false}
use Rattle.std.specs.Prelude.{if◌then◌else◌, is_some}
use Rattle.std.specs.Option.{option_map}
use Rattle.pc_types.specs.Below.{Bases}
use Rattle.pc_types.specs.Boxed.{tree_of}
use Rattle.pc_types.specs.Tree.{Tree}
use Rattle.pc_types.specs.declared.boxed.BoxType.{BoxType}
use Rattle.pc_annotations.specs.Annotations.{is_member}
use Rattle.pc_detail_texts.specs.Details.{Clash, no_member}
use Rattle.pc_detail_texts.specs.Sentences.{Words}
use Rattle.pc_detail_texts.specs.Shown.{clash_of_value}
use Rattle.pc_detail_texts.specs.declared.details.Clash.{Clash as RustClash}
use Rattle.pc_detail_rules.specs.Annotations.{clash_among, clash_or, clash_with}

-- where a part does not clash, the first clash is a later one
pub clash_later : (shown : Clash Tree → Clash Words) (here rest : Option (Clash Tree)) (made : Option RustClash)
    → is_some made ≡ false → option_map clash_of_value made ≡ option_map shown here → clash_or here rest ≡ rest
clash_later shown here rest (Some f) h e = absurd (true≢false h)
clash_later shown None rest None h e = refl
clash_later shown (Some x) rest None h e = let never : ⊥ = cc in absurd never

-- a member may clash with those after it, or they among themselves
pub clash_member : (bases : Bases) (all : List BoxType) (t : BoxType) (rest : List BoxType) → all ≡ t ∷ rest
    → is_member (tree_of t) ≡ true → clash_among bases (map tree_of all)
    ≡ clash_or (clash_with bases (tree_of t) (map tree_of rest)) (clash_among bases (map tree_of rest))
clash_member bases all t rest is member = ap (λ (l : List BoxType). clash_among bases (map tree_of l)) is
    ∙ ap (λ (b : Bool). if b
    then clash_or (clash_with bases (tree_of t) (map tree_of rest)) (clash_among bases (map tree_of rest))
    else Some (no_member (tree_of t))) member
