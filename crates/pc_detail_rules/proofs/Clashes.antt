-- Parts make a union exactly if there is no clash among them.
use Rattle.std.proofs.Common.{◌≡◌, List, [], ◌∷◌, Bool, true, false, refl}
use Rattle.std.specs.Prelude.{◌&&◌, if◌then◌else◌, Option, Some, None, is_none}
use Rattle.std.specs.List.{list_all}
use Rattle.pc_types.specs.Tree.{Tree}
use Rattle.pc_types.specs.Below.{Bases}
use Rattle.pc_annotations.specs.Annotations.{is_member, are_apart, is_union}
use Rattle.pc_detail_texts.specs.Details.{Clash, two, no_member}
use Rattle.pc_detail_rules.specs.Annotations.{clash_with, clash_or, clash_among, ClashesAreExact}

with_step : (apart all : Bool) (o : Option (Clash Tree)) (x : Clash Tree) → all ≡ is_none o
    → (apart && all) ≡ is_none (if apart then o else Some x)
with_step true all o x h = h
with_step false all o x h = refl

-- a part is apart from others exactly if it clashes with none
with_exact : (bases : Bases) (t : Tree) (us : List Tree)
    → list_all (are_apart bases t) us ≡ is_none (clash_with bases t us)
with_exact bases t [] = refl
with_exact bases t (u ∷ us) = with_step (are_apart bases t u) (list_all (are_apart bases t) us)
    (clash_with bases t us) (two t u) (with_exact bases t us)

among_step : (member all rest : Bool) (a b : Option (Clash Tree)) (x : Clash Tree) → all ≡ is_none a
    → rest ≡ is_none b → (member && (all && rest)) ≡ is_none (if member then clash_or a b else Some x)
among_step false all rest a b x h k = refl
among_step true all rest None b x h k = rw h k
among_step true all rest (Some y) b x h k = rw h refl

pub clashes_exact : ClashesAreExact
clashes_exact bases [] = refl
clashes_exact bases (t ∷ ts) = among_step (is_member t) (list_all (are_apart bases t) ts) (is_union bases ts)
    (clash_with bases t ts) (clash_among bases ts) (no_member t) (with_exact bases t ts) (clashes_exact bases ts)
