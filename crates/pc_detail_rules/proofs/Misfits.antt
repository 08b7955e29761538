-- A call suits a signature exactly if there is no misfit.
use Rattle.std.proofs.Common.{◌≡◌, ℕ, List, [], ◌∷◌, ◌++◌, length, take, drop, Bool, true, false, refl, ◌∙◌}
use Rattle.std.specs.Prelude.{not, ◌&&◌, ◌||◌, if◌then◌else◌, Option, Some, None, is_some, nat_le}
use Rattle.std.specs.List.{list_all}
use Rattle.pc_tree.specs.Stopping.{has_none}
use Rattle.pc_scope.specs.Resolution.{is_one_of}
use Rattle.pc_class.specs.Facts.{TypedParameter}
use Rattle.pc_rules.specs.Context.{Signature}
use Rattle.pc_rules.specs.Calls.{GivenArguments, index_of_parameter, is_free, are_filled, is_suited, parameter_names}
use Rattle.pc_detail_texts.specs.Details.{Misfit, no_parameter, given_twice, too_many, by_position_only}
use Rattle.pc_detail_rules.specs.Calls.{named_misfit, unfilled, missing_misfit, misfit_or, misfit}

-- ---- arguments by name

named_step : (free known all : Bool) (o : Option Misfit) (a b : Misfit) → all ≡ not (is_some o)
    → (free && all) ≡ not (is_some (if free then o else (if known then Some a else Some b)))
named_step true known all o a b h = h
named_step false true all o a b h = refl
named_step false false all o a b h = refl

-- each argument by name is for a free parameter exactly if there is no misfit of names
named_exact : (n : ℕ) (ps : List TypedParameter) (words : List (List ℕ))
    → list_all (λ word. is_free n (index_of_parameter ps word)) words ≡ not (is_some (named_misfit n ps words))
named_exact n ps [] = refl
named_exact n ps (word ∷ rest) = named_step (is_free n (index_of_parameter ps word)) (is_some (index_of_parameter ps word))
    (list_all (λ word. is_free n (index_of_parameter ps word)) rest) (named_misfit n ps rest) (given_twice word)
    (no_parameter word) (named_exact n ps rest)

-- ---- parameters without an argument

filled_step : (t all : Bool) (missing : List (List ℕ)) (name : List ℕ) → all ≡ has_none missing
    → (t && all) ≡ has_none ((if t then [] else name ∷ []) ++ missing)
filled_step true all missing name h = h
filled_step false all missing name h = refl

-- each further parameter is filled exactly if none is missing
filled_exact : (named before : List (List ℕ)) (ps : List TypedParameter)
    → are_filled named before ps ≡ has_none (unfilled named before ps)
filled_exact named before [] = refl
filled_exact named before (p ∷ ps) =
    filled_step (p.has_default || (is_one_of p.name named && not (is_one_of p.name before)))
    (are_filled named (p.name ∷ before) ps) (unfilled named (p.name ∷ before) ps) p.name
    (filled_exact named (p.name ∷ before) ps)

missing_exact : (takes_names : Bool) (takes given : ℕ) (names : List (List ℕ))
    → has_none names ≡ not (is_some (missing_misfit takes_names takes given names))
missing_exact true takes given [] = refl
missing_exact false takes given [] = refl
missing_exact true takes given (n ∷ ns) = refl
missing_exact false takes given (n ∷ ns) = refl

-- ---- all three

suited_step : (count names all filled : Bool) (a b : Option Misfit) (x y : Misfit) → all ≡ not (is_some a)
    → filled ≡ not (is_some b)
    → (count && (names && (all && filled)))
    ≡ not (is_some (if not count then Some x else (if not names then Some y else misfit_or a b)))
suited_step false names all filled a b x y h k = refl
suited_step true false all filled a b x y h k = refl
suited_step true true all filled None b x y h k = rw h k
suited_step true true all filled (Some z) b x y h k = rw h refl

pub misfits_exact : (g : GivenArguments) (s : Signature) → is_suited g s ≡ not (is_some (misfit g s))
misfits_exact g s =
    let count = length s.parameters in
    let before = parameter_names (take g.positional s.parameters) in
    let further = drop g.positional s.parameters in
    suited_step (nat_le g.positional count) (s.takes_names || has_none g.named)
    (list_all (λ word. is_free g.positional (index_of_parameter s.parameters word)) g.named)
    (are_filled g.named before further) (named_misfit g.positional s.parameters g.named)
    (missing_misfit s.takes_names count g.positional (unfilled g.named before further))
    (too_many count g.positional) by_position_only (named_exact g.positional s.parameters g.named)
    (filled_exact g.named before further
    ∙ missing_exact s.takes_names count g.positional (unfilled g.named before further))
