-- The first misfit of what a call calls, one after another.
use Rattle.std.proofs.Common.{◌≡◌, ◌<◌, ◌≤◌, ◌+◌, ◌++◌, ℕ, List, true, false, Option, Some, None, refl, ap}
use Rattle.std.proofs.Common.{drop, length, get_or, map}
use Rattle.std.proofs.lemmas.Bool.{false≢true, true≢false}
use Rattle.std.proofs.lemmas.List.{drop_all}
use Rattle.std.specs.Prelude.{is_some, option_to_list}
use Rattle.std.specs.Option.{option_map}
use Rattle.pc_types.specs.Tree.{Tree}
use Rattle.pc_rules.specs.Calls.{GivenArguments}
use Rattle.pc_detail_texts.specs.Details.{Detail}
use Rattle.pc_detail_texts.specs.Sentences.{Words}
use Rattle.pc_detail_texts.specs.Shown.{detail_of_value}
use Rattle.pc_detail_texts.specs.declared.details.Detail.{Detail as RustDetail}
use Rattle.pc_detail_facts.specs.declared.called.CallTarget.{CallTarget}
use Rattle.pc_detail_facts.specs.declared.facts.Facts.{Facts}
use Rattle.pc_detail_facts.specs.Callees.{called_of}
use Rattle.pc_detail_rules.specs.Calls.{first_detail, misfit_with, misfits_of}
use Rattle.pc_detail_facts.proofs.Held.{drop_next}

module _ (shown : Detail Tree → Detail Words) (here : Option (Detail Tree)) (rest : List (Detail Tree)) where
  -- a detail that is found here is the first
  pub detail_here : (made : Option RustDetail) → is_some made ≡ true
      → option_map detail_of_value made ≡ option_map shown here
      → option_map detail_of_value made ≡ option_map shown (first_detail (option_to_list here ++ rest))
  detail_here None h e = absurd (false≢true h)
  detail_here (Some d) h e = go here e
    where
      go : (o : Option (Detail Tree)) → Some (detail_of_value d) ≡ option_map shown o
          → Some (detail_of_value d) ≡ option_map shown (first_detail (option_to_list o ++ rest))
      go None e = let never : ⊥ = cc in absurd never
      go (Some x) e = e

  -- where none is found here, the first is a later one
  pub no_detail_here : (made : Option RustDetail) → is_some made ≡ false
      → option_map detail_of_value made ≡ option_map shown here
      → first_detail (option_to_list here ++ rest) ≡ first_detail rest
  no_detail_here (Some d) h e = absurd (true≢false h)
  no_detail_here None h e = go here e
    where
      go : (o : Option (Detail Tree)) → None ≡ option_map shown o
          → first_detail (option_to_list o ++ rest) ≡ first_detail rest
      go None e = refl
      go (Some x) e = let never : ⊥ = cc in absurd never

module _ (f : Facts) (g : GivenArguments) (cs : List CallTarget) (i : ℕ) where
  -- the misfits from this one on
  pub misfits_next : (x : CallTarget) → i < length cs → x ≡ get_or cs i x
      → first_detail (misfits_of g (map (called_of f) (drop i cs)))
      ≡ first_detail (misfit_with g (called_of f x) ++ misfits_of g (map (called_of f) (drop (i + 1) cs)))
  misfits_next x h e = ap (λ (l : List CallTarget). first_detail (misfits_of g (map (called_of f) l)))
      (drop_next cs i x h e)

  -- nothing is left
  pub misfits_ended : length cs ≤ i → first_detail (misfits_of g (map (called_of f) (drop i cs))) ≡ None
  misfits_ended h = ap (λ (l : List CallTarget). first_detail (misfits_of g (map (called_of f) l))) (drop_all i cs h)
