-- A sink of an argument, as it is shown.
use Rattle.std.proofs.Common.{◌≡◌, ◌∙◌, ℕ, List, Bool as Test, true, false, ap, ap₂, sym}
use Rattle.pc_types.specs.Tree.{Tree}
use Rattle.pc_detail_texts.specs.Details as detail
use Rattle.pc_detail_texts.specs.Details.{Callable}
use Rattle.pc_detail_texts.specs.Mapped.{map_callable, map_sink}
use Rattle.pc_detail_texts.specs.Sentences.{Words}
use Rattle.pc_detail_texts.specs.Shortened.{shortened}
use Rattle.pc_flow_details.specs.Goes.{named_sink}

module _ (text : Tree → Words) (takes_names : Test) (word : List ℕ) (what : Callable Tree) (made : Callable Words)
    (shown : made ≡ map_callable text what) where
  -- what takes arguments by position only has no names for them
  pub argument_shown : takes_names ≡ false → detail.an_argument made ≡ map_sink text (named_sink takes_names word what)
  argument_shown h = ap (λ (c : Callable Words). detail.an_argument c) shown
      ∙ sym (ap (λ (b : Test). map_sink text (named_sink b word what)) h)

  -- a parameter has a name
  pub parameter_shown : (name : List ℕ) → takes_names ≡ true → name ≡ shortened word
      → detail.a_parameter name made ≡ map_sink text (named_sink takes_names word what)
  parameter_shown name h e = ap₂ (λ (n : Words) (c : Callable Words). detail.a_parameter n c) e shown
      ∙ sym (ap (λ (b : Test). map_sink text (named_sink b word what)) h)
