-- The notes of a call of `range` as the iterable of a `for`, by its offers and its arguments as the program holds them.
use Rattle.std.proofs.Common.{◌≡◌, List, [], ◌++◌, ap, ◌∙◌}
use Rattle.std.specs.Prelude.{Bool as Test, flat_map}
use Rattle.pc_source.specs.declared.place.Place.{Place}
use Rattle.pc_tree.specs.declared.code.Code.{Code}
use Rattle.pc_tree.specs.Tree.{Expr, Exprs, Keywords}
use Rattle.pc_scope.specs.Expressions.{is_instance_test}
use Rattle.pc_notes.specs.Notes.{Note}
use Rattle.pc_rules.specs.Calls.{GivenArguments, CallOffer, arguments_given, call_label, call_codes, positional_seat}
use Rattle.pc_rules.specs.Calls.{named_seat, range_offers}
use Rattle.pc_rules.specs.Computed.Findings.{own_at, once, codes_at}
use Rattle.pc_rules.specs.Computed.Standing.{Standing, arguments_find, keywords_find}
use Rattle.pc_rules.specs.Computed.Ranges.{range_finds}
use Rattle.pc_expr.proofs.Typed.{two_found}

module _ (k : Standing) (p : Place) (c : Expr) (args : Exprs) (kws : Keywords) (g : GivenArguments)
    (given_is : g ≡ arguments_given args kws) (offers : List CallOffer) (offers_are : offers ≡ range_offers g) where
  offers_there : offers ≡ range_offers (arguments_given args kws)
  offers_there = offers_are ∙ ap range_offers given_is

  pub range_found : (old then_arguments then_keywords last : List Note) (codes : List Code) (is_test : Test) →
      codes ≡ once (call_codes offers) →
      is_test ≡ is_instance_test c args kws →
      then_arguments ≡ old ++ arguments_find k is_test (positional_seat offers) args →
      then_keywords ≡ then_arguments ++ keywords_find k (named_seat offers) [] kws →
      last ≡ then_keywords ++ flat_map (own_at p) codes →
      last ≡ old ++ range_finds k p c args kws
  range_found old a b last codes is_test codes_are test_is ha hb hl =
      let os = range_offers (arguments_given args kws) in
      let first = arguments_find k (is_instance_test c args kws) (positional_seat os) args in
      let second = keywords_find k (named_seat os) [] kws in
      let third = codes_at p (call_label k.context.bases os).codes in
      let one : a ≡ old ++ first = ha ∙ ap (λ t. old ++ arguments_find k t (positional_seat offers) args) test_is
      ∙ ap (λ (xs : List CallOffer). old ++ arguments_find k (is_instance_test c args kws) (positional_seat xs)
      args) offers_there in
      let two : b ≡ a ++ second = hb ∙ ap (λ (xs : List CallOffer). a ++ keywords_find k (named_seat xs) [] kws)
      offers_there in
      let three : last ≡ b ++ third = hl ∙ ap (λ cs. b ++ flat_map (own_at p) cs)
      (codes_are ∙ ap (λ (xs : List CallOffer). once (call_codes xs)) offers_there) in
      two_found old a last first (second ++ third) one (two_found a b last second third two three)
