-- The label of a call and the notes in it, by its callee and its arguments as the program holds them.
use Rattle.std.proofs.Common.{◌≡◌, ◌<◌, length, arith, refl, List, [], ◌∷◌, ◌++◌, sym, ap, ◌∙◌, Option, None}
use Rattle.std.specs.Prelude.{Bool as Test, true, false, ◌&&◌, codes}
use Rattle.pc_source.specs.declared.place.Place.{Place}
use Rattle.pc_tree.specs.declared.code.Code.{Code}
use Rattle.pc_tree.specs.Tree.{Expr, Exprs, Keywords, no_keywords, more_keywords, call}
use Rattle.pc_tree.specs.declared.tree.Expr.{Expr as RustExpr}
use Rattle.pc_tree.specs.Depth.{place_of}
use Rattle.pc_tree.specs.Lists.{exprs_of_list}
use Rattle.pc_scope.specs.Expressions.{is_named, are_two, is_instance_test}
use Rattle.pc_types.specs.Tree.{Tree}
use Rattle.pc_notes.specs.Notes.{Note}
use Rattle.pc_rules.specs.Calls.{GivenArguments, CallOffer, CallRule, member_rule, length_rule, test_rule}
use Rattle.pc_rules.specs.Calls.{arguments_given, positional_seat, named_seat}
use Rattle.pc_rules.specs.Labels.{ItemsLabels, second_place}
use Rattle.pc_rules.specs.Lawful.{whole_call_label, whole_second_code, early_second}
use Rattle.pc_rules.specs.Context.{Context}
use Rattle.pc_rules.specs.Computed.Findings.{label_at, shows, notes_of_code}
use Rattle.pc_rules.specs.Computed.Standing.{Standing, items_in, label_in, parts_find, types_in, arguments_find}
use Rattle.pc_rules.specs.Computed.Standing.{keywords_find}
use Rattle.pc_calls.specs.JudgedCalls.{second_code_of}
use Rattle.pc_expr.specs.Typing.{callee_in, callee_finds, second_is_early}
use Rattle.pc_expr.proofs.Forms.{callee_whole, type_whole_call}
use Rattle.pc_expr.proofs.Typed.{two_found}

-- the code at the second argument, by whether that one stands too early
second_by : (ctx : Context) (rule : CallRule) (es : Exprs) (m : ItemsLabels es) → whole_second_code ctx rule es m
    ≡ second_code_of ctx.resolve rule es (early_second es m)
second_by ctx member_rule es m = refl
second_by ctx length_rule es m = refl
second_by ctx test_rule es m = refl

-- where there are fewer than two arguments, the place of the second is that of the call
pub second_none : (es : List RustExpr) (p : Place) → length es < 2 → second_place (exprs_of_list es) p ≡ p
second_none [] p h = refl
second_none (x ∷ []) p h = refl
second_none (x ∷ y ∷ es) p h = absurd (omega (arith, h))

-- a test of an instance has two arguments by position
pub two_tested : (c : Expr) (es : List RustExpr) (kws : Keywords) → is_instance_test c (exprs_of_list es) kws ≡ true
    → length es ≡ 2
two_tested c es kws h = pair es kws (is_named (codes "isinstance") c) h
  where
    pair : (es : List RustExpr) (kws : Keywords) (b : Test) → (b && are_two (exprs_of_list es) kws) ≡ true
        → length es ≡ 2
    pair es kws false h = absurd (cc h)
    pair (x ∷ y ∷ []) no_keywords true h = refl
    pair [] kws true h = absurd (cc h)
    pair (x ∷ []) kws true h = absurd (cc h)
    pair (x ∷ y ∷ z ∷ zs) kws true h = absurd (cc h)
    pair (x ∷ y ∷ []) (more_keywords n e rest) true h = absurd (cc h)

module _ (k : Standing) (want : Option Tree) where
  pub parts_call : (p : Place) (c : Expr) (args : Exprs) (kws : Keywords) → parts_find k want (call p c args kws) ≡
      callee_finds k (arguments_given args kws) c
      ++ (arguments_find k (is_instance_test c args kws) (positional_seat
      (callee_in k (arguments_given args kws) c).offers) args
      ++ (keywords_find k (named_seat (callee_in k (arguments_given args kws) c).offers) [] kws
      ++ notes_of_code (second_place args p) (second_code_of k.context.resolve
      (callee_in k (arguments_given args kws) c).rule args (second_is_early k
      (positional_seat (callee_in k (arguments_given args kws) c).offers) args))))
  unfolding parts_find callee_finds callee_in arguments_find keywords_find second_is_early
  parts_call p c args kws =
      let callee = callee_in k (arguments_given args kws) c in
      ap (λ code. callee_finds k (arguments_given args kws) c
      ++ (arguments_find k (is_instance_test c args kws) (positional_seat callee.offers) args
      ++ (keywords_find k (named_seat callee.offers) [] kws ++ notes_of_code (second_place args p) code)))
      (second_by k.context callee.rule args (items_in k (positional_seat callee.offers) args))

module _ (k : Standing) (want : Option Tree) (p : Place) (c : Expr) (args : Exprs) (kws : Keywords) (g : GivenArguments)
    (given_is : g ≡ arguments_given args kws) (rule : CallRule) (offers : List CallOffer)
    (rule_is : rule ≡ (callee_in k g c).rule) (offers_are : offers ≡ (callee_in k g c).offers) where
  rule_there : rule ≡ (callee_in k (arguments_given args kws) c).rule
  rule_there = rule_is ∙ ap (λ (x : GivenArguments). (callee_in k x c).rule) given_is

  offers_there : offers ≡ (callee_in k (arguments_given args kws) c).offers
  offers_there = offers_are ∙ ap (λ (x : GivenArguments). (callee_in k x c).offers) given_is

  pub call_label_is : (types : List Tree) → types ≡ types_in k (positional_seat offers) args
      → whole_call_label k.context k.env rule offers args types ≡ label_in k want (call p c args kws)
  call_label_is types t =
      ap (λ ts. whole_call_label k.context k.env rule offers args ts) t
      ∙ ap (λ (r : CallRule). whole_call_label k.context k.env r offers args (types_in k (positional_seat offers) args))
      rule_there
      ∙ ap (λ (os : List CallOffer). whole_call_label k.context k.env (callee_in k (arguments_given args kws) c).rule os
      args (types_in k (positional_seat os) args)) offers_there
      ∙ sym (type_whole_call k want p c args kws)

  pub call_parts_found : (old callee_new callee_last then_arguments then_keywords last : List Note) (noted : List Note)
      (is_test early : Test) →
      noted ≡ label_at k.keeps (shows c) (place_of c) (callee_in k g c).label →
      is_test ≡ is_instance_test c args kws →
      early ≡ second_is_early k (positional_seat offers) args →
      callee_new ≡ old ++ parts_find k None c →
      callee_last ≡ callee_new ++ noted →
      then_arguments ≡ callee_last ++ arguments_find k is_test (positional_seat offers) args →
      then_keywords ≡ then_arguments ++ keywords_find k (named_seat offers) [] kws →
      last ≡ then_keywords ++ notes_of_code (second_place args p) (second_code_of k.context.resolve rule args early) →
      last ≡ old ++ parts_find k want (call p c args kws)
  call_parts_found old a b d e last noted is_test early noted_is test_is early_is ha hb hd he hl =
      let callee = callee_in k (arguments_given args kws) c in
      let first = parts_find k None c ++ label_at k.keeps (shows c) (place_of c) (callee_in k g c).label in
      let second = arguments_find k (is_instance_test c args kws) (positional_seat callee.offers) args in
      let third = keywords_find k (named_seat callee.offers) [] kws in
      let fourth = notes_of_code (second_place args p) (second_code_of k.context.resolve callee.rule args
      (second_is_early k (positional_seat callee.offers) args)) in
      let one : b ≡ old ++ first = two_found old a b (parts_find k None c)
      (label_at k.keeps (shows c) (place_of c) (callee_in k g c).label) ha
      (hb ∙ ap (λ ns. a ++ ns) noted_is) in
      let two : d ≡ b ++ second = hd ∙ ap (λ t. b ++ arguments_find k t (positional_seat offers) args) test_is
      ∙ ap (λ (os : List CallOffer). b ++ arguments_find k (is_instance_test c args kws) (positional_seat os) args)
      offers_there in
      let three : e ≡ d ++ third = he ∙ ap (λ (os : List CallOffer). d ++ keywords_find k (named_seat os) [] kws)
      offers_there in
      let four : last ≡ e ++ fourth =
      hl
      ∙ ap (λ t. e ++ notes_of_code (second_place args p) (second_code_of k.context.resolve rule args t)) early_is
      ∙ ap (λ (r : CallRule). e ++ notes_of_code (second_place args p)
      (second_code_of k.context.resolve r args (second_is_early k (positional_seat offers) args))) rule_there
      ∙ ap (λ (os : List CallOffer). e ++ notes_of_code (second_place args p)
      (second_code_of k.context.resolve callee.rule args (second_is_early k (positional_seat os) args))) offers_there in
      two_found old b last first (second ++ (third ++ fourth)) one
      (two_found b d last second (third ++ fourth) two (two_found d e last third fourth three four))
      ∙ ap (λ fs. old ++ (fs ++ (second ++ (third ++ fourth)))) (sym (callee_whole k g c)
      ∙ ap (λ (x : GivenArguments). callee_finds k x c) given_is)
      ∙ ap (λ fs. old ++ fs) (sym (parts_call k want p c args kws))
