-- The details that a walk over a module holds, and those that are left when one is taken out.
use Rattle.std.proofs.Common.{◌≡◌, ◌∙◌, ◌++◌, ◌∷◌, [], List, Bool, true, false, cond, Option, Some, None, refl, sym, ap, subst, map}
use Rattle.std.proofs.lemmas.Bool.{true≢false}
use Rattle.std.proofs.lemmas.Cmp.{tied_itself}
use Rattle.std.proofs.lemmas.List.Folds.{list_any_at}
use Rattle.std.specs.Prelude.{Contains, IfSome, flat_map, if◌then◌else◌, is_some}
use Rattle.std.specs.BTreeMap.{BTreeMap, get}
use Rattle.std.specs.List.{list_any}
use Rattle.std.specs.Option.{option_and_then, option_map}
use Rattle.std.specs.Ordering.{is_eq}
use Rattle.pc_source.specs.declared.place.Place.{Place}
use Rattle.pc_tree.specs.contracts.code.FindingOrd.TheImpl.Laws.{total-law}
use Rattle.pc_tree.specs.declared.code.Code.{Code}
use Rattle.pc_tree.specs.declared.code.Code.TheVariants.{A1, E01, E12, E28}
use Rattle.pc_tree.specs.declared.code.Finding.{Finding}
use Rattle.pc_tree.specs.Code.{finding}
use Rattle.pc_tree.specs.Tree.{Module, Target}
use Rattle.pc_scope.specs.Bindings.{Body, bodies}
use Rattle.pc_types.specs.Tree.{Tree}
use Rattle.pc_notes.specs.Notes.{or_else}
use Rattle.pc_notes.specs.Texts.{place_cmp}
use Rattle.pc_detail_texts.specs.Details.{Detail}
use Rattle.pc_detail_texts.specs.Mapped.{map_detail}
use Rattle.pc_detail_texts.specs.Sentences.{Words}
use Rattle.pc_detail_texts.specs.Shown.{detail_of_value}
use Rattle.pc_detail_texts.specs.declared.details.Detail.{Detail as RustDetail}
use Rattle.pc_detail_texts.specs.declared.details.Flow.{Flow}
use Rattle.pc_detail_facts.specs.declared.facts.Facts.{Facts}
use Rattle.pc_detail_nodes.specs.declared.nodes.Nodes.{Nodes}
use Rattle.pc_name_details.specs.declared.offers.Offers.{Offers}
use Rattle.pc_details.specs.declared.walked.WalkedModule.{WalkedModule}
use Rattle.pc_details.specs.ByCode.{ann_rule, by_code, by_nodes, function_rule, values_rule}
use Rattle.pc_detail_rules.specs.Explains.{detail_for, is_callee_at}
use Rattle.pc_detail_rules.specs.Facts.{Known}
use Rattle.pc_detail_facts.specs.Held.{ShowsDetail, body_of, known_held, module_held, owned_of, text_held}
use Rattle.pc_flow_details.specs.Kept.{flow_kept, flow_of_value}
use Rattle.pc_details.specs.Made.{AreOf, AreThese, HoldsWalk, IsOf, facts_walked, flow_told}
use Rattle.pc_detail_rules.specs.Names.{Together, arguments_together, first_of_all, twice_among}
use Rattle.pc_name_details.specs.Naming.{given_rule, names_rule, statements_rule, walk_rule, walked_detail}
use Rattle.pc_detail_rules.specs.Nodes.{OwnedExpr, anns_at, body_named_at, exprs_at, exprs_of_module, targets_at}
use Rattle.pc_detail_nodes.specs.NodesHeld.{HoldsNodes, ann_lent, anns_held, exprs_held, target_lent, targets_held}
use Rattle.pc_name_details.specs.Offered.{AddsDetails, finding_cmp, is_same_finding, is_wanted, kept_of, of_code}
use Rattle.pc_detail_rules.specs.Overrides.{detail_or}
use Rattle.pc_details.proofs.ByCode.{by_code_is}
use Rattle.pc_name_details.proofs.FindingsKept.{finding_same}
use Rattle.pc_name_details.proofs.NamingSteps.{all_append}
use Rattle.pc_name_details.proofs.Offered.{added_as, added_both, none_added}
use Rattle.pc_details.proofs.OverrideChain.{later_found}
use Rattle.pc_details.proofs.WalkRules.{walks_are_exact}

-- ---- one detail or another

module _ (f : Facts) (a b : Option (Detail Tree)) where
  -- a second detail is the detail where there is no first
  pub shown_then : (made other : Option RustDetail) → is_some made ≡ false → ShowsDetail f a made → ShowsDetail f b other
      → ShowsDetail f (detail_or a b) other
  shown_then made other s h k = subst (λ (x : Option (Detail Tree)). ShowsDetail f x other)
      (sym (later_found f a b made s h)) k

  -- likewise of a detail that may have been taken before
  pub taken_then : (made other : Option RustDetail) → is_some made ≡ false → ShowsDetail f a made → IsOf f b other
      → IsOf f (detail_or a b) other
  taken_then made other s h k = subst (λ (x : Option (Detail Tree)). IsOf f x other) (sym (later_found f a b made s h)) k

-- ---- the nodes at the place of a finding

module _ (m : Module) (known : Known) (findings : List Finding) (n : Nodes) (h : HoldsNodes m findings n) (x : Finding)
    (listed : Contains findings x) where
  -- the annotations there, by the rule of the code
  pub anns_held_there : first_of_all (ann_rule m x.code) (map ann_lent (anns_held n x.place))
      ≡ first_of_all (ann_rule m x.code) (anns_at m x.place)
  anns_held_there = ap (first_of_all (ann_rule m x.code)) (h.anns x listed)

  -- the function named there
  pub function_held_there : option_and_then (function_rule m x.code) (option_map body_of (get place_cmp n.functions x.place))
      ≡ option_and_then (function_rule m x.code) (body_named_at m x.place)
  function_held_there = ap (option_and_then (function_rule m x.code)) (h.functions x.place)

  -- the targets and the expressions there
  pub values_held_there : values_rule m known (is_some (get place_cmp n.callees x.place)) x.code
      (map target_lent (targets_held n x.place)) (map owned_of (exprs_held n x.place))
      ≡ values_rule m known (is_callee_at m x.place) x.code (targets_at m x.place) (exprs_at m x.place)
  values_held_there = ap (λ (b : Bool). values_rule m known b x.code
      (map target_lent (targets_held n x.place)) (map owned_of (exprs_held n x.place))) (h.callees x.place)
      ∙ ap (λ (ts : List Target). values_rule m known (is_callee_at m x.place) x.code ts
      (map owned_of (exprs_held n x.place))) (h.targets x listed)
      ∙ ap (λ (es : List OwnedExpr). values_rule m known (is_callee_at m x.place) x.code (targets_at m x.place) es)
      (h.exprs x listed)

-- words that are of a detail are so if there are any
pub are_of : (f : Facts) (want : Option (Detail Tree)) (made : Option (Detail Words))
    → made ≡ option_map (map_detail (text_held f)) want → AreOf f want made
are_of f want None e = tt
are_of f want (Some d) e = e

-- words that are these are so if there are any
pub are_these : (want made : Option (Detail Words)) → made ≡ want → AreThese want made
are_these want None e = tt
are_these want (Some d) e = e

-- ---- the arguments of calls

one_or_none : (d : Option (Detail Tree)) → d ≡ detail_or d None
one_or_none None = refl
one_or_none (Some d) = refl

module _ (facts : Facts) where
  -- the arguments of one call
  pub one_given : (t : Together) (o n : Offers) → AddsDetails facts (of_code E01 (λ p. twice_among p t)) o n
      → AddsDetails facts (given_rule (t ∷ [])) o n
  one_given t o n h = added_as facts (of_code E01 (λ p. twice_among p t)) (given_rule (t ∷ [])) o n
      (λ f. one_or_none (of_code E01 (λ p. twice_among p t) f)) h

  -- no arguments
  pub none_given : (ts : List Together) (o : Offers) → ts ≡ [] → AddsDetails facts (given_rule ts) o o
  none_given ts o e = none_added facts (given_rule ts) o (λ f. ap (λ (l : List Together). given_rule l f) e)

  -- the arguments of more calls
  pub given_more : (ts us all : List Together) (a b c : Offers) → all ≡ ts ++ us → AddsDetails facts (given_rule ts) a b
      → AddsDetails facts (given_rule us) b c → AddsDetails facts (given_rule all) a c
  given_more ts us all a b c e h g = added_as facts (λ f. detail_or (given_rule ts f) (given_rule us f)) (given_rule all)
      a c (λ f. sym (ap (λ (l : List Together). given_rule l f) e
      ∙ all_append (λ (t : Together). of_code E01 (λ p. twice_among p t) f) ts us))
      (added_both facts (given_rule ts) (given_rule us) a b c h g)

-- ---- the details that are offered

-- a finding is the same as itself
pub own_finding : (f : Finding) → is_same_finding f f ≡ true
own_finding f = ap is_eq (tied_itself total-law f)

-- a finding of a list is among it
among : (findings : List Finding) (f : Finding) → Contains findings f → list_any (is_same_finding f) findings ≡ true
among findings f w = list_any_at (is_same_finding f) findings w.0 f w.1
    (ap (is_same_finding f) w.2 ∙ own_finding f)

none_before : (k x : Option (Detail Words)) (b : Bool) → k ≡ None → b ≡ true → or_else k (if b then x else None) ≡ x
none_before None x true e h = refl
none_before None x false e h = absurd (cc h)
none_before (Some k) x b e h = absurd (cc e)

-- what is offered of a finding is the detail of the walk
pub offered : (facts : Facts) (findings : List Finding) (bs : List Body) (ts : List Together) (o p q r : Offers)
    → bs ≡ bodies (module_held facts)
    → ts ≡ flat_map arguments_together (exprs_of_module (module_held facts))
    → ((f : Finding) → is_wanted o f ≡ list_any (is_same_finding f) findings) → ((f : Finding) → kept_of o f ≡ None)
    → AddsDetails facts (names_rule (module_held facts)) o p → AddsDetails facts (statements_rule bs) p q
    → AddsDetails facts (given_rule ts) q r → (f : Finding) → Contains findings f
    → kept_of r f ≡ option_map (map_detail (text_held facts)) (walked_detail (module_held facts) f.place f.code)
offered facts findings bs ts o p q r same all wanted kept a b c f w =
    let m = module_held facts in
    let whole = added_both facts (names_rule m) (λ g. detail_or (statements_rule bs g) (given_rule ts g)) o p r a
    (added_both facts (statements_rule bs) (given_rule ts) p q r b c) in
    let rule : Option (Detail Tree) = detail_or (names_rule m f) (detail_or (statements_rule bs f) (given_rule ts f)) in
    whole.kept f
    ∙ none_before (kept_of o f) (option_map (map_detail (text_held facts)) rule) (is_wanted o f) (kept f)
    (wanted f ∙ among findings f w)
    ∙ ap (λ (l : List Body). option_map (map_detail (text_held facts))
    (detail_or (names_rule m f) (detail_or (statements_rule l f) (given_rule ts f)))) same
    ∙ ap (λ (l : List Together). option_map (map_detail (text_held facts)) (walk_rule m l f)) all
    ∙ ap (option_map (map_detail (text_held facts))) (walks_are_exact m f.place f.code)

-- ---- details that are taken out

module _ (w : WalkedModule) where
  -- the walk with other wrong flows
  abbrev pub with_wrong : BTreeMap Place Flow → WalkedModule
  with_wrong m = record {
    facts = w.facts;
    nodes = w.nodes;
    sinks = record { wrong = m; dynamic = w.sinks.dynamic };
    offers = w.offers;
    bindings = w.bindings;
  }

  -- the walk with other dynamic flows
  abbrev pub with_dynamic : BTreeMap Place Flow → WalkedModule
  with_dynamic m = record {
    facts = w.facts;
    nodes = w.nodes;
    sinks = record { wrong = w.sinks.wrong; dynamic = m };
    offers = w.offers;
    bindings = w.bindings;
  }

  -- the walk with other offers
  abbrev pub with_offers : Offers → WalkedModule
  with_offers o = record { facts = w.facts; nodes = w.nodes; sinks = w.sinks; offers = o; bindings = w.bindings }

module _ (findings : List Finding) (w : WalkedModule) (h : HoldsWalk findings w) where
  -- a flow of the module as it is told
  abbrev told_there : Code → Place → Option (Detail Words)
  told_there c p = flow_told (facts_walked w) c p

  left_of : (want : Option (Detail Words)) (b : Bool) (o : Option Flow) → AreThese want (option_map flow_of_value o)
      → AreThese want (option_map flow_of_value (cond b None o))
  left_of want true o e = tt
  left_of want false o e = e

  -- what is left when a wrong flow is taken out
  pub wrong_taken : (q : Place) (m : BTreeMap Place Flow)
      → ((p : Place) → get place_cmp m p ≡ cond (is_eq (place_cmp q p)) None (get place_cmp w.sinks.wrong p))
      → HoldsWalk findings (with_wrong w m)
  wrong_taken q m step = record {
    facts = h.facts;
    nodes = h.nodes;
    bound = h.bound;
    wrong = λ p. subst (λ (o : Option Flow). AreThese (told_there E12 p) (option_map flow_of_value o))
        (sym (step p)) (left_of (told_there E12 p) (is_eq (place_cmp q p)) (get place_cmp w.sinks.wrong p) (h.wrong p));
    dynamic = h.dynamic;
    names = h.names;
  }

  -- what is left when a dynamic flow is taken out
  pub dynamic_taken : (q : Place) (m : BTreeMap Place Flow)
      → ((p : Place) → get place_cmp m p ≡ cond (is_eq (place_cmp q p)) None (get place_cmp w.sinks.dynamic p))
      → HoldsWalk findings (with_dynamic w m)
  dynamic_taken q m step = record {
    facts = h.facts;
    nodes = h.nodes;
    bound = h.bound;
    wrong = h.wrong;
    dynamic = λ p. subst (λ (o : Option Flow). AreThese (told_there A1 p) (option_map flow_of_value o))
        (sym (step p)) (left_of (told_there A1 p) (is_eq (place_cmp q p)) (get place_cmp w.sinks.dynamic p) (h.dynamic p));
    names = h.names;
  }

  left_offers : (f : Finding) (o : Offers) → kept_of o f ≡ None
      → ((g : Finding) → ¬ (g ≡ f) → kept_of o g ≡ kept_of w.offers g) → (g : Finding) → Contains findings g → (b : Bool)
      → is_eq (finding_cmp f g) ≡ b
      → AreOf (facts_walked w) (walked_detail (module_held (facts_walked w)) g.place g.code) (kept_of o g)
  left_offers f o gone others g listed true e = subst (λ (k : Option (Detail Words)). AreOf (facts_walked w)
      (walked_detail (module_held (facts_walked w)) g.place g.code) k)
      (sym gone ∙ ap (kept_of o) (finding_same f g e)) tt
  left_offers f o gone others g listed false e = subst (λ (k : Option (Detail Words)). AreOf (facts_walked w)
      (walked_detail (module_held (facts_walked w)) g.place g.code) k)
      (sym (others g (λ same. true≢false (sym (own_finding f)
      ∙ ap (λ (x : Finding). is_eq (finding_cmp f x)) (sym same) ∙ e)))) (h.names g listed)

  -- what is left when an offer is taken out
  pub offer_taken : (f : Finding) (o : Offers) → kept_of o f ≡ None
      → ((g : Finding) → ¬ (g ≡ f) → kept_of o g ≡ kept_of w.offers g) → HoldsWalk findings (with_offers w o)
  offer_taken f o gone others = record {
    facts = h.facts;
    nodes = h.nodes;
    bound = h.bound;
    wrong = h.wrong;
    dynamic = h.dynamic;
    names = λ g listed. left_offers f o gone others g listed (is_eq (finding_cmp f g)) refl;
  }

-- ---- by code

-- the detail of a code that is not of a flow nor of `main`
pub other_code : (m : Module) (known : Known) (p : Place) (c : Code) → ¬ (c ≡ E12) → ¬ (c ≡ A1) → ¬ (c ≡ E28)
    → detail_or (by_nodes m known c p) (walked_detail m p c) ≡ detail_for m known p c
other_code m known p c wrong dynamic main = by c wrong dynamic main ∙ sym (by_code_is m known p c)
  where
    by : (c : Code) → ¬ (c ≡ E12) → ¬ (c ≡ A1) → ¬ (c ≡ E28)
        → detail_or (by_nodes m known c p) (walked_detail m p c) ≡ by_code m known c p
    by A1 w d e = absurd (d refl)
    by E12 w d e = absurd (w refl)
    by E28 w d e = absurd (e refl)
    by c w d e = refl
