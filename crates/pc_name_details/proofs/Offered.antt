-- The details that one rule after another adds.
use Rattle.std.proofs.Common.{◌≡◌, ◌∙◌, Bool, true, false, Option, Some, None, refl, sym, ap}
use Rattle.std.proofs.lemmas.Bool.{and_parts, true≢false}
use Rattle.std.specs.Prelude.{is_some, if◌then◌else◌, ◌&&◌, not}
use Rattle.std.specs.Option.{option_map}
use Rattle.pc_source.specs.declared.place.Place.{Place}
use Rattle.pc_tree.specs.declared.code.Code.{Code}
use Rattle.pc_tree.specs.declared.code.Finding.{Finding}
use Rattle.pc_tree.specs.Code.{finding}
use Rattle.pc_types.specs.Tree.{Tree}
use Rattle.pc_notes.specs.Notes.{is_same_place, is_same_code, or_else}
use Rattle.pc_notes.proofs.SameCode.{text_one, text_same}
use Rattle.pc_module_rules.proofs.Places.{same_place, own_place}
use Rattle.pc_detail_texts.specs.Details.{Detail}
use Rattle.pc_detail_texts.specs.Mapped.{map_detail}
use Rattle.pc_detail_texts.specs.Sentences.{Words}
use Rattle.pc_detail_facts.specs.declared.facts.Facts.{Facts}
use Rattle.pc_name_details.specs.declared.offers.Offers.{Offers}
use Rattle.pc_detail_facts.specs.Held.{text_held}
use Rattle.pc_name_details.specs.Offered.{AddsDetails, KeepsDetail, Rule, of_code, at_place, is_still_open, is_wanted, kept_after, kept_of}
use Rattle.pc_detail_rules.specs.Overrides.{detail_or}

-- ---- one step

-- nothing of a rule that gives nothing
nothing_more : (k : Option (Detail Words)) (w : Bool) (d : Option (Detail Words)) → d ≡ None
    → k ≡ or_else k (if w then d else None)
nothing_more (Some x) w d e = refl
nothing_more None true d e = sym e
nothing_more None false d e = refl

module _ (facts : Facts) where
  -- a rule that gives nothing adds nothing
  pub none_added : (rule : Rule) (o : Offers) → ((f : Finding) → rule f ≡ None) → AddsDetails facts rule o o
  none_added rule o none = record {
    wanted = λ f. refl;
    kept = λ f. nothing_more (kept_of o f) (is_wanted o f) (option_map (map_detail (text_held facts)) (rule f))
        (ap (option_map (map_detail (text_held facts))) (none f));
  }

  -- the same rule, written otherwise
  pub added_as : (r q : Rule) (a b : Offers) → ((f : Finding) → r f ≡ q f) → AddsDetails facts r a b → AddsDetails facts q a b
  added_as r q a b same h = record {
    wanted = h.wanted;
    kept = λ f. h.kept f ∙ ap (λ (d : Option (Detail Tree)). or_else (kept_of a f)
        (if is_wanted a f then option_map (map_detail (text_held facts)) d else None)) (same f);
  }

  both : (k : Option (Detail Words)) (w : Bool) (d e : Option (Detail Tree))
      → or_else (or_else k (if w then option_map (map_detail (text_held facts)) d else None))
      (if w then option_map (map_detail (text_held facts)) e else None)
      ≡ or_else k (if w then option_map (map_detail (text_held facts)) (detail_or d e) else None)
  both (Some x) w d e = refl
  both None false d e = refl
  both None true None e = refl
  both None true (Some d) e = refl

  -- one rule after another
  pub added_both : (r q : Rule) (a b c : Offers) → AddsDetails facts r a b → AddsDetails facts q b c
      → AddsDetails facts (λ f. detail_or (r f) (q f)) a c
  added_both r q a b c h g = record {
    wanted = λ f. g.wanted f ∙ h.wanted f;
    kept = λ f. g.kept f
        ∙ ap (λ (k : Option (Detail Words)). or_else k
        (if is_wanted b f then option_map (map_detail (text_held facts)) (q f) else None)) (h.kept f)
        ∙ ap (λ (w : Bool). or_else (kept_after facts a r f)
        (if w then option_map (map_detail (text_held facts)) (q f) else None)) (h.wanted f)
        ∙ both (kept_of a f) (is_wanted a f) (r f) (q f);
  }

-- ---- a detail at one place

-- what is not there is nothing
none_there : (o : Option (Detail Words)) → not (is_some o) ≡ true → o ≡ None
none_there None h = refl
none_there (Some x) h = let never : ⊥ = cc in absurd never

module _ (facts : Facts) (c : Code) (p : Place) (d : Detail Tree) (o n : Offers) (w : Detail Words)
    (open' : is_still_open o (finding p c) ≡ true) (kept : KeepsDetail (finding p c) w o n)
    (same : w ≡ map_detail (text_held facts) d) where
  parts : (is_wanted o (finding p c) ≡ true) × (not (is_some (kept_of o (finding p c))) ≡ true)
  parts = and_parts (is_wanted o (finding p c)) (not (is_some (kept_of o (finding p c)))) open'

  -- what is kept of a finding after the detail at the place
  abbrev after : Finding → Option (Detail Tree) → Option (Detail Words)
  after f x = or_else (kept_of o f) (if is_wanted o f then option_map (map_detail (text_held facts)) x else None)

  here : after (finding p c) (Some d) ≡ Some w
  here = ap (λ (k : Option (Detail Words)). or_else k (if is_wanted o (finding p c)
      then Some (map_detail (text_held facts) d) else None)) (none_there (kept_of o (finding p c)) parts.1)
      ∙ ap (λ (b : Bool). if b then Some (map_detail (text_held facts) d) else None) parts.0 ∙ ap (λ x. Some x) (sym same)

  by_tests : (f : Finding) (s t : Bool) → is_same_code c f.code ≡ s → is_same_place f.place p ≡ t
      → kept_of n f ≡ after f (if s then (if t then Some d else None) else None)
  by_tests f true true e g =
      let code : c ≡ f.code = text_one c f.code e in
      let place : f.place ≡ p = same_place f.place p g in
      let is : f ≡ finding p c = λ i. record { place = place i; code = sym code i } in
      ap (kept_of n) is ∙ kept.here ∙ sym here ∙ ap (λ (x : Finding). after x (Some d)) (sym is)
  by_tests f true false e g = kept.others f (λ is. true≢false
      (sym (own_place p) ∙ ap (λ (x : Finding). is_same_place x.place p) (sym is) ∙ g))
      ∙ nothing_more (kept_of o f) (is_wanted o f) None refl
  by_tests f false t e g = kept.others f (λ is. true≢false
      (sym (text_same c c refl) ∙ ap (λ (x : Finding). is_same_code c x.code) (sym is) ∙ e))
      ∙ nothing_more (kept_of o f) (is_wanted o f) None refl

  -- a detail that is kept of a finding is one that a rule adds
  pub one_added : AddsDetails facts (of_code c (at_place p (Some d))) o n
  one_added = record {
    wanted = kept.wanted;
    kept = λ f. by_tests f (is_same_code c f.code) (is_same_place f.place p) refl refl;
  }

-- where nothing is asked for, a detail at the place adds nothing
module _ (facts : Facts) (c : Code) (p : Place) (d : Option (Detail Tree)) (o : Offers)
    (shut : is_still_open o (finding p c) ≡ false) where
  abbrev after_it : Finding → Option (Detail Tree) → Option (Detail Words)
  after_it f x = or_else (kept_of o f) (if is_wanted o f then option_map (map_detail (text_held facts)) x else None)

  shut_there : (k : Option (Detail Words)) (b : Bool) → (b && not (is_some k)) ≡ false
      → k ≡ or_else k (if b then option_map (map_detail (text_held facts)) d else None)
  shut_there (Some x) b h = refl
  shut_there None false h = refl
  shut_there None true h = let never : ⊥ = cc in absurd never

  shut_by : (f : Finding) (s t : Bool) → is_same_code c f.code ≡ s → is_same_place f.place p ≡ t
      → kept_of o f ≡ after_it f (if s then (if t then d else None) else None)
  shut_by f true true e g =
      let code : c ≡ f.code = text_one c f.code e in
      let place : f.place ≡ p = same_place f.place p g in
      let is : f ≡ finding p c = λ i. record { place = place i; code = sym code i } in
      ap (kept_of o) is ∙ shut_there (kept_of o (finding p c)) (is_wanted o (finding p c)) shut
      ∙ ap (λ (x : Finding). after_it x d) (sym is)
  shut_by f true false e g = nothing_more (kept_of o f) (is_wanted o f) None refl
  shut_by f false t e g = nothing_more (kept_of o f) (is_wanted o f) None refl

  pub shut_added : AddsDetails facts (of_code c (at_place p d)) o o
  shut_added = record {
    wanted = λ f. refl;
    kept = λ f. shut_by f (is_same_code c f.code) (is_same_place f.place p) refl refl;
  }

-- a detail that is not there adds nothing
pub nothing_added : (facts : Facts) (c : Code) (p : Place) (o : Offers) → AddsDetails facts (of_code c (at_place p None)) o o
nothing_added facts c p o = none_added facts (of_code c (at_place p None)) o
    (λ f. both_none (is_same_code c f.code) (is_same_place f.place p))
  where
    both_none : (s t : Bool) → ◌≡◌ {A = Option (Detail Tree)} (if s then (if t then None else None) else None) None
    both_none false t = refl
    both_none true false = refl
    both_none true true = refl
