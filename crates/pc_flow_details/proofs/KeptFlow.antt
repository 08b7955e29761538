-- A flow that is kept at the place of one sink.
use Rattle.std.proofs.Common.{◌≡◌, ◌∙◌, ◌∷◌, [], Bool, true, false, cond, Option, Some, None, refl, sym, ap, subst}
use Rattle.std.specs.Prelude.{◌&&◌, is_some}
use Rattle.std.specs.Option.{option_map, option_map_or, option_or}
use Rattle.std.specs.Ordering.{is_eq}
use Rattle.std.specs.BTreeMap.{BTreeMap, get}
use Rattle.pc_source.specs.declared.place.Place.{Place}
use Rattle.pc_tree.specs.declared.code.Code.{Code}
use Rattle.pc_tree.specs.declared.code.Code.TheVariants.{A1, E12}
use Rattle.pc_tree.specs.Tree.{Module}
use Rattle.pc_types.specs.Tree.{Tree}
use Rattle.pc_types.specs.Join.{same_tree}
use Rattle.pc_notes.specs.Notes.{is_same_place}
use Rattle.pc_notes.specs.Texts.{place_cmp}
use Rattle.pc_notes.proofs.FirstFlows.{not_same, place_same, self_tested, some_mapped}
use Rattle.pc_module_rules.proofs.Places.{same_place}
use Rattle.pc_detail_texts.specs.Details.{Detail}
use Rattle.pc_detail_texts.specs.Sentences.{Words}
use Rattle.pc_detail_texts.specs.declared.details.Flow.{Flow}
use Rattle.pc_detail_facts.specs.declared.facts.Facts.{Facts}
use Rattle.pc_flow_details.specs.declared.sink.Sinks.{Sinks}
use Rattle.pc_detail_facts.specs.Held.{known_held, module_held}
use Rattle.pc_flow_details.specs.Kept.{first_of_both, flow_kept, flow_of_value, flows_to_sinks, flows_kept}
use Rattle.pc_detail_rules.specs.Sinks.{SinkAt}
use Rattle.pc_detail_rules.specs.ToldTypes.{told_among, told_flow}
use Rattle.pc_flow_details.proofs.Kept.{or_none}

module _ (n : Module) where
  -- the flow of these types that one sink takes, as it is told, if its place and its type are the ones
  abbrev taken : SinkAt → Tree → Tree → (is_here is_into : Bool) → Option (Detail Words)
  taken s u t here into = option_map (told_flow n u t) (cond (here && into) (Some s) None)

  not_into : (s : SinkAt) (u t : Tree) (here : Bool) → taken s u t here false ≡ None
  not_into s u t true = refl
  not_into s u t false = refl

  -- a sink takes no flow at another place
  pub away : (s : SinkAt) (p : Place) (o : Option (Tree × Tree)) → is_same_place p s.place ≡ false
      → told_among n (s ∷ []) p o ≡ None
  away s p None h = refl
  away s p (Some st) h = ap (λ b. taken s st.0 st.1 b (option_map_or (same_tree st.1) s.into true)) h

  -- and none into another type
  untaken : (s : SinkAt) (p : Place) (u t : Tree) → option_map_or (same_tree t) s.into true ≡ false
      → told_among n (s ∷ []) p (Some (u, t)) ≡ None
  untaken s p u t h = ap (taken s u t (is_same_place p s.place)) h ∙ not_into s u t (is_same_place p s.place)

  -- it takes one at its place into its type
  here_taken : (s : SinkAt) (p : Place) (u t : Tree) → option_map_or (same_tree t) s.into true ≡ true → s.place ≡ p
      → told_among n (s ∷ []) p (Some (u, t)) ≡ Some (told_flow n u t s)
  here_taken s p u t h e = ap (taken s u t (is_same_place p s.place)) h
      ∙ ap (λ b. taken s u t b true) (subst (λ q. is_same_place p q ≡ true) (sym e) (self_tested p))

first_kept : {A : Type 0} (o x : Option A) → is_some o ≡ true → option_or o x ≡ o
first_kept None x h = cc
first_kept (Some a) x h = refl

first_missing : {A : Type 0} (o x : Option A) → is_some o ≡ false → option_or o x ≡ x
first_missing None x h = refl
first_missing (Some a) x h = cc

module _ (n : Module) (m : BTreeMap Place Flow) (s : SinkAt) where
  -- what is added where the sink takes nothing
  pub nothing_added : (p : Place) (o : Option (Tree × Tree)) → told_among n (s ∷ []) p o ≡ None
      → flow_kept m p ≡ option_or (flow_kept m p) (told_among n (s ∷ []) p o)
  nothing_added p o h = sym (ap (option_or (flow_kept m p)) h ∙ or_none (flow_kept m p))

  -- there is no flow
  pub none_added : (p : Place)
      → flow_kept m p ≡ option_or (flow_kept m p) (told_among n (s ∷ []) p None)
  none_added p = nothing_added p None refl

  -- the flow goes into another type
  pub other_added : (p : Place) (u t : Tree) → option_map_or (same_tree t) s.into true ≡ false
      → flow_kept m p ≡ option_or (flow_kept m p) (told_among n (s ∷ []) p (Some (u, t)))
  other_added p u t h = nothing_added p (Some (u, t)) (untaken n s p u t h)

  -- a flow is kept there
  pub kept_added : (p : Place) (o : Option (Tree × Tree)) → is_some (get place_cmp m s.place) ≡ true
      → flow_kept m p ≡ option_or (flow_kept m p) (told_among n (s ∷ []) p o)
  kept_added p o known = by (is_eq (place_cmp s.place p)) refl
    where
      by : (b : Bool) → is_eq (place_cmp s.place p) ≡ b
          → flow_kept m p ≡ option_or (flow_kept m p) (told_among n (s ∷ []) p o)
      by true h = sym (first_kept (flow_kept m p) (told_among n (s ∷ []) p o)
          (some_mapped flow_of_value (get place_cmp m p)
          ∙ subst (λ q. is_some (get place_cmp m q) ≡ true) (place_same s.place p h) known))
      by false h = nothing_added p o (away n s p o (not_same p s.place h (is_same_place p s.place) refl))

  -- the flow is put in
  pub flow_added : (p : Place) (u t : Tree) (w : Flow) (new : BTreeMap Place Flow)
      → option_map_or (same_tree t) s.into true ≡ true → is_some (get place_cmp m s.place) ≡ false
      → flow_of_value w ≡ told_flow n u t s
      → ((q : Place) → get place_cmp new q ≡ cond (is_eq (place_cmp s.place q)) (Some w) (get place_cmp m q))
      → flow_kept new p ≡ option_or (flow_kept m p) (told_among n (s ∷ []) p (Some (u, t)))
  flow_added p u t w new into fresh shown step =
      ap (option_map flow_of_value) (step p) ∙ by (is_eq (place_cmp s.place p)) refl
    where
      by : (b : Bool) → is_eq (place_cmp s.place p) ≡ b
          → option_map flow_of_value (cond b (Some w) (get place_cmp m p))
          ≡ option_or (flow_kept m p) (told_among n (s ∷ []) p (Some (u, t)))
      by true h =
          let same : s.place ≡ p = place_same s.place p h in
          ap (λ x. Some x) shown
          ∙ sym (first_missing (flow_kept m p) (told_among n (s ∷ []) p (Some (u, t)))
          (some_mapped flow_of_value (get place_cmp m p)
          ∙ subst (λ q. is_some (get place_cmp m q) ≡ false) same fresh)
          ∙ here_taken n s p u t into same)
      by false h = nothing_added p (Some (u, t)) (away n s p (Some (u, t))
          (not_same p s.place h (is_same_place p s.place) refl))

-- ---- by code

same_there : (n : Module) (s : SinkAt) (p : Place) (flows : Place → Option (Tree × Tree)) (b : Bool)
    → is_same_place p s.place ≡ b → told_among n (s ∷ []) p (flows s.place) ≡ told_among n (s ∷ []) p (flows p)
same_there n s p flows true h = ap (λ q. told_among n (s ∷ []) p (flows q)) (sym (same_place p s.place h))
same_there n s p flows false h = away n s p (flows s.place) h ∙ sym (away n s p (flows p) h)

-- the flow at the place of a sink is the only one that the sink may take
pub there : (n : Module) (s : SinkAt) (p : Place) (flows : Place → Option (Tree × Tree))
    → told_among n (s ∷ []) p (flows s.place) ≡ told_among n (s ∷ []) p (flows p)
there n s p flows = same_there n s p flows (is_same_place p s.place) refl

-- the wrong and the dynamic flow at the place of a sink
module _ (f : Facts) (s : SinkAt) (old new : Sinks) where
  sunk : ((p : Place) → flow_kept new.wrong p ≡ option_or (flow_kept old.wrong p)
      (told_among (module_held f) (s ∷ []) p ((known_held f).flows E12 s.place)))
      → ((p : Place) → flow_kept new.dynamic p ≡ option_or (flow_kept old.dynamic p)
      (told_among (module_held f) (s ∷ []) p ((known_held f).flows A1 s.place)))
      → (c : Code) (p : Place) → flows_kept new c p ≡ option_or (flows_kept old c p)
      (told_among (module_held f) (s ∷ []) p ((known_held f).flows c p))
  unfolding flows_kept
  sunk w d E12 p = w p ∙ ap (option_or (flow_kept old.wrong p)) (there (module_held f) s p ((known_held f).flows E12))
  sunk w d c p = d p ∙ ap (option_or (flow_kept old.dynamic p)) (there (module_held f) s p ((known_held f).flows A1))

  pub sink_added : ((p : Place) → flow_kept new.wrong p ≡ option_or (flow_kept old.wrong p)
      (told_among (module_held f) (s ∷ []) p ((known_held f).flows E12 s.place)))
      → ((p : Place) → flow_kept new.dynamic p ≡ option_or (flow_kept old.dynamic p)
      (told_among (module_held f) (s ∷ []) p ((known_held f).flows A1 s.place)))
      → flows_kept new ≡ first_of_both (flows_kept old) (flows_to_sinks f (s ∷ []))
  unfolding first_of_both flows_to_sinks
  sink_added w d = λ i c p. sunk w d c p i
