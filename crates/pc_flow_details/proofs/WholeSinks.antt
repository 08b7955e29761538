-- The sinks of a module, in the order in which the program adds them.
use Rattle.std.proofs.Common.{◌≡◌, ◌∙◌, ◌++◌, ◌∷◌, [], List, Option, Some, None, refl, sym, ap, map}
use Rattle.std.proofs.lemmas.Grind.{flat_map-append}
use Rattle.std.specs.Prelude.{false, flat_map}
use Rattle.std.specs.Option.{option_map, option_or}
use Rattle.std.specs.BTreeMap.{BTreeMap, get}
use Rattle.std.specs.Map.{lookup}
use Rattle.std.specs.Ordering.{is_eq}
use Rattle.pc_source.specs.declared.place.Place.{Place}
use Rattle.pc_tree.specs.declared.code.Code.{Code}
use Rattle.pc_tree.specs.declared.code.Code.TheVariants.{A1, E12}
use Rattle.pc_tree.specs.Tree.{Constant, Expr}
use Rattle.pc_scope.specs.declared.resolution.Owner.TheVariants as owners
use Rattle.pc_scope.specs.Bindings.{Body, bodies, classes_in, constants_in}
use Rattle.pc_scope.specs.Expressions.{parts_in}
use Rattle.pc_notes.specs.Texts.{place_cmp}
use Rattle.pc_detail_texts.specs.declared.details.Flow.{Flow}
use Rattle.pc_detail_facts.specs.declared.facts.Facts.{Facts}
use Rattle.pc_flow_details.specs.declared.sink.Sinks.{Sinks}
use Rattle.pc_detail_facts.specs.Held.{known_held, module_held}
use Rattle.pc_flow_details.specs.Kept.{FlowDetails, first_of_both, flow_kept, flow_of_value, flows_to_sinks, flows_kept}
use Rattle.pc_flow_details.specs.Kept.{taken_below, taken_in, taken_in_body}
use Rattle.pc_detail_rules.specs.Nodes.{exprs_of_body, exprs_of_module, owned}
use Rattle.pc_flow_details.proofs.Kept.{then_into}
use Rattle.pc_detail_rules.specs.Sinks.{SinkAt, sinks_in, sinks_of, sinks_of_body, sinks_of_class}
use Rattle.pc_detail_rules.specs.Sinks.{sinks_of_constant}
use Rattle.pc_detail_rules.specs.ToldTypes.{told_among}

-- ---- lists of lists

flat_of_map : {A B C : Type 0} (g : B → List C) (h : A → B) (xs : List A)
    → flat_map g (map h xs) ≡ flat_map (λ x. g (h x)) xs
flat_of_map g h [] = refl
flat_of_map g h (x ∷ xs) = ap (λ l. g (h x) ++ l) (flat_of_map g h xs)

flat_of_flat : {A B C : Type 0} (g : B → List C) (h : A → List B) (xs : List A)
    → flat_map (λ x. flat_map g (h x)) xs ≡ flat_map g (flat_map h xs)
flat_of_flat g h [] = refl
flat_of_flat g h (x ∷ xs) = ap (λ l. flat_map g (h x) ++ l) (flat_of_flat g h xs)
    ∙ sym (flat_map-append g (h x) (flat_map h xs))

-- ---- expressions

module _ (f : Facts) where
  -- the sinks in the values of constants
  in_constants : (cs : List Constant) → taken_below f owners.Module (map (λ (c : Constant). c.value) cs)
      ≡ flat_map (sinks_in (module_held f) (known_held f))
      (map (owned owners.Module) (flat_map (λ (c : Constant). parts_in false c.value) cs))
  unfolding taken_below taken_in
  in_constants cs = ap (λ (es : List Expr). flat_map (sinks_in (module_held f) (known_held f))
      (map (owned owners.Module) es)) (flat_of_map (parts_in false) (λ (c : Constant). c.value) cs)

  -- the sinks in the expressions of bodies
  in_bodies : (bs : List Body) → flat_map (taken_in_body f) bs
      ≡ flat_map (sinks_in (module_held f) (known_held f)) (flat_map exprs_of_body bs)
  unfolding taken_below taken_in
  in_bodies bs = flat_of_flat (sinks_in (module_held f) (known_held f)) exprs_of_body bs

  -- the sinks in the expressions of a module
  in_module : flat_map (sinks_in (module_held f) (known_held f)) (exprs_of_module (module_held f))
      ≡ taken_below f owners.Module (map (λ (c : Constant). c.value) (constants_in (module_held f).items))
      ++ flat_map (taken_in_body f) (bodies (module_held f))
  in_module = flat_map-append (sinks_in (module_held f) (known_held f)) (map (owned owners.Module)
      (flat_map (λ (c : Constant). parts_in false c.value) (constants_in (module_held f).items)))
      (flat_map exprs_of_body (bodies (module_held f)))
      ∙ ap (λ (l : List SinkAt). l ++ flat_map (sinks_in (module_held f) (known_held f))
      (flat_map exprs_of_body (bodies (module_held f)))) (sym (in_constants (constants_in (module_held f).items)))
      ∙ ap (λ (l : List SinkAt). taken_below f owners.Module (map (λ (c : Constant). c.value)
      (constants_in (module_held f).items)) ++ l) (sym (in_bodies (bodies (module_held f))))

  -- the sinks of a module, one part after another
  pub all_sinks : (bs : List Body) → bs ≡ bodies (module_held f)
      → sinks_of (module_held f) (known_held f)
      ≡ flat_map sinks_of_constant (constants_in (module_held f).items)
      ++ (flat_map sinks_of_class (classes_in (module_held f).items)
      ++ (flat_map (sinks_of_body (module_held f) (known_held f)) bs
      ++ (taken_below f owners.Module (map (λ (c : Constant). c.value) (constants_in (module_held f).items))
      ++ flat_map (taken_in_body f) bs)))
  all_sinks bs same =
      ap (λ (l : List SinkAt). flat_map sinks_of_constant (constants_in (module_held f).items)
      ++ (flat_map sinks_of_class (classes_in (module_held f).items)
      ++ (flat_map (sinks_of_body (module_held f) (known_held f)) (bodies (module_held f)) ++ l))) in_module
      ∙ ap (λ (x : List Body). flat_map sinks_of_constant (constants_in (module_held f).items)
      ++ (flat_map sinks_of_class (classes_in (module_held f).items)
      ++ (flat_map (sinks_of_body (module_held f) (known_held f)) x
      ++ (taken_below f owners.Module (map (λ (c : Constant). c.value) (constants_in (module_held f).items))
      ++ flat_map (taken_in_body f) x)))) (sym same)

-- ---- the whole

none_or : {A : Type 0} (a y : Option A) → a ≡ None → option_or a y ≡ y
none_or None y h = refl
none_or (Some x) y h = cc

kept_none : (s : Sinks) → ((p : Place) → get place_cmp s.wrong p ≡ None)
    → ((p : Place) → get place_cmp s.dynamic p ≡ None) → (c : Code) (p : Place) → flows_kept s c p ≡ None
unfolding flows_kept
kept_none s w d E12 p = ap (option_map flow_of_value) (w p)
kept_none s w d c p = ap (option_map flow_of_value) (d p)

-- the flows into sinks that are added to none
pub from_none : (f : Facts) (s : Sinks) (ss : List SinkAt) → ((p : Place) → get place_cmp s.wrong p ≡ None)
    → ((p : Place) → get place_cmp s.dynamic p ≡ None)
    → first_of_both (flows_kept s) (flows_to_sinks f ss) ≡ flows_to_sinks f ss
unfolding first_of_both
from_none f s ss w d = λ i c p. (none_or (flows_kept s c p) (flows_to_sinks f ss c p) (kept_none s w d c p)) i

-- the wrong flows that are kept
pub wrong_kept : (f : Facts) (s : Sinks) → flows_kept s ≡ flows_to_sinks f (sinks_of (module_held f) (known_held f))
    → (p : Place) → flow_kept s.wrong p
    ≡ told_among (module_held f) (sinks_of (module_held f) (known_held f)) p ((known_held f).flows E12 p)
unfolding flows_kept flows_to_sinks
wrong_kept f s e p = λ i. e i E12 p

-- the dynamic flows that are kept
pub dynamic_kept : (f : Facts) (s : Sinks) → flows_kept s ≡ flows_to_sinks f (sinks_of (module_held f) (known_held f))
    → (p : Place) → flow_kept s.dynamic p
    ≡ told_among (module_held f) (sinks_of (module_held f) (known_held f)) p ((known_held f).flows A1 p)
unfolding flows_kept flows_to_sinks
dynamic_kept f s e p = λ i. e i A1 p

-- five lists, one after another
pub five : (f : Facts) (k l m n o p : FlowDetails) (a b c d e whole : List SinkAt) → whole ≡ a ++ (b ++ (c ++ (d ++ e)))
    → l ≡ first_of_both k (flows_to_sinks f a) → m ≡ first_of_both l (flows_to_sinks f b)
    → n ≡ first_of_both m (flows_to_sinks f c) → o ≡ first_of_both n (flows_to_sinks f d)
    → p ≡ first_of_both o (flows_to_sinks f e) → first_of_both k (flows_to_sinks f whole) ≡ flows_to_sinks f whole
    → p ≡ flows_to_sinks f whole
five f k l m n o p a b c d e whole same x y z v w none = w ∙ then_into f n o d e v ∙ then_into f m n c (d ++ e) z
    ∙ then_into f l m b (c ++ (d ++ e)) y ∙ then_into f k l a (b ++ (c ++ (d ++ e))) x
    ∙ ap (λ (ss : List SinkAt). first_of_both k (flows_to_sinks f ss)) (sym same) ∙ none

-- an empty map has no flow
pub none_got : (m : BTreeMap Place Flow) → m.entries ≡ [] → (p : Place) → get place_cmp m p ≡ None
none_got m empty p = ap (λ (es : List (Place × Flow)). lookup (λ k. is_eq (place_cmp p k)) es) empty
