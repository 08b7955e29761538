-- The types of the flows of a map, as another map takes them one after another.
use Rattle.std.proofs.Common.{◌≡◌, List, [], ◌∷◌, Bool, true, false, cond, Option, Some, None, refl, sym, ap, ◌∙◌, subst}
use Rattle.std.specs.Prelude.{option_map, IfSome}
use Rattle.std.specs.Borrow.{Bor}
use Rattle.std.specs.Ordering.{is_eq}
use Rattle.std.specs.BTreeMap.{BTreeMap, get}
use Rattle.std.specs.Map.{lookup}
use Rattle.std.specs.List.{AllByRecursion}
use Rattle.pc_source.specs.declared.place.Place.{Place}
use Rattle.pc_types.specs.Tree.{Tree}
use Rattle.pc_types.specs.declared.boxed.BoxType.{BoxType}
use Rattle.pc_notes.specs.declared.notes.NotedFlow.{NotedFlow}
use Rattle.pc_notes.specs.Notes.{or_else, flow_types, pair_shown}
use Rattle.pc_notes.specs.Texts.{place_cmp}
use Rattle.pc_notes.proofs.FirstFlows.{IsPairOf, or_else_none, place_same, place_self, apart}

-- the meaning of a flow, if there is one
abbrev pub meant : Option (Bor NotedFlow) → Option (Tree × Tree)
meant o = option_map (λ (f : Bor NotedFlow). flow_types f.now) o

-- the flow of the entries at a place
abbrev pub flow_in : List (Place × Bor NotedFlow) → Place → Option (Bor NotedFlow)
flow_in es p = lookup (λ k. is_eq (place_cmp p k)) es

-- the types of a map with those of the flows that are left are the types of the flows of another map
abbrev pub AreTakenTo : BTreeMap Place (Bor NotedFlow) → (left : List (Place × Bor NotedFlow))
    → BTreeMap Place (Bor BoxType × Bor BoxType) → Type 0
AreTakenTo flows left types =
    (p : Place) → or_else (meant (flow_in left p)) (option_map pair_shown (get place_cmp types p))
    ≡ meant (get place_cmp flows p)

-- nothing is taken yet
pub none_taken : (flows : BTreeMap Place (Bor NotedFlow)) (types : BTreeMap Place (Bor BoxType × Bor BoxType))
    (left : List (Place × Bor NotedFlow))
    → left ≡ flows.entries → types.entries ≡ [] → AreTakenTo flows left types
none_taken flows types left all empty =
    λ p. ap (λ (es : List (Place × (Bor BoxType × Bor BoxType))). or_else (meant (flow_in left p))
    (option_map pair_shown (lookup (λ k. is_eq (place_cmp p k)) es))) empty
    ∙ or_else_none (meant (flow_in left p)) ∙ ap (λ (es : List (Place × Bor NotedFlow)). meant (flow_in es p)) all

here_or_later : (flows : BTreeMap Place (Bor NotedFlow)) (p : Place) (e : Place × Bor NotedFlow) (b : Bool)
    → is_eq (place_cmp p e.0) ≡ b → (o : Option (Bor NotedFlow)) → IsPairOf flows e
    → IfSome o (λ f. get place_cmp flows p ≡ Some f) → IfSome (cond b (Some e.1) o) (λ f. get place_cmp flows p ≡ Some f)
here_or_later flows p e true h o is later = ap (get place_cmp flows) (place_same p e.0 h) ∙ is
here_or_later flows p e false h o is later = later

left_found : (flows : BTreeMap Place (Bor NotedFlow)) (p : Place) (es : List (Place × Bor NotedFlow))
    → AllByRecursion (IsPairOf flows) es → IfSome (flow_in es p) (λ f. get place_cmp flows p ≡ Some f)
left_found flows p [] all = tt
left_found flows p (e ∷ es) all = here_or_later flows p e (is_eq (place_cmp p e.0)) refl (flow_in es p) all.0
    (left_found flows p es all.1)

left_or : (o g : Option (Bor NotedFlow)) (x : Option (Tree × Tree)) → IfSome o (λ f. g ≡ Some f) → x ≡ meant g
    → or_else (meant o) x ≡ meant g
left_or None g x h e = e
left_or (Some f) g x h e = sym (ap meant h)

not_other : (p k : Place) → is_eq (place_cmp k p) ≡ false → (b : Bool) → is_eq (place_cmp p k) ≡ b → b ≡ false
not_other p k h true e = absurd (apart (is_eq (place_cmp k p))
    (subst (λ q. is_eq (place_cmp q p) ≡ true) (place_same p k e) (place_self p)) h)
not_other p k h false e = refl

-- the next one is taken
pub next_taken : (flows : BTreeMap Place (Bor NotedFlow)) (old new : BTreeMap Place (Bor BoxType × Bor BoxType))
    (e : Place × Bor NotedFlow) (rest : List (Place × Bor NotedFlow)) (t : Bor BoxType × Bor BoxType)
    → pair_shown t ≡ flow_types e.1.now → AllByRecursion (IsPairOf flows) (e ∷ rest)
    → ((q : Place) → get place_cmp new q ≡ cond (is_eq (place_cmp e.0 q)) (Some t) (get place_cmp old q))
    → AreTakenTo flows (e ∷ rest) old → AreTakenTo flows rest new
next_taken flows old new e rest t same all step has =
    λ p. ap (λ o. or_else (meant (flow_in rest p)) (option_map pair_shown o)) (step p)
    ∙ by p (is_eq (place_cmp e.0 p)) refl
  where
    by : (p : Place) (b : Bool) → is_eq (place_cmp e.0 p) ≡ b
        → or_else (meant (flow_in rest p)) (option_map pair_shown (cond b (Some t) (get place_cmp old p)))
        ≡ meant (get place_cmp flows p)
    by p true h = left_or (flow_in rest p) (get place_cmp flows p) (Some (pair_shown t))
        (left_found flows p rest all.1)
        (ap (λ (x : Tree × Tree). Some x) same ∙ sym (ap meant (ap (get place_cmp flows)
        (sym (place_same e.0 p h)) ∙ all.0)))
    by p false h = ap (λ b. or_else (meant (cond b (Some e.1) (flow_in rest p)))
        (option_map pair_shown (get place_cmp old p)))
        (sym (not_other p e.0 h (is_eq (place_cmp p e.0)) refl)) ∙ has p
