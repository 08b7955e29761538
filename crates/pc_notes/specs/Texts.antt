-- The flows that are noted with a code, with the texts of their types, one for each place; and the texts of the shown
-- types, and of the types of bound names.
-- Own rule of the profile.
use denote.Bor.{Bor}
use Rattle.std.specs.Prelude.{◌≡◌, ℕ, List, Contains, Option, IsSome, IfSome, MatchOption, map, option_map}
use Rattle.std.specs.Rc.{rc_str_bytes}
use Rattle.std.specs.declared.rc.RcStr.{RcStr}
use Rattle.std.specs.declared.alloc.Global.{Global}
use Rattle.std.specs.declared.cmp.Ordering.{Ordering}
use Rattle.std.specs.Ordering.{ordering_then, nat_cmp}
use Rattle.std.specs.BTreeMap.{BTreeMap, get}
use Rattle.std.specs.List.{AllByRecursion}
use Rattle.std.specs.List.Sorted.{IsStrictlySortedBy}
use Rattle.pc_source.specs.declared.place.Place.{Place}
use Rattle.pc_tree.specs.declared.code.Code.{Code}
use Rattle.pc_tree.specs.Tree.{Module}
use Rattle.pc_types.specs.Tree.{Tree}
use Rattle.pc_types.specs.Boxed.{tree_of}
use Rattle.pc_types.specs.declared.boxed.BoxType.{BoxType}
use Rattle.pc_annotations.specs.Text.{type_text}
use Rattle.pc_notes.specs.declared.notes.NotedFlow.{NotedFlow}
use Rattle.pc_notes.specs.declared.sharing.NamedType.{NamedType}
use Rattle.pc_notes.specs.Notes.{Note, flow_types, flow_noted, type_noted, IsGivenFlow, shared_tree}

-- a place, with the texts of the type that flows there and of the type that it flows into
abbrev pub FlowText : Type 0
FlowText = Place × RcStr Global × RcStr Global

-- the texts are those of the types of the first flow noted with this code at the place
abbrev pub IsFlowText : Module → Code → List Note → FlowText → Type 0
IsFlowText m c notes text =
    MatchOption (flow_noted c text.0 notes) ⊥
    (λ f. (rc_str_bytes text.1 ≡ type_text m f.0) × (rc_str_bytes text.2 ≡ type_text m f.1))

-- the order of places
abbrev pub place_cmp : Place → Place → Ordering
place_cmp p q = ordering_then (nat_cmp p.start q.start) (nat_cmp p.end q.end)

-- the places of texts
abbrev pub places_of : List FlowText → List Place
places_of texts = map (λ t. t.0) texts

-- each text is that of the flow noted with this code at its place; each place with such a flow has one; the places
-- ascend, so none has two
pub record AreFlowTexts (m : Module) (c : Code) (notes : List Note) (texts : List FlowText) : Type 0 where
  pub each : AllByRecursion (IsFlowText m c notes) texts
  pub all : (p : Place) → IsSome (flow_noted c p notes) → Contains (places_of texts) p
  pub ordered : IsStrictlySortedBy place_cmp (places_of texts)

-- the flows of a map are of types that a store of boxes may give
abbrev pub HasGivenFlows : BTreeMap Place (Bor NotedFlow) → Type 0
HasGivenFlows flows = (p : Place) → IfSome (get place_cmp flows p) (λ f. IsGivenFlow f.now)

-- a map has at each place the first flow noted there with this code
pub record HasFirstFlows (c : Code) (notes : List Note) (flows : BTreeMap Place (Bor NotedFlow)) : Type 0 where
  pub first : (p : Place) → option_map (λ f. flow_types f.now) (get place_cmp flows p) ≡ flow_noted c p notes
  pub given : HasGivenFlows flows

-- a map has at each place the first type noted there, of a label that is shown or not
abbrev pub HasFirstTypes : List Note → BTreeMap Place (Bor BoxType) → Type 0
HasFirstTypes notes types = (p : Place) → option_map (λ t. tree_of t.now) (get place_cmp types p) ≡ type_noted p notes

-- the text kept with a type is the text of that type
abbrev pub IsNamed : Module → NamedType → Type 0
IsNamed m named = rc_str_bytes named.text ≡ type_text m (shared_tree named.shared)

-- each type of a map, by its mark, has its text
abbrev pub HaveTexts : Module → BTreeMap ℕ NamedType → Type 0
HaveTexts m known = (mark : ℕ) → IfSome (get nat_cmp known mark) (IsNamed m)

-- a place with a text
abbrev pub text_shown : Place × RcStr Global → Place × List ℕ
text_shown t = (t.0, rc_str_bytes t.1)

-- the text of a type at its place
abbrev pub type_text_at : Module → Place × Tree → Place × List ℕ
type_text_at m t = (t.0, type_text m t.1)

-- a place with the texts of a declared and of a current type
abbrev pub texts_shown : Place × RcStr Global × Option (RcStr Global) → Place × List ℕ × Option (List ℕ)
texts_shown n = (n.0, rc_str_bytes n.1, option_map rc_str_bytes n.2)

-- the texts of the types of a bound name at its place
abbrev pub name_texts_at : Module → Place × Tree × Option Tree → Place × List ℕ × Option (List ℕ)
name_texts_at m n = (n.0, type_text m n.1, option_map (type_text m) n.2)
