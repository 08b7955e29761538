-- The sinks of the arguments of a call, by the parameter that takes each.
use Rattle.std.proofs.Common.{◌≡◌, ◌∙◌, ◌∷◌, ◌<◌, ◌≤◌, [], ℕ, zero, suc, Bool, true, false, cond, List, Option, Some}
use Rattle.std.proofs.Common.{◌+◌, None, refl, sym, ap, ap₂, subst, drop, length, arith}
use Rattle.std.proofs.Math.ListN.{drop_of_length-le}
use Rattle.std.specs.Prelude.{◌||◌, bytes_eq, is_some, slice_get}
use Rattle.std.specs.Option.{option_and_then, option_map, option_or}
use Rattle.pc_source.specs.declared.place.Place.{Place}
use Rattle.pc_tree.specs.declared.code.Code.{Code}
use Rattle.pc_tree.specs.declared.code.Code.TheVariants.{A1, E12}
use Rattle.pc_tree.specs.Tree.{Ann}
use Rattle.pc_types.specs.Tree.{Tree}
use Rattle.pc_class.specs.Facts.{TypedParameter, field_by_name}
use Rattle.pc_rules.specs.Calls.{index_of_parameter}
use Rattle.pc_rules.specs.Context.{Signature}
use Rattle.pc_detail_texts.specs.Details.{Callable, Sink}
use Rattle.pc_detail_facts.specs.declared.facts.Facts.{Facts}
use Rattle.pc_detail_facts.specs.declared.known.Known.{Known as RustKnown}
use Rattle.pc_detail_facts.specs.Callees.{name_of_parameter, parameters_in, takes_names_in, type_of_parameter}
use Rattle.pc_flow_details.specs.Goes.{named_sink}
use Rattle.pc_detail_facts.specs.Held.{flow_held, known_held, module_held}
use Rattle.pc_flow_details.specs.Kept.{FlowDetails, first_of_both, flows_to_sinks}
use Rattle.pc_detail_rules.specs.Sinks.{SinkAt, named_in, positional_in, sink_of_parameter, written_sink}
use Rattle.pc_detail_rules.specs.ToldTypes.{told_among}
use Rattle.pc_detail_rules.specs.Written.{written_at, annotation_by_name}
use Rattle.pc_detail_facts.proofs.Held.{none_at}
use Rattle.pc_flow_details.proofs.Kept.{none_into, or_none}
use Rattle.pc_flow_details.proofs.KeptFlow.{there}

-- the sink of a value of this type, if there is one, with this annotation
abbrev pub sinks_typed : Place → Sink Tree → Option Ann → Option Tree → List SinkAt
sinks_typed place s a None = []
sinks_typed place s a (Some t) = written_sink place s t a ∷ []

by_parameter : (place : Place) (what : Callable Tree) (takes_names : Bool) (a : Option Ann) (o : Option TypedParameter)
    → sink_of_parameter place what takes_names a o
    ≡ sinks_typed place (named_sink takes_names (name_of_parameter o) what) a (type_of_parameter o)
by_parameter place what true a None = refl
by_parameter place what false a None = refl
by_parameter place what true a (Some q) = refl
by_parameter place what false a (Some q) = refl

-- the sink of an argument at a position is that of the parameter there
pub positional_is : (place : Place) (k : ℕ) (what : Callable Tree) (annotations : List (Option Ann))
    (s : Option Signature) → positional_in place k what annotations s ≡ sinks_typed place
    (named_sink (takes_names_in s) (name_of_parameter (slice_get (parameters_in s) k)) what)
    (written_at annotations k) (type_of_parameter (slice_get (parameters_in s) k))
positional_is place k what annotations None = ap (λ (o : Option TypedParameter). sinks_typed place
    (named_sink false (name_of_parameter o) what) (written_at annotations k) (type_of_parameter o)) (none_at k)
positional_is place k what annotations (Some s) =
    by_parameter place what s.takes_names (written_at annotations k) (slice_get s.parameters k)

-- the parameter at the position of a name is that of the name
pub seat_of : (word : List ℕ) (ps : List TypedParameter)
    → option_and_then (slice_get ps) (index_of_parameter ps word) ≡ field_by_name ps word
seat_of word [] = refl
seat_of word (p ∷ ps) = by (seat_of word ps) (bytes_eq word p.name)
  where
    later : (o : Option ℕ) → option_and_then (slice_get (p ∷ ps)) (option_map suc o) ≡ option_and_then (slice_get ps) o
    later None = refl
    later (Some k) = refl

    by : option_and_then (slice_get ps) (index_of_parameter ps word) ≡ field_by_name ps word → (b : Bool)
        → option_and_then (slice_get (p ∷ ps)) (cond b (Some zero) (option_map suc (index_of_parameter ps word)))
        ≡ cond b (Some p) (field_by_name ps word)
    by e true = refl
    by e false = later (index_of_parameter ps word) ∙ e

-- an argument by name goes to the parameter of the name
pub named_is : (place : Place) (word : List ℕ) (what : Callable Tree) (annotations : List (Option Ann))
    (s : Option Signature) (k : ℕ) → Some k ≡ index_of_parameter (parameters_in s) word
    → positional_in place k what annotations s ≡ named_in place word what annotations s
named_is place word what annotations None k e = refl
named_is place word what annotations (Some s) k e =
    ap₂ (sink_of_parameter place what s.takes_names) (ap (option_and_then (written_at annotations)) e)
    (ap (option_and_then (slice_get s.parameters)) e ∙ seat_of word s.parameters)

pub named_none : (place : Place) (word : List ℕ) (what : Callable Tree) (annotations : List (Option Ann))
    (s : Option Signature) → None ≡ index_of_parameter (parameters_in s) word
    → named_in place word what annotations s ≡ []
named_none place word what annotations None e = refl
named_none place word what annotations (Some s) e =
    ap (sink_of_parameter place what s.takes_names (annotation_by_name s.parameters annotations word))
    (sym (ap (option_and_then (slice_get s.parameters)) e ∙ seat_of word s.parameters))

-- ---- a search for a name

module _ (word : List ℕ) where
  -- the position of the first of these parameters with the name, given that of the first of them
  abbrev pub index_from : ℕ → List TypedParameter → Option ℕ
  index_from i [] = None
  index_from i (p ∷ ps) = cond (bytes_eq word p.name) (Some i) (index_from (suc i) ps)

  pub found_here : (ps : List TypedParameter) (n i : ℕ) → i < length ps
      → bytes_eq word (name_of_parameter (slice_get ps i)) ≡ true → Some (n + i) ≡ index_from (n + i) (drop i ps)
  found_here [] n i h e = absurd (omega arith)
  found_here (p ∷ ps) n zero h e = ap (λ b. cond b (Some (n + 0)) (index_from (suc (n + 0)) ps)) (sym e)
  found_here (p ∷ ps) n (suc i) h e =
      let next : suc n + i ≡ n + suc i = omega arith in
      subst (λ k. Some k ≡ index_from k (drop i ps)) next (found_here ps (suc n) i (omega arith) e)

  pub passed_here : (ps : List TypedParameter) (i j : ℕ) → suc i ≡ j → i < length ps
      → bytes_eq word (name_of_parameter (slice_get ps i)) ≡ false → (k : ℕ)
      → index_from (suc k) (drop j ps) ≡ index_from k (drop i ps)
  passed_here ps i j same h e k = ap (λ l. index_from (suc k) (drop l ps)) (sym same) ∙ passed ps i h e k
    where
      passed : (ps : List TypedParameter) (i : ℕ) → i < length ps
          → bytes_eq word (name_of_parameter (slice_get ps i)) ≡ false → (k : ℕ)
          → index_from (suc k) (drop (suc i) ps) ≡ index_from k (drop i ps)
      passed [] i h e k = absurd (omega arith)
      passed (p ∷ ps) zero h e k = ap (λ b. cond b (Some k) (index_from (suc k) ps)) (sym e)
      passed (p ∷ ps) (suc i) h e k = passed ps i (omega arith) e k

  -- no parameter is left
  pub none_left : (ps : List TypedParameter) (i k : ℕ) → length ps ≤ i → None ≡ index_from k (drop i ps)
  none_left ps i k h = sym (ap (index_from k) (drop_of_length-le ps h))

  moved : (n i : ℕ) (o : Option ℕ) → option_map (λ k. k + suc i) o ≡ option_map (λ k. k + i) (option_map suc o)
  moved n i None = refl
  moved n i (Some k) = let same : k + suc i ≡ suc k + i = omega arith in ap Some same

  from_is : (i : ℕ) (ps : List TypedParameter) → index_from i ps ≡ option_map (λ k. k + i) (index_of_parameter ps word)
  from_is i [] = refl
  from_is i (p ∷ ps) = by (from_is (suc i) ps) (bytes_eq word p.name)
    where
      by : index_from (suc i) ps ≡ option_map (λ k. k + suc i) (index_of_parameter ps word) → (b : Bool)
          → cond b (Some i) (index_from (suc i) ps)
          ≡ option_map (λ k. k + i) (cond b (Some zero) (option_map suc (index_of_parameter ps word)))
      by e true = let same : i ≡ 0 + i = omega arith in ap Some same
      by e false = e ∙ moved i i (index_of_parameter ps word)

  -- from the first parameter on it is that of the first with the name
  pub from_first : (ps : List TypedParameter) → index_from 0 ps ≡ index_of_parameter ps word
  from_first ps = from_is 0 ps ∙ by (index_of_parameter ps word)
    where
      by : (o : Option ℕ) → option_map (λ k. k + 0) o ≡ o
      by None = refl
      by (Some k) = let same : k + 0 ≡ k = omega arith in ap Some same

-- ---- a place without a flow

first_none : (a b : Option (Tree × Tree)) → (is_some a || is_some b) ≡ false → a ≡ None
first_none None b h = refl
first_none (Some x) b h = cc

second_none : (a b : Option (Tree × Tree)) → (is_some a || is_some b) ≡ false → b ≡ None
second_none None None h = refl
second_none None (Some x) h = cc
second_none (Some y) b h = cc

-- no flow is known there
pub held_none : (k : RustKnown) (p : Place) → (is_some (flow_held k E12 p) || is_some (flow_held k A1 p)) ≡ false
    → (c : Code) → flow_held k c p ≡ None
held_none k p h E12 = first_none (flow_held k E12 p) (flow_held k A1 p) h
held_none k p h c = second_none (flow_held k E12 p) (flow_held k A1 p) h

-- sinks that take nothing
pub nothing_into : (f : Facts) (x : FlowDetails) (ss : List SinkAt) → ss ≡ []
    → x ≡ first_of_both x (flows_to_sinks f ss)
nothing_into f x ss e = sym (ap (λ (l : List SinkAt). first_of_both x (flows_to_sinks f l)) e ∙ none_into f x)

one_unflowing : (f : Facts) (s : SinkAt) (x : FlowDetails) → ((c : Code) → (known_held f).flows c s.place ≡ None)
    → x ≡ first_of_both x (flows_to_sinks f (s ∷ []))
unfolding first_of_both flows_to_sinks
one_unflowing f s x h = λ i c p. (sym (ap (option_or (x c p))
    (sym (there (module_held f) s p ((known_held f).flows c)) ∙ ap (told_among (module_held f) (s ∷ []) p) (h c))
    ∙ or_none (x c p))) i

-- the sink of a value where nothing flows
pub unflowing : (f : Facts) (place : Place) (s : Sink Tree) (a : Option Ann) (o : Option Tree) (x : FlowDetails)
    → ((c : Code) → (known_held f).flows c place ≡ None)
    → x ≡ first_of_both x (flows_to_sinks f (sinks_typed place s a o))
unflowing f place s a None x h = nothing_into f x [] refl
unflowing f place s a (Some t) x h = one_unflowing f (written_sink place s t a) x h
