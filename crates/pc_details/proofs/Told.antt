-- Details as they are told: flows by the annotations of their targets, all others by their types alone.
use Rattle.std.proofs.Common.{◌≡◌, ◌∙◌, List, Option, Some, None, refl, sym, ap}
use Rattle.std.specs.Prelude.{find}
use Rattle.std.specs.Option.{option_and_then, option_map}
use Rattle.pc_source.specs.declared.place.Place.{Place}
use Rattle.pc_tree.specs.declared.code.Code.{Code}
use Rattle.pc_tree.specs.declared.code.Code.TheVariants.{A1, E12}
use Rattle.pc_tree.specs.Tree.{Ann, Module}
use Rattle.pc_types.specs.Tree.{Tree}
use Rattle.pc_detail_texts.specs.Details as detail
use Rattle.pc_detail_texts.specs.Details.{Detail}
use Rattle.pc_detail_texts.specs.Mapped.{map_detail}
use Rattle.pc_detail_rules.specs.Explains.{annotation_for, detail_for}
use Rattle.pc_detail_rules.specs.Facts.{Known}
use Rattle.pc_detail_rules.specs.Sinks.{SinkAt, annotation_among, flow_among, sinks_of, takes_into}
use Rattle.pc_detail_rules.specs.ToldTypes.{told_among, told_detail, told_flow, told_type}
use Rattle.pc_detail_facts.specs.declared.facts.Facts.{Facts}
use Rattle.pc_detail_facts.specs.Held.{known_held, module_held, text_held}
use Rattle.pc_details.specs.Made.{flow_told, told_at}

-- ---- flows

-- a flow as it is told is its detail as it is told, with the annotation of its target
among_told : (m : Module) (ss : List SinkAt) (p : Place) (types : Option (Tree × Tree))
    → told_among m ss p types ≡ option_map (told_detail m (annotation_among ss p types)) (flow_among ss p types)
among_told m ss p None = refl
among_told m ss p (Some st) = by (find (takes_into p st.1) ss)
  where
    by : (o : Option SinkAt) → option_map (told_flow m st.0 st.1) o
        ≡ option_map (told_detail m (option_and_then (λ (s : SinkAt). s.written) o))
        (option_map (detail.flow st.0 st.1) (option_map (λ (s : SinkAt). s.sink) o))
    by None = refl
    by (Some s) = refl

module _ (f : Facts) (p : Place) where
  abbrev sinks : List SinkAt
  sinks = sinks_of (module_held f) (known_held f)

  -- a wrong flow, and a dynamic one
  pub wrong_told : flow_told f E12 p ≡ told_at f p E12
  wrong_told = among_told (module_held f) sinks p ((known_held f).flows E12 p)

  pub dynamic_told : flow_told f A1 p ≡ told_at f p A1
  dynamic_told = among_told (module_held f) sinks p ((known_held f).flows A1 p)

-- ---- other codes

-- without an annotation all types are told as they are
pub told_plainly : (m : Module) (d : Detail Tree) → told_detail m None d ≡ map_detail (told_type m) d
told_plainly m (detail.flow s t sink) = refl
told_plainly m d = refl

no_annotation : (m : Module) (known : Known) (p : Place) (c : Code) → ¬ (c ≡ E12) → ¬ (c ≡ A1)
    → annotation_for m known p c ≡ None
no_annotation m known p A1 w d = absurd (d refl)
no_annotation m known p E12 w d = absurd (w refl)
no_annotation m known p c w d = refl

plain_if_any : (m : Module) (o : Option (Detail Tree))
    → option_map (told_detail m None) o ≡ option_map (map_detail (told_type m)) o
plain_if_any m None = refl
plain_if_any m (Some d) = ap Some (told_plainly m d)

-- the detail of a code that is not of a flow
pub told_otherwise : (f : Facts) (p : Place) (c : Code) → ¬ (c ≡ E12) → ¬ (c ≡ A1)
    → option_map (map_detail (text_held f)) (detail_for (module_held f) (known_held f) p c) ≡ told_at f p c
told_otherwise f p c w d =
    let m = module_held f in
    let o = detail_for m (known_held f) p c in
    sym (ap (λ (a : Option Ann). option_map (told_detail m a) o) (no_annotation m (known_held f) p c w d)
    ∙ plain_if_any m o)
