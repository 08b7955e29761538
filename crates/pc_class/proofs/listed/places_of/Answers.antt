use Rattle.std.proofs.Common.{◌∙◌, sym, ap, List, ℕ}
use Rattle.std.specs.Map.{lookup}
use Rattle.std.specs.Prelude.{bytes_eq, string_bytes, is_some}
use Rattle.pc_class.specs.declared.table.Parameter.{Parameter as RustParameter}
use Rattle.pc_class.specs.Listed.{parameter_name}
use Rattle.pc_class.proofs.Listings.{place_put, place_there}
use Rattle.pc_class.proofs.listed.places_of.Goals.{then-not-contains_key+in_ok-from_str+in_ok-insert}
use Rattle.pc_class.proofs.listed.places_of.Goals.{else-not-contains_key}
use Rattle.pc_class.proofs.listed.places_of.Goals as goal

pub loop-i-preserved : goal.loop-i-preserved
loop-i-preserved g c word =
    let es = c.loop-i.places.entries in
    let held = λ (t : List ℕ). is_some (lookup (λ x. bytes_eq t (string_bytes x)) es) in
    elim c.if-not-contains_key.branch [
      | then-not-contains_key+in_ok-from_str+in_ok-insert w ↦
          ap (λ m. lookup (λ x. bytes_eq word (string_bytes x)) m.entries) w.places-is
          ∙ ap (lookup (λ x. bytes_eq word (string_bytes x))) w.in_ok-insert.ensures.entries
          ∙ place_put c.args.params.now c.loop-i.i c.index-params-i.result c.loop-i-test.true c.index-params-i.is es
          c.loop-i.invariant w.in_ok-from_str.field-0
          (w.in_ok-from_str.ensures.ok ∙ c.as_str-name.ensures.value ∙ ap parameter_name (sym c.index-params-i.is))
          (ap (λ (p : RustParameter _). held (parameter_name p)) c.index-params-i.is
          ∙ ap held (sym c.as_str-name.ensures.value) ∙ sym c.contains_key.ensures ∙ w.if-not-contains_key.true)
          word
      | else-not-contains_key w ↦
          ap (λ m. lookup (λ x. bytes_eq word (string_bytes x)) m.entries) w.places-is
          ∙ place_there c.args.params.now c.loop-i.i c.index-params-i.result c.loop-i-test.true c.index-params-i.is es
          c.loop-i.invariant
          (ap (λ (p : RustParameter _). held (parameter_name p)) c.index-params-i.is
          ∙ ap held (sym c.as_str-name.ensures.value) ∙ sym c.contains_key.ensures ∙ w.if-not-contains_key.false)
          word
    ]
