use Rattle.std.proofs.Common.{◌≡◌, ◌∙◌, ◌∷◌, [], List, ℕ, ap, cond, length, sym, true, false}
use Rattle.std.specs.Prelude.{Some, bytes_eq, is_some}
use Rattle.pc_shared_maps.specs.NameMaps.{named_at}
use Rattle.pc_detail_facts.specs.Annotated.{name_of_field}
use Rattle.pc_detail_facts.proofs.FieldMaps.{field_known, field_new, fields_same}
use Rattle.pc_detail_facts.proofs.annotations.FieldAnnotations.add_field.Goals as goal

pub returns-then-has-clause-kept : goal.returns-then-has-clause-kept
returns-then-has-clause-kept c = fields_same c.args.self.now

pub returns-then-has-clause-held : goal.returns-then-has-clause-held
returns-then-has-clause-held c = λ those h.
    let d = c.args.self.now.named in
    let known : is_some (named_at d c.args.map (name_of_field c.args.field)) ≡ true =
    ap (λ (t : List ℕ). is_some (named_at d c.args.map t)) (sym c.as_str-name.ensures.value)
    ∙ sym c.has.ensures ∙ c.if-has.true in
    field_known c.args.self.now those c.args.map h c.args.field known

pub returns-clause-kept : goal.returns-clause-kept
returns-clause-kept c = record {
  named = c.in_ok-new.ensures.kept;
  more = c.args.field ∷ [];
  fields = c.in_ok-push.ensures.items;
}

pub returns-clause-held : goal.returns-clause-held
returns-clause-held c = λ those h.
    let d = c.args.self.now.named in
    let unknown : is_some (named_at d c.args.map (name_of_field c.args.field)) ≡ false =
    ap (λ (t : List ℕ). is_some (named_at d c.args.map t)) (sym c.as_str-name.ensures.value)
    ∙ sym c.has.ensures ∙ c.if-has.false in
    field_new c.args.self.now those c.args.map h c.args.field _ c.in_ok-new.new unknown c.in_ok-new.ensures.within
    (λ n. c.in_ok-new.ensures.value n
    ∙ ap (λ (t : List ℕ). cond (bytes_eq n t) (Some c.len-number.result) (named_at d c.args.map n))
    c.as_str-name.ensures.value
    ∙ ap (λ (k : ℕ). cond (bytes_eq n (name_of_field c.args.field)) (Some k) (named_at d c.args.map n))
    (c.len-number.ensures ∙ c.args.self.now.fields.ok.0)) c.in_ok-push.ensures.items
