use Rattle.std.proofs.Common.{rules, ◌≡◌, ◌∙◌, false, sym, ap, subst, Bor}
use Rattle.std.specs.Prelude.{is_some, option_map}
use Rattle.std.specs.BTreeMap.{get}
use Rattle.pc_types.specs.declared.boxed.BoxType.{BoxType}
use Rattle.pc_notes.specs.Texts.{place_cmp}
use Rattle.pc_notes.proofs.FirstTypes.{left_out, known_at, new_at}
use Rattle.pc_notes.proofs.by_place.keep_type.Goals as goal

pub returns-in_default : goal.returns-in_default
returns-in_default c = λ entries has. left_out entries c.args.entry.now c.args.types.now
    (sym c.label_type.ensures ∙ ap (option_map (λ (t : Bor BoxType). t.now)) c.in_default.is) has

pub returns-then-contains_key : goal.returns-then-contains_key
returns-then-contains_key c = λ entries has. known_at entries c.args.entry.now c.args.types.now c.place-place.result
    c.place-place.ensures (sym c.contains_key.ensures ∙ c.if-contains_key.true) has

pub returns : goal.returns
returns c = λ entries has. new_at entries c.args.entry.now c.in-Some.ty c.args.types.now c.insert.new.self
    (sym c.label_type.ensures ∙ ap (option_map (λ (t : Bor BoxType). t.now)) c.in-Some.is)
    (subst (λ p. is_some (get place_cmp c.args.types.now p) ≡ false) c.place-place.ensures
    (sym c.contains_key.ensures ∙ c.if-contains_key.false))
    c.in_ok-insert.ensures.updates.0 has (search rules)
