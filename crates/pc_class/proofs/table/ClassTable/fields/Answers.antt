use Rattle.std.proofs.Common.{◌<◌, ◌∙◌, length, map, sym, ap, arith, Vec}
use Rattle.std.specs.Option.{option_map}
use Rattle.pc_class.specs.FieldLists.{fields_in}
use Rattle.pc_class.specs.Parts.{lent_parameter}
use Rattle.pc_class.proofs.ListsOfFields.{one_taken, past_end}
use Rattle.pc_class.proofs.table.ClassTable.fields.Goals.{in-Some+in_ok-push, in_default}
use Rattle.pc_class.proofs.table.ClassTable.fields.Goals as goal

pub loop-place-preserved : goal.loop-place-preserved
loop-place-preserved g c =
    let these = fields_in c.args.self.now c.args.class in
    let place = c.loop-place.place in
    let taken = c.loop-place.invariant.taken in
    let count = c.field_count-count.ensures in
    let test = c.loop-place-test.true in
    let less : place < length these = omega (arith, count, test) in
    record {
      within = omega (arith, less);
      taken = elim c.match-field_at.branch [
        | in-Some+in_ok-push w ↦
            ap (λ (v : Vec _ _). map lent_parameter v.items) w.fields-is
            ∙ ap (map lent_parameter) w.in_ok-push.ensures.items
            ∙ one_taken lent_parameter c.loop-place.fields.items these place w.in-Some.field taken
            (ap (option_map lent_parameter) (sym w.in-Some.is) ∙ c.field_at.ensures)
        | in_default w ↦
            let past = past_end these place (ap (option_map lent_parameter) (sym w.in_default.is) ∙ c.field_at.ensures) in
            absurd (omega (arith, less, past))
      ];
    }
