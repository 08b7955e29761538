use Rattle.std.proofs.Common.{◌≡◌, ◌<◌, ◌++◌, ◌∷◌, [], List, length, refl, sym, subst, arith}
use Rattle.std.proofs.lemmas.Option.{slice_get_read}
use Rattle.pc_shared_maps.specs.SharedLists.{AreNamed}
use Rattle.pc_class.specs.declared.table.Parameter.{Parameter as RustParameter}
use Rattle.pc_class.specs.FieldLists.{IsListOf}
use Rattle.pc_class.specs.Parts.{items_in_span}
use Rattle.pc_class.proofs.ListsOfFields.{lists_on, list_more, part_next}
use Rattle.pc_class.proofs.TableFields.{span}
use Rattle.pc_class.proofs.field_lists.add_fields.Goals as goal

pub loop-number-preserved : goal.loop-number-preserved
loop-number-preserved g c =
    let fields = c.args.fields.now in
    let v = c.loop-number.invariant in
    let s = c.loop-number.lists in
    let t = c.push.new.self in
    let x = c.index-fields-number.result in
    let number = c.loop-number.number in
    let start = c.args.span.start in
    let longer = c.in_ok-longer.longer in
    let pushed = c.in_ok-longer.ensures in
    let order = v.order in
    let test = c.loop-number-test.true in
    let end = c.requires.span.within in
    let less : number < length fields = omega (arith, test, end) in
    record {
      order = omega (arith, order);
      within = omega (arith, test);
      room = pushed.room;
      kept = lists_on c.args.lists.now s t v.kept pushed.kept;
      list = λ before h. subst (λ (these : List (RustParameter _)). IsListOf fields t these longer)
          (sym (part_next fields before start number x order less c.index-fields-number.is))
          (list_more fields (before ++ items_in_span fields (span start number)) s t c.loop-number.longer longer x number _
          (v.list before h) (slice_get_read fields (length fields) number x refl less c.index-fields-number.is) refl
          pushed.room pushed.count pushed.needed
          (λ names are many. subst (λ (name : List _). AreNamed t longer (names ++ name ∷ [])) c.as_str.ensures.value
          (pushed.names names are many)) pushed.list_places);
    }

pub returns-clause-list : goal.returns-clause-list
returns-clause-list g c before h =
    let v = c.loop-number.invariant in
    let test = c.loop-number-test.false in
    let within = v.within in
    let last : c.loop-number.number ≡ c.args.span.end = omega (arith, test, within) in
    subst (λ n. IsListOf c.args.fields.now c.loop-number.lists
    (before ++ items_in_span c.args.fields.now (span c.args.span.start n)) c.loop-number.longer) last (v.list before h)
