use Rattle.std.proofs.Common.{◌<◌, ◌≤◌, ◌++◌, List, [], length, refl, sym, subst, arith}
use Rattle.std.proofs.lemmas.Option.{slice_get_read}
use Rattle.pc_shared_maps.specs.SharedLists.{empty_list}
use Rattle.pc_class.specs.FieldLists.{IsListOf}
use Rattle.pc_class.specs.Parts.{items_in_span, classes_of_table, IsSpan}
use Rattle.pc_class.specs.Tables.{inherited_entry}
use Rattle.pc_class.proofs.ListsOfFields.{list_kept, inherited_list, class_lists, many_more, each_more}
use Rattle.pc_class.proofs.TableFields.{fields_over}
use Rattle.pc_class.proofs.field_lists.ClassLists.new.Goals as goal

pub add_fields-requires-clause-room : goal.add_fields-requires-clause-room
add_fields-requires-clause-room g c =
    let p = c.args.parts.now in
    let n = c.index-node.result.now in
    let v = c.loop-class.invariant in
    let class = c.loop-class.class in
    let long = c.len-class-end.ensures in
    let test = c.loop-class-test.true in
    let less : class < length p.classes.items = omega arith in
    let is = slice_get_read p.classes.items (length p.classes.items) class n refl less c.index-node.ensures in
    let inherited = inherited_list p.fields.items c.loop-class.lists (classes_of_table p) c.loop-class.classes.items class
    v.none v.each n.base (c.requires.each class n is).before c.deref.result.now c.list_at-inherited.result
    c.deref.ensures.value c.list_at-inherited.ensures in
    inherited.room

pub add_fields-requires-clause-span : goal.add_fields-requires-clause-span
add_fields-requires-clause-span g c =
    let p = c.args.parts.now in
    let n = c.index-node.result.now in
    let class = c.loop-class.class in
    let long = c.len-class-end.ensures in
    let test = c.loop-class-test.true in
    let less : class < length p.classes.items = omega arith in
    let is = slice_get_read p.classes.items (length p.classes.items) class n refl less c.index-node.ensures in
    subst (λ (xs : List _). IsSpan (length xs) n.fields) (sym c.deref-in-loop-class.ensures.value)
    (c.requires.each class n is).own_fields

pub loop-class-preserved : goal.loop-class-preserved
loop-class-preserved g c =
    let p = c.args.parts.now in
    let n = c.index-node.result.now in
    let v = c.loop-class.invariant in
    let s = c.loop-class.lists in
    let t = c.add_fields.new.lists in
    let es = classes_of_table p in
    let class = c.loop-class.class in
    let classes = c.loop-class.classes.items in
    let list = c.in_ok-list.list in
    let these = (inherited_entry es n.base).fields in
    let long = c.len-class-end.ensures in
    let test = c.loop-class-test.true in
    let less : class < length p.classes.items = omega arith in
    let is = slice_get_read p.classes.items (length p.classes.items) class n refl less c.index-node.ensures in
    let inherited = inherited_list p.fields.items s es classes class v.none v.each n.base
    (c.requires.each class n is).before c.deref.result.now c.list_at-inherited.result c.deref.ensures.value
    c.list_at-inherited.ensures in
    let all = c.deref-in-loop-class.ensures.value in
    let added = c.in_ok-list.ensures.list these
    (subst (λ (fs : List _). IsListOf fs s these c.list_at-inherited.result) (sym all) inherited) in
    let here = subst (λ (ps : List _). IsListOf p.fields.items t ps list)
    (sym (fields_over p.named p.fields.items p.methods.items p.classes.items es c.requires class n is))
    (subst (λ (fs : List _). IsListOf fs t (these ++ items_in_span fs n.fields) list) all added) in
    record {
      many = many_more p.fields.items s es classes class v.none v.each t c.push.new.self.items list v.many
          c.in_ok-list.ensures.kept c.in_ok-push.ensures.items here;
      none = list_kept s t c.in_ok-list.ensures.kept p.fields.items [] empty_list v.none;
      each = each_more p.fields.items s es classes class v.none v.each t c.push.new.self.items list v.many
          c.in_ok-list.ensures.kept c.in_ok-push.ensures.items here;
    }

pub returns : goal.returns
returns g c =
    let p = c.args.parts.now in
    let v = c.loop-class.invariant in
    let long = c.len-class-end.ensures in
    let test = c.loop-class-test.false in
    let many = c.requires.many in
    let all : length (classes_of_table p) ≤ c.loop-class.class = omega arith in
    class_lists p.fields.items c.loop-class.lists (classes_of_table p) c.loop-class.classes.items c.loop-class.class v.none
    v.each v.many all
