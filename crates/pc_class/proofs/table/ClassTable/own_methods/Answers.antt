use Rattle.std.proofs.Common.{◌<◌, ◌∙◌, ◌≤◌, ◌++◌, ◌≡◌, List, length, sym, ap, subst, refl, arith}
use Rattle.std.specs.Prelude.{slice_index_or}
use Rattle.std.proofs.lemmas.Option.{slice_get_read}
use Rattle.pc_class.specs.declared.table.Method.{Method as RustMethod}
use Rattle.pc_class.specs.Parts.{items_in_span, classes_of_table}
use Rattle.pc_class.specs.Tables.{ClassEntry, empty_entry, inherited_entry}
use Rattle.pc_class.proofs.TableFields.{methods_over}
use Rattle.pc_class.proofs.table.ClassTable.own_methods.Goals as goal

pub items_within-requires-clause-order : goal.items_within-requires-clause-order
items_within-requires-clause-order g c =
    let p = c.self.inside.parts in
    let n = c.index-node.result.now in
    let asked = c.requires in
    let seen = ap length c.self.view_is in
    let many = c.self.invariant.0.many in
    let less : c.args.class < length p.classes.items = omega arith in
    let is = slice_get_read p.classes.items (length p.classes.items) c.args.class n refl less c.index-node.ensures in
    (c.self.invariant.0.each c.args.class n is).own_methods.order

pub items_within-requires-clause-within : goal.items_within-requires-clause-within
items_within-requires-clause-within g c =
    let p = c.self.inside.parts in
    let n = c.index-node.result.now in
    let asked = c.requires in
    let seen = ap length c.self.view_is in
    let many = c.self.invariant.0.many in
    let less : c.args.class < length p.classes.items = omega arith in
    let is = slice_get_read p.classes.items (length p.classes.items) c.args.class n refl less c.index-node.ensures in
    subst (λ k. n.methods.end ≤ k) (sym (ap length c.deref.ensures.value))
    (c.self.invariant.0.each c.args.class n is).own_methods.within

pub returns : goal.returns
returns g c =
    let p = c.self.inside.parts in
    let n = c.index-node.result.now in
    let own = c.items_within.result.now in
    let asked = c.requires in
    let seen = ap length c.self.view_is in
    let many = c.self.invariant.0.many in
    let less : c.args.class < length p.classes.items = omega arith in
    let is = slice_get_read p.classes.items (length p.classes.items) c.args.class n refl less c.index-node.ensures in
    let same = c.items_within.ensures ∙ ap (λ (xs : List (RustMethod _)). items_in_span xs n.methods) c.deref.ensures.value in
    let over = methods_over p.named p.fields.items p.methods.items p.classes.items (classes_of_table p) c.self.invariant.0
    c.args.class n is own same in
    record {
      over = subst (λ (es : List (ClassEntry _)). (slice_index_or es c.args.class empty_entry).methods ≡ own
          ++ (inherited_entry es (slice_index_or es c.args.class empty_entry).base).methods) c.self.view_is over;
    }
