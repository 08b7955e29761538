use Rattle.std.proofs.Common.{◌∙◌, List, sym, ap, subst, arith}
use Rattle.std.specs.Prelude.{slice_get}
use Rattle.pc_class.specs.Outlines.{IsMapOf}
use Rattle.pc_class.specs.Parts.{stored_method_name, entry_over, classes_of_table}
use Rattle.pc_class.specs.Tables.{ClassEntry}
use Rattle.pc_class.proofs.TableReads.{node_there, method_read, method_listed}
use Rattle.pc_class.proofs.table.ClassTable.method.Goals as goal

pub member_named-requires : goal.member_named-requires
member_named-requires g c =
    let node = node_there c.self.inside.parts c.self.invariant.0 c.args.class c.index.result.now c.index.ensures
    (omega (arith, c.if-class-len.false, c.len.ensures)) in
    node.methods_held.is_map

pub returns-clause-value : goal.returns-clause-value
returns-clause-value g c tree =
    let p = c.self.inside.parts in
    let node = node_there p c.self.invariant.0 c.args.class c.index.result.now c.index.ensures
    (omega (arith, c.if-class-len.false, c.len.ensures)) in
    let these = (entry_over p.fields.items p.methods.items (classes_of_table p) c.index.result.now).methods in
    method_read tree c.args.self.now c.args.class _
    (ap (λ (es : List (ClassEntry _)). slice_get es c.args.class) (sym c.self.view_is) ∙ node.is) c.args.name.now
    c.member_named.result (c.member_named.ensures stored_method_name these
    (subst (λ (xs : List _). IsMapOf stored_method_name p.named xs
    c.index.result.now.held.methods these) (sym c.deref.ensures.value) node.methods_held))

pub returns-clause-listed : goal.returns-clause-listed
returns-clause-listed g c =
    let p = c.self.inside.parts in
    let node = node_there p c.self.invariant.0 c.args.class c.index.result.now c.index.ensures
    (omega (arith, c.if-class-len.false, c.len.ensures)) in
    let these = (entry_over p.fields.items p.methods.items (classes_of_table p) c.index.result.now).methods in
    method_listed c.args.self.now c.args.class _
    (ap (λ (es : List (ClassEntry _)). slice_get es c.args.class) (sym c.self.view_is) ∙ node.is) c.args.name.now
    c.member_named.result (c.member_named.ensures stored_method_name these
    (subst (λ (xs : List _). IsMapOf stored_method_name p.named xs
    c.index.result.now.held.methods these) (sym c.deref.ensures.value) node.methods_held))
