use Rattle.std.proofs.Common.{refl, ap}
use Rattle.pc_tree.specs.Tree.{member_of, field_of}
use Rattle.pc_class.specs.Entries.{entry_seen}
use Rattle.pc_class.specs.Outlines.{field_name, own_field}
use Rattle.pc_class.specs.Tables.{HasParameter, parameter_with}
use Rattle.pc_class.specs.Parts.{parameter_name}
use Rattle.pc_annotations.specs.ModuleOutlines.{module_in}
use Rattle.pc_class.proofs.Annotations.{field_bound, no_field, unbound_field}
use Rattle.pc_class.proofs.Walking.{added_one, added_none}
use Rattle.pc_class.proofs.adding.add_own_field.Goals as goal

pub returns-in_ok-new-in-Field-clause-added : goal.returns-in_ok-new-in-Field-clause-added
returns-in_ok-new-in-Field-clause-added g c front back h other =
    let m = module_in c.args.outline.now in
    let tree = g.S.TypeStore.tree in
    let has = HasParameter (g.S.TypeStore.has c.read_field.new.reader.store.now) in
    let x = c.in_ok-parameter-in-Field.parameter in
    let e = entry_seen c.args.entry.now in
    added_one parameter_name field_name (parameter_with tree) (λ y. refl) has c.add_member.new.named
    c.args.fields.now.items c.add_member.new.members.items c.in_ok-new-in-Field.new front back x _
    (own_field m e) (field_bound m e (field_of c.in-Field.field) (ap member_of c.in-Field.is) c.if-not-entry.false)
    c.in_ok-parameter-in-Field.ensures.means
    c.in_ok-parameter-in-Field.ensures.given c.in_ok-new-in-Field.ensures.members other
    (c.in_ok-new-in-Field.ensures.held front back h)

pub returns-then-not-entry-clause-added : goal.returns-then-not-entry-clause-added
returns-then-not-entry-clause-added g c front back h other =
    let m = module_in c.args.outline.now in
    let tree = g.S.TypeStore.tree in
    let e = entry_seen c.args.entry.now in
    added_none parameter_name field_name (parameter_with tree) (λ y. refl) _ c.args.named.now
    c.args.fields.now.items c.args.at front back (own_field m e) (unbound_field m e c.if-not-entry.true) h

pub returns-in-Method-clause-added : goal.returns-in-Method-clause-added
returns-in-Method-clause-added g c front back h other =
    let m = module_in c.args.outline.now in
    let tree = g.S.TypeStore.tree in
    let e = entry_seen c.args.entry.now in
    added_none parameter_name field_name (parameter_with tree) (λ y. refl) _ c.args.named.now
    c.args.fields.now.items c.args.at front back (own_field m e)
    (no_field m e _ (ap member_of c.in-Method.is)) h
