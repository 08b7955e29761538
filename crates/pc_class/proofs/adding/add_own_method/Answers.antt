use Rattle.std.proofs.Common.{refl, ap}
use Rattle.pc_tree.specs.Tree.{member_of, func_of}
use Rattle.pc_class.specs.Entries.{entry_seen}
use Rattle.pc_class.specs.Outlines.{method_name as class_method_name, own_method}
use Rattle.pc_class.specs.Tables.{HasMethod, method_with}
use Rattle.pc_class.specs.Parts.{stored_method_name}
use Rattle.pc_annotations.specs.ModuleOutlines.{module_in}
use Rattle.pc_class.proofs.Annotations.{method_bound, no_method, unbound_method}
use Rattle.pc_class.proofs.Walking.{added_one, added_none}
use Rattle.pc_class.proofs.adding.add_own_method.Goals as goal

pub returns-in_ok-new-in-Method-clause-added : goal.returns-in_ok-new-in-Method-clause-added
returns-in_ok-new-in-Method-clause-added g c front back h other =
    let m = module_in c.args.class.now.outline.now in
    let tree = g.S.TypeStore.tree in
    let has = HasMethod (g.S.TypeStore.has c.read_method.new.reader.store.now) in
    let x = c.in_ok-method-in-Method.method in
    let e = entry_seen c.args.entry.now in
    added_one stored_method_name class_method_name (method_with tree) (λ y. refl) has c.add_member.new.named
    c.args.methods.now.items c.add_member.new.members.items c.in_ok-new-in-Method.new front back x _
    (own_method m c.args.class.now.number e) (method_bound m c.args.class.now.number e (func_of c.in-Method.def)
    (ap member_of c.in-Method.is) c.if-not-entry.false)
    c.in_ok-method-in-Method.ensures.means c.in_ok-method-in-Method.ensures.given
    c.in_ok-new-in-Method.ensures.members other (c.in_ok-new-in-Method.ensures.held front back h)

pub returns-then-not-entry-clause-added : goal.returns-then-not-entry-clause-added
returns-then-not-entry-clause-added g c front back h other =
    let m = module_in c.args.class.now.outline.now in
    let tree = g.S.TypeStore.tree in
    let e = entry_seen c.args.entry.now in
    added_none stored_method_name class_method_name (method_with tree) (λ y. refl) _ c.args.named.now
    c.args.methods.now.items c.args.at front back (own_method m c.args.class.now.number e)
    (unbound_method m c.args.class.now.number e c.if-not-entry.true) h

pub returns-in-Field-clause-added : goal.returns-in-Field-clause-added
returns-in-Field-clause-added g c front back h other =
    let m = module_in c.args.class.now.outline.now in
    let tree = g.S.TypeStore.tree in
    let e = entry_seen c.args.entry.now in
    added_none stored_method_name class_method_name (method_with tree) (λ y. refl) _ c.args.named.now
    c.args.methods.now.items c.args.at front back (own_method m c.args.class.now.number e)
    (no_method m c.args.class.now.number e _ (ap member_of c.in-Field.is)) h
