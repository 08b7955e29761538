use Rattle.std.proofs.Common.{◌+◌, List, map, drop, refl, subst}
use Rattle.std.proofs.Math.ListN.{drop_of_length-le}
use Rattle.pc_tree.proofs.Stops.{cons_at}
use Rattle.pc_class.specs.declared.entries.ClassMember.{ClassMember as RustEntry}
use Rattle.pc_class.specs.Entries.{entry_seen}
use Rattle.pc_class.specs.Outlines.{method_name as class_method_name, own_method}
use Rattle.pc_class.specs.Tables.{HasMethod, method_with}
use Rattle.pc_class.specs.Parts.{stored_method_name}
use Rattle.pc_annotations.specs.ModuleOutlines.{module_in}
use Rattle.pc_class.proofs.Holding.{named_on, named_same}
use Rattle.pc_class.proofs.Walking.{Walk, walk_start, walk_next, walk_end}
use Rattle.pc_class.proofs.Annotations.{lent_same, lent_on, stepped, methods_next}
use Rattle.pc_class.proofs.adding.add_methods.Goals as goal

pub loop-entry-init : goal.loop-entry-init
loop-entry-init g c =
    let tree = g.S.TypeStore.tree in
    let m = module_in c.args.class.now.outline.now in
    let n = c.args.class.now.number in
    record {
      within = c.requires.map;
      kept = named_same c.args.named.now;
      store = λ t h. h;
      added = λ front back h new. walk_start stored_method_name class_method_name (method_with tree) (λ x. refl)
          (own_method m n) (HasMethod (g.S.TypeStore.has c.args.reader.now.store.now)) c.args.named.now
          c.args.methods.now.items c.args.inherited front back (map entry_seen c.args.entries.now) h new;
      same = lent_same c.args.reader.now;
      found = refl;
    }

pub loop-entry-preserved : goal.loop-entry-preserved
loop-entry-preserved g c =
    let tree = g.S.TypeStore.tree in
    let m = module_in c.args.class.now.outline.now in
    let n = c.args.class.now.number in
    let i = c.loop-entry.entry-index in
    let entries = c.args.entries.now in
    let rest = map entry_seen (drop (i + 1) entries) in
    let e = entry_seen c.entry-item.result in
    let cons = cons_at entries i c.entry-item.result c.loop-entry-test.true c.entry-item.is in
    let has = HasMethod (g.S.TypeStore.has c.loop-entry.reader.store.now) in
    let has2 = HasMethod (g.S.TypeStore.has c.add_own_method.new.reader.store.now) in
    let k = c.add_own_method.ensures.store in
    record {
      within = c.in_ok-at.ensures.within;
      kept = named_on _ _ _ c.loop-entry.invariant.kept c.in_ok-at.ensures.kept;
      store = λ t h. k t (c.loop-entry.invariant.store t h);
      added = λ front back h new. walk_next stored_method_name class_method_name (method_with tree) (λ x. refl)
          (own_method m n) has has2
          (λ x h. record { params = λ i d l. k _ (h.params i d l); ret = k _ h.ret }) c.loop-entry.named
          c.add_own_method.new.named c.args.methods.now.items c.loop-entry.methods.items
          c.add_own_method.new.methods.items c.loop-entry.at c.in_ok-at.at front back (map entry_seen entries) e rest
          (subst (λ (es : List RustEntry). Walk stored_method_name class_method_name (method_with tree)
          (own_method m n) has c.loop-entry.named c.args.methods.now.items
          c.loop-entry.methods.items c.loop-entry.at front back (map entry_seen entries) (map entry_seen es)) cons
          (c.loop-entry.invariant.added front back h new))
          (λ these. c.in_ok-at.ensures.added these back);
      same = lent_on c.loop-entry.invariant.same c.add_own_method.ensures.same;
      found = stepped c.loop-entry.reader.found.now.items c.add_own_method.new.reader.found.now.items _ _ _ _
          c.loop-entry.invariant.found (methods_next m entries i c.entry-item.result
          c.loop-entry-test.true c.entry-item.is) c.in_ok-at.ensures.found;
    }

pub returns-clause-added : goal.returns-clause-added
returns-clause-added g c front back h new =
    let tree = g.S.TypeStore.tree in
    let m = module_in c.args.class.now.outline.now in
    let n = c.args.class.now.number in
    let entries = c.args.entries.now in
    let has = HasMethod (g.S.TypeStore.has c.loop-entry.reader.store.now) in
    walk_end stored_method_name class_method_name (method_with tree) (λ x. refl)
    (own_method m n) has c.loop-entry.named c.args.methods.now.items
    c.loop-entry.methods.items c.loop-entry.at front back (map entry_seen entries)
    (subst (λ (es : List RustEntry). Walk stored_method_name class_method_name (method_with tree)
    (own_method m n) has c.loop-entry.named c.args.methods.now.items
    c.loop-entry.methods.items c.loop-entry.at front back (map entry_seen entries) (map entry_seen es))
    (drop_of_length-le entries c.loop-entry-test.false) (c.loop-entry.invariant.added front back h new))
