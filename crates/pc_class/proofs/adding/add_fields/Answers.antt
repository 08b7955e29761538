use Rattle.std.proofs.Common.{◌+◌, List, map, drop, refl, subst}
use Rattle.std.proofs.Math.ListN.{drop_of_length-le}
use Rattle.pc_tree.proofs.Stops.{cons_at}
use Rattle.pc_class.specs.declared.entries.ClassMember.{ClassMember as RustEntry}
use Rattle.pc_class.specs.Entries.{entry_seen}
use Rattle.pc_class.specs.Outlines.{field_name, own_field}
use Rattle.pc_class.specs.Tables.{HasParameter, parameter_with}
use Rattle.pc_class.specs.Parts.{parameter_name}
use Rattle.pc_annotations.specs.ModuleOutlines.{module_in}
use Rattle.pc_class.proofs.Holding.{named_on, named_same}
use Rattle.pc_class.proofs.Walking.{Walk, walk_start, walk_next, walk_end}
use Rattle.pc_class.proofs.Annotations.{lent_same, lent_on, stepped, fields_next}
use Rattle.pc_class.proofs.adding.add_fields.Goals as goal

pub loop-entry-init : goal.loop-entry-init
loop-entry-init g c =
    let tree = g.S.TypeStore.tree in
    record {
      within = c.requires.map;
      kept = named_same c.args.named.now;
      store = λ t h. h;
      added = λ front back h new. walk_start parameter_name field_name (parameter_with tree) (λ x. refl)
          (own_field (module_in c.args.outline.now)) (HasParameter (g.S.TypeStore.has c.args.reader.now.store.now))
          c.args.named.now c.args.fields.now.items c.args.inherited front back (map entry_seen c.args.entries.now) h
          new;
      same = lent_same c.args.reader.now;
      found = refl;
    }

pub loop-entry-preserved : goal.loop-entry-preserved
loop-entry-preserved g c =
    let tree = g.S.TypeStore.tree in
    let i = c.loop-entry.entry-index in
    let entries = c.args.entries.now in
    let rest = map entry_seen (drop (i + 1) entries) in
    let e = entry_seen c.entry-item.result in
    let cons = cons_at entries i c.entry-item.result c.loop-entry-test.true c.entry-item.is in
    let has = HasParameter (g.S.TypeStore.has c.loop-entry.reader.store.now) in
    let has2 = HasParameter (g.S.TypeStore.has c.add_own_field.new.reader.store.now) in
    let k = c.add_own_field.ensures.store in
    record {
      within = c.in_ok-at.ensures.within;
      kept = named_on _ _ _ c.loop-entry.invariant.kept c.in_ok-at.ensures.kept;
      store = λ t h. k t (c.loop-entry.invariant.store t h);
      added = λ front back h new. walk_next parameter_name field_name (parameter_with tree) (λ x. refl)
          (own_field (module_in c.args.outline.now)) has has2 (λ p h. k _ h) c.loop-entry.named
          c.add_own_field.new.named c.args.fields.now.items c.loop-entry.fields.items c.add_own_field.new.fields.items
          c.loop-entry.at c.in_ok-at.at front back (map entry_seen entries) e rest
          (subst (λ (es : List RustEntry). Walk parameter_name field_name (parameter_with tree)
          (own_field (module_in c.args.outline.now)) has c.loop-entry.named c.args.fields.now.items
          c.loop-entry.fields.items c.loop-entry.at front back (map entry_seen entries) (map entry_seen es)) cons
          (c.loop-entry.invariant.added front back h new))
          (λ these. c.in_ok-at.ensures.added these back);
      same = lent_on c.loop-entry.invariant.same c.add_own_field.ensures.same;
      found = stepped c.loop-entry.reader.found.now.items c.add_own_field.new.reader.found.now.items _ _ _ _
          c.loop-entry.invariant.found (fields_next (module_in c.args.outline.now) entries i c.entry-item.result
          c.loop-entry-test.true c.entry-item.is) c.in_ok-at.ensures.found;
    }

pub returns-clause-added : goal.returns-clause-added
returns-clause-added g c front back h new =
    let tree = g.S.TypeStore.tree in
    let entries = c.args.entries.now in
    let has = HasParameter (g.S.TypeStore.has c.loop-entry.reader.store.now) in
    walk_end parameter_name field_name (parameter_with tree) (λ x. refl) (own_field (module_in c.args.outline.now)) has
    c.loop-entry.named c.args.fields.now.items c.loop-entry.fields.items c.loop-entry.at front back
    (map entry_seen entries)
    (subst (λ (es : List RustEntry). Walk parameter_name field_name (parameter_with tree)
    (own_field (module_in c.args.outline.now)) has c.loop-entry.named c.args.fields.now.items
    c.loop-entry.fields.items c.loop-entry.at front back (map entry_seen entries) (map entry_seen es))
    (drop_of_length-le entries c.loop-entry-test.false) (c.loop-entry.invariant.added front back h new))
