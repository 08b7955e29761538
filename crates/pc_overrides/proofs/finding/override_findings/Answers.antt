use Rattle.std.proofs.Common.{◌∙◌, ◌++◌, ◌+◌, ◌≤◌, ◌<◌, List, [], ◌∷◌, drop, length, map, refl, sym, ap, subst}
use Rattle.std.proofs.Common.{arith, append-nil, length-append}
use Rattle.std.specs.Prelude.{All}
use Rattle.std.proofs.Math.ListN.{drop_of_length-le}
use Rattle.pc_tree.specs.declared.code.Finding.{Finding}
use Rattle.pc_tree.specs.Tree.{ClassDef, module_of}
use Rattle.pc_scope.specs.Bindings.{classes_in}
use Rattle.pc_class.specs.OverrideFindings.{overrides_from}
use Rattle.pc_overrides.specs.declared.known.Judging.{Judging}
use Rattle.pc_overrides.specs.Internal.Representing.{IsKnown, AreKnown}
use Rattle.pc_class.specs.Facts.{ClassFacts}
use Rattle.pc_class.proofs.ItemsBuilt.{bases_are, bases_there}
use Rattle.pc_overrides.proofs.KnownMethods.{known_none, known_then}
use Rattle.pc_overrides.proofs.ClassOverrides.{entries_keep, as_many, one_more, classes_next, findings_are}
use Rattle.pc_overrides.proofs.finding.override_findings.Goals as goal

pub find_class_overrides-requires-clause-judging : goal.find_class_overrides-requires-clause-judging
find_class_overrides-requires-clause-judging g c = record {
  parents = sym (bases_there g.S.TypeStore.tree c.args.classes.now)
      ∙ ap (map (λ (x : ClassFacts). x.base)) c.requires.classes ∙ bases_are (module_of c.args.tree.now);
  classes = c.requires.classes;
}

pub find_class_overrides-requires-clause-table : goal.find_class_overrides-requires-clause-table
find_class_overrides-requires-clause-table g c =
    let has = g.S.TypeStore.has in
    entries_keep (has c.args.store.now) (has c.loop-class.store) c.args.classes.now c.loop-class.invariant.store
    c.requires.given

pub find_class_overrides-requires-clause-judged : goal.find_class_overrides-requires-clause-judged
find_class_overrides-requires-clause-judged g c = subst (AreKnown g.S.TypeStore.tree _)
    (sym c.deref.ensures.value) c.loop-class.invariant.judged

pub loop-class-init : goal.loop-class-init
loop-class-init g c = record {
  store = λ t h. h;
  found = refl;
  judged = known_none g.S.TypeStore.tree _ c.new-judged.result.items c.new-judged.ensures.items;
  many = ap length c.new-judged.ensures.items;
}

pub loop-class-preserved : goal.loop-class-preserved
loop-class-preserved g c =
    let tree = g.S.TypeStore.tree in
    let j : Judging g.row.S-Ty.Denot = record {
      tree = c.args.tree;
      classes = c.args.classes;
      alloc = c.allocator-alloc.result.now;
    } in
    let m = module_of c.args.tree.now in
    let cs = classes_in m.items in
    let i = c.loop-class.class in
    let many = as_many g.S.TypeStore.tree c.args.classes.now m c.requires.classes in
    let test = c.loop-class-test.true in
    let count = c.count-class-end.ensures in
    let less : i < length cs = omega arith in
    let more = one_more m cs i less in
    let here = c.in_ok-own.ensures.found more.class more.is in
    let kept = c.loop-class.invariant.many in
    let pushed = length-append c.loop-class.judged.items (c.in_ok-own.own ∷ []) in
    let longer = ap length c.in_ok-push.ensures.items in
    record {
      store = λ t h. c.find_class_overrides.ensures.kept t (c.loop-class.invariant.store t h);
      found = classes_next m i more.class c.loop-class.found.items c.find_class_overrides.new.found.items _
          (overrides_from m i (drop i cs)) (overrides_from m (i + 1) (drop (i + 1) cs))
          c.loop-class.invariant.found more.next here;
      judged = subst (AreKnown tree j) (sym c.in_ok-push.ensures.items)
          (known_then tree j c.loop-class.judged.items c.in_ok-own.own c.loop-class.invariant.judged
          (subst (λ d. All (IsKnown tree j d) c.in_ok-own.own.items) (sym kept) c.in_ok-own.ensures.known));
      many = omega (arith, longer, pushed, kept);
    }

pub returns-clause-found : goal.returns-clause-found
returns-clause-found g c =
    let m = module_of c.args.tree.now in
    let cs = classes_in m.items in
    let i = c.loop-class.class in
    let many = as_many g.S.TypeStore.tree c.args.classes.now m c.requires.classes in
    let test = c.loop-class-test.false in
    let count = c.count-class-end.ensures in
    let past : length cs ≤ i = omega arith in
    sym (append-nil c.loop-class.found.items)
    ∙ ap (λ (xs : List ClassDef). c.loop-class.found.items ++ overrides_from m i xs) (sym (drop_of_length-le cs past))
    ∙ c.loop-class.invariant.found
    ∙ ap (λ (fs : List Finding). c.args.found.now.items ++ fs) (sym (findings_are m))
