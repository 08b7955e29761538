use Rattle.std.proofs.Common.{◌≡◌, ◌∙◌, ◌<◌, ◌++◌, [], ◌∷◌, List, length, map, sym, ap, subst, arith, append-nil}
use Rattle.std.specs.Prelude.{All, slice_index_or, string_bytes}
use Rattle.std.proofs.Math.ListN.{drop_of_length-le}
use Rattle.pc_tree.specs.Tree.{module_of}
use Rattle.pc_scope.specs.Bindings.{classes_in}
use Rattle.pc_types.specs.Below.{base_of}
use Rattle.pc_annotations.specs.Bases.{base_named}
use Rattle.pc_class.specs.declared.table.Method.{Method as RustMethod}
use Rattle.pc_class.specs.Facts.{Method, base_facts, own_methods, classes_of}
use Rattle.pc_overrides.specs.Internal.OverrideTests.{methods_above}
use Rattle.pc_overrides.specs.Internal.Representing.{IsKnown}
use Rattle.pc_class.specs.OverrideFindings.{found_at_methods}
use Rattle.pc_class.specs.Overrides.{overridden}
use Rattle.pc_class.specs.Tables.{empty_entry, inherited_entry, method_with}
use Rattle.pc_class.specs.Parts.{bases_in}
use Rattle.pc_class.proofs.ClassesBuilt.{base_here}
use Rattle.pc_overrides.proofs.ClassOverrides.{entries_keep, as_many, one_more, own_there, methods_next}
use Rattle.pc_overrides.proofs.KnownMethods.{known_more}
use Rattle.pc_overrides.proofs.ListedMethods.{own_listed, own_among}
use Rattle.pc_overrides.proofs.Overridden.{own_first}
use Rattle.pc_overrides.proofs.finding.find_class_overrides.Goals as goal

pub find_override-requires-clause-table : goal.find_override-requires-clause-table
find_override-requires-clause-table g c =
    let has = g.S.TypeStore.has in
    entries_keep (has c.args.store.now) (has c.loop-method.store) c.args.judging.now.classes.now
    c.loop-method.invariant.store c.requires.table

pub find_override-requires-clause-method : goal.find_override-requires-clause-method
find_override-requires-clause-method g c =
    let es = c.args.judging.now.classes.now in
    let rest = (inherited_entry es (slice_index_or es c.args.class empty_entry).base).methods in
    own_listed es c.args.class c.own_methods-methods.result.now rest c.requires.class
    c.own_methods-methods.ensures.over c.loop-method.method-index c.method-item.result c.loop-method-test.true
    c.method-item.is

pub loop-method-preserved : goal.loop-method-preserved
loop-method-preserved g c =
    let j = c.args.judging.now in
    let m = module_of j.tree.now in
    let tree = g.S.TypeStore.tree in
    let es = j.classes.now in
    let class = c.args.class in
    let own = c.own_methods-methods.result.now in
    let x = c.method-item.result in
    let cs = classes_in m.items in
    let many = as_many tree es m c.requires.judging.classes in
    let less : class < length cs = omega (arith, many, c.requires.class) in
    let more = one_more m cs class less in
    let base = base_named m class more.class.base in
    let at = (rw c.parents.ensures at c.base-base.ensures.value) ∙ ap (λ bs. base_of bs class) c.requires.judging.parents in
    let same_base : c.base-base.result ≡ base = at ∙ base_here m class more.class more.is in
    let among = own_among tree own _
    (own_there tree es m class more.class more.is c.requires.judging.classes own c.own_methods-methods.ensures.over)
    c.loop-method.method-index x c.loop-method-test.true c.method-item.is in
    let first = own_first m class more.class (method_with tree x) more.is among
    ∙ ap (λ o. method_with tree x ∷ overridden (methods_above j o) (string_bytes x.name)) (sym same_base) in
    record {
      store = λ t h. c.find_override.ensures.kept t (c.loop-method.invariant.store t h);
      found = methods_next tree (bases_in j.classes.now) (methods_above j c.base-base.result) own
          c.loop-method.method-index x c.loop-method-test.true c.method-item.is
          c.loop-method.found.items c.find_override.new.found.items _ c.loop-method.invariant.found
          c.in_ok-known.ensures.found;
      known = subst (All (IsKnown tree j class)) (sym c.in_ok-push.ensures.items)
          (known_more tree j class c.base-base.result c.loop-method.own.items c.in_ok-known.known x at
          c.in_ok-known.ensures.method (own_listed es class own (inherited_entry es (slice_index_or es class
          empty_entry).base).methods c.requires.class c.own_methods-methods.ensures.over c.loop-method.method-index x
          c.loop-method-test.true c.method-item.is) c.in_ok-known.ensures.code first c.in_ok-known.ensures.known
          c.loop-method.invariant.known);
    }

pub returns-clause-found : goal.returns-clause-found
returns-clause-found g c definition is =
    let j = c.args.judging.now in
    let m = module_of j.tree.now in
    let tree = g.S.TypeStore.tree in
    let own = c.own_methods-methods.result.now in
    let old = c.args.found.now.items in
    let base = base_named m c.args.class definition.base in
    let above = methods_above j c.base-base.result in
    let same_base : c.base-base.result ≡ base = (rw c.parents.ensures at c.base-base.ensures.value)
    ∙ ap (λ bs. base_of bs c.args.class) c.requires.judging.parents ∙ base_here m c.args.class definition is in
    sym (append-nil c.loop-method.found.items)
    ∙ ap (λ (xs : List (RustMethod _)). c.loop-method.found.items ++ found_at_methods (bases_in j.classes.now) above
    (map (method_with tree) xs)) (sym (drop_of_length-le own c.loop-method-test.false))
    ∙ c.loop-method.invariant.found
    ∙ ap (λ (xs : List Method). old ++ found_at_methods (bases_in j.classes.now) above xs)
    (own_there tree j.classes.now m c.args.class definition is c.requires.judging.classes own
    c.own_methods-methods.ensures.over)
    ∙ ap (λ o. old ++ found_at_methods (bases_in j.classes.now) (methods_above j o)
    (own_methods m (base_facts (classes_of m) base) c.args.class 0 [] definition.members)) same_base
    ∙ ap (λ bs. old ++ found_at_methods bs (methods_above j base)
    (own_methods m (base_facts (classes_of m) base) c.args.class 0 [] definition.members))
    c.requires.judging.parents
