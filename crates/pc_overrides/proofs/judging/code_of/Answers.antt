use Rattle.std.proofs.Common.{◌≡◌, ◌∙◌, ◌&&◌, refl, sym, ap, subst}
use Rattle.std.specs.Prelude.{Option, Some, None, IfSome, string_bytes}
use Rattle.std.specs.Borrow.{Bor}
use Rattle.std.specs.List.{list_all}
use Rattle.pc_tree.specs.Tree.{module_of}
use Rattle.pc_types.specs.Below.{base_of}
use Rattle.pc_annotations.specs.Bases.{bases_of}
use Rattle.pc_class.specs.OverrideFindings.{is_good_to, is_static_to, code_where, override_code}
use Rattle.pc_class.specs.Tables.{method_with, IsMethodIfAny}
use Rattle.pc_class.specs.Parts.{bases_in}
use Rattle.pc_overrides.specs.declared.known.Judged.{Judged}
use Rattle.pc_overrides.proofs.Demands.{and_further}
use Rattle.pc_overrides.proofs.OverrideWalk.{method_given, method_keeps, above, all_next, all_done, base_fewer}
use Rattle.pc_overrides.proofs.OverrideWalk.{named_so, found_there}
use Rattle.pc_overrides.proofs.ClassOverrides.{entries_keep}
use Rattle.pc_overrides.proofs.judging.code_of.Goals.{then-is_static, else-is_static}
use Rattle.pc_overrides.proofs.judging.code_of.Goals as goal

pub overrides-requires-clause-old : goal.overrides-requires-clause-old
overrides-requires-clause-old g c =
    let es = c.args.judging.now.classes.now in
    let old = c.in-Some-method.old.now in
    let has = g.S.TypeStore.has in
    method_keeps (has c.args.store.now) (has c.loop-at.store) old c.loop-at.invariant.store
    (method_given (has c.args.store.now) es old c.requires.table
    (subst (IsMethodIfAny es) c.in-Some-method.is c.method.ensures.listed))

pub overrides-here-requires-clause-old : goal.overrides-here-requires-clause-old
overrides-here-requires-clause-old g c =
    let es = c.args.judging.now.classes.now in
    let old = c.in-Some-method.old.now in
    let has = g.S.TypeStore.has in
    method_keeps (has c.args.store.now) (has c.overrides.new.store) old
    (λ t h. c.overrides.ensures.kept t (c.loop-at.invariant.store t h))
    (method_given (has c.args.store.now) es old c.requires.table
    (subst (IsMethodIfAny es) c.in-Some-method.is c.method.ensures.listed))

pub loop-at-preserved-in-None : goal.loop-at-preserved-in-None
loop-at-preserved-in-None g c =
    let j = c.args.judging.now in
    let m = module_of j.tree.now in
    let tree = g.S.TypeStore.tree in
    let name = string_bytes c.args.method.now.name in
    let new = method_with tree c.args.method.now in
    let none = found_there tree j.classes.now m c.in-Some.class c.as_str.result.now name c.method.result None
    c.requires.judging.classes c.as_str.ensures.value (c.method.ensures.value tree) c.in-None.is in
    record {
      store = c.loop-at.invariant.store;
      good = c.loop-at.invariant.good ∙ all_done m name (is_good_to (bases_in j.classes.now) new) c.loop-at.at c.in-Some.class
          c.in-Some.is none;
      static = c.loop-at.invariant.static ∙ ap (λ b. c.loop-at.is_static && b)
          (all_done m name (is_static_to (bases_in j.classes.now) new) c.loop-at.at c.in-Some.class c.in-Some.is none);
    }

pub returns-then-not-overrides-clause-value : goal.returns-then-not-overrides-clause-value
returns-then-not-overrides-clause-value g c =
    let j = c.args.judging.now in
    let m = module_of j.tree.now in
    let tree = g.S.TypeStore.tree in
    let name = string_bytes c.args.method.now.name in
    let new = method_with tree c.args.method.now in
    let old = method_with tree c.in-Some-method.old.now in
    let some = found_there tree j.classes.now m c.in-Some.class c.as_str.result.now name c.method.result
    (Some c.in-Some-method.old) c.requires.judging.classes c.as_str.ensures.value (c.method.ensures.value tree)
    c.in-Some-method.is in
    let test = is_good_to (bases_in j.classes.now) new in
    let base = base_of (bases_in j.classes.now) old.owner in
    let is_base = ap (λ bs. base_of bs old.owner) c.requires.judging.parents in
    ap (λ b. code_where b (c.args.others && list_all (is_static_to (bases_in j.classes.now) new)
    (above m name c.args.base)))
    (sym (c.loop-at.invariant.good ∙ all_next m name test c.loop-at.at c.in-Some.class old base c.in-Some.is some
    is_base ∙ ap (λ b. b && list_all test (above m name base)) (sym (c.overrides.ensures.value ∙ ap (λ bs. is_good_to bs new old) c.parents-parents.ensures)
    ∙ c.if-not-overrides.true)))

pub loop-at-smaller : goal.loop-at-smaller
loop-at-smaller g c =
    let j = c.args.judging.now in
    let m = module_of j.tree.now in
    let tree = g.S.TypeStore.tree in
    let name = string_bytes c.args.method.now.name in
    let old = method_with tree c.in-Some-method.old.now in
    let some = found_there tree j.classes.now m c.in-Some.class c.as_str.result.now name c.method.result
    (Some c.in-Some-method.old) c.requires.judging.classes c.as_str.ensures.value (c.method.ensures.value tree)
    c.in-Some-method.is in
    base_fewer m name c.loop-at.at c.in-Some.class old c.base-at.result c.in-Some.is some
    (λ b e. c.base-at.ensures.ordered old.owner b (sym c.base-at.ensures.value ∙ e))

pub loop-at-preserved : goal.loop-at-preserved
loop-at-preserved g c =
    let j = c.args.judging.now in
    let m = module_of j.tree.now in
    let tree = g.S.TypeStore.tree in
    let name = string_bytes c.args.method.now.name in
    let new = method_with tree c.args.method.now in
    let old = method_with tree c.in-Some-method.old.now in
    let some = found_there tree j.classes.now m c.in-Some.class c.as_str.result.now name c.method.result
    (Some c.in-Some-method.old) c.requires.judging.classes c.as_str.ensures.value (c.method.ensures.value tree)
    c.in-Some-method.is in
    let base = c.base-at.result in
    let is_base = (rw c.parents-parents.ensures at c.base-at.ensures.value) ∙ ap (λ bs. base_of bs old.owner) c.requires.judging.parents in
    let good = is_good_to (bases_in j.classes.now) new in
    let static = is_static_to (bases_in j.classes.now) new in
    let rest = list_all static (above m name base) in
    let so_far = c.loop-at.is_static in
    let flag : (so_far && static old) ≡ c.if-is_static.is_static = elim c.if-is_static.branch [
      | then-is_static w ↦ ap (λ b. b && static old) w.if-is_static.true ∙ sym (c.overrides-here.ensures.value ∙ ap (λ bs. is_static_to bs new old) c.parents-parents.ensures)
          ∙ sym w.is_static-is
      | else-is_static w ↦ ap (λ b. b && static old) w.if-is_static.false ∙ sym w.if-is_static.false
          ∙ sym w.is_static-is
    ] in
    record {
      store = λ t h. c.overrides-here.ensures.kept t (c.overrides.ensures.kept t (c.loop-at.invariant.store t h));
      good = c.loop-at.invariant.good ∙ all_next m name good c.loop-at.at c.in-Some.class old base c.in-Some.is some
          is_base ∙ ap (λ b. b && list_all good (above m name base)) (sym (c.overrides.ensures.value ∙ ap (λ bs. is_good_to bs new old) c.parents-parents.ensures)
          ∙ c.if-not-overrides.false);
      static = c.loop-at.invariant.static
          ∙ ap (λ b. so_far && b) (all_next m name static c.loop-at.at c.in-Some.class old base c.in-Some.is some
          is_base)
          ∙ sym (and_further so_far (static old) rest) ∙ ap (λ b. b && rest) flag;
    }

pub judged_alike-requires-clause-table : goal.judged_alike-requires-clause-table
judged_alike-requires-clause-table g c =
    let has = g.S.TypeStore.has in
    entries_keep (has c.args.store.now) (has c.overrides-here.new.store) c.args.judging.now.classes.now
    (λ t h. c.overrides-here.ensures.kept t (c.overrides.ensures.kept t (c.loop-at.invariant.store t h)))
    c.requires.table

pub returns-in-Some-method-clause-value : goal.returns-in-Some-method-clause-value
returns-in-Some-method-clause-value g c =
    let j = c.args.judging.now in
    let m = module_of j.tree.now in
    let tree = g.S.TypeStore.tree in
    let name = string_bytes c.args.method.now.name in
    let new = method_with tree c.args.method.now in
    let old = method_with tree c.in-Some-method.old.now in
    let parents = c.requires.judging.parents in
    let some = found_there tree j.classes.now m c.in-Some.class c.as_str.result.now name c.method.result
    (Some c.in-Some-method.old) c.requires.judging.classes c.as_str.ensures.value (c.method.ensures.value tree)
    c.in-Some-method.is in
    let base = base_of (bases_of m) old.owner in
    let good = is_good_to (bases_in j.classes.now) new in
    let static = is_static_to (bases_in j.classes.now) new in
    let rest = above m name base in
    let so_far = c.loop-at.is_static in
    let flag : (so_far && static old) ≡ c.if-is_static.is_static = elim c.if-is_static.branch [
      | then-is_static w ↦ ap (λ b. b && static old) w.if-is_static.true ∙ sym (c.overrides-here.ensures.value ∙ ap (λ bs. is_static_to bs new old) c.parents-parents.ensures)
          ∙ sym w.is_static-is
      | else-is_static w ↦ ap (λ b. b && static old) w.if-is_static.false ∙ sym w.if-is_static.false
          ∙ sym w.is_static-is
    ] in
    let alike : c.in-Some-2.known.now.code ≡ override_code (bases_of m) (above m old.name base) new =
    subst (λ (o : Option (Bor (Judged g.row.S-Ty.Denot))). IfSome o (λ k. k.now.code
    ≡ override_code (bases_of m) (above m old.name base) new)) c.in-Some-2.is c.in_ok-known-in-Some-method.ensures in
    let code : c.in-Some-2.known.now.code ≡ code_where (list_all good rest) (list_all static rest) =
    alike ∙ ap (λ t. override_code (bases_of m) (above m t base) new) (sym (named_so m name c.in-Some.class old some))
    ∙ ap (λ bs. override_code bs rest new) (sym parents) in
    let all_good : list_all good (above m name c.args.base) ≡ list_all good rest = c.loop-at.invariant.good
    ∙ all_next m name good c.loop-at.at c.in-Some.class old base c.in-Some.is some refl
    ∙ ap (λ b. b && list_all good rest) (sym (c.overrides.ensures.value ∙ ap (λ bs. is_good_to bs new old) c.parents-parents.ensures) ∙ c.if-not-overrides.false) in
    let all_static : (c.args.others && list_all static (above m name c.args.base))
    ≡ (c.if-is_static.is_static && list_all static rest) = c.loop-at.invariant.static
    ∙ ap (λ b. so_far && b) (all_next m name static c.loop-at.at c.in-Some.class old base c.in-Some.is some refl)
    ∙ sym (and_further so_far (static old) (list_all static rest)) ∙ ap (λ b. b && list_all static rest) flag in
    c.with_others.ensures (list_all good rest) (list_all static rest) code
    ∙ ap (λ b. code_where b (c.if-is_static.is_static && list_all static rest)) (sym all_good)
    ∙ ap (λ b. code_where (list_all good (above m name c.args.base)) b) (sym all_static)
