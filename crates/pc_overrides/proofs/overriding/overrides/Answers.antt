use Rattle.std.proofs.Common.{◌∙◌, ◌+◌, ◌<◌, ◌≤◌, length, sym, subst}
use Rattle.std.proofs.lemmas.Bool.{and_from}
use Rattle.pc_class.specs.Tables.{method_with}
use Rattle.pc_overrides.specs.Internal.OverrideTests.{meets}
use Rattle.pc_overrides.proofs.Parts.{meets_first, one_part_more, all_given, not_given}
use Rattle.pc_overrides.proofs.overriding.overrides.Goals as goal

pub returns-then-not-meets-clause-value : goal.returns-then-not-meets-clause-value
returns-then-not-meets-clause-value g c =
    let tree = g.S.TypeStore.tree in
    let bases = c.args.parents.now in
    let old = c.args.old.now in
    let less = subst (λ xs. c.loop-part.part < length xs + 1) c.as_slice.ensures c.loop-part-test.true in
    sym (not_given tree c.args.relation bases (method_with tree c.args.new.now) old c.loop-part.part less
    (sym c.meets.ensures.value ∙ c.if-not-meets.true))

pub loop-part-preserved : goal.loop-part-preserved
loop-part-preserved g c =
    let tree = g.S.TypeStore.tree in
    let bases = c.args.parents.now in
    let new = method_with tree c.args.new.now in
    let old = method_with tree c.args.old.now in
    let part = c.loop-part.part in record {
      store = λ t h. c.meets.ensures.kept t (c.loop-part.invariant.store t h);
      met = one_part_more c.args.relation bases new old part
          ∙ and_from (meets_first c.args.relation bases new old part) (meets c.args.relation bases new old part)
          c.loop-part.invariant.met (sym c.meets.ensures.value ∙ c.if-not-meets.false);
    }

pub returns-clause-value : goal.returns-clause-value
returns-clause-value g c =
    let tree = g.S.TypeStore.tree in
    let bases = c.args.parents.now in
    let old = c.args.old.now in
    let past = subst (λ xs. length xs + 1 ≤ c.loop-part.part) c.as_slice.ensures c.loop-part-test.false in
    let within = subst (λ xs. c.loop-part.part ≤ length xs + 1) c.as_slice.ensures c.loop-part.auto.part-end in
    sym c.loop-part.invariant.met ∙ all_given tree c.args.relation bases (method_with tree c.args.new.now) old
    c.loop-part.part past within
