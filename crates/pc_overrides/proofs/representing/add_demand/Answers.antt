use Rattle.std.proofs.Common.{◌∙◌, List, sym, ap, arith}
use Rattle.std.specs.Prelude.{slice_get}
use Rattle.std.proofs.lemmas.Option.{slice_get_within}
use Rattle.pc_annotations.specs.Bases.{bases_of}
use Rattle.pc_overrides.specs.declared.overriding.Demand.{Demand}
use Rattle.pc_overrides.specs.Internal.OverrideTests.{meets_demand, module_judged}
use Rattle.pc_overrides.proofs.ClassOverrides.{entries_keep}
use Rattle.pc_overrides.proofs.Demands.{listed_at, listed_push, told_by, told_instead}
use Rattle.pc_overrides.proofs.ListedMethods.{listed_well_formed}
use Rattle.pc_overrides.proofs.OverrideWalk.{method_given}
use Rattle.pc_overrides.proofs.representing.add_demand.Goals as goal

pub implies-requires-clause-new : goal.implies-requires-clause-new
implies-requires-clause-new g c =
    let d : Demand g.row.S-Ty.Denot = record { method = c.in-Some.first; part = c.args.demand.now.part } in
    let j = c.args.judging.now in
    method_given (g.S.TypeStore.has c.args.store.now) j.classes.now c.in-Some.first.now c.requires.table
    (listed_at g.S.TypeStore.tree j c.args.demands.now.items c.args.demand.now.part d c.requires.listed
    (ap (λ (xs : List (Demand g.row.S-Ty.Denot)). slice_get xs c.args.demand.now.part) (sym c.deref.ensures.value)
    ∙ c.in-Some.ensures))

pub implies-requires-clause-old : goal.implies-requires-clause-old
implies-requires-clause-old g c =
    let j = c.args.judging.now in
    method_given (g.S.TypeStore.has c.args.store.now) j.classes.now c.args.demand.now.method.now c.requires.table
    c.requires.method

pub implies-requires-clause-types : goal.implies-requires-clause-types
implies-requires-clause-types g c =
    let d : Demand g.row.S-Ty.Denot = record { method = c.in-Some.first; part = c.args.demand.now.part } in
    let j = c.args.judging.now in
    listed_well_formed g.S.TypeStore.tree j.classes.now (module_judged j) c.in-Some.first.now
    c.requires.judging.classes
    (listed_at g.S.TypeStore.tree j c.args.demands.now.items c.args.demand.now.part d c.requires.listed
    (ap (λ (xs : List (Demand g.row.S-Ty.Denot)). slice_get xs c.args.demand.now.part) (sym c.deref.ensures.value)
    ∙ c.in-Some.ensures))

pub implies-requires-clause-old_types : goal.implies-requires-clause-old_types
implies-requires-clause-old_types g c =
    let j = c.args.judging.now in
    listed_well_formed g.S.TypeStore.tree j.classes.now (module_judged j) c.args.demand.now.method.now
    c.requires.judging.classes c.requires.method

pub returns-then-branch-clause-more : goal.returns-then-branch-clause-more
returns-then-branch-clause-more g c =
    let d : Demand g.row.S-Ty.Denot = record { method = c.in-Some.first; part = c.args.demand.now.part } in
    let bases = bases_of (module_judged c.args.judging.now) in
    λ relation z w. told_by (meets_demand g.S.TypeStore.tree relation bases z) c.args.demands.now.items
    c.args.demand.now.part d c.args.demand.now
    (ap (λ (xs : List (Demand g.row.S-Ty.Denot)). slice_get xs c.args.demand.now.part) (sym c.deref.ensures.value)
    ∙ c.in-Some.ensures)
    (c.in_ok-implies.ensures.value c.if-branch.true relation z w)

pub implies-requires-in-Some-clause-new : goal.implies-requires-in-Some-clause-new
implies-requires-in-Some-clause-new g c =
    let j = c.args.judging.now in
    let has = g.S.TypeStore.has in
    method_given (has c.implies.new.store) j.classes.now c.args.demand.now.method.now
    (entries_keep (has c.args.store.now) (has c.implies.new.store) j.classes.now c.implies.ensures.kept
    c.requires.table) c.requires.method

pub implies-requires-in-Some-clause-old : goal.implies-requires-in-Some-clause-old
implies-requires-in-Some-clause-old g c =
    let d : Demand g.row.S-Ty.Denot = record { method = c.in-Some.first; part = c.args.demand.now.part } in
    let j = c.args.judging.now in
    let has = g.S.TypeStore.has in
    method_given (has c.implies.new.store) j.classes.now c.in-Some.first.now
    (entries_keep (has c.args.store.now) (has c.implies.new.store) j.classes.now c.implies.ensures.kept
    c.requires.table)
    (listed_at g.S.TypeStore.tree j c.args.demands.now.items c.args.demand.now.part d c.requires.listed
    (ap (λ (xs : List (Demand g.row.S-Ty.Denot)). slice_get xs c.args.demand.now.part) (sym c.deref.ensures.value)
    ∙ c.in-Some.ensures))

pub implies-requires-in-Some-clause-types : goal.implies-requires-in-Some-clause-types
implies-requires-in-Some-clause-types g c =
    let j = c.args.judging.now in
    listed_well_formed g.S.TypeStore.tree j.classes.now (module_judged j) c.args.demand.now.method.now
    c.requires.judging.classes c.requires.method

pub implies-requires-in-Some-clause-old_types : goal.implies-requires-in-Some-clause-old_types
implies-requires-in-Some-clause-old_types g c =
    let d : Demand g.row.S-Ty.Denot = record { method = c.in-Some.first; part = c.args.demand.now.part } in
    let j = c.args.judging.now in
    listed_well_formed g.S.TypeStore.tree j.classes.now (module_judged j) c.in-Some.first.now
    c.requires.judging.classes
    (listed_at g.S.TypeStore.tree j c.args.demands.now.items c.args.demand.now.part d c.requires.listed
    (ap (λ (xs : List (Demand g.row.S-Ty.Denot)). slice_get xs c.args.demand.now.part) (sym c.deref.ensures.value)
    ∙ c.in-Some.ensures))

pub index_mut-requires : goal.index_mut-requires
index_mut-requires g c =
    let d : Demand g.row.S-Ty.Denot = record { method = c.in-Some.first; part = c.args.demand.now.part } in
    let less = slice_get_within c.deref.result.now c.args.demand.now.part d c.in-Some.ensures in
    omega (arith, less, c.deref.ensures.len)

pub returns-then-branch-2-clause-more : goal.returns-then-branch-2-clause-more
returns-then-branch-2-clause-more g c =
    let d : Demand g.row.S-Ty.Denot = record { method = c.in-Some.first; part = c.args.demand.now.part } in
    let bases = bases_of (module_judged c.args.judging.now) in
    λ relation z w. told_instead (meets_demand g.S.TypeStore.tree relation bases z) c.args.demands.now.items
    c.args.demand.now.part d c.args.demand.now
    (ap (λ (xs : List (Demand g.row.S-Ty.Denot)). slice_get xs c.args.demand.now.part) (sym c.deref.ensures.value)
    ∙ c.in-Some.ensures)
    (c.in_ok-implies-2.ensures.value c.if-branch-2.true relation z w)

pub returns-clause-listed : goal.returns-clause-listed
returns-clause-listed g c = listed_push g.S.TypeStore.tree c.args.judging.now c.args.demands.now.items
    c.push.new.self.items c.args.demand.now c.in_ok-push.ensures.items c.requires.listed c.requires.method
