use Rattle.std.proofs.Common.{◌≡◌, ◌∙◌, ◌&&◌, refl, sym, ap}
use Rattle.std.specs.Prelude.{Bool, true, false, Some, None}
use Rattle.std.specs.List.{list_all}
use Rattle.std.proofs.lemmas.Option.{same_Some}
use Rattle.pc_types.specs.Below.{Bases}
use Rattle.pc_annotations.specs.Bases.{bases_of}
use Rattle.pc_class.specs.Overrides.{overridden}
use Rattle.pc_class.specs.OverrideFindings.{is_good_to, is_static_to, code_where}
use Rattle.pc_class.specs.Tables.{method_with}
use Rattle.pc_class.specs.Parts.{bases_in}
use Rattle.pc_overrides.specs.declared.overriding.Relation.TheVariants as relations
use Rattle.pc_overrides.specs.Internal.OverrideTests.{meets_demand, module_judged, methods_above}
use Rattle.pc_overrides.specs.Internal.Representing.{static_where}
use Rattle.pc_overrides.proofs.ClassOverrides.{entries_keep}
use Rattle.pc_overrides.proofs.Demands.{code_by_enough}
use Rattle.pc_overrides.proofs.ListedMethods.{listed_well_formed}
use Rattle.pc_overrides.proofs.OverrideWalk.{method_given, method_keeps}
use Rattle.pc_overrides.proofs.judging.code_among.Goals as goal

not_good : (good static : Bool) → None ≡ static_where good static → good ≡ false
not_good false static e = refl
not_good true static e = absurd (cc)

good_and : (good static told : Bool) → Some told ≡ static_where good static → (good ≡ true) × (told ≡ static)
good_and false static told e = absurd (cc)
good_and true static told e = (refl, same_Some _ _ e)

pub static_among-requires-clause-method : goal.static_among-requires-clause-method
static_among-requires-clause-method g c = method_given (g.S.TypeStore.has c.args.store.now)
    c.args.judging.now.classes.now c.args.method.now c.requires.table c.requires.method

pub code_of-requires-clause-table : goal.code_of-requires-clause-table
code_of-requires-clause-table g c =
    let has = g.S.TypeStore.has in
    entries_keep (has c.args.store.now) (has c.static_among.new.store) c.args.judging.now.classes.now
    c.static_among.ensures.kept c.requires.table

pub code_of-requires-clause-method : goal.code_of-requires-clause-method
code_of-requires-clause-method g c =
    let has = g.S.TypeStore.has in
    method_keeps (has c.args.store.now) (has c.static_among.new.store) c.args.method.now c.static_among.ensures.kept
    (method_given (has c.args.store.now) c.args.judging.now.classes.now c.args.method.now c.requires.table
    c.requires.method)

pub returns-in-None-clause-value : goal.returns-in-None-clause-value
returns-in-None-clause-value g c =
    let j = c.args.judging.now in
    let bases = bases_of (module_judged j) in
    let tree = g.S.TypeStore.tree in
    let x = method_with tree c.args.method.now in
    let demands = c.args.above.now.demands.now in
    let rest = overridden (methods_above j c.args.above.now.rest) x.name in
    let all = overridden (methods_above j c.args.above.now.base) x.name in
    let good : Bases → Bool = λ bs. list_all (meets_demand tree relations.Assignable bs x) demands in
    let static : Bases → Bool = λ bs. list_all (meets_demand tree relations.Static bs x) demands in
    let wrong : good bases ≡ false = ap good (sym c.requires.judging.parents)
    ∙ not_good (good (bases_in j.classes.now)) (static (bases_in j.classes.now)) c.in-None.ensures.value in
    ap (λ b. code_where (b && list_all (is_good_to bases x) rest)
    (static bases && list_all (is_static_to bases x) rest)) (sym wrong)
    ∙ code_by_enough tree bases demands rest all x c.requires.above.enough (listed_well_formed tree j.classes.now
    (module_judged j) c.args.method.now c.requires.judging.classes c.requires.method)

pub returns-in_ok-code-in-Some-clause-value : goal.returns-in_ok-code-in-Some-clause-value
returns-in_ok-code-in-Some-clause-value g c =
    let j = c.args.judging.now in
    let bases = bases_of (module_judged j) in
    let parents = c.requires.judging.parents in
    let tree = g.S.TypeStore.tree in
    let x = method_with tree c.args.method.now in
    let demands = c.args.above.now.demands.now in
    let rest = overridden (methods_above j c.args.above.now.rest) x.name in
    let all = overridden (methods_above j c.args.above.now.base) x.name in
    let good : Bases → Bool = λ bs. list_all (meets_demand tree relations.Assignable bs x) demands in
    let static : Bases → Bool = λ bs. list_all (meets_demand tree relations.Static bs x) demands in
    let told = good_and (good (bases_in j.classes.now)) (static (bases_in j.classes.now)) c.in-Some.is_static c.in-Some.ensures.value in
    c.in_ok-code-in-Some.ensures.value
    ∙ ap (λ b. code_where (b && list_all (is_good_to (bases_in j.classes.now) x) rest)
    (c.in-Some.is_static && list_all (is_static_to (bases_in j.classes.now) x) rest)) (sym told.0)
    ∙ ap (λ b. code_where (good (bases_in j.classes.now) && list_all (is_good_to (bases_in j.classes.now) x) rest)
    (b && list_all (is_static_to (bases_in j.classes.now) x) rest)) told.1
    ∙ ap (λ bs. code_where (good bs && list_all (is_good_to bs x) rest)
    (static bs && list_all (is_static_to bs x) rest)) parents
    ∙ code_by_enough tree bases demands rest all x c.requires.above.enough (listed_well_formed tree j.classes.now
    (module_judged j) c.args.method.now c.requires.judging.classes c.requires.method)
