use Rattle.std.proofs.Common.{◌≡◌, ◌∙◌, ◌++◌, List, Option, ℕ, sym, ap, subst}
use Rattle.std.specs.Option.{option_map}
use Rattle.pc_flow.specs.Agreement.{TakesInOutside}
use Rattle.pc_flow.specs.Stored.{env_of}
use Rattle.pc_rules.specs.Computed.ModuleParents.{class_parents}
use Rattle.pc_walk.specs.StatementsHeld.{HoldsTypesIfAny}
use Rattle.pc_walk.specs.Untouched.{AgreesIfAny, TakesInIfAny}
use Rattle.pc_walk.proofs.Settled.{agreed_taken_in, more_taken_in, before_taken_in}
use Rattle.pc_walk.proofs.ways.join_exit.Goals as goal

pub returns-in_ok-extend_from_slice-in-None-clause-settled :
    goal.returns-in_ok-extend_from_slice-in-None-clause-settled
returns-in_ok-extend_from_slice-in-None-clause-settled g c = λ base a h.
    let bases = (class_parents c.args.walk.now.context.globals.now) in
    let unsettled = c.args.ways.unsettled.items in
    let touched = c.args.touched.items in
    let met = option_map (env_of g.S.TypeStore.tree) c.args.ways.met in
    let all : c.extend_from_slice.new.self.items ≡ unsettled ++ touched =
    c.in_ok-extend_from_slice-in-None.ensures.items ∙ ap (λ (l : List ℕ). unsettled ++ l) c.deref.ensures.value in
    subst (λ (l : List ℕ). TakesInIfAny bases l met base) (sym all) (more_taken_in bases unsettled touched met base h)

pub returns-in-None-met-clause-settled : goal.returns-in-None-met-clause-settled
returns-in-None-met-clause-settled g c = λ base a h.
    let tree = g.S.TypeStore.tree in
    let w = c.args.walk.now in
    let bases = (class_parents w.context.globals.now) in
    let touched = c.args.touched.items in
    let held = subst (λ (o : Option (List (Option g.row.S-Ty.Denot))).
    HoldsTypesIfAny (g.S.TypeStore.has w.store.now) tree bases o) c.in-Some.is c.requires.out in
    let agrees = subst (λ (o : Option (List (Option g.row.S-Ty.Denot))).
    AgreesIfAny touched base (option_map (env_of tree) o)) c.in-Some.is a in
    agreed_taken_in bases touched (env_of tree c.in-Some.out) base held.well_formed agrees

pub returns-in_ok-extend_from_slice-in-Some-met-2-clause-settled :
    goal.returns-in_ok-extend_from_slice-in-Some-met-2-clause-settled
returns-in_ok-extend_from_slice-in-Some-met-2-clause-settled g c = λ base a h.
    let tree = g.S.TypeStore.tree in
    let bases = (class_parents c.args.walk.now.context.globals.now) in
    let touched = c.args.touched.items in
    let joined = c.in_ok-joined-in-Some-met.joined in
    let left = joined.unsettled.items in
    let all : c.extend_from_slice-in-Some-met-2.new.self.items ≡ touched ++ left =
    c.in_ok-extend_from_slice-in-Some-met-2.ensures.items
    ∙ ap (λ (l : List ℕ). touched ++ l) c.deref-in-Some-met-3.ensures.value in
    let agrees = subst (λ (o : Option (List (Option g.row.S-Ty.Denot))).
    AgreesIfAny touched base (option_map (env_of tree) o)) c.in-Some.is a in
    subst (λ (l : List ℕ). TakesInOutside bases l (env_of tree joined.env) base) (sym all)
    (before_taken_in bases touched left (env_of tree joined.env) (env_of tree c.in-Some.out) base
    c.in_ok-joined-in-Some-met.ensures.settled agrees)
