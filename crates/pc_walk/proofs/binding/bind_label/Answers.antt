use Rattle.std.proofs.Common.{List, Option, sym, subst, refl}
use Rattle.std.specs.Option.{option_map}
use Rattle.pc_types.specs.WellFormed.{IsWellFormed}
use Rattle.pc_notes.specs.Notes.{notes_of}
use Rattle.pc_walk.specs.declared.context.BodyContext.{BodyContext as RustBodyContext}
use Rattle.pc_walk.specs.StatementsHeld.{HoldsContext, HoldsTypes}
use Rattle.pc_types.specs.declared.store.TypeStore.{Ghosts as StoreOf}
use Rattle.pc_rules.specs.Computed.ModuleParents.{class_parents}
use Rattle.pc_walk.specs.declared.walk.Walk.{Walk}
use Rattle.pc_walk.specs.Walks.{WalkKept, body_context_in}
use Rattle.pc_walk.proofs.Bound.{flow_found, label_bound, or_well_formed}
use Rattle.pc_walk.proofs.Held.{types_kept, want_well_formed, context_kept}
use Rattle.pc_walk.proofs.Walks.{in_body_context}
use Rattle.pc_walk.proofs.binding.bind_label.Goals as goal

-- types that the context of a walk holds, the context of a later one holds
types_there : {Store Ty : Type 0} (S : StoreOf Store Ty) (old new : Walk Store Ty) (store : Store)
    {types : List (Option Ty)} → WalkKept S old new → HoldsTypes (S.has store) S.tree
    (class_parents old.context.globals.now) types
    → HoldsTypes (S.has store) S.tree (class_parents new.context.globals.now) types
types_there S old new store {types = types} g h =
    in_body_context S old new (λ (f : RustBodyContext _). HoldsTypes (S.has store) S.tree
    (class_parents f.globals.now) types) g h

pub returns-clause-bound : goal.returns-clause-bound
returns-clause-bound g c = λ m e.
    let S = g.S.TypeStore in
    let has = S.has in
    let tree = g.S.TypeStore.tree in
    let w = c.args.walk.now in
    let h = c.requires.stands in
    let bases = (class_parents w.context.globals.now) in
    let new = c.find_flow_in.new.walk in
    let store = new.store.now in
    let goes = c.find_flow_in.ensures.goes_on in
    let k = goes.kept in
    let want = option_map tree c.args.want in
    let l = c.args.label.now in
    let ty = c.in_ok-ty.ty in
    let before = notes_of w.found.now in
    let after = notes_of new.found.now in
    let code = c.in_ok-code.ensures in
    let known = or_well_formed bases want (tree l.ty)
    (want_well_formed has tree bases w.store.now c.args.want c.requires.want) c.requires.label.well_formed in
    let bound = label_bound has tree bases store (body_context_in g.S.TypeStore w) refl w.declared.now c.args.env
    c.args.local want c.args.place l m before after ty c.in_ok-current.current c.in_ok-code.code e
    (record {
      given = k _ c.in_ok-ty.ensures.0;
      well_formed = subst (IsWellFormed bases) (sym c.in_ok-ty.ensures.1)
          known;
    })
    c.in_ok-ty.ensures.1 code.value c.in_ok-current.ensures.0 c.in_ok-current.ensures.1 c.requires.label.well_formed
    (flow_found tree bases c.args.place l m ty c.in_ok-code.code before after e code.value code.found)
    (types_kept has tree bases _ _ k w.declared.now h.declared)
    (types_kept has tree bases _ _ k c.args.env h.current) in
    rw (c.declare.ensures, c.in_ok-assign.ensures.assigned, c.find_flow_in.ensures.declared) (record {
      is = bound.is;
      stands = record {
        context = in_body_context S w new (λ (f : RustBodyContext _). HoldsContext (has store) tree f) goes
            (context_kept has w.store.now store k tree w.context h.context);
        declared = types_there S w new store goes bound.declared_holds;
        current = types_there S w new store goes bound.env_holds;
      };
    })
