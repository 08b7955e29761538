use Rattle.pc_flow.specs.Naming.{meanings}
use Rattle.std.proofs.Common.{◌≡◌, ◌∙◌, map, sym, ap, subst, All}
use Rattle.std.specs.Prelude.{OnOk}
use Rattle.std.specs.Option.{option_copied}
use Rattle.pc_tree.specs.Tree.{func_of}
use Rattle.pc_scope.specs.Resolution.{locals}
use Rattle.pc_types.specs.Below.{Bases}
use Rattle.pc_types.specs.Tree.{Tree}
use Rattle.pc_types.specs.WellFormed.{IsWellFormed}
use Rattle.pc_class.specs.Bases.{bases_of}
use Rattle.pc_class.specs.Tables.{parameters_with}
use Rattle.pc_class.proofs.WellFormed.{returned_well_formed}
use Rattle.pc_flow.specs.WellFormed.{AreWellFormed}
use Rattle.pc_notes.specs.Notes.{notes_of}
use Rattle.pc_rules.specs.Context.{Signature}
use Rattle.pc_rules.specs.Computed.Signatures.{constants_of}
use Rattle.pc_rules.specs.Computed.Standing.{HasSignature, signature_with}
use Rattle.pc_rules.specs.Laws.WellFormed.{ContextWellFormed}
use Rattle.pc_rules.proofs.Contexts.{bodies_well_formed}
use Rattle.pc_module_rules.specs.Computed.Statements.{BodyContext, function_finds}
use Rattle.pc_module_rules.proofs.WalkedModule.{constants_well_formed}
use Rattle.pc_check.specs.Internal.ModuleWalk.{module_in}
use Rattle.pc_check.proofs.ModuleBodies.{context_is, names_mean, signature_held, signature_is, signature_there}
use Rattle.pc_check.proofs.bodies.check_owned.Goals as goal

pub returns-in-None-clause-found : goal.returns-in-None-clause-found
returns-in-None-clause-found g c =
    let bodies = c.args.bodies.now in
    let h = c.requires.bodies in
    absurd (signature_there (module_in bodies) g.S.TypeStore.tree bodies.signatures.now h.functions h.methods
    c.args.owner
    (func_of c.args.def.now) c.requires.owner (sym c.signature_for.ensures ∙ ap option_copied c.in-None.is))

pub check_function-requires-clause-body : goal.check_function-requires-clause-body
unfolding meanings
check_function-requires-clause-body g c =
    let tree = g.S.TypeStore.tree in
    let bodies = c.args.bodies.now in
    let m = module_in bodies in
    let h = c.requires.bodies in
    let f = func_of c.args.def.now in
    let signature = signature_is m tree bodies.signatures.now h.functions h.methods c.args.owner f
    c.in-Some.signature.now
    c.requires.owner (sym c.signature_for.ensures ∙ ap option_copied c.in-Some.is) in
    context_is m bodies.globals.now.keeps c.args.owner f _ _ _ (map tree c.args.bodies.now.globals.now.constants.now) _
    _ _ h.outline.parents
    h.classes
    (ap (map (signature_with tree)) h.same_functions ∙ h.functions) h.known
    (names_mean m bodies.globals.now.outline.now.scopes.now h.outline.scopes c.args.owner f c.requires.owner)
    (ap (λ (s : Signature). s.returns) signature)

pub check_function-requires-clause-context : goal.check_function-requires-clause-context
unfolding meanings
check_function-requires-clause-context g c =
    let has = g.S.TypeStore.has in
    let tree = g.S.TypeStore.tree in
    let bodies = c.args.bodies.now in
    let store = c.args.state.now.store.now in
    let m = module_in bodies in
    let h = c.requires.bodies in
    let f = func_of c.args.def.now in
    let x = c.in-Some.signature.now in
    let there = sym c.signature_for.ensures ∙ ap option_copied c.in-Some.is in
    let signature = signature_is m tree bodies.signatures.now h.functions h.methods c.args.owner f x c.requires.owner
    there
    in
    let held = signature_held (has store) bodies.signatures.now h.held c.args.owner x there in
    let constants = map tree c.args.bodies.now.globals.now.constants.now in
    let same : constants ≡ constants_of m = ap (map tree) h.same_constants ∙ h.constants in
    let well_formed : AreWellFormed (bases_of m) constants =
    subst (AreWellFormed (bases_of m)) (sym same) (constants_well_formed m) in
    let returned = subst (λ (t : Tree). IsWellFormed (bases_of m) t)
    (sym (ap (λ (s : Signature). s.returns) signature)) (returned_well_formed m f) in
    record {
      classes = h.entries;
      functions = subst (All (HasSignature (has store))) (sym h.same_functions) h.held.functions;
      constants = subst (All (has store)) (sym h.same_constants) h.held.constants;
      returned = record {
        given = held.ret;
        well_formed = subst (λ (bs : Bases). IsWellFormed bs (tree x.ret)) (sym h.outline.parents) returned;
      };
      context = subst (λ (k : BodyContext). ContextWellFormed k.context) (sym (check_function-requires-clause-body g c))
          (bodies_well_formed m constants (locals c.args.owner f) well_formed);
      scopes = h.outline.scopes;
    }

pub returns-in-Some-clause-found : goal.returns-in-Some-clause-found
returns-in-Some-clause-found g c =
    let tree = g.S.TypeStore.tree in
    let m = module_in c.args.bodies.now in
    let found = notes_of c.args.state.now.found.now in
    let same : map tree c.args.bodies.now.globals.now.constants.now ≡ constants_of m =
    ap (map tree) c.requires.bodies.same_constants ∙ c.requires.bodies.constants in
    subst (λ cs. OnOk c.check_function.result (notes_of c.check_function.new.state.found.now
    ≡ function_finds c.args.bodies.now.globals.now.keeps m cs c.args.owner (func_of c.args.def.now) found)) same
    c.check_function.ensures.found

pub check_function-requires-clause-params : goal.check_function-requires-clause-params
check_function-requires-clause-params g c =
    let tree = g.S.TypeStore.tree in
    let bodies = c.args.bodies.now in
    let h = c.requires.bodies in
    let signature = signature_is (module_in bodies) tree bodies.signatures.now h.functions h.methods c.args.owner
    (func_of c.args.def.now) c.in-Some.signature.now c.requires.owner
    (sym c.signature_for.ensures ∙ ap option_copied c.in-Some.is) in
    ap (parameters_with tree) c.as_slice-params.ensures ∙ ap (λ (s : Signature). s.parameters) signature
