use Rattle.pc_flow.specs.Naming.{meanings}
use Rattle.std.proofs.Common.{◌≡◌, ◌∙◌, ◌++◌, List, length, refl, sym, ap, subst}
use Rattle.std.specs.Prelude.{All, map, Some, None}
use Rattle.std.specs.Option.{option_map}
use Rattle.std.proofs.lemmas.List.Elements.{All-weaker}
use Rattle.pc_tree.specs.Tree.{module_of, func_of, stmts_of_list}
use Rattle.pc_class.specs.Bases.{bases_of}
use Rattle.pc_class.specs.Tables.{HasParameter, parameters_with}
use Rattle.pc_class.specs.WellFormed.{ParametersWellFormed}
use Rattle.pc_class.proofs.WellFormed.{params_well_formed}
use Rattle.pc_flow.specs.Environment.{Env, none_assigned}
use Rattle.pc_flow.specs.Stored.{env_of}
use Rattle.pc_notes.specs.Notes.{Note, notes_of}
use Rattle.pc_rules.specs.Computed.ModuleParents.{class_parents}
use Rattle.pc_module_rules.specs.Computed.Statements.{BindingResult, BodyContext, DeclaredTypes, end_finds, enter_parameters}
use Rattle.pc_module_rules.specs.Computed.Statements.{walk_suite}
use Rattle.pc_module_rules.specs.Modules.{receiver_parameter}
use Rattle.pc_walk.specs.declared.context.BodyContext.{BodyContext as RustBodyContext}
use Rattle.pc_walk.specs.StatementsHeld.{HoldsType}
use Rattle.pc_walk.specs.Walks.{body_context_in}
use Rattle.pc_walk.proofs.Walks.{goes_further, in_body_context}
use Rattle.pc_check.specs.Internal.Walked.{reached}
use Rattle.pc_check.proofs.Agreed.{entered_long}
use Rattle.pc_check.proofs.Entered.{none_holds, none_is, parameters_hold, function_found}
use Rattle.pc_check.proofs.Walked.{reached_by, walks_on}
use Rattle.pc_check.proofs.entering.walk_function.Goals as goal

pub enter_receiver-requires : goal.enter_receiver-requires
enter_receiver-requires g c =
    let S = g.S.TypeStore in
    let w = c.args.walk.now in
    let none = none_holds (S.has w.store.now) S.tree (class_parents w.context.globals.now) c.args.count in
    record {
      context = c.requires.context;
      declared = rw c.requires.declared none;
      current = rw c.in_ok-env.ensures none;
    }

pub enter_parameters-requires-clause-params : goal.enter_parameters-requires-clause-params
enter_parameters-requires-clause-params g c =
    let S = g.S.TypeStore in
    let old = c.args.walk.now in
    let new = c.enter_receiver.new.walk in
    let on = c.enter_receiver.ensures.goes_on in
    let params = c.args.params.now in
    let m = module_of old.context.globals.now.outline.now.tree.now in
    let given = All-weaker (HasParameter (S.has old.store.now)) (HasParameter (S.has new.store.now))
    (λ p h. on.kept p.ty h) params c.requires.given in
    let bases : bases_of m ≡ (class_parents old.context.globals.now) =
    sym (ap (λ (x : BodyContext). x.context.bases) c.requires.body) in
    let well_formed = subst (λ bases. ParametersWellFormed bases (parameters_with S.tree params)) bases
    (subst (ParametersWellFormed (bases_of m)) (sym c.requires.params)
    (params_well_formed m (func_of c.args.def.now).params))
    in
    in_body_context S old new (λ (f : RustBodyContext _). All (λ p. HoldsType (S.has new.store.now) S.tree
    (class_parents f.globals.now)
    p.ty) params) on (parameters_hold (S.has new.store.now) S.tree (class_parents old.context.globals.now)
    params given well_formed)

pub check_suite-requires-clause-stands : goal.check_suite-requires-clause-stands
check_suite-requires-clause-stands g c =
    let h = c.in_ok-enter_parameters.ensures.bound.stands in
    record { context = h.context; declared = h.declared; current = h.current; out = tt }

pub check_suite-requires-clause-long : goal.check_suite-requires-clause-long
check_suite-requires-clause-long g c =
    let tree = g.S.TypeStore.tree in
    let old = c.args.walk.now in
    let mid = c.enter_receiver.new.walk in
    let none : DeclaredTypes = none_assigned c.args.count in
    let receiver = receiver_parameter c.args.owner in
    let declared = ap (env_of tree) c.requires.declared ∙ none_is tree c.args.count in
    let env = ap (env_of tree) c.in_ok-env.ensures ∙ none_is tree c.args.count in
    let resolve = meanings old.context.names.now in
    let table = env_of tree mid.declared.now in
    let first = env_of tree c.enter_receiver.new.env in
    let received : (table, first) ≡ enter_parameters resolve none none receiver =
    ap (λ (b : BindingResult). (b.table, b.env)) c.in_ok-enter_receiver.ensures.bound.is
    ∙ (λ i. enter_parameters resolve (declared i) (env i) receiver) in
    let between = subst (λ (r : DeclaredTypes × Env). length r.1 ≡ length r.0) (sym received)
    (entered_long resolve none none receiver refl) in
    let behind = entered_long (meanings mid.context.names.now) table first (parameters_with tree c.args.params.now)
    between in
    record {
      env_long = subst (λ (r : DeclaredTypes × Env). length r.1 ≡ length r.0)
          (sym (ap (λ (b : BindingResult). (b.table, b.env)) c.in_ok-enter_parameters.ensures.bound.is)) behind;
      exit_env_long = tt;
    }

pub returns-clause-pushed : goal.returns-clause-pushed
returns-clause-pushed g c =
    let S = g.S.TypeStore in
    let tree = S.tree in
    let old = c.args.walk.now in
    let first = c.enter_receiver.new.walk in
    let mid = c.enter_parameters.new.walk in
    let later = c.check_suite.new.walk in
    let context = body_context_in S old in
    let resolve = context.context.resolve in
    let m = module_of old.context.globals.now.outline.now.tree.now in
    let def = func_of c.args.def.now in
    let n = c.args.count in
    let receiver = receiver_parameter c.args.owner in
    let r = c.in_ok-enter_receiver.ensures.bound in
    let e = c.in_ok-enter_parameters.ensures.bound in
    let s = c.in_ok-out.ensures.walked in
    let env = c.enter_parameters.new.env in
    let out = c.in_ok-out.out in
    let found = notes_of old.found.now in
    let declared_is = ap (env_of tree) c.requires.declared ∙ none_is tree n in
    let env_is = ap (env_of tree) c.in_ok-env.ensures ∙ none_is tree n in
    let middle : DeclaredTypes × Env = (env_of tree first.declared.now, env_of tree c.enter_receiver.new.env) in
    let start : DeclaredTypes × Env = (env_of tree mid.declared.now, env_of tree env) in
    let body = reached S later out c.check_suite.new.exit.env in
    let g1 = c.enter_receiver.ensures.goes_on in
    let g2 = goes_further g1 c.enter_parameters.ensures.goes_on in
    let g3 = goes_further g2 c.check_suite.ensures.goes_on in
    let received = ap (λ (b : BindingResult). (b.table, b.env)) r.is
    ∙ (λ i. enter_parameters resolve (declared_is i) (env_is i) receiver) in
    let started = ap (λ (b : BindingResult). (b.table, b.env)) e.is
    ∙ (λ i. enter_parameters (meanings (g1.context i).names.now) middle.0 middle.1
    (parameters_with tree c.args.params.now))
    ∙ ap (enter_parameters resolve middle.0 middle.1) c.requires.params in
    let notes = ap (λ (b : BindingResult). b.found) e.is ∙ ap (λ (b : BindingResult). b.found) r.is in
    let walked = walks_on S old mid later (Some env) None out c.check_suite.new.exit.env
    (λ f w. walk_suite f w (stmts_of_list c.deref.result.now)) g2 s
    ∙ ap (λ b. walk_suite context (reached S mid (Some env) None) (stmts_of_list b)) c.deref.ensures.value
    ∙ ap (λ (ns : List Note). walk_suite context (reached_by start.0 (Some start.1) None ns) def.body) notes in
    let whole = function_found old.context.globals.now.keeps m (map tree old.context.globals.now.constants.now)
    c.args.owner def context found n
    middle start body
    c.requires.body c.requires.count received started walked in
    c.in_ok-check_end.ensures.pushed
    ∙ (λ i. notes_of later.found.now ++ end_finds (g3.context i).globals.now.outline.now.parents.now
    (tree (g3.context i).returned.now)
    def.name.place
    (option_map (env_of tree) out)) ∙ whole
