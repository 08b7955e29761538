use Rattle.pc_flow.specs.Naming.{meanings}
use Rattle.std.proofs.Common.{◌≡◌, drop}
use Rattle.pc_class.specs.Tables.{parameters_with}
use Rattle.pc_flow.specs.Stored.{env_of}
use Rattle.pc_notes.specs.Notes.{notes_of}
use Rattle.pc_module_rules.specs.Computed.Statements.{enter_parameters}
use Rattle.pc_walk.specs.Walks.{WalkKept, IsValidIn}
use Rattle.pc_check.proofs.entering.enter_parameters.Given as goal

abbrev pub invariant-loop-param : goal.invariant-loop-param
invariant-loop-param g l =
    let tree = g.S.TypeStore.tree in
    let resolve = meanings l.walk.context.names.now in
    let first = meanings l.fn.walk.context.names.now in
    let rest = parameters_with tree (drop l.param-index l.params) in
    let all = parameters_with tree l.params in
    record {
      goes_on : WalkKept g.S.TypeStore l.fn.walk l.walk;
      stands : IsValidIn g.S.TypeStore l.walk l.env;
      is : enter_parameters resolve (env_of tree l.walk.declared.now) (env_of tree l.env) rest
          ≡ enter_parameters first (env_of tree l.fn.walk.declared.now) (env_of tree l.fn.env) all;
      found : notes_of l.walk.found.now ≡ notes_of l.fn.walk.found.now;
    }
