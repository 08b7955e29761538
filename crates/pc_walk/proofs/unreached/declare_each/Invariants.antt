use Rattle.std.proofs.Common.{◌≡◌, drop}
use Rattle.pc_flow.specs.Stored.{env_of}
use Rattle.pc_notes.specs.Notes.{notes_of}
use Rattle.pc_walk.specs.Internal.BoundNames.{unreached_numbers}
use Rattle.pc_walk.specs.Walks.{HoldsEnv, WalkKept}
use Rattle.pc_walk.proofs.unreached.declare_each.Given as goal

abbrev pub invariant-loop-local : goal.invariant-loop-local
invariant-loop-local g l =
    let table = env_of g.S.TypeStore.tree l.walk.declared.now in
    let first = env_of g.S.TypeStore.tree l.fn.walk.declared.now in
    record {
      goes_on : WalkKept g.S.TypeStore l.fn.walk l.walk;
      found : notes_of l.walk.found.now ≡ notes_of l.fn.walk.found.now;
      holds : HoldsEnv g.S.TypeStore l.walk l.walk.declared.now;
      is : unreached_numbers table (drop l.local-index l.locals) ≡ unreached_numbers first l.locals;
    }
