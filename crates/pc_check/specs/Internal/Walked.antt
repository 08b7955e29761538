-- The state of a walk over statements, in terms of the definitions. Own rule of the profile.
use Rattle.pc_flow.specs.Naming.{meanings}
use Rattle.std.specs.Prelude.{◌≡◌, ℕ, List, Option, Some}
use Rattle.std.specs.Option.{option_map}
use Rattle.pc_scope.specs.declared.resolution.NameMeaning.{NameMeaning}
use Rattle.pc_types.specs.declared.store.TypeStore.{Ghosts as StoreOf}
use Rattle.pc_flow.specs.Stored.{env_of}
use Rattle.pc_notes.specs.Notes.{notes_of}
use Rattle.pc_rules.specs.Computed.ModuleParents.{class_parents}
use Rattle.pc_module_rules.specs.Computed.Statements.{BodyContext, Walk as Reached, BranchesResult}
use Rattle.pc_walk.specs.StatementsHeld.{HoldsContext}
use Rattle.pc_walk.specs.Untouched.{WayTakesIn}
use Rattle.pc_walk.specs.declared.walk.Walk.{Walk}
use Rattle.pc_walk.specs.Walks.{HoldsEnv, HoldsWay, body_context_in}
use Rattle.pc_check.specs.Internal.StatementWalk.{walk_with, branching_with, BreaksStaySubsumed}

module _ {Store Ty : Type 0} (S : StoreOf Store Ty) where
  -- the state of a walk, with the environment if this point is reachable, and the exit environment of the enclosing
  -- loop
  abbrev pub reached : Walk Store Ty → (env way : Option (List (Option Ty))) → Reached
  reached w env way = walk_with S.tree w.declared.now env way (notes_of w.found.now)

  -- the state of a walk over branches
  abbrev pub branching : Walk Store Ty → (last : List (Option Ty)) → (ways way : Option (List (Option Ty)))
      → BranchesResult
  branching w last ways way = branching_with S.tree w.declared.now last ways way (notes_of w.found.now)

module _ {Store Ty : Type 0} (S : StoreOf Store Ty) where
  -- the walk is valid with this environment and this exit environment of the enclosing loop, where they exist: the
  -- store gave all types, all are well-formed, and names mean what the scopes say
  pub record IsValidWith (w : Walk Store Ty) (env way : Option (List (Option Ty))) : Type 0 where
    pub context : HoldsContext (S.has w.store.now) S.tree w.context
    pub declared : HoldsEnv S w w.declared.now
    pub current : HoldsWay S w env
    pub out : HoldsWay S w way

  -- the exit environment of the enclosing loop, if there is one, subsumes the environment at each local that is not
  -- unsettled
  abbrev pub ExitSubsumes : Walk Store Ty → (unsettled : List ℕ) → (env way : Option (List (Option Ty))) → Type 0
  ExitSubsumes w unsettled env way = WayTakesIn (class_parents w.context.globals.now) unsettled
      (option_map (env_of S.tree) way) (option_map (env_of S.tree) env)

  -- whatever the exit environment of a loop subsumes before statements that touch these locals, it subsumes after them
  abbrev pub StaysSubsumed : (old new : Walk Store Ty) → (touched : (List ℕ → NameMeaning) → List ℕ)
      → (unsettled later : List ℕ) → (env way out : Option (List (Option Ty))) → Type 0
  StaysSubsumed old new touched unsettled later env way out =
      BreaksStaySubsumed (class_parents old.context.globals.now) (touched (meanings old.context.names.now))
      unsettled later (option_map (env_of S.tree) way) (option_map (env_of S.tree) env) (option_map (env_of S.tree) out)

  -- the walk passed statements, from one environment and exit environment of the enclosing loop to others
  pub record Walked (old : Walk Store Ty) (env way : Option (List (Option Ty))) (new : Walk Store Ty)
      (behind later : Option (List (Option Ty))) (walks : BodyContext → Reached → Reached) : Type 0 where
    pub is : reached S new behind later ≡ walks (body_context_in S old) (reached S old env way)
    pub stands : IsValidWith new behind later

  -- the walk passed branches, from the environment where all conditions so far are false, the join at the ends of
  -- suites and the exit environment of the enclosing loop to others
  pub record Branched (old : Walk Store Ty) (last : List (Option Ty)) (ways way : Option (List (Option Ty)))
      (new : Walk Store Ty) (next : List (Option Ty)) (joined later : Option (List (Option Ty)))
      (walks : BodyContext → BranchesResult → BranchesResult) : Type 0 where
    pub is : branching S new next joined later ≡ walks (body_context_in S old) (branching S old last ways way)
    pub stands : IsValidWith new (Some next) later
    pub met : HoldsWay S new joined
