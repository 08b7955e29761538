-- Steps of a walk, one after another.
use Rattle.std.proofs.Common.{◌≡◌, ◌∙◌, ◌++◌, List, Option, refl, sym, ap, subst, append_assoc}
use Rattle.pc_types.specs.Store.{KeepsTypes}
use Rattle.pc_types.specs.declared.store.TypeStore.{Ghosts as StoreOf}
use Rattle.pc_flow.specs.Environment.{Env}
use Rattle.pc_flow.specs.Stored.{env_of}
use Rattle.pc_flow.proofs.Given.{keeps_both}
use Rattle.pc_notes.specs.declared.notes.NoteEntry.{NoteEntry}
use Rattle.pc_notes.specs.Notes.{Note, notes_of}
use Rattle.pc_rules.specs.Computed.Standing.{Standing}
use Rattle.pc_rules.specs.Computed.ModuleParents.{class_parents}
use Rattle.pc_module_rules.specs.Computed.Statements.{BodyContext, BindingResult, DeclaredTypes, standing_here}
use Rattle.pc_walk.specs.declared.context.BodyContext.{BodyContext as RustBodyContext}
use Rattle.pc_walk.specs.StatementsHeld.{body_context_with, HoldsContext, HoldsType, HoldsTypeIfAny, HoldsTypes}
use Rattle.pc_walk.specs.StatementsHeld.{HoldsTypesIfAny}
use Rattle.pc_walk.specs.declared.walk.Walk.{Walk}
use Rattle.pc_walk.specs.Walks.{HoldsOne, HoldsWant, HoldsEnv, HoldsWay, IsEnv, WalkKept, IsQuiet, IsValidIn, Found}
use Rattle.pc_walk.specs.Walks.{BindsName, body_context_in, standing_in}
use Rattle.pc_walk.proofs.Held.{type_kept, type_kept_if_any, types_kept, types_kept_if_any, context_kept}

module _ {Store Ty : Type 0} {S : StoreOf Store Ty} where
  -- a step that keeps what the store gave, whatever it declares and finds
  pub grown : {w : Walk Store Ty} {store : Store} {declared : List (Option Ty)} {found : List NoteEntry}
      → KeepsTypes S.has w.store.now store
      → WalkKept S w (record w {
        store = record w.store { now = store };
        declared = record w.declared { now = declared };
        found = record w.found { now = found };
      })
  grown k = record { kept = k; context = refl; same_store = refl; same_declared = refl; same_notes = refl }

  -- no step
  pub same_walk : {w : Walk Store Ty} → WalkKept S w w
  same_walk = record { kept = λ ty h. h; context = refl; same_store = refl; same_declared = refl; same_notes = refl }

  -- one step after another
  pub goes_further : {a b c : Walk Store Ty} → WalkKept S a b → WalkKept S b c → WalkKept S a c
  goes_further {a = a} {b = b} {c = c} g h = record {
    kept = keeps_both S.has a.store.now b.store.now c.store.now g.kept h.kept;
    context = h.context ∙ g.context;
    same_store = h.same_store ∙ g.same_store;
    same_declared = h.same_declared ∙ g.same_declared;
    same_notes = h.same_notes ∙ g.same_notes;
  }

  -- two steps that each declared and found nothing declared and found nothing together
  pub quiet_further : {a b c : Walk Store Ty} → IsQuiet S a b → IsQuiet S b c → IsQuiet S a c
  quiet_further g h = record {
    declared = h.declared ∙ g.declared;
    found = h.found ∙ g.found;
  }

module _ {Store Ty : Type 0} (S : StoreOf Store Ty) (old new : Walk Store Ty) where
  -- a fact of the context stays a fact of it after a step
  pub in_body_context : (P : RustBodyContext Ty → Type 0) → WalkKept S old new → P old.context → P new.context
  in_body_context P g h = subst P (sym g.context) h

  -- a type that the walk held it holds later
  pub one_kept : (ty : Ty) → WalkKept S old new → HoldsOne S old ty → HoldsOne S new ty
  one_kept ty g h = in_body_context (λ (f : RustBodyContext Ty). HoldsType (S.has new.store.now) S.tree
      (class_parents f.globals.now) ty) g
      (type_kept S.has S.tree (class_parents old.context.globals.now) old.store.now new.store.now g.kept ty h)

  -- likewise an environment
  pub env_kept : (env : List (Option Ty)) → WalkKept S old new → HoldsEnv S old env → HoldsEnv S new env
  env_kept env g h = in_body_context (λ (f : RustBodyContext Ty). HoldsTypes (S.has new.store.now) S.tree
      (class_parents f.globals.now) env) g
      (types_kept S.has S.tree (class_parents old.context.globals.now) old.store.now new.store.now g.kept env h)

  -- likewise one that there may be
  pub way_kept : (way : Option (List (Option Ty))) → WalkKept S old new → HoldsWay S old way → HoldsWay S new way
  way_kept way g h = in_body_context (λ (f : RustBodyContext Ty). HoldsTypesIfAny (S.has new.store.now) S.tree
      (class_parents f.globals.now) way) g
      (types_kept_if_any S.has S.tree (class_parents old.context.globals.now) old.store.now new.store.now g.kept
      way h)

  -- likewise a type that there may be
  pub want_kept : (want : Option Ty) → WalkKept S old new → HoldsWant S old want → HoldsWant S new want
  want_kept want g h = in_body_context (λ (f : RustBodyContext Ty). HoldsTypeIfAny (S.has new.store.now) S.tree
      (class_parents f.globals.now) want) g
      (type_kept_if_any S.has S.tree (class_parents old.context.globals.now) old.store.now new.store.now g.kept
      want h)

  -- an environment has the same meaning after a step
  pub env_given : (types : List (Option Ty)) (env : Env) → WalkKept S old new → IsEnv S old types env
      → IsEnv S new types env
  env_given types env g h = record { holds = env_kept types g h.holds; is = h.is }

  -- the context of statements holds after a step as before it
  pub context_on : HoldsContext (S.has old.store.now) S.tree old.context → WalkKept S old new
      → HoldsContext (S.has new.store.now) S.tree new.context
  context_on h g = in_body_context (λ (f : RustBodyContext Ty). HoldsContext (S.has new.store.now) S.tree f) g
      (context_kept S.has old.store.now new.store.now g.kept S.tree old.context h)

  -- a walk stays valid over a step that declares nothing
  pub stands_on : (env : List (Option Ty)) → IsValidIn S old env → WalkKept S old new
      → new.declared.now ≡ old.declared.now → IsValidIn S new env
  stands_on env h g d = record {
    context = context_on h.context g;
    declared = subst (λ (ds : List (Option Ty)). HoldsEnv S new ds) (sym d) (env_kept old.declared.now g h.declared);
    current = env_kept env g h.current;
  }

  -- the findings of a step that declared nothing
  pub found_by : (env : List (Option Ty)) (finds : BodyContext → Standing → List Note)
      → IsValidIn S old env → WalkKept S old new → new.declared.now ≡ old.declared.now
      → notes_of new.found.now ≡ notes_of old.found.now ++ finds (body_context_in S old) (standing_in S old env)
      → Found S old env new finds
  found_by env finds h g d e = record { pushed = e; declared = d; stands = stands_on env h g d }

  -- a later walk that declared nothing has the same standing
  pub same_standing : {A : Type 0} (env : List (Option Ty)) (f : BodyContext → Standing → A)
      → WalkKept S old new → new.declared.now ≡ old.declared.now
      → f (body_context_in S new) (standing_in S new env) ≡ f (body_context_in S old) (standing_in S old env)
  same_standing env f g d =
      ap (λ (x : RustBodyContext Ty). let k = body_context_with S.tree x in
      f k (standing_here k (env_of S.tree new.declared.now) (env_of S.tree env))) g.context
      ∙ ap (λ (ds : List (Option Ty)). f (body_context_in S old)
      (standing_here (body_context_in S old) (env_of S.tree ds) (env_of S.tree env))) d

-- two steps
module _ {Store Ty : Type 0} (S : StoreOf Store Ty) (old mid new : Walk Store Ty) where
  -- the findings of a step and a next one that finds nothing
  pub found_quiet : (env : List (Option Ty)) (finds : BodyContext → Standing → List Note)
      → Found S old env mid finds → WalkKept S mid new → new.declared.now ≡ mid.declared.now
      → notes_of new.found.now ≡ notes_of mid.found.now → Found S old env new finds
  found_quiet env finds a g d e = record {
    pushed = e ∙ a.pushed;
    declared = d ∙ a.declared;
    stands = stands_on S mid new env a.stands g d;
  }

  -- the findings of two steps, the second maybe in another environment
  pub found_then : (env other : List (Option Ty)) (first second finds : BodyContext → Standing → List Note)
      → WalkKept S old mid → WalkKept S mid new → Found S old env mid first → Found S mid other new second
      → first (body_context_in S old) (standing_in S old env) ++ second (body_context_in S old)
      (standing_in S old other)
      ≡ finds (body_context_in S old) (standing_in S old env)
      → Found S old env new finds
  found_then env other first second finds g h a b e =
      let before = notes_of old.found.now in
      let one = first (body_context_in S old) (standing_in S old env) in
      let two = second (body_context_in S old) (standing_in S old other) in
      let same = same_standing S old mid other second g a.declared in
      record {
        pushed = b.pushed
            ∙ ap (λ (ns : List Note). ns ++ second (body_context_in S mid) (standing_in S mid other)) a.pushed
            ∙ ap (λ (ns : List Note). (before ++ one) ++ ns) same
            ∙ append_assoc before one two
            ∙ ap (λ (ns : List Note). before ++ ns) e;
        declared = b.declared ∙ a.declared;
        stands = stands_on S mid new env a.stands h b.declared;
      }

  -- the result of binding a name after a step that found something
  pub bound_then : (env behind : List (Option Ty)) (finds : BodyContext → Standing → List Note)
      (binds : BodyContext → DeclaredTypes → Env → List Note → BindingResult)
      → WalkKept S old mid → Found S old env mid finds → BindsName S mid env new behind binds
      → BindsName S old env new behind (λ f t k ns. binds f t k (ns ++ finds f (standing_here f t k)))
  bound_then env behind finds binds g a b =
      let E = env_of S.tree env in
      record {
        is = b.is
            ∙ ap (λ (f : RustBodyContext Ty). binds (body_context_with S.tree f) (env_of S.tree mid.declared.now) E
            (notes_of mid.found.now)) g.context
            ∙ ap (λ (ds : List (Option Ty)). binds (body_context_in S old) (env_of S.tree ds) E
            (notes_of mid.found.now))
            a.declared
            ∙ ap (λ (ns : List Note). binds (body_context_in S old) (env_of S.tree old.declared.now) E ns) a.pushed;
        stands = b.stands;
      }

  -- the result of binding one name and then another
  pub bound_further : (env between behind : List (Option Ty))
      (first second : BodyContext → DeclaredTypes → Env → List Note → BindingResult)
      → WalkKept S old mid → BindsName S old env mid between first → BindsName S mid between new behind second
      → BindsName S old env new behind (λ f t k ns. let b = first f t k ns in second f b.table b.env b.found)
  bound_further env between behind first second g a b =
      let E = env_of S.tree between in
      let before = second (body_context_in S old) in
      record {
        is = b.is
            ∙ ap (λ (f : RustBodyContext Ty). second (body_context_with S.tree f) (env_of S.tree mid.declared.now) E
            (notes_of mid.found.now)) g.context
            ∙ ap (λ (r : BindingResult). before r.table r.env r.found) a.is;
        stands = b.stands;
      }
