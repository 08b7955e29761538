-- The state of a check, as the program holds it, and a step of it, in terms of the definitions. Own rule of the
-- profile.
use Rattle.std.specs.Prelude.{◌≡◌, ◌++◌, List, Option}
use Rattle.pc_types.specs.Store.{KeepsTypes}
use Rattle.pc_types.specs.declared.store.TypeStore.{Ghosts as StoreOf}
use Rattle.pc_notes.specs.Notes.{Note, notes_of}
use Rattle.pc_rules.specs.Operations.{Label}
use Rattle.pc_rules.specs.Computed.Standing.{HasGivenAll, HasIfAny, MeansLabel}
use Rattle.pc_rules.specs.declared.label.Label.{Label as RustLabel}
use Rattle.pc_rules.specs.declared.expr_context.ExprContext.{ExprContext}
use Rattle.pc_rules.specs.declared.typing_state.TypingState.{TypingState}

module _ {Store Ty : Type 0} (S : StoreOf Store Ty) where
  -- the store of a state gave all types of a context and of an environment; those of the locals are well-formed
  abbrev pub HoldsAll : TypingState Store Ty → ExprContext Ty → List (Option Ty) → Type 0
  HoldsAll c s types = HasGivenAll (S.has c.store.now) S.tree s types

  -- the store of a state gave a type, if there is one
  abbrev pub HoldsIfAny : TypingState Store Ty → Option Ty → Type 0
  HoldsIfAny c ty = HasIfAny (S.has c.store.now) ty

  -- a label with a type of the store of a state means this label, with each code once
  abbrev pub IsLabel : TypingState Store Ty → RustLabel Ty → Label → Type 0
  IsLabel c l m = MeansLabel S.has S.tree c.store.now l m

  -- a state after a step: types of its store are kept, and it is lent the same store and the same list of notes
  pub record StateKept (old new : TypingState Store Ty) : Type 0 where
    pub kept : KeepsTypes S.has old.store.now new.store.now
    pub same_store : new.store.ghost_name ≡ old.store.ghost_name
    pub same_notes : new.found.ghost_name ≡ old.found.ghost_name

-- a step from one state to another appends these notes
abbrev pub AddsNotes : {Store Ty : Type 0} → (old new : TypingState Store Ty) → List Note → Type 0
AddsNotes old new notes = notes_of new.found.now ≡ notes_of old.found.now ++ notes
