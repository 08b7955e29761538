-- The state of a reader of annotations. Own rule of the profile.
use Rattle.std.specs.Prelude.{◌≡◌}
use Rattle.pc_class.specs.declared.reading.TypeReader.{TypeReader}

-- a reader borrows the same store and the same list of findings as before
pub record IsLentSame {Store Ty : Type 0} (old new : TypeReader Store Ty) : Type 0 where
  pub same_store : new.store.ghost_name ≡ old.store.ghost_name
  pub same_found : new.found.ghost_name ≡ old.found.ghost_name
