use Rattle.std.proofs.Common.{◌∙◌, sym, subst, ℕ, List, length, take, Option, None, Some}
use Rattle.std.specs.Io.KnownBytes.{Appends, Keeps}
use Rattle.std.proofs.Math.Seq.{take-length}
use Rattle.pc_traced_file.proofs.file.is_written.Goals as goal

-- known bytes that grew by some are still grown by these after a call that keeps them
keeps_grown : (old mid new : Option (List ℕ)) (bytes : List ℕ) → Appends old mid bytes → Keeps mid new
    → Appends old new bytes
keeps_grown None mid new bytes grown kept = tt
keeps_grown (Some xs) None new bytes grown kept = absurd grown
keeps_grown (Some xs) (Some ys) None bytes grown kept = absurd kept
keeps_grown (Some xs) (Some ys) (Some zs) bytes grown kept = kept ∙ grown

-- all bytes that were written are a beginning of them
all_begun : (old mid new : Option (List ℕ)) (bytes : List ℕ) → Appends old mid bytes → Keeps mid new
    → (count : ℕ) × Appends old new (take count bytes)
all_begun old mid new bytes grown kept =
    (length bytes, subst (Appends old new) (sym (take-length bytes)) (keeps_grown old mid new bytes grown kept))

pub returns-clause-beginning : goal.returns-clause-beginning
returns-clause-beginning g c failed = all_begun _ _ _ c.args.bytes.now
    (c.write_whole.ensures.all c.if-not-write_whole.false).0 c.flush.ensures.bytes
