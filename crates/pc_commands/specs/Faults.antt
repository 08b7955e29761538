-- Faults of the words of a command line, as `clap` finds them. Own rule of the profile.
use Rattle.std.specs.Prelude.{◌==◌, Bool, true, false, not, List, [], ◌∷◌, Option, None, is_some}
use Rattle.std.specs.List.{list_any}
use Rattle.clap.specs.Words.{Kinds, Text}
use Rattle.clap.specs.declared.error.kind.ErrorKind.{ErrorKind}
use Rattle.clap.specs.declared.error.kind.ErrorKind.TheVariants as kind
use Rattle.pc_commands.specs.declared.faults.OptionFault.{OptionFault}
use Rattle.pc_commands.specs.declared.faults.OptionFault.TheVariants.{Usage, Help, OutOfMemory}

-- whether a word begins with a dash (45)
abbrev pub begins_with_dash : Text → Bool
begins_with_dash [] = false
begins_with_dash (byte ∷ rest) = byte == 45

-- the request found, if there is no fault
abbrev pub without_faults : {A : Type 0} → Kinds → Option A → Option A
without_faults [] found = found
without_faults (fault ∷ more) found = None

-- whether a kind of error is a request: help or the version is shown
abbrev pub is_request : ErrorKind → Bool
is_request kind.DisplayHelp = true
is_request kind.DisplayVersion = true
is_request _ = false

-- whether a kind of error is a mistake in the words
abbrev pub is_mistake : ErrorKind → Bool
is_mistake kind.DisplayHelp = false
is_mistake kind.DisplayVersion = false
is_mistake kind.OutOfMemory = false
is_mistake _ = true

-- whether a mistake is among the faults, or there is no fault and no request
abbrev pub mistaken_by : {A : Type 0} → Kinds → Option A → Bool
mistaken_by [] found = not (is_some found)
mistaken_by (fault ∷ more) found = list_any is_mistake (fault ∷ more)

-- P holds if the words are mistaken, and Q if they ask for help; a failed allocation is not constrained
abbrev pub OnFault : Type 0 → Type 0 → OptionFault → Type 0
OnFault P Q (Usage text) = P
OnFault P Q (Help text) = Q
OnFault P Q OutOfMemory = Unit {0}
