-- The fault of the words of a command line if `clap` finds one, or if there is no request without one.
use Rattle.std.proofs.Common.{◌≡◌, ◌∙◌, ◌||◌, ◌⊎◌, refl, sym, ap, inl, inr, true, false, true≢false, Bool, List, []}
use Rattle.std.proofs.Common.{◌∷◌, Option, None}
use Rattle.std.specs.List.{list_any}
use Rattle.clap.specs.Words.{IsAmong, Kinds, Text}
use Rattle.clap.specs.Lexer.{long_of, short_of}
use Rattle.std.specs.Str.{bytes_eq}
use Rattle.clap.specs.declared.error.kind.ErrorKind.{ErrorKind}
use Rattle.clap.specs.declared.error.kind.ErrorKind.TheVariants as kind
use Rattle.pc_commands.specs.declared.faults.OptionFault.{OptionFault}
use Rattle.pc_commands.specs.declared.faults.OptionFault.TheVariants.{Usage, Help, OutOfMemory}
use Rattle.pc_commands.specs.Faults.{OnFault, begins_with_dash, is_mistake, is_request, mistaken_by, without_faults}

-- ---- a word that does not begin with a dash

pub long_none : (w : Text) → begins_with_dash w ≡ false → long_of w ≡ None
long_none [] e = refl
long_none (x ∷ xs) e = rw e refl

pub short_none : (w : Text) → begins_with_dash w ≡ false → short_of w ≡ None
short_none [] e = refl
short_none (x ∷ xs) e = rw e refl

pub not_dashes : (w : Text) → begins_with_dash w ≡ false → bytes_eq w (45 ∷ 45 ∷ []) ≡ false
not_dashes [] e = refl
not_dashes (x ∷ xs) e = rw e refl

-- ---- faults

-- of the kinds, one passes the test
some_passes : (p : ErrorKind → Bool) (k : ErrorKind) (kinds : Kinds) → IsAmong k kinds → p k ≡ true
    → list_any p kinds ≡ true
some_passes p k [] among passes = absurd among
some_passes p k (x ∷ xs) (inl is) passes = rw (← is, passes) refl
some_passes p k (x ∷ xs) (inr rest) passes = go (p x) (some_passes p k xs rest passes)
  where
    go : (b : Bool) → list_any p xs ≡ true → (b || list_any p xs) ≡ true
    go true e = refl
    go false e = e

-- where there is a fault, nothing is asked
nothing_asked : {A : Type 0} (kinds : Kinds) (found : Option A) (k : ErrorKind) → IsAmong k kinds
    → without_faults kinds found ≡ None
nothing_asked [] found k among = absurd among
nothing_asked (x ∷ xs) found k among = refl

-- nothing is asked without a fault
no_asking : {A : Type 0} (kinds : Kinds) (asked : Option A) → kinds ≡ [] → asked ≡ None → mistaken_by kinds asked ≡ true
no_asking kinds asked none nothing = rw (none, nothing) refl

-- a mistake is among the faults
mistake_among : {A : Type 0} (kinds : Kinds) (asked : Option A) (k : ErrorKind) → IsAmong k kinds → is_mistake k ≡ true
    → mistaken_by kinds asked ≡ true
mistake_among [] asked k among mistake = absurd among
mistake_among (x ∷ xs) asked k among mistake = some_passes is_mistake k (x ∷ xs) among mistake

-- there is no fault but a value that asks for nothing
pub value_at_fault : {A : Type 0} (kinds : Kinds) (asked : Option A) (r : OptionFault) → kinds ≡ [] → asked ≡ None
    → OnFault (Unit {0}) ⊥ r
    → OnFault (asked ≡ None) (asked ≡ None) r × OnFault (mistaken_by kinds asked ≡ true)
    (list_any is_request kinds ≡ true) r
value_at_fault kinds asked (Usage text) none nothing said = (nothing, no_asking kinds asked none nothing)
value_at_fault kinds asked (Help text) none nothing said = absurd said
value_at_fault kinds asked OutOfMemory none nothing said = (tt, tt)

-- a weaker fact of a fault
on_fault : (r : OptionFault) (P Q P2 Q2 : Type 0) → (P → P2) → (Q → Q2) → OnFault P Q r → OnFault P2 Q2 r
on_fault (Usage text) P Q P2 Q2 f g p = f p
on_fault (Help text) P Q P2 Q2 f g q = g q
on_fault OutOfMemory P Q P2 Q2 f g u = tt

-- the kind of an error of `clap`, where it is not a failed allocation
among : (kinds : Kinds) (k : ErrorKind) → (k ≡ kind.OutOfMemory) ⊎ IsAmong k kinds → (k ≡ kind.OutOfMemory → ⊥)
    → IsAmong k kinds
among kinds k (inl is) not_memory = absurd (not_memory is)
among kinds k (inr h) not_memory = h

no_memory : (test : ErrorKind → Bool) (k : ErrorKind) → test kind.OutOfMemory ≡ false → test k ≡ true
    → k ≡ kind.OutOfMemory → ⊥
no_memory test k fails passes is = true≢false (sym passes ∙ ap test is ∙ fails)

-- the fault reported for an error of `clap` is true of the words
pub error_says : {A : Type 0} (kinds : Kinds) (found : Option A) (k : ErrorKind) (r : OptionFault)
    → (k ≡ kind.OutOfMemory) ⊎ IsAmong k kinds
    → OnFault (is_mistake k ≡ true) (is_request k ≡ true) r
    → OnFault (without_faults kinds found ≡ None) (without_faults kinds found ≡ None) r
    × OnFault (mistaken_by kinds (without_faults kinds found) ≡ true) (list_any is_request kinds ≡ true) r
error_says kinds found k r has said =
    let mistaken : is_mistake k ≡ true → IsAmong k kinds = λ m. among kinds k has (no_memory is_mistake k refl m) in
    let requested : is_request k ≡ true → IsAmong k kinds = λ q. among kinds k has (no_memory is_request k refl q) in (
      on_fault r _ _ _ _ (λ m. nothing_asked kinds found k (mistaken m))
          (λ q. nothing_asked kinds found k (requested q)) said,
      on_fault r _ _ _ _ (λ m. mistake_among kinds (without_faults kinds found) k (mistaken m) m)
          (λ q. some_passes is_request k kinds (requested q) q) said,
    )
