-- Binding of arguments to parameters, one after another.
use Rattle.std.proofs.Common.{◌≡◌, ◌<◌, ◌≤◌, ◌+◌, ℕ, zero, suc, refl, ap, ◌∙◌, sym, arith, List, [], ◌∷◌, ◌++◌, map}
use Rattle.std.proofs.Common.{length, get_or, drop, append_assoc, inl, inr}
use Rattle.std.specs.Prelude.{Option, Some, None, slice_get, MatchOption, IfSome}
use Rattle.std.specs.Option.{option_map}
use Rattle.std.specs.Borrow.{Bor}
use Rattle.std.proofs.lemmas.Option.{slice_get_cases, slice_get_read, slice_get_past}
use Rattle.pc_tree.proofs.Stops.{cons_at}
use Rattle.pc_value.specs.Value.{Value}
use Rattle.pc_value.specs.declared.value.Value.{Value as RustValue}
use Rattle.pc_value.specs.Meaning.{value_of}
use Rattle.pc_value.specs.Internal.Keys.{option_value}
use Rattle.pc_machine.specs.declared.state.FormalParameter.{FormalParameter as RustParameter}
use Rattle.pc_machine.specs.State.{Local, FormalParameter}
use Rattle.pc_machine.specs.Calls.{NamedValue, value_named, filled_parameters, value_taken, and_others}
use Rattle.pc_machine.specs.Machine.{parameter_of}
use Rattle.pc_machine.proofs.Lists.{before}

-- the argument at a position
pub at_position : (Q : RustValue → Type 0) (vs : List RustValue) (i : ℕ) (o : Option (Bor RustValue))
    → IfSome o (λ x. x.now ≡ get_or vs i x.now) → MatchOption o (length vs ≤ i) (λ x. (i < length vs) × Q x.now)
    → option_value o ≡ option_map value_of (slice_get vs i)
at_position Q vs i None is within = ap (option_map value_of) (sym (slice_get_past vs i within))
at_position Q vs i (Some x) is within = ap (option_map value_of)
    (sym (slice_get_read vs (length vs) i x.now refl within.0 is))

past_drop : {A : Type 0} (xs : List A) (i : ℕ) → length xs ≤ i → drop i xs ≡ []
past_drop [] zero h = refl
past_drop [] (suc i) h = refl
past_drop (x ∷ xs) zero h = absurd (omega arith)
past_drop (x ∷ xs) (suc i) h = past_drop xs i (omega arith)

-- the next parameter, and those after it
pub next_filled : (ps : List RustParameter) (vs : List RustValue) (ns : List NamedValue) (i : ℕ) (p : RustParameter)
    → i < length ps → p ≡ get_or ps i p
    → filled_parameters (map parameter_of (drop i ps)) (map value_of (drop i vs)) ns ≡ and_others (parameter_of p)
    (value_taken (parameter_of p) (option_map value_of (slice_get vs i)) (value_named p.name.now ns))
    (filled_parameters (map parameter_of (drop (i + 1) ps)) (map value_of (drop (i + 1) vs)) ns)
next_filled ps vs ns i p lt is =
    ap (λ (qs : List RustParameter). filled_parameters (map parameter_of qs) (map value_of (drop i vs)) ns)
    (cons_at ps i p lt is)
    ∙ elim (slice_get_cases vs i).1 [
      | inl a ↦
          ap (λ (ws : List RustValue). filled_parameters (parameter_of p ∷ map parameter_of (drop (i + 1) ps))
          (map value_of ws) ns) (cons_at vs i a.0 a.1 (sym a.3))
          ∙ ap (λ (o : Option RustValue). and_others (parameter_of p)
          (value_taken (parameter_of p) (option_map value_of o) (value_named p.name.now ns))
          (filled_parameters (map parameter_of (drop (i + 1) ps)) (map value_of (drop (i + 1) vs)) ns)) (sym a.2)
      | inr b ↦
          ap (λ (ws : List RustValue). filled_parameters (parameter_of p ∷ map parameter_of (drop (i + 1) ps))
          (map value_of ws) ns) (past_drop vs i b.0)
          ∙ ap (λ (o : Option RustValue). and_others (parameter_of p)
          (value_taken (parameter_of p) (option_map value_of o) (value_named p.name.now ns))
          (filled_parameters (map parameter_of (drop (i + 1) ps)) [] ns)) (sym b.1)
          ∙ ap (λ (ws : List RustValue). and_others (parameter_of p)
          (value_taken (parameter_of p) (option_map value_of (slice_get vs i)) (value_named p.name.now ns))
          (filled_parameters (map parameter_of (drop (i + 1) ps)) (map value_of ws) ns))
          (sym (past_drop vs (i + 1) (omega (arith, b.0))))
    ]

-- a parameter with its value goes before the others
pub value_before : (ls : List Local) (p : FormalParameter) (v : Value) (others : Option (List Local))
    → before ls (and_others p (Some v) others) ≡ before (ls ++ record { name = p.name; value = Some v } ∷ []) others
value_before ls p v None = refl
value_before ls p v (Some os) = ap (λ (xs : List Local). Some xs)
    (sym (append_assoc ls (record { name = p.name; value = Some v } ∷ []) os))
