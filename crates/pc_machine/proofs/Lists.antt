-- Frames, arguments and suites as lists.
use Rattle.std.proofs.Common.{◌≡◌, ◌<◌, ◌≤◌, ℕ, zero, suc, List, [], ◌∷◌, ◌++◌, length, get_or, take, drop, map, refl}
use Rattle.std.proofs.Common.{ap, ◌∙◌, arith, true}
use Rattle.pc_machine.specs.State.{Local, FormalParameter}
use Rattle.pc_machine.specs.Calls.{NamedValue, filled_parameters}
use Rattle.pc_machine.specs.declared.state.FormalParameter.{FormalParameter as RustParameter}
use Rattle.std.specs.Prelude.{Option, Some, None, slice_set}
use Rattle.pc_tree.specs.declared.tree.Stmt.{Stmt as RustStmt}
use Rattle.pc_tree.specs.Tree.{stmts_of_list}
use Rattle.pc_value.specs.declared.value.Value.{Value as RustValue}
use Rattle.pc_value.specs.Meaning.{value_of}
use Rattle.pc_value.specs.Texts.{same_text}
use Rattle.pc_machine.specs.declared.state.Local.{Local as RustLocal}
use Rattle.pc_machine.specs.Names.{with_local}
use Rattle.pc_machine.specs.Plain.{Progress, Came}
use Rattle.pc_machine.specs.Performed.{empty_charged}
use Rattle.pc_machine.specs.Machine.{local_of as local_seen, parameter_of}

-- a local that is set at the first place of its name
pub set_here : (n : List ℕ) (v : RustValue) (ls : List RustLocal) (i : ℕ) (d : RustLocal) → i < length ls
    → same_text (get_or ls i d).name.now n ≡ true → map local_seen
    (slice_set ls i (record { name = (get_or ls i d).name; value = Some v })) ≡ map local_seen (take i ls) ++ with_local
    n (value_of v) (map local_seen (drop i ls))
set_here n v [] i d lt h = absurd (omega arith)
set_here n v (l ∷ ls) zero d lt h = rw h refl
set_here n v (l ∷ ls) (suc i) d lt h = ap (λ rest. local_seen l ∷ rest) (set_here n v ls i d (omega arith) h)

-- a suite that is not empty is not charged
pub not_empty : (body : List RustStmt) (w : Progress) → 1 ≤ length body → empty_charged (stmts_of_list body) w
    ≡ Came tt w
not_empty [] w h = absurd (omega arith)
not_empty (s ∷ rest) w h = refl

-- bound locals before others
abbrev pub before : List Local → Option (List Local) → Option (List Local)
before ls None = None
before ls (Some others) = Some (ls ++ others)

pub map_both : {A B : Type 0} (f : A → B) (xs ys : List A) → map f (xs ++ ys) ≡ map f xs ++ map f ys
map_both f [] ys = refl
map_both f (x ∷ xs) ys = ap (λ zs. f x ∷ zs) (map_both f xs ys)

-- more arguments by position than parameters
left_over : (vs : List RustValue) (ns : List NamedValue) (i : ℕ) → i < length vs
    → filled_parameters [] (map value_of (drop i vs)) ns ≡ None
left_over [] ns i lt = absurd (omega arith)
left_over (v ∷ vs) ns zero lt = refl
left_over (v ∷ vs) ns (suc i) lt = left_over vs ns i (omega arith)

past : (ps : List RustParameter) (i : ℕ) → length ps ≤ i → map parameter_of (drop i ps) ≡ []
past [] zero h = refl
past [] (suc i) h = refl
past (p ∷ ps) zero h = absurd (omega arith)
past (p ∷ ps) (suc i) h = past ps i (omega arith)

pub too_many : (ps : List RustParameter) (vs : List RustValue) (ns : List NamedValue) (ls : List Local) (i : ℕ)
    → length ps ≤ i → i < length vs → before ls (filled_parameters (map parameter_of (drop i ps))
    (map value_of (drop i vs)) ns) ≡ None
too_many ps vs ns ls i le lt = ap (λ (qs : List FormalParameter). before ls
    (filled_parameters qs (map value_of (drop i vs)) ns)) (past ps i le) ∙ ap (before ls) (left_over vs ns i lt)
