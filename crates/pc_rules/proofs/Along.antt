-- Labels and findings along equations, in an answer that may be a value.
use Rattle.std.proofs.Common.{◌≡◌, List, subst}
use Rattle.std.specs.Prelude.{Result, Ok, Err, IfOk, OnOk}
use Rattle.pc_notes.specs.Notes.{Note}
use Rattle.pc_types.specs.Tree.{Tree}
use Rattle.pc_rules.specs.Operations.{Label}
use Rattle.pc_rules.specs.Computed.Standing.{MeansLabel}
use Rattle.pc_rules.specs.declared.label.Label.{Label as RustLabel}

pub labelled_by : {Store Ty E : Type 0} (has : Store → Ty → Type 0) (tree : Ty → Tree) (store : Store)
    (r : Result (RustLabel Ty) E) (m n : Label) → m ≡ n → IfOk r (λ l. MeansLabel has tree store l m)
    → IfOk r (λ l. MeansLabel has tree store l n)
labelled_by has tree store r m n e h = subst (λ (x : Label). IfOk r (λ l. MeansLabel has tree store l x)) e h

pub pushed_by : {T E : Type 0} (r : Result T E) (new old more : List Note) → old ≡ more → OnOk r (new ≡ old)
    → OnOk r (new ≡ more)
pushed_by r new old more e h = subst (λ (x : List Note). OnOk r (new ≡ x)) e h

-- a fact that holds anyway holds for the value of a result
pub on_ok : {T E : Type 0} {P : Type 0} (r : Result T E) → P → OnOk r P
on_ok (Ok x) p = p
on_ok (Err x) p = tt

-- from what holds where there is a value, what follows holds there
pub if_ok : {T E : Type 0} {P Q : Type 0} (r : Result T E) → (P → Q) → OnOk r P → OnOk r Q
if_ok (Ok x) f p = f p
if_ok (Err x) f p = tt
