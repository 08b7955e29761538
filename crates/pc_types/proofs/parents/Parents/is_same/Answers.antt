use Rattle.std.proofs.Common.{◌≡◌, ℕ, Option, Some, None, nat_eq, Decides, refl, ap, rules, length, ◌↔◌, IsTrue}
use Rattle.std.proofs.lemmas.Bool.Decides.{Decides-eqb}
use Rattle.std.proofs.lemmas.Slice.Eq.{slice_eq-Decides}
use Rattle.std.specs.Option.{option_eq}
use Rattle.pc_types.proofs.Numbered.{told_by_numbers}
use Rattle.pc_types.proofs.parents.Parents.is_same.Goals as goal

option_decides : (a b : Option ℕ) → Decides (option_eq nat_eq a b) (a ≡ b)
option_decides None None = (λ h. refl, λ e. refl)
option_decides None (Some b) = (λ h. cc, λ e. cc)
option_decides (Some a) None = (λ h. cc, λ e. cc)
option_decides (Some a) (Some b) = let d = Decides-eqb a b in (λ h. ap Some (d.0 h), λ e. d.1 cc)

pub returns-then-len-2 : goal.returns-then-len-2
returns-then-len-2 c =
    let left = c.self.inside in
    let right = c.other.inside in
    let p : length left.numbers.items ≡ length left.bases.items = search rules in
    let q : length right.numbers.items ≡ length right.bases.items = search rules in
    let e = told_by_numbers left.bases.items right.bases.items left.numbers.items right.numbers.items
    c.self.invariant.2 c.other.invariant.2 p q c.self.invariant.0 c.other.invariant.0 in
    let same : IsTrue c.are_same.result ↔ (left.numbers.items ≡ right.numbers.items) = search rules in
    rw (← c.self.view_is, ← c.other.view_is) (λ h. e.0 (same.0 h), λ h. same.1 (e.1 h))

pub returns : goal.returns
returns c =
    rw (← c.self.view_is, ← c.other.view_is) (slice_eq-Decides option_decides _ _ _ c.eq.ensures)
