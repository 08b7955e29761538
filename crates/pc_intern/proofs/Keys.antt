-- When two nodes are equal as keys.
use Rattle.std.proofs.Common.{◌≡◌, Bool, true, false, ◌&&◌, nat_eq, refl, sym, ap, ◌∙◌, rules, Decides}
use Rattle.std.specs.Cmp.Lexicographic.{pointwise}
use Rattle.std.proofs.lemmas.Slice.Eq.{slice_eq-Decides}
use Rattle.std.proofs.lemmas.Bool.Decides.{Decides-eqb}
use Rattle.pc_types.specs.declared.head.Head.{Head}
use Rattle.pc_types.specs.contracts.head.HeadPartialEq.TheImpl as heads
use Rattle.pc_intern.specs.declared.table.TypeNode.{TypeNode}
use Rattle.pc_intern.specs.contracts.table.TypeNodePartialEq.TheImpl as nodes

abbrev pub head_eq : Head → Head → Bool
head_eq = (heads.ghosts).eq

abbrev pub node_eq : TypeNode → TypeNode → Bool
node_eq = (nodes.ghosts).eq

node_eq_is : (m n : TypeNode) → node_eq m n ≡ (head_eq m.head n.head && pointwise nat_eq m.parts.items n.parts.items)
node_eq_is m n = refl

head_same : (a b : Head) → head_eq a b ≡ true → a ≡ b
head_same a b h = search rules

head_own : (a : Head) → head_eq a a ≡ true
head_own a = search rules

both : (a b : Bool) → (a && b) ≡ true → (a ≡ true) × (b ≡ true)
both true true h = (refl, refl)
both true false h = cc
both false b h = cc

-- two nodes are equal exactly where they have one head and the same parts
pub node_decides : (m n : TypeNode) → Decides (node_eq m n) ((m.head ≡ n.head) × (m.parts.items ≡ n.parts.items))
node_decides m n =
    let d = slice_eq-Decides Decides-eqb m.parts.items n.parts.items (pointwise nat_eq m.parts.items n.parts.items)
    refl in (
      λ h. let b = both (head_eq m.head n.head) (pointwise nat_eq m.parts.items n.parts.items)
          (sym (node_eq_is m n) ∙ h) in (head_same m.head n.head b.0, d.0 b.1),
      λ e. node_eq_is m n ∙ (λ i. (ap (head_eq m.head) (sym e.0) ∙ head_own m.head) i && d.1 e.1 i),
    )
