-- The notes in the parts of an expression do not depend on the expression's own label.
use Rattle.std.proofs.Common.{◌≡◌, refl}
use Rattle.std.specs.Prelude.{Bool as Test}
use Rattle.pc_tree.specs.Tree.{Expr, name, number, text, truth, nothing, tuple, list, dict, negative, negation, binary}
use Rattle.pc_tree.specs.Tree.{compare, is_none, is_not_none, conjunction, disjunction, attribute, index, call}
use Rattle.pc_rules.specs.Operations.{Label}
use Rattle.pc_rules.specs.Labels.{Labels, with_label}
use Rattle.pc_rules.specs.Computed.Findings.{found_in_parts}

-- the parts of an expression whose own label is another one
pub parts_kept : (keeps : Test) (e : Expr) (m : Labels e) (here : Label)
    → found_in_parts keeps e (with_label e m here) ≡ found_in_parts keeps e m
parts_kept keeps (name n) m here = refl
parts_kept keeps (number p d) m here = refl
parts_kept keeps (text p d) m here = refl
parts_kept keeps (truth p d) m here = refl
parts_kept keeps (nothing p) m here = refl
parts_kept keeps (tuple p es) m here = refl
parts_kept keeps (list p es) m here = refl
parts_kept keeps (dict p es) m here = refl
parts_kept keeps (negative p e) m here = refl
parts_kept keeps (negation p e) m here = refl
parts_kept keeps (binary p o l r) m here = refl
parts_kept keeps (compare p o l r) m here = refl
parts_kept keeps (is_none p e) m here = refl
parts_kept keeps (is_not_none p e) m here = refl
parts_kept keeps (conjunction p l r) m here = refl
parts_kept keeps (disjunction p l r) m here = refl
parts_kept keeps (attribute p e field) m here = refl
parts_kept keeps (index p e i) m here = refl
parts_kept keeps (call p c args kws) m here = refl
