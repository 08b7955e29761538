-- Annotations over several parts, as the program holds them.
use Rattle.std.proofs.Common.{◌≡◌, Vec, Global, refl, ap, ◌∙◌}
use Rattle.pc_source.specs.declared.place.Place.{Place}
use Rattle.pc_tree.specs.declared.tree.Ann.{Ann as RustAnn, Row_of-Ann, end_of-Ann, more_of-Ann, items-the_row-Ann}
use Rattle.pc_tree.specs.declared.tree.Ann.{items_hidden-the_row-Ann-0}
use Rattle.pc_tree.specs.declared.tree.Ann.TheVariants as rust
use Rattle.pc_tree.specs.declared.tree.Ann.TheBlock as Block
use Rattle.pc_tree.specs.declared.tree.Name.{Name as RustName}
use Rattle.pc_tree.specs.Tree.{name_of, applied, union, more_anns, ann_of, anns_of}
use Rattle.pc_bindings.specs.Written.{anns_of_list}

rows : {n : _} (k : Row_of-Ann n) → anns_of k ≡ anns_of_list (items-the_row-Ann n k)
rows end_of-Ann = refl
rows (more_of-Ann a rest) = ap (λ z. more_anns (ann_of a) z) (rows rest)

pub applied_is : (a : RustAnn) (p : Place) (head : RustName) (v : Vec RustAnn Global) → a ≡ rust.Apply p head v
    → ann_of a ≡ applied p (name_of head) (anns_of_list v.items)
applied_is a p head v e = ap ann_of e ∙ ap (λ z. applied p (name_of head) z) (rows (Block.hidden-the_row-Ann-0 v)
    ∙ ap anns_of_list (items_hidden-the_row-Ann-0 v))

pub union_is : (a : RustAnn) (p : Place) (v : Vec RustAnn Global) → a ≡ rust.Union p v
    → ann_of a ≡ union p (anns_of_list v.items)
union_is a p v e = ap ann_of e ∙ ap (λ z. union p z) (rows (Block.hidden-the_row-Ann-0 v)
    ∙ ap anns_of_list (items_hidden-the_row-Ann-0 v))
