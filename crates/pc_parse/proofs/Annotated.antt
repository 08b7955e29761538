-- Annotations as the tree holds them, and as the machine reads them.
use Rattle.std.proofs.Common.{◌≡◌, ℕ, ◌+◌, ◌≤◌, List, [], ◌∷◌, ◌++◌, min, max, refl, arith, ap, sym, ◌∙◌}
use Rattle.std.specs.Prelude.{Vec}
use Rattle.std.specs.declared.alloc.Global.{Global}
use Rattle.pc_source.specs.declared.place.Place.{Place}
use Rattle.pc_token.specs.Lexeme.{Lexeme}
use Rattle.pc_tree.specs.declared.tree.Ann.{Ann as RustAnn, Row_of-Ann, end_of-Ann, more_of-Ann, items-the_row-Ann}
use Rattle.pc_tree.specs.declared.tree.Ann.{items_hidden-the_row-Ann-0}
use Rattle.pc_tree.specs.declared.tree.Ann.TheVariants as rust
use Rattle.pc_tree.specs.declared.tree.Ann.TheBlock as Block
use Rattle.pc_tree.specs.declared.tree.Name.{Name as RustName}
use Rattle.pc_tree.specs.Tree.{Name, name_of, Ann, named, none_type, applied, applied_empty, union, Anns, no_anns}
use Rattle.pc_tree.specs.Tree.{more_anns, ann_of, anns_of}
use Rattle.pc_tree.specs.Depth.{depth_of_ann, depth_over_anns, place_of_ann}
use Rattle.pc_grammar.specs.Grammar.{span, name_of_token}
use Rattle.pc_grammar.specs.Machine.Finishing.{add_ann}
use Rattle.pc_reader.proofs.Building.{span_is, starts_one, ends_one, name_ends}
use Rattle.pc_parse.specs.declared.annotation.Annotation.{Annotation}
use Rattle.pc_parse.specs.declared.annotation.Annotations.{Annotations}
use Rattle.pc_parse.specs.Internal.Annotations.{KeepsAnn, KeepsAnns, MakesAnn, trees_of_anns}

rows : {n : _} (k : Row_of-Ann n) → anns_of k ≡ trees_of_anns (items-the_row-Ann n k)
rows end_of-Ann = refl
rows (more_of-Ann a rest) = ap (λ z. more_anns (ann_of a) z) (rows rest)

in_applied : (p : Place) (head : RustName) (v : Vec RustAnn Global) → ann_of (rust.Apply p head v)
    ≡ applied p (name_of head) (trees_of_anns v.items)
in_applied p head v = ap (λ z. applied p (name_of head) z) (rows (Block.hidden-the_row-Ann-0 v)
    ∙ ap trees_of_anns (items_hidden-the_row-Ann-0 v))

in_union : (p : Place) (v : Vec RustAnn Global) → ann_of (rust.Union p v) ≡ union p (trees_of_anns v.items)
in_union p v = ap (λ z. union p z) (rows (Block.hidden-the_row-Ann-0 v) ∙ ap trees_of_anns (items_hidden-the_row-Ann-0 v))

push_anns : (xs : List RustAnn) (a : RustAnn) → trees_of_anns (xs ++ (a ∷ [])) ≡ add_ann (trees_of_anns xs) (ann_of a)
push_anns [] a = refl
push_anns (x ∷ xs) a = ap (λ z. more_anns (ann_of x) z) (push_anns xs a)

add_depth : (anns : Anns) (a : Ann) → depth_over_anns (add_ann anns a) ≡ max (depth_over_anns anns) (depth_of_ann a + 1)
add_depth no_anns a = omega arith
add_depth (more_anns x rest) a = omega (arith, add_depth rest a)

pub pushed : (i j : Annotations) (o : Annotation) (anns : Anns) (a : Ann) (ts : List Lexeme)
    → j.anns.items ≡ i.anns.items ++ (o.ann ∷ []) → j.depth ≡ max i.depth (min 65 (o.depth + 1))
    → KeepsAnns i anns → KeepsAnn o a ts → KeepsAnns j (add_ann anns a)
pushed i j o anns a ts e d ki ko = record {
  depth = let n = ki.depth in let m = ko.depth in omega (arith, add_depth anns a);
  kept = λ h. ap trees_of_anns e ∙ push_anns i.anns.items o.ann ∙ ap (λ z. add_ann z (ann_of o.ann)) (ki.kept (omega arith))
      ∙ ap (λ z. add_ann anns z) (ko.kept (omega arith));
}

pub made : (o : Annotation) (make : Place → Ann) (deep : ℕ) → ((p : Place) → (place_of_ann (make p)).start ≡ p.start)
    → ((p : Place) → depth_of_ann (make p) ≡ deep) → o.depth ≡ min 65 deep
    → (o.depth ≤ 64 → ann_of o.ann ≡ make o.place) → MakesAnn o make o.place.start o.place.end
made o make deep pl dp d k ts s e = record {
  starts = s;
  ends = e;
  first = sym (pl (span ts) ∙ ap (λ (z : Place). z.start) (span_is s e));
  depth = d ∙ ap (λ n. min 65 n) (sym (dp (span ts)));
  kept = λ h. k h ∙ ap make (sym (span_is s e));
}

pub applies : (i : Annotations) (head : RustName) (p : Place) (anns : Anns) → KeepsAnns i anns
    → MakesAnn (record { ann = rust.Apply p head i.anns; place = p; depth = i.depth })
    (λ q. applied q (name_of head) anns) p.start p.end
applies i head p anns k = made (record { ann = rust.Apply p head i.anns; place = p; depth = i.depth })
    (λ q. applied q (name_of head) anns) (depth_over_anns anns) (λ q. refl) (λ q. refl) k.depth
    (λ h. in_applied p head i.anns ∙ ap (λ z. applied p (name_of head) z) (k.kept h))

pub unites : (i : Annotations) (p : Place) (anns : Anns) → KeepsAnns i anns
    → MakesAnn (record { ann = rust.Union p i.anns; place = p; depth = i.depth }) (λ q. union q anns) p.start p.end
unites i p anns k = made (record { ann = rust.Union p i.anns; place = p; depth = i.depth }) (λ q. union q anns)
    (depth_over_anns anns) (λ q. refl) (λ q. refl) k.depth
    (λ h. in_union p i.anns ∙ ap (λ z. union p z) (k.kept h))

pub empties : (head : RustName) (p : Place) → MakesAnn (record { ann = rust.ApplyEmpty p head; place = p; depth = 0 })
    (λ q. applied_empty q (name_of head)) p.start p.end
empties head p = made (record { ann = rust.ApplyEmpty p head; place = p; depth = 0 })
    (λ q. applied_empty q (name_of head)) 0 (λ q. refl) (λ q. refl) refl (λ h. refl)

pub names : (n : RustName) (t : Lexeme) → name_of n ≡ name_of_token t
    → KeepsAnn (record { ann = rust.Name n; place = n.place; depth = 0 }) (named (name_of_token t)) (t ∷ [])
names n t e = record {
  starts = record { head = t; tail = []; is = refl; start = sym (ap (λ (z : Name). z.place.start) e) };
  ends = name_ends n t e;
  first = ap (λ (z : Name). z.place.start) e;
  depth = refl;
  kept = λ h. ap named e;
}

pub nothing : (t : Lexeme) → KeepsAnn (record { ann = rust.NoneValue t.place; place = t.place; depth = 0 })
    (none_type (span (t ∷ []))) (t ∷ [])
nothing t = record { starts = starts_one t []; ends = ends_one t; first = refl; depth = refl; kept = λ h. refl }
