-- Lists in brackets, as the tree holds them.
use Rattle.std.proofs.Common.{◌≡◌, ℕ, ◌+◌, ◌≤◌, List, [], ◌∷◌, ◌++◌, min, max, refl, arith, ap, ◌∙◌}
use Rattle.std.specs.Prelude.{Vec}
use Rattle.std.specs.declared.alloc.Global.{Global}
use Rattle.pc_source.specs.declared.place.Place.{Place}
use Rattle.pc_tree.specs.declared.tree.Expr.{Expr as RustExpr, Row_of-Expr, end_of-Expr, more_of-Expr}
use Rattle.pc_tree.specs.declared.tree.Expr.{items-the_row-Expr, items_hidden-the_row-Expr-0, Row_of-Entry}
use Rattle.pc_tree.specs.declared.tree.Expr.{end_of-Entry, more_of-Entry, items-the_row-Entry}
use Rattle.pc_tree.specs.declared.tree.Expr.{items_hidden-the_row-Entry-1, Row_of-KeywordArgument}
use Rattle.pc_tree.specs.declared.tree.Expr.{end_of-KeywordArgument, more_of-KeywordArgument}
use Rattle.pc_tree.specs.declared.tree.Expr.{items-the_row-KeywordArgument, items_hidden-the_row-KeywordArgument-2}
use Rattle.pc_tree.specs.declared.tree.Expr.TheVariants as rust
use Rattle.pc_tree.specs.declared.tree.Expr.TheBlock as Block
use Rattle.pc_tree.specs.declared.tree.Entry.{Entry}
use Rattle.pc_tree.specs.declared.tree.KeywordArgument.{KeywordArgument}
use Rattle.pc_tree.specs.Tree.{Expr, Exprs, no_exprs, more_exprs, Entries, no_entries, more_entries, Keywords}
use Rattle.pc_tree.specs.Tree.{no_keywords, more_keywords, Name, list, tuple, dict, call, expr_of, exprs_of, entries_of}
use Rattle.pc_tree.specs.Tree.{keywords_of, name_of}
use Rattle.pc_tree.specs.Depth.{depth_of, depth_over, depth_over_entries, depth_over_keywords}
use Rattle.pc_grammar.specs.Machine.Finishing.{add_expr, add_entry, add_keyword}
use Rattle.std.specs.Prelude.{Box}
use Rattle.pc_tree.specs.Lists.{exprs_of_list, entries_of_list, keywords_of_list}
use Rattle.pc_grammar.specs.Machine.States.{Part}
use Rattle.pc_reader.specs.declared.items.Items.{Items}
use Rattle.pc_reader.specs.declared.items.Entries.{Entries as RustEntries}
use Rattle.pc_reader.specs.declared.items.Keywords.{Keywords as RustKeywords}
use Rattle.pc_reader.specs.declared.operand.Operand.{Operand}
use Rattle.pc_reader.specs.Internal.Operands.{KeepsPart, Builds, node_of, form_of_expr}
use Rattle.pc_reader.specs.Internal.Brackets.{KeepsItems, KeepsEntries, KeepsKeywords}
use Rattle.pc_reader.proofs.Building.{built}

rows : {n : _} (k : Row_of-Expr n) → exprs_of k ≡ exprs_of_list (items-the_row-Expr n k)
rows end_of-Expr = refl
rows (more_of-Expr e rest) = ap (λ z. more_exprs (expr_of e) z) (rows rest)

pub in_list : (p : Place) (v : Vec RustExpr Global) → expr_of (rust.List p v) ≡ list p (exprs_of_list v.items)
in_list p v = ap (λ z. list p z) (rows (Block.hidden-the_row-Expr-0 v)
    ∙ ap exprs_of_list (items_hidden-the_row-Expr-0 v))

pub in_tuple : (p : Place) (v : Vec RustExpr Global) → expr_of (rust.Tuple p v) ≡ tuple p (exprs_of_list v.items)
in_tuple p v = ap (λ z. tuple p z) (rows (Block.hidden-the_row-Expr-0 v)
    ∙ ap exprs_of_list (items_hidden-the_row-Expr-0 v))

pub push_exprs : (xs : List RustExpr) (e : RustExpr) → exprs_of_list (xs ++ (e ∷ [])) ≡ add_expr (exprs_of_list xs)
    (expr_of e)
push_exprs [] e = refl
push_exprs (x ∷ xs) e = ap (λ z. more_exprs (expr_of x) z) (push_exprs xs e)

pub add_depth : (es : Exprs) (e : Expr) → depth_over (add_expr es e) ≡ max (depth_over es) (depth_of e + 1)
add_depth no_exprs e = omega arith
add_depth (more_exprs x es) e = omega (arith, add_depth es e)

entry_rows : {n : _} (k : Row_of-Entry n) → entries_of k ≡ entries_of_list (items-the_row-Entry n k)
entry_rows end_of-Entry = refl
entry_rows (more_of-Entry key value rest) = ap (λ z. more_entries (expr_of key) (expr_of value) z) (entry_rows rest)

pub in_dict : (p : Place) (v : Vec Entry Global) → expr_of (rust.Dict p v) ≡ dict p (entries_of_list v.items)
in_dict p v = ap (λ z. dict p z) (entry_rows (Block.hidden-the_row-Entry-1 v)
    ∙ ap entries_of_list (items_hidden-the_row-Entry-1 v))

keyword_rows : {n : _} (k : Row_of-KeywordArgument n) → keywords_of k ≡ keywords_of_list
    (items-the_row-KeywordArgument n k)
keyword_rows end_of-KeywordArgument = refl
keyword_rows (more_of-KeywordArgument name value rest) = ap (λ z. more_keywords (name_of name) (expr_of value) z)
    (keyword_rows rest)

pub push_entries : (xs : List Entry) (e : Entry) → entries_of_list (xs ++ (e ∷ [])) ≡ add_entry (entries_of_list xs)
    (expr_of e.key) (expr_of e.value)
push_entries [] e = refl
push_entries (x ∷ xs) e = ap (λ z. more_entries (expr_of x.key) (expr_of x.value) z) (push_entries xs e)

pub push_keywords : (xs : List KeywordArgument) (e : KeywordArgument) → keywords_of_list (xs ++ (e ∷ []))
    ≡ add_keyword (keywords_of_list xs) (name_of e.name) (expr_of e.value)
push_keywords [] e = refl
push_keywords (x ∷ xs) e = ap (λ z. more_keywords (name_of x.name) (expr_of x.value) z) (push_keywords xs e)

add_entry_depth : (es : Entries) (k v : Expr) → depth_over_entries (add_entry es k v) ≡ max (depth_over_entries es)
    (max (depth_of k) (depth_of v) + 1)
add_entry_depth no_entries k v = omega arith
add_entry_depth (more_entries x y es) k v = omega (arith, add_entry_depth es k v)

add_keyword_depth : (es : Keywords) (n : Name) (v : Expr) → depth_over_keywords (add_keyword es n v)
    ≡ max (depth_over_keywords es) (depth_of v + 1)
add_keyword_depth no_keywords n v = omega arith
add_keyword_depth (more_keywords m x es) n v = omega (arith, add_keyword_depth es n v)

pub pushed_items : (i j : Items) (o : Operand) (es : Exprs) (p : Part) → j.exprs.items ≡ i.exprs.items ++ (o.expr ∷ [])
    → j.depth ≡ max i.depth (min 65 (o.depth + 1))
    → KeepsItems i es → KeepsPart o p → KeepsItems j (add_expr es p.tree)
pushed_items i j o es p e d ki ko = record {
  depth = let a = ki.depth in let b = ko.depth in omega (arith, add_depth es p.tree);
  kept = λ h. ap exprs_of_list e ∙ push_exprs i.exprs.items o.expr
      ∙ ap (λ z. add_expr z (expr_of o.expr)) (ki.kept (omega arith)) ∙ ap (λ z. add_expr es z) (ko.kept (omega arith));
}

pub pushed_entries : (i j : RustEntries) (k v : Operand) (x : Entry) (es : Entries) (p q : Part) → x.key ≡ k.expr
    → x.value ≡ v.expr → j.entries.items ≡ i.entries.items ++ (x ∷ [])
    → j.depth ≡ max i.depth (min 65 (max k.depth v.depth + 1))
    → KeepsEntries i es → KeepsPart k p → KeepsPart v q → KeepsEntries j (add_entry es p.tree q.tree)
pushed_entries i j k v x es p q xk xv e d ki kk kv = record {
  depth = let a = ki.depth in let b = kk.depth in let c = kv.depth in omega (arith, add_entry_depth es p.tree q.tree);
  kept = λ h. ap entries_of_list e ∙ push_entries i.entries.items x
      ∙ ap (λ z. add_entry z (expr_of x.key) (expr_of x.value)) (ki.kept (omega arith))
      ∙ ap (λ z. add_entry es z (expr_of x.value)) (ap expr_of xk ∙ kk.kept (omega arith))
      ∙ ap (λ z. add_entry es p.tree z) (ap expr_of xv ∙ kv.kept (omega arith));
}

pub pushed_keywords : (i j : RustKeywords) (v : Operand) (x : KeywordArgument) (ks : Keywords) (q : Part)
    → x.value ≡ v.expr → j.arguments.items ≡ i.arguments.items ++ (x ∷ [])
    → j.depth ≡ max i.depth (min 65 (v.depth + 1))
    → KeepsKeywords i ks → KeepsPart v q → KeepsKeywords j (add_keyword ks (name_of x.name) q.tree)
pushed_keywords i j v x ks q xv e d ki kv = record {
  depth = let a = ki.depth in let c = kv.depth in omega (arith, add_keyword_depth ks (name_of x.name) q.tree);
  kept = λ h. ap keywords_of_list e ∙ push_keywords i.arguments.items x
      ∙ ap (λ z. add_keyword z (name_of x.name) (expr_of x.value)) (ki.kept (omega arith))
      ∙ ap (λ z. add_keyword ks (name_of x.name) z) (ap expr_of xv ∙ kv.kept (omega arith));
}

pub listed : (v : Vec RustExpr Global) (i : Items) (a b : ℕ) (es : Exprs) → KeepsItems i es
    → (i.depth ≤ 64 → v.items ≡ i.exprs.items)
    → Builds (node_of (rust.List (record { start = a; end = b }) v) (record { start = a; end = b }) 7 i.depth)
    (λ q. list q es) a b
listed v i a b es k f = built _ 7 i.depth (depth_over es) a b (λ q. list q es) (λ q. refl) (λ q. refl) k.depth
    (λ h. in_list _ v ∙ ap (λ z. list (record { start = a; end = b }) z) (ap exprs_of_list (f h) ∙ k.kept h))
    (λ q. ap form_of_expr (in_list (record { start = a; end = b }) v))

pub tupled : (v : Vec RustExpr Global) (i : Items) (a b : ℕ) (es : Exprs) → KeepsItems i es
    → (i.depth ≤ 64 → v.items ≡ i.exprs.items)
    → Builds (node_of (rust.Tuple (record { start = a; end = b }) v) (record { start = a; end = b }) 7 i.depth)
    (λ q. tuple q es) a b
tupled v i a b es k f = built _ 7 i.depth (depth_over es) a b (λ q. tuple q es) (λ q. refl) (λ q. refl) k.depth
    (λ h. in_tuple _ v ∙ ap (λ z. tuple (record { start = a; end = b }) z) (ap exprs_of_list (f h) ∙ k.kept h))
    (λ q. ap form_of_expr (in_tuple (record { start = a; end = b }) v))

pub dicted : (v : Vec Entry Global) (i : RustEntries) (a b : ℕ) (es : Entries) → KeepsEntries i es
    → (i.depth ≤ 64 → v.items ≡ i.entries.items)
    → Builds (node_of (rust.Dict (record { start = a; end = b }) v) (record { start = a; end = b }) 7 i.depth)
    (λ q. dict q es) a b
dicted v i a b es k f = built _ 7 i.depth (depth_over_entries es) a b (λ q. dict q es) (λ q. refl) (λ q. refl) k.depth
    (λ h. in_dict _ v ∙ ap (λ z. dict (record { start = a; end = b }) z) (ap entries_of_list (f h) ∙ k.kept h))
    (λ q. ap form_of_expr (in_dict (record { start = a; end = b }) v))

in_call : (p : Place) (e : Box RustExpr Global) (v : Vec RustExpr Global) (w : Vec KeywordArgument Global)
    → expr_of (rust.Call p e v w) ≡ call p (expr_of e.value) (exprs_of_list v.items) (keywords_of_list w.items)
in_call p e v w = ap (λ z. call p (expr_of e.value) z (keywords_of (Block.hidden-the_row-KeywordArgument-2 w)))
    (rows (Block.hidden-the_row-Expr-0 v) ∙ ap exprs_of_list (items_hidden-the_row-Expr-0 v))
    ∙ ap (λ z. call p (expr_of e.value) (exprs_of_list v.items) z)
    (keyword_rows (Block.hidden-the_row-KeywordArgument-2 w) ∙ ap keywords_of_list
    (items_hidden-the_row-KeywordArgument-2 w))

pub called : (o : Operand) (e : Box RustExpr Global) (v : Vec RustExpr Global) (w : Vec KeywordArgument Global)
    (i : Items) (j : RustKeywords) (depth a b : ℕ) (p : Part) (es : Exprs) (ks : Keywords)
    → KeepsPart o p → KeepsItems i es → KeepsKeywords j ks → depth ≡ max (min 65 (o.depth + 1)) (max i.depth j.depth)
    → (depth ≤ 64 → e.value ≡ o.expr) → (depth ≤ 64 → v.items ≡ i.exprs.items)
    → (depth ≤ 64 → w.items ≡ j.arguments.items)
    → Builds (node_of (rust.Call (record { start = a; end = b }) e v w) (record { start = a; end = b }) 7 depth)
    (λ q. call q p.tree es ks) a b
called o e v w i j depth a b p es ks ko ki kj d f g h = let od = ko.depth in let id = ki.depth in let jd = kj.depth in
    built _ 7 depth (max (depth_of p.tree + 1) (max (depth_over es) (depth_over_keywords ks))) a b
    (λ q. call q p.tree es ks) (λ q. refl) (λ q. refl) (omega arith)
    (λ l. in_call _ e v w ∙ ap (λ z. call (record { start = a; end = b }) z (exprs_of_list v.items)
    (keywords_of_list w.items)) (ap expr_of (f l) ∙ ko.kept (omega arith))
    ∙ ap (λ z. call (record { start = a; end = b }) p.tree z (keywords_of_list w.items)) (ap exprs_of_list (g l)
    ∙ ki.kept (omega arith))
    ∙ ap (λ z. call (record { start = a; end = b }) p.tree es z) (ap keywords_of_list (h l) ∙ kj.kept (omega arith)))
    (λ q. ap form_of_expr (in_call (record { start = a; end = b }) e v w))
