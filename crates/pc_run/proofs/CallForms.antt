-- Calls and loops distinguished by their forms.
use Rattle.std.proofs.Common.{◌≡◌, ◌≢◌, List, [], ◌∷◌, length, get_or, refl, ap, ◌∙◌, arith, true}
use Rattle.pc_tree.specs.Text.{text_bytes}
use Rattle.pc_tree.specs.declared.tree.Expr.{Expr as RustExpr}
use Rattle.pc_tree.specs.Tree.{Name, name, no_exprs, more_exprs, expr_of, Keywords, no_keywords}
use Rattle.pc_tree.specs.declared.tree.KeywordArgument.{KeywordArgument as RustKeyword}
use Rattle.pc_value.specs.Texts.{same_text}
use Rattle.pc_machine.specs.Evaluation.{call_form, ordinary}
use Rattle.pc_tree.specs.Lists.{exprs_of_list, keywords_of_list}
use Rattle.std.specs.Prelude.{Vec}
use Rattle.std.specs.Global.{Global}
use Rattle.pc_source.specs.declared.place.Place.{Place}
use Rattle.pc_tree.specs.Tree.{Expr, Exprs, name_of, call}
use Rattle.pc_tree.specs.declared.tree.Name.{Name as RustName}
use Rattle.pc_tree.specs.declared.tree.Expr.TheViews as View
use Rattle.std.specs.Prelude.{Box, codes}
use Rattle.pc_tree.specs.declared.tree.Expr.TheVariants as rust
use Rattle.pc_machine.specs.Evaluation.{iterable_form, range_call}
use Rattle.pc_tree.proofs.Trees.{call_tree}

-- two arguments by position
pub two : (es : List RustExpr) (d e : RustExpr) → length es ≡ 2
    → exprs_of_list es ≡ more_exprs (expr_of (get_or es 0 d)) (more_exprs (expr_of (get_or es 1 e)) no_exprs)
two [] d e h = absurd (omega arith)
two (a ∷ []) d e h = absurd (omega arith)
two (a ∷ b ∷ []) d e h = refl
two (a ∷ b ∷ c ∷ rest) d e h = absurd (omega arith)

pub none_named : (ks : List RustKeyword) → length ks ≡ 0 → keywords_of_list ks ≡ no_keywords
none_named [] h = refl
none_named (k ∷ ks) h = absurd (omega arith)

pub other_count : (n : Name) (es : List RustExpr) (ks : Keywords) → length es ≢ 2
    → call_form (name n) (exprs_of_list es) ks ≡ ordinary
other_count n [] ks h = refl
other_count n (a ∷ []) ks h = refl
other_count n (a ∷ b ∷ []) ks h = absurd (h refl)
other_count n (a ∷ b ∷ c ∷ rest) ks h = refl

pub named_too : (n : Name) (es : List RustExpr) (ks : List RustKeyword) → length ks ≢ 0
    → call_form (name n) (exprs_of_list es) (keywords_of_list ks) ≡ ordinary
named_too n es [] h = absurd (h refl)
named_too n [] (k ∷ ks) h = refl
named_too n (a ∷ []) (k ∷ ks) h = refl
named_too n (a ∷ b ∷ []) (k ∷ ks) h = refl
named_too n (a ∷ b ∷ c ∷ rest) (k ∷ ks) h = refl

-- a call of `range`
range_at : (p : Place) (x : Expr) (n : Name) (es : Exprs) (ks : Keywords) → x ≡ name n
    → same_text n.text (codes "range") ≡ true → iterable_form (call p x es ks) ≡ range_call p n es ks
range_at p x n es ks e h = rw (e, h) refl

pub range_here : (p : Place) (callee : Box RustExpr Global) (v : Vec RustExpr Global) (ks : Vec RustKeyword Global)
    (n : RustName) → callee.value ≡ rust.Name n → same_text (text_bytes n.text) (codes "range") ≡ true
    → iterable_form (expr_of (View.Call p callee v ks)) ≡ range_call p (name_of n) (exprs_of_list v.items)
    (keywords_of_list ks.items)
range_here p callee v ks n e h = ap iterable_form (call_tree p callee v ks)
    ∙ range_at p (expr_of callee.value) (name_of n) (exprs_of_list v.items) (keywords_of_list ks.items) (ap expr_of e) h
