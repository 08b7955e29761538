-- Calls that do not suit, as they are shown.
use Rattle.std.proofs.Common.{◌≡◌, ◌∙◌, ℕ, List, Option, Some, None, ap, sym}
use Rattle.std.specs.Prelude.{Box, Vec}
use Rattle.std.specs.Global.{Global}
use Rattle.std.specs.Option.{option_map}
use Rattle.pc_source.specs.declared.place.Place.{Place}
use Rattle.pc_tree.proofs.Trees.{call_tree}
use Rattle.pc_tree.specs.Lists.{exprs_of_list, keywords_of_list}
use Rattle.pc_tree.specs.Tree.{Module, expr_of}
use Rattle.pc_tree.specs.declared.tree.Expr.{Expr as RustExpr}
use Rattle.pc_tree.specs.declared.tree.Expr.TheViews as View
use Rattle.pc_tree.specs.declared.tree.KeywordArgument.{KeywordArgument as RustKeyword}
use Rattle.pc_scope.specs.declared.resolution.NameMeaning.{NameMeaning}
use Rattle.pc_types.specs.Tree.{Tree}
use Rattle.pc_rules.specs.Calls.{GivenArguments, arguments_given}
use Rattle.pc_detail_texts.specs.Details as detail
use Rattle.pc_detail_texts.specs.Details.{Callable, Misfit}
use Rattle.pc_detail_texts.specs.Mapped.{map_callable, map_detail, short_misfit}
use Rattle.pc_detail_texts.specs.Sentences.{Words}
use Rattle.pc_detail_texts.specs.Shown.{callable_of_value, misfit_of_value}
use Rattle.pc_detail_texts.specs.declared.details.Callable.{Callable as RustCallable}
use Rattle.pc_detail_texts.specs.declared.details.Misfit.{Misfit as RustMisfit}
use Rattle.pc_detail_rules.specs.Calls.{Called, call_detail, callees_of, first_detail, misfits_of}
use Rattle.pc_detail_rules.specs.Facts.{Known}

-- a call with its misfit
pub call_shown : (text : Tree → Words) (what : Callable Tree) (x : RustCallable) (y : RustMisfit) (o : Option Misfit)
    → callable_of_value x ≡ map_callable text what → option_map misfit_of_value (Some y) ≡ option_map short_misfit o
    → Some (detail.call (callable_of_value x) (misfit_of_value y))
    ≡ option_map (map_detail text) (option_map (detail.call what) o)
call_shown text what x y None e h = let never : ⊥ = cc in absurd never
call_shown text what x y (Some z) e h = let same : misfit_of_value y ≡ short_misfit z = cc in
    ap (λ w. Some (detail.call w (misfit_of_value y))) e
    ∙ ap (λ n. Some (detail.call (map_callable text what) n)) same

-- the first misfit of what a call calls is its detail
pub call_is : (m : Module) (known : Known) (names : List ℕ → NameMeaning) (e : RustExpr) (p : Place)
    (callee : Box RustExpr Global) (v : Vec RustExpr Global) (ks : Vec RustKeyword Global) (g : GivenArguments)
    (cs : List Called) → e ≡ View.Call p callee v ks
    → g ≡ arguments_given (exprs_of_list v.items) (keywords_of_list ks.items)
    → cs ≡ callees_of m known names g.positional (expr_of callee.value)
    → first_detail (misfits_of g cs) ≡ call_detail m known names (expr_of e)
call_is m known names e p callee v ks g cs is given called =
    ap (λ (l : List Called). first_detail (misfits_of g l)) called
    ∙ ap (λ (x : GivenArguments). first_detail (misfits_of x
    (callees_of m known names x.positional (expr_of callee.value)))) given
    ∙ sym (ap (call_detail m known names) (ap expr_of is ∙ call_tree p callee v ks))
