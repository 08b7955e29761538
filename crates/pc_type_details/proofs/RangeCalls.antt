-- The detail of a loop over a call of `range` that does not suit is its misfit.
use Rattle.std.proofs.Common.{◌≡◌, ◌∙◌, Bool as Test, Option, Some, None, true, refl, ap, sym, codes}
use Rattle.std.specs.Prelude.{Box, Vec, if◌then◌else◌}
use Rattle.std.specs.Global.{Global}
use Rattle.std.specs.Option.{option_map}
use Rattle.pc_source.specs.declared.place.Place.{Place}
use Rattle.pc_tree.proofs.Trees.{call_tree}
use Rattle.pc_tree.specs.Lists.{exprs_of_list, keywords_of_list}
use Rattle.pc_tree.specs.Tree.{Expr, Module, call, expr_of}
use Rattle.pc_tree.specs.declared.tree.Expr.{Expr as RustExpr}
use Rattle.pc_tree.specs.declared.tree.Expr.TheViews as View
use Rattle.pc_tree.specs.declared.tree.KeywordArgument.{KeywordArgument as RustKeyword}
use Rattle.pc_scope.specs.Expressions.{is_named}
use Rattle.pc_types.specs.Tree.{Tree}
use Rattle.pc_rules.specs.Calls.{GivenArguments, arguments_given, range_signature}
use Rattle.pc_detail_texts.specs.Details as detail
use Rattle.pc_detail_texts.specs.Details.{Detail, Misfit}
use Rattle.pc_detail_texts.specs.Mapped.{map_detail, short_misfit}
use Rattle.pc_detail_texts.specs.Sentences.{Words}
use Rattle.pc_detail_rules.specs.Calls.{misfit, range_misfit}
use Rattle.pc_detail_rules.specs.Explains.{loop_detail}
use Rattle.pc_detail_rules.specs.Facts.{Known}
use Rattle.pc_detail_rules.specs.Operations.{iterate_detail}

-- the detail of such a loop, with types as texts, and as trees
abbrev pub in_words : Misfit → Detail Words
in_words x = detail.iterate_range x

abbrev pub in_trees : Misfit → Detail Tree
in_trees x = detail.iterate_range x

module _ (m : Module) (known : Known) (text : Tree → Words) where
  -- a misfit of a call of `range`, as it is shown
  shown_range : (o : Option Misfit) → option_map in_words (option_map short_misfit o)
      ≡ option_map (map_detail text) (option_map in_trees o)
  shown_range None = refl
  shown_range (Some x) = refl

  module _ (e : RustExpr) (p : Place) (callee : Box RustExpr Global) (v : Vec RustExpr Global)
      (ks : Vec RustKeyword Global) (is : e ≡ View.Call p callee v ks) where
    form : expr_of e ≡ call p (expr_of callee.value) (exprs_of_list v.items) (keywords_of_list ks.items)
    form = ap expr_of is ∙ call_tree p callee v ks

    -- the misfit of a call of `range` is its detail
    pub ranged : (g : GivenArguments) (o : Option Misfit) → true ≡ is_named (codes "range") (expr_of callee.value)
        → g ≡ arguments_given (exprs_of_list v.items) (keywords_of_list ks.items) → o ≡ option_map short_misfit (misfit g range_signature)
        → option_map in_words o ≡ option_map (map_detail text) (loop_detail m known (expr_of e))
    ranged g o h given first =
        let whole = call p (expr_of callee.value) (exprs_of_list v.items) (keywords_of_list ks.items) in
        let iterated : Option (Detail Tree) = Some (iterate_detail m known whole) in
        let there = arguments_given (exprs_of_list v.items) (keywords_of_list ks.items) in
        ap (option_map in_words)
        (first ∙ ap (λ (x : GivenArguments). option_map short_misfit (misfit x range_signature)) given)
        ∙ shown_range (misfit there range_signature)
        ∙ ap (λ (b : Test). option_map (map_detail text) (if b then range_misfit whole else iterated)) h
        ∙ sym (ap (λ (x : Expr). option_map (map_detail text) (loop_detail m known x)) form)
