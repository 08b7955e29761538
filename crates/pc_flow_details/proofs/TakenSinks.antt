-- The sinks of what an expression takes, by the type of an object, and of the arguments of a call.
use Rattle.std.proofs.Common.{◌≡◌, ◌∙◌, ◌++◌, ◌∷◌, [], ℕ, List, Box, Vec, Global, length, refl, sym, ap, subst}
use Rattle.std.specs.Prelude.{OnOk, Result}
use Rattle.pc_source.specs.declared.place.Place.{Place}
use Rattle.pc_tree.specs.declared.tree.ComparisonOperator.{ComparisonOperator}
use Rattle.pc_tree.specs.declared.tree.Expr.{Expr as RustExpr}
use Rattle.pc_tree.specs.declared.tree.Expr.TheViews as View
use Rattle.pc_tree.specs.declared.tree.KeywordArgument.{KeywordArgument as RustKeyword}
use Rattle.pc_tree.specs.Depth.{place_of}
use Rattle.pc_tree.specs.Lists.{exprs_of_list, keywords_of_list}
use Rattle.pc_tree.specs.Tree.{Entries, Expr, Exprs, Module, expr_of}
use Rattle.pc_tree.proofs.Trees.{call_tree}
use Rattle.pc_scope.specs.declared.resolution.Owner.{Owner}
use Rattle.pc_scope.specs.Resolution.{resolve}
use Rattle.pc_types.specs.Tree.{Tree, Int, Str, NoneType, ListOf, DictOf, TupleOf, Trees, Union}
use Rattle.pc_types.specs.Boxed.{tree_of}
use Rattle.pc_types.specs.declared.boxed.BoxType.{BoxType, out-BoxType, roll-BoxType, roll-out-BoxType}
use Rattle.pc_types.specs.declared.boxed.BoxType.TheOpen.{BoxType-F}
use Rattle.pc_types.specs.declared.boxed.BoxType.TheOpen as open-ty
use Rattle.pc_types.specs.declared.boxed.BoxType.TheVariants as boxed
use Rattle.pc_calls.proofs.NamesGiven.{expr_count}
use Rattle.pc_detail_texts.specs.Details as detail
use Rattle.pc_detail_facts.specs.declared.facts.Facts.{Facts}
use Rattle.pc_detail_rules.specs.Calls.{Called, callees_of}
use Rattle.pc_detail_rules.specs.Facts.{Known}
use Rattle.pc_flow_details.specs.Kept.{FlowDetails, first_of_both, flows_to_sinks}
use Rattle.pc_detail_rules.specs.Nodes.{owned}
use Rattle.pc_detail_rules.specs.Sinks.{SinkAt, argument_sinks, compared_sinks, entry_sinks, index_in, index_sinks}
use Rattle.pc_detail_rules.specs.Sinks.{item_sinks, named_sinks, one_sink, positional_sinks, sinks_in, sought_in}

-- the flows into sinks, which are these too
pub into_same : (f : Facts) {T E : Type 0} (r : Result T E) (old new : FlowDetails) (a b : List SinkAt) → a ≡ b
    → OnOk r (new ≡ first_of_both old (flows_to_sinks f a)) → OnOk r (new ≡ first_of_both old (flows_to_sinks f b))
into_same f r old new a b e h =
    subst (λ (l : List SinkAt). OnOk r (new ≡ first_of_both old (flows_to_sinks f l))) e h

-- ---- displays

-- a type that is no list takes no items
pub not_listed : (es : Exprs) (t : BoxType) → ((x : Box BoxType Global) → t ≡ boxed.List x → ⊥)
    → item_sinks (tree_of t) es ≡ []
unfolding roll-BoxType denote.Hole.Carrier.roll
not_listed es t f = go (out-BoxType t) (roll-out-BoxType t) f
  where
    go : (o : BoxType-F BoxType) → roll-BoxType o ≡ t → ((x : Box BoxType Global) → t ≡ boxed.List x → ⊥)
        → item_sinks (tree_of t) es ≡ []
    go (open-ty.List x) e f = absurd (f x (sym e))
    go _ e f = subst (λ x. item_sinks (tree_of x) es ≡ []) e refl

-- a type that is no dict takes no keys and no values
pub not_keyed : (es : Entries) (t : BoxType) → ((x y : Box BoxType Global) → t ≡ boxed.Dict x y → ⊥)
    → entry_sinks (tree_of t) es ≡ []
unfolding roll-BoxType denote.Hole.Carrier.roll
not_keyed es t f = go (out-BoxType t) (roll-out-BoxType t) f
  where
    go : (o : BoxType-F BoxType) → roll-BoxType o ≡ t → ((x y : Box BoxType Global) → t ≡ boxed.Dict x y → ⊥)
        → entry_sinks (tree_of t) es ≡ []
    go (open-ty.Dict x y) e f = absurd (f x y (sym e))
    go _ e f = subst (λ x. entry_sinks (tree_of x) es ≡ []) e refl

-- ---- what `in` looks for

-- a text is searched for a text
pub text_sought : (p : Place) (t : Tree) → t ≡ Str → one_sink p (detail.a_sought t) Str ∷ [] ≡ sought_in p t
text_sought p t e = subst (λ x. one_sink p (detail.a_sought x) Str ∷ [] ≡ sought_in p x) (sym e) refl

-- a dict is searched for any key
pub key_sought : (p : Place) (t k v u : Tree) → t ≡ DictOf k v → u ≡ Union Int (Union Str NoneType)
    → one_sink p (detail.a_sought t) u ∷ [] ≡ sought_in p t
key_sought p t k v u e h = ap (λ (x : Tree). one_sink p (detail.a_sought t) x ∷ []) h
    ∙ subst (λ x. one_sink p (detail.a_sought x) (Union Int (Union Str NoneType)) ∷ [] ≡ sought_in p x) (sym e) refl

-- nothing is looked for in other members
pub not_sought : (p : Place) (t : BoxType) → (t ≡ boxed.Str → ⊥)
    → ((x y : Box BoxType Global) → t ≡ boxed.Dict x y → ⊥) → sought_in p (tree_of t) ≡ []
unfolding roll-BoxType denote.Hole.Carrier.roll
not_sought p t f g = go (out-BoxType t) (roll-out-BoxType t) f g
  where
    go : (o : BoxType-F BoxType) → roll-BoxType o ≡ t → (t ≡ boxed.Str → ⊥)
        → ((x y : Box BoxType Global) → t ≡ boxed.Dict x y → ⊥) → sought_in p (tree_of t) ≡ []
    go open-ty.Str e f g = absurd (f (sym e))
    go (open-ty.Dict x y) e f g = absurd (g x y (sym e))
    go _ e f g = subst (λ x. sought_in p (tree_of x) ≡ []) e refl

-- ---- indexes

module _ (m : Module) (i : Expr) (p : Place) (at : p ≡ place_of i) where
  -- the index of a list, of a text or of a tuple is an int
  pub list_indexed : (t u : Tree) → t ≡ ListOf u → one_sink p (detail.an_index t) Int ∷ [] ≡ index_in m i t
  list_indexed t u e = ap (λ (q : Place). one_sink q (detail.an_index t) Int ∷ []) at
      ∙ subst (λ x. one_sink (place_of i) (detail.an_index x) Int ∷ [] ≡ index_in m i x) (sym e) refl

  pub text_indexed : (t : Tree) → t ≡ Str → one_sink p (detail.an_index t) Int ∷ [] ≡ index_in m i t
  text_indexed t e = ap (λ (q : Place). one_sink q (detail.an_index t) Int ∷ []) at
      ∙ subst (λ x. one_sink (place_of i) (detail.an_index x) Int ∷ [] ≡ index_in m i x) (sym e) refl

  pub tuple_indexed : (t : Tree) (us : Trees) → t ≡ TupleOf us
      → one_sink p (detail.an_index t) Int ∷ [] ≡ index_in m i t
  tuple_indexed t us e = ap (λ (q : Place). one_sink q (detail.an_index t) Int ∷ []) at
      ∙ subst (λ x. one_sink (place_of i) (detail.an_index x) Int ∷ [] ≡ index_in m i x) (sym e) refl

  -- the index of a dict is a key
  pub dict_indexed : (t k v : Tree) → t ≡ DictOf k v → one_sink p (detail.a_key t) k ∷ [] ≡ index_in m i t
  dict_indexed t k v e = ap (λ (q : Place). one_sink q (detail.a_key t) k ∷ []) at
      ∙ subst (λ x. one_sink (place_of i) (detail.a_key x) k ∷ [] ≡ index_in m i x) (sym e) refl

-- other members take no index
pub not_indexed : (m : Module) (i : Expr) (t : BoxType) → ((x : Box BoxType Global) → t ≡ boxed.List x → ⊥)
    → (t ≡ boxed.Str → ⊥) → ((x : Vec BoxType Global) → t ≡ boxed.Tuple x → ⊥)
    → ((x y : Box BoxType Global) → t ≡ boxed.Dict x y → ⊥) → index_in m i (tree_of t) ≡ []
unfolding roll-BoxType denote.Hole.Carrier.roll
not_indexed m i t a b c d = go (out-BoxType t) (roll-out-BoxType t) a b c d
  where
    go : (o : BoxType-F BoxType) → roll-BoxType o ≡ t → ((x : Box BoxType Global) → t ≡ boxed.List x → ⊥)
        → (t ≡ boxed.Str → ⊥) → ((x : Vec BoxType Global) → t ≡ boxed.Tuple x → ⊥)
        → ((x y : Box BoxType Global) → t ≡ boxed.Dict x y → ⊥) → index_in m i (tree_of t) ≡ []
    go (open-ty.List x) e a b c d = absurd (a x (sym e))
    go open-ty.Str e a b c d = absurd (b (sym e))
    go (open-ty.Tuple x) e a b c d = absurd (c x (sym e))
    go (open-ty.Dict x y) e a b c d = absurd (d x y (sym e))
    go _ e a b c d = subst (λ x. index_in m i (tree_of x) ≡ []) e refl

-- ---- expressions

module _ (m : Module) (known : Known) (owner : Owner) (e : RustExpr) (p : Place) where
  -- a comparison takes its left operand, by the type of the right one
  pub compared_taken : (o : ComparisonOperator) (l r : Box RustExpr Global) (q s : Place) (t : Tree)
      → e ≡ View.Compare p o l r → q ≡ place_of (expr_of l.value) → s ≡ place_of (expr_of r.value)
      → t ≡ known.types s → compared_sinks o q t ≡ sinks_in m known (owned owner (expr_of e))
  compared_taken o l r q s t is at from typed = ap (λ (x : Place). compared_sinks o x t) at
      ∙ ap (λ (x : Tree). compared_sinks o (place_of (expr_of l.value)) x)
      (typed ∙ ap (λ (x : Place). known.types x) from)
      ∙ sym (ap (λ (x : RustExpr). sinks_in m known (owned owner (expr_of x))) is)

  -- an index expression takes its index, by the type of the object
  pub index_taken : (b i : Box RustExpr Global) (j : RustExpr) (s : Place) (t : Tree) → e ≡ View.Index p b i
      → j ≡ i.value → s ≡ place_of (expr_of b.value) → t ≡ known.types s
      → index_sinks m (expr_of j) t ≡ sinks_in m known (owned owner (expr_of e))
  index_taken b i j s t is same from typed = ap (λ (x : RustExpr). index_sinks m (expr_of x) t) same
      ∙ ap (λ (x : Tree). index_sinks m (expr_of i.value) x) (typed ∙ ap (λ (x : Place). known.types x) from)
      ∙ sym (ap (λ (x : RustExpr). sinks_in m known (owned owner (expr_of x))) is)

  -- a call takes its arguments, by position and by name
  pub arguments_taken : (callee : Box RustExpr Global) (v : Vec RustExpr Global) (ks : Vec RustKeyword Global)
      (cs : List Called) (n : ℕ) → e ≡ View.Call p callee v ks → n ≡ length v.items
      → cs ≡ callees_of m known (resolve m owner) n (expr_of callee.value)
      → sinks_in m known (owned owner (expr_of e))
      ≡ positional_sinks cs 0 (exprs_of_list v.items) ++ named_sinks cs (keywords_of_list ks.items)
  arguments_taken callee v ks cs n is count called =
      ap (λ (x : Expr). sinks_in m known (owned owner x)) (ap expr_of is ∙ call_tree p callee v ks)
      ∙ ap (λ (j : ℕ). argument_sinks (callees_of m known (resolve m owner) j (expr_of callee.value))
      (exprs_of_list v.items) (keywords_of_list ks.items)) (expr_count v.items ∙ sym count)
      ∙ ap (λ (l : List Called). argument_sinks l (exprs_of_list v.items) (keywords_of_list ks.items)) (sym called)
