-- The number of nodes of the type of a display, by those of its items.
use Rattle.std.proofs.Common.{◌≡◌, ◌<◌, ◌+◌, ◌++◌, ◌∷◌, ◌∙◌, [], ℕ, List, Bool, true, false, Some}
use Rattle.std.proofs.Common.{refl, sym, ap, arith, length, take, get_or}
use Rattle.std.proofs.lemmas.List.{take_more}
use Rattle.std.specs.Prelude.{Vec, ◌-◌, ◌^◌, if◌then◌else◌, min, unwrap_or}
use Rattle.std.specs.Global.{Global}
use Rattle.std.specs.List.{list_all}
use Rattle.std.specs.Option.{option_map}
use Rattle.pc_source.specs.declared.place.Place.{Place}
use Rattle.pc_tree.specs.declared.tree.Entry.{Entry as RustEntry}
use Rattle.pc_tree.specs.declared.tree.Expr.{Expr as RustExpr}
use Rattle.pc_tree.specs.declared.tree.Expr.TheViews as View
use Rattle.pc_tree.specs.Depth.{place_of}
use Rattle.pc_tree.specs.Lists.{entries_of_list, exprs_of_list}
use Rattle.pc_tree.specs.Tree.{Expr, Module, expr_of}
use Rattle.pc_tree.proofs.Trees.{dict_tree, list_tree, tuple_tree}
use Rattle.pc_types.specs.Below.{Bases}
use Rattle.pc_types.specs.Computed.{static_test}
use Rattle.pc_types.specs.Join.{join}
use Rattle.pc_types.specs.JoinedTypes.{joined_onto, types_joined}
use Rattle.pc_types.specs.Shape.{nodes, nodes_of, trees}
use Rattle.pc_types.specs.Tree.{Tree, Int, Object, Str}
use Rattle.pc_annotations.specs.Bases.{bases_of}
use Rattle.pc_flow.specs.Environment.{join_all, join_onto}
use Rattle.pc_detail_rules.specs.Annotations.{told_nodes}
use Rattle.pc_detail_rules.specs.Facts.{Known}
use Rattle.pc_detail_rules.specs.Operations.{display_type, key_types_here, types_here, value_types_here}
use Rattle.pc_type_details.proofs.AnnotationNodes.{nodes_with, told_with}

module _ (m : Module) (k : Known) where
  items_push : (xs : List RustExpr) (x : RustExpr) → types_here m k (exprs_of_list (xs ++ x ∷ []))
      ≡ types_here m k (exprs_of_list xs) ++ k.types (place_of (expr_of x)) ∷ []
  items_push [] x = refl
  items_push (y ∷ xs) x = ap (λ (l : List Tree). k.types (place_of (expr_of y)) ∷ l) (items_push xs x)

  values_push : (xs : List RustEntry) (x : RustEntry) → value_types_here m k (entries_of_list (xs ++ x ∷ []))
      ≡ value_types_here m k (entries_of_list xs) ++ k.types (place_of (expr_of x.value)) ∷ []
  values_push [] x = refl
  values_push (y ∷ xs) x = ap (λ (l : List Tree). k.types (place_of (expr_of y.value)) ∷ l) (values_push xs x)

  -- the types of one item more
  pub items_more : (xs : List RustExpr) (i : ℕ) (x : RustExpr) → i < length xs → x ≡ get_or xs i x
      → types_here m k (exprs_of_list (take (i + 1) xs))
      ≡ types_here m k (exprs_of_list (take i xs)) ++ k.types (place_of (expr_of x)) ∷ []
  items_more xs i x h e = ap (λ (l : List RustExpr). types_here m k (exprs_of_list l))
      (take_more xs i x h ∙ ap (λ y. take i xs ++ y ∷ []) (sym e)) ∙ items_push (take i xs) x

  -- the types of one value more
  pub values_more : (xs : List RustEntry) (i : ℕ) (x : RustEntry) → i < length xs → x ≡ get_or xs i x
      → value_types_here m k (entries_of_list (take (i + 1) xs))
      ≡ value_types_here m k (entries_of_list (take i xs)) ++ k.types (place_of (expr_of x.value)) ∷ []
  values_more xs i x h e = ap (λ (l : List RustEntry). value_types_here m k (entries_of_list l))
      (take_more xs i x h ∙ ap (λ y. take i xs ++ y ∷ []) (sym e)) ∙ values_push (take i xs) x

  -- the nodes of one item more
  pub item_more : (xs : List RustExpr) (i : ℕ) (x : RustExpr) → i < length xs → x ≡ get_or xs i x
      → nodes_of (trees (types_here m k (exprs_of_list (take (i + 1) xs))))
      ≡ nodes_of (trees (types_here m k (exprs_of_list (take i xs)))) + nodes (k.types (place_of (expr_of x)))
  item_more xs i x h e = nodes_with (types_here m k (exprs_of_list (take i xs))) _ (k.types (place_of (expr_of x)))
      (items_more xs i x h e)

-- types joined from the left
same_joined : (bases : Bases) (s : Tree) (ts : List Tree) → joined_onto bases s ts ≡ join_onto bases s ts
same_joined bases s [] = refl
same_joined bases s (t ∷ ts) = same_joined bases (unwrap_or (join bases s t) Object) ts

pub joined_same : (bases : Bases) (ts : List Tree) → types_joined bases ts ≡ join_all bases ts
joined_same bases ts = same_joined bases _ ts

kind_nodes : (b : Bool) → nodes (if b then Int else Str) ≡ 1
kind_nodes true = refl
kind_nodes false = refl

-- a display by the number of nodes of its parts
module _ (m : Module) (k : Known) (e : RustExpr) (p : Place) (n : ℕ) where
  -- the size of a display of another form
  by_form : (x : Expr) → expr_of e ≡ x → (size : ℕ)
      → Some size ≡ option_map (λ t. told_nodes (nodes t)) (display_type m k x)
      → Some size ≡ option_map (λ t. told_nodes (nodes t)) (display_type m k (expr_of e))
  by_form x is size h = h ∙ sym (ap (λ (y : Expr). option_map (λ t. told_nodes (nodes t)) (display_type m k y)) is)

  pub tuple_nodes : (v : Vec RustExpr Global) → e ≡ View.Tuple p v
      → n ≡ told_nodes (nodes_of (trees (types_here m k (exprs_of_list v.items)))) → (size : ℕ)
      → size ≡ min (n + 1) (2 ^ 64 - 1)
      → Some size ≡ option_map (λ t. told_nodes (nodes t)) (display_type m k (expr_of e))
  tuple_nodes v is h size g =
      let sum = nodes_of (trees (types_here m k (exprs_of_list v.items))) in
      let one : sum + 1 ≡ 1 + sum = omega arith in
      by_form _ (ap expr_of is ∙ tuple_tree p v) size
      (ap (λ (s : ℕ). Some s) (told_with (2 ^ 64 - 1) sum 1 n size h g ∙ ap told_nodes one))

  pub list_nodes : (v : Vec RustExpr Global) (ts : List Tree) → e ≡ View.List p v
      → ts ≡ types_here m k (exprs_of_list v.items) → n ≡ nodes (types_joined (bases_of m) ts) → (size : ℕ)
      → size ≡ min (n + 1) (2 ^ 64 - 1)
      → Some size ≡ option_map (λ t. told_nodes (nodes t)) (display_type m k (expr_of e))
  list_nodes v ts is same h size g =
      let joined = nodes (join_all (bases_of m) (types_here m k (exprs_of_list v.items))) in
      let count : n ≡ joined = h ∙ ap nodes (joined_same (bases_of m) ts
      ∙ ap (λ (l : List Tree). join_all (bases_of m) l) same) in
      let one : n + 1 ≡ 1 + joined = omega arith in
      by_form _ (ap expr_of is ∙ list_tree p v) size (ap (λ (s : ℕ). Some s) (g ∙ ap told_nodes one))

  pub dict_nodes : (v : Vec RustEntry Global) (ts : List Tree) → e ≡ View.Dict p v
      → ts ≡ value_types_here m k (entries_of_list v.items) → n ≡ nodes (types_joined (bases_of m) ts) → (size : ℕ)
      → size ≡ min (n + 2) (2 ^ 64 - 1)
      → Some size ≡ option_map (λ t. told_nodes (nodes t)) (display_type m k (expr_of e))
  dict_nodes v ts is same h size g =
      let joined = nodes (join_all (bases_of m) (value_types_here m k (entries_of_list v.items))) in
      let kind = nodes (if list_all (λ t. static_test (bases_of m) t Int) (key_types_here m k (entries_of_list v.items))
      then Int else Str) in
      let key : kind ≡ 1 = kind_nodes (list_all (λ t. static_test (bases_of m) t Int)
      (key_types_here m k (entries_of_list v.items))) in
      let count : n ≡ joined = h ∙ ap nodes (joined_same (bases_of m) ts
      ∙ ap (λ (l : List Tree). join_all (bases_of m) l) same) in
      let two : n + 2 ≡ 1 + kind + joined = omega arith in
      by_form _ (ap expr_of is ∙ dict_tree p v) size (ap (λ (s : ℕ). Some s) (g ∙ ap told_nodes two))
