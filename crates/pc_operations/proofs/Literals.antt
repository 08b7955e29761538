-- Int literals as indices of tuples: 256 or more is no index of a tuple within the limit of nodes.
use Rattle.std.proofs.Common.{◌≡◌, ◌≤◌, ◌<◌, ◌+◌, ◌*◌, ◌-◌, ℕ, List, [], ◌∷◌, refl, sym, ap, arith, length, drop}
use Rattle.std.proofs.Common.{get_or, drop-cons, add-one}
use Rattle.std.specs.Prelude.{Option, Some, None, MatchOption, unwrap_or, slice_get}
use Rattle.std.proofs.lemmas.List.{drop_all}
use Rattle.std.proofs.lemmas.Option.{slice_get_past}
use Rattle.pc_tree.specs.Digits.{number_behind}
use Rattle.pc_types.specs.Tree.{Tree, Trees, Int, TupleOf, end, more}
use Rattle.pc_types.specs.Below.{Bases}
use Rattle.pc_types.specs.Shape.{nodes, nodes_of, node_limit, list_of_trees}
use Rattle.pc_types.proofs.Nodes.{some_node}
use Rattle.pc_flow.specs.Environment.{join_all}
use Rattle.pc_rules.specs.Operations.{supported, index_member}

parts_below : (ts : Trees) → length (list_of_trees ts) ≤ nodes_of ts
parts_below end = omega arith
parts_below (more t ts) = omega (arith, some_node t, parts_below ts)

past_parts : (ts : Trees) (n : ℕ) → nodes (TupleOf ts) ≤ node_limit → node_limit ≤ n → slice_get (list_of_trees ts) n
    ≡ None
past_parts ts n h le = slice_get_past (list_of_trees ts) n (omega (arith, parts_below ts, h, le))

past_tuple : (bases : Bases) (ts : Trees) (n : ℕ) → nodes (TupleOf ts) ≤ node_limit → node_limit ≤ n
    → index_member bases None (TupleOf ts) ≡ index_member bases (Some n) (TupleOf ts)
past_tuple bases ts n h le = ap (λ (o : Option Tree). supported (unwrap_or o (join_all bases (list_of_trees ts)))
    (Int ∷ [])) (sym (past_parts ts n h le))

-- a number of 256 or more stands for none
pub past_serves : (bases : Bases) (t : Tree) (n : ℕ) → nodes t ≤ node_limit → node_limit ≤ n
    → index_member bases None t ≡ index_member bases (Some n) t
past_serves bases (TupleOf ts) n h le = past_tuple bases ts n h le
past_serves bases _ n h le = refl

pub literal_serves : (r : Option ℕ) (n : ℕ) → MatchOption r (node_limit ≤ n) (λ k. k ≡ n) → (bases : Bases) (t : Tree)
    → nodes t ≤ node_limit → index_member bases r t ≡ index_member bases (Some n) t
literal_serves None n m bases t h = past_serves bases t n h m
literal_serves (Some k) n m bases t h = ap (λ i. index_member bases (Some i) t) m

-- ---- the digits read so far

pub at_least : (n : ℕ) (ds : List ℕ) → n ≤ number_behind n ds
at_least n [] = omega arith
at_least n (d ∷ ds) = omega (arith, at_least (10 * n + (d - 48)) ds)

pub read_more : (ds : List ℕ) (i n : ℕ) (all : ℕ) → i < length ds → number_behind n (drop i ds) ≡ all
    → number_behind (10 * n + (get_or ds i 0 - 48)) (drop (i + 1) ds) ≡ all
read_more ds i n all lt e = rw (add-one i) (rw (drop-cons ds i 0 lt) at e)

pub read_all : (ds : List ℕ) (i n all : ℕ) → length ds ≤ i → number_behind n (drop i ds) ≡ all → n ≡ all
read_all ds i n all le e = rw (drop_all i ds le) at e
