-- The number of nodes of the type of an annotation, by those of its parts.
use Rattle.std.proofs.Common.{◌≡◌, ◌<◌, ◌≤◌, ◌+◌, ◌-◌, ◌++◌, ◌∷◌, ◌∙◌, [], ℕ, List, Bool, true, false, Some, None}
use Rattle.std.proofs.Common.{refl, sym, ap, subst, arith, length, take, get_or}
use Rattle.std.proofs.lemmas.Bool.{and_parts, cond_both, false≢true, leb-false}
use Rattle.std.specs.Prelude.{◌&&◌, if◌then◌else◌, min, nat_le, unwrap_or}
use Rattle.std.specs.List.{list_all}
use Rattle.pc_source.specs.declared.place.Place.{Place}
use Rattle.pc_tree.specs.declared.tree.Ann.{Ann as RustAnn}
use Rattle.pc_tree.specs.Tree.{Ann, Anns, Module, Name, ann_of, applied}
use Rattle.pc_tree.specs.Tree as tree
use Rattle.pc_scope.specs.declared.resolution.Builtin.{Builtin}
use Rattle.pc_scope.specs.declared.resolution.Builtin.TheVariants as builtin
use Rattle.pc_scope.specs.declared.resolution.NameMeaning.{NameMeaning}
use Rattle.pc_scope.specs.declared.resolution.NameMeaning.TheVariants as meaning
use Rattle.pc_scope.specs.Resolution.{resolve_in_module}
use Rattle.pc_types.specs.Below.{Bases}
use Rattle.pc_types.specs.Join.{is_before}
use Rattle.pc_types.specs.Shape.{ahead, node_limit, nodes, nodes_of, trees, union}
use Rattle.pc_types.specs.Tree.{Tree, Any, Int, Never, Str, Union}
use Rattle.pc_annotations.specs.Annotations.{applied_type, are_apart, built_type, dict_type}
use Rattle.pc_annotations.specs.Annotations.{in_union_order, insert_member, is_member, is_union, read_anns}
use Rattle.pc_annotations.specs.Annotations.{reading, union_type}
use Rattle.pc_annotations.specs.Bases.{bases_of}
use Rattle.pc_annotations.specs.Listed.{anns_of_list}
use Rattle.pc_annotations.proofs.Each.{readings_more}
use Rattle.pc_detail_rules.specs.Annotations.{shown_reading, told_nodes}

-- ---- numbers that are told

-- sums of numbers that are told up to a limit
pub told_sum : (limit a b whole part sum : ℕ) → whole ≡ min a limit → part ≡ min b limit
    → sum ≡ min (whole + part) limit → sum ≡ min (a + b) limit
told_sum limit a b whole part sum e f g = omega arith

-- a number that is told, with a small one
pub told_with : (limit a b whole sum : ℕ) → whole ≡ min a limit → sum ≡ min (whole + b) limit → sum ≡ min (a + b) limit
told_with limit a b whole sum e g = omega arith

-- a number within the limit is told whole
told_within : (n m limit : ℕ) → n ≤ m → m ≤ limit → n ≡ min n limit
told_within n m limit h g = omega arith

pub told_whole : (n : ℕ) → n ≤ node_limit → n ≡ told_nodes n
told_whole n h = told_within n node_limit _ h (omega arith)

-- ---- unions

placed_length : (m : Tree) (ns : List Tree) → length (insert_member m ns) ≡ length ns + 1
placed_length m [] = refl
placed_length m (n ∷ ns) = cond_both (is_before m n) (m ∷ n ∷ ns) (n ∷ insert_member m ns)
    (λ l. length l ≡ length (n ∷ ns) + 1) (λ e. omega arith) (λ e. omega (arith, placed_length m ns))

order_length : (ts : List Tree) → length (in_union_order ts) ≡ length ts
order_length [] = refl
order_length (t ∷ ts) = omega (arith, placed_length t (in_union_order ts), order_length ts)

placed_nodes : (m : Tree) (ns : List Tree) → nodes_of (trees (insert_member m ns)) ≡ nodes m + nodes_of (trees ns)
placed_nodes m [] = refl
placed_nodes m (n ∷ ns) = cond_both (is_before m n) (m ∷ n ∷ ns) (n ∷ insert_member m ns)
    (λ l. nodes_of (trees l) ≡ nodes m + nodes_of (trees (n ∷ ns))) (λ e. refl) (λ e. omega (arith, placed_nodes m ns))

order_nodes : (ts : List Tree) → nodes_of (trees (in_union_order ts)) ≡ nodes_of (trees ts)
order_nodes [] = refl
order_nodes (t ∷ ts) = omega (arith, placed_nodes t (in_union_order ts), order_nodes ts)

-- each may stand in a union
abbrev AreMembers : List Tree → Type 0
AreMembers [] = Unit {0}
AreMembers (t ∷ ts) = (is_member t ≡ true) × AreMembers ts

placed_members : (m : Tree) (ns : List Tree) → is_member m ≡ true → AreMembers ns → AreMembers (insert_member m ns)
placed_members m [] e h = (e, tt)
placed_members m (n ∷ ns) e h = cond_both (is_before m n) (m ∷ n ∷ ns) (n ∷ insert_member m ns) AreMembers (λ b. (e, h))
    (λ b. (h.0, placed_members m ns e h.1))

order_members : (bases : Bases) (ts : List Tree) → is_union bases ts ≡ true → AreMembers (in_union_order ts)
order_members bases [] e = tt
order_members bases (t ∷ ts) e =
    let p = and_parts (is_member t) (list_all (are_apart bases t) ts && is_union bases ts) e in
    let q = and_parts (list_all (are_apart bases t) ts) (is_union bases ts) p.1 in
    placed_members t (in_union_order ts) p.0 (order_members bases ts q.1)

before_member : (t u : Tree) → is_member u ≡ true → ahead t u ≡ Union t u
before_member t Never e = absurd (false≢true e)
before_member t _ e = refl

before_both : (t u rest : Tree) → is_member u ≡ true → ahead t (ahead u rest) ≡ Union t (ahead u rest)
before_both t u Never e = before_member t u e
before_both t u _ e = refl

nodes_are : (t : Tree) (l : List Tree) → AreMembers (t ∷ l)
    → nodes (union (t ∷ l)) ≡ nodes_of (trees (t ∷ l)) + length l
nodes_are t [] h = omega arith
nodes_are t (u ∷ rest) h =
    let e = ap nodes (before_both t u (union rest) h.1.0) in
    omega (arith, e, nodes_are u rest h.1)

-- members together have their nodes, and one for each bar between them
united_nodes : (l : List Tree) → AreMembers l → 1 < nodes (union l)
    → nodes (union l) ≡ nodes_of (trees l) + (length l - 1)
united_nodes [] h large = absurd (omega arith)
united_nodes (t ∷ l) h large = omega (arith, nodes_are t l h)

union_nodes : (bases : Bases) (ts : List Tree) → 1 < nodes (unwrap_or (union_type bases ts) Any)
    → nodes (unwrap_or (union_type bases ts) Any) ≡ nodes_of (trees ts) + (length ts - 1)
union_nodes bases ts = by (is_union bases ts) refl
  where
    by : (b : Bool) → is_union bases ts ≡ b
        → 1 < nodes (unwrap_or (if b then Some (union (in_union_order ts)) else None) Any)
        → nodes (unwrap_or (if b then Some (union (in_union_order ts)) else None) Any)
        ≡ nodes_of (trees ts) + (length ts - 1)
    by true e large =
        let same = united_nodes (in_union_order ts) (order_members bases ts e) large in
        omega (arith, same, order_nodes ts, order_length ts)
    by false e large = absurd (omega arith)

-- ---- names that are applied

dict_nodes : (k v : Tree) → 1 < nodes (unwrap_or (dict_type k v) Any)
    → nodes (unwrap_or (dict_type k v) Any) ≡ nodes_of (trees (k ∷ v ∷ [])) + 1
dict_nodes Int v large = omega arith
dict_nodes Str v large = omega arith
dict_nodes _ v large = absurd (omega arith)

built_nodes : (b : Builtin) (ts : List Tree) → 1 < nodes (unwrap_or (built_type b ts) Any)
    → nodes (unwrap_or (built_type b ts) Any) ≡ nodes_of (trees ts) + 1
built_nodes builtin.List (t ∷ []) large = omega arith
built_nodes builtin.Dict (k ∷ v ∷ []) large = dict_nodes k v large
built_nodes builtin.Tuple (t ∷ ts) large = omega arith
built_nodes _ _ large = absurd (omega arith)

applied_nodes : (r : NameMeaning) (ts : List Tree) → 1 < nodes (unwrap_or (applied_type r ts) Any)
    → nodes (unwrap_or (applied_type r ts) Any) ≡ nodes_of (trees ts) + 1
applied_nodes (meaning.Builtin b) ts large = built_nodes b ts large
applied_nodes _ ts large = absurd (omega arith)

-- ---- annotations

module _ (m : Module) where
  -- as many types as annotations
  pub as_many : (xs : List RustAnn) → length (read_anns m (bases_of m) (anns_of_list xs)) ≡ length xs
  as_many [] = refl
  as_many (x ∷ xs) = omega (arith, as_many xs)

  -- a type that is not written out has many nodes
  shown_limit : (a : Ann) → shown_reading m a ≡ None → node_limit < nodes (reading m (bases_of m) a)
  shown_limit a = by (nat_le (nodes (reading m (bases_of m) a)) node_limit) refl
    where
      by : (b : Bool) → nat_le (nodes (reading m (bases_of m) a)) node_limit ≡ b
          → (if b then Some (reading m (bases_of m) a) else None) ≡ None
          → node_limit < nodes (reading m (bases_of m) a)
      by true e h = let never : ⊥ = cc in absurd never
      by false e h = leb-false (nodes (reading m (bases_of m) a)) node_limit e

  -- such a type of a name that is applied has the nodes of its arguments, and one more
  pub many_applied : (a : Ann) (p : Place) (head : Name) (parts : Anns) → a ≡ applied p head parts
      → shown_reading m a ≡ None
      → nodes (reading m (bases_of m) a) ≡ nodes_of (trees (read_anns m (bases_of m) parts)) + 1
  many_applied a p head parts e h = subst (λ (x : Ann). 1 < nodes (reading m (bases_of m) x)
      → nodes (reading m (bases_of m) x) ≡ nodes_of (trees (read_anns m (bases_of m) parts)) + 1) (sym e)
      (applied_nodes (resolve_in_module m head.text) (read_anns m (bases_of m) parts)) (omega (arith, shown_limit a h))

  -- and such a union the nodes of its parts, and one for each bar
  pub many_united : (a : Ann) (p : Place) (parts : Anns) → a ≡ tree.union p parts → shown_reading m a ≡ None
      → nodes (reading m (bases_of m) a) ≡ nodes_of (trees (read_anns m (bases_of m) parts))
      + (length (read_anns m (bases_of m) parts) - 1)
  many_united a p parts e h = subst (λ (x : Ann). 1 < nodes (reading m (bases_of m) x)
      → nodes (reading m (bases_of m) x) ≡ nodes_of (trees (read_anns m (bases_of m) parts))
      + (length (read_anns m (bases_of m) parts) - 1)) (sym e)
      (union_nodes (bases_of m) (read_anns m (bases_of m) parts)) (omega (arith, shown_limit a h))

-- ---- one after another

nodes_push : (ts : List Tree) (t : Tree) → nodes_of (trees (ts ++ t ∷ [])) ≡ nodes_of (trees ts) + nodes t
nodes_push [] t = omega arith
nodes_push (u ∷ ts) t = omega (arith, nodes_push ts t)

-- the nodes of one type more
pub nodes_with : (ts us : List Tree) (t : Tree) → us ≡ ts ++ t ∷ []
    → nodes_of (trees us) ≡ nodes_of (trees ts) + nodes t
nodes_with ts us t e = ap (λ (l : List Tree). nodes_of (trees l)) e ∙ nodes_push ts t

-- the nodes of one annotation more
pub annotation_more : (m : Module) (bases : Bases) (xs : List RustAnn) (i : ℕ) (x : RustAnn) → i < length xs
    → x ≡ get_or xs i x → nodes_of (trees (read_anns m bases (anns_of_list (take (i + 1) xs))))
    ≡ nodes_of (trees (read_anns m bases (anns_of_list (take i xs)))) + nodes (reading m bases (ann_of x))
annotation_more m bases xs i x h e = nodes_with (read_anns m bases (anns_of_list (take i xs))) _
    (reading m bases (ann_of x)) (readings_more m bases xs i x h e)
