-- Parts of an annotation make a union if and only if their heads do.
use Rattle.std.proofs.Common.{◌≡◌, ◌<◌, ◌≤◌, ◌+◌, ◌==◌, ◌&&◌, ℕ, List, [], ◌∷◌, map, true, false, not, Option, Some}
use Rattle.std.proofs.Common.{None, length, refl, sym, ap, ◌∙◌, subst, arith}
use Rattle.std.specs.List.{list_all}
use Rattle.std.specs.Prelude.{if◌then◌else◌, unwrap_or}
use Rattle.std.proofs.lemmas.Bool.{cond_both, and_parts, false≢true}
use Rattle.std.proofs.lemmas.List.{length-map}
use Rattle.pc_types.proofs.Nodes.{some_node}
use Rattle.pc_tree.specs.Tree.{Anns, Module}
use Rattle.pc_tree.specs.Tree as syntax_tree
use Rattle.pc_types.specs.Tree.{Tree, Any, Object, Never, Int, Bool, Class, Union}
use Rattle.pc_types.specs.Below.{Bases, AreSmaller}
use Rattle.pc_types.specs.Shape.{nodes, nodes_of, node_limit, trees, ahead, members, union}
use Rattle.pc_types.specs.Normal.{member_rank, IsNormal}
use Rattle.pc_types.specs.Join.{absorbs, is_before}
use Rattle.pc_types.specs.Head.{head_of}
use Rattle.pc_types.specs.Store.{MeansWithin}
use Rattle.pc_types.specs.declared.head.Head.{Head}
use Rattle.pc_types.specs.declared.head.Head.TheVariants as heads
use Rattle.pc_annotations.specs.Annotations.{is_member, are_apart, is_union, insert_member, in_union_order, union_type}
use Rattle.pc_annotations.specs.Annotations.{read_anns}
use Rattle.pc_annotations.proofs.Readings.{reading_normal_reduced}
use Rattle.pc_annotations.specs.Internal.TypesRead.{IsReadAny, is_member_head, rank_of_head, head_absorbs, heads_apart}
use Rattle.pc_annotations.specs.Internal.TypesRead.{heads_make_union, united_head}

member_by_head : (t : Tree) → is_member_head (head_of t) ≡ is_member t
member_by_head Any = refl
member_by_head Object = refl
member_by_head Never = refl
member_by_head (Union a b) = refl
member_by_head _ = refl

rank_by_head : (t : Tree) → rank_of_head (head_of t) ≡ member_rank t
rank_by_head Int = refl
rank_by_head _ = refl

class_absorbs : (bases : Bases) (d : ℕ) (t : Tree) → head_absorbs bases (heads.Class d) (head_of t) ≡ absorbs bases
    (Class d) t
class_absorbs bases d (Class c) = refl
class_absorbs bases d _ = refl

int_absorbs : (bases : Bases) (t : Tree) → head_absorbs bases heads.Int (head_of t) ≡ absorbs bases Int t
int_absorbs bases Bool = refl
int_absorbs bases _ = refl

absorbs_by_head : (bases : Bases) (s t : Tree) → head_absorbs bases (head_of s) (head_of t) ≡ absorbs bases s t
absorbs_by_head bases Int t = int_absorbs bases t
absorbs_by_head bases (Class d) t = class_absorbs bases d t
absorbs_by_head bases _ t = refl

apart_by_head : (bases : Bases) (s t : Tree) → heads_apart bases (head_of s) (head_of t) ≡ are_apart bases s t
apart_by_head bases s t =
    λ i. let p = rank_by_head s i in let q = rank_by_head t i in not ((p.0 == q.0) && (p.1 == q.1))
    && (not (absorbs_by_head bases s t i) && not (absorbs_by_head bases t s i))

apart_from : (bases : Bases) (s : Tree) (ts : List Tree) → list_all (heads_apart bases (head_of s)) (map head_of ts)
    ≡ list_all (are_apart bases s) ts
apart_from bases s [] = refl
apart_from bases s (t ∷ ts) = λ i. apart_by_head bases s t i && apart_from bases s ts i

pub union_by_heads : (bases : Bases) (ts : List Tree) → heads_make_union bases (map head_of ts) ≡ is_union bases ts
union_by_heads bases [] = refl
union_by_heads bases (t ∷ ts) = λ i. member_by_head t i && (apart_from bases t ts i && union_by_heads bases ts i)

-- ---- members in order are as many and as large

placed_length : (m : Tree) (ns : List Tree) → length (insert_member m ns) ≡ length ns + 1
placed_length m [] = refl
placed_length m (n ∷ ns) = cond_both (is_before m n) (m ∷ n ∷ ns) (n ∷ insert_member m ns)
    (λ l. length l ≡ length (n ∷ ns) + 1) (λ e. omega arith) (λ e. omega (arith, placed_length m ns))

order_length : (ts : List Tree) → length (in_union_order ts) ≡ length ts
order_length [] = refl
order_length (t ∷ ts) = omega (arith, placed_length t (in_union_order ts), order_length ts)

placed_nodes : (m : Tree) (ns : List Tree) → nodes_of (trees (insert_member m ns)) ≡ nodes m + nodes_of (trees ns)
placed_nodes m [] = refl
placed_nodes m (n ∷ ns) = cond_both (is_before m n) (m ∷ n ∷ ns) (n ∷ insert_member m ns)
    (λ l. nodes_of (trees l) ≡ nodes m + nodes_of (trees (n ∷ ns))) (λ e. refl) (λ e. omega (arith, placed_nodes m ns))

order_nodes : (ts : List Tree) → nodes_of (trees (in_union_order ts)) ≡ nodes_of (trees ts)
order_nodes [] = refl
order_nodes (t ∷ ts) = omega (arith, placed_nodes t (in_union_order ts), order_nodes ts)

-- each may stand in a union
abbrev AreMembers : List Tree → Type 0
AreMembers [] = Unit {0}
AreMembers (t ∷ ts) = (is_member t ≡ true) × AreMembers ts

placed_members : (m : Tree) (ns : List Tree) → is_member m ≡ true → AreMembers ns → AreMembers (insert_member m ns)
placed_members m [] e h = (e, tt)
placed_members m (n ∷ ns) e h = cond_both (is_before m n) (m ∷ n ∷ ns) (n ∷ insert_member m ns) AreMembers (λ b. (e, h))
    (λ b. (h.0, placed_members m ns e h.1))

order_members : (bases : Bases) (ts : List Tree) → is_union bases ts ≡ true → AreMembers (in_union_order ts)
order_members bases [] e = tt
order_members bases (t ∷ ts) e =
    let p = and_parts (is_member t) (list_all (are_apart bases t) ts && is_union bases ts) e in
    let q = and_parts (list_all (are_apart bases t) ts) (is_union bases ts) p.1 in
    placed_members t (in_union_order ts) p.0 (order_members bases ts q.1)

-- ---- their union

before_member : (t u : Tree) → is_member u ≡ true → ahead t u ≡ Union t u
before_member t Never e = absurd (false≢true e)
before_member t _ e = refl

before_both : (t u rest : Tree) → is_member u ≡ true → ahead t (ahead u rest) ≡ Union t (ahead u rest)
before_both t u Never e = before_member t u e
before_both t u _ e = refl

member_alone : (u : Tree) → is_member u ≡ true → members u ≡ u ∷ []
member_alone Never e = absurd (false≢true e)
member_alone (Union a b) e = absurd (false≢true e)
member_alone _ e = refl

members_are : (l : List Tree) → AreMembers l → members (union l) ≡ l
members_are [] h = refl
members_are (t ∷ []) h = member_alone t h.0
members_are (t ∷ u ∷ rest) h = ap members (before_both t u (union rest) h.1.0)
    ∙ ap (λ l. t ∷ l) (members_are (u ∷ rest) h.1)

nodes_are : (t : Tree) (l : List Tree) → AreMembers (t ∷ l) → nodes (union (t ∷ l)) ≡ nodes_of (trees (t ∷ l)) + length
    l
nodes_are t [] h = omega arith
nodes_are t (u ∷ rest) h =
    let e = ap nodes (before_both t u (union rest) h.1.0) in
    omega (arith, e, nodes_are u rest h.1)

union_head : (t : Tree) (l : List Tree) → AreMembers (t ∷ l) → united_head (map head_of (t ∷ l))
    ≡ head_of (union (t ∷ l))
union_head t [] h = refl
union_head t (u ∷ rest) h =
    let n : length (members (union (u ∷ rest))) ≡ length (u ∷ rest) = ap length (members_are (u ∷ rest) h.1) in
    ap heads.Union (omega (arith, n, length-map (u ∷ rest) head_of))
    ∙ ap head_of (sym (before_both t u (union rest) h.1.0))

length_nodes : (l : List Tree) → length l ≤ nodes_of (trees l)
length_nodes [] = omega arith
length_nodes (t ∷ l) = omega (arith, some_node t, length_nodes l)

-- the head of two members or more tells how many they are
many_heads : (h k : Head) (rest : List Head) (l : List Tree) → length l ≡ length (h ∷ k ∷ rest) → AreMembers l
    → united_head (h ∷ k ∷ rest) ≡ head_of (union l)
many_heads h k rest [] e m = absurd (omega arith)
many_heads h k rest (t ∷ []) e m = absurd (omega arith)
many_heads h k rest (t ∷ u ∷ us) e m = ap heads.Union (omega (arith, e, length-map (t ∷ u ∷ us) head_of))
    ∙ union_head t (u ∷ us) m

order_head : (bases : Bases) (ts : List Tree) → is_union bases ts ≡ true → united_head (map head_of ts)
    ≡ head_of (union (in_union_order ts))
order_head bases [] e = refl
order_head bases (t ∷ []) e = refl
order_head bases (t ∷ u ∷ us) e =
    many_heads (head_of t) (head_of u) (map head_of us) (in_union_order (t ∷ u ∷ us))
    (omega (arith, order_length (t ∷ u ∷ us), length-map us head_of)) (order_members bases (t ∷ u ∷ us) e)

least_nodes : (t : Tree) (l : List Tree) → AreMembers (t ∷ l) → nodes_of (trees (t ∷ l)) ≤ nodes (union (t ∷ l))
least_nodes t l h = omega (arith, nodes_are t l h)

in_order_nodes : (l : List Tree) → AreMembers l → nodes_of (trees l) ≤ nodes (union l)
in_order_nodes [] h = omega arith
in_order_nodes (t ∷ l) h = least_nodes t l h

-- a union has at least the nodes of its members
pub union_large : (bases : Bases) (ts : List Tree) → is_union bases ts ≡ true → node_limit < nodes_of (trees ts)
    → node_limit < nodes (union (in_union_order ts))
union_large bases ts e h = omega (
  arith,
  h,
  order_nodes ts,
  in_order_nodes (in_union_order ts)
      (order_members bases ts e),
)

many_nodes : (l : List Tree) → AreMembers l → 128 < length l → node_limit < nodes (union l)
many_nodes [] h n = absurd (omega arith)
many_nodes (t ∷ l) h n = omega (arith, n, nodes_are t l h, length_nodes (t ∷ l))

-- a union of more than 128 members is too large
pub union_of_many : (bases : Bases) (ts : List Tree) → is_union bases ts ≡ true → 128 < length ts
    → node_limit < nodes (union (in_union_order ts))
union_of_many bases ts e n = many_nodes (in_union_order ts) (order_members bases ts e)
    (omega (arith, n, order_length ts))

-- ---- the answer on a union

pub is_one : (bases : Bases) (ts : List Tree) (kinds : List Head) → kinds ≡ map head_of ts
    → true ≡ heads_make_union bases kinds → is_union bases ts ≡ true
is_one bases ts kinds k e = sym (e ∙ ap (heads_make_union bases) k ∙ union_by_heads bases ts)

module _ {Store Ty : Type 0} (has : Store → Ty → Type 0) (tree : Ty → Tree) where
  pub no_union : (store : Store) (bases : Bases) (ts : List Tree) (kinds : List Head) → kinds ≡ map head_of ts
      → false ≡ heads_make_union bases kinds → IsReadAny has tree store None (union_type bases ts)
  no_union store bases ts kinds k e =
      subst (λ b. IsReadAny has tree store None (if b then Some (union (in_union_order ts)) else None))
      (e ∙ ap (heads_make_union bases) k ∙ union_by_heads bases ts) tt

  pub one_union : (store : Store) (bases : Bases) (ts : List Tree) (kinds : List Head) (head : Head) (type : Option Ty)
      → kinds ≡ map head_of ts → true ≡ heads_make_union bases kinds → head ≡ united_head kinds
      → ((is_union bases ts ≡ true) → MeansWithin has tree store type (union (in_union_order ts)))
      → IsReadAny has tree store (Some (head, type)) (union_type bases ts)
  one_union store bases ts kinds head type k e h m =
      let u = is_one bases ts kinds k e in
      subst (λ b. IsReadAny has tree store (Some (head, type)) (if b then Some (union (in_union_order ts)) else None))
      (sym u)
      (record { head_is = h ∙ ap united_head k ∙ order_head bases ts u; type_is = m u })

-- the union of parts of an annotation is in normal form
pub union_is_normal : (m : Module) (bases : Bases) (parts : Anns) → AreSmaller bases
    → is_union bases (read_anns m bases parts) ≡ true → IsNormal (union (in_union_order (read_anns m bases parts)))
union_is_normal m bases parts o e =
    let a = syntax_tree.union (record { start = 0; end = 0 }) parts in
    subst (λ b. IsNormal (unwrap_or (if b then Some (union (in_union_order (read_anns m bases parts))) else None) Any)) e
    (reading_normal_reduced m bases o a).0
