-- Displays within the limit of nodes and over it, and the first expected member of a kind.
use Rattle.std.proofs.Common.{◌≡◌, ◌∙◌, ◌≤◌, ◌<◌, ◌+◌, ℕ, List, [], ◌∷◌, refl, sym, ap, subst, arith, length, get_or}
use Rattle.std.proofs.Common.{drop}
use Rattle.std.specs.Prelude.{nat_le, Bool as Test, All, true, false, Some, None, map, slice_get, nat_eq, Result, IfOk}
use Rattle.std.proofs.lemmas.Bool.{false≢true}
use Rattle.std.proofs.lemmas.Bool.Decides.{nat_tests}
use Rattle.std.specs.List.{list_all}
use Rattle.pc_tree.specs.declared.code.Code.TheVariants.{E22, E26}
use Rattle.pc_types.specs.declared.head.Head.TheVariants as heads
use Rattle.pc_types.specs.declared.head.Head.{Head}
use Rattle.pc_types.specs.Tree.{Tree, Any, Int, Str, ListOf, DictOf, TupleOf}
use Rattle.pc_types.specs.Below.{Bases}
use Rattle.pc_types.specs.Head.{head_of}
use Rattle.pc_types.specs.Shape.{nodes, node_limit, parts}
use Rattle.pc_flow.specs.Environment.{join_all}
use Rattle.pc_flow.proofs.Rest.{mapped_rest, mapped_end}
use Rattle.pc_rules.specs.Operations.{clean, in_error, display_label}
use Rattle.pc_types.specs.Normal.{IsKey, IsNormal}
use Rattle.pc_types.specs.Computed.{static_test}
use Rattle.pc_rules.specs.Context.{Context}
use Rattle.pc_rules.specs.Computed.Expressions.{keys_label, dict_label}
use Rattle.pc_operations.specs.Displays.{is_tuple, keyed_label, own_dict_label}
use Rattle.pc_rules.specs.Computed.Standing.{label_with, MeansLabel}
use Rattle.pc_rules.specs.declared.label.Label.{Label as RustLabel}
use Rattle.pc_rules.proofs.Once.{clean_is, label_as, labels_as}
use Rattle.pc_rules.specs.Lawful.{list_item, dict_parts, tuple_parts, list_label}

pub display_within : (t : Tree) → nodes t ≤ node_limit → display_label t ≡ clean t
display_within t h = let e : nat_le (nodes t) node_limit ≡ true = grind (arith, nat_tests) in rw e refl

pub display_over : (t : Tree) → node_limit < nodes t → display_label t ≡ in_error E26
display_over t h = let e : nat_le (nodes t) node_limit ≡ false = grind (arith, nat_tests) in rw e refl

-- the label of a list display, by its item type
pub list_none : (bases : Bases) → {Ty : Type 0} → (tree : Ty → Tree) (ts : List Ty) → length ts ≡ 0
    → display_label (ListOf Any) ≡ list_label bases None (map tree ts)
list_none bases tree [] h = refl
list_none bases tree (t ∷ ts) h = absurd (omega arith)

pub list_some : (bases : Bases) → {Ty : Type 0} → (tree : Ty → Tree) (ts : List Ty) → ¬ (length ts ≡ 0)
    → display_label (ListOf (join_all bases (map tree ts))) ≡ list_label bases None (map tree ts)
list_some bases tree [] h = absurd (h refl)
list_some bases tree (t ∷ ts) h = refl

-- a tuple by its head
abbrev pub tuple_at : ℕ → Head → Test
tuple_at n (heads.Tuple k) = nat_eq k n
tuple_at n _ = false

pub tuple_is : (n : ℕ) (t : Tree) → is_tuple n t ≡ tuple_at n (head_of t)
tuple_is n (TupleOf ts) = refl
tuple_is n _ = refl

pub tuple_found : (n : ℕ) (t : Tree) (ms : List Tree) → is_tuple n t ≡ true → tuple_parts n (t ∷ ms) ≡ parts t
tuple_found n (TupleOf ts) ms e = rw e refl
tuple_found n _ ms e = absurd (false≢true e)

pub tuple_passed : (n : ℕ) (t : Tree) (ms : List Tree) → is_tuple n t ≡ false
    → tuple_parts n (t ∷ ms) ≡ tuple_parts n ms
tuple_passed n (TupleOf ts) ms e = rw e refl
tuple_passed n _ ms e = refl

-- ---- the first list among members

pub list_head : (t x : Tree) → heads.List ≡ head_of t → slice_get (parts t) 0 ≡ Some x → t ≡ ListOf x
list_head (ListOf y) x e h = let q : y ≡ x = cc in ap ListOf q
list_head _ x e h = absurd (cc e)

pub list_passed : (t : Tree) (ms : List Tree) → (heads.List ≡ head_of t → ⊥) → list_item (t ∷ ms) ≡ list_item ms
list_passed (ListOf y) ms h = absurd (h refl)
list_passed _ ms h = refl

module _ {Ty : Type 0} (tree : Ty → Tree) (members : List Ty) (i : ℕ) (m : Ty) where
  pub item_here : (x : Tree) → i < length members → m ≡ get_or members i m → heads.List ≡ head_of (tree m)
      → slice_get (parts (tree m)) 0 ≡ Some x → list_item (drop i (map tree members)) ≡ list_item (map tree members)
      → Some x ≡ list_item (map tree members)
  item_here x lt is e h v = sym (ap (λ t. list_item (t ∷ drop (i + 1) (map tree members))) (list_head (tree m) x e h))
      ∙ (rw (mapped_rest tree members i m lt is) at v)

  pub item_later : i < length members → m ≡ get_or members i m → (heads.List ≡ head_of (tree m) → ⊥)
      → list_item (drop i (map tree members)) ≡ list_item (map tree members)
      → list_item (drop (i + 1) (map tree members)) ≡ list_item (map tree members)
  item_later lt is n v = sym (list_passed (tree m) (drop (i + 1) (map tree members)) n)
      ∙ (rw (mapped_rest tree members i m lt is) at v)

pub item_nowhere : {Ty : Type 0} (tree : Ty → Tree) (members : List Ty) (i : ℕ) → length members ≤ i
    → list_item (drop i (map tree members)) ≡ list_item (map tree members) → None ≡ list_item (map tree members)
item_nowhere tree members i le v = rw (mapped_end tree members i le) at v

-- a list that the store gave is within the limit
pub item_small : (t x : Tree) → t ≡ ListOf x → nodes t ≤ node_limit → nodes (ListOf x) ≤ node_limit
item_small t x e h = subst (λ (u : Tree). nodes u ≤ node_limit) e h

-- ---- labels of displays that a store made

module _ {Store Ty : Type 0} (has : Store → Ty → Type 0) (tree : Ty → Tree) (store : Store) where
  pub made_is : (l : RustLabel Ty) (ty : Ty) (t : Tree) → label_with tree l ≡ clean (tree ty) → l.ty ≡ ty → has store ty
      × (tree ty ≡ t) × (nodes t ≤ node_limit) → MeansLabel has tree store l (display_label t)
  made_is l ty t m e h = label_as has tree store l _ _ (sym (display_within t h.2))
      (clean_is has tree store l ty t m e h.0 h.1)

  -- a list display whose items are expected
  pub wanted_is : {E : Type 0} (bases : Bases) (t : Tree) (ts : List Tree) (r : Result (RustLabel Ty) E)
      → nodes (ListOf t) ≤ node_limit → IfOk r (λ l. MeansLabel has tree store l (display_label (ListOf t)))
      → IfOk r (λ l. MeansLabel has tree store l (list_label bases (Some t) ts))
  wanted_is bases t ts r h m = labels_as has tree store r _ _ (display_within (ListOf t) h) m

-- ---- the first dict, and the first tuple of a length, among members

pub dict_head : (t x y : Tree) → heads.Dict ≡ head_of t → slice_get (parts t) 0 ≡ Some x
    → slice_get (parts t) 1 ≡ Some y → t ≡ DictOf x y
dict_head (DictOf j v) x y e h k = let p : j ≡ x = cc in let q : v ≡ y = cc in rw (p, q) refl
dict_head _ x y e h k = absurd (cc e)

pub dict_passed : (t : Tree) (ms : List Tree) → (heads.Dict ≡ head_of t → ⊥) → dict_parts (t ∷ ms) ≡ dict_parts ms
dict_passed (DictOf j v) ms h = absurd (h refl)
dict_passed _ ms h = refl

module _ {Ty : Type 0} (tree : Ty → Tree) (members : List Ty) (i : ℕ) (m : Ty) where
  pub entry_here : (x y : Tree) → i < length members → m ≡ get_or members i m → tree m ≡ DictOf x y
      → dict_parts (drop i (map tree members)) ≡ dict_parts (map tree members) → Some (record { key = x; value = y })
      ≡ dict_parts (map tree members)
  entry_here x y lt is h v = sym (ap (λ t. dict_parts (t ∷ drop (i + 1) (map tree members))) h)
      ∙ (rw (mapped_rest tree members i m lt is) at v)

  pub entry_later : i < length members → m ≡ get_or members i m → (heads.Dict ≡ head_of (tree m) → ⊥)
      → dict_parts (drop i (map tree members)) ≡ dict_parts (map tree members)
      → dict_parts (drop (i + 1) (map tree members)) ≡ dict_parts (map tree members)
  entry_later lt is n v = sym (dict_passed (tree m) (drop (i + 1) (map tree members)) n)
      ∙ (rw (mapped_rest tree members i m lt is) at v)

  pub tuple_here : (n : ℕ) → i < length members → m ≡ get_or members i m → is_tuple n (tree m) ≡ true
      → tuple_parts n (drop i (map tree members)) ≡ tuple_parts n (map tree members)
      → parts (tree m) ≡ tuple_parts n (map tree members)
  tuple_here n lt is h v = sym (tuple_found n (tree m) (drop (i + 1) (map tree members)) h)
      ∙ (rw (mapped_rest tree members i m lt is) at v)

  pub tuple_later : (n : ℕ) → i < length members → m ≡ get_or members i m → is_tuple n (tree m) ≡ false
      → tuple_parts n (drop i (map tree members)) ≡ tuple_parts n (map tree members)
      → tuple_parts n (drop (i + 1) (map tree members)) ≡ tuple_parts n (map tree members)
  tuple_later n lt is h v = sym (tuple_passed n (tree m) (drop (i + 1) (map tree members)) h)
      ∙ (rw (mapped_rest tree members i m lt is) at v)

-- an element of a list of which all are so
pub given_at : {X : Type 0} (P : X → Type 0) (xs : List X) (i : ℕ) (x : X) → All P xs → i < length xs
    → x ≡ get_or xs i x → P x
given_at P xs i x h lt is = subst P (sym is) (h i x lt)

pub dict_fits : (t x y : Tree) → t ≡ DictOf x y → IsNormal t → nodes t ≤ node_limit → IsKey x
    × (nodes (DictOf x y) ≤ node_limit)
dict_fits t x y e n h = ((subst IsNormal e n).0, subst (λ (u : Tree). nodes u ≤ node_limit) e h)

-- ---- dict displays of which no dict is expected

pub keys_none : (bases : Bases) {Ty : Type 0} (tree : Ty → Tree) (ks : List Ty) (values : List Tree) → length ks ≡ 0
    → in_error E22 ≡ own_dict_label bases (map tree ks) values
keys_none bases tree [] values h = refl
keys_none bases tree (k ∷ ks) values h = absurd (omega arith)

pub keys_some : (bases : Bases) {Ty : Type 0} (tree : Ty → Tree) (ks : List Ty) (values : List Tree) (int str : Test)
    → ¬ (length ks ≡ 0) → list_all (λ t. static_test bases t Int) (map tree ks) ≡ int
    → list_all (λ t. static_test bases t Str) (map tree ks) ≡ str → keyed_label bases int str values ≡ own_dict_label
    bases (map tree ks) values
keys_some bases tree [] values int str h i s = absurd (h refl)
keys_some bases tree (k ∷ ks) values int str h i s = rw (sym i, sym s) refl

pub keys_int : (bases : Bases) {Ty : Type 0} (tree : Ty → Tree) (ks : List Ty) (values : List Tree) → ¬ (length ks ≡ 0)
    → list_all (λ t. static_test bases t Int) (map tree ks) ≡ true → display_label (DictOf Int (join_all bases values))
    ≡ own_dict_label bases (map tree ks) values
keys_int bases tree ks values h i = keys_some bases tree ks values true
    (list_all (λ t. static_test bases t Str) (map tree ks)) h i refl

-- the definition's label is the same
keyed_same : (ctx : Context) (declared : List Tree) (assignable : Tree → Tree → Test) (int str : Test)
    (values : List Tree) → keyed_label ctx.bases int str values ≡ keys_label ctx declared (static_test ctx.bases)
    assignable int str values
keyed_same ctx declared assignable true str values = refl
keyed_same ctx declared assignable false true values = refl
keyed_same ctx declared assignable false false values = refl

pub own_same : (ctx : Context) (declared : List Tree) (assignable : Tree → Tree → Test) (keys values : List Tree)
    → own_dict_label ctx.bases keys values ≡ dict_label ctx declared (static_test ctx.bases) assignable None keys values
own_same ctx declared assignable [] values = refl
own_same ctx declared assignable (k ∷ ks) values = keyed_same ctx declared assignable _ _ values

pub own_at : (ctx : Context) (bases : Bases) (declared : List Tree) (assignable : Tree → Tree → Test)
    (keys values : List Tree) → ctx.bases ≡ bases → own_dict_label bases keys values ≡ dict_label ctx declared
    (static_test bases) assignable None keys values
own_at ctx bases declared assignable keys values e =
    subst (λ (b : Bases). own_dict_label b keys values ≡ dict_label ctx declared (static_test b) assignable None keys
    values) e (own_same ctx declared assignable keys values)

module _ {Ty : Type 0} (tree : Ty → Tree) (p : Tree → Test) (types : List Ty) (i : ℕ) (x : Ty) where
  pub all_later : i < length types → x ≡ get_or types i x → p (tree x) ≡ true → list_all p (drop i (map tree types))
      ≡ list_all p (map tree types) → list_all p (drop (i + 1) (map tree types)) ≡ list_all p (map tree types)
  all_later lt is h v = rw h at (rw (mapped_rest tree types i x lt is) at v)

  pub not_all : i < length types → x ≡ get_or types i x → p (tree x) ≡ false → list_all p (drop i (map tree types))
      ≡ list_all p (map tree types) → false ≡ list_all p (map tree types)
  not_all lt is h v = rw h at (rw (mapped_rest tree types i x lt is) at v)

pub all_so : {Ty : Type 0} (tree : Ty → Tree) (p : Tree → Test) (types : List Ty) (i : ℕ) → length types ≤ i
    → list_all p (drop i (map tree types)) ≡ list_all p (map tree types) → true ≡ list_all p (map tree types)
all_so tree p types i le v = rw (mapped_end tree types i le) at v
