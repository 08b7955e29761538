-- The text of a type, by its head and the texts of its parts.
use Rattle.std.proofs.Common.{◌≡◌, ◌<◌, ◌≤◌, ◌+◌, ℕ, zero, suc, List, [], ◌∷◌, ◌++◌, map, take, length, get_or, Some}
use Rattle.std.proofs.Common.{None, false, true≢false, refl, sym, ap, ◌∙◌, subst, append_assoc, append-nil, arith}
use Rattle.std.specs.Prelude.{codes, ◌==◌}
use Rattle.std.specs.List.{slice_get}
use Rattle.std.specs.Option.{option_map}
use Rattle.std.proofs.lemmas.Option.{slice_get-map, slice_get-get_or}
use Rattle.std.proofs.lemmas.List.{take_more, take_all, map-append, length-map, length-take-le}
use Rattle.pc_tree.specs.Tree.{Module}
use Rattle.pc_types.specs.Tree.{Tree, Trees, Any, Object, Never, Int, Bool, Str, NoneType, Class, ListOf, DictOf}
use Rattle.pc_types.specs.Tree.{TupleOf, Union, end, more}
use Rattle.pc_types.specs.Shape.{nodes, nodes_of, members, parts, list_of_trees, trees}
use Rattle.pc_types.specs.Normal.{IsAfter, IsNormal}
use Rattle.pc_types.specs.Head.{head_of}
use Rattle.pc_types.specs.declared.head.Head.{Head}
use Rattle.pc_types.specs.declared.head.Head.TheVariants as heads
use Rattle.pc_annotations.specs.Text.{type_text, parts_text, further_parts_text, each_separated, with_separator, texts_with, before}
use Rattle.pc_annotations.specs.Text.{plain_text, text_by_head}

-- a type that comes after a member is not Never
not_never : (a b : Tree) → IsAfter a b → b ≡ Never → ⊥
not_never a b h e = let P : Tree → Type 0 = IsAfter a in (subst P e h).0

module _ (m : Module) where
  abbrev texts : List Tree → List (List ℕ)
  texts ts = map (type_text m) ts

  others_are : (ts : Trees) → further_parts_text m ts ≡ each_separated (codes ", ") (texts (list_of_trees ts))
  others_are Rattle.pc_types.specs.Tree.end = refl
  others_are (more t ts) = ap (λ l. codes ", " ++ (type_text m t ++ l)) (others_are ts)

  parts_are : (ts : Trees) → parts_text m ts ≡ texts_with (codes ", ") (texts (list_of_trees ts))
  parts_are Rattle.pc_types.specs.Tree.end = refl
  parts_are (more t ts) = ap (λ l. type_text m t ++ l) (others_are ts)

  -- the members of a union after a first one
  behind_member : (t : Tree) → IsNormal t → (t ≡ Never → ⊥) → codes " | " ++ type_text m t ≡ each_separated (codes " | ")
      (texts (members t))
  behind_member Never n h = absurd (h refl)
  behind_member (Union a b) n h =
      ap (λ l. codes " | " ++ (type_text m a ++ l)) (behind_member b n.2 (not_never a b n.3))
  behind_member t n h = ap (λ l. codes " | " ++ l) (sym (append-nil (type_text m t)))

  pub text_is : (t : Tree) → IsNormal t → type_text m t ≡ text_by_head m (head_of t) (texts (parts t))
  text_is (ListOf t) n = ap (λ l. codes "list[" ++ (l ++ codes "]")) (sym (append-nil (type_text m t)))
  text_is (DictOf k v) n =
      let k' = type_text m k in
      let v' = type_text m v in
      ap (λ l. codes "dict[" ++ l) (ap (λ l. k' ++ l) (sym (append_assoc (codes ", ") v' (codes "]")))
      ∙ sym (append_assoc k' (codes ", " ++ v') (codes "]")) ∙ ap (λ l. (k' ++ (codes ", " ++ l)) ++ codes "]")
      (sym (append-nil v')))
  text_is (TupleOf ts) n = ap (λ l. codes "tuple[" ++ (l ++ codes "]")) (parts_are ts)
  text_is (Union a b) n = ap (λ l. type_text m a ++ l) (behind_member b n.2 (not_never a b n.3))
  text_is _ n = refl

-- the text that a head says is that of the type
pub plain_is : (m : Module) (h : Head) (ts : List (List ℕ)) (s : List ℕ) → plain_text m h ≡ Some s
    → text_by_head m h ts ≡ s
plain_is m heads.Any ts s e = cc
plain_is m heads.Object ts s e = cc
plain_is m heads.Never ts s e = cc
plain_is m heads.Int ts s e = cc
plain_is m heads.Bool ts s e = cc
plain_is m heads.Str ts s e = cc
plain_is m heads.None ts s e = cc
plain_is m (heads.Class c) ts s e = cc
plain_is m heads.List ts s e = absurd (cc)
plain_is m heads.Dict ts s e = absurd (cc)
plain_is m (heads.Tuple n) ts s e = absurd (cc)
plain_is m (heads.Union n) ts s e = absurd (cc)

-- one text more
behind_push : (separator : List ℕ) (xs : List (List ℕ)) (x : List ℕ) → each_separated separator (xs ++ x ∷ [])
    ≡ each_separated separator xs ++ (separator ++ x)
behind_push separator [] x = ap (λ l. separator ++ l) (append-nil x)
behind_push separator (y ∷ xs) x =
    ap (λ l. separator ++ (y ++ l)) (behind_push separator xs x)
    ∙ ap (λ l. separator ++ l) (sym (append_assoc y (each_separated separator xs) (separator ++ x)))
    ∙ sym (append_assoc separator (y ++ each_separated separator xs) (separator ++ x))

separated_push : (separator : List ℕ) (xs : List (List ℕ)) (x : List ℕ) → with_separator separator (xs ++ x ∷ [])
    ≡ with_separator separator xs ++ (before (length xs) separator ++ x)
separated_push separator [] x = append-nil x
separated_push separator (y ∷ xs) x = ap (λ l. y ++ l) (behind_push separator xs x)
    ∙ sym (append_assoc y (each_separated separator xs) (separator ++ x))

-- the text of one part more
pub part_more : {Ty : Type 0} (text : Ty → List ℕ) (separator old out next last : List ℕ) (types : List Ty) (k : ℕ)
    (t : Ty) → k < length types → t ≡ get_or types k t
    → out ≡ old ++ with_separator separator (map text (take k types)) → next ≡ out ++ before k separator
    → last ≡ next ++ text t → last ≡ old ++ with_separator separator (map text (take (k + 1) types))
part_more text separator old out next last types k t h e a b c =
    let front = map text (take k types) in
    let n : length front ≡ k = length-map (take k types) text ∙ length-take-le k types (omega arith) in
    c ∙ ap (λ l. l ++ text t) (b ∙ ap (λ l. l ++ before k separator) a)
    ∙ append_assoc (old ++ with_separator separator front) (before k separator) (text t)
    ∙ append_assoc old (with_separator separator front) (before k separator ++ text t)
    ∙ ap (λ j. old ++ (with_separator separator front ++ (before j separator ++ text t))) (sym n)
    ∙ ap (λ l. old ++ l) (sym (separated_push separator front (text t)))
    ∙ ap (λ l. old ++ with_separator separator l) (sym (map-append text (take k types) (t ∷ []))
    ∙ ap (map text) (ap (λ y. take k types ++ y ∷ []) e ∙ sym (take_more types k t h)))

-- texts that are all there
pub whole : (separator : List ℕ) (ts : List (List ℕ)) → 0 < length ts → with_separator separator ts
    ≡ texts_with separator ts
whole separator [] h = absurd (omega arith)
whole separator (t ∷ ts) h = refl

-- ---- the parts of a type have fewer nodes than it

among_nodes : (ts : List Tree) (k : ℕ) (t : Tree) → slice_get ts k ≡ Some t → nodes t ≤ nodes_of (trees ts)
among_nodes [] zero t e = cc
among_nodes [] (suc k) t e = cc
among_nodes (u ∷ ts) zero t e = let q : nodes u ≡ nodes t = cc in omega (arith, q)
among_nodes (u ∷ ts) (suc k) t e = omega (arith, among_nodes ts k t e)

members_nodes : (t : Tree) → nodes_of (trees (members t)) ≤ nodes t
members_nodes (Union a b) = omega (arith, members_nodes b)
members_nodes Never = omega arith
members_nodes (ListOf t) = omega arith
members_nodes (DictOf k v) = omega arith
members_nodes (TupleOf ts) = omega arith
members_nodes _ = omega arith

listed_nodes : (ts : Trees) → nodes_of (trees (list_of_trees ts)) ≡ nodes_of ts
listed_nodes Rattle.pc_types.specs.Tree.end = refl
listed_nodes (more t ts) = omega (arith, listed_nodes ts)

pub parts_less : (t : Tree) → nodes_of (trees (parts t)) < nodes t
parts_less (ListOf t) = omega arith
parts_less (DictOf k v) = omega arith
parts_less (TupleOf ts) = omega (arith, listed_nodes ts)
parts_less (Union a b) = omega (arith, members_nodes b)
parts_less _ = omega arith

-- a part has fewer nodes than the whole
pub part_less : {Ty : Type 0} (tree : Ty → Tree) (whole : Tree) (types : List Ty) (k : ℕ) (t : Ty)
    → map tree types ≡ parts whole → k < length types → t ≡ get_or types k t → nodes (tree t) < nodes whole
part_less tree whole types k t e h i =
    let g : slice_get (parts whole) k ≡ Some (tree t) = ap (λ l. slice_get l k) (sym e) ∙ slice_get-map tree types k
    ∙ ap (option_map tree) (slice_get-get_or types k t h ∙ ap Some (sym i)) in
    omega (arith, among_nodes (parts whole) k (tree t) g, parts_less whole)

texts_through : {Ty : Type 0} (f : Tree → List ℕ) (tree : Ty → Tree) (types : List Ty) → map (λ t. f (tree t)) types
    ≡ map f (map tree types)
texts_through f tree [] = refl
texts_through f tree (t ∷ types) = ap (λ l. f (tree t) ∷ l) (texts_through f tree types)

-- the texts of all parts
pub all_parts : {Ty : Type 0} (f : Tree → List ℕ) (tree : Ty → Tree) (separator old out : List ℕ) (types : List Ty)
    (k : ℕ) (ps : List Tree) → map tree types ≡ ps → 0 < length types → length types ≤ k
    → out ≡ old ++ with_separator separator (map (λ t. f (tree t)) (take k types))
    → out ≡ old ++ texts_with separator (map f ps)
all_parts f tree separator old out types k ps e h l o =
    o ∙ ap (λ x. old ++ with_separator separator (map (λ t. f (tree t)) x)) (take_all k types l)
    ∙ ap (λ x. old ++ with_separator separator x) (texts_through f tree types)
    ∙ ap (λ x. old ++ x) (whole separator (map f (map tree types))
    (omega (arith, h, length-map (map tree types) f, length-map types tree)))
    ∙ ap (λ x. old ++ texts_with separator (map f x)) e

pub not_empty : (n : ℕ) → (n == 0) ≡ false → 0 < n
not_empty zero e = absurd (true≢false e)
not_empty (suc n) e = omega arith

-- the text of a type with any other head
pub other_is : (m : Module) (h : Head) (ts : List (List ℕ)) → plain_text m h ≡ None → (h ≡ heads.List → ⊥)
    → (h ≡ heads.Dict → ⊥) → ((n : ℕ) → h ≡ heads.Tuple n → ⊥) → text_by_head m h ts ≡ texts_with (codes " | ") ts
other_is m heads.List ts p a b c = absurd (a refl)
other_is m heads.Dict ts p a b c = absurd (b refl)
other_is m (heads.Tuple n) ts p a b c = absurd (c n refl)
other_is m (heads.Union n) ts p a b c = refl
other_is m _ ts p a b c = absurd (cc)
