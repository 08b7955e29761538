-- The meaning of a store's types while the table grows, and consequences of the numbers of parts.
use Rattle.std.proofs.Common.{◌≡◌, ◌<◌, ◌≤◌, ◌+◌, ◌↔◌, ℕ, zero, suc, Bool, IsTrue, List, [], ◌∷◌, ◌++◌, length, map}
use Rattle.std.proofs.Common.{take, get_or, replicate, All, Option, Some, None, MatchOption, refl, sym, ap, subst, ◌∙◌}
use Rattle.std.proofs.Common.{arith}
use Rattle.std.specs.List.{slice_get}
use Rattle.std.proofs.lemmas.List.{take_more, map-append}
use Rattle.std.proofs.lemmas.List.Elements.{All-get_or, All-weaker, All-replicate, All-head, All-tail}
use Rattle.std.proofs.lemmas.Option.{slice_get_within}
use Rattle.pc_types.specs.Tree.{Tree, Never, Union}
use Rattle.pc_types.specs.Below.{Bases, AreSmaller, Static}
use Rattle.pc_types.specs.Assignable.{Assignable}
use Rattle.pc_types.specs.Computed.{static_test, assignable_test}
use Rattle.pc_types.specs.Shape.{parts, members, nodes, node_limit}
use Rattle.pc_types.specs.Head.{head_of}
use Rattle.pc_types.specs.declared.head.Head.{Head}
use Rattle.pc_types.specs.declared.head.Head.TheVariants as heads
use Rattle.pc_types.specs.Boxed.{tree_of, IsGiven}
use Rattle.pc_types.specs.declared.boxed.BoxType.{BoxType}
use Rattle.pc_types.proofs.DecidedSubtyping.{static_decided, assignable_decided}
use Rattle.pc_types.specs.JoinedTypes.{types_joined}
use Rattle.pc_intern.specs.declared.memo.Answers.{Answers}
use Rattle.pc_intern.specs.declared.memo.Joined.{Joined}
use Rattle.pc_intern.specs.declared.store.TypeId.{TypeId}
use Rattle.pc_intern.specs.declared.table.TypeNode.{TypeNode}
use Rattle.pc_intern.specs.Table.{tree_at, IsNodeAt, Grows}
use Rattle.pc_intern.specs.Store.{tree_of_type, number_of, IsInterned, IsRightAt, AreRight, IsJoinedAt, AreJoined}
use Rattle.pc_intern.proofs.Places.{map_at, at_map, same_items}
use Rattle.pc_intern.proofs.InTable.{tree_stays, trees_stay}
use Rattle.pc_types.specs.Internal.Rebuilding.{rebuilt}
use Rattle.pc_types.proofs.Rebuilt.{rebuilt_is}

-- a type is held still where types are put after the others
pub held_stays : (old new : List BoxType) → Grows old new → (ty : TypeId) → IsInterned old ty → IsInterned new ty
held_stays old new g ty h =
    record { at = rw g.is (tree_stays old g.added ty.number (tree_of_type ty) h.at); normal = h.normal; small = h.small }

-- right answers stay right
right_stays : (bases : Bases) (old new : List BoxType) → Grows old new → (o : Option Answers) → IsRightAt bases old o
    → IsRightAt bases new o
right_stays bases old new g None h = tt
right_stays bases old new g (Some a) h =
    record {
      left = h.left;
      right = h.right;
      at_left = rw g.is (tree_stays old g.added a.s h.left h.at_left);
      at_right = rw g.is (tree_stays old g.added a.t h.right h.at_right);
      is_static = h.is_static;
      is_assignable = h.is_assignable;
    }

pub all_right_stays : (bases : Bases) (old new : List BoxType) (places : List (Option Answers)) → Grows old new
    → AreRight bases old places → AreRight bases new places
all_right_stays bases old new places g h =
    All-weaker (IsRightAt bases old) (IsRightAt bases new) (right_stays bases old new g) places h

-- an empty place keeps nothing that could be wrong
none_right : (bases : Bases) (types : List BoxType) (o : Option Answers) → o ≡ None → IsRightAt bases types o
none_right bases types None e = tt
none_right bases types (Some a) e = cc

pub nothing_kept : (bases : Bases) (types : List BoxType) (places : List (Option Answers)) → All (λ o. o ≡ None) places
    → AreRight bases types places
nothing_kept bases types places h =
    All-weaker (λ o. o ≡ None) (IsRightAt bases types) (none_right bases types) places h

-- kept joins stay right, and where nothing is kept nothing is wrong
joined_stays : (bases : Bases) (old new : List BoxType) → Grows old new → (o : Option Joined) → IsJoinedAt bases old o
    → IsJoinedAt bases new o
joined_stays bases old new g None h = tt
joined_stays bases old new g (Some j) h =
    record {
      trees = h.trees;
      at_types = rw g.is (trees_stay old g.added j.types.items h.trees h.at_types);
      at_joined = rw g.is (tree_stays old g.added j.joined (types_joined bases h.trees) h.at_joined);
    }

pub all_joined_stays : (bases : Bases) (old new : List BoxType) (places : List (Option Joined)) → Grows old new
    → AreJoined bases old places → AreJoined bases new places
all_joined_stays bases old new places g h =
    All-weaker (IsJoinedAt bases old) (IsJoinedAt bases new) (joined_stays bases old new g) places h

none_joined : (bases : Bases) (types : List BoxType) (o : Option Joined) → o ≡ None → IsJoinedAt bases types o
none_joined bases types None e = tt
none_joined bases types (Some j) e = cc

pub no_joins_kept : (bases : Bases) (types : List BoxType) (places : List (Option Joined)) → All (λ o. o ≡ None) places
    → AreJoined bases types places
no_joins_kept bases types places h =
    All-weaker (λ o. o ≡ None) (IsJoinedAt bases types) (none_joined bases types) places h

-- a number that has a tree stands in the table
pub within : (types : List BoxType) (n : ℕ) (t : Tree) → tree_at types n ≡ Some t → n < length types
within types n t h =
    let b = at_map tree_of types n t h in
    slice_get_within types n b.0 b.1

-- a held type at a number means the number's tree
pub meant : (types : List BoxType) (r : TypeId) (n : ℕ) (t : Tree) → IsInterned types r → r.number ≡ n
    → tree_at types n ≡ Some t → tree_of_type r ≡ t
meant types r n t h e at =
    let q : tree_at types n ≡ Some (tree_of_type r) = subst (λ k. tree_at types k ≡ Some (tree_of_type r)) e h.at in
    cc

-- the numbers of the parts of a type of the table are those of the parts of what it means
pub part_numbers : (types : List BoxType) (ty : TypeId) (ps : List ℕ) → IsInterned types ty
    → ((b : BoxType) → slice_get types ty.number ≡ Some b → map (tree_at types) ps ≡ map Some (parts (tree_of b)))
    → map (tree_at types) ps ≡ map Some (parts (tree_of_type ty))
part_numbers types ty ps h f =
    let b = at_map tree_of types ty.number (tree_of_type ty) h.at in
    f b.0 b.1 ∙ ap (λ t. map Some (parts t)) b.2

-- the number of one part
pub number_at : (types : List BoxType) (ps : List ℕ) (us : List Tree) (k d : ℕ) → map (tree_at types) ps ≡ map Some us
    → k < length us → (u : Tree) × (slice_get us k ≡ Some u) × (tree_at types (get_or ps k d) ≡ Some u)
number_at types ps [] k d h l = absurd (omega arith)
number_at types [] (u ∷ us) k d h l = cc
number_at types (p ∷ ps) (u ∷ us) zero d h l = (u, refl, cc)
number_at types (p ∷ ps) (u ∷ us) (suc k) d h l =
    let g : map (tree_at types) ps ≡ map Some us = cc in
    number_at types ps us k d g (omega arith)

-- as many numbers as parts
pub as_many : (types : List BoxType) (ps : List ℕ) (us : List Tree) → map (tree_at types) ps ≡ map Some us
    → length ps ≡ length us
as_many types [] [] h = refl
as_many types [] (u ∷ us) h = cc
as_many types (p ∷ ps) [] h = cc
as_many types (p ∷ ps) (u ∷ us) h =
    let g : map (tree_at types) ps ≡ map Some us = cc in
    ap suc (as_many types ps us g)

pub meant_more : (tys : List TypeId) (k : ℕ) (x : TypeId) → k < length tys → x ≡ get_or tys k x
    → map tree_of_type (take (k + 1) tys) ≡ map tree_of_type (take k tys) ++ tree_of_type x ∷ []
meant_more tys k x l read = ap (map tree_of_type) (take_more tys k x l ∙ ap (λ y. take k tys ++ y ∷ []) (sym read))
    ∙ map-append tree_of_type (take k tys) (x ∷ [])

-- one more type whose number is pushed
pub numbered_more : (tys : List TypeId) (ps : List ℕ) (k : ℕ) (x : TypeId) → ps ≡ map number_of (take k tys)
    → k < length tys → x ≡ get_or tys k x → ps ++ x.number ∷ [] ≡ map number_of (take (k + 1) tys)
numbered_more tys ps k x h l read =
    ap (λ l. l ++ x.number ∷ []) h ∙ sym (ap (map number_of) (take_more tys k x l
    ∙ ap (λ y. take k tys ++ y ∷ []) (sym read)) ∙ map-append number_of (take k tys) (x ∷ []))

-- the numbers of held types are those of what they mean
pub numbered : (types : List BoxType) (tys : List TypeId) → All (IsInterned types) tys
    → map (tree_at types) (map number_of tys) ≡ map Some (map tree_of_type tys)
numbered types [] h = refl
numbered types (t ∷ ts) h =
    let a : tree_at types t.number ≡ Some (tree_of_type t) = (All-head (IsInterned types) t ts h).at in
    let b = numbered types ts (All-tail (IsInterned types) t ts h) in
    λ i. a i ∷ b i

-- the test of two held types is true exactly if the first is a static subtype of the second
pub static_told : (bases : Bases) (types : List BoxType) (s t : TypeId) (r : Bool) → AreSmaller bases → IsInterned types s
    → IsInterned types t → r ≡ static_test bases (tree_of_type s) (tree_of_type t) → IsTrue r ↔ Static bases (tree_of_type s) (tree_of_type t)
static_told bases types s t r smaller h g e =
    subst (λ b. IsTrue b ↔ Static bases (tree_of_type s) (tree_of_type t)) (sym e)
    (static_decided bases (tree_of_type s) (tree_of_type t) smaller h.normal g.normal)

pub assignable_told : (bases : Bases) (types : List BoxType) (s t : TypeId) (r : Bool) → AreSmaller bases
    → IsInterned types s → IsInterned types t → r ≡ assignable_test bases (tree_of_type s) (tree_of_type t) → IsTrue r
    ↔ Assignable bases (tree_of_type s) (tree_of_type t)
assignable_told bases types s t r smaller h g e =
    subst (λ b. IsTrue b ↔ Assignable bases (tree_of_type s) (tree_of_type t)) (sym e)
    (assignable_decided bases (tree_of_type s) (tree_of_type t) smaller h.normal g.normal)

-- a type in boxes of the table means what the held type of its number means
pub box_means : (types : List BoxType) (ty : TypeId) (b : BoxType) → IsInterned types ty
    → slice_get types ty.number ≡ Some b → tree_of b ≡ tree_of_type ty
box_means types ty b h at =
    let q = map_at tree_of types ty.number b at in
    let e : Some (tree_of_type ty) ≡ Some (tree_of b) = sym h.at ∙ q in
    cc

-- a held type with the number of a node means the tree of the type at that node
told_meaning : (types : List BoxType) (node : TypeNode) (n : ℕ) (r : TypeId) (w : IsNodeAt types node n) → IsInterned types r
    → r.number ≡ n → tree_of_type r ≡ tree_of w.ty
told_meaning types node n r w h e = meant types r n (tree_of w.ty) h e (map_at tree_of types n w.ty w.at)

pub known_parts : (types : List BoxType) (node : TypeNode) (n : ℕ) (r : TypeId) (us : List Tree) → IsNodeAt types node n
    → IsInterned types r → r.number ≡ n → map (tree_at types) node.parts.items ≡ map Some us → parts (tree_of_type r) ≡ us
known_parts types node n r us w h e k =
    ap parts (told_meaning types node n r w h e) ∙ same_items (parts (tree_of w.ty)) us (sym w.told.parts ∙ k)

-- a held type with a head and parts is one that a call may answer
pub known_as : (types : List BoxType) (r : TypeId) (head : Head) (us : List Tree) → IsInterned types r
    → head_of (tree_of_type r) ≡ head → parts (tree_of_type r) ≡ us → IsInterned types r × (tree_of_type r ≡ rebuilt head us)
    × (nodes (rebuilt head us) ≤ node_limit)
known_as types r head us h e p =
    let q : tree_of_type r ≡ rebuilt head us = sym (rebuilt_is (tree_of_type r) h.normal) ∙ (λ i. rebuilt (e i) (p i)) in
    (h, q, subst (λ t. nodes t ≤ node_limit) q h.small)

-- the same where the table is told by what the store is seen as
pub means_now : (types now : List BoxType) (ty : TypeId) (b : BoxType) → types ≡ now → IsInterned now ty
    → slice_get types ty.number ≡ Some b → tree_of b ≡ tree_of_type ty
means_now types now ty b e h at = box_means types ty b (subst (λ l. IsInterned l ty) (sym e) h) at

pub held_within : (types now : List BoxType) (ty : TypeId) → types ≡ now → IsInterned now ty → ty.number < length types
held_within types now ty e h = subst (λ (l : List BoxType). ty.number < length l) (sym e)
    (within now ty.number (tree_of_type ty) h.at)

-- the numbers of one held type, and of two
pub one_number : (types : List BoxType) (ns : List ℕ) (ty : TypeId) → ns ≡ ty.number ∷ [] → IsInterned types ty
    → map (tree_at types) ns ≡ map Some (tree_of_type ty ∷ [])
one_number types ns ty e h = ap (map (tree_at types)) e ∙ ap (λ o. o ∷ []) h.at

pub two_numbers : (types : List BoxType) (ns : List ℕ) (s t : TypeId) → ns ≡ s.number ∷ t.number ∷ [] → IsInterned types s
    → IsInterned types t → map (tree_at types) ns ≡ map Some (tree_of_type s ∷ tree_of_type t ∷ [])
two_numbers types ns s t e h g = ap (map (tree_at types)) e ∙ (λ i. h.at i ∷ g.at i ∷ [])

-- no type is made of a tree that is too large
pub answer_none : (o : Option BoxType) (s t : Tree) → o ≡ None → s ≡ t
    → MatchOption o (node_limit < nodes s) (λ c. IsGiven c × (tree_of c ≡ s) × (nodes s ≤ node_limit))
    → node_limit < nodes t
answer_none None s t e q h = subst (λ x. node_limit < nodes x) q h
answer_none (Some c) s t e q h = cc

-- a type that is made means the tree
pub answer_some : (types : List BoxType) (o : Option BoxType) (b : BoxType) (r : TypeId) (s t : Tree) → o ≡ Some b
    → s ≡ t → MatchOption o (node_limit < nodes s) (λ c. IsGiven c × (tree_of c ≡ s) × (nodes s ≤ node_limit))
    → IsInterned types r × (tree_of_type r ≡ tree_of b) → IsInterned types r × (tree_of_type r ≡ t) × (nodes t ≤ node_limit)
answer_some types None b r s t e q h g = cc
answer_some types (Some c) b r s t e q h g =
    let f : c ≡ b = cc in
    (g.0, g.1 ∙ ap tree_of (sym f) ∙ h.1 ∙ q, subst (λ x. nodes x ≤ node_limit) q h.2)

-- there is no join, or one that is made
pub joined_none : (o : Option BoxType) (x y : Option Tree) → o ≡ None → x ≡ y
    → MatchOption o (x ≡ None) (λ u. IsGiven u × (x ≡ Some (tree_of u))) → y ≡ None
joined_none None x y e q h = sym q ∙ h
joined_none (Some u) x y e q h = cc

pub joined_some : (types : List BoxType) (o : Option BoxType) (b : BoxType) (r : TypeId) (x y : Option Tree)
    → o ≡ Some b → x ≡ y → MatchOption o (x ≡ None) (λ u. IsGiven u × (x ≡ Some (tree_of u))) → IsInterned types r
    × (tree_of_type r ≡ tree_of b) → IsInterned types r × (y ≡ Some (tree_of_type r))
joined_some types None b r x y e q h g = cc
joined_some types (Some u) b r x y e q h g =
    let f : u ≡ b = cc in
    (g.0, sym q ∙ h.1 ∙ ap (λ v. Some (tree_of v)) f ∙ ap Some (sym g.1))

-- one more type in boxes that means what a held type means
pub boxed_more : (types now : List BoxType) (tys : List TypeId) (bs : List BoxType) (k : ℕ) (x : TypeId) (b c : BoxType)
    → types ≡ now → All (IsInterned now) tys → k < length tys → x ≡ get_or tys k x → slice_get types x.number ≡ Some b
    → tree_of c ≡ tree_of b → map tree_of bs ≡ map tree_of_type (take k tys) → map tree_of (bs ++ c ∷ []) ≡ map tree_of_type
    (take (k + 1) tys)
boxed_more types now tys bs k x b c e all l read at same h =
    let g : IsInterned now x = subst (IsInterned now) (sym read) (All-get_or (IsInterned now) tys k x l all) in
    let q : tree_of c ≡ tree_of_type x = same ∙ means_now types now x b e g at in
    map-append tree_of bs (c ∷ []) ∙ (λ i. h i ++ q i ∷ []) ∙ sym (meant_more tys k x l read)

-- the number of a part that a loop comes to
pub number_in : (types : List BoxType) (ps : List ℕ) (us : List Tree) (k : ℕ) → map (tree_at types) ps ≡ map Some us
    → k < length ps → (u : Tree) × (slice_get us k ≡ Some u) × (tree_at types (get_or ps k 0) ≡ Some u)
number_in types ps us k h l = number_at types ps us k 0 h (omega (arith, as_many types ps us h))

-- one more held type whose number is the next
pub more_parts : (types : List BoxType) (rs : List TypeId) (r : TypeId) (ps : List ℕ) (k : ℕ)
    → map Some (map tree_of_type rs) ≡ map (tree_at types) (take k ps) → k < length ps → IsInterned types r
    → r.number ≡ get_or ps k 0 → map Some (map tree_of_type (rs ++ r ∷ [])) ≡ map (tree_at types) (take (k + 1) ps)
more_parts types rs r ps k h l g num =
    let q : map Some (map tree_of_type (rs ++ r ∷ [])) ≡ map Some (map tree_of_type rs) ++ Some (tree_of_type r) ∷ [] =
    ap (map Some) (map-append tree_of_type rs (r ∷ [])) ∙ map-append Some (map tree_of_type rs) (tree_of_type r ∷ []) in
    let t : map (tree_at types) (take (k + 1) ps) ≡ map (tree_at types) (take k ps) ++ tree_at types (get_or ps k 0)
    ∷ [] = ap (map (tree_at types)) (take_more ps k 0 l) ∙ map-append (tree_at types) (take k ps)
    (get_or ps k 0 ∷ []) in
    let e : Some (tree_of_type r) ≡ tree_at types (get_or ps k 0) = sym g.at ∙ ap (tree_at types) num in
    q ∙ (λ i. h i ++ e i ∷ []) ∙ sym t

-- members by the head: none of Never, the parts of a union, else the type itself
pub never_members : (t : Tree) → heads.Never ≡ head_of t → [] ≡ members t
never_members Never e = refl
never_members _ e = cc

pub union_members : (t : Tree) (n : ℕ) → heads.Union n ≡ head_of t → parts t ≡ members t
union_members (Union a b) n e = refl
union_members _ n e = cc

pub other_members : (t : Tree) → (heads.Never ≡ head_of t → ⊥) → ((n : ℕ) → heads.Union n ≡ head_of t → ⊥)
    → t ∷ [] ≡ members t
other_members Never f g = absurd (f refl)
other_members (Union a b) f g = absurd (g (length (members (Union a b))) refl)
other_members _ f g = refl

-- no items are taken from an empty list
take_nil : {X : Type 0} (n : ℕ) → take {A = X} n [] ≡ []
take_nil zero = refl
take_nil (suc n) = refl

pub nothing_in : {X : Type 0} (xs old : List (Option X)) (n m : ℕ) → xs ≡ take n old ++ replicate m None → old ≡ []
    → All (λ o. o ≡ None) xs
nothing_in {X} xs old n m h e =
    let q : take n old ++ replicate m None ≡ replicate m None =
    ap (λ (l : List (Option X)). take n l ++ replicate m None) e
    ∙ ap (λ (l : List (Option X)). l ++ replicate m None) (take_nil n) in
    subst (All (λ o. o ≡ None)) (sym (h ∙ q)) (All-replicate (λ (o : Option X). o ≡ None) m None refl)
