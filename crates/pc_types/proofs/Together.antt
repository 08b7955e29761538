-- The members of two types put together, a member at a time.
use Rattle.std.proofs.Common.{◌≡◌, ◌+◌, ℕ, Bool as Test, true, false, not, List, [], ◌∷◌, filter, Option, Some, None}
use Rattle.std.proofs.Common.{refl, sym, ap, ◌∙◌, subst, subst₂, arith}
use Rattle.std.proofs.lemmas.Bool.Decides.{nat_tests}
use Rattle.std.specs.Prelude.{if◌then◌else◌}
use Rattle.std.specs.Option.{option_map, option_and_then}
use Rattle.pc_types.specs.Tree.{Tree, Trees, Any, Object, Never, ListOf, DictOf, TupleOf, Union, end, more}
use Rattle.pc_types.specs.Below.{Bases}
use Rattle.pc_types.specs.Shape.{count, members, ahead, union}
use Rattle.pc_types.specs.Normal.{member_rank, IsRankBefore, IsMember, IsAfter, IsNormal, IsOfMembers}
use Rattle.pc_types.specs.Join.{same_tree, is_absorbed, unabsorbed_members, is_before, put_among, parts_of, equal_one}
use Rattle.pc_types.specs.Join.{both_parts, put_all, join_each, one_of, IsSplit, kept_with, ahead_of, one_with}

-- each member of the second stands after the first
abbrev pub Behind : Tree → Tree → Type 0
Behind b Never = Unit {0}
Behind b (Union c d) = Behind b c × Behind b d
Behind b m = IsMember m × IsRankBefore (member_rank b) (member_rank m)

abbrev pub AllBehind : Tree → List Tree → Type 0
AllBehind a [] = Unit {0}
AllBehind a (n ∷ ns) = IsRankBefore (member_rank a) (member_rank n) × AllBehind a ns

pub after_behind : (a t : Tree) → IsAfter a t → Behind a t
after_behind a (Union c d) h = (after_behind a c h.0, after_behind a d h.1)
after_behind a Never h = tt
after_behind a _ h = h

pub place_before : (p q r : ℕ × ℕ) → IsRankBefore p q → IsRankBefore q r → IsRankBefore p r
place_before p q r h k = grind (arith, nat_tests)

pub behind_through : (a b t : Tree) → IsRankBefore (member_rank a) (member_rank b) → Behind b t → Behind a t
behind_through a b (Union c d) h k = (behind_through a b c h k.0, behind_through a b d h k.1)
behind_through a b Never h k = tt
behind_through a b (TupleOf ts) h k = (tt, place_before (member_rank a) (member_rank b) (7, count ts) h k.1)
behind_through a b t h k = (k.0, place_before (member_rank a) (member_rank b) (member_rank t) h k.1)

pub before_true : (m n : Tree) → IsRankBefore (member_rank m) (member_rank n) → is_before m n ≡ true
before_true m n h = grind (arith, nat_tests)

pub before_false : (m n : Tree) → IsRankBefore (member_rank n) (member_rank m) → is_before m n ≡ false
before_false m n h = grind (arith, nat_tests)

pub before_of : (m n : Tree) → is_before m n ≡ true → IsRankBefore (member_rank m) (member_rank n)
before_of m n h = grind (arith, nat_tests)

pub same_rank : (m n : Tree) → is_before m n ≡ false → is_before n m ≡ false → member_rank m ≡ member_rank n
same_rank m n h k =
    let e : (member_rank m).0 ≡ (member_rank n).0 = grind (arith, nat_tests) in
    let f : (member_rank m).1 ≡ (member_rank n).1 = grind (arith, nat_tests) in
    λ i. (e i, f i)

-- one member of a type is put after the test whether the other type absorbs it
pub put_member : (bases : Bases) (other m : Tree) (ms : List Tree) → IsMember m
    → put_all bases other m ms ≡ if is_absorbed bases m other then Some ms else put_among m (one_of bases m) ms
put_member bases other Any ms h = absurd h
put_member bases other Object ms h = absurd h
put_member bases other Never ms h = absurd h
put_member bases other (Union a b) ms h = absurd h
put_member bases other (TupleOf ss) ms h = refl
put_member bases other _ ms h = refl

-- the first member of a list stays first when a member of higher rank is put into the list
put_behind : (b m : Tree) (one : Tree → Option Tree) (ms : List Tree) → IsRankBefore (member_rank b) (member_rank m)
    → put_among m one (b ∷ ms) ≡ option_map (λ l. b ∷ l) (put_among m one ms)
put_behind b m one ms h = rw (before_false m b h, before_true b m h) refl

tested_behind : (x : Test) (b : Tree) (ms : List Tree) (p q : Option (List Tree)) → p ≡ option_map (λ l. b ∷ l) q
    → (if x then Some (b ∷ ms) else p) ≡ option_map (λ l. b ∷ l) (if x then Some ms else q)
tested_behind true b ms p q e = refl
tested_behind false b ms p q e = e

bind_behind : (f : List Tree → Option (List Tree)) (b : Tree) (o : Option (List Tree))
    → ((l : List Tree) → f (b ∷ l) ≡ option_map (λ l. b ∷ l) (f l)) → option_and_then f (option_map (λ l. b ∷ l) o)
    ≡ option_map (λ l. b ∷ l) (option_and_then f o)
bind_behind f b None h = refl
bind_behind f b (Some l) h = h l

pub put_past : (bases : Bases) (other s b : Tree) (ms : List Tree) → Behind b s → put_all bases other s (b ∷ ms)
    ≡ option_map (λ l. b ∷ l) (put_all bases other s ms)
put_past bases other Never b ms h = refl
put_past bases other (Union c d) b ms h =
    ap (option_and_then (λ l. put_all bases other c l)) (put_past bases other d b ms h.1)
    ∙ bind_behind (λ l. put_all bases other c l) b (put_all bases other d ms) (λ l. put_past bases other c b l h.0)
put_past bases other Any b ms h = absurd h.0
put_past bases other Object b ms h = absurd h.0
put_past bases other (TupleOf ss) b ms h =
    tested_behind (is_absorbed bases (TupleOf ss) other) b ms _ _
    (put_behind b (TupleOf ss) (one_of bases (TupleOf ss)) ms h.1)
put_past bases other m b ms h = tested_behind (is_absorbed bases m other) b ms _ _
    (put_behind b m (one_of bases m) ms h.1)

-- a member put among others that all stand after it comes first
put_first : (a : Tree) (one : Tree → Option Tree) (ms : List Tree) → AllBehind a ms → put_among a one ms ≡ Some (a ∷ ms)
put_first a one [] h = refl
put_first a one (n ∷ ns) h = rw (before_true a n h.0) refl

-- two types of one head made one have that head
count_both : (o : Option Tree) (p : Option Trees) (us : Trees) (n : ℕ) → both_parts o p ≡ Some us
    → ((vs : Trees) → p ≡ Some vs → count vs ≡ n) → count us ≡ n + 1
count_both None p us n e h = cc
count_both (Some t) None us n e h = cc
count_both (Some t) (Some ts) us n e h = let q : more t ts ≡ us = cc in let c = h ts refl in ap count (sym q)
    ∙ ap (λ k. k + 1) c

join_count : (bases : Bases) (ss ts us : Trees) → join_each bases ss ts ≡ Some us → count us ≡ count ss
join_count bases end end us e = let q : end ≡ us = cc in ap count (sym q)
join_count bases end (more t ts) us e = cc
join_count bases (more s ss) end us e = cc
join_count bases (more s ss) (more t ts) us e = count_both _ (join_each bases ss ts) us (count ss) e
    (λ vs f. join_count bases ss ts vs f)

pub equal_is : (m n f : Tree) → equal_one m n ≡ Some f → f ≡ m
equal_is m n f e = go (same_tree m n) e
  where
    go : (x : Test) → (if x then Some m else None) ≡ Some f → f ≡ m
    go true e = cc
    go false e = cc

pub mapped : (f : Trees → Tree) (o : Option Trees) (u : Tree) → option_map f o ≡ Some u → (us : Trees) × (o ≡ Some us)
    × (u ≡ f us)
mapped f None u e = cc
mapped f (Some us) u e = (us, refl, cc)

pub one_rank : (bases : Bases) (m n f : Tree) → one_of bases m n ≡ Some f → member_rank f ≡ member_rank m
one_rank bases (TupleOf ss) n f e =
    let r = mapped TupleOf (join_each bases ss (parts_of n)) f e in
    ap member_rank r.2 ∙ ap (λ k. (7, k)) (join_count bases ss (parts_of n) r.0 r.1)
one_rank bases m n f e = ap member_rank (equal_is m n f e)

-- a list of members that come after a member stays so when one more such member is put into it
module _ (a m n : Tree) (one : Tree → Option Tree) (ns l : List Tree) where
  abbrev Keeps : Option (List Tree) → Type 0
  Keeps o = (k : List Tree) → o ≡ Some k → AllBehind a k

  keeps_rest : IsRankBefore (member_rank a) (member_rank n) → (o : Option (List Tree)) → Keeps o
      → option_map (λ k. n ∷ k) o ≡ Some l → AllBehind a l
  keeps_rest h None g e = cc
  keeps_rest h (Some k) g e = let q : n ∷ k ≡ l = cc in subst (AllBehind a) q (h, g k refl)

  keeps_made : IsRankBefore (member_rank a) (member_rank m) → AllBehind a ns → (o : Option Tree)
      → ((f : Tree) → o ≡ Some f → member_rank f ≡ member_rank m) → option_map (λ f. f ∷ ns) o ≡ Some l → AllBehind a l
  keeps_made h b None g e = cc
  keeps_made h b (Some f) g e = let q : f ∷ ns ≡ l = cc in subst (AllBehind a) q
      (subst (IsRankBefore (member_rank a)) (sym (g f refl)) h, b)

  keeps_behind : IsRankBefore (member_rank a) (member_rank m) → IsRankBefore (member_rank a) (member_rank n)
      → AllBehind a ns → ((f : Tree) → one n ≡ Some f → member_rank f ≡ member_rank m) → Keeps (put_among m one ns)
      → (x : Test) → (if x then option_map (λ k. n ∷ k) (put_among m one ns) else option_map (λ f. f ∷ ns) (one n))
      ≡ Some l → AllBehind a l
  keeps_behind h c b r g true e = keeps_rest c (put_among m one ns) g e
  keeps_behind h c b r g false e = keeps_made h b (one n) r e

  keeps_before : IsRankBefore (member_rank a) (member_rank m) → IsRankBefore (member_rank a) (member_rank n)
      → AllBehind a ns → ((f : Tree) → one n ≡ Some f → member_rank f ≡ member_rank m) → Keeps (put_among m one ns)
      → (x : Test) → (if x then Some (m ∷ n ∷ ns) else (if is_before n m then option_map (λ k. n ∷ k)
      (put_among m one ns) else option_map (λ f. f ∷ ns) (one n))) ≡ Some l → AllBehind a l
  keeps_before h c b r g true e = let q : m ∷ n ∷ ns ≡ l = cc in subst (AllBehind a) q (h, (c, b))
  keeps_before h c b r g false e = keeps_behind h c b r g (is_before n m) e

pub put_keeps : (a m : Tree) (one : Tree → Option Tree) (ms l : List Tree)
    → IsRankBefore (member_rank a) (member_rank m) → ((n f : Tree) → one n ≡ Some f → member_rank f ≡ member_rank m)
    → AllBehind a ms → put_among m one ms ≡ Some l → AllBehind a l
put_keeps a m one [] l h r b e = let q : m ∷ [] ≡ l = cc in subst (AllBehind a) q (h, tt)
put_keeps a m one (n ∷ ns) l h r b e = keeps_before a m n one ns l h b.0 b.1 (r n)
    (λ k f. put_keeps a m one ns k h r b.1 f) (is_before m n) e

tested_keeps : (a : Tree) (x : Test) (ms l : List Tree) (p : Option (List Tree)) → AllBehind a ms
    → (p ≡ Some l → AllBehind a l) → (if x then Some ms else p) ≡ Some l → AllBehind a l
tested_keeps a true ms l p b h e = let q : ms ≡ l = cc in subst (AllBehind a) q b
tested_keeps a false ms l p b h e = h e

bound_keeps : (a : Tree) (f : List Tree → Option (List Tree)) (o : Option (List Tree)) (l : List Tree)
    → ((k : List Tree) → o ≡ Some k → AllBehind a k) → ((k : List Tree) → AllBehind a k → f k ≡ Some l → AllBehind a l)
    → option_and_then f o ≡ Some l → AllBehind a l
bound_keeps a f None l g h e = cc
bound_keeps a f (Some k) l g h e = h k (g k refl) e

pub all_behind : (bases : Bases) (other s a : Tree) (ms l : List Tree) → Behind a s → AllBehind a ms
    → put_all bases other s ms ≡ Some l → AllBehind a l
all_behind bases other Never a ms l h b e = let q : ms ≡ l = cc in subst (AllBehind a) q b
all_behind bases other (Union c d) a ms l h b e =
    bound_keeps a (λ k. put_all bases other c k) (put_all bases other d ms) l
    (λ k f. all_behind bases other d a ms k h.1 b f) (λ k g f. all_behind bases other c a k l h.0 g f) e
all_behind bases other Any a ms l h b e = absurd h.0
all_behind bases other Object a ms l h b e = absurd h.0
all_behind bases other (TupleOf ss) a ms l h b e =
    tested_keeps a (is_absorbed bases (TupleOf ss) other) ms l _ b
    (put_keeps a (TupleOf ss) (one_of bases (TupleOf ss)) ms l h.1 (one_rank bases (TupleOf ss)) b) e
all_behind bases other m a ms l h b e =
    tested_keeps a (is_absorbed bases m other) ms l _ b (put_keeps a m (one_of bases m) ms l h.1 (one_rank bases m) b) e

-- the members that are left stand where they stood
tested_behind_all : (a n : Tree) (x : Test) (ns : List Tree) → IsRankBefore (member_rank a) (member_rank n)
    → AllBehind a ns → AllBehind a (if x then n ∷ ns else ns)
tested_behind_all a n true ns h b = (h, b)
tested_behind_all a n false ns h b = b

pub filter_behind : (p : Tree → Test) (a : Tree) (ms : List Tree) → AllBehind a ms → AllBehind a (filter p ms)
filter_behind p a [] h = tt
filter_behind p a (n ∷ ns) h = tested_behind_all a n (p n) (filter p ns) h.0 (filter_behind p a ns h.1)

pub member_place : (a m : Tree) → IsMember m → Behind a m → IsRankBefore (member_rank a) (member_rank m)
member_place a (Union c d) k h = absurd k
member_place a Never k h = absurd k
member_place a (TupleOf ts) k h = h.1
member_place a m k h = h.1

pub listed_rest : (a t : Tree) → IsNormal t → IsAfter a t → IsOfMembers t
listed_rest a Any n h = h.0
listed_rest a Object n h = h.0
listed_rest a _ n h = n

pub members_behind : (a t : Tree) → Behind a t → IsOfMembers t → AllBehind a (members t)
members_behind a (Union c d) h n = (member_place a c n.0 h.0, members_behind a d h.1 (listed_rest c d n.2 n.3))
members_behind a Never h n = tt
members_behind a Any h n = absurd n
members_behind a Object h n = absurd n
members_behind a (TupleOf ts) h n = (h.1, tt)
members_behind a _ h n = (h.1, tt)

unabsorbed_behind : (bases : Bases) (a t other : Tree) → Behind a t → IsOfMembers t
    → AllBehind a (unabsorbed_members bases t other)
unabsorbed_behind bases a t other h n = filter_behind (λ m. not (is_absorbed bases m other)) a (members t)
    (members_behind a t h n)

-- a type's first member and the others
pub record Split (t a rest : Tree) : Type 0 where
  pub member : IsMember a
  pub normal : IsNormal a
  pub listed : IsOfMembers rest
  pub behind : Behind a rest

split_is : (t a rest : Tree) → IsMember t → IsNormal t → a ≡ t → rest ≡ Never → Split t a rest
split_is t a rest m n e f =
    subst₂ (Split t) (sym e) (sym f) (record { member = m; normal = n; listed = tt; behind = tt })

pub split_of : (t a rest : Tree) → IsSplit t a rest → IsOfMembers t → Split t a rest
split_of (Union c d) a rest e n =
    subst₂ (Split (Union c d)) (sym e.0) (sym e.1) (record {
      member = n.0;
      normal = n.1;
      listed =
          listed_rest c d n.2 n.3;
      behind = after_behind c d n.3;
    })
split_of Never a rest e n = absurd e
split_of Any a rest e n = absurd n
split_of Object a rest e n = absurd n
split_of (ListOf t) a rest e n = split_is (ListOf t) a rest tt n e.0 e.1
split_of (DictOf k v) a rest e n = split_is (DictOf k v) a rest tt n e.0 e.1
split_of (TupleOf ts) a rest e n = split_is (TupleOf ts) a rest tt n e.0 e.1
split_of t a rest e n = split_is t a rest tt tt e.0 e.1

pub member_behind : (m t : Tree) → IsMember t → IsRankBefore (member_rank m) (member_rank t) → Behind m t
member_behind m Any k h = absurd k
member_behind m Object k h = absurd k
member_behind m Never k h = absurd k
member_behind m (Union c d) k h = absurd k
member_behind m (TupleOf ts) k h = (tt, h)
member_behind m t k h = (tt, h)

-- a member that stands before the first of a type stands before all of it
pub split_behind : (t m a rest : Tree) → IsSplit t a rest → IsOfMembers t → IsRankBefore (member_rank m) (member_rank a)
    → Behind m t
split_behind (Union c d) m a rest e n h =
    let s = split_of (Union c d) a rest e n in
    let p = member_behind m a s.member h in
    let q = behind_through m a rest h s.behind in
    (subst (Behind m) e.0 p, subst (Behind m) e.1 q)
split_behind Never m a rest e n h = absurd e
split_behind Any m a rest e n h = absurd n
split_behind Object m a rest e n h = absurd n
split_behind (TupleOf ts) m a rest e n h = member_behind m (TupleOf ts) tt
    (subst (λ x. IsRankBefore (member_rank m) (member_rank x)) e.0 h)
split_behind t m a rest e n h = member_behind m t tt (subst (λ x. IsRankBefore (member_rank m) (member_rank x)) e.0 h)

behind_place : (a b t : Tree) → member_rank a ≡ member_rank b → Behind a t → Behind b t
behind_place a b (Union c d) e h = (behind_place a b c e h.0, behind_place a b d e h.1)
behind_place a b Never e h = tt
behind_place a b (TupleOf ts) e h = (tt, subst (λ r. IsRankBefore r (7, count ts)) e h.1)
behind_place a b t e h = (h.0, subst (λ r. IsRankBefore r (member_rank t)) e h.1)

module _ (bases : Bases) (left right : Tree) where
  -- the members of the one type that are left, put among those of the other that are left
  abbrev pub together : Tree → Tree → Option (List Tree)
  together s t = put_all bases right s (unabsorbed_members bases t left)

  put_split : (s a rest : Tree) (ms : List Tree) → IsSplit s a rest → IsOfMembers s
      → put_all bases right s ms ≡ option_and_then (λ l. put_all bases right a l) (put_all bases right rest ms)
  put_split (Union c d) a rest ms e n =
      subst₂ (λ x y. put_all bases right (Union c d) ms ≡ option_and_then (λ l. put_all bases right x l)
      (put_all bases right y ms)) (sym e.0) (sym e.1) refl
  put_split Never a rest ms e n = absurd e
  put_split Any a rest ms e n = absurd n
  put_split Object a rest ms e n = absurd n
  put_split (TupleOf ts) a rest ms e n =
      subst₂ (λ x y. put_all bases right (TupleOf ts) ms ≡ option_and_then (λ l. put_all bases right x l)
      (put_all bases right y ms)) (sym e.0) (sym e.1) refl
  put_split t a rest ms e n =
      subst₂ (λ x y. put_all bases right t ms ≡ option_and_then (λ l. put_all bases right x l)
      (put_all bases right y ms)) (sym e.0) (sym e.1) refl

  abbrev left_of : Tree → List Tree → List Tree
  left_of b ms = if is_absorbed bases b left then ms else b ∷ ms

  filter_first : (x : Test) (b : Tree) (ms : List Tree) → (if not x then b ∷ ms else ms) ≡ (if x then ms else b ∷ ms)
  filter_first true b ms = refl
  filter_first false b ms = refl

  unabsorbed_split : (t b rest : Tree) → IsSplit t b rest → IsOfMembers t → unabsorbed_members bases t left
      ≡ left_of b (unabsorbed_members bases rest left)
  unabsorbed_split (Union c d) b rest e n =
      subst₂ (λ x y. unabsorbed_members bases (Union c d) left ≡ left_of x (unabsorbed_members bases y left)) (sym e.0)
      (sym e.1) (filter_first (is_absorbed bases c left) c (unabsorbed_members bases d left))
  unabsorbed_split Never b rest e n = absurd e
  unabsorbed_split Any b rest e n = absurd n
  unabsorbed_split Object b rest e n = absurd n
  unabsorbed_split (TupleOf ts) b rest e n =
      subst₂ (λ x y. unabsorbed_members bases (TupleOf ts) left ≡ left_of x (unabsorbed_members bases y left)) (sym e.0)
      (sym e.1) (filter_first (is_absorbed bases (TupleOf ts) left) (TupleOf ts) [])
  unabsorbed_split t b rest e n =
      subst₂ (λ x y. unabsorbed_members bases t left ≡ left_of x (unabsorbed_members bases y left)) (sym e.0) (sym e.1)
      (filter_first (is_absorbed bases t left) t [])

  either_way : (o : Option Tree) (x : Test) → o ≡ if x then o else o
  either_way o true = refl
  either_way o false = refl

  -- a member put among others that all stand after it
  bind_first : (a : Tree) (o : Option (List Tree)) → IsMember a → ((l : List Tree) → o ≡ Some l → AllBehind a l)
      → option_map union (option_and_then (λ l. put_all bases right a l) o) ≡ kept_with bases a right
      (option_map union o)
  bind_first a None m h = either_way None (is_absorbed bases a right)
  bind_first a (Some l) m h =
      ap (option_map union) (put_member bases right a l m ∙ ap (λ o. if is_absorbed bases a right then Some l else o)
      (put_first a (one_of bases a) l (h l refl)))
      ∙ go (is_absorbed bases a right)
    where
      go : (x : Test) → option_map union (if x then Some l else Some (a ∷ l)) ≡ if x then Some (union l)
          else Some (ahead a (union l))
      go true = refl
      go false = refl

  -- the first type's first member stands before all of the second
  pub first_left : (s t a rest : Tree) → IsSplit s a rest → IsOfMembers s → IsOfMembers t → Behind a t
      → option_map union (together s t) ≡ kept_with bases a right (option_map union (together rest t))
  first_left s t a rest e n m h =
      let p = split_of s a rest e n in
      ap (option_map union) (put_split s a rest (unabsorbed_members bases t left) e n)
      ∙ bind_first a (together rest t) p.member (λ l f. all_behind bases right rest a (unabsorbed_members bases t left)
      l p.behind (unabsorbed_behind bases a t left h m) f)

  union_ahead : (b : Tree) (o : Option (List Tree)) → option_map union (option_map (λ l. b ∷ l) o)
      ≡ option_map (ahead b) (option_map union o)
  union_ahead b None = refl
  union_ahead b (Some l) = refl

  -- the second type's first member stands before all of the first
  pub first_right : (s t b rest : Tree) → IsSplit t b rest → IsOfMembers t → Behind b s
      → option_map union (together s t) ≡ kept_with bases b left (option_map union (together s rest))
  first_right s t b rest e m h = ap (λ ms. option_map union (put_all bases right s ms)) (unabsorbed_split t b rest e m)
      ∙ go (is_absorbed bases b left)
    where
      go : (x : Test) → option_map union (put_all bases right s (if x then unabsorbed_members bases rest left else b
          ∷ unabsorbed_members bases rest left)) ≡ if x then option_map union (together s rest) else option_map
          (ahead b) (option_map union (together s rest))
      go true = refl
      go false = ap (option_map union) (put_past bases right s b (unabsorbed_members bases rest left) h)
          ∙ union_ahead b (together s rest)

  pub put_same : (a b : Tree) (one : Tree → Option Tree) (ms : List Tree) → is_before a b ≡ false
      → is_before b a ≡ false → put_among a one (b ∷ ms) ≡ option_map (λ f. f ∷ ms) (one b)
  put_same a b one ms h k = rw (h, k) refl

  made_ahead : (o : Option Tree) (l : List Tree) → option_map union (option_map (λ f. f ∷ l) o)
      ≡ ahead_of o (Some (union l))
  made_ahead None l = refl
  made_ahead (Some f) l = refl

  ahead_none : (o : Option Tree) → None ≡ ahead_of o None
  ahead_none None = refl
  ahead_none (Some f) = refl

  one_way : (x : Test) (o q : Option Tree) → o ≡ q → o ≡ if x then o else q
  one_way true o q e = refl
  one_way false o q e = e

  bind_same : (a b : Tree) (o : Option (List Tree)) → IsMember a → is_before a b ≡ false → is_before b a ≡ false
      → option_map union (option_and_then (λ l. put_all bases right a l) (option_map (λ l. b ∷ l) o)) ≡ if is_absorbed
      bases a right then option_map (ahead b) (option_map union o) else ahead_of (one_of bases a b) (option_map union o)
  bind_same a b None m h k = one_way (is_absorbed bases a right) None (ahead_of (one_of bases a b) None)
      (ahead_none (one_of bases a b))
  bind_same a b (Some l) m h k =
      ap (option_map union) (put_member bases right a (b ∷ l) m
      ∙ ap (λ o. if is_absorbed bases a right then Some (b ∷ l) else o) (put_same a b (one_of bases a) l h k))
      ∙ go (is_absorbed bases a right)
    where
      go : (x : Test) → option_map union (if x then Some (b ∷ l) else option_map (λ f. f ∷ l) (one_of bases a b)) ≡ if x
          then Some (ahead b (union l)) else ahead_of (one_of bases a b) (Some (union l))
      go true = refl
      go false = made_ahead (one_of bases a b) l

  -- the first members of the two types have one head
  pub first_both : (s t a as' b bs : Tree) → IsSplit s a as' → IsOfMembers s → IsSplit t b bs → IsOfMembers t
      → is_before a b ≡ false → is_before b a ≡ false → option_map union (together s t) ≡ one_with bases left right a b
      (option_map union (together as' bs))
  first_both s t a as' b bs e n f m h k =
      let p = split_of s a as' e n in
      let q = split_of t b bs f m in
      let r = same_rank a b h k in
      let past : Behind b as' = behind_place a b as' r p.behind in
      let far : Behind a bs = behind_place b a bs (sym r) q.behind in
      ap (option_map union) (put_split s a as' (unabsorbed_members bases t left) e n)
      ∙ ap (λ ms. option_map union (option_and_then (λ l. put_all bases right a l) (put_all bases right as' ms)))
      (unabsorbed_split t b bs f m)
      ∙ go (is_absorbed bases b left) p.member past (λ l g. all_behind bases right as' a
      (unabsorbed_members bases bs left) l p.behind (unabsorbed_behind bases a bs left far q.listed) g)
    where
      go : (x : Test) → IsMember a → Behind b as' → ((l : List Tree) → together as' bs ≡ Some l → AllBehind a l)
          → option_map union (option_and_then (λ l. put_all bases right a l)
          (put_all bases right as' (if x then unabsorbed_members bases bs left else b ∷ unabsorbed_members bases bs
          left))) ≡ if x then kept_with bases a right (option_map union (together as' bs))
          else (if is_absorbed bases a right then option_map (ahead b) (option_map union (together as' bs))
          else ahead_of (one_of bases a b) (option_map union (together as' bs)))
      go true m p g = bind_first a (together as' bs) m g
      go false m p g =
          ap (λ o. option_map union (option_and_then (λ l. put_all bases right a l) o))
          (put_past bases right as' b (unabsorbed_members bases bs left) p)
          ∙ bind_same a b (together as' bs) m h k

-- nothing stands in Never
pub never_behind : (a t : Tree) → t ≡ Never → Behind a t
never_behind a t e = subst (Behind a) (sym e) tt
