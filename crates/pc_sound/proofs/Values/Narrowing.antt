-- A type narrowed where a test is true has the values that pass it, and narrowed where it is false those that fail.
use Rattle.std.proofs.Common.{◌≡◌, ◌≢◌, ℕ, List, [], ◌∷◌, refl, sym, ap, ◌∙◌, subst, inl, inr, arith}
use Rattle.std.specs.Prelude.{◌⊎◌, Bool as Test, true, false, ◌==◌, ◌&&◌, ◌||◌, not, if◌then◌else◌, Option, Some, None}
use Rattle.std.specs.Prelude.{filter_map, ℤ}
use Rattle.std.specs.List.{cons_option}
use Rattle.std.proofs.lemmas.Bool.Decides.{eqb_tells}
use Rattle.std.proofs.lemmas.Option.{same_Some}
use Rattle.std.proofs.lemmas.Bool.{and_parts, false≢true, or_left, or_right}
use Rattle.pc_types.specs.Tree.{Tree, Any, Object, Never, Int, Bool, Str, NoneType, Class, ListOf, DictOf, TupleOf}
use Rattle.pc_types.specs.Tree.{Union}
use Rattle.pc_types.specs.Below.{Bases, AreSmaller}
use Rattle.pc_types.specs.Shape.{members, union, ahead}
use Rattle.pc_types.specs.Join.{same_tree, absorbs, reaches}
use Rattle.pc_types.proofs.Structural.{Chain}
use Rattle.pc_types.proofs.Descent.{reaches_below, chain_of, chain_reaches, comparable}
use Rattle.pc_flow.specs.Narrowing.{Tested, for_none, for_type, for_list, is_at_or_below, member_within, member_passing}
use Rattle.pc_flow.specs.Narrowing.{member_failing, type_where_true, type_where_false}
use Rattle.pc_value.specs.Value as value
use Rattle.pc_value.specs.Value.{Value, whole, boolean, string, location}
use Rattle.pc_sound.specs.Values.{HeapTyping, a_list, a_dict, a_class, HasType}
use Rattle.pc_sound.specs.KeptHeaps.{Passes, IsTestedType, CanFollow, CanFollowAll}
use Rattle.pc_sound.proofs.TruthValues.{not_both}
use Rattle.pc_sound.proofs.Values.ValuesFlow.{of_below}

-- ---- members

module _ (bases : Bases) (k : HeapTyping) where
  abbrev SomeHas : List Tree → Value → Type 0
  SomeHas [] v = ⊥
  SomeHas (m ∷ ms) v = HasType bases k m v ⊎ SomeHas ms v

  abbrev OptionHas : Option Tree → Value → Type 0
  OptionHas None v = ⊥
  OptionHas (Some t) v = HasType bases k t v

  pub to_members : (t : Tree) (v : Value) → HasType bases k t v → SomeHas (members t) v
  to_members Never v h = h
  to_members (Union a b) v h = elim h [ inl x ↦ inl x | inr y ↦ inr (to_members b v y) ]
  to_members Any v h = inl h
  to_members Object v h = inl h
  to_members Int v h = inl h
  to_members Bool v h = inl h
  to_members Str v h = inl h
  to_members NoneType v h = inl h
  to_members (Class c) v h = inl h
  to_members (ListOf t) v h = inl h
  to_members (DictOf s t) v h = inl h
  to_members (TupleOf ts) v h = inl h

  ahead_first : (m t : Tree) (v : Value) → HasType bases k m v → HasType bases k (ahead m t) v
  ahead_first m Never v h = h
  ahead_first m (Union a b) v h = inl h
  ahead_first m Any v h = inl h
  ahead_first m Object v h = inl h
  ahead_first m Int v h = inl h
  ahead_first m Bool v h = inl h
  ahead_first m Str v h = inl h
  ahead_first m NoneType v h = inl h
  ahead_first m (Class c) v h = inl h
  ahead_first m (ListOf t) v h = inl h
  ahead_first m (DictOf s t) v h = inl h
  ahead_first m (TupleOf ts) v h = inl h

  ahead_rest : (m t : Tree) (v : Value) → HasType bases k t v → HasType bases k (ahead m t) v
  ahead_rest m Never v h = absurd h
  ahead_rest m (Union a b) v h = inr h
  ahead_rest m Any v h = inr h
  ahead_rest m Object v h = inr h
  ahead_rest m Int v h = inr h
  ahead_rest m Bool v h = inr h
  ahead_rest m Str v h = inr h
  ahead_rest m NoneType v h = inr h
  ahead_rest m (Class c) v h = inr h
  ahead_rest m (ListOf t) v h = inr h
  ahead_rest m (DictOf s t) v h = inr h
  ahead_rest m (TupleOf ts) v h = inr h

  of_union : (ms : List Tree) (v : Value) → SomeHas ms v → HasType bases k (union ms) v
  of_union [] v h = h
  of_union (m ∷ ms) v h = elim h [
    | inl x ↦ ahead_first m (union ms) v x
    | inr y ↦
        ahead_rest m (union ms) v (of_union ms v y)
  ]

  kept_first : (o : Option Tree) (ms : List Tree) (v : Value) → OptionHas o v → SomeHas (cons_option o ms) v
  kept_first None ms v h = absurd h
  kept_first (Some t) ms v h = inl h

  kept_rest : (o : Option Tree) (ms : List Tree) (v : Value) → SomeHas ms v → SomeHas (cons_option o ms) v
  kept_rest None ms v h = h
  kept_rest (Some t) ms v h = inr h

  kept_some : (f : Tree → Option Tree) (v : Value) → ((m : Tree) → HasType bases k m v → OptionHas (f m) v)
      → (ms : List Tree) → SomeHas ms v → SomeHas (filter_map f ms) v
  kept_some f v each [] h = h
  kept_some f v each (m ∷ ms) h = elim h [
    | inl x ↦ kept_first (f m) (filter_map f ms) v (each m x)
    | inr y ↦
        kept_rest (f m) (filter_map f ms) v (kept_some f v each ms y)
  ]

  narrowed : (f : Tree → Option Tree) (t : Tree) (v : Value) → ((m : Tree) → HasType bases k m v → OptionHas (f m) v)
      → HasType bases k t v → HasType bases k (union (filter_map f (members t))) v
  narrowed f t v each h = of_union (filter_map f (members t)) v (kept_some f v each (members t) (to_members t v h))

-- ---- tests of a class, int, str, bool

no_list_class : {t : Tree} {c : ℕ} → a_list t ≡ a_class c → ⊥
no_list_class e = grind arith

no_dict_class : {s t : Tree} {c : ℕ} → a_dict s t ≡ a_class c → ⊥
no_dict_class e = grind arith

no_list_dict : {r s t : Tree} → a_list r ≡ a_dict s t → ⊥
no_list_dict e = grind arith

class_inj : {c d : ℕ} → a_class c ≡ a_class d → c ≡ d
class_inj e = grind arith

-- a member that tests look at: neither Any nor object, and no union
abbrev IsFollowed : Tree → Type 0
IsFollowed Any = ⊥
IsFollowed Object = ⊥
IsFollowed (Union a b) = ⊥
IsFollowed _ = Unit {0}

module _ (bases : Bases) (ordered : AreSmaller bases) (k : HeapTyping) where
  -- a member with a value of a kind is the type of that kind
  number_member : (m : Tree) (n : ℤ) → HasType bases k m (whole n) → IsFollowed m → m ≡ Int
  number_member Int n h f = refl
  number_member Any n h f = absurd f
  number_member Object n h f = absurd f
  number_member (Union a b) n h f = absurd f
  number_member _ n h f = absurd h

  text_member : (m : Tree) (cs : List ℕ) → HasType bases k m (string cs) → IsFollowed m → m ≡ Str
  text_member Str n h f = refl
  text_member Any n h f = absurd f
  text_member Object n h f = absurd f
  text_member (Union a b) n h f = absurd f
  text_member _ n h f = absurd h

  truth_member : (m : Tree) (b : Test) → HasType bases k m (boolean b) → IsFollowed m → (m ≡ Int) ⊎ (m ≡ Bool)
  truth_member Int n h f = inl refl
  truth_member Bool n h f = inr refl
  truth_member Any n h f = absurd f
  truth_member Object n h f = absurd f
  truth_member (Union a b) n h f = absurd f
  truth_member _ n h f = absurd h

  flip : (c d : ℕ) → d ≢ c → (c == d) ≡ false
  flip c d n = elim (eqb_tells c d) [ inl e ↦ absurd (n (sym e.1)) | inr e ↦ e.0 ]

  both_true : (x y : Test) → x ≡ false → y ≡ true → (not x && y) ≡ true
  both_true x y e e' = rw e e'

  classes_apart : (c d l : ℕ) → is_at_or_below bases (Class c) (Class d) ≡ false → absorbs bases (Class d) (Class c) ≡ false
      → HasType bases k (Class d) (location l) → HasType bases k (Class c) (location l) → ⊥
  classes_apart c d l w a h p = elim (eqb_tells d c) [
    | inl e ↦ not_both (or_left (d == c) (not (d == c) && reaches bases d d c) e.0) w
    | inr n ↦ elim (comparable (chain_of h.below) (subst (λ x. Chain bases x c) one_class (chain_of p.below))) [
      | inl above ↦ not_both (or_right (d == c) (not (d == c) && reaches bases d d c)
          (both_true (d == c) (reaches bases d d c) n.0 (chain_reaches ordered above))) w
      | inr down ↦ not_both (both_true (c == d) (reaches bases c c d) (flip c d n.1) (chain_reaches ordered down)) a
    ]
  ]
    where
      one_class : p.class ≡ h.class
      one_class = class_inj (same_Some _ _ (sym p.is ∙ h.is))

  instance_apart : (c l : ℕ) (m : Tree) → is_at_or_below bases (Class c) m ≡ false → absorbs bases m (Class c) ≡ false
      → HasType bases k m (location l) → HasType bases k (Class c) (location l) → IsFollowed m → ⊥
  instance_apart c l (Class d) w a h p f = classes_apart c d l w a h p
  instance_apart c l (ListOf u) w a h p f = no_list_class (same_Some _ _ (sym h.is ∙ p.is))
  instance_apart c l (DictOf s u) w a h p f = no_dict_class (same_Some _ _ (sym h.is ∙ p.is))
  instance_apart c l Any w a h p f = f
  instance_apart c l Object w a h p f = f
  instance_apart c l (Union x y) w a h p f = f
  instance_apart c l _ w a h p f = absurd h

  within_int : (m : Tree) → m ≡ Int → is_at_or_below bases Int m ≡ true
  within_int m e = ap (is_at_or_below bases Int) e

  within_bool : (m : Tree) → m ≡ Bool → is_at_or_below bases Int m ≡ true
  within_bool m e = ap (is_at_or_below bases Int) e

  -- a member that neither is below the type tested for nor above it shares no value with it
  apart : (c m : Tree) → IsTestedType c → is_at_or_below bases c m ≡ false → absorbs bases m c ≡ false → (v : Value)
      → HasType bases k m v → HasType bases k c v → IsFollowed m → ⊥
  apart Int m t w a (whole n) h p f = not_both (ap (is_at_or_below bases Int) (number_member m n h f)) w
  apart Int m t w a (boolean b) h p f = elim (truth_member m b h f) [
    | inl e ↦ not_both (ap (is_at_or_below bases Int) e) w
    | inr e ↦ not_both (ap (is_at_or_below bases Int) e) w
  ]
  apart Int m t w a _ h p f = absurd p
  apart Bool m t w a (boolean b) h p f = elim (truth_member m b h f)
      [ inl e ↦ not_both (ap (λ u. absorbs bases u Bool) e) a | inr e ↦ not_both (ap (is_at_or_below bases Bool) e) w ]
  apart Bool m t w a _ h p f = absurd p
  apart Str m t w a (string cs) h p f = not_both (ap (is_at_or_below bases Str) (text_member m cs h f)) w
  apart Str m t w a _ h p f = absurd p
  apart (Class c) m t w a (location l) h p f = instance_apart c l m w a h p f
  apart (Class c) m t w a _ h p f = absurd p
  apart _ m t w a v h p f = absurd t

  -- a value of a member below the type tested for is of that type
  absorbed : (c m : Tree) → IsTestedType c → absorbs bases c m ≡ true → (v : Value) → HasType bases k m v
      → HasType bases k c v
  absorbed Int Bool t e (boolean b) h = tt
  absorbed Int Bool t e _ h = absurd h
  absorbed (Class c) (Class d) t e (location l) h = of_below k
      (reaches_below bases d d c (and_parts (not (d == c)) (reaches bases d d c) e).1) (location l) h
  absorbed (Class c) (Class d) t e _ h = absurd h
  absorbed _ _ t e v h = absurd (false≢true e)

  equal_type : (m c : Tree) → IsTestedType c → same_tree m c ≡ true → m ≡ c
  equal_type Int Int t e = refl
  equal_type Bool Bool t e = refl
  equal_type Str Str t e = refl
  equal_type (Class d) (Class c) t e = elim (eqb_tells d c) [ inl n ↦ ap Class n.1 | inr n ↦ absurd (not_both e n.0) ]
  equal_type m (ListOf u) t e = absurd t
  equal_type m (DictOf s u) t e = absurd t
  equal_type m (TupleOf us) t e = absurd t
  equal_type m (Union s u) t e = absurd t
  equal_type m Any t e = absurd t
  equal_type m Object t e = absurd t
  equal_type m Never t e = absurd t
  equal_type m NoneType t e = absurd t
  equal_type _ _ t e = absurd (false≢true e)

  within : (c m : Tree) → IsTestedType c → is_at_or_below bases c m ≡ true → (v : Value) → HasType bases k m v
      → HasType bases k c v
  within c m t e v h = go (same_tree m c) refl e
    where
      go : (x : Test) → same_tree m c ≡ x → (x || absorbs bases c m) ≡ true → HasType bases k c v
      go true is e = subst (λ u. HasType bases k u v) (equal_type m c t is) h
      go false is e = absorbed c m t e v h

  -- ---- members that pass or fail a test

  member_within_has : (c m : Tree) → IsTestedType c → IsFollowed m → (v : Value) → HasType bases k m v
      → HasType bases k c v → OptionHas bases k (member_within bases c m) v
  member_within_has c m t f v h p = go (is_at_or_below bases c m) (absorbs bases m c) refl refl
    where
      go : (x y : Test) → is_at_or_below bases c m ≡ x → absorbs bases m c ≡ y
          → OptionHas bases k (if x then Some m else (if y then Some c else None)) v
      go true y e e' = h
      go false true e e' = p
      go false false e e' = apart c m t e e' v h p f

  outside_has : (c m : Tree) → IsTestedType c → (v : Value) → HasType bases k m v → ¬ (HasType bases k c v)
      → OptionHas bases k (if is_at_or_below bases c m then None else Some m) v
  outside_has c m t v h n = go (is_at_or_below bases c m) refl
    where
      go : (x : Test) → is_at_or_below bases c m ≡ x → OptionHas bases k (if x then None else Some m) v
      go true e = n (within c m t e v h)
      go false e = h

  passing_has : (test : Tested) (m : Tree) → CanFollow test m → (v : Value) → HasType bases k m v
      → Passes bases k test v → OptionHas bases k (member_passing bases test m) v
  passing_has for_none Any t value.none h p = tt
  passing_has for_none Object t value.none h p = tt
  passing_has for_none NoneType t value.none h p = tt
  passing_has for_none (Union a b) t v h p = h
  passing_has for_none _ t value.none h p = absurd h
  passing_has for_none _ t _ h p = absurd p
  passing_has (for_type c) Any t v h p = p
  passing_has (for_type c) Object t v h p = p
  passing_has (for_type c) (Union a b) t v h p = h
  passing_has (for_type c) Never t v h p = absurd h
  passing_has (for_type c) Int t v h p = member_within_has c Int t tt v h p
  passing_has (for_type c) Bool t v h p = member_within_has c Bool t tt v h p
  passing_has (for_type c) Str t v h p = member_within_has c Str t tt v h p
  passing_has (for_type c) NoneType t v h p = member_within_has c NoneType t tt v h p
  passing_has (for_type c) (Class d) t v h p = member_within_has c (Class d) t tt v h p
  passing_has (for_type c) (ListOf s) t v h p = member_within_has c (ListOf s) t tt v h p
  passing_has (for_type c) (DictOf s u) t v h p = member_within_has c (DictOf s u) t tt v h p
  passing_has (for_type c) (TupleOf us) t v h p = member_within_has c (TupleOf us) t tt v h p
  passing_has for_list Any t v h p = absurd t
  passing_has for_list Object t v h p = absurd t
  passing_has for_list (ListOf s) t v h p = h
  passing_has for_list (Union a b) t v h p = h
  passing_has for_list (Class d) t (location l) h p = no_list_class (same_Some _ _ (sym p.is ∙ h.is))
  passing_has for_list (DictOf s u) t (location l) h p = no_list_dict (same_Some _ _ (sym p.is ∙ h.is))
  passing_has for_list _ t (location l) h p = absurd h
  passing_has for_list _ t _ h p = absurd p

  failing_has : (test : Tested) (m : Tree) → CanFollow test m → (v : Value) → HasType bases k m v
      → ¬ (Passes bases k test v) → OptionHas bases k (member_failing bases test m) v
  failing_has for_none NoneType t value.none h n = n tt
  failing_has for_none NoneType t _ h n = absurd h
  failing_has for_none (Union a b) t v h n = h
  failing_has for_none Any t v h n = h
  failing_has for_none Object t v h n = h
  failing_has for_none Never t v h n = h
  failing_has for_none Int t v h n = h
  failing_has for_none Bool t v h n = h
  failing_has for_none Str t v h n = h
  failing_has for_none (Class d) t v h n = h
  failing_has for_none (ListOf s) t v h n = h
  failing_has for_none (DictOf s u) t v h n = h
  failing_has for_none (TupleOf us) t v h n = h
  failing_has (for_type c) Any t v h n = h
  failing_has (for_type c) Object t v h n = h
  failing_has (for_type c) (Union a b) t v h n = h
  failing_has (for_type c) Never t v h n = absurd h
  failing_has (for_type c) Int t v h n = outside_has c Int t v h n
  failing_has (for_type c) Bool t v h n = outside_has c Bool t v h n
  failing_has (for_type c) Str t v h n = outside_has c Str t v h n
  failing_has (for_type c) NoneType t v h n = outside_has c NoneType t v h n
  failing_has (for_type c) (Class d) t v h n = outside_has c (Class d) t v h n
  failing_has (for_type c) (ListOf s) t v h n = outside_has c (ListOf s) t v h n
  failing_has (for_type c) (DictOf s u) t v h n = outside_has c (DictOf s u) t v h n
  failing_has (for_type c) (TupleOf us) t v h n = outside_has c (TupleOf us) t v h n
  failing_has for_list (ListOf s) t (location l) h n = n (record { item = h.item; is = h.is })
  failing_has for_list (ListOf s) t _ h n = absurd h
  failing_has for_list (Union a b) t v h n = h
  failing_has for_list Any t v h n = h
  failing_has for_list Object t v h n = h
  failing_has for_list Never t v h n = h
  failing_has for_list Int t v h n = h
  failing_has for_list Bool t v h n = h
  failing_has for_list Str t v h n = h
  failing_has for_list NoneType t v h n = h
  failing_has for_list (Class d) t v h n = h
  failing_has for_list (DictOf s u) t v h n = h
  failing_has for_list (TupleOf us) t v h n = h

  -- the part of a type that passes a test has all values of the type that pass it
  pub passing_keeps : (test : Tested) (t : Tree) → CanFollowAll test (members t) → (v : Value) → HasType bases k t v
      → Passes bases k test v → HasType bases k (type_where_true bases test t) v
  passing_keeps test t can v h p = of_union bases k (filter_map (member_passing bases test) (members t)) v
      (go (members t) can (to_members bases k t v h))
    where
      go : (ms : List Tree) → CanFollowAll test ms → SomeHas bases k ms v
          → SomeHas bases k (filter_map (member_passing bases test) ms) v
      go [] c h = h
      go (m ∷ ms) c h = elim h [
        | inl x ↦ kept_first bases k (member_passing bases test m) (filter_map (member_passing bases test) ms) v
            (passing_has test m c.0 v x p)
        | inr y ↦ kept_rest bases k (member_passing bases test m) (filter_map (member_passing bases test) ms) v
            (go ms c.1 y)
      ]

  -- and what it leaves where it fails has those that fail
  pub failing_keeps : (test : Tested) (t : Tree) → CanFollowAll test (members t) → (v : Value) → HasType bases k t v
      → ¬ (Passes bases k test v) → HasType bases k (type_where_false bases test t) v
  failing_keeps test t can v h n = of_union bases k (filter_map (member_failing bases test) (members t)) v
      (go (members t) can (to_members bases k t v h))
    where
      go : (ms : List Tree) → CanFollowAll test ms → SomeHas bases k ms v
          → SomeHas bases k (filter_map (member_failing bases test) ms) v
      go [] c h = h
      go (m ∷ ms) c h = elim h [
        | inl x ↦ kept_first bases k (member_failing bases test m) (filter_map (member_failing bases test) ms) v
            (failing_has test m c.0 v x n)
        | inr y ↦ kept_rest bases k (member_failing bases test m) (filter_map (member_failing bases test) ms) v
            (go ms c.1 y)
      ]

-- ---- members, for joins

-- a value of one of these types
abbrev pub HasSome : Bases → HeapTyping → List Tree → Value → Type 0
HasSome bases k ms v = SomeHas bases k ms v

pub of_members : (bases : Bases) (k : HeapTyping) (ms : List Tree) (v : Value) → HasSome bases k ms v
    → HasType bases k (union ms) v
of_members bases k ms v h = of_union bases k ms v h
