-- Loops that change an environment local by local: how they begin, go on and end.
use Rattle.std.proofs.Common.{◌≡◌, ◌<◌, ◌≤◌, ◌+◌, ◌||◌, ℕ, min, Bool as Test, true, false, List, [], ◌∷◌, ◌++◌, Option}
use Rattle.std.proofs.Common.{length, nat_eq, nat_lt, take, get_or, refl, sym, ap, subst, ◌∙◌, inl, arith}
use Rattle.std.specs.Prelude.{slice_set}
use Rattle.std.specs.Option.{option_map}
use Rattle.std.proofs.lemmas.Bool.Decides.{nat_tests}
use Rattle.std.proofs.lemmas.List.{take-map, take_more, take_all, length-map}
use Rattle.std.proofs.lemmas.List.Elements.{All-take}
use Rattle.std.proofs.lemmas.List.Folds.{list_any-append}
use Rattle.pc_types.specs.Tree.{Tree}
use Rattle.pc_types.specs.Below.{Bases}
use Rattle.pc_flow.specs.Agreement.{is_among}
use Rattle.pc_flow.specs.Environment.{Env, current, declared_type, join_local, join_env, head_local, loop_head}
use Rattle.pc_flow.specs.Stored.{HasOne, HasEach, env_of, declared_one, declared_of, GivesEnv}
use Rattle.pc_flow.proofs.Meeting.{OneMore, join_where, where_none, where_more, where_all, head_none}
use Rattle.pc_flow.proofs.Meeting.{head_more}

-- locals that are marked so far: the first ones of a row, and those below a number
or_some : (a b : Test) → b ≡ true → (a || b) ≡ true
or_some true b e = refl
or_some false b e = e

or_none : (a b : Test) → b ≡ false → (a || b) ≡ a
or_none true b e = refl
or_none false b e = e

eq_self : (y : ℕ) → (nat_eq y y || false) ≡ true
eq_self y = grind (arith, nat_tests)

eq_other : (x y : ℕ) → (x ≡ y → ⊥) → (nat_eq x y || false) ≡ false
eq_other x y n = grind (arith, nat_tests)

pub one_more_among : (l : List ℕ) (i d y : ℕ) → i < length l → y ≡ get_or l i d
    → OneMore (is_among (take i l)) (is_among (take (i + 1) l)) y
one_more_among l i d y h e =
    let split : (x : ℕ) → is_among (take (i + 1) l) x ≡ (is_among (take i l) x || (nat_eq x y || false)) =
    λ x. ap (λ m. is_among m x) (take_more l i d h ∙ ap (λ z. take i l ++ z ∷ []) (sym e))
    ∙ list_any-append (nat_eq x) (take i l) (y ∷ []) in
    record {
      now = split y ∙ or_some (is_among (take i l) y) (nat_eq y y || false) (eq_self y);
      others = λ x n. split x ∙ or_none (is_among (take i l) x) (nat_eq x y || false) (eq_other x y n);
    }

pub one_more_below : (i : ℕ) → OneMore (λ x. nat_lt x i) (λ x. nat_lt x (i + 1)) i
one_more_below i = record { now = grind (arith, nat_tests); others = λ x n. grind (arith, nat_tests) }

pub none_below : (x : ℕ) → nat_lt x 0 ≡ false
none_below x = grind (arith, nat_tests)

below_all : (x n : ℕ) → x < n → nat_lt x n ≡ true
below_all x n h = grind (arith, nat_tests)

module _ {Store Ty : Type 0} (has : Store → Ty → Type 0) (tree : Ty → Tree) where
  -- the first locals of an environment of the store
  pub firsts_given : (store : Store) (n : ℕ) (types : List (Option Ty)) → HasEach (has store) types
      → HasEach (has store) (take n types)
  firsts_given store n types h = All-take (HasOne (has store)) n types h

  pub firsts_env : (n : ℕ) (types : List (Option Ty)) → env_of tree (take n types) ≡ take n (env_of tree types)
  firsts_env n types = sym (take-map (option_map tree) n types)

  -- the head of a loop
  module _ (bound : List ℕ) (ds types : List (Option Ty)) where
    pub head_begins : (store : Store) (head : List (Option Ty)) → head ≡ take (length ds) types
        → HasEach (has store) types → GivesEnv has tree store head
        (loop_head (is_among (take 0 bound)) (declared_of tree ds) (env_of tree types))
    head_begins store head e h = record {
      given = subst (HasEach (has store)) (sym e) (firsts_given store (length ds) types h);
      is = ap (env_of tree) e ∙ firsts_env (length ds) types ∙ ap (λ n. take n (env_of tree types))
          (sym (length-map ds (declared_one tree))) ∙ sym (head_none (is_among []) (λ x. refl) (declared_of tree ds)
          (env_of tree types));
    }

    pub head_goes_on : (old new : Store) (i d y : ℕ) (head next : List (Option Ty)) → i < length bound
        → y ≡ get_or bound i d → GivesEnv has tree old head (loop_head (is_among (take i bound)) (declared_of tree ds)
        (env_of tree types)) → GivesEnv has tree new next (slice_set (env_of tree head) y
        (head_local true (declared_type (declared_of tree ds) y) (current (env_of tree head) y)))
        → GivesEnv has tree new next (loop_head (is_among (take (i + 1) bound)) (declared_of tree ds)
        (env_of tree types))
    head_goes_on old new i d y head next l e g n = record {
      given = n.given;
      is = n.is ∙ ap (λ (h : Env). slice_set h y (head_local true (declared_type (declared_of tree ds) y)
          (current h y))) g.is ∙ head_more (is_among (take i bound)) (is_among (take (i + 1) bound)) y
          (one_more_among bound i d y l e) (declared_of tree ds) (env_of tree types);
    }

    pub head_ends : (store : Store) (head : List (Option Ty)) (i : ℕ) → length bound ≤ i
        → GivesEnv has tree store head (loop_head (is_among (take i bound)) (declared_of tree ds) (env_of tree types))
        → GivesEnv has tree store head (loop_head (is_among bound) (declared_of tree ds) (env_of tree types))
    head_ends store head i h g = subst (λ (l : List ℕ). GivesEnv has tree store head
        (loop_head (is_among l) (declared_of tree ds) (env_of tree types))) (take_all i bound h) g

  -- where two ways meet
  module _ (bases : Bases) (ds a b : List (Option Ty)) where
    pub join_begins : (store : Store) (marked : ℕ → Test) (n : ℕ) (met : List (Option Ty))
        → ((x : ℕ) → marked x ≡ false) → n ≡ min (length ds) (length b) → met ≡ take n a → HasEach (has store) a
        → GivesEnv has tree store met (join_where bases marked (declared_of tree ds) (env_of tree a) (env_of tree b))
    join_begins store marked n met f m e h =
        let k : n ≡ min (length (declared_of tree ds)) (length (env_of tree b)) =
        rw (length-map ds (declared_one tree), length-map b (option_map tree)) m in
        record {
          given = subst (HasEach (has store)) (sym e) (firsts_given store n a h);
          is = ap (env_of tree) e ∙ firsts_env n a ∙ sym (where_none bases marked f n (declared_of tree ds)
              (env_of tree a) (env_of tree b) k);
        }

    pub join_goes_on : (old new : Store) (marked more : ℕ → Test) (y : ℕ) (met next : List (Option Ty))
        → OneMore marked more y → GivesEnv has tree old met (join_where bases marked (declared_of tree ds)
        (env_of tree a) (env_of tree b)) → GivesEnv has tree new next
        (slice_set (env_of tree met) y (join_local bases (declared_type (declared_of tree ds) y)
        (current (env_of tree a) y) (current (env_of tree b) y)))
        → GivesEnv has tree new next (join_where bases more (declared_of tree ds) (env_of tree a) (env_of tree b))
    join_goes_on old new marked more y met next m g n = record {
      given = n.given;
      is = n.is ∙ ap (λ (e : Env). slice_set e y (join_local bases (declared_type (declared_of tree ds) y)
          (current (env_of tree a) y) (current (env_of tree b) y))) g.is
          ∙ where_more bases marked more y m (declared_of tree ds) (env_of tree a) (env_of tree b);
    }

    -- at all locals
    pub join_ends : (store : Store) (met : List (Option Ty)) (n i : ℕ) → n ≡ min (length ds) (length b) → n ≤ i
        → GivesEnv has tree store met (join_where bases (λ x. nat_lt x i) (declared_of tree ds) (env_of tree a)
        (env_of tree b)) → GivesEnv has tree store met (join_env bases (declared_of tree ds) (env_of tree a)
        (env_of tree b))
    join_ends store met n i m h g =
        let ld = length-map ds (declared_one tree) in
        let lb = length-map b (option_map tree) in
        record {
          given = g.given;
          is = g.is ∙ where_all bases (λ x. nat_lt x i) (declared_of tree ds) (env_of tree a) (env_of tree b)
              (λ x p q. inl (below_all x i (omega arith)));
        }
