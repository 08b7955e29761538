-- Two environments, the first of which subsumes the second outside some locals: their join, and what it subsumes.
use Rattle.std.proofs.Common.{◌≡◌, ◌∙◌, ◌<◌, ◌≤◌, ◌+◌, ◌++◌, ◌||◌, ℕ, zero, suc, Bool as Test, true, false, List, []}
use Rattle.std.proofs.Common.{◌∷◌, Option, Some, None, length, nat_eq, take, get_or, refl, sym, ap, subst, inl, inr}
use Rattle.std.proofs.Common.{⊎_elim, arith}
use Rattle.std.specs.Prelude.{unwrap_or, if◌then◌else◌}
use Rattle.std.proofs.lemmas.Bool.{cases_Bool, eqb-true, eq-eqb}
use Rattle.std.proofs.lemmas.List.{take_all}
use Rattle.std.proofs.lemmas.List.Folds.{list_any-append}
use Rattle.pc_types.specs.Tree.{Tree}
use Rattle.pc_types.specs.Below.{Bases}
use Rattle.pc_types.proofs.JoinItself.{join_itself}
use Rattle.pc_flow.specs.Agreement.{is_among, AgreeBelow, TakesIn, TakesInOutside}
use Rattle.pc_flow.specs.Environment.{Env, current, declared_type, join_local, join_env}
use Rattle.pc_flow.specs.Stored.{env_of, declared_of, GivesEnv}
use Rattle.pc_flow.specs.WellFormed.{IsWellFormedIfAny, IsWellFormedEnv}
use Rattle.pc_flow.proofs.Conditions.{current_well_formed}
use Rattle.pc_flow.proofs.Loops.{one_more_among}
use Rattle.pc_flow.proofs.Meeting.{join_where, where_all}

neither : (a b : Test) → (a || b) ≡ false → (a ≡ false) × (b ≡ false)
neither true b e = cc
neither false true e = cc
neither false false e = (refl, refl)

-- a local outside two lists together is outside each of them
pub outside_both : (xs ys : List ℕ) (x : ℕ) → is_among (xs ++ ys) x ≡ false
    → (is_among xs x ≡ false) × (is_among ys x ≡ false)
outside_both xs ys x e = neither (is_among xs x) (is_among ys x) (sym (list_any-append (nat_eq x) xs ys) ∙ e)

-- no test both holds and fails
pub true_false : (b : Test) → b ≡ true → b ≡ false → ⊥
true_false true t f = cc
true_false false t f = cc

-- a fact of each local joined so far outside some locals, and of one more local
module _ (P : ℕ → Type 0) (locals unsettled : List ℕ) where
  abbrev pub HoldsOf : (joined : List ℕ) → Type 0
  HoldsOf joined = (x : ℕ) → is_among joined x ≡ true → is_among unsettled x ≡ false → P x

  pub one_settled : (i d y : ℕ) → i < length locals → y ≡ get_or locals i d → HoldsOf (take i locals) → P y
      → HoldsOf (take (i + 1) locals)
  one_settled i d y h e f p x k n = go (nat_eq x y) refl
    where
      go : (b : Test) → nat_eq x y ≡ b → P x
      go true q = subst P (sym (eqb-true x y q)) p
      go false q =
          let m = one_more_among locals i d y h e in
          f x (sym (m.others x (λ r. true_false (nat_eq x y) (eq-eqb x y r) q)) ∙ k) n

pub one_unsettled : (P : ℕ → Type 0) (locals unsettled : List ℕ) (i d y : ℕ) → i < length locals
    → y ≡ get_or locals i d → HoldsOf P locals unsettled (take i locals)
    → HoldsOf P locals (unsettled ++ y ∷ []) (take (i + 1) locals)
one_unsettled P locals unsettled i d y h e f x k n =
    let m = one_more_among locals i d y h e in
    let parts = outside_both unsettled (y ∷ []) x n in
    let other = (neither (nat_eq x y) false parts.1).0 in
    f x (sym (m.others x (λ r. true_false (nat_eq x y) (eq-eqb x y r) other)) ∙ k) parts.0

-- none was joined yet
pub none_joined : (P : ℕ → Type 0) (locals unsettled : List ℕ) → HoldsOf P locals unsettled []
none_joined P locals unsettled x k n = cc

-- and one is joined more, which is noted where it is not settled
pub one_joined : (P : ℕ → Type 0) (locals unsettled : List ℕ) (i d y : ℕ) (b : Test) → i < length locals
    → y ≡ get_or locals i d → HoldsOf P locals unsettled (take i locals) → (b ≡ true → P y)
    → HoldsOf P locals (if b then unsettled else unsettled ++ y ∷ []) (take (i + 1) locals)
one_joined P locals unsettled i d y true h e f p = one_settled P locals unsettled i d y h e f (p refl)
one_joined P locals unsettled i d y false h e f p = one_unsettled P locals unsettled i d y h e f

module _ (bases : Bases) where
  -- a local that takes in another keeps its type where they are joined
  pub unchanged : (d : Tree) (s t : Option Tree) → TakesIn bases s t → join_local bases d s t ≡ s
  unchanged d None t h = refl
  unchanged d (Some s) None h = absurd h
  unchanged d (Some s) (Some t) h = ap (λ (o : Option Tree). Some (unwrap_or o d)) h

  -- and their join takes in the second
  pub still_takes_in : (d : Tree) (s t : Option Tree) → TakesIn bases s t → TakesIn bases (join_local bases d s t) t
  still_takes_in d s t h = subst (λ (o : Option Tree). TakesIn bases o t) (sym (unchanged d s t h)) h

  pub joined_takes_in : (ds : List Tree) (a b : Env) (x : ℕ)
      → TakesIn bases (join_local bases (declared_type ds x) (current a x) (current b x)) (current b x)
      → TakesIn bases (current (join_env bases ds a b) x) (current b x)
  joined_takes_in [] a b x h = tt
  joined_takes_in (d ∷ ds) [] b x h = tt
  joined_takes_in (d ∷ ds) (s ∷ ss) [] x h = tt
  joined_takes_in (d ∷ ds) (s ∷ ss) (t ∷ ts) zero h = h
  joined_takes_in (d ∷ ds) (s ∷ ss) (t ∷ ts) (suc x) h = joined_takes_in ds ss ts x h

  -- the first locals of an environment take in another that it agrees with at these, outside some
  agreed_takes : (s t : Option Tree) → IsWellFormedIfAny bases s → s ≡ t → TakesIn bases s t
  agreed_takes None t w e = tt
  agreed_takes (Some s) None w e = cc
  agreed_takes (Some s) (Some t) w e = let f : s ≡ t = cc in join_itself bases s t f w.2

  firsts_take : (n : ℕ) (a : Env) (x : ℕ) (o : Option Tree) → (x < n → TakesIn bases (current a x) o)
      → TakesIn bases (current (take n a) x) o
  firsts_take zero a x o f = tt
  firsts_take (suc n) [] x o f = tt
  firsts_take (suc n) (s ∷ ss) zero o f = f (omega arith)
  firsts_take (suc n) (s ∷ ss) (suc x) o f = firsts_take n ss x o (λ l. f (omega arith))

  pub agreed_takes_in : (n : ℕ) (locals : List ℕ) (a b : Env) → IsWellFormedEnv bases a → AgreeBelow n locals a b
      → TakesInOutside bases locals (take n a) b
  agreed_takes_in n locals a b w f = λ x k. firsts_take n a x (current b x) (λ l. agreed_takes (current a x)
      (current b x) (current_well_formed bases a x w) (f x l k))

  -- and the others do not matter to their join
  pub joined_firsts : (n : ℕ) (ds : List Tree) (a b : Env) → n ≡ length ds
      → join_env bases ds (take n a) b ≡ join_env bases ds a b
  joined_firsts n [] a b e = refl
  joined_firsts zero (d ∷ ds) a b e = absurd (omega arith)
  joined_firsts (suc n) (d ∷ ds) [] b e = refl
  joined_firsts (suc n) (d ∷ ds) (s ∷ ss) [] e = refl
  joined_firsts (suc n) (d ∷ ds) (s ∷ ss) (t ∷ ts) e = ap (λ (rest : Env). join_local bases d s t ∷ rest)
      (joined_firsts n ds ss ts (omega arith))

module _ {Ty : Type 0} (tree : Ty → Tree) (bases : Bases) (ds a b : List (Option Ty)) where
  -- joining a local a second time on the second way changes nothing
  abbrev pub IsSettled : ℕ → Type 0
  IsSettled x = TakesIn bases (join_local bases (declared_type (declared_of tree ds) x)
      (current (env_of tree a) x) (current (env_of tree b) x)) (current (env_of tree b) x)

  -- two environments joined at some locals, where the first takes in the second at the others
  pub onto_ends : {Store : Type 0} (has : Store → Ty → Type 0) (store : Store) (met : List (Option Ty))
      (locals : List ℕ) (i : ℕ) → length locals ≤ i
      → TakesInOutside bases locals (env_of tree a) (env_of tree b)
      → GivesEnv has tree store met (join_where bases (is_among (take i locals)) (declared_of tree ds) (env_of tree a)
      (env_of tree b)) → GivesEnv has tree store met (join_env bases (declared_of tree ds) (env_of tree a)
      (env_of tree b))
  onto_ends has store met locals i h f g = record {
    given = g.given;
    is = g.is ∙ ap (λ (l : List ℕ). join_where bases (is_among l) (declared_of tree ds) (env_of tree a)
        (env_of tree b)) (take_all i locals h)
        ∙ where_all bases (is_among locals) (declared_of tree ds) (env_of tree a) (env_of tree b)
        (λ x p q. ⊎_elim (λ t. inl t) (λ n. inr (unchanged bases (declared_type (declared_of tree ds) x)
        (current (env_of tree a) x) (current (env_of tree b) x) (f x n))) (cases_Bool (is_among locals x)));
  }

  pub onto_takes_in : (met : List (Option Ty)) (locals unsettled : List ℕ) (i : ℕ) → length locals ≤ i
      → TakesInOutside bases locals (env_of tree a) (env_of tree b)
      → HoldsOf IsSettled locals unsettled (take i locals)
      → env_of tree met ≡ join_env bases (declared_of tree ds) (env_of tree a) (env_of tree b)
      → TakesInOutside bases unsettled (env_of tree met) (env_of tree b)
  onto_takes_in met locals unsettled i h f s e = λ x n.
      let all = ap (λ (l : List ℕ). is_among l x) (take_all i locals h) in
      let one : IsSettled x = ⊎_elim (λ t. s x (all ∙ t) n) (λ o. still_takes_in bases
      (declared_type (declared_of tree ds) x) (current (env_of tree a) x) (current (env_of tree b) x) (f x o))
      (cases_Bool (is_among locals x)) in
      subst (λ (env : Env). TakesIn bases (current env x) (current (env_of tree b) x)) (sym e)
      (joined_takes_in bases (declared_of tree ds) (env_of tree a) (env_of tree b) x one)
