-- Tuples of a type: a type in normal form has at most one tuple member of each length, and all its tuples of that
-- length are of that member.
use Rattle.std.proofs.Common.{◌≡◌, ◌<◌, ◌≤◌, ◌+◌, ℕ, zero, suc, refl, ap, ◌∙◌, inl, inr, arith}
use Rattle.std.specs.Prelude.{◌⊎◌}
use Rattle.std.proofs.lemmas.Bool.{cases_eq}
use Rattle.pc_types.specs.Tree.{Tree, Trees, Any, Object, Never, Int, Bool, Str, NoneType, Class, ListOf, DictOf}
use Rattle.pc_types.specs.Tree.{TupleOf, Union, end, more}
use Rattle.pc_types.specs.Below.{Bases, Static, same, through, object, left, right}
use Rattle.pc_types.specs.Shape.{count}
use Rattle.pc_types.specs.Normal.{IsNormal, AreNormal, IsAfter}
use Rattle.pc_value.specs.Value.{Values, none, tuple_of, no_values, more_values}
use Rattle.pc_sound.specs.Values.{HeapTyping, HasType, HaveTypes}

-- the number of items of a tuple
abbrev pub size : Values → ℕ
size no_values = 0
size (more_values v vs) = size vs + 1

-- a tuple of so many None
abbrev pub nones : ℕ → Values
nones zero = no_values
nones (suc n) = more_values none (nones n)

pub size-nones : (n : ℕ) → size (nones n) ≡ n
size-nones zero = refl
size-nones (suc n) = omega (arith, size-nones n)

-- at least the length of each member that is a tuple
abbrev pub longest : Tree → ℕ
longest (TupleOf ts) = count ts
longest (Union a b) = longest a + longest b
longest _ = 0

module _ (bases : Bases) (k : HeapTyping) where
  -- a tuple of a type has its length
  pub have_count : (ts : Trees) (vs : Values) → HaveTypes bases k ts vs → count ts ≡ size vs
  have_count end no_values h = refl
  have_count end (more_values v vs) h = absurd h
  have_count (more t ts) no_values h = absurd h
  have_count (more t ts) (more_values v vs) h = ap (λ n. n + 1) (have_count ts vs h.1)

  -- every type is static to the type
  abbrev pub IsTop : Tree → Type 0
  IsTop t = (s : Tree) → Static bases s t

  -- no tuple of this length is of the type
  abbrev pub HasNoTuple : ℕ → Tree → Type 0
  HasNoTuple n t = (vs : Values) → size vs ≡ n → HasType bases k t (tuple_of vs) → ⊥

  -- the member that has all tuples of this length
  pub record TupleMember (n : ℕ) (t : Tree) : Type 0 where
    pub parts : Trees
    pub normal : AreNormal parts
    pub long : count parts ≡ n
    pub below : Static bases (TupleOf parts) t
    pub only : (vs : Values) → size vs ≡ n → HasType bases k t (tuple_of vs) → HaveTypes bases k parts vs

  -- every type is static to the type, or no tuple of this length is of it, or just those of one member are
  abbrev pub TuplesOf : ℕ → Tree → Type 0
  TuplesOf n t = IsTop t ⊎ (HasNoTuple n t ⊎ TupleMember n t)

  -- the members after a tuple are longer
  behind_longer :
      (ts : Trees) (t : Tree) → IsAfter (TupleOf ts) t → (vs : Values) → HasType bases k t (tuple_of vs)
      → count ts < size vs
  behind_longer ts Any a vs h = absurd a.0
  behind_longer ts Object a vs h = absurd a.0
  behind_longer ts (TupleOf us) a vs h =
      elim a.1 [ inl x ↦ absurd (omega (arith, x)) | inr y ↦ omega (arith, y.1, have_count us vs h) ]
  behind_longer ts (Union c d) a vs h =
      elim h [ inl x ↦ behind_longer ts c a.0 vs x | inr y ↦ behind_longer ts d a.1 vs y ]
  behind_longer ts _ a vs h = absurd h

  -- the tuples of a union whose first member has none
  of_second : (n : ℕ) (a b : Tree) → HasNoTuple n a → TuplesOf n b → TuplesOf n (Union a b)
  of_second n a b without of = elim of [
    | inl top ↦ inl (λ s. through (top s) right)
    | inr rest ↦ elim rest [
      | inl lacks ↦ inr (inl (λ vs e h. elim h [ inl x ↦ without vs e x | inr y ↦ lacks vs e y ]))
      | inr m ↦ inr (inr (record {
        parts = m.parts;
        normal = m.normal;
        long = m.long;
        below = through m.below right;
        only = λ vs e h. elim h [ inl x ↦ absurd (without vs e x) | inr y ↦ m.only vs e y ];
      }))
    ]
  ]

  -- the tuples of a type in normal form
  pub tuples_of : (n : ℕ) (t : Tree) → IsNormal t → TuplesOf n t
  tuples_of n Any normal = inl (λ s. object)
  tuples_of n Object normal = inl (λ s. object)
  tuples_of n (TupleOf ts) normal = elim (cases_eq (count ts) n) [
    | inl e ↦ inr (inr (record { parts = ts; normal = normal; long = e; below = same; only = λ vs f h. h }))
    | inr ne ↦ inr (inl (λ vs f h. ne (have_count ts vs h ∙ f)))
  ]
  tuples_of n (Union (TupleOf ts) b) normal = elim (cases_eq (count ts) n) [
    | inl e ↦ inr (inr (record {
      parts = ts;
      normal = normal.1;
      long = e;
      below = left;
      only = λ vs f h. elim h [
        | inl x ↦ x
        | inr y ↦ absurd (omega (arith, behind_longer ts b normal.3 vs y, e, f))
      ];
    }))
    | inr ne ↦ of_second n (TupleOf ts) b (λ vs f h. ne (have_count ts vs h ∙ f)) (tuples_of n b normal.2)
  ]
  tuples_of n (Union Any b) normal = absurd normal.0
  tuples_of n (Union Object b) normal = absurd normal.0
  tuples_of n (Union Never b) normal = absurd normal.0
  tuples_of n (Union (Union c d) b) normal = absurd normal.0
  tuples_of n (Union Int b) normal = of_second n Int b (λ vs e h. h) (tuples_of n b normal.2)
  tuples_of n (Union Bool b) normal = of_second n Bool b (λ vs e h. h) (tuples_of n b normal.2)
  tuples_of n (Union Str b) normal = of_second n Str b (λ vs e h. h) (tuples_of n b normal.2)
  tuples_of n (Union NoneType b) normal = of_second n NoneType b (λ vs e h. h) (tuples_of n b normal.2)
  tuples_of n (Union (Class c) b) normal = of_second n (Class c) b (λ vs e h. h) (tuples_of n b normal.2)
  tuples_of n (Union (ListOf t) b) normal = of_second n (ListOf t) b (λ vs e h. h) (tuples_of n b normal.2)
  tuples_of n (Union (DictOf s t) b) normal = of_second n (DictOf s t) b (λ vs e h. h) (tuples_of n b normal.2)
  tuples_of n _ normal = inr (inl (λ vs e h. h))

  -- every type is static to the type, or no tuple of the type is longer than its members
  pub longest_bounds :
      (t : Tree) → IsTop t ⊎ ((vs : Values) → HasType bases k t (tuple_of vs) → size vs ≤ longest t)
  longest_bounds Any = inl (λ s. object)
  longest_bounds Object = inl (λ s. object)
  longest_bounds (TupleOf ts) = inr (λ vs h. omega (arith, have_count ts vs h))
  longest_bounds (Union a b) = elim (longest_bounds a) [
    | inl top ↦ inl (λ s. through (top s) left)
    | inr f ↦ elim (longest_bounds b) [
      | inl top ↦ inl (λ s. through (top s) right)
      | inr g ↦ inr (λ vs h. elim h [ inl x ↦ omega (arith, f vs x) | inr y ↦ omega (arith, g vs y) ])
    ]
  ]
  longest_bounds _ = inr (λ vs h. absurd h)
