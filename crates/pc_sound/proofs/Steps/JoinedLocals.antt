-- Where paths join, each local that all of them assign has its type in the joined environment, whichever path was
-- taken.
use Rattle.std.proofs.Common.{◌≡◌, ℕ, zero, suc, List, [], ◌∷◌, ◌++◌, refl, subst, inl, inr, arith}
use Rattle.std.specs.Prelude.{◌⊎◌, Option, Some, None, unwrap_or}
use Rattle.std.proofs.lemmas.Option.{same_Some}
use Rattle.pc_types.specs.Tree.{Tree}
use Rattle.pc_types.specs.Below.{Bases, AreSmaller}
use Rattle.pc_types.specs.Join.{join}
use Rattle.pc_flow.specs.Environment.{Env, current, declared_type, join_local, join_env, join_envs_onto, join_ways}
use Rattle.pc_scope.specs.Resolution.{index_of}
use Rattle.pc_machine.specs.State.{Frame}
use Rattle.pc_sound.specs.Values.{HeapTyping, HasType}
use Rattle.pc_sound.proofs.Steps.BoundLocals.{HasLocal, HasLocals}
use Rattle.pc_sound.proofs.Values.Joins.{join_or_holds}

-- the type of a local where two ways meet
pub record Met (bases : Bases) (d : Tree) (left right : Option Tree) (t : Tree) : Type 0 where
  pub first : Tree
  pub second : Tree
  pub is_left : left ≡ Some first
  pub is_right : right ≡ Some second
  pub is : unwrap_or (join bases first second) d ≡ t

met_local : (bases : Bases) (d : Tree) (s r : Option Tree) (t : Tree) → join_local bases d s r ≡ Some t
    → Met bases d s r t
met_local bases d None r t e = absurd (grind (arith, e))
met_local bases d (Some s) None t e = absurd (grind (arith, e))
met_local bases d (Some s) (Some r) t e = record {
  first = s;
  second = r;
  is_left = refl;
  is_right = refl;
  is =
      same_Some _ _ e;
}

pub met : (bases : Bases) (ds : List Tree) (left right : Env) (x : ℕ) (t : Tree)
    → current (join_env bases ds left right) x ≡ Some t → Met bases (declared_type ds x) (current left x)
    (current right x) t
met bases [] left right x t e = absurd (grind (arith, e))
met bases (d ∷ ds) [] right x t e = absurd (grind (arith, e))
met bases (d ∷ ds) (s ∷ left) [] x t e = absurd (grind (arith, e))
met bases (d ∷ ds) (s ∷ left) (r ∷ right) zero t e = met_local bases d s r t e
met bases (d ∷ ds) (s ∷ left) (r ∷ right) (suc x) t e = met bases ds left right x t e

module _ (bases : Bases) (ordered : AreSmaller bases) (k : HeapTyping) (names : List (List ℕ)) (declared : List Tree)
    (frame : Frame) where
  abbrev pub Hold : Env → Type 0
  Hold env = HasLocals bases k names declared env frame

  -- where two ways meet, whichever was taken
  pub meet_holds : (left right : Env) → Hold left ⊎ Hold right → Hold (join_env bases declared left right)
  meet_holds left right h = record { each = each }
    where
      each : (word : List ℕ) (x : ℕ) (t : Tree) → index_of word names ≡ Some x
          → current (join_env bases declared left right) x ≡ Some t → HasLocal bases k declared frame word x t
      each word x t named e =
          let m = met bases declared left right x t e in
          elim h [
            | inl a ↦ let l = a.each word x m.first named m.is_left in record {
              value = l.value;
              is = l.is;
              now = subst (λ y. HasType bases k y l.value) m.is (join_or_holds bases ordered k m.first m.second
                  (declared_type declared x) l.value (inl l.now) l.always);
              always = l.always;
            }
            | inr b ↦ let l = b.each word x m.second named m.is_right in record {
              value = l.value;
              is = l.is;
              now = subst (λ y. HasType bases k y l.value) m.is (join_or_holds bases ordered k m.first m.second
                  (declared_type declared x) l.value (inr l.now) l.always);
              always = l.always;
            }
          ]

  -- one of several environments holds
  abbrev pub SomeHolds : List Env → Type 0
  SomeHolds [] = ⊥
  SomeHolds (e ∷ es) = Hold e ⊎ SomeHolds es

  pub onto_hold : (env : Env) (es : List Env) → Hold env ⊎ SomeHolds es → Hold (join_envs_onto bases declared env es)
  onto_hold env [] h = elim h [ inl a ↦ a | inr b ↦ absurd b ]
  onto_hold env (e ∷ es) h = onto_hold (join_env bases declared env e) es (elim h [
    | inl a ↦ inl (meet_holds env e (inl a))
    | inr b ↦ elim b [ inl c ↦ inl (meet_holds env e (inr c)) | inr d ↦ inr d ]
  ])

  -- after ways that can complete, whichever was taken
  pub record Joined (ways : List Env) : Type 0 where
    pub env : Env
    pub is : join_ways bases declared ways ≡ Some env
    pub holds : Hold env

  pub ways_hold : (ways : List Env) → SomeHolds ways → Joined ways
  ways_hold [] h = absurd h
  ways_hold (e ∷ es) h = record { env = join_envs_onto bases declared e es; is = refl; holds = onto_hold e es h }

  pub some_left : (es fs : List Env) → SomeHolds es → SomeHolds (es ++ fs)
  some_left [] fs h = absurd h
  some_left (e ∷ es) fs h = elim h [ inl a ↦ inl a | inr b ↦ inr (some_left es fs b) ]

  pub some_right : (es fs : List Env) → SomeHolds fs → SomeHolds (es ++ fs)
  some_right [] fs h = h
  some_right (e ∷ es) fs h = inr (some_right es fs h)
