-- Loops: at the head each local that the body binds has its declared type, so the head's environment holds in each
-- turn.
use Rattle.std.proofs.Common.{◌≡◌, ℕ, zero, suc, List, [], ◌∷◌, refl, sym, ◌∙◌, subst, inl, inr, arith}
use Rattle.std.specs.Prelude.{◌⊎◌, Bool as Test, true, false, Option, Some, None}
use Rattle.std.proofs.lemmas.Option.{same_Some}
use Rattle.pc_types.specs.Tree.{Tree}
use Rattle.pc_types.specs.Below.{Bases}
use Rattle.pc_flow.specs.Environment.{Env, current, declared_type, head_local, loop_head}
use Rattle.pc_scope.specs.Resolution.{index_of}
use Rattle.pc_value.specs.Value.{Value}
use Rattle.pc_machine.specs.State.{Frame}
use Rattle.pc_machine.specs.Names.{local_by_name}
use Rattle.pc_sound.specs.Values.{HeapTyping, HasType, Extends}
use Rattle.pc_sound.proofs.Steps.BoundLocals.{HasLocal, HasLocals}
use Rattle.pc_sound.proofs.Values.ValuesFlow.{later}

-- the type of a local at a head: assigned before; the declared type where the body binds it, else the type before
record AtHead (bound : Test) (d : Tree) (before : Option Tree) (t : Tree) : Type 0 where
  type : Tree
  assigned : before ≡ Some type
  is : ((bound ≡ true) × (t ≡ d)) ⊎ ((bound ≡ false) × (t ≡ type))

head_cases : (bound : Test) (d t : Tree) (before : Option Tree) → head_local bound d before ≡ Some t
    → AtHead bound d before t
head_cases bound d t None e = absurd (grind (arith, e))
head_cases true d t (Some u) e = record { type = u; assigned = refl; is = inl (refl, sym (same_Some _ _ e)) }
head_cases false d t (Some u) e = record { type = u; assigned = refl; is = inr (refl, sym (same_Some _ _ e)) }

at_head : (bound : ℕ → Test) (ds : List Tree) (env : Env) → (x : ℕ) (t : Tree) → current (loop_head bound ds env) x
    ≡ Some t → AtHead (bound x) (declared_type ds x) (current env x) t
at_head bound [] env x t e = absurd (grind (arith, e))
at_head bound (d ∷ ds) [] x t e = absurd (grind (arith, e))
at_head bound (d ∷ ds) (s ∷ env) zero t e = head_cases (bound zero) d t s e
at_head bound (d ∷ ds) (s ∷ env) (suc x) t e = at_head (λ y. bound (suc y)) ds env x t e

module _ (bases : Bases) (names : List (List ℕ)) (declared : List Tree) (bound : ℕ → Test) (env : Env) where
  -- before the first turn
  pub into_head : (k : HeapTyping) (frame : Frame) → HasLocals bases k names declared env frame
      → HasLocals bases k names declared (loop_head bound declared env) frame
  into_head k frame locals = record { each = each }
    where
      each : (word : List ℕ) (x : ℕ) (t : Tree) → index_of word names ≡ Some x
          → current (loop_head bound declared env) x ≡ Some t → HasLocal bases k declared frame word x t
      each word x t named e =
          let h = at_head bound declared env x t e in
          let l = locals.each word x h.type named h.assigned in
          record {
            value = l.value;
            is = l.is;
            now = elim h.is [
              | inl b ↦ subst (λ u. HasType bases k u l.value)
                  (sym b.1) l.always
              | inr b ↦ subst (λ u. HasType bases k u l.value) (sym b.1) l.now
            ];
            always = l.always;
          }

  -- from one turn to the next: a local that was bound is bound to a value of its declared type still, and one that the
  -- body does not bind is unchanged
  pub record IsKept (k : HeapTyping) (old new : Frame) (word : List ℕ) (x : ℕ) : Type 0 where
    pub value : Value
    pub is : local_by_name word new ≡ Some (Some value)
    pub always : HasType bases k (declared_type declared x) value
    pub same : bound x ≡ false → local_by_name word new ≡ local_by_name word old

  pub again_at_head : (k k' : HeapTyping) (old new : Frame) → Extends k k'
      → HasLocals bases k names declared (loop_head bound declared env) old
      → ((word : List ℕ) (x : ℕ) (v : Value) → index_of word names ≡ Some x → local_by_name word old ≡ Some (Some v)
      → HasType bases k (declared_type declared x) v → IsKept k' old new word x)
      → HasLocals bases k' names declared (loop_head bound declared env) new
  again_at_head k k' old new grows locals kept = record { each = each }
    where
      each : (word : List ℕ) (x : ℕ) (t : Tree) → index_of word names ≡ Some x
          → current (loop_head bound declared env) x ≡ Some t → HasLocal bases k' declared new word x t
      each word x t named e =
          let h = at_head bound declared env x t e in
          let l = locals.each word x t named e in
          let m = kept word x l.value named l.is l.always in
          record {
            value = m.value;
            is = m.is;
            now = elim h.is [
              | inl b ↦ subst (λ u. HasType bases k' u m.value) (sym b.1) m.always
              | inr b ↦ subst (λ w. HasType bases k' t w) (same_Some _ _
                  (same_Some _ _ (sym l.is ∙ sym (m.same b.0) ∙ m.is))) (later bases grows t l.value l.now)
            ];
            always = m.always;
          }
