-- Frames after a local is bound, and environments after it is assigned.
use Rattle.std.proofs.Common.{◌≡◌, ℕ, zero, suc, List, [], ◌∷◌, refl, sym, ap, ◌∙◌, subst, inl, inr, arith}
use Rattle.std.specs.Prelude.{◌⊎◌, Bool as Test, true, false, if◌then◌else◌, Option, Some, None, bytes_eq}
use Rattle.std.specs.Option.{option_map}
use Rattle.std.proofs.lemmas.Slice.Eq.{bytes_eq-Decides}
use Rattle.std.proofs.lemmas.Option.{same_Some}
use Rattle.pc_types.specs.Tree.{Tree}
use Rattle.pc_types.specs.Below.{Bases}
use Rattle.pc_flow.specs.Environment.{Env, current, declared_type, assign, none_assigned}
use Rattle.pc_scope.specs.declared.resolution.NameMeaning.TheVariants as meaning
use Rattle.pc_scope.specs.Resolution.{index_of}
use Rattle.pc_value.specs.Value.{Value}
use Rattle.pc_value.specs.Texts.{same_text}
use Rattle.pc_machine.specs.State.{Frame, Local}
use Rattle.pc_machine.specs.Names.{local_by_name, with_local}
use Rattle.pc_sound.specs.Values.{HeapTyping, HasType}
use Rattle.pc_sound.proofs.Steps.BoundLocals.{HasLocal, HasLocals}
use Rattle.pc_sound.proofs.Steps.Judgment.{HasLocalNamed, HasNames}

-- ---- texts

same_itself : (word : List ℕ) → same_text word word ≡ true
same_itself word = (bytes_eq-Decides word word).1 refl

pub same_is : (u w : List ℕ) → same_text u w ≡ true → u ≡ w
same_is u w e = (bytes_eq-Decides u w).0 e

differs : (u w : List ℕ) → ¬ (u ≡ w) → same_text u w ≡ false
differs u w n = go (same_text u w) refl
  where
    go : (b : Test) → same_text u w ≡ b → same_text u w ≡ false
    go true e = absurd (n (same_is u w e))
    go false e = e

pub differs_not : (u w : List ℕ) → same_text u w ≡ false → ¬ (u ≡ w)
differs_not u w e is = absurd (grind (arith, sym e ∙ subst (λ x. same_text u x ≡ true) is (same_itself u)))

-- ---- the local of a name

-- the first local is it, or it is among the others
one_local : (word : List ℕ) (l : Local) (rest : Frame) (b : Test) → same_text l.name word ≡ b
    → local_by_name word (l ∷ rest) ≡ (if b then Some l.value else local_by_name word rest)
one_local word l rest b e = ap (λ x. if x then Some l.value else local_by_name word rest) e

one_bound : (word : List ℕ) (v : Value) (l : Local) (rest : Frame) (b : Test) → same_text l.name word ≡ b
    → with_local word v (l ∷ rest) ≡ (if b then record { name = l.name; value = Some v } ∷ rest else l ∷ with_local word
    v rest)
one_bound word v l rest b e = ap (λ x. if x then record { name = l.name; value = Some v } ∷ rest else l
    ∷ with_local word v rest) e

-- a local that the frame has is bound to the value
pub local_bound : (word : List ℕ) (v : Value) (frame : Frame) (o : Option Value) → local_by_name word frame ≡ Some o
    → local_by_name word (with_local word v frame) ≡ Some (Some v)
local_bound word v [] o e = absurd (grind (arith, e))
local_bound word v (l ∷ rest) o e = go (λ f. local_bound word v rest o f) (same_text l.name word) refl
  where
    go : (local_by_name word rest ≡ Some o → local_by_name word (with_local word v rest) ≡ Some (Some v)) → (b : Test)
        → same_text l.name word ≡ b → local_by_name word (with_local word v (l ∷ rest)) ≡ Some (Some v)
    go others true t = ap (local_by_name word) (one_bound word v l rest true t)
        ∙ one_local word (record { name = l.name; value = Some v }) rest true t
    go others false t = ap (local_by_name word) (one_bound word v l rest false t)
        ∙ one_local word l (with_local word v rest) false t ∙ others (sym (one_local word l rest false t) ∙ e)

-- another local is as it was
pub local_kept : (word other : List ℕ) (v : Value) (frame : Frame) → ¬ (word ≡ other)
    → local_by_name other (with_local word v frame) ≡ local_by_name other frame
local_kept word other v [] n = refl
local_kept word other v (l ∷ rest) n = go (local_kept word other v rest n) (same_text l.name word) refl
  where
    not_other : same_text l.name word ≡ true → same_text l.name other ≡ false
    not_other t = differs l.name other (λ is. n (sym (same_is l.name word t) ∙ is))

    go : local_by_name other (with_local word v rest) ≡ local_by_name other rest → (b : Test)
        → same_text l.name word ≡ b → local_by_name other (with_local word v (l ∷ rest)) ≡ local_by_name other
        (l ∷ rest)
    go others true t = ap (local_by_name other) (one_bound word v l rest true t)
        ∙ one_local other (record { name = l.name; value = Some v }) rest false (not_other t)
        ∙ sym (one_local other l rest false (not_other t))
    go others false t = ap (local_by_name other) (one_bound word v l rest false t)
        ∙ ap (λ o. if same_text l.name other then Some l.value else o) others

-- a name that a frame has not is not had after another one, or it, was bound
pub local_none : (word other : List ℕ) (v : Value) (frame : Frame) → local_by_name other frame ≡ None
    → local_by_name other (with_local word v frame) ≡ None
local_none word other v [] e = refl
local_none word other v (l ∷ rest) e = here (λ f. local_none word other v rest f) (same_text l.name other) refl
  where
    behind : (local_by_name other rest ≡ None → local_by_name other (with_local word v rest) ≡ None)
        → same_text l.name other ≡ false → (b : Test) → same_text l.name word ≡ b
        → local_by_name other (with_local word v (l ∷ rest)) ≡ None
    behind others f true t = ap (local_by_name other) (one_bound word v l rest true t)
        ∙ one_local other (record { name = l.name; value = Some v }) rest false f
        ∙ (sym (one_local other l rest false f) ∙ e)
    behind others f false t = ap (local_by_name other) (one_bound word v l rest false t)
        ∙ one_local other l (with_local word v rest) false f ∙ others (sym (one_local other l rest false f) ∙ e)

    here : (local_by_name other rest ≡ None → local_by_name other (with_local word v rest) ≡ None) → (b : Test)
        → same_text l.name other ≡ b → local_by_name other (with_local word v (l ∷ rest)) ≡ None
    here others true t = absurd (grind (arith, sym (one_local other l rest true t) ∙ e))
    here others false t = behind others t (same_text l.name word) refl

-- a frame has the same names after a local was bound
pub names_kept : (names : List (List ℕ)) (word : List ℕ) (v : Value) (frame : Frame) → HasNames names frame
    → HasNames names (with_local word v frame)
names_kept names word v frame has = record {
  held = held;
  others = λ other e. local_none word other v frame
      (has.others other e);
}
  where
    held : (other : List ℕ) (x : ℕ) → index_of other names ≡ Some x → HasLocalNamed other (with_local word v frame)
    held other x e = go (same_text word other) refl
      where
        go : (b : Test) → same_text word other ≡ b → HasLocalNamed other (with_local word v frame)
        go true t =
            let is = same_is word other t in
            let old = has.held other x e in
            record {
              value = Some v;
              is = subst (λ u. local_by_name u (with_local word v frame) ≡ Some (Some v)) is
                  (local_bound word v frame old.value (subst (λ u. local_by_name u frame ≡ Some old.value) (sym is)
                  old.is));
            }
        go false t = let old = has.held other x e in record {
          value = old.value;
          is = local_kept word other v frame
              (differs_not word other t) ∙ old.is;
        }

-- ---- numbers of locals

record IsMapped (o : Option ℕ) (x : ℕ) : Type 0 where
  number : ℕ
  is : o ≡ Some number
  more : x ≡ suc number

mapped : (o : Option ℕ) (x : ℕ) → option_map suc o ≡ Some x → IsMapped o x
mapped None x e = absurd (grind (arith, e))
mapped (Some y) x e = record { number = y; is = refl; more = sym (same_Some _ _ e) }

one_index : (w t : List ℕ) (ts : List (List ℕ)) (b : Test) → bytes_eq w t ≡ b
    → index_of w (t ∷ ts) ≡ (if b then Some 0 else option_map suc (index_of w ts))
one_index w t ts b e = ap (λ x. if x then Some 0 else option_map suc (index_of w ts)) e

zero_or_suc : (n : ℕ) → zero ≡ suc n → ⊥
zero_or_suc n e = grind (arith, e)

suc_same : (m n : ℕ) → suc m ≡ suc n → m ≡ n
suc_same m n e = grind (arith, e)

-- a name means at most one local
pub local_injective : {x y : ℕ} → meaning.Local x ≡ meaning.Local y → x ≡ y
local_injective e = grind arith

-- two names of one number are the same
pub index_same : (w u : List ℕ) (names : List (List ℕ)) (x : ℕ) → index_of w names ≡ Some x → index_of u names ≡ Some x
    → w ≡ u
index_same w u [] x e f = absurd (grind (arith, e))
index_same w u (t ∷ ts) x e f = go (λ y a b. index_same w u ts y a b) (bytes_eq w t) (bytes_eq u t) refl refl
  where
    go : ((y : ℕ) → index_of w ts ≡ Some y → index_of u ts ≡ Some y → w ≡ u) → (b c : Test) → bytes_eq w t ≡ b
        → bytes_eq u t ≡ c → w ≡ u
    go others true true b c = same_is w t b ∙ sym (same_is u t c)
    go others true false b c =
        let first = same_Some _ _ (sym (one_index w t ts true b) ∙ e) in
        let m = mapped (index_of u ts) x (sym (one_index u t ts false c) ∙ f) in
        absurd (zero_or_suc m.number (first ∙ m.more))
    go others false true b c =
        let first = same_Some _ _ (sym (one_index u t ts true c) ∙ f) in
        let m = mapped (index_of w ts) x (sym (one_index w t ts false b) ∙ e) in
        absurd (zero_or_suc m.number (first ∙ m.more))
    go others false false b c =
        let m = mapped (index_of w ts) x (sym (one_index w t ts false b) ∙ e) in
        let n = mapped (index_of u ts) x (sym (one_index u t ts false c) ∙ f) in
        others m.number m.is (n.is ∙ ap Some (sym (suc_same m.number n.number (sym m.more ∙ n.more))))

-- ---- environments

-- a local's current type after one was assigned: it is that one, or it is as it was
pub record IsOther (env : Env) (x y : ℕ) (u : Tree) : Type 0 where
  pub other : ¬ (y ≡ x)
  pub is : current env y ≡ Some u

pub assigned_cases : (env : Env) (x : ℕ) (t : Tree) (y : ℕ) (u : Tree) → current (assign env x t) y ≡ Some u
    → ((y ≡ x) × (u ≡ t)) ⊎ IsOther env x y u
assigned_cases [] x t y u e = absurd (grind (arith, e))
assigned_cases (s ∷ env) zero t zero u e = inl (refl, sym (same_Some _ _ e))
assigned_cases (s ∷ env) zero t (suc y) u e = inr (record { other = λ is. zero_or_suc y (sym is); is = e })
assigned_cases (s ∷ env) (suc x) t zero u e = inr (record { other = λ is. zero_or_suc x is; is = e })
assigned_cases (s ∷ env) (suc x) t (suc y) u e = elim (assigned_cases env x t y u e) [
  | inl a ↦ inl (ap suc a.0, a.1)
  | inr o ↦ inr (record { other = λ is. o.other (suc_same y x is); is = o.is })
]

module _ (bases : Bases) (names : List (List ℕ)) (declared : List Tree) where
  -- a local bound to a value of its declared type and of a current type
  pub assigned_holds : (k : HeapTyping) (env : Env) (frame : Frame) (word : List ℕ) (x : ℕ) (t : Tree) (v : Value)
      → index_of word names ≡ Some x → HasNames names frame → HasType bases k t v
      → HasType bases k (declared_type declared x) v → HasLocals bases k names declared env frame
      → HasLocals bases k names declared (assign env x t) (with_local word v frame)
  assigned_holds k env frame word x t v named has now always locals = record { each = each }
    where
      each : (w : List ℕ) (y : ℕ) (u : Tree) → index_of w names ≡ Some y → current (assign env x t) y ≡ Some u
          → HasLocal bases k declared (with_local word v frame) w y u
      each w y u is e = elim (assigned_cases env x t y u e) [
        | inl a ↦
            let same = index_same word w names x named (is ∙ ap Some a.0) in
            let old = has.held word x named in
            record {
              value = v;
              is = subst (λ z. local_by_name z (with_local word v frame) ≡ Some (Some v)) same
                  (local_bound word v frame old.value old.is);
              now = subst (λ z. HasType bases k z v) (sym a.1) now;
              always = subst (λ z. HasType bases k (declared_type declared z) v) (sym a.0) always;
            }
        | inr o ↦
            let l = locals.each w y u is o.is in
            let differ : ¬ (word ≡ w) = λ same. o.other (same_Some _ _ (sym is ∙ sym (ap (λ z. index_of z names) same)
            ∙ named)) in
            record { value = l.value; is = local_kept word w v frame differ ∙ l.is; now = l.now; always = l.always }
      ]

  -- a local whose value is of another type too
  pub narrowed_holds : (k : HeapTyping) (env : Env) (frame : Frame) (word : List ℕ) (x : ℕ) (s t : Tree)
      → index_of word names ≡ Some x → current env x ≡ Some s → ((v : Value) → local_by_name word frame ≡ Some (Some v)
      → HasType bases k s v → HasType bases k t v) → HasLocals bases k names declared env frame
      → HasLocals bases k names declared (assign env x t) frame
  narrowed_holds k env frame word x s t named was has locals = record { each = each }
    where
      each : (w : List ℕ) (y : ℕ) (u : Tree) → index_of w names ≡ Some y → current (assign env x t) y ≡ Some u
          → HasLocal bases k declared frame w y u
      each w y u is e = elim (assigned_cases env x t y u e) [
        | inl a ↦
            let l = locals.each word x s named was in
            let same = index_same word w names x named (is ∙ ap Some a.0) in
            record {
              value = l.value;
              is = subst (λ z. local_by_name z frame ≡ Some (Some l.value)) same l.is;
              now = subst (λ z. HasType bases k z l.value) (sym a.1) (has l.value l.is l.now);
              always = subst (λ z. HasType bases k (declared_type declared z) l.value) (sym a.0) l.always;
            }
        | inr o ↦ locals.each w y u is o.is
      ]

-- where no local is assigned, none has a current type
pub none_current : (n x : ℕ) (t : Tree) → current (none_assigned n) x ≡ Some t → ⊥
none_current zero x t e = grind (arith, e)
none_current (suc n) zero t e = grind (arith, e)
none_current (suc n) (suc x) t e = none_current n x t e
