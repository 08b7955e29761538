-- If a type is not static to another one, some value of the first is not of the second, under each heap typing that
-- records everything that values of the first refer to.
use Rattle.std.proofs.Common.{◌≡◌, suc, sym, inl, inr, arith}
use Rattle.pc_types.specs.Tree.{Tree, Trees, Any, Object, Never, Int, Bool, Str, NoneType, Class, ListOf, DictOf}
use Rattle.pc_types.specs.Tree.{TupleOf, Union, end, more, erase_each}
use Rattle.pc_types.specs.Below.{Bases, AreSmaller, EachBelow, Static, through, both, tuple, one}
use Rattle.pc_types.specs.Below as below
use Rattle.pc_types.specs.Shape.{count}
use Rattle.pc_types.specs.Normal.{IsNormal, AreNormal}
use Rattle.pc_types.proofs.DecidedSubtyping.{decide_static}
use Rattle.pc_value.specs.Value.{Value, Values, tuple_of, more_values}
use Rattle.pc_sound.specs.Values.{HeapTyping, HasType, HaveTypes}
use Rattle.pc_sound.specs.Needed.{HasNoNever, HaveNoNever}
use Rattle.pc_sound.proofs.Values.Requirements.{required, required_by_each, Records, records_first, records_second}
use Rattle.pc_sound.proofs.Values.Inhabitants.{any_value, any_values, Telling, telling_int, telling_bool, telling_str}
use Rattle.pc_sound.proofs.Values.Inhabitants.{telling_none, telling_class, telling_list, telling_dict}
use Rattle.pc_sound.proofs.Values.TupleMembers.{size, nones, size-nones, longest, longest_bounds, have_count, tuples_of}

module _ (bases : Bases) (ordered : AreSmaller bases) (k : HeapTyping) where
  -- a value of the first type that is not of the second
  pub record Difference (s t : Tree) : Type 0 where
    pub value : Value
    pub of_first : HasType bases k s value
    pub not_second : HasType bases k t value → ⊥

  -- values of the first types that are not of the second
  pub record Differences (ss ts : Trees) : Type 0 where
    pub values : Values
    pub of_first : HaveTypes bases k ss values
    pub not_second : HaveTypes bases k ts values → ⊥

  -- a telling value is of no type to which its own is not static
  by_telling : (s t : Tree) → Telling bases k s → (Static bases s t → ⊥) → Difference s t
  by_telling s t v dynamic = record { value = v.value; of_first = v.has; not_second = λ h. dynamic (v.tells t h) }

  -- a tuple that is longer than each member of the second
  by_length : (s t : Tree) → ((v : Value) → HasType bases k s v) → (Static bases s t → ⊥) → Difference s t
  by_length s t all dynamic = elim (longest_bounds bases k t) [
    | inl top ↦ absurd (dynamic (top s))
    | inr bound ↦ record {
      value = tuple_of (nones (suc (longest t)));
      of_first = all (tuple_of (nones (suc (longest t))));
      not_second = λ h. absurd (omega (arith, bound (nones (suc (longest t))) h, size-nones (suc (longest t))));
    }
  ]

  mutual
    -- of two types the first of which is not static to the second
    pub difference :
        (s t : Tree) → IsNormal s → IsNormal t → HasNoNever s → Records k (required s) → (Static bases s t → ⊥)
        → Difference s t
    difference Any t ns nt n r dynamic = by_length Any t (λ v. tt) dynamic
    difference Object t ns nt n r dynamic = by_length Object t (λ v. tt) dynamic
    difference Never t ns nt n r dynamic = absurd n
    difference Int t ns nt n r dynamic = by_telling Int t (telling_int bases k) dynamic
    difference Bool t ns nt n r dynamic = by_telling Bool t (telling_bool bases k) dynamic
    difference Str t ns nt n r dynamic = by_telling Str t (telling_str bases k) dynamic
    difference NoneType t ns nt n r dynamic = by_telling NoneType t (telling_none bases k) dynamic
    difference (Class c) t ns nt n r dynamic = by_telling (Class c) t (telling_class bases k c r) dynamic
    difference (ListOf u) t ns nt n r dynamic = by_telling (ListOf u) t (telling_list bases k u r) dynamic
    difference (DictOf j v) t ns nt n r dynamic = by_telling (DictOf j v) t (telling_dict bases k j v r) dynamic
    difference (TupleOf ss) t ns nt n r dynamic = elim (tuples_of bases k (count ss) t nt) [
      | inl top ↦ absurd (dynamic (top (TupleOf ss)))
      | inr rest ↦ elim rest [
        | inl lacks ↦
            let v = any_values bases k ss n r in
            record {
              value = tuple_of v.values;
              of_first = v.have;
              not_second = λ h. lacks v.values (sym (have_count bases k ss v.values v.have)) h;
            }
        | inr m ↦
            let v = differences ss m.parts ns m.normal n r (sym m.long) (λ e. dynamic (through (tuple e) m.below)) in
            let long : size v.values ≡ count ss = sym (have_count bases k ss v.values v.of_first) in
            record {
              value = tuple_of v.values;
              of_first = v.of_first;
              not_second = λ h. v.not_second (m.only v.values long h);
            }
      ]
    ]
    difference (Union a b) t ns nt n r dynamic = elim (decide_static bases ordered a t ns.1 nt) [
      | inl holds ↦
          let rest = records_second (required a) (required b) r in
          let v = difference b t ns.2 nt n.1 rest (λ e. dynamic (both holds e)) in
          record { value = v.value; of_first = inr v.of_first; not_second = v.not_second }
      | inr fails ↦
          let v = difference a t ns.1 nt n.0 (records_first (required a) (required b) r) fails in
          record { value = v.value; of_first = inl v.of_first; not_second = v.not_second }
    ]

    -- of the parts of two tuples of one length, some of which is not static to its fellow
    differences :
        (ss ts : Trees) → AreNormal ss → AreNormal ts → HaveNoNever ss → Records k (required_by_each ss)
        → count ss ≡ count ts → (EachBelow bases (erase_each ss) (erase_each ts) → ⊥) → Differences ss ts
    differences end end ns nt n r e dynamic = absurd (dynamic below.none)
    differences end (more t ts) ns nt n r e dynamic = absurd (omega (arith, e))
    differences (more s ss) end ns nt n r e dynamic = absurd (omega (arith, e))
    differences (more s ss) (more t ts) ns nt n r e dynamic =
        let first = records_first (required s) (required_by_each ss) r in
        let rest = records_second (required s) (required_by_each ss) r in
        elim (decide_static bases ordered s t ns.0 nt.0) [
          | inl holds ↦
              let v = any_value bases k s n.0 first in
              let vs = differences ss ts ns.1 nt.1 n.1 rest (omega (arith, e)) (λ f. dynamic (one holds f)) in
              record {
                values = more_values v.value vs.values;
                of_first = (v.has, vs.of_first);
                not_second = λ h. vs.not_second h.1;
              }
          | inr fails ↦
              let v = difference s t ns.0 nt.0 n.0 first fails in
              let vs = any_values bases k ss n.1 rest in
              record {
                values = more_values v.value vs.values;
                of_first = (v.of_first, vs.have);
                not_second = λ h. v.not_second h.0;
              }
        ]
