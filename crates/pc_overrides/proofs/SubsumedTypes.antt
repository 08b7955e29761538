-- Types that subsume others: if a type is static to one that it subsumes, whatever is good against the former is good
-- against the latter.
use Rattle.std.proofs.Common.{◌≡◌, ◌↔◌, refl, sym, ap, ◌∙◌, subst}
use Rattle.std.specs.Prelude.{IsTrue}
use Rattle.pc_types.specs.Tree.{Tree, Trees, Any, Object, Never, ListOf, TupleOf}
use Rattle.pc_types.specs.Below.{Bases, Below, AreSmaller, Static, through}
use Rattle.pc_types.specs.Below.{never as below_never, object as below_object}
use Rattle.pc_types.specs.Assignable.{IsPlain, ArePlain, Materializes, FillsEach, Assignable}
use Rattle.pc_types.specs.Assignable as fill
use Rattle.pc_types.specs.Normal.{IsNormal}
use Rattle.pc_types.proofs.Consistent.{static_assignable}
use Rattle.pc_types.proofs.DecidedSubtyping.{static_decided, assignable_decided}
use Rattle.pc_overrides.specs.declared.overriding.Relation.{Relation}
use Rattle.pc_overrides.specs.declared.overriding.Relation.TheVariants as relations
use Rattle.pc_overrides.specs.Internal.OverrideTests.{flow_fits}
use Rattle.pc_overrides.specs.Internal.Representing.{TypeSubsumes, plain, unknown, same as alike}

-- ---- types without Any

mutual
  fills_plain : {t u : Tree} → Materializes t u → IsPlain t → u ≡ t
  fills_plain (fill.any p) h = absurd h
  fills_plain fill.object h = refl
  fills_plain fill.never h = refl
  fills_plain fill.int h = refl
  fills_plain fill.bool h = refl
  fills_plain fill.str h = refl
  fills_plain fill.none_type h = refl
  fills_plain fill.class h = refl
  fills_plain (fill.list f) h = ap ListOf (fills_plain f h)
  fills_plain (fill.dict f g) h = let a = fills_plain f h.0 in let b = fills_plain g h.1 in cc
  fills_plain (fill.tuple f) h = ap TupleOf (fills_each f h)
  fills_plain (fill.union f g) h = let a = fills_plain f h.0 in let b = fills_plain g h.1 in cc

  fills_each : {ts us : Trees} → FillsEach ts us → ArePlain ts → us ≡ ts
  fills_each fill.none h = refl
  fills_each (fill.one f g) h = let a = fills_plain f h.0 in let b = fills_each g h.1 in cc

-- ---- types that subsume others

module _ (bases : Bases) where
  -- whatever is good against a type is good against each that the type subsumes and is static to
  subsumed_from : (z new old : Tree) → TypeSubsumes new old → Static bases new old → Assignable bases z new
      → Assignable bases z old
  subsumed_from z new old (plain p) s h =
      let a = static_assignable bases new old s in record {
        filled_left = h.filled_left;
        filled_right = a.filled_right;
        fills_left = h.fills_left;
        fills_right = a.fills_right;
        is_below = through (subst (Below bases h.filled_left) (fills_plain h.fills_right p
            ∙ sym (fills_plain a.fills_left p)) h.is_below) a.is_below;
      }
  subsumed_from z new old (unknown e) s h =
      let a = static_assignable bases z Object below_object in subst (Assignable bases z) (sym e) (record {
        filled_left = a.filled_left;
        filled_right = a.filled_right;
        fills_left = a.fills_left;
        fills_right = subst (Materializes Any) (sym (fills_plain a.fills_right tt)) (fill.any tt);
        is_below = a.is_below;
      })
  subsumed_from z new old (alike e) s h = subst (Assignable bases z) e h

  -- a type that another subsumes, and that is static to the other, is good against whatever the other is
  subsumed_into : (z new old : Tree) → TypeSubsumes new old → Static bases old new → Assignable bases new z
      → Assignable bases old z
  subsumed_into z new old (plain p) s h =
      let a = static_assignable bases old new s in record {
        filled_left = a.filled_left;
        filled_right = h.filled_right;
        fills_left = a.fills_left;
        fills_right = h.fills_right;
        is_below = through a.is_below (subst (λ t. Below bases t h.filled_right) (fills_plain h.fills_left p
            ∙ sym (fills_plain a.fills_right p)) h.is_below);
      }
  subsumed_into z new old (unknown e) s h =
      let a = static_assignable bases Never z below_never in subst (λ t. Assignable bases t z) (sym e) (record {
        filled_left = a.filled_left;
        filled_right = a.filled_right;
        fills_left = subst (Materializes Any) (sym (fills_plain a.fills_left tt)) (fill.any tt);
        fills_right = a.fills_right;
        is_below = a.is_below;
      })
  subsumed_into z new old (alike e) s h = subst (λ t. Assignable bases t z) e h

  -- ---- flows

  -- three types in normal form
  module _ (o : AreSmaller bases) (z new old : Tree) (n : IsNormal z) (m : IsNormal new) (l : IsNormal old) where
    static_is : (s t : Tree) → IsNormal s → IsNormal t
        → IsTrue (flow_fits relations.Static bases (record { from = s; into = t })) ↔ Static bases s t
    static_is s t a b = static_decided bases s t o a b

    good_is : (s t : Tree) → IsNormal s → IsNormal t
        → IsTrue (flow_fits relations.Assignable bases (record { from = s; into = t })) ↔ Assignable bases s t
    good_is s t a b = assignable_decided bases s t o a b

    -- whatever flows into a type flows into each that the type subsumes and is static to
    pub flows_from : (relation : Relation) → TypeSubsumes new old
        → IsTrue (flow_fits relations.Static bases (record { from = new; into = old }))
        → IsTrue (flow_fits relation bases (record { from = z; into = new }))
        → IsTrue (flow_fits relation bases (record { from = z; into = old }))
    flows_from relations.Static s e h = (static_is z old n l).1
        (through ((static_is z new n m).0 h) ((static_is new old m l).0 e))
    flows_from relations.Assignable s e h = (good_is z old n l).1
        (subsumed_from z new old s ((static_is new old m l).0 e) ((good_is z new n m).0 h))

    -- a type that another subsumes, and that is static to the other, flows into whatever the other does
    pub flows_into : (relation : Relation) → TypeSubsumes new old
        → IsTrue (flow_fits relations.Static bases (record { from = old; into = new }))
        → IsTrue (flow_fits relation bases (record { from = new; into = z }))
        → IsTrue (flow_fits relation bases (record { from = old; into = z }))
    flows_into relations.Static s e h = (static_is old z l n).1
        (through ((static_is old new l m).0 e) ((static_is new z m n).0 h))
    flows_into relations.Assignable s e h = (good_is old z l n).1
        (subsumed_into z new old s ((static_is old new l m).0 e) ((good_is new z m n).0 h))
