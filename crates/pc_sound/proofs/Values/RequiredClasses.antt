-- Values of types that name only classes below a bound refer only to such classes.
use Rattle.std.proofs.Common.{◌≡◌, ◌<◌, ℕ, zero, suc, List, [], ◌∷◌, ◌++◌, subst}
use Rattle.std.specs.Prelude.{Some, slice_get}
use Rattle.std.proofs.lemmas.Option.{none-some, same_Some}
use Rattle.pc_types.specs.Tree.{Tree, Trees, Class, ListOf, DictOf, TupleOf, Union, end, more}
use Rattle.pc_class.specs.Facts.{ClassFacts, TypedParameter, class_facts_at}
use Rattle.pc_sound.specs.Values.{Recorded, a_list, a_dict, a_class}
use Rattle.pc_sound.proofs.Values.Requirements.{required, required_by_each, required_by_fields, required_by_classes}
use Rattle.pc_sound.proofs.Regular.RegularParts.{classes_below, IsRegular, AreRegular}
use Rattle.pc_sound.proofs.Regular.RegularCalls.{ParametersRegular}

module _ (bound : ℕ) where
  -- a class that is recorded is below the bound
  abbrev RecordBelow : Recorded → Type 0
  RecordBelow (a_class c) = c < bound
  RecordBelow (a_list t) = Unit {0}
  RecordBelow (a_dict s t) = Unit {0}

  -- each recorded class is below the bound
  abbrev pub AllBelow : List Recorded → Type 0
  AllBelow [] = Unit {0}
  AllBelow (r ∷ rs) = RecordBelow r × AllBelow rs

  pub below_append : (rs qs : List Recorded) → AllBelow rs → AllBelow qs → AllBelow (rs ++ qs)
  below_append [] qs h k = k
  below_append (r ∷ rs) qs h k = (h.0, below_append rs qs h.1 k)

  pub below_at : (rs : List Recorded) (l c : ℕ) → AllBelow rs → slice_get rs l ≡ Some (a_class c) → c < bound
  below_at [] l c h e = absurd (none-some _ e)
  below_at (r ∷ rs) zero c h e = subst RecordBelow (same_Some _ _ e) h.0
  below_at (r ∷ rs) (suc l) c h e = below_at rs l c h.1 e

  mutual
    pub required_below : (t : Tree) → IsRegular (classes_below bound) t → AllBelow (required t)
    required_below (Class c) h = (h, tt)
    required_below (ListOf t) h = (tt, tt)
    required_below (DictOf s t) h = (tt, tt)
    required_below (TupleOf ts) h = each_below ts h
    required_below (Union a b) h = below_append (required a) (required b) (required_below a h.0) (required_below b h.1)
    required_below _ h = tt

    each_below : (ts : Trees) → AreRegular (classes_below bound) ts → AllBelow (required_by_each ts)
    each_below end h = tt
    each_below (more t ts) h = below_append (required t) (required_by_each ts) (required_below t h.0)
        (each_below ts h.1)

  fields_below : (fs : List TypedParameter) → ParametersRegular (classes_below bound) fs
      → AllBelow (required_by_fields fs)
  fields_below [] h = tt
  fields_below (f ∷ fs) h = below_append (required f.type) (required_by_fields fs) (required_below f.type h.0)
      (fields_below fs h.1)

  pub classes_below_bound : (cs : List ClassFacts) → ((c : ℕ) → ParametersRegular (classes_below bound)
      (class_facts_at cs c).fields) → AllBelow (required_by_classes cs)
  classes_below_bound [] h = tt
  classes_below_bound (c ∷ cs) h = below_append (required_by_fields c.fields) (required_by_classes cs)
      (fields_below c.fields (h 0)) (classes_below_bound cs (λ i. h (suc i)))
