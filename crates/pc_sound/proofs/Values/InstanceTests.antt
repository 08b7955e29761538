-- Tests of instances: the test of a run and the test in typing agree; a value passes one exactly if it passes the
-- other.
use Rattle.std.proofs.Common.{◌≡◌, ℕ, zero, suc, List, [], ◌∷◌, length, refl, sym, ap, ◌∙◌, subst, arith}
use Rattle.std.specs.Prelude.{Bool as Truth, true, false, Option, Some, None, slice_get}
use Rattle.std.proofs.lemmas.Option.{none-some, same_Some}
use Rattle.pc_scope.specs.declared.resolution.NameMeaning.TheVariants as meaning
use Rattle.pc_types.specs.Tree.{Int, Bool, Str}
use Rattle.pc_types.specs.Tree as tree
use Rattle.pc_types.specs.Below.{Bases, Below}
use Rattle.pc_class.specs.Facts as facts
use Rattle.pc_flow.specs.Environment.{Env}
use Rattle.pc_flow.specs.Narrowing.{Tested, for_type, for_list, test_named}
use Rattle.pc_rules.specs.Context.{Context}
use Rattle.pc_value.specs.Value.{Value, whole, boolean, string, location, Gives, Cell, list_cell, dict_cell}
use Rattle.pc_value.specs.Value.{instance_cell, Heap, is_list, seen_cell, class_seen}
use Rattle.pc_value.specs.Value as value
use Rattle.pc_machine.specs.State.{State, Class}
use Rattle.pc_machine.specs.Names.{meaning_in_run}
use Rattle.pc_machine.specs.Calls.{InstanceTest, tests_int, tests_str, tests_bool, tests_list, tests_class, test_of_meaning}
use Rattle.pc_machine.specs.Calls.{descends_from, class_at, passes}
use Rattle.pc_sound.specs.Values.{HeapTyping, Recorded, a_list, a_dict, a_class, IsInstance, CellHas, IsWell}
use Rattle.pc_sound.specs.KeptHeaps.{IsRecordedList, Passes}
use Rattle.pc_sound.proofs.Steps.Judgment.{Around, IsWellTyped}
use Rattle.pc_sound.proofs.Calls.CallRules.{MeansTest}
use Rattle.pc_sound.proofs.TruthValues.{not_both}

-- the ancestors of the classes made are those that are above them
pub record Descends (bases : Bases) (made : List Class) (c : ℕ) : Type 0 where
  pub below : (d : ℕ) → descends_from c (class_at made (Some d)) ≡ true → Below bases (tree.Class d) (tree.Class c)
  pub reached : (d : ℕ) → Below bases (tree.Class d) (tree.Class c) → descends_from c (class_at made (Some d)) ≡ true

-- a run tests for what types see
abbrev pub IsRight : Bases → List Class → Tested → InstanceTest → Type 0
IsRight bases made (for_type Int) tests_int = Unit {0}
IsRight bases made (for_type Bool) tests_bool = Unit {0}
IsRight bases made (for_type Str) tests_str = Unit {0}
IsRight bases made (for_type (tree.Class c)) (tests_class d) = (c ≡ d) × Descends bases made c
IsRight bases made for_list tests_list = Unit {0}
IsRight bases made _ _ = ⊥

-- where there are locals, each name that types see as a test is that test in a run; in an initializer there are none,
-- and
-- not all classes are made
pub record RightTests (around : Around) (ctx : Context) : Type 0 where
  pub means : MeansTest ctx
  pub right : (env : Env) (k : HeapTyping) (s : State) → IsWellTyped around env k s → (local : List ℕ) (x : ℕ)
      → ctx.resolve local ≡ meaning.Local x → (word : List ℕ) (test : Tested) → test_named (ctx.resolve word) ≡ Some test
      → (made : InstanceTest) → test_of_meaning word (meaning_in_run word s) ≡ Gives made
      → IsRight around.bases s.classes test made

-- a fact holds, or fails
abbrev pub AsTold : Truth → Type 0 → Type 0
AsTold true A = A
AsTold false A = ¬ A

-- a place in one list is one in each list as long
record Got {A : Type 0} (xs : List A) (i : ℕ) : Type 0 where
  element : A
  is : slice_get xs i ≡ Some element

got_too : {A B : Type 0} (xs : List A) (ys : List B) (i : ℕ) (y : B) → length xs ≡ length ys → slice_get ys i ≡ Some y
    → Got xs i
got_too xs [] i y e is = absurd (none-some _ is)
got_too [] (z ∷ ys) i y e is = absurd (omega arith)
got_too (x ∷ xs) (z ∷ ys) zero y e is = record { element = x; is = refl }
got_too (x ∷ xs) (z ∷ ys) (suc i) y e is = let g = got_too xs ys i y (omega arith) is in
    record { element = g.element; is = g.is }

module _ (bases : Bases) (classes : List facts.ClassFacts) (k : HeapTyping) (heap : Heap)
    (well : IsWell bases classes k heap) where
  -- the type recorded of a cell
  record Typed (l : ℕ) (c : Cell) : Type 0 where
    recorded : Recorded
    is : slice_get k l ≡ Some recorded
    has : CellHas bases classes k recorded c

  typed : (l : ℕ) (c : Cell) → slice_get heap l ≡ Some c → Typed l c
  typed l c e =
      let g = got_too k heap l c well.long e in
      let at = well.each l g.element g.is in
      record {
        recorded = g.element;
        is = g.is;
        has = subst (λ x. CellHas bases classes k g.element x)
            (same_Some _ _ (sym at.is ∙ e)) at.has;
      }

  list_recorded : (l : ℕ) (items : List Value) (r : Recorded) → slice_get k l ≡ Some r
      → CellHas bases classes k r (list_cell items) → IsRecordedList k l
  list_recorded l items (a_list t) is has = record { item = t; is = is }
  list_recorded l items (a_dict s t) is has = absurd has
  list_recorded l items (a_class c) is has = absurd has

  -- at a location where something else lies, no list and no instance of a class is recorded
  other_cell : (l : ℕ) (c : Cell) (r : Recorded) → slice_get heap l ≡ Some c → slice_get k l ≡ Some r
      → CellHas bases classes k r c
  other_cell l c r e is = let at = well.each l r is in subst (λ x. CellHas bases classes k r x)
      (same_Some _ _ (sym at.is ∙ e)) at.has

  no_cell : (l : ℕ) (r : Recorded) → slice_get heap l ≡ None → slice_get k l ≡ Some r → ⊥
  no_cell l r e is = let at = well.each l r is in none-some _ (sym e ∙ at.is)

  lists_agree : (l : ℕ) (o : Option Cell) → slice_get heap l ≡ o → (holds : Truth) → is_list (seen_cell l o) ≡ holds
      → AsTold holds (IsRecordedList k l)
  lists_agree l None e true is = absurd (not_both refl (sym is))
  lists_agree l None e false is = λ r. no_cell l (a_list r.item) e r.is
  lists_agree l (Some (list_cell items)) e true is = let t = typed l (list_cell items) e in
      list_recorded l items t.recorded t.is t.has
  lists_agree l (Some (list_cell items)) e false is = absurd (not_both refl is)
  lists_agree l (Some (dict_cell entries)) e true is = absurd (not_both refl (sym is))
  lists_agree l (Some (dict_cell entries)) e false is = λ r. other_cell l (dict_cell entries) (a_list r.item) e r.is
  lists_agree l (Some (instance_cell d slots)) e true is = absurd (not_both refl (sym is))
  lists_agree l (Some (instance_cell d slots)) e false is = λ r. other_cell l (instance_cell d slots) (a_list r.item) e
      r.is

  instance_recorded : (l c d : ℕ) (slots : List value.Slot) (r : Recorded) → slice_get k l ≡ Some r
      → CellHas bases classes k r (instance_cell d slots) → Below bases (tree.Class d) (tree.Class c)
      → IsInstance bases k l c
  instance_recorded l c d slots (a_class x) is has below = record {
    class = x;
    is = is;
    below =
        subst (λ y. Below bases (tree.Class y) (tree.Class c)) has.0 below;
  }
  instance_recorded l c d slots (a_list t) is has below = absurd has
  instance_recorded l c d slots (a_dict s t) is has below = absurd has

  module _ (made : List Class) (c : ℕ) (descends : Descends bases made c) where
    instances_agree : (l : ℕ) (o : Option Cell) → slice_get heap l ≡ o → (holds : Truth)
        → descends_from c (class_at made (class_seen (seen_cell l o))) ≡ holds → AsTold holds (IsInstance bases k l c)
    instances_agree l None e true is = absurd (not_both refl (sym is))
    instances_agree l None e false is = λ r. no_cell l (a_class r.class) e r.is
    instances_agree l (Some (list_cell items)) e true is = absurd (not_both refl (sym is))
    instances_agree l (Some (list_cell items)) e false is = λ r. other_cell l (list_cell items) (a_class r.class) e r.is
    instances_agree l (Some (dict_cell entries)) e true is = absurd (not_both refl (sym is))
    instances_agree l (Some (dict_cell entries)) e false is = λ r. other_cell l (dict_cell entries) (a_class r.class) e
        r.is
    instances_agree l (Some (instance_cell d slots)) e true is = let t = typed l (instance_cell d slots) e in
        instance_recorded l c d slots t.recorded t.is t.has (descends.below d is)
    instances_agree l (Some (instance_cell d slots)) e false is =
        λ r. not_both (descends.reached d (subst (λ y. Below bases (tree.Class y) (tree.Class c))
        (sym (other_cell l (instance_cell d slots) (a_class r.class) e r.is).0) r.below)) is

-- a value passes a test in a run where it does as types see it
pub passes_agree : (bases : Bases) (classes : List facts.ClassFacts) (k : HeapTyping) (s : State)
    → IsWell bases classes k s.heap → (test : Tested) (made : InstanceTest) (v : Value) → IsRight bases s.classes test made
    → (holds : Truth) → passes s v made ≡ holds → AsTold holds (Passes bases k test v)
passes_agree bases classes k s well (for_type Int) tests_int (whole n) right true e = tt
passes_agree bases classes k s well (for_type Int) tests_int (whole n) right false e = absurd (not_both refl e)
passes_agree bases classes k s well (for_type Int) tests_int (boolean b) right true e = tt
passes_agree bases classes k s well (for_type Int) tests_int (boolean b) right false e = absurd (not_both refl e)
passes_agree bases classes k s well (for_type Int) tests_int _ right true e = absurd (not_both refl (sym e))
passes_agree bases classes k s well (for_type Int) tests_int _ right false e = λ h. h
passes_agree bases classes k s well (for_type Bool) tests_bool (boolean b) right true e = tt
passes_agree bases classes k s well (for_type Bool) tests_bool (boolean b) right false e = absurd (not_both refl e)
passes_agree bases classes k s well (for_type Bool) tests_bool _ right true e = absurd (not_both refl (sym e))
passes_agree bases classes k s well (for_type Bool) tests_bool _ right false e = λ h. h
passes_agree bases classes k s well (for_type Str) tests_str (string cs) right true e = tt
passes_agree bases classes k s well (for_type Str) tests_str (string cs) right false e = absurd (not_both refl e)
passes_agree bases classes k s well (for_type Str) tests_str _ right true e = absurd (not_both refl (sym e))
passes_agree bases classes k s well (for_type Str) tests_str _ right false e = λ h. h
passes_agree bases classes k s well for_list tests_list (location l) right holds e = lists_agree bases classes k s.heap
    well l (slice_get s.heap l) refl holds e
passes_agree bases classes k s well for_list tests_list _ right true e = absurd (not_both refl (sym e))
passes_agree bases classes k s well for_list tests_list _ right false e = λ h. h
passes_agree bases classes k s well (for_type (tree.Class c)) (tests_class d) (location l) right holds e =
    instances_agree bases classes k s.heap well s.classes c right.1 l (slice_get s.heap l) refl holds
    (ap (λ x. descends_from x (class_at s.classes (class_seen (seen_cell l (slice_get s.heap l))))) right.0 ∙ e)
passes_agree bases classes k s well (for_type (tree.Class c)) (tests_class d) _ right true e =
    absurd (not_both refl (sym e))
passes_agree bases classes k s well (for_type (tree.Class c)) (tests_class d) _ right false e = λ h. h
passes_agree bases classes k s well _ _ v right holds e = absurd right
