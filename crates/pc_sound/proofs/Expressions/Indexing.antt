-- Reads by index are safe if their parts are: the item is of the type in the label, at a literal index into a tuple of
-- that very item's type.
use Rattle.std.proofs.Common.{◌≡◌, ℕ, zero, suc, List, [], ◌∷◌, map, length, refl, sym, ap, ◌∙◌, subst}
use Rattle.std.proofs.Common.{inl, inr, arith}
use Rattle.std.specs.Prelude.{◌⊎◌, Bool as Test, true, false, if◌then◌else◌, nat_lt, Option, Some, None, unwrap_or}
use Rattle.std.specs.Prelude.{slice_get, ℤ, pos}
use Rattle.std.proofs.lemmas.Option.{same_Some}
use Rattle.pc_source.specs.declared.place.Place.{Place}
use Rattle.pc_tree.specs.Tree.{Expr, number, index}
use Rattle.pc_tree.specs.Depth.{place_of}
use Rattle.pc_types.specs.Tree.{Tree, Trees, Int, Str, ListOf, DictOf, TupleOf, end, more}
use Rattle.pc_types.specs.Below.{Bases, AreSmaller}
use Rattle.pc_types.specs.Shape.{members, list_of_trees}
use Rattle.pc_class.specs.Facts as facts
use Rattle.pc_flow.specs.Environment.{Env, join_all}
use Rattle.pc_rules.specs.Operations.{offers_label, operand_types, index_member}
use Rattle.pc_rules.specs.Context.{Context, FlowsInto}
use Rattle.pc_rules.specs.Labels.{Labels, whole_label, type_of, Finds}
use Rattle.pc_rules.specs.Lawful.{Lawful, int_literal}
use Rattle.pc_value.specs.Value as value
use Rattle.pc_value.specs.Value.{Value, Values, Out, Gives, whole, boolean, string, tuple_of, location, no_values}
use Rattle.pc_value.specs.Value.{more_values, list_of, a_number, Heap, seen}
use Rattle.pc_value.specs.Actions as action
use Rattle.pc_value.specs.Numbers.{number_of_digits}
use Rattle.pc_value.specs.Containers.{index_among, at_index, item_numbered, gives_item, gives_character, item_outcome}
use Rattle.pc_machine.specs.State.{State}
use Rattle.pc_machine.specs.Steps.{Parts, value_out}
use Rattle.pc_machine.specs.Evaluation.{eval_node, eval_over, steps}
use Rattle.pc_machine.specs.Free.{Step, free}
use Rattle.pc_sound.specs.Values.{HeapTyping, HasType, HaveTypes, AllHave, IsWell}
use Rattle.pc_sound.specs.Ends.{EndsWell}
use Rattle.pc_sound.proofs.Steps.Judgment.{HasListed, Around, IsWellTyped, KeepsState, IsSafe, IsContextOf, kept_with}
use Rattle.pc_sound.proofs.Lists.{not_empty}
use Rattle.pc_sound.proofs.Values.ValuesFlow.{later, of_static}
use Rattle.pc_sound.proofs.Steps.SafeSteps.{bind_safe, emits_safe, act_safe, gives_injective, gives_not_stops}
use Rattle.pc_sound.proofs.Regular.KeyedLabels.{IsKeyed, Keyed, keyed_type, keyed_members}
use Rattle.pc_sound.proofs.Expressions.SimpleExpressions.{Covered, GoodEval, allowed, part}
use Rattle.pc_sound.proofs.Values.Flows.{Evaluates}
use Rattle.pc_sound.proofs.Values.Narrowing.{HasSome}
use Rattle.pc_sound.proofs.Values.Joins.{all_hold}
use Rattle.pc_sound.proofs.Heap.Dicts.{dict_item_has}
use Rattle.pc_sound.proofs.Heap.SeenValues.{sees_list}
use Rattle.pc_sound.proofs.Heap.HeapActions.{outcome_ends}
use Rattle.pc_sound.proofs.Values.UnionMembers.{ends_more, HasEach, each_later, offers_end_where}
use Rattle.pc_sound.proofs.Values.SeveralFlows.{flows_safe}

-- ---- steps of which more is known

-- a fact of each value that a step comes to, besides those that safety gives
pub also_safe : (around : Around) (env : Env) {A : Type 0} (known : HeapTyping → Type 0) (m : Step A)
    (P : HeapTyping → A → Type 0) (Q : A → Type 0) → ((s s' : State) (events : List Place) (a : A)
    → m s events (Gives a) s' → Q a) → IsSafe around env known m P → IsSafe around env known m (λ k a. P k a × Q a)
also_safe around env {A} known m P Q fact safe = record { run = go }
  where
    both : (k : HeapTyping) (s s' : State) (events : List Place) (o : Out A) → m s events o s' → EndsWell (P k) o
        → EndsWell (λ a. P k a × Q a) o
    both k s s' events (Gives a) r e = (e, fact s s' events a r)
    both k s s' events (value.Stops (value.Raised x)) r e = e
    both k s s' events (value.Stops value.Outside) r e = e
    both k s s' events (value.Stops value.Other) r e = e
    both k s s' events (value.Stops value.Cut) r e = e

    go : (k : HeapTyping) (s s' : State) (events : List Place) (o : Out A) → known k → IsWellTyped around env k s
        → m s events o s' → HasListed around.listed events ⊎ KeepsState around (λ k a. P k a × Q a) k s o s'
    go k s s' events o knows st r = elim (safe.run k s s' events o knows st r) [
      | inl l ↦ inl l
      | inr kept ↦ inr (kept_with kept (both kept.typing s s' events o r kept.ends))
    ]

-- ---- an int literal as an index

-- a number as it is written comes to that number
pub record ReadsNumbers (eval : Expr → Step Value) : Type 0 where
  pub number : (p : Place) (digits : List ℕ) (s s' : State) (events : List Place) (v : Value)
      → eval (number p digits) s events (Gives v) s' → v ≡ whole (number_of_digits digits)

-- a value is the number of the literal, if the index is one
abbrev IsLiteral : Option ℕ → Value → Type 0
IsLiteral literal v = (i : ℕ) → literal ≡ Some i → v ≡ whole (pos i)

literal_value : (eval : Expr → Step Value) → ReadsNumbers eval → (e : Expr) (s s' : State) (events : List Place)
    (v : Value) → eval e s events (Gives v) s' → IsLiteral (int_literal e) v
literal_value eval reads (number p digits) s s' events v r i is = reads.number p digits s s' events v r
    ∙ ap (λ n. whole (pos n)) (same_Some _ _ is)
literal_value eval reads _ s s' events v r i is = absurd (grind (arith, is))

-- ---- items

module _ (bases : Bases) (k : HeapTyping) where
  list_item : (t : Tree) (items : List Value) (i : ℕ) → AllHave bases k t items
      → EndsWell (λ w. HasType bases k t w) (value_out (gives_item (slice_get items i)))
  list_item t [] i h = tt
  list_item t (v ∷ vs) zero h = h.0
  list_item t (v ∷ vs) (suc i) h = list_item t vs i h.1

  list_at : (t : Tree) (items : List Value) (o : Option ℕ) → AllHave bases k t items
      → EndsWell (λ w. HasType bases k t w) (value_out (gives_item (at_index items o)))
  list_at t items None h = tt
  list_at t items (Some i) h = list_item t items i h

  -- an item of a tuple is of one of its types
  some_item : (ts : Trees) (vs : Values) (i : ℕ) → HaveTypes bases k ts vs
      → EndsWell (λ w. HasSome bases k (list_of_trees ts) w) (value_out (gives_item (slice_get (list_of vs) i)))
  some_item end no_values i h = tt
  some_item (more t ts) (more_values v vs) zero h = inl h.0
  some_item (more t ts) (more_values v vs) (suc i) h =
      ends_more (λ w. HasSome bases k (list_of_trees ts) w) (λ w. HasSome bases k (t ∷ list_of_trees ts) w)
      (λ w x. inr x) (value_out (gives_item (slice_get (list_of vs) i))) (some_item ts vs i h.1)
  some_item end (more_values v vs) i h = absurd h
  some_item (more t ts) no_values i h = absurd h

  some_at : (ts : Trees) (vs : Values) (o : Option ℕ) → HaveTypes bases k ts vs
      → EndsWell (λ w. HasSome bases k (list_of_trees ts) w) (value_out (gives_item (at_index (list_of vs) o)))
  some_at ts vs None h = tt
  some_at ts vs (Some i) h = some_item ts vs i h

  -- the item at a place of a tuple is of the type there
  that_item : (ts : Trees) (vs : Values) (i : ℕ) (other : Tree) → HaveTypes bases k ts vs
      → EndsWell (λ w. HasType bases k (unwrap_or (slice_get (list_of_trees ts) i) other) w)
      (value_out (gives_item (slice_get (list_of vs) i)))
  that_item end no_values i other h = tt
  that_item (more t ts) (more_values v vs) zero other h = h.0
  that_item (more t ts) (more_values v vs) (suc i) other h = that_item ts vs i other h.1
  that_item end (more_values v vs) i other h = absurd h
  that_item (more t ts) no_values i other h = absurd h

  that_at : (ts : Trees) (vs : Values) (i : ℕ) (other : Tree) (x : Test) → HaveTypes bases k ts vs
      → EndsWell (λ w. HasType bases k (unwrap_or (slice_get (list_of_trees ts) i) other) w)
      (value_out (gives_item (at_index (list_of vs) (if x then Some i else None))))
  that_at ts vs i other true h = that_item ts vs i other h
  that_at ts vs i other false h = tt

  character_ends : (o : Option ℕ) → EndsWell (λ w. HasType bases k Str w) (value_out (gives_character o))
  character_ends None = tt
  character_ends (Some c) = tt

  module _ (classes : List facts.ClassFacts) (heap : Heap) (well : IsWell bases classes k heap)
      (ordered : AreSmaller bases) where
    -- the number that an int is seen as
    record IsNumber (v : Value) : Type 0 where
      number : ℤ
      is : seen heap v ≡ a_number number

    number_seen : (v : Value) → HasType bases k Int v → IsNumber v
    number_seen (whole n) h = record { number = n; is = refl }
    number_seen (boolean b) h = record { number = _; is = refl }
    number_seen _ h = absurd h

    tuple_ends : (literal : Option ℕ) (ts : Trees) (vs : Values) (key : Value) → HaveTypes bases k ts vs
        → HasType bases k Int key → IsLiteral literal key → EndsWell
        (λ w. HasType bases k (index_member bases literal (TupleOf ts)).gives w)
        (value_out (item_outcome (value.a_tuple vs) (seen heap key)))
    tuple_ends None ts vs key h hk is =
        let n = number_seen key hk in
        subst (λ s. EndsWell (λ w. HasType bases k (join_all bases (list_of_trees ts)) w)
        (value_out (item_outcome (value.a_tuple vs) s))) (sym n.is)
        (ends_more (λ w. HasSome bases k (list_of_trees ts) w) (λ w. HasType bases k (join_all bases (list_of_trees ts))
        w) (λ w x. all_hold bases ordered k (list_of_trees ts) w x)
        (value_out (gives_item (item_numbered (list_of vs) n.number)))
        (some_at ts vs (index_among (length (list_of vs)) n.number) h))
    tuple_ends (Some i) ts vs key h hk is =
        subst
        (λ x. EndsWell (λ w. HasType bases k (unwrap_or (slice_get (list_of_trees ts) i)
        (join_all bases (list_of_trees ts))) w) (value_out (item_outcome (value.a_tuple vs) (seen heap x))))
        (sym (is i refl))
        (that_at ts vs i (join_all bases (list_of_trees ts)) (nat_lt i (length (list_of vs))) h)

    text_ends : (cs : List ℕ) (key : Value) → HasType bases k Int key
        → EndsWell (λ w. HasType bases k Str w) (value_out (item_outcome (value.a_text cs) (seen heap key)))
    text_ends cs key hk = let n = number_seen key hk in subst (λ s. EndsWell (λ w. HasType bases k Str w)
        (value_out (item_outcome (value.a_text cs) s))) (sym n.is) (character_ends (item_numbered cs n.number))

    list_ends : (l : ℕ) (t : Tree) (key : Value) → HasType bases k (ListOf t) (location l) → HasType bases k Int key
        → EndsWell (λ w. HasType bases k t w) (value_out (item_outcome (seen heap (location l)) (seen heap key)))
    list_ends l t key h hk =
        let n = number_seen key hk in
        let c = sees_list bases classes k heap well l t h in
        subst (λ s. EndsWell (λ w. HasType bases k t w) (value_out (item_outcome (seen heap (location l)) s)))
        (sym n.is)
        (subst (λ s. EndsWell (λ w. HasType bases k t w) (value_out (item_outcome s (a_number n.number))))
        (sym c.seen_as)
        (ends_more (λ w. HasType bases k c.item w) (λ w. HasType bases k t w)
        (λ w x. of_static bases k c.item t c.equal.to w x)
        (value_out (gives_item (item_numbered c.items n.number)))
        (list_at c.item c.items (index_among (length c.items) n.number) c.have)))

    index_ends : (literal : Option ℕ) (n : Tree) (v key : Value) → IsKeyed n → HasType bases k n v
        → (index_member bases literal n).found ≡ [] → HasEach bases k (index_member bases literal n).takes key
        → IsLiteral literal key → EndsWell (λ w. HasType bases k (index_member bases literal n).gives w)
        (value_out (item_outcome (seen heap v) (seen heap key)))
    index_ends literal (ListOf t) (location l) key keyed h e each is = list_ends l t key h each.0
    index_ends literal Str (string cs) key keyed h e each is = text_ends cs key each.0
    index_ends literal (TupleOf ts) (tuple_of vs) key keyed h e each is = tuple_ends literal ts vs key h each.0 is
    index_ends literal (DictOf s t) v key keyed h e each is = outcome_ends bases k t
        (item_outcome (seen heap v) (seen heap key)) (dict_item_has bases classes k heap s t v key keyed.0 well h
        each.0)
    index_ends literal (ListOf t) _ key keyed h e each is = absurd h
    index_ends literal Str _ key keyed h e each is = absurd h
    index_ends literal (TupleOf ts) _ key keyed h e each is = absurd h
    index_ends literal _ v key keyed h e each is = absurd (not_empty e)

module _ (around : Around) (ctx : Context) (fits : IsContextOf around ctx) (parts : Parts Step)
    (good : GoodEval around ctx parts.eval) (evaluates : (e : Expr) → Evaluates (place_of e) (parts.eval e))
    (reads : ReadsNumbers parts.eval) (env : Env) where
  pub index_safe : (want : Option Tree) (p : Place) (e i : Expr) (m : Labels (index p e i))
      → Lawful ctx around.declared env want (index p e i) m → Covered around (Finds (index p e i) m)
      → Keyed (index p e i) m → IsSafe around env (λ k. Unit {0}) (eval_node Step free parts (index p e i))
      (λ k v. HasType around.bases k m.here.type v)
  index_safe want p e i m law covered keyed =
      let object = type_of e m.object in
      let key = type_of i m.key in
      let literal = int_literal i in
      let types = operand_types (map (index_member around.bases literal) (members object)) in
      let here : m.here ≡ offers_label around.bases (map (index_member around.bases literal) (members object)) =
      subst (λ b. m.here ≡ offers_label b (map (index_member b literal) (members object))) (sym fits.bases)
      law.here in
      bind_safe around env _ _ _ (λ k v. HasType around.bases k object v) _ (λ k k' x h. tt)
      (part around ctx parts good env _ None e m.object law.object (λ f h. covered f (inr (inr (inl h)))) keyed.1.0)
      λ v. bind_safe around env _ _ _ (λ k w. (HasType around.bases k key w × HasEach around.bases k types w)
      × IsLiteral literal w) _ (λ k k' x h. (tt, later around.bases x object v h.1))
      (also_safe around env _ (parts.eval i) (λ k w. HasType around.bases k key w × HasEach around.bases k types w)
      (IsLiteral literal) (literal_value parts.eval reads i)
      (flows_safe around ctx parts.eval good evaluates env _ None i m.key types m.flows law.key
      (λ f h. covered f (inr (inr (inr h))))
      (subst (λ b. FlowsInto b (whole_label i m.key) (operand_types (map (index_member b literal) (members object)))
      m.flows) (sym fits.bases) law.flows) (λ f h. covered f (inr (inl h))) keyed.1.1))
      λ w. bind_safe around env _ _ _ (λ k u. m.here.codes ≡ []) _
      (λ k k' x h. (
        (tt, later around.bases x object v h.0.1),
        ((later around.bases x key w h.1.0.0, each_later around.bases x types w h.1.0.1), h.1.1),
      ))
      (emits_safe around env _ p m.here.codes (allowed around p m.here.codes (λ f h. covered f (inl h))))
      λ u. act_safe around env _ value_out (action.read_item v w) _ λ f k s h st. (
        refl,
        offers_end_where around.bases k fits.smaller IsKeyed m.here (index_member around.bases literal) object v
            (keyed_members object (keyed_type e m.object keyed.1.0)) here h.1 h.0.0.1
            (value_out (item_outcome (seen s.heap v) (seen s.heap w)))
            λ n keys x found takes. index_ends around.bases k around.classes s.heap st.well fits.smaller literal n v w
            keys x found (takes w h.0.1.0.1) h.0.1.1,
      )

-- ---- numbers as they are written, over any number of nested steps

number_read : (p : Place) (parts : Parts Step) (digits : List ℕ) (s s' : State) (events : List Place) (v : Value)
    → eval_node Step free parts (number p digits) s events (Gives v) s' → v ≡ whole (number_of_digits digits)
number_read p parts digits s s' events v (inl r) = elim r.after [
  | inl a ↦ gives_injective a.is
  | inr a ↦
      elim a [ inl b ↦ absurd (gives_not_stops b.is) | inr b ↦ absurd (gives_not_stops b.is) ]
]
number_read p parts digits s s' events v (inr r) = absurd (gives_not_stops r.is)

over_reads : (parts : Parts Step) → ReadsNumbers (eval_over Step free parts)
over_reads parts = record {
  number = λ p digits s s' events v r.
      elim r [
        | inl w ↦ number_read p parts digits w.middle s' w.late v w.after
        | inr w ↦ absurd (gives_not_stops w.is)
      ];
}

pub steps_read_numbers : (n : ℕ) → ReadsNumbers (steps Step free n).eval
steps_read_numbers zero = record { number = λ p digits s s' events v r. absurd (gives_not_stops r.is) }
steps_read_numbers (suc n) = over_reads (steps Step free n)
