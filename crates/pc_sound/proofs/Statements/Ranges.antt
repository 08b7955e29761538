-- The iterable of a `for`: a value, or `range(..)` with an int as its argument.
use Rattle.std.proofs.Common.{◌≡◌, ℕ, List, [], ◌∷◌, map, refl, sym, ap, ◌∙◌, subst, inl, inr, arith, Contains}
use Rattle.std.proofs.Common.{true≢false}
use Rattle.std.specs.Prelude.{◌⊎◌, Bool as Test, true, false, if◌then◌else◌, flat_map, slice_get, codes}
use Rattle.std.proofs.lemmas.Slice.Eq.{bytes_eq-Decides}
use Rattle.pc_source.specs.declared.place.Place.{Place}
use Rattle.pc_tree.specs.declared.code.Code.{Code}
use Rattle.pc_tree.specs.declared.code.Code.TheVariants.{A5, E14}
use Rattle.pc_tree.specs.Code.{finding}
use Rattle.pc_tree.specs.Tree.{Expr, Exprs, Keywords, Name, name, call, no_exprs, more_exprs, no_keywords}
use Rattle.pc_tree.specs.Tree.{more_keywords, Module}
use Rattle.pc_tree.specs.Depth.{place_of}
use Rattle.pc_scope.specs.declared.resolution.Builtin.TheVariants as builtin
use Rattle.pc_scope.specs.declared.resolution.NameMeaning.{NameMeaning}
use Rattle.pc_scope.specs.declared.resolution.NameMeaning.TheVariants as meaning
use Rattle.pc_scope.specs.Expressions.{is_instance_test}
use Rattle.pc_types.specs.Tree.{Tree, Any, Int, Object}
use Rattle.pc_types.specs.Below.{Bases}
use Rattle.pc_types.specs.Shape.{members}
use Rattle.pc_flow.specs.Environment.{Env}
use Rattle.pc_rules.specs.Operations.{Label, clean, offers_label, iterate_member}
use Rattle.pc_rules.specs.Context.{Context, Signature}
use Rattle.pc_rules.specs.Calls.{GivenArguments, arguments_given, is_suited, fails_at_call, builtin_signature}
use Rattle.pc_rules.specs.Calls.{call_label, signatures, parameter_type, Seat, positional_seat, named_seat, is_range}
use Rattle.pc_rules.specs.Calls.{range_offers, range_item}
use Rattle.pc_rules.specs.Labels.{Labels, ItemsLabels, KeywordsLabels, type_of, Finds, IsFoundAt, ItemsFind}
use Rattle.pc_rules.specs.Labels.{ArgumentsFind}
use Rattle.pc_module_rules.specs.Statements.{LawfulIterable, LawfulRange, LawfulValues, RangeOrValues}
use Rattle.pc_rules.proofs.SaidInLabels.{as_arguments}
use Rattle.pc_value.specs.Value.{Value, Out, Gives, Stops, whole, boolean, seen}
use Rattle.pc_value.specs.Actions as action
use Rattle.pc_value.specs.Iteration.{range_outcome}
use Rattle.pc_value.specs.Texts.{same_text}
use Rattle.pc_machine.specs.State.{State}
use Rattle.pc_machine.specs.Calls.{NamedValue, range_argument}
use Rattle.pc_machine.specs.Steps.{Parts, iteration_out}
use Rattle.pc_machine.specs.Evaluation.{IterableForm, range_call, any_iterable, iterable_form, eval_iterable}
use Rattle.pc_machine.specs.Free.{Step, free}
use Rattle.pc_sound.specs.Values.{HeapTyping, HasType}
use Rattle.pc_sound.specs.Ends.{EndsWell}
use Rattle.pc_sound.proofs.Steps.Judgment.{HasListed, Around, IsWellTyped, KeepsState, IsSafe, IsContextOf, kept_with}
use Rattle.pc_sound.proofs.Steps.SafeSteps.{bind_safe, emits_safe, looks_safe, act_safe, may_stop_safe, stopped_as}
use Rattle.pc_sound.proofs.Regular.KeyedLabels.{Keyed}
use Rattle.pc_sound.proofs.Expressions.SimpleExpressions.{Covered, GoodEval, allowed}
use Rattle.pc_sound.proofs.Values.Flows.{Evaluates, first_evaluates, later_evaluates, emit_evaluates}
use Rattle.pc_sound.proofs.Lists.{not_empty}
use Rattle.pc_sound.proofs.Values.UnionMembers.{HasEach}
use Rattle.pc_sound.proofs.Calls.Arguments.{ArgumentsHave, KeywordsHave, arguments_later, keywords_later}
use Rattle.pc_sound.proofs.Calls.Arguments.{arguments_safe, keywords_safe}
use Rattle.pc_sound.proofs.Statements.Iterations.{GoesOver, iterate_ends_well}
use Rattle.pc_sound.proofs.Expressions.NameReads.{KnowsNames, reserved_is}
use Rattle.pc_sound.proofs.Calls.OrdinaryCalls.{impossible_safe}
use Rattle.pc_sound.proofs.Calls.BuiltInMethods.{IsOneArgument, one_suits}
use Rattle.pc_sound.proofs.Statements.ForLoops.{GoodIterables}

-- a step whose end in a value has evaluated a listed place is safe, whatever is wanted of the value
pub listed_safe : (around : Around) (env : Env) {A : Type 0} (known : HeapTyping → Type 0) (m : Step A)
    (P Q : HeapTyping → A → Type 0) (p : Place) → around.listed p → Evaluates p m → IsSafe around env known m P
    → IsSafe around env known m Q
listed_safe around env {A} known m P Q p here evaluates safe = record { run = go }
  where
    go : (k : HeapTyping) (s s' : State) (events : List Place) (o : Out A) → known k → IsWellTyped around env k s
        → m s events o s' → HasListed around.listed events ⊎ KeepsState around Q k s o s'
    go k s s' events (Gives v) knows st r =
        inl (record { place = p; is = here; event = evaluates.place s s' events v r })
    go k s s' events (Stops stop) knows st r = elim (safe.run k s s' events (Stops stop) knows st r) [
      | inl l ↦ inl l
      | inr kept ↦ inr (kept_with kept (stopped_as (P kept.typing) (Q kept.typing) stop kept.ends))
    ]

range_resolved : (r : NameMeaning) → is_range r ≡ true → r ≡ meaning.Builtin builtin.Range
range_resolved (meaning.Builtin builtin.Range) e = refl
range_resolved _ e = absurd (true≢false (sym e))

-- the signature of `range`
abbrev range_signature : Signature
range_signature = builtin_signature (Int ∷ []) Object

-- an int as the limit of a range
range_limit : (bases : Bases) (k : HeapTyping) (seat : ℕ → Seat) (named : List ℕ → Seat) (args : Exprs)
    (labels : ItemsLabels args) (kws : Keywords) (klabels : KeywordsLabels kws) (values : List Value)
    (more : List NamedValue) → IsOneArgument args kws → (seat 0).into ≡ Int ∷ []
    → ArgumentsHave bases k seat args labels values → KeywordsHave bases k named [] kws klabels more
    → EndsWell (λ w. HasType bases k Int w) (range_argument values more)
range_limit bases k seat named (more_exprs e no_exprs) labels no_keywords klabels (w ∷ []) [] one into hv hm =
    (subst (λ l. HasEach bases k l w) into hv.0.1).0
range_limit bases k seat named (more_exprs e no_exprs) labels no_keywords klabels (w ∷ []) (a ∷ rest) one into hv hm =
    absurd hm
range_limit bases k seat named (more_exprs e no_exprs) labels no_keywords klabels (w ∷ x ∷ rest) more one into hv hm =
    absurd hv.1
range_limit bases k seat named (more_exprs e no_exprs) labels no_keywords klabels [] more one into hv hm = absurd hv
range_limit bases k seat named no_exprs labels kws klabels values more one into hv hm = absurd one
range_limit bases k seat named (more_exprs e (more_exprs f rest)) labels kws klabels values more one into hv hm =
    absurd one
range_limit bases k seat named (more_exprs e no_exprs) labels (more_keywords a f rest) klabels values more one into hv
    hm = absurd one

module _ (around : Around) (ctx : Context) (fits : IsContextOf around ctx) (m : Module) (parts : Parts Step)
    (good : GoodEval around ctx parts.eval) (evaluates : (e : Expr) → Evaluates (place_of e) (parts.eval e))
    (env : Env) where
  -- a value that is gone over
  values_safe : (e : Expr) (labels : Labels e) (item : Label) → LawfulValues m ctx around.declared env e labels item
      → Covered around (Finds e labels) → Covered around (IsFoundAt (place_of e) item.codes) → Keyed e labels
      → IsSafe around env (λ k. Unit {0}) (eval_iterable Step free parts e any_iterable)
      (λ k over. GoesOver around.bases k item.type over)
  values_safe e labels item law covered item_covered keyed = go item.codes refl
    where
      here : item ≡ offers_label around.bases (map (iterate_member around.bases) (members (type_of e labels)))
      here = subst (λ b. item ≡ offers_label b (map (iterate_member b) (members (type_of e labels)))) (sym fits.bases)
          law.1

      part : IsSafe around env (λ k. Unit {0}) (parts.eval e) (λ k v. HasType around.bases k (type_of e labels) v)
      part = good.safe env _ e labels law.0 covered keyed

      listed_at : (c : Code) (cs : List Code) → item.codes ≡ c ∷ cs → around.listed (place_of e)
      listed_at c cs is = (item_covered (finding (place_of e) c)
          (record { code = c; among = subst (λ l. Contains l c) (sym is) (0, omega arith, refl); is = refl })).0

      go : (cs : List Code) → item.codes ≡ cs → IsSafe around env (λ k. Unit {0})
          (eval_iterable Step free parts e any_iterable) (λ k over. GoesOver around.bases k item.type over)
      go [] is = bind_safe around env _ _ _ (λ k v. HasType around.bases k (type_of e labels) v) _ (λ k k' x h. tt) part
          λ v. act_safe around env _ iteration_out (action.iterate v) _ λ f k s h st. (
            refl,
            iterate_ends_well around.bases fits.smaller around.classes k s.heap (type_of e labels) v item
                st.well h.1 here is,
          )
      go (c ∷ cs) is = bind_safe around env _ _ _ (λ k v. ⊥) _ (λ k k' x h. tt)
          (listed_safe around env _ (parts.eval e) (λ k v. HasType around.bases k (type_of e labels) v) (λ k v. ⊥)
          (place_of e) (listed_at c cs is) (evaluates e) part)
          λ v. impossible_safe around env _ _ _ λ k h. h.1

  module _ (knows : KnowsNames around ctx) (p : Place) (n : Name) (is : ctx.resolve n.text ≡ meaning.Builtin builtin.Range)
      (args : Exprs) (kws : Keywords) (labels : Labels (call p (name n) args kws))
      (law : LawfulRange m ctx around.declared env (name n) args kws p labels)
      (covered : Covered around (Finds (call p (name n) args kws) labels))
      (keyed : Keyed (call p (name n) args kws) labels) where
    abbrev g : GivenArguments
    g = arguments_given args kws

    -- where no code stands at the call, its arguments suit
    suited : labels.here.codes ≡ [] → is_suited g range_signature ≡ true
    suited quiet = go (is_suited g range_signature) refl law.here
      where
        go : (x : Test) → is_suited g range_signature ≡ x → labels.here ≡ call_label ctx.bases
            ((if x then record { at_callee = []; at_call = []; gives = Object; calls = range_signature ∷ [] }
            else fails_at_call E14) ∷ []) → is_suited g range_signature ≡ true
        go true e here = e
        go false e here = absurd (not_empty (sym (ap (λ x. x.codes) here) ∙ quiet))

    into_int : labels.here.codes ≡ [] → (positional_seat (range_offers g) 0).into ≡ Int ∷ []
    into_int quiet = ap (λ x. flat_map (λ (s : Signature). parameter_type (slice_get s.parameters 0))
        (signatures ((if x then record { at_callee = []; at_call = []; gives = Object; calls = range_signature ∷ [] }
        else fails_at_call E14) ∷ []))) (suited quiet)

    found : Covered around (ItemsFind args labels.arguments)
    found f h =
        covered f
        (inr
        (inr
        (inr (inl (subst (λ x. ArgumentsFind x args labels.arguments f) (sym no_test)
        (as_arguments args labels.arguments f h))))))
      where
        no_test : is_instance_test (name n) args kws ≡ false
        no_test = ap (λ w. is_instance_test (name (record { text = w; place = n.place })) args kws)
            (reserved_is around ctx fits knows env n.text builtin.Range is)

    over_range_safe : (item : Label) → item ≡ range_item g → IsSafe around env (λ k. Unit {0})
        (eval_iterable Step free parts (call p (name n) args kws) (range_call p n args kws))
        (λ k over. GoesOver around.bases k item.type over)
    over_range_safe item item_is =
        let seat = positional_seat (range_offers g) in
        let named = named_seat (range_offers g) in
        let int : labels.here.codes ≡ [] → item.type ≡ Int = λ quiet. ap (λ x. x.type) item_is
        ∙ ap (λ x. (if x then clean Int else record { type = Any; codes = A5 ∷ [] }).type) (suited quiet) in
        bind_safe around env _ _ _ (λ k u. Unit {0}) _ (λ k k' x h. tt) (may_stop_safe around env _)
        λ u. bind_safe around env _ _ _ (λ k u. Unit {0}) _ (λ k k' x h. (tt, tt)) (may_stop_safe around env _)
        λ u. bind_safe around env _ _ _ (λ k u. labels.callee.codes ≡ []) _ (λ k k' x h. h)
        (emits_safe around env _ n.place labels.callee.codes (allowed around n.place labels.callee.codes
        (λ f h. covered f (inr (inl h)))))
        λ u. bind_safe around env _ _ _ (λ k values. ArgumentsHave around.bases k seat args labels.arguments values) _
        (λ k k' x h. h)
        (arguments_safe around ctx fits parts.eval good evaluates env _ (λ k k' x h. h) seat args labels.arguments
        law.arguments found keyed.1.1.0)
        λ values. bind_safe around env _ _ _ (λ k more. KeywordsHave around.bases k named [] kws labels.keywords more) _
        (λ k k' x h. (h.0, arguments_later around.bases x seat args labels.arguments values h.1))
        (keywords_safe around ctx fits parts.eval good evaluates env _
        (λ k k' x h. (h.0, arguments_later around.bases x seat args labels.arguments values h.1)) named [] kws
        labels.keywords law.keywords (λ f h. covered f (inr (inr (inr (inr h))))) keyed.1.1.1)
        λ more. bind_safe around env _ _ _ (λ k u. labels.here.codes ≡ []) _
        (λ k k' x h. (
          (h.0.0, arguments_later around.bases x seat args labels.arguments values h.0.1),
          keywords_later around.bases x named [] kws labels.keywords more h.1,
        ))
        (emits_safe around env _ p labels.here.codes (allowed around p labels.here.codes (λ f h. covered f (inl h))))
        λ u. bind_safe around env _ _ _ (λ k w. HasType around.bases k Int w) _
        (λ k k' x h. (
          (
            (h.0.0.0, arguments_later around.bases x seat args labels.arguments values h.0.0.1),
            keywords_later around.bases x named [] kws labels.keywords more h.0.1,
          ),
          h.1,
        ))
        (looks_safe around env _ _ _ λ k s h st. range_limit around.bases k seat named args labels.arguments kws
        labels.keywords values more (one_suits Int Object args kws (suited h.1)) (into_int h.1) h.0.0.1 h.0.1)
        λ limit. act_safe around env _ iteration_out (action.iterate_range limit) _ λ f k s h st.
        (refl, limit_ends k s limit item.type (int h.0.1) h.1)
      where
        limit_ends : (k : HeapTyping) (s : State) (v : Value) (t : Tree) → t ≡ Int → HasType around.bases k Int v
            → EndsWell (GoesOver around.bases k t) (iteration_out (range_outcome (seen s.heap v)))
        limit_ends k s (whole z) t int h = λ j y. subst (λ u. HasType around.bases j u (whole y)) (sym int) tt
        limit_ends k s (boolean b) t int h = λ j y. subst (λ u. HasType around.bases j u (whole y)) (sym int) tt
        limit_ends k s _ t int h = absurd h

  -- the iterable of a `for` is safe
  iterable_safe : KnowsNames around ctx → ctx.resolve (codes "range") ≡ meaning.Builtin builtin.Range
      → (e : Expr) (labels : Labels e) (item : Label) → LawfulIterable m ctx around.declared env e labels item
      → Covered around (Finds e labels) → Covered around (IsFoundAt (place_of e) item.codes) → Keyed e labels
      → IsSafe around env (λ k. Unit {0}) (eval_iterable Step free parts e (iterable_form e))
      (λ k over. GoesOver around.bases k item.type over)
  iterable_safe knows range_is (call p (name n) args kws) labels item law covered item_covered keyed =
      go (is_range (ctx.resolve n.text)) refl law
    where
      go : (x : Test) → is_range (ctx.resolve n.text) ≡ x → RangeOrValues m ctx around.declared x
          (LawfulRange m ctx around.declared env (name n) args kws p labels
          × (item ≡ range_item (arguments_given args kws))) (LawfulValues m ctx around.declared env
          (call p (name n) args kws) labels item) → IsSafe around env (λ k. Unit {0})
          (eval_iterable Step free parts (call p (name n) args kws) (iterable_form (call p (name n) args kws)))
          (λ k over. GoesOver around.bases k item.type over)
      go true is law =
          let resolved = range_resolved (ctx.resolve n.text) is in
          subst (λ form. IsSafe around env (λ k. Unit {0}) (eval_iterable Step free parts (call p (name n) args kws)
          form) (λ k over. GoesOver around.bases k item.type over))
          (sym (ap (λ x. if x then range_call p n args kws else any_iterable)
          (ap (λ w. same_text w (codes "range")) (reserved_is around ctx fits knows env n.text builtin.Range
          resolved))))
          (over_range_safe knows p n resolved args kws labels law.0 covered keyed item law.1)
      go false is law =
          subst (λ form. IsSafe around env (λ k. Unit {0}) (eval_iterable Step free parts (call p (name n) args kws)
          form) (λ k over. GoesOver around.bases k item.type over))
          (sym (ap (λ x. if x then range_call p n args kws else any_iterable)
          (other (same_text n.text (codes "range")) refl)))
          (values_safe (call p (name n) args kws) labels item law covered item_covered keyed)
        where
          other : (x : Test) → same_text n.text (codes "range") ≡ x → same_text n.text (codes "range") ≡ false
          other false e = e
          other true e =
              absurd
              (true≢false (sym (ap is_range (ap ctx.resolve ((bytes_eq-Decides n.text (codes "range")).0 e) ∙ range_is))
              ∙ is))
  iterable_safe knows range_is (call p c args kws) labels item law covered item_covered keyed =
      values_safe (call p c args kws) labels item law covered item_covered keyed
  iterable_safe knows range_is e labels item law covered item_covered keyed = values_safe e labels item law covered
      item_covered keyed

-- the iterables of `for` statements
pub iterables_good : (around : Around) (ctx : Context) (fits : IsContextOf around ctx) (m : Module) (returned : Tree)
    (parts : Parts Step) → GoodEval around ctx parts.eval → ((e : Expr) → Evaluates (place_of e) (parts.eval e))
    → KnowsNames around ctx → ctx.resolve (codes "range") ≡ meaning.Builtin builtin.Range
    → GoodIterables around ctx fits m returned parts
iterables_good around ctx fits m returned parts good evaluates knows range_is = record {
  safe = λ env e labels item law covered item_covered keyed. iterable_safe around ctx fits m parts good evaluates env
      knows range_is e labels item law covered item_covered keyed;
  place = place;
}
  where
    by_form : (e : Expr) (form : IterableForm) → iterable_form e ≡ form
        → Evaluates (place_of e) (eval_iterable Step free parts e form)
    by_form e any_iterable is = first_evaluates (place_of e) _ _ (evaluates e)
    by_form e (range_call p n args kws) is =
        subst (λ q. Evaluates q (eval_iterable Step free parts e (range_call p n args kws))) (sym (place_is e is))
        (later_evaluates p _ _ λ u. later_evaluates p _ _ λ u. later_evaluates p _ _ λ u. later_evaluates p _ _ λ vs.
        later_evaluates p _ _ λ ns. first_evaluates p _ _ (emit_evaluates p))
      where
        form_place : IterableForm → Place → Place
        form_place (range_call q n args kws) other = q
        form_place any_iterable other = other

        place_is : (e : Expr) → iterable_form e ≡ range_call p n args kws → place_of e ≡ p
        place_is (call q (name w) bs ks) is = go (same_text w.text (codes "range")) is
          where
            go : (x : Test) → (if x then range_call q w bs ks else any_iterable) ≡ range_call p n args kws → q ≡ p
            go true is = ap (λ f. form_place f p) is
            go false is = absurd (grind (arith, is))
        place_is _ is = absurd (grind (arith, is))

    place : (e : Expr) → Evaluates (place_of e) (eval_iterable Step free parts e (iterable_form e))
    place e = by_form e (iterable_form e) refl
