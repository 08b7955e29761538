-- Calls of `print`, `str` and `len` are safe if their arguments are.
use Rattle.std.proofs.Math.Bool.{and-true}
use Rattle.std.proofs.Common.{◌≡◌, ℕ, suc, List, [], ◌∷◌, map, refl, sym, ap, ◌∙◌, subst, inl, inr, arith}
use Rattle.std.specs.Prelude.{Bool as Test, true, false, nat_eq, ◌&&◌, if◌then◌else◌, Option, codes, bytes_eq}
use Rattle.std.proofs.lemmas.Bool.Decides.{nat_tests}
use Rattle.pc_source.specs.declared.place.Place.{Place}
use Rattle.pc_tree.specs.declared.code.Code.{Code}
use Rattle.pc_tree.specs.declared.code.Code.TheVariants.{E14, E20, E27}
use Rattle.pc_tree.specs.Tree.{Expr, Exprs, Keywords, Name, name, call, no_exprs, more_exprs, no_keywords}
use Rattle.pc_tree.specs.Tree.{more_keywords}
use Rattle.pc_tree.specs.Depth.{place_of}
use Rattle.pc_tree.specs.Stopping.{has_none}
use Rattle.pc_scope.specs.declared.resolution.Builtin.{Builtin}
use Rattle.pc_scope.specs.declared.resolution.Builtin.TheVariants as builtin
use Rattle.pc_scope.specs.declared.resolution.NameMeaning.TheVariants as meaning
use Rattle.pc_scope.specs.Expressions.{is_instance_test, are_two}
use Rattle.pc_types.specs.Tree.{Tree, Int, Str, NoneType, ListOf, DictOf, TupleOf}
use Rattle.pc_types.specs.Below.{Bases}
use Rattle.pc_types.specs.Shape.{members}
use Rattle.pc_class.specs.Facts as facts
use Rattle.pc_flow.specs.Environment.{Env}
use Rattle.pc_rules.specs.Operations.{Label, in_error, offers_label, length_member}
use Rattle.pc_rules.specs.Context.{Context}
use Rattle.pc_rules.specs.Calls.{GivenArguments, arguments_given, count_exprs, is_one, is_two, CallOffer, plain_call}
use Rattle.pc_rules.specs.Calls.{fails_at_call, Seat, length_rule, test_rule, own_callee, builtin_callee, good_callee}
use Rattle.pc_rules.specs.Calls.{value_callee, name_callee, call_label, length_label, positional_seat, named_seat}
use Rattle.pc_rules.specs.Labels.{Labels, type_of, item_types, ItemsLabels, KeywordsLabels, Finds, ItemsFind}
use Rattle.pc_rules.specs.Labels.{ArgumentsFind, IsFoundAt}
use Rattle.pc_rules.specs.Lawful.{Lawful, callee_of, whole_call_label}
use Rattle.pc_rules.proofs.SaidInLabels.{as_arguments}
use Rattle.pc_value.specs.Value as value
use Rattle.pc_value.specs.Value.{Value, Gives, whole, boolean, string, tuple_of, location, Heap, seen}
use Rattle.pc_value.specs.Actions as action
use Rattle.pc_value.specs.Actions.{Free}
use Rattle.pc_value.specs.Containers.{length_outcome}
use Rattle.pc_value.specs.Operators.{text_outcome}
use Rattle.pc_value.specs.Texts.{same_text}
use Rattle.pc_machine.specs.Calls.{calls_reserved, callee_of_meaning, NamedValue, ReservedCall, prints, performs}
use Rattle.pc_machine.specs.Calls.{reserved_call}
use Rattle.pc_machine.specs.Steps.{Parts, value_out}
use Rattle.pc_machine.specs.Evaluation.{instance_test, ordinary, call_form, eval_callee, eval_node, eval_call}
use Rattle.pc_machine.specs.Evaluation.{call_callee, do_reserved}
use Rattle.pc_machine.specs.Free.{Step, free}
use Rattle.pc_sound.specs.Values.{HeapTyping, HasType, IsWell}
use Rattle.pc_sound.specs.Ends.{EndsWell}
use Rattle.pc_sound.proofs.Steps.Judgment.{Around, IsSafe, IsContextOf}
use Rattle.pc_sound.proofs.Lists.{not_empty, same_text_back}
use Rattle.pc_sound.proofs.Steps.SafeSteps.{Stays, bind_safe, comes_safe, looks_safe, act_safe, may_stop_safe}
use Rattle.pc_sound.proofs.Steps.SafeSteps.{emits_safe, weaken}
use Rattle.pc_sound.proofs.Regular.KeyedLabels.{Keyed}
use Rattle.pc_sound.proofs.Expressions.SimpleExpressions.{Covered, GoodEval, allowed}
use Rattle.pc_sound.proofs.Values.Flows.{Evaluates}
use Rattle.pc_sound.proofs.Values.Joins.{all_hold}
use Rattle.pc_sound.proofs.Heap.SeenValues.{sees_list, sees_dict}
use Rattle.pc_sound.proofs.Values.UnionMembers.{ends_more, offers_end}
use Rattle.pc_sound.proofs.Calls.Arguments.{ArgumentsHave, KeywordsHave, arguments_later, keywords_later}
use Rattle.pc_sound.proofs.Calls.CallRules.{two_are_two}
use Rattle.pc_sound.proofs.Expressions.NameReads.{KnowsNames, builtin_text, means_a_builtin, reserved_is}
use Rattle.pc_sound.proofs.Calls.OrdinaryCalls.{equal_safe, impossible_safe, ordinary_safe}

-- ---- lengths and texts

module _ (bases : Bases) (k : HeapTyping) (heap : Heap) where
  length_ends : (classes : List facts.ClassFacts) → IsWell bases classes k heap → (n : Tree) (v : Value)
      → HasType bases k n v → (length_member n).found ≡ [] → EndsWell (λ w. HasType bases k (length_member n).gives w)
      (value_out (length_outcome (seen heap v)))
  length_ends classes well Str (string cs) h e = tt
  length_ends classes well (ListOf t) (location l) h e = subst
      (λ s. EndsWell (λ w. HasType bases k Int w) (value_out (length_outcome s)))
      (sym (sees_list bases classes k heap well l t h).seen_as) tt
  length_ends classes well (DictOf s t) (location l) h e = subst
      (λ x. EndsWell (λ w. HasType bases k Int w) (value_out (length_outcome x)))
      (sym (sees_dict bases classes k heap well l s t h).seen_as) tt
  length_ends classes well (TupleOf ts) (tuple_of vs) h e = tt
  length_ends classes well Str _ h e = absurd h
  length_ends classes well (ListOf t) _ h e = absurd h
  length_ends classes well (DictOf s t) _ h e = absurd h
  length_ends classes well (TupleOf ts) _ h e = absurd h
  length_ends classes well _ v h e = absurd (not_empty e)

  text_ends : (answers : Free) (v : Value) → EndsWell (λ w. HasType bases k Str w) (value_out (text_outcome answers v))
  text_ends answers (whole n) = tt
  text_ends answers (boolean b) = tt
  text_ends answers (string cs) = tt
  text_ends answers value.none = tt
  text_ends answers (tuple_of vs) = tt
  text_ends answers (location l) = tt

-- a call that is no test of an instance by its text is an ordinary one
ordinary_form : (n : Name) (args : Exprs) (kws : Keywords) → same_text n.text (codes "isinstance") ≡ false
    → call_form (name n) args kws ≡ ordinary
ordinary_form n no_exprs kws e = refl
ordinary_form n (more_exprs a no_exprs) kws e = refl
ordinary_form n (more_exprs a (more_exprs b no_exprs)) no_keywords e =
    ap (λ x. if x then instance_test n a b else ordinary) e
ordinary_form n (more_exprs a (more_exprs b no_exprs)) (more_keywords w c rest) e = refl
ordinary_form n (more_exprs a (more_exprs b (more_exprs c rest))) kws e = refl

-- a call that is no test of an instance is ordinary
pub ordinary_named : (n : Name) (args : Exprs) (kws : Keywords) → is_instance_test (name n) args kws ≡ false
    → call_form (name n) args kws ≡ ordinary
ordinary_named n no_exprs kws e = refl
ordinary_named n (more_exprs a no_exprs) kws e = refl
ordinary_named n (more_exprs a (more_exprs b (more_exprs c rest))) kws e = refl
ordinary_named n (more_exprs a (more_exprs b no_exprs)) (more_keywords w x rest) e = refl
ordinary_named n (more_exprs a (more_exprs b no_exprs)) no_keywords e =
    ap (λ t. if t then instance_test n a b else ordinary) (same_text_back n.text (codes "isinstance")
    ∙ (sym (and-true (bytes_eq (codes "isinstance") n.text)) ∙ e))

-- two arguments or more are not one
two_are_not_one : (a b : Expr) (rest : Exprs) (kws : Keywords)
    → is_one (arguments_given (more_exprs a (more_exprs b rest)) kws) ≡ false
two_are_not_one a b rest kws = ap (λ x. x && has_none (arguments_given (more_exprs a (more_exprs b rest)) kws).named)
    (go (count_exprs rest))
  where
    go : (c : ℕ) → nat_eq (suc (suc c)) 1 ≡ false
    go c = grind (arith, nat_tests)

-- a built-in that is called as an ordinary function
abbrev IsOrdinary : Builtin → Type 0
IsOrdinary builtin.Print = Unit {0}
IsOrdinary builtin.Str = Unit {0}
IsOrdinary builtin.Len = Unit {0}
IsOrdinary builtin.Range = Unit {0}
IsOrdinary _ = ⊥

other_text : (b : Builtin) → IsOrdinary b → same_text (builtin_text b) (codes "isinstance") ≡ false
other_text builtin.Print o = refl
other_text builtin.Str o = refl
other_text builtin.Len o = refl
other_text builtin.Range o = refl
other_text _ o = absurd o

no_test : (b : Builtin) → IsOrdinary b → (x : Test) → (bytes_eq (codes "isinstance") (builtin_text b) && x) ≡ false
no_test builtin.Print o x = refl
no_test builtin.Str o x = refl
no_test builtin.Len o x = refl
no_test builtin.Range o x = refl
no_test _ o x = absurd o

module _ (around : Around) (ctx : Context) (fits : IsContextOf around ctx) (knows : KnowsNames around ctx)
    (parts : Parts Step) (good : GoodEval around ctx parts.eval) (evaluates : (e : Expr)
    → Evaluates (place_of e) (parts.eval e)) (env : Env) where
  -- a reserved name as a callee
  reserved_callee_safe : (n : Name) (b : Builtin) → ctx.resolve n.text ≡ meaning.Builtin b → (callee : Label)
      → Covered around (IsFoundAt n.place callee.codes) → IsSafe around env (λ k. Unit {0})
      (eval_callee Step free parts (name n)) (λ k c. c ≡ calls_reserved n.text)
  reserved_callee_safe n b is callee covered =
      bind_safe around env _ _ _ (λ k u. Unit {0}) _ (λ k k' x h. tt) (may_stop_safe around env _)
      λ u. bind_safe around env _ _ _ (λ k w. callee.codes ≡ []) _ (λ k k' x h. (tt, tt))
      (emits_safe around env _ n.place callee.codes (allowed around n.place callee.codes covered))
      λ w. looks_safe around env _ _ _ λ k s h st. subst (λ m. EndsWell (λ c. c ≡ calls_reserved n.text)
      (callee_of_meaning n.text m)) (sym (means_a_builtin around ctx fits knows env n.text b is k s st)) refl

  module _ (p : Place) (n : Name) (b : Builtin) (is : ctx.resolve n.text ≡ meaning.Builtin b) (o : IsOrdinary b) where
    text : n.text ≡ builtin_text b
    text = reserved_is around ctx fits knows env n.text b is

    as_ordinary : (args : Exprs) (kws : Keywords) → call_form (name n) args kws ≡ ordinary
    as_ordinary args kws = ordinary_form n args kws (ap (λ w. same_text w (codes "isinstance")) text ∙ other_text b o)

    offered : (g : GivenArguments) → name_callee ctx env g (ctx.resolve n.text) ≡ builtin_callee g b
    offered g = ap (name_callee ctx env g) is

    -- the label of the call, by what it comes to
    pub plain_label : (args : Exprs) (kws : Keywords) (types : List Tree) (here : Label) (offers : List CallOffer)
        → builtin_callee (arguments_given args kws) b ≡ good_callee offers
        → here ≡ whole_call_label ctx env (name_callee ctx env (arguments_given args kws) (ctx.resolve n.text)).rule
        (name_callee ctx env (arguments_given args kws) (ctx.resolve n.text)).offers args types
        → here ≡ call_label around.bases offers
    plain_label args kws types here offers plain law = law ∙ ap (λ c. whole_call_label ctx env c.rule c.offers args
        types) (offered (arguments_given args kws) ∙ plain) ∙ ap (λ x. call_label x offers) (sym fits.bases)

    -- the label of `len` of one argument
    length_here : (args : Exprs) (kws : Keywords) (types : List Tree) (here : Label)
        → builtin_callee (arguments_given args kws) b ≡ own_callee length_rule
        → here ≡ whole_call_label ctx env (name_callee ctx env (arguments_given args kws) (ctx.resolve n.text)).rule
        (name_callee ctx env (arguments_given args kws) (ctx.resolve n.text)).offers args types
        → here ≡ length_label around.bases types
    length_here args kws types here one law = law ∙ ap (λ c. whole_call_label ctx env c.rule c.offers args types)
        (offered (arguments_given args kws) ∙ one) ∙ ap (λ x. length_label x types) (sym fits.bases)

    -- the call, where what the reserved name does with its arguments is safe
    reserved_safe :
        (want : Option Tree) (args : Exprs) (kws : Keywords) (m : Labels (call p (name n) args kws))
        (law : Lawful ctx around.declared env want (call p (name n) args kws) m)
        → Covered around (Finds (call p (name n) args kws) m) → Keyed (call p (name n) args kws) m
        → ((values : List Value) (more : List NamedValue) → IsSafe around env
        (λ k.
        (ArgumentsHave around.bases k (positional_seat (callee_of ctx env (arguments_given args kws) (name n)
        law.value).offers) args m.arguments values × KeywordsHave around.bases k
        (named_seat (callee_of ctx env (arguments_given args kws) (name n) law.value).offers) [] kws m.keywords
        more) × (m.here.codes ≡ [])) (call_callee Step free parts (calls_reserved (builtin_text b)) values more)
        (λ k v. HasType around.bases k m.here.type v))
        → IsSafe around env (λ k. Unit {0}) (eval_node Step free parts (call p (name n) args kws))
        (λ k v. HasType around.bases k m.here.type v)
    reserved_safe want args kws m law covered keyed calls =
        let offers = (callee_of ctx env (arguments_given args kws) (name n) law.value).offers in
        let found : Covered around (ItemsFind args m.arguments) =
        λ f h. covered f
        (inr
        (inr
        (inr (inl (subst (λ x. ArgumentsFind x args m.arguments f)
        (sym (ap (λ w. bytes_eq (codes "isinstance") w && are_two args kws) text ∙ no_test b o (are_two args kws)))
        (as_arguments args m.arguments f h)))))) in
        subst (λ form. IsSafe around env (λ k. Unit {0}) (eval_call Step free parts p (name n) args kws form)
        (λ k v. HasType around.bases k m.here.type v)) (sym (as_ordinary args kws))
        (ordinary_safe around ctx fits parts good evaluates env p (eval_callee Step free parts (name n))
        (λ k c. c ≡ calls_reserved n.text) (λ c k k' x h. h)
        (reserved_callee_safe n b is m.callee (λ f h. covered f (inr (inl h))))
        (positional_seat offers) (named_seat offers) args m.arguments kws m.keywords m.here law.arguments law.keywords
        found (λ f h. covered f (inr (inr (inr (inr h))))) (λ f h. covered f (inl h)) keyed.1.1.0 keyed.1.1.1
        (λ k v. HasType around.bases k m.here.type v)
        λ c values more. equal_safe around env _ (λ x. call_callee Step free parts x values more) c
        (calls_reserved (builtin_text b)) (λ k v. HasType around.bases k m.here.type v)
        (λ k h. h.0.0.0.1 ∙ ap calls_reserved text)
        (weaken around env _ _ _ (λ k v. HasType around.bases k m.here.type v)
        (λ k v. HasType around.bases k m.here.type v) (λ k h. ((h.0.0.1, h.0.1), h.1)) (λ k v h. h)
        (calls values more)))

    -- a call at which a code stands is listed, and evaluated before the name acts
    pub found_safe : (want : Option Tree) (args : Exprs) (kws : Keywords) (m : Labels (call p (name n) args kws))
        → Lawful ctx around.declared env want (call p (name n) args kws) m
        → Covered around (Finds (call p (name n) args kws) m) → Keyed (call p (name n) args kws) m
        → (code : Code) (rest : List Code) → m.here.codes ≡ code ∷ rest
        → IsSafe around env (λ k. Unit {0}) (eval_node Step free parts (call p (name n) args kws))
        (λ k v. HasType around.bases k m.here.type v)
    found_safe want args kws m law covered keyed code rest found = reserved_safe want args kws m law covered keyed
        λ values more. impossible_safe around env _ _ _ λ k h. not_empty (sym found ∙ h.1)

  -- a name at which a code stands as a callee is listed, and evaluated
  pub callee_found_safe : (n : Name) (callee : Label) (code : Code) (rest : List Code) → callee.codes ≡ code ∷ rest
      → Covered around (IsFoundAt n.place callee.codes) → IsSafe around env (λ k. Unit {0})
      (eval_callee Step free parts (name n)) (λ k c. ⊥)
  callee_found_safe n callee code rest found covered =
      bind_safe around env _ _ _ (λ k u. Unit {0}) _ (λ k k' x h. tt) (may_stop_safe around env _)
      λ u. bind_safe around env _ _ _ (λ k w. callee.codes ≡ []) _ (λ k k' x h. (tt, tt))
      (emits_safe around env _ n.place callee.codes (allowed around n.place callee.codes covered))
      λ w. impossible_safe around env _ _ _ λ k h. not_empty (sym found ∙ h.1)

  -- a call of a callee with a finding is safe, whatever its arguments are
  pub callee_found_call_safe : (p : Place) (n : Name) (args : Exprs) (kws : Keywords)
      (m : Labels (call p (name n) args kws)) → is_instance_test (name n) args kws ≡ false
      → Covered around (Finds (call p (name n) args kws) m) → (code : Code) (rest : List Code)
      → m.callee.codes ≡ code ∷ rest → IsSafe around env (λ k. Unit {0})
      (eval_node Step free parts (call p (name n) args kws)) (λ k v. HasType around.bases k m.here.type v)
  callee_found_call_safe p n args kws m no_test covered code rest found =
      subst (λ form. IsSafe around env (λ k. Unit {0}) (eval_call Step free parts p (name n) args kws form)
      (λ k v. HasType around.bases k m.here.type v)) (sym (ordinary_named n args kws no_test))
      (bind_safe around env _ _ _ (λ k c. ⊥) _ (λ k k' x h. tt)
      (callee_found_safe n m.callee code rest found (λ f h. covered f (inr (inl h))))
      λ c. impossible_safe around env _ _ _ λ k h. h.1)

  -- ---- labels of calls

  of_plain : (k : HeapTyping) (here : Label) (t : Tree) → here ≡ call_label around.bases (plain_call t ∷ [])
      → (w : Value) → HasType around.bases k t w → HasType around.bases k here.type w
  of_plain k here t e w h = subst (λ u. HasType around.bases k u w) (ap (λ x. x.type) (sym e))
      (all_hold around.bases fits.smaller k (t ∷ []) w (inl h))

  no_more : (k : HeapTyping) (seat : List ℕ → Seat) (labels : KeywordsLabels no_keywords) (more : List NamedValue)
      → KeywordsHave around.bases k seat [] no_keywords labels more → more ≡ []
  no_more k seat labels [] h = refl
  no_more k seat labels (a ∷ rest) h = absurd h

  module _ (seat : ℕ → Seat) (named : List ℕ → Seat) (args : Exprs) (labels : ItemsLabels args) (kws : Keywords)
      (klabels : KeywordsLabels kws) (here : Label) where
    abbrev Known : List Value → List NamedValue → HeapTyping → Type 0
    Known values more k = (ArgumentsHave around.bases k seat args labels values
        × KeywordsHave around.bases k named [] kws klabels more) × (here.codes ≡ [])

    known_stays : (values : List Value) (more : List NamedValue) → Stays (Known values more)
    known_stays values more k k' x h = (
      (
        arguments_later around.bases x seat args labels values h.0.0,
        keywords_later around.bases x named [] kws klabels more h.0.1,
      ),
      h.1,
    )

    -- a call of a reserved name is safe, where its operation is known
    does_safe : (w : List ℕ) (values : List Value) (more : List NamedValue) (r : ReservedCall) (P : HeapTyping → Value
        → Type 0) → ((k : HeapTyping) → Known values more k → reserved_call w values more ≡ Gives r)
        → IsSafe around env (Known values more) (do_reserved Step free r) P
        → IsSafe around env (Known values more) (call_callee Step free parts (calls_reserved w) values more) P
    does_safe w values more r P is safe = bind_safe around env _ _ _ (λ k c. c ≡ r) _ (known_stays values more)
        (looks_safe around env _ _ _ λ k s h st. subst (λ o. EndsWell (λ c. c ≡ r) o) (sym (is k h)) refl)
        λ c. equal_safe around env _ (do_reserved Step free) c r P (λ k h. h.1)
        (weaken around env _ _ _ P P (λ k h. h.0) (λ k v h. h) safe)

  -- ---- `print`

  pub print_safe : (want : Option Tree) (p : Place) (n : Name) → ctx.resolve n.text ≡ meaning.Builtin builtin.Print
      → (args : Exprs) (kws : Keywords) (m : Labels (call p (name n) args kws))
      → Lawful ctx around.declared env want (call p (name n) args kws) m
      → Covered around (Finds (call p (name n) args kws) m) → Keyed (call p (name n) args kws) m
      → IsSafe around env (λ k. Unit {0}) (eval_node Step free parts (call p (name n) args kws))
      (λ k v. HasType around.bases k m.here.type v)
  print_safe want p n is args (more_keywords w e rest) m law covered keyed =
      found_safe p n builtin.Print is tt want args (more_keywords w e rest) m law covered keyed E14 []
      (ap (λ x. x.codes) (plain_label p n builtin.Print is tt args (more_keywords w e rest)
      (item_types args m.arguments) m.here (fails_at_call E14 ∷ []) refl law.here))
  print_safe want p n is args no_keywords m law covered keyed = reserved_safe p n builtin.Print is tt want args
      no_keywords m law covered keyed each
    where
      here : m.here ≡ call_label around.bases (plain_call NoneType ∷ [])
      here = plain_label p n builtin.Print is tt args no_keywords (item_types args m.arguments) m.here
          (plain_call NoneType ∷ []) refl law.here

      seat : ℕ → Seat
      seat = positional_seat (callee_of ctx env (arguments_given args no_keywords) (name n) law.value).offers

      named : List ℕ → Seat
      named = named_seat (callee_of ctx env (arguments_given args no_keywords) (name n) law.value).offers

      each : (values : List Value) (more : List NamedValue) → IsSafe around env
          (Known seat named args m.arguments no_keywords m.keywords m.here values more)
          (call_callee Step free parts (calls_reserved (codes "print")) values more)
          (λ k v. HasType around.bases k m.here.type v)
      each values more = does_safe seat named args m.arguments no_keywords m.keywords m.here (codes "print") values more
          prints _
          (λ k h. ap (reserved_call (codes "print") values) (no_more k named m.keywords more h.0.1))
          (comes_safe around env _ (Gives value.none) _ λ k h. of_plain k m.here NoneType here value.none tt)

  -- ---- `str`

  pub str_safe : (want : Option Tree) (p : Place) (n : Name) → ctx.resolve n.text ≡ meaning.Builtin builtin.Str
      → (args : Exprs) (kws : Keywords) (m : Labels (call p (name n) args kws))
      → Lawful ctx around.declared env want (call p (name n) args kws) m
      → Covered around (Finds (call p (name n) args kws) m) → Keyed (call p (name n) args kws) m
      → IsSafe around env (λ k. Unit {0}) (eval_node Step free parts (call p (name n) args kws))
      (λ k v. HasType around.bases k m.here.type v)
  str_safe want p n is no_exprs kws m law covered keyed =
      found_safe p n builtin.Str is tt want no_exprs kws m law covered keyed E14 []
      (ap (λ x. x.codes) (plain_label p n builtin.Str is tt no_exprs kws (item_types no_exprs m.arguments)
      m.here (fails_at_call E14 ∷ []) refl law.here))
  str_safe want p n is (more_exprs a (more_exprs c rest)) kws m law covered keyed =
      found_safe p n builtin.Str is tt want (more_exprs a (more_exprs c rest)) kws m law covered keyed E14 []
      (ap (λ x. x.codes) (plain_label p n builtin.Str is tt (more_exprs a (more_exprs c rest)) kws
      (item_types (more_exprs a (more_exprs c rest)) m.arguments) m.here (fails_at_call E14 ∷ [])
      (ap (λ x. good_callee ((if x then plain_call Str else fails_at_call E14) ∷ []))
      (two_are_not_one a c rest kws)) law.here))
  str_safe want p n is (more_exprs a no_exprs) (more_keywords w e rest) m law covered keyed =
      found_safe p n builtin.Str is tt want (more_exprs a no_exprs) (more_keywords w e rest) m law covered keyed E14 []
      (ap (λ x. x.codes) (plain_label p n builtin.Str is tt (more_exprs a no_exprs)
      (more_keywords w e rest) (item_types (more_exprs a no_exprs) m.arguments) m.here (fails_at_call E14 ∷ []) refl
      law.here))
  str_safe want p n is (more_exprs a no_exprs) no_keywords m law covered keyed = reserved_safe p n builtin.Str is tt
      want (more_exprs a no_exprs) no_keywords m law covered keyed each
    where
      here : m.here ≡ call_label around.bases (plain_call Str ∷ [])
      here = plain_label p n builtin.Str is tt (more_exprs a no_exprs) no_keywords
          (item_types (more_exprs a no_exprs) m.arguments) m.here (plain_call Str ∷ []) refl law.here

      seat : ℕ → Seat
      seat = positional_seat (callee_of ctx env (arguments_given (more_exprs a no_exprs) no_keywords) (name n)
          law.value).offers

      named : List ℕ → Seat
      named = named_seat (callee_of ctx env (arguments_given (more_exprs a no_exprs) no_keywords) (name n)
          law.value).offers

      each : (values : List Value) (more : List NamedValue) → IsSafe around env
          (Known seat named (more_exprs a no_exprs) m.arguments no_keywords m.keywords m.here values more)
          (call_callee Step free parts (calls_reserved (codes "str")) values more)
          (λ k v. HasType around.bases k m.here.type v)
      each [] more = impossible_safe around env _ _ _ λ k h. h.0.0
      each (v ∷ w ∷ rest) more = impossible_safe around env _ _ _ λ k h. h.0.0.1
      each (v ∷ []) more = does_safe seat named (more_exprs a no_exprs) m.arguments no_keywords m.keywords m.here
          (codes "str") (v ∷ []) more (performs (action.text_of v)) _
          (λ k h. ap (reserved_call (codes "str") (v ∷ [])) (no_more k named m.keywords more h.0.1))
          (act_safe around env _ value_out (action.text_of v) _ λ f k s h st. (
            refl,
            ends_more (λ w. HasType around.bases k Str w) (λ w. HasType around.bases k m.here.type w)
                (λ w x. of_plain k m.here Str here w x) (value_out (text_outcome f v))
                (text_ends around.bases k s.heap f v),
          ))

  -- ---- `len`

  pub len_safe : (want : Option Tree) (p : Place) (n : Name) → ctx.resolve n.text ≡ meaning.Builtin builtin.Len
      → (args : Exprs) (kws : Keywords) (m : Labels (call p (name n) args kws))
      → Lawful ctx around.declared env want (call p (name n) args kws) m
      → Covered around (Finds (call p (name n) args kws) m) → Keyed (call p (name n) args kws) m
      → IsSafe around env (λ k. Unit {0}) (eval_node Step free parts (call p (name n) args kws))
      (λ k v. HasType around.bases k m.here.type v)
  len_safe want p n is no_exprs kws m law covered keyed =
      found_safe p n builtin.Len is tt want no_exprs kws m law covered keyed E14 []
      (ap (λ x. x.codes) (plain_label p n builtin.Len is tt no_exprs kws (item_types no_exprs m.arguments)
      m.here (fails_at_call E14 ∷ []) refl law.here))
  len_safe want p n is (more_exprs a (more_exprs c rest)) kws m law covered keyed =
      found_safe p n builtin.Len is tt want (more_exprs a (more_exprs c rest)) kws m law covered keyed E14 []
      (ap (λ x. x.codes) (plain_label p n builtin.Len is tt (more_exprs a (more_exprs c rest)) kws
      (item_types (more_exprs a (more_exprs c rest)) m.arguments) m.here (fails_at_call E14 ∷ [])
      (ap (λ x. if x then own_callee length_rule else good_callee (fails_at_call E14 ∷ []))
      (two_are_not_one a c rest kws)) law.here))
  len_safe want p n is (more_exprs a no_exprs) (more_keywords w e rest) m law covered keyed =
      found_safe p n builtin.Len is tt want (more_exprs a no_exprs) (more_keywords w e rest) m law covered keyed E14 []
      (ap (λ x. x.codes) (plain_label p n builtin.Len is tt (more_exprs a no_exprs)
      (more_keywords w e rest) (item_types (more_exprs a no_exprs) m.arguments) m.here (fails_at_call E14 ∷ []) refl
      law.here))
  len_safe want p n is (more_exprs a no_exprs) no_keywords m law covered keyed = reserved_safe p n builtin.Len is tt
      want (more_exprs a no_exprs) no_keywords m law covered keyed each
    where
      object : Tree
      object = type_of a m.arguments.first

      here : m.here ≡ offers_label around.bases (map length_member (members object))
      here = length_here p n builtin.Len is tt (more_exprs a no_exprs) no_keywords
          (item_types (more_exprs a no_exprs) m.arguments) m.here refl law.here

      seat : ℕ → Seat
      seat = positional_seat (callee_of ctx env (arguments_given (more_exprs a no_exprs) no_keywords) (name n)
          law.value).offers

      named : List ℕ → Seat
      named = named_seat (callee_of ctx env (arguments_given (more_exprs a no_exprs) no_keywords) (name n)
          law.value).offers

      each : (values : List Value) (more : List NamedValue) → IsSafe around env
          (Known seat named (more_exprs a no_exprs) m.arguments no_keywords m.keywords m.here values more)
          (call_callee Step free parts (calls_reserved (codes "len")) values more)
          (λ k v. HasType around.bases k m.here.type v)
      each [] more = impossible_safe around env _ _ _ λ k h. h.0.0
      each (v ∷ w ∷ rest) more = impossible_safe around env _ _ _ λ k h. h.0.0.1
      each (v ∷ []) more = does_safe seat named (more_exprs a no_exprs) m.arguments no_keywords m.keywords m.here
          (codes "len") (v ∷ []) more (performs (action.length_of v)) _
          (λ k h. ap (reserved_call (codes "len") (v ∷ [])) (no_more k named m.keywords more h.0.1))
          (act_safe around env _ value_out (action.length_of v) _ λ f k s h st. (
            refl,
            offers_end around.bases k fits.smaller m.here length_member object v here h.1 h.0.0.0.0
                (value_out (length_outcome (seen s.heap v))) λ t x found takes. length_ends around.bases k s.heap
                around.classes st.well t v x found,
          ))

  -- ---- `range` outside a `for`, and reserved names that are not called

  pub range_error : (p : Place) (n : Name) → ctx.resolve n.text ≡ meaning.Builtin builtin.Range
      → (want : Option Tree) (args : Exprs) (kws : Keywords) (m : Labels (call p (name n) args kws))
      → Lawful ctx around.declared env want (call p (name n) args kws) m
      → Covered around (Finds (call p (name n) args kws) m) → Keyed (call p (name n) args kws) m
      → IsSafe around env (λ k. Unit {0}) (eval_node Step free parts (call p (name n) args kws))
      (λ k v. HasType around.bases k m.here.type v)
  range_error p n is want args kws m law covered keyed = go (is_one (arguments_given args kws))
      (plain_label p n builtin.Range is tt args kws (item_types args m.arguments) m.here _ refl law.here)
    where
      go : (x : Test) → m.here ≡ call_label around.bases ((if x then fails_at_call E27 else fails_at_call E14) ∷ [])
          → IsSafe around env (λ k. Unit {0}) (eval_node Step free parts (call p (name n) args kws))
          (λ k v. HasType around.bases k m.here.type v)
      go true e = found_safe p n builtin.Range is tt want args kws m law covered keyed E27 [] (ap (λ x. x.codes) e)
      go false e = found_safe p n builtin.Range is tt want args kws m law covered keyed E14 [] (ap (λ x. x.codes) e)

  pub not_callable : (b : Builtin) → ((g : GivenArguments) → builtin_callee g b ≡ value_callee (in_error E20))
      → (p : Place) (n : Name) → ctx.resolve n.text ≡ meaning.Builtin b
      → (want : Option Tree) (args : Exprs) (kws : Keywords) (m : Labels (call p (name n) args kws))
      → is_instance_test (name n) args kws ≡ false → Lawful ctx around.declared env want (call p (name n) args kws) m
      → Covered around (Finds (call p (name n) args kws) m)
      → IsSafe around env (λ k. Unit {0}) (eval_node Step free parts (call p (name n) args kws))
      (λ k v. HasType around.bases k m.here.type v)
  not_callable b other p n is want args kws m no_test law covered =
      callee_found_call_safe p n args kws m no_test covered E20 []
      (ap (λ x. x.codes) (law.callee ∙ ap (λ r. (name_callee ctx env (arguments_given args kws) r).label) is
      ∙ ap (λ x. x.label) (other (arguments_given args kws))))

  -- `isinstance` on other arguments than two by position
  pub test_error : (p : Place) (n : Name) → ctx.resolve n.text ≡ meaning.Builtin builtin.IsInstance
      → (want : Option Tree) (args : Exprs) (kws : Keywords) (m : Labels (call p (name n) args kws))
      → is_instance_test (name n) args kws ≡ false → Lawful ctx around.declared env want (call p (name n) args kws) m
      → Covered around (Finds (call p (name n) args kws) m) → Keyed (call p (name n) args kws) m
      → IsSafe around env (λ k. Unit {0}) (eval_node Step free parts (call p (name n) args kws))
      (λ k v. HasType around.bases k m.here.type v)
  test_error p n is want args kws m no_test_here law covered keyed =
      let g = arguments_given args kws in
      let offers = (callee_of ctx env (arguments_given args kws) (name n) law.value).offers in
      let named : is_instance_test (name n) args kws ≡ are_two args kws =
      ap (λ w. bytes_eq (codes "isinstance") w && are_two args kws)
      (reserved_is around ctx fits knows env n.text builtin.IsInstance is) in
      let other : is_two g ≡ false = two_are_two args kws ∙ sym named ∙ no_test_here in
      let here : m.here ≡ call_label around.bases (fails_at_call E14 ∷ []) =
      law.here
      ∙ ap (λ c. whole_call_label ctx env c.rule c.offers args (item_types args m.arguments))
      (ap (name_callee ctx env g) is ∙ ap (λ x. if x then own_callee test_rule else good_callee
      (fails_at_call E14 ∷ [])) other)
      ∙ ap (λ x. call_label x (fails_at_call E14 ∷ [])) (sym fits.bases) in
      let found : Covered around (ItemsFind args m.arguments) =
      λ f h. covered f (inr (inr (inr (inl (subst (λ x. ArgumentsFind x args m.arguments f) (sym no_test_here)
      (as_arguments args m.arguments f h)))))) in
      subst (λ form. IsSafe around env (λ k. Unit {0}) (eval_call Step free parts p (name n) args kws form)
      (λ k v. HasType around.bases k m.here.type v)) (sym (ordinary_named n args kws no_test_here))
      (ordinary_safe around ctx fits parts good evaluates env p (eval_callee Step free parts (name n))
      (λ k c. c ≡ calls_reserved n.text) (λ c k k' x h. h)
      (reserved_callee_safe n builtin.IsInstance is m.callee (λ f h. covered f (inr (inl h))))
      (positional_seat offers) (named_seat offers) args m.arguments kws m.keywords m.here law.arguments law.keywords
      found (λ f h. covered f (inr (inr (inr (inr h))))) (λ f h. covered f (inl h)) keyed.1.1.0 keyed.1.1.1
      (λ k v. HasType around.bases k m.here.type v)
      λ c values more. impossible_safe around env _ _ _ λ k h. not_empty (sym (ap (λ x. x.codes) here) ∙ h.1))
