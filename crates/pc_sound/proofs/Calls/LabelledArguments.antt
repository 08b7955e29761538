-- The arguments of a lawfully labelled call, if they match the callee: each is bound to a value of its parameter's
-- type.
use Rattle.std.proofs.Common.{◌≡◌, ℕ, suc, ◌≤◌, List, [], ◌∷◌, map, length, refl, sym, ap, ◌∙◌, subst, inl, inr, arith}
use Rattle.std.specs.Prelude.{◌⊎◌, Bool as Test, true, false, ◌&&◌, ◌||◌, not, nat_le, if◌then◌else◌, flat_map, take}
use Rattle.std.specs.Prelude.{drop, Option, Some, None, bytes_eq, slice_get}
use Rattle.std.specs.List.{list_all}
use Rattle.std.proofs.lemmas.Bool.Decides.{nat_tests}
use Rattle.std.proofs.lemmas.Slice.Eq.{bytes_eq-Decides}
use Rattle.std.proofs.lemmas.Option.{same_Some}
use Rattle.std.proofs.lemmas.Bool.{and_parts, or_right}
use Rattle.pc_tree.specs.Tree.{Name, Exprs, no_exprs, more_exprs, Keywords, no_keywords, more_keywords}
use Rattle.pc_tree.specs.Stopping.{has_none}
use Rattle.pc_scope.specs.Bindings.{texts}
use Rattle.pc_scope.specs.Expressions.{keyword_names}
use Rattle.pc_scope.specs.Resolution.{is_one_of}
use Rattle.pc_types.specs.Tree.{Tree, Any}
use Rattle.pc_types.specs.Below.{Bases, Static, same}
use Rattle.pc_class.specs.Facts.{TypedParameter, field_by_name}
use Rattle.pc_class.specs.Overrides.{has_shape_of}
use Rattle.pc_rules.specs.Context.{Signature}
use Rattle.pc_rules.specs.Calls.{count_exprs, once_each, arguments_given, index_of_parameter, is_free, are_filled}
use Rattle.pc_rules.specs.Calls.{parameter_names, is_suited, Seat, nowhere, parameter_type, CallOffer, signatures}
use Rattle.pc_rules.specs.Calls.{positional_seat, named_seat}
use Rattle.pc_rules.specs.Labels.{ItemsLabels, KeywordsLabels}
use Rattle.pc_value.specs.Value.{Value}
use Rattle.pc_value.specs.Texts.{same_text}
use Rattle.pc_machine.specs.State as state
use Rattle.pc_machine.specs.Calls.{NamedValue, value_named, bound_arguments}
use Rattle.pc_sound.specs.Values.{HeapTyping}
use Rattle.pc_sound.specs.Loaded.{DefaultHas, DefaultsHave}
use Rattle.pc_sound.specs.Arguments.{TakesNamed, Fills, AllFor, Suits}
use Rattle.pc_sound.proofs.TruthValues.{not_both, or_in_turn}
use Rattle.pc_sound.proofs.Values.ValuesFlow.{of_static}
use Rattle.pc_sound.proofs.Values.UnionMembers.{HasEach, each_left, each_right}
use Rattle.pc_sound.proofs.Calls.Arguments.{ArgumentsHave, KeywordsHave}
use Rattle.pc_sound.proofs.Calls.FilledParameters.{Filled, binds, Distinct, NamedBehind}
use Rattle.pc_sound.proofs.Calls.FilledParameters.{names_of, PositionalHave, once_among, all_at, suited_fills, all_for}

-- one of several that are called
abbrev pub IsOneOf : Signature → List Signature → Type 0
IsOneOf s [] = ⊥
IsOneOf s (t ∷ ts) = (t ≡ s) ⊎ IsOneOf s ts

pub each_of_one : (bases : Bases) (k : HeapTyping) (f : Signature → List Tree) (sigs : List Signature) (s : Signature)
    (v : Value) → IsOneOf s sigs → HasEach bases k (flat_map f sigs) v → HasEach bases k (f s) v
each_of_one bases k f [] s v one h = absurd one
each_of_one bases k f (t ∷ ts) s v one h = elim one [
  | inl is ↦ subst (λ x. HasEach bases k (f x) v) is (each_left bases k (f t) (flat_map f ts) v h)
  | inr others ↦ each_of_one bases k f ts s v others (each_right bases k (f t) (flat_map f ts) v h)
]

-- ---- the names that a call gives

given_once : (word : List ℕ) (before : List (List ℕ)) (ns : List Name) → is_one_of word (once_each before ns) ≡ true
    → is_one_of word (texts ns) ≡ true
given_once word before [] e = e
given_once word before (n ∷ ns) e = go (is_one_of n.text before) e (given_once word before ns)
    (given_once word (n.text ∷ before) ns)
  where
    go : (b : Test) → is_one_of word (if b then once_each before ns else n.text ∷ once_each (n.text ∷ before) ns) ≡ true
        → (is_one_of word (once_each before ns) ≡ true → is_one_of word (texts ns) ≡ true)
        → (is_one_of word (once_each (n.text ∷ before) ns) ≡ true → is_one_of word (texts ns) ≡ true)
        → is_one_of word (texts (n ∷ ns)) ≡ true
    go true e dropped kept = or_right (bytes_eq word n.text) (is_one_of word (texts ns)) (dropped e)
    go false e dropped kept = elim (or_in_turn (bytes_eq word n.text) (is_one_of word (once_each (n.text ∷ before) ns))
        e) [
          | inl c ↦ ap (λ b. b || is_one_of word (texts ns)) c
          | inr c ↦ or_right (bytes_eq word n.text) (is_one_of word (texts ns)) (kept c.1)
        ]

module _ (bases : Bases) (k : HeapTyping) where
  keyword_texts : (seat : List ℕ → Seat) (before : List (List ℕ)) (es : Keywords) (m : KeywordsLabels es)
      (named : List NamedValue) → KeywordsHave bases k seat before es m named
      → names_of named ≡ texts (keyword_names es)
  keyword_texts seat before no_keywords m [] h = refl
  keyword_texts seat before no_keywords m (a ∷ more) h = absurd h
  keyword_texts seat before (more_keywords parameter value rest) m [] h = absurd h
  keyword_texts seat before (more_keywords parameter value rest) m (a ∷ more) h = λ i. h.0 i ∷ keyword_texts seat
      (parameter.text ∷ before) rest m.rest more h.1.1 i

  count_is : (seat : ℕ → Seat) (es : Exprs) (m : ItemsLabels es) (vs : List Value) → ArgumentsHave bases k seat es m vs
      → count_exprs es ≡ length vs
  count_is seat no_exprs m [] h = refl
  count_is seat no_exprs m (v ∷ vs) h = absurd h
  count_is seat (more_exprs e rest) m [] h = absurd h
  count_is seat (more_exprs e rest) m (v ∷ vs) h = ap suc (count_is (λ i. seat (suc i)) rest m.rest vs h.1)

  -- the first value of a name goes into the types of its seat
  value_seated : (seat : List ℕ → Seat) (before : List (List ℕ)) (es : Keywords) (m : KeywordsLabels es)
      (named : List NamedValue) → KeywordsHave bases k seat before es m named → (word : List ℕ) (w : Value)
      → is_one_of word before ≡ false → value_named word named ≡ Some w → HasEach bases k (seat word).into w
  value_seated seat before no_keywords m [] h word w new e = absurd (grind (arith, e))
  value_seated seat before no_keywords m (a ∷ more) h word w new e = absurd h
  value_seated seat before (more_keywords parameter value rest) m [] h word w new e = absurd h
  value_seated seat before (more_keywords parameter value rest) m (a ∷ more) h word w new e =
      go (same_text a.name word) refl e (value_seated seat (parameter.text ∷ before) rest m.rest more h.1.1 word w)
    where
      into : (b : Test) → b ≡ false → HasEach bases k (if b then nowhere else seat parameter.text).into a.value
          → HasEach bases k (seat parameter.text).into a.value
      into true e h = absurd (not_both refl e)
      into false e h = h

      go : (b : Test) → same_text a.name word ≡ b → (if b then Some a.value else value_named word more) ≡ Some w
          → (is_one_of word (parameter.text ∷ before) ≡ false → value_named word more ≡ Some w
          → HasEach bases k (seat word).into w) → HasEach bases k (seat word).into w
      go true t e others =
          let same : parameter.text ≡ word = sym h.0 ∙ (bytes_eq-Decides a.name word).0 t in
          let here = into (is_one_of parameter.text before) (ap (λ x. is_one_of x before) same ∙ new) h.1.0.1 in
          subst (λ x. HasEach bases k (seat word).into x) (same_Some _ _ e)
          (subst (λ x. HasEach bases k (seat x).into a.value) same here)
      go false t e others = others ((λ i. differ i || new i)) e
        where
          differ : bytes_eq word parameter.text ≡ false
          differ = test (bytes_eq word parameter.text) refl
            where
              test : (b : Test) → bytes_eq word parameter.text ≡ b → bytes_eq word parameter.text ≡ false
              test true c =
                  absurd
                  (not_both ((bytes_eq-Decides a.name word).1 (h.0 ∙ sym ((bytes_eq-Decides word parameter.text).0 c)))
                  t)
              test false c = c

  -- the values by position go into the types of the parameters there
  positional_have : (seat : ℕ → Seat) (es : Exprs) (m : ItemsLabels es) (vs : List Value) (ps : List TypedParameter)
      → ArgumentsHave bases k seat es m vs → ((i : ℕ) (v : Value) → HasEach bases k (seat i).into v
      → HasEach bases k (parameter_type (slice_get ps i)) v) → length vs ≤ length ps → PositionalHave bases k ps vs
  positional_have seat no_exprs m [] ps h into short = tt
  positional_have seat no_exprs m (v ∷ vs) ps h into short = absurd h
  positional_have seat (more_exprs e rest) m [] ps h into short = tt
  positional_have seat (more_exprs e rest) m (v ∷ vs) [] h into short = absurd (grind (arith, short))
  positional_have seat (more_exprs e rest) m (v ∷ vs) (p ∷ ps) h into short = (
    (into 0 v h.0.1).0,
    positional_have (λ i. seat (suc i)) rest m.rest vs ps h.1 (λ i w x. into (suc i) w x)
        (omega arith),
  )

  -- ---- a call that suits a signature

  pub suits : (offers : List CallOffer) (s : Signature) (es : Exprs) (kws : Keywords) (im : ItemsLabels es)
      (km : KeywordsLabels kws) (vs : List Value) (named : List NamedValue) → is_suited (arguments_given es kws) s
      ≡ true → Distinct [] s.parameters → IsOneOf s (signatures offers) → ArgumentsHave bases k (positional_seat offers)
      es im vs → KeywordsHave bases k (named_seat offers) [] kws km named → Suits bases k s.parameters vs named
  suits offers s es kws im km vs named suited distinct one args kwargs = record {
    fills = suited_fills bases k named words given_are are_given [] s.parameters vs distinct positional free have
        (subst (λ n. are_filled words (parameter_names (take n s.parameters)) (drop n s.parameters) ≡ true)
        (count_is (positional_seat offers) es im vs args) parts.1.1.1);
    all_for = all_for bases k named words given_are are_given (length vs) s.parameters named
        (λ word e. free word (given_are word e));
  }
    where
      words : List (List ℕ)
      words = once_each [] (keyword_names kws)

      parts : (nat_le (count_exprs es) (length s.parameters) ≡ true)
          × (((s.takes_names || has_none (once_each [] (keyword_names kws))) ≡ true)
          × ((list_all (λ word. is_free (count_exprs es) (index_of_parameter s.parameters word))
          (once_each [] (keyword_names kws)) ≡ true) × (are_filled (once_each [] (keyword_names kws))
          (parameter_names (take (count_exprs es) s.parameters)) (drop (count_exprs es) s.parameters) ≡ true)))
      parts =
          let a = and_parts (nat_le (count_exprs es) (length s.parameters)) _ suited in
          let b = and_parts (s.takes_names || has_none (once_each [] (keyword_names kws))) _ a.1 in
          let c = and_parts (list_all (λ word. is_free (count_exprs es) (index_of_parameter s.parameters word))
          (once_each [] (keyword_names kws))) _ b.1 in
          (a.0, (b.0, (c.0, c.1)))

      names_are : names_of named ≡ texts (keyword_names kws)
      names_are = keyword_texts (named_seat offers) [] kws km named kwargs

      given_are : (word : List ℕ) → is_one_of word (names_of named) ≡ true
          → is_one_of word (once_each [] (keyword_names kws)) ≡ true
      given_are word e = once_among word [] (keyword_names kws) refl (ap (is_one_of word) (sym names_are) ∙ e)

      are_given : (word : List ℕ) → is_one_of word (once_each [] (keyword_names kws)) ≡ true
          → is_one_of word (names_of named) ≡ true
      are_given word e = ap (is_one_of word) names_are ∙ given_once word [] (keyword_names kws) e

      free : (word : List ℕ) → is_one_of word (once_each [] (keyword_names kws)) ≡ true
          → is_free (length vs) (index_of_parameter s.parameters word) ≡ true
      free word e = subst (λ n. is_free n (index_of_parameter s.parameters word) ≡ true)
          (count_is (positional_seat offers) es im vs args)
          (all_at (λ word. is_free (count_exprs es) (index_of_parameter s.parameters word)) (once_each [] (keyword_names kws))
          word parts.1.1.0 e)

      short : length vs ≤ length s.parameters
      short = let n = parts.0 in let c = count_is (positional_seat offers) es im vs args in
          grind (arith, nat_tests, n, c)

      positional : PositionalHave bases k s.parameters vs
      positional = positional_have (positional_seat offers) es im vs s.parameters args
          (λ i v h. each_of_one bases k (λ t. parameter_type (slice_get t.parameters i)) (signatures offers) s v one h) short

      have : NamedBehind bases k [] s.parameters named
      have word w q new e f = (subst (λ o. HasEach bases k (parameter_type o) w) f
          (each_of_one bases k (λ t. parameter_type (field_by_name t.parameters word)) (signatures offers) s w one
          (value_seated (named_seat offers) [] kws km named kwargs word w refl e))).0

  -- ---- other parameters of the same shape

  abbrev pub StaticInto : List TypedParameter → List TypedParameter → Type 0
  StaticInto (p ∷ ps) (q ∷ qs) = Static bases p.type q.type × StaticInto ps qs
  StaticInto _ _ = Unit {0}

  same_shape : (p q : TypedParameter) (ps qs : List TypedParameter) → has_shape_of (p ∷ ps) (q ∷ qs) ≡ true
      → (p.name ≡ q.name) × (((not p.has_default || q.has_default) ≡ true) × (has_shape_of ps qs ≡ true))
  same_shape p q ps qs e =
      let a = and_parts (bytes_eq p.name q.name) ((not p.has_default || q.has_default) && has_shape_of ps qs) e in
      let b = and_parts (not p.has_default || q.has_default) (has_shape_of ps qs) a.1 in
      ((bytes_eq-Decides p.name q.name).0 a.0, (b.0, b.1))

  takes_into : (p q : TypedParameter) (o : Option Value) → (not p.has_default || q.has_default) ≡ true
      → Static bases p.type q.type → TakesNamed bases k p o → TakesNamed bases k q o
  takes_into p q (Some w) d below h = of_static bases k p.type q.type below w h
  takes_into p q None d below h = subst (λ b. (not b || q.has_default) ≡ true) h d

  pub fills_into : (ps qs : List TypedParameter) (vs : List Value) (named : List NamedValue) → has_shape_of ps qs ≡ true
      → StaticInto ps qs → Fills bases k ps vs named → Fills bases k qs vs named
  fills_into [] [] vs named e flows h = h
  fills_into [] (q ∷ qs) vs named e flows h = absurd (grind (arith, e))
  fills_into (p ∷ ps) [] vs named e flows h = absurd (grind (arith, e))
  fills_into (p ∷ ps) (q ∷ qs) (v ∷ vs) named e flows h =
      let s = same_shape p q ps qs e in (
        of_static bases k p.type q.type flows.0 v h.0,
        (
          ap (λ w. value_named w named) (sym s.0)
              ∙ h.1.0,
          fills_into ps qs vs named s.1.1 flows.1 h.1.1,
        ),
      )
  fills_into (p ∷ ps) (q ∷ qs) [] named e flows h =
      let s = same_shape p q ps qs e in (
        subst (λ w. TakesNamed bases k q (value_named w named)) s.0
            (takes_into p q (value_named p.name named) s.1.0 flows.0 h.0),
        fills_into ps qs [] named s.1.1 flows.1 h.1,
      )

  names_into : (ps qs : List TypedParameter) → has_shape_of ps qs ≡ true → parameter_names ps ≡ parameter_names qs
  names_into [] [] e = refl
  names_into [] (q ∷ qs) e = absurd (grind (arith, e))
  names_into (p ∷ ps) [] e = absurd (grind (arith, e))
  names_into (p ∷ ps) (q ∷ qs) e = let s = same_shape p q ps qs e in λ i. s.0 i ∷ names_into ps qs s.1.1 i

  all_into : (ps qs : List TypedParameter) (named more : List NamedValue) → has_shape_of ps qs ≡ true
      → AllFor more ps → AllFor more qs
  all_into ps qs named [] e h = tt
  all_into ps qs named (a ∷ more) e h = (
    ap (is_one_of a.name) (sym (names_into ps qs e))
        ∙ h.0,
    all_into ps qs named more e h.1,
  )

  pub suits_into : (ps qs : List TypedParameter) (vs : List Value) (named : List NamedValue) → has_shape_of ps qs ≡ true
      → StaticInto ps qs → Suits bases k ps vs named → Suits bases k qs vs named
  suits_into ps qs vs named e flows h = record {
    fills = fills_into ps qs vs named e flows h.fills;
    all_for =
        all_into ps qs named named e h.all_for;
  }

  -- ---- without types

  abbrev pub untyped : TypedParameter → TypedParameter
  untyped p = record { name = p.name; type = Any; has_default = p.has_default }

  takes_untyped : (p : TypedParameter) (o : Option Value) → TakesNamed bases k p o → TakesNamed bases k (untyped p) o
  takes_untyped p (Some w) h = tt
  takes_untyped p None h = h

  fills_untyped : (ps : List TypedParameter) (vs : List Value) (named : List NamedValue) → Fills bases k ps vs named
      → Fills bases k (map untyped ps) vs named
  fills_untyped [] [] named h = h
  fills_untyped [] (v ∷ vs) named h = h
  fills_untyped (p ∷ ps) (v ∷ vs) named h = (tt, (h.1.0, fills_untyped ps vs named h.1.1))
  fills_untyped (p ∷ ps) [] named h = (takes_untyped p (value_named p.name named) h.0, fills_untyped ps [] named h.1)

  names_untyped : (ps : List TypedParameter) → parameter_names (map untyped ps) ≡ parameter_names ps
  names_untyped [] = refl
  names_untyped (p ∷ ps) = ap (λ l. p.name ∷ l) (names_untyped ps)

  all_untyped : (ps : List TypedParameter) (named more : List NamedValue) → AllFor more ps
      → AllFor more (map untyped ps)
  all_untyped ps named [] h = tt
  all_untyped ps named (a ∷ more) h = (ap (is_one_of a.name) (names_untyped ps) ∙ h.0, all_untyped ps named more h.1)

  pub suits_untyped : (ps : List TypedParameter) (vs : List Value) (named : List NamedValue) → Suits bases k ps vs named
      → Suits bases k (map untyped ps) vs named
  suits_untyped ps vs named h = record {
    fills = fills_untyped ps vs named h.fills;
    all_for =
        all_untyped ps named named h.all_for;
  }

  default_untyped : (t : Tree) (b : Test) (v : Option Value) → DefaultHas bases k t b v → DefaultHas bases k Any b v
  default_untyped t true (Some v) h = (h.0, tt)
  default_untyped t true None h = h
  default_untyped t false None h = h
  default_untyped t false (Some v) h = h

  pub defaults_untyped : (ps : List state.FormalParameter) (qs : List TypedParameter) → DefaultsHave bases k ps qs
      → DefaultsHave bases k ps (map untyped qs)
  defaults_untyped [] [] h = h
  defaults_untyped [] (q ∷ qs) h = h
  defaults_untyped (p ∷ ps) [] h = h
  defaults_untyped (p ∷ ps) (q ∷ qs) h =
      (h.0, (default_untyped q.type q.has_default p.default h.1.0, defaults_untyped ps qs h.1.1))

  pub shape_untyped : (ps qs : List TypedParameter) → has_shape_of ps qs ≡ true
      → has_shape_of (map untyped ps) (map untyped qs) ≡ true
  shape_untyped [] [] e = e
  shape_untyped [] (q ∷ qs) e = e
  shape_untyped (p ∷ ps) [] e = e
  shape_untyped (p ∷ ps) (q ∷ qs) e =
      let a = and_parts (bytes_eq p.name q.name) ((not p.has_default || q.has_default) && has_shape_of ps qs) e in
      let b = and_parts (not p.has_default || q.has_default) (has_shape_of ps qs) a.1 in
      λ i. a.0 i && (b.0 i && shape_untyped ps qs b.1 i)

  pub static_untyped : (ps qs : List TypedParameter) → StaticInto (map untyped ps) (map untyped qs)
  static_untyped [] qs = tt
  static_untyped (p ∷ ps) [] = tt
  static_untyped (p ∷ ps) (q ∷ qs) = (same, static_untyped ps qs)

  -- arguments that suit the parameters of what was called are bound to what was made of them
  pub suited_bound : (ps : List state.FormalParameter) (qs : List TypedParameter) (vs : List Value) (named : List NamedValue)
      → DefaultsHave bases k ps qs → Suits bases k qs vs named → Filled bases k qs (bound_arguments ps vs named)
  suited_bound ps qs vs named d h = binds bases k named ps qs vs d h.all_for h.fills
