-- Arguments that match a signature fill its parameters, each with a value of its type.
use Rattle.std.proofs.Common.{◌≡◌, ℕ, zero, suc, List, [], ◌∷◌, map, refl, sym, ap, ◌∙◌, subst, inl, inr, arith}
use Rattle.std.specs.Prelude.{◌⊎◌, Bool as Test, true, false, ◌&&◌, ◌||◌, not, if◌then◌else◌, length, take, drop}
use Rattle.std.specs.Prelude.{Option, Some, None, bytes_eq}
use Rattle.std.specs.List.{list_all}
use Rattle.std.specs.Option.{option_map}
use Rattle.std.proofs.lemmas.Bool.Decides.{nat_tests}
use Rattle.std.proofs.lemmas.Slice.Eq.{bytes_eq-Decides}
use Rattle.std.proofs.lemmas.Bool.{and_parts, or_parts, or_right}
use Rattle.pc_tree.specs.Tree.{Name}
use Rattle.pc_scope.specs.Bindings.{texts}
use Rattle.pc_scope.specs.Resolution.{is_one_of}
use Rattle.pc_types.specs.Below.{Bases}
use Rattle.pc_class.specs.Facts.{TypedParameter, field_by_name}
use Rattle.pc_rules.specs.Calls.{once_each, index_of_parameter, is_free, are_filled, parameter_names}
use Rattle.pc_value.specs.Value.{Value}
use Rattle.pc_value.specs.Texts.{same_text}
use Rattle.pc_machine.specs.State as state
use Rattle.pc_machine.specs.State.{Local}
use Rattle.pc_machine.specs.Calls.{NamedValue, value_named, is_parameter, are_parameters, first_some, value_taken}
use Rattle.pc_machine.specs.Calls.{and_others, filled_parameters, bound_arguments}
use Rattle.pc_sound.specs.Values.{HeapTyping, HasType}
use Rattle.pc_sound.specs.Loaded.{DefaultHas, DefaultsHave}
use Rattle.pc_sound.specs.Arguments.{TakesNamed, Fills, AllFor}
use Rattle.pc_sound.proofs.TruthValues.{not_both, or_in_turn}
use Rattle.pc_sound.proofs.Calls.EntryFrames.{ParametersHave}

-- ---- the value of each parameter

pub record Filled (bases : Bases) (k : HeapTyping) (ps : List TypedParameter) (o : Option (List Local)) : Type 0 where
  pub locals : List Local
  pub is : o ≡ Some locals
  pub have : ParametersHave bases k ps locals

module _ (bases : Bases) (k : HeapTyping) (named : List NamedValue) where
  one_filled : (p : state.FormalParameter) (q : TypedParameter) (ps : List TypedParameter) (o : Option Value) (v : Value)
      (rest : Option (List Local)) → p.name ≡ q.name → o ≡ Some v → HasType bases k q.type v → Filled bases k ps rest
      → Filled bases k (q ∷ ps) (and_others p o rest)
  one_filled p q ps o v rest same is has others = record {
    locals = record { name = p.name; value = Some v } ∷ others.locals;
    is = (λ i. and_others p (is i) (others.is i));
    have = (record { value = v; is = refl; same = same; has = has }, others.have);
  }

  by_name : (p : state.FormalParameter) (q : TypedParameter) (ps : List TypedParameter) (o : Option Value)
      (rest : Option (List Local)) → p.name ≡ q.name → DefaultHas bases k q.type q.has_default p.default
      → TakesNamed bases k q o → Filled bases k ps rest → Filled bases k (q ∷ ps)
      (and_others p (value_taken p None o) rest)
  by_name p q ps (Some w) rest same default takes others = one_filled p q ps (Some w) w rest same refl takes others
  by_name p q ps None rest same default takes others = go p.default refl
      (subst (λ b. DefaultHas bases k q.type b p.default) takes default)
    where
      go : (d : Option Value) → p.default ≡ d → DefaultHas bases k q.type true d
          → Filled bases k (q ∷ ps) (and_others p (first_some None p.default) rest)
      go None e h = absurd h
      go (Some v) e h = one_filled p q ps p.default v rest same e h.1 others

  pub fills : (ps : List state.FormalParameter) (qs : List TypedParameter) (vs : List Value) → DefaultsHave bases k ps qs
      → Fills bases k qs vs named → Filled bases k qs (filled_parameters ps vs named)
  fills [] [] [] d f = record { locals = []; is = refl; have = tt }
  fills [] [] (v ∷ vs) d f = absurd f
  fills [] (q ∷ qs) vs d f = absurd d
  fills (p ∷ ps) [] vs d f = absurd d
  fills (p ∷ ps) (q ∷ qs) (v ∷ vs) d f =
      one_filled p q qs (value_taken p (Some v) (value_named p.name named)) v (filled_parameters ps vs named) d.0
      (ap (value_taken p (Some v)) (ap (λ w. value_named w named) d.0 ∙ f.1.0)) f.0 (fills ps qs vs d.1.1 f.1.1)
  fills (p ∷ ps) (q ∷ qs) [] d f =
      by_name p q qs (value_named p.name named) (filled_parameters ps [] named) d.0 d.1.0
      (subst (λ w. TakesNamed bases k q (value_named w named)) (sym d.0) f.0) (fills ps qs [] d.1.1 f.1)

  -- ---- names

  for_parameter : (word : List ℕ) (ps : List state.FormalParameter) (qs : List TypedParameter) → DefaultsHave bases k ps qs
      → is_one_of word (parameter_names qs) ≡ true → is_parameter word ps ≡ true
  for_parameter word [] [] d e = e
  for_parameter word [] (q ∷ qs) d e = absurd d
  for_parameter word (p ∷ ps) [] d e = absurd d
  for_parameter word (p ∷ ps) (q ∷ qs) d e = go (bytes_eq word q.name) refl e (for_parameter word ps qs d.1.1)
    where
      go : (b : Test) → bytes_eq word q.name ≡ b → (b || is_one_of word (parameter_names qs)) ≡ true
          → (is_one_of word (parameter_names qs) ≡ true → is_parameter word ps ≡ true) → is_parameter word (p ∷ ps)
          ≡ true
      go true t e others = ap (λ b. b || is_parameter word ps) ((bytes_eq-Decides p.name word).1
          (d.0 ∙ sym ((bytes_eq-Decides word q.name).0 t)))
      go false t e others = or_right (same_text p.name word) (is_parameter word ps) (others e)

  all_parameters : (more : List NamedValue) (ps : List state.FormalParameter) (qs : List TypedParameter)
      → DefaultsHave bases k ps qs → AllFor more qs → are_parameters more ps ≡ true
  all_parameters [] ps qs d h = refl
  all_parameters (a ∷ more) ps qs d h = (λ i. for_parameter a.name ps qs d h.0 i && all_parameters more ps qs d h.1 i)

  -- arguments that suit are bound
  pub binds : (ps : List state.FormalParameter) (qs : List TypedParameter) (vs : List Value) → DefaultsHave bases k ps qs
      → AllFor named qs → Fills bases k qs vs named → Filled bases k qs (bound_arguments ps vs named)
  binds ps qs vs d all f =
      let h = fills ps qs vs d f in
      record {
        locals = h.locals;
        is = ap (λ b. if b then filled_parameters ps vs named else None)
            (all_parameters named ps qs d all) ∙ h.is;
        have = h.have;
      }

-- ---- distinct names

-- no name of a parameter stands among those before it
abbrev pub Distinct : (before : List (List ℕ)) → List TypedParameter → Type 0
Distinct before [] = Unit {0}
Distinct before (p ∷ ps) = (is_one_of p.name before ≡ false) × Distinct (p.name ∷ before) ps

-- ---- a call that suits

-- each value by name is of the type of the first parameter of its name
abbrev pub NamedHave : Bases → HeapTyping → List TypedParameter → List NamedValue → Type 0
NamedHave bases k params named = (word : List ℕ) (w : Value) (q : TypedParameter) → value_named word named ≡ Some w
    → field_by_name params word ≡ Some q → HasType bases k q.type w

-- the names of arguments by name
abbrev pub names_of : List NamedValue → List (List ℕ)
names_of named = map (λ (a : NamedValue). a.name) named

-- the values by position are of the parameters' types
abbrev pub PositionalHave : Bases → HeapTyping → List TypedParameter → List Value → Type 0
PositionalHave bases k ps [] = Unit {0}
PositionalHave bases k [] (v ∷ vs) = ⊥
PositionalHave bases k (p ∷ ps) (v ∷ vs) = HasType bases k p.type v × PositionalHave bases k ps vs

-- a value by name is one of the arguments by name
named_among : (word : List ℕ) (named : List NamedValue) (w : Value) → value_named word named ≡ Some w
    → is_one_of word (names_of named) ≡ true
named_among word [] w e = absurd (grind (arith, e))
named_among word (a ∷ rest) w e = go (same_text a.name word) refl e (named_among word rest w)
  where
    go : (b : Test) → same_text a.name word ≡ b → (if b then Some a.value else value_named word rest) ≡ Some w
        → (value_named word rest ≡ Some w → is_one_of word (names_of rest) ≡ true)
        → is_one_of word (names_of (a ∷ rest)) ≡ true
    go true t e others = ap (λ b. b || is_one_of word (names_of rest))
        ((bytes_eq-Decides word a.name).1 (sym ((bytes_eq-Decides a.name word).0 t)))
    go false t e others = or_right (bytes_eq word a.name) (is_one_of word (names_of rest)) (others e)

not_named : (word : List ℕ) (named : List NamedValue) → is_one_of word (names_of named) ≡ true
    → value_named word named ≡ None → ⊥
not_named word [] e n = grind (arith, e)
not_named word (a ∷ rest) e n = go (same_text a.name word) refl n
    (or_in_turn (bytes_eq word a.name) (is_one_of word (names_of rest)) e) (not_named word rest)
  where
    go : (b : Test) → same_text a.name word ≡ b → (if b then Some a.value else value_named word rest) ≡ None
        → (bytes_eq word a.name ≡ true) ⊎ ((bytes_eq word a.name ≡ false) × (is_one_of word (names_of rest) ≡ true))
        → (is_one_of word (names_of rest) ≡ true → value_named word rest ≡ None → ⊥) → ⊥
    go true t n c others = grind (arith, n)
    go false t n (inl c) others = not_both ((bytes_eq-Decides a.name word).1 (sym ((bytes_eq-Decides word a.name).0 c)))
        t
    go false t n (inr c) others = others c.1 n

-- the names that a call gives once each are those that it gives
pub once_among : (word : List ℕ) (before : List (List ℕ)) (ns : List Name) → is_one_of word before ≡ false
    → is_one_of word (texts ns) ≡ true → is_one_of word (once_each before ns) ≡ true
once_among word before [] new e = e
once_among word before (n ∷ ns) new e = go (is_one_of n.text before) refl
    (or_in_turn (bytes_eq word n.text) (is_one_of word (texts ns)) e) (once_among word before ns new)
    (once_among word (n.text ∷ before) ns)
  where
    go : (b : Test) → is_one_of n.text before ≡ b → (bytes_eq word n.text ≡ true)
        ⊎ ((bytes_eq word n.text ≡ false) × (is_one_of word (texts ns) ≡ true))
        → (is_one_of word (texts ns) ≡ true → is_one_of word (once_each before ns) ≡ true)
        → (is_one_of word (n.text ∷ before) ≡ false → is_one_of word (texts ns) ≡ true
        → is_one_of word (once_each (n.text ∷ before) ns) ≡ true)
        → is_one_of word (if b then once_each before ns else n.text ∷ once_each (n.text ∷ before) ns) ≡ true
    go true t (inl c) dropped kept =
        absurd (not_both t (subst (λ w. is_one_of w before ≡ false) ((bytes_eq-Decides word n.text).0 c) new))
    go true t (inr c) dropped kept = dropped c.1
    go false t (inl c) dropped kept = ap (λ b. b || is_one_of word (once_each (n.text ∷ before) ns)) c
    go false t (inr c) dropped kept = or_right (bytes_eq word n.text) (is_one_of word (once_each (n.text ∷ before) ns))
        (kept ((λ i. c.0 i || new i)) c.1)

pub all_at : (p : List ℕ → Test) (words : List (List ℕ)) (word : List ℕ) → list_all p words ≡ true
    → is_one_of word words ≡ true → p word ≡ true
all_at p [] word all e = absurd (grind (arith, e))
all_at p (x ∷ xs) word all e =
    let h = and_parts (p x) (list_all p xs) all in
    elim (or_in_turn (bytes_eq word x) (is_one_of word xs) e) [
      | inl c ↦ ap p ((bytes_eq-Decides word x).0 c) ∙ h.0
      | inr c ↦ all_at p xs word h.1 c.1
    ]

-- ---- one parameter after another

-- of parameters after these names
abbrev pub NamedBehind : Bases → HeapTyping → (before : List (List ℕ)) → List TypedParameter → List NamedValue → Type 0
NamedBehind bases k before params named = (word : List ℕ) (w : Value) (q : TypedParameter)
    → is_one_of word before ≡ false → value_named word named ≡ Some w → field_by_name params word ≡ Some q
    → HasType bases k q.type w

one_field : (p : TypedParameter) (ps : List TypedParameter) (word : List ℕ) (b : Test) → bytes_eq word p.name ≡ b
    → field_by_name (p ∷ ps) word ≡ (if b then Some p else field_by_name ps word)
one_field p ps word b e = ap (λ c. if c then Some p else field_by_name ps word) e

one_position : (p : TypedParameter) (ps : List TypedParameter) (word : List ℕ) (b : Test) → bytes_eq word p.name ≡ b
    → index_of_parameter (p ∷ ps) word ≡ (if b then Some zero else option_map suc (index_of_parameter ps word))
one_position p ps word b e = ap (λ c. if c then Some zero else option_map suc (index_of_parameter ps word)) e

not_free_at_zero : (n : ℕ) → is_free (suc n) (Some zero) ≡ true → ⊥
not_free_at_zero n e = absurd (grind (arith, nat_tests, e))

free_behind : (n : ℕ) (o : Option ℕ) → is_free (suc n) (option_map suc o) ≡ true → is_free n o ≡ true
free_behind n None e = e
free_behind n (Some i) e = grind (arith, nat_tests, e)

fewer_before : (words before : List (List ℕ)) (x : List ℕ) (ps : List TypedParameter) → are_filled words (x ∷ before) ps
    ≡ true → are_filled words before ps ≡ true
fewer_before words before x ps e = less (x ∷ before) before (λ word n.
    (or_parts (bytes_eq word x) (is_one_of word before) n).1) ps e
  where
    wider : (xs ys : List (List ℕ)) (y : List ℕ) → ((word : List ℕ) → is_one_of word xs ≡ false
        → is_one_of word ys ≡ false) → (word : List ℕ) → is_one_of word (y ∷ xs) ≡ false
        → is_one_of word (y ∷ ys) ≡ false
    wider xs ys y h word n = go (bytes_eq word y) refl
      where
        go : (b : Test) → bytes_eq word y ≡ b → is_one_of word (y ∷ ys) ≡ false
        go true t = absurd (not_both (ap (λ b. b || is_one_of word xs) t) n)
        go false t = ap (λ b. b || is_one_of word ys) t ∙ h word (or_parts (bytes_eq word y) (is_one_of word xs) n).1

    one : (d a b c : Test) → (b ≡ false → c ≡ false) → (d || (a && not b)) ≡ true → (d || (a && not c)) ≡ true
    one true a b c h e = refl
    one false true true c h e = absurd (grind (arith, e))
    one false true false c h e = ap not (h refl)
    one false false b c h e = e

    less : (xs ys : List (List ℕ)) → ((word : List ℕ) → is_one_of word xs ≡ false → is_one_of word ys ≡ false)
        → (ps : List TypedParameter) → are_filled words xs ps ≡ true → are_filled words ys ps ≡ true
    less xs ys h [] e = e
    less xs ys h (p ∷ ps) e =
        let b = and_parts (p.has_default || (is_one_of p.name words && not (is_one_of p.name xs)))
        (are_filled words (p.name ∷ xs) ps) e in
        (λ i. one p.has_default (is_one_of p.name words) (is_one_of p.name xs) (is_one_of p.name ys) (h p.name) b.0 i
        && less (p.name ∷ xs) (p.name ∷ ys) (wider xs ys p.name h) ps b.1 i)

module _ (bases : Bases) (k : HeapTyping) (named : List NamedValue) (words : List (List ℕ)) (given_are : (word : List ℕ)
    → is_one_of word (names_of named) ≡ true → is_one_of word words ≡ true) (are_given : (word : List ℕ)
    → is_one_of word words ≡ true → is_one_of word (names_of named) ≡ true) where
  -- the parameters after those that take a value by position
  rest_fills : (before : List (List ℕ)) (ps : List TypedParameter) → Distinct before ps
      → NamedBehind bases k before ps named → are_filled words [] ps ≡ true → Fills bases k ps [] named
  rest_fills before [] distinct have filled_parameters = tt
  rest_fills before (p ∷ ps) distinct have all_filled = (
    takes (value_named p.name named) refl,
    rest_fills (p.name ∷ before) ps distinct.1 behind
        (fewer_before words [] p.name ps halves.1),
  )
    where
      halves : ((p.has_default || (is_one_of p.name words && not (is_one_of p.name []))) ≡ true)
          × (are_filled words (p.name ∷ []) ps ≡ true)
      halves = and_parts (p.has_default || (is_one_of p.name words && not (is_one_of p.name [])))
          (are_filled words (p.name ∷ []) ps) all_filled

      takes : (o : Option Value) → value_named p.name named ≡ o → TakesNamed bases k p o
      takes (Some w) e = have p.name w p distinct.0 e (one_field p ps p.name true
          ((bytes_eq-Decides p.name p.name).1 refl))
      takes None e = elim (or_in_turn p.has_default (is_one_of p.name words && not (is_one_of p.name [])) halves.0) [
        | inl d ↦ d
        | inr a ↦
            absurd
            (not_named p.name named (are_given p.name (and_parts (is_one_of p.name words) (not (is_one_of p.name []))
            a.1).0) e)
      ]

      behind : NamedBehind bases k (p.name ∷ before) ps named
      behind word w q new e f = go (bytes_eq word p.name) refl
        where
          go : (b : Test) → bytes_eq word p.name ≡ b → HasType bases k q.type w
          go true t = absurd (not_both (ap (λ b. b || is_one_of word before) t) new)
          go false t = have word w q (sym (ap (λ b. b || is_one_of word before) t) ∙ new) e (one_field p ps word false t
              ∙ f)

  -- all parameters
  pub suited_fills : (before : List (List ℕ)) (ps : List TypedParameter) (vs : List Value) → Distinct before ps
      → PositionalHave bases k ps vs → ((word : List ℕ) → is_one_of word words ≡ true
      → is_free (length vs) (index_of_parameter ps word) ≡ true) → NamedBehind bases k [] ps named
      → are_filled words (parameter_names (take (length vs) ps)) (drop (length vs) ps) ≡ true
      → Fills bases k ps vs named
  suited_fills before ps [] distinct positional free have all_filled = rest_fills before ps distinct
      (λ word w q new e f. have word w q refl e f) all_filled
  suited_fills before [] (v ∷ vs) distinct positional free have all_filled = absurd positional
  suited_fills before (p ∷ ps) (v ∷ vs) distinct positional free have all_filled = (
    positional.0,
    (
      none (value_named p.name named) refl,
      suited_fills (p.name ∷ before) ps vs distinct.1 positional.1 behind_free behind
          (fewer_before words (parameter_names (take (length vs) ps)) p.name (drop (length vs) ps) all_filled),
    ),
  )
    where
      other : (word : List ℕ) → is_one_of word words ≡ true → bytes_eq word p.name ≡ false
      other word among = go (bytes_eq word p.name) refl
        where
          go : (b : Test) → bytes_eq word p.name ≡ b → bytes_eq word p.name ≡ false
          go true t =
              absurd (not_free_at_zero (length vs) (sym (ap (is_free (suc (length vs))) (one_position p ps word true t))
              ∙ free word among))
          go false t = t

      none : (o : Option Value) → value_named p.name named ≡ o → value_named p.name named ≡ None
      none None e = e
      none (Some w) e = absurd (not_both ((bytes_eq-Decides p.name p.name).1 refl)
          (other p.name (given_are p.name (named_among p.name named w e))))

      behind_free : (word : List ℕ) → is_one_of word words ≡ true → is_free (length vs) (index_of_parameter ps word) ≡ true
      behind_free word among = free_behind (length vs) (index_of_parameter ps word)
          (sym (ap (is_free (suc (length vs))) (one_position p ps word false (other word among))) ∙ free word among)

      behind : NamedBehind bases k [] ps named
      behind word w q new e f = have word w q new e (one_field p ps word false
          (other word (given_are word (named_among word named w e))) ∙ f)

  free_some : (n : ℕ) (ps : List TypedParameter) (word : List ℕ) → is_free n (index_of_parameter ps word) ≡ true
      → is_one_of word (parameter_names ps) ≡ true
  free_some n ps word e = go (index_of_parameter ps word) refl e
    where
      found : (ps : List TypedParameter) (i : ℕ) → index_of_parameter ps word ≡ Some i → is_one_of word (parameter_names ps)
          ≡ true
      found [] i e = absurd (grind (arith, e))
      found (p ∷ ps) i e = at (bytes_eq word p.name) refl (λ j f. found ps j f)
        where
          shifted : (o : Option ℕ) → option_map suc o ≡ Some i → (j : ℕ) × (o ≡ Some j)
          shifted None f = absurd (grind (arith, f))
          shifted (Some j) f = (j, refl)

          at : (b : Test) → bytes_eq word p.name ≡ b → ((j : ℕ) → index_of_parameter ps word ≡ Some j
              → is_one_of word (parameter_names ps) ≡ true) → is_one_of word (parameter_names (p ∷ ps)) ≡ true
          at true t others = ap (λ b. b || is_one_of word (parameter_names ps)) t
          at false t others = let s = shifted (index_of_parameter ps word) (sym (one_position p ps word false t) ∙ e) in
              or_right (bytes_eq word p.name) (is_one_of word (parameter_names ps)) (others s.0 s.1)

      go : (o : Option ℕ) → index_of_parameter ps word ≡ o → is_free n o ≡ true → is_one_of word (parameter_names ps) ≡ true
      go None e f = absurd (grind (arith, f))
      go (Some i) e f = found ps i e

  pub all_for : (n : ℕ) (ps : List TypedParameter) (more : List NamedValue)
      → ((word : List ℕ) → is_one_of word (names_of more) ≡ true → is_free n (index_of_parameter ps word) ≡ true)
      → AllFor more ps
  all_for n ps [] free = tt
  all_for n ps (a ∷ more) free = (
    free_some n ps a.name (free a.name (ap (λ b. b || is_one_of a.name (names_of more))
        ((bytes_eq-Decides a.name a.name).1 refl))),
    all_for n ps more
        (λ word e. free word (or_right (bytes_eq word a.name) (is_one_of word (names_of more)) e)),
  )

  -- a call that suits binds its arguments
  pub suited_binds : (ps : List state.FormalParameter) (qs : List TypedParameter) (vs : List Value)
      → DefaultsHave bases k ps qs → Distinct [] qs → PositionalHave bases k qs vs → NamedBehind bases k [] qs named
      → ((word : List ℕ) → is_one_of word words ≡ true → is_free (length vs) (index_of_parameter qs word) ≡ true)
      → are_filled words (parameter_names (take (length vs) qs)) (drop (length vs) qs) ≡ true
      → Filled bases k qs (bound_arguments ps vs named)
  suited_binds ps qs vs d distinct positional have free all_filled = binds bases k named ps qs vs d
      (all_for (length vs) qs named (λ word e. free word (given_are word e)))
      (suited_fills [] qs vs distinct positional free have all_filled)
