-- The frame of a call: it has the function's locals, and its parameters hold values of their types.
use Rattle.std.proofs.Common.{◌≡◌, ℕ, suc, List, [], ◌∷◌, ◌++◌, map, refl, sym, ap, ◌∙◌, subst, inl, inr, arith}
use Rattle.std.specs.Prelude.{Bool as Test, true, false, not, ◌||◌, if◌then◌else◌, Option, Some, None, bytes_eq}
use Rattle.std.specs.Option.{option_map}
use Rattle.std.proofs.lemmas.Slice.Eq.{bytes_eq-Decides}
use Rattle.std.proofs.lemmas.Bool.{or_parts, or_right}
use Rattle.pc_tree.specs.Tree.{Name, to_name, to_attribute, to_index, Stmt, pass, breaks, continues, returns, asserts}
use Rattle.pc_tree.specs.Tree.{annotated, assigns, evaluates, while_loop, for_loop, conditional, Stmts, no_stmts}
use Rattle.pc_tree.specs.Tree.{more_stmts, Branches, no_branches, more_branches}
use Rattle.pc_tree.specs.Stopping.{bound_by_stmt, bound_by, bound_by_branches}
use Rattle.pc_scope.specs.declared.resolution.NameMeaning.{NameMeaning}
use Rattle.pc_scope.specs.declared.resolution.NameMeaning.TheVariants as meaning
use Rattle.pc_scope.specs.Reserved.{is_builtin_name}
use Rattle.pc_scope.specs.Bindings.{texts}
use Rattle.pc_scope.specs.Resolution.{index_of, is_one_of, first_of_each}
use Rattle.pc_types.specs.Tree.{Tree}
use Rattle.pc_types.specs.Below.{Bases}
use Rattle.pc_class.specs.Facts.{TypedParameter}
use Rattle.pc_flow.specs.Environment.{Env, current, declared_type, assign}
use Rattle.pc_module_rules.specs.Modules.{DeclaredEntry, LawfulEntry, assigned_at_entry, entry_env}
use Rattle.pc_module_rules.specs.Statements.{NamesBound}
use Rattle.pc_value.specs.Value.{Value}
use Rattle.pc_value.specs.Texts.{same_text}
use Rattle.pc_machine.specs.State.{Local, Frame}
use Rattle.pc_machine.specs.Names.{names_bound, names_bound_by, names_bound_in, unbound, local_by_name}
use Rattle.pc_sound.specs.Values.{HeapTyping, HasType}
use Rattle.pc_sound.proofs.Steps.BoundLocals.{HasLocal, HasLocals}
use Rattle.pc_sound.proofs.Steps.Judgment.{HasLocalNamed, HasNames}
use Rattle.pc_sound.proofs.TruthValues.{not_both, or_in_turn}
use Rattle.pc_sound.proofs.Lists.{same_text_back}
use Rattle.pc_sound.proofs.Steps.Frames.{index_same, assigned_cases}

-- ---- the names of a frame

abbrev pub frame_names : Frame → List (List ℕ)
frame_names frame = map (λ (l : Local). l.name) frame

pub held_among : (word : List ℕ) (frame : Frame) → is_one_of word (frame_names frame) ≡ true → HasLocalNamed word frame
held_among word [] e = absurd (grind (arith, e))
held_among word (l ∷ rest) e = go (held_among word rest) (same_text l.name word) refl
  where
    go : (is_one_of word (frame_names rest) ≡ true → HasLocalNamed word rest) → (b : Test) → same_text l.name word ≡ b
        → HasLocalNamed word (l ∷ rest)
    go others true t = record { value = l.value; is = ap (λ b. if b then Some l.value else local_by_name word rest) t }
    go others false t = elim (or_in_turn (bytes_eq word l.name) (is_one_of word (frame_names rest)) e) [
      | inl a ↦ absurd (not_both (same_text_back l.name word ∙ a) t)
      | inr b ↦ let h = others b.1 in record {
        value = h.value;
        is =
            ap (λ b. if b then Some l.value else local_by_name word rest) t ∙ h.is;
      }
    ]

pub none_among : (word : List ℕ) (frame : Frame) → is_one_of word (frame_names frame) ≡ false
    → local_by_name word frame ≡ None
none_among word [] e = refl
none_among word (l ∷ rest) e =
    let n = or_parts (bytes_eq word l.name) (is_one_of word (frame_names rest)) e in
    ap (λ b. if b then Some l.value else local_by_name word rest) (same_text_back l.name word ∙ n.0)
    ∙ none_among word rest n.1

pub names_of_append : (xs ys : Frame) → frame_names (xs ++ ys) ≡ frame_names xs ++ frame_names ys
names_of_append [] ys = refl
names_of_append (x ∷ xs) ys = ap (λ l. x.name ∷ l) (names_of_append xs ys)

pub names_of_unbound : (ns : List (List ℕ)) → frame_names (map unbound ns) ≡ ns
names_of_unbound [] = refl
names_of_unbound (n ∷ ns) = ap (λ l. n ∷ l) (names_of_unbound ns)

-- the texts of names one list after the other
pub texts_append : (xs ys : List Name) → texts (xs ++ ys) ≡ texts xs ++ texts ys
texts_append [] ys = refl
texts_append (x ∷ xs) ys = ap (λ l. x.text ∷ l) (texts_append xs ys)

-- the names that statements bind are the same in a run and in scopes
mutual
  pub bound_names : (b : Stmts) → names_bound b ≡ texts (bound_by b)
  bound_names no_stmts = refl
  bound_names (more_stmts s rest) = (λ i. bound_names_by s i ++ bound_names rest i)
      ∙ sym (texts_append (bound_by_stmt s) (bound_by rest))

  pub bound_names_by : (s : Stmt) → names_bound_by s ≡ texts (bound_by_stmt s)
  bound_names_by (pass p) = refl
  bound_names_by (breaks p) = refl
  bound_names_by (continues p) = refl
  bound_names_by (returns p e) = refl
  bound_names_by (asserts p e m) = refl
  bound_names_by (annotated p n a e) = refl
  bound_names_by (assigns p (to_name n) e) = refl
  bound_names_by (assigns p (to_attribute q o f) e) = refl
  bound_names_by (assigns p (to_index q o i) e) = refl
  bound_names_by (evaluates p e) = refl
  bound_names_by (while_loop p e body) = bound_names body
  bound_names_by (for_loop p n e body) = ap (λ l. n.text ∷ l) (bound_names body)
  bound_names_by (conditional p bs o) = (λ i. bound_names_in bs i ++ bound_names o i)
      ∙ sym (texts_append (bound_by_branches bs) (bound_by o))

  pub bound_names_in : (bs : Branches) → names_bound_in bs ≡ texts (bound_by_branches bs)
  bound_names_in no_branches = refl
  bound_names_in (more_branches e body rest) = (λ i. bound_names body i ++ bound_names_in rest i)
      ∙ sym (texts_append (bound_by body) (bound_by_branches rest))

-- ---- locals

-- a local is one of the names
index_among : (word : List ℕ) (before ts : List (List ℕ)) (x : ℕ) → index_of word (first_of_each before ts) ≡ Some x
    → is_one_of word ts ≡ true
index_among word before [] x e = absurd (grind (arith, e))
index_among word before (t ∷ ts) x e = go (is_builtin_name t || is_one_of t before) refl
    (λ y f. index_among word before ts y f) (λ y f. index_among word (t ∷ before) ts y f)
  where
    shifted : (o : Option ℕ) → option_map suc o ≡ Some x → (y : ℕ) × (o ≡ Some y)
    shifted None f = absurd (grind (arith, f))
    shifted (Some y) f = (y, refl)

    first : (c : Test) → bytes_eq word t ≡ c → index_of word (t ∷ first_of_each (t ∷ before) ts) ≡ Some x
        → ((y : ℕ) → index_of word (first_of_each (t ∷ before) ts) ≡ Some y → is_one_of word ts ≡ true)
        → is_one_of word (t ∷ ts) ≡ true
    first true c f later = ap (λ b. b || is_one_of word ts) c
    first false c f later =
        let s = shifted (index_of word (first_of_each (t ∷ before) ts))
        (sym (ap (λ b. if b then Some 0 else option_map suc (index_of word (first_of_each (t ∷ before) ts))) c)
        ∙ f) in
        or_right (bytes_eq word t) (is_one_of word ts) (later s.0 s.1)

    go : (b : Test) → (is_builtin_name t || is_one_of t before) ≡ b
        → ((y : ℕ) → index_of word (first_of_each before ts) ≡ Some y → is_one_of word ts ≡ true)
        → ((y : ℕ) → index_of word (first_of_each (t ∷ before) ts) ≡ Some y → is_one_of word ts ≡ true)
        → is_one_of word (t ∷ ts) ≡ true
    go true b dropped later = or_right (bytes_eq word t) (is_one_of word ts)
        (dropped x (ap (λ c. index_of word (if c then first_of_each before ts else t ∷ first_of_each (t ∷ before) ts))
        (sym b) ∙ e))
    go false b dropped later = first (bytes_eq word t) refl
        (ap (λ c. index_of word (if c then first_of_each before ts else t ∷ first_of_each (t ∷ before) ts)) (sym b) ∙ e)
        later

-- one of the names that is not reserved is a local, or was one before
among_index : (word : List ℕ) → is_builtin_name word ≡ false → (before ts : List (List ℕ)) → is_one_of word ts ≡ true
    → index_of word (first_of_each before ts) ≡ None → is_one_of word before ≡ true
among_index word free before [] e n = absurd (grind (arith, e))
among_index word free before (t ∷ ts) e n = go (is_builtin_name t || is_one_of t before) refl
    (among_index word free before ts) (among_index word free (t ∷ before) ts)
  where
    here : (is_builtin_name t || is_one_of t before) ≡ true → bytes_eq word t ≡ true → is_one_of word before ≡ true
    here b c =
        let same = (bytes_eq-Decides word t).0 c in
        elim (or_in_turn (is_builtin_name t) (is_one_of t before) b) [
          | inl r ↦ absurd (not_both (ap is_builtin_name same ∙ r) free)
          | inr m ↦ subst (λ w. is_one_of w before ≡ true) (sym same) m.1
        ]

    unshifted : (o : Option ℕ) → option_map suc o ≡ None → o ≡ None
    unshifted None f = refl
    unshifted (Some y) f = absurd (grind (arith, f))

    not_first : (c : Test) → bytes_eq word t ≡ c → index_of word (t ∷ first_of_each (t ∷ before) ts) ≡ None
        → (bytes_eq word t ≡ false) × (index_of word (first_of_each (t ∷ before) ts) ≡ None)
    not_first true c f =
        absurd
        (grind (
          arith,
          sym (ap (λ b. if b then Some 0 else option_map suc (index_of word (first_of_each (t ∷ before) ts))) c)
              ∙ f,
        ))
    not_first false c f = (
      c,
      unshifted (index_of word (first_of_each (t ∷ before) ts))
          (sym (ap (λ b. if b then Some 0 else option_map suc (index_of word (first_of_each (t ∷ before) ts))) c) ∙ f),
    )

    go : (b : Test) → (is_builtin_name t || is_one_of t before) ≡ b
        → (is_one_of word ts ≡ true → index_of word (first_of_each before ts) ≡ None → is_one_of word before ≡ true)
        → (is_one_of word ts ≡ true → index_of word (first_of_each (t ∷ before) ts) ≡ None → is_one_of word (t ∷ before)
        ≡ true) → is_one_of word before ≡ true
    go true b dropped later = elim (or_in_turn (bytes_eq word t) (is_one_of word ts) e) [
      | inl c ↦ here b c
      | inr m ↦
          dropped m.1
          (ap (λ c. index_of word (if c then first_of_each before ts else t ∷ first_of_each (t ∷ before) ts)) (sym b)
          ∙ n)
    ]
    go false b dropped later =
        let f = not_first (bytes_eq word t) refl
        (ap (λ c. index_of word (if c then first_of_each before ts else t ∷ first_of_each (t ∷ before) ts)) (sym b)
        ∙ n) in
        elim (or_in_turn (bytes_eq word t) (is_one_of word ts) e) [
          | inl c ↦ absurd (not_both c f.0)
          | inr m ↦ elim (or_in_turn (bytes_eq word t) (is_one_of word before) (later m.1 f.1))
              [ inl c ↦ absurd (not_both c f.0) | inr d ↦ d.1 ]
        ]

-- a name that is not reserved has a number
pub numbered : (word : List ℕ) (ts : List (List ℕ)) → is_one_of word ts ≡ true → is_builtin_name word ≡ false → (x : ℕ)
    × (index_of word (first_of_each [] ts) ≡ Some x)
numbered word ts among free = go (index_of word (first_of_each [] ts)) refl
  where
    go : (o : Option ℕ) → index_of word (first_of_each [] ts) ≡ o → (x : ℕ)
        × (index_of word (first_of_each [] ts) ≡ Some x)
    go None e = absurd (grind (arith, among_index word free [] ts among e))
    go (Some x) e = (x, e)

-- the frame has just the locals
pub entry_has_names : (ts : List (List ℕ)) (frame : Frame) → frame_names frame ≡ ts
    → ((word : List ℕ) → is_one_of word ts ≡ true → is_builtin_name word ≡ false) → HasNames (first_of_each [] ts) frame
entry_has_names ts frame e free = record {
  held = λ word x named. held_among word frame (ap (is_one_of word) e ∙ index_among word [] ts x named);
  others = λ word none. go word none (is_one_of word ts) refl;
}
  where
    go : (word : List ℕ) → index_of word (first_of_each [] ts) ≡ None → (b : Test) → is_one_of word ts ≡ b
        → local_by_name word frame ≡ None
    go word none true among = absurd (grind (arith, among_index word (free word among) [] ts among none))
    go word none false among = none_among word frame (ap (is_one_of word) e ∙ among)

-- ---- parameters

-- a parameter holds a value of its type
pub record ParameterHas (bases : Bases) (k : HeapTyping) (p : TypedParameter) (l : Local) : Type 0 where
  pub value : Value
  pub is : l.value ≡ Some value
  pub same : l.name ≡ p.name
  pub has : HasType bases k p.type value

-- each parameter holds a value of its type, in order
abbrev pub ParametersHave : Bases → HeapTyping → List TypedParameter → List Local → Type 0
ParametersHave bases k [] [] = Unit {0}
ParametersHave bases k (p ∷ ps) (l ∷ ls) = ParameterHas bases k p l × ParametersHave bases k ps ls
ParametersHave bases k _ _ = ⊥

pub parameters_named : (bases : Bases) (k : HeapTyping) (ps : List TypedParameter) (ls : List Local)
    → ParametersHave bases k ps ls → frame_names ls ≡ map (λ (p : TypedParameter). p.name) ps
parameters_named bases k [] [] h = refl
parameters_named bases k [] (l ∷ ls) h = absurd h
parameters_named bases k (p ∷ ps) [] h = absurd h
parameters_named bases k (p ∷ ps) (l ∷ ls) h = λ i. h.0.same i ∷ parameters_named bases k ps ls h.1 i

module _ (bases : Bases) (k : HeapTyping) (names : List (List ℕ)) (declared : List Tree) (resolve : List ℕ → NameMeaning)
    (local : (word : List ℕ) (x : ℕ) → resolve word ≡ meaning.Local x → index_of word names ≡ Some x) (frame : Frame) where
  -- after some of the parameters: what was assigned so far holds, and the others' values are those of the locals left
  entered_holds : (seen : NamesBound) (ps : List TypedParameter) (ls : List Local) (tail : Frame) (env : Env)
      → ParametersHave bases k ps ls → LawfulEntry resolve declared seen ps → HasLocals bases k names declared env frame
      → ((word : List ℕ) → is_one_of word seen ≡ false → local_by_name word frame ≡ local_by_name word (ls ++ tail))
      → HasLocals bases k names declared (entry_env resolve seen ps env) frame
  entered_holds seen [] ls tail env args law locals left = locals
  entered_holds seen (p ∷ ps) [] tail env args law locals left = absurd args
  entered_holds seen (p ∷ ps) (l ∷ ls) tail env args law locals left =
      entered_holds (p.name ∷ seen) ps ls tail (assigned_at_entry (not (is_one_of p.name seen)) (resolve p.name) p.type
      env) args.1 law.1 (first (is_one_of p.name seen) refl (resolve p.name) refl law.0) others
    where
      others : (word : List ℕ) → is_one_of word (p.name ∷ seen) ≡ false → local_by_name word frame ≡ local_by_name word
          (ls ++ tail)
      others word e =
          let n = or_parts (bytes_eq word p.name) (is_one_of word seen) e in
          left word n.1 ∙ ap (λ b. if b then Some l.value else local_by_name word (ls ++ tail))
          (same_text_back l.name word ∙ ap (bytes_eq word) args.0.same ∙ n.0)

      bound : (x : ℕ) → is_one_of p.name seen ≡ false → resolve p.name ≡ meaning.Local x → declared_type declared x ≡ p.type
          → HasLocals bases k names declared (assign env x p.type) frame
      bound x new is d = record { each = each }
        where
          here : local_by_name p.name frame ≡ Some (Some args.0.value)
          here = left p.name new ∙ ap (λ b. if b then Some l.value else local_by_name p.name (ls ++ tail))
              ((bytes_eq-Decides l.name p.name).1 args.0.same) ∙ ap Some args.0.is

          each : (word : List ℕ) (y : ℕ) (t : Tree) → index_of word names ≡ Some y → current (assign env x p.type) y
              ≡ Some t → HasLocal bases k declared frame word y t
          each word y t named e = elim (assigned_cases env x p.type y t e) [
            | inl a ↦
                let same = index_same word p.name names x (named ∙ ap Some a.0) (local p.name x is) in
                record {
                  value = args.0.value;
                  is = subst (λ w. local_by_name w frame ≡ Some (Some args.0.value)) (sym same) here;
                  now = subst (λ u. HasType bases k u args.0.value) (sym a.1) args.0.has;
                  always = subst (λ u. HasType bases k u args.0.value) (sym (ap (declared_type declared) a.0 ∙ d))
                      args.0.has;
                }
            | inr o ↦ locals.each word y t named o.is
          ]

      first : (b : Test) → is_one_of p.name seen ≡ b → (r : NameMeaning) → resolve p.name ≡ r
          → DeclaredEntry declared (not b) r p.type → HasLocals bases k names declared
          (assigned_at_entry (not b) r p.type env) frame
      first true e r is d = locals
      first false e (meaning.Local x) is d = bound x e is d
      first false e (meaning.Const i) is d = locals
      first false e (meaning.Func i) is d = locals
      first false e (meaning.Class i) is d = locals
      first false e (meaning.Builtin b) is d = locals
      first false e meaning.None is d = locals

  -- at the entry each parameter holds a value of its type
  pub entry_holds : (ps : List TypedParameter) (ls : List Local) (tail : Frame) (env : Env) → frame ≡ ls ++ tail
      → ParametersHave bases k ps ls → LawfulEntry resolve declared [] ps → HasLocals bases k names declared env frame
      → HasLocals bases k names declared (entry_env resolve [] ps env) frame
  entry_holds ps ls tail env is args law locals = entered_holds [] ps ls tail env args law locals
      (λ word e. ap (local_by_name word) is)
