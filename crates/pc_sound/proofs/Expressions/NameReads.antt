-- Names as values: locals, and constants of the module; a function, a class, a reserved name and an unknown one is an
-- error.
use Rattle.std.proofs.Common.{◌≡◌, ℕ, List, [], ◌∷◌, refl, sym, ap, ◌∙◌, subst, arith}
use Rattle.std.specs.Prelude.{Bool as Test, true, false, if◌then◌else◌, nat_lt, Option, Some, None, slice_get, codes}
use Rattle.std.specs.Prelude.{bytes_eq}
use Rattle.std.proofs.lemmas.Slice.Eq.{bytes_eq-Decides}
use Rattle.std.proofs.lemmas.Option.{same_Some}
use Rattle.pc_source.specs.ReservedNames.{is_reserved}
use Rattle.pc_tree.specs.declared.code.Code.{Code}
use Rattle.pc_tree.specs.declared.code.Code.TheVariants.{E02, E03, E20}
use Rattle.pc_tree.specs.Tree.{Name, name}
use Rattle.pc_scope.specs.declared.resolution.Builtin.{Builtin}
use Rattle.pc_scope.specs.declared.resolution.Builtin.TheVariants as builtin
use Rattle.pc_scope.specs.declared.resolution.NameMeaning.{NameMeaning}
use Rattle.pc_scope.specs.declared.resolution.NameMeaning.TheVariants as meaning
use Rattle.pc_scope.specs.Reserved.{reserved_builtins, beside, builtin_of}
use Rattle.pc_scope.specs.Resolution.{index_of}
use Rattle.pc_types.specs.Tree.{Tree}
use Rattle.pc_types.specs.Below.{Bases}
use Rattle.pc_flow.specs.Environment.{Env}
use Rattle.pc_rules.specs.Operations.{Label, in_error}
use Rattle.pc_rules.specs.Context.{Context, name_label, constant_label}
use Rattle.pc_rules.specs.Labels.{IsFoundAt}
use Rattle.pc_value.specs.Value.{Value}
use Rattle.pc_machine.specs.State.{State, Class, Globals, a_value, a_class}
use Rattle.pc_machine.specs.Names.{means_class, means_reserved, meaning_in_run, meaning_of_local, meaning_of_global}
use Rattle.pc_machine.specs.Names.{local_by_name, global_by_name}
use Rattle.pc_machine.specs.Calls.{value_of_meaning}
use Rattle.pc_machine.specs.Steps.{Parts}
use Rattle.pc_machine.specs.Evaluation.{eval_node}
use Rattle.pc_machine.specs.Free.{Step, free}
use Rattle.pc_sound.specs.Values.{HeapTyping, HasType}
use Rattle.pc_sound.specs.Ends.{EndsWell}
use Rattle.pc_sound.proofs.Lists.{not_empty}
use Rattle.pc_sound.proofs.Steps.Judgment.{Around, IsWellTyped, IsSafe, IsContextOf}
use Rattle.pc_sound.proofs.Steps.SafeSteps.{bind_safe, emits_safe, looks_safe}
use Rattle.pc_sound.proofs.Expressions.SimpleExpressions.{Covered, allowed}
use Rattle.pc_sound.proofs.Expressions.LocalReads.{local_safe}

-- the module has bound a constant, to a value of its type
pub record BoundValue (bases : Bases) (k : HeapTyping) (word : List ℕ) (globals : Globals) (t : Tree) : Type 0 where
  pub value : Value
  pub is : global_by_name word globals ≡ Some (a_value value)
  pub has : HasType bases k t value

-- the facts known outside of a body of the names that it may name
pub record KnowsNames (around : Around) (ctx : Context) : Type 0 where
  pub constant : (word : List ℕ) (i : ℕ) (t : Tree) → ctx.resolve word ≡ meaning.Const i
      → slice_get ctx.constants i ≡ Some t → (k : HeapTyping) (made : List Class) (globals : Globals)
      → around.outside k made globals → BoundValue around.bases k word globals t
  pub class : (word : List ℕ) (c : ℕ) → ctx.resolve word ≡ meaning.Class c → nat_lt c ctx.known ≡ true
      → (k : HeapTyping) (made : List Class) (globals : Globals) → around.outside k made globals
      → global_by_name word globals ≡ Some (a_class c)
  pub builtin : (word : List ℕ) (b : Builtin) → ctx.resolve word ≡ meaning.Builtin b → builtin_of word ≡ Some b
  pub reserved : (word : List ℕ) (b : Builtin) → builtin_of word ≡ Some b → ctx.resolve word ≡ meaning.Builtin b
  pub unbound : (word : List ℕ) (b : Builtin) → ctx.resolve word ≡ meaning.Builtin b
      → (k : HeapTyping) (made : List Class) (globals : Globals) → around.outside k made globals
      → global_by_name word globals ≡ None

-- ---- reserved names

-- the text of a built-in
abbrev pub builtin_text : Builtin → List ℕ
builtin_text builtin.Any = codes "Any"
builtin_text builtin.Annotations = codes "annotations"
builtin_text builtin.Bool = codes "bool"
builtin_text builtin.Dataclass = codes "dataclass"
builtin_text builtin.Dict = codes "dict"
builtin_text builtin.Int = codes "int"
builtin_text builtin.IsInstance = codes "isinstance"
builtin_text builtin.Len = codes "len"
builtin_text builtin.List = codes "list"
builtin_text builtin.Object = codes "object"
builtin_text builtin.Print = codes "print"
builtin_text builtin.Range = codes "range"
builtin_text builtin.Str = codes "str"
builtin_text builtin.Tuple = codes "tuple"

abbrev AreTexts : List (List ℕ × Builtin) → Type 0
AreTexts [] = Unit {0}
AreTexts (e ∷ es) = (e.0 ≡ builtin_text e.1) × AreTexts es

beside_text : (es : List (List ℕ × Builtin)) → AreTexts es → (word : List ℕ) (b : Builtin) → beside es word ≡ Some b
    → word ≡ builtin_text b
beside_text [] all word b e = absurd (grind (arith, e))
beside_text (x ∷ es) all word b e = go (bytes_eq x.0 word) refl e (λ e'. beside_text es all.1 word b e')
  where
    go : (t : Test) → bytes_eq x.0 word ≡ t → (if t then Some x.1 else beside es word) ≡ Some b
        → (beside es word ≡ Some b → word ≡ builtin_text b) → word ≡ builtin_text b
    go true is e rest = sym ((bytes_eq-Decides x.0 word).0 is) ∙ all.0 ∙ ap builtin_text (same_Some _ _ e)
    go false is e rest = rest e

pub text_of_builtin : (word : List ℕ) (b : Builtin) → builtin_of word ≡ Some b → word ≡ builtin_text b
unfolding builtin_of
text_of_builtin word b e = beside_text reserved_builtins (
  refl,
  (refl, (refl, (refl, (refl, (refl, (refl, (refl, (refl, (refl, (refl, (refl, (refl, (refl, tt))))))))))))),
) word b e

reserved_text : (b : Builtin) → is_reserved (builtin_text b) ≡ true
reserved_text builtin.Any = refl
reserved_text builtin.Annotations = refl
reserved_text builtin.Bool = refl
reserved_text builtin.Dataclass = refl
reserved_text builtin.Dict = refl
reserved_text builtin.Int = refl
reserved_text builtin.IsInstance = refl
reserved_text builtin.Len = refl
reserved_text builtin.List = refl
reserved_text builtin.Object = refl
reserved_text builtin.Print = refl
reserved_text builtin.Range = refl
reserved_text builtin.Str = refl
reserved_text builtin.Tuple = refl

-- ---- meanings

module _ (around : Around) (ctx : Context) (fits : IsContextOf around ctx) where
  -- a name that means no local is none in the frame
  pub no_local : (word : List ℕ) → ((x : ℕ) → ctx.resolve word ≡ meaning.Local x → ⊥)
      → (env : Env) (k : HeapTyping) (s : State) → IsWellTyped around env k s → local_by_name word s.frame ≡ None
  no_local word other env k s st = go (index_of word around.names) refl
    where
      go : (o : Option ℕ) → index_of word around.names ≡ o → local_by_name word s.frame ≡ None
      go None e = st.frame.others word e
      go (Some x) e = absurd (other x (fits.named word x e))

  -- the meaning of a name of the module
  pub meaning_outside : (word : List ℕ) → ((x : ℕ) → ctx.resolve word ≡ meaning.Local x → ⊥)
      → (env : Env) (k : HeapTyping) (s : State) → IsWellTyped around env k s
      → meaning_in_run word s ≡ meaning_of_global (is_reserved word) (global_by_name word s.globals)
  meaning_outside word other env k s st =
      ap (meaning_of_local (meaning_of_global (is_reserved word) (global_by_name word s.globals)))
      (no_local word other env k s st)

  module _ (knows : KnowsNames around ctx) (env : Env) where
    const_no_local : (word : List ℕ) (i : ℕ) → ctx.resolve word ≡ meaning.Const i → (x : ℕ) → ctx.resolve word ≡ meaning.Local x
        → ⊥
    const_no_local word i e x e' = absurd (grind (arith, sym e ∙ e'))

    class_no_local : (word : List ℕ) (i : ℕ) → ctx.resolve word ≡ meaning.Class i → (x : ℕ) → ctx.resolve word ≡ meaning.Local x
        → ⊥
    class_no_local word i e x e' = absurd (grind (arith, sym e ∙ e'))

    builtin_no_local : (word : List ℕ) (b : Builtin) → ctx.resolve word ≡ meaning.Builtin b → (x : ℕ)
        → ctx.resolve word ≡ meaning.Local x → ⊥
    builtin_no_local word b e x e' = absurd (grind (arith, sym e ∙ e'))

    pub means_constant : (word : List ℕ) (i : ℕ) (t : Tree) → ctx.resolve word ≡ meaning.Const i → slice_get ctx.constants i
        ≡ Some t → (k : HeapTyping) (s : State) → IsWellTyped around env k s
        → EndsWell (λ v. HasType around.bases k t v) (value_of_meaning (meaning_in_run word s))
    means_constant word i t e known k s st =
        let b = knows.constant word i t e known k s.classes s.globals st.outside in
        subst (λ m. EndsWell (λ v. HasType around.bases k t v) (value_of_meaning m))
        (sym (meaning_outside word (const_no_local word i e) env k s st ∙ ap (meaning_of_global (is_reserved word))
        b.is)) b.has

    pub means_a_class : (word : List ℕ) (c : ℕ) → ctx.resolve word ≡ meaning.Class c → nat_lt c ctx.known ≡ true
        → (k : HeapTyping) (s : State) → IsWellTyped around env k s → meaning_in_run word s ≡ means_class c
    means_a_class word c e known k s st = meaning_outside word (class_no_local word c e) env k s st
        ∙ ap (meaning_of_global (is_reserved word)) (knows.class word c e known k s.classes s.globals st.outside)

    pub reserved_is : (word : List ℕ) (b : Builtin) → ctx.resolve word ≡ meaning.Builtin b → word ≡ builtin_text b
    reserved_is word b e = text_of_builtin word b (knows.builtin word b e)

    pub means_a_builtin : (word : List ℕ) (b : Builtin) → ctx.resolve word ≡ meaning.Builtin b
        → (k : HeapTyping) (s : State) → IsWellTyped around env k s → meaning_in_run word s ≡ means_reserved
    means_a_builtin word b e k s st =
        meaning_outside word (builtin_no_local word b e) env k s st
        ∙ ap (meaning_of_global (is_reserved word)) (knows.unbound word b e k s.classes s.globals st.outside)
        ∙ ap (λ x. meaning_of_global x None) (ap is_reserved (reserved_is word b e) ∙ reserved_text b)

    -- ---- reads of names

    -- a name at which a code stands is listed, and evaluated
    pub name_found_safe : (parts : Parts Step) (n : Name) (m : Label) (code : Code) (rest : List Code)
        → m.codes ≡ code ∷ rest → Covered around (IsFoundAt n.place m.codes) → IsSafe around env (λ k. Unit {0})
        (eval_node Step free parts (name n)) (λ k v. HasType around.bases k m.type v)
    name_found_safe parts n m code rest is covered = bind_safe around env _ _ _ (λ k u. m.codes ≡ []) _
        (λ k k' grows h. tt)
        (emits_safe around env _ n.place m.codes (allowed around n.place m.codes covered))
        λ u. looks_safe around env _ (λ s. value_of_meaning (meaning_in_run n.text s)) _ λ k s h st.
        absurd (not_empty (sym is ∙ h.1))

    constant_safe : (parts : Parts Step) (n : Name) (i : ℕ) (m : Label) (o : Option Tree)
        → ctx.resolve n.text ≡ meaning.Const i → slice_get ctx.constants i ≡ o → m ≡ constant_label o
        → Covered around (IsFoundAt n.place m.codes) → IsSafe around env (λ k. Unit {0})
        (eval_node Step free parts (name n)) (λ k v. HasType around.bases k m.type v)
    constant_safe parts n i m None is known law covered = name_found_safe parts n m E03 [] (ap (λ x. x.codes) law)
        covered
    constant_safe parts n i m (Some t) is known law covered = bind_safe around env _ _ _ (λ k u. m.codes ≡ []) _
        (λ k k' grows h. tt)
        (emits_safe around env _ n.place m.codes (allowed around n.place m.codes covered))
        λ u. looks_safe around env _ (λ s. value_of_meaning (meaning_in_run n.text s)) _ λ k s h st.
        subst (λ u. EndsWell (λ v. HasType around.bases k u v) (value_of_meaning (meaning_in_run n.text s)))
        (ap (λ x. x.type) (sym law)) (means_constant n.text i t is known k s st)

    pub name_safe : (parts : Parts Step) (n : Name) (m : Label) → m ≡ name_label ctx env (ctx.resolve n.text)
        → Covered around (IsFoundAt n.place m.codes) → IsSafe around env (λ k. Unit {0})
        (eval_node Step free parts (name n)) (λ k v. HasType around.bases k m.type v)
    name_safe parts n m law covered = go (ctx.resolve n.text) refl law
      where
        late_or : (b : Test) (code : Code) → m ≡ (if b then in_error code else in_error E03)
            → IsSafe around env (λ k. Unit {0}) (eval_node Step free parts (name n))
            (λ k v. HasType around.bases k m.type v)
        late_or true code is = name_found_safe parts n m code [] (ap (λ x. x.codes) is) covered
        late_or false code is = name_found_safe parts n m E03 [] (ap (λ x. x.codes) is) covered

        go : (r : NameMeaning) → ctx.resolve n.text ≡ r → m ≡ name_label ctx env r
            → IsSafe around env (λ k. Unit {0}) (eval_node Step free parts (name n))
            (λ k v. HasType around.bases k m.type v)
        go (meaning.Local x) is law' = local_safe around ctx parts env n x m is (fits.local n.text x is) law
            (allowed around n.place m.codes covered)
        go (meaning.Const i) is law' = constant_safe parts n i m (slice_get ctx.constants i) is refl law' covered
        go (meaning.Func i) is law' = late_or ctx.in_body E20 law'
        go (meaning.Class c) is law' = late_or (nat_lt c ctx.known) E20 law'
        go (meaning.Builtin b) is law' = name_found_safe parts n m E20 [] (ap (λ x. x.codes) law') covered
        go meaning.None is law' = name_found_safe parts n m E02 [] (ap (λ x. x.codes) law') covered
