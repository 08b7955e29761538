-- Tests of instances are safe: the second argument is `int`, `str`, `bool`, `list` or a class that the module has
-- bound.
use Rattle.std.proofs.Common.{◌≡◌, ℕ, List, [], refl, sym, ap, ◌∙◌, subst, inl, inr}
use Rattle.std.specs.Prelude.{Bool as Test, true, false, ◌&&◌, if◌then◌else◌, nat_lt, Option, Some, None, codes}
use Rattle.std.specs.Prelude.{bytes_eq}
use Rattle.std.proofs.lemmas.Option.{none-some}
use Rattle.std.proofs.lemmas.Bool.{and_parts, false≢true}
use Rattle.pc_source.specs.declared.place.Place.{Place}
use Rattle.pc_tree.specs.declared.code.Code.TheVariants.{E20, E25, E03}
use Rattle.pc_tree.specs.Code.{finding}
use Rattle.pc_tree.specs.Tree.{Expr, Exprs, Keywords, Name, name, call, no_exprs, more_exprs, no_keywords}
use Rattle.pc_tree.specs.Depth.{place_of}
use Rattle.pc_scope.specs.declared.resolution.Builtin.{Builtin}
use Rattle.pc_scope.specs.declared.resolution.Builtin.TheVariants as builtin
use Rattle.pc_scope.specs.declared.resolution.NameMeaning.{NameMeaning}
use Rattle.pc_scope.specs.declared.resolution.NameMeaning.TheVariants as meaning
use Rattle.pc_scope.specs.Expressions.{is_instance_test}
use Rattle.pc_types.specs.Tree.{Tree, Bool}
use Rattle.pc_flow.specs.Environment.{Env}
use Rattle.pc_flow.specs.Narrowing as narrowing
use Rattle.pc_flow.specs.Narrowing.{Tested, test_named}
use Rattle.pc_rules.specs.Operations.{Label, in_error}
use Rattle.pc_rules.specs.Context.{Context, name_label, is_early}
use Rattle.pc_rules.specs.Calls.{arguments_given, Seat, second_code, positional_seat, test_rule, own_callee}
use Rattle.pc_rules.specs.Labels.{Labels, whole_label, type_of, item_types, Finds, ArgumentsFind, IsCodeAt}
use Rattle.pc_rules.specs.Lawful.{Lawful, callee_of, whole_call_label, whole_second_code}
use Rattle.pc_value.specs.Value.{boolean}
use Rattle.pc_machine.specs.State.{State}
use Rattle.pc_machine.specs.Names.{meaning_in_run}
use Rattle.pc_machine.specs.Calls.{instance_test_of, test_of_meaning, test_of_reserved, passes}
use Rattle.pc_machine.specs.Steps.{Parts}
use Rattle.pc_machine.specs.Evaluation.{instance_test, ordinary, call_form, eval_node, eval_call}
use Rattle.pc_machine.specs.Free.{Step, free}
use Rattle.pc_sound.specs.Values.{HeapTyping, HasType}
use Rattle.pc_sound.specs.Ends.{EndsWell}
use Rattle.pc_sound.proofs.Steps.Judgment.{Around, IsWellTyped, IsSafe, IsContextOf}
use Rattle.pc_sound.proofs.Lists.{same_text_back}
use Rattle.pc_sound.proofs.Values.ValuesFlow.{later}
use Rattle.pc_sound.proofs.Steps.SafeSteps.{bind_safe, looks_safe, may_stop_safe, emits_safe, weaken}
use Rattle.pc_sound.proofs.Regular.KeyedLabels.{Keyed}
use Rattle.pc_sound.proofs.Expressions.SimpleExpressions.{Covered, GoodEval, allowed, part}
use Rattle.pc_sound.proofs.Calls.CallRules.{test_reserved, test_callee}
use Rattle.pc_sound.proofs.Expressions.NameReads.{KnowsNames, builtin_text, means_a_class, means_a_builtin, reserved_is}

module _ (around : Around) (ctx : Context) (fits : IsContextOf around ctx) (knows : KnowsNames around ctx)
    (env : Env) where
  -- a reserved name that is tested for
  reserved_test : (word : List ℕ) (b : Builtin) (test : Tested) → ctx.resolve word ≡ meaning.Builtin b
      → test_named (meaning.Builtin b) ≡ Some test → EndsWell (λ t. Unit {0}) (test_of_reserved word)
  reserved_test word b test is named = subst (λ w. EndsWell (λ t. Unit {0}) (test_of_reserved w))
      (sym (reserved_is around ctx fits knows env word b is)) (go b named)
    where
      go : (b : Builtin) → test_named (meaning.Builtin b) ≡ Some test
          → EndsWell (λ t. Unit {0}) (test_of_reserved (builtin_text b))
      go builtin.Int e = tt
      go builtin.Str e = tt
      go builtin.Bool e = tt
      go builtin.List e = tt
      go _ e = absurd (none-some _ e)

  -- a class that is tested for is bound where no E03 stands
  class_known : (c : ℕ) (m : Label) → m ≡ name_label ctx env (meaning.Class c) → is_early m.codes ≡ false
      → nat_lt c ctx.known ≡ true
  class_known c m law early = go (nat_lt c ctx.known) refl law
    where
      go : (x : Test) → nat_lt c ctx.known ≡ x → m ≡ (if x then in_error E20 else in_error E03)
          → nat_lt c ctx.known ≡ true
      go true is e = is
      go false is e = absurd (false≢true (sym early ∙ ap (λ y. is_early y.codes) e))

  -- the type that a name tests for is found in a run
  name_tests : (word : List ℕ) (test : Tested) (m : Label) → test_named (ctx.resolve word) ≡ Some test
      → m ≡ name_label ctx env (ctx.resolve word) → is_early m.codes ≡ false → (k : HeapTyping) (s : State)
      → IsWellTyped around env k s → EndsWell (λ t. Unit {0}) (test_of_meaning word (meaning_in_run word s))
  name_tests word test m named law early k s st = go (ctx.resolve word) refl named law
    where
      go : (r : NameMeaning) → ctx.resolve word ≡ r → test_named r ≡ Some test → m ≡ name_label ctx env r
          → EndsWell (λ t. Unit {0}) (test_of_meaning word (meaning_in_run word s))
      go (meaning.Class c) is e law' = subst (λ x. EndsWell (λ t. Unit {0}) (test_of_meaning word x))
          (sym (means_a_class around ctx fits knows env word c is (class_known c m law' early) k s st)) tt
      go (meaning.Builtin b) is e law' = subst (λ x. EndsWell (λ t. Unit {0}) (test_of_meaning word x))
          (sym (means_a_builtin around ctx fits knows env word b is k s st)) (reserved_test word b test is e)
      go (meaning.Local x) is e law' = absurd (none-some _ e)
      go (meaning.Const i) is e law' = absurd (none-some _ e)
      go (meaning.Func i) is e law' = absurd (none-some _ e)
      go meaning.None is e law' = absurd (none-some _ e)

  second_tests : (want : Option Tree) (t : Expr) (m : Labels t) (test : Tested) → narrowing.test_of ctx.resolve t
      ≡ Some test → Lawful ctx around.declared env want t m → is_early (whole_label t m).codes ≡ false
      → (k : HeapTyping) (s : State) → IsWellTyped around env k s → EndsWell (λ x. Unit {0}) (instance_test_of t s)
  second_tests want (name w) m test named law early k s st = name_tests w.text test m named law early k s st
  second_tests want _ m test named law early k s st = absurd (none-some _ named)

  module _ (parts : Parts Step) (good : GoodEval around ctx parts.eval) where
    two_safe : (want : Option Tree) (p : Place) (n : Name) (e t : Expr)
        (m : Labels (call p (name n) (more_exprs e (more_exprs t no_exprs)) no_keywords))
        → bytes_eq (codes "isinstance") n.text ≡ true → Lawful ctx around.declared env want
        (call p (name n) (more_exprs e (more_exprs t no_exprs)) no_keywords) m
        → Covered around (Finds (call p (name n) (more_exprs e (more_exprs t no_exprs)) no_keywords) m)
        → Keyed (call p (name n) (more_exprs e (more_exprs t no_exprs)) no_keywords) m
        → IsSafe around env (λ k. Unit {0}) (eval_node Step free parts
        (call p (name n) (more_exprs e (more_exprs t no_exprs)) no_keywords))
        (λ k v. HasType around.bases k m.here.type v)
    two_safe want p n e t m named law covered keyed = subst (λ form. IsSafe around env (λ k. Unit {0})
        (eval_call Step free parts p (name n) args no_keywords form) (λ k v. HasType around.bases k m.here.type v))
        (sym form_is) (
        bind_safe around env _ _ _ (λ k u. Unit {0}) _ (λ k k' x h. tt) (may_stop_safe around env _)
        λ u. bind_safe around env _ _ _ (λ k w. m.callee.codes ≡ []) _ (λ k k' x h. (tt, tt))
        (emits_safe around env _ n.place m.callee.codes (allowed around n.place m.callee.codes
        (λ f h. covered f (inr (inl h)))))
        λ w. bind_safe around env _ _ _ (λ k v. HasType around.bases k (type_of e m.arguments.first) v) _
        (λ k k' x h. ((tt, tt), h.1))
        (part around ctx parts good env _ seat.want e m.arguments.first law.arguments.first
        (λ f h. covered f (inr (inr (inr (inl (subst (λ b. ArgumentsFind b args m.arguments f) (sym test_is) h))))))
        keyed.1.1.0.0)
        λ v. bind_safe around env _ _ _ (λ k w. m.here.codes ≡ []) _
        (λ k k' x h. (h.0, later around.bases x (type_of e m.arguments.first) v h.1))
        (weaken around env _ (λ k. Unit {0}) _ (λ k w. m.here.codes ≡ []) (λ k w. m.here.codes ≡ []) (λ k h. tt)
        (λ k w h. h) (emits_safe around env _ p m.here.codes (allowed around p m.here.codes
        (λ f h. covered f (inl h)))))
        λ w. bind_safe around env _ _ _ (λ k test. Unit {0}) _ (λ k k' x h.
        ((h.0.0, later around.bases x (type_of e m.arguments.first) v h.0.1), h.1))
        (looks_safe around env _ _ _ λ k s h st. tested k s st)
        λ test. looks_safe around env _ _ _ λ k s h st. subst (λ u. HasType around.bases k u
        (boolean (passes s v test))) (sym type) tt)
      where
        args : Exprs
        args = more_exprs e (more_exprs t no_exprs)

        seat : Seat
        seat = positional_seat (callee_of ctx env (arguments_given args no_keywords) (name n) law.value).offers 0

        test_is : is_instance_test (name n) args no_keywords ≡ true
        test_is = ap (λ x. x && true) named

        form_is : call_form (name n) args no_keywords ≡ instance_test n e t
        form_is = ap (λ x. if x then instance_test n e t else ordinary) (same_text_back n.text (codes "isinstance")
            ∙ named)

        callee : callee_of ctx env (arguments_given args no_keywords) (name n) law.value ≡ own_callee test_rule
        callee = test_callee ctx (knows.reserved (codes "isinstance") builtin.IsInstance test_reserved) env (name n)
            args no_keywords law.value test_is

        type : m.here.type ≡ Bool
        type = ap (λ x. x.type) (law.here ∙ ap (λ x. whole_call_label ctx env x.rule x.offers args
            (item_types args m.arguments)) callee)

        early : is_early (whole_label t m.arguments.rest.first).codes ≡ false
        early = keyed.0.1 test_is

        second : m.second ≡ second_code (narrowing.test_of ctx.resolve t) false
        second = law.second ∙ ap (λ x. whole_second_code ctx x.rule args m.arguments) callee
            ∙ ap (second_code (narrowing.test_of ctx.resolve t)) early

        tested : (k : HeapTyping) (s : State) → IsWellTyped around env k s
            → EndsWell (λ x. Unit {0}) (instance_test_of t s)
        tested k s st = go (narrowing.test_of ctx.resolve t) refl second
          where
            go : (o : Option Tested) → narrowing.test_of ctx.resolve t ≡ o → m.second ≡ second_code o false
                → EndsWell (λ x. Unit {0}) (instance_test_of t s)
            go None is e =
                absurd
                ((covered (finding (place_of t) E25)
                (inr (inr (inl (subst (λ c. IsCodeAt (place_of t) c (finding (place_of t) E25)) (sym e) refl))))).1
                tt)
            go (Some test) is e = second_tests _ t m.arguments.rest.first test is law.arguments.rest.first early k s st

    -- a test of an instance is safe
    pub instance_safe : (want : Option Tree) (p : Place) (c : Expr) (args : Exprs) (kws : Keywords)
        (m : Labels (call p c args kws)) → is_instance_test c args kws ≡ true
        → Lawful ctx around.declared env want (call p c args kws) m → Covered around (Finds (call p c args kws) m)
        → Keyed (call p c args kws) m → IsSafe around env (λ k. Unit {0})
        (eval_node Step free parts (call p c args kws)) (λ k v. HasType around.bases k m.here.type v)
    instance_safe want p (name n) (more_exprs e (more_exprs t no_exprs)) no_keywords m is law covered keyed =
        two_safe want p n e t m (and_parts (bytes_eq (codes "isinstance") n.text) true is).0 law covered keyed
    instance_safe want p (name n) _ _ m is law covered keyed = absurd (false≢true (and_parts _ _ is).1)
    instance_safe want p _ args kws m is law covered keyed = absurd (false≢true is)
