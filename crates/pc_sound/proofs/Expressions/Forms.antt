-- Each form of expression is safe if its parts are.
use Rattle.std.proofs.Common.{◌≡◌, refl, sym, ◌∙◌, arith}
use Rattle.std.specs.Prelude.{Bool as Test, true, false, Option}
use Rattle.pc_source.specs.declared.place.Place.{Place}
use Rattle.pc_tree.specs.Tree.{Expr, Exprs, Keywords, name, number, text, truth, nothing, tuple, list, dict, negative}
use Rattle.pc_tree.specs.Tree.{negation, binary, compare, is_none, is_not_none, conjunction, disjunction, attribute}
use Rattle.pc_tree.specs.Tree.{index, call}
use Rattle.pc_tree.specs.Depth.{place_of}
use Rattle.pc_scope.specs.declared.resolution.Builtin.{Builtin}
use Rattle.pc_scope.specs.declared.resolution.Builtin.TheVariants as builtin
use Rattle.pc_scope.specs.declared.resolution.NameMeaning.{NameMeaning}
use Rattle.pc_scope.specs.declared.resolution.NameMeaning.TheVariants as meaning
use Rattle.pc_scope.specs.Expressions.{is_instance_test}
use Rattle.pc_types.specs.Tree.{Tree}
use Rattle.pc_flow.specs.Environment.{Env}
use Rattle.pc_rules.specs.Context.{Context}
use Rattle.pc_tree.specs.declared.code.Code.TheVariants.{E20}
use Rattle.pc_rules.specs.Operations.{in_error}
use Rattle.pc_rules.specs.Calls.{GivenArguments, builtin_callee, value_callee}
use Rattle.pc_rules.specs.Labels.{Labels, type_of, Finds}
use Rattle.pc_rules.specs.Lawful.{Lawful}
use Rattle.pc_machine.specs.Steps.{Parts}
use Rattle.pc_machine.specs.Evaluation.{eval_node}
use Rattle.pc_machine.specs.Free.{Step, free}
use Rattle.pc_sound.specs.Values.{HasType}
use Rattle.pc_sound.proofs.Steps.Judgment.{Around, IsSafe, IsContextOf}
use Rattle.pc_sound.proofs.Regular.KeyedLabels.{Keyed}
use Rattle.pc_sound.proofs.Expressions.SimpleExpressions.{Covered, GoodEval, number_safe, text_safe, truth_safe}
use Rattle.pc_sound.proofs.Expressions.SimpleExpressions.{nothing_safe, negation_safe, is_none_safe, is_not_none_safe}
use Rattle.pc_sound.proofs.Values.Flows.{Evaluates}
use Rattle.pc_sound.proofs.Heap.Fields.{Inherits, attribute_safe}
use Rattle.pc_sound.proofs.Expressions.NameReads.{KnowsNames, name_safe}
use Rattle.pc_sound.proofs.Expressions.Operators.{negative_safe, binary_safe, compare_safe}
use Rattle.pc_sound.proofs.Expressions.Indexing.{ReadsNumbers, index_safe}
use Rattle.pc_sound.proofs.Expressions.Displays.{tuple_safe, list_safe, dict_safe}
use Rattle.pc_sound.proofs.Expressions.Conditions.{Decides, Reads, conjunction_safe, disjunction_safe}
use Rattle.pc_sound.proofs.Calls.BuiltIns.{print_safe, str_safe, len_safe, range_error, test_error, not_callable}
use Rattle.pc_sound.proofs.Calls.InstanceCalls.{instance_safe}

-- a callee is no name of a built-in
abbrev pub NotReserved : Context → Expr → Type 0
NotReserved ctx (name n) = (b : Builtin) → ctx.resolve n.text ≡ meaning.Builtin b → ⊥
NotReserved ctx _ = Unit {0}

-- the other calls are safe: of functions, classes, methods and values
pub record OtherCalls (around : Around) (ctx : Context) (parts : Parts Step) : Type 0 where
  pub safe : (env : Env) (want : Option Tree) (p : Place) (c : Expr) (args : Exprs) (kws : Keywords)
      (m : Labels (call p c args kws)) → NotReserved ctx c → is_instance_test c args kws ≡ false
      → Lawful ctx around.declared env want (call p c args kws) m → Covered around (Finds (call p c args kws) m)
      → Keyed (call p c args kws) m → IsSafe around env (λ k. Unit {0}) (eval_node Step free parts (call p c args kws))
      (λ k v. HasType around.bases k m.here.type v)

module _
    (around : Around) (ctx : Context) (fits : IsContextOf around ctx) (inherits : Inherits around.bases around.classes)
    (knows : KnowsNames around ctx) (parts : Parts Step) (good : GoodEval around ctx parts.eval)
    (evaluates : (e : Expr) → Evaluates (place_of e) (parts.eval e)) (numbers : ReadsNumbers parts.eval)
    (decides : Decides around ctx parts.eval) (reads : Reads parts.eval)
    (others : OtherCalls around ctx parts) where
  abbrev SafeCall : Env → (p : Place) (c : Expr) (args : Exprs) (kws : Keywords) → Labels (call p c args kws) → Type 0
  SafeCall env p c args kws m = IsSafe around env (λ k. Unit {0}) (eval_node Step free parts (call p c args kws))
      (λ k v. HasType around.bases k m.here.type v)

  call_safe : (env : Env) (want : Option Tree) (p : Place) (c : Expr) (args : Exprs) (kws : Keywords)
      (m : Labels (call p c args kws)) → Lawful ctx around.declared env want (call p c args kws) m
      → Covered around (Finds (call p c args kws) m) → Keyed (call p c args kws) m → SafeCall env p c args kws m
  call_safe env want p c args kws m law covered keyed = by_test (is_instance_test c args kws) refl
    where
      by_callee : (c : Expr) (m : Labels (call p c args kws)) → is_instance_test c args kws ≡ false
          → Lawful ctx around.declared env want (call p c args kws) m → Covered around (Finds (call p c args kws) m)
          → Keyed (call p c args kws) m → SafeCall env p c args kws m
      by_callee (name n) m no_test law covered keyed = by_name (ctx.resolve n.text) refl
        where
          other : ((b : Builtin) → ctx.resolve n.text ≡ meaning.Builtin b → ⊥) → SafeCall env p (name n) args kws m
          other unreserved = others.safe env want p (name n) args kws m unreserved no_test law covered keyed

          not_callable_error : (b : Builtin) → ctx.resolve n.text ≡ meaning.Builtin b
              → ((g : GivenArguments) → builtin_callee g b ≡ value_callee (in_error E20))
              → SafeCall env p (name n) args kws m
          not_callable_error b is uncalled = not_callable around ctx fits knows parts good evaluates env b
              uncalled p n is want args kws m no_test law covered

          by_builtin : (b : Builtin) → ctx.resolve n.text ≡ meaning.Builtin b → SafeCall env p (name n) args kws m
          by_builtin builtin.Print is = print_safe around ctx fits knows parts good evaluates env want p n is args kws m
              law covered keyed
          by_builtin builtin.Str is = str_safe around ctx fits knows parts good evaluates env want p n is args kws m law
              covered keyed
          by_builtin builtin.Len is = len_safe around ctx fits knows parts good evaluates env want p n is args kws m law
              covered keyed
          by_builtin builtin.Range is = range_error around ctx fits knows parts good evaluates env p n is want
              args kws m law covered keyed
          by_builtin builtin.IsInstance is = test_error around ctx fits knows parts good evaluates env p n is
              want args kws m no_test law covered keyed
          by_builtin b is = not_callable_error b is (λ g. refl)

          by_name : (r : NameMeaning) → ctx.resolve n.text ≡ r → SafeCall env p (name n) args kws m
          by_name (meaning.Builtin b) is = by_builtin b is
          by_name (meaning.Local x) is = other λ b e. absurd (grind (arith, sym is ∙ e))
          by_name (meaning.Const x) is = other λ b e. absurd (grind (arith, sym is ∙ e))
          by_name (meaning.Func x) is = other λ b e. absurd (grind (arith, sym is ∙ e))
          by_name (meaning.Class x) is = other λ b e. absurd (grind (arith, sym is ∙ e))
          by_name meaning.None is = other λ b e. absurd (grind (arith, sym is ∙ e))
      by_callee c m no_test law covered keyed = others.safe env want p c args kws m tt no_test law covered keyed

      by_test : (x : Test) → is_instance_test c args kws ≡ x → SafeCall env p c args kws m
      by_test true is = instance_safe around ctx fits knows env parts good want p c args kws m is law covered keyed
      by_test false is = by_callee c m is law covered keyed

  -- all forms
  pub forms_good : GoodEval around ctx (eval_node Step free parts)
  forms_good = record { safe = go }
    where
      go : (env : Env) (want : Option Tree) (e : Expr) (m : Labels e) → Lawful ctx around.declared env want e m
          → Covered around (Finds e m) → Keyed e m → IsSafe around env (λ k. Unit {0}) (eval_node Step free parts e)
          (λ k v. HasType around.bases k (type_of e m) v)
      go env want (name n) m law covered keyed = name_safe around ctx fits knows env parts n m law covered
      go env want (number p d) m law covered keyed = number_safe around ctx parts good env p d m law covered
      go env want (text p d) m law covered keyed = text_safe around ctx parts good env p d m law covered
      go env want (truth p b) m law covered keyed = truth_safe around ctx parts good env p b m law covered
      go env want (nothing p) m law covered keyed = nothing_safe around ctx parts good env p m law covered
      go env want (tuple p es) m law covered keyed = tuple_safe around ctx fits parts good evaluates env want p es m law
          covered keyed
      go env want (list p es) m law covered keyed = list_safe around ctx fits parts good evaluates env want p es m law
          covered keyed
      go env want (dict p es) m law covered keyed = dict_safe around ctx fits parts good evaluates env want p es m law
          covered keyed
      go env want (negative p e) m law covered keyed = negative_safe around ctx fits parts good env want p e m law
          covered keyed
      go env want (negation p e) m law covered keyed = negation_safe around ctx parts good env want p e m law covered
          keyed
      go env want (binary p o l r) m law covered keyed = binary_safe around ctx fits parts good env want p o l r m law
          covered keyed
      go env want (compare p o l r) m law covered keyed = compare_safe around ctx fits parts good env evaluates want p o
          l r m law covered keyed
      go env want (is_none p e) m law covered keyed = is_none_safe around ctx parts good env want p e m law covered
          keyed
      go env want (is_not_none p e) m law covered keyed = is_not_none_safe around ctx parts good env want p e m law
          covered keyed
      go env want (conjunction p l r) m law covered keyed = conjunction_safe around ctx fits parts good decides reads
          env want p l r m law covered keyed
      go env want (disjunction p l r) m law covered keyed = disjunction_safe around ctx fits parts good decides reads
          env want p l r m law covered keyed
      go env want (attribute p e f) m law covered keyed = attribute_safe around ctx fits inherits parts good env want p
          e f m law covered keyed
      go env want (index p e i) m law covered keyed = index_safe around ctx fits parts good evaluates numbers env want p
          e i m law covered keyed
      go env want (call p c args kws) m law covered keyed = call_safe env want p c args kws m law covered keyed
