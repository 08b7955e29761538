-- A read of a local: if it has no code, the local is bound to a value of its current type (definite assignment).
use Rattle.std.proofs.Common.{◌≡◌, ℕ, [], refl, sym, ap, ◌∙◌, subst, arith}
use Rattle.std.specs.Prelude.{Option, Some, None}
use Rattle.pc_source.specs.ReservedNames.{is_reserved}
use Rattle.pc_tree.specs.Tree.{Name, name}
use Rattle.pc_scope.specs.declared.resolution.NameMeaning.TheVariants as meaning
use Rattle.pc_scope.specs.Resolution.{index_of}
use Rattle.pc_types.specs.Tree.{Tree}
use Rattle.pc_flow.specs.Environment.{Env, current}
use Rattle.pc_rules.specs.Operations.{Label}
use Rattle.pc_rules.specs.Context.{Context, name_label, local_label}
use Rattle.pc_machine.specs.State.{State}
use Rattle.pc_machine.specs.Names.{meaning_in_run, meaning_of_local, meaning_of_global, global_by_name}
use Rattle.pc_machine.specs.Calls.{value_of_meaning}
use Rattle.pc_machine.specs.Steps.{Parts}
use Rattle.pc_machine.specs.Evaluation.{eval_node}
use Rattle.pc_machine.specs.Free.{Step, free}
use Rattle.pc_sound.specs.Values.{HeapTyping, HasType}
use Rattle.pc_sound.specs.Ends.{EndsWell}
use Rattle.pc_sound.proofs.Steps.Judgment.{Around, IsWellTyped, IsSafe}
use Rattle.pc_sound.proofs.Steps.SafeSteps.{bind_safe, emits_safe, looks_safe}
use Rattle.pc_sound.proofs.Steps.Judgment.{AreListedCodes}

module _ (around : Around) (ctx : Context) (parts : Parts Step) (env : Env) where
  -- a local of which no code is found at its read
  local_value : (n : Name) (x : ℕ) → index_of n.text around.names ≡ Some x → (o : Option Tree) → current env x ≡ o
      → (local_label o).codes ≡ [] → (k : HeapTyping) (s : State) → IsWellTyped around env k s
      → EndsWell (λ v. HasType around.bases k (local_label o).type v) (value_of_meaning (meaning_in_run n.text s))
  local_value n x named None e clean k s st = absurd (grind (arith, clean))
  local_value n x named (Some t) e clean k s st =
      let l = st.locals.each n.text x t named e in
      subst (λ m. EndsWell (λ v. HasType around.bases k t v) (value_of_meaning
      (meaning_of_local (meaning_of_global (is_reserved n.text) (global_by_name n.text s.globals)) m))) (sym l.is)
      l.now

  pub local_safe : (n : Name) (x : ℕ) (m : Label) → ctx.resolve n.text ≡ meaning.Local x → index_of n.text around.names
      ≡ Some x → m ≡ name_label ctx env (ctx.resolve n.text) → AreListedCodes around.listed n.place m.codes
      → IsSafe around env (λ k. Unit {0}) (eval_node Step free parts (name n)) (λ k v. HasType around.bases k m.type v)
  local_safe n x m is named law allowed =
      let label : m ≡ local_label (current env x) = law ∙ ap (name_label ctx env) is in
      bind_safe around env _ _ _ (λ k u. m.codes ≡ []) _ (λ k k' grows h. tt)
      (emits_safe around env _ n.place m.codes allowed)
      λ u. looks_safe around env _ (λ s. value_of_meaning (meaning_in_run n.text s)) _ λ k s h st.
      subst (λ t. EndsWell (λ v. HasType around.bases k t v) (value_of_meaning (meaning_in_run n.text s)))
      (ap (λ y. y.type) (sym label))
      (local_value n x named (current env x) refl (ap (λ y. y.codes) (sym label) ∙ h.1) k s st)
