-- In a body each name that types see as a test is that test in a run: there all classes are made.
use Rattle.std.proofs.Common.{◌≡◌, ℕ, List, refl, sym, ap, ◌∙◌, subst}
use Rattle.std.specs.Prelude.{true, Some, nat_lt, codes}
use Rattle.std.proofs.lemmas.Option.{none-some, same_Some}
use Rattle.pc_scope.specs.declared.resolution.Builtin.TheVariants as builtin
use Rattle.pc_scope.specs.declared.resolution.NameMeaning.{NameMeaning}
use Rattle.pc_scope.specs.declared.resolution.NameMeaning.TheVariants as meaning
use Rattle.pc_types.specs.Tree.{Int, Bool, Str}
use Rattle.pc_types.specs.Tree as tree
use Rattle.pc_flow.specs.Environment.{Env}
use Rattle.pc_flow.specs.Narrowing.{Tested, for_type, for_list, test_named}
use Rattle.pc_rules.specs.Context.{Context}
use Rattle.pc_value.specs.Value.{Gives}
use Rattle.pc_machine.specs.State.{State, Class, Globals}
use Rattle.pc_machine.specs.Names.{meaning_in_run}
use Rattle.pc_machine.specs.Calls.{InstanceTest, tests_int, tests_str, tests_bool, tests_list, tests_class, test_of_meaning}
use Rattle.pc_machine.specs.Calls.{test_of_reserved}
use Rattle.pc_sound.specs.Values.{HeapTyping}
use Rattle.pc_sound.proofs.Steps.Judgment.{Around, IsWellTyped, IsContextOf}
use Rattle.pc_sound.proofs.Expressions.NameReads.{KnowsNames, means_a_class, means_a_builtin, reserved_is}
use Rattle.pc_sound.proofs.Calls.CallRules.{test_reserved}
use Rattle.pc_sound.proofs.Values.InstanceTests.{Descends, IsRight, RightTests}
use Rattle.pc_sound.proofs.Steps.SafeSteps.{gives_injective}

-- where there are locals, the classes that names mean are made, with the ancestors that are above them
pub record KnowsAncestors (around : Around) (ctx : Context) : Type 0 where
  pub known : (local : List ℕ) (x : ℕ) → ctx.resolve local ≡ meaning.Local x → (word : List ℕ) (c : ℕ)
      → ctx.resolve word ≡ meaning.Class c → nat_lt c ctx.known ≡ true
  pub descends : (local : List ℕ) (x : ℕ) → ctx.resolve local ≡ meaning.Local x → (word : List ℕ) (c : ℕ)
      → ctx.resolve word ≡ meaning.Class c → (k : HeapTyping) (made : List Class) (globals : Globals)
      → around.outside k made globals → Descends around.bases made c

module _ (around : Around) (ctx : Context) (fits : IsContextOf around ctx) (knows : KnowsNames around ctx)
    (ancestors : KnowsAncestors around ctx) where
  pub right_tests : RightTests around ctx
  right_tests = record { means = knows.reserved (codes "isinstance") builtin.IsInstance test_reserved; right = right }
    where
      right : (env : Env) (k : HeapTyping) (s : State) → IsWellTyped around env k s → (local : List ℕ) (x : ℕ)
          → ctx.resolve local ≡ meaning.Local x → (word : List ℕ) (test : Tested) → test_named (ctx.resolve word)
          ≡ Some test → (made : InstanceTest) → test_of_meaning word (meaning_in_run word s) ≡ Gives made
          → IsRight around.bases s.classes test made
      right env k s st local x l word test named made comes = go (ctx.resolve word) refl named
        where
          -- it is this test in both
          so : (t : Tested) (m : InstanceTest) → Some t ≡ Some test → test_of_meaning word (meaning_in_run word s) ≡ Gives m
              → IsRight around.bases s.classes t m → IsRight around.bases s.classes test made
          so t m e is h = subst (λ y. IsRight around.bases s.classes y made) (same_Some _ _ e)
              (subst (λ y. IsRight around.bases s.classes t y) (gives_injective (sym is ∙ comes)) h)

          reserved : (b : _) → ctx.resolve word ≡ meaning.Builtin b → test_of_meaning word (meaning_in_run word s)
              ≡ test_of_reserved word
          reserved b e = ap (test_of_meaning word) (means_a_builtin around ctx fits knows env word b e k s st)

          go : (r : NameMeaning) → ctx.resolve word ≡ r → test_named r ≡ Some test → IsRight around.bases s.classes test made
          go (meaning.Class c) e named = so (for_type (tree.Class c)) (tests_class c) named
              (ap (test_of_meaning word) (means_a_class around ctx fits knows env word c e
              (ancestors.known local x l word c e) k s st)) (
                refl,
                ancestors.descends local x l word c e k s.classes
                    s.globals st.outside,
              )
          go (meaning.Builtin builtin.Int) e named = so (for_type Int) tests_int named (reserved builtin.Int e
              ∙ ap test_of_reserved (reserved_is around ctx fits knows env word builtin.Int e)) tt
          go (meaning.Builtin builtin.Str) e named = so (for_type Str) tests_str named (reserved builtin.Str e
              ∙ ap test_of_reserved (reserved_is around ctx fits knows env word builtin.Str e)) tt
          go (meaning.Builtin builtin.Bool) e named = so (for_type Bool) tests_bool named (reserved builtin.Bool e
              ∙ ap test_of_reserved (reserved_is around ctx fits knows env word builtin.Bool e)) tt
          go (meaning.Builtin builtin.List) e named = so for_list tests_list named (reserved builtin.List e
              ∙ ap test_of_reserved (reserved_is around ctx fits knows env word builtin.List e)) tt
          go _ e named = absurd (none-some _ named)
