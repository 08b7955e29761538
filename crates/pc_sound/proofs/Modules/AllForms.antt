-- All forms are safe in all bodies of a module, if names mean in runs what they mean in typing.
use Rattle.std.proofs.Common.{◌≡◌, ℕ, List, refl}
use Rattle.std.specs.Prelude.{codes, Some}
use Rattle.pc_tree.specs.Tree.{Module}
use Rattle.pc_scope.specs.declared.resolution.Builtin.TheVariants as builtin
use Rattle.pc_scope.specs.declared.resolution.NameMeaning.TheVariants as meaning
use Rattle.pc_scope.specs.Reserved.{builtin_of}
use Rattle.pc_types.specs.Tree.{Tree}
use Rattle.pc_module_rules.specs.Modules.{Labelling, constant_types}
use Rattle.pc_machine.specs.Free.{Step, free}
use Rattle.pc_machine.specs.Evaluation.{eval_node, steps}
use Rattle.pc_sound.proofs.Expressions.SimpleExpressions.{GoodEval}
use Rattle.pc_sound.proofs.Expressions.Conditions.{decides_over, steps_read}
use Rattle.pc_sound.proofs.Steps.Places.{steps_evaluate}
use Rattle.pc_sound.proofs.Expressions.Indexing.{steps_read_numbers}
use Rattle.pc_sound.proofs.Expressions.NameReads.{KnowsNames}
use Rattle.pc_sound.proofs.Values.InstanceTests.{RightTests}
use Rattle.pc_sound.proofs.Statements.SimpleStatements.{GoodStores}
use Rattle.pc_sound.proofs.Statements.FieldStores.{stores_good}
use Rattle.pc_sound.proofs.Statements.Ranges.{iterables_good}
use Rattle.pc_sound.proofs.Expressions.Forms.{OtherCalls, forms_good}
use Rattle.pc_sound.proofs.Steps.NestedSteps.{FormsGood, AllGood}
use Rattle.pc_sound.proofs.Calls.BodyCalls.{Facts, body_calls}
use Rattle.pc_sound.proofs.Calls.InitializerCalls.{initializer_calls}
use Rattle.pc_sound.proofs.Modules.WholeModule.{IsListedPlace, BodyOf, of_function, of_items, body_around, body_ctx}
use Rattle.pc_sound.proofs.Modules.WholeModule.{body_fits, body_returned, bodies}

-- `range` is reserved
range_builtin : builtin_of (codes "range") ≡ Some builtin.Range
unfolding builtin_of
range_builtin = refl

module _ (m : Module) (labels : Labelling m) where
  abbrev Constants : List Tree
  Constants = constant_types m m.items labels

  -- in each body names and tests mean in runs what types take them to mean
  pub record NamesMean : Type 0 where
    pub knows : (b : BodyOf m labels) → KnowsNames (body_around m labels b) (body_ctx m labels b)
    pub tests : (b : BodyOf m labels) → RightTests (body_around m labels b) (body_ctx m labels b)

  module _ (facts : Facts m (constant_types m m.items labels) (IsListedPlace m)) (means : NamesMean) where
    range_is : (b : BodyOf m labels) → (body_ctx m labels b).resolve (codes "range") ≡ meaning.Builtin builtin.Range
    range_is b = (means.knows b).reserved (codes "range") builtin.Range range_builtin

    other_calls : (n : ℕ) → AllGood m (bodies m labels) n → (b : BodyOf m labels)
        → OtherCalls (body_around m labels b) (body_ctx m labels b) (steps Step free n)
    other_calls n good (of_function owner d lab) = body_calls m (constant_types m m.items labels) (IsListedPlace m)
        facts owner d lab (means.knows (of_function owner d lab)) (steps Step free n)
        (good.eval (of_function owner d lab)) (steps_evaluate n) (λ o f l. good.exec (of_function o f l))
    other_calls n good (of_items types defs c names) = initializer_calls m (IsListedPlace m) types defs c names
        facts.inherits facts.distinct_fields (means.knows (of_items types defs c names)) (steps Step free n)
        (good.eval (of_items types defs c names)) (steps_evaluate n)

    node_good : (n : ℕ) → AllGood m (bodies m labels) n → (b : BodyOf m labels)
        → GoodEval (body_around m labels b) (body_ctx m labels b) (eval_node Step free (steps Step free n))
    node_good n good (of_function owner d lab) =
        forms_good (body_around m labels (of_function owner d lab)) (body_ctx m labels (of_function owner d lab))
        (body_fits m labels (of_function owner d lab)) facts.inherits (means.knows (of_function owner d lab))
        (steps Step free n) (good.eval (of_function owner d lab)) (steps_evaluate n) (steps_read_numbers n)
        (good.decides (of_function owner d lab)) (steps_read n) (other_calls n good (of_function owner d lab))
    node_good n good (of_items types defs c names) =
        forms_good (body_around m labels (of_items types defs c names))
        (body_ctx m labels (of_items types defs c names)) (body_fits m labels (of_items types defs c names))
        facts.inherits (means.knows (of_items types defs c names)) (steps Step free n)
        (good.eval (of_items types defs c names)) (steps_evaluate n) (steps_read_numbers n)
        (good.decides (of_items types defs c names)) (steps_read n)
        (other_calls n good (of_items types defs c names))

    all_stores : (n : ℕ) → AllGood m (bodies m labels) n → (b : BodyOf m labels)
        → GoodStores (body_around m labels b) m (body_ctx m labels b) (steps Step free n)
    all_stores n good (of_function owner d lab) = stores_good (body_around m labels (of_function owner d lab))
        (body_ctx m labels (of_function owner d lab)) (body_fits m labels (of_function owner d lab)) facts.inherits m
        (steps Step free n) (good.eval (of_function owner d lab)) (steps_evaluate n)
    all_stores n good (of_items types defs c names) = stores_good (body_around m labels (of_items types defs c names))
        (body_ctx m labels (of_items types defs c names)) (body_fits m labels (of_items types defs c names))
        facts.inherits m (steps Step free n) (good.eval (of_items types defs c names)) (steps_evaluate n)

    -- all forms, stores and iterables in all bodies
    pub forms_of : FormsGood m (bodies m labels)
    forms_of = record {
      eval = node_good;
      decides = λ n good b. decides_over (body_around m labels b) (body_ctx m labels b) (body_fits m labels b)
          (means.tests b) (steps Step free n) (good.eval b) (good.decides b) (steps_read n) (node_good n good b);
      stores = all_stores;
      iterables = λ n good b. iterables_good (body_around m labels b) (body_ctx m labels b) (body_fits m labels b) m
          (body_returned m labels b) (steps Step free n) (good.eval b) (steps_evaluate n) (means.knows b) (range_is b);
    }
