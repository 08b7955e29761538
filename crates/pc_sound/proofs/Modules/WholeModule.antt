-- The whole: if each form is safe in each body, a run of a module that ends in a fault has evaluated a listed place.
use Rattle.std.proofs.Common.{◌≡◌, ℕ, List, [], length, refl, sym, subst, inl, inr, arith, Contains}
use Rattle.std.specs.Prelude.{◌⊎◌, true, nat_lt, codes, Some}
use Rattle.std.proofs.lemmas.Bool.Decides.{nat_tests}
use Rattle.std.proofs.lemmas.Option.{none-some}
use Rattle.pc_source.specs.declared.place.Place.{Place}
use Rattle.pc_tree.specs.declared.code.Finding.{Finding}
use Rattle.pc_tree.specs.Tree.{FuncDef, Module}
use Rattle.pc_tree.specs.Stopping.{is_plain_def}
use Rattle.pc_scope.specs.declared.resolution.Owner.{Owner}
use Rattle.pc_scope.specs.declared.resolution.Owner.TheVariants as owners
use Rattle.pc_scope.specs.Bindings.{classes_in, functions_in}
use Rattle.pc_scope.specs.Resolution.{function_of}
use Rattle.pc_types.specs.Tree.{Tree, NoneType}
use Rattle.pc_class.specs.Bases.{bases_of}
use Rattle.pc_class.specs.Facts.{return_type, classes_of}
use Rattle.pc_annotations.proofs.Earlier.{smaller}
use Rattle.pc_rules.specs.Context.{Context}
use Rattle.pc_rules.specs.Signatures.{initializer_context}
use Rattle.pc_module_rules.proofs.Scopes.{said_is_found}
use Rattle.pc_module_rules.specs.Modules.{Labelling, IsLawful, IsFinding, constant_types, BeforeItem, nothing_before}
use Rattle.pc_module_rules.specs.Modules.{ModuleItemsFind}
use Rattle.pc_value.specs.Value.{Value, Raised, Other, Outside, Cut, Out, Gives, Stops}
use Rattle.pc_machine.specs.State.{State, nothing_bound}
use Rattle.pc_machine.specs.Free.{Step, free}
use Rattle.pc_machine.specs.Evaluation.{steps, exec_items, exec_module, enter_main}
use Rattle.pc_machine.specs.Runs.{Run, End, end_with, IsFaultyEnd}
use Rattle.pc_sound.proofs.Steps.Judgment.{HasListed, Around, IsContextOf}
use Rattle.pc_sound.specs.Silent.{HasNoSilentError}
use Rattle.pc_sound.specs.Sound.{HasEvaluatedListed}
use Rattle.pc_sound.specs.Ends.{EndsWell}
use Rattle.pc_sound.proofs.Heap.Fields.{Inherits}
use Rattle.pc_sound.proofs.Steps.NestedSteps.{Bodies, FormsGood, AllGood, all_good}
use Rattle.pc_sound.proofs.Steps.Places.{steps_evaluate}
use Rattle.pc_sound.proofs.Modules.StoppedModules.{never_stopped}
use Rattle.pc_sound.proofs.Modules.MainWorld.{Labelled, around_of, context_of}
use Rattle.pc_sound.proofs.Calls.EnteredFunctions.{fits_of, module_local}
use Rattle.pc_sound.proofs.Steps.ModuleSteps.{Arrives, Proceeds, proceeds_bind, proceeds_as}
use Rattle.pc_sound.proofs.Modules.ModuleOrder.{around_items, Between, Listed, proceeds_safe}
use Rattle.pc_sound.proofs.Modules.ModuleItems.{ItemsReady, last_of, GoodClasses, items_proceed, MainIs, main_is}
use Rattle.pc_sound.proofs.Modules.ModuleItems.{main_safe}

-- the place of a finding
pub record IsListedPlace (m : Module) (p : Place) : Type 0 where
  pub finding : Finding
  pub found : IsFinding m finding
  pub at : finding.place ≡ p

module _ (m : Module) (labels : Labelling m) where
  abbrev pub Constants : List Tree
  Constants = constant_types m m.items labels

  -- a body of the module: of a function or method, or an initializer after some items
  pub data BodyOf : Type 0 where
    of_function : (owner : Owner) (d : FuncDef) (lab : Labelled m (constant_types m m.items labels) (IsListedPlace m)
        owner d) → BodyOf
    of_items : (types : List Tree) (defs : List FuncDef) (n : ℕ) (names : List (List ℕ)) → BodyOf

  abbrev pub body_around : BodyOf → Around
  body_around (of_function owner d lab) = around_of m (constant_types m m.items labels) (IsListedPlace m) owner d lab
  body_around (of_items types defs n names) = around_items m (IsListedPlace m) types defs n names

  abbrev pub body_ctx : BodyOf → Context
  body_ctx (of_function owner d lab) = context_of m (constant_types m m.items labels) (IsListedPlace m) owner d
  body_ctx (of_items types defs n names) = initializer_context m types n

  pub body_fits : (b : BodyOf) → IsContextOf (body_around b) (body_ctx b)
  body_fits (of_function owner d lab) = fits_of m (constant_types m m.items labels) (IsListedPlace m) owner d lab
  body_fits (of_items types defs n names) = record {
    bases = refl;
    classes = refl;
    smaller = smaller m;
    local = λ word x e. absurd (module_local m word x e);
    named = λ word x e. absurd (none-some _ e);
  }

  abbrev pub body_returned : BodyOf → Tree
  body_returned (of_function owner d lab) = return_type m d
  body_returned (of_items types defs n names) = NoneType

  abbrev pub bodies : Bodies
  bodies = record { Body = BodyOf; around = body_around; ctx = body_ctx; fits = body_fits; returned = body_returned }

  -- the state before `main`
  abbrev pub Last : BeforeItem
  Last = last_of m (constant_types m m.items labels) (IsListedPlace m) nothing_before m.items labels

  -- the facts left to be shown of a module without silent errors: each form is safe in each body, classes are made as
  -- their facts say, and its labels are as runs need them
  pub record Premises : Type 1 where
    pub forms : FormsGood m bodies
    pub classes : (n : ℕ) → GoodClasses m (constant_types m m.items labels) (IsListedPlace m) (steps Step free n)
    pub ready : ItemsReady m (constant_types m m.items labels) (IsListedPlace m) nothing_before m.items labels
    pub labelled : (owner : Owner) (d : FuncDef) → function_of m owner ≡ Some d
        → Labelled m (constant_types m m.items labels) (IsListedPlace m) owner d
    pub main : is_plain_def (codes "main") m.items ≡ true
    pub inherits : Inherits (bases_of m) (classes_of m)
    pub last_types : (last_of m (constant_types m m.items labels) (IsListedPlace m) nothing_before m.items
        labels).constants ≡ constant_types m m.items labels
    pub last_classes : (last_of m (constant_types m m.items labels) (IsListedPlace m) nothing_before m.items
        labels).classes ≡ length (classes_in m.items)

  module _ (lawful : IsLawful m labels) (clean : HasNoSilentError m) (premises : Premises) where
    listed_of : Listed m (IsListedPlace m) (ModuleItemsFind m (constant_types m m.items labels) nothing_before m.items labels)
    listed_of f h = let found = said_is_found m labels lawful f h in
        (record { finding = f; found = found; at = refl }, clean f found)

    good : (n : ℕ) → AllGood m bodies n
    good n = all_good m bodies premises.forms n

    -- the items, in any number of nested steps
    items_in_turn : (n : ℕ) → Proceeds (IsListedPlace m) (λ k s. Between m (IsListedPlace m) [] [] 0 [] k s)
        (exec_items Step free (steps Step free n) m.imports_dataclass m.items) (λ k u s. Between m (IsListedPlace m)
        Last.constants (functions_in m.items) Last.classes Last.names k s)
    items_in_turn n =
        items_proceed m (constant_types m m.items labels) (IsListedPlace m) (steps Step free n)
        (λ types defs c names. (good n).eval (of_items types defs c names)) (steps_evaluate n) (premises.classes n)
        [] m.items nothing_before [] labels refl refl refl refl lawful listed_of premises.ready

    -- the items and `main`, in any number of nested steps
    module_proceeds : (n : ℕ) → Proceeds (IsListedPlace m) (λ k s. Between m (IsListedPlace m) [] [] 0 [] k s)
        (exec_module Step free (steps Step free n) m) (λ k v s. Unit {0})
    module_proceeds n =
        proceeds_bind (IsListedPlace m) _ _ _ (λ k u s. Between m (IsListedPlace m) Last.constants
        (functions_in m.items) Last.classes Last.names k s) _ (items_in_turn n)
        λ u. proceeds_as (IsListedPlace m) _ (λ k s. Between m (IsListedPlace m) Last.constants (functions_in m.items)
        Last.classes Last.names k s) _ (λ k v s. Between m (IsListedPlace m) Last.constants (functions_in m.items)
        Last.classes Last.names k s × Unit {0}) _ (λ k s b. b) (λ k v s b. tt)
        (proceeds_safe m (IsListedPlace m) Last.constants (functions_in m.items) Last.classes Last.names
        (enter_main Step free (steps Step free n)) (λ k v. Unit {0})
        (main_safe m (constant_types m m.items labels) (IsListedPlace m) premises.inherits (steps Step free n)
        Last.constants Last.classes Last.names premises.last_types premises.last_classes main lab
        ((good n).exec (of_function (owners.Func main.number) main.function lab))))
      where
        main : MainIs m (constant_types m m.items labels) (IsListedPlace m)
        main = main_is m (constant_types m m.items labels) (IsListedPlace m) premises.main

        lab : Labelled m (constant_types m m.items labels) (IsListedPlace m) (owners.Func main.number) main.function
        lab = premises.labelled (owners.Func main.number) main.function main.is

    no_fault : (out : Out Value) → EndsWell (λ v. Unit {0}) out → IsFaultyEnd (end_with out) → ⊥
    no_fault (Gives v) e f = f
    no_fault (Stops (Raised x)) e f = e
    no_fault (Stops Outside) e f = e
    no_fault (Stops Other) e f = f
    no_fault (Stops Cut) e f = f

    lt_zero : (c : ℕ) → nat_lt c 0 ≡ true → ⊥
    lt_zero c e = grind (arith, nat_tests, e)

    -- before the first item
    begins : Between m (IsListedPlace m) [] [] 0 [] [] nothing_bound
    begins = record {
      well = record { long = refl; each = λ l r e. absurd (none-some _ e) };
      frame = refl;
      bound = record {
        constant = λ word i t r e. absurd (none-some _ e);
        function = λ word i d r e. absurd (none-some _ e);
        class = λ word c r l. absurd (lt_zero c l);
        classes = λ c t l e. absurd (lt_zero c l);
        count = refl;
        fresh = λ word e. refl;
        free = λ word e. refl;
      };
    }

    -- from nothing bound the items evaluate a listed place, or they end well: in a state in which all is bound
    pub items_run : (n : ℕ) (events : List Place) (out : Out (Unit {0})) (after : State)
        → exec_items Step free (steps Step free n) m.imports_dataclass m.items nothing_bound events out after
        → HasListed (IsListedPlace m) events ⊎ Arrives (λ k u s. Between m (IsListedPlace m) Last.constants
        (functions_in m.items) Last.classes Last.names k s) out after
    items_run n events out after r = (items_in_turn n).run [] nothing_bound after events out begins r

    -- a run that ends in a fault has evaluated a listed place
    pub sound_of : (events : List Place) (end : End) → Run m events end → IsFaultyEnd end → HasEvaluatedListed m events
    sound_of events end (inl never) fault = absurd (never_stopped m (record { labels = labels; lawful = lawful }) clean
        never.0)
    sound_of events end (inr ran) fault = elim ((module_proceeds ran.1.bound).run [] nothing_bound ran.1.left events
        ran.1.out begins ran.1.runs) [
          | inl h ↦ record {
            finding = h.is.finding;
            found = h.is.found;
            event =
                subst (λ p. Contains events p) (sym h.is.at) h.event;
          }
          | inr a ↦ absurd (no_fault ran.1.out a.ends (subst IsFaultyEnd ran.1.is fault))
        ]
