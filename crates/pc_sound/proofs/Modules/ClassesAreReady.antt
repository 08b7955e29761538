-- In a module without silent errors each class can be made as its facts say.
use Rattle.std.proofs.Common.{◌≡◌, ℕ, suc, ◌+◌, List, [], ◌∷◌, refl, ap, ◌∙◌, arith}
use Rattle.std.specs.Prelude.{codes, Some, slice_get}
use Rattle.pc_source.specs.declared.place.Place.{Place}
use Rattle.pc_tree.specs.Tree.{FuncDef, Member, field_member, method_member, Module}
use Rattle.pc_scope.specs.declared.resolution.Owner.TheVariants as owners
use Rattle.pc_scope.specs.Bindings.{methods_in}
use Rattle.pc_scope.specs.Resolution.{function_of, method_at}
use Rattle.pc_types.specs.Tree.{Tree}
use Rattle.pc_class.specs.Facts as facts
use Rattle.pc_class.specs.Findings.{base_class}
use Rattle.pc_module_rules.specs.Modules.{Labelling, IsLawful}
use Rattle.pc_sound.specs.Silent.{HasNoSilentError}
use Rattle.pc_sound.proofs.Modules.MadeClasses.{MembersReady, ClassesReady}
use Rattle.pc_sound.proofs.Modules.MembersBind.{BindAll, members_bind}
use Rattle.pc_sound.proofs.Modules.ClassPremises.{imported, based, ordered}
use Rattle.pc_sound.proofs.Modules.UniqueNames.{parameters_bind, function_binds}

module _ (m : Module) (labels : Labelling m) (lawful : IsLawful m labels) (clean : HasNoSilentError m)
    (constants : List Tree) (listed : Place → Type 0) where
  -- each member binds its name, and each parameter of a method its own
  members_ready : (base : facts.ClassFacts) (c number : ℕ) (before : List (List ℕ)) (ms : List Member)
      → BindAll m base before ms → ((i : ℕ) (d : FuncDef) → slice_get (methods_in ms) i ≡ Some d
      → function_of m (owners.Method c (number + i)) ≡ Some d) → MembersReady m constants listed base before ms
  members_ready base c number before [] binds at = tt
  members_ready base c number before (field_member f ∷ rest) binds at =
      (binds.0, members_ready base c number (f.name.text ∷ before) rest binds.1 at)
  members_ready base c number before (method_member f ∷ rest) binds at = (
    (
      binds.0,
      parameters_bind m listed (codes "self" ∷ []) f.params
          (function_binds m labels lawful clean (owners.Method c number) f
          (ap (λ j. function_of m (owners.Method c j)) (omega arith) ∙ at 0 f refl)),
    ),
    members_ready base c (suc number) (f.name.text ∷ before) rest binds.1
        (λ i d e. ap (λ j. function_of m (owners.Method c j)) (omega arith) ∙ at (suc i) d e),
  )

  pub classes_ready : ClassesReady m constants listed
  classes_ready = record {
    imported = imported m labels lawful clean constants listed;
    based = based m labels lawful clean constants listed;
    members = λ c class is. members_ready (base_class m c class) c 0 [] class.members
        (members_bind m labels lawful clean c class is) (λ i d e. ap (λ j. function_of m (owners.Method c j))
        (omega arith) ∙ ap (λ x. method_at x i) is ∙ e);
    ordered = ordered m labels lawful clean constants listed;
  }
