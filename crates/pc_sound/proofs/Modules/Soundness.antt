-- The law of a module, given the remaining premises on its initializers, under its lawful labelling.
use Rattle.std.proofs.Common.{refl, sym, subst}
use Rattle.pc_tree.specs.declared.code.Code.{Code}
use Rattle.pc_tree.specs.declared.code.Code.TheVariants.{E01, E05, E06, E07, E08, E25, E28, E29, E31}
use Rattle.pc_tree.specs.declared.code.Finding.{Finding}
use Rattle.pc_tree.specs.Code.{IsError}
use Rattle.pc_tree.specs.Tree.{Module}
use Rattle.pc_module_rules.specs.Modules.{Labelling, IsLawful, constant_types}
use Rattle.pc_module_rules.proofs.LabelledModule.{every_module_has_a_labelling}
use Rattle.pc_sound.specs.Silent.{IsSilentCode, IsSilent, by_code, decorator, tested, shape, unreturned, bare}
use Rattle.pc_sound.specs.Silent.{default, HasNoSilentError}
use Rattle.pc_sound.specs.Sound.{Sound, SoundBesideErrors}
use Rattle.pc_sound.proofs.Modules.WholeModule.{IsListedPlace}
use Rattle.pc_sound.proofs.Modules.ClassesAreReady.{classes_ready}
use Rattle.pc_sound.proofs.Modules.DistinctMembers.{fields_distinct, methods_distinct}
use Rattle.pc_sound.proofs.Regular.RegularParts.{tests_in_time}
use Rattle.pc_sound.proofs.Regular.RegularInitializers.{initializers_are_regular}
use Rattle.pc_sound.proofs.Regular.RegularInitializers.{constants_are_regular}
use Rattle.pc_sound.proofs.Modules.EarlyNames.{initializers_timely}
use Rattle.pc_sound.proofs.Modules.Premises.{Left, sound_but_for}

-- the facts left to be shown of a module without silent errors hold of it
pub left_of : (m : Module) (labels : Labelling m) (lawful : IsLawful m labels) (clean : HasNoSilentError m)
    → Left m labels lawful clean
left_of m labels lawful clean =
    let timely = initializers_timely m labels lawful clean in
    record {
      classes = classes_ready m labels lawful clean (constant_types m m.items labels) (IsListedPlace m);
      distinct_fields = fields_distinct m labels lawful clean;
      distinct_methods = methods_distinct m labels lawful clean;
      constants_keyed = constants_are_regular tests_in_time m (λ word c e. tt) labels lawful timely;
      initializers_keyed = initializers_are_regular tests_in_time m (λ word c e. tt) labels lawful timely;
    }

-- the law beside errors
pub sound_beside_errors : SoundBesideErrors
sound_beside_errors m clean = let labelled = every_module_has_a_labelling m in
    sound_but_for m labelled.labels labelled.lawful clean (left_of m labelled.labels labelled.lawful clean)

-- ---- a module without errors

code_is_error : (c : Code) → IsSilentCode c → IsError c
code_is_error E01 h = refl
code_is_error E05 h = refl
code_is_error E06 h = refl
code_is_error E07 h = refl
code_is_error E08 h = refl
code_is_error E25 h = refl
code_is_error E28 h = refl
code_is_error E29 h = refl
code_is_error E31 h = refl
code_is_error _ h = absurd h

-- a silent finding is an error
silent_is_error : (m : Module) (f : Finding) → IsSilent m f → IsError f.code
silent_is_error m f (by_code h) = code_is_error f.code h
silent_is_error m f (decorator c among is) = subst (λ x. IsError x.code) (sym is) refl
silent_is_error m f (tested h) = subst (λ x. IsError x.code) (sym h.is) refl
silent_is_error m f (shape h) = subst (λ x. IsError x.code) (sym h.is) refl
silent_is_error m f (unreturned i d at is) = subst (λ x. IsError x.code) (sym is) refl
silent_is_error m f (bare is among) = subst (λ c. IsError c) (sym is) refl
silent_is_error m f (default is among) = subst (λ c. IsError c) (sym is) refl

-- the law
pub sound : Sound
sound m clean events end run fault =
    let e = sound_beside_errors m (λ f found silent. clean f found (silent_is_error m f silent)) events end run fault in
    record { finding = e.finding; found = e.found; dynamic = clean e.finding e.found; event = e.event }
