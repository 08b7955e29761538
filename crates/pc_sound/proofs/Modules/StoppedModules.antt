-- A code that stops a module is silent, so each run of a module without silent errors is one of its items and `main`.
use Rattle.std.proofs.Common.{◌≡◌, List, [], ◌∷◌, ◌++◌, refl, inl, inr, arith, Contains}
use Rattle.std.specs.Prelude.{◌⊎◌, false}
use Rattle.pc_source.specs.declared.place.Place.{Place}
use Rattle.pc_tree.specs.declared.code.Code.{Code}
use Rattle.pc_tree.specs.declared.code.Code.TheVariants.{E01, E05, E06, E28, E29, E31}
use Rattle.pc_tree.specs.Code.{finding}
use Rattle.pc_sound.specs.Silent.{IsSilentCode, by_code}
use Rattle.pc_tree.specs.Stopping.{has_none, twice, outside_loop, clashing_members, no_main, reserved_bound}
use Rattle.pc_tree.specs.Stopping.{default_order, IsStopping, is_runnable}
use Rattle.pc_tree.specs.Tree.{Module}
use Rattle.pc_scope_findings.specs.Findings as scope
use Rattle.pc_class.specs.Findings as class
use Rattle.pc_module_rules.specs.Modules.{HasLabelling}
use Rattle.pc_sound.specs.Silent.{HasNoSilentError}

-- a list that is not empty has an element
record Some_of (ps : List Place) : Type 0 where
  place : Place
  among : Contains ps place

one_of : (ps : List Place) → has_none ps ≡ false → Some_of ps
one_of [] e = absurd (grind (arith, e))
one_of (p ∷ ps) e = record { place = p; among = (0, omega arith, refl) }

either : (ps qs : List Place) → has_none (ps ++ qs) ≡ false → Some_of ps ⊎ (has_none qs ≡ false)
either [] qs e = inr e
either (p ∷ ps) qs e = inl (record { place = p; among = (0, omega arith, refl) })

module _ (m : Module) (labelled : HasLabelling m) (clean : HasNoSilentError m) where
  scope_stop : (code : Code) → scope.IsScopeCode code → IsSilentCode code → (p : Place) → IsStopping m p code → ⊥
  scope_stop code is error p stops = clean (finding p code)
      (record { labels = labelled.labels; lawful = labelled.lawful; found = inl (scope.stopping is stops) })
      (by_code error)

  class_stop : (p : Place) → IsStopping m p E06 → ⊥
  class_stop p stops = clean (finding p E06) (record {
    labels = labelled.labels;
    lawful = labelled.lawful;
    found =
        inr (inl (class.member (record { code = refl; stops = stops })));
  }) (by_code tt)

  pub never_stopped : is_runnable m ≡ false → ⊥
  never_stopped e = elim (either (twice m) _ e) [
    | inl a ↦ scope_stop E01 tt tt a.place a.among
    | inr e1 ↦ elim (either (outside_loop m) _ e1) [
      | inl a ↦ scope_stop E05 tt tt a.place a.among
      | inr e2 ↦ elim (either (clashing_members m) _ e2) [
        | inl a ↦ class_stop a.place a.among
        | inr e3 ↦ elim (either (no_main m) _ e3) [
          | inl a ↦ scope_stop E28 tt tt a.place a.among
          | inr e4 ↦ elim (either (reserved_bound m) (default_order m) e4) [
            | inl a ↦ scope_stop E29 tt tt a.place a.among
            | inr e5 ↦ let a = one_of (default_order m) e5 in scope_stop E31 tt tt a.place a.among
          ]
        ]
      ]
    ]
  ]
