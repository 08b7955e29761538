-- Each finding of a module has a detail, by its code.
use Rattle.std.proofs.Common.{◌≡◌, Bool as Test, true, false, refl, sym, subst, inl, inr}
use Rattle.pc_source.specs.declared.place.Place.{Place}
use Rattle.pc_tree.specs.declared.code.Code.{Code}
use Rattle.pc_tree.specs.declared.code.Code.TheVariants.{A1, E01, E05, E12, E28, E29, E31}
use Rattle.pc_tree.specs.declared.code.Finding.{Finding}
use Rattle.pc_tree.specs.Stopping.{IsStopping}
use Rattle.pc_tree.specs.Tree.{Module}
use Rattle.pc_scope_findings.specs.Findings.{IsScopeCode, ScopeFinds, stopping, unknown, early, unreachable}
use Rattle.pc_class.specs.Findings.{ClassFinds, base, member, order, override}
use Rattle.pc_module_rules.specs.Modules.{Labelling, IsLawful, IsFinding, LabelsFind}
use Rattle.pc_module_rules.proofs.PlainCodes.{tells_flow}
use Rattle.pc_module_rules.proofs.StandingFlows.{flows_found, wrong_found}
use Rattle.pc_detail_rules.specs.Facts.{Known, known_under}
use Rattle.pc_detail_rules.specs.Laws.{IsFit, EveryFindingIsExplained}
use Rattle.pc_detail_rules.proofs.Explained.Classes.{base_told, override_told}
use Rattle.pc_detail_rules.proofs.Explained.Flows.{flow_told}
use Rattle.pc_detail_rules.proofs.Explained.Members.{member_told, order_told}
use Rattle.pc_detail_rules.proofs.Explained.Modules.{labels_told}
use Rattle.pc_detail_rules.proofs.Explained.Names.{twice_told, unknown_told, early_told}
use Rattle.pc_detail_rules.proofs.Explained.Stopping.{loose_told, reserved_told, late_told, unreachable_told}
use Rattle.pc_detail_rules.proofs.Explained.Told.{IsTold}
use Rattle.pc_detail_rules.proofs.Explained.WrongCalls.{explained}

-- ---- scopes

stopping_told : (m : Module) (known : Known) (p : Place) (c : Code) → IsScopeCode c → IsStopping m p c
    → IsTold m known p c
stopping_told m known p E01 i h = twice_told m p h
stopping_told m known p E05 i h = loose_told m p h
stopping_told m known p E28 i h = refl
stopping_told m known p E29 i h = reserved_told m p h
stopping_told m known p E31 i h = late_told m p h
stopping_told m known p _ i h = absurd i

scope_told : (m : Module) (known : Known) (f : Finding) → ScopeFinds m f → IsTold m known f.place f.code
scope_told m known f (stopping i h) = stopping_told m known f.place f.code i h
scope_told m known f (unknown h) = unknown_told m known f h
scope_told m known f (early h) = early_told m known f h
scope_told m known f (unreachable h) = subst (λ (g : Finding). IsTold m known g.place g.code) (sym h.is)
    (unreachable_told m h.body h.of h.place h.first)

-- ---- classes

class_told : (m : Module) (known : Known) (f : Finding) → IsFit m f.code → ClassFinds m f → IsTold m known f.place f.code
class_told m known f fit (base c class n h) = base_told m known c class f n.is h
class_told m known f fit (member h) = member_told m known f h
class_told m known f fit (order c class n h) = order_told m known c class f n.is h
class_told m known f fit (override c class n h) = override_told m known c class f n.is fit h

-- ---- labels

-- the two codes of flows
of_flows : (P : Code → Type 0) → P A1 → P E12 → (c : Code) → tells_flow c ≡ true → P c
of_flows P a e A1 h = a
of_flows P a e E12 h = e
of_flows P a e _ h = absurd (cc h)

module _ (m : Module) (labels : Labelling m) (lawful : IsLawful m labels) where
  label_told : (f : Finding) → IsFit m f.code → IsFinding m f → LabelsFind m labels f
      → IsTold m (known_under m labels) f.place f.code
  label_told f fit found h = go (tells_flow f.code) refl
    where
      flows : tells_flow f.code ≡ true → IsTold m (known_under m labels) f.place f.code
      flows e = of_flows (λ c. IsFit m c → IsFinding m (record { place = f.place; code = c })
          → IsTold m (known_under m labels) f.place c)
          (λ own k. flow_told m labels A1 own lawful f.place ((flows_found m f.place).0 k))
          (λ own k. flow_told m labels E12 own lawful f.place ((wrong_found m f.place).0 k)) f.code e fit found

      go : (b : Test) → tells_flow f.code ≡ b → IsTold m (known_under m labels) f.place f.code
      go true e = flows e
      go false e = labels_told m labels f (record { own = h.own; plain = e; fit = fit }) lawful h.said

-- ---- all

pub every_explained : EveryFindingIsExplained
every_explained m f fit h = explained m f h.labels h.lawful (elim h.found [
  | inl s ↦ scope_told m (known_under m h.labels) f s
  | inr x ↦ elim x [
    | inl c ↦ class_told m (known_under m h.labels) f fit c
    | inr l ↦ label_told m h.labels h.lawful f fit h l
  ]
])
