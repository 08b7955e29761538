-- The guarantee of the findings of a module about its runs, when errors are among them.
use Rattle.std.proofs.Common.{List, Contains, ◌↔◌}
use Rattle.pc_tree.specs.declared.code.Finding.{Finding}
use Rattle.pc_tree.specs.Tree.{Module}
use Rattle.pc_module_rules.specs.Modules.{IsFinding}
use Rattle.pc_sound.proofs.Modules.Soundness.{sound_beside_errors}
use Rattle.pc_top.specs.BesideErrors.{AreSoundBesideErrors}

-- a list that has just the findings of the module
pub beside_errors : (m : Module) (found : List Finding) → ((f : Finding) → Contains found f ↔ IsFinding m f)
    → AreSoundBesideErrors m found
beside_errors m found exact clean events end run fault =
    let e = sound_beside_errors m (λ f is. clean f ((exact f).1 is)) events end run fault in
    record { finding = e.finding; listed = (exact e.finding).1 e.found; event = e.event }
