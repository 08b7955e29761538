-- The findings of scope analysis, and those under lawful labels, are findings of the module.
use Rattle.std.proofs.Common.{◌≡◌, true, false, refl, inl, inr}
use Rattle.std.specs.Prelude.{Bool as Test}
use Rattle.pc_tree.specs.declared.code.Finding.{Finding}
use Rattle.pc_tree.specs.Tree.{Module}
use Rattle.pc_scope_findings.specs.Findings.{ScopeFinds}
use Rattle.pc_rules.specs.Labels.{is_of_scopes}
use Rattle.pc_module_rules.specs.Modules.{Labelling, IsLawful, LabelsSay, IsFinding}
use Rattle.pc_module_rules.proofs.Agreement.{agrees}
use Rattle.pc_module_rules.proofs.LabelledModule.{every_module_has_a_labelling}

pub of_scopes : (m : Module) (f : Finding) → ScopeFinds m f → IsFinding m f
of_scopes m f found = let h = every_module_has_a_labelling m in
    record { labels = h.labels; lawful = h.lawful; found = inl found }

-- each finding under lawful labels is a finding of the module, by scope analysis or by the labels
pub said_is_found : (m : Module) (labels : Labelling m) → IsLawful m labels → (f : Finding) → LabelsSay m labels f
    → IsFinding m f
said_is_found m labels lawful f said = go (is_of_scopes f.code) refl
  where
    go : (b : Test) → is_of_scopes f.code ≡ b → IsFinding m f
    go true is = record { labels = labels; lawful = lawful; found = inl ((agrees m labels lawful).found f is said) }
    go false is = record { labels = labels; lawful = lawful; found = inr (inr (record { own = is; said = said })) }
