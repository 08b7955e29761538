-- The texts of the flows noted with A1 by the walk over a module are those of its dynamic flows.
use Rattle.std.proofs.Common.{◌≡◌, List, [], ◌∷◌, Option, Some, None, refl, sym, subst}
use Rattle.std.specs.Prelude.{MatchOption, IsSome}
use Rattle.std.specs.Rc.{rc_str_bytes}
use Rattle.std.specs.List.{AllByRecursion}
use Rattle.pc_tree.specs.declared.code.Code.TheVariants.{A1}
use Rattle.pc_tree.specs.Tree.{Module}
use Rattle.pc_types.specs.Tree.{Tree}
use Rattle.pc_annotations.specs.Text.{type_text}
use Rattle.pc_notes.specs.Notes.{Note}
use Rattle.pc_notes.specs.Texts.{FlowText, IsFlowText, AreFlowTexts}
use Rattle.pc_module_rules.specs.Computed.DynamicFlows.{dynamic_flow}
use Rattle.pc_module_rules.specs.Computed.Modules.{module_finds}
use Rattle.pc_module_rules.proofs.StandingFlows.{flows_found, flows_computed}
use Rattle.pc_check.specs.FlowTexts.{IsDynamicFlowText, AreDynamicFlowTexts}

module _ (m : Module) where
  -- the text of a computed flow is that of the dynamic flow
  told : (t : FlowText) (o : Option (Tree × Tree)) → dynamic_flow m t.0 ≡ o
      → MatchOption o ⊥ (λ f. (rc_str_bytes t.1 ≡ type_text m f.0) × (rc_str_bytes t.2 ≡ type_text m f.1))
      → IsDynamicFlowText m t
  told t None is h = absurd h
  told t (Some f) is h = record {
    from = f.0;
    into = f.1;
    flows = (flows_computed m t.0 f.0 f.1).0 is;
    from_text = h.0;
    into_text = h.1;
  }

  each_told : (texts : List FlowText) → AllByRecursion (IsFlowText m A1 (module_finds m [])) texts
      → AllByRecursion (IsDynamicFlowText m) texts
  each_told [] all = tt
  each_told (t ∷ ts) all = (told t (dynamic_flow m t.0) refl all.0, each_told ts all.1)

  computed_told : (texts : List FlowText) → AreFlowTexts m A1 (module_finds m []) texts → AreDynamicFlowTexts m texts
  computed_told texts are = record {
    each = each_told texts are.each;
    all = λ p found. let d = (flows_found m p).0 found in
        are.all p (subst IsSome (sym ((flows_computed m p d.from d.into).1 d.flows)) refl);
    ordered = are.ordered;
  }

  -- the texts of the flows noted with A1 are those of the dynamic flows
  pub texts_told : (notes : List Note) (texts : List FlowText) → notes ≡ module_finds m [] → AreFlowTexts m A1 notes texts
      → AreDynamicFlowTexts m texts
  texts_told notes texts is are = computed_told texts (subst (λ ns. AreFlowTexts m A1 ns texts) is are)
