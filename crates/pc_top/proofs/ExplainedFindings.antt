-- Details that were made over the notes of a check that keeps types explain their findings.
use Rattle.std.proofs.Common.{◌≡◌, ◌∙◌, List, [], ◌∷◌, true, Option, Some, None, refl, sym, ap, subst}
use Rattle.std.specs.List.{AllByRecursion}
use Rattle.std.specs.Option.{option_map}
use Rattle.std.proofs.lemmas.Map.Keys.{IsDistinct-from_sorted}
use Rattle.pc_tree.specs.declared.code.Finding.{Finding}
use Rattle.pc_tree.specs.Tree.{Ann, Module}
use Rattle.pc_types.specs.Tree.{Tree}
use Rattle.pc_notes.specs.Notes.{Note}
use Rattle.pc_detail_texts.specs.Details.{Detail}
use Rattle.pc_detail_texts.specs.Sentences.{Words}
use Rattle.pc_detail_texts.specs.Shown.{detail_of_value}
use Rattle.pc_module_rules.specs.Computed.Modules.{module_notes}
use Rattle.pc_details.specs.declared.explained.DetailedFinding.{DetailedFinding}
use Rattle.pc_report.specs.Report.{IsInOrder}
use Rattle.pc_report.proofs.OneListing.{strictly}
use Rattle.pc_report.proofs.Order.{finding_cmp}
use Rattle.pc_details.specs.Listed.{FindingsDiffer, IsMade, ListedDetail, finding_words}
use Rattle.pc_detail_rules.specs.Explains.{AreWords, annotation_for, detail_for}
use Rattle.pc_detail_rules.specs.Noted.{known_by}
use Rattle.pc_detail_rules.proofs.KnownAlike.{annotation_read_off, read_off}
use Rattle.pc_detail_rules.specs.ToldTypes.{told_detail}
use Rattle.pc_top.specs.DetailedBytes.{ExplainsFinding}
use Rattle.pc_top.specs.DetailedTexts.{TellsDetails, detail_in}

-- findings in order differ
pub distinct_in_order : (fs : List Finding) → IsInOrder fs → FindingsDiffer fs
distinct_in_order fs h = IsDistinct-from_sorted finding_cmp fs (strictly fs h)

-- the words of a detail that the rule of a finding's code gives over the notes of the module are those of the finding
told_of_rule : (m : Module) (f : Finding) (words : Detail Words) (d : Detail Tree)
    → detail_for m (known_by (module_notes true m [])) f.place f.code ≡ Some d
    → words ≡ finding_words m (module_notes true m []) f d → AreWords m f words
told_of_rule m f words d by_rule is = record {
  detail = d;
  explains = (read_off m f d).0 by_rule;
  annotation = annotation_for m (known_by (module_notes true m [])) f.place f.code;
  annotated = (annotation_read_off m f (annotation_for m (known_by (module_notes true m [])) f.place f.code)).0 refl;
  told = is;
}

module _ (m : Module) (findings : List Finding) where
  -- a detail that was made over the notes of the module explains its finding
  one_explained : (d : DetailedFinding) → IsMade m (module_notes true m []) findings d → ExplainsFinding m findings d
  one_explained d h = record {
    listed = h.listed;
    told = told_of_rule m d.finding (detail_of_value d.detail) h.detail h.by_rule h.shown;
  }

  each_explained : (ds : List DetailedFinding) → AllByRecursion (IsMade m (module_notes true m []) findings) ds
      → AllByRecursion (ExplainsFinding m findings) ds
  each_explained [] all = tt
  each_explained (d ∷ ds) all = (one_explained d all.0, each_explained ds all.1)

  -- each of several details explains its finding
  pub all_explained : (notes : List Note) → notes ≡ module_notes true m [] → (ds : List DetailedFinding)
      → AllByRecursion (IsMade m notes findings) ds → AllByRecursion (ExplainsFinding m findings) ds
  all_explained notes are ds all = each_explained ds
      (subst (λ (l : List Note). AllByRecursion (IsMade m l findings) ds) are all)

-- ---- the detail of a finding is the one that explains it

-- the words of a detail, if there is one
abbrev words_of : Module → Finding → Option (Detail Tree) → Option (Detail Words)
words_of m f o = option_map (λ (l : ListedDetail). l.words)
    (option_map (λ (d : Detail Tree). record { finding = f; words = finding_words m (module_notes true m []) f d }) o)

module _ (m : Module) (f : Finding) (words : Detail Words) where
  words_given : (o : Option (Detail Tree)) → words_of m f o ≡ Some words
      → (d : Detail Tree) × (o ≡ Some d) × (words ≡ finding_words m (module_notes true m []) f d)
  words_given None e = absurd (cc e)
  words_given (Some d) e = (d, refl, cc e)

  abbrev by_notes : Option (Detail Tree)
  by_notes = detail_for m (known_by (module_notes true m [])) f.place f.code

  one_told : (detail_in m f ≡ Some words) → AreWords m f words
  one_told e = let given = words_given by_notes e in told_of_rule m f words given.0 given.1 given.2

  told_one : AreWords m f words → detail_in m f ≡ Some words
  told_one h = ap (words_of m f) ((read_off m f h.detail).1 h.explains)
      ∙ ap (λ (a : Option Ann). Some (told_detail m a h.detail)) ((annotation_read_off m f h.annotation).1 h.annotated)
      ∙ ap Some (sym h.told)

pub details_told_of : (m : Module) → TellsDetails m (detail_in m)
details_told_of m f words = (one_told m f words, told_one m f words)
