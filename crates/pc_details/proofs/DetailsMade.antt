-- The details that are made of the findings of a list, over what the notes of a check tell.
use Rattle.std.proofs.Common.{◌≡◌, ◌∙◌, ◌++◌, ◌∷◌, [], List, Option, Some, None, refl, sym, ap, map, subst}
use Rattle.std.specs.List.{AllByRecursion}
use Rattle.std.specs.Prelude.{Contains, Err, IfOk, Ok, Result, Vec}
use Rattle.std.specs.declared.alloc.Global.{Global}
use Rattle.std.specs.Option.{option_map}
use Rattle.pc_tree.specs.Tree.{Ann, Module}
use Rattle.pc_types.specs.Boxed.{tree_of}
use Rattle.pc_types.specs.Tree.{Tree}
use Rattle.pc_types.specs.declared.boxed.BoxType.{BoxType}
use Rattle.pc_annotations.specs.Bases.{bases_of}
use Rattle.pc_class.specs.Facts.{ClassFacts, classes_of}
use Rattle.pc_class.specs.Parts.{bases_in}
use Rattle.pc_class.specs.Tables.{ClassEntry, classes_with}
use Rattle.pc_class.proofs.ItemsBuilt.{bases_are, bases_there}
use Rattle.pc_notes.specs.Notes.{Note}
use Rattle.pc_detail_texts.specs.Details.{Detail}
use Rattle.pc_detail_texts.specs.Shown.{detail_of_value}
use Rattle.pc_detail_texts.specs.declared.details.Detail.{Detail as RustDetail}
use Rattle.pc_details.specs.declared.explained.DetailedFinding.{DetailedFinding as RustDetailed}
use Rattle.pc_detail_facts.specs.declared.facts.Facts.{Facts}
use Rattle.pc_detail_facts.specs.declared.known.Known.{Known as RustKnown}
use Rattle.pc_tree.specs.declared.code.Finding.{Finding}
use Rattle.pc_detail_rules.specs.Explains.{annotation_for, detail_for}
use Rattle.pc_detail_rules.specs.Facts.{TellTheSame}
use Rattle.pc_detail_facts.specs.Held.{HoldsNotes, known_held, known_of, module_held}
use Rattle.pc_details.specs.Made.{IsDetailOf, IsToldAt, told_at}
use Rattle.pc_detail_rules.specs.Noted.{known_by}
use Rattle.pc_details.specs.Listed.{IsMade}
use Rattle.pc_detail_rules.proofs.KnownAlike.{same_annotation, same_details}
use Rattle.pc_detail_rules.specs.ToldTypes.{told_detail}

-- the parents of the classes of a table are the bases of the module
pub parents_of_table : (m : Module) (es : List (ClassEntry BoxType)) → classes_with tree_of es ≡ classes_of m
    → bases_in es ≡ bases_of m
parents_of_table m es h = sym (bases_there tree_of es) ∙ ap (map (λ (x : ClassFacts). x.base)) h ∙ bases_are m

-- what is held is what notes tell
pub alike : (notes : List Note) (k : RustKnown) → HoldsNotes notes k → TellTheSame (known_by notes) (known_of k)
alike notes k h = record { types = λ p. sym (h.types p); wrong = λ p. sym (h.wrong p); dynamic = λ p. sym (h.dynamic p) }

some_same : {A : Type 0} (a b : A) → Some a ≡ Some b → a ≡ b
some_same a b e = cc

-- a detail by the rule of its code is made of what notes tell
pub one_made : (notes : List Note) (f : Facts) (findings : List Finding) → HoldsNotes notes f.known.now
    → (d : RustDetailed) → IsDetailOf f findings d → IsMade (module_held f) notes findings d
one_made notes f findings told d h =
    by (detail_for (module_held f) (known_held f) d.finding.place d.finding.code) refl h.by_rule
  where
    by : (o : Option (Detail Tree)) → detail_for (module_held f) (known_held f) d.finding.place d.finding.code ≡ o
        → Some (detail_of_value d.detail) ≡ option_map (told_detail (module_held f) (annotation_for (module_held f)
        (known_held f) d.finding.place d.finding.code)) o → IsMade (module_held f) notes findings d
    by None e shown = absurd (cc shown)
    by (Some x) e shown = record {
      listed = h.listed;
      detail = x;
      by_rule = same_details (module_held f) (known_by notes) (known_held f) (alike notes f.known.now told) d.finding.place
          d.finding.code ∙ e;
      shown = some_same (detail_of_value d.detail) _ shown
          ∙ ap (λ (a : Option Ann). told_detail (module_held f) a x) (sym (same_annotation (module_held f) (known_by notes)
          (known_held f) (alike notes f.known.now told) d.finding.place d.finding.code));
    }

-- likewise of all
pub all_made : (notes : List Note) (f : Facts) (findings : List Finding) → HoldsNotes notes f.known.now
    → (ds : List RustDetailed) → AllByRecursion (IsDetailOf f findings) ds
    → AllByRecursion (IsMade (module_held f) notes findings) ds
all_made notes f findings told [] all = tt
all_made notes f findings told (d ∷ ds) all = (one_made notes f findings told d all.0, all_made notes f findings told ds all.1)

-- likewise of all that a call gives
pub all_told : {E : Type 0} (r : Result (Vec RustDetailed Global) E) (f : Facts) (findings : List Finding)
    (notes : List Note) → IfOk r (λ v. AllByRecursion (IsDetailOf f findings) v.items) → HoldsNotes notes f.known.now
    → IfOk r (λ v. AllByRecursion (IsMade (module_held f) notes findings) v.items)
all_told (Ok v) f findings notes all h = all_made notes f findings h v.items all
all_told (Err e) f findings notes all h = tt

-- ---- one detail more

all_push : {A : Type 0} (P : A → Type 0) (xs : List A) (x : A) → AllByRecursion P xs → P x
    → AllByRecursion P (xs ++ x ∷ [])
all_push P [] x all p = (p, tt)
all_push P (y ∷ ys) x all p = (all.0, all_push P ys x all.1 p)

-- a finding with its detail, as the program holds them
abbrev pub detailed : Finding → RustDetail → RustDetailed
detailed x d = record { finding = x; detail = d }

-- the detail of one finding more
pub detail_more : (f g : Facts) (findings : List Finding) (ds : List RustDetailed) (x : Finding) (o : Option RustDetail)
    (d : RustDetail) → g ≡ f → AllByRecursion (IsDetailOf f findings) ds → Contains findings x → o ≡ Some d
    → IsToldAt g x.place x.code o
    → AllByRecursion (IsDetailOf f findings) (ds ++ detailed x d ∷ [])
detail_more f g findings ds x o d same all listed is made =
    all_push (IsDetailOf f findings) ds (detailed x d) all (record { listed = listed; by_rule = shown })
  where
    shown : Some (detail_of_value d) ≡ told_at f x.place x.code
    shown = subst (λ (h : Facts). IsToldAt h x.place x.code (Some d)) same
        (subst (λ (p : Option RustDetail). IsToldAt g x.place x.code p) is made)
