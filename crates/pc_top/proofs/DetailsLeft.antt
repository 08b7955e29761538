-- The details that are left, as the rows of their findings go by.
use Rattle.std.proofs.Common.{◌≡◌, ◌∙◌, ◌<◌, ◌+◌, ℕ, List, [], ◌∷◌, ◌++◌, Bool, true, false, Option, Some, None, refl, sym, ap, map}
use Rattle.std.proofs.Common.{◌&&◌, drop, eqb, get_or, length, rules}
use Rattle.std.proofs.lemmas.Bool.{and_parts, eq-eqb, eqb-true, true≢false}
use Rattle.std.proofs.lemmas.Cmp.{tied_itself}
use Rattle.std.proofs.lemmas.List.{drop_more}
use Rattle.std.proofs.lemmas.Map.Keys.{IsDistinct-head, IsDistinct-tail}
use Rattle.std.specs.List.{AllByRecursion, cons_option}
use Rattle.std.specs.Option.{option_map}
use Rattle.std.specs.Ordering.{eq_by_cmp, is_eq}
use Rattle.std.specs.Prelude.{filter_map}
use denote.Enum.Bare.{sameb, same_true, true_same}
use Rattle.pc_tree.specs.contracts.code.Code.{the_type}
use Rattle.pc_tree.specs.contracts.code.FindingOrd.TheImpl.{cmp-value}
use Rattle.pc_tree.specs.contracts.code.FindingOrd.TheImpl.Laws.{total-law}
use Rattle.pc_tree.specs.declared.code.Code.{Code}
use Rattle.pc_tree.specs.declared.code.Finding.{Finding}
use Rattle.pc_tree.specs.Tree.{Module}
use Rattle.pc_types.specs.Tree.{Tree}
use Rattle.pc_detail_texts.specs.Details.{Detail}
use Rattle.pc_detail_texts.specs.Sentences.{Words, sentence_of}
use Rattle.pc_detail_texts.specs.Shown.{detail_of_value}
use Rattle.pc_report.specs.declared.format.Format.TheVariants.{One}
use Rattle.pc_report.specs.declared.report.Row.{Row}
use Rattle.pc_report.specs.Detailed.{DetailContent}
use Rattle.pc_report.specs.Report.{row_findings, row_text}
use Rattle.pc_module_rules.specs.Computed.Modules.{module_notes}
use Rattle.pc_details.specs.Listed.{ListedDetail, detail_told, listed_of}
use Rattle.pc_top.specs.declared.detailed.DetailedReport.{DetailedReport}
use Rattle.pc_top.specs.declared.detailed.PlacedDetail.{PlacedDetail}
use Rattle.pc_top.specs.DetailedBytes.{DetailedHeadline}
use Rattle.pc_top.specs.DetailedTexts.{content_in, content_told, detail_in, detail_text, detailed_line, sentence_text}
use Rattle.pc_top.specs.PrintedDetails.{AreLeft, IsDetailHeld, held_content, held_line, held_detail_text, listed_by}
use Rattle.pc_top.proofs.ExplainedFindings.{distinct_in_order}

-- ---- whether two findings are equal

-- the flag of `==`
abbrev is_same : Finding → Finding → Bool
is_same f g = (eqb f.place.start g.place.start && eqb f.place.end g.place.end) && sameb the_type f.code g.code

pub same_finding : (f g : Finding) → true ≡ is_same f g → f ≡ g
same_finding f g e =
    let parts = and_parts (eqb f.place.start g.place.start && eqb f.place.end g.place.end) (sameb the_type f.code g.code)
    (sym e) in
    let ends = and_parts (eqb f.place.start g.place.start) (eqb f.place.end g.place.end) parts.0 in
    let start = eqb-true f.place.start g.place.start ends.0 in
    let end = eqb-true f.place.end g.place.end ends.1 in
    let code = same_true the_type (search rules) f.code g.code parts.1 in
    λ i. record { place = record { start = start i; end = end i }; code = code i }

same_itself : (f : Finding) → is_same f f ≡ true
same_itself f = λ i. (eq-eqb f.place.start f.place.start refl i && eq-eqb f.place.end f.place.end refl i)
    && true_same the_type f.code f.code refl i

pub other_finding : (f g : Finding) → false ≡ is_same f g → ¬ (f ≡ g)
other_finding f g e same = true≢false (sym (same_itself f) ∙ ap (is_same f) same ∙ sym e)

-- ---- the first of a list of details

-- a finding with a detail
abbrev with_words : Finding → Detail Words → ListedDetail
with_words f words = record { finding = f; words = words }

-- a finding is equal to itself
own_finding : (f : Finding) → eq_by_cmp cmp-value.it f f ≡ true
own_finding f = ap is_eq (tied_itself total-law f)

module _ (told : Finding → Option (Detail Words)) (f : Finding) where
  -- the first of the details of findings that differ from one is not the detail of that one
  not_first : (fs : List Finding) → AllByRecursion (λ (g : Finding). eq_by_cmp cmp-value.it f g ≡ false) fs
      → (x : ListedDetail) (xs : List ListedDetail) → x.finding ≡ f → x ∷ xs ≡ filter_map (listed_by told) fs → ⊥
  not_first [] all x xs is e = absurd (cc e)
  not_first (g ∷ gs) all x xs is e =
      elim (told g) as (λ o. x ∷ xs ≡ cons_option (option_map (with_words g) o) (filter_map (listed_by told) gs) → ⊥) [
        | None ↦ λ later. not_first gs all.1 x xs is later
        | Some words ↦ λ here. true≢false (sym (ap (eq_by_cmp cmp-value.it f)
            (sym (ap (λ (l : List ListedDetail). (get_or l 0 x).finding) here) ∙ is) ∙ own_finding f) ∙ all.0)
      ] e

module _ (f : Finding) where
  -- no detail is left: the finding has none
  none_told : (o : Option (Detail Words)) (rest : List ListedDetail)
      → [] ≡ cons_option (option_map (with_words f) o) rest → (None ≡ o) × ([] ≡ rest)
  none_told None rest e = (refl, e)
  none_told (Some words) rest e = absurd (cc e)

  -- the first detail is that of the finding
  first_told : (o : Option (Detail Words)) (rest : List ListedDetail) (x : ListedDetail) (xs : List ListedDetail)
      → (x ∷ xs ≡ rest → ⊥) → x ∷ xs ≡ cons_option (option_map (with_words f) o) rest
      → (Some x.words ≡ o) × (xs ≡ rest)
  first_told None rest x xs apart e = absurd (apart e)
  first_told (Some words) rest x xs apart e = (
    ap (λ (l : List ListedDetail). Some (get_or l 0 x).words) e,
    ap (λ (l : List ListedDetail). drop 1 l) e,
  )

  -- the first detail is that of a later finding
  later_told : (o : Option (Detail Words)) (rest : List ListedDetail) (x : ListedDetail) (xs : List ListedDetail)
      → ¬ (x.finding ≡ f) → x ∷ xs ≡ cons_option (option_map (with_words f) o) rest
      → (None ≡ o) × (x ∷ xs ≡ rest)
  later_told None rest x xs differs e = (refl, e)
  later_told (Some words) rest x xs differs e = absurd (differs
      (ap (λ (l : List ListedDetail). (get_or l 0 x).finding) e))

-- ---- the details that are left after a finding

module _ (source : List ℕ) (told : Finding → Option (Detail Words)) (f : Finding) (fs : List Finding) where
  abbrev rest : List ListedDetail
  rest = filter_map (listed_by told) fs

  abbrev listed : List PlacedDetail → List ListedDetail
  listed ps = map listed_of (map (λ (p : PlacedDetail). p.detailed) ps)

  pub none_left : AreLeft source told (f ∷ fs) [] → IsDetailHeld source (told f) None × AreLeft source told fs []
  none_left h = let s = none_told f (told f) rest h.exact in (
    (s.0, tt),
    record { apart = IsDistinct-tail (eq_by_cmp cmp-value.it) f fs h.apart; exact = s.1; placed = tt },
  )

  pub first_left : (p : PlacedDetail) (ps : List PlacedDetail) → p.detailed.finding ≡ f
      → AreLeft source told (f ∷ fs) (p ∷ ps) → IsDetailHeld source (told f) (Some p) × AreLeft source told fs ps
  first_left p ps is h =
      let s = first_told f (told f) rest (listed_of p.detailed) (listed ps)
      (not_first told f fs (IsDistinct-head (eq_by_cmp cmp-value.it) f fs h.apart) (listed_of p.detailed) (listed ps) is) h.exact in (
        (s.0, h.placed.0),
        record { apart = IsDistinct-tail (eq_by_cmp cmp-value.it) f fs h.apart; exact = s.1; placed = h.placed.1 },
      )

  pub later_left : (p : PlacedDetail) (ps : List PlacedDetail) → ¬ (p.detailed.finding ≡ f)
      → AreLeft source told (f ∷ fs) (p ∷ ps) → IsDetailHeld source (told f) None × AreLeft source told fs (p ∷ ps)
  later_left p ps differs h =
      let s = later_told f (told f) rest (listed_of p.detailed) (listed ps) differs h.exact in (
        (s.0, tt),
        record { apart = IsDistinct-tail (eq_by_cmp cmp-value.it) f fs h.apart; exact = s.1; placed = h.placed },
      )

-- the findings of the rows that are left begin with that of the next row
pub next_findings : (rows : List Row) (i : ℕ) (row : Row) → i < length rows → row ≡ get_or rows i row
    → row_findings (drop i rows) ≡ row.finding ∷ row_findings (drop (i + 1) rows)
next_findings rows i row lt is =
    ap row_findings (drop_more rows i row lt ∙ ap (λ (x : Row). x ∷ drop (i + 1) rows) (sym is))

-- ---- at first, all details are left

told_again : (f : Finding) (g : Detail Tree → Detail Words) (o : Option (Detail Tree))
    → option_map (λ (d : Detail Tree). with_words f (g d)) o
    ≡ option_map (with_words f) (option_map (λ (l : ListedDetail). l.words)
    (option_map (λ (d : Detail Tree). with_words f (g d)) o))
told_again f g None = refl
told_again f g (Some d) = refl

-- a finding is told what is listed of it
pub told_alike : (m : Module) (f : Finding) → detail_told m (module_notes true m []) f ≡ listed_by (detail_in m) f
told_alike m f = told_again f _ _

pub all_left : (bytes : List ℕ) (report : DetailedReport) (h : DetailedHeadline bytes report)
    → AreLeft bytes (detail_in h.headline.whole) (row_findings report.report) report.details.items
all_left bytes report h =
    let m = h.headline.whole in
    let findings = row_findings report.report in
    record {
      apart = distinct_in_order findings h.headline.listed.sorted;
      exact = h.exact ∙ ap (λ (g : Finding → Option ListedDetail). filter_map g findings) (λ i f. told_alike m f i);
      placed = h.placed;
    }

-- ---- what is printed of a detail that is held

pub text_held : (source : List ℕ) (code : Code) (told : Option (Detail Words)) (held : Option PlacedDetail)
    → IsDetailHeld source told held → held_detail_text code held ≡ detail_text source code told
text_held source code told None h = ap (detail_text source code) h.0
text_held source code told (Some p) h = ap (sentence_text code (detail_of_value p.detailed.detail)) h.1
    ∙ ap (detail_text source code) h.0

abbrev content : List ℕ → List (ℕ × ℕ) → DetailContent
content sentence places = record { sentence = sentence; places = places }

pub content_held : (source : List ℕ) (code : Code) (told : Option (Detail Words)) (held : Option PlacedDetail)
    → IsDetailHeld source told held → option_map (held_content code) held ≡ option_map (content_in source code) told
content_held source code told None h = ap (option_map (content_in source code)) h.0
content_held source code told (Some p) h =
    ap (λ (places : List (ℕ × ℕ)). Some (content (sentence_of code (detail_of_value p.detailed.detail)) places)) h.1
    ∙ ap (option_map (content_in source code)) h.0

module _ (source : List ℕ) (told : Finding → Option (Detail Words)) (row : Row) (held : Option PlacedDetail)
    (h : IsDetailHeld source (told row.finding) held) where
  pub line_held : held_line row held ≡ detailed_line source told row
  line_held = ap (λ (l : List ℕ). row_text One row ++ (l ++ 10 ∷ []))
      (text_held source row.finding.code (told row.finding) held h)

  pub row_content_held : option_map (held_content row.finding.code) held ≡ content_told source told row.finding
  row_content_held = content_held source row.finding.code (told row.finding) held h
