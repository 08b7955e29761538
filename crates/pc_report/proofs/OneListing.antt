-- Rows that list the same findings of a source, with the same texts of flows, are written in one way.
use Rattle.std.proofs.Common.{◌≡◌, ℕ, ◌<◌, List, [], ◌∷◌, ◌++◌, ◌+◌, Bool, cond, true, false, Option, Some, None, refl, sym, ap, ◌∙◌}
use Rattle.std.proofs.Common.{subst, inl, inr, arith, Less, Equal, Greater, Contains}
use Rattle.std.specs.Prelude.{◌⊎◌, ◌↔◌, map, codes, decimal, count_by, not, IsTrue}
use Rattle.std.specs.List.{AllByRecursion, flat_map}
use Rattle.std.specs.List.Sorted.{IsStrictlySortedBy}
use Rattle.std.specs.Rc.{rc_str_bytes}
use Rattle.std.specs.Cmp.{nat_cmp_is}
use Rattle.std.specs.Cmp.Lexicographic.{slice_cmp}
use Rattle.std.specs.declared.cmp.Ordering.{Ordering}
use Rattle.std.specs.Ordering.{ordering_then, nat_cmp}
use Rattle.std.proofs.lemmas.Map.Lookups.{btree_set_from_contains, CmpEqualImpliesEq}
use Rattle.std.proofs.lemmas.Map.Views.{btree_set_contains_iff}
use Rattle.std.proofs.lemmas.List.Recursion.{is_count_by}
use Rattle.json.specs.Print.{quoted}
use Rattle.pc_source.specs.Lines.{line_of, column_of}
use Rattle.pc_tree.specs.declared.code.Finding.{Finding}
use Rattle.pc_tree.specs.contracts.code.FindingOrd.TheImpl.Laws.{total-law}
use Rattle.pc_tree.specs.Code.{is_error, text_of, label_of}
use Rattle.pc_report.specs.declared.flow.FlowTexts.{FlowTexts}
use Rattle.pc_report.specs.declared.format.Format.{Format}
use Rattle.pc_report.specs.declared.format.Format.TheVariants.{One, Two}
use Rattle.pc_report.specs.declared.report.Row.{Row}
use Rattle.pc_report.specs.Format.{format_number}
use Rattle.pc_report.specs.Report.{IsBefore, IsInOrder, IsPlaced, Lists, row_findings, row_flow, shown_flow, flow_text}
use Rattle.pc_report.specs.Report.{row_text, errors_of, dynamic_count, report_text}
use Rattle.pc_report.specs.Json.{from_json, to_json, finding_json, findings_json, report_json}
use Rattle.pc_report.proofs.Order.{finding_cmp, cmp_is, equal_is_same}

-- ---- findings in order are determined by their set

less_nat : (x y : ℕ) → x < y → nat_cmp x y ≡ Less
less_nat x y h = sym (nat_cmp_is x y Less h)

same_nat : (x y : ℕ) → x ≡ y → nat_cmp x y ≡ Equal
same_nat x y e = sym (nat_cmp_is x y Equal e)

-- the first of three comparisons that is not Equal is Less
abbrev IsLessInTurn : (a b c : Ordering) → Type 0
IsLessInTurn a b c = (a ≡ Less) ⊎ ((a ≡ Equal) × ((b ≡ Less) ⊎ ((b ≡ Equal) × (c ≡ Less))))

less_in_turn : (a b c : Ordering) → IsLessInTurn a b c → ordering_then (ordering_then a b) c ≡ Less
less_in_turn a b c (inl h) = λ i. ordering_then (ordering_then (h i) b) c
less_in_turn a b c (inr (e, inl h)) = λ i. ordering_then (ordering_then (e i) (h i)) c
less_in_turn a b c (inr (e, inr (k, h))) = λ i. ordering_then (ordering_then (e i) (k i)) (h i)

compared : (f g : Finding) → IsBefore f g → IsLessInTurn (nat_cmp f.place.start g.place.start)
    (nat_cmp f.place.end g.place.end) (slice_cmp nat_cmp (text_of f.code) (text_of g.code))
compared f g (inl h) = inl (less_nat f.place.start g.place.start h)
compared f g (inr (e, inl h)) = inr (same_nat f.place.start g.place.start e, inl (less_nat f.place.end g.place.end h))
compared f g (inr (e, inr (k, h))) = inr (
  same_nat f.place.start g.place.start e,
  inr (same_nat f.place.end g.place.end k, h),
)

is_less : (f g : Finding) → IsBefore f g → finding_cmp f g ≡ Less
is_less f g h = cmp_is f.place g.place f.code g.code
    ∙ less_in_turn (nat_cmp f.place.start g.place.start) (nat_cmp f.place.end g.place.end)
    (slice_cmp nat_cmp (text_of f.code) (text_of g.code)) (compared f g h)

before_all : (f g : Finding) (fs : List Finding) → finding_cmp f g ≡ Less
    → AllByRecursion (λ (y : Finding). finding_cmp g y ≡ Less) fs
    → AllByRecursion (λ (y : Finding). finding_cmp f y ≡ Less) fs
before_all f g [] h all = tt
before_all f g (y ∷ fs) h all = (total-law.trans f g y h all.0, before_all f g fs h all.1)

-- findings in order are sorted strictly
pub strictly : (fs : List Finding) → IsInOrder fs → IsStrictlySortedBy finding_cmp fs
unfolding IsStrictlySortedBy
strictly [] h = tt
strictly (f ∷ []) h = (tt, tt)
strictly (f ∷ g ∷ fs) h =
    let rest = strictly (g ∷ fs) h.1 in
    let less = is_less f g h.0 in
    ((less, before_all f g fs less rest.0), rest)

exact : CmpEqualImpliesEq finding_cmp
exact f g h = equal_is_same f g h

pub truths : (a b : Bool) → (IsTrue a → IsTrue b) → (IsTrue b → IsTrue a) → a ≡ b
truths true true h k = refl
truths false false h k = refl
truths true false h k = absurd (cc (h refl))
truths false true h k = absurd (cc (k refl))

pub one_order : (fs gs : List Finding) → IsInOrder fs → IsInOrder gs
    → ((f : Finding) → Contains fs f → Contains gs f) → ((f : Finding) → Contains gs f → Contains fs f) → fs ≡ gs
one_order fs gs a b into back = btree_set_from_contains total-law (record { keys = fs }) (record { keys = gs })
    (strictly fs a) (strictly gs b)
    (λ q.
    let left = btree_set_contains_iff total-law exact (record { keys = fs }) q in
    let right = btree_set_contains_iff total-law exact (record { keys = gs }) q in
    truths _ _ (λ t. right.1 (into q (left.0 t))) (λ t. left.1 (back q (right.0 t))))
    exact

-- ---- rows, one beside the other

-- the two texts of a flow
abbrev pub texts_of_flow : Option FlowTexts → Option (List ℕ × List ℕ)
texts_of_flow None = None
texts_of_flow (Some flow) = Some (rc_str_bytes flow.from, rc_str_bytes flow.to)

-- rows of the same finding that both satisfy E have the same texts of their flows
abbrev pub DeterminesTexts : (Row → Type 0) → Type 0
DeterminesTexts E = (row other : Row) → row.finding ≡ other.finding → E row → E other
    → texts_of_flow (row_flow row) ≡ texts_of_flow (row_flow other)

record SameRow (row other : Row) : Type 0 where
  finding : row.finding ≡ other.finding
  line : row.line ≡ other.line
  column : row.column ≡ other.column
  texts : texts_of_flow (row_flow row) ≡ texts_of_flow (row_flow other)

abbrev SameRows : List Row → List Row → Type 0
SameRows [] [] = Unit {0}
SameRows [] (o ∷ os) = ⊥
SameRows (r ∷ rs) [] = ⊥
SameRows (r ∷ rs) (o ∷ os) = SameRow r o × SameRows rs os

first_or : Finding → List Finding → Finding
first_or d [] = d
first_or d (f ∷ fs) = f

rest_of : List Finding → List Finding
rest_of [] = []
rest_of (f ∷ fs) = fs

module _ (source : List ℕ) (E : Row → Type 0) (determined : DeterminesTexts E) where
  same_rows : (rows others : List Row) → row_findings rows ≡ row_findings others
      → AllByRecursion (IsPlaced source) rows → AllByRecursion (IsPlaced source) others
      → AllByRecursion E rows → AllByRecursion E others → SameRows rows others
  unfolding first_or rest_of
  same_rows [] [] e p q h k = tt
  same_rows [] (o ∷ os) e p q h k = cc
  same_rows (r ∷ rs) [] e p q h k = cc
  same_rows (r ∷ rs) (o ∷ os) e p q h k =
      let finding : r.finding ≡ o.finding = ap (first_or r.finding) e in (
        record {
          finding = finding;
          line = p.0.0 ∙ ap (λ (f : Finding). line_of source f.place.start) finding ∙ sym q.0.0;
          column = p.0.1 ∙ ap (λ (f : Finding). column_of source f.place.start) finding ∙ sym q.0.1;
          texts = determined r o finding h.0 k.0;
        },
        same_rows rs os (ap rest_of e) p.1 q.1 h.1 k.1,
      )

-- ---- the text and the JSON of a row

abbrev Texts : Type 0
Texts = Option (List ℕ × List ℕ)

shown_texts : (format : Format) (r o : Row) → SameRow r o
    → texts_of_flow (shown_flow format r) ≡ texts_of_flow (shown_flow format o)
shown_texts One r o s = refl
shown_texts Two r o s = s.texts

written : Texts → List ℕ
written None = []
written (Some t) = 32 ∷ (t.0 ++ (codes " -> " ++ t.1))

is_written : (o : Option FlowTexts) → flow_text o ≡ written (texts_of_flow o)
unfolding written
is_written None = refl
is_written (Some t) = refl

written_from : Texts → List ℕ
written_from None = []
written_from (Some t) = codes ",\"from\":" ++ quoted t.0

is_from : (o : Option FlowTexts) → from_json o ≡ written_from (texts_of_flow o)
unfolding written_from
is_from None = refl
is_from (Some t) = refl

written_to : Texts → List ℕ
written_to None = []
written_to (Some t) = codes ",\"to\":" ++ quoted t.1

is_to : (o : Option FlowTexts) → to_json o ≡ written_to (texts_of_flow o)
unfolding written_to
is_to None = refl
is_to (Some t) = refl

module _ (format : Format) where
  same_text : (r o : Row) → SameRow r o → row_text format r ≡ row_text format o
  same_text r o s =
      let t : flow_text (shown_flow format r) ≡ flow_text (shown_flow format o) = is_written (shown_flow format r)
      ∙ ap written (shown_texts format r o s) ∙ sym (is_written (shown_flow format o)) in
      λ i. decimal (s.line i) ++ (58 ∷ (decimal (s.column i)
      ++ (32 ∷ (text_of (s.finding i).code ++ (32 ∷ (label_of (s.finding i).code ++ t i))))))

  same_json : (r o : Row) → SameRow r o
      → finding_json (shown_flow format r) r ≡ finding_json (shown_flow format o) o
  same_json r o s =
      let from : from_json (shown_flow format r) ≡ from_json (shown_flow format o) = is_from (shown_flow format r)
      ∙ ap written_from (shown_texts format r o s) ∙ sym (is_from (shown_flow format o)) in
      let into : to_json (shown_flow format r) ≡ to_json (shown_flow format o) = is_to (shown_flow format r)
      ∙ ap written_to (shown_texts format r o s) ∙ sym (is_to (shown_flow format o)) in
      λ i. codes "{\"code\":\""
      ++ (text_of (s.finding i).code
      ++ (codes "\",\"column\":" ++ (decimal (s.column i) ++ (codes ",\"end\":"
      ++ (decimal (s.finding i).place.end
      ++ (from i ++ (codes ",\"line\":"
      ++ (decimal (s.line i) ++ (codes ",\"start\":"
      ++ (decimal (s.finding i).place.start ++ (into i ++ codes "}")))))))))))

  same_lines : (rows others : List Row) → SameRows rows others
      → flat_map (λ (row : Row). row_text format row ++ 10 ∷ []) rows
      ≡ flat_map (λ (row : Row). row_text format row ++ 10 ∷ []) others
  same_lines [] [] s = refl
  same_lines [] (o ∷ os) s = absurd s
  same_lines (r ∷ rs) [] s = absurd s
  same_lines (r ∷ rs) (o ∷ os) s = rw (same_text r o s.0, same_lines rs os s.1) refl

  same_findings : (rows others : List Row) → SameRows rows others
      → findings_json format rows ≡ findings_json format others
  same_findings [] [] s = refl
  same_findings [] (o ∷ os) s = absurd s
  same_findings (r ∷ rs) [] s = absurd s
  same_findings (r ∷ []) (o ∷ []) s = same_json r o s.0
  same_findings (r ∷ []) (o ∷ p ∷ os) s = absurd s.1
  same_findings (r ∷ q ∷ rs) (o ∷ []) s = absurd s.1
  same_findings (r ∷ q ∷ rs) (o ∷ p ∷ os) s =
      let rest = same_findings (q ∷ rs) (p ∷ os) s.1 in
      λ i. same_json r o s.0 i ++ (44 ∷ rest i)

-- how many findings pass a test
counted : (Finding → Bool) → List Finding → ℕ
counted test [] = 0
counted test (f ∷ fs) = cond (test f) (1 + counted test fs) (counted test fs)

same_count : (test : Finding → Bool) (rows others : List Row) → row_findings rows ≡ row_findings others
    → count_by (λ (row : Row). test row.finding) rows ≡ count_by (λ (row : Row). test row.finding) others
unfolding counted
same_count test rows others e =
    sym (is_count_by (λ (rs : List Row). counted test (row_findings rs)) (λ (row : Row). test row.finding) refl
    (λ r rs. refl) rows)
    ∙ ap (counted test) e
    ∙ is_count_by (λ (rs : List Row). counted test (row_findings rs)) (λ (row : Row). test row.finding) refl
    (λ r rs. refl) others

-- ---- the law

-- rows that list exactly the findings that satisfy P, whose findings determine the texts of their flows, are written in
-- one way
pub one_listing : (source : List ℕ) (P : Finding → Type 0) (E : Row → Type 0) → DeterminesTexts E
    → (rows others : List Row) → Lists source P rows → Lists source P others → AllByRecursion E rows
    → AllByRecursion E others → (format : Format)
    → (report_text format rows ≡ report_text format others) × (report_json format rows ≡ report_json format others)
one_listing source P E determined rows others a b h k format =
    let findings : row_findings rows ≡ row_findings others = one_order (row_findings rows) (row_findings others)
    a.sorted b.sorted (λ f c. (b.exact f).1 ((a.exact f).0 c)) (λ f c. (a.exact f).1 ((b.exact f).0 c)) in
    let same : SameRows rows others = same_rows source E determined rows others findings a.placed b.placed h k in
    let errors : errors_of rows ≡ errors_of others = same_count (λ f. is_error f.code) rows others findings in
    let dynamic : dynamic_count rows ≡ dynamic_count others = same_count (λ f. not (is_error f.code)) rows others findings
    in
    let lines = same_lines format rows others same in
    let json = same_findings format rows others same in (
      λ i. lines i ++ (codes "errors " ++ (decimal (errors i)
          ++ (codes ", dynamic " ++ (decimal (dynamic i) ++ 10 ∷ [])))),
      λ i. (codes "{\"dynamic\":"
          ++ (decimal (dynamic i)
          ++ (codes ",\"errors\":" ++ (decimal (errors i) ++ (codes ",\"findings\":[" ++ (json i
          ++ (codes "],\"format\":" ++ (decimal (format_number format) ++ codes "}")))))))) ++ 10 ∷ [],
    )
