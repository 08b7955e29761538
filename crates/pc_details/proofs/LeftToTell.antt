-- The findings whose details a walk still holds, and the list of all details.
use Rattle.std.proofs.Common.{◌≡◌, ◌∙◌, ◌<◌, ◌+◌, ◌++◌, ◌∷◌, [], ℕ, List, Bool, true, false, cond, Option, Some, None, refl, sym}
use Rattle.std.proofs.Common.{◌≤◌, ap, ap₂, append_assoc, arith, drop, get_or, length, map, subst, suc, zero}
use Rattle.std.proofs.lemmas.Bool.{true≢false}
use Rattle.std.proofs.lemmas.Map.Keys.{IsDistinct-head, IsDistinct-tail}
use Rattle.std.proofs.lemmas.List.{append-nil, drop_more, drop_all, map-append}
use Rattle.std.proofs.lemmas.List.Elements.{Contains-append_right, Contains-get_or}
use Rattle.std.specs.BTreeMap.{BTreeMap, get}
use Rattle.std.specs.List.{AllByRecursion, IsDistinct, cons_option}
use Rattle.std.specs.Option.{option_map}
use Rattle.std.specs.Ordering.{eq_by_cmp, is_eq}
use Rattle.std.specs.Prelude.{Contains, Err, IfOk, Ok, Result, Vec, filter_map}
use Rattle.std.specs.declared.alloc.Global.{Global}
use Rattle.pc_source.specs.declared.place.Place.{Place}
use Rattle.pc_tree.specs.declared.code.Code.{Code}
use Rattle.pc_tree.specs.declared.code.Code.TheVariants.{A1, E12}
use Rattle.pc_tree.specs.declared.code.Finding.{Finding}
use Rattle.pc_tree.specs.Tree.{Ann, Module}
use Rattle.pc_types.specs.Tree.{Tree}
use Rattle.pc_notes.specs.Notes.{Note}
use Rattle.pc_notes.specs.Texts.{place_cmp}
use Rattle.pc_notes.proofs.FirstFlows.{place_same}
use Rattle.pc_detail_texts.specs.Details.{Detail}
use Rattle.pc_detail_texts.specs.Sentences.{Words}
use Rattle.pc_detail_texts.specs.Shown.{detail_of_value}
use Rattle.pc_detail_texts.specs.declared.details.Detail.{Detail as RustDetail}
use Rattle.pc_detail_texts.specs.declared.details.Flow.{Flow}
use Rattle.pc_detail_facts.specs.declared.facts.Facts.{Facts}
use Rattle.pc_detail_facts.specs.Held.{HoldsNotes, known_held, module_held}
use Rattle.pc_detail_rules.specs.Explains.{annotation_for, detail_for}
use Rattle.pc_detail_rules.specs.Noted.{known_by}
use Rattle.pc_detail_rules.proofs.KnownAlike.{same_annotation, same_details}
use Rattle.pc_detail_rules.specs.ToldTypes.{told_detail}
use Rattle.pc_flow_details.specs.Kept.{flow_of_value}
use Rattle.pc_name_details.specs.declared.offers.Offers.{Offers}
use Rattle.pc_name_details.specs.Offered.{finding_cmp, kept_of}
use Rattle.pc_details.specs.declared.explained.DetailedFinding.{DetailedFinding as RustDetailed}
use Rattle.pc_details.specs.declared.walked.WalkedModule.{WalkedModule}
use Rattle.pc_details.specs.Listed.{FindingsDiffer, ListedDetail, detail_told, details_told, listed_of}
use Rattle.pc_details.specs.Made.{HoldsLeft, IsNoneOf, ShowsToldAt, detail_by}
use Rattle.pc_details.proofs.DetailsMade.{alike, detailed}
use Rattle.pc_details.proofs.WalkHeld.{own_finding, with_dynamic, with_offers, with_wrong}

-- ---- findings that differ

-- a fact of all items is one of each
all_of : {A : Type 0} (P : A → Type 0) (xs : List A) (x : A) → AllByRecursion P xs → Contains xs x → P x
all_of P [] x all (k, h, e) = absurd (omega arith)
all_of P (y ∷ ys) x all (zero, h, e) = subst P e all.0
all_of P (y ∷ ys) x all (suc k, h, e) = all_of P ys x all.1 (k, omega arith, e)

-- the first of findings that differ is none of the others
pub first_apart : (x : Finding) (rest : List Finding) → FindingsDiffer (x ∷ rest) → IsNoneOf rest x
first_apart x rest distinct g listed same = true≢false (sym
    (ap (eq_by_cmp finding_cmp x) same ∙ own_finding x)
    ∙ all_of (λ (y : Finding). eq_by_cmp finding_cmp x y ≡ false) rest g
    (IsDistinct-head (eq_by_cmp finding_cmp) x rest distinct) listed)

-- a finding is its place and its code
one_finding : (f g : Finding) → f.place ≡ g.place → f.code ≡ g.code → f ≡ g
one_finding f g place code = λ i. record { place = place i; code = code i }

-- ---- what is left of a walk

-- what is held of findings is held of those after the first
pub left_after : (x : Finding) (rest : List Finding) (w : WalkedModule) → HoldsLeft (x ∷ rest) w → HoldsLeft rest w
left_after x rest w h = record {
  wrong = λ g listed. h.wrong g (Contains-append_right (x ∷ []) rest g listed);
  dynamic = λ g listed. h.dynamic g (Contains-append_right (x ∷ []) rest g listed);
  names = λ g listed. h.names g (Contains-append_right (x ∷ []) rest g listed);
}

module _ (left : List Finding) (w : WalkedModule) (h : HoldsLeft left w) (x : Finding) (apart : IsNoneOf left x) where
  elsewhere : (kept : BTreeMap Place Flow) (g : Finding) → Contains left g → g.code ≡ x.code → (b : Bool)
      → is_eq (place_cmp x.place g.place) ≡ b
      → cond b None (get place_cmp kept g.place) ≡ get place_cmp kept g.place
  elsewhere kept g listed code true same = absurd (apart g listed
      (one_finding g x (sym (place_same x.place g.place same)) code))
  elsewhere kept g listed code false same = refl

  -- what is left when a wrong flow is taken out
  pub wrong_left : (m : BTreeMap Place Flow) → x.code ≡ E12
      → ((p : Place) → get place_cmp m p
      ≡ cond (is_eq (place_cmp x.place p)) None (get place_cmp w.sinks.wrong p))
      → HoldsLeft left (with_wrong w m)
  wrong_left m code step = record {
    wrong = λ g listed e. ap (option_map flow_of_value)
        (step g.place ∙ elsewhere w.sinks.wrong g listed (e ∙ sym code) (is_eq (place_cmp x.place g.place)) refl)
        ∙ h.wrong g listed e;
    dynamic = h.dynamic;
    names = h.names;
  }

  -- what is left when a dynamic flow is taken out
  pub dynamic_left : (m : BTreeMap Place Flow) → x.code ≡ A1
      → ((p : Place) → get place_cmp m p
      ≡ cond (is_eq (place_cmp x.place p)) None (get place_cmp w.sinks.dynamic p))
      → HoldsLeft left (with_dynamic w m)
  dynamic_left m code step = record {
    wrong = h.wrong;
    dynamic = λ g listed e. ap (option_map flow_of_value)
        (step g.place ∙ elsewhere w.sinks.dynamic g listed (e ∙ sym code) (is_eq (place_cmp x.place g.place)) refl)
        ∙ h.dynamic g listed e;
    names = h.names;
  }

  -- what is left when an offer is taken out
  pub offers_left : (o : Offers) → ((g : Finding) → ¬ (g ≡ x) → kept_of o g ≡ kept_of w.offers g)
      → HoldsLeft left (with_offers w o)
  offers_left o others = record {
    wrong = h.wrong;
    dynamic = h.dynamic;
    names = λ g listed. others g (apart g listed) ∙ h.names g listed;
  }

-- ---- the list of details

map_twice : {A B C : Type 0} (k : B → C) (g : A → B) (o : Option A)
    → option_map (λ a. k (g a)) o ≡ option_map k (option_map g o)
map_twice k g None = refl
map_twice k g (Some a) = refl

-- a finding with words
abbrev with_words : Finding → Detail Words → ListedDetail
with_words x d = record { finding = x; words = d }

module _ (f : Facts) (x : Finding) where
  -- a detail that was made is the one by what is held
  shown_listed : (made : Option RustDetail) → ShowsToldAt f x.place x.code made
      → option_map (λ d. with_words x (detail_of_value d)) made ≡ detail_by f x
  shown_listed made h = map_twice (with_words x) detail_of_value made ∙ ap (option_map (with_words x)) h

-- the details so far, and those of the findings that are left, are all
abbrev pub AreSoFar : Facts → List Finding → ℕ → List RustDetailed → Type 0
AreSoFar f xs i ds = map listed_of ds ++ filter_map (detail_by f) (drop i xs) ≡ filter_map (detail_by f) xs

-- of findings that differ, those after the next differ
pub later_apart : (xs : List Finding) (i : ℕ) → i < length xs → FindingsDiffer (drop i xs) → FindingsDiffer (drop (i + 1) xs)
later_apart [] i lt d = absurd (omega arith)
later_apart (x ∷ xs) i lt d = IsDistinct-tail (eq_by_cmp finding_cmp) (get_or (x ∷ xs) i x) (drop (i + 1) (x ∷ xs))
    (subst FindingsDiffer (drop_more (x ∷ xs) i x lt) d)

-- what is held of findings is held of those after the next
pub later_left : (xs : List Finding) (i : ℕ) → i < length xs → (w : WalkedModule) → HoldsLeft (drop i xs) w
    → HoldsLeft (drop (i + 1) xs) w
later_left [] i lt w h = absurd (omega arith)
later_left (x ∷ xs) i lt w h = left_after (get_or (x ∷ xs) i x) (drop (i + 1) (x ∷ xs)) w
    (subst (λ (l : List Finding). HoldsLeft l w) (drop_more (x ∷ xs) i x lt) h)

module _ (xs : List Finding) (i : ℕ) (z : Finding) (lt : i < length xs) where
  -- the next finding
  abbrev pub next : Finding
  next = get_or xs i z

  -- the next finding is among those that are left
  pub next_listed : Contains (drop i xs) next
  next_listed = subst (λ (l : List Finding). Contains l next) (sym (drop_more xs i z lt)) (0, omega arith, refl)

  -- and it is none of those after it, if they differ
  pub next_apart : FindingsDiffer (drop i xs) → IsNoneOf (drop (i + 1) xs) next
  next_apart d = first_apart next (drop (i + 1) xs) (subst FindingsDiffer (drop_more xs i z lt) d)

  module _ (f g : Facts) (same : g ≡ f) (ds : List RustDetailed) (so_far : AreSoFar f xs i ds) (made : Option RustDetail)
      (shown : ShowsToldAt g next.place next.code made) where
    abbrev rest : List ListedDetail
    rest = filter_map (detail_by f) (drop (i + 1) xs)

    shown_here : ShowsToldAt f next.place next.code made
    shown_here = subst (λ (h : Facts). ShowsToldAt h next.place next.code made) same shown

    with_next : map listed_of ds ++ cons_option (option_map (λ y. with_words next (detail_of_value y)) made) rest
        ≡ filter_map (detail_by f) xs
    with_next = ap (λ (o : Option ListedDetail). map listed_of ds ++ cons_option o rest)
        (shown_listed f next made shown_here)
        ∙ ap (λ (l : List Finding). map listed_of ds ++ filter_map (detail_by f) l) (sym (drop_more xs i z lt)) ∙ so_far

    -- the detail of the next finding comes after them
    pub one_more : (d : RustDetail) → made ≡ Some d → AreSoFar f xs (i + 1) (ds ++ detailed next d ∷ [])
    one_more d is = ap (λ (l : List ListedDetail). l ++ rest) (map-append listed_of ds (detailed next d ∷ []))
        ∙ append_assoc (map listed_of ds) (with_words next (detail_of_value d) ∷ []) rest
        ∙ ap (λ (o : Option RustDetail). map listed_of ds
        ++ cons_option (option_map (λ y. with_words next (detail_of_value y)) o) rest) (sym is) ∙ with_next

    -- a finding without a detail adds none
    pub none_more : made ≡ None → AreSoFar f xs (i + 1) ds
    none_more is = ap (λ (o : Option RustDetail). map listed_of ds
        ++ cons_option (option_map (λ y. with_words next (detail_of_value y)) o) rest) (sym is) ∙ with_next

-- at the end there are all
pub all_listed : (f : Facts) (xs : List Finding) (i : ℕ) (ds : List RustDetailed) → length xs ≤ i → AreSoFar f xs i ds
    → map listed_of ds ≡ filter_map (detail_by f) xs
all_listed f xs i ds le h = sym (append-nil (map listed_of ds))
    ∙ ap (λ l. map listed_of ds ++ filter_map (detail_by f) l) (sym (drop_all i xs le)) ∙ h

-- ---- what notes tell

same_list : {A B : Type 0} (f g : A → Option B) → ((x : A) → f x ≡ g x) → (xs : List A) → filter_map f xs ≡ filter_map g xs
same_list f g same [] = refl
same_list f g same (x ∷ xs) = ap₂ cons_option (same x) (same_list f g same xs)

-- a finding with a detail as it is told, given the annotation of its target
abbrev listed_with : Module → Finding → Option Ann → Detail Tree → ListedDetail
listed_with m x a d = with_words x (told_detail m a d)

-- the details by what is held are those that the notes tell
listed_by_notes : (f : Facts) (notes : List Note) → HoldsNotes notes f.known.now → (findings : List Finding)
    → filter_map (detail_by f) findings ≡ details_told (module_held f) notes findings
listed_by_notes f notes h findings = same_list (detail_by f) (detail_told (module_held f) notes) each findings
  where
    each : (x : Finding) → detail_by f x ≡ detail_told (module_held f) notes x
    each x =
        let m = module_held f in
        let same = alike notes f.known.now h in
        let want = detail_for m (known_held f) x.place x.code in
        sym (map_twice (with_words x) (told_detail m (annotation_for m (known_held f) x.place x.code)) want)
        ∙ ap (λ (a : Option Ann). option_map (listed_with m x a) want)
        (sym (same_annotation m (known_by notes) (known_held f) same x.place x.code))
        ∙ ap (option_map (listed_with m x (annotation_for m (known_by notes) x.place x.code)))
        (sym (same_details m (known_by notes) (known_held f) same x.place x.code))

-- likewise of the details that a call gives
pub listed_told : {E : Type 0} (r : Result (Vec RustDetailed Global) E) (f : Facts) (findings : List Finding)
    (notes : List Note) → IfOk r (λ v. map listed_of v.items ≡ filter_map (detail_by f) findings)
    → HoldsNotes notes f.known.now → IfOk r (λ v. map listed_of v.items ≡ details_told (module_held f) notes findings)
listed_told (Ok v) f findings notes same h = same ∙ listed_by_notes f notes h findings
listed_told (Err e) f findings notes same h = tt
