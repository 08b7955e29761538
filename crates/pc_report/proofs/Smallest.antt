-- The smallest place around a byte, as rows are looked at one after another.
use Rattle.std.proofs.Common.{◌≡◌, ℕ, ◌<◌, ◌≤◌, zero, suc, List, [], ◌∷◌, ◌++◌, Option, Some, None, refl, sym, ap, ◌∙◌, subst, inl, inr}
use Rattle.std.proofs.Common.{arith, Contains, append_assoc}
use Rattle.std.specs.Prelude.{◌⊎◌, MatchOption}
use Rattle.std.proofs.lemmas.List.Elements.{Contains-push_cases, Contains-append_cases}
use Rattle.pc_report.specs.declared.listing.TypeRow.{TypeRow}
use Rattle.pc_report.specs.TypeListing.{IsAround, IsSmallest, IsSmallestAt, bytes_in}

cons_cases : (y : TypeRow) (ys : List TypeRow) (x : TypeRow) → Contains (y ∷ ys) x → (y ≡ x) ⊎ Contains ys x
cons_cases y ys x (zero, h, e) = inl e
cons_cases y ys x (suc k, h, e) = inr (k, omega arith, e)

module _ (byte : ℕ) (rows : List TypeRow) (row : TypeRow) where
  -- a row that is not around the byte changes nothing
  pub passed_over : (found : Option TypeRow) → ¬ (IsAround byte row.entry.place) → IsSmallestAt byte rows found
      → IsSmallestAt byte (rows ++ row ∷ []) found
  passed_over None out h = λ other c. elim (Contains-push_cases rows row other c) [
    | inl before ↦ h other before
    | inr is ↦ subst (λ (r : TypeRow). ¬ (IsAround byte r.entry.place)) is out
  ]
  passed_over (Some best) out h = record {
    before = h.before;
    behind = h.behind ++ row ∷ [];
    order = ap (λ (l : List TypeRow). l ++ row ∷ []) h.order ∙ append_assoc h.before (best ∷ h.behind) (row ∷ []);
    around = h.around;
    longer = h.longer;
    not_shorter = λ other c around. elim (Contains-push_cases h.behind row other c) [
      | inl behind ↦ h.not_shorter other behind around
      | inr is ↦ absurd (out (subst (λ (r : TypeRow). IsAround byte r.entry.place) (sym is) around))
    ];
  }

  -- a row around the byte that is not shorter than the best so far changes nothing
  pub not_better : (best : TypeRow) → bytes_in best.entry.place ≤ bytes_in row.entry.place
      → IsSmallest byte rows best → IsSmallest byte (rows ++ row ∷ []) best
  not_better best longer h = record {
    before = h.before;
    behind = h.behind ++ row ∷ [];
    order = ap (λ (l : List TypeRow). l ++ row ∷ []) h.order ∙ append_assoc h.before (best ∷ h.behind) (row ∷ []);
    around = h.around;
    longer = h.longer;
    not_shorter = λ other c around. elim (Contains-push_cases h.behind row other c) [
      | inl behind ↦ h.not_shorter other behind around
      | inr is ↦ subst (λ (r : TypeRow). bytes_in best.entry.place ≤ bytes_in r.entry.place) is longer
    ];
  }

  -- the first row around the byte is the best so far
  pub first_around : IsAround byte row.entry.place → IsSmallestAt byte rows None → IsSmallest byte (rows ++ row ∷ []) row
  first_around around none = record {
    before = rows;
    behind = [];
    order = refl;
    around = around;
    longer = λ other c is_around. absurd (none other c is_around);
    not_shorter = λ other c is_around. absurd (omega (arith, c.1));
  }

  -- a shorter row around the byte is the best so far
  pub better : (best : TypeRow) → IsAround byte row.entry.place
      → bytes_in row.entry.place < bytes_in best.entry.place → IsSmallest byte rows best
      → IsSmallest byte (rows ++ row ∷ []) row
  better best around shorter h = record {
    before = rows;
    behind = [];
    order = refl;
    around = around;
    longer = λ other c is_around.
        elim (Contains-append_cases h.before (best ∷ h.behind) other
        (subst (λ (l : List TypeRow). Contains l other) h.order c)) [
          | inl before ↦ let than = h.longer other before is_around in omega (arith, than, shorter)
          | inr rest ↦ elim (cons_cases best h.behind other rest) [
            | inl is ↦ subst (λ (r : TypeRow). bytes_in row.entry.place < bytes_in r.entry.place) is shorter
            | inr behind ↦ let than = h.not_shorter other behind is_around in omega (arith, than, shorter)
          ]
        ];
    not_shorter = λ other c is_around. absurd (omega (arith, c.1));
  }
