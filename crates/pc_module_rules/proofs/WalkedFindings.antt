-- Lists of notes that hold exactly some findings, except those of scope analysis.
use Rattle.std.proofs.Common.{◌≡◌, ◌⊎◌, ◌↔◌, List, [], ◌∷◌, ◌++◌, refl, sym, subst, inl, inr, Contains, append-nil}
use Rattle.std.specs.Prelude.{Bool as Test, true, false, map}
use Rattle.std.proofs.lemmas.Grind.{flat_map-append}
use Rattle.std.proofs.lemmas.List.Elements.{Contains-append_left, Contains-append_right}
use Rattle.pc_source.specs.declared.place.Place.{Place}
use Rattle.pc_tree.specs.declared.code.Code.{Code}
use Rattle.pc_tree.specs.declared.code.Finding.{Finding}
use Rattle.pc_tree.specs.Tree.{Expr, Ann, number, index, Module}
use Rattle.pc_tree.proofs.Among.{none_among, first_among, among_first, either}
use Rattle.pc_types.specs.Tree.{Any}
use Rattle.pc_types.specs.Below.{Bases}
use Rattle.pc_annotations.specs.Annotations.{AnnFinds}
use Rattle.pc_annotations.specs.Listed.{ann_findings}
use Rattle.pc_annotations.proofs.Listing.{all_listed}
use Rattle.pc_notes.specs.Notes.{Note, plain_note, finding_in, findings_of}
use Rattle.pc_rules.specs.Operations.{clean}
use Rattle.pc_rules.specs.Labels.{FlowLabels, Labels, is_of_scopes, IsFoundAt, IsFlowAt, Finds}
use Rattle.pc_rules.specs.Computed.Findings.{codes_at, flows_at, notes_under}
use Rattle.pc_rules.proofs.FoundBeside.{noted_beside, noted_apart, noted_together, told_apart, told_together}
use Rattle.pc_rules.proofs.FoundList.{findings_listed, plain_findings}
use Rattle.pc_module_rules.specs.Laws.Walks.{Adds, Lists}
use Rattle.pc_module_rules.proofs.SaidByStatements.{no_annotation}

-- a finding that is not of scopes
abbrev pub IsElsewhere : Finding → Type 0
IsElsewhere f = is_of_scopes f.code ≡ false

-- the findings of one list after another
joined : (xs ys : List Note) → findings_of (xs ++ ys) ≡ findings_of xs ++ findings_of ys
joined xs ys = flat_map-append finding_in xs ys

pub lists_nothing : Lists [] (λ f. ⊥)
lists_nothing f = (λ h. absurd (none_among f h), λ h. absurd h.0)

-- the same list, of what comes to the same
pub lists_same : {P Q : Finding → Type 0} (xs : List Note) → ((f : Finding) → P f → Q f) → ((f : Finding) → Q f → P f)
    → Lists xs P → Lists xs Q
lists_same xs to from h f = (λ c. let r = (h f).0 c in (to f r.0, r.1), λ q. (h f).1 (from f q.0, q.1))

-- two lists, one after the other
pub lists_both : {P Q : Finding → Type 0} (xs ys : List Note) → Lists xs P → Lists ys Q
    → Lists (xs ++ ys) (λ f. P f ⊎ Q f)
lists_both {P = P} {Q = Q} xs ys h k f = (to, from)
  where
    to : Contains (findings_of (xs ++ ys)) f → (P f ⊎ Q f) × IsElsewhere f
    to c = either (findings_of xs) (findings_of ys) f (subst (λ (l : List Finding). Contains l f) (joined xs ys) c)
        (λ a. let r = (h f).0 a in (inl r.0, r.1)) (λ b. let r = (k f).0 b in (inr r.0, r.1))

    from : (P f ⊎ Q f) × IsElsewhere f → Contains (findings_of (xs ++ ys)) f
    from q = subst (λ (l : List Finding). Contains l f) (sym (joined xs ys)) (elim q.0 [
      | inl a ↦ Contains-append_left (findings_of xs) (findings_of ys) f ((h f).1 (a, q.1))
      | inr b ↦ Contains-append_right (findings_of xs) (findings_of ys) f ((k f).1 (b, q.1))
    ])

-- ---- findings under labels

pub lists_expression : (e : Expr) (m : Labels e) → Lists (notes_under false e m) (Finds e m)
lists_expression e m f = let h = findings_listed e m f in (
  λ c. let r = h.0 c in (r.stands, r.own),
  λ q. h.1 (record { stands = q.0; own = q.1 }),
)

-- the codes of a label are those of a literal with this label
pub lists_codes : (p : Place) (codes : List Code) → Lists (codes_at p codes) (IsFoundAt p codes)
lists_codes p codes = lists_expression (number p []) (record { type = Any; codes = codes })

-- a label without codes says nothing
no_codes : (p : Place) (f : Finding) → IsFoundAt p [] f → ⊥
no_codes p f h = none_among h.code h.among

-- the flows into an index are found there
module _ (p : Place) (flows : FlowLabels) where
  abbrev indexed : Expr
  indexed = index p (number p []) (number p [])

  abbrev labels : Labels indexed
  labels = record { here = clean Any; object = clean Any; key = clean Any; flows = flows }

  indexed_says : (f : Finding) → Finds indexed labels f → IsFlowAt p flows f
  indexed_says f h = elim h [
    | inl a ↦ absurd (no_codes p f a)
    | inr b ↦
        elim b [ inl c ↦ c | inr d ↦ elim d [ inl x ↦ absurd (no_codes p f x) | inr y ↦ absurd (no_codes p f y) ] ]
  ]

  pub lists_flows : Lists (flows_at p flows) (IsFlowAt p flows)
  lists_flows = lists_same (flows_at p flows) indexed_says (λ f h. inr (inl h))
      (subst (λ xs. Lists xs (Finds indexed labels)) (append-nil (flows_at p flows)) (lists_expression indexed labels))

-- the findings in an annotation
pub lists_annotation : (m : Module) (bases : Bases) (a : Ann) → Lists (map plain_note (ann_findings m bases a))
    (AnnFinds m bases a)
lists_annotation m bases a f =
    subst (λ (l : List Finding). Contains l f ↔ (AnnFinds m bases a f × IsElsewhere f))
    (sym (plain_findings (ann_findings m bases a))) (
      λ c. let h = (all_listed m bases a f).0 c in (h, elsewhere (is_of_scopes f.code) refl h),
      λ q. (all_listed m bases a f).1 q.0,
    )
  where
    elsewhere : (b : Test) → is_of_scopes f.code ≡ b → AnnFinds m bases a f → b ≡ false
    elsewhere true e h = absurd (no_annotation m bases f e a h)
    elsewhere false e h = refl

-- one finding
pub lists_one : (g : Finding) → is_of_scopes g.code ≡ false → Lists (plain_note g ∷ []) (λ f. f ≡ g)
lists_one g own f = (to, λ q. subst (Contains (g ∷ [])) (sym q.0) (first_among g []))
  where
    to : Contains (g ∷ []) f → (f ≡ g) × IsElsewhere f
    to c = elim (among_first g [] f c) [ inl e ↦ (sym e, subst IsElsewhere e own) | inr n ↦ absurd (none_among f n) ]

-- ---- findings that a walk adds

pub adds_nothing : (before : List Note) → Adds before before (λ f. ⊥)
adds_nothing before f = (λ h. inl h, λ h. elim h [ inl a ↦ a | inr b ↦ absurd b.0 ])

pub adds_same : {P Q : Finding → Type 0} (before after : List Note) → ((f : Finding) → P f → Q f)
    → ((f : Finding) → Q f → P f) → Adds before after P → Adds before after Q
adds_same before after to from h f = (
  λ c. elim ((h f).0 c) [ inl a ↦ inl a | inr b ↦ inr (to f b.0, b.1) ],
  λ q. (h f).1 (elim q [ inl a ↦ inl a | inr b ↦ inr (from f b.0, b.1) ]),
)

-- a list after what was found
pub adds_list : {P : Finding → Type 0} (before xs : List Note) → Lists xs P → Adds before (before ++ xs) P
adds_list before xs h f = (
  λ c. either (findings_of before) (findings_of xs) f (subst (λ (l : List Finding). Contains l f) (joined before xs) c)
      (λ a. inl a) (λ b. inr ((h f).0 b)),
  λ q. subst (λ (l : List Finding). Contains l f) (sym (joined before xs))
      (elim q [
        | inl a ↦ Contains-append_left (findings_of before) (findings_of xs) f a
        | inr b ↦
            Contains-append_right (findings_of before) (findings_of xs) f ((h f).1 b)
      ]),
)

-- two lists, and then what is found in annotations of both of them
pub lists_beside : {P Q : Finding → Type 0} (xs ys : List Note) (as' bs cs : List Finding)
    → ((f : Finding) → Contains cs f ↔ Contains (as' ++ bs) f) → Lists (xs ++ map plain_note as') P
    → Lists (ys ++ map plain_note bs) Q → Lists ((xs ++ ys) ++ map plain_note cs) (λ f. P f ⊎ Q f)
lists_beside xs ys as' bs cs order h k f =
    let r = noted_beside f xs ys as' bs cs (order f) ((h f).0, λ p own. (h f).1 (p, own))
    ((k f).0, λ q own. (k f).1 (q, own)) in
    (r.0, λ q. r.1 q.0 q.1)

-- a list after what was found, and then more, with what is found in annotations behind all of it
pub adds_around : {P Q : Finding → Type 0} (before xs after : List Note) (fs : List Finding)
    → Lists (xs ++ map plain_note fs) P → Adds (before ++ xs) after Q
    → Adds before (after ++ map plain_note fs) (λ f. P f ⊎ Q f)
adds_around {P = P} {Q = Q} before xs after fs h k f = (to, from)
  where
    listed : Contains (findings_of xs) f ⊎ Contains fs f → Contains (findings_of before) f
        ⊎ ((P f ⊎ Q f) × IsElsewhere f)
    listed s = let r = (h f).0 (told_together f xs fs s) in inr (inl r.0, r.1)

    to : Contains (findings_of (after ++ map plain_note fs)) f → Contains (findings_of before) f
        ⊎ ((P f ⊎ Q f) × IsElsewhere f)
    to c = elim (told_apart f after fs c) [
      | inl a ↦ elim ((k f).0 a) [
        | inl b ↦ elim (noted_apart f before xs b) [ inl x ↦ inl x | inr y ↦ listed (inl y) ]
        | inr q ↦ inr (inr q.0, q.1)
      ]
      | inr b ↦ listed (inr b)
    ]

    from : Contains (findings_of before) f ⊎ ((P f ⊎ Q f) × IsElsewhere f)
        → Contains (findings_of (after ++ map plain_note fs)) f
    from s = elim s [
      | inl a ↦ told_together f after fs (inl ((k f).1 (inl (noted_together f before xs (inl a)))))
      | inr b ↦ elim b.0 [
        | inl p ↦ told_together f after fs (elim (told_apart f xs fs ((h f).1 (p, b.1))) [
          | inl x ↦ inl ((k f).1 (inl (noted_together f before xs (inr x))))
          | inr y ↦ inr y
        ])
        | inr q ↦ told_together f after fs (inl ((k f).1 (inr (q, b.1))))
      ]
    ]

-- two lists after what was found
pub adds_both : {P Q : Finding → Type 0} (before mid after : List Note) → Adds before mid P → Adds mid after Q
    → Adds before after (λ f. P f ⊎ Q f)
adds_both before mid after h k f = (
  λ c. elim ((k f).0 c) [
    | inl a ↦ elim ((h f).0 a) [ inl x ↦ inl x | inr y ↦ inr (inl y.0, y.1) ]
    | inr b ↦
        inr (inr b.0, b.1)
  ],
  λ q. elim q [
    | inl a ↦ (k f).1 (inl ((h f).1 (inl a)))
    | inr b ↦ elim b.0 [ inl x ↦ (k f).1 (inl ((h f).1 (inr (x, b.1)))) | inr y ↦ (k f).1 (inr (y, b.1)) ]
  ],
)
