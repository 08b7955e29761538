-- Lists of notes, with the findings in annotations moved after them all.
use Rattle.std.proofs.Common.{◌≡◌, ◌⊎◌, ◌↔◌, List, ◌++◌, sym, ap, ◌∙◌, subst, inl, inr, Contains}
use Rattle.std.proofs.Common.{append_assoc}
use Rattle.std.specs.Prelude.{map}
use Rattle.std.proofs.lemmas.Grind.{flat_map-append}
use Rattle.std.proofs.lemmas.List.Elements.{Contains-append_left, Contains-append_right, Contains-append_cases}
use Rattle.pc_tree.specs.declared.code.Finding.{Finding}
use Rattle.pc_notes.specs.Notes.{Note, plain_note, finding_in, findings_of}
use Rattle.pc_rules.proofs.FoundList.{IsFoundElsewhere, Noted, plain_findings}

-- the findings of notes, and then findings that tell of no flow
pub with_plain : (ns : List Note) (fs : List Finding) → findings_of (ns ++ map plain_note fs) ≡ findings_of ns ++ fs
with_plain ns fs = flat_map-append finding_in ns (map plain_note fs)
    ∙ ap (λ (l : List Finding). findings_of ns ++ l) (plain_findings fs)

-- a finding in a list stays in it when a part of the list moves ahead
pub moved : (xs ys zs : List Finding) (f : Finding) → Contains (xs ++ (ys ++ zs)) f → Contains (ys ++ (xs ++ zs)) f
moved xs ys zs f h = elim (Contains-append_cases xs (ys ++ zs) f h) [
  | inl a ↦ Contains-append_right ys (xs ++ zs) f (Contains-append_left xs zs f a)
  | inr t ↦ elim (Contains-append_cases ys zs f t) [
    | inl b ↦ Contains-append_left ys (xs ++ zs) f b
    | inr c ↦ Contains-append_right ys (xs ++ zs) f (Contains-append_right xs zs f c)
  ]
]

module _ (f : Finding) where
  -- it stands among notes, or in the findings after them
  pub told_apart : (ns : List Note) (fs : List Finding) → Contains (findings_of (ns ++ map plain_note fs)) f
      → Contains (findings_of ns) f ⊎ Contains fs f
  told_apart ns fs c = Contains-append_cases (findings_of ns) fs f
      (subst (λ (l : List Finding). Contains l f) (with_plain ns fs) c)

  pub told_together : (ns : List Note) (fs : List Finding) → Contains (findings_of ns) f ⊎ Contains fs f
      → Contains (findings_of (ns ++ map plain_note fs)) f
  told_together ns fs s = subst (λ (l : List Finding). Contains l f) (sym (with_plain ns fs)) (elim s [
    | inl a ↦ Contains-append_left (findings_of ns) fs f a
    | inr b ↦ Contains-append_right (findings_of ns) fs f b
  ])

  -- it stands among these notes, or among those after them
  pub noted_apart : (ns ms : List Note) → Contains (findings_of (ns ++ ms)) f
      → Contains (findings_of ns) f ⊎ Contains (findings_of ms) f
  noted_apart ns ms c = Contains-append_cases (findings_of ns) (findings_of ms) f
      (subst (λ (l : List Finding). Contains l f) (flat_map-append finding_in ns ms) c)

  pub noted_together : (ns ms : List Note) → Contains (findings_of ns) f ⊎ Contains (findings_of ms) f
      → Contains (findings_of (ns ++ ms)) f
  noted_together ns ms s = subst (λ (l : List Finding). Contains l f)
      (sym (flat_map-append finding_in ns ms)) (elim s [
        | inl a ↦ Contains-append_left (findings_of ns) (findings_of ms) f a
        | inr b ↦ Contains-append_right (findings_of ns) (findings_of ms) f b
      ])

  -- two lists, and then what is found in annotations of both of them
  pub noted_beside : (xs ys : List Note) (as' bs cs : List Finding) {P Q : Type 0}
      → Contains cs f ↔ Contains (as' ++ bs) f → Noted f (xs ++ map plain_note as') P
      → Noted f (ys ++ map plain_note bs) Q → Noted f ((xs ++ ys) ++ map plain_note cs) (P ⊎ Q)
  noted_beside xs ys as' bs cs {P} {Q} order h k = (to, from)
    where
      left : Contains (findings_of xs) f ⊎ Contains as' f → (P ⊎ Q) × IsFoundElsewhere f
      left s = let r = h.0 (told_together xs as' s) in (inl r.0, r.1)

      right : Contains (findings_of ys) f ⊎ Contains bs f → (P ⊎ Q) × IsFoundElsewhere f
      right s = let r = k.0 (told_together ys bs s) in (inr r.0, r.1)

      to : Contains (findings_of ((xs ++ ys) ++ map plain_note cs)) f → (P ⊎ Q) × IsFoundElsewhere f
      to c = elim (told_apart (xs ++ ys) cs c) [
        | inl n ↦ elim (noted_apart xs ys n) [ inl a ↦ left (inl a) | inr b ↦ right (inl b) ]
        | inr d ↦ elim (Contains-append_cases as' bs f (order.0 d)) [ inl a ↦ left (inr a) | inr b ↦ right (inr b) ]
      ]

      from_left : Contains (findings_of xs) f ⊎ Contains as' f
          → Contains (findings_of ((xs ++ ys) ++ map plain_note cs)) f
      from_left s = told_together (xs ++ ys) cs (elim s [
        | inl a ↦ inl (noted_together xs ys (inl a))
        | inr b ↦ inr (order.1 (Contains-append_left as' bs f b))
      ])

      from_right : Contains (findings_of ys) f ⊎ Contains bs f
          → Contains (findings_of ((xs ++ ys) ++ map plain_note cs)) f
      from_right s = told_together (xs ++ ys) cs (elim s [
        | inl a ↦ inl (noted_together xs ys (inr a))
        | inr b ↦ inr (order.1 (Contains-append_right as' bs f b))
      ])

      from : P ⊎ Q → IsFoundElsewhere f → Contains (findings_of ((xs ++ ys) ++ map plain_note cs)) f
      from s own = elim s [
        | inl p ↦ from_left (told_apart xs as' (h.1 p own))
        | inr q ↦ from_right (told_apart ys bs (k.1 q own))
      ]

  -- a list, and then what is found in annotations, of which is told first
  pub with_annotations : (xs : List Note) (fs : List Finding) {P Q : Type 0} → Noted f xs Q
      → Noted f (map plain_note fs) P → Noted f (xs ++ map plain_note fs) (P ⊎ Q)
  with_annotations xs fs {P} {Q} h k = (
    λ c. elim (noted_apart xs (map plain_note fs) c) [
      | inl a ↦ let r = h.0 a in (inr r.0, r.1)
      | inr b ↦ let r = k.0 b in (inl r.0, r.1)
    ],
    λ s own. noted_together xs (map plain_note fs) (elim s [
      | inl p ↦ inr (k.1 p own)
      | inr q ↦ inl (h.1 q own)
    ]),
  )

  -- the findings in one more annotation, behind the others
  pub noted_behind : (xs : List Note) (as' bs : List Finding) {P Q : Type 0} → Noted f (xs ++ map plain_note as') P
      → Noted f (map plain_note bs) Q → Noted f (xs ++ map plain_note (as' ++ bs)) (P ⊎ Q)
  noted_behind xs as' bs {P} {Q} h k =
      subst (λ (l : List Finding). (Contains l f → (P ⊎ Q) × IsFoundElsewhere f)
      × (P ⊎ Q → IsFoundElsewhere f → Contains l f)) same (
        λ c. elim (Contains-append_cases (findings_of xs ++ as') bs f c) [
          | inl a ↦
              let r = h.0 (subst (λ (l : List Finding). Contains l f) (sym (with_plain xs as')) a) in (inl r.0, r.1)
          | inr b ↦
              let r = k.0 (subst (λ (l : List Finding). Contains l f) (sym (plain_findings bs)) b) in (inr r.0, r.1)
        ],
        λ s own. elim s [
          | inl p ↦ Contains-append_left (findings_of xs ++ as') bs f
              (subst (λ (l : List Finding). Contains l f) (with_plain xs as') (h.1 p own))
          | inr q ↦ Contains-append_right (findings_of xs ++ as') bs f
              (subst (λ (l : List Finding). Contains l f) (plain_findings bs) (k.1 q own))
        ],
      )
    where
      same : (findings_of xs ++ as') ++ bs ≡ findings_of (xs ++ map plain_note (as' ++ bs))
      same = append_assoc (findings_of xs) as' bs ∙ sym (with_plain xs (as' ++ bs))
