-- Everything computed of a module agrees with its lawful labelling: the types of its constants, and its findings.
use Rattle.std.proofs.Common.{◌≡◌, ◌⊎◌, ◌↔◌, List, [], ◌∷◌, ◌++◌, sym, ap, subst, inl, inr, Contains, arith}
use Rattle.std.specs.Prelude.{map, slice_get, false}
use Rattle.pc_tree.specs.declared.code.Finding.{Finding}
use Rattle.pc_tree.specs.Tree.{Item, constant_item, class_item, def_item, Module}
use Rattle.pc_scope.specs.Bindings.{classes_in}
use Rattle.pc_scope_findings.specs.Findings.{ScopeFinds}
use Rattle.pc_scope.specs.declared.resolution.Owner.TheVariants as owners
use Rattle.pc_tree.proofs.Among.{none_among}
use Rattle.pc_types.specs.Tree.{Tree}
use Rattle.pc_class.specs.Annotated.{classes_annotated, member_annotations}
use Rattle.pc_class.specs.Bases.{bases_of}
use Rattle.pc_class.specs.Findings.{ClassFinds}
use Rattle.pc_flow.specs.WellFormed.{AreWellFormed}
use Rattle.pc_notes.specs.Notes.{Note, plain_note, findings_of}
use Rattle.pc_rules.specs.Computed.Signatures.{constants_of, signatures_find, nothing_reached, functions_findings}
use Rattle.pc_rules.specs.Computed.Signatures.{items_findings}
use Rattle.pc_module_rules.specs.Modules.{Labelling, IsLawful, ModuleItemsLabels, BeforeItem, nothing_before, before_next}
use Rattle.pc_module_rules.specs.Modules.{constant_types, ModuleItemsFind, LabelsSay, LabelsFind, IsFinding}
use Rattle.pc_module_rules.specs.SignaturesSaid.{FunctionsSay, ItemsSay, SignaturesSay}
use Rattle.pc_module_rules.specs.Computed.Modules.{bodies_find, module_notes, module_finds}
use Rattle.pc_module_rules.specs.Laws.Walks.{Adds, Lists}
use Rattle.pc_module_rules.specs.Laws.Modules.{ConstantsHaveTheTypesOfLabels, SignaturesFindWhatLabelsSay}
use Rattle.pc_module_rules.specs.Laws.Modules.{ModulesFindWhatLabelsSay, ModulesFindWhatLabelsFind}
use Rattle.pc_module_rules.specs.Laws.Modules.{FindingsOfModulesAreComputed}
use Rattle.pc_rules.proofs.FoundBeside.{told_apart, told_together}
use Rattle.pc_module_rules.proofs.LabelledModule.{every_module_has_a_labelling}
use Rattle.pc_module_rules.proofs.WalkedFindings.{lists_beside, adds_same, adds_around}
use Rattle.pc_module_rules.proofs.WalkedItems.{BodiesSay, ItemsWalked, functions_listed, items_walked, all_bodies_say}
use Rattle.pc_module_rules.proofs.WalkedMembers.{function_split, function_joined, members_split, members_joined}
use Rattle.pc_module_rules.proofs.WalkedMembers.{without_annotations}

-- ---- findings of items, in three parts

-- of the first item, of the others, and of either
first_part : {A B C D E F : Type 0} → (A ⊎ B) ⊎ C → ((A ⊎ D) ⊎ (B ⊎ E)) ⊎ (C ⊎ F)
first_part s = elim s [
  | inl t ↦ elim t [ inl a ↦ inl (inl (inl a)) | inr b ↦ inl (inr (inl b)) ]
  | inr c ↦ inr (inl c)
]

other_part : {A B C D E F : Type 0} → (D ⊎ E) ⊎ F → ((A ⊎ D) ⊎ (B ⊎ E)) ⊎ (C ⊎ F)
other_part s = elim s [
  | inl t ↦ elim t [ inl d ↦ inl (inl (inr d)) | inr e ↦ inl (inr (inr e)) ]
  | inr f ↦ inr (inr f)
]

either_part : {A B C D E F : Type 0} → ((A ⊎ D) ⊎ (B ⊎ E)) ⊎ (C ⊎ F) → ((A ⊎ B) ⊎ C) ⊎ ((D ⊎ E) ⊎ F)
either_part s = elim s [
  | inl t ↦ elim t [
    | inl u ↦ elim u [ inl a ↦ inl (inl (inl a)) | inr d ↦ inr (inl (inl d)) ]
    | inr v ↦ elim v [ inl b ↦ inl (inl (inr b)) | inr e ↦ inr (inl (inr e)) ]
  ]
  | inr w ↦ elim w [ inl c ↦ inl (inr c) | inr f ↦ inr (inr f) ]
]

module _ (m : Module) (all : List Tree) (f : Finding) where
  -- the findings under labels of items: in signatures of functions, in constants and classes, and in bodies
  abbrev InParts : BeforeItem → (items : List Item) → ModuleItemsLabels items → Type 0
  InParts b items labels = (FunctionsSay m items labels f ⊎ ItemsSay m items labels f)
      ⊎ BodiesSay m all b items labels f

  items_split : (b : BeforeItem) (items : List Item) (labels : ModuleItemsLabels items) → ModuleItemsFind m all b items labels f
      → InParts b items labels
  items_split b [] labels h = absurd h
  items_split b (constant_item p c ∷ rest) labels h = elim h [
    | inl x ↦ inl (inr (inl (elim x [ inl a ↦ inl a | inr y ↦ inr (elim y [ inl fl ↦ inr fl | inr v ↦ inl v ]) ])))
    | inr r ↦ elim (items_split (before_next m b (constant_item p c) labels.first) rest labels.rest r) [
      | inl t ↦ elim t [ inl d ↦ inl (inl (inr d)) | inr e ↦ inl (inr (inr e)) ]
      | inr u ↦ inr u
    ]
  ]
  items_split b (class_item p c ∷ rest) labels h = elim h [
    | inl x ↦ elim (members_split m all b.classes 0 c.members labels.first f x) [
      | inl y ↦ inl (inr (inl y))
      | inr z ↦
          inr (inl z)
    ]
    | inr r ↦ other_part (items_split (before_next m b (class_item p c) labels.first) rest labels.rest r)
  ]
  items_split b (def_item p d ∷ rest) labels h = elim h [
    | inl x ↦ elim (function_split m all (owners.Func b.functions) d labels.first f x)
        [ inl y ↦ inl (inl (inl y)) | inr z ↦ inr (inl z) ]
    | inr r ↦ other_part (items_split (before_next m b (def_item p d) labels.first) rest labels.rest r)
  ]

  items_joined : (b : BeforeItem) (items : List Item) (labels : ModuleItemsLabels items) → InParts b items labels
      → ModuleItemsFind m all b items labels f
  items_joined b [] labels h = elim h [ inl t ↦ elim t [ inl x ↦ x | inr y ↦ y ] | inr z ↦ z ]
  items_joined b (constant_item p c ∷ rest) labels h =
      let next = items_joined (before_next m b (constant_item p c) labels.first) rest labels.rest in
      elim h [
        | inl t ↦ elim t [
          | inl x ↦ elim x [ inl none ↦ absurd none | inr d ↦ inr (next (inl (inl d))) ]
          | inr y ↦ elim y [
            | inl x ↦ inl (elim x [ inl a ↦ inl a | inr z ↦ inr (elim z [ inl v ↦ inr v | inr fl ↦ inl fl ]) ])
            | inr e ↦ inr (next (inl (inr e)))
          ]
        ]
        | inr u ↦ inr (next (inr u))
      ]
  items_joined b (class_item p c ∷ rest) labels h = elim (either_part h) [
    | inl x ↦ inl (members_joined m all b.classes 0 c.members labels.first f
        (elim x [ inl t ↦ elim t [ inl none ↦ absurd none | inr y ↦ inl y ] | inr z ↦ inr z ]))
    | inr r ↦ inr (items_joined (before_next m b (class_item p c) labels.first) rest labels.rest r)
  ]
  items_joined b (def_item p d ∷ rest) labels h = elim (either_part h) [
    | inl x ↦ inl (function_joined m all (owners.Func b.functions) d labels.first f
        (elim x [ inl t ↦ elim t [ inl y ↦ inl y | inr none ↦ absurd none ] | inr z ↦ inr z ]))
    | inr r ↦ inr (items_joined (before_next m b (def_item p d) labels.first) rest labels.rest r)
  ]

-- ---- the module

module _ (m : Module) (labels : Labelling m) (l : IsLawful m labels) where
  abbrev all : List Tree
  all = constant_types m m.items labels

  walked : ItemsWalked m nothing_before m.items labels
  walked = items_walked m all nothing_before tt m.items (λ i. ap (slice_get (classes_in m.items)) (omega arith)) labels
      l

  constants_are : constants_of m ≡ all
  unfolding constants_of
  constants_are = walked.types

  signatures_listed : Lists (signatures_find m false ++ map plain_note (member_annotations m)) (SignaturesSay m labels)
  unfolding signatures_find member_annotations
  signatures_listed =
      let anns = classes_annotated m 0 (classes_in m.items) in
      lists_beside (functions_findings m m.items) (items_findings m false nothing_reached m.items) [] anns anns
      (λ f. (λ h. h, λ h. h)) (without_annotations (functions_findings m m.items)
      (functions_listed m all nothing_before m.items labels l)) walked.listed

  module_adds : (found : List Note) → Adds found (module_finds m found ++ map plain_note (member_annotations m))
      (LabelsSay m labels)
  unfolding module_notes
  module_adds found =
      let signed = found ++ signatures_find m false in
      let anns = map plain_note (member_annotations m) in
      let adds : Adds found (bodies_find false m all 0 0 m.items signed ++ anns) (LabelsSay m labels) =
      adds_same found (bodies_find false m all 0 0 m.items signed ++ anns)
      (λ f. items_joined m all f nothing_before m.items labels)
      (λ f. items_split m all f nothing_before m.items labels)
      (adds_around found (signatures_find m false) (bodies_find false m all 0 0 m.items signed) (member_annotations m)
      signatures_listed (all_bodies_say m all walked.well_formed nothing_before m.items labels l signed)) in
      subst (λ ts. Adds found (bodies_find false m ts 0 0 m.items signed ++ anns) (LabelsSay m labels))
      (sym constants_are)
      adds

  module_found : (f : Finding) → Contains (findings_of (module_finds m [] ++ map plain_note (member_annotations m))) f
      ↔ LabelsFind m labels f
  module_found f = (
    λ h. elim ((module_adds [] f).0 h) [
      | inl none ↦ absurd (none_among f none)
      | inr s ↦
          record { own = s.1; said = s.0 }
    ],
    λ s. (module_adds [] f).1 (inr (s.said, s.own)),
  )

pub constants_have_types : ConstantsHaveTheTypesOfLabels
constants_have_types m labels l = constants_are m labels l

pub signatures_say : SignaturesFindWhatLabelsSay
signatures_say m labels l f = signatures_listed m labels l f

pub modules_say : ModulesFindWhatLabelsSay
modules_say m labels l found = module_adds m labels l found

pub modules_find : ModulesFindWhatLabelsFind
modules_find m labels l f = module_found m labels l f

-- the types of the constants of a module are well-formed
pub constants_well_formed : (m : Module) → AreWellFormed (bases_of m) (constants_of m)
constants_well_formed m =
    let h = every_module_has_a_labelling m in
    subst (AreWellFormed (bases_of m)) (sym (constants_are m h.labels h.lawful))
    (walked m h.labels h.lawful).well_formed

-- the one lawful labelling of a module finds what is computed
pub findings_computed : FindingsOfModulesAreComputed
findings_computed m f = (to, from)
  where
    InParts : Type 0
    InParts = Contains (member_annotations m) f ⊎ Contains (findings_of (module_finds m [])) f

    to : IsFinding m f → ScopeFinds m f ⊎ (ClassFinds m f ⊎ InParts)
    to h = elim h.found [
      | inl s ↦ inl s
      | inr t ↦ elim t [
        | inl c ↦ inr (inl c)
        | inr x ↦ elim (told_apart f (module_finds m []) (member_annotations m)
            ((module_found m h.labels h.lawful f).1 x)) [ inl a ↦ inr (inr (inr a)) | inr b ↦ inr (inr (inl b)) ]
      ]
    ]

    listed : InParts → Contains (findings_of (module_finds m [] ++ map plain_note (member_annotations m))) f
    listed s = told_together f (module_finds m []) (member_annotations m)
        (elim s [ inl a ↦ inr a | inr b ↦ inl b ])

    from : ScopeFinds m f ⊎ (ClassFinds m f ⊎ InParts) → IsFinding m f
    from s =
        let h = every_module_has_a_labelling m in
        record {
          labels = h.labels;
          lawful = h.lawful;
          found = elim s [
            | inl x ↦ inl x
            | inr t ↦ elim t [
              | inl c ↦ inr (inl c)
              | inr x ↦ inr (inr ((module_found m h.labels h.lawful f).0 (listed x)))
            ]
          ];
        }
