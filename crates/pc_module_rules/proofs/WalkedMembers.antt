-- The findings of the signatures of functions and of the members of classes, and in the bodies of methods, are those
-- under lawful labels.
use Rattle.std.proofs.Common.{◌≡◌, ◌⊎◌, ◌↔◌, ℕ, suc, List, [], ◌∷◌, ◌++◌, inl, inr, sym, subst, Contains, append_assoc}
use Rattle.std.proofs.Common.{append-nil}
use Rattle.std.specs.Prelude.{map, Bool as Test, true, false, if◌then◌else◌, codes}
use Rattle.pc_tree.specs.declared.code.Finding.{Finding}
use Rattle.pc_tree.specs.Tree.{FuncDef, Member, field_member, method_member, Module}
use Rattle.pc_scope.specs.Resolution.{is_one_of}
use Rattle.pc_scope.specs.declared.resolution.Owner.{Owner}
use Rattle.pc_scope.specs.declared.resolution.Owner.TheVariants as owners
use Rattle.pc_types.specs.Tree.{Tree}
use Rattle.pc_annotations.specs.Listed.{ann_findings}
use Rattle.pc_class.specs.Annotated.{def_annotated, fields_annotated, methods_annotated}
use Rattle.pc_class.specs.Bases.{bases_of}
use Rattle.pc_class.specs.Entries.{inherited_by, entries_of_members}
use Rattle.pc_class.specs.Facts.{ClassFacts, binds_method}
use Rattle.pc_flow.specs.WellFormed.{AreWellFormed}
use Rattle.pc_notes.specs.Notes.{Note, plain_note}
use Rattle.pc_rules.specs.Signatures.{LawfulParams, ParamsLabels}
use Rattle.pc_rules.specs.Computed.Signatures.{def_findings, field_default, method_defaults, method_findings}
use Rattle.pc_rules.specs.Computed.Signatures.{members_findings}
use Rattle.pc_rules.proofs.FoundBeside.{moved}
use Rattle.pc_rules.proofs.FoundList.{Noted as ListsOne}
use Rattle.pc_rules.proofs.SignaturesListed.{def_listed, method_listed, field_listed}
use Rattle.pc_module_rules.specs.Modules.{FunctionLabels, FunctionFinds, MembersLabels, LawfulMembers, MembersFind}
use Rattle.pc_module_rules.specs.SignaturesSaid.{SignatureSays, MembersSay}
use Rattle.pc_module_rules.specs.Computed.Statements.{function_finds}
use Rattle.pc_module_rules.specs.Computed.Modules.{methods_find}
use Rattle.pc_module_rules.specs.Laws.Walks.{Adds, BodySays, Lists}
use Rattle.pc_module_rules.proofs.WalkedFindings.{lists_nothing, lists_beside, adds_nothing, adds_both}
use Rattle.pc_module_rules.proofs.WalkedFunctions.{bodies_say}

-- a list that has each finding of which something stands
pub lists_each : {Says : Finding → Type 0} (xs : List Note) → ((f : Finding) → ListsOne f xs (Says f)) → Lists xs Says
lists_each xs h f = ((h f).0, λ q. (h f).1 q.0 q.1)

-- equal lists have the same
pub same_among : {xs ys : List Finding} → xs ≡ ys → (f : Finding) → Contains xs f ↔ Contains ys f
same_among e f = (subst (λ (l : List Finding). Contains l f) e, subst (λ (l : List Finding). Contains l f) (sym e))

-- a list that has no annotations of members
pub without_annotations : {Says : Finding → Type 0} (xs : List Note) → Lists xs Says
    → Lists (xs ++ map plain_note []) Says
without_annotations {Says = Says} xs h = subst (λ (l : List Note). Lists l Says) (sym (append-nil xs)) h

-- ---- findings in two parts

pub in_halves : {A B C D : Type 0} → A ⊎ (B ⊎ (C ⊎ D)) → (A ⊎ B) ⊎ (C ⊎ D)
in_halves s = elim s [ inl a ↦ inl (inl a) | inr t ↦ elim t [ inl b ↦ inl (inr b) | inr r ↦ inr r ] ]

pub from_halves : {A B C D : Type 0} → (A ⊎ B) ⊎ (C ⊎ D) → A ⊎ (B ⊎ (C ⊎ D))
from_halves s = elim s [ inl t ↦ elim t [ inl a ↦ inl a | inr b ↦ inr (inl b) ] | inr r ↦ inr (inr r) ]

-- of the first, and of the others
first_said : {S T B C : Type 0} → S ⊎ B → (S ⊎ T) ⊎ (B ⊎ C)
first_said s = elim s [ inl x ↦ inl (inl x) | inr y ↦ inr (inl y) ]

others_said : {S T B C : Type 0} → T ⊎ C → (S ⊎ T) ⊎ (B ⊎ C)
others_said s = elim s [ inl x ↦ inl (inr x) | inr y ↦ inr (inr y) ]

either_said : {S T B C : Type 0} → (S ⊎ T) ⊎ (B ⊎ C) → (S ⊎ B) ⊎ (T ⊎ C)
either_said s = elim s [
  | inl t ↦ elim t [ inl x ↦ inl (inl x) | inr y ↦ inr (inl y) ]
  | inr u ↦ elim u [ inl x ↦ inl (inr x) | inr y ↦ inr (inr y) ]
]

module _ (m : Module) where
  -- ---- signatures

  pub signature_listed : (before : List (List ℕ)) (f : FuncDef) (params : ParamsLabels f.params)
      → LawfulParams m before f.params params → Lists (def_findings m (λ t. is_one_of t before) f)
      (SignatureSays m f params)
  signature_listed before f params l = lists_each (def_findings m (λ t. is_one_of t before) f)
      (λ g. def_listed m g before f params l)

  -- the findings of a method beside the class table, and with the table
  method_part : (binds : Test) (d : FuncDef) (params : ParamsLabels d.params)
      → LawfulParams m (codes "self" ∷ []) d.params params
      → Lists (method_findings m binds d ++ map plain_note (if binds then def_annotated m d else []))
      (SignatureSays m d params)
  method_part true d params l = lists_each (method_defaults m d ++ map plain_note (def_annotated m d))
      (λ g. method_listed m g d params l)
  method_part false d params l = without_annotations (def_findings m (λ t. is_one_of t (codes "self" ∷ [])) d)
      (signature_listed (codes "self" ∷ []) d params l)

  module _ (constants : List Tree) where
    -- the findings under labels in the bodies of methods
    abbrev pub MethodsSay : (c number : ℕ) → (ms : List Member) → MembersLabels ms → Finding → Type 0
    MethodsSay c number [] labels g = ⊥
    MethodsSay c number (field_member d ∷ rest) labels g = MethodsSay c number rest labels.rest g
    MethodsSay c number (method_member d ∷ rest) labels g = BodySays m constants (owners.Method c number) d
        labels.method g ⊎ MethodsSay c (suc number) rest labels.rest g

    -- ---- lists

    -- the findings of members after these names and so many methods, beside the class table and with the table
    pub members_listed : (base : ClassFacts) (c number : ℕ) (before : List (List ℕ)) (ms : List Member)
        (labels : MembersLabels ms) → LawfulMembers m constants base c number before ms labels
        → Lists (members_findings m base (λ t. is_one_of t before) ms
        ++ map plain_note (fields_annotated m ms ++ methods_annotated m
        (entries_of_members (inherited_by base) before number ms))) (MembersSay m ms labels)
    members_listed base c number before [] labels l = lists_nothing
    members_listed base c number before (field_member d ∷ rest) labels l =
        let one = field_default m base (λ t. is_one_of t before) d in
        let anns = ann_findings m (bases_of m) d.annotation in
        let fields = fields_annotated m rest in
        let methods = methods_annotated m (entries_of_members (inherited_by base) (d.name.text ∷ before) number rest) in
        lists_beside one (members_findings m base (λ t. is_one_of t (d.name.text ∷ before)) rest) anns
        (fields ++ methods) ((anns ++ fields) ++ methods) (same_among (append_assoc anns fields methods))
        (lists_each (one ++ map plain_note anns) (λ g. field_listed m g base before d labels.default l.default))
        (members_listed base c number (d.name.text ∷ before) rest labels.rest l.others)
    members_listed base c number before (method_member d ∷ rest) labels l =
        let binds = binds_method base before d.name.text in
        let one = method_findings m binds d in
        let anns = if binds then def_annotated m d else [] in
        let fields = fields_annotated m rest in
        let methods = methods_annotated m (entries_of_members (inherited_by base) (d.name.text ∷ before) (suc number) rest) in
        lists_beside one (members_findings m base (λ t. is_one_of t (d.name.text ∷ before)) rest) anns
        (fields ++ methods) (fields ++ (anns ++ methods))
        (λ g. (moved fields anns methods g, moved anns fields methods g))
        (method_part binds d labels.method.params l.method.params)
        (members_listed base c (suc number) (d.name.text ∷ before) rest labels.rest l.others)

    -- the walks over the bodies of methods find just what is under their labels
    pub methods_say : AreWellFormed (bases_of m) constants → (base : ClassFacts) (c number : ℕ) (before : List (List ℕ))
        (ms : List Member) (labels : MembersLabels ms) → LawfulMembers m constants base c number before ms labels
        → (found : List Note) → Adds found (methods_find false m constants c number ms found)
        (MethodsSay c number ms labels)
    methods_say k base c number before [] labels l found = adds_nothing found
    methods_say k base c number before (field_member d ∷ rest) labels l found = methods_say k base c number
        (d.name.text ∷ before) rest labels.rest l.others found
    methods_say k base c number before (method_member d ∷ rest) labels l found =
        let one = function_finds false m constants (owners.Method c number) d found in
        adds_both found one (methods_find false m constants c (suc number) rest one)
        (bodies_say m constants k (owners.Method c number) d labels.method l.method found)
        (methods_say k base c (suc number) (d.name.text ∷ before) rest labels.rest l.others one)

    -- ---- both of them are what is said

    pub function_split : (owner : Owner) (f : FuncDef) (labels : FunctionLabels f) (g : Finding)
        → FunctionFinds m constants owner f labels g → SignatureSays m f labels.params g
        ⊎ BodySays m constants owner f labels g
    function_split owner f labels g h = in_halves h

    pub function_joined : (owner : Owner) (f : FuncDef) (labels : FunctionLabels f) (g : Finding)
        → SignatureSays m f labels.params g ⊎ BodySays m constants owner f labels g
        → FunctionFinds m constants owner f labels g
    function_joined owner f labels g h = from_halves h

    pub members_split : (c number : ℕ) (ms : List Member) (labels : MembersLabels ms) (g : Finding)
        → MembersFind m constants c number ms labels g → MembersSay m ms labels g ⊎ MethodsSay c number ms labels g
    members_split c number [] labels g h = absurd h
    members_split c number (field_member d ∷ rest) labels g h = elim h [
      | inl a ↦ inl (inl (inl a))
      | inr t ↦ elim t [
        | inl x ↦ inl (inl (inr x))
        | inr r ↦ elim (members_split c number rest labels.rest g r) [ inl y ↦ inl (inr y) | inr z ↦ inr z ]
      ]
    ]
    members_split c number (method_member d ∷ rest) labels g h = elim h [
      | inl x ↦ first_said (function_split (owners.Method c number) d labels.method g x)
      | inr r ↦ others_said (members_split c (suc number) rest labels.rest g r)
    ]

    pub members_joined : (c number : ℕ) (ms : List Member) (labels : MembersLabels ms) (g : Finding)
        → MembersSay m ms labels g ⊎ MethodsSay c number ms labels g → MembersFind m constants c number ms labels g
    members_joined c number [] labels g h = elim h [ inl x ↦ x | inr y ↦ y ]
    members_joined c number (field_member d ∷ rest) labels g h = elim h [
      | inl t ↦ elim t [
        | inl u ↦ elim u [ inl a ↦ inl a | inr x ↦ inr (inl x) ]
        | inr r ↦ inr (inr (members_joined c number rest labels.rest g (inl r)))
      ]
      | inr r ↦ inr (inr (members_joined c number rest labels.rest g (inr r)))
    ]
    members_joined c number (method_member d ∷ rest) labels g h = elim (either_said h) [
      | inl x ↦ inl (function_joined (owners.Method c number) d labels.method g x)
      | inr r ↦ inr (members_joined c (suc number) rest labels.rest g r)
    ]
