-- The lists of the notes of parameters, functions' signatures and fields hold exactly the findings of the rules, except
-- those of scope analysis.
use Rattle.std.proofs.Common.{◌≡◌, ◌⊎◌, List, [], ◌∷◌, ◌++◌, refl, sym, ap, ◌∙◌, subst, inl, inr, arith}
use Rattle.std.specs.Prelude.{ℕ, Bool as Test, true, false, Option, Some, None, MatchOption, codes, map}
use Rattle.pc_source.specs.declared.place.Place.{Place}
use Rattle.pc_tree.specs.declared.code.Code.{Code}
use Rattle.pc_tree.specs.declared.code.Code.TheVariants.{E09, E10, E26}
use Rattle.pc_tree.specs.declared.code.Finding.{Finding}
use Rattle.pc_tree.specs.Code.{finding}
use Rattle.pc_tree.specs.Tree.{Ann, Anns, named, none_type, applied, applied_empty, no_anns, more_anns, Literal}
use Rattle.pc_tree.specs.Tree.{number_literal, negative_literal, text_literal, truth_literal, none_literal, Param}
use Rattle.pc_tree.specs.Tree.{FuncDef, Field, Module}
use Rattle.pc_tree.specs.Tree as tree
use Rattle.pc_scope.specs.Resolution.{is_one_of, resolve_in_module}
use Rattle.pc_types.specs.Tree.{Tree}
use Rattle.pc_types.specs.Below.{Bases}
use Rattle.pc_types.specs.WellFormed.{IsWellFormed}
use Rattle.pc_annotations.specs.Annotations.{named_type, applied_type, empty_type, union_type, read_anns, read_ann, read_option}
use Rattle.pc_annotations.specs.Annotations.{PartFinds, PartsFind, AnnFinds, OptionAnnFinds}
use Rattle.pc_annotations.proofs.Earlier.{smaller}
use Rattle.pc_annotations.proofs.Readings.{read_ann_well_formed}
use Rattle.pc_annotations.specs.Listed.{ann_findings, option_findings}
use Rattle.pc_annotations.proofs.Listing.{listed}
use Rattle.pc_class.specs.Annotated.{params_annotated, def_annotated}
use Rattle.pc_class.specs.Bases.{bases_of}
use Rattle.pc_class.specs.Facts.{ClassFacts, binds_field}
use Rattle.pc_rules.specs.Operations.{clean}
use Rattle.pc_rules.specs.Computed.Expressions.{flows_of}
use Rattle.pc_notes.specs.Notes.{plain_note}
use Rattle.pc_rules.specs.Computed.Findings.{flows_at}
use Rattle.pc_rules.specs.Labels.{FlowLabels, IsFlowAt, is_of_scopes}
use Rattle.pc_rules.specs.Signatures.{literal_type, literal_place, LawfulDefault, DefaultFinds, binds_name}
use Rattle.pc_rules.specs.Signatures.{ParamsLabels, LawfulParams, ParamsFind}
use Rattle.pc_rules.specs.Computed.Signatures.{default_findings, param_findings, params_findings, def_findings}
use Rattle.pc_rules.specs.Computed.Signatures.{params_defaults, method_defaults, field_default}
use Rattle.pc_rules.proofs.ComputedFlows.{flows_are_lawful}
use Rattle.pc_rules.proofs.FoundList.{IsFoundElsewhere, Noted, noted_same as same_listed}
use Rattle.pc_rules.proofs.FoundList.{noted_in_turn as in_turn, noted_flows as at_flows, noted_plain, nothing_noted}
use Rattle.pc_rules.proofs.FoundBeside.{with_annotations, noted_beside, noted_behind}
use Rattle.pc_rules.proofs.One.{into_one}

-- ---- defaults

pub literal_well_formed : (bases : Bases) (l : Literal) → IsWellFormed bases (literal_type l)
literal_well_formed bases (number_literal p d) = (tt, tt, omega arith)
literal_well_formed bases (negative_literal p d) = (tt, tt, omega arith)
literal_well_formed bases (text_literal p d) = (tt, tt, omega arith)
literal_well_formed bases (truth_literal p v) = (tt, tt, omega arith)
literal_well_formed bases (none_literal p) = (tt, tt, omega arith)

module _ (m : Module) (f : Finding) where
  abbrev bases : Bases
  bases = bases_of m

  nothing_flows : (p : Place) (flows : FlowLabels) → flows ≡ [] → Noted f [] (IsFlowAt p flows f)
  nothing_flows p flows e = subst (λ (fs : FlowLabels). Noted f [] (IsFlowAt p fs f)) (sym e) (at_flows f p [])

  -- the findings computed at a default are those found there, where its flow is lawful
  pub default_listed : (binds : Test) (d : Option Literal) (t : Tree) (flows : FlowLabels) → IsWellFormed bases t
      → LawfulDefault bases binds d t flows → Noted f (default_findings bases binds d t) (DefaultFinds d flows f)
  default_listed binds None t flows k h = nothing_noted f
  default_listed false (Some l) t flows k h = nothing_flows (literal_place l) flows h
  default_listed true (Some l) t flows k h =
      let from = clean (literal_type l) in
      let e : flows_of bases from (t ∷ []) ≡ flows = into_one bases from (t ∷ []) (flows_of bases from (t ∷ [])) flows
      (flows_are_lawful bases from (t ∷ []) (smaller m) (literal_well_formed bases l) (k, tt)) h in
      subst (λ (fs : FlowLabels). Noted f (flows_at (literal_place l) (flows_of bases from (t ∷ [])))
      (IsFlowAt (literal_place l) fs f)) e (at_flows f (literal_place l) (flows_of bases from (t ∷ [])))

  -- ---- annotations

  -- a code that is not found of scopes is that of a finding
  elsewhere : (p : Place) (c : Code) → is_of_scopes c ≡ false → f ≡ finding p c → IsFoundElsewhere f
  elsewhere p c own e = ap (λ (g : Finding). is_of_scopes g.code) e ∙ own

  none_or : (o : Option Tree) (p : Place) (c : Code) (X : Type 0) → is_of_scopes c ≡ false → (X → IsFoundElsewhere f)
      → MatchOption o (f ≡ finding p c) (λ t. X) → IsFoundElsewhere f
  none_or None p c X own inside h = elsewhere p c own h
  none_or (Some t) p c X own inside h = inside h

  mutual
    part_elsewhere : (a : Ann) → PartFinds m bases a f → IsFoundElsewhere f
    part_elsewhere (named n) h = none_or (named_type m.imports_any (resolve_in_module m n.text)) n.place E09 ⊥ refl
        (λ x. absurd x) h
    part_elsewhere (none_type p) h = absurd h
    part_elsewhere (applied p head arguments) h = none_or (applied_type (resolve_in_module m head.text)
        (read_anns m bases arguments)) p E09 (PartsFind m bases arguments f) refl (parts_elsewhere arguments) h
    part_elsewhere (applied_empty p head) h = none_or (empty_type (resolve_in_module m head.text)) p E09 ⊥ refl
        (λ x. absurd x) h
    part_elsewhere (tree.union p parts) h = elim h [
      | inl u ↦ none_or (union_type bases (read_anns m bases parts)) p E10 ⊥ refl (λ x. absurd x) u
      | inr r ↦ parts_elsewhere parts r
    ]

    parts_elsewhere : (as' : Anns) → PartsFind m bases as' f → IsFoundElsewhere f
    parts_elsewhere no_anns h = absurd h
    parts_elsewhere (more_anns a rest) h = elim h [ inl x ↦ part_elsewhere a x | inr y ↦ parts_elsewhere rest y ]

  ann_elsewhere : (a : Ann) → AnnFinds m bases a f → IsFoundElsewhere f
  ann_elsewhere a h = elim h [ inl x ↦ part_elsewhere a x | inr y ↦ elsewhere _ E26 refl y.is ]

  -- the findings in an annotation
  pub ann_listed : (a : Ann) → Noted f (map plain_note (ann_findings m bases a)) (AnnFinds m bases a f)
  ann_listed a =
      let l = listed m bases f a in
      noted_plain f (ann_findings m bases a) (AnnFinds m bases a f) (
        λ c. (l.0 c, ann_elsewhere a (l.0 c)),
        λ h own. l.1 h,
      )

  pub option_listed : (a : Option Ann) → Noted f (map plain_note (option_findings m bases a))
      (OptionAnnFinds m bases a f)
  option_listed None = nothing_noted f
  option_listed (Some a) = ann_listed a

  -- ---- parameters, functions and fields

  first_two : {P Q R : Type 0} → (P ⊎ Q) ⊎ R → P ⊎ (Q ⊎ R)
  first_two s = elim s [ inl t ↦ elim t [ inl p ↦ inl p | inr q ↦ inr (inl q) ] | inr r ↦ inr (inr r) ]

  two_first : {P Q R : Type 0} → P ⊎ (Q ⊎ R) → (P ⊎ Q) ⊎ R
  two_first s = elim s [ inl p ↦ inl (inl p) | inr t ↦ elim t [ inl q ↦ inl (inr q) | inr r ↦ inr r ] ]

  option_well_formed : (a : Option Ann) → IsWellFormed bases (read_option m bases a)
  option_well_formed None = (tt, tt, omega arith)
  option_well_formed (Some a) = read_ann_well_formed m bases (smaller m) a

  -- the findings of parameters, after names
  pub params_listed : (before : List (List ℕ)) (ps : List Param) (labels : ParamsLabels ps)
      → LawfulParams m before ps labels → Noted f (params_findings m (λ t. is_one_of t before) ps)
      (ParamsFind m ps labels f)
  params_listed before [] labels h = nothing_noted f
  params_listed before (p ∷ ps) labels h =
      let one = in_turn f (map plain_note (option_findings m bases p.annotation))
      (default_findings bases (binds_name before p.name) p.default (read_option m bases p.annotation))
      (option_listed p.annotation)
      (default_listed (binds_name before p.name) p.default (read_option m bases p.annotation) labels.default
      (option_well_formed p.annotation) h.default) in
      same_listed f (param_findings m (λ t. is_one_of t before) p ++ params_findings m
      (λ t. is_one_of t (p.name.text ∷ before)) ps) first_two two_first
      (in_turn f (param_findings m (λ t. is_one_of t before) p) (params_findings m
      (λ t. is_one_of t (p.name.text ∷ before)) ps) one (params_listed (p.name.text ∷ before) ps labels.rest
      h.rest))

  -- the findings of a function's signature
  pub def_listed : (before : List (List ℕ)) (d : FuncDef) (labels : ParamsLabels d.params)
      → LawfulParams m before d.params labels → Noted f (def_findings m (λ t. is_one_of t before) d)
      (ParamsFind m d.params labels f ⊎ OptionAnnFinds m bases d.returns f)
  def_listed before d labels h = in_turn f (params_findings m (λ t. is_one_of t before) d.params)
      (map plain_note (option_findings m bases d.returns)) (params_listed before d.params labels h)
      (option_listed d.returns)

  -- the findings at the defaults of parameters after names, and in their annotations
  method_params_listed : (before : List (List ℕ)) (ps : List Param) (labels : ParamsLabels ps)
      → LawfulParams m before ps labels → Noted f (params_defaults m (λ t. is_one_of t before) ps
      ++ map plain_note (params_annotated m ps)) (ParamsFind m ps labels f)
  method_params_listed before [] labels h = nothing_noted f
  method_params_listed before (p ∷ ps) labels h =
      let anns = option_findings m bases p.annotation in
      let default = default_findings bases (binds_name before p.name) p.default (read_option m bases p.annotation) in
      let rest = params_defaults m (λ t. is_one_of t (p.name.text ∷ before)) ps in
      let one = with_annotations f default anns (default_listed (binds_name before p.name) p.default
      (read_option m bases p.annotation) labels.default (option_well_formed p.annotation) h.default)
      (option_listed p.annotation) in
      same_listed f ((default ++ rest) ++ map plain_note (anns ++ params_annotated m ps)) first_two two_first
      (noted_beside f default rest anns (params_annotated m ps) (anns ++ params_annotated m ps) (λ c. c, λ c. c) one
      (method_params_listed (p.name.text ∷ before) ps labels.rest h.rest))

  -- the findings at the defaults of a method, and in its annotations
  pub method_listed : (d : FuncDef) (labels : ParamsLabels d.params)
      → LawfulParams m (codes "self" ∷ []) d.params labels
      → Noted f (method_defaults m d ++ map plain_note (def_annotated m d))
      (ParamsFind m d.params labels f ⊎ OptionAnnFinds m bases d.returns f)
  method_listed d labels h =
      let anns = option_findings m bases d.returns in
      noted_behind f (method_defaults m d) (params_annotated m d.params) anns
      (method_params_listed (codes "self" ∷ []) d.params labels h) (option_listed d.returns)

  -- the findings at the default of a field of a class with this base, and in its annotation
  pub field_listed : (base : ClassFacts) (before : List (List ℕ)) (d : Field) (flows : FlowLabels)
      → LawfulDefault bases (binds_field base before d.name.text) d.default (read_ann m bases d.annotation) flows
      → Noted f (field_default m base (λ t. is_one_of t before) d ++ map plain_note (ann_findings m bases d.annotation))
      (AnnFinds m bases d.annotation f ⊎ DefaultFinds d.default flows f)
  field_listed base before d flows h =
      let default = default_findings bases (binds_field base before d.name.text) d.default
      (read_ann m bases d.annotation) in
      with_annotations f default (ann_findings m bases d.annotation)
      (default_listed (binds_field base before d.name.text) d.default (read_ann m bases d.annotation) flows
      (read_ann_well_formed m bases (smaller m) d.annotation) h) (ann_listed d.annotation)
