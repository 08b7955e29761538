-- The findings of a walk in stores, in a `return` and in an expression that may be missing are those under lawful
-- labels.
use Rattle.std.proofs.Common.{◌≡◌, ◌⊎◌, List, [], ◌∷◌, ◌++◌, sym, ap, subst, inl, inr, arith}
use Rattle.std.specs.Prelude.{Option, Some, None}
use Rattle.pc_source.specs.declared.place.Place.{Place}
use Rattle.pc_tree.specs.declared.code.Finding.{Finding}
use Rattle.pc_tree.specs.Depth.{place_of}
use Rattle.pc_tree.specs.Tree.{Expr, Target, to_name, to_attribute, to_index}
use Rattle.pc_types.specs.Tree.{Tree, NoneType}
use Rattle.pc_types.specs.WellFormed.{IsWellFormed}
use Rattle.pc_flow.specs.Environment.{Env}
use Rattle.pc_flow.specs.WellFormed.{AreWellFormed, IsWellFormedEnv, IsWellFormedIfAny}
use Rattle.pc_rules.specs.Operations.{clean, StoreOffer, store_codes, store_index_types, stored_types, only_type}
use Rattle.pc_rules.specs.Context.{FlowsInto}
use Rattle.pc_rules.specs.Labels.{FlowLabels, Labels, whole_label, type_of, Finds, IsFoundAt, IsFlowAt}
use Rattle.pc_rules.specs.Lawful.{Lawful}
use Rattle.pc_rules.specs.Computed.Expressions.{flows_of}
use Rattle.pc_rules.specs.Computed.Findings.{codes_at, flows_at}
use Rattle.pc_rules.specs.Computed.Standing.{Standing, label_in, finds_in}
use Rattle.pc_module_rules.specs.StatementLabels.{OptionLabels, TargetLabels}
use Rattle.pc_module_rules.specs.Statements.{attribute_offers, index_offers, LawfulStore, LawfulReturn, LawfulOption}
use Rattle.pc_module_rules.specs.Statements.{OptionFinds, option_place, TargetFinds}
use Rattle.pc_module_rules.specs.Laws.Labellings.{Surroundings}
use Rattle.pc_module_rules.specs.Computed.Statements.{DeclaredTypes, BodyContext, attribute_stores, index_stores, stored_finds}
use Rattle.pc_module_rules.specs.Computed.Statements.{store_finds, option_finds, return_finds}
use Rattle.pc_module_rules.specs.Laws.Walks.{EnvFits, body_context_in, Lists}
use Rattle.pc_module_rules.proofs.StoredTypes.{fields_stored, items_stored, keys_stored, only_well_formed}
use Rattle.pc_module_rules.proofs.WalkedFindings.{lists_nothing, lists_same, lists_both, lists_codes}
use Rattle.pc_module_rules.proofs.WalkedExpressions.{here, ExpressionTold, told, flows_told, flows_found}

module _ (around : Surroundings) (returned : Tree) (kr : IsWellFormed around.context.bases returned)
    (declared : List Tree) (table : DeclaredTypes) (kt : IsWellFormedEnv around.context.bases table) (env : Env)
    (h : EnvFits around declared table env) where
  open around use {whole as m, context as ctx, context_well_formed as ck}

  abbrev context : BodyContext
  context = body_context_in around returned

  abbrev at_env : Standing
  at_env = here around declared table kt env h

  abbrev Reads : (want : Option Tree) (e : Expr) → Labels e → Type 0
  Reads want e labels = ExpressionTold around declared table kt env h want e labels

  read : (want : Option Tree) → IsWellFormedIfAny ctx.bases want → (e : Expr) (labels : Labels e)
      → Lawful ctx declared env want e labels → Reads want e labels
  read want kw e labels l = told around declared table kt env h want kw e labels l

  -- an expression, and then its flows into several types
  flowing : (want : Option Tree) (e : Expr) (labels : Labels e) (ts : List Tree) (flows : FlowLabels)
      → Reads want e labels → AreWellFormed ctx.bases ts → FlowsInto ctx.bases (whole_label e labels) ts flows
      → Lists (flows_at (place_of e) (flows_of ctx.bases (label_in at_env want e) ts)) (IsFlowAt (place_of e) flows)
  flowing want e labels ts flows v k l =
      subst (λ x. Lists (flows_at (place_of e) (flows_of ctx.bases x ts)) (IsFlowAt (place_of e) flows)) (sym v.label)
      (flows_found around (place_of e) (whole_label e labels) ts flows
      (flows_told around (whole_label e labels) ts flows v.well_formed k l))

  -- ---- stores

  -- at the store, and of the value
  stored_says : (os : List StoreOffer) → AreWellFormed ctx.bases (stored_types os)
      → (p : Place) (e : Expr) (labels : Labels e) (flows : FlowLabels)
      → Lawful ctx declared env (only_type os (stored_types os)) e labels → FlowsInto ctx.bases (whole_label e labels)
      (stored_types os) flows
      → Lists (stored_finds context at_env os p e) (λ f. IsFoundAt p (store_codes os) f
      ⊎ (Finds e labels f ⊎ IsFlowAt (place_of e) flows f))
  stored_says os k p e labels flows l fl =
      let want = only_type os (stored_types os) in
      let v = read want (only_well_formed around.context.bases os (stored_types os) k) e labels l in
      let xs = finds_in at_env want e in
      let ys = flows_at (place_of e) (flows_of ctx.bases (label_in at_env want e) (stored_types os)) in
      lists_both (codes_at p (store_codes os)) (xs ++ ys) (lists_codes p (store_codes os))
      (lists_both xs ys v.found (flowing want e labels (stored_types os) flows v k fl))

  -- the findings under labels of an assignment to a target other than a name
  abbrev StoreSays : (t : Target) → TargetLabels t → (e : Expr) → Labels e → FlowLabels → Finding → Type 0
  StoreSays t target e labels flows f = IsFlowAt (place_of e) flows f
      ⊎ (Finds e labels f ⊎ TargetFinds m ctx t target f)

  pub store_says : (t : Target) (target : TargetLabels t) (e : Expr) (labels : Labels e) (flows : FlowLabels)
      → LawfulStore m ctx declared env t target e labels flows → Lists (store_finds context at_env t e)
      (StoreSays t target e labels flows)
  store_says (to_name n) target e labels flows l = absurd l
  store_says (to_attribute p o field) target e labels flows l =
      let v = read None tt o target.object l.object in
      let os = attribute_offers m ctx declared field.text (type_of o target.object) in
      let k : AreWellFormed ctx.bases (stored_types os) = fields_stored ctx.bases ctx.classes ck.classes field.text
      (type_of o target.object) v.well_formed in
      let offers : os ≡ attribute_stores context field.text (label_in at_env None o).type =
      ap (λ x. attribute_stores context field.text x.type) (sym v.label) in
      let s = stored_says os k p e labels flows l.value l.flow in
      let xs = finds_in at_env None o in
      subst (λ q. Lists (xs ++ stored_finds context at_env q p e)
      (StoreSays (to_attribute p o field) target e labels flows)) offers
      (lists_same (xs ++ stored_finds context at_env os p e)
      (λ f y. elim y [
        | inl a ↦ inr (inr (inr a))
        | inr b ↦ elim b [
          | inl c ↦ inr (inr (inl (subst (λ cs. IsFoundAt p cs f) (sym l.codes) c)))
          | inr d ↦
              elim d [ inl u ↦ inr (inl u) | inr w ↦ inl w ]
        ]
      ])
      (λ f y. elim y [
        | inl w ↦ inr (inr (inr w))
        | inr b ↦ elim b [
          | inl u ↦ inr (inr (inl u))
          | inr c ↦
              elim c [ inl d ↦ inr (inl (subst (λ cs. IsFoundAt p cs f) l.codes d)) | inr a ↦ inl a ]
        ]
      ])
      (lists_both xs (stored_finds context at_env os p e) v.found s))
  store_says (to_index p o i) target e labels flows l =
      let v = read None tt o target.object l.object in
      let w = read None tt i target.key l.key in
      let os = index_offers m ctx declared (type_of o target.object) in
      let k : AreWellFormed ctx.bases (stored_types os) = items_stored ctx.bases (type_of o target.object)
      v.well_formed in
      let kk = keys_stored ctx.bases (type_of o target.object) v.well_formed in
      let offers : os ≡ index_stores context (label_in at_env None o).type = ap (λ x. index_stores context x.type)
      (sym v.label) in
      let s = stored_says os k p e labels flows l.value l.flow in
      let xs = finds_in at_env None o in
      let ys = finds_in at_env None i in
      let zs = flows_at (place_of i) (flows_of ctx.bases (label_in at_env None i) (store_index_types os)) in
      let key = flowing None i target.key (store_index_types os) target.key_flows w kk l.key_flow in
      subst
      (λ q.
      Lists (xs ++ (ys ++ (flows_at (place_of i) (flows_of ctx.bases (label_in at_env None i) (store_index_types q))
      ++ stored_finds context at_env q p e))) (StoreSays (to_index p o i) target e labels flows)) offers
      (lists_same (xs ++ (ys ++ (zs ++ stored_finds context at_env os p e)))
      (λ f y. elim y [
        | inl a ↦ inr (inr (inr (inr (inl a))))
        | inr b ↦ elim b [
          | inl c ↦ inr (inr (inr (inr (inr c))))
          | inr d ↦ elim d [
            | inl q ↦ inr (inr (inr (inl q)))
            | inr r ↦ elim r [
              | inl c ↦ inr (inr (inl (subst (λ cs. IsFoundAt p cs f) (sym l.codes) c)))
              | inr d ↦
                  elim d [ inl u ↦ inr (inl u) | inr w ↦ inl w ]
            ]
          ]
        ]
      ])
      (λ f y. elim y [
        | inl w ↦ inr (inr (inr (inr (inr w))))
        | inr b ↦ elim b [
          | inl u ↦ inr (inr (inr (inr (inl u))))
          | inr c ↦ elim c [
            | inl d ↦ inr (inr (inr (inl (subst (λ cs. IsFoundAt p cs f) l.codes d))))
            | inr r ↦ elim r [ inl q ↦ inr (inr (inl q)) | inr d ↦ elim d [ inl a ↦ inl a | inr c ↦ inr (inl c) ] ]
          ]
        ]
      ])
      (lists_both xs (ys ++ (zs ++ stored_finds context at_env os p e)) v.found
      (lists_both ys (zs ++ stored_finds context at_env os p e) w.found
      (lists_both zs (stored_finds context at_env os p e) key s))))

  -- ---- optional expressions and `return`

  pub option_says : (e : Option Expr) (labels : OptionLabels e) → LawfulOption m ctx declared returned env e labels
      → Lists (option_finds context at_env None e) (OptionFinds m ctx e labels)
  option_says None labels l = lists_nothing
  option_says (Some e) labels l = (read None tt e labels l).found

  pub return_says : (p : Place) (e : Option Expr) (labels : OptionLabels e) (flows : FlowLabels)
      → LawfulReturn m ctx declared returned env e labels flows → Lists (return_finds context at_env p e)
      (λ f. IsFlowAt (option_place m ctx p e) flows f ⊎ OptionFinds m ctx e labels f)
  return_says p None labels flows l =
      lists_same (return_finds context at_env p None) (λ f y. inl y) (λ f y. elim y [ inl a ↦ a | inr b ↦ absurd b ])
      (flows_found around p (clean NoneType) (returned ∷ []) flows
      (flows_told around (clean NoneType) (returned ∷ []) flows (tt, tt, omega arith) (kr, tt) l))
  return_says p (Some e) labels flows l =
      let v = read (Some returned) kr e labels l.0 in
      let xs = finds_in at_env (Some returned) e in
      let ys = flows_at (place_of e) (flows_of ctx.bases (label_in at_env (Some returned) e) (returned ∷ [])) in
      lists_same (xs ++ ys) (λ f y. elim y [ inl a ↦ inr a | inr b ↦ inl b ])
      (λ f y. elim y [ inl a ↦ inr a | inr b ↦ inl b ])
      (lists_both xs ys v.found (flowing (Some returned) e labels (returned ∷ []) flows v (kr, tt) l.1))
