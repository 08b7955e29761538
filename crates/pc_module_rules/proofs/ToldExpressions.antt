-- The notes of a walk in an expression, of its flows and in the iterable of a `for` hold exactly the flows with a code
-- under lawful labels, whether types are kept or not.
use Rattle.std.proofs.Common.{◌≡◌, List, [], ◌∷◌, ◌++◌, Option, Some, None, sym, ap, ◌∙◌, subst}
use Rattle.std.specs.Prelude.{Bool as Test, true, false, if◌then◌else◌}
use Rattle.pc_source.specs.declared.place.Place.{Place}
use Rattle.pc_tree.specs.declared.code.Code.{Code}
use Rattle.pc_tree.specs.Depth.{place_of}
use Rattle.pc_tree.specs.Tree.{Name, Expr, Exprs, Keywords, name, call, Target, to_name, to_attribute, to_index}
use Rattle.pc_scope.specs.Expressions.{is_instance_test}
use Rattle.pc_types.specs.Tree.{Tree, NoneType}
use Rattle.pc_types.specs.WellFormed.{IsWellFormed}
use Rattle.pc_flow.specs.Environment.{Env}
use Rattle.pc_flow.specs.WellFormed.{AreWellFormed, IsWellFormedEnv, IsWellFormedIfAny}
use Rattle.pc_rules.specs.Operations.{Label, clean, StoreOffer, store_codes, store_index_types, stored_types, only_type}
use Rattle.pc_rules.specs.Calls.{CallOffer, arguments_given, call_label, positional_seat, named_seat, is_range}
use Rattle.pc_rules.specs.Calls.{range_item, range_offers}
use Rattle.pc_rules.specs.Context.{FlowsInto}
use Rattle.pc_rules.specs.Labels.{FlowLabels, Labels, whole_label, type_of, is_of_scopes}
use Rattle.pc_rules.specs.Lawful.{Lawful}
use Rattle.pc_rules.specs.Computed.Expressions.{flows_of}
use Rattle.pc_rules.specs.Computed.Findings.{codes_at, flows_at}
use Rattle.pc_rules.specs.Computed.Standing.{Standing, label_in, finds_in, items_in, keywords_in, arguments_find}
use Rattle.pc_rules.specs.Computed.Standing.{keywords_find}
use Rattle.pc_rules.specs.Computed.Ranges.{range_finds}
use Rattle.pc_rules.proofs.WellFormed.{none_well_formed}
use Rattle.pc_module_rules.specs.StatementLabels.{OptionLabels, TargetLabels}
use Rattle.pc_module_rules.specs.Statements.{RangeOrValues, LawfulRange, LawfulValues, LawfulIterable, attribute_offers}
use Rattle.pc_module_rules.specs.Statements.{index_offers, LawfulStore, LawfulReturn, LawfulOption}
use Rattle.pc_module_rules.specs.Laws.Labellings.{Surroundings}
use Rattle.pc_module_rules.specs.Computed.Statements.{DeclaredTypes, type_table, BodyContext, attribute_stores, index_stores}
use Rattle.pc_module_rules.specs.Computed.Statements.{stored_finds, store_finds, iterable_finds, option_finds}
use Rattle.pc_module_rules.specs.Computed.Statements.{return_finds}
use Rattle.pc_module_rules.specs.Laws.Walks.{EnvFits}
use Rattle.pc_module_rules.proofs.StoredTypes.{fields_stored, items_stored, keys_stored, only_well_formed}
use Rattle.pc_module_rules.proofs.WalkedExpressions.{told, flows_told}
use Rattle.pc_module_rules.specs.FlowsOfExpressions.{coded_at, coded_in, coded_in_arguments}
use Rattle.pc_module_rules.specs.FlowsOfExpressions.{coded_in_keywords}
use Rattle.pc_module_rules.specs.FlowsOfStatements.{coded_in_option, coded_in_value, coded_in_target}
use Rattle.pc_module_rules.proofs.FirstFlows.{Tells, tell_none, tell_then, tell_behind, tell_grouped}
use Rattle.pc_module_rules.proofs.KeptWalks.{standing}
use Rattle.pc_module_rules.proofs.ReadExpressions.{found_is, label_is, range_read}
use Rattle.pc_module_rules.proofs.ToldFlows.{tell_codes, tell_flows, tell_arguments, tell_keywords, tell_expression}

module _ (code : Code) (own : is_of_scopes code ≡ false) (keeps : Test) (around : Surroundings) (returned : Tree)
    (kr : IsWellFormed around.context.bases returned) (declared : List Tree) (table : DeclaredTypes)
    (kt : IsWellFormedEnv around.context.bases table) (env : Env)
    (h : EnvFits around declared table env) where
  open around use {whole as m, context as ctx, context_well_formed as ck}

  abbrev context : BodyContext
  context = standing m ctx returned keeps

  abbrev at_env : Standing
  at_env = record { context = ctx; declared = type_table table; env = env; keeps = keeps }

  -- ---- expressions

  label_read : (want : Option Tree) → IsWellFormedIfAny ctx.bases want → (e : Expr) (labels : Labels e)
      → Lawful ctx declared env want e labels → label_in at_env want e ≡ whole_label e labels
  label_read want kw e labels l = label_is keeps around declared table kt env h want kw e labels l

  type_formed : (want : Option Tree) → IsWellFormedIfAny ctx.bases want → (e : Expr) (labels : Labels e)
      → Lawful ctx declared env want e labels → IsWellFormed ctx.bases (type_of e labels)
  type_formed want kw e labels l = (told around declared table kt env h want kw e labels l).well_formed

  pub tell_in : (want : Option Tree) → IsWellFormedIfAny ctx.bases want → (e : Expr) (labels : Labels e)
      → Lawful ctx declared env want e labels → Tells code (finds_in at_env want e) (coded_in code e labels)
  tell_in want kw e labels l = subst (λ xs. Tells code xs (coded_in code e labels))
      (sym (found_is keeps around declared table kt env h want kw e labels l))
      (tell_expression code own keeps e labels)

  -- its flows into several types
  pub tell_flowing : (want : Option Tree) (e : Expr) (labels : Labels e) (ts : List Tree) (flows : FlowLabels)
      → IsWellFormedIfAny ctx.bases want → Lawful ctx declared env want e labels → AreWellFormed ctx.bases ts
      → FlowsInto ctx.bases (whole_label e labels) ts flows
      → Tells code (flows_at (place_of e) (flows_of ctx.bases (label_in at_env want e) ts))
      (coded_at code (place_of e) flows)
  tell_flowing want e labels ts flows kw l ks fl =
      let is : flows_of ctx.bases (label_in at_env want e) ts ≡ flows = ap (λ x. flows_of ctx.bases x ts)
      (label_read want kw e labels l)
      ∙ flows_told around (whole_label e labels) ts flows (type_formed want kw e labels l) ks fl in
      subst (λ fs. Tells code (flows_at (place_of e) fs) (coded_at code (place_of e) flows)) (sym is)
      (tell_flows code own (place_of e) flows)

  -- an expression, and then its flows
  tell_both : (want : Option Tree) (e : Expr) (labels : Labels e) (ts : List Tree) (flows : FlowLabels)
      → IsWellFormedIfAny ctx.bases want → Lawful ctx declared env want e labels → AreWellFormed ctx.bases ts
      → FlowsInto ctx.bases (whole_label e labels) ts flows
      → Tells code (finds_in at_env want e ++ flows_at (place_of e) (flows_of ctx.bases (label_in at_env want e) ts))
      (coded_in code e labels ++ coded_at code (place_of e) flows)
  tell_both want e labels ts flows kw l ks fl =
      tell_then (finds_in at_env want e) (flows_at (place_of e) (flows_of ctx.bases (label_in at_env want e) ts))
      (coded_in code e labels) (coded_at code (place_of e) flows) (tell_in want kw e labels l)
      (tell_flowing want e labels ts flows kw l ks fl)

  -- ---- iterables of `for` loops

  -- a call of `range`
  module _ (p : Place) (n : Name) (args : Exprs) (kws : Keywords) where
    abbrev range : Expr
    range = call p (name n) args kws

    abbrev offers : List CallOffer
    offers = range_offers (arguments_given args kws)

    tell_range : (labels : Labels range) → LawfulRange m ctx declared env (name n) args kws p labels
        → Tells code (range_finds at_env p (name n) args kws) (coded_in code range labels)
    unfolding arguments_find keywords_find
    tell_range labels l =
        let read = range_read keeps around declared table kt env h p n args kws labels l in
        let seat = positional_seat offers in
        let named = named_seat offers in
        let is_test = is_instance_test (name n) args kws in
        let at_call = codes_at p (call_label ctx.bases offers).codes in
        let ds = coded_in_arguments code is_test args labels.arguments in
        let es = coded_in_keywords code kws labels.keywords in
        let by_position : Tells code (arguments_find at_env is_test seat args) ds = subst
        (λ x. Tells code (arguments_find at_env is_test seat args) (coded_in_arguments code is_test args x))
        (sym read.by_position) (tell_arguments code own keeps is_test args (items_in at_env seat args)) in
        let by_name : Tells code (keywords_find at_env named [] kws) es = subst
        (λ x. Tells code (keywords_find at_env named [] kws) (coded_in_keywords code kws x)) (sym read.by_name)
        (tell_keywords code own keeps kws (keywords_in at_env named [] kws)) in
        tell_then (arguments_find at_env is_test seat args) (keywords_find at_env named [] kws ++ at_call) ds es
        by_position (tell_behind (keywords_find at_env named [] kws) at_call es by_name
        (tell_codes code own p (call_label ctx.bases offers).codes))

    tell_call : (b : Test) (labels : Labels range) (item : Label)
        → RangeOrValues m ctx declared b (LawfulRange m ctx declared env (name n) args kws p labels
        × (item ≡ range_item (arguments_given args kws))) (LawfulValues m ctx declared env range labels item)
        → Tells code (if b then range_finds at_env p (name n) args kws else finds_in at_env None range)
        (coded_in code range labels)
    tell_call true labels item l = tell_range labels l.0
    tell_call false labels item l = tell_in None tt range labels l.0

  pub tell_iterable : (e : Expr) (labels : Labels e) (item : Label) → LawfulIterable m ctx declared env e labels item
      → Tells code (iterable_finds context at_env e) (coded_in code e labels)
  tell_iterable (call p (name n) args kws) labels item l = tell_call p n args kws (is_range (ctx.resolve n.text)) labels
      item l
  tell_iterable e labels item l = tell_in None tt e labels l.0

  -- ---- stores

  -- at the store, and of the value
  tell_stored : (os : List StoreOffer) → AreWellFormed ctx.bases (stored_types os)
      → (p : Place) (e : Expr) (labels : Labels e) (flows : FlowLabels)
      → Lawful ctx declared env (only_type os (stored_types os)) e labels → FlowsInto ctx.bases (whole_label e labels)
      (stored_types os) flows
      → Tells code (stored_finds context at_env os p e) (coded_in code e labels ++ coded_at code (place_of e) flows)
  tell_stored os ks p e labels flows l fl =
      let want = only_type os (stored_types os) in
      tell_then (codes_at p (store_codes os)) (finds_in at_env want e ++ flows_at (place_of e)
      (flows_of ctx.bases (label_in at_env want e) (stored_types os))) []
      (coded_in code e labels ++ coded_at code (place_of e) flows)
      (tell_codes code own p (store_codes os))
      (tell_both want e labels (stored_types os) flows (only_well_formed ctx.bases os (stored_types os) ks) l ks fl)

  pub tell_store : (t : Target) (target : TargetLabels t) (e : Expr) (labels : Labels e) (flows : FlowLabels)
      → LawfulStore m ctx declared env t target e labels flows
      → Tells code (store_finds context at_env t e) (coded_in_target code t target
      ++ (coded_in code e labels ++ coded_at code (place_of e) flows))
  tell_store (to_name n) target e labels flows l = absurd l
  tell_store (to_attribute p o field) target e labels flows l =
      let v = type_formed None tt o target.object l.object in
      let label = label_read None tt o target.object l.object in
      let os = attribute_offers m ctx declared field.text (type_of o target.object) in
      let ks : AreWellFormed ctx.bases (stored_types os) = fields_stored ctx.bases ctx.classes ck.classes field.text
      (type_of o target.object) v in
      let offers : os ≡ attribute_stores context field.text (label_in at_env None o).type =
      ap (λ x. attribute_stores context field.text x.type) (sym label) in
      let ds = coded_in code e labels ++ coded_at code (place_of e) flows in
      subst (λ q. Tells code (finds_in at_env None o ++ stored_finds context at_env q p e)
      (coded_in code o target.object ++ ds)) offers
      (tell_then (finds_in at_env None o) (stored_finds context at_env os p e) (coded_in code o target.object) ds
      (tell_in None tt o target.object l.object) (tell_stored os ks p e labels flows l.value l.flow))
  tell_store (to_index p o i) target e labels flows l =
      let v = type_formed None tt o target.object l.object in
      let label = label_read None tt o target.object l.object in
      let os = index_offers m ctx declared (type_of o target.object) in
      let ks : AreWellFormed ctx.bases (stored_types os) = items_stored ctx.bases (type_of o target.object)
      v in
      let kk = keys_stored ctx.bases (type_of o target.object) v in
      let offers : os ≡ index_stores context (label_in at_env None o).type = ap (λ x. index_stores context x.type)
      (sym label) in
      let xs = finds_in at_env None o in
      let ys = finds_in at_env None i in
      let zs = flows_at (place_of i) (flows_of ctx.bases (label_in at_env None i) (store_index_types os)) in
      let a = coded_in code o target.object in
      let b = coded_in code i target.key in
      let c = coded_at code (place_of i) target.key_flows in
      let ds = coded_in code e labels ++ coded_at code (place_of e) flows in
      let rest = ys ++ (zs ++ stored_finds context at_env os p e) in
      let told_rest : Tells code rest (b ++ (c ++ ds)) = tell_then ys (zs ++ stored_finds context at_env os p e) b
      (c ++ ds)
      (tell_in None tt i target.key l.key)
      (tell_then zs (stored_finds context at_env os p e) c ds (tell_flowing None i target.key (store_index_types os)
      target.key_flows tt l.key kk l.key_flow) (tell_stored os ks p e labels flows l.value l.flow)) in
      subst
      (λ q.
      Tells code
      (xs ++ (ys ++ (flows_at (place_of i) (flows_of ctx.bases (label_in at_env None i) (store_index_types q))
      ++ stored_finds context at_env q p e))) ((a ++ (b ++ c)) ++ ds)) offers
      (tell_grouped (xs ++ rest) a (b ++ c) ds (tell_then xs rest a ((b ++ c) ++ ds)
      (tell_in None tt o target.object l.object) (tell_grouped rest b c ds told_rest)))

  -- ---- optional expressions and `return`

  pub tell_option : (e : Option Expr) (labels : OptionLabels e) → LawfulOption m ctx declared returned env e labels
      → Tells code (option_finds context at_env None e) (coded_in_option code e labels)
  tell_option None labels l = tell_none
  tell_option (Some e) labels l = tell_in None tt e labels l

  pub tell_return : (p : Place) (e : Option Expr) (labels : OptionLabels e) (flows : FlowLabels)
      → LawfulReturn m ctx declared returned env e labels flows → Tells code (return_finds context at_env p e)
      (coded_in_value code p e labels flows)
  tell_return p None labels flows l =
      let is = flows_told around (clean NoneType) (returned ∷ []) flows (none_well_formed ctx.bases) (kr, tt) l in
      subst (λ fs. Tells code (flows_at p fs) (coded_at code p flows)) (sym is) (tell_flows code own p flows)
  tell_return p (Some e) labels flows l = tell_both (Some returned) e labels (returned ∷ []) flows kr l.0 (kr, tt) l.1
