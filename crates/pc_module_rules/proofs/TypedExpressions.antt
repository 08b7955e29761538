-- The types that a walk notes in an expression, in the iterable of a `for` and in a target, if types are kept, are
-- those under lawful labels.
use Rattle.std.proofs.Common.{◌≡◌, List, [], ◌∷◌, ◌++◌, Option, Some, None, sym, ap, subst}
use Rattle.std.specs.Prelude.{Bool as Test, true, false, if◌then◌else◌, codes}
use Rattle.pc_source.specs.declared.place.Place.{Place}
use Rattle.pc_tree.specs.Depth.{place_of}
use Rattle.pc_tree.specs.Tree.{Name, Expr, Exprs, Keywords, name, call, Target, to_name, to_attribute, to_index}
use Rattle.pc_scope.specs.Expressions.{is_named, is_instance_test}
use Rattle.pc_types.specs.Tree.{Tree, NoneType}
use Rattle.pc_types.specs.WellFormed.{IsWellFormed}
use Rattle.pc_flow.specs.Environment.{Env}
use Rattle.pc_flow.specs.WellFormed.{IsWellFormedEnv, IsWellFormedIfAny}
use Rattle.pc_notes.specs.Notes.{Note}
use Rattle.pc_rules.specs.Operations.{Label, clean, StoreOffer, store_codes, store_index_types, stored_types, only_type}
use Rattle.pc_rules.specs.Calls.{CallOffer, arguments_given, call_label, positional_seat, named_seat, is_range}
use Rattle.pc_rules.specs.Calls.{range_item, range_offers}
use Rattle.pc_rules.specs.Labels.{FlowLabels, Labels, type_of}
use Rattle.pc_rules.specs.Lawful.{Lawful}
use Rattle.pc_rules.specs.Computed.Expressions.{flows_of}
use Rattle.pc_rules.specs.Computed.Findings.{codes_at, flows_at}
use Rattle.pc_rules.specs.Computed.Standing.{Standing, label_in, finds_in, items_in, keywords_in, arguments_find}
use Rattle.pc_rules.specs.Computed.Standing.{keywords_find}
use Rattle.pc_rules.specs.Computed.Ranges.{range_finds}
use Rattle.pc_module_rules.specs.StatementLabels.{OptionLabels, TargetLabels}
use Rattle.pc_module_rules.specs.Statements.{RangeOrValues, LawfulRange, LawfulValues, LawfulIterable, attribute_offers}
use Rattle.pc_module_rules.specs.Statements.{index_offers, LawfulStore, LawfulReturn, LawfulOption}
use Rattle.pc_module_rules.specs.Laws.Labellings.{Surroundings}
use Rattle.pc_module_rules.specs.Laws.Walks.{EnvFits}
use Rattle.pc_module_rules.specs.Computed.Statements.{DeclaredTypes, type_table, BodyContext, attribute_stores, index_stores}
use Rattle.pc_module_rules.specs.Computed.Statements.{stored_finds, store_finds, iterable_finds, option_finds}
use Rattle.pc_module_rules.specs.Computed.Statements.{return_finds}
use Rattle.pc_module_rules.proofs.StoredTypes.{fields_stored, items_stored, only_well_formed}
use Rattle.pc_module_rules.proofs.WalkedExpressions.{told}
use Rattle.pc_module_rules.specs.TypesOfExpressions.{types_in, types_in_arguments, types_in_keywords}
use Rattle.pc_module_rules.specs.TypesOfExpressions.{types_of_arguments}
use Rattle.pc_module_rules.specs.TypesOfStatements.{types_in_option, types_in_target, types_in_iterable}
use Rattle.pc_module_rules.proofs.KeptWalks.{standing}
use Rattle.pc_module_rules.proofs.NotedTypes.{Shows, show_nothing, show_both, show_behind, show_after, show_grouped}
use Rattle.pc_module_rules.proofs.NotedTypes.{show_codes, show_flows, show_arguments, show_keywords, show_expression}
use Rattle.pc_module_rules.proofs.ReadExpressions.{found_is, label_is, range_read}

-- in these surroundings a name means `range` exactly where it is this name
abbrev pub KnowsRange : Surroundings → Type 0
KnowsRange around = (n : Name) → is_range (around.context.resolve n.text) ≡ is_named (codes "range") (name n)

module _ (every : Test) (around : Surroundings) (knows : KnowsRange around) (returned : Tree)
    (kr : IsWellFormed around.context.bases returned) (declared : List Tree) (table : DeclaredTypes)
    (kt : IsWellFormedEnv around.context.bases table) (env : Env) (h : EnvFits around declared table env) where
  open around use {whole as m, context as ctx, context_well_formed as ck}

  abbrev context : BodyContext
  context = standing m ctx returned true

  abbrev at_env : Standing
  at_env = record { context = ctx; declared = type_table table; env = env; keeps = true }

  -- ---- expressions

  pub show_read : (want : Option Tree) → IsWellFormedIfAny ctx.bases want → (e : Expr) (labels : Labels e)
      → Lawful ctx declared env want e labels → Shows every (finds_in at_env want e) (types_in every e labels)
  show_read want kw e labels l = subst (λ (xs : List Note). Shows every xs (types_in every e labels))
      (sym (found_is true around declared table kt env h want kw e labels l)) (show_expression e labels)

  -- ---- iterables of `for` loops

  -- a call of `range`
  module _ (p : Place) (n : Name) (args : Exprs) (kws : Keywords) where
    abbrev range : Expr
    range = call p (name n) args kws

    abbrev offers : List CallOffer
    offers = range_offers (arguments_given args kws)

    show_range : (labels : Labels range) → LawfulRange m ctx declared env (name n) args kws p labels
        → Shows every (range_finds at_env p (name n) args kws) (types_of_arguments every range labels)
    unfolding arguments_find keywords_find
    show_range labels l =
        let read = range_read true around declared table kt env h p n args kws labels l in
        let seat = positional_seat offers in
        let named = named_seat offers in
        let is_test = is_instance_test (name n) args kws in
        let at_call = codes_at p (call_label ctx.bases offers).codes in
        let by_position : Shows every (arguments_find at_env is_test seat args) (types_in_arguments every is_test args
        labels.arguments) = subst (λ x. Shows every (arguments_find at_env is_test seat args)
        (types_in_arguments every is_test args x)) (sym read.by_position)
        (show_arguments is_test args (items_in at_env seat args)) in
        let by_name : Shows every (keywords_find at_env named [] kws) (types_in_keywords every kws labels.keywords) =
        subst (λ x. Shows every (keywords_find at_env named [] kws) (types_in_keywords every kws x)) (sym read.by_name)
        (show_keywords kws (keywords_in at_env named [] kws)) in
        show_both (arguments_find at_env is_test seat args) (keywords_find at_env named [] kws ++ at_call)
        (types_in_arguments every is_test args labels.arguments) (types_in_keywords every kws labels.keywords)
        by_position
        (show_behind (keywords_find at_env named [] kws) at_call (types_in_keywords every kws labels.keywords) by_name
        (show_codes p (call_label ctx.bases offers).codes))

    show_call : (b : Test) (labels : Labels range) (item : Label)
        → RangeOrValues m ctx declared b (LawfulRange m ctx declared env (name n) args kws p labels
        × (item ≡ range_item (arguments_given args kws))) (LawfulValues m ctx declared env range labels item)
        → Shows every (if b then range_finds at_env p (name n) args kws else finds_in at_env None range)
        (if b then types_of_arguments every range labels else types_in every range labels)
    show_call true labels item l = show_range labels l.0
    show_call false labels item l = show_read None tt range labels l.0

    show_known : (labels : Labels range) (item : Label) → LawfulIterable m ctx declared env range labels item
        → Shows every (iterable_finds context at_env range) (types_in_iterable every range labels)
    show_known labels item l = subst
        (λ (b : Test). Shows every (iterable_finds context at_env range)
        (if b then types_of_arguments every range labels else types_in every range labels)) (knows n)
        (show_call (is_range (ctx.resolve n.text)) labels item l)

  pub show_iterable : (e : Expr) (labels : Labels e) (item : Label) → LawfulIterable m ctx declared env e labels item
      → Shows every (iterable_finds context at_env e) (types_in_iterable every e labels)
  show_iterable (call p (name n) args kws) labels item l = show_known p n args kws labels item l
  show_iterable (call p c args kws) labels item l = show_read None tt (call p c args kws) labels l.0
  show_iterable e labels item l = show_read None tt e labels l.0

  -- ---- stores

  -- at the store, and of the value
  show_stored : (read os : List StoreOffer) → read ≡ os → (p : Place) (e : Expr) (labels : Labels e)
      → IsWellFormedIfAny ctx.bases (only_type os (stored_types os))
      → Lawful ctx declared env (only_type os (stored_types os)) e labels
      → Shows every (stored_finds context at_env read p e) (types_in every e labels)
  show_stored read os is p e labels kw l =
      let want = only_type os (stored_types os) in
      let flows = flows_of ctx.bases (label_in at_env want e) (stored_types os) in
      subst (λ (q : List StoreOffer). Shows every (stored_finds context at_env q p e) (types_in every e labels))
      (sym is)
      (show_after (codes_at p (store_codes os)) (finds_in at_env want e ++ flows_at (place_of e) flows)
      (types_in every e labels) (show_codes p (store_codes os))
      (show_behind (finds_in at_env want e) (flows_at (place_of e) flows) (types_in every e labels)
      (show_read want kw e labels l) (show_flows (place_of e) flows)))

  pub show_store : (t : Target) (target : TargetLabels t) (e : Expr) (labels : Labels e) (flows : FlowLabels)
      → LawfulStore m ctx declared env t target e labels flows
      → Shows every (store_finds context at_env t e) (types_in_target every t target ++ types_in every e labels)
  show_store (to_name n) target e labels flows l = absurd l
  show_store (to_attribute p o field) target e labels flows l =
      let v = told around declared table kt env h None tt o target.object l.object in
      let os = attribute_offers m ctx declared field.text (type_of o target.object) in
      let read = attribute_stores context field.text (label_in at_env None o).type in
      let is : read ≡ os = ap (λ (x : Label). attribute_stores context field.text x.type)
      (label_is true around declared table kt env h None tt o target.object l.object) in
      show_both (finds_in at_env None o) (stored_finds context at_env read p e) (types_in every o target.object)
      (types_in every e labels) (show_read None tt o target.object l.object)
      (show_stored read os is p e labels (only_well_formed ctx.bases os (stored_types os)
      (fields_stored ctx.bases ctx.classes ck.classes field.text (type_of o target.object) v.well_formed)) l.value)
  show_store (to_index p o i) target e labels flows l =
      let v = told around declared table kt env h None tt o target.object l.object in
      let os = index_offers m ctx declared (type_of o target.object) in
      let read = index_stores context (label_in at_env None o).type in
      let is : read ≡ os = ap (λ (x : Label). index_stores context x.type)
      (label_is true around declared table kt env h None tt o target.object l.object) in
      let xs = finds_in at_env None o in
      let ys = finds_in at_env None i in
      let fs = flows_of ctx.bases (label_in at_env None i) (store_index_types read) in
      let zs = flows_at (place_of i) fs in
      let rest = stored_finds context at_env read p e in
      let a = types_in every o target.object in
      let b = types_in every i target.key in
      let c = types_in every e labels in
      show_grouped (xs ++ (ys ++ (zs ++ rest))) a b c
      (show_both xs (ys ++ (zs ++ rest)) a (b ++ c) (show_read None tt o target.object l.object)
      (show_both ys (zs ++ rest) b c (show_read None tt i target.key l.key)
      (show_after zs rest c (show_flows (place_of i) fs)
      (show_stored read os is p e labels (only_well_formed ctx.bases os (stored_types os)
      (items_stored ctx.bases (type_of o target.object) v.well_formed)) l.value))))

  -- ---- optional expressions and `return`

  pub show_option : (e : Option Expr) (labels : OptionLabels e) → LawfulOption m ctx declared returned env e labels
      → Shows every (option_finds context at_env None e) (types_in_option every e labels)
  show_option None labels l = show_nothing
  show_option (Some e) labels l = show_read None tt e labels l

  pub show_return : (p : Place) (e : Option Expr) (labels : OptionLabels e) (flows : FlowLabels)
      → LawfulReturn m ctx declared returned env e labels flows
      → Shows every (return_finds context at_env p e) (types_in_option every e labels)
  show_return p None labels flows l = show_flows p (flows_of ctx.bases (clean NoneType) (returned ∷ []))
  show_return p (Some e) labels flows l =
      let fs = flows_of ctx.bases (label_in at_env (Some returned) e) (returned ∷ []) in
      show_behind (finds_in at_env (Some returned) e) (flows_at (place_of e) fs) (types_in every e labels)
      (show_read (Some returned) kr e labels l.0) (show_flows (place_of e) fs)
