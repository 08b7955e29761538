-- The computed labels of an expression in a walk are its lawful labels.
use Rattle.std.proofs.Common.{◌≡◌, List, [], ◌∷◌, ◌++◌, map, sym, ap, ◌∙◌, subst, append-nil, append_assoc}
use Rattle.std.specs.Prelude.{Bool as Test, true, false, if◌then◌else◌, Option, None}
use Rattle.pc_source.specs.declared.place.Place.{Place}
use Rattle.pc_tree.specs.Tree.{Name, Expr, Exprs, Keywords, name, call}
use Rattle.pc_scope.specs.Expressions.{is_instance_test}
use Rattle.pc_types.specs.Tree.{Tree, Any, Int, Object}
use Rattle.pc_types.specs.Shape.{members}
use Rattle.pc_types.specs.WellFormed.{IsWellFormed}
use Rattle.pc_types.specs.Computed.{static_test, assignable_test}
use Rattle.pc_flow.specs.Environment.{Env}
use Rattle.pc_flow.specs.WellFormed.{AreWellFormed, IsWellFormedEnv, IsWellFormedIfAny}
use Rattle.pc_notes.specs.Notes.{Note}
use Rattle.pc_rules.specs.Operations.{Label, clean, iterate_member, offers_label}
use Rattle.pc_rules.specs.Calls.{CallOffer, arguments_given, is_suited, call_label, positional_seat, named_seat}
use Rattle.pc_rules.specs.Calls.{is_range, range_item, range_offers, range_signature}
use Rattle.pc_rules.specs.Context.{FlowsInto}
use Rattle.pc_rules.specs.Labels.{FlowLabels, Labels, whole_label, type_of, Finds, IsFlowAt}
use Rattle.pc_rules.specs.Lawful.{Lawful}
use Rattle.pc_rules.specs.Computed.Expressions.{labels_of, flows_of}
use Rattle.pc_rules.specs.Computed.Findings.{codes_at, flows_at, notes_under}
use Rattle.pc_rules.specs.Computed.Standing.{Standing, label_in, finds_in, items_in, keywords_in, arguments_find}
use Rattle.pc_rules.specs.Computed.Standing.{keywords_find}
use Rattle.pc_rules.specs.Computed.Ranges.{range_finds}
use Rattle.pc_rules.proofs.One.{one, items_one, keywords_one, into_one}
use Rattle.pc_rules.proofs.WellFormed.{int_well_formed, object_well_formed}
use Rattle.pc_rules.proofs.Called.{CallsWellFormed, builtin_well_formed, called_well_formed, named_well_formed}
use Rattle.pc_rules.proofs.Called.{positional_well_formed}
use Rattle.pc_rules.proofs.ComputedFlows.{are_tests, flows_are_lawful}
use Rattle.pc_rules.proofs.ComputedLawful.{labels_are_lawful, items_lawful, keywords_lawful}
use Rattle.pc_module_rules.specs.Statements.{RangeOrValues, LawfulRange, LawfulValues, LawfulIterable}
use Rattle.pc_module_rules.specs.Laws.Labellings.{Surroundings}
use Rattle.pc_module_rules.specs.Computed.Statements.{DeclaredTypes, type_table, BodyContext, values_item, item_label_of}
use Rattle.pc_module_rules.specs.Computed.Statements.{iterable_finds}
use Rattle.pc_module_rules.specs.Laws.Walks.{EnvFits, body_context_in, Lists}
use Rattle.pc_module_rules.proofs.LabelledExpressions.{range_item_well_formed}
use Rattle.pc_module_rules.proofs.StoredTypes.{turns_well_formed}
use Rattle.pc_module_rules.proofs.WalkedFindings.{lists_expression, lists_flows}
use Rattle.pc_module_rules.proofs.WalkedTables.{types_well_formed}

module _ (around : Surroundings) where
  open around use {whole as m, context as ctx, context_well_formed as ck}

  -- ---- flows

  pub flows_told : (label : Label) (ts : List Tree) (flows : FlowLabels) → IsWellFormed ctx.bases label.type
      → AreWellFormed ctx.bases ts → FlowsInto ctx.bases label ts flows → flows_of ctx.bases label ts ≡ flows
  flows_told label ts flows k kt h = into_one ctx.bases label ts (flows_of ctx.bases label ts) flows
      (flows_are_lawful ctx.bases label ts ck.smaller k kt) h

  pub flows_found : (p : Place) (label : Label) (ts : List Tree) (flows : FlowLabels) → flows_of ctx.bases label ts
      ≡ flows → Lists (flows_at p (flows_of ctx.bases label ts)) (IsFlowAt p flows)
  flows_found p label ts flows e = subst (λ fs. Lists (flows_at p fs) (IsFlowAt p flows)) (sym e) (lists_flows p flows)

  module _ (declared : List Tree) (table : DeclaredTypes) (kt : IsWellFormedEnv ctx.bases table) (env : Env)
      (h : EnvFits around declared table env) where
    -- the standing of the expressions that the walk types
    abbrev pub here : Standing
    here = record { context = ctx; declared = type_table table; env = env; keeps = false }

    ds : AreWellFormed ctx.bases (type_table table)
    ds = types_well_formed ctx.bases table kt

    -- ---- expressions

    -- the walk reads the label of an expression, and what is found in it
    pub record ExpressionTold (want : Option Tree) (e : Expr) (labels : Labels e) : Type 0 where
      pub label : label_in here want e ≡ whole_label e labels
      pub found : Lists (finds_in here want e) (Finds e labels)
      pub well_formed : IsWellFormed ctx.bases (type_of e labels)

    pub told : (want : Option Tree) → IsWellFormedIfAny ctx.bases want → (e : Expr) (labels : Labels e)
        → Lawful ctx declared env want e labels → ExpressionTold want e labels
    unfolding label_in finds_in
    told want kw e labels l =
        let computed = labels_of ctx (type_table table) env want e in
        let k = labels_are_lawful ctx (type_table table) env want e ck ds h.well_formed kw in
        let q : computed ≡ labels = sym (one ctx declared (type_table table) env h.same want e labels computed l k.0) in
        record {
          label = ap (whole_label e) q;
          found = subst (λ x. Lists (notes_under false e computed) (Finds e x)) q (lists_expression e computed);
          well_formed = subst (λ x. IsWellFormed ctx.bases (type_of e x)) q k.1;
        }

    -- ---- iterables of `for` loops

    module _ (returned : Tree) where
      abbrev context : BodyContext
      context = body_context_in around returned

      -- the walk reads the label of a turn's item, and what is found in the iterable
      pub record IterableTold (e : Expr) (labels : Labels e) (item read : Label) (found : List Note) : Type 0 where
        pub item_is : read ≡ item
        pub found_is : Lists found (Finds e labels)
        pub well_formed : IsWellFormed ctx.bases item.type

      values_told : (e : Expr) (labels : Labels e) (item : Label) → LawfulValues m ctx declared env e labels item
          → IterableTold e labels item (values_item context here e) (finds_in here None e)
      values_told e labels item l =
          let v = told None tt e labels l.0 in
          record {
            item_is = ap (λ x. offers_label ctx.bases (map (iterate_member ctx.bases) (members x.type))) v.label
                ∙ sym l.1;
            found_is = v.found;
            well_formed = subst (λ x. IsWellFormed ctx.bases x.type) (sym l.1)
                (turns_well_formed ctx.bases ck.smaller (type_of e labels) v.well_formed);
          }

      -- a call of `range`
      module _ (p : Place) (n : Name) (args : Exprs) (kws : Keywords) where
        abbrev offers : List CallOffer
        offers = range_offers (arguments_given args kws)

        -- the labels that the walk has for it
        abbrev range_labels : Labels (call p (name n) args kws)
        range_labels = record {
          here = call_label ctx.bases offers;
          callee = clean Any;
          second = None;
          arguments = items_in here (positional_seat offers) args;
          keywords = keywords_in here (named_seat offers) [] kws;
        }

        moved : (a k c : List Note) → (a ++ (k ++ [])) ++ c ≡ a ++ (k ++ c)
        moved a k c = append_assoc a (k ++ []) c ∙ ap (λ x. a ++ (x ++ c)) (append-nil k)

        range_listed : notes_under false (call p (name n) args kws) range_labels ≡ range_finds here p (name n) args kws
        unfolding arguments_find keywords_find
        range_listed = moved (arguments_find here (is_instance_test (name n) args kws) (positional_seat offers) args)
            (keywords_find here (named_seat offers) [] kws) (codes_at p (call_label ctx.bases offers).codes)

        range_lawful : (labels : Labels (call p (name n) args kws)) → LawfulRange m ctx declared env (name n) args kws p
            labels → range_labels ≡ labels
        range_lawful labels l =
            let calls : CallsWellFormed ctx.bases offers = (
              called_well_formed ctx.bases (arguments_given args kws)
                  range_signature (builtin_well_formed ctx.bases (Int ∷ []) Object (int_well_formed ctx.bases, tt)
                  (object_well_formed ctx.bases)),
              tt,
            ) in
            let tests = are_tests ctx.bases ck.smaller in
            let a = items_lawful ctx (type_table table) ck ds (static_test ctx.bases) (assignable_test ctx.bases) tests
            env h.well_formed (positional_seat offers) (positional_well_formed ctx.bases offers calls) args in
            let k = keywords_lawful ctx (type_table table) ck ds (static_test ctx.bases) (assignable_test ctx.bases)
            tests env h.well_formed (named_seat offers) (named_well_formed ctx.bases offers calls) [] kws in
            let q = items_one ctx declared (type_table table) env h.same (positional_seat offers) args labels.arguments
            (items_in here (positional_seat offers) args) l.arguments a.lawful in
            let r = keywords_one ctx declared (type_table table) env h.same (named_seat offers) [] kws labels.keywords
            (keywords_in here (named_seat offers) [] kws) l.keywords k.lawful in
            λ i. record {
              here = sym l.here i;
              callee = sym l.callee i;
              second = sym l.second i;
              arguments = sym q i;
              keywords = sym r i;
            }

        call_told : (b : Test) (labels : Labels (call p (name n) args kws)) (item : Label)
            → RangeOrValues m ctx declared b (LawfulRange m ctx declared env (name n) args kws p labels
            × (item ≡ range_item (arguments_given args kws))) (LawfulValues m ctx declared env
            (call p (name n) args kws) labels item)
            → IterableTold (call p (name n) args kws) labels item (if b then range_item (arguments_given args kws)
            else values_item context here (call p (name n) args kws))
            (if b then range_finds here p (name n) args kws else finds_in here None (call p (name n) args kws))
        call_told true labels item l = record {
          item_is = sym l.1;
          found_is = subst (λ x. Lists (range_finds here p (name n) args kws) (Finds (call p (name n) args kws) x))
              (range_lawful labels l.0) (subst (λ xs. Lists xs (Finds (call p (name n) args kws) range_labels))
              range_listed (lists_expression (call p (name n) args kws) range_labels));
          well_formed = subst (λ x. IsWellFormed ctx.bases x.type) (sym l.1)
              (range_item_well_formed around (is_suited (arguments_given args kws) range_signature));
        }
        call_told false labels item l = values_told (call p (name n) args kws) labels item l

      pub iterable_told : (e : Expr) (labels : Labels e) (item : Label) → LawfulIterable m ctx declared env e labels
          item → IterableTold e labels item (item_label_of context here e) (iterable_finds context here e)
      iterable_told (call p (name n) args kws) labels item l = call_told p n args kws (is_range (ctx.resolve n.text))
          labels item l
      iterable_told e labels item l = values_told e labels item l
