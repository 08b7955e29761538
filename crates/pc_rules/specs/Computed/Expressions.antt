-- The labels of an expression computed by recursion on it: the computed twin of the rules of Lawful.antt, which the law
-- `labels_are_lawful` ties to them. They have to be believed for that law alone; programs cite them in their contracts.
-- Own rule of the profile.
use Rattle.std.specs.Prelude.{ℕ, suc, List, [], ◌∷◌, map, Bool as Test, true, false, Option, Some, None}
use Rattle.std.specs.List.{list_all}
use Rattle.pc_tree.specs.declared.code.Code.{Code}
use Rattle.pc_tree.specs.declared.code.Code.TheVariants.{A1, E12, E22}
use Rattle.pc_tree.specs.Tree.{Expr, Exprs, Entries, Keywords, name, number, text, truth, nothing, tuple, list, dict}
use Rattle.pc_tree.specs.Tree.{negative, negation, binary, compare, is_none, is_not_none, conjunction, disjunction}
use Rattle.pc_tree.specs.Tree.{attribute, index, call, no_exprs, more_exprs, no_entries, more_entries, no_keywords}
use Rattle.pc_tree.specs.Tree.{more_keywords}
use Rattle.pc_types.specs.Tree.{Tree, Int, Bool, Str, NoneType, DictOf, TupleOf}
use Rattle.pc_types.specs.Below.{Bases}
use Rattle.pc_types.specs.Shape.{members, trees}
use Rattle.pc_types.specs.WellFormed.{IsWellFormed}
use Rattle.pc_flow.specs.WellFormed.{IsWellFormedIfAny, IsWellFormedEnv, AreWellFormed}
use Rattle.pc_rules.specs.Laws.WellFormed.{ContextWellFormed, LabelsWellFormed}
use Rattle.pc_types.specs.Computed.{static_test, assignable_test}
use Rattle.pc_flow.specs.Environment.{Env, join_or_object, join_all}
use Rattle.pc_flow.specs.Narrowing.{narrow}
use Rattle.pc_rules.specs.Operations.{Label, clean, in_error, offers_label, operand_types, negative_member}
use Rattle.pc_rules.specs.Operations.{attribute_member, index_member, binary_label, display_label}
use Rattle.pc_rules.specs.Context.{Context, name_label, is_early}
use Rattle.pc_rules.specs.Calls.{Seat, arguments_given, count_exprs, positional_seat, named_seat}
use Rattle.pc_rules.specs.Labels.{FlowLabels, Labels, ItemsLabels, EntriesLabels, KeywordsLabels, whole_label, type_of}
use Rattle.pc_rules.specs.Labels.{with_label, item_types, key_types, value_types}
use Rattle.pc_rules.specs.Lawful.{KeyValue, list_item, dict_parts, tuple_parts, members_of_expected, item_seat}
use Rattle.pc_rules.specs.Lawful.{part_seat, list_label, key_seat, value_seat, int_literal, compare_label}
use Rattle.pc_rules.specs.Lawful.{compare_types}
use Rattle.pc_rules.specs.Lawful.{callee_of, whole_call_label, whole_second_code, keyword_seat, Lawful}

-- the code of a flow, given whether it is static and whether it is assignable
abbrev pub code_by : (static assignable : Test) → Option Code
code_by true y = None
code_by false true = Some A1
code_by false false = Some E12

module _ (static assignable : Tree → Tree → Test) where
  -- the code of a flow; none if the expression that flows is E03
  abbrev pub code_unless : (early : Test) → Tree → Tree → Option Code
  code_unless true s t = None
  code_unless false s t = code_by (static s t) (assignable s t)

  -- the flows of a labelled expression into several types
  abbrev pub flows_into : Label → List Tree → FlowLabels
  flows_into m [] = []
  flows_into m (t ∷ ts) = record {
    from = m.type;
    into = t;
    code = code_unless (is_early m.codes) m.type t;
  } ∷ flows_into m ts

-- the flows of a labelled expression, by the tests of static and of consistent subtyping: the computed twin of
-- FlowsInto
abbrev pub flows_of : Bases → Label → List Tree → FlowLabels
flows_of bases m ts = flows_into (static_test bases) (assignable_test bases) m ts

module _ (ctx : Context) (declared : List Tree) (static assignable : Tree → Tree → Test) where
  -- the label of a dict display without an expected dict, given whether all keys are int and whether all are str
  abbrev pub keys_label : (int str : Test) → (values : List Tree) → Label
  keys_label true str values = display_label (DictOf Int (join_all ctx.bases values))
  keys_label false true values = display_label (DictOf Str (join_all ctx.bases values))
  keys_label false false values = in_error E22

  -- the label of a dict display
  abbrev pub dict_label : Option KeyValue → (keys values : List Tree) → Label
  dict_label (Some kv) keys values = clean (DictOf kv.key kv.value)
  dict_label None [] values = in_error E22
  dict_label None (k ∷ ks) values =
      keys_label (list_all (λ t. static t Int) (k ∷ ks)) (list_all (λ t. static t Str) (k ∷ ks)) values

  abbrev mutual
    -- the labels of an expression, in an environment and with its expected type
    pub labels : Env → (want : Option Tree) → (e : Expr) → Labels e
    labels env want (name n) = name_label ctx env (ctx.resolve n.text)
    labels env want (number p digits) = clean Int
    labels env want (text p characters) = clean Str
    labels env want (truth p value) = clean Bool
    labels env want (nothing p) = clean NoneType
    labels env want (tuple p es) =
        let m = items_labels env (part_seat (tuple_parts (count_exprs es) (members_of_expected want))) es in
        record { here = display_label (TupleOf (trees (item_types es m))); items = m }
    labels env want (list p es) =
        let m = items_labels env (λ i. item_seat (list_item (members_of_expected want))) es in
        record { here = list_label ctx.bases (list_item (members_of_expected want)) (item_types es m); items = m }
    labels env want (dict p es) =
        let m = entries_labels env (key_seat (dict_parts (members_of_expected want)))
        (value_seat (dict_parts (members_of_expected want))) es in
        record {
          here = dict_label (dict_parts (members_of_expected want)) (key_types es m) (value_types es m);
          entries = m;
        }
    labels env want (negative p e) =
        let a = labels env None e in
        record { here = offers_label ctx.bases (map negative_member (members (type_of e a))); operand = a }
    labels env want (negation p e) = record { here = clean Bool; operand = labels env None e }
    labels env want (binary p o l r) =
        let a = labels env None l in
        let b = labels env None r in
        record { here = binary_label ctx.bases o (type_of l a) (type_of r b); left = a; right = b }
    labels env want (compare p o l r) =
        let a = labels env None l in
        let b = labels env None r in
        record {
          here = compare_label ctx.bases o (type_of l a) (type_of r b);
          left = a;
          right = b;
          flows = flows_into static assignable (whole_label l a) (compare_types o (type_of r b));
        }
    labels env want (is_none p e) = record { here = clean Bool; operand = labels env None e }
    labels env want (is_not_none p e) = record { here = clean Bool; operand = labels env None e }
    labels env want (conjunction p l r) =
        let a = labels env None l in
        let b = labels (narrow ctx.bases declared ctx.resolve true l env) None r in
        record { here = clean (join_or_object ctx.bases (type_of l a) (type_of r b)); left = a; right = b }
    labels env want (disjunction p l r) =
        let a = labels env None l in
        let b = labels (narrow ctx.bases declared ctx.resolve false l env) None r in
        record { here = clean (join_or_object ctx.bases (type_of l a) (type_of r b)); left = a; right = b }
    labels env want (attribute p e field) =
        let a = labels env None e in
        record {
          here = offers_label ctx.bases (map (attribute_member ctx.classes field.text) (members (type_of e a)));
          object = a;
        }
    labels env want (index p e i) =
        let a = labels env None e in
        let b = labels env None i in
        let os = map (index_member ctx.bases (int_literal i)) (members (type_of e a)) in
        record {
          here = offers_label ctx.bases os;
          object = a;
          key = b;
          flows = flows_into static assignable (whole_label i b) (operand_types os);
        }
    labels env want (call p c args kws) =
        let v = labels env None c in
        let callee = callee_of ctx env (arguments_given args kws) c v in
        let a = items_labels env (positional_seat callee.offers) args in
        record {
          here = whole_call_label ctx env callee.rule callee.offers args (item_types args a);
          callee = with_label c v callee.label;
          second = whole_second_code ctx callee.rule args a;
          arguments = a;
          keywords = keywords_labels env (named_seat callee.offers) [] kws;
        }

    -- the labels of items, each in the seat at its position
    pub items_labels : Env → (seat : ℕ → Seat) → (es : Exprs) → ItemsLabels es
    items_labels env seat no_exprs = tt
    items_labels env seat (more_exprs e es) =
        let a = labels env (seat 0).want e in
        record {
          first = a;
          flows = flows_into static assignable (whole_label e a) (seat 0).into;
          rest = items_labels env (λ i. seat (suc i)) es;
        }

    -- the labels of the entries of a dict, each key and each value in its seat
    pub entries_labels : Env → (key value : Seat) → (es : Entries) → EntriesLabels es
    entries_labels env x y no_entries = tt
    entries_labels env x y (more_entries key value es) =
        let a = labels env x.want key in
        let b = labels env y.want value in
        record {
          key = a;
          key_flows = flows_into static assignable (whole_label key a) x.into;
          value = b;
          value_flows = flows_into static assignable (whole_label value b) y.into;
          rest = entries_labels env x y es;
        }

    -- the labels of arguments by name
    pub keywords_labels : Env → (seat : List ℕ → Seat) → (before : List (List ℕ)) → (es : Keywords) → KeywordsLabels es
    keywords_labels env seat before no_keywords = tt
    keywords_labels env seat before (more_keywords parameter value es) =
        let a = labels env (keyword_seat seat before parameter).want value in
        record {
          first = a;
          flows =
              flows_into static assignable (whole_label value a) (keyword_seat seat before parameter).into;
          rest = keywords_labels env seat (parameter.text ∷ before) es;
        }

-- the labels of an expression, by the tests of static and of consistent subtyping: the computed twin of Lawful
abbrev pub labels_of : Context → (declared : List Tree) → Env → (want : Option Tree) → (e : Expr) → Labels e
labels_of ctx declared env want e = labels ctx declared (static_test ctx.bases) (assignable_test ctx.bases) env want e

-- the computed labels of an expression are lawful; its type, and every type in them, is well-formed
abbrev pub LabelsAreLawful : Type 0
LabelsAreLawful =
    (ctx : Context) (declared : List Tree) (env : Env) (want : Option Tree) (e : Expr) →
    ContextWellFormed ctx →
    AreWellFormed ctx.bases declared →
    IsWellFormedEnv ctx.bases env →
    IsWellFormedIfAny ctx.bases want →
    Lawful ctx declared env want e (labels_of ctx declared env want e)
    × IsWellFormed ctx.bases (type_of e (labels_of ctx declared env want e))
    × LabelsWellFormed ctx.bases e (labels_of ctx declared env want e)
