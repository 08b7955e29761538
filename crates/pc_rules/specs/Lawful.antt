-- The lawful labelling of an expression: each part follows the rule of its form, which mentions only its neighbours.
-- Language Reference 3.12, 6 "Expressions"; own rules of the profile.
use Rattle.std.specs.Prelude.{◌≡◌, ℕ, suc, List, [], ◌∷◌, map, Bool as Test, true, false, if◌then◌else◌}
use Rattle.std.specs.Prelude.{nat_eq, Option, Some, None, All, slice_get}
use Rattle.pc_tree.specs.declared.tree.ComparisonOperator.{ComparisonOperator}
use Rattle.pc_tree.specs.declared.tree.ComparisonOperator.TheVariants.{Equal, NotEqual, In, NotIn}
use Rattle.pc_tree.specs.declared.code.Code.{Code}
use Rattle.pc_tree.specs.declared.code.Code.TheVariants.{E03, E22}
use Rattle.pc_tree.specs.Tree.{Name, Expr, Exprs, Entries, Keywords, name, number, text, truth, nothing, tuple, list}
use Rattle.pc_tree.specs.Tree.{dict, negative, negation, binary, compare, is_none, is_not_none, conjunction}
use Rattle.pc_tree.specs.Tree.{disjunction, attribute, index, call, no_exprs, more_exprs, no_entries, more_entries}
use Rattle.pc_tree.specs.Tree.{no_keywords, more_keywords}
use Rattle.pc_tree.specs.Digits.{number_behind}
use Rattle.pc_scope.specs.Resolution.{is_one_of}
use Rattle.pc_types.specs.Tree.{Tree, Any, Int, Bool, Str, NoneType, ListOf, DictOf, TupleOf}
use Rattle.pc_types.specs.Below.{Bases, Static}
use Rattle.pc_types.specs.Shape.{members, list_of_trees, trees, count}
use Rattle.pc_flow.specs.Environment.{Env, join_or_object, join_all}
use Rattle.pc_flow.specs.Narrowing.{narrow, test_of_argument, second_argument}
use Rattle.pc_rules.specs.Operations.{Label, clean, in_error, Offer, offers_label, operand_types, index_member}
use Rattle.pc_rules.specs.Operations.{attribute_member, contain_member, negative_member, binary_label, order_label}
use Rattle.pc_rules.specs.Operations.{display_label}
use Rattle.pc_rules.specs.Context.{Context, FlowsInto, name_label, is_early}
use Rattle.pc_rules.specs.Calls.{GivenArguments, arguments_given, count_exprs, CallOffer, CallRule, member_rule}
use Rattle.pc_rules.specs.Calls.{length_rule, test_rule, CalleeLabel, value_callee, name_callee, method_callee}
use Rattle.pc_rules.specs.Calls.{call_label, Seat, nowhere, positional_seat, named_seat, length_label, test_label}
use Rattle.pc_rules.specs.Calls.{second_code}
use Rattle.pc_rules.specs.Labels.{Labels, ItemsLabels, EntriesLabels, KeywordsLabels, whole_label, type_of, with_label}
use Rattle.pc_rules.specs.Labels.{item_types, key_types, value_types}

-- ---- the expected types of the parts of a display

-- the item type of the first list among members, if there is one
abbrev pub list_item : List Tree → Option Tree
list_item [] = None
list_item (ListOf t ∷ ms) = Some t
list_item (m ∷ ms) = list_item ms

-- the key type and the value type of a dict
pub record KeyValue : Type 0 where
  pub key : Tree
  pub value : Tree

-- the key and value types of the first dict among members, if there is one
abbrev pub dict_parts : List Tree → Option KeyValue
dict_parts [] = None
dict_parts (DictOf k v ∷ ms) = Some (record { key = k; value = v })
dict_parts (m ∷ ms) = dict_parts ms

-- the item types of the first tuple of this length among members, none if there is no such tuple
abbrev pub tuple_parts : ℕ → List Tree → List Tree
tuple_parts n [] = []
tuple_parts n (TupleOf ts ∷ ms) = if nat_eq (count ts) n then list_of_trees ts else tuple_parts n ms
tuple_parts n (m ∷ ms) = tuple_parts n ms

-- the members of an expected type, none if there is no such type
abbrev pub members_of_expected : Option Tree → List Tree
members_of_expected None = []
members_of_expected (Some t) = members t

-- the seat of an item with this expected type, which flows into it; without one it flows nowhere
abbrev pub item_seat : Option Tree → Seat
item_seat None = nowhere
item_seat (Some t) = record { want = Some t; into = t ∷ [] }

-- the seat of an item of a tuple: the type at its position is expected, and it flows nowhere
abbrev pub part_seat : List Tree → ℕ → Seat
part_seat ts i = record { want = slice_get ts i; into = [] }

-- the label of a list display: a list of the expected items, else of the join of its items, of Any if it is empty
abbrev pub list_label : Bases → Option Tree → List Tree → Label
list_label bases (Some t) types = clean (ListOf t)
list_label bases None [] = display_label (ListOf Any)
list_label bases None (t ∷ ts) = display_label (ListOf (join_all bases (t ∷ ts)))

-- the label of a dict display without an expected dict: its keys are int if all are static subtypes of int, str if all
-- are static subtypes of str, else it is in error
pub data DictLabel (bases : Bases) (values : List Tree) : List Tree → Label → Type 0 where
  no_keys : DictLabel bases values [] (in_error E22)
  int_keys : {k : Tree} {ks : List Tree} → All (λ t. Static bases t Int) (k ∷ ks)
      → DictLabel bases values (k ∷ ks) (display_label (DictOf Int (join_all bases values)))
  str_keys : {k : Tree} {ks : List Tree} → ¬ (All (λ t. Static bases t Int) (k ∷ ks))
      → All (λ t. Static bases t Str) (k ∷ ks)
      → DictLabel bases values (k ∷ ks) (display_label (DictOf Str (join_all bases values)))
  other_keys : {k : Tree} {ks : List Tree} → ¬ (All (λ t. Static bases t Int) (k ∷ ks))
      → ¬ (All (λ t. Static bases t Str) (k ∷ ks)) → DictLabel bases values (k ∷ ks) (in_error E22)

-- the label of a dict display: the expected dict, else the dict of its own keys and values
abbrev pub DictRule : Bases → Option KeyValue → (keys values : List Tree) → Label → Type 0
DictRule bases (Some kv) keys values m = m ≡ clean (DictOf kv.key kv.value)
DictRule bases None keys values m = DictLabel bases values keys m

-- the seat of a key of a dict display: the key type of the expected dict, or nowhere
abbrev pub key_seat : Option KeyValue → Seat
key_seat None = nowhere
key_seat (Some kv) = item_seat (Some kv.key)

-- the seat of a value of a dict display: the value type of the expected dict, or nowhere
abbrev pub value_seat : Option KeyValue → Seat
value_seat None = nowhere
value_seat (Some kv) = item_seat (Some kv.value)

-- ---- an int literal as an index

-- the value of an int literal, none for any other expression
abbrev pub int_literal : Expr → Option ℕ
int_literal (number p digits) = Some (number_behind 0 digits)
int_literal _ = None

-- ---- comparisons

-- the results of `in` on each member of its right operand's type
abbrev pub contain_offers : Tree → List Offer
contain_offers t = map contain_member (members t)

-- the label of a comparison: `==` and `!=` take anything; `in` follows its right operand
abbrev pub compare_label : Bases → ComparisonOperator → Tree → Tree → Label
compare_label bases Equal s t = clean Bool
compare_label bases NotEqual s t = clean Bool
compare_label bases In s t = offers_label bases (contain_offers t)
compare_label bases NotIn s t = offers_label bases (contain_offers t)
compare_label bases _ s t = order_label bases s t

-- the types that the left operand of a comparison flows into: with `in` and `not in` those that the right one takes,
-- else none
abbrev pub compare_types : ComparisonOperator → Tree → List Tree
compare_types In t = operand_types (contain_offers t)
compare_types NotIn t = operand_types (contain_offers t)
compare_types _ t = []

-- ---- calls

-- a callee: a name, a method of an object, or a value; in an initializer only a name is not E03
abbrev pub callee_of : Context → Env → GivenArguments → (e : Expr) → Labels e → CalleeLabel
callee_of ctx env g (name n) m = name_callee ctx env g (ctx.resolve n.text)
callee_of ctx env g (attribute p e field) m = if ctx.in_body then method_callee ctx g field.text (type_of e m.object)
    else value_callee (in_error E03)
callee_of ctx env g e m = if ctx.in_body then value_callee (whole_label e m) else value_callee (in_error E03)

-- the label of a call, by its rule
abbrev pub whole_call_label : Context → Env → CallRule → List CallOffer → (arguments : Exprs) → (types : List Tree)
    → Label
whole_call_label ctx env member_rule offers arguments types = call_label ctx.bases offers
whole_call_label ctx env length_rule offers arguments types = length_label ctx.bases types
whole_call_label ctx env test_rule offers arguments types = test_label ctx env arguments

-- whether an initializer names the second argument too early
abbrev pub early_second : (es : Exprs) → ItemsLabels es → Test
early_second no_exprs m = false
early_second (more_exprs e no_exprs) m = false
early_second (more_exprs e (more_exprs f rest)) m = is_early (whole_label f m.rest.first).codes

-- the code at the second argument of a call, which only a test of an instance has
abbrev pub whole_second_code : Context → CallRule → (arguments : Exprs) → ItemsLabels arguments → Option Code
whole_second_code ctx test_rule arguments m =
    second_code (test_of_argument ctx.resolve (second_argument arguments)) (early_second arguments m)
whole_second_code ctx _ arguments m = None

-- the seat of an argument by name, after arguments of these names: nowhere if its name is among them
abbrev pub keyword_seat : (List ℕ → Seat) → List (List ℕ) → Name → Seat
keyword_seat seat before n = if is_one_of n.text before then nowhere else seat n.text

-- ---- the rule of each form

module _ (ctx : Context) (declared : List Tree) where
  -- the labels of an expression, of items, of the entries of a dict, and of arguments by name are lawful
  abbrev mutual
    -- an expression follows the rule of its form, in an environment and with its expected type
    pub Lawful : Env → (want : Option Tree) → (e : Expr) → Labels e → Type 0
    Lawful env want (name n) m = m ≡ name_label ctx env (ctx.resolve n.text)
    Lawful env want (number p digits) m = m ≡ clean Int
    Lawful env want (text p characters) m = m ≡ clean Str
    Lawful env want (truth p value) m = m ≡ clean Bool
    Lawful env want (nothing p) m = m ≡ clean NoneType
    Lawful env want (tuple p es) m = record {
      items : LawfulItems env (part_seat (tuple_parts (count_exprs es) (members_of_expected want))) es m.items;
      here : m.here ≡ display_label (TupleOf (trees (item_types es m.items)));
    }
    Lawful env want (list p es) m = record {
      items : LawfulItems env (λ i. item_seat (list_item (members_of_expected want))) es m.items;
      here : m.here ≡ list_label ctx.bases (list_item (members_of_expected want)) (item_types es m.items);
    }
    Lawful env want (dict p es) m = record {
      entries : LawfulEntries env (key_seat (dict_parts (members_of_expected want)))
          (value_seat (dict_parts (members_of_expected want))) es m.entries;
      here : DictRule ctx.bases (dict_parts (members_of_expected want)) (key_types es m.entries)
          (value_types es m.entries) m.here;
    }
    Lawful env want (negative p e) m = record {
      operand : Lawful env None e m.operand;
      here : m.here ≡ offers_label ctx.bases (map negative_member (members (type_of e m.operand)));
    }
    Lawful env want (negation p e) m = record {
      operand : Lawful env None e m.operand;
      here : m.here ≡ clean Bool;
    }
    Lawful env want (binary p operator l r) m = record {
      left : Lawful env None l m.left;
      right : Lawful env None r m.right;
      here : m.here ≡ binary_label ctx.bases operator (type_of l m.left) (type_of r m.right);
    }
    Lawful env want (compare p operator l r) m = record {
      left : Lawful env None l m.left;
      right : Lawful env None r m.right;
      here : m.here ≡ compare_label ctx.bases operator (type_of l m.left) (type_of r m.right);
      flows : FlowsInto ctx.bases (whole_label l m.left) (compare_types operator (type_of r m.right)) m.flows;
    }
    Lawful env want (is_none p e) m = record {
      operand : Lawful env None e m.operand;
      here : m.here ≡ clean Bool;
    }
    Lawful env want (is_not_none p e) m = record {
      operand : Lawful env None e m.operand;
      here : m.here ≡ clean Bool;
    }
    -- the right operand of `and` is checked where the left one is true, that of `or` where it is false
    Lawful env want (conjunction p l r) m = record {
      left : Lawful env None l m.left;
      right : Lawful (narrow ctx.bases declared ctx.resolve true l env) None r m.right;
      here : m.here ≡ clean (join_or_object ctx.bases (type_of l m.left) (type_of r m.right));
    }
    Lawful env want (disjunction p l r) m = record {
      left : Lawful env None l m.left;
      right : Lawful (narrow ctx.bases declared ctx.resolve false l env) None r m.right;
      here : m.here ≡ clean (join_or_object ctx.bases (type_of l m.left) (type_of r m.right));
    }
    Lawful env want (attribute p e field) m = record {
      object : Lawful env None e m.object;
      here : m.here ≡ offers_label ctx.bases
          (map (attribute_member ctx.classes field.text) (members (type_of e m.object)));
    }
    Lawful env want (index p e i) m = record {
      object : Lawful env None e m.object;
      key : Lawful env None i m.key;
      here : m.here ≡ offers_label ctx.bases
          (map (index_member ctx.bases (int_literal i)) (members (type_of e m.object)));
      flows : FlowsInto ctx.bases (whole_label i m.key)
          (operand_types (map (index_member ctx.bases (int_literal i)) (members (type_of e m.object)))) m.flows;
    }
    -- the callee has the labels of a value, with its own label replaced by its label as a callee
    Lawful env want (call p c args kws) m = record {
      value : Labels c;
      lawful : Lawful env None c value;
      callee : m.callee ≡ with_label c value (callee_of ctx env (arguments_given args kws) c value).label;
      arguments : LawfulItems env
          (positional_seat (callee_of ctx env (arguments_given args kws) c value).offers) args m.arguments;
      keywords : LawfulKeywords env
          (named_seat (callee_of ctx env (arguments_given args kws) c value).offers) [] kws m.keywords;
      here : m.here ≡ whole_call_label ctx env (callee_of ctx env (arguments_given args kws) c value).rule
          (callee_of ctx env (arguments_given args kws) c value).offers args (item_types args m.arguments);
      second : m.second ≡ whole_second_code ctx
          (callee_of ctx env (arguments_given args kws) c value).rule args m.arguments;
    }

    -- items or arguments by position are lawful, each in the seat at its position
    pub LawfulItems : Env → (seat : ℕ → Seat) → (es : Exprs) → ItemsLabels es → Type 0
    LawfulItems env seat no_exprs m = Unit {0}
    LawfulItems env seat (more_exprs e rest) m = record {
      first : Lawful env (seat 0).want e m.first;
      flows : FlowsInto ctx.bases (whole_label e m.first) (seat 0).into m.flows;
      rest : LawfulItems env (λ i. seat (suc i)) rest m.rest;
    }

    -- the entries of a dict are lawful, each key and each value in its seat
    pub LawfulEntries : Env → (key value : Seat) → (es : Entries) → EntriesLabels es → Type 0
    LawfulEntries env k v no_entries m = Unit {0}
    LawfulEntries env k v (more_entries a b rest) m = record {
      key : Lawful env k.want a m.key;
      key_flows : FlowsInto ctx.bases (whole_label a m.key) k.into m.key_flows;
      value : Lawful env v.want b m.value;
      value_flows : FlowsInto ctx.bases (whole_label b m.value) v.into m.value_flows;
      rest : LawfulEntries env k v rest m.rest;
    }

    -- arguments by name are lawful; one whose name was given before flows nowhere
    pub LawfulKeywords : Env → (seat : List ℕ → Seat) → (before : List (List ℕ)) → (es : Keywords) → KeywordsLabels es
        → Type 0
    LawfulKeywords env seat before no_keywords m = Unit {0}
    LawfulKeywords env seat before (more_keywords parameter value rest) m = record {
      first : Lawful env (keyword_seat seat before parameter).want value m.first;
      flows : FlowsInto ctx.bases (whole_label value m.first) (keyword_seat seat before parameter).into m.flows;
      rest : LawfulKeywords env seat (parameter.text ∷ before) rest m.rest;
    }
