-- The label of an expression of each form and the notes in its parts, by the labels and notes of its parts.
use Rattle.std.proofs.Common.{◌≡◌, ℕ, suc, List, [], ◌∷◌, ◌++◌, refl, sym, ap, ◌∙◌, map, Option, None}
use Rattle.std.specs.Prelude.{Bool as Test, true, false, if◌then◌else◌}
use Rattle.pc_source.specs.declared.place.Place.{Place}
use Rattle.pc_tree.specs.declared.code.Code.TheVariants.{E03}
use Rattle.pc_tree.specs.declared.tree.BinaryOperator.{BinaryOperator}
use Rattle.pc_tree.specs.declared.tree.ComparisonOperator.{ComparisonOperator}
use Rattle.pc_tree.specs.Tree.{Name, Expr, Exprs, Entries, Keywords, name, number, text, truth, nothing, tuple, list}
use Rattle.pc_tree.specs.Tree.{dict, negative, negation, binary, compare, is_none, is_not_none, conjunction}
use Rattle.pc_tree.specs.Tree.{disjunction, attribute, index, call, no_exprs, more_exprs, no_entries, more_entries}
use Rattle.pc_tree.specs.Tree.{no_keywords, more_keywords}
use Rattle.pc_tree.specs.Depth.{place_of}
use Rattle.pc_types.specs.Tree.{Tree, Int, Bool, Str, NoneType, TupleOf}
use Rattle.pc_types.specs.Shape.{members, trees}
use Rattle.pc_types.specs.Computed.{static_test, assignable_test}
use Rattle.pc_flow.specs.Environment.{join_or_object}
use Rattle.pc_rules.specs.Operations.{Label, clean, in_error, offers_label, operand_types, negative_member}
use Rattle.pc_rules.specs.Operations.{attribute_member, index_member, binary_label, display_label}
use Rattle.pc_rules.specs.Context.{name_label, is_early}
use Rattle.pc_rules.specs.Calls.{Seat, GivenArguments, arguments_given, count_exprs, value_callee, name_callee}
use Rattle.pc_rules.specs.Calls.{method_callee, positional_seat}
use Rattle.pc_rules.specs.Labels.{Labels, ItemsLabels, whole_label, type_of, with_label}
use Rattle.pc_rules.specs.Lawful.{list_item, dict_parts, tuple_parts, members_of_expected, item_seat, part_seat}
use Rattle.pc_rules.specs.Lawful.{list_label, key_seat, value_seat, int_literal, compare_label, compare_types}
use Rattle.pc_rules.specs.Lawful.{whole_call_label, keyword_seat}
use Rattle.pc_rules.specs.Computed.Expressions.{flows_of, dict_label, labels_of}
use Rattle.pc_rules.specs.Computed.Findings.{label_at, shows, flows_at, notes_under, found_in_parts, found_in_items}
use Rattle.pc_rules.specs.Computed.Findings.{found_in_arguments}
use Rattle.pc_rules.specs.Computed.Standing.{Standing, narrowed_standing, label_in, finds_in, parts_find, items_in}
use Rattle.pc_rules.specs.Computed.Standing.{types_in, items_find, arguments_find, keys_in, value_types_in, entries_find}
use Rattle.pc_rules.specs.Computed.Standing.{keywords_find}
use Rattle.pc_rules.proofs.PartsKept.{parts_kept}
use Rattle.pc_expr.specs.Typing.{unnamed_callee, callee_in, callee_finds, second_is_early}

module _ (k : Standing) (want : Option Tree) where
  -- the findings in an expression: in its parts, and then at it
  pub finds_whole : (e : Expr) → finds_in k want e ≡ parts_find k want e
      ++ label_at k.keeps true (place_of e) (label_in k want e)
  unfolding finds_in parts_find label_in
  finds_whole e = refl

  -- ---- names and literals
  pub label_name : (n : Name) → label_in k want (name n) ≡ name_label k.context k.env (k.context.resolve n.text)
  unfolding label_in
  label_name n = refl

  pub parts_name : (n : Name) → parts_find k want (name n) ≡ []
  unfolding parts_find
  parts_name n = refl

  pub label_number : (p : Place) (d : List ℕ) → label_in k want (number p d) ≡ clean Int
  unfolding label_in
  label_number p d = refl

  pub parts_number : (p : Place) (d : List ℕ) → parts_find k want (number p d) ≡ []
  unfolding parts_find
  parts_number p d = refl

  pub label_text : (p : Place) (d : List ℕ) → label_in k want (text p d) ≡ clean Str
  unfolding label_in
  label_text p d = refl

  pub parts_text : (p : Place) (d : List ℕ) → parts_find k want (text p d) ≡ []
  unfolding parts_find
  parts_text p d = refl

  pub label_truth : (p : Place) (b : Test) → label_in k want (truth p b) ≡ clean Bool
  unfolding label_in
  label_truth p b = refl

  pub parts_truth : (p : Place) (b : Test) → parts_find k want (truth p b) ≡ []
  unfolding parts_find
  parts_truth p b = refl

  pub label_nothing : (p : Place) → label_in k want (nothing p) ≡ clean NoneType
  unfolding label_in
  label_nothing p = refl

  pub parts_nothing : (p : Place) → parts_find k want (nothing p) ≡ []
  unfolding parts_find
  parts_nothing p = refl

  -- ---- displays
  pub label_tuple : (p : Place) (es : Exprs) → label_in k want (tuple p es) ≡ display_label
      (TupleOf (trees (types_in k (part_seat (tuple_parts (count_exprs es) (members_of_expected want))) es)))
  unfolding label_in types_in
  label_tuple p es = refl

  pub parts_tuple : (p : Place) (es : Exprs) → parts_find k want (tuple p es) ≡ items_find k
      (part_seat (tuple_parts (count_exprs es) (members_of_expected want))) es
  unfolding parts_find items_find
  parts_tuple p es = refl

  pub expected_list_label : (p : Place) (es : Exprs) → label_in k want (list p es) ≡ list_label k.context.bases
      (list_item (members_of_expected want)) (types_in k (λ i. item_seat (list_item (members_of_expected want))) es)
  unfolding label_in types_in
  expected_list_label p es = refl

  pub parts_list : (p : Place) (es : Exprs) → parts_find k want (list p es) ≡ items_find k
      (λ i. item_seat (list_item (members_of_expected want))) es
  unfolding parts_find items_find
  parts_list p es = refl

  pub expected_dict_label : (p : Place) (es : Entries) → label_in k want (dict p es) ≡ dict_label k.context k.declared
      (static_test k.context.bases) (assignable_test k.context.bases) (dict_parts (members_of_expected want))
      (keys_in k (key_seat (dict_parts (members_of_expected want))) (value_seat (dict_parts (members_of_expected want)))
      es) (value_types_in k (key_seat (dict_parts (members_of_expected want)))
      (value_seat (dict_parts (members_of_expected want))) es)
  unfolding label_in keys_in value_types_in
  expected_dict_label p es = refl

  pub parts_dict : (p : Place) (es : Entries) → parts_find k want (dict p es) ≡ entries_find k
      (key_seat (dict_parts (members_of_expected want))) (value_seat (dict_parts (members_of_expected want))) es
  unfolding parts_find entries_find
  parts_dict p es = refl

  -- ---- operators of one operand
  pub negative_label : (p : Place) (e : Expr) → label_in k want (negative p e) ≡ offers_label k.context.bases
      (map negative_member (members (label_in k None e).type))
  unfolding label_in
  negative_label p e = refl

  pub parts_negative : (p : Place) (e : Expr) → parts_find k want (negative p e) ≡ finds_in k None e
  unfolding parts_find finds_in
  parts_negative p e = refl

  pub label_negation : (p : Place) (e : Expr) → label_in k want (negation p e) ≡ clean Bool
  unfolding label_in
  label_negation p e = refl

  pub parts_negation : (p : Place) (e : Expr) → parts_find k want (negation p e) ≡ finds_in k None e
  unfolding parts_find finds_in
  parts_negation p e = refl

  pub label_is_none : (p : Place) (e : Expr) → label_in k want (is_none p e) ≡ clean Bool
  unfolding label_in
  label_is_none p e = refl

  pub parts_is_none : (p : Place) (e : Expr) → parts_find k want (is_none p e) ≡ finds_in k None e
  unfolding parts_find finds_in
  parts_is_none p e = refl

  pub label_is_not_none : (p : Place) (e : Expr) → label_in k want (is_not_none p e) ≡ clean Bool
  unfolding label_in
  label_is_not_none p e = refl

  pub parts_is_not_none : (p : Place) (e : Expr) → parts_find k want (is_not_none p e) ≡ finds_in k None e
  unfolding parts_find finds_in
  parts_is_not_none p e = refl

  pub attribute_label : (p : Place) (e : Expr) (field : Name) → label_in k want (attribute p e field) ≡ offers_label
      k.context.bases (map (attribute_member k.context.classes field.text) (members (label_in k None e).type))
  unfolding label_in
  attribute_label p e field = refl

  pub parts_attribute : (p : Place) (e : Expr) (field : Name) → parts_find k want (attribute p e field)
      ≡ finds_in k None e
  unfolding parts_find finds_in
  parts_attribute p e field = refl

  -- ---- operators of two operands
  pub type_binary : (p : Place) (o : BinaryOperator) (l r : Expr) → label_in k want (binary p o l r) ≡ binary_label
      k.context.bases o (label_in k None l).type (label_in k None r).type
  unfolding label_in
  type_binary p o l r = refl

  pub parts_binary : (p : Place) (o : BinaryOperator) (l r : Expr) → parts_find k want (binary p o l r)
      ≡ finds_in k None l ++ finds_in k None r
  unfolding parts_find finds_in
  parts_binary p o l r = refl

  pub label_compare : (p : Place) (o : ComparisonOperator) (l r : Expr) → label_in k want (compare p o l r)
      ≡ compare_label k.context.bases o (label_in k None l).type (label_in k None r).type
  unfolding label_in
  label_compare p o l r = refl

  pub parts_compare : (p : Place) (o : ComparisonOperator) (l r : Expr) → parts_find k want (compare p o l r)
      ≡ finds_in k None l ++ (finds_in k None r ++ flows_at (place_of l)
      (flows_of k.context.bases (label_in k None l) (compare_types o (label_in k None r).type)))
  unfolding parts_find finds_in label_in
  parts_compare p o l r = refl

  pub label_conjunction : (p : Place) (l r : Expr) → label_in k want (conjunction p l r)
      ≡ clean (join_or_object k.context.bases (label_in k None l).type
      (label_in (narrowed_standing k true l) None r).type)
  unfolding label_in
  label_conjunction p l r = refl

  pub parts_conjunction : (p : Place) (l r : Expr) → parts_find k want (conjunction p l r) ≡ finds_in k None l
      ++ finds_in (narrowed_standing k true l) None r
  unfolding parts_find finds_in
  parts_conjunction p l r = refl

  pub label_disjunction : (p : Place) (l r : Expr) → label_in k want (disjunction p l r)
      ≡ clean (join_or_object k.context.bases (label_in k None l).type
      (label_in (narrowed_standing k false l) None r).type)
  unfolding label_in
  label_disjunction p l r = refl

  pub parts_disjunction : (p : Place) (l r : Expr) → parts_find k want (disjunction p l r) ≡ finds_in k None l
      ++ finds_in (narrowed_standing k false l) None r
  unfolding parts_find finds_in
  parts_disjunction p l r = refl

  pub type_index : (p : Place) (e i : Expr) → label_in k want (index p e i) ≡ offers_label k.context.bases
      (map (index_member k.context.bases (int_literal i)) (members (label_in k None e).type))
  unfolding label_in
  type_index p e i = refl

  pub parts_index : (p : Place) (e i : Expr) → parts_find k want (index p e i) ≡ finds_in k None e
      ++ (finds_in k None i ++ flows_at (place_of i) (flows_of k.context.bases (label_in k None i)
      (operand_types (map (index_member k.context.bases (int_literal i)) (members (label_in k None e).type)))))
  unfolding parts_find finds_in label_in
  parts_index p e i = refl

-- ---- items

arguments_are_items : (keeps : Test) (es : Exprs) (m : ItemsLabels es)
    → found_in_arguments keeps false es m ≡ found_in_items keeps es m
arguments_are_items keeps no_exprs m = refl
arguments_are_items keeps (more_exprs e rest) m = ap (λ fs. notes_under keeps e m.first
    ++ (flows_at (place_of e) m.flows ++ fs))
    (arguments_are_items keeps rest m.rest)

module _ (k : Standing) (seat : ℕ → Seat) where
  pub types_none : types_in k seat no_exprs ≡ []
  unfolding types_in
  types_none = refl

  pub types_more : (e : Expr) (es : Exprs) → types_in k seat (more_exprs e es) ≡ (label_in k (seat 0).want e).type
      ∷ types_in k (λ i. seat (suc i)) es
  unfolding types_in label_in
  types_more e es = refl

  pub items_none : items_find k seat no_exprs ≡ []
  unfolding items_find
  items_none = refl

  pub items_more : (e : Expr) (es : Exprs) → items_find k seat (more_exprs e es) ≡ finds_in k (seat 0).want e
      ++ (flows_at (place_of e) (flows_of k.context.bases (label_in k (seat 0).want e) (seat 0).into) ++ items_find k
      (λ i. seat (suc i)) es)
  unfolding items_find finds_in label_in
  items_more e es = refl

  -- the arguments of a call that is no test of an instance
  pub arguments_all : (es : Exprs) → arguments_find k false seat es ≡ items_find k seat es
  unfolding arguments_find items_find
  arguments_all es = arguments_are_items k.keeps es (items_in k seat es)

  -- the first argument of a test of an instance alone
  pub arguments_first : (e : Expr) (es : Exprs) → arguments_find k true seat (more_exprs e es)
      ≡ finds_in k (seat 0).want e
  unfolding arguments_find finds_in
  arguments_first e es = refl

  -- whether the second of several stands too early goes by the first of the others
  pub early_none : second_is_early k seat no_exprs ≡ false
  unfolding second_is_early
  early_none = refl

  pub early_one : (e : Expr) → second_is_early k seat (more_exprs e no_exprs) ≡ false
  unfolding second_is_early
  early_one e = refl

  pub early_two : (e f : Expr) (es : Exprs) → second_is_early k seat (more_exprs e (more_exprs f es))
      ≡ is_early (label_in k (seat (suc 0)).want f).codes
  unfolding second_is_early label_in
  early_two e f es = refl

module _ (k : Standing) (x y : Seat) where
  pub keys_none : keys_in k x y no_entries ≡ []
  unfolding keys_in
  keys_none = refl

  pub keys_more : (a b : Expr) (es : Entries) → keys_in k x y (more_entries a b es) ≡ (label_in k x.want a).type
      ∷ keys_in k x y es
  unfolding keys_in label_in
  keys_more a b es = refl

  pub values_none : value_types_in k x y no_entries ≡ []
  unfolding value_types_in
  values_none = refl

  pub values_more : (a b : Expr) (es : Entries) → value_types_in k x y (more_entries a b es) ≡ (label_in k y.want b).type
      ∷ value_types_in k x y es
  unfolding value_types_in label_in
  values_more a b es = refl

  pub entries_none : entries_find k x y no_entries ≡ []
  unfolding entries_find
  entries_none = refl

  pub entries_more : (a b : Expr) (es : Entries) → entries_find k x y (more_entries a b es) ≡
      finds_in k x.want a ++ (flows_at (place_of a) (flows_of k.context.bases (label_in k x.want a) x.into)
      ++ (finds_in k y.want b ++ (flows_at (place_of b) (flows_of k.context.bases (label_in k y.want b) y.into)
      ++ entries_find k x y es)))
  unfolding entries_find finds_in label_in
  entries_more a b es = refl

module _ (k : Standing) (seat : List ℕ → Seat) (before : List (List ℕ)) where
  pub keywords_none : keywords_find k seat before no_keywords ≡ []
  unfolding keywords_find
  keywords_none = refl

  pub keywords_more : (n : Name) (e : Expr) (es : Keywords) → keywords_find k seat before (more_keywords n e es) ≡
      finds_in k (keyword_seat seat before n).want e ++ (flows_at (place_of e)
      (flows_of k.context.bases (label_in k (keyword_seat seat before n).want e) (keyword_seat seat before n).into)
      ++ keywords_find k seat (n.text ∷ before) es)
  unfolding keywords_find finds_in label_in
  keywords_more n e es = refl

-- ---- callees and calls

label_put : (e : Expr) (m : Labels e) (here : Label) → whole_label e (with_label e m here) ≡ here
label_put (name n) m here = refl
label_put (number p d) m here = refl
label_put (text p d) m here = refl
label_put (truth p d) m here = refl
label_put (nothing p) m here = refl
label_put (tuple p es) m here = refl
label_put (list p es) m here = refl
label_put (dict p es) m here = refl
label_put (negative p e) m here = refl
label_put (negation p e) m here = refl
label_put (binary p o l r) m here = refl
label_put (compare p o l r) m here = refl
label_put (is_none p e) m here = refl
label_put (is_not_none p e) m here = refl
label_put (conjunction p l r) m here = refl
label_put (disjunction p l r) m here = refl
label_put (attribute p e field) m here = refl
label_put (index p e i) m here = refl
label_put (call p c args kws) m here = refl

module _ (k : Standing) (g : GivenArguments) where
  -- the findings in a callee: in its parts, and then at it
  pub callee_whole : (e : Expr) → callee_finds k g e ≡ parts_find k None e
      ++ label_at k.keeps (shows e) (place_of e) (callee_in k g e).label
  unfolding callee_finds parts_find
  callee_whole e =
      let m = labels_of k.context k.declared k.env None e in
      let here = (callee_in k g e).label in
      ap (λ fs. fs ++ label_at k.keeps (shows e) (place_of e) (whole_label e (with_label e m here)))
      (parts_kept k.keeps e m here)
      ∙ ap (λ (x : Label). found_in_parts k.keeps e m ++ label_at k.keeps (shows e) (place_of e) x) (label_put e m here)

  pub callee_name : (n : Name) → callee_in k g (name n) ≡ name_callee k.context k.env g (k.context.resolve n.text)
  unfolding callee_in
  callee_name n = refl

  pub callee_attribute : (p : Place) (e : Expr) (field : Name) → k.context.in_body ≡ true
      → callee_in k g (attribute p e field) ≡ method_callee k.context g field.text (label_in k None e).type
  unfolding callee_in label_in
  callee_attribute p e field h = ap (λ b. if b then method_callee k.context g field.text
      (type_of e (labels_of k.context k.declared k.env None e)) else value_callee (in_error E03)) h

  by_body : (b : Test) (m : Label) → (if b then value_callee m else value_callee (in_error E03)) ≡ unnamed_callee b m
  by_body true m = refl
  by_body false m = refl

  -- any other callee
  pub callee_other : (e : Expr) → shows e ≡ true → callee_in k g e ≡ unnamed_callee k.context.in_body
      (label_in k None e)
  unfolding callee_in label_in
  callee_other (name n) h = absurd (cc h)
  callee_other (number p d) h = by_body k.context.in_body (whole_label (number p d)
      (labels_of k.context k.declared k.env None (number p d)))
  callee_other (text p d) h = by_body k.context.in_body (whole_label (text p d)
      (labels_of k.context k.declared k.env None (text p d)))
  callee_other (truth p d) h = by_body k.context.in_body (whole_label (truth p d)
      (labels_of k.context k.declared k.env None (truth p d)))
  callee_other (nothing p) h = by_body k.context.in_body (whole_label (nothing p)
      (labels_of k.context k.declared k.env None (nothing p)))
  callee_other (tuple p es) h = by_body k.context.in_body (whole_label (tuple p es)
      (labels_of k.context k.declared k.env None (tuple p es)))
  callee_other (list p es) h = by_body k.context.in_body (whole_label (list p es)
      (labels_of k.context k.declared k.env None (list p es)))
  callee_other (dict p es) h = by_body k.context.in_body (whole_label (dict p es)
      (labels_of k.context k.declared k.env None (dict p es)))
  callee_other (negative p e) h = by_body k.context.in_body (whole_label (negative p e)
      (labels_of k.context k.declared k.env None (negative p e)))
  callee_other (negation p e) h = by_body k.context.in_body (whole_label (negation p e)
      (labels_of k.context k.declared k.env None (negation p e)))
  callee_other (binary p o l r) h = by_body k.context.in_body (whole_label (binary p o l r)
      (labels_of k.context k.declared k.env None (binary p o l r)))
  callee_other (compare p o l r) h = by_body k.context.in_body
      (whole_label (compare p o l r) (labels_of k.context k.declared k.env None (compare p o l r)))
  callee_other (is_none p e) h = by_body k.context.in_body (whole_label (is_none p e)
      (labels_of k.context k.declared k.env None (is_none p e)))
  callee_other (is_not_none p e) h = by_body k.context.in_body
      (whole_label (is_not_none p e) (labels_of k.context k.declared k.env None (is_not_none p e)))
  callee_other (conjunction p l r) h = by_body k.context.in_body
      (whole_label (conjunction p l r) (labels_of k.context k.declared k.env None (conjunction p l r)))
  callee_other (disjunction p l r) h = by_body k.context.in_body
      (whole_label (disjunction p l r) (labels_of k.context k.declared k.env None (disjunction p l r)))
  callee_other (attribute p e field) h = absurd (cc h)
  callee_other (index p e i) h = by_body k.context.in_body (whole_label (index p e i)
      (labels_of k.context k.declared k.env None (index p e i)))
  callee_other (call p c args kws) h = by_body k.context.in_body
      (whole_label (call p c args kws) (labels_of k.context k.declared k.env None (call p c args kws)))

  -- in an initializer an attribute too
  pub callee_early : (p : Place) (e : Expr) (field : Name) → k.context.in_body ≡ false
      → callee_in k g (attribute p e field) ≡ unnamed_callee k.context.in_body (label_in k None (attribute p e field))
  unfolding callee_in
  callee_early p e field h =
      ap (λ b. if b then method_callee k.context g field.text (type_of e (labels_of k.context k.declared k.env None e))
      else value_callee (in_error E03)) h
      ∙ sym (ap (λ b. unnamed_callee b (label_in k None (attribute p e field))) h)

module _ (k : Standing) (want : Option Tree) where
  pub type_whole_call : (p : Place) (c : Expr) (args : Exprs) (kws : Keywords) → label_in k want (call p c args kws) ≡
      whole_call_label k.context k.env (callee_in k (arguments_given args kws) c).rule
      (callee_in k (arguments_given args kws) c).offers args
      (types_in k (positional_seat (callee_in k (arguments_given args kws) c).offers) args)
  unfolding label_in callee_in types_in
  type_whole_call p c args kws = refl
