-- The computed labels of an expression are lawful, and its type is well-formed.
use Rattle.std.proofs.Common.{◌≡◌, ℕ, zero, suc, Bool as Test, true, false, List, [], ◌∷◌, Option, Some, None, refl}
use Rattle.std.proofs.Common.{sym, ◌∙◌, arith, subst}
use Rattle.std.proofs.lemmas.Bool.{and_parts, false≢true}
use Rattle.std.specs.List.{list_all}
use Rattle.std.specs.Prelude.{map, All}
use Rattle.pc_tree.specs.Tree.{Expr, Exprs, Entries, Keywords, name, number, text, truth, nothing, tuple, list, dict}
use Rattle.pc_tree.specs.Tree.{negative, negation, binary, compare, is_none, is_not_none, conjunction, disjunction}
use Rattle.pc_tree.specs.Tree.{attribute, index, call, no_exprs, more_exprs, no_entries, more_entries, no_keywords}
use Rattle.pc_tree.specs.Tree.{more_keywords}
use Rattle.pc_types.specs.Tree.{Tree, Int, Str}
use Rattle.pc_types.specs.Below.{Bases, Static}
use Rattle.pc_types.specs.Shape.{members}
use Rattle.pc_types.specs.WellFormed.{IsWellFormed}
use Rattle.pc_types.specs.Computed.{static_test, assignable_test}
use Rattle.pc_flow.specs.Environment.{Env, join_all}
use Rattle.pc_flow.specs.Narrowing.{narrow}
use Rattle.pc_flow.specs.WellFormed.{IsWellFormedIfAny, IsWellFormedEnv, AreWellFormed}
use Rattle.pc_flow.proofs.Conditions.{conditions_well_formed, join_object_well_formed}
use Rattle.pc_rules.specs.Operations.{Label, operand_types, negative_member, attribute_member, index_member}
use Rattle.pc_rules.specs.Context.{Context}
use Rattle.pc_rules.specs.Calls.{Seat, arguments_given, count_exprs, positional_seat, named_seat}
use Rattle.pc_rules.specs.Labels.{Labels, ItemsLabels, EntriesLabels, KeywordsLabels, whole_label, type_of, item_types}
use Rattle.pc_rules.specs.Labels.{key_types, value_types, with_label}
use Rattle.pc_rules.specs.Lawful.{list_item, KeyValue, dict_parts, tuple_parts, members_of_expected, item_seat}
use Rattle.pc_rules.specs.Lawful.{part_seat, key_seat, value_seat, int_literal, compare_types, callee_of, keyword_seat}
use Rattle.pc_rules.specs.Lawful.{DictLabel, no_keys, int_keys, str_keys, other_keys, DictRule, Lawful, LawfulItems}
use Rattle.pc_rules.specs.Lawful.{LawfulEntries, LawfulKeywords}
use Rattle.pc_rules.specs.Laws.WellFormed.{ContextWellFormed, LabelsWellFormed, ItemsWellFormed, EntriesWellFormed}
use Rattle.pc_rules.specs.Laws.WellFormed.{KeywordsWellFormed, ExpressionsHaveLabels, LawfulLabelsAreWellFormed}
use Rattle.pc_rules.specs.Computed.Expressions.{keys_label, dict_label, labels, items_labels, entries_labels}
use Rattle.pc_rules.specs.Computed.Expressions.{keywords_labels, labels_of, LabelsAreLawful}
use Rattle.pc_rules.proofs.WellFormed.{any_well_formed, int_well_formed, bool_well_formed, str_well_formed}
use Rattle.pc_rules.proofs.WellFormed.{none_well_formed, all_well_formed}
use Rattle.pc_rules.proofs.One.{one_labelling}
use Rattle.pc_rules.proofs.Names.{name_well_formed}
use Rattle.pc_rules.proofs.OfferedTypes.{each_well_formed, negative_well_formed, attribute_well_formed}
use Rattle.pc_rules.proofs.OfferedTypes.{index_well_formed, offers_well_formed, operands_well_formed}
use Rattle.pc_rules.proofs.OfferedTypes.{binary_well_formed}
use Rattle.pc_rules.proofs.Called.{SeatWellFormed, ObjectWellFormed, positional_well_formed, named_well_formed}
use Rattle.pc_rules.proofs.Called.{keyword_well_formed, callee_well_formed, whole_call_well_formed}
use Rattle.pc_rules.proofs.Called.{callee_label_well_formed}
use Rattle.pc_rules.proofs.Expected.{DictWellFormed, int_dict, str_dict, wanted_members, list_item_well_formed}
use Rattle.pc_rules.proofs.Expected.{list_seat_well_formed, list_well_formed, tuple_parts_well_formed}
use Rattle.pc_rules.proofs.Expected.{part_seat_well_formed, tuple_well_formed, dict_parts_well_formed}
use Rattle.pc_rules.proofs.Expected.{key_seat_well_formed, value_seat_well_formed, compare_well_formed}
use Rattle.pc_rules.proofs.Expected.{compare_types_well_formed}
use Rattle.pc_rules.proofs.ComputedFlows.{AreTests, into_is, flows_well_formed, are_tests}

-- the labels with another well-formed one for the expression itself
with_well_formed : (bases : Bases) (e : Expr) (m : Labels e) (here : Label) → IsWellFormed bases here.type
    → LabelsWellFormed bases e m → LabelsWellFormed bases e (with_label e m here)
with_well_formed bases (name n) m here h k = h
with_well_formed bases (number p digits) m here h k = h
with_well_formed bases (text p characters) m here h k = h
with_well_formed bases (truth p value) m here h k = h
with_well_formed bases (nothing p) m here h k = h
with_well_formed bases (tuple p es) m here h k = (h, k.1)
with_well_formed bases (list p es) m here h k = (h, k.1)
with_well_formed bases (dict p es) m here h k = (h, k.1)
with_well_formed bases (negative p e) m here h k = (h, k.1)
with_well_formed bases (negation p e) m here h k = (h, k.1)
with_well_formed bases (binary p o l r) m here h k = (h, k.1, k.2)
with_well_formed bases (compare p o l r) m here h k = (h, k.1, k.2, k.3)
with_well_formed bases (is_none p e) m here h k = (h, k.1)
with_well_formed bases (is_not_none p e) m here h k = (h, k.1)
with_well_formed bases (conjunction p l r) m here h k = (h, k.1, k.2)
with_well_formed bases (disjunction p l r) m here h k = (h, k.1, k.2)
with_well_formed bases (attribute p e field) m here h k = (h, k.1)
with_well_formed bases (index p e i) m here h k = (h, k.1, k.2, k.3)
with_well_formed bases (call p c args kws) m here h k = (h, k.1, k.2, k.3)

module _ (ctx : Context) (declared : List Tree) (ck : ContextWellFormed ctx) (dk : AreWellFormed ctx.bases declared)
    (static assignable : Tree → Tree → Test) (tests : AreTests ctx.bases static assignable) where
  -- all keys are static to a type, or not all are
  all_of : (u : Tree) → IsWellFormed ctx.bases u → (ts : List Tree) → AreWellFormed ctx.bases ts
      → list_all (λ t. static t u) ts ≡ true → All (λ t. Static ctx.bases t u) ts
  all_of u k [] h e i d l = absurd (omega (arith, l))
  all_of u k (t ∷ ts) h e zero d l = (tests.of_static t u h.0.0 k.0).0
      (and_parts (static t u) (list_all (λ t. static t u) ts) e).0
  all_of u k (t ∷ ts) h e (suc i) d l = all_of u k ts h.1 (and_parts (static t u) (list_all (λ t. static t u) ts) e).1 i
      d (omega (arith, l))

  of_all : (u : Tree) → IsWellFormed ctx.bases u → (ts : List Tree) → AreWellFormed ctx.bases ts
      → All (λ t. Static ctx.bases t u) ts → list_all (λ t. static t u) ts ≡ true
  of_all u k [] h a = refl
  of_all u k (t ∷ ts) h a = rw ((tests.of_static t u h.0.0 k.0).1 (a 0 t (omega arith)))
      (of_all u k ts h.1 (λ i d l. a (suc i) d (omega (arith, l))))

  not_all : (u : Tree) → IsWellFormed ctx.bases u → (ts : List Tree) → AreWellFormed ctx.bases ts
      → list_all (λ t. static t u) ts ≡ false → All (λ t. Static ctx.bases t u) ts → ⊥
  not_all u k ts h e a = false≢true (sym e ∙ of_all u k ts h a)

  keys_ruled : (k : Tree) (ks values : List Tree) → AreWellFormed ctx.bases (k ∷ ks) → AreWellFormed ctx.bases values
      → (x y : Test) → list_all (λ t. static t Int) (k ∷ ks) ≡ x → list_all (λ t. static t Str) (k ∷ ks) ≡ y
      → DictLabel ctx.bases values (k ∷ ks) (keys_label ctx declared static assignable x y values)
      × IsWellFormed ctx.bases (keys_label ctx declared static assignable x y values).type
  keys_ruled k ks values h v true y e f = (
    int_keys (all_of Int (int_well_formed ctx.bases) (k ∷ ks) h e),
    int_dict ctx.bases ck.smaller (join_all ctx.bases values) (all_well_formed ctx.bases ck.smaller values v),
  )
  keys_ruled k ks values h v false true e f = (
    str_keys (not_all Int (int_well_formed ctx.bases) (k ∷ ks) h e)
        (all_of Str (str_well_formed ctx.bases) (k ∷ ks) h f),
    str_dict ctx.bases ck.smaller (join_all ctx.bases values)
        (all_well_formed ctx.bases ck.smaller values v),
  )
  keys_ruled k ks values h v false false e f = (
    other_keys (not_all Int (int_well_formed ctx.bases) (k ∷ ks) h e)
        (not_all Str (str_well_formed ctx.bases) (k ∷ ks) h f),
    any_well_formed ctx.bases,
  )

  ruled : (kv : Option KeyValue) (keys values : List Tree) → DictWellFormed ctx.bases kv → AreWellFormed ctx.bases keys
      → AreWellFormed ctx.bases values → DictRule ctx.bases kv keys values
      (dict_label ctx declared static assignable kv keys values)
      × IsWellFormed ctx.bases (dict_label ctx declared static assignable kv keys values).type
  ruled (Some kv) keys values h k v = (refl, h)
  ruled None [] values h k v = (no_keys, any_well_formed ctx.bases)
  ruled None (t ∷ ts) values h k v = keys_ruled t ts values k v (list_all (λ u. static u Int) (t ∷ ts))
      (list_all (λ u. static u Str) (t ∷ ts)) refl refl

  -- the labels of an expression, of items, of entries and of arguments by name
  abbrev labels_here : Env → Option Tree → (e : Expr) → Labels e
  labels_here env want e = labels ctx declared static assignable env want e

  -- the labels of items in this context
  abbrev items_here : Env → (ℕ → Seat) → (es : Exprs) → ItemsLabels es
  items_here env seat es = items_labels ctx declared static assignable env seat es

  -- the labels of entries in this context
  abbrev entries_here : Env → Seat → Seat → (es : Entries) → EntriesLabels es
  entries_here env x y es = entries_labels ctx declared static assignable env x y es

  -- the labels of arguments by name in this context
  abbrev keywords_here : Env → (List ℕ → Seat) → List (List ℕ) → (es : Keywords) → KeywordsLabels es
  keywords_here env seat before es = keywords_labels ctx declared static assignable env seat before es

  -- they are lawful, and the type is well-formed; so is the type of the object of an attribute, which a call of it
  -- reads
  pub record AreLawful (env : Env) (want : Option Tree) (e : Expr) : Type 0 where
    pub lawful : Lawful ctx declared env want e (labels_here env want e)
    pub well_formed : IsWellFormed ctx.bases (type_of e (labels_here env want e))
    pub each : LabelsWellFormed ctx.bases e (labels_here env want e)
    pub object : ObjectWellFormed ctx ck e (labels_here env want e)

  -- likewise for items
  pub record ItemsLawful (env : Env) (seat : ℕ → Seat) (es : Exprs) : Type 0 where
    pub lawful : LawfulItems ctx declared env seat es (items_here env seat es)
    pub well_formed : AreWellFormed ctx.bases (item_types es (items_here env seat es))
    pub each : ItemsWellFormed ctx.bases es (items_here env seat es)

  -- for the entries of a dict
  pub record EntriesLawful (env : Env) (key value : Seat) (es : Entries) : Type 0 where
    pub lawful : LawfulEntries ctx declared env key value es (entries_here env key value es)
    pub keys : AreWellFormed ctx.bases (key_types es (entries_here env key value es))
    pub values : AreWellFormed ctx.bases (value_types es (entries_here env key value es))
    pub each : EntriesWellFormed ctx.bases es (entries_here env key value es)

  -- and for arguments by name
  pub record KeywordsLawful (env : Env) (seat : List ℕ → Seat) (before : List (List ℕ)) (es : Keywords) : Type 0 where
    pub lawful : LawfulKeywords ctx declared env seat before es (keywords_here env seat before es)
    pub each : KeywordsWellFormed ctx.bases es (keywords_here env seat before es)

  mutual
    pub labels_lawful : (env : Env) → IsWellFormedEnv ctx.bases env → (want : Option Tree)
        → IsWellFormedIfAny ctx.bases want → (e : Expr) → AreLawful env want e
    labels_lawful env k want w (name n) = record {
      lawful = refl;
      well_formed = name_well_formed ctx ck env k
          (ctx.resolve n.text);
      each = name_well_formed ctx ck env k (ctx.resolve n.text);
      object = tt;
    }
    labels_lawful env k want w (number p digits) = record {
      lawful = refl;
      well_formed = int_well_formed ctx.bases;
      each = int_well_formed ctx.bases;
      object = tt;
    }
    labels_lawful env k want w (text p characters) = record {
      lawful = refl;
      well_formed = str_well_formed ctx.bases;
      each = str_well_formed ctx.bases;
      object = tt;
    }
    labels_lawful env k want w (truth p value) = record {
      lawful = refl;
      well_formed = bool_well_formed ctx.bases;
      each = bool_well_formed ctx.bases;
      object = tt;
    }
    labels_lawful env k want w (nothing p) = record {
      lawful = refl;
      well_formed = none_well_formed ctx.bases;
      each =
          none_well_formed ctx.bases;
      object = tt;
    }
    labels_lawful env k want w (tuple p es) =
        let ts = tuple_parts (count_exprs es) (members_of_expected want) in
        let h = tuple_parts_well_formed ctx.bases (count_exprs es) (members_of_expected want)
        (wanted_members ctx.bases want w) in
        let m = items_lawful env k (part_seat ts) (part_seat_well_formed ctx.bases ts h) es in
        let t : IsWellFormed ctx.bases (type_of (tuple p es) (labels_here env want (tuple p es))) =
        tuple_well_formed ctx.bases (item_types es (items_here env (part_seat ts) es)) m.well_formed in
        record {
          lawful = record { items = m.lawful; here = refl };
          well_formed = t;
          each = (t, m.each);
          object = tt;
        }
    labels_lawful env k want w (list p es) =
        let item = list_item (members_of_expected want) in
        let h = list_item_well_formed ctx.bases (members_of_expected want) (wanted_members ctx.bases want w) in
        let m = items_lawful env k (λ i. item_seat item) (λ i. list_seat_well_formed ctx.bases item h) es in
        let t : IsWellFormed ctx.bases (type_of (list p es) (labels_here env want (list p es))) =
        list_well_formed ctx.bases ck.smaller item (item_types es (items_here env (λ i. item_seat item) es)) h
        m.well_formed in
        record {
          lawful = record { items = m.lawful; here = refl };
          well_formed = t;
          each = (t, m.each);
          object = tt;
        }
    labels_lawful env k want w (dict p es) =
        let kv = dict_parts (members_of_expected want) in
        let h = dict_parts_well_formed ctx.bases (members_of_expected want) (wanted_members ctx.bases want w) in
        let m = entries_lawful env k (key_seat kv) (key_seat_well_formed ctx.bases kv h) (value_seat kv)
        (value_seat_well_formed ctx.bases kv h) es in
        let r = ruled kv (key_types es (entries_here env (key_seat kv) (value_seat kv) es))
        (value_types es (entries_here env (key_seat kv) (value_seat kv) es)) h m.keys m.values in
        let t : IsWellFormed ctx.bases (type_of (dict p es) (labels_here env want (dict p es))) = r.1 in
        record {
          lawful = record { entries = m.lawful; here = r.0 };
          well_formed = t;
          each = (t, m.each);
          object = tt;
        }
    labels_lawful env k want w (negative p e) =
        let a = labels_lawful env k None tt e in
        let t : IsWellFormed ctx.bases (type_of (negative p e) (labels_here env want (negative p e))) =
        offers_well_formed ctx.bases ck.smaller _ (each_well_formed ctx.bases negative_member
        (negative_well_formed ctx.bases) (type_of e (labels_here env None e)) a.well_formed) in
        record {
          lawful = record { operand = a.lawful; here = refl };
          well_formed = t;
          each = (t, a.each);
          object = tt;
        }
    labels_lawful env k want w (negation p e) =
        let a = labels_lawful env k None tt e in
        let t : IsWellFormed ctx.bases (type_of (negation p e) (labels_here env want (negation p e))) =
        bool_well_formed ctx.bases in
        record { lawful = record { operand = a.lawful; here = refl }; well_formed = t; each = (t, a.each); object = tt }
    labels_lawful env k want w (binary p o l r) =
        let a = labels_lawful env k None tt l in
        let b = labels_lawful env k None tt r in
        let t : IsWellFormed ctx.bases (type_of (binary p o l r) (labels_here env want (binary p o l r))) =
        binary_well_formed ctx.bases ck.smaller o (type_of l (labels_here env None l))
        (type_of r (labels_here env None r)) in
        record {
          lawful = record { left = a.lawful; right = b.lawful; here = refl };
          well_formed = t;
          each = (t, a.each, b.each);
          object = tt;
        }
    labels_lawful env k want w (compare p o l r) =
        let a = labels_lawful env k None tt l in
        let b = labels_lawful env k None tt r in
        let f = into_is ctx.bases static assignable tests (whole_label l (labels_here env None l))
        (compare_types o (type_of r (labels_here env None r))) a.well_formed
        (compare_types_well_formed ctx.bases o (type_of r (labels_here env None r)) b.well_formed) in
        let fw = flows_well_formed ctx.bases static assignable tests (whole_label l (labels_here env None l))
        (compare_types o (type_of r (labels_here env None r))) a.well_formed
        (compare_types_well_formed ctx.bases o (type_of r (labels_here env None r)) b.well_formed) in
        let t : IsWellFormed ctx.bases (type_of (compare p o l r) (labels_here env want (compare p o l r))) =
        compare_well_formed ctx.bases ck.smaller o (type_of l (labels_here env None l))
        (type_of r (labels_here env None r)) b.well_formed in
        record {
          lawful = record { left = a.lawful; right = b.lawful; here = refl; flows = f };
          well_formed = t;
          each = (t, a.each, b.each, fw);
          object = tt;
        }
    labels_lawful env k want w (is_none p e) =
        let a = labels_lawful env k None tt e in
        let t : IsWellFormed ctx.bases (type_of (is_none p e) (labels_here env want (is_none p e))) =
        bool_well_formed ctx.bases in
        record { lawful = record { operand = a.lawful; here = refl }; well_formed = t; each = (t, a.each); object = tt }
    labels_lawful env k want w (is_not_none p e) =
        let a = labels_lawful env k None tt e in
        let t : IsWellFormed ctx.bases (type_of (is_not_none p e) (labels_here env want (is_not_none p e))) =
        bool_well_formed ctx.bases in
        record { lawful = record { operand = a.lawful; here = refl }; well_formed = t; each = (t, a.each); object = tt }
    labels_lawful env k want w (conjunction p l r) =
        let a = labels_lawful env k None tt l in
        let b = labels_lawful (narrow ctx.bases declared ctx.resolve true l env)
        (conditions_well_formed ctx.bases declared ctx.resolve true l env ck.smaller dk k) None tt r in
        let t : IsWellFormed ctx.bases (type_of (conjunction p l r) (labels_here env want (conjunction p l r))) =
        join_object_well_formed ctx.bases (type_of l (labels_here env None l))
        (type_of r (labels_here (narrow ctx.bases declared ctx.resolve true l env) None r)) ck.smaller a.well_formed
        b.well_formed in
        record {
          lawful = record { left = a.lawful; right = b.lawful; here = refl };
          well_formed = t;
          each = (t, a.each, b.each);
          object = tt;
        }
    labels_lawful env k want w (disjunction p l r) =
        let a = labels_lawful env k None tt l in
        let b = labels_lawful (narrow ctx.bases declared ctx.resolve false l env)
        (conditions_well_formed ctx.bases declared ctx.resolve false l env ck.smaller dk k) None tt r in
        let t : IsWellFormed ctx.bases (type_of (disjunction p l r) (labels_here env want (disjunction p l r))) =
        join_object_well_formed ctx.bases (type_of l (labels_here env None l))
        (type_of r (labels_here (narrow ctx.bases declared ctx.resolve false l env) None r)) ck.smaller
        a.well_formed b.well_formed in
        record {
          lawful = record { left = a.lawful; right = b.lawful; here = refl };
          well_formed = t;
          each = (t, a.each, b.each);
          object = tt;
        }
    labels_lawful env k want w (attribute p e field) =
        let a = labels_lawful env k None tt e in
        let t : IsWellFormed ctx.bases (type_of (attribute p e field) (labels_here env want (attribute p e field))) =
        offers_well_formed ctx.bases ck.smaller _ (each_well_formed ctx.bases
        (attribute_member ctx.classes field.text) (attribute_well_formed ctx.bases ctx.classes field.text
        ck.classes) (type_of e (labels_here env None e)) a.well_formed) in
        record {
          lawful = record { object = a.lawful; here = refl };
          well_formed = t;
          each = (t, a.each);
          object = a.well_formed;
        }
    labels_lawful env k want w (index p e i) =
        let a = labels_lawful env k None tt e in
        let b = labels_lawful env k None tt i in
        let h = each_well_formed ctx.bases (index_member ctx.bases (int_literal i))
        (index_well_formed ctx.bases ck.smaller (int_literal i)) (type_of e (labels_here env None e))
        a.well_formed in
        let f = into_is ctx.bases static assignable tests (whole_label i (labels_here env None i))
        (operand_types (map (index_member ctx.bases (int_literal i))
        (members (type_of e (labels_here env None e))))) b.well_formed (operands_well_formed ctx.bases _ h) in
        let fw = flows_well_formed ctx.bases static assignable tests (whole_label i (labels_here env None i))
        (operand_types (map (index_member ctx.bases (int_literal i))
        (members (type_of e (labels_here env None e))))) b.well_formed (operands_well_formed ctx.bases _ h) in
        let t : IsWellFormed ctx.bases (type_of (index p e i) (labels_here env want (index p e i))) =
        offers_well_formed ctx.bases ck.smaller _ h in
        record {
          lawful = record { object = a.lawful; key = b.lawful; here = refl; flows = f };
          well_formed = t;
          each = (t, a.each, b.each, fw);
          object = tt;
        }
    labels_lawful env k want w (call p c args kws) =
        let v = labels_lawful env k None tt c in
        let callee = callee_of ctx env (arguments_given args kws) c (labels_here env None c) in
        let os = callee.offers in
        let h = callee_well_formed ctx ck env (arguments_given args kws) c (labels_here env None c) v.object in
        let a = items_lawful env k (positional_seat os) (positional_well_formed ctx.bases os h) args in
        let b = keywords_lawful env k (named_seat os) (named_well_formed ctx.bases os h) [] kws in
        let cw = with_well_formed ctx.bases c (labels_here env None c) callee.label
        (callee_label_well_formed ctx ck env k (arguments_given args kws) c (labels_here env None c) v.well_formed)
        v.each in
        let t : IsWellFormed ctx.bases (type_of (call p c args kws) (labels_here env want (call p c args kws))) =
        whole_call_well_formed ctx ck env callee.rule os args (item_types args
        (items_here env (positional_seat os) args)) h a.well_formed in
        record {
          lawful = record {
            value = (labels_here env None c);
            lawful = v.lawful;
            callee = refl;
            arguments = a.lawful;
            keywords = b.lawful;
            here = refl;
            second = refl;
          };
          well_formed = t;
          each = (t, cw, a.each, b.each);
          object = tt;
        }

    pub items_lawful : (env : Env) → IsWellFormedEnv ctx.bases env → (seat : ℕ → Seat)
        → ((i : ℕ) → SeatWellFormed ctx.bases (seat i)) → (es : Exprs) → ItemsLawful env seat es
    items_lawful env k seat s no_exprs = record { lawful = tt; well_formed = tt; each = tt }
    items_lawful env k seat s (more_exprs e es) =
        let a = labels_lawful env k (seat 0).want (s 0).want e in
        let f = into_is ctx.bases static assignable tests (whole_label e (labels_here env (seat 0).want e))
        (seat 0).into a.well_formed (s 0).into in
        let fw = flows_well_formed ctx.bases static assignable tests (whole_label e (labels_here env (seat 0).want e))
        (seat 0).into a.well_formed (s 0).into in
        let r = items_lawful env k (λ i. seat (suc i)) (λ i. s (suc i)) es in
        record {
          lawful = record { first = a.lawful; flows = f; rest = r.lawful };
          well_formed = (a.well_formed, r.well_formed);
          each = (a.each, fw, r.each);
        }

    pub entries_lawful : (env : Env) → IsWellFormedEnv ctx.bases env → (key : Seat) → SeatWellFormed ctx.bases key
        → (value : Seat) → SeatWellFormed ctx.bases value → (es : Entries) → EntriesLawful env key value es
    entries_lawful env k x s y t no_entries = record { lawful = tt; keys = tt; values = tt; each = tt }
    entries_lawful env k x s y t (more_entries key value es) =
        let a = labels_lawful env k x.want s.want key in
        let f = into_is ctx.bases static assignable tests (whole_label key (labels_here env x.want key)) x.into
        a.well_formed s.into in
        let b = labels_lawful env k y.want t.want value in
        let g = into_is ctx.bases static assignable tests (whole_label value (labels_here env y.want value)) y.into
        b.well_formed t.into in
        let fw = flows_well_formed ctx.bases static assignable tests (whole_label key (labels_here env x.want key))
        x.into a.well_formed s.into in
        let gw = flows_well_formed ctx.bases static assignable tests (whole_label value (labels_here env y.want value))
        y.into b.well_formed t.into in
        let r = entries_lawful env k x s y t es in
        record {
          lawful = record { key = a.lawful; key_flows = f; value = b.lawful; value_flows = g; rest = r.lawful };
          keys = (a.well_formed, r.keys);
          values = (b.well_formed, r.values);
          each = ((a.each, fw), (b.each, gw), r.each);
        }

    pub keywords_lawful : (env : Env) → IsWellFormedEnv ctx.bases env → (seat : List ℕ → Seat)
        → ((word : List ℕ) → SeatWellFormed ctx.bases (seat word)) → (before : List (List ℕ)) (es : Keywords)
        → KeywordsLawful env seat before es
    keywords_lawful env k seat s before no_keywords = record { lawful = tt; each = tt }
    keywords_lawful env k seat s before (more_keywords parameter value es) =
        let here = keyword_well_formed ctx.bases seat s before parameter in
        let a = labels_lawful env k (keyword_seat seat before parameter).want here.want value in
        let f = into_is ctx.bases static assignable tests (whole_label value
        (labels_here env (keyword_seat seat before parameter).want value)) (keyword_seat seat before parameter).into
        a.well_formed here.into in
        let r = keywords_lawful env k seat s (parameter.text ∷ before) es in
        let fw = flows_well_formed ctx.bases static assignable tests
        (whole_label value (labels_here env (keyword_seat seat before parameter).want value))
        (keyword_seat seat before parameter).into a.well_formed here.into in
        record { lawful = record { first = a.lawful; flows = f; rest = r.lawful }; each = (a.each, fw, r.each) }

pub labels_are_lawful : LabelsAreLawful
labels_are_lawful ctx declared env want e ck dk k w =
    let h = labels_lawful ctx declared ck dk (static_test ctx.bases) (assignable_test ctx.bases)
    (are_tests ctx.bases ck.smaller) env k want w e in
    (h.lawful, h.well_formed, h.each)

pub has_labels : ExpressionsHaveLabels
has_labels ctx declared env want e ck dk k w =
    let h = labels_are_lawful ctx declared env want e ck dk k w in
    record { labels = labels_of ctx declared env want e; lawful = h.0; well_formed = h.1; each = h.2 }

-- and any lawful labels are the computed ones
pub lawful_labels_well_formed : LawfulLabelsAreWellFormed
lawful_labels_well_formed ctx declared env want e labels l ck dk k w lawful =
    let h = labels_are_lawful ctx declared env want e ck dk k w in
    subst (LabelsWellFormed ctx.bases e) (one_labelling ctx declared env l want e (labels_of ctx declared env want e)
    labels h.0 lawful) h.2
