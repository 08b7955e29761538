-- The labels of a lawfully labelled expression have types whose dicts have int or str as key and whose classes are as
-- asked, if the labels that they are computed from have.
use Rattle.std.proofs.Common.{◌≡◌, ℕ, suc, List, [], ◌∷◌, refl, sym, subst}
use Rattle.std.specs.Prelude.{Bool as Test, true, false, if◌then◌else◌, nat_lt, Option, Some, None, slice_get, flat_map}
use Rattle.pc_tree.specs.declared.code.Code.TheVariants.{E03, E20}
use Rattle.pc_tree.specs.Tree.{Name, Expr, Exprs, Entries, Keywords, name, number, text, truth, nothing, tuple, list}
use Rattle.pc_tree.specs.Tree.{dict, negative, negation, binary, compare, is_none, is_not_none, conjunction}
use Rattle.pc_tree.specs.Tree.{disjunction, attribute, index, call, no_exprs, more_exprs, no_entries, more_entries}
use Rattle.pc_tree.specs.Tree.{no_keywords, more_keywords}
use Rattle.pc_scope.specs.declared.resolution.NameMeaning.{NameMeaning}
use Rattle.pc_scope.specs.declared.resolution.NameMeaning.TheVariants as meaning
use Rattle.pc_scope.specs.Expressions.{is_instance_test}
use Rattle.pc_types.specs.Tree.{Tree, Any, Class, ListOf, DictOf, TupleOf}
use Rattle.pc_types.specs.Shape.{members, trees}
use Rattle.pc_class.specs.Facts.{field_by_name, method_by_name, class_facts_at}
use Rattle.pc_flow.specs.Environment.{Env, current}
use Rattle.pc_flow.specs.Narrowing.{narrow}
use Rattle.pc_rules.specs.Operations.{Label, in_error, index_member, attribute_member, negative_member, kind_type}
use Rattle.pc_rules.specs.Operations.{takes_kind}
use Rattle.pc_rules.specs.Context.{Context, Signature, local_label, constant_label, name_label, is_early}
use Rattle.pc_rules.specs.Calls.{GivenArguments, arguments_given, count_exprs, CallOffer, signature_offer, value_callee}
use Rattle.pc_rules.specs.Calls.{class_signature, method_offers, CallRule, member_rule, length_rule, test_rule}
use Rattle.pc_rules.specs.Calls.{function_offer, good_callee, name_callee, method_callee, Seat, positional_seat}
use Rattle.pc_rules.specs.Calls.{named_seat}
use Rattle.pc_rules.specs.Labels.{Labels, ItemsLabels, EntriesLabels, KeywordsLabels, whole_label, type_of, with_label}
use Rattle.pc_rules.specs.Labels.{item_types, key_types, value_types}
use Rattle.pc_rules.specs.Lawful.{Lawful, LawfulItems, LawfulEntries, LawfulKeywords, list_item, dict_parts}
use Rattle.pc_rules.specs.Lawful.{tuple_parts, members_of_expected, item_seat, part_seat, key_seat, value_seat}
use Rattle.pc_rules.specs.Lawful.{int_literal, callee_of, whole_call_label, early_second, keyword_seat}
use Rattle.pc_sound.proofs.Regular.RegularParts.{Asked, tests_in_time, classes_below, ClassAsked, TestsAsked, IsRegular}
use Rattle.pc_sound.proofs.Regular.RegularParts.{IsPunctual, Regular, ItemsRegular, EntriesRegular, KeywordsRegular}
use Rattle.pc_sound.proofs.Regular.RegularParts.{regular_type, regular_members}
use Rattle.pc_sound.proofs.Regular.RegularTypes.{OptionRegular, EnvRegular, either_regular, narrow_regular, EachRegular}
use Rattle.pc_sound.proofs.Regular.RegularOperations.{get_regular, trees_regular, display_regular, operation_regular}
use Rattle.pc_sound.proofs.Regular.RegularOperations.{index_regular, negative_regular, pairs_regular}
use Rattle.pc_sound.proofs.Regular.RegularCalls.{SignatureRegular, ContextRegular, field_regular, method_regular}
use Rattle.pc_sound.proofs.Regular.RegularCalls.{attribute_regular, OffersRegular, offers_append, called_regular}
use Rattle.pc_sound.proofs.Regular.RegularCalls.{values_regular, class_offers_regular, list_offers_regular}
use Rattle.pc_sound.proofs.Regular.RegularCalls.{dict_offers_regular, CalleeRegular, builtin_regular, call_regular}
use Rattle.pc_sound.proofs.Regular.RegularCalls.{positional_regular, keyword_regular}
use Rattle.pc_sound.proofs.Regular.RegularDisplays.{list_item_regular, dict_parts_regular, tuple_parts_regular}
use Rattle.pc_sound.proofs.Regular.RegularDisplays.{wanted_members, item_seat_regular, key_seat_regular}
use Rattle.pc_sound.proofs.Regular.RegularDisplays.{value_seat_regular, list_label_regular, dict_rule_regular}
use Rattle.pc_sound.proofs.Regular.RegularDisplays.{length_label_regular, kinds_regular, compare_regular}

module _ (asked : Asked) where
  -- another label for the expression itself
  pub with_regular : (e : Expr) (m : Labels e) (here : Label) → Regular asked e m → IsRegular asked here.type
      → Regular asked e (with_label e m here)
  with_regular (name n) m here h k = k
  with_regular (number p d) m here h k = k
  with_regular (text p d) m here h k = k
  with_regular (truth p d) m here h k = k
  with_regular (nothing p) m here h k = k
  with_regular (tuple p es) m here h k = (k, h.1)
  with_regular (list p es) m here h k = (k, h.1)
  with_regular (dict p es) m here h k = (k, h.1)
  with_regular (negative p e) m here h k = (k, h.1)
  with_regular (negation p e) m here h k = (k, h.1)
  with_regular (binary p o l r) m here h k = (k, h.1)
  with_regular (compare p o l r) m here h k = (k, h.1)
  with_regular (is_none p e) m here h k = (k, h.1)
  with_regular (is_not_none p e) m here h k = (k, h.1)
  with_regular (conjunction p l r) m here h k = (k, h.1)
  with_regular (disjunction p l r) m here h k = (k, h.1)
  with_regular (attribute p e n) m here h k = (k, h.1)
  with_regular (index p e i) m here h k = (k, h.1)
  with_regular (call p c args kws) m here h k = ((k, h.0.1), h.1)

  pub item_types_regular : (es : Exprs) (m : ItemsLabels es) → ItemsRegular asked es m
      → EachRegular asked (item_types es m)
  item_types_regular no_exprs m h = tt
  item_types_regular (more_exprs e rest) m h = (regular_type asked e m.first h.0, item_types_regular rest m.rest h.1)

  pub value_types_regular : (es : Entries) (m : EntriesLabels es) → EntriesRegular asked es m
      → EachRegular asked (value_types es m)
  value_types_regular no_entries m h = tt
  value_types_regular (more_entries a b rest) m h = (
    regular_type asked b m.value h.1.0,
    value_types_regular rest m.rest
        h.1.1,
  )

  module _ (ctx : Context) (declared : List Tree) where
    -- the second argument of a call has no E03
    abbrev pub SecondTimely : Exprs → Type 0
    SecondTimely no_exprs = Unit {0}
    SecondTimely (more_exprs e no_exprs) = Unit {0}
    SecondTimely (more_exprs e (more_exprs f rest)) = (env : Env) (want : Option Tree) (m : Labels f)
        → Lawful ctx declared env want f m → is_early (whole_label f m).codes ≡ false

    -- the second argument of an instance test has no E03, where tests are asked to come in time
    abbrev pub TestTimely : Expr → Exprs → Keywords → Type 0
    TestTimely c args kws = TestsAsked asked (is_instance_test c args kws ≡ true → SecondTimely args)

    -- each instance test in an expression comes in time, where that is asked
    abbrev mutual
      pub Timely : Expr → Type 0
      Timely (name n) = Unit {0}
      Timely (number p d) = Unit {0}
      Timely (text p d) = Unit {0}
      Timely (truth p b) = Unit {0}
      Timely (nothing p) = Unit {0}
      Timely (tuple p es) = ItemsTimely es
      Timely (list p es) = ItemsTimely es
      Timely (dict p es) = EntriesTimely es
      Timely (negative p e) = Timely e
      Timely (negation p e) = Timely e
      Timely (binary p o l r) = Timely l × Timely r
      Timely (compare p o l r) = Timely l × Timely r
      Timely (is_none p e) = Timely e
      Timely (is_not_none p e) = Timely e
      Timely (conjunction p l r) = Timely l × Timely r
      Timely (disjunction p l r) = Timely l × Timely r
      Timely (attribute p e n) = Timely e
      Timely (index p e i) = Timely e × Timely i
      Timely (call p c args kws) = TestTimely c args kws × (Timely c × (ItemsTimely args × KeywordsTimely kws))

      pub ItemsTimely : Exprs → Type 0
      ItemsTimely no_exprs = Unit {0}
      ItemsTimely (more_exprs e rest) = Timely e × ItemsTimely rest

      pub EntriesTimely : Entries → Type 0
      EntriesTimely no_entries = Unit {0}
      EntriesTimely (more_entries a b rest) = Timely a × (Timely b × EntriesTimely rest)

      pub KeywordsTimely : Keywords → Type 0
      KeywordsTimely no_keywords = Unit {0}
      KeywordsTimely (more_keywords n e rest) = Timely e × KeywordsTimely rest

    second_timely : (env : Env) (seat : ℕ → Seat) (es : Exprs) (m : ItemsLabels es)
        → LawfulItems ctx declared env seat es m → SecondTimely es → early_second es m ≡ false
    second_timely env seat no_exprs m law t = refl
    second_timely env seat (more_exprs e no_exprs) m law t = refl
    second_timely env seat (more_exprs e (more_exprs f rest)) m law t = t env (seat 1).want m.rest.first law.rest.first

    pub test_punctual : (env : Env) (seat : ℕ → Seat) (c : Expr) (es : Exprs) (kws : Keywords) (m : ItemsLabels es)
        → LawfulItems ctx declared env seat es m → TestTimely c es kws → IsPunctual asked c es kws m
    test_punctual env seat c es kws m law t = go asked t
      where
        go : (a : Asked) → TestsAsked a (is_instance_test c es kws ≡ true → SecondTimely es)
            → TestsAsked a (is_instance_test c es kws ≡ true → early_second es m ≡ false)
        go tests_in_time f = λ is. second_timely env seat es m law (f is)
        go (classes_below bound) f = tt

    module _ (regular : ContextRegular asked ctx) where
      local_label_regular : (o : Option Tree) → OptionRegular asked o → IsRegular asked (local_label o).type
      local_label_regular None h = tt
      local_label_regular (Some t) h = h

      constant_label_regular : (o : Option Tree) → OptionRegular asked o → IsRegular asked (constant_label o).type
      constant_label_regular None h = tt
      constant_label_regular (Some t) h = h

      some_regular : (o : Option Tree) → ((t : Tree) → o ≡ Some t → IsRegular asked t) → OptionRegular asked o
      some_regular None h = tt
      some_regular (Some t) h = h t refl

      error_regular : (x : Test) → IsRegular asked (if x then in_error E20 else in_error E03).type
      error_regular true = tt
      error_regular false = tt

      name_regular : (env : Env) → EnvRegular asked declared env → (r : NameMeaning)
          → IsRegular asked (name_label ctx env r).type
      name_regular env h (meaning.Local x) = local_label_regular (current env x)
          (some_regular (current env x) (λ t e. (h x t e).0))
      name_regular env h (meaning.Const i) = constant_label_regular (slice_get ctx.constants i)
          (some_regular (slice_get ctx.constants i) (regular.constants i))
      name_regular env h (meaning.Func i) = error_regular ctx.in_body
      name_regular env h (meaning.Class c) = error_regular (nat_lt c ctx.known)
      name_regular env h (meaning.Builtin b) = tt
      name_regular env h meaning.None = tt

      value_callee_regular : (m : Label) → IsRegular asked m.type → CalleeRegular asked (value_callee m)
      value_callee_regular m h = (h, values_regular asked (members m.type))

      function_regular : (g : GivenArguments) (o : Option Signature)
          → ((s : Signature) → o ≡ Some s → SignatureRegular asked s) → OffersRegular asked (function_offer g o ∷ [])
      function_regular g None h = ((tt, tt), tt)
      function_regular g (Some s) h = called_regular asked g s (h s refl)

      name_callee_regular : (env : Env) → EnvRegular asked declared env → (g : GivenArguments) (r : NameMeaning)
          → ((c : ℕ) → r ≡ meaning.Class c → ClassAsked asked c) → CalleeRegular asked (name_callee ctx env g r)
      name_callee_regular env h g (meaning.Func i) meant = go ctx.in_body
        where
          go : (x : Test) → CalleeRegular asked (if x then good_callee
              (function_offer g (slice_get ctx.functions i) ∷ []) else value_callee (in_error E03))
          go true = (tt, function_regular g (slice_get ctx.functions i) (regular.functions i))
          go false = value_callee_regular (in_error E03) tt
      name_callee_regular env h g (meaning.Class c) meant = go (nat_lt c ctx.known)
        where
          go : (x : Test) → CalleeRegular asked (if x then good_callee
              (signature_offer g (class_signature ctx.classes c) ∷ []) else value_callee (in_error E03))
          go true = (tt, called_regular asked g (class_signature ctx.classes c) (regular.fields c, meant c refl))
          go false = value_callee_regular (in_error E03) tt
      name_callee_regular env h g (meaning.Builtin b) meant = builtin_regular asked g b
      name_callee_regular env h g (meaning.Local x) meant = value_callee_regular (name_label ctx env (meaning.Local x))
          (name_regular env h (meaning.Local x))
      name_callee_regular env h g (meaning.Const i) meant = value_callee_regular (name_label ctx env (meaning.Const i))
          (name_regular env h (meaning.Const i))
      name_callee_regular env h g meaning.None meant = value_callee_regular (name_label ctx env meaning.None) tt

      method_offers_regular : (g : GivenArguments) (word : List ℕ) (m : Tree) → IsRegular asked m
          → OffersRegular asked (method_offers ctx g word m)
      method_offers_regular g word (Class c) h = class_offers_regular asked g
          (method_by_name (class_facts_at ctx.classes c).methods word)
          (field_by_name (class_facts_at ctx.classes c).fields word)
          (method_regular asked (class_facts_at ctx.classes c).methods word (regular.methods c))
      method_offers_regular g word (ListOf t) h = list_offers_regular asked g word t h
      method_offers_regular g word (DictOf k v) h = dict_offers_regular asked ctx.bases g word k v h.0 h.1
      method_offers_regular g word _ h = ((tt, tt), tt)

      methods_regular : (g : GivenArguments) (word : List ℕ) (ms : List Tree) → EachRegular asked ms
          → OffersRegular asked (flat_map (method_offers ctx g word) ms)
      methods_regular g word [] h = tt
      methods_regular g word (m ∷ ms) h = offers_append asked (method_offers ctx g word m)
          (flat_map (method_offers ctx g word) ms) (method_offers_regular g word m h.0) (methods_regular g word ms h.1)

      value_or_early : (m : Label) → IsRegular asked m.type → (x : Test)
          → CalleeRegular asked (if x then value_callee m else value_callee (in_error E03))
      value_or_early m h true = value_callee_regular m h
      value_or_early m h false = value_callee_regular (in_error E03) tt

      callee_regular : (env : Env) → EnvRegular asked declared env → (g : GivenArguments) (e : Expr) (m : Labels e)
          → Regular asked e m → CalleeRegular asked (callee_of ctx env g e m)
      callee_regular env h g (name n) m k = name_callee_regular env h g (ctx.resolve n.text) (regular.names n.text)
      callee_regular env h g (attribute p e field) m k = go ctx.in_body
        where
          go : (x : Test) → CalleeRegular asked (if x then method_callee ctx g field.text (type_of e m.object)
              else value_callee (in_error E03))
          go true = (
            tt,
            methods_regular g field.text (members (type_of e m.object))
                (regular_members asked (type_of e m.object) (regular_type asked e m.object k.1)),
          )
          go false = value_callee_regular (in_error E03) tt
      callee_regular env h g e m k = value_or_early (whole_label e m) (regular_type asked e m k) ctx.in_body

      field_offer_regular : (word : List ℕ) (m : Tree) → IsRegular asked m
          → IsRegular asked (attribute_member ctx.classes word m).gives
      field_offer_regular word (Class c) h = attribute_regular asked
          (field_by_name (class_facts_at ctx.classes c).fields word)
          (method_by_name (class_facts_at ctx.classes c).methods word)
          (field_regular asked (class_facts_at ctx.classes c).fields word (regular.fields c))
      field_offer_regular word Any h = tt
      field_offer_regular word _ h = tt

      whole_call_regular : (env : Env) (rule : CallRule) (offers : List CallOffer) → OffersRegular asked offers
          → (args : Exprs) (ts : List Tree) → EachRegular asked ts
          → IsRegular asked (whole_call_label ctx env rule offers args ts).type
      whole_call_regular env member_rule offers h args ts k = call_regular asked offers h ctx.bases
      whole_call_regular env length_rule offers h args ts k = length_label_regular asked ctx.bases ts k
      whole_call_regular env test_rule offers h args ts k = tt

      so_typed : {m n : Label} → m ≡ n → IsRegular asked n.type → IsRegular asked m.type
      so_typed e h = subst (λ x. IsRegular asked x.type) (sym e) h

      -- the labels of a lawfully labelled expression
      mutual
        pub labels_regular : (env : Env) → EnvRegular asked declared env → (want : Option Tree)
            → OptionRegular asked want → (e : Expr) → Timely e → (m : Labels e) → Lawful ctx declared env want e m
            → Regular asked e m
        labels_regular env ek want wk (name n) t m law = so_typed law (name_regular env ek (ctx.resolve n.text))
        labels_regular env ek want wk (number p d) t m law = so_typed law tt
        labels_regular env ek want wk (text p d) t m law = so_typed law tt
        labels_regular env ek want wk (truth p b) t m law = so_typed law tt
        labels_regular env ek want wk (nothing p) t m law = so_typed law tt
        labels_regular env ek want wk (tuple p es) t m law =
            let items = items_regular env ek (part_seat (tuple_parts (count_exprs es) (members_of_expected want)))
            (λ i. get_regular asked (tuple_parts (count_exprs es) (members_of_expected want)) i
            (tuple_parts_regular asked (count_exprs es) (members_of_expected want) (wanted_members asked want wk)))
            es t m.items law.items in (
              so_typed law.here (display_regular asked (TupleOf (trees (item_types es m.items)))
                  (trees_regular asked (item_types es m.items) (item_types_regular es m.items items))),
              items,
            )
        labels_regular env ek want wk (list p es) t m law =
            let o = list_item_regular asked (members_of_expected want) (wanted_members asked want wk) in
            let items = items_regular env ek (λ i. item_seat (list_item (members_of_expected want)))
            (λ i. item_seat_regular asked (list_item (members_of_expected want)) o) es t m.items law.items in (
              so_typed law.here (list_label_regular asked ctx.bases (list_item (members_of_expected want))
                  (item_types es m.items) o (item_types_regular es m.items items)),
              items,
            )
        labels_regular env ek want wk (dict p es) t m law =
            let o = dict_parts_regular asked (members_of_expected want) (wanted_members asked want wk) in
            let entries = entries_regular env ek (key_seat (dict_parts (members_of_expected want)))
            (value_seat (dict_parts (members_of_expected want))) (key_seat_regular asked
            (dict_parts (members_of_expected want)) o) (value_seat_regular asked
            (dict_parts (members_of_expected want)) o) es t m.entries law.entries in (
              dict_rule_regular asked ctx.bases (dict_parts (members_of_expected want)) (key_types es m.entries)
                  (value_types es m.entries) m.here o (value_types_regular es m.entries entries) law.here,
              entries,
            )
        labels_regular env ek want wk (negative p e) t m law =
            let k = labels_regular env ek None tt e t m.operand law.operand in (
              so_typed law.here (operation_regular asked ctx.bases negative_member (negative_regular asked ctx.bases)
                  (type_of e m.operand) (regular_type asked e m.operand k)),
              k,
            )
        labels_regular env ek want wk (negation p e) t m law = (
          so_typed law.here tt,
          labels_regular env ek None tt e t
              m.operand law.operand,
        )
        labels_regular env ek want wk (binary p o l r) t m law = (
          so_typed law.here (pairs_regular asked ctx.bases (takes_kind o) kind_type (kinds_regular asked ctx.bases)
              Any (type_of l m.left) (type_of r m.right) tt),
          (
            labels_regular env ek None tt l t.0 m.left law.left,
            labels_regular env ek None tt r t.1 m.right law.right,
          ),
        )
        labels_regular env ek want wk (compare p o l r) t m law =
            let k = labels_regular env ek None tt r t.1 m.right law.right in (
              so_typed law.here (compare_regular asked ctx.bases o (type_of l m.left) (type_of r m.right)
                  (regular_type asked r m.right k)),
              (labels_regular env ek None tt l t.0 m.left law.left, k),
            )
        labels_regular env ek want wk (is_none p e) t m law = (
          so_typed law.here tt,
          labels_regular env ek None tt e t
              m.operand law.operand,
        )
        labels_regular env ek want wk (is_not_none p e) t m law =
            (so_typed law.here tt, labels_regular env ek None tt e t m.operand law.operand)
        labels_regular env ek want wk (conjunction p l r) t m law =
            let k = labels_regular env ek None tt l t.0 m.left law.left in
            let h = labels_regular (narrow ctx.bases declared ctx.resolve true l env)
            (narrow_regular asked ctx.bases declared ctx.resolve regular.names true l env ek) None tt r t.1 m.right
            law.right in (
              so_typed law.here (either_regular asked ctx.bases (type_of l m.left) (type_of r m.right)
                  (regular_type asked l m.left k) (regular_type asked r m.right h)),
              (k, h),
            )
        labels_regular env ek want wk (disjunction p l r) t m law =
            let k = labels_regular env ek None tt l t.0 m.left law.left in
            let h = labels_regular (narrow ctx.bases declared ctx.resolve false l env)
            (narrow_regular asked ctx.bases declared ctx.resolve regular.names false l env ek) None tt r t.1 m.right
            law.right in (
              so_typed law.here (either_regular asked ctx.bases (type_of l m.left) (type_of r m.right)
                  (regular_type asked l m.left k) (regular_type asked r m.right h)),
              (k, h),
            )
        labels_regular env ek want wk (attribute p e n) t m law =
            let k = labels_regular env ek None tt e t m.object law.object in (
              so_typed law.here (operation_regular asked ctx.bases (attribute_member ctx.classes n.text)
                  (field_offer_regular n.text) (type_of e m.object) (regular_type asked e m.object k)),
              k,
            )
        labels_regular env ek want wk (index p e i) t m law =
            let k = labels_regular env ek None tt e t.0 m.object law.object in (
              so_typed law.here (operation_regular asked ctx.bases (index_member ctx.bases (int_literal i))
                  (index_regular asked ctx.bases (int_literal i)) (type_of e m.object)
                  (regular_type asked e m.object k)),
              (k, labels_regular env ek None tt i t.1 m.key law.key),
            )
        labels_regular env ek want wk (call p c args kws) t m law =
            let value = labels_regular env ek None tt c t.1.0 law.value law.lawful in
            let callee = callee_regular env ek (arguments_given args kws) c law.value value in
            let offers = (callee_of ctx env (arguments_given args kws) c law.value).offers in
            let items = items_regular env ek (positional_seat offers) (positional_regular asked offers callee.1) args
            t.1.1.0 m.arguments law.arguments in
            let named = keywords_regular env ek (named_seat offers) [] (keyword_regular asked offers callee.1) kws
            t.1.1.1 m.keywords law.keywords in (
              (
                so_typed law.here (whole_call_regular env (callee_of ctx env (arguments_given args kws) c
                    law.value).rule
                    offers callee.1 args (item_types args m.arguments) (item_types_regular args m.arguments items)),
                test_punctual env (positional_seat offers) c args kws m.arguments law.arguments t.0,
              ),
              (
                subst (Regular asked c) (sym law.callee) (with_regular c law.value
                    (callee_of ctx env (arguments_given args kws) c law.value).label value callee.0),
                (items, named),
              ),
            )

        pub items_regular : (env : Env) → EnvRegular asked declared env → (seat : ℕ → Seat)
            → ((i : ℕ) → OptionRegular asked (seat i).want) → (es : Exprs) → ItemsTimely es → (m : ItemsLabels es)
            → LawfulItems ctx declared env seat es m → ItemsRegular asked es m
        items_regular env ek seat sk no_exprs t m law = tt
        items_regular env ek seat sk (more_exprs e rest) t m law = (
          labels_regular env ek (seat 0).want (sk 0) e t.0 m.first law.first,
          items_regular env ek (λ i. seat (suc i)) (λ i. sk (suc i)) rest t.1 m.rest law.rest,
        )

        entries_regular : (env : Env) → EnvRegular asked declared env → (k v : Seat) → OptionRegular asked k.want
            → OptionRegular asked v.want → (es : Entries) → EntriesTimely es → (m : EntriesLabels es)
            → LawfulEntries ctx declared env k v es m → EntriesRegular asked es m
        entries_regular env ek k v kk vk no_entries t m law = tt
        entries_regular env ek k v kk vk (more_entries a b rest) t m law = (
          labels_regular env ek k.want kk a t.0 m.key law.key,
          (
            labels_regular env ek v.want vk b t.1.0 m.value
                law.value,
            entries_regular env ek k v kk vk rest t.1.1 m.rest law.rest,
          ),
        )

        pub keywords_regular : (env : Env) → EnvRegular asked declared env → (seat : List ℕ → Seat)
            → (before : List (List ℕ)) → ((before : List (List ℕ)) (n : Name)
            → OptionRegular asked (keyword_seat seat before n).want) → (es : Keywords) → KeywordsTimely es
            → (m : KeywordsLabels es) → LawfulKeywords ctx declared env seat before es m → KeywordsRegular asked es m
        keywords_regular env ek seat before sk no_keywords t m law = tt
        keywords_regular env ek seat before sk (more_keywords n e rest) t m law = (
          labels_regular env ek (keyword_seat seat before n).want (sk before n) e t.0 m.first law.first,
          keywords_regular env ek seat (n.text ∷ before) sk rest t.1 m.rest law.rest,
        )
