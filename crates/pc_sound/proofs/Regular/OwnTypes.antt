-- The type of an expression that is no name, in an initializer, is as asked where those of its parts are, whatever is
-- known of locals.
use Rattle.std.proofs.Common.{◌≡◌, ℕ, List, [], ◌∷◌, refl, sym, subst, arith}
use Rattle.std.specs.Prelude.{Bool as Test, true, false, if◌then◌else◌, nat_lt, Option, slice_get}
use Rattle.pc_tree.specs.declared.code.Code.TheVariants.{E03}
use Rattle.pc_tree.specs.Tree.{Expr, Exprs, name, number, text, truth, nothing, tuple, list, dict, negative, negation}
use Rattle.pc_tree.specs.Tree.{binary, compare, is_none, is_not_none, conjunction, disjunction, attribute, index, call}
use Rattle.pc_scope.specs.declared.resolution.NameMeaning.{NameMeaning}
use Rattle.pc_scope.specs.declared.resolution.NameMeaning.TheVariants as meaning
use Rattle.pc_scope.specs.Expressions.{is_name}
use Rattle.pc_types.specs.Tree.{Tree, Any, Class, TupleOf}
use Rattle.pc_types.specs.Shape.{members, trees}
use Rattle.pc_class.specs.Facts.{field_by_name, method_by_name, class_facts_at}
use Rattle.pc_flow.specs.Environment.{Env}
use Rattle.pc_rules.specs.Operations.{Label, in_error, index_member, attribute_member, negative_member, kind_type}
use Rattle.pc_rules.specs.Operations.{takes_kind}
use Rattle.pc_rules.specs.Context.{Context, name_label}
use Rattle.pc_rules.specs.Calls.{GivenArguments, arguments_given, CallOffer, signature_offer, value_callee}
use Rattle.pc_rules.specs.Calls.{class_signature, CallRule, member_rule, length_rule, test_rule, function_offer}
use Rattle.pc_rules.specs.Calls.{good_callee, name_callee, method_callee}
use Rattle.pc_rules.specs.Labels.{Labels, whole_label, type_of, with_label, item_types, key_types, value_types}
use Rattle.pc_rules.specs.Lawful.{Lawful, list_item, dict_parts, members_of_expected, int_literal, callee_of}
use Rattle.pc_rules.specs.Lawful.{whole_call_label}
use Rattle.pc_sound.proofs.Regular.RegularParts.{Asked, ClassAsked, IsRegular, NamesAsked, Regular, regular_type}
use Rattle.pc_sound.proofs.Regular.RegularTypes.{OptionRegular, either_regular, EachRegular}
use Rattle.pc_sound.proofs.Regular.RegularOperations.{trees_regular, operation_regular, index_regular, negative_regular}
use Rattle.pc_sound.proofs.Regular.RegularOperations.{display_regular, pairs_regular}
use Rattle.pc_sound.proofs.Regular.RegularCalls.{ParametersRegular, field_regular, attribute_regular, OffersRegular}
use Rattle.pc_sound.proofs.Regular.RegularCalls.{called_regular, values_regular, builtin_regular, call_regular}
use Rattle.pc_sound.proofs.Regular.RegularDisplays.{list_item_regular, dict_parts_regular, wanted_members}
use Rattle.pc_sound.proofs.Regular.RegularDisplays.{list_label_regular, dict_rule_regular, length_label_regular}
use Rattle.pc_sound.proofs.Regular.RegularDisplays.{kinds_regular, compare_regular}
use Rattle.pc_sound.proofs.Regular.RegularLabels.{item_types_regular, value_types_regular}

module _ (asked : Asked) (ctx : Context) (declared : List Tree) (early : ctx.in_body ≡ false)
    (names : NamesAsked asked ctx.resolve)
    (fields : (c : ℕ) → ParametersRegular asked (class_facts_at ctx.classes c).fields) (env : Env) where
  -- ---- callees

  late_offers : OffersRegular asked (value_callee (in_error E03)).offers
  late_offers = values_regular asked (members (in_error E03).type)

  name_offers : (g : GivenArguments) (r : NameMeaning) → ((c : ℕ) → r ≡ meaning.Class c → ClassAsked asked c)
      → OffersRegular asked (name_callee ctx env g r).offers
  name_offers g (meaning.Func i) meant = subst (λ x. OffersRegular asked (if x then good_callee (function_offer g
      (slice_get ctx.functions i) ∷ []) else value_callee (in_error E03)).offers) (sym early) late_offers
  name_offers g (meaning.Class c) meant = go (nat_lt c ctx.known)
    where
      go : (x : Test) → OffersRegular asked (if x then good_callee (signature_offer g (class_signature ctx.classes c)
          ∷ []) else value_callee (in_error E03)).offers
      go true = called_regular asked g (class_signature ctx.classes c) (fields c, meant c refl)
      go false = late_offers
  name_offers g (meaning.Builtin b) meant = (builtin_regular asked g b).1
  name_offers g (meaning.Local x) meant = values_regular asked (members (name_label ctx env (meaning.Local x)).type)
  name_offers g (meaning.Const i) meant = values_regular asked (members (name_label ctx env (meaning.Const i)).type)
  name_offers g meaning.None meant = values_regular asked (members (name_label ctx env meaning.None).type)

  callee_offers : (g : GivenArguments) (e : Expr) (m : Labels e) → OffersRegular asked (callee_of ctx env g e m).offers
  callee_offers g (name n) m = name_offers g (ctx.resolve n.text) (names n.text)
  callee_offers g (attribute p e field) m = subst (λ x. OffersRegular asked (if x then method_callee ctx g field.text
      (type_of e m.object) else value_callee (in_error E03)).offers) (sym early) late_offers
  callee_offers g e m = subst (λ x. OffersRegular asked (if x then value_callee (whole_label e m) else value_callee
      (in_error E03)).offers) (sym early) late_offers

  whole_call : (rule : CallRule) (offers : List CallOffer) → OffersRegular asked offers → (args : Exprs)
      (ts : List Tree) → EachRegular asked ts → IsRegular asked (whole_call_label ctx env rule offers args ts).type
  whole_call member_rule offers h args ts k = call_regular asked offers h ctx.bases
  whole_call length_rule offers h args ts k = length_label_regular asked ctx.bases ts k
  whole_call test_rule offers h args ts k = tt

  field_gives : (word : List ℕ) (t : Tree) → IsRegular asked t
      → IsRegular asked (attribute_member ctx.classes word t).gives
  field_gives word (Class c) h = attribute_regular asked (field_by_name (class_facts_at ctx.classes c).fields word)
      (method_by_name (class_facts_at ctx.classes c).methods word)
      (field_regular asked (class_facts_at ctx.classes c).fields word (fields c))
  field_gives word Any h = tt
  field_gives word _ h = tt

  so : {m n : Label} → m ≡ n → IsRegular asked n.type → IsRegular asked m.type
  so e h = subst (λ x. IsRegular asked x.type) (sym e) h

  -- ---- the type of an expression, of those of its parts

  pub own_regular : (want : Option Tree) → OptionRegular asked want → (e : Expr) → is_name e ≡ false → (m : Labels e)
      → Lawful ctx declared env want e m → (own : Label) → Regular asked e (with_label e m own)
      → IsRegular asked (type_of e m)
  own_regular want wk (name n) other m law own h = absurd (grind (arith, other))
  own_regular want wk (number p d) other m law own h = so law tt
  own_regular want wk (text p d) other m law own h = so law tt
  own_regular want wk (truth p b) other m law own h = so law tt
  own_regular want wk (nothing p) other m law own h = so law tt
  own_regular want wk (tuple p es) other m law own h = so law.here
      (display_regular asked (TupleOf (trees (item_types es m.items)))
      (trees_regular asked (item_types es m.items) (item_types_regular asked es m.items h.1)))
  own_regular want wk (list p es) other m law own h = so law.here
      (list_label_regular asked ctx.bases (list_item (members_of_expected want)) (item_types es m.items)
      (list_item_regular asked (members_of_expected want) (wanted_members asked want wk))
      (item_types_regular asked es m.items h.1))
  own_regular want wk (dict p es) other m law own h = dict_rule_regular asked ctx.bases
      (dict_parts (members_of_expected want)) (key_types es m.entries) (value_types es m.entries) m.here
      (dict_parts_regular asked (members_of_expected want) (wanted_members asked want wk))
      (value_types_regular asked es m.entries h.1) law.here
  own_regular want wk (negative p e) other m law own h = so law.here
      (operation_regular asked ctx.bases negative_member (negative_regular asked ctx.bases) (type_of e m.operand)
      (regular_type asked e m.operand h.1))
  own_regular want wk (negation p e) other m law own h = so law.here tt
  own_regular want wk (binary p o l r) other m law own h = so law.here (pairs_regular asked ctx.bases (takes_kind o)
      kind_type (kinds_regular asked ctx.bases) Any (type_of l m.left) (type_of r m.right) tt)
  own_regular want wk (compare p o l r) other m law own h = so law.here
      (compare_regular asked ctx.bases o (type_of l m.left) (type_of r m.right) (regular_type asked r m.right h.1.1))
  own_regular want wk (is_none p e) other m law own h = so law.here tt
  own_regular want wk (is_not_none p e) other m law own h = so law.here tt
  own_regular want wk (conjunction p l r) other m law own h = so law.here
      (either_regular asked ctx.bases (type_of l m.left) (type_of r m.right) (regular_type asked l m.left h.1.0)
      (regular_type asked r m.right h.1.1))
  own_regular want wk (disjunction p l r) other m law own h = so law.here
      (either_regular asked ctx.bases (type_of l m.left) (type_of r m.right) (regular_type asked l m.left h.1.0)
      (regular_type asked r m.right h.1.1))
  own_regular want wk (attribute p e n) other m law own h = so law.here
      (operation_regular asked ctx.bases (attribute_member ctx.classes n.text) (field_gives n.text)
      (type_of e m.object) (regular_type asked e m.object h.1))
  own_regular want wk (index p e i) other m law own h = so law.here
      (operation_regular asked ctx.bases (index_member ctx.bases (int_literal i))
      (index_regular asked ctx.bases (int_literal i)) (type_of e m.object) (regular_type asked e m.object h.1.0))
  own_regular want wk (call p c args kws) other m law own h =
      let callee = callee_of ctx env (arguments_given args kws) c law.value in
      so law.here (whole_call callee.rule callee.offers (callee_offers (arguments_given args kws) c law.value) args
      (item_types args m.arguments) (item_types_regular asked args m.arguments h.1.1.0))

  -- labels whose own label was another one
  pub with_own_regular : (e : Expr) (m : Labels e) (own : Label) → Regular asked e (with_label e m own)
      → IsRegular asked (type_of e m) → Regular asked e m
  with_own_regular (name n) m own h k = k
  with_own_regular (number p d) m own h k = k
  with_own_regular (text p d) m own h k = k
  with_own_regular (truth p b) m own h k = k
  with_own_regular (nothing p) m own h k = k
  with_own_regular (tuple p es) m own h k = (k, h.1)
  with_own_regular (list p es) m own h k = (k, h.1)
  with_own_regular (dict p es) m own h k = (k, h.1)
  with_own_regular (negative p e) m own h k = (k, h.1)
  with_own_regular (negation p e) m own h k = (k, h.1)
  with_own_regular (binary p o l r) m own h k = (k, h.1)
  with_own_regular (compare p o l r) m own h k = (k, h.1)
  with_own_regular (is_none p e) m own h k = (k, h.1)
  with_own_regular (is_not_none p e) m own h k = (k, h.1)
  with_own_regular (conjunction p l r) m own h k = (k, h.1)
  with_own_regular (disjunction p l r) m own h k = (k, h.1)
  with_own_regular (attribute p e n) m own h k = (k, h.1)
  with_own_regular (index p e i) m own h k = (k, h.1)
  with_own_regular (call p c args kws) m own h k = ((k, h.0.1), h.1)
