-- The label of an expression of each form, and the notes in it, by the labels of its parts as the program holds them.
use Rattle.std.specs.Prelude.{Vec, length, suc}
use Rattle.std.specs.Global.{Global}
use Rattle.std.proofs.Common.{◌≡◌, ℕ, List, [], ◌∷◌, ◌++◌, refl, sym, ap, ◌∙◌, map, append_assoc, Option, None}
use Rattle.std.specs.Prelude.{Bool as Test, true, false, flat_map}
use Rattle.pc_source.specs.declared.place.Place.{Place}
use Rattle.pc_tree.specs.declared.tree.BinaryOperator.{BinaryOperator}
use Rattle.pc_tree.specs.declared.tree.ComparisonOperator.{ComparisonOperator}
use Rattle.pc_tree.specs.Tree.{Name, Expr, negative, binary, compare, conjunction, disjunction, attribute, index}
use Rattle.pc_tree.specs.Tree.{expr_of}
use Rattle.pc_tree.specs.declared.tree.Expr.{Expr as RustExpr}
use Rattle.pc_tree.specs.declared.tree.Expr.TheViews as View
use Rattle.pc_tree.specs.declared.tree.Entry.{Entry as RustEntry}
use Rattle.pc_tree.specs.Lists.{exprs_of_list, entries_of_list}
use Rattle.pc_tree.proofs.Trees.{tuple_tree, list_tree, dict_tree}
use Rattle.pc_types.specs.Tree.{TupleOf}
use Rattle.pc_types.specs.Shape.{trees}
use Rattle.pc_types.specs.Computed.{static_test, assignable_test}
use Rattle.pc_notes.specs.Notes.{Note}
use Rattle.pc_rules.specs.Calls.{Seat, count_exprs}
use Rattle.pc_tree.specs.Depth.{place_of}
use Rattle.pc_types.specs.Tree.{Tree}
use Rattle.pc_types.specs.Shape.{members}
use Rattle.pc_flow.specs.Environment.{Env, join_or_object}
use Rattle.pc_flow.specs.Narrowing.{narrow}
use Rattle.pc_rules.specs.Operations.{Label, clean, offers_label, operand_types, negative_member, attribute_member}
use Rattle.pc_rules.specs.Operations.{index_member, binary_label, display_label}
use Rattle.pc_rules.specs.Lawful.{list_item, dict_parts, tuple_parts, members_of_expected, item_seat, part_seat}
use Rattle.pc_rules.specs.Lawful.{list_label, key_seat, value_seat, int_literal, compare_label, compare_types}
use Rattle.pc_rules.specs.Computed.Expressions.{flows_of, dict_label}
use Rattle.pc_rules.specs.Computed.Findings.{own_at, once, brief, note_of_type, label_at, flows_at}
use Rattle.pc_rules.specs.Computed.Standing.{Standing, narrowed_standing, label_in, finds_in, parts_find, types_in}
use Rattle.pc_rules.specs.Computed.Standing.{items_find, keys_in, value_types_in, entries_find, label_with}
use Rattle.pc_rules.specs.declared.label.Label.{Label as RustLabel}
use Rattle.pc_expr.proofs.Forms.{finds_whole, negative_label, attribute_label, type_binary, label_compare}
use Rattle.pc_expr.proofs.Forms.{parts_compare, label_conjunction, label_disjunction, parts_conjunction}
use Rattle.pc_expr.proofs.Forms.{parts_disjunction, parts_binary, type_index, parts_index, label_tuple, parts_tuple}
use Rattle.pc_expr.proofs.Forms.{expected_list_label, parts_list, expected_dict_label, parts_dict}

module _ {T : Type 0} (tree : T → Tree) (l : RustLabel T) (m : Label) (is : label_with tree l ≡ brief m) where
  pub type_is : tree l.ty ≡ m.type
  type_is = ap (λ (x : Label). x.type) is

  pub codes_are : l.codes.items ≡ once m.codes
  codes_are = ap (λ (x : Label). x.codes) is

-- ---- findings in turn

pub two_found : (old new last a b : List Note) → new ≡ old ++ a → last ≡ new ++ b → last ≡ old ++ (a ++ b)
two_found old new last a b h k = k ∙ ap (λ x. x ++ b) h ∙ append_assoc old a b

pub three_found : (old new next last a b c : List Note) → new ≡ old ++ a → next ≡ new ++ b → last ≡ next ++ c
    → last ≡ old ++ (a ++ (b ++ c))
three_found old new next last a b c h k i = two_found old new last a (b ++ c) h (two_found new next last b c k i)

module _ {T : Type 0} (tree : T → Tree) (k : Standing) (want : Option Tree) where
  -- the notes of a label of the program, given the label that it means
  pub noted_label : (keeps shown : Test) (p : Place) (l : RustLabel T) (m : Label) → label_with tree l ≡ brief m
      → note_of_type keeps shown p (tree l.ty) ++ flat_map (own_at p) l.codes.items ≡ label_at keeps shown p m
  noted_label keeps shown p l m is =
      ap (λ (x : Label). note_of_type keeps shown p x.type ++ flat_map (own_at p) x.codes) is

  -- the findings in an expression are those in its parts and the notes of its label
  pub whole_found : (e : Expr) (l : RustLabel T) (old new last : List Note)
      → label_with tree l ≡ brief (label_in k want e) → new ≡ old ++ parts_find k want e
      → last ≡ new ++ (note_of_type k.keeps true (place_of e) (tree l.ty) ++ flat_map (own_at (place_of e)) l.codes.items)
      → last ≡ old ++ finds_in k want e
  whole_found e l old new last is h j =
      two_found old new last (parts_find k want e) (label_at k.keeps true (place_of e) (label_in k want e)) h
      (j ∙ ap (λ ns. new ++ ns) (noted_label k.keeps true (place_of e) l (label_in k want e) is))
      ∙ ap (λ fs. old ++ fs) (sym (finds_whole k want e))

  pub negative_is : (p : Place) (e : Expr) (l : RustLabel T) → label_with tree l ≡ brief (label_in k None e)
      → offers_label k.context.bases (map negative_member (members (tree l.ty))) ≡ label_in k want (negative p e)
  negative_is p e l is = ap (λ t. offers_label k.context.bases (map negative_member (members t)))
      (type_is tree l (label_in k None e) is) ∙ sym (negative_label k want p e)

  pub attribute_is : (p : Place) (e : Expr) (field : Name) (l : RustLabel T)
      → label_with tree l ≡ brief (label_in k None e) → offers_label k.context.bases
      (map (attribute_member k.context.classes field.text) (members (tree l.ty))) ≡ label_in k want
      (attribute p e field)
  attribute_is p e field l is = ap (λ t. offers_label k.context.bases
      (map (attribute_member k.context.classes field.text) (members t))) (type_is tree l (label_in k None e) is)
      ∙ sym (attribute_label k want p e field)

  module _ (p : Place) (a b : Expr) (l r : RustLabel T) (left_is : label_with tree l ≡ brief (label_in k None a)) where
    pub binary_is : (o : BinaryOperator) → label_with tree r ≡ brief (label_in k None b)
        → binary_label k.context.bases o (tree l.ty) (tree r.ty) ≡ label_in k want (binary p o a b)
    binary_is o right_is =
        ap (λ t. binary_label k.context.bases o t (tree r.ty)) (type_is tree l (label_in k None a) left_is)
        ∙ ap (λ t. binary_label k.context.bases o (label_in k None a).type t)
        (type_is tree r (label_in k None b) right_is)
        ∙ sym (type_binary k want p o a b)

    pub compare_is : (o : ComparisonOperator) → label_with tree r ≡ brief (label_in k None b)
        → compare_label k.context.bases o (tree l.ty) (tree r.ty) ≡ label_in k want (compare p o a b)
    compare_is o right_is =
        ap (λ t. compare_label k.context.bases o t (tree r.ty)) (type_is tree l (label_in k None a) left_is)
        ∙ ap (λ t. compare_label k.context.bases o (label_in k None a).type t)
        (type_is tree r (label_in k None b) right_is)
        ∙ sym (label_compare k want p o a b)

    pub compare_found : (o : ComparisonOperator) (old new next last : List Note)
        → label_with tree r ≡ brief (label_in k None b) → new ≡ old ++ finds_in k None a
        → next ≡ new ++ finds_in k None b → last ≡ next ++ flows_at (place_of a)
        (flows_of k.context.bases (label_in k None a) (compare_types o (tree r.ty)))
        → last ≡ old ++ parts_find k want (compare p o a b)
    compare_found o old new next last right_is h j i =
        three_found old new next last (finds_in k None a) (finds_in k None b)
        (flows_at (place_of a) (flows_of k.context.bases (label_in k None a)
        (compare_types o (label_in k None b).type))) h j
        (i ∙ ap (λ t. next ++ flows_at (place_of a) (flows_of k.context.bases (label_in k None a)
        (compare_types o t))) (type_is tree r (label_in k None b) right_is))
        ∙ ap (λ fs. old ++ fs) (sym (parts_compare k want p o a b))

    pub index_is : offers_label k.context.bases (map (index_member k.context.bases (int_literal b))
        (members (tree l.ty))) ≡ label_in k want (index p a b)
    index_is = ap (λ t. offers_label k.context.bases (map (index_member k.context.bases (int_literal b)) (members t)))
        (type_is tree l (label_in k None a) left_is) ∙ sym (type_index k want p a b)

    pub index_found : (old new next last : List Note) → new ≡ old ++ finds_in k None a → next ≡ new ++ finds_in k None b
        → last ≡ next ++ flows_at (place_of b) (flows_of k.context.bases (label_in k None b)
        (operand_types (map (index_member k.context.bases (int_literal b)) (members (tree l.ty)))))
        → last ≡ old ++ parts_find k want (index p a b)
    index_found old new next last h j i =
        three_found old new next last (finds_in k None a) (finds_in k None b)
        (flows_at (place_of b) (flows_of k.context.bases (label_in k None b)
        (operand_types (map (index_member k.context.bases (int_literal b)) (members (label_in k None a).type))))) h
        j
        (i ∙ ap (λ t. next ++ flows_at (place_of b) (flows_of k.context.bases (label_in k None b)
        (operand_types (map (index_member k.context.bases (int_literal b)) (members t)))))
        (type_is tree l (label_in k None a) left_is))
        ∙ ap (λ fs. old ++ fs) (sym (parts_index k want p a b))

    -- the right side of `and` and of `or`, in the environment that the left one leaves
    module _ (after : Standing) (right_is : label_with tree r ≡ brief (label_in after None b)) where
      pub and_is : after ≡ narrowed_standing k true a → clean (join_or_object k.context.bases (tree l.ty) (tree r.ty))
          ≡ label_in k want (conjunction p a b)
      and_is e =
          ap (λ t. clean (join_or_object k.context.bases t (tree r.ty))) (type_is tree l (label_in k None a) left_is)
          ∙ ap (λ t. clean (join_or_object k.context.bases (label_in k None a).type t))
          (type_is tree r (label_in after None b) right_is)
          ∙ ap (λ (s : Standing). clean (join_or_object k.context.bases (label_in k None a).type
          (label_in s None b).type)) e
          ∙ sym (label_conjunction k want p a b)

      pub or_is : after ≡ narrowed_standing k false a → clean (join_or_object k.context.bases (tree l.ty) (tree r.ty))
          ≡ label_in k want (disjunction p a b)
      or_is e =
          ap (λ t. clean (join_or_object k.context.bases t (tree r.ty))) (type_is tree l (label_in k None a) left_is)
          ∙ ap (λ t. clean (join_or_object k.context.bases (label_in k None a).type t))
          (type_is tree r (label_in after None b) right_is)
          ∙ ap (λ (s : Standing). clean (join_or_object k.context.bases (label_in k None a).type
          (label_in s None b).type)) e
          ∙ sym (label_disjunction k want p a b)

  pub and_found : (p : Place) (a b : Expr) (after : Standing) (old new last : List Note)
      → after ≡ narrowed_standing k true a → new ≡ old ++ finds_in k None a → last ≡ new ++ finds_in after None b
      → last ≡ old ++ parts_find k want (conjunction p a b)
  and_found p a b after old new last e h j =
      two_found old new last (finds_in k None a) (finds_in after None b) h j
      ∙ ap (λ (s : Standing). old ++ (finds_in k None a ++ finds_in s None b)) e
      ∙ ap (λ fs. old ++ fs) (sym (parts_conjunction k want p a b))

  pub or_found : (p : Place) (a b : Expr) (after : Standing) (old new last : List Note)
      → after ≡ narrowed_standing k false a → new ≡ old ++ finds_in k None a → last ≡ new ++ finds_in after None b
      → last ≡ old ++ parts_find k want (disjunction p a b)
  or_found p a b after old new last e h j =
      two_found old new last (finds_in k None a) (finds_in after None b) h j
      ∙ ap (λ (s : Standing). old ++ (finds_in k None a ++ finds_in s None b)) e
      ∙ ap (λ fs. old ++ fs) (sym (parts_disjunction k want p a b))

  pub binary_found : (p : Place) (o : BinaryOperator) (a b : Expr) (old new last : List Note)
      → new ≡ old ++ finds_in k None a → last ≡ new ++ finds_in k None b
      → last ≡ old ++ parts_find k want (binary p o a b)
  binary_found p o a b old new last h j = two_found old new last (finds_in k None a) (finds_in k None b) h j
      ∙ ap (λ fs. old ++ fs) (sym (parts_binary k want p o a b))

-- the standing after a condition, by the environment that it leaves
pub standing_after : (k : Standing) (env : Env) (holds : Test) (e : Expr)
    → env ≡ narrow k.context.bases k.declared k.context.resolve holds e k.env
    → (let s : Standing = record { context = k.context; declared = k.declared; env = env; keeps = k.keeps } in s)
    ≡ narrowed_standing k
    holds e
standing_after k env holds e h = ap (λ (x : Env). let s : Standing =
    record { context = k.context; declared = k.declared; env = x; keeps = k.keeps } in s) h

-- ---- displays

module _ (k : Standing) (want : Option Tree) (p : Place) where
  module _ (v : Vec RustExpr Global) (seat : ℕ → Seat) where
    pub list_is : (types : List Tree) → seat ≡ (λ i. item_seat (list_item (members_of_expected want)))
        → types ≡ types_in k seat (exprs_of_list v.items) → list_label k.context.bases
        (list_item (members_of_expected want)) types ≡ label_in k want (expr_of (View.List p v))
    list_is types s t =
        ap (λ ts. list_label k.context.bases (list_item (members_of_expected want)) ts)
        (t ∙ ap (λ (f : ℕ → Seat). types_in k f (exprs_of_list v.items)) s)
        ∙ sym (expected_list_label k want p (exprs_of_list v.items))
        ∙ ap (label_in k want) (sym (list_tree p v))

    pub list_found : (old new : List Note) → seat ≡ (λ i. item_seat (list_item (members_of_expected want)))
        → new ≡ old ++ items_find k seat (exprs_of_list v.items) → new ≡ old ++ parts_find k want
        (expr_of (View.List p v))
    list_found old new s h =
        h
        ∙ ap (λ (f : ℕ → Seat). old ++ items_find k f (exprs_of_list v.items)) s
        ∙ ap (λ fs. old ++ fs) (sym (parts_list k want p (exprs_of_list v.items)))
        ∙ ap (λ x. old ++ parts_find k want x) (sym (list_tree p v))

    module _ (n : ℕ) (length_is : n ≡ count_exprs (exprs_of_list v.items))
        (s : seat ≡ part_seat (tuple_parts n (members_of_expected want))) where
      seats_are : seat ≡ part_seat (tuple_parts (count_exprs (exprs_of_list v.items)) (members_of_expected want))
      seats_are = s ∙ ap (λ m. part_seat (tuple_parts m (members_of_expected want))) length_is

      pub tuple_is : (types : List Tree) → types ≡ types_in k seat (exprs_of_list v.items)
          → display_label (TupleOf (trees types)) ≡ label_in k want (expr_of (View.Tuple p v))
      tuple_is types t =
          ap (λ ts. display_label (TupleOf (trees ts))) (t ∙ ap (λ (f : ℕ → Seat). types_in k f (exprs_of_list v.items))
          seats_are)
          ∙ sym (label_tuple k want p (exprs_of_list v.items))
          ∙ ap (label_in k want) (sym (tuple_tree p v))

      pub tuple_found : (old new : List Note) → new ≡ old ++ items_find k seat (exprs_of_list v.items)
          → new ≡ old ++ parts_find k want (expr_of (View.Tuple p v))
      tuple_found old new h =
          h
          ∙ ap (λ (f : ℕ → Seat). old ++ items_find k f (exprs_of_list v.items)) seats_are
          ∙ ap (λ fs. old ++ fs) (sym (parts_tuple k want p (exprs_of_list v.items)))
          ∙ ap (λ x. old ++ parts_find k want x) (sym (tuple_tree p v))

  module _ (v : Vec RustEntry Global) (key value : Seat) (at_key : key
      ≡ key_seat (dict_parts (members_of_expected want))) (at_value : value
      ≡ value_seat (dict_parts (members_of_expected want))) where
    pub dict_is : (keys values : List Tree) → keys ≡ keys_in k key value (entries_of_list v.items)
        → values ≡ value_types_in k key value (entries_of_list v.items) →
        dict_label k.context k.declared (static_test k.context.bases) (assignable_test k.context.bases)
        (dict_parts (members_of_expected want)) keys values ≡ label_in k want (expr_of (View.Dict p v))
    dict_is keys values e f =
        ap (λ ts. dict_label k.context k.declared (static_test k.context.bases) (assignable_test k.context.bases)
        (dict_parts (members_of_expected want)) ts values) e
        ∙ ap (λ ts. dict_label k.context k.declared (static_test k.context.bases) (assignable_test k.context.bases)
        (dict_parts (members_of_expected want)) (keys_in k key value (entries_of_list v.items)) ts) f
        ∙ ap (λ (x : Seat). dict_label k.context k.declared (static_test k.context.bases)
        (assignable_test k.context.bases) (dict_parts (members_of_expected want))
        (keys_in k x value (entries_of_list v.items)) (value_types_in k x value (entries_of_list v.items))) at_key
        ∙ ap (λ (x : Seat). dict_label k.context k.declared (static_test k.context.bases)
        (assignable_test k.context.bases) (dict_parts (members_of_expected want))
        (keys_in k (key_seat (dict_parts (members_of_expected want))) x (entries_of_list v.items))
        (value_types_in k (key_seat (dict_parts (members_of_expected want))) x (entries_of_list v.items))) at_value
        ∙ sym (expected_dict_label k want p (entries_of_list v.items))
        ∙ ap (label_in k want) (sym (dict_tree p v))

    pub dict_found : (old new : List Note) → new ≡ old ++ entries_find k key value (entries_of_list v.items)
        → new ≡ old ++ parts_find k want (expr_of (View.Dict p v))
    dict_found old new h =
        h
        ∙ ap (λ (x : Seat). old ++ entries_find k x value (entries_of_list v.items)) at_key
        ∙ ap (λ (x : Seat). old ++ entries_find k (key_seat (dict_parts (members_of_expected want))) x
        (entries_of_list v.items)) at_value
        ∙ ap (λ fs. old ++ fs) (sym (parts_dict k want p (entries_of_list v.items)))
        ∙ ap (λ x. old ++ parts_find k want x) (sym (dict_tree p v))

-- the number of expressions in a list
pub counted : (es : List RustExpr) → length es ≡ count_exprs (exprs_of_list es)
counted [] = refl
counted (e ∷ es) = ap suc (counted es)
