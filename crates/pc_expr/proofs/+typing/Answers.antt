use Rattle.std.proofs.Common.{◌≡◌, ◌++◌, append_assoc, sym, ap, subst, ◌∙◌, map, None, length, arith, rules, true}
use Rattle.std.proofs.Common.{⊎_elim, ◌∷◌, []}
use Rattle.std.specs.Prelude.{All, false, string_bytes}
use Rattle.std.specs.Option.{option_map}
use Rattle.std.proofs.lemmas.List.{append-nil}
use Rattle.pc_tree.specs.Tree.{expr_of, name_of}
use Rattle.pc_tree.specs.Depth.{place_of}
use Rattle.pc_tree.specs.Lists.{exprs_of_list, keywords_of_list}
use Rattle.pc_tree.proofs.Trees.{tuple_tree, list_tree, dict_tree, call_tree}
use Rattle.pc_notes.specs.Notes.{notes_of}
use Rattle.pc_rules.specs.Computed.Standing.{standing_of, label_in, parts_find}
use Rattle.pc_expr.proofs.Forms.{label_name, parts_name, label_number, parts_number, label_text, parts_text}
use Rattle.pc_expr.proofs.Forms.{label_truth, parts_truth, label_nothing, parts_nothing, parts_negative, label_negation}
use Rattle.pc_expr.proofs.Forms.{parts_negation, label_is_none, parts_is_none, label_is_not_none, parts_is_not_none}
use Rattle.pc_expr.proofs.Forms.{parts_attribute, callee_name, callee_attribute, callee_other, callee_early}
use Rattle.pc_expr.proofs.Forms.{arguments_all}
use Rattle.pc_rules.proofs.Along.{labelled_by, on_ok, if_ok}
use Rattle.pc_expr.proofs.Typed.{noted_label}
use Rattle.pc_expr.proofs.Typed.{whole_found, negative_is, attribute_is, binary_is, binary_found, compare_is}
use Rattle.pc_expr.proofs.Typed.{compare_found, index_is, index_found, and_is, and_found, or_is, or_found}
use Rattle.pc_expr.proofs.Typed.{standing_after, codes_are, list_is, list_found, tuple_is, tuple_found, dict_is}
use Rattle.pc_expr.proofs.Typed.{dict_found, counted, type_is}
use Rattle.std.proofs.lemmas.List.Elements.{All-push, All-nil}
use Rattle.pc_rules.specs.Calls.{positional_seat, method_callee, named_seat}
use Rattle.pc_rules.specs.Computed.Expressions.{flows_of}
use Rattle.pc_rules.specs.Computed.Findings.{brief, once, flows_at, shows}
use Rattle.pc_calls.specs.JudgedCalls.{HasCallOffer, offer_called, given_with, rule_of, names_in}
use Rattle.pc_expr.specs.Internal.Seats.{seats_of, seat_with}
use Rattle.pc_expr.proofs.EntrySteps.{keys_step, values_step, entries_step, keys_end, values_end, entries_end}
use Rattle.pc_expr.proofs.EntrySteps.{keywords_step, keywords_end}
use Rattle.pc_rules.proofs.Kept.{keeps_both, entries_kept, stands_kept, types_kept}
use Rattle.pc_expr.proofs.WaysGiven.{negation_ways, and_ways, and_ways_agree, or_ways, or_ways_agree}
use Rattle.pc_expr.proofs.SeatsKept.{seats_kept, entry_seats_kept}
use Rattle.pc_expr.proofs.Steps.{seated_types, seated_finds, types_end, finds_end, early_step, early_end}
use Rattle.pc_tree.specs.declared.tree.Expr.{Expr as RustExpr}
use Rattle.pc_expr.specs.Typing.{callee_in}
use Rattle.pc_expr.proofs.CalleesTyped.{callee_as, two_arguments, two_types, two_early, first_found}
use Rattle.pc_expr.proofs.CallForms.{call_label_is, call_parts_found}
use Rattle.pc_calls.proofs.CallsKept.{offers_kept}
use Rattle.pc_scope.specs.Resolution.{is_one_of}
use Rattle.pc_calls.proofs.NamesGiven.{with_name, name_inserted}
use Rattle.pc_expr.proofs.NamesBefore.{same_with}
use Rattle.pc_tree.specs.declared.tree.Expr.TheFolds.{the_lemmas}
use Rattle.pc_rules.specs.Computed.ModuleParents.{class_parents}
use Rattle.pc_expr.proofs.ConditionsTyped.{negation_found, conjunction_found, disjunction_found}
use Rattle.pc_rules.proofs.TypingStates.{goes_further}
use Rattle.pc_expr.proofs.+typing.Goals as goal

pub typing::check_expr-returns-clause-found : goal.typing::check_expr-returns-clause-found
typing::check_expr-returns-clause-found g t c =
    whole_found g.S.TypeStore.tree (standing_of g.S.TypeStore.tree c.args.context.now c.args.env.now)
    (option_map g.S.TypeStore.tree c.args.want.now) (expr_of c.args.e.now) c.in_ok-label.label _ _ _
    c.in_ok-label.ensures.labelled.is c.in_ok-label.ensures.found
    (rw c.place.ensures at c.in_ok-note_label.ensures)

pub typing::type_expr-returns-in-Name-clause-labelled : goal.typing::type_expr-returns-in-Name-clause-labelled
typing::type_expr-returns-in-Name-clause-labelled g t c =
    rw c.in-Name.is (labelled_by g.S.TypeStore.has g.S.TypeStore.tree _ c.name_label.result _ _
    (sym (label_name (standing_of g.S.TypeStore.tree c.args.context.now c.args.env.now)
    (option_map g.S.TypeStore.tree c.args.want.now) (name_of c.in-Name.name))) c.name_label.ensures.value)

pub typing::type_expr-returns-in-Name-clause-found : goal.typing::type_expr-returns-in-Name-clause-found
typing::type_expr-returns-in-Name-clause-found g t c =
    rw c.in-Name.is (on_ok c.name_label.result (sym (append-nil (notes_of c.args.state.now.found.now))
    ∙ ap (λ fs. (notes_of c.args.state.now.found.now) ++ fs)
    (sym (parts_name (standing_of g.S.TypeStore.tree c.args.context.now c.args.env.now)
    (option_map g.S.TypeStore.tree c.args.want.now) (name_of c.in-Name.name)))))

pub typing::type_expr-returns-in-Int-clause-labelled : goal.typing::type_expr-returns-in-Int-clause-labelled
typing::type_expr-returns-in-Int-clause-labelled g t c =
    rw c.in-Int.is (labelled_by g.S.TypeStore.has g.S.TypeStore.tree _ c.int_label.result _ _
    (sym (label_number (standing_of g.S.TypeStore.tree c.args.context.now c.args.env.now)
    (option_map g.S.TypeStore.tree c.args.want.now) c.in-Int.field-0 (string_bytes c.in-Int.field-1)))
    c.int_label.ensures.value)

pub typing::type_expr-returns-in-Int-clause-found : goal.typing::type_expr-returns-in-Int-clause-found
typing::type_expr-returns-in-Int-clause-found g t c =
    rw c.in-Int.is (on_ok c.int_label.result (sym (append-nil (notes_of c.args.state.now.found.now))
    ∙ ap (λ fs. (notes_of c.args.state.now.found.now) ++ fs)
    (sym (parts_number (standing_of g.S.TypeStore.tree c.args.context.now c.args.env.now)
    (option_map g.S.TypeStore.tree c.args.want.now) c.in-Int.field-0 (string_bytes c.in-Int.field-1)))))

pub typing::type_expr-returns-in-Str-clause-labelled : goal.typing::type_expr-returns-in-Str-clause-labelled
typing::type_expr-returns-in-Str-clause-labelled g t c =
    rw c.in-Str.is (labelled_by g.S.TypeStore.has g.S.TypeStore.tree _ c.str_label.result _ _
    (sym (label_text (standing_of g.S.TypeStore.tree c.args.context.now c.args.env.now)
    (option_map g.S.TypeStore.tree c.args.want.now) c.in-Str.field-0 (string_bytes c.in-Str.field-1)))
    c.str_label.ensures.value)

pub typing::type_expr-returns-in-Str-clause-found : goal.typing::type_expr-returns-in-Str-clause-found
typing::type_expr-returns-in-Str-clause-found g t c =
    rw c.in-Str.is (on_ok c.str_label.result (sym (append-nil (notes_of c.args.state.now.found.now))
    ∙ ap (λ fs. (notes_of c.args.state.now.found.now) ++ fs)
    (sym (parts_text (standing_of g.S.TypeStore.tree c.args.context.now c.args.env.now)
    (option_map g.S.TypeStore.tree c.args.want.now) c.in-Str.field-0 (string_bytes c.in-Str.field-1)))))

pub typing::type_expr-returns-in-True-clause-labelled : goal.typing::type_expr-returns-in-True-clause-labelled
typing::type_expr-returns-in-True-clause-labelled g t c =
    rw c.in-True.is (labelled_by g.S.TypeStore.has g.S.TypeStore.tree _ c.bool_label.result _ _
    (sym (label_truth (standing_of g.S.TypeStore.tree c.args.context.now c.args.env.now)
    (option_map g.S.TypeStore.tree c.args.want.now) c.in-True.field-0 true)) c.bool_label.ensures.value)

pub typing::type_expr-returns-in-True-clause-found : goal.typing::type_expr-returns-in-True-clause-found
typing::type_expr-returns-in-True-clause-found g t c =
    rw c.in-True.is (on_ok c.bool_label.result (sym (append-nil (notes_of c.args.state.now.found.now))
    ∙ ap (λ fs. (notes_of c.args.state.now.found.now) ++ fs)
    (sym (parts_truth (standing_of g.S.TypeStore.tree c.args.context.now c.args.env.now)
    (option_map g.S.TypeStore.tree c.args.want.now) c.in-True.field-0 true))))

pub typing::type_expr-returns-in-False-clause-labelled : goal.typing::type_expr-returns-in-False-clause-labelled
typing::type_expr-returns-in-False-clause-labelled g t c =
    rw c.in-False.is (labelled_by g.S.TypeStore.has g.S.TypeStore.tree _ c.bool_label-in-False.result _ _
    (sym (label_truth (standing_of g.S.TypeStore.tree c.args.context.now c.args.env.now)
    (option_map g.S.TypeStore.tree c.args.want.now) c.in-False.field-0 false)) c.bool_label-in-False.ensures.value)

pub typing::type_expr-returns-in-False-clause-found : goal.typing::type_expr-returns-in-False-clause-found
typing::type_expr-returns-in-False-clause-found g t c =
    rw c.in-False.is (on_ok c.bool_label-in-False.result (sym (append-nil (notes_of c.args.state.now.found.now))
    ∙ ap (λ fs. (notes_of c.args.state.now.found.now) ++ fs)
    (sym (parts_truth (standing_of g.S.TypeStore.tree c.args.context.now c.args.env.now)
    (option_map g.S.TypeStore.tree c.args.want.now) c.in-False.field-0 false))))

pub typing::type_expr-returns-in-NoneValue-clause-labelled :
    goal.typing::type_expr-returns-in-NoneValue-clause-labelled
typing::type_expr-returns-in-NoneValue-clause-labelled g t c =
    rw c.in-NoneValue.is (labelled_by g.S.TypeStore.has g.S.TypeStore.tree _ c.none_label.result _ _
    (sym (label_nothing (standing_of g.S.TypeStore.tree c.args.context.now c.args.env.now)
    (option_map g.S.TypeStore.tree c.args.want.now) c.in-NoneValue.field-0)) c.none_label.ensures.value)

pub typing::type_expr-returns-in-NoneValue-clause-found : goal.typing::type_expr-returns-in-NoneValue-clause-found
typing::type_expr-returns-in-NoneValue-clause-found g t c =
    rw c.in-NoneValue.is (on_ok c.none_label.result (sym (append-nil (notes_of c.args.state.now.found.now))
    ∙ ap (λ fs. (notes_of c.args.state.now.found.now) ++ fs)
    (sym (parts_nothing (standing_of g.S.TypeStore.tree c.args.context.now c.args.env.now)
    (option_map g.S.TypeStore.tree c.args.want.now) c.in-NoneValue.field-0))))

pub typing::type_unary-returns-in_ok-operand-in-Negative-clause-found :
    goal.typing::type_unary-returns-in_ok-operand-in-Negative-clause-found
typing::type_unary-returns-in_ok-operand-in-Negative-clause-found g t c expected =
    rw c.in-Negative.is
    (on_ok c.negative_label.result ((rw c.deref.ensures at c.in_ok-operand-in-Negative.ensures.found)
    ∙ ap (λ fs. (notes_of c.args.state.now.found.now) ++ fs)
    (sym (parts_negative (standing_of g.S.TypeStore.tree c.args.context.now c.args.env.now) expected
    c.in-Negative.field-0 (expr_of c.in-Negative.operand.value)))))

pub typing::type_unary-returns-in_ok-operand-in-Negative-clause-labelled :
    goal.typing::type_unary-returns-in_ok-operand-in-Negative-clause-labelled
typing::type_unary-returns-in_ok-operand-in-Negative-clause-labelled g t c expected =
    rw c.in-Negative.is (labelled_by g.S.TypeStore.has g.S.TypeStore.tree _ c.negative_label.result _ _
    (negative_is g.S.TypeStore.tree (standing_of g.S.TypeStore.tree c.args.context.now c.args.env.now) expected
    c.in-Negative.field-0 (expr_of c.in-Negative.operand.value) c.in_ok-operand-in-Negative.operand
    (rw c.deref.ensures at c.in_ok-operand-in-Negative.ensures.labelled.is)) c.negative_label.ensures.value)

pub typing::type_unary-returns-in_ok-check_expr-in-Not-clause-found :
    goal.typing::type_unary-returns-in_ok-check_expr-in-Not-clause-found
typing::type_unary-returns-in_ok-check_expr-in-Not-clause-found g t c expected =
    rw c.in-Not.is (on_ok c.bool_label.result ((rw c.deref-in-Not.ensures at c.in_ok-check_expr-in-Not.ensures.found)
    ∙ ap (λ fs. (notes_of c.args.state.now.found.now) ++ fs)
    (sym (parts_negation (standing_of g.S.TypeStore.tree c.args.context.now c.args.env.now) expected
    c.in-Not.field-0 (expr_of c.in-Not.operand.value)))))

pub typing::type_unary-returns-in_ok-check_expr-in-Not-clause-labelled :
    goal.typing::type_unary-returns-in_ok-check_expr-in-Not-clause-labelled
typing::type_unary-returns-in_ok-check_expr-in-Not-clause-labelled g t c expected =
    rw c.in-Not.is (labelled_by g.S.TypeStore.has g.S.TypeStore.tree _ c.bool_label.result _ _
    (sym (label_negation (standing_of g.S.TypeStore.tree c.args.context.now c.args.env.now) expected
    c.in-Not.field-0 (expr_of c.in-Not.operand.value))) c.bool_label.ensures.value)

pub typing::type_unary-returns-in_ok-check_expr-in-IsNone-clause-found :
    goal.typing::type_unary-returns-in_ok-check_expr-in-IsNone-clause-found
typing::type_unary-returns-in_ok-check_expr-in-IsNone-clause-found g t c expected =
    rw c.in-IsNone.is (on_ok c.bool_label-in-IsNone.result
    ((rw c.deref-in-IsNone.ensures at c.in_ok-check_expr-in-IsNone.ensures.found)
    ∙ ap (λ fs. (notes_of c.args.state.now.found.now) ++ fs)
    (sym (parts_is_none (standing_of g.S.TypeStore.tree c.args.context.now c.args.env.now) expected
    c.in-IsNone.field-0 (expr_of c.in-IsNone.operand.value)))))

pub typing::type_unary-returns-in_ok-check_expr-in-IsNone-clause-labelled :
    goal.typing::type_unary-returns-in_ok-check_expr-in-IsNone-clause-labelled
typing::type_unary-returns-in_ok-check_expr-in-IsNone-clause-labelled g t c expected =
    rw c.in-IsNone.is (labelled_by g.S.TypeStore.has g.S.TypeStore.tree _ c.bool_label-in-IsNone.result _ _
    (sym (label_is_none (standing_of g.S.TypeStore.tree c.args.context.now c.args.env.now) expected
    c.in-IsNone.field-0 (expr_of c.in-IsNone.operand.value))) c.bool_label-in-IsNone.ensures.value)

pub typing::type_unary-returns-in_ok-check_expr-in-IsNotNone-clause-found :
    goal.typing::type_unary-returns-in_ok-check_expr-in-IsNotNone-clause-found
typing::type_unary-returns-in_ok-check_expr-in-IsNotNone-clause-found g t c expected =
    rw c.in-IsNotNone.is (on_ok c.bool_label-in-IsNotNone.result
    ((rw c.deref-in-IsNotNone.ensures at c.in_ok-check_expr-in-IsNotNone.ensures.found)
    ∙ ap (λ fs. (notes_of c.args.state.now.found.now) ++ fs)
    (sym (parts_is_not_none (standing_of g.S.TypeStore.tree c.args.context.now c.args.env.now) expected
    c.in-IsNotNone.field-0 (expr_of c.in-IsNotNone.operand.value)))))

pub typing::type_unary-returns-in_ok-check_expr-in-IsNotNone-clause-labelled :
    goal.typing::type_unary-returns-in_ok-check_expr-in-IsNotNone-clause-labelled
typing::type_unary-returns-in_ok-check_expr-in-IsNotNone-clause-labelled g t c expected =
    rw c.in-IsNotNone.is (labelled_by g.S.TypeStore.has g.S.TypeStore.tree _ c.bool_label-in-IsNotNone.result _ _
    (sym (label_is_not_none (standing_of g.S.TypeStore.tree c.args.context.now c.args.env.now) expected
    c.in-IsNotNone.field-0 (expr_of c.in-IsNotNone.operand.value))) c.bool_label-in-IsNotNone.ensures.value)

pub typing::type_unary-returns-in_ok-object-in-Attribute-clause-labelled :
    goal.typing::type_unary-returns-in_ok-object-in-Attribute-clause-labelled
typing::type_unary-returns-in_ok-object-in-Attribute-clause-labelled g t c expected =
    rw c.in-Attribute.is (labelled_by g.S.TypeStore.has g.S.TypeStore.tree _ c.attribute_label.result _ _
    (attribute_is g.S.TypeStore.tree (standing_of g.S.TypeStore.tree c.args.context.now c.args.env.now) expected
    c.in-Attribute.place (expr_of c.in-Attribute.object.value) (name_of c.in-Attribute.field)
    c.in_ok-object-in-Attribute.object (rw c.deref-in-Attribute.ensures at
    c.in_ok-object-in-Attribute.ensures.labelled.is)) c.attribute_label.ensures.value)

pub typing::type_unary-returns-in_ok-object-in-Attribute-clause-found :
    goal.typing::type_unary-returns-in_ok-object-in-Attribute-clause-found
typing::type_unary-returns-in_ok-object-in-Attribute-clause-found g t c expected =
    rw c.in-Attribute.is
    (on_ok c.attribute_label.result ((rw c.deref-in-Attribute.ensures at c.in_ok-object-in-Attribute.ensures.found)
    ∙ ap (λ fs. (notes_of c.args.state.now.found.now) ++ fs)
    (sym (parts_attribute (standing_of g.S.TypeStore.tree c.args.context.now c.args.env.now) expected
    c.in-Attribute.place (expr_of c.in-Attribute.object.value) (name_of c.in-Attribute.field)))))

pub typing::type_binary-returns-in_ok-second-in-Binary-clause-labelled :
    goal.typing::type_binary-returns-in_ok-second-in-Binary-clause-labelled
typing::type_binary-returns-in_ok-second-in-Binary-clause-labelled g t c expected =
    rw c.in-Binary.is (labelled_by g.S.TypeStore.has g.S.TypeStore.tree _ c.binary_label.result _ _
    (binary_is g.S.TypeStore.tree (standing_of g.S.TypeStore.tree c.args.context.now c.args.env.now) expected
    c.in-Binary.place (expr_of c.in-Binary.left.value) (expr_of c.in-Binary.right.value)
    c.in_ok-first-in-Binary.first c.in_ok-second-in-Binary.second
    (rw c.deref.ensures at c.in_ok-first-in-Binary.ensures.labelled.is) c.in-Binary.operator
    (rw c.deref-in-Binary.ensures at c.in_ok-second-in-Binary.ensures.labelled.is)) c.binary_label.ensures.value)

pub typing::type_binary-returns-in_ok-second-in-Binary-clause-found :
    goal.typing::type_binary-returns-in_ok-second-in-Binary-clause-found
typing::type_binary-returns-in_ok-second-in-Binary-clause-found g t c expected =
    rw c.in-Binary.is (on_ok c.binary_label.result (binary_found g.S.TypeStore.tree
    (standing_of g.S.TypeStore.tree c.args.context.now c.args.env.now) expected c.in-Binary.place
    c.in-Binary.operator (expr_of c.in-Binary.left.value) (expr_of c.in-Binary.right.value) _ _ _
    (rw c.deref.ensures at c.in_ok-first-in-Binary.ensures.found)
    (rw c.deref-in-Binary.ensures at c.in_ok-second-in-Binary.ensures.found)))

pub typing::type_binary-returns-in_ok-second-in-Compare-clause-labelled :
    goal.typing::type_binary-returns-in_ok-second-in-Compare-clause-labelled
typing::type_binary-returns-in_ok-second-in-Compare-clause-labelled g t c expected =
    rw c.in-Compare.is (labelled_by g.S.TypeStore.has g.S.TypeStore.tree _ c.type_comparison.result _ _
    (compare_is g.S.TypeStore.tree (standing_of g.S.TypeStore.tree c.args.context.now c.args.env.now) expected
    c.in-Compare.place (expr_of c.in-Compare.left.value) (expr_of c.in-Compare.right.value)
    c.in_ok-first-in-Compare.first c.in_ok-second-in-Compare.second
    (rw c.deref-in-Compare.ensures at c.in_ok-first-in-Compare.ensures.labelled.is) c.in-Compare.operator
    (rw c.deref-in-Compare-2.ensures at c.in_ok-second-in-Compare.ensures.labelled.is))
    c.type_comparison.ensures.value)

pub typing::type_binary-returns-in_ok-second-in-Compare-clause-found :
    goal.typing::type_binary-returns-in_ok-second-in-Compare-clause-found
typing::type_binary-returns-in_ok-second-in-Compare-clause-found g t c expected =
    rw c.in-Compare.is (if_ok c.type_comparison.result (λ i. compare_found g.S.TypeStore.tree
    (standing_of g.S.TypeStore.tree c.args.context.now c.args.env.now) expected c.in-Compare.place
    (expr_of c.in-Compare.left.value) (expr_of c.in-Compare.right.value) c.in_ok-first-in-Compare.first
    c.in_ok-second-in-Compare.second (rw c.deref-in-Compare.ensures at c.in_ok-first-in-Compare.ensures.labelled.is)
    c.in-Compare.operator _ _ _ _ (rw c.deref-in-Compare-2.ensures at c.in_ok-second-in-Compare.ensures.labelled.is)
    (rw c.deref-in-Compare.ensures at c.in_ok-first-in-Compare.ensures.found)
    (rw c.deref-in-Compare-2.ensures at c.in_ok-second-in-Compare.ensures.found) i)
    (rw c.deref-in-Compare-3.ensures at (c.type_comparison.ensures.found
    (label_in (standing_of g.S.TypeStore.tree c.args.context.now c.args.env.now) None
    (expr_of c.in-Compare.left.value)) (rw c.deref-in-Compare.ensures at
    c.in_ok-first-in-Compare.ensures.labelled.is))))

pub typing::type_binary-returns-in_ok-index-in-Index-clause-labelled :
    goal.typing::type_binary-returns-in_ok-index-in-Index-clause-labelled
typing::type_binary-returns-in_ok-index-in-Index-clause-labelled g t c expected =
    rw c.in-Index.is (labelled_by g.S.TypeStore.has g.S.TypeStore.tree _ c.type_index.result _ _
    (index_is g.S.TypeStore.tree (standing_of g.S.TypeStore.tree c.args.context.now c.args.env.now) expected
    c.in-Index.place (expr_of c.in-Index.object.value) (expr_of c.in-Index.key.value)
    c.in_ok-object-in-Index.object c.in_ok-index-in-Index.index
    (rw c.deref-in-Index.ensures at c.in_ok-object-in-Index.ensures.labelled.is))
    (rw c.deref-in-Index-3.ensures at c.type_index.ensures.value))

pub typing::type_binary-returns-in_ok-index-in-Index-clause-found :
    goal.typing::type_binary-returns-in_ok-index-in-Index-clause-found
typing::type_binary-returns-in_ok-index-in-Index-clause-found g t c expected =
    rw c.in-Index.is (if_ok c.type_index.result (λ i. index_found g.S.TypeStore.tree
    (standing_of g.S.TypeStore.tree c.args.context.now c.args.env.now) expected c.in-Index.place
    (expr_of c.in-Index.object.value) (expr_of c.in-Index.key.value) c.in_ok-object-in-Index.object
    c.in_ok-index-in-Index.index (rw c.deref-in-Index.ensures at c.in_ok-object-in-Index.ensures.labelled.is) _ _ _
    _ (rw c.deref-in-Index.ensures at c.in_ok-object-in-Index.ensures.found)
    (rw c.deref-in-Index-2.ensures at c.in_ok-index-in-Index.ensures.found) i)
    (rw c.deref-in-Index-3.ensures at (c.type_index.ensures.found
    (label_in (standing_of g.S.TypeStore.tree c.args.context.now c.args.env.now) None
    (expr_of c.in-Index.key.value)) (rw c.deref-in-Index-2.ensures at c.in_ok-index-in-Index.ensures.labelled.is))))

pub typing::type_connective-returns-in_ok-second-in-And-clause-labelled :
    goal.typing::type_connective-returns-in_ok-second-in-And-clause-labelled
typing::type_connective-returns-in_ok-second-in-And-clause-labelled g t c expected =
    rw c.in-And.is (labelled_by g.S.TypeStore.has g.S.TypeStore.tree _ c.junction_label.result _ _
    (and_is g.S.TypeStore.tree (standing_of g.S.TypeStore.tree c.args.context.now c.args.env.now) expected
    c.in-And.place (expr_of c.in-And.left.value) (expr_of c.in-And.right.value) c.in_ok-first-in-And.first.label
    c.in_ok-second-in-And.second (rw c.deref.ensures at c.in_ok-first-in-And.ensures.labelled.is)
    (standing_of g.S.TypeStore.tree c.args.context.now c.in_ok-first-in-And.first.ways.where_true)
    (rw c.deref-in-And.ensures at c.in_ok-second-in-And.ensures.labelled.is)
    (standing_after (standing_of g.S.TypeStore.tree c.args.context.now c.args.env.now) _ true
    (expr_of c.in-And.left.value) (rw c.deref.ensures at c.in_ok-first-in-And.ensures.ways.where_true)))
    c.junction_label.ensures.value)

pub typing::type_connective-returns-in_ok-second-in-And-clause-found :
    goal.typing::type_connective-returns-in_ok-second-in-And-clause-found
typing::type_connective-returns-in_ok-second-in-And-clause-found g t c expected =
    rw c.in-And.is (on_ok c.junction_label.result (and_found g.S.TypeStore.tree
    (standing_of g.S.TypeStore.tree c.args.context.now c.args.env.now) expected c.in-And.place
    (expr_of c.in-And.left.value) (expr_of c.in-And.right.value)
    (standing_of g.S.TypeStore.tree c.args.context.now c.in_ok-first-in-And.first.ways.where_true) _ _ _
    (standing_after (standing_of g.S.TypeStore.tree c.args.context.now c.args.env.now) _ true
    (expr_of c.in-And.left.value) (rw c.deref.ensures at c.in_ok-first-in-And.ensures.ways.where_true))
    (rw c.deref.ensures at c.in_ok-first-in-And.ensures.found)
    (rw c.deref-in-And.ensures at c.in_ok-second-in-And.ensures.found)))

pub typing::type_connective-returns-in_ok-second-in-Or-clause-labelled :
    goal.typing::type_connective-returns-in_ok-second-in-Or-clause-labelled
typing::type_connective-returns-in_ok-second-in-Or-clause-labelled g t c expected =
    rw c.in-Or.is (labelled_by g.S.TypeStore.has g.S.TypeStore.tree _ c.junction_label-in-Or.result _ _
    (or_is g.S.TypeStore.tree (standing_of g.S.TypeStore.tree c.args.context.now c.args.env.now) expected
    c.in-Or.place (expr_of c.in-Or.left.value) (expr_of c.in-Or.right.value) c.in_ok-first-in-Or.first.label
    c.in_ok-second-in-Or.second (rw c.deref-in-Or.ensures at c.in_ok-first-in-Or.ensures.labelled.is)
    (standing_of g.S.TypeStore.tree c.args.context.now c.in_ok-first-in-Or.first.ways.where_false)
    (rw c.deref-in-Or-2.ensures at c.in_ok-second-in-Or.ensures.labelled.is)
    (standing_after (standing_of g.S.TypeStore.tree c.args.context.now c.args.env.now) _ false
    (expr_of c.in-Or.left.value) (rw c.deref-in-Or.ensures at c.in_ok-first-in-Or.ensures.ways.where_false)))
    c.junction_label-in-Or.ensures.value)

pub typing::type_connective-returns-in_ok-second-in-Or-clause-found :
    goal.typing::type_connective-returns-in_ok-second-in-Or-clause-found
typing::type_connective-returns-in_ok-second-in-Or-clause-found g t c expected =
    rw c.in-Or.is (on_ok c.junction_label-in-Or.result (or_found g.S.TypeStore.tree
    (standing_of g.S.TypeStore.tree c.args.context.now c.args.env.now) expected c.in-Or.place
    (expr_of c.in-Or.left.value) (expr_of c.in-Or.right.value)
    (standing_of g.S.TypeStore.tree c.args.context.now c.in_ok-first-in-Or.first.ways.where_false) _ _ _
    (standing_after (standing_of g.S.TypeStore.tree c.args.context.now c.args.env.now) _ false
    (expr_of c.in-Or.left.value) (rw c.deref-in-Or.ensures at c.in_ok-first-in-Or.ensures.ways.where_false))
    (rw c.deref-in-Or.ensures at c.in_ok-first-in-Or.ensures.found)
    (rw c.deref-in-Or-2.ensures at c.in_ok-second-in-Or.ensures.found)))

pub typing::type_unary-attribute_label-requires-clause-classes :
    goal.typing::type_unary-attribute_label-requires-clause-classes
typing::type_unary-attribute_label-requires-clause-classes g t c =
    entries_kept (g.S.TypeStore.has _) (g.S.TypeStore.has _) c.check_expr-in-Attribute.ensures.goes_on.kept
    c.args.context.now.globals.now.classes.now c.requires.given.classes

pub typing::type_binary-type_index-requires-clause-classes :
    goal.typing::type_binary-type_index-requires-clause-classes
typing::type_binary-type_index-requires-clause-classes g t c =
    entries_kept (g.S.TypeStore.has _) (g.S.TypeStore.has _) (keeps_both g.S.TypeStore.has _ _ _
    c.check_expr-in-Index.ensures.goes_on.kept c.check_expr-in-Index-2.ensures.goes_on.kept)
    c.args.context.now.globals.now.classes.now c.requires.given.classes

pub displays::type_display-returns-in_ok-types-in-List-clause-labelled :
    goal.displays::type_display-returns-in_ok-types-in-List-clause-labelled
displays::type_display-returns-in_ok-types-in-List-clause-labelled g t c =
    rw c.in-List.is (labelled_by g.S.TypeStore.has g.S.TypeStore.tree _ c.expected_list_label.result _ _
    (list_is (standing_of g.S.TypeStore.tree c.args.context.now c.args.env.now)
    (option_map g.S.TypeStore.tree c.args.want.now) c.in-List.field-0 c.in-List.items _ _
    c.in_ok-seats-in-List.ensures.value (rw c.deref-in-List.ensures.value at c.in_ok-types-in-List.ensures.typed))
    (rw c.deref-in-List-2.ensures.value at c.expected_list_label.ensures.value))

pub displays::type_display-returns-in_ok-types-in-List-clause-found :
    goal.displays::type_display-returns-in_ok-types-in-List-clause-found
displays::type_display-returns-in_ok-types-in-List-clause-found g t c =
    rw c.in-List.is
    (on_ok c.expected_list_label.result (list_found (standing_of g.S.TypeStore.tree c.args.context.now c.args.env.now)
    (option_map g.S.TypeStore.tree c.args.want.now) c.in-List.field-0 c.in-List.items _ _ _
    c.in_ok-seats-in-List.ensures.value (rw c.deref-in-List.ensures.value at c.in_ok-types-in-List.ensures.found)))

pub displays::type_display-returns-in_ok-types-in-Tuple-clause-labelled :
    goal.displays::type_display-returns-in_ok-types-in-Tuple-clause-labelled
displays::type_display-returns-in_ok-types-in-Tuple-clause-labelled g t c =
    rw c.in-Tuple.is (labelled_by g.S.TypeStore.has g.S.TypeStore.tree _ c.tuple_label.result _ _
    (tuple_is (standing_of g.S.TypeStore.tree c.args.context.now c.args.env.now)
    (option_map g.S.TypeStore.tree c.args.want.now) c.in-Tuple.field-0 c.in-Tuple.items _ _
    (let e : c.len.result ≡ length c.in-Tuple.items.items = omega (arith, c.len.ensures, c.in-Tuple.items.ok.0) in e
    ∙ counted c.in-Tuple.items.items) c.in_ok-seats-in-Tuple.ensures.value _
    (rw c.deref.ensures.value at c.in_ok-types-in-Tuple.ensures.typed))
    (rw c.deref-in-Tuple.ensures.value at c.tuple_label.ensures.value))

pub displays::type_display-returns-in_ok-types-in-Tuple-clause-found :
    goal.displays::type_display-returns-in_ok-types-in-Tuple-clause-found
displays::type_display-returns-in_ok-types-in-Tuple-clause-found g t c =
    rw c.in-Tuple.is
    (on_ok c.tuple_label.result (tuple_found (standing_of g.S.TypeStore.tree c.args.context.now c.args.env.now)
    (option_map g.S.TypeStore.tree c.args.want.now) c.in-Tuple.field-0 c.in-Tuple.items _ _
    (let e : c.len.result ≡ length c.in-Tuple.items.items = omega (arith, c.len.ensures, c.in-Tuple.items.ok.0) in e
    ∙ counted c.in-Tuple.items.items) c.in_ok-seats-in-Tuple.ensures.value _ _
    (rw c.deref.ensures.value at c.in_ok-types-in-Tuple.ensures.found)))

pub displays::type_display-returns-in_ok-types-in-Dict-clause-labelled :
    goal.displays::type_display-returns-in_ok-types-in-Dict-clause-labelled
displays::type_display-returns-in_ok-types-in-Dict-clause-labelled g t c =
    rw c.in-Dict.is (labelled_by g.S.TypeStore.has g.S.TypeStore.tree _ c.expected_dict_label.result _ _
    (dict_is (standing_of g.S.TypeStore.tree c.args.context.now c.args.env.now)
    (option_map g.S.TypeStore.tree c.args.want.now) c.in-Dict.field-0 c.in-Dict.entries _ _
    c.in_ok-seats-in-Dict.ensures.keys c.in_ok-seats-in-Dict.ensures.values _ _
    (rw c.deref-in-Dict.ensures.value at c.in_ok-types-in-Dict.ensures.typed.keys)
    (rw c.deref-in-Dict.ensures.value at c.in_ok-types-in-Dict.ensures.typed.values)) c.expected_dict_label.ensures.value)

pub displays::type_display-returns-in_ok-types-in-Dict-clause-found :
    goal.displays::type_display-returns-in_ok-types-in-Dict-clause-found
displays::type_display-returns-in_ok-types-in-Dict-clause-found g t c =
    rw c.in-Dict.is
    (on_ok c.expected_dict_label.result (dict_found (standing_of g.S.TypeStore.tree c.args.context.now c.args.env.now)
    (option_map g.S.TypeStore.tree c.args.want.now) c.in-Dict.field-0 c.in-Dict.entries _ _
    c.in_ok-seats-in-Dict.ensures.keys c.in_ok-seats-in-Dict.ensures.values _ _
    (rw c.deref-in-Dict.ensures.value at c.in_ok-types-in-Dict.ensures.found)))

pub displays::type_items-loop-item-preserved : goal.displays::type_items-loop-item-preserved
displays::type_items-loop-item-preserved g t c =
    let v = c.loop-item.invariant in
    let k = c.type_seated.ensures.goes_on.kept in
    let at : c.len.result ≡ c.loop-item.item-index = c.len.ensures ∙ v.count in
    let wants = c.in_ok-seat.ensures.wants ∙ ap (λ n. (seats_of g.S.TypeStore.tree c.args.seats.now n).want) at in
    let flows = c.in_ok-seat.ensures.flows ∙ ap (λ n. (seats_of g.S.TypeStore.tree c.args.seats.now n).into) at in
    record {
      count = omega (arith, v.count, c.in_ok-push.ensures);
      given = stands_kept (g.S.TypeStore.has _) (g.S.TypeStore.has _) k g.S.TypeStore.tree c.args.context.now
          c.args.env.now v.given;
      seats = seats_kept (g.S.TypeStore.has _) (g.S.TypeStore.has _) k c.args.seats.now v.seats;
      held = rw c.in_ok-push.ensures.items (All-push (g.S.TypeStore.has _) _ _
          (types_kept (g.S.TypeStore.has _) (g.S.TypeStore.has _) k _ v.held) (c.in_ok-label.ensures.labelled.given));
      types = rw c.in_ok-push.ensures.items (seated_types (standing_of g.S.TypeStore.tree c.args.context.now
          c.args.env.now) (seats_of g.S.TypeStore.tree c.args.seats.now) c.args.items.now c.loop-item.item-index
          c.item-item.result c.loop-item-test.true c.item-item.is _ wants g.S.TypeStore.tree _ c.in_ok-label.label _
          c.in_ok-label.ensures.labelled.is v.types);
      found = seated_finds (standing_of g.S.TypeStore.tree c.args.context.now c.args.env.now)
          (seats_of g.S.TypeStore.tree c.args.seats.now) c.args.items.now c.loop-item.item-index c.item-item.result
          c.loop-item-test.true c.item-item.is _ wants _ flows _ _ _ c.in_ok-label.ensures.found v.found;
      goes_on = goes_further v.goes_on c.type_seated.ensures.goes_on;
    }

pub displays::type_entries-loop-entry-preserved : goal.displays::type_entries-loop-entry-preserved
displays::type_entries-loop-entry-preserved g t c =
    let v = c.loop-entry.invariant in
    let k2 = c.type_seated-in-loop-entry.ensures.goes_on.kept in
    let k = keeps_both g.S.TypeStore.has _ _ _ c.type_seated.ensures.goes_on.kept k2 in
    record {
      given = stands_kept (g.S.TypeStore.has _) (g.S.TypeStore.has _) k g.S.TypeStore.tree c.args.context.now
          c.args.env.now v.given;
      seats = entry_seats_kept (g.S.TypeStore.has _) (g.S.TypeStore.has _) k c.args.seats.now v.seats;
      held_keys = rw c.in_ok-push.ensures.items (All-push (g.S.TypeStore.has _) _ _
          (types_kept (g.S.TypeStore.has _) (g.S.TypeStore.has _) k _ v.held_keys)
          (k2 _ c.in_ok-key.ensures.labelled.given));
      held_values = rw c.in_ok-push-2.ensures.items (All-push (g.S.TypeStore.has _) _ _
          (types_kept (g.S.TypeStore.has _) (g.S.TypeStore.has _) k _ v.held_values)
          c.in_ok-value.ensures.labelled.given);
      keys = rw c.in_ok-push.ensures.items (keys_step (standing_of g.S.TypeStore.tree c.args.context.now c.args.env.now)
          (seat_with g.S.TypeStore.tree c.args.seats.now.key) (seat_with g.S.TypeStore.tree c.args.seats.now.value)
          c.args.entries.now c.loop-entry.entry-index c.entry-item.result c.loop-entry-test.true c.entry-item.is
          g.S.TypeStore.tree _ c.in_ok-key.key _ c.in_ok-key.ensures.labelled.is v.keys);
      values = rw c.in_ok-push-2.ensures.items (values_step (standing_of g.S.TypeStore.tree c.args.context.now
          c.args.env.now) (seat_with g.S.TypeStore.tree c.args.seats.now.key)
          (seat_with g.S.TypeStore.tree c.args.seats.now.value) c.args.entries.now c.loop-entry.entry-index
          c.entry-item.result c.loop-entry-test.true c.entry-item.is g.S.TypeStore.tree _ c.in_ok-value.value _
          c.in_ok-value.ensures.labelled.is v.values);
      found = entries_step (standing_of g.S.TypeStore.tree c.args.context.now c.args.env.now)
          (seat_with g.S.TypeStore.tree c.args.seats.now.key) (seat_with g.S.TypeStore.tree c.args.seats.now.value)
          c.args.entries.now c.loop-entry.entry-index c.entry-item.result c.loop-entry-test.true c.entry-item.is _ _ _ _
          c.in_ok-key.ensures.found c.in_ok-value.ensures.found v.found;
      goes_on = goes_further v.goes_on (goes_further c.type_seated.ensures.goes_on
          c.type_seated-in-loop-entry.ensures.goes_on);
    }

pub displays::type_entries-returns-clause-typed : goal.displays::type_entries-returns-clause-typed
displays::type_entries-returns-clause-typed g t c =
    record {
      given_keys = c.loop-entry.invariant.held_keys;
      given_values = c.loop-entry.invariant.held_values;
      keys =
          keys_end (standing_of g.S.TypeStore.tree c.args.context.now c.args.env.now)
          (seat_with g.S.TypeStore.tree c.args.seats.now.key) (seat_with g.S.TypeStore.tree c.args.seats.now.value)
          c.args.entries.now c.loop-entry.entry-index (omega arith) _ _ c.loop-entry.invariant.keys;
      values =
          values_end (standing_of g.S.TypeStore.tree c.args.context.now c.args.env.now)
          (seat_with g.S.TypeStore.tree c.args.seats.now.key) (seat_with g.S.TypeStore.tree c.args.seats.now.value)
          c.args.entries.now c.loop-entry.entry-index (omega arith) _ _ c.loop-entry.invariant.values;
    }

pub displays::type_entries-returns-clause-found : goal.displays::type_entries-returns-clause-found
displays::type_entries-returns-clause-found g t c =
    entries_end (standing_of g.S.TypeStore.tree c.args.context.now c.args.env.now)
    (seat_with g.S.TypeStore.tree c.args.seats.now.key) (seat_with g.S.TypeStore.tree c.args.seats.now.value)
    c.args.entries.now c.loop-entry.entry-index (omega arith) _ _ c.loop-entry.invariant.found

pub displays::type_items-returns-clause-typed : goal.displays::type_items-returns-clause-typed
displays::type_items-returns-clause-typed g t c =
    types_end (standing_of g.S.TypeStore.tree c.args.context.now c.args.env.now)
    (seats_of g.S.TypeStore.tree c.args.seats.now) c.args.items.now c.loop-item.item-index (omega arith) _ _
    c.loop-item.invariant.types

pub displays::type_items-returns-clause-found : goal.displays::type_items-returns-clause-found
displays::type_items-returns-clause-found g t c =
    finds_end (standing_of g.S.TypeStore.tree c.args.context.now c.args.env.now)
    (seats_of g.S.TypeStore.tree c.args.seats.now) c.args.items.now c.loop-item.item-index (omega arith) _ _
    c.loop-item.invariant.found

pub calls::type_callee-callee_of_method-requires-clause-classes :
    goal.calls::type_callee-callee_of_method-requires-clause-classes
calls::type_callee-callee_of_method-requires-clause-classes g t c = entries_kept (g.S.TypeStore.has _)
    (g.S.TypeStore.has _) c.check_expr.ensures.goes_on.kept c.args.context.now.globals.now.classes.now
    c.requires.given.classes

pub calls::type_callee-returns-then-context-clause-called : goal.calls::type_callee-returns-then-context-clause-called
calls::type_callee-returns-then-context-clause-called g t c =
    rw c.in-Attribute.is (callee_as g.S.TypeStore.has g.S.TypeStore.tree _ c.callee_of_method.result _ _
    (ap (λ t. method_callee (standing_of g.S.TypeStore.tree c.args.context.now c.args.env.now).context
    (given_with c.args.given.now) (name_of c.in-Attribute.field).text t)
    (type_is g.S.TypeStore.tree c.in_ok-label-in-Attribute.label
    (label_in (standing_of g.S.TypeStore.tree c.args.context.now c.args.env.now) None
    (expr_of c.in-Attribute.object.value)) (rw c.deref.ensures at c.in_ok-label-in-Attribute.ensures.labelled.is))
    ∙ sym (callee_attribute (standing_of g.S.TypeStore.tree c.args.context.now c.args.env.now)
    (given_with c.args.given.now) c.in-Attribute.place (expr_of c.in-Attribute.object.value)
    (name_of c.in-Attribute.field) c.if-context.true)) c.callee_of_method.ensures.callee)

pub calls::type_callee-returns-then-context-clause-found : goal.calls::type_callee-returns-then-context-clause-found
calls::type_callee-returns-then-context-clause-found g t c =
    rw c.in-Attribute.is
    (on_ok c.callee_of_method.result ((rw c.deref.ensures at c.in_ok-label-in-Attribute.ensures.found)
    ∙ ap (λ fs. (notes_of c.args.state.now.found.now) ++ fs)
    (sym (parts_attribute (standing_of g.S.TypeStore.tree c.args.context.now c.args.env.now) None c.in-Attribute.place
    (expr_of c.in-Attribute.object.value) (name_of c.in-Attribute.field)))))

pub calls::type_callee-returns-in-Name-clause-called : goal.calls::type_callee-returns-in-Name-clause-called
calls::type_callee-returns-in-Name-clause-called g t c = rw c.in-Name.is
    (callee_as g.S.TypeStore.has g.S.TypeStore.tree _ c.callee_of_name.result _ _
    (sym (callee_name (standing_of g.S.TypeStore.tree c.args.context.now c.args.env.now) (given_with c.args.given.now)
    (name_of c.in-Name.name))) c.callee_of_name.ensures.callee)

pub calls::type_callee-returns-in-Name-clause-found : goal.calls::type_callee-returns-in-Name-clause-found
calls::type_callee-returns-in-Name-clause-found g t c = rw c.in-Name.is
    (on_ok c.callee_of_name.result (sym (append-nil (notes_of c.args.state.now.found.now))
    ∙ ap (λ fs. (notes_of c.args.state.now.found.now) ++ fs)
    (sym (parts_name (standing_of g.S.TypeStore.tree c.args.context.now c.args.env.now) None
    (name_of c.in-Name.name)))))

pub calls::type_callee-returns-in_ok-label-in-Attribute-2-clause-called :
    goal.calls::type_callee-returns-in_ok-label-in-Attribute-2-clause-called
calls::type_callee-returns-in_ok-label-in-Attribute-2-clause-called g t c =
    callee_as g.S.TypeStore.has g.S.TypeStore.tree _ c.callee_of_other.result _ _
    (sym (rw c.in-Attribute.is (callee_early (standing_of g.S.TypeStore.tree c.args.context.now c.args.env.now)
    (given_with c.args.given.now) c.in-Attribute.place (expr_of c.in-Attribute.object.value)
    (name_of c.in-Attribute.field) c.if-context.false))) (c.callee_of_other.ensures.callee
    (label_in (standing_of g.S.TypeStore.tree c.args.context.now c.args.env.now) None (expr_of c.args.callee.now))
    c.in_ok-label-in-Attribute-2.ensures.labelled.is)

pub calls::type_callee-returns-in_ok-label-in-Int-clause-called :
    goal.calls::type_callee-returns-in_ok-label-in-Int-clause-called
calls::type_callee-returns-in_ok-label-in-Int-clause-called g t c =
    let other : shows (expr_of c.args.callee.now) ≡ true =
    (⊎_elim (λ t. ap (λ (x : RustExpr). shows (expr_of x)) t.2)
    (⊎_elim (λ t. ap (λ (x : RustExpr). shows (expr_of x)) t.2)
    (⊎_elim (λ t. ap (λ (x : RustExpr). shows (expr_of x)) t.1)
    (⊎_elim (λ t. ap (λ (x : RustExpr). shows (expr_of x)) t.1)
    (⊎_elim (λ t. ap (λ (x : RustExpr). shows (expr_of x)) t.1)
    (⊎_elim (λ t. ap (λ (x : RustExpr). shows (expr_of x)) t.2 ∙ ap shows (tuple_tree t.0 t.1))
    (⊎_elim (λ t. ap (λ (x : RustExpr). shows (expr_of x)) t.2 ∙ ap shows (list_tree t.0 t.1))
    (⊎_elim (λ t. ap (λ (x : RustExpr). shows (expr_of x)) t.2 ∙ ap shows (dict_tree t.0 t.1))
    (⊎_elim (λ t. ap (λ (x : RustExpr). shows (expr_of x)) t.2)
    (⊎_elim (λ t. ap (λ (x : RustExpr). shows (expr_of x)) t.2)
    (⊎_elim (λ t. ap (λ (x : RustExpr). shows (expr_of x)) t.4)
    (⊎_elim (λ t. ap (λ (x : RustExpr). shows (expr_of x)) t.4)
    (⊎_elim (λ t. ap (λ (x : RustExpr). shows (expr_of x)) t.2)
    (⊎_elim (λ t. ap (λ (x : RustExpr). shows (expr_of x)) t.2)
    (⊎_elim (λ t. ap (λ (x : RustExpr). shows (expr_of x)) t.3)
    (⊎_elim (λ t. ap (λ (x : RustExpr). shows (expr_of x)) t.3)
    (⊎_elim (λ t. ap (λ (x : RustExpr). shows (expr_of x)) t.3)
    (λ t. ap (λ (x : RustExpr). shows (expr_of x)) t.4 ∙ ap shows (call_tree t.0 t.1 t.2 t.3)))))))))))))))))))
    c.in-Int.is in
    callee_as g.S.TypeStore.has g.S.TypeStore.tree _ c.callee_of_other-in-Int.result _ _
    (sym (callee_other (standing_of g.S.TypeStore.tree c.args.context.now c.args.env.now)
    (given_with c.args.given.now) (expr_of c.args.callee.now) other))
    (c.callee_of_other-in-Int.ensures.callee
    (label_in (standing_of g.S.TypeStore.tree c.args.context.now c.args.env.now) None (expr_of c.args.callee.now))
    c.in_ok-label-in-Int.ensures.labelled.is)

pub calls::type_call-type_whole_call-requires-clause-classes : goal.calls::type_call-type_whole_call-requires-clause-classes
calls::type_call-type_whole_call-requires-clause-classes g t c =
    entries_kept (g.S.TypeStore.has _) (g.S.TypeStore.has _) (keeps_both g.S.TypeStore.has _ _ _
    (keeps_both g.S.TypeStore.has _ _ _ c.type_callee.ensures.goes_on.kept c.type_arguments.ensures.goes_on.kept)
    c.type_keywords.ensures.goes_on.kept) c.args.context.now.globals.now.classes.now c.requires.given.classes

pub calls::type_call-returns-clause-labelled : goal.calls::type_call-returns-clause-labelled
calls::type_call-returns-clause-labelled g t c expected =
    rw c.in-Call.is (labelled_by g.S.TypeStore.has g.S.TypeStore.tree _ c.type_whole_call.result _ _
    (call_label_is (standing_of g.S.TypeStore.tree c.args.context.now c.args.env.now) expected c.in-Call.place
    (expr_of c.in-Call.callee.value) (exprs_of_list c.in-Call.arguments.items)
    (keywords_of_list c.in-Call.by_name.items) (given_with c.in_ok-given-in-Call.given)
    (rw (c.deref.ensures.value, c.deref-in-Call.ensures.value) at c.in_ok-given-in-Call.ensures)
    (rule_of c.in_ok-called-in-Call.called.rule) (map (offer_called g.S.TypeStore.tree)
    c.in_ok-called-in-Call.called.offers.items) (rw c.deref-in-Call-2.ensures at
    c.in_ok-called-in-Call.ensures.called.rule) (rw c.deref-in-Call-2.ensures at
    c.in_ok-called-in-Call.ensures.called.offers) _
    (rw (c.deref-in-Call-8.ensures.value, c.deref-in-Call-9.ensures.value) at
    c.in_ok-typed-in-Call.ensures.typed.types)
    ∙ ap (label_in (standing_of g.S.TypeStore.tree c.args.context.now c.args.env.now) expected)
    (sym (call_tree c.in-Call.place c.in-Call.callee c.in-Call.arguments c.in-Call.by_name)))
    (rw c.deref-in-Call-12.ensures.value at c.type_whole_call.ensures.value))

pub calls::type_call-returns-clause-found : goal.calls::type_call-returns-clause-found
calls::type_call-returns-clause-found g t c expected =
    rw c.in-Call.is (if_ok c.type_whole_call.result (λ i. call_parts_found
    (standing_of g.S.TypeStore.tree c.args.context.now c.args.env.now) expected c.in-Call.place
    (expr_of c.in-Call.callee.value) (exprs_of_list c.in-Call.arguments.items)
    (keywords_of_list c.in-Call.by_name.items) (given_with c.in_ok-given-in-Call.given)
    (rw (c.deref.ensures.value, c.deref-in-Call.ensures.value) at c.in_ok-given-in-Call.ensures)
    (rule_of c.in_ok-called-in-Call.called.rule) (map (offer_called g.S.TypeStore.tree)
    c.in_ok-called-in-Call.called.offers.items) (rw c.deref-in-Call-2.ensures at
    c.in_ok-called-in-Call.ensures.called.rule) (rw c.deref-in-Call-2.ensures at
    c.in_ok-called-in-Call.ensures.called.offers) _ _ _ _ _ _ _ _ _
    (noted_label g.S.TypeStore.tree (standing_of g.S.TypeStore.tree c.args.context.now c.args.env.now)
    None c.args.context.now.globals.now.keeps (shows (expr_of c.in-Call.callee.value))
    (place_of (expr_of c.in-Call.callee.value)) c.in_ok-called-in-Call.called.label
    (callee_in (standing_of g.S.TypeStore.tree c.args.context.now c.args.env.now)
    (given_with c.in_ok-given-in-Call.given) (expr_of c.in-Call.callee.value)).label
    (rw c.deref-in-Call-2.ensures at c.in_ok-called-in-Call.ensures.called.label))
    (rw (c.deref-in-Call-5.ensures, c.deref-in-Call-6.ensures.value, c.deref-in-Call-7.ensures.value) at
    c.is_test-is_test.ensures.value) (rw (c.deref-in-Call-8.ensures.value, c.deref-in-Call-9.ensures.value) at
    c.in_ok-typed-in-Call.ensures.typed.early) (rw c.deref-in-Call-2.ensures at
    c.in_ok-called-in-Call.ensures.found) (rw (
      c.shows.ensures,
      c.place.ensures,
      c.deref-in-Call-3.ensures,
      c.deref-in-Call-4.ensures,
    ) at c.in_ok-note_label-in-Call.ensures)
    (rw (c.deref-in-Call-8.ensures.value, c.deref-in-Call-9.ensures.value) at c.in_ok-typed-in-Call.ensures.found)
    (rw (c.deref-in-Call-10.ensures.value, c.deref-in-Call-11.ensures.value) at
    c.in_ok-type_keywords-in-Call.ensures.found) i ∙ ap (λ x. (notes_of c.args.state.now.found.now) ++ parts_find
    (standing_of g.S.TypeStore.tree c.args.context.now c.args.env.now) expected x)
    (sym (call_tree c.in-Call.place c.in-Call.callee c.in-Call.arguments c.in-Call.by_name)))
    (rw c.deref-in-Call-12.ensures.value at c.type_whole_call.ensures.found))

pub calls::type_arguments-loop-argument-preserved : goal.calls::type_arguments-loop-argument-preserved
calls::type_arguments-loop-argument-preserved g t c =
    let v = c.loop-argument.invariant in
    let k = c.type_seated.ensures.goes_on.kept in
    let at : c.len.result ≡ c.loop-argument.argument-index = c.len.ensures ∙ v.count in
    let late : c.len-in-loop-argument.result ≡ c.loop-argument.argument-index = c.len-in-loop-argument.ensures
    ∙ v.count in
    let wants = c.in_ok-seat.ensures.wants
    ∙ ap (λ n. (positional_seat (map (offer_called g.S.TypeStore.tree) c.args.offers.now) n).want) at in
    let flows = c.in_ok-seat.ensures.flows
    ∙ ap (λ n. (positional_seat (map (offer_called g.S.TypeStore.tree) c.args.offers.now) n).into) at in
    record {
      count = omega (arith, v.count, c.in_ok-push.ensures);
      given = stands_kept (g.S.TypeStore.has _) (g.S.TypeStore.has _) k g.S.TypeStore.tree c.args.context.now
          c.args.env.now v.given;
      offers = offers_kept g.S.TypeStore.has _ _ k c.args.offers.now v.offers;
      held = rw c.in_ok-push.ensures.items (All-push (g.S.TypeStore.has _) _ _
          (types_kept (g.S.TypeStore.has _) (g.S.TypeStore.has _) k _ v.held) (c.in_ok-label.ensures.labelled.given));
      types = rw c.in_ok-push.ensures.items (seated_types (standing_of g.S.TypeStore.tree c.args.context.now
          c.args.env.now) (positional_seat (map (offer_called g.S.TypeStore.tree) c.args.offers.now))
          c.args.arguments.now c.loop-argument.argument-index c.argument-item.result c.loop-argument-test.true
          c.argument-item.is _ wants g.S.TypeStore.tree _ c.in_ok-label.label _ c.in_ok-label.ensures.labelled.is
          v.types);
      early = early_step (standing_of g.S.TypeStore.tree c.args.context.now c.args.env.now)
          (positional_seat (map (offer_called g.S.TypeStore.tree) c.args.offers.now)) c.args.arguments.now
          c.argument-item.result c.loop-argument.argument-index c.loop-argument-test.true c.argument-item.is _ _ _
          c.in_ok-label.label.codes.items (codes_are g.S.TypeStore.tree c.in_ok-label.label
          (label_in (standing_of g.S.TypeStore.tree c.args.context.now c.args.env.now) _
          (expr_of c.argument-item.result)) c.in_ok-label.ensures.labelled.is
          ∙ ap (λ w. once (label_in (standing_of g.S.TypeStore.tree c.args.context.now c.args.env.now) w
          (expr_of c.argument-item.result)).codes) wants) (rw (late, c.deref.ensures.value) at c.is_second_early-early.ensures)
          v.early;
      found = seated_finds (standing_of g.S.TypeStore.tree c.args.context.now c.args.env.now)
          (positional_seat (map (offer_called g.S.TypeStore.tree) c.args.offers.now)) c.args.arguments.now
          c.loop-argument.argument-index c.argument-item.result c.loop-argument-test.true c.argument-item.is _ wants _
          flows _ _ _ c.in_ok-label.ensures.found v.found;
      goes_on = goes_further v.goes_on c.type_seated.ensures.goes_on;
    }

pub calls::type_arguments-returns-clause-typed : goal.calls::type_arguments-returns-clause-typed
calls::type_arguments-returns-clause-typed g t c = record {
  given = c.loop-argument.invariant.held;
  types = types_end (standing_of g.S.TypeStore.tree c.args.context.now c.args.env.now)
      (positional_seat (map (offer_called g.S.TypeStore.tree) c.args.offers.now)) c.args.arguments.now
      c.loop-argument.argument-index (omega arith) _ _ c.loop-argument.invariant.types;
  early = early_end (standing_of g.S.TypeStore.tree c.args.context.now c.args.env.now)
      (positional_seat (map (offer_called g.S.TypeStore.tree) c.args.offers.now)) c.args.arguments.now
      c.loop-argument.argument-index (omega arith) _ _ c.loop-argument.invariant.early;
}

pub calls::type_arguments-returns-clause-found : goal.calls::type_arguments-returns-clause-found
calls::type_arguments-returns-clause-found g t c = rw c.if-is_test.false
    (finds_end (standing_of g.S.TypeStore.tree c.args.context.now c.args.env.now)
    (positional_seat (map (offer_called g.S.TypeStore.tree) c.args.offers.now)) c.args.arguments.now
    c.loop-argument.argument-index (omega arith) _ _ c.loop-argument.invariant.found
    ∙ ap (λ fs. (notes_of c.args.state.now.found.now) ++ fs)
    (sym (arguments_all (standing_of g.S.TypeStore.tree c.args.context.now c.args.env.now)
    (positional_seat (map (offer_called g.S.TypeStore.tree) c.args.offers.now)) (exprs_of_list c.args.arguments.now))))

pub calls::type_keywords-loop-argument-preserved : goal.calls::type_keywords-loop-argument-preserved
calls::type_keywords-loop-argument-preserved g t c =
    let v = c.loop-argument.invariant in
    let k = c.type_seated.ensures.goes_on.kept in
    let before = c.loop-argument.before in
    let more = ap (map (λ k. k.now)) c.in_ok-insert.ensures.keys ∙ name_inserted before.keys c.as_str.result
    ∙ ap (with_name (names_in before)) c.as_str.ensures.value in
    record {
      given = stands_kept (g.S.TypeStore.has _) (g.S.TypeStore.has _) k g.S.TypeStore.tree c.args.context.now
          c.args.env.now v.given;
      offers = offers_kept g.S.TypeStore.has _ _ k c.args.offers.now v.offers;
      found = keywords_step (standing_of g.S.TypeStore.tree c.args.context.now c.args.env.now)
          (named_seat (map (offer_called g.S.TypeStore.tree) c.args.offers.now)) c.args.by_name.now
          c.loop-argument.argument-index c.argument-item.result c.loop-argument-test.true c.argument-item.is
          (names_in before) (names_in c.insert.new.self) (λ word. ap (is_one_of word) more
          ∙ same_with (names_in before) (name_of c.argument-item.result.name).text word) _ _ c.in_ok-seat.ensures.wants
          c.in_ok-seat.ensures.flows _ _ _ c.in_ok-type_seated.ensures.found v.found;
      goes_on = goes_further v.goes_on c.type_seated.ensures.goes_on;
    }

pub calls::type_keywords-returns-clause-found : goal.calls::type_keywords-returns-clause-found
calls::type_keywords-returns-clause-found g t c = keywords_end
    (standing_of g.S.TypeStore.tree c.args.context.now c.args.env.now)
    (named_seat (map (offer_called g.S.TypeStore.tree) c.args.offers.now)) c.args.by_name.now
    c.loop-argument.argument-index (omega arith) (names_in c.loop-argument.before) _ _ c.loop-argument.invariant.found

pub calls::type_tested-returns-clause-typed : goal.calls::type_tested-returns-clause-typed
calls::type_tested-returns-clause-typed g t c = record {
  given = rw (c.in_ok-push-2.ensures.items, c.in_ok-push.ensures.items, c.new-types.ensures.items)
      (All-push (g.S.TypeStore.has _) (c.in_ok-tested.tested.ty ∷ []) c.in_ok-kind.kind.ty
      (All-push (g.S.TypeStore.has _) [] c.in_ok-tested.tested.ty (All-nil (g.S.TypeStore.has _))
      (c.check_expr-2.ensures.goes_on.kept _ c.in_ok-tested.ensures.labelled.given))
      c.in_ok-kind.ensures.labelled.given);
  types = rw (c.in_ok-push-2.ensures.items, c.in_ok-push.ensures.items, c.new-types.ensures.items)
      (two_types (standing_of g.S.TypeStore.tree c.args.context.now c.args.env.now)
      (positional_seat (map (offer_called g.S.TypeStore.tree) c.args.offers.now)) c.args.arguments.now
      c.index-arguments-0.result c.index-arguments-1.result (two_arguments c.args.arguments.now
      c.index-arguments-0.result c.index-arguments-1.result c.requires.two c.index-arguments-0.is
      c.index-arguments-1.is) _ _ _ _ c.in_ok-seat.ensures.wants c.in_ok-seat-2.ensures.wants
      (type_is g.S.TypeStore.tree c.in_ok-tested.tested (label_in
      (standing_of g.S.TypeStore.tree c.args.context.now c.args.env.now) _ (expr_of c.index-arguments-0.result))
      c.in_ok-tested.ensures.labelled.is) (type_is g.S.TypeStore.tree c.in_ok-kind.kind
      (label_in (standing_of g.S.TypeStore.tree c.args.context.now c.args.env.now) _
      (expr_of c.index-arguments-1.result)) c.in_ok-kind.ensures.labelled.is));
  early = two_early (standing_of g.S.TypeStore.tree c.args.context.now c.args.env.now)
      (positional_seat (map (offer_called g.S.TypeStore.tree) c.args.offers.now)) c.args.arguments.now
      c.index-arguments-0.result c.index-arguments-1.result (two_arguments c.args.arguments.now
      c.index-arguments-0.result c.index-arguments-1.result c.requires.two c.index-arguments-0.is
      c.index-arguments-1.is) _ c.in_ok-seat-2.ensures.wants c.in_ok-kind.kind.codes.items
      (codes_are g.S.TypeStore.tree c.in_ok-kind.kind
      (label_in (standing_of g.S.TypeStore.tree c.args.context.now c.args.env.now) _
      (expr_of c.index-arguments-1.result)) c.in_ok-kind.ensures.labelled.is) _
      (rw c.deref.ensures.value at c.is_early-early.ensures);
}

pub calls::type_tested-returns-clause-found : goal.calls::type_tested-returns-clause-found
calls::type_tested-returns-clause-found g t c = first_found (standing_of g.S.TypeStore.tree c.args.context.now
    c.args.env.now) (positional_seat (map (offer_called g.S.TypeStore.tree) c.args.offers.now)) c.args.arguments.now
    c.index-arguments-0.result c.index-arguments-1.result (two_arguments c.args.arguments.now c.index-arguments-0.result
    c.index-arguments-1.result c.requires.two c.index-arguments-0.is c.index-arguments-1.is) _
    c.in_ok-seat.ensures.wants _ _ c.in_ok-tested.ensures.found

pub typing::type_unary-negative_label-requires-clause-classes :
    goal.typing::type_unary-negative_label-requires-clause-classes
typing::type_unary-negative_label-requires-clause-classes g t c =
    entries_kept (g.S.TypeStore.has _) (g.S.TypeStore.has _) c.check_expr.ensures.goes_on.kept
    c.args.context.now.globals.now.classes.now c.requires.given.classes

pub typing::type_seated-returns-clause-labelled : goal.typing::type_seated-returns-clause-labelled
typing::type_seated-returns-clause-labelled g t c = record {
  given = c.find_flows.ensures.goes_on.kept _
      c.in_ok-label.ensures.labelled.given;
  is = c.in_ok-label.ensures.labelled.is;
}

pub typing::type_seated-returns-clause-found : goal.typing::type_seated-returns-clause-found
typing::type_seated-returns-clause-found g t c =
    let m = label_in (standing_of g.S.TypeStore.tree c.args.context.now c.args.env.now)
    (option_map g.S.TypeStore.tree c.args.seat.now.want) (expr_of c.args.e.now) in
    let flows = flows_at (place_of (expr_of c.args.e.now))
    (flows_of (class_parents c.args.context.now.globals.now) m
    (map g.S.TypeStore.tree c.args.seat.now.into.items)) in
    (rw (c.place.ensures, c.deref.ensures.value) at (c.in_ok-find_flows.ensures.found m
    c.in_ok-label.ensures.labelled.is))
    ∙ ap (λ fs. fs ++ flows) c.in_ok-label.ensures.found
    ∙ append_assoc (notes_of c.args.state.now.found.now) _ flows

pub typing::type_expr-returns-in-Negative-clause-labelled : goal.typing::type_expr-returns-in-Negative-clause-labelled
typing::type_expr-returns-in-Negative-clause-labelled g t c = c.type_unary.ensures.labelled _

pub typing::type_expr-returns-in-Negative-clause-found : goal.typing::type_expr-returns-in-Negative-clause-found
typing::type_expr-returns-in-Negative-clause-found g t c = c.type_unary.ensures.found _

pub typing::type_expr-returns-in-Binary-clause-labelled : goal.typing::type_expr-returns-in-Binary-clause-labelled
typing::type_expr-returns-in-Binary-clause-labelled g t c = c.type_binary.ensures.labelled _

pub typing::type_expr-returns-in-Binary-clause-found : goal.typing::type_expr-returns-in-Binary-clause-found
typing::type_expr-returns-in-Binary-clause-found g t c = c.type_binary.ensures.found _

pub typing::type_expr-returns-in-And-clause-labelled : goal.typing::type_expr-returns-in-And-clause-labelled
typing::type_expr-returns-in-And-clause-labelled g t c = c.type_connective.ensures.labelled _

pub typing::type_expr-returns-in-And-clause-found : goal.typing::type_expr-returns-in-And-clause-found
typing::type_expr-returns-in-And-clause-found g t c = c.type_connective.ensures.found _

pub typing::type_expr-returns-in-Call-clause-labelled : goal.typing::type_expr-returns-in-Call-clause-labelled
typing::type_expr-returns-in-Call-clause-labelled g t c = c.type_call.ensures.labelled _

pub typing::type_expr-returns-in-Call-clause-found : goal.typing::type_expr-returns-in-Call-clause-found
typing::type_expr-returns-in-Call-clause-found g t c = c.type_call.ensures.found _

pub conditions::type_condition-returns-in_ok-note_label-in-Not-clause-labelled :
    goal.conditions::type_condition-returns-in_ok-note_label-in-Not-clause-labelled
conditions::type_condition-returns-in_ok-note_label-in-Not-clause-labelled g t c =
    rw c.in-Not.is (record {
      given = c.in_ok-label-in-Not.ensures.value.given;
      is =
          c.in_ok-label-in-Not.ensures.value.is
          ∙ ap brief (sym (label_negation (standing_of g.S.TypeStore.tree c.args.context.now c.args.env.now) None
          c.in-Not.field-0 (expr_of c.in-Not.operand.value)));
    })

pub conditions::type_condition-returns-in_ok-note_label-in-Not-clause-ways :
    goal.conditions::type_condition-returns-in_ok-note_label-in-Not-clause-ways
conditions::type_condition-returns-in_ok-note_label-in-Not-clause-ways g t c =
    let has = g.S.TypeStore.has in
    let tree = g.S.TypeStore.tree in
    let w = rw c.deref.ensures at c.in_ok-condition-in-Not.ensures.ways in
    rw c.in-Not.is (negation_ways has tree c.args.context.now (standing_of tree c.args.context.now c.args.env.now)
    (expr_of c.in-Not.operand.value) c.in-Not.field-0 _ _ c.bool_label.ensures.kept
    c.in_ok-condition-in-Not.condition.ways w c.swapped-ways.result c.swapped-ways.ensures.where_true
    c.swapped-ways.ensures.where_false)

pub conditions::type_condition-returns-in_ok-note_label-in-Not-clause-found :
    goal.conditions::type_condition-returns-in_ok-note_label-in-Not-clause-found
conditions::type_condition-returns-in_ok-note_label-in-Not-clause-found g t c =
    let tree = g.S.TypeStore.tree in
    let k = standing_of tree c.args.context.now c.args.env.now in
    let label = c.in_ok-label-in-Not in
    rw c.in-Not.is (negation_found tree k label.label c.in-Not.field-0 (expr_of c.in-Not.operand.value) _ _ _
    (label.ensures.value.is ∙ ap brief (sym (label_negation k None c.in-Not.field-0 (expr_of c.in-Not.operand.value))))
    (rw c.deref.ensures at c.in_ok-condition-in-Not.ensures.found)
    (rw (c.place.ensures, c.in-Not.is) at c.in_ok-note_label-in-Not.ensures))

pub conditions::type_condition-simple_ways-requires : goal.conditions::type_condition-simple_ways-requires
conditions::type_condition-simple_ways-requires g t c = record {
  given = stands_kept (g.S.TypeStore.has _) (g.S.TypeStore.has _) c.check_expr.ensures.goes_on.kept g.S.TypeStore.tree
      c.args.context.now c.args.env.now c.requires;
  simple = first_of (search (rules, the_lemmas), grind (the_lemmas, arith));
}

pub conditions::type_condition-returns-in_ok-note_label-in-And-clause-labelled :
    goal.conditions::type_condition-returns-in_ok-note_label-in-And-clause-labelled
conditions::type_condition-returns-in_ok-note_label-in-And-clause-labelled g t c =
    let tree = g.S.TypeStore.tree in
    let k = standing_of tree c.args.context.now c.args.env.now in
    let first = c.in_ok-first-in-And in
    let w = c.in_ok-whole-in-And in
    rw c.in-And.is (record {
      given = w.ensures.labelled.given;
      is = w.ensures.labelled.is ∙ ap brief (and_is tree k None c.in-And.place (expr_of c.in-And.left.value)
          (expr_of c.in-And.right.value) first.first.label c.in_ok-second-in-And.second.label
          (rw c.deref-in-And-3.ensures at first.ensures.labelled.is)
          (standing_of tree c.args.context.now first.first.ways.where_true)
          (rw c.deref-in-And-4.ensures at c.in_ok-second-in-And.ensures.labelled.is)
          (standing_after k _ true (expr_of c.in-And.left.value) (rw c.deref-in-And-3.ensures at
          first.ensures.ways.where_true)));
    })

pub conditions::type_condition-returns-in_ok-note_label-in-And-clause-ways :
    goal.conditions::type_condition-returns-in_ok-note_label-in-And-clause-ways
conditions::type_condition-returns-in_ok-note_label-in-And-clause-ways g t c =
    let has = g.S.TypeStore.has in
    let tree = g.S.TypeStore.tree in
    let first = c.in_ok-first-in-And in
    let w = c.in_ok-whole-in-And in
    rw c.in-And.is (and_ways has tree c.args.context.now c.args.env.now _ _ _ c.ordered.ensures c.requires
    (expr_of c.in-And.left.value) (expr_of c.in-And.right.value) first.first.ways
    (rw c.deref-in-And-3.ensures at first.ensures.ways) c.in_ok-second-in-And.second.ways
    (rw c.deref-in-And-4.ensures at c.in_ok-second-in-And.ensures.ways)
    (keeps_both has _ _ _ first.ensures.goes_on.kept c.in_ok-second-in-And.ensures.goes_on.kept) c.in-And.place _
    w.whole.ways w.ensures.goes_on.kept w.ensures.asked w.ensures.met)

pub conditions::type_condition-returns-in_ok-note_label-in-And-clause-found :
    goal.conditions::type_condition-returns-in_ok-note_label-in-And-clause-found
conditions::type_condition-returns-in_ok-note_label-in-And-clause-found g t c =
    let tree = g.S.TypeStore.tree in
    let k = standing_of tree c.args.context.now c.args.env.now in
    let first = c.in_ok-first-in-And in
    let w = c.in_ok-whole-in-And in
    let after = standing_after k _ true (expr_of c.in-And.left.value) (rw c.deref-in-And-3.ensures at
    first.ensures.ways.where_true) in
    rw c.in-And.is (conjunction_found tree k w.whole.label c.in-And.place
    (expr_of c.in-And.left.value) (expr_of c.in-And.right.value)
    (standing_of tree c.args.context.now first.first.ways.where_true) _ _ _ _
    (w.ensures.labelled.is ∙ ap brief (and_is tree k None c.in-And.place (expr_of c.in-And.left.value)
    (expr_of c.in-And.right.value) first.first.label c.in_ok-second-in-And.second.label
    (rw c.deref-in-And-3.ensures at first.ensures.labelled.is)
    (standing_of tree c.args.context.now first.first.ways.where_true)
    (rw c.deref-in-And-4.ensures at c.in_ok-second-in-And.ensures.labelled.is) after))
    after (rw c.deref-in-And-3.ensures at first.ensures.found)
    (rw c.deref-in-And-4.ensures at c.in_ok-second-in-And.ensures.found)
    (rw (c.place-in-And.ensures, c.in-And.is, w.ensures.found) at c.in_ok-note_label-in-And.ensures))

pub conditions::type_condition-junction_condition-requires-clause-agree :
    goal.conditions::type_condition-junction_condition-requires-clause-agree
conditions::type_condition-junction_condition-requires-clause-agree g t c =
    let has = g.S.TypeStore.has in
    let tree = g.S.TypeStore.tree in
    let first = c.in_ok-first-in-And in
    rw (c.deref-in-And.ensures, c.deref-in-And-2.ensures)
    (and_ways_agree has tree c.args.context.now c.args.env.now _ _ _ c.ordered.ensures c.requires
    (expr_of c.in-And.left.value) (expr_of c.in-And.right.value) first.first.ways
    (rw c.deref-in-And-3.ensures at first.ensures.ways) c.in_ok-second-in-And.second.ways
    (rw c.deref-in-And-4.ensures at c.in_ok-second-in-And.ensures.ways))

pub conditions::type_condition-returns-in_ok-note_label-in-Or-clause-labelled :
    goal.conditions::type_condition-returns-in_ok-note_label-in-Or-clause-labelled
conditions::type_condition-returns-in_ok-note_label-in-Or-clause-labelled g t c =
    let tree = g.S.TypeStore.tree in
    let k = standing_of tree c.args.context.now c.args.env.now in
    let first = c.in_ok-first-in-Or in
    let w = c.in_ok-whole-in-Or in
    rw c.in-Or.is (record {
      given = w.ensures.labelled.given;
      is = w.ensures.labelled.is ∙ ap brief (or_is tree k None c.in-Or.place (expr_of c.in-Or.left.value)
          (expr_of c.in-Or.right.value) first.first.label c.in_ok-second-in-Or.second.label
          (rw c.deref-in-Or-3.ensures at first.ensures.labelled.is)
          (standing_of tree c.args.context.now first.first.ways.where_false)
          (rw c.deref-in-Or-4.ensures at c.in_ok-second-in-Or.ensures.labelled.is)
          (standing_after k _ false (expr_of c.in-Or.left.value) (rw c.deref-in-Or-3.ensures at
          first.ensures.ways.where_false)));
    })

pub conditions::type_condition-returns-in_ok-note_label-in-Or-clause-ways :
    goal.conditions::type_condition-returns-in_ok-note_label-in-Or-clause-ways
conditions::type_condition-returns-in_ok-note_label-in-Or-clause-ways g t c =
    let has = g.S.TypeStore.has in
    let tree = g.S.TypeStore.tree in
    let first = c.in_ok-first-in-Or in
    let w = c.in_ok-whole-in-Or in
    rw c.in-Or.is (or_ways has tree c.args.context.now c.args.env.now _ _ _ c.ordered.ensures c.requires
    (expr_of c.in-Or.left.value) (expr_of c.in-Or.right.value) first.first.ways
    (rw c.deref-in-Or-3.ensures at first.ensures.ways) c.in_ok-second-in-Or.second.ways
    (rw c.deref-in-Or-4.ensures at c.in_ok-second-in-Or.ensures.ways)
    (keeps_both has _ _ _ first.ensures.goes_on.kept c.in_ok-second-in-Or.ensures.goes_on.kept) c.in-Or.place _
    w.whole.ways w.ensures.goes_on.kept w.ensures.asked w.ensures.met)

pub conditions::type_condition-returns-in_ok-note_label-in-Or-clause-found :
    goal.conditions::type_condition-returns-in_ok-note_label-in-Or-clause-found
conditions::type_condition-returns-in_ok-note_label-in-Or-clause-found g t c =
    let tree = g.S.TypeStore.tree in
    let k = standing_of tree c.args.context.now c.args.env.now in
    let first = c.in_ok-first-in-Or in
    let w = c.in_ok-whole-in-Or in
    let after = standing_after k _ false (expr_of c.in-Or.left.value) (rw c.deref-in-Or-3.ensures at
    first.ensures.ways.where_false) in
    rw c.in-Or.is (disjunction_found tree k w.whole.label c.in-Or.place
    (expr_of c.in-Or.left.value) (expr_of c.in-Or.right.value)
    (standing_of tree c.args.context.now first.first.ways.where_false) _ _ _ _
    (w.ensures.labelled.is ∙ ap brief (or_is tree k None c.in-Or.place (expr_of c.in-Or.left.value)
    (expr_of c.in-Or.right.value) first.first.label c.in_ok-second-in-Or.second.label
    (rw c.deref-in-Or-3.ensures at first.ensures.labelled.is)
    (standing_of tree c.args.context.now first.first.ways.where_false)
    (rw c.deref-in-Or-4.ensures at c.in_ok-second-in-Or.ensures.labelled.is) after))
    after (rw c.deref-in-Or-3.ensures at first.ensures.found)
    (rw c.deref-in-Or-4.ensures at c.in_ok-second-in-Or.ensures.found)
    (rw (c.place-in-Or.ensures, c.in-Or.is, w.ensures.found) at c.in_ok-note_label-in-Or.ensures))

pub conditions::type_condition-junction_condition-requires-in-Or-clause-agree :
    goal.conditions::type_condition-junction_condition-requires-in-Or-clause-agree
conditions::type_condition-junction_condition-requires-in-Or-clause-agree g t c =
    let has = g.S.TypeStore.has in
    let tree = g.S.TypeStore.tree in
    let first = c.in_ok-first-in-Or in
    rw (c.deref-in-Or.ensures, c.deref-in-Or-2.ensures)
    (or_ways_agree has tree c.args.context.now c.args.env.now _ _ _ c.ordered.ensures c.requires
    (expr_of c.in-Or.left.value) (expr_of c.in-Or.right.value) first.first.ways
    (rw c.deref-in-Or-3.ensures at first.ensures.ways) c.in_ok-second-in-Or.second.ways
    (rw c.deref-in-Or-4.ensures at c.in_ok-second-in-Or.ensures.ways))

pub typing::type_binary-check_expr-requires-in-Binary :
    goal.typing::type_binary-check_expr-requires-in-Binary
typing::type_binary-check_expr-requires-in-Binary g t c κs within = (
  first_of (search (rules, the_lemmas), grind (the_lemmas, arith)),
  (
    within.0,
    (
      within.1,
      (
        stands_kept (g.S.TypeStore.has _) (g.S.TypeStore.has _) c.check_expr.ensures.goes_on.kept g.S.TypeStore.tree
            c.args.context.now
            c.args.env.now c.requires.given,
        search rules,
      ),
    ),
  ),
)

pub typing::type_binary-check_expr-requires-in-Compare-2 :
    goal.typing::type_binary-check_expr-requires-in-Compare-2
typing::type_binary-check_expr-requires-in-Compare-2 g t c κs within = (
  first_of (search (rules, the_lemmas), grind (the_lemmas, arith)),
  (
    within.0,
    (
      within.1,
      (
        stands_kept (g.S.TypeStore.has _) (g.S.TypeStore.has _) c.check_expr-in-Compare.ensures.goes_on.kept
            g.S.TypeStore.tree c.args.context.now
            c.args.env.now c.requires.given,
        search rules,
      ),
    ),
  ),
)

pub typing::type_binary-check_expr-requires-in-Index-2 :
    goal.typing::type_binary-check_expr-requires-in-Index-2
typing::type_binary-check_expr-requires-in-Index-2 g t c κs within = (
  first_of (search (rules, the_lemmas), grind (the_lemmas, arith)),
  (
    within.0,
    (
      within.1,
      (
        stands_kept (g.S.TypeStore.has _) (g.S.TypeStore.has _) c.check_expr-in-Index.ensures.goes_on.kept
            g.S.TypeStore.tree c.args.context.now
            c.args.env.now c.requires.given,
        search rules,
      ),
    ),
  ),
)

pub displays::type_entries-type_seated-requires-in-loop-entry :
    goal.displays::type_entries-type_seated-requires-in-loop-entry
displays::type_entries-type_seated-requires-in-loop-entry g t c κs within = (
  first_of (search (rules, the_lemmas), grind (the_lemmas, arith)),
  (
    within.0,
    (
      within.1,
      (
        stands_kept (g.S.TypeStore.has _) (g.S.TypeStore.has _) c.type_seated.ensures.goes_on.kept g.S.TypeStore.tree
            c.args.context.now
            c.args.env.now c.loop-entry.invariant.given,
        search rules,
      ),
    ),
  ),
)

pub calls::type_tested-check_expr-requires-2 :
    goal.calls::type_tested-check_expr-requires-2
calls::type_tested-check_expr-requires-2 g t c κs within = (
  first_of (search (rules, the_lemmas), grind (the_lemmas, arith)),
  (
    within.0,
    (
      within.1,
      (
        stands_kept (g.S.TypeStore.has _) (g.S.TypeStore.has _) c.check_expr.ensures.goes_on.kept g.S.TypeStore.tree
            c.args.context.now
            c.args.env.now c.requires.given,
        search rules,
      ),
    ),
  ),
)

pub calls::type_call-type_arguments-requires : goal.calls::type_call-type_arguments-requires
calls::type_call-type_arguments-requires g t c κs within =
    let offers : All (HasCallOffer (g.S.TypeStore.has c.type_callee.new.state.store.now))
    c.deref-in-Call-8.result.now =
    subst (All (HasCallOffer (g.S.TypeStore.has c.type_callee.new.state.store.now)))
    (sym c.deref-in-Call-8.ensures.value)
    c.in_ok-called-in-Call.ensures.called.held in
    let two : c.is_test-is_test.result ≡ true → length c.deref-in-Call-9.result.now ≡ 2 =
    λ h. ap length (c.deref-in-Call-9.ensures.value ∙ sym c.deref-in-Call-6.ensures.value)
    ∙ c.is_test-is_test.ensures.two h in (
      first_of (search (rules, the_lemmas), grind (the_lemmas, arith)),
      (
        within.0,
        (
          within.1,
          (
            stands_kept (g.S.TypeStore.has _) (g.S.TypeStore.has _) c.type_callee.ensures.goes_on.kept
                g.S.TypeStore.tree
                c.args.context.now c.args.env.now c.requires.given,
            (offers, two),
          ),
        ),
      ),
    )

pub calls::type_call-type_keywords-requires : goal.calls::type_call-type_keywords-requires
calls::type_call-type_keywords-requires g t c κs within =
    let offers : All (HasCallOffer (g.S.TypeStore.has c.type_arguments.new.state.store.now))
    c.deref-in-Call-10.result.now =
    subst (All (HasCallOffer (g.S.TypeStore.has c.type_arguments.new.state.store.now)))
    (sym c.deref-in-Call-10.ensures.value)
    (offers_kept g.S.TypeStore.has _ _ c.type_arguments.ensures.goes_on.kept c.in_ok-called-in-Call.called.offers.items
    c.in_ok-called-in-Call.ensures.called.held) in (
      first_of (search (rules, the_lemmas), grind (the_lemmas, arith)),
      (
        within.0,
        (
          within.1,
          (
            stands_kept (g.S.TypeStore.has _) (g.S.TypeStore.has _)
                (keeps_both g.S.TypeStore.has _ _ _ c.type_callee.ensures.goes_on.kept
                c.type_arguments.ensures.goes_on.kept) g.S.TypeStore.tree c.args.context.now c.args.env.now
                c.requires.given,
            offers,
          ),
        ),
      ),
    )

pub calls::type_call-type_whole_call-requires-clause-offers : goal.calls::type_call-type_whole_call-requires-clause-offers
calls::type_call-type_whole_call-requires-clause-offers g t c =
    offers_kept g.S.TypeStore.has _ _ (keeps_both g.S.TypeStore.has _ _ _ c.type_arguments.ensures.goes_on.kept
    c.type_keywords.ensures.goes_on.kept) c.in_ok-called-in-Call.called.offers.items
    c.in_ok-called-in-Call.ensures.called.held
