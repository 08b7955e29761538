-- The notes in an expression are right: each with two types is a flow of the one into the other, with the code that the
-- tests give, both well-formed; and no other note is one of a flow.
use Rattle.std.proofs.Common.{◌≡◌, ℕ, suc, Bool as Test, true, false, List, [], ◌∷◌, ◌++◌, Option, Some, None, refl}
use Rattle.std.proofs.Common.{sym, subst}
use Rattle.std.specs.Prelude.{flat_map, map}
use Rattle.std.specs.List.{AllByRecursion}
use Rattle.pc_source.specs.declared.place.Place.{Place}
use Rattle.pc_tree.specs.declared.code.Code.{Code}
use Rattle.pc_tree.specs.declared.code.Finding.{Finding}
use Rattle.pc_tree.specs.Code.{finding}
use Rattle.pc_tree.specs.Tree.{Expr, Exprs, Entries, Keywords, name, number, text, truth, nothing, tuple, list, dict}
use Rattle.pc_tree.specs.Tree.{negative, negation, binary, compare, is_none, is_not_none, conjunction, disjunction}
use Rattle.pc_tree.specs.Tree.{attribute, index, call, no_exprs, more_exprs, no_entries, more_entries, no_keywords}
use Rattle.pc_tree.specs.Tree.{more_keywords}
use Rattle.pc_tree.specs.Depth.{place_of}
use Rattle.pc_scope.specs.Expressions.{is_instance_test}
use Rattle.pc_types.specs.Tree.{Tree, Int, Object, TupleOf}
use Rattle.pc_types.specs.Below.{Bases, AreSmaller}
use Rattle.pc_types.specs.Shape.{members, trees}
use Rattle.pc_types.specs.WellFormed.{IsWellFormed}
use Rattle.pc_types.specs.Computed.{static_test, assignable_test}
use Rattle.pc_flow.specs.Environment.{Env}
use Rattle.pc_flow.specs.Narrowing.{narrow}
use Rattle.pc_flow.specs.WellFormed.{IsWellFormedIfAny, IsWellFormedEnv, AreWellFormed}
use Rattle.pc_notes.specs.Notes.{Note, told, typed, named, plain_note, flow_note}
use Rattle.pc_rules.specs.Operations.{Label, FlowLabel, operand_types, index_member, attribute_member, negative_member}
use Rattle.pc_rules.specs.Context.{Context, is_early}
use Rattle.pc_rules.specs.Calls.{Seat, arguments_given, count_exprs, call_label, positional_seat, named_seat}
use Rattle.pc_rules.specs.Calls.{range_signature, range_offers}
use Rattle.pc_rules.specs.Labels.{FlowLabels, Labels, ItemsLabels, EntriesLabels, KeywordsLabels, whole_label, type_of}
use Rattle.pc_rules.specs.Labels.{with_label, is_of_scopes, second_place, item_types, key_types, value_types}
use Rattle.pc_rules.specs.Lawful.{list_item, dict_parts, tuple_parts, members_of_expected, item_seat, part_seat}
use Rattle.pc_rules.specs.Lawful.{key_seat, value_seat, int_literal, compare_types, callee_of, keyword_seat}
use Rattle.pc_rules.specs.Computed.Expressions.{code_by, code_unless, flows_of, labels, items_labels, entries_labels}
use Rattle.pc_rules.specs.Computed.Expressions.{keywords_labels}
use Rattle.pc_rules.specs.Computed.Findings.{own_at, has_code, add_code, once_onto, once, codes_at, notes_of_code}
use Rattle.pc_rules.specs.Computed.Findings.{own_flow, flow_then, flows_behind, flows_at, whole}
use Rattle.pc_rules.specs.Computed.Findings.{found_in_parts, found_in_items, found_in_arguments, found_in_entries}
use Rattle.pc_rules.specs.Computed.Findings.{found_in_keywords, notes_under, callee_notes_under, note_of_type, label_at}
use Rattle.pc_rules.specs.Computed.Findings.{callee_notes, shows}
use Rattle.pc_rules.specs.Computed.Standing.{Standing, label_in, finds_in, items_in, keywords_in, arguments_find}
use Rattle.pc_rules.specs.Computed.Standing.{keywords_find}
use Rattle.pc_rules.specs.Laws.WellFormed.{ContextWellFormed, FlowsWellFormed, LabelsWellFormed, ItemsWellFormed}
use Rattle.pc_rules.specs.Laws.WellFormed.{EntriesWellFormed, KeywordsWellFormed}
use Rattle.pc_rules.specs.Computed.Ranges.{range_finds}
use Rattle.pc_rules.proofs.WellFormed.{int_well_formed, object_well_formed}
use Rattle.pc_rules.proofs.Called.{CallsWellFormed, builtin_well_formed, called_well_formed, positional_well_formed}
use Rattle.pc_rules.proofs.Called.{named_well_formed}
use Rattle.pc_rules.proofs.ComputedFlows.{flows_well_formed, are_tests}
use Rattle.pc_rules.proofs.ComputedLawful.{labels_are_lawful, items_lawful, keywords_lawful}
use Rattle.pc_rules.proofs.Saying.{own_label}
use Rattle.pc_rules.proofs.PartsKept.{parts_kept}
use Rattle.pc_module_rules.proofs.PlainCodes.{all_append, in_both, IsPlain, ArePlain, LabelPlain}
use Rattle.pc_module_rules.proofs.PlainCodes.{IsPlainIfAny, mapped_plain, index_plain, attribute_plain, negative_plain}
use Rattle.pc_module_rules.proofs.PlainCodes.{binary_plain, compare_plain, display_plain, list_plain, dict_plain}
use Rattle.pc_module_rules.proofs.PlainCodes.{name_plain, callee_label_plain, whole_call_plain, whole_second_plain}
use Rattle.pc_module_rules.proofs.PlainCodes.{range_plain}

-- ---- right notes

-- the code of a flow is the one by the tests of static and of consistent subtyping; a note without types has no code of
-- flows
abbrev pub IsTestedFlow : Bases → Code → Option (Tree × Tree) → Type 0
IsTestedFlow bases c None = IsPlain c
IsTestedFlow bases c (Some f) = code_by (static_test bases f.0 f.1) (assignable_test bases f.0 f.1) ≡ Some c

abbrev pub IsTested : Bases → Note → Type 0
IsTested bases (told f flow) = IsTestedFlow bases f.code flow
IsTested bases (typed shown p t) = Unit {0}
IsTested bases (named p d t) = Unit {0}

-- the types of a flow are well-formed, if there is one
abbrev pub IsFormedFlow : Bases → Option (Tree × Tree) → Type 0
IsFormedFlow bases None = Unit {0}
IsFormedFlow bases (Some f) = IsWellFormed bases f.0 × IsWellFormed bases f.1

abbrev pub IsFormed : Bases → Note → Type 0
IsFormed bases (told f flow) = IsFormedFlow bases flow
IsFormed bases (typed shown p t) = Unit {0}
IsFormed bases (named p d t) = Unit {0}

-- a note is right
pub record IsRight (bases : Bases) (n : Note) : Type 0 where
  pub tested : IsTested bases n
  pub formed : IsFormed bases n

-- each note is right
abbrev pub AreRight : Bases → List Note → Type 0
AreRight bases notes = AllByRecursion (IsRight bases) notes

right_both : (bases : Bases) (notes : List Note) → AllByRecursion (IsTested bases) notes
    → AllByRecursion (IsFormed bases) notes → AreRight bases notes
right_both bases [] h k = tt
right_both bases (n ∷ ns) h k = (record { tested = h.0; formed = k.0 }, right_both bases ns h.1 k.1)

pub right_append : (bases : Bases) (xs ys : List Note) → AreRight bases xs → AreRight bases ys
    → AreRight bases (xs ++ ys)
right_append bases xs ys h k = all_append (IsRight bases) xs ys h k

-- ---- codes, each once

module _ (P : Code → Type 0) where
  onto_holds : (before cs : List Code) → AllByRecursion P before → AllByRecursion P cs
      → AllByRecursion P (once_onto before cs)
  onto_holds before [] h k = h
  onto_holds before (c ∷ cs) h k =
      onto_holds (add_code before c) cs (in_both (AllByRecursion P) (has_code before c) before (before ++ c ∷ []) h
      (all_append P before (c ∷ []) h (k.0, tt))) k.1

-- ---- properties of the notes of codes and of flows

module _ (P : Note → Type 0) (p : Place) where
  -- it holds of the finding of a code, by itself
  abbrev HoldsOfCode : Code → Type 0
  HoldsOfCode c = P (plain_note (finding p c))

  own_holds : (c : Code) → HoldsOfCode c → AllByRecursion P (own_at p c)
  own_holds c h = in_both (AllByRecursion P) (is_of_scopes c) [] (plain_note (finding p c) ∷ []) tt (h, tt)

  each_holds : (cs : List Code) → AllByRecursion HoldsOfCode cs → AllByRecursion P (flat_map (own_at p) cs)
  each_holds [] h = tt
  each_holds (c ∷ cs) h = all_append P (own_at p c) (flat_map (own_at p) cs) (own_holds c h.0) (each_holds cs h.1)

  codes_hold : (cs : List Code) → AllByRecursion HoldsOfCode cs → AllByRecursion P (codes_at p cs)
  codes_hold cs h = each_holds (once cs) (onto_holds HoldsOfCode [] cs tt h)

  -- it holds of what is found of a flow with this code, if it has one
  abbrev HoldsOfFlow : (from into : Tree) → Option Code → Type 0
  HoldsOfFlow s t None = Unit {0}
  HoldsOfFlow s t (Some c) = P (flow_note (finding p c) s t)

  one_flow : (before : List Code) (s t : Tree) (o : Option Code) (rest : List Code → List Note) → HoldsOfFlow s t o
      → ((codes : List Code) → AllByRecursion P (rest codes)) → AllByRecursion P (flow_then p before s t o rest)
  one_flow before s t None rest h k = k before
  one_flow before s t (Some c) rest h k =
      in_both (AllByRecursion P) (has_code before c) (rest before) (own_flow p s t c ++ rest (before ++ c ∷ []))
      (k before)
      (all_append P (own_flow p s t c) (rest (before ++ c ∷ []))
      (in_both (AllByRecursion P) (is_of_scopes c) [] (flow_note (finding p c) s t ∷ []) tt (h, tt))
      (k (before ++ c ∷ [])))

  behind_holds : (flows : FlowLabels) → AllByRecursion (λ (f : FlowLabel). HoldsOfFlow f.from f.into f.code) flows
      → (before : List Code) → AllByRecursion P (flows_behind p before flows)
  behind_holds [] h before = tt
  behind_holds (f ∷ fs) h before = one_flow before f.from f.into f.code (λ codes. flows_behind p codes fs) h.0
      (behind_holds fs h.1)

-- ---- codes by the tests

module _ (bases : Bases) where
  -- the code of a flow, if it has one, is the one by the tests
  abbrev TestsSay : (from into : Tree) → Option Code → Type 0
  TestsSay s t None = Unit {0}
  TestsSay s t (Some c) = code_by (static_test bases s t) (assignable_test bases s t) ≡ Some c

  tests_by : (s t : Tree) (o : Option Code) → code_by (static_test bases s t) (assignable_test bases s t) ≡ o
      → TestsSay s t o
  tests_by s t None e = tt
  tests_by s t (Some c) e = e

  tests_unless : (early : Test) (s t : Tree) → TestsSay s t (code_unless (static_test bases) (assignable_test bases)
      early s t)
  tests_unless true s t = tt
  tests_unless false s t = tests_by s t (code_by (static_test bases s t) (assignable_test bases s t)) refl

  tested_flow : (p : Place) (s t : Tree) (o : Option Code) → TestsSay s t o → HoldsOfFlow (IsTested bases) p s t o
  tested_flow p s t None h = tt
  tested_flow p s t (Some c) h = h

  tested_each : (p : Place) (m : Label) (ts : List Tree) → AllByRecursion
      (λ (f : FlowLabel). HoldsOfFlow (IsTested bases) p f.from f.into f.code) (flows_of bases m ts)
  tested_each p m [] = tt
  tested_each p m (t ∷ ts) = (
    tested_flow p m.type t (code_unless (static_test bases) (assignable_test bases)
        (is_early m.codes) m.type t) (tests_unless (is_early m.codes) m.type t),
    tested_each p m ts,
  )

  tested_flows : (p : Place) (m : Label) (ts : List Tree) → AllByRecursion (IsTested bases)
      (flows_at p (flows_of bases m ts))
  tested_flows p m ts = behind_holds (IsTested bases) p (flows_of bases m ts) (tested_each p m ts) []

  tested_codes : (p : Place) (cs : List Code) → ArePlain cs → AllByRecursion (IsTested bases) (codes_at p cs)
  tested_codes p cs h = codes_hold (IsTested bases) p cs h

  tested_code : (p : Place) (o : Option Code) → IsPlainIfAny o → AllByRecursion (IsTested bases) (notes_of_code p o)
  tested_code p None h = tt
  tested_code p (Some c) h = own_holds (IsTested bases) p c h

  -- ---- well-formed types

  formed_flow : (p : Place) (s t : Tree) (o : Option Code) → IsWellFormed bases s → IsWellFormed bases t
      → HoldsOfFlow (IsFormed bases) p s t o
  formed_flow p s t None h k = tt
  formed_flow p s t (Some c) h k = (h, k)

  formed_each : (p : Place) (flows : FlowLabels) → FlowsWellFormed bases flows
      → AllByRecursion (λ (f : FlowLabel). HoldsOfFlow (IsFormed bases) p f.from f.into f.code) flows
  formed_each p [] h = tt
  formed_each p (f ∷ fs) h = (formed_flow p f.from f.into f.code h.0.0 h.0.1, formed_each p fs h.1)

  formed_flows : (p : Place) (flows : FlowLabels) → FlowsWellFormed bases flows
      → AllByRecursion (IsFormed bases) (flows_at p flows)
  formed_flows p flows h = behind_holds (IsFormed bases) p flows (formed_each p flows h) []

  all_formed : (p : Place) (cs : List Code) → AllByRecursion (HoldsOfCode (IsFormed bases) p) cs
  all_formed p [] = tt
  all_formed p (c ∷ cs) = (tt, all_formed p cs)

  formed_codes : (p : Place) (cs : List Code) → AllByRecursion (IsFormed bases) (codes_at p cs)
  formed_codes p cs = codes_hold (IsFormed bases) p cs (all_formed p cs)

  formed_code : (p : Place) (o : Option Code) → AllByRecursion (IsFormed bases) (notes_of_code p o)
  formed_code p None = tt
  formed_code p (Some c) = own_holds (IsFormed bases) p c tt

  -- of two lists, one after the other
  formed_then : (xs ys : List Note) → AllByRecursion (IsFormed bases) xs → AllByRecursion (IsFormed bases) ys
      → AllByRecursion (IsFormed bases) (xs ++ ys)
  formed_then xs ys h k = all_append (IsFormed bases) xs ys h k

  formed_type : (keeps shown : Test) (p : Place) (t : Tree)
      → AllByRecursion (IsFormed bases) (note_of_type keeps shown p t)
  formed_type false shown p t = tt
  formed_type true shown p t = (tt, tt)

  formed_label : (keeps shown : Test) (p : Place) (m : Label)
      → AllByRecursion (IsFormed bases) (label_at keeps shown p m)
  formed_label keeps shown p m =
      formed_then (note_of_type keeps shown p m.type) (codes_at p m.codes) (formed_type keeps shown p m.type)
      (formed_codes p m.codes)

  formed_whole : (keeps : Test) (e : Expr) (m : Labels e) (parts : List Note) → AllByRecursion (IsFormed bases) parts
      → AllByRecursion (IsFormed bases) (whole keeps e m parts)
  formed_whole keeps e m parts h = formed_then parts (label_at keeps true (place_of e) (whole_label e m)) h
      (formed_label keeps true (place_of e) (whole_label e m))

  formed_called : (keeps : Test) (e : Expr) (m : Labels e) (parts : List Note) → AllByRecursion (IsFormed bases) parts
      → AllByRecursion (IsFormed bases) (callee_notes keeps e m parts)
  formed_called keeps e m parts h = formed_then parts (label_at keeps (shows e) (place_of e) (whole_label e m)) h
      (formed_label keeps (shows e) (place_of e) (whole_label e m))

  mutual
    formed_parts : (keeps : Test) (e : Expr) (m : Labels e) → LabelsWellFormed bases e m
        → AllByRecursion (IsFormed bases) (found_in_parts keeps e m)
    formed_parts keeps (name n) m h = tt
    formed_parts keeps (number p digits) m h = tt
    formed_parts keeps (text p characters) m h = tt
    formed_parts keeps (truth p value) m h = tt
    formed_parts keeps (nothing p) m h = tt
    formed_parts keeps (tuple p es) m h = formed_items keeps es m.items h.1
    formed_parts keeps (list p es) m h = formed_items keeps es m.items h.1
    formed_parts keeps (dict p es) m h = formed_entries keeps es m.entries h.1
    formed_parts keeps (negative p e) m h = formed_whole keeps e m.operand _ (formed_parts keeps e m.operand h.1)
    formed_parts keeps (negation p e) m h = formed_whole keeps e m.operand _ (formed_parts keeps e m.operand h.1)
    formed_parts keeps (binary p o l r) m h = formed_then _ _
        (formed_whole keeps l m.left _ (formed_parts keeps l m.left h.1))
        (formed_whole keeps r m.right _ (formed_parts keeps r m.right h.2))
    formed_parts keeps (compare p o l r) m h = formed_then _ _
        (formed_whole keeps l m.left _ (formed_parts keeps l m.left h.1))
        (formed_then _ _ (formed_whole keeps r m.right _ (formed_parts keeps r m.right h.2))
        (formed_flows (place_of l) m.flows h.3))
    formed_parts keeps (is_none p e) m h = formed_whole keeps e m.operand _ (formed_parts keeps e m.operand h.1)
    formed_parts keeps (is_not_none p e) m h = formed_whole keeps e m.operand _ (formed_parts keeps e m.operand h.1)
    formed_parts keeps (conjunction p l r) m h = formed_then _ _
        (formed_whole keeps l m.left _ (formed_parts keeps l m.left h.1))
        (formed_whole keeps r m.right _ (formed_parts keeps r m.right h.2))
    formed_parts keeps (disjunction p l r) m h = formed_then _ _
        (formed_whole keeps l m.left _ (formed_parts keeps l m.left h.1))
        (formed_whole keeps r m.right _ (formed_parts keeps r m.right h.2))
    formed_parts keeps (attribute p e field) m h = formed_whole keeps e m.object _ (formed_parts keeps e m.object h.1)
    formed_parts keeps (index p e i) m h = formed_then _ _ (formed_whole keeps e m.object _
        (formed_parts keeps e m.object h.1))
        (formed_then _ _ (formed_whole keeps i m.key _ (formed_parts keeps i m.key h.2))
        (formed_flows (place_of i) m.flows h.3))
    formed_parts keeps (call p c args kws) m h =
        formed_then _ _ (formed_called keeps c m.callee _ (formed_parts keeps c m.callee h.1))
        (formed_then _ _ (formed_arguments keeps (is_instance_test c args kws) args m.arguments h.2)
        (formed_then _ _ (formed_keywords keeps kws m.keywords h.3) (formed_code (second_place args p) m.second)))

    formed_items : (keeps : Test) (es : Exprs) (m : ItemsLabels es) → ItemsWellFormed bases es m
        → AllByRecursion (IsFormed bases) (found_in_items keeps es m)
    formed_items keeps no_exprs m h = tt
    formed_items keeps (more_exprs e rest) m h = formed_then _ _
        (formed_whole keeps e m.first _ (formed_parts keeps e m.first h.0))
        (formed_then _ _ (formed_flows (place_of e) m.flows h.1) (formed_items keeps rest m.rest h.2))

    formed_arguments : (keeps : Test) (is_test : Test) (es : Exprs) (m : ItemsLabels es) → ItemsWellFormed bases es m
        → AllByRecursion (IsFormed bases) (found_in_arguments keeps is_test es m)
    formed_arguments keeps is_test no_exprs m h = tt
    formed_arguments keeps true (more_exprs e rest) m h = formed_whole keeps e m.first _
        (formed_parts keeps e m.first h.0)
    formed_arguments keeps false (more_exprs e rest) m h = formed_then _ _
        (formed_whole keeps e m.first _ (formed_parts keeps e m.first h.0))
        (formed_then _ _ (formed_flows (place_of e) m.flows h.1)
        (formed_arguments keeps false rest m.rest h.2))

    formed_entries : (keeps : Test) (es : Entries) (m : EntriesLabels es) → EntriesWellFormed bases es m
        → AllByRecursion (IsFormed bases) (found_in_entries keeps es m)
    formed_entries keeps no_entries m h = tt
    formed_entries keeps (more_entries key value rest) m h =
        formed_then _ _ (formed_whole keeps key m.key _ (formed_parts keeps key m.key h.0.0))
        (formed_then _ _ (formed_flows (place_of key) m.key_flows h.0.1)
        (formed_then _ _ (formed_whole keeps value m.value _ (formed_parts keeps value m.value h.1.0))
        (formed_then _ _ (formed_flows (place_of value) m.value_flows h.1.1) (formed_entries keeps rest m.rest h.2))))

    formed_keywords : (keeps : Test) (es : Keywords) (m : KeywordsLabels es) → KeywordsWellFormed bases es m
        → AllByRecursion (IsFormed bases) (found_in_keywords keeps es m)
    formed_keywords keeps no_keywords m h = tt
    formed_keywords keeps (more_keywords parameter value rest) m h = formed_then _ _
        (formed_whole keeps value m.first _ (formed_parts keeps value m.first h.0))
        (formed_then _ _ (formed_flows (place_of value) m.flows h.1) (formed_keywords keeps rest m.rest h.2))

-- ---- tests in an expression

module _ (ctx : Context) (declared : List Tree) (keeps : Test) where
  abbrev labels_here : Env → (want : Option Tree) → (e : Expr) → Labels e
  labels_here env want e = labels ctx declared (static_test ctx.bases) (assignable_test ctx.bases) env want e

  abbrev items_here : Env → (seat : ℕ → Seat) → (es : Exprs) → ItemsLabels es
  items_here env seat es = items_labels ctx declared (static_test ctx.bases) (assignable_test ctx.bases) env seat es

  abbrev entries_here : Env → (key value : Seat) → (es : Entries) → EntriesLabels es
  entries_here env key value es = entries_labels ctx declared (static_test ctx.bases) (assignable_test ctx.bases) env
      key value es

  abbrev keywords_here : Env → (seat : List ℕ → Seat) → (before : List (List ℕ)) → (es : Keywords) → KeywordsLabels es
  keywords_here env seat before es = keywords_labels ctx declared (static_test ctx.bases) (assignable_test ctx.bases)
      env seat before es

  -- no computed label has the code of a dynamic flow
  label_plain : (env : Env) (want : Option Tree) (e : Expr) → LabelPlain (whole_label e (labels_here env want e))
  label_plain env want (name n) = name_plain ctx env (ctx.resolve n.text)
  label_plain env want (number p digits) = tt
  label_plain env want (text p characters) = tt
  label_plain env want (truth p value) = tt
  label_plain env want (nothing p) = tt
  label_plain env want (tuple p es) =
      display_plain
      (TupleOf
      (trees (item_types es (items_here env (part_seat (tuple_parts (count_exprs es) (members_of_expected want))) es))))
  label_plain env want (list p es) = list_plain ctx.bases (list_item (members_of_expected want))
      (item_types es (items_here env (λ i. item_seat (list_item (members_of_expected want))) es))
  label_plain env want (dict p es) =
      let m = entries_here env (key_seat (dict_parts (members_of_expected want)))
      (value_seat (dict_parts (members_of_expected want))) es in
      dict_plain ctx declared (static_test ctx.bases) (assignable_test ctx.bases)
      (dict_parts (members_of_expected want)) (key_types es m) (value_types es m)
  label_plain env want (negative p e) = mapped_plain ctx.bases negative_member negative_plain
      (members (type_of e (labels_here env None e)))
  label_plain env want (negation p e) = tt
  label_plain env want (binary p o l r) = binary_plain ctx.bases o (type_of l (labels_here env None l))
      (type_of r (labels_here env None r))
  label_plain env want (compare p o l r) = compare_plain ctx.bases o (type_of l (labels_here env None l))
      (type_of r (labels_here env None r))
  label_plain env want (is_none p e) = tt
  label_plain env want (is_not_none p e) = tt
  label_plain env want (conjunction p l r) = tt
  label_plain env want (disjunction p l r) = tt
  label_plain env want (attribute p e field) = mapped_plain ctx.bases (attribute_member ctx.classes field.text)
      (attribute_plain ctx.classes field.text) (members (type_of e (labels_here env None e)))
  label_plain env want (index p e i) = mapped_plain ctx.bases (index_member ctx.bases (int_literal i))
      (index_plain ctx.bases (int_literal i)) (members (type_of e (labels_here env None e)))
  label_plain env want (call p c args kws) =
      let v = labels_here env None c in
      let callee = callee_of ctx env (arguments_given args kws) c v in
      whole_call_plain ctx env (arguments_given args kws) c v (label_plain env None c) args
      (item_types args (items_here env (positional_seat callee.offers) args))

  abbrev AllTested : List Note → Type 0
  AllTested notes = AllByRecursion (IsTested ctx.bases) notes

  tested_then : (xs ys : List Note) → AllTested xs → AllTested ys → AllTested (xs ++ ys)
  tested_then xs ys h k = all_append (IsTested ctx.bases) xs ys h k

  tested_type : (shown : Test) (p : Place) (t : Tree) → (b : Test) → AllTested (note_of_type b shown p t)
  tested_type shown p t false = tt
  tested_type shown p t true = (tt, tt)

  tested_label : (shown : Test) (p : Place) (m : Label) → LabelPlain m → AllTested (label_at keeps shown p m)
  tested_label shown p m h = tested_then (note_of_type keeps shown p m.type) (codes_at p m.codes)
      (tested_type shown p m.type keeps) (tested_codes ctx.bases p m.codes h)

  tested_callee : (env : Env) (e : Expr) (here : Label) → LabelPlain here
      → AllTested (found_in_parts keeps e (labels_here env None e)) → AllTested
      (callee_notes_under keeps e (with_label e (labels_here env None e) here))
  tested_callee env e here k h =
      let m = labels_here env None e in
      tested_then (found_in_parts keeps e (with_label e m here)) (label_at keeps (shows e) (place_of e)
      (whole_label e (with_label e m here)))
      (subst AllTested (sym (parts_kept keeps e m here)) h)
      (tested_label (shows e) (place_of e) (whole_label e (with_label e m here))
      (subst LabelPlain (sym (own_label e m here)) k))

  tested_whole : (env : Env) (want : Option Tree) (e : Expr) →
      AllTested (found_in_parts keeps e (labels_here env want e))
      → AllTested (notes_under keeps e (labels_here env want e))
  tested_whole env want e h =
      tested_then (found_in_parts keeps e (labels_here env want e)) (label_at keeps true (place_of e)
      (whole_label e (labels_here env want e))) h
      (tested_label true (place_of e) (whole_label e (labels_here env want e)) (label_plain env want e))

  mutual
    tested_parts : (env : Env) (want : Option Tree) (e : Expr)
        → AllTested (found_in_parts keeps e (labels_here env want e))
    tested_parts env want (name n) = tt
    tested_parts env want (number p digits) = tt
    tested_parts env want (text p characters) = tt
    tested_parts env want (truth p value) = tt
    tested_parts env want (nothing p) = tt
    tested_parts env want (tuple p es) = tested_items env (part_seat
        (tuple_parts (count_exprs es) (members_of_expected want))) es
    tested_parts env want (list p es) = tested_items env (λ i. item_seat (list_item (members_of_expected want))) es
    tested_parts env want (dict p es) = tested_entries env (key_seat (dict_parts (members_of_expected want)))
        (value_seat (dict_parts (members_of_expected want))) es
    tested_parts env want (negative p e) = tested_whole env None e (tested_parts env None e)
    tested_parts env want (negation p e) = tested_whole env None e (tested_parts env None e)
    tested_parts env want (binary p o l r) = tested_then _ _ (tested_whole env None l (tested_parts env None l))
        (tested_whole env None r (tested_parts env None r))
    tested_parts env want (compare p o l r) =
        tested_then _ _ (tested_whole env None l (tested_parts env None l))
        (tested_then _ _ (tested_whole env None r (tested_parts env None r))
        (tested_flows ctx.bases (place_of l) (whole_label l (labels_here env None l))
        (compare_types o (type_of r (labels_here env None r)))))
    tested_parts env want (is_none p e) = tested_whole env None e (tested_parts env None e)
    tested_parts env want (is_not_none p e) = tested_whole env None e (tested_parts env None e)
    tested_parts env want (conjunction p l r) = tested_then _ _ (tested_whole env None l (tested_parts env None l))
        (tested_whole (narrow ctx.bases declared ctx.resolve true l env) None r
        (tested_parts (narrow ctx.bases declared ctx.resolve true l env) None r))
    tested_parts env want (disjunction p l r) = tested_then _ _ (tested_whole env None l (tested_parts env None l))
        (tested_whole (narrow ctx.bases declared ctx.resolve false l env) None r
        (tested_parts (narrow ctx.bases declared ctx.resolve false l env) None r))
    tested_parts env want (attribute p e field) = tested_whole env None e (tested_parts env None e)
    tested_parts env want (index p e i) =
        tested_then _ _ (tested_whole env None e (tested_parts env None e))
        (tested_then _ _ (tested_whole env None i (tested_parts env None i))
        (tested_flows ctx.bases (place_of i) (whole_label i (labels_here env None i))
        (operand_types (map (index_member ctx.bases (int_literal i))
        (members (type_of e (labels_here env None e)))))))
    tested_parts env want (call p c args kws) =
        let v = labels_here env None c in
        let callee = callee_of ctx env (arguments_given args kws) c v in
        tested_then _ _ (tested_callee env c callee.label (callee_label_plain ctx env (arguments_given args kws) c v
        (label_plain env None c)) (tested_parts env None c))
        (tested_then _ _ (tested_arguments env (is_instance_test c args kws) (positional_seat callee.offers) args)
        (tested_then _ _ (tested_keywords env (named_seat callee.offers) [] kws)
        (tested_code ctx.bases (second_place args p) _ (whole_second_plain ctx callee.rule args
        (items_here env (positional_seat callee.offers) args)))))

    tested_items : (env : Env) (seat : ℕ → Seat) (es : Exprs)
        → AllTested (found_in_items keeps es (items_here env seat es))
    tested_items env seat no_exprs = tt
    tested_items env seat (more_exprs e rest) =
        tested_then _ _ (tested_whole env (seat 0).want e (tested_parts env (seat 0).want e))
        (tested_then _ _ (tested_flows ctx.bases (place_of e) (whole_label e (labels_here env (seat 0).want e))
        (seat 0).into) (tested_items env (λ i. seat (suc i)) rest))

    tested_arguments : (env : Env) (is_test : Test) (seat : ℕ → Seat) (es : Exprs)
        → AllTested (found_in_arguments keeps is_test es (items_here env seat es))
    tested_arguments env is_test seat no_exprs = tt
    tested_arguments env true seat (more_exprs e rest) = tested_whole env (seat 0).want e
        (tested_parts env (seat 0).want e)
    tested_arguments env false seat (more_exprs e rest) =
        tested_then _ _ (tested_whole env (seat 0).want e (tested_parts env (seat 0).want e))
        (tested_then _ _ (tested_flows ctx.bases (place_of e) (whole_label e (labels_here env (seat 0).want e))
        (seat 0).into) (tested_arguments env false (λ i. seat (suc i)) rest))

    tested_entries : (env : Env) (x y : Seat) (es : Entries) →
        AllTested (found_in_entries keeps es (entries_here env x y es))
    tested_entries env x y no_entries = tt
    tested_entries env x y (more_entries key value rest) =
        tested_then _ _ (tested_whole env x.want key (tested_parts env x.want key))
        (tested_then _ _ (tested_flows ctx.bases (place_of key) (whole_label key (labels_here env x.want key)) x.into)
        (tested_then _ _ (tested_whole env y.want value (tested_parts env y.want value))
        (tested_then _ _ (tested_flows ctx.bases (place_of value) (whole_label value (labels_here env y.want value))
        y.into) (tested_entries env x y rest))))

    tested_keywords : (env : Env) (seat : List ℕ → Seat) (before : List (List ℕ)) (es : Keywords)
        → AllTested (found_in_keywords keeps es (keywords_here env seat before es))
    tested_keywords env seat before no_keywords = tt
    tested_keywords env seat before (more_keywords parameter value rest) =
        tested_then _ _ (tested_whole env (keyword_seat seat before parameter).want value
        (tested_parts env (keyword_seat seat before parameter).want value))
        (tested_then _ _ (tested_flows ctx.bases (place_of value)
        (whole_label value (labels_here env (keyword_seat seat before parameter).want value))
        (keyword_seat seat before parameter).into)
        (tested_keywords env seat (parameter.text ∷ before) rest))

  tested_in : (env : Env) (want : Option Tree) (e : Expr) → AllTested (notes_under keeps e (labels_here env want e))
  tested_in env want e = tested_whole env want e (tested_parts env want e)

-- ---- lists of right notes

module _ (bases : Bases) where
  -- by themselves, of codes other than that of a dynamic flow
  pub right_plain : (fs : List Finding) → AllByRecursion (λ (f : Finding). IsPlain f.code) fs
      → AreRight bases (map plain_note fs)
  right_plain [] h = tt
  right_plain (f ∷ fs) h = (record { tested = h.0; formed = tt }, right_plain fs h.1)

  pub right_codes : (p : Place) (cs : List Code) → ArePlain cs → AreRight bases (codes_at p cs)
  right_codes p cs h = right_both bases (codes_at p cs) (tested_codes bases p cs h) (formed_codes bases p cs)

  -- of the flows of a well-formed type into well-formed types
  pub right_flows : AreSmaller bases → (p : Place) (m : Label) (ts : List Tree) → IsWellFormed bases m.type
      → AreWellFormed bases ts → AreRight bases (flows_at p (flows_of bases m ts))
  right_flows o p m ts h k =
      right_both bases (flows_at p (flows_of bases m ts)) (tested_flows bases p m ts)
      (formed_flows bases p (flows_of bases m ts) (flows_well_formed bases (static_test bases) (assignable_test bases)
      (are_tests bases o) m ts h k))

-- ---- in an expression

-- the types of what an expression stands in are well-formed
pub record StandsWell (k : Standing) : Type 0 where
  pub context : ContextWellFormed k.context
  pub declared : AreWellFormed k.context.bases k.declared
  pub env : IsWellFormedEnv k.context.bases k.env

module _ (k : Standing) (w : StandsWell k) where
  open k use {context as ctx}

  -- the type of an expression is well-formed, and the notes in it are right
  pub label_well_formed : (want : Option Tree) → IsWellFormedIfAny ctx.bases want → (e : Expr)
      → IsWellFormed ctx.bases (label_in k want e).type
  unfolding label_in
  label_well_formed want h e = (labels_are_lawful ctx k.declared k.env want e w.context w.declared w.env h).1

  pub right_in : (want : Option Tree) → IsWellFormedIfAny ctx.bases want → (e : Expr)
      → AreRight ctx.bases (finds_in k want e)
  unfolding finds_in
  right_in want h e =
      let m = labels_here ctx k.declared k.keeps k.env want e in
      right_both ctx.bases (notes_under k.keeps e m) (tested_in ctx k.declared k.keeps k.env want e)
      (formed_whole ctx.bases k.keeps e m (found_in_parts k.keeps e m) (formed_parts ctx.bases k.keeps e m
      (labels_are_lawful ctx k.declared k.env want e w.context w.declared w.env h).2))

  -- likewise those in a call of `range` as what a `for` goes over
  pub right_range : (p : Place) (callee : Expr) (args : Exprs) (kws : Keywords)
      → AreRight ctx.bases (range_finds k p callee args kws)
  unfolding arguments_find keywords_find
  right_range p callee args kws =
      let offers = range_offers (arguments_given args kws) in
      let calls : CallsWellFormed ctx.bases offers = (
        called_well_formed ctx.bases (arguments_given args kws)
            range_signature (builtin_well_formed ctx.bases (Int ∷ []) Object (int_well_formed ctx.bases, tt)
            (object_well_formed ctx.bases)),
        tt,
      ) in
      let tests = are_tests ctx.bases w.context.smaller in
      let a = items_lawful ctx k.declared w.context w.declared (static_test ctx.bases) (assignable_test ctx.bases) tests
      k.env w.env (positional_seat offers) (positional_well_formed ctx.bases offers calls) args in
      let b = keywords_lawful ctx k.declared w.context w.declared (static_test ctx.bases) (assignable_test ctx.bases)
      tests k.env w.env (named_seat offers) (named_well_formed ctx.bases offers calls) [] kws in
      let is_test = is_instance_test callee args kws in
      let arguments = arguments_find k is_test (positional_seat offers) args in
      let keywords = keywords_find k (named_seat offers) [] kws in
      right_append ctx.bases arguments (keywords ++ codes_at p (call_label ctx.bases offers).codes)
      (right_both ctx.bases arguments (tested_arguments ctx k.declared k.keeps k.env is_test (positional_seat offers)
      args)
      (formed_arguments ctx.bases k.keeps is_test args (items_in k (positional_seat offers) args) a.each))
      (right_append ctx.bases keywords (codes_at p (call_label ctx.bases offers).codes)
      (right_both ctx.bases keywords (tested_keywords ctx k.declared k.keeps k.env (named_seat offers) [] kws)
      (formed_keywords ctx.bases k.keeps kws (keywords_in k (named_seat offers) [] kws) b.each))
      (right_codes ctx.bases p (call_label ctx.bases offers).codes (range_plain ctx.bases (arguments_given args kws))))
