-- Findings and the types of labels name nothing: the notes in an expression, in the iterable of a `for` and in a store
-- hold no bound names.
use Rattle.std.proofs.Common.{◌≡◌, List, [], ◌∷◌, ◌++◌, Option, Some, None, refl, ◌∙◌, map}
use Rattle.std.proofs.lemmas.Grind.{flat_map-append}
use Rattle.std.specs.Prelude.{Bool as Test, true, false, if◌then◌else◌, flat_map}
use Rattle.pc_source.specs.declared.place.Place.{Place}
use Rattle.pc_tree.specs.declared.code.Code.{Code}
use Rattle.pc_tree.specs.declared.code.Finding.{Finding}
use Rattle.pc_tree.specs.Code.{finding}
use Rattle.pc_tree.specs.Depth.{place_of}
use Rattle.pc_tree.specs.Tree.{Expr, Exprs, Entries, Keywords, name, number, text, truth, nothing, tuple, list, dict}
use Rattle.pc_tree.specs.Tree.{negative, negation, binary, compare, is_none, is_not_none, conjunction, disjunction}
use Rattle.pc_tree.specs.Tree.{attribute, index, call, no_exprs, more_exprs, no_entries, more_entries, no_keywords}
use Rattle.pc_tree.specs.Tree.{more_keywords, Target, to_name, to_attribute, to_index}
use Rattle.pc_scope.specs.Expressions.{is_instance_test}
use Rattle.pc_types.specs.Tree.{Tree, NoneType}
use Rattle.pc_notes.specs.Notes.{Note, told, plain_note, name_of_note, names_of_notes}
use Rattle.pc_rules.specs.Operations.{Label, clean, StoreOffer, store_codes, store_index_types, stored_types, only_type}
use Rattle.pc_rules.specs.Calls.{arguments_given, call_label, positional_seat, named_seat, is_range, range_offers}
use Rattle.pc_rules.specs.Labels.{FlowLabels, Labels, ItemsLabels, EntriesLabels, KeywordsLabels, whole_label}
use Rattle.pc_rules.specs.Labels.{is_of_scopes, second_place}
use Rattle.pc_rules.specs.Computed.Expressions.{labels_of, flows_of}
use Rattle.pc_rules.specs.Computed.Findings.{own_at, has_code, once, own_flow, flow_then, flows_behind, codes_at}
use Rattle.pc_rules.specs.Computed.Findings.{flows_at, notes_of_code, note_of_type, label_at, shows, whole, callee_notes}
use Rattle.pc_rules.specs.Computed.Findings.{found_in_parts, found_in_items, found_in_arguments, found_in_entries}
use Rattle.pc_rules.specs.Computed.Findings.{found_in_keywords, notes_under}
use Rattle.pc_rules.specs.Computed.Standing.{Standing, label_in, finds_in, items_in, keywords_in, arguments_find}
use Rattle.pc_rules.specs.Computed.Standing.{keywords_find}
use Rattle.pc_rules.specs.Computed.Ranges.{range_finds}
use Rattle.pc_module_rules.specs.Computed.Statements.{BodyContext, attribute_stores, index_stores, stored_finds}
use Rattle.pc_module_rules.specs.Computed.Statements.{store_finds, iterable_finds, option_finds, return_finds}

-- notes that hold no bound name
pub record AreNameless (notes : List Note) : Type 0 where
  pub are : names_of_notes notes ≡ []

pub no_notes : AreNameless []
no_notes = record { are = refl }

pub nameless_both : (xs ys : List Note) → AreNameless xs → AreNameless ys → AreNameless (xs ++ ys)
nameless_both xs ys h k = record { are = flat_map-append name_of_note xs ys ∙ (λ i. h.are i ++ k.are i) }

-- ---- findings

pub plain_nameless : (fs : List Finding) → AreNameless (map plain_note fs)
plain_nameless [] = no_notes
plain_nameless (f ∷ fs) = record { are = (plain_nameless fs).are }

unless : (b : Test) (f : Finding) (flow : Option (Tree × Tree)) → AreNameless (if b then [] else told f flow ∷ [])
unless true f flow = no_notes
unless false f flow = record { are = refl }

each_code : (p : Place) (cs : List Code) → AreNameless (flat_map (own_at p) cs)
each_code p [] = no_notes
each_code p (c ∷ cs) = nameless_both (own_at p c) (flat_map (own_at p) cs)
    (unless (is_of_scopes c) (finding p c) None) (each_code p cs)

pub codes_nameless : (p : Place) (cs : List Code) → AreNameless (codes_at p cs)
codes_nameless p cs = each_code p (once cs)

code_nameless : (p : Place) (o : Option Code) → AreNameless (notes_of_code p o)
code_nameless p None = no_notes
code_nameless p (Some c) = unless (is_of_scopes c) (finding p c) None

then_nameless : (p : Place) (before : List Code) (s t : Tree) (o : Option Code) (rest : List Code → List Note)
    → ((codes : List Code) → AreNameless (rest codes)) → AreNameless (flow_then p before s t o rest)
then_nameless p before s t None rest h = h before
then_nameless p before s t (Some c) rest h = by_test (has_code before c)
  where
    by_test : (b : Test) → AreNameless (if b then rest before else own_flow p s t c ++ rest (before ++ c ∷ []))
    by_test true = h before
    by_test false = nameless_both (own_flow p s t c) (rest (before ++ c ∷ []))
        (unless (is_of_scopes c) (finding p c) (Some (s, t))) (h (before ++ c ∷ []))

each_flow : (p : Place) (flows : FlowLabels) (before : List Code) → AreNameless (flows_behind p before flows)
each_flow p [] before = no_notes
each_flow p (f ∷ fs) before = then_nameless p before f.from f.into f.code (λ codes. flows_behind p codes fs)
    (each_flow p fs)

pub flows_nameless : (p : Place) (flows : FlowLabels) → AreNameless (flows_at p flows)
flows_nameless p flows = each_flow p flows []

-- ---- expressions

module _ (keeps : Test) where
  type_nameless : (kept shown : Test) (p : Place) (t : Tree) → AreNameless (note_of_type kept shown p t)
  type_nameless false shown p t = no_notes
  type_nameless true shown p t = record { are = refl }

  label_nameless : (shown : Test) (p : Place) (m : Label) → AreNameless (label_at keeps shown p m)
  label_nameless shown p m = nameless_both (note_of_type keeps shown p m.type) (codes_at p m.codes)
      (type_nameless keeps shown p m.type) (codes_nameless p m.codes)

  whole_nameless : (e : Expr) (m : Labels e) (parts : List Note) → AreNameless parts
      → AreNameless (whole keeps e m parts)
  whole_nameless e m parts h = nameless_both parts (label_at keeps true (place_of e) (whole_label e m)) h
      (label_nameless true (place_of e) (whole_label e m))

  called_nameless : (e : Expr) (m : Labels e) (parts : List Note) → AreNameless parts
      → AreNameless (callee_notes keeps e m parts)
  called_nameless e m parts h = nameless_both parts (label_at keeps (shows e) (place_of e) (whole_label e m)) h
      (label_nameless (shows e) (place_of e) (whole_label e m))

  mutual
    parts_nameless : (e : Expr) (m : Labels e) → AreNameless (found_in_parts keeps e m)
    parts_nameless (name n) m = no_notes
    parts_nameless (number p digits) m = no_notes
    parts_nameless (text p characters) m = no_notes
    parts_nameless (truth p value) m = no_notes
    parts_nameless (nothing p) m = no_notes
    parts_nameless (tuple p es) m = items_nameless es m.items
    parts_nameless (list p es) m = items_nameless es m.items
    parts_nameless (dict p es) m = entries_nameless es m.entries
    parts_nameless (negative p e) m = whole_nameless e m.operand _ (parts_nameless e m.operand)
    parts_nameless (negation p e) m = whole_nameless e m.operand _ (parts_nameless e m.operand)
    parts_nameless (binary p o l r) m = nameless_both _ _ (whole_nameless l m.left _ (parts_nameless l m.left))
        (whole_nameless r m.right _ (parts_nameless r m.right))
    parts_nameless (compare p o l r) m = nameless_both _ _ (whole_nameless l m.left _ (parts_nameless l m.left))
        (nameless_both _ _ (whole_nameless r m.right _ (parts_nameless r m.right))
        (flows_nameless (place_of l) m.flows))
    parts_nameless (is_none p e) m = whole_nameless e m.operand _ (parts_nameless e m.operand)
    parts_nameless (is_not_none p e) m = whole_nameless e m.operand _ (parts_nameless e m.operand)
    parts_nameless (conjunction p l r) m = nameless_both _ _ (whole_nameless l m.left _ (parts_nameless l m.left))
        (whole_nameless r m.right _ (parts_nameless r m.right))
    parts_nameless (disjunction p l r) m = nameless_both _ _ (whole_nameless l m.left _ (parts_nameless l m.left))
        (whole_nameless r m.right _ (parts_nameless r m.right))
    parts_nameless (attribute p e field) m = whole_nameless e m.object _ (parts_nameless e m.object)
    parts_nameless (index p e i) m = nameless_both _ _ (whole_nameless e m.object _ (parts_nameless e m.object))
        (nameless_both _ _ (whole_nameless i m.key _ (parts_nameless i m.key)) (flows_nameless (place_of i) m.flows))
    parts_nameless (call p c args kws) m =
        nameless_both _ _ (called_nameless c m.callee _ (parts_nameless c m.callee))
        (nameless_both _ _ (arguments_nameless (is_instance_test c args kws) args m.arguments)
        (nameless_both _ _ (keywords_nameless kws m.keywords) (code_nameless (second_place args p) m.second)))

    items_nameless : (es : Exprs) (m : ItemsLabels es) → AreNameless (found_in_items keeps es m)
    items_nameless no_exprs m = no_notes
    items_nameless (more_exprs e rest) m = nameless_both _ _ (whole_nameless e m.first _ (parts_nameless e m.first))
        (nameless_both _ _ (flows_nameless (place_of e) m.flows) (items_nameless rest m.rest))

    arguments_nameless : (is_test : Test) (es : Exprs) (m : ItemsLabels es)
        → AreNameless (found_in_arguments keeps is_test es m)
    arguments_nameless is_test no_exprs m = no_notes
    arguments_nameless true (more_exprs e rest) m = whole_nameless e m.first _ (parts_nameless e m.first)
    arguments_nameless false (more_exprs e rest) m = nameless_both _ _
        (whole_nameless e m.first _ (parts_nameless e m.first))
        (nameless_both _ _ (flows_nameless (place_of e) m.flows) (arguments_nameless false rest m.rest))

    entries_nameless : (es : Entries) (m : EntriesLabels es) → AreNameless (found_in_entries keeps es m)
    entries_nameless no_entries m = no_notes
    entries_nameless (more_entries key value rest) m =
        nameless_both _ _ (whole_nameless key m.key _ (parts_nameless key m.key))
        (nameless_both _ _ (flows_nameless (place_of key) m.key_flows)
        (nameless_both _ _ (whole_nameless value m.value _ (parts_nameless value m.value))
        (nameless_both _ _ (flows_nameless (place_of value) m.value_flows) (entries_nameless rest m.rest))))

    keywords_nameless : (es : Keywords) (m : KeywordsLabels es) → AreNameless (found_in_keywords keeps es m)
    keywords_nameless no_keywords m = no_notes
    keywords_nameless (more_keywords parameter value rest) m = nameless_both _ _
        (whole_nameless value m.first _ (parts_nameless value m.first))
        (nameless_both _ _ (flows_nameless (place_of value) m.flows) (keywords_nameless rest m.rest))

  expression_nameless : (e : Expr) (m : Labels e) → AreNameless (notes_under keeps e m)
  expression_nameless e m = whole_nameless e m (found_in_parts keeps e m) (parts_nameless e m)

-- ---- expressions at a standing

module _ (k : Standing) where
  pub read_nameless : (want : Option Tree) (e : Expr) → AreNameless (finds_in k want e)
  unfolding finds_in
  read_nameless want e = expression_nameless k.keeps e (labels_of k.context k.declared k.env want e)

  range_nameless : (p : Place) (c : Expr) (args : Exprs) (kws : Keywords) → AreNameless (range_finds k p c args kws)
  unfolding arguments_find keywords_find
  range_nameless p c args kws =
      let offers = range_offers (arguments_given args kws) in
      let seat = positional_seat offers in
      let named = named_seat offers in
      let is_test = is_instance_test c args kws in
      nameless_both (arguments_find k is_test seat args) (keywords_find k named [] kws
      ++ codes_at p (call_label k.context.bases offers).codes)
      (arguments_nameless k.keeps is_test args (items_in k seat args))
      (nameless_both (keywords_find k named [] kws) (codes_at p (call_label k.context.bases offers).codes)
      (keywords_nameless k.keeps kws (keywords_in k named [] kws))
      (codes_nameless p (call_label k.context.bases offers).codes))

  module _ (context : BodyContext) where
    -- ---- iterables of `for` loops

    pub iterable_nameless : (e : Expr) → AreNameless (iterable_finds context k e)
    iterable_nameless (call p (name n) args kws) = by_test (is_range (context.context.resolve n.text))
      where
        by_test : (b : Test) → AreNameless (if b then range_finds k p (name n) args kws
            else finds_in k None (call p (name n) args kws))
        by_test true = range_nameless p (name n) args kws
        by_test false = read_nameless None (call p (name n) args kws)
    iterable_nameless e = read_nameless None e

    -- ---- stores

    stored_nameless : (offers : List StoreOffer) (p : Place) (e : Expr)
        → AreNameless (stored_finds context k offers p e)
    stored_nameless offers p e =
        let want = only_type offers (stored_types offers) in
        let flows = flows_of context.context.bases (label_in k want e) (stored_types offers) in
        nameless_both (codes_at p (store_codes offers)) (finds_in k want e ++ flows_at (place_of e) flows)
        (codes_nameless p (store_codes offers))
        (nameless_both (finds_in k want e) (flows_at (place_of e) flows) (read_nameless want e)
        (flows_nameless (place_of e) flows))

    pub store_nameless : (t : Target) (e : Expr) → AreNameless (store_finds context k t e)
    store_nameless (to_name n) e = no_notes
    store_nameless (to_attribute p o field) e =
        let offers = attribute_stores context field.text (label_in k None o).type in
        nameless_both (finds_in k None o) (stored_finds context k offers p e) (read_nameless None o)
        (stored_nameless offers p e)
    store_nameless (to_index p o i) e =
        let offers = index_stores context (label_in k None o).type in
        let flows = flows_of context.context.bases (label_in k None i) (store_index_types offers) in
        let rest = stored_finds context k offers p e in
        nameless_both (finds_in k None o) (finds_in k None i ++ (flows_at (place_of i) flows ++ rest))
        (read_nameless None o)
        (nameless_both (finds_in k None i) (flows_at (place_of i) flows ++ rest) (read_nameless None i)
        (nameless_both (flows_at (place_of i) flows) rest (flows_nameless (place_of i) flows)
        (stored_nameless offers p e)))

    -- ---- optional expressions and `return`

    pub option_nameless : (want : Option Tree) (e : Option Expr) → AreNameless (option_finds context k want e)
    option_nameless want None = no_notes
    option_nameless want (Some e) = read_nameless want e

    pub return_nameless : (p : Place) (e : Option Expr) → AreNameless (return_finds context k p e)
    return_nameless p None = flows_nameless p (flows_of context.context.bases (clean NoneType) (context.returned ∷ []))
    return_nameless p (Some e) =
        let flows = flows_of context.context.bases (label_in k (Some context.returned) e) (context.returned ∷ []) in
        nameless_both (finds_in k (Some context.returned) e) (flows_at (place_of e) flows)
        (read_nameless (Some context.returned) e) (flows_nameless (place_of e) flows)
