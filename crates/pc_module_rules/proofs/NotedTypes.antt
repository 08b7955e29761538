-- The types noted in an expression, if types are kept, are those under its labels: those that are shown, or every one;
-- findings note none.
use Rattle.std.proofs.Common.{◌≡◌, List, [], ◌∷◌, ◌++◌, Option, Some, None, refl, sym, ap, ◌∙◌, subst, append-nil}
use Rattle.std.proofs.Common.{append_assoc, map}
use Rattle.std.proofs.lemmas.Grind.{flat_map-append}
use Rattle.std.proofs.lemmas.List.{map-append}
use Rattle.std.specs.Prelude.{Bool as Test, true, false, if◌then◌else◌, flat_map}
use Rattle.pc_source.specs.declared.place.Place.{Place}
use Rattle.pc_tree.specs.declared.code.Code.{Code}
use Rattle.pc_tree.specs.declared.code.Finding.{Finding}
use Rattle.pc_tree.specs.Code.{finding}
use Rattle.pc_tree.specs.Depth.{place_of}
use Rattle.pc_tree.specs.Tree.{Expr, Exprs, Entries, Keywords, name, number, text, truth, nothing, tuple, list, dict}
use Rattle.pc_tree.specs.Tree.{negative, negation, binary, compare, is_none, is_not_none, conjunction, disjunction}
use Rattle.pc_tree.specs.Tree.{attribute, index, call, no_exprs, more_exprs, no_entries, more_entries, no_keywords}
use Rattle.pc_tree.specs.Tree.{more_keywords}
use Rattle.pc_scope.specs.Expressions.{is_instance_test}
use Rattle.pc_types.specs.Tree.{Tree}
use Rattle.pc_notes.specs.Notes.{Note, told, typed, named, plain_note, flow_note, types_of, is_same_place, type_or}
use Rattle.pc_notes.specs.Notes.{type_noted}
use Rattle.pc_rules.specs.Labels.{FlowLabels, Labels, ItemsLabels, EntriesLabels, KeywordsLabels, whole_label}
use Rattle.pc_rules.specs.Labels.{is_of_scopes, second_place}
use Rattle.pc_rules.specs.Computed.Findings.{own_at, has_code, once, own_flow, flow_then, flows_behind}
use Rattle.pc_rules.specs.Computed.Findings.{codes_at, flows_at, notes_of_code, label_at, shows, whole, callee_notes}
use Rattle.pc_rules.specs.Computed.Findings.{found_in_parts, found_in_items, found_in_arguments, found_in_entries}
use Rattle.pc_rules.specs.Computed.Findings.{found_in_keywords, notes_under}
use Rattle.pc_module_rules.specs.FirstAt.{first_at, first_type_at}
use Rattle.pc_module_rules.specs.TypesOfExpressions.{TypeAt, type_here, callee_here, types_in, types_inside}
use Rattle.pc_module_rules.specs.TypesOfExpressions.{types_in_exprs, types_in_arguments, types_in_entries}
use Rattle.pc_module_rules.specs.TypesOfExpressions.{types_in_keywords}
use Rattle.pc_module_rules.specs.TypesOfModules.{as_pair}

-- ---- the types of notes

-- the type of a note, if it is shown, or if every type counts
abbrev pub noted_type : (every : Test) → Note → List (Place × Tree)
noted_type every (told f flow) = []
noted_type every (typed true p t) = (p, t) ∷ []
noted_type every (typed false p t) = if every then (p, t) ∷ [] else []
noted_type every (named p d c) = []

-- the types of notes: those that are shown, or every one
abbrev pub noted_types : (every : Test) → List Note → List (Place × Tree)
noted_types every notes = flat_map (noted_type every) notes

-- the types noted without the hidden ones are the types that notes show
pub shown_types : (notes : List Note) → noted_types false notes ≡ types_of notes
shown_types [] = refl
shown_types (told f flow ∷ ns) = shown_types ns
shown_types (typed true p t ∷ ns) = ap (λ (rows : List (Place × Tree)). (p, t) ∷ rows) (shown_types ns)
shown_types (typed false p t ∷ ns) = shown_types ns
shown_types (named p d c ∷ ns) = shown_types ns

-- the types of notes, those that are shown or every one, are these
pub record Shows (every : Test) (notes : List Note) (rows : List TypeAt) : Type 0 where
  pub are : noted_types every notes ≡ map as_pair rows

-- ---- the first type at a place

module _ (p : Place) where
  -- the first of these rows at the place
  abbrev first_row : List (Place × Tree) → Option Tree
  first_row rows = first_at (λ (r : Place × Tree). r.0) (λ (r : Place × Tree). r.1) p rows

  first_noted : (notes : List Note) → type_noted p notes ≡ first_row (noted_types true notes)
  first_noted [] = refl
  first_noted (told f flow ∷ ns) = first_noted ns
  first_noted (typed true q t ∷ ns) = ap (type_or p (typed true q t)) (first_noted ns)
  first_noted (typed false q t ∷ ns) = ap (type_or p (typed false q t)) (first_noted ns)
  first_noted (named q d c ∷ ns) = first_noted ns

  first_paired : (rows : List TypeAt) → first_row (map as_pair rows) ≡ first_type_at p rows
  first_paired [] = refl
  first_paired (t ∷ ts) = ap (λ (o : Option Tree). if is_same_place p t.place then Some t.type else o)
      (first_paired ts)

  -- where every type of notes is among these, the first noted at the place is the first there
  pub first_shown : (notes : List Note) (rows : List TypeAt) → Shows true notes rows
      → type_noted p notes ≡ first_type_at p rows
  first_shown notes rows h = first_noted notes ∙ ap first_row h.are ∙ first_paired rows

-- more notes show just these types besides
pub record ShowsMore (every : Test) (found after : List Note) (rows : List TypeAt) : Type 0 where
  pub are : noted_types every after ≡ noted_types every found ++ map as_pair rows

module _ {every : Test} where
  -- ---- notes that show just these types

  pub show_nothing : Shows every [] []
  show_nothing = record { are = refl }

  pub show_both : (xs ys : List Note) (a b : List TypeAt) → Shows every xs a → Shows every ys b
      → Shows every (xs ++ ys) (a ++ b)
  show_both xs ys a b h k = record {
    are = flat_map-append (noted_type every) xs ys ∙ (λ i. h.are i ++ k.are i) ∙ sym (map-append as_pair a b);
  }

  -- with others after them, or before them, that show none
  pub show_behind : (xs ys : List Note) (a : List TypeAt) → Shows every xs a → Shows every ys []
      → Shows every (xs ++ ys) a
  show_behind xs ys a h k = record { are = (show_both xs ys a [] h k).are ∙ ap (map as_pair) (append-nil a) }

  pub show_after : (xs ys : List Note) (b : List TypeAt) → Shows every xs [] → Shows every ys b
      → Shows every (xs ++ ys) b
  show_after xs ys b h k = record { are = (show_both xs ys [] b h k).are }

  -- of types in other brackets
  pub show_grouped : (xs : List Note) (a b c : List TypeAt) → Shows every xs (a ++ (b ++ c))
      → Shows every xs ((a ++ b) ++ c)
  show_grouped xs a b c h = subst (Shows every xs) (sym (append_assoc a b c)) h

  -- ---- more notes

  pub more_none : (found : List Note) → ShowsMore every found found []
  more_none found = record { are = sym (append-nil (noted_types every found)) }

  pub more : (found xs : List Note) (a : List TypeAt) → Shows every xs a → ShowsMore every found (found ++ xs) a
  more found xs a h = record {
    are = flat_map-append (noted_type every) found xs
        ∙ ap (λ (rows : List (Place × Tree)). noted_types every found ++ rows) h.are;
  }

  pub more_then : (f g h : List Note) (a b : List TypeAt) → ShowsMore every f g a → ShowsMore every g h b
      → ShowsMore every f h (a ++ b)
  more_then f g h a b x y = record {
    are = y.are
        ∙ ap (λ (rows : List (Place × Tree)). rows ++ map as_pair b) x.are
        ∙ append_assoc (noted_types every f) (map as_pair a) (map as_pair b)
        ∙ ap (λ (rows : List (Place × Tree)). noted_types every f ++ rows) (sym (map-append as_pair a b));
  }

  -- with more before
  pub more_behind : (f xs h : List Note) (b : List TypeAt) → Shows every xs [] → ShowsMore every (f ++ xs) h b
      → ShowsMore every f h b
  more_behind f xs h b x y = more_then f (f ++ xs) h [] b (more f xs [] x) y

  -- notes that show just these types, with more after them
  pub show_more : (found after : List Note) (a b : List TypeAt) → Shows every found a → ShowsMore every found after b
      → Shows every after (a ++ b)
  show_more found after a b h k = record {
    are = k.are ∙ ap (λ (rows : List (Place × Tree)). rows ++ map as_pair b) h.are ∙ sym (map-append as_pair a b);
  }

  -- ---- findings show none

  pub show_plain : (fs : List Finding) → Shows every (map plain_note fs) []
  show_plain [] = show_nothing
  show_plain (f ∷ fs) = record { are = (show_plain fs).are }

  unless : (b : Test) (n : Note) → noted_type every n ≡ [] → Shows every (if b then [] else n ∷ []) []
  unless true n h = show_nothing
  unless false n h = record { are = append-nil (noted_type every n) ∙ h }

  each_code : (p : Place) (cs : List Code) → Shows every (flat_map (own_at p) cs) []
  each_code p [] = show_nothing
  each_code p (c ∷ cs) = show_after (own_at p c) (flat_map (own_at p) cs) []
      (unless (is_of_scopes c) (plain_note (finding p c)) refl) (each_code p cs)

  pub show_codes : (p : Place) (cs : List Code) → Shows every (codes_at p cs) []
  show_codes p cs = each_code p (once cs)

  show_code : (p : Place) (o : Option Code) → Shows every (notes_of_code p o) []
  show_code p None = show_nothing
  show_code p (Some c) = unless (is_of_scopes c) (plain_note (finding p c)) refl

  show_then : (p : Place) (before : List Code) (s t : Tree) (o : Option Code) (rest : List Code → List Note)
      → ((codes : List Code) → Shows every (rest codes) []) → Shows every (flow_then p before s t o rest) []
  show_then p before s t None rest h = h before
  show_then p before s t (Some c) rest h = by_test (has_code before c)
    where
      by_test : (b : Test) → Shows every (if b then rest before else own_flow p s t c ++ rest (before ++ c ∷ [])) []
      by_test true = h before
      by_test false = show_after (own_flow p s t c) (rest (before ++ c ∷ [])) []
          (unless (is_of_scopes c) (flow_note (finding p c) s t) refl) (h (before ++ c ∷ []))

  each_flow : (p : Place) (flows : FlowLabels) (before : List Code) → Shows every (flows_behind p before flows) []
  each_flow p [] before = show_nothing
  each_flow p (f ∷ fs) before = show_then p before f.from f.into f.code (λ codes. flows_behind p codes fs)
      (each_flow p fs)

  pub show_flows : (p : Place) (flows : FlowLabels) → Shows every (flows_at p flows) []
  show_flows p flows = each_flow p flows []

  -- ---- expressions

  label_shown : (e : Expr) (m : Labels e) → Shows every (label_at true true (place_of e) (whole_label e m))
      (type_here e m)
  label_shown e m = record {
    are = ap (λ (rows : List (Place × Tree)). ((place_of e), (whole_label e m).type) ∷ rows)
        (show_codes (place_of e) (whole_label e m).codes).are;
  }

-- of a callee, whose type is not shown if it is a name or an attribute
callee_shown : (every : Test) (e : Expr) (m : Labels e)
    → Shows every (label_at true (shows e) (place_of e) (whole_label e m)) (callee_here every e m)
callee_shown true (name n) m = record { are = (label_shown {every = true} (name n) m).are }
callee_shown true (attribute p e field) m = record { are = (label_shown {every = true} (attribute p e field) m).are }
callee_shown false (name n) m = record { are = (show_codes {every = false} n.place m.codes).are }
callee_shown false (attribute p e field) m = record { are = (show_codes {every = false} p m.here.codes).are }
callee_shown every e m = label_shown e m

module _ {every : Test} where
  show_whole : (e : Expr) (m : Labels e) (parts : List Note) (rows : List TypeAt) → Shows every parts rows
      → Shows every (whole true e m parts) (rows ++ type_here e m)
  show_whole e m parts rows h = show_both parts (label_at true true (place_of e) (whole_label e m)) rows
      (type_here e m) h
      (label_shown e m)

  show_called : (e : Expr) (m : Labels e) (parts : List Note) (rows : List TypeAt) → Shows every parts rows
      → Shows every (callee_notes true e m parts) (rows ++ callee_here every e m)
  show_called e m parts rows h = show_both parts (label_at true (shows e) (place_of e) (whole_label e m)) rows
      (callee_here every e m) h (callee_shown every e m)

  mutual
    pub show_inside : (e : Expr) (m : Labels e) → Shows every (found_in_parts true e m) (types_inside every e m)
    show_inside (name n) m = show_nothing
    show_inside (number p digits) m = show_nothing
    show_inside (text p characters) m = show_nothing
    show_inside (truth p value) m = show_nothing
    show_inside (nothing p) m = show_nothing
    show_inside (tuple p es) m = show_items es m.items
    show_inside (list p es) m = show_items es m.items
    show_inside (dict p es) m = show_entries es m.entries
    show_inside (negative p e) m = show_whole e m.operand _ _ (show_inside e m.operand)
    show_inside (negation p e) m = show_whole e m.operand _ _ (show_inside e m.operand)
    show_inside (binary p o l r) m = show_both _ _ _ _ (show_whole l m.left _ _ (show_inside l m.left))
        (show_whole r m.right _ _ (show_inside r m.right))
    show_inside (compare p o l r) m = show_both _ _ _ _ (show_whole l m.left _ _ (show_inside l m.left))
        (show_behind _ _ _ (show_whole r m.right _ _ (show_inside r m.right)) (show_flows (place_of l) m.flows))
    show_inside (is_none p e) m = show_whole e m.operand _ _ (show_inside e m.operand)
    show_inside (is_not_none p e) m = show_whole e m.operand _ _ (show_inside e m.operand)
    show_inside (conjunction p l r) m = show_both _ _ _ _ (show_whole l m.left _ _ (show_inside l m.left))
        (show_whole r m.right _ _ (show_inside r m.right))
    show_inside (disjunction p l r) m = show_both _ _ _ _ (show_whole l m.left _ _ (show_inside l m.left))
        (show_whole r m.right _ _ (show_inside r m.right))
    show_inside (attribute p e field) m = show_whole e m.object _ _ (show_inside e m.object)
    show_inside (index p e i) m = show_both _ _ _ _ (show_whole e m.object _ _ (show_inside e m.object))
        (show_behind _ _ _ (show_whole i m.key _ _ (show_inside i m.key)) (show_flows (place_of i) m.flows))
    show_inside (call p c args kws) m =
        show_both _ _ _ _ (show_called c m.callee _ _ (show_inside c m.callee))
        (show_both _ _ _ _ (show_arguments (is_instance_test c args kws) args m.arguments)
        (show_behind _ _ _ (show_keywords kws m.keywords) (show_code (second_place args p) m.second)))

    show_items : (es : Exprs) (m : ItemsLabels es) → Shows every (found_in_items true es m) (types_in_exprs every es m)
    show_items no_exprs m = show_nothing
    show_items (more_exprs e rest) m = show_both _ _ _ _ (show_whole e m.first _ _ (show_inside e m.first))
        (show_after _ _ _ (show_flows (place_of e) m.flows) (show_items rest m.rest))

    pub show_arguments : (is_test : Test) (es : Exprs) (m : ItemsLabels es)
        → Shows every (found_in_arguments true is_test es m) (types_in_arguments every is_test es m)
    show_arguments is_test no_exprs m = show_nothing
    show_arguments true (more_exprs e rest) m = show_whole e m.first _ _ (show_inside e m.first)
    show_arguments false (more_exprs e rest) m = show_both _ _ _ _ (show_whole e m.first _ _ (show_inside e m.first))
        (show_after _ _ _ (show_flows (place_of e) m.flows) (show_arguments false rest m.rest))

    show_entries : (es : Entries) (m : EntriesLabels es) → Shows every (found_in_entries true es m)
        (types_in_entries every es m)
    show_entries no_entries m = show_nothing
    show_entries (more_entries key value rest) m =
        show_both _ _ _ _ (show_whole key m.key _ _ (show_inside key m.key))
        (show_after _ _ _ (show_flows (place_of key) m.key_flows)
        (show_both _ _ _ _ (show_whole value m.value _ _ (show_inside value m.value))
        (show_after _ _ _ (show_flows (place_of value) m.value_flows) (show_entries rest m.rest))))

    pub show_keywords : (es : Keywords) (m : KeywordsLabels es)
        → Shows every (found_in_keywords true es m) (types_in_keywords every es m)
    show_keywords no_keywords m = show_nothing
    show_keywords (more_keywords parameter value rest) m = show_both _ _ _ _
        (show_whole value m.first _ _ (show_inside value m.first))
        (show_after _ _ _ (show_flows (place_of value) m.flows) (show_keywords rest m.rest))

  -- the types noted in an expression are the types under its labels
  pub show_expression : (e : Expr) (m : Labels e) → Shows every (notes_under true e m) (types_in every e m)
  show_expression e m = show_whole e m (found_in_parts true e m) (types_inside every e m) (show_inside e m)
