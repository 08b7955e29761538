-- The findings under the labels of an expression as a list without the types of flows; and that this is the list with
-- these types, forgotten.
use Rattle.std.proofs.Common.{refl, sym, ap, ◌∙◌, append_assoc, append-nil}
use Rattle.std.proofs.lemmas.List.{map-append}
use Rattle.std.proofs.lemmas.Grind.{flat_map-append}
use Rattle.std.specs.Prelude.{◌≡◌, ◌↔◌, List, [], ◌∷◌, ◌++◌, flat_map, Bool as Test, true, false, if◌then◌else◌, Option}
use Rattle.std.specs.Prelude.{Some, None, Contains, option_to_list, bytes_eq}
use Rattle.std.specs.List.{list_any}
use Rattle.pc_source.specs.declared.place.Place.{Place}
use Rattle.pc_tree.specs.declared.code.Code.{Code}
use Rattle.pc_types.specs.Tree.{Tree}
use Rattle.pc_tree.specs.declared.code.Finding.{Finding}
use Rattle.pc_tree.specs.Code.{finding}
use Rattle.pc_tree.specs.Tree.{Expr, Exprs, Entries, Keywords, name, number, text, truth, nothing, tuple, list, dict}
use Rattle.pc_tree.specs.Tree.{negative, negation, binary, compare, is_none, is_not_none, conjunction, disjunction}
use Rattle.pc_tree.specs.Tree.{attribute, index, call, no_exprs, more_exprs, no_entries, more_entries, no_keywords}
use Rattle.pc_tree.specs.Tree.{more_keywords}
use Rattle.pc_tree.specs.Depth.{place_of}
use Rattle.pc_scope.specs.Expressions.{is_instance_test}
use Rattle.pc_notes.specs.Notes.{Note, plain_note, flow_note, finding_in, findings_of}
use Rattle.pc_rules.specs.Operations.{Label}
use Rattle.pc_rules.specs.Computed.Findings.{has_code, add_code, once_onto, once, own_flow, flow_then}
use Rattle.pc_rules.specs.Computed.Findings.{flows_behind}
use Rattle.pc_rules.specs.Computed.Findings as noted
use Rattle.pc_rules.specs.Labels.{FlowLabels, Labels, ItemsLabels, EntriesLabels, KeywordsLabels, whole_label}
use Rattle.pc_rules.specs.Labels.{is_of_scopes, second_place, Finds}

-- the finding of a code at a place, none of a code that is found of scopes
abbrev pub own_at : Place → Code → List Finding
own_at p c = if is_of_scopes c then [] else finding p c ∷ []

-- the findings of a label's codes at its place, each once
abbrev pub codes_at : Place → List Code → List Finding
codes_at p codes = flat_map (own_at p) (once codes)

-- the finding of a code that there may be
abbrev pub code_at : Place → Option Code → List Finding
code_at p None = []
code_at p (Some c) = own_at p c

-- the codes of flows
abbrev pub flow_codes : FlowLabels → List Code
flow_codes flows = flat_map (λ f. option_to_list f.code) flows

-- the findings of flows at the place of what flows, each code once
abbrev pub flows_at : Place → FlowLabels → List Finding
flows_at p flows = codes_at p (flow_codes flows)

-- the findings in the parts of an expression, with those of its own codes after them
abbrev pub whole : (e : Expr) → Labels e → List Finding → List Finding
whole e m parts = parts ++ codes_at (place_of e) (whole_label e m).codes

-- the findings in the parts of an expression, under the labels of items, of arguments, and of the entries of a dict
abbrev mutual
  -- the findings in the parts of an expression and of their flows
  pub found_in_parts : (e : Expr) → Labels e → List Finding
  found_in_parts (name n) m = []
  found_in_parts (number p digits) m = []
  found_in_parts (text p characters) m = []
  found_in_parts (truth p value) m = []
  found_in_parts (nothing p) m = []
  found_in_parts (tuple p items) m = found_in_items items m.items
  found_in_parts (list p items) m = found_in_items items m.items
  found_in_parts (dict p entries) m = found_in_entries entries m.entries
  found_in_parts (negative p e) m = whole e m.operand (found_in_parts e m.operand)
  found_in_parts (negation p e) m = whole e m.operand (found_in_parts e m.operand)
  found_in_parts (binary p operator l r) m = whole l m.left (found_in_parts l m.left) ++ whole r m.right
      (found_in_parts r m.right)
  found_in_parts (compare p operator l r) m = whole l m.left (found_in_parts l m.left)
      ++ (whole r m.right (found_in_parts r m.right) ++ flows_at (place_of l) m.flows)
  found_in_parts (is_none p e) m = whole e m.operand (found_in_parts e m.operand)
  found_in_parts (is_not_none p e) m = whole e m.operand (found_in_parts e m.operand)
  found_in_parts (conjunction p l r) m = whole l m.left (found_in_parts l m.left) ++ whole r m.right
      (found_in_parts r m.right)
  found_in_parts (disjunction p l r) m = whole l m.left (found_in_parts l m.left) ++ whole r m.right
      (found_in_parts r m.right)
  found_in_parts (attribute p e field) m = whole e m.object (found_in_parts e m.object)
  found_in_parts (index p e i) m = whole e m.object (found_in_parts e m.object)
      ++ (whole i m.key (found_in_parts i m.key) ++ flows_at (place_of i) m.flows)
  found_in_parts (call p callee arguments keywords) m =
      whole callee m.callee (found_in_parts callee m.callee)
      ++ (found_in_arguments (is_instance_test callee arguments keywords) arguments m.arguments
      ++ (found_in_keywords keywords m.keywords ++ code_at (second_place arguments p) m.second))

  -- of items, each with its flows
  pub found_in_items : (es : Exprs) → ItemsLabels es → List Finding
  found_in_items no_exprs m = []
  found_in_items (more_exprs e rest) m = whole e m.first (found_in_parts e m.first)
      ++ (flows_at (place_of e) m.flows ++ found_in_items rest m.rest)

  -- of arguments; of a test of an instance what stands second is not looked at
  pub found_in_arguments : (is_test : Test) → (es : Exprs) → ItemsLabels es → List Finding
  found_in_arguments is_test no_exprs m = []
  found_in_arguments true (more_exprs e rest) m = whole e m.first (found_in_parts e m.first)
  found_in_arguments false (more_exprs e rest) m = whole e m.first (found_in_parts e m.first)
      ++ (flows_at (place_of e) m.flows ++ found_in_arguments false rest m.rest)

  -- of the entries of a dict, each key and value with its flows
  pub found_in_entries : (es : Entries) → EntriesLabels es → List Finding
  found_in_entries no_entries m = []
  found_in_entries (more_entries key value rest) m =
      whole key m.key (found_in_parts key m.key) ++ (flows_at (place_of key) m.key_flows
      ++ (whole value m.value (found_in_parts value m.value) ++ (flows_at (place_of value) m.value_flows
      ++ found_in_entries rest m.rest)))

  -- of arguments by name, each with its flows
  pub found_in_keywords : (es : Keywords) → KeywordsLabels es → List Finding
  found_in_keywords no_keywords m = []
  found_in_keywords (more_keywords parameter value rest) m = whole value m.first (found_in_parts value m.first)
      ++ (flows_at (place_of value) m.flows ++ found_in_keywords rest m.rest)

-- the findings under the labels of an expression: what is found in its parts, and then at it
abbrev pub found_in : (e : Expr) → Labels e → List Finding
found_in e m = whole e m (found_in_parts e m)

-- ---- findings left of the list with types

-- of two lists, one after the other
-- of these notes these findings are left; a record, by which the lists are read off
record Forgets (notes : List Note) (fs : List Finding) : Type 0 where
  is : findings_of notes ≡ fs

joined : (xs ys : List Note) (a b : List Finding) → findings_of xs ≡ a → findings_of ys ≡ b
    → findings_of (xs ++ ys) ≡ a ++ b
joined xs ys a b e f = flat_map-append finding_in xs ys ∙ (λ i. e i ++ f i)

both : (xs ys : List Note) (a b : List Finding) → Forgets xs a → Forgets ys b → Forgets (xs ++ ys) (a ++ b)
both xs ys a b e f = record { is = joined xs ys a b e.is f.is }

nothing_left : Forgets [] []
nothing_left = record { is = refl }

unless : (b : Test) (n : Note) → findings_of (if b then [] else n ∷ []) ≡ (if b then [] else finding_in n)
unless true n = refl
unless false n = append-nil (finding_in n)

forget_own : (p : Place) (c : Code) → findings_of (noted.own_at p c) ≡ own_at p c
forget_own p c = unless (is_of_scopes c) (plain_note (finding p c))

forget_each : (p : Place) (cs : List Code) → findings_of (flat_map (noted.own_at p) cs) ≡ flat_map (own_at p) cs
forget_each p [] = refl
forget_each p (c ∷ cs) = joined (noted.own_at p c) (flat_map (noted.own_at p) cs) _ _ (forget_own p c)
    (forget_each p cs)

forget_codes : (p : Place) (cs : List Code) → findings_of (noted.codes_at p cs) ≡ codes_at p cs
forget_codes p cs = forget_each p (once cs)

forget_code : (p : Place) (o : Option Code) → Forgets (noted.notes_of_code p o) (code_at p o)
forget_code p None = nothing_left
forget_code p (Some c) = record { is = forget_own p c }

forget_flow : (p : Place) (s t : Tree) (c : Code) → findings_of (own_flow p s t c) ≡ own_at p c
forget_flow p s t c = unless (is_of_scopes c) (flow_note (finding p c) s t)

-- the findings of codes, after those of codes before them
own_append : (p : Place) (cs ds : List Code) → flat_map (own_at p) (cs ++ ds) ≡ flat_map (own_at p) cs
    ++ flat_map (own_at p) ds
own_append p cs ds = flat_map-append (own_at p) cs ds

-- one flow and those after it, by its code and by whether that code was there before
flow_step : (p : Place) (before : List Code) (s t : Tree) (o : Option Code) (rest : List Code → List Note)
    (cs : List Code)
    → ((codes : List Code) → flat_map (own_at p) (once_onto codes cs) ≡ flat_map (own_at p) codes ++ findings_of
    (rest codes))
    → flat_map (own_at p) (once_onto before (option_to_list o ++ cs)) ≡ flat_map (own_at p) before ++ findings_of
    (flow_then p before s t o rest)
flow_step p before s t None rest cs go = go before
flow_step p before s t (Some c) rest cs go = by_test (has_code before c)
  where
    by_test : (b : Test) → flat_map (own_at p) (once_onto (if b then before else before ++ c ∷ []) cs)
        ≡ flat_map (own_at p) before ++ findings_of (if b then rest before else own_flow p s t c
        ++ rest (before ++ c ∷ []))
    by_test true = go before
    by_test false =
        go (before ++ c ∷ [])
        ∙ ap (λ l. l ++ findings_of (rest (before ++ c ∷ []))) (own_append p before (c ∷ [])
        ∙ ap (λ l. flat_map (own_at p) before ++ l) (append-nil (own_at p c)))
        ∙ append_assoc (flat_map (own_at p) before) (own_at p c) (findings_of (rest (before ++ c ∷ [])))
        ∙ ap (λ l. flat_map (own_at p) before ++ l) (sym (joined (own_flow p s t c) (rest (before ++ c ∷ []))
        (own_at p c)
        (findings_of (rest (before ++ c ∷ []))) (forget_flow p s t c) refl))

forget_behind : (p : Place) (flows : FlowLabels) (before : List Code)
    → flat_map (own_at p) (once_onto before (flow_codes flows)) ≡ flat_map (own_at p) before ++ findings_of
    (flows_behind p before flows)
forget_behind p [] before = sym (append-nil (flat_map (own_at p) before))
forget_behind p (f ∷ fs) before = flow_step p before f.from f.into f.code (λ codes. flows_behind p codes fs)
    (flow_codes fs) (forget_behind p fs)

pub forget_flows : (p : Place) (flows : FlowLabels) → findings_of (noted.flows_at p flows) ≡ flows_at p flows
forget_flows p flows = sym (forget_behind p flows [])

of_flows : (p : Place) (flows : FlowLabels) → Forgets (noted.flows_at p flows) (flows_at p flows)
of_flows p flows = record { is = forget_flows p flows }

forget_whole : (e : Expr) (m : Labels e) (parts : List Note) (fs : List Finding) → Forgets parts fs
    → Forgets (noted.whole false e m parts) (whole e m fs)
forget_whole e m parts fs h = record {
  is = joined parts (noted.codes_at (place_of e) (whole_label e m).codes) fs _ h.is
      (forget_codes (place_of e) (whole_label e m).codes);
}

forget_called : (e : Expr) (m : Labels e) (parts : List Note) (fs : List Finding) → Forgets parts fs
    → Forgets (noted.callee_notes false e m parts) (whole e m fs)
forget_called e m parts fs h = forget_whole e m parts fs h

mutual
  forget_parts : (e : Expr) (m : Labels e) → Forgets (noted.found_in_parts false e m) (found_in_parts e m)
  forget_parts (name n) m = nothing_left
  forget_parts (number p digits) m = nothing_left
  forget_parts (text p characters) m = nothing_left
  forget_parts (truth p value) m = nothing_left
  forget_parts (nothing p) m = nothing_left
  forget_parts (tuple p items) m = forget_items items m.items
  forget_parts (list p items) m = forget_items items m.items
  forget_parts (dict p entries) m = forget_entries entries m.entries
  forget_parts (negative p e) m = forget_whole e m.operand _ _ (forget_parts e m.operand)
  forget_parts (negation p e) m = forget_whole e m.operand _ _ (forget_parts e m.operand)
  forget_parts (binary p operator l r) m = both _ _ _ _ (forget_whole l m.left _ _ (forget_parts l m.left))
      (forget_whole r m.right _ _ (forget_parts r m.right))
  forget_parts (compare p operator l r) m = both _ _ _ _ (forget_whole l m.left _ _ (forget_parts l m.left))
      (both _ _ _ _ (forget_whole r m.right _ _ (forget_parts r m.right)) (of_flows (place_of l) m.flows))
  forget_parts (is_none p e) m = forget_whole e m.operand _ _ (forget_parts e m.operand)
  forget_parts (is_not_none p e) m = forget_whole e m.operand _ _ (forget_parts e m.operand)
  forget_parts (conjunction p l r) m = both _ _ _ _ (forget_whole l m.left _ _ (forget_parts l m.left))
      (forget_whole r m.right _ _ (forget_parts r m.right))
  forget_parts (disjunction p l r) m = both _ _ _ _ (forget_whole l m.left _ _ (forget_parts l m.left))
      (forget_whole r m.right _ _ (forget_parts r m.right))
  forget_parts (attribute p e field) m = forget_whole e m.object _ _ (forget_parts e m.object)
  forget_parts (index p e i) m = both _ _ _ _ (forget_whole e m.object _ _ (forget_parts e m.object))
      (both _ _ _ _ (forget_whole i m.key _ _ (forget_parts i m.key)) (of_flows (place_of i) m.flows))
  forget_parts (call p callee arguments keywords) m =
      both _ _ _ _ (forget_called callee m.callee _ _ (forget_parts callee m.callee))
      (both _ _ _ _ (forget_arguments (is_instance_test callee arguments keywords) arguments m.arguments)
      (both _ _ _ _ (forget_keywords keywords m.keywords) (forget_code (second_place arguments p) m.second)))

  forget_items : (es : Exprs) (m : ItemsLabels es) → Forgets (noted.found_in_items false es m) (found_in_items es m)
  forget_items no_exprs m = nothing_left
  forget_items (more_exprs e rest) m = both _ _ _ _ (forget_whole e m.first _ _ (forget_parts e m.first))
      (both _ _ _ _ (of_flows (place_of e) m.flows) (forget_items rest m.rest))

  forget_arguments : (is_test : Test) (es : Exprs) (m : ItemsLabels es)
      → Forgets (noted.found_in_arguments false is_test es m) (found_in_arguments is_test es m)
  forget_arguments is_test no_exprs m = nothing_left
  forget_arguments true (more_exprs e rest) m = forget_whole e m.first _ _ (forget_parts e m.first)
  forget_arguments false (more_exprs e rest) m = both _ _ _ _ (forget_whole e m.first _ _ (forget_parts e m.first))
      (both _ _ _ _ (of_flows (place_of e) m.flows) (forget_arguments false rest m.rest))

  forget_entries : (es : Entries) (m : EntriesLabels es) → Forgets (noted.found_in_entries false es m)
      (found_in_entries es m)
  forget_entries no_entries m = nothing_left
  forget_entries (more_entries key value rest) m =
      both _ _ _ _ (forget_whole key m.key _ _ (forget_parts key m.key))
      (both _ _ _ _ (of_flows (place_of key) m.key_flows)
      (both _ _ _ _ (forget_whole value m.value _ _ (forget_parts value m.value))
      (both _ _ _ _ (of_flows (place_of value) m.value_flows) (forget_entries rest m.rest))))

  forget_keywords : (es : Keywords) (m : KeywordsLabels es) → Forgets (noted.found_in_keywords false es m)
      (found_in_keywords es m)
  forget_keywords no_keywords m = nothing_left
  forget_keywords (more_keywords parameter value rest) m = both _ _ _ _
      (forget_whole value m.first _ _ (forget_parts value m.first))
      (both _ _ _ _ (of_flows (place_of value) m.flows) (forget_keywords rest m.rest))

-- in an expression, with its own codes
pub forget_inside : (e : Expr) (m : Labels e) → findings_of (noted.notes_under false e m) ≡ found_in e m
forget_inside e m = (forget_whole e m (noted.found_in_parts false e m) (found_in_parts e m) (forget_parts e m)).is
