-- The notes of an expression hold exactly the flows with a code under its labels, for a code that scope analysis does
-- not report, whether types are kept or not.
use Rattle.std.proofs.Common.{◌≡◌, List, [], ◌∷◌, ◌++◌, Option, Some, None, refl, sym, ap, ◌∙◌, subst}
use Rattle.std.specs.Prelude.{Bool as Test, true, false, ◌&&◌, ◌||◌, if◌then◌else◌, flat_map, bytes_eq}
use Rattle.std.proofs.lemmas.Bool.{false≢true}
use Rattle.std.proofs.lemmas.List.Folds.{list_any-append}
use Rattle.pc_source.specs.declared.place.Place.{Place}
use Rattle.pc_tree.specs.declared.code.Code.{Code}
use Rattle.pc_tree.specs.Code.{finding, text_of}
use Rattle.pc_tree.specs.Depth.{place_of}
use Rattle.pc_tree.specs.Tree.{Expr, Exprs, Entries, Keywords, name, number, text, truth, nothing, tuple, list, dict}
use Rattle.pc_tree.specs.Tree.{negative, negation, binary, compare, is_none, is_not_none, conjunction, disjunction}
use Rattle.pc_tree.specs.Tree.{attribute, index, call, no_exprs, more_exprs, no_entries, more_entries, no_keywords}
use Rattle.pc_tree.specs.Tree.{more_keywords}
use Rattle.pc_scope.specs.Expressions.{is_instance_test}
use Rattle.pc_types.specs.Tree.{Tree}
use Rattle.pc_notes.specs.Notes.{Note, plain_note, flow_note, is_same_place, is_same_code, or_else, flow_noted}
use Rattle.pc_notes.proofs.SameCode.{text_one, text_same}
use Rattle.pc_rules.specs.Operations.{Label}
use Rattle.pc_rules.specs.Labels.{FlowLabels, Labels, ItemsLabels, EntriesLabels, KeywordsLabels, whole_label}
use Rattle.pc_rules.specs.Labels.{is_of_scopes, second_place}
use Rattle.pc_rules.specs.Computed.Findings.{own_at, has_code, once, codes_at, notes_of_code, own_flow}
use Rattle.pc_rules.specs.Computed.Findings.{flow_then, flows_behind, flows_at, note_of_type, label_at, shows, whole}
use Rattle.pc_rules.specs.Computed.Findings.{callee_notes, found_in_parts, found_in_items}
use Rattle.pc_rules.specs.Computed.Findings.{found_in_arguments, found_in_entries, found_in_keywords, notes_under}
use Rattle.pc_module_rules.specs.FirstAt.{first_flow_at}
use Rattle.pc_module_rules.specs.FlowsOfExpressions.{CodedFlow, coded_one, coded_at, coded_in, coded_in_exprs}
use Rattle.pc_module_rules.specs.FlowsOfExpressions.{coded_in_arguments, coded_in_entries, coded_in_keywords}
use Rattle.pc_module_rules.proofs.FirstFlows.{Pair, Tells, tell_none, tell_then, tell_behind, tell_plain}
use Rattle.pc_module_rules.proofs.PlainCodes.{in_both}

-- ---- tests

-- where the first of two tests fails, the choice by both of them is the rest
first_fails : (a b : Test) → a ≡ false → (o rest : Pair) → (if a && b then or_else o rest else rest) ≡ rest
first_fails true b e o rest = absurd (cc e)
first_fails false b e o rest = refl

-- where the second does not
second_fails : (a b : Test) → b ≡ false → (o rest : Pair) → (if a && b then or_else o rest else rest) ≡ rest
second_fails true true e o rest = absurd (cc e)
second_fails true false e o rest = refl
second_fails false b e o rest = refl

-- where both do
both_hold : (a b : Test) → a ≡ true → b ≡ true → (f : Tree × Tree) (rest : Pair)
    → (if a && b then or_else (Some f) rest else rest) ≡ Some f
both_hold true true e h f rest = refl
both_hold true false e h f rest = absurd (cc h)
both_hold false b e h f rest = absurd (cc e)

module _ (code : Code) (own : is_of_scopes code ≡ false) where
  -- ---- codes

  -- the code is not among codes with another one after them, if it was not among them
  still_none : (before : List Code) (c : Code) → is_same_code code c ≡ false → has_code before code ≡ false
      → has_code (before ++ c ∷ []) code ≡ false
  still_none before c other none =
      list_any-append (λ d. bytes_eq (text_of code) (text_of d)) before (c ∷ [])
      ∙ (λ i. none i || (other i || false))

  -- a code that is among codes without this one is another one
  other_among : (before : List Code) (c : Code) → has_code before c ≡ true → has_code before code ≡ false
      → is_same_code code c ≡ false
  other_among before c e none = test (is_same_code code c) refl
    where
      test : (b : Test) → is_same_code code c ≡ b → b ≡ false
      test true t = absurd (false≢true (sym none
          ∙ subst (λ (x : Code). has_code before x ≡ true) (sym (text_one code c t)) e))
      test false t = refl

  -- ---- findings of flows

  none_coded : (p : Place) (s t : Tree) (c : Code) → is_same_code code c ≡ false → coded_one code p s t (Some c) ≡ []
  none_coded p s t c e = ap (λ (b : Test). if b then record { place = p; from = s; into = t } ∷ [] else []) e

  module _ (p q : Place) where
    -- a flow with another code, or at another place, before others
    other_own : (s t : Tree) (c : Code) (rest : List Note)
        → flow_noted code q (flow_note (finding p c) s t ∷ rest) ≡ flow_noted code q rest
        → flow_noted code q (own_flow p s t c ++ rest) ≡ flow_noted code q rest
    other_own s t c rest h =
        in_both (λ (xs : List Note). flow_noted code q (xs ++ rest) ≡ flow_noted code q rest) (is_of_scopes c) []
        (flow_note (finding p c) s t ∷ []) refl h

    -- ---- at another place

    module _ (other : is_same_place q p ≡ false) where
      other_then : (s t : Tree) (o : Option Code) (before : List Code) (fs : FlowLabels)
          → ((codes : List Code) → flow_noted code q (flows_behind p codes fs) ≡ None)
          → flow_noted code q (flow_then p before s t o (λ codes. flows_behind p codes fs)) ≡ None
      other_then s t None before fs k = k before
      other_then s t (Some c) before fs k =
          let rest = flows_behind p (before ++ c ∷ []) fs in
          in_both (λ (xs : List Note). flow_noted code q xs ≡ None) (has_code before c) (flows_behind p before fs)
          (own_flow p s t c ++ rest) (k before) (other_own s t c rest
          (first_fails (is_same_place q p) (is_same_code code c) other (Some (s, t)) (flow_noted code q rest))
          ∙ k (before ++ c ∷ []))

      none_noted : (flows : FlowLabels) (before : List Code) → flow_noted code q (flows_behind p before flows) ≡ None
      none_noted [] before = refl
      none_noted (f ∷ fs) before = other_then f.from f.into f.code before fs (none_noted fs)

      other_one : (s t : Tree) (o : Option Code) (rest : List CodedFlow)
          → first_flow_at q (coded_one code p s t o ++ rest) ≡ first_flow_at q rest
      other_one s t None rest = refl
      other_one s t (Some c) rest =
          in_both (λ (ds : List CodedFlow). first_flow_at q (ds ++ rest) ≡ first_flow_at q rest) (is_same_code code c)
          (record { place = p; from = s; into = t } ∷ []) []
          (ap (λ (b : Test). if b then or_else (Some (s, t)) (first_flow_at q rest) else first_flow_at q rest) other)
          refl

      none_first : (flows : FlowLabels) → first_flow_at q (coded_at code p flows) ≡ None
      none_first [] = refl
      none_first (f ∷ fs) = other_one f.from f.into f.code (coded_at code p fs) ∙ none_first fs

    -- ---- at this place

    module _ (same : is_same_place q p ≡ true) where
      -- a flow with the code is the first, whatever comes after it
      here_noted : (s t : Tree) (notes : List Note) → flow_noted code q (own_flow p s t code ++ notes) ≡ Some (s, t)
      here_noted s t notes =
          subst (λ (b : Test). flow_noted code q ((if b then [] else flow_note (finding p code) s t ∷ []) ++ notes)
          ≡ Some (s, t)) (sym own)
          (both_hold (is_same_place q p) (is_same_code code code) same (text_same code code refl) (s, t)
          (flow_noted code q notes))

      here_first : (s t : Tree) (ds : List CodedFlow) → first_flow_at q (coded_one code p s t (Some code) ++ ds)
          ≡ Some (s, t)
      here_first s t ds =
          subst (λ (b : Test). first_flow_at q ((if b then record { place = p; from = s; into = t } ∷ [] else []) ++ ds)
          ≡ Some (s, t)) (sym (text_same code code refl))
          (ap (λ (b : Test). if b then or_else (Some (s, t)) (first_flow_at q ds) else first_flow_at q ds) same)

      -- a flow whose code is new, before others
      new_flow : (s t : Tree) (c : Code) (notes : List Note) (ds : List CodedFlow)
          → (is_same_code code c ≡ false → flow_noted code q notes ≡ first_flow_at q ds) → (b : Test)
          → is_same_code code c ≡ b
          → flow_noted code q (own_flow p s t c ++ notes) ≡ first_flow_at q (coded_one code p s t (Some c) ++ ds)
      new_flow s t c notes ds k true e =
          subst (λ (x : Code). flow_noted code q (own_flow p s t x ++ notes)
          ≡ first_flow_at q (coded_one code p s t (Some x) ++ ds)) (text_one code c e)
          (here_noted s t notes ∙ sym (here_first s t ds))
      new_flow s t c notes ds k false e =
          other_own s t c notes
          (second_fails (is_same_place q p) (is_same_code code c) e (Some (s, t)) (flow_noted code q notes))
          ∙ k e ∙ sym (ap (λ (l : List CodedFlow). first_flow_at q (l ++ ds)) (none_coded p s t c e))

      coded : (s t : Tree) (c : Code) (before : List Code) (fs : FlowLabels) → has_code before code ≡ false
          → ((codes : List Code) → has_code codes code ≡ false → flow_noted code q (flows_behind p codes fs)
          ≡ first_flow_at q (coded_at code p fs)) → (b : Test) → has_code before c ≡ b
          → flow_noted code q (if b then flows_behind p before fs else own_flow p s t c
          ++ flows_behind p (before ++ c ∷ []) fs) ≡ first_flow_at q (coded_one code p s t (Some c)
          ++ coded_at code p fs)
      coded s t c before fs none k true e = k before none
          ∙ sym (ap (λ (l : List CodedFlow). first_flow_at q (l ++ coded_at code p fs))
          (none_coded p s t c (other_among before c e none)))
      coded s t c before fs none k false e = new_flow s t c (flows_behind p (before ++ c ∷ []) fs)
          (coded_at code p fs) (λ h. k (before ++ c ∷ []) (still_none before c h none)) (is_same_code code c) refl

      then_noted : (s t : Tree) (o : Option Code) (before : List Code) (fs : FlowLabels)
          → has_code before code ≡ false
          → ((codes : List Code) → has_code codes code ≡ false → flow_noted code q (flows_behind p codes fs)
          ≡ first_flow_at q (coded_at code p fs))
          → flow_noted code q (flow_then p before s t o (λ codes. flows_behind p codes fs))
          ≡ first_flow_at q (coded_one code p s t o ++ coded_at code p fs)
      then_noted s t None before fs none k = k before none
      then_noted s t (Some c) before fs none k = coded s t c before fs none k (has_code before c) refl

      first_noted : (flows : FlowLabels) (before : List Code) → has_code before code ≡ false
          → flow_noted code q (flows_behind p before flows) ≡ first_flow_at q (coded_at code p flows)
      first_noted [] before none = refl
      first_noted (f ∷ fs) before none = then_noted f.from f.into f.code before fs none (first_noted fs)

  -- the notes of the flows of a value tell of just those with the code
  pub tell_flows : (p : Place) (flows : FlowLabels) → Tells code (flows_at p flows) (coded_at code p flows)
  tell_flows p flows = record { is = λ q. at_place q (is_same_place q p) refl }
    where
      at_place : (q : Place) (b : Test) → is_same_place q p ≡ b → flow_noted code q (flows_at p flows)
          ≡ first_flow_at q (coded_at code p flows)
      at_place q true e = first_noted p q e flows [] refl
      at_place q false e = none_noted p q e flows [] ∙ sym (none_first p q e flows)

  -- ---- codes of labels

  tell_own : (p : Place) (c : Code) → Tells code (own_at p c) []
  tell_own p c = in_both (λ (xs : List Note). Tells code xs []) (is_of_scopes c) [] (plain_note (finding p c) ∷ [])
      tell_none
      (tell_plain (finding p c ∷ []))

  tell_each : (p : Place) (cs : List Code) → Tells code (flat_map (own_at p) cs) []
  tell_each p [] = tell_none
  tell_each p (c ∷ cs) = tell_then (own_at p c) (flat_map (own_at p) cs) [] [] (tell_own p c) (tell_each p cs)

  pub tell_codes : (p : Place) (cs : List Code) → Tells code (codes_at p cs) []
  tell_codes p cs = tell_each p (once cs)

  tell_code : (p : Place) (o : Option Code) → Tells code (notes_of_code p o) []
  tell_code p None = tell_none
  tell_code p (Some c) = tell_own p c

  -- ---- types of labels

  tell_type : (kept shown : Test) (p : Place) (t : Tree) → Tells code (note_of_type kept shown p t) []
  tell_type false shown p t = tell_none
  tell_type true shown p t = record { is = λ q. refl }

  module _ (keeps : Test) where
    -- ---- expressions

    tell_label : (shown : Test) (p : Place) (m : Label) → Tells code (label_at keeps shown p m) []
    tell_label shown p m = tell_then (note_of_type keeps shown p m.type) (codes_at p m.codes) [] []
        (tell_type keeps shown p m.type) (tell_codes p m.codes)

    tell_whole : (e : Expr) (m : Labels e) (parts : List Note) (ds : List CodedFlow) → Tells code parts ds
        → Tells code (whole keeps e m parts) ds
    tell_whole e m parts ds h = tell_behind parts (label_at keeps true (place_of e) (whole_label e m)) ds h
        (tell_label true (place_of e) (whole_label e m))

    tell_called : (e : Expr) (m : Labels e) (parts : List Note) (ds : List CodedFlow) → Tells code parts ds
        → Tells code (callee_notes keeps e m parts) ds
    tell_called e m parts ds h = tell_behind parts (label_at keeps (shows e) (place_of e) (whole_label e m)) ds h
        (tell_label (shows e) (place_of e) (whole_label e m))

    mutual
      tell_parts : (e : Expr) (m : Labels e) → Tells code (found_in_parts keeps e m) (coded_in code e m)
      tell_parts (name n) m = tell_none
      tell_parts (number p digits) m = tell_none
      tell_parts (text p characters) m = tell_none
      tell_parts (truth p value) m = tell_none
      tell_parts (nothing p) m = tell_none
      tell_parts (tuple p es) m = tell_items es m.items
      tell_parts (list p es) m = tell_items es m.items
      tell_parts (dict p es) m = tell_entries es m.entries
      tell_parts (negative p e) m = tell_whole e m.operand _ _ (tell_parts e m.operand)
      tell_parts (negation p e) m = tell_whole e m.operand _ _ (tell_parts e m.operand)
      tell_parts (binary p o l r) m = tell_then _ _ _ _ (tell_whole l m.left _ _ (tell_parts l m.left))
          (tell_whole r m.right _ _ (tell_parts r m.right))
      tell_parts (compare p o l r) m =
          tell_then _ _ _ _ (tell_whole l m.left _ _ (tell_parts l m.left))
          (tell_then _ _ _ _ (tell_whole r m.right _ _ (tell_parts r m.right)) (tell_flows (place_of l) m.flows))
      tell_parts (is_none p e) m = tell_whole e m.operand _ _ (tell_parts e m.operand)
      tell_parts (is_not_none p e) m = tell_whole e m.operand _ _ (tell_parts e m.operand)
      tell_parts (conjunction p l r) m = tell_then _ _ _ _ (tell_whole l m.left _ _ (tell_parts l m.left))
          (tell_whole r m.right _ _ (tell_parts r m.right))
      tell_parts (disjunction p l r) m = tell_then _ _ _ _ (tell_whole l m.left _ _ (tell_parts l m.left))
          (tell_whole r m.right _ _ (tell_parts r m.right))
      tell_parts (attribute p e field) m = tell_whole e m.object _ _ (tell_parts e m.object)
      tell_parts (index p e i) m =
          tell_then _ _ _ _ (tell_whole e m.object _ _ (tell_parts e m.object))
          (tell_then _ _ _ _ (tell_whole i m.key _ _ (tell_parts i m.key)) (tell_flows (place_of i) m.flows))
      tell_parts (call p c args kws) m =
          tell_then _ _ _ _ (tell_called c m.callee _ _ (tell_parts c m.callee))
          (tell_then _ _ _ _ (tell_arguments (is_instance_test c args kws) args m.arguments)
          (tell_behind _ _ _ (tell_keywords kws m.keywords) (tell_code (second_place args p) m.second)))

      tell_items : (es : Exprs) (m : ItemsLabels es) → Tells code (found_in_items keeps es m) (coded_in_exprs code es m)
      tell_items no_exprs m = tell_none
      tell_items (more_exprs e rest) m =
          tell_then _ _ _ _ (tell_whole e m.first _ _ (tell_parts e m.first))
          (tell_then _ _ _ _ (tell_flows (place_of e) m.flows) (tell_items rest m.rest))

      pub tell_arguments : (is_test : Test) (es : Exprs) (m : ItemsLabels es)
          → Tells code (found_in_arguments keeps is_test es m) (coded_in_arguments code is_test es m)
      tell_arguments is_test no_exprs m = tell_none
      tell_arguments true (more_exprs e rest) m = tell_whole e m.first _ _ (tell_parts e m.first)
      tell_arguments false (more_exprs e rest) m =
          tell_then _ _ _ _ (tell_whole e m.first _ _ (tell_parts e m.first))
          (tell_then _ _ _ _ (tell_flows (place_of e) m.flows) (tell_arguments false rest m.rest))

      tell_entries : (es : Entries) (m : EntriesLabels es) → Tells code (found_in_entries keeps es m)
          (coded_in_entries code es m)
      tell_entries no_entries m = tell_none
      tell_entries (more_entries key value rest) m =
          tell_then _ _ _ _ (tell_whole key m.key _ _ (tell_parts key m.key))
          (tell_then _ _ _ _ (tell_flows (place_of key) m.key_flows)
          (tell_then _ _ _ _ (tell_whole value m.value _ _ (tell_parts value m.value))
          (tell_then _ _ _ _ (tell_flows (place_of value) m.value_flows) (tell_entries rest m.rest))))

      pub tell_keywords : (es : Keywords) (m : KeywordsLabels es) → Tells code (found_in_keywords keeps es m)
          (coded_in_keywords code es m)
      tell_keywords no_keywords m = tell_none
      tell_keywords (more_keywords parameter value rest) m =
          tell_then _ _ _ _ (tell_whole value m.first _ _ (tell_parts value m.first))
          (tell_then _ _ _ _ (tell_flows (place_of value) m.flows) (tell_keywords rest m.rest))

    pub tell_expression : (e : Expr) (m : Labels e) → Tells code (notes_under keeps e m) (coded_in code e m)
    tell_expression e m = tell_whole e m (found_in_parts keeps e m) (coded_in code e m) (tell_parts e m)
