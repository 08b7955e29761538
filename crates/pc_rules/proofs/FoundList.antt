-- The list of an expression's findings holds exactly the findings under its labels, except those of scope analysis.
use Rattle.std.proofs.Common.{◌≡◌, ◌⊎◌, ◌↔◌, List, [], ◌∷◌, ◌++◌, refl, sym, ap, ◌∙◌, subst, inl, inr, Contains}
use Rattle.std.specs.Prelude.{Bool as Test, true, false, if◌then◌else◌, Option, Some, None, flat_map, map}
use Rattle.std.specs.Prelude.{option_to_list}
use Rattle.std.proofs.lemmas.Grind.{flat_map-append}
use Rattle.std.proofs.lemmas.List.Elements.{Contains-append_left, Contains-append_right}
use Rattle.pc_source.specs.declared.place.Place.{Place}
use Rattle.pc_tree.specs.declared.code.Code.{Code}
use Rattle.pc_tree.specs.declared.code.Finding.{Finding}
use Rattle.pc_tree.specs.Code.{finding}
use Rattle.pc_tree.specs.Tree.{Expr, Exprs, Entries, Keywords, name, number, text, truth, nothing, tuple, list, dict}
use Rattle.pc_tree.specs.Tree.{negative, negation, binary, compare, is_none, is_not_none, conjunction, disjunction}
use Rattle.pc_tree.specs.Tree.{attribute, index, call, no_exprs, more_exprs, no_entries, more_entries, no_keywords}
use Rattle.pc_tree.specs.Tree.{more_keywords}
use Rattle.pc_tree.specs.Depth.{place_of}
use Rattle.pc_scope.specs.Expressions.{is_instance_test}
use Rattle.pc_tree.proofs.Among.{none_among, first_among, later_among, among_first, either}
use Rattle.pc_rules.specs.Operations.{FlowLabel}
use Rattle.pc_rules.specs.Labels.{FlowLabels, Labels, ItemsLabels, EntriesLabels, KeywordsLabels, is_of_scopes}
use Rattle.pc_rules.specs.Labels.{second_place, IsFoundAt, IsFlowAt, IsCodeAt, Finds, ItemsFind, ArgumentsFind}
use Rattle.pc_rules.specs.Labels.{EntriesFind, KeywordsFind}
use Rattle.pc_notes.specs.Notes.{Note, plain_note, finding_in, findings_of}
use Rattle.pc_rules.specs.Computed.Findings.{once, IsOwn}
use Rattle.pc_rules.specs.Computed.Findings as noted
use Rattle.pc_rules.proofs.Forgotten.{own_at, codes_at, code_at, flow_codes, flows_at, found_in, found_in_items}
use Rattle.pc_rules.proofs.Forgotten.{found_in_arguments, found_in_entries, found_in_keywords, forget_inside}
use Rattle.pc_rules.proofs.Forgotten.{forget_flows}
use Rattle.pc_rules.proofs.SameCodes.{once_has, once_from}

-- ---- the findings of codes and of flows

-- a list that has one finding unless a test holds
listed_unless : (b : Test) (g f : Finding) → Contains (if b then [] else g ∷ []) f → (f ≡ g) × (b ≡ false)
listed_unless true g f h = absurd (none_among f h)
listed_unless false g f h = elim (among_first g [] f h) [ inl e ↦ (sym e, refl) | inr n ↦ absurd (none_among f n) ]

lists_unless : (b : Test) (g : Finding) → b ≡ false → Contains (if b then [] else g ∷ []) g
lists_unless true g e = absurd (cc e)
lists_unless false g e = first_among g []

-- a finding whose code is not one of scope analysis
abbrev pub IsFoundElsewhere : Finding → Type 0
IsFoundElsewhere f = is_of_scopes f.code ≡ false

own_listed : (p : Place) (c : Code) (f : Finding) → Contains (own_at p c) f → (f ≡ finding p c) × IsFoundElsewhere f
own_listed p c f h =
    let r = listed_unless (is_of_scopes c) (finding p c) f h in
    (r.0, ap (λ g. is_of_scopes g.code) r.0 ∙ r.1)

own_lists : (p : Place) (c : Code) (f : Finding) → f ≡ finding p c → IsFoundElsewhere f → Contains (own_at p c) f
own_lists p c f e own = subst (Contains (own_at p c)) (sym e)
    (lists_unless (is_of_scopes c) (finding p c) (sym (ap (λ g. is_of_scopes g.code) e) ∙ own))

listed_codes : (p : Place) (cs : List Code) (f : Finding) → Contains (flat_map (own_at p) cs) f → IsFoundAt p cs f
    × IsFoundElsewhere f
listed_codes p [] f h = absurd (none_among f h)
listed_codes p (c ∷ cs) f h = either (own_at p c) (flat_map (own_at p) cs) f h
    (λ a. let r = own_listed p c f a in (record { code = c; among = first_among c cs; is = r.0 }, r.1))
    (λ b. let r = listed_codes p cs f b in (
      record {
        code = r.0.code;
        among = later_among c cs r.0.code r.0.among;
        is =
            r.0.is;
      },
      r.1,
    ))

lists_code : (p : Place) (cs : List Code) (c : Code) (f : Finding) → Contains cs c → f ≡ finding p c
    → IsFoundElsewhere f → Contains (flat_map (own_at p) cs) f
lists_code p [] c f h e own = absurd (none_among c h)
lists_code p (d ∷ cs) c f h e own = elim (among_first d cs c h) [
  | inl same ↦ Contains-append_left (own_at p d) (flat_map (own_at p) cs) f
      (own_lists p d f (e ∙ ap (finding p) (sym same)) own)
  | inr rest ↦ Contains-append_right (own_at p d) (flat_map (own_at p) cs) f (lists_code p cs c f rest e own)
]

codes_listed : (p : Place) (cs : List Code) (f : Finding) → Contains (codes_at p cs) f → IsFoundAt p cs f
    × IsFoundElsewhere f
codes_listed p cs f h =
    let r = listed_codes p (once cs) f h in
    (record { code = r.0.code; among = once_from cs r.0.code r.0.among; is = r.0.is }, r.1)

codes_list : (p : Place) (cs : List Code) (f : Finding) → IsFoundAt p cs f → IsFoundElsewhere f
    → Contains (codes_at p cs) f
codes_list p cs f h own = lists_code p (once cs) h.code f (once_has cs h.code h.among) h.is own

code_listed : (p : Place) (c : Option Code) (f : Finding) → Contains (code_at p c) f → IsCodeAt p c f
    × IsFoundElsewhere f
code_listed p None f h = absurd (none_among f h)
code_listed p (Some c) f h = own_listed p c f h

code_lists : (p : Place) (c : Option Code) (f : Finding) → IsCodeAt p c f → IsFoundElsewhere f
    → Contains (code_at p c) f
code_lists p None f h own = absurd h
code_lists p (Some c) f h own = own_lists p c f h own

-- a code of flows is the code of one of them
record HasFlow (fs : FlowLabels) (c : Code) : Type 0 where
  flow : FlowLabel
  among : Contains fs flow
  found : flow.code ≡ Some c

one_code : (g : FlowLabel) (c : Code) (o : Option Code) → g.code ≡ o → Contains (option_to_list o) c → g.code ≡ Some c
one_code g c None e h = absurd (none_among c h)
one_code g c (Some d) e h = elim (among_first d [] c h) [
  | inl s ↦ e ∙ ap (λ x. Some x) s
  | inr n ↦
      absurd (none_among c n)
]

flow_with : (fs : FlowLabels) (c : Code) → Contains (flow_codes fs) c → HasFlow fs c
flow_with [] c h = absurd (none_among c h)
flow_with (g ∷ gs) c h = either (option_to_list g.code) (flow_codes gs) c h
    (λ a. record { flow = g; among = first_among g gs; found = one_code g c g.code refl a })
    (λ b. let r = flow_with gs c b in record {
      flow = r.flow;
      among = later_among g gs r.flow r.among;
      found =
          r.found;
    })

code_with : (fs : FlowLabels) (g : FlowLabel) (c : Code) → Contains fs g → g.code ≡ Some c → Contains (flow_codes fs) c
code_with [] g c h e = absurd (none_among g h)
code_with (d ∷ fs) g c h e = elim (among_first d fs g h) [
  | inl same ↦ Contains-append_left (option_to_list d.code) (flow_codes fs) c
      (subst (λ (o : Option Code). Contains (option_to_list o) c) (sym (ap (λ (x : FlowLabel). x.code) same ∙ e))
      (first_among c []))
  | inr rest ↦ Contains-append_right (option_to_list d.code) (flow_codes fs) c (code_with fs g c rest e)
]

flow_of_code : (p : Place) (fs : FlowLabels) (f : Finding) → IsFoundAt p (flow_codes fs) f → IsFlowAt p fs f
flow_of_code p fs f h =
    let r = flow_with fs h.code h.among in
    record { flow = r.flow; among = r.among; code = h.code; found = r.found; is = h.is }

code_of_flow : (p : Place) (fs : FlowLabels) (f : Finding) → IsFlowAt p fs f → IsFoundAt p (flow_codes fs) f
code_of_flow p fs f h = record { code = h.code; among = code_with fs h.flow h.code h.among h.found; is = h.is }

-- ---- two lists, one after the other

-- a list has the findings of which something stands, those of scopes left out
abbrev pub Lists : Finding → List Finding → Type 0 → Type 0
Lists f xs P = (Contains xs f → P × IsFoundElsewhere f) × (P → IsFoundElsewhere f → Contains xs f)

-- it has the same of what comes to the same
pub same_listed : (f : Finding) (xs : List Finding) {P Q : Type 0} → (P → Q) → (Q → P) → Lists f xs P → Lists f xs Q
same_listed f xs to from h = (λ c. let r = h.0 c in (to r.0, r.1), λ q own. h.1 (from q) own)

-- one list after another has what either has
pub in_turn : (f : Finding) (xs ys : List Finding) {P Q : Type 0} → Lists f xs P → Lists f ys Q
    → Lists f (xs ++ ys) (P ⊎ Q)
in_turn f xs ys h k = (
  λ c. either xs ys f c (λ a. let r = h.0 a in (inl r.0, r.1)) (λ b. let r = k.0 b in (inr r.0, r.1)),
  λ s own. elim s [
    | inl p ↦ Contains-append_left xs ys f (h.1 p own)
    | inr q ↦ Contains-append_right xs ys f (k.1 q own)
  ],
)

turned : {P Q : Type 0} → P ⊎ Q → Q ⊎ P
turned s = elim s [ inl p ↦ inr p | inr q ↦ inl q ]

third_first : {P Q R : Type 0} → P ⊎ (Q ⊎ R) → R ⊎ (P ⊎ Q)
third_first s = elim s [ inl p ↦ inr (inl p) | inr t ↦ elim t [ inl q ↦ inr (inr q) | inr r ↦ inl r ] ]

first_third : {P Q R : Type 0} → R ⊎ (P ⊎ Q) → P ⊎ (Q ⊎ R)
first_third s = elim s [ inl r ↦ inr (inr r) | inr t ↦ elim t [ inl p ↦ inl p | inr q ↦ inr (inl q) ] ]

second_first : {P Q R : Type 0} → P ⊎ (Q ⊎ R) → Q ⊎ (P ⊎ R)
second_first s = elim s [ inl p ↦ inr (inl p) | inr t ↦ elim t [ inl q ↦ inl q | inr r ↦ inr (inr r) ] ]

-- the cases of a finding of a call, with the one at the second argument moved before those in the arguments
of_call : {C A K S : Type 0} → C ⊎ (A ⊎ (K ⊎ S)) → C ⊎ (S ⊎ (A ⊎ K))
of_call s = elim s [
  | inl c ↦ inl c
  | inr t ↦ elim t [
    | inl a ↦ inr (inr (inl a))
    | inr u ↦ elim u [ inl k ↦ inr (inr (inr k)) | inr x ↦ inr (inl x) ]
  ]
]

call_of : {C A K S : Type 0} → C ⊎ (S ⊎ (A ⊎ K)) → C ⊎ (A ⊎ (K ⊎ S))
call_of s = elim s [
  | inl c ↦ inl c
  | inr t ↦ elim t [
    | inl x ↦ inr (inr (inr x))
    | inr v ↦ elim v [ inl a ↦ inr (inl a) | inr k ↦ inr (inr (inl k)) ]
  ]
]

of_entry : {K F V G R : Type 0} → K ⊎ (F ⊎ (V ⊎ (G ⊎ R))) → (F ⊎ K) ⊎ ((G ⊎ V) ⊎ R)
of_entry s = elim s [
  | inl k ↦ inl (inr k)
  | inr t ↦ elim t [
    | inl x ↦ inl (inl x)
    | inr u ↦ elim u [ inl v ↦ inr (inl (inr v)) | inr w ↦ elim w [ inl g ↦ inr (inl (inl g)) | inr r ↦ inr (inr r) ] ]
  ]
]

entry_of : {K F V G R : Type 0} → (F ⊎ K) ⊎ ((G ⊎ V) ⊎ R) → K ⊎ (F ⊎ (V ⊎ (G ⊎ R)))
entry_of s = elim s [
  | inl t ↦ elim t [ inl x ↦ inr (inl x) | inr k ↦ inl k ]
  | inr t ↦ elim t [
    | inl u ↦ elim u [ inl g ↦ inr (inr (inr (inl g))) | inr v ↦ inr (inr (inl v)) ]
    | inr r ↦ inr (inr (inr (inr r)))
  ]
]

-- ---- the lists of codes and of flows

at_codes : (f : Finding) (p : Place) (cs : List Code) → Lists f (codes_at p cs) (IsFoundAt p cs f)
at_codes f p cs = (codes_listed p cs f, codes_list p cs f)

at_code : (f : Finding) (p : Place) (c : Option Code) → Lists f (code_at p c) (IsCodeAt p c f)
at_code f p c = (code_listed p c f, code_lists p c f)

pub at_flows : (f : Finding) (p : Place) (fs : FlowLabels) → Lists f (flows_at p fs) (IsFlowAt p fs f)
at_flows f p fs = same_listed f (flows_at p fs) (flow_of_code p fs f) (code_of_flow p fs f)
    (at_codes f p (flow_codes fs))

pub nothing_listed : (f : Finding) → Lists f [] ⊥
nothing_listed f = (λ h. absurd (none_among f h), λ h own. absurd h)

-- ---- the forms of expressions

-- parts, and then the codes of the whole
over_parts : (f : Finding) (xs : List Finding) {P : Type 0} (p : Place) (cs : List Code) → Lists f xs P
    → Lists f (xs ++ codes_at p cs) (IsFoundAt p cs f ⊎ P)
over_parts f xs p cs h = same_listed f (xs ++ codes_at p cs) turned turned
    (in_turn f xs (codes_at p cs) h (at_codes f p cs))

-- two operands, and a flow of one of them
over_flow : (f : Finding) (xs ys : List Finding) {P Q : Type 0} (q : Place) (fs : FlowLabels) → Lists f xs P
    → Lists f ys Q → Lists f (xs ++ (ys ++ flows_at q fs)) (IsFlowAt q fs f ⊎ (P ⊎ Q))
over_flow f xs ys q fs h k =
    same_listed f (xs ++ (ys ++ flows_at q fs)) third_first first_third
    (in_turn f xs (ys ++ flows_at q fs) h (in_turn f ys (flows_at q fs) k (at_flows f q fs)))

-- two operands, and then the codes of the whole
over_operands : (f : Finding) (xs ys : List Finding) {P Q : Type 0} (p : Place) (cs : List Code) → Lists f xs P
    → Lists f ys Q → Lists f ((xs ++ ys) ++ codes_at p cs) (IsFoundAt p cs f ⊎ (P ⊎ Q))
over_operands f xs ys p cs h k = over_parts f (xs ++ ys) p cs (in_turn f xs ys h k)

-- an item with its flows, and then the others
over_item : (f : Finding) (xs ys : List Finding) {P Q : Type 0} (p : Place) (fs : FlowLabels) → Lists f xs P
    → Lists f ys Q → Lists f (xs ++ (flows_at p fs ++ ys)) (IsFlowAt p fs f ⊎ (P ⊎ Q))
over_item f xs ys p fs h k =
    same_listed f (xs ++ (flows_at p fs ++ ys)) second_first second_first
    (in_turn f xs (flows_at p fs ++ ys) h (in_turn f (flows_at p fs) ys (at_flows f p fs) k))

mutual
  in_expression : (f : Finding) (e : Expr) (m : Labels e) → Lists f (found_in e m) (Finds e m f)
  in_expression f (name n) m = at_codes f n.place m.codes
  in_expression f (number p d) m = at_codes f p m.codes
  in_expression f (text p d) m = at_codes f p m.codes
  in_expression f (truth p d) m = at_codes f p m.codes
  in_expression f (nothing p) m = at_codes f p m.codes
  in_expression f (tuple p es) m = over_parts f (found_in_items es m.items) p m.here.codes (in_items f es m.items)
  in_expression f (list p es) m = over_parts f (found_in_items es m.items) p m.here.codes (in_items f es m.items)
  in_expression f (dict p es) m = over_parts f (found_in_entries es m.entries) p m.here.codes
      (in_entries f es m.entries)
  in_expression f (negative p e) m = over_parts f (found_in e m.operand) p m.here.codes (in_expression f e m.operand)
  in_expression f (negation p e) m = over_parts f (found_in e m.operand) p m.here.codes (in_expression f e m.operand)
  in_expression f (binary p o l r) m = over_operands f (found_in l m.left) (found_in r m.right) p m.here.codes
      (in_expression f l m.left) (in_expression f r m.right)
  in_expression f (compare p o l r) m =
      let xs = found_in l m.left in
      let ys = found_in r m.right in
      over_parts f (xs ++ (ys ++ flows_at (place_of l) m.flows)) p m.here.codes
      (over_flow f xs ys (place_of l) m.flows (in_expression f l m.left) (in_expression f r m.right))
  in_expression f (is_none p e) m = over_parts f (found_in e m.operand) p m.here.codes (in_expression f e m.operand)
  in_expression f (is_not_none p e) m = over_parts f (found_in e m.operand) p m.here.codes (in_expression f e m.operand)
  in_expression f (conjunction p l r) m = over_operands f (found_in l m.left) (found_in r m.right) p m.here.codes
      (in_expression f l m.left) (in_expression f r m.right)
  in_expression f (disjunction p l r) m = over_operands f (found_in l m.left) (found_in r m.right) p m.here.codes
      (in_expression f l m.left) (in_expression f r m.right)
  in_expression f (attribute p e field) m = over_parts f (found_in e m.object) p m.here.codes
      (in_expression f e m.object)
  in_expression f (index p e i) m =
      let xs = found_in e m.object in
      let ys = found_in i m.key in
      over_parts f (xs ++ (ys ++ flows_at (place_of i) m.flows)) p m.here.codes
      (over_flow f xs ys (place_of i) m.flows (in_expression f e m.object) (in_expression f i m.key))
  in_expression f (call p c args kws) m =
      let is_test = is_instance_test c args kws in
      let a = found_in_arguments is_test args m.arguments in
      let k = found_in_keywords kws m.keywords in
      let s = code_at (second_place args p) m.second in
      over_parts f (found_in c m.callee ++ (a ++ (k ++ s))) p m.here.codes
      (same_listed f (found_in c m.callee ++ (a ++ (k ++ s))) of_call call_of
      (in_turn f (found_in c m.callee) (a ++ (k ++ s)) (in_expression f c m.callee)
      (in_turn f a (k ++ s) (in_arguments f is_test args m.arguments)
      (in_turn f k s (in_keywords f kws m.keywords) (at_code f (second_place args p) m.second)))))

  in_items : (f : Finding) (es : Exprs) (m : ItemsLabels es) → Lists f (found_in_items es m) (ItemsFind es m f)
  in_items f no_exprs m = nothing_listed f
  in_items f (more_exprs e rest) m = over_item f (found_in e m.first) (found_in_items rest m.rest) (place_of e) m.flows
      (in_expression f e m.first) (in_items f rest m.rest)

  in_arguments : (f : Finding) (is_test : Test) (es : Exprs) (m : ItemsLabels es)
      → Lists f (found_in_arguments is_test es m) (ArgumentsFind is_test es m f)
  in_arguments f is_test no_exprs m = nothing_listed f
  in_arguments f true (more_exprs e rest) m = in_expression f e m.first
  in_arguments f false (more_exprs e rest) m =
      over_item f (found_in e m.first) (found_in_arguments false rest m.rest) (place_of e) m.flows
      (in_expression f e m.first) (in_arguments f false rest m.rest)

  in_entries : (f : Finding) (es : Entries) (m : EntriesLabels es)
      → Lists f (found_in_entries es m) (EntriesFind es m f)
  in_entries f no_entries m = nothing_listed f
  in_entries f (more_entries key value rest) m =
      let k = found_in key m.key in
      let x = flows_at (place_of key) m.key_flows in
      let v = found_in value m.value in
      let y = flows_at (place_of value) m.value_flows in
      let r = found_in_entries rest m.rest in
      same_listed f (k ++ (x ++ (v ++ (y ++ r)))) of_entry entry_of
      (in_turn f k (x ++ (v ++ (y ++ r))) (in_expression f key m.key)
      (in_turn f x (v ++ (y ++ r)) (at_flows f (place_of key) m.key_flows)
      (in_turn f v (y ++ r) (in_expression f value m.value)
      (in_turn f y r (at_flows f (place_of value) m.value_flows) (in_entries f rest m.rest)))))

  in_keywords : (f : Finding) (es : Keywords) (m : KeywordsLabels es)
      → Lists f (found_in_keywords es m) (KeywordsFind es m f)
  in_keywords f no_keywords m = nothing_listed f
  in_keywords f (more_keywords parameter value rest) m =
      over_item f (found_in value m.first) (found_in_keywords rest m.rest) (place_of value) m.flows
      (in_expression f value m.first) (in_keywords f rest m.rest)

-- the list has just what stands under the labels and is not found of scopes
pub findings_listed : (e : Expr) (m : Labels e) (f : Finding) → Contains (findings_of (noted.notes_under false e m)) f
    ↔ IsOwn e m f
findings_listed e m f =
    let h = in_expression f e m in
    subst (λ (l : List Finding). Contains l f ↔ IsOwn e m f) (sym (forget_inside e m))
    (λ c. let r = h.0 c in record { stands = r.0; own = r.1 }, λ o. h.1 o.stands o.own)

-- ---- lists with the types of flows

-- a list with the types of flows has the findings of which something stands, those of scopes left out
abbrev pub Noted : Finding → List Note → Type 0 → Type 0
Noted f ns P = Lists f (findings_of ns) P

pub nothing_noted : (f : Finding) → Noted f [] ⊥
nothing_noted f = nothing_listed f

-- it has the same of what comes to the same
pub noted_same : (f : Finding) (xs : List Note) {P Q : Type 0} → (P → Q) → (Q → P) → Noted f xs P → Noted f xs Q
noted_same f xs to from h = same_listed f (findings_of xs) to from h

-- one list after another has what either has
pub noted_in_turn : (f : Finding) (xs ys : List Note) {P Q : Type 0} → Noted f xs P → Noted f ys Q
    → Noted f (xs ++ ys) (P ⊎ Q)
noted_in_turn f xs ys {P} {Q} h k =
    subst (λ (l : List Finding). Lists f l (P ⊎ Q)) (sym (flat_map-append finding_in xs ys))
    (in_turn f (findings_of xs) (findings_of ys) h k)

-- the list of flows has the codes of flows
pub noted_flows : (f : Finding) (p : Place) (flows : FlowLabels) → Noted f (noted.flows_at p flows) (IsFlowAt p flows f)
noted_flows f p flows = subst (λ (l : List Finding). Lists f l (IsFlowAt p flows f)) (sym (forget_flows p flows))
    (at_flows f p flows)

pub plain_findings : (fs : List Finding) → findings_of (map plain_note fs) ≡ fs
plain_findings [] = refl
plain_findings (g ∷ gs) = ap (λ l. g ∷ l) (plain_findings gs)

-- findings that tell of no flow
pub noted_plain : (f : Finding) (fs : List Finding) (P : Type 0) → Lists f fs P → Noted f (map plain_note fs) P
noted_plain f fs P h = subst (λ (l : List Finding). Lists f l P) (sym (plain_findings fs)) h
