-- Each finding that labels say in an expression has a detail, flows apart.
use Rattle.std.proofs.Common.{◌≡◌, ℕ, suc, List, [], ◌∷◌, ◌++◌, Bool as Test, true, false, refl, sym, ap, ◌∙◌, subst}
use Rattle.std.proofs.Common.{inl, inr, Contains}
use Rattle.std.proofs.lemmas.Option.{none-some, same_Some}
use Rattle.std.specs.List.{AllByRecursion}
use Rattle.std.specs.Prelude.{◌⊎◌, Option, Some, None}
use Rattle.pc_source.specs.declared.place.Place.{Place}
use Rattle.pc_tree.proofs.Among.{none_among, among_first}
use Rattle.pc_tree.specs.declared.code.Code.{Code}
use Rattle.pc_tree.specs.declared.code.Code.TheVariants.{E25}
use Rattle.pc_tree.specs.declared.code.Finding.{Finding}
use Rattle.pc_tree.specs.Code.{finding}
use Rattle.pc_tree.specs.Depth.{place_of}
use Rattle.pc_tree.specs.Tree.{Expr, Exprs, Entries, Keywords, name, number, text, truth, nothing, tuple, list}
use Rattle.pc_tree.specs.Tree.{dict, negative, negation, binary, compare, is_none, is_not_none, conjunction}
use Rattle.pc_tree.specs.Tree.{disjunction, attribute, index, call, no_exprs, more_exprs, no_entries, more_entries}
use Rattle.pc_tree.specs.Tree.{no_keywords, more_keywords, Module}
use Rattle.pc_scope.specs.declared.resolution.Owner.{Owner}
use Rattle.pc_scope.specs.Expressions.{is_instance_test, parts_in, parts_in_all, parts_in_entries, parts_in_keywords}
use Rattle.pc_types.specs.Tree.{Tree}
use Rattle.pc_types.specs.Below.{Bases}
use Rattle.pc_flow.specs.Environment.{Env}
use Rattle.pc_flow.specs.Narrowing.{Tested, test_of_argument, second_argument}
use Rattle.pc_rules.specs.Operations.{Label}
use Rattle.pc_rules.specs.Context.{Context, Flows, static, dynamic, wrong, FlowUnless, FlowsInto, is_early}
use Rattle.pc_rules.specs.Calls.{GivenArguments, arguments_given, CallRule, member_rule, length_rule, test_rule, Seat, second_code}
use Rattle.pc_rules.specs.Labels.{FlowLabels, Labels, ItemsLabels, EntriesLabels, KeywordsLabels, whole_label}
use Rattle.pc_rules.specs.Labels.{with_label, IsFoundAt, IsFlowAt, IsCodeAt, second_place, Finds, ItemsFind}
use Rattle.pc_rules.specs.Labels.{ArgumentsFind, EntriesFind, KeywordsFind}
use Rattle.pc_rules.specs.Lawful.{callee_of, whole_second_code, early_second, Lawful, LawfulItems}
use Rattle.pc_rules.specs.Lawful.{LawfulEntries, LawfulKeywords}
use Rattle.pc_rules.proofs.Saying.{with_found}
use Rattle.pc_module_rules.proofs.PlainCodes.{tells_flow}
use Rattle.pc_module_rules.specs.TypesOfExpressions.{TypeAt, type_here, callee_here, types_inside, types_in_exprs}
use Rattle.pc_module_rules.specs.TypesOfExpressions.{types_in_arguments, types_in_entries, types_in_keywords}
use Rattle.pc_detail_rules.specs.Facts.{Known}
use Rattle.pc_detail_rules.specs.Nodes.{owned, exprs_of_module}
use Rattle.pc_detail_rules.proofs.Explained.Calls.{IsContext}
use Rattle.pc_detail_rules.proofs.Explained.Labels.{IsTyped, IsGiven, label_given, called_given, with_inside}
use Rattle.pc_detail_rules.proofs.Explained.Lists.{all_left, all_right}
use Rattle.pc_detail_rules.proofs.Explained.Told.{Asked, IsTold, expr_told}

-- ---- flows

-- the code of a flow is one of flows
flow_code : {bases : Bases} {s t : Tree} {o : Option Code} → Flows bases s t o → (c : Code) → o ≡ Some c
    → tells_flow c ≡ true
flow_code (static a) c e = absurd (none-some c e)
flow_code (dynamic n a) c e = subst (λ x. tells_flow x ≡ true) (same_Some _ _ e) refl
flow_code (wrong n) c e = subst (λ x. tells_flow x ≡ true) (same_Some _ _ e) refl

unless_code : (early : Test) (bases : Bases) (s t : Tree) (o : Option Code) → FlowUnless early bases s t o → (c : Code)
    → o ≡ Some c → tells_flow c ≡ true
unless_code true bases s t o h c e = absurd (none-some c (sym h ∙ e))
unless_code false bases s t o h c e = flow_code h c e

-- a finding at a flow has a code of flows
pub no_flow : (bases : Bases) (m : Label) (ts : List Tree) (flows : FlowLabels) (p : Place) (f : Finding)
    → FlowsInto bases m ts flows → tells_flow f.code ≡ false → IsFlowAt p flows f → ⊥
no_flow bases m ts [] p f law plain h = none_among h.flow h.among
no_flow bases m [] (x ∷ xs) p f law plain h = law
no_flow bases m (t ∷ ts) (x ∷ xs) p f law plain h = elim (among_first x xs h.flow h.among) [
  | inl e ↦ clash (sym plain ∙ ap (λ (g : Finding). tells_flow g.code) h.is
      ∙ unless_code (is_early m.codes) bases m.type t x.code law.0.code h.code (ap (λ y. y.code) e ∙ h.found))
  | inr r ↦ no_flow bases m ts xs p f law.1 plain (record {
    flow = h.flow;
    among = r;
    code = h.code;
    found = h.found;
    is = h.is;
  })
]
  where
    clash : false ≡ true → ⊥
    clash e = cc e

-- there is none among no flows
pub no_flows : (flows : FlowLabels) (p : Place) (f : Finding) → flows ≡ [] → IsFlowAt p flows f → ⊥
no_flows flows p f none h = none_among h.flow (subst (λ (xs : FlowLabels). Contains xs h.flow) none h.among)

-- ---- expressions

module _ (m : Module) (known : Known) (owner : Owner) (ctx : Context) (is : IsContext m owner ctx)
    (declared : List Tree) (f : Finding) (asked : Asked m f.code) where
  -- an expression is one of the owner's
  abbrev pub IsHere : Expr → Type 0
  IsHere e = Contains (exprs_of_module m) (owned owner e)

  -- the types of these parts are known
  abbrev AreTyped : List TypeAt → Type 0
  AreTyped ts = AllByRecursion (IsTyped m known) ts

  -- each of these is one of the owner's
  abbrev AreHere : List Expr → Type 0
  AreHere es = AllByRecursion IsHere es

  -- an expression is the first of its parts
  first_part : (e : Expr) → AreHere (parts_in false e) → IsHere e
  first_part (name n) h = h.0
  first_part _ h = h.0

  -- the finding has a detail
  abbrev Goal : Type 0
  Goal = IsTold m known f.place f.code

  -- of a code at an expression
  pub code_told : (e : Expr) → IsHere e → (c : Code) → IsGiven m known owner ctx is e c → f ≡ finding (place_of e) c
      → Goal
  code_told e here c given same =
      subst (λ (g : Finding). Asked m g.code → IsTold m known g.place g.code) (sym same)
      (λ a. expr_told m known (owned owner e) here c (given a)) asked

  own : (env : Env) (want : Option Tree) (e : Expr) (labels : Labels e) → Lawful ctx declared env want e labels → IsHere e
      → AreTyped (types_inside true e labels) → IsFoundAt (place_of e) (whole_label e labels).codes f → Goal
  own env want e labels law here typed h = code_told e here h.code
      (label_given m known owner ctx is declared env want e labels law typed h.code h.among) h.is

  no_flow_here : {X : Type 0} (label : Label) (ts : List Tree) (flows : FlowLabels) (p : Place)
      → FlowsInto ctx.bases label ts flows → IsFlowAt p flows f → X
  no_flow_here label ts flows p law h = absurd (no_flow ctx.bases label ts flows p f law asked.plain h)

  -- the second argument of a test of an instance
  second_told : (p : Place) (e : Expr) → IsHere e → place_of e ≡ p → f ≡ finding p E25 → Goal
  second_told p e here at same = code_told e here E25 (λ a. refl) (same ∙ ap (λ q. finding q E25) (sym at))

  at_second : (whole : Expr) → IsHere whole → (es : Exprs) → AreHere (parts_in_all false es)
      → f ≡ finding (second_place es (place_of whole)) E25 → Goal
  at_second whole here no_exprs parts same = second_told (place_of whole) whole here refl same
  at_second whole here (more_exprs e no_exprs) parts same = second_told (place_of whole) whole here refl same
  at_second whole here (more_exprs e (more_exprs x rest)) parts same =
      second_told (place_of x) x (first_part x (all_left IsHere (parts_in false x) (parts_in_all false rest)
      (all_right IsHere (parts_in false e) (parts_in false x ++ parts_in_all false rest) parts))) refl same

  tested_told : (whole : Expr) → IsHere whole → (es : Exprs) → AreHere (parts_in_all false es) → (o : Option Tested)
      (b : Test) → IsCodeAt (second_place es (place_of whole)) (second_code o b) f → Goal
  tested_told whole here es parts (Some t) b h = absurd h
  tested_told whole here es parts None true h = absurd h
  tested_told whole here es parts None false h = at_second whole here es parts h

  second : (rule : CallRule) (whole : Expr) → IsHere whole → (es : Exprs) (labels : ItemsLabels es)
      → AreHere (parts_in_all false es)
      → IsCodeAt (second_place es (place_of whole)) (whole_second_code ctx rule es labels) f → Goal
  second member_rule whole here es labels parts h = absurd h
  second length_rule whole here es labels parts h = absurd h
  second test_rule whole here es labels parts h = tested_told whole here es parts
      (test_of_argument ctx.resolve (second_argument es)) (early_second es labels) h

  -- the types in a part, without its own
  inside : (e : Expr) (labels : Labels e) → AreTyped (types_inside true e labels ++ type_here e labels)
      → AreTyped (types_inside true e labels)
  inside e labels typed = all_left (IsTyped m known) (types_inside true e labels) (type_here e labels) typed

  -- a finding in one of two parts
  two_told : (l r : Expr) (lm : Labels l) (rm : Labels r) → AreHere (parts_in false l ++ parts_in false r)
      → AreTyped ((types_inside true l lm ++ type_here l lm) ++ (types_inside true r rm ++ type_here r rm))
      → (AreHere (parts_in false l) → AreTyped (types_inside true l lm) → Finds l lm f → Goal)
      → (AreHere (parts_in false r) → AreTyped (types_inside true r rm) → Finds r rm f → Goal)
      → Finds l lm f ⊎ Finds r rm f → Goal
  two_told l r lm rm here typed in_left in_right h =
      let first = types_inside true l lm ++ type_here l lm in
      let second = types_inside true r rm ++ type_here r rm in
      elim h [
        | inl a ↦ in_left (all_left IsHere (parts_in false l) (parts_in false r) here)
            (inside l lm (all_left (IsTyped m known) first second typed)) a
        | inr b ↦ in_right (all_right IsHere (parts_in false l) (parts_in false r) here)
            (inside r rm (all_right (IsTyped m known) first second typed)) b
      ]

  -- a callee has the labels of a value, with its own replaced
  callee_told : (env : Env) (g : GivenArguments) (callee : Expr) (value : Labels callee)
      → Lawful ctx declared env None callee value → AreHere (parts_in false callee) → (k : Labels callee)
      → k ≡ with_label callee value (callee_of ctx env g callee value).label → AreTyped (types_inside true callee k)
      → (AreTyped (types_inside true callee value) → Finds callee value f → Goal) → Finds callee k f → Goal
  callee_told env g callee value law here k same typed again h =
      let label = (callee_of ctx env g callee value).label in
      let within : AreTyped (types_inside true callee value) = subst AreTyped
      (ap (types_inside true callee) same ∙ with_inside callee value label) typed in
      elim (with_found callee value label f (subst (λ (x : Labels callee). Finds callee x f) same h)) [
        | inl a ↦ code_told callee (first_part callee here) a.code
            (called_given m known owner ctx is declared env g callee value law within a.code a.among) a.is
        | inr b ↦ again within b
      ]

  mutual
    pub told : (env : Env) (want : Option Tree) (e : Expr) (labels : Labels e) → Lawful ctx declared env want e labels
        → AreHere (parts_in false e) → AreTyped (types_inside true e labels) → Finds e labels f → Goal
    told env want (name n) labels law here typed h = own env want (name n) labels law here.0 typed h
    told env want (number p d) labels law here typed h = own env want (number p d) labels law here.0 typed h
    told env want (text p d) labels law here typed h = own env want (text p d) labels law here.0 typed h
    told env want (truth p b) labels law here typed h = own env want (truth p b) labels law here.0 typed h
    told env want (nothing p) labels law here typed h = own env want (nothing p) labels law here.0 typed h
    told env want (tuple p es) labels law here typed h = elim h [
      | inl a ↦ own env want (tuple p es) labels law here.0 typed a
      | inr b ↦ items_told env _ es labels.items law.items here.1 typed b
    ]
    told env want (list p es) labels law here typed h = elim h [
      | inl a ↦ own env want (list p es) labels law here.0 typed a
      | inr b ↦ items_told env _ es labels.items law.items here.1 typed b
    ]
    told env want (dict p es) labels law here typed h = elim h [
      | inl a ↦ own env want (dict p es) labels law here.0 typed a
      | inr b ↦ entries_told env _ _ es labels.entries law.entries here.1 typed b
    ]
    told env want (negative p e) labels law here typed h = elim h [
      | inl a ↦ own env want (negative p e) labels law here.0 typed a
      | inr b ↦ told env None e labels.operand law.operand here.1 (inside e labels.operand typed) b
    ]
    told env want (negation p e) labels law here typed h = elim h [
      | inl a ↦ own env want (negation p e) labels law here.0 typed a
      | inr b ↦ told env None e labels.operand law.operand here.1 (inside e labels.operand typed) b
    ]
    told env want (binary p o l r) labels law here typed h = elim h [
      | inl a ↦ own env want (binary p o l r) labels law here.0 typed a
      | inr b ↦ two_told l r labels.left labels.right here.1 typed (λ x t k. told env None l labels.left law.left x t k)
          (λ x t k. told env None r labels.right law.right x t k) b
    ]
    told env want (compare p o l r) labels law here typed h = elim h [
      | inl a ↦ own env want (compare p o l r) labels law here.0 typed a
      | inr b ↦ elim b [
        | inl x ↦ no_flow_here (whole_label l labels.left) _ labels.flows (place_of l) law.flows x
        | inr y ↦ two_told l r labels.left labels.right here.1 typed (λ x t k. told env None l labels.left law.left x t k)
            (λ x t k. told env None r labels.right law.right x t k) y
      ]
    ]
    told env want (is_none p e) labels law here typed h = elim h [
      | inl a ↦ own env want (is_none p e) labels law here.0 typed a
      | inr b ↦ told env None e labels.operand law.operand here.1 (inside e labels.operand typed) b
    ]
    told env want (is_not_none p e) labels law here typed h = elim h [
      | inl a ↦ own env want (is_not_none p e) labels law here.0 typed a
      | inr b ↦ told env None e labels.operand law.operand here.1 (inside e labels.operand typed) b
    ]
    told env want (conjunction p l r) labels law here typed h = elim h [
      | inl a ↦ own env want (conjunction p l r) labels law here.0 typed a
      | inr b ↦ two_told l r labels.left labels.right here.1 typed (λ x t k. told env None l labels.left law.left x t k)
          (λ x t k. told _ None r labels.right law.right x t k) b
    ]
    told env want (disjunction p l r) labels law here typed h = elim h [
      | inl a ↦ own env want (disjunction p l r) labels law here.0 typed a
      | inr b ↦ two_told l r labels.left labels.right here.1 typed (λ x t k. told env None l labels.left law.left x t k)
          (λ x t k. told _ None r labels.right law.right x t k) b
    ]
    told env want (attribute p e field) labels law here typed h = elim h [
      | inl a ↦ own env want (attribute p e field) labels law here.0 typed a
      | inr b ↦ told env None e labels.object law.object here.1 (inside e labels.object typed) b
    ]
    told env want (index p e i) labels law here typed h = elim h [
      | inl a ↦ own env want (index p e i) labels law here.0 typed a
      | inr b ↦ elim b [
        | inl x ↦ no_flow_here (whole_label i labels.key) _ labels.flows (place_of i) law.flows x
        | inr y ↦ two_told e i labels.object labels.key here.1 typed (λ x t k. told env None e labels.object law.object x t k)
            (λ x t k. told env None i labels.key law.key x t k) y
      ]
    ]
    told env want (call p callee args kws) labels law here typed h =
        let is_test = is_instance_test callee args kws in
        let g = arguments_given args kws in
        let parts = all_left IsHere (parts_in false callee) (parts_in_all false args ++ parts_in_keywords false kws) here.1
        in
        let others = all_right IsHere (parts_in false callee) (parts_in_all false args ++ parts_in_keywords false kws)
        here.1 in
        let args_here = all_left IsHere (parts_in_all false args) (parts_in_keywords false kws) others in
        let kws_here = all_right IsHere (parts_in_all false args) (parts_in_keywords false kws) others in
        let in_callee = types_inside true callee labels.callee ++ callee_here true callee labels.callee in
        let in_args = types_in_arguments true is_test args labels.arguments in
        let in_kws = types_in_keywords true kws labels.keywords in
        let callee_typed = all_left (IsTyped m known) (types_inside true callee labels.callee)
        (callee_here true callee labels.callee) (all_left (IsTyped m known) in_callee (in_args ++ in_kws) typed) in
        let others_typed = all_right (IsTyped m known) in_callee (in_args ++ in_kws) typed in
        elim h [
          | inl a ↦ own env want (call p callee args kws) labels law here.0 typed a
          | inr b ↦ elim b [
            | inl x ↦
                callee_told env g callee law.value law.lawful parts labels.callee law.callee callee_typed
                (λ t k. told env None callee law.value law.lawful parts t k) x
            | inr c ↦ elim c [
              | inl x ↦ second (callee_of ctx env g callee law.value).rule (call p callee args kws) here.0 args
                  labels.arguments args_here (subst (λ (o : Option Code). IsCodeAt (second_place args p) o f) law.second x)
              | inr d ↦ elim d [
                | inl x ↦ arguments_told env _ args labels.arguments law.arguments args_here is_test
                    (all_left (IsTyped m known) in_args in_kws others_typed) x
                | inr y ↦ keywords_told env _ [] kws labels.keywords law.keywords kws_here
                    (all_right (IsTyped m known) in_args in_kws others_typed) y
              ]
            ]
          ]
        ]

    pub items_told : (env : Env) (seat : ℕ → Seat) (es : Exprs) (labels : ItemsLabels es)
        → LawfulItems ctx declared env seat es labels → AreHere (parts_in_all false es)
        → AreTyped (types_in_exprs true es labels) → ItemsFind es labels f → Goal
    items_told env seat no_exprs labels law here typed h = absurd h
    items_told env seat (more_exprs e rest) labels law here typed h = elim h [
      | inl a ↦ no_flow_here (whole_label e labels.first) _ labels.flows (place_of e) law.flows a
      | inr b ↦ elim b [
        | inl x ↦ told env _ e labels.first law.first
            (all_left IsHere (parts_in false e) (parts_in_all false rest) here)
            (inside e labels.first (all_left (IsTyped m known)
            (types_inside true e labels.first ++ type_here e labels.first) (types_in_exprs true rest labels.rest) typed)) x
        | inr y ↦ items_told env (λ i. seat (suc i)) rest labels.rest law.rest
            (all_right IsHere (parts_in false e) (parts_in_all false rest) here)
            (all_right (IsTyped m known) (types_inside true e labels.first ++ type_here e labels.first)
            (types_in_exprs true rest labels.rest) typed) y
      ]
    ]

    pub arguments_told : (env : Env) (seat : ℕ → Seat) (es : Exprs) (labels : ItemsLabels es)
        → LawfulItems ctx declared env seat es labels → AreHere (parts_in_all false es) → (is_test : Test)
        → AreTyped (types_in_arguments true is_test es labels) → ArgumentsFind is_test es labels f → Goal
    arguments_told env seat no_exprs labels law here is_test typed h = absurd h
    arguments_told env seat (more_exprs e rest) labels law here true typed h = told env _ e labels.first law.first
        (all_left IsHere (parts_in false e) (parts_in_all false rest) here) (inside e labels.first typed) h
    arguments_told env seat (more_exprs e rest) labels law here false typed h = elim h [
      | inl a ↦ no_flow_here (whole_label e labels.first) _ labels.flows (place_of e) law.flows a
      | inr b ↦ elim b [
        | inl x ↦ told env _ e labels.first law.first
            (all_left IsHere (parts_in false e) (parts_in_all false rest) here)
            (inside e labels.first (all_left (IsTyped m known)
            (types_inside true e labels.first ++ type_here e labels.first)
            (types_in_arguments true false rest labels.rest) typed)) x
        | inr y ↦ arguments_told env (λ i. seat (suc i)) rest labels.rest law.rest
            (all_right IsHere (parts_in false e) (parts_in_all false rest) here) false
            (all_right (IsTyped m known) (types_inside true e labels.first ++ type_here e labels.first)
            (types_in_arguments true false rest labels.rest) typed) y
      ]
    ]

    entries_told : (env : Env) (k v : Seat) (es : Entries) (labels : EntriesLabels es)
        → LawfulEntries ctx declared env k v es labels → AreHere (parts_in_entries false es)
        → AreTyped (types_in_entries true es labels) → EntriesFind es labels f → Goal
    entries_told env k v no_entries labels law here typed h = absurd h
    entries_told env k v (more_entries a b rest) labels law here typed h =
        let in_key = types_inside true a labels.key ++ type_here a labels.key in
        let in_value = types_inside true b labels.value ++ type_here b labels.value in
        let in_rest = types_in_entries true rest labels.rest in
        let behind = parts_in false b ++ parts_in_entries false rest in
        let later = all_right IsHere (parts_in false a) behind here in
        let later_typed = all_right (IsTyped m known) in_key (in_value ++ in_rest) typed in
        elim h [
          | inl x ↦ elim x [
            | inl y ↦ no_flow_here (whole_label a labels.key) _ labels.key_flows (place_of a) law.key_flows y
            | inr y ↦ told env _ a labels.key law.key (all_left IsHere (parts_in false a) behind here)
                (inside a labels.key (all_left (IsTyped m known) in_key (in_value ++ in_rest) typed)) y
          ]
          | inr x ↦ elim x [
            | inl y ↦ elim y [
              | inl z ↦ no_flow_here (whole_label b labels.value) _ labels.value_flows (place_of b) law.value_flows z
              | inr z ↦ told env _ b labels.value law.value
                  (all_left IsHere (parts_in false b) (parts_in_entries false rest) later)
                  (inside b labels.value (all_left (IsTyped m known) in_value in_rest later_typed)) z
            ]
            | inr y ↦ entries_told env k v rest labels.rest law.rest
                (all_right IsHere (parts_in false b) (parts_in_entries false rest) later)
                (all_right (IsTyped m known) in_value in_rest later_typed) y
          ]
        ]

    pub keywords_told : (env : Env) (seat : List ℕ → Seat) (before : List (List ℕ)) (es : Keywords)
        (labels : KeywordsLabels es) → LawfulKeywords ctx declared env seat before es labels
        → AreHere (parts_in_keywords false es) → AreTyped (types_in_keywords true es labels)
        → KeywordsFind es labels f → Goal
    keywords_told env seat before no_keywords labels law here typed h = absurd h
    keywords_told env seat before (more_keywords n e rest) labels law here typed h = elim h [
      | inl a ↦ no_flow_here (whole_label e labels.first) _ labels.flows (place_of e) law.flows a
      | inr b ↦ elim b [
        | inl x ↦ told env _ e labels.first law.first
            (all_left IsHere (parts_in false e) (parts_in_keywords false rest) here)
            (inside e labels.first (all_left (IsTyped m known)
            (types_inside true e labels.first ++ type_here e labels.first) (types_in_keywords true rest labels.rest) typed))
            x
        | inr y ↦ keywords_told env seat (n.text ∷ before) rest labels.rest law.rest
            (all_right IsHere (parts_in false e) (parts_in_keywords false rest) here)
            (all_right (IsTyped m known) (types_inside true e labels.first ++ type_here e labels.first)
            (types_in_keywords true rest labels.rest) typed) y
      ]
    ]

  -- a finding in an expression, by the types in it and its own
  pub part_told : (env : Env) (want : Option Tree) (e : Expr) (labels : Labels e) → Lawful ctx declared env want e labels
      → AreHere (parts_in false e) → AreTyped (types_inside true e labels ++ type_here e labels) → Finds e labels f → Goal
  part_told env want e labels law here typed h = told env want e labels law here (inside e labels typed) h
