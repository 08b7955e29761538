-- Each E02 and E03 under the labels of an expression comes from one of its parts.
use Rattle.std.proofs.Common.{◌≡◌, ℕ, suc, List, [], ◌∷◌, ◌++◌, refl, subst, inl, inr}
use Rattle.std.specs.Prelude.{◌⊎◌, Bool as Test, true, false, ◌&&◌, if◌then◌else◌, Option, None}
use Rattle.pc_source.specs.declared.place.Place.{Place}
use Rattle.pc_tree.specs.declared.code.Code.TheVariants.{E03}
use Rattle.pc_tree.specs.declared.code.Finding.{Finding}
use Rattle.pc_tree.specs.Depth.{place_of}
use Rattle.pc_tree.specs.Tree.{Name, Expr, Exprs, Entries, Keywords, name, number, text, truth, nothing, tuple, list}
use Rattle.pc_tree.specs.Tree.{dict, negative, negation, binary, compare, is_none, is_not_none, conjunction}
use Rattle.pc_tree.specs.Tree.{disjunction, attribute, index, call, no_exprs, more_exprs, no_entries, more_entries}
use Rattle.pc_tree.specs.Tree.{no_keywords, more_keywords}
use Rattle.pc_scope.specs.Expressions.{is_name, is_instance_test, first_or_all, parts_in, parts_in_all, parts_in_first}
use Rattle.pc_scope.specs.Expressions.{parts_in_entries, parts_in_keywords}
use Rattle.pc_types.specs.Tree.{Tree}
use Rattle.pc_flow.specs.Environment.{Env}
use Rattle.pc_flow.specs.Narrowing.{narrow, test_of_argument, second_argument}
use Rattle.pc_rules.specs.Operations.{Label, in_error}
use Rattle.pc_rules.specs.Context.{Context, FlowsInto}
use Rattle.pc_rules.specs.Calls.{GivenArguments, arguments_given, CallRule, member_rule, length_rule, test_rule}
use Rattle.pc_rules.specs.Calls.{value_callee, method_callee, Seat}
use Rattle.pc_rules.specs.Labels.{FlowLabels, Labels, ItemsLabels, EntriesLabels, KeywordsLabels, whole_label, type_of}
use Rattle.pc_rules.specs.Labels.{is_of_scopes, IsFoundAt, IsFlowAt, IsCodeAt, second_place, Finds, ItemsFind}
use Rattle.pc_rules.specs.Labels.{ArgumentsFind, EntriesFind, KeywordsFind}
use Rattle.pc_rules.specs.Lawful.{callee_of, whole_second_code, early_second, keyword_seat, Lawful, LawfulItems}
use Rattle.pc_rules.specs.Lawful.{LawfulEntries, LawfulKeywords}
use Rattle.pc_rules.proofs.Silent.{own_silent, method_callee_silent}
use Rattle.pc_rules.proofs.Saying.{not_of_scopes, only_at, no_flow_of_scopes, second_silent, Said, said_left}
use Rattle.pc_rules.proofs.Saying.{said_right, said_behind, name_says, callee_name_says, with_found}

-- arguments that are not second in a test of an instance are found as items
items_found : (es : Exprs) (m : ItemsLabels es) (f : Finding) → ArgumentsFind false es m f → ItemsFind es m f
items_found no_exprs m f h = h
items_found (more_exprs e rest) m f h = elim h [
  | inl a ↦ inl a
  | inr b ↦
      elim b [ inl c ↦ inr (inl c) | inr d ↦ inr (inr (items_found rest m.rest f d)) ]
]

module _ (ctx : Context) (declared : List Tree) (j : Test) (f : Finding) (s : is_of_scopes f.code ≡ true) where
  abbrev SaidIn : List Expr → Type 0
  SaidIn parts = Said ctx parts f

  -- an expression that is no name says nothing itself
  own : (env : Env) (want : Option Tree) (e : Expr) → is_name e ≡ false → (m : Labels e)
      → Lawful ctx declared env want e m → IsFoundAt (place_of e) (whole_label e m).codes f → ⊥
  own env want e other m law found = not_of_scopes (place_of e) (whole_label e m).codes f
      (own_silent ctx declared env want e other m law) s found

  no_flow : (m : Label) (ts : List Tree) (flows : FlowLabels) (p : Place) → FlowsInto ctx.bases m ts flows
      → IsFlowAt p flows f → ⊥
  no_flow m ts flows p law found = no_flow_of_scopes ctx.bases m ts flows p f law s found

  no_second : (rule : CallRule) (arguments : Exprs) (m : ItemsLabels arguments) (p : Place)
      → IsCodeAt p (whole_second_code ctx rule arguments m) f → ⊥
  no_second member_rule arguments m p h = h
  no_second length_rule arguments m p h = h
  no_second test_rule arguments m p h = second_silent (test_of_argument ctx.resolve (second_argument arguments))
      (early_second arguments m) p f s h

  two : (x : Expr) (xs ys : List Expr) → SaidIn xs ⊎ SaidIn ys → SaidIn (x ∷ (xs ++ ys))
  two x xs ys h = elim h [
    | inl a ↦ said_behind ctx x (xs ++ ys) f (said_left ctx xs ys f a)
    | inr b ↦
        said_behind ctx x (xs ++ ys) f (said_right ctx xs ys f b)
  ]

  -- a callee of another form
  callee_late : (p : Place) (c : Expr) (args : Exprs) (kws : Keywords) (rest : List Expr) → is_name c ≡ false
      → ctx.in_body ≡ false → IsFoundAt (place_of c) (E03 ∷ []) f → SaidIn (call p c args kws ∷ rest)
  callee_late p c args kws rest other late found = record {
    part = call p c args kws;
    among = inl refl;
    says =
        (other, late, only_at (place_of c) E03 f found);
  }

  value_late : (env : Env) (p : Place) (c : Expr) (args : Exprs) (kws : Keywords) (rest : List Expr) (value : Labels c)
      → is_name c ≡ false → Lawful ctx declared env None c value → (b : Test) → ctx.in_body ≡ b
      → IsFoundAt (place_of c) (if b then value_callee (whole_label c value) else value_callee
      (in_error E03)).label.codes f → SaidIn (call p c args kws ∷ rest)
  value_late env p c args kws rest value other law true e found = absurd (own env None c other value law found)
  value_late env p c args kws rest value other law false e found = callee_late p c args kws rest other e found

  method_late : (g : GivenArguments) (p q : Place) (e : Expr) (n : Name) (args : Exprs) (kws : Keywords)
      (rest : List Expr) (t : Tree) → (b : Test) → ctx.in_body ≡ b
      → IsFoundAt q (if b then method_callee ctx g n.text t else value_callee (in_error E03)).label.codes f
      → SaidIn (call p (attribute q e n) args kws ∷ rest)
  method_late g p q e n args kws rest t true is found = absurd
      (not_of_scopes q (method_callee ctx g n.text t).label.codes f (method_callee_silent ctx g n.text t) s found)
  method_late g p q e n args kws rest t false is found = callee_late p (attribute q e n) args kws rest refl is found

  -- a finding of scopes at the callee of a call is one that the call or a part of it says
  callee_said : (env : Env) (g : GivenArguments) (p : Place) (c : Expr) (args : Exprs) (kws : Keywords)
      (rest : List Expr) (value : Labels c) → Lawful ctx declared env None c value
      → IsFoundAt (place_of c) (callee_of ctx env g c value).label.codes f
      → SaidIn (call p c args kws ∷ (parts_in j c ++ rest))
  callee_said env g p (name n) args kws rest value law found =
      record { part = name n; among = inr (inl refl); says = callee_name_says ctx env g n f s found }
  callee_said env g p (attribute q e n) args kws rest value law found = method_late g p q e n args kws
      (parts_in j (attribute q e n) ++ rest) (type_of e value.object) ctx.in_body refl found
  callee_said env g p (number q x) args kws rest value law found = value_late env p (number q x) args kws
      (parts_in j (number q x) ++ rest) value refl law ctx.in_body refl found
  callee_said env g p (text q x) args kws rest value law found = value_late env p (text q x) args kws
      (parts_in j (text q x) ++ rest) value refl law ctx.in_body refl found
  callee_said env g p (truth q x) args kws rest value law found = value_late env p (truth q x) args kws
      (parts_in j (truth q x) ++ rest) value refl law ctx.in_body refl found
  callee_said env g p (nothing q) args kws rest value law found = value_late env p (nothing q) args kws
      (parts_in j (nothing q) ++ rest) value refl law ctx.in_body refl found
  callee_said env g p (tuple q x) args kws rest value law found = value_late env p (tuple q x) args kws
      (parts_in j (tuple q x) ++ rest) value refl law ctx.in_body refl found
  callee_said env g p (list q x) args kws rest value law found = value_late env p (list q x) args kws
      (parts_in j (list q x) ++ rest) value refl law ctx.in_body refl found
  callee_said env g p (dict q x) args kws rest value law found = value_late env p (dict q x) args kws
      (parts_in j (dict q x) ++ rest) value refl law ctx.in_body refl found
  callee_said env g p (negative q x) args kws rest value law found = value_late env p (negative q x) args kws
      (parts_in j (negative q x) ++ rest) value refl law ctx.in_body refl found
  callee_said env g p (negation q x) args kws rest value law found = value_late env p (negation q x) args kws
      (parts_in j (negation q x) ++ rest) value refl law ctx.in_body refl found
  callee_said env g p (binary q o x y) args kws rest value law found = value_late env p (binary q o x y) args kws
      (parts_in j (binary q o x y) ++ rest) value refl law ctx.in_body refl found
  callee_said env g p (compare q o x y) args kws rest value law found = value_late env p (compare q o x y) args kws
      (parts_in j (compare q o x y) ++ rest) value refl law ctx.in_body refl found
  callee_said env g p (is_none q x) args kws rest value law found = value_late env p (is_none q x) args kws
      (parts_in j (is_none q x) ++ rest) value refl law ctx.in_body refl found
  callee_said env g p (is_not_none q x) args kws rest value law found = value_late env p (is_not_none q x) args kws
      (parts_in j (is_not_none q x) ++ rest) value refl law ctx.in_body refl found
  callee_said env g p (conjunction q x y) args kws rest value law found = value_late env p (conjunction q x y) args kws
      (parts_in j (conjunction q x y) ++ rest) value refl law ctx.in_body refl found
  callee_said env g p (disjunction q x y) args kws rest value law found = value_late env p (disjunction q x y) args kws
      (parts_in j (disjunction q x y) ++ rest) value refl law ctx.in_body refl found
  callee_said env g p (index q x y) args kws rest value law found = value_late env p (index q x y) args kws
      (parts_in j (index q x y) ++ rest) value refl law ctx.in_body refl found
  callee_said env g p (call q x y z) args kws rest value law found = value_late env p (call q x y z) args kws
      (parts_in j (call q x y z) ++ rest) value refl law ctx.in_body refl found

  -- the arguments of a call that are looked at
  looked_at : (es : Exprs) (m : ItemsLabels es) (is_test : Test) → ((g : ItemsFind es m f) → SaidIn (parts_in_all j es))
      → (ArgumentsFind true es m f → SaidIn (parts_in_first j es))
      → ((g : ArgumentsFind true es m f) → SaidIn (parts_in_all j es)) → ArgumentsFind is_test es m f → (k : Test)
      → k ≡ j → SaidIn (first_or_all (parts_in_first j es) (parts_in_all j es) (k && is_test))
  looked_at es m true all first first_all h true e = first h
  looked_at es m true all first first_all h false e = first_all h
  looked_at es m false all first first_all h true e = all (items_found es m f h)
  looked_at es m false all first first_all h false e = all (items_found es m f h)

  mutual
    pub said : (env : Env) (want : Option Tree) (e : Expr) (m : Labels e) → Lawful ctx declared env want e m
        → Finds e m f → SaidIn (parts_in j e)
    said env want (name n) m law h = record {
      part = name n;
      among = inl refl;
      says =
          name_says ctx env n f s (subst (λ x. IsFoundAt n.place x.codes f) law h);
    }
    said env want (number p d) m law h = absurd (own env want (number p d) refl m law h)
    said env want (text p d) m law h = absurd (own env want (text p d) refl m law h)
    said env want (truth p d) m law h = absurd (own env want (truth p d) refl m law h)
    said env want (nothing p) m law h = absurd (own env want (nothing p) refl m law h)
    said env want (tuple p es) m law h = elim h [
      | inl a ↦ absurd (own env want (tuple p es) refl m law a)
      | inr b ↦
          said_behind ctx (tuple p es) (parts_in_all j es) f (items_said env _ es m.items law.items b)
    ]
    said env want (list p es) m law h = elim h [
      | inl a ↦ absurd (own env want (list p es) refl m law a)
      | inr b ↦
          said_behind ctx (list p es) (parts_in_all j es) f (items_said env _ es m.items law.items b)
    ]
    said env want (dict p es) m law h = elim h [
      | inl a ↦ absurd (own env want (dict p es) refl m law a)
      | inr b ↦
          said_behind ctx (dict p es) (parts_in_entries j es) f (entries_said env _ _ es m.entries law.entries b)
    ]
    said env want (negative p e) m law h = elim h [
      | inl a ↦ absurd (own env want (negative p e) refl m law a)
      | inr b ↦
          said_behind ctx (negative p e) (parts_in j e) f (said env None e m.operand law.operand b)
    ]
    said env want (negation p e) m law h = elim h [
      | inl a ↦ absurd (own env want (negation p e) refl m law a)
      | inr b ↦
          said_behind ctx (negation p e) (parts_in j e) f (said env None e m.operand law.operand b)
    ]
    said env want (binary p o l r) m law h = elim h [
      | inl a ↦ absurd (own env want (binary p o l r) refl m law a)
      | inr b ↦ two (binary p o l r) (parts_in j l) (parts_in j r)
          (elim b [
            | inl c ↦ inl (said env None l m.left law.left c)
            | inr d ↦ inr (said env None r m.right law.right d)
          ])
    ]
    said env want (compare p o l r) m law h = elim h [
      | inl a ↦ absurd (own env want (compare p o l r) refl m law a)
      | inr b ↦ elim b [
        | inl c ↦ absurd (no_flow _ _ m.flows (place_of l) law.flows c)
        | inr d ↦ two (compare p o l r) (parts_in j l) (parts_in j r)
            (elim d [
              | inl x ↦ inl (said env None l m.left law.left x)
              | inr y ↦
                  inr (said env None r m.right law.right y)
            ])
      ]
    ]
    said env want (is_none p e) m law h = elim h [
      | inl a ↦ absurd (own env want (is_none p e) refl m law a)
      | inr b ↦
          said_behind ctx (is_none p e) (parts_in j e) f (said env None e m.operand law.operand b)
    ]
    said env want (is_not_none p e) m law h = elim h [
      | inl a ↦ absurd (own env want (is_not_none p e) refl m law a)
      | inr b ↦ said_behind ctx (is_not_none p e) (parts_in j e) f (said env None e m.operand law.operand b)
    ]
    said env want (conjunction p l r) m law h = elim h [
      | inl a ↦ absurd (own env want (conjunction p l r) refl m law a)
      | inr b ↦ two (conjunction p l r) (parts_in j l) (parts_in j r)
          (elim b [
            | inl c ↦ inl (said env None l m.left law.left c)
            | inr d ↦
                inr (said (narrow ctx.bases declared ctx.resolve true l env) None r m.right law.right d)
          ])
    ]
    said env want (disjunction p l r) m law h = elim h [
      | inl a ↦ absurd (own env want (disjunction p l r) refl m law a)
      | inr b ↦ two (disjunction p l r) (parts_in j l) (parts_in j r)
          (elim b [
            | inl c ↦ inl (said env None l m.left law.left c)
            | inr d ↦
                inr (said (narrow ctx.bases declared ctx.resolve false l env) None r m.right law.right d)
          ])
    ]
    said env want (attribute p e n) m law h = elim h [
      | inl a ↦ absurd (own env want (attribute p e n) refl m law a)
      | inr b ↦ said_behind ctx (attribute p e n) (parts_in j e) f (said env None e m.object law.object b)
    ]
    said env want (index p l r) m law h = elim h [
      | inl a ↦ absurd (own env want (index p l r) refl m law a)
      | inr b ↦ elim b [
        | inl c ↦ absurd (no_flow _ _ m.flows (place_of r) law.flows c)
        | inr d ↦ two (index p l r) (parts_in j l) (parts_in j r)
            (elim d [
              | inl x ↦ inl (said env None l m.object law.object x)
              | inr y ↦
                  inr (said env None r m.key law.key y)
            ])
      ]
    ]
    said env want (call p c args kws) m law h =
        let callee = callee_of ctx env (arguments_given args kws) c law.value in
        let rest = first_or_all (parts_in_first j args) (parts_in_all j args) (j && is_instance_test c args kws)
        ++ parts_in_keywords j kws in
        elim h [
          | inl a ↦ absurd (own env want (call p c args kws) refl m law a)
          | inr b ↦ elim b [
            | inl x ↦ elim (with_found c law.value callee.label f (subst (λ v. Finds c v f) law.callee x)) [
              | inl y ↦ callee_said env (arguments_given args kws) p c args kws rest law.value law.lawful y
              | inr z ↦ two (call p c args kws) (parts_in j c) rest (inl (said env None c law.value law.lawful z))
            ]
            | inr d ↦ elim d [
              | inl x ↦ absurd (no_second callee.rule args m.arguments (second_place args p)
                  (subst (λ o. IsCodeAt (second_place args p) o f) law.second x))
              | inr y ↦ two (call p c args kws) (parts_in j c) rest (inr (elim y [
                | inl u ↦ said_left ctx _ (parts_in_keywords j kws) f
                    (looked_at args m.arguments (is_instance_test c args kws)
                    (items_said env _ args m.arguments law.arguments) (first_said env _ args m.arguments law.arguments)
                    (first_of_all_said env _ args m.arguments law.arguments) u j refl)
                | inr v ↦ said_right ctx (first_or_all (parts_in_first j args) (parts_in_all j args)
                    (j && is_instance_test c args kws)) (parts_in_keywords j kws) f
                    (keywords_said env _ [] kws m.keywords law.keywords v)
              ]))
            ]
          ]
        ]

    pub items_said : (env : Env) (seat : ℕ → Seat) (es : Exprs) (m : ItemsLabels es)
        → LawfulItems ctx declared env seat es m → ItemsFind es m f → SaidIn (parts_in_all j es)
    items_said env seat no_exprs m law h = absurd h
    items_said env seat (more_exprs e rest) m law h = elim h [
      | inl a ↦ absurd (no_flow _ _ m.flows (place_of e) law.flows a)
      | inr b ↦ elim b [
        | inl c ↦ said_left ctx (parts_in j e) (parts_in_all j rest) f (said env (seat 0).want e m.first law.first c)
        | inr d ↦ said_right ctx (parts_in j e) (parts_in_all j rest) f
            (items_said env (λ i. seat (suc i)) rest m.rest law.rest d)
      ]
    ]

    first_said : (env : Env) (seat : ℕ → Seat) (es : Exprs) (m : ItemsLabels es)
        → LawfulItems ctx declared env seat es m → ArgumentsFind true es m f → SaidIn (parts_in_first j es)
    first_said env seat no_exprs m law h = absurd h
    first_said env seat (more_exprs e rest) m law h = said env (seat 0).want e m.first law.first h

    first_of_all_said : (env : Env) (seat : ℕ → Seat) (es : Exprs) (m : ItemsLabels es)
        → LawfulItems ctx declared env seat es m → ArgumentsFind true es m f → SaidIn (parts_in_all j es)
    first_of_all_said env seat no_exprs m law h = absurd h
    first_of_all_said env seat (more_exprs e rest) m law h = said_left ctx (parts_in j e) (parts_in_all j rest) f
        (said env (seat 0).want e m.first law.first h)

    entries_said : (env : Env) (k v : Seat) (es : Entries) (m : EntriesLabels es)
        → LawfulEntries ctx declared env k v es m → EntriesFind es m f → SaidIn (parts_in_entries j es)
    entries_said env k v no_entries m law h = absurd h
    entries_said env k v (more_entries a b rest) m law h = elim h [
      | inl x ↦ elim x [
        | inl c ↦ absurd (no_flow _ _ m.key_flows (place_of a) law.key_flows c)
        | inr d ↦ said_left ctx (parts_in j a) _ f (said env k.want a m.key law.key d)
      ]
      | inr y ↦ said_right ctx (parts_in j a) _ f (elim y [
        | inl z ↦ elim z [
          | inl c ↦ absurd (no_flow _ _ m.value_flows (place_of b) law.value_flows c)
          | inr d ↦ said_left ctx (parts_in j b) (parts_in_entries j rest) f (said env v.want b m.value law.value d)
        ]
        | inr w ↦ said_right ctx (parts_in j b) (parts_in_entries j rest) f
            (entries_said env k v rest m.rest law.rest w)
      ])
    ]

    pub keywords_said : (env : Env) (seat : List ℕ → Seat) (before : List (List ℕ)) (es : Keywords)
        (m : KeywordsLabels es) → LawfulKeywords ctx declared env seat before es m → KeywordsFind es m f
        → SaidIn (parts_in_keywords j es)
    keywords_said env seat before no_keywords m law h = absurd h
    keywords_said env seat before (more_keywords n e rest) m law h = elim h [
      | inl a ↦ absurd (no_flow _ _ m.flows (place_of e) law.flows a)
      | inr b ↦ elim b [
        | inl c ↦ said_left ctx (parts_in j e) (parts_in_keywords j rest) f
            (said env (keyword_seat seat before n).want e m.first law.first c)
        | inr d ↦ said_right ctx (parts_in j e) (parts_in_keywords j rest) f
            (keywords_said env seat (n.text ∷ before) rest m.rest law.rest d)
      ]
    ]

  pub arguments_said : (env : Env) (seat : ℕ → Seat) (es : Exprs) (m : ItemsLabels es)
      → LawfulItems ctx declared env seat es m → (is_test : Test) → ArgumentsFind is_test es m f
      → SaidIn (first_or_all (parts_in_first j es) (parts_in_all j es) (j && is_test))
  arguments_said env seat es m law is_test h = looked_at es m is_test (items_said env seat es m law)
      (first_said env seat es m law) (first_of_all_said env seat es m law) h j refl
