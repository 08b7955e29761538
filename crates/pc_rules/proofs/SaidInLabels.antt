-- Each E02 and E03 of a judged part of an expression is under the expression's labels.
use Rattle.std.proofs.Common.{◌≡◌, ℕ, suc, List, [], ◌∷◌, ◌++◌, refl, sym, ap, ◌∙◌, subst, inl, inr, arith}
use Rattle.std.specs.Prelude.{◌⊎◌, Bool as Test, true, false, if◌then◌else◌, Option, None}
use Rattle.pc_tree.specs.declared.code.Code.TheVariants.{E03}
use Rattle.pc_tree.specs.declared.code.Finding.{Finding}
use Rattle.pc_tree.specs.Depth.{place_of}
use Rattle.pc_tree.specs.Tree.{Expr, Exprs, Entries, Keywords, name, number, text, truth, nothing, tuple, list, dict}
use Rattle.pc_tree.specs.Tree.{negative, negation, binary, compare, is_none, is_not_none, conjunction, disjunction}
use Rattle.pc_tree.specs.Tree.{attribute, index, call, no_exprs, more_exprs, no_entries, more_entries, no_keywords}
use Rattle.pc_tree.specs.Tree.{more_keywords}
use Rattle.pc_scope.specs.Expressions.{is_name, is_instance_test, first_or_all, parts_in, parts_in_all, parts_in_first}
use Rattle.pc_scope.specs.Expressions.{parts_in_entries, parts_in_keywords}
use Rattle.pc_types.specs.Tree.{Tree}
use Rattle.pc_flow.specs.Environment.{Env}
use Rattle.pc_flow.specs.Narrowing.{narrow}
use Rattle.pc_rules.specs.Operations.{Label, in_error}
use Rattle.pc_rules.specs.Context.{Context}
use Rattle.pc_rules.specs.Calls.{GivenArguments, arguments_given, value_callee, method_callee, Seat}
use Rattle.pc_rules.specs.Labels.{Labels, ItemsLabels, EntriesLabels, KeywordsLabels, whole_label, type_of, with_label}
use Rattle.pc_rules.specs.Labels.{IsFoundAt, Finds, ItemsFind, ArgumentsFind, EntriesFind, KeywordsFind}
use Rattle.pc_rules.specs.Lawful.{callee_of, keyword_seat, Lawful, LawfulItems, LawfulEntries, LawfulKeywords}
use Rattle.pc_rules.proofs.Saying.{IsPart, part_either, PartSays, CalleeSays, found_at, found_here, own_label}
use Rattle.pc_rules.proofs.Saying.{name_said, callee_name_said}

-- ---- findings within an expression, its own label aside

abbrev Within : (e : Expr) → Labels e → Finding → Type 0
Within (tuple p es) m f = ItemsFind es m.items f
Within (list p es) m f = ItemsFind es m.items f
Within (dict p es) m f = EntriesFind es m.entries f
Within (negative p e) m f = Finds e m.operand f
Within (negation p e) m f = Finds e m.operand f
Within (binary p o l r) m f = Finds l m.left f ⊎ Finds r m.right f
Within (compare p o l r) m f = Finds l m.left f ⊎ Finds r m.right f
Within (is_none p e) m f = Finds e m.operand f
Within (is_not_none p e) m f = Finds e m.operand f
Within (conjunction p l r) m f = Finds l m.left f ⊎ Finds r m.right f
Within (disjunction p l r) m f = Finds l m.left f ⊎ Finds r m.right f
Within (attribute p e n) m f = Finds e m.object f
Within (index p l r) m f = Finds l m.object f ⊎ Finds r m.key f
Within (call p c args kws) m f = Finds c m.callee f ⊎ (ArgumentsFind (is_instance_test c args kws) args m.arguments f
    ⊎ KeywordsFind kws m.keywords f)
Within _ m f = ⊥

-- it is found, whatever the label of the expression itself
found_within : (e : Expr) (m : Labels e) (here : Label) (f : Finding) → Within e m f → Finds e (with_label e m here) f
found_within (name n) m here f h = absurd h
found_within (number p d) m here f h = absurd h
found_within (text p d) m here f h = absurd h
found_within (truth p d) m here f h = absurd h
found_within (nothing p) m here f h = absurd h
found_within (tuple p es) m here f h = inr h
found_within (list p es) m here f h = inr h
found_within (dict p es) m here f h = inr h
found_within (negative p e) m here f h = inr h
found_within (negation p e) m here f h = inr h
found_within (binary p o l r) m here f h = inr h
found_within (compare p o l r) m here f h = inr (inr h)
found_within (is_none p e) m here f h = inr h
found_within (is_not_none p e) m here f h = inr h
found_within (conjunction p l r) m here f h = inr h
found_within (disjunction p l r) m here f h = inr h
found_within (attribute p e n) m here f h = inr h
found_within (index p l r) m here f h = inr (inr h)
found_within (call p c args kws) m here f h = inr (elim h [ inl a ↦ inl a | inr b ↦ inr (inr b) ])

-- with its own label as well
own_again : (e : Expr) (m : Labels e) → with_label e m (whole_label e m) ≡ m
own_again (name n) m = refl
own_again (number p d) m = refl
own_again (text p d) m = refl
own_again (truth p d) m = refl
own_again (nothing p) m = refl
own_again (tuple p es) m = refl
own_again (list p es) m = refl
own_again (dict p es) m = refl
own_again (negative p e) m = refl
own_again (negation p e) m = refl
own_again (binary p o l r) m = refl
own_again (compare p o l r) m = refl
own_again (is_none p e) m = refl
own_again (is_not_none p e) m = refl
own_again (conjunction p l r) m = refl
own_again (disjunction p l r) m = refl
own_again (attribute p e n) m = refl
own_again (index p l r) m = refl
own_again (call p c args kws) m = refl

in_own : (e : Expr) (m : Labels e) (f : Finding) → Within e m f → Finds e m f
in_own e m f h = subst (λ k. Finds e k f) (own_again e m) (found_within e m (whole_label e m) f h)

-- items are found as arguments that are not second in a test of an instance
pub as_arguments : (es : Exprs) (m : ItemsLabels es) (f : Finding) → ItemsFind es m f → ArgumentsFind false es m f
as_arguments no_exprs m f h = h
as_arguments (more_exprs e rest) m f h = elim h [
  | inl a ↦ inl a
  | inr b ↦
      elim b [ inl c ↦ inr (inl c) | inr d ↦ inr (inr (as_arguments rest m.rest f d)) ]
]

module _ (ctx : Context) (declared : List Tree) (part : Expr) (f : Finding) (says : PartSays ctx part f) where
  -- an expression other than a name or a call says nothing of scopes
  nothing_said : (e : Expr) → (PartSays ctx e f → ⊥) → e ≡ part → ⊥
  nothing_said e silent is = silent (subst (λ x. PartSays ctx x f) (sym is) says)

  -- in an initializer a callee that is no name has E03
  late_label : (env : Env) (g : GivenArguments) (c : Expr) (value : Labels c) → is_name c ≡ false → ctx.in_body ≡ false
      → (callee_of ctx env g c value).label ≡ in_error E03
  late_label env g (name n) value other late = absurd (grind (arith, other))
  late_label env g (attribute q e n) value other late =
      ap (λ b. (if b then method_callee ctx g n.text (type_of e value.object) else value_callee (in_error E03)).label)
      late
  late_label env g (number q x) value other late =
      ap (λ b. (if b then value_callee value else value_callee (in_error E03)).label) late
  late_label env g (text q x) value other late =
      ap (λ b. (if b then value_callee value else value_callee (in_error E03)).label) late
  late_label env g (truth q x) value other late =
      ap (λ b. (if b then value_callee value else value_callee (in_error E03)).label) late
  late_label env g (nothing q) value other late =
      ap (λ b. (if b then value_callee value else value_callee (in_error E03)).label) late
  late_label env g (tuple q x) value other late =
      ap (λ b. (if b then value_callee value.here else value_callee (in_error E03)).label) late
  late_label env g (list q x) value other late =
      ap (λ b. (if b then value_callee value.here else value_callee (in_error E03)).label) late
  late_label env g (dict q x) value other late =
      ap (λ b. (if b then value_callee value.here else value_callee (in_error E03)).label) late
  late_label env g (negative q x) value other late =
      ap (λ b. (if b then value_callee value.here else value_callee (in_error E03)).label) late
  late_label env g (negation q x) value other late =
      ap (λ b. (if b then value_callee value.here else value_callee (in_error E03)).label) late
  late_label env g (binary q o x y) value other late =
      ap (λ b. (if b then value_callee value.here else value_callee (in_error E03)).label) late
  late_label env g (compare q o x y) value other late =
      ap (λ b. (if b then value_callee value.here else value_callee (in_error E03)).label) late
  late_label env g (is_none q x) value other late =
      ap (λ b. (if b then value_callee value.here else value_callee (in_error E03)).label) late
  late_label env g (is_not_none q x) value other late =
      ap (λ b. (if b then value_callee value.here else value_callee (in_error E03)).label) late
  late_label env g (conjunction q x y) value other late =
      ap (λ b. (if b then value_callee value.here else value_callee (in_error E03)).label) late
  late_label env g (disjunction q x y) value other late =
      ap (λ b. (if b then value_callee value.here else value_callee (in_error E03)).label) late
  late_label env g (index q x y) value other late =
      ap (λ b. (if b then value_callee value.here else value_callee (in_error E03)).label) late
  late_label env g (call q x y z) value other late =
      ap (λ b. (if b then value_callee value.here else value_callee (in_error E03)).label) late

  callee_late : (env : Env) (g : GivenArguments) (c : Expr) (value m : Labels c)
      → m ≡ with_label c value (callee_of ctx env g c value).label → CalleeSays ctx c f → Finds c m f
  callee_late env g c value m law h =
      let own : whole_label c m ≡ in_error E03 = ap (whole_label c) law ∙ own_label c value _
      ∙ late_label env g c value h.0 h.1 in
      found_here c m f (subst (λ x. IsFoundAt (place_of c) x.codes f) (sym own) (found_at (place_of c) E03 f h.2))

  -- an expression, from what is found within it; a name says it itself
  found_by : (env : Env) (want : Option Tree) (e : Expr) (m : Labels e) → Lawful ctx declared env want e m
      → IsPart part (parts_in true e) → (is_name e ≡ false → Within e m f) → Finds e m f
  found_by env want (name n) m law h within = elim h [
    | inl is ↦ subst (λ x. IsFoundAt n.place x.codes f) (sym law)
        (name_said ctx env n f (subst (λ x. PartSays ctx x f) (sym is) says))
    | inr b ↦ absurd b
  ]
  found_by env want (number p d) m law h within = absurd (within refl)
  found_by env want (text p d) m law h within = absurd (within refl)
  found_by env want (truth p d) m law h within = absurd (within refl)
  found_by env want (nothing p) m law h within = absurd (within refl)
  found_by env want (tuple p es) m law h within = in_own (tuple p es) m f (within refl)
  found_by env want (list p es) m law h within = in_own (list p es) m f (within refl)
  found_by env want (dict p es) m law h within = in_own (dict p es) m f (within refl)
  found_by env want (negative p e) m law h within = in_own (negative p e) m f (within refl)
  found_by env want (negation p e) m law h within = in_own (negation p e) m f (within refl)
  found_by env want (binary p o l r) m law h within = in_own (binary p o l r) m f (within refl)
  found_by env want (compare p o l r) m law h within = in_own (compare p o l r) m f (within refl)
  found_by env want (is_none p e) m law h within = in_own (is_none p e) m f (within refl)
  found_by env want (is_not_none p e) m law h within = in_own (is_not_none p e) m f (within refl)
  found_by env want (conjunction p l r) m law h within = in_own (conjunction p l r) m f (within refl)
  found_by env want (disjunction p l r) m law h within = in_own (disjunction p l r) m f (within refl)
  found_by env want (attribute p e n) m law h within = in_own (attribute p e n) m f (within refl)
  found_by env want (index p l r) m law h within = in_own (index p l r) m f (within refl)
  found_by env want (call p c args kws) m law h within = in_own (call p c args kws) m f (within refl)

  other_found : (env : Env) (g : GivenArguments) (c : Expr) (value m : Labels c)
      → m ≡ with_label c value (callee_of ctx env g c value).label → Within c value f → Finds c m f
  other_found env g c value m law h = subst (λ k. Finds c k f) (sym law)
      (found_within c value (callee_of ctx env g c value).label f h)

  -- a callee, whose own label says what it is as a callee
  callee_found : (env : Env) (g : GivenArguments) (c : Expr) (value m : Labels c)
      → m ≡ with_label c value (callee_of ctx env g c value).label → IsPart part (parts_in true c)
      → (is_name c ≡ false → Within c value f) → Finds c m f
  callee_found env g (name n) value m law h within =
      elim h [
        | inl is ↦ subst (λ x. IsFoundAt n.place x.codes f) (sym law)
            (callee_name_said ctx env g n f (subst (λ x. PartSays ctx x f) (sym is) says))
        | inr b ↦ absurd b
      ]
  callee_found env g (number q x) value m law h within = absurd (within refl)
  callee_found env g (text q x) value m law h within = absurd (within refl)
  callee_found env g (truth q x) value m law h within = absurd (within refl)
  callee_found env g (nothing q) value m law h within = absurd (within refl)
  callee_found env g (tuple q x) value m law h within = other_found env g (tuple q x) value m law (within refl)
  callee_found env g (list q x) value m law h within = other_found env g (list q x) value m law (within refl)
  callee_found env g (dict q x) value m law h within = other_found env g (dict q x) value m law (within refl)
  callee_found env g (negative q x) value m law h within = other_found env g (negative q x) value m law (within refl)
  callee_found env g (negation q x) value m law h within = other_found env g (negation q x) value m law (within refl)
  callee_found env g (binary q o x y) value m law h within = other_found env g (binary q o x y) value m law
      (within refl)
  callee_found env g (compare q o x y) value m law h within = other_found env g (compare q o x y) value m law
      (within refl)
  callee_found env g (is_none q x) value m law h within = other_found env g (is_none q x) value m law (within refl)
  callee_found env g (is_not_none q x) value m law h within = other_found env g (is_not_none q x) value m law
      (within refl)
  callee_found env g (conjunction q x y) value m law h within = other_found env g (conjunction q x y) value m law
      (within refl)
  callee_found env g (disjunction q x y) value m law h within = other_found env g (disjunction q x y) value m law
      (within refl)
  callee_found env g (attribute q x n) value m law h within = other_found env g (attribute q x n) value m law
      (within refl)
  callee_found env g (index q x y) value m law h within = other_found env g (index q x y) value m law (within refl)
  callee_found env g (call q x y z) value m law h within = other_found env g (call q x y z) value m law (within refl)

  -- the arguments that are looked at
  pub arguments_found : (es : Exprs) (m : ItemsLabels es) → (IsPart part (parts_in_first true es)
      → ArgumentsFind true es m f) → (IsPart part (parts_in_all true es) → ItemsFind es m f) → (is_test : Test)
      → IsPart part (first_or_all (parts_in_first true es) (parts_in_all true es) is_test)
      → ArgumentsFind is_test es m f
  arguments_found es m first all true h = first h
  arguments_found es m first all false h = as_arguments es m f (all h)

  mutual
    -- a part of an expression that is no name itself
    within_found : (env : Env) (want : Option Tree) (e : Expr) → is_name e ≡ false → (m : Labels e)
        → Lawful ctx declared env want e m → IsPart part (parts_in true e) → Within e m f
    within_found env want (name n) other m law h = absurd (grind (arith, other))
    within_found env want (number p d) other m law h = elim h [
      | inl is ↦ nothing_said (number p d) (λ x. x) is
      | inr b ↦
          b
    ]
    within_found env want (text p d) other m law h = elim h [ inl is ↦ nothing_said (text p d) (λ x. x) is | inr b ↦ b ]
    within_found env want (truth p d) other m law h = elim h [
      | inl is ↦ nothing_said (truth p d) (λ x. x) is
      | inr b ↦
          b
    ]
    within_found env want (nothing p) other m law h = elim h [
      | inl is ↦ nothing_said (nothing p) (λ x. x) is
      | inr b ↦
          b
    ]
    within_found env want (tuple p es) other m law h = elim h [
      | inl is ↦ absurd (nothing_said (tuple p es) (λ x. x) is)
      | inr b ↦ items_found env _ es m.items law.items b
    ]
    within_found env want (list p es) other m law h = elim h [
      | inl is ↦ absurd (nothing_said (list p es) (λ x. x) is)
      | inr b ↦ items_found env _ es m.items law.items b
    ]
    within_found env want (dict p es) other m law h = elim h [
      | inl is ↦ absurd (nothing_said (dict p es) (λ x. x) is)
      | inr b ↦ entries_found env _ _ es m.entries law.entries b
    ]
    within_found env want (negative p e) other m law h = elim h [
      | inl is ↦ absurd (nothing_said (negative p e) (λ x. x) is)
      | inr b ↦ found_by env None e m.operand law.operand
          b (λ o. within_found env None e o m.operand law.operand b)
    ]
    within_found env want (negation p e) other m law h = elim h [
      | inl is ↦ absurd (nothing_said (negation p e) (λ x. x) is)
      | inr b ↦ found_by env None e m.operand law.operand
          b (λ o. within_found env None e o m.operand law.operand b)
    ]
    within_found env want (is_none p e) other m law h = elim h [
      | inl is ↦
          absurd (nothing_said (is_none p e) (λ x. x) is)
      | inr b ↦ found_by env None e m.operand law.operand b
          (λ o. within_found env None e o m.operand law.operand b)
    ]
    within_found env want (is_not_none p e) other m law h = elim h [
      | inl is ↦ absurd (nothing_said (is_not_none p e) (λ x. x) is)
      | inr b ↦ found_by env None e m.operand
          law.operand b (λ o. within_found env None e o m.operand law.operand b)
    ]
    within_found env want (binary p o l r) other m law h = elim h [
      | inl is ↦ absurd (nothing_said (binary p o l r) (λ x. x) is)
      | inr b ↦ elim (part_either part (parts_in true l) (parts_in true r) b) [
        | inl x ↦ inl (found_by env None l m.left law.left x (λ k. within_found env None l k m.left law.left x))
        | inr y ↦ inr (found_by env None r m.right law.right y (λ k. within_found env None r k m.right law.right y))
      ]
    ]
    within_found env want (compare p o l r) other m law h = elim h [
      | inl is ↦ absurd (nothing_said (compare p o l r) (λ x. x) is)
      | inr b ↦ elim (part_either part (parts_in true l) (parts_in true r) b) [
        | inl x ↦ inl (found_by env None l m.left law.left x (λ k. within_found env None l k m.left law.left x))
        | inr y ↦ inr (found_by env None r m.right law.right y (λ k. within_found env None r k m.right law.right y))
      ]
    ]
    within_found env want (conjunction p l r) other m law h = elim h [
      | inl is ↦ absurd (nothing_said (conjunction p l r) (λ x. x) is)
      | inr b ↦ elim (part_either part (parts_in true l) (parts_in true r) b) [
        | inl x ↦ inl (found_by env None l m.left law.left x (λ k. within_found env None l k m.left law.left x))
        | inr y ↦ inr (found_by (narrow ctx.bases declared ctx.resolve true l env) None r m.right law.right y
            (λ k. within_found (narrow ctx.bases declared ctx.resolve true l env) None r k m.right law.right y))
      ]
    ]
    within_found env want (disjunction p l r) other m law h = elim h [
      | inl is ↦ absurd (nothing_said (disjunction p l r) (λ x. x) is)
      | inr b ↦ elim (part_either part (parts_in true l) (parts_in true r) b) [
        | inl x ↦ inl (found_by env None l m.left law.left x (λ k. within_found env None l k m.left law.left x))
        | inr y ↦ inr (found_by (narrow ctx.bases declared ctx.resolve false l env) None r m.right law.right y
            (λ k. within_found (narrow ctx.bases declared ctx.resolve false l env) None r k m.right law.right y))
      ]
    ]
    within_found env want (attribute p e n) other m law h = elim h [
      | inl is ↦ absurd (nothing_said (attribute p e n) (λ x. x) is)
      | inr b ↦ found_by env None e m.object law.object
          b (λ o. within_found env None e o m.object law.object b)
    ]
    within_found env want (index p l r) other m law h = elim h [
      | inl is ↦ absurd (nothing_said (index p l r) (λ x. x) is)
      | inr b ↦ elim (part_either part (parts_in true l) (parts_in true r) b) [
        | inl x ↦ inl (found_by env None l m.object law.object x (λ k. within_found env None l k m.object law.object x))
        | inr y ↦ inr (found_by env None r m.key law.key y (λ k. within_found env None r k m.key law.key y))
      ]
    ]
    within_found env want (call p c args kws) other m law h =
        let looked = first_or_all (parts_in_first true args) (parts_in_all true args) (is_instance_test c args kws) in
        elim h [
          | inl is ↦ inl (callee_late env (arguments_given args kws) c law.value m.callee law.callee
              (subst (λ x. PartSays ctx x f) (sym is) says))
          | inr b ↦ elim (part_either part (parts_in true c) (looked ++ parts_in_keywords true kws) b) [
            | inl x ↦ inl (callee_found env (arguments_given args kws) c law.value m.callee law.callee x
                (λ k. within_found env None c k law.value law.lawful x))
            | inr y ↦ inr (elim (part_either part looked (parts_in_keywords true kws) y) [
              | inl u ↦ inl (arguments_found args m.arguments (first_found env _ args m.arguments law.arguments)
                  (items_found env _ args m.arguments law.arguments) (is_instance_test c args kws) u)
              | inr v ↦ inr (keywords_found env _ [] kws m.keywords law.keywords v)
            ])
          ]
        ]

    pub items_found : (env : Env) (seat : ℕ → Seat) (es : Exprs) (m : ItemsLabels es)
        → LawfulItems ctx declared env seat es m → IsPart part (parts_in_all true es) → ItemsFind es m f
    items_found env seat no_exprs m law h = h
    items_found env seat (more_exprs e rest) m law h = elim (part_either part (parts_in true e) (parts_in_all true rest)
        h) [
          | inl x ↦
              inr (inl (found_by env (seat 0).want e m.first law.first x
              (λ k. within_found env (seat 0).want e k m.first law.first x)))
          | inr y ↦ inr (inr (items_found env (λ i. seat (suc i)) rest m.rest law.rest y))
        ]

    pub first_found : (env : Env) (seat : ℕ → Seat) (es : Exprs) (m : ItemsLabels es)
        → LawfulItems ctx declared env seat es m → IsPart part (parts_in_first true es) → ArgumentsFind true es m f
    first_found env seat no_exprs m law h = h
    first_found env seat (more_exprs e rest) m law h = found_by env (seat 0).want e m.first law.first h
        (λ k. within_found env (seat 0).want e k m.first law.first h)

    entries_found : (env : Env) (k v : Seat) (es : Entries) (m : EntriesLabels es)
        → LawfulEntries ctx declared env k v es m → IsPart part (parts_in_entries true es) → EntriesFind es m f
    entries_found env k v no_entries m law h = h
    entries_found env k v (more_entries a b rest) m law h = elim (part_either part (parts_in true a)
        (parts_in true b ++ parts_in_entries true rest) h) [
          | inl x ↦ inl (inr (found_by env k.want a m.key law.key x (λ o. within_found env k.want a o m.key law.key x)))
          | inr y ↦ inr (elim (part_either part (parts_in true b) (parts_in_entries true rest) y) [
            | inl z ↦
                inl (inr (found_by env v.want b m.value law.value z (λ o. within_found env v.want b o m.value law.value
                z)))
            | inr w ↦ inr (entries_found env k v rest m.rest law.rest w)
          ])
        ]

    pub keywords_found : (env : Env) (seat : List ℕ → Seat) (before : List (List ℕ)) (es : Keywords)
        (m : KeywordsLabels es) → LawfulKeywords ctx declared env seat before es m
        → IsPart part (parts_in_keywords true es) → KeywordsFind es m f
    keywords_found env seat before no_keywords m law h = h
    keywords_found env seat before (more_keywords n e rest) m law h =
        elim (part_either part (parts_in true e) (parts_in_keywords true rest) h) [
          | inl x ↦ inr (inl (found_by env (keyword_seat seat before n).want e m.first law.first x
              (λ o. within_found env (keyword_seat seat before n).want e o m.first law.first x)))
          | inr y ↦ inr (inr (keywords_found env seat (n.text ∷ before) rest m.rest law.rest y))
        ]

  pub said_found : (env : Env) (want : Option Tree) (e : Expr) (m : Labels e) → Lawful ctx declared env want e m
      → IsPart part (parts_in true e) → Finds e m f
  said_found env want e m law h = found_by env want e m law h (λ k. within_found env want e k m law h)
