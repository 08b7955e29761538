-- The E02 and E03 of labels: that a name means nothing, or is named too early, and that an initializer calls something
-- other than a name. Labels have them only for parts of an expression, and for each part that is judged.
use Rattle.std.proofs.Common.{◌≡◌, ℕ, List, [], ◌∷◌, ◌++◌, refl, sym, ap, ◌∙◌, subst, inl, inr, arith, Contains}
use Rattle.std.specs.Prelude.{◌⊎◌, Bool as Test, true, false, if◌then◌else◌, nat_lt, Option, Some, None, slice_get}
use Rattle.std.proofs.lemmas.Option.{same_Some}
use Rattle.pc_source.specs.declared.place.Place.{Place}
use Rattle.pc_tree.specs.declared.code.Code.{Code}
use Rattle.pc_tree.specs.declared.code.Code.TheVariants.{E02, E03, E14, E20}
use Rattle.pc_tree.specs.declared.code.Finding.{Finding}
use Rattle.pc_tree.specs.Code.{finding}
use Rattle.pc_tree.specs.Depth.{place_of}
use Rattle.pc_tree.specs.Tree.{Name, Expr, name, number, text, truth, nothing, tuple, list, dict, negative, negation}
use Rattle.pc_tree.specs.Tree.{binary, compare, is_none, is_not_none, conjunction, disjunction, attribute, index, call}
use Rattle.pc_tree.proofs.Among.{none_among, among_first}
use Rattle.pc_scope.specs.declared.resolution.Builtin.{Builtin}
use Rattle.pc_scope.specs.declared.resolution.Builtin.TheVariants as builtin
use Rattle.pc_scope.specs.declared.resolution.NameMeaning.{NameMeaning}
use Rattle.pc_scope.specs.declared.resolution.NameMeaning.TheVariants as meaning
use Rattle.pc_scope.specs.Expressions.{is_name}
use Rattle.pc_types.specs.Tree.{Tree}
use Rattle.pc_types.specs.Below.{Bases}
use Rattle.pc_flow.specs.Environment.{Env, current}
use Rattle.pc_flow.specs.Narrowing.{Tested}
use Rattle.pc_rules.specs.Operations.{Label, in_error}
use Rattle.pc_rules.specs.Context.{Context, Flows, static, dynamic, wrong, FlowUnless, FlowsInto, is_early, local_label}
use Rattle.pc_rules.specs.Context.{constant_label, name_label}
use Rattle.pc_rules.specs.Calls.{GivenArguments, CallRule, length_rule, test_rule, function_offer, signature_offer}
use Rattle.pc_rules.specs.Calls.{class_signature, own_callee, builtin_callee, good_callee, value_callee, name_callee}
use Rattle.pc_rules.specs.Calls.{fails_at_call, is_one, is_two, second_code}
use Rattle.pc_rules.specs.Labels.{FlowLabels, Labels, whole_label, with_label, is_of_scopes, IsFoundAt, IsFlowAt}
use Rattle.pc_rules.specs.Labels.{IsCodeAt, Finds}
use Rattle.pc_rules.proofs.Silent.{Silent}

-- ---- codes at a place

both : {b : Test} → b ≡ true → b ≡ false → ⊥
both e e' = absurd (grind (arith, e, e'))

silent_code : (cs : List Code) (c : Code) → Silent cs → Contains cs c → is_of_scopes c ≡ false
silent_code [] c h among = absurd (none_among c among)
silent_code (d ∷ cs) c h among = elim (among_first d cs c among) [
  | inl e ↦ subst (λ x. is_of_scopes x ≡ false) e h.0
  | inr r ↦ silent_code cs c h.1 r
]

-- where nothing is said of scopes, what is found is of another code
pub not_of_scopes : (p : Place) (cs : List Code) (f : Finding) → Silent cs → is_of_scopes f.code ≡ true
    → IsFoundAt p cs f → ⊥
not_of_scopes p cs f h s found = both s (ap (λ x. is_of_scopes x.code) found.is
    ∙ silent_code cs found.code h found.among)

pub only_at : (p : Place) (c : Code) (f : Finding) → IsFoundAt p (c ∷ []) f → f ≡ finding p c
only_at p c f found = elim (among_first c [] found.code found.among) [
  | inl e ↦ found.is ∙ ap (finding p) (sym e)
  | inr r ↦ absurd (none_among found.code r)
]

pub found_at : (p : Place) (c : Code) (f : Finding) → f ≡ finding p c → IsFoundAt p (c ∷ []) f
found_at p c f is = record { code = c; among = (0, omega arith, refl); is = is }

-- the code of a flow is not of scopes
flow_silent : {bases : Bases} {s t : Tree} {c : Option Code} → Flows bases s t c → (x : Code) → c ≡ Some x
    → is_of_scopes x ≡ false
flow_silent (static a) x e = absurd (grind (arith, e))
flow_silent (dynamic n a) x e = subst (λ y. is_of_scopes y ≡ false) (same_Some _ _ e) refl
flow_silent (wrong n) x e = subst (λ y. is_of_scopes y ≡ false) (same_Some _ _ e) refl

unless_silent : (early : Test) (bases : Bases) (s t : Tree) (c : Option Code) → FlowUnless early bases s t c
    → (x : Code) → c ≡ Some x → is_of_scopes x ≡ false
unless_silent true bases s t c h x e = absurd (grind (arith, h, e))
unless_silent false bases s t c h x e = flow_silent h x e

-- no finding at a flow has a code of scope analysis
pub no_flow_of_scopes : (bases : Bases) (m : Label) (ts : List Tree) (flows : FlowLabels) (p : Place) (f : Finding)
    → FlowsInto bases m ts flows → is_of_scopes f.code ≡ true → IsFlowAt p flows f → ⊥
no_flow_of_scopes bases m ts [] p f law s found = none_among found.flow found.among
no_flow_of_scopes bases m [] (x ∷ xs) p f law s found = law
no_flow_of_scopes bases m (t ∷ ts) (x ∷ xs) p f law s found = elim (among_first x xs found.flow found.among) [
  | inl e ↦ both s (ap (λ y. is_of_scopes y.code) found.is ∙ unless_silent (is_early m.codes) bases m.type t x.code
      law.0.code found.code (ap (λ y. y.code) e ∙ found.found))
  | inr r ↦ no_flow_of_scopes bases m ts xs p f law.1 s (record {
    flow = found.flow;
    among = r;
    code = found.code;
    found = found.found;
    is = found.is;
  })
]

pub second_silent : (o : Option Tested) (early : Test) (p : Place) (f : Finding) → is_of_scopes f.code ≡ true
    → IsCodeAt p (second_code o early) f → ⊥
second_silent (Some test) early p f s h = h
second_silent None true p f s h = h
second_silent None false p f s h = both s (ap (λ x. is_of_scopes x.code) h)

-- ---- the parts of an expression, and what they say

-- an expression is one of these
abbrev pub IsPart : Expr → List Expr → Type 0
IsPart e [] = ⊥
IsPart e (x ∷ xs) = (x ≡ e) ⊎ IsPart e xs

pub part_left : (e : Expr) (xs ys : List Expr) → IsPart e xs → IsPart e (xs ++ ys)
part_left e [] ys h = absurd h
part_left e (x ∷ xs) ys h = elim h [ inl a ↦ inl a | inr b ↦ inr (part_left e xs ys b) ]

pub part_right : (e : Expr) (xs ys : List Expr) → IsPart e ys → IsPart e (xs ++ ys)
part_right e [] ys h = h
part_right e (x ∷ xs) ys h = inr (part_right e xs ys h)

pub part_either : (e : Expr) (xs ys : List Expr) → IsPart e (xs ++ ys) → IsPart e xs ⊎ IsPart e ys
part_either e [] ys h = inr h
part_either e (x ∷ xs) ys h = elim h [
  | inl a ↦ inl (inl a)
  | inr b ↦ elim (part_either e xs ys b)
      [ inl c ↦ inl (inr c) | inr d ↦ inr d ]
]

-- an expression in this context may not name this meaning yet
abbrev pub IsEarlyHere : Context → NameMeaning → Type 0
IsEarlyHere ctx (meaning.Func i) = ctx.in_body ≡ false
IsEarlyHere ctx (meaning.Const i) = slice_get ctx.constants i ≡ None
IsEarlyHere ctx (meaning.Class c) = nat_lt c ctx.known ≡ false
IsEarlyHere ctx _ = ⊥

-- a name means nothing, or what may not be named here
abbrev pub NameSays : Context → Name → Finding → Type 0
NameSays ctx n f = ((ctx.resolve n.text ≡ meaning.None) × (f ≡ finding n.place E02))
    ⊎ (IsEarlyHere ctx (ctx.resolve n.text) × (f ≡ finding n.place E03))

-- in an initializer a callee is no name
abbrev pub CalleeSays : Context → Expr → Finding → Type 0
CalleeSays ctx c f = (is_name c ≡ false) × (ctx.in_body ≡ false) × (f ≡ finding (place_of c) E03)

-- a part of an expression says this finding of scopes
abbrev pub PartSays : Context → Expr → Finding → Type 0
PartSays ctx (name n) f = NameSays ctx n f
PartSays ctx (call p c args kws) f = CalleeSays ctx c f
PartSays ctx _ f = ⊥

-- one of the parts says it
pub record Said (ctx : Context) (parts : List Expr) (f : Finding) : Type 0 where
  pub part : Expr
  pub among : IsPart part parts
  pub says : PartSays ctx part f

pub said_left : (ctx : Context) (xs ys : List Expr) (f : Finding) → Said ctx xs f → Said ctx (xs ++ ys) f
said_left ctx xs ys f h = record { part = h.part; among = part_left h.part xs ys h.among; says = h.says }

pub said_right : (ctx : Context) (xs ys : List Expr) (f : Finding) → Said ctx ys f → Said ctx (xs ++ ys) f
said_right ctx xs ys f h = record { part = h.part; among = part_right h.part xs ys h.among; says = h.says }

pub said_behind : (ctx : Context) (x : Expr) (xs : List Expr) (f : Finding) → Said ctx xs f → Said ctx (x ∷ xs) f
said_behind ctx x xs f h = record { part = h.part; among = inr h.among; says = h.says }

-- ---- labels of a node itself

-- the codes of an expression's own label are found at its place
pub found_here : (e : Expr) (m : Labels e) (f : Finding) → IsFoundAt (place_of e) (whole_label e m).codes f
    → Finds e m f
found_here (name n) m f h = h
found_here (number p d) m f h = h
found_here (text p d) m f h = h
found_here (truth p d) m f h = h
found_here (nothing p) m f h = h
found_here (tuple p es) m f h = inl h
found_here (list p es) m f h = inl h
found_here (dict p es) m f h = inl h
found_here (negative p e) m f h = inl h
found_here (negation p e) m f h = inl h
found_here (binary p o a b) m f h = inl h
found_here (compare p o a b) m f h = inl h
found_here (is_none p e) m f h = inl h
found_here (is_not_none p e) m f h = inl h
found_here (conjunction p a b) m f h = inl h
found_here (disjunction p a b) m f h = inl h
found_here (attribute p e n) m f h = inl h
found_here (index p a b) m f h = inl h
found_here (call p c args kws) m f h = inl h

-- the label that was put in place of its own
pub own_label : (e : Expr) (m : Labels e) (here : Label) → whole_label e (with_label e m here) ≡ here
own_label (name n) m here = refl
own_label (number p d) m here = refl
own_label (text p d) m here = refl
own_label (truth p d) m here = refl
own_label (nothing p) m here = refl
own_label (tuple p es) m here = refl
own_label (list p es) m here = refl
own_label (dict p es) m here = refl
own_label (negative p e) m here = refl
own_label (negation p e) m here = refl
own_label (binary p o a b) m here = refl
own_label (compare p o a b) m here = refl
own_label (is_none p e) m here = refl
own_label (is_not_none p e) m here = refl
own_label (conjunction p a b) m here = refl
own_label (disjunction p a b) m here = refl
own_label (attribute p e n) m here = refl
own_label (index p a b) m here = refl
own_label (call p c args kws) m here = refl

-- under labels with another one for the expression itself: that one, or what is found under the others
pub with_found : (e : Expr) (m : Labels e) (here : Label) (f : Finding) → Finds e (with_label e m here) f
    → IsFoundAt (place_of e) here.codes f ⊎ Finds e m f
with_found (name n) m here f h = inl h
with_found (number p d) m here f h = inl h
with_found (text p d) m here f h = inl h
with_found (truth p d) m here f h = inl h
with_found (nothing p) m here f h = inl h
with_found (tuple p es) m here f h = elim h [ inl a ↦ inl a | inr b ↦ inr (inr b) ]
with_found (list p es) m here f h = elim h [ inl a ↦ inl a | inr b ↦ inr (inr b) ]
with_found (dict p es) m here f h = elim h [ inl a ↦ inl a | inr b ↦ inr (inr b) ]
with_found (negative p e) m here f h = elim h [ inl a ↦ inl a | inr b ↦ inr (inr b) ]
with_found (negation p e) m here f h = elim h [ inl a ↦ inl a | inr b ↦ inr (inr b) ]
with_found (binary p o l r) m here f h = elim h [ inl a ↦ inl a | inr b ↦ inr (inr b) ]
with_found (compare p o l r) m here f h = elim h [ inl a ↦ inl a | inr b ↦ inr (inr b) ]
with_found (is_none p e) m here f h = elim h [ inl a ↦ inl a | inr b ↦ inr (inr b) ]
with_found (is_not_none p e) m here f h = elim h [ inl a ↦ inl a | inr b ↦ inr (inr b) ]
with_found (conjunction p l r) m here f h = elim h [ inl a ↦ inl a | inr b ↦ inr (inr b) ]
with_found (disjunction p l r) m here f h = elim h [ inl a ↦ inl a | inr b ↦ inr (inr b) ]
with_found (attribute p e n) m here f h = elim h [ inl a ↦ inl a | inr b ↦ inr (inr b) ]
with_found (index p l r) m here f h = elim h [ inl a ↦ inl a | inr b ↦ inr (inr b) ]
with_found (call p c args kws) m here f h = elim h [ inl a ↦ inl a | inr b ↦ inr (inr b) ]

-- ---- names and callees

module _ (ctx : Context) where
  -- a finding of scopes at a name's label is one that the name says
  pub name_says : (env : Env) (n : Name) (f : Finding) → is_of_scopes f.code ≡ true
      → IsFoundAt n.place (name_label ctx env (ctx.resolve n.text)).codes f → NameSays ctx n f
  name_says env n f s found = go (ctx.resolve n.text) refl found
    where
      early : (r : NameMeaning) → ctx.resolve n.text ≡ r → IsEarlyHere ctx r → IsFoundAt n.place (E03 ∷ []) f → NameSays ctx n f
      early r is h found = inr (subst (IsEarlyHere ctx) (sym is) h, only_at n.place E03 f found)

      of_local : (o : Option Tree) → IsFoundAt n.place (local_label o).codes f → NameSays ctx n f
      of_local None found = absurd (not_of_scopes n.place _ f (refl, tt) s found)
      of_local (Some t) found = absurd (not_of_scopes n.place [] f tt s found)

      of_constant : (i : ℕ) (o : Option Tree) → ctx.resolve n.text ≡ meaning.Const i → slice_get ctx.constants i ≡ o
          → IsFoundAt n.place (constant_label o).codes f → NameSays ctx n f
      of_constant i None is e found = early (meaning.Const i) is e found
      of_constant i (Some t) is e found = absurd (not_of_scopes n.place [] f tt s found)

      of_function : (i : ℕ) (b : Test) → ctx.resolve n.text ≡ meaning.Func i → ctx.in_body ≡ b
          → IsFoundAt n.place (if b then in_error E20 else in_error E03).codes f → NameSays ctx n f
      of_function i true is e found = absurd (not_of_scopes n.place _ f (refl, tt) s found)
      of_function i false is e found = early (meaning.Func i) is e found

      of_class : (c : ℕ) (b : Test) → ctx.resolve n.text ≡ meaning.Class c → nat_lt c ctx.known ≡ b
          → IsFoundAt n.place (if b then in_error E20 else in_error E03).codes f → NameSays ctx n f
      of_class c true is e found = absurd (not_of_scopes n.place _ f (refl, tt) s found)
      of_class c false is e found = early (meaning.Class c) is e found

      go : (r : NameMeaning) → ctx.resolve n.text ≡ r → IsFoundAt n.place (name_label ctx env r).codes f → NameSays ctx n f
      go (meaning.Local x) is found = of_local (current env x) found
      go (meaning.Const i) is found = of_constant i (slice_get ctx.constants i) is refl found
      go (meaning.Func i) is found = of_function i ctx.in_body is refl found
      go (meaning.Class c) is found = of_class c (nat_lt c ctx.known) is refl found
      go (meaning.Builtin b) is found = absurd (not_of_scopes n.place _ f (refl, tt) s found)
      go meaning.None is found = inl (is, only_at n.place E02 f found)

  -- and as a callee
  pub callee_name_says : (env : Env) (g : GivenArguments) (n : Name) (f : Finding) → is_of_scopes f.code ≡ true
      → IsFoundAt n.place (name_callee ctx env g (ctx.resolve n.text)).label.codes f → NameSays ctx n f
  callee_name_says env g n f s found = go (ctx.resolve n.text) refl found
    where
      early : (r : NameMeaning) → ctx.resolve n.text ≡ r → IsEarlyHere ctx r → IsFoundAt n.place (E03 ∷ []) f → NameSays ctx n f
      early r is h found = inr (subst (IsEarlyHere ctx) (sym is) h, only_at n.place E03 f found)

      as_value : (r : NameMeaning) → ctx.resolve n.text ≡ r → IsFoundAt n.place (name_label ctx env r).codes f
          → NameSays ctx n f
      as_value r is found = name_says env n f s (subst (λ x. IsFoundAt n.place (name_label ctx env x).codes f) (sym is)
          found)

      of_function : (i : ℕ) (b : Test) → ctx.resolve n.text ≡ meaning.Func i → ctx.in_body ≡ b
          → IsFoundAt n.place (if b then good_callee (function_offer g (slice_get ctx.functions i) ∷ [])
          else value_callee (in_error E03)).label.codes f → NameSays ctx n f
      of_function i true is e found = absurd (not_of_scopes n.place [] f tt s found)
      of_function i false is e found = early (meaning.Func i) is e found

      of_class : (c : ℕ) (b : Test) → ctx.resolve n.text ≡ meaning.Class c → nat_lt c ctx.known ≡ b
          → IsFoundAt n.place (if b then good_callee (signature_offer g (class_signature ctx.classes c) ∷ [])
          else value_callee (in_error E03)).label.codes f → NameSays ctx n f
      of_class c true is e found = absurd (not_of_scopes n.place [] f tt s found)
      of_class c false is e found = early (meaning.Class c) is e found

      own_or_error : (rule : CallRule) (b : Test) → IsFoundAt n.place
          (if b then own_callee rule else good_callee (fails_at_call E14 ∷ [])).label.codes f → ⊥
      own_or_error rule true found = not_of_scopes n.place [] f tt s found
      own_or_error rule false found = not_of_scopes n.place [] f tt s found

      of_builtin : (b : Builtin) → IsFoundAt n.place (builtin_callee g b).label.codes f → ⊥
      of_builtin builtin.Print found = not_of_scopes n.place [] f tt s found
      of_builtin builtin.Str found = not_of_scopes n.place [] f tt s found
      of_builtin builtin.Len found = own_or_error length_rule (is_one g) found
      of_builtin builtin.IsInstance found = own_or_error test_rule (is_two g) found
      of_builtin builtin.Range found = not_of_scopes n.place [] f tt s found
      of_builtin _ found = not_of_scopes n.place _ f (refl, tt) s found

      go : (r : NameMeaning) → ctx.resolve n.text ≡ r → IsFoundAt n.place (name_callee ctx env g r).label.codes f
          → NameSays ctx n f
      go (meaning.Local x) is found = as_value (meaning.Local x) is found
      go (meaning.Const i) is found = as_value (meaning.Const i) is found
      go (meaning.Func i) is found = of_function i ctx.in_body is refl found
      go (meaning.Class c) is found = of_class c (nat_lt c ctx.known) is refl found
      go (meaning.Builtin b) is found = absurd (of_builtin b found)
      go meaning.None is found = as_value meaning.None is found

  -- a finding that a name says is one at its label
  pub name_said : (env : Env) (n : Name) (f : Finding) → NameSays ctx n f
      → IsFoundAt n.place (name_label ctx env (ctx.resolve n.text)).codes f
  name_said env n f h = elim h [
    | inl a ↦ subst (λ r. IsFoundAt n.place (name_label ctx env r).codes f) (sym a.0) (found_at n.place E02 f a.1)
    | inr b ↦ go (ctx.resolve n.text) b.0 (found_at n.place E03 f b.1)
  ]
    where
      go : (r : NameMeaning) → IsEarlyHere ctx r → IsFoundAt n.place (E03 ∷ []) f
          → IsFoundAt n.place (name_label ctx env r).codes f
      go (meaning.Func i) e h = subst (λ b. IsFoundAt n.place (if b then in_error E20 else in_error E03).codes f) (sym e) h
      go (meaning.Const i) e h = subst (λ o. IsFoundAt n.place (constant_label o).codes f) (sym e) h
      go (meaning.Class c) e h = subst (λ b. IsFoundAt n.place (if b then in_error E20 else in_error E03).codes f) (sym e) h
      go (meaning.Local x) e h = absurd e
      go (meaning.Builtin x) e h = absurd e
      go meaning.None e h = absurd e

  pub callee_name_said : (env : Env) (g : GivenArguments) (n : Name) (f : Finding) → NameSays ctx n f
      → IsFoundAt n.place (name_callee ctx env g (ctx.resolve n.text)).label.codes f
  callee_name_said env g n f h = elim h [
    | inl a ↦ subst (λ r. IsFoundAt n.place (name_callee ctx env g r).label.codes f) (sym a.0)
        (found_at n.place E02 f a.1)
    | inr b ↦ go (ctx.resolve n.text) b.0 (found_at n.place E03 f b.1)
  ]
    where
      go : (r : NameMeaning) → IsEarlyHere ctx r → IsFoundAt n.place (E03 ∷ []) f
          → IsFoundAt n.place (name_callee ctx env g r).label.codes f
      go (meaning.Func i) e h =
          subst (λ b. IsFoundAt n.place (if b then good_callee (function_offer g (slice_get ctx.functions i) ∷ [])
          else value_callee (in_error E03)).label.codes f) (sym e) h
      go (meaning.Const i) e h = subst (λ o. IsFoundAt n.place (constant_label o).codes f) (sym e) h
      go (meaning.Class c) e h =
          subst (λ b. IsFoundAt n.place (if b then good_callee (signature_offer g (class_signature ctx.classes c) ∷ [])
          else value_callee (in_error E03)).label.codes f) (sym e) h
      go (meaning.Local x) e h = absurd e
      go (meaning.Builtin x) e h = absurd e
      go meaning.None e h = absurd e
