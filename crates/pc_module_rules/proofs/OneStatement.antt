-- Statements have at most one lawful labelling: declared types become known in text order, each at its first binding.
use Rattle.std.proofs.Common.{◌≡◌, ℕ, zero, suc, List, [], ◌∷◌, ◌++◌, map, refl, sym, ap, ◌∙◌, subst, inl, inr, arith}
use Rattle.std.specs.Prelude.{Bool as Test, true, false, not, Option, Some, None, bytes_eq, option_to_list}
use Rattle.std.proofs.lemmas.Slice.Eq.{bytes_eq-Decides}
use Rattle.std.proofs.lemmas.Bool.{or_cases, or_left, or_right}
use Rattle.pc_tree.specs.Tree.{Name, Expr, Ann, name, call, Exprs, Keywords, Target, to_name, to_attribute, to_index}
use Rattle.pc_tree.specs.Tree.{Stmt, Stmts, Branches, pass, breaks, continues, returns, asserts, annotated, assigns}
use Rattle.pc_tree.specs.Tree.{evaluates, while_loop, for_loop, conditional, no_stmts, more_stmts, no_branches}
use Rattle.pc_tree.specs.Tree.{more_branches, Module}
use Rattle.pc_tree.specs.Stopping.{bound_by, bound_by_stmt, bound_by_branches}
use Rattle.pc_source.specs.declared.place.Place.{Place}
use Rattle.pc_scope.specs.declared.resolution.NameMeaning.{NameMeaning}
use Rattle.pc_scope.specs.declared.resolution.NameMeaning.TheVariants as meaning
use Rattle.pc_scope.specs.Bindings.{texts}
use Rattle.pc_scope.specs.Resolution.{is_one_of}
use Rattle.pc_scope.specs.Reach.{completes}
use Rattle.pc_types.specs.Tree.{Tree, Any, NoneType}
use Rattle.pc_types.specs.Shape.{members}
use Rattle.pc_annotations.specs.Annotations.{read_ann}
use Rattle.pc_flow.specs.Environment.{Env, declared_type, assign, assigned_type, join_envs_onto, join_ways}
use Rattle.pc_flow.specs.Narrowing.{narrow}
use Rattle.pc_rules.specs.Operations.{Label, clean, offers_label, iterate_member, store_codes, store_index_types}
use Rattle.pc_rules.specs.Operations.{stored_types, only_type}
use Rattle.pc_rules.specs.Context.{Context, FlowsInto}
use Rattle.pc_rules.specs.Calls.{arguments_given, positional_seat, named_seat, is_range, range_offers, range_item}
use Rattle.pc_rules.specs.Labels.{FlowLabels, Labels, whole_label, type_of, with_label}
use Rattle.pc_rules.specs.Lawful.{Lawful}
use Rattle.pc_rules.proofs.Same.{SameWhere, Alike, SameWhereAll, all_joins_alike, heads_alike, narrow_alike}
use Rattle.pc_rules.proofs.One.{into_one, one, items_one, keywords_one}
use Rattle.pc_module_rules.specs.StatementLabels.{OptionLabels, TargetLabels, StmtLabels, SuiteLabels, BranchesLabels}
use Rattle.pc_module_rules.specs.StatementLabels.{Behind, Following, BehindRule, behind_list, breaks_in}
use Rattle.pc_module_rules.specs.StatementLabels.{breaks_in_suite, breaks_in_branches, ways_in}
use Rattle.pc_module_rules.specs.Statements.{only_code, NamesBound, is_first, binds_number, LawfulRange, LawfulValues}
use Rattle.pc_module_rules.specs.Statements.{RangeOrValues, LawfulIterable, DeclaredAt, known_type, LawfulBinding}
use Rattle.pc_module_rules.specs.Statements.{LawfulDeclaration, LawfulTarget, UndeclaredName, AreUndeclared}
use Rattle.pc_module_rules.specs.Statements.{attribute_offers, index_offers, LawfulStore, annotation_at}
use Rattle.pc_module_rules.specs.Statements.{LawfulAnnotated, LawfulReturn, LawfulOption, LawfulStmt, LawfulSuite}
use Rattle.pc_module_rules.specs.Statements.{LawfulBranches}

-- ---- names among names

abbrev pub IsAmong : List ℕ → List (List ℕ) → Type 0
IsAmong word xs = is_one_of word xs ≡ true

among_mono : (word : List ℕ) (xs ys zs : List (List ℕ)) → (IsAmong word ys → IsAmong word zs) → IsAmong word (xs ++ ys)
    → IsAmong word (xs ++ zs)
among_mono word [] ys zs f h = f h
among_mono word (x ∷ xs) ys zs f h = elim (or_cases (bytes_eq word x) (is_one_of word (xs ++ ys)) h) [
  | inl e ↦ or_left (bytes_eq word x) (is_one_of word (xs ++ zs)) e
  | inr r ↦ or_right (bytes_eq word x) (is_one_of word (xs ++ zs)) (among_mono word xs ys zs f r)
]

pub among_right : (word : List ℕ) (xs ys : List (List ℕ)) → IsAmong word ys → IsAmong word (xs ++ ys)
among_right word [] ys h = h
among_right word (x ∷ xs) ys h = or_right (bytes_eq word x) (is_one_of word (xs ++ ys)) (among_right word xs ys h)

-- names of both, in either order
pub among_both : (word : List ℕ) (a b : List Name) (seen : List (List ℕ)) → IsAmong word (texts (a ++ b) ++ seen)
    → IsAmong word (texts b ++ (texts a ++ seen))
among_both word [] b seen h = h
among_both word (n ∷ a) b seen h = elim (or_cases (bytes_eq word n.text) (is_one_of word (texts (a ++ b) ++ seen)) h) [
  | inl e ↦ among_right word (texts b) (n.text ∷ (texts a ++ seen))
      (or_left (bytes_eq word n.text) (is_one_of word (texts a ++ seen)) e)
  | inr r ↦ among_mono word (texts b) (texts a ++ seen) (n.text ∷ (texts a ++ seen))
      (or_right (bytes_eq word n.text) (is_one_of word (texts a ++ seen))) (among_both word a b seen r)
]

pub some_inj : {A : Type 0} {x y : A} → Some x ≡ Some y → x ≡ y
some_inj e = grind arith

pub local_inj : {x y : ℕ} → meaning.Local x ≡ meaning.Local y → x ≡ y
local_inj e = grind arith

pub not_false : (b : Test) → not b ≡ false → b ≡ true
not_false true e = refl
not_false false e = absurd (grind arith)

pub assign_kept : (ds ds' : List Tree) (env : Env) (x : ℕ) (u : Tree) → SameWhere ds ds' env
    → declared_type ds x ≡ declared_type ds' x → SameWhere ds ds' (assign env x u)
assign_kept [] [] [] x u h e = h
assign_kept (d ∷ ds) (d' ∷ ds') (s ∷ env) zero u h e = (e, h.1)
assign_kept (d ∷ ds) (d' ∷ ds') (s ∷ env) (suc x) u h e = (h.0, assign_kept ds ds' env x u h.1 e)
assign_kept [] [] (s ∷ env) x u h e = absurd h
assign_kept [] (d' ∷ ds') env x u h e = absurd h
assign_kept (d ∷ ds) [] env x u h e = absurd h
assign_kept (d ∷ ds) (d' ∷ ds') [] x u h e = absurd h

module _ (m : Module) (ctx : Context) (ds ds' : List Tree) where
  -- the declared types of the locals seen so far are the same
  abbrev pub SameSeen : NamesBound → Type 0
  SameSeen seen = (word : List ℕ) (x : ℕ) → IsAmong word seen → ctx.resolve word ≡ meaning.Local x
      → declared_type ds x ≡ declared_type ds' x

  abbrev SameName : Name → Type 0
  SameName n = (x : ℕ) → ctx.resolve n.text ≡ meaning.Local x → declared_type ds x ≡ declared_type ds' x

  pub seen_more : (seen : NamesBound) (n : Name) → SameSeen seen → SameName n → SameSeen (n.text ∷ seen)
  seen_more seen n h s word x among r = elim (or_cases (bytes_eq word n.text) (is_one_of word seen) among) [
    | inl e ↦ s x (ap ctx.resolve (sym ((bytes_eq-Decides word n.text).0 e)) ∙ r)
    | inr k ↦ h word x k r
  ]

  pub seen_both : (a b : List Name) (seen : NamesBound) → SameSeen (texts b ++ (texts a ++ seen))
      → SameSeen (texts (a ++ b) ++ seen)
  seen_both a b seen h word x among r = h word x (among_both word a b seen among) r

  abbrev OutKept : Option Env → Type 0
  OutKept None = Unit {0}
  OutKept (Some env) = SameWhere ds ds' env

  abbrev AllKept : List Env → Type 0
  AllKept es = SameWhereAll ctx.bases ds ds' es

  all_kept_both : (a b : List Env) → AllKept a → AllKept b → AllKept (a ++ b)
  all_kept_both [] b h k = k
  all_kept_both (e ∷ a) b h k = (h.0, all_kept_both a b h.1 k)

  -- ---- a name bound

  record LocalOne (x : ℕ) {A : Type 0} (mk mk' : A) : Type 0 where
    labels : mk ≡ mk'
    same : declared_type ds x ≡ declared_type ds' x

  local_one : (env : Env) → SameWhere ds ds' env → (x : ℕ) (b : Test)
      → (b ≡ false → declared_type ds x ≡ declared_type ds' x) → (a : Option Tree) (e : Expr) (mk mk' : Labels e)
      → Lawful ctx ds env (known_type m ctx ds b x a) e mk → DeclaredAt m ctx ds b x a (type_of e mk)
      → Lawful ctx ds' env (known_type m ctx ds' b x a) e mk' → DeclaredAt m ctx ds' b x a (type_of e mk')
      → LocalOne x mk mk'
  local_one env k x false s a e mk mk' h d h' d' = record {
    labels = one ctx ds ds' env k (Some (declared_type ds x)) e
        mk mk' h (subst (λ t. Lawful ctx ds' env (Some t) e mk') (sym (s refl)) h');
    same = s refl;
  }
  local_one env k x true s (Some t) e mk mk' h d h' d' = record {
    labels =
        one ctx ds ds' env k (Some (declared_type ds x)) e mk mk' h
        (subst (λ t. Lawful ctx ds' env (Some t) e mk') (d' ∙ sym d) h');
    same = d ∙ sym d';
  }
  local_one env k x true s None e mk mk' h d h' d' =
      let q = one ctx ds ds' env k None e mk mk' h h' in
      record { labels = q; same = d ∙ ap (type_of e) q ∙ sym d' }

  pub record BindingOne {A : Type 0} (mk mk' : A) (fl fl' : FlowLabels) (after after' : Env) (n : Name) : Type 0 where
    pub labels : mk ≡ mk'
    pub flows : fl ≡ fl'
    pub afters : after ≡ after'
    pub kept : SameWhere ds ds' after
    pub same : SameName n

  first_seen : (seen : NamesBound) (n : Name) (x : ℕ) → SameSeen seen → ctx.resolve n.text ≡ meaning.Local x
      → is_first seen n ≡ false → declared_type ds x ≡ declared_type ds' x
  first_seen seen n x h r e = h n.text x (not_false (is_one_of n.text seen) e) r

  -- a name that means no local binds nothing
  plain_one : (env : Env) → SameWhere ds ds' env → (n : Name) → ((x : ℕ) → ctx.resolve n.text ≡ meaning.Local x → ⊥)
      → (e : Expr) (mk mk' : Labels e) (fl fl' : FlowLabels) (after after' : Env) → Lawful ctx ds env None e mk
      → fl ≡ [] → after ≡ env → Lawful ctx ds' env None e mk' → fl' ≡ [] → after' ≡ env
      → BindingOne mk mk' fl fl' after after' n
  plain_one env k n r e mk mk' fl fl' after after' h f a h' f' a' =
      record {
        labels = one ctx ds ds' env k None e mk mk' h h';
        flows = f ∙ sym f';
        afters = a ∙ sym a';
        kept =
            subst (SameWhere ds ds') (sym a) k;
        same = λ x i. absurd (r x i);
      }

  binding_one : (seen : NamesBound) (env : Env) → SameSeen seen → SameWhere ds ds' env → (n : Name) (r : NameMeaning)
      → ctx.resolve n.text ≡ r → (a : Option Tree) (e : Expr) (mk mk' : Labels e) (fl fl' : FlowLabels)
      (after after' : Env) → LawfulBinding m ctx ds env seen n r a e mk fl after
      → LawfulBinding m ctx ds' env seen n r a e mk' fl' after' → BindingOne mk mk' fl fl' after after' n
  binding_one seen env s k n (meaning.Local x) i a e mk mk' fl fl' after after' h h' =
      let q = local_one env k x (is_first seen n) (first_seen seen n x s i) a e mk mk' h.value h.at_first h'.value
      h'.at_first in
      let f : fl ≡ fl' = into_one ctx.bases (whole_label e mk') (declared_type ds' x ∷ []) fl fl'
      (subst (λ y. FlowsInto ctx.bases (whole_label e y) (declared_type ds' x ∷ []) fl) q.labels
      (subst (λ t. FlowsInto ctx.bases (whole_label e mk) (t ∷ []) fl) q.same h.flow)) h'.flow in
      record {
        labels = q.labels;
        flows = f;
        afters = h.after_is ∙ (λ j. assign env x (assigned_type (q.same j) (type_of e (q.labels j)) (only_code (f j))))
            ∙ sym h'.after_is;
        kept = subst (SameWhere ds ds') (sym h.after_is) (assign_kept ds ds' env x
            (assigned_type (declared_type ds x) (type_of e mk) (only_code fl)) k q.same);
        same = λ y j. let is : x ≡ y = local_inj (sym i ∙ j) in subst (λ z. declared_type ds z ≡ declared_type ds' z) is
            q.same;
      }
  binding_one seen env s k n (meaning.Const c) i a e mk mk' fl fl' after after' h h' =
      plain_one env k n (λ x j. absurd (grind (arith, i, j))) e mk mk' fl fl' after after' h.value h.flow h.after_is
      h'.value h'.flow h'.after_is
  binding_one seen env s k n (meaning.Func c) i a e mk mk' fl fl' after after' h h' =
      plain_one env k n (λ x j. absurd (grind (arith, i, j))) e mk mk' fl fl' after after' h.value h.flow h.after_is
      h'.value h'.flow h'.after_is
  binding_one seen env s k n (meaning.Class c) i a e mk mk' fl fl' after after' h h' =
      plain_one env k n (λ x j. absurd (grind (arith, i, j))) e mk mk' fl fl' after after' h.value h.flow h.after_is
      h'.value h'.flow h'.after_is
  binding_one seen env s k n (meaning.Builtin c) i a e mk mk' fl fl' after after' h h' =
      plain_one env k n (λ x j. absurd (grind (arith, i, j))) e mk mk' fl fl' after after' h.value h.flow h.after_is
      h'.value h'.flow h'.after_is
  binding_one seen env s k n meaning.None i a e mk mk' fl fl' after after' h h' =
      plain_one env k n (λ x j. absurd (grind (arith, i, j))) e mk mk' fl fl' after after' h.value h.flow h.after_is
      h'.value h'.flow h'.after_is

  -- a name annotated alone
  declared_one : (b : Test) (x : ℕ) (t : Tree) → (b ≡ false → declared_type ds x ≡ declared_type ds' x)
      → DeclaredAt m ctx ds b x (Some t) t → DeclaredAt m ctx ds' b x (Some t) t
      → declared_type ds x ≡ declared_type ds' x
  declared_one false x t s d d' = s refl
  declared_one true x t s d d' = d ∙ sym d'

  declaration_one : (seen : NamesBound) → SameSeen seen → (n : Name) (r : NameMeaning) → ctx.resolve n.text ≡ r → (t : Tree)
      → LawfulDeclaration m ctx ds seen n r t → LawfulDeclaration m ctx ds' seen n r t → SameName n
  declaration_one seen s n (meaning.Local x) i t h h' y j =
      let is : x ≡ y = local_inj (sym i ∙ j) in
      subst (λ z. declared_type ds z ≡ declared_type ds' z) is (declared_one (is_first seen n) x t
      (first_seen seen n x s i) h h')
  declaration_one seen s n (meaning.Const c) i t h h' y j = absurd (grind (arith, i, j))
  declaration_one seen s n (meaning.Func c) i t h h' y j = absurd (grind (arith, i, j))
  declaration_one seen s n (meaning.Class c) i t h h' y j = absurd (grind (arith, i, j))
  declaration_one seen s n (meaning.Builtin c) i t h h' y j = absurd (grind (arith, i, j))
  declaration_one seen s n meaning.None i t h h' y j = absurd (grind (arith, i, j))

  annotated_one : (seen : NamesBound) (env : Env) → SameSeen seen → SameWhere ds ds' env
      → (n : Name) (a : Ann) (e : Option Expr) (mk mk' : OptionLabels e) (fl fl' : FlowLabels) (after after' : Env)
      → LawfulAnnotated m ctx ds env seen n a e mk fl after → LawfulAnnotated m ctx ds' env seen n a e mk' fl' after'
      → BindingOne mk mk' fl fl' after after' n
  annotated_one seen env s k n a None mk mk' fl fl' after after' h h' = record {
    labels = refl;
    flows = h.1 ∙ sym h'.1;
    afters = h.2 ∙ sym h'.2;
    kept = subst (SameWhere ds ds') (sym h.2) k;
    same = declaration_one seen s n (ctx.resolve n.text) refl (read_ann m ctx.bases a) h.0 h'.0;
  }
  annotated_one seen env s k n a (Some e) mk mk' fl fl' after after' h h' =
      binding_one seen env s k n (ctx.resolve n.text) refl (annotation_at m ctx ds (is_first seen n)
      (read_ann m ctx.bases a)) e mk mk' fl fl' after after' h h'

  -- the target of a `for`
  pub record TargetOne (fl fl' : FlowLabels) (inside inside' : Env) (n : Name) : Type 0 where
    pub flows : fl ≡ fl'
    pub insides : inside ≡ inside'
    pub kept : SameWhere ds ds' inside
    pub same : SameName n

  from_one : (b : Test) (x : ℕ) (t : Tree) → (b ≡ false → declared_type ds x ≡ declared_type ds' x)
      → DeclaredAt m ctx ds b x None t → DeclaredAt m ctx ds' b x None t → declared_type ds x ≡ declared_type ds' x
  from_one false x t s d d' = s refl
  from_one true x t s d d' = d ∙ sym d'

  no_target_one : (head : Env) → SameWhere ds ds' head → (n : Name) → ((x : ℕ) → ctx.resolve n.text ≡ meaning.Local x → ⊥)
      → (fl fl' : FlowLabels) (inside inside' : Env) → (fl ≡ []) × (inside ≡ head) → (fl' ≡ []) × (inside' ≡ head)
      → TargetOne fl fl' inside inside' n
  no_target_one head k n r fl fl' inside inside' h h' = record {
    flows = h.0 ∙ sym h'.0;
    insides = h.1
        ∙ sym h'.1;
    kept = subst (SameWhere ds ds') (sym h.1) k;
    same = λ x i. absurd (r x i);
  }

  target_one : (seen : NamesBound) (head : Env) → SameSeen seen → SameWhere ds ds' head → (n : Name) (r : NameMeaning)
      → ctx.resolve n.text ≡ r → (item : Label) (fl fl' : FlowLabels) (inside inside' : Env)
      → LawfulTarget m ctx ds seen n r head item fl inside → LawfulTarget m ctx ds' seen n r head item fl' inside'
      → TargetOne fl fl' inside inside' n
  target_one seen head s k n (meaning.Local x) i item fl fl' inside inside' h h' =
      let q = from_one (is_first seen n) x item.type (first_seen seen n x s i) h.at_first h'.at_first in
      let f : fl ≡ fl' = into_one ctx.bases (clean item.type) (declared_type ds' x ∷ []) fl fl'
      (subst (λ t. FlowsInto ctx.bases (clean item.type) (t ∷ []) fl) q h.flow) h'.flow in
      record {
        flows = f;
        insides = h.inside_is ∙ (λ j. assign head x (assigned_type (q j) item.type (only_code (f j))))
            ∙ sym h'.inside_is;
        kept = subst (SameWhere ds ds') (sym h.inside_is) (assign_kept ds ds' head x
            (assigned_type (declared_type ds x) item.type (only_code fl)) k q);
        same = λ y j. let is : x ≡ y = local_inj (sym i ∙ j) in subst (λ z. declared_type ds z ≡ declared_type ds' z) is
            q;
      }
  target_one seen head s k n (meaning.Const c) i item fl fl' inside inside' h h' =
      no_target_one head k n (λ x j. absurd (grind (arith, i, j))) fl fl' inside inside' h h'
  target_one seen head s k n (meaning.Func c) i item fl fl' inside inside' h h' =
      no_target_one head k n (λ x j. absurd (grind (arith, i, j))) fl fl' inside inside' h h'
  target_one seen head s k n (meaning.Class c) i item fl fl' inside inside' h h' =
      no_target_one head k n (λ x j. absurd (grind (arith, i, j))) fl fl' inside inside' h h'
  target_one seen head s k n (meaning.Builtin c) i item fl fl' inside inside' h h' =
      no_target_one head k n (λ x j. absurd (grind (arith, i, j))) fl fl' inside inside' h h'
  target_one seen head s k n meaning.None i item fl fl' inside inside' h h' =
      no_target_one head k n (λ x j. absurd (grind (arith, i, j))) fl fl' inside inside' h h'

  -- names first bound where no run comes
  undeclared_name : (b : Test) (r : NameMeaning) (x : ℕ) → (b ≡ false → declared_type ds x ≡ declared_type ds' x)
      → r ≡ meaning.Local x → UndeclaredName m ctx ds b r → UndeclaredName m ctx ds' b r
      → declared_type ds x ≡ declared_type ds' x
  undeclared_name false r x s i h h' = s refl
  undeclared_name true (meaning.Local y) x s i h h' = let is : y ≡ x = local_inj i in
      subst (λ z. declared_type ds z ≡ declared_type ds' z) is (h ∙ sym h')
  undeclared_name true (meaning.Const c) x s i h h' = absurd (grind (arith, i))
  undeclared_name true (meaning.Func c) x s i h h' = absurd (grind (arith, i))
  undeclared_name true (meaning.Class c) x s i h h' = absurd (grind (arith, i))
  undeclared_name true (meaning.Builtin c) x s i h h' = absurd (grind (arith, i))
  undeclared_name true meaning.None x s i h h' = absurd (grind (arith, i))

  among_later : (word : List ℕ) (n : Name) (ns : List Name) (seen : NamesBound)
      → IsAmong word (n.text ∷ (texts ns ++ seen)) → IsAmong word (texts ns ++ (n.text ∷ seen))
  among_later word n ns seen h = among_both word (n ∷ []) ns seen h

  undeclared_one : (seen : NamesBound) (ns : List Name) → SameSeen seen → AreUndeclared m ctx ds seen ns
      → AreUndeclared m ctx ds' seen ns → SameSeen (texts ns ++ seen)
  undeclared_one seen [] s h h' = s
  undeclared_one seen (n ∷ ns) s h h' =
      let rest = undeclared_one (n.text ∷ seen) ns (seen_more seen n s
      (λ x i. undeclared_name (is_first seen n) (ctx.resolve n.text) x (first_seen seen n x s i) i h.0 h'.0)) h.1
      h'.1 in
      λ word x among r. rest word x (among_later word n ns seen among) r

  -- ---- iterables of `for` loops

  record IterableOne {A : Type 0} (mk mk' : A) (item item' : Label) : Type 0 where
    labels : mk ≡ mk'
    items : item ≡ item'

  values_one : (env : Env) → SameWhere ds ds' env → (e : Expr) (mk mk' : Labels e) (item item' : Label)
      → LawfulValues m ctx ds env e mk item → LawfulValues m ctx ds' env e mk' item' → IterableOne mk mk' item item'
  values_one env k e mk mk' item item' h h' =
      let q = one ctx ds ds' env k None e mk mk' h.0 h'.0 in
      record {
        labels = q;
        items = h.1 ∙ ap (λ x. offers_label ctx.bases
            (map (iterate_member ctx.bases) (members (type_of e x)))) q ∙ sym h'.1;
      }

  range_one : (env : Env) → SameWhere ds ds' env → (c : Expr) (args : Exprs) (kws : Keywords) (p : Place)
      (mk mk' : Labels (call p c args kws)) → LawfulRange m ctx ds env c args kws p mk
      → LawfulRange m ctx ds' env c args kws p mk' → mk ≡ mk'
  range_one env k c args kws p mk mk' h h' =
      let v = one ctx ds ds' env k None c h.value h'.value h.lawful h'.lawful in
      let q = items_one ctx ds ds' env k (positional_seat (range_offers (arguments_given args kws))) args mk.arguments
      mk'.arguments h.arguments h'.arguments in
      let s = keywords_one ctx ds ds' env k (named_seat (range_offers (arguments_given args kws))) [] kws mk.keywords
      mk'.keywords h.keywords h'.keywords in
      let f : mk.callee ≡ mk'.callee = h.callee ∙ ap (λ x. with_label c x (clean Any)) v ∙ sym h'.callee in
      let r : mk.here ≡ mk'.here = h.here ∙ sym h'.here in
      let t : mk.second ≡ mk'.second = h.second ∙ sym h'.second in
      λ i. record { here = r i; callee = f i; second = t i; arguments = q i; keywords = s i }

  range_or_values : (b : Test) (env : Env) → SameWhere ds ds' env → (c : Expr) (args : Exprs) (kws : Keywords)
      (p : Place) (mk mk' : Labels (call p c args kws)) (item item' : Label)
      → RangeOrValues m ctx ds b (LawfulRange m ctx ds env c args kws p mk
      × (item ≡ range_item (arguments_given args kws))) (LawfulValues m ctx ds env (call p c args kws) mk item)
      → RangeOrValues m ctx ds' b (LawfulRange m ctx ds' env c args kws p mk'
      × (item' ≡ range_item (arguments_given args kws))) (LawfulValues m ctx ds' env (call p c args kws) mk' item')
      → IterableOne mk mk' item item'
  range_or_values true env k c args kws p mk mk' item item' h h' =
      record { labels = range_one env k c args kws p mk mk' h.0 h'.0; items = h.1 ∙ sym h'.1 }
  range_or_values false env k c args kws p mk mk' item item' h h' = values_one env k (call p c args kws) mk mk' item
      item' h h'

  iterable_one : (env : Env) → SameWhere ds ds' env → (e : Expr) (mk mk' : Labels e) (item item' : Label)
      → LawfulIterable m ctx ds env e mk item → LawfulIterable m ctx ds' env e mk' item' → IterableOne mk mk' item item'
  iterable_one env k (call p (name n) args kws) mk mk' item item' h h' = range_or_values (is_range (ctx.resolve n.text))
      env k (name n) args kws p mk mk' item item' h h'
  iterable_one env k e mk mk' item item' h h' = values_one env k e mk mk' item item' h h'

  -- ---- stores, returns

  record StoreOne {A B : Type 0} (tg tg' : A) (mk mk' : B) (fl fl' : FlowLabels) : Type 0 where
    targets : tg ≡ tg'
    labels : mk ≡ mk'
    flows : fl ≡ fl'

  store_one : (env : Env) → SameWhere ds ds' env → (t : Target) (tg tg' : TargetLabels t) (e : Expr) (mk mk' : Labels e)
      (fl fl' : FlowLabels) → LawfulStore m ctx ds env t tg e mk fl → LawfulStore m ctx ds' env t tg' e mk' fl'
      → StoreOne tg tg' mk mk' fl fl'
  store_one env k (to_name n) tg tg' e mk mk' fl fl' h h' = absurd h
  store_one env k (to_attribute p o f) tg tg' e mk mk' fl fl' h h' =
      let q = one ctx ds ds' env k None o tg.object tg'.object h.object h'.object in
      let offers : Labels o → _ = λ x. attribute_offers m ctx ds f.text (type_of o x) in
      let v = one ctx ds ds' env k (only_type (offers tg.object) (stored_types (offers tg.object))) e mk mk' h.value
      (subst (λ x. Lawful ctx ds' env (only_type (offers x) (stored_types (offers x))) e mk') (sym q) h'.value) in
      let c : tg.codes ≡ tg'.codes = h.codes ∙ ap (λ x. store_codes (offers x)) q ∙ sym h'.codes in
      record {
        targets = λ i. record { codes = c i; object = q i };
        labels = v;
        flows = into_one ctx.bases (whole_label e mk') (stored_types (offers tg'.object)) fl fl'
            (subst (λ x. FlowsInto ctx.bases (whole_label e x) (stored_types (offers tg'.object)) fl) v
            (subst (λ x. FlowsInto ctx.bases (whole_label e mk) (stored_types (offers x)) fl) q h.flow)) h'.flow;
      }
  store_one env k (to_index p o j) tg tg' e mk mk' fl fl' h h' =
      let q = one ctx ds ds' env k None o tg.object tg'.object h.object h'.object in
      let s = one ctx ds ds' env k None j tg.key tg'.key h.key h'.key in
      let offers : Labels o → _ = λ x. index_offers m ctx ds (type_of o x) in
      let v = one ctx ds ds' env k (only_type (offers tg.object) (stored_types (offers tg.object))) e mk mk' h.value
      (subst (λ x. Lawful ctx ds' env (only_type (offers x) (stored_types (offers x))) e mk') (sym q) h'.value) in
      let c : tg.codes ≡ tg'.codes = h.codes ∙ ap (λ x. store_codes (offers x)) q ∙ sym h'.codes in
      let kf : tg.key_flows ≡ tg'.key_flows = into_one ctx.bases (whole_label j tg'.key)
      (store_index_types (offers tg'.object)) tg.key_flows tg'.key_flows
      (subst (λ x. FlowsInto ctx.bases (whole_label j x) (store_index_types (offers tg'.object)) tg.key_flows) s
      (subst (λ x. FlowsInto ctx.bases (whole_label j tg.key) (store_index_types (offers x)) tg.key_flows) q
      h.key_flow)) h'.key_flow in
      record {
        targets = λ i. record { codes = c i; object = q i; key = s i; key_flows = kf i };
        labels = v;
        flows = into_one ctx.bases (whole_label e mk') (stored_types (offers tg'.object)) fl fl'
            (subst (λ x. FlowsInto ctx.bases (whole_label e x) (stored_types (offers tg'.object)) fl) v
            (subst (λ x. FlowsInto ctx.bases (whole_label e mk) (stored_types (offers x)) fl) q h.flow)) h'.flow;
      }

  record ReturnOne {A : Type 0} (mk mk' : A) (fl fl' : FlowLabels) : Type 0 where
    labels : mk ≡ mk'
    flows : fl ≡ fl'

  return_one : (returned : Tree) (env : Env) → SameWhere ds ds' env → (e : Option Expr) (mk mk' : OptionLabels e)
      (fl fl' : FlowLabels) → LawfulReturn m ctx ds returned env e mk fl → LawfulReturn m ctx ds' returned env e mk' fl'
      → ReturnOne mk mk' fl fl'
  return_one t env k None mk mk' fl fl' h h' = record {
    labels = refl;
    flows = into_one ctx.bases (clean NoneType)
        (t ∷ []) fl fl' h h';
  }
  return_one t env k (Some e) mk mk' fl fl' h h' =
      let q = one ctx ds ds' env k (Some t) e mk mk' h.0 h'.0 in
      record {
        labels = q;
        flows = into_one ctx.bases (whole_label e mk') (t ∷ []) fl fl'
            (subst (λ x. FlowsInto ctx.bases (whole_label e x) (t ∷ []) fl) q h.1) h'.1;
      }

  option_one : (returned : Tree) (env : Env) → SameWhere ds ds' env → (e : Option Expr) (mk mk' : OptionLabels e)
      → LawfulOption m ctx ds returned env e mk → LawfulOption m ctx ds' returned env e mk' → mk ≡ mk'
  option_one t env k None mk mk' h h' = refl
  option_one t env k (Some e) mk mk' h h' = one ctx ds ds' env k None e mk mk' h h'

  -- ---- statements

  ways_alike : (es : List Env) → AllKept es → (join_ways ctx.bases ds es ≡ join_ways ctx.bases ds' es)
      × OutKept (join_ways ctx.bases ds es)
  ways_alike [] h = (refl, tt)
  ways_alike (e ∷ es) h = let j = all_joins_alike ctx.bases ds ds' e es h.0 h.1 in (ap Some j.same, j.kept)

  option_kept : (o : Option Env) → OutKept o → AllKept (option_to_list o)
  option_kept None h = tt
  option_kept (Some e) h = (h, tt)

  -- two lawful labellings of a statement have the same labels and the same environment after it, and agree on the
  -- declared types that it leaves behind
  pub record SameStmt {A : Type 0} (mk mk' : A) (out out' : Option Env) (exit_env : List Env) (after : NamesBound) : Type
      0 where
    pub labels : mk ≡ mk'
    pub outs : out ≡ out'
    pub kept : OutKept out
    pub exit_env_kept : AllKept exit_env
    pub seen : SameSeen after

  pub record SameBranches {A : Type 0} (mk mk' : A) (last last' : Env) (exit_env ways : List Env)
      (after : NamesBound) : Type 0 where
    pub labels : mk ≡ mk'
    pub lasts : last ≡ last'
    pub kept : SameWhere ds ds' last
    pub exit_env_kept : AllKept exit_env
    pub ways_kept : AllKept ways
    pub seen : SameSeen after

  abbrev truth_of : Expr → Test → Env → Env
  truth_of c b env = narrow ctx.bases ds ctx.resolve b c env

  abbrev truth_of' : Expr → Test → Env → Env
  truth_of' c b env = narrow ctx.bases ds' ctx.resolve b c env

  module _ (returned : Tree) where
    abbrev StmtRule : NamesBound → Env → (s : Stmt) → StmtLabels s → Option Env → Type 0
    StmtRule seen env s mk out = LawfulStmt m ctx ds returned seen env s mk out

    abbrev StmtRule' : NamesBound → Env → (s : Stmt) → StmtLabels s → Option Env → Type 0
    StmtRule' seen env s mk out = LawfulStmt m ctx ds' returned seen env s mk out

    -- two lawful labellings agree on the statements after a statement
    behind_one : (seen : NamesBound) (env : Env) (s : Stmt) (rest : Stmts) (b : Test) (s0 s0' : StmtLabels s)
        (r r' : Behind b (Following (SuiteLabels rest))) (out out' : Option Env)
        → ((o o' : Option Env) → StmtRule seen env s s0 o → StmtRule' seen env s s0' o'
        → SameStmt s0 s0' o o' (breaks_in s s0) (texts (bound_by_stmt s) ++ seen))
        → ((mid : Env) → SameWhere ds ds' mid → SameSeen (texts (bound_by_stmt s) ++ seen)
        → (k k' : SuiteLabels rest) (o o' : Option Env) → LawfulSuite m ctx ds returned
        (texts (bound_by_stmt s) ++ seen) mid rest k o → LawfulSuite m ctx ds' returned
        (texts (bound_by_stmt s) ++ seen) mid rest k' o' → SameStmt k k' o o' (breaks_in_suite rest k)
        (texts (bound_by rest) ++ (texts (bound_by_stmt s) ++ seen)))
        → BehindRule b r (λ x. StmtRule seen env s s0 (Some x.env)
        × LawfulSuite m ctx ds returned (texts (bound_by_stmt s) ++ seen) x.env rest x.rest out)
        (StmtRule seen env s s0 None × AreUndeclared m ctx ds (texts (bound_by_stmt s) ++ seen) (bound_by rest)
        × (out ≡ None))
        → BehindRule b r' (λ x. StmtRule' seen env s s0' (Some x.env)
        × LawfulSuite m ctx ds' returned (texts (bound_by_stmt s) ++ seen) x.env rest x.rest out')
        (StmtRule' seen env s s0' None × AreUndeclared m ctx ds' (texts (bound_by_stmt s) ++ seen) (bound_by rest)
        × (out' ≡ None))
        → SameStmt {A = record { first : StmtLabels s; behind : Behind b (Following (SuiteLabels rest)) }}
        (record { first = s0; behind = r }) (record { first = s0'; behind = r' }) out out'
        (breaks_in s s0 ++ behind_list b r (λ x. breaks_in_suite rest x.rest))
        (texts (bound_by rest) ++ (texts (bound_by_stmt s) ++ seen))
    behind_one seen env s rest true s0 s0' r r' out out' first next h h' =
        let f = first (Some r.env) (Some r'.env) h.0 h'.0 in
        let mid : r.env ≡ r'.env = some_inj f.outs in
        let n = next r.env f.kept f.seen r.rest r'.rest out out' h.1
        (subst (λ x. LawfulSuite m ctx ds' returned (texts (bound_by_stmt s) ++ seen) x rest r'.rest out') (sym mid)
        h'.1) in
        record {
          labels = λ i. record { first = f.labels i; behind = record { env = mid i; rest = n.labels i } };
          outs =
              n.outs;
          kept = n.kept;
          exit_env_kept = all_kept_both (breaks_in s s0) (breaks_in_suite rest r.rest)
              f.exit_env_kept n.exit_env_kept;
          seen = n.seen;
        }
    behind_one seen env s rest false s0 s0' r r' out out' first next h h' =
        let f = first None None h.0 h'.0 in
        record {
          labels = λ i. record { first = f.labels i; behind = r };
          outs = h.2 ∙ sym h'.2;
          kept = subst OutKept (sym h.2) tt;
          exit_env_kept = all_kept_both (breaks_in s s0) [] f.exit_env_kept tt;
          seen = undeclared_one (texts (bound_by_stmt s) ++ seen) (bound_by rest) f.seen h.1 h'.1;
        }

    -- an assignment to a name, or to another target
    assignment_one : (p : Place) (seen : NamesBound) (env : Env) → SameSeen seen → SameWhere ds ds' env
        → (t : Target) (e : Expr) (mk mk' : StmtLabels (assigns p t e)) (out out' : Option Env)
        → StmtRule seen env (assigns p t e) mk out → StmtRule' seen env (assigns p t e) mk' out'
        → SameStmt mk mk' out out' [] (texts (bound_by_stmt (assigns p t e)) ++ seen)
    assignment_one p seen env s k (to_name n) e mk mk' out out' h h' =
        let q = binding_one seen env s k n (ctx.resolve n.text) refl None e mk.value mk'.value mk.flows mk'.flows
        h.after h'.after h.assignment h'.assignment in
        record {
          labels = λ i. record { value = q.labels i; target = tt; flows = q.flows i };
          outs = h.is
              ∙ ap Some q.afters ∙ sym h'.is;
          kept = subst OutKept (sym h.is) q.kept;
          exit_env_kept = tt;
          seen =
              seen_more seen n s q.same;
        }
    assignment_one p seen env s k (to_attribute p' o f) e mk mk' out out' h h' =
        let q = store_one env k (to_attribute p' o f) mk.target mk'.target e mk.value mk'.value mk.flows mk'.flows
        h.assignment.0 h'.assignment.0 in
        let a : h.after ≡ h'.after = h.assignment.1 ∙ sym h'.assignment.1 in
        record {
          labels = λ i. record { value = q.labels i; target = q.targets i; flows = q.flows i };
          outs = h.is
              ∙ ap Some a ∙ sym h'.is;
          kept = subst OutKept (sym h.is) (subst (SameWhere ds ds') (sym h.assignment.1) k);
          exit_env_kept = tt;
          seen = s;
        }
    assignment_one p seen env s k (to_index p' o j) e mk mk' out out' h h' =
        let q = store_one env k (to_index p' o j) mk.target mk'.target e mk.value mk'.value mk.flows mk'.flows
        h.assignment.0 h'.assignment.0 in
        let a : h.after ≡ h'.after = h.assignment.1 ∙ sym h'.assignment.1 in
        record {
          labels = λ i. record { value = q.labels i; target = q.targets i; flows = q.flows i };
          outs = h.is
              ∙ ap Some a ∙ sym h'.is;
          kept = subst OutKept (sym h.is) (subst (SameWhere ds ds') (sym h.assignment.1) k);
          exit_env_kept = tt;
          seen = s;
        }

    -- a condition narrows alike
    abbrev Narrows : Expr → Test → Env → Type 0
    Narrows c b env = Alike ds ds' (truth_of c b env) (truth_of' c b env)

    narrows : (c : Expr) (b : Test) (env : Env) → SameWhere ds ds' env → Narrows c b env
    narrows c b env k = narrow_alike ctx.bases ds ds' ctx.resolve c b env k

    mutual
      pub stmt_one : (seen : NamesBound) (env : Env) → SameSeen seen → SameWhere ds ds' env
          → (s : Stmt) (mk mk' : StmtLabels s) (out out' : Option Env) → StmtRule seen env s mk out
          → StmtRule' seen env s mk' out' → SameStmt mk mk' out out' (breaks_in s mk) (texts (bound_by_stmt s) ++ seen)
      stmt_one seen env s k (pass p) mk mk' out out' h h' = record {
        labels = refl;
        outs = h ∙ sym h';
        kept =
            subst OutKept (sym h) k;
        exit_env_kept = tt;
        seen = s;
      }
      stmt_one seen env s k (breaks p) mk mk' out out' h h' = record {
        labels = h.0 ∙ sym h'.0;
        outs = h.1
            ∙ sym h'.1;
        kept = subst OutKept (sym h.1) tt;
        exit_env_kept = (subst (SameWhere ds ds') (sym h.0) k, tt);
        seen = s;
      }
      stmt_one seen env s k (continues p) mk mk' out out' h h' =
          record { labels = refl; outs = h ∙ sym h'; kept = subst OutKept (sym h) tt; exit_env_kept = tt; seen = s }
      stmt_one seen env s k (returns p e) mk mk' out out' h h' =
          let q = return_one returned env k e mk.value mk'.value mk.flows mk'.flows h.0 h'.0 in
          record {
            labels = λ i. record { value = q.labels i; flows = q.flows i };
            outs = h.1 ∙ sym h'.1;
            kept =
                subst OutKept (sym h.1) tt;
            exit_env_kept = tt;
            seen = s;
          }
      stmt_one seen env s k (asserts p c e) mk mk' out out' h h' =
          let q = one ctx ds ds' env k None c mk.condition mk'.condition h.condition h'.condition in
          let f = narrows c false env k in
          let t = narrows c true env k in
          let r = option_one returned (truth_of c false env) f.kept e mk.message mk'.message h.message
          (subst (λ x. LawfulOption m ctx ds' returned x e mk'.message) (sym f.same) h'.message) in
          record {
            labels = λ i. record { condition = q i; message = r i };
            outs = h.after ∙ ap Some t.same
                ∙ sym h'.after;
            kept = subst OutKept (sym h.after) t.kept;
            exit_env_kept = tt;
            seen = s;
          }
      stmt_one seen env s k (annotated p n a e) mk mk' out out' h h' =
          let q = annotated_one seen env s k n a e mk.value mk'.value mk.flows mk'.flows h.after h'.after h.binding
          h'.binding in
          record {
            labels = λ i. record { value = q.labels i; flows = q.flows i };
            outs = h.is ∙ ap Some q.afters
                ∙ sym h'.is;
            kept = subst OutKept (sym h.is) q.kept;
            exit_env_kept = tt;
            seen = seen_more seen n s q.same;
          }
      stmt_one seen env s k (assigns p t e) mk mk' out out' h h' = assignment_one p seen env s k t e mk mk' out out' h
          h'
      stmt_one seen env s k (evaluates p e) mk mk' out out' h h' =
          record {
            labels = one ctx ds ds' env k None e mk mk' h.0 h'.0;
            outs = h.1 ∙ sym h'.1;
            kept =
                subst OutKept (sym h.1) k;
            exit_env_kept = tt;
            seen = s;
          }
      stmt_one seen env s k (while_loop p c b) mk mk' out out' h h' =
          let heads = heads_alike ctx.bases (binds_number ctx.resolve (bound_by b)) ds ds' env k in
          let q : mk.head ≡ mk'.head = h.head ∙ heads.same ∙ sym h'.head in
          let kh : SameWhere ds ds' mk.head = subst (SameWhere ds ds') (sym h.head) heads.kept in
          let cond = one ctx ds ds' mk.head kh None c mk.condition mk'.condition h.condition
          (subst (λ x. Lawful ctx ds' x None c mk'.condition) (sym q) h'.condition) in
          let t = narrows c true mk.head kh in
          let f = narrows c false mk.head kh in
          let inside : truth_of c true mk.head ≡ truth_of' c true mk'.head = t.same ∙ ap (truth_of' c true) q in
          let body = suite_one seen (truth_of c true mk.head) s t.kept b mk.body mk'.body mk.out mk'.out h.body
          (subst (λ x. LawfulSuite m ctx ds' returned seen x b mk'.body mk'.out) (sym inside) h'.body) in
          let j = all_joins_alike ctx.bases ds ds' (truth_of c false mk.head) (breaks_in_suite b mk.body) f.kept
          body.exit_env_kept in
          let ends : truth_of c false mk.head ≡ truth_of' c false mk'.head = f.same ∙ ap (truth_of' c false) q in
          record {
            labels = λ i. record { head = q i; condition = cond i; body = body.labels i; out = body.outs i };
            outs = h.after
                ∙ ap Some (j.same ∙ (λ i. join_envs_onto ctx.bases ds' (ends i) (breaks_in_suite b (body.labels i))))
                ∙ sym h'.after;
            kept = subst OutKept (sym h.after) j.kept;
            exit_env_kept = tt;
            seen = body.seen;
          }
      stmt_one seen env s k (for_loop p n e b) mk mk' out out' h h' =
          let it = iterable_one env k e mk.iterable mk'.iterable mk.item mk'.item h.iterable h'.iterable in
          let heads = heads_alike ctx.bases (binds_number ctx.resolve (n ∷ bound_by b)) ds ds' env k in
          let q : mk.head ≡ mk'.head = h.head ∙ heads.same ∙ sym h'.head in
          let kh : SameWhere ds ds' mk.head = subst (SameWhere ds ds') (sym h.head) heads.kept in
          let tg = target_one seen mk.head s kh n (ctx.resolve n.text) refl mk.item mk.flows mk'.flows h.inside
          h'.inside h.target (subst (λ x. LawfulTarget m ctx ds' seen n (ctx.resolve n.text) mk.head x mk'.flows
          h'.inside) (sym it.items) (subst (λ x. LawfulTarget m ctx ds' seen n (ctx.resolve n.text) x mk'.item
          mk'.flows h'.inside) (sym q) h'.target)) in
          let body = suite_one (n.text ∷ seen) h.inside (seen_more seen n s tg.same) tg.kept b mk.body mk'.body mk.out
          mk'.out h.body (subst (λ x. LawfulSuite m ctx ds' returned (n.text ∷ seen) x b mk'.body mk'.out)
          (sym tg.insides) h'.body) in
          let j = all_joins_alike ctx.bases ds ds' mk.head (breaks_in_suite b mk.body) kh body.exit_env_kept in
          record {
            labels = λ i. record {
              iterable = it.labels i;
              item = it.items i;
              flows = tg.flows i;
              head = q i;
              body =
                  body.labels i;
              out = body.outs i;
            };
            outs = h.after
                ∙ ap Some (j.same ∙ (λ i. join_envs_onto ctx.bases ds' (q i) (breaks_in_suite b (body.labels i))))
                ∙ sym h'.after;
            kept = subst OutKept (sym h.after) j.kept;
            exit_env_kept = tt;
            seen = λ word x among r. body.seen word x (among_later word n (bound_by b) seen among) r;
          }
      stmt_one seen env s k (conditional p bs o) mk mk' out out' h h' =
          let br = branches_one seen env s k bs mk.branches mk'.branches mk.last mk'.last h.branches h'.branches in
          let el = suite_one (texts (bound_by_branches bs) ++ seen) mk.last br.seen br.kept o mk.otherwise mk'.otherwise
          mk.out mk'.out h.otherwise
          (subst (λ x. LawfulSuite m ctx ds' returned (texts (bound_by_branches bs) ++ seen) x o mk'.otherwise
          mk'.out) (sym br.lasts) h'.otherwise) in
          let w = ways_alike (ways_in bs mk.branches ++ option_to_list mk.out)
          (all_kept_both (ways_in bs mk.branches) (option_to_list mk.out) br.ways_kept
          (option_kept mk.out el.kept)) in
          record {
            labels = λ i. record {
              branches = br.labels i;
              last = br.lasts i;
              otherwise = el.labels i;
              out =
                  el.outs i;
            };
            outs = h.after ∙ w.0
                ∙ (λ i. join_ways ctx.bases ds' (ways_in bs (br.labels i) ++ option_to_list (el.outs i)))
                ∙ sym h'.after;
            kept = subst OutKept (sym h.after) w.1;
            exit_env_kept = all_kept_both (breaks_in_branches bs mk.branches) (breaks_in_suite o mk.otherwise)
                br.exit_env_kept el.exit_env_kept;
            seen = seen_both (bound_by_branches bs) (bound_by o) seen el.seen;
          }

      pub suite_one : (seen : NamesBound) (env : Env) → SameSeen seen → SameWhere ds ds' env
          → (b : Stmts) (mk mk' : SuiteLabels b) (out out' : Option Env) → LawfulSuite m ctx ds returned seen env b mk
          out → LawfulSuite m ctx ds' returned seen env b mk' out' → SameStmt mk mk' out out' (breaks_in_suite b mk)
          (texts (bound_by b) ++ seen)
      suite_one seen env s k no_stmts mk mk' out out' h h' = record {
        labels = refl;
        outs = h ∙ sym h';
        kept =
            subst OutKept (sym h) k;
        exit_env_kept = tt;
        seen = s;
      }
      suite_one seen env s k (more_stmts st rest) mk mk' out out' h h' =
          let q = behind_one seen env st rest (completes st) mk.first mk'.first mk.behind mk'.behind out out'
          (λ o o' l l'. stmt_one seen env s k st mk.first mk'.first o o' l l')
          (λ mid km sm x x' o o' l l'. suite_one (texts (bound_by_stmt st) ++ seen) mid sm km rest x x' o o' l l')
          h h' in
          record {
            labels = q.labels;
            outs = q.outs;
            kept = q.kept;
            exit_env_kept = q.exit_env_kept;
            seen =
                seen_both (bound_by_stmt st) (bound_by rest) seen q.seen;
          }

      pub branches_one : (seen : NamesBound) (env : Env) → SameSeen seen → SameWhere ds ds' env
          → (bs : Branches) (mk mk' : BranchesLabels bs) (last last' : Env) → LawfulBranches m ctx ds returned seen env
          bs mk last → LawfulBranches m ctx ds' returned seen env bs mk' last'
          → SameBranches mk mk' last last' (breaks_in_branches bs mk) (ways_in bs mk)
          (texts (bound_by_branches bs) ++ seen)
      branches_one seen env s k no_branches mk mk' last last' h h' =
          record {
            labels = refl;
            lasts = h ∙ sym h';
            kept = subst (SameWhere ds ds') (sym h) k;
            exit_env_kept = tt;
            ways_kept = tt;
            seen = s;
          }
      branches_one seen env s k (more_branches c b rest) mk mk' last last' h h' =
          let cond = one ctx ds ds' env k None c mk.condition mk'.condition h.condition h'.condition in
          let t = narrows c true env k in
          let f = narrows c false env k in
          let body = suite_one seen (truth_of c true env) s t.kept b mk.body mk'.body mk.out mk'.out h.body
          (subst (λ x. LawfulSuite m ctx ds' returned seen x b mk'.body mk'.out) (sym t.same) h'.body) in
          let others = branches_one (texts (bound_by b) ++ seen) (truth_of c false env) body.seen f.kept rest mk.rest
          mk'.rest last last' h.others (subst (λ x. LawfulBranches m ctx ds' returned (texts (bound_by b) ++ seen) x
          rest mk'.rest last') (sym f.same) h'.others) in
          record {
            labels = λ i. record {
              condition = cond i;
              body = body.labels i;
              out = body.outs i;
              rest =
                  others.labels i;
            };
            lasts = others.lasts;
            kept = others.kept;
            exit_env_kept = all_kept_both (breaks_in_suite b mk.body) (breaks_in_branches rest mk.rest) body.exit_env_kept
                others.exit_env_kept;
            ways_kept = all_kept_both (option_to_list mk.out) (ways_in rest mk.rest) (option_kept mk.out body.kept)
                others.ways_kept;
            seen = seen_both (bound_by b) (bound_by_branches rest) seen others.seen;
          }
