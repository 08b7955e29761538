-- A name that is bound, with or without an annotation, has a declared type and lawful labels of its value.
use Rattle.std.proofs.Common.{List, [], ap, arith, refl, subst, sym, ℕ, ◌∙◌, ◌∷◌, ◌≡◌}
use Rattle.std.specs.Prelude.{Bool as Test, None, Option, Some, false, not, slice_set, true}
use Rattle.pc_tree.specs.Tree.{Ann, Expr, Name}
use Rattle.pc_scope.specs.declared.resolution.NameMeaning.{NameMeaning}
use Rattle.pc_scope.specs.declared.resolution.NameMeaning.TheVariants as meaning
use Rattle.pc_scope.specs.Resolution.{is_one_of}
use Rattle.pc_types.specs.Tree.{Tree}
use Rattle.pc_annotations.specs.Annotations.{read_ann}
use Rattle.pc_annotations.proofs.Readings.{read_ann_well_formed}
use Rattle.pc_types.specs.WellFormed.{IsWellFormed}
use Rattle.pc_flow.specs.Environment.{Env, assign, assigned_type, declared_type}
use Rattle.pc_flow.specs.WellFormed.{IsWellFormedIfAny}
use Rattle.pc_rules.specs.Context.{FlowsInto}
use Rattle.pc_rules.specs.Labels.{FlowLabels, Labels, whole_label, type_of}
use Rattle.pc_rules.specs.Lawful.{Lawful}
use Rattle.pc_module_rules.specs.StatementLabels.{OptionLabels}
use Rattle.pc_module_rules.specs.Statements.{DeclaredAt, LawfulAnnotated, LawfulBinding, LawfulDeclaration, NamesBound}
use Rattle.pc_module_rules.specs.Statements.{annotation_at, is_first, known_type, only_code}
use Rattle.pc_flow.proofs.Conditions.{assigned_well_formed}
use Rattle.pc_module_rules.specs.Laws.Labellings.{Agree, IsDeclaredTable, Surroundings, GoesByNames}
use Rattle.pc_module_rules.proofs.BoundNames.{here_among, within_one}
use Rattle.pc_module_rules.proofs.Tables.{assign_by_names, declared_well_formed, same_less, same_on, same_self, set_is}
use Rattle.pc_module_rules.proofs.Tables.{set_same, set_table, by_names_on, still_same}
use Rattle.pc_module_rules.proofs.LabelledExpressions.{expr_labelled, flows_labelled}

local_inj : {x y : ℕ} → meaning.Local x ≡ meaning.Local y → x ≡ y
local_inj e = grind arith

module _ (around : Surroundings) where
  open around use {whole as m, context as ctx, context_well_formed as ck, count, locals as names}

  -- ---- a name bound

  not_first : (b : Test) → not b ≡ true → b ≡ false
  not_first true e = absurd (grind (arith, e))
  not_first false e = refl

  -- the declared type of a name that is bound here with this type
  pub record NameSet (ds : List Tree) (seen : NamesBound) (word : List ℕ) (r : NameMeaning) (t : Tree) : Type 0 where
    pub table : List Tree
    pub is_table : IsDeclaredTable around table
    pub same : Agree ctx ds table seen
    pub is : (F : List Tree) → Agree ctx table F (word ∷ seen) → (x : ℕ) → r ≡ meaning.Local x → not (is_one_of word seen)
        ≡ true → declared_type F x ≡ t

  unset : (ds : List Tree) (seen : NamesBound) → IsDeclaredTable around ds → (word : List ℕ) (r : NameMeaning) (t : Tree)
      → ((x : ℕ) → r ≡ meaning.Local x → ⊥) → NameSet ds seen word r t
  unset ds seen g word r t nowhere_local = record {
    table = ds;
    is_table = g;
    same = same_self around ds seen;
    is =
        λ F s x i e. absurd (nowhere_local x i);
  }

  pub local_set : (ds : List Tree) (seen : NamesBound) → IsDeclaredTable around ds → (word : List ℕ) (x : ℕ)
      → ctx.resolve word ≡ meaning.Local x → (t : Tree) → IsWellFormed ctx.bases t → (b : Test) → not (is_one_of word seen)
      ≡ b → NameSet ds seen word (meaning.Local x) t
  local_set ds seen g word x i t k true e = record {
    table = slice_set ds x t;
    is_table = set_table around ds x t g k;
    same = set_same around ds seen word x t (not_first (is_one_of word seen) e) i;
    is = λ F s y j f. let q : x ≡ y = local_inj j in sym (s word y (here_among word seen) (i ∙ ap meaning.Local q))
        ∙ ap (λ z. declared_type (slice_set ds x t) z) (sym q) ∙ set_is around ds word x t g i;
  }
  local_set ds seen g word x i t k false e = record {
    table = ds;
    is_table = g;
    same = same_self around ds seen;
    is =
        λ F s y j f. absurd (grind (arith, e, f));
  }

  pub name_set : (ds : List Tree) (seen : NamesBound) → IsDeclaredTable around ds → (word : List ℕ) (r : NameMeaning)
      → ctx.resolve word ≡ r → (t : Tree) → IsWellFormed ctx.bases t → NameSet ds seen word r t
  name_set ds seen g word (meaning.Local x) i t k = local_set ds seen g word x i t k (not (is_one_of word seen)) refl
  name_set ds seen g word (meaning.Const c) i t k = unset ds seen g word (meaning.Const c) t (λ x e. grind (arith, e))
  name_set ds seen g word (meaning.Func c) i t k = unset ds seen g word (meaning.Func c) t (λ x e. grind (arith, e))
  name_set ds seen g word (meaning.Class c) i t k = unset ds seen g word (meaning.Class c) t (λ x e. grind (arith, e))
  name_set ds seen g word (meaning.Builtin c) i t k = unset ds seen g word (meaning.Builtin c) t (λ x e. grind (arith, e))
  name_set ds seen g word meaning.None i t k = unset ds seen g word meaning.None t (λ x e. grind (arith, e))

  pub at_first : (F : List Tree) (b : Test) (x : ℕ) (t : Tree) → (b ≡ true → declared_type F x ≡ t)
      → DeclaredAt m ctx F b x None t
  at_first F true x t h = h refl
  at_first F false x t h = tt

  at_annotation : (F : List Tree) (b : Test) (x : ℕ) (t : Tree) → (b ≡ true → declared_type F x ≡ t)
      → DeclaredAt m ctx F b x (Some t) t
  at_annotation F true x t h = h refl
  at_annotation F false x t h = tt

  -- labels of a value, with the declared type of its name
  pub record LocalLabelled (ds : List Tree) (seen : NamesBound) (env : Env) (b : Test) (n : Name) (x : ℕ)
      (a : Option Tree) (e : Expr) : Type 0 where
    pub table : List Tree
    pub is_table : IsDeclaredTable around table
    pub same : Agree ctx ds table seen
    pub labels : Labels e
    pub well_formed : IsWellFormed ctx.bases (type_of e labels)
    pub value : (F : List Tree) → IsDeclaredTable around F → Agree ctx table F (n.text ∷ seen)
        → Lawful ctx F env (known_type m ctx F b x a) e labels
    pub first : (F : List Tree) → IsDeclaredTable around F → Agree ctx table F (n.text ∷ seen)
        → DeclaredAt m ctx F b x a (type_of e labels)

  local_labelled : (ds : List Tree) (seen : NamesBound) (env : Env) → IsDeclaredTable around ds
      → GoesByNames around ds seen env → (b : Test) (n : Name) (x : ℕ) → is_first seen n ≡ b
      → ctx.resolve n.text ≡ meaning.Local x → (a : Option Tree) → IsWellFormedIfAny ctx.bases a → (e : Expr)
      → LocalLabelled ds seen env b n x a e
  local_labelled ds seen env g h false n x f i a k e =
      let v = expr_labelled around ds seen env (Some (declared_type ds x)) e g h
      (declared_well_formed ctx.bases ds x g.well_formed) in
      record {
        table = ds;
        is_table = g;
        same = same_self around ds seen;
        labels = v.labels;
        well_formed = v.well_formed;
        value = λ F gF s. subst (λ t. Lawful ctx F env (Some t) e v.labels) (s n.text x (here_among n.text seen) i)
            (v.lawful F gF (same_less around ds F n.text seen s));
        first = λ F gF s. tt;
      }
  local_labelled ds seen env g h true n x f i (Some t) k e =
      let st = local_set ds seen g n.text x i t k true f in
      let v = expr_labelled around st.table seen env (Some (declared_type st.table x)) e st.is_table
      (by_names_on around ds st.table seen seen env (λ w a. a) st.is_table st.same h)
      (declared_well_formed ctx.bases st.table x st.is_table.well_formed) in
      record {
        table = st.table;
        is_table = st.is_table;
        same = st.same;
        labels = v.labels;
        well_formed = v.well_formed;
        value = λ F gF s. subst (λ t. Lawful ctx F env (Some t) e v.labels) (s n.text x (here_among n.text seen) i)
            (v.lawful F gF (same_less around st.table F n.text seen s));
        first = λ F gF s. st.is F s x refl f;
      }
  local_labelled ds seen env g h true n x f i None k e =
      let v = expr_labelled around ds seen env None e g h tt in
      let st = local_set ds seen g n.text x i (type_of e v.labels) v.well_formed true f in
      record {
        table = st.table;
        is_table = st.is_table;
        same = st.same;
        labels = v.labels;
        well_formed = v.well_formed;
        value = λ F gF s. v.lawful F gF (same_on around ds st.table F seen (n.text ∷ seen) (within_one n.text seen)
            st.same s);
        first = λ F gF s. st.is F s x refl f;
      }

  -- a name that is bound has a declared type, labels of its value, and an environment after it
  pub record BindingLabelled (ds : List Tree) (seen : NamesBound) (env : Env) (n : Name) (r : NameMeaning) (a : Option Tree)
      (e : Expr) : Type 0 where
    pub table : List Tree
    pub is_table : IsDeclaredTable around table
    pub same : Agree ctx ds table seen
    pub labels : Labels e
    pub flows : FlowLabels
    pub after : Env
    pub by_names : GoesByNames around table (n.text ∷ seen) after
    pub lawful : (F : List Tree) → IsDeclaredTable around F → Agree ctx table F (n.text ∷ seen)
        → LawfulBinding m ctx F env seen n r a e labels flows after

  -- a name that means no local binds nothing
  pub record PlainLabelled (ds : List Tree) (seen : NamesBound) (env : Env) (n : Name) (e : Expr) : Type 0 where
    pub labels : Labels e
    pub by_names : GoesByNames around ds (n.text ∷ seen) env
    pub value : (F : List Tree) → IsDeclaredTable around F → Agree ctx ds F (n.text ∷ seen)
        → Lawful ctx F env None e labels

  plain_labelled : (ds : List Tree) (seen : NamesBound) (env : Env) → IsDeclaredTable around ds
      → GoesByNames around ds seen env → (n : Name) (e : Expr) → PlainLabelled ds seen env n e
  plain_labelled ds seen env g h n e =
      let v = expr_labelled around ds seen env None e g h tt in
      record {
        labels = v.labels;
        by_names = still_same around ds seen (n.text ∷ seen) env (within_one n.text seen) g h;
        value = λ F gF s. v.lawful F gF (same_less around ds F n.text seen s);
      }

  pub binding_labelled : (ds : List Tree) (seen : NamesBound) (env : Env) → IsDeclaredTable around ds
      → GoesByNames around ds seen env → (n : Name) (r : NameMeaning) → ctx.resolve n.text ≡ r → (a : Option Tree)
      → IsWellFormedIfAny ctx.bases a → (e : Expr) → BindingLabelled ds seen env n r a e
  binding_labelled ds seen env g h n (meaning.Local x) i a k e =
      let l = local_labelled ds seen env g h (is_first seen n) n x refl i a k e in
      let d = declared_type l.table x in
      let kd = declared_well_formed ctx.bases l.table x l.is_table.well_formed in
      let fl = flows_labelled ctx.bases (whole_label e l.labels) (d ∷ []) ck.smaller l.well_formed (kd, tt) in
      record {
        table = l.table;
        is_table = l.is_table;
        same = l.same;
        labels = l.labels;
        flows = fl.flows;
        after = assign env x (assigned_type d (type_of e l.labels) (only_code fl.flows));
        by_names = assign_by_names around l.table (n.text ∷ seen) env n.text x
            (assigned_type d (type_of e l.labels) (only_code fl.flows)) (here_among n.text seen) i
            (assigned_well_formed ctx.bases d (type_of e l.labels) (only_code fl.flows) kd l.well_formed)
            (by_names_on around ds l.table seen (n.text ∷ seen) env (within_one n.text seen) l.is_table l.same h);
        lawful = λ F gF s. let q : d ≡ declared_type F x = s n.text x (here_among n.text seen) i in record {
          value = l.value F gF s;
          at_first = l.first F gF s;
          flow = subst (λ t. FlowsInto ctx.bases (whole_label e l.labels) (t ∷ []) fl.flows) q fl.lawful;
          after_is = ap (λ t. assign env x (assigned_type t (type_of e l.labels) (only_code fl.flows))) q;
        };
      }
  binding_labelled ds seen env g h n (meaning.Const c) i a k e = let v = plain_labelled ds seen env g h n e in
      record {
        table = ds;
        is_table = g;
        same = same_self around ds seen;
        labels = v.labels;
        flows = [];
        after = env;
        by_names = v.by_names;
        lawful = λ F gF s. record { value = v.value F gF s; flow = refl; after_is = refl };
      }
  binding_labelled ds seen env g h n (meaning.Func c) i a k e = let v = plain_labelled ds seen env g h n e in
      record {
        table = ds;
        is_table = g;
        same = same_self around ds seen;
        labels = v.labels;
        flows = [];
        after = env;
        by_names = v.by_names;
        lawful = λ F gF s. record { value = v.value F gF s; flow = refl; after_is = refl };
      }
  binding_labelled ds seen env g h n (meaning.Class c) i a k e = let v = plain_labelled ds seen env g h n e in
      record {
        table = ds;
        is_table = g;
        same = same_self around ds seen;
        labels = v.labels;
        flows = [];
        after = env;
        by_names = v.by_names;
        lawful = λ F gF s. record { value = v.value F gF s; flow = refl; after_is = refl };
      }
  binding_labelled ds seen env g h n (meaning.Builtin c) i a k e = let v = plain_labelled ds seen env g h n e in
      record {
        table = ds;
        is_table = g;
        same = same_self around ds seen;
        labels = v.labels;
        flows = [];
        after = env;
        by_names = v.by_names;
        lawful = λ F gF s. record { value = v.value F gF s; flow = refl; after_is = refl };
      }
  binding_labelled ds seen env g h n meaning.None i a k e = let v = plain_labelled ds seen env g h n e in
      record {
        table = ds;
        is_table = g;
        same = same_self around ds seen;
        labels = v.labels;
        flows = [];
        after = env;
        by_names = v.by_names;
        lawful = λ F gF s. record { value = v.value F gF s; flow = refl; after_is = refl };
      }

  -- an annotated name, with or without a value
  pub record AnnotatedLabelled (ds : List Tree) (seen : NamesBound) (env : Env) (n : Name) (a : Ann)
      (e : Option Expr) : Type 0 where
    pub table : List Tree
    pub is_table : IsDeclaredTable around table
    pub same : Agree ctx ds table seen
    pub labels : OptionLabels e
    pub flows : FlowLabels
    pub after : Env
    pub by_names : GoesByNames around table (n.text ∷ seen) after
    pub lawful : (F : List Tree) → IsDeclaredTable around F → Agree ctx table F (n.text ∷ seen)
        → LawfulAnnotated m ctx F env seen n a e labels flows after

  declaration_labelled : (F : List Tree) (seen : NamesBound) (n : Name) (r : NameMeaning) (t : Tree)
      → ((x : ℕ) → r ≡ meaning.Local x → is_first seen n ≡ true → declared_type F x ≡ t)
      → LawfulDeclaration m ctx F seen n r t
  declaration_labelled F seen n (meaning.Local x) t h = at_annotation F (is_first seen n) x t (h x refl)
  declaration_labelled F seen n (meaning.Const c) t h = tt
  declaration_labelled F seen n (meaning.Func c) t h = tt
  declaration_labelled F seen n (meaning.Class c) t h = tt
  declaration_labelled F seen n (meaning.Builtin c) t h = tt
  declaration_labelled F seen n meaning.None t h = tt

  annotation_well_formed : (ds : List Tree) (b : Test) (t : Tree) → IsWellFormed ctx.bases t
      → IsWellFormedIfAny ctx.bases (annotation_at m ctx ds b t)
  annotation_well_formed ds true t k = k
  annotation_well_formed ds false t k = tt

  pub annotated_labelled : (ds : List Tree) (seen : NamesBound) (env : Env) → IsDeclaredTable around ds
      → GoesByNames around ds seen env → (n : Name) (a : Ann) (e : Option Expr) → AnnotatedLabelled ds seen env n a e
  annotated_labelled ds seen env g h n a None =
      let st = name_set ds seen g n.text (ctx.resolve n.text) refl (read_ann m ctx.bases a)
      (read_ann_well_formed m ctx.bases ck.smaller a) in
      record {
        table = st.table;
        is_table = st.is_table;
        same = st.same;
        labels = tt;
        flows = [];
        after = env;
        by_names = by_names_on around ds st.table seen (n.text ∷ seen) env (within_one n.text seen) st.is_table st.same
            h;
        lawful = λ F gF s. (
          declaration_labelled F seen n (ctx.resolve n.text) (read_ann m ctx.bases a) (st.is F s),
          refl,
          refl,
        );
      }
  annotated_labelled ds seen env g h n a (Some e) =
      let t = read_ann m ctx.bases a in
      let b = binding_labelled ds seen env g h n (ctx.resolve n.text) refl (annotation_at m ctx ds (is_first seen n) t)
      (annotation_well_formed ds (is_first seen n) t (read_ann_well_formed m ctx.bases ck.smaller a)) e in
      record {
        table = b.table;
        is_table = b.is_table;
        same = b.same;
        labels = b.labels;
        flows = b.flows;
        after =
            b.after;
        by_names = b.by_names;
        lawful = b.lawful;
      }
