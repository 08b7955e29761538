-- The result of binding a name in a walk agrees with lawful labels.
use Rattle.std.proofs.Common.{◌≡◌, ◌⊎◌, ℕ, List, [], ◌∷◌, ◌++◌, refl, sym, ap, ◌∙◌, subst, inl, inr, arith}
use Rattle.std.specs.Prelude.{Bool as Test, true, false, not, Option, Some, None, unwrap_or}
use Rattle.pc_source.specs.declared.place.Place.{Place}
use Rattle.pc_tree.specs.declared.code.Code.TheVariants.{E24}
use Rattle.pc_tree.specs.declared.code.Finding.{Finding}
use Rattle.pc_tree.specs.Code.{finding}
use Rattle.pc_tree.specs.Depth.{place_of}
use Rattle.pc_tree.specs.Tree.{Name, Expr, Ann}
use Rattle.pc_scope.specs.declared.resolution.NameMeaning.{NameMeaning}
use Rattle.pc_scope.specs.declared.resolution.NameMeaning.TheVariants as meaning
use Rattle.pc_scope.specs.Resolution.{is_one_of}
use Rattle.pc_types.specs.Tree.{Tree, Any}
use Rattle.pc_types.specs.WellFormed.{IsWellFormed}
use Rattle.pc_annotations.specs.Annotations.{read_ann}
use Rattle.pc_annotations.proofs.Readings.{read_ann_well_formed}
use Rattle.pc_flow.specs.Environment.{Env, declared_type, assign, assigned_type}
use Rattle.pc_flow.specs.WellFormed.{IsWellFormedIfAny}
use Rattle.pc_flow.proofs.Conditions.{assign_well_formed, assigned_well_formed, current_well_formed}
use Rattle.pc_notes.specs.Notes.{Note}
use Rattle.pc_rules.specs.Operations.{Label, clean}
use Rattle.pc_rules.specs.Context.{FlowsInto}
use Rattle.pc_rules.specs.Labels.{FlowLabels, Labels, whole_label, type_of, Finds, IsFlowAt}
use Rattle.pc_rules.specs.Lawful.{Lawful}
use Rattle.pc_rules.specs.Computed.Expressions.{flows_of}
use Rattle.pc_rules.specs.Computed.Findings.{flows_at}
use Rattle.pc_rules.specs.Computed.Standing.{finds_in}
use Rattle.pc_rules.proofs.WellFormed.{unwrap_well_formed}
use Rattle.pc_module_rules.specs.StatementLabels.{OptionLabels}
use Rattle.pc_module_rules.specs.Statements.{NamesBound, is_first, only_code, DeclaredAt, known_type, LawfulBinding}
use Rattle.pc_module_rules.specs.Statements.{LawfulDeclaration, LawfulTarget, annotation_at, LawfulAnnotated}
use Rattle.pc_module_rules.specs.Statements.{OptionFinds, option_place, AnnotationFinds}
use Rattle.pc_module_rules.specs.Laws.Labellings.{Surroundings}
use Rattle.pc_module_rules.specs.Computed.Statements.{DeclaredTypes, type_table, bound_type, known_declared, BodyContext}
use Rattle.pc_module_rules.specs.Computed.Statements.{BindingResult, standing_here, bind_label, bind_value, declared_alone}
use Rattle.pc_module_rules.specs.Computed.Statements.{annotation_finds, bound_name, bind_annotated, bind_item}
use Rattle.pc_module_rules.specs.Laws.Walks.{TableFits, EnvFits, Adds, body_context_in, Lists}
use Rattle.pc_module_rules.proofs.BoundNames.{here_among}
use Rattle.pc_module_rules.proofs.DeclaredTypes.{known_well_formed, declared_is, want_is, type_is}
use Rattle.pc_module_rules.proofs.Labelled.{type_of_bound}
use Rattle.pc_module_rules.proofs.OneStatement.{assign_kept}
use Rattle.pc_module_rules.proofs.SaidByStatements.{no_flows}
use Rattle.pc_module_rules.proofs.WalkedFindings.{lists_annotation, lists_one, adds_nothing, adds_same, adds_list}
use Rattle.pc_module_rules.proofs.WalkedFindings.{adds_both}
use Rattle.pc_module_rules.proofs.WalkedTables.{NameFits, name_fits, other_fits}
use Rattle.pc_module_rules.proofs.WalkedExpressions.{flows_told, flows_found, told}

-- nothing found where nothing flows
nothing_flows : (flows : FlowLabels) (p : Place) (P : Finding → Type 0) → flows ≡ [] → (f : Finding) → P f
    ⊎ IsFlowAt p flows f → P f
nothing_flows flows p P e f h = elim h [ inl a ↦ a | inr b ↦ absurd (no_flows flows p f e b) ]

module _ (around : Surroundings) (returned : Tree) (declared : List Tree) where
  open around use {whole as m, context as ctx, context_well_formed as ck}

  abbrev context : BodyContext
  context = body_context_in around returned

  -- a name bound has come to what is said: to this environment, with this found
  pub record BoundSays (seen : NamesBound) (n : Name) (table : DeclaredTypes) (found : List Note) (b : BindingResult)
      (after : Env) (Says : Finding → Type 0) : Type 0 where
    pub fits : TableFits around declared (n.text ∷ seen) b.table
    pub grows : (env : Env) → EnvFits around declared table env → EnvFits around declared b.table env
    pub env_is : b.env ≡ after
    pub env_fits : EnvFits around declared b.table after
    pub found_is : Adds found b.found Says

  says_same : {P Q : Finding → Type 0} (seen : NamesBound) (n : Name) (table : DeclaredTypes) (found : List Note)
      (b : BindingResult) (after : Env) → ((f : Finding) → P f → Q f) → ((f : Finding) → Q f → P f)
      → BoundSays seen n table found b after P → BoundSays seen n table found b after Q
  says_same seen n table found b after to from h = record {
    fits = h.fits;
    grows = h.grows;
    env_is = h.env_is;
    env_fits = h.env_fits;
    found_is = adds_same found b.found to from h.found_is;
  }

  -- with more found before
  says_behind : {P Q : Finding → Type 0} (seen : NamesBound) (n : Name) (table : DeclaredTypes) (found more : List Note)
      (b : BindingResult) (after : Env) → Adds found more P → BoundSays seen n table more b after Q
      → BoundSays seen n table found b after (λ f. P f ⊎ Q f)
  says_behind seen n table found more b after a h = record {
    fits = h.fits;
    grows = h.grows;
    env_is = h.env_is;
    env_fits = h.env_fits;
    found_is = adds_both found more b.found a h.found_is;
  }

  -- ---- a local bound

  module _ (seen : NamesBound) (n : Name) (table : DeclaredTypes) (h : TableFits around declared seen table) where
    module _ (x : ℕ) (i : ctx.resolve n.text ≡ meaning.Local x) where
      bound_here : is_one_of n.text seen ≡ true → bound_type table x ≡ Some (declared_type declared x)
      bound_here e = h.bound n.text x e i

      unbound_here : is_one_of n.text seen ≡ false → bound_type table x ≡ None
      unbound_here e = h.unbound n.text x e i

      -- bound to what has a label
      label_says : (env : Env) → EnvFits around declared table env → (want : Option Tree) (p : Place) (label : Label)
          (flows : FlowLabels) (after : Env) (found : List Note)
          → unwrap_or want label.type ≡ declared_type declared x → IsWellFormedIfAny ctx.bases want
          → IsWellFormed ctx.bases label.type
          → FlowsInto ctx.bases label (declared_type declared x ∷ []) flows
          → after ≡ assign env x (assigned_type (declared_type declared x) label.type (only_code flows))
          → BoundSays seen n table found (bind_label context table env x want p label found) after (IsFlowAt p flows)
      label_says env f want p label flows after found is kw km flow after_is =
          let d = unwrap_or want label.type in
          let kd : IsWellFormed ctx.bases d = unwrap_well_formed ctx.bases want label.type kw km in
          let nf = name_fits around declared seen n.text x i table h d (λ e. sym is) kd in
          let q : flows_of ctx.bases label (d ∷ []) ≡ flows = flows_told around label (d ∷ []) flows km (kd, tt)
          (subst (λ t. FlowsInto ctx.bases label (t ∷ []) flows) (sym is) flow) in
          let b = bind_label context table env x want p label found in
          let env_is : b.env ≡ after = (λ j. assign env x (assigned_type (is j) label.type (only_code (q j))))
          ∙ sym after_is in
          let same : declared_type declared x ≡ declared_type (type_table b.table) x =
          sym (type_of_bound b.table x ∙ ap (λ o. unwrap_or o Any)
          (nf.fits.bound n.text x (here_among n.text seen) i)) in
          let u = assigned_type d label.type (only_code (flows_of ctx.bases label (d ∷ []))) in
          record {
            fits = nf.fits;
            grows = nf.grows;
            env_is = env_is;
            env_fits = subst (EnvFits around declared b.table) env_is (record {
              same = assign_kept declared (type_table b.table) env x u (nf.grows env f).same same;
              well_formed = assign_well_formed ctx.bases env x u (assigned_well_formed ctx.bases d label.type
                  (only_code (flows_of ctx.bases label (d ∷ []))) kd km) f.well_formed;
            });
            found_is = adds_list found (flows_at p (flows_of ctx.bases label (d ∷ [])))
                (flows_found around p label (d ∷ []) flows q);
          }

      -- bound to a value
      value_says : (env : Env) → EnvFits around declared table env → (a a' : Option Tree)
          → (is_first seen n ≡ true → a ≡ a') → IsWellFormedIfAny ctx.bases a'
          → (e : Expr) (labels : Labels e) (flows : FlowLabels) (after : Env) (found : List Note)
          → LawfulBinding m ctx declared env seen n (meaning.Local x) a e labels flows after
          → BoundSays seen n table found (bind_value context table env (meaning.Local x) a' e found) after
          (λ f. Finds e labels f ⊎ IsFlowAt (place_of e) flows f)
      value_says env f a a' s ka e labels flows after found l =
          let o = bound_type table x in
          let want = known_declared o a' in
          let w : known_type m ctx declared (is_first seen n) x a ≡ want = want_is m ctx declared x o
          (is_one_of n.text seen) bound_here unbound_here (is_one_of n.text seen) refl a a' s (type_of e labels)
          l.at_first in
          let kw : IsWellFormedIfAny ctx.bases want = known_well_formed ctx.bases o a'
          (current_well_formed ctx.bases table x h.well_formed) ka in
          let v = told around declared table h.well_formed env f want kw e labels
          (subst (λ y. Lawful ctx declared env y e labels) w l.value) in
          let is : unwrap_or want (type_of e labels) ≡ declared_type declared x =
          ap (λ y. unwrap_or y (type_of e labels)) (sym w) ∙ type_is m ctx declared x o (is_one_of n.text seen)
          bound_here unbound_here (is_one_of n.text seen) a (type_of e labels) l.at_first in
          let finds = finds_in (standing_here context table env) want e in
          subst (λ k. BoundSays seen n table found (bind_label context table env x want (place_of e) k (found ++ finds))
          after (λ g. Finds e labels g ⊎ IsFlowAt (place_of e) flows g)) (sym v.label)
          (says_behind seen n table found (found ++ finds) (bind_label context table env x want (place_of e)
          (whole_label e labels) (found ++ finds)) after (adds_list found finds v.found)
          (label_says env f want (place_of e) (whole_label e labels) flows after (found ++ finds) is kw v.well_formed
          l.flow l.after_is))

    -- a name that means no local binds nothing
    plain_says : ((x : ℕ) → ctx.resolve n.text ≡ meaning.Local x → ⊥) → (env : Env) → EnvFits around declared table env
        → (e : Expr) (labels : Labels e) (flows : FlowLabels) (after : Env) (found : List Note)
        → Lawful ctx declared env None e labels → flows ≡ [] → after ≡ env
        → BoundSays seen n table found (record {
          table = table;
          env = env;
          found =
              found ++ finds_in (standing_here context table env) None e;
        }) after (λ f. Finds e labels f
        ⊎ IsFlowAt (place_of e) flows f)
    plain_says other env f e labels flows after found l none is =
        let v = told around declared table h.well_formed env f None tt e labels l in
        let nf = other_fits around declared seen n.text table other h in
        record {
          fits = nf.fits;
          grows = nf.grows;
          env_is = sym is;
          env_fits = subst (EnvFits around declared table) (sym is) f;
          found_is = adds_same found (found ++ finds_in (standing_here context table env) None e) (λ g y. inl y)
              (nothing_flows flows (place_of e) (Finds e labels) none)
              (adds_list found (finds_in (standing_here context table env) None e) v.found);
        }

    pub binding_says : (r : NameMeaning) → ctx.resolve n.text ≡ r → (env : Env) → EnvFits around declared table env
        → (a a' : Option Tree) → (is_first seen n ≡ true → a ≡ a') → IsWellFormedIfAny ctx.bases a'
        → (e : Expr) (labels : Labels e) (flows : FlowLabels) (after : Env) (found : List Note)
        → LawfulBinding m ctx declared env seen n r a e labels flows after
        → BoundSays seen n table found (bind_value context table env r a' e found) after (λ f. Finds e labels f
        ⊎ IsFlowAt (place_of e) flows f)
    binding_says (meaning.Local x) i env f a a' s ka e labels flows after found l = value_says x i env f a a' s ka e labels
        flows after found l
    binding_says (meaning.Const c) i env f a a' s ka e labels flows after found l =
        plain_says (λ x j. absurd (grind (arith, i, j))) env f e labels flows after found l.value l.flow l.after_is
    binding_says (meaning.Func c) i env f a a' s ka e labels flows after found l =
        plain_says (λ x j. absurd (grind (arith, i, j))) env f e labels flows after found l.value l.flow l.after_is
    binding_says (meaning.Class c) i env f a a' s ka e labels flows after found l =
        plain_says (λ x j. absurd (grind (arith, i, j))) env f e labels flows after found l.value l.flow l.after_is
    binding_says (meaning.Builtin c) i env f a a' s ka e labels flows after found l =
        plain_says (λ x j. absurd (grind (arith, i, j))) env f e labels flows after found l.value l.flow l.after_is
    binding_says meaning.None i env f a a' s ka e labels flows after found l =
        plain_says (λ x j. absurd (grind (arith, i, j))) env f e labels flows after found l.value l.flow l.after_is

    -- ---- the target of a `for`

    idle_says : ((x : ℕ) → ctx.resolve n.text ≡ meaning.Local x → ⊥) → (head : Env) → EnvFits around declared table head
        → (p : Place) (flows : FlowLabels) (inside : Env) (found : List Note) → flows ≡ [] → inside ≡ head
        → BoundSays seen n table found (record { table = table; env = head; found = found }) inside (IsFlowAt p flows)
    idle_says other head f p flows inside found none is =
        let nf = other_fits around declared seen n.text table other h in
        record {
          fits = nf.fits;
          grows = nf.grows;
          env_is = sym is;
          env_fits = subst (EnvFits around declared table) (sym is) f;
          found_is = adds_same found found (λ g y. absurd y) (λ g y. no_flows flows p g none y) (adds_nothing found);
        }

    pub target_says : (r : NameMeaning) → ctx.resolve n.text ≡ r → (head : Env) → EnvFits around declared table head
        → (item : Label) → IsWellFormed ctx.bases item.type → (p : Place) (flows : FlowLabels) (inside : Env)
        (found : List Note)
        → LawfulTarget m ctx declared seen n r head item flows inside
        → BoundSays seen n table found (bind_item context table head r p item.type found) inside (IsFlowAt p flows)
    target_says (meaning.Local x) i head f item k p flows inside found l =
        label_says x i head f (bound_type table x) p (clean item.type) flows inside found
        (declared_is m ctx declared x (bound_type table x) (is_one_of n.text seen) (bound_here x i) (unbound_here x i)
        item.type (is_one_of n.text seen) refl l.at_first) (current_well_formed ctx.bases table x h.well_formed) k
        l.flow l.inside_is
    target_says (meaning.Const c) i head f item k p flows inside found l = idle_says (λ x j. absurd (grind (arith, i, j)))
        head f p flows inside found l.0 l.1
    target_says (meaning.Func c) i head f item k p flows inside found l = idle_says (λ x j. absurd (grind (arith, i, j)))
        head f p flows inside found l.0 l.1
    target_says (meaning.Class c) i head f item k p flows inside found l = idle_says (λ x j. absurd (grind (arith, i, j)))
        head f p flows inside found l.0 l.1
    target_says (meaning.Builtin c) i head f item k p flows inside found l = idle_says (λ x j. absurd (grind (arith, i, j)))
        head f p flows inside found l.0 l.1
    target_says meaning.None i head f item k p flows inside found l = idle_says (λ x j. absurd (grind (arith, i, j))) head f
        p flows inside found l.0 l.1

    -- ---- annotations

    annotation_says : (r : NameMeaning) → ctx.resolve n.text ≡ r → (a : Ann)
        → Lists (annotation_finds context (bound_name context table r) n a)
        (AnnotationFinds m ctx r (is_first seen n) n a)
    annotation_says (meaning.Local x) i a = go (is_one_of n.text seen) refl
      where
        go : (b : Test) → is_one_of n.text seen ≡ b → Lists (annotation_finds context (bound_type table x) n a)
            (AnnotationFinds m ctx (meaning.Local x) (not b) n a)
        go true e = subst (λ o. Lists (annotation_finds context o n a) (AnnotationFinds m ctx (meaning.Local x) false n a))
            (sym (bound_here x i e)) (lists_one (finding n.place E24) refl)
        go false e = subst (λ o. Lists (annotation_finds context o n a) (AnnotationFinds m ctx (meaning.Local x) true n a))
            (sym (unbound_here x i e)) (lists_annotation m ctx.bases a)
    annotation_says (meaning.Const c) i a = lists_annotation m ctx.bases a
    annotation_says (meaning.Func c) i a = lists_annotation m ctx.bases a
    annotation_says (meaning.Class c) i a = lists_annotation m ctx.bases a
    annotation_says (meaning.Builtin c) i a = lists_annotation m ctx.bases a
    annotation_says meaning.None i a = lists_annotation m ctx.bases a

    declaration_fits : (r : NameMeaning) → ctx.resolve n.text ≡ r → (t : Tree) → IsWellFormed ctx.bases t
        → LawfulDeclaration m ctx declared seen n r t → NameFits around declared seen n.text table
        (declared_alone context table r t)
    declaration_fits (meaning.Local x) i t k l = name_fits around declared seen n.text x i table h t
        (λ e. first_type (is_one_of n.text seen) e l) k
      where
        first_type : (b : Test) → b ≡ false → DeclaredAt m ctx declared (not b) x (Some t) t → declared_type declared x
            ≡ t
        first_type true e d = absurd (grind (arith, e))
        first_type false e d = d
    declaration_fits (meaning.Const c) i t k l = other_fits around declared seen n.text table
        (λ x j. absurd (grind (arith, i, j))) h
    declaration_fits (meaning.Func c) i t k l = other_fits around declared seen n.text table
        (λ x j. absurd (grind (arith, i, j))) h
    declaration_fits (meaning.Class c) i t k l = other_fits around declared seen n.text table
        (λ x j. absurd (grind (arith, i, j))) h
    declaration_fits (meaning.Builtin c) i t k l = other_fits around declared seen n.text table
        (λ x j. absurd (grind (arith, i, j))) h
    declaration_fits meaning.None i t k l = other_fits around declared seen n.text table
        (λ x j. absurd (grind (arith, i, j))) h

    -- a name annotated, with a value or alone
    pub annotated_says : (env : Env) → EnvFits around declared table env → (p : Place) (a : Ann) (e : Option Expr)
        (labels : OptionLabels e) (flows : FlowLabels) (after : Env) (found : List Note)
        → LawfulAnnotated m ctx declared env seen n a e labels flows after
        → BoundSays seen n table found (bind_annotated context table env n a e found) after
        (λ f. AnnotationFinds m ctx (ctx.resolve n.text) (is_first seen n) n a f
        ⊎ (IsFlowAt (option_place m ctx p e) flows f ⊎ OptionFinds m ctx e labels f))
    annotated_says env f p a None labels flows after found l =
        let nf = declaration_fits (ctx.resolve n.text) refl (read_ann m ctx.bases a)
        (read_ann_well_formed m ctx.bases ck.smaller a) l.0 in
        let finds = annotation_finds context (bound_name context table (ctx.resolve n.text)) n a in
        record {
          fits = nf.fits;
          grows = nf.grows;
          env_is = sym l.2;
          env_fits = subst (EnvFits around declared (declared_alone context table (ctx.resolve n.text)
              (read_ann m ctx.bases a))) (sym l.2) (nf.grows env f);
          found_is = adds_same found (found ++ finds) (λ g y. inl y)
              (λ g y. elim y [
                | inl u ↦ u
                | inr v ↦ elim v [
                  | inl w ↦ absurd (no_flows flows p g l.1 w)
                  | inr w ↦
                      absurd w
                ]
              ]) (adds_list found finds (annotation_says (ctx.resolve n.text) refl a));
        }
    annotated_says env f p a (Some e) labels flows after found l =
        let t = read_ann m ctx.bases a in
        let finds = annotation_finds context (bound_name context table (ctx.resolve n.text)) n a in
        let b = bind_value context table env (ctx.resolve n.text) (Some t) e (found ++ finds) in
        let v = binding_says (ctx.resolve n.text) refl env f (annotation_at m ctx declared (is_first seen n) t) (Some t)
        (λ q. ap (λ b. annotation_at m ctx declared b t) q) (read_ann_well_formed m ctx.bases ck.smaller a) e labels
        flows after (found ++ finds) l in
        says_same seen n table found b after
        (λ g y. elim y [ inl u ↦ inl u | inr v ↦ elim v [ inl w ↦ inr (inr w) | inr w ↦ inr (inl w) ] ])
        (λ g y. elim y [ inl u ↦ inl u | inr v ↦ elim v [ inl w ↦ inr (inr w) | inr w ↦ inr (inl w) ] ])
        (says_behind seen n table found (found ++ finds) b after (adds_list found finds
        (annotation_says (ctx.resolve n.text) refl a)) v)
