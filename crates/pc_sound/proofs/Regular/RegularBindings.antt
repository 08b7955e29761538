-- The bindings of assignments, targets, iterables and annotated names are regular: in text order each local's declared
-- type is one of an annotation, of an earlier label, or Any.
use Rattle.std.proofs.Common.{◌≡◌, ℕ, List, [], ◌∷◌, ◌++◌, map, refl, sym, ◌∙◌, subst, arith}
use Rattle.std.specs.Prelude.{Bool as Test, true, false, not, ◌||◌, if◌then◌else◌, Option, Some, None, bytes_eq}
use Rattle.std.specs.Prelude.{flat_map}
use Rattle.std.specs.List.{list_any}
use Rattle.std.proofs.lemmas.Slice.Eq.{bytes_eq-Decides}
use Rattle.pc_source.specs.declared.place.Place.{Place}
use Rattle.pc_tree.specs.declared.code.Code.{Code}
use Rattle.pc_tree.specs.declared.code.Code.TheVariants.{A5}
use Rattle.pc_tree.specs.Tree.{Name, Expr, Exprs, Keywords, name, call, Target, to_name, to_attribute, to_index}
use Rattle.pc_tree.specs.Tree.{Module}
use Rattle.pc_scope.specs.declared.resolution.NameMeaning.{NameMeaning}
use Rattle.pc_scope.specs.declared.resolution.NameMeaning.TheVariants as meaning
use Rattle.pc_scope.specs.Bindings.{texts}
use Rattle.pc_scope.specs.Resolution.{is_one_of, resolve_in_module}
use Rattle.pc_types.specs.Tree.{Tree, Any, Object, Int, Str, Class, ListOf, DictOf, TupleOf, Union}
use Rattle.pc_types.specs.Shape.{members, list_of_trees}
use Rattle.pc_flow.specs.Environment.{Env, declared_type, assigned_type}
use Rattle.pc_rules.specs.Context.{Context}
use Rattle.pc_class.specs.Facts.{TypedParameter, Method, field_by_name, method_by_name, class_facts_at}
use Rattle.pc_rules.specs.Operations.{Label, clean, StoreOffer, has_error, store_codes, iterate_member, store_found}
use Rattle.pc_rules.specs.Operations.{store_attribute_member, store_index_member, stored_types, only_type}
use Rattle.pc_rules.specs.Calls.{arguments_given, is_suited, builtin_signature, positional_seat, named_seat, is_range}
use Rattle.pc_rules.specs.Calls.{range_offers, range_item}
use Rattle.pc_rules.specs.Labels.{FlowLabels, Labels, type_of}
use Rattle.pc_rules.specs.Lawful.{Lawful}
use Rattle.pc_module_rules.specs.StatementLabels.{TargetLabels}
use Rattle.pc_module_rules.specs.Statements.{NamesBound, is_first, only_code, LawfulRange, LawfulValues, RangeOrValues}
use Rattle.pc_module_rules.specs.Statements.{LawfulIterable, LawfulTarget, LawfulDeclaration, annotation_at, DeclaredAt}
use Rattle.pc_module_rules.specs.Statements.{known_type, bound_env, LawfulBinding, LawfulStore, UndeclaredName}
use Rattle.pc_module_rules.specs.Statements.{AreUndeclared}
use Rattle.pc_sound.proofs.TruthValues.{not_both}
use Rattle.pc_sound.proofs.Regular.RegularParts.{Asked, IsRegular, NamesAsked, Regular, regular_type, regular_members}
use Rattle.pc_sound.proofs.Regular.RegularTypes.{EachRegular, OptionRegular, EnvRegular, assign_regular, all_regular}
use Rattle.pc_sound.proofs.Regular.RegularOperations.{append_regular, key_regular, listed_regular, operation_regular}
use Rattle.pc_sound.proofs.Regular.RegularCalls.{ContextRegular, FieldRegular, field_regular, called_regular}
use Rattle.pc_sound.proofs.Regular.RegularCalls.{call_regular, positional_regular, keyword_regular}
use Rattle.pc_sound.proofs.Regular.RegularLabels.{Timely, items_regular, keywords_regular, test_punctual}
use Rattle.pc_sound.proofs.Regular.RegularLabels.{labels_regular}
use Rattle.pc_sound.proofs.Regular.RegularStatements.{TargetRegular}
use Rattle.pc_sound.proofs.Steps.Frames.{local_injective}

-- ---- names

-- two locals that one meaning is are the same
pub local_same : {r : NameMeaning} {x y : ℕ} → r ≡ meaning.Local x → r ≡ meaning.Local y → x ≡ y
local_same f g = local_injective (sym f ∙ g)

module _ (asked : Asked) where
  module _ (m : Module) (ctx : Context) (declared : List Tree) where
    -- a local of this name has such a declared type
    abbrev pub NameRegular : List ℕ → Type 0
    NameRegular word = (x : ℕ) → ctx.resolve word ≡ meaning.Local x → IsRegular asked (declared_type declared x)

    abbrev pub NamesRegular : List Name → Type 0
    NamesRegular [] = Unit {0}
    NamesRegular (n ∷ ns) = NameRegular n.text × NamesRegular ns

    abbrev pub SeenRegular : NamesBound → Type 0
    SeenRegular seen = (word : List ℕ) → is_one_of word seen ≡ true → NameRegular word

    pub names_append : (ns ms : List Name) → NamesRegular ns → NamesRegular ms → NamesRegular (ns ++ ms)
    names_append [] ms h k = k
    names_append (n ∷ ns) ms h k = (h.0, names_append ns ms h.1 k)

    pub seen_more : (n : Name) (seen : NamesBound) → NameRegular n.text → SeenRegular seen → SeenRegular (n.text ∷ seen)
    seen_more n seen h k word among = go (bytes_eq word n.text) refl among
      where
        go : (b : Test) → bytes_eq word n.text ≡ b → (b || list_any (bytes_eq word) seen) ≡ true → NameRegular word
        go true e a = subst NameRegular (sym ((bytes_eq-Decides word n.text).0 e)) h
        go false e a = k word a

    pub seen_names : (ns : List Name) (seen : NamesBound) → NamesRegular ns → SeenRegular seen
        → SeenRegular (texts ns ++ seen)
    seen_names [] seen h k = k
    seen_names (n ∷ ns) seen h k = seen_more n (texts ns ++ seen) h.0 (seen_names ns seen h.1 k)

    -- names that are first bound where no run comes
    pub undeclared_regular : (seen : NamesBound) (ns : List Name) → SeenRegular seen
        → AreUndeclared m ctx declared seen ns → NamesRegular ns
    undeclared_regular seen [] k u = tt
    undeclared_regular seen (n ∷ ns) k u = let h = one (is_one_of n.text seen) refl (ctx.resolve n.text) refl u.0 in
        (h, undeclared_regular (n.text ∷ seen) ns (seen_more n seen h k) u.1)
      where
        one : (b : Test) → is_one_of n.text seen ≡ b → (r : NameMeaning) → ctx.resolve n.text ≡ r
            → UndeclaredName m ctx declared (not b) r → NameRegular n.text
        one true e r is u = k n.text e
        one false e (meaning.Local x) is u = λ y i. subst (λ z. IsRegular asked (declared_type declared z))
            (local_injective (sym is ∙ i)) (subst (IsRegular asked) (sym u) tt)
        one false e _ is u = λ y i. absurd (grind (arith, sym is ∙ i))

    -- a name is regular where the local that it is has such a declared type
    local_named : (n : Name) (x : ℕ) → ctx.resolve n.text ≡ meaning.Local x → IsRegular asked (declared_type declared x)
        → NameRegular n.text
    local_named n x is h y i = subst (λ z. IsRegular asked (declared_type declared z)) (local_same is i) h

    no_local_named : (n : Name) → ((x : ℕ) → ctx.resolve n.text ≡ meaning.Local x → ⊥) → NameRegular n.text
    no_local_named n no_x y i = absurd (no_x y i)

  module _ (m : Module) (meant : NamesAsked asked (resolve_in_module m)) (ctx : Context) (declared : List Tree)
      (regular : ContextRegular asked ctx) (timely : (e : Expr) → Timely asked ctx declared e) where
    -- ---- a value bound to a name

    assigned_regular : (d from : Tree) (c : Option Code) → IsRegular asked d → IsRegular asked from
        → IsRegular asked (assigned_type d from c)
    assigned_regular (Union a b) from None h k = k
    assigned_regular d from c h k = h

    bound_regular : (env : Env) (x : ℕ) (from : Tree) (flows : FlowLabels) → EnvRegular asked declared env
        → IsRegular asked (declared_type declared x) → IsRegular asked from
        → EnvRegular asked declared (bound_env m ctx declared env x from flows)
    bound_regular env x from flows h d k = assign_regular asked declared env x
        (assigned_type (declared_type declared x) from (only_code flows)) h
        (assigned_regular (declared_type declared x) from (only_code flows) d k) d

    pub record BoundRegular (n : Name) (e : Expr) (labels : Labels e) (after : Env) : Type 0 where
      pub regular_labels : Regular asked e labels
      pub name_regular : NameRegular m ctx declared n.text
      pub env_regular : EnvRegular asked declared after

    -- the expected type is regular, where the declared type is known
    known_regular : (first : Test) (x : ℕ) (annotation : Option Tree) (from : Tree) → OptionRegular asked annotation
        → (first ≡ false → IsRegular asked (declared_type declared x)) → DeclaredAt m ctx declared first x annotation
        from → OptionRegular asked (known_type m ctx declared first x annotation)
    known_regular true x None from a seen at = tt
    known_regular true x (Some t) from a seen at = subst (IsRegular asked) (sym at) a
    known_regular false x annotation from a seen at = seen refl

    declared_regular : (first : Test) (x : ℕ) (annotation : Option Tree) (from : Tree) → OptionRegular asked annotation
        → IsRegular asked from → (first ≡ false → IsRegular asked (declared_type declared x))
        → DeclaredAt m ctx declared first x annotation from → IsRegular asked (declared_type declared x)
    declared_regular true x None from a k seen at = subst (IsRegular asked) (sym at) k
    declared_regular true x (Some t) from a k seen at = subst (IsRegular asked) (sym at) a
    declared_regular false x annotation from a k seen at = seen refl

    -- a name that is not bound first was seen
    seen_first : (seen : NamesBound) (n : Name) (x : ℕ) → SeenRegular m ctx declared seen
        → ctx.resolve n.text ≡ meaning.Local x → is_first seen n ≡ false → IsRegular asked (declared_type declared x)
    seen_first seen n x k is e = go (is_one_of n.text seen) refl e
      where
        go : (b : Test) → is_one_of n.text seen ≡ b → not b ≡ false → IsRegular asked (declared_type declared x)
        go true a e = k n.text a x is
        go false a e = absurd (not_both refl e)

    pub binding_regular : (env : Env) (seen : NamesBound) (n : Name) (annotation : Option Tree) (e : Expr)
        (labels : Labels e) (flows : FlowLabels) (after : Env) → EnvRegular asked declared env
        → SeenRegular m ctx declared seen → OptionRegular asked annotation → LawfulBinding m ctx declared env seen n
        (ctx.resolve n.text) annotation e labels flows after → BoundRegular n e labels after
    binding_regular env seen n annotation e labels flows after ek sk ak law = go (ctx.resolve n.text) refl law
      where
        elsewhere : (r : NameMeaning) → ctx.resolve n.text ≡ r → ((x : ℕ) → r ≡ meaning.Local x → ⊥)
            → Lawful ctx declared env None e labels → after ≡ env → BoundRegular n e labels after
        elsewhere r is other law same = record {
          regular_labels = labels_regular asked ctx declared regular env ek None tt e (timely e) labels law;
          name_regular = no_local_named m ctx declared n (λ x i. other x (sym is ∙ i));
          env_regular = subst (EnvRegular asked declared) (sym same) ek;
        }

        go : (r : NameMeaning) → ctx.resolve n.text ≡ r → LawfulBinding m ctx declared env seen n r annotation e labels flows
            after → BoundRegular n e labels after
        go (meaning.Local x) is law =
            let regular_labels = labels_regular asked ctx declared regular env ek
            (known_type m ctx declared (is_first seen n) x annotation)
            (known_regular (is_first seen n) x annotation (type_of e labels) ak (seen_first seen n x sk is)
            law.at_first) e (timely e) labels law.value in
            let d = declared_regular (is_first seen n) x annotation (type_of e labels) ak
            (regular_type asked e labels regular_labels) (seen_first seen n x sk is) law.at_first in
            record {
              regular_labels = regular_labels;
              name_regular = local_named m ctx declared n x is d;
              env_regular =
                  subst (EnvRegular asked declared) (sym law.after_is)
                  (bound_regular env x (type_of e labels) flows ek d
                  (regular_type asked e labels regular_labels));
            }
        go (meaning.Const i) is law = elsewhere (meaning.Const i) is (λ x e. absurd (grind (arith, e))) law.value law.after_is
        go (meaning.Func i) is law = elsewhere (meaning.Func i) is (λ x e. absurd (grind (arith, e))) law.value law.after_is
        go (meaning.Class i) is law = elsewhere (meaning.Class i) is (λ x e. absurd (grind (arith, e))) law.value law.after_is
        go (meaning.Builtin b) is law = elsewhere (meaning.Builtin b) is (λ x e. absurd (grind (arith, e))) law.value
            law.after_is
        go meaning.None is law = elsewhere meaning.None is (λ x e. absurd (grind (arith, e))) law.value law.after_is

    -- ---- targets that are no names

    store_attribute_regular : (word : List ℕ) (t : Tree) → EachRegular asked
        (store_attribute_member ctx.classes word t).stores
    store_attribute_regular word (Class c) = found (field_by_name (class_facts_at ctx.classes c).fields word)
        (method_by_name (class_facts_at ctx.classes c).methods word)
        (field_regular asked (class_facts_at ctx.classes c).fields word (regular.fields c))
      where
        found : (f : Option TypedParameter) (q : Option Method) → FieldRegular asked f
            → EachRegular asked (store_found f q).stores
        found (Some f) q h = (h, tt)
        found None (Some q) h = tt
        found None None h = tt
    store_attribute_regular word _ = tt

    store_index_regular : (t : Tree) → IsRegular asked t → EachRegular asked (store_index_member t).stores
    store_index_regular (ListOf t) h = (h, tt)
    store_index_regular (DictOf k v) h = (h.1, tt)
    store_index_regular _ h = tt

    stored_all : (offer : Tree → StoreOffer) → ((t : Tree) → IsRegular asked t → EachRegular asked (offer t).stores)
        → (ms : List Tree) → EachRegular asked ms → EachRegular asked (flat_map (λ o. o.stores) (map offer ms))
    stored_all offer each [] h = tt
    stored_all offer each (t ∷ ms) h = append_regular asked (offer t).stores (flat_map (λ o. o.stores) (map offer ms))
        (each t h.0) (stored_all offer each ms h.1)

    stored_regular : (offer : Tree → StoreOffer) → ((t : Tree) → IsRegular asked t → EachRegular asked (offer t).stores)
        → (t : Tree) → IsRegular asked t → OptionRegular asked (only_type (map offer (members t))
        (stored_types (map offer (members t))))
    stored_regular offer each t h = only (map offer (members t)) (stored_types (map offer (members t)))
        (all (has_error (store_codes (map offer (members t)))))
      where
        all : (b : Test) → EachRegular asked (if b then [] else flat_map (λ o. o.stores) (map offer (members t)))
        all true = tt
        all false = stored_all offer each (members t) (regular_members asked t h)

        only : (os : List StoreOffer) (ts : List Tree) → EachRegular asked ts → OptionRegular asked (only_type os ts)
        only (o ∷ []) (t ∷ []) h = h.0
        only _ _ h = tt

    pub record StoreRegular (t : Target) (target : TargetLabels t) (e : Expr) (labels : Labels e) : Type 0 where
      pub regular_labels : Regular asked e labels
      pub target_regular : TargetRegular asked t target

    pub store_regular : (env : Env) (t : Target) (target : TargetLabels t) (e : Expr) (labels : Labels e)
        (flows : FlowLabels) → EnvRegular asked declared env → LawfulStore m ctx declared env t target e labels flows
        → StoreRegular t target e labels
    store_regular env (to_name n) target e labels flows ek law = absurd law
    store_regular env (to_attribute p o field) target e labels flows ek law =
        let k = labels_regular asked ctx declared regular env ek None tt o (timely o) target.object law.object in
        record {
          regular_labels = labels_regular asked ctx declared regular env ek _
              (stored_regular (store_attribute_member ctx.classes field.text)
              (λ t h. store_attribute_regular field.text t) (type_of o target.object)
              (regular_type asked o target.object k)) e (timely e) labels law.value;
          target_regular = k;
        }
    store_regular env (to_index p o i) target e labels flows ek law =
        let k = labels_regular asked ctx declared regular env ek None tt o (timely o) target.object law.object in
        record {
          regular_labels = labels_regular asked ctx declared regular env ek _
              (stored_regular store_index_member store_index_regular (type_of o target.object)
              (regular_type asked o target.object k)) e (timely e) labels law.value;
          target_regular =
              (k, labels_regular asked ctx declared regular env ek None tt i (timely i) target.key law.key);
        }

    -- ---- the iterable of a `for`, and its target

    pub record IterableRegular (e : Expr) (labels : Labels e) (item : Label) : Type 0 where
      pub regular_labels : Regular asked e labels
      pub item_regular : IsRegular asked item.type

    iterate_regular : (t : Tree) → IsRegular asked t → IsRegular asked (iterate_member ctx.bases t).gives
    iterate_regular (ListOf t) h = h
    iterate_regular (DictOf k v) h = key_regular asked k h.0
    iterate_regular Str h = tt
    iterate_regular (TupleOf ts) h = all_regular asked ctx.bases (list_of_trees ts) (listed_regular asked ts h)
    iterate_regular _ h = tt

    values_regular : (env : Env) (e : Expr) (labels : Labels e) (item : Label) → EnvRegular asked declared env
        → LawfulValues m ctx declared env e labels item → IterableRegular e labels item
    values_regular env e labels item ek law =
        let k = labels_regular asked ctx declared regular env ek None tt e (timely e) labels law.0 in
        record {
          regular_labels = k;
          item_regular = subst (λ x. IsRegular asked x.type) (sym law.1)
              (operation_regular asked ctx.bases (iterate_member ctx.bases) iterate_regular (type_of e labels)
              (regular_type asked e labels k));
        }

    range_regular : (env : Env) (p : Place) (n : Name) (args : Exprs) (kws : Keywords)
        (labels : Labels (call p (name n) args kws)) (item : Label) → EnvRegular asked declared env
        → LawfulRange m ctx declared env (name n) args kws p labels → item ≡ range_item (arguments_given args kws)
        → IterableRegular (call p (name n) args kws) labels item
    range_regular env p n args kws labels item ek law is =
        let g = arguments_given args kws in
        let offers = range_offers g in
        let ok = called_regular asked g (builtin_signature (Int ∷ []) Object) ((tt, tt), tt) in
        let t = timely (call p (name n) args kws) in
        record {
          regular_labels = (
            (
              subst (λ x. IsRegular asked x.type) (sym law.here) (call_regular asked offers ok ctx.bases),
              test_punctual asked ctx declared env (positional_seat offers) (name n) args kws labels.arguments
                  law.arguments t.0,
            ),
            (
              subst (λ x. IsRegular asked x.type) (sym law.callee) tt,
              (
                items_regular asked ctx declared regular env ek (positional_seat offers)
                    (positional_regular asked offers ok) args t.1.1.0 labels.arguments law.arguments,
                keywords_regular asked ctx declared regular env ek (named_seat offers) []
                    (keyword_regular asked offers ok) kws t.1.1.1 labels.keywords law.keywords,
              ),
            ),
          );
          item_regular = subst (λ x. IsRegular asked x.type) (sym is)
              (one (is_suited g (builtin_signature (Int ∷ []) Object)));
        }
      where
        one : (b : Test) → IsRegular asked (if b then clean Int else record { type = Any; codes = A5 ∷ [] }).type
        one true = tt
        one false = tt

    call_iterable_regular : (env : Env) (p : Place) (c : Expr) (args : Exprs) (kws : Keywords)
        (labels : Labels (call p c args kws)) (item : Label) → EnvRegular asked declared env
        → LawfulIterable m ctx declared env (call p c args kws) labels item → IterableRegular (call p c args kws) labels
        item
    call_iterable_regular env p (name n) args kws labels item ek law = go (is_range (ctx.resolve n.text)) law
      where
        go : (b : Test) → RangeOrValues m ctx declared b (LawfulRange m ctx declared env (name n) args kws p labels
            × (item ≡ range_item (arguments_given args kws))) (LawfulValues m ctx declared env
            (call p (name n) args kws) labels item) → IterableRegular (call p (name n) args kws) labels item
        go true law = range_regular env p n args kws labels item ek law.0 law.1
        go false law = values_regular env (call p (name n) args kws) labels item ek law
    call_iterable_regular env p c args kws labels item ek law = values_regular env (call p c args kws) labels item ek
        law

    pub iterable_regular : (env : Env) (e : Expr) (labels : Labels e) (item : Label) → EnvRegular asked declared env
        → LawfulIterable m ctx declared env e labels item → IterableRegular e labels item
    iterable_regular env (call p c args kws) labels item ek law = call_iterable_regular env p c args kws labels item ek
        law
    iterable_regular env e labels item ek law = values_regular env e labels item ek law

    pub record TargetBound (n : Name) (inside : Env) : Type 0 where
      pub name_regular : NameRegular m ctx declared n.text
      pub env_regular : EnvRegular asked declared inside

    pub for_target_regular : (seen : NamesBound) (n : Name) (head : Env) (item : Label) (flows : FlowLabels)
        (inside : Env) → EnvRegular asked declared head → SeenRegular m ctx declared seen → IsRegular asked item.type
        → LawfulTarget m ctx declared seen n (ctx.resolve n.text) head item flows inside → TargetBound n inside
    for_target_regular seen n head item flows inside ek sk ik law = go (ctx.resolve n.text) refl law
      where
        elsewhere : (r : NameMeaning) → ctx.resolve n.text ≡ r → ((x : ℕ) → r ≡ meaning.Local x → ⊥) → inside ≡ head
            → TargetBound n inside
        elsewhere r is other same = record {
          name_regular = no_local_named m ctx declared n
              (λ x i. other x (sym is ∙ i));
          env_regular = subst (EnvRegular asked declared) (sym same) ek;
        }

        go : (r : NameMeaning) → ctx.resolve n.text ≡ r → LawfulTarget m ctx declared seen n r head item flows inside
            → TargetBound n inside
        go (meaning.Local x) is law =
            let d = declared_regular (is_first seen n) x None item.type tt ik (seen_first seen n x sk is)
            law.at_first in
            record {
              name_regular = local_named m ctx declared n x is d;
              env_regular = subst (EnvRegular asked declared)
                  (sym law.inside_is) (bound_regular head x item.type flows ek d ik);
            }
        go (meaning.Const i) is law = elsewhere (meaning.Const i) is (λ x e. absurd (grind (arith, e))) law.1
        go (meaning.Func i) is law = elsewhere (meaning.Func i) is (λ x e. absurd (grind (arith, e))) law.1
        go (meaning.Class i) is law = elsewhere (meaning.Class i) is (λ x e. absurd (grind (arith, e))) law.1
        go (meaning.Builtin b) is law = elsewhere (meaning.Builtin b) is (λ x e. absurd (grind (arith, e))) law.1
        go meaning.None is law = elsewhere meaning.None is (λ x e. absurd (grind (arith, e))) law.1

    -- ---- annotated names

    pub declaration_regular : (seen : NamesBound) (n : Name) (t : Tree) → SeenRegular m ctx declared seen
        → IsRegular asked t → LawfulDeclaration m ctx declared seen n (ctx.resolve n.text) t
        → NameRegular m ctx declared n.text
    declaration_regular seen n t sk tk law = go (ctx.resolve n.text) refl law
      where
        go : (r : NameMeaning) → ctx.resolve n.text ≡ r → LawfulDeclaration m ctx declared seen n r t
            → NameRegular m ctx declared n.text
        go (meaning.Local x) is law = local_named m ctx declared n x is
            (declared_regular (is_first seen n) x (Some t) t tk tk (seen_first seen n x sk is) law)
        go (meaning.Const i) is law = no_local_named m ctx declared n (λ x e. absurd (grind (arith, sym is ∙ e)))
        go (meaning.Func i) is law = no_local_named m ctx declared n (λ x e. absurd (grind (arith, sym is ∙ e)))
        go (meaning.Class i) is law = no_local_named m ctx declared n (λ x e. absurd (grind (arith, sym is ∙ e)))
        go (meaning.Builtin b) is law = no_local_named m ctx declared n (λ x e. absurd (grind (arith, sym is ∙ e)))
        go meaning.None is law = no_local_named m ctx declared n (λ x e. absurd (grind (arith, sym is ∙ e)))

    pub annotation_regular : (first : Test) (t : Tree) → IsRegular asked t
        → OptionRegular asked (annotation_at m ctx declared first t)
    annotation_regular true t h = h
    annotation_regular false t h = tt
