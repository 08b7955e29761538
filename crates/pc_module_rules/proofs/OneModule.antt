-- A module has at most one lawful labelling: constants first, in text order, then functions and classes.
use Rattle.std.proofs.Common.{◌≡◌, ℕ, zero, suc, ◌<◌, List, [], ◌∷◌, ◌++◌, map, length, refl, sym, ap, ◌∙◌, subst, inl}
use Rattle.std.proofs.Common.{inr, arith}
use Rattle.std.specs.Prelude.{Bool as Test, true, false, not, ◌||◌, if◌then◌else◌, Option, Some, None, bytes_eq}
use Rattle.std.specs.Prelude.{slice_get}
use Rattle.std.specs.Option.{option_map}
use Rattle.std.proofs.lemmas.Slice.Eq.{bytes_eq-Decides}
use Rattle.std.proofs.lemmas.Bool.{or_cases, or_left, or_right}
use Rattle.pc_tree.specs.declared.code.Code.{Code}
use Rattle.pc_tree.specs.Tree.{Literal, Param, FuncDef, Member, field_member, method_member, Constant, Item}
use Rattle.pc_tree.specs.Tree.{constant_item, class_item, def_item, Module}
use Rattle.pc_tree.specs.Stopping.{bound_by}
use Rattle.pc_scope.specs.declared.resolution.Owner.{Owner}
use Rattle.pc_scope.specs.declared.resolution.Owner.TheVariants as owners
use Rattle.pc_scope.specs.declared.resolution.NameMeaning.{NameMeaning}
use Rattle.pc_scope.specs.declared.resolution.NameMeaning.TheVariants as meaning
use Rattle.pc_scope.specs.Reserved.{is_builtin_name}
use Rattle.pc_scope.specs.Bindings.{texts, param_names}
use Rattle.pc_scope.specs.Resolution.{index_of, is_one_of, first_of_each, receiver, entry_texts, locals, local_meaning}
use Rattle.pc_scope.specs.Resolution.{or_meaning, resolve_in_module}
use Rattle.pc_types.specs.Tree.{Tree}
use Rattle.pc_types.specs.Below.{Bases}
use Rattle.pc_annotations.specs.Annotations.{read_ann, read_option}
use Rattle.pc_class.specs.Bases.{bases_of}
use Rattle.pc_class.specs.Facts.{TypedParameter, ClassFacts, parameters_of, return_type, binds_field}
use Rattle.pc_class.specs.Findings.{base_class}
use Rattle.pc_flow.specs.Environment.{Env, declared_type, none_assigned}
use Rattle.pc_rules.specs.Context.{Context, FlowsInto}
use Rattle.pc_rules.specs.Labels.{FlowLabels, whole_label}
use Rattle.pc_rules.specs.Operations.{clean}
use Rattle.pc_rules.specs.Signatures.{body_context, initializer_context, literal_type, LawfulDefault, binds_name}
use Rattle.pc_rules.specs.Signatures.{ParamsLabels, LawfulParams, annotated_types, first_of_types}
use Rattle.pc_rules.proofs.Same.{SameWhere}
use Rattle.pc_rules.proofs.One.{into_one, one}
use Rattle.pc_module_rules.specs.Statements.{NamesBound}
use Rattle.pc_module_rules.specs.Modules.{entry_parameters, names_entered, DeclaredEntry, LawfulEntry}
use Rattle.pc_module_rules.specs.Modules.{assigned_at_entry, entry_env, ReturnsWell, leaves, may_complete, may_not}
use Rattle.pc_module_rules.specs.Modules.{FunctionLabels, LawfulFunction, MembersLabels, LawfulMembers, ItemLabels}
use Rattle.pc_module_rules.specs.Modules.{ModuleItemsLabels, item_constants, constant_types, BeforeItem, before_next}
use Rattle.pc_module_rules.specs.Modules.{nothing_before, LawfulItem, LawfulModuleItems, HasOneLabelling}
use Rattle.pc_module_rules.proofs.OneStatement.{IsAmong, among_right, some_inj, local_inj, not_false, assign_kept}
use Rattle.pc_module_rules.proofs.OneStatement.{SameSeen, suite_one}

neither_left : (a b : Test) → (a || b) ≡ false → a ≡ false
neither_left true b e = absurd (grind arith)
neither_left false b e = refl

neither_right : (a b : Test) → (a || b) ≡ false → b ≡ false
neither_right true b e = absurd (grind arith)
neither_right false b e = e

same_text : (word : List ℕ) → bytes_eq word word ≡ true
same_text word = (bytes_eq-Decides word word).1 refl

-- ---- locals by their numbers

record Numbered (word : List ℕ) (before ts : List (List ℕ)) (x : ℕ) : Type 0 where
  among : IsAmong word ts
  new : is_one_of word before ≡ false
  index : index_of word (first_of_each before ts) ≡ Some x

here_numbered : (t : List ℕ) (rest : List (List ℕ)) → index_of t (t ∷ rest) ≡ Some 0
here_numbered t rest = ap (λ b. if b then Some 0 else option_map suc (index_of t rest)) (same_text t)

later_numbered : (word t : List ℕ) (rest : List (List ℕ)) (x : ℕ) → bytes_eq word t ≡ false
    → index_of word rest ≡ Some x → index_of word (t ∷ rest) ≡ Some (suc x)
later_numbered word t rest x ne e = ap (λ b. if b then Some 0 else option_map suc (index_of word rest)) ne
    ∙ ap (option_map suc) e

numbered : (before ts : List (List ℕ)) (x : ℕ) (word : List ℕ) → slice_get (first_of_each before ts) x ≡ Some word
    → Numbered word before ts x
numbered before [] x word e = absurd (grind (arith, e))
numbered before (t ∷ ts) x word e = go (is_builtin_name t || is_one_of t before) refl
    (λ x e. numbered before ts x word e) (λ x e. numbered (t ∷ before) ts x word e) x e
  where
    kept : (x : ℕ) → (is_builtin_name t || is_one_of t before) ≡ false
        → ((x : ℕ) → slice_get (first_of_each (t ∷ before) ts) x ≡ Some word → Numbered word (t ∷ before) ts x)
        → slice_get (t ∷ first_of_each (t ∷ before) ts) x ≡ Some word → (IsAmong word (t ∷ ts))
        × (is_one_of word before ≡ false) × (index_of word (t ∷ first_of_each (t ∷ before) ts) ≡ Some x)
    kept zero b later e =
        let is : t ≡ word = some_inj e in (
          subst (λ w. IsAmong w (t ∷ ts)) is (or_left (bytes_eq t t) (is_one_of t ts) (same_text t)),
          subst (λ w. is_one_of w before ≡ false) is (neither_right (is_builtin_name t) (is_one_of t before) b),
          subst (λ w. index_of w (t ∷ first_of_each (t ∷ before) ts) ≡ Some 0) is
              (here_numbered t (first_of_each (t ∷ before) ts)),
        )
    kept (suc y) b later e =
        let n = later y e in (
          or_right (bytes_eq word t) (is_one_of word ts) n.among,
          neither_right (bytes_eq word t) (is_one_of word before)
              n.new,
          later_numbered word t (first_of_each (t ∷ before) ts) y
              (neither_left (bytes_eq word t) (is_one_of word before) n.new) n.index,
        )

    go : (b : Test) → (is_builtin_name t || is_one_of t before) ≡ b
        → ((x : ℕ) → slice_get (first_of_each before ts) x ≡ Some word → Numbered word before ts x)
        → ((x : ℕ) → slice_get (first_of_each (t ∷ before) ts) x ≡ Some word → Numbered word (t ∷ before) ts x)
        → (x : ℕ) → slice_get (first_of_each before (t ∷ ts)) x ≡ Some word → Numbered word before (t ∷ ts) x
    go true b dropped later x e =
        let n = dropped x (ap (λ c. slice_get (if c then first_of_each before ts else t ∷ first_of_each (t ∷ before) ts)
        x) (sym b) ∙ e) in
        record {
          among = or_right (bytes_eq word t) (is_one_of word ts) n.among;
          new = n.new;
          index =
              ap (λ c. index_of word (if c then first_of_each before ts else t ∷ first_of_each (t ∷ before) ts)) b
              ∙ n.index;
        }
    go false b dropped later x e =
        let n = kept x b later
        (ap (λ c. slice_get (if c then first_of_each before ts else t ∷ first_of_each (t ∷ before) ts) x) (sym b)
        ∙ e) in
        record {
          among = n.0;
          new = n.1;
          index =
              ap (λ c. index_of word (if c then first_of_each before ts else t ∷ first_of_each (t ∷ before) ts)) b
              ∙ n.2;
        }

-- ---- the entry of a function

among_seen : (word : List ℕ) (seen : NamesBound) (ps : List TypedParameter) → IsAmong word seen
    → IsAmong word (names_entered seen ps)
among_seen word seen [] h = h
among_seen word seen (p ∷ ps) h = among_seen word (p.name ∷ seen) ps
    (or_right (bytes_eq word p.name) (is_one_of word seen) h)

among_entered : (word : List ℕ) (seen : NamesBound) (ps : List TypedParameter)
    → IsAmong word (map (λ (p : TypedParameter). p.name) ps) → IsAmong word (names_entered seen ps)
among_entered word seen [] h = absurd (grind (arith, h))
among_entered word seen (p ∷ ps) h = elim (or_cases (bytes_eq word p.name)
    (is_one_of word (map (λ (p : TypedParameter). p.name) ps)) h) [
      | inl e ↦ among_seen word (p.name ∷ seen) ps (or_left (bytes_eq word p.name) (is_one_of word seen) e)
      | inr r ↦ among_entered word (p.name ∷ seen) ps r
    ]

param_texts : (m : Module) (ps : List Param) → map (λ (p : TypedParameter). p.name) (parameters_of m ps)
    ≡ texts (param_names ps)
param_texts m [] = refl
param_texts m (p ∷ ps) = ap (λ ts. p.name.text ∷ ts) (param_texts m ps)

entry_names : (m : Module) (owner : Owner) (f : FuncDef) → map (λ (p : TypedParameter). p.name)
    (entry_parameters m owner f) ≡ entry_texts owner f
entry_names m owners.Module f = param_texts m f.params
entry_names m (owners.Func i) f = param_texts m f.params
entry_names m (owners.Method c i) f = ap (λ ts. receiver (owners.Method c i) ++ ts) (param_texts m f.params)

-- a name of the entry or the body, in the other order
among_either : (word : List ℕ) (xs ys zs : List (List ℕ)) → (IsAmong word xs → IsAmong word zs)
    → IsAmong word (xs ++ ys) → IsAmong word (ys ++ zs)
among_either word [] ys zs f h = left ys h
  where
    left : (ys : List (List ℕ)) → IsAmong word ys → IsAmong word (ys ++ zs)
    left [] h = absurd (grind (arith, h))
    left (y ∷ ys) h = elim (or_cases (bytes_eq word y) (is_one_of word ys) h) [
      | inl e ↦ or_left (bytes_eq word y) (is_one_of word (ys ++ zs)) e
      | inr r ↦ or_right (bytes_eq word y)
          (is_one_of word (ys ++ zs)) (left ys r)
    ]
among_either word (x ∷ xs) ys zs f h = elim (or_cases (bytes_eq word x) (is_one_of word (xs ++ ys)) h) [
  | inl e ↦ among_right word ys zs (f (or_left (bytes_eq word x) (is_one_of word xs) e))
  | inr r ↦ among_either word xs ys zs (λ k. f (or_right (bytes_eq word x) (is_one_of word xs) k)) r
]

module _ (m : Module) (ctx : Context) (ds ds' : List Tree) where
  abbrev Sames : NamesBound → Type 0
  Sames seen = SameSeen m ctx ds ds' seen

  text_more : (seen : NamesBound) (word : List ℕ) → Sames seen
      → ((x : ℕ) → ctx.resolve word ≡ meaning.Local x → declared_type ds x ≡ declared_type ds' x) → Sames (word ∷ seen)
  text_more seen word h s w x among r = elim (or_cases (bytes_eq w word) (is_one_of w seen) among) [
    | inl e ↦ s x (ap ctx.resolve (sym ((bytes_eq-Decides w word).0 e)) ∙ r)
    | inr k ↦ h w x k r
  ]

  entry_same : (b : Test) (r : NameMeaning) (t : Tree) (x : ℕ) → (b ≡ false → declared_type ds x ≡ declared_type ds' x)
      → r ≡ meaning.Local x → DeclaredEntry ds b r t → DeclaredEntry ds' b r t → declared_type ds x ≡ declared_type ds' x
  entry_same false r t x s i h h' = s refl
  entry_same true (meaning.Local y) t x s i h h' = let is : y ≡ x = local_inj i in
      subst (λ z. declared_type ds z ≡ declared_type ds' z) is (h ∙ sym h')
  entry_same true (meaning.Const c) t x s i h h' = absurd (grind (arith, i))
  entry_same true (meaning.Func c) t x s i h h' = absurd (grind (arith, i))
  entry_same true (meaning.Class c) t x s i h h' = absurd (grind (arith, i))
  entry_same true (meaning.Builtin c) t x s i h h' = absurd (grind (arith, i))
  entry_same true meaning.None t x s i h h' = absurd (grind (arith, i))

  entered_kept : (b : Test) (r : NameMeaning) (t : Tree) (env : Env) → ((x : ℕ) → r ≡ meaning.Local x
      → declared_type ds x ≡ declared_type ds' x) → SameWhere ds ds' env
      → SameWhere ds ds' (assigned_at_entry b r t env)
  entered_kept true (meaning.Local x) t env s k = assign_kept ds ds' env x t k (s x refl)
  entered_kept false r t env s k = k
  entered_kept true (meaning.Const c) t env s k = k
  entered_kept true (meaning.Func c) t env s k = k
  entered_kept true (meaning.Class c) t env s k = k
  entered_kept true (meaning.Builtin c) t env s k = k
  entered_kept true meaning.None t env s k = k

  record EntryOne (seen : NamesBound) (env : Env) : Type 0 where
    seen_same : Sames seen
    kept : SameWhere ds ds' env

  entry_one : (seen : NamesBound) (ps : List TypedParameter) (env : Env) → Sames seen → SameWhere ds ds' env
      → LawfulEntry ctx.resolve ds seen ps → LawfulEntry ctx.resolve ds' seen ps
      → EntryOne (names_entered seen ps) (entry_env ctx.resolve seen ps env)
  entry_one seen [] env s k h h' = record { seen_same = s; kept = k }
  entry_one seen (p ∷ ps) env s k h h' =
      let same : (x : ℕ) → ctx.resolve p.name ≡ meaning.Local x → declared_type ds x ≡ declared_type ds' x =
      λ x i. entry_same (not (is_one_of p.name seen)) (ctx.resolve p.name) p.type x
      (λ e. s p.name x (not_false (is_one_of p.name seen) e) i) i h.0 h'.0 in
      entry_one (p.name ∷ seen) ps (assigned_at_entry (not (is_one_of p.name seen)) (ctx.resolve p.name) p.type env)
      (text_more seen p.name s same) (entered_kept (not (is_one_of p.name seen)) (ctx.resolve p.name) p.type env
      same k) h.1 h'.1

pub none_kept : (ds ds' : List Tree) (n : ℕ) → length ds ≡ n → length ds' ≡ n → SameWhere ds ds' (none_assigned n)
none_kept [] [] zero l l' = tt
none_kept (d ∷ ds) (d' ∷ ds') (suc n) l l' = (tt, none_kept ds ds' n (grind (arith, l)) (grind (arith, l')))
none_kept [] ds' (suc n) l l' = absurd (grind (arith, l))
none_kept (d ∷ ds) ds' zero l l' = absurd (grind (arith, l))
none_kept [] (d' ∷ ds') zero l l' = absurd (grind (arith, l'))
none_kept (d ∷ ds) [] (suc n) l l' = absurd (grind (arith, l'))

same_lists : (ds ds' : List Tree) (n : ℕ) → length ds ≡ n → length ds' ≡ n
    → ((x : ℕ) → x < n → declared_type ds x ≡ declared_type ds' x) → ds ≡ ds'
same_lists [] [] n l l' h = refl
same_lists (d ∷ ds) (d' ∷ ds') (suc n) l l' h = λ i. h zero (omega arith) i ∷ same_lists ds ds' n (grind (arith, l))
    (grind (arith, l')) (λ x b. h (suc x) (omega arith)) i
same_lists [] (d' ∷ ds') n l l' h = absurd (grind (arith, l, l'))
same_lists (d ∷ ds) [] n l l' h = absurd (grind (arith, l, l'))
same_lists (d ∷ ds) (d' ∷ ds') zero l l' h = absurd (grind (arith, l))

record Got (xs : List (List ℕ)) (x : ℕ) : Type 0 where
  word : List ℕ
  is : slice_get xs x ≡ Some word

get_below : (xs : List (List ℕ)) (x : ℕ) → x < length xs → Got xs x
get_below [] x b = absurd (omega arith)
get_below (y ∷ xs) zero b = record { word = y; is = refl }
get_below (y ∷ xs) (suc x) b = let g = get_below xs x (omega arith) in record { word = g.word; is = g.is }

-- ---- functions

default_one : (bases : Bases) (b : Test) (l : Option Literal) (t : Tree) (fs gs : FlowLabels)
    → LawfulDefault bases b l t fs → LawfulDefault bases b l t gs → fs ≡ gs
default_one bases b None t fs gs h h' = h ∙ sym h'
default_one bases false (Some l) t fs gs h h' = h ∙ sym h'
default_one bases true (Some l) t fs gs h h' = into_one bases (clean (literal_type l)) (t ∷ []) fs gs h h'

params_one : (m : Module) (before : List (List ℕ)) (ps : List Param) (mk mk' : ParamsLabels ps)
    → LawfulParams m before ps mk → LawfulParams m before ps mk' → mk ≡ mk'
params_one m before [] mk mk' h h' = refl
params_one m before (p ∷ ps) mk mk' h h' =
    let c = default_one (bases_of m) (binds_name before p.name) p.default (read_option m (bases_of m) p.annotation)
    mk.default mk'.default h.default h'.default in
    let r = params_one m (p.name.text ∷ before) ps mk.rest mk'.rest h.rest h'.rest in
    λ i. record { default = c i; rest = r i }

returns_one : {bases : Bases} {t : Tree} {out : Option Env} {c d : Option Code} → ReturnsWell bases t out c
    → ReturnsWell bases t out d → c ≡ d
returns_one leaves leaves = refl
returns_one (may_complete a) (may_complete b) = refl
returns_one (may_complete a) (may_not n) = absurd (n a)
returns_one (may_not n) (may_complete a) = absurd (n a)
returns_one (may_not n) (may_not k) = refl

pub function_one : (m : Module) (constants : List Tree) (owner : Owner) (f : FuncDef) (mk mk' : FunctionLabels f)
    → LawfulFunction m constants owner f mk → LawfulFunction m constants owner f mk' → mk ≡ mk'
function_one m constants owner f mk mk' h h' =
    let names = locals owner f in
    let ctx = body_context m constants names in
    let ps = params_one m (receiver owner) f.params mk.params mk'.params h.params h'.params in
    let start = entry_one m ctx mk.declared mk'.declared [] (entry_parameters m owner f) (none_assigned (length names))
    (λ word x among r. absurd (grind (arith, among))) (none_kept mk.declared mk'.declared (length names)
    h.each_local h'.each_local) h.entry h'.entry in
    let body = suite_one m ctx mk.declared mk'.declared (return_type m f)
    (names_entered [] (entry_parameters m owner f)) (entry_env ctx.resolve [] (entry_parameters m owner f)
    (none_assigned (length names))) start.seen_same start.kept f.body mk.body mk'.body mk.out mk'.out h.body
    h'.body in
    let d : mk.declared ≡ mk'.declared = same_lists mk.declared mk'.declared (length names) h.each_local h'.each_local
    (λ x b.
    let g = get_below names x b in
    let n = numbered [] (entry_texts owner f ++ texts (bound_by f.body)) x g.word g.is in
    body.seen g.word x
    (among_either g.word (entry_texts owner f) (texts (bound_by f.body)) (names_entered [] (entry_parameters m owner f))
    (λ k. among_entered g.word [] (entry_parameters m owner f)
    (subst (λ ts. IsAmong g.word ts) (sym (entry_names m owner f)) k)) n.among)
    (ap (λ o. or_meaning (local_meaning o) (resolve_in_module m g.word)) n.index)) in
    let c : mk.completing ≡ mk'.completing =
    returns_one (subst (λ o. ReturnsWell (bases_of m) (return_type m f) o mk.completing) body.outs h.completing)
    h'.completing in
    λ i. record { params = ps i; declared = d i; body = body.labels i; out = body.outs i; completing = c i }

-- ---- classes

members_one : (m : Module) (constants : List Tree) (base : ClassFacts) (c number : ℕ) (before : List (List ℕ))
    (ms : List Member) (mk mk' : MembersLabels ms) → LawfulMembers m constants base c number before ms mk
    → LawfulMembers m constants base c number before ms mk' → mk ≡ mk'
members_one m constants base c number before [] mk mk' h h' = refl
members_one m constants base c number before (field_member d ∷ ms) mk mk' h h' =
    let q = default_one (bases_of m) (binds_field base before d.name.text) d.default
    (read_ann m (bases_of m) d.annotation) mk.default mk'.default h.default h'.default in
    let r = members_one m constants base c number (d.name.text ∷ before) ms mk.rest mk'.rest h.others h'.others in
    λ i. record { default = q i; rest = r i }
members_one m constants base c number before (method_member d ∷ ms) mk mk' h h' =
    let q = function_one m constants (owners.Method c number) d mk.method mk'.method h.method h'.method in
    let r = members_one m constants base c (suc number) (d.name.text ∷ before) ms mk.rest mk'.rest h.others h'.others in
    λ i. record { method = q i; rest = r i }

-- ---- constants, then all items

constant_one : (m : Module) (all all' : List Tree) (b : BeforeItem) (p : _) (c : Constant)
    (mk mk' : ItemLabels (constant_item p c)) → LawfulItem m all b (constant_item p c) mk
    → LawfulItem m all' b (constant_item p c) mk' → mk ≡ mk'
constant_one m all all' b p c mk mk' h h' =
    let want = annotated_types m (binds_name b.names c.name) c.annotation in
    let q = one (initializer_context m b.constants b.classes) [] [] [] tt (first_of_types want) c.value mk.value
    mk'.value h.value h'.value in
    let f : mk.flows ≡ mk'.flows = into_one (bases_of m) (whole_label c.value mk'.value) want mk.flows mk'.flows
    (subst (λ x. FlowsInto (bases_of m) (whole_label c.value x) want mk.flows) q h.flow) h'.flow in
    λ i. record { value = q i; flows = f i }

types_one : (m : Module) (all all' : List Tree) (b : BeforeItem) (items : List Item) (mk mk' : ModuleItemsLabels items)
    → LawfulModuleItems m all b items mk → LawfulModuleItems m all' b items mk' → constant_types m items mk
    ≡ constant_types m items mk'
types_one m all all' b [] mk mk' h h' = refl
types_one m all all' b (constant_item p c ∷ rest) mk mk' h h' =
    let q = constant_one m all all' b p c mk.first mk'.first h.0 h'.0 in
    let r = types_one m all all' (before_next m b (constant_item p c) mk.first) rest mk.rest mk'.rest h.1
    (subst (λ x. LawfulModuleItems m all' (before_next m b (constant_item p c) x) rest mk'.rest) (sym q) h'.1) in
    λ i. item_constants m (constant_item p c) (q i) ++ r i
types_one m all all' b (class_item p c ∷ rest) mk mk' h h' = types_one m all all'
    (before_next m b (class_item p c) mk.first) rest mk.rest mk'.rest h.1 h'.1
types_one m all all' b (def_item p f ∷ rest) mk mk' h h' = types_one m all all'
    (before_next m b (def_item p f) mk.first) rest mk.rest mk'.rest h.1 h'.1

item_one : (m : Module) (all : List Tree) (b : BeforeItem) (i : Item) (mk mk' : ItemLabels i) → LawfulItem m all b i mk
    → LawfulItem m all b i mk' → mk ≡ mk'
item_one m all b (constant_item p c) mk mk' h h' = constant_one m all all b p c mk mk' h h'
item_one m all b (class_item p c) mk mk' h h' = members_one m all (base_class m b.classes c) b.classes 0 [] c.members mk
    mk' h h'
item_one m all b (def_item p f) mk mk' h h' = function_one m all (owners.Func b.functions) f mk mk' h h'

all_items_one : (m : Module) (all : List Tree) (b : BeforeItem) (items : List Item) (mk mk' : ModuleItemsLabels items)
    → LawfulModuleItems m all b items mk → LawfulModuleItems m all b items mk' → mk ≡ mk'
all_items_one m all b [] mk mk' h h' = refl
all_items_one m all b (i ∷ rest) mk mk' h h' =
    let q = item_one m all b i mk.first mk'.first h.0 h'.0 in
    let r = all_items_one m all (before_next m b i mk.first) rest mk.rest mk'.rest h.1
    (subst (λ x. LawfulModuleItems m all (before_next m b i x) rest mk'.rest) (sym q) h'.1) in
    λ j. record { first = q j; rest = r j }

-- a module has at most one lawful labelling
pub one_labelling : (m : Module) → HasOneLabelling m
one_labelling m mk mk' h h' =
    let same = types_one m (constant_types m m.items mk) (constant_types m m.items mk') nothing_before m.items mk mk' h
    h' in
    all_items_one m (constant_types m m.items mk) nothing_before m.items mk mk' h
    (subst (λ ts. LawfulModuleItems m ts nothing_before m.items mk') (sym same) h')
