-- An expression has at most one lawful labelling, whatever the declared types of locals that are not assigned.
use Rattle.std.proofs.Common.{◌≡◌, ℕ, suc, List, [], ◌∷◌, length, refl, sym, ap, ◌∙◌, subst, arith}
use Rattle.std.specs.Prelude.{Bool as Test, true, false, Option, Some, None, map}
use Rattle.pc_tree.specs.declared.code.Code.{Code}
use Rattle.pc_tree.specs.Tree.{Expr, Exprs, Entries, Keywords, name, number, text, truth, nothing, tuple, list, dict}
use Rattle.pc_tree.specs.Tree.{negative, negation, binary, compare, is_none, is_not_none, conjunction, disjunction}
use Rattle.pc_tree.specs.Tree.{attribute, index, call, no_exprs, more_exprs, no_entries, more_entries, no_keywords}
use Rattle.pc_tree.specs.Tree.{more_keywords}
use Rattle.pc_types.specs.Tree.{Tree, TupleOf}
use Rattle.pc_types.specs.Below.{Bases}
use Rattle.pc_types.proofs.Consistent.{static_assignable}
use Rattle.pc_types.specs.Shape.{trees, members}
use Rattle.pc_flow.specs.Environment.{Env, join_or_object}
use Rattle.pc_flow.specs.Narrowing.{narrow}
use Rattle.pc_rules.specs.Operations.{Label, FlowLabel, offers_label, operand_types, negative_member, binary_label}
use Rattle.pc_rules.specs.Operations.{display_label, attribute_member, index_member}
use Rattle.pc_rules.specs.Context.{Context, Flows, static, dynamic, wrong, FlowUnless, FlowAt, FlowsInto, is_early}
use Rattle.pc_rules.specs.Calls.{arguments_given, count_exprs, Seat, positional_seat, named_seat}
use Rattle.pc_rules.specs.Labels.{FlowLabels, Labels, ItemsLabels, EntriesLabels, KeywordsLabels, whole_label, type_of}
use Rattle.pc_rules.specs.Labels.{with_label, item_types, key_types, value_types}
use Rattle.pc_rules.specs.Lawful.{list_item, dict_parts, tuple_parts, members_of_expected, KeyValue, item_seat}
use Rattle.pc_rules.specs.Lawful.{part_seat, list_label, DictLabel, no_keys, int_keys, str_keys, other_keys, DictRule}
use Rattle.pc_rules.specs.Lawful.{key_seat, value_seat, int_literal, compare_label, compare_types, callee_of}
use Rattle.pc_rules.specs.Lawful.{whole_call_label, whole_second_code, keyword_seat, Lawful, LawfulItems, LawfulEntries}
use Rattle.pc_rules.specs.Lawful.{LawfulKeywords}
use Rattle.pc_rules.proofs.Same.{SameWhere, narrow_alike}

-- ---- a flow has one code

pub flows_one : {bases : Bases} {s t : Tree} {c d : Option Code} → Flows bases s t c → Flows bases s t d → c ≡ d
flows_one (static a) (static b) = refl
flows_one (static a) (dynamic n b) = absurd (n a)
flows_one {bases} {s} {t} (static a) (wrong n) = absurd (n (static_assignable bases s t a))
flows_one (dynamic n a) (static b) = absurd (n b)
flows_one (dynamic n a) (dynamic m b) = refl
flows_one (dynamic n a) (wrong m) = absurd (m a)
flows_one {bases} {s} {t} (wrong n) (static b) = absurd (n (static_assignable bases s t b))
flows_one (wrong n) (dynamic m b) = absurd (n b)
flows_one (wrong n) (wrong m) = refl

unless_one : (early : Test) (bases : Bases) (s t : Tree) (c d : Option Code) → FlowUnless early bases s t c
    → FlowUnless early bases s t d → c ≡ d
unless_one true bases s t c d h k = h ∙ sym k
unless_one false bases s t c d h k = flows_one h k

at_one : (bases : Bases) (m : Label) (t : Tree) (f g : FlowLabel) → FlowAt bases m t f → FlowAt bases m t g → f ≡ g
at_one bases m t f g h k =
    let from : f.from ≡ g.from = h.from ∙ sym k.from in
    let into : f.into ≡ g.into = h.into ∙ sym k.into in
    let code : f.code ≡ g.code = unless_one (is_early m.codes) bases m.type t f.code g.code h.code k.code in
    λ i. record { from = from i; into = into i; code = code i }

pub into_one : (bases : Bases) (m : Label) (ts : List Tree) (fs gs : FlowLabels) → FlowsInto bases m ts fs
    → FlowsInto bases m ts gs → fs ≡ gs
into_one bases m [] [] [] h k = refl
into_one bases m [] [] (g ∷ gs) h k = absurd k
into_one bases m [] (f ∷ fs) gs h k = absurd h
into_one bases m (t ∷ ts) [] gs h k = absurd h
into_one bases m (t ∷ ts) (f ∷ fs) [] h k = absurd k
into_one bases m (t ∷ ts) (f ∷ fs) (g ∷ gs) h k = λ i. at_one bases m t f g h.0 k.0 i ∷ into_one bases m ts fs gs h.1
    k.1 i

-- a dict display has one label
dict_one : {bases : Bases} {values keys : List Tree} {m m' : Label} → DictLabel bases values keys m
    → DictLabel bases values keys m' → m ≡ m'
dict_one no_keys no_keys = refl
dict_one (int_keys a) (int_keys b) = refl
dict_one (int_keys a) (str_keys n b) = absurd (n a)
dict_one (int_keys a) (other_keys n m) = absurd (n a)
dict_one (str_keys n a) (int_keys b) = absurd (n b)
dict_one (str_keys n a) (str_keys m b) = refl
dict_one (str_keys n a) (other_keys m k) = absurd (k a)
dict_one (other_keys n m) (int_keys b) = absurd (n b)
dict_one (other_keys n m) (str_keys k b) = absurd (m b)
dict_one (other_keys n m) (other_keys k l) = refl

rule_one : (bases : Bases) (kv : Option KeyValue) (keys values : List Tree) (m m' : Label)
    → DictRule bases kv keys values m → DictRule bases kv keys values m' → m ≡ m'
rule_one bases None keys values m m' h k = dict_one h k
rule_one bases (Some kv) keys values m m' h k = h ∙ sym k

-- ---- expressions

module _ (ctx : Context) (ds ds' : List Tree) where
  abbrev at_true : Expr → Env → Env
  at_true l env = narrow ctx.bases ds ctx.resolve true l env

  mutual
    pub one : (env : Env) → SameWhere ds ds' env → (want : Option Tree) (e : Expr) (m m' : Labels e)
        → Lawful ctx ds env want e m → Lawful ctx ds' env want e m' → m ≡ m'
    one env k want (name n) m m' h h' = h ∙ sym h'
    one env k want (number p digits) m m' h h' = h ∙ sym h'
    one env k want (text p cs) m m' h h' = h ∙ sym h'
    one env k want (truth p b) m m' h h' = h ∙ sym h'
    one env k want (nothing p) m m' h h' = h ∙ sym h'
    one env k want (tuple p es) m m' h h' =
        let q = items_one env k (part_seat (tuple_parts (count_exprs es) (members_of_expected want))) es m.items
        m'.items h.items h'.items in
        let r : m.here ≡ m'.here = h.here ∙ ap (λ x. display_label (TupleOf (trees (item_types es x)))) q
        ∙ sym h'.here in
        λ i. record { here = r i; items = q i }
    one env k want (list p es) m m' h h' =
        let q = items_one env k (λ i. item_seat (list_item (members_of_expected want))) es m.items m'.items h.items
        h'.items in
        let r : m.here ≡ m'.here = h.here ∙ ap (λ x. list_label ctx.bases (list_item (members_of_expected want))
        (item_types es x)) q ∙ sym h'.here in
        λ i. record { here = r i; items = q i }
    one env k want (dict p es) m m' h h' =
        let q = entries_one env k (key_seat (dict_parts (members_of_expected want)))
        (value_seat (dict_parts (members_of_expected want))) es m.entries m'.entries h.entries h'.entries in
        let r : m.here ≡ m'.here = rule_one ctx.bases (dict_parts (members_of_expected want)) (key_types es m'.entries)
        (value_types es m'.entries) m.here m'.here
        (subst (λ x. DictRule ctx.bases (dict_parts (members_of_expected want)) (key_types es x) (value_types es x)
        m.here) q h.here) h'.here in
        λ i. record { here = r i; entries = q i }
    one env k want (negative p e) m m' h h' =
        let q = one env k None e m.operand m'.operand h.operand h'.operand in
        let r : m.here ≡ m'.here = h.here
        ∙ ap (λ x. offers_label ctx.bases (map negative_member (members (type_of e x)))) q ∙ sym h'.here in
        λ i. record { here = r i; operand = q i }
    one env k want (negation p e) m m' h h' =
        let q = one env k None e m.operand m'.operand h.operand h'.operand in
        let r : m.here ≡ m'.here = h.here ∙ sym h'.here in
        λ i. record { here = r i; operand = q i }
    one env k want (binary p o a b) m m' h h' =
        let q = one env k None a m.left m'.left h.left h'.left in
        let s = one env k None b m.right m'.right h.right h'.right in
        let r : m.here ≡ m'.here = h.here ∙ (λ i. binary_label ctx.bases o (type_of a (q i)) (type_of b (s i)))
        ∙ sym h'.here in
        λ i. record { here = r i; left = q i; right = s i }
    one env k want (compare p o a b) m m' h h' =
        let q = one env k None a m.left m'.left h.left h'.left in
        let s = one env k None b m.right m'.right h.right h'.right in
        let r : m.here ≡ m'.here = h.here ∙ (λ i. compare_label ctx.bases o (type_of a (q i)) (type_of b (s i)))
        ∙ sym h'.here in
        let f : m.flows ≡ m'.flows = into_one ctx.bases (whole_label a m'.left) (compare_types o (type_of b m'.right))
        m.flows m'.flows (subst (λ x. FlowsInto ctx.bases (whole_label a x) (compare_types o (type_of b m'.right))
        m.flows) q (subst (λ x. FlowsInto ctx.bases (whole_label a m.left) (compare_types o (type_of b x)) m.flows)
        s h.flows)) h'.flows in
        λ i. record { here = r i; left = q i; right = s i; flows = f i }
    one env k want (is_none p e) m m' h h' =
        let q = one env k None e m.operand m'.operand h.operand h'.operand in
        let r : m.here ≡ m'.here = h.here ∙ sym h'.here in
        λ i. record { here = r i; operand = q i }
    one env k want (is_not_none p e) m m' h h' =
        let q = one env k None e m.operand m'.operand h.operand h'.operand in
        let r : m.here ≡ m'.here = h.here ∙ sym h'.here in
        λ i. record { here = r i; operand = q i }
    one env k want (conjunction p a b) m m' h h' =
        let q = one env k None a m.left m'.left h.left h'.left in
        let n = narrow_alike ctx.bases ds ds' ctx.resolve a true env k in
        let s = one (narrow ctx.bases ds ctx.resolve true a env) n.kept None b m.right m'.right h.right
        (subst (λ x. Lawful ctx ds' x None b m'.right) (sym n.same) h'.right) in
        let r : m.here ≡ m'.here = h.here
        ∙ (λ i. record { type = join_or_object ctx.bases (type_of a (q i)) (type_of b (s i)); codes = [] })
        ∙ sym h'.here in
        λ i. record { here = r i; left = q i; right = s i }
    one env k want (disjunction p a b) m m' h h' =
        let q = one env k None a m.left m'.left h.left h'.left in
        let n = narrow_alike ctx.bases ds ds' ctx.resolve a false env k in
        let s = one (narrow ctx.bases ds ctx.resolve false a env) n.kept None b m.right m'.right h.right
        (subst (λ x. Lawful ctx ds' x None b m'.right) (sym n.same) h'.right) in
        let r : m.here ≡ m'.here = h.here
        ∙ (λ i. record { type = join_or_object ctx.bases (type_of a (q i)) (type_of b (s i)); codes = [] })
        ∙ sym h'.here in
        λ i. record { here = r i; left = q i; right = s i }
    one env k want (attribute p e f) m m' h h' =
        let q = one env k None e m.object m'.object h.object h'.object in
        let r : m.here ≡ m'.here = h.here
        ∙ ap (λ x. offers_label ctx.bases (map (attribute_member ctx.classes f.text) (members (type_of e x)))) q
        ∙ sym h'.here in
        λ i. record { here = r i; object = q i }
    one env k want (index p a b) m m' h h' =
        let q = one env k None a m.object m'.object h.object h'.object in
        let s = one env k None b m.key m'.key h.key h'.key in
        let r : m.here ≡ m'.here = h.here
        ∙ ap (λ x. offers_label ctx.bases (map (index_member ctx.bases (int_literal b)) (members (type_of a x)))) q
        ∙ sym h'.here in
        let f : m.flows ≡ m'.flows = into_one ctx.bases (whole_label b m'.key)
        (operand_types (map (index_member ctx.bases (int_literal b)) (members (type_of a m'.object)))) m.flows
        m'.flows (subst (λ x. FlowsInto ctx.bases (whole_label b x)
        (operand_types (map (index_member ctx.bases (int_literal b)) (members (type_of a m'.object)))) m.flows) s
        (subst (λ x. FlowsInto ctx.bases (whole_label b m.key) (operand_types
        (map (index_member ctx.bases (int_literal b)) (members (type_of a x)))) m.flows) q h.flows)) h'.flows in
        λ i. record { here = r i; object = q i; key = s i; flows = f i }
    one env k want (call p c args kws) m m' h h' =
        let v = one env k None c h.value h'.value h.lawful h'.lawful in
        let q = items_one env k (positional_seat (callee_of ctx env (arguments_given args kws) c h.value).offers) args
        m.arguments m'.arguments h.arguments
        (subst (λ x. LawfulItems ctx ds' env (positional_seat (callee_of ctx env (arguments_given args kws) c
        x).offers) args m'.arguments) (sym v) h'.arguments) in
        let s = keywords_one env k (named_seat (callee_of ctx env (arguments_given args kws) c h.value).offers) [] kws
        m.keywords m'.keywords h.keywords
        (subst (λ x. LawfulKeywords ctx ds' env
        (named_seat (callee_of ctx env (arguments_given args kws) c x).offers) [] kws m'.keywords) (sym v)
        h'.keywords) in
        let f : m.callee ≡ m'.callee = h.callee
        ∙ (λ i. with_label c (v i) (callee_of ctx env (arguments_given args kws) c (v i)).label) ∙ sym h'.callee in
        let r : m.here ≡ m'.here = h.here
        ∙ (λ i. whole_call_label ctx env (callee_of ctx env (arguments_given args kws) c (v i)).rule
        (callee_of ctx env (arguments_given args kws) c (v i)).offers args (item_types args (q i))) ∙ sym h'.here in
        let t : m.second ≡ m'.second = h.second
        ∙ (λ i. whole_second_code ctx (callee_of ctx env (arguments_given args kws) c (v i)).rule args (q i))
        ∙ sym h'.second in
        λ i. record { here = r i; callee = f i; second = t i; arguments = q i; keywords = s i }

    pub items_one : (env : Env) → SameWhere ds ds' env → (seat : ℕ → Seat) (es : Exprs) (m m' : ItemsLabels es)
        → LawfulItems ctx ds env seat es m → LawfulItems ctx ds' env seat es m' → m ≡ m'
    items_one env k seat no_exprs m m' h h' = refl
    items_one env k seat (more_exprs e es) m m' h h' =
        let q = one env k (seat 0).want e m.first m'.first h.first h'.first in
        let f : m.flows ≡ m'.flows = into_one ctx.bases (whole_label e m'.first) (seat 0).into m.flows m'.flows
        (subst (λ x. FlowsInto ctx.bases (whole_label e x) (seat 0).into m.flows) q h.flows) h'.flows in
        let r = items_one env k (λ i. seat (suc i)) es m.rest m'.rest h.rest h'.rest in
        λ i. record { first = q i; flows = f i; rest = r i }

    pub entries_one : (env : Env) → SameWhere ds ds' env → (a b : Seat) (es : Entries) (m m' : EntriesLabels es)
        → LawfulEntries ctx ds env a b es m → LawfulEntries ctx ds' env a b es m' → m ≡ m'
    entries_one env k a b no_entries m m' h h' = refl
    entries_one env k a b (more_entries x y es) m m' h h' =
        let q = one env k a.want x m.key m'.key h.key h'.key in
        let f : m.key_flows ≡ m'.key_flows = into_one ctx.bases (whole_label x m'.key) a.into m.key_flows m'.key_flows
        (subst (λ z. FlowsInto ctx.bases (whole_label x z) a.into m.key_flows) q h.key_flows) h'.key_flows in
        let s = one env k b.want y m.value m'.value h.value h'.value in
        let g : m.value_flows ≡ m'.value_flows = into_one ctx.bases (whole_label y m'.value) b.into m.value_flows
        m'.value_flows (subst (λ z. FlowsInto ctx.bases (whole_label y z) b.into m.value_flows) s h.value_flows)
        h'.value_flows in
        let r = entries_one env k a b es m.rest m'.rest h.rest h'.rest in
        λ i. record { key = q i; key_flows = f i; value = s i; value_flows = g i; rest = r i }

    pub keywords_one : (env : Env) → SameWhere ds ds' env → (seat : List ℕ → Seat) (before : List (List ℕ))
        (es : Keywords) (m m' : KeywordsLabels es) → LawfulKeywords ctx ds env seat before es m
        → LawfulKeywords ctx ds' env seat before es m' → m ≡ m'
    keywords_one env k seat before no_keywords m m' h h' = refl
    keywords_one env k seat before (more_keywords n e es) m m' h h' =
        let q = one env k (keyword_seat seat before n).want e m.first m'.first h.first h'.first in
        let f : m.flows ≡ m'.flows = into_one ctx.bases (whole_label e m'.first) (keyword_seat seat before n).into
        m.flows m'.flows (subst (λ x. FlowsInto ctx.bases (whole_label e x) (keyword_seat seat before n).into
        m.flows) q h.flows) h'.flows in
        let r = keywords_one env k seat (n.text ∷ before) es m.rest m'.rest h.rest h'.rest in
        λ i. record { first = q i; flows = f i; rest = r i }

same_self : (ds : List Tree) (env : Env) → length ds ≡ length env → SameWhere ds ds env
same_self [] [] l = tt
same_self (d ∷ ds) (None ∷ env) l = (tt, same_self ds env (grind (arith, l)))
same_self (d ∷ ds) (Some t ∷ env) l = (refl, same_self ds env (grind (arith, l)))
same_self [] (s ∷ env) l = absurd (grind (arith, l))
same_self (d ∷ ds) [] l = absurd (grind (arith, l))

-- an expression has at most one lawful labelling
pub one_labelling : (ctx : Context) (ds : List Tree) (env : Env) → length ds ≡ length env
    → (want : Option Tree) (e : Expr) (labels others : Labels e) → Lawful ctx ds env want e labels
    → Lawful ctx ds env want e others → labels ≡ others
one_labelling ctx ds env l want e mk mk' h h' = one ctx ds ds env (same_self ds env l) want e mk mk' h h'
