-- The findings as a list: for each rule exactly the findings that it gives.
use Rattle.std.proofs.Common.{◌≡◌, ℕ, zero, suc, ◌<◌, List, [], ◌∷◌, ◌++◌, refl, sym, subst, inl, inr, arith, Contains}
use Rattle.std.proofs.Common.{ap, ◌∙◌}
use Rattle.std.specs.Prelude.{◌⊎◌, Bool as Test, true, false, nat_le, Option, Some, None, MatchOption, slice_index_or}
use Rattle.std.proofs.lemmas.List.Elements.{Contains-append_left, Contains-append_right, Contains-append_cases}
use Rattle.std.proofs.lemmas.Bool.Decides.{nat_tests}
use Rattle.std.proofs.lemmas.Option.{same_Some}
use Rattle.pc_source.specs.declared.place.Place.{Place}
use Rattle.pc_tree.specs.declared.code.Code.{Code}
use Rattle.pc_tree.specs.declared.code.Code.TheVariants.{E09, E10, E24, E26}
use Rattle.pc_tree.specs.declared.code.Finding.{Finding}
use Rattle.pc_tree.specs.Code.{finding}
use Rattle.pc_tree.specs.Tree as tree
use Rattle.pc_tree.specs.Tree.{Name, Expr, Exprs, Entries, Keywords, name, number, text, truth, nothing, tuple, list}
use Rattle.pc_tree.specs.Tree.{dict, negative, negation, binary, compare, is_none, is_not_none, conjunction}
use Rattle.pc_tree.specs.Tree.{disjunction, attribute, index, call, no_exprs, more_exprs, no_entries, more_entries}
use Rattle.pc_tree.specs.Tree.{no_keywords, more_keywords, Ann, Anns, named, none_type, applied, applied_empty, no_anns}
use Rattle.pc_tree.specs.Tree.{more_anns, Literal, Target, to_name, to_attribute, to_index, Stmt, Stmts, Branches, pass}
use Rattle.pc_tree.specs.Tree.{breaks, continues, returns, asserts, annotated, assigns, evaluates, while_loop, for_loop}
use Rattle.pc_tree.specs.Tree.{conditional, no_stmts, more_stmts, no_branches, more_branches, Param, FuncDef, Member}
use Rattle.pc_tree.specs.Tree.{field_member, method_member, Item, constant_item, class_item, def_item, Module}
use Rattle.pc_tree.specs.Stopping.{bound_by_stmt, bound_by, bound_by_branches}
use Rattle.pc_tree.specs.Depth.{place_of_ann, place_of}
use Rattle.pc_scope.specs.declared.resolution.Owner.{Owner}
use Rattle.pc_scope.specs.declared.resolution.Owner.TheVariants as owners
use Rattle.pc_scope.specs.declared.resolution.NameMeaning.{NameMeaning}
use Rattle.pc_scope.specs.declared.resolution.NameMeaning.TheVariants as meaning
use Rattle.pc_scope.specs.Bindings.{texts}
use Rattle.pc_scope.specs.Resolution.{locals, resolve_in_module}
use Rattle.pc_scope.specs.Reach.{completes}
use Rattle.pc_scope.specs.Expressions.{is_instance_test}
use Rattle.pc_types.specs.Tree.{Tree}
use Rattle.pc_types.specs.Below.{Bases}
use Rattle.pc_types.specs.Shape.{nodes, node_limit}
use Rattle.pc_annotations.specs.Annotations as ann
use Rattle.pc_annotations.specs.Annotations.{named_type, applied_type, empty_type, union_type, reading, read_anns, PartFinds}
use Rattle.pc_annotations.specs.Annotations.{PartsFind, IsTooLarge, AnnFinds}
use Rattle.pc_class.specs.Bases.{bases_of}
use Rattle.pc_rules.specs.Operations.{FlowLabel}
use Rattle.pc_rules.specs.Context.{Context}
use Rattle.pc_rules.specs.Labels.{FlowLabels, Labels, ItemsLabels, EntriesLabels, KeywordsLabels, IsFoundAt, IsFlowAt}
use Rattle.pc_rules.specs.Labels.{IsCodeAt, second_place, Finds, ItemsFind, ArgumentsFind, EntriesFind, KeywordsFind}
use Rattle.pc_rules.specs.Signatures.{body_context, literal_place, DefaultFinds, ParamsLabels, ParamsFind}
use Rattle.pc_module_rules.specs.StatementLabels.{OptionLabels, TargetLabels, Behind, BehindRule, StmtLabels}
use Rattle.pc_module_rules.specs.StatementLabels.{SuiteLabels, BranchesLabels}
use Rattle.pc_module_rules.specs.Statements.{NamesBound, is_first, option_place, OptionFinds, TargetFinds}
use Rattle.pc_module_rules.specs.Statements.{AnnotationFinds, StmtFinds, SuiteFinds, BranchesFind}
use Rattle.pc_module_rules.specs.Modules as modules
use Rattle.pc_module_rules.specs.Modules.{FunctionLabels, FunctionFinds, names_entered, entry_parameters, MembersLabels}
use Rattle.pc_module_rules.specs.Modules.{MembersFind, ItemLabels, BeforeItem, before_next, ItemFinds}
use Rattle.pc_tree.proofs.Among.{among_first, first_among, later_among, none_among}

-- the findings of a rule, as a list
pub record Listing (P : Finding → Type 0) : Type 0 where
  pub all : List Finding
  pub into : (f : Finding) → P f → Contains all f
  pub from : (f : Finding) → Contains all f → P f

-- ---- lists

pub alone : {A : Type 0} (x y : A) → Contains (x ∷ []) y → x ≡ y
alone {A} x y c = go c.0 c.1 c.2
  where
    go : (k : ℕ) → k < 1 → slice_index_or (x ∷ []) k y ≡ y → x ≡ y
    go zero less is = is
    go (suc k) less is = absurd (omega (arith, less))

-- ---- lists of no finding, of one, and of two rules

abbrev pub none_listed : {P : Finding → Type 0} → ((f : Finding) → P f → ⊥) → Listing P
none_listed never = record { all = []; into = λ f h. absurd (never f h); from = λ f c. absurd (none_among f c) }

abbrev pub nothing_listed : Listing (λ f. ⊥)
nothing_listed = none_listed (λ f h. h)

pub equal_into : (g f : Finding) → f ≡ g → Contains (g ∷ []) f
equal_into g f e = subst (λ x. Contains (g ∷ []) x) (sym e) (first_among g [])

abbrev pub equal_listed : (g : Finding) → Listing (λ f. f ≡ g)
equal_listed g = record { all = g ∷ []; into = equal_into g; from = λ f c. sym (alone g f c) }

pub both_into : {P Q : Finding → Type 0} (p : Listing P) (q : Listing Q) (f : Finding) → P f ⊎ Q f
    → Contains (p.all ++ q.all) f
both_into p q f (inl h) = Contains-append_left p.all q.all f (p.into f h)
both_into p q f (inr h) = Contains-append_right p.all q.all f (q.into f h)

pub both_from : {P Q : Finding → Type 0} (p : Listing P) (q : Listing Q) (f : Finding) → Contains (p.all ++ q.all) f
    → P f ⊎ Q f
both_from p q f c = elim (Contains-append_cases p.all q.all f c) [ inl a ↦ inl (p.from f a) | inr b ↦ inr (q.from f b) ]

abbrev pub both_listed : {P Q : Finding → Type 0} → Listing P → Listing Q → Listing (λ f. P f ⊎ Q f)
both_listed p q = record { all = p.all ++ q.all; into = both_into p q; from = both_from p q }

-- the same by another rule
abbrev pub like : {P Q : Finding → Type 0} → Listing P → ((f : Finding) → P f → Q f) → ((f : Finding) → Q f → P f)
    → Listing Q
like p to back = record { all = p.all; into = λ f h. p.into f (back f h); from = λ f c. to f (p.from f c) }

-- ---- findings at one place

abbrev pub at_codes : Place → List Code → List Finding
at_codes p [] = []
at_codes p (c ∷ cs) = finding p c ∷ at_codes p cs

code_into : (p : Place) (cs : List Code) (code : Code) → Contains cs code → Contains (at_codes p cs) (finding p code)
code_into p [] code c = absurd (none_among code c)
code_into p (d ∷ cs) code c = elim (among_first d cs code c) [
  | inl a ↦ subst (λ x. Contains (finding p d ∷ at_codes p cs) (finding p x)) a
      (first_among (finding p d) (at_codes p cs))
  | inr b ↦ later_among (finding p d) (at_codes p cs) (finding p code) (code_into p cs code b)
]

pub found_into : (p : Place) (cs : List Code) (f : Finding) → IsFoundAt p cs f → Contains (at_codes p cs) f
found_into p cs f h = subst (λ x. Contains (at_codes p cs) x) (sym h.is) (code_into p cs h.code h.among)

pub found_from : (p : Place) (cs : List Code) (f : Finding) → Contains (at_codes p cs) f → IsFoundAt p cs f
found_from p [] f c = absurd (none_among f c)
found_from p (d ∷ cs) f c = elim (among_first (finding p d) (at_codes p cs) f c) [
  | inl a ↦ record { code = d; among = first_among d cs; is = sym a }
  | inr b ↦ let r = found_from p cs f b in record { code = r.code; among = later_among d cs r.code r.among; is = r.is }
]

abbrev pub found_listed : (p : Place) (cs : List Code) → Listing (IsFoundAt p cs)
found_listed p cs = record { all = at_codes p cs; into = found_into p cs; from = found_from p cs }

-- the finding of a flow with this code, before others
abbrev at_flow : Place → Option Code → List Finding → List Finding
at_flow p None rest = rest
at_flow p (Some c) rest = finding p c ∷ rest

abbrev pub at_flows : Place → FlowLabels → List Finding
at_flows p [] = []
at_flows p (x ∷ xs) = at_flow p x.code (at_flows p xs)

first_flow : (p : Place) (o : Option Code) (code : Code) (rest : List Finding) → o ≡ Some code
    → Contains (at_flow p o rest) (finding p code)
first_flow p None code rest e = absurd (grind (arith, e))
first_flow p (Some c) code rest e = subst (λ x. Contains (finding p c ∷ rest) (finding p x)) (same_Some c code e)
    (first_among (finding p c) rest)

later_flow : (p : Place) (o : Option Code) (f : Finding) (rest : List Finding) → Contains rest f
    → Contains (at_flow p o rest) f
later_flow p None f rest c = c
later_flow p (Some d) f rest c = later_among (finding p d) rest f c

flow_code_into : (p : Place) (xs : FlowLabels) (x : FlowLabel) (code : Code) → Contains xs x → x.code ≡ Some code
    → Contains (at_flows p xs) (finding p code)
flow_code_into p [] x code c e = absurd (none_among x c)
flow_code_into p (y ∷ ys) x code c e = elim (among_first y ys x c) [
  | inl a ↦ first_flow p y.code code (at_flows p ys) (ap (λ z. z.code) a ∙ e)
  | inr b ↦ later_flow p y.code (finding p code) (at_flows p ys) (flow_code_into p ys x code b e)
]

pub flow_into : (p : Place) (xs : FlowLabels) (f : Finding) → IsFlowAt p xs f → Contains (at_flows p xs) f
flow_into p xs f h = subst (λ x. Contains (at_flows p xs) x) (sym h.is)
    (flow_code_into p xs h.flow h.code h.among h.found)

pub flow_from : (p : Place) (xs : FlowLabels) (f : Finding) → Contains (at_flows p xs) f → IsFlowAt p xs f
flow_from p [] f c = absurd (none_among f c)
flow_from p (x ∷ xs) f c = go x.code refl c (flow_from p xs f)
  where
    behind : IsFlowAt p xs f → IsFlowAt p (x ∷ xs) f
    behind r = record {
      flow = r.flow;
      among = later_among x xs r.flow r.among;
      code = r.code;
      found = r.found;
      is =
          r.is;
    }

    go : (o : Option Code) → x.code ≡ o → Contains (at_flow p o (at_flows p xs)) f
        → (Contains (at_flows p xs) f → IsFlowAt p xs f) → IsFlowAt p (x ∷ xs) f
    go None is c rest = behind (rest c)
    go (Some d) is c rest = elim (among_first (finding p d) (at_flows p xs) f c) [
      | inl a ↦ record { flow = x; among = first_among x xs; code = d; found = is; is = sym a }
      | inr b ↦ behind (rest b)
    ]

abbrev pub flow_listed : (p : Place) (cs : FlowLabels) → Listing (IsFlowAt p cs)
flow_listed p cs = record { all = at_flows p cs; into = flow_into p cs; from = flow_from p cs }

abbrev pub code_listed : (p : Place) (c : Option Code) → Listing (IsCodeAt p c)
code_listed p None = nothing_listed
code_listed p (Some code) = equal_listed (finding p code)

-- ---- expressions

abbrev mutual
  pub expr_listed : (e : Expr) (m : Labels e) → Listing (Finds e m)
  expr_listed (name n) m = found_listed n.place m.codes
  expr_listed (number p digits) m = found_listed p m.codes
  expr_listed (text p characters) m = found_listed p m.codes
  expr_listed (truth p value) m = found_listed p m.codes
  expr_listed (nothing p) m = found_listed p m.codes
  expr_listed (tuple p items) m = both_listed (found_listed p m.here.codes) (items_listed items m.items)
  expr_listed (list p items) m = both_listed (found_listed p m.here.codes) (items_listed items m.items)
  expr_listed (dict p entries) m = both_listed (found_listed p m.here.codes) (entries_listed entries m.entries)
  expr_listed (negative p e) m = both_listed (found_listed p m.here.codes) (expr_listed e m.operand)
  expr_listed (negation p e) m = both_listed (found_listed p m.here.codes) (expr_listed e m.operand)
  expr_listed (binary p operator l r) m = both_listed (found_listed p m.here.codes)
      (both_listed (expr_listed l m.left) (expr_listed r m.right))
  expr_listed (compare p operator l r) m = both_listed (found_listed p m.here.codes)
      (both_listed (flow_listed (place_of l) m.flows) (both_listed (expr_listed l m.left) (expr_listed r m.right)))
  expr_listed (is_none p e) m = both_listed (found_listed p m.here.codes) (expr_listed e m.operand)
  expr_listed (is_not_none p e) m = both_listed (found_listed p m.here.codes) (expr_listed e m.operand)
  expr_listed (conjunction p l r) m = both_listed (found_listed p m.here.codes)
      (both_listed (expr_listed l m.left) (expr_listed r m.right))
  expr_listed (disjunction p l r) m = both_listed (found_listed p m.here.codes)
      (both_listed (expr_listed l m.left) (expr_listed r m.right))
  expr_listed (attribute p e field) m = both_listed (found_listed p m.here.codes) (expr_listed e m.object)
  expr_listed (index p e i) m = both_listed (found_listed p m.here.codes)
      (both_listed (flow_listed (place_of i) m.flows) (both_listed (expr_listed e m.object) (expr_listed i m.key)))
  expr_listed (call p callee arguments keywords) m =
      both_listed (found_listed p m.here.codes) (both_listed (expr_listed callee m.callee)
      (both_listed (code_listed (second_place arguments p) m.second)
      (both_listed (arguments_listed (is_instance_test callee arguments keywords) arguments m.arguments)
      (keywords_listed keywords m.keywords))))

  pub items_listed : (es : Exprs) (m : ItemsLabels es) → Listing (ItemsFind es m)
  items_listed no_exprs m = nothing_listed
  items_listed (more_exprs e rest) m = both_listed (flow_listed (place_of e) m.flows)
      (both_listed (expr_listed e m.first) (items_listed rest m.rest))

  pub arguments_listed : (is_test : Test) (es : Exprs) (m : ItemsLabels es) → Listing (ArgumentsFind is_test es m)
  arguments_listed is_test no_exprs m = nothing_listed
  arguments_listed true (more_exprs e rest) m = expr_listed e m.first
  arguments_listed false (more_exprs e rest) m = both_listed (flow_listed (place_of e) m.flows)
      (both_listed (expr_listed e m.first) (arguments_listed false rest m.rest))

  pub entries_listed : (es : Entries) (m : EntriesLabels es) → Listing (EntriesFind es m)
  entries_listed no_entries m = nothing_listed
  entries_listed (more_entries key value rest) m =
      both_listed (both_listed (flow_listed (place_of key) m.key_flows) (expr_listed key m.key))
      (both_listed (both_listed (flow_listed (place_of value) m.value_flows) (expr_listed value m.value))
      (entries_listed rest m.rest))

  pub keywords_listed : (es : Keywords) (m : KeywordsLabels es) → Listing (KeywordsFind es m)
  keywords_listed no_keywords m = nothing_listed
  keywords_listed (more_keywords parameter value rest) m = both_listed (flow_listed (place_of value) m.flows)
      (both_listed (expr_listed value m.first) (keywords_listed rest m.rest))

-- ---- annotations

fits_not : (n most : ℕ) → nat_le n most ≡ true → most < n → ⊥
fits_not n most e less = grind (arith, nat_tests)

exceeds : (n most : ℕ) → nat_le n most ≡ false → most < n
exceeds n most e = grind (arith, nat_tests)

abbrev pub by_option : {A : Type 0} {P Q : Finding → Type 0} (o : Option A) → Listing P → Listing Q
    → Listing (λ f. MatchOption o (P f) (λ t. Q f))
by_option None p q = p
by_option (Some t) p q = q

module _ (m : Module) (bases : Bases) where
  abbrev mutual
    pub part_listed : (a : Ann) → Listing (PartFinds m bases a)
    part_listed (named n) = by_option (named_type m.imports_any (resolve_in_module m n.text))
        (equal_listed (finding n.place E09)) nothing_listed
    part_listed (none_type p) = nothing_listed
    part_listed (applied p head arguments) = by_option (applied_type (resolve_in_module m head.text)
        (read_anns m bases arguments)) (equal_listed (finding p E09)) (parts_listed arguments)
    part_listed (applied_empty p head) = by_option (empty_type (resolve_in_module m head.text))
        (equal_listed (finding p E09)) nothing_listed
    part_listed (tree.union p parts) = both_listed (by_option (union_type bases (read_anns m bases parts))
        (equal_listed (finding p E10)) nothing_listed) (parts_listed parts)

    pub parts_listed : (parts : Anns) → Listing (PartsFind m bases parts)
    parts_listed no_anns = nothing_listed
    parts_listed (more_anns a rest) = both_listed (part_listed a) (parts_listed rest)

  pub too_large : (a : Ann) → nat_le (nodes (reading m bases a)) node_limit ≡ true → (f : Finding)
      → IsTooLarge m bases a f → ⊥
  too_large a e f h = fits_not (nodes (reading m bases a)) node_limit e h.large

  pub is_large : (a : Ann) → nat_le (nodes (reading m bases a)) node_limit ≡ false
      → node_limit < nodes (reading m bases a)
  is_large a e = exceeds (nodes (reading m bases a)) node_limit e

  abbrev pub size_listed_by : (a : Ann) (fits : Test) → nat_le (nodes (reading m bases a)) node_limit ≡ fits
      → Listing (IsTooLarge m bases a)
  size_listed_by a true e = none_listed (λ f h. too_large a e f h)
  size_listed_by a false e = like (equal_listed (finding (place_of_ann a) E26))
      (λ f h. record { large = is_large a e; is = h }) (λ f h. h.is)

  abbrev pub ann_listed : (a : Ann) → Listing (AnnFinds m bases a)
  ann_listed a = both_listed (part_listed a) (size_listed_by a (nat_le (nodes (reading m bases a)) node_limit) refl)

  abbrev pub option_ann_listed : (a : Option Ann) → Listing (ann.OptionAnnFinds m bases a)
  option_ann_listed None = nothing_listed
  option_ann_listed (Some a) = ann_listed a

-- ---- statements

abbrev pub behind_listed : {A : Type 0} (completes : Test) (r : Behind completes A) (P : A → Finding → Type 0)
    → ((a : A) → Listing (P a)) → Listing (λ f. BehindRule completes r (λ a. P a f) ⊥)
behind_listed true r P each = each r
behind_listed false r P each = nothing_listed

module _ (m : Module) (ctx : Context) where
  abbrev pub option_listed : (e : Option Expr) (labels : OptionLabels e) → Listing (OptionFinds m ctx e labels)
  option_listed None labels = nothing_listed
  option_listed (Some e) labels = expr_listed e labels

  abbrev pub target_listed : (t : Target) (labels : TargetLabels t) → Listing (TargetFinds m ctx t labels)
  target_listed (to_name n) labels = nothing_listed
  target_listed (to_attribute p o field) labels = both_listed (found_listed p labels.codes)
      (expr_listed o labels.object)
  target_listed (to_index p o i) labels = both_listed (found_listed p labels.codes)
      (both_listed (flow_listed (place_of i) labels.key_flows) (both_listed (expr_listed o labels.object)
      (expr_listed i labels.key)))

  abbrev pub annotation_listed : (r : NameMeaning) (first : Test) (n : Name) (a : Ann)
      → Listing (AnnotationFinds m ctx r first n a)
  annotation_listed (meaning.Local x) false n a = equal_listed (finding n.place E24)
  annotation_listed r first n a = ann_listed m ctx.bases a

  abbrev mutual
    pub stmt_listed : (seen : NamesBound) (s : Stmt) (labels : StmtLabels s) → Listing (StmtFinds m ctx seen s labels)
    stmt_listed seen (pass p) labels = nothing_listed
    stmt_listed seen (breaks p) labels = nothing_listed
    stmt_listed seen (continues p) labels = nothing_listed
    stmt_listed seen (returns p e) labels = both_listed (flow_listed (option_place m ctx p e) labels.flows)
        (option_listed e labels.value)
    stmt_listed seen (asserts p c e) labels = both_listed (expr_listed c labels.condition)
        (option_listed e labels.message)
    stmt_listed seen (annotated p n a e) labels =
        both_listed (annotation_listed (ctx.resolve n.text) (is_first seen n) n a)
        (both_listed (flow_listed (option_place m ctx p e) labels.flows) (option_listed e labels.value))
    stmt_listed seen (assigns p t e) labels = both_listed (flow_listed (place_of e) labels.flows)
        (both_listed (expr_listed e labels.value) (target_listed t labels.target))
    stmt_listed seen (evaluates p e) labels = expr_listed e labels
    stmt_listed seen (while_loop p c b) labels = both_listed (expr_listed c labels.condition)
        (suite_listed seen b labels.body)
    stmt_listed seen (for_loop p n e b) labels =
        both_listed (found_listed (place_of e) labels.item.codes)
        (both_listed (flow_listed (place_of e) labels.flows) (both_listed (expr_listed e labels.iterable)
        (suite_listed (n.text ∷ seen) b labels.body)))
    stmt_listed seen (conditional p bs o) labels = both_listed (branches_listed seen bs labels.branches)
        (suite_listed (texts (bound_by_branches bs) ++ seen) o labels.otherwise)

    pub suite_listed : (seen : NamesBound) (b : Stmts) (labels : SuiteLabels b)
        → Listing (SuiteFinds m ctx seen b labels)
    suite_listed seen no_stmts labels = nothing_listed
    suite_listed seen (more_stmts s rest) labels =
        both_listed (stmt_listed seen s labels.first) (behind_listed (completes s) labels.behind
        (λ r. SuiteFinds m ctx (texts (bound_by_stmt s) ++ seen) rest r.rest)
        (λ r. suite_listed (texts (bound_by_stmt s) ++ seen) rest r.rest))

    pub branches_listed : (seen : NamesBound) (bs : Branches) (labels : BranchesLabels bs)
        → Listing (BranchesFind m ctx seen bs labels)
    branches_listed seen no_branches labels = nothing_listed
    branches_listed seen (more_branches c b rest) labels =
        both_listed (expr_listed c labels.condition) (both_listed (suite_listed seen b labels.body)
        (branches_listed (texts (bound_by b) ++ seen) rest labels.rest))

-- ---- functions, classes, items

abbrev pub default_listed : (l : Option Literal) (flows : FlowLabels) → Listing (DefaultFinds l flows)
default_listed None flows = nothing_listed
default_listed (Some l) flows = flow_listed (literal_place l) flows

module _ (m : Module) where
  abbrev pub params_listed : (ps : List Param) (labels : ParamsLabels ps) → Listing (ParamsFind m ps labels)
  params_listed [] labels = nothing_listed
  params_listed (p ∷ ps) labels = both_listed (option_ann_listed m (bases_of m) p.annotation)
      (both_listed (default_listed p.default labels.default) (params_listed ps labels.rest))

  module _ (constants : List Tree) where
    abbrev pub function_listed : (owner : Owner) (f : FuncDef) (labels : FunctionLabels f)
        → Listing (FunctionFinds m constants owner f labels)
    function_listed owner f labels =
        both_listed (params_listed f.params labels.params) (both_listed (option_ann_listed m (bases_of m) f.returns)
        (both_listed (code_listed f.name.place labels.completing)
        (suite_listed m (body_context m constants (locals owner f)) (names_entered [] (entry_parameters m owner f))
        f.body labels.body)))

    abbrev pub members_listed : (c k : ℕ) (ms : List Member) (labels : MembersLabels ms)
        → Listing (MembersFind m constants c k ms labels)
    members_listed c k [] labels = nothing_listed
    members_listed c k (field_member d ∷ rest) labels = both_listed (ann_listed m (bases_of m) d.annotation)
        (both_listed (default_listed d.default labels.default) (members_listed c k rest labels.rest))
    members_listed c k (method_member d ∷ rest) labels = both_listed
        (function_listed (owners.Method c k) d labels.method) (members_listed c (suc k) rest labels.rest)

    abbrev pub item_listed : (b : BeforeItem) (i : Item) (labels : ItemLabels i)
        → Listing (ItemFinds m constants b i labels)
    item_listed b (constant_item p c) labels = both_listed (option_ann_listed m (bases_of m) c.annotation)
        (both_listed (flow_listed (place_of c.value) labels.flows) (expr_listed c.value labels.value))
    item_listed b (class_item p c) labels = members_listed b.classes 0 c.members labels
    item_listed b (def_item p f) labels = function_listed (owners.Func b.functions) f labels

    abbrev pub all_items_listed : (b : BeforeItem) (items : List Item) (labels : modules.ModuleItemsLabels items)
        → Listing (modules.ModuleItemsFind m constants b items labels)
    all_items_listed b [] labels = nothing_listed
    all_items_listed b (i ∷ rest) labels = both_listed (item_listed b i labels.first)
        (all_items_listed (before_next m b i labels.first) rest labels.rest)
