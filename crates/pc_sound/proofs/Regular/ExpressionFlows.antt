-- The types that flow dynamically in an expression have dicts with int or str as key and classes as asked, where its
-- labels have: a type that flows is that of a label.
use Rattle.std.proofs.Common.{◌≡◌, ℕ, suc, List, [], ◌∷◌, ◌++◌, map, refl, sym, subst}
use Rattle.std.specs.Prelude.{Bool as Test, true, false, Option, Some, None}
use Rattle.pc_source.specs.declared.place.Place.{Place}
use Rattle.pc_tree.specs.declared.code.Code.{Code}
use Rattle.pc_tree.specs.declared.code.Code.TheVariants.{A1}
use Rattle.pc_tree.specs.Depth.{place_of}
use Rattle.pc_tree.specs.Tree.{Expr, Exprs, Entries, Keywords, name, number, text, truth, nothing, tuple, list, dict}
use Rattle.pc_tree.specs.Tree.{negative, negation, binary, compare, is_none, is_not_none, conjunction, disjunction}
use Rattle.pc_tree.specs.Tree.{attribute, index, call, no_exprs, more_exprs, no_entries, more_entries, no_keywords}
use Rattle.pc_tree.specs.Tree.{more_keywords}
use Rattle.pc_scope.specs.Expressions.{is_instance_test}
use Rattle.pc_types.specs.Tree.{Tree}
use Rattle.pc_types.specs.Below.{Bases}
use Rattle.pc_types.specs.Shape.{members}
use Rattle.pc_flow.specs.Environment.{Env}
use Rattle.pc_flow.specs.Narrowing.{narrow}
use Rattle.pc_rules.specs.Operations.{Label, operand_types, index_member}
use Rattle.pc_rules.specs.Context.{Context, FlowsInto}
use Rattle.pc_rules.specs.Calls.{Seat, arguments_given, count_exprs, positional_seat, named_seat}
use Rattle.pc_rules.specs.Labels.{FlowLabels, Labels, ItemsLabels, EntriesLabels, KeywordsLabels, whole_label, type_of}
use Rattle.pc_rules.specs.Labels.{with_label}
use Rattle.pc_rules.specs.Lawful.{Lawful, LawfulItems, LawfulEntries, LawfulKeywords, list_item, dict_parts}
use Rattle.pc_rules.specs.Lawful.{tuple_parts, members_of_expected, item_seat, part_seat, key_seat, value_seat}
use Rattle.pc_rules.specs.Lawful.{int_literal, compare_types, callee_of, keyword_seat}
use Rattle.pc_module_rules.specs.FlowsOfExpressions.{CodedFlow, coded_one, coded_at, coded_in, coded_in_exprs}
use Rattle.pc_module_rules.specs.FlowsOfExpressions.{coded_in_arguments, coded_in_entries, coded_in_keywords}
use Rattle.pc_sound.proofs.Regular.RegularParts.{Asked, IsRegular, Regular, ItemsRegular, EntriesRegular}
use Rattle.pc_sound.proofs.Regular.RegularParts.{KeywordsRegular, regular_type}
use Rattle.pc_sound.proofs.Regular.RegularLabels.{with_regular}

-- another label for an expression itself changes no flow in it
same_flows : (e : Expr) (m : Labels e) (here : Label) → coded_in A1 e (with_label e m here) ≡ coded_in A1 e m
same_flows (name n) m here = refl
same_flows (number p d) m here = refl
same_flows (text p d) m here = refl
same_flows (truth p d) m here = refl
same_flows (nothing p) m here = refl
same_flows (tuple p es) m here = refl
same_flows (list p es) m here = refl
same_flows (dict p es) m here = refl
same_flows (negative p e) m here = refl
same_flows (negation p e) m here = refl
same_flows (binary p o l r) m here = refl
same_flows (compare p o l r) m here = refl
same_flows (is_none p e) m here = refl
same_flows (is_not_none p e) m here = refl
same_flows (conjunction p l r) m here = refl
same_flows (disjunction p l r) m here = refl
same_flows (attribute p e n) m here = refl
same_flows (index p e i) m here = refl
same_flows (call p c args kws) m here = refl

module _ (asked : Asked) where
  -- each type that flows is regular
  abbrev pub FlowsRegular : List CodedFlow → Type 0
  FlowsRegular [] = Unit {0}
  FlowsRegular (d ∷ ds) = IsRegular asked d.from × FlowsRegular ds

  pub flows_append : (ds es : List CodedFlow) → FlowsRegular ds → FlowsRegular es → FlowsRegular (ds ++ es)
  flows_append [] es h k = k
  flows_append (d ∷ ds) es h k = (h.0, flows_append ds es h.1 k)

  one_flow : (p : Place) (s t : Tree) (code : Option Code) → IsRegular asked s → FlowsRegular (coded_one A1 p s t code)
  one_flow p s t (Some A1) h = (h, tt)
  one_flow p s t _ h = tt

  -- of a value with a regular type
  pub value_flows : (bases : Bases) (p : Place) (m : Label) (ts : List Tree) (flows : FlowLabels)
      → IsRegular asked m.type → FlowsInto bases m ts flows → FlowsRegular (coded_at A1 p flows)
  value_flows bases p m [] [] h law = tt
  value_flows bases p m [] (f ∷ fs) h law = absurd law
  value_flows bases p m (t ∷ ts) [] h law = absurd law
  value_flows bases p m (t ∷ ts) (f ∷ fs) h law =
      flows_append (coded_one A1 p f.from f.into f.code) (coded_at A1 p fs)
      (one_flow p f.from f.into f.code (subst (IsRegular asked) (sym law.0.from) h))
      (value_flows bases p m ts fs h law.1)

  -- where nothing flows
  pub no_flows : (p : Place) (flows : FlowLabels) → flows ≡ [] → FlowsRegular (coded_at A1 p flows)
  no_flows p flows e = subst (λ (fs : FlowLabels). FlowsRegular (coded_at A1 p fs)) (sym e) tt

  -- labels that are regular are so with the label that they have
  again : (e : Expr) (m : Labels e) → Regular asked e m → Regular asked e (with_label e m (whole_label e m))
  again e m k = with_regular asked e m (whole_label e m) k (regular_type asked e m k)

  -- ---- expressions

  -- in a callee, which has the labels of a value but for its own
  pub callee_flows : (c : Expr) (m value : Labels c) (here : Label) → m ≡ with_label c value here
      → FlowsRegular (coded_in A1 c value) → FlowsRegular (coded_in A1 c m)
  callee_flows c m value here is h = subst (λ (x : Labels c). FlowsRegular (coded_in A1 c x)) (sym is)
      (subst FlowsRegular (sym (same_flows c value here)) h)

  -- in a call
  pub call_flows : (c : Expr) (args : Exprs) (kws : Keywords) (cm : Labels c) (am : ItemsLabels args)
      (km : KeywordsLabels kws) → FlowsRegular (coded_in A1 c cm)
      → FlowsRegular (coded_in_arguments A1 (is_instance_test c args kws) args am)
      → FlowsRegular (coded_in_keywords A1 kws km)
      → FlowsRegular (coded_in A1 c cm ++ (coded_in_arguments A1 (is_instance_test c args kws) args am
      ++ coded_in_keywords A1 kws km))
  call_flows c args kws cm am km callee arguments named =
      flows_append (coded_in A1 c cm) (coded_in_arguments A1 (is_instance_test c args kws) args am ++ coded_in_keywords
      A1
      kws km) callee (flows_append (coded_in_arguments A1 (is_instance_test c args kws) args am)
      (coded_in_keywords A1 kws km) arguments named)

  module _ (ctx : Context) (declared : List Tree) where
    mutual
      -- in an expression, whatever its own label is
      parts_flows : (env : Env) (want : Option Tree) (e : Expr) (m : Labels e) (here : Label)
          → Regular asked e (with_label e m here) → Lawful ctx declared env want e m → FlowsRegular (coded_in A1 e m)
      parts_flows env want (name n) m here k law = tt
      parts_flows env want (number p d) m here k law = tt
      parts_flows env want (text p d) m here k law = tt
      parts_flows env want (truth p b) m here k law = tt
      parts_flows env want (nothing p) m here k law = tt
      parts_flows env want (tuple p es) m here k law = items_flows env
          (part_seat (tuple_parts (count_exprs es) (members_of_expected want))) es m.items k.1 law.items
      parts_flows env want (list p es) m here k law = items_flows env
          (λ i. item_seat (list_item (members_of_expected want))) es m.items k.1 law.items
      parts_flows env want (dict p es) m here k law = entries_flows env
          (key_seat (dict_parts (members_of_expected want))) (value_seat (dict_parts (members_of_expected want))) es
          m.entries k.1 law.entries
      parts_flows env want (negative p e) m here k law = parts_flows env None e m.operand (whole_label e m.operand)
          (again e m.operand k.1) law.operand
      parts_flows env want (negation p e) m here k law = parts_flows env None e m.operand (whole_label e m.operand)
          (again e m.operand k.1) law.operand
      parts_flows env want (binary p o l r) m here k law =
          flows_append (coded_in A1 l m.left) (coded_in A1 r m.right)
          (parts_flows env None l m.left (whole_label l m.left) (again l m.left k.1.0) law.left)
          (parts_flows env None r m.right (whole_label r m.right) (again r m.right k.1.1) law.right)
      parts_flows env want (compare p o l r) m here k law =
          flows_append (coded_in A1 l m.left) (coded_in A1 r m.right ++ coded_at A1 (place_of l) m.flows)
          (parts_flows env None l m.left (whole_label l m.left) (again l m.left k.1.0) law.left)
          (flows_append (coded_in A1 r m.right) (coded_at A1 (place_of l) m.flows)
          (parts_flows env None r m.right (whole_label r m.right) (again r m.right k.1.1) law.right)
          (value_flows ctx.bases (place_of l) (whole_label l m.left) (compare_types o (type_of r m.right)) m.flows
          (regular_type asked l m.left k.1.0) law.flows))
      parts_flows env want (is_none p e) m here k law = parts_flows env None e m.operand (whole_label e m.operand)
          (again e m.operand k.1) law.operand
      parts_flows env want (is_not_none p e) m here k law = parts_flows env None e m.operand (whole_label e m.operand)
          (again e m.operand k.1) law.operand
      parts_flows env want (conjunction p l r) m here k law =
          flows_append (coded_in A1 l m.left) (coded_in A1 r m.right)
          (parts_flows env None l m.left (whole_label l m.left) (again l m.left k.1.0) law.left)
          (parts_flows (narrow ctx.bases declared ctx.resolve true l env) None r m.right (whole_label r m.right)
          (again r m.right k.1.1) law.right)
      parts_flows env want (disjunction p l r) m here k law =
          flows_append (coded_in A1 l m.left) (coded_in A1 r m.right)
          (parts_flows env None l m.left (whole_label l m.left) (again l m.left k.1.0) law.left)
          (parts_flows (narrow ctx.bases declared ctx.resolve false l env) None r m.right (whole_label r m.right)
          (again r m.right k.1.1) law.right)
      parts_flows env want (attribute p e n) m here k law = parts_flows env None e m.object (whole_label e m.object)
          (again e m.object k.1) law.object
      parts_flows env want (index p e i) m here k law =
          flows_append (coded_in A1 e m.object) (coded_in A1 i m.key ++ coded_at A1 (place_of i) m.flows)
          (parts_flows env None e m.object (whole_label e m.object) (again e m.object k.1.0) law.object)
          (flows_append (coded_in A1 i m.key) (coded_at A1 (place_of i) m.flows)
          (parts_flows env None i m.key (whole_label i m.key) (again i m.key k.1.1) law.key)
          (value_flows ctx.bases (place_of i) (whole_label i m.key)
          (operand_types (map (index_member ctx.bases (int_literal i)) (members (type_of e m.object)))) m.flows
          (regular_type asked i m.key k.1.1) law.flows))
      parts_flows env want (call p c args kws) m here k law =
          let callee = callee_of ctx env (arguments_given args kws) c law.value in
          call_flows c args kws m.callee m.arguments m.keywords
          (callee_flows c m.callee law.value callee.label law.callee
          (parts_flows env None c law.value callee.label (subst (Regular asked c) law.callee k.1.0) law.lawful))
          (arguments_flows (is_instance_test c args kws) env (positional_seat callee.offers) args m.arguments k.1.1.0
          law.arguments)
          (keywords_flows env (named_seat callee.offers) [] kws m.keywords k.1.1.1 law.keywords)

      items_flows : (env : Env) (seat : ℕ → Seat) (es : Exprs) (m : ItemsLabels es) → ItemsRegular asked es m
          → LawfulItems ctx declared env seat es m → FlowsRegular (coded_in_exprs A1 es m)
      items_flows env seat no_exprs m k law = tt
      items_flows env seat (more_exprs e rest) m k law =
          flows_append (coded_in A1 e m.first) (coded_at A1 (place_of e) m.flows ++ coded_in_exprs A1 rest m.rest)
          (parts_flows env (seat 0).want e m.first (whole_label e m.first) (again e m.first k.0) law.first)
          (flows_append (coded_at A1 (place_of e) m.flows) (coded_in_exprs A1 rest m.rest)
          (value_flows ctx.bases (place_of e) (whole_label e m.first) (seat 0).into m.flows
          (regular_type asked e m.first k.0) law.flows)
          (items_flows env (λ i. seat (suc i)) rest m.rest k.1 law.rest))

      pub arguments_flows : (test : Test) (env : Env) (seat : ℕ → Seat) (es : Exprs) (m : ItemsLabels es)
          → ItemsRegular asked es m → LawfulItems ctx declared env seat es m
          → FlowsRegular (coded_in_arguments A1 test es m)
      arguments_flows true env seat no_exprs m k law = tt
      arguments_flows false env seat no_exprs m k law = tt
      arguments_flows true env seat (more_exprs e rest) m k law = parts_flows env (seat 0).want e m.first
          (whole_label e m.first) (again e m.first k.0) law.first
      arguments_flows false env seat (more_exprs e rest) m k law =
          flows_append (coded_in A1 e m.first) (coded_at A1 (place_of e) m.flows ++ coded_in_arguments A1 false rest
          m.rest)
          (parts_flows env (seat 0).want e m.first (whole_label e m.first) (again e m.first k.0) law.first)
          (flows_append (coded_at A1 (place_of e) m.flows) (coded_in_arguments A1 false rest m.rest)
          (value_flows ctx.bases (place_of e) (whole_label e m.first) (seat 0).into m.flows
          (regular_type asked e m.first k.0) law.flows)
          (arguments_flows false env (λ i. seat (suc i)) rest m.rest k.1 law.rest))

      entries_flows : (env : Env) (key value : Seat) (es : Entries) (m : EntriesLabels es) → EntriesRegular asked es m
          → LawfulEntries ctx declared env key value es m → FlowsRegular (coded_in_entries A1 es m)
      entries_flows env key value no_entries m k law = tt
      entries_flows env key value (more_entries a b rest) m k law =
          flows_append (coded_in A1 a m.key) (coded_at A1 (place_of a) m.key_flows
          ++ (coded_in A1 b m.value ++ (coded_at A1 (place_of b) m.value_flows ++ coded_in_entries A1 rest m.rest)))
          (parts_flows env key.want a m.key (whole_label a m.key) (again a m.key k.0) law.key)
          (flows_append (coded_at A1 (place_of a) m.key_flows) (coded_in A1 b m.value
          ++ (coded_at A1 (place_of b) m.value_flows ++ coded_in_entries A1 rest m.rest))
          (value_flows ctx.bases (place_of a) (whole_label a m.key) key.into m.key_flows
          (regular_type asked a m.key k.0) law.key_flows)
          (flows_append (coded_in A1 b m.value) (coded_at A1 (place_of b) m.value_flows ++ coded_in_entries A1 rest
          m.rest)
          (parts_flows env value.want b m.value (whole_label b m.value) (again b m.value k.1.0) law.value)
          (flows_append (coded_at A1 (place_of b) m.value_flows) (coded_in_entries A1 rest m.rest)
          (value_flows ctx.bases (place_of b) (whole_label b m.value) value.into m.value_flows
          (regular_type asked b m.value k.1.0) law.value_flows)
          (entries_flows env key value rest m.rest k.1.1 law.rest))))

      pub keywords_flows : (env : Env) (named : List ℕ → Seat) (before : List (List ℕ)) (es : Keywords)
          (m : KeywordsLabels es) → KeywordsRegular asked es m → LawfulKeywords ctx declared env named before es m
          → FlowsRegular (coded_in_keywords A1 es m)
      keywords_flows env named before no_keywords m k law = tt
      keywords_flows env named before (more_keywords n e rest) m k law =
          flows_append (coded_in A1 e m.first) (coded_at A1 (place_of e) m.flows ++ coded_in_keywords A1 rest m.rest)
          (parts_flows env (keyword_seat named before n).want e m.first (whole_label e m.first) (again e m.first k.0)
          law.first)
          (flows_append (coded_at A1 (place_of e) m.flows) (coded_in_keywords A1 rest m.rest)
          (value_flows ctx.bases (place_of e) (whole_label e m.first) (keyword_seat named before n).into m.flows
          (regular_type asked e m.first k.0) law.flows)
          (keywords_flows env named (n.text ∷ before) rest m.rest k.1 law.rest))

    -- in an expression
    pub expression_flows : (env : Env) (want : Option Tree) (e : Expr) (m : Labels e) → Regular asked e m
        → Lawful ctx declared env want e m → FlowsRegular (coded_in A1 e m)
    expression_flows env want e m k law = parts_flows env want e m (whole_label e m) (again e m k) law

    -- in a value, and then those of the value
    pub value_and_flows : (env : Env) (want : Option Tree) (e : Expr) (m : Labels e) (ts : List Tree)
        (flows : FlowLabels) → Regular asked e m → Lawful ctx declared env want e m
        → FlowsInto ctx.bases (whole_label e m) ts flows → FlowsRegular
        (coded_in A1 e m ++ coded_at A1 (place_of e) flows)
    value_and_flows env want e m ts flows k law into = flows_append (coded_in A1 e m) (coded_at A1 (place_of e) flows)
        (expression_flows env want e m k law) (value_flows ctx.bases (place_of e) (whole_label e m) ts flows
        (regular_type asked e m k) into)
