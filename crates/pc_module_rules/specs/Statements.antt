-- The lawful labelling of statements, and the findings in them. Language Reference 3.12, 7 "Simple statements", 8
-- "Compound statements"; own rules of the profile.
use Rattle.std.specs.Prelude.{◌≡◌, ◌⊎◌, ℕ, List, [], ◌∷◌, ◌++◌, map, Bool as Test, true, false, not, nat_eq, Option}
use Rattle.std.specs.Prelude.{Some, None, option_to_list}
use Rattle.std.specs.List.{list_any}
use Rattle.pc_source.specs.declared.place.Place.{Place}
use Rattle.pc_tree.specs.declared.code.Code.{Code}
use Rattle.pc_tree.specs.declared.code.Code.TheVariants.{E24}
use Rattle.pc_tree.specs.declared.code.Finding.{Finding}
use Rattle.pc_tree.specs.Code.{finding}
use Rattle.pc_tree.specs.Tree.{Name, Expr, name, call, Exprs, Keywords, Ann, Target, to_name, to_attribute, to_index}
use Rattle.pc_tree.specs.Tree.{Stmt, Stmts, Branches, pass, breaks, continues, returns, asserts, annotated, assigns}
use Rattle.pc_tree.specs.Tree.{evaluates, while_loop, for_loop, conditional, no_stmts, more_stmts, no_branches}
use Rattle.pc_tree.specs.Tree.{more_branches, Module}
use Rattle.pc_scope.specs.declared.resolution.NameMeaning.{NameMeaning}
use Rattle.pc_scope.specs.declared.resolution.NameMeaning.TheVariants as meaning
use Rattle.pc_tree.specs.Stopping.{bound_by_stmt, bound_by, bound_by_branches}
use Rattle.pc_tree.specs.Depth.{place_of}
use Rattle.pc_scope.specs.Bindings.{texts}
use Rattle.pc_scope.specs.Resolution.{is_one_of}
use Rattle.pc_scope.specs.Reach.{completes}
use Rattle.pc_types.specs.Tree.{Tree, Any, NoneType}
use Rattle.pc_types.specs.Shape.{members}
use Rattle.pc_annotations.specs.Annotations.{read_ann, AnnFinds}
use Rattle.pc_flow.specs.Environment.{Env, declared_type, assign, assigned_type, join_envs_onto, join_ways, loop_head}
use Rattle.pc_flow.specs.Narrowing.{narrow}
use Rattle.pc_rules.specs.Operations.{Label, clean, offers_label, StoreOffer, store_codes, store_index_types}
use Rattle.pc_rules.specs.Operations.{stored_types, only_type, store_attribute_member, store_index_member}
use Rattle.pc_rules.specs.Operations.{iterate_member}
use Rattle.pc_rules.specs.Context.{Context, FlowsInto}
use Rattle.pc_rules.specs.Calls.{arguments_given, call_label, positional_seat, named_seat, is_range, range_offers}
use Rattle.pc_rules.specs.Calls.{range_item}
use Rattle.pc_rules.specs.Labels.{FlowLabels, Labels, whole_label, type_of, with_label, Finds, IsFoundAt, IsFlowAt}
use Rattle.pc_rules.specs.Lawful.{Lawful, LawfulItems, LawfulKeywords}
use Rattle.pc_module_rules.specs.StatementLabels.{OptionLabels, TargetLabels, StmtLabels, SuiteLabels, BranchesLabels}
use Rattle.pc_module_rules.specs.StatementLabels.{BehindRule}
use Rattle.pc_module_rules.specs.StatementLabels.{breaks_in_suite, ways_in}

-- the code of a single flow
abbrev pub only_code : FlowLabels → Option Code
only_code [] = None
only_code (f ∷ fs) = f.code

-- the names bound so far, in text order; a name is first bound where it is not among them
abbrev pub NamesBound : Type 0
NamesBound = List (List ℕ)

-- whether the name is none of those bound so far
abbrev pub is_first : NamesBound → Name → Test
is_first seen n = not (is_one_of n.text seen)

-- whether a meaning is the local of this number
abbrev pub is_local_number : ℕ → NameMeaning → Test
is_local_number x (meaning.Local y) = nat_eq x y
is_local_number x _ = false

-- whether one of the names means the local of this number
abbrev pub binds_number : (List ℕ → NameMeaning) → List Name → ℕ → Test
binds_number resolve names x = list_any (λ n. is_local_number x (resolve n.text)) names

-- ---- the iterable of a `for`

module _ (m : Module) (ctx : Context) (declared : List Tree) where
  -- an environment joined with others, from the left
  abbrev joined : Env → List Env → Env
  joined env envs = join_envs_onto ctx.bases declared env envs

  -- the environment where a condition is true
  abbrev after_true : Expr → Env → Env
  after_true c env = narrow ctx.bases declared ctx.resolve true c env

  -- the environment where a condition is false
  abbrev after_false : Expr → Env → Env
  after_false c env = narrow ctx.bases declared ctx.resolve false c env

  -- a call of `range` as an iterable: its argument flows into int
  abbrev pub LawfulRange : Env → (c : Expr) → (args : Exprs) → (kws : Keywords) → (p : Place)
      → Labels (call p c args kws) → Type 0
  LawfulRange env c args kws p labels = record {
    value : Labels c;
    lawful : Lawful ctx declared env None c value;
    callee : labels.callee ≡ with_label c value (clean Any);
    arguments : LawfulItems ctx declared env
        (positional_seat (range_offers (arguments_given args kws))) args labels.arguments;
    keywords : LawfulKeywords ctx declared env
        (named_seat (range_offers (arguments_given args kws))) [] kws labels.keywords;
    here : labels.here ≡ call_label ctx.bases (range_offers (arguments_given args kws));
    second : labels.second ≡ None;
  }

  -- any other iterable: list T gives T, dict K gives K, str gives str, a tuple the join of its items
  abbrev pub LawfulValues : Env → (e : Expr) → Labels e → Label → Type 0
  LawfulValues env e labels item = Lawful ctx declared env None e labels
      × (item ≡ offers_label ctx.bases (map (iterate_member ctx.bases) (members (type_of e labels))))

  -- the rule for a call of `range`, or the rule for any other iterable
  abbrev pub RangeOrValues : (is_range : Test) → Type 0 → Type 0 → Type 0
  RangeOrValues true R V = R
  RangeOrValues false R V = V

  -- the iterable of a `for` is lawful, and this is the label of its items
  abbrev pub LawfulIterable : Env → (e : Expr) → Labels e → Label → Type 0
  LawfulIterable env (call p (name n) args kws) labels item =
      RangeOrValues (is_range (ctx.resolve n.text))
      (LawfulRange env (name n) args kws p labels × (item ≡ range_item (arguments_given args kws)))
      (LawfulValues env (call p (name n) args kws) labels item)
  LawfulIterable env e labels item = LawfulValues env e labels item

  -- ---- binding a local

  -- the declared type of a local comes from its first binding: its annotation, else the type bound
  abbrev pub DeclaredAt : (first : Test) → ℕ → Option Tree → Tree → Type 0
  DeclaredAt false x annotation from = Unit {0}
  DeclaredAt true x (Some t) from = declared_type declared x ≡ t
  DeclaredAt true x None from = declared_type declared x ≡ from

  -- the expected type of a value: the declared type, if it is known
  abbrev pub known_type : (first : Test) → ℕ → Option Tree → Option Tree
  known_type true x None = None
  known_type first x annotation = Some (declared_type declared x)

  -- the environment after a type was assigned to a local, with the code of that flow
  abbrev pub bound_env : Env → ℕ → Tree → FlowLabels → Env
  bound_env env x from flows = assign env x (assigned_type (declared_type declared x) from (only_code flows))

  -- the binding of a value to a name is lawful; a name that means no local binds nothing, and nothing flows into it
  abbrev pub LawfulBinding : Env → NamesBound → Name → NameMeaning → Option Tree → (e : Expr) → Labels e → FlowLabels → Env
      → Type 0
  LawfulBinding env seen n (meaning.Local x) annotation e labels flows after = record {
    value : Lawful ctx declared env (known_type (is_first seen n) x annotation) e labels;
    at_first : DeclaredAt (is_first seen n) x annotation (type_of e labels);
    flow : FlowsInto ctx.bases (whole_label e labels) (declared_type declared x ∷ []) flows;
    after_is : after ≡ bound_env env x (type_of e labels) flows;
  }
  LawfulBinding env seen n _ annotation e labels flows after = record {
    value : Lawful ctx declared env None e labels;
    flow : flows ≡ [];
    after_is : after ≡ env;
  }

  -- the annotation of a name without a value is lawful
  abbrev pub LawfulDeclaration : NamesBound → Name → NameMeaning → Tree → Type 0
  LawfulDeclaration seen n (meaning.Local x) t = DeclaredAt (is_first seen n) x (Some t) t
  LawfulDeclaration seen n _ t = Unit {0}

  -- the target of a `for` is lawful, with its item type
  abbrev pub LawfulTarget : NamesBound → Name → NameMeaning → Env → Label → FlowLabels → Env → Type 0
  LawfulTarget seen n (meaning.Local x) head item flows inside = record {
    at_first : DeclaredAt (is_first seen n) x None item.type;
    flow : FlowsInto ctx.bases (clean item.type) (declared_type declared x ∷ []) flows;
    inside_is : inside ≡ bound_env head x item.type flows;
  }
  LawfulTarget seen n _ head item flows inside = (flows ≡ []) × (inside ≡ head)

  -- a local first bound in unreachable code has declared type Any
  abbrev pub UndeclaredName : (first : Test) → NameMeaning → Type 0
  UndeclaredName true (meaning.Local x) = declared_type declared x ≡ Any
  UndeclaredName first r = Unit {0}

  -- each of the names first bound in unreachable code has declared type Any
  abbrev pub AreUndeclared : NamesBound → List Name → Type 0
  AreUndeclared seen [] = Unit {0}
  AreUndeclared seen (n ∷ ns) = UndeclaredName (is_first seen n) (ctx.resolve n.text) × AreUndeclared (n.text ∷ seen) ns

  -- ---- targets other than names

  -- the results of a store to an attribute on each member of the object's type
  abbrev pub attribute_offers : List ℕ → Tree → List StoreOffer
  attribute_offers field t = map (store_attribute_member ctx.classes field) (members t)

  -- the results of a store to an item on each member of the object's type
  abbrev pub index_offers : Tree → List StoreOffer
  index_offers t = map store_index_member (members t)

  -- a store to an attribute or an item is lawful: its parts, the codes at the target, and the flows
  abbrev pub LawfulStore : Env → (t : Target) → TargetLabels t → (e : Expr) → Labels e → FlowLabels → Type 0
  LawfulStore env (to_name n) target e labels flows = ⊥
  LawfulStore env (to_attribute p o field) target e labels flows = record {
    object : Lawful ctx declared env None o target.object;
    value : Lawful ctx declared env
        (only_type (attribute_offers field.text (type_of o target.object))
        (stored_types (attribute_offers field.text (type_of o target.object)))) e labels;
    codes : target.codes ≡ store_codes (attribute_offers field.text (type_of o target.object));
    flow : FlowsInto ctx.bases (whole_label e labels)
        (stored_types (attribute_offers field.text (type_of o target.object))) flows;
  }
  LawfulStore env (to_index p o i) target e labels flows = record {
    object : Lawful ctx declared env None o target.object;
    key : Lawful ctx declared env None i target.key;
    value : Lawful ctx declared env
        (only_type (index_offers (type_of o target.object)) (stored_types (index_offers (type_of o target.object))))
        e labels;
    codes : target.codes ≡ store_codes (index_offers (type_of o target.object));
    key_flow : FlowsInto ctx.bases (whole_label i target.key)
        (store_index_types (index_offers (type_of o target.object))) target.key_flows;
    flow : FlowsInto ctx.bases (whole_label e labels) (stored_types (index_offers (type_of o target.object))) flows;
  }

  -- an assignment is lawful, with the environment after it: a name is bound, any other target is stored to
  abbrev pub LawfulAssignment : Env → NamesBound → (t : Target) → TargetLabels t → (e : Expr) → Labels e → FlowLabels
      → Env
      → Type 0
  LawfulAssignment env seen (to_name n) target e labels flows after =
      LawfulBinding env seen n (ctx.resolve n.text) None e labels flows after
  LawfulAssignment env seen t target e labels flows after = LawfulStore env t target e labels flows × (after ≡ env)

  -- the annotation of a name, ignored for a parameter or a name bound earlier, which keeps its declared type
  abbrev pub annotation_at : (first : Test) → Tree → Option Tree
  annotation_at true t = Some t
  annotation_at false t = None

  -- an annotated name is lawful, with or without a value, with the environment after it
  abbrev pub LawfulAnnotated : Env → NamesBound → Name → Ann → (e : Option Expr) → OptionLabels e → FlowLabels → Env
      → Type 0
  LawfulAnnotated env seen n a None labels flows after =
      LawfulDeclaration seen n (ctx.resolve n.text) (read_ann m ctx.bases a) × (flows ≡ []) × (after ≡ env)
  LawfulAnnotated env seen n a (Some e) labels flows after =
      LawfulBinding env seen n (ctx.resolve n.text)
      (annotation_at (is_first seen n) (read_ann m ctx.bases a)) e labels flows after

  module _ (returned : Tree) where
    -- the value of a `return` is lawful and flows into the return type; without a value, None flows
    abbrev pub LawfulReturn : Env → (e : Option Expr) → OptionLabels e → FlowLabels → Type 0
    LawfulReturn env None labels flows = FlowsInto ctx.bases (clean NoneType) (returned ∷ []) flows
    LawfulReturn env (Some e) labels flows = Lawful ctx declared env (Some returned) e labels
        × FlowsInto ctx.bases (whole_label e labels) (returned ∷ []) flows

    -- an expression that may be missing is lawful, without an expected type
    abbrev pub LawfulOption : Env → (e : Option Expr) → OptionLabels e → Type 0
    LawfulOption env None labels = Unit {0}
    LawfulOption env (Some e) labels = Lawful ctx declared env None e labels

    -- the labels of statements, suites and branches are lawful
    abbrev mutual
      -- a statement is lawful, after the names bound so far, from the environment before it to the one after it, if it
      -- can complete
      pub LawfulStmt : NamesBound → Env → (s : Stmt) → StmtLabels s → Option Env → Type 0
      LawfulStmt seen env (pass p) labels out = out ≡ Some env
      LawfulStmt seen env (breaks p) labels out = (labels ≡ env) × (out ≡ None)
      LawfulStmt seen env (continues p) labels out = out ≡ None
      LawfulStmt seen env (returns p e) labels out = LawfulReturn env e labels.value labels.flows × (out ≡ None)
      -- the message is checked where the condition is false
      LawfulStmt seen env (asserts p c e) labels out = record {
        condition : Lawful ctx declared env None c labels.condition;
        message : LawfulOption (after_false c env) e labels.message;
        after : out ≡ Some (after_true c env);
      }
      LawfulStmt seen env (annotated p n a e) labels out = record {
        after : Env;
        binding : LawfulAnnotated env seen n a e labels.value labels.flows after;
        is : out ≡ Some after;
      }
      LawfulStmt seen env (assigns p t e) labels out = record {
        after : Env;
        assignment : LawfulAssignment env seen t labels.target e labels.value labels.flows after;
        is : out ≡ Some after;
      }
      LawfulStmt seen env (evaluates p e) labels out = Lawful ctx declared env None e labels × (out ≡ Some env)
      -- the condition is checked at the head, the body where it is true; after the loop: the join of the head where it
      -- is false and of each `break`
      LawfulStmt seen env (while_loop p c b) labels out = record {
        head : labels.head ≡ loop_head (binds_number ctx.resolve (bound_by b)) declared env;
        condition : Lawful ctx declared labels.head None c labels.condition;
        body : LawfulSuite seen (after_true c labels.head) b labels.body labels.out;
        after : out ≡ Some (joined (after_false c labels.head) (breaks_in_suite b labels.body));
      }
      -- the iterable is checked before the loop, the body with the target assigned; after the loop: the join of the
      -- head and of each `break`
      LawfulStmt seen env (for_loop p n e b) labels out = record {
        iterable : LawfulIterable env e labels.iterable labels.item;
        head : labels.head ≡ loop_head (binds_number ctx.resolve (n ∷ bound_by b)) declared env;
        inside : Env;
        target : LawfulTarget seen n (ctx.resolve n.text) labels.head labels.item labels.flows inside;
        body : LawfulSuite (n.text ∷ seen) inside b labels.body labels.out;
        after : out ≡ Some (joined labels.head (breaks_in_suite b labels.body));
      }
      -- the branches, and then the join of those that can complete, a missing `else` counting as one
      LawfulStmt seen env (conditional p bs o) labels out = record {
        branches : LawfulBranches seen env bs labels.branches labels.last;
        otherwise : LawfulSuite (texts (bound_by_branches bs) ++ seen) labels.last o labels.otherwise labels.out;
        after : out ≡ join_ways ctx.bases declared (ways_in bs labels.branches ++ option_to_list labels.out);
      }

      -- a suite is lawful, from the environment before it to the one after it, if it can complete
      pub LawfulSuite : NamesBound → Env → (b : Stmts) → SuiteLabels b → Option Env → Type 0
      LawfulSuite seen env no_stmts labels out = out ≡ Some env
      LawfulSuite seen env (more_stmts s rest) labels out =
          BehindRule (completes s) labels.behind
          (λ r. LawfulStmt seen env s labels.first (Some r.env)
          × LawfulSuite (texts (bound_by_stmt s) ++ seen) r.env rest r.rest out)
          (LawfulStmt seen env s labels.first None × AreUndeclared (texts (bound_by_stmt s) ++ seen) (bound_by rest)
          × (out ≡ None))

      -- branches are lawful: each condition is checked where the ones before it are false
      pub LawfulBranches : NamesBound → Env → (bs : Branches) → BranchesLabels bs → Env → Type 0
      LawfulBranches seen env no_branches labels last = last ≡ env
      LawfulBranches seen env (more_branches c b rest) labels last = record {
        condition : Lawful ctx declared env None c labels.condition;
        body : LawfulSuite seen (after_true c env) b labels.body labels.out;
        others : LawfulBranches (texts (bound_by b) ++ seen) (after_false c env) rest labels.rest last;
      }

-- ---- the findings in statements

module _ (m : Module) (ctx : Context) where
  -- the findings in an expression that may be missing
  abbrev pub OptionFinds : (e : Option Expr) → OptionLabels e → Finding → Type 0
  OptionFinds None labels f = ⊥
  OptionFinds (Some e) labels f = Finds e labels f

  -- the place of an expression, or this one if it is missing
  abbrev pub option_place : Place → Option Expr → Place
  option_place p None = p
  option_place p (Some e) = place_of e

  -- the findings at a target and in its parts, none for a name
  abbrev pub TargetFinds : (t : Target) → TargetLabels t → Finding → Type 0
  TargetFinds (to_name n) labels f = ⊥
  TargetFinds (to_attribute p o field) labels f = IsFoundAt p labels.codes f ⊎ Finds o labels.object f
  TargetFinds (to_index p o i) labels f = IsFoundAt p labels.codes f
      ⊎ (IsFlowAt (place_of i) labels.key_flows f ⊎ (Finds o labels.object f ⊎ Finds i labels.key f))

  -- the findings at an annotation: E24 if the name is a parameter or bound earlier in text; else those in the
  -- annotation
  abbrev pub AnnotationFinds : NameMeaning → (first : Test) → Name → Ann → Finding → Type 0
  AnnotationFinds (meaning.Local x) false n a f = f ≡ finding n.place E24
  AnnotationFinds r first n a f = AnnFinds m ctx.bases a f

  -- the findings in statements, suites and branches, after the names bound so far
  abbrev mutual
    pub StmtFinds : NamesBound → (s : Stmt) → StmtLabels s → Finding → Type 0
    StmtFinds seen (pass p) labels f = ⊥
    StmtFinds seen (breaks p) labels f = ⊥
    StmtFinds seen (continues p) labels f = ⊥
    StmtFinds seen (returns p e) labels f = IsFlowAt (option_place p e) labels.flows f ⊎ OptionFinds e labels.value f
    StmtFinds seen (asserts p c e) labels f = Finds c labels.condition f ⊎ OptionFinds e labels.message f
    StmtFinds seen (annotated p n a e) labels f =
        AnnotationFinds (ctx.resolve n.text) (is_first seen n) n a f
        ⊎ (IsFlowAt (option_place p e) labels.flows f ⊎ OptionFinds e labels.value f)
    StmtFinds seen (assigns p t e) labels f = IsFlowAt (place_of e) labels.flows f
        ⊎ (Finds e labels.value f ⊎ TargetFinds t labels.target f)
    StmtFinds seen (evaluates p e) labels f = Finds e labels f
    StmtFinds seen (while_loop p c b) labels f = Finds c labels.condition f ⊎ SuiteFinds seen b labels.body f
    StmtFinds seen (for_loop p n e b) labels f =
        IsFoundAt (place_of e) labels.item.codes f
        ⊎ (IsFlowAt (place_of e) labels.flows f
        ⊎ (Finds e labels.iterable f ⊎ SuiteFinds (n.text ∷ seen) b labels.body f))
    StmtFinds seen (conditional p bs o) labels f = BranchesFind seen bs labels.branches f
        ⊎ SuiteFinds (texts (bound_by_branches bs) ++ seen) o labels.otherwise f

    pub SuiteFinds : NamesBound → (b : Stmts) → SuiteLabels b → Finding → Type 0
    SuiteFinds seen no_stmts labels f = ⊥
    SuiteFinds seen (more_stmts s rest) labels f =
        StmtFinds seen s labels.first f
        ⊎ BehindRule (completes s) labels.behind (λ r. SuiteFinds (texts (bound_by_stmt s) ++ seen) rest r.rest f) ⊥

    pub BranchesFind : NamesBound → (bs : Branches) → BranchesLabels bs → Finding → Type 0
    BranchesFind seen no_branches labels f = ⊥
    BranchesFind seen (more_branches c b rest) labels f =
        Finds c labels.condition f
        ⊎ (SuiteFinds seen b labels.body f ⊎ BranchesFind (texts (bound_by b) ++ seen) rest labels.rest f)
