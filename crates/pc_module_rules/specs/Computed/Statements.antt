-- The state of a walk over statements, computed by recursion on the tree: the computed twin of the lawful labels of
-- statements and of the findings under them. Declared types become known in text order: a local has none until a name
-- that means it is bound, and the first binding gives it one. So a name is first bound where its local has no declared
-- type yet. Own rule of the profile.
use Rattle.std.specs.Prelude.{ℕ, List, [], ◌∷◌, ◌++◌, map, length, Bool as Test, true, false, if◌then◌else◌, Option}
use Rattle.std.specs.Prelude.{Some, None, is_some, unwrap_or, slice_set, slice_index_or}
use Rattle.pc_source.specs.declared.place.Place.{Place}
use Rattle.pc_tree.specs.declared.code.Code.TheVariants.{E21, E24}
use Rattle.pc_tree.specs.Code.{finding}
use Rattle.pc_tree.specs.Tree.{Name, Expr, name, call, Ann, Target, to_name, to_attribute, to_index, Stmt, Stmts}
use Rattle.pc_tree.specs.Tree.{Branches, pass, breaks, continues, returns, asserts, annotated, assigns, evaluates}
use Rattle.pc_tree.specs.Tree.{while_loop, for_loop, conditional, no_stmts, more_stmts, no_branches, more_branches}
use Rattle.pc_tree.specs.Tree.{FuncDef, Module}
use Rattle.pc_tree.specs.Stopping.{bound_by, bound_by_stmt}
use Rattle.pc_tree.specs.Depth.{place_of}
use Rattle.pc_scope.specs.declared.resolution.Owner.{Owner}
use Rattle.pc_scope.specs.declared.resolution.NameMeaning.{NameMeaning}
use Rattle.pc_scope.specs.declared.resolution.NameMeaning.TheVariants as meaning
use Rattle.pc_scope.specs.Resolution.{locals}
use Rattle.pc_types.specs.Tree.{Tree, Any, NoneType}
use Rattle.pc_types.specs.Below.{Bases}
use Rattle.pc_types.specs.Shape.{members}
use Rattle.pc_annotations.specs.Annotations.{read_ann}
use Rattle.pc_types.specs.Computed.{static_test}
use Rattle.pc_annotations.specs.Listed.{ann_findings}
use Rattle.pc_class.specs.Bases.{bases_of}
use Rattle.pc_class.specs.Facts.{TypedParameter, return_type}
use Rattle.pc_flow.specs.Environment.{Env, assign, assigned_type, current, join_env, loop_head, none_assigned}
use Rattle.pc_flow.specs.Narrowing.{narrow}
use Rattle.pc_notes.specs.Notes.{Note, plain_note, named}
use Rattle.pc_rules.specs.Operations.{Label, clean, offers_label, iterate_member, StoreOffer, store_attribute_member}
use Rattle.pc_rules.specs.Operations.{store_index_member, store_codes, store_index_types, stored_types, only_type}
use Rattle.pc_rules.specs.Context.{Context}
use Rattle.pc_rules.specs.Calls.{arguments_given, is_range, range_item}
use Rattle.pc_rules.specs.Computed.Expressions.{flows_of}
use Rattle.pc_rules.specs.Computed.Findings.{codes_at, flows_at}
use Rattle.pc_rules.specs.Computed.Standing.{Standing, label_in, finds_in}
use Rattle.pc_rules.specs.Signatures.{body_context}
use Rattle.pc_rules.specs.Computed.Ranges.{range_finds}
use Rattle.pc_module_rules.specs.Statements.{only_code, binds_number}
use Rattle.pc_module_rules.specs.Modules.{entry_parameters}

-- ---- declared types so far

-- the declared type of each local so far, none for a local not yet bound
abbrev pub DeclaredTypes : Type 0
DeclaredTypes = List (Option Tree)

-- the declared types, Any for locals not yet bound
abbrev pub type_table : DeclaredTypes → List Tree
type_table table = map (λ o. unwrap_or o Any) table

-- the declared type of a local, if it is bound
abbrev pub bound_type : DeclaredTypes → ℕ → Option Tree
bound_type table x = slice_index_or table x None

-- a table with a declared type for a local, unless it has one already
abbrev pub with_declared : {A : Type 0} → (bound : Option A) → List (Option A) → ℕ → A → List (Option A)
with_declared (Some d) table x t = table
with_declared None table x t = slice_set table x (Some t)

-- the declared type of a local before a value is bound to it: the one that it has, else its annotation
abbrev pub known_declared : (bound : Option Tree) → (annotation : Option Tree) → Option Tree
known_declared (Some d) annotation = Some d
known_declared None annotation = annotation

-- ---- the state of a walk

-- the body context of a function: the module, the context of its expressions, its return type, and whether the types of
-- labels are noted
pub record BodyContext : Type 0 where
  pub whole : Module
  pub context : Context
  pub returned : Tree
  pub keeps : Test

-- the state of a walk over statements: declared types; the environment, none in unreachable code; inside a loop its
-- exit environment joined with each `break` so far; and the notes
pub record Walk : Type 0 where
  pub table : DeclaredTypes
  pub env : Option Env
  pub exit_env : Option Env
  pub found : List Note

-- the result of a binding: declared types, the environment after it, and the notes
pub record BindingResult : Type 0 where
  pub table : DeclaredTypes
  pub env : Env
  pub found : List Note

-- ---- notes of names

-- the note of a local with these types at its name's place, if it has a declared type
abbrev pub local_note : (declared now : Option Tree) → Place → List Note
local_note None now p = []
local_note (Some d) now p = named p d now ∷ []

-- the note of a bound name at its place, if it means a local: its declared type, and, if it has a value, its current
-- type
abbrev pub name_note : (valued : Test) → DeclaredTypes → Env → NameMeaning → Place → List Note
name_note valued table env (meaning.Local x) p = local_note (bound_type table x) (if valued then current env x else None) p
name_note valued table env r p = []

-- notes with that of a bound name after them, if types are kept
abbrev pub notes_after : (keeps valued : Test) → DeclaredTypes → Env → NameMeaning → Place → List Note → List Note
notes_after false valued table env r p found = found
notes_after true valued table env r p found = found ++ name_note valued table env r p

-- a binding with the note of its name after it, if types are kept: of a local, its types after the binding
abbrev pub noted_binding : (keeps valued : Test) → NameMeaning → Place → BindingResult → BindingResult
noted_binding false valued r p b = b
noted_binding true valued r p b = record {
  table = b.table;
  env = b.env;
  found = b.found ++ name_note valued b.table b.env r p;
}

-- the state of a walk over branches: declared types, the environment where all conditions so far are false, the join of
-- the environments at the ends of the suites, breaks, and the notes
pub record BranchesResult : Type 0 where
  pub table : DeclaredTypes
  pub last : Env
  pub ways : Option Env
  pub exit_env : Option Env
  pub found : List Note

-- an environment joined onto the exit environment of a loop, if there is a loop
abbrev pub join_onto_way : Bases → DeclaredTypes → (way : Option Env) → Env → Option Env
join_onto_way bases table None env = None
join_onto_way bases table (Some way) env = Some (join_env bases (type_table table) way env)

-- the join of the environments at the ends of suites with one more, if that suite can complete
abbrev pub with_way : Bases → DeclaredTypes → (ways : Option Env) → (out : Option Env) → Option Env
with_way bases table ways None = ways
with_way bases table None (Some env) = Some env
with_way bases table (Some way) (Some env) = Some (join_env bases (type_table table) way env)

module _ (context : BodyContext) where
  -- the standing of an expression here
  abbrev pub standing_here : DeclaredTypes → Env → Standing
  standing_here table env = record {
    context = context.context;
    declared = type_table table;
    env = env;
    keeps = context.keeps;
  }

  -- an environment where a condition is true, or where it is false
  abbrev pub narrowed_at : DeclaredTypes → (holds : Test) → Expr → Env → Env
  narrowed_at table holds c env = narrow context.context.bases (type_table table) context.context.resolve holds c env

  -- ---- names in unreachable code

  -- a table with Any for a local first bound in unreachable code
  abbrev pub unreached_name : DeclaredTypes → NameMeaning → DeclaredTypes
  unreached_name table (meaning.Local x) = with_declared (bound_type table x) table x Any
  unreached_name table r = table

  -- a table with Any for each of the locals first bound in unreachable code
  abbrev pub unreached_names : DeclaredTypes → List Name → DeclaredTypes
  unreached_names table [] = table
  unreached_names table (n ∷ ns) = unreached_names (unreached_name table (context.context.resolve n.text)) ns

  -- ---- binding a name

  -- the result of binding a local to a label at this place: its declared type, the flow into it, and its current type
  abbrev pub bind_label : (table : DeclaredTypes) → Env → ℕ → (want : Option Tree) → Place → Label → List Note → BindingResult
  bind_label table env x want p label found =
      let d = unwrap_or want label.type in
      let flows = flows_of context.context.bases label (d ∷ []) in
      record {
        table = with_declared (bound_type table x) table x d;
        env = assign env x (assigned_type d label.type (only_code flows));
        found = found ++ flows_at p flows;
      }

  -- the result of binding a value to a name, with its annotation unless ignored; only a local is bound
  abbrev pub bind_value : DeclaredTypes → Env → NameMeaning → (annotation : Option Tree) → Expr → List Note → BindingResult
  bind_value table env (meaning.Local x) annotation e found =
      let want = known_declared (bound_type table x) annotation in
      bind_label table env x want (place_of e) (label_in (standing_here table env) want e)
      (found ++ finds_in (standing_here table env) want e)
  bind_value table env r annotation e found = record {
    table = table;
    env = env;
    found = found ++ finds_in (standing_here table env) None e;
  }

  -- a binding with the note of its name after it, if types are kept: of a local, its types after the binding
  abbrev pub with_note : (valued : Test) → NameMeaning → Place → BindingResult → BindingResult
  with_note valued r p b = noted_binding context.keeps valued r p b

  -- the table after a name annotated without a value
  abbrev pub declared_alone : DeclaredTypes → NameMeaning → Tree → DeclaredTypes
  declared_alone table (meaning.Local x) t = with_declared (bound_type table x) table x t
  declared_alone table r t = table

  -- the notes at an annotation: E24 if the local is bound already, else those in the annotation
  abbrev pub annotation_finds : (bound : Option Tree) → Name → Ann → List Note
  annotation_finds (Some d) n a = plain_note (finding n.place E24) ∷ []
  annotation_finds None n a = map plain_note (ann_findings context.whole context.context.bases a)

  -- the declared type of the local that a name means, if it is a bound one
  abbrev pub bound_name : DeclaredTypes → NameMeaning → Option Tree
  bound_name table (meaning.Local x) = bound_type table x
  bound_name table r = None

  -- the result of an annotated name with this meaning, with or without a value
  abbrev pub annotated_binding : DeclaredTypes → Env → NameMeaning → Name → Ann → Option Expr → List Note → BindingResult
  annotated_binding table env r n a None found = record {
    table = declared_alone table r (read_ann context.whole context.context.bases a);
    env = env;
    found = found ++ annotation_finds (bound_name table r) n a;
  }
  annotated_binding table env r n a (Some e) found =
      bind_value table env r (Some (read_ann context.whole context.context.bases a)) e
      (found ++ annotation_finds (bound_name table r) n a)

  -- the result of an annotated name, and if types are kept, the note of the name
  abbrev pub bind_annotated : DeclaredTypes → Env → Name → Ann → Option Expr → List Note → BindingResult
  bind_annotated table env n a e found = with_note (is_some e) (context.context.resolve n.text) n.place
      (annotated_binding table env (context.context.resolve n.text) n a e found)

  -- ---- stores

  -- the results of a store to an attribute on each member of the object's type
  abbrev pub attribute_stores : List ℕ → Tree → List StoreOffer
  attribute_stores field t = map (store_attribute_member context.context.classes field) (members t)

  -- the results of a store to an item on each member of the object's type
  abbrev pub index_stores : Tree → List StoreOffer
  index_stores t = map store_index_member (members t)

  -- the notes of a store and of its value, which flows into the types that the members take
  abbrev pub stored_finds : Standing → List StoreOffer → Place → Expr → List Note
  stored_finds k offers p e =
      let want = only_type offers (stored_types offers) in
      codes_at p (store_codes offers)
      ++ (finds_in k want e ++ flows_at (place_of e)
      (flows_of context.context.bases (label_in k want e) (stored_types offers)))

  -- the notes of a store to a target other than a name: in the object, in the index and of its flow, and then of the
  -- value
  abbrev pub store_finds : Standing → Target → Expr → List Note
  store_finds k (to_name n) e = []
  store_finds k (to_attribute p o field) e = finds_in k None o
      ++ stored_finds k (attribute_stores field.text (label_in k None o).type) p e
  store_finds k (to_index p o i) e =
      let offers = index_stores (label_in k None o).type in
      finds_in k None o ++ (finds_in k None i
      ++ (flows_at (place_of i) (flows_of context.context.bases (label_in k None i) (store_index_types offers))
      ++ stored_finds k offers p e))

  -- the result of an assignment: a name is bound, any other target is stored to
  abbrev pub assign_target : DeclaredTypes → Env → Target → Expr → List Note → BindingResult
  assign_target table env (to_name n) e found = with_note true (context.context.resolve n.text) n.place
      (bind_value table env (context.context.resolve n.text) None e found)
  assign_target table env t e found = record {
    table = table;
    env = env;
    found = found ++ store_finds (standing_here table env) t e;
  }

  -- ---- the iterable of a `for`

  -- the label of an item of any iterable except a call of `range`
  abbrev pub values_item : Standing → Expr → Label
  values_item k e = offers_label context.context.bases
      (map (iterate_member context.context.bases) (members (label_in k None e).type))

  -- the label of an item of an iterable
  abbrev pub item_label_of : Standing → Expr → Label
  item_label_of k (call p (name n) arguments keywords) =
      if is_range (context.context.resolve n.text) then range_item (arguments_given arguments keywords)
      else values_item k (call p (name n) arguments keywords)
  item_label_of k e = values_item k e

  -- the notes of an iterable
  abbrev pub iterable_finds : Standing → Expr → List Note
  iterable_finds k (call p (name n) arguments keywords) =
      if is_range (context.context.resolve n.text) then range_finds k p (name n) arguments keywords
      else finds_in k None (call p (name n) arguments keywords)
  iterable_finds k e = finds_in k None e

  -- the result of binding the target of a `for` to an item of this type, in the environment at the head
  abbrev pub bind_item : DeclaredTypes → (head : Env) → NameMeaning → Place → Tree → List Note → BindingResult
  bind_item table head (meaning.Local x) p t found = bind_label table head x (bound_type table x) p (clean t) found
  bind_item table head r p t found = record { table = table; env = head; found = found }

  -- the environment at the head of a loop that binds these names
  abbrev pub head_at : DeclaredTypes → List Name → Env → Env
  head_at table names env = loop_head (binds_number context.context.resolve names) (type_table table) env

  -- ---- statements

  -- the notes of an expression that may be missing
  abbrev pub option_finds : Standing → (want : Option Tree) → Option Expr → List Note
  option_finds k want None = []
  option_finds k want (Some e) = finds_in k want e

  -- the notes of a `return`: in its value, and of the flow into the return type; without a value None flows
  abbrev pub return_finds : Standing → Place → Option Expr → List Note
  return_finds k p None = flows_at p (flows_of context.context.bases (clean NoneType) (context.returned ∷ []))
  return_finds k p (Some e) = finds_in k (Some context.returned) e
      ++ flows_at (place_of e) (flows_of context.context.bases (label_in k (Some context.returned) e)
      (context.returned ∷ []))

  -- the state after a bound name
  abbrev pub behind_binding : (exit_env : Option Env) → BindingResult → Walk
  behind_binding exit_env b = record { table = b.table; env = Some b.env; exit_env = exit_env; found = b.found }

  -- the state at the start of the body of a `for`, whose exit environment is the head
  abbrev pub inside_for : (head : Env) → BindingResult → Walk
  inside_for head b = record { table = b.table; env = Some b.env; exit_env = Some head; found = b.found }

  -- the state after a loop: its exit environment joined with each `break`; the breaks of an enclosing loop are as
  -- before
  abbrev pub behind_loop : (exit_env : Option Env) → Walk → Walk
  behind_loop exit_env body = record {
    table = body.table;
    env = body.exit_env;
    exit_env = exit_env;
    found = body.found;
  }

  -- the state after an `if`: the join of the environments at the ends of its branches and of `else`
  abbrev pub behind_branches : (ways : Option Env) → Walk → Walk
  behind_branches ways last = record {
    table = last.table;
    env = with_way context.context.bases last.table ways last.env;
    exit_env = last.exit_env;
    found = last.found;
  }

  -- the state after a statement, after a suite, and after branches
  abbrev mutual
    pub step : DeclaredTypes → (env : Option Env) → (exit_env : Option Env) → List Note → Stmt → Walk
    -- unreachable: nothing is found, and locals first bound here have Any
    step table None exit_env found s = record {
      table = unreached_names table (bound_by_stmt s);
      env = None;
      exit_env = exit_env;
      found = found;
    }
    step table (Some env) exit_env found (pass p) = record {
      table = table;
      env = Some env;
      exit_env = exit_env;
      found = found;
    }
    step table (Some env) exit_env found (breaks p) = record {
      table = table;
      env = None;
      exit_env = join_onto_way context.context.bases table exit_env env;
      found = found;
    }
    step table (Some env) exit_env found (continues p) = record {
      table = table;
      env = None;
      exit_env = exit_env;
      found = found;
    }
    step table (Some env) exit_env found (returns p e) = record {
      table = table;
      env = None;
      exit_env = exit_env;
      found = found ++ return_finds (standing_here table env) p e;
    }
    step table (Some env) exit_env found (asserts p c e) = record {
      table = table;
      env = Some (narrowed_at table true c env);
      exit_env = exit_env;
      found = (found ++ finds_in (standing_here table env) None c)
          ++ option_finds (standing_here table (narrowed_at table false c env)) None e;
    }
    step table (Some env) exit_env found (annotated p n a e) =
        behind_binding exit_env (bind_annotated table env n a e found)
    step table (Some env) exit_env found (assigns p t e) = behind_binding exit_env (assign_target table env t e found)
    step table (Some env) exit_env found (evaluates p e) = record {
      table = table;
      env = Some env;
      exit_env = exit_env;
      found = found ++ finds_in (standing_here table env) None e;
    }
    step table (Some env) exit_env found (while_loop p c b) =
        let head = head_at table (bound_by b) env in
        behind_loop exit_env (walk_suite (record {
          table = table;
          env = Some (narrowed_at table true c head);
          exit_env = Some (narrowed_at table false c head);
          found = found ++ finds_in (standing_here table head) None c;
        }) b)
    step table (Some env) exit_env found (for_loop p n e b) =
        let head = head_at table (n ∷ bound_by b) env in
        let item = item_label_of (standing_here table env) e in
        behind_loop exit_env (walk_suite
        (inside_for head (with_note true (context.context.resolve n.text) n.place
        (bind_item table head (context.context.resolve n.text) (place_of e) item.type
        ((found ++ iterable_finds (standing_here table env) e) ++ codes_at (place_of e) item.codes)))) b)
    step table (Some env) exit_env found (conditional p bs o) =
        let if_state = walk_branches
        (record { table = table; last = env; ways = None; exit_env = exit_env; found = found }) bs in
        behind_branches if_state.ways
        (walk_suite (record { table = if_state.table; env = Some if_state.last; exit_env = if_state.exit_env; found = if_state.found })
        o)

    pub walk_suite : Walk → Stmts → Walk
    walk_suite w no_stmts = w
    walk_suite w (more_stmts s rest) = walk_suite (step w.table w.env w.exit_env w.found s) rest

    pub walk_branches : BranchesResult → Branches → BranchesResult
    walk_branches w no_branches = w
    walk_branches w (more_branches c b rest) =
        let body = walk_suite (record {
          table = w.table;
          env = Some (narrowed_at w.table true c w.last);
          exit_env = w.exit_env;
          found = w.found ++ finds_in (standing_here w.table w.last) None c;
        }) b in
        walk_branches (record {
          table = body.table;
          last = narrowed_at w.table false c w.last;
          ways = with_way context.context.bases body.table w.ways body.env;
          exit_env = body.exit_env;
          found = body.found;
        }) rest

-- ---- functions

-- the table and environment at the entry of a function, with each parameter declared and assigned; a name that is
-- already bound, or reserved, binds nothing
abbrev pub enter_local : (bound : Option Tree) → DeclaredTypes → Env → ℕ → Tree → DeclaredTypes × Env
enter_local (Some d) table env x t = (table, env)
enter_local None table env x t = (slice_set table x (Some t), assign env x t)

abbrev pub enter_name : DeclaredTypes → Env → NameMeaning → Tree → DeclaredTypes × Env
enter_name table env (meaning.Local x) t = enter_local (bound_type table x) table env x t
enter_name table env r t = (table, env)

abbrev pub enter_parameters : (List ℕ → NameMeaning) → DeclaredTypes → Env → List TypedParameter → DeclaredTypes × Env
enter_parameters resolve table env [] = (table, env)
enter_parameters resolve table env (p ∷ ps) = let r = enter_name table env (resolve p.name) p.type in
    enter_parameters resolve r.0 r.1 ps

-- the notes at the end of a body: E21 at this place if the end can be reached, and None is not a static subtype of the
-- return type
abbrev pub end_finds : Bases → (return_type : Tree) → Place → (out : Option Env) → List Note
end_finds bases return_type p None = []
end_finds bases return_type p (Some env) = if static_test bases NoneType return_type then []
    else plain_note (finding p E21) ∷ []

-- the body context of a function of the module
abbrev pub body_context_of : (keeps : Test) → Module → (constants : List Tree) → Owner → FuncDef → BodyContext
body_context_of keeps m constants owner f = record {
  whole = m;
  context = body_context m constants (locals owner f);
  returned = return_type m f;
  keeps = keeps;
}

-- the walk over the body of a function, from its entry
abbrev pub walk_body : (keeps : Test) → Module → (constants : List Tree) → Owner → FuncDef → List Note → Walk
walk_body keeps m constants owner f found =
    let context = body_context_of keeps m constants owner f in
    let start = enter_parameters context.context.resolve (none_assigned (length (locals owner f)))
    (none_assigned (length (locals owner f))) (entry_parameters m owner f) in
    walk_suite context (record { table = start.0; env = Some start.1; exit_env = None; found = found }) f.body

-- notes, followed by those in the body of a function, and E21 at its name
abbrev pub function_finds : (keeps : Test) → Module → (constants : List Tree) → Owner → FuncDef → List Note → List Note
function_finds keeps m constants owner f found =
    let body = walk_body keeps m constants owner f found in
    body.found ++ end_finds (bases_of m) (return_type m f) f.name.place body.env
