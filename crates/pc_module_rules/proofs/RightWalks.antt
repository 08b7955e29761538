-- The notes of a walk over statements are right, if those before it are; and its types stay well-formed.
use Rattle.std.proofs.Common.{ℕ, Bool as Test, true, false, List, [], ◌∷◌, ◌++◌, Option, Some, None, refl, length}
use Rattle.std.specs.Prelude.{unwrap_or, is_some}
use Rattle.pc_source.specs.declared.place.Place.{Place}
use Rattle.pc_tree.specs.declared.code.Code.TheVariants.{E21}
use Rattle.pc_tree.specs.Code.{finding}
use Rattle.pc_tree.specs.Depth.{place_of}
use Rattle.pc_tree.specs.Stopping.{bound_by, bound_by_stmt}
use Rattle.pc_tree.specs.Tree.{Name, Expr, Exprs, Keywords, name, call, Ann, Target, to_name, to_attribute, to_index}
use Rattle.pc_tree.specs.Tree.{Stmt, Stmts, Branches, pass, breaks, continues, returns, asserts, annotated, assigns}
use Rattle.pc_tree.specs.Tree.{evaluates, while_loop, for_loop, conditional, no_stmts, more_stmts, no_branches}
use Rattle.pc_tree.specs.Tree.{more_branches, FuncDef, Module}
use Rattle.pc_scope.specs.declared.resolution.Owner.{Owner}
use Rattle.pc_scope.specs.declared.resolution.NameMeaning.{NameMeaning}
use Rattle.pc_scope.specs.declared.resolution.NameMeaning.TheVariants as meaning
use Rattle.pc_scope.specs.Resolution.{locals}
use Rattle.pc_types.specs.Tree.{Tree, Any, Int, NoneType}
use Rattle.pc_types.specs.Below.{Bases}
use Rattle.pc_types.specs.Shape.{members}
use Rattle.pc_types.specs.WellFormed.{IsWellFormed}
use Rattle.pc_annotations.specs.Annotations.{read_ann}
use Rattle.pc_types.specs.Computed.{static_test}
use Rattle.pc_annotations.proofs.Readings.{read_ann_well_formed}
use Rattle.pc_class.specs.Bases.{bases_of}
use Rattle.pc_class.specs.Facts.{TypedParameter, return_type}
use Rattle.pc_class.specs.WellFormed.{ParametersWellFormed}
use Rattle.pc_class.proofs.WellFormed.{returned_well_formed}
use Rattle.pc_flow.specs.Environment.{Env, join_env, none_assigned}
use Rattle.pc_flow.specs.WellFormed.{AreWellFormed, IsWellFormedEnv, IsWellFormedIfAny}
use Rattle.pc_flow.proofs.Conditions.{assign_well_formed, current_well_formed, assignments_well_formed}
use Rattle.pc_flow.proofs.Conditions.{conditions_well_formed, heads_well_formed, joins_well_formed}
use Rattle.pc_notes.specs.Notes.{Note, plain_note}
use Rattle.pc_rules.specs.Operations.{Label, clean, iterate_member, StoreOffer, store_codes, store_index_types}
use Rattle.pc_rules.specs.Operations.{stored_types, only_type}
use Rattle.pc_rules.specs.Calls.{arguments_given, is_suited, is_range, range_item, range_signature}
use Rattle.pc_rules.specs.Computed.Expressions.{flows_of}
use Rattle.pc_rules.specs.Computed.Findings.{codes_at, flows_at}
use Rattle.pc_rules.specs.Computed.Standing.{Standing, label_in, finds_in}
use Rattle.pc_rules.specs.Laws.WellFormed.{ContextWellFormed}
use Rattle.pc_rules.specs.Computed.Ranges.{range_finds}
use Rattle.pc_rules.proofs.Contexts.{bodies_well_formed}
use Rattle.pc_rules.proofs.WellFormed.{any_well_formed, int_well_formed, none_well_formed, unwrap_well_formed}
use Rattle.pc_module_rules.proofs.PlainCodes.{in_both, ArePlain, LabelPlain, mapped_plain, iterate_plain}
use Rattle.pc_module_rules.proofs.PlainCodes.{range_item_plain, attribute_stores_plain, index_stores_plain}
use Rattle.pc_module_rules.proofs.RightNotes.{AreRight, right_append, right_codes, right_flows, StandsWell}
use Rattle.pc_module_rules.proofs.RightNotes.{label_well_formed, right_in, right_range}
use Rattle.pc_module_rules.proofs.RightSignatures.{right_annotation}
use Rattle.pc_module_rules.specs.Modules.{entry_parameters}
use Rattle.pc_module_rules.specs.Statements.{only_code, binds_number}
use Rattle.pc_module_rules.specs.Computed.Statements.{DeclaredTypes, type_table, bound_type, with_declared, known_declared}
use Rattle.pc_module_rules.specs.Computed.Statements.{BodyContext, Walk, BindingResult, BranchesResult, join_onto_way}
use Rattle.pc_module_rules.specs.Computed.Statements.{with_way, standing_here, narrowed_at, unreached_name, unreached_names}
use Rattle.pc_module_rules.specs.Computed.Statements.{bind_label, bind_value, declared_alone, annotation_finds}
use Rattle.pc_module_rules.specs.Computed.Statements.{bound_name, bind_annotated, attribute_stores, index_stores}
use Rattle.pc_module_rules.specs.Computed.Statements.{stored_finds, store_finds, assign_target, values_item}
use Rattle.pc_module_rules.specs.Computed.Statements.{item_label_of, iterable_finds, bind_item, head_at, option_finds}
use Rattle.pc_module_rules.specs.Computed.Statements.{return_finds, inside_for, step, walk_suite, walk_branches}
use Rattle.pc_module_rules.specs.Computed.Statements.{enter_local, enter_name, enter_parameters, end_finds}
use Rattle.pc_module_rules.specs.Computed.Statements.{body_context_of, function_finds, name_note, noted_binding}
use Rattle.pc_module_rules.specs.Computed.Statements.{with_note, annotated_binding}
use Rattle.pc_module_rules.proofs.NotedNames.{note_holds}
use Rattle.pc_module_rules.proofs.LabelledFunctions.{entries_well_formed, none_well_formed as unassigned_well_formed}
use Rattle.pc_module_rules.proofs.StoredTypes.{fields_stored, items_stored, keys_stored, only_well_formed}
use Rattle.pc_module_rules.proofs.StoredTypes.{turns_well_formed}
use Rattle.pc_module_rules.proofs.WalkedTables.{types_well_formed}

-- ---- invariants of a walk

-- the types of an environment are well-formed, if there is one
abbrev OutWellFormed : Bases → Option Env → Type 0
OutWellFormed bases None = Unit {0}
OutWellFormed bases (Some env) = IsWellFormedEnv bases env

-- the state of a walk: its types are well-formed, and its notes right
record WalkRight (bases : Bases) (w : Walk) : Type 0 where
  table : IsWellFormedEnv bases w.table
  env : OutWellFormed bases w.env
  exit_env : OutWellFormed bases w.exit_env
  found : AreRight bases w.found

-- likewise of a name bound
record BoundRight (bases : Bases) (b : BindingResult) : Type 0 where
  table : IsWellFormedEnv bases b.table
  env : IsWellFormedEnv bases b.env
  found : AreRight bases b.found

-- and of a walk over branches
record ForkRight (bases : Bases) (w : BranchesResult) : Type 0 where
  table : IsWellFormedEnv bases w.table
  last : IsWellFormedEnv bases w.last
  ways : OutWellFormed bases w.ways
  exit_env : OutWellFormed bases w.exit_env
  found : AreRight bases w.found

-- a binding is right with the note of its name
noted_right : (bases : Bases) (keeps valued : Test) (r : NameMeaning) (p : Place) (b : BindingResult)
    → BoundRight bases b → BoundRight bases (noted_binding keeps valued r p b)
noted_right bases false valued r p b h = h
noted_right bases true valued r p b h = record {
  table = h.table;
  env = h.env;
  found = right_append bases b.found (name_note valued b.table b.env r p) h.found
      (note_holds (AreRight bases) tt (λ q d t. (record { tested = tt; formed = tt }, tt)) valued b.table b.env r p);
}

by_names_well_formed : (bases : Bases) (bound : Option Tree) (table : DeclaredTypes) (x : ℕ) (t : Tree) → IsWellFormed bases t
    → IsWellFormedEnv bases table → IsWellFormedEnv bases (with_declared bound table x t)
by_names_well_formed bases (Some d) table x t h k = k
by_names_well_formed bases None table x t h k = assign_well_formed bases table x t h k

known_well_formed : (bases : Bases) (bound annotation : Option Tree) → IsWellFormedIfAny bases bound
    → IsWellFormedIfAny bases annotation → IsWellFormedIfAny bases (known_declared bound annotation)
known_well_formed bases (Some d) annotation h k = h
known_well_formed bases None annotation h k = k

module _ (context : BodyContext) (ck : ContextWellFormed context.context)
    (rk : IsWellFormed context.context.bases context.returned) where
  open context use {context as ctx}

  -- the notes are right
  abbrev Right : List Note → Type 0
  Right notes = AreRight ctx.bases notes

  right_then : (xs ys : List Note) → Right xs → Right ys → Right (xs ++ ys)
  right_then xs ys h k = right_append ctx.bases xs ys h k

  -- a table and an environment are of well-formed types
  abbrev Formed : Env → Type 0
  Formed env = IsWellFormedEnv ctx.bases env

  stands : (table : DeclaredTypes) (env : Env) → Formed table → Formed env → StandsWell (standing_here context table env)
  stands table env kt ke = record { context = ck; declared = types_well_formed ctx.bases table kt; env = ke }

  narrowed_well_formed : (table : DeclaredTypes) (holds : Test) (c : Expr) (env : Env) → Formed table → Formed env
      → Formed (narrowed_at context table holds c env)
  narrowed_well_formed table holds c env kt ke = conditions_well_formed ctx.bases (type_table table) ctx.resolve holds c
      env ck.smaller (types_well_formed ctx.bases table kt) ke

  head_well_formed : (table : DeclaredTypes) (names : List Name) (env : Env) → Formed table → Formed env
      → Formed (head_at context table names env)
  head_well_formed table names env kt ke = heads_well_formed ctx.bases (binds_number ctx.resolve names)
      (type_table table) env (types_well_formed ctx.bases table kt) ke

  joined_well_formed : (table : DeclaredTypes) (a b : Env) → Formed table → Formed a → Formed b
      → Formed (join_env ctx.bases (type_table table) a b)
  joined_well_formed table a b kt ka kb = joins_well_formed ctx.bases (type_table table) a b ck.smaller
      (types_well_formed ctx.bases table kt) ka kb

  way_onto : (table : DeclaredTypes) (way : Option Env) (env : Env) → Formed table → OutWellFormed ctx.bases way → Formed env
      → OutWellFormed ctx.bases (join_onto_way ctx.bases table way env)
  way_onto table None env kt kw ke = tt
  way_onto table (Some way) env kt kw ke = joined_well_formed table way env kt kw ke

  one_way : (table : DeclaredTypes) (ways out : Option Env) → Formed table → OutWellFormed ctx.bases ways
      → OutWellFormed ctx.bases out → OutWellFormed ctx.bases (with_way ctx.bases table ways out)
  one_way table ways None kt kw ko = kw
  one_way table None (Some env) kt kw ko = ko
  one_way table (Some way) (Some env) kt kw ko = joined_well_formed table way env kt kw ko

  -- ---- names that no run binds

  unreached_one : (table : DeclaredTypes) (r : NameMeaning) → Formed table → Formed (unreached_name context table r)
  unreached_one table (meaning.Local x) kt = by_names_well_formed ctx.bases (bound_type table x) table x Any
      (any_well_formed ctx.bases) kt
  unreached_one table (meaning.Const i) kt = kt
  unreached_one table (meaning.Func i) kt = kt
  unreached_one table (meaning.Class i) kt = kt
  unreached_one table (meaning.Builtin b) kt = kt
  unreached_one table meaning.None kt = kt

  unreached_all : (table : DeclaredTypes) (ns : List Name) → Formed table → Formed (unreached_names context table ns)
  unreached_all table [] kt = kt
  unreached_all table (n ∷ ns) kt = unreached_all (unreached_name context table (ctx.resolve n.text)) ns
      (unreached_one table (ctx.resolve n.text) kt)

  -- ---- binding a name

  bound_well_formed : (table : DeclaredTypes) (x : ℕ) → Formed table → IsWellFormedIfAny ctx.bases (bound_type table x)
  bound_well_formed table x kt = current_well_formed ctx.bases table x kt

  label_right : (table : DeclaredTypes) (env : Env) (x : ℕ) (want : Option Tree) (p : Place) (label : Label) (found : List Note)
      → Formed table → Formed env → IsWellFormedIfAny ctx.bases want → IsWellFormed ctx.bases label.type → Right found
      → BoundRight ctx.bases (bind_label context table env x want p label found)
  label_right table env x want p label found kt ke kw km kf =
      let d = unwrap_or want label.type in
      let flows = flows_of ctx.bases label (d ∷ []) in
      let kd = unwrap_well_formed ctx.bases want label.type kw km in
      record {
        table = by_names_well_formed ctx.bases (bound_type table x) table x d kd kt;
        env = assignments_well_formed ctx.bases env x d label.type (only_code flows) kd km ke;
        found = right_then found (flows_at p flows) kf (right_flows ctx.bases ck.smaller p label (d ∷ []) km (kd, tt));
      }

  -- a value whose name binds no local
  value_alone : (table : DeclaredTypes) (env : Env) (e : Expr) (found : List Note) → Formed table → Formed env → Right found
      → BoundRight ctx.bases (record {
        table = table;
        env = env;
        found = found ++ finds_in (standing_here context table env) None e;
      })
  value_alone table env e found kt ke kf = record {
    table = kt;
    env = ke;
    found =
        right_then found (finds_in (standing_here context table env) None e) kf
        (right_in (standing_here context table env) (stands table env kt ke) None tt e);
  }

  value_right : (table : DeclaredTypes) (env : Env) (r : NameMeaning) (annotation : Option Tree) (e : Expr) (found : List Note)
      → Formed table → Formed env → IsWellFormedIfAny ctx.bases annotation → Right found
      → BoundRight ctx.bases (bind_value context table env r annotation e found)
  value_right table env (meaning.Local x) annotation e found kt ke ka kf =
      let want = known_declared (bound_type table x) annotation in
      let kw = known_well_formed ctx.bases (bound_type table x) annotation (bound_well_formed table x kt) ka in
      let here = standing_here context table env in
      let ks = stands table env kt ke in
      label_right table env x want (place_of e) (label_in here want e) (found ++ finds_in here want e) kt ke kw
      (label_well_formed here ks want kw e) (right_then found (finds_in here want e) kf
      (right_in here ks want kw e))
  value_right table env (meaning.Const i) annotation e found kt ke ka kf = value_alone table env e found kt ke kf
  value_right table env (meaning.Func i) annotation e found kt ke ka kf = value_alone table env e found kt ke kf
  value_right table env (meaning.Class i) annotation e found kt ke ka kf = value_alone table env e found kt ke kf
  value_right table env (meaning.Builtin b) annotation e found kt ke ka kf = value_alone table env e found kt ke kf
  value_right table env meaning.None annotation e found kt ke ka kf = value_alone table env e found kt ke kf

  alone_well_formed : (table : DeclaredTypes) (r : NameMeaning) (t : Tree) → Formed table → IsWellFormed ctx.bases t
      → Formed (declared_alone context table r t)
  alone_well_formed table (meaning.Local x) t kt h = by_names_well_formed ctx.bases (bound_type table x) table x t h kt
  alone_well_formed table (meaning.Const i) t kt h = kt
  alone_well_formed table (meaning.Func i) t kt h = kt
  alone_well_formed table (meaning.Class i) t kt h = kt
  alone_well_formed table (meaning.Builtin b) t kt h = kt
  alone_well_formed table meaning.None t kt h = kt

  annotation_right : (bound : Option Tree) (n : Name) (a : Ann) → Right (annotation_finds context bound n a)
  annotation_right (Some d) n a = (record { tested = refl; formed = tt }, tt)
  annotation_right None n a = right_annotation context.whole ctx.bases a

  read_right : (table : DeclaredTypes) (env : Env) (r : NameMeaning) (n : Name) (a : Ann) (e : Option Expr) (found : List Note)
      → Formed table → Formed env → Right found
      → BoundRight ctx.bases (annotated_binding context table env r n a e found)
  read_right table env r n a None found kt ke kf = record {
    table = alone_well_formed table r (read_ann context.whole ctx.bases a) kt
        (read_ann_well_formed context.whole ctx.bases ck.smaller a);
    env = ke;
    found = right_then found (annotation_finds context (bound_name context table r) n a) kf
        (annotation_right (bound_name context table r) n a);
  }
  read_right table env r n a (Some e) found kt ke kf =
      let xs = annotation_finds context (bound_name context table r) n a in
      value_right table env r (Some (read_ann context.whole ctx.bases a)) e (found ++ xs) kt ke
      (read_ann_well_formed context.whole ctx.bases ck.smaller a)
      (right_then found xs kf (annotation_right (bound_name context table r) n a))

  annotated_right : (table : DeclaredTypes) (env : Env) (n : Name) (a : Ann) (e : Option Expr) (found : List Note)
      → Formed table → Formed env → Right found → BoundRight ctx.bases (bind_annotated context table env n a e found)
  annotated_right table env n a e found kt ke kf =
      let r = ctx.resolve n.text in
      noted_right ctx.bases context.keeps (is_some e) r n.place (annotated_binding context table env r n a e found)
      (read_right table env r n a e found kt ke kf)

  -- ---- stores

  stored_right : (table : DeclaredTypes) (env : Env) → Formed table → Formed env → (offers : List StoreOffer)
      → ArePlain (store_codes offers) → AreWellFormed ctx.bases (stored_types offers) → (p : Place) (e : Expr)
      → Right (stored_finds context (standing_here context table env) offers p e)
  stored_right table env kt ke offers h k p e =
      let here = standing_here context table env in
      let ks = stands table env kt ke in
      let want = only_type offers (stored_types offers) in
      let kw = only_well_formed ctx.bases offers (stored_types offers) k in
      let flows = flows_at (place_of e) (flows_of ctx.bases (label_in here want e) (stored_types offers)) in
      right_then (codes_at p (store_codes offers)) (finds_in here want e ++ flows)
      (right_codes ctx.bases p (store_codes offers) h)
      (right_then (finds_in here want e) flows (right_in here ks want kw e)
      (right_flows ctx.bases ck.smaller (place_of e) (label_in here want e) (stored_types offers)
      (label_well_formed here ks want kw e) k))

  store_right : (table : DeclaredTypes) (env : Env) → Formed table → Formed env → (t : Target) (e : Expr)
      → Right (store_finds context (standing_here context table env) t e)
  store_right table env kt ke (to_name n) e = tt
  store_right table env kt ke (to_attribute p o field) e =
      let here = standing_here context table env in
      let ks = stands table env kt ke in
      let t = (label_in here None o).type in
      let offers = attribute_stores context field.text t in
      right_then (finds_in here None o) (stored_finds context here offers p e) (right_in here ks None tt o)
      (stored_right table env kt ke offers (attribute_stores_plain ctx.classes field.text (members t))
      (fields_stored ctx.bases ctx.classes ck.classes field.text t (label_well_formed here ks None tt o)) p e)
  store_right table env kt ke (to_index p o i) e =
      let here = standing_here context table env in
      let ks = stands table env kt ke in
      let t = (label_in here None o).type in
      let kt' = label_well_formed here ks None tt o in
      let offers = index_stores context t in
      let flows = flows_at (place_of i) (flows_of ctx.bases (label_in here None i) (store_index_types offers)) in
      right_then (finds_in here None o) (finds_in here None i ++ (flows ++ stored_finds context here offers p e))
      (right_in here ks None tt o)
      (right_then (finds_in here None i) (flows ++ stored_finds context here offers p e) (right_in here ks None tt i)
      (right_then flows (stored_finds context here offers p e) (right_flows ctx.bases ck.smaller (place_of i)
      (label_in here None i) (store_index_types offers) (label_well_formed here ks None tt i)
      (keys_stored ctx.bases t kt'))
      (stored_right table env kt ke offers (index_stores_plain (members t)) (items_stored ctx.bases t kt') p e)))

  target_stored : (table : DeclaredTypes) (env : Env) (t : Target) (e : Expr) (found : List Note) → Formed table → Formed env
      → Right found → BoundRight ctx.bases (record {
        table = table;
        env = env;
        found = found ++ store_finds context
            (standing_here context table env) t e;
      })
  target_stored table env t e found kt ke kf = record {
    table = kt;
    env = ke;
    found =
        right_then found (store_finds context (standing_here context table env) t e) kf (store_right table env kt ke t e);
  }

  assigned_right : (table : DeclaredTypes) (env : Env) (t : Target) (e : Expr) (found : List Note) → Formed table → Formed env
      → Right found → BoundRight ctx.bases (assign_target context table env t e found)
  assigned_right table env (to_name n) e found kt ke kf =
      let r = ctx.resolve n.text in
      noted_right ctx.bases context.keeps true r n.place (bind_value context table env r None e found)
      (value_right table env r None e found kt ke tt kf)
  assigned_right table env (to_attribute p o field) e found kt ke kf = target_stored table env (to_attribute p o field)
      e found kt ke kf
  assigned_right table env (to_index p o i) e found kt ke kf = target_stored table env (to_index p o i) e found kt ke kf

  -- ---- iterables of `for` loops

  -- the type of a turn's item is well-formed, and its codes are others than that of a dynamic flow
  record ItemRight (m : Label) : Type 0 where
    formed : IsWellFormed ctx.bases m.type
    codes : LabelPlain m

  range_turn : (args : Exprs) (kws : Keywords) → ItemRight (range_item (arguments_given args kws))
  range_turn args kws = record {
    formed = in_both (λ (m : Label). IsWellFormed ctx.bases m.type)
        (is_suited (arguments_given args kws) range_signature) (clean Int) _ (int_well_formed ctx.bases)
        (any_well_formed ctx.bases);
    codes = range_item_plain (arguments_given args kws);
  }

  module _ (table : DeclaredTypes) (env : Env) (kt : Formed table) (ke : Formed env) where
    abbrev here : Standing
    here = standing_here context table env

    turn_right : (e : Expr) → ItemRight (values_item context here e)
    turn_right e = record {
      formed = turns_well_formed ctx.bases ck.smaller (label_in here None e).type
          (label_well_formed here (stands table env kt ke) None tt e);
      codes = mapped_plain ctx.bases (iterate_member ctx.bases) (iterate_plain ctx.bases)
          (members (label_in here None e).type);
    }

    item_right : (e : Expr) → ItemRight (item_label_of context here e)
    item_right (call p (name n) args kws) = in_both ItemRight (is_range (ctx.resolve n.text))
        (range_item (arguments_given args kws)) (values_item context here (call p (name n) args kws))
        (range_turn args kws) (turn_right (call p (name n) args kws))
    item_right e = turn_right e

    iterable_right : (e : Expr) → Right (iterable_finds context here e)
    iterable_right (call p (name n) args kws) =
        in_both Right (is_range (ctx.resolve n.text)) (range_finds here p (name n) args kws)
        (finds_in here None (call p (name n) args kws)) (right_range here (stands table env kt ke) p (name n) args
        kws) (right_in here (stands table env kt ke) None tt (call p (name n) args kws))
    iterable_right e = right_in here (stands table env kt ke) None tt e

    -- ---- expressions of statements

    option_right : (e : Option Expr) → Right (option_finds context here None e)
    option_right None = tt
    option_right (Some e) = right_in here (stands table env kt ke) None tt e

    return_right : (p : Place) (e : Option Expr) → Right (return_finds context here p e)
    return_right p None = right_flows ctx.bases ck.smaller p (clean NoneType) (context.returned ∷ [])
        (none_well_formed ctx.bases) (rk, tt)
    return_right p (Some e) =
        let want : Option Tree = Some context.returned in
        let flows = flows_at (place_of e) (flows_of ctx.bases (label_in here want e) (context.returned ∷ [])) in
        right_then (finds_in here want e) flows (right_in here (stands table env kt ke) want rk e)
        (right_flows ctx.bases ck.smaller (place_of e) (label_in here want e) (context.returned ∷ [])
        (label_well_formed here (stands table env kt ke) want rk e) (rk, tt))

  item_alone : (table : DeclaredTypes) (head : Env) (found : List Note) → Formed table → Formed head → Right found
      → BoundRight ctx.bases (record { table = table; env = head; found = found })
  item_alone table head found kt kh kf = record { table = kt; env = kh; found = kf }

  target_right : (table : DeclaredTypes) (head : Env) (r : NameMeaning) (p : Place) (t : Tree) (found : List Note)
      → Formed table
      → Formed head → IsWellFormed ctx.bases t → Right found → BoundRight ctx.bases
      (bind_item context table head r p t found)
  target_right table head (meaning.Local x) p t found kt kh k kf = label_right table head x (bound_type table x) p (clean t)
      found kt kh (bound_well_formed table x kt) k kf
  target_right table head (meaning.Const i) p t found kt kh k kf = item_alone table head found kt kh kf
  target_right table head (meaning.Func i) p t found kt kh k kf = item_alone table head found kt kh kf
  target_right table head (meaning.Class i) p t found kt kh k kf = item_alone table head found kt kh kf
  target_right table head (meaning.Builtin b) p t found kt kh k kf = item_alone table head found kt kh kf
  target_right table head meaning.None p t found kt kh k kf = item_alone table head found kt kh kf

  -- ---- statements

  behind_right : (exit_env : Option Env) (b : BindingResult) → OutWellFormed ctx.bases exit_env → BoundRight ctx.bases b
      → WalkRight ctx.bases (record { table = b.table; env = Some b.env; exit_env = exit_env; found = b.found })
  behind_right exit_env b kb h = record { table = h.table; env = h.env; exit_env = kb; found = h.found }

  mutual
    step_right : (table : DeclaredTypes) (env exit_env : Option Env) (found : List Note) → Formed table
        → OutWellFormed ctx.bases env → OutWellFormed ctx.bases exit_env → Right found → (s : Stmt)
        → WalkRight ctx.bases (step context table env exit_env found s)
    step_right table None exit_env found kt ke kb kf s = record {
      table = unreached_all table (bound_by_stmt s) kt;
      env =
          tt;
      exit_env = kb;
      found = kf;
    }
    step_right table (Some env) exit_env found kt ke kb kf (pass p) =
        record { table = kt; env = ke; exit_env = kb; found = kf }
    step_right table (Some env) exit_env found kt ke kb kf (breaks p) =
        record { table = kt; env = tt; exit_env = way_onto table exit_env env kt kb ke; found = kf }
    step_right table (Some env) exit_env found kt ke kb kf (continues p) =
        record { table = kt; env = tt; exit_env = kb; found = kf }
    step_right table (Some env) exit_env found kt ke kb kf (returns p e) =
        record {
          table = kt;
          env = tt;
          exit_env = kb;
          found = right_then found
              (return_finds context (standing_here context table env) p e) kf (return_right table env kt ke p e);
        }
    step_right table (Some env) exit_env found kt ke kb kf (asserts p c e) =
        let here = standing_here context table env in
        let out = narrowed_at context table false c env in
        record {
          table = kt;
          env = narrowed_well_formed table true c env kt ke;
          exit_env = kb;
          found = right_then (found ++ finds_in here None c) (option_finds context (standing_here context table out) None e)
              (right_then found (finds_in here None c) kf (right_in here (stands table env kt ke) None tt c))
              (option_right table out kt (narrowed_well_formed table false c env kt ke) e);
        }
    step_right table (Some env) exit_env found kt ke kb kf (annotated p n a e) =
        behind_right exit_env (bind_annotated context table env n a e found) kb
        (annotated_right table env n a e found kt ke kf)
    step_right table (Some env) exit_env found kt ke kb kf (assigns p t e) =
        behind_right exit_env (assign_target context table env t e found) kb (assigned_right table env t e found kt ke kf)
    step_right table (Some env) exit_env found kt ke kb kf (evaluates p e) =
        record {
          table = kt;
          env = ke;
          exit_env = kb;
          found = right_then found (finds_in (standing_here context table env) None e) kf
              (right_in (standing_here context table env) (stands table env kt ke) None tt e);
        }
    step_right table (Some env) exit_env found kt ke kb kf (while_loop p c b) =
        let head = head_at context table (bound_by b) env in
        let kh = head_well_formed table (bound_by b) env kt ke in
        let xs = finds_in (standing_here context table head) None c in
        let start : Walk = record {
          table = table;
          env = Some (narrowed_at context table true c head);
          exit_env =
              Some (narrowed_at context table false c head);
          found = found ++ xs;
        } in
        let body = suite_right start (record {
          table = kt;
          env = narrowed_well_formed table true c head kt kh;
          exit_env = narrowed_well_formed table false c head kt kh;
          found = right_then found xs kf (right_in (standing_here context table head) (stands table head kt kh) None tt c);
        }) b in
        record { table = body.table; env = body.exit_env; exit_env = kb; found = body.found }
    step_right table (Some env) exit_env found kt ke kb kf (for_loop p n e b) =
        let here = standing_here context table env in
        let head = head_at context table (n ∷ bound_by b) env in
        let kh = head_well_formed table (n ∷ bound_by b) env kt ke in
        let item = item_label_of context here e in
        let it = item_right table env kt ke e in
        let xs = iterable_finds context here e in
        let ys = codes_at (place_of e) item.codes in
        let r = ctx.resolve n.text in
        let bound = bind_item context table head r (place_of e) item.type ((found ++ xs) ++ ys) in
        let start = with_note context true r n.place bound in
        let tg = noted_right ctx.bases context.keeps true r n.place bound
        (target_right table head r (place_of e) item.type ((found ++ xs) ++ ys) kt kh
        it.formed (right_then (found ++ xs) ys (right_then found xs kf (iterable_right table env kt ke e))
        (right_codes ctx.bases (place_of e) item.codes it.codes))) in
        let body = suite_right (inside_for context head start) (record {
          table = tg.table;
          env = tg.env;
          exit_env = kh;
          found = tg.found;
        }) b in
        record { table = body.table; env = body.exit_env; exit_env = kb; found = body.found }
    step_right table (Some env) exit_env found kt ke kb kf (conditional p bs o) =
        let start : BranchesResult = record {
          table = table;
          last = env;
          ways = None;
          exit_env = exit_env;
          found =
              found;
        } in
        let if_state = walk_branches context start bs in
        let br = branches_right start (record { table = kt; last = ke; ways = tt; exit_env = kb; found = kf }) bs in
        let mid : Walk = record {
          table = if_state.table;
          env = Some if_state.last;
          exit_env = if_state.exit_env;
          found =
              if_state.found;
        } in
        let last = walk_suite context mid o in
        let el = suite_right mid (record { table = br.table; env = br.last; exit_env = br.exit_env; found = br.found }) o in
        record {
          table = el.table;
          env = one_way last.table if_state.ways last.env el.table br.ways el.env;
          exit_env =
              el.exit_env;
          found = el.found;
        }

    suite_right : (w : Walk) → WalkRight ctx.bases w → (b : Stmts) → WalkRight ctx.bases (walk_suite context w b)
    suite_right w h no_stmts = h
    suite_right w h (more_stmts s rest) = suite_right (step context w.table w.env w.exit_env w.found s)
        (step_right w.table w.env w.exit_env w.found h.table h.env h.exit_env h.found s) rest

    branches_right : (w : BranchesResult) → ForkRight ctx.bases w → (bs : Branches)
        → ForkRight ctx.bases (walk_branches context w bs)
    branches_right w h no_branches = h
    branches_right w h (more_branches c b rest) =
        let xs = finds_in (standing_here context w.table w.last) None c in
        let start : Walk = record {
          table = w.table;
          env = Some (narrowed_at context w.table true c w.last);
          exit_env =
              w.exit_env;
          found = w.found ++ xs;
        } in
        let u = walk_suite context start b in
        let body = suite_right start (record {
          table = h.table;
          env = narrowed_well_formed w.table true c w.last h.table h.last;
          exit_env = h.exit_env;
          found = right_then w.found xs h.found (right_in (standing_here context w.table w.last)
              (stands w.table w.last h.table h.last) None tt c);
        }) b in
        let next : BranchesResult = record {
          table = u.table;
          last = narrowed_at context w.table false c w.last;
          ways =
              with_way ctx.bases u.table w.ways u.env;
          exit_env = u.exit_env;
          found = u.found;
        } in
        branches_right next (record {
          table = body.table;
          last = narrowed_well_formed w.table false c w.last h.table h.last;
          ways = one_way u.table w.ways u.env body.table h.ways body.env;
          exit_env = body.exit_env;
          found = body.found;
        }) rest

-- ---- functions

-- the table and the environment at the entry of a function have well-formed types
abbrev EntryFormed : Bases → (DeclaredTypes × Env) → Type 0
EntryFormed bases r = IsWellFormedEnv bases r.0 × IsWellFormedEnv bases r.1

local_entered : (bases : Bases) (bound : Option Tree) (table : DeclaredTypes) (env : Env) (x : ℕ) (t : Tree)
    → IsWellFormed bases t → IsWellFormedEnv bases table → IsWellFormedEnv bases env
    → EntryFormed bases (enter_local bound table env x t)
local_entered bases (Some d) table env x t h kt ke = (kt, ke)
local_entered bases None table env x t h kt ke = (
  assign_well_formed bases table x t h kt,
  assign_well_formed bases env
      x t h ke,
)

name_entered : (bases : Bases) (table : DeclaredTypes) (env : Env) (r : NameMeaning) (t : Tree) → IsWellFormed bases t
    → IsWellFormedEnv bases table → IsWellFormedEnv bases env → EntryFormed bases (enter_name table env r t)
name_entered bases table env (meaning.Local x) t h kt ke = local_entered bases (bound_type table x) table env x t h kt ke
name_entered bases table env (meaning.Const i) t h kt ke = (kt, ke)
name_entered bases table env (meaning.Func i) t h kt ke = (kt, ke)
name_entered bases table env (meaning.Class i) t h kt ke = (kt, ke)
name_entered bases table env (meaning.Builtin b) t h kt ke = (kt, ke)
name_entered bases table env meaning.None t h kt ke = (kt, ke)

all_entered : (bases : Bases) (resolve : List ℕ → NameMeaning) (table : DeclaredTypes) (env : Env) (ps : List TypedParameter)
    → ParametersWellFormed bases ps → IsWellFormedEnv bases table → IsWellFormedEnv bases env
    → EntryFormed bases (enter_parameters resolve table env ps)
all_entered bases resolve table env [] h kt ke = (kt, ke)
all_entered bases resolve table env (p ∷ ps) h kt ke =
    let r = enter_name table env (resolve p.name) p.type in
    let k = name_entered bases table env (resolve p.name) p.type h.0 kt ke in
    all_entered bases resolve r.0 r.1 ps h.1 k.0 k.1

end_right : (bases : Bases) (t : Tree) (p : Place) (out : Option Env) → AreRight bases (end_finds bases t p out)
end_right bases t p None = tt
end_right bases t p (Some env) = in_both (AreRight bases) (static_test bases NoneType t) []
    (plain_note (finding p E21) ∷ []) tt (record { tested = refl; formed = tt }, tt)

-- the notes in the body of a function are right, where those before it are
pub right_function : (m : Module) (constants : List Tree) → AreWellFormed (bases_of m) constants
    → (owner : Owner) (f : FuncDef) (found : List Note) → AreRight (bases_of m) found
    → AreRight (bases_of m) (function_finds false m constants owner f found)
right_function m constants kc owner f found kf =
    let context = body_context_of false m constants owner f in
    let names = locals owner f in
    let none = unassigned_well_formed (bases_of m) (length names) in
    let start = enter_parameters context.context.resolve (none_assigned (length names)) (none_assigned (length names))
    (entry_parameters m owner f) in
    let ks = all_entered (bases_of m) context.context.resolve (none_assigned (length names))
    (none_assigned (length names)) (entry_parameters m owner f) (entries_well_formed m owner f) none none in
    let first : Walk = record { table = start.0; env = Some start.1; exit_env = None; found = found } in
    let body = walk_suite context first f.body in
    let kb = suite_right context (bodies_well_formed m constants names kc) (returned_well_formed m f) first
    (record { table = ks.0; env = ks.1; exit_env = tt; found = kf }) f.body in
    right_append (bases_of m) body.found (end_finds (bases_of m) (return_type m f) f.name.place body.env) kb.found
    (end_right (bases_of m) (return_type m f) f.name.place body.env)
