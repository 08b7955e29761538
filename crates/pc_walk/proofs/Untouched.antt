-- A walk over statements leaves each local that they do not touch unchanged.
use Rattle.std.proofs.Common.{◌≡◌, ◌∙◌, ℕ, List, [], ◌∷◌, ◌++◌, length, refl, sym, ap, subst, arith}
use Rattle.std.specs.Prelude.{Bool as Test, true, false, ◌||◌, nat_eq, Option, Some, None, is_some, unwrap_or}
use Rattle.std.specs.List.{cons_option}
use Rattle.std.proofs.lemmas.List.{length-set, length-map}
use Rattle.std.proofs.lemmas.List.Elements.{filter_map-append}
use Rattle.std.proofs.lemmas.Bool.{eqb-true}
use Rattle.pc_source.specs.declared.place.Place.{Place}
use Rattle.pc_tree.specs.Tree.{Name, Expr, Ann, Target, to_name, to_attribute, to_index, Stmt, Stmts, Branches, pass}
use Rattle.pc_tree.specs.Tree.{breaks, continues, returns, asserts, annotated, assigns, evaluates, while_loop, for_loop}
use Rattle.pc_tree.specs.Tree.{conditional, no_stmts, more_stmts, no_branches, more_branches}
use Rattle.pc_tree.specs.Stopping.{bound_by, bound_by_stmt, bound_by_branches, name_of_target}
use Rattle.pc_tree.specs.Depth.{place_of}
use Rattle.pc_scope.specs.declared.resolution.NameMeaning.{NameMeaning}
use Rattle.pc_scope.specs.declared.resolution.NameMeaning.TheVariants as meaning
use Rattle.pc_types.specs.Tree.{Tree, Any}
use Rattle.pc_flow.specs.Environment.{Env, current, join_env}
use Rattle.pc_flow.specs.Narrowing.{as_local}
use Rattle.pc_flow.specs.WellFormed.{IsWellFormedIfAny}
use Rattle.pc_flow.proofs.Conditions.{current_well_formed}
use Rattle.pc_notes.specs.Notes.{Note}
use Rattle.pc_rules.specs.Operations.{Label, clean}
use Rattle.pc_rules.specs.Computed.Standing.{label_in, finds_in}
use Rattle.pc_annotations.specs.Annotations.{read_ann}
use Rattle.pc_module_rules.specs.Statements.{binds_number, is_local_number}
use Rattle.pc_rules.specs.Computed.Findings.{codes_at}
use Rattle.pc_module_rules.specs.Computed.Statements.{BodyContext, DeclaredTypes, type_table, bound_type, with_declared}
use Rattle.pc_module_rules.specs.Computed.Statements.{known_declared, Walk, BindingResult, BranchesResult}
use Rattle.pc_module_rules.specs.Computed.Statements.{join_onto_way, with_way, standing_here, narrowed_at, unreached_name}
use Rattle.pc_module_rules.specs.Computed.Statements.{unreached_names, bind_label, bind_value, declared_alone}
use Rattle.pc_module_rules.specs.Computed.Statements.{annotation_finds, bound_name, assign_target}
use Rattle.pc_module_rules.specs.Computed.Statements.{bind_item, head_at, item_label_of, step, walk_suite}
use Rattle.pc_module_rules.specs.Computed.Statements.{walk_branches}
use Rattle.pc_module_rules.specs.Computed.Statements.{annotated_binding, noted_binding, with_note, iterable_finds}
use Rattle.pc_walk.specs.Touched.{numbers_of, tested_in_stmt, tested_in, tested_in_branches, touched_by}
use Rattle.pc_flow.specs.Agreement.{is_among}
use Rattle.pc_flow.specs.Narrowing.{tested_locals}
use Rattle.pc_walk.specs.Untouched.{AreAmong, IsAsOutsideIfAny, SuitesKeepUntouchedLocals}
use Rattle.pc_walk.proofs.KeptLocals.{IsKept, IsKeptIfAny, AreApart, apart_both, assigned_kept, head_kept, joined_kept}
use Rattle.pc_walk.proofs.KeptLocals.{narrow_kept}

-- ---- tables stay as long

types_long : (table : DeclaredTypes) → length (type_table table) ≡ length table
types_long table = length-map table (λ o. unwrap_or o Any)

declared_long : {A : Type 0} (o : Option A) (table : List (Option A)) (x : ℕ) (t : A)
    → length (with_declared o table x t) ≡ length table
declared_long (Some d) table x t = refl
declared_long None table x t = length-set table x (Some t)

module _ (context : BodyContext) where
  unreached_long_at : (table : DeclaredTypes) (r : NameMeaning) → length (unreached_name context table r) ≡ length table
  unreached_long_at table (meaning.Local x) = declared_long (bound_type table x) table x Any
  unreached_long_at table (meaning.Const i) = refl
  unreached_long_at table (meaning.Func i) = refl
  unreached_long_at table (meaning.Class i) = refl
  unreached_long_at table (meaning.Builtin b) = refl
  unreached_long_at table meaning.None = refl

  unreached_long : (table : DeclaredTypes) (names : List Name) → length (unreached_names context table names) ≡ length table
  unreached_long table [] = refl
  unreached_long table (n ∷ ns) = unreached_long (unreached_name context table (context.context.resolve n.text)) ns
      ∙ unreached_long_at table (context.context.resolve n.text)

  alone_long : (table : DeclaredTypes) (r : NameMeaning) (t : Tree) → length (declared_alone context table r t) ≡ length table
  alone_long table (meaning.Local x) t = declared_long (bound_type table x) table x t
  alone_long table (meaning.Const i) t = refl
  alone_long table (meaning.Func i) t = refl
  alone_long table (meaning.Class i) t = refl
  alone_long table (meaning.Builtin b) t = refl
  alone_long table meaning.None t = refl

-- ---- locals of some kind, in a function

module _ (context : BodyContext) (Kind : ℕ → Type 0) (base : Env) (fine : (x : ℕ) → Kind x
    → IsWellFormedIfAny context.context.bases (current base x)) where
  abbrev Here : Env → Type 0
  Here env = IsKept Kind base env

  abbrev HereIfAny : Option Env → Type 0
  HereIfAny env = IsKeptIfAny Kind base env

  -- none of these names means a local of the kind
  abbrev NamesApart : List Name → Type 0
  NamesApart names = AreApart Kind base (numbers_of context.context.resolve names)

  pub names_both : (a b : List Name) → NamesApart (a ++ b) → NamesApart a × NamesApart b
  names_both a b h = apart_both Kind base (numbers_of context.context.resolve a) (numbers_of context.context.resolve b)
      (subst (AreApart Kind base) (filter_map-append (λ (n : Name). as_local (context.context.resolve n.text)) a b) h)

  -- the meaning of one name, and of others
  abbrev MeaningApart : NameMeaning → List ℕ → Type 0
  MeaningApart r others = AreApart Kind base (cons_option (as_local r) others)

  not_equal : (x y : ℕ) → Kind x → (Kind y → ⊥) → nat_eq x y ≡ false
  not_equal x y k a = go (nat_eq x y) refl
    where
      go : (b : Test) → nat_eq x y ≡ b → b ≡ false
      go true e = absurd (a (subst Kind (eqb-true x y e) k))
      go false e = refl

  binds_none : (names : List Name) (x : ℕ) → Kind x → NamesApart names → binds_number context.context.resolve names x
      ≡ false
  binds_none [] x k h = refl
  binds_none (n ∷ ns) x k h = go (context.context.resolve n.text) h (λ g. binds_none ns x k g)
    where
      go : (r : NameMeaning) → MeaningApart r (numbers_of context.context.resolve ns)
          → (NamesApart ns → binds_number context.context.resolve ns x ≡ false)
          → (is_local_number x r || binds_number context.context.resolve ns x) ≡ false
      go (meaning.Local y) h f = ap (λ b. b || binds_number context.context.resolve ns x) (not_equal x y k h.0) ∙ f h.1
      go (meaning.Const y) h f = f h
      go (meaning.Func y) h f = f h
      go (meaning.Class y) h f = f h
      go (meaning.Builtin b) h f = f h
      go meaning.None h f = f h

  -- ---- conditions, heads of loops, and ways that meet

  here_types : (table : DeclaredTypes) → length table ≡ length base → length (type_table table) ≡ length base
  here_types table l = types_long table ∙ l

  pub narrowed_here : (table : DeclaredTypes) (holds : Test) (c : Expr) (env : Env) → length table ≡ length base
      → AreApart Kind base (tested_locals context.context.resolve c) → Here env
      → Here (narrowed_at context table holds c env)
  narrowed_here table holds c env l a h = narrow_kept Kind base context.context.bases (type_table table)
      (here_types table l) fine context.context.resolve holds c env a h

  pub head_here : (table : DeclaredTypes) (names : List Name) (env : Env) → length table ≡ length base → NamesApart names
      → Here env → Here (head_at context table names env)
  head_here table names env l n h = head_kept Kind base (binds_number context.context.resolve names) (type_table table)
      env (here_types table l) (λ x k. binds_none names x k n) h

  join_here : (table : DeclaredTypes) (a b : Env) → length table ≡ length base → Here a → Here b
      → Here (join_env context.context.bases (type_table table) a b)
  join_here table a b l h g = joined_kept Kind base context.context.bases (type_table table) (here_types table l) fine a
      b h g

  break_here : (table : DeclaredTypes) (way : Option Env) (env : Env) → length table ≡ length base → HereIfAny way → Here env
      → HereIfAny (join_onto_way context.context.bases table way env)
  break_here table None env l h g = tt
  break_here table (Some way) env l h g = join_here table way env l h g

  pub way_here : (table : DeclaredTypes) (ways out : Option Env) → length table ≡ length base → HereIfAny ways → HereIfAny out
      → HereIfAny (with_way context.context.bases table ways out)
  way_here table ways None l h g = h
  way_here table None (Some env) l h g = g
  way_here table (Some way) (Some env) l h g = join_here table way env l h g

  -- ---- names that are bound

  pub record BindingHere (b : BindingResult) : Type 0 where
    pub long : length b.table ≡ length base
    pub env_here : IsKept Kind base b.env

  label_here : (table : DeclaredTypes) (env : Env) (x : ℕ) (want : Option Tree) (p : Place) (m : Label) (found : List Note)
      → length table ≡ length base → (Kind x → ⊥) → Here env → BindingHere
      (bind_label context table env x want p m found)
  label_here table env x want p m found l a h = record {
    long = declared_long (bound_type table x) table x (unwrap_or want m.type) ∙ l;
    env_here = assigned_kept Kind base env x _ a h;
  }

  value_here : (table : DeclaredTypes) (env : Env) (r : NameMeaning) (annotation : Option Tree) (e : Expr) (found : List Note)
      → length table ≡ length base → MeaningApart r [] → Here env
      → BindingHere (bind_value context table env r annotation e found)
  value_here table env (meaning.Local x) annotation e found l a h =
      label_here table env x (known_declared (bound_type table x) annotation) (place_of e)
      (label_in (standing_here context table env) (known_declared (bound_type table x) annotation) e)
      (found ++ finds_in (standing_here context table env) (known_declared (bound_type table x) annotation) e) l a.0 h
  value_here table env (meaning.Const i) annotation e found l a h = record { long = l; env_here = h }
  value_here table env (meaning.Func i) annotation e found l a h = record { long = l; env_here = h }
  value_here table env (meaning.Class i) annotation e found l a h = record { long = l; env_here = h }
  value_here table env (meaning.Builtin b) annotation e found l a h = record { long = l; env_here = h }
  value_here table env meaning.None annotation e found l a h = record { long = l; env_here = h }

  -- with the note of the name
  pub noted_here : (keeps valued : Test) (r : NameMeaning) (p : Place) (b : BindingResult) → BindingHere b
      → BindingHere (noted_binding keeps valued r p b)
  noted_here false valued r p b h = h
  noted_here true valued r p b h = record { long = h.long; env_here = h.env_here }

  annotated_here : (table : DeclaredTypes) (env : Env) (n : Name) (a : Ann) (e : Option Expr) (found : List Note)
      → length table ≡ length base → NamesApart (n ∷ []) → Here env
      → BindingHere (annotated_binding context table env (context.context.resolve n.text) n a e found)
  annotated_here table env n a None found l m h = record {
    long =
        alone_long context table (context.context.resolve n.text) (read_ann context.whole context.context.bases a)
        ∙ l;
    env_here = h;
  }
  annotated_here table env n a (Some e) found l m h = value_here table env (context.context.resolve n.text)
      (Some (read_ann context.whole context.context.bases a)) e (found ++ annotation_finds context
      (bound_name context table (context.context.resolve n.text)) n a) l m h

  target_here : (table : DeclaredTypes) (env : Env) (t : Target) (e : Expr) (found : List Note) → length table ≡ length base
      → NamesApart (name_of_target t) → Here env → BindingHere (assign_target context table env t e found)
  target_here table env (to_name n) e found l m h =
      let r = context.context.resolve n.text in
      noted_here context.keeps true r n.place (bind_value context table env r None e found)
      (value_here table env r None e found l m h)
  target_here table env (to_attribute p o field) e found l m h = record { long = l; env_here = h }
  target_here table env (to_index p o i) e found l m h = record { long = l; env_here = h }

  pub item_here : (table : DeclaredTypes) (head : Env) (r : NameMeaning) (p : Place) (t : Tree) (found : List Note)
      (others : List ℕ)
      → length table ≡ length base → MeaningApart r others → Here head
      → BindingHere (bind_item context table head r p t found)
  item_here table head (meaning.Local x) p t found others l a h = label_here table head x (bound_type table x) p (clean t)
      found l a.0 h
  item_here table head (meaning.Const i) p t found others l a h = record { long = l; env_here = h }
  item_here table head (meaning.Func i) p t found others l a h = record { long = l; env_here = h }
  item_here table head (meaning.Class i) p t found others l a h = record { long = l; env_here = h }
  item_here table head (meaning.Builtin b) p t found others l a h = record { long = l; env_here = h }
  item_here table head meaning.None p t found others l a h = record { long = l; env_here = h }

  -- ---- statements

  -- after a walk: as many locals, and the environment and the way out of the loop are kept
  pub record WalkHere (before : Option Env) (w : Walk) : Type 0 where
    pub long : length w.table ≡ length base
    pub env_here : IsKeptIfAny Kind base w.env
    pub exit_env_here : IsKeptIfAny Kind base before → IsKeptIfAny Kind base w.exit_env

  -- and after branches
  pub record ForkHere (before : Option Env) (f : BranchesResult) : Type 0 where
    pub long : length f.table ≡ length base
    pub last_here : IsKept Kind base f.last
    pub ways_here : IsKeptIfAny Kind base f.ways
    pub exit_env_here : IsKeptIfAny Kind base before → IsKeptIfAny Kind base f.exit_env

  abbrev TestsApart : List ℕ → Type 0
  TestsApart locals = AreApart Kind base locals

  still : (table : DeclaredTypes) (env exit_env : Option Env) (found : List Note) → length table ≡ length base → HereIfAny env
      → WalkHere exit_env (record { table = table; env = env; exit_env = exit_env; found = found })
  still table env exit_env found l h = record { long = l; env_here = h; exit_env_here = λ k. k }

  mutual
    pub step_here : (table : DeclaredTypes) (env exit_env : Option Env) (found : List Note) (s : Stmt)
        → length table ≡ length base → HereIfAny env → NamesApart (bound_by_stmt s)
        → TestsApart (tested_in_stmt context.context.resolve s) → WalkHere exit_env
        (step context table env exit_env found s)
    step_here table None exit_env found s l h n t = record {
      long = unreached_long context table (bound_by_stmt s)
          ∙ l;
      env_here = tt;
      exit_env_here = λ k. k;
    }
    step_here table (Some env) exit_env found (pass p) l h n t = record { long = l; env_here = h; exit_env_here = λ k. k }
    step_here table (Some env) exit_env found (breaks p) l h n t =
        record { long = l; env_here = tt; exit_env_here = λ k. break_here table exit_env env l k h }
    step_here table (Some env) exit_env found (continues p) l h n t =
        record { long = l; env_here = tt; exit_env_here = λ k. k }
    step_here table (Some env) exit_env found (returns p e) l h n t =
        record { long = l; env_here = tt; exit_env_here = λ k. k }
    step_here table (Some env) exit_env found (asserts p c e) l h n t =
        record { long = l; env_here = narrowed_here table true c env l t h; exit_env_here = λ k. k }
    step_here table (Some env) exit_env found (annotated p m a e) l h n t =
        let r = context.context.resolve m.text in
        let b = noted_here context.keeps (is_some e) r m.place (annotated_binding context table env r m a e found)
        (annotated_here table env m a e found l n h) in
        record { long = b.long; env_here = b.env_here; exit_env_here = λ k. k }
    step_here table (Some env) exit_env found (assigns p g e) l h n t =
        let b = target_here table env g e found l n h in
        record { long = b.long; env_here = b.env_here; exit_env_here = λ k. k }
    step_here table (Some env) exit_env found (evaluates p e) l h n t =
        record { long = l; env_here = h; exit_env_here = λ k. k }
    step_here table (Some env) exit_env found (while_loop p c b) l h n t =
        let tests = apart_both Kind base (tested_locals context.context.resolve c) (tested_in context.context.resolve b)
        t in
        let head = head_at context table (bound_by b) env in
        let k = head_here table (bound_by b) env l n h in
        let body = suite_here (record {
          table = table;
          env = Some (narrowed_at context table true c head);
          exit_env =
              Some (narrowed_at context table false c head);
          found = found ++ finds_in (standing_here context table head) None c;
        }) b
        l (narrowed_here table true c head l tests.0 k) n tests.1 in
        record {
          long = body.long;
          env_here = body.exit_env_here (narrowed_here table false c head l tests.0 k);
          exit_env_here = λ k. k;
        }
    step_here table (Some env) exit_env found (for_loop p m e b) l h n tests =
        let names = names_both (m ∷ []) (bound_by b) n in
        let head = head_at context table (m ∷ bound_by b) env in
        let k = head_here table (m ∷ bound_by b) env l n h in
        let r = context.context.resolve m.text in
        let t = (item_label_of context (standing_here context table env) e).type in
        let before = (found ++ iterable_finds context (standing_here context table env) e) ++ codes_at (place_of e)
        (item_label_of context (standing_here context table env) e).codes in
        let inside = noted_here context.keeps true r m.place (bind_item context table head r (place_of e) t before)
        (item_here table head r (place_of e) t before [] l names.0 k) in
        let body = suite_here _ b inside.long inside.env_here names.1 tests in
        record { long = body.long; env_here = body.exit_env_here k; exit_env_here = λ k. k }
    step_here table (Some env) exit_env found (conditional p bs o) l h n t =
        let names = names_both (bound_by_branches bs) (bound_by o) n in
        let tests = apart_both Kind base (tested_in_branches context.context.resolve bs)
        (tested_in context.context.resolve o) t in
        let start : BranchesResult = record {
          table = table;
          last = env;
          ways = None;
          exit_env = exit_env;
          found =
              found;
        } in
        let fork = branches_here start bs l h tt names.0 tests.0 in
        let f = walk_branches context start bs in
        let last = suite_here (record { table = f.table; env = Some f.last; exit_env = f.exit_env; found = f.found }) o
        fork.long fork.last_here names.1 tests.1 in
        let w = walk_suite context (record { table = f.table; env = Some f.last; exit_env = f.exit_env; found = f.found })
        o in
        record {
          long = last.long;
          env_here = way_here w.table f.ways w.env last.long fork.ways_here last.env_here;
          exit_env_here = λ k. last.exit_env_here (fork.exit_env_here k);
        }

    pub suite_here : (w : Walk) (b : Stmts) → length w.table ≡ length base → HereIfAny w.env → NamesApart (bound_by b)
        → TestsApart (tested_in context.context.resolve b) → WalkHere w.exit_env (walk_suite context w b)
    suite_here w no_stmts l h n t = record { long = l; env_here = h; exit_env_here = λ k. k }
    suite_here w (more_stmts s rest) l h n t =
        let names = names_both (bound_by_stmt s) (bound_by rest) n in
        let tests = apart_both Kind base (tested_in_stmt context.context.resolve s)
        (tested_in context.context.resolve rest) t in
        let first = step_here w.table w.env w.exit_env w.found s l h names.0 tests.0 in
        let next = suite_here (step context w.table w.env w.exit_env w.found s) rest first.long first.env_here names.1
        tests.1 in
        record { long = next.long; env_here = next.env_here; exit_env_here = λ k. next.exit_env_here (first.exit_env_here k) }

    pub branches_here : (f : BranchesResult) (bs : Branches) → length f.table ≡ length base → Here f.last
        → HereIfAny f.ways → NamesApart (bound_by_branches bs) → TestsApart
        (tested_in_branches context.context.resolve bs) → ForkHere f.exit_env (walk_branches context f bs)
    branches_here f no_branches l h w n t = record { long = l; last_here = h; ways_here = w; exit_env_here = λ k. k }
    branches_here f (more_branches c b rest) l h w n t =
        let names = names_both (bound_by b) (bound_by_branches rest) n in
        let tests = apart_both Kind base (tested_locals context.context.resolve c)
        (tested_in context.context.resolve b ++ tested_in_branches context.context.resolve rest) t in
        let later = apart_both Kind base (tested_in context.context.resolve b)
        (tested_in_branches context.context.resolve rest) tests.1 in
        let start : Walk = record {
          table = f.table;
          env = Some (narrowed_at context f.table true c f.last);
          exit_env =
              f.exit_env;
          found = f.found ++ finds_in (standing_here context f.table f.last) None c;
        } in
        let body = suite_here start b l (narrowed_here f.table true c f.last l tests.0 h) names.0 later.0 in
        let out = walk_suite context start b in
        let next = branches_here (record {
          table = out.table;
          last = narrowed_at context f.table false c f.last;
          ways =
              with_way context.context.bases out.table f.ways out.env;
          exit_env = out.exit_env;
          found = out.found;
        }) rest
        body.long (narrowed_here f.table false c f.last l tests.0 h)
        (way_here out.table f.ways out.env body.long w body.env_here) names.1 later.1 in
        record {
          long = next.long;
          last_here = next.last_here;
          ways_here = next.ways_here;
          exit_env_here =
              λ k. next.exit_env_here (body.exit_env_here k);
        }

-- ---- the law

-- locals among some are apart from all locals outside these
pub among_apart : (locals : List ℕ) (base : Env) (xs : List ℕ) → AreAmong locals xs
    → AreApart (λ x. is_among locals x ≡ false) base xs
among_apart locals base [] h = tt
among_apart locals base (x ∷ xs) h = (λ e. absurd (grind (arith, h.0, e)), among_apart locals base xs h.1)

pub as_kept : (locals : List ℕ) (base : Env) (env : Option Env) → IsAsOutsideIfAny locals base env
    → IsKeptIfAny (λ x. is_among locals x ≡ false) base env
as_kept locals base None h = tt
as_kept locals base (Some env) h = record { long = h.long; same = h.same }

pub kept_as : (locals : List ℕ) (base : Env) (env : Option Env) → IsKeptIfAny (λ x. is_among locals x ≡ false) base env
    → IsAsOutsideIfAny locals base env
kept_as locals base None h = tt
kept_as locals base (Some env) h = record { long = h.long; same = h.same }

pub untouched_kept : SuitesKeepUntouchedLocals
untouched_kept context table env exit_env found b locals l w a =
    let apart = apart_both (λ x. is_among locals x ≡ false) env (numbers_of context.context.resolve (bound_by b))
    (tested_in context.context.resolve b) (among_apart locals env (touched_by context.context.resolve b) a) in
    let start : Walk = record { table = table; env = Some env; exit_env = exit_env; found = found } in
    let behind = suite_here context (λ x. is_among locals x ≡ false) env
    (λ x k. current_well_formed context.context.bases env x w) start b l
    (record { long = refl; same = λ x k. refl }) apart.0 apart.1 in
    let out = walk_suite context start b in
    record {
      long = behind.long ∙ sym l;
      behind = kept_as locals env out.env behind.env_here;
      out_of_loop = λ k. kept_as locals env out.exit_env (behind.exit_env_here (as_kept locals env exit_env k));
    }

-- ---- numbers of locals

-- no local is of no kind
pub none_apart : (base : Env) (xs : List ℕ) → AreApart (λ x. ⊥) base xs
none_apart base [] = tt
none_apart base (x ∷ xs) = (λ k. k, none_apart base xs)

pub long_kept : (base env : Env) → length env ≡ length base → IsKept (λ x. ⊥) base env
long_kept base env l = record { long = l; same = λ x k. absurd k }

module _ (context : BodyContext) (table : DeclaredTypes) where
  pub narrowed_long : (holds : Test) (c : Expr) (env : Env) → length env ≡ length table
      → length (narrowed_at context table holds c env) ≡ length table
  narrowed_long holds c env l = (narrowed_here context (λ x. ⊥) table (λ x k. absurd k) table holds c env refl
      (none_apart table (tested_locals context.context.resolve c)) (long_kept table env l)).long

  pub head_at_long : (names : List Name) (env : Env) → length env ≡ length table
      → length (head_at context table names env) ≡ length table
  head_at_long names env l = (head_here context (λ x. ⊥) table (λ x k. absurd k) table names env refl
      (none_apart table (numbers_of context.context.resolve names)) (long_kept table env l)).long

  pub item_long : (head : Env) (r : NameMeaning) (q p : Place) (t : Tree) (found : List Note)
      → length head ≡ length table
      → (length (with_note context true r q (bind_item context table head r p t found)).table ≡ length table)
      × (length (with_note context true r q (bind_item context table head r p t found)).env ≡ length table)
  item_long head r q p t found l =
      let b = noted_here context (λ x. ⊥) table (λ x k. absurd k) context.keeps true r q
      (bind_item context table head r p t found)
      (item_here context (λ x. ⊥) table (λ x k. absurd k) table head r p t found [] refl
      (none_apart table (cons_option (as_local r) [])) (long_kept table head l)) in
      (b.long, b.env_here.long)
