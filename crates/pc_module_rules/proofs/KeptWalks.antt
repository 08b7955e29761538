-- A walk that keeps types reaches the same declared types and environments as one that does not, whatever was found
-- before.
use Rattle.std.proofs.Common.{◌≡◌, List, ◌∷◌, ◌++◌, map, refl, sym, ap, ◌∙◌}
use Rattle.std.specs.Prelude.{Bool as Test, true, false, if◌then◌else◌, Option, Some, None, is_some}
use Rattle.pc_source.specs.declared.place.Place.{Place}
use Rattle.pc_tree.specs.Depth.{place_of}
use Rattle.pc_tree.specs.Tree.{Name, Expr, name, call, Ann, Target, to_name, to_attribute, to_index, Stmt, Stmts}
use Rattle.pc_tree.specs.Tree.{Branches, pass, breaks, continues, returns, asserts, annotated, assigns, evaluates}
use Rattle.pc_tree.specs.Tree.{while_loop, for_loop, conditional, no_stmts, more_stmts, no_branches, more_branches}
use Rattle.pc_tree.specs.Tree.{Module}
use Rattle.pc_tree.specs.Stopping.{bound_by}
use Rattle.pc_scope.specs.declared.resolution.NameMeaning.{NameMeaning}
use Rattle.pc_scope.specs.declared.resolution.NameMeaning.TheVariants as meaning
use Rattle.pc_types.specs.Tree.{Tree}
use Rattle.pc_types.specs.Shape.{members}
use Rattle.pc_annotations.specs.Annotations.{read_ann}
use Rattle.pc_flow.specs.Environment.{Env}
use Rattle.pc_notes.specs.Notes.{Note}
use Rattle.pc_rules.specs.Operations.{Label, clean, offers_label, iterate_member}
use Rattle.pc_rules.specs.Context.{Context}
use Rattle.pc_rules.specs.Calls.{arguments_given, is_range, range_item}
use Rattle.pc_rules.specs.Computed.Findings.{codes_at}
use Rattle.pc_rules.specs.Computed.Standing.{label_in, finds_in}
use Rattle.pc_module_rules.specs.Computed.Statements.{DeclaredTypes, bound_type, known_declared, BodyContext, Walk}
use Rattle.pc_module_rules.specs.Computed.Statements.{BindingResult, BranchesResult, standing_here, with_way, narrowed_at, head_at}
use Rattle.pc_module_rules.specs.Computed.Statements.{bind_label, bind_value, bind_annotated, annotation_finds}
use Rattle.pc_module_rules.specs.Computed.Statements.{bound_name, bind_item, values_item, item_label_of, iterable_finds}
use Rattle.pc_module_rules.specs.Computed.Statements.{assign_target, inside_for, step, walk_suite, walk_branches}
use Rattle.pc_module_rules.specs.Computed.Statements.{annotated_binding, noted_binding, with_note}
use Rattle.pc_module_rules.proofs.NotedNames.{noted_table, noted_env}

-- two walks have come to the same, but for what was found
pub record SameWalk (v w : Walk) : Type 0 where
  pub table : v.table ≡ w.table
  pub env : v.env ≡ w.env
  pub exit_env : v.exit_env ≡ w.exit_env

-- likewise with a name bound, and with branches
pub record SameBinding (v w : BindingResult) : Type 0 where
  pub table : v.table ≡ w.table
  pub env : v.env ≡ w.env

pub record SameFork (v w : BranchesResult) : Type 0 where
  pub table : v.table ≡ w.table
  pub last : v.last ≡ w.last
  pub ways : v.ways ≡ w.ways
  pub exit_env : v.exit_env ≡ w.exit_env

module _ (m : Module) (ctx : Context) (returned : Tree) where
  -- the context of statements, where types are kept or not
  abbrev pub standing : (keeps : Test) → BodyContext
  standing keeps = record { whole = m; context = ctx; returned = returned; keeps = keeps }

  module _ (k k' : Test) where
    abbrev a : BodyContext
    a = standing k

    abbrev b : BodyContext
    b = standing k'

    same_label : (table : DeclaredTypes) (env : Env) (want : Option Tree) (e : Expr)
        → label_in (standing_here a table env) want e ≡ label_in (standing_here b table env) want e
    unfolding label_in
    same_label table env want e = refl

    -- ---- names bound

    same_noted : (valued : Test) (r : NameMeaning) (p : Place) (v w : BindingResult) → SameBinding v w
        → SameBinding (noted_binding a.keeps valued r p v) (noted_binding b.keeps valued r p w)
    same_noted valued r p v w h = record {
      table = noted_table a.keeps valued r p v ∙ h.table ∙ sym (noted_table b.keeps valued r p w);
      env = noted_env a.keeps valued r p v ∙ h.env ∙ sym (noted_env b.keeps valued r p w);
    }

    pub same_value : (table : DeclaredTypes) (env : Env) (r : NameMeaning) (annotation : Option Tree) (e : Expr) (f g : List Note)
        → SameBinding (bind_value a table env r annotation e f) (bind_value b table env r annotation e g)
    same_value table env (meaning.Local x) annotation e f g =
        let want = known_declared (bound_type table x) annotation in
        let is = same_label table env want e in
        record {
          table = ap (λ (l : Label). (bind_label b table env x want (place_of e) l g).table) is;
          env = ap (λ (l : Label). (bind_label b table env x want (place_of e) l g).env) is;
        }
    same_value table env _ annotation e f g = record { table = refl; env = refl }

    same_read : (table : DeclaredTypes) (env : Env) (r : NameMeaning) (n : Name) (ann : Ann) (e : Option Expr) (f g : List Note)
        → SameBinding (annotated_binding a table env r n ann e f) (annotated_binding b table env r n ann e g)
    same_read table env r n ann None f g = record { table = refl; env = refl }
    same_read table env r n ann (Some e) f g =
        let o = bound_name b table r in
        same_value table env r (Some (read_ann m ctx.bases ann)) e (f ++ annotation_finds a o n ann)
        (g ++ annotation_finds b o n ann)

    pub same_annotated : (table : DeclaredTypes) (env : Env) (n : Name) (ann : Ann) (e : Option Expr) (f g : List Note)
        → SameBinding (bind_annotated a table env n ann e f) (bind_annotated b table env n ann e g)
    same_annotated table env n ann e f g =
        let r = ctx.resolve n.text in
        same_noted (is_some e) r n.place (annotated_binding a table env r n ann e f)
        (annotated_binding b table env r n ann e g) (same_read table env r n ann e f g)

    same_assigned : (table : DeclaredTypes) (env : Env) (t : Target) (e : Expr) (f g : List Note)
        → SameBinding (assign_target a table env t e f) (assign_target b table env t e g)
    same_assigned table env (to_name n) e f g =
        let r = ctx.resolve n.text in
        same_noted true r n.place (bind_value a table env r None e f) (bind_value b table env r None e g)
        (same_value table env r None e f g)
    same_assigned table env (to_attribute p o field) e f g = record { table = refl; env = refl }
    same_assigned table env (to_index p o i) e f g = record { table = refl; env = refl }

    -- ---- iterables of `for` loops

    same_values : (table : DeclaredTypes) (env : Env) (e : Expr)
        → values_item a (standing_here a table env) e ≡ values_item b (standing_here b table env) e
    same_values table env e = ap (λ (l : Label). offers_label ctx.bases (map (iterate_member ctx.bases) (members
        l.type))) (same_label table env None e)

    pub same_item : (table : DeclaredTypes) (env : Env) (e : Expr)
        → item_label_of a (standing_here a table env) e ≡ item_label_of b (standing_here b table env) e
    same_item table env (call p (name n) args kws) = ap
        (λ (l : Label). if is_range (ctx.resolve n.text) then range_item (arguments_given args kws) else l)
        (same_values table env (call p (name n) args kws))
    same_item table env e = same_values table env e

    same_target : (table : DeclaredTypes) (head : Env) (r : NameMeaning) (p : Place) (t u : Tree) → t ≡ u → (f g : List Note)
        → SameBinding (bind_item a table head r p t f) (bind_item b table head r p u g)
    same_target table head (meaning.Local x) p t u e f g = record {
      table = ap (λ (v : Tree). (bind_label b table head x (bound_type table x) p (clean v) g).table) e;
      env = ap (λ (v : Tree). (bind_label b table head x (bound_type table x) p (clean v) g).env) e;
    }
    same_target table head _ p t u e f g = record { table = refl; env = refl }

    pub same_item_bound : (table : DeclaredTypes) (head : Env) (n : Name) (p : Place) (t u : Tree) → t ≡ u → (f g : List Note)
        → SameBinding (with_note a true (ctx.resolve n.text) n.place
        (bind_item a table head (ctx.resolve n.text) p t f))
        (with_note b true (ctx.resolve n.text) n.place (bind_item b table head (ctx.resolve n.text) p u g))
    same_item_bound table head n p t u e f g =
        let r = ctx.resolve n.text in
        same_noted true r n.place (bind_item a table head r p t f) (bind_item b table head r p u g)
        (same_target table head r p t u e f g)

    -- ---- statements, suites and branches

    same_all : {v w u : Walk} → SameWalk v w → w ≡ u → SameWalk v u
    same_all h e = record {
      table = h.table ∙ ap (λ (x : Walk). x.table) e;
      env = h.env ∙ ap (λ (x : Walk). x.env) e;
      exit_env = h.exit_env ∙ ap (λ (x : Walk). x.exit_env) e;
    }

    mutual
      pub same_step : (table : DeclaredTypes) (env : Option Env) (exit_env : Option Env) (f g : List Note) (s : Stmt)
          → SameWalk (step a table env exit_env f s) (step b table env exit_env g s)
      same_step table None exit_env f g s = record { table = refl; env = refl; exit_env = refl }
      same_step table (Some env) exit_env f g (pass p) = record { table = refl; env = refl; exit_env = refl }
      same_step table (Some env) exit_env f g (breaks p) = record { table = refl; env = refl; exit_env = refl }
      same_step table (Some env) exit_env f g (continues p) = record { table = refl; env = refl; exit_env = refl }
      same_step table (Some env) exit_env f g (returns p e) = record { table = refl; env = refl; exit_env = refl }
      same_step table (Some env) exit_env f g (asserts p c e) = record { table = refl; env = refl; exit_env = refl }
      same_step table (Some env) exit_env f g (annotated p n ann e) =
          let h = same_annotated table env n ann e f g in
          record { table = h.table; env = ap Some h.env; exit_env = refl }
      same_step table (Some env) exit_env f g (assigns p t e) =
          let h = same_assigned table env t e f g in
          record { table = h.table; env = ap Some h.env; exit_env = refl }
      same_step table (Some env) exit_env f g (evaluates p e) = record { table = refl; env = refl; exit_env = refl }
      same_step table (Some env) exit_env f g (while_loop p c body) =
          let head = head_at a table (bound_by body) env in
          let from : List Note → Walk = λ found. record {
            table = table;
            env = Some (narrowed_at a table true c head);
            exit_env = Some (narrowed_at a table false c head);
            found = found;
          } in
          let h = same_suite (from (f ++ finds_in (standing_here a table head) None c))
          (from (g ++ finds_in (standing_here b table head) None c)) (record { table = refl; env = refl; exit_env = refl }) body in
          record { table = h.table; env = h.exit_env; exit_env = refl }
      same_step table (Some env) exit_env f g (for_loop p n e body) =
          let head = head_at a table (n ∷ bound_by body) env in
          let i = item_label_of a (standing_here a table env) e in
          let j = item_label_of b (standing_here b table env) e in
          let x = (f ++ iterable_finds a (standing_here a table env) e) ++ codes_at (place_of e) i.codes in
          let y = (g ++ iterable_finds b (standing_here b table env) e) ++ codes_at (place_of e) j.codes in
          let t = same_item_bound table head n (place_of e) i.type j.type
          (ap (λ (l : Label). l.type) (same_item table env e)) x y in
          let h = same_suite
          (inside_for a head (with_note a true (ctx.resolve n.text) n.place
          (bind_item a table head (ctx.resolve n.text) (place_of e) i.type x)))
          (inside_for b head (with_note b true (ctx.resolve n.text) n.place
          (bind_item b table head (ctx.resolve n.text) (place_of e) j.type y)))
          (record { table = t.table; env = ap Some t.env; exit_env = refl }) body in
          record { table = h.table; env = h.exit_env; exit_env = refl }
      same_step table (Some env) exit_env f g (conditional p bs o) =
          let from : List Note → BranchesResult = λ found. record {
            table = table;
            last = env;
            ways = None;
            exit_env = exit_env;
            found = found;
          } in
          let v = walk_branches a (from f) bs in
          let w = walk_branches b (from g) bs in
          let h = same_branches (from f) (from g)
          (record { table = refl; last = refl; ways = refl; exit_env = refl }) bs in
          let u = same_suite (record { table = v.table; env = Some v.last; exit_env = v.exit_env; found = v.found })
          (record { table = w.table; env = Some w.last; exit_env = w.exit_env; found = w.found })
          (record { table = h.table; env = ap Some h.last; exit_env = h.exit_env }) o in
          record {
            table = u.table;
            env = λ i. with_way ctx.bases (u.table i) (h.ways i) (u.env i);
            exit_env = u.exit_env;
          }

      pub same_suite : (v w : Walk) → SameWalk v w → (body : Stmts)
          → SameWalk (walk_suite a v body) (walk_suite b w body)
      same_suite v w h no_stmts = h
      same_suite v w h (more_stmts s rest) =
          same_suite (step a v.table v.env v.exit_env v.found s) (step b w.table w.env w.exit_env w.found s)
          (same_all (same_step v.table v.env v.exit_env v.found w.found s)
          (λ i. step b (h.table i) (h.env i) (h.exit_env i) w.found s)) rest

      same_branches : (v w : BranchesResult) → SameFork v w → (bs : Branches)
          → SameFork (walk_branches a v bs) (walk_branches b w bs)
      same_branches v w h no_branches = h
      same_branches v w h (more_branches c body rest) =
          let x : Walk = record {
            table = v.table;
            env = Some (narrowed_at a v.table true c v.last);
            exit_env = v.exit_env;
            found = v.found ++ finds_in (standing_here a v.table v.last) None c;
          } in
          let y : Walk = record {
            table = w.table;
            env = Some (narrowed_at b w.table true c w.last);
            exit_env = w.exit_env;
            found = w.found ++ finds_in (standing_here b w.table w.last) None c;
          } in
          let s = same_suite x y (record {
            table = h.table;
            env = λ i. Some (narrowed_at b (h.table i) true c (h.last i));
            exit_env = h.exit_env;
          }) body in
          let p = walk_suite a x body in
          let q = walk_suite b y body in
          same_branches
          (record {
            table = p.table;
            last = narrowed_at a v.table false c v.last;
            ways = with_way ctx.bases p.table v.ways p.env;
            exit_env = p.exit_env;
            found = p.found;
          })
          (record {
            table = q.table;
            last = narrowed_at b w.table false c w.last;
            ways = with_way ctx.bases q.table w.ways q.env;
            exit_env = q.exit_env;
            found = q.found;
          })
          (record {
            table = s.table;
            last = λ i. narrowed_at b (h.table i) false c (h.last i);
            ways = λ i. with_way ctx.bases (s.table i) (h.ways i) (s.env i);
            exit_env = s.exit_env;
          }) rest
