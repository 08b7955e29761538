-- A statement with those after it, the value of a `return`, and assignments.
use Rattle.std.proofs.Common.{List, [], arith, refl, ◌++◌, ◌∷◌, ◌≡◌}
use Rattle.std.specs.Prelude.{Bool as Test, None, Option, Some, false, is_some, option_to_list, true, ◌&&◌, ◌||◌}
use Rattle.pc_source.specs.declared.place.Place.{Place}
use Rattle.pc_tree.specs.Tree.{Expr, Stmt, Stmts, Target, assigns, more_stmts, no_stmts, to_attribute, to_index}
use Rattle.pc_tree.specs.Tree.{to_name}
use Rattle.pc_tree.specs.Stopping.{bound_by, bound_by_stmt}
use Rattle.pc_scope.specs.Reach.{completes_all, is_empty}
use Rattle.pc_scope.specs.Bindings.{texts}
use Rattle.pc_types.specs.Tree.{NoneType, Tree}
use Rattle.pc_types.specs.WellFormed.{IsWellFormed}
use Rattle.pc_flow.specs.Environment.{Env, join_ways}
use Rattle.pc_rules.specs.Operations.{clean}
use Rattle.pc_rules.specs.Labels.{FlowLabels, whole_label}
use Rattle.pc_module_rules.specs.StatementLabels.{Behind, Following, BehindRule, OptionLabels, StmtLabels, SuiteLabels}
use Rattle.pc_module_rules.specs.StatementLabels.{behind_list, breaks_in, breaks_in_suite}
use Rattle.pc_module_rules.specs.Statements.{LawfulOption, LawfulReturn, LawfulStmt, LawfulSuite, NamesBound}
use Rattle.pc_module_rules.specs.Statements.{AreUndeclared}
use Rattle.pc_module_rules.specs.Laws.Labellings.{Agree, IsDeclaredTable, OutGoesByNames, Surroundings, GoesByNames}
use Rattle.pc_module_rules.specs.Laws.Labellings.{AllGoByNames}
use Rattle.pc_module_rules.specs.Laws.Labellings.{StmtLabelled, SuiteLabelled, any_way}
use Rattle.pc_module_rules.proofs.BoundNames.{Within, within_right}
use Rattle.pc_module_rules.proofs.Tables.{all_both, all_on, same_on, same_self}
use Rattle.pc_module_rules.proofs.LabelledExpressions.{expr_labelled, flows_labelled}
use Rattle.pc_module_rules.proofs.LabelledBindings.{binding_labelled}
use Rattle.pc_module_rules.proofs.LabelledTargets.{attribute_labelled, index_labelled, undeclared_labelled}

module _ (around : Surroundings) where
  open around use {whole as m, context as ctx, context_well_formed as ck, count, locals as names}

  module _ (returned : Tree) (kr : IsWellFormed ctx.bases returned) where
    -- a `return` has labels of its value and their flow
    pub record ReturnLabelled (ds : List Tree) (seen : NamesBound) (env : Env) (e : Option Expr) : Type 0 where
      pub labels : OptionLabels e
      pub flows : FlowLabels
      pub lawful : (F : List Tree) → IsDeclaredTable around F → Agree ctx ds F seen
          → LawfulReturn m ctx F returned env e labels flows

    pub return_labelled : (ds : List Tree) (seen : NamesBound) (env : Env) → IsDeclaredTable around ds
        → GoesByNames around ds seen env → (e : Option Expr) → ReturnLabelled ds seen env e
    return_labelled ds seen env g h None =
        let fl = flows_labelled ctx.bases (clean NoneType) (returned ∷ []) ck.smaller (tt, tt, omega arith) (kr, tt) in
        record { labels = tt; flows = fl.flows; lawful = λ F gF s. fl.lawful }
    return_labelled ds seen env g h (Some e) =
        let v = expr_labelled around ds seen env (Some returned) e g h kr in
        let fl = flows_labelled ctx.bases (whole_label e v.labels) (returned ∷ []) ck.smaller v.well_formed (kr, tt) in
        record { labels = v.labels; flows = fl.flows; lawful = λ F gF s. (v.lawful F gF s, fl.lawful) }

    -- an expression that may be left out has labels
    pub record OptionLabelled (ds : List Tree) (seen : NamesBound) (env : Env) (e : Option Expr) : Type 0 where
      pub labels : OptionLabels e
      pub lawful : (F : List Tree) → IsDeclaredTable around F → Agree ctx ds F seen
          → LawfulOption m ctx F returned env e labels

    pub option_labelled : (ds : List Tree) (seen : NamesBound) (env : Env) → IsDeclaredTable around ds
        → GoesByNames around ds seen env → (e : Option Expr) → OptionLabelled ds seen env e
    option_labelled ds seen env g h None = record { labels = tt; lawful = λ F gF s. tt }
    option_labelled ds seen env g h (Some e) = let v = expr_labelled around ds seen env None e g h tt in
        record { labels = v.labels; lawful = v.lawful }

    pub any_both : (a b : List Env) → any_way (a ++ b) ≡ (any_way a || any_way b)
    any_both [] b = refl
    any_both (e ∷ a) b = refl

    pub any_option : (out : Option Env) → any_way (option_to_list out) ≡ is_some out
    any_option None = refl
    any_option (Some e) = refl

    pub any_join : (ds : List Tree) (es : List Env) → is_some (join_ways ctx.bases ds es) ≡ any_way es
    any_join ds [] = refl
    any_join ds (e ∷ es) = refl

    or_true : (x : Test) → (x || true) ≡ true
    or_true true = refl
    or_true false = refl

    pub empty_reaches : (b : Stmts) (x : Test) → (x || completes_all b) ≡ (is_empty b || (x || completes_all b))
    empty_reaches no_stmts x = or_true x
    empty_reaches (more_stmts s rest) x = refl

    -- a statement, and what stands after it
    pub record BehindLabelled (b : Test) (ds : List Tree) (seen : NamesBound) (env : Env) (s : Stmt)
        (rest : Stmts) : Type 0 where
      pub table : List Tree
      pub is_table : IsDeclaredTable around table
      pub same : Agree ctx ds table seen
      pub labels : record { first : StmtLabels s; behind : Behind b (Following (SuiteLabels rest)) }
      pub out : Option Env
      pub ends : OutGoesByNames around table (texts (bound_by rest) ++ (texts (bound_by_stmt s) ++ seen)) out
      pub at_breaks : AllGoByNames around table (texts (bound_by rest) ++ (texts (bound_by_stmt s) ++ seen))
          (breaks_in s labels.first ++ behind_list b labels.behind (λ r. breaks_in_suite rest r.rest))
      pub reaches : is_some out ≡ (b && completes_all rest)
      pub lawful : (F : List Tree) → IsDeclaredTable around F → Agree ctx table F
          (texts (bound_by rest) ++ (texts (bound_by_stmt s) ++ seen))
          → BehindRule b labels.behind (λ r. LawfulStmt m ctx F returned seen env s labels.first (Some r.env)
          × LawfulSuite m ctx F returned (texts (bound_by_stmt s) ++ seen) r.env rest r.rest out)
          (LawfulStmt m ctx F returned seen env s labels.first None
          × AreUndeclared m ctx F (texts (bound_by_stmt s) ++ seen) (bound_by rest) × (out ≡ None))

    pub behind_labelled : (b : Test) (ds : List Tree) (seen : NamesBound) (env : Env) (s : Stmt) (rest : Stmts)
        (t : List Tree) → IsDeclaredTable around t → Agree ctx ds t seen → (mk : StmtLabels s) (mid : Option Env)
        → OutGoesByNames around t (texts (bound_by_stmt s) ++ seen) mid
        → AllGoByNames around t (texts (bound_by_stmt s) ++ seen) (breaks_in s mk) → is_some mid ≡ b
        → ((F : List Tree) → IsDeclaredTable around F → Agree ctx t F (texts (bound_by_stmt s) ++ seen)
        → LawfulStmt m ctx F returned seen env s mk mid) → ((e : Env)
        → GoesByNames around t (texts (bound_by_stmt s) ++ seen) e
        → SuiteLabelled around returned t (texts (bound_by_stmt s) ++ seen) e rest)
        → BehindLabelled b ds seen env s rest
    behind_labelled true ds seen env s rest t g same mk (Some mid) ends at_breaks e lawful next =
        let nx = next mid ends in
        let w : Within (texts (bound_by_stmt s) ++ seen) (texts (bound_by rest) ++ (texts (bound_by_stmt s) ++ seen)) =
        within_right (texts (bound_by rest)) (texts (bound_by_stmt s) ++ seen) in
        record {
          table = nx.table;
          is_table = nx.is_table;
          same = same_on around ds t nx.table seen (texts (bound_by_stmt s) ++ seen)
              (within_right (texts (bound_by_stmt s)) seen) same nx.same;
          labels = record { first = mk; behind = record { env = mid; rest = nx.labels } };
          out = nx.out;
          ends = nx.ends;
          at_breaks = all_both around nx.table (texts (bound_by rest) ++ (texts (bound_by_stmt s) ++ seen))
              (breaks_in s mk) (breaks_in_suite rest nx.labels) (all_on around t nx.table
              (texts (bound_by_stmt s) ++ seen) (texts (bound_by rest) ++ (texts (bound_by_stmt s) ++ seen))
              (breaks_in s mk) w nx.is_table nx.same at_breaks) nx.at_breaks;
          reaches = nx.reaches;
          lawful = λ F gF s'. (
            lawful F gF (same_on around t nx.table F (texts (bound_by_stmt s) ++ seen)
                (texts (bound_by rest) ++ (texts (bound_by_stmt s) ++ seen)) w nx.same s'),
            nx.lawful F gF s',
          );
        }
    behind_labelled false ds seen env s rest t g same mk None ends at_breaks e lawful next =
        let u = undeclared_labelled around t (texts (bound_by_stmt s) ++ seen) g (bound_by rest) in
        let w : Within (texts (bound_by_stmt s) ++ seen) (texts (bound_by rest) ++ (texts (bound_by_stmt s) ++ seen)) =
        within_right (texts (bound_by rest)) (texts (bound_by_stmt s) ++ seen) in
        record {
          table = u.table;
          is_table = u.is_table;
          same = same_on around ds t u.table seen (texts (bound_by_stmt s) ++ seen)
              (within_right (texts (bound_by_stmt s)) seen) same u.same;
          labels = record { first = mk; behind = tt };
          out = None;
          ends = tt;
          at_breaks = all_both around u.table (texts (bound_by rest) ++ (texts (bound_by_stmt s) ++ seen))
              (breaks_in s mk) [] (all_on around t u.table (texts (bound_by_stmt s) ++ seen)
              (texts (bound_by rest) ++ (texts (bound_by_stmt s) ++ seen)) (breaks_in s mk) w u.is_table u.same at_breaks)
              tt;
          reaches = refl;
          lawful = λ F gF s'. (
            lawful F gF (same_on around t u.table F (texts (bound_by_stmt s) ++ seen)
                (texts (bound_by rest) ++ (texts (bound_by_stmt s) ++ seen)) w u.same s'),
            u.lawful F s',
            refl,
          );
        }
    behind_labelled true ds seen env s rest t g same mk None ends at_breaks e lawful next = absurd (grind (arith, e))
    behind_labelled false ds seen env s rest t g same mk (Some mid) ends at_breaks e lawful next =
        absurd (grind (arith, e))

    pub assignment_labelled : (ds : List Tree) (seen : NamesBound) (env : Env) → IsDeclaredTable around ds
        → GoesByNames around ds seen env → (p : Place) (t : Target) (e : Expr)
        → StmtLabelled around returned ds seen env (assigns p t e)
    assignment_labelled ds seen env g h p (to_name n) e =
        let b = binding_labelled around ds seen env g h n (ctx.resolve n.text) refl None tt e in
        record {
          table = b.table;
          is_table = b.is_table;
          same = b.same;
          labels = record { value = b.labels; target = tt; flows = b.flows };
          out = Some b.after;
          ends = b.by_names;
          at_breaks = tt;
          reaches = refl;
          lawful = λ F gF s. record { after = b.after; assignment = b.lawful F gF s; is = refl };
        }
    assignment_labelled ds seen env g h p (to_attribute q x f) e =
        let b = attribute_labelled around ds seen env g h q x f e in
        record {
          table = ds;
          is_table = g;
          same = same_self around ds seen;
          labels = record { value = b.labels; target = b.target; flows = b.flows };
          out = Some env;
          ends = h;
          at_breaks = tt;
          reaches = refl;
          lawful = λ F gF s. record { after = env; assignment = (b.lawful F gF s, refl); is = refl };
        }
    assignment_labelled ds seen env g h p (to_index q x i) e =
        let b = index_labelled around ds seen env g h q x i e in
        record {
          table = ds;
          is_table = g;
          same = same_self around ds seen;
          labels = record { value = b.labels; target = b.target; flows = b.flows };
          out = Some env;
          ends = h;
          at_breaks = tt;
          reaches = refl;
          lawful = λ F gF s. record { after = env; assignment = (b.lawful F gF s, refl); is = refl };
        }
