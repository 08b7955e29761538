-- Statements lead to the environments of their exits, if their parts do.
use Rattle.std.proofs.Common.{◌≡◌, List, [], ◌++◌, refl, sym, subst, inl, inr, Contains}
use Rattle.std.specs.Prelude.{◌⊎◌, Bool as Test, true, false, Option, Some, None}
use Rattle.std.proofs.lemmas.List.Elements.{Contains-append_left, Contains-append_right}
use Rattle.std.proofs.lemmas.Option.{none-some, same_Some}
use Rattle.pc_source.specs.declared.place.Place.{Place}
use Rattle.pc_tree.specs.Tree.{Name, Stmt, Stmts, no_stmts, more_stmts, Module}
use Rattle.pc_tree.specs.Stopping.{bound_by_stmt, bound_by, loose_in_stmt, loose_in}
use Rattle.pc_scope.specs.Bindings.{texts}
use Rattle.pc_scope.specs.Reach.{completes}
use Rattle.pc_types.specs.Tree.{Tree}
use Rattle.pc_flow.specs.Environment.{Env}
use Rattle.pc_rules.specs.Context.{Context}
use Rattle.pc_module_rules.specs.StatementLabels.{StmtLabels, SuiteLabels, Behind, Following, BehindRule, behind_list}
use Rattle.pc_module_rules.specs.StatementLabels.{breaks_in, breaks_in_suite}
use Rattle.pc_module_rules.specs.Statements.{NamesBound, AreUndeclared, LawfulStmt, LawfulSuite, StmtFinds, SuiteFinds}
use Rattle.pc_value.specs.Value.{Gives}
use Rattle.pc_machine.specs.State.{State, Frame}
use Rattle.pc_machine.specs.Steps.{Parts, StatementEnd, next, breaking, continuing, leaves}
use Rattle.pc_machine.specs.Free.{Step, free}
use Rattle.pc_machine.specs.Evaluation.{exec_node, exec_all, then_follows}
use Rattle.pc_sound.specs.Values.{HeapTyping, HasType}
use Rattle.pc_sound.proofs.Steps.Judgment.{Around, IsWellTyped, Leads, IsWellTypedAnd, Ways, FlowEnds, Lasts}
use Rattle.pc_sound.proofs.Expressions.SimpleExpressions.{Covered}
use Rattle.pc_sound.proofs.Steps.LeadingSteps.{leads_bind, leads_comes, leads_charge, leads_from, leads_to}
use Rattle.pc_sound.proofs.Regular.KeyedLabels.{StmtKeyed, SuiteKeyed}

module _ (around : Around) (ctx : Context) where
  -- a step leads from an environment to the ways out, and what lasts when these names are bound lasts
  abbrev pub Runs : Env → Ways → List Name → Step StatementEnd → Type 1
  Runs env ways names m = (more : HeapTyping → Frame → Type 0) → Lasts around ctx names more
      → Leads around (λ k s. IsWellTypedAnd around env more k s) m (λ k flow s. FlowEnds around ways k flow s
      × more k s.frame)

  pub lasts_left : {more : HeapTyping → Frame → Type 0} (xs ys : List Name) → Lasts around ctx (xs ++ ys) more
      → Lasts around ctx xs more
  lasts_left xs ys h = record {
    local = λ n c. h.local n (Contains-append_left xs ys n c);
    grow = h.grow;
    bind = λ n x v k frame c. h.bind n x v k frame (Contains-append_left xs ys n c);
  }

  pub lasts_right : {more : HeapTyping → Frame → Type 0} (xs ys : List Name) → Lasts around ctx (xs ++ ys) more
      → Lasts around ctx ys more
  lasts_right xs ys h = record {
    local = λ n c. h.local n (Contains-append_right xs ys n c);
    grow = h.grow;
    bind = λ n x v k frame c. h.bind n x v k frame (Contains-append_right xs ys n c);
  }

  -- of a state that stands no local need be known
  pub stands_bare : (env : Env) (k : HeapTyping) (s : State) → IsWellTyped around env k s → IsWellTyped around [] k s
  stands_bare env k s st = record {
    well = st.well;
    frame = st.frame;
    locals =
        record { each = λ word x t named e. absurd (none-some t e) };
    outside = st.outside;
  }

  -- the ways out of suites and of one more: where each way is one of the wider ones
  pub flow_wider : (k : HeapTyping) (s : State) (ways wider : Ways) → ways.returned ≡ wider.returned
      → ((env : Env) → ways.out env → wider.out env) → ((env : Env) → ways.breaks env → wider.breaks env)
      → ((p : Place) → ways.loose p → wider.loose p) → (flow : StatementEnd) → FlowEnds around ways k flow s
      → FlowEnds around wider k flow s
  flow_wider k s ways wider e out br loose next h = record { env = h.env; is = out h.env h.is; stands = h.stands }
  flow_wider k s ways wider e out br loose breaking h = (
    record { env = h.0.env; is = br h.0.env h.0.is; stands = h.0.stands },
    record { place = h.1.place; is = loose h.1.place h.1.is },
  )
  flow_wider k s ways wider e out br loose continuing h =
      (h.0, record { place = h.1.place; is = loose h.1.place h.1.is })
  flow_wider k s ways wider e out br loose (leaves v) h = subst (λ t. HasType around.bases k t v) e h

  module _ (m : Module) (returned : Tree) where
    -- the ways out of a statement and of a suite
    abbrev pub ways_out : Option Env → List Env → List Place → Ways
    ways_out out brs loose = record {
      out = λ env. out ≡ Some env;
      breaks = λ env. Contains brs env;
      loose =
          λ p. Contains loose p;
      returned = returned;
    }

    -- suites run as they are labelled
    pub record GoodExec (exec : Stmts → Step StatementEnd) : Type 1 where
      pub runs : (seen : NamesBound) (env : Env) (b : Stmts) (labels : SuiteLabels b) (out : Option Env)
          → LawfulSuite m ctx around.declared returned seen env b labels out
          → Covered around (SuiteFinds m ctx seen b labels) → SuiteKeyed b labels
          → Runs env (ways_out out (breaks_in_suite b labels) (loose_in b)) (bound_by b) (exec b)

    -- a statement runs as it is labelled
    pub record GoodStmt (s : Stmt) (step : Step StatementEnd) : Type 1 where
      pub runs : (seen : NamesBound) (env : Env) (labels : StmtLabels s) (out : Option Env)
          → LawfulStmt m ctx around.declared returned seen env s labels out
          → Covered around (StmtFinds m ctx seen s labels) → StmtKeyed s labels
          → Runs env (ways_out out (breaks_in s labels) (loose_in_stmt s)) (bound_by_stmt s) step

    -- ---- suites

    module _ (parts : Parts Step) (node : (s : Stmt) → GoodStmt s (exec_node Step free parts s)) where
      -- after a statement that leaves the suite nothing runs
      behind_left : (brs more_breaks : List Env) (loose more_loose : List Place) (out : Option Env)
          (rest : Step StatementEnd) (more : HeapTyping → Frame → Type 0) (flow : StatementEnd)
          → Leads around (λ k s. FlowEnds around (ways_out None brs loose) k flow s × more k s.frame)
          (then_follows Step free flow rest) (λ k f s. FlowEnds around
          (ways_out out (brs ++ more_breaks) (loose ++ more_loose)) k f s × more k s.frame)
      behind_left brs more_breaks loose more_loose out rest more next =
          record { run = λ k s s' events o well b r. absurd (none-some _ b.0.is) }
      behind_left brs more_breaks loose more_loose out rest more breaking = leads_comes around _ (Gives breaking) _
          λ k s b. (
            (
              record {
                env = b.0.0.env;
                is = Contains-append_left brs more_breaks b.0.0.env b.0.0.is;
                stands =
                    b.0.0.stands;
              },
              record {
                place = b.0.1.place;
                is = Contains-append_left loose more_loose b.0.1.place b.0.1.is;
              },
            ),
            b.1,
          )
      behind_left brs more_breaks loose more_loose out rest more continuing = leads_comes around _ (Gives continuing) _
          λ k s b. (
            (b.0.0, record { place = b.0.1.place; is = Contains-append_left loose more_loose b.0.1.place b.0.1.is }),
            b.1,
          )
      behind_left brs more_breaks loose more_loose out rest more (leaves v) = leads_comes around _ (Gives (leaves v)) _
          λ k s b. b

      -- after one that can complete the rest does
      behind_next : (env : Env) (brs more_breaks : List Env) (loose more_loose : List Place) (out : Option Env)
          (names : List Name) (rest : Step StatementEnd) → Runs env (ways_out out more_breaks more_loose) names rest
          → (more : HeapTyping → Frame → Type 0) → Lasts around ctx names more → (flow : StatementEnd)
          → Leads around (λ k s. FlowEnds around (ways_out (Some env) brs loose) k flow s × more k s.frame)
          (then_follows Step free flow rest) (λ k f s. FlowEnds around
          (ways_out out (brs ++ more_breaks) (loose ++ more_loose)) k f s × more k s.frame)
      behind_next env brs more_breaks loose more_loose out names rest runs more lasts next =
          leads_from around _ (λ k s. IsWellTypedAnd around env more k s) rest _
          (λ k s b. record {
            stands = subst (λ e. IsWellTyped around e k s) (sym (same_Some _ _ b.0.is)) b.0.stands;
            known = b.1;
          })
          (leads_to around _ rest (λ k f s. FlowEnds around (ways_out out more_breaks more_loose) k f s
          × more k s.frame) _ (λ k f s h. (
            flow_wider k s (ways_out out more_breaks more_loose)
                (ways_out out (brs ++ more_breaks) (loose ++ more_loose)) refl (λ e i. i)
                (λ e i. Contains-append_right brs more_breaks e i) (λ p i. Contains-append_right loose more_loose p i) f
                h.0,
            h.1,
          ))
          (runs more lasts))
      behind_next env brs more_breaks loose more_loose out names rest runs more lasts breaking =
          leads_comes around _ (Gives breaking) _ λ k s b. (
            (
              record {
                env = b.0.0.env;
                is = Contains-append_left brs more_breaks b.0.0.env b.0.0.is;
                stands =
                    b.0.0.stands;
              },
              record {
                place = b.0.1.place;
                is = Contains-append_left loose more_loose b.0.1.place b.0.1.is;
              },
            ),
            b.1,
          )
      behind_next env brs more_breaks loose more_loose out names rest runs more lasts continuing =
          leads_comes around _ (Gives continuing) _ λ k s b. (
            (b.0.0, record { place = b.0.1.place; is = Contains-append_left loose more_loose b.0.1.place b.0.1.is }),
            b.1,
          )
      behind_next env brs more_breaks loose more_loose out names rest runs more lasts (leaves v) =
          leads_comes around _ (Gives (leaves v)) _ λ k s b. b

      -- a statement and those after it
      one_more : (seen : NamesBound) (env : Env) (s : Stmt) (rest : Stmts) (labels : StmtLabels s) (out : Option Env)
          (can : Test) (behind : Behind can (Following (SuiteLabels rest)))
          → BehindRule can behind (λ r. LawfulStmt m ctx around.declared returned seen env s labels (Some r.env)
          × LawfulSuite m ctx around.declared returned (texts (bound_by_stmt s) ++ seen) r.env rest r.rest out)
          (LawfulStmt m ctx around.declared returned seen env s labels None × (out ≡ None))
          → Covered around (λ f. StmtFinds m ctx seen s labels f ⊎ BehindRule can behind
          (λ r. SuiteFinds m ctx (texts (bound_by_stmt s) ++ seen) rest r.rest f) ⊥)
          → StmtKeyed s labels × BehindRule can behind (λ r. SuiteKeyed rest r.rest) (Unit {0})
          → ((r : Following (SuiteLabels rest)) → LawfulSuite m ctx around.declared returned
          (texts (bound_by_stmt s) ++ seen) r.env rest r.rest out
          → Covered around (SuiteFinds m ctx (texts (bound_by_stmt s) ++ seen) rest r.rest) → SuiteKeyed rest r.rest
          → Runs r.env (ways_out out (breaks_in_suite rest r.rest) (loose_in rest)) (bound_by rest)
          (exec_all Step free parts rest))
          → Runs env (ways_out out (breaks_in s labels ++ behind_list can behind (λ r. breaks_in_suite rest r.rest))
          (loose_in_stmt s ++ loose_in rest)) (bound_by_stmt s ++ bound_by rest)
          (exec_all Step free parts (more_stmts s rest))
      one_more seen env s rest labels out true behind law covered keyed others more lasts =
          leads_bind around _ _ _ (λ k u st. IsWellTypedAnd around env more k st) _ (leads_charge around _)
          λ u. leads_bind around _ _ _ (λ k flow st. FlowEnds around
          (ways_out (Some behind.env) (breaks_in s labels) (loose_in_stmt s)) k flow st × more k st.frame) _
          ((node s).runs seen env labels (Some behind.env) law.0 (λ f h. covered f (inl h)) keyed.0 more
          (lasts_left (bound_by_stmt s) (bound_by rest) lasts))
          λ flow. behind_next behind.env (breaks_in s labels) (breaks_in_suite rest behind.rest) (loose_in_stmt s)
          (loose_in rest) out (bound_by rest) (exec_all Step free parts rest)
          (others behind law.1 (λ f h. covered f (inr h)) keyed.1) more
          (lasts_right (bound_by_stmt s) (bound_by rest) lasts) flow
      one_more seen env s rest labels out false behind law covered keyed others more lasts =
          leads_bind around _ _ _ (λ k u st. IsWellTypedAnd around env more k st) _ (leads_charge around _)
          λ u. leads_bind around _ _ _ (λ k flow st. FlowEnds around
          (ways_out None (breaks_in s labels) (loose_in_stmt s)) k flow st × more k st.frame) _
          ((node s).runs seen env labels None law.0 (λ f h. covered f (inl h)) keyed.0 more
          (lasts_left (bound_by_stmt s) (bound_by rest) lasts))
          λ flow. behind_left (breaks_in s labels) [] (loose_in_stmt s) (loose_in rest) out
          (exec_all Step free parts rest) more flow

      -- statements, one after another
      pub suite_runs : (seen : NamesBound) (env : Env) (b : Stmts) (labels : SuiteLabels b) (out : Option Env)
          → LawfulSuite m ctx around.declared returned seen env b labels out
          → Covered around (SuiteFinds m ctx seen b labels) → SuiteKeyed b labels
          → Runs env (ways_out out (breaks_in_suite b labels) (loose_in b)) (bound_by b) (exec_all Step free parts b)
      suite_runs seen env no_stmts labels out law covered keyed more lasts = leads_comes around _ (Gives next) _
          λ k s at. (record { env = env; is = law; stands = at.stands }, at.known)
      suite_runs seen env (more_stmts s rest) labels out law covered keyed more lasts =
          one_more seen env s rest labels.first out (completes s) labels.behind (settle (completes s) labels.behind law)
          covered keyed (λ r l c q. suite_runs (texts (bound_by_stmt s) ++ seen) r.env rest r.rest out l c q) more
          lasts
        where
          settle : (can : Test) (behind : Behind can (Following (SuiteLabels rest)))
              → BehindRule can behind (λ r. LawfulStmt m ctx around.declared returned seen env s labels.first
              (Some r.env) × LawfulSuite m ctx around.declared returned (texts (bound_by_stmt s) ++ seen) r.env rest
              r.rest out) (LawfulStmt m ctx around.declared returned seen env s labels.first None
              × AreUndeclared m ctx around.declared (texts (bound_by_stmt s) ++ seen) (bound_by rest) × (out ≡ None))
              → BehindRule can behind (λ r. LawfulStmt m ctx around.declared returned seen env s labels.first
              (Some r.env) × LawfulSuite m ctx around.declared returned (texts (bound_by_stmt s) ++ seen) r.env rest
              r.rest out) (LawfulStmt m ctx around.declared returned seen env s labels.first None × (out ≡ None))
          settle true behind l = l
          settle false behind l = (l.0, l.2)
