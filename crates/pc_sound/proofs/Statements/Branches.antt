-- `if`, `elif`, `else`: whichever branch runs, the environment where the paths join holds.
use Rattle.std.proofs.Common.{◌≡◌, List, [], ◌∷◌, ◌++◌, refl, sym, ◌∙◌, subst, inl, inr, arith, Contains}
use Rattle.std.specs.Prelude.{true, false, Option, Some, option_to_list}
use Rattle.std.proofs.lemmas.List.Elements.{Contains-append_left, Contains-append_right}
use Rattle.pc_source.specs.declared.place.Place.{Place}
use Rattle.pc_tree.specs.Tree.{conditional, Stmts, Branches, no_branches, more_branches, Module}
use Rattle.pc_tree.specs.Stopping.{bound_by, bound_by_branches, loose_in, loose_in_branches}
use Rattle.pc_scope.specs.Bindings.{texts}
use Rattle.pc_types.specs.Tree.{Tree}
use Rattle.pc_flow.specs.Environment.{Env, join_ways}
use Rattle.pc_flow.specs.Narrowing.{narrow}
use Rattle.pc_rules.specs.Context.{Context}
use Rattle.pc_module_rules.specs.StatementLabels.{StmtLabels, SuiteLabels, BranchesLabels, breaks_in, breaks_in_suite}
use Rattle.pc_module_rules.specs.StatementLabels.{breaks_in_branches, ways_in}
use Rattle.pc_module_rules.specs.Statements.{NamesBound, LawfulStmt, LawfulSuite, LawfulBranches, StmtFinds, SuiteFinds}
use Rattle.pc_module_rules.specs.Statements.{BranchesFind}
use Rattle.pc_machine.specs.State.{State, Frame}
use Rattle.pc_machine.specs.Steps.{Parts, StatementEnd, next, breaking, continuing, leaves}
use Rattle.pc_machine.specs.Free.{Step, free}
use Rattle.pc_machine.specs.Evaluation.{exec_node, exec_branches}
use Rattle.pc_sound.specs.Values.{HeapTyping}
use Rattle.pc_sound.proofs.Steps.BoundLocals.{HasLocals}
use Rattle.pc_sound.proofs.Steps.Judgment.{Around, IsWellTyped, IsContextOf, Leads, IsWellTypedAnd, Ways, Reaches}
use Rattle.pc_sound.proofs.Steps.Judgment.{FlowEnds, Lasts}
use Rattle.pc_tree.proofs.Among.{among_first, none_among}
use Rattle.pc_sound.proofs.Expressions.SimpleExpressions.{Covered}
use Rattle.pc_sound.proofs.Regular.KeyedLabels.{StmtKeyed, SuiteKeyed, BranchesKeyed}
use Rattle.pc_sound.proofs.Expressions.Conditions.{Decides}
use Rattle.pc_sound.proofs.Steps.JoinedLocals.{SomeHolds, ways_hold}
use Rattle.pc_sound.proofs.Steps.LeadingSteps.{leads_from, leads_to}
use Rattle.pc_sound.proofs.Statements.WaysOut.{Runs, lasts_left, lasts_right, flow_wider, ways_out, GoodExec, GoodStmt}
use Rattle.pc_sound.proofs.Statements.SimpleStatements.{decided}

-- the environment of a way that can complete is among them
pub option_among : (out : Option Env) (env : Env) → out ≡ Some env → Contains (option_to_list out) env
option_among out env e = subst (λ o. Contains (option_to_list o) env) (sym e) (0, omega arith, refl)

module _ (around : Around) (ctx : Context) (fits : IsContextOf around ctx) where
  -- one of the environments holds
  pub some_holds : (k : HeapTyping) (s : State) (ways : List Env) (env : Env) → Contains ways env
      → HasLocals around.bases k around.names around.declared env s.frame
      → SomeHolds around.bases fits.smaller k around.names around.declared s.frame ways
  some_holds k s [] env among h = absurd (none_among env among)
  some_holds k s (e ∷ es) env among h = elim (among_first e es env among) [
    | inl is ↦ inl (subst (λ x. HasLocals around.bases k around.names around.declared x s.frame) (sym is) h)
    | inr others ↦ inr (some_holds k s es env others h)
  ]

  -- other locals are known of a state that stands
  pub stands_with : (env other : Env) (k : HeapTyping) (s : State) → IsWellTyped around env k s
      → HasLocals around.bases k around.names around.declared other s.frame → IsWellTyped around other k s
  stands_with env other k s st locals = record {
    well = st.well;
    frame = st.frame;
    locals = locals;
    outside =
        st.outside;
  }

  -- after ways that can complete their join holds
  joined_reached : (k : HeapTyping) (s : State) (ways : List Env) (out : Option Env)
      → out ≡ join_ways ctx.bases around.declared ways → Reaches around (λ e. Contains ways e) k s
      → Reaches around (λ e. out ≡ Some e) k s
  joined_reached k s ways out is h =
      let j = ways_hold around.bases fits.smaller k around.names around.declared s.frame ways
      (some_holds k s ways h.env h.is h.stands.locals) in
      record {
        env = j.env;
        is = is ∙ subst (λ b. join_ways b around.declared ways ≡ Some j.env) fits.bases j.is;
        stands = stands_with h.env j.env k s h.stands j.holds;
      }

  module _ (m : Module) (returned : Tree) (parts : Parts Step) (decides : Decides around ctx parts.eval)
      (exec : GoodExec around ctx m returned parts.exec) where
    -- the first branch whose condition is true, else the suite of `else`
    branches_run : (seen : NamesBound) (env : Env) (bs : Branches) (labels : BranchesLabels bs) (last : Env)
        (after : NamesBound) (o : Stmts) (else_labels : SuiteLabels o) (out : Option Env)
        → LawfulBranches m ctx around.declared returned seen env bs labels last
        → LawfulSuite m ctx around.declared returned after last o else_labels out
        → Covered around (BranchesFind m ctx seen bs labels) → Covered around (SuiteFinds m ctx after o else_labels)
        → BranchesKeyed bs labels → SuiteKeyed o else_labels
        → (wider : Ways) → returned ≡ wider.returned
        → ((e : Env) → Contains (ways_in bs labels) e → wider.out e) → ((e : Env) → out ≡ Some e → wider.out e)
        → ((e : Env) → Contains (breaks_in_branches bs labels) e → wider.breaks e)
        → ((e : Env) → Contains (breaks_in_suite o else_labels) e → wider.breaks e)
        → ((p : Place) → Contains (loose_in_branches bs) p → wider.loose p)
        → ((p : Place) → Contains (loose_in o) p → wider.loose p)
        → (more : HeapTyping → Frame → Type 0) → Lasts around ctx (bound_by_branches bs) more
        → Lasts around ctx (bound_by o) more
        → Leads around (λ k s. IsWellTypedAnd around env more k s) (exec_branches Step free parts bs o)
        (λ k flow s. FlowEnds around wider k flow s × more k s.frame)
    branches_run seen env no_branches labels last after o else_labels out law else_law covered else_covered keyed
        else_keyed wider e w1 w2 b1 b2 l1 l2 more lasts else_lasts =
        leads_from around _ (λ k s. IsWellTypedAnd around last more k s) _ _
        (λ k s at. record { stands = subst (λ x. IsWellTyped around x k s) (sym law) at.stands; known = at.known })
        (leads_to around _ _ (λ k flow s. FlowEnds around (ways_out around ctx m returned out
        (breaks_in_suite o else_labels) (loose_in o)) k flow s × more k s.frame) _
        (λ k flow s h. (
          flow_wider around ctx k s (ways_out around ctx m returned out
              (breaks_in_suite o else_labels) (loose_in o)) wider e w2 b2 l2 flow h.0,
          h.1,
        ))
        (exec.runs after last o else_labels out else_law else_covered else_keyed more else_lasts))
    branches_run seen env (more_branches c b rest) labels last after o else_labels out law else_law covered else_covered
        keyed else_keyed wider e w1 w2 b1 b2 l1 l2 more lasts else_lasts =
        decided around ctx fits parts.eval decides more lasts.grow env c labels.condition _ _ _ law.condition
        (λ f h. covered f (inl h)) keyed.0
        (leads_to around _ _ (λ k flow s. FlowEnds around (ways_out around ctx m returned labels.out
        (breaks_in_suite b labels.body) (loose_in b)) k flow s × more k s.frame) _
        (λ k flow s h. (
          flow_wider around ctx k s (ways_out around ctx m returned labels.out (breaks_in_suite b labels.body)
              (loose_in b)) wider e
              (λ x i. w1 x (Contains-append_left (option_to_list labels.out) (ways_in rest labels.rest) x
              (option_among labels.out x i)))
              (λ x i. b1 x (Contains-append_left (breaks_in_suite b labels.body) (breaks_in_branches rest labels.rest) x
              i))
              (λ p i. l1 p (Contains-append_left (loose_in b) (loose_in_branches rest) p i)) flow h.0,
          h.1,
        ))
        (exec.runs seen (narrow ctx.bases around.declared ctx.resolve true c env) b labels.body labels.out law.body
        (λ f h. covered f (inr (inl h))) keyed.1.0 more (lasts_left around ctx (bound_by b) (bound_by_branches rest)
        lasts)))
        (branches_run (texts (bound_by b) ++ seen) (narrow ctx.bases around.declared ctx.resolve false c env) rest
        labels.rest last after o else_labels out law.others else_law (λ f h. covered f (inr (inr h))) else_covered
        keyed.1.1 else_keyed wider e
        (λ x i. w1 x (Contains-append_right (option_to_list labels.out) (ways_in rest labels.rest) x i)) w2
        (λ x i. b1 x (Contains-append_right (breaks_in_suite b labels.body) (breaks_in_branches rest labels.rest) x i))
        b2
        (λ p i. l1 p (Contains-append_right (loose_in b) (loose_in_branches rest) p i)) l2 more
        (lasts_right around ctx (bound_by b) (bound_by_branches rest) lasts) else_lasts)

    pub conditional_runs : (p : Place) (bs : Branches) (o : Stmts) → GoodStmt around ctx m returned (conditional p bs o)
        (exec_node Step free parts (conditional p bs o))
    conditional_runs p bs o = record { runs = go }
      where
        go : (seen : NamesBound) (env : Env) (labels : StmtLabels (conditional p bs o)) (out : Option Env)
            → LawfulStmt m ctx around.declared returned seen env (conditional p bs o) labels out
            → Covered around (StmtFinds m ctx seen (conditional p bs o) labels) → StmtKeyed (conditional p bs o) labels
            → Runs around ctx env (ways_out around ctx m returned out (breaks_in (conditional p bs o) labels)
            (loose_in_branches bs ++ loose_in o)) (bound_by_branches bs ++ bound_by o)
            (exec_node Step free parts (conditional p bs o))
        go seen env labels out law covered keyed more lasts =
            let ways = ways_in bs labels.branches ++ option_to_list labels.out in
            let brs = breaks_in_branches bs labels.branches ++ breaks_in_suite o labels.otherwise in
            let loose = loose_in_branches bs ++ loose_in o in
            let wider : Ways = record {
              out = λ e. Contains ways e;
              breaks = λ e. Contains brs e;
              loose =
                  λ q. Contains loose q;
              returned = returned;
            } in
            leads_to around _ _ (λ k flow s. FlowEnds around wider k flow s × more k s.frame) _
            (λ k flow s h. (narrowed ways brs loose out law.after k s flow h.0, h.1))
            (branches_run seen env bs labels.branches labels.last (texts (bound_by_branches bs) ++ seen) o
            labels.otherwise labels.out law.branches law.otherwise (λ f h. covered f (inl h))
            (λ f h. covered f (inr h)) keyed.0 keyed.1 wider refl
            (λ x i. Contains-append_left (ways_in bs labels.branches) (option_to_list labels.out) x i)
            (λ x i. Contains-append_right (ways_in bs labels.branches) (option_to_list labels.out) x
            (option_among labels.out x i))
            (λ x i. Contains-append_left (breaks_in_branches bs labels.branches) (breaks_in_suite o labels.otherwise) x
            i) (λ x i. Contains-append_right (breaks_in_branches bs labels.branches)
            (breaks_in_suite o labels.otherwise) x i)
            (λ q i. Contains-append_left (loose_in_branches bs) (loose_in o) q i)
            (λ q i. Contains-append_right (loose_in_branches bs) (loose_in o) q i)
            more (lasts_left around ctx (bound_by_branches bs) (bound_by o) lasts)
            (lasts_right around ctx (bound_by_branches bs) (bound_by o) lasts))
          where
            narrowed : (ways brs : List Env) (loose : List Place) (out : Option Env)
                → out ≡ join_ways ctx.bases around.declared ways → (k : HeapTyping) (s : State) (flow : StatementEnd)
                → FlowEnds around (record {
                  out = λ e. Contains ways e;
                  breaks = λ e. Contains brs e;
                  loose =
                      λ q. Contains loose q;
                  returned = returned;
                }) k flow s
                → FlowEnds around (ways_out around ctx m returned out brs loose) k flow s
            narrowed ways brs loose out is k s next h = joined_reached k s ways out is h
            narrowed ways brs loose out is k s breaking h = h
            narrowed ways brs loose out is k s continuing h = h
            narrowed ways brs loose out is k s (leaves v) h = h
