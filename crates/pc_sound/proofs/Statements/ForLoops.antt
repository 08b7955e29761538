-- `for` loops: each turn binds the target to an item of the type in the head's labels.
use Rattle.std.proofs.Common.{◌≡◌, ℕ, suc, List, [], ◌∷◌, refl, sym, ap, ◌∙◌, subst, inl, inr, arith}
use Rattle.std.specs.Prelude.{Option, Some, None}
use Rattle.std.proofs.lemmas.List.Elements.{Contains-append_right}
use Rattle.pc_source.specs.declared.place.Place.{Place}
use Rattle.pc_tree.specs.declared.code.Code.{Code}
use Rattle.pc_tree.specs.Code.{finding}
use Rattle.pc_tree.specs.Tree.{Name, Expr, for_loop, Stmts, Module}
use Rattle.pc_tree.specs.Stopping.{bound_by, loose_in}
use Rattle.pc_tree.specs.Depth.{place_of}
use Rattle.pc_scope.specs.declared.resolution.NameMeaning.TheVariants as meaning
use Rattle.pc_types.specs.Tree.{Tree}
use Rattle.pc_types.specs.Below.{Bases}
use Rattle.pc_flow.specs.Environment.{Env, declared_type, assign, assigned_type, loop_head}
use Rattle.pc_rules.specs.Operations.{Label, FlowLabel, clean}
use Rattle.pc_rules.specs.Context.{Context, Flows, static, FlowsInto}
use Rattle.pc_rules.specs.Labels.{Labels, Finds, IsFoundAt, IsFlowAt}
use Rattle.pc_module_rules.specs.StatementLabels.{StmtLabels, SuiteLabels, breaks_in_suite}
use Rattle.pc_module_rules.specs.Statements.{NamesBound, only_code, binds_number, LawfulIterable, LawfulTarget}
use Rattle.pc_module_rules.specs.Statements.{LawfulStmt, LawfulSuite, StmtFinds, SuiteFinds}
use Rattle.pc_value.specs.Value.{Value, Gives}
use Rattle.pc_value.specs.Actions.{Iteration}
use Rattle.pc_value.specs.Actions as action
use Rattle.pc_machine.specs.State.{Frame}
use Rattle.pc_machine.specs.Steps.{Parts, StatementEnd, next, item_out}
use Rattle.pc_machine.specs.Free.{Step, free}
use Rattle.pc_machine.specs.Evaluation.{exec_node, for_turn, with_item, eval_iterable, iterable_form}
use Rattle.pc_sound.specs.Values.{HeapTyping, HasType}
use Rattle.pc_sound.proofs.Steps.BoundLocals.{HasLocals}
use Rattle.pc_sound.proofs.Steps.Judgment.{AreListedCodes, Around, IsSafe, IsContextOf, Leads, IsWellTypedAnd, FlowEnds}
use Rattle.pc_sound.proofs.Steps.Judgment.{Lasts}
use Rattle.pc_tree.proofs.Among.{first_among}
use Rattle.pc_sound.proofs.Lists.{not_empty}
use Rattle.pc_sound.proofs.Values.ValuesFlow.{of_static}
use Rattle.pc_sound.proofs.Expressions.SimpleExpressions.{Covered}
use Rattle.pc_sound.proofs.Values.Flows.{Evaluates}
use Rattle.pc_sound.proofs.Regular.KeyedLabels.{Keyed, StmtKeyed, SuiteKeyed}
use Rattle.pc_sound.proofs.Statements.LoopHeads.{into_head}
use Rattle.pc_sound.proofs.Steps.LeadingSteps.{ends_as, leads_bind, leads_comes, leads_binds, leads_act, leads_from}
use Rattle.pc_sound.proofs.Steps.LeadingSteps.{leads_to, leads_each, leads_safe}
use Rattle.pc_sound.proofs.Statements.LocalBinding.{one_flow, evaluated_safe, assigned_has}
use Rattle.pc_sound.proofs.Statements.WaysOut.{Runs, flow_wider, ways_out, GoodExec, GoodStmt}
use Rattle.pc_sound.proofs.Statements.SimpleStatements.{bound_local}
use Rattle.pc_sound.proofs.Statements.Branches.{stands_with}
use Rattle.pc_sound.proofs.Statements.LoopTurns.{AlsoKept, also_lasts, kept_still, loop_ways, left_at_head, body_runs}
use Rattle.pc_sound.proofs.Statements.LoopTurns.{turn_ends}
use Rattle.pc_sound.proofs.Statements.Iterations.{GoesOver, ItemHas, goes_over_later, turn_ends_well}

-- the code of a flow, as the codes of a place
abbrev pub codes_of : Option Code → List Code
codes_of None = []
codes_of (Some c) = c ∷ []

pub flow_allowed : (around : Around) (p : Place) (flow : FlowLabel) → Covered around (IsFlowAt p (flow ∷ []))
    → AreListedCodes around.listed p (codes_of flow.code)
flow_allowed around p flow covered = go flow.code refl
  where
    go : (c : Option Code) → flow.code ≡ c → AreListedCodes around.listed p (codes_of c)
    go None is = tt
    go (Some c) is =
        (covered (finding p c) (record {
          flow = flow;
          among = (0, omega arith, refl);
          code = c;
          found = is;
          is =
              refl;
        })).0

-- an item of the type that no code is found for is bound to the target
pub target_has : (bases : Bases) (t d : Tree) (c : Option Code) → Flows bases t d c → codes_of c ≡ []
    → (k : HeapTyping) (v : Value) → HasType bases k t v → HasType bases k (assigned_type d t c) v × HasType bases k d v
target_has bases t d None (static below) quiet k v h = let to = of_static bases k t d below v h in
    (assigned_has bases k d t v h to, to)
target_has bases t d (Some c) flow quiet k v h = absurd (not_empty quiet)

module _ (around : Around) (ctx : Context) (fits : IsContextOf around ctx) (m : Module) (returned : Tree) where
  -- the iterable of a `for` is as its labels say, and its place is evaluated
  pub record GoodIterables (parts : Parts Step) : Type 0 where
    pub safe : (env : Env) (e : Expr) (labels : Labels e) (item : Label) → LawfulIterable m ctx around.declared env e
        labels item → Covered around (Finds e labels) → Covered around (IsFoundAt (place_of e) item.codes)
        → Keyed e labels → IsSafe around env (λ k. Unit {0}) (eval_iterable Step free parts e (iterable_form e))
        (λ k over. GoesOver around.bases k item.type over)
    pub place : (e : Expr) → Evaluates (place_of e) (eval_iterable Step free parts e (iterable_form e))

  -- the turns of a `for` run as it is labelled
  pub record GoodTurns (turns : Iteration → ℕ → List ℕ → Stmts → Step StatementEnd) : Type 1 where
    pub runs : (seen : NamesBound) (n : Name) (x : ℕ) (t u : Tree) (b : Stmts) (bm : SuiteLabels b) (out : Option Env)
        (env head : Env) (over : Iteration) (i : ℕ) → ctx.resolve n.text ≡ meaning.Local x
        → head ≡ loop_head (binds_number ctx.resolve (n ∷ bound_by b)) around.declared env
        → ((k : HeapTyping) (v : Value) → HasType around.bases k t v → HasType around.bases k u v
        × HasType around.bases k (declared_type around.declared x) v)
        → LawfulSuite m ctx around.declared returned seen (assign head x u) b bm out
        → Covered around (SuiteFinds m ctx seen b bm) → SuiteKeyed b bm
        → (more : HeapTyping → Frame → Type 0) → Lasts around ctx (n ∷ bound_by b) more
        → Leads around (λ k s. IsWellTypedAnd around head more k s × GoesOver around.bases k t over)
        (turns over i n.text b) (λ k flow s. FlowEnds around (loop_ways around ctx fits m returned head
        (breaks_in_suite b bm)) k flow s × more k s.frame)

  -- one turn, where the further ones run
  pub for_turn_runs : (exec : Stmts → Step StatementEnd) (turns : Iteration → ℕ → List ℕ → Stmts → Step StatementEnd)
      → GoodExec around ctx m returned exec → GoodTurns turns → GoodTurns
      (λ over i n b. for_turn Step free exec (turns over (suc i) n b) over i n b)
  for_turn_runs exec turns good further = record { runs = go }
    where
      go : (seen : NamesBound) (n : Name) (x : ℕ) (t u : Tree) (b : Stmts) (bm : SuiteLabels b) (out : Option Env)
          (env head : Env) (over : Iteration) (i : ℕ) → ctx.resolve n.text ≡ meaning.Local x
          → head ≡ loop_head (binds_number ctx.resolve (n ∷ bound_by b)) around.declared env
          → ((k : HeapTyping) (v : Value) → HasType around.bases k t v → HasType around.bases k u v
          × HasType around.bases k (declared_type around.declared x) v)
          → LawfulSuite m ctx around.declared returned seen (assign head x u) b bm out
          → Covered around (SuiteFinds m ctx seen b bm) → SuiteKeyed b bm
          → (more : HeapTyping → Frame → Type 0) → Lasts around ctx (n ∷ bound_by b) more
          → Leads around (λ k s. IsWellTypedAnd around head more k s × GoesOver around.bases k t over)
          (for_turn Step free exec (turns over (suc i) n.text b) over i n.text b)
          (λ k flow s. FlowEnds around (loop_ways around ctx fits m returned head (breaks_in_suite b bm)) k flow s
          × more k s.frame)
      go seen n x t u b bm out env head over i resolves is has law covered keyed more lasts =
          leads_bind around _ _ _ (λ k o s. (IsWellTypedAnd around head more k s × GoesOver around.bases k t over)
          × ItemHas around.bases k t o) _
          (leads_act around _ item_out (action.turn over i) _ λ f k s well b. (
            refl,
            ends_as (ItemHas around.bases k t) (λ o. (IsWellTypedAnd around head more k s
                × GoesOver around.bases k t over) × ItemHas around.bases k t o) _ (λ o h. (b, h))
                (turn_ends_well around.bases around.classes k s.heap t over i well b.1),
          ))
          turn
        where
          -- the facts that last still last with the value iterated over
          over_lasts : Lasts around ctx (n ∷ bound_by b) (λ k frame. more k frame × GoesOver around.bases k t over)
          over_lasts = record {
            local = lasts.local;
            grow = λ j j' frame grows h. (
              lasts.grow j j' frame grows h.0,
              goes_over_later around.bases j j' t over
                  grows h.1,
            );
            bind = λ y z v j frame c e names_has of_type h. (lasts.bind y z v j frame c e names_has of_type h.0, h.1);
          }

          turn : (o : Option Value) → Leads around (λ k s. (IsWellTypedAnd around head more k s
              × GoesOver around.bases k t over) × ItemHas around.bases k t o)
              (with_item Step free exec (turns over (suc i) n.text b) n.text b o)
              (λ k flow s. FlowEnds around (loop_ways around ctx fits m returned head (breaks_in_suite b bm)) k flow s
              × more k s.frame)
          turn None = leads_comes around _ (Gives next) _ λ k s h.
              (left_at_head around ctx fits m returned head (breaks_in_suite b bm) k s h.0.0.stands, h.0.0.known)
          turn (Some v) = leads_each around _ _ _ λ k s h.
              leads_from around _ (λ j q. IsWellTypedAnd around head
              (AlsoKept around ctx fits (binds_number ctx.resolve (n ∷ bound_by b)) k s.frame
              (λ j frame. more j frame × GoesOver around.bases j t over)) j q × HasType around.bases j t v) _ _
              (λ j q e. subst (λ y. IsWellTypedAnd around head (AlsoKept around ctx fits
              (binds_number ctx.resolve (n ∷ bound_by b)) k s.frame (λ j frame. more j frame
              × GoesOver around.bases j t over)) y q × HasType around.bases y t v) (sym e.0)
              (subst (λ y. IsWellTypedAnd around head (AlsoKept around ctx fits
              (binds_number ctx.resolve (n ∷ bound_by b)) k s.frame (λ j frame. more j frame
              × GoesOver around.bases j t over)) k y × HasType around.bases k t v) (sym e.1) (
                record {
                  stands = h.0.0.stands;
                  known = (
                    (h.0.0.known, h.0.1),
                    kept_still around ctx fits
                        (binds_number ctx.resolve (n ∷ bound_by b)) k s.frame,
                  );
                },
                h.1,
              )))
              (leads_bind around _ _ _ (λ j w q. IsWellTypedAnd around (assign head x u)
              (AlsoKept around ctx fits (binds_number ctx.resolve (n ∷ bound_by b)) k s.frame
              (λ j frame. more j frame × GoesOver around.bases j t over)) j q) _
              (leads_binds around _ n.text v _ λ j q g. bound_local around ctx fits
              (AlsoKept around ctx fits (binds_number ctx.resolve (n ∷ bound_by b)) k s.frame
              (λ j frame. more j frame × GoesOver around.bases j t over)) (n ∷ bound_by b)
              (also_lasts around ctx fits (n ∷ bound_by b) (n ∷ bound_by b) k s.frame (λ j frame. more j frame
              × GoesOver around.bases j t over) (λ y c. c) over_lasts) head n (first_among n (bound_by b)) x u v
              resolves j q g.0 (has j v g.1).0 (has j v g.1).1)
              λ w. leads_bind around _ _ _ (λ j flow q. FlowEnds around
              (ways_out around ctx m returned out (breaks_in_suite b bm) (loose_in b)) j flow q
              × AlsoKept around ctx fits (binds_number ctx.resolve (n ∷ bound_by b)) k s.frame
              (λ j frame. more j frame × GoesOver around.bases j t over) j q.frame) _
              (body_runs around ctx fits m returned exec good seen (assign head x u) b bm out law covered keyed
              (AlsoKept around ctx fits (binds_number ctx.resolve (n ∷ bound_by b)) k s.frame
              (λ j frame. more j frame × GoesOver around.bases j t over))
              (also_lasts around ctx fits (bound_by b) (n ∷ bound_by b) k s.frame (λ j frame. more j frame
              × GoesOver around.bases j t over) (λ y c. Contains-append_right (n ∷ []) (bound_by b) y c)
              over_lasts))
              λ flow. leads_to around _ _ (λ j f q. FlowEnds around (loop_ways around ctx fits m returned head
              (breaks_in_suite b bm)) j f q × (more j q.frame × GoesOver around.bases j t over)) _
              (λ j f q g. (g.0, g.1.0))
              (turn_ends around ctx fits m returned (binds_number ctx.resolve (n ∷ bound_by b)) env head head
              (breaks_in_suite b bm) (loose_in b) out k s (λ j frame. more j frame × GoesOver around.bases j t over)
              (turns over (suc i) n.text b) is h.0.0.stands.locals
              rest_of flow))
            where
              rest_of : Leads around (λ j q. IsWellTypedAnd around head (λ j frame. more j frame
                  × GoesOver around.bases j t over) j q) (turns over (suc i) n.text b)
                  (λ j f q. FlowEnds around (loop_ways around ctx fits m returned head (breaks_in_suite b bm)) j f q
                  × (more j q.frame × GoesOver around.bases j t over))
              rest_of = leads_from around _ (λ j q. IsWellTypedAnd around head (λ j frame. more j frame
                  × GoesOver around.bases j t over) j q × GoesOver around.bases j t over) _ _ (λ j q g. (g, g.known.1))
                  (further.runs seen n x t u b bm out env head over (suc i) resolves is has law covered keyed
                  (λ j frame. more j frame × GoesOver around.bases j t over) over_lasts)

  -- a `for` runs its iterable, and then its turns from the head
  pub for_runs : (parts : Parts Step) → GoodIterables parts → GoodTurns parts.turns
      → (p : Place) (n : Name) (e : Expr) (b : Stmts) → GoodStmt around ctx m returned (for_loop p n e b)
      (exec_node Step free parts (for_loop p n e b))
  for_runs parts iterables further p n e b = record { runs = go }
    where
      go : (seen : NamesBound) (env : Env) (labels : StmtLabels (for_loop p n e b)) (out : Option Env)
          → LawfulStmt m ctx around.declared returned seen env (for_loop p n e b) labels out
          → Covered around (StmtFinds m ctx seen (for_loop p n e b) labels) → StmtKeyed (for_loop p n e b) labels
          → Runs around ctx env (ways_out around ctx m returned out [] []) (n ∷ bound_by b)
          (exec_node Step free parts (for_loop p n e b))
      go seen env labels out law covered keyed more lasts =
          let l = lasts.local n (first_among n (bound_by b)) in
          let x = l.number in
          let d = declared_type around.declared x in
          let t = labels.item.type in
          let target = subst (λ r. LawfulTarget m ctx around.declared seen n r labels.head labels.item labels.flows
          law.inside) l.resolves law.target in
          let f = one_flow around.bases (clean t) d labels.flows
          (subst (λ c. FlowsInto c (clean t) (d ∷ []) labels.flows) (sym fits.bases) target.flow) in
          let u = assigned_type d t f.0.code in
          let inside : law.inside ≡ assign labels.head x u = target.inside_is
          ∙ ap (λ c. assign labels.head x (assigned_type d t (only_code c))) f.1 in
          leads_bind around _ _ _ (λ k over s. IsWellTypedAnd around env more k s
          × (GoesOver around.bases k t over × (codes_of f.0.code ≡ []))) _
          (leads_from around _ (λ k s. IsWellTypedAnd around env more k s × Unit {0}) _ _ (λ k s at. (at, tt))
          (leads_safe around env (λ k. Unit {0}) (eval_iterable Step free parts e (iterable_form e))
          (λ k over. GoesOver around.bases k t over × (codes_of f.0.code ≡ [])) more lasts.grow
          (evaluated_safe around env (λ k. Unit {0}) (place_of e) (eval_iterable Step free parts e (iterable_form e))
          (λ k over. GoesOver around.bases k t over) (codes_of f.0.code)
          (flow_allowed around (place_of e) f.0 (subst (λ c. Covered around (IsFlowAt (place_of e) c)) f.1
          (λ g h. covered g (inr (inl h))))) (iterables.place e)
          (iterables.safe env e labels.iterable labels.item law.iterable (λ g h. covered g (inr (inr (inl h))))
          (λ g h. covered g (inl h)) keyed.0.0))))
          λ over. leads_each around _ _ _ λ k s h.
          leads_from around _ (λ j q. IsWellTypedAnd around labels.head more j q × GoesOver around.bases j t over) _ _
          (λ j q is. subst (λ y. IsWellTypedAnd around labels.head more y q × GoesOver around.bases y t over) (sym is.0)
          (subst (λ y. IsWellTypedAnd around labels.head more k y × GoesOver around.bases k t over) (sym is.1) (
            record {
              stands = stands_with around ctx fits env labels.head k s h.0.stands
                  (subst (λ c. HasLocals around.bases k around.names around.declared c s.frame) (sym law.head)
                  (into_head around.bases around.names around.declared (binds_number ctx.resolve (n ∷ bound_by b)) env k
                  s.frame h.0.stands.locals));
              known = h.0.known;
            },
            h.1.0,
          )))
          (leads_to around _ _ (λ j flow q. FlowEnds around (loop_ways around ctx fits m returned labels.head
          (breaks_in_suite b labels.body)) j flow q × more j q.frame) _
          (λ j flow q g. (
            flow_wider around ctx j q (loop_ways around ctx fits m returned labels.head
                (breaks_in_suite b labels.body)) (ways_out around ctx m returned out [] []) refl (λ c i. law.after ∙ i)
                (λ c i. absurd i) (λ c i. absurd i) flow g.0,
            g.1,
          ))
          (further.runs (n.text ∷ seen) n x t u b labels.body labels.out env labels.head over 0 l.resolves law.head
          (target_has around.bases t d f.0.code f.2.code h.1.1)
          (subst (λ c. LawfulSuite m ctx around.declared returned (n.text ∷ seen) c b labels.body labels.out) inside
          law.body) (λ g i. covered g (inr (inr (inr i)))) keyed.1 more lasts))
