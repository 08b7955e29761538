-- Simple statements: assignments, `return`, `assert`, expressions, and those that only say where to continue.
use Rattle.std.proofs.Common.{◌≡◌, ℕ, List, [], ◌∷◌, refl, sym, ap, ◌∙◌, subst, inl, inr, Contains}
use Rattle.std.specs.Prelude.{◌⊎◌, Bool as Test, true, false, Option, Some, None}
use Rattle.pc_source.specs.declared.place.Place.{Place}
use Rattle.pc_tree.specs.Tree.{Name, Expr, Ann, Target, to_name, to_attribute, to_index, pass, breaks, continues}
use Rattle.pc_tree.specs.Tree.{returns, asserts, annotated, assigns, evaluates, Module}
use Rattle.pc_tree.specs.Depth.{place_of}
use Rattle.pc_scope.specs.declared.resolution.NameMeaning.TheVariants as meaning
use Rattle.pc_types.specs.Tree.{Tree, NoneType}
use Rattle.pc_types.specs.Below.{Static}
use Rattle.pc_flow.specs.Environment.{Env, declared_type, assign, assigned_type}
use Rattle.pc_flow.specs.Narrowing.{narrow}
use Rattle.pc_rules.specs.Operations.{clean}
use Rattle.pc_rules.specs.Context.{Context, FlowsInto}
use Rattle.pc_rules.specs.Labels.{FlowLabels, Labels, whole_label, type_of, Finds, IsFlowAt}
use Rattle.pc_rules.specs.Lawful.{Lawful}
use Rattle.pc_module_rules.specs.StatementLabels.{OptionLabels, TargetLabels, StmtLabels}
use Rattle.pc_module_rules.specs.Statements.{NamesBound, only_code, LawfulBinding, LawfulStore, LawfulOption}
use Rattle.pc_module_rules.specs.Statements.{LawfulStmt, OptionFinds, TargetFinds, StmtFinds}
use Rattle.pc_value.specs.Value.{Value, none, Gives, Stops, Other, is_true}
use Rattle.pc_machine.specs.State.{State, Frame}
use Rattle.pc_machine.specs.Names.{with_local}
use Rattle.pc_machine.specs.Steps.{Parts, StatementEnd, next, breaking, continuing, leaves}
use Rattle.pc_machine.specs.Free.{Step, ◌>>=◌, comes, Changes, free}
use Rattle.pc_machine.specs.Evaluation.{exec_node, assign as assign_target, fail, condition, choose, binds_local}
use Rattle.pc_sound.specs.Values.{HeapTyping, HasType, Extends}
use Rattle.pc_sound.proofs.Steps.Judgment.{Around, IsWellTyped, IsSafe, IsContextOf, TellsLocals, Leads, IsWellTypedAnd}
use Rattle.pc_sound.proofs.Steps.Judgment.{FlowEnds, Lasts}
use Rattle.pc_tree.proofs.Among.{first_among}
use Rattle.pc_sound.proofs.Values.ValuesFlow.{of_static}
use Rattle.pc_sound.proofs.Expressions.SimpleExpressions.{Covered, GoodEval}
use Rattle.pc_sound.proofs.Regular.KeyedLabels.{Keyed, OptionKeyed, TargetKeyed, StmtKeyed}
use Rattle.pc_sound.proofs.Expressions.Conditions.{Decides}
use Rattle.pc_sound.proofs.Values.Flows.{Evaluates, flow_safe}
use Rattle.pc_sound.proofs.Steps.LeadingSteps.{ends_as, leads_bind, leads_comes, leads_looks, leads_binds, leads_from}
use Rattle.pc_sound.proofs.Steps.LeadingSteps.{leads_to, leads_safe, Promised}
use Rattle.pc_sound.proofs.Steps.Frames.{names_kept, assigned_holds}
use Rattle.pc_sound.proofs.Statements.LocalBinding.{atom_flow, assigned_safe, one_flow}
use Rattle.pc_sound.proofs.Statements.WaysOut.{Runs, stands_bare, ways_out, GoodStmt}

-- stores into attributes and items go on with the next statement
pub record GoodStores (around : Around) (m : Module) (ctx : Context) (parts : Parts Step) : Type 0 where
  pub stores : (env : Env) (t : Target) (target : TargetLabels t) (e : Expr) (labels : Labels e) (flows : FlowLabels)
      → LawfulStore m ctx around.declared env t target e labels flows
      → Covered around (λ f. IsFlowAt (place_of e) flows f ⊎ (Finds e labels f ⊎ TargetFinds m ctx t target f))
      → Keyed e labels → TargetKeyed t target → IsSafe around env (λ k. Unit {0})
      (parts.eval e >>= λ v. assign_target Step free parts t v) (λ k flow. flow ≡ next)

module _ (around : Around) (ctx : Context) (fits : IsContextOf around ctx) where
  -- after it was bound a local holds a value of its declared type and of its current type
  pub bound_local : (more : HeapTyping → Frame → Type 0) (names : List Name) → Lasts around ctx names more
      → (env : Env) (n : Name) → Contains names n → (x : ℕ) (t : Tree) (v : Value) → ctx.resolve n.text ≡ meaning.Local x
      → (k : HeapTyping) (s : State) → IsWellTypedAnd around env more k s → HasType around.bases k t v
      → HasType around.bases k (declared_type around.declared x) v → IsWellTypedAnd around (assign env x t) more k
      (record s { frame = with_local n.text v s.frame })
  bound_local more names lasts env n among x t v is k s at now always = record {
    stands = record {
      well = at.stands.well;
      frame = names_kept around.names n.text v s.frame at.stands.frame;
      locals = assigned_holds around.bases around.names around.declared k env s.frame n.text x t v
          (fits.local n.text x is) at.stands.frame now always at.stands.locals;
      outside = at.stands.outside;
    };
    known = lasts.bind n x v k s.frame among is at.stands.frame always at.known;
  }

module _ (around : Around) (ctx : Context) (fits : IsContextOf around ctx) (eval : Expr → Step Value)
    (decides : Decides around ctx eval) where
  -- a condition, and what lasts of the frame
  decides_more : (more : HeapTyping → Frame → Type 0) → ((k k' : HeapTyping) (frame : Frame) → Extends k k'
      → more k frame → more k' frame) → (env : Env) (want : Option Tree) (e : Expr) (labels : Labels e)
      → Lawful ctx around.declared env want e labels → Covered around (Finds e labels) → Keyed e labels
      → Leads around (λ k s. IsWellTypedAnd around env more k s) (eval e) (λ k v s. IsWellTypedAnd around env more k s
      × TellsLocals around ctx env e k v s)
  decides_more more grow env want e labels law covered keyed = record {
    run = λ k s s' events out well b r. elim ((decides.decides env want e labels law covered keyed s.frame).run k s s'
        events out well (b.stands, refl) r) [
          | inl h ↦ inl h
          | inr g ↦ inr (record {
            typing = g.typing;
            grows = g.grows;
            well = g.well;
            same_globals = g.same_globals;
            same_classes = g.same_classes;
            ends = ends_as (λ v. (IsWellTyped around env g.typing s' × (s'.frame ≡ s.frame))
                × (HasType around.bases g.typing (type_of e labels) v × TellsLocals around ctx env e g.typing v s'))
                (λ v. IsWellTypedAnd around env more g.typing s' × TellsLocals around ctx env e g.typing v s') out
                (λ v h. (
                  record {
                    stands = h.0.0;
                    known = subst (more g.typing) (sym h.0.1)
                        (grow k g.typing s.frame g.grows b.known);
                  },
                  h.1.1,
                )) g.ends;
          })
        ];
  }

  -- one of two steps, by the truth of a condition
  pub decided : {A : Type 0} (more : HeapTyping → Frame → Type 0) (grow : (k k' : HeapTyping) (frame : Frame)
      → Extends k k' → more k frame → more k' frame) (env : Env) (c : Expr) (labels : Labels c) (one other : Step A)
      (after : Promised A) → Lawful ctx around.declared env None c labels → Covered around (Finds c labels)
      → Keyed c labels
      → Leads around (λ k s. IsWellTypedAnd around (narrow ctx.bases around.declared ctx.resolve true c env) more k s)
      one after
      → Leads around (λ k s. IsWellTypedAnd around (narrow ctx.bases around.declared ctx.resolve false c env) more k s)
      other after
      → Leads around (λ k s. IsWellTypedAnd around env more k s)
      (eval c >>= λ v. condition Step free v >>= λ b. choose Step free b one other) after
  decided {A} more grow env c labels one other after law covered keyed is_so is_not =
      leads_bind around _ _ _ (λ k v s. IsWellTypedAnd around env more k s × TellsLocals around ctx env c k v s) _
      (decides_more more grow env None c labels law covered keyed)
      λ v. leads_bind around _ _ _ (λ k b s. IsWellTypedAnd around
      (narrow ctx.bases around.declared ctx.resolve b c env) more k s) _
      (leads_looks around _ (λ s. Gives (is_true s.heap v)) _ λ k s b. record {
        stands = subst (λ bases. IsWellTyped around (narrow bases around.declared ctx.resolve (is_true s.heap v) c env)
            k s) fits.bases
            (record {
              well = b.0.stands.well;
              frame = b.0.stands.frame;
              locals = b.1.by (is_true s.heap v) refl;
              outside = b.0.stands.outside;
            });
        known = b.0.known;
      })
      go
    where
      go : (b : Test) → Leads around (λ k s. IsWellTypedAnd around
          (narrow ctx.bases around.declared ctx.resolve b c env) more k s) (choose Step free b one other) after
      go true = is_so
      go false = is_not

module _ (around : Around) (ctx : Context) (fits : IsContextOf around ctx) (m : Module) (returned : Tree)
    (parts : Parts Step) (good : GoodEval around ctx parts.eval) (evaluates_place : (e : Expr)
    → Evaluates (place_of e) (parts.eval e)) (decides : Decides around ctx parts.eval)
    (stores : GoodStores around m ctx parts) where
  -- an expression whose value goes nowhere
  pub dropped : {A : Type 0} (more : HeapTyping → Frame → Type 0) (grow : (k k' : HeapTyping) (frame : Frame)
      → Extends k k' → more k frame → more k' frame) (env : Env) (e : Expr) (labels : Labels e) (others : Step A)
      (after : Promised A) → Lawful ctx around.declared env None e labels → Covered around (Finds e labels)
      → Keyed e labels → Leads around (λ k s. IsWellTypedAnd around env more k s) others after
      → Leads around (λ k s. IsWellTypedAnd around env more k s) (parts.eval e >>= λ v. others) after
  dropped more grow env e labels others after law covered keyed rest =
      leads_bind around _ _ _ (λ k v s. IsWellTypedAnd around env more k s) _
      (leads_from around _ (λ k s. IsWellTypedAnd around env more k s × Unit {0}) _ _ (λ k s b. (b, tt))
      (leads_to around _ _ (λ k v s. IsWellTypedAnd around env more k s × HasType around.bases k (type_of e labels) v) _
      (λ k v s h. h.0)
      (leads_safe around env (λ k. Unit {0}) (parts.eval e) (λ k v. HasType around.bases k (type_of e labels) v) more
      grow (good.safe env None e labels law covered keyed))))
      λ v. rest

  -- ---- `pass`, `break` and `continue`

  pub pass_runs : (p : Place) → GoodStmt around ctx m returned (pass p) (exec_node Step free parts (pass p))
  pass_runs p = record {
    runs = λ seen env labels out law covered keyed more lasts. leads_comes around _ (Gives next) _
        λ k s at. (record { env = env; is = law; stands = at.stands }, at.known);
  }

  pub breaks_runs : (p : Place) → GoodStmt around ctx m returned (breaks p) (exec_node Step free parts (breaks p))
  breaks_runs p = record {
    runs = λ seen env labels out law covered keyed more lasts. leads_comes around _
        (Gives breaking) _ λ k s at. (
          (
            record {
              env = labels;
              is = first_among labels [];
              stands = subst (λ e. IsWellTyped around e k s) (sym law.0)
                  at.stands;
            },
            record { place = p; is = first_among p [] },
          ),
          at.known,
        );
  }

  pub continues_runs : (p : Place) → GoodStmt around ctx m returned (continues p)
      (exec_node Step free parts (continues p))
  continues_runs p = record {
    runs = λ seen env labels out law covered keyed more lasts. leads_comes around _
        (Gives continuing) _ λ k s at. (
          (
            stands_bare around ctx env k s at.stands,
            record { place = p; is = first_among p [] },
          ),
          at.known,
        );
  }

  pub evaluates_runs : (p : Place) (e : Expr) → GoodStmt around ctx m returned (evaluates p e)
      (exec_node Step free parts (evaluates p e))
  evaluates_runs p e = record {
    runs = λ seen env labels out law covered keyed more lasts. dropped more lasts.grow env e labels _ _ law.0 covered
        keyed
        (leads_comes around _ (Gives next) _ λ k s at. (
          record { env = env; is = law.1; stands = at.stands },
          at.known,
        ));
  }

  -- ---- `return`

  pub returns_none_runs : (p : Place) → GoodStmt around ctx m returned (returns p None)
      (exec_node Step free parts (returns p None))
  returns_none_runs p = record { runs = go }
    where
      go : (seen : NamesBound) (env : Env) (labels : StmtLabels (returns p None)) (out : Option Env)
          → LawfulStmt m ctx around.declared returned seen env (returns p None) labels out
          → Covered around (StmtFinds m ctx seen (returns p None) labels) → StmtKeyed (returns p None) labels
          → Runs around ctx env (ways_out around ctx m returned out [] []) []
          (exec_node Step free parts (returns p None))
      go seen env labels out law covered keyed more lasts =
          let f = one_flow ctx.bases (clean NoneType) returned labels.flows law.0 in
          let below : Static around.bases NoneType returned = subst (λ b. Static b NoneType returned) (sym fits.bases)
          (atom_flow ctx.bases NoneType returned f.0.code tt f.2.code
          (λ e. keyed f.0 (subst (λ l. Contains l f.0) (sym f.1) (first_among f.0 [])) e)) in
          leads_comes around _ (Gives (leaves none)) _ λ k s at. (
            of_static around.bases k NoneType returned below none
                tt,
            at.known,
          )

  pub returns_runs : (p : Place) (e : Expr) → GoodStmt around ctx m returned (returns p (Some e))
      (exec_node Step free parts (returns p (Some e)))
  returns_runs p e = record { runs = go }
    where
      go : (seen : NamesBound) (env : Env) (labels : StmtLabels (returns p (Some e))) (out : Option Env)
          → LawfulStmt m ctx around.declared returned seen env (returns p (Some e)) labels out
          → Covered around (StmtFinds m ctx seen (returns p (Some e)) labels) → StmtKeyed (returns p (Some e)) labels
          → Runs around ctx env (ways_out around ctx m returned out [] []) []
          (exec_node Step free parts (returns p (Some e)))
      go seen env labels out law covered keyed more lasts =
          let f = one_flow around.bases (whole_label e labels.value) returned labels.flows
          (subst (λ b. FlowsInto b (whole_label e labels.value) (returned ∷ []) labels.flows) (sym fits.bases)
          law.0.1) in
          leads_bind around _ _ _ (λ k v s. IsWellTypedAnd around env more k s × HasType around.bases k returned v) _
          (leads_from around _ (λ k s. IsWellTypedAnd around env more k s × Unit {0}) _ _ (λ k s b. (b, tt))
          (leads_safe around env (λ k. Unit {0}) (parts.eval e) (λ k v. HasType around.bases k returned v) more
          lasts.grow
          (flow_safe around ctx parts.eval good evaluates_place env (λ k. Unit {0}) (Some returned) e labels.value
          returned f.0 law.0.0 (λ g h. covered g (inr h)) f.2 (subst (λ l. Covered around (IsFlowAt (place_of e) l))
          f.1 (λ g h. covered g (inl h))) keyed)))
          λ v. leads_comes around _ (Gives (leaves v)) _ λ k s b. (b.1, b.0.known)

  -- ---- `assert`

  fails : (more : HeapTyping → Frame → Type 0) (grow : (k k' : HeapTyping) (frame : Frame) → Extends k k' → more k frame
      → more k' frame) (env : Env) (e : Option Expr) (labels : OptionLabels e) (after : Promised StatementEnd)
      → LawfulOption m ctx around.declared returned env e labels → Covered around (OptionFinds m ctx e labels)
      → OptionKeyed e labels → Leads around (λ k s. IsWellTypedAnd around env more k s) (fail Step free parts e) after
  fails more grow env None labels after law covered keyed = leads_comes around _ (Stops Other) _ λ k s b. tt
  fails more grow env (Some e) labels after law covered keyed = dropped more grow env e labels _ _ law covered keyed
      (leads_comes around _ (Stops Other) _ λ k s b. tt)

  pub asserts_runs : (p : Place) (c : Expr) (e : Option Expr) → GoodStmt around ctx m returned (asserts p c e)
      (exec_node Step free parts (asserts p c e))
  asserts_runs p c e = record {
    runs = λ seen env labels out law covered keyed more lasts. decided around ctx fits parts.eval decides more
        lasts.grow env c labels.condition _ _ _ law.condition (λ g h. covered g (inl h)) keyed.0
        (leads_comes around _ (Gives next) _ λ k s at. (
          record {
            env = narrow ctx.bases around.declared ctx.resolve true c env;
            is = law.after;
            stands =
                at.stands;
          },
          at.known,
        ))
        (fails more lasts.grow (narrow ctx.bases around.declared ctx.resolve false c env) e labels.message _ law.message
        (λ g h. covered g (inr h)) keyed.1);
  }

  -- ---- assignments to locals

  binding_runs : (seen : NamesBound) (env : Env) (n : Name) (annotation : Option Tree) (e : Expr) (labels : Labels e)
      (flows : FlowLabels) (after : Env) (out : Option Env) → LawfulBinding m ctx around.declared env seen n
      (ctx.resolve n.text) annotation e labels flows after → out ≡ Some after
      → Covered around (IsFlowAt (place_of e) flows) → Covered around (Finds e labels) → Keyed e labels
      → Runs around ctx env (ways_out around ctx m returned out [] []) (n ∷ [])
      (parts.eval e >>= λ v. (Changes (binds_local n.text v) >>= λ u. comes (Gives next)))
  binding_runs seen env n annotation e labels flows after out law is covered_flow covered keyed more lasts =
      go (lasts.local n (first_among n [])).number (lasts.local n (first_among n [])).resolves
    where
      go : (x : ℕ) → ctx.resolve n.text ≡ meaning.Local x → Leads around (λ k s. IsWellTypedAnd around env more k s)
          (parts.eval e >>= λ v. (Changes (binds_local n.text v) >>= λ u. comes (Gives next)))
          (λ k flow s. FlowEnds around (ways_out around ctx m returned out [] []) k flow s × more k s.frame)
      go x resolves =
          let l = subst (λ r. LawfulBinding m ctx around.declared env seen n r annotation e labels flows after) resolves
          law in
          let d = declared_type around.declared x in
          let f = one_flow around.bases (whole_label e labels) d flows
          (subst (λ b. FlowsInto b (whole_label e labels) (d ∷ []) flows) (sym fits.bases) l.flow) in
          let t = assigned_type d (type_of e labels) f.0.code in
          let ends : out ≡ Some (assign env x t) = is ∙ ap Some (l.after_is
          ∙ ap (λ c. assign env x (assigned_type d (type_of e labels) (only_code c))) f.1) in
          leads_bind around _ _ _ (λ k v s. IsWellTypedAnd around env more k s
          × (HasType around.bases k t v × HasType around.bases k d v)) _
          (leads_from around _ (λ k s. IsWellTypedAnd around env more k s × Unit {0}) _ _ (λ k s b. (b, tt))
          (leads_safe around env (λ k. Unit {0}) (parts.eval e) (λ k v. HasType around.bases k t v
          × HasType around.bases k d v) more lasts.grow
          (assigned_safe around ctx parts.eval good evaluates_place env (λ k. Unit {0}) _ e labels d f.0 l.value covered
          f.2 (subst (λ c. Covered around (IsFlowAt (place_of e) c)) f.1 covered_flow) keyed)))
          λ v. leads_bind around _ _ _ (λ k u s. IsWellTypedAnd around (assign env x t) more k s) _
          (leads_binds around _ n.text v _ λ k s b. bound_local around ctx fits more (n ∷ []) lasts env n
          (first_among n []) x t v resolves k s b.0 b.1.0 b.1.1)
          λ u. leads_comes around _ (Gives next) _ λ k s at.
          (record { env = assign env x t; is = ends; stands = at.stands }, at.known)

  pub annotated_none_runs : (p : Place) (n : Name) (a : Ann) → GoodStmt around ctx m returned (annotated p n a None)
      (exec_node Step free parts (annotated p n a None))
  annotated_none_runs p n a = record {
    runs = λ seen env labels out law covered keyed more lasts. leads_comes around _
        (Gives next) _ λ k s at. (
          record { env = env; is = law.is ∙ ap Some law.binding.2; stands = at.stands },
          at.known,
        );
  }

  pub annotated_runs : (p : Place) (n : Name) (a : Ann) (e : Expr)
      → GoodStmt around ctx m returned (annotated p n a (Some e)) (exec_node Step free parts (annotated p n a (Some e)))
  annotated_runs p n a e = record {
    runs = λ seen env labels out law covered keyed more lasts. binding_runs seen env n _ e labels.value labels.flows
        law.after out law.binding law.is (λ g h. covered g (inr (inl h))) (λ g h. covered g (inr (inr h))) keyed more
        lasts;
  }

  pub assigns_runs : (p : Place) (t : Target) (e : Expr) → GoodStmt around ctx m returned (assigns p t e)
      (exec_node Step free parts (assigns p t e))
  assigns_runs p (to_name n) e = record {
    runs = λ seen env labels out law covered keyed more lasts. binding_runs seen env n None e labels.value labels.flows
        law.after out law.assignment law.is (λ g h. covered g (inl h)) (λ g h. covered g (inr (inl h))) keyed.0 more
        lasts;
  }
  assigns_runs p (to_attribute q o field) e = record {
    runs = λ seen env labels out law covered keyed more lasts.
        leads_from around _ (λ k s. IsWellTypedAnd around env more k s × Unit {0}) _ _ (λ k s b. (b, tt))
        (leads_to around _ _ (λ k flow s. IsWellTypedAnd around env more k s × (flow ≡ next)) _
        (λ k flow s h. (
          subst (λ f. FlowEnds around (ways_out around ctx m returned out [] []) k f s) (sym h.1)
              (record { env = env; is = law.is ∙ ap Some law.assignment.1; stands = h.0.stands }),
          h.0.known,
        ))
        (leads_safe around env (λ k. Unit {0}) _ (λ k flow. flow ≡ next) more lasts.grow
        (stores.stores env (to_attribute q o field) labels.target e labels.value labels.flows law.assignment.0
        covered keyed.0 keyed.1)));
  }
  assigns_runs p (to_index q o i) e = record {
    runs = λ seen env labels out law covered keyed more lasts.
        leads_from around _ (λ k s. IsWellTypedAnd around env more k s × Unit {0}) _ _ (λ k s b. (b, tt))
        (leads_to around _ _ (λ k flow s. IsWellTypedAnd around env more k s × (flow ≡ next)) _
        (λ k flow s h. (
          subst (λ f. FlowEnds around (ways_out around ctx m returned out [] []) k f s) (sym h.1)
              (record { env = env; is = law.is ∙ ap Some law.assignment.1; stands = h.0.stands }),
          h.0.known,
        ))
        (leads_safe around env (λ k. Unit {0}) _ (λ k flow. flow ≡ next) more lasts.grow
        (stores.stores env (to_index q o i) labels.target e labels.value labels.flows law.assignment.0 covered
        keyed.0 keyed.1)));
  }
