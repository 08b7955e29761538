-- A function or method that is entered with arguments of its parameters' types gives a value of its return type.
use Rattle.std.proofs.Common.{◌≡◌, ℕ, suc, List, [], ◌∷◌, ◌++◌, map, refl, sym, ap, ◌∙◌, subst, inl, inr, arith}
use Rattle.std.proofs.Common.{Contains}
use Rattle.std.specs.Prelude.{◌⊎◌, Bool as Test, true, false, ◌||◌, if◌then◌else◌, length, Option, Some, None, bytes_eq}
use Rattle.std.proofs.lemmas.Slice.Eq.{bytes_eq-Decides}
use Rattle.std.proofs.lemmas.Option.{same_Some}
use Rattle.std.proofs.lemmas.Bool.{or_right}
use Rattle.pc_source.specs.declared.place.Place.{Place}
use Rattle.pc_tree.specs.declared.code.Code.{Code}
use Rattle.pc_tree.specs.declared.code.Code.TheVariants.{E21}
use Rattle.pc_tree.specs.Code.{finding}
use Rattle.pc_tree.specs.Tree.{Name, FuncDef, Item, constant_item, class_item, def_item, Stmts, Module}
use Rattle.pc_tree.specs.Stopping.{bound_by, loose_in}
use Rattle.pc_scope.specs.declared.resolution.Owner.{Owner}
use Rattle.pc_scope.specs.declared.resolution.NameMeaning.{NameMeaning}
use Rattle.pc_scope.specs.declared.resolution.NameMeaning.TheVariants as meaning
use Rattle.pc_scope.specs.declared.resolution.Builtin.{Builtin}
use Rattle.pc_scope.specs.Reserved.{builtin_of}
use Rattle.pc_scope.specs.Bindings.{texts}
use Rattle.pc_scope.specs.Resolution.{index_of, is_one_of, entry_texts, locals, local_meaning as local_res, or_meaning}
use Rattle.pc_scope.specs.Resolution.{builtin_meaning, bound_first, resolve_in_module, resolve_among}
use Rattle.pc_types.specs.Tree.{Tree, NoneType}
use Rattle.pc_class.specs.Bases.{bases_of}
use Rattle.pc_class.specs.Facts.{TypedParameter, return_type, classes_of}
use Rattle.pc_annotations.proofs.Earlier.{smaller}
use Rattle.pc_flow.specs.Environment.{Env, none_assigned}
use Rattle.pc_module_rules.specs.StatementLabels.{breaks_in_suite}
use Rattle.pc_rules.specs.Labels.{IsCodeAt}
use Rattle.pc_module_rules.specs.Modules.{entry_parameters, names_entered, entry_env, ReturnsWell}
use Rattle.pc_module_rules.specs.Modules.{leaves as never_completes, may_complete, may_not}
use Rattle.pc_value.specs.Value.{none, Out}
use Rattle.pc_machine.specs.State.{State, Frame, Local, Function}
use Rattle.pc_machine.specs.Names.{names_bound, unbound, frame_of}
use Rattle.pc_machine.specs.Steps.{StatementEnd, next, breaking, continuing, leaves}
use Rattle.pc_machine.specs.Free.{Step, enter}
use Rattle.pc_machine.specs.Evaluation.{value_of_flow}
use Rattle.pc_sound.specs.Values.{HeapTyping, HasType, IsWell}
use Rattle.pc_sound.specs.Loaded.{IsLoaded}
use Rattle.pc_sound.proofs.Steps.Judgment.{HasListed, Around, IsWellTyped, KeepsState, IsSafe, IsContextOf, Goes, Leads}
use Rattle.pc_sound.proofs.Steps.Judgment.{IsWellTypedAnd, Ways, FlowEnds, IsLocal, Lasts}
use Rattle.pc_tree.proofs.Among.{among_first}
use Rattle.pc_sound.proofs.Values.ValuesFlow.{of_static}
use Rattle.pc_sound.proofs.Steps.SafeSteps.{ended}
use Rattle.pc_sound.proofs.Steps.LeadingSteps.{ends_as, leads_from, leads_to}
use Rattle.pc_sound.proofs.Statements.WaysOut.{GoodExec, ways_out}
use Rattle.pc_sound.proofs.Calls.EntryFrames.{frame_names, names_of_append, names_of_unbound, bound_names, numbered}
use Rattle.pc_sound.proofs.Calls.EntryFrames.{entry_has_names, ParametersHave, parameters_named, entry_holds}
use Rattle.pc_sound.proofs.Modules.MainWorld.{Labelled, around_of, context_of}
use Rattle.pc_sound.proofs.Steps.Frames.{local_injective, none_current}

-- the module binds no local
bound_local : (k f c : ℕ) (items : List Item) (word : List ℕ) (x : ℕ) → bound_first k f c items word
    ≡ Some (meaning.Local x) → ⊥
bound_local k f c [] word x e = grind (arith, e)
bound_local k f c (constant_item p i ∷ rest) word x e = go (λ r. bound_local (suc k) f c rest word x r)
    (bytes_eq i.name.text word) e
  where
    go : (bound_first (suc k) f c rest word ≡ Some (meaning.Local x) → ⊥) → (b : Test)
        → (if b then Some (meaning.Const k) else bound_first (suc k) f c rest word) ≡ Some (meaning.Local x) → ⊥
    go others true e = grind (arith, e)
    go others false e = others e
bound_local k f c (def_item p i ∷ rest) word x e = go (λ r. bound_local k (suc f) c rest word x r)
    (bytes_eq i.name.text word) e
  where
    go : (bound_first k (suc f) c rest word ≡ Some (meaning.Local x) → ⊥) → (b : Test)
        → (if b then Some (meaning.Func f) else bound_first k (suc f) c rest word) ≡ Some (meaning.Local x) → ⊥
    go others true e = grind (arith, e)
    go others false e = others e
bound_local k f c (class_item p i ∷ rest) word x e = go (λ r. bound_local k f (suc c) rest word x r)
    (bytes_eq i.name.text word) e
  where
    go : (bound_first k f (suc c) rest word ≡ Some (meaning.Local x) → ⊥) → (b : Test)
        → (if b then Some (meaning.Class c) else bound_first k f (suc c) rest word) ≡ Some (meaning.Local x) → ⊥
    go others true e = grind (arith, e)
    go others false e = others e

pub module_local : (m : Module) (word : List ℕ) (x : ℕ) → resolve_in_module m word ≡ meaning.Local x → ⊥
module_local m word x e = go (builtin_of word) (bound_first 0 0 0 m.items word) refl e
  where
    go : (b : Option Builtin) (o : Option NameMeaning) → bound_first 0 0 0 m.items word ≡ o
        → or_meaning (builtin_meaning b) (or_meaning o meaning.None) ≡ meaning.Local x → ⊥
    go (Some b) o is e = grind (arith, e)
    go None None is e = grind (arith, e)
    go None (Some r) is e = bound_local 0 0 0 m.items word x (is ∙ ap Some e)

-- a promise on the run of a body is one on the call: the caller's frame is put back
pub enter_safe : (caller callee : Around) (env inner : Env) (known : HeapTyping → Type 0) (frame : Frame)
    (body : Step StatementEnd) (ways : Ways) (P : HeapTyping → StatementEnd → Type 0)
    → callee.bases ≡ caller.bases → callee.classes ≡ caller.classes → callee.listed ≡ caller.listed
    → ((k : HeapTyping) (s : State) → known k → IsWellTyped caller env k s
    → IsWellTyped callee inner k (record s { frame = frame }))
    → Leads callee (λ k s. IsWellTyped callee inner k s) body (λ k flow s. FlowEnds callee ways k flow s)
    → ((k : HeapTyping) (s : State) (flow : StatementEnd) → FlowEnds callee ways k flow s → P k flow)
    → IsSafe caller env known (enter frame body) P
enter_safe caller callee env inner known frame body ways P same_bases same_classes same_listed starts runs ends =
    record { run = go }
  where
    put_back : (k : HeapTyping) (s left s' : State) (events : List Place) (out : Out StatementEnd)
        → s' ≡ record left { frame = s.frame } → Goes callee (λ j flow t. FlowEnds callee ways j flow t) k
        (record s { frame = frame }) out left → KeepsState caller P k s out s'
    put_back k s left s' events out e g = record {
      typing = g.typing;
      grows = g.grows;
      well = subst (λ h. IsWell caller.bases caller.classes g.typing h) (sym (ap (λ x. x.heap) e))
          (subst (λ b. IsWell b caller.classes g.typing left.heap) same_bases
          (subst (λ c. IsWell callee.bases c g.typing left.heap) same_classes g.well));
      same_frame = ap (λ x. x.frame) e;
      same_globals = ap (λ x. x.globals) e ∙ g.same_globals;
      same_classes = ap (λ x. x.classes) e ∙ g.same_classes;
      ends = ends_as (λ flow. FlowEnds callee ways g.typing flow left) (P g.typing) out
          (λ flow h. ends g.typing left flow h) g.ends;
    }

    go : (k : HeapTyping) (s s' : State) (events : List Place) (out : Out StatementEnd) → known k
        → IsWellTyped caller env k s → enter frame body s events out s' → HasListed caller.listed events
        ⊎ KeepsState caller P k s out s'
    go k s s' events out knows st (inl e) = elim (runs.run k (record s { frame = frame }) e.left events out
        (starts k s knows st).well (starts k s knows st) e.runs) [
          | inl h ↦ inl (subst (λ l. HasListed l events) same_listed h)
          | inr g ↦ inr (put_back k s e.left s' events out e.after g)
        ]
    go k s s' events out knows st (inr e) = inr (ended caller env P k s s' events out st e)

module _ (m : Module) (constants : List Tree) (listed : Place → Type 0) where
  -- ---- bodies

  module _ (owner : Owner) (d : FuncDef) (lab : Labelled m constants listed owner d) where
    abbrev Body : Around
    Body = around_of m constants listed owner d lab

    resolves_local : (word : List ℕ) (x : ℕ) (o : Option ℕ) → index_of word (locals owner d) ≡ o
        → or_meaning (local_res o) (resolve_in_module m word) ≡ meaning.Local x → index_of word (locals owner d) ≡ Some x
    resolves_local word x (Some y) e r = e ∙ ap Some (local_injective r)
    resolves_local word x None e r = absurd (module_local m word x r)

    pub fits_of : IsContextOf (around_of m constants listed owner d lab) (context_of m constants listed owner d)
    fits_of = record {
      bases = refl;
      classes = refl;
      smaller = smaller m;
      local = λ word x r. resolves_local word x (index_of word (locals owner d)) refl r;
      named = λ word x e. ap (λ o. or_meaning (local_res o) (resolve_in_module m word)) e;
    }

    -- each name that the body binds is a local
    local_bound : (n : Name) → Contains (bound_by d.body) n → IsLocal (around_of m constants listed owner d lab)
        (context_of m constants listed owner d) n.text
    local_bound n c =
        let among = right (entry_texts owner d) (texts (bound_by d.body)) (in_texts (bound_by d.body) c) in
        let x = numbered n.text (entry_texts owner d ++ texts (bound_by d.body)) among (lab.free n.text among) in
        record { number = x.0; resolves = fits_of.named n.text x.0 x.1; is = x.1 }
      where
        right : (xs ys : List (List ℕ)) → is_one_of n.text ys ≡ true → is_one_of n.text (xs ++ ys) ≡ true
        right [] ys e = e
        right (x ∷ xs) ys e = or_right (bytes_eq n.text x) (is_one_of n.text (xs ++ ys)) (right xs ys e)

        in_texts : (ns : List Name) → Contains ns n → is_one_of n.text (texts ns) ≡ true
        in_texts [] c = let lt = c.1 in absurd (grind (arith, lt))
        in_texts (y ∷ ys) c = elim (among_first y ys n c) [
          | inl e ↦ ap (λ b. b || is_one_of n.text (texts ys)) ((bytes_eq-Decides n.text y.text).1
              (ap (λ z. z.text) (sym e)))
          | inr o ↦ or_right (bytes_eq n.text y.text) (is_one_of n.text (texts ys)) (in_texts ys o)
        ]

    -- nothing more need last
    lasts_bare : Lasts (around_of m constants listed owner d lab) (context_of m constants listed owner d)
        (bound_by d.body) (λ k frame. Unit {0})
    lasts_bare = record { local = local_bound; grow = λ k k' frame x h. tt; bind = λ n x v k frame c r has t h. tt }

    abbrev pub entry : Env
    entry = entry_env (resolve_among m (locals owner d)) [] (entry_parameters m owner d)
        (none_assigned (length (locals owner d)))

    abbrev pub body_ways : Ways
    body_ways = ways_out (around_of m constants listed owner d lab) (context_of m constants listed owner d) m
        (return_type m d) lab.labels.out (breaks_in_suite d.body lab.labels.body) (loose_in d.body)

    -- the state in which the body begins
    pub entry_stands : (k : HeapTyping) (s : State) (f : Function) (arguments : List Local) → f.body ≡ d.body
        → ParametersHave (bases_of m) k (entry_parameters m owner d) arguments
        → map (λ (p : TypedParameter). p.name) (entry_parameters m owner d) ≡ entry_texts owner d
        → IsWell (bases_of m) (classes_of m) k s.heap → IsLoaded m constants k s.classes s.globals
        → IsWellTyped (around_of m constants listed owner d lab) entry k (record s { frame = frame_of f arguments })
    entry_stands k s f arguments same args texts_are well world = record {
      well = well;
      frame = entry_has_names (entry_texts owner d ++ texts (bound_by d.body)) (frame_of f arguments) names_are
          lab.free;
      locals = entry_holds (bases_of m) k (locals owner d) lab.labels.declared (resolve_among m (locals owner d))
          fits_of.local (frame_of f arguments) (entry_parameters m owner d) arguments (map unbound (names_bound f.body))
          (none_assigned (length (locals owner d))) refl args lab.lawful.entry
          (record { each = λ word x t named e. absurd (none_current (length (locals owner d)) x t e) });
      outside = world;
    }
      where
        names_are : frame_names (frame_of f arguments) ≡ entry_texts owner d ++ texts (bound_by d.body)
        names_are = names_of_append arguments (map unbound (names_bound f.body))
            ∙ (λ i. (parameters_named (bases_of m) k (entry_parameters m owner d) arguments args ∙ texts_are) i
            ++ (names_of_unbound (names_bound f.body) ∙ ap names_bound same ∙ bound_names d.body) i)

    -- the body runs from there
    pub body_leads : (exec : Stmts → Step StatementEnd) → GoodExec (around_of m constants listed owner d lab)
        (context_of m constants listed owner d) m (return_type m d) exec
        → Leads (around_of m constants listed owner d lab) (λ k s.
        IsWellTyped (around_of m constants listed owner d lab) entry k s) (exec d.body)
        (λ k flow s. FlowEnds (around_of m constants listed owner d lab) body_ways k flow s)
    body_leads exec good =
        leads_from (around_of m constants listed owner d lab) _ (λ k s. IsWellTypedAnd
        (around_of m constants listed owner d lab) entry (λ k frame. Unit {0}) k s) _ _
        (λ k s st. record { stands = st; known = tt })
        (leads_to (around_of m constants listed owner d lab) _ _ (λ k flow s.
        FlowEnds (around_of m constants listed owner d lab) body_ways k flow s × Unit {0}) _ (λ k flow s h. h.0)
        (good.runs (names_entered [] (entry_parameters m owner d)) entry d.body lab.labels.body lab.labels.out
        lab.lawful.body (λ f h. lab.covered f (inr (inr (inr h)))) lab.keyed (λ k frame. Unit {0}) lasts_bare))

    -- where the body can complete, None is of the return type
    completes_well : (k : HeapTyping) (out : Option Env) (env : Env) (code : Option Code)
        → ReturnsWell (bases_of m) (return_type m d) out code → out ≡ Some env
        → ((c : Code) → code ≡ Some c → c ≡ E21 → ⊥) → HasType (bases_of m) k (return_type m d) none
    completes_well k _ env _ never_completes e clean = absurd (grind (arith, e))
    completes_well k _ env _ (may_complete below) e clean = of_static (bases_of m) k NoneType (return_type m d) below
        none tt
    completes_well k _ env _ (may_not n) e clean = absurd (clean E21 refl refl)

    -- the code at the name, where there is one, is listed
    pub completing_listed : (c : Code) → lab.labels.completing ≡ Some c → listed d.name.place
    completing_listed c e = (lab.covered (finding d.name.place c) (inr (inr (inl (at_name lab.labels.completing c
        e))))).0
      where
        at_name : (code : Option Code) (c : Code) → code ≡ Some c → IsCodeAt d.name.place code (finding d.name.place c)
        at_name None c e = absurd (grind (arith, e))
        at_name (Some x) c e = ap (finding d.name.place) (sym (same_Some _ _ e))

    -- a call gives a value of the return type, where no E21 stands at the name
    pub gives_returned : ((c : Code) → lab.labels.completing ≡ Some c → c ≡ E21 → ⊥) → (k : HeapTyping) (s : State)
        (flow : StatementEnd) → FlowEnds (around_of m constants listed owner d lab) body_ways k flow s
        → HasType (bases_of m) k (return_type m d) (value_of_flow flow)
    gives_returned quiet k s next h = completes_well k lab.labels.out h.env lab.labels.completing lab.lawful.completing
        h.is quiet
    gives_returned quiet k s breaking h = absurd (lab.in_loops h.1.place h.1.is)
    gives_returned quiet k s continuing h = absurd (lab.in_loops h.1.place h.1.is)
    gives_returned quiet k s (leaves v) h = h
