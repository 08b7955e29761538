-- Calls of values: each has a code, so without a finding no value is called. And the labels of an ordinary call.
use Rattle.std.proofs.Common.{◌≡◌, ℕ, List, [], ◌∷◌, ◌++◌, map, refl, sym, ap, ◌∙◌, subst, inl, inr}
use Rattle.std.specs.Prelude.{◌⊎◌, false, if◌then◌else◌, codes, None, bytes_eq}
use Rattle.std.proofs.Math.Bool.{and-true}
use Rattle.pc_source.specs.declared.place.Place.{Place}
use Rattle.pc_tree.specs.declared.code.Finding.{Finding}
use Rattle.pc_tree.specs.Tree.{Name, Expr, name, number, text, truth, nothing, tuple, list, dict, negative, negation}
use Rattle.pc_tree.specs.Tree.{binary, compare, is_none, is_not_none, conjunction, disjunction, attribute, index, call}
use Rattle.pc_tree.specs.Tree.{Exprs, no_exprs, more_exprs, Keywords, no_keywords, more_keywords}
use Rattle.pc_tree.specs.Depth.{place_of}
use Rattle.pc_scope.specs.Expressions.{is_instance_test}
use Rattle.pc_types.specs.Tree.{Tree, Any, Object, Never, Int, Bool, Str, NoneType, Class, ListOf, DictOf, TupleOf}
use Rattle.pc_types.specs.Tree.{Union}
use Rattle.pc_types.specs.Shape.{members}
use Rattle.pc_flow.specs.Environment.{Env}
use Rattle.pc_rules.specs.Operations.{Label}
use Rattle.pc_rules.specs.Context.{Context, name_label}
use Rattle.pc_rules.specs.Calls.{CallOffer, value_offer, value_offers, call_label, positional_seat, named_seat}
use Rattle.pc_rules.specs.Labels.{Labels, ItemsLabels, KeywordsLabels, whole_label, type_of, with_label, Finds}
use Rattle.pc_rules.specs.Labels.{ItemsFind, ArgumentsFind, KeywordsFind, IsFoundAt}
use Rattle.pc_rules.specs.Lawful.{Lawful, LawfulItems, LawfulKeywords}
use Rattle.pc_rules.proofs.SaidInLabels.{as_arguments}
use Rattle.pc_value.specs.Value.{Value, Stop, Raised, Other, Outside, Cut, Out, Gives, Stops}
use Rattle.pc_machine.specs.State.{State}
use Rattle.pc_machine.specs.Names.{Meaning, means_value, means_unbound, means_function, means_class, means_reserved}
use Rattle.pc_machine.specs.Names.{means_nothing, meaning_in_run}
use Rattle.pc_machine.specs.Calls.{Callee, calls_value, callee_of_meaning, value_of_meaning}
use Rattle.pc_machine.specs.Steps.{Parts}
use Rattle.pc_machine.specs.Free.{Step, ◌>>=◌, comes, Emits, look, free}
use Rattle.pc_machine.specs.Evaluation.{call_form, instance_test, ordinary, eval_callee, eval_all, eval_keywords}
use Rattle.pc_machine.specs.Evaluation.{call_callee}
use Rattle.pc_sound.specs.Values.{HeapTyping, HasType}
use Rattle.pc_sound.specs.Ends.{EndsWell}
use Rattle.pc_sound.proofs.Steps.Judgment.{HasListed, Around, IsWellTyped, KeepsState, IsSafe, IsContextOf}
use Rattle.pc_sound.proofs.Lists.{same_text_back}
use Rattle.pc_sound.proofs.Steps.SafeSteps.{bind_safe, comes_safe, may_stop_safe, weaken}
use Rattle.pc_sound.proofs.Regular.KeyedLabels.{Keyed, ItemsKeyed, KeywordsKeyed}
use Rattle.pc_sound.proofs.Expressions.SimpleExpressions.{Covered, GoodEval, part}
use Rattle.pc_sound.proofs.Values.Flows.{Evaluates}
use Rattle.pc_sound.proofs.Calls.Arguments.{}
use Rattle.pc_sound.proofs.Calls.OrdinaryCalls.{impossible_safe, ordinary_safe}
use Rattle.pc_sound.proofs.Calls.BuiltInMethods.{CalleeCodes}
use Rattle.pc_sound.proofs.Expressions.NameReads.{KnowsNames, name_safe}
use Rattle.pc_sound.proofs.Calls.CallOffers.{all_quiet, offer_quiet}
use Rattle.pc_sound.proofs.Calls.MethodNodes.{Fails, values_fail}

-- ---- labels of calls

-- labels with their own label are the same
pub with_own : (e : Expr) (m : Labels e) → with_label e m (whole_label e m) ≡ m
with_own (name n) m = refl
with_own (number p d) m = refl
with_own (text p d) m = refl
with_own (truth p d) m = refl
with_own (nothing p) m = refl
with_own (tuple p es) m = refl
with_own (list p es) m = refl
with_own (dict p es) m = refl
with_own (negative p e) m = refl
with_own (negation p e) m = refl
with_own (binary p o a b) m = refl
with_own (compare p o a b) m = refl
with_own (is_none p e) m = refl
with_own (is_not_none p e) m = refl
with_own (conjunction p a b) m = refl
with_own (disjunction p a b) m = refl
with_own (attribute p e f) m = refl
with_own (index p a b) m = refl
with_own (call p c args by_name) m = refl

-- a call that is no test of an instance is ordinary
pub ordinary_call : (n : Name) (args : Exprs) (kws : Keywords) → is_instance_test (name n) args kws ≡ false
    → call_form (name n) args kws ≡ ordinary
ordinary_call n no_exprs kws e = refl
ordinary_call n (more_exprs a no_exprs) kws e = refl
ordinary_call n (more_exprs a (more_exprs b (more_exprs c rest))) kws e = refl
ordinary_call n (more_exprs a (more_exprs b no_exprs)) (more_keywords w x rest) e = refl
ordinary_call n (more_exprs a (more_exprs b no_exprs)) no_keywords e =
    ap (λ t. if t then instance_test n a b else ordinary) (same_text_back n.text (codes "isinstance")
    ∙ (sym (and-true (bytes_eq (codes "isinstance") n.text)) ∙ e))

-- ---- values that are called

value_quiet : (t : Tree) → (value_offer t).at_callee ≡ []
value_quiet Any = refl
value_quiet Object = refl
value_quiet Never = refl
value_quiet Int = refl
value_quiet Bool = refl
value_quiet Str = refl
value_quiet NoneType = refl
value_quiet (Class c) = refl
value_quiet (ListOf t) = refl
value_quiet (DictOf s t) = refl
value_quiet (TupleOf ts) = refl
value_quiet (Union a b) = refl

pub values_quiet : (t : Tree) → CalleeCodes (value_offers t) ≡ []
values_quiet t = go (members t)
  where
    go : (ms : List Tree) → CalleeCodes (map value_offer ms) ≡ []
    go [] = refl
    go (x ∷ ms) = λ i. value_quiet x i ++ go ms i

-- where a code stands at a call whatever is called, the call is safe
pub fails_safe :
    (around : Around) (ctx : Context) (fits : IsContextOf around ctx) (parts : Parts Step)
    (good : GoodEval around ctx parts.eval) (evaluates : (e : Expr) → Evaluates (place_of e) (parts.eval e))
    (env : Env)
    → (p : Place) (callee : Step Callee) (offers : List CallOffer) → CalleeCodes offers ≡ []
    → IsSafe around env (λ k. Unit {0}) callee (λ k c. Fails offers)
    → (args : Exprs) (labels : ItemsLabels args) (kws : Keywords) (klabels : KeywordsLabels kws) (here : Label)
    → here ≡ call_label around.bases offers
    → LawfulItems ctx around.declared env (positional_seat offers) args labels
    → LawfulKeywords ctx around.declared env (named_seat offers) [] kws klabels
    → Covered around (ItemsFind args labels) → Covered around (KeywordsFind kws klabels)
    → Covered around (IsFoundAt p here.codes) → ItemsKeyed args labels → KeywordsKeyed kws klabels
    → IsSafe around env (λ k. Unit {0}) (callee >>= λ c. eval_all Step free parts.eval args >>= λ values. eval_keywords
    Step free parts.eval kws >>= λ more. Emits p >>= λ u. call_callee Step free parts c values more)
    (λ k v. HasType around.bases k here.type v)
fails_safe around ctx fits parts good evaluates env p callee offers quiet safe args labels kws klabels here is law klaw
    covered kcovered hcovered keyed kkeyed =
    ordinary_safe around ctx fits parts good evaluates env p callee (λ k c. Fails offers) (λ c k k' x h. h) safe
    (positional_seat offers) (named_seat offers) args labels kws klabels here law klaw covered kcovered hcovered
    keyed kkeyed _
    λ c values more. impossible_safe around env _ _ _ λ k h. let f = h.0.0.0.1 in
    f.found (offer_quiet f.offer offers f.among (all_quiet offers quiet (ap (λ x. x.codes) (sym is) ∙ h.1))).1

-- a value that is called
pub value_callee_safe : (around : Around) (ctx : Context) (parts : Parts Step) (good : GoodEval around ctx parts.eval)
    (env : Env) (e : Expr) (m : Labels e) → Lawful ctx around.declared env None e m → Covered around (Finds e m)
    → Keyed e m → IsSafe around env (λ k. Unit {0}) (parts.eval e >>= λ v. comes (Gives (calls_value v)))
    (λ k c. Fails (value_offers (type_of e m)))
value_callee_safe around ctx parts good env e m law covered keyed =
    bind_safe around env _ _ _ (λ k v. HasType around.bases k (type_of e m) v) _ (λ k k' x h. tt)
    (part around ctx parts good env _ None e m law covered keyed)
    λ v. comes_safe around env _ (Gives (calls_value v)) _ λ k h. values_fail around.bases k (type_of e m) v h.1

-- the callee that a name means which is no function, class or reserved name
meant : (around : Around) (k : HeapTyping) (word : List ℕ) (t : Tree) (m : Meaning)
    → EndsWell (λ v. HasType around.bases k t v) (value_of_meaning m)
    → EndsWell (λ c. Fails (value_offers t)) (callee_of_meaning word m)
meant around k word t (means_value v) h = values_fail around.bases k t v h
meant around k word t means_unbound h = h
meant around k word t (means_function f) h = absurd h
meant around k word t (means_class c) h = absurd h
meant around k word t means_reserved h = absurd h
meant around k word t means_nothing h = h

pub named_value_safe : (around : Around) (ctx : Context) (fits : IsContextOf around ctx) (knows : KnowsNames around ctx)
    (env : Env) (parts : Parts Step) (n : Name) (m : Label) → m ≡ name_label ctx env (ctx.resolve n.text)
    → Covered around (IsFoundAt n.place m.codes) → IsSafe around env (λ k. Unit {0})
    (eval_callee Step free parts (name n)) (λ k c. Fails (value_offers m.type))
named_value_safe around ctx fits knows env parts n m law covered =
    bind_safe around env _ _ _ (λ k u. Unit {0}) _ (λ k k' x h. tt) (may_stop_safe around env _)
    λ u. weaken around env _ (λ k. Unit {0}) _ _ _ (λ k h. tt) (λ k c h. h) (record { run = go })
  where
    -- the result of reading the name as a value
    as_value : (k : HeapTyping) (s s' : State) (events : List Place) (out : Out Value) (also : Out Callee)
        → IsWellTyped around env k s → (Emits n.place >>= λ u. look (λ st. value_of_meaning (meaning_in_run n.text st)))
        s events out s'
        → ((j : HeapTyping) → EndsWell (λ v. HasType around.bases j m.type v) out
        → EndsWell (λ c. Fails (value_offers m.type)) also)
        → HasListed around.listed events ⊎ KeepsState around (λ k c. Fails (value_offers m.type)) k s also s'
    as_value k s s' events out also st r so = elim ((name_safe around ctx fits knows env parts n m law covered).run k s
        s' events out tt st r) [
          | inl h ↦ inl h
          | inr g ↦ inr (record {
            typing = g.typing;
            grows = g.grows;
            well = g.well;
            same_frame = g.same_frame;
            same_globals = g.same_globals;
            same_classes = g.same_classes;
            ends = so g.typing g.ends;
          })
        ]

    fails : Out Callee → Type 0
    fails out = EndsWell (λ c. Fails (value_offers m.type)) out

    go : (k : HeapTyping) (s s' : State) (events : List Place) (out : Out Callee) → Unit {0}
        → IsWellTyped around env k s → (Emits n.place >>= λ u. look
        (λ st. callee_of_meaning n.text (meaning_in_run n.text st))) s events out s' → HasListed around.listed events
        ⊎ KeepsState around (λ k c. Fails (value_offers m.type)) k s out s'
    go k s s' events out knows_nothing st (inl w) = elim w.after [
      | inl l ↦ as_value k s s' events (value_of_meaning (meaning_in_run n.text w.middle)) out st
          (inl (record {
            value = w.value;
            middle = w.middle;
            early = w.early;
            late = w.late;
            before = w.before;
            after =
                inl (record { is = refl; quiet = l.quiet; same = l.same });
            both = w.both;
          }))
          (λ j ends. subst fails (sym l.is) (meant around j n.text m.type (meaning_in_run n.text w.middle) ends))
      | inr e ↦ elim e [
        | inl x ↦ as_value k s s' events (Stops Other) out st
            (inl (record {
              value = w.value;
              middle = w.middle;
              early = w.early;
              late = w.late;
              before = w.before;
              after = inr (inl (record { is = refl; quiet = x.quiet; same = x.same }));
              both = w.both;
            }))
            (λ j ends. subst fails (sym x.is) tt)
        | inr x ↦ as_value k s s' events (Stops Cut) out st
            (inl (record {
              value = w.value;
              middle = w.middle;
              early = w.early;
              late = w.late;
              before = w.before;
              after = inr (inr (record { is = refl; quiet = x.quiet; same = x.same }));
              both = w.both;
            }))
            (λ j ends. subst fails (sym x.is) tt)
      ]
    ]
    go k s s' events out knows_nothing st (inr w) = as_value k s s' events (Stops w.stop) out st
        (inr (record { stop = w.stop; before = w.before; is = refl }))
        (λ j ends. subst fails (sym w.is) (stopped w.stop ends))
      where
        stopped : (stop : Stop) → EndsWell (λ v. HasType around.bases k m.type v) (Stops stop) → fails (Stops stop)
        stopped (Raised e) h = h
        stopped Outside h = h
        stopped Other h = h
        stopped Cut h = h

-- the findings in the arguments of an ordinary call are covered
pub arguments_covered : (around : Around) (c : Expr) (args : Exprs) (kws : Keywords) (labels : ItemsLabels args)
    → is_instance_test c args kws ≡ false → Covered around (ArgumentsFind (is_instance_test c args kws) args labels)
    → Covered around (ItemsFind args labels)
arguments_covered around c args kws labels no_test covered f h =
    covered f (subst (λ t. ArgumentsFind t args labels f) (sym no_test) (as_arguments args labels f h))

-- a finding under labels is one at the expression itself, or one under labels that differ only there
pub finds_under : (P : Finding → Type 0) (e : Expr) (m : Labels e) (own : Label)
    → ((f : Finding) → IsFoundAt (place_of e) (whole_label e m).codes f → P f)
    → ((f : Finding) → Finds e (with_label e m own) f → P f) → (f : Finding) → Finds e m f → P f
finds_under P (name n) m own here others f h = here f h
finds_under P (number p x) m own here others f h = here f h
finds_under P (text p x) m own here others f h = here f h
finds_under P (truth p x) m own here others f h = here f h
finds_under P (nothing p) m own here others f h = here f h
finds_under P (tuple p es) m own here others f h = elim h [ inl a ↦ here f a | inr b ↦ others f (inr b) ]
finds_under P (list p es) m own here others f h = elim h [ inl a ↦ here f a | inr b ↦ others f (inr b) ]
finds_under P (dict p es) m own here others f h = elim h [ inl a ↦ here f a | inr b ↦ others f (inr b) ]
finds_under P (negative p e) m own here others f h = elim h [ inl a ↦ here f a | inr b ↦ others f (inr b) ]
finds_under P (negation p e) m own here others f h = elim h [ inl a ↦ here f a | inr b ↦ others f (inr b) ]
finds_under P (binary p o a b) m own here others f h = elim h [ inl a ↦ here f a | inr b ↦ others f (inr b) ]
finds_under P (compare p o a b) m own here others f h = elim h [ inl a ↦ here f a | inr b ↦ others f (inr b) ]
finds_under P (is_none p e) m own here others f h = elim h [ inl a ↦ here f a | inr b ↦ others f (inr b) ]
finds_under P (is_not_none p e) m own here others f h = elim h [ inl a ↦ here f a | inr b ↦ others f (inr b) ]
finds_under P (conjunction p a b) m own here others f h = elim h [ inl a ↦ here f a | inr b ↦ others f (inr b) ]
finds_under P (disjunction p a b) m own here others f h = elim h [ inl a ↦ here f a | inr b ↦ others f (inr b) ]
finds_under P (attribute p e x) m own here others f h = elim h [ inl a ↦ here f a | inr b ↦ others f (inr b) ]
finds_under P (index p a b) m own here others f h = elim h [ inl a ↦ here f a | inr b ↦ others f (inr b) ]
finds_under P (call p c args kws) m own here others f h = elim h [ inl a ↦ here f a | inr b ↦ others f (inr b) ]
