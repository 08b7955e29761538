-- The order of a module: each item finds bound what it may name, and binds its own name; `main` finds all.
use Rattle.std.proofs.Common.{◌≡◌, ℕ, suc, List, [], ◌∷◌, ◌++◌, length, refl, sym, ap, ◌∙◌, subst, inl, inr, arith}
use Rattle.std.proofs.Common.{Contains}
use Rattle.std.proofs.lemmas.List.Elements.{Contains-append_left, Contains-append_right}
use Rattle.std.specs.Prelude.{◌⊎◌, Bool as Test, true, false, ◌||◌, is_some, nat_lt, Option, Some, None, slice_get}
use Rattle.std.specs.Prelude.{bytes_eq, chars}
use Rattle.std.proofs.lemmas.Bool.Decides.{nat_tests}
use Rattle.std.proofs.lemmas.Slice.Eq.{bytes_eq-Decides}
use Rattle.std.proofs.lemmas.Option.{none-some, same_Some}
use Rattle.std.proofs.lemmas.Bool.{or_parts}
use Rattle.pc_source.specs.declared.place.Place.{Place}
use Rattle.pc_tree.specs.declared.code.Code.{Code}
use Rattle.pc_tree.specs.declared.code.Finding.{Finding}
use Rattle.pc_tree.specs.declared.code.Code.TheVariants.{E12}
use Rattle.pc_tree.specs.Code.{finding}
use Rattle.pc_sound.specs.Silent.{IsSilent, by_code, default, default_place, param_defaults, param_defaults_in}
use Rattle.pc_sound.specs.Silent.{default_places}
use Rattle.pc_tree.specs.Tree.{Ann, Expr, Literal, number_literal, negative_literal, text_literal, truth_literal}
use Rattle.pc_tree.specs.Tree.{none_literal, Param, Constant, ClassDef, FuncDef, constant_item, def_item, Module}
use Rattle.pc_tree.specs.Depth.{place_of}
use Rattle.pc_scope.specs.declared.resolution.NameMeaning.TheVariants as meaning
use Rattle.pc_scope.specs.Reserved.{is_builtin_name}
use Rattle.pc_scope.specs.Bindings.{classes_in}
use Rattle.pc_scope.specs.Resolution.{is_one_of, resolve_in_module}
use Rattle.pc_types.specs.Tree.{Tree}
use Rattle.pc_annotations.specs.Annotations.{read_ann, read_option}
use Rattle.pc_class.specs.Bases.{bases_of}
use Rattle.pc_class.specs.Facts.{parameters_of, classes_of}
use Rattle.pc_rules.specs.Labels.{FlowLabels, Labels, whole_label, type_of, Finds, IsFlowAt, IsCodeAt}
use Rattle.pc_rules.specs.Context.{FlowsInto}
use Rattle.pc_rules.specs.Lawful.{Lawful}
use Rattle.pc_rules.specs.Signatures.{initializer_context, literal_type, literal_place, LawfulDefault, DefaultFinds}
use Rattle.pc_rules.specs.Signatures.{binds_name, ParamsLabels, LawfulParams, ParamsFind, constant_type}
use Rattle.pc_rules.specs.Signatures.{annotated_types, first_of_types}
use Rattle.pc_module_rules.specs.Modules.{}
use Rattle.pc_value.specs.Value as value
use Rattle.pc_value.specs.Value.{Value, boolean, string, Out, Gives}
use Rattle.pc_value.specs.Actions as action
use Rattle.pc_value.specs.Actions.{Action, Outcome, Free}
use Rattle.pc_value.specs.Outcomes.{action_result}
use Rattle.pc_value.specs.Numbers.{number_of_digits, negative_of_digits}
use Rattle.pc_machine.specs.State as state
use Rattle.pc_machine.specs.State.{State, Function, Class, Globals, a_value, a_function, a_class}
use Rattle.pc_machine.specs.Names.{global_by_name, local_by_name}
use Rattle.pc_machine.specs.Steps.{Parts, value_out}
use Rattle.pc_machine.specs.Free.{Step, act, free}
use Rattle.pc_machine.specs.Evaluation.{make_literal, make_default, make_parameters, make_function, binds_global}
use Rattle.pc_machine.specs.Evaluation.{exec_item}
use Rattle.pc_sound.specs.Values.{HeapTyping, HasType, Extends, IsWell}
use Rattle.pc_sound.specs.Ends.{EndsWell}
use Rattle.pc_sound.specs.Loaded.{IsOutsideHeap, DefaultHas, DefaultsHave, MadeOf, ClassIs, ConstantIs, FunctionIs}
use Rattle.pc_sound.proofs.Steps.Judgment.{HasListed, Around, IsWellTyped, IsSafe}
use Rattle.pc_sound.proofs.TruthValues.{not_both}
use Rattle.pc_sound.proofs.Lists.{get_one_more, same_text_back}
use Rattle.pc_sound.proofs.Values.ValuesFlow.{later, of_static}
use Rattle.pc_sound.proofs.Steps.LeadingSteps.{Known, Promised, ends_as}
use Rattle.pc_sound.proofs.Expressions.SimpleExpressions.{Covered, GoodEval}
use Rattle.pc_sound.proofs.Values.Flows.{Evaluates, flow_safe}
use Rattle.pc_sound.proofs.Regular.KeyedLabels.{Keyed}
use Rattle.pc_sound.proofs.Statements.LocalBinding.{IsAtom, atom_flow, one_flow}
use Rattle.pc_sound.proofs.Modules.MainWorld.{made_later, class_later}
use Rattle.pc_sound.proofs.Steps.ModuleSteps.{Arrives, Proceeds, proceeds_bind, proceeds_comes, proceeds_changes}
use Rattle.pc_sound.proofs.Steps.ModuleSteps.{proceeds_charge}
use Rattle.pc_sound.proofs.Modules.ModuleNames.{bound_more, bound_new, bound_other}

-- a code that is there is found at its place
pub code_found : (p : Place) (code : Option Code) (c : Code) → code ≡ Some c → IsCodeAt p code (finding p c)
code_found p None c e = absurd (none-some _ e)
code_found p (Some x) c e = ap (finding p) (sym (same_Some _ _ e))

module _ (m : Module) where
  -- the facts known when some items have run: of the constants with these types, of these functions, of so many
  -- classes, which have bound these names
  pub record BoundSoFar (types : List Tree) (defs : List FuncDef) (n : ℕ) (names : List (List ℕ)) (k : HeapTyping)
      (made : List Class) (globals : Globals) : Type 0 where
    pub constant : (word : List ℕ) (i : ℕ) (t : Tree) → resolve_in_module m word ≡ meaning.Const i
        → slice_get types i ≡ Some t → ConstantIs m k globals word t
    pub function : (word : List ℕ) (i : ℕ) (d : FuncDef) → resolve_in_module m word ≡ meaning.Func i
        → slice_get defs i ≡ Some d → FunctionIs m k globals word d
    pub class : (word : List ℕ) (c : ℕ) → resolve_in_module m word ≡ meaning.Class c → nat_lt c n ≡ true
        → global_by_name word globals ≡ Some (a_class c)
    pub classes : (c : ℕ) (t : ClassDef) → nat_lt c n ≡ true → slice_get (classes_in m.items) c ≡ Some t
        → ClassIs m k made c
    pub count : length made ≡ n
    pub fresh : (word : List ℕ) → is_one_of word names ≡ false → global_by_name word globals ≡ None
    pub free : (word : List ℕ) → is_builtin_name word ≡ true → is_one_of word names ≡ false

  pub bound_later : (types : List Tree) (defs : List FuncDef) (n : ℕ) (names : List (List ℕ)) (k k' : HeapTyping)
      (made : List Class) (globals : Globals) → Extends k k' → BoundSoFar types defs n names k made globals
      → BoundSoFar types defs n names k' made globals
  bound_later types defs n names k k' made globals grows w = record {
    constant = λ word i t r e. let c = w.constant word i t r e in
        record { value = c.value; is = c.is; has = later (bases_of m) grows t c.value c.has };
    function = λ word i d r e. let f = w.function word i d r e in
        record { function = f.function; is = f.is; made = made_later m grows f.function d f.made };
    class = w.class;
    classes = λ c t l e. class_later m grows made c (w.classes c t l e);
    count = w.count;
    fresh = w.fresh;
    free = w.free;
  }

  still_fresh : (name word : List ℕ) (names : List (List ℕ)) (globals : Globals) (b : state.GlobalBinding)
      → ((u : List ℕ) → is_one_of u names ≡ false → global_by_name u globals ≡ None) → is_one_of word (name ∷ names)
      ≡ false → global_by_name word (globals ++ record { name = name; is = b } ∷ []) ≡ None
  still_fresh name word names globals b fresh e =
      let n = or_parts (bytes_eq word name) (is_one_of word names) e in
      bound_other word globals (record { name = name; is = b }) (fresh word n.1) (same_text_back name word ∙ n.0)

  still_free : (name word : List ℕ) (names : List (List ℕ)) → is_builtin_name name ≡ false
      → is_one_of word names ≡ false → is_builtin_name word ≡ true → is_one_of word (name ∷ names) ≡ false
  still_free name word names free others e = go (bytes_eq word name) refl
    where
      go : (c : Test) → bytes_eq word name ≡ c → is_one_of word (name ∷ names) ≡ false
      go true t = absurd (not_both (ap is_builtin_name (sym ((bytes_eq-Decides word name).0 t)) ∙ e) free)
      go false t = ap (λ b. b || is_one_of word names) t ∙ others

  -- one more constant
  pub bound_constant : (types : List Tree) (defs : List FuncDef) (n : ℕ) (names : List (List ℕ)) (k : HeapTyping)
      (made : List Class) (globals : Globals) (name : List ℕ) (t : Tree) (v : Value)
      → ((word : List ℕ) → resolve_in_module m word ≡ meaning.Const (length types) → name ≡ word)
      → is_one_of name names ≡ false → is_builtin_name name ≡ false → HasType (bases_of m) k t v
      → BoundSoFar types defs n names k made globals → BoundSoFar (types ++ t ∷ []) defs n (name ∷ names) k made
      (globals ++ record { name = name; is = a_value v } ∷ [])
  bound_constant types defs n names k made globals name t v means new unreserved has w = record {
    constant = constant;
    function = λ word i d r e. let f = w.function word i d r e in
        record {
          function = f.function;
          is = bound_more word globals (record { name = name; is = a_value v })
              (a_function f.function) f.is;
          made = f.made;
        };
    class = λ word c r l. bound_more word globals (record { name = name; is = a_value v }) (a_class c)
        (w.class word c r l);
    classes = w.classes;
    count = w.count;
    fresh = λ word e. still_fresh name word names globals (a_value v) w.fresh e;
    free = λ word e. still_free name word names unreserved (w.free word e) e;
  }
    where
      constant : (word : List ℕ) (i : ℕ) (u : Tree) → resolve_in_module m word ≡ meaning.Const i
          → slice_get (types ++ t ∷ []) i ≡ Some u → ConstantIs m k (globals ++ record { name = name; is = a_value v }
          ∷ []) word u
      constant word i u r e = elim (get_one_more types t i u e) [
        | inl old ↦ let c = w.constant word i u r old in record {
          value = c.value;
          is =
              bound_more word globals (record { name = name; is = a_value v }) (a_value c.value) c.is;
          has = c.has;
        }
        | inr here ↦
            let same = means word (r ∙ ap meaning.Const here.0) in
            record {
              value = v;
              is = bound_new word globals (record { name = name; is = a_value v })
                  (subst (λ x. global_by_name x globals ≡ None) same (w.fresh name new)) same;
              has =
                  subst (λ x. HasType (bases_of m) k x v) here.1 has;
            }
      ]

  -- one more function
  pub bound_function : (types : List Tree) (defs : List FuncDef) (n : ℕ) (names : List (List ℕ)) (k : HeapTyping)
      (made : List Class) (globals : Globals) (name : List ℕ) (d : FuncDef) (f : Function)
      → ((word : List ℕ) → resolve_in_module m word ≡ meaning.Func (length defs) → name ≡ word)
      → is_one_of name names ≡ false → is_builtin_name name ≡ false → MadeOf m k f d
      → BoundSoFar types defs n names k made globals → BoundSoFar types (defs ++ d ∷ []) n (name ∷ names) k made
      (globals ++ record { name = name; is = a_function f } ∷ [])
  bound_function types defs n names k made globals name d f means new unreserved is_made w = record {
    constant = λ word i t r e. let c = w.constant word i t r e in
        record {
          value = c.value;
          is = bound_more word globals (record { name = name; is = a_function f })
              (a_value c.value) c.is;
          has = c.has;
        };
    function = function;
    class = λ word c r l. bound_more word globals (record { name = name; is = a_function f }) (a_class c)
        (w.class word c r l);
    classes = w.classes;
    count = w.count;
    fresh = λ word e. still_fresh name word names globals (a_function f) w.fresh e;
    free = λ word e. still_free name word names unreserved (w.free word e) e;
  }
    where
      function : (word : List ℕ) (i : ℕ) (e : FuncDef) → resolve_in_module m word ≡ meaning.Func i
          → slice_get (defs ++ d ∷ []) i ≡ Some e → FunctionIs m k (globals ++ record { name = name; is = a_function f }
          ∷ []) word e
      function word i e r at = elim (get_one_more defs d i e at) [
        | inl old ↦ let g = w.function word i e r old in record {
          function = g.function;
          is =
              bound_more word globals (record { name = name; is = a_function f }) (a_function g.function) g.is;
          made =
              g.made;
        }
        | inr here ↦
            let same = means word (r ∙ ap meaning.Func here.0) in
            record {
              function = f;
              is = bound_new word globals (record { name = name; is = a_function f })
                  (subst (λ x. global_by_name x globals ≡ None) same (w.fresh name new)) same;
              made =
                  subst (λ x. MadeOf m k f x) here.1 is_made;
            }
      ]

  -- one more class
  pub bound_class : (types : List Tree) (defs : List FuncDef) (n : ℕ) (names : List (List ℕ)) (k : HeapTyping)
      (made : List Class) (globals : Globals) (name : List ℕ) (class : Class)
      → ((word : List ℕ) → resolve_in_module m word ≡ meaning.Class n → name ≡ word) → is_one_of name names ≡ false
      → is_builtin_name name ≡ false → ((c : ℕ) (t : ClassDef) → nat_lt c (suc n) ≡ true
      → slice_get (classes_in m.items) c ≡ Some t → ClassIs m k (made ++ class ∷ []) c) → length (made ++ class ∷ [])
      ≡ suc n → BoundSoFar types defs n names k made globals → BoundSoFar types defs (suc n) (name ∷ names) k
      (made ++ class ∷ []) (globals ++ record { name = name; is = a_class (length made) } ∷ [])
  bound_class types defs n names k made globals name class means new unreserved all count w = record {
    constant = λ word i t r e. let c = w.constant word i t r e in
        record {
          value = c.value;
          is = bound_more word globals (record { name = name; is = a_class (length made) })
              (a_value c.value) c.is;
          has = c.has;
        };
    function = λ word i d r e. let f = w.function word i d r e in
        record {
          function = f.function;
          is = bound_more word globals
              (record { name = name; is = a_class (length made) }) (a_function f.function) f.is;
          made = f.made;
        };
    class = λ word c r l. go word c r (nat_lt c n) refl l;
    classes = all;
    count = count;
    fresh = λ word e. still_fresh name word names globals (a_class (length made)) w.fresh e;
    free = λ word e. still_free name word names unreserved (w.free word e) e;
  }
    where
      last : (c : ℕ) → nat_lt c n ≡ false → nat_lt c (suc n) ≡ true → c ≡ n
      last c e f = grind (arith, nat_tests, e, f)

      go : (word : List ℕ) (c : ℕ) → resolve_in_module m word ≡ meaning.Class c → (b : Test) → nat_lt c n ≡ b
          → nat_lt c (suc n) ≡ true → global_by_name word (globals ++ record { name = name; is = a_class (length made) }
          ∷ []) ≡ Some (a_class c)
      go word c r true e l = bound_more word globals (record { name = name; is = a_class (length made) }) (a_class c)
          (w.class word c r e)
      go word c r false e l =
          let here = last c e l in
          let same = means word (r ∙ ap meaning.Class here) in
          bound_new word globals (record { name = name; is = a_class (length made) })
          (subst (λ x. global_by_name x globals ≡ None) same (w.fresh name new)) same
          ∙ ap (λ x. Some (a_class x)) (w.count ∙ sym here)

  module _ (listed : Place → Type 0) where
    -- the surroundings of an initializer
    abbrev pub around_items : List Tree → List FuncDef → ℕ → List (List ℕ) → Around
    around_items types defs n names = record {
      bases = bases_of m;
      classes = classes_of m;
      names = [];
      declared = [];
      listed = listed;
      outside = BoundSoFar types defs n names;
      stays = λ k k' made globals grows w. bound_later types defs n names k k' made globals grows w;
    }

    -- the state between two items
    pub record Between (types : List Tree) (defs : List FuncDef) (n : ℕ) (names : List (List ℕ)) (k : HeapTyping)
        (s : State) : Type 0 where
      pub well : IsWell (bases_of m) (classes_of m) k s.heap
      pub frame : s.frame ≡ []
      pub bound : BoundSoFar types defs n names k s.classes s.globals

    pub stands_between : (types : List Tree) (defs : List FuncDef) (n : ℕ) (names : List (List ℕ)) (k : HeapTyping)
        (s : State) → Between types defs n names k s → IsWellTyped (around_items types defs n names) [] k s
    stands_between types defs n names k s b = record {
      well = b.well;
      frame = record { held = λ word x e. absurd (none-some _ e); others = λ word e. ap (local_by_name word) b.frame };
      locals = record { each = λ word x t e f. absurd (none-some _ e) };
      outside = b.bound;
    }

    -- an expression of an initializer
    pub proceeds_safe : {A : Type 0} (types : List Tree) (defs : List FuncDef) (n : ℕ) (names : List (List ℕ))
        (step : Step A) (P : HeapTyping → A → Type 0) → IsSafe (around_items types defs n names) [] (λ k. Unit {0}) step
        P → Proceeds listed (λ k s. Between types defs n names k s) step (λ k a s. Between types defs n names k s
        × P k a)
    proceeds_safe {A} types defs n names step P safe = record { run = go }
      where
        go : (k : HeapTyping) (s s' : State) (events : List Place) (out : Out A) → Between types defs n names k s
            → step s events out s' → HasListed listed events ⊎ Arrives (λ k a s. Between types defs n names k s × P k a)
            out s'
        go k s s' events out b r = elim (safe.run k s s' events out tt (stands_between types defs n names k s b) r) [
          | inl e ↦ inl e
          | inr g ↦ inr (record {
            typing = g.typing;
            ends = ends_as (P g.typing) (λ a. Between types defs n names g.typing s' × P g.typing a) out (λ a p. (
              record {
                well = g.well;
                frame = g.same_frame ∙ b.frame;
                bound = subst (λ x. BoundSoFar types defs n names g.typing x s'.globals) (sym g.same_classes)
                    (subst (λ x. BoundSoFar types defs n names g.typing s.classes x) (sym g.same_globals)
                    (bound_later types defs n names k g.typing s.classes s.globals g.grows b.bound));
              },
              p,
            )) g.ends;
          })
        ]

    -- an action that leaves the heap as it is
    pub proceeds_act : {A : Type 0} (before : Known) (want : Outcome → Out A) (a : Action) (after : Promised A)
        → ((f : Free) (k : HeapTyping) (s : State) → before k s → ((action_result f a s.heap).heap ≡ s.heap)
        × EndsWell (λ x. after k x s) (want (action_result f a s.heap).outcome))
        → Proceeds listed before (act want a) after
    proceeds_act {A} before want a after h = record { run = go }
      where
        go : (k : HeapTyping) (s s' : State) (events : List Place) (o : Out A) → before k s → act want a s events o s'
            → HasListed listed events ⊎ Arrives after o s'
        go k s s' events o b (inl r) =
            let g = h r.free k s b in
            inr (record {
              typing = k;
              ends = subst (EndsWell (λ x. after k x s')) (sym r.is)
                  (subst (λ y. EndsWell (λ x. after k x y) (want (action_result r.free a s.heap).outcome))
                  (sym (r.after ∙ ap (λ x. record s { heap = x }) g.0)) g.1);
            })
        go k s s' events o b (inr e) =
            inr (record {
              typing = k;
              ends = elim e [
                | inl x ↦ subst (EndsWell (λ a. after k a s')) (sym x.is) tt
                | inr x ↦ subst (EndsWell (λ a. after k a s')) (sym x.is) tt
              ];
            })

    -- ---- defaults

    module _ (before : Known) where
      literal_made : (l : Literal) → Proceeds listed before (make_literal Step free l)
          (λ k v s. before k s × (IsOutsideHeap v × HasType (bases_of m) k (literal_type l) v))
      literal_made (number_literal p digits) = proceeds_act before value_out (action.number (number_of_digits digits)) _
          λ f k s b. (refl, (b, (tt, tt)))
      literal_made (negative_literal p digits) = proceeds_act before value_out
          (action.number (negative_of_digits digits)) _ λ f k s b. (refl, (b, (tt, tt)))
      literal_made (text_literal p bytes) = proceeds_comes listed before (Gives (string (chars bytes))) _ λ k s b.
          (b, (tt, tt))
      literal_made (truth_literal p t) = proceeds_comes listed before (Gives (boolean t)) _ λ k s b. (b, (tt, tt))
      literal_made (none_literal p) = proceeds_comes listed before (Gives value.none) _ λ k s b. (b, (tt, tt))

    -- ---- defs

    literal_atom : (l : Literal) → IsAtom (literal_type l)
    literal_atom (number_literal p digits) = tt
    literal_atom (negative_literal p digits) = tt
    literal_atom (text_literal p bytes) = tt
    literal_atom (truth_literal p t) = tt
    literal_atom (none_literal p) = tt

    -- each finding is a listed place, and none is silent
    abbrev pub Listed : (Finding → Type 0) → Type 0
    Listed finds = (f : Finding) → finds f → listed f.place × (¬ (IsSilent m f))

    -- these are places of defaults of the module
    abbrev pub OfDefaults : List Place → Type 0
    OfDefaults places = (p : Place) → Contains places p → Contains (default_places m) p

    module _ (before : Known) where
      -- a default is of the type that it flows into
      pub default_made : (l : Option Literal) (t : Tree) (flows : FlowLabels)
          → LawfulDefault (bases_of m) true l t flows → Listed (DefaultFinds l flows) → OfDefaults (default_place l)
          → Proceeds listed before (make_default Step free l) (λ k v s. before k s
          × DefaultHas (bases_of m) k t (is_some l) v)
      default_made None t flows law clean here = proceeds_comes listed before (Gives None) _ λ k s b. (b, tt)
      default_made (Some l) t flows law clean here =
          let one = one_flow (bases_of m) (record { type = literal_type l; codes = [] }) t flows law in
          let below = atom_flow (bases_of m) (literal_type l) t one.0.code (literal_atom l) one.2.code
          (λ e. (clean (finding (literal_place l) E12) (record {
            flow = one.0;
            among = subst (λ fs. Contains fs one.0)
                (sym one.1) (0, omega arith, refl);
            code = E12;
            found = e;
            is = refl;
          })).1 (default refl (here (literal_place l) (0, omega arith, refl)))) in
          proceeds_bind listed before _ _
          (λ k v s. before k s × (IsOutsideHeap v × HasType (bases_of m) k (literal_type l) v)) _ (literal_made before l)
          λ v. proceeds_comes listed _ (Gives (Some v)) _ λ k s b.
          (b.0, (b.1.0, of_static (bases_of m) k (literal_type l) t below v b.1.1))

    -- no parameter's name stands twice or is reserved
    abbrev pub ParametersBind : List (List ℕ) → List Param → Type 0
    ParametersBind names [] = Unit {0}
    ParametersBind names (p ∷ ps) = (binds_name names p.name ≡ true) × ParametersBind (p.name.text ∷ names) ps

    -- the parameters of a def, with their defaults
    parameters_made : (before : Known) (names : List (List ℕ)) (ps : List Param) (labels : ParamsLabels ps)
        → LawfulParams m names ps labels → ParametersBind names ps → Listed (ParamsFind m ps labels)
        → OfDefaults (param_defaults ps) → Proceeds listed before (make_parameters Step free ps) (λ k qs s. before k s
        × DefaultsHave (bases_of m) k qs (parameters_of m ps))
    parameters_made before names [] labels law binds clean here = proceeds_comes listed before (Gives []) _ λ k s b.
        (b, tt)
    parameters_made before names (p ∷ ps) labels law binds clean here =
        proceeds_bind listed before _ _ (λ k v s. before k s × DefaultHas (bases_of m) k
        (read_option m (bases_of m) p.annotation) (is_some p.default) v) _
        (default_made before p.default (read_option m (bases_of m) p.annotation) labels.default
        (subst (λ b. LawfulDefault (bases_of m) b p.default (read_option m (bases_of m) p.annotation)
        labels.default) binds.0 law.default) (λ f h. clean f (inr (inl h)))
        (λ q c. here q (Contains-append_left (default_place p.default) (param_defaults ps) q c)))
        λ v. proceeds_bind listed _ _ _
        (λ k qs s. (before k s × DefaultHas (bases_of m) k (read_option m (bases_of m) p.annotation)
        (is_some p.default) v) × DefaultsHave (bases_of m) k qs (parameters_of m ps)) _
        (parameters_made (λ k s. before k s × DefaultHas (bases_of m) k (read_option m (bases_of m) p.annotation)
        (is_some p.default) v) (p.name.text ∷ names) ps labels.rest law.rest binds.1 (λ f h. clean f (inr (inr h)))
        (λ q c. here q (Contains-append_right (default_place p.default) (param_defaults ps) q c)))
        λ qs. proceeds_comes listed _ (Gives (record { name = p.name.text; default = v } ∷ qs)) _ λ k s b.
        (b.0.0, (refl, (b.0.1, b.1)))

    -- a def makes its function
    pub function_made : (before : Known) (names : List (List ℕ)) (d : FuncDef) (labels : ParamsLabels d.params)
        → LawfulParams m names d.params labels → ParametersBind names d.params → Listed (ParamsFind m d.params labels)
        → OfDefaults (param_defaults_in d) → Proceeds listed before (make_function Step free d)
        (λ k f s. before k s × MadeOf m k f d)
    function_made before names d labels law binds clean here =
        proceeds_bind listed before _ _ (λ k qs s. before k s × DefaultsHave (bases_of m) k qs
        (parameters_of m d.params)) _ (parameters_made before names d.params labels law binds clean here)
        λ qs. proceeds_comes listed _ (Gives (record { name = d.name; parameters = qs; body = d.body })) _ λ k s b.
        (b.0, record { name = refl; body = refl; parameters = b.1 })

    -- ---- items

    module _ (parts : Parts Step) (imports : Test) (types : List Tree) (defs : List FuncDef) (n : ℕ)
        (names : List (List ℕ)) where
      -- a def binds its name
      pub def_proceeds : (p : Place) (d : FuncDef) (labels : ParamsLabels d.params) → LawfulParams m [] d.params labels
          → ParametersBind [] d.params → Listed (ParamsFind m d.params labels) → OfDefaults (param_defaults_in d)
          → ((word : List ℕ) → resolve_in_module m word ≡ meaning.Func (length defs) → d.name.text ≡ word)
          → is_one_of d.name.text names ≡ false → is_builtin_name d.name.text ≡ false
          → Proceeds listed (λ k s. Between types defs n names k s) (exec_item Step free parts imports (def_item p d))
          (λ k u s. Between types (defs ++ d ∷ []) n (d.name.text ∷ names) k s)
      def_proceeds p d labels law binds clean here means new unreserved =
          proceeds_bind listed _ _ _ (λ k f s. Between types defs n names k s × MadeOf m k f d) _
          (function_made (λ k s. Between types defs n names k s) [] d labels law binds clean here)
          λ f. proceeds_changes listed _ (binds_global d.name.text (a_function f)) _ λ k s b.
          record {
            well = b.0.well;
            frame = b.0.frame;
            bound = bound_function types defs n names k s.classes
                s.globals d.name.text d f means new unreserved b.1 b.0.bound;
          }

      -- a constant binds its name to a value of its type
      pub constant_proceeds : (p : Place) (c : Constant) (labels : Labels c.value) (flows : FlowLabels)
          → GoodEval (around_items types defs n names) (initializer_context m types n) parts.eval
          → ((e : Expr) → Evaluates (place_of e) (parts.eval e))
          → Lawful (initializer_context m types n) [] [] (first_of_types (annotated_types m true c.annotation)) c.value
          labels → FlowsInto (bases_of m) (whole_label c.value labels) (annotated_types m true c.annotation) flows
          → Listed (λ f. IsFlowAt (place_of c.value) flows f ⊎ Finds c.value labels f) → Keyed c.value labels
          → ((word : List ℕ) → resolve_in_module m word ≡ meaning.Const (length types) → c.name.text ≡ word)
          → is_one_of c.name.text names ≡ false → is_builtin_name c.name.text ≡ false
          → Proceeds listed (λ k s. Between types defs n names k s)
          (exec_item Step free parts imports (constant_item p c))
          (λ k u s. Between (types ++ constant_type m c.annotation (type_of c.value labels) ∷ []) defs n
          (c.name.text ∷ names) k s)
      constant_proceeds p c labels flows good evaluates law flow clean keyed means new unreserved =
          proceeds_bind listed _ _ _ (λ k u s. Between types defs n names k s) _ (proceeds_charge listed _)
          λ u. proceeds_bind listed _ _ _ (λ k v s. Between types defs n names k s
          × HasType (bases_of m) k (constant_type m c.annotation (type_of c.value labels)) v) _
          (proceeds_safe types defs n names (parts.eval c.value) (λ k v. HasType (bases_of m) k
          (constant_type m c.annotation (type_of c.value labels)) v) (typed c.annotation law flow))
          λ v. proceeds_changes listed _ (binds_global c.name.text (a_value v)) _ λ k s b.
          record {
            well = b.0.well;
            frame = b.0.frame;
            bound = bound_constant types defs n names k s.classes
                s.globals c.name.text (constant_type m c.annotation (type_of c.value labels)) v means new unreserved b.1
                b.0.bound;
          }
        where
          covered : Covered (around_items types defs n names)
              (λ f. IsFlowAt (place_of c.value) flows f ⊎ Finds c.value labels f)
          covered f h = let g = clean f h in (g.0, λ s. g.1 (by_code s))

          typed : (a : Option Ann) → Lawful (initializer_context m types n) [] []
              (first_of_types (annotated_types m true a)) c.value labels
              → FlowsInto (bases_of m) (whole_label c.value labels) (annotated_types m true a) flows
              → IsSafe (around_items types defs n names) [] (λ k. Unit {0}) (parts.eval c.value)
              (λ k v. HasType (bases_of m) k (constant_type m a (type_of c.value labels)) v)
          typed None l fl = good.safe [] None c.value labels l (λ f h. covered f (inr h)) keyed
          typed (Some a) l fl =
              let one = one_flow (bases_of m) (whole_label c.value labels) (read_ann m (bases_of m) a) flows fl in
              flow_safe (around_items types defs n names) (initializer_context m types n) parts.eval good evaluates []
              (λ k. Unit {0}) (Some (read_ann m (bases_of m) a)) c.value labels (read_ann m (bases_of m) a) one.0 l
              (λ f h. covered f (inr h)) one.2 (subst (λ x. Covered (around_items types defs n names)
              (IsFlowAt (place_of c.value) x)) one.1 (λ f h. covered f (inl h))) keyed
