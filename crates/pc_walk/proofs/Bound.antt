-- Bound names: their declared types, and the result of binding a local to a label.
use Rattle.std.proofs.Common.{◌≡◌, ◌∙◌, ℕ, List, [], ◌∷◌, ◌++◌, Option, Some, None, refl, sym, ap, subst, arith}
use Rattle.std.specs.Prelude.{true, false, is_some, slice_set, slice_index_or, unwrap_or, map}
use Rattle.std.specs.Option.{option_map}
use Rattle.pc_source.specs.declared.place.Place.{Place}
use Rattle.pc_tree.specs.declared.code.Code.{Code}
use Rattle.pc_tree.specs.declared.code.Code.TheVariants.{E24}
use Rattle.pc_tree.specs.Code.{finding}
use Rattle.pc_tree.specs.Depth.{place_of}
use Rattle.pc_tree.specs.Tree.{Name, Ann, Expr}
use Rattle.pc_annotations.specs.Listed.{ann_findings}
use Rattle.pc_scope.specs.declared.resolution.NameMeaning.{NameMeaning}
use Rattle.pc_scope.specs.declared.resolution.NameMeaning.TheVariants as meaning
use Rattle.pc_types.specs.Tree.{Tree, Any}
use Rattle.pc_types.specs.Below.{Bases}
use Rattle.pc_types.specs.WellFormed.{IsWellFormed}
use Rattle.pc_types.specs.Computed.{static_test, assignable_test}
use Rattle.pc_flow.specs.Environment.{Env, assign, assigned_type}
use Rattle.pc_flow.specs.Stored.{env_of}
use Rattle.pc_flow.proofs.Assigned.{assigned_gives, set_well_formed, local_current}
use Rattle.pc_flow.proofs.Conditions.{assigned_well_formed, current_well_formed}
use Rattle.pc_notes.specs.Notes.{Note, plain_note}
use Rattle.pc_rules.specs.Operations.{Label}
use Rattle.pc_rules.specs.Context.{is_early}
use Rattle.pc_rules.specs.Computed.Expressions.{code_unless, flows_of}
use Rattle.pc_rules.specs.Computed.Findings.{brief, flow_at, flow_then, flows_at}
use Rattle.pc_rules.specs.Computed.Standing.{label_with, label_in, finds_in}
use Rattle.pc_rules.specs.declared.label.Label.{Label as RustLabel}
use Rattle.pc_rules.proofs.Flowing.{one_flow}
use Rattle.pc_rules.proofs.Once.{once_early}
use Rattle.pc_flow.specs.WellFormed.{IsWellFormedIfAny}
use Rattle.pc_module_rules.specs.Statements.{only_code}
use Rattle.pc_module_rules.specs.Computed.Statements.{BodyContext, DeclaredTypes, BindingResult, with_declared, known_declared}
use Rattle.pc_module_rules.specs.Computed.Statements.{standing_here, bound_type, bound_name, bind_label, bind_value, bind_item}
use Rattle.pc_module_rules.specs.Computed.Statements.{declared_alone, annotation_finds}
use Rattle.pc_walk.specs.StatementsHeld.{HoldsType, HoldsTypeIfAny, HoldsTypes, GivesTypes, GivesBound, bound_with}
use Rattle.pc_walk.specs.AnnotatedNames.{annotation_unless, declared_by}
use Rattle.pc_flow.specs.Stored.{GivesOne}

-- the label's code of being early is that of the label
pub early_alike : {Ty : Type 0} (tree : Ty → Tree) (l : RustLabel Ty) (m : Label) → label_with tree l ≡ brief m
    → is_early l.codes.items ≡ is_early m.codes
early_alike tree l m e = ap (λ (x : Label). is_early x.codes) e ∙ once_early m.codes

-- the code of a flow of a label is that of its label
pub code_alike : {Ty : Type 0} (tree : Ty → Tree) (bases : Bases) (l : RustLabel Ty) (m : Label) (d : Tree)
    → label_with tree l ≡ brief m → code_unless (static_test bases) (assignable_test bases) (is_early l.codes.items)
    (tree l.ty) d ≡ code_unless (static_test bases) (assignable_test bases) (is_early m.codes) m.type d
code_alike tree bases l m d e = ap (λ (b : _). code_unless (static_test bases) (assignable_test bases) b (tree l.ty) d)
    (early_alike tree l m e) ∙ ap (λ (x : Label). code_unless (static_test bases) (assignable_test bases)
    (is_early m.codes) x.type d) e

-- the finding of a flow is the same for a label of the program and for the label that it means
pub flow_found : {Ty : Type 0} (tree : Ty → Tree) (bases : Bases) (p : Place) (l : RustLabel Ty) (m : Label) (into : Ty)
    (code : Option Code) (old new : List Note)
    → label_with tree l ≡ brief m
    → code ≡ code_unless (static_test bases) (assignable_test bases) (is_early l.codes.items) (tree l.ty) (tree into)
    → new ≡ old ++ flow_at p (tree l.ty) (tree into) code
    → new ≡ old ++ flows_at p (flows_of bases m (tree into ∷ []))
flow_found tree bases p l m into code old new e ec en =
    let types = ap (λ (x : Label). x.type) e in
    let codes = ec ∙ code_alike tree bases l m (tree into) e in
    en ∙ ap (λ (ns : List Note). old ++ ns)
    (one_flow p (tree l.ty) (tree into) code
    ∙ (λ i. flow_then p [] (types i) (tree into) (codes i) (λ cs. [])))

-- a local bound to a value of which this is expected
abbrev bind_known : BodyContext → DeclaredTypes → Env → ℕ → (want : Option Tree) → Expr → List Note → BindingResult
bind_known context table env x want e found = bind_label context table env x want (place_of e)
    (label_in (standing_here context table env) want e) (found ++ finds_in (standing_here context table env) want e)

-- a local bound to a label, by the classes' bases alone
abbrev bind_over : Bases → DeclaredTypes → Env → ℕ → (want : Option Tree) → Place → Label → List Note → BindingResult
bind_over bases table env x want p m found =
    let d = unwrap_or want m.type in
    let flows = flows_of bases m (d ∷ []) in
    record {
      table = with_declared (bound_type table x) table x d;
      env = assign env x (assigned_type d m.type (only_code flows));
      found = found ++ flows_at p flows;
    }

module _ {Store Ty : Type 0} (has : Store → Ty → Type 0) (tree : Ty → Tree) (bases : Bases) (store : Store) where
  -- a local of a well-formed type
  pub set_gives : (types : List (Option Ty)) (x : ℕ) (d : Ty) → HoldsType (has store) tree bases d
      → HoldsTypes (has store) tree bases types → GivesTypes has tree bases store (slice_set types x (Some d))
      (slice_set (env_of tree types) x (Some (tree d)))
  set_gives types x d h k = let a = assigned_gives has tree store types x d (env_of tree types) h.given
      (record { given = k.given; is = refl }) in record {
        holds = record {
          given = a.given;
          well_formed = set_well_formed tree bases types x d h.well_formed k.well_formed;
        };
        is = a.is;
      }

  either_declared : (o : Option Ty) (types : List (Option Ty)) (x : ℕ) (d : Ty) → HoldsType (has store) tree bases d
      → HoldsTypes (has store) tree bases types → GivesTypes has tree bases store (with_declared o types x d)
      (with_declared (option_map tree o) (env_of tree types) x (tree d))
  either_declared (Some c) types x d h k = record { holds = k; is = refl }
  either_declared None types x d h k = set_gives types x d h k

  pub bound_is : (types : List (Option Ty)) (x : ℕ) → bound_type (env_of tree types) x ≡ option_map tree
      (slice_index_or types x None)
  bound_is types x = local_current tree types x (slice_index_or types x None) refl

  -- a local that is declared with this type, unless it has one already
  pub declared_gives : (types : List (Option Ty)) (x : ℕ) (d : Ty) → HoldsType (has store) tree bases d
      → HoldsTypes (has store) tree bases types → GivesTypes has tree bases store
      (with_declared (slice_index_or types x None) types x d) (with_declared (bound_type (env_of tree types) x)
      (env_of tree types) x (tree d))
  declared_gives types x d h k = subst (λ o. GivesTypes has tree bases store
      (with_declared (slice_index_or types x None) types x d) (with_declared o (env_of tree types) x (tree d)))
      (sym (bound_is types x)) (either_declared (slice_index_or types x None) types x d h k)

  -- the declared type known for a local is well-formed
  known_by : (o annotation : Option Tree) → IsWellFormedIfAny bases o → IsWellFormedIfAny bases annotation
      → IsWellFormedIfAny bases (known_declared o annotation)
  known_by (Some d) annotation h k = h
  known_by None annotation h k = k

  pub holds_one : (ty : Option Ty) (t : Option Tree) → GivesOne has tree store ty t → IsWellFormedIfAny bases t
      → HoldsTypeIfAny (has store) tree bases ty
  holds_one None t g w = tt
  holds_one (Some ty) t g w = record { given = g.given; well_formed = subst (IsWellFormedIfAny bases) (sym g.is) w }

  pub known_holds : (types : List (Option Ty)) (x : ℕ) (annotation : Option Tree) (ty : Option Ty)
      → HoldsTypes (has store) tree bases types → IsWellFormedIfAny bases annotation
      → GivesOne has tree store ty (known_declared (bound_type (env_of tree types) x) annotation)
      → HoldsTypeIfAny (has store) tree bases ty
  known_holds types x annotation ty h k g = holds_one ty (known_declared (bound_type (env_of tree types) x) annotation)
      g (known_by (bound_type (env_of tree types) x) annotation (current_well_formed bases (env_of tree types) x
      h.well_formed) k)

  module _ (context : BodyContext) (b : bases ≡ context.context.bases) where
    -- a local bound to a label
    pub label_bound : (types env : List (Option Ty)) (x : ℕ) (want : Option Tree) (p : Place) (l : RustLabel Ty)
        (m : Label) (before found : List Note) (d current : Ty) (code : Option Code) →
        label_with tree l ≡ brief m →
        HoldsType (has store) tree bases d →
        tree d ≡ unwrap_or want (tree l.ty) →
        code ≡ code_unless (static_test bases) (assignable_test bases) (is_early l.codes.items) (tree l.ty) (tree d) →
        has store current →
        tree current ≡ assigned_type (tree d) (tree l.ty) code →
        IsWellFormed bases (tree l.ty) →
        found ≡ before ++ flows_at p (flows_of bases m (tree d ∷ [])) →
        HoldsTypes (has store) tree bases types →
        HoldsTypes (has store) tree bases env →
        GivesBound has tree bases store (with_declared (slice_index_or types x None) types x d)
        (slice_set env x (Some current)) found (bind_label context (env_of tree types) (env_of tree env) x want p m
        before)
    label_bound types env x want p l m before found d current code e hd ed ec hc et wl ef ht he =
        let type_is : tree l.ty ≡ m.type = ap (λ (y : Label). y.type) e in
        let d_is : tree d ≡ unwrap_or want m.type = ed ∙ ap (unwrap_or want) type_is in
        let current_holds : HoldsType (has store) tree bases current =
        record {
          given = hc;
          well_formed = subst (IsWellFormed bases) (sym et)
              (assigned_well_formed bases (tree d) (tree l.ty) code hd.well_formed wl);
        } in
        let declared = declared_gives types x d hd ht in
        let after = set_gives env x current current_holds he in
        let code_is : code ≡ code_unless (static_test bases) (assignable_test bases) (is_early m.codes) m.type
        (tree d) = ec ∙ code_alike tree bases l m (tree d) e in
        let T = env_of tree types in
        let E = env_of tree env in
        record {
          declared_holds = declared.holds;
          env_holds = after.holds;
          is = subst (λ (bs : Bases). bound_with tree (with_declared (slice_index_or types x None) types x d)
              (slice_set env x (Some current)) found ≡ bind_over bs T E x want p m before) b (λ i. record {
                table = (declared.is ∙ ap (λ t. with_declared (bound_type T x) T x t) d_is) i;
                env = (after.is ∙ ap (λ t. assign E x t) (et ∙ ap (λ t. assigned_type (tree d) t code) type_is
                    ∙ ap (λ c. assigned_type (tree d) m.type c) code_is
                    ∙ ap (λ t. assigned_type t m.type (code_unless (static_test bases) (assignable_test bases)
                    (is_early m.codes) m.type t)) d_is)) i;
                found = (ef ∙ ap (λ t. before ++ flows_at p (flows_of bases m (t ∷ []))) d_is) i;
              });
        }

-- a type or another one is well-formed
pub or_well_formed : (bases : Bases) (o : Option Tree) (t : Tree) → IsWellFormedIfAny bases o → IsWellFormed bases t
    → IsWellFormed bases (unwrap_or o t)
or_well_formed bases None t h k = k
or_well_formed bases (Some d) t h k = h

-- ---- annotations

-- of a name that is bound
pub bound_unless : (o : Option Tree) (t : Tree) → is_some o ≡ true → annotation_unless o t ≡ None
bound_unless (Some d) t e = refl
bound_unless None t e = absurd (grind (arith, e))

pub bound_finds : (context : BodyContext) (o : Option Tree) (n : Name) (a : Ann) → is_some o ≡ true
    → annotation_finds context o n a ≡ plain_note (finding n.place E24) ∷ []
bound_finds context (Some d) n a e = refl
bound_finds context None n a e = absurd (grind (arith, e))

-- of a name that is not
pub first_unless : (o : Option Tree) (t : Tree) → is_some o ≡ false → annotation_unless o t ≡ Some t
first_unless (Some d) t e = absurd (grind (arith, e))
first_unless None t e = refl

pub first_finds : (context : BodyContext) (o : Option Tree) (n : Name) (a : Ann) → is_some o ≡ false
    → annotation_finds context o n a ≡ map plain_note (ann_findings context.whole context.context.bases a)
first_finds context (Some d) n a e = absurd (grind (arith, e))
first_finds context None n a e = refl

-- an annotation that doesn't count changes nothing of a value that is bound
pub value_unless : (context : BodyContext) (table : DeclaredTypes) (env : Env) (r : NameMeaning) (t : Tree) (e : Expr)
    (found : List Note) → bind_value context table env r (annotation_unless (bound_name context table r) t) e found
    ≡ bind_value context table env r (Some t) e found
value_unless context table env (meaning.Local x) t e found = go (bound_type table x)
  where
    go : (o : Option Tree) → bind_known context table env x (known_declared o (annotation_unless o t)) e found
        ≡ bind_known context table env x (known_declared o (Some t)) e found
    go None = refl
    go (Some d) = refl
value_unless context table env (meaning.Const i) t e found = refl
value_unless context table env (meaning.Func i) t e found = refl
value_unless context table env (meaning.Class i) t e found = refl
value_unless context table env (meaning.Builtin b) t e found = refl
value_unless context table env meaning.None t e found = refl

-- ---- names that are no locals

pub value_elsewhere : (context : BodyContext) (table : DeclaredTypes) (env : Env) (r : NameMeaning) (a : Option Tree) (e : Expr)
    (found : List Note) → ((x : ℕ) → r ≡ meaning.Local x → ⊥) → bind_value context table env r a e found
    ≡ record { table = table; env = env; found = found ++ finds_in (standing_here context table env) None e }
value_elsewhere context table env (meaning.Local x) a e found h = absurd (h x refl)
value_elsewhere context table env (meaning.Const i) a e found h = refl
value_elsewhere context table env (meaning.Func i) a e found h = refl
value_elsewhere context table env (meaning.Class i) a e found h = refl
value_elsewhere context table env (meaning.Builtin b) a e found h = refl
value_elsewhere context table env meaning.None a e found h = refl

-- likewise the target of a `for`
pub item_elsewhere : (context : BodyContext) (table : DeclaredTypes) (head : Env) (r : NameMeaning) (p : Place) (t : Tree)
    (found : List Note)
    → ((x : ℕ) → r ≡ meaning.Local x → ⊥)
    → bind_item context table head r p t found ≡ record { table = table; env = head; found = found }
item_elsewhere context table head (meaning.Local x) p t found h = absurd (h x refl)
item_elsewhere context table head (meaning.Const i) p t found h = refl
item_elsewhere context table head (meaning.Func i) p t found h = refl
item_elsewhere context table head (meaning.Class i) p t found h = refl
item_elsewhere context table head (meaning.Builtin b) p t found h = refl
item_elsewhere context table head meaning.None p t found h = refl

-- ---- names that are annotated alone

some_one : {A : Type 0} {x y : A} → Some x ≡ Some y → x ≡ y
some_one {x = x} e = ap (λ o. unwrap_or o x) e

module _ {Store Ty : Type 0} (has : Store → Ty → Type 0) (tree : Ty → Tree) (bases : Bases) (store : Store) where
  local_alone : (types : List (Option Ty)) (x : ℕ) (ty : Option Ty) (t : Tree) (o : Option Tree)
      → bound_type (env_of tree types) x ≡ o → option_map tree ty ≡ annotation_unless o t
      → HoldsTypeIfAny (has store) tree bases ty → HoldsTypes (has store) tree bases types
      → GivesTypes has tree bases store (declared_by types (meaning.Local x) ty) (with_declared o (env_of tree types) x t)
  local_alone types x None t (Some c) b e h k = record { holds = k; is = refl }
  local_alone types x (Some d) t (Some c) b e h k = absurd (grind (arith, e))
  local_alone types x None t None b e h k = absurd (grind (arith, e))
  local_alone types x (Some d) t None b e h k =
      subst (λ u. GivesTypes has tree bases store (declared_by types (meaning.Local x) (Some d))
      (with_declared None (env_of tree types) x u)) (some_one e)
      (subst (λ o. GivesTypes has tree bases store (declared_by types (meaning.Local x) (Some d))
      (with_declared o (env_of tree types) x (tree d))) b (declared_gives has tree bases store types x d h k))

  pub alone_gives : (context : BodyContext) (types : List (Option Ty)) (r : NameMeaning) (ty : Option Ty) (t : Tree)
      → option_map tree ty ≡ annotation_unless (bound_name context (env_of tree types) r) t
      → HoldsTypeIfAny (has store) tree bases ty → HoldsTypes (has store) tree bases types
      → GivesTypes has tree bases store (declared_by types r ty) (declared_alone context (env_of tree types) r t)
  alone_gives context types (meaning.Local x) ty t e h k = local_alone types x ty t (bound_type (env_of tree types) x) refl
      e h k
  alone_gives context types (meaning.Const i) ty t e h k = record { holds = k; is = refl }
  alone_gives context types (meaning.Func i) ty t e h k = record { holds = k; is = refl }
  alone_gives context types (meaning.Class i) ty t e h k = record { holds = k; is = refl }
  alone_gives context types (meaning.Builtin b) ty t e h k = record { holds = k; is = refl }
  alone_gives context types meaning.None ty t e h k = record { holds = k; is = refl }

-- the declared type known without an annotation is the one already bound
pub known_bound : (o : Option Tree) → known_declared o None ≡ o
known_bound None = refl
known_bound (Some d) = refl

-- a local that gets Any where it has no declared type
pub declared_any : {Store Ty : Type 0} (has : Store → Ty → Type 0) (tree : Ty → Tree) (bases : Bases) (store : Store)
    (types : List (Option Ty)) (x : ℕ) (d : Ty) → has store d → tree d ≡ Any → HoldsTypes (has store) tree bases types
    → GivesTypes has tree bases store (with_declared (slice_index_or types x None) types x d)
    (with_declared (bound_type (env_of tree types) x) (env_of tree types) x Any)
declared_any has tree bases store types x d h e k =
    subst (λ t. GivesTypes has tree bases store (with_declared (slice_index_or types x None) types x d)
    (with_declared (bound_type (env_of tree types) x) (env_of tree types) x t)) e
    (declared_gives has tree bases store types x d (record {
      given = h;
      well_formed = subst (IsWellFormed bases) (sym e)
          (tt, tt, omega arith);
    }) k)
