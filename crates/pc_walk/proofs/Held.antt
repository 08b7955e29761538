-- Types of the store are kept, well-formed types stay well-formed, and environments and tables of the program keep
-- their meaning.
use Rattle.std.proofs.Common.{◌≡◌, ◌++◌, List, [], ◌∷◌, Option, Some, None, refl, sym, ap, subst, arith}
use Rattle.std.specs.Prelude.{All, unwrap_or}
use Rattle.std.specs.Option.{option_map}
use Rattle.std.proofs.lemmas.List.Elements.{All-weaker}
use Rattle.pc_tree.specs.Tree.{Expr}
use Rattle.pc_types.specs.Tree.{Tree, Any}
use Rattle.pc_types.specs.Below.{Bases}
use Rattle.pc_types.specs.Store.{KeepsTypes}
use Rattle.pc_types.specs.WellFormed.{IsWellFormed}
use Rattle.pc_class.specs.Tables.{ClassEntry, HasEntry, HasMethod, HasParameter}
use Rattle.pc_class.specs.declared.table.Parameter.{Parameter as RustParameter}
use Rattle.pc_class.specs.declared.table.Method.{Method as RustMethod}
use Rattle.pc_flow.specs.Environment.{Env}
use Rattle.pc_flow.specs.WellFormed.{IsWellFormedEnv, AreWellFormed, IsWellFormedIfAny}
use Rattle.pc_flow.specs.Stored.{env_of, declared_of, GivesEnv}
use Rattle.pc_flow.proofs.Given.{each_kept}
use Rattle.pc_rules.specs.Operations.{Label}
use Rattle.pc_rules.specs.Laws.WellFormed.{ContextWellFormed}
use Rattle.pc_rules.specs.Computed.Standing.{Standing, HasIfAny, HasSignature, MeansLabel, label_in}
use Rattle.pc_rules.proofs.ComputedLawful.{labels_are_lawful}
use Rattle.pc_rules.specs.declared.expr_context.Signature.{Signature as RustSignature}
use Rattle.pc_rules.specs.declared.label.Label.{Label as RustLabel}
use Rattle.pc_rules.specs.Computed.ModuleParents.{class_parents}
use Rattle.pc_walk.specs.declared.context.BodyContext.{BodyContext as RustBodyContext}
use Rattle.pc_module_rules.specs.Computed.Statements.{DeclaredTypes, type_table}
use Rattle.pc_walk.specs.StatementsHeld.{HoldsType, HoldsTypeIfAny, HoldsTypes, HoldsTypesIfAny, HoldsContext}
use Rattle.pc_walk.specs.StatementsHeld.{GivesLabel, GivesTypes}

-- the declared types that a table of the program means
pub declared_is : {Ty : Type 0} (tree : Ty → Tree) (types : List (Option Ty))
    → declared_of tree types ≡ type_table (env_of tree types)
declared_is tree [] = refl
declared_is tree (o ∷ os) = ap (λ ts. type_table (option_map tree o ∷ []) ++ ts) (declared_is tree os)

-- the declared types of a table are well-formed
one_well_formed : (bases : Bases) (t : Option Tree) → IsWellFormedIfAny bases t → IsWellFormed bases (unwrap_or t Any)
one_well_formed bases None h = (tt, tt, omega arith)
one_well_formed bases (Some t) h = h

pub table_well_formed : (bases : Bases) (table : DeclaredTypes) → IsWellFormedEnv bases table
    → AreWellFormed bases (type_table table)
table_well_formed bases [] h = tt
table_well_formed bases (t ∷ ts) h = (one_well_formed bases t h.0, table_well_formed bases ts h.1)

pub declared_well_formed : {Ty : Type 0} (tree : Ty → Tree) (bases : Bases) (types : List (Option Ty))
    → IsWellFormedEnv bases (env_of tree types) → AreWellFormed bases (declared_of tree types)
declared_well_formed tree bases types h = subst (AreWellFormed bases) (sym (declared_is tree types))
    (table_well_formed bases (env_of tree types) h)

-- the type of an expression is well-formed
pub label_well_formed : (k : Standing) (want : Option Tree) (e : Expr) → ContextWellFormed k.context
    → AreWellFormed k.context.bases k.declared → IsWellFormedEnv k.context.bases k.env
    → IsWellFormedIfAny k.context.bases want → IsWellFormed k.context.bases (label_in k want e).type
unfolding label_in
label_well_formed k want e c d w o = (labels_are_lawful k.context k.declared k.env want e c d w o).1

pub want_given : {Ty : Type 0} (P : Ty → Type 0) (tree : Ty → Tree) (bases : Bases) (want : Option Ty)
    → HoldsTypeIfAny P tree bases want → HasIfAny P want
want_given P tree bases None h = tt
want_given P tree bases (Some ty) h = h.given

module _ {Store Ty : Type 0} (has : Store → Ty → Type 0) (tree : Ty → Tree) (bases : Bases) where
  pub gives_label : (store : Store) (l : RustLabel Ty) (k : Standing) (want : Option Tree) (e : Expr)
      → k.context.bases ≡ bases → ContextWellFormed k.context → AreWellFormed k.context.bases k.declared
      → IsWellFormedEnv k.context.bases k.env → IsWellFormedIfAny k.context.bases want
      → MeansLabel has tree store l (label_in k want e) → GivesLabel has tree bases store l (label_in k want e)
  gives_label store l k want e b c d w o m = record {
    label = m;
    well_formed = subst (IsWellFormed bases) (sym (ap (λ (x : Label). x.type) m.is))
        (subst (λ x. IsWellFormed x (label_in k want e).type) b (label_well_formed k want e c d w o));
  }

  pub gives_types : (store : Store) (types : List (Option Ty)) (env : Env) → GivesEnv has tree store types env
      → IsWellFormedEnv bases env → GivesTypes has tree bases store types env
  gives_types store types env g w =
      record { holds = record { given = g.given; well_formed = subst (IsWellFormedEnv bases) (sym g.is) w }; is = g.is }

  pub want_well_formed : (store : Store) (want : Option Ty) → HoldsTypeIfAny (has store) tree bases want
      → IsWellFormedIfAny bases (option_map tree want)
  want_well_formed store None h = tt
  want_well_formed store (Some ty) h = h.well_formed

  module _ (a b : Store) (k : KeepsTypes has a b) where
    pub type_kept : (ty : Ty) → HoldsType (has a) tree bases ty → HoldsType (has b) tree bases ty
    type_kept ty h = record { given = k ty h.given; well_formed = h.well_formed }

    pub type_kept_if_any : (ty : Option Ty) → HoldsTypeIfAny (has a) tree bases ty
        → HoldsTypeIfAny (has b) tree bases ty
    type_kept_if_any None h = tt
    type_kept_if_any (Some ty) h = type_kept ty h

    pub types_kept : (types : List (Option Ty)) → HoldsTypes (has a) tree bases types
        → HoldsTypes (has b) tree bases types
    types_kept types h = record { given = each_kept has a b k types h.given; well_formed = h.well_formed }

    pub types_kept_if_any : (types : Option (List (Option Ty))) → HoldsTypesIfAny (has a) tree bases types
        → HoldsTypesIfAny (has b) tree bases types
    types_kept_if_any None h = tt
    types_kept_if_any (Some types) h = types_kept types h

-- the meanings of environments are kept
module _ {Store Ty : Type 0} (has : Store → Ty → Type 0) (tree : Ty → Tree) (bases : Bases) (a b : Store)
    (k : KeepsTypes has a b) where
  pub gives_types_kept : (types : List (Option Ty)) (env : Env) → GivesTypes has tree bases a types env
      → GivesTypes has tree bases b types env
  gives_types_kept types env g = record { holds = types_kept has tree bases a b k types g.holds; is = g.is }

-- the types that a context holds are kept
module _ {Store Ty : Type 0} (has : Store → Ty → Type 0) (a b : Store) (k : KeepsTypes has a b) where
  params_kept : (ps : List (RustParameter Ty)) → All (HasParameter (has a)) ps → All (HasParameter (has b)) ps
  params_kept ps h = All-weaker (HasParameter (has a)) (HasParameter (has b)) (λ p g. k p.ty g) ps h

  method_kept : (x : RustMethod Ty) → HasMethod (has a) x → HasMethod (has b) x
  method_kept x h = record { params = params_kept x.params h.params; ret = k x.ret h.ret }

  entry_kept : (c : ClassEntry Ty) → HasEntry (has a) c → HasEntry (has b) c
  entry_kept c h = record {
    fields = params_kept c.fields h.fields;
    methods = All-weaker (HasMethod (has a))
        (HasMethod (has b)) method_kept c.methods h.methods;
  }

  signature_kept : (s : RustSignature Ty) → HasSignature (has a) s → HasSignature (has b) s
  signature_kept s h = record { params = params_kept s.params h.params; ret = k s.ret h.ret }

  pub context_kept : (tree : Ty → Tree) (f : RustBodyContext Ty) → HoldsContext (has a) tree f
      → HoldsContext (has b) tree f
  context_kept tree f h = record {
    classes = All-weaker (HasEntry (has a)) (HasEntry (has b)) entry_kept f.globals.now.classes.now h.classes;
    functions = All-weaker (HasSignature (has a)) (HasSignature (has b)) signature_kept f.globals.now.functions.now
        h.functions;
    constants = All-weaker (has a) (has b) k f.globals.now.constants.now h.constants;
    returned = type_kept has tree (class_parents f.globals.now) a b k f.returned.now h.returned;
    context = h.context;
    scopes = h.scopes;
  }
