-- The types of a context and an environment are kept over calls that may add types to the store.
use Rattle.std.proofs.Common.{◌≡◌, List, Option, Some, None}
use Rattle.std.specs.Prelude.{All}
use Rattle.std.proofs.lemmas.List.Elements.{All-weaker}
use Rattle.pc_types.specs.Tree.{Tree}
use Rattle.pc_types.specs.Store.{KeepsTypes}
use Rattle.pc_class.specs.declared.table.Parameter.{Parameter}
use Rattle.pc_class.specs.declared.table.Method.{Method}
use Rattle.pc_class.specs.Tables.{ClassEntry, HasParameter, HasMethod, HasEntry, HasEntries}
use Rattle.pc_flow.specs.WellFormed.{AreWellFormed, IsWellFormedEnv}
use Rattle.pc_flow.specs.Stored.{HasOne, HasEach, env_of}
use Rattle.pc_rules.specs.Operations.{Label}
use Rattle.pc_rules.specs.Computed.Standing.{HasGivenAll, HasIfAny, HasSignature, MeansLabel}
use Rattle.pc_rules.specs.declared.label.Label.{Label as RustLabel}
use Rattle.pc_rules.specs.declared.expr_context.ExprContext.{ExprContext}
use Rattle.pc_rules.specs.declared.expr_context.Signature.{Signature}
use Rattle.pc_rules.specs.Computed.ModuleParents.{class_parents}

module _ {Ty : Type 0} (has later : Ty → Type 0) (k : (ty : Ty) → has ty → later ty) where
  params_kept : (ps : List (Parameter Ty)) → All (HasParameter has) ps → All (HasParameter later) ps
  params_kept ps h = All-weaker (HasParameter has) (HasParameter later) (λ p. k p.ty) ps h

  method_kept : (x : Method Ty) → HasMethod has x → HasMethod later x
  method_kept x h = record { params = params_kept x.params h.params; ret = k x.ret h.ret }

  entry_kept : (c : ClassEntry Ty) → HasEntry has c → HasEntry later c
  entry_kept c h = record {
    fields = params_kept c.fields h.fields;
    methods =
        All-weaker (HasMethod has) (HasMethod later) method_kept c.methods h.methods;
  }

  pub entries_kept : (cs : List (ClassEntry Ty)) → HasEntries has cs → HasEntries later cs
  entries_kept cs h = All-weaker (HasEntry has) (HasEntry later) entry_kept cs h

  signature_kept : (s : Signature Ty) → HasSignature has s → HasSignature later s
  signature_kept s h = record { params = params_kept s.params h.params; ret = k s.ret h.ret }

  local_kept : (ty : Option Ty) → HasOne has ty → HasOne later ty
  local_kept None h = tt
  local_kept (Some ty) h = k ty h

  pub any_kept : (ty : Option Ty) → HasIfAny has ty → HasIfAny later ty
  any_kept None h = tt
  any_kept (Some ty) h = k ty h

  locals_kept : (types : List (Option Ty)) → HasEach has types → HasEach later types
  locals_kept types h = All-weaker (HasOne has) (HasOne later) local_kept types h

  pub types_kept : (types : List Ty) → All has types → All later types
  types_kept types h = All-weaker has later k types h

  module _ (tree : Ty → Tree) (s : ExprContext Ty) (env : List (Option Ty)) where
    -- all types of a context and of an environment stay given
    pub stands_kept : HasGivenAll has tree s env → HasGivenAll later tree s env
    stands_kept h = record {
      classes = entries_kept s.globals.now.classes.now h.classes;
      functions = All-weaker (HasSignature has) (HasSignature later) signature_kept s.globals.now.functions.now
          h.functions;
      constants = types_kept s.globals.now.constants.now h.constants;
      declared = locals_kept s.declared.now h.declared;
      env = locals_kept env h.env;
      declared_well_formed = h.declared_well_formed;
      env_well_formed = h.env_well_formed;
    }

    -- with another environment, whose types are given and well-formed
    pub stands_after : HasGivenAll has tree s env → (after : List (Option Ty)) → HasEach later after
        → IsWellFormedEnv (class_parents s.globals.now) (env_of tree after) → HasGivenAll later tree s after
    stands_after h after given well_formed = record {
      classes = entries_kept s.globals.now.classes.now h.classes;
      functions = All-weaker (HasSignature has) (HasSignature later) signature_kept s.globals.now.functions.now
          h.functions;
      constants = types_kept s.globals.now.constants.now h.constants;
      declared = locals_kept s.declared.now h.declared;
      env = given;
      declared_well_formed = h.declared_well_formed;
      env_well_formed = well_formed;
    }

-- the same, for tactics: what stood first, then that it is kept
pub stands_further : {Ty : Type 0} {has later : Ty → Type 0} {tree : Ty → Tree} {s : ExprContext Ty}
    {env : List (Option Ty)} → HasGivenAll has tree s env → ((ty : Ty) → has ty → later ty)
    → HasGivenAll later tree s env
stands_further {has = has} {later = later} {tree = tree} {s = s} {env = env} h k = stands_kept has later k tree s env h

module _ {Store Ty : Type 0} (has : Store → Ty → Type 0) where
  pub keeps_both : (a b c : Store) → KeepsTypes has a b → KeepsTypes has b c → KeepsTypes has a c
  keeps_both a b c k l = λ ty h. l ty (k ty h)

module _ {Store Ty : Type 0} (has : Store → Ty → Type 0) (tree : Ty → Tree) where
  -- a label stays given
  pub label_kept : (a b : Store) → KeepsTypes has a b → (l : RustLabel Ty) (m : Label) → MeansLabel has tree a l m
      → MeansLabel has tree b l m
  label_kept a b k l m h = record { given = k l.ty h.given; is = h.is }
