-- Well-formed contexts, whose types are in normal form, without absorbed members and of at most 256 nodes; and the law
-- that expressions have lawful labels there.
-- Own rule of the profile.
use Rattle.std.specs.Prelude.{◌≡◌, ℕ, List, [], ◌∷◌, length, Option}
use Rattle.pc_tree.specs.Tree.{Expr, Exprs, Entries, Keywords, name, number, text, truth, nothing, tuple, list, dict}
use Rattle.pc_tree.specs.Tree.{negative, negation, binary, compare, is_none, is_not_none, conjunction, disjunction}
use Rattle.pc_tree.specs.Tree.{attribute, index, call, no_exprs, more_exprs, no_entries, more_entries, no_keywords}
use Rattle.pc_tree.specs.Tree.{more_keywords, Module}
use Rattle.pc_types.specs.Tree.{Tree}
use Rattle.pc_types.specs.Below.{Bases, AreSmaller}
use Rattle.pc_types.specs.WellFormed.{IsWellFormed}
use Rattle.pc_class.specs.Bases.{bases_of}
use Rattle.pc_class.specs.WellFormed.{ParametersWellFormed, ClassesWellFormed}
use Rattle.pc_flow.specs.Environment.{Env}
use Rattle.pc_flow.specs.WellFormed.{IsWellFormedIfAny, IsWellFormedEnv, AreWellFormed}
use Rattle.pc_rules.specs.Context.{Context, Signature}
use Rattle.pc_rules.specs.Labels.{FlowLabels, Labels, ItemsLabels, EntriesLabels, KeywordsLabels, type_of}
use Rattle.pc_rules.specs.Lawful.{Lawful}
use Rattle.pc_rules.specs.Signatures.{body_context, initializer_context}

-- the parameter types and the return type of a signature are well-formed
pub record SignatureWellFormed (bases : Bases) (s : Signature) : Type 0 where
  pub parameters : ParametersWellFormed bases s.parameters
  pub returns : IsWellFormed bases s.returns

-- the types of each of these signatures are well-formed
abbrev pub SignaturesWellFormed : Bases → List Signature → Type 0
SignaturesWellFormed bases [] = Unit {0}
SignaturesWellFormed bases (s ∷ ss) = SignatureWellFormed bases s × SignaturesWellFormed bases ss

-- the types in a context are well-formed, and each class's base has a smaller number than the class
pub record ContextWellFormed (ctx : Context) : Type 0 where
  pub smaller : AreSmaller ctx.bases
  pub classes : ClassesWellFormed ctx.bases ctx.classes
  pub functions : SignaturesWellFormed ctx.bases ctx.functions
  pub constants : AreWellFormed ctx.bases ctx.constants

-- the types of flows are well-formed
abbrev pub FlowsWellFormed : Bases → FlowLabels → Type 0
FlowsWellFormed bases [] = Unit {0}
FlowsWellFormed bases (f ∷ fs) = (IsWellFormed bases f.from × IsWellFormed bases f.into) × FlowsWellFormed bases fs

-- every type in labels is well-formed
abbrev mutual
  -- every type in the labels of an expression, of its parts and of their flows is well-formed
  pub LabelsWellFormed : Bases → (e : Expr) → Labels e → Type 0
  LabelsWellFormed bases (name n) m = IsWellFormed bases m.type
  LabelsWellFormed bases (number p digits) m = IsWellFormed bases m.type
  LabelsWellFormed bases (text p characters) m = IsWellFormed bases m.type
  LabelsWellFormed bases (truth p value) m = IsWellFormed bases m.type
  LabelsWellFormed bases (nothing p) m = IsWellFormed bases m.type
  LabelsWellFormed bases (tuple p es) m = IsWellFormed bases m.here.type × ItemsWellFormed bases es m.items
  LabelsWellFormed bases (list p es) m = IsWellFormed bases m.here.type × ItemsWellFormed bases es m.items
  LabelsWellFormed bases (dict p es) m = IsWellFormed bases m.here.type × EntriesWellFormed bases es m.entries
  LabelsWellFormed bases (negative p e) m = IsWellFormed bases m.here.type × LabelsWellFormed bases e m.operand
  LabelsWellFormed bases (negation p e) m = IsWellFormed bases m.here.type × LabelsWellFormed bases e m.operand
  LabelsWellFormed bases (binary p o l r) m = IsWellFormed bases m.here.type × LabelsWellFormed bases l m.left
      × LabelsWellFormed bases r m.right
  LabelsWellFormed bases (compare p o l r) m = IsWellFormed bases m.here.type × LabelsWellFormed bases l m.left
      × LabelsWellFormed bases r m.right × FlowsWellFormed bases m.flows
  LabelsWellFormed bases (is_none p e) m = IsWellFormed bases m.here.type × LabelsWellFormed bases e m.operand
  LabelsWellFormed bases (is_not_none p e) m = IsWellFormed bases m.here.type × LabelsWellFormed bases e m.operand
  LabelsWellFormed bases (conjunction p l r) m = IsWellFormed bases m.here.type × LabelsWellFormed bases l m.left
      × LabelsWellFormed bases r m.right
  LabelsWellFormed bases (disjunction p l r) m = IsWellFormed bases m.here.type × LabelsWellFormed bases l m.left
      × LabelsWellFormed bases r m.right
  LabelsWellFormed bases (attribute p e field) m = IsWellFormed bases m.here.type × LabelsWellFormed bases e m.object
  LabelsWellFormed bases (index p e i) m = IsWellFormed bases m.here.type × LabelsWellFormed bases e m.object
      × LabelsWellFormed bases i m.key × FlowsWellFormed bases m.flows
  LabelsWellFormed bases (call p c args kws) m = IsWellFormed bases m.here.type × LabelsWellFormed bases c m.callee
      × ItemsWellFormed bases args m.arguments × KeywordsWellFormed bases kws m.keywords

  -- every type in the labels of items and of arguments by position is well-formed
  pub ItemsWellFormed : Bases → (es : Exprs) → ItemsLabels es → Type 0
  ItemsWellFormed bases no_exprs m = Unit {0}
  ItemsWellFormed bases (more_exprs e rest) m = LabelsWellFormed bases e m.first × FlowsWellFormed bases m.flows
      × ItemsWellFormed bases rest m.rest

  -- every type in the labels of the entries of a dict is well-formed
  pub EntriesWellFormed : Bases → (es : Entries) → EntriesLabels es → Type 0
  EntriesWellFormed bases no_entries m = Unit {0}
  EntriesWellFormed bases (more_entries key value rest) m =
      (LabelsWellFormed bases key m.key × FlowsWellFormed bases m.key_flows)
      × (LabelsWellFormed bases value m.value × FlowsWellFormed bases m.value_flows)
      × EntriesWellFormed bases rest m.rest

  -- every type in the labels of arguments by name is well-formed
  pub KeywordsWellFormed : Bases → (es : Keywords) → KeywordsLabels es → Type 0
  KeywordsWellFormed bases no_keywords m = Unit {0}
  KeywordsWellFormed bases (more_keywords parameter value rest) m = LabelsWellFormed bases value m.first
      × FlowsWellFormed bases m.flows × KeywordsWellFormed bases rest m.rest

-- an expression has lawful labels; its type, and every type in them, is well-formed
pub record HasLabels (ctx : Context) (declared : List Tree) (env : Env) (want : Option Tree) (e : Expr) : Type 0 where
  pub labels : Labels e
  pub lawful : Lawful ctx declared env want e labels
  pub well_formed : IsWellFormed ctx.bases (type_of e labels)
  pub each : LabelsWellFormed ctx.bases e labels

-- the law that each expression has lawful labels, if the context, the declared types, the environment and the expected
-- type are well-formed
abbrev pub ExpressionsHaveLabels : Type 0
ExpressionsHaveLabels =
    (ctx : Context) (declared : List Tree) (env : Env) (want : Option Tree) (e : Expr) →
    ContextWellFormed ctx →
    AreWellFormed ctx.bases declared →
    IsWellFormedEnv ctx.bases env →
    IsWellFormedIfAny ctx.bases want →
    HasLabels ctx declared env want e

-- the law that every type in any lawful labels of an expression is well-formed there
abbrev pub LawfulLabelsAreWellFormed : Type 0
LawfulLabelsAreWellFormed =
    (ctx : Context) (declared : List Tree) (env : Env) (want : Option Tree) (e : Expr) (labels : Labels e) →
    length declared ≡ length env →
    ContextWellFormed ctx →
    AreWellFormed ctx.bases declared →
    IsWellFormedEnv ctx.bases env →
    IsWellFormedIfAny ctx.bases want →
    Lawful ctx declared env want e labels →
    LabelsWellFormed ctx.bases e labels

-- the law that the context of a body is well-formed, if the types of the constants are
abbrev pub BodyContextsAreWellFormed : Type 0
BodyContextsAreWellFormed = (m : Module) (constants : List Tree) (names : List (List ℕ))
    → AreWellFormed (bases_of m) constants → ContextWellFormed (body_context m constants names)

-- the law that the context of an initializer is well-formed, if the types of the constants are
abbrev pub InitializerContextsAreWellFormed : Type 0
InitializerContextsAreWellFormed = (m : Module) (constants : List Tree) (classes : ℕ)
    → AreWellFormed (bases_of m) constants → ContextWellFormed (initializer_context m constants classes)
