-- The inputs and results of the program that types expressions, in terms of the definitions. Own rule of the profile.
use Rattle.std.specs.Prelude.{◌≡◌, ℕ, List, map, Bool as Test, true, Option, Some, None, All, option_to_list}
use Rattle.std.specs.Option.{option_map}
use Rattle.pc_tree.specs.Tree.{Expr, Exprs, Entries, Keywords}
use Rattle.pc_types.specs.Tree.{Tree}
use Rattle.pc_types.specs.Below.{Bases}
use Rattle.pc_types.specs.Computed.{static_test, assignable_test}
use Rattle.pc_class.specs.Tables.{HasParameter, HasEntries, parameters_with, classes_with}
use Rattle.pc_flow.specs.Environment.{Env}
use Rattle.pc_flow.specs.Naming.{meanings}
use Rattle.pc_flow.specs.Narrowing.{narrow}
use Rattle.pc_flow.specs.Stored.{HasEach, env_of, declared_of}
use Rattle.pc_flow.specs.WellFormed.{AreWellFormed, IsWellFormedEnv}
use Rattle.pc_notes.specs.Notes.{Note}
use Rattle.pc_rules.specs.Operations.{Label, Offer}
use Rattle.pc_rules.specs.Context.{Context, Signature}
use Rattle.pc_rules.specs.Calls.{Seat}
use Rattle.pc_rules.specs.Labels.{Labels, ItemsLabels, EntriesLabels, KeywordsLabels, whole_label, type_of, item_types}
use Rattle.pc_rules.specs.Labels.{key_types, value_types}
use Rattle.pc_rules.specs.Computed.Expressions.{labels_of, items_labels, entries_labels, keywords_labels}
use Rattle.pc_rules.specs.Computed.Findings.{brief, notes_under, found_in_parts, found_in_items, found_in_arguments}
use Rattle.pc_rules.specs.Computed.Findings.{found_in_entries, found_in_keywords}
use Rattle.pc_rules.specs.declared.expr_context.ExprContext.{ExprContext}
use Rattle.pc_rules.specs.declared.expr_context.Signature.{Signature as RustSignature}
use Rattle.pc_rules.specs.declared.label.Label.{Label as RustLabel}
use Rattle.pc_rules.specs.declared.label.Offer.{Offer as RustOffer}
use Rattle.pc_rules.specs.Computed.ModuleParents.{class_parents}

-- ---- the standing of an expression

-- the standing of an expression: its context, the declared types of the locals, the environment, and whether the types
-- of labels are noted
pub record Standing : Type 0 where
  pub context : Context
  pub declared : List Tree
  pub env : Env
  pub keeps : Test

-- a standing with its environment narrowed by a condition that holds or fails
abbrev pub narrowed_standing : Standing → (holds : Test) → Expr → Standing
narrowed_standing k holds e = record {
  context = k.context;
  declared = k.declared;
  env = narrow k.context.bases k.declared k.context.resolve holds e k.env;
  keeps = k.keeps;
}

-- ---- the computed labels there

-- the computed label of an expression
unfoldable pub label_in : Standing → (want : Option Tree) → Expr → Label
label_in k want e = whole_label e (labels_of k.context k.declared k.env want e)

-- the notes of an expression and its parts
unfoldable pub finds_in : Standing → (want : Option Tree) → Expr → List Note
finds_in k want e = notes_under k.keeps e (labels_of k.context k.declared k.env want e)

-- the notes of the parts of an expression
unfoldable pub parts_find : Standing → (want : Option Tree) → Expr → List Note
parts_find k want e = found_in_parts k.keeps e (labels_of k.context k.declared k.env want e)

module _ (k : Standing) where
  -- the labels of items, each in its seat
  abbrev pub items_in : (seat : ℕ → Seat) → (es : Exprs) → ItemsLabels es
  items_in seat es = items_labels k.context k.declared (static_test k.context.bases)
      (assignable_test k.context.bases) k.env seat es

  -- the labels of the entries of a dict
  abbrev pub entries_in : (key value : Seat) → (es : Entries) → EntriesLabels es
  entries_in key value es =
      entries_labels k.context k.declared (static_test k.context.bases)
      (assignable_test k.context.bases) k.env key value es

  -- the labels of arguments by name, after arguments of these names
  abbrev pub keywords_in : (seat : List ℕ → Seat) → (before : List (List ℕ)) → (es : Keywords) → KeywordsLabels es
  keywords_in seat before es =
      keywords_labels k.context k.declared (static_test k.context.bases)
      (assignable_test k.context.bases) k.env seat before es

-- the types of items, and their notes
unfoldable pub types_in : Standing → (seat : ℕ → Seat) → Exprs → List Tree
types_in k seat es = item_types es (items_in k seat es)

unfoldable pub items_find : Standing → (seat : ℕ → Seat) → Exprs → List Note
items_find k seat es = found_in_items k.keeps es (items_in k seat es)

-- the notes of arguments by position; of an instance test only those in the first argument
unfoldable pub arguments_find : Standing → (is_test : Test) → (seat : ℕ → Seat) → Exprs → List Note
arguments_find k is_test seat es = found_in_arguments k.keeps is_test es (items_in k seat es)

-- the types of the keys and of the values of a dict, and the notes of its entries
unfoldable pub keys_in : Standing → (key value : Seat) → Entries → List Tree
keys_in k key value es = key_types es (entries_in k key value es)

unfoldable pub value_types_in : Standing → (key value : Seat) → Entries → List Tree
value_types_in k key value es = value_types es (entries_in k key value es)

unfoldable pub entries_find : Standing → (key value : Seat) → Entries → List Note
entries_find k key value es = found_in_entries k.keeps es (entries_in k key value es)

-- the notes of arguments by name
unfoldable pub keywords_find : Standing → (seat : List ℕ → Seat) → (before : List (List ℕ)) → Keywords → List Note
keywords_find k seat before es = found_in_keywords k.keeps es (keywords_in k seat before es)

-- ---- values of the program

module _ {Ty : Type 0} (tree : Ty → Tree) where
  -- the signature that a program's signature means
  abbrev pub signature_with : RustSignature Ty → Signature
  signature_with s = record {
    parameters = parameters_with tree s.params;
    returns = tree s.ret;
    takes_names = true;
  }

  -- the label that a program's label means
  abbrev pub label_with : RustLabel Ty → Label
  label_with l = record { type = tree l.ty; codes = l.codes.items }

  -- the offer that a program's offer means
  abbrev pub offer_with : RustOffer Ty → Offer
  offer_with o = record {
    found = option_to_list o.found;
    gives = tree o.gives;
    takes = option_to_list (option_map tree o.takes);
  }

module _ {Ty : Type 0} (tree : Ty → Tree) where
  -- the context that a program's context means
  abbrev pub context_with : ExprContext Ty → Context
  context_with s = record {
    bases = class_parents s.globals.now;
    classes = classes_with tree s.globals.now.classes.now;
    functions = map (signature_with tree) s.globals.now.functions.now;
    constants = map tree s.globals.now.constants.now;
    known = s.globals.now.known;
    in_body = s.in_body;
    resolve = meanings s.names.now;
  }

  -- the standing that a program's context and the types of an environment mean
  abbrev pub standing_of : ExprContext Ty → List (Option Ty) → Standing
  standing_of s types = record {
    context = context_with s;
    declared = declared_of tree s.declared.now;
    env = env_of tree types;
    keeps = s.globals.now.keeps;
  }

-- the store gave a type, if there is one
abbrev pub HasIfAny : {Ty : Type 0} → (has : Ty → Type 0) → Option Ty → Type 0
HasIfAny has None = Unit {0}
HasIfAny has (Some ty) = has ty

-- the store gave the types of a signature
pub record HasSignature {Ty : Type 0} (has : Ty → Type 0) (s : RustSignature Ty) : Type 0 where
  pub params : All (HasParameter has) s.params
  pub ret : has s.ret

-- the store gave the types of an offer
pub record HasOffer {Ty : Type 0} (has : Ty → Type 0) (o : RustOffer Ty) : Type 0 where
  pub gives : has o.gives
  pub takes : HasIfAny has o.takes

-- the store gave all types of a context and of an environment; those of the locals are well-formed
pub record HasGivenAll {Ty : Type 0} (has : Ty → Type 0) (tree : Ty → Tree) (s : ExprContext Ty)
    (types : List (Option Ty)) : Type 0 where
  pub classes : HasEntries has s.globals.now.classes.now
  pub functions : All (HasSignature has) s.globals.now.functions.now
  pub constants : All has s.globals.now.constants.now
  pub declared : HasEach has s.declared.now
  pub env : HasEach has types
  pub declared_well_formed : AreWellFormed (class_parents s.globals.now) (declared_of tree s.declared.now)
  pub env_well_formed : IsWellFormedEnv (class_parents s.globals.now) (env_of tree types)

module _ {Store Ty : Type 0} (has : Store → Ty → Type 0) (tree : Ty → Tree) where
  -- a label with a type of the store means this label, with each code once
  pub record MeansLabel (store : Store) (l : RustLabel Ty) (m : Label) : Type 0 where
    pub given : has store l.ty
    pub is : label_with tree l ≡ brief m
