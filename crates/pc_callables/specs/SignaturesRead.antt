-- The inputs and results of the program that reads functions and members, in terms of the definitions. Own rule of the
-- profile.
use Rattle.std.specs.Prelude.{◌≡◌, List, map, All}
use Rattle.pc_types.specs.Tree.{Tree}
use Rattle.pc_annotations.specs.ModuleOutlines.{module_in, IsModuleOutline}
use Rattle.pc_class.specs.Facts.{TypedParameter, classes_of}
use Rattle.pc_class.specs.Tables.{HasParameter, HasEntries, parameter_with, parameters_with, classes_with}
use Rattle.pc_class.specs.declared.table.Parameter.{Parameter as RustParameter}
use Rattle.pc_rules.specs.declared.expr_context.Signature.{Signature as RustSignature}
use Rattle.pc_rules.specs.declared.expr_context.ModuleContext.{ModuleContext}
use Rattle.pc_rules.specs.Context.{Signature}
use Rattle.pc_rules.specs.Signatures.{signatures_of}
use Rattle.pc_rules.specs.Computed.Standing.{HasSignature, signature_with}

module _ {Ty : Type 0} (tree : Ty → Tree) where
  -- the signatures that a program's signatures mean
  abbrev pub signatures_with : List (RustSignature Ty) → List Signature
  signatures_with ss = map (signature_with tree) ss

module _ {Ty : Type 0} (has : Ty → Type 0) where
  -- the store gave the types of signatures
  abbrev pub HasSignatures : List (RustSignature Ty) → Type 0
  HasSignatures ss = All (HasSignature has) ss

module _ {Store Ty : Type 0} (has : Store → Ty → Type 0) (tree : Ty → Tree) where
  -- a parameter with a type of the store means this parameter
  pub record IsParameter (store : Store) (p : RustParameter Ty) (is_of : TypedParameter) : Type 0 where
    pub given : HasParameter (has store) p
    pub is : parameter_with tree p ≡ is_of

  -- parameters with types of the store mean these parameters
  pub record AreParameters (store : Store) (ps : List (RustParameter Ty)) (are_of : List TypedParameter) : Type 0 where
    pub given : All (HasParameter (has store)) ps
    pub are : parameters_with tree ps ≡ are_of

  -- a signature with types of the store means this signature
  pub record IsSignature (store : Store) (s : RustSignature Ty) (is_of : Signature) : Type 0 where
    pub given : HasSignature (has store) s
    pub is : signature_with tree s ≡ is_of

  -- signatures with types of the store mean these signatures
  pub record AreSignatures (store : Store) (ss : List (RustSignature Ty)) (are_of : List Signature) : Type 0 where
    pub given : HasSignatures (has store) ss
    pub are : signatures_with tree ss ≡ are_of

  -- the globals of members and initializers, apart from constants, are the classes and functions of the module
  pub record AreGlobals (store : Store) (g : ModuleContext Ty) : Type 0 where
    pub outline : IsModuleOutline g.outline.now
    pub classes : classes_with tree g.classes.now ≡ classes_of (module_in g.outline.now)
    pub entries : HasEntries (has store) g.classes.now
    pub functions : AreSignatures store g.functions.now (signatures_of (module_in g.outline.now))
