-- The inputs of the program that walks over the bodies of a module, in terms of the definitions. Own rule of the
-- profile.
use Rattle.std.specs.Prelude.{◌≡◌, map, length, Option, None, slice_get}
use Rattle.pc_tree.specs.Tree.{Module, module_of}
use Rattle.pc_scope.specs.declared.resolution.Owner.{Owner}
use Rattle.pc_scope.specs.declared.resolution.Owner.TheVariants as owners
use Rattle.pc_scope.specs.Bindings.{classes_in}
use Rattle.pc_types.specs.Tree.{Tree}
use Rattle.pc_annotations.specs.ModuleOutlines.{IsModuleOutline}
use Rattle.pc_class.specs.Facts.{classes_of}
use Rattle.pc_class.specs.Tables.{HasEntries, classes_with}
use Rattle.pc_rules.specs.Signatures.{signatures_of}
use Rattle.pc_rules.specs.Computed.Signatures.{constants_of, method_signatures}
use Rattle.pc_signatures.specs.SignaturesHeld.{HeldSignatures, HasSigned, method_numbered, all_signatures_with}
use Rattle.pc_rules.specs.Computed.Standing.{signature_with}
use Rattle.pc_rules.specs.declared.expr_context.Signature.{Signature as RustSignature}
use Rattle.pc_check.specs.declared.bodies.ModuleBodies.{ModuleBodies}

-- the module whose bodies are walked over
abbrev pub module_in : {Ty : Type 0} → ModuleBodies Ty → Module
module_in b = module_of b.globals.now.outline.now.tree.now

-- the signature of an owner's function or method, by the program's signatures of a module, none if there is none
abbrev pub signature_for : {Ty : Type 0} → HeldSignatures Ty → Owner → Option (RustSignature Ty)
signature_for s owners.Module = None
signature_for s (owners.Func i) = slice_get s.functions i
signature_for s (owners.Method c i) = method_numbered s.methods c i

-- the context of bodies belongs to their module: its outline and classes, the types of its constants, and its
-- signatures
pub record IsModuleBodies {Ty : Type 0} (has : Ty → Type 0) (tree : Ty → Tree) (b : ModuleBodies Ty) : Type 0 where
  pub outline : IsModuleOutline b.globals.now.outline.now
  pub classes : classes_with tree b.globals.now.classes.now ≡ classes_of (module_in b)
  pub entries : HasEntries has b.globals.now.classes.now
  pub held : HasSigned has b.signatures.now
  pub same_constants : b.globals.now.constants.now ≡ b.signatures.now.constants
  pub same_functions : b.globals.now.functions.now ≡ b.signatures.now.functions
  pub constants : map tree b.signatures.now.constants ≡ constants_of (module_in b)
  pub functions : map (signature_with tree) b.signatures.now.functions ≡ signatures_of (module_in b)
  pub methods : all_signatures_with tree b.signatures.now.methods ≡ method_signatures (module_in b)
  pub known : b.globals.now.known ≡ length (classes_in (module_in b).items)
