-- The state of reading items, in terms of the definitions. Own rule of the profile.
use Rattle.std.specs.Prelude.{List, map, length, All, Vec}
use Rattle.std.specs.Global.{Global}
use Rattle.pc_types.specs.Tree.{Tree}
use Rattle.pc_rules.specs.declared.expr_context.Signature.{Signature as RustSignature}
use Rattle.pc_rules.specs.Context.{Signature}
use Rattle.pc_rules.specs.Computed.Signatures.{ItemsReached, is_in_names}
use Rattle.pc_callables.specs.SignaturesRead.{HasSignatures, signatures_with}
use Rattle.pc_signatures.specs.declared.constants.ItemsRead.{ItemsRead}

module _ {Ty : Type 0} (tree : Ty → Tree) where
  -- the signatures that a program's methods of a class mean
  abbrev pub methods_with : Vec (RustSignature Ty) Global → List Signature
  methods_with v = signatures_with tree v.items

  -- the state of a walk over items that the items read so far mean
  abbrev pub reached_with : ItemsRead Ty → ItemsReached
  reached_with w = record {
    constants = map tree w.constants.items;
    classes = length w.methods.items;
    bound = is_in_names w.bound;
  }

module _ {Ty : Type 0} (has : Ty → Type 0) where
  -- the store gave the types of the methods of a class
  abbrev pub HasMethods : Vec (RustSignature Ty) Global → Type 0
  HasMethods v = HasSignatures has v.items

  -- the store gave the types of the constants and of the methods of the items read so far
  pub record HasReached (w : ItemsRead Ty) : Type 0 where
    pub constants : All has w.constants.items
    pub methods : All HasMethods w.methods.items
