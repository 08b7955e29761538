-- The signatures and constants of a module as the program holds them, with types of a store. Own rule of the profile.
use Rattle.std.specs.Prelude.{ℕ, List, map, Option, Some, None, All, Vec, slice_get}
use Rattle.std.specs.Global.{Global}
use Rattle.pc_types.specs.Tree.{Tree}
use Rattle.pc_rules.specs.declared.expr_context.Signature.{Signature as RustSignature}
use Rattle.pc_rules.specs.Context.{Signature}
use Rattle.pc_rules.specs.Computed.Standing.{HasSignature, signature_with}

-- the types of the constants, the signatures of the functions, and the signatures of the methods of each class, each in
-- text order
pub record HeldSignatures (Ty : Type 0) : Type 0 where
  pub constants : List Ty
  pub functions : List (RustSignature Ty)
  pub methods : List (List (RustSignature Ty))

-- the signatures of methods as lists, one for each class
abbrev pub methods_seen : {Ty : Type 0} → List (Vec (RustSignature Ty) Global) → List (List (RustSignature Ty))
methods_seen vs = map (λ v. v.items) vs

-- the signature of this number in a list, none if there is no list or no such number
abbrev pub signature_numbered : {X : Type 0} → Option (List X) → ℕ → Option X
signature_numbered None i = None
signature_numbered (Some xs) i = slice_get xs i

-- the method of this number of the class of this number
abbrev pub method_numbered : {X : Type 0} → List (List X) → (class number : ℕ) → Option X
method_numbered methods c i = signature_numbered (slice_get methods c) i

-- the store gave all these types
pub record HasSigned {Ty : Type 0} (has : Ty → Type 0) (s : HeldSignatures Ty) : Type 0 where
  pub constants : All has s.constants
  pub functions : All (HasSignature has) s.functions
  pub methods : All (λ ms. All (HasSignature has) ms) s.methods

-- the signatures that the program's methods of each class mean
abbrev pub all_signatures_with : {Ty : Type 0} → (tree : Ty → Tree) → List (List (RustSignature Ty))
    → List (List Signature)
all_signatures_with tree methods = map (λ ms. map (signature_with tree) ms) methods
