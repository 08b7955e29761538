-- The signatures of methods as the program has them.
use Rattle.std.proofs.Common.{◌≡◌, List, ◌∷◌, [], map, refl, ap}
use Rattle.std.specs.Prelude.{Vec}
use Rattle.std.specs.Global.{Global}
use Rattle.pc_types.specs.Tree.{Tree}
use Rattle.pc_rules.specs.declared.expr_context.Signature.{Signature as RustSignature}
use Rattle.pc_signatures.specs.SignaturesHeld.{methods_seen, all_signatures_with}
use Rattle.pc_signatures.specs.Internal.ItemsRead.{methods_with}

-- the signatures of the methods of each class
pub all_seen : {Ty : Type 0} (tree : Ty → Tree) (vs : List (Vec (RustSignature Ty) Global))
    → all_signatures_with tree (methods_seen vs) ≡ map (methods_with tree) vs
all_seen tree [] = refl
all_seen tree (v ∷ vs) = ap (λ ms. methods_with tree v ∷ ms) (all_seen tree vs)
