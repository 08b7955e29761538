-- Why the laws have their premises: a base with a greater number than its class, and a type with an absorbed member.
use Rattle.std.proofs.Common.{◌≡◌, [], ◌∷◌, Some, None, refl, arith}
use Rattle.pc_types.specs.Tree.{Class, Union}
use Rattle.pc_types.specs.Join.{join}
use Rattle.pc_types.specs.Below.{base}
use Rattle.pc_types.specs.Normal.{IsReduced, IsNormal}
use Rattle.pc_flow.specs.Narrowing.{for_type, type_where_true}

-- where class 1 is the base of class 0, their join is the union of both
unordered_join : join (Some 1 ∷ None ∷ []) (Class 0) (Class 1) ≡ Some (Union (Class 0) (Class 1))
unordered_join = refl

-- which has an absorbed member
not_reduced : IsReduced (Some 1 ∷ None ∷ []) (Union (Class 0) (Class 1)) → ⊥
not_reduced r = r.2.0 (base refl)

-- of a union of a class and its base, a test of a class below both leaves that class twice
twice : type_where_true (None ∷ Some 0 ∷ Some 1 ∷ []) (for_type (Class 2)) (Union (Class 0) (Class 1)) ≡ Union (Class 2)
    (Class 2)
twice = refl

-- which is not in normal form
not_normal : IsNormal (Union (Class 2) (Class 2)) → ⊥
not_normal n = grind (arith, n.3.1)
