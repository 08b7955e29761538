-- Methods with the same parameters that return the same type get the same code.
use Rattle.std.proofs.Common.{◌≡◌, ◌<◌, ◌+◌, ℕ, List, [], ◌∷◌, ◌++◌, take, length, get_or, sym, ap, ◌∙◌}
use Rattle.std.specs.Prelude.{string_bytes}
use Rattle.std.proofs.lemmas.List.{map-append, take_more}
use Rattle.pc_types.specs.Tree.{Tree}
use Rattle.pc_types.specs.Below.{Bases}
use Rattle.pc_class.specs.declared.table.Parameter.{Parameter as RustParameter}
use Rattle.pc_class.specs.Facts.{Method}
use Rattle.pc_class.specs.OverrideFindings.{override_code}
use Rattle.pc_class.specs.Tables.{parameter_with, parameters_with}
use Rattle.pc_overrides.specs.Internal.Representing.{AreAlike}

module _ {Ty : Type 0} (tree : Ty → Tree) where
  -- two parameters with the same name, type and default
  pub same_parameter : (p q : RustParameter Ty) → string_bytes p.name ≡ string_bytes q.name → tree p.ty ≡ tree q.ty
      → p.has_default ≡ q.has_default → parameter_with tree p ≡ parameter_with tree q
  same_parameter p q named e f = cc

  -- one parameter more
  pub one_more_alike : (left right : List (RustParameter Ty)) (i : ℕ) (p q : RustParameter Ty) → i < length left
      → i < length right → p ≡ get_or left i p → q ≡ get_or right i q
      → parameter_with tree p ≡ parameter_with tree q
      → parameters_with tree (take i left) ≡ parameters_with tree (take i right)
      → parameters_with tree (take (i + 1) left) ≡ parameters_with tree (take (i + 1) right)
  one_more_alike left right i p q l m e f same before =
      let more : (xs : List (RustParameter Ty)) (x : RustParameter Ty) → i < length xs → x ≡ get_or xs i x
      → parameters_with tree (take (i + 1) xs) ≡ parameters_with tree (take i xs) ++ parameter_with tree x ∷ [] =
      λ xs x h r. ap (parameters_with tree) (take_more xs i x h
      ∙ ap (λ (w : RustParameter Ty). take i xs ++ w ∷ []) (sym r))
      ∙ map-append (parameter_with tree) (take i xs) (x ∷ []) in
      more left p l e ∙ (λ j. before j ++ same j ∷ []) ∙ sym (more right q m f)

-- methods that are alike get the same code against others
pub alike_code : (bases : Bases) (olds : List Method) (x y : Method) → AreAlike x y
    → override_code bases olds x ≡ override_code bases olds y
alike_code bases olds x y h =
    ap (λ ps. override_code bases olds (record x { parameters = ps })) h.parameters
    ∙ ap (λ t. override_code bases olds (record x { parameters = y.parameters; returns = t })) h.returns
