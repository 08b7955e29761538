-- Lookups of a call in a list of parameters: the place of a name, and the end of the required parameters.
-- Own rule of the profile.
use Rattle.std.specs.Prelude.{◌≡◌, ◌≤◌, ℕ, zero, suc, List, map, length, Bool, true, if◌then◌else◌, Option, Some, None}
use Rattle.std.specs.Prelude.{slice_get, String, string_bytes}
use Rattle.std.specs.Global.{Global}
use Rattle.indexmap.specs.IndexMap.{IndexMap}
use Rattle.pc_scope.specs.Resolution.{index_of}
use Rattle.pc_scope.specs.Internal.WalkViews.{at_text}
use Rattle.pc_class.specs.declared.table.Parameter.{Parameter as RustParameter}
use Rattle.pc_class.specs.declared.listed.Index.{Index}

-- a map has for each name its first place
abbrev pub ArePlaces : {S : Type 0} → IndexMap (String Global) ℕ S → List (List ℕ) → Type 0
ArePlaces m names = (text : List ℕ) → at_text m text ≡ index_of text names

module _ {Ty : Type 0} where
  -- the name of a parameter of the program
  abbrev pub parameter_name : RustParameter Ty → List ℕ
  parameter_name p = string_bytes p.name

  -- the names of parameters, in order
  abbrev pub names_listed : List (RustParameter Ty) → List (List ℕ)
  names_listed ps = map parameter_name ps

  -- a parameter has a default, or is missing
  abbrev pub is_defaulted : Option (RustParameter Ty) → Bool
  is_defaulted None = true
  is_defaulted (Some p) = p.has_default

  -- the end of the required parameters, those without a default, among the first n
  abbrev pub needed_in : List (RustParameter Ty) → ℕ → ℕ
  needed_in ps zero = zero
  needed_in ps (suc k) = if is_defaulted (slice_get ps k) then needed_in ps k else suc k

  -- for each count n, the end of the required parameters among the first n
  abbrev pub AreNeeded : List ℕ → List (RustParameter Ty) → Type 0
  AreNeeded ns ps = (k : ℕ) → k ≤ length ps → slice_get ns k ≡ Some (needed_in ps k)

  -- an index, if there is one, is the index of these parameters
  abbrev pub IsIndexIfAny : List (RustParameter Ty) → Option Index → Type 0
  IsIndexIfAny ps None = Unit {0}
  IsIndexIfAny ps (Some i) = ArePlaces i.places (names_listed ps) × AreNeeded i.needed.items ps
