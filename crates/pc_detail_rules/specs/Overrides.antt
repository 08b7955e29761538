-- The detail of a method that overrides: the first method above that it does not fit, and the part that differs.
-- Own rule of the profile.
use Rattle.std.specs.Prelude.{◌≡◌, ℕ, suc, List, [], ◌∷◌, length, Bool as Test, ◌&&◌, not, if◌then◌else◌}
use Rattle.std.specs.Prelude.{Option, Some, None, is_none, nat_eq, bytes_eq, slice_get}
use Rattle.std.specs.List.{list_all}
use Rattle.std.specs.Option.{option_map}
use Rattle.pc_tree.specs.declared.code.Code.{Code}
use Rattle.pc_tree.specs.declared.code.Code.TheVariants.{A8, E11}
use Rattle.pc_tree.specs.Tree.{FuncDef, ClassDef, Module}
use Rattle.pc_scope.specs.declared.resolution.Owner.{Owner}
use Rattle.pc_scope.specs.declared.resolution.Owner.TheVariants as owners
use Rattle.pc_scope.specs.Bindings.{classes_in, Body}
use Rattle.pc_types.specs.Tree.{Tree}
use Rattle.pc_types.specs.Below.{Bases}
use Rattle.pc_types.specs.Computed.{static_test, assignable_test}
use Rattle.pc_annotations.specs.Bases.{bases_of}
use Rattle.pc_class.specs.Facts.{TypedParameter, Method, method_made}
use Rattle.pc_class.specs.Findings.{base_class}
use Rattle.pc_class.specs.Overrides.{overridden}
use Rattle.pc_class.specs.OverrideFindings.{is_good_to, is_static_to}
use Rattle.pc_detail_texts.specs.Details as detail
use Rattle.pc_detail_texts.specs.Details.{Detail, OverrideFault}
use Rattle.pc_detail_rules.specs.Operations.{method_name}

-- a fault if there is one, else the next
abbrev pub fault_or : Option (OverrideFault Tree) → Option (OverrideFault Tree) → Option (OverrideFault Tree)
fault_or None other = other
fault_or (Some x) other = Some x

-- the first parameter with another name, or without a default where the one above has one, from this position on
abbrev pub shape_fault : ℕ → (above here : List TypedParameter) → Option (OverrideFault Tree)
shape_fault k (p ∷ ps) (q ∷ qs) =
    if not (bytes_eq p.name q.name) then Some (detail.other_name k p.name q.name)
    else (if p.has_default && not q.has_default then Some (detail.no_default p.name)
    else shape_fault (suc k) ps qs)
shape_fault k _ _ = None

-- the first parameter whose type above does not flow into its own, as the test says
abbrev pub parameter_fault : (fits : Tree → Tree → Test) → (above here : List TypedParameter)
    → Option (OverrideFault Tree)
parameter_fault fits (p ∷ ps) (q ∷ qs) = if fits p.type q.type then parameter_fault fits ps qs
    else Some (detail.other_parameter q.name p.type q.type)
parameter_fault fits _ _ = None

-- the return type, if it does not flow into the one above
abbrev pub return_fault : (fits : Tree → Tree → Test) → (above here : Tree) → Option (OverrideFault Tree)
return_fault fits above here = if fits here above then None else Some (detail.other_return above here)

-- the first part in which a method differs from one above: the number of parameters, a name, a default, the return
-- type, the type of a parameter
abbrev pub fault_against : (fits : Tree → Tree → Test) → (above here : Method) → Option (OverrideFault Tree)
fault_against fits above here =
    if not (nat_eq (length above.parameters) (length here.parameters))
    then Some (detail.other_count (length above.parameters) (length here.parameters))
    else fault_or (shape_fault 1 above.parameters here.parameters)
    (fault_or (return_fault fits above.returns here.returns)
    (parameter_fault fits above.parameters here.parameters))

-- the law that a method is good against one above exactly if no part differs, and static likewise
pub record OverrideFaultsAreExact : Type 0 where
  pub good : (bases : Bases) (above here : Method)
      → is_good_to bases here above ≡ is_none (fault_against (assignable_test bases) above here)
  pub static : (bases : Bases) (above here : Method)
      → is_static_to bases here above ≡ is_none (fault_against (static_test bases) above here)

-- whether the types of a flow fit: of A8 statically, of E11 assignably
abbrev pub fits_for : Bases → Code → Tree → Tree → Test
fits_for bases A8 s t = static_test bases s t
fits_for bases c s t = assignable_test bases s t

-- the detail against one method above
abbrev pub against : Module → Code → (here above : Method) → Option (Detail Tree)
against m c here above = option_map (detail.override (method_name m above) above.place)
    (fault_against (fits_for (bases_of m) c) above here)

-- a detail if there is one, else the next
abbrev pub detail_or : Option (Detail Tree) → Option (Detail Tree) → Option (Detail Tree)
detail_or None other = other
detail_or (Some d) other = Some d

-- the detail against the first of the methods above that has one, the nearest first
abbrev pub first_against : Module → Code → (here : Method) → (above : List Method) → Option (Detail Tree)
first_against m c here [] = None
first_against m c here (f ∷ fs) = detail_or (against m c here f) (first_against m c here fs)

-- the law that a method has a detail exactly if there is a method above that it does not fit: of E11 one against which
-- it is not good, of A8 one to which it is not static
pub record OverridesAreExplained : Type 0 where
  pub good : (m : Module) (here : Method) (above : List Method)
      → list_all (is_good_to (bases_of m) here) above ≡ is_none (first_against m E11 here above)
  pub static : (m : Module) (here : Method) (above : List Method)
      → list_all (is_static_to (bases_of m) here) above ≡ is_none (first_against m A8 here above)

-- the detail of a method of a class, if the class is there
abbrev pub override_in : Module → Code → (class number : ℕ) → FuncDef → Option ClassDef → Option (Detail Tree)
override_in m code c number f None = None
override_in m code c number f (Some class) = first_against m code (method_made m c number f)
    (overridden (base_class m c class).methods f.name.text)

-- the detail of a function of this owner; only a method overrides
abbrev pub override_by : Module → Code → FuncDef → Owner → Option (Detail Tree)
override_by m code f (owners.Method c i) = override_in m code c i f (slice_get (classes_in m.items) c)
override_by m code f owner = None

-- E11, A8: the first method above that it does not fit, and the first part that differs
abbrev pub override_detail : Module → Code → Body → Option (Detail Tree)
override_detail m code b = override_by m code b.function b.owner
