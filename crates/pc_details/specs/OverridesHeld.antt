-- In which way one parameter differs from the one above: private to this crate, tied to the faults of overrides in
-- proofs/. Own rule of the profile.
use Rattle.std.specs.Prelude.{ℕ, List, Bool as Test, ◌&&◌, not, if◌then◌else◌, Option, Some, None, bytes_eq}
use Rattle.pc_tree.specs.declared.code.Code.{Code}
use Rattle.pc_tree.specs.Tree.{Module}
use Rattle.pc_types.specs.Tree.{Tree}
use Rattle.pc_class.specs.Facts.{Method, TypedParameter}
use Rattle.pc_class.specs.Overrides.{overridden}
use Rattle.pc_detail_texts.specs.Details as detail
use Rattle.pc_detail_texts.specs.Details.{Detail, OverrideFault}
use Rattle.pc_detail_rules.specs.Overrides.{first_against}

-- another name, or no default where the one above has one
abbrev pub shape_fault_at : ℕ → (above here : TypedParameter) → Option (OverrideFault Tree)
shape_fault_at k p q =
    if not (bytes_eq p.name q.name) then Some (detail.other_name k p.name q.name)
    else (if p.has_default && not q.has_default then Some (detail.no_default p.name) else None)

-- a type into which the one above does not flow
abbrev pub parameter_fault_at : (fits : Tree → Tree → Test) → (above here : TypedParameter)
    → Option (OverrideFault Tree)
parameter_fault_at fits p q = if fits p.type q.type then None
    else Some (detail.other_parameter q.name p.type q.type)

-- the detail of a method against the first of some methods of its name that it does not fit
abbrev pub first_over : Module → Code → (here : Method) → List Method → Option (Detail Tree)
first_over m code here above = first_against m code here (overridden above here.name)
