-- The members of a type that lack an operation or an attribute, as the program tests them: private to this crate, tied to
-- the rules of operations in proofs/. Own rule of the profile.
use Rattle.std.specs.Prelude.{ℕ, List, Bool as Test, true, false, ◌&&◌, ◌||◌, not, Option, Some, None}
use Rattle.std.specs.Prelude.{codes, bytes_eq}
use Rattle.pc_tree.specs.declared.code.Code.{Code}
use Rattle.pc_tree.specs.declared.code.Code.TheVariants.{E16, E17, E18, E19, E27}
use Rattle.pc_tree.specs.Depth.{place_of}
use Rattle.pc_tree.specs.Tree.{Expr, attribute, Module}
use Rattle.pc_types.specs.Below.{Bases}
use Rattle.pc_types.specs.Tree.{Tree, Any, Str, Class, ListOf, DictOf, TupleOf}
use Rattle.pc_rules.specs.Operations.{contain_member, index_member, iterate_member, length_member, store_index_member}
use Rattle.pc_type_details.specs.declared.operations.ItemOperation.{ItemOperation}
use Rattle.pc_type_details.specs.declared.operations.ItemOperation.TheVariants as operation
use Rattle.pc_type_details.specs.declared.operations.Use.{Use}
use Rattle.pc_type_details.specs.declared.operations.Use.TheVariants as used
use Rattle.pc_detail_texts.specs.Details.{Detail}
use Rattle.pc_detail_rules.specs.Facts.{Known}
use Rattle.pc_detail_rules.specs.Operations.{attribute_detail, found_as_callee, found_as_target, found_as_value, has_member, lacking}

-- the codes that an operation finds on a member
abbrev pub found_by : Bases → ItemOperation → Tree → List Code
found_by bases operation.Contain t = (contain_member t).found
found_by bases operation.Length t = (length_member t).found
found_by bases operation.Index t = (index_member bases None t).found
found_by bases operation.Store t = (store_index_member t).found
found_by bases operation.Iterate t = (iterate_member bases t).found

-- the code of an operation that is an error
abbrev pub error_code : ItemOperation → Code
error_code operation.Contain = E19
error_code operation.Length = E27
error_code operation.Index = E16
error_code operation.Store = E17
error_code operation.Iterate = E18

-- the members of a type on which an operation is an error
abbrev pub lacking_by : Bases → ItemOperation → Tree → List Tree
lacking_by bases o t = lacking (λ u. found_by bases o u) (error_code o) t

-- whether an operation stores an item
abbrev pub is_store : ItemOperation → Test
is_store operation.Store = true
is_store o = false

-- whether an operation is an error on a member
abbrev pub lacks : ItemOperation → Tree → Test
lacks o Any = false
lacks o (ListOf t) = false
lacks o (DictOf k v) = false
lacks o Str = is_store o
lacks o (TupleOf ts) = is_store o
lacks o t = true

-- ---- attributes

-- the codes that a use of an attribute finds on a member
abbrev pub found_for : Module → Use → List ℕ → Tree → List Code
found_for m used.Read word t = found_as_value m word t
found_for m used.Called word t = found_as_callee m word t
found_for m used.Assigned word t = found_as_target m word t

-- the detail of an attribute that is used in this way: the type of the object, its members that lack the name, the
-- name, and the hint on it
abbrev pub attribute_used : Module → Known → Use → Expr → Option (Detail Tree)
attribute_used m known u (attribute p e field) =
    Some (attribute_detail m (found_for m u field.text) (known.types (place_of e)) field.text)
attribute_used m known u _ = None

-- whether an attribute is called
abbrev pub is_called : Use → Test
is_called used.Called = true
is_called u = false

-- whether a member has no attribute of this name, for such a use
abbrev pub lacks_name : Module → Use → List ℕ → Tree → Test
lacks_name m u word Any = false
lacks_name m u word (Class c) = not (has_member m word c)
lacks_name m u word (ListOf t) = not (is_called u)
    || (not (bytes_eq word (codes "append")) && not (bytes_eq word (codes "pop")))
lacks_name m u word (DictOf k v) = not (is_called u) || not (bytes_eq word (codes "get"))
lacks_name m u word t = true
