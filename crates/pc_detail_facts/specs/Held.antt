-- The facts that details are made from, as the program holds them: the module, its classes, its types and flows.
-- Own rule of the profile.
use Rattle.std.specs.Prelude.{◌≡◌, List, map, Option, unwrap_or, All, IfSome}
use Rattle.std.specs.Option.{option_map}
use Rattle.std.specs.Borrow.{Bor}
use Rattle.std.specs.BTreeMap.{get}
use Rattle.pc_source.specs.declared.place.Place.{Place}
use Rattle.pc_tree.specs.declared.code.Code.{Code}
use Rattle.pc_tree.specs.declared.code.Code.TheVariants.{A1, E12}
use Rattle.pc_tree.specs.declared.tree.FuncDef.{FuncDef as RustFunction}
use Rattle.pc_tree.specs.declared.tree.ClassDef.{ClassDef as RustClass}
use Rattle.pc_tree.specs.declared.tree.Constant.{Constant as RustConstant}
use Rattle.pc_tree.specs.declared.tree.Stmt.{Stmt as RustStmt}
use Rattle.pc_tree.specs.Tree.{Module, FuncDef, ClassDef, Constant, Stmt, func_of, class_of, constant_of, expr_of, stmt_of}
use Rattle.pc_scope.specs.Bindings.{functions_in, classes_in, constants_in, methods_in, Body}
use Rattle.pc_types.specs.Tree.{Tree, Any}
use Rattle.pc_types.specs.Boxed.{tree_of, IsGiven}
use Rattle.pc_types.specs.declared.boxed.BoxType.{BoxType}
use Rattle.pc_types.specs.declared.boxed.BoxType.TheVariants as boxed
use Rattle.pc_annotations.specs.Bases.{bases_of}
use Rattle.pc_annotations.specs.ModuleOutlines.{module_in, IsModuleOutline}
use Rattle.pc_class.specs.Facts.{TypedParameter, classes_of}
use Rattle.pc_class.specs.Listings.{listed_in}
use Rattle.pc_class.specs.Parts.{bases_in}
use Rattle.pc_class.specs.Tables.{classes_with, parameters_with, HasEntries, HasParameter}
use Rattle.pc_class.specs.declared.listing.Listing.{Listing}
use Rattle.pc_class.specs.declared.table.Parameter.{Parameter as RustParameter}
use Rattle.pc_notes.specs.Notes.{Note, flow_noted, pair_shown, type_noted}
use Rattle.pc_notes.specs.Texts.{place_cmp}
use Rattle.pc_detail_texts.specs.Details.{Detail}
use Rattle.pc_detail_texts.specs.Mapped.{map_detail}
use Rattle.pc_detail_texts.specs.Sentences.{Words}
use Rattle.pc_detail_texts.specs.Shown.{detail_of_value}
use Rattle.pc_detail_texts.specs.declared.details.Detail.{Detail as RustDetail}
use Rattle.pc_detail_facts.specs.declared.annotations.Annotations.{Annotations}
use Rattle.pc_detail_facts.specs.declared.definitions.Body.{Body as RustBody}
use Rattle.pc_detail_facts.specs.declared.definitions.Definitions.{Definitions}
use Rattle.pc_detail_facts.specs.declared.definitions.OwnedExpr.{OwnedExpr as RustOwned}
use Rattle.pc_detail_facts.specs.declared.facts.Facts.{Facts}
use Rattle.pc_detail_facts.specs.declared.known.Known.{Known as RustKnown}
use Rattle.pc_detail_facts.specs.Annotated.{HoldsFields}
use Rattle.pc_detail_rules.specs.Facts.{Known}
use Rattle.pc_detail_rules.specs.Nodes.{OwnedExpr, owned}
use Rattle.pc_detail_rules.specs.ToldTypes.{told_type}
use Rattle.pc_detail_rules.specs.Written.{annotated_classes}

-- ---- what is known

-- the tree of a borrowed type
abbrev pub tree_lent : Bor BoxType → Tree
tree_lent t = tree_of t.now

-- the trees of borrowed types
abbrev pub trees_lent : List (Bor BoxType) → List Tree
trees_lent ts = map tree_lent ts

-- a borrowed type is one that a store may give
abbrev pub IsGivenLent : Bor BoxType → Type 0
IsGivenLent t = IsGiven t.now

-- the two types of a borrowed pair are such as a store may give
pub record AreGivenLent (pair : Bor BoxType × Bor BoxType) : Type 0 where
  pub from : IsGivenLent pair.0
  pub into : IsGivenLent pair.1

-- the type at a place, Any if there is none
abbrev pub type_held : RustKnown → Place → Tree
type_held k p = unwrap_or (option_map tree_lent (get place_cmp k.types p)) Any

-- the two types of the first flow with a code at a place: of a wrong one, or else of a dynamic one
abbrev pub flow_held : RustKnown → Code → Place → Option (Tree × Tree)
flow_held k E12 p = option_map pair_shown (get place_cmp k.wrong p)
flow_held k c p = option_map pair_shown (get place_cmp k.dynamic p)

-- the types and flows of a module by place, as the program holds them
abbrev pub known_of : RustKnown → Known
known_of k = record { types = type_held k; flows = flow_held k }

-- all types that are held are such as a store may give
pub record IsKnownHeld (k : RustKnown) : Type 0 where
  pub any : k.any ≡ boxed.Any
  pub types : (p : Place) → IfSome (get place_cmp k.types p) IsGivenLent
  pub wrong : (p : Place) → IfSome (get place_cmp k.wrong p) AreGivenLent
  pub dynamic : (p : Place) → IfSome (get place_cmp k.dynamic p) AreGivenLent

-- the types and flows that are held are those of the notes: the first type at each place, Any if there is none, and the
-- first wrong and the first dynamic flow
pub record HoldsNotes (notes : List Note) (k : RustKnown) : Type 0 where
  pub types : (p : Place) → type_held k p ≡ unwrap_or (type_noted p notes) Any
  pub wrong : (p : Place) → flow_held k E12 p ≡ flow_noted E12 p notes
  pub dynamic : (p : Place) → flow_held k A1 p ≡ flow_noted A1 p notes

-- ---- definitions

-- the tree of a borrowed function
abbrev pub function_lent : Bor RustFunction → FuncDef
function_lent f = func_of f.now

-- the tree of a borrowed class
abbrev pub class_lent : Bor RustClass → ClassDef
class_lent c = class_of c.now

-- the tree of a borrowed constant
abbrev pub constant_lent : Bor RustConstant → Constant
constant_lent c = constant_of c.now

-- the tree of a borrowed statement
abbrev pub stmt_lent : Bor RustStmt → Stmt
stmt_lent s = stmt_of s.now

-- a function or method with the owner of its names
abbrev pub body_of : RustBody → Body
body_of b = record { owner = b.owner; function = func_of b.function.now }

-- an expression with its owner
abbrev pub owned_of : RustOwned → OwnedExpr
owned_of o = owned o.owner (expr_of o.expr.now)

-- the definitions are those of a module
pub record HoldsDefinitions (m : Module) (d : Definitions) : Type 0 where
  pub constants : map constant_lent d.constants.items ≡ constants_in m.items
  pub functions : map function_lent d.functions.items ≡ functions_in m.items
  pub classes : map class_lent d.classes.items ≡ classes_in m.items

-- the annotations are those of the fields of a module's classes, with those of their ancestors; and the methods are those
-- of its classes
pub record HoldsAnnotations (m : Module) (a : Annotations) : Type 0 where
  pub fields : HoldsFields (annotated_classes m) a.fields
  pub methods : map (λ v. map function_lent v.items) a.methods.items ≡ map (λ c. methods_in c.members) (classes_in m.items)

-- ---- facts

-- the module that details are of
abbrev pub module_held : Facts → Module
module_held f = module_in f.outline.now

-- the types and flows of that module by place
abbrev pub known_held : Facts → Known
known_held f = known_of f.known.now

-- the parameters that a listing means
abbrev pub listing_held : Listing BoxType → List TypedParameter
listing_held l = parameters_with tree_of (listed_in l)

-- the types of a listing are such as a store may give
abbrev pub AreListedGiven : Listing BoxType → Type 0
AreListedGiven l = All (HasParameter IsGiven) (listed_in l)

-- the type of a borrowed parameter, if there is one, is such as a store may give
abbrev pub HasGivenType : Option (Bor (RustParameter BoxType)) → Type 0
HasGivenType p = IfSome p (λ q. IsGiven q.now.ty)

-- the text of a type of the module, of at most 200 bytes
abbrev pub text_held : Facts → Tree → Words
text_held f t = told_type (module_held f) t

-- the facts that details are made from are all of one module
pub record AreFacts (f : Facts) : Type 0 where
  pub outline : IsModuleOutline f.outline.now
  pub classes : classes_with tree_of f.classes.now ≡ classes_of (module_held f)
  pub parents : bases_in f.classes.now ≡ bases_of (module_held f)
  pub given : HasEntries IsGiven f.classes.now
  pub fields : map listing_held f.fields.now ≡ map (λ c. c.fields) (classes_of (module_held f))
  pub listed : All AreListedGiven f.fields.now
  pub annotations : HoldsAnnotations (module_held f) f.annotations.now
  pub definitions : HoldsDefinitions (module_held f) f.definitions.now
  pub known : IsKnownHeld f.known.now

-- ---- details

-- a detail of the program, if there is one, is this one with its types as texts
abbrev pub ShowsDetail : Facts → Option (Detail Tree) → Option RustDetail → Type 0
ShowsDetail f want made = option_map detail_of_value made ≡ option_map (map_detail (text_held f)) want

-- a detail of the program is this one with its types as texts
abbrev pub ShowsOne : Facts → Detail Tree → RustDetail → Type 0
ShowsOne f want made = detail_of_value made ≡ map_detail (text_held f) want
