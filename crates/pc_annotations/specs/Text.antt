-- The text of a type.
-- Typing specification, "Type annotations"; PEP 604; that `Never` has a text is an own rule of the profile.
use Rattle.std.specs.Prelude.{ℕ, zero, suc, List, [], ◌∷◌, ◌++◌, map, Option, Some, None, codes, slice_get}
use Rattle.pc_tree.specs.Tree.{ClassDef, Module}
use Rattle.pc_scope.specs.Bindings.{classes_in}
use Rattle.pc_types.specs.Tree.{Tree, Trees, Any, Object, Never, Int, Bool, Str, NoneType, Class, ListOf, DictOf}
use Rattle.pc_types.specs.Tree.{TupleOf, Union, end, more}
use Rattle.pc_types.specs.Shape.{parts}
use Rattle.pc_types.specs.declared.head.Head.{Head}
use Rattle.pc_types.specs.declared.head.Head.TheVariants as heads

-- the name of a class, if there is one
abbrev pub name_in : Option ClassDef → List ℕ
name_in None = []
name_in (Some c) = c.name.text

-- the names of the classes of a module, in order
abbrev pub class_names : Module → List (List ℕ)
class_names m = map (λ c. c.name.text) (classes_in m.items)

-- the name of the class with this number, in normal form NFKC; empty if there is no such class
abbrev pub class_text : Module → ℕ → List ℕ
class_text m c = name_in (slice_get (classes_in m.items) c)

module _ (m : Module) where
  -- the text of a type, and of the parts of a tuple
  abbrev mutual
    -- `list[T]`, `dict[K, V]`, `tuple[S, T]`, `tuple[()]`, members in order with ` | ` between them
    pub type_text : Tree → List ℕ
    type_text Any = codes "Any"
    type_text Object = codes "object"
    type_text Never = codes "Never"
    type_text Int = codes "int"
    type_text Bool = codes "bool"
    type_text Str = codes "str"
    type_text NoneType = codes "None"
    type_text (Class c) = class_text m c
    type_text (ListOf t) = codes "list[" ++ (type_text t ++ codes "]")
    type_text (DictOf k v) = codes "dict[" ++ (type_text k ++ (codes ", " ++ (type_text v ++ codes "]")))
    type_text (TupleOf ts) = codes "tuple[" ++ (parts_text ts ++ codes "]")
    type_text (Union a b) = type_text a ++ (codes " | " ++ type_text b)

    -- the parts of a tuple with commas between them, `()` if there is none
    pub parts_text : Trees → List ℕ
    parts_text end = codes "()"
    parts_text (more t ts) = type_text t ++ further_parts_text ts

    -- further parts of a tuple, each after a comma
    pub further_parts_text : Trees → List ℕ
    further_parts_text end = []
    further_parts_text (more t ts) = codes ", " ++ (type_text t ++ further_parts_text ts)

-- ---- the text as the program writes it: private to this crate, tied to the above in proofs/

-- the texts of the parts of a type
abbrev pub part_texts : Module → Tree → List (List ℕ)
part_texts m t = map (type_text m) (parts t)

-- the separator before the text with this number, from 0
abbrev pub before : ℕ → List ℕ → List ℕ
before zero separator = []
before (suc n) separator = separator

-- texts, each preceded by a separator
abbrev pub each_separated : List ℕ → List (List ℕ) → List ℕ
each_separated separator [] = []
each_separated separator (x ∷ xs) = separator ++ (x ++ each_separated separator xs)

-- texts with a separator between them
abbrev pub with_separator : List ℕ → List (List ℕ) → List ℕ
with_separator separator [] = []
with_separator separator (x ∷ xs) = x ++ each_separated separator xs

-- texts with a separator between them, `()` if there is none
abbrev pub texts_with : List ℕ → List (List ℕ) → List ℕ
texts_with separator [] = codes "()"
texts_with separator (x ∷ xs) = with_separator separator (x ∷ xs)

-- the text of a type that its head alone determines
abbrev pub plain_text : Module → Head → Option (List ℕ)
plain_text m heads.Any = Some (codes "Any")
plain_text m heads.Object = Some (codes "object")
plain_text m heads.Never = Some (codes "Never")
plain_text m heads.Int = Some (codes "int")
plain_text m heads.Bool = Some (codes "bool")
plain_text m heads.Str = Some (codes "str")
plain_text m heads.None = Some (codes "None")
plain_text m (heads.Class c) = Some (class_text m c)
plain_text m _ = None

-- the text of a type, given its head and the texts of its parts
abbrev pub text_by_head : Module → Head → List (List ℕ) → List ℕ
text_by_head m heads.Any ts = codes "Any"
text_by_head m heads.Object ts = codes "object"
text_by_head m heads.Never ts = codes "Never"
text_by_head m heads.Int ts = codes "int"
text_by_head m heads.Bool ts = codes "bool"
text_by_head m heads.Str ts = codes "str"
text_by_head m heads.None ts = codes "None"
text_by_head m (heads.Class c) ts = class_text m c
text_by_head m heads.List ts = codes "list[" ++ (texts_with (codes ", ") ts ++ codes "]")
text_by_head m heads.Dict ts = codes "dict[" ++ (texts_with (codes ", ") ts ++ codes "]")
text_by_head m (heads.Tuple n) ts = codes "tuple[" ++ (texts_with (codes ", ") ts ++ codes "]")
text_by_head m (heads.Union n) ts = texts_with (codes " | ") ts
