-- The types of annotations, and the findings in them: E09, E10, E26.
-- Typing specification, "Type annotations"; PEP 484, PEP 563, PEP 604; the codes are own rules of the profile.
use Rattle.std.specs.Prelude.{◌≡◌, ◌⊎◌, ◌<◌, List, [], ◌∷◌, Bool as Test, true, false, ◌&&◌, not, if◌then◌else◌, nat_le}
use Rattle.std.specs.Prelude.{◌==◌, Option, Some, None, unwrap_or, MatchOption}
use Rattle.std.specs.List.{list_all}
use Rattle.pc_tree.specs.declared.code.Code.TheVariants.{E09, E10, E26}
use Rattle.pc_tree.specs.declared.code.Finding.{Finding}
use Rattle.pc_tree.specs.Code.{finding}
use Rattle.pc_tree.specs.Tree.{Name, Ann, Anns, named, none_type, applied, applied_empty, no_anns, more_anns, Module}
use Rattle.pc_tree.specs.Tree as tree
use Rattle.pc_tree.specs.Depth.{place_of_ann}
use Rattle.pc_scope.specs.declared.resolution.Builtin.{Builtin}
use Rattle.pc_scope.specs.declared.resolution.Builtin.TheVariants as builtin
use Rattle.pc_scope.specs.declared.resolution.NameMeaning.{NameMeaning}
use Rattle.pc_scope.specs.declared.resolution.NameMeaning.TheVariants as meaning
use Rattle.pc_scope.specs.Resolution.{resolve_in_module}
use Rattle.pc_types.specs.Tree.{Tree, Any, Object, Never, Int, Bool, Str, NoneType, Class, ListOf, DictOf, TupleOf}
use Rattle.pc_types.specs.Tree.{Union, end}
use Rattle.pc_types.specs.Below.{Bases}
use Rattle.pc_types.specs.Shape.{nodes, node_limit, trees, union}
use Rattle.pc_types.specs.Normal.{member_rank}
use Rattle.pc_types.specs.Join.{absorbs, is_before}

-- the type of a built-in name: `int`, `bool`, `str`, `object`, and `Any` if the header imports it
abbrev pub atom : (imports_any : Test) → Builtin → Option Tree
atom imports_any builtin.Int = Some Int
atom imports_any builtin.Bool = Some Bool
atom imports_any builtin.Str = Some Str
atom imports_any builtin.Object = Some Object
atom imports_any builtin.Any = if imports_any then Some Any else None
atom imports_any _ = None

-- the type that a name means: a built-in type without arguments, or a class of the module
abbrev pub named_type : (imports_any : Test) → NameMeaning → Option Tree
named_type imports_any (meaning.Builtin b) = atom imports_any b
named_type imports_any (meaning.Class c) = Some (Class c)
named_type imports_any _ = None

-- a dict type whose key is `int` or `str`
abbrev pub dict_type : Tree → Tree → Option Tree
dict_type Int v = Some (DictOf Int v)
dict_type Str v = Some (DictOf Str v)
dict_type _ v = None

-- `list[T]`, `dict[K, V]`, `tuple[T1, ..]`
abbrev pub built_type : Builtin → List Tree → Option Tree
built_type builtin.List (t ∷ []) = Some (ListOf t)
built_type builtin.Dict (k ∷ v ∷ []) = dict_type k v
built_type builtin.Tuple (t ∷ ts) = Some (TupleOf (trees (t ∷ ts)))
built_type _ _ = None

-- the type of a name applied to arguments, if the name means a built-in that takes them
abbrev pub applied_type : NameMeaning → List Tree → Option Tree
applied_type (meaning.Builtin b) arguments = built_type b arguments
applied_type _ arguments = None

-- `tuple[()]`
abbrev pub empty_type : NameMeaning → Option Tree
empty_type (meaning.Builtin builtin.Tuple) = Some (TupleOf end)
empty_type _ = None

-- a type that may be a member of a union: neither Any, object, Never nor a union
abbrev pub is_member : Tree → Test
is_member Any = false
is_member Object = false
is_member Never = false
is_member (Union a b) = false
is_member _ = true

-- two members have the same head, and therefore the same rank among the members of a union
abbrev pub has_same_head : Tree → Tree → Test
has_same_head m n = ((member_rank m).0 == (member_rank n).0) && ((member_rank m).1 == (member_rank n).1)

-- two types may be members of one union: their heads differ, and neither absorbs the other
abbrev pub are_apart : Bases → Tree → Tree → Test
are_apart bases m n = not (has_same_head m n) && (not (absorbs bases m n) && not (absorbs bases n m))

-- the parts make a union: each may be a member, and any two are apart
abbrev pub is_union : Bases → List Tree → Test
is_union bases [] = true
is_union bases (m ∷ ms) = is_member m && (list_all (are_apart bases m) ms && is_union bases ms)

-- a member put in its place among others
abbrev pub insert_member : Tree → List Tree → List Tree
insert_member m [] = m ∷ []
insert_member m (n ∷ ns) = if is_before m n then m ∷ n ∷ ns else n ∷ insert_member m ns

-- members in the order of a union
abbrev pub in_union_order : List Tree → List Tree
in_union_order [] = []
in_union_order (m ∷ ms) = insert_member m (in_union_order ms)

-- the union of these parts, if they make one
abbrev pub union_type : Bases → List Tree → Option Tree
union_type bases parts = if is_union bases parts then Some (union (in_union_order parts)) else None

module _ (m : Module) (bases : Bases) where
  -- the meaning of a name in an annotation, in the module
  abbrev meant : Name → NameMeaning
  meant n = resolve_in_module m n.text

  -- the type of an annotation, with each part that has E09 or E10 read as Any
  abbrev mutual
    pub reading : Ann → Tree
    reading (named n) = unwrap_or (named_type m.imports_any (meant n)) Any
    reading (none_type p) = NoneType
    reading (applied p head arguments) = unwrap_or (applied_type (meant head) (read_anns arguments)) Any
    reading (applied_empty p head) = unwrap_or (empty_type (meant head)) Any
    reading (tree.union p parts) = unwrap_or (union_type bases (read_anns parts)) Any

    -- the types of several annotations
    pub read_anns : Anns → List Tree
    read_anns no_anns = []
    read_anns (more_anns a rest) = reading a ∷ read_anns rest

  -- E09: a part of any other form, as a whole; E10: an invalid union; each part of a union is judged, but no part of an
  -- E09
  abbrev mutual
    pub PartFinds : Ann → Finding → Type 0
    PartFinds (named n) f = MatchOption (named_type m.imports_any (meant n)) (f ≡ finding n.place E09) (λ t. ⊥)
    PartFinds (none_type p) f = ⊥
    PartFinds (applied p head arguments) f =
        MatchOption (applied_type (meant head) (read_anns arguments)) (f ≡ finding p E09) (λ t. PartsFind arguments f)
    PartFinds (applied_empty p head) f = MatchOption (empty_type (meant head)) (f ≡ finding p E09) (λ t. ⊥)
    PartFinds (tree.union p parts) f = MatchOption (union_type bases (read_anns parts)) (f ≡ finding p E10) (λ t. ⊥)
        ⊎ PartsFind parts f

    -- the findings in several annotations
    pub PartsFind : Anns → Finding → Type 0
    PartsFind no_anns f = ⊥
    PartsFind (more_anns a rest) f = PartFinds a f ⊎ PartsFind rest f

  -- E26: the type of the whole annotation is too large
  pub record IsTooLarge (a : Ann) (f : Finding) : Type 0 where
    pub large : node_limit < nodes (reading a)
    pub is : f ≡ finding (place_of_ann a) E26

  -- the findings of an annotation
  abbrev pub AnnFinds : Ann → Finding → Type 0
  AnnFinds a f = PartFinds a f ⊎ IsTooLarge a f

  -- the type of an annotation, or Any if it is too large
  abbrev pub read_ann : Ann → Tree
  read_ann a = if nat_le (nodes (reading a)) node_limit then reading a else Any

  -- the type of an annotation, or Any if there is none
  abbrev pub read_option : Option Ann → Tree
  read_option None = Any
  read_option (Some a) = read_ann a

  -- the findings of an annotation, none if there is no annotation
  abbrev pub OptionAnnFinds : Option Ann → Finding → Type 0
  OptionAnnFinds None f = ⊥
  OptionAnnFinds (Some a) f = AnnFinds a f
