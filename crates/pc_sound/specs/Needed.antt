-- Needed flows: those for which some value of the first type is not of the second.
-- Own rule of the profile.
use Rattle.std.specs.Prelude.{◌≡◌, ◌<◌, ℕ, List, [], ◌∷◌, length, Some, slice_get}
use Rattle.pc_types.specs.Tree.{Tree, Trees, Never, ListOf, DictOf, TupleOf, Union, end, more}
use Rattle.pc_types.specs.Below.{Bases}
use Rattle.pc_class.specs.Facts as facts
use Rattle.pc_class.specs.Facts.{TypedParameter}
use Rattle.pc_value.specs.Value.{Value, Heap}
use Rattle.pc_sound.specs.Values.{HeapTyping, a_class, HasType, IsWell}

-- the type contains no Never, at any depth
abbrev mutual
  pub HasNoNever : Tree → Type 0
  HasNoNever Never = ⊥
  HasNoNever (ListOf t) = HasNoNever t
  HasNoNever (DictOf k v) = HasNoNever k × HasNoNever v
  HasNoNever (TupleOf ts) = HaveNoNever ts
  HasNoNever (Union a b) = HasNoNever a × HasNoNever b
  HasNoNever _ = Unit {0}

  -- no part of a tuple contains Never
  pub HaveNoNever : Trees → Type 0
  HaveNoNever end = Unit {0}
  HaveNoNever (more t ts) = HasNoNever t × HaveNoNever ts

-- no field's type contains Never
abbrev pub NoneHasNever : List TypedParameter → Type 0
NoneHasNever [] = Unit {0}
NoneHasNever (f ∷ fs) = HasNoNever f.type × NoneHasNever fs

-- no class has a field whose type contains Never
abbrev pub FieldsHaveNoNever : List facts.ClassFacts → Type 0
FieldsHaveNoNever [] = Unit {0}
FieldsHaveNoNever (c ∷ cs) = NoneHasNever c.fields × FieldsHaveNoNever cs

-- under some well-typed heap of the classes, some value of the first type is not of the second
pub record IsNeeded (bases : Bases) (classes : List facts.ClassFacts) (s t : Tree) : Type 0 where
  pub typing : HeapTyping
  pub heap : Heap
  pub value : Value
  pub well : IsWell bases classes typing heap
  pub of_first : HasType bases typing s value
  pub not_second : ¬ (HasType bases typing t value)

-- each class that the heap typing records is one of these
abbrev pub HasClassesOf : List facts.ClassFacts → HeapTyping → Type 0
HasClassesOf classes typing = (l c : ℕ) → slice_get typing l ≡ Some (a_class c) → c < length classes

-- a flow is needed under some well-typed heap with instances of these classes only
pub record IsNeededWithin (bases : Bases) (classes : List facts.ClassFacts) (s t : Tree) : Type 0 where
  pub needed : IsNeeded bases classes s t
  pub only : HasClassesOf classes needed.typing
