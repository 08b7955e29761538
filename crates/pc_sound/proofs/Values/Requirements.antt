-- The records that a heap typing needs so that a type has a value: the classes, lists and dicts that the value refers
-- to.
use Rattle.std.proofs.Common.{◌≡◌, ℕ, zero, suc, List, [], ◌∷◌, ◌++◌, refl, ap, ◌∙◌, arith, Contains}
use Rattle.std.specs.Prelude.{Some, slice_get}
use Rattle.std.proofs.lemmas.List.Elements.{Contains-append_left, Contains-append_right}
use Rattle.std.proofs.lemmas.Option.{slice_get-get_or}
use Rattle.pc_types.specs.Tree.{Tree, Trees, Class, ListOf, DictOf, TupleOf, Union, end, more}
use Rattle.pc_class.specs.Facts as facts
use Rattle.pc_class.specs.Facts.{TypedParameter, class_facts_at}
use Rattle.pc_sound.specs.Values.{HeapTyping, Recorded, a_list, a_dict, a_class}
use Rattle.pc_sound.specs.Needed.{NoneHasNever, FieldsHaveNoNever}

-- the records that a value of the type refers to
abbrev mutual
  pub required : Tree → List Recorded
  required (Class c) = a_class c ∷ []
  required (ListOf t) = a_list t ∷ []
  required (DictOf s t) = a_dict s t ∷ []
  required (TupleOf ts) = required_by_each ts
  required (Union a b) = required a ++ required b
  required _ = []

  -- the records that values of the types refer to
  pub required_by_each : Trees → List Recorded
  required_by_each end = []
  required_by_each (more t ts) = required t ++ required_by_each ts

-- the records that the values of fields refer to
abbrev pub required_by_fields : List TypedParameter → List Recorded
required_by_fields [] = []
required_by_fields (f ∷ fs) = required f.type ++ required_by_fields fs

-- the records that the fields of all classes refer to
abbrev pub required_by_classes : List facts.ClassFacts → List Recorded
required_by_classes [] = []
required_by_classes (c ∷ cs) = required_by_fields c.fields ++ required_by_classes cs

-- a heap typing records each of these
pub record Records (k : HeapTyping) (rs : List Recorded) : Type 0 where
  pub each : (r : Recorded) → Contains rs r → Contains k r

-- it records all that it records, and of two lists together each
pub records_itself : (k : HeapTyping) → Records k k
records_itself k = record { each = λ r c. c }

pub records_first : {k : HeapTyping} (rs qs : List Recorded) → Records k (rs ++ qs) → Records k rs
records_first rs qs h = record { each = λ r c. h.each r (Contains-append_left rs qs r c) }

pub records_second : {k : HeapTyping} (rs qs : List Recorded) → Records k (rs ++ qs) → Records k qs
records_second rs qs h = record { each = λ r c. h.each r (Contains-append_right rs qs r c) }

-- it records this at some location
pub record IsRecorded (k : HeapTyping) (r : Recorded) : Type 0 where
  pub place : ℕ
  pub is : slice_get k place ≡ Some r

-- where it records the one that it has to
pub place_of : {k : HeapTyping} (r : Recorded) → Records k (r ∷ []) → IsRecorded k r
place_of {k = k} r h =
    let c = h.each r (0, omega arith, refl) in
    record { place = c.0; is = slice_get-get_or k c.0 r c.1 ∙ ap Some c.2 }

-- the fields of a class are among those of all
pub records_fields :
    {k : HeapTyping} (classes : List facts.ClassFacts) (c : ℕ) → Records k (required_by_classes classes)
    → Records k (required_by_fields (class_facts_at classes c).fields)
records_fields [] c h = h
records_fields (d ∷ ds) zero h = records_first (required_by_fields d.fields) (required_by_classes ds) h
records_fields (d ∷ ds) (suc c) h =
    records_fields ds c (records_second (required_by_fields d.fields) (required_by_classes ds) h)

-- the fields of a class have no Never, where those of all have none
pub fields_without :
    (classes : List facts.ClassFacts) (c : ℕ) → FieldsHaveNoNever classes
    → NoneHasNever (class_facts_at classes c).fields
fields_without [] c h = tt
fields_without (d ∷ ds) zero h = h.0
fields_without (d ∷ ds) (suc c) h = fields_without ds c h.1
