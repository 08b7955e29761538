-- Findings as they are gathered: each alone, or with the two types of the flow that it reports; and types that are kept,
-- of labels and of bound names.
-- Own rule of the profile.
use Rattle.std.specs.Prelude.{◌≡◌, List, [], ◌∷◌, Option, Some, None, option_map, map, IfSome, Bool as Test, true}
use Rattle.std.specs.Prelude.{false}
use Rattle.std.specs.Prelude.{◌&&◌, nat_eq, bytes_eq, if◌then◌else◌, box_value, flat_map}
use Rattle.std.specs.Borrow.{Bor}
use Rattle.std.specs.List.{AllByRecursion}
use Rattle.std.specs.Rc.{rc_value}
use Rattle.std.specs.declared.rc.Rc.{Rc}
use Rattle.std.specs.declared.alloc.Global.{Global}
use Rattle.pc_source.specs.declared.place.Place.{Place}
use Rattle.pc_tree.specs.declared.code.Code.{Code}
use Rattle.pc_tree.specs.declared.code.Finding.{Finding}
use Rattle.pc_tree.specs.Code.{text_of}
use Rattle.pc_types.specs.Tree.{Tree}
use Rattle.pc_types.specs.Boxed.{tree_of, IsGiven}
use Rattle.pc_types.specs.declared.boxed.BoxType.{BoxType}
use Rattle.pc_notes.specs.declared.notes.NotedFlow.{NotedFlow}
use Rattle.pc_notes.specs.declared.sharing.SharedType.{SharedType}
use Rattle.pc_notes.specs.declared.notes.NoteEntry.{NoteEntry}
use Rattle.pc_notes.specs.declared.notes.NoteEntry.TheVariants.{Told, Typed, Bound}
use Rattle.pc_notes.specs.declared.notes.BoundTypes.{BoundTypes}

pub data Note : Type 0 where
  -- a finding and, if it reports a flow, the type that flows and the type that it flows into
  told : Finding → (flow : Option (Tree × Tree)) → Note
  -- the type of a label; not shown for a callee that is a name or an attribute
  typed : (shown : Test) → Place → Tree → Note
  -- a bound name: its declared type, and its current type after the binding, if it has a value then
  named : Place → (declared : Tree) → (current : Option Tree) → Note

-- a finding that reports no flow
abbrev pub plain_note : Finding → Note
plain_note f = told f None

-- a finding that reports a flow from one type into another, at the place of the expression that flows
abbrev pub flow_note : Finding → (from into : Tree) → Note
flow_note f s t = told f (Some (s, t))

-- the finding of a note, if it has one
abbrev pub finding_in : Note → List Finding
finding_in (told f flow) = f ∷ []
finding_in (typed shown p t) = []
finding_in (named p d c) = []

-- the findings of notes
abbrev pub findings_of : List Note → List Finding
findings_of notes = flat_map finding_in notes

-- the type that a note shows, if it shows one
abbrev pub shown_type : Note → List (Place × Tree)
shown_type (told f flow) = []
shown_type (typed true p t) = (p, t) ∷ []
shown_type (typed false p t) = []
shown_type (named p d c) = []

-- the types that notes show
abbrev pub types_of : List Note → List (Place × Tree)
types_of notes = flat_map shown_type notes

-- the tree of a shared type
abbrev pub shared_tree : Rc SharedType Global → Tree
shared_tree t = tree_of (rc_value t).ty

-- a shared type is a type that a store of boxes may give
abbrev pub IsGivenType : Rc SharedType Global → Type 0
IsGivenType t = IsGiven (rc_value t).ty

-- the bound name of a note, if it has one
abbrev pub name_of_note : Note → List (Place × Tree × Option Tree)
name_of_note (told f flow) = []
name_of_note (typed shown p t) = []
name_of_note (named p d c) = (p, d, c) ∷ []

-- the bound names of notes
abbrev pub names_of_notes : List Note → List (Place × Tree × Option Tree)
names_of_notes notes = flat_map name_of_note notes

-- two places are the same
abbrev pub is_same_place : Place → Place → Test
is_same_place p q = nat_eq p.start q.start && nat_eq p.end q.end

-- two codes are the same
abbrev pub is_same_code : Code → Code → Test
is_same_code c d = bytes_eq (text_of c) (text_of d)

-- a finding has this code and this place
abbrev pub is_finding_at : Code → Place → Finding → Test
is_finding_at c p f = is_same_place p f.place && is_same_code c f.code

-- the first value if there is one, else the second
abbrev pub or_else : {A : Type 0} → Option A → Option A → Option A
or_else None rest = rest
or_else (Some a) rest = Some a

-- the flow of a note if it reports one with this code at this place, else the flow of the notes after it
abbrev pub flow_or : Code → Place → Note → (rest : Option (Tree × Tree)) → Option (Tree × Tree)
flow_or c p (told f flow) rest = if is_finding_at c p f then or_else flow rest else rest
flow_or c p (typed shown q t) rest = rest
flow_or c p (named q d t) rest = rest

-- the types of the first flow noted with a code at a place
abbrev pub flow_noted : Code → Place → List Note → Option (Tree × Tree)
flow_noted c p [] = None
flow_noted c p (n ∷ ns) = flow_or c p n (flow_noted c p ns)

-- the type of a note if it is that of a label at this place, shown or not, else the type of the notes after it
abbrev pub type_or : Place → Note → (rest : Option Tree) → Option Tree
type_or p (told f flow) rest = rest
type_or p (typed shown q t) rest = if is_same_place p q then Some t else rest
type_or p (named q d t) rest = rest

-- the first type noted at a place, of a label that is shown or not
abbrev pub type_noted : Place → List Note → Option Tree
type_noted p [] = None
type_noted p (n ∷ ns) = type_or p n (type_noted p ns)

-- the meaning of two types that are borrowed
abbrev pub pair_shown : Bor BoxType × Bor BoxType → Tree × Tree
pair_shown t = (tree_of t.0.now, tree_of t.1.now)

-- the meaning of a kept flow
abbrev pub flow_types : NotedFlow → Tree × Tree
flow_types f = (shared_tree f.from, shared_tree f.into)

-- the flow of an entry, out of its box, if it reports one with this code
abbrev pub kept_flow : Code → NoteEntry → Option NotedFlow
kept_flow c (Told f flow) = if is_same_code c f.code then option_map box_value flow else None
kept_flow c (Typed shown p t) = None
kept_flow c (Bound p t) = None

-- the type of an entry, if it is that of a label, shown or not
abbrev pub kept_type : NoteEntry → Option BoxType
kept_type (Told f flow) = None
kept_type (Typed shown p t) = Some (rc_value t).ty
kept_type (Bound p t) = None

-- the place of an entry
abbrev pub entry_place : NoteEntry → Place
entry_place (Told f flow) = f.place
entry_place (Typed shown p t) = p
entry_place (Bound p t) = p

-- the meaning of an entry
abbrev pub note_of : NoteEntry → Note
note_of (Told f flow) = told f (option_map flow_types (option_map box_value flow))
note_of (Typed shown p t) = typed shown p (shared_tree t)
note_of (Bound p t) = named p (shared_tree (box_value t).declared) (option_map shared_tree (box_value t).current)

-- the meaning of entries
abbrev pub notes_of : List NoteEntry → List Note
notes_of es = map note_of es

-- the types of a flow are types that a store of boxes may give
pub record IsGivenFlow (f : NotedFlow) : Type 0 where
  pub from : IsGivenType f.from
  pub into : IsGivenType f.into

-- the types of a bound name are types that a store of boxes may give
pub record IsGivenBound (b : BoundTypes) : Type 0 where
  pub declared : IsGivenType b.declared
  pub current : IfSome b.current IsGivenType

-- the types that an entry keeps are types that a store of boxes may give
abbrev pub IsGivenEntry : NoteEntry → Type 0
IsGivenEntry (Told f flow) = IfSome (option_map box_value flow) IsGivenFlow
IsGivenEntry (Typed shown p t) = IsGivenType t
IsGivenEntry (Bound p t) = IsGivenBound (box_value t)

-- the types of all entries are types that a store of boxes may give
abbrev pub AreGiven : List NoteEntry → Type 0
AreGiven es = AllByRecursion IsGivenEntry es

-- types of a store that mean these two, or none if there are none
abbrev pub ExplainsFlow : {Store Ty : Type 0} → (has : Store → Ty → Type 0) → (tree : Ty → Tree) → Store
    → Option (Ty × Ty) → Option (Tree × Tree) → Type 0
ExplainsFlow has tree store None o = o ≡ None
ExplainsFlow has tree store (Some p) o = has store p.0 × has store p.1 × (o ≡ Some (tree p.0, tree p.1))

-- two borrowed types are types that a store of boxes may give
abbrev pub IsGivenPair : Bor BoxType × Bor BoxType → Type 0
IsGivenPair t = IsGiven t.0.now × IsGiven t.1.now
