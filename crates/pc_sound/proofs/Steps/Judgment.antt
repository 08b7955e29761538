-- The judgment: from a well-typed state each run of a step evaluates a listed place, or keeps all that is known.
-- Own rule of the profile.
use Rattle.std.specs.Prelude.{◌≡◌, ◌⊎◌, ℕ, List, [], ◌∷◌, Bool as Test, Option, Some, None, Contains}
use Rattle.pc_source.specs.declared.place.Place.{Place}
use Rattle.pc_tree.specs.declared.code.Code.{Code}
use Rattle.pc_types.specs.Tree.{Tree}
use Rattle.pc_tree.specs.Tree.{Name, Expr}
use Rattle.pc_types.specs.Below.{Bases, AreSmaller}
use Rattle.pc_scope.specs.declared.resolution.NameMeaning.TheVariants as meaning
use Rattle.pc_scope.specs.Resolution.{index_of}
use Rattle.pc_class.specs.Facts as facts
use Rattle.pc_flow.specs.Environment.{Env, declared_type}
use Rattle.pc_flow.specs.Narrowing.{narrow}
use Rattle.pc_rules.specs.Context.{Context}
use Rattle.pc_value.specs.Value.{Value, Out, is_true}
use Rattle.pc_machine.specs.State.{State, Class, Globals, Frame}
use Rattle.pc_machine.specs.Names.{local_by_name, with_local}
use Rattle.pc_machine.specs.Steps.{StatementEnd, next, breaking, continuing, leaves}
use Rattle.pc_machine.specs.Free.{Step}
use Rattle.pc_sound.specs.Values.{HeapTyping, HasType, Extends, IsWell}
use Rattle.pc_sound.specs.Ends.{EndsWell}
use Rattle.pc_sound.proofs.Steps.BoundLocals.{HasLocals}

-- a listed place was evaluated
pub record HasListed (listed : Place → Type 0) (events : List Place) : Type 0 where
  pub place : Place
  pub is : listed place
  pub event : Contains events place

-- codes at a place: none, or the place is listed
abbrev pub AreListedCodes : (Place → Type 0) → Place → List Code → Type 0
AreListedCodes listed p [] = Unit {0}
AreListedCodes listed p (c ∷ cs) = listed p

-- the surroundings of a body: types, class facts, its locals with their declared types, the listed places, and the
-- facts known of the classes made and of the names that the module has bound
pub record Around : Type 1 where
  pub bases : Bases
  pub classes : List facts.ClassFacts
  pub names : List (List ℕ)
  pub declared : List Tree
  pub listed : Place → Type 0
  pub outside : HeapTyping → List Class → Globals → Type 0
  pub stays : (k k' : HeapTyping) (made : List Class) (globals : Globals) → Extends k k' → outside k made globals
      → outside k' made globals

-- a frame has a local, bound or not
pub record HasLocalNamed (word : List ℕ) (frame : Frame) : Type 0 where
  pub value : Option Value
  pub is : local_by_name word frame ≡ Some value

-- a frame has just these names
pub record HasNames (names : List (List ℕ)) (frame : Frame) : Type 0 where
  pub held : (word : List ℕ) (x : ℕ) → index_of word names ≡ Some x → HasLocalNamed word frame
  pub others : (word : List ℕ) → index_of word names ≡ None → local_by_name word frame ≡ None

-- a state is well typed
pub record IsWellTyped (around : Around) (env : Env) (k : HeapTyping) (s : State) : Type 0 where
  pub well : IsWell around.bases around.classes k s.heap
  pub frame : HasNames around.names s.frame
  pub locals : HasLocals around.bases k around.names around.declared env s.frame
  pub outside : around.outside k s.classes s.globals

-- a step kept the frame, the module's names and the classes; and a heap typing that extends the one before types the
-- heap
pub record KeepsState (around : Around) {A : Type 0} (P : HeapTyping → A → Type 0) (k : HeapTyping) (s : State)
    (out : Out A) (s' : State) : Type 0 where
  pub typing : HeapTyping
  pub grows : Extends k typing
  pub well : IsWell around.bases around.classes typing s'.heap
  pub same_frame : s'.frame ≡ s.frame
  pub same_globals : s'.globals ≡ s.globals
  pub same_classes : s'.classes ≡ s.classes
  pub ends : EndsWell (P typing) out

-- a step that kept these keeps them with other ends
pub kept_with : {around : Around} {A B : Type 0} {P : HeapTyping → A → Type 0} {Q : HeapTyping → B → Type 0}
    {k : HeapTyping} {s s' : State} {out : Out A} {out' : Out B} (kept : KeepsState around P k s out s')
    → EndsWell (Q kept.typing) out' → KeepsState around Q k s out' s'
kept_with kept ends = record {
  typing = kept.typing;
  grows = kept.grows;
  well = kept.well;
  same_frame = kept.same_frame;
  same_globals = kept.same_globals;
  same_classes = kept.same_classes;
  ends = ends;
}

-- where this is known, the step is safe
pub record IsSafe (around : Around) (env : Env) (known : HeapTyping → Type 0) {A : Type 0} (m : Step A)
    (P : HeapTyping → A → Type 0) : Type 0 where
  pub run : (k : HeapTyping) (s s' : State) (events : List Place) (out : Out A) → known k → IsWellTyped around env k s
      → m s events out s' → HasListed around.listed events ⊎ KeepsState around P k s out s'

-- ---- the context of a body

-- both speak of the same classes and of the same locals
pub record IsContextOf (around : Around) (ctx : Context) : Type 0 where
  pub bases : around.bases ≡ ctx.bases
  pub classes : around.classes ≡ ctx.classes
  pub smaller : AreSmaller around.bases
  pub local : (word : List ℕ) (x : ℕ) → ctx.resolve word ≡ meaning.Local x → index_of word around.names ≡ Some x
  pub named : (word : List ℕ) (x : ℕ) → index_of word around.names ≡ Some x → ctx.resolve word ≡ meaning.Local x

-- ---- conditions

-- the facts that the truth of a condition's value tells of the locals
pub record TellsLocals (around : Around) (ctx : Context) (env : Env) (e : Expr) (k : HeapTyping) (v : Value)
    (s : State) : Type 0 where
  pub by : (holds : Test) → is_true s.heap v ≡ holds → HasLocals around.bases k around.names around.declared
      (narrow around.bases around.declared ctx.resolve holds e env) s.frame

-- ---- statements

-- a step goes well: the heap stays well typed, the module's names and the classes stay, and the promise on an end in a
-- value holds after it
pub record Goes (around : Around) {A : Type 0} (after : HeapTyping → A → State → Type 0) (k : HeapTyping) (s : State)
    (out : Out A) (s' : State) : Type 0 where
  pub typing : HeapTyping
  pub grows : Extends k typing
  pub well : IsWell around.bases around.classes typing s'.heap
  pub same_globals : s'.globals ≡ s.globals
  pub same_classes : s'.classes ≡ s.classes
  pub ends : EndsWell (λ a. after typing a s') out

-- from a state as it is known each run of a step evaluates a listed place, or goes as promised
pub record Leads (around : Around) (before : HeapTyping → State → Type 0) {A : Type 0} (m : Step A)
    (after : HeapTyping → A → State → Type 0) : Type 0 where
  pub run : (k : HeapTyping) (s s' : State) (events : List Place) (out : Out A)
      → IsWell around.bases around.classes k s.heap → before k s → m s events out s' → HasListed around.listed events
      ⊎ Goes around after k s out s'

-- a state is well typed, and something more is known of its frame
pub record IsWellTypedAnd (around : Around) (env : Env) (more : HeapTyping → Frame → Type 0) (k : HeapTyping)
    (s : State) : Type 0 where
  pub stands : IsWellTyped around env k s
  pub known : more k s.frame

-- the promises on the ways out of a statement: the environments after it and at its `break` statements, the places of
-- `break` and `continue`, the return type
pub record Ways : Type 1 where
  pub out : Env → Type 0
  pub breaks : Env → Type 0
  pub loose : Place → Type 0
  pub returned : Tree

-- one of the environments holds
pub record Reaches (around : Around) (way : Env → Type 0) (k : HeapTyping) (s : State) : Type 0 where
  pub env : Env
  pub is : way env
  pub stands : IsWellTyped around env k s

-- there is such a place
pub record IsSomewhere (loose : Place → Type 0) : Type 0 where
  pub place : Place
  pub is : loose place

-- a statement ended as is said of its ways out
abbrev pub FlowEnds : Around → Ways → HeapTyping → StatementEnd → State → Type 0
FlowEnds around ways k next s = Reaches around ways.out k s
FlowEnds around ways k breaking s = Reaches around ways.breaks k s × IsSomewhere ways.loose
FlowEnds around ways k continuing s = IsWellTyped around [] k s × IsSomewhere ways.loose
FlowEnds around ways k (leaves v) s = HasType around.bases k ways.returned v

-- a name is a local of the body
pub record IsLocal (around : Around) (ctx : Context) (word : List ℕ) : Type 0 where
  pub number : ℕ
  pub resolves : ctx.resolve word ≡ meaning.Local number
  pub is : index_of word around.names ≡ Some number

-- a fact of a frame stays known when the heap typing grows, and when one of these names is bound to a value of its
-- declared type
pub record Lasts (around : Around) (ctx : Context) (names : List Name) (more : HeapTyping → Frame → Type 0) : Type
    0 where
  pub local : (n : Name) → Contains names n → IsLocal around ctx n.text
  pub grow : (k k' : HeapTyping) (frame : Frame) → Extends k k' → more k frame → more k' frame
  pub bind : (n : Name) (x : ℕ) (v : Value) (k : HeapTyping) (frame : Frame) → Contains names n
      → ctx.resolve n.text ≡ meaning.Local x → HasNames around.names frame
      → HasType around.bases k (declared_type around.declared x) v → more k frame → more k (with_local n.text v frame)
