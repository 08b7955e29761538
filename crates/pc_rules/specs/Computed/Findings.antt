-- The notes under the labels of an expression, as a list in the order of a walk, each flow that is found with its two
-- types: computed twin of the findings under labels, except E02 and E03, which scope analysis reports. Own rule of the
-- profile.
use Rattle.std.specs.Prelude.{◌≡◌, ◌↔◌, List, [], ◌∷◌, ◌++◌, flat_map, Bool as Test, true, false, if◌then◌else◌, Option}
use Rattle.std.specs.Prelude.{Some, None, Contains, option_to_list, bytes_eq}
use Rattle.std.specs.List.{list_any}
use Rattle.pc_source.specs.declared.place.Place.{Place}
use Rattle.pc_tree.specs.declared.code.Code.{Code}
use Rattle.pc_tree.specs.declared.code.Finding.{Finding}
use Rattle.pc_tree.specs.Code.{finding, text_of}
use Rattle.pc_tree.specs.Tree.{Expr, Exprs, Entries, Keywords, name, number, text, truth, nothing, tuple, list, dict}
use Rattle.pc_tree.specs.Tree.{negative, negation, binary, compare, is_none, is_not_none, conjunction, disjunction}
use Rattle.pc_tree.specs.Tree.{attribute, index, call, no_exprs, more_exprs, no_entries, more_entries, no_keywords}
use Rattle.pc_tree.specs.Tree.{more_keywords}
use Rattle.pc_tree.specs.Depth.{place_of}
use Rattle.pc_types.specs.Tree.{Tree}
use Rattle.pc_scope.specs.Expressions.{is_instance_test}
use Rattle.pc_notes.specs.Notes.{Note, plain_note, flow_note, typed, named, findings_of}
use Rattle.pc_rules.specs.Operations.{Label}
use Rattle.pc_rules.specs.Labels.{FlowLabels, Labels, ItemsLabels, EntriesLabels, KeywordsLabels, whole_label}
use Rattle.pc_rules.specs.Labels.{is_of_scopes}
use Rattle.pc_rules.specs.Labels.{second_place, Finds}

-- the finding of a code at a place, none for a code of scope analysis
abbrev pub own_at : Place → Code → List Note
own_at p c = if is_of_scopes c then [] else plain_note (finding p c) ∷ []

-- whether a code is among these codes
abbrev pub has_code : List Code → Code → Test
has_code cs c = list_any (λ d. bytes_eq (text_of c) (text_of d)) cs

-- codes with one more appended, unless it is among them
abbrev pub add_code : List Code → Code → List Code
add_code cs c = if has_code cs c then cs else cs ++ c ∷ []

-- codes with others appended, each new one once
abbrev pub once_onto : List Code → List Code → List Code
once_onto before [] = before
once_onto before (c ∷ cs) = once_onto (add_code before c) cs

-- each code once, at its first occurrence
abbrev pub once : List Code → List Code
once cs = once_onto [] cs

-- a label with each code once
abbrev pub brief : Label → Label
brief m = record { type = m.type; codes = once m.codes }

-- the findings of a label's codes at its place, each once
abbrev pub codes_at : Place → List Code → List Note
codes_at p codes = flat_map (own_at p) (once codes)

-- the finding of a code, if there is one
abbrev pub notes_of_code : Place → Option Code → List Note
notes_of_code p None = []
notes_of_code p (Some c) = own_at p c

-- the note of a flow with this code, at the place of the expression that flows, with its two types; none for a code of
-- scope analysis
abbrev pub own_flow : Place → (from into : Tree) → Code → List Note
own_flow p s t c = if is_of_scopes c then [] else flow_note (finding p c) s t ∷ []

-- the note of a flow, if it has a code
abbrev pub flow_at : Place → (from into : Tree) → Option Code → List Note
flow_at p s t None = []
flow_at p s t (Some c) = own_flow p s t c

-- the note of one flow, unless its code is among these, followed by the notes of the rest
abbrev pub flow_then : Place → (before : List Code) → (from into : Tree) → Option Code → (rest : List Code → List Note)
    → List Note
flow_then p before s t None rest = rest before
flow_then p before s t (Some c) rest = if has_code before c then rest before
    else own_flow p s t c ++ rest (before ++ c ∷ [])

-- the notes of flows whose codes are not among these, each code once, for the first flow that has it
abbrev pub flows_behind : Place → (before : List Code) → FlowLabels → List Note
flows_behind p before [] = []
flows_behind p before (f ∷ fs) = flow_then p before f.from f.into f.code (λ codes. flows_behind p codes fs)

-- the notes of flows at the place of the expression that flows, each code once, for the first flow that has it
abbrev pub flows_at : Place → FlowLabels → List Note
flows_at p flows = flows_behind p [] flows

-- the note of the type of a label at its place, if types are kept
abbrev pub note_of_type : (keeps shown : Test) → Place → Tree → List Note
note_of_type false shown p t = []
note_of_type true shown p t = typed shown p t ∷ []

-- notes with that of a bound name at its place after them, if types are kept: its declared type, and its current type
-- after the binding, if it has a value then
abbrev pub name_after : (keeps : Test) → List Note → Place → (declared : Tree) → (current : Option Tree) → List Note
name_after false found p d t = found
name_after true found p d t = found ++ named p d t ∷ []

-- the notes of a label at its place: its type, if types are kept, and then the findings of its codes
abbrev pub label_at : (keeps shown : Test) → Place → Label → List Note
label_at keeps shown p m = note_of_type keeps shown p m.type ++ codes_at p m.codes

-- whether the type of a callee is shown: not for a name or an attribute
abbrev pub shows : Expr → Test
shows (name n) = false
shows (attribute p e field) = false
shows _ = true

module _ (keeps : Test) where
  -- the notes in the parts of an expression, followed by those of its own label
  abbrev pub whole : (e : Expr) → Labels e → List Note → List Note
  whole e m parts = parts ++ label_at keeps true (place_of e) (whole_label e m)

  -- the notes in the parts of a callee, followed by those of its own label
  abbrev pub callee_notes : (e : Expr) → Labels e → List Note → List Note
  callee_notes e m parts = parts ++ label_at keeps (shows e) (place_of e) (whole_label e m)

  -- the notes in the parts of an expression, of items, of arguments, and of the entries of a dict
  abbrev mutual
    -- the notes in the parts of an expression, and of their flows
    pub found_in_parts : (e : Expr) → Labels e → List Note
    found_in_parts (name n) m = []
    found_in_parts (number p digits) m = []
    found_in_parts (text p characters) m = []
    found_in_parts (truth p value) m = []
    found_in_parts (nothing p) m = []
    found_in_parts (tuple p items) m = found_in_items items m.items
    found_in_parts (list p items) m = found_in_items items m.items
    found_in_parts (dict p entries) m = found_in_entries entries m.entries
    found_in_parts (negative p e) m = whole e m.operand (found_in_parts e m.operand)
    found_in_parts (negation p e) m = whole e m.operand (found_in_parts e m.operand)
    found_in_parts (binary p operator l r) m = whole l m.left (found_in_parts l m.left)
        ++ whole r m.right (found_in_parts r m.right)
    found_in_parts (compare p operator l r) m = whole l m.left (found_in_parts l m.left)
        ++ (whole r m.right (found_in_parts r m.right) ++ flows_at (place_of l) m.flows)
    found_in_parts (is_none p e) m = whole e m.operand (found_in_parts e m.operand)
    found_in_parts (is_not_none p e) m = whole e m.operand (found_in_parts e m.operand)
    found_in_parts (conjunction p l r) m = whole l m.left (found_in_parts l m.left)
        ++ whole r m.right (found_in_parts r m.right)
    found_in_parts (disjunction p l r) m = whole l m.left (found_in_parts l m.left)
        ++ whole r m.right (found_in_parts r m.right)
    found_in_parts (attribute p e field) m = whole e m.object (found_in_parts e m.object)
    found_in_parts (index p e i) m = whole e m.object (found_in_parts e m.object)
        ++ (whole i m.key (found_in_parts i m.key) ++ flows_at (place_of i) m.flows)
    found_in_parts (call p callee arguments keywords) m =
        callee_notes callee m.callee (found_in_parts callee m.callee)
        ++ (found_in_arguments (is_instance_test callee arguments keywords) arguments m.arguments
        ++ (found_in_keywords keywords m.keywords ++ notes_of_code (second_place arguments p) m.second))

    -- the notes of items, each with its flows
    pub found_in_items : (es : Exprs) → ItemsLabels es → List Note
    found_in_items no_exprs m = []
    found_in_items (more_exprs e rest) m = whole e m.first (found_in_parts e m.first)
        ++ (flows_at (place_of e) m.flows ++ found_in_items rest m.rest)

    -- the notes of arguments by position; of an instance test only those in the first argument
    pub found_in_arguments : (is_test : Test) → (es : Exprs) → ItemsLabels es → List Note
    found_in_arguments is_test no_exprs m = []
    found_in_arguments true (more_exprs e rest) m = whole e m.first (found_in_parts e m.first)
    found_in_arguments false (more_exprs e rest) m = whole e m.first (found_in_parts e m.first)
        ++ (flows_at (place_of e) m.flows ++ found_in_arguments false rest m.rest)

    -- the notes of the entries of a dict, each key and value with its flows
    pub found_in_entries : (es : Entries) → EntriesLabels es → List Note
    found_in_entries no_entries m = []
    found_in_entries (more_entries key value rest) m =
        whole key m.key (found_in_parts key m.key)
        ++ (flows_at (place_of key) m.key_flows
        ++ (whole value m.value (found_in_parts value m.value)
        ++ (flows_at (place_of value) m.value_flows ++ found_in_entries rest m.rest)))

    -- the notes of arguments by name, each with its flows
    pub found_in_keywords : (es : Keywords) → KeywordsLabels es → List Note
    found_in_keywords no_keywords m = []
    found_in_keywords (more_keywords parameter value rest) m = whole value m.first (found_in_parts value m.first)
        ++ (flows_at (place_of value) m.flows ++ found_in_keywords rest m.rest)

  -- the notes under the labels of an expression: those of its parts, and then its own
  abbrev pub notes_under : (e : Expr) → Labels e → List Note
  notes_under e m = whole e m (found_in_parts e m)

  -- the notes under the labels of a callee
  abbrev pub callee_notes_under : (e : Expr) → Labels e → List Note
  callee_notes_under e m = callee_notes e m (found_in_parts e m)

-- a finding under labels that scope analysis does not report
pub record IsOwn (e : Expr) (m : Labels e) (f : Finding) : Type 0 where
  pub stands : Finds e m f
  pub own : is_of_scopes f.code ≡ false

-- the law that the list holds exactly the findings under the labels, except those of scope analysis
abbrev pub LabelFindingsAreListed : Type 0
LabelFindingsAreListed = (e : Expr) (m : Labels e) (f : Finding)
    → Contains (findings_of (notes_under false e m)) f ↔ IsOwn e m f
