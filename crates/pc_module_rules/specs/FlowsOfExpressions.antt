-- The flows with a code under the labels of an expression, one after another: those in its parts, each part followed by
-- its own flows. Own rule of the profile.
use Rattle.std.specs.Prelude.{List, [], ◌∷◌, ◌++◌, flat_map, Bool as Test, true, false, Option, Some, None}
use Rattle.std.specs.Prelude.{if◌then◌else◌}
use Rattle.pc_source.specs.declared.place.Place.{Place}
use Rattle.pc_tree.specs.declared.code.Code.{Code}
use Rattle.pc_tree.specs.Depth.{place_of}
use Rattle.pc_tree.specs.Tree.{Expr, Exprs, Entries, Keywords, name, number, text, truth, nothing, tuple, list, dict}
use Rattle.pc_tree.specs.Tree.{negative, negation, binary, compare, is_none, is_not_none, conjunction, disjunction}
use Rattle.pc_tree.specs.Tree.{attribute, index, call, no_exprs, more_exprs, no_entries, more_entries, no_keywords}
use Rattle.pc_tree.specs.Tree.{more_keywords}
use Rattle.pc_scope.specs.Expressions.{is_instance_test}
use Rattle.pc_types.specs.Tree.{Tree}
use Rattle.pc_notes.specs.Notes.{is_same_code}
use Rattle.pc_rules.specs.Labels.{FlowLabels, Labels, ItemsLabels, EntriesLabels, KeywordsLabels}

-- a type that flows at a place, and the type that it flows into
pub record CodedFlow : Type 0 where
  pub place : Place
  pub from : Tree
  pub into : Tree

module _ (code : Code) where
  -- the flow of a type into another at this place, if it has this code
  abbrev pub coded_one : Place → (from into : Tree) → Option Code → List CodedFlow
  coded_one p s t None = []
  coded_one p s t (Some c) = if is_same_code code c then record { place = p; from = s; into = t } ∷ [] else []

  -- the flows with this code among the flows of a value at this place, in their order
  abbrev pub coded_at : Place → FlowLabels → List CodedFlow
  coded_at p flows = flat_map (λ f. coded_one p f.from f.into f.code) flows

  -- the flows with this code under the labels of an expression, of items, of arguments, and of the entries of a dict
  abbrev mutual
    -- the flows with this code in an expression: in its parts, and then those of an operand of `in` or of an index
    pub coded_in : (e : Expr) → Labels e → List CodedFlow
    coded_in (name n) m = []
    coded_in (number p digits) m = []
    coded_in (text p characters) m = []
    coded_in (truth p value) m = []
    coded_in (nothing p) m = []
    coded_in (tuple p items) m = coded_in_exprs items m.items
    coded_in (list p items) m = coded_in_exprs items m.items
    coded_in (dict p entries) m = coded_in_entries entries m.entries
    coded_in (negative p e) m = coded_in e m.operand
    coded_in (negation p e) m = coded_in e m.operand
    coded_in (binary p operator l r) m = coded_in l m.left ++ coded_in r m.right
    coded_in (compare p operator l r) m = coded_in l m.left ++ (coded_in r m.right ++ coded_at (place_of l) m.flows)
    coded_in (is_none p e) m = coded_in e m.operand
    coded_in (is_not_none p e) m = coded_in e m.operand
    coded_in (conjunction p l r) m = coded_in l m.left ++ coded_in r m.right
    coded_in (disjunction p l r) m = coded_in l m.left ++ coded_in r m.right
    coded_in (attribute p e field) m = coded_in e m.object
    coded_in (index p e i) m = coded_in e m.object ++ (coded_in i m.key ++ coded_at (place_of i) m.flows)
    coded_in (call p callee arguments keywords) m = coded_in callee m.callee
        ++ (coded_in_arguments (is_instance_test callee arguments keywords) arguments m.arguments
        ++ coded_in_keywords keywords m.keywords)

    -- the flows with this code in items: in each item, and then its own
    pub coded_in_exprs : (es : Exprs) → ItemsLabels es → List CodedFlow
    coded_in_exprs no_exprs m = []
    coded_in_exprs (more_exprs e rest) m = coded_in e m.first
        ++ (coded_at (place_of e) m.flows ++ coded_in_exprs rest m.rest)

    -- the flows with this code in arguments by position: in each argument, and then its own; of an instance test only
    -- those in the first
    pub coded_in_arguments : (is_test : Test) → (es : Exprs) → ItemsLabels es → List CodedFlow
    coded_in_arguments is_test no_exprs m = []
    coded_in_arguments true (more_exprs e rest) m = coded_in e m.first
    coded_in_arguments false (more_exprs e rest) m = coded_in e m.first
        ++ (coded_at (place_of e) m.flows ++ coded_in_arguments false rest m.rest)

    -- the flows with this code in the entries of a dict: for each its key and then its value
    pub coded_in_entries : (es : Entries) → EntriesLabels es → List CodedFlow
    coded_in_entries no_entries m = []
    coded_in_entries (more_entries key value rest) m =
        coded_in key m.key
        ++ (coded_at (place_of key) m.key_flows
        ++ (coded_in value m.value
        ++ (coded_at (place_of value) m.value_flows ++ coded_in_entries rest m.rest)))

    -- the flows with this code in arguments by name: in each value, and then its own
    pub coded_in_keywords : (es : Keywords) → KeywordsLabels es → List CodedFlow
    coded_in_keywords no_keywords m = []
    coded_in_keywords (more_keywords parameter value rest) m = coded_in value m.first
        ++ (coded_at (place_of value) m.flows ++ coded_in_keywords rest m.rest)
