-- The types under the labels of an expression, each at the place of its expression, one after another: those of its
-- parts, and then its own. A callee that is a name or an attribute names the function or method called; its type is
-- among them only where every type is. Own rule of the profile.
use Rattle.std.specs.Prelude.{List, [], ◌∷◌, ◌++◌, Bool as Test, true, false, if◌then◌else◌}
use Rattle.pc_source.specs.declared.place.Place.{Place}
use Rattle.pc_tree.specs.Depth.{place_of}
use Rattle.pc_tree.specs.Tree.{Expr, Exprs, Entries, Keywords, name, number, text, truth, nothing, tuple, list, dict}
use Rattle.pc_tree.specs.Tree.{negative, negation, binary, compare, is_none, is_not_none, conjunction, disjunction}
use Rattle.pc_tree.specs.Tree.{attribute, index, call, no_exprs, more_exprs, no_entries, more_entries, no_keywords}
use Rattle.pc_tree.specs.Tree.{more_keywords}
use Rattle.pc_scope.specs.Expressions.{is_instance_test}
use Rattle.pc_types.specs.Tree.{Tree}
use Rattle.pc_rules.specs.Labels.{Labels, ItemsLabels, EntriesLabels, KeywordsLabels, type_of}

-- the type of an expression, and its place
pub record TypeAt : Type 0 where
  pub place : Place
  pub type : Tree

-- the type of an expression, at its place
abbrev pub type_here : (e : Expr) → Labels e → List TypeAt
type_here e m = record { place = place_of e; type = type_of e m } ∷ []

module _ (every : Test) where
  -- the type of a callee at its place; of a name or an attribute only where every type is listed
  abbrev pub callee_here : (e : Expr) → Labels e → List TypeAt
  callee_here (name n) m = if every then type_here (name n) m else []
  callee_here (attribute p e field) m = if every then type_here (attribute p e field) m else []
  callee_here e m = type_here e m

  -- the types in the parts of an expression, under the labels of items, of arguments, and of the entries of a dict
  abbrev mutual
    -- the types in the parts of an expression: for each part those in it, and then its own
    pub types_inside : (e : Expr) → Labels e → List TypeAt
    types_inside (name n) m = []
    types_inside (number p digits) m = []
    types_inside (text p characters) m = []
    types_inside (truth p value) m = []
    types_inside (nothing p) m = []
    types_inside (tuple p items) m = types_in_exprs items m.items
    types_inside (list p items) m = types_in_exprs items m.items
    types_inside (dict p entries) m = types_in_entries entries m.entries
    types_inside (negative p e) m = types_inside e m.operand ++ type_here e m.operand
    types_inside (negation p e) m = types_inside e m.operand ++ type_here e m.operand
    types_inside (binary p operator l r) m = (types_inside l m.left ++ type_here l m.left)
        ++ (types_inside r m.right ++ type_here r m.right)
    types_inside (compare p operator l r) m = (types_inside l m.left ++ type_here l m.left)
        ++ (types_inside r m.right ++ type_here r m.right)
    types_inside (is_none p e) m = types_inside e m.operand ++ type_here e m.operand
    types_inside (is_not_none p e) m = types_inside e m.operand ++ type_here e m.operand
    types_inside (conjunction p l r) m = (types_inside l m.left ++ type_here l m.left)
        ++ (types_inside r m.right ++ type_here r m.right)
    types_inside (disjunction p l r) m = (types_inside l m.left ++ type_here l m.left)
        ++ (types_inside r m.right ++ type_here r m.right)
    types_inside (attribute p e field) m = types_inside e m.object ++ type_here e m.object
    types_inside (index p e i) m = (types_inside e m.object ++ type_here e m.object)
        ++ (types_inside i m.key ++ type_here i m.key)
    types_inside (call p callee arguments keywords) m =
        (types_inside callee m.callee ++ callee_here callee m.callee)
        ++ (types_in_arguments (is_instance_test callee arguments keywords) arguments m.arguments
        ++ types_in_keywords keywords m.keywords)

    -- the types in items: for each item those in it, and then its own
    pub types_in_exprs : (es : Exprs) → ItemsLabels es → List TypeAt
    types_in_exprs no_exprs m = []
    types_in_exprs (more_exprs e rest) m = (types_inside e m.first ++ type_here e m.first)
        ++ types_in_exprs rest m.rest

    -- the types in arguments by position, likewise; of an instance test only those in the first
    pub types_in_arguments : (is_test : Test) → (es : Exprs) → ItemsLabels es → List TypeAt
    types_in_arguments is_test no_exprs m = []
    types_in_arguments true (more_exprs e rest) m = types_inside e m.first ++ type_here e m.first
    types_in_arguments false (more_exprs e rest) m = (types_inside e m.first ++ type_here e m.first)
        ++ types_in_arguments false rest m.rest

    -- the types in the entries of a dict: for each its key and then its value
    pub types_in_entries : (es : Entries) → EntriesLabels es → List TypeAt
    types_in_entries no_entries m = []
    types_in_entries (more_entries key value rest) m =
        (types_inside key m.key ++ type_here key m.key)
        ++ ((types_inside value m.value ++ type_here value m.value) ++ types_in_entries rest m.rest)

    -- the types in arguments by name: for each value those in it, and then its own
    pub types_in_keywords : (es : Keywords) → KeywordsLabels es → List TypeAt
    types_in_keywords no_keywords m = []
    types_in_keywords (more_keywords parameter value rest) m = (types_inside value m.first ++ type_here value m.first)
        ++ types_in_keywords rest m.rest

  -- the types in an expression: those in its parts, and then its own
  abbrev pub types_in : (e : Expr) → Labels e → List TypeAt
  types_in e m = types_inside e m ++ type_here e m

  -- the types in the arguments of a call, by position and then by name; none if the expression is no call
  abbrev pub types_of_arguments : (e : Expr) → Labels e → List TypeAt
  types_of_arguments (call p callee arguments keywords) m =
      types_in_arguments (is_instance_test callee arguments keywords) arguments m.arguments
      ++ types_in_keywords keywords m.keywords
  types_of_arguments e m = []
