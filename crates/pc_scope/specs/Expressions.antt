-- The expressions of statements, and the parts of an expression.
-- Language Reference 3.12, 6 "Expressions", 7 "Simple statements", 8 "Compound statements".
use Rattle.std.specs.Prelude.{ℕ, List, [], ◌∷◌, ◌++◌, Bool, true, false, ◌&&◌, ◌||◌, not, if◌then◌else◌, Option, Some}
use Rattle.std.specs.Prelude.{None, codes, bytes_eq}
use Rattle.pc_source.specs.declared.place.Place.{Place}
use Rattle.pc_tree.specs.Tree.{Name, Expr, Exprs, Entries, Keywords, name, number, text, truth, nothing, tuple, list}
use Rattle.pc_tree.specs.Tree.{dict, negative, negation, binary, compare, is_none, is_not_none, conjunction}
use Rattle.pc_tree.specs.Tree.{disjunction, attribute, index, call, no_exprs, more_exprs, no_entries, more_entries}
use Rattle.pc_tree.specs.Tree.{no_keywords, more_keywords, Target, to_name, to_attribute, to_index, Stmt, Stmts}
use Rattle.pc_tree.specs.Tree.{Branches, pass, breaks, continues, returns, asserts, annotated, assigns, evaluates}
use Rattle.pc_tree.specs.Tree.{while_loop, for_loop, conditional, no_stmts, more_stmts, no_branches, more_branches}
use Rattle.pc_tree.specs.Depth.{place_of}
use Rattle.pc_scope.specs.Reach.{completes}

-- whether an expression is a name
abbrev pub is_name : Expr → Bool
is_name (name n) = true
is_name _ = false

-- whether an expression is a name with this text
abbrev pub is_named : List ℕ → Expr → Bool
is_named word (name n) = bytes_eq word n.text
is_named word _ = false

-- exactly two positional arguments and no keyword argument
abbrev pub are_two : Exprs → Keywords → Bool
are_two (more_exprs e (more_exprs f no_exprs)) no_keywords = true
are_two _ _ = false

-- an `isinstance` test: `isinstance` with exactly two positional arguments
abbrev pub is_instance_test : Expr → Exprs → Keywords → Bool
is_instance_test callee arguments keywords = is_named (codes "isinstance") callee && are_two arguments keywords

-- the parts of the first argument alone if a test holds, else the parts of all arguments
abbrev pub first_or_all : List Expr → List Expr → Bool → List Expr
first_or_all first all true = first
first_or_all first all false = all

-- an expression and its parts; if it is judged, without the second argument of an `isinstance` test
abbrev mutual
  pub parts_in : (judged : Bool) → Expr → List Expr
  parts_in j (name n) = name n ∷ []
  parts_in j (number p digits) = number p digits ∷ []
  parts_in j (text p characters) = text p characters ∷ []
  parts_in j (truth p value) = truth p value ∷ []
  parts_in j (nothing p) = nothing p ∷ []
  parts_in j (tuple p items) = tuple p items ∷ parts_in_all j items
  parts_in j (list p items) = list p items ∷ parts_in_all j items
  parts_in j (dict p entries) = dict p entries ∷ parts_in_entries j entries
  parts_in j (negative p e) = negative p e ∷ parts_in j e
  parts_in j (negation p e) = negation p e ∷ parts_in j e
  parts_in j (binary p operator l r) = binary p operator l r ∷ (parts_in j l ++ parts_in j r)
  parts_in j (compare p operator l r) = compare p operator l r ∷ (parts_in j l ++ parts_in j r)
  parts_in j (is_none p e) = is_none p e ∷ parts_in j e
  parts_in j (is_not_none p e) = is_not_none p e ∷ parts_in j e
  parts_in j (conjunction p l r) = conjunction p l r ∷ (parts_in j l ++ parts_in j r)
  parts_in j (disjunction p l r) = disjunction p l r ∷ (parts_in j l ++ parts_in j r)
  parts_in j (attribute p e field) = attribute p e field ∷ parts_in j e
  parts_in j (index p e i) = index p e i ∷ (parts_in j e ++ parts_in j i)
  parts_in j (call p callee arguments keywords) =
      call p callee arguments keywords
      ∷ (parts_in j callee ++ (first_or_all (parts_in_first j arguments) (parts_in_all j arguments)
      (j && is_instance_test callee arguments keywords) ++ parts_in_keywords j keywords))

  pub parts_in_all : (judged : Bool) → Exprs → List Expr
  parts_in_all j no_exprs = []
  parts_in_all j (more_exprs e rest) = parts_in j e ++ parts_in_all j rest

  pub parts_in_first : (judged : Bool) → Exprs → List Expr
  parts_in_first j no_exprs = []
  parts_in_first j (more_exprs e rest) = parts_in j e

  pub parts_in_entries : (judged : Bool) → Entries → List Expr
  parts_in_entries j no_entries = []
  parts_in_entries j (more_entries key value rest) = parts_in j key ++ (parts_in j value ++ parts_in_entries j rest)

  pub parts_in_keywords : (judged : Bool) → Keywords → List Expr
  parts_in_keywords j no_keywords = []
  parts_in_keywords j (more_keywords parameter value rest) = parts_in j value ++ parts_in_keywords j rest

-- the names of keyword arguments, in text order
abbrev pub keyword_names : Keywords → List Name
keyword_names no_keywords = []
keyword_names (more_keywords parameter value rest) = parameter ∷ keyword_names rest

-- the place of a callee that is not a name
abbrev pub other_callee : Expr → Option Place
other_callee (call p callee arguments by_name) = if is_name callee then None else Some (place_of callee)
other_callee _ = None

-- the expressions inside an assignment target
abbrev pub target_exprs : Target → List Expr
target_exprs (to_name n) = []
target_exprs (to_attribute p e field) = e ∷ []
target_exprs (to_index p e i) = e ∷ i ∷ []

-- an expression that may be missing, as a list of at most one
abbrev pub option_exprs : Option Expr → List Expr
option_exprs None = []
option_exprs (Some e) = e ∷ []

-- the expressions of statements: of all, or only of those that are reached
abbrev mutual
  pub exprs_in : (reached : Bool) → Stmt → List Expr
  exprs_in r (pass p) = []
  exprs_in r (breaks p) = []
  exprs_in r (continues p) = []
  exprs_in r (returns p value) = option_exprs value
  exprs_in r (asserts p condition message) = condition ∷ option_exprs message
  exprs_in r (annotated p n annotation value) = option_exprs value
  exprs_in r (assigns p target value) = value ∷ target_exprs target
  exprs_in r (evaluates p value) = value ∷ []
  exprs_in r (while_loop p condition body) = condition ∷ exprs_in_all r body
  exprs_in r (for_loop p n iterable body) = iterable ∷ exprs_in_all r body
  exprs_in r (conditional p branches otherwise) = exprs_in_branches r branches ++ exprs_in_all r otherwise

  pub exprs_in_all : (reached : Bool) → Stmts → List Expr
  exprs_in_all r no_stmts = []
  exprs_in_all r (more_stmts s rest) = exprs_in r s ++ (if not r || completes s then exprs_in_all r rest else [])

  pub exprs_in_branches : (reached : Bool) → Branches → List Expr
  exprs_in_branches r no_branches = []
  exprs_in_branches r (more_branches condition body rest) =
      condition ∷ (exprs_in_all r body ++ exprs_in_branches r rest)
