-- The details of statements and of the ends of functions. Own rule of the profile.
use Rattle.std.specs.Prelude.{ℕ, List, if◌then◌else◌, Option, Some, None}
use Rattle.std.specs.Option.{option_map, option_and_then}
use Rattle.pc_source.specs.declared.place.Place.{Place}
use Rattle.pc_tree.specs.NamesAlone.{name_of_tree}
use Rattle.pc_tree.specs.Tree.{Expr, call, Stmt, Stmts, Branches, breaks, continues, returns, while_loop}
use Rattle.pc_tree.specs.Tree.{for_loop, conditional, no_stmts, more_stmts, no_branches, more_branches, Module}
use Rattle.pc_scope.specs.Bindings.{Body, bodies}
use Rattle.pc_scope_findings.specs.Unreached.{first_token_place}
use Rattle.pc_types.specs.Tree.{Tree}
use Rattle.pc_class.specs.Facts.{return_type}
use Rattle.pc_flow.specs.Narrowing.{first_argument}
use Rattle.pc_notes.specs.Notes.{is_same_place}
use Rattle.pc_detail_texts.specs.Details as detail
use Rattle.pc_detail_texts.specs.Details.{Detail, Leaving}
use Rattle.pc_detail_rules.specs.Facts.{Known}
use Rattle.pc_detail_rules.specs.Nodes.{stmts_in_suite, function_name}
use Rattle.pc_detail_rules.specs.Overrides.{detail_or}
use Rattle.pc_detail_rules.specs.Names.{first_of_all}

-- ---- E05

-- the detail of a statement outside a loop, by its keyword
abbrev pub loose_detail : Stmt → Option (Detail Tree)
loose_detail (breaks p) = Some (detail.outside_loop detail.leaves_by_break)
loose_detail (continues p) = Some (detail.outside_loop detail.leaves_by_continue)
loose_detail s = None

-- the detail of a statement outside a loop that is at a place
abbrev pub loose_at : Place → Stmt → Option (Detail Tree)
loose_at p s = if is_same_place p (first_token_place s) then loose_detail s else None

-- E05: the keyword of the first `break` or `continue` at the place
abbrev pub outside_loop_detail : Module → Place → Option (Detail Tree)
outside_loop_detail m p =
    first_of_all (λ (b : Body). first_of_all (loose_at p) (stmts_in_suite b.function.body)) (bodies m)

-- ---- E30

-- how a statement leaves its suite
abbrev pub leaving_of : Stmt → Leaving
leaving_of (returns p e) = detail.leaves_by_return
leaving_of (breaks p) = detail.leaves_by_break
leaving_of (continues p) = detail.leaves_by_continue
leaving_of s = detail.leaves_by_if

-- the detail of a statement after this one
abbrev pub unreached_after : Stmt → Detail Tree
unreached_after s = detail.unreachable (leaving_of s) (first_token_place s)

-- the detail of a statement at a place, by the one before it, if there is one
abbrev pub behind_stmt : Place → Option Stmt → Stmt → Option (Detail Tree)
behind_stmt p before s = if is_same_place p (first_token_place s) then option_map unreached_after before else None

-- the details of the statement at a place, in a suite, a statement or branches: by the statement before it
abbrev mutual
  -- the statement at a place in a suite, after the statement before, if there is one
  pub unreached_in_suite : Place → Option Stmt → Stmts → Option (Detail Tree)
  unreached_in_suite p before no_stmts = None
  unreached_in_suite p before (more_stmts s rest) =
      detail_or (behind_stmt p before s) (detail_or (unreached_below p s) (unreached_in_suite p (Some s) rest))

  -- the statement at a place in the suites of a statement
  pub unreached_below : Place → Stmt → Option (Detail Tree)
  unreached_below p (while_loop q c b) = unreached_in_suite p None b
  unreached_below p (for_loop q n e b) = unreached_in_suite p None b
  unreached_below p (conditional q bs o) = detail_or (unreached_in_branches p bs) (unreached_in_suite p None o)
  unreached_below p s = None

  -- the statement at a place in the suites of branches
  pub unreached_in_branches : Place → Branches → Option (Detail Tree)
  unreached_in_branches p no_branches = None
  unreached_in_branches p (more_branches c b rest) = detail_or (unreached_in_suite p None b)
      (unreached_in_branches p rest)

-- E30: the statement before it, which never completes, and how that one leaves
abbrev pub unreachable_detail : Module → Place → Option (Detail Tree)
unreachable_detail m p = first_of_all (λ (b : Body). unreached_in_suite p None b.function.body) (bodies m)

-- ---- E21, E25, A7

-- E21: the function, and the type that it promises
abbrev pub no_return_detail : Module → Body → Detail Tree
no_return_detail m b = detail.no_return (function_name m b) (return_type m b.function)

-- the text of a name, if an expression is one
abbrev pub text_of_name : Expr → Option (List ℕ)
text_of_name e = option_map (λ n. n.text) (name_of_tree e)

-- E25: the name that the test is for, if it is one
abbrev pub no_test_detail : Expr → Detail Tree
no_test_detail e = detail.no_test (text_of_name e)

-- the detail of a local that is tested for a list
abbrev pub tested_local : Known → Expr → Option (Detail Tree)
tested_local known e = option_map (λ n. detail.list_test n.text (known.types n.place)) (name_of_tree e)

-- A7: the local that is tested for a list, and its type
abbrev pub list_test_detail : Known → Expr → Option (Detail Tree)
list_test_detail known (call p callee args kws) = option_and_then (tested_local known) (first_argument args)
list_test_detail known e = None
