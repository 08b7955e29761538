-- The unreachable statements.
-- Own rule of the profile.
use Rattle.std.specs.Prelude.{List, [], ◌∷◌, ◌++◌, if◌then◌else◌}
use Rattle.pc_source.specs.declared.place.Place.{Place}
use Rattle.pc_tree.specs.Tree.{Stmt, Stmts, Branches, pass, breaks, continues, returns, asserts, annotated, assigns}
use Rattle.pc_tree.specs.Tree.{evaluates, while_loop, for_loop, conditional, no_stmts, more_stmts, no_branches}
use Rattle.pc_tree.specs.Tree.{more_branches}
use Rattle.pc_scope.specs.Reach.{completes}

-- the place of a statement's first token
abbrev pub first_token_place : Stmt → Place
first_token_place (pass p) = p
first_token_place (breaks p) = p
first_token_place (continues p) = p
first_token_place (returns p value) = p
first_token_place (asserts p condition message) = p
first_token_place (annotated p n annotation value) = p
first_token_place (assigns p target value) = p
first_token_place (evaluates p value) = p
first_token_place (while_loop p condition body) = p
first_token_place (for_loop p n iterable body) = p
first_token_place (conditional p arms otherwise) = p

-- the place of the first statement of a suite, if it has one
abbrev pub first_places : Stmts → List Place
first_places no_stmts = []
first_places (more_stmts s rest) = first_token_place s ∷ []

-- the places of the first statement after one that cannot complete, in each suite that is reached
abbrev mutual
  pub unreached_in : Stmt → List Place
  unreached_in (while_loop p condition body) = unreached_places body
  unreached_in (for_loop p n iterable body) = unreached_places body
  unreached_in (conditional p branches otherwise) = unreached_in_branches branches ++ unreached_places otherwise
  unreached_in _ = []

  pub unreached_places : Stmts → List Place
  unreached_places no_stmts = []
  unreached_places (more_stmts s rest) = unreached_in s
      ++ (if completes s then unreached_places rest else first_places rest)

  pub unreached_in_branches : Branches → List Place
  unreached_in_branches no_branches = []
  unreached_in_branches (more_branches condition body rest) = unreached_places body ++ unreached_in_branches rest
