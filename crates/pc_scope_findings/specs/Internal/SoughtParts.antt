-- The aim of a search through the parts of an expression, and its findings.
use Rattle.std.specs.Prelude.{List, [], ◌∷◌, ◌++◌, Bool, true, false, ◌&&◌}
use Rattle.pc_tree.specs.declared.code.Code.TheVariants.{E02, E03}
use Rattle.pc_tree.specs.declared.code.Finding.{Finding}
use Rattle.pc_tree.specs.Tree.{Expr, Exprs, name, number, text, truth, nothing, tuple, list, dict, negative, negation}
use Rattle.pc_tree.specs.Tree.{binary, compare, is_none, is_not_none, conjunction, disjunction, attribute, index, call}
use Rattle.pc_tree.specs.NamesAlone.{name_of_tree}
use Rattle.pc_tree.specs.Code.{at_code}
use Rattle.pc_scope.specs.declared.resolution.Owner.TheVariants as owners
use Rattle.pc_scope.specs.Expressions.{parts_in, parts_in_all, parts_in_first, parts_in_entries, parts_in_keywords}
use Rattle.pc_scope.specs.Expressions.{first_or_all, is_instance_test, other_callee}
use Rattle.pc_scope.specs.Tables.{Tables, meaning_by_tables}
use Rattle.pc_scope_findings.specs.declared.parts.Sought.{Sought}
use Rattle.pc_scope_findings.specs.declared.parts.Sought.TheVariants as sought
use Rattle.pc_scope_findings.specs.Internal.FindingLists.{unknown_at, early_at, callee_at}

-- a search skips the second argument of an `isinstance` test
abbrev pub is_judged : Sought → Bool
is_judged (sought.Unknown owner) = true
is_judged (sought.Early constants classes) = false

-- the findings of a search at an expression without its parts
abbrev pub sought_at : Tables → Sought → Expr → List Finding
sought_at t (sought.Unknown owner) e = at_code E02 (unknown_at (meaning_by_tables t owner) (name_of_tree e))
sought_at t (sought.Early k c) e =
    at_code E03 (early_at k c (meaning_by_tables t owners.Module) (name_of_tree e) ++ callee_at (other_callee e))

-- the findings of a search at these expressions, without their parts
abbrev pub sought_among : Tables → Sought → List Expr → List Finding
sought_among t s [] = []
sought_among t s (e ∷ es) = sought_at t s e ++ sought_among t s es

-- the parts of several expressions, or of the first alone
abbrev pub some_parts : (judged first_alone : Bool) → Exprs → List Expr
some_parts j first_alone es = first_or_all (parts_in_first j es) (parts_in_all j es) first_alone

-- the parts of an expression without the expression itself
abbrev pub inner_parts : (judged : Bool) → Expr → List Expr
inner_parts j (name n) = []
inner_parts j (number p digits) = []
inner_parts j (text p characters) = []
inner_parts j (truth p value) = []
inner_parts j (nothing p) = []
inner_parts j (tuple p items) = parts_in_all j items
inner_parts j (list p items) = parts_in_all j items
inner_parts j (dict p entries) = parts_in_entries j entries
inner_parts j (negative p e) = parts_in j e
inner_parts j (negation p e) = parts_in j e
inner_parts j (binary p operator l r) = parts_in j l ++ parts_in j r
inner_parts j (compare p operator l r) = parts_in j l ++ parts_in j r
inner_parts j (is_none p e) = parts_in j e
inner_parts j (is_not_none p e) = parts_in j e
inner_parts j (conjunction p l r) = parts_in j l ++ parts_in j r
inner_parts j (disjunction p l r) = parts_in j l ++ parts_in j r
inner_parts j (attribute p e field) = parts_in j e
inner_parts j (index p e i) = parts_in j e ++ parts_in j i
inner_parts j (call p callee arguments keywords) = parts_in j callee
    ++ (some_parts j (j && is_instance_test callee arguments keywords) arguments ++ parts_in_keywords j keywords)
