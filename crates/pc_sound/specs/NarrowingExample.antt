-- A module that tests a parameter of type Any and one of a union for a list: the first test is a dynamic place, the
-- second is not.
--     from __future__ import annotations
--     from typing import Any
--     def f(x: Any, y: list[int] | None):
--         if isinstance(x, list):
--             x.append("a")
--         if isinstance(y, list):
--             y.append(1)
--     def main():
--         f([1], None)
--     main()
use Rattle.std.specs.Prelude.{List, [], ◌∷◌, true, false, Some, None, codes}
use Rattle.pc_source.specs.declared.place.Place.{Place}
use Rattle.pc_tree.specs.declared.code.Code.TheVariants.{A7}
use Rattle.pc_tree.specs.declared.code.Finding.{Finding}
use Rattle.pc_tree.specs.Code.{finding}
use Rattle.pc_tree.specs.Tree.{Name, Expr, name, number, text, nothing, list, attribute, call, Exprs, no_exprs}
use Rattle.pc_tree.specs.Tree.{more_exprs, no_keywords, Ann, named, none_type, applied, no_anns, more_anns, Stmt, Stmts}
use Rattle.pc_tree.specs.Tree.{evaluates, conditional, no_stmts, more_stmts, no_branches, more_branches, Param, FuncDef}
use Rattle.pc_tree.specs.Tree.{def_item, Module}
use Rattle.pc_tree.specs.Tree as tree
use Rattle.pc_machine.specs.Runs.{End, done}
use Rattle.pc_sound.specs.Examples.{at, word}

-- two arguments by position
abbrev two : Expr → Expr → Exprs
two e f = more_exprs e (more_exprs f no_exprs)

-- `if isinstance(x, list):` and `x.append("a")`
abbrev first_test : Stmt
first_test =
    conditional (at 98 100)
    (more_branches (call (at 101 120) (name (word 101 (codes "isinstance")))
    (two (name (word 112 (codes "x"))) (name (word 115 (codes "list")))) no_keywords)
    (more_stmts (evaluates (at 130 131)
    (call (at 130 143) (attribute (at 130 138) (name (word 130 (codes "x"))) (word 132 (codes "append")))
    (more_exprs (text (at 139 142) (codes "a")) no_exprs) no_keywords)) no_stmts)
    no_branches)
    no_stmts

-- `if isinstance(y, list):` and `y.append(1)`
abbrev second_test : Stmt
second_test =
    conditional (at 148 150)
    (more_branches (call (at 151 170) (name (word 151 (codes "isinstance")))
    (two (name (word 162 (codes "y"))) (name (word 165 (codes "list")))) no_keywords)
    (more_stmts (evaluates (at 180 181)
    (call (at 180 191) (attribute (at 180 188) (name (word 180 (codes "y"))) (word 182 (codes "append")))
    (more_exprs (number (at 189 190) (codes "1")) no_exprs) no_keywords)) no_stmts)
    no_branches)
    no_stmts

-- `list[int] | None`
abbrev list_or_none : Ann
list_or_none =
    tree.union (at 75 91) (more_anns
    (applied (at 75 84) (word 75 (codes "list")) (more_anns (named (word 80 (codes "int"))) no_anns))
    (more_anns (none_type (at 87 91)) no_anns))

-- the parameters `x: Any` and `y: list[int] | None`
abbrev params : List Param
params =
    record { name = word 64 (codes "x"); annotation = Some (named (word 67 (codes "Any"))); default = None }
    ∷ record { name = word 72 (codes "y"); annotation = Some list_or_none; default = None }
    ∷ []

-- `f`, with both tests
abbrev f : FuncDef
f = record {
  name = word 62 (codes "f");
  params = params;
  returns = None;
  body = more_stmts first_test (more_stmts second_test no_stmts);
}

-- `f([1], None)`
abbrev main_body : Stmts
main_body =
    more_stmts (evaluates (at 208 209)
    (call (at 208 220) (name (word 208 (codes "f")))
    (two (list (at 210 213) (more_exprs (number (at 211 212) (codes "1")) no_exprs)) (nothing (at 215 219)))
    no_keywords)) no_stmts

-- `main`, with that body
abbrev main : FuncDef
main = record { name = word 196 (codes "main"); params = []; returns = None; body = main_body }

-- the tree of the text above
abbrev pub program : Module
program = record {
  imports_dataclass = false;
  imports_any = true;
  items = def_item (at 58 61) f ∷ def_item (at 192 195) main ∷ [];
  main = at 221 225;
}

-- the findings: the test of `x`, which is of type Any
abbrev pub findings : List Finding
findings = finding (at 101 120) A7 ∷ []

-- the places that the run evaluates: `[1]` is a list and None is not, so the second `append` is not reached
abbrev pub events : List Place
events =
    at 208 209 ∷ at 211 212 ∷ at 210 213 ∷ at 215 219 ∷ at 208 220
    ∷ at 101 111 ∷ at 112 113 ∷ at 101 120
    ∷ at 130 131 ∷ at 130 138 ∷ at 139 142 ∷ at 130 143
    ∷ at 151 161 ∷ at 162 163 ∷ at 151 170
    ∷ []

-- the end of the run
abbrev pub end : End
end = done
