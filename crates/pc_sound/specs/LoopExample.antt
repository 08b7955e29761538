-- A module whose loop rebinds a narrowed parameter: the head of the loop has its declared type, so the sum is an error.
--     from __future__ import annotations
--     def f(x: int | None):
--         if x is None:
--             return
--         while True:
--             x + 1
--             x = None
--     def main():
--         f(1)
--     main()
use Rattle.std.specs.Prelude.{List, [], ◌∷◌, false, true, Some, None, codes}
use Rattle.pc_source.specs.declared.place.Place.{Place}
use Rattle.pc_tree.specs.declared.tree.BinaryOperator.TheVariants.{Add}
use Rattle.pc_tree.specs.declared.code.Code.TheVariants.{E13}
use Rattle.pc_tree.specs.declared.code.Finding.{Finding}
use Rattle.pc_tree.specs.Code.{finding}
use Rattle.pc_tree.specs.Tree.{Ann, Stmts, FuncDef, Module, name, number, nothing, truth, binary, is_none, call}
use Rattle.pc_tree.specs.Tree.{no_exprs, more_exprs, no_keywords, named, none_type, union, no_anns, more_anns, to_name}
use Rattle.pc_tree.specs.Tree.{returns, evaluates, assigns, while_loop, conditional, no_stmts, more_stmts, no_branches}
use Rattle.pc_tree.specs.Tree.{more_branches, def_item}
use Rattle.pc_value.specs.Value.{Raised, TypeError}
use Rattle.pc_machine.specs.Runs.{End, stopped}
use Rattle.pc_sound.specs.Examples.{at, word}

-- `int | None`
abbrev pub int_or_none : Ann
int_or_none = union (at 44 54) (more_anns (named (word 44 (codes "int"))) (more_anns (none_type (at 50 54)) no_anns))

-- the body of the loop: `x + 1`, then `x = None`
abbrev pub loop_body : Stmts
loop_body = more_stmts (evaluates (at 114 115)
    (binary (at 114 119) Add (name (word 114 (codes "x"))) (number (at 118 119) (codes "1"))))
    (more_stmts (assigns (at 128 129) (to_name (word 128 (codes "x"))) (nothing (at 132 136))) no_stmts)

-- `f`, which returns if `x` is None, and otherwise runs the loop
abbrev pub f : FuncDef
f = record {
  name = word 39 (codes "f");
  params = record { name = word 41 (codes "x"); annotation = Some int_or_none; default = None } ∷ [];
  returns = None;
  body = more_stmts (conditional (at 61 63)
      (more_branches (is_none (at 64 73) (name (word 64 (codes "x"))))
      (more_stmts (returns (at 83 89) None) no_stmts) no_branches) no_stmts)
      (more_stmts (while_loop (at 94 99) (truth (at 100 104) true) loop_body) no_stmts);
}

-- `main`, which calls `f` with 1
abbrev pub main : FuncDef
main = record {
  name = word 141 (codes "main");
  params = [];
  returns = None;
  body = more_stmts (evaluates (at 153 154)
      (call (at 153 157) (name (word 153 (codes "f")))
      (more_exprs (number (at 155 156) (codes "1")) no_exprs) no_keywords)) no_stmts;
}

-- the tree of the text above
abbrev pub program : Module
program = record {
  imports_dataclass = false;
  imports_any = false;
  items = def_item (at 35 38) f ∷ def_item (at 137 140) main ∷ [];
  main = at 158 162;
}

-- the sum in the loop, on line 6 at column 9
abbrev pub findings : List Finding
findings = finding (at 114 119) E13 ∷ []

-- the call of `f`, the test of `x`, the first turn, and the second one up to the sum
abbrev pub events : List Place
events = at 153 154 ∷ at 155 156 ∷ at 153 157 ∷ at 64 65 ∷ at 64 73
    ∷ at 100 104 ∷ at 114 115 ∷ at 118 119 ∷ at 114 119 ∷ at 132 136
    ∷ at 100 104 ∷ at 114 115 ∷ at 118 119 ∷ at 114 119 ∷ []

-- the end of the run: in the second turn `x` is None
abbrev pub end : End
end = stopped (Raised TypeError)
