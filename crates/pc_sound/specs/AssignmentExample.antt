-- A module that reads the target of a `for` after the loop: a loop may have no turn, so the name may be unassigned.
--     from __future__ import annotations
--     def main():
--         xs: list[int] = []
--         for x in xs:
--             pass
--         print(x)
--     main()
use Rattle.std.specs.Prelude.{List, [], ◌∷◌, false, Some, None, codes}
use Rattle.pc_source.specs.declared.place.Place.{Place}
use Rattle.pc_tree.specs.declared.code.Code.TheVariants.{E04}
use Rattle.pc_tree.specs.declared.code.Finding.{Finding}
use Rattle.pc_tree.specs.Code.{finding}
use Rattle.pc_tree.specs.Tree.{Ann, FuncDef, Module, name, list, call, no_exprs, more_exprs, no_keywords, named}
use Rattle.pc_tree.specs.Tree.{applied, no_anns, more_anns, pass, annotated, evaluates, for_loop, no_stmts, more_stmts}
use Rattle.pc_tree.specs.Tree.{def_item}
use Rattle.pc_value.specs.Value.{Raised, UnboundLocalError}
use Rattle.pc_machine.specs.Runs.{End, stopped}
use Rattle.pc_sound.specs.Examples.{at, word}

-- `list[int]`
abbrev pub list_of_int : Ann
list_of_int = applied (at 55 64) (word 55 (codes "list")) (more_anns (named (word 60 (codes "int"))) no_anns)

-- `main`, with an empty list, the loop over it, and the read after the loop
abbrev pub main : FuncDef
main = record {
  name = word 39 (codes "main");
  params = [];
  returns = None;
  body = more_stmts (annotated (at 51 53) (word 51 (codes "xs")) list_of_int (Some (list (at 67 69) no_exprs)))
      (more_stmts (for_loop (at 74 77) (word 78 (codes "x")) (name (word 83 (codes "xs")))
      (more_stmts (pass (at 95 99)) no_stmts))
      (more_stmts (evaluates (at 104 109)
      (call (at 104 112) (name (word 104 (codes "print")))
      (more_exprs (name (word 110 (codes "x"))) no_exprs) no_keywords)) no_stmts));
}

-- the tree of the text above
abbrev pub program : Module
program = record {
  imports_dataclass = false;
  imports_any = false;
  items = def_item (at 35 38) main ∷ [];
  main = at 113 117;
}

-- the name after the loop, on line 6 at column 11
abbrev pub findings : List Finding
findings = finding (at 110 111) E04 ∷ []

-- the empty list, the loop over it without a turn, and the name
abbrev pub events : List Place
events = at 67 69 ∷ at 83 85 ∷ at 104 109 ∷ at 110 111 ∷ []

-- the end of the run: the name is unbound
abbrev pub end : End
end = stopped (Raised UnboundLocalError)
