-- A module that passes one list as three types: a list is of no other item type, and of Any only by a dynamic flow.
--     from __future__ import annotations
--     from typing import Any
--     def a(x: list[int | str]):
--         pass
--     def b(x: list[Any]):
--         pass
--     def c(x: Any):
--         pass
--     def main():
--         v = [1]
--         a(v)
--         b(v)
--         c(v)
--     main()
use Rattle.std.specs.Prelude.{List, [], ◌∷◌, false, true, Some, None, codes}
use Rattle.pc_source.specs.declared.place.Place.{Place}
use Rattle.pc_tree.specs.declared.code.Code.TheVariants.{A1, E12}
use Rattle.pc_tree.specs.declared.code.Finding.{Finding}
use Rattle.pc_tree.specs.Code.{finding}
use Rattle.pc_tree.specs.Tree.{Ann, FuncDef, Module, name, number, list, call, no_exprs, more_exprs, no_keywords, named}
use Rattle.pc_tree.specs.Tree.{applied, union, no_anns, more_anns, to_name, pass, evaluates, assigns, no_stmts}
use Rattle.pc_tree.specs.Tree.{more_stmts, def_item}
use Rattle.pc_machine.specs.Runs.{End, done}
use Rattle.pc_sound.specs.Examples.{at, word}

-- `int | str`
abbrev pub int_or_str : Ann
int_or_str = union (at 72 81)
    (more_anns (named (word 72 (codes "int"))) (more_anns (named (word 78 (codes "str"))) no_anns))

-- `list[int | str]`
abbrev pub a : FuncDef
a = record {
  name = word 62 (codes "a");
  params = record {
    name = word 64 (codes "x");
    annotation = Some (applied (at 67 82) (word 67 (codes "list")) (more_anns int_or_str no_anns));
    default = None;
  } ∷ [];
  returns = None;
  body = more_stmts (pass (at 89 93)) no_stmts;
}

-- `list[Any]`
abbrev pub b : FuncDef
b = record {
  name = word 98 (codes "b");
  params = record {
    name = word 100 (codes "x");
    annotation = Some (applied (at 103 112) (word 103 (codes "list"))
        (more_anns (named (word 108 (codes "Any"))) no_anns));
    default = None;
  } ∷ [];
  returns = None;
  body = more_stmts (pass (at 119 123)) no_stmts;
}

-- `Any`
abbrev pub c : FuncDef
c = record {
  name = word 128 (codes "c");
  params = record {
    name = word 130 (codes "x");
    annotation = Some (named (word 133 (codes "Any")));
    default = None;
  } ∷ [];
  returns = None;
  body = more_stmts (pass (at 143 147)) no_stmts;
}

-- `main`, which makes a list and passes it to each of the three
abbrev pub main : FuncDef
main = record {
  name = word 152 (codes "main");
  params = [];
  returns = None;
  body = more_stmts (assigns (at 164 165) (to_name (word 164 (codes "v")))
      (list (at 168 171) (more_exprs (number (at 169 170) (codes "1")) no_exprs)))
      (more_stmts (evaluates (at 176 177)
      (call (at 176 180) (name (word 176 (codes "a")))
      (more_exprs (name (word 178 (codes "v"))) no_exprs) no_keywords))
      (more_stmts (evaluates (at 185 186)
      (call (at 185 189) (name (word 185 (codes "b")))
      (more_exprs (name (word 187 (codes "v"))) no_exprs) no_keywords))
      (more_stmts (evaluates (at 194 195)
      (call (at 194 198) (name (word 194 (codes "c")))
      (more_exprs (name (word 196 (codes "v"))) no_exprs) no_keywords)) no_stmts)));
}

-- the tree of the text above
abbrev pub program : Module
program = record {
  imports_dataclass = false;
  imports_any = true;
  items = def_item (at 58 61) a ∷ def_item (at 94 97) b ∷ def_item (at 124 127) c ∷ def_item (at 148 151) main ∷ [];
  main = at 199 203;
}

-- the list passed as `list[int | str]`, and as `list[Any]`; as `Any` it has no finding
abbrev pub findings : List Finding
findings = finding (at 178 179) E12 ∷ finding (at 187 188) A1 ∷ []

-- the list, then the three calls
abbrev pub events : List Place
events = at 169 170 ∷ at 168 171
    ∷ at 176 177 ∷ at 178 179 ∷ at 176 180
    ∷ at 185 186 ∷ at 187 188 ∷ at 185 189
    ∷ at 194 195 ∷ at 196 197 ∷ at 194 198 ∷ []

-- the end of the run
abbrev pub end : End
end = done
