-- A module with a function of two lists of different types; one list cannot be of both types.
--     from __future__ import annotations
--     def f(x: list[int], y: list[int | None]):
--         pass
--     def main():
--         pass
--     main()
use Rattle.std.specs.Prelude.{[], ◌∷◌, false, Option, Some, None, codes, pos}
use Rattle.pc_tree.specs.Tree.{Ann, FuncDef, Module, named, none_type, applied, union, no_anns, more_anns, pass, no_stmts}
use Rattle.pc_tree.specs.Tree.{more_stmts, def_item}
use Rattle.pc_types.specs.Tree.{Int, NoneType, Union}
use Rattle.pc_class.specs.Facts.{parameters_of}
use Rattle.pc_value.specs.Value.{Value, whole, string, location, list_cell, Heap}
use Rattle.pc_machine.specs.State.{State, Function, a_function}
use Rattle.pc_sound.specs.Values.{HeapTyping, a_list}
use Rattle.pc_sound.specs.Border.{fitting_typing}
use Rattle.pc_sound.specs.Examples.{at, word}

-- `int | None`
abbrev pub int_or_none : Ann
int_or_none = union (at 63 73) (more_anns (named (word 63 (codes "int"))) (more_anns (none_type (at 69 73)) no_anns))

-- `f`, with the two lists as parameters
abbrev pub f : FuncDef
f = record {
  name = word 39 (codes "f");
  params = record {
    name = word 41 (codes "x");
    annotation = Some (applied (at 44 53) (word 44 (codes "list"))
        (more_anns (named (word 49 (codes "int"))) no_anns));
    default = None;
  } ∷ record {
    name = word 55 (codes "y");
    annotation = Some (applied (at 58 74) (word 58 (codes "list")) (more_anns int_or_none no_anns));
    default = None;
  } ∷ [];
  returns = None;
  body = more_stmts (pass (at 81 85)) no_stmts;
}

-- `main`, which does nothing
abbrev pub main : FuncDef
main = record {
  name = word 90 (codes "main");
  params = [];
  returns = None;
  body = more_stmts (pass (at 102 106)) no_stmts;
}

-- the tree of the text above
abbrev pub program : Module
program = record {
  imports_dataclass = false;
  imports_any = false;
  items = def_item (at 35 38) f ∷ def_item (at 86 89) main ∷ [];
  main = at 107 111;
}

-- the function that the def of `f` makes
abbrev pub made_f : Function
made_f = record {
  name = f.name;
  parameters = record { name = codes "x"; default = None } ∷ record { name = codes "y"; default = None } ∷ [];
  body = f.body;
}

-- the function that the def of `main` makes
abbrev pub made_main : Function
made_main = record { name = main.name; parameters = []; body = main.body }

-- the state after both items have run
abbrev pub loaded : State
loaded = record {
  classes = [];
  globals = record { name = codes "f"; is = a_function made_f } ∷ record {
    name = codes "main";
    is = a_function made_main;
  } ∷ [];
  frame = [];
  heap = [];
}

-- a heap of two lists, `[1]` and `[1]`
abbrev pub two_lists : Heap
two_lists = list_cell (whole (pos 1) ∷ []) ∷ list_cell (whole (pos 1) ∷ []) ∷ []

-- the answer of the border to a call of `f` with these two values
abbrev pub says : (first second : Value) → Option HeapTyping
says first second = fitting_typing program [] (record loaded { heap = two_lists }) [] (parameters_of program f.params) (first ∷ second ∷ []) []

-- the first list of `int`, the second of `int | None`
abbrev pub one_each : HeapTyping
one_each = a_list Int ∷ a_list (Union Int NoneType) ∷ []

-- the call with the first list and the second one, which fits
abbrev pub first_and_second : Option HeapTyping
first_and_second = says (location 0) (location 1)

-- the call with the first list twice, which would be of two types
abbrev pub first_twice : Option HeapTyping
first_twice = says (location 0) (location 0)

-- the call with a list and a text
abbrev pub list_and_text : Option HeapTyping
list_and_text = says (location 0) (string (codes "a"))
