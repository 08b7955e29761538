-- A module whose first constant reads the second: its finding, and a run of it that ends there.
--     from __future__ import annotations
--     a: int = b
--     b: int = 1
--     def main():
--         print(a)
--     main()
use Rattle.std.specs.Prelude.{List, [], ◌∷◌, false, Some, None, codes}
use Rattle.pc_source.specs.declared.place.Place.{Place}
use Rattle.pc_tree.specs.declared.code.Code.TheVariants.{E03}
use Rattle.pc_tree.specs.declared.code.Finding.{Finding}
use Rattle.pc_tree.specs.Code.{finding}
use Rattle.pc_tree.specs.Tree.{name, number, call, no_exprs, more_exprs, no_keywords, named, Stmts, evaluates, no_stmts}
use Rattle.pc_tree.specs.Tree.{more_stmts, Constant, FuncDef, constant_item, def_item, Module}
use Rattle.pc_value.specs.Value.{Raised, NameError}
use Rattle.pc_machine.specs.Runs.{End, stopped}
use Rattle.pc_sound.specs.Examples.{at, word}

-- `a: int = b`
abbrev first : Constant
first = record {
  name = word 35 (codes "a");
  annotation = Some (named (word 38 (codes "int")));
  value = name (word 44 (codes "b"));
}

-- `b: int = 1`
abbrev second : Constant
second = record {
  name = word 46 (codes "b");
  annotation = Some (named (word 49 (codes "int")));
  value = number (at 55 56) (codes "1");
}

-- `print(a)`
abbrev main_body : Stmts
main_body =
    more_stmts (evaluates (at 73 78)
    (call (at 73 81) (name (word 73 (codes "print")))
    (more_exprs (name (word 79 (codes "a"))) no_exprs) no_keywords)) no_stmts

-- `main`, with that body
abbrev main : FuncDef
main = record { name = word 61 (codes "main"); params = []; returns = None; body = main_body }

-- the tree of the text above
abbrev pub program : Module
program = record {
  imports_dataclass = false;
  imports_any = false;
  items = constant_item (at 35 36) first ∷ constant_item (at 46 47) second ∷ def_item (at 57 60) main ∷ [];
  main = at 82 86;
}

-- the findings: the `b` on its second line is a later constant
abbrev pub findings : List Finding
findings = finding (at 44 45) E03 ∷ []

-- the places that the run evaluates: that `b`
abbrev pub events : List Place
events = at 44 45 ∷ []

-- the end of the run
abbrev pub end : End
end = stopped (Raised NameError)
