-- A module that overrides a method twice: an override judged against Any is a dynamic place, also with another override
-- between them.
--     from __future__ import annotations
--     from dataclasses import dataclass
--     from typing import Any
--     @dataclass
--     class A:
--         def m(self, x: Any) -> int:
--             return 0
--     @dataclass
--     class B(A):
--         def m(self, x: int) -> int:
--             return x
--     @dataclass
--     class C(B):
--         def m(self, x: int) -> int:
--             return x + 1
--     def f(a: A) -> int:
--         return a.m("s")
--     def main():
--         f(C())
--     main()
use Rattle.std.specs.Prelude.{ℕ, List, [], ◌∷◌, true, Some, None, codes}
use Rattle.pc_source.specs.declared.place.Place.{Place}
use Rattle.pc_tree.specs.declared.code.Code.TheVariants.{A8}
use Rattle.pc_tree.specs.declared.code.Finding.{Finding}
use Rattle.pc_tree.specs.declared.tree.BinaryOperator.TheVariants.{Add}
use Rattle.pc_tree.specs.Code.{finding}
use Rattle.pc_tree.specs.Tree.{Name, Expr, name, number, text, binary, attribute, call, no_exprs, more_exprs}
use Rattle.pc_tree.specs.Tree.{no_keywords, named, Stmts, returns, evaluates, no_stmts, more_stmts, Param, FuncDef}
use Rattle.pc_tree.specs.Tree.{method_member, ClassDef, class_item, def_item, Module}
use Rattle.pc_value.specs.Value.{Raised, TypeError}
use Rattle.pc_machine.specs.Runs.{End, stopped}
use Rattle.pc_sound.specs.Examples.{at, word}

-- a parameter with its annotation
abbrev typed : Name → Name → Param
typed n type = record { name = n; annotation = Some (named type); default = None }

-- a suite with only a `return` of a value
abbrev gives : ℕ → ℕ → Expr → Stmts
gives start end e = more_stmts (returns (at start end) (Some e)) no_stmts

-- `m` of A, with an Any parameter, which returns 0
abbrev pub m_of_a : FuncDef
m_of_a = record {
  name = word 120 (codes "m");
  params = typed (word 128 (codes "x")) (word 131 (codes "Any")) ∷ [];
  returns = Some (named (word 139 (codes "int")));
  body = gives 152 158 (number (at 159 160) (codes "0"));
}

-- `m` of B, with an int parameter, which it returns
abbrev pub m_of_b : FuncDef
m_of_b = record {
  name = word 192 (codes "m");
  params = typed (word 200 (codes "x")) (word 203 (codes "int")) ∷ [];
  returns = Some (named (word 211 (codes "int")));
  body = gives 224 230 (name (word 231 (codes "x")));
}

-- `m` of C, with an int parameter, which returns one more
abbrev pub m_of_c : FuncDef
m_of_c = record {
  name = word 264 (codes "m");
  params = typed (word 272 (codes "x")) (word 275 (codes "int")) ∷ [];
  returns = Some (named (word 283 (codes "int")));
  body = gives 296 302 (binary (at 303 308) Add (name (word 303 (codes "x"))) (number (at 307 308) (codes "1")));
}

-- A, with no base
abbrev pub class_a : ClassDef
class_a = record {
  decorator = at 93 102;
  name = word 109 (codes "A");
  base = None;
  members = method_member m_of_a ∷ [];
}

-- B, whose base is A
abbrev pub class_b : ClassDef
class_b = record {
  decorator = at 162 171;
  name = word 178 (codes "B");
  base = Some (word 180 (codes "A"));
  members = method_member m_of_b ∷ [];
}

-- C, whose base is B
abbrev pub class_c : ClassDef
class_c = record {
  decorator = at 234 243;
  name = word 250 (codes "C");
  base = Some (word 252 (codes "B"));
  members = method_member m_of_c ∷ [];
}

-- `f`, which calls `m` of an A with a text
abbrev f : FuncDef
f = record {
  name = word 313 (codes "f");
  params = typed (word 315 (codes "a")) (word 318 (codes "A")) ∷ [];
  returns = Some (named (word 324 (codes "int")));
  body = gives 333 339 (call (at 340 348) (attribute (at 340 343) (name (word 340 (codes "a"))) (word 342 (codes "m")))
      (more_exprs (text (at 344 347) (codes "s")) no_exprs) no_keywords);
}

-- `f(C())`
abbrev main_body : Stmts
main_body =
    more_stmts (evaluates (at 365 366)
    (call (at 365 371) (name (word 365 (codes "f")))
    (more_exprs (call (at 367 370) (name (word 367 (codes "C"))) no_exprs no_keywords) no_exprs) no_keywords))
    no_stmts

-- `main`, with that body
abbrev main : FuncDef
main = record { name = word 353 (codes "main"); params = []; returns = None; body = main_body }

-- the tree of the text above
abbrev pub program : Module
program = record {
  imports_dataclass = true;
  imports_any = true;
  items = class_item (at 92 93) class_a ∷ class_item (at 161 162) class_b ∷ class_item (at 233 234) class_c
      ∷ def_item (at 309 312) f ∷ def_item (at 349 352) main ∷ [];
  main = at 372 376;
}

-- the findings: the `m` of B, and that of C, each judged against the `m` of A
abbrev pub findings : List Finding
findings = finding (at 192 193) A8 ∷ finding (at 264 265) A8 ∷ []

-- the places that the run evaluates: the method of C is entered with a text, and `x + 1` is the last
abbrev pub events : List Place
events =
    at 365 366 ∷ at 367 368 ∷ at 367 370 ∷ at 365 371
    ∷ at 340 341 ∷ at 340 343 ∷ at 344 347 ∷ at 340 348
    ∷ at 264 265 ∷ at 303 304 ∷ at 307 308 ∷ at 303 308
    ∷ []

-- the end of the run
abbrev pub end : End
end = stopped (Raised TypeError)
