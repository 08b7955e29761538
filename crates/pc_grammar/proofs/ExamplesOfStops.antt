-- The findings that stop a run, depth, and literals, on small trees.
use Rattle.std.proofs.Common.{◌≡◌, ℕ, ◌+◌, true, false, List, [], ◌∷◌, Option, Some, None, refl, codes}
use Rattle.pc_source.specs.declared.place.Place.{Place}
use Rattle.pc_tree.specs.declared.code.Code.TheVariants.{E01, E05, E06, E28, E29, E31}
use Rattle.pc_tree.specs.Tree.{Name, Expr, name, attribute, call, tuple, no_exprs, more_exprs, no_keywords}
use Rattle.pc_tree.specs.Tree.{more_keywords, named, applied_empty, to_name, none_literal, Stmt, pass, breaks}
use Rattle.pc_tree.specs.Tree.{continues, assigns, evaluates, while_loop, conditional, Stmts, no_stmts, more_stmts}
use Rattle.pc_tree.specs.Tree.{no_branches, more_branches, Param, Member, field_member, method_member, Item, def_item}
use Rattle.pc_tree.specs.Tree.{class_item, Module}
use Rattle.pc_tree.specs.Depth.{depth_of, depth_of_ann}
use Rattle.pc_tree.specs.Stopping.{stopping_places, is_runnable}
use Rattle.pc_grammar.specs.Grammar.{digits_of, characters_of}

abbrev at_byte : ℕ → Place
at_byte byte = record { start = byte; end = byte + 1 }

abbrev called : ℕ → List ℕ → Name
called byte form = record { place = at_byte byte; text = form }

abbrev variable : ℕ → List ℕ → Expr
variable byte form = name (called byte form)

abbrev def : ℕ → List ℕ → List Param → Stmts → Item
def byte form params body = def_item (at_byte byte) (record {
  name = called byte form;
  params = params;
  returns = None;
  body = body;
})

abbrev plain_param : ℕ → List ℕ → Param
plain_param byte form = record { name = called byte form; annotation = None; default = None }

abbrev none_param : ℕ → List ℕ → Param
none_param byte form = record {
  name = called byte form;
  annotation = None;
  default = Some (none_literal (at_byte byte));
}

abbrev one : Stmt → Stmts
one s = more_stmts s no_stmts

abbrev module_with : List Item → Module
module_with is = record { imports_dataclass = true; imports_any = false; items = is; main = at_byte 99 }

abbrev main : Stmts → Item
main body = def 0 (codes "main") [] body

clean : is_runnable (module_with (main (one (pass (at_byte 1))) ∷ [])) ≡ true
clean = refl

-- no `main`, one with a parameter, one that a constant hides
no_main_at_all : stopping_places (module_with (def 0 (codes "f") [] (one (pass (at_byte 1))) ∷ [])) E28 ≡ at_byte 99
    ∷ []
no_main_at_all = refl

main_with_parameter : stopping_places (module_with (def 0 (codes "main") (plain_param 1 (codes "a") ∷ [])
    (one (pass (at_byte 2))) ∷ [])) E28 ≡ at_byte 99 ∷ []
main_with_parameter = refl

-- a function, a parameter and an argument named twice, each at the later name; a reserved name is no such thing
function_twice : stopping_places (module_with (main (one (pass (at_byte 1))) ∷ def 2 (codes "main") []
    (one (pass (at_byte 3))) ∷ [])) E01 ≡ at_byte 2 ∷ []
function_twice = refl

parameter_twice : stopping_places
    (module_with (def 0 (codes "f") (plain_param 1 (codes "a") ∷ plain_param 2 (codes "a") ∷ [])
    (one (pass (at_byte 3))) ∷ [])) E01 ≡ at_byte 2 ∷ []
parameter_twice = refl

argument_twice : stopping_places
    (module_with (main (one (evaluates (at_byte 1) (call (at_byte 1) (variable 1 (codes "f")) no_exprs
    (more_keywords (called 2 (codes "a")) (variable 3 (codes "x"))
    (more_keywords (called 4 (codes "a")) (variable 5 (codes "x")) no_keywords))))) ∷ [])) E01 ≡ at_byte 4 ∷ []
argument_twice = refl

reserved_twice : stopping_places (module_with (def 0 (codes "int") [] (one (pass (at_byte 1))) ∷ def 2 (codes "int") []
    (one (pass (at_byte 3))) ∷ [])) E01 ≡ []
reserved_twice = refl

reserved_both : stopping_places (module_with (def 0 (codes "int") [] (one (pass (at_byte 1))) ∷ def 2 (codes "int") []
    (one (pass (at_byte 3))) ∷ [])) E29 ≡ at_byte 0 ∷ at_byte 2 ∷ []
reserved_both = refl

-- `break` in a function, in an `if`, and in a loop
loose_break : stopping_places (module_with (main (more_stmts (breaks (at_byte 1))
    (more_stmts (conditional (at_byte 2) (more_branches (variable 3 (codes "a")) (one (continues (at_byte 4)))
    no_branches) no_stmts)
    (one (while_loop (at_byte 5) (variable 6 (codes "a")) (one (breaks (at_byte 7))))))) ∷ [])) E05 ≡ at_byte 1
    ∷ at_byte 4 ∷ []
loose_break = refl

-- a reserved local
reserved_local : stopping_places
    (module_with (main (one (assigns (at_byte 1) (to_name (called 1 (codes "print"))) (variable 2 (codes "a")))) ∷ []))
    E29 ≡ at_byte 1 ∷ []
reserved_local = refl

-- a parameter without default after one with default
late_default : stopping_places
    (module_with (def 0 (codes "f") (none_param 1 (codes "a") ∷ plain_param 2 (codes "b") ∷ []) (one (pass (at_byte 3)))
    ∷ [])) E31 ≡ at_byte 2 ∷ []
late_default = refl

-- members
abbrev field_at : ℕ → List ℕ → Member
field_at byte form = field_member (record {
  name = called byte form;
  annotation = named (called byte (codes "int"));
  default = None;
})

abbrev method_at : ℕ → List ℕ → Member
method_at byte form = method_member (record {
  name = called byte form;
  params = [];
  returns = None;
  body =
      one (pass (at_byte byte));
})

abbrev class_at : ℕ → List ℕ → Option Name → List Member → Item
class_at byte form base ms = class_item (at_byte byte) (record {
  decorator = at_byte byte;
  name = called byte form;
  base = base;
  members = ms;
})

field_again : stopping_places (module_with (class_at 0 (codes "A") None (field_at 1 (codes "a") ∷ [])
    ∷ class_at 2 (codes "B") (Some (called 3 (codes "A"))) (field_at 4 (codes "a") ∷ []) ∷ [])) E06 ≡ at_byte 4 ∷ []
field_again = refl

override : stopping_places (module_with (class_at 0 (codes "A") None (method_at 1 (codes "m") ∷ [])
    ∷ class_at 2 (codes "B") (Some (called 3 (codes "A"))) (method_at 4 (codes "m") ∷ []) ∷ [])) E06 ≡ []
override = refl

twice_in_class : stopping_places
    (module_with (class_at 0 (codes "A") None (method_at 1 (codes "m") ∷ field_at 2 (codes "m") ∷ []) ∷ [])) E06
    ≡ at_byte 2 ∷ []
twice_in_class = refl

-- a clashing member binds nothing: below it the name is still a method
hidden_field : stopping_places (module_with (class_at 0 (codes "A") None (method_at 1 (codes "m") ∷ [])
    ∷ class_at 2 (codes "B") (Some (called 3 (codes "A"))) (field_at 4 (codes "m") ∷ [])
    ∷ class_at 5 (codes "C") (Some (called 6 (codes "B"))) (method_at 7 (codes "m") ∷ []) ∷ [])) E06 ≡ at_byte 4 ∷ []
hidden_field = refl

mro_field : stopping_places
    (module_with (class_at 0 (codes "A") None (field_at 1 (codes "mro") ∷ method_at 2 (codes "m") ∷ []) ∷ [])) E29
    ≡ at_byte 1 ∷ []
mro_field = refl

-- depth: `e.m()` has 2 over a name, `tuple[()]` has 0, `()` has 0, `(x,)` has 1
depth_of_call : depth_of (call (at_byte 0) (attribute (at_byte 0) (variable 0 (codes "e")) (called 1 (codes "m")))
    no_exprs no_keywords) ≡ 2
depth_of_call = refl

depth_of_empty : depth_of (tuple (at_byte 0) no_exprs) ≡ 0
depth_of_empty = refl

depth_of_one : depth_of (tuple (at_byte 0) (more_exprs (variable 0 (codes "x")) no_exprs)) ≡ 1
depth_of_one = refl

depth_of_head : depth_of_ann (applied_empty (at_byte 0) (called 0 (codes "tuple"))) ≡ 0
depth_of_head = refl

-- literals
digits : digits_of (codes "1_000") ≡ codes "1000"
digits = refl

characters : characters_of (codes "'a\\n\\'\\\\b'") ≡ 97 ∷ 10 ∷ 39 ∷ 92 ∷ 98 ∷ []
characters = refl

no_characters : characters_of (codes "''") ≡ []
no_characters = refl
