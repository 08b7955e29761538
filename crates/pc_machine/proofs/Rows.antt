-- Small modules against the definitions: the places that their plain runs evaluate, and their ends.
use Rattle.std.proofs.Common.{◌≡◌, ℕ, List, [], ◌∷◌, refl}
use Rattle.std.specs.Prelude.{Some, None, false}
use Rattle.pc_source.specs.declared.place.Place.{Place}
use Rattle.pc_tree.specs.declared.tree.BinaryOperator.TheVariants.{Add, Sub}
use Rattle.pc_tree.specs.Tree.{Name, name, number, binary, nothing, call, list, no_exprs, more_exprs, no_keywords}
use Rattle.pc_tree.specs.Tree.{returns, evaluates, for_loop, pass, no_stmts, more_stmts, Stmts, Param, Item, def_item}
use Rattle.pc_tree.specs.Tree.{Module}
use Rattle.pc_value.specs.Value.{Raised, TypeError, Cut}
use Rattle.pc_machine.specs.Plain.{After, Came, Ended, begin}
use Rattle.pc_machine.specs.Runs.{End, done, stopped, plain_module}

abbrev at : ℕ → ℕ → Place
at start end = record { start = start; end = end }

-- digits
abbrev one : List ℕ
one = 49 ∷ []

abbrev two : List ℕ
two = 50 ∷ []

abbrev seven : List ℕ
seven = 55 ∷ []

-- names
abbrev main_text : List ℕ
main_text = 109 ∷ 97 ∷ 105 ∷ 110 ∷ []

abbrev f_text : List ℕ
f_text = 102 ∷ []

abbrev x_text : List ℕ
x_text = 120 ∷ []

abbrev named : List ℕ → Place → Name
named text place = record { place = place; text = text }

abbrev function : List ℕ → List Param → Stmts → Item
function text params body = def_item (at 0 3) (record {
  name = named text (at 4 8);
  params = params;
  returns = None;
  body = body;
})

abbrev only_main : Stmts → Module
only_main body = record {
  imports_dataclass = false;
  imports_any = false;
  items = function main_text [] body ∷ [];
  main = at 0 4;
}

pub record Trace : Type 0 where
  pub events : List Place
  pub end : End

abbrev trace_of : {A : Type 0} → After A → Trace
trace_of (Came v w) = record { events = w.events; end = done }
trace_of (Ended stop w) = record { events = w.events; end = stopped stop }

-- `return 7 - 2 - 1`
differences : Module
differences =
    only_main
    (more_stmts
    (returns (at 51 57)
    (Some (binary (at 58 67) Sub (binary (at 58 63) Sub (number (at 58 59) seven) (number (at 62 63) two))
    (number (at 66 67) one)))) no_stmts)

operands_from_the_left : trace_of (plain_module 21 differences (begin 20 []))
    ≡ record { events = at 58 59 ∷ at 62 63 ∷ at 58 63 ∷ at 66 67 ∷ at 58 67 ∷ []; end = done }
unfolding differences
operands_from_the_left = refl

-- the statement, the two differences and the number 7 take four of the fuel; the number 2 is cut off
cut_at_a_number : trace_of (plain_module 5 differences (begin 4 []))
    ≡ record { events = at 58 59 ∷ []; end = stopped Cut }
unfolding differences
cut_at_a_number = refl

-- `return None + 1`
wrong_sum : Module
wrong_sum =
    only_main
    (more_stmts (returns (at 51 57) (Some (binary (at 58 66) Add (nothing (at 58 62)) (number (at 65 66) one))))
    no_stmts)

raising_step_is_there : trace_of (plain_module 21 wrong_sum (begin 20 []))
    ≡ record { events = at 58 62 ∷ at 65 66 ∷ at 58 66 ∷ []; end = stopped (Raised TypeError) }
unfolding wrong_sum
raising_step_is_there = refl

-- `def f(x): return x` and `f(1)` in `main`: the callee before its argument, then the call, then the body
called : Module
called = record {
  imports_dataclass = false;
  imports_any = false;
  items =
      function f_text (record { name = named x_text (at 6 7); annotation = None; default = None } ∷ [])
      (more_stmts (returns (at 14 20) (Some (name (named x_text (at 21 22))))) no_stmts) ∷ function main_text []
      (more_stmts (evaluates (at 39 40) (call (at 39 43) (name (named f_text (at 39 40)))
      (more_exprs (number (at 41 42) one) no_exprs) no_keywords)) no_stmts) ∷ [];
  main = at 44 48;
}

callee_first : trace_of (plain_module 21 called (begin 20 []))
    ≡ record { events = at 39 40 ∷ at 41 42 ∷ at 39 43 ∷ at 21 22 ∷ []; end = done }
unfolding called
callee_first = refl

-- `for x in [7, 2]: pass` takes three for the display, one for itself, and one for each `pass`
loop : Module
loop = only_main (more_stmts (for_loop (at 20 23) (named x_text (at 24 25))
    (list (at 29 35) (more_exprs (number (at 30 31) seven) (more_exprs (number (at 33 34) two) no_exprs)))
    (more_stmts (pass (at 40 44)) no_stmts)) no_stmts)

fuel_of_a_loop : trace_of (plain_module 7 loop (begin 6 [])) ≡ record {
  events = at 30 31 ∷ at 33 34 ∷ at 29 35 ∷ [];
  end = done;
}
unfolding loop
fuel_of_a_loop = refl

one_less_is_cut : trace_of (plain_module 6 loop (begin 5 [])) ≡ record {
  events = at 30 31 ∷ at 33 34 ∷ at 29 35 ∷ [];
  end = stopped Cut;
}
unfolding loop
one_less_is_cut = refl
