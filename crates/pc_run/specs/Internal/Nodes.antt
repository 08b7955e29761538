-- The nodes of the text in a plain run, as the tracer's functions evaluate them.
-- Own rule of the profile.
use Rattle.std.specs.Prelude.{ℕ, List, Option, Some, None}
use Rattle.std.specs.Prelude.{Vec, map}
use Rattle.std.specs.Global.{Global as Allocator}
use Rattle.pc_value.specs.Meaning.{value_of, entry_of}
use Rattle.pc_value.specs.declared.value.Value.{Value as RustValue}
use Rattle.pc_value.specs.declared.value.DictEntry.{DictEntry as RustEntry}
use Rattle.pc_machine.specs.declared.state.NamedValue.{NamedValue as RustNamedValue}
use Rattle.pc_machine.specs.Machine.{named_of}
use Rattle.pc_source.specs.declared.place.Place.{Place}
use Rattle.pc_tree.specs.Tree.{Name, Expr, name, Exprs, no_exprs, more_exprs, Entries, Keywords, no_keywords, Target}
use Rattle.pc_tree.specs.Tree.{Stmt, Stmts, Branches}
use Rattle.pc_value.specs.Value.{Value, DictEntry}
use Rattle.pc_value.specs.Actions.{Iteration}
use Rattle.pc_machine.specs.State.{Function}
use Rattle.pc_machine.specs.Calls.{NamedValue}
use Rattle.pc_machine.specs.Steps.{StatementEnd}
use Rattle.pc_machine.specs.Plain.{Step, plain}
use Rattle.pc_machine.specs.Runs.{plain_parts}
use Rattle.pc_machine.specs.Evaluation as text
use Rattle.pc_machine.specs.Evaluation.{call_form, instance_test, iterable_form}

-- an expression in a plain run, after its charge
abbrev pub charged_expr : ℕ → Expr → Step Value
charged_expr n e = text.eval_node Step plain (plain_parts n) e

-- operands, arguments and items in a plain run, from left to right
abbrev pub all_of : ℕ → Exprs → Step (List Value)
all_of n items = text.eval_all Step plain (plain_parts n).eval items

-- the entries of a dict display in a plain run
abbrev pub entries_in : ℕ → Entries → Step (List DictEntry)
entries_in n items = text.eval_entries Step plain (plain_parts n).eval items

-- arguments by name in a plain run, in the order of the text
abbrev pub keywords_in : ℕ → Keywords → Step (List NamedValue)
keywords_in n by_name = text.eval_keywords Step plain (plain_parts n).eval by_name

-- a call in a plain run, by its form
abbrev pub call_in : ℕ → Place → Expr → Exprs → Keywords → Step Value
call_in n p callee arguments by_name =
    text.eval_call Step plain (plain_parts n) p callee arguments by_name (call_form callee arguments by_name)

-- a test `isinstance(e, T)` in a plain run, which depends only on the name, e and T of the call
abbrev pub test_in : ℕ → Place → Name → Expr → Expr → Step Value
test_in n p f e t = text.eval_call Step plain (plain_parts n) p (name f)
    (more_exprs e (more_exprs t no_exprs)) no_keywords (instance_test f e t)

-- a call of a function, or of a method with its object, in a plain run
abbrev pub entered_body : ℕ → Function → Option Value → List Value → List NamedValue → Step Value
entered_body n f None values named = text.call_function Step plain (plain_parts n) f values named
entered_body n f (Some object) values named = text.call_method Step plain (plain_parts n) object f values named

-- a statement in a plain run, after its charge
abbrev pub exec_one : ℕ → Stmt → Step StatementEnd
exec_one n s = text.exec_node Step plain (plain_parts n) s

-- an assignment of a value to a target in a plain run
abbrev pub assign_traced : ℕ → Target → Value → Step StatementEnd
assign_traced n target v = text.assign Step plain (plain_parts n) target v

-- the branches of an `if` with the suite of its `else`, in a plain run
abbrev pub branches_in : ℕ → Branches → Stmts → Step StatementEnd
branches_in n branches otherwise = text.exec_branches Step plain (plain_parts n) branches otherwise

-- the source of a `for`'s items in a plain run
abbrev pub iterable_in : ℕ → Expr → Step Iteration
iterable_in n e = text.eval_iterable Step plain (plain_parts n) e (iterable_form e)

-- ---- collected values, as the program holds them

-- values, as the program holds them
abbrev pub values_of_vec : Vec RustValue Allocator → List Value
values_of_vec vs = map value_of vs.items

-- entries of a dict, as the program holds them
abbrev pub entries_of_vec : Vec RustEntry Allocator → List DictEntry
entries_of_vec es = map entry_of es.items

-- arguments by name, as the program holds them
abbrev pub named_of_vec : Vec RustNamedValue Allocator → List NamedValue
named_of_vec vs = map named_of vs.items
