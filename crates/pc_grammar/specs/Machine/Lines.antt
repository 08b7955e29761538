-- Turns in a module, a class, a function and a suite.
use Rattle.std.specs.Prelude.{◌&&◌, Bool, true, false, List, [], ◌∷◌, ◌++◌, Some, None, codes, bytes_eq}
use Rattle.pc_source.specs.declared.place.Place.{Place}
use Rattle.pc_token.specs.declared.token.TokenKind.{TokenKind}
use Rattle.pc_token.specs.declared.token.TokenKind.TheVariants as kind
use Rattle.pc_token.specs.declared.token.Keyword.TheVariants as word
use Rattle.pc_token.specs.declared.token.Operator.TheVariants as sign
use Rattle.pc_token.specs.Lexeme.{Lexeme}
use Rattle.pc_tree.specs.Tree.{Name, Literal, number_literal, negative_literal, text_literal, truth_literal}
use Rattle.pc_tree.specs.Tree.{none_literal, pass, breaks, continues, returns, conditional, Stmts, no_stmts, more_stmts}
use Rattle.pc_tree.specs.Tree.{Branches, no_branches, no_anns, Param, Member, Module}
use Rattle.pc_grammar.specs.Grammar.{span, name_of_token, digits_of, characters_of}
use Rattle.pc_grammar.specs.Machine.Kinds.{Fixed, a_kind, a_form, is_fixed, same_kind, operand_start, Lead, leads_pass}
use Rattle.pc_grammar.specs.Machine.Kinds.{leads_break, leads_continue, leads_return, leads_assert, leads_while}
use Rattle.pc_grammar.specs.Machine.Kinds.{leads_for}
use Rattle.pc_grammar.specs.Machine.Kinds.{leads_if, leads_out, leads_other, lead_of}
use Rattle.pc_grammar.specs.Machine.States.{HeaderStage, after_future, after_dataclasses, after_headers, Top, ClassStart}
use Rattle.pc_grammar.specs.Machine.States.{FunctionOwner}
use Rattle.pc_grammar.specs.Machine.States.{of_module, of_class, DefStart, def_body, else_body, Block, Site, returned}
use Rattle.pc_grammar.specs.Machine.States.{asserted, looping, iterating, branching, in_line, in_statement, in_constant}
use Rattle.pc_grammar.specs.Machine.States.{of_constant, of_field, of_param, of_return, LiteralContext, whole}
use Rattle.pc_grammar.specs.Machine.States.{ann_whole}
use Rattle.pc_grammar.specs.Machine.States.{State, fixed, items, importing, item_named, decorator_due, class_due}
use Rattle.pc_grammar.specs.Machine.States.{class_named, base_due, members, def_due, self_read, param_due, param_named}
use Rattle.pc_grammar.specs.Machine.States.{params_read, minus_read, literal_read, stmts, return_due, target_due}
use Rattle.pc_grammar.specs.Machine.States.{part_due}
use Rattle.pc_grammar.specs.Machine.States.{operand, ended, Transition, stuck, go, on}
use Rattle.pc_grammar.specs.Machine.Finishing.{add_stmt, suite_of, after_stmt, nested_in, after_suite, after_class}
use Rattle.pc_grammar.specs.Machine.Finishing.{param_more, finish_literal}
use Rattle.pc_grammar.specs.Machine.Expressions.{operand_turn}

-- the state where these words are due, and then the next state
abbrev pub due : List Fixed → State → State
due [] next = next
due (w ∷ ws) next = fixed w ws next

-- the turn where this fixed word is due, then these others, and then the next state
abbrev pub fixed_turn : Fixed → List Fixed → State → Lexeme → TokenKind → Transition
fixed_turn w ws next t k = on (is_fixed w t k) (due ws next) stuck

-- ---- the module

-- the module with the headers and items so far, and this place of `main`
abbrev pub module_of : Top → Place → Module
module_of top main = record {
  imports_dataclass = top.imports_dataclass;
  imports_any = top.imports_any;
  items = top.items;
  main = main;
}

-- a module of which no item and no optional header has been read
abbrev pub no_top : Top
no_top = record { imports_dataclass = false; imports_any = false; items = [] }

-- the first state, before the first header
abbrev pub start : State
start = fixed (a_kind (kind.Keyword word.From))
    (a_form (codes "__future__") ∷ a_kind (kind.Keyword word.Import) ∷ a_form (codes "annotations")
    ∷ a_kind kind.Newline ∷ [])
    (items after_future no_top)

-- whether another header may come
abbrev pub takes_header : HeaderStage → Bool
takes_header after_headers = false
takes_header _ = true

-- whether the header of `dataclasses` may still come
abbrev pub takes_dataclasses : HeaderStage → Bool
takes_dataclasses after_future = true
takes_dataclasses _ = false

-- the turn where an item of the module is due: a name, `@`, `def`, or `from` where another header may come
abbrev pub items_turn : HeaderStage → Top → Lexeme → TokenKind → Transition
items_turn stage top t k = on (same_kind k kind.Name) (item_named (name_of_token t) top)
    (on (same_kind k (kind.Operator sign.At)) (decorator_due t.place top)
    (on (same_kind k (kind.Keyword word.Def)) (def_due (of_module top) t.place)
    (on (same_kind k (kind.Keyword word.From) && takes_header stage) (importing stage top) stuck)))

-- the turn after the `from` of a header: `dataclasses` where its header may come, or `typing`
abbrev pub importing_turn : HeaderStage → Top → Lexeme → TokenKind → Transition
importing_turn stage top t k =
    on ((same_kind k kind.Name && bytes_eq t.form (codes "dataclasses")) && takes_dataclasses stage)
    (fixed (a_kind (kind.Keyword word.Import)) (a_form (codes "dataclass") ∷ a_kind kind.Newline ∷ [])
    (items after_dataclasses (record top { imports_dataclass = true })))
    (on (same_kind k kind.Name && bytes_eq t.form (codes "typing"))
    (fixed (a_kind (kind.Keyword word.Import)) (a_form (codes "Any") ∷ a_kind kind.Newline ∷ [])
    (items after_headers (record top { imports_any = true }))) stuck)

-- the turn after a name that begins a line of the module: the `:` or `=` of a constant, or the `(` of the line
-- `main()`
abbrev pub item_named_turn : Name → Top → Lexeme → TokenKind → Transition
item_named_turn n top t k =
    on (same_kind k (kind.Operator sign.Colon)) (part_due no_anns [] (ann_whole (of_constant n top)))
    (on (same_kind k (kind.Operator sign.Equal)) (operand (whole (in_constant n None top)))
    (on (same_kind k (kind.Operator sign.LeftParenthesis) && bytes_eq n.text (codes "main"))
    (fixed (a_kind (kind.Operator sign.RightParenthesis)) (a_kind kind.Newline ∷ a_kind kind.End ∷ [])
    (ended (module_of top n.place))) stuck))

-- ---- classes

-- the turn after `@`, where only `dataclass` may follow
abbrev pub decorator_turn : Place → Top → Lexeme → TokenKind → Transition
decorator_turn first top t k = on (same_kind k kind.Name && bytes_eq t.form (codes "dataclass"))
    (fixed (a_kind kind.Newline) (a_kind (kind.Keyword word.Class) ∷ []) (class_due first t.place top)) stuck

-- the turn after `class`, where only the name of the class may follow
abbrev pub class_turn : Place → Place → Top → Lexeme → TokenKind → Transition
class_turn first decorator top t k =
    on (same_kind k kind.Name)
    (class_named (record { top = top; first = first; decorator = decorator; name = name_of_token t; base = None })) stuck

-- the turn after the name of a class: the `(` before its base, or the `:` of its suite
abbrev pub class_named_turn : ClassStart → Lexeme → TokenKind → Transition
class_named_turn c t k = on (same_kind k (kind.Operator sign.LeftParenthesis)) (base_due c)
    (on (same_kind k (kind.Operator sign.Colon))
    (fixed (a_kind kind.Newline) (a_kind kind.Indent ∷ []) (members c [])) stuck)

-- the turn after the `(` of a class, where only the name of its base may follow
abbrev pub base_turn : ClassStart → Lexeme → TokenKind → Transition
base_turn c t k = on (same_kind k kind.Name)
    (fixed (a_kind (kind.Operator sign.RightParenthesis))
    (a_kind (kind.Operator sign.Colon) ∷ a_kind kind.Newline ∷ a_kind kind.Indent ∷ [])
    (members (record c { base = Some (name_of_token t) }) [])) stuck

-- the turn at the end of the members: `pass` if there are none, otherwise the end of the suite
abbrev pub members_end : ClassStart → List Member → TokenKind → Transition
members_end c [] k = on (same_kind k (kind.Keyword word.Pass))
    (fixed (a_kind kind.Newline) (a_kind kind.Dedent ∷ []) (after_class c [])) stuck
members_end c (m ∷ ms) k = on (same_kind k kind.Dedent) (after_class c (m ∷ ms)) stuck

-- the turn where a member of a class is due: the name of a field, the `def` of a method, or the end of the members
abbrev pub members_turn : ClassStart → List Member → Lexeme → TokenKind → Transition
members_turn c ms t k = on (same_kind k kind.Name)
    (fixed (a_kind (kind.Operator sign.Colon)) [] (part_due no_anns [] (ann_whole (of_field c ms (name_of_token t)))))
    (on (same_kind k (kind.Keyword word.Def)) (def_due (of_class c ms) t.place) (members_end c ms k))

-- ---- functions

-- the state after the name of a function, before its first parameter
abbrev pub params_of : FunctionOwner → DefStart → State
params_of (of_module top) d = fixed (a_kind (kind.Operator sign.LeftParenthesis)) [] (param_due d [])
params_of (of_class c ms) d =
    fixed (a_kind (kind.Operator sign.LeftParenthesis)) (a_form (codes "self") ∷ []) (self_read d)

-- the turn after `def`, where only the name of the function may follow
abbrev pub def_turn : FunctionOwner → Place → Lexeme → TokenKind → Transition
def_turn owner first t k =
    on (same_kind k kind.Name) (params_of owner (record { owner = owner; first = first; name = name_of_token t })) stuck

-- the turn after `self`: a comma, or the `)` of the parameters
abbrev pub self_turn : DefStart → Lexeme → TokenKind → Transition
self_turn d t k = on (same_kind k (kind.Operator sign.Comma)) (param_due d [])
    (on (same_kind k (kind.Operator sign.RightParenthesis)) (params_read d []) stuck)

-- the turn where a parameter is due: its name, or the `)` of the parameters
abbrev pub param_turn : DefStart → List Param → Lexeme → TokenKind → Transition
param_turn d ps t k = on (same_kind k kind.Name) (param_named d ps (name_of_token t))
    (on (same_kind k (kind.Operator sign.RightParenthesis)) (params_read d ps) stuck)

-- the turn after the name of a parameter: the `:` of its annotation, or a token that may follow without one
abbrev pub param_named_turn : DefStart → List Param → Name → Lexeme → TokenKind → Transition
param_named_turn d ps n t k =
    on (same_kind k (kind.Operator sign.Colon)) (part_due no_anns [] (ann_whole (of_param d ps n)))
    (param_more d ps n None k)

-- the turn after the `)` of the parameters: the `->` of the return annotation, or the `:` of the suite
abbrev pub params_read_turn : DefStart → List Param → Lexeme → TokenKind → Transition
params_read_turn d ps t k =
    on (same_kind k (kind.Operator sign.Arrow)) (part_due no_anns [] (ann_whole (of_return d ps)))
    (on (same_kind k (kind.Operator sign.Colon))
    (suite_of (def_body (record { start = d; params = ps; returns = None }))) stuck)

-- the turn where a literal is due: a number, a string, `True`, `False`, `None`, or the `-` of a negative number
abbrev pub literal_turn : LiteralContext → Lexeme → TokenKind → Transition
literal_turn c t k = on (same_kind k kind.Int) (literal_read c (number_literal (span (t ∷ [])) (digits_of t.text)))
    (on (same_kind k kind.Str) (literal_read c (text_literal (span (t ∷ [])) (characters_of t.text)))
    (on (same_kind k (kind.Keyword word.True)) (literal_read c (truth_literal (span (t ∷ [])) true))
    (on (same_kind k (kind.Keyword word.False)) (literal_read c (truth_literal (span (t ∷ [])) false))
    (on (same_kind k (kind.Keyword word.None)) (literal_read c (none_literal (span (t ∷ []))))
    (on (same_kind k (kind.Operator sign.Minus)) (minus_read c (t ∷ [])) stuck)))))

-- the turn after the `-` of a literal, where only a number may follow
abbrev pub minus_turn : LiteralContext → List Lexeme → Lexeme → TokenKind → Transition
minus_turn c m t k = on (same_kind k kind.Int)
    (literal_read c (negative_literal (span (m ++ (t ∷ []))) (digits_of t.text))) stuck

-- the turn after a literal that is a default
abbrev pub literal_read_turn : LiteralContext → Literal → Lexeme → TokenKind → Transition
literal_read_turn c l t k = finish_literal c l k

-- ---- statements

-- the turn at the end of a suite, which must have a statement
abbrev pub end_suite : Stmts → Block → Transition
end_suite no_stmts b = stuck
end_suite (more_stmts s ss) b = go (after_suite b (more_stmts s ss))

-- the state where the end of the line is due, and after it this next state
abbrev pub line_ends : State → State
line_ends next = fixed (a_kind kind.Newline) [] next

-- the turn at a token that begins a statement, or ends the suite, in this way
abbrev pub lead_turn : Site → Lexeme → TokenKind → Lead → Transition
lead_turn site t k leads_pass = go (line_ends (after_stmt site (pass site.first)))
lead_turn site t k leads_break = go (line_ends (after_stmt site (breaks site.first)))
lead_turn site t k leads_continue = go (line_ends (after_stmt site (continues site.first)))
lead_turn site t k leads_return = go (return_due site)
lead_turn site t k leads_assert = go (operand (whole (in_statement asserted site)))
lead_turn site t k leads_while = go (operand (whole (in_statement looping site)))
lead_turn site t k leads_for = go (target_due site)
lead_turn site t k leads_if = go (operand (whole (in_statement (branching no_branches) site)))
lead_turn site t k leads_out = end_suite site.done site.block
lead_turn site t k leads_other = operand_turn (whole (in_line site.done site.block)) t (operand_start k)

-- the turn where a statement or the end of the suite is due
abbrev pub stmts_turn : Stmts → Block → Lexeme → TokenKind → Transition
stmts_turn done b t k = lead_turn (record { first = t.place; done = done; block = b }) t k (lead_of k)

-- the turn after `return`: the end of the line, or the first token of the value
abbrev pub return_turn : Site → Lexeme → TokenKind → Transition
return_turn site t k = on (same_kind k kind.Newline) (after_stmt site (returns site.first None))
    (operand_turn (whole (in_statement returned site)) t (operand_start k))

-- the turn after `for`, where only the name of the target may follow
abbrev pub target_turn : Site → Lexeme → TokenKind → Transition
target_turn site t k = on (same_kind k kind.Name)
    (fixed (a_kind (kind.Keyword word.In)) [] (operand (whole (in_statement (iterating (name_of_token t)) site)))) stuck

-- the statements with this `if`, which has no more branches, at the end
abbrev pub closed_branches : Branches → Site → Stmts
closed_branches bs site = add_stmt site.done (conditional site.first bs no_stmts)

-- the turn after a suite of `if` or `elif`: `elif`, `else`, or a token that may follow the whole statement
abbrev pub branch_turn : Branches → Site → Lexeme → TokenKind → Transition
branch_turn bs site t k = on (same_kind k (kind.Keyword word.Elif)) (operand (whole (in_statement (branching bs) site)))
    (on (same_kind k (kind.Keyword word.Else))
    (fixed (a_kind (kind.Operator sign.Colon)) (a_kind kind.Newline ∷ a_kind kind.Indent ∷ [])
    (stmts no_stmts (nested_in site (else_body bs))))
    (stmts_turn (closed_branches bs site) site.block t k))
