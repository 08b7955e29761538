-- Turns inside an expression.
use Rattle.std.specs.Prelude.{ℕ, ◌+◌, ◌≤◌, nat_le, true, false, if◌then◌else◌, List, [], ◌∷◌, ◌++◌, Option, Some, None}
use Rattle.pc_source.specs.declared.place.Place.{Place}
use Rattle.pc_token.specs.declared.token.TokenKind.{TokenKind}
use Rattle.pc_token.specs.declared.token.TokenKind.TheVariants as kind
use Rattle.pc_token.specs.declared.token.Keyword.TheVariants as word
use Rattle.pc_token.specs.declared.token.Operator.TheVariants as sign
use Rattle.pc_token.specs.Lexeme.{Lexeme}
use Rattle.pc_tree.specs.declared.tree.ComparisonOperator.TheVariants as cmp
use Rattle.pc_tree.specs.Tree.{Name, Expr, name, number, text, truth, nothing, tuple, list, dict, negative, negation}
use Rattle.pc_tree.specs.Tree.{binary, compare, is_none, is_not_none, conjunction, disjunction, attribute, index, call}
use Rattle.pc_tree.specs.Tree.{Exprs, no_exprs, more_exprs, Entries, no_entries, Keywords, no_keywords}
use Rattle.pc_tree.specs.NamesAlone.{name_of_tree}
use Rattle.pc_grammar.specs.Grammar.{span, name_of_token, digits_of, characters_of}
use Rattle.pc_grammar.specs.Grammar.Expressions.{level_of}
use Rattle.pc_grammar.specs.Machine.Kinds.{same_kind, Start, a_name, a_number, a_string, a_truth, a_none}
use Rattle.pc_grammar.specs.Machine.Kinds.{opens_parenthesis, opens_bracket, opens_brace, a_minus, a_not, no_start}
use Rattle.pc_grammar.specs.Machine.Kinds.{operand_start, Infix, arithmetic, comparison, both, either, Link, linking}
use Rattle.pc_grammar.specs.Machine.Kinds.{denying}
use Rattle.pc_grammar.specs.Machine.Kinds.{identifying, Ending, a_comma, a_colon, an_equal, closes_parenthesis}
use Rattle.pc_grammar.specs.Machine.Kinds.{closes_bracket, closes_brace, Follow, link, a_dot, calls, indexes, ends}
use Rattle.pc_grammar.specs.Machine.Kinds.{follow_of}
use Rattle.pc_grammar.specs.Machine.States.{Part, Prefix, minus, denial, BracketPurpose, in_tuple, in_list, in_call, Stack, whole}
use Rattle.pc_grammar.specs.Machine.States.{joining, applying, grouping, listing, indexing, naming, keying, valuing}
use Rattle.pc_grammar.specs.Machine.States.{State}
use Rattle.pc_grammar.specs.Machine.States.{operand, have, denied, identified, unidentified, dotted, group_due}
use Rattle.pc_grammar.specs.Machine.States.{item_due}
use Rattle.pc_grammar.specs.Machine.States.{keyword_due, keyword_named, key_due, Transition, stuck, go, on}
use Rattle.pc_grammar.specs.Machine.Finishing.{add_expr, add_entry, add_keyword, if_plain, finish}

-- ---- levels

-- the level of the node that an operator makes
abbrev pub own_of : Infix → ℕ
own_of (arithmetic o) = level_of o
own_of (comparison o) = 3
own_of both = 1
own_of either = 0

-- the level that the left operand of an operator must have
abbrev pub left_of : Infix → ℕ
left_of (arithmetic o) = level_of o
left_of (comparison o) = 4
left_of both = 1
left_of either = 0

-- the level that the right operand of an operator must have
abbrev pub right_of : Infix → ℕ
right_of (arithmetic o) = level_of o + 1
right_of (comparison o) = 4
right_of both = 2
right_of either = 1

-- the level of the node of an operator with this beginning: `not in`, `is None` and `is not None` are comparisons
abbrev pub own_of_link : Link → ℕ
own_of_link (linking op) = own_of op
own_of_link denying = 3
own_of_link identifying = 3

-- the level that the operand before an operator with this beginning must have
abbrev pub left_of_link : Link → ℕ
left_of_link (linking op) = left_of op
left_of_link denying = 4
left_of_link identifying = 4

-- the level of the node that a prefix makes, and of its operand
abbrev pub prefix_level : Prefix → ℕ
prefix_level minus = 6
prefix_level denial = 2

-- the level that an operand on this stack must have
abbrev pub needed_level : Stack → ℕ
needed_level (joining op l o s) = right_of op
needed_level (applying x t s) = prefix_level x
needed_level _ = 0

-- the tightness with which a token binds to the operand before it: one more than the level that the operand must have,
-- 0 if the token ends the expression
abbrev pub follow_tightness : Follow → ℕ
follow_tightness (link l) = left_of_link l + 1
follow_tightness a_dot = 8
follow_tightness calls = 8
follow_tightness indexes = 8
follow_tightness (ends e) = 0

-- the tightness with which a token of this kind binds to the operand before it
abbrev pub tightness : TokenKind → ℕ
tightness k = follow_tightness (follow_of k)

-- the next token, if any, binds no tighter than this
abbrev pub Stops : ℕ → List Lexeme → Type 0
Stops level [] = Unit {0}
Stops level (t ∷ ts) = tightness t.kind ≤ level

-- ---- parts

-- the part with this node, which these tokens spell without parentheses
abbrev pub bare_part : (Place → Expr) → List Lexeme → Part
bare_part make ts = record { tree = make (span ts); tokens = ts; plain = true }

-- the node that an operator makes of its two operands, at this place
abbrev pub infix_tree : Infix → Expr → Expr → Place → Expr
infix_tree (arithmetic o) l r p = binary p o l r
infix_tree (comparison o) l r p = compare p o l r
infix_tree both l r p = conjunction p l r
infix_tree either l r p = disjunction p l r

-- the node that a unary minus or a `not` makes of its operand, at this place
abbrev pub prefix_tree : Prefix → Expr → Place → Expr
prefix_tree minus e p = negative p e
prefix_tree denial e p = negation p e

-- the part that two operands make with the tokens of the operator between them
abbrev pub joined : Infix → Part → List Lexeme → Part → Part
joined op l o r = bare_part (infix_tree op l.tree r.tree) (l.tokens ++ (o ++ r.tokens))

-- the part that an operand makes with the tokens of the prefix before it
abbrev pub applied : Prefix → List Lexeme → Part → Part
applied x o p = bare_part (prefix_tree x p.tree) (o ++ p.tokens)

-- the part that is a single name
abbrev pub name_part : Lexeme → Part
name_part t = record { tree = name (name_of_token t); tokens = t ∷ []; plain = true }

-- the part in parentheses
abbrev pub grouped : List Lexeme → Part → Lexeme → Part
grouped o p t = record { tree = p.tree; tokens = o ++ (p.tokens ++ (t ∷ [])); plain = false }

-- the tuple, the list, or the call without arguments by name that these items make, at this place
abbrev pub head_tree : BracketPurpose → Exprs → Place → Expr
head_tree in_tuple xs p = tuple p xs
head_tree in_list xs p = list p xs
head_tree (in_call e) xs p = call p e xs no_keywords

-- the part that is a call with these arguments by position and by name
abbrev pub call_part : Expr → Exprs → Keywords → List Lexeme → Part
call_part e xs ks ts = bare_part (λ p. call p e xs ks) ts

-- ---- turns

-- the part and stack after the topmost open operators and prefixes of at least this level are joined with their
-- operands
abbrev pub reduce : ℕ → Part → Stack → (p : Part) × Stack
reduce level p (joining op l o s) = if nat_le level (own_of op) then reduce level (joined op l o p) s
    else (p, joining op l o s)
reduce level p (applying x t s) = if nat_le level (prefix_level x) then reduce level (applied x t p) s
    else (p, applying x t s)
reduce level p (whole c) = (p, whole c)
reduce level p (grouping t s) = (p, grouping t s)
reduce level p (listing h xs ts s) = (p, listing h xs ts s)
reduce level p (indexing e ts s) = (p, indexing e ts s)
reduce level p (naming e xs ks n ts s) = (p, naming e xs ks n ts s)
reduce level p (keying es ts s) = (p, keying es ts s)
reduce level p (valuing es k ts s) = (p, valuing es k ts s)

-- the turn where an operand is due: a single token, an opening bracket, a `-`, or a `not` unless an open operator binds
-- tighter
abbrev pub operand_turn : Stack → Lexeme → Start → Transition
operand_turn s t a_name = go (have 7 (name_part t) s)
operand_turn s t a_number = go (have 7 (bare_part (λ p. number p (digits_of t.text)) (t ∷ [])) s)
operand_turn s t a_string = go (have 7 (bare_part (λ p. text p (characters_of t.text)) (t ∷ [])) s)
operand_turn s t (a_truth b) = go (have 7 (bare_part (λ p. truth p b) (t ∷ [])) s)
operand_turn s t a_none = go (have 7 (bare_part nothing (t ∷ [])) s)
operand_turn s t opens_parenthesis = go (group_due (t ∷ []) s)
operand_turn s t opens_bracket = go (item_due in_list no_exprs (t ∷ []) s)
operand_turn s t opens_brace = go (key_due no_entries (t ∷ []) s)
operand_turn s t a_minus = go (operand (applying minus (t ∷ []) s))
operand_turn s t a_not = on (nat_le (needed_level s) 2) (operand (applying denial (t ∷ []) s)) stuck
operand_turn s t no_start = stuck

-- the bracket that closes the items: `]` for a list, `)` for a tuple or a call
abbrev pub closer : BracketPurpose → TokenKind
closer in_list = kind.Operator sign.RightBracket
closer in_tuple = kind.Operator sign.RightParenthesis
closer (in_call e) = kind.Operator sign.RightParenthesis

-- the turn after `(` at the start of an operand: the `)` of the empty tuple, or the first token of an expression
abbrev pub group_turn : List Lexeme → Stack → Lexeme → TokenKind → Transition
group_turn o s t k = on (same_kind k (kind.Operator sign.RightParenthesis))
    (have 7 (bare_part (λ p. tuple p no_exprs) (o ++ (t ∷ []))) s)
    (operand_turn (grouping o s) t (operand_start k))

-- the turn where an item is due: its first token, or the bracket that closes the items
abbrev pub item_turn : BracketPurpose → Exprs → List Lexeme → Stack → Lexeme → TokenKind → Transition
item_turn h xs ts s t k = on (same_kind k (closer h)) (have 7 (bare_part (head_tree h xs) (ts ++ (t ∷ []))) s)
    (operand_turn (listing h xs ts s) t (operand_start k))

-- the turn where only an argument by name is due: its name, or the `)` of the call
abbrev pub keyword_turn : Expr → Exprs → Keywords → List Lexeme → Stack → Lexeme → TokenKind → Transition
keyword_turn e xs ks ts s t k = on (same_kind k kind.Name) (keyword_named e xs ks (name_of_token t) (ts ++ (t ∷ [])) s)
    (on (same_kind k (kind.Operator sign.RightParenthesis)) (have 7 (call_part e xs ks (ts ++ (t ∷ []))) s) stuck)

-- the turn after the name of an argument, where only `=` may follow
abbrev pub named_turn : Expr → Exprs → Keywords → Name → List Lexeme → Stack → Lexeme → TokenKind → Transition
named_turn e xs ks n ts s t k =
    on (same_kind k (kind.Operator sign.Equal)) (operand (naming e xs ks n (ts ++ (t ∷ [])) s)) stuck

-- the turn where a key is due: its first token, or the `}` of the dict
abbrev pub key_turn : Entries → List Lexeme → Stack → Lexeme → TokenKind → Transition
key_turn es ts s t k = on (same_kind k (kind.Operator sign.RightBrace))
    (have 7 (bare_part (λ p. dict p es) (ts ++ (t ∷ []))) s)
    (operand_turn (keying es ts s) t (operand_start k))

-- the turn after a dot, where only the name of an attribute may follow
abbrev pub dotted_turn : Part → List Lexeme → Stack → Lexeme → TokenKind → Transition
dotted_turn p d s t k = on (same_kind k kind.Name)
    (have 7 (bare_part (λ q. attribute q p.tree (name_of_token t)) (p.tokens ++ (d ++ (t ∷ [])))) s) stuck

-- the turn after `e not`, where only `in` may follow
abbrev pub denied_turn : Part → List Lexeme → Stack → Lexeme → TokenKind → Transition
denied_turn p d s t k = on (same_kind k (kind.Keyword word.In))
    (operand (joining (comparison cmp.NotIn) p (d ++ (t ∷ [])) s)) stuck

-- the turn after `e is`: the `None` of `is None`, or the `not` of `is not None`
abbrev pub identified_turn : Part → List Lexeme → Stack → Lexeme → TokenKind → Transition
identified_turn p d s t k =
    on (same_kind k (kind.Keyword word.None)) (have 3 (bare_part (λ q. is_none q p.tree) (p.tokens ++ (d ++ (t ∷ [])))) s)
    (on (same_kind k (kind.Keyword word.Not)) (unidentified p (d ++ (t ∷ [])) s) stuck)

-- the turn after `e is not`, where only `None` may follow
abbrev pub unidentified_turn : Part → List Lexeme → Stack → Lexeme → TokenKind → Transition
unidentified_turn p d s t k =
    on (same_kind k (kind.Keyword word.None))
    (have 3 (bare_part (λ q. is_not_none q p.tree) (p.tokens ++ (d ++ (t ∷ [])))) s) stuck

-- ---- the end of an expression in brackets

-- the turn after the first expression in parentheses: the `)`, or the comma that makes them a tuple
abbrev pub close_group : List Lexeme → Stack → Part → Lexeme → Ending → Transition
close_group o s p t closes_parenthesis = go (have 7 (grouped o p t) s)
close_group o s p t a_comma = go (item_due in_tuple (more_exprs p.tree no_exprs) (o ++ (p.tokens ++ (t ∷ []))) s)
close_group o s p t _ = stuck

-- the turn at the `=` of the first argument by name in a call: its value is due, unless no name is before the `=`
abbrev pub begin_keyword : Option Name → Expr → Exprs → List Lexeme → Stack → Transition
begin_keyword (Some n) e xs ts s = go (operand (naming e xs no_keywords n ts s))
begin_keyword None e xs ts s = stuck

-- the turn after an item: a comma, the bracket that closes the items, or in a call the `=` of the first argument by
-- name
abbrev pub close_item : BracketPurpose → Exprs → List Lexeme → Stack → Part → Lexeme → Ending → Transition
close_item h xs ts s p t a_comma = go (item_due h (add_expr xs p.tree) (ts ++ (p.tokens ++ (t ∷ []))) s)
close_item in_list xs ts s p t closes_bracket =
    go (have 7 (bare_part (head_tree in_list (add_expr xs p.tree)) (ts ++ (p.tokens ++ (t ∷ [])))) s)
close_item in_tuple xs ts s p t closes_parenthesis =
    go (have 7 (bare_part (head_tree in_tuple (add_expr xs p.tree)) (ts ++ (p.tokens ++ (t ∷ [])))) s)
close_item (in_call e) xs ts s p t closes_parenthesis =
    go (have 7 (bare_part (head_tree (in_call e) (add_expr xs p.tree)) (ts ++ (p.tokens ++ (t ∷ [])))) s)
close_item (in_call e) xs ts s p t an_equal =
    begin_keyword (if_plain p.plain (name_of_tree p.tree)) e xs (ts ++ (p.tokens ++ (t ∷ []))) s
close_item h xs ts s p t _ = stuck

-- the turn after the key of `e[i]`, where only `]` may follow
abbrev pub close_index : Expr → List Lexeme → Stack → Part → Lexeme → Ending → Transition
close_index e ts s p t closes_bracket = go (have 7 (bare_part (λ q. index q e p.tree) (ts ++ (p.tokens ++ (t ∷ [])))) s)
close_index e ts s p t _ = stuck

-- the turn after the value of an argument by name: a comma, or the `)` of the call
abbrev pub close_keyword : Expr → Exprs → Keywords → Name → List Lexeme → Stack → Part → Lexeme → Ending → Transition
close_keyword e xs ks n ts s p t a_comma =
    go (keyword_due e xs (add_keyword ks n p.tree) (ts ++ (p.tokens ++ (t ∷ []))) s)
close_keyword e xs ks n ts s p t closes_parenthesis =
    go (have 7 (call_part e xs (add_keyword ks n p.tree) (ts ++ (p.tokens ++ (t ∷ [])))) s)
close_keyword e xs ks n ts s p t _ = stuck

-- the turn after the key of an entry, where only `:` may follow
abbrev pub close_key : Entries → List Lexeme → Stack → Part → Lexeme → Ending → Transition
close_key es ts s p t a_colon = go (operand (valuing es p.tree (ts ++ (p.tokens ++ (t ∷ []))) s))
close_key es ts s p t _ = stuck

-- the turn after the value of an entry: a comma, or the `}` of the dict
abbrev pub close_value : Entries → Expr → List Lexeme → Stack → Part → Lexeme → Ending → Transition
close_value es key ts s p t a_comma = go (key_due (add_entry es key p.tree) (ts ++ (p.tokens ++ (t ∷ []))) s)
close_value es key ts s p t closes_brace =
    go (have 7 (bare_part (λ q. dict q (add_entry es key p.tree)) (ts ++ (p.tokens ++ (t ∷ [])))) s)
close_value es key ts s p t _ = stuck

-- the turn at the end of an expression, with no operator and no prefix open
abbrev pub close : Part → Stack → Lexeme → Ending → Transition
close p (whole c) t e = finish c p e
close p (grouping o s) t e = close_group o s p t e
close p (listing h xs ts s) t e = close_item h xs ts s p t e
close p (indexing x ts s) t e = close_index x ts s p t e
close p (naming f xs ks n ts s) t e = close_keyword f xs ks n ts s p t e
close p (keying es ts s) t e = close_key es ts s p t e
close p (valuing es key ts s) t e = close_value es key ts s p t e
close p (joining op l o s) t e = stuck
close p (applying x u s) t e = stuck

-- ---- after an operand

-- the state after a token that begins an operator: its right operand is due, or the rest of `not in` or `is None`
abbrev pub linked : Link → Lexeme → Part → Stack → State
linked (linking op) t p s = operand (joining op p (t ∷ []) s)
linked denying t p s = denied p (t ∷ []) s
linked identifying t p s = identified p (t ∷ []) s

-- the turn at the beginning of an operator, whose node must have the level that the stack needs
abbrev pub after_link : Link → Lexeme → (p : Part) × Stack → Transition
after_link l t r = on (nat_le (needed_level r.1) (own_of_link l)) (linked l t r.0 r.1) stuck

-- the turn, if the operand has at least the level that the token needs
abbrev pub if_tight : ℕ → ℕ → Transition → Transition
if_tight low level turn = if nat_le low level then turn else stuck

-- the turn after an operand of this level: an operator, a dot, an opening bracket, or the end of the expression
abbrev pub have_turn : ℕ → Part → Stack → Lexeme → Follow → Transition
have_turn level p s t (link l) = if_tight (left_of_link l) level (after_link l t (reduce (left_of_link l) p s))
have_turn level p s t a_dot = if_tight 7 level (go (dotted p (t ∷ []) s))
have_turn level p s t calls = if_tight 7 level (go (item_due (in_call p.tree) no_exprs (p.tokens ++ (t ∷ [])) s))
have_turn level p s t indexes = if_tight 7 level (go (operand (indexing p.tree (p.tokens ++ (t ∷ [])) s)))
have_turn level p s t (ends e) = let r = reduce 0 p s in close r.0 r.1 t e
