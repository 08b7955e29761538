-- Turns at the beginnings and the ends of statements and suites.
use Rattle.std.proofs.Common.{◌≡◌, ℕ, inl, inr, Bool, true, false, None, refl, arith, ap, sym, ◌∙◌}
use Rattle.pc_token.specs.declared.token.TokenKind.{TokenKind}
use Rattle.pc_token.specs.declared.token.TokenKind.TheVariants as kind
use Rattle.pc_token.specs.declared.token.Keyword.TheVariants as word
use Rattle.pc_token.specs.declared.token.Operator.TheVariants as sign
use Rattle.pc_token.specs.Lexeme.{Lexeme}
use Rattle.pc_tree.specs.Tree.{Expr, Stmt, asserts, evaluates, Stmts, no_stmts, more_stmts}
use Rattle.pc_grammar.specs.Machine.Kinds.{same_kind, leads_out, lead_of, Follow, link, a_dot, calls, indexes, ends}
use Rattle.pc_grammar.specs.Machine.Kinds.{no_ending}
use Rattle.pc_grammar.specs.Machine.States.{Part, Block, Site, assigned, annotated_value, returned, asserted}
use Rattle.pc_grammar.specs.Machine.States.{asserted_with, looping, iterating, branching, ExpressionPosition, in_line}
use Rattle.pc_grammar.specs.Machine.States.{in_statement, in_constant, whole, State, Transition, stuck, go, on}
use Rattle.pc_grammar.specs.Machine.Expressions.{left_of_link, have_turn}
use Rattle.pc_grammar.specs.Machine.Finishing.{add_stmt, after_stmt, after_suite, at_line_end, at_colon}
use Rattle.pc_grammar.specs.Machine.Finishing.{finish_condition}
use Rattle.pc_grammar.specs.Machine.Finishing.{finish_line, finish}
use Rattle.pc_grammar.specs.Machine.Lines.{end_suite}
use Rattle.pc_reader.specs.Internal.Expressions.{Over, Undotted}
use Rattle.pc_reader.proofs.Frames.{loose}
use Rattle.pc_parse.specs.Internal.WholeTrees.{ending_in, ending_of}

-- ---- after a whole expression

finish_none : (c : ExpressionPosition) (p : Part) → finish c p no_ending ≡ stuck
finish_none (in_line done block) p = refl
finish_none (in_statement (assigned t) site) p = refl
finish_none (in_statement (annotated_value n a) site) p = refl
finish_none (in_statement returned site) p = refl
finish_none (in_statement asserted site) p = refl
finish_none (in_statement (asserted_with e) site) p = refl
finish_none (in_statement looping site) p = refl
finish_none (in_statement (iterating n) site) p = refl
finish_none (in_statement (branching bs) site) p = refl
finish_none (in_constant n a top) p = refl

-- a token that does not continue a whole expression finishes it
pub whole_turn : (level : ℕ) (p : Part) (c : ExpressionPosition) (t : Lexeme) (f : Follow) → Over 0 level f
    → Undotted level f → have_turn level p (whole c) t f ≡ finish c p (ending_in f)
whole_turn level p c t (link l) (inl h) u = absurd (omega arith)
whole_turn level p c t (link l) (inr h) u = loose (left_of_link l) level _ h ∙ sym (finish_none c p)
whole_turn level p c t a_dot v u = loose 7 level _ u ∙ sym (finish_none c p)
whole_turn level p c t calls v u = loose 7 level _ u ∙ sym (finish_none c p)
whole_turn level p c t indexes v u = loose 7 level _ u ∙ sym (finish_none c p)
whole_turn level p c t (ends e) v u = refl

-- ---- the end of a whole expression, by its token

pub line_end_turn : (next : State) (k : TokenKind) → at_line_end next (ending_of k) ≡ on (same_kind k kind.Newline) next
    stuck
line_end_turn next kind.Newline = refl
line_end_turn next (kind.Keyword word.In) = refl
line_end_turn next (kind.Operator sign.Plus) = refl
line_end_turn next _ = refl

pub colon_turn : (next : State) (k : TokenKind) → at_colon next (ending_of k)
    ≡ on (same_kind k (kind.Operator sign.Colon)) next stuck
colon_turn next (kind.Operator sign.Colon) = refl
colon_turn next (kind.Keyword word.In) = refl
colon_turn next _ = refl

pub condition_turn : (e : Expr) (site : Site) (k : TokenKind) → same_kind k (kind.Operator sign.Comma) ≡ false
    → finish_condition e site (ending_of k) ≡ on (same_kind k kind.Newline)
    (after_stmt site (asserts site.first e None)) stuck
condition_turn e site kind.Newline h = refl
condition_turn e site (kind.Keyword word.In) h = refl
condition_turn e site (kind.Operator sign.Comma) h = cc
condition_turn e site _ h = refl

pub line_turn : (p : Part) (site : Site) (k : TokenKind) → same_kind k (kind.Operator sign.Equal) ≡ false
    → same_kind k (kind.Operator sign.Colon) ≡ false
    → finish_line p site (ending_of k) ≡ on (same_kind k kind.Newline) (after_stmt site (evaluates site.first p.tree))
    stuck
line_turn p site kind.Newline h g = refl
line_turn p site (kind.Keyword word.In) h g = refl
line_turn p site (kind.Operator sign.Equal) h g = cc
line_turn p site (kind.Operator sign.Colon) h g = cc
line_turn p site _ h g = refl

-- ---- suites

pub out_dedent : (k : TokenKind) → lead_of k ≡ leads_out → same_kind k kind.Dedent ≡ true
out_dedent kind.Dedent h = refl
out_dedent (kind.Keyword word.Pass) h = cc
out_dedent (kind.Keyword word.Break) h = cc
out_dedent (kind.Keyword word.Continue) h = cc
out_dedent (kind.Keyword word.Return) h = cc
out_dedent (kind.Keyword word.Assert) h = cc
out_dedent (kind.Keyword word.While) h = cc
out_dedent (kind.Keyword word.For) h = cc
out_dedent (kind.Keyword word.If) h = cc
out_dedent _ h = cc

-- a suite ends after a statement
pub suite_ends : (done : Stmts) (s : Stmt) (b : Block) → end_suite (add_stmt done s) b
    ≡ go (after_suite b (add_stmt done s))
suite_ends no_stmts s b = refl
suite_ends (more_stmts x xs) s b = refl

-- a suite does not end where it has no statement yet
pub suite_stuck : (done : Stmts) (b : Block) → done ≡ no_stmts → end_suite done b ≡ stuck
suite_stuck done b h = ap (λ z. end_suite z b) h

-- where this token was seen, what follows in its place does not count
pub on_seen : (b : Bool) (next : State) (x y : Transition) → b ≡ true → on b next x ≡ on b next y
on_seen b next x y h = ap (λ z. on z next x) h ∙ sym (ap (λ z. on z next y) h)

pub on_unseen : (b : Bool) (next : State) (x : Transition) → b ≡ false → on b next x ≡ x
on_unseen b next x h = ap (λ z. on z next x) h

pub on_go : (b : Bool) (next : State) (x : Transition) → b ≡ true → on b next x ≡ go next
on_go b next x h = ap (λ z. on z next x) h
