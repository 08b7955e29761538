-- Every state can be finished.
use Rattle.std.proofs.Common.{◌≡◌, ℕ, ◌+◌, ◌≤◌, true, List, [], ◌∷◌, refl, ap, ◌∙◌, arith, codes, eq-eqb}
use Rattle.std.proofs.lemmas.Slice.Eq.{bytes_eq-Decides}
use Rattle.pc_source.specs.declared.place.Place.{Place}
use Rattle.pc_token.specs.declared.token.TokenKind.{TokenKind}
use Rattle.pc_token.specs.declared.token.TokenKind.TheVariants as kind
use Rattle.pc_token.specs.declared.token.Keyword.TheVariants as word
use Rattle.pc_token.specs.declared.token.Operator.TheVariants as sign
use Rattle.pc_token.specs.Lexeme.{Lexeme}
use Rattle.pc_tree.specs.Tree.{Name, Expr, Ann, Anns, Stmt, pass, Stmts, no_stmts, more_stmts, Param, Member, Module}
use Rattle.pc_grammar.specs.Grammar.{no_place}
use Rattle.pc_grammar.specs.Machine.Kinds.{Fixed, a_kind, a_form, is_fixed, kind_number}
use Rattle.pc_grammar.specs.Machine.States.{HeaderStage, Top, ClassStart, FunctionOwner, of_module, of_class, DefStart, DefHead}
use Rattle.pc_grammar.specs.Machine.States.{def_body, Nest, while_body, for_body, branch_body, else_body, Block, nested}
use Rattle.pc_grammar.specs.Machine.States.{Site, Begun, assigned, annotated_value, returned, asserted, asserted_with}
use Rattle.pc_grammar.specs.Machine.States.{looping, iterating, branching, ExpressionPosition, in_line, in_statement}
use Rattle.pc_grammar.specs.Machine.States.{in_constant, of_constant, of_field, of_param, of_return, of_local}
use Rattle.pc_grammar.specs.Machine.States.{LiteralContext, default_of_param, default_of_field, Part, BracketPurpose, in_tuple}
use Rattle.pc_grammar.specs.Machine.States.{in_list, in_call, Stack, whole, joining, applying, grouping, listing}
use Rattle.pc_grammar.specs.Machine.States.{indexing}
use Rattle.pc_grammar.specs.Machine.States.{naming, keying, valuing, AnnStack, ann_whole, ann_inside, State, fixed}
use Rattle.pc_grammar.specs.Machine.States.{items}
use Rattle.pc_grammar.specs.Machine.States.{importing, item_named, decorator_due, class_due, class_named, base_due}
use Rattle.pc_grammar.specs.Machine.States.{members, def_due, self_read, param_due, param_named, params_read}
use Rattle.pc_grammar.specs.Machine.States.{literal_due}
use Rattle.pc_grammar.specs.Machine.States.{minus_read, literal_read, stmts, return_due, target_due, after_branch}
use Rattle.pc_grammar.specs.Machine.States.{part_due, part_named, part_read, argument_due, empty_opened, empty_closed}
use Rattle.pc_grammar.specs.Machine.States.{operand, have, denied, identified, unidentified, dotted, group_due}
use Rattle.pc_grammar.specs.Machine.States.{item_due}
use Rattle.pc_grammar.specs.Machine.States.{keyword_due, keyword_named, key_due, ended, stuck, go, on}
use Rattle.pc_grammar.specs.Machine.Finishing.{add_stmt, suite_of, after_stmt, after_suite, after_def, after_class}
use Rattle.pc_grammar.specs.Machine.Finishing.{after_nested}
use Rattle.pc_grammar.specs.Machine.Expressions.{own_of, right_of, prefix_level, tightness, joined, applied}
use Rattle.pc_grammar.specs.Machine.Lines.{params_of}
use Rattle.pc_grammar.specs.Machine.{transition, at, reads, read_tokens}
use Rattle.pc_grammar.proofs.Runs.{run_go, run_none, have_level, join_run, apply_run}

-- a token of this kind
abbrev token : TokenKind → Lexeme
token k = record { kind = k; place = no_place; text = []; form = [] }

-- a name of this form
abbrev name_token : List ℕ → Lexeme
name_token form = record { kind = kind.Name; place = no_place; text = form; form = form }

-- Some tokens finish a module from here.
abbrev pub CanEnd : State → Type 0
CanEnd s = (more : List Lexeme) × (m : Module) × (read_tokens (at s) more ≡ reads m)

via : (s next : State) (t : Lexeme) → transition s t t.kind ≡ go next → CanEnd next → CanEnd s
via s next t e (more, m, h) = (t ∷ more, m, run_go s next t more e ∙ h)

-- ---- fixed words

abbrev word_token : Fixed → Lexeme
word_token (a_kind k) = token k
word_token (a_form f) = name_token f

word_fits : (w : Fixed) → is_fixed w (word_token w) (word_token w).kind ≡ true
word_fits (a_kind k) = eq-eqb (kind_number k) (kind_number k) refl
word_fits (a_form f) = (bytes_eq-Decides f f).1 refl

fixed_end : (w : Fixed) (ws : List Fixed) (next : State) → CanEnd next → CanEnd (fixed w ws next)
fixed_end w [] next h = via (fixed w [] next) next (word_token w) (ap (λ b. on b next stuck) (word_fits w)) h
fixed_end w (v ∷ vs) next h = via (fixed w (v ∷ vs) next) (fixed v vs next) (word_token w)
    (ap (λ b. on b (fixed v vs next) stuck) (word_fits w)) (fixed_end v vs next h)

-- ---- the module

ended_end : (m : Module) → CanEnd (ended m)
ended_end m = ([], m, run_none (ended m))

items_end : (stage : HeaderStage) (top : Top) → CanEnd (items stage top)
items_end stage top = via _ _ (name_token (codes "main")) refl
    (via _ _ (token (kind.Operator sign.LeftParenthesis)) refl (fixed_end _ _ _ (ended_end _)))

class_end : (c : ClassStart) (ms : List Member) → CanEnd (after_class c ms)
class_end c ms = items_end _ _

members_can : (c : ClassStart) (ms : List Member) → CanEnd (members c ms)
members_can c [] = via _ _ (token (kind.Keyword word.Pass)) refl (fixed_end _ _ _ (class_end c []))
members_can c (m ∷ ms) = via _ _ (token kind.Dedent) refl (class_end c (m ∷ ms))

def_end : (owner : FunctionOwner) (first : Place) (h : DefHead) (body : Stmts)
    → CanEnd (after_def owner first (record {
      name = h.start.name;
      params = h.params;
      returns = h.returns;
      body =
          body;
    }))
def_end (of_module top) first h body = items_end _ _
def_end (of_class c ms) first h body = members_can c _

-- ---- statements

-- a suite that has a statement may end
closing : (b : Block) (done : Stmts) (s : Stmt) → ((ss : Stmts) → CanEnd (after_suite b ss))
    → CanEnd (stmts (add_stmt done s) b)
closing b no_stmts s f = via _ _ (token kind.Dedent) refl (f _)
closing b (more_stmts x xs) s f = via _ _ (token kind.Dedent) refl (f _)

passing : (b : Block) (done : Stmts) → ((ss : Stmts) → CanEnd (after_suite b ss)) → CanEnd (stmts done b)
passing b done f = via _ _ (token (kind.Keyword word.Pass)) refl (fixed_end _ _ _ (closing b done (pass no_place) f))

mutual_end : (first : Place) (of : Nest) (done : Stmts) (outer : Block) → ((d : Stmts) → CanEnd (stmts d outer))
    → (f : (ss : Stmts) → CanEnd (after_suite outer ss)) → (ss : Stmts)
    → CanEnd (after_nested of ss (record { first = first; done = done; block = outer }))
mutual_end first (while_body c) done outer g f ss = g _
mutual_end first (for_body n e) done outer g f ss = g _
mutual_end first (branch_body bs c) done outer g f ss = via _ _ (token (kind.Keyword word.Pass)) refl
    (fixed_end _ _ _ (closing outer _ (pass no_place) f))
mutual_end first (else_body bs) done outer g f ss = g _

suite_end : (b : Block) (ss : Stmts) → CanEnd (after_suite b ss)
suite_end (def_body h) ss = def_end h.start.owner h.start.first h ss
suite_end (nested first of done outer) ss = mutual_end first of done outer
    (λ d. passing outer d (λ xs. suite_end outer xs)) (λ xs. suite_end outer xs) ss

stmts_end : (done : Stmts) (b : Block) → CanEnd (stmts done b)
stmts_end done b = passing b done (λ ss. suite_end b ss)

suite_begun : (b : Block) → CanEnd (suite_of b)
suite_begun b = fixed_end _ _ _ (stmts_end no_stmts b)

stmt_end : (site : Site) (s : Stmt) → CanEnd (after_stmt site s)
stmt_end site s = stmts_end _ site.block

-- ---- whole expressions

-- a token that goes on with no operand, and what follows
abbrev HaveEnds : Stack → Type 0
HaveEnds s = (level : ℕ) (p : Part) → (t : Lexeme) × (more : List Lexeme) × (m : Module) × (tightness t.kind ≡ 0)
    × (read_tokens (at (have level p s)) (t ∷ more) ≡ reads m)

ending : (s : Stack) (level : ℕ) (p : Part) (t : Lexeme) (next : State) → tightness t.kind ≡ 0
    → transition (have level p s) t t.kind ≡ go next → CanEnd next
    → (t : Lexeme) × (more : List Lexeme) × (m : Module) × (tightness t.kind ≡ 0)
    × (read_tokens (at (have level p s)) (t ∷ more) ≡ reads m)
ending s level p t next loose e (more, m, h) = (t, more, m, loose, run_go (have level p s) next t more e ∙ h)

begun_ends : (begun : Begun) (site : Site) → HaveEnds (whole (in_statement begun site))
begun_ends (assigned target) site level p = ending _ level p (token kind.Newline) _ refl refl (stmt_end site _)
begun_ends (annotated_value n a) site level p = ending _ level p (token kind.Newline) _ refl refl (stmt_end site _)
begun_ends returned site level p = ending _ level p (token kind.Newline) _ refl refl (stmt_end site _)
begun_ends asserted site level p = ending _ level p (token kind.Newline) _ refl refl (stmt_end site _)
begun_ends (asserted_with c) site level p = ending _ level p (token kind.Newline) _ refl refl (stmt_end site _)
begun_ends looping site level p = ending _ level p (token (kind.Operator sign.Colon)) _ refl refl (suite_begun _)
begun_ends (iterating n) site level p = ending _ level p (token (kind.Operator sign.Colon)) _ refl refl (suite_begun _)
begun_ends (branching bs) site level p = ending _ level p (token (kind.Operator sign.Colon)) _ refl refl (suite_begun _)

context_ends : (c : ExpressionPosition) → HaveEnds (whole c)
context_ends (in_line done b) level p = ending _ level p (token kind.Newline) _ refl refl (stmts_end _ b)
context_ends (in_statement begun site) level p = begun_ends begun site level p
context_ends (in_constant n a top) level p = ending _ level p (token kind.Newline) _ refl refl (items_end _ _)

have_can : (s : Stack) → HaveEnds s → (level : ℕ) (p : Part) → CanEnd (have level p s)
have_can s f level p = let r = f level p in (r.0 ∷ r.1, r.2, r.4)

name_can : (s : Stack) → HaveEnds s → CanEnd (operand s)
name_can s f = via _ _ (token kind.Name) refl (have_can s f 7 _)

loose : (t : Lexeme) (more : List Lexeme) (level : ℕ) → tightness t.kind ≡ 0 → tightness t.kind ≤ level
loose t more level e = omega arith

listing_ends : (h : BracketPurpose) (xs : _) (us : List Lexeme) (s : Stack) → HaveEnds s → HaveEnds (listing h xs us s)
listing_ends in_tuple xs us s f level p = ending _ level p (token (kind.Operator sign.RightParenthesis)) _ refl refl
    (have_can s f 7 _)
listing_ends in_list xs us s f level p = ending _ level p (token (kind.Operator sign.RightBracket)) _ refl refl
    (have_can s f 7 _)
listing_ends (in_call e) xs us s f level p = ending _ level p (token (kind.Operator sign.RightParenthesis)) _ refl refl
    (have_can s f 7 _)

valuing_ends : (es : _) (k : Expr) (us : List Lexeme) (s : Stack) → HaveEnds s → HaveEnds (valuing es k us s)
valuing_ends es k us s f level p = ending _ level p (token (kind.Operator sign.RightBrace)) _ refl refl
    (have_can s f 7 _)

have_ends : (s : Stack) → HaveEnds s
have_ends (whole c) level p = context_ends c level p
have_ends (joining op l o s) level p = let r = have_ends s (own_of op) (joined op l o p) in (
  r.0,
  r.1,
  r.2,
  r.3,
  have_level level (right_of op) p (joining op l o s) (r.0 ∷ r.1) (loose r.0 r.1 (level + 1) r.3)
      (loose r.0 r.1 (right_of op + 1) r.3)
      ∙ join_run op l o p s (r.0 ∷ r.1) (loose r.0 r.1 (own_of op + 1) r.3) ∙ r.4,
)
have_ends (applying x o s) level p = let r = have_ends s (prefix_level x) (applied x o p) in (
  r.0,
  r.1,
  r.2,
  r.3,
  have_level level (prefix_level x) p (applying x o s) (r.0 ∷ r.1) (loose r.0 r.1 (level + 1) r.3)
      (loose r.0 r.1 (prefix_level x + 1) r.3)
      ∙ apply_run x o p s (r.0 ∷ r.1) (loose r.0 r.1 (prefix_level x + 1) r.3) ∙ r.4,
)
have_ends (grouping o s) level p = ending _ level p (token (kind.Operator sign.RightParenthesis)) _ refl refl
    (have_can s (have_ends s) 7 _)
have_ends (listing h xs us s) level p = listing_ends h xs us s (have_ends s) level p
have_ends (indexing e us s) level p = ending _ level p (token (kind.Operator sign.RightBracket)) _ refl refl
    (have_can s (have_ends s) 7 _)
have_ends (naming e xs ks n us s) level p = ending _ level p (token (kind.Operator sign.RightParenthesis)) _ refl refl
    (have_can s (have_ends s) 7 _)
have_ends (keying es us s) level p = ending _ level p (token (kind.Operator sign.Colon)) _ refl refl
    (name_can _ (valuing_ends es p.tree _ s (have_ends s)))
have_ends (valuing es k us s) level p = valuing_ends es k us s (have_ends s) level p

operand_end : (s : Stack) → CanEnd (operand s)
operand_end s = name_can s (have_ends s)

have_end : (level : ℕ) (p : Part) (s : Stack) → CanEnd (have level p s)
have_end level p s = have_can s (have_ends s) level p

item_end : (h : BracketPurpose) (xs : _) (us : List Lexeme) (s : Stack) → CanEnd (item_due h xs us s)
item_end in_tuple xs us s = via _ _ (token (kind.Operator sign.RightParenthesis)) refl (have_end 7 _ s)
item_end in_list xs us s = via _ _ (token (kind.Operator sign.RightBracket)) refl (have_end 7 _ s)
item_end (in_call e) xs us s = via _ _ (token (kind.Operator sign.RightParenthesis)) refl (have_end 7 _ s)

-- ---- functions, annotations and literals

params_end : (d : DefStart) (ps : List Param) → CanEnd (params_read d ps)
params_end d ps = via _ _ (token (kind.Operator sign.Colon)) refl (suite_begun _)

part_end : (s : AnnStack) (a : Ann) (us : List Lexeme) (parts : Anns) (before : List Lexeme)
    → CanEnd (part_read a us parts before s)
part_end (ann_whole (of_constant n top)) a us parts before = via _ _ (token (kind.Operator sign.Equal)) refl
    (operand_end _)
part_end (ann_whole (of_field c ms n)) a us parts before = via _ _ (token kind.Newline) refl (members_can c _)
part_end (ann_whole (of_param d ps n)) a us parts before = via _ _ (token (kind.Operator sign.RightParenthesis)) refl
    (params_end d _)
part_end (ann_whole (of_return d ps)) a us parts before = via _ _ (token (kind.Operator sign.Colon)) refl
    (suite_begun _)
part_end (ann_whole (of_local n site)) a us parts before = via _ _ (token kind.Newline) refl (stmt_end site _)
part_end (ann_inside head done vs qs before' s) a us parts before = via _ _ (token (kind.Operator sign.RightBracket))
    refl (part_end s _ _ qs before')

argument_end : (head : Name) (us : List Lexeme) (parts : Anns) (before : List Lexeme) (s : AnnStack)
    → CanEnd (argument_due head us parts before s)
argument_end head us parts before s = via _ _ (token (kind.Operator sign.LeftParenthesis)) refl
    (via _ _ (token (kind.Operator sign.RightParenthesis)) refl
    (via _ _ (token (kind.Operator sign.RightBracket)) refl (part_end s _ _ parts before)))

part_due_end : (parts : Anns) (before : List Lexeme) (s : AnnStack) → CanEnd (part_due parts before s)
part_due_end parts before s = via _ _ (token (kind.Keyword word.None)) refl (part_end s _ _ parts before)

literal_end : (c : LiteralContext) (l : _) → CanEnd (literal_read c l)
literal_end (default_of_param d ps n a) l = via _ _ (token (kind.Operator sign.RightParenthesis)) refl (params_end d _)
literal_end (default_of_field c ms n a) l = via _ _ (token kind.Newline) refl (members_can c _)

params_of_end : (owner : FunctionOwner) (d : DefStart) → CanEnd (params_of owner d)
params_of_end (of_module top) d = fixed_end _ _ _ (via _ _ (token (kind.Operator sign.RightParenthesis)) refl
    (params_end d _))
params_of_end (of_class c ms) d = fixed_end _ _ _ (via _ _ (token (kind.Operator sign.RightParenthesis)) refl
    (params_end d _))

-- ---- every state

pub can_end : (s : State) → CanEnd s
can_end (fixed w ws next) = fixed_end w ws next (can_end next)
can_end (items stage top) = items_end stage top
can_end (importing stage top) = via _ _ (name_token (codes "typing")) refl (fixed_end _ _ _ (items_end _ _))
can_end (item_named n top) = via _ _ (token (kind.Operator sign.Equal)) refl (operand_end _)
can_end (decorator_due first top) = via _ _ (name_token (codes "dataclass")) refl
    (fixed_end _ _ _ (via _ _ (token kind.Name) refl (via _ _ (token (kind.Operator sign.Colon)) refl
    (fixed_end _ _ _ (members_can _ [])))))
can_end (class_due first decorator top) = via _ _ (token kind.Name) refl
    (via _ _ (token (kind.Operator sign.Colon)) refl (fixed_end _ _ _ (members_can _ [])))
can_end (class_named c) = via _ _ (token (kind.Operator sign.Colon)) refl (fixed_end _ _ _ (members_can _ []))
can_end (base_due c) = via _ _ (token kind.Name) refl (fixed_end _ _ _ (members_can _ []))
can_end (members c ms) = members_can c ms
can_end (def_due owner first) = via _ _ (token kind.Name) refl (params_of_end owner _)
can_end (self_read d) = via _ _ (token (kind.Operator sign.RightParenthesis)) refl (params_end d _)
can_end (param_due d ps) = via _ _ (token (kind.Operator sign.RightParenthesis)) refl (params_end d _)
can_end (param_named d ps n) = via _ _ (token (kind.Operator sign.RightParenthesis)) refl (params_end d _)
can_end (params_read d ps) = params_end d ps
can_end (literal_due c) = via _ _ (token (kind.Keyword word.None)) refl (literal_end c _)
can_end (minus_read c us) = via _ _ (token kind.Int) refl (literal_end c _)
can_end (literal_read c l) = literal_end c l
can_end (stmts done b) = stmts_end done b
can_end (return_due site) = via _ _ (token kind.Newline) refl (stmt_end site _)
can_end (target_due site) = via _ _ (token kind.Name) refl (fixed_end _ _ _ (operand_end _))
can_end (after_branch bs site) = via _ _ (token (kind.Keyword word.Pass)) refl (fixed_end _ _ _ (stmts_end _ _))
can_end (part_due parts before s) = part_due_end parts before s
can_end (part_named n us parts before s) = via _ _ (token (kind.Operator sign.LeftBracket)) refl
    (argument_end n _ parts before s)
can_end (part_read a us parts before s) = part_end s a us parts before
can_end (argument_due head us parts before s) = argument_end head us parts before s
can_end (empty_opened head us parts before s) = via _ _ (token (kind.Operator sign.RightParenthesis)) refl
    (via _ _ (token (kind.Operator sign.RightBracket)) refl (part_end s _ _ parts before))
can_end (empty_closed head us parts before s) = via _ _ (token (kind.Operator sign.RightBracket)) refl
    (part_end s _ _ parts before)
can_end (operand s) = operand_end s
can_end (have level p s) = have_end level p s
can_end (denied p us s) = via _ _ (token (kind.Keyword word.In)) refl (operand_end _)
can_end (identified p us s) = via _ _ (token (kind.Keyword word.None)) refl (have_end 3 _ s)
can_end (unidentified p us s) = via _ _ (token (kind.Keyword word.None)) refl (have_end 3 _ s)
can_end (dotted p us s) = via _ _ (token kind.Name) refl (have_end 7 _ s)
can_end (group_due us s) = via _ _ (token (kind.Operator sign.RightParenthesis)) refl (have_end 7 _ s)
can_end (item_due h xs us s) = item_end h xs us s
can_end (keyword_due e xs ks us s) = via _ _ (token (kind.Operator sign.RightParenthesis)) refl (have_end 7 _ s)
can_end (keyword_named e xs ks n us s) = via _ _ (token (kind.Operator sign.Equal)) refl (operand_end _)
can_end (key_due es us s) = via _ _ (token (kind.Operator sign.RightBrace)) refl (have_end 7 _ s)
can_end (ended m) = ended_end m
