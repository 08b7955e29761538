-- A statement that is spelled is read.
use Rattle.std.proofs.Common.{◌≡◌, ℕ, ◌+◌, ◌≤◌, false, List, [], ◌∷◌, ◌++◌, Option, Some, None, refl, ap, sym, ◌∙◌}
use Rattle.std.proofs.Common.{subst, inl, inr, append_assoc, append-nil, arith}
use Rattle.pc_source.specs.declared.place.Place.{Place}
use Rattle.pc_token.specs.declared.token.TokenKind.{TokenKind}
use Rattle.pc_token.specs.declared.token.TokenKind.TheVariants as kind
use Rattle.pc_token.specs.declared.token.Keyword.TheVariants as word
use Rattle.pc_token.specs.declared.token.Operator.TheVariants as sign
use Rattle.pc_token.specs.Lexeme.{Lexeme}
use Rattle.pc_tree.specs.Tree.{Name, Expr, name, attribute, index, Ann, no_anns, Target, to_name, to_attribute}
use Rattle.pc_tree.specs.Tree.{to_index, Stmt, pass, breaks, continues, returns, asserts, annotated, assigns, evaluates}
use Rattle.pc_tree.specs.Tree.{while_loop, for_loop, conditional, Stmts, no_stmts, more_stmts, Branches, no_branches}
use Rattle.pc_tree.specs.Tree.{more_branches}
use Rattle.pc_grammar.specs.Grammar.{Spelling, Sequence, ◌⟫◌, Begins, Just, Word, IsName, Nothing, Rest, first_place}
use Rattle.pc_grammar.specs.Grammar.{name_of_token}
use Rattle.pc_grammar.specs.Grammar.Expressions.{own_level, Spells, Expression, SpellsTarget}
use Rattle.pc_grammar.specs.Grammar.Annotations.{Annotation}
use Rattle.pc_grammar.specs.Grammar.Statements.{Suite, SpellsStmt, SpellsStmts, SpellsBranches}
use Rattle.pc_grammar.specs.Machine.Kinds.{a_kind, same_kind, operand_start, leads_other, lead_of}
use Rattle.pc_grammar.specs.Machine.States.{Block, Site, assigned, annotated_value, returned, asserted, asserted_with}
use Rattle.pc_grammar.specs.Machine.States.{looping, iterating, branching, while_body, for_body, branch_body, else_body}
use Rattle.pc_grammar.specs.Machine.States.{ExpressionPosition, in_line, in_statement, AnnotationPosition, of_local}
use Rattle.pc_grammar.specs.Machine.States.{whole}
use Rattle.pc_grammar.specs.Machine.States.{ann_whole, State, fixed, stmts, return_due, target_due, after_branch}
use Rattle.pc_grammar.specs.Machine.States.{part_due}
use Rattle.pc_grammar.specs.Machine.States.{part_read, operand, have, go, on}
use Rattle.pc_grammar.specs.Machine.Finishing.{add_stmt, add_branch, suite_of, after_stmt, nested_in, after_suite}
use Rattle.pc_grammar.specs.Machine.Expressions.{tightness}
use Rattle.pc_grammar.specs.Machine.Lines.{stmts_turn, lead_turn, closed_branches}
use Rattle.pc_grammar.specs.Machine.{transition, at, read_tokens}
use Rattle.pc_grammar.proofs.Runs.{run_go, run_same, run_none}
use Rattle.pc_grammar.proofs.Sequences.{Reads, Any, reads_then, reads_and, reads_any, reads_nothing, reads_just}
use Rattle.pc_grammar.proofs.Sequences.{token_run}
use Rattle.pc_grammar.proofs.Sequences.{to_right, map_right}
use Rattle.pc_grammar.proofs.Starts.{IsStart, Starts, starts, starts_append, starts_operand, starts_first, starts_run}
use Rattle.pc_grammar.proofs.Starts.{not_start, stops_just}
use Rattle.pc_grammar.proofs.CompleteExpressions.{part_at}
use Rattle.pc_grammar.proofs.CompleteBrackets.{reads_plain, reads_expression}
use Rattle.pc_grammar.proofs.CompleteAnnotations.{IsClear, clear_just, reads_ann}

-- ---- lists that grow at their end

abbrev pub append_stmts : Stmts → Stmts → Stmts
append_stmts no_stmts ys = ys
append_stmts (more_stmts x xs) ys = more_stmts x (append_stmts xs ys)

pub append_no_stmts : (xs : Stmts) → append_stmts xs no_stmts ≡ xs
append_no_stmts no_stmts = refl
append_no_stmts (more_stmts x xs) = ap (more_stmts x) (append_no_stmts xs)

pub append_more_stmts : (xs : Stmts) (y : Stmt) (ys : Stmts) → append_stmts (add_stmt xs y) ys ≡ append_stmts xs
    (more_stmts y ys)
append_more_stmts no_stmts y ys = refl
append_more_stmts (more_stmts x xs) y ys = ap (more_stmts x) (append_more_stmts xs y ys)

abbrev pub append_branches : Branches → Branches → Branches
append_branches no_branches bs = bs
append_branches (more_branches c b rest) bs = more_branches c b (append_branches rest bs)

pub append_no_branches : (bs : Branches) → append_branches bs no_branches ≡ bs
append_no_branches no_branches = refl
append_no_branches (more_branches c b rest) = ap (more_branches c b) (append_no_branches rest)

pub append_more_branches : (xs : Branches) (c : Expr) (b : Stmts) (ys : Branches)
    → append_branches (add_branch xs c b) ys ≡ append_branches xs (more_branches c b ys)
append_more_branches no_branches c b ys = refl
append_more_branches (more_branches x y xs) c b ys = ap (more_branches x y) (append_more_branches xs c b ys)

-- ---- sequences

pub reads_map : {G A B : Spelling} {s next : State} → ((ts : List Lexeme) → A ts → B ts) → Reads G B s next
    → Reads G A s next
reads_map f r = record { over = λ ts h rest g. r.over ts (f ts h) rest g }

-- to a state that is as good
pub reads_to : {G A : Spelling} {s next : State} (other : State)
    → ((rest : List Lexeme) → G rest → read_tokens (at next) rest ≡ read_tokens (at other) rest)
    → Reads G A s next → Reads G A s other
reads_to other same r = record { over = λ ts h rest g. r.over ts h rest g ∙ same rest g }

pub no_front : {B : Spelling} (ts : List Lexeme) → Sequence Nothing B ts → B ts
no_front {B = B} ts h = subst B (sym (h.all ∙ ap (λ x. x ++ h.back) h.left)) h.right

pub shift_right : {A B C : Spelling} (ts : List Lexeme) → Sequence (A ⟫ B) C ts → Sequence A (B ⟫ C) ts
shift_right ts h = to_right h

pub reads_name_as : (n : Name) {s : State} (next : Name → State)
    → ((t : Lexeme) → transition s t kind.Name ≡ go (next (name_of_token t))) → Reads Any (IsName n) s (next n)
reads_name_as n {s} next e = record {
  over = λ ts h rest g. ap (λ x. read_tokens (at s) (x ++ rest)) h.3
      ∙ run_go s (next (name_of_token h.0)) h.0 rest (ap (transition s h.0) h.1 ∙ e h.0)
      ∙ ap (λ m. read_tokens (at (next m)) rest) (sym h.2);
}

-- a whole expression, the token after it, and what follows
pub expression_then : (e : Expr) (c : ExpressionPosition) (k : TokenKind) → tightness k ≤ 1
    → {H X : Spelling} {next final : State}
    → ((n : ℕ) (ts : List Lexeme) (t : Lexeme) → transition (have 0 (part_at n e ts) (whole c)) t k ≡ go next)
    → Reads H X next final → Reads H (Expression e ⟫ Just k ⟫ X) (operand (whole c)) final
expression_then e c k loose {next = next} to r = record {
  over = λ ts w rest g.
      let a : List Lexeme = w.front in
      let b : List Lexeme = w.right.front in
      let d : List Lexeme = w.right.back in
      ap (λ x. read_tokens (at (operand (whole c))) (x ++ rest)) w.all ∙ ap (read_tokens (at (operand (whole c))))
      (append_assoc a w.back rest)
      ∙ ap (λ x. read_tokens (at (operand (whole c))) (a ++ (x ++ rest))) w.right.all
      ∙ ap (λ x. read_tokens (at (operand (whole c))) (a ++ x)) (append_assoc b d rest)
      ∙ reads_expression e a w.left (whole c) refl (b ++ (d ++ rest)) (stops_just k 1 loose b w.right.left (d ++ rest))
      ∙ token_run k (have 0 (part_at w.left.0 e a) (whole c)) (λ x. next) (to w.left.0 a) b w.right.left (d ++ rest)
      ∙ r.over d w.right.right rest g;
}

-- and at the end
pub expression_last : (e : Expr) (c : ExpressionPosition) (k : TokenKind) → tightness k ≤ 1 → {next : State}
    → ((n : ℕ) (ts : List Lexeme) (t : Lexeme) → transition (have 0 (part_at n e ts) (whole c)) t k ≡ go next)
    → {H : Spelling} → Reads H (Expression e ⟫ Just k) (operand (whole c)) next
expression_last e c k loose {next = next} to = record {
  over = λ ts w rest g.
      let a : List Lexeme = w.front in
      let b : List Lexeme = w.back in
      ap (λ x. read_tokens (at (operand (whole c))) (x ++ rest)) w.all ∙ ap (read_tokens (at (operand (whole c))))
      (append_assoc a b rest)
      ∙ reads_expression e a w.left (whole c) refl (b ++ rest) (stops_just k 1 loose b w.right rest)
      ∙ token_run k (have 0 (part_at w.left.0 e a) (whole c)) (λ x. next) (to w.left.0 a) b w.right rest;
}

-- a whole annotation, the token after it, and what follows
pub annotation_then : (a : Ann) (c : AnnotationPosition) (k : TokenKind) → IsClear k
    → {H X : Spelling} {next final : State}
    → ((ts : List Lexeme) (t : Lexeme) → transition (part_read a ts no_anns [] (ann_whole c)) t k ≡ go next)
    → Reads H X next final → Reads H (Annotation a ⟫ Just k ⟫ X) (part_due no_anns [] (ann_whole c)) final
annotation_then a c k clear {next = next} to r = record {
  over = λ ts w rest g.
      let f : List Lexeme = w.front in
      let b : List Lexeme = w.right.front in
      let d : List Lexeme = w.right.back in
      let s : State = part_due no_anns [] (ann_whole c) in
      ap (λ x. read_tokens (at s) (x ++ rest)) w.all ∙ ap (read_tokens (at s)) (append_assoc f w.back rest)
      ∙ ap (λ x. read_tokens (at s) (f ++ (x ++ rest))) w.right.all ∙ ap (λ x. read_tokens (at s) (f ++ x)) (append_assoc b d rest)
      ∙ reads_ann a f w.left (ann_whole c) (b ++ (d ++ rest)) (clear_just k clear b w.right.left (d ++ rest))
      ∙ token_run k (part_read a f no_anns [] (ann_whole c)) (λ x. next) (to f) b w.right.left (d ++ rest)
      ∙ r.over d w.right.right rest g;
}

pub annotation_last : (a : Ann) (c : AnnotationPosition) (k : TokenKind) → IsClear k → {next : State}
    → ((ts : List Lexeme) (t : Lexeme) → transition (part_read a ts no_anns [] (ann_whole c)) t k ≡ go next)
    → {H : Spelling} → Reads H (Annotation a ⟫ Just k) (part_due no_anns [] (ann_whole c)) next
annotation_last a c k clear {next = next} to = record {
  over = λ ts w rest g.
      let f : List Lexeme = w.front in
      let b : List Lexeme = w.back in
      let s : State = part_due no_anns [] (ann_whole c) in
      ap (λ x. read_tokens (at s) (x ++ rest)) w.all ∙ ap (read_tokens (at s)) (append_assoc f b rest)
      ∙ reads_ann a f w.left (ann_whole c) (b ++ rest) (clear_just k clear b w.right rest)
      ∙ token_run k (part_read a f no_anns [] (ann_whole c)) (λ x. next) (to f) b w.right rest;
}

-- a token that begins a line, whose place is kept
pub begins_token : (p : Place) (k : TokenKind) {H X : Spelling} {s final : State} (next : Place → State)
    → ((t : Lexeme) → transition s t k ≡ go (next t.place))
    → Reads H X (next p) final → Reads H (Begins p (Just k ⟫ X)) s final
begins_token p k {s = s} next to r = record {
  over = λ ts h rest g.
      let w = h.1 in
      let t : Lexeme = w.left.0 in
      let place : t.place ≡ p = sym (h.0 ∙ ap first_place (w.all ∙ ap (λ x. x ++ w.back) w.left.2)) in
      ap (λ x. read_tokens (at s) (x ++ rest)) (w.all ∙ ap (λ x. x ++ w.back) w.left.2)
      ∙ run_go s (next t.place) t (w.back ++ rest) (ap (transition s t) w.left.1 ∙ to t)
      ∙ ap (λ q. read_tokens (at (next q)) (w.back ++ rest)) place
      ∙ r.over w.back w.right rest g;
}

-- ---- the tokens after a statement

-- neither `elif` nor `else`
abbrev pub IsClosed : TokenKind → Type 0
IsClosed k = (same_kind k (kind.Keyword word.Elif) ≡ false) × (same_kind k (kind.Keyword word.Else) ≡ false)

abbrev pub Closed : Spelling
Closed [] = Unit {0}
Closed (t ∷ ts) = IsClosed t.kind

pub closed_just : (k : TokenKind) → IsClosed k → (ts : List Lexeme) → Just k ts → (rest : List Lexeme)
    → Closed (ts ++ rest)
closed_just k h ts (t, tk, is) rest = subst (λ x. Closed (x ++ rest)) (sym is) (subst IsClosed (sym tk) h)

pub closed_starts : (ts : List Lexeme) → Starts ts → Closed ts
closed_starts [] h = absurd h
closed_starts (t ∷ ts) h = (
  not_start t.kind (kind.Keyword word.Elif) refl h,
  not_start t.kind (kind.Keyword word.Else)
      refl h,
)

-- the first of a list decides
closed_word : {X : Spelling} (k : TokenKind) → IsClosed k → (ts : List Lexeme) → Sequence (Just k) X ts
    → (rest : List Lexeme) → Closed (ts ++ rest)
closed_word k c ts w rest = subst (λ x. Closed (x ++ rest)) (sym w.all)
    (subst Closed (sym (append_assoc w.front w.back rest)) (closed_just k c w.front w.left (w.back ++ rest)))

closed_front : {A X : Spelling} (ts : List Lexeme) (w : Sequence A X ts) → Starts w.front → (rest : List Lexeme)
    → Closed (ts ++ rest)
closed_front ts w h rest = closed_starts (ts ++ rest) (starts_append ts rest (starts_first w h))

target_tree : Target → Expr
target_tree (to_name n) = name n
target_tree (to_attribute p e f) = attribute p e f
target_tree (to_index p e i) = index p e i

target_spelled : (target : Target) (ts : List Lexeme) → SpellsTarget target ts → Starts ts
target_spelled (to_name n) ts h = starts (name n) ts h
target_spelled (to_attribute p e f) ts h = starts (attribute p e f) ts h
target_spelled (to_index p e i) ts h = starts (index p e i) ts h

name_starts : (n : Name) (ts : List Lexeme) → IsName n ts → Starts ts
name_starts n ts h = starts (name n) ts h

pub closed_stmt : (s : Stmt) (ts : List Lexeme) → SpellsStmt s ts → (rest : List Lexeme) → Closed (ts ++ rest)
closed_stmt (pass p) ts h rest = closed_word (kind.Keyword word.Pass) (refl, refl) ts h.1 rest
closed_stmt (breaks p) ts h rest = closed_word (kind.Keyword word.Break) (refl, refl) ts h.1 rest
closed_stmt (continues p) ts h rest = closed_word (kind.Keyword word.Continue) (refl, refl) ts h.1 rest
closed_stmt (returns p value) ts h rest = closed_word (kind.Keyword word.Return) (refl, refl) ts h.1 rest
closed_stmt (asserts p c m) ts h rest = closed_word (kind.Keyword word.Assert) (refl, refl) ts h.1 rest
closed_stmt (annotated p n a value) ts h rest = closed_front ts h.1 (name_starts n h.1.front h.1.left) rest
closed_stmt (assigns p target value) ts h rest = closed_front ts h.1 (target_spelled target h.1.front h.1.left) rest
closed_stmt (evaluates p value) ts h rest = closed_front ts h.1 (starts_operand 0 value h.1.front h.1.left) rest
closed_stmt (while_loop p c b) ts h rest = closed_word (kind.Keyword word.While) (refl, refl) ts h.1 rest
closed_stmt (for_loop p n e b) ts h rest = closed_word (kind.Keyword word.For) (refl, refl) ts h.1 rest
closed_stmt (conditional p no_branches o) ts h rest = absurd h
closed_stmt (conditional p (more_branches c b bs) o) ts h rest = closed_word (kind.Keyword word.If) (refl, refl) ts h.1
    rest

closed_stmts : (ss : Stmts) (ts : List Lexeme) → SpellsStmts ss ts → (rest : List Lexeme) → Closed (ts ++ rest)
closed_stmts no_stmts ts h rest = absurd h
closed_stmts (more_stmts s ss) ts w rest = subst (λ x. Closed (x ++ rest)) (sym w.all)
    (subst Closed (sym (append_assoc w.front w.back rest)) (closed_stmt s w.front w.left (w.back ++ rest)))

abbrev else_state : Branches → Site → State
else_state bs site = fixed (a_kind (kind.Operator sign.Colon)) (a_kind kind.Newline ∷ a_kind kind.Indent ∷ [])
    (stmts no_stmts (nested_in site (else_body bs)))

-- An `if` that nothing goes on with is as good as a statement.
pub branch_run : (bs : Branches) (site : Site) (rest : List Lexeme) → Closed rest → read_tokens (at (after_branch bs site)) rest
    ≡ read_tokens (at (stmts (closed_branches bs site) site.block)) rest
branch_run bs site [] h = run_none _ ∙ sym (run_none _)
branch_run bs site (t ∷ rest) h = run_same _ _ t rest
    (ap (λ b. on b (operand (whole (in_statement (branching bs) site)))
    (on (same_kind t.kind (kind.Keyword word.Else)) (else_state bs site)
    (stmts_turn (closed_branches bs site) site.block t t.kind))) h.0
    ∙ ap (λ b. on b (else_state bs site) (stmts_turn (closed_branches bs site) site.block t t.kind)) h.1)

-- ---- lines that begin with an expression

lead_start : (k : TokenKind) → IsStart (operand_start k) → lead_of k ≡ leads_other
lead_start (kind.Keyword word.Pass) h = absurd h
lead_start (kind.Keyword word.Break) h = absurd h
lead_start (kind.Keyword word.Continue) h = absurd h
lead_start (kind.Keyword word.Return) h = absurd h
lead_start (kind.Keyword word.Assert) h = absurd h
lead_start (kind.Keyword word.While) h = absurd h
lead_start (kind.Keyword word.For) h = absurd h
lead_start (kind.Keyword word.If) h = absurd h
lead_start kind.Dedent h = absurd h
lead_start _ h = refl

abbrev pub site_at : Stmts → Block → Place → Site
site_at done b p = record { first = p; done = done; block = b }

pub line_run : (done : Stmts) (b : Block) (ts : List Lexeme) → Starts ts → read_tokens (at (stmts done b)) ts
    ≡ read_tokens (at (operand (whole (in_line done b)))) ts
line_run done b [] h = absurd h
line_run done b (t ∷ ts) h = run_same _ _ t ts (ap (lead_turn (site_at done b t.place) t t.kind) (lead_start t.kind h))

first_place_append : (a b : List Lexeme) → Starts a → first_place (a ++ b) ≡ first_place a
first_place_append [] b h = absurd h
first_place_append (t ∷ a) b h = refl

-- a line that is one expression
line_last : (p : Place) (e : Expr) (done : Stmts) (b : Block) (k : TokenKind) → tightness k ≤ 1 → (next : Place → State)
    → ((n : ℕ) (ts : List Lexeme) (t : Lexeme) → transition (have 0 (part_at n e ts) (whole (in_line done b))) t k
    ≡ go (next (first_place ts)))
    → {H : Spelling} → Reads H (Begins p (Expression e ⟫ Just k)) (stmts done b) (next p)
line_last p e done b k loose next to = record {
  over = λ ts h rest g.
      let w = h.1 in
      let a : List Lexeme = w.front in
      let d : List Lexeme = w.back in
      let s : State = operand (whole (in_line done b)) in
      let st : Starts a = starts_operand 0 e a w.left in
      line_run done b (ts ++ rest) (starts_append ts rest (starts_first w st))
      ∙ ap (λ x. read_tokens (at s) (x ++ rest)) w.all ∙ ap (read_tokens (at s)) (append_assoc a d rest)
      ∙ reads_expression e a w.left (whole (in_line done b)) refl (d ++ rest) (stops_just k 1 loose d w.right rest)
      ∙ token_run k (have 0 (part_at w.left.0 e a) (whole (in_line done b))) (λ x. next (first_place a)) (to w.left.0 a)
      d w.right rest
      ∙ ap (λ q. read_tokens (at (next q)) rest) (sym (h.0 ∙ ap first_place w.all ∙ first_place_append a d st));
}

-- a line that begins with a node in no parentheses
line_plain : (p : Place) (m : Expr) (done : Stmts) (b : Block) (k : TokenKind) → tightness k ≤ own_level m + 1
    → {H X : Spelling} (next : Place → State) {final : State}
    → ((ts : List Lexeme) (t : Lexeme) → transition (have (own_level m) (part_at 0 m ts) (whole (in_line done b))) t k
    ≡ go (next (first_place ts)))
    → Reads H X (next p) final → Reads H (Begins p ((λ ts. Spells m ts) ⟫ Just k ⟫ X)) (stmts done b) final
line_plain p m done b k loose next to r = record {
  over = λ ts h rest g.
      let w = h.1 in
      let a : List Lexeme = w.front in
      let c : List Lexeme = w.right.front in
      let d : List Lexeme = w.right.back in
      let s : State = operand (whole (in_line done b)) in
      let st : Starts a = starts m a w.left in
      line_run done b (ts ++ rest) (starts_append ts rest (starts_first w st))
      ∙ ap (λ x. read_tokens (at s) (x ++ rest)) w.all ∙ ap (read_tokens (at s)) (append_assoc a w.back rest)
      ∙ ap (λ x. read_tokens (at s) (a ++ (x ++ rest))) w.right.all ∙ ap (λ x. read_tokens (at s) (a ++ x)) (append_assoc c d rest)
      ∙ reads_plain m a w.left (whole (in_line done b)) (omega arith) (c ++ (d ++ rest))
      (stops_just k (own_level m + 1) loose c w.right.left (d ++ rest))
      ∙ token_run k (have (own_level m) (part_at 0 m a) (whole (in_line done b))) (λ x. next (first_place a)) (to a) c
      w.right.left (d ++ rest)
      ∙ ap (λ q. read_tokens (at (next q)) (d ++ rest)) (sym (h.0 ∙ ap first_place w.all ∙ first_place_append a w.back st))
      ∙ r.over d w.right.right rest g;
}

-- ---- simple statements

abbrev pub ReadsStmt : Stmt → Type 0
ReadsStmt s = (done : Stmts) (b : Block) → Reads Closed (SpellsStmt s) (stmts done b) (stmts (add_stmt done s) b)

reads_pass : (p : Place) → ReadsStmt (pass p)
reads_pass p done b = begins_token p (kind.Keyword word.Pass) (λ q. _) (λ t. refl)
    (reads_any (reads_just kind.Newline (λ t. refl)))

reads_break : (p : Place) → ReadsStmt (breaks p)
reads_break p done b = begins_token p (kind.Keyword word.Break) (λ q. _) (λ t. refl)
    (reads_any (reads_just kind.Newline (λ t. refl)))

reads_continue : (p : Place) → ReadsStmt (continues p)
reads_continue p done b = begins_token p (kind.Keyword word.Continue) (λ q. _) (λ t. refl)
    (reads_any (reads_just kind.Newline (λ t. refl)))

-- from a state that takes what begins an operand as the other does
reads_start : {G A : Spelling} {s other next : State} → ((ts : List Lexeme) → A ts → Starts ts)
    → ((ts : List Lexeme) → Starts ts → read_tokens (at s) ts ≡ read_tokens (at other) ts)
    → Reads G A other next → Reads G A s next
reads_start starts_a same r = record {
  over = λ ts h rest g. same (ts ++ rest) (starts_append ts rest (starts_a ts h))
      ∙ r.over ts h rest g;
}

return_run : (site : Site) (ts : List Lexeme) → Starts ts → read_tokens (at (return_due site)) ts
    ≡ read_tokens (at (operand (whole (in_statement returned site)))) ts
return_run site ts h = starts_run (return_due site) (operand (whole (in_statement returned site)))
    (λ t. after_stmt site (returns site.first None)) kind.Newline refl (λ t k. refl) ts h

first_expression : {X : Spelling} (e : Expr) (ts : List Lexeme) → Sequence (Expression e) X ts → Starts ts
first_expression e ts w = starts_first w (starts_operand 0 e w.front w.left)

reads_returns : (p : Place) (value : Option Expr) → ReadsStmt (returns p value)
reads_returns p None done b = begins_token p (kind.Keyword word.Return) (λ q. return_due (site_at done b q)) (λ t. refl)
    (reads_map no_front (reads_any (reads_just kind.Newline (λ t. refl))))
reads_returns p (Some e) done b = begins_token p (kind.Keyword word.Return) (λ q. return_due (site_at done b q))
    (λ t. refl)
    (reads_start (first_expression e) (return_run (site_at done b p))
    (expression_last e (in_statement returned (site_at done b p)) kind.Newline (omega arith) (λ n ts t. refl)))

reads_asserts : (p : Place) (condition : Expr) (message : Option Expr) → ReadsStmt (asserts p condition message)
reads_asserts p condition None done b = begins_token p (kind.Keyword word.Assert)
    (λ q. operand (whole (in_statement asserted (site_at done b q)))) (λ t. refl)
    (reads_map (λ ts w. map_right no_front w) (expression_last condition (in_statement asserted (site_at done b p))
    kind.Newline (omega arith) (λ n ts t. refl)))
reads_asserts p condition (Some message) done b = begins_token p (kind.Keyword word.Assert)
    (λ q. operand (whole (in_statement asserted (site_at done b q)))) (λ t. refl)
    (reads_map (λ ts w. map_right shift_right w) (expression_then condition (in_statement asserted (site_at done b p))
    (kind.Operator sign.Comma) (omega arith) (λ n ts t. refl)
    (expression_last message (in_statement (asserted_with condition) (site_at done b p)) kind.Newline (omega arith)
    (λ n ts t. refl))))

reads_assigns : (p : Place) (target : Target) (value : Expr) → ReadsStmt (assigns p target value)
reads_assigns p (to_name n) value done b = line_plain p (name n) done b (kind.Operator sign.Equal) (omega arith)
    (λ q. operand (whole (in_statement (assigned (to_name n)) (site_at done b q)))) (λ ts t. refl)
    (expression_last value (in_statement (assigned (to_name n)) (site_at done b p)) kind.Newline (omega arith)
    (λ n' ts t. refl))
reads_assigns p (to_attribute q e f) value done b = line_plain p (attribute q e f) done b (kind.Operator sign.Equal)
    (omega arith)
    (λ x. operand (whole (in_statement (assigned (to_attribute q e f)) (site_at done b x)))) (λ ts t. refl)
    (expression_last value (in_statement (assigned (to_attribute q e f)) (site_at done b p)) kind.Newline (omega arith)
    (λ n' ts t. refl))
reads_assigns p (to_index q e i) value done b = line_plain p (index q e i) done b (kind.Operator sign.Equal)
    (omega arith)
    (λ x. operand (whole (in_statement (assigned (to_index q e i)) (site_at done b x)))) (λ ts t. refl)
    (expression_last value (in_statement (assigned (to_index q e i)) (site_at done b p)) kind.Newline (omega arith)
    (λ n' ts t. refl))

reads_evaluates : (p : Place) (value : Expr) → ReadsStmt (evaluates p value)
reads_evaluates p value done b = line_last p value done b kind.Newline (omega arith)
    (λ q. stmts (add_stmt done (evaluates q value)) b) (λ n ts t. refl)

reads_annotated : (p : Place) (n : Name) (a : Ann) (value : Option Expr) → ReadsStmt (annotated p n a value)
reads_annotated p n a None done b = line_plain p (name n) done b (kind.Operator sign.Colon) (omega arith)
    (λ q. part_due no_anns [] (ann_whole (of_local n (site_at done b q)))) (λ ts t. refl)
    (reads_map (λ ts w. map_right no_front w) (annotation_last a (of_local n (site_at done b p)) kind.Newline
    (refl, refl) (λ ts t. refl)))
reads_annotated p n a (Some e) done b = line_plain p (name n) done b (kind.Operator sign.Colon) (omega arith)
    (λ q. part_due no_anns [] (ann_whole (of_local n (site_at done b q)))) (λ ts t. refl)
    (reads_map (λ ts w. map_right shift_right w) (annotation_then a (of_local n (site_at done b p))
    (kind.Operator sign.Equal) (refl, refl) (λ ts t. refl)
    (expression_last e (in_statement (annotated_value n a) (site_at done b p)) kind.Newline (omega arith)
    (λ n' ts t. refl))))

-- ---- suites

abbrev pub ReadsStmts : Stmts → Type 0
ReadsStmts ss = (done : Stmts) (b : Block) → Reads Closed (SpellsStmts ss) (stmts done b)
    (stmts (append_stmts done ss) b)

-- after the colon
abbrev pub SuiteRest : Spelling → Spelling
SuiteRest A = Just kind.Newline ⟫ Just kind.Indent ⟫ A ⟫ Just kind.Dedent

pub reads_suite : (body : Stmts) → ReadsStmts body → (b : Block) {H : Spelling}
    → Reads H (SuiteRest (λ ts. SpellsStmts body ts)) (suite_of b) (after_suite b body)
reads_suite no_stmts r b = record { over = λ ts w rest g. absurd w.right.right.left }
reads_suite (more_stmts s ss) r b = reads_and (reads_just kind.Newline (λ t. refl))
    (reads_and (reads_just kind.Indent (λ t. refl))
    (reads_then (r no_stmts b) (reads_any (reads_just kind.Dedent (λ t. refl)))
    (λ ts h rest g. closed_just kind.Dedent (refl, refl) ts h rest)))

no_stmts_read : ReadsStmts no_stmts
no_stmts_read done b = record { over = λ ts h rest g. absurd h }

more_stmts_read : (s : Stmt) (ss : Stmts) → ReadsStmt s → ReadsStmts ss
    → (done : Stmts) (b : Block) (ts c d : List Lexeme) → ts ≡ c ++ d → SpellsStmt s c
    → Rest (ss ≡ no_stmts) (λ u. SpellsStmts ss u) d
    → (rest : List Lexeme) → Closed rest → read_tokens (at (stmts done b)) (ts ++ rest)
    ≡ read_tokens (at (stmts (append_stmts done (more_stmts s ss)) b)) rest
more_stmts_read s ss one others done b ts c d is hs (inl h) rest g =
    let first = one done b in
    let second = others (add_stmt done s) b in
    ap (λ x. read_tokens (at (stmts done b)) (x ++ rest)) is ∙ ap (read_tokens (at (stmts done b))) (append_assoc c d rest)
    ∙ first.over c hs (d ++ rest) (closed_stmts ss d h rest) ∙ second.over d h rest g
    ∙ ap (λ x. read_tokens (at (stmts x b)) rest) (append_more_stmts done s ss)
more_stmts_read s ss one others done b ts c d is hs (inr (none, i)) rest g =
    let first = one done b in
    ap (λ x. read_tokens (at (stmts done b)) (x ++ rest)) (is ∙ ap (λ x. c ++ x) i ∙ append-nil c) ∙ first.over c hs rest g
    ∙ ap (λ x. read_tokens (at (stmts x b)) rest) (sym (append_no_stmts (add_stmt done s)) ∙ append_more_stmts done s no_stmts
    ∙ ap (λ x. append_stmts done (more_stmts s x)) (sym none))

-- ---- compound statements

reads_while : (p : Place) (c : Expr) (body : Stmts) → ReadsStmts body → ReadsStmt (while_loop p c body)
reads_while p c body r done b = begins_token p (kind.Keyword word.While)
    (λ q. operand (whole (in_statement looping (site_at done b q)))) (λ t. refl)
    (expression_then c (in_statement looping (site_at done b p)) (kind.Operator sign.Colon) (omega arith)
    (λ n ts t. refl)
    (reads_suite body r (nested_in (site_at done b p) (while_body c))))

reads_for : (p : Place) (n : Name) (e : Expr) (body : Stmts) → ReadsStmts body → ReadsStmt (for_loop p n e body)
reads_for p n e body r done b = begins_token p (kind.Keyword word.For) (λ q. target_due (site_at done b q)) (λ t. refl)
    (reads_and (reads_name_as n (λ m. fixed (a_kind (kind.Keyword word.In)) []
    (operand (whole (in_statement (iterating m) (site_at done b p))))) (λ t. refl))
    (reads_and (reads_just (kind.Keyword word.In) (λ t. refl))
    (expression_then e (in_statement (iterating n) (site_at done b p)) (kind.Operator sign.Colon) (omega arith)
    (λ n' ts t. refl)
    (reads_suite body r (nested_in (site_at done b p) (for_body n e))))))

abbrev pub ReadsBranches : Branches → Type 0
ReadsBranches bs = (before : Branches) (site : Site) → Reads Any (SpellsBranches bs) (after_branch before site)
    (after_branch (append_branches before bs) site)

no_branches_read : ReadsBranches no_branches
no_branches_read before site = reads_to (after_branch (append_branches before no_branches) site)
    (λ rest g. ap (λ x. read_tokens (at (after_branch x site)) rest) (sym (append_no_branches before))) reads_nothing

more_branches_read : (c : Expr) (body : Stmts) (bs : Branches) → ReadsStmts body → ReadsBranches bs
    → ReadsBranches (more_branches c body bs)
more_branches_read c body bs r others before site = reads_and (reads_just (kind.Keyword word.Elif) (λ t. refl))
    (reads_map (λ ts w. map_right shift_right w) (expression_then c (in_statement (branching before) site)
    (kind.Operator sign.Colon) (omega arith) (λ n ts t. refl)
    (reads_and (reads_suite body r (nested_in site (branch_body before c)))
    (reads_to (after_branch (append_branches before (more_branches c body bs)) site)
    (λ rest g. ap (λ x. read_tokens (at (after_branch x site)) rest) (append_more_branches before c body bs))
    (others (add_branch before c body) site)))))

-- `else`, or nothing
otherwise_read : (o : Stmts) → ReadsStmts o → (bs : Branches) (site : Site) (ts : List Lexeme)
    → Rest (o ≡ no_stmts) (Word word.Else ⟫ Suite (λ u. SpellsStmts o u)) ts → (rest : List Lexeme) → Closed rest
    → read_tokens (at (after_branch bs site)) (ts ++ rest) ≡ read_tokens (at (after_stmt site (conditional site.first bs o))) rest
otherwise_read o r bs site ts (inl w) rest g =
    let all : Reads Any (Word word.Else ⟫ Suite (λ u. SpellsStmts o u)) (after_branch bs site)
    (after_stmt site (conditional site.first bs o))
    = reads_and (reads_just (kind.Keyword word.Else) (λ t. refl))
    (reads_and (reads_just (kind.Operator sign.Colon) (λ t. refl))
    (reads_suite o r (nested_in site (else_body bs)))) in
    all.over ts w rest tt
otherwise_read o r bs site ts (inr (none, i)) rest g =
    ap (λ x. read_tokens (at (after_branch bs site)) (x ++ rest)) i ∙ branch_run bs site rest g
    ∙ ap (λ x. read_tokens (at (after_stmt site (conditional site.first bs x))) rest) (sym none)

reads_conditional : (p : Place) (c : Expr) (body : Stmts) (bs : Branches) (o : Stmts) → ReadsStmts body
    → ReadsBranches bs → ReadsStmts o → ReadsStmt (conditional p (more_branches c body bs) o)
reads_conditional p c body bs o r others q done b = begins_token p (kind.Keyword word.If)
    (λ x. operand (whole (in_statement (branching no_branches) (site_at done b x)))) (λ t. refl)
    (reads_map (λ ts w. map_right shift_right w) (expression_then c
    (in_statement (branching no_branches) (site_at done b p)) (kind.Operator sign.Colon) (omega arith)
    (λ n ts t. refl)
    (reads_and (reads_suite body r (nested_in (site_at done b p) (branch_body no_branches c)))
    (reads_and (others (more_branches c body no_branches) (site_at done b p))
    (record { over = λ ts h rest g. otherwise_read o q (more_branches c body bs) (site_at done b p) ts h rest g })))))

-- ---- every statement

mutual
  pub reads_stmt : (s : Stmt) → ReadsStmt s
  reads_stmt (pass p) = reads_pass p
  reads_stmt (breaks p) = reads_break p
  reads_stmt (continues p) = reads_continue p
  reads_stmt (returns p value) = reads_returns p value
  reads_stmt (asserts p c m) = reads_asserts p c m
  reads_stmt (annotated p n a value) = reads_annotated p n a value
  reads_stmt (assigns p target value) = reads_assigns p target value
  reads_stmt (evaluates p value) = reads_evaluates p value
  reads_stmt (while_loop p c body) = reads_while p c body (reads_stmts body)
  reads_stmt (for_loop p n e body) = reads_for p n e body (reads_stmts body)
  reads_stmt (conditional p no_branches o) = λ done b. record { over = λ ts h rest g. absurd h }
  reads_stmt (conditional p (more_branches c body bs) o) = reads_conditional p c body bs o (reads_stmts body)
      (reads_branches bs) (reads_stmts o)

  pub reads_stmts : (ss : Stmts) → ReadsStmts ss
  reads_stmts no_stmts = no_stmts_read
  reads_stmts (more_stmts s ss) = λ done b. record {
    over = λ ts w rest g. more_stmts_read s ss (reads_stmt s)
        (reads_stmts ss) done b ts w.front w.back w.all w.left w.right rest g;
  }

  reads_branches : (bs : Branches) → ReadsBranches bs
  reads_branches no_branches = no_branches_read
  reads_branches (more_branches c body bs) = more_branches_read c body bs (reads_stmts body) (reads_branches bs)
