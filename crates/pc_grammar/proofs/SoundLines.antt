-- A line that is read is spelled by its tokens.
use Rattle.std.proofs.Common.{◌≡◌, ℕ, ◌&&◌, Bool, true, false, List, [], ◌∷◌, ◌++◌, Some, None, refl, ap, sym, ◌∙◌}
use Rattle.std.proofs.Common.{subst, inl, inr, append_assoc, codes, bytes_eq}
use Rattle.std.proofs.lemmas.Bool.{false≢true}
use Rattle.std.proofs.lemmas.Slice.Eq.{bytes_eq-Decides}
use Rattle.pc_source.specs.declared.place.Place.{Place}
use Rattle.pc_token.specs.declared.token.TokenKind.{TokenKind}
use Rattle.pc_token.specs.declared.token.TokenKind.TheVariants as kind
use Rattle.pc_token.specs.declared.token.Keyword.{Keyword}
use Rattle.pc_token.specs.declared.token.Keyword.TheVariants as word
use Rattle.pc_token.specs.declared.token.Operator.TheVariants as sign
use Rattle.pc_token.specs.Lexeme.{Lexeme}
use Rattle.pc_tree.specs.Tree.{Name, Expr, no_anns, Literal, Stmt, pass, breaks, continues, returns, conditional, Stmts}
use Rattle.pc_tree.specs.Tree.{no_stmts, more_stmts, Branches, no_branches, more_branches, Param, FuncDef, Member}
use Rattle.pc_tree.specs.Tree.{method_member, Item, class_item, def_item}
use Rattle.pc_grammar.specs.Grammar.{Spelling, Sequence, ◌⟫◌, Begins, Just, Sign, Word, IsName, Named, NamedAt}
use Rattle.pc_grammar.specs.Grammar.{IsNumber}
use Rattle.pc_grammar.specs.Grammar.{Maybe, span, name_of_token, digits_of}
use Rattle.pc_grammar.specs.Grammar.Expressions.{Expression}
use Rattle.pc_grammar.specs.Grammar.Annotations.{Annotation}
use Rattle.pc_grammar.specs.Grammar.Statements.{Suite, SpellsStmt, SpellsStmts, SpellsBranches}
use Rattle.pc_grammar.specs.Grammar.Modules.{Parameters, ClassBody, Header, LastLine, SpellsModule}
use Rattle.pc_grammar.specs.Machine.Kinds.{Fixed, a_kind, a_form, is_fixed, same_kind, SpellsFixed, SpellsAllFixed}
use Rattle.pc_grammar.specs.Machine.Kinds.{operand_start, Lead, leads_pass, leads_break, leads_continue, leads_return}
use Rattle.pc_grammar.specs.Machine.Kinds.{leads_assert, leads_while, leads_for, leads_if, leads_out, leads_other}
use Rattle.pc_grammar.specs.Machine.Kinds.{lead_of}
use Rattle.pc_grammar.specs.Machine.States.{HeaderStage, after_future, after_dataclasses, after_headers, Top, ClassStart}
use Rattle.pc_grammar.specs.Machine.States.{FunctionOwner}
use Rattle.pc_grammar.specs.Machine.States.{of_module, of_class, DefStart, def_body, Nest, while_body, for_body}
use Rattle.pc_grammar.specs.Machine.States.{branch_body, else_body, Block, nested, Site, returned, iterating, in_line}
use Rattle.pc_grammar.specs.Machine.States.{in_statement, of_constant, of_field, of_param, of_return, LiteralContext}
use Rattle.pc_grammar.specs.Machine.States.{whole, ann_whole, State, fixed, items, importing, item_named, decorator_due}
use Rattle.pc_grammar.specs.Machine.States.{class_due, class_named, base_due, members, def_due, self_read, param_due}
use Rattle.pc_grammar.specs.Machine.States.{param_named, params_read, literal_due, minus_read, literal_read, return_due}
use Rattle.pc_grammar.specs.Machine.States.{target_due, after_branch, part_due, operand, ended, stuck}
use Rattle.pc_grammar.specs.Machine.Finishing.{add_branch, after_stmt, nested_in, after_suite, after_def, after_class}
use Rattle.pc_grammar.specs.Machine.Finishing.{after_nested, function_of, class_def_of}
use Rattle.pc_grammar.specs.Machine.Lines.{due, fixed_turn, module_of, takes_header, takes_dataclasses, items_turn}
use Rattle.pc_grammar.specs.Machine.Lines.{importing_turn, item_named_turn, decorator_turn, class_turn}
use Rattle.pc_grammar.specs.Machine.Lines.{class_named_turn}
use Rattle.pc_grammar.specs.Machine.Lines.{base_turn, members_end, members_turn, def_turn, self_turn, param_turn}
use Rattle.pc_grammar.specs.Machine.Lines.{param_named_turn, params_read_turn, literal_turn, minus_turn}
use Rattle.pc_grammar.specs.Machine.Lines.{literal_read_turn}
use Rattle.pc_grammar.specs.Machine.Lines.{end_suite, line_ends, lead_turn, stmts_turn, return_turn, target_turn}
use Rattle.pc_grammar.specs.Machine.Lines.{closed_branches, branch_turn}
use Rattle.pc_grammar.specs.Fronts.{LedTo}
use Rattle.pc_grammar.specs.Fronts.Lines.{Kept, WordAt, SignAt, SelfRead, Opening, AtStage, BeforeItems, ClassName}
use Rattle.pc_grammar.specs.Fronts.Lines.{ClassHead, BeforeMembers, BeforeOwner, DefWord, DefName, ParamsOf, is_in_class}
use Rattle.pc_grammar.specs.Fronts.Lines.{IfBranches, BranchWord, BeforeNest, BeforeBlock, BeforeStmts}
use Rattle.pc_grammar.proofs.SameKind.{same_kind_is}
use Rattle.pc_grammar.proofs.Sequences.{to_right, to_left, map_left, map_right}
use Rattle.pc_grammar.proofs.Stood.{Stood, grow, just, just_at, is_name, on_kind, on_both, stood_on, kept_join}
use Rattle.pc_grammar.proofs.Stood.{end_nothing, start_nothing}
use Rattle.pc_grammar.proofs.CompleteStatements.{no_front}
use Rattle.pc_grammar.proofs.SoundExpressions.{start_means, operand_stood}
use Rattle.pc_grammar.proofs.SoundAnnotations.{first_part}
use Rattle.pc_grammar.proofs.SoundFinishing.{begins_just, stmt_done, member_done, item_done, no_back, suite_from}
use Rattle.pc_grammar.proofs.SoundFinishing.{suite_stood, opened, stmts_all, params_of_all, param_more_stood}
use Rattle.pc_grammar.proofs.SoundFinishing.{finish_literal_stood}

-- ---- fixed words

bytes_same : (a b : List ℕ) → bytes_eq a b ≡ true → a ≡ b
bytes_same a b e = (bytes_eq-Decides a b).0 e

form_both : (x : Bool) (a b : List ℕ) → (x && bytes_eq a b) ≡ true → (x ≡ true) × (a ≡ b)
form_both true a b e = (refl, bytes_same a b e)
form_both false a b e = cc

is_fixed_spells : (w : Fixed) (t : Lexeme) → is_fixed w t t.kind ≡ true → SpellsFixed w (t ∷ [])
is_fixed_spells (a_kind k) t e = just t k (same_kind_is t.kind k e)
is_fixed_spells (a_form f) t e = let b = form_both (same_kind t.kind kind.Name) t.form f e in
    (t, same_kind_is t.kind kind.Name b.0, b.1, refl)

due_stands : (w : Fixed) (ws : List Fixed) (next : State) (t : Lexeme) (ts : List Lexeme) → SpellsFixed w (t ∷ [])
    → LedTo (fixed w ws next) ts → LedTo (due ws next) (ts ++ (t ∷ []))
due_stands w [] next t ts f h = h (t ∷ []) (end_nothing (t ∷ []) f)
due_stands w (v ∷ vs) next t ts f h = λ us g. subst (λ z. LedTo next z) (sym (append_assoc ts (t ∷ []) us))
    (h (t ∷ us) (record { front = t ∷ []; back = us; all = refl; left = f; right = g }))

pub fixed_stood : (w : Fixed) (ws : List Fixed) (next : State) (t : Lexeme) (ts : List Lexeme)
    → LedTo (fixed w ws next) ts → Stood (fixed_turn w ws next t t.kind) (ts ++ (t ∷ []))
fixed_stood w ws next t ts h = stood_on (is_fixed w t t.kind) (due ws next) stuck (ts ++ (t ∷ []))
    (λ e. due_stands w ws next t ts (is_fixed_spells w t e) h) tt

-- a state that these words lead to
words_stand : (w : Fixed) (ws : List Fixed) (next : State) {A : Spelling} (ts : List Lexeme) → A ts
    → ((us : List Lexeme) → Sequence A (SpellsAllFixed (w ∷ ws)) us → LedTo next us) → LedTo (fixed w ws next) ts
words_stand w ws next ts h f us g = f (ts ++ us) (record { front = ts; back = us; all = refl; left = h; right = g })

-- ---- suites that end

def_whole : (d : DefStart) (ps : List Param) {Y : Spelling} (us : List Lexeme)
    → Sequence (DefName d ⟫ (Parameters (is_in_class d.owner) ps ⟫ Sign sign.RightParenthesis)) Y us
    → Sequence (DefWord d.owner d.first) (IsName d.name ⟫ Sign sign.LeftParenthesis ⟫ Parameters (is_in_class d.owner) ps
    ⟫ Sign sign.RightParenthesis ⟫ Y) us
def_whole d ps us w = to_right (to_right (map_right (λ vs v. to_right v) (to_right w)))

def_done : (owner : FunctionOwner) (first : Place) (f : FuncDef) (ts : List Lexeme)
    → Sequence (BeforeOwner owner) (DefWord owner first ⟫ IsName f.name ⟫ Sign sign.LeftParenthesis ⟫ Parameters
    (is_in_class owner) f.params ⟫ Sign sign.RightParenthesis
    ⟫ Maybe (λ a. Sign sign.Arrow ⟫ Annotation a) f.returns ⟫ Suite (SpellsStmts f.body)) ts
    → LedTo (after_def owner first f) ts
def_done (of_module top) first f ts w = (
  tt,
  item_done top (def_item first f) ts
      (map_right (λ us v. begins_just (kind.Keyword word.Def) first us v) w),
)
def_done (of_class c ms) first f ts w = member_done c ms (method_member f) ts w

branches_add : (bs : Branches) (c : Expr) (b : Stmts) (us : List Lexeme)
    → Sequence (SpellsBranches bs) (Word word.Elif ⟫ Expression c ⟫ Suite (SpellsStmts b)) us
    → SpellsBranches (add_branch bs c b) us
branches_add no_branches c b us w = map_right (λ vs v. map_right (λ ws z. end_nothing ws z) v) (no_front us w)
branches_add (more_branches x y bs) c b us w = map_right (λ vs v.
    map_right (λ ws z. map_right (λ xs1 q. branches_add bs c b xs1 q) (to_right z)) (to_right v)) (to_right w)

branch_added : (first : Place) (bs : Branches) (c : Expr) (b : Stmts) (us : List Lexeme)
    → Sequence (BranchWord first bs ⟫ Expression c) (Suite (SpellsStmts b)) us → IfBranches first (add_branch bs c b) us
branch_added first no_branches c b us w = end_nothing us (to_right w)
branch_added first (more_branches x y bs) c b us w = map_right (λ vs v. branches_add bs c b vs v)
    (to_right (to_right (to_right w)))

if_word : (first : Place) (c : Expr) (b : Stmts) (bs : Branches) {X : Spelling} (us : List Lexeme)
    → Sequence (IfBranches first (more_branches c b bs)) X us
    → Sequence (WordAt word.If first) (Expression c ⟫ Suite (SpellsStmts b) ⟫ SpellsBranches bs ⟫ X) us
if_word first c b bs us w = map_right (λ vs v. to_right v) (to_right (to_right w))

if_closed : (first : Place) (bs : Branches) (us : List Lexeme) → IfBranches first bs us
    → SpellsStmt (conditional first bs no_stmts) us
if_closed first no_branches us w = absurd w
if_closed first (more_branches c b bs) us w = begins_just (kind.Keyword word.If) first us
    (map_right (λ vs v. map_right (λ ws z. map_right (λ xs1 x. map_right (λ ys y. inr (refl, y)) x) z) v)
    (if_word first c b bs us (end_nothing us w)))

if_else : (first : Place) (bs : Branches) (o : Stmts) (us : List Lexeme)
    → Sequence (IfBranches first bs) (Word word.Else ⟫ Suite (SpellsStmts o)) us
    → SpellsStmt (conditional first bs o) us
if_else first no_branches o us w = absurd w.left
if_else first (more_branches c b bs) o us w = begins_just (kind.Keyword word.If) first us
    (map_right (λ vs v. map_right (λ ws z. map_right (λ xs1 x. map_right (λ ys y. inl y) x) z) v)
    (if_word first c b bs us w))

nest_done : (of : Nest) (body : Stmts) (site : Site) (ts : List Lexeme) → Sequence (BeforeStmts site.done site.block)
    (BeforeNest site.first of ⟫ Suite (SpellsStmts body)) ts → LedTo (after_nested of body site) ts
nest_done (while_body c) body site ts w = stmt_done site _ ts
    (map_right (λ us v. begins_just (kind.Keyword word.While) site.first us (to_right v)) w)
nest_done (for_body n e) body site ts w = stmt_done site _ ts
    (map_right (λ us v. begins_just (kind.Keyword word.For) site.first us (to_right (to_right (to_right v)))) w)
nest_done (branch_body bs c) body site ts w = map_right (λ us v. branch_added site.first bs c body us v) w
nest_done (else_body bs) body site ts w = stmt_done site _ ts
    (map_right (λ us v. if_else site.first bs body us (to_right v)) w)

dedented : (b : Block) (s : Stmt) (ss : Stmts) (t : Lexeme) (ts : List Lexeme) → t.kind ≡ kind.Dedent
    → BeforeStmts (more_stmts s ss) b ts
    → Sequence (BeforeBlock b) (SpellsStmts (more_stmts s ss) ⟫ Just kind.Dedent) (ts ++ (t ∷ []))
dedented b s ss t ts e w = map_right (λ us v. map_left (λ vs z. stmts_all s ss vs z) v)
    (to_right (grow {B = Just kind.Dedent} ts t w (just t _ e)))

suite_done : (b : Block) (s : Stmt) (ss : Stmts) (t : Lexeme) (ts : List Lexeme) → t.kind ≡ kind.Dedent
    → BeforeStmts (more_stmts s ss) b ts → LedTo (after_suite b (more_stmts s ss)) (ts ++ (t ∷ []))
suite_done (def_body h) s ss t ts e w = def_done h.start.owner h.start.first (function_of h (more_stmts s ss))
    (ts ++ (t ∷ []))
    (map_right (λ us v. def_whole h.start h.params us v) (to_right
    (map_right (λ us v. map_right (λ vs z. suite_from vs z) (to_right v))
    (to_right (dedented (def_body h) s ss t ts e w)))))
suite_done (nested first of done outer) s ss t ts e w = nest_done of (more_stmts s ss)
    (record { first = first; done = done; block = outer }) (ts ++ (t ∷ []))
    (map_right (λ us v. map_right (λ vs z. suite_from vs z) (to_right v))
    (to_right (dedented (nested first of done outer) s ss t ts e w)))

-- ---- statements

abbrev pub LeadMeans : Lead → TokenKind → Type 0
LeadMeans leads_pass k = k ≡ kind.Keyword word.Pass
LeadMeans leads_break k = k ≡ kind.Keyword word.Break
LeadMeans leads_continue k = k ≡ kind.Keyword word.Continue
LeadMeans leads_return k = k ≡ kind.Keyword word.Return
LeadMeans leads_assert k = k ≡ kind.Keyword word.Assert
LeadMeans leads_while k = k ≡ kind.Keyword word.While
LeadMeans leads_for k = k ≡ kind.Keyword word.For
LeadMeans leads_if k = k ≡ kind.Keyword word.If
LeadMeans leads_out k = k ≡ kind.Dedent
LeadMeans leads_other k = Unit {0}

lead_means : (k : TokenKind) → LeadMeans (lead_of k) k
lead_means (kind.Keyword word.Pass) = refl
lead_means (kind.Keyword word.Break) = refl
lead_means (kind.Keyword word.Continue) = refl
lead_means (kind.Keyword word.Return) = refl
lead_means (kind.Keyword word.Assert) = refl
lead_means (kind.Keyword word.While) = refl
lead_means (kind.Keyword word.For) = refl
lead_means (kind.Keyword word.If) = refl
lead_means kind.Dedent = refl
lead_means _ = tt

-- a line of one word
word_line : (w : Keyword) (site : Site) (s : Stmt) (t : Lexeme) (ts : List Lexeme) → t.kind ≡ kind.Keyword w
    → site.first ≡ t.place → ((us : List Lexeme) → Begins site.first (Word w ⟫ Just kind.Newline) us → SpellsStmt s us)
    → BeforeStmts site.done site.block ts → LedTo (line_ends (after_stmt site s)) (ts ++ (t ∷ []))
word_line w site s t ts e p f h = words_stand (a_kind kind.Newline) [] (after_stmt site s) (ts ++ (t ∷ []))
    (grow {B = WordAt w site.first} ts t h (t, e, p, refl))
    (λ us v. stmt_done site s us
    (map_right (λ vs z. f vs (begins_just (kind.Keyword w) site.first vs (map_right no_back z))) (to_right v)))

lead_stood : (site : Site) (t : Lexeme) (l : Lead) (ts : List Lexeme) → site.first ≡ t.place → LeadMeans l t.kind
    → BeforeStmts site.done site.block ts → Stood (lead_turn site t t.kind l) (ts ++ (t ∷ []))
lead_stood site t leads_pass ts p m h = word_line word.Pass site (pass site.first) t ts m p (λ us v. v) h
lead_stood site t leads_break ts p m h = word_line word.Break site (breaks site.first) t ts m p (λ us v. v) h
lead_stood site t leads_continue ts p m h = word_line word.Continue site (continues site.first) t ts m p (λ us v. v) h
lead_stood site t leads_return ts p m h = grow ts t h (t, m, p, refl)
lead_stood site t leads_assert ts p m h = grow ts t h (t, m, p, refl)
lead_stood site t leads_while ts p m h = grow ts t h (t, m, p, refl)
lead_stood site t leads_for ts p m h = grow ts t h (t, m, p, refl)
lead_stood site t leads_if ts p m h = grow ts t h (t, m, p, refl)
lead_stood site t leads_out ts p m h = out site.done site.block h
  where
    out : (done : Stmts) (b : Block) → BeforeStmts done b ts → Stood (end_suite done b) (ts ++ (t ∷ []))
    out no_stmts b h = tt
    out (more_stmts s ss) b h = suite_done b s ss t ts m h
lead_stood site t leads_other ts p m h = operand_stood (whole (in_line site.done site.block)) t (operand_start t.kind) ts
    (start_means t.kind) h

pub stmts_stood : (done : Stmts) (b : Block) (t : Lexeme) (ts : List Lexeme) → BeforeStmts done b ts
    → Stood (stmts_turn done b t t.kind) (ts ++ (t ∷ []))
stmts_stood done b t ts h = lead_stood (record { first = t.place; done = done; block = b }) t (lead_of t.kind) ts refl
    (lead_means t.kind) h

pub return_stood : (site : Site) (t : Lexeme) (ts : List Lexeme) → LedTo (return_due site) ts
    → Stood (return_turn site t t.kind) (ts ++ (t ∷ []))
return_stood site t ts w = on_kind t kind.Newline _ _ (ts ++ (t ∷ []))
    (λ e. stmt_done site (returns site.first None) (ts ++ (t ∷ []))
    (map_right (λ us v. begins_just (kind.Keyword word.Return) site.first us
    (map_right (λ vs z. start_nothing vs z) v))
    (to_right (grow {B = Just kind.Newline} ts t w (just t _ e)))))
    (operand_stood (whole (in_statement returned site)) t (operand_start t.kind) ts (start_means t.kind) w)

pub target_stood : (site : Site) (t : Lexeme) (ts : List Lexeme) → LedTo (target_due site) ts
    → Stood (target_turn site t t.kind) (ts ++ (t ∷ []))
target_stood site t ts w = on_kind t kind.Name _ _ (ts ++ (t ∷ []))
    (λ e. words_stand (a_kind (kind.Keyword word.In)) [] (operand (whole (in_statement (iterating (name_of_token t)) site)))
    (ts ++ (t ∷ [])) (to_right (grow {B = IsName (name_of_token t)} ts t w (is_name t e)))
    (λ us v. map_right (λ vs z. map_right no_back z) (to_right v))) tt

else_word : (bs : Branches) (site : Site) (ts us : List Lexeme) → Sequence (BeforeStmts site.done site.block)
    (IfBranches site.first bs ⟫ Word word.Else) ts
    → SpellsAllFixed (a_kind (kind.Operator sign.Colon) ∷ a_kind kind.Newline ∷ a_kind kind.Indent ∷ []) us
    → BeforeBlock (nested_in site (else_body bs)) (ts ++ us)
else_word bs site ts us w f =
    map_right (λ vs v. map_right (λ ws z. to_left (map_right (λ xs1 x. map_right no_back x) z)) v)
    (to_right (record { front = ts; back = us; all = refl; left = w; right = f }))

pub branch_stood : (bs : Branches) (site : Site) (t : Lexeme) (ts : List Lexeme) → LedTo (after_branch bs site) ts
    → Stood (branch_turn bs site t t.kind) (ts ++ (t ∷ []))
branch_stood bs site t ts w = on_kind t (kind.Keyword word.Elif) _ _ (ts ++ (t ∷ []))
    (λ e. map_right (λ us v. elif bs us v) (to_right (grow {B = Word word.Elif} ts t w (just t _ e))))
    (on_kind t (kind.Keyword word.Else) _ _ (ts ++ (t ∷ []))
    (λ e us f. end_nothing ((ts ++ (t ∷ [])) ++ us) (else_word bs site (ts ++ (t ∷ [])) us
    (to_right (grow {B = Word word.Else} ts t w (just t _ e))) f))
    (stmts_stood (closed_branches bs site) site.block t ts (stmt_done site (conditional site.first bs no_stmts) ts
    (map_right (λ us v. if_closed site.first bs us v) w))))
  where
    elif : (bs : Branches) (us : List Lexeme) → Sequence (IfBranches site.first bs) (Word word.Elif) us
        → BranchWord site.first bs us
    elif no_branches us v = absurd v.left
    elif (more_branches c b rest) us v = v

-- ---- the module

pub items_stood : (stage : HeaderStage) (top : Top) (t : Lexeme) (ts : List Lexeme) → LedTo (items stage top) ts
    → Stood (items_turn stage top t t.kind) (ts ++ (t ∷ []))
items_stood stage top t ts h = on_kind t kind.Name _ _ (ts ++ (t ∷ [])) (λ e. grow ts t h.1 (is_name t e))
    (on_kind t (kind.Operator sign.At) _ _ (ts ++ (t ∷ [])) (λ e. grow ts t h.1 (just_at t _ e))
    (on_kind t (kind.Keyword word.Def) _ _ (ts ++ (t ∷ [])) (λ e. grow ts t h.1 (just_at t _ e))
    (on_both t (kind.Keyword word.From) (takes_header stage) _ _ (ts ++ (t ∷ []))
    (λ e f. (f, h.0, grow ts t h.1 (just t _ e))) tt)))

-- the rest of a header line
abbrev ImportRest : List ℕ → Spelling
ImportRest imported = SpellsAllFixed (a_kind (kind.Keyword word.Import) ∷ a_form imported ∷ a_kind kind.Newline ∷ [])

header_whole : {B : Spelling} (source imported : List ℕ) (ts : List Lexeme)
    → Sequence ((B ⟫ Word word.From) ⟫ Named source) (ImportRest imported) ts → Sequence B (Header source imported) ts
header_whole source imported ts w = map_right (λ vs v. map_right
    (λ ws z. map_right (λ xs1 x. map_right (λ ys y. map_right no_back y) x) z) v) (to_right (to_right w))

no_items : {A : Type 0} {x : A} {xs : List A} → x ∷ xs ≡ [] → ⊥
no_items e = cc

abbrev top_with : Bool → Bool → List Item → Top
top_with d a is = record { imports_dataclass = d; imports_any = a; items = is }

dataclass_header : (stage : HeaderStage) (d a : Bool) (is : List Item) → takes_dataclasses stage ≡ true
    → AtStage stage (top_with d a is) → (ts : List Lexeme)
    → Sequence (BeforeItems (top_with d a is)) (Header (codes "dataclasses") (codes "dataclass")) ts
    → LedTo (items after_dataclasses (top_with true a is)) ts
dataclass_header after_future false false [] e s ts w = (
  (refl, refl, refl),
  end_nothing ts (map_right (λ vs v. end_nothing vs (no_front vs (map_left no_back v)))
      (to_right (map_left no_back w))),
)
dataclass_header after_future true a is e s ts w = absurd (false≢true (sym s.0))
dataclass_header after_future false true is e s ts w = absurd (false≢true (sym s.1))
dataclass_header after_future false false (x ∷ xs) e s ts w = absurd (no_items s.2)
dataclass_header after_dataclasses d a is e s ts w = absurd (false≢true e)
dataclass_header after_headers d a is e s ts w = absurd (false≢true e)

typing_header : (stage : HeaderStage) (d a : Bool) (is : List Item) → takes_header stage ≡ true
    → AtStage stage (top_with d a is) → (ts : List Lexeme)
    → Sequence (BeforeItems (top_with d a is)) (Header (codes "typing") (codes "Any")) ts
    → LedTo (items after_headers (top_with d true is)) ts
typing_header after_future d false [] e s ts w = (
  tt,
  end_nothing ts (map_right (λ vs v. map_left no_back v)
      (map_right (λ vs v. to_right (to_left v)) (to_right (map_left no_back w)))),
)
typing_header after_future d true is e s ts w = absurd (false≢true (sym s.1))
typing_header after_future d false (x ∷ xs) e s ts w = absurd (no_items s.2)
typing_header after_dataclasses d false [] e s ts w = (
  tt,
  end_nothing ts (map_right (λ vs v. map_left no_back v)
      (map_right (λ vs v. to_right (to_left v)) (to_right (map_left no_back w)))),
)
typing_header after_dataclasses d true is e s ts w = absurd (false≢true (sym s.1))
typing_header after_dataclasses d false (x ∷ xs) e s ts w = absurd (no_items s.2)
typing_header after_headers d a is e s ts w = absurd (false≢true e)

both_true : (a b : Bool) → (a && b) ≡ true → (a ≡ true) × (b ≡ true)
both_true true b e = (refl, e)
both_true false b e = cc

a_named : (t : Lexeme) (form : List ℕ) → (same_kind t.kind kind.Name && bytes_eq t.form form) ≡ true
    → Named form (t ∷ [])
a_named t form e = is_fixed_spells (a_form form) t e

pub importing_stood : (stage : HeaderStage) (top : Top) (t : Lexeme) (ts : List Lexeme) → LedTo (importing stage top) ts
    → Stood (importing_turn stage top t t.kind) (ts ++ (t ∷ []))
importing_stood stage top t ts h = stood_on ((same_kind t.kind kind.Name && bytes_eq t.form (codes "dataclasses"))
    && takes_dataclasses stage) _ _ (ts ++ (t ∷ []))
    (λ e. let b = both_true (same_kind t.kind kind.Name && bytes_eq t.form (codes "dataclasses"))
    (takes_dataclasses stage) e in
    words_stand (a_kind (kind.Keyword word.Import)) (a_form (codes "dataclass") ∷ a_kind kind.Newline ∷ [])
    (items after_dataclasses (record top { imports_dataclass = true })) (ts ++ (t ∷ []))
    (grow {B = Named (codes "dataclasses")} ts t h.2 (a_named t _ b.0))
    (λ us w. dataclass_header stage top.imports_dataclass top.imports_any top.items b.1 h.1 us
    (header_whole (codes "dataclasses") (codes "dataclass") us w)))
    (stood_on (same_kind t.kind kind.Name && bytes_eq t.form (codes "typing")) _ _ (ts ++ (t ∷ []))
    (λ e. words_stand (a_kind (kind.Keyword word.Import)) (a_form (codes "Any") ∷ a_kind kind.Newline ∷ [])
    (items after_headers (record top { imports_any = true })) (ts ++ (t ∷ []))
    (grow {B = Named (codes "typing")} ts t h.2 (a_named t _ e))
    (λ us w. typing_header stage top.imports_dataclass top.imports_any top.items h.0 h.1 us
    (header_whole (codes "typing") (codes "Any") us w))) tt)

main_name : (n : Name) → n.text ≡ codes "main" → (us : List Lexeme) → IsName n us → (t : Lexeme) × (t.kind ≡ kind.Name)
    × (t.form ≡ codes "main") × (n.place ≡ t.place) × (us ≡ t ∷ [])
main_name n e us (t, tk, is, u) = (t, tk, sym (ap (λ m. m.text) is) ∙ e, ap (λ m. m.place) is, u)

module_done : (top : Top) (n : Name) → n.text ≡ codes "main" → (us : List Lexeme)
    → Sequence ((BeforeItems top ⟫ IsName n) ⟫ Sign sign.LeftParenthesis)
    (SpellsAllFixed (a_kind (kind.Operator sign.RightParenthesis) ∷ a_kind kind.Newline ∷ a_kind kind.End ∷ [])) us
    → SpellsModule (module_of top n.place) us
module_done top n e us w =
    let last : Sequence (BeforeItems top) (LastLine n.place) us =
    map_right (λ vs v. map_left (main_name n e)
    (map_right (λ ws z. map_right (λ xs1 x. map_right (λ ys y. map_right no_back y) x) z) v))
    (to_right (to_right w)) in
    map_right (λ vs v. to_right v) (to_right (to_right last))

pub item_named_stood : (n : Name) (top : Top) (t : Lexeme) (ts : List Lexeme) → LedTo (item_named n top) ts
    → Stood (item_named_turn n top t t.kind) (ts ++ (t ∷ []))
item_named_stood n top t ts w = on_kind t (kind.Operator sign.Colon) _ _ (ts ++ (t ∷ []))
    (λ e. first_part (ann_whole (of_constant n top)) (ts ++ (t ∷ []))
    (to_right (grow {B = Sign sign.Colon} ts t w (just t _ e))))
    (on_kind t (kind.Operator sign.Equal) _ _ (ts ++ (t ∷ [])) (λ e.
    map_right (λ us v. map_left (λ vs z. end_nothing vs z) v)
    (to_right (grow {B = Sign sign.Equal} ts t w (just t _ e))))
    (on_both t (kind.Operator sign.LeftParenthesis) (bytes_eq n.text (codes "main")) _ _ (ts ++ (t ∷ []))
    (λ e f. words_stand (a_kind (kind.Operator sign.RightParenthesis)) (a_kind kind.Newline ∷ a_kind kind.End ∷ [])
    (ended (module_of top n.place)) (ts ++ (t ∷ []))
    (grow {B = Sign sign.LeftParenthesis} ts t w (just t _ e)) (λ us v. module_done top n
    (bytes_same n.text (codes "main") f) us v)) tt))

-- ---- classes

pub decorator_stood : (first : Place) (top : Top) (t : Lexeme) (ts : List Lexeme) → LedTo (decorator_due first top) ts
    → Stood (decorator_turn first top t t.kind) (ts ++ (t ∷ []))
decorator_stood first top t ts w = on_both t kind.Name (bytes_eq t.form (codes "dataclass")) _ _ (ts ++ (t ∷ []))
    (λ e f. words_stand (a_kind kind.Newline) (a_kind (kind.Keyword word.Class) ∷ []) (class_due first t.place top)
    {A = BeforeItems top ⟫ (SignAt sign.At first ⟫ NamedAt (codes "dataclass") t.place)} (ts ++ (t ∷ []))
    (to_right (grow {B = NamedAt (codes "dataclass") t.place} ts t w (
      t,
      e,
      bytes_same t.form (codes "dataclass") f,
      refl,
      refl,
    )))
    (λ us v. map_right (λ vs z. to_left (map_right (λ ws x. map_right no_back x) z)) (to_right v))) tt

pub class_stood : (first decorator : Place) (top : Top) (t : Lexeme) (ts : List Lexeme)
    → LedTo (class_due first decorator top) ts → Stood (class_turn first decorator top t t.kind) (ts ++ (t ∷ []))
class_stood first decorator top t ts w = on_kind t kind.Name _ _ (ts ++ (t ∷ []))
    (λ e. (refl, to_right (grow {B = IsName (name_of_token t)} ts t w (is_name t e)))) tt

head_plain : (c : ClassStart) → c.base ≡ None → (us : List Lexeme) → Sequence (ClassName c) Opening us → ClassHead c us
head_plain c e us w =
    subst (λ b. Sequence (ClassName c ⟫ Maybe (λ x. Sign sign.LeftParenthesis ⟫ IsName x ⟫ Sign sign.RightParenthesis)
    b) Opening us) (sym e) (map_left (λ vs v. end_nothing vs v) w)

pub class_named_stood : (c : ClassStart) (t : Lexeme) (ts : List Lexeme) → LedTo (class_named c) ts
    → Stood (class_named_turn c t t.kind) (ts ++ (t ∷ []))
class_named_stood c t ts h = on_kind t (kind.Operator sign.LeftParenthesis) _ _ (ts ++ (t ∷ []))
    (λ e. (h.0, to_right (grow {B = Sign sign.LeftParenthesis} ts t h.1 (just t _ e))))
    (on_kind t (kind.Operator sign.Colon) _ _ (ts ++ (t ∷ []))
    (λ e us f. end_nothing ((ts ++ (t ∷ [])) ++ us) (map_right (λ vs v. head_plain c h.0 vs v)
    (to_right (opened (ts ++ (t ∷ [])) us (grow {B = Sign sign.Colon} ts t h.1 (just t _ e)) f)))) tt)

base_head : (c : ClassStart) (b : Name) (us : List Lexeme)
    → Sequence (ClassName c ⟫ Sign sign.LeftParenthesis) (IsName b ⟫ SpellsAllFixed
    (a_kind (kind.Operator sign.RightParenthesis) ∷ a_kind (kind.Operator sign.Colon) ∷ a_kind kind.Newline
    ∷ a_kind kind.Indent ∷ [])) us
    → ClassHead (record c { base = Some b }) us
base_head c b us w =
    to_left
    (map_right
    (λ vs v. to_left
    (map_right (λ ws z. to_left z)
    (map_right (λ ws z. map_right (λ xs1 x. map_right (λ ys y. to_left (map_right (λ zs q. map_right no_back q) y)) x)
    z) v))) (to_right w))

pub base_stood : (c : ClassStart) (t : Lexeme) (ts : List Lexeme) → LedTo (base_due c) ts
    → Stood (base_turn c t t.kind) (ts ++ (t ∷ []))
base_stood c t ts h = on_kind t kind.Name _ _ (ts ++ (t ∷ []))
    (λ e. words_stand (a_kind (kind.Operator sign.RightParenthesis))
    (a_kind (kind.Operator sign.Colon) ∷ a_kind kind.Newline ∷ a_kind kind.Indent ∷ [])
    (members (record c { base = Some (name_of_token t) }) []) (ts ++ (t ∷ []))
    (grow {B = IsName (name_of_token t)} ts t h.1 (is_name t e)) (λ us v. end_nothing us
    (map_right (λ vs z. base_head c (name_of_token t) vs z) (to_right (to_right v))))) tt

class_done : (c : ClassStart) (ms : List Member) (us : List Lexeme) → Sequence (BeforeItems c.top ⟫ ClassHead c)
    (ClassBody ms ⟫ Just kind.Dedent) us → LedTo (after_class c ms) us
class_done c ms us w = (
  tt,
  item_done c.top (class_item c.first (class_def_of c ms)) us
      (map_right (λ vs v. begins_just (kind.Operator sign.At) c.first vs
      (to_right (to_right (to_right (to_right (to_right (map_right (λ ws z. suite_from ws z) (to_right v))))))))
      (to_right w)),
)

members_end_stood : (c : ClassStart) (ms : List Member) (t : Lexeme) (ts : List Lexeme) → BeforeMembers c ms ts
    → Stood (members_end c ms t.kind) (ts ++ (t ∷ []))
members_end_stood c [] t ts w = on_kind t (kind.Keyword word.Pass) _ _ (ts ++ (t ∷ []))
    (λ e. words_stand (a_kind kind.Newline) (a_kind kind.Dedent ∷ []) (after_class c []) (ts ++ (t ∷ []))
    (grow {B = Word word.Pass} ts t w (just t _ e))
    (λ us v. class_done c [] us (map_right (λ vs z. to_left (map_right (λ ws x. map_right no_back x) z))
    (map_left no_back (to_right v))))) tt
members_end_stood c (m ∷ ms) t ts w = on_kind t kind.Dedent _ _ (ts ++ (t ∷ []))
    (λ e. class_done c (m ∷ ms) (ts ++ (t ∷ [])) (to_right (grow {B = Just kind.Dedent} ts t w (just t _ e)))) tt

pub members_stood : (c : ClassStart) (ms : List Member) (t : Lexeme) (ts : List Lexeme) → LedTo (members c ms) ts
    → Stood (members_turn c ms t t.kind) (ts ++ (t ∷ []))
members_stood c ms t ts w = on_kind t kind.Name _ _ (ts ++ (t ∷ []))
    (λ e. words_stand (a_kind (kind.Operator sign.Colon)) [] (part_due no_anns []
    (ann_whole (of_field c ms (name_of_token t)))) (ts ++ (t ∷ [])) (grow {B = IsName (name_of_token t)} ts t w (is_name t e))
    (λ us v. first_part (ann_whole (of_field c ms (name_of_token t))) us
    (map_right (λ vs z. map_right no_back z) (to_right v))))
    (on_kind t (kind.Keyword word.Def) _ _ (ts ++ (t ∷ [])) (λ e. grow ts t w (just t _ e))
    (members_end_stood c ms t ts w))

-- ---- functions

pub def_stood : (owner : FunctionOwner) (first : Place) (t : Lexeme) (ts : List Lexeme) → LedTo (def_due owner first) ts
    → Stood (def_turn owner first t t.kind) (ts ++ (t ∷ []))
def_stood (of_module top) first t ts w = on_kind t kind.Name _ _ (ts ++ (t ∷ []))
    (λ e. words_stand (a_kind (kind.Operator sign.LeftParenthesis)) []
    (param_due (record { owner = of_module top; first = first; name = name_of_token t }) []) (ts ++ (t ∷ []))
    (to_right (grow {B = IsName (name_of_token t)} ts t w (is_name t e)))
    (λ us v. map_right (λ vs z. end_nothing vs (map_right no_back z)) (to_right v))) tt
def_stood (of_class c ms) first t ts w = on_kind t kind.Name _ _ (ts ++ (t ∷ []))
    (λ e. words_stand (a_kind (kind.Operator sign.LeftParenthesis)) (a_form (codes "self") ∷ [])
    (self_read (record { owner = of_class c ms; first = first; name = name_of_token t })) (ts ++ (t ∷ []))
    (to_right (grow {B = IsName (name_of_token t)} ts t w (is_name t e)))
    (λ us v. map_right (λ vs z. to_left (map_right (λ ws x. map_right no_back x) z)) (to_right v))) tt

self_owner : (d : DefStart) (owner : FunctionOwner) → d.owner ≡ owner → (t : Lexeme) (ts : List Lexeme) → SelfRead d owner ts
    → Stood (self_turn d t t.kind) (ts ++ (t ∷ []))
self_owner d (of_module top) is t ts w = absurd w
self_owner d (of_class c ms) is t ts w = on_kind t (kind.Operator sign.Comma) _ _ (ts ++ (t ∷ []))
    (λ e. map_right (λ us v. map_right (λ vs z. subst (λ o. ParamsOf o [] vs) (sym is)
    (map_right (λ ws x. end_nothing ws x) z)) (to_right v))
    (to_right (grow {B = Sign sign.Comma} ts t w (just t _ e))))
    (on_kind t (kind.Operator sign.RightParenthesis) _ _ (ts ++ (t ∷ []))
    (λ e. map_right
    (λ us v. map_right (λ vs z. map_left (λ ws x. subst (λ o. Parameters (is_in_class o) [] ws) (sym is)
    (map_right (λ xs1 y. inr (refl, y)) (end_nothing ws x))) z) (to_right v))
    (to_right (grow {B = Sign sign.RightParenthesis} ts t w (just t _ e)))) tt)

pub self_stood : (d : DefStart) (t : Lexeme) (ts : List Lexeme) → LedTo (self_read d) ts
    → Stood (self_turn d t t.kind) (ts ++ (t ∷ []))
self_stood d t ts w = self_owner d d.owner refl t ts w

pub param_stood : (d : DefStart) (ps : List Param) (t : Lexeme) (ts : List Lexeme) → LedTo (param_due d ps) ts
    → Stood (param_turn d ps t t.kind) (ts ++ (t ∷ []))
param_stood d ps t ts w = on_kind t kind.Name _ _ (ts ++ (t ∷ [])) (λ e. grow ts t w (is_name t e))
    (on_kind t (kind.Operator sign.RightParenthesis) _ _ (ts ++ (t ∷ []))
    (λ e. map_right (λ us v. map_right (λ vs z. map_left (λ ws x. params_of_all d.owner ps ws x) z) (to_right v))
    (to_right (grow {B = Sign sign.RightParenthesis} ts t w (just t _ e)))) tt)

pub param_named_stood : (d : DefStart) (ps : List Param) (n : Name) (t : Lexeme) (ts : List Lexeme)
    → LedTo (param_named d ps n) ts → Stood (param_named_turn d ps n t t.kind) (ts ++ (t ∷ []))
param_named_stood d ps n t ts w = on_kind t (kind.Operator sign.Colon) _ _ (ts ++ (t ∷ []))
    (λ e. first_part (ann_whole (of_param d ps n)) (ts ++ (t ∷ []))
    (to_right (grow {B = Sign sign.Colon} ts t w (just t _ e))))
    (param_more_stood d ps n None t ts (map_right (λ us v. end_nothing us v) w))

pub params_read_stood : (d : DefStart) (ps : List Param) (t : Lexeme) (ts : List Lexeme) → LedTo (params_read d ps) ts
    → Stood (params_read_turn d ps t t.kind) (ts ++ (t ∷ []))
params_read_stood d ps t ts w = on_kind t (kind.Operator sign.Arrow) _ _ (ts ++ (t ∷ []))
    (λ e. first_part (ann_whole (of_return d ps)) (ts ++ (t ∷ [])) (grow {B = Sign sign.Arrow} ts t w (just t _ e)))
    (on_kind t (kind.Operator sign.Colon) _ _ (ts ++ (t ∷ []))
    (λ e. suite_stood (def_body (record { start = d; params = ps; returns = None })) (ts ++ (t ∷ []))
    (λ us v. map_right (λ vs z. start_nothing vs z) v) (grow {B = Sign sign.Colon} ts t w (just t _ e))) tt)

-- ---- literals

pub literal_stood : (c : LiteralContext) (t : Lexeme) (ts : List Lexeme) → LedTo (literal_due c) ts
    → Stood (literal_turn c t t.kind) (ts ++ (t ∷ []))
literal_stood c t ts w = on_kind t kind.Int _ _ (ts ++ (t ∷ [])) (λ e. grow ts t w (refl, (t, e, refl, refl)))
    (on_kind t kind.Str _ _ (ts ++ (t ∷ [])) (λ e. grow ts t w (refl, (t, e, refl, refl)))
    (on_kind t (kind.Keyword word.True) _ _ (ts ++ (t ∷ [])) (λ e. grow ts t w (refl, just t _ e))
    (on_kind t (kind.Keyword word.False) _ _ (ts ++ (t ∷ [])) (λ e. grow ts t w (refl, just t _ e))
    (on_kind t (kind.Keyword word.None) _ _ (ts ++ (t ∷ [])) (λ e. grow ts t w (refl, just t _ e))
    (on_kind t (kind.Operator sign.Minus) _ _ (ts ++ (t ∷ [])) (λ e. grow ts t w (refl, just t _ e)) tt)))))

pub minus_stood : (c : LiteralContext) (us : List Lexeme) (t : Lexeme) (ts : List Lexeme) → LedTo (minus_read c us) ts
    → Stood (minus_turn c us t t.kind) (ts ++ (t ∷ []))
minus_stood c us t ts w = on_kind t kind.Int _ _ (ts ++ (t ∷ []))
    (λ e. map_right (λ vs v. let k = kept_join us (t ∷ []) vs v in (ap span k.0, k.1))
    (to_right (grow {B = Kept (t ∷ []) (IsNumber (digits_of t.text))} ts t w (refl, (t, e, refl, refl))))) tt

pub literal_read_stood : (c : LiteralContext) (l : Literal) (t : Lexeme) (ts : List Lexeme)
    → LedTo (literal_read c l) ts → Stood (literal_read_turn c l t t.kind) (ts ++ (t ∷ []))
literal_read_stood c l t ts w = finish_literal_stood c l t ts w
