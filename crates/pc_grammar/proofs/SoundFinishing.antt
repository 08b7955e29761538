-- The thing that a whole expression, annotation, literal or suite completes is spelled by its tokens.
use Rattle.std.proofs.Common.{◌≡◌, List, [], ◌∷◌, ◌++◌, Option, Some, None, refl, ap, sym, ◌∙◌, subst, inl, inr}
use Rattle.std.proofs.Common.{append-nil}
use Rattle.pc_source.specs.declared.place.Place.{Place}
use Rattle.pc_token.specs.declared.token.TokenKind.{TokenKind}
use Rattle.pc_token.specs.declared.token.TokenKind.TheVariants as kind
use Rattle.pc_token.specs.declared.token.Keyword.TheVariants as word
use Rattle.pc_token.specs.declared.token.Operator.TheVariants as sign
use Rattle.pc_token.specs.Lexeme.{Lexeme}
use Rattle.pc_tree.specs.Tree.{Name, Expr, name, attribute, index, Ann, Target, to_name, to_attribute, to_index}
use Rattle.pc_tree.specs.Tree.{Literal, Stmt, annotated, evaluates, Stmts, no_stmts, more_stmts, Param, Member, Item}
use Rattle.pc_tree.specs.Tree.{constant_item}
use Rattle.pc_tree.specs.NamesAlone.{name_of_tree}
use Rattle.pc_grammar.specs.Grammar.{Spelling, Sequence, ◌⟫◌, Begins, Just, Sign, IsName, Nothing, first_place}
use Rattle.pc_grammar.specs.Grammar.Expressions.{Spells, Expression, SpellsTarget}
use Rattle.pc_grammar.specs.Grammar.Statements.{Suite, SpellsStmt, SpellsStmts}
use Rattle.pc_grammar.specs.Grammar.Modules.{SpellsLiteral, SpellsParam, SpellsParams, Parameters, SpellsMember}
use Rattle.pc_grammar.specs.Grammar.Modules.{SpellsMembers, SpellsItem, SpellsItems}
use Rattle.pc_grammar.specs.Machine.Kinds.{a_kind, SpellsAllFixed, Ending, a_comma, a_colon, an_equal, a_line_end}
use Rattle.pc_grammar.specs.Machine.States.{Top, ClassStart, FunctionOwner, of_module, of_class, DefStart, Nest, while_body}
use Rattle.pc_grammar.specs.Machine.States.{for_body, branch_body, Block, def_body, Site, Begun, assigned}
use Rattle.pc_grammar.specs.Machine.States.{annotated_value}
use Rattle.pc_grammar.specs.Machine.States.{returned, asserted, asserted_with, looping, iterating, branching, in_line}
use Rattle.pc_grammar.specs.Machine.States.{in_statement, in_constant, of_constant, of_field, of_param, of_return}
use Rattle.pc_grammar.specs.Machine.States.{of_local, LiteralContext, default_of_param, default_of_field, Part, State}
use Rattle.pc_grammar.specs.Machine.States.{members}
use Rattle.pc_grammar.specs.Machine.Finishing.{add_stmt, add_item, suite_of, after_stmt, nested_in}
use Rattle.pc_grammar.specs.Machine.Finishing.{target_of_tree, if_plain, begin_value, begin_annotation, line_site}
use Rattle.pc_grammar.specs.Machine.Finishing.{finish_line, at_line_end, at_colon, finish_stmt, param, param_end}
use Rattle.pc_grammar.specs.Machine.Finishing.{param_more, field, finish_literal}
use Rattle.pc_grammar.specs.Fronts.{LedTo}
use Rattle.pc_grammar.specs.Fronts.Lines.{JustAt, Opening, BeforeItems, BeforeMembers, EachParam, ParamsOf, is_in_class}
use Rattle.pc_grammar.specs.Fronts.Lines.{BeforeParams, BeforeParam, BeforeLiteral, EachStmt, BeforeNest, BeforeBlock}
use Rattle.pc_grammar.specs.Fronts.Lines.{BeforeStmts, BeforeContext}
use Rattle.pc_grammar.specs.Fronts.Expressions.{Holds}
use Rattle.pc_grammar.proofs.Sequences.{to_right, to_left, map_left, map_right}
use Rattle.pc_grammar.proofs.Starts.{Starts, starts, starts_operand}
use Rattle.pc_grammar.proofs.Stood.{Stood, grow, just, on_kind, end_nothing, start_nothing}
use Rattle.pc_grammar.proofs.CompleteStatements.{no_front}
use Rattle.pc_grammar.proofs.SoundExpressions.{EndMeans}
use Rattle.pc_grammar.proofs.SoundBrackets.{Finishes, plain_some, name_holds}
use Rattle.pc_grammar.proofs.SoundAnnotations.{FinishesAnn}

-- ---- places

first_append : (a b : List Lexeme) → Starts a → first_place (a ++ b) ≡ first_place a
first_append [] b h = absurd h
first_append (t ∷ a) b h = refl

begins_front : {A X : Spelling} (p : Place) (ts : List Lexeme) → ((us : List Lexeme) → A us → Starts us)
    → Sequence (Begins p A) X ts → Begins p (A ⟫ X) ts
begins_front p ts st w = (
  w.left.0 ∙ sym (ap first_place w.all ∙ first_append w.front w.back (st w.front w.left.1)),
  record { front = w.front; back = w.back; all = w.all; left = w.left.1; right = w.right },
)

-- a token at the place of the whole
pub begins_just : {X : Spelling} (k : TokenKind) (p : Place) (ts : List Lexeme) → Sequence (JustAt k p) X ts
    → Begins p (Just k ⟫ X) ts
begins_just k p ts w = (
  w.left.2 ∙ sym (ap first_place (w.all ∙ ap (λ x. x ++ w.back) w.left.3)),
  record { front = w.front; back = w.back; all = w.all; left = (w.left.0, w.left.1, w.left.3); right = w.right },
)

name_begins : (n : Name) (us : List Lexeme) → IsName n us → Starts us
name_begins n us h = starts (name n) us h

target_begins : (target : Target) (us : List Lexeme) → SpellsTarget target us → Starts us
target_begins (to_name n) us h = starts (name n) us h
target_begins (to_attribute p e f) us h = starts (attribute p e f) us h
target_begins (to_index p e i) us h = starts (index p e i) us h

-- ---- one more statement, member, item

stmts_add : (ss : Stmts) (s : Stmt) (us : List Lexeme) → Sequence (EachStmt ss) (SpellsStmt s) us
    → EachStmt (add_stmt ss s) us
stmts_add no_stmts s us w = end_nothing us (no_front us w)
stmts_add (more_stmts x xs) s us w = map_right (λ vs v. stmts_add xs s vs v) (to_right w)

pub stmts_all : (s : Stmt) (ss : Stmts) (us : List Lexeme) → EachStmt (more_stmts s ss) us
    → SpellsStmts (more_stmts s ss) us
stmts_all s no_stmts us w = map_right (λ vs v. inr (refl, v)) w
stmts_all s (more_stmts x xs) us w = map_right (λ vs v. inl (stmts_all x xs vs v)) w

pub stmt_done : (site : Site) (s : Stmt) (ts : List Lexeme) → Sequence (BeforeStmts site.done site.block) (SpellsStmt s)
    ts → LedTo (after_stmt site s) ts
stmt_done site s ts w = map_right (λ us v. stmts_add site.done s us v) (to_right w)

members_add : (ms : List Member) (m : Member) (us : List Lexeme) → Sequence (SpellsMembers ms) (SpellsMember m) us
    → SpellsMembers (ms ++ (m ∷ [])) us
members_add [] m us w = end_nothing us (no_front us w)
members_add (x ∷ xs) m us w = map_right (λ vs v. members_add xs m vs v) (to_right w)

pub member_done : (c : ClassStart) (ms : List Member) (m : Member) (ts : List Lexeme)
    → Sequence (BeforeMembers c ms) (SpellsMember m) ts → LedTo (members c (ms ++ (m ∷ []))) ts
member_done c ms m ts w = map_right (λ us v. members_add ms m us v) (to_right w)

items_add : (is : List Item) (i : Item) (us : List Lexeme) → Sequence (SpellsItems is) (SpellsItem i) us
    → SpellsItems (is ++ (i ∷ [])) us
items_add [] i us w = end_nothing us (no_front us w)
items_add (x ∷ xs) i us w = map_right (λ vs v. items_add xs i vs v) (to_right w)

pub item_done : (top : Top) (i : Item) (ts : List Lexeme) → Sequence (BeforeItems top) (SpellsItem i) ts
    → BeforeItems (add_item top i) ts
item_done top i ts w = map_right (λ us v. items_add top.items i us v) (to_right w)

-- ---- suites

pub no_back : {A : Spelling} (us : List Lexeme) → Sequence A Nothing us → A us
no_back {A = A} us w = subst A (sym (w.all ∙ ap (λ x. w.front ++ x) w.right ∙ append-nil w.front)) w.left

-- the rest of what begins a suite
pub opened : {A : Spelling} (ts us : List Lexeme) → Sequence A (Sign sign.Colon) ts
    → SpellsAllFixed (a_kind kind.Newline ∷ a_kind kind.Indent ∷ []) us → Sequence A Opening (ts ++ us)
opened ts us w f = map_right (λ vs v. to_left v)
    (to_right (record { front = ts; back = us; all = refl; left = w; right = map_right no_back f }))

pub suite_from : {A : Spelling} (us : List Lexeme) → Sequence Opening (A ⟫ Just kind.Dedent) us → Suite A us
suite_from us w = to_right (to_right w)

-- a suite that begins
pub suite_stood : (b : Block) {A : Spelling} (ts : List Lexeme)
    → ((us : List Lexeme) → Sequence A Opening us → BeforeBlock b us) → Sequence A (Sign sign.Colon) ts
    → LedTo (suite_of b) ts
suite_stood b ts f w us h = end_nothing (ts ++ us) (f (ts ++ us) (opened ts us w h))

-- ---- parameters

params_add : (ps : List Param) (p : Param) (us : List Lexeme)
    → Sequence (EachParam ps) (SpellsParam p ⟫ Sign sign.Comma) us → EachParam (ps ++ (p ∷ [])) us
params_add [] p us w = map_right (λ vs v. end_nothing vs v) (no_front us w)
params_add (x ∷ xs) p us w = map_right (λ vs v. map_right (λ ws z. params_add xs p ws z) (to_right v)) (to_right w)

params_last : (ps : List Param) (p : Param) (us : List Lexeme) → Sequence (EachParam ps) (SpellsParam p) us
    → SpellsParams (ps ++ (p ∷ [])) us
params_last [] p us w = map_right (λ vs v. inr (refl, v)) (end_nothing us (no_front us w))
params_last (x ∷ xs) p us w = map_right (λ vs v. inl (map_right (λ ws z. params_last xs p ws z) (to_right v)))
    (to_right w)

params_all : (ps : List Param) (us : List Lexeme) → EachParam ps us → SpellsParams ps us
params_all [] us h = h
params_all (x ∷ xs) us w = map_right (λ vs v. inl (map_right (λ ws z. params_all xs ws z) v)) w

params_of_add : (owner : FunctionOwner) (ps : List Param) (p : Param) (us : List Lexeme)
    → Sequence (ParamsOf owner ps) (SpellsParam p ⟫ Sign sign.Comma) us → ParamsOf owner (ps ++ (p ∷ [])) us
params_of_add (of_module top) ps p us w = params_add ps p us w
params_of_add (of_class c ms) ps p us w = map_right (λ vs v. map_right (λ ws z. params_add ps p ws z) (to_right v))
    (to_right w)

params_of_last : (owner : FunctionOwner) (ps : List Param) (p : Param) (us : List Lexeme)
    → Sequence (ParamsOf owner ps) (SpellsParam p) us → Parameters (is_in_class owner) (ps ++ (p ∷ [])) us
params_of_last (of_module top) ps p us w = params_last ps p us w
params_of_last (of_class c ms) ps p us w = map_right (λ vs v.
    inl (map_right (λ ws z. params_last ps p ws z) (to_right v))) (to_right w)

pub params_of_all : (owner : FunctionOwner) (ps : List Param) (us : List Lexeme) → ParamsOf owner ps us
    → Parameters (is_in_class owner) ps us
params_of_all (of_module top) ps us h = params_all ps us h
params_of_all (of_class c ms) ps us w = map_right (λ vs v. inl (map_right (λ ws z. params_all ps ws z) v)) w

param_end_stood : (d : DefStart) (ps : List Param) (p : Param) (t : Lexeme) (ts : List Lexeme)
    → Sequence (BeforeParams d ps) (SpellsParam p) ts → Stood (param_end d ps p t.kind) (ts ++ (t ∷ []))
param_end_stood d ps p t ts w = on_kind t (kind.Operator sign.Comma) _ _ (ts ++ (t ∷ []))
    (λ e. map_right (λ us v. map_right (λ vs z. params_of_add d.owner ps p vs z) (to_right v))
    (to_right (to_right (grow {B = Sign sign.Comma} ts t w (just t _ e)))))
    (on_kind t (kind.Operator sign.RightParenthesis) _ _ (ts ++ (t ∷ []))
    (λ e. map_right (λ us v. map_right (λ vs z. map_left (λ ws x. params_of_last d.owner ps p ws x) (to_left z))
    (to_right v)) (to_right (to_right (grow {B = Sign sign.RightParenthesis} ts t w (just t _ e))))) tt)

-- a parameter without a default
no_default : (n : Name) (a : Option Ann) (us : List Lexeme) → BeforeParam n a us → SpellsParam (param n a None) us
no_default n a us w = map_right (λ vs v. end_nothing vs v) w

pub param_more_stood : (d : DefStart) (ps : List Param) (n : Name) (a : Option Ann) (t : Lexeme) (ts : List Lexeme)
    → Sequence (BeforeParams d ps) (BeforeParam n a) ts → Stood (param_more d ps n a t.kind) (ts ++ (t ∷ []))
param_more_stood d ps n a t ts w = on_kind t (kind.Operator sign.Equal) _ _ (ts ++ (t ∷ []))
    (λ e. to_right (grow {B = Sign sign.Equal} ts t w (just t _ e)))
    (param_end_stood d ps (param n a None) t ts (map_right (no_default n a) w))

-- ---- whole annotations

begins_name : (n : Name) (p : Place) {X : Spelling} (ts : List Lexeme) → Sequence (Begins p (IsName n)) X ts
    → Begins p (IsName n ⟫ X) ts
begins_name n p ts w = begins_front p ts (name_begins n) w

pub finishes_ann : FinishesAnn
finishes_ann (of_constant n top) a us t ts w = on_kind t (kind.Operator sign.Equal) _ _ (ts ++ (t ∷ []))
    (λ e. to_right (grow {B = Sign sign.Equal} ts t (map_right (λ vs v. to_right (map_right (λ ws k. k.1) v))
    (to_right w)) (just t _ e))) tt
finishes_ann (of_field c ms n) a us t ts w = on_kind t (kind.Operator sign.Equal) _ _ (ts ++ (t ∷ []))
    (λ e. to_right (grow {B = Sign sign.Equal} ts t (map_right (λ vs v. map_right (λ ws k. k.1) v) (to_right w))
    (just t _ e)))
    (on_kind t kind.Newline _ _ (ts ++ (t ∷ []))
    (λ e. member_done c ms (field n a None) (ts ++ (t ∷ []))
    (map_right
    (λ vs v. to_right (to_right (map_left (λ ws z. map_right (λ xs1 k. k.1) z)
    (map_right (λ ws z. start_nothing ws z) v))))
    (to_right (grow {B = Just kind.Newline} ts t (to_right w) (just t _ e))))) tt)
finishes_ann (of_param d ps n) a us t ts w = param_more_stood d ps n (Some a) t ts
    (map_right (λ vs v. to_right (map_right (λ ws k. k.1) v)) (to_right w))
finishes_ann (of_return d ps) a us t ts w = on_kind t (kind.Operator sign.Colon) _ _ (ts ++ (t ∷ []))
    (λ e. suite_stood (def_body (record { start = d; params = ps; returns = Some a })) (ts ++ (t ∷ []))
    (λ vs v. to_right v) (grow {B = Sign sign.Colon} ts t (map_right (λ vs v. map_right (λ ws k. k.1) v)
    (to_right w)) (just t _ e))) tt
finishes_ann (of_local n site) a us t ts w = on_kind t (kind.Operator sign.Equal) _ _ (ts ++ (t ∷ []))
    (λ e. to_right (grow {B = Sign sign.Equal} ts t (map_right (λ vs v. map_right (λ ws k. k.1) v) (to_right w))
    (just t _ e)))
    (on_kind t kind.Newline _ _ (ts ++ (t ∷ []))
    (λ e. stmt_done site (annotated site.first n a None) (ts ++ (t ∷ []))
    (map_right (λ vs v. begins_name n site.first vs (to_right
    (to_right (map_left (λ ws z. map_right (λ xs1 k. k.1) z) (map_right (λ ws z. start_nothing ws z) v)))))
    (to_right (grow {B = Just kind.Newline} ts t (to_right w) (just t _ e))))) tt)

-- ---- literals

pub finish_literal_stood : (c : LiteralContext) (l : Literal) (t : Lexeme) (ts : List Lexeme)
    → Sequence (BeforeLiteral c) (SpellsLiteral l) ts → Stood (finish_literal c l t.kind) (ts ++ (t ∷ []))
finish_literal_stood (default_of_param d ps n a) l t ts w = param_end_stood d ps (param n a (Some l)) t ts
    (map_right (λ us v. map_right (λ vs z. z) (to_right (to_right v))) (to_right w))
finish_literal_stood (default_of_field c ms n a) l t ts w = on_kind t kind.Newline _ _ (ts ++ (t ∷ []))
    (λ e. member_done c ms (field n a (Some l)) (ts ++ (t ∷ []))
    (map_right (λ us v. to_right (to_right (map_right (λ vs z. to_left z) (to_right v))))
    (to_right (to_right (grow {B = Just kind.Newline} ts t w (just t _ e)))))) tt

-- ---- whole expressions

target_some : (m : Expr) (target : Target) → target_of_tree m ≡ Some target → (us : List Lexeme) → Spells m us
    → SpellsTarget target us
target_some (name n) (to_name m) e us h = let is : n ≡ m = cc in subst (λ x. Spells (name x) us) is h
target_some (name n) (to_attribute p x f) e us h = cc
target_some (name n) (to_index p x i) e us h = cc
target_some (attribute q x f) target e us h = let is : to_attribute q x f ≡ target = cc in
    subst (λ z. SpellsTarget z us) is h
target_some (index q x i) target e us h = let is : to_index q x i ≡ target = cc in subst (λ z. SpellsTarget z us) is h
target_some _ target e us h = cc

target_holds : (p : Part) (target : Target) → if_plain p.plain (target_of_tree p.tree) ≡ Some target
    → (us : List Lexeme) → Holds 0 p us → SpellsTarget target us
target_holds p target e us h = let b = plain_some p.plain (target_of_tree p.tree) target e in
    target_some p.tree target b.1 us (h.plain b.0)

part_first : (p : Part) (us : List Lexeme) → Holds 0 p us → first_place p.tokens ≡ first_place us
part_first p us h = ap first_place h.tokens

value_begun : (o : Option Target) (done : Stmts) (b : Block) (p : Part) (t : Lexeme) (ts : List Lexeme)
    → if_plain p.plain (target_of_tree p.tree) ≡ o → t.kind ≡ kind.Operator sign.Equal
    → Sequence (BeforeStmts done b) (Holds 0 p) ts → Stood (begin_value o (line_site done b p)) (ts ++ (t ∷ []))
value_begun None done b p t ts is e w = tt
value_begun (Some target) done b p t ts is e w =
    map_right (λ us v. map_left (λ vs h. (part_first p vs h, target_holds p target is vs h)) v)
    (to_right (grow {B = Sign sign.Equal} ts t w (just t _ e)))

annotation_begun : (o : Option Name) (done : Stmts) (b : Block) (p : Part) (t : Lexeme) (ts : List Lexeme)
    → if_plain p.plain (name_of_tree p.tree) ≡ o → t.kind ≡ kind.Operator sign.Colon
    → Sequence (BeforeStmts done b) (Holds 0 p) ts → Stood (begin_annotation o (line_site done b p)) (ts ++ (t ∷ []))
annotation_begun None done b p t ts is e w = tt
annotation_begun (Some n) done b p t ts is e w = record {
  front = ts ++ (t ∷ []);
  back = [];
  all = sym (append-nil (ts ++ (t ∷ [])));
  left = map_right (λ us v. map_left (λ vs h. (part_first p vs h, name_holds p n is vs h)) v)
      (to_right (grow {B = Sign sign.Colon} ts t w (just t _ e)));
  right = (refl, refl);
}

holds_spelled : (p : Part) (us : List Lexeme) → Holds 0 p us → Expression p.tree us
holds_spelled p us h = h.spelled

line_evaluates : (p : Part) (us : List Lexeme) → Sequence (Holds 0 p) (Just kind.Newline) us
    → SpellsStmt (evaluates (first_place p.tokens) p.tree) us
line_evaluates p us w = (
  part_first p w.front w.left ∙ sym (ap first_place w.all
      ∙ first_append w.front w.back (starts_operand 0 p.tree w.front w.left.spelled)),
  map_left (holds_spelled p) w,
)

finish_line_stood : (done : Stmts) (b : Block) (p : Part) (t : Lexeme) (e : Ending) (ts : List Lexeme)
    → EndMeans e t.kind → Sequence (BeforeStmts done b) (Holds 0 p) ts
    → Stood (finish_line p (line_site done b p) e) (ts ++ (t ∷ []))
finish_line_stood done b p t a_line_end ts e w = stmt_done (line_site done b p)
    (evaluates (first_place p.tokens) p.tree) (ts ++ (t ∷ []))
    (map_right (line_evaluates p) (to_right (grow {B = Just kind.Newline} ts t w (just t _ e))))
finish_line_stood done b p t an_equal ts e w = value_begun (if_plain p.plain (target_of_tree p.tree)) done b p t ts refl
    e w
finish_line_stood done b p t a_colon ts e w = annotation_begun (if_plain p.plain (name_of_tree p.tree)) done b p t ts
    refl e w
finish_line_stood done b p t _ ts e w = tt

-- the expression of a statement, and one more token
behind_begun : {S B : Spelling} (C : Spelling) (p : Part) (t : Lexeme) (ts : List Lexeme) → C (t ∷ [])
    → Sequence (S ⟫ B) (Holds 0 p) ts → Sequence S ((B ⟫ Expression p.tree) ⟫ C) (ts ++ (t ∷ []))
behind_begun C p t ts c w = map_right (λ us v. to_left (map_right (λ vs z. map_left (holds_spelled p) z) v))
    (to_right (to_right (grow {B = C} ts t w c)))

at_end : (s : State) (e : Ending) (t : Lexeme) (ts : List Lexeme) → EndMeans e t.kind
    → (t.kind ≡ kind.Newline → LedTo s ts) → Stood (at_line_end s e) ts
at_end s a_line_end t ts m h = h m
at_end s _ t ts m h = tt

at_suite : (s : State) (e : Ending) (t : Lexeme) (ts : List Lexeme) → EndMeans e t.kind
    → (t.kind ≡ kind.Operator sign.Colon → LedTo s ts) → Stood (at_colon s e) ts
at_suite s a_colon t ts m h = h m
at_suite s _ t ts m h = tt

nest_stood : (site : Site) (of : Nest) {B : Spelling} (p : Part) (t : Lexeme) (ts : List Lexeme)
    → ((us : List Lexeme) → Sequence B (Expression p.tree) us → BeforeNest site.first of us)
    → t.kind ≡ kind.Operator sign.Colon → Sequence (BeforeStmts site.done site.block ⟫ B) (Holds 0 p) ts
    → LedTo (suite_of (nested_in site of)) (ts ++ (t ∷ []))
nest_stood site of p t ts f e w = suite_stood (nested_in site of) (ts ++ (t ∷ [])) (λ us v. to_right v)
    (to_left (map_right (λ us v. map_left f v) (behind_begun (Sign sign.Colon) p t ts (just t _ e) w)))

finish_stmt_stood : (begun : Begun) (p : Part) (site : Site) (t : Lexeme) (e : Ending) (ts : List Lexeme)
    → EndMeans e t.kind → Sequence (BeforeContext (in_statement begun site)) (Holds 0 p) ts
    → Stood (finish_stmt begun p site e) (ts ++ (t ∷ []))
finish_stmt_stood (assigned target) p site t e ts m w = at_end _ e t (ts ++ (t ∷ [])) m
    (λ k. stmt_done site _ (ts ++ (t ∷ []))
    (map_right (λ us v. begins_front site.first us (target_begins target)
    (map_right (λ vs z. z) (to_right (to_right v)))) (behind_begun (Just kind.Newline) p t ts (just t _ k) w)))
finish_stmt_stood (annotated_value n a) p site t e ts m w = at_end _ e t (ts ++ (t ∷ [])) m
    (λ k. stmt_done site _ (ts ++ (t ∷ []))
    (map_right (λ us v. begins_name n site.first us
    (to_right (to_right (map_right (λ vs z. to_left z) (to_right (to_right v))))))
    (behind_begun (Just kind.Newline) p t ts (just t _ k) w)))
finish_stmt_stood returned p site t e ts m w = at_end _ e t (ts ++ (t ∷ [])) m (λ k. stmt_done site _ (ts ++ (t ∷ []))
    (map_right (λ us v. begins_just (kind.Keyword word.Return) site.first us (to_right v))
    (behind_begun (Just kind.Newline) p t ts (just t _ k) w)))
finish_stmt_stood asserted p site t a_line_end ts m w = stmt_done site _ (ts ++ (t ∷ []))
    (map_right (λ us v. begins_just (kind.Keyword word.Assert) site.first us
    (map_right (λ vs z. map_right (λ ws x. start_nothing ws x) z) (to_right v)))
    (behind_begun (Just kind.Newline) p t ts (just t _ m) w))
finish_stmt_stood asserted p site t a_comma ts m w = behind_begun (Sign sign.Comma) p t ts (just t _ m) w
finish_stmt_stood asserted p site t _ ts m w = tt
finish_stmt_stood (asserted_with condition) p site t e ts m w = at_end _ e t (ts ++ (t ∷ [])) m
    (λ k. stmt_done site _ (ts ++ (t ∷ []))
    (map_right (λ us v. begins_just (kind.Keyword word.Assert) site.first us
    (to_right (map_right (λ vs z. to_left z) (to_right (to_right v)))))
    (behind_begun (Just kind.Newline) p t ts (just t _ k) w)))
finish_stmt_stood looping p site t e ts m w = at_suite _ e t (ts ++ (t ∷ [])) m
    (λ k. nest_stood site (while_body p.tree) p t ts (λ us v. v) k w)
finish_stmt_stood (iterating target) p site t e ts m w = at_suite _ e t (ts ++ (t ∷ [])) m
    (λ k. nest_stood site (for_body target p.tree) p t ts (λ us v. v) k w)
finish_stmt_stood (branching bs) p site t e ts m w = at_suite _ e t (ts ++ (t ∷ [])) m
    (λ k. nest_stood site (branch_body bs p.tree) p t ts (λ us v. v) k w)

name_place : (n : Name) (us : List Lexeme) {X : Spelling} → Sequence (IsName n) X us → n.place ≡ first_place us
name_place n us w = ap (λ m. m.place) w.left.2 ∙ sym (ap first_place (w.all ∙ ap (λ x. x ++ w.back) w.left.3))

constant_spells : (n : Name) (a : Option Ann) (e : Expr) (us : List Lexeme)
    → Sequence ((BeforeParam n a ⟫ Sign sign.Equal) ⟫ Expression e) (Just kind.Newline) us
    → SpellsItem (constant_item n.place (record { name = n; annotation = a; value = e })) us
constant_spells n a e us w = let v = to_right (to_right (to_right w)) in (name_place n us v, v)

pub finishes : Finishes
finishes (in_line done b) p t e ts m w = finish_line_stood done b p t e ts m w
finishes (in_statement begun site) p t e ts m w = finish_stmt_stood begun p site t e ts m w
finishes (in_constant n a top) p t e ts m w = at_end _ e t (ts ++ (t ∷ [])) m (λ k. (
  tt,
  item_done top _ (ts ++ (t ∷ []))
      (map_right (constant_spells n a p.tree) (behind_begun (Just kind.Newline) p t ts (just t _ k) w)),
))
