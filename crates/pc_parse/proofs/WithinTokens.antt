-- The whole expressions and annotations of tokens within a text begin within it, and so does their refusal.
use Rattle.std.proofs.Common.{◌≡◌, ℕ, zero, suc, ◌≤◌, Bool, true, false, if◌then◌else◌, List, [], ◌∷◌, ◌++◌, map}
use Rattle.std.proofs.Common.{Option, Some, None, Result, Ok, Err, sym, ap, subst, inl, inr, arith}
use Rattle.std.specs.Prelude.{nat_lt, ◌⊎◌, IfErr}
use Rattle.pc_source.specs.declared.place.Place.{Place}
use Rattle.pc_source.specs.declared.fault.Refusal.{Refusal}
use Rattle.pc_source.specs.declared.fault.Fault.{Fault}
use Rattle.pc_source.specs.declared.fault.Fault.TheVariants as fault
use Rattle.pc_source.specs.Answers.{OnRefusal}
use Rattle.pc_source.specs.Stream.{ComesAs, RefusesWithin}
use Rattle.pc_source.specs.Within.{IsWithin}
use Rattle.pc_token.specs.declared.token.Token.{Token}
use Rattle.pc_token.specs.Lexeme.{Lexeme}
use Rattle.pc_token.specs.Within.{AreWithin}
use Rattle.pc_tree.specs.Tree.{Name, Expr, name, number, text, truth, nothing, tuple, list, dict, negative, negation}
use Rattle.pc_tree.specs.Tree.{binary, compare, is_none, is_not_none, conjunction, disjunction, attribute, index, call}
use Rattle.pc_tree.specs.Tree.{no_exprs, more_exprs, Ann, named, none_type, applied, applied_empty, union, Target}
use Rattle.pc_tree.specs.Tree.{to_name, to_attribute, to_index, Stmt, pass, breaks, continues, returns, asserts}
use Rattle.pc_tree.specs.Tree.{annotated, assigns, evaluates, while_loop, for_loop, conditional, Stmts, no_stmts}
use Rattle.pc_tree.specs.Tree.{more_stmts, Branches, no_branches, more_branches, Param, FuncDef, Member, field_member}
use Rattle.pc_tree.specs.Tree.{method_member, Item, constant_item, class_item, def_item, Module}
use Rattle.pc_tree.specs.Depth.{Whole, depth_limit, place_of, place_of_ann, whole_expr, whole_ann, whole_target}
use Rattle.pc_tree.specs.Depth.{optional_exprs, optional_anns, wholes_of_stmt, wholes_of_stmts, wholes_of_branches}
use Rattle.pc_tree.specs.Depth.{wholes_of_params, wholes_of_def, wholes_of_members, wholes_of_item, wholes_of_items}
use Rattle.pc_tree.specs.Depth.{first_too_deep}
use Rattle.pc_grammar.specs.Grammar.{Spelling, ◌⟫◌, At, Begins, Maybe, Rest, IsName, AfterComma, first_place}
use Rattle.pc_grammar.specs.Grammar.{last_place}
use Rattle.pc_grammar.specs.Grammar.Expressions.{Wrapped, Spells, Expression, SpellsTarget}
use Rattle.pc_grammar.specs.Grammar.Annotations.{Annotation}
use Rattle.pc_grammar.specs.Grammar.Statements.{Suite, SpellsStmt, SpellsStmts, SpellsBranches}
use Rattle.pc_grammar.specs.Grammar.Modules.{SpellsParam, SpellsParams, Parameters, SpellsDef}
use Rattle.pc_grammar.specs.Grammar.Modules.{SpellsMembers}
use Rattle.pc_grammar.specs.Grammar.Modules.{ClassBody, SpellsItem, SpellsItems, SpellsModule}
use Rattle.pc_grammar.specs.Faults.{IsRefusal, IsMisfit}
use Rattle.pc_reader.specs.Reading.{lexeme}
use Rattle.pc_parse.specs.Answering.{IsRefusedByTokens, IsFaulty}

-- ---- parts of a list of tokens

pub front : (len : ℕ) (xs ys : List Lexeme) → AreWithin len (xs ++ ys) → AreWithin len xs
front len [] ys h = tt
front len (x ∷ xs) ys h = (h.0, front len xs ys h.1)

pub back : (len : ℕ) (xs ys : List Lexeme) → AreWithin len (xs ++ ys) → AreWithin len ys
back len [] ys h = h
back len (x ∷ xs) ys h = back len xs ys h.1

first_within : (len : ℕ) (ts : List Lexeme) → AreWithin len ts → (first_place ts).start ≤ len
first_within len [] h = omega arith
first_within len (t ∷ ts) h = omega (arith, h.0.0, h.0.1)

last_within : (len : ℕ) (ts : List Lexeme) → AreWithin len ts → (last_place ts).end ≤ len
last_within len [] h = omega arith
last_within len (t ∷ []) h = h.0.1
last_within len (t ∷ u ∷ ts) h = last_within len (u ∷ ts) h.1

-- these begin within the length
abbrev pub BeginWithin : ℕ → List Whole → Type 0
BeginWithin len [] = Unit {0}
BeginWithin len (w ∷ ws) = (w.start ≤ len) × BeginWithin len ws

both_begin : (len : ℕ) (ws us : List Whole) → BeginWithin len ws → BeginWithin len us → BeginWithin len (ws ++ us)
both_begin len [] us h g = g
both_begin len (w ∷ ws) us h g = (h.0, both_begin len ws us h.1 g)

-- of tokens of this part of the grammar that stand within the length this holds
pub record Tells (len : ℕ) (A : Spelling) (Q : Type 0) : Type 0 where
  pub over : (ts : List Lexeme) → AreWithin len ts → A ts → Q

module _ {len : ℕ} where
  pub of_left : {A B : Spelling} {Q : Type 0} → Tells len A Q → Tells len (A ⟫ B) Q
  of_left f =
      record {
        over = λ ts h s. f.over s.front (front len s.front s.back (subst (λ us. AreWithin len us) s.all h))
            s.left;
      }

  pub of_right : {A B : Spelling} {Q : Type 0} → Tells len B Q → Tells len (A ⟫ B) Q
  of_right f =
      record {
        over = λ ts h s. f.over s.back (back len s.front s.back (subst (λ us. AreWithin len us) s.all h)) s.right;
      }

  pub of_both : {A B : Spelling} {P Q : Type 0} → Tells len A P → Tells len B Q → Tells len (A ⟫ B) (P × Q)
  of_both f g = record {
    over = λ ts h s.
        let here = subst (λ us. AreWithin len us) s.all h in
        (f.over s.front (front len s.front s.back here) s.left, g.over s.back (back len s.front s.back here) s.right);
  }

  -- in parentheses
  pub of_wrapped : {A : Spelling} {Q : Type 0} → (n : ℕ) → Tells len A Q → Tells len (Wrapped n A) Q
  of_wrapped zero f = f
  of_wrapped (suc n) f = of_right (of_left (of_wrapped n f))

  pub of_at : {A : Spelling} → (p : Place) → Tells len (At p A) (p.start ≤ len)
  of_at p = record { over = λ ts h s. subst (λ (q : Place). q.start ≤ len) (sym s.0) (first_within len ts h) }

  pub of_first : {A : Spelling} → (p : Place) → Tells len (Begins p A) (p.start ≤ len)
  of_first p = record { over = λ ts h s. subst (λ (q : Place). q.start ≤ len) (sym s.0) (first_within len ts h) }

  pub of_begins : {A : Spelling} {Q : Type 0} → (p : Place) → Tells len A Q → Tells len (Begins p A) Q
  of_begins p f = record { over = λ ts h s. f.over ts h s.1 }

  pub of_name : (n : Name) → Tells len (IsName n) (n.place.start ≤ len)
  of_name n = record {
    over = λ ts h s.
        let one : AreWithin len (s.0 ∷ []) = subst (λ us. AreWithin len us) s.3 h in
        subst (λ (m : Name). m.place.start ≤ len) (sym s.2) (omega (arith, one.0.0, one.0.1));
  }

-- ---- whole expressions and annotations

pub node_within : (len : ℕ) (e : Expr) → Tells len (Spells e) ((place_of e).start ≤ len)
node_within len (name n) = of_name n
node_within len (number p digits) = of_at p
node_within len (text p characters) = of_at p
node_within len (truth p b) = of_at p
node_within len (nothing p) = of_at p
node_within len (tuple p no_exprs) = of_at p
node_within len (tuple p (more_exprs x xs)) = of_at p
node_within len (list p xs) = of_at p
node_within len (dict p es) = of_at p
node_within len (negative p e) = of_at p
node_within len (negation p e) = of_at p
node_within len (binary p o l r) = of_at p
node_within len (compare p o l r) = of_at p
node_within len (is_none p e) = of_at p
node_within len (is_not_none p e) = of_at p
node_within len (conjunction p l r) = of_at p
node_within len (disjunction p l r) = of_at p
node_within len (attribute p e f) = of_at p
node_within len (index p e i) = of_at p
node_within len (call p e xs ks) = of_at p

-- a fact about a node holds of its whole expression
pub of_expression : {len : ℕ} {Q : Type 0} → (e : Expr) → Tells len (Spells e) Q → Tells len (Expression e) Q
of_expression e f = record { over = λ ts h s. (of_wrapped s.0 f).over ts h s.2 }

expression_begins : (len : ℕ) (e : Expr) → Tells len (Expression e) ((place_of e).start ≤ len)
expression_begins len e = of_expression e (node_within len e)

pub annotation_begins : (len : ℕ) (a : Ann) → Tells len (Annotation a) ((place_of_ann a).start ≤ len)
annotation_begins len (named n) = of_name n
annotation_begins len (none_type p) = of_at p
annotation_begins len (applied p head arguments) = of_at p
annotation_begins len (applied_empty p head) = of_at p
annotation_begins len (union p parts) = record {
  over = λ ts h s. subst (λ (q : Place). q.start ≤ len) (sym s.2.0)
      (first_within len ts h);
}

target_begins : (len : ℕ) (t : Target) → Tells len (SpellsTarget t) ((whole_target t).start ≤ len)
target_begins len (to_name n) = of_name n
target_begins len (to_attribute p e f) = of_at p
target_begins len (to_index p e i) = of_at p

-- ---- statements

begin_none : {len : ℕ} {A : Spelling} → Tells len A (BeginWithin len [])
begin_none = record { over = λ ts h s. tt }

begin_both : {len : ℕ} {A B : Spelling} → (ws us : List Whole) → Tells len A (BeginWithin len ws)
    → Tells len B (BeginWithin len us) → Tells len (A ⟫ B) (BeginWithin len (ws ++ us))
begin_both {len = len} ws us f g = record {
  over = λ ts h s. let b = (of_both f g).over ts h s in
      both_begin len ws us b.0 b.1;
}

begin_one : {len : ℕ} {A : Spelling} → (w : Whole) → Tells len A (w.start ≤ len)
    → Tells len A (BeginWithin len (w ∷ []))
begin_one w f = record { over = λ ts h s. (f.over ts h s, tt) }

begin_more : {len : ℕ} {A B : Spelling} → (w : Whole) (ws : List Whole) → Tells len A (w.start ≤ len)
    → Tells len B (BeginWithin len ws) → Tells len (A ⟫ B) (BeginWithin len (w ∷ ws))
begin_more w ws f g = record { over = λ ts h s. (of_both f g).over ts h s }

optional_expr : {len : ℕ} {A : Expr → Spelling} → (o : Option Expr)
    → ((e : Expr) → Tells len (A e) ((place_of e).start ≤ len))
    → Tells len (Maybe A o) (BeginWithin len (optional_exprs o))
optional_expr None f = begin_none
optional_expr (Some e) f = begin_one (whole_expr e) (f e)

optional_ann : {len : ℕ} {A : Ann → Spelling} → (o : Option Ann)
    → ((a : Ann) → Tells len (A a) ((place_of_ann a).start ≤ len))
    → Tells len (Maybe A o) (BeginWithin len (optional_anns o))
optional_ann None f = begin_none
optional_ann (Some a) f = begin_one (whole_ann a) (f a)

pub of_suite : {len : ℕ} {A : Spelling} {Q : Type 0} → Tells len A Q → Tells len (Suite A) Q
of_suite f = of_right (of_right (of_right (of_left f)))

-- the next token, or nothing after the last
of_rest : {len : ℕ} {A : Spelling} → (ss : Stmts) → Tells len A (BeginWithin len (wholes_of_stmts ss))
    → Tells len (Rest (ss ≡ no_stmts) A) (BeginWithin len (wholes_of_stmts ss))
of_rest {len = len} ss f = record {
  over = λ ts h s. elim s [
    | inl more ↦ f.over ts h more
    | inr last ↦
        subst (λ xs. BeginWithin len (wholes_of_stmts xs)) (sym last.0) tt
  ];
}

mutual
  stmt_begins : (len : ℕ) (s : Stmt) → Tells len (SpellsStmt s) (BeginWithin len (wholes_of_stmt s))
  stmt_begins len (pass p) = begin_none
  stmt_begins len (breaks p) = begin_none
  stmt_begins len (continues p) = begin_none
  stmt_begins len (returns p value) =
      of_begins p (of_right (of_left (optional_expr value (λ e. expression_begins len e))))
  stmt_begins len (asserts p condition message) =
      of_begins p (of_right (begin_more (whole_expr condition) (optional_exprs message)
      (expression_begins len condition)
      (of_left (optional_expr message (λ e. of_right (expression_begins len e))))))
  stmt_begins len (annotated p n a value) =
      of_begins p (of_right (of_right (begin_more (whole_ann a) (optional_exprs value) (annotation_begins len a)
      (of_left (optional_expr value (λ e. of_right (expression_begins len e)))))))
  stmt_begins len (assigns p target value) = of_begins p (begin_more (whole_target target) (whole_expr value ∷ [])
      (target_begins len target)
      (of_right (of_left (begin_one (whole_expr value) (expression_begins len value)))))
  stmt_begins len (evaluates p value) =
      of_begins p (of_left (begin_one (whole_expr value) (expression_begins len value)))
  stmt_begins len (while_loop p condition body) =
      of_begins p (of_right (begin_more (whole_expr condition) (wholes_of_stmts body) (expression_begins len condition)
      (of_suite (stmts_begin len body))))
  stmt_begins len (for_loop p target iterable body) = of_begins p (of_right (of_right (of_right
      (begin_more (whole_expr iterable) (wholes_of_stmts body) (expression_begins len iterable)
      (of_suite (stmts_begin len body))))))
  stmt_begins len (conditional p no_branches otherwise) = record { over = λ ts h s. absurd s }
  stmt_begins len (conditional p (more_branches condition body branches) otherwise) = record {
    over = λ ts h s.
        let parts =
        (of_begins p (of_right (of_both (expression_begins len condition) (of_both (of_suite (stmts_begin len body))
        (of_both (branches_begin len branches) (of_rest otherwise
        (of_right (of_suite (stmts_begin len otherwise))))))))).over ts h s in
        both_begin len ((whole_expr condition ∷ wholes_of_stmts body) ++ wholes_of_branches branches)
        (wholes_of_stmts otherwise)
        (both_begin len (whole_expr condition ∷ wholes_of_stmts body) (wholes_of_branches branches) (parts.0, parts.1.0)
        parts.1.1.0) parts.1.1.1;
  }

  stmts_begin : (len : ℕ) (ss : Stmts) → Tells len (λ ts. SpellsStmts ss ts) (BeginWithin len (wholes_of_stmts ss))
  stmts_begin len no_stmts = record { over = λ ts h s. absurd s }
  stmts_begin len (more_stmts x xs) = record {
    over = λ ts h s.
        (begin_both (wholes_of_stmt x) (wholes_of_stmts xs) (stmt_begins len x)
        (of_rest xs (stmts_begin len xs))).over ts h s;
  }

  branches_begin : (len : ℕ) (bs : Branches) → Tells len (λ ts. SpellsBranches bs ts)
      (BeginWithin len (wholes_of_branches bs))
  branches_begin len no_branches = begin_none
  branches_begin len (more_branches condition body rest) = record {
    over = λ ts h s.
        let parts =
        (of_right (of_both (expression_begins len condition) (of_both (of_suite (stmts_begin len body))
        (branches_begin len rest)))).over ts h s in
        both_begin len (whole_expr condition ∷ wholes_of_stmts body) (wholes_of_branches rest) (parts.0, parts.1.0)
        parts.1.1;
  }

-- ---- functions, classes and the module

-- the tokens after a comma, or nothing
after_comma : {len : ℕ} {last : Type 0} {A : Spelling} → (ws : List Whole) → (last → ws ≡ [])
    → Tells len A (BeginWithin len ws) → Tells len (AfterComma last A) (BeginWithin len ws)
after_comma {len = len} ws none f = record {
  over = λ ts h s.
      elim s [
        | inl more ↦ (of_right f).over ts h more
        | inr end ↦ subst (λ us. BeginWithin len us) (sym (none end.0)) tt
      ];
}

param_begins : (len : ℕ) (p : Param) → Tells len (SpellsParam p) (BeginWithin len (optional_anns p.annotation))
param_begins len p = of_right (of_left (optional_ann p.annotation (λ a. of_right (annotation_begins len a))))

params_begin : (len : ℕ) (ps : List Param) → Tells len (SpellsParams ps) (BeginWithin len (wholes_of_params ps))
params_begin len [] = begin_none
params_begin len (p ∷ ps) = begin_both (optional_anns p.annotation) (wholes_of_params ps) (param_begins len p)
    (after_comma (wholes_of_params ps) (λ e. ap wholes_of_params e)
    (record { over = λ ts h s. (params_begin len ps).over ts h s }))

parameters_begin : (len : ℕ) (method : Bool) (ps : List Param)
    → Tells len (Parameters method ps) (BeginWithin len (wholes_of_params ps))
parameters_begin len true ps = of_right (after_comma (wholes_of_params ps) (λ e. ap wholes_of_params e)
    (params_begin len ps))
parameters_begin len false ps = params_begin len ps

def_begins : (len : ℕ) (method : Bool) (f : FuncDef) → Tells len (SpellsDef method f)
    (BeginWithin len (wholes_of_def f))
def_begins len method f = record {
  over = λ ts h s.
      let parts = (of_right (of_right (of_right (of_both (parameters_begin len method f.params)
      (of_right (of_both (optional_ann f.returns (λ a. of_right (annotation_begins len a)))
      (of_suite (stmts_begin len f.body)))))))).over ts h s in
      both_begin len (wholes_of_params f.params) (optional_anns f.returns ++ wholes_of_stmts f.body) parts.0
      (both_begin len (optional_anns f.returns) (wholes_of_stmts f.body) parts.1.0 parts.1.1);
}

members_begin : (len : ℕ) (ms : List Member) → Tells len (SpellsMembers ms) (BeginWithin len (wholes_of_members ms))
members_begin len [] = begin_none
members_begin len (field_member f ∷ ms) = begin_more (whole_ann f.annotation) (wholes_of_members ms)
    (of_right (of_right (of_left (annotation_begins len f.annotation)))) (members_begin len ms)
members_begin len (method_member f ∷ ms) = begin_both (wholes_of_def f) (wholes_of_members ms) (def_begins len true f)
    (members_begin len ms)

body_begins : (len : ℕ) (ms : List Member) → Tells len (ClassBody ms) (BeginWithin len (wholes_of_members ms))
body_begins len [] = begin_none
body_begins len (m ∷ ms) = members_begin len (m ∷ ms)

item_begins : (len : ℕ) (i : Item) → Tells len (SpellsItem i) (BeginWithin len (wholes_of_item i))
item_begins len (constant_item first c) = of_begins first
    (of_right (begin_both (optional_anns c.annotation) (whole_expr c.value ∷ [])
    (optional_ann c.annotation (λ a. of_right (annotation_begins len a)))
    (of_right (of_left (begin_one (whole_expr c.value) (expression_begins len c.value))))))
item_begins len (class_item first c) = of_begins first (of_right
    (of_right (of_right (of_right (of_right (of_right (of_suite (body_begins len c.members))))))))
item_begins len (def_item first f) = of_begins first (def_begins len false f)

items_begin : (len : ℕ) (is : List Item) → Tells len (SpellsItems is) (BeginWithin len (wholes_of_items is))
items_begin len [] = begin_none
items_begin len (i ∷ is) = begin_both (wholes_of_item i) (wholes_of_items is) (item_begins len i) (items_begin len is)

pub of_items : {len : ℕ} {Q : Type 0} → (m : Module) → Tells len (SpellsItems m.items) Q → Tells len (SpellsModule m) Q
of_items m f = of_right (of_right (of_right (of_left f)))

-- ---- refusals

deep_at : (b : Bool) (x byte : ℕ) (o : Option ℕ) → (if b then Some x else o) ≡ Some byte → (x ≡ byte) ⊎ (o ≡ Some byte)
deep_at true x byte o e = let same : x ≡ byte = cc in inl same
deep_at false x byte o e = inr e

deep_within : (len : ℕ) (ws : List Whole) (byte : ℕ) → BeginWithin len ws → first_too_deep ws ≡ Some byte → byte ≤ len
deep_within len [] byte h e = cc
deep_within len (w ∷ ws) byte h e = elim (deep_at (nat_lt depth_limit w.depth) w.start byte (first_too_deep ws) e) [
  | inl same ↦ subst (λ n. n ≤ len) same h.0
  | inr later ↦ deep_within len ws byte h.1 later
]

misfit_within : (len : ℕ) (ts : List Lexeme) (byte : ℕ) → AreWithin len ts → IsMisfit ts byte → byte ≤ len
misfit_within len ts byte h f =
    let here = back len f.before (f.token ∷ f.after) (subst (λ us. AreWithin len us) f.all h) in
    omega (arith, f.start, here.0.0, here.0.1)

pub refusal_within : (len : ℕ) (ts : List Lexeme) (r : Refusal) → AreWithin len ts → IsRefusal ts r → r.byte ≤ len
refusal_within len ts r h (inl (c, inl f)) = misfit_within len ts r.byte h f
refusal_within len ts r h (inl (c, inr f)) = omega (arith, f.end, last_within len ts h)
refusal_within len ts r h (inr (c, f)) = deep_within len (wholes_of_items f.tree.items) r.byte
    ((of_items f.tree (items_begin len f.tree.items)).over ts h f.spelled) f.first

-- ---- the result for tokens

module _ {X I : Type 0} (text : X → List ℕ) (steps : I → Option (Result (Token X) Fault) → I → Type 0) (it : I) where
  pub fault_within : (e : Fault) → OnRefusal (λ q. IsRefusedByTokens text steps it q
      ⊎ IsFaulty text steps it (fault.Refused q)) e →
      (len : ℕ) → RefusesWithin steps len it → ComesAs steps (λ ts. AreWithin len (map (lexeme text) ts)) it
      → IsWithin len e
  fault_within (fault.Refused q) (inl h) len refuses stand = refusal_within len (map (lexeme text) h.tokens) q
      (stand h.tokens h.came) h.is
  fault_within (fault.Refused q) (inr h) len refuses stand = refuses h.tokens q h.came
  fault_within fault.OutOfMemory h len refuses stand = tt

  pub stream_within : {T : Type 0} (r : Result T Fault) → IfErr r
      (OnRefusal (λ q. IsRefusedByTokens text steps it q ⊎ IsFaulty text steps it (fault.Refused q))) →
      (len : ℕ) → RefusesWithin steps len it → ComesAs steps (λ ts. AreWithin len (map (lexeme text) ts)) it
      → IfErr r (IsWithin len)
  stream_within (Ok v) h len refuses stand = tt
  stream_within (Err e) h len refuses stand = fault_within e h len refuses stand

pub answer_within : {T : Type 0} (ts : List Lexeme) (r : Result T Fault) → IfErr r (OnRefusal (IsRefusal ts))
    → (len : ℕ) → AreWithin len ts → IfErr r (IsWithin len)
answer_within ts (Ok v) h len stand = tt
answer_within ts (Err (fault.Refused q)) h len stand = refusal_within len ts q stand h
answer_within ts (Err fault.OutOfMemory) h len stand = tt
