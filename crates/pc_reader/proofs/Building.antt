-- Nodes over parts.
use Rattle.std.proofs.Common.{◌≡◌, ℕ, ◌+◌, ◌≤◌, true, false, List, [], ◌∷◌, ◌++◌, Option, Some, None, min, max, refl}
use Rattle.std.proofs.Common.{arith, ap, sym, ◌∙◌, subst, append_assoc}
use Rattle.pc_source.specs.declared.place.Place.{Place}
use Rattle.pc_token.specs.Lexeme.{Lexeme}
use Rattle.pc_tree.specs.declared.tree.Expr.{Expr as RustExpr}
use Rattle.pc_tree.specs.declared.tree.Name.{Name as RustName}
use Rattle.pc_tree.specs.Tree.{Expr, name, attribute, index, Name, name_of, expr_of}
use Rattle.pc_tree.specs.Depth.{depth_of, place_of}
use Rattle.pc_tree.specs.NamesAlone.{name_of_tree}
use Rattle.pc_grammar.specs.Grammar.{first_place, last_place, span, name_of_token}
use Rattle.pc_grammar.specs.Machine.Kinds.{Infix, arithmetic, comparison, both, either}
use Rattle.pc_grammar.specs.Machine.States.{Part}
use Rattle.pc_grammar.specs.Machine.Expressions.{infix_tree, grouped}
use Rattle.pc_grammar.specs.Machine.Finishing.{if_plain}
use Rattle.pc_reader.specs.declared.operand.Operand.{Operand}
use Rattle.pc_reader.specs.Internal.Operands.{Starts, Ends, Form, a_name, another, form_of_expr, KeepsPart, Builds, node_of}

pub starts_more : {ts : List Lexeme} {n : ℕ} (us : List Lexeme) → Starts ts n → Starts (ts ++ us) n
starts_more us s = record { head = s.head; tail = s.tail ++ us; is = ap (λ z. z ++ us) s.is; start = s.start }

-- tokens with others after them begin at the same place
pub first_more : {ts : List Lexeme} {n : ℕ} (us : List Lexeme) → Starts ts n → first_place (ts ++ us) ≡ first_place ts
first_more us s = ap (λ z. first_place (z ++ us)) s.is ∙ sym (ap first_place s.is)

pub starts_one : (t : Lexeme) (us : List Lexeme) → Starts (t ∷ us) t.place.start
starts_one t us = record { head = t; tail = us; is = refl; start = refl }

pub starts_at : (t : Lexeme) (us : List Lexeme) {n : ℕ} → t.place.start ≡ n → Starts (t ∷ us) n
starts_at t us e = record { head = t; tail = us; is = refl; start = e }

pub ends_more : {us : List Lexeme} {n : ℕ} (ts : List Lexeme) → Ends us n → Ends (ts ++ us) n
ends_more ts e = record {
  before = ts ++ e.before;
  last = e.last;
  is = ap (λ z. ts ++ z) e.is
      ∙ sym (append_assoc ts e.before (e.last ∷ []));
  end = e.end;
}

pub ends_one : (t : Lexeme) → Ends (t ∷ []) t.place.end
ends_one t = record { before = []; last = t; is = refl; end = refl }

pub ends_at : (t : Lexeme) {n : ℕ} → t.place.end ≡ n → Ends (t ∷ []) n
ends_at t e = record { before = []; last = t; is = refl; end = e }

last_of : (ts : List Lexeme) (t : Lexeme) → last_place (ts ++ (t ∷ [])) ≡ t.place
last_of [] t = refl
last_of (u ∷ []) t = refl
last_of (u ∷ v ∷ ts) t = last_of (v ∷ ts) t

pub span_is : {ts : List Lexeme} {a b : ℕ} → Starts ts a → Ends ts b → span ts ≡ record { start = a; end = b }
span_is {ts} {a} {b} s e =
    let f : (first_place ts).start ≡ a = ap (λ z. (first_place z).start) s.is ∙ s.start in
    let l : (last_place ts).end ≡ b = ap (λ z. (last_place z).end) e.is
    ∙ ap (λ (z : Place). z.end) (last_of e.before e.last) ∙ e.end in
    let make : ℕ → ℕ → Place = λ x y. record { start = x; end = y } in ap (λ x. make x (last_place ts).end) f
    ∙ ap (λ y. make a y) l

-- a node without parentheses keeps the part that it was made of
pub builds : (o : Operand) (make : Place → Expr) (a b deep : ℕ) → o.start ≡ a → o.end ≡ b → o.first ≡ a → o.plain ≡ true
    → ((p : Place) → (place_of (make p)).start ≡ p.start) → ((p : Place) → depth_of (make p) ≡ deep)
    → o.depth ≡ min 65 deep
    → (o.depth ≤ 64 → expr_of o.expr ≡ make (record { start = a; end = b }))
    → ((p : Place) → form_of_expr (expr_of o.expr) ≡ form_of_expr (make p))
    → Builds o make a b
builds o make a b deep oa ob of op pl dp d k f ts s e =
    let p = span_is s e in record {
      starts = subst (λ n. Starts ts n) (sym oa) s;
      ends = subst (λ n. Ends ts n) (sym ob) e;
      first = of ∙ sym (pl (span ts) ∙ ap (λ (z : Place). z.start) p);
      plain = op;
      depth = d ∙ ap (λ n. min 65 n) (sym (dp (span ts)));
      kept = λ h. k h ∙ ap make (sym p);
      form = f (span ts);
    }

pub infix_place : (op : Infix) (l r : Expr) (p : Place) → place_of (infix_tree op l r p) ≡ p
infix_place (arithmetic o) l r p = refl
infix_place (comparison o) l r p = refl
infix_place both l r p = refl
infix_place either l r p = refl

pub infix_depth : (op : Infix) (l r : Expr) (p : Place) → depth_of (infix_tree op l r p) ≡ max (depth_of l) (depth_of r)
    + 1
infix_depth (arithmetic o) l r p = refl
infix_depth (comparison o) l r p = refl
infix_depth both l r p = refl
infix_depth either l r p = refl

pub infix_form : (op : Infix) (l r : Expr) (p : Place) → form_of_expr (infix_tree op l r p) ≡ another
infix_form (arithmetic o) l r p = refl
infix_form (comparison o) l r p = refl
infix_form both l r p = refl
infix_form either l r p = refl

-- depths that are counted up to 65
pub capped_above : (d n : ℕ) → d ≡ min 65 n → min 65 (d + 1) ≡ min 65 (n + 1)
capped_above d n h = omega arith

pub capped_max : (d e n m : ℕ) → d ≡ min 65 n → e ≡ min 65 m → min 65 (max d e + 1) ≡ min 65 (max n m + 1)
capped_max d e n m h k = omega arith

-- the same of an operand that was made as a node
pub built : (expr : RustExpr) (level depth deep a b : ℕ) (make : Place → Expr)
    → ((p : Place) → (place_of (make p)).start ≡ p.start) → ((p : Place) → depth_of (make p) ≡ deep)
    → depth ≡ min 65 deep → (depth ≤ 64 → expr_of expr ≡ make (record { start = a; end = b }))
    → ((p : Place) → form_of_expr (expr_of expr) ≡ form_of_expr (make p))
    → Builds (node_of expr (record { start = a; end = b }) level depth) make a b
built expr level depth deep a b make pl dp d k f = builds (node_of expr (record { start = a; end = b }) level depth)
    make a b deep refl refl refl refl pl dp d k f

-- a part that was kept at a depth over its own
pub part_kept : (o : Operand) (p : Part) (e : RustExpr) (depth n : ℕ) → KeepsPart o p → depth ≡ min 65 n
    → o.depth + 1 ≤ n → (depth ≤ 64 → e ≡ o.expr) → depth ≤ 64 → expr_of e ≡ p.tree
part_kept o p e depth n k d h f s = let q : o.depth ≤ 64 = omega arith in ap expr_of (f s) ∙ k.kept q

-- a node over one part
pub built_one : (o : Operand) (p : Part) (inner expr : RustExpr) (level depth a b : ℕ) (make : Expr → Place → Expr)
    → KeepsPart o p
    → ((t : Expr) (q : Place) → (place_of (make t q)).start ≡ q.start)
    → ((t : Expr) (q : Place) → depth_of (make t q) ≡ depth_of t + 1)
    → ((t u : Expr) (q r : Place) → form_of_expr (make t q) ≡ form_of_expr (make u r))
    → depth ≡ min 65 (o.depth + 1) → (depth ≤ 64 → inner ≡ o.expr)
    → expr_of expr ≡ make (expr_of inner) (record { start = a; end = b })
    → Builds (node_of expr (record { start = a; end = b }) level depth) (make p.tree) a b
built_one o p inner expr level depth a b make k pl dp fm d f e =
    built expr level depth (depth_of p.tree + 1) a b (make p.tree) (pl p.tree) (dp p.tree)
    (let q = k.depth in omega arith)
    (λ h. e ∙ ap (λ z. make z (record { start = a; end = b })) (part_kept o p inner depth (o.depth + 1) k d
    (omega arith) f h))
    (λ q. ap form_of_expr e ∙ fm (expr_of inner) p.tree _ q)

-- a node over two parts
pub built_two : (o o' : Operand) (p p' : Part) (first second expr : RustExpr) (level depth a b : ℕ)
    (make : Expr → Expr → Place → Expr) → KeepsPart o p → KeepsPart o' p'
    → ((t t' : Expr) (q : Place) → (place_of (make t t' q)).start ≡ q.start)
    → ((t t' : Expr) (q : Place) → depth_of (make t t' q) ≡ max (depth_of t) (depth_of t') + 1)
    → ((t t' u u' : Expr) (q r : Place) → form_of_expr (make t t' q) ≡ form_of_expr (make u u' r))
    → depth ≡ min 65 (max o.depth o'.depth + 1) → (depth ≤ 64 → first ≡ o.expr) → (depth ≤ 64 → second ≡ o'.expr)
    → expr_of expr ≡ make (expr_of first) (expr_of second) (record { start = a; end = b })
    → Builds (node_of expr (record { start = a; end = b }) level depth) (make p.tree p'.tree) a b
built_two o o' p p' first second expr level depth a b make k k' pl dp fm d f f' e =
    built expr level depth (max (depth_of p.tree) (depth_of p'.tree) + 1) a b (make p.tree p'.tree) (pl p.tree p'.tree)
    (dp p.tree p'.tree) (let q = k.depth in let q' = k'.depth in omega arith)
    (λ h. e ∙ ap (λ z. make z (expr_of second) (record { start = a; end = b }))
    (part_kept o p first depth (max o.depth o'.depth + 1) k d (omega arith) f h)
    ∙ ap (λ z. make p.tree z (record { start = a; end = b })) (part_kept o' p' second depth (max o.depth o'.depth + 1)
    k' d (omega arith) f' h))
    (λ q. ap form_of_expr e ∙ fm (expr_of first) (expr_of second) p.tree p'.tree _ q)

-- parentheses around an operand
pub keeps_grouped : (o : Operand) (p : Part) (t u : Lexeme) {a b : ℕ} → t.place.start ≡ a → u.place.end ≡ b
    → KeepsPart o p
    → KeepsPart (record o { start = a; end = b; plain = false; level = 7 }) (grouped (t ∷ []) p u)
keeps_grouped o p t u s e k = record {
  starts = starts_at t _ s;
  ends = ends_more (t ∷ p.tokens) (ends_at u e);
  first =
      k.first;
  plain = refl;
  depth = k.depth;
  kept = k.kept;
  form = k.form;
}

-- the name that an expression is, if it is one
abbrev name_in : Form → Option Name
name_in (a_name n) = Some n
name_in _ = None

name_by_form : (e : Expr) → name_of_tree e ≡ name_in (form_of_expr e)
name_by_form (name n) = refl
name_by_form (attribute p e f) = refl
name_by_form (index p e i) = refl
name_by_form _ = refl

pub named_alike : {o : Operand} {p : Part} → KeepsPart o p → if_plain p.plain (name_of_tree p.tree) ≡ if_plain o.plain
    (name_of_tree (expr_of o.expr))
named_alike {o} {p} k = ap (λ z. if_plain z (name_of_tree p.tree)) (sym k.plain)
    ∙ ap (λ z. if_plain o.plain z) (name_by_form p.tree ∙ ap name_in (sym k.form) ∙ sym (name_by_form (expr_of o.expr)))

-- a name ends where its token does
pub name_ends : (n : RustName) (t : Lexeme) → name_of n ≡ name_of_token t → Ends (t ∷ []) n.place.end
name_ends n t e = record { before = []; last = t; is = refl; end = sym (ap (λ (z : Name). z.place.end) e) }
