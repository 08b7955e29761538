-- Names and targets, of which the form of an expression decides.
use Rattle.std.proofs.Common.{◌≡◌, Bool, true, false, Some, None, refl, ap, sym, ◌∙◌}
use Rattle.pc_tree.specs.Tree.{Name, Expr, name, attribute, index, Target, to_name, to_attribute, to_index, expr_of}
use Rattle.pc_tree.specs.Depth.{whole_expr, whole_target}
use Rattle.pc_tree.specs.NamesAlone.{name_of_tree}
use Rattle.pc_grammar.specs.Machine.States.{Part}
use Rattle.pc_grammar.specs.Machine.Finishing.{if_plain, target_of_tree}
use Rattle.pc_reader.specs.declared.operand.Operand.{Operand}
use Rattle.pc_reader.specs.Internal.Operands.{a_name, another, form_of_expr, KeepsPart}

-- ---- targets

formed : (e : Expr) (t : Target) → target_of_tree e ≡ Some t → form_of_expr e ≡ another → ⊥
formed (name n) t h f = cc
formed (attribute p x n) t h f = cc
formed (index p x i) t h f = cc
formed _ t h f = cc

unformed : (e : Expr) → target_of_tree e ≡ None → form_of_expr e ≡ another
unformed (name n) h = cc
unformed (attribute p x n) h = cc
unformed (index p x i) h = cc
unformed _ h = refl

-- the target that an expression is
pub record IsTarget (e : Expr) (plain : Bool) : Type 0 where
  pub tree : Target
  pub is : if_plain plain (target_of_tree e) ≡ Some tree
  pub whole_is : whole_target tree ≡ whole_expr e

target_by_form : (e e' : Expr) (t : Target) → form_of_expr e ≡ form_of_expr e' → target_of_tree e ≡ Some t → IsTarget e' true
target_by_form e (name n) t f h = record { tree = to_name n; is = refl; whole_is = refl }
target_by_form e (attribute p x n) t f h = record { tree = to_attribute p x n; is = refl; whole_is = refl }
target_by_form e (index p x i) t f h = record { tree = to_index p x i; is = refl; whole_is = refl }
target_by_form e _ t f h = absurd (formed e t h f)

none_by_form : (e e' : Expr) → form_of_expr e ≡ form_of_expr e' → target_of_tree e ≡ None → target_of_tree e' ≡ None
none_by_form e (name n) f h = let q = unformed e h in cc
none_by_form e (attribute p x n) f h = let q = unformed e h in cc
none_by_form e (index p x i) f h = let q = unformed e h in cc
none_by_form e _ f h = refl

target_plain : (plain : Bool) (e e' : Expr) (t : Target) → form_of_expr e ≡ form_of_expr e' → if_plain plain (target_of_tree e)
    ≡ Some t → IsTarget e' plain
target_plain true e e' t f h = target_by_form e e' t f h
target_plain false e e' t f h = cc

none_plain : (plain : Bool) (e e' : Expr) → form_of_expr e ≡ form_of_expr e' → if_plain plain (target_of_tree e) ≡ None
    → if_plain plain (target_of_tree e') ≡ None
none_plain true e e' f h = none_by_form e e' f h
none_plain false e e' f h = refl

-- the target of an operand is that of the part that it keeps
pub a_target : (o : Operand) (p : Part) (t : Target) → KeepsPart o p
    → if_plain o.plain (target_of_tree (expr_of o.expr)) ≡ Some t → IsTarget p.tree p.plain
a_target o p t k h = target_plain p.plain (expr_of o.expr) p.tree t k.form
    (ap (λ z. if_plain z (target_of_tree (expr_of o.expr))) (sym k.plain) ∙ h)

pub no_target : (o : Operand) (p : Part) → KeepsPart o p → if_plain o.plain (target_of_tree (expr_of o.expr)) ≡ None
    → if_plain p.plain (target_of_tree p.tree) ≡ None
no_target o p k h = none_plain p.plain (expr_of o.expr) p.tree k.form
    (ap (λ z. if_plain z (target_of_tree (expr_of o.expr))) (sym k.plain) ∙ h)

-- and the same target, where its tree is kept
pub same_target : (o : Operand) (p : Part) (t : Target) (i : IsTarget p.tree p.plain) → KeepsPart o p
    → if_plain o.plain (target_of_tree (expr_of o.expr)) ≡ Some t → expr_of o.expr ≡ p.tree → t ≡ i.tree
same_target o p t i k h e = some (sym h ∙ ap (λ z. if_plain z (target_of_tree (expr_of o.expr))) k.plain
    ∙ ap (λ z. if_plain p.plain (target_of_tree z)) e ∙ i.is)
  where
    some : Some t ≡ Some i.tree → t ≡ i.tree
    some q = cc

-- ---- names

named_form : (e : Expr) (n : Name) → name_of_tree e ≡ Some n → form_of_expr e ≡ a_name n
named_form (name m) n h = cc
named_form _ n h = cc

unnamed : (e : Expr) (n : Name) → name_of_tree e ≡ None → form_of_expr e ≡ a_name n → ⊥
unnamed (name m) n h f = cc
unnamed (attribute p x m) n h f = cc
unnamed (index p x i) n h f = cc
unnamed _ n h f = cc

by_form : (e : Expr) (n : Name) → form_of_expr e ≡ a_name n → e ≡ name n
by_form (name m) n f = cc
by_form (attribute p x m) n f = cc
by_form (index p x i) n f = cc
by_form _ n f = cc

-- a name without parentheses
pub record IsName (e : Expr) (plain : Bool) (n : Name) : Type 0 where
  pub is : if_plain plain (name_of_tree e) ≡ Some n
  pub tree : e ≡ name n

name_plain : (plain : Bool) (e e' : Expr) (n : Name) → form_of_expr e ≡ form_of_expr e' → if_plain plain (name_of_tree e) ≡ Some n
    → IsName e' plain n
name_plain true e e' n f h = let q : e' ≡ name n = by_form e' n (sym f ∙ named_form e n h) in
    record { is = ap name_of_tree q; tree = q }
name_plain false e e' n f h = cc

no_name_plain : (plain : Bool) (e e' : Expr) → form_of_expr e ≡ form_of_expr e' → if_plain plain (name_of_tree e) ≡ None
    → if_plain plain (name_of_tree e') ≡ None
no_name_plain true e (name n) f h = absurd (unnamed e n h f)
no_name_plain true e _ f h = refl
no_name_plain false e e' f h = refl

pub a_plain_name : (o : Operand) (p : Part) (n : Name) → KeepsPart o p
    → if_plain o.plain (name_of_tree (expr_of o.expr)) ≡ Some n → IsName p.tree p.plain n
a_plain_name o p n k h = name_plain p.plain (expr_of o.expr) p.tree n k.form
    (ap (λ z. if_plain z (name_of_tree (expr_of o.expr))) (sym k.plain) ∙ h)

pub no_plain_name : (o : Operand) (p : Part) → KeepsPart o p → if_plain o.plain (name_of_tree (expr_of o.expr)) ≡ None
    → if_plain p.plain (name_of_tree p.tree) ≡ None
no_plain_name o p k h = no_name_plain p.plain (expr_of o.expr) p.tree k.form
    (ap (λ z. if_plain z (name_of_tree (expr_of o.expr))) (sym k.plain) ∙ h)
