-- The byte of the first whole expression or annotation that is too deep.
use Rattle.std.proofs.Common.{◌≡◌, ℕ, suc, ◌≤◌, ◌<◌, ◌⊎◌, inl, inr, Bool, true, false, if◌then◌else◌, List, [], ◌∷◌}
use Rattle.std.proofs.Common.{◌++◌, Option, Some, None, min, refl, arith, ap, sym, ◌∙◌, append_assoc}
use Rattle.std.specs.Prelude.{nat_lt}
use Rattle.std.proofs.lemmas.List.{append-nil}
use Rattle.std.proofs.lemmas.Bool.Decides.{leb_tells}
use Rattle.pc_tree.specs.Tree.{Expr, Stmt, Stmts, no_stmts, more_stmts, Branches, no_branches, more_branches, expr_of}
use Rattle.pc_tree.specs.Depth.{Whole, depth_limit, whole_expr, wholes_of_stmt, wholes_of_stmts, wholes_of_branches}
use Rattle.pc_tree.specs.Depth.{first_too_deep}
use Rattle.pc_grammar.specs.Machine.Finishing.{add_stmt, add_branch}
use Rattle.pc_grammar.specs.Machine.States.{Part}
use Rattle.pc_reader.specs.declared.operand.Operand.{Operand}
use Rattle.pc_reader.specs.Internal.Operands.{KeepsPart}
use Rattle.pc_parse.specs.Internal.WholeTrees.{sooner, deep_after}

lt_tells : (a b : ℕ) → ((nat_lt a b ≡ true) × (a < b)) ⊎ ((nat_lt a b ≡ false) × (b ≤ a))
lt_tells a b = by_tells (leb_tells (suc a) b)
  where
    by_tells : ((nat_lt a b ≡ true) × (suc a ≤ b)) ⊎ ((nat_lt a b ≡ false) × (b < suc a))
        → ((nat_lt a b ≡ true) × (a < b)) ⊎ ((nat_lt a b ≡ false) × (b ≤ a))
    by_tells (inl x) = inl (x.0, let y = x.1 in omega arith)
    by_tells (inr x) = inr (x.0, let y = x.1 in omega arith)

first_more : (b : Bool) (x : ℕ) (y z : Option ℕ) → (if b then Some x else sooner y z) ≡ sooner (if b then Some x else y)
    z
first_more true x y z = refl
first_more false x y z = refl

-- the first of two lists in a row
pub first_split : (ws us : List Whole) → first_too_deep (ws ++ us) ≡ sooner (first_too_deep ws) (first_too_deep us)
first_split [] us = refl
first_split (w ∷ ws) us = ap (λ z. if nat_lt depth_limit w.depth then Some w.start else z) (first_split ws us)
    ∙ first_more (nat_lt depth_limit w.depth) w.start (first_too_deep ws) (first_too_deep us)

sooner_assoc : (a b c : Option ℕ) → sooner (sooner a b) c ≡ sooner a (sooner b c)
sooner_assoc None b c = refl
sooner_assoc (Some x) b c = refl

-- noting two lists one after the other notes them joined
pub noted_more : (d : Option ℕ) (ws us : List Whole) → deep_after (deep_after d ws) us ≡ deep_after d (ws ++ us)
noted_more d ws us = sooner_assoc d (first_too_deep ws) (first_too_deep us) ∙ ap (sooner d) (sym (first_split ws us))

-- nothing was too deep before, where nothing is
pub none_before : (d : Option ℕ) (ws : List Whole) → deep_after d ws ≡ None → d ≡ None
none_before None ws e = refl
none_before (Some x) ws e = cc

pub noted_nothing : (d : Option ℕ) → deep_after d [] ≡ d
noted_nothing None = refl
noted_nothing (Some x) = refl

first_none : (w : Whole) → first_too_deep (w ∷ []) ≡ None → w.depth ≤ 64
first_none w e = by_tells (lt_tells depth_limit w.depth)
  where
    by_tells : ((nat_lt depth_limit w.depth ≡ true) × (depth_limit < w.depth))
        ⊎ ((nat_lt depth_limit w.depth ≡ false) × (w.depth ≤ depth_limit)) → w.depth ≤ 64
    by_tells (inl x) = absurd (some_none (sym (ap (λ z. if z then Some w.start else None) x.0) ∙ e))
      where
        some_none : {n : ℕ} → Some n ≡ None → ⊥
        some_none q = cc
    by_tells (inr x) = let y = x.1 in omega arith

-- a whole one that was noted is not too deep, where nothing is
pub shallow : (d : Option ℕ) (w : Whole) → deep_after d (w ∷ []) ≡ None → w.depth ≤ 64
shallow None w e = first_none w e
shallow (Some x) w e = absurd (no e)
  where
    no : Some x ≡ None → ⊥
    no q = cc

capped : (n : ℕ) → nat_lt 64 (min 65 n) ≡ nat_lt 64 n
capped n = by_tells (lt_tells 64 (min 65 n)) (lt_tells 64 n)
  where
    by_tells : ((nat_lt 64 (min 65 n) ≡ true) × (64 < min 65 n)) ⊎ ((nat_lt 64 (min 65 n) ≡ false) × (min 65 n ≤ 64))
        → ((nat_lt 64 n ≡ true) × (64 < n)) ⊎ ((nat_lt 64 n ≡ false) × (n ≤ 64))
        → nat_lt 64 (min 65 n) ≡ nat_lt 64 n
    by_tells (inl x) (inl y) = x.0 ∙ sym y.0
    by_tells (inl x) (inr y) = absurd (let p = x.1 in let q = y.1 in omega arith)
    by_tells (inr x) (inl y) = absurd (let p = x.1 in let q = y.1 in omega arith)
    by_tells (inr x) (inr y) = x.0 ∙ sym y.0

-- noting an operand notes its expression
pub note_of : (d : Option ℕ) (first depth deep : ℕ) (w : Whole) → first ≡ w.start → depth ≡ min 65 deep → w.depth ≡ deep
    → deep_after d (record { start = first; depth = depth } ∷ []) ≡ deep_after d (w ∷ [])
note_of d first depth deep w f e g = ap (sooner d) (ap (λ z. if nat_lt 64 z then Some first else None)
    (e ∙ ap (λ z. min 65 z) (sym g)) ∙ ap (λ z. if z then Some first else None) (capped w.depth)
    ∙ ap (λ z. if nat_lt 64 w.depth then Some z else None) f)

-- the tree of a whole expression that is not too deep
pub kept_tree : (o : Operand) (p : Part) (before : Option ℕ) → KeepsPart o p
    → deep_after before (whole_expr p.tree ∷ []) ≡ None → expr_of o.expr ≡ p.tree
kept_tree o p before k e = k.kept (let d = k.depth in let s = shallow before (whole_expr p.tree) e in omega arith)

pub wholes_add : (ss : Stmts) (s : Stmt) → wholes_of_stmts (add_stmt ss s) ≡ wholes_of_stmts ss ++ wholes_of_stmt s
wholes_add no_stmts s = append-nil (wholes_of_stmt s)
wholes_add (more_stmts x xs) s = ap (λ z. wholes_of_stmt x ++ z) (wholes_add xs s)
    ∙ sym (append_assoc (wholes_of_stmt x) (wholes_of_stmts xs) (wholes_of_stmt s))

pub wholes_branch : (bs : Branches) (e : Expr) (ss : Stmts) → wholes_of_branches (add_branch bs e ss)
    ≡ wholes_of_branches bs ++ (whole_expr e ∷ wholes_of_stmts ss)
wholes_branch no_branches e ss = append-nil (whole_expr e ∷ wholes_of_stmts ss)
wholes_branch (more_branches c b bs) e ss = ap (λ z. (whole_expr c ∷ wholes_of_stmts b) ++ z) (wholes_branch bs e ss)
    ∙ sym (append_assoc (whole_expr c ∷ wholes_of_stmts b) (wholes_of_branches bs) (whole_expr e ∷ wholes_of_stmts ss))
