-- A suite without statements.
use Rattle.std.proofs.Common.{◌≡◌, ℕ, List, [], ◌∷◌, length, refl, ap, ◌∙◌, arith, rules, vec_len}
use Rattle.std.specs.Prelude.{nat_eq, Vec}
use Rattle.std.specs.Global.{Global}
use Rattle.pc_tree.specs.declared.tree.Stmt.{Stmt as RustStmt}
use Rattle.pc_tree.specs.Tree.{stmts_of_list}
use Rattle.pc_scope.specs.Reach.{is_empty}

none_listed : (body : List RustStmt) → is_empty (stmts_of_list body) ≡ nat_eq (length body) 0
none_listed [] = refl
none_listed (s ∷ rest) = search rules

pub no_statement : (body : Vec RustStmt Global) → is_empty (stmts_of_list body.items) ≡ nat_eq (vec_len body) 0
no_statement body = let same : length body.items ≡ vec_len body = omega (arith, body.ok.0) in none_listed body.items
    ∙ ap (λ (n : ℕ). nat_eq n 0) same
