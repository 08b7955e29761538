-- The findings of a search among the parts of an expression, list after list.
use Rattle.std.proofs.Common.{◌≡◌, ◌<◌, ℕ, ◌+◌, List, [], ◌∷◌, ◌++◌, length, get_or, drop, refl, ap, ◌∙◌, sym}
use Rattle.std.proofs.Common.{append_assoc, Bool, true, false}
use Rattle.pc_source.specs.declared.place.Place.{Place}
use Rattle.pc_tree.specs.declared.code.Code.TheVariants.{E02, E03}
use Rattle.pc_tree.specs.declared.code.Finding.{Finding}
use Rattle.pc_tree.specs.declared.tree.Expr.{Expr as RustExpr}
use Rattle.pc_tree.specs.declared.tree.Entry.{Entry as RustEntry}
use Rattle.pc_tree.specs.declared.tree.KeywordArgument.{KeywordArgument as RustKeyword}
use Rattle.pc_tree.specs.Tree.{Expr, Exprs, more_exprs, expr_of}
use Rattle.pc_tree.specs.Lists.{exprs_of_list, entries_of_list, keywords_of_list}
use Rattle.pc_tree.specs.NamesAlone.{name_of_tree}
use Rattle.pc_tree.specs.Code.{at_code}
use Rattle.pc_tree.proofs.Stops.{cons_at}
use Rattle.pc_tree.proofs.Finds.{at_both}
use Rattle.pc_scope.specs.declared.resolution.Owner.{Owner}
use Rattle.pc_scope.specs.declared.resolution.Owner.TheVariants as owners
use Rattle.pc_scope.specs.declared.resolution.NameMeaning.{NameMeaning}
use Rattle.pc_scope.specs.Expressions.{parts_in, parts_in_all, parts_in_entries, parts_in_keywords, other_callee}
use Rattle.pc_scope.specs.Tables.{Tables, meaning_by_tables}
use Rattle.pc_scope_findings.specs.declared.parts.Sought.{Sought}
use Rattle.pc_scope_findings.specs.declared.parts.Sought.TheVariants as sought
use Rattle.pc_scope_findings.specs.Internal.FindingLists.{unknown_at, unknown_among, unknown_in, early_at, early_among}
use Rattle.pc_scope_findings.specs.Internal.FindingLists.{callee_at}
use Rattle.pc_scope_findings.specs.Internal.SoughtParts.{sought_at, sought_among, some_parts}

pub sought_both : (t : Tables) (s : Sought) (a b : List Expr) → sought_among t s (a ++ b) ≡ sought_among t s a
    ++ sought_among t s b
sought_both t s [] b = refl
sought_both t s (e ∷ a) b = ap (λ (fs : List Finding). sought_at t s e ++ fs) (sought_both t s a b)
    ∙ sym (append_assoc (sought_at t s e) (sought_among t s a) (sought_among t s b))

-- names that mean nothing, as a walk seeks them
pub unknown_sought : (t : Tables) (owner : Owner) (es : List Expr) → sought_among t (sought.Unknown owner) es
    ≡ at_code E02 (unknown_among (meaning_by_tables t owner) es)
unknown_sought t owner [] = refl
unknown_sought t owner (e ∷ es) = ap (λ (fs : List Finding). at_code E02
    (unknown_at (meaning_by_tables t owner) (name_of_tree e)) ++ fs) (unknown_sought t owner es)
    ∙ sym (at_both E02 (unknown_at (meaning_by_tables t owner) (name_of_tree e))
    (unknown_among (meaning_by_tables t owner) es))

-- the names that mean nothing in two lists of expressions
pub unknown_both : (r : List ℕ → NameMeaning) (a b : List Expr) → unknown_in r (a ++ b) ≡ unknown_in r a ++ unknown_in r b
unknown_both r [] b = refl
unknown_both r (e ∷ a) b = ap (λ (ps : List Place). unknown_among r (parts_in true e) ++ ps) (unknown_both r a b)
    ∙ sym (append_assoc (unknown_among r (parts_in true e)) (unknown_in r a) (unknown_in r b))

-- names and callees that stand too early, as a walk seeks them
pub early_sought : (t : Tables) (k c : ℕ) (es : List Expr) → sought_among t (sought.Early k c) es
    ≡ at_code E03 (early_among k c (meaning_by_tables t owners.Module) es)
early_sought t k c [] = refl
early_sought t k c (e ∷ es) =
    let here = early_at k c (meaning_by_tables t owners.Module) (name_of_tree e) ++ callee_at (other_callee e) in
    ap (λ (fs : List Finding). at_code E03 here ++ fs) (early_sought t k c es)
    ∙ sym (at_both E03 here (early_among k c (meaning_by_tables t owners.Module) es))

-- ---- one list of parts after another

module _ (t : Tables) (s : Sought) (old mid : List Finding) where
  pub then_parts : (a b : List Expr) → mid ≡ old ++ sought_among t s a → mid ++ sought_among t s b ≡ old ++ sought_among
      t s (a ++ b)
  then_parts a b h = ap (λ (fs : List Finding). fs ++ sought_among t s b) h
      ∙ append_assoc old (sought_among t s a) (sought_among t s b)
      ∙ ap (λ (fs : List Finding). old ++ fs) (sym (sought_both t s a b))

  pub then_rest : (a b all : List Expr) → all ≡ a ++ b → mid ≡ old ++ sought_among t s a
      → mid ++ sought_among t s b ≡ old ++ sought_among t s all
  then_rest a b all same h = then_parts a b h ∙ ap (λ (ps : List Expr). old ++ sought_among t s ps) (sym same)

  pub then_two : (new : List Finding) (a b c : List Expr) → mid ≡ old ++ sought_among t s a
      → new ≡ mid ++ sought_among t s b → new ++ sought_among t s c ≡ old ++ sought_among t s (a ++ (b ++ c))
  then_two new a b c h k = ap (λ (fs : List Finding). fs ++ sought_among t s c) k
      ∙ append_assoc mid (sought_among t s b) (sought_among t s c)
      ∙ ap (λ (fs : List Finding). mid ++ fs) (sym (sought_both t s b c)) ∙ then_parts a (b ++ c) h

-- the next of several expressions
exprs_next : (es : List RustExpr) (i : ℕ) (e : RustExpr) → i < length es → e ≡ get_or es i e
    → exprs_of_list (drop i es) ≡ more_exprs (expr_of e) (exprs_of_list (drop (i + 1) es))
exprs_next es i e lt is = ap exprs_of_list (cons_at es i e lt is)

module _ (t : Tables) (s : Sought) (j alone : Bool) (es : List RustExpr) (i : ℕ) (e : RustExpr)
    (front all mid : List Finding) where
  -- one of all
  pub one_of_all : alone ≡ false → i < length es → e ≡ get_or es i e
      → front ++ sought_among t s (some_parts j alone (exprs_of_list (drop i es))) ≡ all
      → mid ≡ front ++ sought_among t s (parts_in j (expr_of e))
      → mid ++ sought_among t s (some_parts j alone (exprs_of_list (drop (i + 1) es))) ≡ all
  one_of_all a lt is inv h =
      let rest = exprs_of_list (drop (i + 1) es) in
      ap (λ (b : Bool). mid ++ sought_among t s (some_parts j b rest)) a
      ∙ then_parts t s front mid (parts_in j (expr_of e)) (parts_in_all j rest) h
      ∙ ap (λ (ps : List Expr). front ++ sought_among t s ps)
      (sym (ap (λ (x : Exprs). some_parts j alone x) (exprs_next es i e lt is)
      ∙ ap (λ (b : Bool). some_parts j b (more_exprs (expr_of e) rest)) a))
      ∙ inv

module _ (t : Tables) (s : Sought) (j : Bool) (front all mid : List Finding) where
  -- one more key and value
  pub entry_more : (new : List Finding) (es : List RustEntry) (i : ℕ) (e : RustEntry) → i < length es
      → e ≡ get_or es i e → front ++ sought_among t s (parts_in_entries j (entries_of_list (drop i es))) ≡ all
      → mid ≡ front ++ sought_among t s (parts_in j (expr_of e.key))
      → new ≡ mid ++ sought_among t s (parts_in j (expr_of e.value))
      → new ++ sought_among t s (parts_in_entries j (entries_of_list (drop (i + 1) es))) ≡ all
  entry_more new es i e lt is inv h k =
      then_two t s front mid new (parts_in j (expr_of e.key)) (parts_in j (expr_of e.value))
      (parts_in_entries j (entries_of_list (drop (i + 1) es))) h k
      ∙ ap (λ (xs : List RustEntry). front ++ sought_among t s (parts_in_entries j (entries_of_list xs)))
      (sym (cons_at es i e lt is))
      ∙ inv

  -- one more argument by name
  pub value_more : (ks : List RustKeyword) (i : ℕ) (k : RustKeyword) → i < length ks → k ≡ get_or ks i k
      → front ++ sought_among t s (parts_in_keywords j (keywords_of_list (drop i ks))) ≡ all
      → mid ≡ front ++ sought_among t s (parts_in j (expr_of k.value))
      → mid ++ sought_among t s (parts_in_keywords j (keywords_of_list (drop (i + 1) ks))) ≡ all
  value_more ks i k lt is inv h =
      then_parts t s front mid (parts_in j (expr_of k.value)) (parts_in_keywords j (keywords_of_list (drop (i + 1) ks)))
      h
      ∙ ap (λ (xs : List RustKeyword). front ++ sought_among t s (parts_in_keywords j (keywords_of_list xs)))
      (sym (cons_at ks i k lt is))
      ∙ inv
