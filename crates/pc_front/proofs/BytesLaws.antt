-- Bytes spell at most one module, and then they have no refusal.
use Rattle.std.proofs.Common.{◌≡◌, ℕ, List, [], ◌∷◌, ◌++◌, length, map, refl, sym, ap, ◌∙◌, subst, inl, inr, arith}
use Rattle.std.specs.Prelude.{Some, None, Result, Ok, Err}
use Rattle.pc_source.specs.declared.fault.Refusal.{Refusal}
use Rattle.pc_source.proofs.SourceRefusals.{no_refusal as no_refusal_of_text}
use Rattle.pc_token.specs.Lexeme.{Lexeme, LogicalLine}
use Rattle.pc_token.proofs.AllLines.{only}
use Rattle.pc_layout.specs.Layouts.{IsLayout}
use Rattle.pc_layout.specs.Faults.{IsLayoutRefusal}
use Rattle.pc_layout.proofs.OneLayout.{one_layout}
use Rattle.pc_tree.specs.Tree.{Module}
use Rattle.pc_tree.specs.Depth.{too_deep_at}
use Rattle.pc_grammar.specs.Faults.{IsModule, IsRefusal}
use Rattle.pc_grammar.proofs.CompleteModules.{spells_one}
use Rattle.pc_front.specs.Bytes.{IsLined, IsLaidOut, IsModuleOf, IsRefusalOf, of_source, of_tokens, of_layout}
use Rattle.pc_front.specs.Bytes.{of_grammar}

-- ---- lines

ok_inj : {x y : LogicalLine} {xs ys : List (Result LogicalLine Refusal)} → Ok x ∷ xs ≡ Ok y ∷ ys → (x ≡ y) × (xs ≡ ys)
ok_inj e = (grind (arith, e), grind (arith, e))

all_ok : (a b : List LogicalLine) → map {B = Result LogicalLine Refusal} Ok a ≡ map Ok b → a ≡ b
all_ok [] [] e = refl
all_ok [] (y ∷ b) e = absurd (grind (arith, e))
all_ok (x ∷ a) [] e = absurd (grind (arith, e))
all_ok (x ∷ a) (y ∷ b) e = let h = ok_inj e in let r = all_ok a b h.1 in cc

pub not_ok : (a b : List LogicalLine) (r : Refusal) → map Ok a ≡ map Ok b ++ Err r ∷ [] → ⊥
not_ok [] [] r e = absurd (grind (arith, e))
not_ok [] (y ∷ b) r e = absurd (grind (arith, e))
not_ok (x ∷ a) [] r e = absurd (grind (arith, e))
not_ok (x ∷ a) (y ∷ b) r e = not_ok a b r (ok_inj e).1

pub one_lines : (bytes : List ℕ) (a b : List LogicalLine) → IsLined bytes a → IsLined bytes b → a ≡ b
one_lines bytes a b h g = all_ok a b ((only bytes (map Ok b) g.split).1 (map Ok a) h.split)

pub one_tokens : (bytes : List ℕ) (ts us : List Lexeme) → IsLaidOut bytes ts → IsLaidOut bytes us → ts ≡ us
one_tokens bytes ts us h g =
    one_layout bytes g.lines ts us (subst (λ ls. IsLayout bytes ls ts) (one_lines bytes h.lines g.lines h.lined g.lined)
    h.layout) g.layout

pub one_module : (bytes : List ℕ) (m n : Module) → IsModuleOf bytes m → IsModuleOf bytes n → m ≡ n
one_module bytes m n h g =
    spells_one m n g.tokens (subst (λ ts. Rattle.pc_grammar.specs.Grammar.Modules.SpellsModule m ts)
    (one_tokens bytes h.tokens g.tokens h.laid_out g.laid_out) h.spelled.spelled) g.spelled.spelled

-- ---- refusals

no_grammar : (ts : List Lexeme) (m : Module) (r : Refusal) → IsModule ts m → ¬ (IsRefusal ts r)
no_grammar ts m r h (inl (code, inl misfit)) = misfit.refused (
  misfit.after,
  m,
  subst (λ us. Rattle.pc_grammar.specs.Grammar.Modules.SpellsModule m us)
      (misfit.all ∙ append_one misfit.before misfit.token misfit.after) h.spelled,
)
  where
    append_one : (before : List Lexeme) (t : Lexeme) (after : List Lexeme)
        → before ++ (t ∷ after) ≡ (before ++ (t ∷ [])) ++ after
    append_one [] t after = refl
    append_one (x ∷ before) t after = ap (λ l. x ∷ l) (append_one before t after)
no_grammar ts m r h (inl (code, inr early)) = early.unspelled m h.spelled
no_grammar ts m r h (inr (code, deep)) =
    let same : deep.tree ≡ m = spells_one deep.tree m ts deep.spelled h.spelled in
    let some = deep.first in let none = h.shallow in absurd (some_none (sym (ap (λ x. too_deep_at x) same) ∙ some) none)
  where
    some_none : {b : ℕ} {o : _} → o ≡ Some b → o ≡ None → ⊥
    some_none e f = absurd (grind (arith, e, f))

pub no_refusal : (bytes : List ℕ) (m : Module) (r : Refusal) → IsModuleOf bytes m → ¬ (IsRefusalOf bytes r)
no_refusal bytes m r h (of_source g) = no_refusal_of_text bytes r h.laid_out.lined.text g
no_refusal bytes m r h (of_tokens g) = not_ok h.laid_out.lines g.before r
    ((only bytes (map Ok g.before ++ Err r ∷ []) g.split).1 (map Ok h.laid_out.lines) h.laid_out.lined.split)
no_refusal bytes m r h (of_layout g) =
    h.laid_out.layout.faultless r.code r.byte (subst (λ ls. IsLayoutRefusal (length bytes) ls r)
    (one_lines bytes g.lines h.laid_out.lines g.lined h.laid_out.lined) g.refused).fault
no_refusal bytes m r h (of_grammar g) = no_grammar g.tokens m r
    (subst (λ ts. IsModule ts m) (one_tokens bytes h.tokens g.tokens h.laid_out g.laid_out) h.spelled) g.refused
