-- Signs before an operand.
use Rattle.std.proofs.Common.{◌≡◌, ℕ, ◌≤◌, ◌<◌, List, [], ◌∷◌, ◌++◌, refl, arith, ap, ◌∙◌}
use Rattle.pc_token.specs.declared.token.TokenKind.{TokenKind}
use Rattle.pc_token.specs.Lexeme.{Lexeme}
use Rattle.pc_grammar.specs.Machine.{transition}
use Rattle.pc_grammar.specs.Machine.Kinds.{Link, Follow, link}
use Rattle.pc_grammar.specs.Machine.States.{Part, Prefix, minus, denial, Stack, applying, operand, go, on, stuck}
use Rattle.pc_grammar.specs.Machine.Expressions.{prefix_level, needed_level, applied, have_turn, left_of_link, own_of_link}
use Rattle.pc_grammar.specs.Fronts.Expressions.{prefix_kind}
use Rattle.pc_reader.specs.Internal.Operands.{signs_on, applied_all, starts_of}
use Rattle.pc_reader.specs.Internal.Expressions.{TakesSign, Undotted, wrapped_level}
use Rattle.pc_reader.proofs.Frames.{is_le, apply_turn, own_left, link_low, not_two}

pub signs_more : (x : Prefix) (ts : List Lexeme) (t : Lexeme) (s : Stack) → signs_on x (ts ++ (t ∷ [])) s
    ≡ applying x (t ∷ []) (signs_on x ts s)
signs_more x [] t s = refl
signs_more x (u ∷ ts) t s = signs_more x ts t (applying x (u ∷ []) s)

pub starts_push : (ts : List Lexeme) (t : Lexeme) → starts_of (ts ++ (t ∷ [])) ≡ starts_of ts ++ (t.place.start ∷ [])
starts_push [] t = refl
starts_push (u ∷ ts) t = ap (λ z. u.place.start ∷ z) (starts_push ts t)

takes_more : (x : Prefix) (t : Lexeme) (s : Stack) → TakesSign x (applying x (t ∷ []) s)
takes_more minus t s = tt
takes_more denial t s = omega arith

pub takes_signs : (x : Prefix) (ts : List Lexeme) (s : Stack) → TakesSign x s → TakesSign x (signs_on x ts s)
takes_signs x [] s h = h
takes_signs x (t ∷ ts) s h = takes_signs x ts (applying x (t ∷ []) s) (takes_more x t s)

-- the level that the operand after signs must have
pub signs_rank : (x : Prefix) (ts : List Lexeme) (s : Stack) (n : ℕ) → needed_level s ≤ n → prefix_level x ≤ n
    → needed_level (signs_on x ts s) ≤ n
signs_rank x [] s n h g = h
signs_rank x (t ∷ ts) s n h g = signs_rank x ts (applying x (t ∷ []) s) n g g

pub sign_turn : (x : Prefix) (s : Stack) (t : Lexeme) (k : TokenKind) → k ≡ prefix_kind x → TakesSign x s
    → transition (operand s) t k ≡ go (operand (applying x (t ∷ []) s))
sign_turn minus s t k e h = ap (transition (operand s) t) e
sign_turn denial s t k e h = ap (transition (operand s) t) e ∙ ap (λ z. on z (operand (applying denial (t ∷ []) s)) stuck)
    (is_le (needed_level s) 2 h)

-- before a token that does not go on with the operand, signs are as good as applied
pub signs_turn : (x : Prefix) (ts : List Lexeme) (p : Part) (s : Stack) (level : ℕ) (t : Lexeme) (f : Follow)
    → prefix_level x ≤ level
    → ((k : Link) → f ≡ link k → left_of_link k ≤ level → own_of_link k < prefix_level x) → Undotted level f
    → Undotted (prefix_level x) f
    → have_turn level p (signs_on x ts s) t f ≡ have_turn (wrapped_level x ts level) (applied_all x ts p) s t f
signs_turn x [] p s level t f h v u y = refl
signs_turn x (w ∷ []) p s level t f h v u y = apply_turn x (w ∷ []) p s level t f h v u y
signs_turn x (w ∷ z ∷ ts) p s level t f h v u y = signs_turn x (z ∷ ts) p (applying x (w ∷ []) s) level t f h v u y
    ∙ apply_turn x (w ∷ []) (applied_all x (z ∷ ts) p) s (prefix_level x) t f (omega arith) (λ k e g. no_link x k g) y y
  where
    no_link : (x : Prefix) (k : Link) → left_of_link k ≤ prefix_level x → own_of_link k < prefix_level x
    no_link minus k g = omega (arith, link_low k)
    no_link denial k g = not_two k (omega (arith, own_left k))

-- the last of the signs
pub record LastOf (ts : List Lexeme) (rest : List ℕ) (byte : ℕ) : Type 0 where
  pub front : List Lexeme
  pub last : Lexeme
  pub is : ts ≡ front ++ (last ∷ [])
  pub starts : starts_of front ≡ rest
  pub start : last.place.start ≡ byte

pub last_sign : (ts : List Lexeme) (rest : List ℕ) (byte : ℕ) → starts_of ts ≡ rest ++ (byte ∷ []) → LastOf ts rest byte
last_sign [] [] byte e = cc
last_sign [] (r ∷ rest) byte e = cc
last_sign (t ∷ []) [] byte e = record { front = []; last = t; is = refl; starts = refl; start = cc }
last_sign (t ∷ u ∷ ts) [] byte e = cc
last_sign (t ∷ []) (r ∷ []) byte e = cc
last_sign (t ∷ []) (r ∷ q ∷ rest) byte e = cc
last_sign (t ∷ u ∷ ts) (r ∷ rest) byte e = let h = last_sign (u ∷ ts) rest byte cc in
    record {
      front = t ∷ h.front;
      last = h.last;
      is = ap (λ z. t ∷ z) h.is;
      starts = let q = h.starts in cc;
      start =
          h.start;
    }

pub applied_more : (x : Prefix) (ts : List Lexeme) (t : Lexeme) (p : Part) → applied_all x (ts ++ (t ∷ [])) p
    ≡ applied_all x ts (applied x (t ∷ []) p)
applied_more x [] t p = refl
applied_more x (u ∷ ts) t p = ap (applied x (u ∷ [])) (applied_more x ts t p)

pub no_signs : (ts : List Lexeme) → starts_of ts ≡ [] → ts ≡ []
no_signs [] e = refl
no_signs (t ∷ ts) e = cc

pub some_sign : {A : Type 0} (xs : List A) (x : A) → xs ++ (x ∷ []) ≡ [] → ⊥
some_sign [] x e = cc
some_sign (y ∷ xs) x e = cc

pub applied_tokens : (x : Prefix) (ts : List Lexeme) (p : Part) → (applied_all x ts p).tokens ≡ ts ++ p.tokens
applied_tokens x [] p = refl
applied_tokens x (t ∷ ts) p = ap (λ z. t ∷ z) (applied_tokens x ts p)

-- minus signs bind less tightly than any operand after them, and more than any operator
pub minus_high : (ts : List Lexeme) (level own : ℕ) → level ≤ 6 → 6 ≤ own → level ≤ wrapped_level minus ts own
minus_high [] level own h g = omega (arith, h, g)
minus_high (t ∷ ts) level own h g = h

-- where some sign stands, the last one says how tightly its operand must bind
pub signs_rank_is : (x : Prefix) (ts : List Lexeme) (s : Stack) → needed_level s ≡ prefix_level x
    → needed_level (signs_on x ts s) ≡ prefix_level x
signs_rank_is x [] s h = h
signs_rank_is x (t ∷ ts) s h = signs_rank_is x ts (applying x (t ∷ []) s) refl
