-- Steps of the iterator of tokens.
use Rattle.std.proofs.Common.{◌≡◌, List, [], ◌∷◌, true, false, Option, Some, None, Result, Ok, Err, map, refl, ap, sym}
use Rattle.std.proofs.Common.{◌∙◌, inl, inr}
use Rattle.pc_source.specs.declared.fault.Refusal.{Refusal}
use Rattle.pc_source.specs.declared.fault.Fault.{Fault}
use Rattle.pc_token.specs.declared.token.Line.{Line}
use Rattle.pc_token.specs.Lexeme.{Lexeme, LogicalLine, logical_line_of}
use Rattle.pc_layout.specs.Stepping.{outrank}
use Rattle.pc_layout.specs.TokenIterator.PendingTokens.{pending, pending_by, asks}
use Rattle.pc_layout.specs.TokenIterator.Items.{line_item_of, ItemsLeft, OutrankedBy}
use Rattle.pc_layout.specs.declared.pending_line.PendingLine.{PendingLine}
use Rattle.pc_layout.specs.declared.pending_line.LineStage.TheVariants as due
use Rattle.pc_layout.proofs.Laying.{laid_fault}

-- nothing is due
pub nothing_left : {I : Type 0} (steps : I → Option (Result Line Fault) → I → Type 0) (h : PendingLine) (it : I)
    → h.due ≡ due.Nothing → ItemsLeft steps h it []
nothing_left steps h it e = inl (ap asks e, ap (λ d. pending_by d h []) e)

module _ {I : Type 0} (steps : I → Option (Result Line Fault) → I → Type 0) where
  -- a token of the pending line is taken
  pub takes : (h h' : PendingLine) (it : I) (x : Lexeme) (ys : List (Result Lexeme Fault)) → asks h'.due ≡ asks h.due →
      ((ls : List (Result LogicalLine Fault)) → pending h ls ≡ Ok x ∷ pending h' ls) → ItemsLeft steps h' it ys
      → ItemsLeft steps h it (Ok x ∷ ys)
  takes h h' it x ys e g (inl (a, p)) = inl (sym e ∙ a, g [] ∙ ap (λ z. Ok x ∷ z) p)
  takes h h' it x ys e g (inr (a, (ks, cm, p))) = inr (
    sym e ∙ a,
    (ks, cm, g (map line_item_of ks) ∙ ap (λ z. Ok x ∷ z) p),
  )

  -- the lines end, and a token is taken
  pub ends : (h m h' : PendingLine) (it jt : I) (x : Lexeme) (ys : List (Result Lexeme Fault)) → h.due ≡ due.Lines
      → m.due ≡ due.End → steps it None jt → pending h [] ≡ pending m [] →
      asks h'.due ≡ asks m.due → ((ls : List (Result LogicalLine Fault)) → pending m ls ≡ Ok x ∷ pending h' ls)
      → ItemsLeft steps h' jt ys → ItemsLeft steps h it (Ok x ∷ ys)
  ends h m h' it jt x ys d u s p e g (inl (a, q)) = inr (ap asks d, ([], (jt, s), p ∙ g [] ∙ ap (λ z. Ok x ∷ z) q))
  ends h m h' it jt x ys d u s p e g (inr (a, k)) = let f : true ≡ false = sym a ∙ e ∙ ap asks u in absurd (cc)

  -- a fault comes among the lines
  pub faults : (h : PendingLine) (it jt : I) (e : Fault) → h.due ≡ due.Lines → steps it (Some (Err e)) jt
      → ItemsLeft steps h it (Err e ∷ [])
  faults h it jt e d s = inr (
    ap asks d,
    (
      Err e ∷ [],
      (refl, jt, s),
      ap (λ d. pending_by d h (Err e ∷ [])) d
          ∙ laid_fault _ _ e [],
    ),
  )

  -- a line comes that is refused
  pub refuses : (h : PendingLine) (it jt : I) (l : Line) (r : Refusal) (e : Fault) → h.due ≡ due.Lines
      → steps it (Some (Ok l)) jt →
      ((ls : List (Result LogicalLine Fault)) → pending h (Ok (logical_line_of l) ∷ ls) ≡ Err (outrank r ls) ∷ [])
      → OutrankedBy steps r jt e → ItemsLeft steps h it (Err e ∷ [])
  refuses h it jt l r e d s g (ks, cm, q) = inr (
    ap asks d,
    (
      Ok l ∷ ks,
      (jt, s, cm),
      g (map line_item_of ks)
          ∙ ap (λ x. Err x ∷ []) q,
    ),
  )

  -- a line comes, and a token of it is taken
  pub begins : (h m h' : PendingLine) (it jt : I) (l : Line) (x : Lexeme) (ys : List (Result Lexeme Fault)) → h.due ≡ due.Lines
      → m.due ≡ due.Line → steps it (Some (Ok l)) jt →
      ((ls : List (Result LogicalLine Fault)) → pending h (Ok (logical_line_of l) ∷ ls) ≡ pending m ls) →
      asks h'.due ≡ asks m.due → ((ls : List (Result LogicalLine Fault)) → pending m ls ≡ Ok x ∷ pending h' ls)
      → ItemsLeft steps h' jt ys → ItemsLeft steps h it (Ok x ∷ ys)
  begins h m h' it jt l x ys d u s p e g (inl (a, k)) = let f : false ≡ true = sym a ∙ e ∙ ap asks u in absurd (cc)
  begins h m h' it jt l x ys d u s p e g (inr (a, (ks, cm, q))) =
      inr (
        ap asks d,
        (
          Ok l ∷ ks,
          (jt, s, cm),
          p (map line_item_of ks) ∙ g (map line_item_of ks)
              ∙ ap (λ z. Ok x ∷ z) q,
        ),
      )

  pub settled_by : (r : Refusal) (it jt : I) (i : Result Line Fault) (l : Line) (e : Fault) → i ≡ Ok l
      → steps it (Some i) jt → OutrankedBy steps r jt e → OutrankedBy steps r it e
  settled_by r it jt i l e q s (ks, cm, h) = (Ok l ∷ ks, (jt, rw q at s, cm), h)

  pub settled_fault : (r : Refusal) (it jt : I) (i : Result Line Fault) (e : Fault) → i ≡ Err e → steps it (Some i) jt
      → OutrankedBy steps r it e
  settled_fault r it jt i e q s = (Err e ∷ [], (refl, jt, rw q at s), refl)
