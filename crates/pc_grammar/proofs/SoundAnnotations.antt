-- An annotation that is read is spelled by its tokens.
use Rattle.std.proofs.Common.{◌≡◌, Bool, true, false, List, [], ◌∷◌, ◌++◌, refl, ap, sym, inl, inr, append-nil}
use Rattle.std.proofs.Common.{true≢false}
use Rattle.pc_token.specs.declared.token.TokenKind.{TokenKind}
use Rattle.pc_token.specs.declared.token.TokenKind.TheVariants as kind
use Rattle.pc_token.specs.declared.token.Keyword.TheVariants as word
use Rattle.pc_token.specs.declared.token.Operator.{Operator}
use Rattle.pc_token.specs.declared.token.Operator.TheVariants as sign
use Rattle.pc_token.specs.Lexeme.{Lexeme}
use Rattle.pc_tree.specs.Tree.{Name, Ann, named, none_type, applied, applied_empty, union, Anns, no_anns, more_anns}
use Rattle.pc_grammar.specs.Grammar.{Spelling, Sequence, ◌⟫◌, Just, Sign, IsName, span}
use Rattle.pc_grammar.specs.Grammar.Annotations.{AreSeveral, SpellsAnn, Separated, Annotation}
use Rattle.pc_grammar.specs.Machine.States.{AnnotationPosition, AnnStack, ann_whole, ann_inside, part_due, part_named}
use Rattle.pc_grammar.specs.Machine.States.{part_read, argument_due, empty_opened, empty_closed}
use Rattle.pc_grammar.specs.Machine.Finishing.{add_ann, finish_ann}
use Rattle.pc_grammar.specs.Machine.Annotations.{ann_of_parts, ann_end, part_turn, part_read_turn, part_named_turn}
use Rattle.pc_grammar.specs.Machine.Annotations.{argument_turn, empty_opened_turn, empty_closed_turn}
use Rattle.pc_grammar.specs.Fronts.{LedTo}
use Rattle.pc_grammar.specs.Fronts.Lines.{Kept, BeforeAnnContext, EachAnn, BeforeAnn, BeforeUnionPart}
use Rattle.pc_grammar.proofs.Sequences.{to_right, to_left, map_left, map_right}
use Rattle.pc_grammar.proofs.Stood.{Stood, grow, just, is_name, on_kind, kept_join, end_nothing}
use Rattle.pc_grammar.proofs.CompleteStatements.{no_front}

-- ---- lists of annotations

each_ann_add : (xs : Anns) (a : Ann) (o : Operator) (whole : Bool) (us : List Lexeme)
    → Sequence (EachAnn xs o whole) (SpellsAnn a whole ⟫ Sign o) us → EachAnn (add_ann xs a) o whole us
each_ann_add no_anns a o whole us w = map_right (λ vs v. end_nothing vs v) (no_front us w)
each_ann_add (more_anns x xs) a o whole us w = map_right (λ vs v. map_right (λ ws z. each_ann_add xs a o whole ws z)
    (to_right v)) (to_right w)

separated_last : (xs : Anns) (a : Ann) (o : Operator) (whole : Bool) (us : List Lexeme)
    → Sequence (EachAnn xs o whole) (SpellsAnn a whole) us → Separated (add_ann xs a) o whole us
separated_last no_anns a o whole us w = map_right (λ vs v. inr (refl, v)) (end_nothing us (no_front us w))
separated_last (more_anns x xs) a o whole us w =
    map_right (λ vs v. inl (map_right (λ ws z. separated_last xs a o whole ws z) (to_right v))) (to_right w)

several : (x : Ann) (xs : Anns) (a : Ann) → AreSeveral (add_ann (more_anns x xs) a)
several x no_anns a = tt
several x (more_anns y ys) a = tt

-- a part of a union is an annotation
part_is_whole : (a : Ann) (us : List Lexeme) → SpellsAnn a false us → SpellsAnn a true us
part_is_whole (named n) us h = h
part_is_whole (none_type p) us h = h
part_is_whole (applied p head xs) us h = h
part_is_whole (applied_empty p head) us h = h
part_is_whole (union p xs) us h = absurd (true≢false (sym h.0))

whole_spelled : (parts : Anns) (a : Ann) (ts us : List Lexeme) → ts ≡ us
    → Sequence (EachAnn parts sign.Bar false) (SpellsAnn a false) us → Annotation (ann_of_parts parts a ts) us
whole_spelled no_anns a ts us e w = part_is_whole a us (no_front us w)
whole_spelled (more_anns x xs) a ts us e w = (
  refl,
  several x xs a,
  (ap span e, separated_last (more_anns x xs) a sign.Bar false us w),
)

whole_kept : (parts : Anns) (a : Ann) (before tokens us : List Lexeme)
    → Sequence (Kept before (EachAnn parts sign.Bar false)) (Kept tokens (SpellsAnn a false)) us
    → Kept (before ++ tokens) (Annotation (ann_of_parts parts a (before ++ tokens))) us
whole_kept parts a before tokens us w = let k = kept_join before tokens us w in
    (k.0, whole_spelled parts a (before ++ tokens) us k.0 k.1)

-- ---- kept tokens

-- two that were kept, and one more token
behind_two : {S A B : Spelling} (o p : List Lexeme) (t : Lexeme) (k : TokenKind) (ts : List Lexeme) → t.kind ≡ k
    → Sequence (S ⟫ Kept o A) (Kept p B) ts
    → Sequence S (Kept (o ++ (p ++ (t ∷ []))) (A ⟫ B ⟫ Just k)) (ts ++ (t ∷ []))
behind_two o p t k ts e w = map_right (λ us v. kept_join o (p ++ (t ∷ [])) us
    (map_right (λ vs z. kept_join p (t ∷ []) vs z) v))
    (to_right (to_right (grow {B = Kept (t ∷ []) (Just k)} ts t w (refl, just t k e))))

behind_one : {S A : Spelling} (o : List Lexeme) (t : Lexeme) (k : TokenKind) (ts : List Lexeme) → t.kind ≡ k
    → Sequence S (Kept o A) ts
    → Sequence S (Kept (o ++ (t ∷ [])) (A ⟫ Just k)) (ts ++ (t ∷ []))
behind_one o t k ts e w = map_right (λ us v. kept_join o (t ∷ []) us v)
    (to_right (grow {B = Kept (t ∷ []) (Just k)} ts t w (refl, just t k e)))

-- no part yet
pub first_part : (s : AnnStack) (ts : List Lexeme) → BeforeAnn s ts → BeforeUnionPart no_anns [] s ts
first_part s ts h = record { front = ts; back = []; all = sym (append-nil ts); left = h; right = (refl, refl) }

-- the tokens that end a whole annotation, in the lines
abbrev pub FinishesAnn : Type 0
FinishesAnn = (c : AnnotationPosition) (a : Ann) (us : List Lexeme) (t : Lexeme) (ts : List Lexeme)
    → Sequence (BeforeAnnContext c) (Kept us (Annotation a)) ts → Stood (finish_ann c a t.kind) (ts ++ (t ∷ []))

applied_spelled : (head : Name) (done : Anns) (a : Ann) (ts us : List Lexeme) → ts ≡ us
    → Sequence ((IsName head ⟫ Sign sign.LeftBracket) ⟫ EachAnn done sign.Comma true)
    (Annotation a ⟫ Sign sign.RightBracket) us
    → SpellsAnn (applied (span ts) head (add_ann done a)) false us
applied_spelled head done a ts us e w = (
  ap span e,
  map_right (λ vs v. map_right (λ ws z. map_left (λ zs x. separated_last done a sign.Comma true zs x)
      (to_left z)) v) (to_right (to_right w)),
)

arguments_grow : (head : Name) (done : Anns) (a : Ann) (us : List Lexeme)
    → Sequence ((IsName head ⟫ Sign sign.LeftBracket) ⟫ EachAnn done sign.Comma true) (Annotation a ⟫ Sign sign.Comma)
    us
    → Sequence (IsName head ⟫ Sign sign.LeftBracket) (EachAnn (add_ann done a) sign.Comma true) us
arguments_grow head done a us w = map_right (λ vs v. each_ann_add done a sign.Comma true vs v) (to_right w)

ann_end_stood : FinishesAnn → (a : Ann) (us : List Lexeme) (s : AnnStack) (t : Lexeme) (ts : List Lexeme)
    → Sequence (BeforeAnn s) (Kept us (Annotation a)) ts → Stood (ann_end a us s t t.kind) (ts ++ (t ∷ []))
ann_end_stood f a us (ann_whole c) t ts w = f c a us t ts w
ann_end_stood f a us (ann_inside head done vs parts before s) t ts w = on_kind t (kind.Operator sign.Comma) _ _
    (ts ++ (t ∷ []))
    (λ e. first_part (ann_inside head (add_ann done a) (vs ++ (us ++ (t ∷ []))) parts before s) (ts ++ (t ∷ []))
    (map_right (λ ws k. (k.0, arguments_grow head done a ws k.1))
    (behind_two vs us t (kind.Operator sign.Comma) ts e w)))
    (on_kind t (kind.Operator sign.RightBracket) _ _ (ts ++ (t ∷ []))
    (λ e. map_right (λ ws k. (k.0, applied_spelled head done a (vs ++ (us ++ (t ∷ []))) ws k.0 k.1))
    (behind_two vs us t (kind.Operator sign.RightBracket) ts e w)) tt)

pub part_read_stood : FinishesAnn → (a : Ann) (us : List Lexeme) (parts : Anns) (before : List Lexeme) (s : AnnStack)
    (t : Lexeme) (ts : List Lexeme) → LedTo (part_read a us parts before s) ts
    → Stood (part_read_turn a us parts before s t t.kind) (ts ++ (t ∷ []))
part_read_stood f a us parts before s t ts w = on_kind t (kind.Operator sign.Bar) _ _ (ts ++ (t ∷ []))
    (λ e. map_right (λ ws k. (k.0, each_ann_add parts a sign.Bar false ws k.1))
    (behind_two before us t (kind.Operator sign.Bar) ts e w))
    (ann_end_stood f (ann_of_parts parts a (before ++ us)) (before ++ us) s t ts
    (map_right (whole_kept parts a before us) (to_right w)))

pub part_named_stood : FinishesAnn → (n : Name) (us : List Lexeme) (parts : Anns) (before : List Lexeme) (s : AnnStack)
    (t : Lexeme) (ts : List Lexeme) → LedTo (part_named n us parts before s) ts
    → Stood (part_named_turn n us parts before s t t.kind) (ts ++ (t ∷ []))
part_named_stood f n us parts before s t ts w = on_kind t (kind.Operator sign.LeftBracket) _ _ (ts ++ (t ∷ []))
    (λ e. behind_one us t (kind.Operator sign.LeftBracket) ts e w)
    (part_read_stood f (named n) us parts before s t ts w)

pub part_stood : (parts : Anns) (before : List Lexeme) (s : AnnStack) (t : Lexeme) (ts : List Lexeme)
    → LedTo (part_due parts before s) ts → Stood (part_turn parts before s t t.kind) (ts ++ (t ∷ []))
part_stood parts before s t ts w = on_kind t kind.Name _ _ (ts ++ (t ∷ [])) (λ e. grow ts t w (refl, is_name t e))
    (on_kind t (kind.Keyword word.None) _ _ (ts ++ (t ∷ [])) (λ e. grow ts t w (refl, (refl, just t _ e))) tt)

pub argument_stood : (head : Name) (us : List Lexeme) (parts : Anns) (before : List Lexeme) (s : AnnStack) (t : Lexeme)
    (ts : List Lexeme) → LedTo (argument_due head us parts before s) ts
    → Stood (argument_turn head us parts before s t t.kind) (ts ++ (t ∷ []))
argument_stood head us parts before s t ts w = on_kind t (kind.Operator sign.LeftParenthesis) _ _ (ts ++ (t ∷ []))
    (λ e. behind_one us t (kind.Operator sign.LeftParenthesis) ts e w)
    (part_stood no_anns [] (ann_inside head no_anns us parts before s) t ts
    (first_part (ann_inside head no_anns us parts before s) ts (map_right (λ vs k. (k.0, end_nothing vs k.1)) w)))

pub empty_opened_stood : (head : Name) (us : List Lexeme) (parts : Anns) (before : List Lexeme) (s : AnnStack)
    (t : Lexeme) (ts : List Lexeme) → LedTo (empty_opened head us parts before s) ts
    → Stood (empty_opened_turn head us parts before s t t.kind) (ts ++ (t ∷ []))
empty_opened_stood head us parts before s t ts w = on_kind t (kind.Operator sign.RightParenthesis) _ _ (ts ++ (t ∷ []))
    (λ e. behind_one us t (kind.Operator sign.RightParenthesis) ts e w) tt

pub empty_closed_stood : (head : Name) (us : List Lexeme) (parts : Anns) (before : List Lexeme) (s : AnnStack)
    (t : Lexeme) (ts : List Lexeme) → LedTo (empty_closed head us parts before s) ts
    → Stood (empty_closed_turn head us parts before s t t.kind) (ts ++ (t ∷ []))
empty_closed_stood head us parts before s t ts w = on_kind t (kind.Operator sign.RightBracket) _ _ (ts ++ (t ∷ []))
    (λ e. map_right (λ vs k. (k.0, (ap span k.0, to_right (to_right (to_right k.1)))))
    (behind_one us t (kind.Operator sign.RightBracket) ts e w)) tt
