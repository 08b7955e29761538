-- An annotation that is spelled is read.
use Rattle.std.proofs.Common.{◌≡◌, ◌⊎◌, Bool, true, false, List, [], ◌∷◌, ◌++◌, refl, ap, sym, ◌∙◌, subst, inl, inr}
use Rattle.std.proofs.Common.{append_assoc, append-nil, true≢false}
use Rattle.pc_source.specs.declared.place.Place.{Place}
use Rattle.pc_token.specs.declared.token.TokenKind.{TokenKind}
use Rattle.pc_token.specs.declared.token.TokenKind.TheVariants as kind
use Rattle.pc_token.specs.declared.token.Keyword.TheVariants as word
use Rattle.pc_token.specs.declared.token.Operator.{Operator}
use Rattle.pc_token.specs.declared.token.Operator.TheVariants as sign
use Rattle.pc_token.specs.Lexeme.{Lexeme}
use Rattle.pc_tree.specs.Tree.{Name, Ann, named, none_type, applied, applied_empty, union, Anns, no_anns, more_anns}
use Rattle.pc_grammar.specs.Grammar.{Spelling, Sequence, ◌⟫◌, Just, Sign, IsName, Rest, span}
use Rattle.pc_grammar.specs.Grammar.Annotations.{AreSeveral, SpellsAnn, Separated}
use Rattle.pc_grammar.specs.Machine.Kinds.{same_kind}
use Rattle.pc_grammar.specs.Machine.States.{AnnStack, ann_inside, part_due, part_named, part_read, argument_due}
use Rattle.pc_grammar.specs.Machine.States.{empty_opened, empty_closed, on}
use Rattle.pc_grammar.specs.Machine.Finishing.{add_ann}
use Rattle.pc_grammar.specs.Machine.Annotations.{ann_of_parts, ann_end, part_turn, part_read_turn}
use Rattle.pc_grammar.specs.Machine.{at, read_tokens}
use Rattle.pc_grammar.proofs.Runs.{run_same, run_none}
use Rattle.pc_grammar.proofs.Sequences.{token_run, all_four}
use Rattle.pc_grammar.proofs.CompleteExpressions.{name_run}

-- ---- lists of annotations

abbrev pub append_anns : Anns → Anns → Anns
append_anns no_anns ys = ys
append_anns (more_anns x xs) ys = more_anns x (append_anns xs ys)

pub append_no_anns : (xs : Anns) → append_anns xs no_anns ≡ xs
append_no_anns no_anns = refl
append_no_anns (more_anns x xs) = ap (more_anns x) (append_no_anns xs)

pub append_more_anns : (xs : Anns) (y : Ann) (ys : Anns) → append_anns (add_ann xs y) ys ≡ append_anns xs
    (more_anns y ys)
append_more_anns no_anns y ys = refl
append_more_anns (more_anns x xs) y ys = ap (more_anns x) (append_more_anns xs y ys)

add_last : (xs : Anns) (y : Ann) → add_ann xs y ≡ append_anns xs (more_anns y no_anns)
add_last xs y = sym (append_no_anns (add_ann xs y)) ∙ append_more_anns xs y no_anns

abbrev pub IsMore : Anns → Type 0
IsMore no_anns = ⊥
IsMore (more_anns a rest) = Unit {0}

add_more : (xs : Anns) (y : Ann) → IsMore (add_ann xs y)
add_more no_anns y = tt
add_more (more_anns x xs) y = tt

-- ---- the tokens after an annotation

-- no bracket and no bar comes next
abbrev pub IsClear : TokenKind → Type 0
IsClear k = (same_kind k (kind.Operator sign.LeftBracket) ≡ false) × (same_kind k (kind.Operator sign.Bar) ≡ false)

abbrev pub Clear : Spelling
Clear [] = Unit {0}
Clear (t ∷ ts) = IsClear t.kind

-- no bracket comes next
abbrev pub NoBracket : Spelling
NoBracket [] = Unit {0}
NoBracket (t ∷ ts) = same_kind t.kind (kind.Operator sign.LeftBracket) ≡ false

clear_no_bracket : (ts : List Lexeme) → Clear ts → NoBracket ts
clear_no_bracket [] h = tt
clear_no_bracket (t ∷ ts) h = h.0

pub clear_just : (k : TokenKind) → IsClear k → (ts : List Lexeme) → Just k ts → (rest : List Lexeme)
    → Clear (ts ++ rest)
clear_just k h ts (t, tk, is) rest = subst (λ x. Clear (x ++ rest)) (sym is) (subst IsClear (sym tk) h)

no_bracket_just : (k : TokenKind) → same_kind k (kind.Operator sign.LeftBracket) ≡ false → (ts : List Lexeme)
    → Just k ts → (rest : List Lexeme) → NoBracket (ts ++ rest)
no_bracket_just k h ts (t, tk, is) rest = subst (λ x. NoBracket (x ++ rest)) (sym is)
    (subst (λ x. same_kind x (kind.Operator sign.LeftBracket) ≡ false) (sym tk) h)

-- ---- the statement to prove

-- a part of a union, after others
abbrev pub ReadsPart : Ann → Type 0
ReadsPart a = (ts : List Lexeme) → SpellsAnn a false ts → (parts : Anns) (before : List Lexeme) (s : AnnStack)
    (rest : List Lexeme) → NoBracket rest
    → read_tokens (at (part_due parts before s)) (ts ++ rest) ≡ read_tokens (at (part_read a ts parts before s)) rest

-- a whole one
abbrev pub ReadsAnn : Ann → Type 0
ReadsAnn a = (ts : List Lexeme) → SpellsAnn a true ts → (s : AnnStack) (rest : List Lexeme) → Clear rest
    → read_tokens (at (part_due no_anns [] s)) (ts ++ rest) ≡ read_tokens (at (part_read a ts no_anns [] s)) rest

-- arguments, up to the closing bracket
abbrev pub ReadsArguments : Anns → Type 0
ReadsArguments xs = (ts : List Lexeme) → Separated xs sign.Comma true ts
    → (head : Name) (done : Anns) (eaten : List Lexeme) (parts : Anns) (before : List Lexeme) (s : AnnStack)
    → (c : List Lexeme) → Sign sign.RightBracket c → (rest : List Lexeme)
    → read_tokens (at (part_due no_anns [] (ann_inside head done eaten parts before s))) (ts ++ (c ++ rest))
    ≡ read_tokens (at (part_read (applied (span (eaten ++ (ts ++ c))) head (append_anns done xs)) (eaten ++ (ts ++ c)) parts
    before s)) rest

-- the parts of a union, after others or where there are several
abbrev pub ReadsParts : Anns → Type 0
ReadsParts xs = (ts : List Lexeme) → Separated xs sign.Bar false ts
    → (parts : Anns) (before : List Lexeme) (s : AnnStack) → IsMore parts ⊎ AreSeveral xs
    → (rest : List Lexeme) → Clear rest
    → read_tokens (at (part_due parts before s)) (ts ++ rest)
    ≡ read_tokens (at (part_read (union (span (before ++ ts)) (append_anns parts xs)) (before ++ ts) no_anns [] s)) rest

-- ---- parts

-- after a name that no bracket follows
name_ends : (n : Name) (ts : List Lexeme) (parts : Anns) (before : List Lexeme) (s : AnnStack) (rest : List Lexeme)
    → NoBracket rest
    → read_tokens (at (part_named n ts parts before s)) rest ≡ read_tokens (at (part_read (named n) ts parts before s)) rest
name_ends n ts parts before s [] h = run_none _ ∙ sym (run_none _)
name_ends n ts parts before s (t ∷ rest) h = run_same _ _ t rest
    (ap (λ b. on b (argument_due n (ts ++ (t ∷ [])) parts before s)
    (part_read_turn (named n) ts parts before s t t.kind)) h)

reads_named : (n : Name) → ReadsPart (named n)
reads_named n ts h parts before s rest st =
    name_run n (part_due parts before s) (λ m x. part_named m x parts before s) (λ t. refl) ts h rest
    ∙ name_ends n ts parts before s rest st

reads_none : (p : Place) → ReadsPart (none_type p)
reads_none p ts (e, h) parts before s rest st =
    token_run (kind.Keyword word.None) (part_due parts before s) (λ x. part_read (none_type (span x)) x parts before s)
    (λ t. refl) ts h rest
    ∙ ap (λ q. read_tokens (at (part_read (none_type q) ts parts before s)) rest) (sym e)

-- an annotation begins with a name or `None`
abbrev StartsAnn : Spelling
StartsAnn [] = ⊥
StartsAnn (t ∷ ts) = same_kind t.kind (kind.Operator sign.LeftParenthesis) ≡ false

starts_ann_append : (a b : List Lexeme) → StartsAnn a → StartsAnn (a ++ b)
starts_ann_append [] b h = absurd h
starts_ann_append (t ∷ a) b h = h

starts_ann_just : (k : TokenKind) → same_kind k (kind.Operator sign.LeftParenthesis) ≡ false → (ts : List Lexeme)
    → Just k ts → StartsAnn ts
starts_ann_just k h ts (t, tk, is) = subst StartsAnn (sym is)
    (subst (λ x. same_kind x (kind.Operator sign.LeftParenthesis) ≡ false) (sym tk) h)

starts_ann_first : {A B : Spelling} {ts : List Lexeme} (h : Sequence A B ts) → StartsAnn h.front → StartsAnn ts
starts_ann_first h f = subst StartsAnn (sym h.all) (starts_ann_append h.front h.back f)

starts_ann_name : (n : Name) (ts : List Lexeme) → IsName n ts → StartsAnn ts
starts_ann_name n ts (t, tk, ne, is) = starts_ann_just kind.Name refl ts (t, tk, is)

mutual
  starts_ann : (a : Ann) (whole : Bool) (ts : List Lexeme) → SpellsAnn a whole ts → StartsAnn ts
  starts_ann (named n) whole ts h = starts_ann_name n ts h
  starts_ann (none_type p) whole ts h = starts_ann_just (kind.Keyword word.None) refl ts h.1
  starts_ann (applied p head arguments) whole ts h = starts_ann_first h.1 (starts_ann_name head h.1.front h.1.left)
  starts_ann (applied_empty p head) whole ts h = starts_ann_first h.1 (starts_ann_name head h.1.front h.1.left)
  starts_ann (union p parts) whole ts h = starts_separated parts sign.Bar false ts h.2.1

  starts_separated : (xs : Anns) (o : Operator) (whole : Bool) (ts : List Lexeme) → Separated xs o whole ts
      → StartsAnn ts
  starts_separated no_anns o whole ts h = absurd h
  starts_separated (more_anns a rest) o whole ts h = starts_ann_first h (starts_ann a whole h.front h.left)

-- tokens that begin an annotation are read as the first argument after a bracket
argument_begins : (head : Name) (eaten : List Lexeme) (parts : Anns) (before : List Lexeme) (s : AnnStack)
    (ts : List Lexeme) → StartsAnn ts
    → read_tokens (at (argument_due head eaten parts before s)) ts ≡ read_tokens
    (at (part_due no_anns [] (ann_inside head no_anns eaten parts before s))) ts
argument_begins head eaten parts before s [] h = absurd h
argument_begins head eaten parts before s (t ∷ ts) h = run_same _ _ t ts
    (ap (λ b. on b (empty_opened head (eaten ++ (t ∷ [])) parts before s)
    (part_turn no_anns [] (ann_inside head no_anns eaten parts before s) t t.kind)) h)

reads_applied : (p : Place) (head : Name) (xs : Anns) → ReadsArguments xs → ReadsPart (applied p head xs)
reads_applied p head xs arguments ts (e, w) parts before s rest st =
    let a : List Lexeme = w.front in
    let b : List Lexeme = w.right.front in
    let d : List Lexeme = w.right.right.front in
    let c : List Lexeme = w.right.right.back in
    let P : List Lexeme → Type 0 = λ x. read_tokens (at (part_due parts before s)) (x ++ rest)
    ≡ read_tokens (at (part_read (applied (span x) head xs) x parts before s)) rest in
    subst P (sym (all_four w))
    (ap (read_tokens (at (part_due parts before s))) (append_assoc a (b ++ (d ++ c)) rest
    ∙ ap (λ x. a ++ x) (append_assoc b (d ++ c) rest ∙ ap (λ x. b ++ x) (append_assoc d c rest)))
    ∙ name_run head (part_due parts before s) (λ m x. part_named m x parts before s) (λ t. refl) a w.left
    (b ++ (d ++ (c ++ rest)))
    ∙ token_run (kind.Operator sign.LeftBracket) (part_named head a parts before s)
    (λ x. argument_due head (a ++ x) parts before s) (λ t. refl) b w.right.left (d ++ (c ++ rest))
    ∙ argument_begins head (a ++ b) parts before s (d ++ (c ++ rest))
    (starts_ann_append d (c ++ rest) (starts_separated xs sign.Comma true d w.right.right.left))
    ∙ arguments d w.right.right.left head no_anns (a ++ b) parts before s c w.right.right.right rest
    ∙ ap (λ x. read_tokens (at (part_read (applied (span x) head xs) x parts before s)) rest) (append_assoc a b (d ++ c)))
    ∙ ap (λ q. read_tokens (at (part_read (applied q head xs) ts parts before s)) rest) (sym e)

regroup_three : (a b c d : List Lexeme) → ((a ++ b) ++ c) ++ d ≡ a ++ (b ++ (c ++ d))
regroup_three a b c d = simp append_assoc

reads_applied_empty : (p : Place) (head : Name) → ReadsPart (applied_empty p head)
reads_applied_empty p head ts (e, w) parts before s rest st =
    let a : List Lexeme = w.front in
    let b : List Lexeme = w.right.front in
    let c : List Lexeme = w.right.right.front in
    let d : List Lexeme = w.right.right.right.front in
    let f : List Lexeme = w.right.right.right.back in
    let P : List Lexeme → Type 0 = λ x. read_tokens (at (part_due parts before s)) (x ++ rest)
    ≡ read_tokens (at (part_read (applied_empty (span x) head) x parts before s)) rest in
    subst P (sym (all_four w ∙ ap (λ z. a ++ (b ++ (c ++ z))) w.right.right.right.all))
    (ap (read_tokens (at (part_due parts before s))) (append_assoc a (b ++ (c ++ (d ++ f))) rest
    ∙ ap (λ z. a ++ z) (append_assoc b (c ++ (d ++ f)) rest
    ∙ ap (λ z. b ++ z) (append_assoc c (d ++ f) rest ∙ ap (λ z. c ++ z) (append_assoc d f rest))))
    ∙ name_run head (part_due parts before s) (λ m x. part_named m x parts before s) (λ t. refl) a w.left
    (b ++ (c ++ (d ++ (f ++ rest))))
    ∙ token_run (kind.Operator sign.LeftBracket) (part_named head a parts before s)
    (λ x. argument_due head (a ++ x) parts before s) (λ t. refl) b w.right.left (c ++ (d ++ (f ++ rest)))
    ∙ token_run (kind.Operator sign.LeftParenthesis) (argument_due head (a ++ b) parts before s)
    (λ x. empty_opened head ((a ++ b) ++ x) parts before s) (λ t. refl) c w.right.right.left (d ++ (f ++ rest))
    ∙ token_run (kind.Operator sign.RightParenthesis) (empty_opened head ((a ++ b) ++ c) parts before s)
    (λ x. empty_closed head (((a ++ b) ++ c) ++ x) parts before s) (λ t. refl) d w.right.right.right.left
    (f ++ rest)
    ∙ token_run (kind.Operator sign.RightBracket) (empty_closed head (((a ++ b) ++ c) ++ d) parts before s)
    (λ x. part_read (applied_empty (span ((((a ++ b) ++ c) ++ d) ++ x)) head) ((((a ++ b) ++ c) ++ d) ++ x) parts before
    s) (λ t. refl) f w.right.right.right.right rest
    ∙ ap (λ x. read_tokens (at (part_read (applied_empty (span x) head) x parts before s)) rest)
    (append_assoc ((a ++ b) ++ c) d f ∙ regroup_three a b c (d ++ f)))
    ∙ ap (λ q. read_tokens (at (part_read (applied_empty q head) ts parts before s)) rest) (sym e)

-- ---- unions

several_whole : (parts : Anns) (a : Ann) (ts : List Lexeme) → IsMore parts
    → ann_of_parts parts a ts ≡ union (span ts) (add_ann parts a)
several_whole no_anns a ts h = absurd h
several_whole (more_anns x xs) a ts h = refl

-- the last part of a union ends it
union_ends : (a : Ann) (ts : List Lexeme) (parts : Anns) (before : List Lexeme) (s : AnnStack) → IsMore parts
    → (rest : List Lexeme) → Clear rest
    → read_tokens (at (part_read a ts parts before s)) rest
    ≡ read_tokens (at (part_read (union (span (before ++ ts)) (add_ann parts a)) (before ++ ts) no_anns [] s)) rest
union_ends a ts parts before s m [] h = run_none _ ∙ sym (run_none _)
union_ends a ts parts before s m (t ∷ rest) h = run_same _ _ t rest
    (ap (λ b. on b (part_due (add_ann parts a) (before ++ (ts ++ (t ∷ []))) s)
    (ann_end (ann_of_parts parts a (before ++ ts)) (before ++ ts) s t t.kind)) h.1
    ∙ ap (λ x. ann_end x (before ++ ts) s t t.kind) (several_whole parts a (before ++ ts) m)
    ∙ sym (ap (λ b. on b (part_due (add_ann no_anns (union (span (before ++ ts)) (add_ann parts a)))
    ([] ++ ((before ++ ts) ++ (t ∷ []))) s)
    (ann_end (union (span (before ++ ts)) (add_ann parts a)) (before ++ ts) s t t.kind)) h.1))

no_parts : ReadsParts no_anns
no_parts ts h parts before s m rest st = absurd h

regroup_bars : (before a q d : List Lexeme) → (before ++ (a ++ q)) ++ d ≡ before ++ (a ++ (q ++ d))
regroup_bars before a q d = simp append_assoc

more_parts : (a : Ann) (xs : Anns) → ReadsPart a → ReadsParts xs → (ts b c : List Lexeme) → ts ≡ b ++ c
    → SpellsAnn a false b → Rest (xs ≡ no_anns) (Sign sign.Bar ⟫ (λ u. Separated xs sign.Bar false u)) c
    → (parts : Anns) (before : List Lexeme) (s : AnnStack) → IsMore parts ⊎ AreSeveral (more_anns a xs)
    → (rest : List Lexeme) → Clear rest
    → read_tokens (at (part_due parts before s)) (ts ++ rest)
    ≡ read_tokens (at (part_read (union (span (before ++ ts)) (append_anns parts (more_anns a xs))) (before ++ ts) no_anns
    [] s)) rest
more_parts a xs part others ts b c is ha (inl w) parts before s m rest st =
    let q : List Lexeme = w.front in
    let d : List Lexeme = w.back in
    let P : List Lexeme → Type 0 = λ x. read_tokens (at (part_due parts before s)) (x ++ rest)
    ≡ read_tokens (at (part_read (union (span (before ++ x)) (append_anns parts (more_anns a xs))) (before ++ x) no_anns []
    s)) rest in
    subst P (sym (is ∙ ap (λ z. b ++ z) w.all))
    (ap (read_tokens (at (part_due parts before s))) (append_assoc b (q ++ d) rest ∙ ap (λ z. b ++ z) (append_assoc q d rest))
    ∙ part b ha parts before s (q ++ (d ++ rest)) (no_bracket_just (kind.Operator sign.Bar) refl q w.left (d ++ rest))
    ∙ token_run (kind.Operator sign.Bar) (part_read a b parts before s)
    (λ x. part_due (add_ann parts a) (before ++ (b ++ x)) s) (λ t. refl) q w.left (d ++ rest)
    ∙ others d w.right (add_ann parts a) (before ++ (b ++ q)) s (inl (add_more parts a)) rest st
    ∙ ap (λ x. read_tokens (at (part_read (union (span ((before ++ (b ++ q)) ++ d)) x) ((before ++ (b ++ q)) ++ d) no_anns []
    s)) rest) (append_more_anns parts a xs)
    ∙ ap (λ x. read_tokens (at (part_read (union (span x) (append_anns parts (more_anns a xs))) x no_anns [] s)) rest)
    (regroup_bars before b q d))
more_parts a xs part others ts b c is ha (inr (none, i)) parts before s m rest st =
    let P : List Lexeme → Type 0 = λ x. read_tokens (at (part_due parts before s)) (x ++ rest)
    ≡ read_tokens (at (part_read (union (span (before ++ x)) (append_anns parts (more_anns a xs))) (before ++ x) no_anns []
    s)) rest in
    subst P (sym (is ∙ ap (λ z. b ++ z) i ∙ append-nil b))
    (part b ha parts before s rest (clear_no_bracket rest st)
    ∙ union_ends a b parts before s (is_more parts xs none m) rest st
    ∙ ap (λ x. read_tokens (at (part_read (union (span (before ++ b)) x) (before ++ b) no_anns [] s)) rest)
    (add_last parts a ∙ ap (λ x. append_anns parts (more_anns a x)) (sym none)))
  where
    is_more : (parts xs : Anns) → xs ≡ no_anns → IsMore parts ⊎ AreSeveral (more_anns a xs) → IsMore parts
    is_more parts xs none (inl h) = h
    is_more parts no_anns none (inr h) = absurd h
    is_more parts (more_anns x xs) none (inr h) = cc

reads_union : (p : Place) (xs : Anns) → ReadsParts xs → ReadsAnn (union p xs)
reads_union p xs parts ts h s rest st = parts ts h.2.1 no_anns [] s (inr h.1) rest st
    ∙ ap (λ q. read_tokens (at (part_read (union q xs) ts no_anns [] s)) rest) (sym h.2.0)

-- ---- arguments

no_arguments : ReadsArguments no_anns
no_arguments ts h = absurd h

regroup_arguments : (eaten b q d c : List Lexeme) → (eaten ++ (b ++ q)) ++ (d ++ c) ≡ eaten ++ ((b ++ (q ++ d)) ++ c)
regroup_arguments eaten b q d c = simp append_assoc

more_arguments : (a : Ann) (xs : Anns) → ReadsAnn a → ReadsArguments xs → (ts b e : List Lexeme) → ts ≡ b ++ e
    → SpellsAnn a true b → Rest (xs ≡ no_anns) (Sign sign.Comma ⟫ (λ u. Separated xs sign.Comma true u)) e
    → (head : Name) (done : Anns) (eaten : List Lexeme) (parts : Anns) (before : List Lexeme) (s : AnnStack)
    → (c : List Lexeme) → Sign sign.RightBracket c → (rest : List Lexeme)
    → read_tokens (at (part_due no_anns [] (ann_inside head done eaten parts before s))) (ts ++ (c ++ rest))
    ≡ read_tokens (at (part_read (applied (span (eaten ++ (ts ++ c))) head (append_anns done (more_anns a xs)))
    (eaten ++ (ts ++ c)) parts before s)) rest
more_arguments a xs one others ts b e is ha (inl w) head done eaten parts before s c hc rest =
    let q : List Lexeme = w.front in
    let d : List Lexeme = w.back in
    let P : List Lexeme → Type 0 = λ x. read_tokens (at (part_due no_anns [] (ann_inside head done eaten parts before s)))
    (x ++ (c ++ rest))
    ≡ read_tokens (at (part_read (applied (span (eaten ++ (x ++ c))) head (append_anns done (more_anns a xs)))
    (eaten ++ (x ++ c)) parts before s)) rest in
    subst P (sym (is ∙ ap (λ z. b ++ z) w.all))
    (ap (read_tokens (at (part_due no_anns [] (ann_inside head done eaten parts before s))))
    (append_assoc b (q ++ d) (c ++ rest) ∙ ap (λ z. b ++ z) (append_assoc q d (c ++ rest)))
    ∙ one b ha (ann_inside head done eaten parts before s) (q ++ (d ++ (c ++ rest)))
    (clear_just (kind.Operator sign.Comma) (refl, refl) q w.left (d ++ (c ++ rest)))
    ∙ token_run (kind.Operator sign.Comma) (part_read a b no_anns [] (ann_inside head done eaten parts before s))
    (λ x. part_due no_anns [] (ann_inside head (add_ann done a) (eaten ++ (b ++ x)) parts before s)) (λ t. refl) q
    w.left (d ++ (c ++ rest))
    ∙ others d w.right head (add_ann done a) (eaten ++ (b ++ q)) parts before s c hc rest
    ∙ ap (λ x. read_tokens (at (part_read (applied (span ((eaten ++ (b ++ q)) ++ (d ++ c))) head x)
    ((eaten ++ (b ++ q)) ++ (d ++ c)) parts before s)) rest) (append_more_anns done a xs)
    ∙ ap (λ x. read_tokens (at (part_read (applied (span x) head (append_anns done (more_anns a xs))) x parts before s)) rest)
    (regroup_arguments eaten b q d c))
more_arguments a xs one others ts b e is ha (inr (none, i)) head done eaten parts before s c hc rest =
    let P : List Lexeme → Type 0 = λ x. read_tokens (at (part_due no_anns [] (ann_inside head done eaten parts before s)))
    (x ++ (c ++ rest))
    ≡ read_tokens (at (part_read (applied (span (eaten ++ (x ++ c))) head (append_anns done (more_anns a xs)))
    (eaten ++ (x ++ c)) parts before s)) rest in
    subst P (sym (is ∙ ap (λ z. b ++ z) i ∙ append-nil b))
    (one b ha (ann_inside head done eaten parts before s) (c ++ rest)
    (clear_just (kind.Operator sign.RightBracket) (refl, refl) c hc rest)
    ∙ token_run (kind.Operator sign.RightBracket) (part_read a b no_anns [] (ann_inside head done eaten parts before s))
    (λ x. part_read (applied (span (eaten ++ (b ++ x))) head (add_ann done a)) (eaten ++ (b ++ x)) parts before s)
    (λ t. refl) c hc rest
    ∙ ap (λ x. read_tokens (at (part_read (applied (span (eaten ++ (b ++ c))) head x) (eaten ++ (b ++ c)) parts before s)) rest)
    (add_last done a ∙ ap (λ x. append_anns done (more_anns a x)) (sym none)))

-- ---- every annotation

-- the annotation is no union
part_alone : (a : Ann) → ReadsPart a → (ts : List Lexeme) → SpellsAnn a false ts → (s : AnnStack) (rest : List Lexeme)
    → Clear rest
    → read_tokens (at (part_due no_anns [] s)) (ts ++ rest) ≡ read_tokens (at (part_read a ts no_anns [] s)) rest
part_alone a part ts h s rest st = part ts h no_anns [] s rest (clear_no_bracket rest st)

mutual
  reads_part : (a : Ann) → ReadsPart a
  reads_part (named n) = reads_named n
  reads_part (none_type p) = reads_none p
  reads_part (applied p head xs) = reads_applied p head xs (reads_arguments xs)
  reads_part (applied_empty p head) = reads_applied_empty p head
  reads_part (union p xs) = λ ts h. absurd (true≢false (sym h.0))

  pub reads_ann : (a : Ann) → ReadsAnn a
  reads_ann (named n) = part_alone (named n) (reads_named n)
  reads_ann (none_type p) = part_alone (none_type p) (reads_none p)
  reads_ann (applied p head xs) = part_alone (applied p head xs) (reads_applied p head xs (reads_arguments xs))
  reads_ann (applied_empty p head) = part_alone (applied_empty p head) (reads_applied_empty p head)
  reads_ann (union p xs) = reads_union p xs (reads_parts xs)

  reads_arguments : (xs : Anns) → ReadsArguments xs
  reads_arguments no_anns = no_arguments
  reads_arguments (more_anns a xs) = λ ts w. more_arguments a xs (reads_ann a) (reads_arguments xs) ts w.front w.back
      w.all w.left w.right

  reads_parts : (xs : Anns) → ReadsParts xs
  reads_parts no_anns = no_parts
  reads_parts (more_anns a xs) = λ ts w. more_parts a xs (reads_part a) (reads_parts xs) ts w.front w.back w.all w.left
      w.right
