-- Tokens that spell parts in brackets are read, and so is each expression.
use Rattle.std.proofs.Common.{◌≡◌, ℕ, Bool, true, false, List, [], ◌∷◌, ◌++◌, refl, ap, sym, ◌∙◌, subst, inl, inr}
use Rattle.std.proofs.Common.{append_assoc, append-nil, arith}
use Rattle.std.specs.Prelude.{⊤}
use Rattle.pc_source.specs.declared.place.Place.{Place}
use Rattle.pc_token.specs.declared.token.TokenKind.TheVariants as kind
use Rattle.pc_token.specs.declared.token.Keyword.TheVariants as word
use Rattle.pc_token.specs.declared.token.Operator.TheVariants as sign
use Rattle.pc_token.specs.Lexeme.{Lexeme}
use Rattle.pc_tree.specs.Tree.{Name, Expr, name, number, text, truth, nothing, tuple, list, dict, negative, negation}
use Rattle.pc_tree.specs.Tree.{binary, compare, is_none, is_not_none, conjunction, disjunction, attribute, index, call}
use Rattle.pc_tree.specs.Tree.{Exprs, no_exprs, more_exprs, Entries, no_entries, more_entries, Keywords, no_keywords}
use Rattle.pc_tree.specs.Tree.{more_keywords}
use Rattle.pc_grammar.specs.Grammar.{Just, Sign, Nothing, AfterComma, digits_of, characters_of}
use Rattle.pc_grammar.specs.Grammar.Expressions.{own_level, Operand, Spells, Items, SpellsEntries, SpellsKeywords}
use Rattle.pc_grammar.specs.Grammar.Expressions.{Expression, truth_word}
use Rattle.pc_grammar.specs.Machine.Kinds.{operand_start, no_start, arithmetic, comparison, both, either}
use Rattle.pc_grammar.specs.Machine.States.{Part, minus, denial, BracketPurpose, in_tuple, in_list, in_call, Stack, grouping}
use Rattle.pc_grammar.specs.Machine.States.{listing, naming, keying, valuing, operand, have, group_due, item_due}
use Rattle.pc_grammar.specs.Machine.States.{keyword_due, keyword_named, key_due, go}
use Rattle.pc_grammar.specs.Machine.Finishing.{add_expr, add_entry, add_keyword}
use Rattle.pc_grammar.specs.Machine.Expressions.{needed_level, Stops, bare_part, head_tree, call_part, closer}
use Rattle.pc_grammar.specs.Machine.{transition, at, read_tokens}
use Rattle.pc_grammar.proofs.Runs.{run_go}
use Rattle.pc_grammar.proofs.Sequences.{token_run, all_three, all_four, map_right}
use Rattle.pc_grammar.proofs.Starts.{Starts, starts_append, starts_operand, starts_run, stops_just}
use Rattle.pc_grammar.proofs.CompleteExpressions.{part_at, placed, ReadsPlain, reads_operand, reads_infix, reads_prefix}
use Rattle.pc_grammar.proofs.CompleteExpressions.{reads_is_none, reads_is_not_none, name_run, reads_attribute}
use Rattle.pc_grammar.proofs.CompleteExpressions.{reads_index}

-- ---- lists that grow at their end

abbrev pub append_exprs : Exprs → Exprs → Exprs
append_exprs no_exprs ys = ys
append_exprs (more_exprs x xs) ys = more_exprs x (append_exprs xs ys)

pub append_no_exprs : (xs : Exprs) → append_exprs xs no_exprs ≡ xs
append_no_exprs no_exprs = refl
append_no_exprs (more_exprs x xs) = ap (more_exprs x) (append_no_exprs xs)

pub append_more_exprs : (xs : Exprs) (y : Expr) (ys : Exprs) → append_exprs (add_expr xs y) ys ≡ append_exprs xs
    (more_exprs y ys)
append_more_exprs no_exprs y ys = refl
append_more_exprs (more_exprs x xs) y ys = ap (more_exprs x) (append_more_exprs xs y ys)

abbrev pub append_entries : Entries → Entries → Entries
append_entries no_entries es = es
append_entries (more_entries x y ds) es = more_entries x y (append_entries ds es)

pub append_no_entries : (es : Entries) → append_entries es no_entries ≡ es
append_no_entries no_entries = refl
append_no_entries (more_entries x y es) = ap (more_entries x y) (append_no_entries es)

pub append_more_entries : (ds : Entries) (k v : Expr) (es : Entries) → append_entries (add_entry ds k v) es
    ≡ append_entries ds (more_entries k v es)
append_more_entries no_entries k v es = refl
append_more_entries (more_entries x y ds) k v es = ap (more_entries x y) (append_more_entries ds k v es)

abbrev pub append_keywords : Keywords → Keywords → Keywords
append_keywords no_keywords ks = ks
append_keywords (more_keywords n v js) ks = more_keywords n v (append_keywords js ks)

pub append_no_keywords : (ks : Keywords) → append_keywords ks no_keywords ≡ ks
append_no_keywords no_keywords = refl
append_no_keywords (more_keywords n v ks) = ap (more_keywords n v) (append_no_keywords ks)

pub append_more_keywords : (js : Keywords) (n : Name) (v : Expr) (ks : Keywords)
    → append_keywords (add_keyword js n v) ks ≡ append_keywords js (more_keywords n v ks)
append_more_keywords no_keywords n v ks = refl
append_more_keywords (more_keywords m x js) n v ks = ap (more_keywords m x) (append_more_keywords js n v ks)

-- ---- items

closer_no_start : (h : BracketPurpose) → operand_start (closer h) ≡ no_start
closer_no_start in_tuple = refl
closer_no_start in_list = refl
closer_no_start (in_call e) = refl

pub item_operand : (h : BracketPurpose) (xs : Exprs) (eaten : List Lexeme) (s : Stack) (ts : List Lexeme) → Starts ts
    → read_tokens (at (item_due h xs eaten s)) ts ≡ read_tokens (at (operand (listing h xs eaten s))) ts
item_operand h xs eaten s ts st = starts_run (item_due h xs eaten s) (operand (listing h xs eaten s))
    (λ t. have 7 (bare_part (head_tree h xs) (eaten ++ (t ∷ []))) s)
    (closer h) (closer_no_start h) (λ t k. refl) ts st

closer_loose : (h : BracketPurpose) (c : List Lexeme) → Just (closer h) c → (rest : List Lexeme) → Stops 1 (c ++ rest)
closer_loose in_tuple c h rest = stops_just (kind.Operator sign.RightParenthesis) 1 (omega arith) c h rest
closer_loose in_list c h rest = stops_just (kind.Operator sign.RightBracket) 1 (omega arith) c h rest
closer_loose (in_call e) c h rest = stops_just (kind.Operator sign.RightParenthesis) 1 (omega arith) c h rest

-- Items in brackets of which the part is `final`, once `others` stand after them.
abbrev pub ReadsItems : Exprs → Type 0
ReadsItems xs = (ks : Keywords) (ts : List Lexeme) → Items xs (λ u. SpellsKeywords ks u) (ks ≡ no_keywords) ts
    → (h : BracketPurpose) (s : Stack) (final : Exprs → List Lexeme → Part) (c : List Lexeme) → Just (closer h) c
    → (rest : List Lexeme)
    → (others : (before : Exprs) (eaten us : List Lexeme) → SpellsKeywords ks us
    → read_tokens (at (item_due h before eaten s)) (us ++ (c ++ rest)) ≡ read_tokens (at (have 7 (final before (eaten ++ (us ++ c))) s))
    rest)
    → (last : ks ≡ no_keywords → (before : Exprs) (eaten : List Lexeme) (p : Part)
    → read_tokens (at (have 0 p (listing h before eaten s))) (c ++ rest)
    ≡ read_tokens (at (have 7 (final (add_expr before p.tree) (eaten ++ (p.tokens ++ c))) s)) rest)
    → (before : Exprs) (eaten : List Lexeme)
    → read_tokens (at (item_due h before eaten s)) (ts ++ (c ++ rest)) ≡ read_tokens
    (at (have 7 (final (append_exprs before xs) (eaten ++ (ts ++ c))) s)) rest

reads_no_items : ReadsItems no_exprs
reads_no_items ks ts i h s final c hc rest others last before eaten =
    others before eaten ts i ∙ ap (λ x. read_tokens (at (have 7 (final x (eaten ++ (ts ++ c))) s)) rest)
    (sym (append_no_exprs before))

regroup_five : (eaten a b c d : List Lexeme) → (eaten ++ (a ++ b)) ++ (c ++ d) ≡ eaten ++ ((a ++ (b ++ c)) ++ d)
regroup_five eaten a b c d = simp append_assoc

regroup_out : (a b c d e : List Lexeme) → (a ++ (b ++ c)) ++ (d ++ e) ≡ a ++ (b ++ (c ++ (d ++ e)))
regroup_out a b c d e = simp append_assoc

regroup_left : (eaten a b c d : List Lexeme) → ((eaten ++ a) ++ b) ++ (c ++ d) ≡ eaten ++ ((a ++ (b ++ c)) ++ d)
regroup_left eaten a b c d = simp append_assoc

more_items : (x : Expr) (xs : Exprs) → ReadsPlain x → ReadsItems xs → (ks : Keywords) (ts a b : List Lexeme)
    → ts ≡ a ++ b → Operand 0 (own_level x) (λ u. Spells x u) a
    → AfterComma ((xs ≡ no_exprs) × (ks ≡ no_keywords)) (λ u. Items xs (λ v. SpellsKeywords ks v) (ks ≡ no_keywords) u)
    b
    → (h : BracketPurpose) (s : Stack) (final : Exprs → List Lexeme → Part) (c : List Lexeme) → Just (closer h) c
    → (rest : List Lexeme)
    → (others : (before : Exprs) (eaten us : List Lexeme) → SpellsKeywords ks us
    → read_tokens (at (item_due h before eaten s)) (us ++ (c ++ rest)) ≡ read_tokens (at (have 7 (final before (eaten ++ (us ++ c))) s))
    rest)
    → (last : ks ≡ no_keywords → (before : Exprs) (eaten : List Lexeme) (p : Part)
    → read_tokens (at (have 0 p (listing h before eaten s))) (c ++ rest)
    ≡ read_tokens (at (have 7 (final (add_expr before p.tree) (eaten ++ (p.tokens ++ c))) s)) rest)
    → (before : Exprs) (eaten : List Lexeme)
    → read_tokens (at (item_due h before eaten s)) (ts ++ (c ++ rest)) ≡ read_tokens
    (at (have 7 (final (append_exprs before (more_exprs x xs)) (eaten ++ (ts ++ c))) s)) rest
more_items x xs plain items ks ts a b is hx (inl w) h s final c hc rest others last before eaten =
    let q : List Lexeme = w.front in
    let d : List Lexeme = w.back in
    let px : Part = part_at hx.0 x a in
    let P : List Lexeme → Type 0 = λ z. read_tokens (at (item_due h before eaten s)) (z ++ (c ++ rest))
    ≡ read_tokens (at (have 7 (final (append_exprs before (more_exprs x xs)) (eaten ++ (z ++ c))) s)) rest in
    subst P (sym (is ∙ ap (λ z. a ++ z) w.all))
    (ap (read_tokens (at (item_due h before eaten s))) (append_assoc a (q ++ d) (c ++ rest)
    ∙ ap (λ z. a ++ z) (append_assoc q d (c ++ rest)))
    ∙ item_operand h before eaten s (a ++ (q ++ (d ++ (c ++ rest))))
    (starts_append a (q ++ (d ++ (c ++ rest))) (starts_operand 0 x a hx))
    ∙ reads_operand x plain 0 (omega arith) a hx (listing h before eaten s) (omega arith) (q ++ (d ++ (c ++ rest)))
    (stops_just (kind.Operator sign.Comma) 1 (omega arith) q w.left (d ++ (c ++ rest)))
    ∙ token_run (kind.Operator sign.Comma) (have 0 px (listing h before eaten s))
    (λ z. item_due h (add_expr before x) (eaten ++ (a ++ z)) s) (λ t. refl) q w.left (d ++ (c ++ rest))
    ∙ items ks d w.right h s final c hc rest others last (add_expr before x) (eaten ++ (a ++ q))
    ∙ ap (λ z. read_tokens (at (have 7 (final z ((eaten ++ (a ++ q)) ++ (d ++ c))) s)) rest) (append_more_exprs before x xs)
    ∙ ap (λ z. read_tokens (at (have 7 (final (append_exprs before (more_exprs x xs)) z) s)) rest) (regroup_five eaten a q d c))
more_items x xs plain items ks ts a b is hx (inr ((none, alone), e)) h s final c hc rest others last before eaten =
    let px : Part = part_at hx.0 x a in
    let P : List Lexeme → Type 0 = λ z. read_tokens (at (item_due h before eaten s)) (z ++ (c ++ rest))
    ≡ read_tokens (at (have 7 (final (append_exprs before (more_exprs x xs)) (eaten ++ (z ++ c))) s)) rest in
    subst P (sym (is ∙ ap (λ z. a ++ z) e ∙ append-nil a))
    (item_operand h before eaten s (a ++ (c ++ rest)) (starts_append a (c ++ rest) (starts_operand 0 x a hx))
    ∙ reads_operand x plain 0 (omega arith) a hx (listing h before eaten s) (omega arith) (c ++ rest)
    (closer_loose h c hc rest)
    ∙ last alone before eaten px
    ∙ ap (λ z. read_tokens (at (have 7 (final z (eaten ++ (a ++ c))) s)) rest)
    (sym (append_no_exprs (add_expr before x)) ∙ append_more_exprs before x no_exprs
    ∙ ap (λ z. append_exprs before (more_exprs x z)) (sym none)))

reads_more_items : (x : Expr) (xs : Exprs) → ReadsPlain x → ReadsItems xs → ReadsItems (more_exprs x xs)
reads_more_items x xs plain items ks ts w = more_items x xs plain items ks ts w.front w.back w.all w.left w.right

-- a list with nothing else after it
alone_rest : (xs : Exprs) → ((us : List Lexeme) → Items xs Nothing ⊤ us → Items xs (λ u. SpellsKeywords no_keywords u)
    (no_keywords ≡ no_keywords) us)
    → (ts : List Lexeme) → AfterComma ((xs ≡ no_exprs) × ⊤) (λ u. Items xs Nothing ⊤ u) ts
    → AfterComma ((xs ≡ no_exprs) × (no_keywords ≡ no_keywords))
    (λ u. Items xs (λ v. SpellsKeywords no_keywords v) (no_keywords ≡ no_keywords) u) ts
alone_rest xs f ts (inl q) = inl (map_right f q)
alone_rest xs f ts (inr (e, n)) = inr ((e.0, refl), n)

alone_items : (xs : Exprs) (ts : List Lexeme) → Items xs Nothing ⊤ ts → Items xs (λ u. SpellsKeywords no_keywords u)
    (no_keywords ≡ no_keywords) ts
alone_items no_exprs ts i = i
alone_items (more_exprs x xs) ts w = map_right (alone_rest xs (λ us i. alone_items xs us i)) w

-- tuples and lists
reads_listed : (xs : Exprs) → ReadsItems xs → (h : BracketPurpose) → (ts : List Lexeme) → Items xs Nothing ⊤ ts
    → (s : Stack) (c : List Lexeme) → Just (closer h) c
    → (rest : List Lexeme) (before : Exprs) (eaten : List Lexeme)
    → read_tokens (at (item_due h before eaten s)) (ts ++ (c ++ rest)) ≡ read_tokens
    (at (have 7 (bare_part (head_tree h (append_exprs before xs)) (eaten ++ (ts ++ c))) s)) rest
reads_listed xs items h ts i s c hc rest before eaten = items no_keywords ts (alone_items xs ts i) h s
    (λ ys us. bare_part (head_tree h ys) us) c hc rest
    (λ ys us vs e. ap (λ z. read_tokens (at (item_due h ys us s)) (z ++ (c ++ rest))) e
    ∙ token_run (closer h) (item_due h ys us s) (λ z. have 7 (bare_part (head_tree h ys) (us ++ z)) s) (closes h ys us s) c
    hc rest
    ∙ ap (λ z. read_tokens (at (have 7 (bare_part (head_tree h ys) (us ++ (z ++ c))) s)) rest) (sym e))
    (λ e ys us p. token_run (closer h) (have 0 p (listing h ys us s))
    (λ z. have 7 (bare_part (head_tree h (add_expr ys p.tree)) (us ++ (p.tokens ++ z))) s) (closes_last h ys us s p) c hc
    rest)
    before eaten
  where
    closes : (h : BracketPurpose) (ys : Exprs) (us : List Lexeme) (s : Stack) (t : Lexeme)
        → transition (item_due h ys us s) t (closer h) ≡ go (have 7 (bare_part (head_tree h ys) (us ++ (t ∷ []))) s)
    closes in_tuple ys us s t = refl
    closes in_list ys us s t = refl
    closes (in_call e) ys us s t = refl

    closes_last : (h : BracketPurpose) (ys : Exprs) (us : List Lexeme) (s : Stack) (p : Part) (t : Lexeme)
        → transition (have 0 p (listing h ys us s)) t (closer h)
        ≡ go (have 7 (bare_part (head_tree h (add_expr ys p.tree)) (us ++ (p.tokens ++ (t ∷ [])))) s)
    closes_last in_tuple ys us s p t = refl
    closes_last in_list ys us s p t = refl
    closes_last (in_call e) ys us s p t = refl

reads_list : (p : Place) (xs : Exprs) → ReadsItems xs → ReadsPlain (list p xs)
reads_list p xs items ts (e, w) s rs rest st =
    let a : List Lexeme = w.front in
    let b : List Lexeme = w.right.front in
    let c : List Lexeme = w.right.back in
    let P : List Lexeme → Type 0 = λ x. read_tokens (at (operand s)) (x ++ rest) ≡ read_tokens (at (have 7 (bare_part (λ q. list q xs) x) s))
    rest in
    subst P (sym (all_three w))
    (ap (read_tokens (at (operand s))) (append_assoc a (b ++ c) rest ∙ ap (λ x. a ++ x) (append_assoc b c rest))
    ∙ token_run (kind.Operator sign.LeftBracket) (operand s) (λ x. item_due in_list no_exprs x s) (λ t. refl) a w.left
    (b ++ (c ++ rest))
    ∙ reads_listed xs items in_list b w.right.left s c w.right.right rest no_exprs a)
    ∙ ap (λ x. read_tokens (at (have 7 x s)) rest) (placed (λ q. list q xs) p ts e)

reads_unit : (p : Place) → ReadsPlain (tuple p no_exprs)
reads_unit p ts (e, w) s rs rest st =
    let a : List Lexeme = w.front in
    let b : List Lexeme = w.back in
    let P : List Lexeme → Type 0 = λ x. read_tokens (at (operand s)) (x ++ rest)
    ≡ read_tokens (at (have 7 (bare_part (λ q. tuple q no_exprs) x) s)) rest in
    subst P (sym w.all)
    (ap (read_tokens (at (operand s))) (append_assoc a b rest)
    ∙ token_run (kind.Operator sign.LeftParenthesis) (operand s) (λ x. group_due x s) (λ t. refl) a w.left (b ++ rest)
    ∙ token_run (kind.Operator sign.RightParenthesis) (group_due a s)
    (λ x. have 7 (bare_part (λ q. tuple q no_exprs) (a ++ x)) s) (λ t. refl) b w.right rest)
    ∙ ap (λ x. read_tokens (at (have 7 x s)) rest) (placed (λ q. tuple q no_exprs) p ts e)

reads_tuple : (p : Place) (x : Expr) (xs : Exprs) → ReadsPlain x → ReadsItems xs
    → ReadsPlain (tuple p (more_exprs x xs))
reads_tuple p x xs plain items ts (e, w) s rs rest st =
    let a : List Lexeme = w.front in
    let b : List Lexeme = w.right.front in
    let q : List Lexeme = w.right.right.front in
    let d : List Lexeme = w.right.right.right.front in
    let c : List Lexeme = w.right.right.right.back in
    let px : Part = part_at w.right.left.0 x b in
    let P : List Lexeme → Type 0 = λ z. read_tokens (at (operand s)) (z ++ rest)
    ≡ read_tokens (at (have 7 (bare_part (λ r. tuple r (more_exprs x xs)) z) s)) rest in
    subst P (sym (all_four w ∙ ap (λ z. a ++ (b ++ (q ++ z))) w.right.right.right.all))
    (ap (read_tokens (at (operand s))) (append_assoc a (b ++ (q ++ (d ++ c))) rest
    ∙ ap (λ z. a ++ z) (append_assoc b (q ++ (d ++ c)) rest
    ∙ ap (λ z. b ++ z) (append_assoc q (d ++ c) rest ∙ ap (λ z. q ++ z) (append_assoc d c rest))))
    ∙ token_run (kind.Operator sign.LeftParenthesis) (operand s) (λ z. group_due z s) (λ t. refl) a w.left
    (b ++ (q ++ (d ++ (c ++ rest))))
    ∙ starts_run (group_due a s) (operand (grouping a s)) (λ t. have 7 (bare_part (λ r. tuple r no_exprs) (a ++ (t ∷ []))) s)
    (kind.Operator sign.RightParenthesis) refl (λ t k. refl)
    (b ++ (q ++ (d ++ (c ++ rest)))) (starts_append b (q ++ (d ++ (c ++ rest))) (starts_operand 0 x b w.right.left))
    ∙ reads_operand x plain 0 (omega arith) b w.right.left (grouping a s) (omega arith) (q ++ (d ++ (c ++ rest)))
    (stops_just (kind.Operator sign.Comma) 1 (omega arith) q w.right.right.left (d ++ (c ++ rest)))
    ∙ token_run (kind.Operator sign.Comma) (have 0 px (grouping a s))
    (λ z. item_due in_tuple (more_exprs x no_exprs) (a ++ (b ++ z)) s) (λ t. refl) q w.right.right.left
    (d ++ (c ++ rest))
    ∙ reads_listed xs items in_tuple d w.right.right.right.left s c w.right.right.right.right rest
    (more_exprs x no_exprs) (a ++ (b ++ q))
    ∙ ap (λ z. read_tokens (at (have 7 (bare_part (λ r. tuple r (more_exprs x xs)) z) s)) rest) (regroup_out a b q d c))
    ∙ ap (λ z. read_tokens (at (have 7 z s)) rest) (placed (λ r. tuple r (more_exprs x xs)) p ts e)

-- ---- arguments by name

abbrev pub ReadsKeywords : Keywords → Type 0
ReadsKeywords ks = (ts : List Lexeme) → SpellsKeywords ks ts → (e : Expr) (xs : Exprs) (s : Stack) (c : List Lexeme)
    → Sign sign.RightParenthesis c → (rest : List Lexeme)
    → (before : Keywords) (eaten : List Lexeme)
    → read_tokens (at (keyword_due e xs before eaten s)) (ts ++ (c ++ rest))
    ≡ read_tokens (at (have 7 (call_part e xs (append_keywords before ks) (eaten ++ (ts ++ c))) s)) rest

reads_no_keywords : ReadsKeywords no_keywords
reads_no_keywords ts i e xs s c hc rest before eaten = ap (λ z. read_tokens (at (keyword_due e xs before eaten s))
    (z ++ (c ++ rest))) i
    ∙ token_run (kind.Operator sign.RightParenthesis) (keyword_due e xs before eaten s)
    (λ z. have 7 (call_part e xs before (eaten ++ z)) s) (λ t. refl) c hc rest
    ∙ ap (λ z. read_tokens (at (have 7 (call_part e xs z (eaten ++ c)) s)) rest) (sym (append_no_keywords before))
    ∙ ap (λ z. read_tokens (at (have 7 (call_part e xs (append_keywords before no_keywords) (eaten ++ (z ++ c))) s)) rest)
    (sym i)

-- the value of an argument by name, and those after it
value_reads : (v : Expr) (ks : Keywords) → ReadsPlain v → ReadsKeywords ks → (ts a b : List Lexeme) → ts ≡ a ++ b
    → Operand 0 (own_level v) (λ u. Spells v u) a
    → AfterComma (ks ≡ no_keywords) (λ u. SpellsKeywords ks u) b
    → (e : Expr) (xs : Exprs) (s : Stack) (c : List Lexeme) → Sign sign.RightParenthesis c
    → (rest : List Lexeme) (before : Keywords) (n : Name) (eaten : List Lexeme)
    → read_tokens (at (operand (naming e xs before n eaten s))) (ts ++ (c ++ rest))
    ≡ read_tokens (at (have 7 (call_part e xs (append_keywords before (more_keywords n v ks)) (eaten ++ (ts ++ c))) s)) rest
value_reads v ks plain others ts a b is hv (inl w) e xs s c hc rest before n eaten =
    let q : List Lexeme = w.front in
    let d : List Lexeme = w.back in
    let pv : Part = part_at hv.0 v a in
    let P : List Lexeme → Type 0 = λ z. read_tokens (at (operand (naming e xs before n eaten s))) (z ++ (c ++ rest))
    ≡ read_tokens (at (have 7 (call_part e xs (append_keywords before (more_keywords n v ks)) (eaten ++ (z ++ c))) s))
    rest in
    subst P (sym (is ∙ ap (λ z. a ++ z) w.all))
    (ap (read_tokens (at (operand (naming e xs before n eaten s)))) (append_assoc a (q ++ d) (c ++ rest)
    ∙ ap (λ z. a ++ z) (append_assoc q d (c ++ rest)))
    ∙ reads_operand v plain 0 (omega arith) a hv (naming e xs before n eaten s) (omega arith) (q ++ (d ++ (c ++ rest)))
    (stops_just (kind.Operator sign.Comma) 1 (omega arith) q w.left (d ++ (c ++ rest)))
    ∙ token_run (kind.Operator sign.Comma) (have 0 pv (naming e xs before n eaten s))
    (λ z. keyword_due e xs (add_keyword before n v) (eaten ++ (a ++ z)) s) (λ t. refl) q w.left (d ++ (c ++ rest))
    ∙ others d w.right e xs s c hc rest (add_keyword before n v) (eaten ++ (a ++ q))
    ∙ ap (λ z. read_tokens (at (have 7 (call_part e xs z ((eaten ++ (a ++ q)) ++ (d ++ c))) s)) rest)
    (append_more_keywords before n v ks)
    ∙ ap (λ z. read_tokens (at (have 7 (call_part e xs (append_keywords before (more_keywords n v ks)) z) s)) rest)
    (regroup_five eaten a q d c))
value_reads v ks plain others ts a b is hv (inr (none, i)) e xs s c hc rest before n eaten =
    let pv : Part = part_at hv.0 v a in
    let P : List Lexeme → Type 0 = λ z. read_tokens (at (operand (naming e xs before n eaten s))) (z ++ (c ++ rest))
    ≡ read_tokens (at (have 7 (call_part e xs (append_keywords before (more_keywords n v ks)) (eaten ++ (z ++ c))) s))
    rest in
    subst P (sym (is ∙ ap (λ z. a ++ z) i ∙ append-nil a))
    (reads_operand v plain 0 (omega arith) a hv (naming e xs before n eaten s) (omega arith) (c ++ rest)
    (stops_just (kind.Operator sign.RightParenthesis) 1 (omega arith) c hc rest)
    ∙ token_run (kind.Operator sign.RightParenthesis) (have 0 pv (naming e xs before n eaten s))
    (λ z. have 7 (call_part e xs (add_keyword before n v) (eaten ++ (a ++ z))) s) (λ t. refl) c hc rest
    ∙ ap (λ z. read_tokens (at (have 7 (call_part e xs z (eaten ++ (a ++ c))) s)) rest)
    (sym (append_no_keywords (add_keyword before n v)) ∙ append_more_keywords before n v no_keywords
    ∙ ap (λ z. append_keywords before (more_keywords n v z)) (sym none)))

reads_more_keywords : (n : Name) (v : Expr) (ks : Keywords) → ReadsPlain v → ReadsKeywords ks
    → ReadsKeywords (more_keywords n v ks)
reads_more_keywords n v ks plain others ts w e xs s c hc rest before eaten =
    let a : List Lexeme = w.front in
    let b : List Lexeme = w.right.front in
    let d : List Lexeme = w.right.back in
    let P : List Lexeme → Type 0 = λ z. read_tokens (at (keyword_due e xs before eaten s)) (z ++ (c ++ rest))
    ≡ read_tokens (at (have 7 (call_part e xs (append_keywords before (more_keywords n v ks)) (eaten ++ (z ++ c))) s))
    rest in
    subst P (sym (all_three w))
    (ap (read_tokens (at (keyword_due e xs before eaten s))) (append_assoc a (b ++ d) (c ++ rest)
    ∙ ap (λ z. a ++ z) (append_assoc b d (c ++ rest)))
    ∙ name_run n (keyword_due e xs before eaten s) (λ m z. keyword_named e xs before m (eaten ++ z) s) (λ t. refl) a
    w.left (b ++ (d ++ (c ++ rest)))
    ∙ token_run (kind.Operator sign.Equal) (keyword_named e xs before n (eaten ++ a) s)
    (λ z. operand (naming e xs before n ((eaten ++ a) ++ z) s)) (λ t. refl) b w.right.left (d ++ (c ++ rest))
    ∙ value_reads v ks plain others d w.right.right.front w.right.right.back w.right.right.all w.right.right.left
    w.right.right.right e xs s c hc rest before n ((eaten ++ a) ++ b)
    ∙ ap (λ z. read_tokens (at (have 7 (call_part e xs (append_keywords before (more_keywords n v ks)) z) s)) rest)
    (regroup_left eaten a b d c))

-- the first of them stands where an item by position may stand
abbrev pub ReadsFirst : Keywords → Type 0
ReadsFirst ks = (ts : List Lexeme) → SpellsKeywords ks ts → (e : Expr) (xs : Exprs) (s : Stack) (c : List Lexeme)
    → Sign sign.RightParenthesis c → (rest eaten : List Lexeme)
    → read_tokens (at (item_due (in_call e) xs eaten s)) (ts ++ (c ++ rest))
    ≡ read_tokens (at (have 7 (call_part e xs ks (eaten ++ (ts ++ c))) s)) rest

reads_first_none : ReadsFirst no_keywords
reads_first_none ts i e xs s c hc rest eaten = ap (λ z. read_tokens (at (item_due (in_call e) xs eaten s)) (z ++ (c ++ rest))) i
    ∙ token_run (kind.Operator sign.RightParenthesis) (item_due (in_call e) xs eaten s)
    (λ z. have 7 (call_part e xs no_keywords (eaten ++ z)) s) (λ t. refl) c hc rest
    ∙ ap (λ z. read_tokens (at (have 7 (call_part e xs no_keywords (eaten ++ (z ++ c))) s)) rest) (sym i)

reads_first_more : (n : Name) (v : Expr) (ks : Keywords) → ReadsPlain v → ReadsKeywords ks
    → ReadsFirst (more_keywords n v ks)
reads_first_more n v ks plain others ts w e xs s c hc rest eaten =
    let a : List Lexeme = w.front in
    let b : List Lexeme = w.right.front in
    let d : List Lexeme = w.right.back in
    let P : List Lexeme → Type 0 = λ z. read_tokens (at (item_due (in_call e) xs eaten s)) (z ++ (c ++ rest))
    ≡ read_tokens (at (have 7 (call_part e xs (more_keywords n v ks) (eaten ++ (z ++ c))) s)) rest in
    subst P (sym (all_three w))
    (ap (read_tokens (at (item_due (in_call e) xs eaten s))) (append_assoc a (b ++ d) (c ++ rest)
    ∙ ap (λ z. a ++ z) (append_assoc b d (c ++ rest)))
    ∙ name_run n (item_due (in_call e) xs eaten s) (λ m z. have 7 (record { tree = name m; tokens = z; plain = true })
    (listing (in_call e) xs eaten s)) (λ t. refl) a w.left (b ++ (d ++ (c ++ rest)))
    ∙ token_run (kind.Operator sign.Equal) (have 7 (record { tree = name n; tokens = a; plain = true })
    (listing (in_call e) xs eaten s)) (λ z. operand (naming e xs no_keywords n (eaten ++ (a ++ z)) s)) (λ t. refl) b
    w.right.left (d ++ (c ++ rest))
    ∙ value_reads v ks plain others d w.right.right.front w.right.right.back w.right.right.all w.right.right.left
    w.right.right.right e xs s c hc rest no_keywords n (eaten ++ (a ++ b))
    ∙ ap (λ z. read_tokens (at (have 7 (call_part e xs (more_keywords n v ks) z) s)) rest) (regroup_five eaten a b d c))

-- ---- calls

reads_call : (p : Place) (m : Expr) (xs : Exprs) (ks : Keywords) → ReadsPlain m → ReadsItems xs → ReadsFirst ks
    → ReadsPlain (call p m xs ks)
reads_call p m xs ks plain items keywords ts (e, w) s rs rest st =
    let a : List Lexeme = w.front in
    let b : List Lexeme = w.right.front in
    let d : List Lexeme = w.right.right.front in
    let c : List Lexeme = w.right.right.back in
    let hc : Sign sign.RightParenthesis c = w.right.right.right in
    let pa : Part = part_at w.left.0 m a in
    let P : List Lexeme → Type 0 = λ x. read_tokens (at (operand s)) (x ++ rest) ≡ read_tokens (at (have 7 (call_part m xs ks x) s))
    rest in
    subst P (sym (all_four w))
    (ap (read_tokens (at (operand s))) (append_assoc a (b ++ (d ++ c)) rest
    ∙ ap (λ x. a ++ x) (append_assoc b (d ++ c) rest ∙ ap (λ x. b ++ x) (append_assoc d c rest)))
    ∙ reads_operand m plain 7 (omega arith) a w.left s (omega arith) (b ++ (d ++ (c ++ rest)))
    (stops_just (kind.Operator sign.LeftParenthesis) 8 (omega arith) b w.right.left (d ++ (c ++ rest)))
    ∙ token_run (kind.Operator sign.LeftParenthesis) (have 7 pa s) (λ x. item_due (in_call m) no_exprs (a ++ x) s)
    (λ t. refl) b w.right.left (d ++ (c ++ rest))
    ∙ items ks d w.right.right.left (in_call m) s (λ ys us. call_part m ys ks us) c hc rest
    (λ ys us vs h. keywords vs h m ys s c hc rest us)
    (λ none ys us q. token_run (kind.Operator sign.RightParenthesis) (have 0 q (listing (in_call m) ys us s))
    (λ z. have 7 (call_part m (add_expr ys q.tree) no_keywords (us ++ (q.tokens ++ z))) s) (λ t. refl) c hc rest
    ∙ ap (λ z. read_tokens (at (have 7 (call_part m (add_expr ys q.tree) z (us ++ (q.tokens ++ c))) s)) rest) (sym none))
    no_exprs (a ++ b)
    ∙ ap (λ x. read_tokens (at (have 7 (call_part m xs ks x) s)) rest) (append_assoc a b (d ++ c)))
    ∙ ap (λ x. read_tokens (at (have 7 x s)) rest) (placed (λ q. call q m xs ks) p ts e)

-- ---- dict displays

abbrev pub ReadsEntries : Entries → Type 0
ReadsEntries es = (ts : List Lexeme) → SpellsEntries es ts → (s : Stack) (c : List Lexeme) → Sign sign.RightBrace c
    → (rest : List Lexeme) (before : Entries) (eaten : List Lexeme)
    → read_tokens (at (key_due before eaten s)) (ts ++ (c ++ rest)) ≡ read_tokens
    (at (have 7 (bare_part (λ q. dict q (append_entries before es)) (eaten ++ (ts ++ c))) s)) rest

reads_no_entries : ReadsEntries no_entries
reads_no_entries ts i s c hc rest before eaten = ap (λ z. read_tokens (at (key_due before eaten s)) (z ++ (c ++ rest))) i
    ∙ token_run (kind.Operator sign.RightBrace) (key_due before eaten s)
    (λ z. have 7 (bare_part (λ q. dict q before) (eaten ++ z)) s) (λ t. refl) c hc rest
    ∙ ap (λ z. read_tokens (at (have 7 (bare_part (λ q. dict q z) (eaten ++ c)) s)) rest) (sym (append_no_entries before))
    ∙ ap (λ z. read_tokens (at (have 7 (bare_part (λ q. dict q (append_entries before no_entries)) (eaten ++ (z ++ c))) s)) rest)
    (sym i)

-- the value of an entry, and the entries after it
entry_value : (v : Expr) (es : Entries) → ReadsPlain v → ReadsEntries es → (ts a b : List Lexeme) → ts ≡ a ++ b
    → Operand 0 (own_level v) (λ u. Spells v u) a
    → AfterComma (es ≡ no_entries) (λ u. SpellsEntries es u) b
    → (s : Stack) (c : List Lexeme) → Sign sign.RightBrace c → (rest : List Lexeme) (before : Entries) (key : Expr)
    (eaten : List Lexeme)
    → read_tokens (at (operand (valuing before key eaten s))) (ts ++ (c ++ rest))
    ≡ read_tokens (at (have 7 (bare_part (λ q. dict q (append_entries before (more_entries key v es))) (eaten ++ (ts ++ c))) s))
    rest
entry_value v es plain others ts a b is hv (inl w) s c hc rest before key eaten =
    let q : List Lexeme = w.front in
    let d : List Lexeme = w.back in
    let pv : Part = part_at hv.0 v a in
    let P : List Lexeme → Type 0 = λ z. read_tokens (at (operand (valuing before key eaten s))) (z ++ (c ++ rest))
    ≡ read_tokens (at (have 7 (bare_part (λ r. dict r (append_entries before (more_entries key v es))) (eaten ++ (z ++ c))) s))
    rest in
    subst P (sym (is ∙ ap (λ z. a ++ z) w.all))
    (ap (read_tokens (at (operand (valuing before key eaten s)))) (append_assoc a (q ++ d) (c ++ rest)
    ∙ ap (λ z. a ++ z) (append_assoc q d (c ++ rest)))
    ∙ reads_operand v plain 0 (omega arith) a hv (valuing before key eaten s) (omega arith) (q ++ (d ++ (c ++ rest)))
    (stops_just (kind.Operator sign.Comma) 1 (omega arith) q w.left (d ++ (c ++ rest)))
    ∙ token_run (kind.Operator sign.Comma) (have 0 pv (valuing before key eaten s))
    (λ z. key_due (add_entry before key v) (eaten ++ (a ++ z)) s) (λ t. refl) q w.left (d ++ (c ++ rest))
    ∙ others d w.right s c hc rest (add_entry before key v) (eaten ++ (a ++ q))
    ∙ ap (λ z. read_tokens (at (have 7 (bare_part (λ r. dict r z) ((eaten ++ (a ++ q)) ++ (d ++ c))) s)) rest)
    (append_more_entries before key v es)
    ∙ ap (λ z. read_tokens (at (have 7 (bare_part (λ r. dict r (append_entries before (more_entries key v es))) z) s)) rest)
    (regroup_five eaten a q d c))
entry_value v es plain others ts a b is hv (inr (none, i)) s c hc rest before key eaten =
    let pv : Part = part_at hv.0 v a in
    let P : List Lexeme → Type 0 = λ z. read_tokens (at (operand (valuing before key eaten s))) (z ++ (c ++ rest))
    ≡ read_tokens (at (have 7 (bare_part (λ r. dict r (append_entries before (more_entries key v es))) (eaten ++ (z ++ c))) s))
    rest in
    subst P (sym (is ∙ ap (λ z. a ++ z) i ∙ append-nil a))
    (reads_operand v plain 0 (omega arith) a hv (valuing before key eaten s) (omega arith) (c ++ rest)
    (stops_just (kind.Operator sign.RightBrace) 1 (omega arith) c hc rest)
    ∙ token_run (kind.Operator sign.RightBrace) (have 0 pv (valuing before key eaten s))
    (λ z. have 7 (bare_part (λ r. dict r (add_entry before key v)) (eaten ++ (a ++ z))) s) (λ t. refl) c hc rest
    ∙ ap (λ z. read_tokens (at (have 7 (bare_part (λ r. dict r z) (eaten ++ (a ++ c))) s)) rest)
    (sym (append_no_entries (add_entry before key v)) ∙ append_more_entries before key v no_entries
    ∙ ap (λ z. append_entries before (more_entries key v z)) (sym none)))

reads_more_entries : (x v : Expr) (es : Entries) → ReadsPlain x → ReadsPlain v → ReadsEntries es
    → ReadsEntries (more_entries x v es)
reads_more_entries x v es plain_x plain_v others ts w s c hc rest before eaten =
    let a : List Lexeme = w.front in
    let b : List Lexeme = w.right.front in
    let d : List Lexeme = w.right.back in
    let px : Part = part_at w.left.0 x a in
    let onward : List Lexeme = b ++ (d ++ (c ++ rest)) in
    let P : List Lexeme → Type 0 = λ z. read_tokens (at (key_due before eaten s)) (z ++ (c ++ rest))
    ≡ read_tokens (at (have 7 (bare_part (λ r. dict r (append_entries before (more_entries x v es))) (eaten ++ (z ++ c))) s))
    rest in
    subst P (sym (all_three w))
    (ap (read_tokens (at (key_due before eaten s))) (append_assoc a (b ++ d) (c ++ rest)
    ∙ ap (λ z. a ++ z) (append_assoc b d (c ++ rest)))
    ∙ starts_run (key_due before eaten s) (operand (keying before eaten s))
    (λ t. have 7 (bare_part (λ r. dict r before) (eaten ++ (t ∷ []))) s) (kind.Operator sign.RightBrace) refl
    (λ t k. refl)
    (a ++ onward) (starts_append a onward (starts_operand 0 x a w.left))
    ∙ reads_operand x plain_x 0 (omega arith) a w.left (keying before eaten s) (omega arith) onward
    (stops_just (kind.Operator sign.Colon) 1 (omega arith) b w.right.left (d ++ (c ++ rest)))
    ∙ token_run (kind.Operator sign.Colon) (have 0 px (keying before eaten s))
    (λ z. operand (valuing before x (eaten ++ (a ++ z)) s)) (λ t. refl) b w.right.left (d ++ (c ++ rest))
    ∙ entry_value v es plain_v others d w.right.right.front w.right.right.back w.right.right.all w.right.right.left
    w.right.right.right s c hc rest before x (eaten ++ (a ++ b))
    ∙ ap (λ z. read_tokens (at (have 7 (bare_part (λ r. dict r (append_entries before (more_entries x v es))) z) s)) rest)
    (regroup_five eaten a b d c))

reads_dict : (p : Place) (es : Entries) → ReadsEntries es → ReadsPlain (dict p es)
reads_dict p es entries ts (e, w) s rs rest st =
    let a : List Lexeme = w.front in
    let b : List Lexeme = w.right.front in
    let c : List Lexeme = w.right.back in
    let P : List Lexeme → Type 0 = λ x. read_tokens (at (operand s)) (x ++ rest) ≡ read_tokens (at (have 7 (bare_part (λ q. dict q es) x) s))
    rest in
    subst P (sym (all_three w))
    (ap (read_tokens (at (operand s))) (append_assoc a (b ++ c) rest ∙ ap (λ x. a ++ x) (append_assoc b c rest))
    ∙ token_run (kind.Operator sign.LeftBrace) (operand s) (λ x. key_due no_entries x s) (λ t. refl) a w.left
    (b ++ (c ++ rest))
    ∙ entries b w.right.left s c w.right.right rest no_entries a)
    ∙ ap (λ x. read_tokens (at (have 7 x s)) rest) (placed (λ q. dict q es) p ts e)

-- ---- single tokens

reads_name : (n : Name) → ReadsPlain (name n)
reads_name n ts h s rs rest st = name_run n (operand s) (λ m x.
    have 7 (record { tree = name m; tokens = x; plain = true }) s) (λ t. refl) ts h rest

reads_number : (p : Place) (digits : List ℕ) → ReadsPlain (number p digits)
reads_number p digits ts (e, (t, tk, d, is)) s rs rest st =
    ap (λ x. read_tokens (at (operand s)) (x ++ rest)) is
    ∙ run_go (operand s) (have 7 (bare_part (λ q. number q (digits_of t.text)) (t ∷ [])) s) t rest
    (ap (transition (operand s) t) tk)
    ∙ ap (λ x. read_tokens (at (have 7 (bare_part (λ q. number q x) (t ∷ [])) s)) rest) (sym d)
    ∙ ap (λ x. read_tokens (at (have 7 (bare_part (λ q. number q digits) x) s)) rest) (sym is)
    ∙ ap (λ x. read_tokens (at (have 7 x s)) rest) (placed (λ q. number q digits) p ts e)

reads_text : (p : Place) (characters : List ℕ) → ReadsPlain (text p characters)
reads_text p characters ts (e, (t, tk, d, is)) s rs rest st =
    ap (λ x. read_tokens (at (operand s)) (x ++ rest)) is
    ∙ run_go (operand s) (have 7 (bare_part (λ q. text q (characters_of t.text)) (t ∷ [])) s) t rest
    (ap (transition (operand s) t) tk)
    ∙ ap (λ x. read_tokens (at (have 7 (bare_part (λ q. text q x) (t ∷ [])) s)) rest) (sym d)
    ∙ ap (λ x. read_tokens (at (have 7 (bare_part (λ q. text q characters) x) s)) rest) (sym is)
    ∙ ap (λ x. read_tokens (at (have 7 x s)) rest) (placed (λ q. text q characters) p ts e)

truth_go : (b : Bool) (s : Stack) (t : Lexeme) → transition (operand s) t (kind.Keyword (truth_word b))
    ≡ go (have 7 (bare_part (λ q. truth q b) (t ∷ [])) s)
truth_go true s t = refl
truth_go false s t = refl

reads_truth : (p : Place) (b : Bool) → ReadsPlain (truth p b)
reads_truth p b ts (e, h) s rs rest st =
    token_run (kind.Keyword (truth_word b)) (operand s) (λ x. have 7 (bare_part (λ q. truth q b) x) s) (truth_go b s) ts h
    rest
    ∙ ap (λ x. read_tokens (at (have 7 x s)) rest) (placed (λ q. truth q b) p ts e)

reads_nothing : (p : Place) → ReadsPlain (nothing p)
reads_nothing p ts (e, h) s rs rest st =
    token_run (kind.Keyword word.None) (operand s) (λ x. have 7 (bare_part nothing x) s) (λ t. refl) ts h rest
    ∙ ap (λ x. read_tokens (at (have 7 x s)) rest) (placed nothing p ts e)

-- ---- every expression

mutual
  pub reads_plain : (m : Expr) → ReadsPlain m
  reads_plain (name n) = reads_name n
  reads_plain (number p digits) = reads_number p digits
  reads_plain (text p characters) = reads_text p characters
  reads_plain (truth p b) = reads_truth p b
  reads_plain (nothing p) = reads_nothing p
  reads_plain (tuple p no_exprs) = reads_unit p
  reads_plain (tuple p (more_exprs x xs)) = reads_tuple p x xs (reads_plain x) (reads_items xs)
  reads_plain (list p xs) = reads_list p xs (reads_items xs)
  reads_plain (dict p es) = reads_dict p es (reads_entries es)
  reads_plain (negative p e) = λ ts h. reads_prefix minus e (reads_plain e) p ts h
  reads_plain (negation p e) = λ ts h. reads_prefix denial e (reads_plain e) p ts h
  reads_plain (binary p o l r) = λ ts h. reads_infix (arithmetic o) l r (reads_plain l) (reads_plain r) p ts h
  reads_plain (compare p o l r) = λ ts h. reads_infix (comparison o) l r (reads_plain l) (reads_plain r) p ts h
  reads_plain (is_none p e) = reads_is_none p e (reads_plain e)
  reads_plain (is_not_none p e) = reads_is_not_none p e (reads_plain e)
  reads_plain (conjunction p l r) = λ ts h. reads_infix both l r (reads_plain l) (reads_plain r) p ts h
  reads_plain (disjunction p l r) = λ ts h. reads_infix either l r (reads_plain l) (reads_plain r) p ts h
  reads_plain (attribute p e f) = reads_attribute p e f (reads_plain e)
  reads_plain (index p e i) = reads_index p e i (reads_plain e) (reads_plain i)
  reads_plain (call p e xs ks) = reads_call p e xs ks (reads_plain e) (reads_items xs) (reads_first ks)

  pub reads_items : (xs : Exprs) → ReadsItems xs
  reads_items no_exprs = reads_no_items
  reads_items (more_exprs x xs) = reads_more_items x xs (reads_plain x) (reads_items xs)

  reads_entries : (es : Entries) → ReadsEntries es
  reads_entries no_entries = reads_no_entries
  reads_entries (more_entries x v es) = reads_more_entries x v es (reads_plain x) (reads_plain v) (reads_entries es)

  reads_keywords : (ks : Keywords) → ReadsKeywords ks
  reads_keywords no_keywords = reads_no_keywords
  reads_keywords (more_keywords n v ks) = reads_more_keywords n v ks (reads_plain v) (reads_keywords ks)

  reads_first : (ks : Keywords) → ReadsFirst ks
  reads_first no_keywords = reads_first_none
  reads_first (more_keywords n v ks) = reads_first_more n v ks (reads_plain v) (reads_keywords ks)

-- A whole expression is read.
pub reads_expression : (m : Expr) (ts : List Lexeme) (h : Expression m ts) (s : Stack) → needed_level s ≡ 0
    → (rest : List Lexeme) → Stops 1 rest
    → read_tokens (at (operand s)) (ts ++ rest) ≡ read_tokens (at (have 0 (part_at h.0 m ts) s)) rest
reads_expression m ts h s rs rest st = reads_operand m (reads_plain m) 0 (omega arith) ts h s (omega arith) rest st
