-- A part in brackets that is read is spelled by its tokens.
use Rattle.std.proofs.Common.{◌≡◌, ℕ, suc, ◌≤◌, Bool, true, false, List, [], ◌∷◌, ◌++◌, Option, Some, None, refl, subst}
use Rattle.std.proofs.Common.{inl, inr, arith}
use Rattle.std.specs.Prelude.{⊤}
use Rattle.pc_source.specs.declared.place.Place.{Place}
use Rattle.pc_token.specs.declared.token.TokenKind.{TokenKind}
use Rattle.pc_token.specs.declared.token.TokenKind.TheVariants as kind
use Rattle.pc_token.specs.declared.token.Keyword.TheVariants as word
use Rattle.pc_token.specs.declared.token.Operator.TheVariants as sign
use Rattle.pc_token.specs.Lexeme.{Lexeme}
use Rattle.pc_tree.specs.Tree.{Name, Expr, name, tuple, list, dict, is_none, is_not_none, attribute, index, call, Exprs}
use Rattle.pc_tree.specs.Tree.{no_exprs, more_exprs, Entries, no_entries, more_entries, Keywords, no_keywords}
use Rattle.pc_tree.specs.Tree.{more_keywords}
use Rattle.pc_tree.specs.NamesAlone.{name_of_tree}
use Rattle.pc_grammar.specs.Grammar.{Spelling, Sequence, ◌⟫◌, Just, Sign, Word, IsName, Nothing, span, name_of_token}
use Rattle.pc_grammar.specs.Grammar.Expressions.{own_level, Operand, Spells, Items, SpellsEntries, SpellsKeywords}
use Rattle.pc_grammar.specs.Grammar.Expressions.{Expression}
use Rattle.pc_grammar.specs.Machine.Kinds.{operand_start, Link, linking, denying, identifying, Ending, a_comma, a_colon}
use Rattle.pc_grammar.specs.Machine.Kinds.{an_equal, closes_parenthesis, closes_bracket, closes_brace, Follow, link}
use Rattle.pc_grammar.specs.Machine.Kinds.{a_dot}
use Rattle.pc_grammar.specs.Machine.Kinds.{calls, indexes, ends}
use Rattle.pc_grammar.specs.Machine.States.{Part, BracketPurpose, in_tuple, in_list, in_call, ExpressionPosition, Stack, whole}
use Rattle.pc_grammar.specs.Machine.States.{joining, applying, grouping, listing, indexing, naming, keying, valuing}
use Rattle.pc_grammar.specs.Machine.States.{operand, have, denied, identified, unidentified, dotted, group_due}
use Rattle.pc_grammar.specs.Machine.States.{item_due}
use Rattle.pc_grammar.specs.Machine.States.{keyword_due, keyword_named, key_due, go}
use Rattle.pc_grammar.specs.Machine.Finishing.{add_expr, add_entry, add_keyword, if_plain, finish}
use Rattle.pc_grammar.specs.Machine.Expressions.{own_of_link, left_of_link, needed_level, bare_part, grouped, head_tree, reduce}
use Rattle.pc_grammar.specs.Machine.Expressions.{closer}
use Rattle.pc_grammar.specs.Machine.Expressions.{group_turn, item_turn, keyword_turn, named_turn, key_turn, dotted_turn}
use Rattle.pc_grammar.specs.Machine.Expressions.{denied_turn, identified_turn, unidentified_turn, close_group}
use Rattle.pc_grammar.specs.Machine.Expressions.{begin_keyword, close_item, close_index, close_keyword, close_key}
use Rattle.pc_grammar.specs.Machine.Expressions.{close_value, close, linked, have_turn}
use Rattle.pc_grammar.specs.Fronts.{LedTo}
use Rattle.pc_grammar.specs.Fronts.Lines.{Kept, BeforeContext}
use Rattle.pc_grammar.specs.Fronts.Expressions.{Holds, EachItem, EachKeyword, EachEntry, IsMoreExprs, ItemsBefore}
use Rattle.pc_grammar.specs.Fronts.Expressions.{KeywordsBefore, EntriesBefore, Before}
use Rattle.pc_grammar.proofs.Sequences.{to_right, to_left, map_left, map_right}
use Rattle.pc_grammar.proofs.Stood.{Stood, grow, just, is_name, on_kind, on_tight, on_le, kept_join, kept_map}
use Rattle.pc_grammar.proofs.Stood.{end_nothing}
use Rattle.pc_grammar.proofs.SoundExpressions.{start_means, EndMeans, FollowMeans, holds_lower, holds_kept, node_holds}
use Rattle.pc_grammar.proofs.SoundExpressions.{stands_have, operand_stood, reduce_holds}
use Rattle.pc_grammar.proofs.CompleteStatements.{no_front}

-- ---- items with a comma after each

each_others : (O : Spelling) (alone : Type 0) (xs : Exprs) (us : List Lexeme) → Sequence (EachItem xs) O us
    → Items xs O alone us
each_others O alone no_exprs us w = no_front us w
each_others O alone (more_exprs x xs) us w = map_right (λ vs v.
    inl (map_right (λ ws z. each_others O alone xs ws z) (to_right v))) (to_right w)

each_last : (O : Spelling) (alone : Type 0) (xs : Exprs) (x : Expr) (us : List Lexeme) → alone
    → Sequence (EachItem xs) (Expression x) us → Items (add_expr xs x) O alone us
each_last O alone no_exprs x us a w = map_right (λ vs e. inr ((refl, a), e)) (end_nothing us (no_front us w))
each_last O alone (more_exprs y ys) x us a w = map_right (λ vs v.
    inl (map_right (λ ws z. each_last O alone ys x ws a z) (to_right v))) (to_right w)

each_add : (xs : Exprs) (x : Expr) (us : List Lexeme) → Sequence (EachItem xs) (Expression x ⟫ Sign sign.Comma) us
    → EachItem (add_expr xs x) us
each_add no_exprs x us w = map_right (λ vs v. end_nothing vs v) (no_front us w)
each_add (more_exprs y ys) x us w = map_right (λ vs v. map_right (λ ws z. each_add ys x ws z) (to_right v)) (to_right w)

more_added : (xs : Exprs) (x : Expr) → IsMoreExprs (add_expr xs x)
more_added no_exprs x = tt
more_added (more_exprs y ys) x = tt

keywords_all : (ks : Keywords) (us : List Lexeme) → EachKeyword ks us → SpellsKeywords ks us
keywords_all no_keywords us h = h
keywords_all (more_keywords n e ks) us w = map_right (λ vs v.
    map_right (λ ws z. map_right (λ xs q. inl (map_right (λ ys r. keywords_all ks ys r) q)) z) v) w

keywords_last : (ks : Keywords) (n : Name) (e : Expr) (us : List Lexeme)
    → Sequence (EachKeyword ks) (IsName n ⟫ Sign sign.Equal ⟫ Expression e) us → SpellsKeywords (add_keyword ks n e) us
keywords_last no_keywords n e us w = map_right (λ vs v. map_right
    (λ ws z. map_right (λ xs q. inr (refl, q)) (end_nothing ws z)) v) (no_front us w)
keywords_last (more_keywords m x ks) n e us w =
    map_right
    (λ vs v. map_right (λ ws z. map_right (λ xs q. inl (map_right (λ ys r. keywords_last ks n e ys r) (to_right q)))
    (to_right z)) (to_right v)) (to_right w)

keywords_add : (ks : Keywords) (n : Name) (e : Expr) (us : List Lexeme)
    → Sequence (EachKeyword ks) (IsName n ⟫ Sign sign.Equal ⟫ Expression e ⟫ Sign sign.Comma) us
    → EachKeyword (add_keyword ks n e) us
keywords_add no_keywords n e us w = map_right (λ vs v. map_right (λ ws z. map_right (λ xs q. end_nothing xs q) z) v)
    (no_front us w)
keywords_add (more_keywords m x ks) n e us w =
    map_right (λ vs v. map_right (λ ws z. map_right (λ xs q. map_right (λ ys r. keywords_add ks n e ys r) (to_right q))
    (to_right z)) (to_right v)) (to_right w)

entries_all : (es : Entries) (us : List Lexeme) → EachEntry es us → SpellsEntries es us
entries_all no_entries us h = h
entries_all (more_entries x y es) us w = map_right (λ vs v. map_right
    (λ ws z. map_right (λ xs q. inl (map_right (λ ys r. entries_all es ys r) q)) z) v) w

entries_last : (es : Entries) (x y : Expr) (us : List Lexeme)
    → Sequence (EachEntry es) (Expression x ⟫ Sign sign.Colon ⟫ Expression y) us → SpellsEntries (add_entry es x y) us
entries_last no_entries x y us w = map_right (λ vs v. map_right
    (λ ws z. map_right (λ xs q. inr (refl, q)) (end_nothing ws z)) v) (no_front us w)
entries_last (more_entries a b es) x y us w =
    map_right
    (λ vs v. map_right (λ ws z. map_right (λ xs q. inl (map_right (λ ys r. entries_last es x y ys r) (to_right q)))
    (to_right z)) (to_right v)) (to_right w)

entries_add : (es : Entries) (x y : Expr) (us : List Lexeme) → Sequence (EachEntry es)
    (Expression x ⟫ Sign sign.Colon ⟫ Expression y ⟫ Sign sign.Comma) us → EachEntry (add_entry es x y) us
entries_add no_entries x y us w = map_right (λ vs v. map_right (λ ws z. map_right (λ xs q. end_nothing xs q) z) v)
    (no_front us w)
entries_add (more_entries a b es) x y us w =
    map_right (λ vs v. map_right (λ ws z. map_right (λ xs q. map_right (λ ys r. entries_add es x y ys r) (to_right q))
    (to_right z)) (to_right v)) (to_right w)

-- ---- the kept tokens, the operand, and one more token

-- after a stack
behind_as : {S A : Spelling} (C : Spelling) (o : List Lexeme) (p : Part) (t : Lexeme) (k : TokenKind) (ts : List Lexeme)
    → t.kind ≡ k → ((us : List Lexeme) → Holds 0 p us → C us)
    → Sequence (S ⟫ Kept o A) (Holds 0 p) ts → Sequence S (Kept (o ++ (p.tokens ++ (t ∷ []))) (A ⟫ C ⟫ Just k))
    (ts ++ (t ∷ []))
behind_as C o p t k ts e f w = map_right (λ us v. kept_join o (p.tokens ++ (t ∷ [])) us
    (map_right (λ vs z. kept_join p.tokens (t ∷ []) vs (map_left (λ ws h. (h.tokens, f ws h)) z)) v))
    (to_right (to_right (grow {B = Kept (t ∷ []) (Just k)} ts t w (refl, just t k e))))

behind_stack : {S A : Spelling} (o : List Lexeme) (p : Part) (t : Lexeme) (k : TokenKind) (ts : List Lexeme)
    → t.kind ≡ k → Sequence (S ⟫ Kept o A) (Holds 0 p) ts
    → Sequence S (Kept (o ++ (p.tokens ++ (t ∷ []))) (A ⟫ Expression p.tree ⟫ Just k)) (ts ++ (t ∷ []))
behind_stack o p t k ts e w = behind_as (Expression p.tree) o p t k ts e (λ us h. h.spelled) w

-- with no operand
behind_kept : {S A : Spelling} (o : List Lexeme) (t : Lexeme) (k : TokenKind) (ts : List Lexeme) → t.kind ≡ k
    → Sequence S (Kept o A) ts
    → Sequence S (Kept (o ++ (t ∷ [])) (A ⟫ Just k)) (ts ++ (t ∷ []))
behind_kept o t k ts e w = map_right (λ us v. kept_join o (t ∷ []) us v)
    (to_right (grow {B = Kept (t ∷ []) (Just k)} ts t w (refl, just t k e)))

behind_name : {S A : Spelling} (o : List Lexeme) (t : Lexeme) (ts : List Lexeme) → t.kind ≡ kind.Name
    → Sequence S (Kept o A) ts
    → Sequence S (Kept (o ++ (t ∷ [])) (A ⟫ IsName (name_of_token t))) (ts ++ (t ∷ []))
behind_name o t ts e w = map_right (λ us v. kept_join o (t ∷ []) us v)
    (to_right (grow {B = Kept (t ∷ []) (IsName (name_of_token t))} ts t w (refl, is_name t e)))

-- ---- parentheses

grouped_holds : (o : List Lexeme) (p : Part) (t : Lexeme) (us : List Lexeme)
    → Kept (o ++ (p.tokens ++ (t ∷ []))) (Sign sign.LeftParenthesis ⟫ Expression p.tree ⟫ Sign sign.RightParenthesis) us
    → Holds 7 (grouped o p t) us
grouped_holds o p t us h = let w = h.1 in record {
  tokens = h.0;
  spelled = (
    suc w.right.left.0,
    inr (omega arith),
    record {
      front = w.front;
      back = w.back;
      all = w.all;
      left = w.left;
      right = record {
        front = w.right.front;
        back = w.right.back;
        all = w.right.all;
        left = w.right.left.2;
        right =
            w.right.right;
      };
    },
  );
  plain = λ f. cc;
}

-- a node whose tokens were kept
kept_node : (make : Place → Expr) (B : Spelling) (tokens : List Lexeme) (s : Stack) (ts : List Lexeme)
    → ((us : List Lexeme) (q : Place) → q ≡ span us → B us → Spells (make q) us)
    → 7 ≤ own_level (make (span tokens)) → Sequence (Before s) (Kept tokens B) ts
    → LedTo (have 7 (bare_part make tokens) s) ts
kept_node make B tokens s ts spell le w = stands_have (bare_part make tokens) s ts
    (map_right (λ us h. node_holds 7 make B tokens us (λ q x. spell us q x.0 x.1) le h) w)

group_closed : (o : List Lexeme) (s : Stack) (p : Part) (t : Lexeme) (e : Ending) (ts : List Lexeme) → EndMeans e t.kind
    → Sequence (Before (grouping o s)) (Holds 0 p) ts
    → Stood (close_group o s p t e) (ts ++ (t ∷ []))
group_closed o s p t closes_parenthesis ts e w = stands_have (grouped o p t) s (ts ++ (t ∷ []))
    (map_right (grouped_holds o p t) (behind_stack o p t (kind.Operator sign.RightParenthesis) ts e w))
group_closed o s p t a_comma ts e w =
    map_right (λ us h. (h.0, (tt, map_right (λ vs v. map_right (λ ws z. end_nothing ws z) v) h.1)))
    (behind_stack o p t (kind.Operator sign.Comma) ts e w)
group_closed o s p t _ ts e w = tt

-- ---- items

items_grow : (h : BracketPurpose) (xs : Exprs) (x : Expr) (us : List Lexeme)
    → Sequence (ItemsBefore h xs) (Expression x ⟫ Sign sign.Comma) us → ItemsBefore h (add_expr xs x) us
items_grow in_list xs x us w = map_right (λ vs v. each_add xs x vs v) (to_right w)
items_grow in_tuple xs x us w = (
  more_added xs x,
  map_right (λ vs v. each_add xs x vs v)
      (to_right (map_left (λ vs v. v.1) w)),
)
items_grow (in_call e) xs x us w = map_right (λ vs v. each_add xs x vs v) (to_right w)

list_spells : (xs : Exprs) (x : Expr) (us : List Lexeme) (q : Place) → q ≡ span us
    → Sequence (ItemsBefore in_list xs) (Expression x ⟫ Sign sign.RightBracket) us → Spells (list q (add_expr xs x)) us
list_spells xs x us q e w = (
  e,
  map_right (λ vs v. map_left (λ ws z. each_last Nothing ⊤ xs x ws tt z) (to_left v))
      (to_right w),
)

tuple_spells : (xs : Exprs) (x : Expr) (us : List Lexeme) (q : Place) → q ≡ span us
    → Sequence (ItemsBefore in_tuple xs) (Expression x ⟫ Sign sign.RightParenthesis) us
    → Spells (tuple q (add_expr xs x)) us
tuple_spells no_exprs x us q e w = absurd w.left.0
tuple_spells (more_exprs y ys) x us q e w = (
  e,
  map_right
      (λ vs v. map_right (λ ws z. map_right (λ xs u. map_left (λ xs1 b. each_last Nothing ⊤ ys x xs1 tt b) (to_left u))
      (to_right z)) (to_right v))
      (to_right (map_left (λ vs v. v.1) w)),
)

call_spells : (f : Expr) (xs : Exprs) (x : Expr) (us : List Lexeme) (q : Place) → q ≡ span us
    → Sequence (ItemsBefore (in_call f) xs) (Expression x ⟫ Sign sign.RightParenthesis) us
    → Spells (call q f (add_expr xs x) no_keywords) us
call_spells f xs x us q e w = (
  e,
  map_right
      (λ vs v. map_right (λ ws z. map_left (λ xs1 b. each_last (λ u. SpellsKeywords no_keywords u)
      (no_keywords ≡ no_keywords) xs x xs1 refl b) (to_left z)) v) (to_right (to_right w)),
)

-- a plain name
pub name_some : (m : Expr) (n : Name) → name_of_tree m ≡ Some n → m ≡ name n
name_some (name m) n e = cc
name_some _ n e = cc

pub plain_some : {X : Type 0} (b : Bool) (o : Option X) (x : X) → if_plain b o ≡ Some x → (b ≡ true) × (o ≡ Some x)
plain_some true o x e = (refl, e)
plain_some false o x e = cc

pub name_holds : (p : Part) (n : Name) → if_plain p.plain (name_of_tree p.tree) ≡ Some n → (us : List Lexeme)
    → Holds 0 p us → IsName n us
name_holds p n e us h = let b = plain_some p.plain (name_of_tree p.tree) n e in
    subst (λ m. Spells m us) (name_some p.tree n b.1) (h.plain b.0)

keyword_begun : (o : Option Name) (f : Expr) (xs : Exprs) (us : List Lexeme) (s : Stack) (p : Part) (t : Lexeme)
    (ts : List Lexeme) → if_plain p.plain (name_of_tree p.tree) ≡ o
    → t.kind ≡ kind.Operator sign.Equal → Sequence (Before (listing (in_call f) xs us s)) (Holds 0 p) ts
    → Stood (begin_keyword o f xs (us ++ (p.tokens ++ (t ∷ []))) s) (ts ++ (t ∷ []))
keyword_begun None f xs us s p t ts is e w = tt
keyword_begun (Some n) f xs us s p t ts is e w =
    map_right (λ vs h. (h.0, map_left (λ ws z. end_nothing ws z) h.1))
    (behind_as (IsName n) us p t (kind.Operator sign.Equal) ts e (name_holds p n is) w)

item_closed : (h : BracketPurpose) (xs : Exprs) (us : List Lexeme) (s : Stack) (p : Part) (t : Lexeme) (e : Ending)
    (ts : List Lexeme) → EndMeans e t.kind → Sequence (Before (listing h xs us s)) (Holds 0 p) ts
    → Stood (close_item h xs us s p t e) (ts ++ (t ∷ []))
item_closed h xs us s p t a_comma ts e w = map_right (λ vs k. kept_map (us ++ (p.tokens ++ (t ∷ []))) vs
    (items_grow h xs p.tree) k) (behind_stack us p t (kind.Operator sign.Comma) ts e w)
item_closed in_list xs us s p t closes_bracket ts e w = kept_node (λ q. list q (add_expr xs p.tree)) _
    (us ++ (p.tokens ++ (t ∷ []))) s (ts ++ (t ∷ [])) (list_spells xs p.tree) (omega arith)
    (behind_stack us p t (kind.Operator sign.RightBracket) ts e w)
item_closed in_tuple xs us s p t closes_parenthesis ts e w = kept_node (λ q. tuple q (add_expr xs p.tree)) _
    (us ++ (p.tokens ++ (t ∷ []))) s (ts ++ (t ∷ [])) (tuple_spells xs p.tree) (omega arith)
    (behind_stack us p t (kind.Operator sign.RightParenthesis) ts e w)
item_closed (in_call f) xs us s p t closes_parenthesis ts e w =
    kept_node (λ q. call q f (add_expr xs p.tree) no_keywords) _ (us ++ (p.tokens ++ (t ∷ []))) s (ts ++ (t ∷ []))
    (call_spells f xs p.tree) (omega arith)
    (behind_stack us p t (kind.Operator sign.RightParenthesis) ts e w)
item_closed (in_call f) xs us s p t an_equal ts e w = keyword_begun (if_plain p.plain (name_of_tree p.tree)) f xs us s p
    t ts refl e w
item_closed h xs us s p t _ ts e w = tt

-- ---- arguments by name

keyword_spells : (f : Expr) (xs : Exprs) (ks : Keywords) (n : Name) (v : Expr) (us : List Lexeme) (q : Place)
    → q ≡ span us
    → Sequence (KeywordsBefore f xs ks ⟫ (IsName n ⟫ Sign sign.Equal)) (Expression v ⟫ Sign sign.RightParenthesis) us
    → Spells (call q f xs (add_keyword ks n v)) us
keyword_spells f xs ks n v us q e w = (
  e,
  map_right (λ xs1 a. map_right (λ bs b. map_left (λ cs c. each_others (λ u. SpellsKeywords (add_keyword ks n v) u) _ xs
      cs c)
      (to_left (map_right (λ cs c. map_left (λ ds d. keywords_last ks n v ds d)
      (to_left (map_right (λ ds d. map_left (λ es g. to_right g) (to_left d)) c))) b))) a)
      (to_right (to_right (to_right (to_right w)))),
)

keywords_spell : (f : Expr) (xs : Exprs) (ks : Keywords) (us : List Lexeme) (q : Place) → q ≡ span us
    → Sequence (KeywordsBefore f xs ks) (Sign sign.RightParenthesis) us → Spells (call q f xs ks) us
keywords_spell f xs ks us q e w = (
  e,
  map_right
      (λ xs1 a. map_right (λ bs b. map_left (λ cs c. each_others (λ u. SpellsKeywords ks u) _ xs cs
      (map_right (λ ds d. keywords_all ks ds d) c)) (to_left b)) a)
      (to_right (to_right (to_right w))),
)

keywords_grow : (f : Expr) (xs : Exprs) (ks : Keywords) (n : Name) (v : Expr) (us : List Lexeme)
    → Sequence (KeywordsBefore f xs ks ⟫ (IsName n ⟫ Sign sign.Equal)) (Expression v ⟫ Sign sign.Comma) us
    → KeywordsBefore f xs (add_keyword ks n v) us
keywords_grow f xs ks n v us w = map_right (λ xs1 a. keywords_add ks n v xs1 (map_right (λ bs b. to_right b) a))
    (to_right (to_right w))

keyword_closed : (f : Expr) (xs : Exprs) (ks : Keywords) (n : Name) (us : List Lexeme) (s : Stack) (p : Part)
    (t : Lexeme) (e : Ending) (ts : List Lexeme) → EndMeans e t.kind
    → Sequence (Before (naming f xs ks n us s)) (Holds 0 p) ts → Stood (close_keyword f xs ks n us s p t e)
    (ts ++ (t ∷ []))
keyword_closed f xs ks n us s p t a_comma ts e w = map_right (λ vs k. kept_map (us ++ (p.tokens ++ (t ∷ []))) vs
    (keywords_grow f xs ks n p.tree) k) (behind_stack us p t (kind.Operator sign.Comma) ts e w)
keyword_closed f xs ks n us s p t closes_parenthesis ts e w = kept_node (λ q. call q f xs (add_keyword ks n p.tree)) _
    (us ++ (p.tokens ++ (t ∷ []))) s (ts ++ (t ∷ [])) (keyword_spells f xs ks n p.tree) (omega arith)
    (behind_stack us p t (kind.Operator sign.RightParenthesis) ts e w)
keyword_closed f xs ks n us s p t _ ts e w = tt

-- ---- the rest

index_spells : (m i : Expr) (us : List Lexeme) (q : Place) → q ≡ span us
    → Sequence (Operand 7 (own_level m) (λ x. Spells m x) ⟫ Sign sign.LeftBracket)
    (Expression i ⟫ Sign sign.RightBracket) us → Spells (index q m i) us
index_spells m i us q e w = (e, to_right w)

index_closed : (m : Expr) (us : List Lexeme) (s : Stack) (p : Part) (t : Lexeme) (e : Ending) (ts : List Lexeme)
    → EndMeans e t.kind
    → Sequence (Before (indexing m us s)) (Holds 0 p) ts → Stood (close_index m us s p t e) (ts ++ (t ∷ []))
index_closed m us s p t closes_bracket ts e w = kept_node (λ q. index q m p.tree) _ (us ++ (p.tokens ++ (t ∷ []))) s
    (ts ++ (t ∷ [])) (index_spells m p.tree) (omega arith)
    (behind_stack us p t (kind.Operator sign.RightBracket) ts e w)
index_closed m us s p t _ ts e w = tt

key_closed : (es : Entries) (us : List Lexeme) (s : Stack) (p : Part) (t : Lexeme) (e : Ending) (ts : List Lexeme)
    → EndMeans e t.kind
    → Sequence (Before (keying es us s)) (Holds 0 p) ts → Stood (close_key es us s p t e) (ts ++ (t ∷ []))
key_closed es us s p t a_colon ts e w = behind_stack us p t (kind.Operator sign.Colon) ts e w
key_closed es us s p t _ ts e w = tt

entry_spells : (es : Entries) (x v : Expr) (us : List Lexeme) (q : Place) → q ≡ span us
    → Sequence (EntriesBefore es ⟫ (Expression x ⟫ Sign sign.Colon)) (Expression v ⟫ Sign sign.RightBrace) us
    → Spells (dict q (add_entry es x v)) us
entry_spells es x v us q e w = (
  e,
  map_right (λ xs1 a. map_left (λ bs b. entries_last es x v bs b)
      (to_left (map_right (λ bs b. map_left (λ cs c. to_right c) (to_left b)) a))) (to_right (to_right w)),
)

entries_grow : (es : Entries) (x v : Expr) (us : List Lexeme)
    → Sequence (EntriesBefore es ⟫ (Expression x ⟫ Sign sign.Colon)) (Expression v ⟫ Sign sign.Comma) us
    → EntriesBefore (add_entry es x v) us
entries_grow es x v us w = map_right (λ xs1 a. entries_add es x v xs1 (map_right (λ bs b. to_right b) a))
    (to_right (to_right w))

value_closed : (es : Entries) (x : Expr) (us : List Lexeme) (s : Stack) (p : Part) (t : Lexeme) (e : Ending)
    (ts : List Lexeme) → EndMeans e t.kind
    → Sequence (Before (valuing es x us s)) (Holds 0 p) ts → Stood (close_value es x us s p t e) (ts ++ (t ∷ []))
value_closed es x us s p t a_comma ts e w = map_right (λ vs k. kept_map (us ++ (p.tokens ++ (t ∷ []))) vs
    (entries_grow es x p.tree) k) (behind_stack us p t (kind.Operator sign.Comma) ts e w)
value_closed es x us s p t closes_brace ts e w = kept_node (λ q. dict q (add_entry es x p.tree)) _
    (us ++ (p.tokens ++ (t ∷ []))) s (ts ++ (t ∷ [])) (entry_spells es x p.tree) (omega arith)
    (behind_stack us p t (kind.Operator sign.RightBrace) ts e w)
value_closed es x us s p t _ ts e w = tt

-- the tokens that end a whole expression, in the lines
abbrev pub Finishes : Type 0
Finishes = (c : ExpressionPosition) (p : Part) (t : Lexeme) (e : Ending) (ts : List Lexeme) → EndMeans e t.kind
    → Sequence (BeforeContext c) (Holds 0 p) ts → Stood (finish c p e) (ts ++ (t ∷ []))

close_stood : Finishes → (p : Part) (s : Stack) (t : Lexeme) (e : Ending) (ts : List Lexeme) → EndMeans e t.kind
    → Sequence (Before s) (Holds 0 p) ts → Stood (close p s t e) (ts ++ (t ∷ []))
close_stood f p (whole c) t e ts m w = f c p t e ts m w
close_stood f p (grouping o s) t e ts m w = group_closed o s p t e ts m w
close_stood f p (listing h xs us s) t e ts m w = item_closed h xs us s p t e ts m w
close_stood f p (indexing x us s) t e ts m w = index_closed x us s p t e ts m w
close_stood f p (naming g xs ks n us s) t e ts m w = keyword_closed g xs ks n us s p t e ts m w
close_stood f p (keying es us s) t e ts m w = key_closed es us s p t e ts m w
close_stood f p (valuing es key us s) t e ts m w = value_closed es key us s p t e ts m w
close_stood f p (joining op l o s) t e ts m w = tt
close_stood f p (applying x u s) t e ts m w = tt

-- ---- after an operand

linked_stood : (l : Link) (t : Lexeme) (p : Part) (s : Stack) (ts : List Lexeme) → FollowMeans (link l) t.kind
    → needed_level s ≤ own_of_link l → Sequence (Before s) (Holds (left_of_link l) p) ts
    → LedTo (linked l t p s) (ts ++ (t ∷ []))
linked_stood (linking op) t p s ts m r w = (r, grow ts t w (refl, m t refl))
linked_stood denying t p s ts m r w = (r, grow ts t w (refl, just t _ m))
linked_stood identifying t p s ts m r w = (r, grow ts t w (refl, just t _ m))

callee_kept : (p : Part) (k : TokenKind) (t : Lexeme) (s : Stack) (ts : List Lexeme) → t.kind ≡ k
    → Sequence (Before s) (Holds 7 p) ts
    → Sequence (Before s) (Kept (p.tokens ++ (t ∷ [])) (Operand 7 (own_level p.tree) (λ x. Spells p.tree x) ⟫ Just k))
    (ts ++ (t ∷ []))
callee_kept p k t s ts e w = behind_kept p.tokens t k ts e (map_right (holds_kept 7 p) w)

pub have_stood : Finishes → (level : ℕ) (p : Part) (s : Stack) (t : Lexeme) (f : Follow) (ts : List Lexeme)
    → FollowMeans f t.kind → LedTo (have level p s) ts → Stood (have_turn level p s t f) (ts ++ (t ∷ []))
have_stood fin level p s t (link l) ts m h = on_tight (left_of_link l) level _ (ts ++ (t ∷ []))
    (λ fit. let r = reduce (left_of_link l) p s in
    on_le (needed_level r.1) (own_of_link l) (linked l t r.0 r.1) (ts ++ (t ∷ []))
    (λ le. linked_stood l t r.0 r.1 ts m le (reduce_holds (left_of_link l) level s p ts h.0 fit h.2)))
have_stood fin level p s t a_dot ts m h = on_tight 7 level (go (dotted p (t ∷ []) s)) (ts ++ (t ∷ []))
    (λ fit. grow ts t (map_right (λ us k. holds_lower 7 level p us fit k) h.2) (refl, just t _ m))
have_stood fin level p s t calls ts m h = on_tight 7 level
    (go (item_due (in_call p.tree) no_exprs (p.tokens ++ (t ∷ [])) s)) (ts ++ (t ∷ []))
    (λ fit. map_right (λ us k. (k.0, end_nothing us k.1)) (callee_kept p (kind.Operator sign.LeftParenthesis) t s ts m
    (map_right (λ us k. holds_lower 7 level p us fit k) h.2)))
have_stood fin level p s t indexes ts m h = on_tight 7 level (go (operand (indexing p.tree (p.tokens ++ (t ∷ [])) s)))
    (ts ++ (t ∷ []))
    (λ fit. callee_kept p (kind.Operator sign.LeftBracket) t s ts m
    (map_right (λ us k. holds_lower 7 level p us fit k) h.2))
have_stood fin level p s t (ends e) ts m h = let r = reduce 0 p s in close_stood fin r.0 r.1 t e ts m
    (reduce_holds 0 level s p ts h.0 (omega arith) h.2)

-- ---- inside

unit_spells : (us : List Lexeme) (q : Place) → q ≡ span us → Sequence (Sign sign.LeftParenthesis)
    (Sign sign.RightParenthesis) us → Spells (tuple q no_exprs) us
unit_spells us q e w = (e, w)

pub group_stood : (o : List Lexeme) (s : Stack) (t : Lexeme) (ts : List Lexeme) → LedTo (group_due o s) ts
    → Stood (group_turn o s t t.kind) (ts ++ (t ∷ []))
group_stood o s t ts h = on_kind t (kind.Operator sign.RightParenthesis) _ _ (ts ++ (t ∷ []))
    (λ e. kept_node (λ q. tuple q no_exprs) _ (o ++ (t ∷ [])) s (ts ++ (t ∷ [])) unit_spells (omega arith)
    (behind_kept o t (kind.Operator sign.RightParenthesis) ts e h))
    (operand_stood (grouping o s) t (operand_start t.kind) ts (start_means t.kind) h)

closed_spells : (h : BracketPurpose) (xs : Exprs) (us : List Lexeme) (q : Place) → q ≡ span us
    → Sequence (ItemsBefore h xs) (Just (closer h)) us → Spells (head_tree h xs q) us
closed_spells in_list xs us q e w =
    (e, map_right (λ xs1 a. map_left (λ bs b. each_others Nothing ⊤ xs bs (end_nothing bs b)) a) (to_right w))
closed_spells in_tuple no_exprs us q e w = absurd w.left.0
closed_spells in_tuple (more_exprs y ys) us q e w = (
  e,
  map_right
      (λ xs1 a. map_right (λ bs b. map_right (λ cs c. map_left (λ ds d. each_others Nothing ⊤ ys ds (end_nothing ds d))
      c)
      (to_right b)) (to_right a)) (to_right (map_left (λ vs v. v.1) w)),
)
closed_spells (in_call f) xs us q e w = (
  e,
  map_right (λ xs1 a. map_right (λ bs b. map_left (λ cs c. each_others (λ u. SpellsKeywords no_keywords u) _ xs cs
      (end_nothing cs c)) b) a) (to_right (to_right w)),
)

head_own : (h : BracketPurpose) (xs : Exprs) (q : Place) → 7 ≤ own_level (head_tree h xs q)
head_own in_list xs q = omega arith
head_own in_tuple xs q = omega arith
head_own (in_call f) xs q = omega arith

pub item_stood : (h : BracketPurpose) (xs : Exprs) (us : List Lexeme) (s : Stack) (t : Lexeme) (ts : List Lexeme)
    → LedTo (item_due h xs us s) ts → Stood (item_turn h xs us s t t.kind) (ts ++ (t ∷ []))
item_stood h xs us s t ts k = on_kind t (closer h) _ _ (ts ++ (t ∷ []))
    (λ e. kept_node (head_tree h xs) (ItemsBefore h xs ⟫ Just (closer h)) (us ++ (t ∷ [])) s (ts ++ (t ∷ []))
    (closed_spells h xs) (head_own h xs _) (behind_kept us t (closer h) ts e k))
    (operand_stood (listing h xs us s) t (operand_start t.kind) ts (start_means t.kind) k)

pub keyword_stood : (f : Expr) (xs : Exprs) (ks : Keywords) (us : List Lexeme) (s : Stack) (t : Lexeme)
    (ts : List Lexeme) → LedTo (keyword_due f xs ks us s) ts → Stood (keyword_turn f xs ks us s t t.kind)
    (ts ++ (t ∷ []))
keyword_stood f xs ks us s t ts h = on_kind t kind.Name _ _ (ts ++ (t ∷ [])) (λ e. behind_name us t ts e h)
    (on_kind t (kind.Operator sign.RightParenthesis) _ _ (ts ++ (t ∷ []))
    (λ e. kept_node (λ q. call q f xs ks) (KeywordsBefore f xs ks ⟫ Sign sign.RightParenthesis) (us ++ (t ∷ [])) s
    (ts ++ (t ∷ [])) (keywords_spell f xs ks) (omega arith) (behind_kept us t (kind.Operator sign.RightParenthesis)
    ts e h)) tt)

pub named_stood : (f : Expr) (xs : Exprs) (ks : Keywords) (n : Name) (us : List Lexeme) (s : Stack) (t : Lexeme)
    (ts : List Lexeme) → LedTo (keyword_named f xs ks n us s) ts → Stood (named_turn f xs ks n us s t t.kind)
    (ts ++ (t ∷ []))
named_stood f xs ks n us s t ts h = on_kind t (kind.Operator sign.Equal) _ _ (ts ++ (t ∷ []))
    (λ e. map_right (λ vs k. (k.0, to_right k.1)) (behind_kept us t (kind.Operator sign.Equal) ts e h)) tt

dict_spells : (es : Entries) (us : List Lexeme) (q : Place) → q ≡ span us
    → Sequence (EntriesBefore es) (Sign sign.RightBrace) us → Spells (dict q es) us
dict_spells es us q e w = (e, map_right (λ xs1 a. map_left (λ bs b. entries_all es bs b) a) (to_right w))

pub key_stood : (es : Entries) (us : List Lexeme) (s : Stack) (t : Lexeme) (ts : List Lexeme)
    → LedTo (key_due es us s) ts → Stood (key_turn es us s t t.kind) (ts ++ (t ∷ []))
key_stood es us s t ts h = on_kind t (kind.Operator sign.RightBrace) _ _ (ts ++ (t ∷ []))
    (λ e. kept_node (λ q. dict q es) (EntriesBefore es ⟫ Sign sign.RightBrace) (us ++ (t ∷ [])) s (ts ++ (t ∷ []))
    (dict_spells es) (omega arith) (behind_kept us t (kind.Operator sign.RightBrace) ts e h))
    (operand_stood (keying es us s) t (operand_start t.kind) ts (start_means t.kind) h)

-- an operand, the kept tokens after it, and one more token
behind_operand : {S A : Spelling} (level : ℕ) (C : Spelling) (p : Part) (o : List Lexeme) (t : Lexeme)
    (ts : List Lexeme) → C (t ∷ []) → Sequence (S ⟫ Holds level p) (Kept o A) ts
    → Sequence S (Kept (p.tokens ++ (o ++ (t ∷ []))) (Operand level (own_level p.tree) (λ x. Spells p.tree x) ⟫ A ⟫ C))
    (ts ++ (t ∷ []))
behind_operand level C p o t ts e w = map_right (λ us v. kept_join p.tokens (o ++ (t ∷ [])) us
    (map_left (holds_kept level p) (map_right (λ vs z. kept_join o (t ∷ []) vs z) v)))
    (to_right (to_right (grow {B = Kept (t ∷ []) C} ts t w (refl, e))))

attribute_spells : (m : Expr) (n : Name) (us : List Lexeme) (q : Place) → q ≡ span us
    → Sequence (Operand 7 (own_level m) (λ x. Spells m x)) (Sign sign.Dot ⟫ IsName n) us → Spells (attribute q m n) us
attribute_spells m n us q e w = (e, w)

pub dotted_stood : (p : Part) (o : List Lexeme) (s : Stack) (t : Lexeme) (ts : List Lexeme) → LedTo (dotted p o s) ts
    → Stood (dotted_turn p o s t t.kind) (ts ++ (t ∷ []))
dotted_stood p o s t ts h = on_kind t kind.Name _ _ (ts ++ (t ∷ []))
    (λ e. kept_node (λ q. attribute q p.tree (name_of_token t)) _ (p.tokens ++ (o ++ (t ∷ []))) s (ts ++ (t ∷ []))
    (attribute_spells p.tree (name_of_token t)) (omega arith)
    (behind_operand 7 (IsName (name_of_token t)) p o t ts (is_name t e) h)) tt

pub denied_stood : (p : Part) (o : List Lexeme) (s : Stack) (t : Lexeme) (ts : List Lexeme) → LedTo (denied p o s) ts
    → Stood (denied_turn p o s t t.kind) (ts ++ (t ∷ []))
denied_stood p o s t ts h = on_kind t (kind.Keyword word.In) _ _ (ts ++ (t ∷ []))
    (λ e. (h.0, behind_kept o t (kind.Keyword word.In) ts e h.1)) tt

-- a node of a comparison's level
compared : (make : Place → Expr) (B : Spelling) (tokens : List Lexeme) (s : Stack) (ts : List Lexeme)
    → ((us : List Lexeme) (q : Place) → q ≡ span us → B us → Spells (make q) us)
    → 3 ≤ own_level (make (span tokens)) → needed_level s ≤ 3 → Sequence (Before s) (Kept tokens B) ts
    → LedTo (have 3 (bare_part make tokens) s) ts
compared make B tokens s ts spell le r w =
    (r, omega arith, map_right (λ us h. node_holds 3 make B tokens us (λ q x. spell us q x.0 x.1) le h) w)

is_none_spells : (m : Expr) (us : List Lexeme) (q : Place) → q ≡ span us
    → Sequence (Operand 4 (own_level m) (λ x. Spells m x)) (Word word.Is ⟫ Word word.None) us → Spells (is_none q m) us
is_none_spells m us q e w = (e, w)

is_not_none_spells : (m : Expr) (us : List Lexeme) (q : Place) → q ≡ span us
    → Sequence (Operand 4 (own_level m) (λ x. Spells m x)) ((Word word.Is ⟫ Word word.Not) ⟫ Word word.None) us
    → Spells (is_not_none q m) us
is_not_none_spells m us q e w = (e, map_right (λ vs v. to_right v) w)

pub identified_stood : (p : Part) (o : List Lexeme) (s : Stack) (t : Lexeme) (ts : List Lexeme)
    → LedTo (identified p o s) ts → Stood (identified_turn p o s t t.kind) (ts ++ (t ∷ []))
identified_stood p o s t ts h = on_kind t (kind.Keyword word.None) _ _ (ts ++ (t ∷ []))
    (λ e. compared (λ q. is_none q p.tree) _ (p.tokens ++ (o ++ (t ∷ []))) s (ts ++ (t ∷ [])) (is_none_spells p.tree)
    (omega arith) h.0 (behind_operand 4 (Word word.None) p o t ts (just t _ e) h.1))
    (on_kind t (kind.Keyword word.Not) _ _ (ts ++ (t ∷ [])) (λ e.
    (h.0, behind_kept o t (kind.Keyword word.Not) ts e h.1)) tt)

pub unidentified_stood : (p : Part) (o : List Lexeme) (s : Stack) (t : Lexeme) (ts : List Lexeme)
    → LedTo (unidentified p o s) ts → Stood (unidentified_turn p o s t t.kind) (ts ++ (t ∷ []))
unidentified_stood p o s t ts h = on_kind t (kind.Keyword word.None) _ _ (ts ++ (t ∷ []))
    (λ e. compared (λ q. is_not_none q p.tree) _ (p.tokens ++ (o ++ (t ∷ []))) s (ts ++ (t ∷ []))
    (is_not_none_spells p.tree) (omega arith) h.0 (behind_operand 4 (Word word.None) p o t ts (just t _ e) h.1)) tt
