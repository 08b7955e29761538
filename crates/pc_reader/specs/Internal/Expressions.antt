-- Results of the functions that read expressions.
use Rattle.std.specs.declared.convert.AsStr.{Ghosts as TextOf}
use Rattle.std.specs.declared.iter.Iterator.{Ghosts as TokensOf}
use Rattle.std.specs.Prelude.{ℕ, ◌≡◌, ◌≤◌, ◌<◌, ◌⊎◌, Bool, true, false, List, [], ◌∷◌, ◌++◌, Option, Some, None, Result}
use Rattle.std.specs.Prelude.{MatchOption, MatchResult, Vec}
use Rattle.std.specs.declared.alloc.Global.{Global}
use Rattle.pc_source.specs.declared.fault.Fault.{Fault}
use Rattle.pc_source.specs.declared.place.Place.{Place}
use Rattle.pc_token.specs.declared.token.Token.{Token}
use Rattle.pc_token.specs.declared.token.TokenKind.{TokenKind}
use Rattle.pc_token.specs.declared.token.TokenKind.TheVariants as kind
use Rattle.pc_token.specs.declared.token.Keyword.TheVariants as word
use Rattle.pc_token.specs.declared.token.Operator.TheVariants as sign
use Rattle.pc_token.specs.Lexeme.{Lexeme}
use Rattle.pc_token.specs.declared.token.Operator.{Operator as Bracket}
use Rattle.pc_tree.specs.declared.tree.Name.{Name as RustName}
use Rattle.pc_tree.specs.Tree.{Name, Expr, Exprs, no_exprs, Keywords, no_keywords, name_of}
use Rattle.pc_grammar.specs.Grammar.{name_of_token, first_place}
use Rattle.pc_grammar.specs.Machine.{at}
use Rattle.pc_grammar.specs.Machine.Kinds.{Infix as Operator, Link as Joint, Follow, link, a_dot, calls, indexes}
use Rattle.pc_grammar.specs.Machine.Kinds.{follow_of, Start, a_name, a_number, a_string, a_truth, a_none, operand_start}
use Rattle.pc_grammar.specs.Machine.States.{Part, Prefix as Sign, minus, denial, BracketPurpose, in_tuple, in_list}
use Rattle.pc_grammar.specs.Machine.States.{in_call}
use Rattle.pc_grammar.specs.Machine.States.{Stack}
use Rattle.pc_grammar.specs.Machine.States.{joining, naming, State, item_due, operand, have, identified, go}
use Rattle.pc_grammar.specs.Machine.Expressions.{needed_level, own_of, own_of_link, left_of_link, prefix_level}
use Rattle.pc_grammar.specs.Machine.Expressions.{head_tree}
use Rattle.pc_grammar.specs.Machine.Expressions.{call_part, operand_turn}
use Rattle.pc_reader.specs.declared.reader.Reader.{Reader}
use Rattle.pc_reader.specs.declared.operand.Operand.{Operand}
use Rattle.pc_reader.specs.declared.operand.Infix.{Infix}
use Rattle.pc_reader.specs.declared.items.Items.{Items}
use Rattle.pc_reader.specs.declared.items.Listed.{Listed}
use Rattle.pc_reader.specs.declared.items.Arguments.{Arguments}
use Rattle.pc_reader.specs.declared.items.CallArguments.{CallArguments}
use Rattle.pc_reader.specs.Internal.Brackets.{KeepsItems, KeepsKeywords}
use Rattle.pc_reader.specs.Internal.Operands.{KeepsPart, Ends, infix_of, signs_on, starts_of, applied_all}
use Rattle.pc_reader.specs.Reading.{Blames, Came, Onward, IsReady, IsAhead, NeedsKind, Takes, lexeme, left_in}

-- the token after an operand of this level is no operator that continues it where a node of level `need` is due
abbrev pub Over : ℕ → ℕ → Follow → Type 0
Over need level (link l) = (own_of_link l < need) ⊎ (level < left_of_link l)
Over need level _ = Unit {0}

-- the token after an operand of this level is no dot or bracket that continues it
abbrev pub Undotted : ℕ → Follow → Type 0
Undotted level a_dot = level < 7
Undotted level calls = level < 7
Undotted level indexes = level < 7
Undotted level _ = Unit {0}

-- P holds of the effect that the token ahead, if any, has after an operand
abbrev pub NextIs : {X : Type 0} → (Follow → Type 0) → Option (Token X) → Type 0
NextIs P None = Unit {0}
NextIs P (Some t) = P (follow_of t.kind)

-- the level of an operand after these signs are applied to it
abbrev pub wrapped_level : Sign → List Lexeme → ℕ → ℕ
wrapped_level x [] level = level
wrapped_level x (t ∷ ts) level = prefix_level x

-- the token ahead begins this operator, which continues an operand of this level where a node of level `need` is due
pub record HasLink {X : Type 0} (need level : ℕ) (l : Joint) (a : Option (Token X)) : Type 0 where
  pub token : Token X
  pub here : a ≡ Some token
  pub is : follow_of token.kind ≡ link l
  pub binds : need ≤ own_of_link l
  pub goes : left_of_link l ≤ level

-- the stack allows this sign: `not` only if nothing open binds tighter
abbrev pub TakesSign : Sign → Stack → Type 0
TakesSign minus s = Unit {0}
TakesSign denial s = needed_level s ≤ 2

-- an operand is due, and no sign that it may have is ahead
pub record IsPrimary {X I : Type 0} (a : Reader X I) (s : Stack) : Type 0 where
  pub plain : IsAhead (kind.Operator sign.Minus) a.ahead ≡ false
  pub undenied : (2 < needed_level s) ⊎ (IsAhead (kind.Keyword word.Not) a.ahead ≡ false)

-- an operand of a single token is due: no sign that it may have is ahead, and no bracket
pub record IsSingle {X I : Type 0} (a : Reader X I) (s : Stack) : Type 0 where
  pub primary : IsPrimary a s
  pub parenthesis : IsAhead (kind.Operator sign.LeftParenthesis) a.ahead ≡ false
  pub bracket : IsAhead (kind.Operator sign.LeftBracket) a.ahead ≡ false
  pub brace : IsAhead (kind.Operator sign.LeftBrace) a.ahead ≡ false

-- the token is an operand by itself: a name, a number, a string, a truth value or `None`
abbrev pub is_value_start : Start → Bool
is_value_start a_name = true
is_value_start a_number = true
is_value_start a_string = true
is_value_start (a_truth b) = true
is_value_start a_none = true
is_value_start _ = false

-- the token ahead is an operand by itself
abbrev pub value_ahead : {X : Type 0} → Option (Token X) → Bool
value_ahead None = false
value_ahead (Some t) = is_value_start (operand_start t.kind)

-- the operand is the value of this token
pub record IsValue (t : Lexeme) (o : Operand) : Type 0 where
  pub part : Part
  pub keeps : KeepsPart o part
  pub begins : first_place part.tokens ≡ t.place
  pub leads : (s : Stack) → operand_turn s t (operand_start t.kind) ≡ go (have 7 part s)

-- the bracket that closes items other than arguments
abbrev pub Closes : BracketPurpose → Bracket → Type 0
Closes in_tuple o = o ≡ sign.RightParenthesis
Closes in_list o = o ≡ sign.RightBracket
Closes (in_call e) o = ⊥

-- the last of these signs have been applied to the operand, and the first are left
pub record HasAppliedSigns (x : Sign) (ts : List Lexeme) (p : Part) (o : Operand) (rest : List ℕ)
    (o' : Operand) : Type 0 where
  pub front : List Lexeme
  pub back : List Lexeme
  pub all : ts ≡ front ++ back
  pub starts : starts_of front ≡ rest
  pub keeps : KeepsPart o' (applied_all x back p)
  pub level_is : o'.level ≡ wrapped_level x back o.level

module _ {X I : Type 0} (texts : TextOf X) (source : TokensOf I (Result (Token X) Fault)) where
  -- the token ahead was taken, which is at this place
  pub record TakesAt (a b : Reader X I) (p : Place) : Type 0 where
    pub token : Token X
    pub takes : Takes texts source a b token
    pub starts : token.place.start ≡ p.start
    pub ends : token.place.end ≡ p.end

  -- the token ahead was taken, which is of this kind and at this place
  pub record TakesKindAt (k : TokenKind) (a b : Reader X I) (p : Place) : Type 0 where
    pub token : Token X
    pub takes : Takes texts source a b token
    pub is : token.kind ≡ k
    pub starts : token.place.start ≡ p.start
    pub ends : token.place.end ≡ p.end

  -- an operand of at least this level was read, on any stack that fits
  pub record GivesOperand (fits : Stack → Type 0) (level : ℕ) (a b : Reader X I) (o : Operand) : Type 0 where
    pub part : Part
    pub keeps : KeepsPart o part
    pub low : level ≤ o.level
    pub ready : IsReady source.can_next source.remaining b
    pub later : left_in source.remaining b < left_in source.remaining a
    pub begins : (t : Token X) → a.ahead ≡ Some t → first_place part.tokens ≡ t.place
    pub leads : (s : Stack) → fits s → Onward texts.text source.next_gives a b (at (operand s))
        (at (have o.level part s))

  -- an operand of at least this level was read, or the refusal is the machine's
  abbrev pub ReadsOperand : (Stack → Type 0) → ℕ → Reader X I → Reader X I → Result Operand Fault → Type 0
  ReadsOperand fits level a b r =
      MatchResult r (λ o. GivesOperand fits level a b o)
      (λ e. Blames e (λ o. (s : Stack) → fits s → Came texts.text source.next_gives a (at (operand s)) o))

  -- the token ahead, if any, begins this operator
  abbrev pub IsLink : Joint → Reader X I → Type 0
  IsLink l a = (t : Token X) → a.ahead ≡ Some t → follow_of t.kind ≡ link l

  -- an operator between two operands was read
  pub record GivesInfix (l : Joint) (a b : Reader X I) (op : Operator) : Type 0 where
    pub tokens : List Lexeme
    pub own : own_of op ≡ own_of_link l
    pub ready : IsReady source.can_next source.remaining b
    pub later : left_in source.remaining b < left_in source.remaining a
    pub leads : IsLink l a → (level : ℕ) (p : Part) (s : Stack) → left_of_link l ≤ level
        → needed_level s ≤ own_of_link l
        → Onward texts.text source.next_gives a b (at (have level p s)) (at (operand (joining op p tokens s)))

  -- the `is` of `is None` or `is not None` was read
  pub record GivesIs (l : Joint) (a b : Reader X I) : Type 0 where
    pub token : Lexeme
    pub own : own_of_link l ≡ 3
    pub ready : IsReady source.can_next source.remaining b
    pub later : left_in source.remaining b < left_in source.remaining a
    pub leads : IsLink l a → (level : ℕ) (p : Part) (s : Stack) → left_of_link l ≤ level
        → needed_level s ≤ own_of_link l
        → Onward texts.text source.next_gives a b (at (have level p s)) (at (identified p (token ∷ []) s))

  -- an operator between two operands, or `is`, was read, or the refusal is the machine's
  abbrev pub ReadsInfix : Joint → Reader X I → Reader X I → Result (Option Infix) Fault → Type 0
  ReadsInfix l a b r = MatchResult r (λ i. MatchOption i (GivesIs l a b) (λ op. GivesInfix l a b (infix_of op)))
      (λ e. Blames e (λ o. IsLink l a → (level : ℕ) (p : Part) (s : Stack) → left_of_link l ≤ level
      → needed_level s ≤ own_of_link l → Came texts.text source.next_gives a (at (have level p s)) o))

  -- the operand was continued, from states after it
  pub record OperandGoesOn {K : Type 0} (st : K → Part → Stack → State) (level : ℕ) (a b : Reader X I) (o o' : Operand)
      (k : K) (p : Part) : Type 0 where
    pub part : Part
    pub keeps : KeepsPart o' part
    pub begins : first_place part.tokens ≡ first_place p.tokens
    pub leads : (s : Stack) → Onward texts.text source.next_gives a b (at (st k p s)) (at (have level part s))

  -- a continuation of the operand was read, which makes it one of this level
  pub record GivesOn {K : Type 0} (st : K → Part → Stack → State) (level : ℕ) (a b : Reader X I)
      (o o' : Operand) : Type 0 where
    pub level_is : o'.level ≡ level
    pub ready : IsReady source.can_next source.remaining b
    pub later : left_in source.remaining b < left_in source.remaining a
    pub goes : (k : K) (p : Part) → KeepsPart o p → OperandGoesOn st level a b o o' k p

  -- a continuation of the operand was read, or the refusal is the machine's
  abbrev pub ReadsOn : {K : Type 0} (st : K → Part → Stack → State) → ℕ → Reader X I → Reader X I → Operand
      → Result Operand Fault → Type 0
  ReadsOn {K} st level a b o r =
      MatchResult r (λ o'. GivesOn st level a b o o')
      (λ e. Blames e (λ x. (k : K) (p : Part) (s : Stack) → KeepsPart o p
      → Came texts.text source.next_gives a (at (st k p s)) x))

  -- the signs before an operand were read
  pub record GivesSigns (x : Sign) (a b : Reader X I) (signs : List ℕ) : Type 0 where
    pub tokens : List Lexeme
    pub starts : starts_of tokens ≡ signs
    pub ready : IsReady source.can_next source.remaining b
    pub later : left_in source.remaining b ≤ left_in source.remaining a
    pub same : signs ≡ [] → b.ahead ≡ a.ahead
    pub begins : (us : List Lexeme) → ((t : Token X) → b.ahead ≡ Some t → first_place us ≡ t.place) → (t : Token X)
        → a.ahead ≡ Some t → first_place (tokens ++ us) ≡ t.place
    pub leads : (s : Stack) → TakesSign x s
        → Onward texts.text source.next_gives a b (at (operand s)) (at (operand (signs_on x tokens s)))

  -- the signs before an operand were read, or the refusal is the machine's
  abbrev pub ReadsSigns : Sign → Reader X I → Reader X I → Result (Vec ℕ Global) Fault → Type 0
  ReadsSigns x a b r = MatchResult r (λ v. GivesSigns x a b v.items)
      (λ e. Blames e (λ o. (s : Stack) → TakesSign x s → Came texts.text source.next_gives a (at (operand s)) o))

  -- a name was read
  pub record GivesName (a b : Reader X I) (n : RustName) : Type 0 where
    pub token : Token X
    pub takes : Takes texts source a b token
    pub is : token.kind ≡ kind.Name
    pub name : name_of n ≡ name_of_token (lexeme texts.text token)

  -- a name was read, or the refusal is the machine's where only a name fits
  abbrev pub ReadsName : Reader X I → Reader X I → Result RustName Fault → Type 0
  ReadsName a b r = MatchResult r (λ n. GivesName a b n)
      (λ e. Blames e (λ o. (st : State) → NeedsKind texts.text kind.Name st a
      → Came texts.text source.next_gives a (at st) o))

  -- more items were read, up to the bracket that closes them
  pub record ListsOn (a b : Reader X I) (l : Listed) (h : BracketPurpose) (xs : Exprs) (ts : List Lexeme) : Type 0 where
    pub items : Exprs
    pub more : List Lexeme
    pub keeps : KeepsItems l.items items
    pub ends : Ends more l.end
    pub leads : (s : Stack) → Onward texts.text source.next_gives a b (at (item_due h xs ts s))
        (at (have 7 (Rattle.pc_grammar.specs.Machine.Expressions.bare_part (head_tree h items) (ts ++ more)) s))

  -- items were read after those already kept, up to this bracket
  pub record GivesItems (close : Bracket) (a b : Reader X I) (some : Items) (l : Listed) : Type 0 where
    pub ready : IsReady source.can_next source.remaining b
    pub later : left_in source.remaining b < left_in source.remaining a
    pub lists : (h : BracketPurpose) (xs : Exprs) (ts : List Lexeme) → Closes h close → KeepsItems some xs
        → ListsOn a b l h xs ts

  -- items were read up to this bracket, or the refusal is the machine's
  abbrev pub ReadsItems : Bracket → Reader X I → Reader X I → Items → Result Listed Fault → Type 0
  ReadsItems close a b some r = MatchResult r (λ l. GivesItems close a b some l)
      (λ e. Blames e (λ o. (h : BracketPurpose) (xs : Exprs) (ts : List Lexeme) (s : Stack) → Closes h close
      → Came texts.text source.next_gives a (at (item_due h xs ts s)) o))

  -- arguments by name were read, up to the closing parenthesis
  pub record NamesOn (a b : Reader X I) (l : Arguments) (e : Expr) (xs : Exprs) (ks : Keywords) (n : Name)
      (ts : List Lexeme) : Type 0 where
    pub arguments : Keywords
    pub more : List Lexeme
    pub keeps : KeepsKeywords l.keywords arguments
    pub ends : Ends more l.end
    pub leads : (s : Stack) → Onward texts.text source.next_gives a b (at (operand (naming e xs ks n ts s)))
        (at (have 7 (call_part e xs arguments (ts ++ more)) s))

  -- arguments by name were read, from after the `=` of the first
  pub record GivesKeywords (a b : Reader X I) (first : RustName) (l : Arguments) : Type 0 where
    pub ready : IsReady source.can_next source.remaining b
    pub later : left_in source.remaining b < left_in source.remaining a
    pub names : (e : Expr) (xs : Exprs) (ts : List Lexeme) → NamesOn a b l e xs no_keywords (name_of first) ts

  -- arguments by name were read up to the closing parenthesis, or the refusal is the machine's
  abbrev pub ReadsKeywords : Reader X I → Reader X I → RustName → Result Arguments Fault → Type 0
  ReadsKeywords a b first r = MatchResult r (λ l. GivesKeywords a b first l)
      (λ e. Blames e (λ o. (f : Expr) (xs : Exprs) (ts : List Lexeme) (s : Stack)
      → Came texts.text source.next_gives a (at (operand (naming f xs no_keywords (name_of first) ts s))) o))

  -- the arguments of a call of this operand were read, up to the closing parenthesis
  pub record PassesOn (a b : Reader X I) (l : CallArguments) (e : Expr) (ts : List Lexeme) : Type 0 where
    pub items : Exprs
    pub arguments : Keywords
    pub more : List Lexeme
    pub keeps : KeepsItems l.items items
    pub names : KeepsKeywords l.keywords arguments
    pub ends : Ends more l.end
    pub leads : (s : Stack) → Onward texts.text source.next_gives a b (at (item_due (in_call e) no_exprs ts s))
        (at (have 7 (call_part e items arguments (ts ++ more)) s))

  -- the arguments of a call were read, from after its opening parenthesis
  pub record GivesArguments (a b : Reader X I) (l : CallArguments) : Type 0 where
    pub ready : IsReady source.can_next source.remaining b
    pub later : left_in source.remaining b < left_in source.remaining a
    pub passes : (e : Expr) (ts : List Lexeme) → PassesOn a b l e ts

  -- the arguments of a call were read up to the closing parenthesis, or the refusal is the machine's
  abbrev pub ReadsArguments : Reader X I → Reader X I → Result CallArguments Fault → Type 0
  ReadsArguments a b r = MatchResult r (λ l. GivesArguments a b l)
      (λ e. Blames e (λ o. (f : Expr) (ts : List Lexeme) (s : Stack)
      → Came texts.text source.next_gives a (at (item_due (in_call f) no_exprs ts s)) o))
