-- Modules: headers, constants, classes, functions, and the last line. Python Language Reference 3.12, 7.2, 7.11, 8.7,
-- 8.8; the headers, their order, and the last line are own rules of the profile.
use Rattle.std.specs.Prelude.{◌≡◌, ℕ, Bool, true, false, List, [], ◌∷◌, ◌++◌, codes}
use Rattle.pc_source.specs.declared.place.Place.{Place}
use Rattle.pc_token.specs.declared.token.TokenKind.TheVariants as kind
use Rattle.pc_token.specs.declared.token.Keyword.TheVariants as word
use Rattle.pc_token.specs.declared.token.Operator.TheVariants as sign
use Rattle.pc_token.specs.Lexeme.{Lexeme}
use Rattle.pc_tree.specs.Tree.{Literal, number_literal, negative_literal, text_literal, truth_literal, none_literal}
use Rattle.pc_tree.specs.Tree.{Param, FuncDef, Member, field_member, method_member, ClassDef, Item, constant_item}
use Rattle.pc_tree.specs.Tree.{class_item, def_item, Module}
use Rattle.pc_grammar.specs.Grammar.{Spelling, At, Begins, ◌⟫◌, Nothing, Maybe, Just, Sign, Word, IsName, Named}
use Rattle.pc_grammar.specs.Grammar.{NamedAt}
use Rattle.pc_grammar.specs.Grammar.{AfterComma, IsNumber, IsString}
use Rattle.pc_grammar.specs.Grammar.Expressions.{Expression, truth_word}
use Rattle.pc_grammar.specs.Grammar.Annotations.{Annotation}
use Rattle.pc_grammar.specs.Grammar.Statements.{Suite, SpellsStmts}

-- a literal as a default
abbrev pub SpellsLiteral : Literal → Spelling
SpellsLiteral (number_literal p digits) = At p (IsNumber digits)
SpellsLiteral (negative_literal p digits) = At p (Sign sign.Minus ⟫ IsNumber digits)
SpellsLiteral (text_literal p characters) = At p (IsString characters)
SpellsLiteral (truth_literal p b) = At p (Word (truth_word b))
SpellsLiteral (none_literal p) = At p (Word word.None)

-- ---- functions

-- a parameter: its name, then its annotation and its default, if it has them
abbrev pub SpellsParam : Param → Spelling
SpellsParam p = IsName p.name ⟫ Maybe (λ a. Sign sign.Colon ⟫ Annotation a) p.annotation
    ⟫ Maybe (λ l. Sign sign.Equal ⟫ SpellsLiteral l) p.default

-- parameters, optionally with a comma after the last
abbrev pub SpellsParams : List Param → Spelling
SpellsParams [] = Nothing
SpellsParams (p ∷ ps) = SpellsParam p ⟫ AfterComma (ps ≡ []) (λ ts. SpellsParams ps ts)

-- the parameters of a function or a method; those of a method follow `self`
abbrev pub Parameters : (method : Bool) → List Param → Spelling
Parameters true ps = Named (codes "self") ⟫ AfterComma (ps ≡ []) (SpellsParams ps)
Parameters false ps = SpellsParams ps

-- a function or a method, from `def` to the end of its suite
abbrev pub SpellsDef : (method : Bool) → FuncDef → Spelling
SpellsDef method f = Word word.Def ⟫ IsName f.name ⟫ Sign sign.LeftParenthesis ⟫ Parameters method f.params
    ⟫ Sign sign.RightParenthesis
    ⟫ Maybe (λ a. Sign sign.Arrow ⟫ Annotation a) f.returns ⟫ Suite (SpellsStmts f.body)

-- ---- classes

-- a member of a class: a field on its line, or a method
abbrev pub SpellsMember : Member → Spelling
SpellsMember (field_member f) = IsName f.name ⟫ Sign sign.Colon ⟫ Annotation f.annotation
    ⟫ Maybe (λ l. Sign sign.Equal ⟫ SpellsLiteral l) f.default ⟫ Just kind.Newline
SpellsMember (method_member f) = SpellsDef true f

-- members, in order
abbrev pub SpellsMembers : List Member → Spelling
SpellsMembers [] = Nothing
SpellsMembers (m ∷ ms) = SpellsMember m ⟫ SpellsMembers ms

-- the members, or `pass` if there are none
abbrev pub ClassBody : List Member → Spelling
ClassBody [] = Word word.Pass ⟫ Just kind.Newline
ClassBody (m ∷ ms) = SpellsMembers (m ∷ ms)

-- a class, from `@dataclass` on its own line to the end of its suite
abbrev pub SpellsClass : ClassDef → Spelling
SpellsClass c = Sign sign.At ⟫ NamedAt (codes "dataclass") c.decorator ⟫ Just kind.Newline ⟫ Word word.Class
    ⟫ IsName c.name
    ⟫ Maybe (λ b. Sign sign.LeftParenthesis ⟫ IsName b ⟫ Sign sign.RightParenthesis) c.base
    ⟫ Suite (ClassBody c.members)

-- ---- the module

-- an item of the module: a constant on its line, a class or a function, with the place of its first token
abbrev pub SpellsItem : Item → Spelling
SpellsItem (constant_item first c) =
    Begins first (IsName c.name ⟫ Maybe (λ a. Sign sign.Colon ⟫ Annotation a) c.annotation ⟫ Sign sign.Equal
    ⟫ Expression c.value ⟫ Just kind.Newline)
SpellsItem (class_item first c) = Begins first (SpellsClass c)
SpellsItem (def_item first f) = Begins first (SpellsDef false f)

-- items, in order
abbrev pub SpellsItems : List Item → Spelling
SpellsItems [] = Nothing
SpellsItems (i ∷ is) = SpellsItem i ⟫ SpellsItems is

-- `from M import N` on a line
abbrev pub Header : List ℕ → List ℕ → Spelling
Header source imported = Word word.From ⟫ Named source ⟫ Word word.Import ⟫ Named imported ⟫ Just kind.Newline

-- a header if the module has it, otherwise no token
abbrev pub OptionalHeader : Bool → List ℕ → List ℕ → Spelling
OptionalHeader true source imported = Header source imported
OptionalHeader false source imported = Nothing

-- `main()` and the end of the text
abbrev pub LastLine : Place → Spelling
LastLine main = NamedAt (codes "main") main ⟫ Sign sign.LeftParenthesis ⟫ Sign sign.RightParenthesis ⟫ Just kind.Newline
    ⟫ Just kind.End

-- the tokens spell the module, however deep its expressions and annotations are
abbrev pub SpellsModule : Module → Spelling
SpellsModule m = Header (codes "__future__") (codes "annotations")
    ⟫ OptionalHeader m.imports_dataclass (codes "dataclasses") (codes "dataclass")
    ⟫ OptionalHeader m.imports_any (codes "typing") (codes "Any") ⟫ SpellsItems m.items ⟫ LastLine m.main

-- some module begins with these tokens
abbrev pub IsFront : Spelling
IsFront ts = (rest : List Lexeme) × (m : Module) × SpellsModule m (ts ++ rest)
