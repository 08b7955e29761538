-- The tokens before a statement, a member, a parameter, an annotation.
use Rattle.std.specs.Prelude.{◌≡◌, Bool, true, false, List, [], ◌∷◌, Option, codes}
use Rattle.pc_source.specs.declared.place.Place.{Place}
use Rattle.pc_token.specs.declared.token.TokenKind.{TokenKind}
use Rattle.pc_token.specs.declared.token.TokenKind.TheVariants as kind
use Rattle.pc_token.specs.declared.token.Keyword.{Keyword}
use Rattle.pc_token.specs.declared.token.Keyword.TheVariants as word
use Rattle.pc_token.specs.declared.token.Operator.{Operator}
use Rattle.pc_token.specs.declared.token.Operator.TheVariants as sign
use Rattle.pc_token.specs.Lexeme.{Lexeme}
use Rattle.pc_tree.specs.Tree.{Name, Ann, Anns, no_anns, more_anns, Stmts, no_stmts, more_stmts, Branches, no_branches}
use Rattle.pc_tree.specs.Tree.{more_branches, Param, Member}
use Rattle.pc_grammar.specs.Grammar.{Spelling, ◌⟫◌, Begins, Just, Sign, Word, IsName, Named, NamedAt, Nothing, Maybe}
use Rattle.pc_grammar.specs.Grammar.Expressions.{Expression, SpellsTarget}
use Rattle.pc_grammar.specs.Grammar.Annotations.{Annotation, SpellsAnn}
use Rattle.pc_grammar.specs.Grammar.Statements.{Suite, SpellsStmt, SpellsStmts, SpellsBranches}
use Rattle.pc_grammar.specs.Grammar.Modules.{SpellsParam, Parameters, SpellsMembers, SpellsItems, Header}
use Rattle.pc_grammar.specs.Grammar.Modules.{OptionalHeader}
use Rattle.pc_grammar.specs.Machine.States.{HeaderStage, after_future, after_dataclasses, after_headers, Top, ClassStart}
use Rattle.pc_grammar.specs.Machine.States.{FunctionOwner}
use Rattle.pc_grammar.specs.Machine.States.{of_module, of_class, DefStart, DefHead, Nest, while_body, for_body}
use Rattle.pc_grammar.specs.Machine.States.{branch_body, else_body, Block, def_body, nested, Begun, assigned}
use Rattle.pc_grammar.specs.Machine.States.{annotated_value, returned, asserted, asserted_with, looping, iterating}
use Rattle.pc_grammar.specs.Machine.States.{branching, ExpressionPosition, in_line, in_statement, in_constant}
use Rattle.pc_grammar.specs.Machine.States.{AnnotationPosition, of_constant, of_field, of_param, of_return, of_local}
use Rattle.pc_grammar.specs.Machine.States.{LiteralContext, default_of_param, default_of_field, AnnStack, ann_whole}
use Rattle.pc_grammar.specs.Machine.States.{ann_inside}

-- ---- tokens

-- one token of this kind at this place
abbrev pub JustAt : TokenKind → Place → Spelling
JustAt k place ts = (t : Lexeme) × (t.kind ≡ k) × (place ≡ t.place) × (ts ≡ t ∷ [])

-- this keyword, at this place
abbrev pub WordAt : Keyword → Place → Spelling
WordAt w = JustAt (kind.Keyword w)

-- this operator, at this place
abbrev pub SignAt : Operator → Place → Spelling
SignAt o = JustAt (kind.Operator o)

-- tokens of A, which are exactly these
abbrev pub Kept : List Lexeme → Spelling → Spelling
Kept us A ts = (us ≡ ts) × A ts

-- the tokens from the `:` before a suite to its INDENT
abbrev pub Opening : Spelling
Opening = (Sign sign.Colon ⟫ Just kind.Newline) ⟫ Just kind.Indent

-- ---- the module

-- the headers of a module: that of `annotations`, and those of `dataclass` and `Any` if it has them
abbrev pub Imports : Bool → Bool → Spelling
Imports dataclass any = Header (codes "__future__") (codes "annotations")
    ⟫ OptionalHeader dataclass (codes "dataclasses") (codes "dataclass")
    ⟫ OptionalHeader any (codes "typing") (codes "Any")

-- the headers of a module, and its items so far
abbrev pub BeforeItems : Top → Spelling
BeforeItems top = Imports top.imports_dataclass top.imports_any ⟫ SpellsItems top.items

-- the headers read so far are those of the stage, and no item has been read; after the last header there is no
-- condition
abbrev pub AtStage : HeaderStage → Top → Type 0
AtStage after_future top = (top.imports_dataclass ≡ false) × (top.imports_any ≡ false) × (top.items ≡ [])
AtStage after_dataclasses top = (top.imports_dataclass ≡ true) × (top.imports_any ≡ false) × (top.items ≡ [])
AtStage after_headers top = Unit {0}

-- ---- classes

-- the line `@dataclass`, with the places of both tokens, and `class`
abbrev pub ClassWord : Place → Place → Spelling
ClassWord first decorator = ((SignAt sign.At first ⟫ NamedAt (codes "dataclass") decorator) ⟫ Just kind.Newline)
    ⟫ Word word.Class

-- a class, up to its name
abbrev pub ClassName : ClassStart → Spelling
ClassName c = ClassWord c.first c.decorator ⟫ IsName c.name

-- a class, up to the INDENT of its suite
abbrev pub ClassHead : ClassStart → Spelling
ClassHead c = (ClassName c ⟫ Maybe (λ b. Sign sign.LeftParenthesis ⟫ IsName b ⟫ Sign sign.RightParenthesis) c.base)
    ⟫ Opening

-- the module before a class, the class up to its suite, and its members so far
abbrev pub BeforeMembers : ClassStart → List Member → Spelling
BeforeMembers c ms = (BeforeItems c.top ⟫ ClassHead c) ⟫ SpellsMembers ms

-- ---- functions

-- the tokens before a function of the module, or before a method of a class
abbrev pub BeforeOwner : FunctionOwner → Spelling
BeforeOwner (of_module top) = BeforeItems top
BeforeOwner (of_class c ms) = BeforeMembers c ms

-- `def`, with its place if it is in the module
abbrev pub DefWord : FunctionOwner → Place → Spelling
DefWord (of_module top) first = WordAt word.Def first
DefWord (of_class c ms) first = Word word.Def

-- a function up to the `(` before its parameters
abbrev pub DefName : DefStart → Spelling
DefName d = (DefWord d.owner d.first ⟫ IsName d.name) ⟫ Sign sign.LeftParenthesis

-- parameters, each followed by a comma
abbrev pub EachParam : List Param → Spelling
EachParam [] = Nothing
EachParam (p ∷ ps) = SpellsParam p ⟫ Sign sign.Comma ⟫ EachParam ps

-- the parameters of a function or a method, each followed by a comma; those of a method follow `self`
abbrev pub ParamsOf : FunctionOwner → List Param → Spelling
ParamsOf (of_module top) ps = EachParam ps
ParamsOf (of_class c ms) ps = Named (codes "self") ⟫ Sign sign.Comma ⟫ EachParam ps

-- whether a function is in a class
abbrev pub is_in_class : FunctionOwner → Bool
is_in_class (of_module top) = false
is_in_class (of_class c ms) = true

-- the tokens before a parameter: all up to the `(`, and the parameters so far, including `self`, each followed by a
-- comma
abbrev pub BeforeParams : DefStart → List Param → Spelling
BeforeParams d ps = BeforeOwner d.owner ⟫ (DefName d ⟫ ParamsOf d.owner ps)

-- the tokens up to the `self` of a method; a function of the module has none
abbrev pub SelfRead : DefStart → FunctionOwner → Spelling
SelfRead d (of_module top) = λ ts. ⊥
SelfRead d (of_class c ms) = BeforeOwner d.owner ⟫ (DefName d ⟫ Named (codes "self"))

-- the tokens up to the `)` after the parameters of a function
abbrev pub ParamsRead : DefStart → List Param → Spelling
ParamsRead d ps = BeforeOwner d.owner ⟫ (DefName d ⟫ (Parameters (is_in_class d.owner) ps ⟫ Sign sign.RightParenthesis))

-- the tokens before the first statement of a function
abbrev pub BeforeBody : DefHead → Spelling
BeforeBody h = ParamsRead h.start h.params ⟫ (Maybe (λ a. Sign sign.Arrow ⟫ Annotation a) h.returns ⟫ Opening)

-- a parameter up to its annotation
abbrev pub BeforeParam : Name → Option Ann → Spelling
BeforeParam n a = IsName n ⟫ Maybe (λ x. Sign sign.Colon ⟫ Annotation x) a

-- the tokens before a default, up to its `=`
abbrev pub BeforeLiteral : LiteralContext → Spelling
BeforeLiteral (default_of_param d ps n a) = BeforeParams d ps ⟫ (BeforeParam n a ⟫ Sign sign.Equal)
BeforeLiteral (default_of_field c ms n a) = BeforeMembers c ms
    ⟫ (((IsName n ⟫ Sign sign.Colon) ⟫ Annotation a) ⟫ Sign sign.Equal)

-- ---- statements

-- statements, in order
abbrev pub EachStmt : Stmts → Spelling
EachStmt no_stmts = Nothing
EachStmt (more_stmts s ss) = SpellsStmt s ⟫ EachStmt ss

-- `if`, and each `elif`
abbrev pub IfBranches : Place → Branches → Spelling
IfBranches first no_branches = λ ts. ⊥
IfBranches first (more_branches condition body rest) =
    (WordAt word.If first ⟫ (Expression condition ⟫ Suite (SpellsStmts body))) ⟫ SpellsBranches rest

-- an `if` up to the condition of its next branch
abbrev pub BranchWord : Place → Branches → Spelling
BranchWord first no_branches = WordAt word.If first
BranchWord first (more_branches c b rest) = IfBranches first (more_branches c b rest) ⟫ Word word.Elif

-- the tokens of a statement before a suite nested in it
abbrev pub BeforeNest : Place → Nest → Spelling
BeforeNest first (while_body condition) = WordAt word.While first ⟫ Expression condition
BeforeNest first (for_body target iterable) = ((WordAt word.For first ⟫ IsName target) ⟫ Word word.In)
    ⟫ Expression iterable
BeforeNest first (branch_body bs condition) = BranchWord first bs ⟫ Expression condition
BeforeNest first (else_body bs) = IfBranches first bs ⟫ Word word.Else

-- the tokens before the first statement of a suite
abbrev pub BeforeBlock : Block → Spelling
BeforeBlock (def_body h) = BeforeBody h
BeforeBlock (nested first of done outer) = (BeforeBlock outer ⟫ EachStmt done) ⟫ (BeforeNest first of ⟫ Opening)

-- the tokens before the next statement of a suite
abbrev pub BeforeStmts : Stmts → Block → Spelling
BeforeStmts done b = BeforeBlock b ⟫ EachStmt done

-- the tokens of a statement before its expression
abbrev pub BeforeBegun : Place → Begun → Spelling
BeforeBegun first (assigned target) = Begins first (SpellsTarget target) ⟫ Sign sign.Equal
BeforeBegun first (annotated_value n a) = ((Begins first (IsName n) ⟫ Sign sign.Colon) ⟫ Annotation a) ⟫ Sign sign.Equal
BeforeBegun first returned = WordAt word.Return first
BeforeBegun first asserted = WordAt word.Assert first
BeforeBegun first (asserted_with condition) = (WordAt word.Assert first ⟫ Expression condition) ⟫ Sign sign.Comma
BeforeBegun first looping = WordAt word.While first
BeforeBegun first (iterating target) = (WordAt word.For first ⟫ IsName target) ⟫ Word word.In
BeforeBegun first (branching bs) = BranchWord first bs

-- the tokens before a whole expression
abbrev pub BeforeContext : ExpressionPosition → Spelling
BeforeContext (in_line done b) = BeforeStmts done b
BeforeContext (in_statement begun site) = BeforeStmts site.done site.block ⟫ BeforeBegun site.first begun
BeforeContext (in_constant n a top) = BeforeItems top ⟫ (BeforeParam n a ⟫ Sign sign.Equal)

-- ---- annotations

-- the tokens before a whole annotation, up to its `:` or `->`
abbrev pub BeforeAnnContext : AnnotationPosition → Spelling
BeforeAnnContext (of_constant n top) = BeforeItems top ⟫ (IsName n ⟫ Sign sign.Colon)
BeforeAnnContext (of_field c ms n) = BeforeMembers c ms ⟫ (IsName n ⟫ Sign sign.Colon)
BeforeAnnContext (of_param d ps n) = BeforeParams d ps ⟫ (IsName n ⟫ Sign sign.Colon)
BeforeAnnContext (of_return d ps) = ParamsRead d ps ⟫ Sign sign.Arrow
BeforeAnnContext (of_local n site) = BeforeStmts site.done site.block ⟫ (Begins site.first (IsName n) ⟫ Sign sign.Colon)

-- annotations, each followed by this sign
abbrev pub EachAnn : Anns → Operator → Bool → Spelling
EachAnn no_anns o whole = Nothing
EachAnn (more_anns a rest) o whole = SpellsAnn a whole ⟫ Sign o ⟫ EachAnn rest o whole

-- the tokens before an annotation, whole or an argument of another
abbrev pub BeforeAnn : AnnStack → Spelling
BeforeAnn (ann_whole c) = BeforeAnnContext c
BeforeAnn (ann_inside head done us parts before s) = (BeforeAnn s ⟫ Kept before (EachAnn parts sign.Bar false))
    ⟫ Kept us ((IsName head ⟫ Sign sign.LeftBracket) ⟫ EachAnn done sign.Comma true)

-- the tokens before a part of a union
abbrev pub BeforeUnionPart : Anns → List Lexeme → AnnStack → Spelling
BeforeUnionPart parts before s = BeforeAnn s ⟫ Kept before (EachAnn parts sign.Bar false)
