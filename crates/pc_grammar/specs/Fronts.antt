-- Prefixes of modules by cases: the tokens that lead to each state of the machine.
pub mod Expressions
pub mod Lines
use Rattle.std.specs.Prelude.{◌≡◌, ◌≤◌, ◌⊎◌, ℕ, Bool, true, false, List, [], ◌∷◌, ◌++◌, Option, Some, None, codes}
use Rattle.pc_token.specs.declared.token.Keyword.TheVariants as word
use Rattle.pc_token.specs.declared.token.Operator.TheVariants as sign
use Rattle.pc_token.specs.Lexeme.{Lexeme}
use Rattle.pc_grammar.specs.Grammar.{Spelling, ◌⟫◌, Just, Sign, Word, IsName}
use Rattle.pc_grammar.specs.Grammar.Annotations.{SpellsAnn}
use Rattle.pc_grammar.specs.Grammar.Modules.{SpellsMembers, SpellsLiteral, Parameters, SpellsModule, IsFront}
use Rattle.pc_grammar.specs.Machine.Kinds.{SpellsAllFixed}
use Rattle.pc_grammar.specs.Machine.States.{ClassStart, of_class, of_module, FunctionOwner, DefStart, State, fixed, items}
use Rattle.pc_grammar.specs.Machine.States.{importing, item_named, decorator_due, class_due, class_named, base_due}
use Rattle.pc_grammar.specs.Machine.States.{members, def_due, self_read, param_due, param_named, params_read}
use Rattle.pc_grammar.specs.Machine.States.{literal_due}
use Rattle.pc_grammar.specs.Machine.States.{minus_read, literal_read, stmts, return_due, target_due, after_branch}
use Rattle.pc_grammar.specs.Machine.States.{part_due, part_named, part_read, argument_due, empty_opened, empty_closed}
use Rattle.pc_grammar.specs.Machine.States.{operand, have, denied, identified, unidentified, dotted, group_due}
use Rattle.pc_grammar.specs.Machine.States.{item_due}
use Rattle.pc_grammar.specs.Machine.States.{keyword_due, keyword_named, key_due, ended}
use Rattle.pc_grammar.specs.Machine.Expressions.{needed_level}
use Rattle.pc_grammar.specs.Machine.Lines.{takes_header}
use Rattle.pc_grammar.specs.Fronts.Lines.{WordAt, SignAt, Kept, AtStage, BeforeItems, BeforeOwner, ClassWord, ClassName}
use Rattle.pc_grammar.specs.Fronts.Lines.{BeforeMembers, DefWord, BeforeParams, BeforeParam, ParamsRead, BeforeLiteral}
use Rattle.pc_grammar.specs.Fronts.Lines.{BeforeStmts, IfBranches, BeforeAnn, BeforeUnionPart, SelfRead}
use Rattle.pc_grammar.specs.Fronts.Expressions.{Before, Holds, ItemsBefore, KeywordsBefore, EntriesBefore}

-- the tokens lead to this state
abbrev pub LedTo : State → Spelling
LedTo (fixed w ws next) = λ ts. (us : List Lexeme) → SpellsAllFixed (w ∷ ws) us → LedTo next (ts ++ us)
LedTo (items stage top) = λ ts. AtStage stage top × BeforeItems top ts
LedTo (importing stage top) = λ ts. (takes_header stage ≡ true) × AtStage stage top
    × (BeforeItems top ⟫ Word word.From) ts
LedTo (item_named n top) = BeforeItems top ⟫ IsName n
LedTo (decorator_due first top) = BeforeItems top ⟫ SignAt sign.At first
LedTo (class_due first decorator top) = BeforeItems top ⟫ ClassWord first decorator
LedTo (class_named c) = λ ts. (c.base ≡ None) × (BeforeItems c.top ⟫ ClassName c) ts
LedTo (base_due c) = λ ts. (c.base ≡ None) × (BeforeItems c.top ⟫ (ClassName c ⟫ Sign sign.LeftParenthesis)) ts
LedTo (members c ms) = BeforeMembers c ms
LedTo (def_due owner first) = BeforeOwner owner ⟫ DefWord owner first
LedTo (self_read d) = SelfRead d d.owner
LedTo (param_due d ps) = BeforeParams d ps
LedTo (param_named d ps n) = BeforeParams d ps ⟫ IsName n
LedTo (params_read d ps) = ParamsRead d ps
LedTo (literal_due c) = BeforeLiteral c
LedTo (minus_read c us) = BeforeLiteral c ⟫ Kept us (Sign sign.Minus)
LedTo (literal_read c l) = BeforeLiteral c ⟫ SpellsLiteral l
LedTo (stmts done b) = BeforeStmts done b
LedTo (return_due site) = BeforeStmts site.done site.block ⟫ WordAt word.Return site.first
LedTo (target_due site) = BeforeStmts site.done site.block ⟫ WordAt word.For site.first
LedTo (after_branch bs site) = BeforeStmts site.done site.block ⟫ IfBranches site.first bs
LedTo (part_due parts before s) = BeforeUnionPart parts before s
LedTo (part_named n us parts before s) = BeforeUnionPart parts before s ⟫ Kept us (IsName n)
LedTo (part_read a us parts before s) = BeforeUnionPart parts before s ⟫ Kept us (SpellsAnn a false)
LedTo (argument_due head us parts before s) = BeforeUnionPart parts before s ⟫ Kept us (IsName head ⟫ Sign sign.LeftBracket)
LedTo (empty_opened head us parts before s) = BeforeUnionPart parts before s
    ⟫ Kept us ((IsName head ⟫ Sign sign.LeftBracket) ⟫ Sign sign.LeftParenthesis)
LedTo (empty_closed head us parts before s) = BeforeUnionPart parts before s
    ⟫ Kept us (((IsName head ⟫ Sign sign.LeftBracket) ⟫ Sign sign.LeftParenthesis) ⟫ Sign sign.RightParenthesis)
LedTo (operand s) = Before s
LedTo (have level p s) = λ ts. (needed_level s ≤ level) × (level ≤ 7) × (Before s ⟫ Holds level p) ts
LedTo (denied p us s) = λ ts. (needed_level s ≤ 3) × ((Before s ⟫ Holds 4 p) ⟫ Kept us (Word word.Not)) ts
LedTo (identified p us s) = λ ts. (needed_level s ≤ 3) × ((Before s ⟫ Holds 4 p) ⟫ Kept us (Word word.Is)) ts
LedTo (unidentified p us s) = λ ts. (needed_level s ≤ 3) × ((Before s ⟫ Holds 4 p) ⟫ Kept us (Word word.Is ⟫ Word word.Not)) ts
LedTo (dotted p us s) = (Before s ⟫ Holds 7 p) ⟫ Kept us (Sign sign.Dot)
LedTo (group_due us s) = Before s ⟫ Kept us (Sign sign.LeftParenthesis)
LedTo (item_due h xs us s) = Before s ⟫ Kept us (ItemsBefore h xs)
LedTo (keyword_due e xs ks us s) = Before s ⟫ Kept us (KeywordsBefore e xs ks)
LedTo (keyword_named e xs ks n us s) = Before s ⟫ Kept us (KeywordsBefore e xs ks ⟫ IsName n)
LedTo (key_due es us s) = Before s ⟫ Kept us (EntriesBefore es)
LedTo (ended m) = SpellsModule m

-- the tokens lead to some state
abbrev pub IsFrontByCases : Spelling
IsFrontByCases ts = (s : State) × LedTo s ts

-- the tokens with which some module begins are those that lead to some state
abbrev pub FrontsAgree : Type 0
FrontsAgree = (ts : List Lexeme) → (IsFront ts → IsFrontByCases ts) × (IsFrontByCases ts → IsFront ts)
