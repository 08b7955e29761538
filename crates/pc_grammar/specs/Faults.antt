-- The refusals of a list of tokens that is no module. Own rule of the profile.
use Rattle.std.specs.Prelude.{◌≡◌, ◌⊎◌, ℕ, List, [], ◌∷◌, ◌++◌, Some, None}
use Rattle.pc_source.specs.declared.fault.Refusal.{Refusal}
use Rattle.pc_source.specs.declared.fault.RefusalCode.TheVariants as code
use Rattle.pc_token.specs.Lexeme.{Lexeme}
use Rattle.pc_tree.specs.Tree.{Module}
use Rattle.pc_tree.specs.Depth.{too_deep_at}
use Rattle.pc_grammar.specs.Grammar.{last_place}
use Rattle.pc_grammar.specs.Grammar.Modules.{SpellsModule, IsFront}

-- the tokens spell the module, and none of its whole expressions, targets and annotations is too deep
pub record IsModule (ts : List Lexeme) (m : Module) : Type 0 where
  pub spelled : SpellsModule m ts
  pub shallow : too_deep_at m ≡ None

-- a token begins at the byte; some module begins with the tokens before it, but none with these and the token
pub record IsMisfit (ts : List Lexeme) (byte : ℕ) : Type 0 where
  pub before : List Lexeme
  pub token : Lexeme
  pub after : List Lexeme
  pub all : ts ≡ before ++ (token ∷ after)
  pub start : byte ≡ token.place.start
  pub front : IsFront before
  pub refused : ¬ (IsFront (before ++ (token ∷ [])))

-- some module begins with the tokens, but they spell none; the byte is where they end
pub record EndsEarly (ts : List Lexeme) (byte : ℕ) : Type 0 where
  pub front : IsFront ts
  pub unspelled : (m : Module) → ¬ (SpellsModule m ts)
  pub end : byte ≡ (last_place ts).end

-- the tokens spell a module, and the first whole expression or annotation that is too deep begins at the byte
pub record IsTooDeep (ts : List Lexeme) (byte : ℕ) : Type 0 where
  pub tree : Module
  pub spelled : SpellsModule tree ts
  pub first : too_deep_at tree ≡ Some byte

-- the refusal of tokens: G1 if they spell no module, otherwise G2 if their module is too deep
abbrev pub IsRefusal : List Lexeme → Refusal → Type 0
IsRefusal ts r = ((r.code ≡ code.G1) × (IsMisfit ts r.byte ⊎ EndsEarly ts r.byte))
    ⊎ ((r.code ≡ code.G2) × IsTooDeep ts r.byte)

-- a list of tokens spells at most one module
abbrev pub OneModule : Type 0
OneModule = (m n : Module) (ts : List Lexeme) → SpellsModule m ts → SpellsModule n ts → m ≡ n
