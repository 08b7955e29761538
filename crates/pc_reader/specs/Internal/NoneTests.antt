-- Results of the function that reads the end of a test of `None`.
use Rattle.std.specs.declared.convert.AsStr.{Ghosts as TextOf}
use Rattle.std.specs.declared.iter.Iterator.{Ghosts as TokensOf}
use Rattle.std.specs.Prelude.{◌<◌, List, [], ◌∷◌, ◌++◌, Result, MatchResult}
use Rattle.pc_source.specs.declared.fault.Fault.{Fault}
use Rattle.pc_token.specs.declared.token.Token.{Token}
use Rattle.pc_token.specs.Lexeme.{Lexeme}
use Rattle.pc_grammar.specs.Machine.{at}
use Rattle.pc_grammar.specs.Machine.States.{Part, Stack, have, identified}
use Rattle.pc_grammar.specs.Machine.Expressions.{bare_part}
use Rattle.pc_reader.specs.declared.reader.Reader.{Reader}
use Rattle.pc_reader.specs.declared.none_tests.NoneTest.{NoneTest}
use Rattle.pc_reader.specs.Internal.Operands.{Ends, none_tree}
use Rattle.pc_reader.specs.Reading.{Blames, Came, Onward, IsReady, left_in}

module _ {X I : Type 0} (texts : TextOf X) (source : TokensOf I (Result (Token X) Fault)) where
  -- `None` or `not None` was read after `is`
  pub record GivesNone (a b : Reader X I) (n : NoneTest) : Type 0 where
    pub more : List Lexeme
    pub ends : Ends more n.end
    pub ready : IsReady source.can_next source.remaining b
    pub later : left_in source.remaining b < left_in source.remaining a
    pub leads : (d : Lexeme) (p : Part) (s : Stack) → Onward texts.text source.next_gives a b
        (at (identified p (d ∷ []) s)) (at (have 3 (bare_part (none_tree n.negated p.tree) (p.tokens ++ (d ∷ more))) s))

  -- `None` or `not None` was read after `is`, or the refusal is the machine's
  abbrev pub ReadsNone : Reader X I → Reader X I → Result NoneTest Fault → Type 0
  ReadsNone a b r = MatchResult r (λ n. GivesNone a b n)
      (λ e. Blames e (λ o. (d : Lexeme) (p : Part) (s : Stack)
      → Came texts.text source.next_gives a (at (identified p (d ∷ []) s)) o))
