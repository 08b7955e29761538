use Rattle.std.proofs.Common.{◌≡◌, ◌++◌, string_bytes}
use Rattle.std.specs.Str.Iter.{chars_rest}
use Rattle.pc_grammar.specs.Grammar.{decoded, characters_of}
use Rattle.pc_reader.proofs.name.characters.Given as goal

abbrev pub invariant-loop-character : goal.invariant-loop-character
invariant-loop-character l = string_bytes l.characters ++ decoded l.escaped (chars_rest l.character-iterator)
    ≡ characters_of l.fn.text
