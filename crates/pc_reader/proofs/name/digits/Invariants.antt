use Rattle.std.proofs.Common.{◌≡◌, ◌++◌, string_bytes}
use Rattle.std.specs.Str.Iter.{chars_rest}
use Rattle.pc_grammar.specs.Grammar.{digits_of}
use Rattle.pc_reader.proofs.name.digits.Given as goal

abbrev pub invariant-loop-character : goal.invariant-loop-character
invariant-loop-character l = string_bytes l.digits ++ digits_of (chars_rest l.character-iterator) ≡ digits_of l.fn.text
