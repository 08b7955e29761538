use Rattle.std.proofs.Common.{◌+◌, ◌==◌, refl, rules}
use Rattle.std.specs.List.{prefix_len}
use Rattle.pc_source.specs.declared.fault.RefusalCode.TheVariants.{L7}
use Rattle.pc_token.specs.Internal.LineReading.{context_of}
use Rattle.pc_token.proofs.PiecesAtBytes.{blanks_read, tab_read, not_fewer, has_last}
use Rattle.pc_token.proofs.Refusing.{refused_after}
use Rattle.pc_token.proofs.line_lexer.LineLexer.blanks.Goals as goal

pub returns-then-is_some-clause-next : goal.returns-then-is_some-clause-next
returns-then-is_some-clause-next c =
    let s = c.args.self.now in
    let bytes = c.rest-bytes.result.now in
    blanks_read (context_of s) s.text.now bytes c.rest-bytes.ensures.rest c.run_len.result
    (prefix_len (λ b. b == 32) bytes) c.run_len.ensures.len refl
    c.rest-bytes.ensures.utf8 c.requires.boundary c.rest-bytes.ensures.some c.requires.here
    (λ fresh more. absurd (has_last s.last fresh (search rules)))

pub returns-then-is_bad_tab-clause-refused : goal.returns-then-is_bad_tab-clause-refused
returns-then-is_bad_tab-clause-refused c =
    let s = c.args.self.now in
    refused_after (context_of s) s.text.now L7 (s.at + c.space_len-spaces.result) c.refused_at.result
    c.refused_at.ensures c.space_len-spaces.result refl
    (tab_read (context_of s) s.text.now c.rest-bytes.result.now c.rest-bytes.ensures.rest c.blank_len-len.result
    c.space_len-spaces.result c.blank_len-len.ensures.len c.space_len-spaces.ensures.len
    (search rules) (search rules) (search rules))

pub returns-clause-next : goal.returns-clause-next
returns-clause-next c =
    let s = c.args.self.now in
    blanks_read (context_of s) s.text.now c.rest-bytes.result.now c.rest-bytes.ensures.rest c.blank_len-len.result
    c.space_len-spaces.result c.blank_len-len.ensures.len c.space_len-spaces.ensures.len
    c.rest-bytes.ensures.utf8 c.requires.boundary c.rest-bytes.ensures.some c.requires.here
    (λ fresh more. not_fewer c.is_bad_tab.result _ _ _ c.is_bad_tab.ensures c.if-is_bad_tab.false more)
