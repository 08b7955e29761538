use Rattle.std.proofs.Common.{refl, sym, ap, ◌∙◌, rules}
use Rattle.pc_source.specs.declared.fault.RefusalCode.TheVariants.{L4}
use Rattle.pc_token.specs.Names.{is_bad_name}
use Rattle.pc_token.specs.Internal.LineReading.{context_of}
use Rattle.pc_token.proofs.PiecesAtBytes.{keyword_read, name_read, bad_name_read}
use Rattle.pc_token.proofs.Refusing.{refused_here}
use Rattle.pc_token.proofs.line_lexer.LineLexer.word.Goals as goal

pub returns-in-Some-clause-next : goal.returns-in-Some-clause-next
returns-in-Some-clause-next c =
    let s = c.args.self.now in
    let end = c.name_end-end in
    keyword_read (context_of s) s.text.now end.result.0 end.ensures.utf8 c.requires.boundary end.ensures.boundary
    end.ensures.later c.requires.here end.ensures.run end.ensures.all
    c.in-Some.keyword (search rules)

pub returns-then-is_bad_name-clause-refused : goal.returns-then-is_bad_name-clause-refused
returns-then-is_bad_name-clause-refused c =
    let s = c.args.self.now in
    let end = c.name_end-end in
    refused_here (context_of s) s.text.now L4 s.at c.refused_at.result c.refused_at.ensures refl
    (bad_name_read (context_of s) s.text.now end.result.0 end.ensures.utf8 c.requires.boundary end.ensures.boundary
    end.ensures.later c.requires.here end.ensures.run end.ensures.all
    (search rules) (ap (is_bad_name s.last) (sym c.range-name.ensures.value) ∙ sym c.is_bad_name.ensures
    ∙ c.if-is_bad_name.true))

pub returns-clause-next : goal.returns-clause-next
returns-clause-next c =
    let s = c.args.self.now in
    let end = c.name_end-end in
    name_read (context_of s) s.text.now end.result.0 end.ensures.utf8 c.requires.boundary end.ensures.boundary
    end.ensures.later c.requires.here end.ensures.run end.ensures.all
    c.in_ok-form.form (search rules) (ap (is_bad_name s.last) (sym c.range-name.ensures.value)
    ∙ sym c.is_bad_name.ensures ∙ c.if-is_bad_name.false) (search rules)
