use Rattle.std.proofs.Common.{◌++◌, string_bytes, encode_utf8, ap, sym, ◌∙◌, append-nil}
use Rattle.pc_reader.proofs.Letters.{escaped_more, plain_more, decoded_end}
use Rattle.pc_reader.proofs.name.characters.Goals as goal

pub loop-character-preserved : goal.loop-character-preserved
loop-character-preserved c = plain_more c.loop-character.escaped c.in-Some.character _ _ _ _ _ c.if-escaped.false
    c.in-Some.ensures.steps.0 c.if-character-eq92.false c.in_ok-push-2.ensures.bytes c.loop-character.invariant

pub loop-character-preserved-then-escaped : goal.loop-character-preserved-then-escaped
loop-character-preserved-then-escaped c = escaped_more c.loop-character.escaped c.in-Some.character _ _ _ _ _
    c.if-escaped.true c.in-Some.ensures.steps.0 (c.in_ok-push.ensures.bytes
    ∙ ap (λ z. string_bytes c.loop-character.characters ++ encode_utf8 z) c.unescaped.ensures)
    c.loop-character.invariant

pub returns : goal.returns
returns c = sym (append-nil _) ∙ ap (λ z. string_bytes c.loop-character.characters ++ z)
    (sym (decoded_end c.loop-character.escaped _ c.in-None.ensures.steps.0.0)) ∙ c.loop-character.invariant
