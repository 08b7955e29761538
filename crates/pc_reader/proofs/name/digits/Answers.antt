use Rattle.std.proofs.Common.{◌++◌, string_bytes, ap, sym, ◌∙◌, append-nil}
use Rattle.pc_reader.proofs.Letters.{underscore_step, digit_more, digits_end}
use Rattle.pc_reader.proofs.name.digits.Goals as goal

pub loop-character-preserved : goal.loop-character-preserved
loop-character-preserved c = ap (λ z. string_bytes c.loop-character.digits ++ z)
    (sym (underscore_step c.in-Some.character _ _ c.in-Some.ensures.steps.0 c.if-character-ne95.false))
    ∙ c.loop-character.invariant

pub loop-character-preserved-in-Continue-1 : goal.loop-character-preserved-in-Continue-1
loop-character-preserved-in-Continue-1 c = digit_more c.in-Some.character _ _ _ _ _ c.in-Some.ensures.steps.0
    c.if-character-ne95.true c.in_ok-push.ensures.bytes c.loop-character.invariant

pub returns : goal.returns
returns c = sym (append-nil _) ∙ ap (λ z. string_bytes c.loop-character.digits ++ z)
    (sym (digits_end _ c.in-None.ensures.steps.0.0)) ∙ c.loop-character.invariant
