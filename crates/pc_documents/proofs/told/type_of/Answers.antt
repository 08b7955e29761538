use Rattle.std.specs.Prelude.{option_map, string_bytes}
use Rattle.std.proofs.Common.{List, ℕ, Some, ap, subst, ◌∙◌}
use Rattle.pc_position.specs.Positions.{IsByteAt}
use Rattle.pc_documents.specs.CheckerAnswers.{type_shown}
use Rattle.pc_documents.specs.Hovers.{code_block}
use Rattle.pc_documents.proofs.told.type_of.Goals as goal

pub returns-in_ok-code_block-in-Some-2 : goal.returns-in_ok-code_block-in-Some-2
returns-in_ok-code_block-in-Some-2 g c = record {
  type = Some (string_bytes c.in-Some-2.ty);
  shows_it = record {
    byte = Some c.in-Some.byte;
    is_there = subst (λ (l : List ℕ). IsByteAt c.args.encoding l c.args.position (Some c.in-Some.byte))
        c.as_bytes.ensures.value c.in-Some.ensures;
    shown = subst (λ o. g.C.Checker.answers c.args.checker.now c.args.text.now
        (type_shown c.in-Some.byte (option_map string_bytes o))) c.in-Some-2.is c.in_ok-ty.ensures;
  };
  are = c.in_ok-code_block-in-Some-2.ensures ∙ ap (λ (l : List ℕ). code_block (Some l)) c.as_str.ensures.value;
}
