use Rattle.std.proofs.Common.{◌++◌, [], Bool, append-nil, subst, sym}
use Rattle.std.specs.Prelude.{if◌then◌else◌}
use Rattle.pc_detail_texts.specs.Shortened.{KeepsText}
use Rattle.pc_detail_facts.proofs.ann_texts.push_gap.Goals as goal

pub returns-then-is_first : goal.returns-then-is_first
returns-then-is_first c = λ whole h.
    subst (λ (b : Bool). KeepsText c.args.text.now (whole ++ (if b then [] else c.args.separator.now)))
    (sym c.if-is_first.true) (subst (λ l. KeepsText c.args.text.now l) (sym (append-nil whole)) h)

pub returns : goal.returns
returns c = λ whole h.
    subst (λ (b : Bool). KeepsText c.push.new.self (whole ++ (if b then [] else c.args.separator.now)))
    (sym c.if-is_first.false) (c.push.ensures whole h)
