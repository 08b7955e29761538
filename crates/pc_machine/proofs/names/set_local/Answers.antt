use Rattle.std.proofs.Common.{◌≡◌, ◌∙◌, ap, arith, map, true, get_or}
use Rattle.pc_value.specs.Meaning.{value_of}
use Rattle.pc_value.specs.Texts.{same_text}
use Rattle.pc_machine.specs.Names.{with_local}
use Rattle.pc_machine.specs.Machine.{local_of as local_seen}
use Rattle.pc_machine.proofs.Lists.{set_here}
use Rattle.pc_machine.proofs.names.set_local.Goals as goal

pub returns-then-is_same : goal.returns-then-is_same
returns-then-is_same c =
    let h : same_text (get_or c.loop-i.frame c.loop-i.i c.index-frame-i.result).name.now c.args.name.now ≡ true = cc in
    set_here c.args.name.now c.args.value c.loop-i.frame c.loop-i.i c.index-frame-i.result (omega arith) h
    ∙ c.loop-i.invariant.run ∙ ap (λ ls. with_local c.args.name.now (value_of c.args.value) (map local_seen ls))
    c.loop-i.invariant.same
