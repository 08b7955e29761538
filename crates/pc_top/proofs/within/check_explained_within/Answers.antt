use Rattle.std.proofs.Common.{ℕ, ◌≤◌, List, length, subst}
use Rattle.pc_front.specs.Bytes.{IsRefusalOf}
use Rattle.pc_top.specs.DetailsWithin.{DetailedWithin}
use Rattle.pc_top.proofs.Main.{no_refusal}
use Rattle.pc_top.proofs.within.check_explained_within.Goals as goal

pub returns-clause-headline : goal.returns-clause-headline
returns-clause-headline c = subst (λ (l : List ℕ). DetailedWithin l c.args.limit c.in_ok-detailed.detailed)
    c.in_ok-source.ensures.text c.in_ok-detailed.ensures

pub returns-in_err-detailed-clause-refused : goal.returns-in_err-detailed-clause-refused
returns-in_err-detailed-clause-refused c = no_refusal (IsRefusalOf c.args.bytes.now)
    c.from_residual-in_err-detailed.result c.from_residual-in_err-detailed.ensures.1

pub returns-in_err-detailed-clause-within : goal.returns-in_err-detailed-clause-within
returns-in_err-detailed-clause-within c = no_refusal (λ refusal. refusal.byte ≤ length c.args.bytes.now)
    c.from_residual-in_err-detailed.result c.from_residual-in_err-detailed.ensures.1
