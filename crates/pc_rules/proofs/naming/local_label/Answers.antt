use Rattle.std.proofs.Common.{◌∙◌, sym, ap}
use Rattle.std.specs.Option.{option_copied}
use Rattle.pc_rules.proofs.Once.{clean_is, label_as}
use Rattle.pc_rules.proofs.NamesRead.{local_some}
use Rattle.pc_rules.proofs.naming.local_label.Goals as goal

pub returns-in_ok-copy-in-Some-clause-value : goal.returns-in_ok-copy-in-Some-clause-value
returns-in_ok-copy-in-Some-clause-value g c =
    let has = g.S.TypeStore.has in
    let tree = g.S.TypeStore.tree in
    let v = c.in_ok-copy-in-Some.ensures in
    let e = local_some tree c.args.env.now c.args.local c.in-Some.ty.now
    (sym c.current.ensures ∙ ap option_copied c.in-Some.is) in
    label_as has tree c.args.store.now c.clean.result _ _ (sym e)
    (clean_is has tree c.args.store.now c.clean.result _ _ (c.clean.ensures.label tree) c.clean.ensures.ty v.0 v.1)
