use Rattle.std.proofs.Common.{◌∙◌, sym}
use Rattle.pc_shared_maps.proofs.ListsShared.{name_there, name_put}
use Rattle.pc_shared_maps.proofs.lists.add_name.Goals as goal

pub returns-then-has-clause-names : goal.returns-then-has-clause-names
returns-then-has-clause-names c names h is word = name_there c.args.named.now c.args.map names c.args.name.now h
    (sym c.has.ensures ∙ c.if-has.true) word

pub returns-clause-names : goal.returns-clause-names
returns-clause-names c names h is word = name_put c.args.named.now c.args.map names c.args.name.now h c.put.new.self
    c.in_ok-new.new c.args.place (sym c.has.ensures ∙ c.if-has.false) is c.in_ok-new.ensures.value word
