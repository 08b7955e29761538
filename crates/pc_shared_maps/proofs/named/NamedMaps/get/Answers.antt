use Rattle.std.proofs.Common.{◌∙◌, sym, ap}
use Rattle.pc_shared_maps.specs.NameMaps.{NameMaps}
use Rattle.pc_shared_maps.specs.SharedMaps.{held_at}
use Rattle.pc_shared_maps.proofs.Naming.{held_named, none_named}
use Rattle.pc_shared_maps.proofs.named.NamedMaps.get.Goals as goal

pub returns-in-Some : goal.returns-in-Some
returns-in-Some c =
    c.get.ensures
    ∙ ap (λ (x : NameMaps). held_at x.nodes c.args.map c.in-Some.number) c.self.view_is
    ∙ held_named c.args.self.now c.args.map c.in-Some.number c.args.name.now (sym c.number_of.ensures ∙ c.in-Some.is)

pub returns-in-None : goal.returns-in-None
returns-in-None c = none_named c.args.self.now c.args.map c.args.name.now (sym c.number_of.ensures ∙ c.in-None.is)
