use Rattle.std.proofs.Common.{◌∙◌, ap}
use Rattle.std.specs.Prelude.{string_bytes}
use Rattle.pc_scope.specs.Reserved.{beside}
use Rattle.pc_scope.specs.Tables.{Tables}
use Rattle.pc_scope.proofs.TextMaps.{beside_entry}
use Rattle.pc_scope.proofs.tables.Names.global.Goals as goal

pub returns : goal.returns
returns c = c.copied.ensures ∙ c.get.ensures.value ∙ beside_entry string_bytes c.args.name.now
    c.self.inside.globals.entries ∙ ap (λ (t : Tables). beside t.globals c.args.name.now) c.self.view_is
