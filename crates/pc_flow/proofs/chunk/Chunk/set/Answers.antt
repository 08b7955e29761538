use Rattle.std.proofs.Common.{◌∙◌, ap}
use Rattle.std.specs.Option.{option_map}
use Rattle.std.specs.Prelude.{slice_set}
use Rattle.std.specs.Rc.{rc_value}
use Rattle.std.proofs.lemmas.List.{map-set}
use Rattle.pc_flow.proofs.chunk.Chunk.set.Goals as goal
use Rattle.pc_flow.proofs.chunk.Chunk.set.Goals.{in-Some-1, in-None-1}

pub returns-then-local-len : goal.returns-then-local-len
returns-then-local-len g c =
    let e = map-set (option_map rc_value) c.self.inside.types.items c.args.local c.args.ty in
    elim c.match-index_mut-ty.branch [
      | in-Some-1 w ↦ w.self-is ∙ (e ∙ ap (λ l. slice_set l c.args.local (option_map rc_value c.args.ty))
          c.self.view_is)
      | in-None-1 w ↦ w.self-is ∙ (e ∙ ap (λ l. slice_set l c.args.local (option_map rc_value c.args.ty))
          c.self.view_is)
    ]
