use Rattle.std.proofs.Common.{◌∙◌}
use Rattle.std.specs.Rc.{rc_value}
use Rattle.pc_flow.proofs.Rows.{copied, chunk_copied}
use Rattle.pc_flow.proofs.chunk.ChunkClone.clone.Goals as goal

pub returns : goal.returns
returns g c = record {
  cases = chunk_copied rc_value _ (copied rc_value _ (λ a h. h) (λ a h. h) (λ a b h. h)) _ _
      c.in_ok-clone.ensures.cases.0 ∙ c.self.view_is;
}
