use Rattle.std.proofs.Common.{ap, List, Option, ◌∙◌}
use Rattle.std.specs.Prelude.{slice_set, ◌/◌, ◌%◌}
use Rattle.std.specs.Rc.{rc_value}
use Rattle.std.proofs.lemmas.Result.{on_ok_weaker, on_err_weaker}
use Rattle.pc_flow.proofs.Rows.{row_assign, row_unchanged}
use Rattle.pc_flow.proofs.env.Env.set.Goals as goal

pub returns : goal.returns
returns g c =
    let chunk = c.index_mut-chunk.result.now in
    let at = c.index_mut-chunk.ensures.value in
    record {
      set = on_ok_weaker c.set_in.result
          (λ e. row_assign rc_value c.self.inside.width c.self.inside.locals c.self.inside.chunks.items c.args.local
          chunk c.set_in.new.chunk c.args.ty c.self.invariant c.if-local-self.false
          (e ∙ ap (λ k. slice_set (rc_value k) (c.args.local % c.self.inside.width) c.args.ty) at)
          ∙ ap (λ (types : List (Option g.row.Ty.Denot)). slice_set types c.args.local c.args.ty) c.self.view_is)
          c.set_in.ensures.set;
      unchanged = on_err_weaker c.set_in.result
          (λ e. row_unchanged rc_value c.self.inside.width c.self.inside.locals c.self.inside.chunks.items
          (c.args.local / c.self.inside.width) chunk c.set_in.new.chunk (e ∙ ap rc_value at) ∙ c.self.view_is)
          c.set_in.ensures.unchanged;
    }
