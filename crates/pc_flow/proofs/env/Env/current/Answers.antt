use Rattle.std.proofs.Common.{sym, ap, Option, None, List, ◌∙◌}
use Rattle.std.specs.Prelude.{slice_index_or, ◌%◌}
use Rattle.std.specs.Rc.{rc_value}
use Rattle.pc_flow.proofs.Rows.{row_current}
use Rattle.pc_flow.proofs.env.Env.current.Goals as goal

pub returns-then-local-self : goal.returns-then-local-self
returns-then-local-self g c =
    let at = row_current rc_value c.self.inside.width c.self.inside.locals c.self.inside.chunks.items c.args.local
    c.index.result.now None c.self.invariant c.if-local-self.true in
    c.get.ensures ∙ ap (λ (types : List (Option g.row.Ty.Denot)). slice_index_or types
    (c.args.local % c.self.inside.width) None) (c.deref.ensures ∙ ap rc_value c.index.ensures) ∙ sym at
    ∙ ap (λ (types : List (Option g.row.Ty.Denot)). slice_index_or types c.args.local None) c.self.view_is
