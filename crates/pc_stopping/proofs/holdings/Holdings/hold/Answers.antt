use Rattle.std.proofs.Common.{◌∙◌, ◌==◌, ℕ, ap}
use Rattle.std.specs.Prelude.{Some, if◌then◌else◌}
use Rattle.pc_tree.specs.Tree.{member_of}
use Rattle.pc_tree.specs.Stopping.{held_by, is_field}
use Rattle.pc_tree.specs.Names.{texts_in}
use Rattle.pc_shared_maps.specs.SharedMaps.{held_at}
use Rattle.pc_stopping.specs.declared.holdings.Holding.{Holding}
use Rattle.pc_stopping.specs.Holdings.{number_of, with_member}
use Rattle.pc_stopping.proofs.HeldNames.{held, kept}
use Rattle.pc_stopping.proofs.holdings.Holdings.hold.Goals as goal

pub returns-clause-held : goal.returns-clause-held
returns-clause-held c hs at h =
    let old = c.args.self.now.tables in
    let m = member_of c.args.member.now in
    let value = c.number_of-value.ensures
    ∙ ap number_of (c.with_member.ensures ∙ ap (λ (o : Holding). with_member o (is_field m)) c.held-had.ensures) in
    held (texts_in c.args.self.now.numbers) old c.put.new.self c.args.table c.args.number c.in_ok-added.added (held_by m)
    hs at h c.in_ok-added.ensures.within
    (λ k. c.in_ok-added.ensures.value k
    ∙ ap (λ (v : ℕ). if k == c.args.number then Some v else held_at old c.args.table k) value)

pub returns-clause-keeps : goal.returns-clause-keeps
returns-clause-keeps c =
    let keeps = c.in_ok-added.ensures.kept in
    record {
      more = keeps.more;
      kept = kept (texts_in c.args.self.now.numbers) c.args.self.now.tables c.put.new.self keeps;
    }
