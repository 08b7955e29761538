use Rattle.std.proofs.Common.{◌≡◌, List, [], ◌++◌, ℕ, rules, sym, ap, append-nil, subst}
use Rattle.pc_report.specs.Pieces.{IsOnItsWay}
use Rattle.pc_report.proofs.Underway.{held_more, way_is}
use Rattle.pc_report.proofs.pieces.Pieces.put.Goals as goal

pub returns-then-is_ok-2 : goal.returns-then-is_ok-2
returns-then-is_ok-2 g c = λ put start way.
    let contents = g.W.Write.contents in
    let held : List ℕ = c.args.self.now.held.items in
    let kept : List ℕ = c.try_extend_from_slice.new.self.items in
    let same : held ≡ kept = search rules in
    let more : c.try_extend_from_slice-2.new.self.items ≡ c.let_out.new.self.held.items ++ c.args.bytes.now =
    search rules in
    let failed = c.args.self.now.failed in
    let out = c.let_out.ensures.puts put start
    (way_is contents failed failed held kept put put start c.args.device.now (λ i. failed) same (λ i. put) way) in
    held_more contents c.let_out.new.self.failed c.let_out.new.self.held.items c.try_extend_from_slice-2.new.self.items
    c.args.bytes.now put start c.let_out.new.device more
    (way_is contents c.let_out.new.self.failed c.let_out.new.self.failed c.let_out.new.self.held.items
    c.let_out.new.self.held.items (put ++ []) put start c.let_out.new.device (λ i. c.let_out.new.self.failed)
    (λ i. c.let_out.new.self.held.items) (append-nil put) out)

pub returns : goal.returns
returns g c = λ put start way.
    let contents = g.W.Write.contents in
    let held : List ℕ = c.args.self.now.held.items in
    let kept : List ℕ = c.try_extend_from_slice.new.self.items in
    let same : held ≡ kept = search rules in
    let out_kept : List ℕ = c.try_extend_from_slice-2.new.self.items in
    let same_out : c.let_out.new.self.held.items ≡ out_kept = search rules in
    let failed = c.args.self.now.failed in
    let out = c.let_out.ensures.puts put start
    (way_is contents failed failed held kept put put start c.args.device.now (λ i. failed) same (λ i. put) way) in
    c.pass.ensures put start
    (way_is contents c.let_out.new.self.failed c.let_out.new.self.failed c.let_out.new.self.held.items
    out_kept (put ++ []) put start c.let_out.new.device (λ i. c.let_out.new.self.failed)
    same_out (append-nil put) out)
