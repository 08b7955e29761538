use Rattle.std.proofs.Common.{◌≡◌, List, [], ℕ, rules, sym, ap, ◌∙◌, subst, append-nil, false}
use Rattle.std.specs.Prelude.{is_err}
use Rattle.pc_report.specs.Writing.{IsWritten}
use Rattle.pc_report.proofs.Underway.{let_out, way_is}
use Rattle.pc_report.proofs.pieces.Pieces.let_out.Goals as goal

pub returns-clause-puts : goal.returns-clause-puts
returns-clause-puts g c = λ put start way.
    let contents = g.W.Write.contents in
    let held : List ℕ = c.args.self.now.held.items in
    let whole : c.args.self.now.failed ≡ false = search rules in
    let told : is_err c.write_whole.result ≡ c.is_err-self.result = search rules in
    let none : c.clear.new.self.items ≡ [] = c.clear.ensures in
    let written : IsWritten contents held c.args.device.now c.write_whole.new.device c.write_whole.result =
    subst (λ (l : List ℕ). IsWritten contents l c.args.device.now c.write_whole.new.device c.write_whole.result)
    c.as_slice.ensures.value c.write_whole.ensures in
    way_is contents (is_err c.write_whole.result) c.is_err-self.result [] c.clear.new.self.items put _ start
    c.write_whole.new.device told (sym none) (sym (append-nil put))
    (let_out contents c.write_whole.result held put start c.args.device.now c.write_whole.new.device
    (way_is contents c.args.self.now.failed false held held put put start c.args.device.now whole (λ i. held)
    (λ i. put) way) written)
