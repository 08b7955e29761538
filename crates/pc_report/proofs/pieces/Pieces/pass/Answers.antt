use Rattle.std.proofs.Common.{◌≡◌, List, [], ◌++◌, ℕ, rules, sym, false}
use Rattle.std.specs.Prelude.{is_err}
use Rattle.pc_report.proofs.Underway.{passed, way_is}
use Rattle.pc_report.proofs.pieces.Pieces.pass.Goals as goal

pub returns : goal.returns
returns g c = λ put start way.
    let contents = g.W.Write.contents in
    let held : List ℕ = c.args.self.now.held.items in
    let whole : c.args.self.now.failed ≡ false = search rules in
    let told : is_err c.write_whole.result ≡ c.is_err-self.result = search rules in
    let none : held ≡ [] = search rules in
    let bytes : List ℕ = c.args.bytes.now in
    way_is contents (is_err c.write_whole.result) c.is_err-self.result [] held (put ++ bytes) (put ++ bytes) start
    c.write_whole.new.device told (sym none) (λ i. put ++ bytes)
    (passed contents c.write_whole.result put bytes start c.args.device.now c.write_whole.new.device
    (way_is contents c.args.self.now.failed false held [] put put start c.args.device.now whole none (λ i. put) way)
    c.write_whole.ensures)
