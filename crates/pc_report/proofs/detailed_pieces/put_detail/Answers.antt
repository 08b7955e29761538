use Rattle.std.proofs.Common.{◌≡◌, List, ℕ, Some, rules, subst}
use Rattle.std.specs.Prelude.{option_map}
use Rattle.std.specs.Borrow.{Bor}
use Rattle.json.specs.Print.{quoted}
use Rattle.pc_report.specs.declared.detailed_pieces.ShownDetail.{ShownDetail}
use Rattle.pc_report.specs.Detailed.{DetailContent, detail_content, detail_json, places_json}
use Rattle.pc_report.specs.Pieces.{Puts}
use Rattle.pc_report.proofs.Underway.{puts_then}
use Rattle.pc_report.proofs.detailed_pieces.put_detail.Goals as goal

pub returns-in-Some : goal.returns-in-Some
returns-in-Some g c =
    let contents = g.W.Write.contents in
    let detail : DetailContent = detail_content c.in-Some.detail.now in
    let text : Puts contents (quoted detail.sentence) c.put_str-in-Some.new.device c.put_quoted.new.device
    c.put_str-in-Some.new.self c.put_quoted.new.self = subst (λ (l : List ℕ). Puts contents (quoted l) c.put_str-in-Some.new.device
    c.put_quoted.new.device c.put_str-in-Some.new.self c.put_quoted.new.self) c.as_str.ensures.value c.put_quoted.ensures in
    let places : Puts contents (places_json detail.places) c.put_str.new.device c.put_places.new.device
    c.put_str.new.self c.put_places.new.pieces = subst (λ (l : List (ℕ × ℕ)). Puts contents (places_json l)
    c.put_str.new.device c.put_places.new.device c.put_str.new.self c.put_places.new.pieces) c.deref.ensures.value
    c.put_places.ensures in
    let told : detail_json (Some detail)
    ≡ detail_json (option_map (λ (d : Bor ShownDetail). detail_content d.now) c.args.detail) = search rules in
    subst (λ (l : List ℕ). Puts contents l c.args.device.now c.put_str-in-Some-2.new.device c.args.pieces.now
    c.put_str-in-Some-2.new.self) told (puts_then contents _ _ _ _ _ _ _ _ c.put_str.ensures
    (puts_then contents _ _ _ _ _ _ _ _ places
    (puts_then contents _ _ _ _ _ _ _ _ c.put_str-in-Some.ensures
    (puts_then contents _ _ _ _ _ _ _ _ text c.put_str-in-Some-2.ensures))))
