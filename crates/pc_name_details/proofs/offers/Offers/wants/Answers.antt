use Rattle.std.proofs.Common.{◌∙◌, Bool, ap, ap₂, sym}
use Rattle.std.specs.Prelude.{◌&&◌, is_some, not}
use Rattle.std.specs.BTreeMap.{get}
use Rattle.pc_tree.specs.Code.{finding}
use Rattle.pc_name_details.specs.Offered.{finding_cmp}
use Rattle.pc_name_details.proofs.FindingsKept.{open_is}
use Rattle.pc_name_details.proofs.offers.Offers.wants.Goals as goal

pub returns-then-contains_key : goal.returns-then-contains_key
returns-then-contains_key c =
    ap₂ (λ (a b : Bool). a && not b) (sym c.if-contains_key.true ∙ c.contains_key.ensures)
    c.contains_key-then-contains_key.ensures ∙ open_is c.args.self.now (finding c.args.place c.args.code)

pub returns-else-contains_key : goal.returns-else-contains_key
returns-else-contains_key c =
    let f = finding c.args.place c.args.code in
    c.if-contains_key.false ∙ ap (λ (a : Bool). a && not (is_some (get finding_cmp c.args.self.now.kept f)))
    (sym c.if-contains_key.false ∙ c.contains_key.ensures) ∙ open_is c.args.self.now f
