use Rattle.std.proofs.Common.{◌≡◌, ◌∙◌, ◌<◌, Some, sym, ap, refl, arith, length, map}
use Rattle.std.specs.List.{slice_get}
use Rattle.std.proofs.lemmas.List.{length-map}
use Rattle.std.proofs.lemmas.Option.{slice_get_read}
use Rattle.pc_types.specs.declared.boxed.BoxType.{BoxType}
use Rattle.pc_intern.specs.declared.table.TypeNode.{TypeNode}
use Rattle.pc_intern.proofs.Places.{pair_at}
use Rattle.pc_intern.proofs.table.Table.head.Goals as goal

pub returns : goal.returns
returns c = λ b e.
    let es = c.self.inside.entries.entries in
    let node = c.index-as_slice-number in
    let keys = c.as_slice.ensures ∙ c.keys.ensures.rest in
    let all : length c.args.self.now ≡ length es = ap length (sym c.self.view_is)
    ∙ length-map es (λ (e : TypeNode × BoxType). e.1) in
    let as_many : length c.as_slice.result.now ≡ length es = ap length keys
    ∙ length-map es (λ (e : TypeNode × BoxType). e.0) in
    let within : c.args.number < length c.as_slice.result.now = omega (arith, all, as_many, c.requires) in
    let key : slice_get (map (λ (e : TypeNode × BoxType). e.0) es) c.args.number ≡ Some node.result =
    ap (λ ks. slice_get ks c.args.number) (sym keys)
    ∙ slice_get_read c.as_slice.result.now (length c.as_slice.result.now) c.args.number node.result refl within
    node.is in
    let entry = pair_at es c.args.number node.result b key (rw c.self.view_is e) in
    let t = c.self.invariant.0.told c.args.number (node.result, b) entry in
    ap (λ (n : TypeNode). n.head) (sym node.is) ∙ t.head
