use Rattle.std.proofs.Common.{◌≡◌, ◌<◌, length, Some, ap, sym, ◌∙◌, arith}
use Rattle.std.proofs.lemmas.List.{length-map}
use Rattle.std.proofs.lemmas.Option.{slice_get-map, slice_get-get_or}
use Rattle.std.specs.Option.{option_map}
use Rattle.pc_types.specs.Shape.{parts}
use Rattle.pc_types.specs.Boxed.{tree_of}
use Rattle.pc_types.proofs.Nodes.{tuple_parts}
use Rattle.pc_types.proofs.shape.part.Goals as goal

pub index-requires : goal.index-requires
index-requires c =
    let n : length (parts (tree_of c.args.t.now)) ≡ length c.in-Tuple.parts.items =
    ap length (tuple_parts _ _ c.in-Tuple.is) ∙ length-map c.in-Tuple.parts.items tree_of in
    omega (arith, n, c.in-Tuple.parts.ok.0)

pub returns-in-Tuple : goal.returns-in-Tuple
returns-in-Tuple c =
    let n : length (parts (tree_of c.args.t.now)) ≡ length c.in-Tuple.parts.items =
    ap length (tuple_parts _ _ c.in-Tuple.is) ∙ length-map c.in-Tuple.parts.items tree_of in
    let l : c.args.number < length c.in-Tuple.parts.items = omega (arith, n) in
    rw (tuple_parts _ _ c.in-Tuple.is)
    (slice_get-map tree_of c.in-Tuple.parts.items c.args.number
    ∙ ap (option_map tree_of) (slice_get-get_or c.in-Tuple.parts.items c.args.number c.index.result.now l)
    ∙ ap (λ x. Some (tree_of x)) (sym c.index.ensures))
