use Rattle.std.proofs.Common.{◌∙◌, List, ap, arith, sym}
use Rattle.std.proofs.lemmas.List.{map-append}
use Rattle.std.specs.Borrow.{Bor}
use Rattle.std.specs.List.{list_any}
use Rattle.pc_types.specs.Boxed.{tree_of}
use Rattle.pc_types.specs.Join.{same_tree}
use Rattle.pc_types.specs.Tree.{Tree}
use Rattle.pc_types.specs.declared.boxed.BoxType.{BoxType}
use Rattle.pc_detail_facts.specs.Held.{tree_lent, trees_lent}
use Rattle.pc_type_details.specs.Keys.{first_keys}
use Rattle.pc_type_details.proofs.Keys.{enough_keys, new_key, seen_key, same_length}
use Rattle.pc_type_details.proofs.statements.add_key_type.Goals as goal

pub returns-then-len-ge-KEYS-clause-trees : goal.returns-then-len-ge-KEYS-clause-trees
returns-then-len-ge-KEYS-clause-trees c = λ rest.
    let ts = c.args.types.now.items in
    let e = same_length ts in
    enough_keys (trees_lent ts) rest (tree_of c.args.ty.now) (omega (arith, e)) (omega (arith, e))

pub returns-then-is_among-clause-trees : goal.returns-then-is_among-clause-trees
returns-then-is_among-clause-trees c = λ rest. seen_key (trees_lent c.args.types.now.items) rest (tree_of c.args.ty.now)
    (sym (ap (λ (l : List (Bor BoxType)). list_any (same_tree (tree_of c.args.ty.now)) (trees_lent l)) c.deref.ensures.value)
    ∙ sym c.is_among.ensures ∙ c.if-is_among.true)

pub returns-clause-trees : goal.returns-clause-trees
returns-clause-trees c = λ rest.
    let ts = c.args.types.now.items in
    let e = same_length ts in
    ap (λ (l : List (Bor BoxType)). first_keys (trees_lent l) rest) c.in_ok-push.ensures.items
    ∙ ap (λ (l : List Tree). first_keys l rest) (map-append tree_lent ts _)
    ∙ new_key (trees_lent ts) rest (tree_of c.args.ty.now) (omega (arith, e))
    (sym (ap (λ (l : List (Bor BoxType)). list_any (same_tree (tree_of c.args.ty.now)) (trees_lent l)) c.deref.ensures.value)
    ∙ sym c.is_among.ensures ∙ c.if-is_among.false)
