use Rattle.std.proofs.Common.{◌∙◌, ◌++◌, ◌∷◌, [], List, ap, sym, subst}
use Rattle.pc_shared_maps.specs.declared.shared.MapNode.{MapNode}
use Rattle.pc_shared_maps.specs.SharedMaps.{held_at, empty_node, HasBelow}
use Rattle.pc_shared_maps.proofs.SharedParts.{nothing_held, none_below}
use Rattle.pc_shared_maps.proofs.shared.SharedMaps.new.Goals as goal

pub returns-clause-empty : goal.returns-clause-empty
returns-clause-empty c key = ap (λ (l : List MapNode). held_at l 0 key) (c.in_ok-push.ensures.items
    ∙ ap (λ (l : List MapNode). l ++ empty_node ∷ []) c.new-nodes.ensures.items) ∙ nothing_held key

pub returns-clause-below : goal.returns-clause-below
returns-clause-below c = subst (HasBelow 0) (sym (c.in_ok-push.ensures.items
    ∙ ap (λ (l : List MapNode). l ++ empty_node ∷ []) c.new-nodes.ensures.items)) none_below
