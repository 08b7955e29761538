use Rattle.std.proofs.Common.{◌∙◌, ◌++◌, List, ap, map}
use Rattle.pc_types.specs.Boxed.{tree_of}
use Rattle.pc_detail_facts.specs.Callees.{called_of}
use Rattle.pc_detail_rules.specs.Calls.{Called}
use Rattle.pc_detail_facts.specs.Held.{module_held}
use Rattle.pc_detail_facts.proofs.CalledParameters.{append_called, pop_called, get_called}
use Rattle.pc_detail_facts.proofs.callees.add_called_on.Goals as goal

pub returns-in_ok-add_one-in-append-clause-called : goal.returns-in_ok-add_one-in-append-clause-called
returns-in_ok-add_one-in-append-clause-called c =
    let f = c.args.facts.now in
    let t = tree_of c.args.member.now in
    c.in_ok-add_one-in-append.ensures.called f
    ∙ ap (λ (l : List Called). map (called_of f) c.args.called.now.items ++ l) (append_called (module_held f) t
    (tree_of c.as_ref.result.now) c.args.name.now (tree_of c.in-List.item.value) (ap tree_of c.in-List.is)
    (ap tree_of c.as_ref.ensures) c.in-append.is)

pub returns-in_ok-add_one-in-pop-clause-called : goal.returns-in_ok-add_one-in-pop-clause-called
returns-in_ok-add_one-in-pop-clause-called c =
    let f = c.args.facts.now in
    let t = tree_of c.args.member.now in
    c.in_ok-add_one-in-pop.ensures.called f
    ∙ ap (λ (l : List Called). map (called_of f) c.args.called.now.items ++ l) (pop_called (module_held f) t
    c.args.name.now (tree_of c.in-List.item.value) (ap tree_of c.in-List.is) c.in-pop.is)

pub returns-in_ok-add_one-in-get-clause-called : goal.returns-in_ok-add_one-in-get-clause-called
returns-in_ok-add_one-in-get-clause-called c =
    let f = c.args.facts.now in
    let t = tree_of c.args.member.now in
    c.in_ok-add_one-in-get.ensures.called f
    ∙ ap (λ (l : List Called). map (called_of f) c.args.called.now.items ++ l) (get_called (module_held f) t
    (tree_of c.as_ref-in-get.result.now) c.args.name.now (tree_of c.in-Dict.key.value) _ (ap tree_of c.in-Dict.is)
    (ap tree_of c.as_ref-in-get.ensures) c.in-get.is)
