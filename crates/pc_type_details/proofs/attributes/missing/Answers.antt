use Rattle.std.proofs.Common.{◌≡◌, ◌∙◌, List, ap, map}
use Rattle.std.specs.Prelude.{filter}
use Rattle.pc_tree.specs.declared.code.Code.TheVariants.{E15}
use Rattle.pc_tree.specs.Depth.{place_of}
use Rattle.pc_tree.specs.Tree.{expr_of}
use Rattle.pc_types.specs.Shape.{members}
use Rattle.pc_types.specs.Tree.{Tree}
use Rattle.pc_detail_texts.specs.Mapped.{short_hint}
use Rattle.pc_detail_facts.specs.Held.{known_held, module_held, text_held, trees_lent}
use Rattle.pc_detail_rules.specs.Operations.{hint_of, lacking}
use Rattle.pc_type_details.specs.Unsupported.{found_for, lacks_name}
use Rattle.pc_type_details.proofs.Unsupported.{lacking_name_exact, same_attribute}
use Rattle.pc_type_details.proofs.attributes.missing.Goals as goal

pub returns : goal.returns
returns c =
    let f = c.args.facts.now in
    let m = module_held f in
    let word = c.args.name.now in
    let ty = (known_held f).types (place_of (expr_of c.args.object.now)) in
    let none = lacking (found_for m c.args.used word) E15 ty in
    let trees : trees_lent c.in_ok-lacking.lacking.items ≡ none =
    c.in_ok-lacking.ensures.trees
    ∙ ap (λ (t : Tree). filter (lacks_name m c.args.used word) (members t)) c.type_of-ty.ensures.tree
    ∙ lacking_name_exact m c.args.used word ty in
    let first : trees_lent c.deref.result.now ≡ none = ap trees_lent c.deref.ensures.value ∙ trees in
    let again : trees_lent c.deref-2.result.now ≡ none = ap trees_lent c.deref-2.ensures.value ∙ trees in
    same_attribute _ _ _ _ _ _ _ _ (c.in_ok-of.ensures.object ∙ ap (text_held f) c.type_of-ty.ensures.tree)
    (c.in_ok-of.ensures.lacking ∙ ap (λ (ts : List Tree). map (text_held f) ts) first) c.in_ok-name.ensures
    (c.in_ok-hint.ensures ∙ ap (λ (ts : List Tree). short_hint (hint_of m word ts)) again)
