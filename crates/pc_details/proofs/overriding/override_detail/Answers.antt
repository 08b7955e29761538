use Rattle.std.proofs.Common.{◌∙◌, ℕ, Option, ap, ap₂, sym}
use Rattle.std.specs.Option.{option_map}
use Rattle.pc_tree.specs.Tree.{func_of}
use Rattle.pc_types.specs.Below.{Bases, base_of}
use Rattle.pc_class.specs.Facts.{Method, base_facts, classes_of}
use Rattle.pc_detail_texts.specs.Mapped.{map_detail}
use Rattle.pc_detail_facts.specs.Held.{module_held, text_held}
use Rattle.pc_detail_rules.specs.Overrides.{override_by}
use Rattle.pc_details.specs.OverridesHeld.{first_over}
use Rattle.pc_detail_facts.proofs.Results.{if_ok}
use Rattle.pc_details.proofs.OverrideChain.{override_is}
use Rattle.pc_details.proofs.overriding.override_detail.Goals as goal

pub returns-in_ok-here-in-Method : goal.returns-in_ok-here-in-Method
returns-in_ok-here-in-Method c =
    let facts = c.args.facts.now in
    let m = module_held facts in
    let def = func_of c.args.body.function.now in
    if_ok c.against_each.result (λ d e. e ∙ ap (option_map (map_detail (text_held facts)))
    (ap₂ (λ (x : Method) (b : Option ℕ). first_over m c.args.code x (base_facts (classes_of m) b).methods)
    c.in_ok-here-in-Method.ensures.means (c.base.ensures.value ∙ ap (λ (bs : Bases). base_of bs c.in-Method.class)
    c.requires.outline.parents) ∙ override_is m c.args.code c.in-Method.class c.in-Method.number def
    ∙ ap (override_by m c.args.code def) (sym c.in-Method.is)))
    c.against_each.ensures
