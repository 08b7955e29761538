use Rattle.std.proofs.Common.{◌∙◌, Some, ap}
use Rattle.std.specs.Option.{option_map}
use Rattle.std.specs.Prelude.{bytes_eq, codes, ◌&&◌}
use Rattle.pc_tree.specs.Tree.{name_of}
use Rattle.pc_detail_texts.specs.Details.{Earlier}
use Rattle.pc_detail_rules.specs.Names.{first_named, place_of_name}
use Rattle.pc_name_details.specs.Naming.{earlier_held, has_self}
use Rattle.pc_name_details.proofs.NamingSteps.{earlier_found, earlier_none}
use Rattle.pc_name_details.proofs.repeated.earlier.Goals as goal

pub returns-in-Some : goal.returns-in-Some
returns-in-Some c = λ before h.
    let n = name_of c.args.name.now in
    ap (λ (e : Earlier). Some e) c.earlier.ensures
    ∙ earlier_found (has_self c.args.together && bytes_eq n.text (codes "self")) (earlier_held c.args.together)
    (first_named n.text before) c.in-Some.place (c.in-Some.ensures ∙ h.at c.as_str.result.now
    ∙ ap (λ w. option_map place_of_name (first_named w before)) c.as_str.ensures.value)

pub returns-in-None : goal.returns-in-None
returns-in-None c = λ before h.
    let n = name_of c.args.name.now in
    c.earlier_self.ensures
    ∙ earlier_none (has_self c.args.together && bytes_eq n.text (codes "self")) (earlier_held c.args.together)
    (first_named n.text before) (c.in-None.ensures ∙ h.at c.as_str.result.now
    ∙ ap (λ w. option_map place_of_name (first_named w before)) c.as_str.ensures.value)
