use Rattle.std.proofs.Common.{◌∙◌, ◌≡◌, List, ℕ, ap, subst, sym}
use Rattle.std.specs.Option.{option_map}
use Rattle.std.specs.Prelude.{IfOk, Option}
use Rattle.pc_annotations.specs.Text.{class_text}
use Rattle.pc_detail_texts.specs.Details as detail
use Rattle.pc_detail_texts.specs.Mapped.{short_elsewhere}
use Rattle.pc_detail_texts.specs.Shown.{elsewhere_of_value}
use Rattle.pc_detail_facts.specs.Held.{module_held}
use Rattle.pc_detail_rules.specs.Names.{elsewhere}
use Rattle.pc_name_details.proofs.uses.elsewhere.Goals as goal

pub returns-in_ok-class_words-in-Some : goal.returns-in_ok-class_words-in-Some
returns-in_ok-class_words-in-Some c =
    let m = module_held c.args.facts.now in
    ap (λ (t : List ℕ). detail.in_class t) c.in_ok-class_words-in-Some.ensures
    ∙ ap (λ (o : Option (List ℕ)). short_elsewhere (elsewhere m c.args.word.now o))
    (sym (ap (option_map (class_text m)) c.in-Some.is) ∙ c.class_around.ensures)

pub returns-in-None : goal.returns-in-None
returns-in-None c =
    let m = module_held c.args.facts.now in
    subst (λ (o : Option (List ℕ)). IfOk c.bound_elsewhere.result
    (λ e. elsewhere_of_value e ≡ short_elsewhere (elsewhere m c.args.word.now o)))
    (sym (ap (option_map (class_text m)) c.in-None.is) ∙ c.class_around.ensures) c.bound_elsewhere.ensures
