use Rattle.std.proofs.Common.{◌∙◌, ap, sym}
use Rattle.std.specs.Option.{option_map}
use Rattle.pc_types.specs.Boxed.{tree_of}
use Rattle.pc_class.specs.Tables.{method_with}
use Rattle.pc_detail_texts.specs.Mapped.{map_detail}
use Rattle.pc_detail_facts.specs.Held.{module_held, text_held}
use Rattle.pc_detail_facts.proofs.Results.{if_ok}
use Rattle.pc_details.proofs.OverrideChain.{over_one, over_other}
use Rattle.pc_details.proofs.overriding.against_named.Goals as goal

pub returns-then-not-has_word : goal.returns-then-not-has_word
returns-then-not-has_word c = ap (option_map (map_detail (text_held c.args.facts.now)))
    (over_other (module_held c.args.facts.now) c.args.code (method_with tree_of c.args.here.now)
    (method_with tree_of c.args.above.now) (sym c.has_word.ensures ∙ c.if-not-has_word.true))

pub returns : goal.returns
returns c = if_ok c.against.result (λ d e. e ∙ ap (option_map (map_detail (text_held c.args.facts.now)))
    (sym (over_one (module_held c.args.facts.now) c.args.code (method_with tree_of c.args.here.now)
    (method_with tree_of c.args.above.now) (sym c.has_word.ensures ∙ c.if-not-has_word.false)))) c.against.ensures
