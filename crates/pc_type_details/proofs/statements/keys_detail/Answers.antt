use Rattle.std.proofs.Common.{◌≡◌, ◌∙◌, [], List, Option, Some, ap, map, sym, take}
use Rattle.std.specs.Borrow.{Bor}
use Rattle.std.specs.Option.{option_map}
use Rattle.pc_tree.specs.declared.tree.Entry.{Entry as RustEntry}
use Rattle.pc_tree.specs.Lists.{entries_of_list}
use Rattle.pc_tree.specs.Tree.{Expr}
use Rattle.pc_tree.proofs.Trees.{dict_tree}
use Rattle.pc_types.specs.declared.boxed.BoxType.{BoxType}
use Rattle.pc_detail_texts.specs.Details as detail
use Rattle.pc_detail_texts.specs.Details.{Detail}
use Rattle.pc_detail_texts.specs.Mapped.{map_detail}
use Rattle.pc_detail_texts.specs.Sentences.{Words}
use Rattle.pc_detail_texts.specs.Shown.{all_words}
use Rattle.pc_detail_facts.specs.Held.{known_held, module_held, text_held, trees_lent}
use Rattle.pc_type_details.specs.Keys.{first_keys}
use Rattle.pc_detail_rules.specs.Operations.{different, key_types_here, keys_detail}
use Rattle.pc_type_details.proofs.statements.keys_detail.Goals as goal

pub returns : goal.returns
returns c =
    let facts = c.args.facts.now in
    let m = module_held facts in
    let k = known_held facts in
    let made : List Words → Option (Detail Words) = λ ts. Some (detail.keys ts) in
    let texts : all_words c.in_ok-texts.texts.items
    ≡ map (text_held facts) (take 3 (different [] (key_types_here m k (entries_of_list c.in-Dict.entries.items)))) =
    c.in_ok-texts.ensures ∙ ap (λ (l : List (Bor BoxType)). map (text_held facts) (trees_lent l)) c.deref-2.ensures.value
    ∙ ap (map (text_held facts)) (c.in_ok-types.ensures.trees
    ∙ ap (λ (es : List RustEntry). first_keys [] (key_types_here m k (entries_of_list es))) c.deref.ensures.value) in
    rw c.in-Dict.is (ap made texts ∙ sym (ap (λ (x : Expr). option_map (map_detail (text_held facts)) (keys_detail m k x))
    (dict_tree c.in-Dict.field-0 c.in-Dict.entries)))
