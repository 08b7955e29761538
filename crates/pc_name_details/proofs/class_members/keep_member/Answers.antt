use Rattle.std.proofs.Common.{◌∙◌, ap}
use Rattle.pc_detail_texts.specs.Shortened.{shortened}
use Rattle.pc_tree.specs.declared.code.Code.TheVariants.{E06}
use Rattle.pc_tree.specs.Code.{finding}
use Rattle.pc_tree.specs.Tree.{Name}
use Rattle.pc_name_details.specs.Naming.{owned_member}
use Rattle.pc_name_details.proofs.MemberDetails.{kept_as, member_shown}
use Rattle.pc_detail_facts.proofs.Results.{on_ok}
use Rattle.pc_name_details.proofs.class_members.keep_member.Goals as goal

pub returns : goal.returns
returns c = on_ok c.keep.result (kept_as _ _ _ _ c.args.offers.now c.keep.new.self
    (ap (λ (n : Name). finding n.place E06) c.name.ensures)
    (member_shown (owned_member c.args.other) _ _ _
    (c.in_ok-words-2.ensures ∙ ap shortened (c.as_str-2.ensures.value ∙ ap (λ (n : Name). n.text) c.name-name.ensures))
    (c.in_ok-words.ensures ∙ ap shortened c.as_str.ensures.value) (ap (λ (n : Name). n.place) c.name-name.ensures))) c.keep.ensures
