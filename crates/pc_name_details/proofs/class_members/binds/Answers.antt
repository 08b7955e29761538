use Rattle.std.proofs.Common.{◌∙◌, ◌&&◌, Bool, not, Option, ℕ, ap, refl, sym}
use Rattle.pc_tree.specs.Tree.{class_of, member_of}
use Rattle.pc_class.specs.Entries.{inherited_by}
use Rattle.pc_class.specs.Facts.{base_facts, classes_of}
use Rattle.pc_class.specs.Findings.{base_class}
use Rattle.pc_class.proofs.ClassesBuilt.{base_next}
use Rattle.pc_detail_facts.specs.Held.{module_held}
use Rattle.pc_name_details.specs.Naming.{is_taken_by}
use Rattle.pc_name_details.proofs.BoundMembers.{binds_first, none_taken}
use Rattle.pc_name_details.proofs.class_members.binds.Goals as goal

pub returns-then-has_reserved_name : goal.returns-then-has_reserved_name
returns-then-has_reserved_name c =
    let m = module_held c.args.facts.now in
    let h = inherited_by (base_class m c.args.number (class_of c.args.class.now)) in
    let x = member_of c.args.member.now in
    sym (binds_first h x ∙ ap (λ (r : Bool). not r && not (is_taken_by h x))
    (sym c.has_reserved_name.ensures ∙ c.if-has_reserved_name.true))

pub returns-in-Some : goal.returns-in-Some
returns-in-Some c =
    let m = module_held c.args.facts.now in
    let class = class_of c.args.class.now in
    let h = inherited_by (base_class m c.args.number class) in
    let x = member_of c.args.member.now in
    ap not (c.is_taken.ensures ∙ ap (λ (b : Option ℕ). is_taken_by (inherited_by (base_facts (classes_of m) b)) x)
    (sym c.in-Some.is ∙ base_next m c.args.number class c.requires.numbered c.args.facts.now.outline.now.parents.now
    c.requires.facts.outline.parents c.args.number refl c.base.result c.base.ensures.value))
    ∙ sym (binds_first h x ∙ ap (λ (r : Bool). not r && not (is_taken_by h x))
    (sym c.has_reserved_name.ensures ∙ c.if-has_reserved_name.false))

pub returns-in-None : goal.returns-in-None
returns-in-None c =
    let m = module_held c.args.facts.now in
    let class = class_of c.args.class.now in
    let h = inherited_by (base_class m c.args.number class) in
    let x = member_of c.args.member.now in
    ap not (sym (none_taken x) ∙ ap (λ (b : Option ℕ). is_taken_by (inherited_by (base_facts (classes_of m) b)) x)
    (sym c.in-None.is ∙ base_next m c.args.number class c.requires.numbered c.args.facts.now.outline.now.parents.now
    c.requires.facts.outline.parents c.args.number refl c.base.result c.base.ensures.value))
    ∙ sym (binds_first h x ∙ ap (λ (r : Bool). not r && not (is_taken_by h x))
    (sym c.has_reserved_name.ensures ∙ c.if-has_reserved_name.false))
