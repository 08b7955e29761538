use Rattle.std.proofs.Common.{◌≡◌, ◌∙◌, List, length, map, ap, sym, subst, rules}
use Rattle.pc_tree.specs.declared.tree.Member.{Member as RustMember}
use Rattle.pc_tree.specs.Tree.{class_of, member_of}
use Rattle.pc_types.specs.Below.{Bases, base_of}
use Rattle.pc_annotations.specs.Bases.{bases_of}
use Rattle.pc_annotations.specs.ModuleOutlines.{module_in}
use Rattle.pc_class.specs.Facts.{base_facts, classes_of}
use Rattle.pc_rules.specs.Computed.Signatures.{no_name}
use Rattle.pc_callables.specs.MembersHeld.{AreHeld}
use Rattle.pc_callables.proofs.MembersHeld.{members_held}
use Rattle.pc_signatures.proofs.constants.add_class.Goals as goal

pub read_members-requires-clause-table : goal.read_members-requires-clause-table
read_members-requires-clause-table g c =
    let m = module_in c.args.globals.now.outline.now in
    let class = class_of c.args.class.now in
    let n = length c.args.read.now.methods.items in
    let number : c.len-number.result ≡ n = search rules in
    let base = c.base-base.result in
    let based : base ≡ base_of (bases_of m) n = c.base-base.ensures.value
    ∙ ap (λ (bs : Bases). base_of bs c.len-number.result) c.requires.globals.outline.parents
    ∙ ap (base_of (bases_of m)) number in
    subst (λ k. AreHeld m k (base_facts (classes_of m) base) no_name (map member_of c.deref.result.now)) (sym number)
    (subst (λ (ms : List RustMember). AreHeld m n (base_facts (classes_of m) base) no_name (map member_of ms))
    (sym c.deref.ensures.value) (members_held m n class base c.requires.class based))
