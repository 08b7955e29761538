use Rattle.std.proofs.Common.{ap}
use Rattle.pc_tree.specs.Tree.{class_of, member_of}
use Rattle.pc_tree.specs.declared.tree.Member.{Member as RustMember}
use Rattle.pc_flow_details.specs.Kept.{flows_kept}
use Rattle.pc_detail_rules.specs.Sinks.{default_of_field}
use Rattle.pc_flow_details.proofs.Arguments.{nothing_into}
use Rattle.pc_flow_details.proofs.sinks.add_member.Goals as goal

pub returns-in-Method : goal.returns-in-Method
returns-in-Method c =
    let name = (class_of c.args.class.now).name.text in
    nothing_into c.args.facts.now (flows_kept c.args.sinks.now) (default_of_field name (member_of c.args.member.now))
    (ap (λ (x : RustMember). default_of_field name (member_of x)) c.in-Method.is)
