use Rattle.std.proofs.Common.{[], refl, arith, sym, ◌∙◌}
use Rattle.std.proofs.lemmas.Result.{err_from_is_err_and}
use Rattle.pc_token.specs.declared.token.TokenKind.TheVariants as kind
use Rattle.pc_tree.specs.Tree.{member_of}
use Rattle.pc_tree.specs.Depth.{wholes_of_members}
use Rattle.pc_grammar.specs.Machine.Finishing.{after_class}
use Rattle.pc_reader.proofs.Steps.{kind_seen}
use Rattle.pc_reader.proofs.Streams.{blame}
use Rattle.pc_parse.proofs.Parameters.{kept_none}
use Rattle.pc_parse.proofs.Members.{no_members, passed_over, member_fails, more_members, dedent_fails, last_member}
use Rattle.pc_parse.proofs.parser.Parser.members.Goals as goal

pub returns-in_err-fixed : goal.returns-in_err-fixed
returns-in_err-fixed g c = let p = err_from_is_err_and c.from_residual.result c.from_residual.ensures.1 in
    rw (p.1, p.2) (blame (λ o u. λ k. passed_over g.X.AsStr.text g.I.Iterator.next_gives c.args.self.now.reader
    (sym c.sees.ensures ∙ c.if-sees.true) k o (u (after_class k []))) c.in_err-fixed.ensures)

pub returns-then-sees : goal.returns-then-sees
returns-then-sees g c = record {
  all = [];
  keeps = kept_none member_of wholes_of_members refl {v = c.new-members.result} c.args.self.now.deep
      c.new-members.ensures.items;
  ready = c.in_ok-fixed.ensures.ready;
  later = c.in_ok-fixed.ensures.later;
  leads = λ k o y. passed_over g.X.AsStr.text g.I.Iterator.next_gives c.args.self.now.reader
      (sym c.sees.ensures ∙ c.if-sees.true) k o (c.in_ok-fixed.ensures.leads (after_class k []) o y);
}

pub loop-members-init : goal.loop-members-init
loop-members-init g c = record {
  ready = c.requires;
  later = omega arith;
  members =
      no_members c.args.self.now c.new-members.ensures.items (sym c.sees.ensures ∙ c.if-sees.false);
}

pub returns-in_err-member : goal.returns-in_err-member
returns-in_err-member g c = let p = err_from_is_err_and c.from_residual-in_err-member.result
    c.from_residual-in_err-member.ensures.1 in
    rw (p.1, p.2) (member_fails c.loop-members.invariant.members c.in_err-member.ensures)

pub returns-in_err-take : goal.returns-in_err-take
returns-in_err-take g c = let p = err_from_is_err_and c.from_residual-in_err-take.result
    c.from_residual-in_err-take.ensures.1 in
    rw (p.1, p.2) (dedent_fails c.loop-members.invariant.members c.in_ok-member.ensures c.in_err-take.ensures)

pub returns-then-sees-2 : goal.returns-then-sees-2
returns-then-sees-2 g c = last_member c.loop-members.invariant.members c.in_ok-member.ensures
    c.in_ok-put_last.ensures.items c.in_ok-take.ensures (kind_seen kind.Dedent
    (sym c.sees-in-loop-members.ensures ∙ c.if-sees-2.true) c.in_ok-take.ensures.here) refl
    c.loop-members.invariant.later

pub loop-members-preserved : goal.loop-members-preserved
loop-members-preserved g c = record {
  ready = c.in_ok-member.ensures.ready;
  later =
      omega (arith, c.in_ok-member.ensures.later, c.loop-members.invariant.later);
  members =
      more_members c.loop-members.invariant.members c.in_ok-member.ensures c.in_ok-put_last.ensures.items
      (sym c.sees-in-loop-members.ensures ∙ c.if-sees-2.false);
}
