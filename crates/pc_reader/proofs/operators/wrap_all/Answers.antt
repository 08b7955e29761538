use Rattle.std.proofs.Common.{◌≡◌, [], ◌∷◌, ◌++◌, refl, ap, sym, ◌∙◌, subst, rules}
use Rattle.pc_reader.specs.Internal.Operands.{prefix_of, applied_all, KeepsPart}
use Rattle.pc_reader.specs.Internal.Expressions.{wrapped_level}
use Rattle.pc_reader.proofs.Building.{ends_more}
use Rattle.std.proofs.Common.{append_assoc}
use Rattle.pc_reader.proofs.Signs.{last_sign, no_signs}
use Rattle.pc_reader.proofs.operators.wrap_all.Goals as goal

pub loop-start-preserved : goal.loop-start-preserved
loop-start-preserved c = record {
  depth = c.in_ok-operand.ensures.2;
  wrapped = λ ts p e k. let v = c.loop-start.invariant.wrapped ts p e k in
      let l = last_sign v.front c.pop.new.self.items c.in-Some.start (v.starts ∙ c.in-Some.ensures.items) in record {
        front = l.front;
        back = l.last ∷ v.back;
        all = v.all ∙ ap (λ z. z ++ v.back) l.is ∙ append_assoc l.front (l.last ∷ []) v.back;
        starts = l.starts;
        keeps = c.in_ok-operand.ensures.1 (applied_all (prefix_of c.args.prefix) v.back p) v.keeps _
            (record {
              head = l.last;
              tail = (applied_all (prefix_of c.args.prefix) v.back p).tokens;
              is = refl;
              start =
                  l.start;
            }) (ends_more (l.last ∷ []) v.keeps.ends);
        level_is = c.in_ok-operand.ensures.0;
      };
}

pub returns : goal.returns
returns c = λ ts p e k. let v = c.loop-start.invariant.wrapped ts p e k in let n : c.loop-start.signs.items ≡ [] =
    search rules in
    let f = no_signs v.front (v.starts ∙ n) in let a : ts ≡ v.back = v.all ∙ ap (λ z. z ++ v.back) f in (
      subst (λ z. KeepsPart c.loop-start.operand (applied_all (prefix_of c.args.prefix) z p)) (sym a) v.keeps,
      v.level_is
          ∙ ap (λ z. wrapped_level (prefix_of c.args.prefix) z c.args.operand.level) (sym a),
    )
