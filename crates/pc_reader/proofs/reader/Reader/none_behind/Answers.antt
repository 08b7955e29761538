use Rattle.std.specs.declared.convert.AsStr.{Ghosts as TextOf}
use Rattle.std.specs.declared.iter.Iterator.{Ghosts as TokensOf}
use Rattle.std.proofs.Common.{◌≡◌, [], ◌∷◌, ◌++◌, Result}
use Rattle.pc_source.specs.declared.fault.Fault.{Fault}
use Rattle.pc_token.specs.declared.token.Token.{Token}
use Rattle.pc_grammar.specs.Machine.States.{Part, identified}
use Rattle.pc_grammar.specs.Machine.Expressions.{bare_part}
use Rattle.pc_reader.specs.declared.reader.Reader.{Reader}
use Rattle.pc_reader.specs.declared.operand.Operand.{Operand}
use Rattle.pc_reader.specs.declared.none_tests.NoneTest.{NoneTest}
use Rattle.pc_reader.specs.Internal.Expressions.{GivesOn}
use Rattle.pc_reader.specs.Internal.NoneTests.{GivesNone}
use Rattle.pc_reader.specs.Internal.Operands.{KeepsPart, Builds, none_tree}
use Rattle.pc_reader.proofs.Building.{first_more, starts_more, ends_more}
use Rattle.pc_reader.proofs.Streams.{blame}
use Rattle.pc_reader.proofs.Steps.{on_result}
use Rattle.pc_reader.proofs.reader.Reader.none_behind.Goals as goal

tested : {X I : Type 0} (texts : TextOf X) (source : TokensOf I (Result (Token X) Fault)) {a b : Reader X I}
    {n : NoneTest} {o made : Operand} → GivesNone texts source a b n → made.level ≡ 3
    → ((p : Part) → KeepsPart o p → Builds made (none_tree n.negated p.tree) o.start n.end)
    → GivesOn texts source (λ t p s. identified p (t ∷ []) s) 3 a b o made
tested texts source {n = n} v lv m = record {
  level_is = lv;
  ready = v.ready;
  later = v.later;
  goes = λ d p kp. record {
    part = bare_part (none_tree n.negated p.tree) (p.tokens ++ (d ∷ v.more));
    keeps = m p kp _ (starts_more _ kp.starts) (ends_more p.tokens (ends_more (d ∷ []) v.ends));
    begins = first_more _ kp.starts;
    leads = λ s. v.leads d p s;
  };
}

pub returns-in-Err : goal.returns-in-Err
returns-in-Err g c = blame (λ o w. λ d q s kq. w d q s) c.in-Err.ensures

pub returns : goal.returns
returns g c = on_result c.none_test.result _ _ _
    (λ o h. tested g.X.AsStr g.I.Iterator c.in-Ok.ensures h.0 h.1) c.none_test.ensures
