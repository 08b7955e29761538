use Rattle.std.proofs.Common.{[], ◌∷◌, ◌++◌, refl, ap, sym, ◌∙◌}
use Rattle.pc_tree.specs.Tree.{attribute, name_of}
use Rattle.pc_grammar.specs.Machine.{transition}
use Rattle.pc_grammar.specs.Machine.States.{have, dotted, go}
use Rattle.pc_grammar.specs.Machine.Expressions.{bare_part}
use Rattle.pc_grammar.specs.Grammar.{name_of_token}
use Rattle.pc_reader.specs.Reading.{lexeme}
use Rattle.pc_reader.proofs.Building.{starts_more, ends_more}
use Rattle.pc_reader.proofs.Streams.{blame}
use Rattle.pc_reader.proofs.Steps.{step_to, needs, on_result}
use Rattle.pc_reader.proofs.Building.{name_ends, first_more}
use Rattle.pc_reader.proofs.reader.Reader.member.Goals as goal

pub returns-in-Err : goal.returns-in-Err
returns-in-Err g c = blame (λ o w. λ d p s kp. w (dotted p (d ∷ []) s)
    (needs (λ t. have 7 (bare_part (λ q. attribute q p.tree (name_of_token t)) (p.tokens ++ (d ∷ t ∷ []))) s) refl
    (λ t k. refl))) c.in-Err.ensures

pub returns : goal.returns
returns g c = let n = c.in-Ok.ensures in on_result c.member.result _ _ _ (λ o h. record {
  level_is = h.0;
  ready = n.takes.ready;
  later = n.takes.later;
  goes = λ d p kp. record {
    part = (bare_part (λ q. attribute q p.tree (name_of c.in-Ok.name))
        (p.tokens ++ (d ∷ (lexeme g.X.AsStr.text c.in-Ok.ensures.token) ∷ [])));
    keeps = h.1 p kp _ (starts_more _ kp.starts) (ends_more p.tokens
        (ends_more (d ∷ []) (name_ends c.in-Ok.name (lexeme g.X.AsStr.text c.in-Ok.ensures.token) n.name)));
    begins = first_more _ kp.starts;
    leads = λ s. step_to (dotted p (d ∷ []) s) (have 7 (bare_part (λ q. attribute q p.tree (name_of c.in-Ok.name))
        (p.tokens ++ (d ∷ (lexeme g.X.AsStr.text c.in-Ok.ensures.token) ∷ []))) s) n.takes
        (ap (transition (dotted p (d ∷ []) s) (lexeme g.X.AsStr.text c.in-Ok.ensures.token)) n.is
        ∙ ap (λ z.
        go
        (have 7 (bare_part (λ q. attribute q p.tree z) (p.tokens ++ (d ∷ (lexeme g.X.AsStr.text c.in-Ok.ensures.token)
        ∷ []))) s)) (sym n.name));
  };
}) c.member.ensures
