use Rattle.std.proofs.Common.{[], ◌∷◌, ◌++◌, refl, arith, ap}
use Rattle.std.proofs.lemmas.Result.{err_from_is_err_and}
use Rattle.pc_tree.specs.Tree.{applied_empty, name_of}
use Rattle.pc_grammar.specs.Grammar.{span}
use Rattle.pc_grammar.specs.Machine.{transition}
use Rattle.pc_grammar.specs.Machine.States.{empty_opened, empty_closed, part_read}
use Rattle.pc_reader.specs.Reading.{lexeme}
use Rattle.pc_reader.proofs.Building.{starts_more, ends_more, ends_one}
use Rattle.pc_reader.proofs.Streams.{blame}
use Rattle.pc_reader.proofs.Steps.{step_to, needs}
use Rattle.pc_parse.proofs.Annotated.{empties}
use Rattle.pc_parse.proofs.annotation.no_arguments.Goals as goal

pub returns-in_err-expect : goal.returns-in_err-expect
returns-in_err-expect g c = let p = err_from_is_err_and c.from_residual.result c.from_residual.ensures.1 in
    rw (p.1, p.2) (blame (λ o w. λ ts st parts before s. w (empty_opened (name_of c.args.head) ts parts before s)
    (needs (λ t. empty_closed (name_of c.args.head) (ts ++ (t ∷ [])) parts before s) refl (λ t k. refl)))
    c.in_err-expect.ensures.taken)

pub returns-in_err-close : goal.returns-in_err-close
returns-in_err-close g c = let p = err_from_is_err_and c.from_residual-in_err-close.result
    c.from_residual-in_err-close.ensures.1 in
    let t = lexeme g.X.AsStr.text c.in_ok-expect.field-0 in
    rw (p.1, p.2) (blame (λ o w. λ ts st parts before s. step_to (empty_opened (name_of c.args.head) ts parts before s)
    (empty_closed (name_of c.args.head) (ts ++ (t ∷ [])) parts before s) c.in_ok-expect.ensures.taken
    (ap (transition (empty_opened (name_of c.args.head) ts parts before s) t) c.in_ok-expect.ensures.kind) o
    (w (empty_closed (name_of c.args.head) (ts ++ (t ∷ [])) parts before s)
    (needs (λ u. part_read (applied_empty (span ((ts ++ (t ∷ [])) ++ (u ∷ []))) (name_of c.args.head))
    ((ts ++ (t ∷ [])) ++ (u ∷ [])) parts before s) refl (λ u k. refl)))) c.in_err-close.ensures.taken)

pub returns : goal.returns
returns g c = let t = lexeme g.X.AsStr.text c.in_ok-expect.field-0 in let u =
    lexeme g.X.AsStr.text c.in_ok-close.close in rw c.single.ensures record {
      ready = c.in_ok-close.ensures.taken.ready;
      later = omega (arith, c.in_ok-expect.ensures.taken.later, c.in_ok-close.ensures.taken.later);
      applies = λ ts st. record {
        tree = applied_empty (span ((ts ++ (t ∷ [])) ++ (u ∷ []))) (name_of c.args.head);
        tokens = (ts ++ (t ∷ [])) ++ (u ∷ []);
        keeps = empties c.args.head (record { start = c.args.head.place.start; end = c.in_ok-close.close.place.end })
            ((ts ++ (t ∷ [])) ++ (u ∷ [])) (starts_more (u ∷ []) (starts_more (t ∷ []) st))
            (ends_more (ts ++ (t ∷ [])) (ends_one u));
        leads = λ parts before s o x. step_to (empty_opened (name_of c.args.head) ts parts before s)
            (empty_closed (name_of c.args.head) (ts ++ (t ∷ [])) parts before s) c.in_ok-expect.ensures.taken
            (ap (transition (empty_opened (name_of c.args.head) ts parts before s) t) c.in_ok-expect.ensures.kind) o
            (step_to (empty_closed (name_of c.args.head) (ts ++ (t ∷ [])) parts before s)
            (part_read (applied_empty (span ((ts ++ (t ∷ [])) ++ (u ∷ []))) (name_of c.args.head))
            ((ts ++ (t ∷ [])) ++ (u ∷ [])) parts before s) c.in_ok-close.ensures.taken
            (ap (transition (empty_closed (name_of c.args.head) (ts ++ (t ∷ [])) parts before s) u)
            c.in_ok-close.ensures.kind) o x);
      };
    }
