use Rattle.std.proofs.Common.{refl, sym, ◌∙◌}
use Rattle.std.proofs.lemmas.Result.{err_from_is_err_and}
use Rattle.pc_token.specs.declared.token.TokenKind.TheVariants as kind
use Rattle.pc_token.specs.declared.token.Keyword.TheVariants as word
use Rattle.pc_token.specs.declared.token.Operator.TheVariants as sign
use Rattle.pc_tree.specs.Tree.{name_of}
use Rattle.pc_grammar.specs.Machine.{at}
use Rattle.pc_grammar.specs.Machine.States.{items, after_headers}
use Rattle.pc_reader.proofs.Steps.{kind_seen}
use Rattle.pc_reader.proofs.Streams.{blame}
use Rattle.pc_parse.proofs.Pieces.{class_as_item, class_fails, function_as_item, function_fails, no_item, no_last_line}
use Rattle.pc_parse.proofs.Pieces.{last_line_fails, last_read, constant_fails, constant_as_item}
use Rattle.pc_parse.proofs.parser.Parser.piece.Goals as goal

pub returns-in_err-at : goal.returns-in_err-at
returns-in_err-at g c = let p = err_from_is_err_and c.from_residual.result c.from_residual.ensures.1 in
    rw (p.1, p.2) (blame (λ o u. λ top. u (at (items after_headers top)) (λ q. refl)) c.in_err-at.ensures)

pub returns-in_err-class : goal.returns-in_err-class
returns-in_err-class g c = let p = err_from_is_err_and c.from_residual-in_err-class.result
    c.from_residual-in_err-class.ensures.1 in
    rw (p.1, p.2) (class_fails c.in_ok-at.ensures (kind_seen (kind.Operator sign.At)
    (sym c.sees.ensures ∙ c.if-sees.true) c.in_ok-at.ensures.here) c.in_err-class.ensures)

pub returns-then-sees : goal.returns-then-sees
returns-then-sees g c = class_as_item c.args.self.now (record { reader = c.take.new.self; deep = c.args.self.now.deep })
    c.in_ok-at.ensures (kind_seen (kind.Operator sign.At) (sym c.sees.ensures ∙ c.if-sees.true) c.in_ok-at.ensures.here)
    refl c.in_ok-class.ensures

pub returns-in_err-def : goal.returns-in_err-def
returns-in_err-def g c = let p = err_from_is_err_and c.from_residual-in_err-def.result
    c.from_residual-in_err-def.ensures.1 in
    rw (p.1, p.2) (blame (λ o u. λ top. u (at (items after_headers top)) (λ q. refl)) c.in_err-def.ensures)

pub returns-in_err-function : goal.returns-in_err-function
returns-in_err-function g c = let p = err_from_is_err_and c.from_residual-in_err-function.result
    c.from_residual-in_err-function.ensures.1 in
    rw (p.1, p.2) (function_fails c.in_ok-def.ensures (kind_seen (kind.Keyword word.Def)
    (sym c.sees-2.ensures ∙ c.if-sees-2.true) c.in_ok-def.ensures.here) c.in_err-function.ensures)

pub returns-then-sees-2 : goal.returns-then-sees-2
returns-then-sees-2 g c = function_as_item c.args.self.now (record {
  reader = c.take-then-sees-2.new.self;
  deep =
      c.args.self.now.deep;
}) c.in_ok-def.ensures (kind_seen (kind.Keyword word.Def)
    (sym c.sees-2.ensures ∙ c.if-sees-2.true) c.in_ok-def.ensures.here) refl c.in_ok-function.ensures

pub returns-in_err-name : goal.returns-in_err-name
returns-in_err-name g c = let p = err_from_is_err_and c.from_residual-in_err-name.result
    c.from_residual-in_err-name.ensures.1 in
    rw (p.1, p.2) (blame (λ o u. λ top. u (items after_headers top)
    (no_item g.X.AsStr.text c.args.self.now.reader top (sym c.sees.ensures ∙ c.if-sees.false)
    (sym c.sees-2.ensures ∙ c.if-sees-2.false))) c.in_err-name.ensures)

pub returns-in_err-fixed : goal.returns-in_err-fixed
returns-in_err-fixed g c = let p = err_from_is_err_and c.from_residual-in_err-fixed.result
    c.from_residual-in_err-fixed.ensures.1 in
    rw (p.1, p.2) (constant_fails c.args.self.now c.in_ok-name.ensures
    (last_line_fails g.X.AsStr.text g.I.Iterator.next_gives c.name.new.self (name_of c.in_ok-name.name)
    (sym c.begins_last_line.ensures ∙ c.if-begins_last_line.true) _ c.in_err-fixed.ensures))

pub returns-then-begins_last_line : goal.returns-then-begins_last_line
returns-then-begins_last_line g c = last_read c.args.self.now c.in_ok-name.ensures (sym c.begins_last_line.ensures
    ∙ c.if-begins_last_line.true) refl c.in_ok-fixed.ensures

pub returns-in_err-constant : goal.returns-in_err-constant
returns-in_err-constant g c = let p = err_from_is_err_and c.from_residual-in_err-constant.result
    c.from_residual-in_err-constant.ensures.1 in
    rw (p.1, p.2) (constant_fails c.args.self.now c.in_ok-name.ensures
    (c.in_err-constant.ensures (no_last_line c.name.new.self (name_of c.in_ok-name.name)
    (sym c.begins_last_line.ensures ∙ c.if-begins_last_line.false))))

pub returns : goal.returns
returns g c = constant_as_item c.args.self.now c.in_ok-name.ensures
    (record { reader = c.name.new.self; deep = c.args.self.now.deep }) refl refl
    (c.in_ok-constant.ensures (no_last_line c.name.new.self (name_of c.in_ok-name.name) (sym c.begins_last_line.ensures
    ∙ c.if-begins_last_line.false)))
