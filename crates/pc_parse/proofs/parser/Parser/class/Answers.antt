use Rattle.std.proofs.Common.{refl}
use Rattle.std.proofs.lemmas.Result.{err_from_is_err_and}
use Rattle.pc_grammar.specs.Machine.States.{decorator_due}
use Rattle.pc_reader.proofs.Streams.{blame}
use Rattle.pc_parse.proofs.Members.{needs_dataclass, class_word_missing, class_name_missing, class_base_fails}
use Rattle.pc_parse.proofs.Members.{class_members_fail, class_read}
use Rattle.pc_parse.proofs.parser.Parser.class.Goals as goal

pub returns-in_err-word : goal.returns-in_err-word
returns-in_err-word g c = let p = err_from_is_err_and c.from_residual.result c.from_residual.ensures.1 in
    rw (p.1, p.2) (blame (λ o u. λ first top. u (decorator_due first top)
    (needs_dataclass g.X.AsStr.text g.I.Iterator.next_gives c.args.self.now.reader first top))
    c.in_err-word.ensures)

pub returns-in_err-fixed : goal.returns-in_err-fixed
returns-in_err-fixed g c = let p = err_from_is_err_and c.from_residual-in_err-fixed.result
    c.from_residual-in_err-fixed.ensures.1 in
    rw (p.1, p.2) (class_word_missing c.args.self.now c.in_ok-word.ensures c.in_err-fixed.ensures)

pub returns-in_err-name : goal.returns-in_err-name
returns-in_err-name g c = let p = err_from_is_err_and c.from_residual-in_err-name.result
    c.from_residual-in_err-name.ensures.1 in
    rw (p.1, p.2) (class_name_missing c.args.self.now c.in_ok-word.ensures c.in_ok-fixed.ensures c.in_err-name.ensures)

pub returns-in_err-base : goal.returns-in_err-base
returns-in_err-base g c = let p = err_from_is_err_and c.from_residual-in_err-base.result
    c.from_residual-in_err-base.ensures.1 in
    rw (p.1, p.2) (class_base_fails c.args.self.now c.in_ok-word.ensures c.in_ok-fixed.ensures c.in_ok-name.ensures
    c.in_err-base.ensures)

pub returns-in_err-members : goal.returns-in_err-members
returns-in_err-members g c = let p = err_from_is_err_and c.from_residual-in_err-members.result
    c.from_residual-in_err-members.ensures.1 in
    rw (p.1, p.2) (class_members_fail c.args.self.now c.in_ok-word.ensures c.in_ok-fixed.ensures c.in_ok-name.ensures
    (record { reader = c.base.new.reader; deep = c.args.self.now.deep }) c.in_ok-base.ensures
    c.in_err-members.ensures)

pub returns : goal.returns
returns g c = class_read c.args.self.now c.in_ok-word.ensures c.in_ok-fixed.ensures c.in_ok-name.ensures
    (record { reader = c.base.new.reader; deep = c.args.self.now.deep }) c.in_ok-base.ensures refl
    c.in_ok-members.ensures
