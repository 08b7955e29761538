use Rattle.std.proofs.Common.{◌≡◌, ◌≤◌, ◌<◌, ◌+◌, ◌*◌, ◌-◌, List}
use Rattle.pc_token.specs.Lexeme.{Lexeme}
use Rattle.pc_tree.specs.Tree.{Exprs, no_exprs, Expr, name_of}
use Rattle.pc_grammar.specs.Machine.States.{BracketPurpose, in_call}
use Rattle.pc_grammar.specs.Machine.Expressions.{needed_level}
use Rattle.pc_reader.specs.Internal.Brackets.{KeepsItems}
use Rattle.pc_reader.specs.Internal.Expressions.{GivesOperand, NextIs, Undotted, IsPrimary, Closes}
use Rattle.pc_reader.specs.Reading.{IsReady, left_in}
use Rattle.pc_reader.proofs.BracketLoops.{ElementsSoFar, EntriesSoFar, NamesSoFar}
use Rattle.pc_reader.proofs.reader.Reader.+expressions.Given as goal

abbrev pub decreases-operators : goal.decreases-operators
decreases-operators g l = 30 * left_in g.I.Iterator.remaining l.self.now + (10 - l.level) * 2 + 6

abbrev pub decreases-prefixed : goal.decreases-prefixed
decreases-prefixed g l = 30 * left_in g.I.Iterator.remaining l.self.now + (10 - l.level) * 2 + 5

abbrev pub decreases-signed : goal.decreases-signed
decreases-signed g l = 30 * left_in g.I.Iterator.remaining l.self.now + (10 - l.level) * 2 + 4

abbrev pub decreases-postfix : goal.decreases-postfix
decreases-postfix g l = 30 * left_in g.I.Iterator.remaining l.self.now + 4

abbrev pub decreases-atom : goal.decreases-atom
decreases-atom g l = 30 * left_in g.I.Iterator.remaining l.self.now + 3

abbrev pub decreases-group : goal.decreases-group
decreases-group g l = 30 * left_in g.I.Iterator.remaining l.self.now + 2

abbrev pub decreases-dict : goal.decreases-dict
decreases-dict g l = 30 * left_in g.I.Iterator.remaining l.self.now + 2

abbrev pub decreases-items : goal.decreases-items
decreases-items g l = 30 * left_in g.I.Iterator.remaining l.self.now + 27

abbrev pub decreases-index : goal.decreases-index
decreases-index g l = 30 * left_in g.I.Iterator.remaining l.self.now + 27

abbrev pub decreases-call : goal.decreases-call
decreases-call g l = 30 * left_in g.I.Iterator.remaining l.self.now + 28

abbrev pub decreases-arguments : goal.decreases-arguments
decreases-arguments g l = 30 * left_in g.I.Iterator.remaining l.self.now + 27

abbrev pub decreases-keywords : goal.decreases-keywords
decreases-keywords g l = 30 * left_in g.I.Iterator.remaining l.self.now + 27

abbrev pub invariant-operators-loop-link : goal.invariant-operators-loop-link
invariant-operators-loop-link g l = record {
  gives : GivesOperand g.X.AsStr g.I.Iterator
      (λ s. needed_level s ≡ l.level) l.level l.fn.self l.self l.left;
  undotted : NextIs (Undotted l.left.level) l.self.ahead;
}

abbrev pub decreases-operators-loop-link : goal.decreases-operators-loop-link
decreases-operators-loop-link g l = left_in g.I.Iterator.remaining l.self

abbrev pub invariant-postfix-loop-self : goal.invariant-postfix-loop-self
invariant-postfix-loop-self g l = record {
  gives : GivesOperand g.X.AsStr g.I.Iterator
      (λ s. IsPrimary l.fn.self s) 7 l.fn.self l.self l.operand;
  level_is : l.operand.level ≡ 7;
}

abbrev pub decreases-postfix-loop-self : goal.decreases-postfix-loop-self
decreases-postfix-loop-self g l = left_in g.I.Iterator.remaining l.self

abbrev pub invariant-items-loop-alloc : goal.invariant-items-loop-alloc
invariant-items-loop-alloc g l = record {
  ready : IsReady g.I.Iterator.can_next g.I.Iterator.remaining l.self;
  later : left_in g.I.Iterator.remaining l.self ≤ left_in g.I.Iterator.remaining l.fn.self;
  lists : (h : BracketPurpose) (xs : Exprs) (ts : List Lexeme) → Closes h l.close
      → ElementsSoFar g.X.AsStr g.I.Iterator
      (KeepsItems l.fn.some xs) l.fn.self l.self l.items h xs ts;
}

abbrev pub decreases-items-loop-alloc : goal.decreases-items-loop-alloc
decreases-items-loop-alloc g l = left_in g.I.Iterator.remaining l.self

abbrev pub invariant-dict-loop-self : goal.invariant-dict-loop-self
invariant-dict-loop-self g l = record {
  ready : IsReady g.I.Iterator.can_next g.I.Iterator.remaining l.self;
  later : left_in g.I.Iterator.remaining l.self < left_in g.I.Iterator.remaining l.fn.self;
  entries : EntriesSoFar g.X.AsStr g.I.Iterator l.fn.self
      l.self l.open.start l.entries;
}

abbrev pub decreases-dict-loop-self : goal.decreases-dict-loop-self
decreases-dict-loop-self g l = left_in g.I.Iterator.remaining l.self

abbrev pub invariant-arguments-loop-self : goal.invariant-arguments-loop-self
invariant-arguments-loop-self g l = record {
  ready : IsReady g.I.Iterator.can_next g.I.Iterator.remaining l.self;
  later : left_in g.I.Iterator.remaining l.self ≤ left_in g.I.Iterator.remaining l.fn.self;
  arguments : (e : Expr) (ts : List Lexeme) → ElementsSoFar g.X.AsStr g.I.Iterator (Unit {0}) l.fn.self l.self l.items
      (in_call e) no_exprs ts;
}

abbrev pub decreases-arguments-loop-self : goal.decreases-arguments-loop-self
decreases-arguments-loop-self g l = left_in g.I.Iterator.remaining l.self

abbrev pub invariant-keywords-loop-name : goal.invariant-keywords-loop-name
invariant-keywords-loop-name g l = record {
  ready : IsReady g.I.Iterator.can_next g.I.Iterator.remaining l.self;
  later : left_in g.I.Iterator.remaining l.self ≤ left_in g.I.Iterator.remaining l.fn.self;
  names : (e : Expr) (xs : Exprs) (ts : List Lexeme) → NamesSoFar g.X.AsStr g.I.Iterator l.fn.self l.self
      (name_of l.fn.first) l.keywords (name_of l.name) e
      xs ts;
}

abbrev pub decreases-keywords-loop-name : goal.decreases-keywords-loop-name
decreases-keywords-loop-name g l = left_in g.I.Iterator.remaining l.self
