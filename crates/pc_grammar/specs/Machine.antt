-- A machine that reads tokens one at a time, with the open nodes on a stack.
pub mod Kinds
pub mod States
pub mod Finishing
pub mod Expressions
pub mod Annotations
pub mod Lines
use Rattle.std.specs.Prelude.{ℕ, List, [], ◌∷◌}
use Rattle.pc_token.specs.declared.token.TokenKind.{TokenKind}
use Rattle.pc_token.specs.Lexeme.{Lexeme}
use Rattle.pc_tree.specs.Tree.{Module}
use Rattle.pc_grammar.specs.Machine.Kinds.{operand_start, follow_of}
use Rattle.pc_grammar.specs.Machine.States.{State, fixed, items, importing, item_named, decorator_due, class_due}
use Rattle.pc_grammar.specs.Machine.States.{class_named, base_due, members, def_due, self_read, param_due, param_named}
use Rattle.pc_grammar.specs.Machine.States.{params_read, literal_due, minus_read, literal_read, stmts, return_due}
use Rattle.pc_grammar.specs.Machine.States.{target_due, after_branch, part_due, part_named, part_read, argument_due}
use Rattle.pc_grammar.specs.Machine.States.{empty_opened, empty_closed, operand, have, denied, identified, unidentified}
use Rattle.pc_grammar.specs.Machine.States.{dotted, group_due, item_due, keyword_due, keyword_named, key_due, ended}
use Rattle.pc_grammar.specs.Machine.States.{Transition}
use Rattle.pc_grammar.specs.Machine.States.{stuck, go}
use Rattle.pc_grammar.specs.Machine.Expressions.{operand_turn, have_turn, denied_turn, identified_turn}
use Rattle.pc_grammar.specs.Machine.Expressions.{unidentified_turn}
use Rattle.pc_grammar.specs.Machine.Expressions.{dotted_turn, group_turn, item_turn, keyword_turn, named_turn, key_turn}
use Rattle.pc_grammar.specs.Machine.Annotations.{part_turn, part_named_turn, part_read_turn, argument_turn}
use Rattle.pc_grammar.specs.Machine.Annotations.{empty_opened_turn, empty_closed_turn}
use Rattle.pc_grammar.specs.Machine.Lines.{start, fixed_turn, items_turn, importing_turn, item_named_turn}
use Rattle.pc_grammar.specs.Machine.Lines.{decorator_turn}
use Rattle.pc_grammar.specs.Machine.Lines.{class_turn, class_named_turn, base_turn, members_turn, def_turn, self_turn}
use Rattle.pc_grammar.specs.Machine.Lines.{param_turn, param_named_turn, params_read_turn, literal_turn, minus_turn}
use Rattle.pc_grammar.specs.Machine.Lines.{literal_read_turn, stmts_turn, return_turn, target_turn, branch_turn}

-- the turn at a token of this kind
abbrev pub transition : State → Lexeme → TokenKind → Transition
transition (fixed w ws next) t k = fixed_turn w ws next t k
transition (items stage top) t k = items_turn stage top t k
transition (importing stage top) t k = importing_turn stage top t k
transition (item_named n top) t k = item_named_turn n top t k
transition (decorator_due first top) t k = decorator_turn first top t k
transition (class_due first decorator top) t k = class_turn first decorator top t k
transition (class_named c) t k = class_named_turn c t k
transition (base_due c) t k = base_turn c t k
transition (members c done) t k = members_turn c done t k
transition (def_due owner first) t k = def_turn owner first t k
transition (self_read d) t k = self_turn d t k
transition (param_due d ps) t k = param_turn d ps t k
transition (param_named d ps n) t k = param_named_turn d ps n t k
transition (params_read d ps) t k = params_read_turn d ps t k
transition (literal_due c) t k = literal_turn c t k
transition (minus_read c m) t k = minus_turn c m t k
transition (literal_read c l) t k = literal_read_turn c l t k
transition (stmts done b) t k = stmts_turn done b t k
transition (return_due site) t k = return_turn site t k
transition (target_due site) t k = target_turn site t k
transition (after_branch bs site) t k = branch_turn bs site t k
transition (part_due parts before s) t k = part_turn parts before s t k
transition (part_named n u parts before s) t k = part_named_turn n u parts before s t k
transition (part_read a ts parts before s) t k = part_read_turn a ts parts before s t k
transition (argument_due head ts parts before s) t k = argument_turn head ts parts before s t k
transition (empty_opened head ts parts before s) t k = empty_opened_turn head ts parts before s t k
transition (empty_closed head ts parts before s) t k = empty_closed_turn head ts parts before s t k
transition (operand s) t k = operand_turn s t (operand_start k)
transition (have level p s) t k = have_turn level p s t (follow_of k)
transition (denied p d s) t k = denied_turn p d s t k
transition (identified p d s) t k = identified_turn p d s t k
transition (unidentified p d s) t k = unidentified_turn p d s t k
transition (dotted p d s) t k = dotted_turn p d s t k
transition (group_due o s) t k = group_turn o s t k
transition (item_due h xs ts s) t k = item_turn h xs ts s t k
transition (keyword_due e xs ks ts s) t k = keyword_turn e xs ks ts s t k
transition (keyword_named e xs ks n ts s) t k = named_turn e xs ks n ts s t k
transition (key_due es ts s) t k = key_turn es ts s t k
transition (ended m) t k = stuck

-- a reading of tokens: in a state, or lost at the byte of the first token that did not fit
pub data Reading : Type 0 where
  at : (s : State) → Reading
  lost : (byte : ℕ) → Reading

-- the reading after a turn at this token: in the turn's state, or lost at the token's first byte
abbrev pub arrive : Transition → Lexeme → Reading
arrive (go s) t = at s
arrive stuck t = lost t.place.start

-- the reading one token later; one that is lost stays lost at its byte
abbrev pub step : Reading → Lexeme → Reading
step (at s) t = arrive (transition s t t.kind) t
step (lost byte) t = lost byte

-- the outcome of a reading: a module, a token after which no module can follow, or tokens that end too early
pub data ReadOutcome : Type 0 where
  reads : (m : Module) → ReadOutcome
  refuses : (byte : ℕ) → ReadOutcome
  short : ReadOutcome

-- the outcome of tokens that end in this state: the module if the text has ended, otherwise they end too early
abbrev pub stop_at : State → ReadOutcome
stop_at (ended m) = reads m
stop_at _ = short

-- the outcome of a reading that no token follows
abbrev pub stop : Reading → ReadOutcome
stop (at s) = stop_at s
stop (lost byte) = refuses byte

-- the outcome of a reading over these tokens
unfoldable pub read_tokens : Reading → List Lexeme → ReadOutcome
read_tokens r [] = stop r
read_tokens r (t ∷ ts) = read_tokens (step r t) ts

-- the outcome of all tokens of a text
abbrev pub outcome_of : List Lexeme → ReadOutcome
outcome_of ts = read_tokens (at start) ts
