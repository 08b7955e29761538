-- A module that is read is spelled by its tokens.
use Rattle.std.proofs.Common.{◌≡◌, ℕ, List, [], ◌∷◌, ◌++◌, refl, sym, ◌∙◌, subst, append_assoc, append-nil}
use Rattle.pc_token.specs.Lexeme.{Lexeme}
use Rattle.pc_tree.specs.Tree.{Module}
use Rattle.pc_grammar.specs.Grammar.Modules.{SpellsModule}
use Rattle.pc_grammar.specs.Machine.Kinds.{operand_start, follow_of}
use Rattle.pc_grammar.specs.Machine.States.{State, fixed, items, importing, item_named, decorator_due, class_due}
use Rattle.pc_grammar.specs.Machine.States.{class_named, base_due, members, def_due, self_read, param_due, param_named}
use Rattle.pc_grammar.specs.Machine.States.{params_read, literal_due, minus_read, literal_read, stmts, return_due}
use Rattle.pc_grammar.specs.Machine.States.{target_due, after_branch, part_due, part_named, part_read, argument_due}
use Rattle.pc_grammar.specs.Machine.States.{empty_opened, empty_closed, operand, have, denied, identified, unidentified}
use Rattle.pc_grammar.specs.Machine.States.{dotted, group_due, item_due, keyword_due, keyword_named, key_due, ended}
use Rattle.pc_grammar.specs.Machine.States.{Transition}
use Rattle.pc_grammar.specs.Machine.States.{stuck, go}
use Rattle.pc_grammar.specs.Machine.Lines.{start}
use Rattle.pc_grammar.specs.Machine.{transition, at, arrive, reads, refuses, short, stop_at, read_tokens, outcome_of}
use Rattle.pc_grammar.specs.Fronts.{LedTo}
use Rattle.pc_grammar.proofs.Runs.{run_lost}
use Rattle.pc_grammar.proofs.Sequences.{map_right}
use Rattle.pc_grammar.proofs.Stood.{Stood, end_nothing}
use Rattle.pc_grammar.proofs.SoundExpressions.{start_means, follow_means, operand_stood}
use Rattle.pc_grammar.proofs.SoundBrackets.{have_stood, group_stood, item_stood, keyword_stood, named_stood, key_stood}
use Rattle.pc_grammar.proofs.SoundBrackets.{dotted_stood, denied_stood, identified_stood, unidentified_stood}
use Rattle.pc_grammar.proofs.SoundAnnotations.{part_stood, part_named_stood, part_read_stood, argument_stood}
use Rattle.pc_grammar.proofs.SoundAnnotations.{empty_opened_stood, empty_closed_stood}
use Rattle.pc_grammar.proofs.SoundFinishing.{finishes, finishes_ann, no_back}
use Rattle.pc_grammar.proofs.SoundLines.{fixed_stood, stmts_stood, return_stood, target_stood, branch_stood}
use Rattle.pc_grammar.proofs.SoundLines.{items_stood}
use Rattle.pc_grammar.proofs.SoundLines.{importing_stood, item_named_stood, decorator_stood, class_stood}
use Rattle.pc_grammar.proofs.SoundLines.{class_named_stood, base_stood, members_stood, def_stood, self_stood}
use Rattle.pc_grammar.proofs.SoundLines.{param_stood}
use Rattle.pc_grammar.proofs.SoundLines.{param_named_stood, params_read_stood, literal_stood, minus_stood}
use Rattle.pc_grammar.proofs.SoundLines.{literal_read_stood}

-- Each token keeps what is known of the tokens before.
pub stood : (s : State) (t : Lexeme) (ts : List Lexeme) → LedTo s ts → Stood (transition s t t.kind) (ts ++ (t ∷ []))
stood (fixed w ws next) t ts h = fixed_stood w ws next t ts h
stood (items stage top) t ts h = items_stood stage top t ts h
stood (importing stage top) t ts h = importing_stood stage top t ts h
stood (item_named n top) t ts h = item_named_stood n top t ts h
stood (decorator_due first top) t ts h = decorator_stood first top t ts h
stood (class_due first decorator top) t ts h = class_stood first decorator top t ts h
stood (class_named c) t ts h = class_named_stood c t ts h
stood (base_due c) t ts h = base_stood c t ts h
stood (members c ms) t ts h = members_stood c ms t ts h
stood (def_due owner first) t ts h = def_stood owner first t ts h
stood (self_read d) t ts h = self_stood d t ts h
stood (param_due d ps) t ts h = param_stood d ps t ts h
stood (param_named d ps n) t ts h = param_named_stood d ps n t ts h
stood (params_read d ps) t ts h = params_read_stood d ps t ts h
stood (literal_due c) t ts h = literal_stood c t ts h
stood (minus_read c us) t ts h = minus_stood c us t ts h
stood (literal_read c l) t ts h = literal_read_stood c l t ts h
stood (stmts done b) t ts h = stmts_stood done b t ts h
stood (return_due site) t ts h = return_stood site t ts h
stood (target_due site) t ts h = target_stood site t ts h
stood (after_branch bs site) t ts h = branch_stood bs site t ts h
stood (part_due parts before s) t ts h = part_stood parts before s t ts h
stood (part_named n us parts before s) t ts h = part_named_stood finishes_ann n us parts before s t ts h
stood (part_read a us parts before s) t ts h = part_read_stood finishes_ann a us parts before s t ts h
stood (argument_due head us parts before s) t ts h = argument_stood head us parts before s t ts h
stood (empty_opened head us parts before s) t ts h = empty_opened_stood head us parts before s t ts h
stood (empty_closed head us parts before s) t ts h = empty_closed_stood head us parts before s t ts h
stood (operand s) t ts h = operand_stood s t (operand_start t.kind) ts (start_means t.kind) h
stood (have level p s) t ts h = have_stood finishes level p s t (follow_of t.kind) ts (follow_means t.kind) h
stood (denied p us s) t ts h = denied_stood p us s t ts h
stood (identified p us s) t ts h = identified_stood p us s t ts h
stood (unidentified p us s) t ts h = unidentified_stood p us s t ts h
stood (dotted p us s) t ts h = dotted_stood p us s t ts h
stood (group_due us s) t ts h = group_stood us s t ts h
stood (item_due i xs us s) t ts h = item_stood i xs us s t ts h
stood (keyword_due e xs ks us s) t ts h = keyword_stood e xs ks us s t ts h
stood (keyword_named e xs ks n us s) t ts h = named_stood e xs ks n us s t ts h
stood (key_due es us s) t ts h = key_stood es us s t ts h
stood (ended m) t ts h = tt

same_module : {n m : Module} → reads n ≡ reads m → n ≡ m
same_module e = cc

short_reads_none : {m : Module} → short ≡ reads m → ⊥
short_reads_none e = cc

refuses_reads_none : {byte : ℕ} {m : Module} → refuses byte ≡ reads m → ⊥
refuses_reads_none e = cc

-- only the end of the text is a module
stop_spells : (s : State) (m : Module) (past : List Lexeme) → LedTo s past → stop_at s ≡ reads m → SpellsModule m past
stop_spells (ended n) m past h e = subst (λ z. SpellsModule z past) (same_module e) h
stop_spells _ m past h e = absurd (short_reads_none e)

turn_spells : (ts : List Lexeme) (t : Lexeme) (past : List Lexeme) (m : Module)
    → ((s : State) → LedTo s past → read_tokens (at s) ts ≡ reads m → SpellsModule m (past ++ ts))
    → (x : Transition) → Stood x past → read_tokens (arrive x t) ts ≡ reads m → SpellsModule m (past ++ ts)
turn_spells ts t past m onward stuck h e = absurd (refuses_reads_none (sym (run_lost t.place.start ts) ∙ e))
turn_spells ts t past m onward (go s) h e = onward s h e

pub run_spells : (ts past : List Lexeme) (s : State) (m : Module) → LedTo s past → read_tokens (at s) ts ≡ reads m
    → SpellsModule m (past ++ ts)
unfolding read_tokens
run_spells [] past s m h e = subst (λ z. SpellsModule m z) (sym (append-nil past)) (stop_spells s m past h e)
run_spells (t ∷ ts) past s m h e = subst (λ z. SpellsModule m z) (append_assoc past (t ∷ []) ts)
    (turn_spells ts t (past ++ (t ∷ [])) m (λ next h' e'. run_spells ts (past ++ (t ∷ [])) next m h' e')
    (transition s t t.kind) (stood s t past h) e)

pub start_stands : LedTo start []
start_stands = λ us f. (
  (refl, refl, refl),
  end_nothing us (map_right (λ vs v. end_nothing vs v)
      (end_nothing us (map_right (λ vs v. map_right (λ ws w. map_right (λ xs x. map_right no_back x) w) v) f))),
)

-- A module that is read is spelled by its tokens.
pub reads_spells : (ts : List Lexeme) (m : Module) → outcome_of ts ≡ reads m → SpellsModule m ts
reads_spells ts m e = run_spells ts [] start m start_stands e
