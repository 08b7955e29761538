-- Turns inside an annotation.
use Rattle.std.specs.Prelude.{List, [], ◌∷◌, ◌++◌}
use Rattle.pc_token.specs.declared.token.TokenKind.{TokenKind}
use Rattle.pc_token.specs.declared.token.TokenKind.TheVariants as kind
use Rattle.pc_token.specs.declared.token.Keyword.TheVariants as word
use Rattle.pc_token.specs.declared.token.Operator.TheVariants as sign
use Rattle.pc_token.specs.Lexeme.{Lexeme}
use Rattle.pc_tree.specs.Tree.{Name, Ann, named, none_type, applied, applied_empty, union, Anns, no_anns, more_anns}
use Rattle.pc_grammar.specs.Grammar.{span, name_of_token}
use Rattle.pc_grammar.specs.Machine.Kinds.{same_kind}
use Rattle.pc_grammar.specs.Machine.States.{AnnStack, ann_whole, ann_inside, part_due, part_named, part_read}
use Rattle.pc_grammar.specs.Machine.States.{argument_due}
use Rattle.pc_grammar.specs.Machine.States.{empty_opened, empty_closed, Transition, stuck, on}
use Rattle.pc_grammar.specs.Machine.Finishing.{add_ann, finish_ann}

-- the turn where a part of an annotation is due: a name or `None`
abbrev pub part_turn : Anns → List Lexeme → AnnStack → Lexeme → TokenKind → Transition
part_turn parts before s t k = on (same_kind k kind.Name) (part_named (name_of_token t) (t ∷ []) parts before s)
    (on (same_kind k (kind.Keyword word.None)) (part_read (none_type (span (t ∷ []))) (t ∷ []) parts before s) stuck)

-- the annotation of these parts and the last one: a union, or the last alone if there are no others
abbrev pub ann_of_parts : Anns → Ann → List Lexeme → Ann
ann_of_parts no_anns a ts = a
ann_of_parts (more_anns b rest) a ts = union (span ts) (add_ann (more_anns b rest) a)

-- the turn after an annotation and its tokens
abbrev pub ann_end : Ann → List Lexeme → AnnStack → Lexeme → TokenKind → Transition
ann_end a tokens (ann_whole c) t k = finish_ann c a k
ann_end a tokens (ann_inside head done ts parts before s) t k =
    on (same_kind k (kind.Operator sign.Comma))
    (part_due no_anns [] (ann_inside head (add_ann done a) (ts ++ (tokens ++ (t ∷ []))) parts before s))
    (on (same_kind k (kind.Operator sign.RightBracket))
    (part_read (applied (span (ts ++ (tokens ++ (t ∷ [])))) head (add_ann done a))
    (ts ++ (tokens ++ (t ∷ []))) parts before s) stuck)

-- the turn after a part of an annotation: the `|` before the next part, or what may come after the annotation
abbrev pub part_read_turn : Ann → List Lexeme → Anns → List Lexeme → AnnStack → Lexeme → TokenKind → Transition
part_read_turn a tokens parts before s t k =
    on (same_kind k (kind.Operator sign.Bar)) (part_due (add_ann parts a) (before ++ (tokens ++ (t ∷ []))) s)
    (ann_end (ann_of_parts parts a (before ++ tokens)) (before ++ tokens) s t k)

-- the turn after a name as a part: the `[` before its arguments, or what may come after any part
abbrev pub part_named_turn : Name → List Lexeme → Anns → List Lexeme → AnnStack → Lexeme → TokenKind → Transition
part_named_turn n u parts before s t k =
    on (same_kind k (kind.Operator sign.LeftBracket)) (argument_due n (u ++ (t ∷ [])) parts before s)
    (part_read_turn (named n) u parts before s t k)

-- the turn after `N[`: the `(` of `N[()]`, or the first token of the first argument
abbrev pub argument_turn : Name → List Lexeme → Anns → List Lexeme → AnnStack → Lexeme → TokenKind → Transition
argument_turn head ts parts before s t k =
    on (same_kind k (kind.Operator sign.LeftParenthesis)) (empty_opened head (ts ++ (t ∷ [])) parts before s)
    (part_turn no_anns [] (ann_inside head no_anns ts parts before s) t k)

-- the turn after `N[(`, where only `)` may follow
abbrev pub empty_opened_turn : Name → List Lexeme → Anns → List Lexeme → AnnStack → Lexeme → TokenKind → Transition
empty_opened_turn head ts parts before s t k =
    on (same_kind k (kind.Operator sign.RightParenthesis)) (empty_closed head (ts ++ (t ∷ [])) parts before s) stuck

-- the turn after `N[()`, where only `]` may follow
abbrev pub empty_closed_turn : Name → List Lexeme → Anns → List Lexeme → AnnStack → Lexeme → TokenKind → Transition
empty_closed_turn head ts parts before s t k =
    on (same_kind k (kind.Operator sign.RightBracket))
    (part_read (applied_empty (span (ts ++ (t ∷ []))) head) (ts ++ (t ∷ [])) parts before s) stuck
