-- A module that is spelled is read, so a list of tokens spells at most one.
use Rattle.std.proofs.Common.{◌≡◌, ℕ, ◌&&◌, Bool, true, false, List, [], ◌∷◌, ◌++◌, Option, Some, None, refl, ap, sym}
use Rattle.std.proofs.Common.{◌∙◌, subst, inl, inr, append_assoc, append-nil, arith, codes, bytes_eq}
use Rattle.pc_source.specs.declared.place.Place.{Place}
use Rattle.pc_token.specs.declared.token.TokenKind.{TokenKind}
use Rattle.pc_token.specs.declared.token.TokenKind.TheVariants as kind
use Rattle.pc_token.specs.declared.token.Keyword.TheVariants as word
use Rattle.pc_token.specs.declared.token.Operator.TheVariants as sign
use Rattle.pc_token.specs.Lexeme.{Lexeme}
use Rattle.pc_tree.specs.Tree.{Name, Expr, Ann, no_anns, Literal, number_literal, negative_literal, text_literal}
use Rattle.pc_tree.specs.Tree.{truth_literal, none_literal, Stmts, Param, FuncDef, Member, field_member, method_member}
use Rattle.pc_tree.specs.Tree.{ClassDef, Item, constant_item, class_item, def_item, Module}
use Rattle.pc_grammar.specs.Grammar.{Spelling, Sequence, ◌⟫◌, Begins, Just, Sign, Word, IsName, Named, NamedAt, Nothing}
use Rattle.pc_grammar.specs.Grammar.{Maybe, Rest, first_place, span, digits_of, characters_of}
use Rattle.pc_grammar.specs.Grammar.Expressions.{Expression, truth_word}
use Rattle.pc_grammar.specs.Grammar.Annotations.{Annotation}
use Rattle.pc_grammar.specs.Grammar.Statements.{Suite, SpellsStmts}
use Rattle.pc_grammar.specs.Grammar.Modules.{SpellsLiteral, SpellsParam, SpellsParams, Parameters, SpellsMember}
use Rattle.pc_grammar.specs.Grammar.Modules.{SpellsMembers, ClassBody, SpellsClass, SpellsItem, SpellsItems, Header}
use Rattle.pc_grammar.specs.Grammar.Modules.{OptionalHeader, LastLine, SpellsModule}
use Rattle.pc_grammar.specs.Machine.Kinds.{Fixed, a_kind, a_form}
use Rattle.pc_grammar.specs.Machine.States.{HeaderStage, after_future, after_dataclasses, after_headers, Top, ClassStart}
use Rattle.pc_grammar.specs.Machine.States.{FunctionOwner}
use Rattle.pc_grammar.specs.Machine.States.{of_module, of_class, DefStart, def_body, in_constant, of_constant, of_field}
use Rattle.pc_grammar.specs.Machine.States.{of_param, of_return, LiteralContext, default_of_param, default_of_field}
use Rattle.pc_grammar.specs.Machine.States.{ann_whole, State, fixed, items, importing, item_named, decorator_due}
use Rattle.pc_grammar.specs.Machine.States.{class_due, class_named, members, def_due, self_read, param_due, param_named}
use Rattle.pc_grammar.specs.Machine.States.{params_read, literal_due, minus_read, literal_read, part_due, ended}
use Rattle.pc_grammar.specs.Machine.States.{stuck, go}
use Rattle.pc_grammar.specs.Machine.States.{on}
use Rattle.pc_grammar.specs.Machine.Finishing.{add_item, after_def, after_class, param, field}
use Rattle.pc_grammar.specs.Machine.Lines.{start, module_of, no_top, takes_dataclasses, takes_header, due, params_of}
use Rattle.pc_grammar.specs.Machine.{transition, at, read_tokens, reads, outcome_of}
use Rattle.pc_grammar.specs.Fronts.Lines.{is_in_class}
use Rattle.pc_grammar.proofs.Runs.{run_go, run_none}
use Rattle.pc_grammar.proofs.Sequences.{Reads, Any, reads_and, reads_any, reads_just, token_run, to_right, map_right}
use Rattle.pc_grammar.proofs.CompleteStatements.{reads_map, reads_to, no_front, shift_right, reads_name_as}
use Rattle.pc_grammar.proofs.CompleteStatements.{expression_last, annotation_then, annotation_last, begins_token}
use Rattle.pc_grammar.proofs.CompleteStatements.{reads_suite, reads_stmts}

-- ---- sequences

-- a token whose place is kept, where none is said of it
reads_place : (k : TokenKind) {H X : Spelling} {s final : State} (next : Place → State)
    → ((t : Lexeme) → transition s t k ≡ go (next t.place))
    → ((p : Place) → Reads H X (next p) final) → Reads H (Just k ⟫ X) s final
reads_place k {s = s} next to r = record {
  over = λ ts w rest g.
      let t : Lexeme = w.left.0 in let q = r t.place in
      ap (λ x. read_tokens (at s) (x ++ rest)) (w.all ∙ ap (λ x. x ++ w.back) w.left.2)
      ∙ run_go s (next t.place) t (w.back ++ rest) (ap (transition s t) w.left.1 ∙ to t) ∙ q.over w.back w.right rest g;
}

reads_form : (form : List ℕ) {s next : State} → ((t : Lexeme) → t.form ≡ form → transition s t kind.Name ≡ go next)
    → Reads Any (Named form) s next
reads_form form {s} {next} to = record {
  over = λ ts h rest g. ap (λ x. read_tokens (at s) (x ++ rest)) h.3
      ∙ run_go s next h.0 rest (ap (transition s h.0) h.1 ∙ to h.0 h.2);
}

reads_form_at : (form : List ℕ) (p : Place) {s : State} (next : Place → State)
    → ((t : Lexeme) → t.form ≡ form → transition s t kind.Name ≡ go (next t.place)) → Reads Any (NamedAt form p) s (next p)
reads_form_at form p {s} next to = record {
  over = λ ts h rest g. ap (λ x. read_tokens (at s) (x ++ rest)) h.4
      ∙ run_go s (next h.0.place) h.0 rest (ap (transition s h.0) h.1 ∙ to h.0 h.2)
      ∙ ap (λ q. read_tokens (at (next q)) rest) (sym h.3);
}

-- the last of a list is followed by a comma, or not
reads_rest : {A B Y H : Spelling} {last : Type 0} {s next : State} → Reads H (A ⟫ B ⟫ Y) s next
    → (last → Reads H (A ⟫ Y) s next) → Reads H ((A ⟫ Rest last B) ⟫ Y) s next
reads_rest {A} {B} {Y} {H} {last} {s} {next} more end = record {
  over = λ ts w rest g. by_rest ts w.front w.back w.all
      w.left.front w.left.back w.left.all w.left.left w.left.right w.right rest g;
}
  where
    by_rest : (ts f y : List Lexeme) → ts ≡ f ++ y → (a r : List Lexeme) → f ≡ a ++ r → A a → Rest last B r → Y y
        → (rest : List Lexeme) → H rest → read_tokens (at s) (ts ++ rest) ≡ read_tokens (at next) rest
    by_rest ts f y is a r fs ha (inl b) hy rest g = more.over ts
        (record {
          front = a;
          back = r ++ y;
          all = is ∙ ap (λ x. x ++ y) fs ∙ append_assoc a r y;
          left = ha;
          right =
              record { front = r; back = y; all = refl; left = b; right = hy };
        }) rest g
    by_rest ts f y is a r fs ha (inr (l, n)) hy rest g = let e = end l in e.over ts
        (record {
          front = a;
          back = y;
          all = is ∙ ap (λ x. x ++ y) (fs ∙ ap (λ x. a ++ x) n ∙ append-nil a);
          left = ha;
          right = hy;
        }) rest g

-- ---- literals

literal_truth : (b : Bool) (c : LiteralContext) (t : Lexeme) → transition (literal_due c) t (kind.Keyword (truth_word b))
    ≡ go (literal_read c (truth_literal (span (t ∷ [])) b))
literal_truth true c t = refl
literal_truth false c t = refl

reads_literal : (l : Literal) (c : LiteralContext) → Reads Any (SpellsLiteral l) (literal_due c) (literal_read c l)
reads_literal (number_literal p digits) c = record {
  over = λ ts (e, (t, tk, d, is)) rest g.
      ap (λ x. read_tokens (at (literal_due c)) (x ++ rest)) is
      ∙ run_go (literal_due c) (literal_read c (number_literal (span (t ∷ [])) (digits_of t.text))) t rest
      (ap (transition (literal_due c) t) tk)
      ∙ ap (λ x. read_tokens (at (literal_read c (number_literal (span (t ∷ [])) x))) rest) (sym d)
      ∙ ap (λ x. read_tokens (at (literal_read c (number_literal x digits))) rest) (sym (e ∙ ap span is));
}
reads_literal (negative_literal p digits) c = record {
  over = λ ts (e, w) rest g.
      let t : Lexeme = w.right.0 in
      let s : State = minus_read c w.front in
      ap (λ x. read_tokens (at (literal_due c)) (x ++ rest)) w.all ∙ ap (read_tokens (at (literal_due c)))
      (append_assoc w.front w.back rest)
      ∙ token_run (kind.Operator sign.Minus) (literal_due c) (λ x. minus_read c x) (λ u. refl) w.front w.left
      (w.back ++ rest)
      ∙ ap (λ x. read_tokens (at s) (x ++ rest)) w.right.3
      ∙ run_go s (literal_read c (negative_literal (span (w.front ++ (t ∷ []))) (digits_of t.text))) t rest
      (ap (transition s t) w.right.1)
      ∙ ap (λ x. read_tokens (at (literal_read c (negative_literal (span (w.front ++ (t ∷ []))) x))) rest) (sym w.right.2)
      ∙ ap (λ x. read_tokens (at (literal_read c (negative_literal x digits))) rest)
      (sym (e ∙ ap span (w.all ∙ ap (λ x. w.front ++ x) w.right.3)));
}
reads_literal (text_literal p characters) c = record {
  over = λ ts (e, (t, tk, d, is)) rest g.
      ap (λ x. read_tokens (at (literal_due c)) (x ++ rest)) is
      ∙ run_go (literal_due c) (literal_read c (text_literal (span (t ∷ [])) (characters_of t.text))) t rest
      (ap (transition (literal_due c) t) tk)
      ∙ ap (λ x. read_tokens (at (literal_read c (text_literal (span (t ∷ [])) x))) rest) (sym d)
      ∙ ap (λ x. read_tokens (at (literal_read c (text_literal x characters))) rest) (sym (e ∙ ap span is));
}
reads_literal (truth_literal p b) c = record {
  over = λ ts (e, h) rest g.
      token_run (kind.Keyword (truth_word b)) (literal_due c) (λ x. literal_read c (truth_literal (span x) b))
      (literal_truth b c) ts h rest
      ∙ ap (λ x. read_tokens (at (literal_read c (truth_literal x b))) rest) (sym e);
}
reads_literal (none_literal p) c = record {
  over = λ ts (e, h) rest g.
      token_run (kind.Keyword word.None) (literal_due c) (λ x. literal_read c (none_literal (span x))) (λ t. refl) ts h
      rest
      ∙ ap (λ x. read_tokens (at (literal_read c (none_literal x))) rest) (sym e);
}

-- ---- parameters

-- the tokens that end a parameter
abbrev end_kind : (last : Bool) → TokenKind
end_kind true = kind.Operator sign.RightParenthesis
end_kind false = kind.Operator sign.Comma

abbrev after_param : (last : Bool) → DefStart → List Param → State
after_param true d ps = params_read d ps
after_param false d ps = param_due d ps

name_end : (last : Bool) (d : DefStart) (ps : List Param) (n : Name) (t : Lexeme)
    → transition (param_named d ps n) t (end_kind last) ≡ go (after_param last d (ps ++ (param n None None ∷ [])))
name_end true d ps n t = refl
name_end false d ps n t = refl

literal_end : (last : Bool) (d : DefStart) (ps : List Param) (n : Name) (a : Option Ann) (l : Literal) (t : Lexeme)
    → transition (literal_read (default_of_param d ps n a) l) t (end_kind last)
    ≡ go (after_param last d (ps ++ (param n a (Some l) ∷ [])))
literal_end true d ps n a l t = refl
literal_end false d ps n a l t = refl

-- a whole annotation of a parameter, and what ends the parameter
annotated_end : (a : Ann) (last : Bool) (d : DefStart) (ps : List Param) (n : Name) {H X : Spelling} {final : State}
    → Reads H X (after_param last d (ps ++ (param n (Some a) None ∷ []))) final
    → Reads H (Annotation a ⟫ Just (end_kind last) ⟫ X) (part_due no_anns [] (ann_whole (of_param d ps n))) final
annotated_end a true d ps n r = annotation_then a (of_param d ps n) (kind.Operator sign.RightParenthesis) (refl, refl)
    (λ ts t. refl) r
annotated_end a false d ps n r = annotation_then a (of_param d ps n) (kind.Operator sign.Comma) (refl, refl)
    (λ ts t. refl) r

no_two : {Y : Spelling} (ts : List Lexeme) → Sequence (Nothing ⟫ Nothing) Y ts → Y ts
no_two ts w = no_front ts (map_right no_front (to_right w))

no_second : {A Y : Spelling} (ts : List Lexeme) → Sequence (A ⟫ Nothing) Y ts → Sequence A Y ts
no_second ts w = map_right no_front (to_right w)

reads_param : (n : Name) (a : Option Ann) (l : Option Literal) (last : Bool) (d : DefStart) (ps : List Param)
    {H X : Spelling} {final : State}
    → Reads H X (after_param last d (ps ++ (param n a l ∷ []))) final
    → Reads H (SpellsParam (param n a l) ⟫ Just (end_kind last) ⟫ X) (param_due d ps) final
reads_param n None None last d ps r = reads_map (λ ts w. map_right no_two (to_right w))
    (reads_and (reads_name_as n (λ m. param_named d ps m) (λ t. refl))
    (reads_and (reads_just (end_kind last) (name_end last d ps n)) r))
reads_param n (Some a) None last d ps r = reads_map (λ ts w. map_right (λ us v. to_right (no_second us v)) (to_right w))
    (reads_and (reads_name_as n (λ m. param_named d ps m) (λ t. refl))
    (reads_and (reads_just (kind.Operator sign.Colon) (λ t. refl)) (annotated_end a last d ps n r)))
reads_param n None (Some l) last d ps r = reads_map (λ ts w. map_right (λ us v. to_right (no_front us (to_right v)))
    (to_right w))
    (reads_and (reads_name_as n (λ m. param_named d ps m) (λ t. refl))
    (reads_and (reads_just (kind.Operator sign.Equal) (λ t. refl))
    (reads_and (reads_literal l (default_of_param d ps n None))
    (reads_and (reads_just (end_kind last) (literal_end last d ps n None l)) r))))
reads_param n (Some a) (Some l) last d ps r = reads_map (λ ts w.
    map_right (λ us v. map_right (λ vs x. map_right shift_right x) (to_right (to_right v))) (to_right w))
    (reads_and (reads_name_as n (λ m. param_named d ps m) (λ t. refl))
    (reads_and (reads_just (kind.Operator sign.Colon) (λ t. refl))
    (annotation_then a (of_param d ps n) (kind.Operator sign.Equal) (refl, refl) (λ ts t. refl)
    (reads_and (reads_literal l (default_of_param d ps n (Some a)))
    (reads_and (reads_just (end_kind last) (literal_end last d ps n (Some a) l)) r)))))

reads_params : (ps : List Param) (d : DefStart) (before : List Param) {H X : Spelling} {final : State}
    → Reads H X (params_read d (before ++ ps)) final → Reads H (SpellsParams ps ⟫ Sign sign.RightParenthesis ⟫ X)
    (param_due d before) final
reads_params [] d before {H} {X} {final} r = reads_map no_front
    (reads_and (reads_just (kind.Operator sign.RightParenthesis) (λ t. refl))
    (subst (λ z. Reads H X (params_read d z) final) (append-nil before) r))
reads_params (p ∷ ps) d before {H} {X} {final} r = reads_rest
    (reads_map (λ ts w. map_right shift_right w)
    (reads_param p.name p.annotation p.default false d before
    (reads_params ps d (before ++ (p ∷ [])) (subst (λ z. Reads H X (params_read d z) final)
    (sym (append_assoc before (p ∷ []) ps)) r))))
    (λ none. reads_param p.name p.annotation p.default true d before
    (subst (λ z. Reads H X (params_read d (before ++ (p ∷ z))) final) none r))

-- ---- functions

-- the form of a fixed name is compared
fixed_form : (f : List ℕ) (ws : List Fixed) (next : State) (t : Lexeme) → t.form ≡ f → bytes_eq f f ≡ true
    → transition (fixed (a_form f) ws next) t kind.Name ≡ go (due ws next)
fixed_form f ws next t e same = ap (λ z. on (bytes_eq z f) (due ws next) stuck) e
    ∙ ap (λ z. on z (due ws next) stuck) same

-- from the parenthesis on
reads_parameters : (owner : FunctionOwner) (d : DefStart) (ps : List Param) {H X : Spelling} {final : State}
    → Reads H X (params_read d ps) final → Reads H (Sign sign.LeftParenthesis ⟫ Parameters (is_in_class owner) ps ⟫ Sign
    sign.RightParenthesis ⟫ X) (params_of owner d) final
reads_parameters (of_module top) d ps r = reads_and (reads_just (kind.Operator sign.LeftParenthesis) (λ t. refl))
    (reads_params ps d [] r)
reads_parameters (of_class c ms) d ps {H} {X} {final} r = reads_and
    (reads_just (kind.Operator sign.LeftParenthesis) (λ t. refl))
    (reads_rest
    (reads_map (λ ts w. map_right shift_right w)
    (reads_and (reads_form (codes "self") (λ t e. fixed_form (codes "self") [] (self_read d) t e refl))
    (reads_and (reads_just (kind.Operator sign.Comma) (λ t. refl)) (reads_params ps d [] r))))
    (λ none. reads_and (reads_form (codes "self") (λ t e. fixed_form (codes "self") [] (self_read d) t e refl))
    (reads_and (reads_just (kind.Operator sign.RightParenthesis) (λ t. refl))
    (subst (λ z. Reads H X (params_read d z) final) none r))))

reads_returns_of : (d : DefStart) (ps : List Param) (a : Option Ann) (body : Stmts) {H : Spelling}
    → Reads H (Maybe (λ x. Sign sign.Arrow ⟫ Annotation x) a ⟫ Suite (λ ts. SpellsStmts body ts)) (params_read d ps)
    (after_def d.owner d.first (record { name = d.name; params = ps; returns = a; body = body }))
reads_returns_of d ps None body = reads_map no_front (reads_and (reads_just (kind.Operator sign.Colon) (λ t. refl))
    (reads_suite body (reads_stmts body) (def_body (record { start = d; params = ps; returns = None }))))
reads_returns_of d ps (Some a) body = reads_map shift_right
    (reads_and (reads_just (kind.Operator sign.Arrow) (λ t. refl))
    (annotation_then a (of_return d ps) (kind.Operator sign.Colon) (refl, refl) (λ ts t. refl)
    (reads_suite body (reads_stmts body) (def_body (record { start = d; params = ps; returns = Some a })))))

-- after `def`
abbrev DefRest : Bool → FuncDef → Spelling
DefRest method f = IsName f.name ⟫ Sign sign.LeftParenthesis ⟫ Parameters method f.params ⟫ Sign sign.RightParenthesis
    ⟫ Maybe (λ a. Sign sign.Arrow ⟫ Annotation a) f.returns ⟫ Suite (SpellsStmts f.body)

reads_def : (owner : FunctionOwner) (first : Place) (f : FuncDef) {H : Spelling}
    → Reads H (DefRest (is_in_class owner) f) (def_due owner first) (after_def owner first f)
reads_def owner first f =
    reads_and (reads_name_as f.name (λ m. params_of owner (record { owner = owner; first = first; name = m }))
    (λ t. refl))
    (reads_parameters owner (record { owner = owner; first = first; name = f.name }) f.params
    (reads_returns_of (record { owner = owner; first = first; name = f.name }) f.params f.returns f.body))

-- ---- classes

reads_field : (c : ClassStart) (ms : List Member) (n : Name) (a : Ann) (l : Option Literal) {H : Spelling}
    → Reads H (SpellsMember (field n a l)) (members c ms) (members c (ms ++ (field n a l ∷ [])))
reads_field c ms n a None =
    reads_and (reads_name_as n (λ m. fixed (a_kind (kind.Operator sign.Colon)) []
    (part_due no_anns [] (ann_whole (of_field c ms m)))) (λ t. refl))
    (reads_and (reads_just (kind.Operator sign.Colon) (λ t. refl))
    (reads_map (λ ts w. map_right no_front w) (annotation_last a (of_field c ms n) kind.Newline (refl, refl)
    (λ ts t. refl))))
reads_field c ms n a (Some l) =
    reads_and (reads_name_as n (λ m. fixed (a_kind (kind.Operator sign.Colon)) []
    (part_due no_anns [] (ann_whole (of_field c ms m)))) (λ t. refl))
    (reads_and (reads_just (kind.Operator sign.Colon) (λ t. refl))
    (reads_map (λ ts w. map_right shift_right w) (annotation_then a (of_field c ms n) (kind.Operator sign.Equal)
    (refl, refl) (λ ts t. refl)
    (reads_and (reads_literal l (default_of_field c ms n a)) (reads_any (reads_just kind.Newline (λ t. refl)))))))

reads_member : (c : ClassStart) (ms : List Member) (m : Member) {H : Spelling}
    → Reads H (SpellsMember m) (members c ms) (members c (ms ++ (m ∷ [])))
reads_member c ms (field_member f) = reads_field c ms f.name f.annotation f.default
reads_member c ms (method_member f) = reads_place (kind.Keyword word.Def) (λ p. def_due (of_class c ms) p) (λ t. refl)
    (λ p. reads_def (of_class c ms) p f)

reads_members : (c : ClassStart) (ms before : List Member) {H X : Spelling} {final : State}
    → Reads H X (members c (before ++ ms)) final → Reads H (SpellsMembers ms ⟫ X) (members c before) final
reads_members c [] before {H} {X} {final} r = reads_map no_front
    (subst (λ z. Reads H X (members c z) final) (append-nil before) r)
reads_members c (m ∷ ms) before {H} {X} {final} r = reads_map shift_right (reads_and (reads_member c before m)
    (reads_members c ms (before ++ (m ∷ [])) (subst (λ z. Reads H X (members c z) final)
    (sym (append_assoc before (m ∷ []) ms)) r)))

reads_body : (c : ClassStart) (ms : List Member) {H : Spelling} → Reads H (ClassBody ms ⟫ Just kind.Dedent)
    (members c []) (after_class c ms)
reads_body c [] = reads_map shift_right (reads_and (reads_just (kind.Keyword word.Pass) (λ t. refl))
    (reads_and (reads_just kind.Newline (λ t. refl)) (reads_any (reads_just kind.Dedent (λ t. refl)))))
reads_body c (m ∷ ms) = reads_members c (m ∷ ms) [] (reads_any (reads_just kind.Dedent (λ t. refl)))

reads_base : (top : Top) (first decorator : Place) (n : Name) (b : Option Name) (ms : List Member) {H : Spelling}
    → Reads H (Maybe (λ x. Sign sign.LeftParenthesis ⟫ IsName x ⟫ Sign sign.RightParenthesis) b ⟫ Suite (ClassBody ms))
    (class_named (record { top = top; first = first; decorator = decorator; name = n; base = None }))
    (after_class (record { top = top; first = first; decorator = decorator; name = n; base = b }) ms)
reads_base top first decorator n None ms = reads_map no_front
    (reads_and (reads_just (kind.Operator sign.Colon) (λ t. refl)) (reads_and (reads_just kind.Newline (λ t. refl))
    (reads_and (reads_just kind.Indent (λ t. refl)) (reads_body
    (record { top = top; first = first; decorator = decorator; name = n; base = None }) ms))))
reads_base top first decorator n (Some b) ms = reads_map (λ ts w. map_right shift_right (to_right w))
    (reads_and (reads_just (kind.Operator sign.LeftParenthesis) (λ t. refl))
    (reads_and (reads_name_as b (λ m. fixed (a_kind (kind.Operator sign.RightParenthesis))
    (a_kind (kind.Operator sign.Colon) ∷ a_kind kind.Newline ∷ a_kind kind.Indent ∷ [])
    (members (record { top = top; first = first; decorator = decorator; name = n; base = Some m }) [])) (λ t. refl))
    (reads_and (reads_just (kind.Operator sign.RightParenthesis) (λ t. refl))
    (reads_and (reads_just (kind.Operator sign.Colon) (λ t. refl)) (reads_and (reads_just kind.Newline (λ t. refl))
    (reads_and (reads_just kind.Indent (λ t. refl)) (reads_body
    (record { top = top; first = first; decorator = decorator; name = n; base = Some b }) ms)))))))

reads_class : (stage : HeaderStage) (top : Top) (first : Place) (c : ClassDef) {H : Spelling}
    → Reads H (Begins first (SpellsClass c)) (items stage top) (items after_headers (add_item top (class_item first c)))
reads_class stage top first c = begins_token first (kind.Operator sign.At) (λ q. decorator_due q top) (λ t. refl)
    (reads_and (reads_form_at (codes "dataclass") c.decorator (λ q. fixed (a_kind kind.Newline)
    (a_kind (kind.Keyword word.Class) ∷ []) (class_due first q top))
    (λ t e. ap (λ z. on (bytes_eq z (codes "dataclass")) (fixed (a_kind kind.Newline)
    (a_kind (kind.Keyword word.Class) ∷ []) (class_due first t.place top)) stuck) e))
    (reads_and (reads_just kind.Newline (λ t. refl)) (reads_and (reads_just (kind.Keyword word.Class) (λ t. refl))
    (reads_and
    (reads_name_as c.name (λ m. class_named (record {
      top = top;
      first = first;
      decorator = c.decorator;
      name = m;
      base = None;
    })) (λ t. refl))
    (reads_base top first c.decorator c.name c.base c.members)))))

-- ---- the module

reads_constant : (stage : HeaderStage) (top : Top) (first : Place) (n : Name) (a : Option Ann) (e : Expr) {H : Spelling}
    → Reads H (SpellsItem (constant_item first (record { name = n; annotation = a; value = e }))) (items stage top)
    (items after_headers (add_item top (constant_item first (record { name = n; annotation = a; value = e }))))
reads_constant stage top first n a e {H = H} = record {
  over = λ ts h rest g.
      let w = h.1 in let named = w.left in
      let place : n.place ≡ first = ap (λ m. m.place) named.2
      ∙ sym (h.0 ∙ ap first_place (w.all ∙ ap (λ x. x ++ w.back) named.3)) in
      let r = by_annotation a in
      r.over ts w rest g
      ∙ ap (λ q.
      read_tokens
      (at (items after_headers (add_item top (constant_item q (record { name = n; annotation = a; value = e })))))
      rest) place;
}
  where
    by_annotation : (a : Option Ann) → Reads H (IsName n ⟫ Maybe (λ x. Sign sign.Colon ⟫ Annotation x) a ⟫ Sign
        sign.Equal ⟫ Expression e ⟫ Just kind.Newline) (items stage top)
        (items after_headers (add_item top (constant_item n.place (record { name = n; annotation = a; value = e }))))
    by_annotation None = reads_and (reads_name_as n (λ m. item_named m top) (λ t. refl))
        (reads_map no_front (reads_and (reads_just (kind.Operator sign.Equal) (λ t. refl))
        (expression_last e (in_constant n None top) kind.Newline (omega arith) (λ n' ts t. refl))))
    by_annotation (Some x) = reads_and (reads_name_as n (λ m. item_named m top) (λ t. refl))
        (reads_map shift_right (reads_and (reads_just (kind.Operator sign.Colon) (λ t. refl))
        (annotation_then x (of_constant n top) (kind.Operator sign.Equal) (refl, refl) (λ ts t. refl)
        (expression_last e (in_constant n (Some x) top) kind.Newline (omega arith) (λ n' ts t. refl)))))

reads_item : (stage : HeaderStage) (top : Top) (i : Item) {H : Spelling}
    → Reads H (SpellsItem i) (items stage top) (items after_headers (add_item top i))
reads_item stage top (constant_item first c) = reads_constant stage top first c.name c.annotation c.value
reads_item stage top (class_item first c) = reads_class stage top first c
reads_item stage top (def_item first f) = begins_token first (kind.Keyword word.Def) (λ q. def_due (of_module top) q)
    (λ t. refl) (reads_def (of_module top) first f)

main_opens : (stage : HeaderStage) (top : Top) (main : Place) {H : Spelling} → Reads H (LastLine main) (items stage top)
    (ended (module_of top main))
main_opens stage top main = reads_and (reads_form_at (codes "main") main
    (λ q. item_named (record { place = q; text = codes "main" }) top)
    (λ t e. ap (λ z. go (item_named (record { place = t.place; text = z }) top)) e))
    (reads_and (reads_just (kind.Operator sign.LeftParenthesis) (λ t. refl))
    (reads_and (reads_just (kind.Operator sign.RightParenthesis) (λ t. refl))
    (reads_and (reads_just kind.Newline (λ t. refl)) (reads_any (reads_just kind.End (λ t. refl))))))

abbrev with_items : Top → List Item → Top
with_items top is = record top { items = top.items ++ is }

reads_items_of : (is : List Item) (stage : HeaderStage) (top : Top) (main : Place) {H : Spelling}
    → Reads H (SpellsItems is ⟫ LastLine main) (items stage top) (ended (module_of (with_items top is) main))
reads_items_of [] stage top main = reads_map no_front
    (reads_to (ended (module_of (with_items top []) main)) (λ rest g.
    ap (λ z. read_tokens (at (ended (module_of (record top { items = z }) main))) rest) (sym (append-nil top.items)))
    (main_opens stage top main))
reads_items_of (i ∷ is) stage top main = reads_map shift_right (reads_and (reads_item stage top i)
    (reads_to (ended (module_of (with_items top (i ∷ is)) main))
    (λ rest g. ap (λ z. read_tokens (at (ended (module_of (record top { items = z }) main))) rest)
    (append_assoc top.items (i ∷ []) is))
    (reads_items_of is after_headers (add_item top i) main)))

-- ---- headers

header_first : {X : Spelling} (source imported : List ℕ) (ts : List Lexeme) → Sequence (Header source imported) X ts
    → Sequence (Word word.From) (Named source ⟫ Word word.Import ⟫ Named imported ⟫ Just kind.Newline ⟫ X) ts
header_first source imported ts w = map_right (λ us v. map_right (λ vs x. map_right shift_right (to_right x))
    (to_right v)) (to_right w)

-- the rest of a header line
reads_import : (imported : List ℕ) → bytes_eq imported imported ≡ true → {H X : Spelling} {next final : State}
    → Reads H X next final
    → Reads H (Word word.Import ⟫ Named imported ⟫ Just kind.Newline ⟫ X)
    (fixed (a_kind (kind.Keyword word.Import)) (a_form imported ∷ a_kind kind.Newline ∷ []) next) final
reads_import imported same {next = next} r = reads_and (reads_just (kind.Keyword word.Import) (λ t. refl))
    (reads_and (reads_form imported (λ t e. fixed_form imported (a_kind kind.Newline ∷ []) next t e same))
    (reads_and (reads_just kind.Newline (λ t. refl)) r))

abbrev top_of : Bool → Bool → Top
top_of d a = record { imports_dataclass = d; imports_any = a; items = [] }

abbrev dataclass_line : State
dataclass_line = fixed (a_kind (kind.Keyword word.Import)) (a_form (codes "dataclass") ∷ a_kind kind.Newline ∷ [])
    (items after_dataclasses (top_of true false))

abbrev any_line : Bool → State
any_line d = fixed (a_kind (kind.Keyword word.Import)) (a_form (codes "Any") ∷ a_kind kind.Newline ∷ [])
    (items after_headers (top_of d true))

reads_typing : (a d : Bool) (stage : HeaderStage) → takes_header stage ≡ true → {H X : Spelling} {final : State}
    → ((later : HeaderStage) → Reads H X (items later (top_of d a)) final)
    → Reads H (OptionalHeader a (codes "typing") (codes "Any") ⟫ X) (items stage (top_of d false)) final
reads_typing false d stage takes r = reads_map no_front (r stage)
reads_typing true d stage takes r = reads_map (header_first (codes "typing") (codes "Any"))
    (reads_and (reads_just (kind.Keyword word.From) (λ t. ap (λ b. on b (importing stage (top_of d false)) stuck)
    takes))
    (reads_and
    (reads_form (codes "typing") (λ t e. ap (λ z. on (bytes_eq z (codes "dataclasses") && takes_dataclasses stage)
    dataclass_line (on (bytes_eq z (codes "typing")) (any_line d) stuck)) e))
    (reads_import (codes "Any") refl (r after_headers))))

reads_headers : (d a : Bool) {H X : Spelling} {final : State}
    → ((later : HeaderStage) → Reads H X (items later (top_of d a)) final)
    → Reads H (OptionalHeader d (codes "dataclasses") (codes "dataclass") ⟫ OptionalHeader a (codes "typing")
    (codes "Any") ⟫ X) (items after_future no_top) final
reads_headers false a r = reads_map no_front (reads_typing a false after_future refl r)
reads_headers true a r = reads_map (header_first (codes "dataclasses") (codes "dataclass"))
    (reads_and (reads_just (kind.Keyword word.From) (λ t. refl))
    (reads_and
    (reads_form (codes "dataclasses") (λ t e. ap (λ z. on (bytes_eq z (codes "dataclasses") && true) dataclass_line
    (on (bytes_eq z (codes "typing")) (any_line false) stuck)) e))
    (reads_import (codes "dataclass") refl (reads_typing a true after_dataclasses refl r))))

reads_module : (m : Module) → Reads Any (SpellsModule m) start (ended m)
reads_module m = reads_map (header_first (codes "__future__") (codes "annotations"))
    (reads_and (reads_just (kind.Keyword word.From) (λ t. refl))
    (reads_and (reads_form (codes "__future__") (λ t e. fixed_form (codes "__future__")
    (a_kind (kind.Keyword word.Import) ∷ a_form (codes "annotations") ∷ a_kind kind.Newline ∷ [])
    (items after_future no_top) t e refl))
    (reads_import (codes "annotations") refl (reads_headers m.imports_dataclass m.imports_any
    (λ later. reads_items_of m.items later (top_of m.imports_dataclass m.imports_any) m.main)))))

-- A module that tokens spell is read.
pub spelled_reads : (m : Module) (ts : List Lexeme) → SpellsModule m ts → outcome_of ts ≡ reads m
spelled_reads m ts h = let r = reads_module m in
    ap (read_tokens (at start)) (sym (append-nil ts)) ∙ r.over ts h [] tt ∙ run_none (ended m)

-- A list of tokens spells at most one module.
pub spells_one : (m n : Module) (ts : List Lexeme) → SpellsModule m ts → SpellsModule n ts → m ≡ n
spells_one m n ts hm hn = let e : reads m ≡ reads n = sym (spelled_reads m ts hm) ∙ spelled_reads n ts hn in cc
