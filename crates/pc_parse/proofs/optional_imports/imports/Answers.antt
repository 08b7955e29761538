use Rattle.std.proofs.Common.{[], ◌∷◌}
use Rattle.std.proofs.lemmas.Result.{err_from_is_err_and}
use Rattle.pc_token.specs.declared.token.TokenKind.TheVariants as kind
use Rattle.pc_token.specs.declared.token.Keyword.TheVariants as word
use Rattle.pc_grammar.specs.Machine.Kinds.{a_kind, a_form}
use Rattle.pc_grammar.specs.Machine.States.{fixed}
use Rattle.pc_reader.proofs.Streams.{blame}
use Rattle.pc_reader.proofs.Words.{form_due, form_read, kind_due, kind_read}
use Rattle.pc_parse.proofs.Imports.{import_read}
use Rattle.pc_parse.proofs.optional_imports.imports.Goals as goal

pub returns-in_err-expect_name : goal.returns-in_err-expect_name
returns-in_err-expect_name g c = let p = err_from_is_err_and c.from_residual.result c.from_residual.ensures.1 in
    rw (p.1, p.2)
    (blame (λ o w. λ next. w (fixed (a_form c.args.source.now)
    (a_kind (kind.Keyword word.Import) ∷ a_form c.args.imported.now ∷ a_kind kind.Newline ∷ []) next)
    (form_due c.args.source.now (a_kind (kind.Keyword word.Import) ∷ a_form c.args.imported.now
    ∷ a_kind kind.Newline ∷ []) next)) c.in_err-expect_name.ensures)

pub returns-in_err-expect : goal.returns-in_err-expect
returns-in_err-expect g c = let p = err_from_is_err_and c.from_residual-in_err-expect.result
    c.from_residual-in_err-expect.ensures.1 in
    rw (p.1, p.2) (blame (λ o w. λ next. form_read c.in_ok-expect_name.ensures
    (a_kind (kind.Keyword word.Import) ∷ a_form c.args.imported.now ∷ a_kind kind.Newline ∷ []) next o
    (w (fixed (a_kind (kind.Keyword word.Import)) (a_form c.args.imported.now ∷ a_kind kind.Newline ∷ []) next)
    (kind_due (kind.Keyword word.Import) (a_form c.args.imported.now ∷ a_kind kind.Newline ∷ []) next)))
    c.in_err-expect.ensures.taken)

pub returns-in_err-expect_name-2 : goal.returns-in_err-expect_name-2
returns-in_err-expect_name-2 g c = let p = err_from_is_err_and c.from_residual-in_err-expect_name-2.result
    c.from_residual-in_err-expect_name-2.ensures.1 in
    rw (p.1, p.2) (blame (λ o w. λ next. form_read c.in_ok-expect_name.ensures
    (a_kind (kind.Keyword word.Import) ∷ a_form c.args.imported.now ∷ a_kind kind.Newline ∷ []) next o
    (kind_read (kind.Keyword word.Import) c.in_ok-expect.ensures.taken c.in_ok-expect.ensures.kind
    (a_form c.args.imported.now ∷ a_kind kind.Newline ∷ []) next o
    (w (fixed (a_form c.args.imported.now) (a_kind kind.Newline ∷ []) next)
    (form_due c.args.imported.now (a_kind kind.Newline ∷ []) next)))) c.in_err-expect_name-2.ensures)

pub returns-in_err-expect-2 : goal.returns-in_err-expect-2
returns-in_err-expect-2 g c = let p = err_from_is_err_and c.from_residual-in_err-expect-2.result
    c.from_residual-in_err-expect-2.ensures.1 in
    rw (p.1, p.2) (blame (λ o w. λ next. form_read c.in_ok-expect_name.ensures
    (a_kind (kind.Keyword word.Import) ∷ a_form c.args.imported.now ∷ a_kind kind.Newline ∷ []) next o
    (kind_read (kind.Keyword word.Import) c.in_ok-expect.ensures.taken c.in_ok-expect.ensures.kind
    (a_form c.args.imported.now ∷ a_kind kind.Newline ∷ []) next o
    (form_read c.in_ok-expect_name-2.ensures (a_kind kind.Newline ∷ []) next o
    (w (fixed (a_kind kind.Newline) [] next) (kind_due kind.Newline [] next))))) c.in_err-expect-2.ensures.taken)

pub returns : goal.returns
returns g c = import_read c.args.source.now c.args.imported.now c.in_ok-expect_name.ensures c.in_ok-expect.ensures.taken
    c.in_ok-expect.ensures.kind c.in_ok-expect_name-2.ensures c.in_ok-expect-2.ensures.taken
    c.in_ok-expect-2.ensures.kind
