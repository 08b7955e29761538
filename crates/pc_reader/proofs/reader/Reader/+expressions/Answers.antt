use Rattle.std.proofs.Common.{◌≤◌, inl, inr, [], ◌∷◌, ◌++◌, refl, arith, ap, sym, ◌∙◌, subst}
use Rattle.std.proofs.lemmas.Result.{err_from_is_err_and}
use Rattle.pc_token.specs.declared.token.TokenKind.TheVariants as kind
use Rattle.pc_token.specs.declared.token.Keyword.TheVariants as word
use Rattle.pc_token.specs.declared.token.Operator.TheVariants as sign
use Rattle.pc_tree.specs.Tree.{tuple, no_exprs, more_exprs, no_entries, no_keywords, name_of}
use Rattle.pc_grammar.specs.Grammar.{first_place}
use Rattle.pc_grammar.specs.Machine.{at, transition}
use Rattle.pc_grammar.specs.Machine.States.{minus, denial, in_tuple, in_list, in_call, joining, applying, grouping}
use Rattle.pc_grammar.specs.Machine.States.{listing, indexing, naming, keying, valuing, operand, have, dotted}
use Rattle.pc_grammar.specs.Machine.States.{group_due}
use Rattle.pc_grammar.specs.Machine.States.{item_due, keyword_due, keyword_named, key_due}
use Rattle.pc_grammar.specs.Machine.Finishing.{add_keyword}
use Rattle.pc_grammar.specs.Machine.Expressions.{bare_part, joined, grouped}
use Rattle.pc_reader.specs.Internal.Operands.{infix_of, signs_on, applied_all}
use Rattle.pc_reader.specs.Reading.{lexeme, Came}
use Rattle.pc_reader.specs.Internal.Expressions.{NextIs, Over, Undotted}
use Rattle.pc_reader.proofs.Building.{first_more, starts_more, starts_at, ends_more, ends_at, keeps_grouped}
use Rattle.pc_reader.proofs.Building.{named_alike}
use Rattle.pc_reader.proofs.Endings.{needs_end, group_unended, index_unended, keyword_unended, key_unended}
use Rattle.pc_reader.proofs.Endings.{value_unended, item_unended, argument_unended, closer_is, not_closer}
use Rattle.pc_reader.proofs.Frames.{own_low}
use Rattle.pc_reader.proofs.Joining.{has_link, joins, signs_join, over_sign, over_any, low_undotted}
use Rattle.pc_reader.proofs.Listing.{item_begins, group_begins, key_begins, items_none, item_read, item_more, item_last}
use Rattle.pc_reader.proofs.Listing.{items_end, bracketed, passes_items, called_with}
use Rattle.pc_reader.proofs.Naming.{needs_name, keyword_begins, keyword_stuck, names_none, argument_read, argument_more}
use Rattle.pc_reader.proofs.Naming.{argument_last, arguments_end, name_read, names_more, passes_names}
use Rattle.pc_reader.proofs.Pairing.{key_read, value_due, value_read, entry_more, entry_last, entries_end}
use Rattle.pc_reader.proofs.Primaries.{behind_signs, minus_undotted, dot_turn, call_turn, index_turn, goes_on}
use Rattle.pc_reader.proofs.Primaries.{indexed_with}
use Rattle.pc_reader.proofs.Primaries.{unsigned_reads}
use Rattle.pc_reader.proofs.Signs.{signs_rank_is, sign_turn, applied_tokens, minus_high}
use Rattle.pc_reader.proofs.Steps.{same_place, step_to, needs, kind_seen, not_seen, on_result}
use Rattle.pc_reader.proofs.Streams.{blame}
use Rattle.pc_reader.proofs.Values.{on_level}
use Rattle.pc_reader.proofs.reader.Reader.+expressions.Goals as goal
use Rattle.pc_reader.proofs.reader.Reader.+expressions.Goals.{prefixed-else-level-le2-via-then-level-le2+else-sees-2}
use Rattle.pc_reader.proofs.reader.Reader.+expressions.Goals.{prefixed-else-level-le2-via-else-level-le2}
use Rattle.pc_reader.proofs.reader.Reader.+expressions.Goals.{signed-else-level-le2-via-then-level-le2+else-sees}
use Rattle.pc_reader.proofs.reader.Reader.+expressions.Goals.{signed-else-level-le2-via-else-level-le2}

pub atom-returns-in_err-items-clause-reads : goal.atom-returns-in_err-items-clause-reads
atom-returns-in_err-items-clause-reads g t c = let p = err_from_is_err_and c.from_residual-in_err-items.result
    c.from_residual-in_err-items.ensures.1 in
    rw (p.1, p.2)
    (blame (λ o w. λ s r. step_to (operand s) (item_due in_list no_exprs
    ((lexeme g.X.AsStr.text c.in_ok-open.ensures.token) ∷ []) s) c.in_ok-open.ensures.takes
    (ap (transition (operand s) (lexeme g.X.AsStr.text c.in_ok-open.ensures.token))
    (kind_seen (kind.Operator sign.LeftBracket) (sym c.sees-2.ensures ∙ c.if-sees-2.true)
    c.in_ok-open.ensures.takes.here)) o (w in_list no_exprs ((lexeme g.X.AsStr.text c.in_ok-open.ensures.token) ∷ []) s
    refl))
    c.in_err-items.ensures)

pub atom-returns-then-sees-2-clause-reads : goal.atom-returns-then-sees-2-clause-reads
atom-returns-then-sees-2-clause-reads g t c = let n = c.in_ok-items.ensures in
    bracketed g.X.AsStr g.I.Iterator in_list no_exprs
    ((lexeme g.X.AsStr.text c.in_ok-open.ensures.token) ∷ []) (n.lists in_list no_exprs
    ((lexeme g.X.AsStr.text c.in_ok-open.ensures.token) ∷ []) refl c.new.ensures)
    (starts_at (lexeme g.X.AsStr.text c.in_ok-open.ensures.token) [] c.in_ok-open.ensures.starts)
    (λ u e. same_place c.in_ok-open.ensures.takes.here e) (λ s r. step_to (operand s)
    (item_due in_list no_exprs ((lexeme g.X.AsStr.text c.in_ok-open.ensures.token) ∷ []) s) c.in_ok-open.ensures.takes
    (ap (transition (operand s) (lexeme g.X.AsStr.text c.in_ok-open.ensures.token))
    (kind_seen (kind.Operator sign.LeftBracket) (sym c.sees-2.ensures ∙ c.if-sees-2.true)
    c.in_ok-open.ensures.takes.here))) c.list.ensures.0 c.list.ensures.1 n.ready
    (omega (arith, c.in_ok-open.ensures.takes.later, n.later))

pub arguments-loop-self-init : goal.arguments-loop-self-init
arguments-loop-self-init g t c = record {
  ready = c.requires;
  later = omega arith;
  arguments =
      λ e ts. items_none g.X.AsStr g.I.Iterator
      c.args.self.now c.new-items.result (in_call e) no_exprs ts (λ k. c.new-items.ensures);
}

pub arguments-returns-in_err-close : goal.arguments-returns-in_err-close
arguments-returns-in_err-close g t c = let p = err_from_is_err_and c.from_residual.result c.from_residual.ensures.1 in
    rw (p.1, p.2) (blame (λ o w. λ f ts s. let v = c.loop-self.invariant.arguments f ts in
    v.leads s o (w (at (item_due (in_call f) v.items (ts ++ v.more) s)) (λ _. refl)))
    c.in_err-close.ensures)

pub arguments-returns-then-sees : goal.arguments-returns-then-sees
arguments-returns-then-sees g t c = let n = c.in_ok-close.ensures in record {
  ready = n.takes.ready;
  later = omega (arith, c.loop-self.invariant.later, n.takes.later);
  passes = λ f ts. passes_items g.X.AsStr g.I.Iterator (items_end g.X.AsStr g.I.Iterator
      (c.loop-self.invariant.arguments f ts) n.takes
      (kind_seen (kind.Operator sign.RightParenthesis) (sym c.sees.ensures ∙ c.if-sees.true) n.takes.here) n.ends tt)
      c.new.ensures;
}

pub arguments-returns-in_err-item : goal.arguments-returns-in_err-item
arguments-returns-in_err-item g t c = let p = err_from_is_err_and c.from_residual-in_err-item.result
    c.from_residual-in_err-item.ensures.1 in
    rw (p.1, p.2) (blame (λ o w. λ f ts s. let v = c.loop-self.invariant.arguments f ts in
    v.leads s o (item_begins g.X.AsStr.text g.I.Iterator.next_gives c.loop-self.self (in_call f) v.items
    (ts ++ v.more) s (sym c.sees.ensures ∙ c.if-sees.false) o
    (w (listing (in_call f) v.items (ts ++ v.more) s) refl))) c.in_err-item.ensures.reads)

pub arguments-returns-in_default : goal.arguments-returns-in_default
arguments-returns-in_default g t c = blame (λ o w. λ f ts s. let v = c.loop-self.invariant.arguments f
    ts in let q = c.in_ok-item.ensures.reads in item_read g.X.AsStr g.I.Iterator v s
    (sym c.sees.ensures ∙ c.if-sees.false) q o
    (w (have c.in_ok-item.item.level q.part (listing (in_call f) v.items (ts ++ v.more) s))
    (record {
      unfinished = refl;
      stuck_at = λ u e. keyword_stuck c.in_ok-item.item.level f v.items
          (ts ++ v.more) s q.part (lexeme g.X.AsStr.text u) u.kind
          (named_alike q.keeps ∙ c.in_default.ensures)
          (kind_seen (kind.Operator sign.Equal) (sym c.sees-in-loop-self.ensures ∙ c.if-sees-2.true) e);
    }))) c.misfit.ensures

pub arguments-returns-in_err-skip : goal.arguments-returns-in_err-skip
arguments-returns-in_err-skip g t c = let p = err_from_is_err_and c.from_residual-in_err-skip.result
    c.from_residual-in_err-skip.ensures.1 in
    rw (p.1, p.2) (blame (λ o w. λ f ts s. let v = c.loop-self.invariant.arguments f ts in
    let q = c.in_ok-item.ensures.reads in item_read g.X.AsStr g.I.Iterator v s (sym c.sees.ensures ∙ c.if-sees.false) q
    o
    (w (at (have c.in_ok-item.item.level q.part (listing (in_call f) v.items (ts ++ v.more)
    s))) (λ _. refl))) c.in_err-skip.ensures)

pub arguments-returns-in_err-keywords : goal.arguments-returns-in_err-keywords
arguments-returns-in_err-keywords g t c = let p = err_from_is_err_and c.from_residual-in_err-keywords.result
    c.from_residual-in_err-keywords.ensures.1 in
    rw (p.1, p.2) (blame (λ o w. λ f ts s. let v = c.loop-self.invariant.arguments f ts in
    let q = c.in_ok-item.ensures.reads in item_read g.X.AsStr g.I.Iterator v s (sym c.sees.ensures ∙ c.if-sees.false) q
    o
    (step_to (have c.in_ok-item.item.level q.part (listing (in_call f) v.items
    (ts ++ v.more) s)) (operand (naming f v.items no_keywords (name_of c.in-Some.name)
    ((ts ++ v.more) ++ (q.part.tokens ++ ((lexeme g.X.AsStr.text c.in_ok-skip.ensures.token) ∷ [])))
    s)) c.in_ok-skip.ensures.takes
    (keyword_begins c.in_ok-item.item.level f v.items (ts ++ v.more) s q.part
    (name_of c.in-Some.name) (lexeme g.X.AsStr.text c.in_ok-skip.ensures.token) _
    (named_alike q.keeps ∙ c.in-Some.ensures) (kind_seen (kind.Operator sign.Equal) (sym c.sees-in-loop-self.ensures
    ∙ c.if-sees-2.true) c.in_ok-skip.ensures.takes.here)) o (w f v.items
    ((ts ++ v.more) ++ (q.part.tokens ++ ((lexeme g.X.AsStr.text c.in_ok-skip.ensures.token) ∷ [])))
    s))) c.in_err-keywords.ensures)

pub arguments-returns-then-sees-2 : goal.arguments-returns-then-sees-2
arguments-returns-then-sees-2 g t c = let m = c.in_ok-keywords.ensures in let q = c.in_ok-item.ensures.reads in let k =
    c.in_ok-skip.ensures.takes in record {
      ready = m.ready;
      later = omega (arith, c.loop-self.invariant.later, q.later, k.later, m.later);
      passes = λ f ts. let v = c.loop-self.invariant.arguments f ts in passes_names g.X.AsStr g.I.Iterator v
          (sym c.sees.ensures ∙ c.if-sees.false) q k
          (kind_seen (kind.Operator sign.Equal) (sym c.sees-in-loop-self.ensures ∙ c.if-sees-2.true) k.here)
          (named_alike q.keeps ∙ c.in-Some.ensures) (λ us. m.names f v.items us);
    }

pub arguments-returns-in_err-close-2 : goal.arguments-returns-in_err-close-2
arguments-returns-in_err-close-2 g t c = let p = err_from_is_err_and c.from_residual-in_err-close-2.result
    c.from_residual-in_err-close-2.ensures.1 in
    rw (p.1, p.2) (blame (λ o w. λ f ts s. let v = c.loop-self.invariant.arguments f ts in
    let q = c.in_ok-item.ensures.reads in item_read g.X.AsStr g.I.Iterator v s (sym c.sees.ensures ∙ c.if-sees.false) q
    o
    (w (have c.in_ok-item.item.level q.part (listing (in_call f) v.items (ts ++ v.more) s))
    (needs_end g.X.AsStr.text (kind.Operator sign.RightParenthesis) c.in_ok-item.item.level q.part
    (listing (in_call f) v.items (ts ++ v.more) s) c.operators.new.self refl
    c.in_ok-item.ensures.over c.in_ok-item.ensures.undotted
    (λ u e n. argument_unended f v.items (ts ++ v.more) s q.part (lexeme g.X.AsStr.text u)
    u.kind (not_seen (kind.Operator sign.Comma) (sym c.sees-in-loop-self-2.ensures ∙ c.if-not-sees.true) e)
    (not_seen (kind.Operator sign.Equal) (sym c.sees-in-loop-self.ensures ∙ c.if-sees-2.false) e) n))))
    c.in_err-close-2.ensures)

pub arguments-returns-then-not-sees : goal.arguments-returns-then-not-sees
arguments-returns-then-not-sees g t c = let n = c.in_ok-close-2.ensures in let q = c.in_ok-item.ensures.reads in
    record {
      ready = n.takes.ready;
      later = omega (arith, c.loop-self.invariant.later, q.later, n.takes.later);
      passes = λ f ts. passes_items g.X.AsStr g.I.Iterator (item_last g.X.AsStr g.I.Iterator
          (c.loop-self.invariant.arguments f ts) (sym c.sees.ensures ∙ c.if-sees.false) q c.in_ok-push.ensures n.takes
          n.is n.ends tt) c.new-then-not-sees.ensures;
    }

pub arguments-returns-in_err-skip-2 : goal.arguments-returns-in_err-skip-2
arguments-returns-in_err-skip-2 g t c = let p = err_from_is_err_and c.from_residual-in_err-skip-2.result
    c.from_residual-in_err-skip-2.ensures.1 in
    rw (p.1, p.2) (blame (λ o w. λ f ts s. let v = c.loop-self.invariant.arguments f ts in
    let q = c.in_ok-item.ensures.reads in item_read g.X.AsStr g.I.Iterator v s (sym c.sees.ensures ∙ c.if-sees.false) q
    o
    (w (at (have c.in_ok-item.item.level q.part (listing (in_call f) v.items (ts ++ v.more)
    s))) (λ _. refl))) c.in_err-skip-2.ensures)

pub arguments-loop-self-preserved : goal.arguments-loop-self-preserved
arguments-loop-self-preserved g t c = let k = c.in_ok-skip-2.ensures.takes in let q = c.in_ok-item.ensures.reads in
    record {
      ready = k.ready;
      later = omega (arith, c.loop-self.invariant.later, q.later, k.later);
      arguments = λ e ts. item_more g.X.AsStr g.I.Iterator
          (c.loop-self.invariant.arguments e ts) (sym c.sees.ensures ∙ c.if-sees.false) q c.in_ok-push.ensures k
          (kind_seen (kind.Operator sign.Comma) (sym c.sees-in-loop-self-2.ensures ∙ c.if-not-sees.false) k.here);
    }

pub call-returns-in-Err : goal.call-returns-in-Err
call-returns-in-Err g t c = blame (λ o w. λ k q s kq. w q.tree (q.tokens ++ (k ∷ [])) s) c.in-Err.ensures

pub call-returns : goal.call-returns
call-returns g t c = let n = c.in-Ok.ensures in on_result c.called.result _ _ _ (λ o j. record {
  level_is = j.0;
  ready = n.ready;
  later = n.later;
  goes = λ k p kp. called_with g.X.AsStr g.I.Iterator k p kp (n.passes p.tree (p.tokens ++ (k ∷ [])))
      (λ es ks ke kk. j.1 p es ks kp ke kk);
}) c.called.ensures

pub dict-returns-in_err-open-clause-reads : goal.dict-returns-in_err-open-clause-reads
dict-returns-in_err-open-clause-reads g t c = let p = err_from_is_err_and c.from_residual.result
    c.from_residual.ensures.1 in
    rw (p.1, p.2) (blame (λ o w. λ s r. w (at (operand s)) (λ _. refl)) c.in_err-open.ensures)

pub dict-loop-self-init : goal.dict-loop-self-init
dict-loop-self-init g t c = let k = c.in_ok-open.ensures.takes in record {
  ready = k.ready;
  later = k.later;
  entries = record {
    entries = no_entries;
    tokens = (lexeme g.X.AsStr.text c.in_ok-open.ensures.token) ∷ [];
    starts = starts_at (lexeme g.X.AsStr.text c.in_ok-open.ensures.token) [] c.in_ok-open.ensures.starts;
    begins = λ u e. same_place k.here e;
    keeps = c.new-entries.ensures;
    leads = λ s r. step_to (operand s) (key_due no_entries ((lexeme g.X.AsStr.text c.in_ok-open.ensures.token) ∷ []) s)
        k
        (ap (transition (operand s) (lexeme g.X.AsStr.text c.in_ok-open.ensures.token))
        (kind_seen (kind.Operator sign.LeftBrace) r k.here));
  };
}

pub dict-returns-in_err-close-clause-reads : goal.dict-returns-in_err-close-clause-reads
dict-returns-in_err-close-clause-reads g t c = let p = err_from_is_err_and c.from_residual-in_err-close.result
    c.from_residual-in_err-close.ensures.1 in
    rw (p.1, p.2) (blame (λ o w. λ s r. let v = c.loop-self.invariant.entries in
    v.leads s r o (w (at (key_due v.entries v.tokens s)) (λ _. refl))) c.in_err-close.ensures)

pub dict-returns-then-sees-clause-reads : goal.dict-returns-then-sees-clause-reads
dict-returns-then-sees-clause-reads g t c = entries_end g.X.AsStr g.I.Iterator c.loop-self.invariant.entries
    c.in_ok-close.ensures.takes
    (kind_seen (kind.Operator sign.RightBrace) (sym c.sees.ensures ∙ c.if-sees.true) c.in_ok-close.ensures.takes.here)
    c.in_ok-close.ensures.ends
    c.dict.ensures.0 c.dict.ensures.1 c.loop-self.invariant.later

pub dict-returns-in_err-key-clause-reads : goal.dict-returns-in_err-key-clause-reads
dict-returns-in_err-key-clause-reads g t c = let p = err_from_is_err_and c.from_residual-in_err-key.result
    c.from_residual-in_err-key.ensures.1 in
    rw (p.1, p.2) (blame (λ o w. λ s r. let v = c.loop-self.invariant.entries in
    v.leads s r o (key_begins g.X.AsStr.text g.I.Iterator.next_gives c.loop-self.self v.entries v.tokens s
    (sym c.sees.ensures ∙ c.if-sees.false) o (w (keying v.entries v.tokens s) refl))) c.in_err-key.ensures.reads)

pub dict-returns-in-Err-clause-reads : goal.dict-returns-in-Err-clause-reads
dict-returns-in-Err-clause-reads g t c = blame (λ o w. λ s r. let v = c.loop-self.invariant.entries in let q = c.in_ok-key.ensures.reads in
    key_read g.X.AsStr g.I.Iterator v s r
    (sym c.sees.ensures ∙ c.if-sees.false) q o (w (have c.in_ok-key.key.level q.part (keying v.entries v.tokens s))
    (needs_end g.X.AsStr.text (kind.Operator sign.Colon) c.in_ok-key.key.level q.part (keying v.entries v.tokens s)
    c.operators.new.self refl c.in_ok-key.ensures.over c.in_ok-key.ensures.undotted
    (λ u e n. key_unended v.entries v.tokens s q.part (lexeme g.X.AsStr.text u) u.kind n))))
    c.in-Err.ensures

pub dict-returns-in-Err-operators-clause-reads : goal.dict-returns-in-Err-operators-clause-reads
dict-returns-in-Err-operators-clause-reads g t c = blame (λ o w. λ s r. let v = c.loop-self.invariant.entries in let q = c.in_ok-key.ensures.reads in
    value_due g.X.AsStr g.I.Iterator v s r
    (sym c.sees.ensures ∙ c.if-sees.false) q c.in-Ok.ensures.takes c.in-Ok.ensures.is o
    (w
    (valuing v.entries q.part.tree
    (v.tokens ++ (q.part.tokens ++ ((lexeme g.X.AsStr.text c.in-Ok.ensures.token) ∷ []))) s) refl))
    c.in-Err-operators.ensures.reads

pub dict-returns-in_err-close-2-clause-reads : goal.dict-returns-in_err-close-2-clause-reads
dict-returns-in_err-close-2-clause-reads g t c = let p = err_from_is_err_and c.from_residual-in_err-close-2.result
    c.from_residual-in_err-close-2.ensures.1 in
    rw (p.1, p.2) (blame (λ o w. λ s r. let v = c.loop-self.invariant.entries in let q = c.in_ok-key.ensures.reads in
    let y = c.in-Ok-operators.ensures.reads in value_read g.X.AsStr g.I.Iterator v s r
    (sym c.sees.ensures ∙ c.if-sees.false) q c.in-Ok.ensures.takes
    c.in-Ok.ensures.is y o
    (w (have c.in-Ok-operators.value.level y.part (valuing v.entries q.part.tree
    (v.tokens ++ (q.part.tokens ++ ((lexeme g.X.AsStr.text c.in-Ok.ensures.token) ∷ []))) s))
    (needs_end g.X.AsStr.text (kind.Operator sign.RightBrace) c.in-Ok-operators.value.level y.part
    (valuing v.entries q.part.tree
    (v.tokens ++ (q.part.tokens ++ ((lexeme g.X.AsStr.text c.in-Ok.ensures.token) ∷ []))) s)
    c.operators-in-loop-self.new.self refl c.in-Ok-operators.ensures.over c.in-Ok-operators.ensures.undotted
    (λ u e n. value_unended v.entries q.part.tree
    (v.tokens ++ (q.part.tokens ++ ((lexeme g.X.AsStr.text c.in-Ok.ensures.token) ∷ []))) s y.part
    (lexeme g.X.AsStr.text u) u.kind (not_seen (kind.Operator sign.Comma) (sym c.sees-in-loop-self.ensures
    ∙ c.if-not-sees.true) e) n)))) c.in_err-close-2.ensures)

pub dict-returns-then-not-sees-clause-reads : goal.dict-returns-then-not-sees-clause-reads
dict-returns-then-not-sees-clause-reads g t c = entry_last g.X.AsStr g.I.Iterator c.loop-self.invariant.entries
    (sym c.sees.ensures ∙ c.if-sees.false)
    c.in_ok-key.ensures.reads c.in-Ok.ensures.takes c.in-Ok.ensures.is
    c.in-Ok-operators.ensures.reads
    c.in_ok-push.ensures c.in_ok-close-2.ensures.takes c.in_ok-close-2.ensures.is c.in_ok-close-2.ensures.ends
    c.dict-then-not-sees.ensures.0
    c.dict-then-not-sees.ensures.1 c.loop-self.invariant.later

pub dict-returns-in_err-skip-clause-reads : goal.dict-returns-in_err-skip-clause-reads
dict-returns-in_err-skip-clause-reads g t c = let p = err_from_is_err_and c.from_residual-in_err-skip.result
    c.from_residual-in_err-skip.ensures.1 in
    rw (p.1, p.2) (blame (λ o w. λ s r. let v = c.loop-self.invariant.entries in let q = c.in_ok-key.ensures.reads in
    let y = c.in-Ok-operators.ensures.reads in value_read g.X.AsStr g.I.Iterator v s r
    (sym c.sees.ensures ∙ c.if-sees.false) q c.in-Ok.ensures.takes
    c.in-Ok.ensures.is y o
    (w
    (at (have c.in-Ok-operators.value.level y.part (valuing v.entries q.part.tree
    (v.tokens ++ (q.part.tokens ++ ((lexeme g.X.AsStr.text c.in-Ok.ensures.token) ∷ []))) s))) (λ _.
    refl)))
    c.in_err-skip.ensures)

pub dict-loop-self-preserved : goal.dict-loop-self-preserved
dict-loop-self-preserved g t c = let k = c.in_ok-skip.ensures.takes in record {
  ready = k.ready;
  later = omega (
    arith,
    c.loop-self.invariant.later,
    c.in_ok-key.ensures.reads.later,
    c.in-Ok.ensures.takes.later,
    c.in-Ok-operators.ensures.reads.later,
    k.later,
  );
  entries = entry_more g.X.AsStr g.I.Iterator
      c.loop-self.invariant.entries (sym c.sees.ensures ∙ c.if-sees.false) c.in_ok-key.ensures.reads
      c.in-Ok.ensures.takes c.in-Ok.ensures.is c.in-Ok-operators.ensures.reads
      c.in_ok-push.ensures k
      (kind_seen (kind.Operator sign.Comma) (sym c.sees-in-loop-self.ensures ∙ c.if-not-sees.false)
      c.in_ok-skip.ensures.takes.here);
}

pub group-returns-in_err-open-clause-reads : goal.group-returns-in_err-open-clause-reads
group-returns-in_err-open-clause-reads g t c = let p = err_from_is_err_and c.from_residual.result
    c.from_residual.ensures.1 in
    rw (p.1, p.2) (blame (λ o w. λ s r. w (at (operand s)) (λ _. refl)) c.in_err-open.ensures)

pub group-returns-in_err-close-clause-reads : goal.group-returns-in_err-close-clause-reads
group-returns-in_err-close-clause-reads g t c = let p = err_from_is_err_and c.from_residual-in_err-close.result
    c.from_residual-in_err-close.ensures.1 in
    rw (p.1, p.2)
    (blame (λ o w. λ s r. step_to (operand s) (group_due ((lexeme g.X.AsStr.text c.in_ok-open.ensures.token) ∷ []) s)
    c.in_ok-open.ensures.takes (ap (transition (operand s) (lexeme g.X.AsStr.text c.in_ok-open.ensures.token))
    (kind_seen (kind.Operator sign.LeftParenthesis) r c.in_ok-open.ensures.takes.here)) o
    (w (at (group_due ((lexeme g.X.AsStr.text c.in_ok-open.ensures.token) ∷ []) s)) (λ _. refl)))
    c.in_err-close.ensures)

pub group-returns-then-sees-clause-reads : goal.group-returns-then-sees-clause-reads
group-returns-then-sees-clause-reads g t c = let k = c.in_ok-close.ensures.takes in record {
  part = (bare_part (λ p. tuple p no_exprs) ((lexeme g.X.AsStr.text c.in_ok-open.ensures.token)
      ∷ (lexeme g.X.AsStr.text c.in_ok-close.ensures.token) ∷ []));
  keeps = c.tuple.ensures.1 no_exprs c.new.ensures _ (starts_at (lexeme g.X.AsStr.text c.in_ok-open.ensures.token) _
      c.in_ok-open.ensures.starts)
      (ends_more ((lexeme g.X.AsStr.text c.in_ok-open.ensures.token) ∷ [])
      (ends_at (lexeme g.X.AsStr.text c.in_ok-close.ensures.token) c.in_ok-close.ensures.ends));
  low = omega (arith, c.tuple.ensures.0);
  ready = k.ready;
  later = omega (arith, c.in_ok-open.ensures.takes.later, k.later);
  begins = λ u e. same_place c.in_ok-open.ensures.takes.here e;
  leads = λ s r o x. step_to (operand s) (group_due ((lexeme g.X.AsStr.text c.in_ok-open.ensures.token) ∷ []) s)
      c.in_ok-open.ensures.takes (ap (transition (operand s) (lexeme g.X.AsStr.text c.in_ok-open.ensures.token))
      (kind_seen (kind.Operator sign.LeftParenthesis) r c.in_ok-open.ensures.takes.here)) o
      (step_to (group_due ((lexeme g.X.AsStr.text c.in_ok-open.ensures.token) ∷ []) s)
      (have 7 (bare_part (λ p. tuple p no_exprs) ((lexeme g.X.AsStr.text c.in_ok-open.ensures.token)
      ∷ (lexeme g.X.AsStr.text c.in_ok-close.ensures.token) ∷ [])) s) k
      (ap (transition (group_due ((lexeme g.X.AsStr.text c.in_ok-open.ensures.token) ∷ []) s)
      (lexeme g.X.AsStr.text c.in_ok-close.ensures.token)) (kind_seen (kind.Operator sign.RightParenthesis)
      (sym c.sees.ensures ∙ c.if-sees.true) c.in_ok-close.ensures.takes.here)) o
      (subst (λ z. Came g.X.AsStr.text g.I.Iterator.next_gives c.take_place-then-sees.new.self
      (at
      (have z (bare_part (λ p. tuple p no_exprs) ((lexeme g.X.AsStr.text c.in_ok-open.ensures.token)
      ∷ (lexeme g.X.AsStr.text c.in_ok-close.ensures.token) ∷ [])) s)) o) c.tuple.ensures.0 x));
}

pub group-returns-in_err-first-clause-reads : goal.group-returns-in_err-first-clause-reads
group-returns-in_err-first-clause-reads g t c = let p = err_from_is_err_and c.from_residual-in_err-first.result
    c.from_residual-in_err-first.ensures.1 in
    rw (p.1, p.2)
    (blame (λ o w. λ s r. step_to (operand s) (group_due ((lexeme g.X.AsStr.text c.in_ok-open.ensures.token) ∷ []) s)
    c.in_ok-open.ensures.takes (ap (transition (operand s) (lexeme g.X.AsStr.text c.in_ok-open.ensures.token))
    (kind_seen (kind.Operator sign.LeftParenthesis) r c.in_ok-open.ensures.takes.here)) o
    (group_begins g.X.AsStr.text g.I.Iterator.next_gives c.take_place.new.self
    ((lexeme g.X.AsStr.text c.in_ok-open.ensures.token) ∷ []) s (sym c.sees.ensures ∙ c.if-sees.false) o
    (w (grouping ((lexeme g.X.AsStr.text c.in_ok-open.ensures.token) ∷ []) s) refl))) c.in_err-first.ensures.reads)

pub group-returns-in-Err-clause-reads : goal.group-returns-in-Err-clause-reads
group-returns-in-Err-clause-reads g t c = blame (λ o w. λ s r. let q = c.in_ok-first.ensures.reads in
    step_to (operand s) (group_due ((lexeme g.X.AsStr.text c.in_ok-open.ensures.token) ∷ []) s)
    c.in_ok-open.ensures.takes
    (ap (transition (operand s) (lexeme g.X.AsStr.text c.in_ok-open.ensures.token))
    (kind_seen (kind.Operator sign.LeftParenthesis) r c.in_ok-open.ensures.takes.here)) o
    (group_begins g.X.AsStr.text g.I.Iterator.next_gives c.take_place.new.self
    ((lexeme g.X.AsStr.text c.in_ok-open.ensures.token) ∷ []) s (sym c.sees.ensures ∙ c.if-sees.false) o
    (q.leads (grouping ((lexeme g.X.AsStr.text c.in_ok-open.ensures.token) ∷ []) s) refl o
    (w (at (have c.in_ok-first.first.level q.part (grouping ((lexeme g.X.AsStr.text c.in_ok-open.ensures.token) ∷ [])
    s)))
    (λ _. refl))))) c.in-Err.ensures

pub group-returns-then-sees-2-clause-reads : goal.group-returns-then-sees-2-clause-reads
group-returns-then-sees-2-clause-reads g t c = let q = c.in_ok-first.ensures.reads in let k =
    c.in-Ok.ensures.takes in
    rw c.grouped.ensures (record {
      part = grouped ((lexeme g.X.AsStr.text c.in_ok-open.ensures.token) ∷ []) q.part
          (lexeme g.X.AsStr.text c.in-Ok.ensures.token);
      keeps = keeps_grouped c.in_ok-first.first q.part (lexeme g.X.AsStr.text c.in_ok-open.ensures.token)
          (lexeme g.X.AsStr.text c.in-Ok.ensures.token) c.in_ok-open.ensures.starts c.in-Ok.ensures.ends
          q.keeps;
      low = omega arith;
      ready = k.ready;
      later = omega (arith, c.in_ok-open.ensures.takes.later, q.later, k.later);
      begins = λ u e. same_place c.in_ok-open.ensures.takes.here e;
      leads = λ s r o x. step_to (operand s) (group_due ((lexeme g.X.AsStr.text c.in_ok-open.ensures.token) ∷ []) s)
          c.in_ok-open.ensures.takes (ap (transition (operand s) (lexeme g.X.AsStr.text c.in_ok-open.ensures.token))
          (kind_seen (kind.Operator sign.LeftParenthesis) r c.in_ok-open.ensures.takes.here)) o
          (group_begins g.X.AsStr.text g.I.Iterator.next_gives c.take_place.new.self
          ((lexeme g.X.AsStr.text c.in_ok-open.ensures.token) ∷ []) s (sym c.sees.ensures ∙ c.if-sees.false) o
          (q.leads (grouping ((lexeme g.X.AsStr.text c.in_ok-open.ensures.token) ∷ []) s) refl o
          (step_to (have c.in_ok-first.first.level q.part (grouping ((lexeme g.X.AsStr.text c.in_ok-open.ensures.token)
          ∷ []) s))
          (have 7 (grouped ((lexeme g.X.AsStr.text c.in_ok-open.ensures.token) ∷ []) q.part
          (lexeme g.X.AsStr.text c.in-Ok.ensures.token)) s) k
          (ap (transition (have c.in_ok-first.first.level q.part
          (grouping ((lexeme g.X.AsStr.text c.in_ok-open.ensures.token) ∷ []) s))
          (lexeme g.X.AsStr.text c.in-Ok.ensures.token)) (kind_seen (kind.Operator sign.RightParenthesis)
          (sym c.sees-2.ensures ∙ c.if-sees-2.true) c.in-Ok.ensures.takes.here)) o x)));
    })

pub group-returns-in-Err-expect_place-clause-reads : goal.group-returns-in-Err-expect_place-clause-reads
group-returns-in-Err-expect_place-clause-reads g t c = blame (λ o w. λ s r. let q = c.in_ok-first.ensures.reads in
    step_to (operand s) (group_due ((lexeme g.X.AsStr.text c.in_ok-open.ensures.token) ∷ []) s)
    c.in_ok-open.ensures.takes
    (ap (transition (operand s) (lexeme g.X.AsStr.text c.in_ok-open.ensures.token))
    (kind_seen (kind.Operator sign.LeftParenthesis) r c.in_ok-open.ensures.takes.here)) o
    (group_begins g.X.AsStr.text g.I.Iterator.next_gives c.take_place.new.self
    ((lexeme g.X.AsStr.text c.in_ok-open.ensures.token) ∷ []) s (sym c.sees.ensures ∙ c.if-sees.false) o
    (q.leads (grouping ((lexeme g.X.AsStr.text c.in_ok-open.ensures.token) ∷ []) s) refl o
    (w (have c.in_ok-first.first.level q.part (grouping ((lexeme g.X.AsStr.text c.in_ok-open.ensures.token) ∷ []) s))
    (needs_end g.X.AsStr.text (kind.Operator sign.Comma) c.in_ok-first.first.level q.part
    (grouping ((lexeme g.X.AsStr.text c.in_ok-open.ensures.token) ∷ []) s) c.operators.new.self refl
    c.in_ok-first.ensures.over c.in_ok-first.ensures.undotted
    (λ u e n. group_unended ((lexeme g.X.AsStr.text c.in_ok-open.ensures.token) ∷ []) s q.part (lexeme g.X.AsStr.text u)
    u.kind (not_seen (kind.Operator sign.RightParenthesis) (sym c.sees-2.ensures ∙ c.if-sees-2.false) e) n))))))
    c.in-Err-expect_place.ensures

pub group-returns-in_err-items-clause-reads : goal.group-returns-in_err-items-clause-reads
group-returns-in_err-items-clause-reads g t c = let p = err_from_is_err_and c.from_residual-in_err-items.result
    c.from_residual-in_err-items.ensures.1 in
    rw (p.1, p.2) (blame (λ o w. λ s r. let q = c.in_ok-first.ensures.reads in
    step_to (operand s) (group_due ((lexeme g.X.AsStr.text c.in_ok-open.ensures.token) ∷ []) s)
    c.in_ok-open.ensures.takes
    (ap (transition (operand s) (lexeme g.X.AsStr.text c.in_ok-open.ensures.token))
    (kind_seen (kind.Operator sign.LeftParenthesis) r c.in_ok-open.ensures.takes.here)) o
    (group_begins g.X.AsStr.text g.I.Iterator.next_gives c.take_place.new.self
    ((lexeme g.X.AsStr.text c.in_ok-open.ensures.token) ∷ []) s (sym c.sees.ensures ∙ c.if-sees.false) o
    (q.leads (grouping ((lexeme g.X.AsStr.text c.in_ok-open.ensures.token) ∷ []) s) refl o
    (step_to (have c.in_ok-first.first.level q.part (grouping ((lexeme g.X.AsStr.text c.in_ok-open.ensures.token) ∷ [])
    s))
    (item_due in_tuple (more_exprs q.part.tree no_exprs) ((lexeme g.X.AsStr.text c.in_ok-open.ensures.token)
    ∷ (q.part.tokens ++ ((lexeme g.X.AsStr.text c.in-Ok-expect_place.ensures.token) ∷ []))) s)
    c.in-Ok-expect_place.ensures.takes
    (ap (transition (have c.in_ok-first.first.level q.part (grouping ((lexeme g.X.AsStr.text c.in_ok-open.ensures.token)
    ∷ [])
    s))
    (lexeme g.X.AsStr.text c.in-Ok-expect_place.ensures.token)) c.in-Ok-expect_place.ensures.is) o
    (w in_tuple (more_exprs q.part.tree no_exprs) ((lexeme g.X.AsStr.text c.in_ok-open.ensures.token)
    ∷ (q.part.tokens ++ ((lexeme g.X.AsStr.text c.in-Ok-expect_place.ensures.token) ∷ []))) s refl)))))
    c.in_err-items.ensures)

pub group-returns-clause-reads : goal.group-returns-clause-reads
group-returns-clause-reads g t c = let q = c.in_ok-first.ensures.reads in let n = c.in_ok-items.ensures in
    bracketed g.X.AsStr g.I.Iterator in_tuple
    (more_exprs q.part.tree no_exprs) ((lexeme g.X.AsStr.text c.in_ok-open.ensures.token)
    ∷ (q.part.tokens ++ ((lexeme g.X.AsStr.text c.in-Ok-expect_place.ensures.token) ∷ [])))
    (n.lists in_tuple (more_exprs q.part.tree no_exprs) ((lexeme g.X.AsStr.text c.in_ok-open.ensures.token)
    ∷ (q.part.tokens ++ ((lexeme g.X.AsStr.text c.in-Ok-expect_place.ensures.token) ∷ []))) refl
    (c.in_ok-push.ensures no_exprs q.part c.new-some.ensures q.keeps))
    (starts_at (lexeme g.X.AsStr.text c.in_ok-open.ensures.token) _ c.in_ok-open.ensures.starts)
    (λ u e. same_place c.in_ok-open.ensures.takes.here e) (λ s r o x. step_to (operand s)
    (group_due ((lexeme g.X.AsStr.text c.in_ok-open.ensures.token) ∷ []) s) c.in_ok-open.ensures.takes
    (ap (transition (operand s) (lexeme g.X.AsStr.text c.in_ok-open.ensures.token))
    (kind_seen (kind.Operator sign.LeftParenthesis) r c.in_ok-open.ensures.takes.here)) o
    (group_begins g.X.AsStr.text g.I.Iterator.next_gives c.take_place.new.self
    ((lexeme g.X.AsStr.text c.in_ok-open.ensures.token) ∷ []) s (sym c.sees.ensures ∙ c.if-sees.false) o
    (q.leads (grouping ((lexeme g.X.AsStr.text c.in_ok-open.ensures.token) ∷ []) s) refl o
    (step_to (have c.in_ok-first.first.level q.part (grouping ((lexeme g.X.AsStr.text c.in_ok-open.ensures.token) ∷ [])
    s))
    (item_due in_tuple (more_exprs q.part.tree no_exprs) ((lexeme g.X.AsStr.text c.in_ok-open.ensures.token)
    ∷ (q.part.tokens ++ ((lexeme g.X.AsStr.text c.in-Ok-expect_place.ensures.token) ∷ []))) s)
    c.in-Ok-expect_place.ensures.takes
    (ap (transition (have c.in_ok-first.first.level q.part (grouping ((lexeme g.X.AsStr.text c.in_ok-open.ensures.token)
    ∷ [])
    s))
    (lexeme g.X.AsStr.text c.in-Ok-expect_place.ensures.token)) c.in-Ok-expect_place.ensures.is) o (x)))))
    c.tuple-2.ensures.0
    c.tuple-2.ensures.1 n.ready (omega (
      arith,
      c.in_ok-open.ensures.takes.later,
      q.later,
      c.in-Ok-expect_place.ensures.takes.later,
      n.later,
    ))

pub index-returns-in-Err : goal.index-returns-in-Err
index-returns-in-Err g t c = blame (λ o w. λ k q s kq. w (indexing q.tree (q.tokens ++ (k ∷ [])) s) refl)
    c.in-Err.ensures.reads

pub index-returns-in-Err-expect_place : goal.index-returns-in-Err-expect_place
index-returns-in-Err-expect_place g t c = blame (λ o w. λ k r s kr. let q = c.in-Ok.ensures.reads in
    q.leads (indexing r.tree (r.tokens ++ (k ∷ [])) s) refl o
    (w (have c.in-Ok.key.level q.part (indexing r.tree (r.tokens ++ (k ∷ [])) s))
    (needs_end g.X.AsStr.text (kind.Operator sign.RightBracket) c.in-Ok.key.level q.part
    (indexing r.tree (r.tokens ++ (k ∷ [])) s) c.operators.new.self refl c.in-Ok.ensures.over
    c.in-Ok.ensures.undotted
    (λ u e n. index_unended r.tree (r.tokens ++ (k ∷ [])) s q.part (lexeme g.X.AsStr.text u) u.kind n))))
    c.in-Err-expect_place.ensures

pub index-returns : goal.index-returns
index-returns g t c = let k = c.in-Ok-expect_place.ensures in on_result c.indexed.result _ _ _
    (λ o j. indexed_with g.X.AsStr g.I.Iterator c.in-Ok.ensures.reads k.takes k.is k.ends j.0 j.1) c.indexed.ensures

pub items-loop-alloc-init : goal.items-loop-alloc-init
items-loop-alloc-init g t c = record {
  ready = c.requires;
  later = omega arith;
  lists =
      λ h xs ts cl. items_none g.X.AsStr g.I.Iterator
      c.args.self.now c.args.some h xs ts (λ k. k);
}

pub items-returns-in_err-last : goal.items-returns-in_err-last
items-returns-in_err-last g t c = let p = err_from_is_err_and c.from_residual.result c.from_residual.ensures.1 in
    rw (p.1, p.2) (blame (λ o w. λ h xs ts s cl. let v = c.loop-alloc.invariant.lists h xs ts cl in
    v.leads s o (w (at (item_due h v.items (ts ++ v.more) s)) (λ _. refl))) c.in_err-last.ensures)

pub items-returns-then-sees : goal.items-returns-then-sees
items-returns-then-sees g t c = let k = c.in_ok-last.ensures.takes in record {
  ready = k.ready;
  later = omega (arith, c.loop-alloc.invariant.later, k.later);
  lists = λ h xs ts cl kept. items_end g.X.AsStr g.I.Iterator (c.loop-alloc.invariant.lists h xs ts cl) k
      (kind_seen (kind.Operator c.args.close) (sym c.sees.ensures ∙ c.if-sees.true) k.here
      ∙ sym (closer_is h c.args.close cl)) c.in_ok-last.ensures.ends kept;
}

pub items-returns-in_err-item : goal.items-returns-in_err-item
items-returns-in_err-item g t c = let p = err_from_is_err_and c.from_residual-in_err-item.result
    c.from_residual-in_err-item.ensures.1 in
    rw (p.1, p.2) (blame (λ o w. λ h xs ts s cl. let v = c.loop-alloc.invariant.lists h xs ts cl in
    v.leads s o (item_begins g.X.AsStr.text g.I.Iterator.next_gives c.loop-alloc.self h v.items (ts ++ v.more) s
    (not_closer c.loop-alloc.self.ahead h c.args.close cl (sym c.sees.ensures ∙ c.if-sees.false)) o
    (w (listing h v.items (ts ++ v.more) s) refl))) c.in_err-item.ensures.reads)

pub items-returns-in_err-last-2 : goal.items-returns-in_err-last-2
items-returns-in_err-last-2 g t c = let p = err_from_is_err_and c.from_residual-in_err-last-2.result
    c.from_residual-in_err-last-2.ensures.1 in
    rw (p.1, p.2) (blame (λ o w. λ h xs ts s cl. let v = c.loop-alloc.invariant.lists h xs ts cl in let q =
    c.in_ok-item.ensures.reads in item_read g.X.AsStr g.I.Iterator v s
    (not_closer c.loop-alloc.self.ahead h c.args.close cl
    (sym c.sees.ensures ∙ c.if-sees.false)) q o
    (w (have c.in_ok-item.item.level q.part (listing h v.items (ts ++ v.more) s))
    (needs_end g.X.AsStr.text (kind.Operator c.args.close) c.in_ok-item.item.level q.part
    (listing h v.items (ts ++ v.more) s) c.operators.new.self refl c.in_ok-item.ensures.over
    c.in_ok-item.ensures.undotted
    (λ u e n. item_unended h c.args.close v.items (ts ++ v.more) s q.part (lexeme g.X.AsStr.text u) u.kind cl
    (not_seen (kind.Operator sign.Comma) (sym c.sees-in-loop-alloc.ensures ∙ c.if-not-sees.true) e) n))))
    c.in_err-last-2.ensures)

pub items-returns-then-not-sees : goal.items-returns-then-not-sees
items-returns-then-not-sees g t c = let k = c.in_ok-last-2.ensures in let q = c.in_ok-item.ensures.reads in record {
  ready = k.takes.ready;
  later = omega (arith, c.loop-alloc.invariant.later, q.later, k.takes.later);
  lists = λ h xs ts cl kept. item_last g.X.AsStr g.I.Iterator (c.loop-alloc.invariant.lists h xs ts cl)
      (not_closer c.loop-alloc.self.ahead h c.args.close cl (sym c.sees.ensures ∙ c.if-sees.false)) q
      c.in_ok-push.ensures k.takes (k.is ∙ sym (closer_is h c.args.close cl)) k.ends kept;
}

pub items-returns-in_err-skip : goal.items-returns-in_err-skip
items-returns-in_err-skip g t c = let p = err_from_is_err_and c.from_residual-in_err-skip.result
    c.from_residual-in_err-skip.ensures.1 in
    rw (p.1, p.2) (blame (λ o w. λ h xs ts s cl. let v = c.loop-alloc.invariant.lists h xs ts cl in let q =
    c.in_ok-item.ensures.reads in item_read g.X.AsStr g.I.Iterator v s
    (not_closer c.loop-alloc.self.ahead h c.args.close cl
    (sym c.sees.ensures ∙ c.if-sees.false)) q o
    (w (at (have c.in_ok-item.item.level q.part (listing h v.items (ts ++ v.more) s))) (λ _. refl)))
    c.in_err-skip.ensures)

pub items-loop-alloc-preserved : goal.items-loop-alloc-preserved
items-loop-alloc-preserved g t c = let k = c.in_ok-skip.ensures.takes in let q = c.in_ok-item.ensures.reads in record {
  ready = k.ready;
  later = omega (arith, c.loop-alloc.invariant.later, q.later, k.later);
  lists = λ h xs ts cl. item_more g.X.AsStr g.I.Iterator
      (c.loop-alloc.invariant.lists h xs ts cl) (not_closer c.loop-alloc.self.ahead h c.args.close cl
      (sym c.sees.ensures ∙ c.if-sees.false)) q c.in_ok-push.ensures k
      (kind_seen (kind.Operator sign.Comma) (sym c.sees-in-loop-alloc.ensures ∙ c.if-not-sees.false) k.here);
}

pub keywords-loop-name-init : goal.keywords-loop-name-init
keywords-loop-name-init g t c = record {
  ready = c.requires;
  later = omega arith;
  names =
      λ e xs ts. names_none g.X.AsStr g.I.Iterator
      c.args.self.now c.new-keywords.result (name_of c.args.first) e xs ts c.new-keywords.ensures;
}

pub keywords-returns-in_err-value : goal.keywords-returns-in_err-value
keywords-returns-in_err-value g t c = let p = err_from_is_err_and c.from_residual.result c.from_residual.ensures.1 in
    rw (p.1, p.2) (blame (λ o w. λ f xs ts s. let v = c.loop-name.invariant.names f xs ts in
    v.leads s o (w (naming f xs v.arguments (name_of c.loop-name.name) (ts ++ v.more) s) refl))
    c.in_err-value.ensures.reads)

pub keywords-returns-in_err-close : goal.keywords-returns-in_err-close
keywords-returns-in_err-close g t c = let p = err_from_is_err_and c.from_residual-in_err-close.result
    c.from_residual-in_err-close.ensures.1 in
    rw (p.1, p.2) (blame (λ o w. λ f xs ts s. let v = c.loop-name.invariant.names f xs ts in let q =
    c.in_ok-value.ensures.reads in argument_read g.X.AsStr g.I.Iterator v s q o
    (w (have c.in_ok-value.value.level q.part (naming f xs v.arguments (name_of c.loop-name.name) (ts ++ v.more) s))
    (needs_end g.X.AsStr.text (kind.Operator sign.RightParenthesis) c.in_ok-value.value.level q.part
    (naming f xs v.arguments (name_of c.loop-name.name) (ts ++ v.more) s) c.operators.new.self refl
    c.in_ok-value.ensures.over c.in_ok-value.ensures.undotted
    (λ u e n. keyword_unended f xs v.arguments (name_of c.loop-name.name) (ts ++ v.more) s q.part
    (lexeme g.X.AsStr.text u) u.kind (not_seen (kind.Operator sign.Comma) (sym c.sees.ensures ∙ c.if-not-sees.true)
    e) n)))) c.in_err-close.ensures)

pub keywords-returns-then-not-sees : goal.keywords-returns-then-not-sees
keywords-returns-then-not-sees g t c = let k = c.in_ok-close.ensures in let q = c.in_ok-value.ensures.reads in record {
  ready = k.takes.ready;
  later = omega (arith, c.loop-name.invariant.later, q.later, k.takes.later);
  names = λ e xs ts. argument_last g.X.AsStr g.I.Iterator
      (c.loop-name.invariant.names e xs ts) q (λ ks v. c.in_ok-push.ensures ks v) k.takes k.is k.ends;
}

pub keywords-returns-in_err-skip : goal.keywords-returns-in_err-skip
keywords-returns-in_err-skip g t c = let p = err_from_is_err_and c.from_residual-in_err-skip.result
    c.from_residual-in_err-skip.ensures.1 in
    rw (p.1, p.2) (blame (λ o w. λ f xs ts s. let v = c.loop-name.invariant.names f xs ts in let q =
    c.in_ok-value.ensures.reads in argument_read g.X.AsStr g.I.Iterator v s q o
    (w (at (have c.in_ok-value.value.level q.part (naming f xs v.arguments (name_of c.loop-name.name) (ts ++ v.more)
    s))) (λ _. refl))) c.in_err-skip.ensures)

pub keywords-returns-in_err-close-2 : goal.keywords-returns-in_err-close-2
keywords-returns-in_err-close-2 g t c = let p = err_from_is_err_and c.from_residual-in_err-close-2.result
    c.from_residual-in_err-close-2.ensures.1 in
    rw (p.1, p.2) (blame (λ o w. λ f xs ts s. let v = c.loop-name.invariant.names f xs ts in let q =
    c.in_ok-value.ensures.reads in argument_more g.X.AsStr g.I.Iterator v s q c.in_ok-skip.ensures.takes
    (kind_seen (kind.Operator sign.Comma)
    (sym c.sees.ensures ∙ c.if-not-sees.false) c.in_ok-skip.ensures.takes.here) o
    (w (at (keyword_due f xs (add_keyword v.arguments (name_of c.loop-name.name) q.part.tree)
    (ts ++ (v.more ++ (q.part.tokens ++ ((lexeme g.X.AsStr.text c.in_ok-skip.ensures.token) ∷ [])))) s)) (λ _. refl)))
    c.in_err-close-2.ensures)

pub keywords-returns-then-sees : goal.keywords-returns-then-sees
keywords-returns-then-sees g t c = let k = c.in_ok-close-2.ensures.takes in let q = c.in_ok-value.ensures.reads in
    record {
      ready = k.ready;
      later = omega (arith, c.loop-name.invariant.later, q.later, c.in_ok-skip.ensures.takes.later, k.later);
      names = λ e xs ts. arguments_end g.X.AsStr g.I.Iterator
          (c.loop-name.invariant.names e xs ts) q (λ ks v. c.in_ok-push.ensures ks v) c.in_ok-skip.ensures.takes
          (kind_seen (kind.Operator sign.Comma) (sym c.sees.ensures ∙ c.if-not-sees.false) c.in_ok-skip.ensures.takes.here)
          k
          (kind_seen (kind.Operator sign.RightParenthesis) (sym c.sees-in-loop-name.ensures ∙ c.if-sees.true)
          c.in_ok-close-2.ensures.takes.here) c.in_ok-close-2.ensures.ends;
    }

pub keywords-returns-in_err-name : goal.keywords-returns-in_err-name
keywords-returns-in_err-name g t c = let p = err_from_is_err_and c.from_residual-in_err-name.result
    c.from_residual-in_err-name.ensures.1 in
    rw (p.1, p.2) (blame (λ o w. λ f xs ts s. let v = c.loop-name.invariant.names f xs ts in let q =
    c.in_ok-value.ensures.reads in argument_more g.X.AsStr g.I.Iterator v s q c.in_ok-skip.ensures.takes
    (kind_seen (kind.Operator sign.Comma)
    (sym c.sees.ensures ∙ c.if-not-sees.false) c.in_ok-skip.ensures.takes.here) o
    (w (keyword_due f xs (add_keyword v.arguments (name_of c.loop-name.name) q.part.tree)
    (ts ++ (v.more ++ (q.part.tokens ++ ((lexeme g.X.AsStr.text c.in_ok-skip.ensures.token) ∷ [])))) s)
    (needs_name g.X.AsStr.text f xs (add_keyword v.arguments (name_of c.loop-name.name) q.part.tree)
    (ts ++ (v.more ++ (q.part.tokens ++ ((lexeme g.X.AsStr.text c.in_ok-skip.ensures.token) ∷ [])))) s c.skip.new.self
    (sym c.sees-in-loop-name.ensures ∙ c.if-sees.false)))) c.in_err-name.ensures)

pub keywords-returns-in_err-expect_place : goal.keywords-returns-in_err-expect_place
keywords-returns-in_err-expect_place g t c = let p = err_from_is_err_and c.from_residual-in_err-expect_place.result
    c.from_residual-in_err-expect_place.ensures.1 in
    rw (p.1, p.2) (blame (λ o w. λ f xs ts s. let v = c.loop-name.invariant.names f xs ts in let q =
    c.in_ok-value.ensures.reads in name_read g.X.AsStr g.I.Iterator v s q c.in_ok-skip.ensures.takes
    (kind_seen (kind.Operator sign.Comma)
    (sym c.sees.ensures ∙ c.if-not-sees.false) c.in_ok-skip.ensures.takes.here) c.in_ok-name.ensures o
    (w (keyword_named f xs (add_keyword v.arguments (name_of c.loop-name.name) q.part.tree)
    (name_of c.in_ok-name.name)
    ((ts ++ (v.more ++ (q.part.tokens ++ ((lexeme g.X.AsStr.text c.in_ok-skip.ensures.token) ∷ []))))
    ++ ((lexeme g.X.AsStr.text c.in_ok-name.ensures.token) ∷ [])) s)
    (needs (λ u. operand (naming f xs (add_keyword v.arguments (name_of c.loop-name.name) q.part.tree)
    (name_of c.in_ok-name.name)
    (((ts ++ (v.more ++ (q.part.tokens ++ ((lexeme g.X.AsStr.text c.in_ok-skip.ensures.token) ∷ []))))
    ++ ((lexeme g.X.AsStr.text c.in_ok-name.ensures.token) ∷ [])) ++ (u ∷ [])) s)) refl (λ u k. refl))))
    c.in_err-expect_place.ensures)

pub keywords-loop-name-preserved : goal.keywords-loop-name-preserved
keywords-loop-name-preserved g t c = let k = c.in_ok-expect_place.ensures in let q = c.in_ok-value.ensures.reads in
    record {
      ready = k.takes.ready;
      later = omega (
        arith,
        c.loop-name.invariant.later,
        q.later,
        c.in_ok-skip.ensures.takes.later,
        c.in_ok-name.ensures.takes.later,
        k.takes.later,
      );
      names = λ e xs ts. names_more g.X.AsStr g.I.Iterator
          (c.loop-name.invariant.names e xs ts) q (λ ks v. c.in_ok-push.ensures ks v) c.in_ok-skip.ensures.takes
          (kind_seen (kind.Operator sign.Comma) (sym c.sees.ensures ∙ c.if-not-sees.false) c.in_ok-skip.ensures.takes.here)
          c.in_ok-name.ensures k.takes k.is;
    }

pub operators-returns-in-Err-clause-reads : goal.operators-returns-in-Err-clause-reads
operators-returns-in-Err-clause-reads g t c = blame (λ o w. λ s r. c.loop-link.invariant.gives.leads s r o
    (w (λ u e. has_link c.in-Some.ensures e) c.loop-link.left.level c.loop-link.invariant.gives.part s
    c.in-Some.ensures.goes (omega (arith, c.in-Some.ensures.binds, r)))) c.in-Err.ensures

pub operators-returns-in-Err-operators-clause-reads : goal.operators-returns-in-Err-operators-clause-reads
operators-returns-in-Err-operators-clause-reads g t c = blame (λ o w. λ s r. let i = rw c.in-Some-infix.is at c.in-Ok.ensures in let v =
    c.loop-link.invariant.gives in let h = c.in-Some.ensures in
    v.leads s r o (i.leads (λ u e. has_link c.in-Some.ensures e) c.loop-link.left.level v.part s h.goes
    (omega (arith, h.binds, r)) o (w (joining (infix_of c.in-Some-infix.infix) v.part i.tokens s)
    (sym c.right.ensures)))) c.in-Err-operators.ensures.reads

pub operators-loop-link-preserved-in-Some-infix : goal.operators-loop-link-preserved-in-Some-infix
operators-loop-link-preserved-in-Some-infix g t c = let i = rw c.in-Some-infix.is at c.in-Ok.ensures in let v =
    c.loop-link.invariant.gives in let h = c.in-Some.ensures in let q = c.in-Ok-operators.ensures.reads in let j =
    c.in_ok-left-2.ensures in record {
      gives = record {
        part = joined (infix_of c.in-Some-infix.infix) v.part i.tokens q.part;
        keeps = j.1 v.part q.part v.keeps q.keeps _ (starts_more _ v.keeps.starts)
            (ends_more v.part.tokens (ends_more i.tokens q.keeps.ends));
        low = omega (arith, j.0, i.own, h.binds);
        ready = q.ready;
        later = omega (arith, v.later, i.later, q.later);
        begins = λ u e. first_more _ v.keeps.starts ∙ v.begins u e;
        leads = λ s r o x. v.leads s r o (i.leads (λ u e. has_link c.in-Some.ensures e) c.loop-link.left.level v.part s
            h.goes (omega (arith, h.binds, r)) o (q.leads (joining (infix_of c.in-Some-infix.infix) v.part i.tokens s)
            (sym c.right.ensures) o
            (joins g.X.AsStr.text g.I.Iterator.next_gives c.operators.new.self (infix_of c.in-Some-infix.infix) v.part
            i.tokens q.part s c.in-Ok-operators.right.level (omega (arith, q.low, c.right.ensures))
            (subst (λ n. NextIs (Over n c.in-Ok-operators.right.level) c.operators.new.self.ahead) c.right.ensures
            c.in-Ok-operators.ensures.over) c.in-Ok-operators.ensures.undotted o
            (subst (λ n. Came g.X.AsStr.text g.I.Iterator.next_gives c.operators.new.self
            (at (have n (joined (infix_of c.in-Some-infix.infix) v.part i.tokens q.part) s)) o) j.0 x))));
      };
      undotted = low_undotted _ _ (omega (arith, j.0, own_low (infix_of c.in-Some-infix.infix)));
    }

pub operators-returns-in_err-left-3-clause-reads : goal.operators-returns-in_err-left-3-clause-reads
operators-returns-in_err-left-3-clause-reads g t c = let p = err_from_is_err_and c.from_residual-in_err-left-3.result
    c.from_residual-in_err-left-3.ensures.1 in
    rw (p.1, p.2) (blame (λ o w. λ s r. let i = rw c.in_default-infix.is at c.in-Ok.ensures in let v =
    c.loop-link.invariant.gives in let h = c.in-Some.ensures in
    v.leads s r o (i.leads (λ u e. has_link c.in-Some.ensures e) c.loop-link.left.level v.part s h.goes
    (omega (arith, h.binds, r)) o (w i.token v.part s v.keeps))) c.in_err-left-3.ensures)

pub operators-loop-link-preserved : goal.operators-loop-link-preserved
operators-loop-link-preserved g t c = let i = rw c.in_default-infix.is at c.in-Ok.ensures in let v =
    c.loop-link.invariant.gives in let h = c.in-Some.ensures in let n = c.in_ok-left-3.ensures in let k =
    n.goes i.token v.part v.keeps in record {
      gives = record {
        part = k.part;
        keeps = k.keeps;
        low = omega (arith, n.level_is, i.own, h.binds);
        ready = n.ready;
        later = omega (arith, v.later, i.later, n.later);
        begins = λ u e. k.begins ∙ v.begins u e;
        leads = λ s r o x. v.leads s r o (i.leads (λ u e. has_link c.in-Some.ensures e) c.loop-link.left.level v.part s
            h.goes (omega (arith, h.binds, r)) o
            (k.leads s o (subst (λ z. Came g.X.AsStr.text g.I.Iterator.next_gives c.none_behind.new.self
            (at (have z k.part s)) o) n.level_is x)));
      };
      undotted = low_undotted _ _ (omega (arith, n.level_is));
    }

pub postfix-returns-in-Err-clause-reads : goal.postfix-returns-in-Err-clause-reads
postfix-returns-in-Err-clause-reads g t c = blame (λ o w. λ s r. let v = c.loop-self.invariant.gives in
    v.leads s r o (w (at (have c.loop-self.operand.level v.part s)) (λ _. refl))) c.in-Err.ensures

pub postfix-returns-in_err-operand-2-clause-reads : goal.postfix-returns-in_err-operand-2-clause-reads
postfix-returns-in_err-operand-2-clause-reads g t c = let p =
    err_from_is_err_and c.from_residual-in_err-operand-2.result c.from_residual-in_err-operand-2.ensures.1 in
    rw (p.1, p.2) (blame (λ o w. λ s r. let v = c.loop-self.invariant.gives in
    v.leads s r o (step_to (have c.loop-self.operand.level v.part s)
    (dotted v.part ((lexeme g.X.AsStr.text c.in-Ok.ensures.token) ∷ []) s) c.in-Ok.ensures.takes
    (dot_turn c.loop-self.operand.level v.part s (lexeme g.X.AsStr.text c.in-Ok.ensures.token) _ v.low
    (kind_seen (kind.Operator sign.Dot) (sym c.sees.ensures ∙ c.if-sees.true) c.in-Ok.ensures.takes.here)) o
    (w (lexeme g.X.AsStr.text c.in-Ok.ensures.token) v.part s v.keeps))) c.in_err-operand-2.ensures)

pub postfix-loop-self-preserved-then-sees : goal.postfix-loop-self-preserved-then-sees
postfix-loop-self-preserved-then-sees g t c = let v = c.loop-self.invariant.gives in
    record {
      gives = goes_on g.X.AsStr g.I.Iterator
          (λ d p s. dotted p (d ∷ []) s) (lexeme g.X.AsStr.text c.in-Ok.ensures.token) v c.in-Ok.ensures.takes
          (λ s. (dot_turn c.loop-self.operand.level v.part s (lexeme g.X.AsStr.text c.in-Ok.ensures.token) _ v.low
          (kind_seen (kind.Operator sign.Dot) (sym c.sees.ensures ∙ c.if-sees.true) c.in-Ok.ensures.takes.here)))
          c.in_ok-operand-2.ensures;
      level_is = c.in_ok-operand-2.ensures.level_is;
    }

pub postfix-returns-in-Err-skip-clause-reads : goal.postfix-returns-in-Err-skip-clause-reads
postfix-returns-in-Err-skip-clause-reads g t c = blame (λ o w. λ s r. let v = c.loop-self.invariant.gives in
    v.leads s r o (w (at (have c.loop-self.operand.level v.part s)) (λ _. refl))) c.in-Err-skip.ensures

pub postfix-returns-in_err-operand-3-clause-reads : goal.postfix-returns-in_err-operand-3-clause-reads
postfix-returns-in_err-operand-3-clause-reads g t c = let p =
    err_from_is_err_and c.from_residual-in_err-operand-3.result c.from_residual-in_err-operand-3.ensures.1 in
    rw (p.1, p.2) (blame (λ o w. λ s r. let v = c.loop-self.invariant.gives in
    v.leads s r o (step_to (have c.loop-self.operand.level v.part s)
    (operand (indexing v.part.tree (v.part.tokens ++ ((lexeme g.X.AsStr.text c.in-Ok-skip.ensures.token) ∷ [])) s))
    c.in-Ok-skip.ensures.takes (index_turn c.loop-self.operand.level v.part s
    (lexeme g.X.AsStr.text c.in-Ok-skip.ensures.token) _ v.low (kind_seen (kind.Operator sign.LeftBracket)
    (sym c.sees-else-sees.ensures ∙ c.if-sees-2.true) c.in-Ok-skip.ensures.takes.here)) o
    (w (lexeme g.X.AsStr.text c.in-Ok-skip.ensures.token) v.part s v.keeps))) c.in_err-operand-3.ensures)

pub postfix-loop-self-preserved-then-sees-2 : goal.postfix-loop-self-preserved-then-sees-2
postfix-loop-self-preserved-then-sees-2 g t c = let v = c.loop-self.invariant.gives in
    record {
      gives = goes_on g.X.AsStr g.I.Iterator
          (λ d p s. operand (indexing p.tree (p.tokens ++ (d ∷ [])) s))
          (lexeme g.X.AsStr.text c.in-Ok-skip.ensures.token) v c.in-Ok-skip.ensures.takes
          (λ s. (index_turn c.loop-self.operand.level v.part s (lexeme g.X.AsStr.text c.in-Ok-skip.ensures.token) _
          v.low (kind_seen (kind.Operator sign.LeftBracket) (sym c.sees-else-sees.ensures ∙ c.if-sees-2.true)
          c.in-Ok-skip.ensures.takes.here))) c.in_ok-operand-3.ensures;
      level_is = c.in_ok-operand-3.ensures.level_is;
    }

pub postfix-returns-in-Err-skip-2-clause-reads : goal.postfix-returns-in-Err-skip-2-clause-reads
postfix-returns-in-Err-skip-2-clause-reads g t c = blame (λ o w. λ s r. let v = c.loop-self.invariant.gives in
    v.leads s r o (w (at (have c.loop-self.operand.level v.part s)) (λ _. refl))) c.in-Err-skip-2.ensures

pub postfix-returns-in_err-operand-4-clause-reads : goal.postfix-returns-in_err-operand-4-clause-reads
postfix-returns-in_err-operand-4-clause-reads g t c = let p =
    err_from_is_err_and c.from_residual-in_err-operand-4.result c.from_residual-in_err-operand-4.ensures.1 in
    rw (p.1, p.2) (blame (λ o w. λ s r. let v = c.loop-self.invariant.gives in
    v.leads s r o (step_to (have c.loop-self.operand.level v.part s)
    (item_due (in_call v.part.tree) no_exprs (v.part.tokens ++ ((lexeme g.X.AsStr.text c.in-Ok-skip-2.ensures.token)
    ∷ [])) s) c.in-Ok-skip-2.ensures.takes (call_turn c.loop-self.operand.level v.part s
    (lexeme g.X.AsStr.text c.in-Ok-skip-2.ensures.token) _ v.low (kind_seen (kind.Operator sign.LeftParenthesis)
    (sym c.sees-else-sees-2.ensures ∙ c.if-sees-3.true) c.in-Ok-skip-2.ensures.takes.here)) o
    (w (lexeme g.X.AsStr.text c.in-Ok-skip-2.ensures.token) v.part s v.keeps))) c.in_err-operand-4.ensures)

pub postfix-loop-self-preserved : goal.postfix-loop-self-preserved
postfix-loop-self-preserved g t c = let v = c.loop-self.invariant.gives in
    record {
      gives = goes_on g.X.AsStr g.I.Iterator
          (λ d p s. item_due (in_call p.tree) no_exprs (p.tokens ++ (d ∷ [])) s)
          (lexeme g.X.AsStr.text c.in-Ok-skip-2.ensures.token) v c.in-Ok-skip-2.ensures.takes
          (λ s. (call_turn c.loop-self.operand.level v.part s (lexeme g.X.AsStr.text c.in-Ok-skip-2.ensures.token) _
          v.low
          (kind_seen (kind.Operator sign.LeftParenthesis) (sym c.sees-else-sees-2.ensures ∙ c.if-sees-3.true)
          c.in-Ok-skip-2.ensures.takes.here))) c.in_ok-operand-4.ensures;
      level_is = c.in_ok-operand-4.ensures.level_is;
    }

pub prefixed-returns-clause-reads : goal.prefixed-returns-clause-reads
prefixed-returns-clause-reads g t c = unsigned_reads g.X.AsStr g.I.Iterator c.args.self.now c.postfix.new.self
    c.postfix.result c.args.level c.requires.level
    (λ s r. behind_signs c.args.self.now c.args.self.now [] [] s c.args.level refl (λ _. refl)
    (sym c.sees.ensures ∙ c.if-sees.false) r (elim c.else-level-le2.branch [
      | prefixed-else-level-le2-via-then-level-le2+else-sees-2 w ↦
          inr (sym w.sees-then-level-le2.ensures ∙ w.if-sees-2.false)
      | prefixed-else-level-le2-via-else-level-le2 w ↦
          inl (omega (arith, w.if-level-le2.false))
    ])) c.postfix.ensures.reads

pub signed-returns-in_err-signs-clause-reads : goal.signed-returns-in_err-signs-clause-reads
signed-returns-in_err-signs-clause-reads g t c = let p = err_from_is_err_and c.from_residual-in_err-signs.result
    c.from_residual-in_err-signs.ensures.1 in
    rw (p.1, p.2)
    (blame (λ o w. λ s r. step_to (operand s)
    (operand (applying denial ((lexeme g.X.AsStr.text c.in_ok-first.ensures.token) ∷ []) s)) c.in_ok-first.ensures.takes
    (sign_turn denial s (lexeme g.X.AsStr.text c.in_ok-first.ensures.token) _
    (kind_seen (kind.Keyword word.Not) (sym c.sees.ensures ∙ c.if-sees.true) c.in_ok-first.ensures.takes.here)
    (omega (arith, r))) o (w (applying denial ((lexeme g.X.AsStr.text c.in_ok-first.ensures.token) ∷ []) s) (omega
    arith)))
    c.in_err-signs.ensures.reads)

pub signed-returns-in_err-operand-clause-reads : goal.signed-returns-in_err-operand-clause-reads
signed-returns-in_err-operand-clause-reads g t c = let p = err_from_is_err_and c.from_residual-in_err-operand.result
    c.from_residual-in_err-operand.ensures.1 in
    rw (p.1, p.2)
    (blame (λ o w. λ s r. step_to (operand s)
    (operand (applying denial ((lexeme g.X.AsStr.text c.in_ok-first.ensures.token) ∷ []) s)) c.in_ok-first.ensures.takes
    (sign_turn denial s (lexeme g.X.AsStr.text c.in_ok-first.ensures.token) _
    (kind_seen (kind.Keyword word.Not) (sym c.sees.ensures ∙ c.if-sees.true) c.in_ok-first.ensures.takes.here)
    (omega (arith, r))) o (c.in_ok-signs.ensures.reads.leads (applying denial
    ((lexeme g.X.AsStr.text c.in_ok-first.ensures.token) ∷ []) s) (omega arith) o
    (w (signs_on denial c.in_ok-signs.ensures.reads.tokens (applying denial
    ((lexeme g.X.AsStr.text c.in_ok-first.ensures.token) ∷ []) s)) (signs_rank_is denial
    c.in_ok-signs.ensures.reads.tokens
    (applying denial ((lexeme g.X.AsStr.text c.in_ok-first.ensures.token) ∷ []) s) refl))))
    c.in_err-operand.ensures.reads)

pub signed-wrap-requires : goal.signed-wrap-requires
signed-wrap-requires g t c = let q = c.in_ok-operand.ensures.reads in let k =
    (c.in_ok-inner.ensures c.in_ok-signs.ensures.reads.tokens q.part c.in_ok-signs.ensures.reads.starts q.keeps).0 in
    omega (arith, k.depth)

pub signed-returns-then-sees-clause-reads : goal.signed-returns-then-sees-clause-reads
signed-returns-then-sees-clause-reads g t c = let q = c.in_ok-operand.ensures.reads in let n =
    (c.in_ok-inner.ensures c.in_ok-signs.ensures.reads.tokens q.part c.in_ok-signs.ensures.reads.starts q.keeps).0 in
    on_result c.wrap.result _ _ _ (λ o j. record {
      part = (applied_all denial ((lexeme g.X.AsStr.text c.in_ok-first.ensures.token) ∷
          c.in_ok-signs.ensures.reads.tokens)
          c.in_ok-operand.ensures.reads.part);
      keeps = j.1 (applied_all denial c.in_ok-signs.ensures.reads.tokens q.part) n _
          (starts_at (lexeme g.X.AsStr.text c.in_ok-first.ensures.token) (applied_all denial
          c.in_ok-signs.ensures.reads.tokens q.part).tokens c.in_ok-first.ensures.starts) (ends_more ((lexeme
          g.X.AsStr.text c.in_ok-first.ensures.token) ∷ []) n.ends);
      low = omega (arith, j.0);
      ready = q.ready;
      later = omega (arith, c.in_ok-first.ensures.takes.later, c.in_ok-signs.ensures.reads.later, q.later);
      begins = λ u e. same_place c.in_ok-first.ensures.takes.here e;
      leads = λ s r o x. step_to (operand s)
          (operand (applying denial ((lexeme g.X.AsStr.text c.in_ok-first.ensures.token) ∷ []) s))
          c.in_ok-first.ensures.takes
          (sign_turn denial s (lexeme g.X.AsStr.text c.in_ok-first.ensures.token) _
          (kind_seen (kind.Keyword word.Not) (sym c.sees.ensures ∙ c.if-sees.true) c.in_ok-first.ensures.takes.here)
          (omega (arith, r))) o (c.in_ok-signs.ensures.reads.leads (applying denial
          ((lexeme g.X.AsStr.text c.in_ok-first.ensures.token) ∷ []) s) (omega arith) o
          (q.leads (signs_on denial c.in_ok-signs.ensures.reads.tokens
          (applying denial ((lexeme g.X.AsStr.text c.in_ok-first.ensures.token) ∷ []) s))
          (signs_rank_is denial c.in_ok-signs.ensures.reads.tokens (applying denial
          ((lexeme g.X.AsStr.text c.in_ok-first.ensures.token) ∷ []) s) refl) o
          (signs_join g.X.AsStr.text g.I.Iterator.next_gives c.operators.new.self denial
          ((lexeme g.X.AsStr.text c.in_ok-first.ensures.token) ∷ c.in_ok-signs.ensures.reads.tokens) q.part s
          c.in_ok-operand.operand.level q.low
          (over_sign _ _ c.in_ok-operand.ensures.over) c.in_ok-operand.ensures.undotted (low_undotted _ 2 (omega arith))
          o (subst (λ z. Came g.X.AsStr.text g.I.Iterator.next_gives c.operators.new.self
          (at
          (have z (applied_all denial ((lexeme g.X.AsStr.text c.in_ok-first.ensures.token) ∷
          c.in_ok-signs.ensures.reads.tokens)
          c.in_ok-operand.ensures.reads.part) s)) o) j.0 x))));
    }) c.wrap.ensures

pub signed-returns-then-sees-clause-undotted : goal.signed-returns-then-sees-clause-undotted
signed-returns-then-sees-clause-undotted g t c = on_level c.wrap.result _ _
    (λ o j. low_undotted _ _ (omega (arith, j.0))) c.wrap.ensures

pub signed-returns-in_err-operand-2-clause-reads : goal.signed-returns-in_err-operand-2-clause-reads
signed-returns-in_err-operand-2-clause-reads g t c = let p =
    err_from_is_err_and c.from_residual-in_err-operand-2.result c.from_residual-in_err-operand-2.ensures.1 in
    rw (p.1, p.2) (blame (λ o w. λ s r. let v = c.in_ok-signs-2.ensures.reads in
    v.leads s tt o (w (signs_on minus v.tokens s) (behind_signs c.args.self.now c.signs-2.new.self
    c.in_ok-signs-2.signs.items v.tokens s c.args.level v.starts v.same c.in_ok-signs-2.ensures.over r
    (elim c.else-level-le2.branch [
      | signed-else-level-le2-via-then-level-le2+else-sees w ↦
          inr (sym w.sees.ensures ∙ w.if-sees.false)
      | signed-else-level-le2-via-else-level-le2 w ↦
          inl (omega (arith, w.if-level-le2.false))
    ])))) c.in_err-operand-2.ensures.reads)

pub signed-returns-clause-reads : goal.signed-returns-clause-reads
signed-returns-clause-reads g t c = let v = c.in_ok-signs-2.ensures.reads in let q =
    c.in_ok-operand-2.ensures.reads in on_result c.wrap_all-2.result _ _ _
    (λ o j. let n = j v.tokens q.part v.starts q.keeps in record {
      part = applied_all minus v.tokens q.part;
      keeps = n.0;
      low = subst (λ z. c.args.level ≤ z) (sym n.1) (minus_high v.tokens c.args.level c.in_ok-operand-2.operand.level
          c.requires.level (omega (arith, q.low)));
      ready = q.ready;
      later = omega (arith, v.later, q.later);
      begins = λ u e. ap first_place (applied_tokens minus v.tokens q.part) ∙ v.begins q.part.tokens q.begins u e;
      leads = λ s r o x. v.leads s tt o (q.leads (signs_on minus v.tokens s)
          (behind_signs c.args.self.now c.signs-2.new.self c.in_ok-signs-2.signs.items v.tokens s c.args.level v.starts
          v.same c.in_ok-signs-2.ensures.over r (elim c.else-level-le2.branch [
            | signed-else-level-le2-via-then-level-le2+else-sees w ↦ inr (sym w.sees.ensures ∙ w.if-sees.false)
            | signed-else-level-le2-via-else-level-le2 w ↦ inl (omega (arith, w.if-level-le2.false))
          ])) o
          (signs_join g.X.AsStr.text g.I.Iterator.next_gives c.postfix.new.self minus v.tokens q.part s
          c.in_ok-operand-2.operand.level (omega (arith, q.low)) (λ u e k f h. over_any k)
          (subst (λ z. NextIs (Undotted z) c.postfix.new.self.ahead) (sym c.in_ok-operand-2.ensures.level)
          c.in_ok-operand-2.ensures.undotted) (low_undotted _ 6 (omega arith)) o
          (subst (λ z. Came g.X.AsStr.text g.I.Iterator.next_gives c.postfix.new.self
          (at (have z (applied_all minus v.tokens q.part) s)) o) n.1 x)));
    }) c.wrap_all-2.ensures

pub signed-returns-clause-undotted : goal.signed-returns-clause-undotted
signed-returns-clause-undotted g t c = let v = c.in_ok-signs-2.ensures.reads in let q =
    c.in_ok-operand-2.ensures.reads in on_level c.wrap_all-2.result _ _
    (λ o j. subst (λ z. NextIs (Undotted z) c.postfix.new.self.ahead) (sym (j v.tokens q.part v.starts q.keeps).1)
    (minus_undotted c.postfix.new.self.ahead v.tokens c.in_ok-operand-2.operand.level
    (subst (λ z. NextIs (Undotted z) c.postfix.new.self.ahead) (sym c.in_ok-operand-2.ensures.level)
    c.in_ok-operand-2.ensures.undotted))) c.wrap_all-2.ensures
