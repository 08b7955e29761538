-- Each statement, suite and list of branches is labelled: the induction on statements.
use Rattle.std.proofs.Common.{List, ap, refl, subst, ◌++◌, ◌∙◌, ◌∷◌}
use Rattle.std.specs.Prelude.{Bool as Test, None, Some, false, option_to_list, true, ◌||◌}
use Rattle.pc_tree.specs.Tree.{Branches, Expr, Stmt, Stmts, annotated, asserts, assigns, breaks, conditional, continues}
use Rattle.pc_tree.specs.Tree.{evaluates, for_loop, more_branches, more_stmts, no_branches, no_stmts, pass, returns}
use Rattle.pc_tree.specs.Tree.{while_loop}
use Rattle.pc_tree.specs.Stopping.{bound_by, bound_by_branches, bound_by_stmt}
use Rattle.pc_scope.specs.Reach.{completes, some_completes}
use Rattle.pc_scope.specs.Bindings.{texts}
use Rattle.pc_types.specs.Tree.{Tree}
use Rattle.pc_types.specs.WellFormed.{IsWellFormed}
use Rattle.pc_flow.specs.Environment.{Env, join_envs_onto, join_ways, loop_head}
use Rattle.pc_flow.specs.Narrowing.{narrow}
use Rattle.pc_module_rules.specs.StatementLabels.{behind_list, breaks_in, breaks_in_branches, breaks_in_suite, ways_in}
use Rattle.pc_module_rules.specs.Statements.{LawfulBranches, LawfulOption, LawfulSuite, NamesBound, binds_number}
use Rattle.pc_module_rules.specs.Laws.Labellings.{Agree, BranchesLabelled, IsDeclaredTable, Surroundings, GoesByNames}
use Rattle.pc_module_rules.specs.Laws.Labellings.{StmtLabelled, SuiteLabelled}
use Rattle.pc_module_rules.proofs.BoundNames.{Within, within_both, within_later, within_one, within_right}
use Rattle.pc_module_rules.proofs.Tables.{all_both, all_on, all_wider, head_same, head_by_names, joined_same}
use Rattle.pc_module_rules.proofs.Tables.{joined_by_names, out_all, out_wider, same_on, same_self, by_names_on}
use Rattle.pc_module_rules.proofs.Tables.{still_same, truth_same, truth_by_names, ways_same, ways_by_names}
use Rattle.pc_module_rules.proofs.LabelledExpressions.{expr_labelled, iterable_labelled}
use Rattle.pc_module_rules.proofs.LabelledBindings.{annotated_labelled}
use Rattle.pc_module_rules.proofs.LabelledTargets.{target_labelled}
use Rattle.pc_module_rules.proofs.LabelledSuites.{any_both, any_join, any_option, assignment_labelled, behind_labelled}
use Rattle.pc_module_rules.proofs.LabelledSuites.{empty_reaches, option_labelled, return_labelled}

module _ (around : Surroundings) where
  open around use {whole as m, context as ctx, context_well_formed as ck, count, locals as names}

  module _ (returned : Tree) (kr : IsWellFormed ctx.bases returned) where
    -- an environment where a condition is true, or false, with a table
    abbrev pub truth_of : List Tree → Test → Expr → Env → Env
    truth_of ds b c env = narrow ctx.bases ds ctx.resolve b c env

    mutual
      pub stmt_labelled : (ds : List Tree) (seen : NamesBound) (env : Env) → IsDeclaredTable around ds
          → GoesByNames around ds seen env → (s : Stmt) → StmtLabelled around returned ds seen env s
      stmt_labelled ds seen env g h (pass p) = record {
        table = ds;
        is_table = g;
        same = same_self around ds seen;
        labels = tt;
        out = Some env;
        ends = h;
        at_breaks = tt;
        reaches = refl;
        lawful = λ F gF s. refl;
      }
      stmt_labelled ds seen env g h (breaks p) = record {
        table = ds;
        is_table = g;
        same = same_self around ds seen;
        labels = env;
        out = None;
        ends = tt;
        at_breaks = (h, tt);
        reaches = refl;
        lawful = λ F gF s. (refl, refl);
      }
      stmt_labelled ds seen env g h (continues p) = record {
        table = ds;
        is_table = g;
        same = same_self around ds seen;
        labels = tt;
        out = None;
        ends = tt;
        at_breaks = tt;
        reaches = refl;
        lawful = λ F gF s. refl;
      }
      stmt_labelled ds seen env g h (returns p e) =
          let v = return_labelled around returned kr ds seen env g h e in
          record {
            table = ds;
            is_table = g;
            same = same_self around ds seen;
            labels =
                record { value = v.labels; flows = v.flows };
            out = None;
            ends = tt;
            at_breaks = tt;
            reaches = refl;
            lawful =
                λ F gF s. (v.lawful F gF s, refl);
          }
      stmt_labelled ds seen env g h (asserts p c e) =
          let v = expr_labelled around ds seen env None c g h tt in
          let w = option_labelled around returned kr ds seen (truth_of ds false c env) g
          (truth_by_names around ds seen env false c g h) e in
          record {
            table = ds;
            is_table = g;
            same = same_self around ds seen;
            labels = record { condition = v.labels; message = w.labels };
            out = Some (truth_of ds true c env);
            ends = truth_by_names around ds seen env true c g h;
            at_breaks = tt;
            reaches = refl;
            lawful = λ F gF s. record {
              condition = v.lawful F gF s;
              message = subst (λ x. LawfulOption m ctx F returned x e w.labels)
                  (truth_same around ds F seen env false c gF s h) (w.lawful F gF s);
              after = ap Some (truth_same around ds F seen env true c gF s h);
            };
          }
      stmt_labelled ds seen env g h (annotated p n a e) =
          let b = annotated_labelled around ds seen env g h n a e in
          record {
            table = b.table;
            is_table = b.is_table;
            same = b.same;
            labels = record { value = b.labels; flows = b.flows };
            out = Some b.after;
            ends = b.by_names;
            at_breaks = tt;
            reaches = refl;
            lawful = λ F gF s. record { after = b.after; binding = b.lawful F gF s; is = refl };
          }
      stmt_labelled ds seen env g h (assigns p t e) = assignment_labelled around returned kr ds seen env g h p t e
      stmt_labelled ds seen env g h (evaluates p e) =
          let v = expr_labelled around ds seen env None e g h tt in
          record {
            table = ds;
            is_table = g;
            same = same_self around ds seen;
            labels = v.labels;
            out = Some env;
            ends =
                h;
            at_breaks = tt;
            reaches = refl;
            lawful = λ F gF s. (v.lawful F gF s, refl);
          }
      stmt_labelled ds seen env g h (while_loop p c b) =
          let bound = binds_number ctx.resolve (bound_by b) in
          let head = loop_head bound ds env in
          let hh = head_by_names around ds seen env bound g h in
          let v = expr_labelled around ds seen head None c g hh tt in
          let body = suite_labelled ds seen (truth_of ds true c head) g (truth_by_names around ds seen head true c g hh)
          b in
          let after = texts (bound_by b) ++ seen in
          let w : Within seen after = within_right (texts (bound_by b)) seen in
          let out = truth_of ds false c head in
          let ho = by_names_on around ds body.table seen after out w body.is_table body.same
          (truth_by_names around ds seen head false c g hh) in
          record {
            table = body.table;
            is_table = body.is_table;
            same = body.same;
            labels = record { head = head; condition = v.labels; body = body.labels; out = body.out };
            out = Some (join_envs_onto ctx.bases body.table out (breaks_in_suite b body.labels));
            ends = joined_by_names around body.table after out (breaks_in_suite b body.labels) body.is_table ho
                body.at_breaks;
            at_breaks = tt;
            reaches = refl;
            lawful = λ F gF s.
                let s0 = same_on around ds body.table F seen after w body.same s in
                let q = head_same around ds F seen env bound gF s0 h in
                record {
                  head = q;
                  condition = v.lawful F gF s0;
                  body = subst (λ x. LawfulSuite m ctx F returned seen x b body.labels body.out)
                      (truth_same around ds F seen head true c gF s0 hh) (body.lawful F gF s);
                  after = ap Some (joined_same around body.table F after out (breaks_in_suite b body.labels) gF s ho
                      body.at_breaks ∙ ap (λ x. join_envs_onto ctx.bases F x (breaks_in_suite b body.labels))
                      (truth_same around ds F seen head false c gF s0 hh));
                };
          }
      stmt_labelled ds seen env g h (for_loop p n e b) =
          let it = iterable_labelled around ds seen env g h e in
          let bound = binds_number ctx.resolve (n ∷ bound_by b) in
          let head = loop_head bound ds env in
          let hh = head_by_names around ds seen env bound g h in
          let tg = target_labelled around ds seen head g hh n (ctx.resolve n.text) refl it.item it.well_formed in
          let body = suite_labelled tg.table (n.text ∷ seen) tg.inside tg.is_table tg.by_names b in
          let inner = texts (bound_by b) ++ (n.text ∷ seen) in
          let after = n.text ∷ (texts (bound_by b) ++ seen) in
          let wi : Within (n.text ∷ seen) inner = within_right (texts (bound_by b)) (n.text ∷ seen) in
          let wl : Within inner after = within_later n (bound_by b) seen in
          let w : Within seen after = λ word a. wl word (wi word (within_one n.text seen word a)) in
          let same = same_on around ds tg.table body.table seen (n.text ∷ seen) (within_one n.text seen) tg.same
          body.same in
          let ho = by_names_on around ds body.table seen after head w body.is_table same hh in
          let at_breaks = all_wider around body.table inner after (breaks_in_suite b body.labels) wl body.is_table
          body.at_breaks in
          record {
            table = body.table;
            is_table = body.is_table;
            same = same;
            labels = record {
              iterable = it.labels;
              item = it.item;
              flows = tg.flows;
              head = head;
              body = body.labels;
              out = body.out;
            };
            out = Some (join_envs_onto ctx.bases body.table head (breaks_in_suite b body.labels));
            ends = joined_by_names around body.table after head (breaks_in_suite b body.labels) body.is_table ho at_breaks;
            at_breaks = tt;
            reaches = refl;
            lawful = λ F gF s.
                let si : Agree ctx body.table F inner = λ word x a r. s word x (wl word a) r in
                let s1 = same_on around tg.table body.table F (n.text ∷ seen) inner wi body.same si in
                let s0 = same_on around ds tg.table F seen (n.text ∷ seen) (within_one n.text seen) tg.same s1 in
                record {
                  iterable = it.lawful F gF s0;
                  head = head_same around ds F seen env bound gF s0 h;
                  inside = tg.inside;
                  target = tg.lawful F gF s1;
                  body = body.lawful F gF si;
                  after = ap Some (joined_same around body.table F after head (breaks_in_suite b body.labels) gF s ho
                      at_breaks);
                };
          }
      stmt_labelled ds seen env g h (conditional p bs b) =
          let br = branches_labelled ds seen env g h bs in
          let middle = texts (bound_by_branches bs) ++ seen in
          let el = suite_labelled br.table middle br.last br.is_table br.ends b in
          let inner = texts (bound_by b) ++ middle in
          let after = texts (bound_by_branches bs ++ bound_by b) ++ seen in
          let wm : Within seen middle = within_right (texts (bound_by_branches bs)) seen in
          let wi : Within middle inner = within_right (texts (bound_by b)) middle in
          let wl : Within inner after = within_both (bound_by_branches bs) (bound_by b) seen in
          let w : Within middle after = λ word a. wl word (wi word a) in
          let ways = all_both around el.table after (ways_in bs br.labels) (option_to_list el.out)
          (all_on around br.table el.table middle after (ways_in bs br.labels) w el.is_table el.same br.ways)
          (all_wider around el.table inner after (option_to_list el.out) wl el.is_table
          (out_all around el.table inner el.out el.ends)) in
          record {
            table = el.table;
            is_table = el.is_table;
            same = same_on around ds br.table el.table seen middle wm br.same el.same;
            labels = record { branches = br.labels; last = br.last; otherwise = el.labels; out = el.out };
            out = join_ways ctx.bases el.table (ways_in bs br.labels ++ option_to_list el.out);
            ends = ways_by_names around el.table after (ways_in bs br.labels ++ option_to_list el.out) el.is_table ways;
            at_breaks = all_both around el.table after (breaks_in_branches bs br.labels) (breaks_in_suite b el.labels)
                (all_on around br.table el.table middle after (breaks_in_branches bs br.labels) w el.is_table el.same
                br.at_breaks) (all_wider around el.table inner after (breaks_in_suite b el.labels) wl el.is_table
                el.at_breaks);
            reaches = any_join around returned kr el.table (ways_in bs br.labels ++ option_to_list el.out)
                ∙ any_both around returned kr (ways_in bs br.labels) (option_to_list el.out)
                ∙ (λ i. br.reaches i || (any_option around returned kr el.out ∙ el.reaches) i)
                ∙ empty_reaches around returned kr b (some_completes bs);
            lawful = λ F gF s.
                let si : Agree ctx el.table F inner = λ word x a r. s word x (wl word a) r in
                let sm = same_on around br.table el.table F middle inner wi el.same si in
                record {
                  branches = br.lawful F gF sm;
                  otherwise = el.lawful F gF si;
                  after = ways_same around el.table F after (ways_in bs br.labels ++ option_to_list el.out) gF s ways;
                };
          }

      pub suite_labelled : (ds : List Tree) (seen : NamesBound) (env : Env) → IsDeclaredTable around ds
          → GoesByNames around ds seen env → (b : Stmts) → SuiteLabelled around returned ds seen env b
      suite_labelled ds seen env g h no_stmts = record {
        table = ds;
        is_table = g;
        same = same_self around ds seen;
        labels = tt;
        out = Some env;
        ends = h;
        at_breaks = tt;
        reaches = refl;
        lawful = λ F gF s. refl;
      }
      suite_labelled ds seen env g h (more_stmts st rest) =
          let first = stmt_labelled ds seen env g h st in
          let q = behind_labelled around returned kr (completes st) ds seen env st rest first.table first.is_table
          first.same first.labels first.out first.ends first.at_breaks first.reaches first.lawful
          (λ mid k. suite_labelled first.table (texts (bound_by_stmt st) ++ seen) mid first.is_table k rest) in
          let inner = texts (bound_by rest) ++ (texts (bound_by_stmt st) ++ seen) in
          let after = texts (bound_by_stmt st ++ bound_by rest) ++ seen in
          let wl : Within inner after = within_both (bound_by_stmt st) (bound_by rest) seen in
          record {
            table = q.table;
            is_table = q.is_table;
            same = q.same;
            labels = q.labels;
            out = q.out;
            ends = out_wider around q.table inner after q.out wl q.is_table q.ends;
            at_breaks = all_wider around q.table inner after (breaks_in st q.labels.first ++ behind_list (completes st)
                q.labels.behind (λ r. breaks_in_suite rest r.rest)) wl q.is_table q.at_breaks;
            reaches = q.reaches;
            lawful = λ F gF s. q.lawful F gF (λ word x a r. s word x (wl word a) r);
          }

      pub branches_labelled : (ds : List Tree) (seen : NamesBound) (env : Env) → IsDeclaredTable around ds
          → GoesByNames around ds seen env → (bs : Branches) → BranchesLabelled around returned ds seen env bs
      branches_labelled ds seen env g h no_branches = record {
        table = ds;
        is_table = g;
        same =
            same_self around ds seen;
        labels = tt;
        last = env;
        ends = h;
        at_breaks = tt;
        ways = tt;
        reaches = refl;
        lawful =
            λ F gF s. refl;
      }
      branches_labelled ds seen env g h (more_branches c b rest) =
          let v = expr_labelled around ds seen env None c g h tt in
          let body = suite_labelled ds seen (truth_of ds true c env) g (truth_by_names around ds seen env true c g h)
          b in
          let middle = texts (bound_by b) ++ seen in
          let wm : Within seen middle = within_right (texts (bound_by b)) seen in
          let others = branches_labelled body.table middle (truth_of ds false c env) body.is_table
          (by_names_on around ds body.table seen middle (truth_of ds false c env) wm body.is_table body.same
          (truth_by_names around ds seen env false c g h)) rest in
          let inner = texts (bound_by_branches rest) ++ middle in
          let after = texts (bound_by b ++ bound_by_branches rest) ++ seen in
          let wi : Within middle inner = within_right (texts (bound_by_branches rest)) middle in
          let wl : Within inner after = within_both (bound_by b) (bound_by_branches rest) seen in
          let w : Within middle after = λ word a. wl word (wi word a) in
          record {
            table = others.table;
            is_table = others.is_table;
            same = same_on around ds body.table others.table seen middle wm body.same others.same;
            labels = record { condition = v.labels; body = body.labels; out = body.out; rest = others.labels };
            last = others.last;
            ends = still_same around others.table inner after others.last wl others.is_table others.ends;
            at_breaks = all_both around others.table after (breaks_in_suite b body.labels)
                (breaks_in_branches rest others.labels) (all_on around body.table others.table middle after
                (breaks_in_suite b body.labels) w others.is_table others.same body.at_breaks)
                (all_wider around others.table inner after (breaks_in_branches rest others.labels) wl others.is_table
                others.at_breaks);
            ways = all_both around others.table after (option_to_list body.out) (ways_in rest others.labels)
                (all_on around body.table others.table middle after (option_to_list body.out) w others.is_table
                others.same (out_all around body.table middle body.out body.ends))
                (all_wider around others.table inner after (ways_in rest others.labels) wl others.is_table
                others.ways);
            reaches = any_both around returned kr (option_to_list body.out) (ways_in rest others.labels)
                ∙ (λ i. (any_option around returned kr body.out ∙ body.reaches) i || others.reaches i);
            lawful = λ F gF s.
                let si : Agree ctx others.table F inner = λ word x a r. s word x (wl word a) r in
                let sm = same_on around body.table others.table F middle inner wi others.same si in
                let s0 = same_on around ds body.table F seen middle wm body.same sm in
                record {
                  condition = v.lawful F gF s0;
                  body = subst (λ x. LawfulSuite m ctx F returned seen x b body.labels body.out)
                      (truth_same around ds F seen env true c gF s0 h) (body.lawful F gF sm);
                  others = subst (λ x. LawfulBranches m ctx F returned middle x rest others.labels others.last)
                      (truth_same around ds F seen env false c gF s0 h) (others.lawful F gF si);
                };
          }
