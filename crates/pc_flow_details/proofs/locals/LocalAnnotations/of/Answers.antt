use Rattle.std.proofs.Common.{◌++◌, [], List, ap, ap₂, map, subst}
use Rattle.std.specs.BTreeMap.{is_at}
use Rattle.std.specs.Cmp.Lexicographic.{slice_cmp}
use Rattle.std.specs.Map.{lookup}
use Rattle.std.specs.Option.{option_map}
use Rattle.std.specs.Ordering.{nat_cmp}
use Rattle.std.specs.Prelude.{flat_map}
use Rattle.pc_tree.specs.Tree.{param_of, stmts_of_list}
use Rattle.pc_tree.specs.declared.tree.Param.{Param as RustParam}
use Rattle.pc_tree.specs.declared.tree.Stmt.{Stmt as RustStmt}
use Rattle.pc_detail_facts.specs.Annotated.{annotation_lent}
use Rattle.pc_detail_rules.specs.Nodes.{stmts_in_suite}
use Rattle.pc_detail_rules.specs.Written.{Annotated, annotated_param, annotated_stmt}
use Rattle.pc_flow_details.specs.Locals.{AreLocals}
use Rattle.pc_flow_details.proofs.locals.LocalAnnotations.of.Goals as goal

pub returns : goal.returns
returns c = subst (λ (l : List Annotated). AreLocals c.add_suite.new.self l)
    (ap₂ (λ (ps : List RustParam) (ss : List RustStmt). flat_map annotated_param (map param_of ps)
    ++ flat_map annotated_stmt (stmts_in_suite (stmts_of_list ss))) c.deref.ensures.value c.deref-2.ensures.value)
    (c.in_ok-add_suite.ensures _ (c.in_ok-add_params.ensures [] (record {
      at = λ word. ap (λ es. option_map annotation_lent (lookup (is_at (λ k. slice_cmp nat_cmp word k.now)) es))
          c.new.ensures.empty;
    })))
