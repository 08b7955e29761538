-- If nothing is found at a `return`, the type of its value is a static subtype of the return type.
use Rattle.std.proofs.Common.{◌≡◌, List, [], ◌∷◌, refl, inl, inr, arith, Contains}
use Rattle.std.specs.Prelude.{Bool as Test, true, false, Option, Some}
use Rattle.pc_source.specs.declared.place.Place.{Place}
use Rattle.pc_tree.specs.declared.code.Code.{Code}
use Rattle.pc_tree.specs.declared.code.Code.TheVariants.{A1, E03, E12}
use Rattle.pc_tree.specs.declared.code.Finding.{Finding}
use Rattle.pc_tree.specs.Code.{finding}
use Rattle.pc_tree.specs.Depth.{place_of}
use Rattle.pc_tree.specs.Tree.{Expr, returns, Module}
use Rattle.pc_types.specs.Tree.{Tree}
use Rattle.pc_types.specs.Below.{Static}
use Rattle.pc_flow.specs.Environment.{Env}
use Rattle.pc_rules.specs.Context.{Context, Flows, static, dynamic, wrong, FlowUnless, FlowsInto, is_early}
use Rattle.pc_rules.specs.Labels.{FlowLabels, Labels, whole_label, type_of, Finds, IsFlowAt}
use Rattle.pc_rules.proofs.Saying.{found_here}
use Rattle.pc_module_rules.specs.StatementLabels.{StmtLabels}
use Rattle.pc_module_rules.specs.Statements.{NamesBound, LawfulStmt, StmtFinds}

early_code : (codes : List Code) → is_early codes ≡ true → Contains codes E03
early_code [] e = absurd (grind (arith, e))
early_code (E03 ∷ cs) e = (0, omega arith, refl)
early_code (c ∷ cs) e = absurd (grind (arith, e))

module _ (m : Module) (ctx : Context) where
  -- a flow into one type, of which nothing is found
  unfound_is_static : (e : Expr) (labels : Labels e) (t : Tree) (flows : FlowLabels)
      → FlowsInto ctx.bases (whole_label e labels) (t ∷ []) flows → ((f : Finding) → IsFlowAt (place_of e) flows f → ⊥)
      → ((f : Finding) → Finds e labels f → ⊥) → Static ctx.bases (type_of e labels) t
  unfound_is_static e labels t [] law no_flow nothing = absurd law
  unfound_is_static e labels t (x ∷ xs) law no_flow nothing = go (is_early (whole_label e labels).codes) refl law.0.code
    where
      found : (c : Code) → x.code ≡ Some c → ⊥
      found c is = no_flow (finding (place_of e) c) (record {
        flow = x;
        among = (0, omega arith, refl);
        code = c;
        found = is;
        is = refl;
      })

      by_flow : (c : Option Code) → x.code ≡ c → Flows ctx.bases (type_of e labels) t c
          → Static ctx.bases (type_of e labels) t
      by_flow _ is (static below) = below
      by_flow _ is (dynamic n a) = absurd (found A1 is)
      by_flow _ is (wrong n) = absurd (found E12 is)

      go : (early : Test) → is_early (whole_label e labels).codes ≡ early
          → FlowUnless early ctx.bases (type_of e labels) t x.code → Static ctx.bases (type_of e labels) t
      go true is f = absurd (nothing (finding (place_of e) E03) (found_here e labels (finding (place_of e) E03)
          (record { code = E03; among = early_code (whole_label e labels).codes is; is = refl })))
      go false is f = by_flow x.code refl f

  pub returned_flows : (declared : List Tree) (returned : Tree) (seen : NamesBound) (env : Env) (out : Option Env)
      (p : Place) (e : Expr) (labels : StmtLabels (returns p (Some e)))
      → LawfulStmt m ctx declared returned seen env (returns p (Some e)) labels out
      → ((f : Finding) → ¬ (StmtFinds m ctx seen (returns p (Some e)) labels f))
      → Static ctx.bases (type_of e labels.value) returned
  returned_flows declared returned seen env out p e labels law none = unfound_is_static e labels.value returned
      labels.flows law.0.1 (λ f h. none f (inl h)) (λ f h. none f (inr h))
