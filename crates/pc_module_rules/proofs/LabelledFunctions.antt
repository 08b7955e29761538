-- Functions and the members of classes have lawful labels, with any well-formed types of constants.
use Rattle.pc_scope.specs.declared.resolution.Owner.TheVariants as owners
use Rattle.pc_class.specs.Facts as facts
use Rattle.std.proofs.Common.{List, [], ap, arith, inl, inr, length, refl, suc, zero, ℕ, ◌∷◌, ◌≡◌}
use Rattle.std.specs.Prelude.{Bool as Test, None, Option, Some, false, replicate, true}
use Rattle.pc_tree.specs.declared.code.Code.{Code}
use Rattle.pc_tree.specs.Tree.{FuncDef, Literal, Member, Module, Param, field_member, method_member}
use Rattle.pc_scope.specs.declared.resolution.Owner.{Owner}
use Rattle.pc_scope.specs.Resolution.{locals, receiver}
use Rattle.pc_types.specs.Tree.{Any, NoneType, Tree}
use Rattle.pc_types.specs.Below.{AreSmaller, Bases, Static}
use Rattle.pc_types.specs.WellFormed.{IsWellFormed}
use Rattle.pc_annotations.specs.Annotations.{read_ann, read_option}
use Rattle.pc_types.proofs.DecidedSubtyping.{Decision, decide_static}
use Rattle.pc_annotations.proofs.Readings.{read_ann_well_formed, read_option_well_formed}
use Rattle.pc_class.specs.Bases.{bases_of}
use Rattle.pc_class.specs.Facts.{binds_field, return_type}
use Rattle.pc_annotations.proofs.Earlier.{smaller}
use Rattle.pc_class.specs.WellFormed.{ParametersWellFormed}
use Rattle.pc_class.proofs.WellFormed.{params_well_formed, returned_well_formed}
use Rattle.pc_flow.specs.Environment.{Env, none_assigned}
use Rattle.pc_flow.specs.WellFormed.{AreWellFormed, IsWellFormedEnv}
use Rattle.pc_rules.specs.Operations.{clean}
use Rattle.pc_rules.specs.Labels.{FlowLabels}
use Rattle.pc_rules.specs.Signatures.{LawfulDefault, LawfulParams, ParamsLabels, binds_name, body_context, literal_type}
use Rattle.pc_rules.proofs.Contexts.{bodies_well_formed}
use Rattle.pc_module_rules.specs.Modules.{ReturnsWell, entry_parameters, leaves, may_complete, may_not, names_entered}
use Rattle.pc_module_rules.specs.Laws.Labellings.{FunctionLabelled, IsDeclaredTable, MembersLabelled, Surroundings}
use Rattle.pc_module_rules.specs.Laws.Labellings.{GoesByNames}
use Rattle.pc_rules.proofs.SignaturesListed.{literal_well_formed}
use Rattle.pc_module_rules.proofs.LocalNames.{names_are}
use Rattle.pc_module_rules.proofs.OneModule.{none_kept}
use Rattle.pc_module_rules.proofs.LabelledEntry.{entry_labelled}
use Rattle.pc_module_rules.proofs.LabelledStatements.{suite_labelled}
use Rattle.pc_module_rules.proofs.LabelledExpressions.{flows_labelled}

-- a table of Any for each local
any_well_formed : (bases : Bases) (n : ℕ) → AreWellFormed bases (replicate n Any)
any_well_formed bases zero = tt
any_well_formed bases (suc n) = ((tt, tt, omega arith), any_well_formed bases n)

any_long : (n : ℕ) → length (replicate n Any) ≡ n
any_long zero = refl
any_long (suc n) = ap suc (any_long n)

-- where no local is assigned
pub none_well_formed : (bases : Bases) (n : ℕ) → IsWellFormedEnv bases (none_assigned n)
none_well_formed bases zero = tt
none_well_formed bases (suc n) = (tt, none_well_formed bases n)

-- ---- defaults

-- the flows of a default
record DefaultLabelled (bases : Bases) (b : Test) (l : Option Literal) (t : Tree) : Type 0 where
  flows : FlowLabels
  lawful : LawfulDefault bases b l t flows

default_labelled : (bases : Bases) (b : Test) (l : Option Literal) (t : Tree) → AreSmaller bases → IsWellFormed bases t
    → DefaultLabelled bases b l t
default_labelled bases b None t o k = record { flows = []; lawful = refl }
default_labelled bases false (Some l) t o k = record { flows = []; lawful = refl }
default_labelled bases true (Some l) t o k = let f = flows_labelled bases (clean (literal_type l)) (t ∷ []) o
    (literal_well_formed bases l) (k, tt) in record { flows = f.flows; lawful = f.lawful }

-- the defaults of parameters have lawful flows
record ParamsLabelled (m : Module) (before : List (List ℕ)) (ps : List Param) : Type 0 where
  labels : ParamsLabels ps
  lawful : LawfulParams m before ps labels

params_labelled : (m : Module) (before : List (List ℕ)) (ps : List Param) → ParamsLabelled m before ps
params_labelled m before [] = record { labels = tt; lawful = tt }
params_labelled m before (p ∷ ps) =
    let c = default_labelled (bases_of m) (binds_name before p.name) p.default (read_option m (bases_of m) p.annotation)
    (smaller m) (read_option_well_formed m (bases_of m) (smaller m) p.annotation) in
    let r = params_labelled m (p.name.text ∷ before) ps in
    record {
      labels = record { default = c.flows; rest = r.labels };
      lawful =
          record { default = c.lawful; rest = r.lawful };
    }

-- ---- functions

-- a function is entered with parameters of well-formed types
pub entries_well_formed : (m : Module) (owner : Owner) (f : FuncDef)
    → ParametersWellFormed (bases_of m) (entry_parameters m owner f)
entries_well_formed m owners.Module f = params_well_formed m f.params
entries_well_formed m (owners.Func i) f = params_well_formed m f.params
entries_well_formed m (owners.Method c i) f = ((tt, tt, omega arith), params_well_formed m f.params)

-- whether a body that can complete gives None where that is not static
returns_labelled : (bases : Bases) (t : Tree) (out : Option Env) → AreSmaller bases → IsWellFormed bases t
    → (c : Option Code) × ReturnsWell bases t out c
returns_labelled bases t None o k = (None, leaves)
returns_labelled bases t (Some env) o k = go (decide_static bases o NoneType t tt k.0)
  where
    go : Decision (Static bases NoneType t) → (c : Option Code) × ReturnsWell bases t (Some env) c
    go (inl a) = (None, may_complete a)
    go (inr n) = (_, may_not n)

module _ (m : Module) where
  module _ (constants : List Tree) (kc : AreWellFormed (bases_of m) constants) where
    pub function_labelled : (owner : Owner) (f : FuncDef) → FunctionLabelled m constants owner f
    function_labelled owner f =
        let names = locals owner f in
        let ctx = body_context m constants names in
        let here : Surroundings = record {
          whole = m;
          context = ctx;
          context_well_formed = bodies_well_formed m constants
              names kc;
          count = length names;
          locals = names_are m constants names;
        } in
        let count = length names in
        let table : IsDeclaredTable here (replicate count Any) = record {
          long = any_long count;
          well_formed =
              any_well_formed (bases_of m) count;
        } in
        let none : GoesByNames here (replicate count Any) [] (none_assigned count) =
        record {
          well_formed = none_well_formed (bases_of m) count;
          same = λ F gF s. none_kept (replicate count Any)
              F count (any_long count) gF.long;
        } in
        let start = entry_labelled here (replicate count Any) [] (none_assigned count) table none
        (entry_parameters m owner f) (entries_well_formed m owner f) in
        let body = suite_labelled here (return_type m f) (returned_well_formed m f) start.table
        (names_entered [] (entry_parameters m owner f)) _ start.is_table start.by_names f.body in
        let params = params_labelled m (receiver owner) f.params in
        let end = returns_labelled (bases_of m) (return_type m f) body.out (smaller m) (returned_well_formed m f) in
        record {
          labels = record {
            params = params.labels;
            declared = body.table;
            body = body.labels;
            out = body.out;
            completing = end.0;
          };
          lawful = record {
            params = params.lawful;
            each_local = body.is_table.long;
            entry = start.lawful body.table body.same;
            body = body.lawful body.table body.is_table (λ word x a r. refl);
            completing = end.1;
          };
        }

    -- ---- classes

    pub members_labelled : (base : facts.ClassFacts) (c number : ℕ) (before : List (List ℕ)) (ms : List Member)
        → MembersLabelled m constants base c number before ms
    members_labelled base c number before [] = record { labels = tt; lawful = tt }
    members_labelled base c number before (field_member d ∷ ms) =
        let q = default_labelled (bases_of m) (binds_field base before d.name.text) d.default
        (read_ann m (bases_of m) d.annotation) (smaller m) (read_ann_well_formed m (bases_of m) (smaller m)
        d.annotation) in
        let r = members_labelled base c number (d.name.text ∷ before) ms in
        record {
          labels = record { default = q.flows; rest = r.labels };
          lawful =
              record { default = q.lawful; others = r.lawful };
        }
    members_labelled base c number before (method_member d ∷ ms) =
        let q = function_labelled (owners.Method c number) d in
        let r = members_labelled base c (suc number) (d.name.text ∷ before) ms in
        record {
          labels = record { method = q.labels; rest = r.labels };
          lawful =
              record { method = q.lawful; others = r.lawful };
        }
