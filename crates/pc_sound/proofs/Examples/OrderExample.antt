-- A constant that reads a later one: its lawful labelling, its findings, and its run.
use Rattle.std.proofs.Common.{List, [], ◌∷◌, refl, arith}
use Rattle.std.specs.Prelude.{Some, None}
use Rattle.pc_tree.specs.declared.code.Code.TheVariants.{E03, E20}
use Rattle.pc_tree.specs.declared.code.Finding.{Finding}
use Rattle.pc_scope.specs.Reserved.{builtin_of}
use Rattle.pc_types.specs.Tree.{Any, Int, NoneType}
use Rattle.pc_types.specs.Below.{same, object}
use Rattle.pc_class.specs.Bases.{bases_of}
use Rattle.pc_class.specs.Facts.{classes_of}
use Rattle.pc_rules.specs.Operations.{clean, in_error}
use Rattle.pc_rules.specs.Context.{static}
use Rattle.pc_rules.specs.Signatures.{signatures_of}
use Rattle.pc_module_rules.specs.Modules.{Labelling, IsLawful, HasLabelling, may_complete}
use Rattle.pc_machine.specs.Runs.{Run}
use Rattle.pc_sound.specs.Examples.{FindsJust}
use Rattle.pc_sound.specs.OrderExample.{program, findings, events, end}
use Rattle.pc_sound.proofs.Examples.ClassFindings.{just_these}
use Rattle.pc_sound.proofs.Examples.ExampleFindings.{quiet_flow, with_types, no_classes_listed, finds_just}
use Rattle.pc_sound.proofs.Examples.ExampleFindings.{module_listed}
use Rattle.pc_sound.proofs.Examples.ExampleRuns.{runs_plainly}

labels : Labelling program
labels = record {
  first = record { value = in_error E03; flows = quiet_flow Any Int ∷ [] };
  rest = record {
    first = record { value = clean Int; flows = quiet_flow Int Int ∷ [] };
    rest = record {
      first = record {
        params = tt;
        declared = [];
        body = record {
          first = record {
            here = clean NoneType;
            callee = clean Any;
            second = None;
            arguments = record { first = clean Int; flows = []; rest = tt };
            keywords = tt;
          };
          behind = record { env = []; rest = tt };
        };
        out = Some [];
        completing = None;
      };
      rest = tt;
    };
  };
}

lawful : IsLawful program labels
unfolding labels builtin_of bases_of classes_of signatures_of
lawful = (
  record { value = refl; flow = (with_types refl, tt) },
  (
    record { value = refl; flow = (with_types (static same), tt) },
    (
      record {
        params = tt;
        each_local = refl;
        entry = tt;
        body = (
          (
            record {
              value = in_error E20;
              lawful = refl;
              callee = refl;
              arguments = record { first = refl; flows = tt; rest = tt };
              keywords = tt;
              here = refl;
              second = refl;
            },
            refl,
          ),
          refl,
        );
        completing = may_complete object;
      },
      tt,
    ),
  ),
)

pub labelled : HasLabelling program
labelled = record { labels = labels; lawful = lawful }

abbrev all_found : List Finding
all_found = (module_listed program refl labels (no_classes_listed program refl refl)).all

-- the finding of scopes and that of the label are one
pub found : FindsJust program findings
unfolding labels builtin_of bases_of classes_of signatures_of
found = just_these program all_found findings (finds_just program refl labels (no_classes_listed program refl refl)
    lawful) ((0, omega arith, refl), ((0, omega arith, refl), tt)) ((0, omega arith, refl), tt)

pub runs : Run program events end
runs = runs_plainly program 2 events end refl (λ rest. (refl, refl))
