-- The lawful labelling of the module that reads the target of a `for` after the loop, its finding, and its run.
use Rattle.std.proofs.Common.{[], ◌∷◌, refl}
use Rattle.std.specs.Prelude.{Some, None}
use Rattle.pc_tree.specs.declared.code.Code.TheVariants.{E04, E20}
use Rattle.pc_scope.specs.Reserved.{builtin_of}
use Rattle.pc_types.specs.Tree.{Int, NoneType, Any, ListOf}
use Rattle.pc_types.specs.Below.{same, object}
use Rattle.pc_class.specs.Bases.{bases_of}
use Rattle.pc_class.specs.Facts.{classes_of}
use Rattle.pc_flow.specs.Environment.{Env}
use Rattle.pc_rules.specs.Operations.{clean, in_error}
use Rattle.pc_rules.specs.Context.{static}
use Rattle.pc_rules.specs.Signatures.{signatures_of}
use Rattle.pc_module_rules.specs.Modules.{Labelling, IsLawful, HasLabelling, may_complete}
use Rattle.pc_machine.specs.Runs.{Run}
use Rattle.pc_sound.specs.Examples.{FindsJust}
use Rattle.pc_sound.specs.AssignmentExample.{program, findings, events, end}
use Rattle.pc_sound.proofs.Examples.ExampleFindings.{quiet_flow, with_types, no_classes_listed, finds_just}
use Rattle.pc_sound.proofs.Examples.ExampleRuns.{runs_plainly}

-- `xs` is assigned, `x` is not: at the head of the loop, and after it
abbrev outside : Env
outside = Some (ListOf Int) ∷ None ∷ []

-- in the loop both are
abbrev inside : Env
inside = Some (ListOf Int) ∷ Some Int ∷ []

labels : Labelling program
labels = record {
  first = record {
    params = tt;
    declared = ListOf Int ∷ Int ∷ [];
    body = record {
      first = record {
        value = record { here = clean (ListOf Int); items = tt };
        flows =
            quiet_flow (ListOf Int) (ListOf Int) ∷ [];
      };
      behind = record {
        env = outside;
        rest = record {
          first = record {
            iterable = clean (ListOf Int);
            item = clean Int;
            flows = quiet_flow Int Int ∷ [];
            head = outside;
            body = record { first = tt; behind = record { env = inside; rest = tt } };
            out = Some inside;
          };
          behind = record {
            env = outside;
            rest = record {
              first = record {
                here = clean NoneType;
                callee = clean Any;
                second = None;
                arguments = record { first = in_error E04; flows = []; rest = tt };
                keywords = tt;
              };
              behind = record { env = outside; rest = tt };
            };
          };
        };
      };
    };
    out = Some outside;
    completing = None;
  };
  rest = tt;
}

lawful : IsLawful program labels
unfolding labels builtin_of bases_of classes_of signatures_of
lawful = (
  record {
    params = tt;
    each_local = refl;
    entry = tt;
    body = (
      record {
        after = outside;
        binding = record {
          value = record { items = tt; here = refl };
          at_first = refl;
          flow =
              (with_types (static same), tt);
          after_is = refl;
        };
        is = refl;
      },
      (
        record {
          iterable = (refl, refl);
          head = refl;
          inside = inside;
          target = record { at_first = refl; flow = (with_types (static same), tt); inside_is = refl };
          body = (refl, refl);
          after = refl;
        },
        (
          (
            record {
              value = in_error E20;
              lawful = refl;
              callee = refl;
              arguments = record { first = refl; flows = tt; rest = tt };
              keywords = tt;
              here = refl;
              second = refl;
            },
            refl,
          ),
          refl,
        ),
      ),
    );
    completing = may_complete object;
  },
  tt,
)

pub assignment_labelled : HasLabelling program
assignment_labelled = record { labels = labels; lawful = lawful }

pub assignment_found : FindsJust program findings
unfolding labels builtin_of bases_of classes_of signatures_of
assignment_found = finds_just program refl labels (no_classes_listed program refl refl) lawful

pub assignment_runs : Run program events end
assignment_runs = runs_plainly program 40 events end refl (λ rest. (refl, refl))
