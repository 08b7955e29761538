-- The lawful labelling of the module whose loop rebinds a narrowed parameter, with the error in the loop, and its run.
use Rattle.std.proofs.Common.{[], ◌∷◌, refl}
use Rattle.std.specs.Prelude.{Some, None}
use Rattle.pc_tree.specs.declared.code.Code.TheVariants.{E13, E20}
use Rattle.pc_scope.specs.Reserved.{builtin_of}
use Rattle.pc_types.specs.Tree.{Int, Bool, NoneType, Any, Union}
use Rattle.pc_types.specs.Below.{left, right, object}
use Rattle.pc_class.specs.Bases.{bases_of}
use Rattle.pc_class.specs.Facts.{classes_of}
use Rattle.pc_flow.specs.Environment.{Env}
use Rattle.pc_rules.specs.Operations.{clean, in_error}
use Rattle.pc_rules.specs.Context.{static}
use Rattle.pc_rules.specs.Signatures.{signatures_of}
use Rattle.pc_module_rules.specs.Modules.{Labelling, IsLawful, HasLabelling, may_complete}
use Rattle.pc_machine.specs.Runs.{Run}
use Rattle.pc_sound.specs.Examples.{FindsJust}
use Rattle.pc_sound.specs.LoopExample.{program, findings, events, end}
use Rattle.pc_sound.proofs.Examples.ExampleFindings.{quiet_flow, with_types, no_classes_listed, finds_just}
use Rattle.pc_sound.proofs.Examples.ExampleRuns.{runs_plainly}

abbrev wide : Env
wide = Some (Union Int NoneType) ∷ []

labels : Labelling program
labels = record {
  first = record {
    params = record { default = []; rest = tt };
    declared = Union Int NoneType ∷ [];
    body = record {
      first = record {
        branches = record {
          condition = record { here = clean Bool; operand = clean (Union Int NoneType) };
          body = record { first = record { value = tt; flows = quiet_flow NoneType Any ∷ [] }; behind = tt };
          out = None;
          rest = tt;
        };
        last = Some Int ∷ [];
        otherwise = tt;
        out = Some (Some Int ∷ []);
      };
      behind = record {
        env = Some Int ∷ [];
        rest = record {
          first = record {
            head = wide;
            condition = clean Bool;
            body = record {
              first = record { here = in_error E13; left = clean (Union Int NoneType); right = clean Int };
              behind = record {
                env = wide;
                rest = record {
                  first = record {
                    value = clean NoneType;
                    target = tt;
                    flows = quiet_flow NoneType (Union Int NoneType)
                        ∷ [];
                  };
                  behind = record { env = Some NoneType ∷ []; rest = tt };
                };
              };
            };
            out = Some (Some NoneType ∷ []);
          };
          behind = record { env = wide; rest = tt };
        };
      };
    };
    out = Some wide;
    completing = None;
  };
  rest = record {
    first = record {
      params = tt;
      declared = [];
      body = record {
        first = record {
          here = clean Any;
          callee = clean Any;
          second = None;
          arguments = record { first = clean Int; flows = quiet_flow Int (Union Int NoneType) ∷ []; rest = tt };
          keywords = tt;
        };
        behind = record { env = []; rest = tt };
      };
      out = Some [];
      completing = None;
    };
    rest = tt;
  };
}

lawful : IsLawful program labels
unfolding labels builtin_of bases_of classes_of signatures_of
lawful = (
  record {
    params = record { default = refl; rest = tt };
    each_local = refl;
    entry = (refl, tt);
    body = (
      record {
        branches = record {
          condition = record { operand = refl; here = refl };
          body = (((with_types (static object), tt), refl), tt, refl);
          others = refl;
        };
        otherwise = refl;
        after = refl;
      },
      (
        record {
          head = refl;
          condition = refl;
          body = (
            (record { left = refl; right = refl; here = refl }, refl),
            (
              record {
                after = Some NoneType ∷ [];
                assignment = record {
                  value = refl;
                  at_first = tt;
                  flow =
                      (with_types (static right), tt);
                  after_is = refl;
                };
                is = refl;
              },
              refl,
            ),
          );
          after = refl;
        },
        refl,
      ),
    );
    completing = may_complete object;
  },
  (
    record {
      params = tt;
      each_local = refl;
      entry = tt;
      body = (
        (
          record {
            value = in_error E20;
            lawful = refl;
            callee = refl;
            arguments = record { first = refl; flows = (with_types (static left), tt); rest = tt };
            keywords = tt;
            here = refl;
            second = refl;
          },
          refl,
        ),
        refl,
      );
      completing = may_complete object;
    },
    tt,
  ),
)

pub loop_labelled : HasLabelling program
loop_labelled = record { labels = labels; lawful = lawful }

pub loop_found : FindsJust program findings
unfolding labels builtin_of bases_of classes_of signatures_of
loop_found = finds_just program refl labels (no_classes_listed program refl refl) lawful

pub loop_runs : Run program events end
loop_runs = runs_plainly program 40 events end refl (λ rest. (refl, refl))
