-- Tests for a list of a parameter of type Any and of one of a union: their lawful labelling, findings, and a run.
use Rattle.std.proofs.Common.{[], ◌∷◌, refl}
use Rattle.std.specs.Prelude.{Some, None}
use Rattle.pc_tree.specs.declared.code.Code.TheVariants.{A7, E15, E20}
use Rattle.pc_scope.specs.Reserved.{builtin_of}
use Rattle.pc_types.specs.Tree.{Tree, Any, Int, Bool, Str, NoneType, ListOf, Union}
use Rattle.pc_types.specs.Below.{same, left, object}
use Rattle.pc_class.specs.Bases.{bases_of}
use Rattle.pc_class.specs.Facts.{classes_of}
use Rattle.pc_flow.specs.Environment.{Env}
use Rattle.pc_rules.specs.Operations.{Label, clean, in_error}
use Rattle.pc_rules.specs.Context.{static}
use Rattle.pc_rules.specs.Signatures.{signatures_of}
use Rattle.pc_module_rules.specs.Modules.{Labelling, IsLawful, HasLabelling, may_complete}
use Rattle.pc_machine.specs.Runs.{Run}
use Rattle.pc_sound.specs.Examples.{FindsJust}
use Rattle.pc_sound.specs.NarrowingExample.{program, findings, events, end}
use Rattle.pc_sound.proofs.Examples.ExampleFindings.{quiet_flow, with_types, no_classes_listed, finds_just}
use Rattle.pc_sound.proofs.Examples.ExampleRuns.{runs_plainly}

-- `list[int] | None` in normal form
abbrev list_or_none : Tree
list_or_none = Union NoneType (ListOf Int)

-- the parameters as `x` and `y` are at some point
abbrev where_are : Tree → Tree → Env
where_are x y = Some x ∷ Some y ∷ []

abbrev test_of_any : Label
test_of_any = record { type = Bool; codes = A7 ∷ [] }

labels : Labelling program
labels = record {
  first = record {
    params = record { default = []; rest = record { default = []; rest = tt } };
    declared = Any ∷ list_or_none ∷ [];
    body = record {
      first = record {
        branches = record {
          condition = record {
            here = test_of_any;
            callee = clean Any;
            second = None;
            arguments = record {
              first = clean Any;
              flows = [];
              rest =
                  record { first = in_error E20; flows = []; rest = tt };
            };
            keywords = tt;
          };
          body = record {
            first = record {
              here = clean NoneType;
              callee = record { here = clean Any; object = clean (ListOf Any) };
              second = None;
              arguments = record { first = clean Str; flows = quiet_flow Str Any ∷ []; rest = tt };
              keywords = tt;
            };
            behind = record { env = where_are (ListOf Any) list_or_none; rest = tt };
          };
          out = Some (where_are (ListOf Any) list_or_none);
          rest = tt;
        };
        last = where_are Any list_or_none;
        otherwise = tt;
        out = Some (where_are Any list_or_none);
      };
      behind = record {
        env = where_are Any list_or_none;
        rest = record {
          first = record {
            branches = record {
              condition = record {
                here = clean Bool;
                callee = clean Any;
                second = None;
                arguments = record {
                  first = clean list_or_none;
                  flows = [];
                  rest =
                      record { first = in_error E20; flows = []; rest = tt };
                };
                keywords = tt;
              };
              body = record {
                first = record {
                  here = clean NoneType;
                  callee = record { here = clean Any; object = clean (ListOf Int) };
                  second = None;
                  arguments = record { first = clean Int; flows = quiet_flow Int Int ∷ []; rest = tt };
                  keywords = tt;
                };
                behind = record { env = where_are Any (ListOf Int); rest = tt };
              };
              out = Some (where_are Any (ListOf Int));
              rest = tt;
            };
            last = where_are Any NoneType;
            otherwise = tt;
            out = Some (where_are Any NoneType);
          };
          behind = record { env = where_are Any list_or_none; rest = tt };
        };
      };
    };
    out = Some (where_are Any list_or_none);
    completing = None;
  };
  rest = record {
    first = record {
      params = tt;
      declared = [];
      body = record {
        first = record {
          here = clean Any;
          callee = clean Any;
          second = None;
          arguments = record {
            first = record { here = clean (ListOf Int); items = record { first = clean Int; flows = []; rest = tt } };
            flows = quiet_flow (ListOf Int) Any ∷ [];
            rest = record { first = clean NoneType; flows = quiet_flow NoneType list_or_none ∷ []; rest = tt };
          };
          keywords = tt;
        };
        behind = record { env = []; rest = tt };
      };
      out = Some [];
      completing = None;
    };
    rest = tt;
  };
}

lawful : IsLawful program labels
unfolding labels builtin_of bases_of classes_of signatures_of
lawful = (
  record {
    params = record { default = refl; rest = record { default = refl; rest = tt } };
    each_local = refl;
    entry = (refl, (refl, tt));
    body = (
      record {
        branches = record {
          condition = record {
            value = in_error E20;
            lawful = refl;
            callee = refl;
            arguments = record { first = refl; flows = tt; rest = record { first = refl; flows = tt; rest = tt } };
            keywords = tt;
            here = refl;
            second = refl;
          };
          body = (
            (
              record {
                value = record { here = in_error E15; object = clean (ListOf Any) };
                lawful = record { object = refl; here = refl };
                callee = refl;
                arguments = record { first = refl; flows = (with_types (static object), tt); rest = tt };
                keywords = tt;
                here = refl;
                second = refl;
              },
              refl,
            ),
            refl,
          );
          others = refl;
        };
        otherwise = refl;
        after = refl;
      },
      (
        record {
          branches = record {
            condition = record {
              value = in_error E20;
              lawful = refl;
              callee = refl;
              arguments = record { first = refl; flows = tt; rest = record { first = refl; flows = tt; rest = tt } };
              keywords = tt;
              here = refl;
              second = refl;
            };
            body = (
              (
                record {
                  value = record { here = in_error E15; object = clean (ListOf Int) };
                  lawful = record { object = refl; here = refl };
                  callee = refl;
                  arguments = record { first = refl; flows = (with_types (static same), tt); rest = tt };
                  keywords = tt;
                  here = refl;
                  second = refl;
                },
                refl,
              ),
              refl,
            );
            others = refl;
          };
          otherwise = refl;
          after = refl;
        },
        refl,
      ),
    );
    completing = may_complete object;
  },
  (
    record {
      params = tt;
      each_local = refl;
      entry = tt;
      body = (
        (
          record {
            value = in_error E20;
            lawful = refl;
            callee = refl;
            arguments = record {
              first = record { items = record { first = refl; flows = tt; rest = tt }; here = refl };
              flows = (with_types (static object), tt);
              rest = record { first = refl; flows = (with_types (static left), tt); rest = tt };
            };
            keywords = tt;
            here = refl;
            second = refl;
          },
          refl,
        ),
        refl,
      );
      completing = may_complete object;
    },
    tt,
  ),
)

pub labelled : HasLabelling program
labelled = record { labels = labels; lawful = lawful }

pub found : FindsJust program findings
unfolding labels builtin_of bases_of classes_of signatures_of
found = finds_just program refl labels (no_classes_listed program refl refl) lawful

pub runs : Run program events end
runs = runs_plainly program 40 events end refl (λ rest. (refl, refl))
