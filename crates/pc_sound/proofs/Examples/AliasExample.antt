-- The lawful labelling of the module that passes one list as three types, its two findings, and its run.
use Rattle.std.proofs.Common.{[], ◌∷◌, refl}
use Rattle.std.specs.Prelude.{Some, None}
use Rattle.pc_tree.specs.declared.code.Code.TheVariants.{A1, E12, E20}
use Rattle.pc_scope.specs.Reserved.{builtin_of}
use Rattle.pc_types.specs.Tree.{Tree, Int, Str, Any, Object, ListOf, Union}
use Rattle.pc_types.specs.Below.{Bases, Static, same, object}
use Rattle.pc_types.specs.Assignable.{Assignable, Materializes, any, int, str, list, union}
use Rattle.pc_types.proofs.Structural.{Sub, s_list, s_both, sub_of}
use Rattle.pc_class.specs.Bases.{bases_of}
use Rattle.pc_class.specs.Facts.{classes_of}
use Rattle.pc_flow.specs.Environment.{Env}
use Rattle.pc_rules.specs.Operations.{clean, in_error}
use Rattle.pc_rules.specs.Context.{static, dynamic, wrong}
use Rattle.pc_rules.specs.Signatures.{signatures_of}
use Rattle.pc_module_rules.specs.Modules.{Labelling, IsLawful, HasLabelling, may_complete}
use Rattle.pc_machine.specs.Runs.{Run}
use Rattle.pc_sound.specs.Examples.{FindsJust}
use Rattle.pc_sound.specs.AliasExample.{program, findings, events, end}
use Rattle.pc_sound.proofs.Examples.ExampleFindings.{quiet_flow, with_types, no_classes_listed, finds_just}
use Rattle.pc_sound.proofs.Examples.ExampleRuns.{runs_plainly}

-- ---- the three flows

no_object_is_int : {bases : Bases} → Sub bases Object Int → ⊥
no_object_is_int h = elim h [ ]

no_text_is_int : {bases : Bases} → Sub bases Str Int → ⊥
no_text_is_int h = elim h [ ]

not_static_to_any : (bases : Bases) → Static bases (ListOf Int) (ListOf Any) → ⊥
not_static_to_any bases h = go (sub_of h)
  where
    go : Sub bases (ListOf Int) (ListOf Object) → ⊥
    go (s_list to fro) = no_object_is_int fro

assignable_to_any : (bases : Bases) → Assignable bases (ListOf Int) (ListOf Any)
assignable_to_any bases = record {
  filled_left = ListOf Int;
  filled_right = ListOf Int;
  fills_left = list int;
  fills_right = list (any tt);
  is_below = same;
}

wider_items : (bases : Bases) (s t : Tree) → Materializes (ListOf Int) s → Materializes (ListOf (Union Int Str)) t → Sub bases s t → ⊥
wider_items bases _ _ (list int) (list (union int str)) (s_list to (s_both whole other)) = no_text_is_int other

not_assignable : (bases : Bases) → Assignable bases (ListOf Int) (ListOf (Union Int Str)) → ⊥
not_assignable bases h = wider_items bases h.filled_left h.filled_right h.fills_left h.fills_right (sub_of h.is_below)

-- ---- the labels

-- the local `v`
abbrev held : Env
held = Some (ListOf Int) ∷ []

labels : Labelling program
labels = record {
  first = record {
    params = record { default = []; rest = tt };
    declared = ListOf (Union Int Str) ∷ [];
    body = record { first = tt; behind = record { env = Some (ListOf (Union Int Str)) ∷ []; rest = tt } };
    out = Some (Some (ListOf (Union Int Str)) ∷ []);
    completing = None;
  };
  rest = record {
    first = record {
      params = record { default = []; rest = tt };
      declared = ListOf Any ∷ [];
      body = record { first = tt; behind = record { env = Some (ListOf Any) ∷ []; rest = tt } };
      out = Some (Some (ListOf Any) ∷ []);
      completing = None;
    };
    rest = record {
      first = record {
        params = record { default = []; rest = tt };
        declared = Any ∷ [];
        body = record { first = tt; behind = record { env = Some Any ∷ []; rest = tt } };
        out = Some (Some Any ∷ []);
        completing = None;
      };
      rest = record {
        first = record {
          params = tt;
          declared = ListOf Int ∷ [];
          body = record {
            first = record {
              value = record { here = clean (ListOf Int); items = record { first = clean Int; flows = []; rest = tt } };
              target = tt;
              flows = quiet_flow (ListOf Int) (ListOf Int) ∷ [];
            };
            behind = record {
              env = held;
              rest = record {
                first = record {
                  here = clean Any;
                  callee = clean Any;
                  second = None;
                  arguments = record {
                    first = clean (ListOf Int);
                    flows = record { from = ListOf Int; into = ListOf (Union Int Str); code = Some E12 } ∷ [];
                    rest = tt;
                  };
                  keywords = tt;
                };
                behind = record {
                  env = held;
                  rest = record {
                    first = record {
                      here = clean Any;
                      callee = clean Any;
                      second = None;
                      arguments = record {
                        first = clean (ListOf Int);
                        flows = record { from = ListOf Int; into = ListOf Any; code = Some A1 } ∷ [];
                        rest = tt;
                      };
                      keywords = tt;
                    };
                    behind = record {
                      env = held;
                      rest = record {
                        first = record {
                          here = clean Any;
                          callee = clean Any;
                          second = None;
                          arguments = record {
                            first = clean (ListOf Int);
                            flows = quiet_flow (ListOf Int) Any ∷ [];
                            rest = tt;
                          };
                          keywords = tt;
                        };
                        behind = record { env = held; rest = tt };
                      };
                    };
                  };
                };
              };
            };
          };
          out = Some held;
          completing = None;
        };
        rest = tt;
      };
    };
  };
}

lawful : IsLawful program labels
unfolding labels builtin_of bases_of classes_of signatures_of
lawful = (
  record {
    params = record { default = refl; rest = tt };
    each_local = refl;
    entry = (refl, tt);
    body = (refl, refl);
    completing = may_complete object;
  },
  (
    record {
      params = record { default = refl; rest = tt };
      each_local = refl;
      entry = (refl, tt);
      body = (refl, refl);
      completing = may_complete object;
    },
    (
      record {
        params = record { default = refl; rest = tt };
        each_local = refl;
        entry = (refl, tt);
        body =
            (refl, refl);
        completing = may_complete object;
      },
      (
        record {
          params = tt;
          each_local = refl;
          entry = tt;
          body = (
            record {
              after = held;
              assignment = record {
                value = record {
                  items = record { first = refl; flows = tt; rest = tt };
                  here =
                      refl;
                };
                at_first = refl;
                flow = (with_types (static same), tt);
                after_is = refl;
              };
              is = refl;
            },
            (
              (
                record {
                  value = in_error E20;
                  lawful = refl;
                  callee = refl;
                  arguments =
                      record { first = refl; flows = (with_types (wrong (not_assignable [])), tt); rest = tt };
                  keywords =
                      tt;
                  here = refl;
                  second = refl;
                },
                refl,
              ),
              (
                (
                  record {
                    value = in_error E20;
                    lawful = refl;
                    callee = refl;
                    arguments =
                        record {
                          first = refl;
                          flows = (
                            with_types (dynamic (not_static_to_any []) (assignable_to_any [])),
                            tt,
                          );
                          rest = tt;
                        };
                    keywords = tt;
                    here = refl;
                    second = refl;
                  },
                  refl,
                ),
                (
                  (
                    record {
                      value = in_error E20;
                      lawful = refl;
                      callee = refl;
                      arguments =
                          record { first = refl; flows = (with_types (static object), tt); rest = tt };
                      keywords = tt;
                      here = refl;
                      second = refl;
                    },
                    refl,
                  ),
                  refl,
                ),
              ),
            ),
          );
          completing = may_complete object;
        },
        tt,
      ),
    ),
  ),
)

pub alias_labelled : HasLabelling program
alias_labelled = record { labels = labels; lawful = lawful }

pub alias_found : FindsJust program findings
unfolding labels builtin_of bases_of classes_of signatures_of
alias_found = finds_just program refl labels (no_classes_listed program refl refl) lawful

pub alias_runs : Run program events end
alias_runs = runs_plainly program 40 events end refl (λ rest. (refl, refl))
