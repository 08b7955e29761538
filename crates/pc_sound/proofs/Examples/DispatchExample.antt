-- A method that is overridden twice: its lawful labelling, its findings, and a run.
use Rattle.std.proofs.Common.{◌≡◌, ℕ, zero, suc, [], ◌∷◌, length, All, Contains, refl, subst, sym, ap, ◌∙◌, arith}
use Rattle.std.proofs.Common.{codes}
use Rattle.std.specs.Prelude.{false, take, Some, None, slice_get}
use Rattle.std.specs.List.{AllByRecursion}
use Rattle.std.proofs.lemmas.List.Elements.{All-from_recursion, All-nil}
use Rattle.std.proofs.lemmas.Option.{none-some, same_Some}
use Rattle.pc_source.specs.declared.place.Place.{Place}
use Rattle.pc_tree.specs.declared.code.Code.{Code}
use Rattle.pc_tree.specs.declared.code.Code.TheVariants.{A8, E20}
use Rattle.pc_tree.specs.declared.code.Finding.{Finding}
use Rattle.pc_tree.specs.Code.{finding}
use Rattle.pc_tree.specs.Tree.{FuncDef, method_member, ClassDef, Module}
use Rattle.pc_scope.specs.Reserved.{builtin_of}
use Rattle.pc_scope.specs.Bindings.{classes_in, methods_in}
use Rattle.pc_types.specs.Tree.{Tree, Any, Int, Str, Class}
use Rattle.pc_types.specs.Below.{Bases, Static, same, through, object, base}
use Rattle.pc_types.specs.Assignable.{Assignable, any, int}
use Rattle.pc_types.proofs.Structural.{sub_of}
use Rattle.pc_class.specs.Bases.{bases_of}
use Rattle.pc_class.specs.Facts as facts
use Rattle.pc_class.specs.Facts.{Method, classes_of, method_made}
use Rattle.pc_class.specs.Overrides.{TypeFlow, override_flows, IsGood, IsStatic, Judges, dynamic, overridden}
use Rattle.pc_class.specs.Findings.{IsOverride, ClassFinds, base_class}
use Rattle.pc_rules.specs.Operations.{clean, in_error}
use Rattle.pc_rules.specs.Context.{static}
use Rattle.pc_rules.specs.Signatures.{signatures_of}
use Rattle.pc_module_rules.specs.Modules.{Labelling, IsLawful, HasLabelling, may_complete, leaves}
use Rattle.pc_machine.specs.Runs.{Run}
use Rattle.pc_sound.specs.Examples.{FindsJust}
use Rattle.pc_sound.specs.DispatchExample.{m_of_a, m_of_b, m_of_c, class_a, class_b, class_c, program, findings, events}
use Rattle.pc_sound.specs.DispatchExample.{end}
use Rattle.pc_sound.proofs.Examples.FindingLists.{Listing}
use Rattle.pc_sound.proofs.Examples.ClassFindings.{Overrides, of_classes, classes_listed, judged_static, judged_dynamic}
use Rattle.pc_sound.proofs.Examples.ExampleFindings.{quiet_flow, with_types, finds_just}
use Rattle.pc_sound.proofs.Examples.ExampleRuns.{runs_plainly}

-- ---- the methods against each other

-- the method `m` of a class, whose `x` is of this type
abbrev method : (c number : ℕ) → Place → Tree → Method
method c number place t = record {
  name = codes "m";
  owner = c;
  number = number;
  place = place;
  parameters = record { name = codes "x"; type = t; has_default = false } ∷ [];
  returns = Int;
}

abbrev Fits : Bases → TypeFlow → Type 0
Fits bases f = Assignable bases f.from f.into

int_to_int : (bases : Bases) → Assignable bases Int Int
int_to_int bases = record {
  filled_left = Int;
  filled_right = Int;
  fills_left = int;
  fills_right = int;
  is_below =
      same;
}

good_over : (bases : Bases) (c i d j : ℕ) (p q : Place) (s t : Tree) → Assignable bases s t
    → IsGood bases (method c i p t) (method d j q s)
good_over bases c i d j p q s t h = record {
  shape = refl;
  flows = All-from_recursion (Fits bases) (override_flows (method d j q s) (method c i p t))
      (int_to_int bases, (h, tt));
}

any_to_int : (bases : Bases) → Assignable bases Any Int
any_to_int bases = record {
  filled_left = Int;
  filled_right = Int;
  fills_left = any tt;
  fills_right = int;
  is_below =
      same;
}

any_not_int : (bases : Bases) → ¬ (Static bases Any Int)
any_not_int bases h = elim (sub_of h) [ ]

-- a method that takes an int is not static to one that takes Any
not_static : (bases : Bases) (c i d j : ℕ) (p q : Place) → ¬ (IsStatic bases (method c i p Int) (method d j q Any))
not_static bases c i d j p q h = any_not_int bases (h.flows 1 (record { from = Any; into = Any }) (omega arith))

-- `m` of A, B and C, as their facts say them
abbrev of_a : Method
of_a = method 0 0 m_of_a.name.place Any

abbrev of_b : Method
of_b = method 1 0 m_of_b.name.place Int

abbrev of_c : Method
of_c = method 2 0 m_of_c.name.place Int

b_is_good : (bases : Bases) → All (IsGood bases of_b) (of_a ∷ [])
b_is_good bases = All-from_recursion (IsGood bases of_b) (of_a ∷ [])
    (good_over bases 1 0 0 0 _ _ Any Int (any_to_int bases), tt)

c_is_good : (bases : Bases) → All (IsGood bases of_c) (of_b ∷ of_a ∷ [])
c_is_good bases =
    All-from_recursion (IsGood bases of_c) (of_b ∷ of_a ∷ []) (
      good_over bases 2 0 1 0 _ _ Int Int (int_to_int bases),
      (good_over bases 2 0 0 0 _ _ Any Int (any_to_int bases), tt),
    )

-- ---- the labelling

labels : Labelling program
labels = record {
  first = record {
    method = record {
      params = record { default = []; rest = tt };
      declared = Class 0 ∷ Any ∷ [];
      body = record { first = record { value = clean Int; flows = quiet_flow Int Int ∷ [] }; behind = tt };
      out = None;
      completing = None;
    };
    rest = tt;
  };
  rest = record {
    first = record {
      method = record {
        params = record { default = []; rest = tt };
        declared = Class 1 ∷ Int ∷ [];
        body = record { first = record { value = clean Int; flows = quiet_flow Int Int ∷ [] }; behind = tt };
        out = None;
        completing = None;
      };
      rest = tt;
    };
    rest = record {
      first = record {
        method = record {
          params = record { default = []; rest = tt };
          declared = Class 2 ∷ Int ∷ [];
          body = record {
            first = record {
              value = record { here = clean Int; left = clean Int; right = clean Int };
              flows =
                  quiet_flow Int Int ∷ [];
            };
            behind = tt;
          };
          out = None;
          completing = None;
        };
        rest = tt;
      };
      rest = record {
        first = record {
          params = record { default = []; rest = tt };
          declared = Class 0 ∷ [];
          body = record {
            first = record {
              value = record {
                here = clean Int;
                callee = record { here = clean Any; object = clean (Class 0) };
                second = None;
                arguments = record { first = clean Str; flows = quiet_flow Str Any ∷ []; rest = tt };
                keywords = tt;
              };
              flows = quiet_flow Int Int ∷ [];
            };
            behind = tt;
          };
          out = None;
          completing = None;
        };
        rest = record {
          first = record {
            params = tt;
            declared = [];
            body = record {
              first = record {
                here = clean Int;
                callee = clean Any;
                second = None;
                arguments = record {
                  first = record {
                    here = clean (Class 2);
                    callee = clean Any;
                    second = None;
                    arguments = tt;
                    keywords =
                        tt;
                  };
                  flows = quiet_flow (Class 2) (Class 0) ∷ [];
                  rest = tt;
                };
                keywords = tt;
              };
              behind = record { env = []; rest = tt };
            };
            out = Some [];
            completing = None;
          };
          rest = tt;
        };
      };
    };
  };
}

lawful : IsLawful program labels
unfolding labels builtin_of bases_of classes_of signatures_of
lawful = (
  record {
    method = record {
      params = record { default = refl; rest = tt };
      each_local = refl;
      entry = (refl, (refl, tt));
      body = (((refl, (with_types (static same), tt)), refl), tt, refl);
      completing = leaves;
    };
    others = tt;
  },
  (
    record {
      method = record {
        params = record { default = refl; rest = tt };
        each_local = refl;
        entry = (refl, (refl, tt));
        body = (((refl, (with_types (static same), tt)), refl), tt, refl);
        completing = leaves;
      };
      others = tt;
    },
    (
      record {
        method = record {
          params = record { default = refl; rest = tt };
          each_local = refl;
          entry = (refl, (refl, tt));
          body = (
            ((record { left = refl; right = refl; here = refl }, (with_types (static same), tt)), refl),
            tt,
            refl,
          );
          completing = leaves;
        };
        others = tt;
      },
      (
        record {
          params = record { default = refl; rest = tt };
          each_local = refl;
          entry = (refl, tt);
          body = (
            (
              (
                record {
                  value = record { here = in_error E20; object = clean (Class 0) };
                  lawful = record { object = refl; here = refl };
                  callee = refl;
                  arguments = record { first = refl; flows = (with_types (static object), tt); rest = tt };
                  keywords = tt;
                  here = refl;
                  second = refl;
                },
                (with_types (static same), tt),
              ),
              refl,
            ),
            tt,
            refl,
          );
          completing = leaves;
        },
        (
          record {
            params = tt;
            each_local = refl;
            entry = tt;
            body = (
              (
                record {
                  value = in_error E20;
                  lawful = refl;
                  callee = refl;
                  arguments = record {
                    first = record {
                      value = in_error E20;
                      lawful = refl;
                      callee = refl;
                      arguments = tt;
                      keywords = tt;
                      here = refl;
                      second = refl;
                    };
                    flows = (with_types (static (through (base refl) (base refl))), tt);
                    rest = tt;
                  };
                  keywords = tt;
                  here = refl;
                  second = refl;
                },
                refl,
              ),
              refl,
            );
            completing = may_complete object;
          },
          tt,
        ),
      ),
    ),
  ),
)

pub labelled : HasLabelling program
labelled = record { labels = labels; lawful = lawful }

-- ---- the findings

-- the finding judged of the only member of a class, a method
record Judged (m : Module) (base : facts.ClassFacts) (c : ℕ) (d : FuncDef) (f : Finding) : Type 0 where
  code : Code
  judged : Judges (bases_of m) (overridden base.methods d.name.text) (method_made m c 0 d) (Some code)
  is : f ≡ finding d.name.place code

member_is : {d k : FuncDef} → method_member d ≡ method_member k → d ≡ k
member_is e = cc

only_method : (m : Module) (class : ClassDef) (c : ℕ) (d : FuncDef) (f : Finding) → class.members ≡ method_member d ∷ []
    → IsOverride m class c f → Judged m (base_class m c class) c d f
only_method m class c d f one h =
    go h.at h.method (subst (λ ms. slice_get ms h.at ≡ Some (method_member h.method)) one h.here)
    (subst (λ ms. Judges (bases_of m) (overridden (base_class m c class).methods h.method.name.text)
    (method_made m c (length (methods_in (take h.at ms))) h.method) (Some h.code)) one h.judged) h.is
  where
    go : (at : ℕ) (k : FuncDef) → slice_get (method_member d ∷ []) at ≡ Some (method_member k)
        → Judges (bases_of m) (overridden (base_class m c class).methods k.name.text)
        (method_made m c (length (methods_in (take at (method_member d ∷ [])))) k) (Some h.code)
        → f ≡ finding k.name.place h.code → Judged m (base_class m c class) c d f
    go zero k e judged is =
        let same : d ≡ k = member_is (same_Some _ _ e) in
        record {
          code = h.code;
          judged = subst (λ (x : FuncDef). Judges (bases_of m) (overridden (base_class m c class).methods x.name.text)
              (method_made m c 0 x) (Some h.code)) (sym same) judged;
          is = subst (λ (x : FuncDef). f ≡ finding x.name.place h.code) (sym same) is;
        }
    go (suc at) k e judged is = absurd (none-some _ e)

-- of A nothing is judged, of B and C no other code than A8
none_of_a : (f : Finding) → Judged program (base_class program 0 class_a) 0 m_of_a f → Contains findings f
unfolding builtin_of bases_of classes_of
none_of_a f j = absurd (judged_static (All-nil (IsStatic (bases_of program) of_a)) j.judged)

that_of_b : (f : Finding) → Judged program (base_class program 1 class_b) 1 m_of_b f → Contains findings f
unfolding builtin_of bases_of classes_of
that_of_b f j = (
  0,
  omega arith,
  sym (j.is ∙ ap (finding m_of_b.name.place)
      (judged_dynamic (b_is_good (bases_of program)) j.judged)),
)

that_of_c : (f : Finding) → Judged program (base_class program 2 class_c) 2 m_of_c f → Contains findings f
unfolding builtin_of bases_of classes_of
that_of_c f j = (
  1,
  omega arith,
  sym (j.is ∙ ap (finding m_of_c.name.place)
      (judged_dynamic (c_is_good (bases_of program)) j.judged)),
)

overrides_into : (f : Finding) → Overrides program f → Contains findings f
overrides_into f h = go h.number h.class h.is h.override
  where
    go : (c : ℕ) (class : ClassDef) → slice_get (classes_in program.items) c ≡ Some class → IsOverride program class c f
        → Contains findings f
    go zero class e h = none_of_a f (only_method program class_a 0 m_of_a f refl
        (subst (λ x. IsOverride program x 0 f) (sym (same_Some _ _ e)) h))
    go (suc zero) class e h = that_of_b f (only_method program class_b 1 m_of_b f refl
        (subst (λ x. IsOverride program x 1 f) (sym (same_Some _ _ e)) h))
    go (suc (suc zero)) class e h = that_of_c f (only_method program class_c 2 m_of_c f refl
        (subst (λ x. IsOverride program x 2 f) (sym (same_Some _ _ e)) h))
    go (suc (suc (suc c))) class e h = absurd (none-some _ e)

each_overrides : AllByRecursion (Overrides program) findings
unfolding builtin_of bases_of classes_of
each_overrides = (
  record {
    number = 1;
    class = class_b;
    is = refl;
    override = record {
      at = 0;
      method = m_of_b;
      code = A8;
      here = refl;
      binds = refl;
      judged =
          dynamic (b_is_good (bases_of program)) (λ h. not_static (bases_of program) 1 0 0 0 _ _
          (h 0 of_a (omega arith)));
      is = refl;
    };
  },
  (
    record {
      number = 2;
      class = class_c;
      is = refl;
      override = record {
        at = 0;
        method = m_of_c;
        code = A8;
        here = refl;
        binds = refl;
        judged =
            dynamic (c_is_good (bases_of program)) (λ h. not_static (bases_of program) 2 0 0 0 _ _
            (h 1 of_a (omega arith)));
        is = refl;
      };
    },
    tt,
  ),
)

-- no class lacks its base, and there are no fields
nothing_else : of_classes program ≡ []
unfolding builtin_of bases_of classes_of
nothing_else = refl

abbrev of_overrides : Listing (ClassFinds program)
of_overrides = classes_listed program refl nothing_else findings overrides_into each_overrides

-- the findings of classes are all findings
pub found : FindsJust program findings
unfolding labels builtin_of bases_of classes_of signatures_of
found = finds_just program refl labels of_overrides lawful

pub runs : Run program events end
runs = runs_plainly program 40 events end refl (λ rest. (refl, refl))
