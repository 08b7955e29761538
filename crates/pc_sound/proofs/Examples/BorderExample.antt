-- The module with a function of two lists: its labelling, the run of its items, and the border's answer to three calls.
use Rattle.std.proofs.Common.{◌≡◌, [], ◌∷◌, refl, inl, inr}
use Rattle.std.specs.Prelude.{◌⊎◌, Some, None}
use Rattle.pc_scope.specs.Reserved.{builtin_of}
use Rattle.pc_types.specs.Tree.{Int, NoneType, ListOf, Union}
use Rattle.pc_types.specs.Below.{object}
use Rattle.pc_class.specs.Bases.{bases_of}
use Rattle.pc_class.specs.Facts.{classes_of}
use Rattle.pc_flow.specs.Environment.{Env}
use Rattle.pc_rules.specs.Signatures.{signatures_of}
use Rattle.pc_module_rules.specs.Modules.{Labelling, IsLawful, may_complete}
use Rattle.pc_value.specs.Value.{Out, Gives}
use Rattle.pc_machine.specs.State.{State, a_function, nothing_bound}
use Rattle.pc_machine.specs.Free.{Step, ◌>>=◌, comes, free}
use Rattle.pc_machine.specs.Evaluation.{make_function, exec_items}
use Rattle.pc_machine.specs.Runs.{free_parts}
use Rattle.pc_sound.specs.Examples.{FindsJust}
use Rattle.pc_sound.specs.Silent.{HasNoSilentError}
use Rattle.pc_sound.specs.Sound.{HasEvaluatedListed}
use Rattle.pc_sound.specs.Loading.{EndsLoaded}
use Rattle.pc_sound.specs.OutsideCalls.{CanBeCalled}
use Rattle.pc_sound.specs.BorderExample.{program, f, main, made_f, made_main, loaded, first_and_second, first_twice}
use Rattle.pc_sound.specs.BorderExample.{list_and_text, one_each}
use Rattle.pc_tree.proofs.Among.{none_among}
use Rattle.pc_sound.proofs.Examples.ExampleFindings.{no_classes_listed, finds_just}
use Rattle.pc_sound.proofs.Modules.Loading.{loading_is_sound}

-- ---- the labels

-- the parameters of `f`
abbrev held : Env
held = Some (ListOf Int) ∷ Some (ListOf (Union Int NoneType)) ∷ []

labels : Labelling program
labels = record {
  first = record {
    params = record { default = []; rest = record { default = []; rest = tt } };
    declared = ListOf Int ∷ ListOf (Union Int NoneType) ∷ [];
    body = record { first = tt; behind = record { env = held; rest = tt } };
    out = Some held;
    completing = None;
  };
  rest = record {
    first = record {
      params = tt;
      declared = [];
      body = record { first = tt; behind = record { env = []; rest = tt } };
      out = Some [];
      completing = None;
    };
    rest = tt;
  };
}

lawful : IsLawful program labels
unfolding labels builtin_of bases_of classes_of signatures_of
lawful = (
  record {
    params = record { default = refl; rest = record { default = refl; rest = tt } };
    each_local = refl;
    entry = (refl, (refl, tt));
    body = (refl, refl);
    completing = may_complete object;
  },
  (
    record { params = tt; each_local = refl; entry = tt; body = (refl, refl); completing = may_complete object },
    tt,
  ),
)

found : FindsJust program []
unfolding labels builtin_of bases_of classes_of signatures_of
found = finds_just program refl labels (no_classes_listed program refl refl) lawful

pub clean : HasNoSilentError program
clean finding is silent = none_among finding ((found finding).0 is)

-- ---- the run of the items

-- a step without events, and then another one
follows : {A B : Type 0} (first : Step A) (next : A → Step B) (s middle s' : State) (a : A) (out : Out B)
    → first s [] (Gives a) middle → next a middle [] out s' → (first >>= next) s [] out s'
follows first next s middle s' a out p q = inl (record {
  value = a;
  middle = middle;
  early = [];
  late = [];
  before = p;
  after = q;
  both = refl;
})

quietly : {A : Type 0} (a : A) (s : State) → comes (Gives a) s [] (Gives a) s
quietly a s = record { is = refl; quiet = refl; same = refl }

-- the state between the two items
abbrev between : State
between = record nothing_bound { globals = record { name = f.name.text; is = a_function made_f } ∷ [] }

f_made : make_function Step free f nothing_bound [] (Gives made_f) nothing_bound
f_made = follows _ _ nothing_bound nothing_bound nothing_bound made_f.parameters _
    (follows _ _ nothing_bound nothing_bound nothing_bound None _ (quietly _ nothing_bound)
    (follows _ _ nothing_bound nothing_bound nothing_bound _ _
    (follows _ _ nothing_bound nothing_bound nothing_bound None _ (quietly _ nothing_bound)
    (follows _ _ nothing_bound nothing_bound nothing_bound [] _ (quietly _ nothing_bound) (quietly _ nothing_bound)))
    (quietly _ nothing_bound)))
    (quietly _ nothing_bound)

main_made : make_function Step free main between [] (Gives made_main) between
main_made = follows _ _ between between between [] _ (quietly _ between) (quietly _ between)

items_run : exec_items Step free (free_parts 0) program.imports_dataclass program.items nothing_bound []
    (Gives tt) loaded
items_run = follows _ _ nothing_bound between loaded tt _
    (follows _ _ nothing_bound nothing_bound between made_f _ f_made
    (record { is = refl; quiet = refl; after = refl }))
    (follows _ _ between loaded loaded tt _
    (follows _ _ between between loaded made_main _ main_made (record { is = refl; quiet = refl; after = refl }))
    (quietly tt loaded))

pub ready : CanBeCalled program loaded
ready = go (loading_is_sound program clean labels lawful 0 [] (Gives tt) loaded items_run)
  where
    go : HasEvaluatedListed program [] ⊎ EndsLoaded program labels (Gives tt) loaded → CanBeCalled program loaded
    go (inl h) = absurd (none_among h.finding.place h.event)
    go (inr e) = record { labels = labels; lawful = lawful; typing = e.typing; ready = e.ends }

-- ---- the border

pub fitting : first_and_second ≡ Some one_each
unfolding bases_of classes_of builtin_of
fitting = refl

pub aliased : first_twice ≡ None
unfolding bases_of classes_of builtin_of
aliased = refl

pub other : list_and_text ≡ None
unfolding bases_of classes_of builtin_of
other = refl
