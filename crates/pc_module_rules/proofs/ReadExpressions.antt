-- A walk reads off an expression its lawful labels, and off the arguments of a call of `range` theirs, whether types
-- are kept or not.
use Rattle.std.proofs.Common.{◌≡◌, List, [], ◌∷◌, Option, sym, ap}
use Rattle.std.specs.Prelude.{Bool as Test}
use Rattle.pc_source.specs.declared.place.Place.{Place}
use Rattle.pc_tree.specs.Tree.{Name, Expr, Exprs, Keywords, name, call}
use Rattle.pc_types.specs.Tree.{Tree, Int, Object}
use Rattle.pc_types.specs.Computed.{static_test, assignable_test}
use Rattle.pc_flow.specs.Environment.{Env}
use Rattle.pc_flow.specs.WellFormed.{AreWellFormed, IsWellFormedEnv, IsWellFormedIfAny}
use Rattle.pc_rules.specs.Calls.{CallOffer, arguments_given, positional_seat, named_seat, range_offers, range_signature}
use Rattle.pc_rules.specs.Labels.{Labels, whole_label}
use Rattle.pc_rules.specs.Lawful.{Lawful}
use Rattle.pc_rules.specs.Computed.Expressions.{labels_of}
use Rattle.pc_rules.specs.Computed.Findings.{notes_under}
use Rattle.pc_rules.specs.Computed.Standing.{Standing, label_in, finds_in, items_in, keywords_in}
use Rattle.pc_rules.proofs.One.{one, items_one, keywords_one}
use Rattle.pc_rules.proofs.WellFormed.{int_well_formed, object_well_formed}
use Rattle.pc_rules.proofs.Called.{CallsWellFormed, builtin_well_formed, called_well_formed, named_well_formed}
use Rattle.pc_rules.proofs.Called.{positional_well_formed}
use Rattle.pc_rules.proofs.ComputedFlows.{are_tests}
use Rattle.pc_rules.proofs.ComputedLawful.{labels_are_lawful, items_lawful, keywords_lawful}
use Rattle.pc_module_rules.specs.Statements.{LawfulRange}
use Rattle.pc_module_rules.specs.Laws.Labellings.{Surroundings}
use Rattle.pc_module_rules.specs.Laws.Walks.{EnvFits}
use Rattle.pc_module_rules.specs.Computed.Statements.{DeclaredTypes, type_table}
use Rattle.pc_module_rules.proofs.WalkedExpressions.{told}
use Rattle.pc_module_rules.proofs.WalkedTables.{types_well_formed}

module _ (keeps : Test) (around : Surroundings) (declared : List Tree) (table : DeclaredTypes)
    (kt : IsWellFormedEnv around.context.bases table) (env : Env) (h : EnvFits around declared table env) where
  open around use {whole as m, context as ctx, context_well_formed as ck}

  abbrev at_env : Standing
  at_env = record { context = ctx; declared = type_table table; env = env; keeps = keeps }

  ds : AreWellFormed ctx.bases (type_table table)
  ds = types_well_formed ctx.bases table kt

  -- the notes in an expression are those under its lawful labels
  pub found_is : (want : Option Tree) → IsWellFormedIfAny ctx.bases want → (e : Expr) (labels : Labels e)
      → Lawful ctx declared env want e labels → finds_in at_env want e ≡ notes_under keeps e labels
  unfolding finds_in
  found_is want kw e labels l =
      let computed = labels_of ctx (type_table table) env want e in
      let k = labels_are_lawful ctx (type_table table) env want e ck ds h.well_formed kw in
      ap (notes_under keeps e) (sym (one ctx declared (type_table table) env h.same want e labels computed l k.0))

  -- the walk reads the label that is lawful
  pub label_is : (want : Option Tree) → IsWellFormedIfAny ctx.bases want → (e : Expr) (labels : Labels e)
      → Lawful ctx declared env want e labels → label_in at_env want e ≡ whole_label e labels
  unfolding label_in
  label_is want kw e labels l = (told around declared table kt env h want kw e labels l).label

  -- a call of `range`
  module _ (p : Place) (n : Name) (args : Exprs) (kws : Keywords) where
    abbrev offers : List CallOffer
    offers = range_offers (arguments_given args kws)

    calls : CallsWellFormed ctx.bases offers
    calls = (
      called_well_formed ctx.bases (arguments_given args kws)
          range_signature (builtin_well_formed ctx.bases (Int ∷ []) Object (int_well_formed ctx.bases, tt)
          (object_well_formed ctx.bases)),
      tt,
    )

    -- the labels read of its arguments, by position and by name, are those that are lawful
    pub record RangeRead (labels : Labels (call p (name n) args kws)) : Type 0 where
      pub by_position : labels.arguments ≡ items_in at_env (positional_seat offers) args
      pub by_name : labels.keywords ≡ keywords_in at_env (named_seat offers) [] kws

    pub range_read : (labels : Labels (call p (name n) args kws))
        → LawfulRange m ctx declared env (name n) args kws p labels → RangeRead labels
    range_read labels l =
        let tests = are_tests ctx.bases ck.smaller in
        let seat = positional_seat offers in
        let named = named_seat offers in
        let a = items_lawful ctx (type_table table) ck ds (static_test ctx.bases) (assignable_test ctx.bases) tests env
        h.well_formed seat (positional_well_formed ctx.bases offers calls) args in
        let k = keywords_lawful ctx (type_table table) ck ds (static_test ctx.bases) (assignable_test ctx.bases) tests
        env h.well_formed named (named_well_formed ctx.bases offers calls) [] kws in
        record {
          by_position = items_one ctx declared (type_table table) env h.same seat args labels.arguments
              (items_in at_env seat args) l.arguments a.lawful;
          by_name = keywords_one ctx declared (type_table table) env h.same named [] kws labels.keywords
              (keywords_in at_env named [] kws) l.keywords k.lawful;
        }
