-- The property proved of the types of labels: annotations and displays make such types only, so each dict in them has
-- int or str as its key. Beside it the property asked for: that no test of an instance tests for a class not defined
-- yet, or that each class in them is one of the module's.
use Rattle.std.specs.Prelude.{◌≡◌, ◌<◌, ℕ, List, true, false}
use Rattle.pc_tree.specs.Tree.{Expr, Exprs, Entries, Keywords, name, number, text, truth, nothing, tuple, list, dict}
use Rattle.pc_tree.specs.Tree.{negative, negation, binary, compare, is_none, is_not_none, conjunction, disjunction}
use Rattle.pc_tree.specs.Tree.{attribute, index, call, no_exprs, more_exprs, no_entries, more_entries, no_keywords}
use Rattle.pc_tree.specs.Tree.{more_keywords}
use Rattle.pc_types.specs.Tree.{Tree, Trees, Any, Object, Never, Int, Bool, Str, NoneType, Class, ListOf, DictOf}
use Rattle.pc_types.specs.Tree.{TupleOf, Union, end, more}
use Rattle.pc_types.specs.Normal.{IsKey}
use Rattle.pc_types.specs.Shape.{members}
use Rattle.pc_scope.specs.declared.resolution.NameMeaning.{NameMeaning}
use Rattle.pc_scope.specs.declared.resolution.NameMeaning.TheVariants as meaning
use Rattle.pc_scope.specs.Expressions.{is_instance_test}
use Rattle.pc_rules.specs.Labels.{Labels, ItemsLabels, EntriesLabels, KeywordsLabels, type_of}
use Rattle.pc_rules.specs.Lawful.{early_second}
use Rattle.pc_sound.proofs.Values.UnionMembers.{AllOf}

-- the demands on labels besides the keys of dicts: that tests of an instance come in time, as the soundness law needs
-- it, or that each class is one of so many, as a heap of the module's instances needs it
pub data Asked : Type 0 where
  tests_in_time : Asked
  classes_below : (bound : ℕ) → Asked

-- the demand on a class that a type names
abbrev pub ClassAsked : Asked → ℕ → Type 0
ClassAsked tests_in_time c = Unit {0}
ClassAsked (classes_below bound) c = c < bound

-- the demand on instance tests: this fact, where they are asked to come in time
abbrev pub TestsAsked : Asked → Type 0 → Type 0
TestsAsked tests_in_time A = A
TestsAsked (classes_below bound) A = Unit {0}

module _ (asked : Asked) where
  -- each dict, anywhere in a type, has int or str as its key, and each class is as asked
  abbrev mutual
    pub IsRegular : Tree → Type 0
    IsRegular (Class c) = ClassAsked asked c
    IsRegular (ListOf t) = IsRegular t
    IsRegular (DictOf k v) = IsKey k × IsRegular v
    IsRegular (TupleOf ts) = AreRegular ts
    IsRegular (Union a b) = IsRegular a × IsRegular b
    IsRegular _ = Unit {0}

    -- each part of a tuple is regular
    pub AreRegular : Trees → Type 0
    AreRegular end = Unit {0}
    AreRegular (more t ts) = IsRegular t × AreRegular ts

  -- each class that a name means is as asked
  abbrev pub NamesAsked : (List ℕ → NameMeaning) → Type 0
  NamesAsked resolve = (word : List ℕ) (c : ℕ) → resolve word ≡ meaning.Class c → ClassAsked asked c

  -- the second argument of a test of an instance has no E03, where tests are asked to come in time
  abbrev pub IsPunctual : Expr → (arguments : Exprs) → Keywords → ItemsLabels arguments → Type 0
  IsPunctual callee arguments keywords m = TestsAsked asked (is_instance_test callee arguments keywords ≡ true
      → early_second arguments m ≡ false)

  -- each label of an expression and of its parts is so, and each test of an instance in it
  abbrev mutual
    pub Regular : (e : Expr) → Labels e → Type 0
    Regular (name n) m = IsRegular m.type
    Regular (number p digits) m = IsRegular m.type
    Regular (text p characters) m = IsRegular m.type
    Regular (truth p value) m = IsRegular m.type
    Regular (nothing p) m = IsRegular m.type
    Regular (tuple p items) m = IsRegular m.here.type × ItemsRegular items m.items
    Regular (list p items) m = IsRegular m.here.type × ItemsRegular items m.items
    Regular (dict p entries) m = IsRegular m.here.type × EntriesRegular entries m.entries
    Regular (negative p e) m = IsRegular m.here.type × Regular e m.operand
    Regular (negation p e) m = IsRegular m.here.type × Regular e m.operand
    Regular (binary p operator l r) m = IsRegular m.here.type × (Regular l m.left × Regular r m.right)
    Regular (compare p operator l r) m = IsRegular m.here.type × (Regular l m.left × Regular r m.right)
    Regular (is_none p e) m = IsRegular m.here.type × Regular e m.operand
    Regular (is_not_none p e) m = IsRegular m.here.type × Regular e m.operand
    Regular (conjunction p l r) m = IsRegular m.here.type × (Regular l m.left × Regular r m.right)
    Regular (disjunction p l r) m = IsRegular m.here.type × (Regular l m.left × Regular r m.right)
    Regular (attribute p e field) m = IsRegular m.here.type × Regular e m.object
    Regular (index p e i) m = IsRegular m.here.type × (Regular e m.object × Regular i m.key)
    Regular (call p callee arguments keywords) m = (IsRegular m.here.type
        × IsPunctual callee arguments keywords m.arguments) × (Regular callee m.callee
        × (ItemsRegular arguments m.arguments × KeywordsRegular keywords m.keywords))

    pub ItemsRegular : (es : Exprs) → ItemsLabels es → Type 0
    ItemsRegular no_exprs m = Unit {0}
    ItemsRegular (more_exprs e rest) m = Regular e m.first × ItemsRegular rest m.rest

    pub EntriesRegular : (es : Entries) → EntriesLabels es → Type 0
    EntriesRegular no_entries m = Unit {0}
    EntriesRegular (more_entries key value rest) m = Regular key m.key
        × (Regular value m.value × EntriesRegular rest m.rest)

    pub KeywordsRegular : (es : Keywords) → KeywordsLabels es → Type 0
    KeywordsRegular no_keywords m = Unit {0}
    KeywordsRegular (more_keywords parameter value rest) m = Regular value m.first × KeywordsRegular rest m.rest

  -- the type of an expression
  pub regular_type : (e : Expr) (m : Labels e) → Regular e m → IsRegular (type_of e m)
  regular_type (name n) m h = h
  regular_type (number p digits) m h = h
  regular_type (text p characters) m h = h
  regular_type (truth p value) m h = h
  regular_type (nothing p) m h = h
  regular_type (tuple p items) m h = h.0
  regular_type (list p items) m h = h.0
  regular_type (dict p pairs) m h = h.0
  regular_type (negative p e) m h = h.0
  regular_type (negation p e) m h = h.0
  regular_type (binary p operator l r) m h = h.0
  regular_type (compare p operator l r) m h = h.0
  regular_type (is_none p e) m h = h.0
  regular_type (is_not_none p e) m h = h.0
  regular_type (conjunction p l r) m h = h.0
  regular_type (disjunction p l r) m h = h.0
  regular_type (attribute p e field) m h = h.0
  regular_type (index p e i) m h = h.0
  regular_type (call p callee arguments by_name) m h = h.0.0

  -- the members of a type
  pub regular_members : (t : Tree) → IsRegular t → AllOf IsRegular (members t)
  regular_members Never h = tt
  regular_members (Union a b) h = (h.0, regular_members b h.1)
  regular_members Any h = (h, tt)
  regular_members Object h = (h, tt)
  regular_members Int h = (h, tt)
  regular_members Bool h = (h, tt)
  regular_members Str h = (h, tt)
  regular_members NoneType h = (h, tt)
  regular_members (Class c) h = (h, tt)
  regular_members (ListOf t) h = (h, tt)
  regular_members (DictOf s t) h = (h, tt)
  regular_members (TupleOf ts) h = (h, tt)
