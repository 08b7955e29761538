-- The names of a module, item by item: the meaning of each, and the bindings after it.
use Rattle.std.proofs.Common.{◌≡◌, ℕ, suc, ◌+◌, List, [], ◌∷◌, ◌++◌, refl, sym, ap, ◌∙◌, arith}
use Rattle.std.specs.Prelude.{Bool as Test, true, false, if◌then◌else◌, Option, Some, None, slice_get, bytes_eq}
use Rattle.std.proofs.lemmas.Slice.Eq.{bytes_eq-Decides}
use Rattle.pc_tree.specs.Tree.{Constant, ClassDef, FuncDef, Item, constant_item, class_item, def_item, Module}
use Rattle.pc_scope.specs.declared.resolution.Builtin.{Builtin}
use Rattle.pc_scope.specs.declared.resolution.NameMeaning.{NameMeaning}
use Rattle.pc_scope.specs.declared.resolution.NameMeaning.TheVariants as meaning
use Rattle.pc_scope.specs.Reserved.{builtin_of}
use Rattle.pc_scope.specs.Bindings.{constants_in, classes_in, functions_in}
use Rattle.pc_scope.specs.Resolution.{bound_first, or_meaning, local_meaning, builtin_meaning, resolve_in_module}
use Rattle.pc_value.specs.Texts.{same_text}
use Rattle.pc_machine.specs.State.{Global, Globals, GlobalBinding}
use Rattle.pc_machine.specs.Names.{global_by_name}

-- ---- names among the globals

pub bound_more : (word : List ℕ) (globals : Globals) (g : Global) (b : GlobalBinding) → global_by_name word globals
    ≡ Some b → global_by_name word (globals ++ g ∷ []) ≡ Some b
bound_more word [] g b e = absurd (grind (arith, e))
bound_more word (h ∷ rest) g b e = go (same_text h.name word) e (bound_more word rest g b)
  where
    go : (c : Test) → (if c then Some h.is else global_by_name word rest) ≡ Some b
        → (global_by_name word rest ≡ Some b → global_by_name word (rest ++ g ∷ []) ≡ Some b)
        → (if c then Some h.is else global_by_name word (rest ++ g ∷ [])) ≡ Some b
    go true e others = e
    go false e others = others e

pub bound_new : (word : List ℕ) (globals : Globals) (g : Global) → global_by_name word globals ≡ None → g.name ≡ word
    → global_by_name word (globals ++ g ∷ []) ≡ Some g.is
bound_new word [] g e is = ap (λ c. if c then Some g.is else None) ((bytes_eq-Decides g.name word).1 is)
bound_new word (h ∷ rest) g e is = go (same_text h.name word) e (λ f. bound_new word rest g f is)
  where
    go : (c : Test) → (if c then Some h.is else global_by_name word rest) ≡ None
        → (global_by_name word rest ≡ None → global_by_name word (rest ++ g ∷ []) ≡ Some g.is)
        → (if c then Some h.is else global_by_name word (rest ++ g ∷ [])) ≡ Some g.is
    go true e others = absurd (grind (arith, e))
    go false e others = others e

pub bound_other : (word : List ℕ) (globals : Globals) (g : Global) → global_by_name word globals ≡ None
    → bytes_eq g.name word ≡ false → global_by_name word (globals ++ g ∷ []) ≡ None
bound_other word [] g e n = ap (λ c. if c then Some g.is else None) n
bound_other word (h ∷ rest) g e n = go (same_text h.name word) e (λ f. bound_other word rest g f n)
  where
    go : (c : Test) → (if c then Some h.is else global_by_name word rest) ≡ None
        → (global_by_name word rest ≡ None → global_by_name word (rest ++ g ∷ []) ≡ None)
        → (if c then Some h.is else global_by_name word (rest ++ g ∷ [])) ≡ None
    go true e others = absurd (grind (arith, e))
    go false e others = others e

-- ---- lists

pub constants_append : (xs ys : List Item) → constants_in (xs ++ ys) ≡ constants_in xs ++ constants_in ys
constants_append [] ys = refl
constants_append (constant_item p c ∷ xs) ys = ap (λ l. c ∷ l) (constants_append xs ys)
constants_append (class_item p c ∷ xs) ys = constants_append xs ys
constants_append (def_item p f ∷ xs) ys = constants_append xs ys

pub classes_append : (xs ys : List Item) → classes_in (xs ++ ys) ≡ classes_in xs ++ classes_in ys
classes_append [] ys = refl
classes_append (constant_item p c ∷ xs) ys = classes_append xs ys
classes_append (class_item p c ∷ xs) ys = ap (λ l. c ∷ l) (classes_append xs ys)
classes_append (def_item p f ∷ xs) ys = classes_append xs ys

pub functions_append : (xs ys : List Item) → functions_in (xs ++ ys) ≡ functions_in xs ++ functions_in ys
functions_append [] ys = refl
functions_append (constant_item p c ∷ xs) ys = functions_append xs ys
functions_append (class_item p c ∷ xs) ys = functions_append xs ys
functions_append (def_item p f ∷ xs) ys = ap (λ l. f ∷ l) (functions_append xs ys)

-- ---- meanings of names

-- the constant, function or class of a number has the name
pub record ConstantNamed (k f c : ℕ) (items : List Item) (word : List ℕ) (i : ℕ) : Type 0 where
  pub at : ℕ
  pub constant : Constant
  pub behind : i ≡ k + at
  pub is : slice_get (constants_in items) at ≡ Some constant
  pub named : constant.name.text ≡ word

const_inj : (i j : ℕ) → Some (meaning.Const i) ≡ Some (meaning.Const j) → i ≡ j
const_inj i j e = grind arith

func_inj : (i j : ℕ) → Some (meaning.Func i) ≡ Some (meaning.Func j) → i ≡ j
func_inj i j e = grind arith

class_inj : (i j : ℕ) → Some (meaning.Class i) ≡ Some (meaning.Class j) → i ≡ j
class_inj i j e = grind arith

constant_first : (k f c : ℕ) (items : List Item) (word : List ℕ) (i : ℕ) → bound_first k f c items word
    ≡ Some (meaning.Const i) → ConstantNamed k f c items word i
constant_first k f c [] word i e = absurd (grind (arith, e))
constant_first k f c (constant_item p x ∷ rest) word i e = go (bytes_eq x.name.text word) refl e
    (constant_first (suc k) f c rest word i)
  where
    go : (b : Test) → bytes_eq x.name.text word ≡ b → (if b then Some (meaning.Const k) else bound_first (suc k) f c rest
        word) ≡ Some (meaning.Const i) → (bound_first (suc k) f c rest word ≡ Some (meaning.Const i)
        → ConstantNamed (suc k) f c rest word i) → ConstantNamed k f c (constant_item p x ∷ rest) word i
    go true t e others = record {
      at = 0;
      constant = x;
      behind = let h = const_inj k i e in omega arith;
      is = refl;
      named = (bytes_eq-Decides x.name.text word).0 t;
    }
    go false t e others = let h = others e in let b = h.behind in
        record { at = suc h.at; constant = h.constant; behind = omega arith; is = h.is; named = h.named }
constant_first k f c (def_item p x ∷ rest) word i e = go (bytes_eq x.name.text word) e
    (constant_first k (suc f) c rest word i)
  where
    go : (b : Test) → (if b then Some (meaning.Func f) else bound_first k (suc f) c rest word) ≡ Some (meaning.Const i)
        → (bound_first k (suc f) c rest word ≡ Some (meaning.Const i) → ConstantNamed k (suc f) c rest word i)
        → ConstantNamed k f c (def_item p x ∷ rest) word i
    go true e others = absurd (grind (arith, e))
    go false e others = let h = others e in record {
      at = h.at;
      constant = h.constant;
      behind = h.behind;
      is = h.is;
      named = h.named;
    }
constant_first k f c (class_item p x ∷ rest) word i e = go (bytes_eq x.name.text word) e
    (constant_first k f (suc c) rest word i)
  where
    go : (b : Test) → (if b then Some (meaning.Class c) else bound_first k f (suc c) rest word) ≡ Some (meaning.Const i)
        → (bound_first k f (suc c) rest word ≡ Some (meaning.Const i) → ConstantNamed k f (suc c) rest word i)
        → ConstantNamed k f c (class_item p x ∷ rest) word i
    go true e others = absurd (grind (arith, e))
    go false e others = let h = others e in record {
      at = h.at;
      constant = h.constant;
      behind = h.behind;
      is = h.is;
      named = h.named;
    }

pub record FunctionNamed (k f c : ℕ) (items : List Item) (word : List ℕ) (i : ℕ) : Type 0 where
  pub at : ℕ
  pub function : FuncDef
  pub behind : i ≡ f + at
  pub is : slice_get (functions_in items) at ≡ Some function
  pub named : function.name.text ≡ word

function_first : (k f c : ℕ) (items : List Item) (word : List ℕ) (i : ℕ) → bound_first k f c items word
    ≡ Some (meaning.Func i) → FunctionNamed k f c items word i
function_first k f c [] word i e = absurd (grind (arith, e))
function_first k f c (constant_item p x ∷ rest) word i e = go (bytes_eq x.name.text word) e
    (function_first (suc k) f c rest word i)
  where
    go : (b : Test) → (if b then Some (meaning.Const k) else bound_first (suc k) f c rest word) ≡ Some (meaning.Func i)
        → (bound_first (suc k) f c rest word ≡ Some (meaning.Func i) → FunctionNamed (suc k) f c rest word i)
        → FunctionNamed k f c (constant_item p x ∷ rest) word i
    go true e others = absurd (grind (arith, e))
    go false e others = let h = others e in record {
      at = h.at;
      function = h.function;
      behind = h.behind;
      is = h.is;
      named = h.named;
    }
function_first k f c (def_item p x ∷ rest) word i e = go (bytes_eq x.name.text word) refl e
    (function_first k (suc f) c rest word i)
  where
    go : (b : Test) → bytes_eq x.name.text word ≡ b → (if b then Some (meaning.Func f) else bound_first k (suc f) c rest
        word) ≡ Some (meaning.Func i) → (bound_first k (suc f) c rest word ≡ Some (meaning.Func i)
        → FunctionNamed k (suc f) c rest word i) → FunctionNamed k f c (def_item p x ∷ rest) word i
    go true t e others = record {
      at = 0;
      function = x;
      behind = let h = func_inj f i e in omega arith;
      is = refl;
      named = (bytes_eq-Decides x.name.text word).0 t;
    }
    go false t e others = let h = others e in let b = h.behind in
        record { at = suc h.at; function = h.function; behind = omega arith; is = h.is; named = h.named }
function_first k f c (class_item p x ∷ rest) word i e = go (bytes_eq x.name.text word) e
    (function_first k f (suc c) rest word i)
  where
    go : (b : Test) → (if b then Some (meaning.Class c) else bound_first k f (suc c) rest word) ≡ Some (meaning.Func i)
        → (bound_first k f (suc c) rest word ≡ Some (meaning.Func i) → FunctionNamed k f (suc c) rest word i)
        → FunctionNamed k f c (class_item p x ∷ rest) word i
    go true e others = absurd (grind (arith, e))
    go false e others = let h = others e in record {
      at = h.at;
      function = h.function;
      behind = h.behind;
      is = h.is;
      named = h.named;
    }

pub record ClassNamed (k f c : ℕ) (items : List Item) (word : List ℕ) (i : ℕ) : Type 0 where
  pub at : ℕ
  pub class : ClassDef
  pub behind : i ≡ c + at
  pub is : slice_get (classes_in items) at ≡ Some class
  pub named : class.name.text ≡ word

class_first : (k f c : ℕ) (items : List Item) (word : List ℕ) (i : ℕ) → bound_first k f c items word
    ≡ Some (meaning.Class i) → ClassNamed k f c items word i
class_first k f c [] word i e = absurd (grind (arith, e))
class_first k f c (constant_item p x ∷ rest) word i e = go (bytes_eq x.name.text word) e
    (class_first (suc k) f c rest word i)
  where
    go : (b : Test) → (if b then Some (meaning.Const k) else bound_first (suc k) f c rest word) ≡ Some (meaning.Class i)
        → (bound_first (suc k) f c rest word ≡ Some (meaning.Class i) → ClassNamed (suc k) f c rest word i)
        → ClassNamed k f c (constant_item p x ∷ rest) word i
    go true e others = absurd (grind (arith, e))
    go false e others = let h = others e in record {
      at = h.at;
      class = h.class;
      behind = h.behind;
      is = h.is;
      named =
          h.named;
    }
class_first k f c (def_item p x ∷ rest) word i e = go (bytes_eq x.name.text word) e
    (class_first k (suc f) c rest word i)
  where
    go : (b : Test) → (if b then Some (meaning.Func f) else bound_first k (suc f) c rest word) ≡ Some (meaning.Class i)
        → (bound_first k (suc f) c rest word ≡ Some (meaning.Class i) → ClassNamed k (suc f) c rest word i)
        → ClassNamed k f c (def_item p x ∷ rest) word i
    go true e others = absurd (grind (arith, e))
    go false e others = let h = others e in record {
      at = h.at;
      class = h.class;
      behind = h.behind;
      is = h.is;
      named =
          h.named;
    }
class_first k f c (class_item p x ∷ rest) word i e = go (bytes_eq x.name.text word) refl e
    (class_first k f (suc c) rest word i)
  where
    go : (b : Test) → bytes_eq x.name.text word ≡ b → (if b then Some (meaning.Class c) else bound_first k f (suc c) rest
        word) ≡ Some (meaning.Class i) → (bound_first k f (suc c) rest word ≡ Some (meaning.Class i)
        → ClassNamed k f (suc c) rest word i) → ClassNamed k f c (class_item p x ∷ rest) word i
    go true t e others = record {
      at = 0;
      class = x;
      behind = let h = class_inj c i e in omega arith;
      is = refl;
      named =
          (bytes_eq-Decides x.name.text word).0 t;
    }
    go false t e others = let h = others e in let b = h.behind in
        record { at = suc h.at; class = h.class; behind = omega arith; is = h.is; named = h.named }

-- a name that means a class where there are locals means the same class in the module
pub outside_class : (o : Option ℕ) (r : NameMeaning) (i : ℕ) → or_meaning (local_meaning o) r ≡ meaning.Class i → r ≡ meaning.Class i
outside_class None r i e = e
outside_class (Some x) r i e = absurd (grind (arith, e))

-- a name that the module binds is bound first by an item
bound_so : (m : Module) (word : List ℕ) (r : NameMeaning) → ((b : Builtin) → r ≡ meaning.Builtin b → ⊥) → (r ≡ meaning.None → ⊥)
    → resolve_in_module m word ≡ r → bound_first 0 0 0 m.items word ≡ Some r
bound_so m word r not_builtin not_none e = go (builtin_of word) (bound_first 0 0 0 m.items word) refl e
  where
    go : (b : Option Builtin) (o : Option NameMeaning) → bound_first 0 0 0 m.items word ≡ o
        → or_meaning (builtin_meaning b) (or_meaning o meaning.None) ≡ r → bound_first 0 0 0 m.items word ≡ Some r
    go (Some b) o is e = absurd (not_builtin b (sym e))
    go None None is e = absurd (not_none (sym e))
    go None (Some q) is e = is ∙ ap Some e

pub constant_named : (m : Module) (word : List ℕ) (i : ℕ) → resolve_in_module m word ≡ meaning.Const i
    → ConstantNamed 0 0 0 m.items word i
constant_named m word i e = constant_first 0 0 0 m.items word i
    (bound_so m word (meaning.Const i) (λ b f. grind (arith, f)) (λ f. grind (arith, f)) e)

pub function_named : (m : Module) (word : List ℕ) (i : ℕ) → resolve_in_module m word ≡ meaning.Func i
    → FunctionNamed 0 0 0 m.items word i
function_named m word i e = function_first 0 0 0 m.items word i
    (bound_so m word (meaning.Func i) (λ b f. grind (arith, f)) (λ f. grind (arith, f)) e)

pub class_named : (m : Module) (word : List ℕ) (i : ℕ) → resolve_in_module m word ≡ meaning.Class i
    → ClassNamed 0 0 0 m.items word i
class_named m word i e = class_first 0 0 0 m.items word i (bound_so m word (meaning.Class i) (λ b f. grind (arith, f))
    (λ f. grind (arith, f)) e)
