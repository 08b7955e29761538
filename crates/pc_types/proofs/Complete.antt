-- Assignable types meet, head by head.
use Rattle.pc_types.specs.Tree.{Tree, Trees}
use Rattle.pc_types.specs.Below.{Bases}
use Rattle.pc_types.specs.Assignable.{Materializes, FillsEach, any, object, never, int, bool, str, none_type, class, list}
use Rattle.pc_types.specs.Assignable.{dict, tuple, union, none, one, Assignable}
use Rattle.pc_types.proofs.Meets.{Meets, EachMeets, m_from_any, m_to_any, m_never, m_object, m_int, m_bool, m_bool_int}
use Rattle.pc_types.proofs.Meets.{m_str, m_none, m_class, m_list, m_dict, m_tuple, m_both, m_left, m_right, m_end}
use Rattle.pc_types.proofs.Meets.{m_more}
use Rattle.pc_types.proofs.Structural.{Sub, EachSub, s_never, s_object, s_any, s_int, s_bool, s_bool_int, s_str, s_none}
use Rattle.pc_types.proofs.Structural.{s_class, s_list, s_dict, s_tuple, s_both, s_left, s_right, s_end, s_more, sub_of}
use Rattle.pc_types.proofs.Structural.{below_of}

mutual
  meets_of : {bases : Bases} {s t u v : Tree} → Sub bases u v → Materializes s u → Materializes t v → Meets bases s t
  meets_of s_never (any p) g = m_from_any
  meets_of s_never never g = m_never
  meets_of s_object f (any p) = m_to_any
  meets_of s_object f object = m_object
  meets_of s_any (any p) g = m_from_any
  meets_of s_int (any p) g = m_from_any
  meets_of s_int int (any p) = m_to_any
  meets_of s_int int int = m_int
  meets_of s_bool (any p) g = m_from_any
  meets_of s_bool bool (any p) = m_to_any
  meets_of s_bool bool bool = m_bool
  meets_of s_bool_int (any p) g = m_from_any
  meets_of s_bool_int bool (any p) = m_to_any
  meets_of s_bool_int bool int = m_bool_int
  meets_of s_str (any p) g = m_from_any
  meets_of s_str str (any p) = m_to_any
  meets_of s_str str str = m_str
  meets_of s_none (any p) g = m_from_any
  meets_of s_none none_type (any p) = m_to_any
  meets_of s_none none_type none_type = m_none
  meets_of (s_class h) (any p) g = m_from_any
  meets_of (s_class h) class (any p) = m_to_any
  meets_of (s_class h) class class = m_class (below_of (s_class h))
  meets_of (s_list a b) (any p) g = m_from_any
  meets_of (s_list a b) (list f) (any p) = m_to_any
  meets_of (s_list a b) (list f) (list g) = m_list (meets_of a f g) (meets_of b g f)
  meets_of (s_dict a b c d) (any p) g = m_from_any
  meets_of (s_dict a b c d) (dict f h) (any p) = m_to_any
  meets_of (s_dict a b c d) (dict f h) (dict g i) = m_dict (meets_of a f g) (meets_of b g f) (meets_of c h i)
      (meets_of d i h)
  meets_of (s_tuple a) (any p) g = m_from_any
  meets_of (s_tuple a) (tuple f) (any p) = m_to_any
  meets_of (s_tuple a) (tuple f) (tuple g) = m_tuple (each_meets_of a f g)
  meets_of (s_both a b) (any p) g = m_from_any
  meets_of (s_both a b) (union f h) g = m_both (meets_of a f g) (meets_of b h g)
  meets_of (s_left a) f (any p) = m_to_any
  meets_of (s_left a) f (union g h) = m_left (meets_of a f g)
  meets_of (s_right a) f (any p) = m_to_any
  meets_of (s_right a) f (union g h) = m_right (meets_of a f h)

  each_meets_of : {bases : Bases} {ss ts us vs : Trees} → EachSub bases us vs → FillsEach ss us → FillsEach ts vs
      → EachMeets bases ss ts
  each_meets_of s_end none none = m_end
  each_meets_of (s_more a as') (one f fs) (one g gs) = m_more (meets_of a f g) (each_meets_of as' fs gs)

pub meets_from_assignable : {bases : Bases} {s t : Tree} → Assignable bases s t → Meets bases s t
meets_from_assignable a = meets_of (sub_of a.is_below) a.fills_left a.fills_right
