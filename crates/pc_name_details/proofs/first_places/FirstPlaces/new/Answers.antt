use Rattle.std.proofs.Common.{ap}
use Rattle.std.specs.BTreeMap.{is_at}
use Rattle.std.specs.Cmp.Lexicographic.{slice_cmp}
use Rattle.std.specs.Map.{lookup}
use Rattle.std.specs.Ordering.{nat_cmp}
use Rattle.pc_name_details.proofs.first_places.FirstPlaces.new.Goals as goal

pub returns : goal.returns
returns c = record { at = λ word. ap (lookup (is_at (λ k. slice_cmp nat_cmp word k.now))) c.new.ensures.empty }
