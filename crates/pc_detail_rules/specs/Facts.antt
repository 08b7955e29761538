-- The facts of a module that its tree does not show: the first type and the first flows at each place under its
-- labelling, the types of callees included. Own rule of the profile.
use Rattle.std.specs.Prelude.{◌≡◌, Option, unwrap_or, true}
use Rattle.pc_source.specs.declared.place.Place.{Place}
use Rattle.pc_tree.specs.declared.code.Code.{Code}
use Rattle.pc_tree.specs.declared.code.Code.TheVariants.{A1, E12}
use Rattle.pc_tree.specs.Tree.{Module}
use Rattle.pc_types.specs.Tree.{Tree, Any}
use Rattle.pc_module_rules.specs.FirstAt.{first_type_at, first_flow_at}
use Rattle.pc_module_rules.specs.FlowsOfModules.{coded_flows}
use Rattle.pc_module_rules.specs.Modules.{Labelling}
use Rattle.pc_module_rules.specs.TypesOfModules.{labelled_types}

-- the facts of a module by place: the type at a place, and the two types of the first flow there with a code
pub record Known : Type 0 where
  pub types : Place → Tree
  pub flows : Code → Place → Option (Tree × Tree)

-- the facts of a module under a labelling: the type of the first expression at a place, Any if there is none, and the
-- two types of the first flow there with a code
abbrev pub known_under : (m : Module) → Labelling m → Known
known_under m labels = record {
  types = λ p. unwrap_or (first_type_at p (labelled_types true m labels)) Any;
  flows = λ c p. first_flow_at p (coded_flows c m labels);
}

-- two accounts of what is known tell details the same: the type at each place, and the first wrong and the first
-- dynamic flow there; details ask for no flows with another code
pub record TellTheSame (known other : Known) : Type 0 where
  pub types : (p : Place) → known.types p ≡ other.types p
  pub wrong : (p : Place) → known.flows E12 p ≡ other.flows E12 p
  pub dynamic : (p : Place) → known.flows A1 p ≡ other.flows A1 p
