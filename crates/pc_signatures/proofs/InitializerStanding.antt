-- The standing of an initializer, by its context in the program.
use Rattle.std.proofs.Common.{◌≡◌, ℕ, List, [], ap}
use Rattle.std.specs.Prelude.{Bool as Test, false}
use Rattle.pc_tree.specs.Tree.{Module}
use Rattle.pc_scope.specs.declared.resolution.Owner.TheVariants as owners
use Rattle.pc_scope.specs.declared.resolution.NameMeaning.{NameMeaning}
use Rattle.pc_scope.specs.declared.resolution.NameMeaning.TheVariants as meaning
use Rattle.pc_scope.specs.Reserved.{builtin_of}
use Rattle.pc_scope.specs.Resolution.{or_meaning, builtin_meaning, resolve_in_module}
use Rattle.pc_scope.specs.Tables.{Tables, AreTables, meaning_by_tables}
use Rattle.pc_types.specs.Tree.{Tree}
use Rattle.pc_types.specs.Below.{Bases}
use Rattle.pc_class.specs.Bases.{bases_of}
use Rattle.pc_class.specs.Facts.{ClassFacts, classes_of}
use Rattle.pc_flow.specs.Environment.{Env}
use Rattle.pc_rules.specs.Context.{Signature}
use Rattle.pc_rules.specs.Signatures.{signatures_of}
use Rattle.pc_rules.specs.Computed.Signatures.{initial}
use Rattle.pc_rules.specs.Computed.Standing.{Standing}

module _ (m : Module) where
  -- names mean to the module what its tables say
  pub module_names : (t : Tables) → AreTables m t → meaning_by_tables t owners.Module ≡ resolve_in_module m
  module_names t are = λ j text. (ap (λ r. or_meaning (builtin_meaning (builtin_of text)) (or_meaning r meaning.None))
      (are.globals text)) j

  -- the standing of an initializer, part by part
  pub standing_is : (bases : Bases) (classes : List ClassFacts) (functions : List Signature)
      (keeps : Test) (constants types : List Tree) (known number : ℕ) (resolve : List ℕ → NameMeaning) (declared : List Tree)
      (env : Env)
      → bases ≡ bases_of m → classes ≡ classes_of m → functions ≡ signatures_of m → constants ≡ types → known ≡ number
      → resolve ≡ resolve_in_module m → declared ≡ [] → env ≡ []
      → (let k : Standing = record {
        context = record {
          bases = bases;
          classes = classes;
          functions = functions;
          constants = constants;
          known = known;
          in_body = false;
          resolve = resolve;
        };
        declared = declared;
        env = env;
        keeps = keeps;
      } in k) ≡ initial m keeps types number
  standing_is bases classes functions keeps constants types known number resolve declared env b c f t k r d e =
      λ i. record {
        context = record {
          bases = b i;
          classes = c i;
          functions = f i;
          constants = t i;
          known = k i;
          in_body = false;
          resolve = r i;
        };
        declared = d i;
        env = e i;
        keeps = keeps;
      }
